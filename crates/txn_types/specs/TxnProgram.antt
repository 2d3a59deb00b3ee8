-- What a step of a transaction asks, and what it is told.
use Rattle.std.specs.Prelude.{List, [], ◌∷◌, ◌++◌}
use Rattle.txn_data.specs.declared.actor.Actor.TheVariants.{Tablet, Status}
use Rattle.txn_data.specs.declared.fate.Fate.TheVariants as fate
use Rattle.txn_data.specs.declared.fate_of.FateOf.{FateOf}
use Rattle.txn_data.specs.declared.found.Found.{Found}
use Rattle.txn_data.specs.declared.meta.Meta.{Meta}
use Rattle.txn_data.specs.declared.place.Place.{Place}
use Rattle.txn_data.specs.declared.request.Request.TheVariants as request
use Rattle.txn_data.specs.declared.reply.Reply.TheVariants as reply
use Rattle.txn_data.specs.declared.told_refusal.ToldRefusal.{ToldRefusal}
use Rattle.txn_data.specs.declared.told_refusal.ToldRefusal.TheVariants as told_refusal
use Rattle.txn_data.specs.declared.told.Told.{Told}
use Rattle.txn_data.specs.declared.told.Told.TheVariants as told
use Rattle.txn_data.specs.declared.txn_step.TxnStep.{TxnStep}
use Rattle.txn_data.specs.declared.txn_step.TxnStep.TheVariants as step
use Rattle.txn_types.specs.Program.{Program, Done, Asks, refusal_told}

abbrev pub refused : ToldRefusal → Program Told
refused why = Done (told.Refused why)

-- after a reply that no table gives to the request; no run has one
abbrev pub lost : Program Told
lost = refused told_refusal.Memory

-- aborts the transaction, and whatever that is answered tells this refusal
abbrev pub abort_after : Meta → ToldRefusal → Program Told
abort_after meta why = Asks (Status meta.status) (request.Abort meta.txn) (λ r. refused why)

-- a refusal of a write: Conflict, Overlap and LogFault end the transaction
abbrev pub write_refused : Meta → ToldRefusal → Program Told
write_refused meta (told_refusal.Conflict other) = abort_after meta (told_refusal.Conflict other)
write_refused meta (told_refusal.Overlap at) = abort_after meta (told_refusal.Overlap at)
write_refused meta (told_refusal.LogFault actor) = abort_after meta (told_refusal.LogFault actor)
write_refused meta why = refused why

-- resolves each other transaction found, by rising id, until one is Pending; then goes on with the fates
unfoldable pub resolve_all : Meta → List Found → List FateOf → (ToldRefusal → Program Told) → (List FateOf → Program Told) → Program Told
resolve_all meta [] fates stop next = next fates
resolve_all meta (f ∷ fs) fates stop next =
    Asks (Status f.status) (request.Resolve f.txn meta.txn meta.priority) (λ r. elim r [
      | reply.FateIs heard ↦ elim heard [
        | fate.Pending ↦ stop (told_refusal.Conflict f.txn)
        | settled ↦ resolve_all meta fs (fates ++ (record { txn = f.txn; fate = settled }) ∷ []) stop next
      ]
      | reply.Refused why ↦ stop (refusal_told (Status f.status) why)
      | _ ↦ lost
    ])

-- asks which others have a conflicting intent, and resolves them
abbrev pub find_others : Meta → Place → (ToldRefusal → Program Told) → (List FateOf → Program Told) → Program Told
find_others meta place stop next =
    Asks (Tablet place.tablet) (request.ListWrite meta.txn place.path) (λ r. elim r [
      | reply.Others found ↦ resolve_all meta found [] stop next
      | reply.Refused why ↦ stop (refusal_told (Tablet place.tablet) why)
      | _ ↦ lost
    ])

abbrev pub txn_program : TxnStep → Program Told
txn_program (step.Begin meta r) = Asks (Status meta.status) (request.Begin meta.txn meta.isolation meta.priority) (λ answer. elim answer [
  | reply.Begun ↦ Done (told.Began meta.txn r)
  | reply.Refused why ↦ refused (refusal_told (Status meta.status) why)
  | _ ↦ lost
])
txn_program (step.Write meta number place op read seen) = find_others meta place (write_refused meta) (λ fates.
    Asks (Tablet place.tablet) (request.Write meta number place.path op read seen fates) (λ answer. elim answer [
      | reply.Written at ↦ Done (told.Written at)
      | reply.Refused why ↦ write_refused meta (refusal_told (Tablet place.tablet) why)
      | _ ↦ lost
    ]))
txn_program (step.Single meta place op seen) = find_others meta place refused (λ fates.
    Asks (Tablet place.tablet) (request.Single meta.txn place.path op seen fates) (λ answer. elim answer [
      | reply.SingleDone at ↦ Done (told.Committed meta.txn at)
      | reply.Refused why ↦ refused (refusal_told (Tablet place.tablet) why)
      | _ ↦ lost
    ]))
txn_program (step.Commit meta floor tablets) = Asks (Status meta.status) (request.Commit meta.txn floor tablets) (λ answer. elim answer [
  | reply.Committed at ↦ Done (told.Committed meta.txn at)
  | reply.AbortedBy by ↦ refused (told_refusal.Aborted by)
  | reply.Gone ↦ Done (told.Ended meta.txn)
  | reply.Refused why ↦ refused (refusal_told (Status meta.status) why)
  | _ ↦ lost
])
txn_program (step.Abort meta) = Asks (Status meta.status) (request.Abort meta.txn) (λ answer. elim answer [
  | reply.Ended ↦ Done (told.Ended meta.txn)
  | reply.Committed at ↦ Done (told.Committed meta.txn at)
  | reply.Refused why ↦ refused (refusal_told (Status meta.status) why)
  | _ ↦ lost
])

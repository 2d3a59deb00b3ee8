-- What is left of a step at each stage.
use Rattle.std.specs.Prelude.{ℕ, Bool, true, false, List, []}
use Rattle.txn_data.specs.declared.actor.Actor.{Actor}
use Rattle.txn_data.specs.declared.actor.Actor.TheVariants.{Tablet}
use Rattle.txn_data.specs.declared.fate_of.FateOf.{FateOf}
use Rattle.txn_data.specs.declared.found.Found.{Found}
use Rattle.txn_data.specs.declared.meta.Meta.{Meta}
use Rattle.txn_data.specs.declared.op.Op.{Op}
use Rattle.txn_data.specs.declared.place.Place.{Place}
use Rattle.txn_data.specs.declared.request.Request.TheVariants as request
use Rattle.txn_data.specs.declared.reply.Reply.{Reply}
use Rattle.txn_data.specs.declared.reply.Reply.TheVariants as reply
use Rattle.txn_data.specs.declared.told.Told.{Told}
use Rattle.txn_data.specs.declared.told.Told.TheVariants as told
use Rattle.txn_data.specs.declared.told_refusal.ToldRefusal.{ToldRefusal}
use Rattle.txn_data.specs.declared.told_refusal.ToldRefusal.TheVariants as told_refusal
use Rattle.txn_data.specs.declared.txn_step.TxnStep.{TxnStep}
use Rattle.txn_data.specs.declared.txn_step.TxnStep.TheVariants as step
use Rattle.txn_types.specs.Program.{Program, Done, Asks, Turn, Reading, Ask, Tell, refusal_told}
use Rattle.txn_types.specs.TxnProgram.{refused, lost, abort_after, write_refused, resolve_all, txn_program}
use Rattle.txn_plan.specs.declared.stage.Stage.{Stage}
use Rattle.txn_plan.specs.declared.stage.Stage.TheVariants as stage

abbrev pub meta_of : TxnStep → Meta
meta_of (step.Begin meta r) = meta
meta_of (step.Write meta number place op read seen) = meta
meta_of (step.Single meta place op seen) = meta
meta_of (step.Commit meta floor tablets) = meta
meta_of (step.Abort meta) = meta

abbrev pub writes : TxnStep → Bool
writes (step.Write meta number place op read seen) = true
writes (step.Single meta place op seen) = true
writes _ = false

-- a step that resolves other transactions writes
abbrev pub fits : Stage → TxnStep → Bool
fits stage.Resolving s = writes s
fits _ s = true

-- a refusal of a step that writes
abbrev pub refused_step : TxnStep → ToldRefusal → Program Told
refused_step (step.Write meta number place op read seen) why = write_refused meta why
refused_step _ why = refused why

-- the write itself, once what became of the others is known
abbrev pub write_asked : Meta → ℕ → Place → Op → ℕ → ℕ → List FateOf → Program Told
write_asked meta number place op read seen fates =
    Asks (Tablet place.tablet) (request.Write meta number place.path op read seen fates) (λ answer. elim answer [
      | reply.Written at ↦ Done (told.Written at)
      | reply.Refused why ↦ write_refused meta (refusal_told (Tablet place.tablet) why)
      | _ ↦ lost
    ])

abbrev pub single_asked : Meta → Place → Op → ℕ → List FateOf → Program Told
single_asked meta place op seen fates =
    Asks (Tablet place.tablet) (request.Single meta.txn place.path op seen fates) (λ answer. elim answer [
      | reply.SingleDone at ↦ Done (told.Committed meta.txn at)
      | reply.Refused why ↦ refused (refusal_told (Tablet place.tablet) why)
      | _ ↦ lost
    ])

-- the others are listed: some are resolved, and these are left
abbrev pub resolving : TxnStep → List Found → List FateOf → Program Told
resolving (step.Write meta number place op read seen) others fates =
    resolve_all meta others fates (write_refused meta) (write_asked meta number place op read seen)
resolving (step.Single meta place op seen) others fates = resolve_all meta others fates refused (single_asked meta place op seen)
resolving _ others fates = lost

-- after the reply of this tablet to a ListWrite
abbrev pub listed : TxnStep → Actor → Reply → Program Told
listed s tablet r = elim r [
  | reply.Others found ↦ resolving s found []
  | reply.Refused why ↦ refused_step s (refusal_told tablet why)
  | _ ↦ lost
]

-- the program that is left at a stage, with these transactions to resolve and these fates known
abbrev pub rest_at : TxnStep → List Found → List FateOf → Stage → Program Told
rest_at s others fates stage.Asking = txn_program s
rest_at s others fates stage.Resolving = resolving s others fates
rest_at s others fates (stage.Aborting by why) = abort_after (meta_of s) (refusal_told by why)
rest_at s others fates (stage.Began at) = Done (told.Began (meta_of s).txn at)
rest_at s others fates (stage.Written at) = Done (told.Written at)
rest_at s others fates (stage.Committed at) = Done (told.Committed (meta_of s).txn at)
rest_at s others fates stage.Ended = Done (told.Ended (meta_of s).txn)
rest_at s others fates (stage.Aborted by) = refused (told_refusal.Aborted by)
rest_at s others fates (stage.Refused by why) = refused (refusal_told by why)

-- after a refusal, or a reply that is none to the request, where nothing has to be aborted
abbrev pub stopped_by : Actor → Reply → Program Told
stopped_by by r = elim r [ reply.Refused why ↦ refused (refusal_told by why) | _ ↦ lost ]

-- the turns that want room, for what they say or for the reply
abbrev pub takes_room : Turn Told → Bool
takes_room (Ask to (request.ListWrite x path)) = true
takes_room (Ask to (request.Resolve x by priority)) = true
takes_room (Ask to (request.Write meta number path op read seen fates)) = true
takes_room (Ask to (request.Single x path op seen fates)) = true
takes_room (Ask to (request.Commit x floor tablets)) = true
takes_room _ = false

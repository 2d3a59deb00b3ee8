-- What one pass over a tablet asks: what became of each transaction with provisional records there, and what follows
-- from it.
use Rattle.std.specs.Prelude.{ℕ, ◌+◌, List, [], ◌∷◌}
use Rattle.txn_data.specs.declared.actor.Actor.TheVariants.{Tablet, Status}
use Rattle.txn_data.specs.declared.fate.Fate.TheVariants as fate
use Rattle.txn_data.specs.declared.found.Found.{Found}
use Rattle.txn_data.specs.declared.request.Request.TheVariants as request
use Rattle.txn_data.specs.declared.reply.Reply.TheVariants as reply
use Rattle.txn_data.specs.declared.told.Told.{Told}
use Rattle.txn_data.specs.declared.told.Told.TheVariants as told
use Rattle.txn_types.specs.Program.{Program, Done, Asks, refusal_told}
use Rattle.txn_types.specs.TxnProgram.{refused, lost}

-- how many transactions a pass applied, cleaned and left so far
pub record Counts : Type 0 where
  pub applied : ℕ
  pub cleaned : ℕ
  pub left : ℕ

abbrev pub apply_then : ℕ → Found → ℕ → Program Told → Program Told
apply_then k f c next = Asks (Tablet k) (request.Apply f.txn c) (λ r. elim r [
  | reply.AppliedHere ↦ Asks (Status f.status) (request.Applied f.txn k) (λ answer. elim answer [
    | reply.Noted ↦ next
    | reply.Refused why ↦ refused (refusal_told (Status f.status) why)
    | _ ↦ lost
  ])
  | reply.Refused why ↦ refused (refusal_told (Tablet k) why)
  | _ ↦ lost
])

abbrev pub clean_then : ℕ → Found → Program Told → Program Told
clean_then k f next = Asks (Tablet k) (request.Clean f.txn) (λ r. elim r [
  | reply.Cleaned ↦ next
  | reply.Refused why ↦ refused (refusal_told (Tablet k) why)
  | _ ↦ lost
])

-- by rising id: Pending is left, Committed is applied and noted, Aborted and Absent are cleaned
unfoldable pub pass_over : ℕ → Counts → List Found → Program Told
pass_over k n [] = Done (told.Passed n.applied n.cleaned n.left)
pass_over k n (f ∷ fs) = Asks (Status f.status) (request.AskFate f.txn 0) (λ r. elim r [
  | reply.FateIs heard ↦ elim heard [
    | fate.Pending ↦ pass_over k (record n { left = n.left + 1 }) fs
    | fate.Committed c ↦ apply_then k f c (pass_over k (record n { applied = n.applied + 1 }) fs)
    | fate.Aborted ↦ clean_then k f (pass_over k (record n { cleaned = n.cleaned + 1 }) fs)
    | fate.Absent ↦ clean_then k f (pass_over k (record n { cleaned = n.cleaned + 1 }) fs)
  ]
  | reply.Refused why ↦ refused (refusal_told (Status f.status) why)
  | _ ↦ lost
])

abbrev pub pass_program : ℕ → Program Told
pass_program k = Asks (Tablet k) request.ListIntents (λ r. elim r [
  | reply.Intents found ↦ pass_over k (record { applied = 0; cleaned = 0; left = 0 }) found
  | reply.Refused why ↦ refused (refusal_told (Tablet k) why)
  | _ ↦ lost
])

-- A worked case of what is left: the append of a commit is lost, the session cannot end, and the last pass leaves its write.
use Rattle.std.proofs.Common.{◌≡◌, ℕ, zero, suc, false, [], ◌∷◌, Some, refl, sym, subst, inl, inr, arith}
use Rattle.txn_data.specs.declared.actor.Actor.TheVariants.{Status, Applier}
use Rattle.txn_data.specs.declared.command.Command.TheVariants as command
use Rattle.txn_data.specs.declared.told.Told.TheVariants as told
use Rattle.txn_data.specs.declared.told_refusal.ToldRefusal.TheVariants as why
use Rattle.txn_data.specs.declared.isolation.Isolation.TheVariants.{Snapshot}
use Rattle.txn_data.specs.declared.op.Op.TheVariants.{Put}
use Rattle.txn_types.specs.Lists.{Member}
use Rattle.txn_types.specs.History.{History, own}
use Rattle.txn_types.specs.Tablet.{Intent}
use Rattle.txn_types.specs.Status as status
use Rattle.txn_types.specs.Status.{record_of}
use Rattle.txn_types.specs.Settled.{Settled, AllSettled, last_told}
use Rattle.worked_cases.specs.Simulated.{all_done, told_in}
use Rattle.worked_cases.proofs.Tables.{tables}
use Rattle.worked_cases.proofs.Cases.{one, at, doc, val, txn, says}

-- the second append of the status tablet fails, and the restart finds nothing of it
abbrev pub left_run : History
left_run = all_done one (record { actor = Status 0; number = 2; kept = false }) (
    says 1 (command.Begin 0) ∷ says 1 (command.Put doc (val 1)) ∷ says 1 command.Commit ∷ says 1 command.End
    ∷ says 2 (command.Restart (Status 0)) ∷ (Applier 0, command.Apply 0) ∷ []) []

left_told : told_in left_run
    ≡ told.Began (txn 1 1) (at 0) ∷ told.Written (at 1) ∷ told.Refused (why.LogFault (Status 0)) ∷ told.Refused (why.Down (Status 0) 2)
    ∷ told.Restarted false ∷ told.Passed 0 0 1 ∷ []
unfolding tables
left_told = refl

left_last : last_told (Applier 0) left_run ≡ Some (told.Passed 0 0 1)
unfolding tables
left_last = refl

-- what holds of the one element of a list
pub only : {A : Type 0} (P : A → Type 0) (x : A) → P x → (y : A) → Member y (x ∷ []) → P y
only P x holds y (inl here) = subst P (sym here) holds
only P x holds y (inr none) = absurd none

-- the write that is left
abbrev left : Intent
left = record {
  meta = record { txn = txn 1 1; status = 0; isolation = Snapshot; priority = 0 };
  number = 0;
  path = doc.path;
  op = Put (val 1);
  wrote = at 1;
}

pub left_settled : Settled left_run 0 1
unfolding tables
left_settled = record {
  pending = only (λ p. (priority : ℕ) × (record_of p.meta.txn (own (Status p.meta.status) left_run) ≡ status.Pending priority)) left (0, refl);
  number = refl;
}

all_settled : AllSettled one left_run
unfolding tables
all_settled zero below = left_settled
all_settled (suc k) below = absurd (omega arith)

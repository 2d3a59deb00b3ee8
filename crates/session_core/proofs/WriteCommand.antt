-- A write inside the open transaction, where it is not in doubt.
use Rattle.std.proofs.Common.{◌≡◌, ℕ, false, Some, length, refl, sym, ap, ◌∙◌}
use Rattle.txn_data.specs.declared.op.Op.{Op}
use Rattle.txn_data.specs.declared.place.Place.{Place}
use Rattle.txn_data.specs.declared.told.Told.{Told}
use Rattle.txn_data.specs.declared.txn_step.TxnStep.TheVariants as step
use Rattle.txn_types.specs.Program.{Program}
use Rattle.txn_types.specs.Session.{Keeps, Opened, write_command}
use Rattle.txn_types.specs.TxnProgram.{txn_program}

abbrev asked : Opened → ℕ → Place → Op → ℕ → Program Told
asked x n place op last = txn_program (step.Write x.meta n place op x.r last)

clear : (s : Keeps) (x : Opened) (place : Place) (op : Op) → x.in_doubt ≡ false → write_command s place op (Some x) ≡ asked x (length x.writes) place op s.last
clear s x place op d = rw d refl

pub write_is : (s : Keeps) (x : Opened) (place copy : Place) (op : Op) (n last : ℕ) → s.opened ≡ Some x → x.in_doubt ≡ false → n ≡ length x.writes → copy ≡ place → s.last ≡ last
    → txn_program (step.Write x.meta n copy op x.r last) ≡ write_command s place op s.opened
write_is s x place copy op n last now d many same time =
    ap (λ k. asked x k copy op last) many
    ∙ ap (λ p. asked x (length x.writes) p op last) same
    ∙ ap (λ t. asked x (length x.writes) place op t) (sym time)
    ∙ sym (clear s x place op d)
    ∙ ap (write_command s place op) (sym now)

use Rattle.std.proofs.Common.{◌∙◌, sym, ap}
use Rattle.txn_types.specs.History.{own}
use Rattle.law_machines.proofs.Owns.{serves_own}
use Rattle.law_machines.proofs.Counted.{own_all}
use Rattle.law_machines.proofs.Landed.{logged, standing_landed, own_effects}
use Rattle.law_machines.proofs.laws.log_is_what_took_effect.Goals as goal

pub returns : goal.returns
returns c = λ config h a run.
    standing_landed config.lease_us a (own a h) (serves_own config a h run.1) (own_all a h) ∙ ap logged (sym (own_effects a h))

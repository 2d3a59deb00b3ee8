use Rattle.std.proofs.Common.{None, ap, ◌∙◌, cond, Bool}
use Rattle.status_tablet.specs.Keeps.{kept_at}
use Rattle.status_tablet.proofs.Entries.{at_is}
use Rattle.status_tablet.proofs.txn_records.TxnRecords.remove.Goals as goal

pub returns : goal.returns
returns c = λ x. c.remove.ensures.updates.0 x ∙ ap (λ (b : Bool). cond b None (kept_at c.args.self.now.map.entries x)) (at_is c.args.txn x)

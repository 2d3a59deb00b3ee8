use Rattle.std.proofs.Common.{Some, ap, ◌∙◌, cond, Bool}
use Rattle.status_tablet.specs.Keeps.{kept_at}
use Rattle.status_tablet.proofs.Entries.{at_is}
use Rattle.status_tablet.proofs.txn_records.TxnRecords.put.Goals as goal

pub returns-in-Ok-clause-ok : goal.returns-in-Ok-clause-ok
returns-in-Ok-clause-ok c = λ x. c.in-Ok.ensures.updates.0 x ∙ ap (λ (b : Bool). cond b (Some c.args.kept) (kept_at c.args.self.now.map.entries x)) (at_is c.args.txn x)

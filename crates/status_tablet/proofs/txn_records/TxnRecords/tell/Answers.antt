use Rattle.std.proofs.Common.{ℕ, Some, ap, ◌∙◌, cond, Bool, rules}
use Rattle.std.specs.BTreeMap.{BTreeMap}
use Rattle.status_tablet.specs.declared.txn_record.TxnRecord.{TxnRecord}
use Rattle.status_tablet.specs.Keeps.{kept_at, told}
use Rattle.status_tablet.proofs.Entries.{at_is, rewritten, unwritten}
use Rattle.status_tablet.proofs.txn_records.TxnRecords.tell.Goals as goal

pub returns-in_default : goal.returns-in_default
returns-in_default c = λ x.
    ap (λ (m : BTreeMap ℕ TxnRecord). kept_at m.entries x) c.get_mut.follows.holds-at-none ∙ unwritten told c.args.self.now.map.entries c.args.txn x c.in_default.ensures.value

pub returns : goal.returns
returns c =
    let wrote = (c.get_mut.follows.holds c.tell.new.self).3 (search rules) in
    λ x. wrote.0 x ∙ ap (λ (b : Bool). cond b (Some c.tell.new.self) (kept_at c.args.self.now.map.entries x)) (at_is c.args.txn x)
    ∙ rewritten told c.args.self.now.map.entries c.args.txn x c.in-Some.kept.now c.tell.new.self c.in-Some.ensures.value c.tell.ensures

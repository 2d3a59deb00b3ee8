use Rattle.std.proofs.Common.{sym, rules}
use Rattle.std.specs.BTreeMap.{get}
use Rattle.std.specs.Ordering.{nat_cmp}
use Rattle.intent_records.proofs.Places.{adds-place}
use Rattle.intent_records.proofs.related.add_place.Goals as goal

pub returns-in_ok-insert : goal.returns-in_ok-insert
returns-in_ok-insert c =
    let written = (c.get_mut.follows.holds c.insert.new.self).3 (search rules) in
    adds-place c.args.key.now (get nat_cmp c.args.places.now) (get nat_cmp (c.get_mut.follows.lender c.insert.new.self)) c.in-Some.positions.now c.insert.new.self
    (sym c.in-Some.ensures.value) (λ x. written.0 x) c.in_ok-insert.ensures.updates.0

use Rattle.std.proofs.Common.{◌≡◌, ℕ, ◌||◌, take}
use Rattle.std.specs.BTreeSet.{contains}
use Rattle.std.specs.Ordering.{nat_cmp}
use Rattle.intent_records.specs.Search.{hit, in_any}
use Rattle.intent_records.proofs.intents.Intents.find_related.Given as goal

abbrev pub invariant-loop-range : goal.invariant-loop-range
invariant-loop-range l =
    (x : ℕ) → contains nat_cmp l.found x ≡ (contains nat_cmp l.fn.found x || hit (in_any (take l.range-index l.range-items)) l.asked.own l.asked.until x l.self.records.entries)

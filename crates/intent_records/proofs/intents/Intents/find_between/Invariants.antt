use Rattle.std.proofs.Common.{◌||◌, length}
use Rattle.std.specs.Option.{option_copied}
use Rattle.std.specs.BTreeSet.{contains}
use Rattle.std.specs.Ordering.{nat_cmp}
use Rattle.intent_records.specs.Search.{hit, between}
use Rattle.intent_records.proofs.Settled.{GotTo}
use Rattle.intent_records.proofs.intents.Intents.find_between.Given as goal

abbrev pub invariant-loop-key : goal.invariant-loop-key
invariant-loop-key l =
    GotTo l.asked.own l.asked.until l.end l.self.records.entries
    (λ x. contains nat_cmp l.fn.found x || hit (between l.fn.range.first l.fn.range.end) l.asked.own l.asked.until x l.self.records.entries)
    (contains nat_cmp l.found) (option_copied l.settled) l.records

abbrev pub decreases-loop-key : goal.decreases-loop-key
decreases-loop-key l = length l.records

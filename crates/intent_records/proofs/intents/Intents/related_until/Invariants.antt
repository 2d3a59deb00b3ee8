use Rattle.std.proofs.Common.{◌≡◌, ℕ, take}
use Rattle.std.specs.BTreeSet.{contains}
use Rattle.std.specs.Ordering.{nat_cmp}
use Rattle.intent_records.specs.Search.{hit, near_any}
use Rattle.intent_records.proofs.intents.Intents.related_until.Given as goal

abbrev pub invariant-loop-path : goal.invariant-loop-path
invariant-loop-path l =
    (x : ℕ) → contains nat_cmp l.found x ≡ hit (near_any (take l.path-index l.paths)) l.asked.own l.asked.until x l.self.records.entries

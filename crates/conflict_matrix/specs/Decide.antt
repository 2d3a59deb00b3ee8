-- What a write is answered, once the transactions that it meets and what their fates are is known.
use Rattle.std.specs.Prelude.{ℕ, List, ◌++◌, Option, Some, None, option_to_list, map, filter, filter_map}
use Rattle.txn_data.specs.declared.found.Found.{Found}
use Rattle.txn_data.specs.declared.fate_of.FateOf.{FateOf}
use Rattle.txn_types.specs.Lists.{rising}
use Rattle.txn_types.specs.Tablet.{first_fate, is_open, commit_time, first_of, greatest_above}
use Rattle.conflict_matrix.specs.declared.write_decision.WriteDecision.{WriteDecision}
use Rattle.conflict_matrix.specs.declared.write_decision.WriteDecision.TheVariants.{Go, Conflict, Overlap}

abbrev pub ids : List Found → List ℕ
ids others = map (λ (f : Found). f.txn) others

-- the least of these transactions that has no fate, or the fate Pending
abbrev pub least_open : List Found → List FateOf → Option ℕ
least_open others fates = first_of (filter (λ x. is_open (first_fate fates x)) (rising (ids others)))

-- the commit times that the fates of these transactions name
abbrev pub fate_times : List FateOf → List ℕ → List ℕ
fate_times fates xs = filter_map (λ x. commit_time (first_fate fates x)) xs

-- the greatest time above the read time among the newest related version and these commit times, where there is a read
-- time
abbrev pub overlap : Option ℕ → Option ℕ → List Found → List FateOf → Option ℕ
overlap None newest others fates = None
overlap (Some read) newest others fates = greatest_above read (option_to_list newest ++ fate_times fates (ids others))

-- a conflict comes before an overlap
abbrev pub decision : Option ℕ → Option ℕ → WriteDecision
decision (Some other) at = Conflict other
decision None (Some at) = Overlap at
decision None None = Go

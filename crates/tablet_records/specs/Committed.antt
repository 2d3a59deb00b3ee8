-- Provisional writes whose transactions are committed.
use Rattle.std.specs.Prelude.{ℕ, Bool, ◌&&◌, List, Option, not, is_some, option_map, filter, filter_map, flat_map, nat_le}
use Rattle.std.specs.List.{list_any}
use Rattle.doc_path.specs.Path.{Parts, related}
use Rattle.txn_data.specs.declared.fate.Fate.{Fate}
use Rattle.txn_data.specs.declared.fate_of.FateOf.{FateOf}
use Rattle.txn_data.specs.declared.provisional.Provisional.{Provisional}
use Rattle.txn_data.specs.declared.version.Version.{Version}
use Rattle.txn_types.specs.Lists.{sorted_by}
use Rattle.txn_types.specs.Tablet.{Intent, txn_of, is_own, commit_time, under_fate}
use Rattle.intent_records.specs.Holds.{own}
use Rattle.tablet_records.specs.Keeps.{version_of}

-- those of transactions other than `own`, as versions at the commit times that these fates name, by transaction
abbrev pub committed_writes : Option ℕ → List FateOf → List Intent → List Version
committed_writes own_txn fates ps =
    filter_map (under_fate fates)
    (sorted_by (λ (p q : Intent). nat_le (txn_of p) (txn_of q)) (filter (λ (p : Intent). not (is_own own_txn (txn_of p))) ps))

-- those of some transactions, one after another
abbrev pub committed_of : List FateOf → List Intent → List ℕ → List Version
committed_of fates ps xs = flat_map (λ x. filter_map (under_fate fates) (own x ps)) xs

-- whether a version is on a path related to one of these
abbrev pub on_related : List Parts → Version → Bool
on_related paths v = list_any (related v.path) paths

-- a provisional write as a version at the commit time that the fate of its transaction names
abbrev pub version_under : (ℕ → Option Fate) → Provisional → Option Version
version_under fate_of p = option_map (λ c. version_of c p) (commit_time (fate_of p.txn))

-- another transaction, whose fate is Committed
abbrev pub is_committed_other : Option ℕ → (ℕ → Option Fate) → ℕ → Bool
is_committed_other own_txn fate_of x = not (is_own own_txn x) && is_some (commit_time (fate_of x))

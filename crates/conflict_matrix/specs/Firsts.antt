-- A walk over fates whose ids do not fall.
use Rattle.std.specs.Prelude.{ℕ, List, [], ◌∷◌, Option, Some, None, nat_eq, nat_lt, if◌then◌else◌}
use Rattle.std.specs.List.Sorted.{IsNonDecreasingBy}
use Rattle.txn_data.specs.declared.fate.Fate.{Fate}
use Rattle.txn_data.specs.declared.fate_of.FateOf.{FateOf}
use Rattle.txn_data.specs.declared.found.Found.{Found}

abbrev pub FatesRise : List FateOf → Type 0
FatesRise fates = IsNonDecreasingBy (λ (f : FateOf). f.txn) fates

abbrev pub OthersRise : List Found → Type 0
OthersRise others = IsNonDecreasingBy (λ (f : Found). f.txn) others

-- the fates from the first on that is not of a transaction below this one
abbrev pub not_below : ℕ → List FateOf → List FateOf
not_below x [] = []
not_below x (f ∷ fs) = if nat_lt f.txn x then not_below x fs else f ∷ fs

-- its own fate, if it is the first of these
abbrev pub own_fate : ℕ → Option FateOf → Option Fate
own_fate x None = None
own_fate x (Some f) = if nat_eq f.txn x then Some f.fate else None

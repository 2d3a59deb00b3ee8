-- Which intents conflict, and which intents a snapshot write takes.
use Rattle.std.specs.Prelude.{Bool, true, false, ◌&&◌, ◌||◌, not, List, [], ◌∷◌, ◌++◌, map, flat_map}
use Rattle.std.specs.List.{list_any}
use Rattle.conflict_matrix.specs.declared.kind.Kind.{Kind}
use Rattle.conflict_matrix.specs.declared.kind.Kind.TheVariants.{StrongRead, StrongWrite, WeakRead, WeakWrite}
use Rattle.conflict_matrix.specs.declared.intent_at.IntentAt.{IntentAt}
use Rattle.doc_path.specs.Path.{Parts}
use Rattle.txn_types.specs.Tablet.{same_path}

abbrev pub is_strong : Kind → Bool
is_strong StrongRead = true
is_strong StrongWrite = true
is_strong WeakRead = false
is_strong WeakWrite = false

abbrev pub is_write : Kind → Bool
is_write StrongRead = false
is_write StrongWrite = true
is_write WeakRead = false
is_write WeakWrite = true

-- one of them is a read, and the other a write
abbrev pub are_read_and_write : Kind → Kind → Bool
are_read_and_write a b = (is_write a && not (is_write b)) || (is_write b && not (is_write a))

-- two intents on one path conflict where at least one is strong, and one is a read and the other a write
abbrev pub conflicts : Kind → Kind → Bool
conflicts a b = (is_strong a || is_strong b) && are_read_and_write a b

-- the paths that a path lies beneath, the shortest first
abbrev pub paths_above : Parts → List Parts
paths_above [] = []
paths_above (a ∷ []) = []
paths_above (a ∷ b ∷ p) = (a ∷ []) ∷ map (λ q. a ∷ q) (paths_above (b ∷ p))

abbrev pub weak_at : Parts → List IntentAt
weak_at p = (record { path = p; kind = WeakRead }) ∷ (record { path = p; kind = WeakWrite }) ∷ []

abbrev pub strong_at : Parts → List IntentAt
strong_at p = (record { path = p; kind = StrongRead }) ∷ (record { path = p; kind = StrongWrite }) ∷ []

-- a snapshot write takes weak intents on each path that its own lies beneath, and strong ones on its own
unfoldable pub intents_of : Parts → List IntentAt
intents_of p = flat_map weak_at (paths_above p) ++ strong_at p

-- two intents meet where they are on one path and conflict
abbrev pub meets : IntentAt → IntentAt → Bool
meets a b = same_path a.path b.path && conflicts a.kind b.kind

-- some intent of the one list meets some intent of the other
unfoldable pub any_meet : List IntentAt → List IntentAt → Bool
any_meet intents others = list_any (λ a. list_any (meets a) others) intents

-- Lists of writes, and the value that they leave at a path.
use Rattle.std.specs.Prelude.{ℕ, List, [], ◌∷◌, Option, Some, None, if◌then◌else◌, flat_map}
use Rattle.std.specs.declared.cmp.Ordering.TheVariants.{Less, Equal, Greater}
use Rattle.doc_path.specs.Path.{Parts, is_prefix, path_order}
use Rattle.txn_data.specs.declared.op.Op.{Op}
use Rattle.txn_data.specs.declared.op.Op.TheVariants as op
use Rattle.txn_data.specs.declared.written.Written.{Written}
use Rattle.txn_data.specs.declared.row.Row.{Row}
use Rattle.txn_types.specs.Lists.{or_else}

-- the last write whose path is a prefix of p
unfoldable pub last_word : List Written → Parts → Option Written
last_word [] p = None
last_word (w ∷ ws) p = or_else (last_word ws p) (if is_prefix w.path p then Some w else None)

-- the value that a write sets at p itself
abbrev pub value_set : Op → Option (List ℕ)
value_set (op.Put v) = Some v
value_set op.Delete = None

abbrev pub set_at : Parts → Option Written → Option (List ℕ)
set_at p None = None
set_at p (Some w) = if is_prefix p w.path then value_set w.op else None

-- the value at p: v where the last word on it is a Put of v at exactly p
abbrev pub value : List Written → Parts → Option (List ℕ)
value ws p = set_at p (last_word ws p)

-- paths in path order, each once
unfoldable pub with_path : Parts → List Parts → List Parts
with_path p [] = p ∷ []
with_path p (q ∷ qs) = elim (path_order p q) [ Less ↦ p ∷ q ∷ qs | Equal ↦ q ∷ qs | Greater ↦ q ∷ with_path p qs ]

-- the paths written at or beneath p
unfoldable pub paths_beneath : Parts → List Written → List Parts
paths_beneath p [] = []
paths_beneath p (w ∷ ws) = if is_prefix p w.path then with_path w.path (paths_beneath p ws) else paths_beneath p ws

abbrev pub row_with : Parts → Option (List ℕ) → List Row
row_with q None = []
row_with q (Some v) = (record { path = q; value = Some v }) ∷ []

-- all paths at or beneath p that have a value, with it, in path order
unfoldable pub beneath : List Written → Parts → List Row
beneath ws p = flat_map (λ q. row_with q (value ws q)) (paths_beneath p ws)

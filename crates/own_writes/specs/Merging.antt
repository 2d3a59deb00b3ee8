-- Rows in path order, and which of two lists has the next row.
use Rattle.std.specs.Prelude.{◌≡◌, List, [], ◌∷◌}
use Rattle.std.specs.declared.cmp.Ordering.{Ordering}
use Rattle.std.specs.declared.cmp.Ordering.TheVariants.{Less, Greater}
use Rattle.doc_path.specs.Path.{Parts, path_order}
use Rattle.txn_data.specs.declared.row.Row.{Row}

-- the path comes before those of all these rows
abbrev pub IsBefore : Parts → List Row → Type 0
IsBefore p [] = Unit {0}
IsBefore p (r ∷ rows) = (path_order p r.path ≡ Less) × IsBefore p rows

-- each path comes before all that follow
abbrev pub Rise : List Row → Type 0
Rise [] = Unit {0}
Rise (r ∷ rows) = IsBefore r.path rows × Rise rows

-- how the first row of one list stands to that of another, which is greater where the list is empty
abbrev pub first_order : List Row → List Row → Ordering
first_order [] others = Greater
first_order (r ∷ rows) [] = Less
first_order (r ∷ rows) (q ∷ others) = path_order r.path q.path

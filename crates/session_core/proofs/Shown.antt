-- Outside a transaction a read is told the rows that it found.
use Rattle.std.proofs.Common.{◌≡◌, List, [], ◌∷◌, Option, Some, None, refl, ap}
use Rattle.std.specs.Prelude.{map, filter}
use Rattle.txn_data.specs.declared.place.Place.{Place}
use Rattle.txn_data.specs.declared.read_kind.ReadKind.TheVariants.{Scan}
use Rattle.txn_data.specs.declared.row.Row.{Row}
use Rattle.txn_types.specs.Session.{row_under, is_untouched, rows_under, with_rows}
use Rattle.txn_types.specs.Writes.{last_word, paths_beneath, beneath}
use Rattle.session_core.specs.Work.{shown_at}

got_alone : (rows : List Row) → map (row_under []) rows ≡ rows
unfolding last_word
got_alone [] = refl
got_alone (r ∷ rows) = ap (λ more. r ∷ more) (got_alone rows)

rest_alone : (rows : List Row) → filter (is_untouched []) rows ≡ rows
unfolding last_word
rest_alone [] = refl
rest_alone (r ∷ rows) = ap (λ more. r ∷ more) (rest_alone rows)

scan_alone : (place : Place) (rows : List Row) → rows_under Scan [] (place ∷ []) rows ≡ rows
unfolding beneath paths_beneath with_rows
scan_alone place rows = rest_alone rows

pub alone : (place : Option Place) (rows : List Row) → shown_at [] place rows ≡ rows
alone None rows = got_alone rows
alone (Some place) rows = scan_alone place rows

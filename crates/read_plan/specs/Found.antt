-- What the tablets answered in a round, as the tables have it.
use Rattle.std.specs.Prelude.{List, map}
use Rattle.txn_types.specs.ReadProgram.{TabletRows}
use Rattle.read_plan.specs.declared.tablet_rows.TabletRows.{TabletRows as Kept}

abbrev pub rows_seen : Kept → TabletRows
rows_seen f = record { tablet = f.tablet; rows = f.rows }

abbrev pub all_seen : List Kept → List TabletRows
all_seen fs = map rows_seen fs

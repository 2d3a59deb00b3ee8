use Rattle.std.proofs.Common.{◌≡◌, List, ◌++◌, drop}
use Rattle.txn_data.specs.declared.version.Version.{Version}
use Rattle.txn_data.specs.declared.read_kind.ReadKind.TheVariants.{Get}
use Rattle.txn_types.specs.Tablet.{writes_at, rows_of}
use Rattle.tablet_records.specs.Considers.{Considers}
use Rattle.tablet_records.proofs.considered.Considered.got.Given as goal

abbrev pub invariant-loop-path : goal.invariant-loop-path
invariant-loop-path g l =
    (us vs : List Version) → Considers g.V.Versions.holds l.self us vs
    → l.rows ++ rows_of Get (drop l.path-index l.paths) (writes_at l.fn.t (us ++ vs)) ≡ rows_of Get l.paths (writes_at l.fn.t (us ++ vs))

use Rattle.std.proofs.Common.{◌≡◌, List, ◌++◌, take}
use Rattle.txn_data.specs.declared.version.Version.{Version}
use Rattle.txn_types.specs.Tablet.{met_in}
use Rattle.tablet_records.proofs.met.met_among.Given as goal

abbrev pub invariant-loop-version : goal.invariant-loop-version
invariant-loop-version g l =
    (us : List Version) → g.V.Versions.holds l.versions us → l.met ≡ met_in l.window l.fn.t l.paths (us ++ take l.version-index l.list)

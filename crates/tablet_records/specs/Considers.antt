-- The versions that a read considers.
use Rattle.std.specs.Prelude.{◌≡◌, List, [], Option, Some, None}
use Rattle.txn_data.specs.declared.version.Version.{Version}
use Rattle.tablet_records.specs.declared.considered.Considered.{Considered}

-- the set has these versions, or there is none and there are no versions
abbrev pub NewerHolds : {V : Type 0} → (V → List Version → Type 0) → Option V → List Version → Type 0
NewerHolds holds None vs = vs ≡ []
NewerHolds holds (Some set) vs = holds set vs

-- the versions of the tablet, and those over them
pub record Considers {V : Type 0} (holds : V → List Version → Type 0) (s : Considered V) (us vs : List Version) : Type 0 where
  pub older : holds s.versions.now us
  pub newer : NewerHolds holds s.newer vs

-- When a set of versions holds a list.
use Rattle.std.specs.Prelude.{◌≡◌, ◌↔◌, false, List, [], ◌∷◌}
use Rattle.txn_data.specs.declared.version.Version.{Version}
use Rattle.txn_types.specs.Lists.{Member}
use Rattle.txn_types.specs.Tablet.{same_place}

-- none of these has the path, the commit time and the write number of v
abbrev pub IsApart : Version → List Version → Type 0
IsApart v [] = Unit {0}
IsApart v (u ∷ us) = (same_place v u ≡ false) × IsApart v us

-- a path, a commit time and a write number come once
abbrev pub AreApart : List Version → Type 0
AreApart [] = Unit {0}
AreApart (v ∷ vs) = IsApart v vs × AreApart vs

-- these are the versions that are kept, in whatever order, and each once
abbrev pub Holds : List Version → List Version → Type 0
Holds kept vs = AreApart vs × ((v : Version) → Member v vs ↔ Member v kept)

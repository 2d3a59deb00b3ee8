-- What adding versions to the map does.
use Rattle.std.specs.Prelude.{◌≡◌, ◌↔◌, ◌⊎◌, false, List, [], ◌∷◌, Option, None, is_some, IsSome, MatchOption, if◌then◌else◌}
use Rattle.std.specs.BTreeMap.{is_at, insert_entry}
use Rattle.std.specs.Map.{lookup}
use Rattle.std.specs.Cmp.Lexicographic.{slice_cmp}
use Rattle.std.specs.Ordering.{nat_cmp}
use Rattle.doc_path.specs.Path.{Parts}
use Rattle.txn_data.specs.declared.version.Version.{Version}
use Rattle.txn_types.specs.Lists.{Member}
use Rattle.txn_types.specs.Tablet.{same_place}
use Rattle.regular_records.specs.declared.version_key.VersionKey.{VersionKey}
use Rattle.regular_records.specs.declared.version_value.VersionValue.{VersionValue}
use Rattle.regular_records.specs.Store.{Key, PathVersions, Slot}
use Rattle.regular_records.specs.Kept.{version_key_order}

-- what the entries have at a path, and what the slots have at a key
abbrev pub at_path : Parts → List (Key × PathVersions) → Option PathVersions
at_path p es = lookup (is_at (λ (k : Key). slice_cmp (slice_cmp nat_cmp) p k.items)) es

abbrev pub at_version_key : VersionKey → List Slot → Option (Option VersionValue)
at_version_key m slots = lookup (is_at (version_key_order m)) slots

-- the slots with one for this key, which is without a version where it is new
abbrev pub with_slot : VersionKey → List Slot → List Slot
with_slot m slots = if is_some (at_version_key m slots) then slots else insert_entry version_key_order slots m None

abbrev pub version_key_of : Version → VersionKey
version_key_of v = record { at = v.at; number = v.number }

abbrev pub HasSlot : List (Key × PathVersions) → Version → Type 0
HasSlot es v = MatchOption (at_path v.path es) ⊥ (λ (m : PathVersions). IsSome (at_version_key (version_key_of v) m.entries))

abbrev pub HaveSlots : List (Key × PathVersions) → List Version → Type 0
HaveSlots es [] = Unit {0}
HaveSlots es (v ∷ vs) = HasSlot es v × HaveSlots es vs

-- v is there, and all that was before, but for what had its path, commit time and write number
abbrev pub Replaces : Version → List Version → List Version → Type 0
Replaces v old new = (u : Version) → Member u new ↔ ((u ≡ v) ⊎ (Member u old × (same_place u v ≡ false)))

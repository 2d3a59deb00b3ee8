-- The greatest commit time at or beneath each prefix.
use Rattle.std.specs.Prelude.{◌≡◌, ℕ, ◌≤◌, true, List, Option, IsSome, length, take, ◌⊎◌}
use Rattle.std.specs.Map.{lookup}
use Rattle.std.specs.BTreeMap.{is_at}
use Rattle.std.specs.Cmp.Lexicographic.{slice_cmp}
use Rattle.std.specs.Ordering.{nat_cmp}
use Rattle.doc_path.specs.Path.{Parts, is_prefix}
use Rattle.txn_data.specs.declared.version.Version.{Version}
use Rattle.txn_types.specs.Lists.{Member, or_zero}
use Rattle.regular_records.specs.declared.newest_beneath.NewestBeneath.{NewestBeneath}
use Rattle.regular_records.specs.Store.{Key}

-- what stands at the place of a prefix
abbrev pub place_of : Parts → List (Key × ℕ) → Option ℕ
place_of q es = lookup (is_at (λ (k : Key). slice_cmp (slice_cmp nat_cmp) q k.items)) es

-- the time that stands for a prefix, and 0 where it has no place
abbrev pub newest_at : Parts → NewestBeneath → ℕ
newest_at q beneath = or_zero (place_of q beneath.times.entries)

abbrev pub HasPlace : Parts → NewestBeneath → Type 0
HasPlace q beneath = IsSome (place_of q beneath.times.entries)

-- each prefix of a path has a place
abbrev pub HasPlaces : Parts → NewestBeneath → Type 0
HasPlaces p beneath = (n : ℕ) → 1 ≤ n → n ≤ length p → HasPlace (take n p) beneath

abbrev pub HavePlaces : List Version → NewestBeneath → Type 0
HavePlaces vs beneath = (v : Version) → Member v vs → HasPlaces v.path beneath

-- the greatest commit time of the versions whose path begins with q, and 0 where there is none
abbrev pub IsNewestBeneath : Parts → List Version → ℕ → Type 0
IsNewestBeneath q vs c =
    ((v : Version) → Member v vs → is_prefix q v.path ≡ true → v.at ≤ c)
    × ((c ≡ 0) ⊎ ((v : Version) × Member v vs × (is_prefix q v.path ≡ true) × (v.at ≡ c)))

-- the times are those of these versions
abbrev pub SumsUp : NewestBeneath → List Version → Type 0
SumsUp beneath vs = (q : Parts) → 1 ≤ length q → IsNewestBeneath q vs (newest_at q beneath)

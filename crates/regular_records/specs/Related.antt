-- What is newest on related paths.
use Rattle.std.specs.Prelude.{ℕ, Bool, true, ◌&&◌, List, [], ◌∷◌, Option, Some, None, nat_le, nat_lt, if◌then◌else◌, zero, suc, take, length, filter, max}
use Rattle.std.specs.Cmp.Lexicographic.{slice_cmp}
use Rattle.std.specs.Ordering.{nat_cmp, is_lt}
use Rattle.std.specs.BTreeMap.Range.{entries_between}
use Rattle.std.specs.declared.ops.Bound.{Bound}
use Rattle.std.specs.declared.ops.Bound.TheVariants.{Included, Unbounded}
use Rattle.doc_path.specs.Path.{Parts, is_prefix}
use Rattle.txn_data.specs.declared.window.Window.{Window}
use Rattle.txn_data.specs.declared.met_at.MetAt.{MetAt}
use Rattle.txn_types.specs.Lists.{or_else}
use Rattle.regular_records.specs.declared.version_key.VersionKey.{VersionKey}
use Rattle.regular_records.specs.declared.version_value.VersionValue.{VersionValue}
use Rattle.regular_records.specs.declared.related.Newest.{Newest}
use Rattle.regular_records.specs.Records.{better}
use Rattle.regular_records.specs.Store.{Key, PathVersions, VersionStore, Slot, path_versions_at}
use Rattle.regular_records.specs.Kept.{version_key_order}

-- whether a version was written not later than the local limit, where there is a window
abbrev pub was_written : Option Window → VersionValue → Bool
was_written None h = true
was_written (Some w) h = nat_le h.wrote w.limit

-- where a window begins among versions that are newest first
abbrev pub start_of : Option Window → Bound VersionKey
start_of None = Unbounded
start_of (Some w) = Included (record { at = w.g; number = 4294967295 })

abbrev pub time_of : Option Window → Slot → Option ℕ
time_of w (m, None) = None
time_of w (m, Some h) = if nat_lt m.number 4294967296 && was_written w h then Some m.at else None

-- the first time of slots that are newest first, as long as they are above t
abbrev pub first_time : ℕ → Option Window → List Slot → Option ℕ
first_time t w [] = None
first_time t w (s ∷ slots) = if nat_le s.0.at t then None else or_else (time_of w s) (first_time t w slots)

abbrev pub time_in : ℕ → Option Window → PathVersions → Option ℕ
time_in t w m = first_time t w (entries_between version_key_order (start_of w) Unbounded m.entries)

-- what was found so far, or this path where its time is greater
abbrev pub newer : Option MetAt → Parts → Option ℕ → Option MetAt
newer found p None = found
newer None p (Some c) = Some (record { at = c; path = p })
newer (Some m) p (Some c) = if nat_lt m.at c then Some (record { at = c; path = p }) else Some m

abbrev pub newer_at : ℕ → Option Window → Option MetAt → Parts → Option PathVersions → Option MetAt
newer_at t w found p None = found
newer_at t w found p (Some m) = newer found p (time_in t w m)

-- the newest at the first n prefixes of p
unfoldable pub above_upto : ℕ → Option Window → Parts → VersionStore → ℕ → Option MetAt
above_upto t w p store zero = None
above_upto t w p store (suc n) = newer_at t w (above_upto t w p store n) (take (suc n) p) (path_versions_at (take (suc n) p) store)

-- the newest of what was found and of the first entries, as long as they lie beneath p
abbrev pub newest_down : ℕ → Option Window → Parts → Option MetAt → List (Key × PathVersions) → Option MetAt
newest_down t w p found [] = found
newest_down t w p found (e ∷ es) =
    if is_prefix p e.0.items then newest_down t w p (newer found e.0.items (time_in t w e.1)) es else found

-- the entries after a path
abbrev pub entries_past : Parts → VersionStore → List (Key × PathVersions)
entries_past p store = filter (λ (e : Key × PathVersions). is_lt (slice_cmp (slice_cmp nat_cmp) p e.0.items) && true) store.entries

-- the newest on the paths that are related to p
abbrev pub found_at : ℕ → Option Window → Parts → VersionStore → Option MetAt
found_at t w p store = newest_down t w p (above_upto t w p store (length p)) (entries_past p store)

-- the best of what was found and of what is found at these paths
abbrev pub best_from : ℕ → Option Window → VersionStore → Option MetAt → List Parts → Option MetAt
best_from t w store found [] = found
best_from t w store found (p ∷ ps) = best_from t w store (better found (found_at t w p store)) ps

-- what was found, as a time and a path
abbrev pub newest_met : Newest → MetAt
newest_met n = record { at = n.key.now.at; path = n.path.now }

abbrev pub time_of_met : MetAt → ℕ
time_of_met m = m.at

-- the greater of a time above t that was found and of another time, where there is one above t
abbrev pub later_time : ℕ → Option ℕ → ℕ → Option ℕ
later_time t None c = if nat_lt t c then Some c else None
later_time t (Some a) c = Some (max a c)

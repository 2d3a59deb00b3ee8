-- Where nothing beneath a path is newer than a time, the walk beneath it finds nothing.
use Rattle.std.proofs.Common.{◌≡◌, ℕ, ◌≤◌, Bool, true, false, ◌&&◌, List, [], ◌∷◌, Option, Some, None, if◌then◌else◌, length, nat_lt, refl, ap, ◌∙◌, arith}
use Rattle.std.specs.Prelude.{filter}
use Rattle.std.specs.Ordering.{is_lt}
use Rattle.std.specs.BTreeMap.{IsOrdered}
use Rattle.std.proofs.lemmas.Bool.Decides.{nat_tests}
use Rattle.doc_path.specs.Path.{Parts, is_prefix}
use Rattle.txn_data.specs.declared.version.Version.{Version}
use Rattle.txn_data.specs.declared.window.Window.{Window}
use Rattle.txn_data.specs.declared.met_at.MetAt.{MetAt}
use Rattle.txn_types.specs.Lists.{Member}
use Rattle.regular_records.specs.declared.newest_beneath.NewestBeneath.{NewestBeneath}
use Rattle.regular_records.specs.Store.{Key, PathVersions, VersionStore, versions_on, versions_of}
use Rattle.regular_records.specs.Kept.{version_key_order, AreKept, IsKept}
use Rattle.regular_records.specs.Related.{time_in, newer, above_upto, newest_down, found_at}
use Rattle.regular_records.specs.NewestBeneath.{newest_at, SumsUp}
use Rattle.regular_records.proofs.Order.{parts_cmp}
use Rattle.regular_records.proofs.Prefix.{and-left}
use Rattle.regular_records.proofs.Kept.{path-on, member-left, member-right}
use Rattle.regular_records.proofs.Times.{passes, in_window, IsBestTime, times-best}

-- no version of a path is above t
none-passes : (t : ℕ) (w : Option Window) (vs : List Version) (r : Option ℕ) → IsBestTime (passes t w) vs r → ((v : Version) → Member v vs → v.at ≤ t) → r ≡ None
none-passes t w vs None b low = refl
none-passes t w vs (Some c) b low =
    let late = and-left (nat_lt t b.0.0.at) (in_window w b.0.0) b.0.2 in
    let le = low b.0.0 b.0.1 in
    absurd (grind (arith, nat_tests))

-- nothing beneath p among these entries is above t
abbrev AreLow : ℕ → Parts → List (Key × PathVersions) → Type 0
AreLow t p es = (v : Version) → Member v (versions_of es) → is_prefix p v.path ≡ true → v.at ≤ t

low-rest : (t : ℕ) (p : Parts) (e : Key × PathVersions) (es : List (Key × PathVersions)) → AreLow t p (e ∷ es) → AreLow t p es
low-rest t p e es low v m = low v (member-right v (versions_on e.0.items e.1.entries) (versions_of es) m)

low-time : (t : ℕ) (w : Option Window) (p : Parts) (e : Key × PathVersions) (es : List (Key × PathVersions)) → IsOrdered version_key_order e.1 → AreLow t p (e ∷ es) → is_prefix p e.0.items ≡ true
    → time_in t w e.1 ≡ None
low-time t w p e es ordered low begins =
    none-passes t w (versions_on e.0.items e.1.entries) (time_in t w e.1) (times-best t w e.0.items e.1.entries ordered)
    (λ v m. low v (member-left v (versions_on e.0.items e.1.entries) (versions_of es) m) (ap (is_prefix p) (path-on e.0.items e.1.entries v m) ∙ begins))

down-low : (t : ℕ) (w : Option Window) (p : Parts) (found : Option MetAt) (es : List (Key × PathVersions)) → AreKept es → AreLow t p es
    → newest_down t w p found (filter (λ (e : Key × PathVersions). is_lt (parts_cmp p e.0.items) && true) es) ≡ found
down-low t w p found [] k low = refl
down-low t w p found (e ∷ es) k low =
    let rest = filter (λ (e : Key × PathVersions). is_lt (parts_cmp p e.0.items) && true) es in
    let P : Bool → Type 0 = λ x. newest_down t w p found (if x then e ∷ rest else rest) ≡ found in
    let next = down-low t w p found es k.1 (low-rest t p e es low) in
    elim (is_lt (parts_cmp p e.0.items) && true) as P [
      | true ↦
          let Q : Bool → Type 0 = λ y. is_prefix p e.0.items ≡ y → (if y then newest_down t w p (newer found e.0.items (time_in t w e.1)) rest else found) ≡ found in
          (elim (is_prefix p e.0.items) as Q [
            | true ↦ λ begins. ap (λ c. newest_down t w p (newer found e.0.items c) rest) (low-time t w p e es k.0.2 low begins) ∙ next
            | false ↦ λ begins. refl
          ]) refl
      | false ↦ next
    ]

pub found-above : (t : ℕ) (w : Option Window) (p : Parts) (store : VersionStore) (beneath : NewestBeneath) (found : Option MetAt) → IsKept store → SumsUp beneath (versions_of store.entries)
    → 1 ≤ length p → newest_at p beneath ≤ t → above_upto t w p store (length p) ≡ found → found_at t w p store ≡ found
found-above t w p store beneath found k sums some low is =
    down-low t w p (above_upto t w p store (length p)) store.entries k.1
    (λ v m begins. let le = (sums p some).0 v m begins in omega arith)
    ∙ is

-- The greatest commit time at one path.
use Rattle.std.proofs.Common.{◌≡◌, ℕ, ◌≤◌, Bool, true, false, ◌&&◌, List, [], ◌∷◌, Option, Some, None, if◌then◌else◌, nat_lt, refl, sym, ap, ◌∙◌, arith, inl, inr, subst}
use Rattle.std.specs.Prelude.{nat_le, filter}
use Rattle.std.specs.List.{cons_option, AllByRecursion}
use Rattle.std.specs.List.Sorted.{IsStrictlySortedBy}
use Rattle.std.specs.Map.{keys_of}
use Rattle.std.specs.BTreeMap.Range.{range_contains}
use Rattle.std.specs.Ordering.{is_le, nat_cmp, ordering_then}
use Rattle.std.specs.declared.cmp.Ordering.TheVariants.{Less}
use Rattle.std.specs.declared.ops.Bound.TheVariants.{Unbounded}
use Rattle.std.proofs.lemmas.Bool.Decides.{nat_tests}
use Rattle.doc_path.specs.Path.{Parts}
use Rattle.txn_data.specs.declared.version.Version.{Version}
use Rattle.txn_data.specs.declared.window.Window.{Window}
use Rattle.txn_types.specs.Lists.{Member, or_else}
use Rattle.regular_records.specs.declared.version_key.VersionKey.{VersionKey}
use Rattle.regular_records.specs.declared.version_value.VersionValue.{VersionValue}
use Rattle.regular_records.specs.Store.{Slot, version_of, shown, versions_on}
use Rattle.regular_records.specs.Kept.{version_key_order}
use Rattle.regular_records.specs.Related.{was_written, start_of, time_of, first_time}
use Rattle.regular_records.proofs.Prefix.{and-left, and-right}
use Rattle.regular_records.proofs.Kept.{member-cons_option, slot-of, shown-path, all-member, member-cons}

abbrev pub in_window : Option Window → Version → Bool
in_window None v = true
in_window (Some w) v = nat_le v.at w.g && nat_le v.wrote w.limit

abbrev pub passes : ℕ → Option Window → Version → Bool
passes t w v = nat_lt t v.at && in_window w v

-- the greatest time among those that pass
abbrev pub IsBestTime : (Version → Bool) → List Version → Option ℕ → Type 0
IsBestTime f vs None = (v : Version) → Member v vs → f v ≡ true → ⊥
IsBestTime f vs (Some c) = ((v : Version) × Member v vs × (f v ≡ true) × (v.at ≡ c)) × ((v : Version) → Member v vs → f v ≡ true → v.at ≤ c)

true-not-false : true ≡ false → ⊥
true-not-false h = cc

pub both : (a b : Bool) → a ≡ true → b ≡ true → (a && b) ≡ true
both true b h k = k
both false b h k = cc

-- one more version that does not pass
skip-best : (f : Version → Bool) (o : Option Version) (vs : List Version) (r : Option ℕ) → ((u : Version) → o ≡ Some u → f u ≡ true → ⊥) → IsBestTime f vs r → IsBestTime f (cons_option o vs) r
skip-best f o vs None none b = λ v m g. elim (member-cons_option v o vs m) [ inl e ↦ none v e g | inr n ↦ b v n g ]
skip-best f o vs (Some c) none b =
    ((b.0.0, member-cons b.0.0 o vs b.0.1, b.0.2, b.0.3), λ v m g. elim (member-cons_option v o vs m) [ inl e ↦ absurd (none v e g) | inr n ↦ b.1 v n g ])

older-at : (m n : VersionKey) → version_key_order m n ≡ Less → n.at ≤ m.at
older-at m n h = grind (arith, nat_tests)

rest-older : (p : Parts) (s : Slot) (slots : List Slot) → AllByRecursion (λ y. version_key_order s.0 y ≡ Less) (keys_of slots) → (v : Version) → Member v (versions_on p slots) → v.at ≤ s.0.at
rest-older p s slots a v m =
    let other = slot-of p slots v m in
    let older = older-at s.0 other.0.0 (all-member (λ y. version_key_order s.0 y ≡ Less) (keys_of slots) other.0.0 a other.1) in
    let is = (shown-path p other.0 v other.2).1 in
    omega arith

abbrev pub in_start : Option Window → Slot → Bool
in_start w s = range_contains version_key_order (start_of w) Unbounded s.0

not-above : (t n : ℕ) → nat_le n t ≡ true → nat_lt t n ≡ true → ⊥
not-above t n h k = grind (arith, nat_tests)

is-above : (t n : ℕ) → nat_le n t ≡ false → nat_lt t n ≡ true
is-above t n h = grind (arith, nat_tests)

too-old : (t n m : ℕ) → n ≤ m → nat_le m t ≡ true → nat_lt t n ≡ true → ⊥
too-old t n m le h k = grind (arith, nat_tests)

out-late : (at number g : ℕ) → nat_lt number 4294967296 ≡ true
    → (is_le (ordering_then (nat_cmp at g) (nat_cmp number 4294967295)) && true) ≡ false → nat_le at g ≡ true → ⊥
out-late at number g small out le = grind (arith, nat_tests)

in-early : (at number g : ℕ) → nat_lt number 4294967296 ≡ true
    → (is_le (ordering_then (nat_cmp at g) (nat_cmp number 4294967295)) && true) ≡ true → nat_le at g ≡ true
in-early at number g small inside = grind (arith, nat_tests)

-- what begins before the window does not pass
before-window : (t : ℕ) (w : Option Window) (p : Parts) (s : Slot) → in_start w s ≡ false → (u : Version) → shown p s ≡ Some u → passes t w u ≡ true → ⊥
before-window t None p s out u is g = true-not-false out
before-window t (Some w) p (m, None) out u is g = cc
before-window t (Some w) p (m, Some h) out u is g =
    let place = shown-path p (m, Some h) u is in
    let P : Bool → Type 0 = λ b. nat_lt m.number 4294967296 ≡ b → (if b then Some (version_of p m h) else None) ≡ Some u → ⊥ in
    (elim (nat_lt m.number 4294967296) as P [
      | true ↦ λ small e.
          let le : nat_le u.at w.g ≡ true = and-left (nat_le u.at w.g) (nat_le u.wrote w.limit) (and-right (nat_lt t u.at) (in_window (Some w) u) g) in
          let at = place.1 in
          out-late m.at m.number w.g small out (ap (λ n. nat_le n w.g) (sym at) ∙ le)
      | false ↦ λ small e. cc
    ]) refl is

-- ---- the first that passes

not-written : (t : ℕ) (w : Option Window) (p : Parts) (m : VersionKey) (h : VersionValue) → was_written w h ≡ false → passes t w (version_of p m h) ≡ true → ⊥
not-written t None p m h put g = true-not-false put
not-written t (Some w) p m h put g =
    true-not-false (sym (and-right (nat_le m.at w.g) (nat_le h.wrote w.limit) (and-right (nat_lt t m.at) (in_window (Some w) (version_of p m h)) g)) ∙ put)

window-from : (w : Option Window) (p : Parts) (m : VersionKey) (h : VersionValue) → nat_lt m.number 4294967296 ≡ true → was_written w h ≡ true → in_start w (m, Some h) ≡ true → in_window w (version_of p m h) ≡ true
window-from None p m h small put inside = refl
window-from (Some w) p m h small put inside = both (nat_le m.at w.g) (nat_le h.wrote w.limit) (in-early m.at m.number w.g small inside) put

here-best : (t : ℕ) (w : Option Window) (p : Parts) (m : VersionKey) (h : VersionValue) (slots : List Slot) (r : Option ℕ) (small written : Bool)
    → nat_lt m.number 4294967296 ≡ small → was_written w h ≡ written → in_start w (m, Some h) ≡ true → nat_le m.at t ≡ false
    → ((v : Version) → Member v (versions_on p slots) → v.at ≤ m.at)
    → IsBestTime (passes t w) (versions_on p slots) r
    → IsBestTime (passes t w) (cons_option (if small then Some (version_of p m h) else None) (versions_on p slots)) (or_else (if (small && written) then Some m.at else None) r)
here-best t w p m h slots r false written is put inside above older rest = rest
here-best t w p m h slots r true false is put inside above older rest =
    skip-best (passes t w) (Some (version_of p m h)) (versions_on p slots) r (λ u e g.
    let same : version_of p m h ≡ u = cc in
    not-written t w p m h put (let P : Version → Type 0 = λ x. passes t w x ≡ true in subst P (sym same) g)) rest
here-best t w p m h slots r true true is put inside above older rest = (
  (version_of p m h, inl refl, both (nat_lt t m.at) (in_window w (version_of p m h)) (is-above t m.at above) (window-from w p m h is put inside), refl),
  λ v k g. elim k [ inl e ↦ let at = ap (λ (x : Version). x.at) e in omega arith | inr n ↦ older v n ],
)

slot-best : (t : ℕ) (w : Option Window) (p : Parts) (s : Slot) (slots : List Slot) (r : Option ℕ) → in_start w s ≡ true → nat_le s.0.at t ≡ false
    → ((v : Version) → Member v (versions_on p slots) → v.at ≤ s.0.at)
    → IsBestTime (passes t w) (versions_on p slots) r
    → IsBestTime (passes t w) (versions_on p (s ∷ slots)) (or_else (time_of w s) r)
slot-best t w p (m, None) slots r inside above older rest = rest
slot-best t w p (m, Some h) slots r inside above older rest =
    here-best t w p m h slots r (nat_lt m.number 4294967296) (was_written w h) refl refl inside above older rest

pub times-best : (t : ℕ) (w : Option Window) (p : Parts) (slots : List Slot) → IsStrictlySortedBy version_key_order (keys_of slots)
    → IsBestTime (passes t w) (versions_on p slots) (first_time t w (filter (in_start w) slots))
unfolding IsStrictlySortedBy
times-best t w p [] o = λ v m g. m
times-best t w p (s ∷ slots) o =
    let rest = times-best t w p slots o.1 in
    let P : Bool → Type 0 = λ b. in_start w s ≡ b → IsBestTime (passes t w) (versions_on p (s ∷ slots)) (first_time t w (if b then s ∷ filter (in_start w) slots else filter (in_start w) slots)) in
    (elim (in_start w s) as P [
      | true ↦ λ b.
          let Q : Bool → Type 0 = λ c. nat_le s.0.at t ≡ c → IsBestTime (passes t w) (versions_on p (s ∷ slots)) (if c then None else or_else (time_of w s) (first_time t w (filter (in_start w) slots))) in
          (elim (nat_le s.0.at t) as Q [
            | true ↦ λ c. λ v m g. elim (member-cons_option v (shown p s) (versions_on p slots) m) [
              | inl e ↦ not-above t v.at (ap (λ n. nat_le n t) (shown-path p s v e).1 ∙ c) (and-left (nat_lt t v.at) (in_window w v) g)
              | inr n ↦ let older = rest-older p s slots o.0 v n in let late = and-left (nat_lt t v.at) (in_window w v) g in too-old t v.at s.0.at older c late
            ]
            | false ↦ λ c. slot-best t w p s slots (first_time t w (filter (in_start w) slots)) b c (rest-older p s slots o.0) rest
          ]) refl
      | false ↦ λ b. skip-best (passes t w) (shown p s) (versions_on p slots) (first_time t w (filter (in_start w) slots)) (before-window t w p s b) rest
    ]) refl

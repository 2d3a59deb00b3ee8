-- Down the prefixes of a path: the newest word in the map is the newest version of a list that it holds.
use Rattle.std.proofs.Common.{◌≡◌, ℕ, ◌≤◌, Bool, true, false, ◌&&◌, List, [], ◌∷◌, Option, Some, None, zero, suc, length, take, nat_eq, refl, sym, ap, ◌∙◌, arith, ◌⊎◌, inl, inr, subst}
use Rattle.std.specs.Prelude.{nat_le}
use Rattle.std.specs.List.Sorted.{IsStrictlySortedBy}
use Rattle.std.specs.Map.{keys_of, lookup}
use Rattle.std.specs.BTreeMap.{IsOrdered, is_at}
use Rattle.std.proofs.lemmas.Bool.Decides.{nat_tests}
use Rattle.std.proofs.lemmas.List.{length-take-le}
use Rattle.doc_path.specs.Path.{Parts, is_prefix}
use Rattle.txn_data.specs.declared.version.Version.{Version}
use Rattle.txn_types.specs.Lists.{Member}
use Rattle.regular_records.specs.Records.{newest}
use Rattle.regular_records.specs.Holding.{Holds}
use Rattle.regular_records.specs.Store.{Key, PathVersions, VersionStore, versions_on, versions_of, first_until, first_at, path_versions_at, newest_upto}
use Rattle.regular_records.specs.Kept.{version_key_order, key_order, AreKept, IsKept}
use Rattle.regular_records.proofs.Order.{parts_cmp}
use Rattle.regular_records.proofs.Prefix.{and-left, and-right, prefix-take, prefix-length, is_prefix-take}
use Rattle.regular_records.proofs.Among.{IsNewestAmong, decides, newest-held}
use Rattle.regular_records.proofs.Kept.{entry-of, kept-in, path-on, first-among, lookup-entry, lookup-found, combine, same-test}

abbrev pub upto_parts : ℕ → Parts → ℕ → Version → Bool
upto_parts t p n v = decides t p v && nat_le (length v.path) n

abbrev pub at_parts : ℕ → Parts → ℕ → Version → Bool
at_parts t p n v = decides t p v && nat_eq (length v.path) n

both : (a b : Bool) → a ≡ true → b ≡ true → (a && b) ≡ true
both true b h k = k
both false b h k = cc

pub entry-kept : (es : List (Key × PathVersions)) → AreKept es → (e : Key × PathVersions) → Member e es → (1 ≤ length e.0.items) × (length e.0.items ≤ 5) × IsOrdered version_key_order e.1
entry-kept [] k e m = absurd m
entry-kept (d ∷ es) k e m = elim m [
  | inl is ↦ let P : Key × PathVersions → Type 0 = λ x. (1 ≤ length x.0.items) × (length x.0.items ≤ 5) × IsOrdered version_key_order x.1 in subst P (sym is) k.0
  | inr n ↦ entry-kept es k.1 e n
]

at_parts-path : (t : ℕ) (p : Parts) (n : ℕ) (v : Version) → at_parts t p n v ≡ true → v.path ≡ take n p
at_parts-path t p n v h =
    let is : length v.path ≡ n = (let e = and-right (decides t p v) (nat_eq (length v.path) n) h in grind (arith, nat_tests)) in
    let begins = and-right (nat_le v.at t) (is_prefix v.path p) (and-left (decides t p v) (nat_eq (length v.path) n) h) in
    prefix-take v.path p begins ∙ ap (λ k. take k p) is

at_parts-time : (t : ℕ) (p : Parts) (n : ℕ) (v : Version) → at_parts t p n v ≡ true → nat_le v.at t ≡ true
at_parts-time t p n v h = and-left (nat_le v.at t) (is_prefix v.path p) (and-left (decides t p v) (nat_eq (length v.path) n) h)

at_parts-from : (t : ℕ) (p : Parts) (n : ℕ) (v : Version) → n ≤ length p → v.path ≡ take n p → nat_le v.at t ≡ true → at_parts t p n v ≡ true
at_parts-from t p n v fits is le =
    let begins : is_prefix v.path p ≡ true = ap (λ q. is_prefix q p) is ∙ is_prefix-take p n in
    let many : length v.path ≡ n = ap length is ∙ length-take-le n p fits in
    let same : nat_eq (length v.path) n ≡ true = grind (arith, nat_tests) in
    both (decides t p v) (nat_eq (length v.path) n) (both (nat_le v.at t) (is_prefix v.path p) le begins) same

abbrev MemberOf : Version → Parts → Option PathVersions → Type 0
MemberOf v q None = ⊥
MemberOf v q (Some m) = Member v (versions_on q m.entries)

-- the versions that are kept at a path are those of its entry
at-entry : (es : List (Key × PathVersions)) → IsStrictlySortedBy key_order (keys_of es) → (q : Parts) (m : PathVersions)
    → lookup (is_at (λ (k : Key). parts_cmp q k.items)) es ≡ Some m
    → (v : Version) → Member v (versions_of es) → v.path ≡ q → Member v (versions_on q m.entries)
at-entry es o q m found v h is =
    let at = entry-of es v h in
    let here : at.0.0.items ≡ q = sym (path-on at.0.0.items at.0.1.entries v at.2) ∙ is in
    let same : Some at.0.1 ≡ Some m = sym (lookup-entry es o at.0 at.1 q here) ∙ found in
    let P : Option PathVersions → Type 0 = λ o. MemberOf v q o in
    let there : MemberOf v at.0.0.items (Some at.0.1) = at.2 in
    let Q : Parts → Type 0 = λ r. MemberOf v r (Some at.0.1) in
    subst P same (subst Q here there)

at-none : (es : List (Key × PathVersions)) → IsStrictlySortedBy key_order (keys_of es) → (q : Parts)
    → lookup (is_at (λ (k : Key). parts_cmp q k.items)) es ≡ None
    → (v : Version) → Member v (versions_of es) → v.path ≡ q → ⊥
at-none es o q missing v h is =
    let at = entry-of es v h in
    let here : at.0.0.items ≡ q = sym (path-on at.0.0.items at.0.1.entries v at.2) ∙ is in
    let same : Some at.0.1 ≡ None = sym (lookup-entry es o at.0 at.1 q here) ∙ missing in
    cc

found-among : (t : ℕ) (p : Parts) (n : ℕ) (es : List (Key × PathVersions)) → n ≤ length p → IsStrictlySortedBy key_order (keys_of es) → AreKept es → (m : PathVersions)
    → lookup (is_at (λ (k : Key). parts_cmp (take n p) k.items)) es ≡ Some m
    → (r : Option Version) → IsNewestAmong (λ v. nat_le v.at t) (versions_on (take n p) m.entries) r
    → IsNewestAmong (at_parts t p n) (versions_of es) r
found-among t p n es fits o k m found None h =
    λ v h' g. h v (at-entry es o (take n p) m found v h' (at_parts-path t p n v g)) (at_parts-time t p n v g)
found-among t p n es fits o k m found (Some x) h =
    let e = lookup-found es (take n p) m found in
    let P : Parts × PathVersions → Type 0 = λ r. Member x (versions_on r.0 r.1.entries) in
    let pair : (take n p, m) ≡ (e.0.0.items, e.0.1) = cc (e.2, e.3) in (
      kept-in es e.0 x e.1 (subst P pair h.0),
      at_parts-from t p n x fits (path-on (take n p) m.entries x h.0) h.1,
      λ v h' g. h.2 v (at-entry es o (take n p) m found v h' (at_parts-path t p n v g)) (at_parts-time t p n v g),
    )

at-among : (t : ℕ) (p : Parts) (n : ℕ) (store : VersionStore) → n ≤ length p → IsKept store
    → IsNewestAmong (at_parts t p n) (versions_of store.entries) (first_at t (take n p) (path_versions_at (take n p) store))
at-among t p n store fits k =
    let q = take n p in
    let P : Option PathVersions → Type 0 = λ o. path_versions_at q store ≡ o → IsNewestAmong (at_parts t p n) (versions_of store.entries) (first_at t q o) in
    (elim (path_versions_at q store) as P [
      | None ↦ λ e. λ v m g. at-none store.entries k.0 q e v m (at_parts-path t p n v g)
      | Some m ↦ λ e.
          let f = lookup-found store.entries q m e in
          let Q : PathVersions → Type 0 = λ x. IsOrdered version_key_order x in
          let ordered = subst Q f.3 (entry-kept store.entries k.1 f.0 f.1).2 in
          found-among t p n store.entries fits k.0 k.1 m e (first_until t q m.entries) (first-among t q m.entries ordered)
    ]) refl

upto-split : (t : ℕ) (p : Parts) (n : ℕ) (v : Version) → upto_parts t p (suc n) v ≡ true → (upto_parts t p n v ≡ true) ⊎ (at_parts t p (suc n) v ≡ true)
upto-split t p n v h =
    let d = and-left (decides t p v) (nat_le (length v.path) (suc n)) h in
    let le = and-right (decides t p v) (nat_le (length v.path) (suc n)) h in
    let P : Bool → Type 0 = λ b. nat_le (length v.path) n ≡ b → (upto_parts t p n v ≡ true) ⊎ (at_parts t p (suc n) v ≡ true) in
    (elim (nat_le (length v.path) n) as P [
      | true ↦ λ e. inl (both (decides t p v) (nat_le (length v.path) n) d e)
      | false ↦ λ e. let same : nat_eq (length v.path) (suc n) ≡ true = grind (arith, nat_tests) in inr (both (decides t p v) (nat_eq (length v.path) (suc n)) d same)
    ]) refl

upto-more : (t : ℕ) (p : Parts) (n : ℕ) (v : Version) → upto_parts t p n v ≡ true → upto_parts t p (suc n) v ≡ true
upto-more t p n v h =
    let le = and-right (decides t p v) (nat_le (length v.path) n) h in
    let more : nat_le (length v.path) (suc n) ≡ true = grind (arith, nat_tests) in
    both (decides t p v) (nat_le (length v.path) (suc n)) (and-left (decides t p v) (nat_le (length v.path) n) h) more

upto-here : (t : ℕ) (p : Parts) (n : ℕ) (v : Version) → at_parts t p n v ≡ true → upto_parts t p n v ≡ true
upto-here t p n v h =
    let same = and-right (decides t p v) (nat_eq (length v.path) n) h in
    let le : nat_le (length v.path) n ≡ true = grind (arith, nat_tests) in
    both (decides t p v) (nat_le (length v.path) n) (and-left (decides t p v) (nat_eq (length v.path) n) h) le

upto-none : (t : ℕ) (p : Parts) (store : VersionStore) → IsKept store → (v : Version) → Member v (versions_of store.entries) → upto_parts t p 0 v ≡ true → ⊥
upto-none t p store k v m h =
    let at = entry-of store.entries v m in
    let some = (entry-kept store.entries k.1 at.0 at.1).0 in
    let is : length v.path ≡ length at.0.0.items = ap length (path-on at.0.0.items at.0.1.entries v at.2) in
    let none = and-right (decides t p v) (nat_le (length v.path) 0) h in
    grind (arith, nat_tests)

pub upto-among : (t : ℕ) (p : Parts) (store : VersionStore) → IsKept store → (n : ℕ) → n ≤ length p
    → IsNewestAmong (upto_parts t p n) (versions_of store.entries) (newest_upto t p store n)
unfolding newest_upto
upto-among t p store k zero fits = upto-none t p store k
upto-among t p store k (suc n) fits =
    combine (upto_parts t p n) (at_parts t p (suc n)) (upto_parts t p (suc n)) (versions_of store.entries)
    (upto-split t p n) (upto-more t p n) (upto-here t p (suc n)) (newest_upto t p store n) (first_at t (take (suc n) p) (path_versions_at (take (suc n) p) store))
    (upto-among t p store k n (omega arith)) (at-among t p (suc n) store fits k)

whole : (t : ℕ) (p : Parts) (v : Version) → decides t p v ≡ true → upto_parts t p (length p) v ≡ true
whole t p v h =
    let le = prefix-length v.path p (and-right (nat_le v.at t) (is_prefix v.path p) h) in
    let fits : nat_le (length v.path) (length p) ≡ true = grind (arith, nat_tests) in
    both (decides t p v) (nat_le (length v.path) (length p)) h fits

-- the newest word in the map is the newest version of a list that it holds
pub newest-kept : (t : ℕ) (p : Parts) (store : VersionStore) (vs : List Version) → IsKept store → Holds (versions_of store.entries) vs
    → newest_upto t p store (length p) ≡ newest t p vs
newest-kept t p store vs k h =
    newest-held t p (versions_of store.entries) vs (newest_upto t p store (length p)) h
    (same-test (upto_parts t p (length p)) (decides t p) (versions_of store.entries) (λ v g. and-left (decides t p v) (nat_le (length v.path) (length p)) g) (whole t p)
    (newest_upto t p store (length p)) (upto-among t p store k (length p) (omega arith)))

-- The newest on related paths in the map, for a list that it holds.
use Rattle.std.proofs.Common.{◌≡◌, ℕ, ◌≤◌, Bool, true, false, ◌&&◌, List, [], ◌∷◌, ◌++◌, Option, Some, None, if◌then◌else◌, zero, suc, length, take, nat_eq, refl, sym, ap, ◌∙◌, arith, inl, inr, subst, append_assoc, append-nil}
use Rattle.std.specs.Prelude.{filter}
use Rattle.std.specs.List.{AllByRecursion}
use Rattle.std.specs.List.Sorted.{IsStrictlySortedBy}
use Rattle.std.specs.Map.{keys_of}
use Rattle.std.specs.BTreeMap.{IsOrdered}
use Rattle.std.specs.Ordering.{is_lt, is_le}
use borrow.Author.Tests.{eqb-true, eqb-false}
use Rattle.std.specs.declared.cmp.Ordering.{Ordering}
use Rattle.std.specs.declared.cmp.Ordering.TheVariants.{Less, Equal, Greater}
use Rattle.doc_path.specs.Path.{Parts, is_prefix, path_order}
use Rattle.txn_data.specs.declared.version.Version.{Version}
use Rattle.txn_data.specs.declared.window.Window.{Window}
use Rattle.txn_data.specs.declared.met_at.MetAt.{MetAt}
use Rattle.txn_types.specs.Lists.{Member}
use Rattle.txn_types.specs.Tablet.{not_after}
use Rattle.regular_records.specs.Store.{Key, PathVersions, VersionStore, versions_on, versions_of, path_versions_at}
use Rattle.regular_records.specs.Kept.{version_key_order, key_order, AreKept, IsKept}
use Rattle.regular_records.specs.Related.{time_in, newer, newer_at, above_upto, newest_down}
use Rattle.regular_records.proofs.Order.{parts_cmp, take-less}
use Rattle.regular_records.proofs.Prefix.{and-right}
use Rattle.regular_records.proofs.Kept.{entry-of, kept-in, path-on, lookup-entry, lookup-found, member-append, member-left, member-right, all-member, key-member}
use Rattle.regular_records.proofs.Down.{entry-kept}
use Rattle.regular_records.proofs.Beneath.{between-beneath}
use Rattle.regular_records.proofs.Times.{passes, times-best, both}
use Rattle.regular_records.proofs.Best.{IsBest, extend, not_after-less}

-- ---- the versions at the prefixes of a path

abbrev list_at : Parts → Option PathVersions → List Version
list_at q None = []
list_at q (Some m) = versions_on q m.entries

unfoldable pub above_list : Parts → VersionStore → ℕ → List Version
above_list p store zero = []
above_list p store (suc n) = above_list p store n ++ list_at (take (suc n) p) (path_versions_at (take (suc n) p) store)

list_at-path : (q : Parts) (o : Option PathVersions) (v : Version) → Member v (list_at q o) → v.path ≡ q
list_at-path q None v m = absurd m
list_at-path q (Some o) v m = path-on q o.entries v m

pub above-prefix : (p : Parts) (store : VersionStore) (n : ℕ) (v : Version) → Member v (above_list p store n) → (k : ℕ) × (k ≤ n) × (v.path ≡ take k p)
unfolding above_list
above-prefix p store zero v m = absurd m
above-prefix p store (suc n) v m = elim (member-append v (above_list p store n) (list_at (take (suc n) p) (path_versions_at (take (suc n) p) store)) m) [
  | inl k ↦ let rest = above-prefix p store n v k in (rest.0, omega arith, rest.2)
  | inr k ↦ (suc n, omega arith, list_at-path (take (suc n) p) (path_versions_at (take (suc n) p) store) v k)
]

above-before : (p : Parts) (store : VersionStore) (n : ℕ) → suc n ≤ length p → (v : Version) → Member v (above_list p store n) → not_after (path_order v.path (take (suc n) p)) ≡ true
above-before p store n fits v m =
    let at = above-prefix p store n v m in
    ap (λ q. not_after (path_order q (take (suc n) p))) at.2 ∙ ap not_after (take-less p at.0 (suc n) (omega arith) fits)

store-ordered : (store : VersionStore) → IsKept store → (q : Parts) (m : PathVersions) → path_versions_at q store ≡ Some m → IsOrdered version_key_order m
store-ordered store k q m found =
    let e = lookup-found store.entries q m found in
    subst (λ (x : PathVersions). IsOrdered version_key_order x) e.3 (entry-kept store.entries k.1 e.0 e.1).2

step-best : (t : ℕ) (w : Option Window) (q : Parts) (done : List Version) (found : Option MetAt) (o : Option PathVersions)
    → ((m : PathVersions) → o ≡ Some m → IsOrdered version_key_order m)
    → IsBest (passes t w) done found → ((v : Version) → Member v done → not_after (path_order v.path q) ≡ true)
    → IsBest (passes t w) (done ++ list_at q o) (newer_at t w found q o)
step-best t w q done found None ordered b before = subst (λ vs. IsBest (passes t w) vs found) (sym (append-nil done)) b
step-best t w q done found (Some m) ordered b before =
    extend (passes t w) done (versions_on q m.entries) q found (time_in t w m) b (times-best t w q m.entries (ordered m refl)) (λ v k. path-on q m.entries v k) (λ v k g. before v k)

pub above-best : (t : ℕ) (w : Option Window) (p : Parts) (store : VersionStore) → IsKept store → (n : ℕ) → n ≤ length p → IsBest (passes t w) (above_list p store n) (above_upto t w p store n)
unfolding above_list above_upto
above-best t w p store k zero fits = λ v m g. m
above-best t w p store k (suc n) fits =
    step-best t w (take (suc n) p) (above_list p store n) (above_upto t w p store n) (path_versions_at (take (suc n) p) store) (store-ordered store k (take (suc n) p))
    (above-best t w p store k n (omega arith)) (above-before p store n fits)

list_at-has : (store : VersionStore) → IsKept store → (q : Parts) (v : Version) → Member v (versions_of store.entries) → v.path ≡ q → Member v (list_at q (path_versions_at q store))
list_at-has store k q v m is =
    let at = entry-of store.entries v m in
    let here : at.0.0.items ≡ q = sym (path-on at.0.0.items at.0.1.entries v at.2) ∙ is in
    let found = lookup-entry store.entries k.0 at.0 at.1 q here in
    subst (λ o. Member v (list_at q o)) (sym found) (subst (λ r. Member v (versions_on r at.0.1.entries)) here at.2)

pub above-has : (p : Parts) (store : VersionStore) → IsKept store → (n j : ℕ) → suc j ≤ n → (v : Version) → Member v (versions_of store.entries) → v.path ≡ take (suc j) p → Member v (above_list p store n)
unfolding above_list
above-has p store k zero j le v m is = absurd (omega arith)
above-has p store k (suc n) j le v m is =
    let P : Bool → Type 0 = λ b. nat_eq j n ≡ b → Member v (above_list p store n ++ list_at (take (suc n) p) (path_versions_at (take (suc n) p) store)) in
    (elim (nat_eq j n) as P [
      | true ↦ λ e. let same : j ≡ n = eqb-true j n e in member-right v (above_list p store n) _ (list_at-has store k (take (suc n) p) v m (is ∙ ap (λ i. take (suc i) p) same))
      | false ↦ λ e. let apart = eqb-false j n e in member-left v (above_list p store n) _ (above-has p store k n j (omega arith) v m is)
    ]) refl

list_at-kept : (store : VersionStore) (q : Parts) (v : Version) → Member v (list_at q (path_versions_at q store)) → Member v (versions_of store.entries)
list_at-kept store q v m =
    let P : Option PathVersions → Type 0 = λ o. path_versions_at q store ≡ o → Member v (list_at q o) → Member v (versions_of store.entries) in
    (elim (path_versions_at q store) as P [
      | None ↦ λ e k. absurd k
      | Some x ↦ λ e k.
          let f = lookup-found store.entries q x e in
          let R : Parts → PathVersions → Type 0 = λ r y. Member v (versions_on r y.entries) in
          kept-in store.entries f.0 v f.1 (subst (λ r. R r f.0.1) (sym f.2) (subst (R q) (sym f.3) k))
    ]) refl m

pub above-kept : (p : Parts) (store : VersionStore) (n : ℕ) (v : Version) → Member v (above_list p store n) → Member v (versions_of store.entries)
unfolding above_list
above-kept p store zero v m = absurd m
above-kept p store (suc n) v m = elim (member-append v (above_list p store n) (list_at (take (suc n) p) (path_versions_at (take (suc n) p) store)) m) [
  | inl k ↦ above-kept p store n v k
  | inr k ↦ list_at-kept store (take (suc n) p) v k
]

-- ---- the versions beneath a path

abbrev pub is_below : Parts → Parts → Bool
is_below p q = is_lt (parts_cmp p q) && is_prefix p q

pub beneath_list : Parts → List (Key × PathVersions) → List Version
beneath_list p [] = []
beneath_list p (e ∷ es) = if is_below p e.0.items then versions_on e.0.items e.1.entries ++ beneath_list p es else beneath_list p es

less-is : (o : Ordering) → is_lt o ≡ true → o ≡ Less
less-is Less h = refl
less-is Equal h = cc
less-is Greater h = cc

lt-le : (o : Ordering) → is_lt o ≡ true → is_le o ≡ true
lt-le Less h = refl
lt-le Equal h = cc
lt-le Greater h = cc

true-not-false : true ≡ false → ⊥
true-not-false h = cc

pub none-below : (p k : Parts) (es : List (Key × PathVersions)) → is_lt (parts_cmp p k) ≡ true → is_prefix p k ≡ false
    → AllByRecursion (λ (y : Key). parts_cmp k y.items ≡ Less) (keys_of es) → beneath_list p es ≡ []
unfolding beneath_list
none-below p k [] lt apart a = refl
none-below p k (e ∷ es) lt apart a =
    let P : Bool → Type 0 = λ b. is_below p e.0.items ≡ b → (if b then versions_on e.0.items e.1.entries ++ beneath_list p es else beneath_list p es) ≡ [] in
    (elim (is_below p e.0.items) as P [
      | true ↦ λ h. absurd (true-not-false (sym (between-beneath p k e.0.items (lt-le (parts_cmp p k) lt) a.0 (and-right (is_lt (parts_cmp p e.0.items)) (is_prefix p e.0.items) h)) ∙ apart))
      | false ↦ λ h. none-below p k es lt apart a.1
    ]) refl

-- what was found stands before all that lies beneath
abbrev pub Earlier : Parts → List Version → List (Key × PathVersions) → Type 0
Earlier p done es = (v : Version) → Member v done → (e : Key × PathVersions) → Member e es → is_below p e.0.items ≡ true → not_after (path_order v.path e.0.items) ≡ true

pub down-best : (t : ℕ) (w : Option Window) (p : Parts) (es : List (Key × PathVersions)) → IsStrictlySortedBy key_order (keys_of es) → AreKept es
    → (done : List Version) (found : Option MetAt) → IsBest (passes t w) done found → Earlier p done es
    → IsBest (passes t w) (done ++ beneath_list p es) (newest_down t w p found (filter (λ (e : Key × PathVersions). is_lt (parts_cmp p e.0.items) && true) es))
unfolding IsStrictlySortedBy beneath_list
down-best t w p [] o k done found b early = subst (λ vs. IsBest (passes t w) vs found) (sym (append-nil done)) b
down-best t w p (e ∷ es) o k done found b early =
    let q = e.0.items in
    let own = versions_on q e.1.entries in
    let rest = filter (λ (e : Key × PathVersions). is_lt (parts_cmp p e.0.items) && true) es in
    let later : Earlier p done es = λ v m d n. early v m d (inr n) in
    let P : Bool → Type 0 = λ x. is_lt (parts_cmp p q) ≡ x
    → IsBest (passes t w) (done ++ (if (x && is_prefix p q) then own ++ beneath_list p es else beneath_list p es)) (newest_down t w p found (if (x && true) then e ∷ rest else rest)) in
    (elim (is_lt (parts_cmp p q)) as P [
      | true ↦ λ lt.
          let Q : Bool → Type 0 = λ y. is_prefix p q ≡ y
          → IsBest (passes t w) (done ++ (if y then own ++ beneath_list p es else beneath_list p es)) (if y then newest_down t w p (newer found q (time_in t w e.1)) rest else found) in
          (elim (is_prefix p q) as Q [
            | true ↦ λ pre.
                let more = extend (passes t w) done own q found (time_in t w e.1) b (times-best t w q e.1.entries k.0.2) (λ v m. path-on q e.1.entries v m)
                (λ v m g. early v m e (inl refl) (both (is_lt (parts_cmp p q)) (is_prefix p q) lt pre)) in
                let next : Earlier p (done ++ own) es = λ v m d n below. elim (member-append v done own m) [
                  | inl l ↦ later v l d n below
                  | inr r ↦ ap (λ x. not_after (path_order x d.0.items)) (path-on q e.1.entries v r) ∙ not_after-less q d.0.items (all-member (λ y. key_order e.0 y ≡ Less) (keys_of es) d.0 o.0 (key-member es d n))
                ] in
                subst (λ vs. IsBest (passes t w) vs (newest_down t w p (newer found q (time_in t w e.1)) rest)) (append_assoc done own (beneath_list p es))
                (down-best t w p es o.1 k.1 (done ++ own) (newer found q (time_in t w e.1)) more next)
            | false ↦ λ pre. subst (λ vs. IsBest (passes t w) vs found) (sym (ap (λ r. done ++ r) (none-below p q es lt pre o.0) ∙ append-nil done)) b
          ]) refl
      | false ↦ λ lt. down-best t w p es o.1 k.1 done found b later
    ]) refl

pub below-has : (p : Parts) (es : List (Key × PathVersions)) (e : Key × PathVersions) (v : Version) → Member e es → Member v (versions_on e.0.items e.1.entries) → is_below p e.0.items ≡ true → Member v (beneath_list p es)
unfolding beneath_list
below-has p [] e v m n h = absurd m
below-has p (d ∷ es) e v m n h = elim m [
  | inl is ↦
      let here : is_below p d.0.items ≡ true = ap (λ (x : Key × PathVersions). is_below p x.0.items) (sym is) ∙ h in
      let P : Bool → Type 0 = λ b. Member v (if b then versions_on d.0.items d.1.entries ++ beneath_list p es else beneath_list p es) in
      subst P (sym here) (member-left v (versions_on d.0.items d.1.entries) (beneath_list p es) (subst (λ (x : Key × PathVersions). Member v (versions_on x.0.items x.1.entries)) is n))
  | inr k ↦
      let there = below-has p es e v k n h in
      elim (is_below p d.0.items) as (λ b. Member v (if b then versions_on d.0.items d.1.entries ++ beneath_list p es else beneath_list p es)) [ true ↦ member-right v (versions_on d.0.items d.1.entries) (beneath_list p es) there | false ↦ there ]
]

pub below-kept : (p : Parts) (es : List (Key × PathVersions)) (v : Version) → Member v (beneath_list p es) → Member v (versions_of es) × (is_prefix p v.path ≡ true)
unfolding beneath_list
below-kept p [] v m = absurd m
below-kept p (d ∷ es) v m =
    let own = versions_on d.0.items d.1.entries in
    let P : Bool → Type 0 = λ b. is_below p d.0.items ≡ b → Member v (if b then own ++ beneath_list p es else beneath_list p es) → Member v (versions_of (d ∷ es)) × (is_prefix p v.path ≡ true) in
    (elim (is_below p d.0.items) as P [
      | true ↦ λ h k. elim (member-append v own (beneath_list p es) k) [
        | inl n ↦ (member-left v own (versions_of es) n, ap (is_prefix p) (path-on d.0.items d.1.entries v n) ∙ and-right (is_lt (parts_cmp p d.0.items)) (is_prefix p d.0.items) h)
        | inr n ↦ let rest = below-kept p es v n in (member-right v own (versions_of es) rest.0, rest.1)
      ]
      | false ↦ λ h k. let rest = below-kept p es v k in (member-right v own (versions_of es) rest.0, rest.1)
    ]) refl m

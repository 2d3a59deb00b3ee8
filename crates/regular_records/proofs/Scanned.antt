-- The rows of a scan of the map are those of a list that it holds.
use Rattle.std.proofs.Common.{◌≡◌, ℕ, ◌+◌, Bool, true, false, ◌&&◌, List, [], ◌∷◌, ◌++◌, Option, Some, None, if◌then◌else◌, length, refl, sym, ap, ◌∙◌, arith, ◌⊎◌, inl, inr, subst}
use Rattle.std.specs.Prelude.{filter, flat_map, option_map, nat_le}
use Rattle.std.specs.List.{AllByRecursion}
use Rattle.std.specs.List.Sorted.{IsStrictlySortedBy}
use Rattle.std.specs.Map.{keys_of}
use Rattle.std.specs.BTreeMap.Range.{range_contains}
use Rattle.std.specs.Ordering.{is_le}
use Rattle.std.specs.declared.ops.Bound.TheVariants.{Included, Unbounded}
use Rattle.std.specs.declared.cmp.Ordering.TheVariants.{Less}
use Rattle.std.proofs.lemmas.List.{take_all}
use Rattle.doc_path.specs.Path.{Parts, is_prefix}
use Rattle.txn_data.specs.declared.version.Version.{Version}
use Rattle.txn_data.specs.declared.row.Row.{Row}
use Rattle.txn_data.specs.declared.written.Written.{Written}
use Rattle.txn_types.specs.Lists.{Member, or_else}
use Rattle.txn_types.specs.Writes.{set_at, value, value_set, last_word, row_with, paths_beneath, beneath}
use Rattle.txn_types.specs.Tablet.{writes_at}
use Rattle.regular_records.specs.Records.{write_of}
use Rattle.regular_records.specs.Holding.{Holds}
use Rattle.regular_records.specs.Store.{Key, PathVersions, VersionStore, versions_of, newest_upto}
use Rattle.regular_records.specs.Kept.{key_order, IsKept}
use Rattle.regular_records.specs.Scan.{value_upto, rows_down, entries_from}
use Rattle.regular_records.proofs.Order.{parts_cmp}
use Rattle.regular_records.proofs.Prefix.{and-left, and-right, prefix-take, prefix-length}
use Rattle.regular_records.proofs.Among.{IsNewestAmong}
use Rattle.regular_records.proofs.Kept.{entry-of, path-on}
use Rattle.regular_records.proofs.Down.{upto_parts, upto-among}
use Rattle.regular_records.proofs.Held.{value-kept}
use Rattle.regular_records.proofs.Beneath.{prefix-first, between-beneath}
use Rattle.regular_records.proofs.Rows.{items_of, rising-items, rising-filter, rising-beneath, beneath-has, beneath-prefix, Covers, same-rows}

true-not-false : true ≡ false → ⊥
true-not-false h = cc

-- ---- what lies beneath stands at the front

none-after : (p k : Parts) (es : List (Key × PathVersions)) → is_le (parts_cmp p k) ≡ true → is_prefix p k ≡ false
    → AllByRecursion (λ (y : Key). parts_cmp k y.items ≡ Less) (keys_of es) → filter (is_prefix p) (items_of es) ≡ []
none-after p k [] le apart a = refl
none-after p k (e ∷ es) le apart a =
    let P : Bool → Type 0 = λ b. is_prefix p e.0.items ≡ b → (if b then e.0.items ∷ filter (is_prefix p) (items_of es) else filter (is_prefix p) (items_of es)) ≡ [] in
    (elim (is_prefix p e.0.items) as P [
      | true ↦ λ h. absurd (true-not-false (sym (between-beneath p k e.0.items le a.0 h) ∙ apart))
      | false ↦ λ h. none-after p k es le apart a.1
    ]) refl

abbrev rows_of : ℕ → VersionStore → Parts → List Row
rows_of t store q = row_with q (value_upto t store q)

rows-filter : (t : ℕ) (key : Key) (store : VersionStore) (es : List (Key × PathVersions)) → IsStrictlySortedBy key_order (keys_of es)
    → rows_down t key.items store (filter (λ (e : Key × PathVersions). range_contains key_order (Included key) Unbounded e.0) es)
    ≡ flat_map (rows_of t store) (filter (is_prefix key.items) (items_of es))
unfolding IsStrictlySortedBy
rows-filter t key store [] o = refl
rows-filter t key store (e ∷ es) o =
    let p = key.items in
    let k = e.0.items in
    let rest = filter (λ (e : Key × PathVersions). range_contains key_order (Included key) Unbounded e.0) es in
    let under = filter (is_prefix p) (items_of es) in
    let P : Bool → Type 0 = λ b. is_le (parts_cmp p k) ≡ b
    → rows_down t p store (if (b && true) then e ∷ rest else rest) ≡ flat_map (rows_of t store) (if is_prefix p k then k ∷ under else under) in
    (elim (is_le (parts_cmp p k)) as P [
      | true ↦ λ h.
          let Q : Bool → Type 0 = λ c. is_prefix p k ≡ c
          → (if c then rows_of t store k ++ rows_down t p store rest else []) ≡ flat_map (rows_of t store) (if c then k ∷ under else under) in
          (elim (is_prefix p k) as Q [
            | true ↦ λ c. ap (λ r. rows_of t store k ++ r) (rows-filter t key store es o.1)
            | false ↦ λ c. sym (ap (flat_map (rows_of t store)) (none-after p k es h c o.0))
          ]) refl
      | false ↦ λ h.
          let R : Bool → Type 0 = λ c. is_prefix p k ≡ c → rows_down t p store rest ≡ flat_map (rows_of t store) (if c then k ∷ under else under) in
          (elim (is_prefix p k) as R [
            | true ↦ λ c. absurd (true-not-false (sym (prefix-first p k c) ∙ h))
            | false ↦ λ c. rows-filter t key store es o.1
          ]) refl
    ]) refl

-- ---- paths with a value

same-from-prefixes : (q r : Parts) → is_prefix q r ≡ true → is_prefix r q ≡ true → r ≡ q
same-from-prefixes q r h k = prefix-take r q k ∙ take_all (length r) q (prefix-length q r h)

-- where a value is set, there is a write at exactly that path
set-there : (q : Parts) (o : Option Written) (v : List ℕ) → set_at q o ≡ Some v → (w : Written) × (o ≡ Some w) × (is_prefix q w.path ≡ true)
set-there q None v h = cc
set-there q (Some w) v h =
    let P : Bool → Type 0 = λ b. is_prefix q w.path ≡ b → (if b then value_set w.op else None) ≡ Some v → (u : Written) × (Some w ≡ Some u) × (is_prefix q u.path ≡ true) in
    (elim (is_prefix q w.path) as P [ true ↦ λ b e. (w, refl, b) | false ↦ λ b e. cc ]) refl h

mapped : (o : Option Version) (w : Written) → option_map write_of o ≡ Some w → (v : Version) × (o ≡ Some v) × (write_of v ≡ w)
mapped None w h = cc
mapped (Some v) w h = (v, refl, cc)

last-member : (ws : List Written) (q : Parts) (w : Written) → last_word ws q ≡ Some w → Member w ws × (is_prefix w.path q ≡ true)
unfolding last_word
last-member [] q w h = cc
last-member (v ∷ ws) q w h =
    let P : Option Written → Type 0 = λ o. last_word ws q ≡ o → or_else o (if is_prefix v.path q then Some v else None) ≡ Some w → Member w (v ∷ ws) × (is_prefix w.path q ≡ true) in
    (elim (last_word ws q) as P [
      | Some x ↦ λ e k. let rest = last-member ws q w (e ∙ k) in (inr rest.0, rest.1)
      | None ↦ λ e k.
          let Q : Bool → Type 0 = λ b. is_prefix v.path q ≡ b → (if b then Some v else None) ≡ Some w → Member w (v ∷ ws) × (is_prefix w.path q ≡ true) in
          (elim (is_prefix v.path q) as Q [
            | true ↦ λ b k. let is : v ≡ w = cc in (inl (sym is), ap (λ (x : Written). is_prefix x.path q) (sym is) ∙ b)
            | false ↦ λ b k. cc
          ]) refl k
    ]) refl h

empty-row : (q : Parts) (o : Option (List ℕ)) → o ≡ None → row_with q o ≡ []
empty-row q o h = ap (row_with q) h

member-filter : (f : Parts → Bool) (q : Parts) (qs : List Parts) → Member q qs → f q ≡ true → Member q (filter f qs)
member-filter f q [] m h = absurd m
member-filter f q (r ∷ qs) m h = elim m [
  | inl e ↦
      let here : f r ≡ true = ap f (sym e) ∙ h in
      let P : Bool → Type 0 = λ b. Member q (if b then r ∷ filter f qs else filter f qs) in
      subst P (sym here) (inl e)
  | inr n ↦ elim (f r) as (λ b. Member q (if b then r ∷ filter f qs else filter f qs)) [ true ↦ inr (member-filter f q qs n h) | false ↦ member-filter f q qs n h ]
]

filter-passes : (f : Parts → Bool) (q : Parts) (qs : List Parts) → Member q (filter f qs) → f q ≡ true
filter-passes f q [] m = absurd m
filter-passes f q (r ∷ qs) m =
    let P : Bool → Type 0 = λ b. f r ≡ b → Member q (if b then r ∷ filter f qs else filter f qs) → f q ≡ true in
    (elim (f r) as P [
      | true ↦ λ h k. elim k [ inl e ↦ ap f e ∙ h | inr n ↦ filter-passes f q qs n ]
      | false ↦ λ h k. filter-passes f q qs k
    ]) refl m

member-items : (es : List (Key × PathVersions)) (e : Key × PathVersions) → Member e es → Member e.0.items (items_of es)
member-items [] e m = absurd m
member-items (d ∷ es) e m = elim m [ inl is ↦ inl (ap (λ (x : Key × PathVersions). x.0.items) is) | inr n ↦ inr (member-items es e n) ]

-- a path with a value in the map has an entry
valued-entry : (t : ℕ) (store : VersionStore) → IsKept store → (q : Parts) (v : List ℕ) → value_upto t store q ≡ Some v → Member q (items_of store.entries)
valued-entry t store k q v h =
    let w = set-there q (option_map write_of (newest_upto t q store (length q))) v h in
    let x = mapped (newest_upto t q store (length q)) w.0 w.1 in
    let P : Option Version → Type 0 = λ o. IsNewestAmong (upto_parts t q (length q)) (versions_of store.entries) o in
    let among = subst P x.1 (upto-among t q store k (length q) (omega arith)) in
    let path : w.0.path ≡ x.0.path = sym (ap (λ (y : Written). y.path) x.2) in
    let whole : is_prefix q x.0.path ≡ true = ap (is_prefix q) (sym path) ∙ w.2 in
    let front : is_prefix x.0.path q ≡ true = and-right (nat_le x.0.at t) (is_prefix x.0.path q) (and-left (nat_le x.0.at t && is_prefix x.0.path q) (nat_le (length x.0.path) (length q)) among.1) in
    let e = entry-of store.entries x.0 among.0 in
    let is : e.0.0.items ≡ q = sym (path-on e.0.0.items e.0.1.entries x.0 e.2) ∙ same-from-prefixes q x.0.path whole front in
    subst (λ r. Member r (items_of store.entries)) is (member-items store.entries e.0 e.1)

-- a path with a value among writes was written
pub valued-written : (ws : List Written) (p q : Parts) (v : List ℕ) → value ws q ≡ Some v → is_prefix p q ≡ true → Member q (paths_beneath p ws)
valued-written ws p q v h b =
    let w = set-there q (last_word ws q) v h in
    let l = last-member ws q w.0 w.1 in
    let is : w.0.path ≡ q = same-from-prefixes q w.0.path w.2 l.1 in
    subst (λ r. Member r (paths_beneath p ws)) is (beneath-has p ws w.0 l.0 (ap (is_prefix p) is ∙ b))

pub covered : (rows : Parts → List Row) (found : Parts → Option (List ℕ)) (q : Parts) (rs : List Parts) → ((o : Option (List ℕ)) → found q ≡ o → rows q ≡ row_with q o) → ((v : List ℕ) → found q ≡ Some v → Member q rs) → (rows q ≡ []) ⊎ Member q rs
covered rows found q rs is has =
    let P : Option (List ℕ) → Type 0 = λ o. found q ≡ o → (rows q ≡ []) ⊎ Member q rs in
    (elim (found q) as P [ None ↦ λ e. inl (is None e) | Some v ↦ λ e. inr (has v e) ]) refl

pub flat_map-same : (f g : Parts → List Row) (qs : List Parts) → ((q : Parts) → f q ≡ g q) → flat_map f qs ≡ flat_map g qs
flat_map-same f g [] h = refl
flat_map-same f g (q ∷ qs) h = ap (λ r. r ++ flat_map f qs) (h q) ∙ ap (λ r. g q ++ r) (flat_map-same f g qs h)

-- the rows of a scan
pub rows-kept : (t : ℕ) (key : Key) (store : VersionStore) (vs : List Version) (p : Parts) → IsKept store → Holds (versions_of store.entries) vs → key.items ≡ p
    → rows_down t key.items store (entries_from key store) ≡ beneath (writes_at t vs) p
unfolding beneath
rows-kept t key store vs p k h is =
    let q = key.items in
    let ws = writes_at t vs in
    let same : (r : Parts) → value_upto t store r ≡ value ws r = λ r. value-kept t r r store vs k h refl in
    let as_rows : (r : Parts) (o : Option (List ℕ)) → value_upto t store r ≡ o → rows_of t store r ≡ row_with r o = λ r o e. ap (row_with r) e in
    let kept = filter (is_prefix q) (items_of store.entries) in
    let written = paths_beneath q ws in
    let there : Covers (rows_of t store) kept written = λ r m. covered (rows_of t store) (value_upto t store) r written (as_rows r)
    (λ v e. valued-written ws q r v (sym (same r) ∙ e) (filter-passes (is_prefix q) r (items_of store.entries) m)) in
    let here : Covers (rows_of t store) written kept = λ r m. covered (rows_of t store) (value_upto t store) r kept (as_rows r)
    (λ v e. member-filter (is_prefix q) r (items_of store.entries) (valued-entry t store k r v e) (beneath-prefix q ws r m)) in
    rows-filter t key store store.entries k.0
    ∙ same-rows (length kept + length written) (rows_of t store) kept written (omega arith) (rising-filter (is_prefix q) (items_of store.entries) (rising-items store.entries k.0)) (rising-beneath q ws) there here
    ∙ flat_map-same (rows_of t store) (λ r. row_with r (value ws r)) written (λ r. ap (row_with r) (same r))
    ∙ ap (λ r. flat_map (λ s. row_with s (value ws s)) (paths_beneath r ws)) is

-- where each path fits, those of all rows do
pub all_fit : (rows : List Row) → AllByRecursion (λ (r : Row). Unit {0}) rows
all_fit [] = tt
all_fit (r ∷ rows) = (tt, all_fit rows)

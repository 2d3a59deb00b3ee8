-- Which of two sets has the newest version of a path, and the rows of both.
use Rattle.std.proofs.Common.{◌≡◌, ℕ, ◌<◌, Bool, true, false, ◌&&◌, ◌||◌, List, [], ◌∷◌, ◌++◌, Option, Some, None, if◌then◌else◌, length, take, nat_le, nat_lt, nat_eq, refl, sym, ap, ◌∙◌, arith, subst, append_assoc}
use Rattle.std.specs.Prelude.{IfSome, not, option_map, flat_map}
use Rattle.std.specs.List.{AllByRecursion}
use Rattle.std.specs.BTreeMap.{insert_entry}
use Rattle.std.specs.Cmp.{Some-then}
use Rattle.std.specs.Option.{option_partial_cmp}
use Rattle.std.specs.Ordering.{nat_cmp, on, then_cmp, is_lt, ordering_then, ordering_reverse, match_ordering, partial_ordering_then, is_some_and, partial_lt}
use Rattle.std.specs.declared.cmp.Ordering.{Ordering}
use Rattle.std.specs.declared.cmp.Ordering.TheVariants.{Less, Equal, Greater}
use Rattle.std.proofs.lemmas.Bool.Decides.{nat_tests}
use Rattle.std.proofs.lemmas.Cmp.{ranked}
use Rattle.doc_path.specs.Path.{Parts, is_prefix, path_order}
use Rattle.txn_data.specs.declared.version.Version.{Version}
use Rattle.txn_data.specs.declared.row.Row.{Row}
use Rattle.txn_data.specs.declared.written.Written.{Written}
use Rattle.txn_types.specs.Writes.{value, row_with, with_path, paths_beneath, beneath}
use Rattle.txn_types.specs.Tablet.{version_before, not_after, writes_at}
use Rattle.regular_records.specs.Records.{later, deciding, newest, decided_by, decided}
use Rattle.regular_records.specs.declared.decided.Decided.{Decided}
use Rattle.regular_records.specs.Store.{Key}
use Rattle.regular_records.specs.Kept.{key_order}
use Rattle.regular_records.specs.Merged.{Place, paths_in, HasParts, HaveValues, IsKnown, AreKnown, with_rows, rows_at}
use Rattle.regular_records.proofs.Order.{parts_cmp, parts_exact, parts_total, path_order-cmp, take-less}
use Rattle.regular_records.proofs.Prefix.{and-right, prefix-take, prefix-length}
use Rattle.regular_records.proofs.Best.{not_after-itself}
use Rattle.regular_records.proofs.Rows.{placed, with_path-cons, with_path-nil}
use Rattle.regular_records.proofs.Joined.{all-with, all-rows, rows-both, value-newest, value-both}

-- ---- the newest version is on a prefix

abbrev pub IsOn : Parts → Option Version → Type 0
IsOn p o = IfSome o (λ v. is_prefix v.path p ≡ true)

later-on : (p : Parts) (a b : Option Version) → IsOn p a → IsOn p b → IsOn p (later a b)
later-on p None b h k = k
later-on p (Some u) None h k = h
later-on p (Some u) (Some v) h k = elim (version_before u v) as (λ c. IsOn p (if c then Some v else Some u)) [ true ↦ k | false ↦ h ]

deciding-on : (t : ℕ) (p : Parts) (v : Version) → IsOn p (deciding t p v)
deciding-on t p v =
    let P : Bool → Type 0 = λ b. (nat_le v.at t && is_prefix v.path p) ≡ b → IsOn p (if b then Some v else None) in
    (elim (nat_le v.at t && is_prefix v.path p) as P [ true ↦ λ h. and-right (nat_le v.at t) (is_prefix v.path p) h | false ↦ λ h. tt ]) refl

pub newest-on : (t : ℕ) (p : Parts) (vs : List Version) → IsOn p (newest t p vs)
unfolding newest
newest-on t p [] = tt
newest-on t p (v ∷ vs) = later-on p (deciding t p v) (newest t p vs) (deciding-on t p v) (newest-on t p vs)

-- ---- of two prefixes the longer one comes later

shorter-first : (p q r : Parts) → is_prefix q p ≡ true → is_prefix r p ≡ true → length q < length r → path_order q r ≡ Less
shorter-first p q r h k less =
    ap (λ x. path_order x r) (prefix-take q p h)
    ∙ ap (path_order (take (length q) p)) (prefix-take r p k)
    ∙ take-less p (length q) (length r) less (prefix-length r p k)

longer-last : (p q r : Parts) → is_prefix q p ≡ true → is_prefix r p ≡ true → length r < length q → path_order q r ≡ Greater
longer-last p q r h k less =
    path_order-cmp q r
    ∙ parts_total.antisymm q r
    ∙ ap ordering_reverse (sym (path_order-cmp r q) ∙ shorter-first p r q k h less)

one-length : (p q r : Parts) → is_prefix q p ≡ true → is_prefix r p ≡ true → length q ≡ length r → q ≡ r
one-length p q r h k e = prefix-take q p h ∙ ap (λ n. take n p) e ∙ sym (prefix-take r p k)

prefixes-by_length : (p q r : Parts) → is_prefix q p ≡ true → is_prefix r p ≡ true → not_after (path_order q r) ≡ nat_le (length q) (length r)
prefixes-by_length p q r h k =
    let P : Bool → Type 0 = λ b. nat_lt (length q) (length r) ≡ b → not_after (path_order q r) ≡ nat_le (length q) (length r) in
    let Q : Bool → Type 0 = λ b. nat_lt (length q) (length r) ≡ false → nat_lt (length r) (length q) ≡ b → not_after (path_order q r) ≡ nat_le (length q) (length r) in
    (elim (nat_lt (length q) (length r)) as P [
      | true ↦ λ e.
          let less : length q < length r = grind (arith, nat_tests, e) in
          ap not_after (shorter-first p q r h k less) ∙ grind (arith, nat_tests, less)
      | false ↦ λ e. (elim (nat_lt (length r) (length q)) as Q [
        | true ↦ λ _ f.
            let less : length r < length q = grind (arith, nat_tests, f) in
            ap not_after (longer-last p q r h k less) ∙ grind (arith, nat_tests, less)
        | false ↦ λ d f.
            let same : length q ≡ length r = grind (arith, nat_tests, d, f) in
            not_after-itself q r (one-length p q r h k same) ∙ grind (arith, nat_tests, same)
      ]) e refl
    ]) refl

-- ---- the paths of both

pub paths-insert : (k : Key) (v : Option (List ℕ)) (es : List Place) → paths_in (insert_entry key_order es k v) ≡ with_path k.items (paths_in es)
paths-insert k v [] = sym (with_path-nil k.items)
paths-insert k v (e ∷ es) =
    elim (parts_cmp k.items e.0.items) as (λ o. paths_in (match_ordering o ((k, v) ∷ e ∷ es) ((e.0, v) ∷ es) (e ∷ insert_entry key_order es k v)) ≡ placed o k.items e.0.items (paths_in es)) [
      | Less ↦ refl
      | Equal ↦ refl
      | Greater ↦ ap (λ ps. e.0.items ∷ ps) (paths-insert k v es)
    ]
    ∙ sym (with_path-cons k.items e.0.items (paths_in es))

-- one row more
pub paths-turn : (before after : List Parts) (q : Parts) (r : Row) (rows rest : List Row) (all : List Parts) → after ≡ with_path q before → q ≡ r.path → rows ≡ r ∷ rest
    → with_rows before rows ≡ all → with_rows after rest ≡ all
paths-turn before after q r rows rest all n e is inv =
    ap (λ ps. with_rows ps rest) (n ∙ ap (λ p. with_path p before) e) ∙ ap (with_rows before) (sym is) ∙ inv

pub parts-insert : (k : Key) (v : Option (List ℕ)) (es : List Place) → HasParts k.items → AllByRecursion HasParts (paths_in es) → AllByRecursion HasParts (paths_in (insert_entry key_order es k v))
parts-insert k v es h a = subst (AllByRecursion HasParts) (sym (paths-insert k v es)) (all-with HasParts k.items (paths_in es) h a)

pub known-insert : (ws : List Written) (k : Key) (v : Option (List ℕ)) (es : List Place) → IsKnown ws k.items v → AreKnown ws es → AreKnown ws (insert_entry key_order es k v)
known-insert ws k v [] h a = (h, tt)
known-insert ws k v (e ∷ es) h a =
    let P : Ordering → Type 0 = λ o. parts_cmp k.items e.0.items ≡ o → AreKnown ws (match_ordering o ((k, v) ∷ e ∷ es) ((e.0, v) ∷ es) (e ∷ insert_entry key_order es k v)) in
    (elim (parts_cmp k.items e.0.items) as P [
      | Less ↦ λ o. (h, a)
      | Equal ↦ λ o. (subst (λ q. IsKnown ws q v) (parts_exact k.items e.0.items o) h, a.1)
      | Greater ↦ λ o. (a.0, known-insert ws k v es h a.1)
    ]) refl

-- the rows beneath a path have the values there
row-has : (ws : List Written) (q : Parts) (o : Option (List ℕ)) (rest : List Row) → value ws q ≡ o → HaveValues ws rest → HaveValues ws (row_with q o ++ rest)
row-has ws q None rest is h = h
row-has ws q (Some v) rest is h = (sym is, h)

rows-have : (ws : List Written) (qs : List Parts) → HaveValues ws (flat_map (λ q. row_with q (value ws q)) qs)
rows-have ws [] = tt
rows-have ws (q ∷ qs) = row-has ws q (value ws q) (flat_map (λ q. row_with q (value ws q)) qs) refl (rows-have ws qs)

pub beneath-have : (ws : List Written) (p : Parts) (rows : List Row) → rows ≡ beneath ws p → HaveValues ws rows
unfolding beneath
beneath-have ws p rows is = subst (HaveValues ws) (sym is) (rows-have ws (paths_beneath p ws))

-- one place more
pub rows-turn : (t : ℕ) (vs : List Version) (done new all : List Row) (e : Place) (places rest : List Place) (found : Option (List ℕ)) → places ≡ e ∷ rest
    → found ≡ value (writes_at t vs) e.0.items → new ≡ done ++ row_with e.0.items found → done ++ rows_at t vs (paths_in places) ≡ all → new ++ rows_at t vs (paths_in rest) ≡ all
rows-turn t vs done new all e places rest found is f n inv =
    ap (λ l. l ++ rows_at t vs (paths_in rest)) (n ∙ ap (λ o. done ++ row_with e.0.items o) f)
    ∙ append_assoc done (row_with e.0.items (value (writes_at t vs) e.0.items)) (rows_at t vs (paths_in rest))
    ∙ ap (λ es. done ++ rows_at t vs (paths_in es)) (sym is)
    ∙ inv

-- ---- the paths of the rows of both

pub both-paths : (first second third : List Place) (rows others : List Row) → first ≡ [] → paths_in second ≡ with_rows (paths_in first) rows → paths_in third ≡ with_rows (paths_in second) others
    → paths_in third ≡ with_rows (with_rows [] rows) others
both-paths first second third rows others none p q = q ∙ ap (λ ps. with_rows ps others) (p ∙ ap (λ es. with_rows (paths_in es) rows) none)

pub both-fit : (fits : Parts → Type 0) (places : List Place) (rows others : List Row) → paths_in places ≡ with_rows (with_rows [] rows) others
    → AllByRecursion (λ (r : Row). fits r.path) rows → AllByRecursion (λ (r : Row). fits r.path) others → AllByRecursion fits (paths_in places)
both-fit fits places rows others is a b = subst (AllByRecursion fits) (sym is) (all-rows fits (with_rows [] rows) others (all-rows fits [] rows tt a) b)

pub both-rows : (t : ℕ) (p : Parts) (us vs : List Version) (places : List Place) (rows others : List Row) → paths_in places ≡ with_rows (with_rows [] rows) others
    → rows ≡ beneath (writes_at t us) p → others ≡ beneath (writes_at t vs) p → rows_at t (us ++ vs) (paths_in places) ≡ beneath (writes_at t (us ++ vs)) p
both-rows t p us vs places rows others is e f =
    ap (rows_at t (us ++ vs)) (is ∙ ap (λ r. with_rows (with_rows [] r) others) e ∙ ap (λ o. with_rows (with_rows [] (beneath (writes_at t us) p)) o) f)
    ∙ rows-both t p us vs

-- ---- which set's version decides

abbrev pub decided_order : Decided → Decided → Ordering
decided_order = then_cmp (on (λ (d : Decided). d.at) nat_cmp) (then_cmp (on (λ (d : Decided). d.number) nat_cmp) (on (λ (d : Decided). d.parts) nat_cmp))

-- as the comparison that is derived has it
abbrev pub decided_partial : Decided → Decided → Option Ordering
decided_partial d e =
    partial_ordering_then (Some (nat_cmp d.at e.at)) (partial_ordering_then (Some (nat_cmp d.number e.number)) (Some (nat_cmp d.parts e.parts)))

abbrev pub is_below : Option Decided → Option Decided → Bool
is_below a b = partial_lt (option_partial_cmp decided_partial) a b

below-order : (d e : Decided) → is_below (Some d) (Some e) ≡ is_lt (decided_order d e)
below-order d e =
    ap (λ o. is_some_and is_lt o)
    (ap (partial_ordering_then (Some (nat_cmp d.at e.at))) (Some-then (nat_cmp d.number e.number) (nat_cmp d.parts e.parts))
    ∙ Some-then (nat_cmp d.at e.at) (ordering_then (nat_cmp d.number e.number) (nat_cmp d.parts e.parts)))

turned-3 : (a b : ℕ) → is_lt (nat_cmp a b) ≡ not (nat_le b a)
turned-3 a b = grind (arith, nat_tests)

turned-then : (a b : ℕ) (o : Ordering) (c : Bool) → is_lt o ≡ not c → is_lt (ordering_then (nat_cmp a b) o) ≡ not (nat_lt b a || (nat_eq b a && c))
turned-then a b o c h =
    let P : Ordering → Type 0 = λ r. nat_cmp a b ≡ r → is_lt (ordering_then r o) ≡ not (nat_lt b a || (nat_eq b a && c)) in
    (elim (nat_cmp a b) as P [
      | Less ↦ λ e. let less : a < b = ranked a b Less (sym e) in let l : nat_lt b a ≡ false = grind (arith, nat_tests, less) in let m : nat_eq b a ≡ false = grind (arith, nat_tests, less) in rw (l, m) refl
      | Equal ↦ λ e. let same : a ≡ b = ranked a b Equal (sym e) in let l : nat_lt b a ≡ false = grind (arith, nat_tests, same) in let m : nat_eq b a ≡ true = grind (arith, nat_tests, same) in rw (l, m) h
      | Greater ↦ λ e. let more : b < a = ranked a b Greater (sym e) in let l : nat_lt b a ≡ true = grind (arith, nat_tests, more) in rw l refl
    ]) refl

decided-turned : (p : Parts) (u v : Version) → is_prefix u.path p ≡ true → is_prefix v.path p ≡ true → is_lt (decided_order (decided_by v) (decided_by u)) ≡ not (version_before u v)
decided-turned p u v h k =
    turned-then v.at u.at (ordering_then (nat_cmp v.number u.number) (nat_cmp (length v.path) (length u.path))) (nat_lt u.number v.number || (nat_eq u.number v.number && not_after (path_order u.path v.path)))
    (turned-then v.number u.number (nat_cmp (length v.path) (length u.path)) (not_after (path_order u.path v.path))
    (turned-3 (length v.path) (length u.path) ∙ ap not (sym (prefixes-by_length p u.path v.path h k))))

not-true : (b : Bool) → not b ≡ true → b ≡ false
not-true true h = cc
not-true false h = refl

not-false : (b : Bool) → not b ≡ false → b ≡ true
not-false true h = refl
not-false false h = cc

-- of two newest versions the later one, by where they stand
older-later : (p : Parts) (a b : Option Version) → IsOn p a → IsOn p b → is_below (option_map decided_by b) (option_map decided_by a) ≡ true → later a b ≡ a
older-later p None None h k e = refl
older-later p None (Some v) h k e = cc
older-later p (Some u) None h k e = refl
older-later p (Some u) (Some v) h k e = ap (λ c. if c then Some v else Some u) (not-true (version_before u v) (sym (decided-turned p u v h k) ∙ sym (below-order (decided_by v) (decided_by u)) ∙ e))

newer-later : (p : Parts) (a b : Option Version) → IsOn p a → IsOn p b → is_below (option_map decided_by b) (option_map decided_by a) ≡ false → later a b ≡ b
newer-later p None b h k e = refl
newer-later p (Some u) None h k e = cc
newer-later p (Some u) (Some v) h k e = ap (λ c. if c then Some v else Some u) (not-false (version_before u v) (sym (decided-turned p u v h k) ∙ sym (below-order (decided_by v) (decided_by u)) ∙ e))

value-alone : (t : ℕ) (p : Parts) (us vs ws : List Version) → later (newest t p us) (newest t p vs) ≡ newest t p ws
    → value (writes_at t ws) p ≡ value (writes_at t (us ++ vs)) p
value-alone t p us vs ws h = value-newest t p ws ∙ sym (value-both t p us vs (newest t p ws) h)

pub older-newest : (t : ℕ) (p : Parts) (us vs : List Version) (new old : Option Decided) → new ≡ decided t p vs → old ≡ decided t p us → is_below new old ≡ true
    → value (writes_at t us) p ≡ value (writes_at t (us ++ vs)) p
older-newest t p us vs new old n o h =
    value-alone t p us vs us (older-later p (newest t p us) (newest t p vs) (newest-on t p us) (newest-on t p vs) (ap (λ x. is_below x (decided t p us)) (sym n) ∙ ap (is_below new) (sym o) ∙ h))

pub newer-newest : (t : ℕ) (p : Parts) (us vs : List Version) (new old : Option Decided) → new ≡ decided t p vs → old ≡ decided t p us → is_below new old ≡ false
    → value (writes_at t vs) p ≡ value (writes_at t (us ++ vs)) p
newer-newest t p us vs new old n o h =
    value-alone t p us vs vs (newer-later p (newest t p us) (newest t p vs) (newest-on t p us) (newest-on t p vs) (ap (λ x. is_below x (decided t p us)) (sym n) ∙ ap (is_below new) (sym o) ∙ h))

-- Which paths lie between a path and an end.
use Rattle.std.proofs.Common.{◌≡◌, ℕ, zero, suc, ◌+◌, ◌≤◌, Bool, true, false, ◌&&◌, ◌||◌, not, List, Some, [], ◌∷◌, ◌++◌, take, length, refl, sym, ap, ◌∙◌, arith, nat_lt, nat_eq}
use Rattle.std.specs.Prelude.{slice_get}
use Rattle.std.specs.declared.cmp.Ordering.{Ordering}
use Rattle.std.specs.declared.cmp.Ordering.TheVariants.{Less, Equal, Greater}
use Rattle.std.specs.Ordering.{is_le, is_gt, is_eq, nat_cmp, ordering_then, ordering_reverse}
use Rattle.std.specs.Str.{bytes_eq}
use Rattle.std.proofs.lemmas.Bool.Decides.{nat_tests, same_from_decides}
use Rattle.std.proofs.lemmas.Cmp.{tied_itself, nat_list_cmp_total}
use Rattle.std.proofs.lemmas.List.Folds.{list_any-append}
use Rattle.std.proofs.lemmas.Map.Lookups.{exact_bytes}
use Rattle.std.proofs.lemmas.Slice.Eq.{bytes_eq-Decides}
use Rattle.doc_path.specs.Path.{Parts, is_prefix, byte_order, path_order, order_then}
use Rattle.txn_types.specs.Tablet.{same_path}
use Rattle.intent_records.specs.declared.path_range.PathRange.{PathRange}
use Rattle.intent_records.specs.declared.record_key.RecordKey.{RecordKey}
use Rattle.intent_records.specs.KeyOrder.{byte_order-slice_cmp, path_order_total}
use Rattle.intent_records.specs.Keys.{key_order}
use Rattle.intent_records.specs.Search.{between, near, next_after, above_to, in_any}

pub bytes_eq-order : (a b : List ℕ) → bytes_eq a b ≡ is_eq (byte_order a b)
bytes_eq-order a b =
    same_from_decides (bytes_eq a b) (is_eq (byte_order a b)) (bytes_eq-Decides a b) (
      λ h. exact_bytes a b (sym (byte_order-slice_cmp a b) ∙ equal_from (byte_order a b) h),
      λ h. rw h (ap is_eq (byte_order-slice_cmp b b ∙ tied_itself nat_list_cmp_total b)),
    )
  where
    equal_from : (o : Ordering) → is_eq o ≡ true → o ≡ Equal
    equal_from Less h = cc
    equal_from Equal h = refl
    equal_from Greater h = cc

pub bytes_eq-swap : (a b : List ℕ) → bytes_eq a b ≡ bytes_eq b a
bytes_eq-swap a b =
    same_from_decides (bytes_eq a b) (bytes_eq b a) (bytes_eq-Decides a b) (
      λ h. sym ((bytes_eq-Decides b a).0 h),
      λ h. (bytes_eq-Decides b a).1 (sym h),
    )

pub same_path-cons : (a b : List ℕ) (p q : Parts) → same_path (a ∷ p) (b ∷ q) ≡ (bytes_eq a b && same_path p q)
same_path-cons a b p q =
    rw (bytes_eq-swap b a) (elim (bytes_eq a b) as (λ e. ((e && is_prefix p q) && (e && is_prefix q p)) ≡ (e && (is_prefix p q && is_prefix q p))) [ true ↦ refl | false ↦ refl ])

pub same_path-itself : (p : Parts) → same_path p p ≡ true
same_path-itself [] = refl
same_path-itself (a ∷ p) = same_path-cons a a p p ∙ rw ((bytes_eq-Decides a a).1 refl) (same_path-itself p)

pub same_path-exact : (p q : Parts) → same_path p q ≡ true → p ≡ q
same_path-exact [] [] h = refl
same_path-exact [] (b ∷ q) h = cc
same_path-exact (a ∷ p) [] h = cc
same_path-exact (a ∷ p) (b ∷ q) h =
    let both = parts_of (bytes_eq a b) (same_path p q) (sym (same_path-cons a b p q) ∙ h) in
    let first = (bytes_eq-Decides a b).0 both.0 in
    let rest = same_path-exact p q both.1 in
    λ i. first i ∷ rest i
  where
    parts_of : (x y : Bool) → (x && y) ≡ true → (x ≡ true) × (y ≡ true)
    parts_of true y h = (refl, h)
    parts_of false y h = cc

-- an end that is not reached yet does not decide
between-cons : (a b : List ℕ) (p end q : Parts) → between (a ∷ p) (a ∷ end) (b ∷ q) ≡ (bytes_eq a b && between p end q)
between-cons a b p end q =
    rw (bytes_eq-order a b) (elim (byte_order a b) as (λ o. (is_le (order_then o (path_order p q)) && is_gt (order_then o (path_order end q))) ≡ (is_eq o && (is_le (path_order p q) && is_gt (path_order end q)))) [
      | Less ↦ refl
      | Equal ↦ refl
      | Greater ↦ refl
    ])

nothing_before : (q : Parts) → is_gt (path_order [] q) ≡ false
nothing_before [] = refl
nothing_before (b ∷ q) = refl

-- only the path itself lies before the first path after it
pub between-next : (p q : Parts) → between p (p ++ [] ∷ []) q ≡ same_path p q
between-next [] [] = refl
between-next [] ([] ∷ q) = nothing_before q
between-next [] ((x ∷ b) ∷ q) = refl
between-next (a ∷ p) [] = refl
between-next (a ∷ p) (b ∷ q) =
    between-cons a b p (p ++ [] ∷ []) q ∙ ap (λ x. bytes_eq a b && x) (between-next p q) ∙ sym (same_path-cons a b p q)

last_byte : (a b : List ℕ) → (is_le (byte_order a b) && is_gt (byte_order (a ++ 0 ∷ []) b)) ≡ bytes_eq a b
last_byte [] [] = refl
last_byte [] (y ∷ []) = grind (arith, nat_tests)
last_byte [] (y ∷ z ∷ b) = grind (arith, nat_tests)
last_byte (x ∷ a) [] = refl
last_byte (x ∷ a) (y ∷ b) = grind (arith, nat_tests, last_byte a b)

then_le : (o r : Ordering) → is_gt r ≡ false → is_le (order_then o r) ≡ is_le o
then_le Less r h = refl
then_le Equal Less h = refl
then_le Equal Equal h = refl
then_le Equal Greater h = cc
then_le Greater r h = refl

then_gt : (o r : Ordering) → is_gt r ≡ false → is_gt (order_then o r) ≡ is_gt o
then_gt Less r h = refl
then_gt Equal r h = h
then_gt Greater r h = refl

-- just the paths that begin with a path lie before the first path after all of them
pub between-after : (p q : Parts) → 1 ≤ length p → between p (next_after p) q ≡ is_prefix p q
between-after [] q some = absurd (omega arith)
between-after (a ∷ []) [] some = refl
between-after (a ∷ []) (b ∷ q) some =
    rw (then_le (byte_order a b) (path_order [] q) (nothing_before q), then_gt (byte_order (a ++ 0 ∷ []) b) (path_order [] q) (nothing_before q), last_byte a b)
    (elim (bytes_eq a b) as (λ e. e ≡ (e && true)) [ true ↦ refl | false ↦ refl ])
between-after (a ∷ c ∷ p) [] some = refl
between-after (a ∷ c ∷ p) (b ∷ q) some =
    between-cons a b (c ∷ p) (next_after (c ∷ p)) q ∙ ap (λ x. bytes_eq a b && x) (between-after (c ∷ p) q (omega arith))

pub next_after-take : (p : Parts) (n : ℕ) (a : List ℕ) → n + 1 ≡ length p → slice_get p n ≡ Some a → next_after p ≡ take n p ++ (a ++ 0 ∷ []) ∷ []
next_after-take [] n a whole last = absurd (omega arith)
next_after-take (b ∷ []) zero a whole last = let is : b ≡ a = cc in rw is refl
next_after-take (b ∷ []) (suc n) a whole last = absurd (omega arith)
next_after-take (b ∷ c ∷ p) zero a whole last = absurd (omega arith)
next_after-take (b ∷ c ∷ p) (suc n) a whole last = ap (λ q. b ∷ q) (next_after-take (c ∷ p) n a (omega arith) last)

-- a path is not after the end of what begins there
forward : (p end : Parts) → between p end p ≡ true → is_gt (path_order p end) ≡ false
forward p end h =
    let turned : path_order p end ≡ Less = path_order_total.antisymm p end ∙ reversed (is_le (path_order p p)) (path_order end p) h in
    ap is_gt turned
  where
    reversed : (b : Bool) (o : Ordering) → (b && is_gt o) ≡ true → ordering_reverse o ≡ Less
    reversed true Less h = cc
    reversed true Equal h = cc
    reversed true Greater h = refl
    reversed false o h = cc

is_prefix-itself : (p : Parts) → is_prefix p p ≡ true
is_prefix-itself [] = refl
is_prefix-itself (a ∷ p) = rw ((bytes_eq-Decides a a).1 refl) (is_prefix-itself p)

pub forward-next : (p : Parts) → is_gt (path_order p (p ++ [] ∷ [])) ≡ false
forward-next p = forward p (p ++ [] ∷ []) (between-next p p ∙ same_path-itself p)

pub forward-after : (p : Parts) → 1 ≤ length p → is_gt (path_order p (next_after p)) ≡ false
forward-after p some = forward p (next_after p) (between-after p p some ∙ is_prefix-itself p)

-- the keys from the first at a path on, and before the first at an end, are those on paths between the two
least_key : (m n : ℕ) → is_gt (ordering_then (nat_cmp 0 m) (nat_cmp 0 n)) ≡ false
least_key m n = grind (arith, nat_tests)

then_le-key : (o r : Ordering) → is_gt r ≡ false → is_le (ordering_then o r) ≡ is_le o
then_le-key Less r h = refl
then_le-key Equal Less h = refl
then_le-key Equal Equal h = refl
then_le-key Equal Greater h = cc
then_le-key Greater r h = refl

then_gt-key : (o r : Ordering) → is_gt r ≡ false → not (is_le (ordering_then o r)) ≡ is_gt o
then_gt-key Less r h = refl
then_gt-key Equal Less h = refl
then_gt-key Equal Equal h = refl
then_gt-key Equal Greater h = cc
then_gt-key Greater r h = refl

pub keys_between : (first end : Parts) (k : RecordKey)
    → (is_le (key_order (record { path = first; txn = 0; position = 0 }) k) && not (is_le (key_order (record { path = end; txn = 0; position = 0 }) k)))
    ≡ between first end k.path
keys_between first end k =
    rw (
      then_le-key (path_order first k.path) (ordering_then (nat_cmp 0 k.txn) (nat_cmp 0 k.position)) (least_key k.txn k.position),
      then_gt-key (path_order end k.path) (ordering_then (nat_cmp 0 k.txn) (nat_cmp 0 k.position)) (least_key k.txn k.position),
    ) refl

pub after_none : (n : ℕ) → nat_eq (suc n) 0 ≡ false
after_none n = grind (arith, nat_tests)

pub before_some : (n : ℕ) → nat_eq 0 (suc n) ≡ false
before_some n = grind (arith, nat_tests)

pub both_more : (m n : ℕ) → nat_eq (suc m) (suc n) ≡ nat_eq m n
both_more m n = grind (arith, nat_tests)

take_same : (p q : Parts) (i : ℕ) → i ≤ length p → same_path (take i p) q ≡ (is_prefix q p && nat_eq (length q) i)
take_same p [] zero fits = refl
take_same p (c ∷ q) zero fits = elim (is_prefix (c ∷ q) p) as (λ e. same_path (take 0 p) (c ∷ q) ≡ (e && nat_eq (length (c ∷ q)) 0)) [ true ↦ sym (after_none (length q)) | false ↦ refl ]
take_same [] q (suc i) fits = absurd (omega arith)
take_same (a ∷ p) [] (suc i) fits = sym (before_some i)
take_same (a ∷ p) (c ∷ q) (suc i) fits =
    same_path-cons a c (take i p) q
    ∙ ap (λ x. bytes_eq a c && x) (take_same p q i (omega arith))
    ∙ rw (bytes_eq-swap a c, both_more (length q) i) (elim (bytes_eq c a) as (λ e. (e && (is_prefix q p && nat_eq (length q) i)) ≡ ((e && is_prefix q p) && nat_eq (length q) i)) [ true ↦ refl | false ↦ refl ])

pub above_none : (p q : Parts) → above_to 1 p q ≡ false
above_none p [] = refl
above_none p (c ∷ q) = elim (is_prefix (c ∷ q) p) as (λ e. (e && nat_lt (length (c ∷ q)) 1) ≡ false) [
  | true ↦ grind (arith, nat_tests)
  | false ↦ refl
]

pub above_more : (p q : Parts) (i : ℕ) → 1 ≤ i → i ≤ length p → above_to (i + 1) p q ≡ (above_to i p q || same_path (take i p) q)
above_more p [] i some fits = rw (take_same p [] i fits) (grind (arith, nat_tests))
above_more p (c ∷ q) i some fits =
    rw (take_same p (c ∷ q) i fits) (elim (is_prefix (c ∷ q) p) as (λ e. (e && nat_lt (length (c ∷ q)) (i + 1)) ≡ ((e && nat_lt (length (c ∷ q)) i) || (e && nat_eq (length (c ∷ q)) i))) [
      | true ↦ grind (arith, nat_tests)
      | false ↦ refl
    ])

longer : (p q : Parts) → is_prefix q p ≡ true → nat_lt (length q) (length p) ≡ false → is_prefix p q ≡ true
longer [] q h g = refl
longer (a ∷ p) [] h g = grind (arith, nat_tests)
longer (a ∷ p) (c ∷ q) h g =
    let both = parts_of (bytes_eq c a) (is_prefix q p) h in
    rw (bytes_eq-swap a c, both.0) (longer p q both.1 (grind (arith, nat_tests)))
  where
    parts_of : (x y : Bool) → (x && y) ≡ true → (x ≡ true) × (y ≡ true)
    parts_of true y h = (refl, h)
    parts_of false y h = cc

-- what is above a path, and what begins with it, is what is near it
pub above_all : (p q : Parts) → 1 ≤ length p → (above_to (length p) p q || is_prefix p q) ≡ near p q
above_all [] q some = absurd (omega arith)
above_all (a ∷ p) [] some = refl
above_all (a ∷ p) (c ∷ q) some = by (is_prefix (c ∷ q) (a ∷ p)) (nat_lt (length (c ∷ q)) (length (a ∷ p))) (is_prefix (a ∷ p) (c ∷ q)) (longer (a ∷ p) (c ∷ q))
  where
    by : (x y z : Bool) → (x ≡ true → y ≡ false → z ≡ true) → ((x && y) || z) ≡ (x || z)
    by true true z h = refl
    by true false z h = h refl refl
    by false y z h = refl

or_false : (b : Bool) → (b || false) ≡ b
or_false true = refl
or_false false = refl

pub is_eq-nat_cmp : (m n : ℕ) → is_eq (nat_cmp m n) ≡ nat_eq m n
is_eq-nat_cmp m n = grind (arith, nat_tests)

-- ---- the ranges of the related paths

-- one more range, of a path above
pub ranges-above : (path above end : Parts) (i : ℕ) (ranges : List PathRange) (range : PathRange) → 1 ≤ i → i ≤ length path → above ≡ take i path → end ≡ above ++ [] ∷ []
    → range.first ≡ above → range.end ≡ end
    → ((q : Parts) → in_any ranges q ≡ above_to i path q)
    → (q : Parts) → in_any (ranges ++ range ∷ []) q ≡ above_to (i + 1) path q
ranges-above path above end i ranges range some fits is to from ends so_far q =
    list_any-append (λ (r : PathRange). between r.first r.end q) ranges (range ∷ [])
    ∙ ap (λ b. b || (between range.first range.end q || false)) (so_far q)
    ∙ ap (λ b. above_to i path q || b) (or_false (between range.first range.end q) ∙ ap (λ p. between p range.end q) from ∙ ap (λ e. between above e q) (ends ∙ to) ∙ between-next above q ∙ ap (λ p. same_path p q) is)
    ∙ sym (above_more path q i some fits)

-- and one of the path itself and those beneath it
pub ranges-all : (path : Parts) (i : ℕ) (ranges : List PathRange) (range : PathRange) → 1 ≤ length path → i ≡ length path
    → range.first ≡ path → range.end ≡ next_after path
    → ((q : Parts) → in_any ranges q ≡ above_to i path q)
    → (q : Parts) → in_any (ranges ++ range ∷ []) q ≡ near path q
ranges-all path i ranges range some whole from ends so_far q =
    list_any-append (λ (r : PathRange). between r.first r.end q) ranges (range ∷ [])
    ∙ ap (λ b. b || (between range.first range.end q || false)) (so_far q ∙ ap (λ n. above_to n path q) whole)
    ∙ ap (λ b. above_to (length path) path q || b) (or_false (between range.first range.end q) ∙ ap (λ p. between p range.end q) from ∙ ap (λ e. between path e q) ends ∙ between-after path q some)
    ∙ above_all path q some

-- The order of paths, and their prefixes.
use Rattle.std.proofs.Common.{◌≡◌, ℕ, true, List, [], ◌∷◌, refl, sym, ◌∙◌, ap, arith}
use Rattle.std.proofs.lemmas.Bool.Decides.{nat_tests}
use Rattle.std.proofs.lemmas.Bool.{and_parts}
use Rattle.std.proofs.lemmas.Cmp.{tied_itself, nat_list_cmp_total, lists_total}
use Rattle.std.proofs.lemmas.Map.Lookups.{exact_bytes}
use Rattle.std.proofs.lemmas.Slice.Eq.{bytes_eq-Decides}
use Rattle.std.specs.Cmp.{IsTotalOrder}
use Rattle.std.specs.Cmp.Lexicographic.{slice_cmp}
use Rattle.std.specs.FinMap.{slice_cmp-IsAntisymmetric}
use Rattle.std.specs.Ordering.{nat_cmp, ordering_reverse}
use Rattle.std.specs.Str.{bytes_eq}
use Rattle.std.specs.declared.cmp.Ordering.TheVariants.{Less, Equal, Greater}
use Rattle.doc_path.specs.Path.{Parts, is_prefix, related, byte_order, path_order}

-- ## the order is a total one

bytes_are : (xs ys : List ℕ) → byte_order xs ys ≡ slice_cmp nat_cmp xs ys
bytes_are [] [] = refl
bytes_are [] (y ∷ ys) = refl
bytes_are (x ∷ xs) [] = refl
bytes_are (x ∷ xs) (y ∷ ys) = grind (arith, nat_tests, bytes_are xs ys)

paths_are : (p q : Parts) → path_order p q ≡ slice_cmp (slice_cmp nat_cmp) p q
paths_are [] [] = refl
paths_are [] (b ∷ q) = refl
paths_are (a ∷ p) [] = refl
paths_are (a ∷ p) (b ∷ q) = grind (arith, bytes_are a b, paths_are p q)

total : IsTotalOrder (slice_cmp (slice_cmp nat_cmp))
total = lists_total nat_list_cmp_total

pub order_self : (p : Parts) → path_order p p ≡ Equal
order_self p = paths_are p p ∙ tied_itself total p

pub order_equal : (p q : Parts) → path_order p q ≡ Equal → p ≡ q
order_equal p q equal = slice_cmp-IsAntisymmetric exact_bytes p q (sym (paths_are p q) ∙ equal)

order_turned : (p q : Parts) → path_order q p ≡ ordering_reverse (path_order p q)
order_turned p q = rw (paths_are q p, paths_are p q) (total.antisymm q p)

pub order_back : (p q : Parts) → path_order p q ≡ Greater → path_order q p ≡ Less
order_back p q greater = order_turned p q ∙ ap ordering_reverse greater

pub order_less : (p q r : Parts) → path_order p q ≡ Less → path_order q r ≡ Less → path_order p r ≡ Less
order_less p q r before after = paths_are p r ∙ total.trans p q r (sym (paths_are p q) ∙ before) (sym (paths_are q r) ∙ after)

pub less_apart : (p q : Parts) → path_order p q ≡ Less → p ≡ q → ⊥
less_apart p q less same =
    let equal : path_order p q ≡ Equal = ap (λ (r : Parts). path_order p r) (sym same) ∙ order_self p in
    cc

-- ## prefixes

pub prefix_self : (p : Parts) → is_prefix p p ≡ true
prefix_self [] = refl
prefix_self (a ∷ p) = rw ((bytes_eq-Decides a a).1 refl) (prefix_self p)

pub self_related : (p : Parts) → related p p ≡ true
self_related p = rw (prefix_self p) refl

pub prefix_both : (p q : Parts) → is_prefix p q ≡ true → is_prefix q p ≡ true → p ≡ q
prefix_both [] [] one two = refl
prefix_both [] (b ∷ q) one two = cc
prefix_both (a ∷ p) [] one two = cc
prefix_both (a ∷ p) (b ∷ q) one two =
    let u = and_parts (bytes_eq a b) (is_prefix p q) one in
    let v = and_parts (bytes_eq b a) (is_prefix q p) two in
    ap (λ (x : List ℕ). x ∷ p) ((bytes_eq-Decides a b).0 u.0) ∙ ap (λ (l : Parts). b ∷ l) (prefix_both p q u.1 v.1)

pub prefixes_related : (p q r : Parts) → is_prefix p r ≡ true → is_prefix q r ≡ true → related p q ≡ true
prefixes_related [] q r one two = refl
prefixes_related (a ∷ p) [] r one two = refl
prefixes_related (a ∷ p) (b ∷ q) [] one two = cc
prefixes_related (a ∷ p) (b ∷ q) (c ∷ r) one two =
    let u = and_parts (bytes_eq a c) (is_prefix p r) one in
    let v = and_parts (bytes_eq b c) (is_prefix q r) two in
    let same : a ≡ b = (bytes_eq-Decides a c).0 u.0 ∙ sym ((bytes_eq-Decides b c).0 v.0) in
    rw ((bytes_eq-Decides a b).1 same, (bytes_eq-Decides b a).1 (sym same)) (prefixes_related p q r u.1 v.1)

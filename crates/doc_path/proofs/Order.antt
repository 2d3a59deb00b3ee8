-- The order of paths.
use Rattle.std.proofs.Common.{◌≡◌, ℕ, ◌+◌, ◌<◌, min, true, false, List, [], ◌∷◌, length, get_or, drop, refl, sym, ◌∙◌, arith}
use Rattle.std.proofs.lemmas.Bool.Decides.{nat_tests}
use Rattle.std.proofs.lemmas.Cmp.{tied_itself, nat_list_cmp_total, lists_total}
use Rattle.std.proofs.lemmas.List.{drop_all, drop_more}
use Rattle.std.proofs.lemmas.Map.Lookups.{exact_bytes}
use Rattle.std.specs.Cmp.{IsTotalOrder}
use Rattle.std.specs.Cmp.Lexicographic.{slice_cmp}
use Rattle.std.specs.FinMap.{slice_cmp-IsAntisymmetric}
use Rattle.std.specs.Ordering.{nat_cmp, is_ne}
use Rattle.std.specs.declared.cmp.Ordering.{Ordering}
use Rattle.std.specs.declared.cmp.Ordering.TheVariants.{Less, Equal, Greater}
use Rattle.doc_path.specs.Laws.{IsOrderExact, IsOrderAntisymmetric, IsOrderTransitive, IsProperPrefixLess}
use Rattle.doc_path.specs.Path.{Parts, byte_order, path_order, order_then}
use Rattle.doc_path.proofs.Prefix.{is_prefix-cons}

pub byte_order-slice_cmp : (xs ys : List ℕ) → byte_order xs ys ≡ slice_cmp nat_cmp xs ys
byte_order-slice_cmp [] [] = refl
byte_order-slice_cmp [] (y ∷ ys) = refl
byte_order-slice_cmp (x ∷ xs) [] = refl
byte_order-slice_cmp (x ∷ xs) (y ∷ ys) = grind (arith, nat_tests, byte_order-slice_cmp xs ys)

-- the parts at n decide, or else those after them
path_order-drop : (p q : Parts) (n : ℕ) (order : Ordering) → n < length p → n < length q
    → order ≡ slice_cmp nat_cmp (get_or p n []) (get_or q n [])
    → path_order (drop n p) (drop n q) ≡ order_then order (path_order (drop (n + 1) p) (drop (n + 1) q))
path_order-drop p q n order in_p in_q is =
    rw (drop_more p n [] in_p, drop_more q n [] in_q, byte_order-slice_cmp, is) refl

order_then-apart : (order later : Ordering) → is_ne order ≡ true → order_then order later ≡ order
order_then-apart Less later h = refl
order_then-apart Equal later h = cc
order_then-apart Greater later h = refl

order_then-alike : (order later : Ordering) → is_ne order ≡ false → order_then order later ≡ later
order_then-alike Less later h = cc
order_then-alike Equal later h = refl
order_then-alike Greater later h = cc

pub path_order-drop_apart : (p q : Parts) (n : ℕ) (order : Ordering) → n < length p → n < length q
    → order ≡ slice_cmp nat_cmp (get_or p n []) (get_or q n [])
    → is_ne order ≡ true
    → path_order (drop n p) (drop n q) ≡ order
path_order-drop_apart p q n order in_p in_q is apart =
    path_order-drop p q n order in_p in_q is ∙ order_then-apart order _ apart

pub path_order-drop_alike : (p q : Parts) (n : ℕ) (order : Ordering) → n < length p → n < length q
    → order ≡ slice_cmp nat_cmp (get_or p n []) (get_or q n [])
    → is_ne order ≡ false
    → path_order (drop n p) (drop n q) ≡ path_order (drop (n + 1) p) (drop (n + 1) q)
path_order-drop_alike p q n order in_p in_q is alike =
    path_order-drop p q n order in_p in_q is ∙ order_then-alike order _ alike

-- where the shorter path has ended
pub path_order-drop_end : (p q : Parts) (n : ℕ) → n ≡ min (length p) (length q)
    → path_order (drop n p) (drop n q) ≡ nat_cmp (length p) (length q)
path_order-drop_end p q n e =
    grind (arith, nat_tests, drop_all n p, drop_more q n [], drop_all n q, drop_more p n [])

path_order-slice_cmp : (p q : Parts) → path_order p q ≡ slice_cmp (slice_cmp nat_cmp) p q
path_order-slice_cmp [] [] = refl
path_order-slice_cmp [] (b ∷ q) = refl
path_order-slice_cmp (a ∷ p) [] = refl
path_order-slice_cmp (a ∷ p) (b ∷ q) = grind (arith, byte_order-slice_cmp a b, path_order-slice_cmp p q)

lists_order : IsTotalOrder (slice_cmp (slice_cmp nat_cmp))
lists_order = lists_total nat_list_cmp_total

path_order-itself : (p : Parts) → path_order p p ≡ Equal
path_order-itself p = path_order-slice_cmp p p ∙ tied_itself lists_order p

pub order_exact : IsOrderExact
order_exact p q = (
  λ equal. slice_cmp-IsAntisymmetric exact_bytes p q (sym (path_order-slice_cmp p q) ∙ equal),
  λ same. rw same (path_order-itself q),
)

pub order_antisymmetric : IsOrderAntisymmetric
order_antisymmetric p q = rw (path_order-slice_cmp q p, path_order-slice_cmp p q) (lists_order.antisymm q p)

pub order_transitive : IsOrderTransitive
order_transitive p q r before after =
    path_order-slice_cmp p r
    ∙ lists_order.trans p q r (sym (path_order-slice_cmp p q) ∙ before) (sym (path_order-slice_cmp q r) ∙ after)

pub proper_prefix_less : IsProperPrefixLess
proper_prefix_less [] [] h other = absurd (other refl)
proper_prefix_less [] (b ∷ q) h other = refl
proper_prefix_less (a ∷ p) [] h other = cc
proper_prefix_less (a ∷ p) (b ∷ q) h other =
    let both = (is_prefix-cons a b p q).0 h in
    let equal : byte_order a b ≡ Equal = rw (both.0, byte_order-slice_cmp b b) (tied_itself nat_list_cmp_total b) in
    rw equal (proper_prefix_less p q both.1 (λ same. other (cc (both.0, same))))

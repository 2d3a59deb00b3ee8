-- Prefixes by their number of parts.
use Rattle.std.proofs.Common.{◌≡◌, ℕ, ◌<◌, ◌≤◌, Bool, true, false, ◌&&◌, List, [], ◌∷◌, zero, suc, length, take, refl, sym, ap, ◌∙◌, arith}
use Rattle.std.proofs.lemmas.Slice.Eq.{bytes_eq-Decides}
use Rattle.std.specs.Str.{bytes_eq}
use Rattle.std.specs.Cmp.Lexicographic.{pointwise}
use Rattle.std.specs.Prelude.{nat_eq}
use Rattle.doc_path.specs.Path.{Parts, is_prefix}

same_bytes : (a : List ℕ) → bytes_eq a a ≡ true
same_bytes a = (bytes_eq-Decides a a).1 refl

pub is_prefix-itself : (p : Parts) → is_prefix p p ≡ true
is_prefix-itself [] = refl
is_prefix-itself (a ∷ p) = ap (λ b. b && is_prefix p p) (same_bytes a) ∙ is_prefix-itself p

pub is_prefix-longer : (p q : Parts) → length q < length p → is_prefix p q ≡ false
is_prefix-longer [] q h = absurd (omega arith)
is_prefix-longer (a ∷ p) [] h = refl
is_prefix-longer (a ∷ p) (b ∷ q) h =
    ap (λ x. bytes_eq a b && x) (is_prefix-longer p q (omega arith))
    ∙ elim (bytes_eq a b) as (λ c. (c && false) ≡ false) [ true ↦ refl | false ↦ refl ]

pub is_prefix-take : (p : Parts) (n : ℕ) → is_prefix (take n p) p ≡ true
is_prefix-take p zero = refl
is_prefix-take [] (suc n) = refl
is_prefix-take (a ∷ p) (suc n) = ap (λ b. b && is_prefix (take n p) p) (same_bytes a) ∙ is_prefix-take p n

pub and-left : (a b : Bool) → (a && b) ≡ true → a ≡ true
and-left true b h = refl
and-left false b h = cc

pub and-right : (a b : Bool) → (a && b) ≡ true → b ≡ true
and-right true b h = h
and-right false b h = cc

-- a prefix is the first parts
pub prefix-take : (q p : Parts) → is_prefix q p ≡ true → q ≡ take (length q) p
prefix-take [] p h = refl
prefix-take (a ∷ q) [] h = cc
prefix-take (a ∷ q) (b ∷ p) h =
    let first : a ≡ b = (bytes_eq-Decides a b).0 (and-left (bytes_eq a b) (is_prefix q p) h) in
    let rest = prefix-take q p (and-right (bytes_eq a b) (is_prefix q p) h) in
    ap (λ x. x ∷ q) first ∙ ap (λ r. b ∷ r) rest

pub prefix-length : (q p : Parts) → is_prefix q p ≡ true → length q ≤ length p
prefix-length [] p h = omega arith
prefix-length (a ∷ q) [] h = cc
prefix-length (a ∷ q) (b ∷ p) h = let rest = prefix-length q p (and-right (bytes_eq a b) (is_prefix q p) h) in omega arith

same_bool : (x y : Bool) → (x ≡ true → y ≡ true) → (y ≡ true → x ≡ true) → x ≡ y
same_bool true y f g = sym (f refl)
same_bool false true f g = g refl
same_bool false false f g = refl

pub bytes_eq-swap : (a b : List ℕ) → bytes_eq a b ≡ bytes_eq b a
bytes_eq-swap a b =
    same_bool (bytes_eq a b) (bytes_eq b a)
    (λ h. (bytes_eq-Decides b a).1 (sym ((bytes_eq-Decides a b).0 h)))
    (λ h. (bytes_eq-Decides a b).1 (sym ((bytes_eq-Decides b a).0 h)))

-- the first parts are the same
pub is_prefix-front : (p q : Parts) → length p ≤ length q → pointwise (pointwise nat_eq) (take (length p) q) p ≡ is_prefix p q
is_prefix-front [] q h = refl
is_prefix-front (a ∷ p) [] h = absurd (omega arith)
is_prefix-front (a ∷ p) (b ∷ q) h =
    ap (λ x. bytes_eq b a && x) (is_prefix-front p q (omega arith)) ∙ ap (λ x. x && is_prefix p q) (bytes_eq-swap b a)

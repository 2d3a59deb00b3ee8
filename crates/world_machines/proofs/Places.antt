-- Elements at places of a list.
use Rattle.std.proofs.Common.{◌≡◌, ◌≢◌, ℕ, zero, suc, ◌+◌, ◌<◌, List, [], ◌∷◌, ◌++◌, Option, Some, None, length, drop, set, refl, sym, ap, ◌∙◌, subst, inl, inr, ◌⊎◌, add-zero, zero-add, arith}
use Rattle.std.specs.List.{slice_get}
use Rattle.std.proofs.lemmas.List.{length-set, length_push, drop-drop}
use Rattle.std.proofs.lemmas.Bool.{cases_eq}
use Rattle.world_machines.specs.Machines.{EachAt}

get_push : {X : Type 0} (xs : List X) (x y : X) (n : ℕ) → slice_get (xs ++ x ∷ []) n ≡ Some y → (slice_get xs n ≡ Some y) ⊎ ((n ≡ length xs) × (x ≡ y))
get_push [] x y zero is = inr (refl, cc)
get_push [] x y (suc n) is = absurd (let never : None ≡ Some y = is in cc)
get_push (z ∷ xs) x y zero is = inl is
get_push (z ∷ xs) x y (suc n) is = elim (get_push xs x y n is) [ inl there ↦ inl there | inr here ↦ inr (ap suc here.0, here.1) ]

get_set_other : {X : Type 0} (xs : List X) (i j : ℕ) (x : X) → j ≢ i → slice_get (set xs i x) j ≡ slice_get xs j
get_set_other [] i j x other = refl
get_set_other (y ∷ ys) zero zero x other = absurd (other refl)
get_set_other (y ∷ ys) zero (suc j) x other = refl
get_set_other (y ∷ ys) (suc i) zero x other = refl
get_set_other (y ∷ ys) (suc i) (suc j) x other = get_set_other ys i j x (λ is. other (ap suc is))

get_set_same : {X : Type 0} (xs : List X) (i : ℕ) (x y : X) → slice_get (set xs i x) i ≡ Some y → x ≡ y
get_set_same [] i x y is = absurd (let never : None ≡ Some y = is in cc)
get_set_same (z ∷ zs) zero x y is = cc
get_set_same (z ∷ zs) (suc i) x y is = get_set_same zs i x y is

pub get_drop : {X : Type 0} (n : ℕ) (xs : List X) (j : ℕ) → slice_get (drop n xs) j ≡ slice_get xs (n + j)
get_drop zero xs j = ap (slice_get xs) (sym (zero-add j))
get_drop (suc n) [] j = refl
get_drop (suc n) (x ∷ xs) j = get_drop n xs j ∙ ap (slice_get (x ∷ xs)) (let e : suc (n + j) ≡ suc n + j = omega arith in e)

-- what stands first behind some elements, and what stands behind it
pub drop_first : {X : Type 0} (n : ℕ) (xs ys : List X) (x : X) → drop n xs ≡ x ∷ ys → slice_get xs n ≡ Some x
drop_first n xs ys x is = ap (slice_get xs) (sym (add-zero n)) ∙ sym (get_drop n xs 0) ∙ ap (λ zs. slice_get zs 0) is

pub drop_next : {X : Type 0} (n : ℕ) (xs ys : List X) (x : X) → drop n xs ≡ x ∷ ys → drop (n + 1) xs ≡ ys
drop_next n xs ys x is = sym (drop-drop 1 n xs) ∙ ap (drop 1) is

-- the element at a place of the first of two lists, and of the second
pub get_left : {X : Type 0} (xs ys : List X) (n : ℕ) (x : X) → slice_get xs n ≡ Some x → slice_get (xs ++ ys) n ≡ Some x
get_left [] ys n x is = absurd (let never : None ≡ Some x = is in cc)
get_left (z ∷ zs) ys zero x is = is
get_left (z ∷ zs) ys (suc n) x is = get_left zs ys n x is

pub get_right : {X : Type 0} (xs ys : List X) (n j : ℕ) → length xs ≡ n → slice_get (xs ++ ys) (n + j) ≡ slice_get ys j
get_right [] ys n j many = ap (slice_get ys) (let e : n + j ≡ j = omega (arith, many) in e)
get_right (z ∷ zs) ys n j many =
    ap (slice_get (z ∷ (zs ++ ys))) (let e : n + j ≡ suc (length zs + j) = omega (arith, many) in e) ∙ get_right zs ys (length zs) j refl

pub get_within : {X : Type 0} (xs : List X) (n : ℕ) → n < length xs → (x : X) × (slice_get xs n ≡ Some x)
get_within [] n within = absurd (let never : n < 0 = within in omega arith)
get_within (x ∷ xs) zero within = (x, refl)
get_within (x ∷ xs) (suc n) within = get_within xs n (let less : suc n < suc (length xs) = within in omega arith)

pub each_none : {X : Type 0} (right : ℕ → X → Type 0) (xs : List X) → xs ≡ [] → EachAt right 0 xs
each_none right xs none = record {
  as_many = ap length none;
  each = λ n x at. absurd (let never : None ≡ Some x = sym (ap (λ ys. slice_get ys n) none) ∙ at in cc);
}

pub each_push : {X : Type 0} (right : ℕ → X → Type 0) (n : ℕ) (xs : List X) (x : X) → EachAt right n xs → right n x → EachAt right (n + 1) (xs ++ x ∷ [])
each_push right n xs x each is = record {
  as_many = length_push xs x ∙ ap (λ k. k + 1) each.as_many;
  each = λ k y at. elim (get_push xs x y k at) [
    | inl there ↦ each.each k y there
    | inr here ↦ subst (right k) here.1 (subst (λ j. right j x) (sym each.as_many ∙ sym here.0) is)
  ];
}

pub each_set : {X : Type 0} (right after : ℕ → X → Type 0) (n : ℕ) (xs : List X) (i : ℕ) (x : X) → EachAt right n xs → ((j : ℕ) (y : X) → j ≢ i → right j y → after j y) → after i x → EachAt after n (set xs i x)
each_set right after n xs i x each others is = record {
  as_many = length-set xs i x ∙ each.as_many;
  each = λ j y at. elim (cases_eq j i) [
    | inl same ↦ subst (λ k. after k y) (sym same) (subst (after i) (get_set_same xs i x y (subst (λ k. slice_get (set xs i x) k ≡ Some y) same at)) is)
    | inr other ↦ others j y other (each.each j y (sym (get_set_other xs i j x other) ∙ at))
  ];
}

pub each_same : {X : Type 0} (right after : ℕ → X → Type 0) (n : ℕ) (xs : List X) → EachAt right n xs → ((j : ℕ) (y : X) → right j y → after j y) → EachAt after n xs
each_same right after n xs each more = record { as_many = each.as_many; each = λ j y at. more j y (each.each j y at) }

-- Lists of which each element is right for its place.
use Rattle.std.proofs.Common.{◌≡◌, ◌≢◌, ℕ, zero, suc, ◌+◌, ◌<◌, Bool, true, Option, None, List, [], ◌∷◌, ◌++◌, Some, length, get_or, nat_eq, refl, sym, ap, subst, ◌∙◌, inl, inr, ◌⊎◌, arith}
use Rattle.std.proofs.Math.ListN.{set, length-set}
use Rattle.std.proofs.lemmas.List.{get_or-set_same, get_or-set_other, length-append}
use Rattle.std.proofs.lemmas.Option.{get_or_from_slice_get, slice_get-get_or, slice_get_read, slice_get_within}
use Rattle.std.specs.List.{slice_get}
use Rattle.std.specs.Option.{is_some, option_and_then}
use Rattle.law_machines.proofs.Basics.{eq_cases}
use Rattle.world_movers.specs.Slots.{EachAt}

-- ## an element that is there

some_there : {X Y : Type 0} (f : X → Option Y) (o : Option X) → is_some (option_and_then f o) ≡ true → (x : X) × (o ≡ Some x)
some_there f None is = cc
some_there f (Some x) is = (x, refl)

pub within_some : {X Y : Type 0} (f : X → Option Y) (xs : List X) (n : ℕ) → is_some (option_and_then f (slice_get xs n)) ≡ true → n < length xs
within_some f xs n is = let there = some_there f (slice_get xs n) is in slice_get_within xs n there.0 there.1

pub get_read : {X : Type 0} (xs : List X) (n : ℕ) (x : X) → n < length xs → x ≡ get_or xs n x → slice_get xs n ≡ Some x
get_read xs n x within is = slice_get_read xs (length xs) n x refl within is

-- ## one element is another

pub get_set : {X : Type 0} (xs : List X) (n m : ℕ) (x y : X) → slice_get (set xs n x) m ≡ Some y → (m ≡ n) × (x ≡ y) ⊎ (m ≢ n) × (slice_get xs m ≡ Some y)
get_set xs n m x y is =
    let within : m < length xs = subst (λ (k : ℕ). m < k) (length-set xs n x) (slice_get_within (set xs n x) m y is) in
    let there : get_or (set xs n x) m y ≡ y = get_or_from_slice_get (set xs n x) m y y is in
    elim (eq_cases m n) [
      | inl same ↦ inl (same.1, sym (get_or-set_same xs m x y within) ∙ ap (λ (k : ℕ). get_or (set xs k x) m y) same.1 ∙ there)
      | inr apart ↦ inr (apart.1, slice_get-get_or xs m y within ∙ ap Some (sym (get_or-set_other xs n m x y apart.1) ∙ there))
    ]

pub get_kept : {X : Type 0} (xs : List X) (n m : ℕ) (x y : X) → m ≢ n → slice_get xs m ≡ Some y → slice_get (set xs n x) m ≡ Some y
get_kept xs n m x y apart is =
    let within : m < length (set xs n x) = subst (λ (k : ℕ). m < k) (sym (length-set xs n x)) (slice_get_within xs m y is) in
    slice_get-get_or (set xs n x) m y within ∙ ap Some (get_or-set_other xs n m x y apart ∙ get_or_from_slice_get xs m y y is)

pub get_there : {X : Type 0} (xs : List X) (n : ℕ) (x : X) → n < length xs → slice_get (set xs n x) n ≡ Some x
get_there xs n x within =
    let longer : n < length (set xs n x) = subst (λ (k : ℕ). n < k) (sym (length-set xs n x)) within in
    slice_get-get_or (set xs n x) n x longer ∙ ap Some (get_or-set_same xs n x x within)

pub each_set : {X : Type 0} (xs : List X) (many : ℕ) (P Q : ℕ → X → Type 0) (n : ℕ) (x : X) → EachAt xs many P → Q n x → ((m : ℕ) (y : X) → m ≢ n → P m y → Q m y) → EachAt (set xs n x) many Q
each_set xs many P Q n x are right others = record {
  as_many = length-set xs n x ∙ are.as_many;
  each = λ m y is. elim (get_set xs n m x y is) [
    | inl same ↦ subst (λ (k : ℕ). Q k y) (sym same.0) (subst (Q n) same.1 right)
    | inr apart ↦ others m y apart.0 (are.each m y apart.1)
  ];
}

pub each_more : {X : Type 0} (xs : List X) (many : ℕ) (P Q : ℕ → X → Type 0) → EachAt xs many P → ((m : ℕ) (y : X) → P m y → Q m y) → EachAt xs many Q
each_more xs many P Q are more = record { as_many = are.as_many; each = λ m y is. more m y (are.each m y is) }

-- ## one element more

pub get_push : {X : Type 0} (xs : List X) (m : ℕ) (x y : X) → slice_get (xs ++ x ∷ []) m ≡ Some y → (m ≡ length xs) × (x ≡ y) ⊎ (slice_get xs m ≡ Some y)
get_push [] zero x y is = inl (refl, cc)
get_push [] (suc m) x y is = cc
get_push (z ∷ xs) zero x y is = inr is
get_push (z ∷ xs) (suc m) x y is = elim (get_push xs m x y is) [
  | inl last ↦ inl (ap suc last.0, last.1)
  | inr there ↦ inr there
]

pub get_front : {X : Type 0} (xs ys : List X) (m : ℕ) (y : X) → slice_get xs m ≡ Some y → slice_get (xs ++ ys) m ≡ Some y
get_front [] ys m y is = cc
get_front (x ∷ xs) ys zero y is = is
get_front (x ∷ xs) ys (suc m) y is = get_front xs ys m y is

pub get_last : {X : Type 0} (xs : List X) (x : X) → slice_get (xs ++ x ∷ []) (length xs) ≡ Some x
get_last [] x = refl
get_last (y ∷ xs) x = get_last xs x

pub each_none : {X : Type 0} (P : ℕ → X → Type 0) → EachAt [] 0 P
each_none P = record { as_many = refl; each = λ m y is. cc }

pub each_push : {X : Type 0} (xs : List X) (many : ℕ) (P Q : ℕ → X → Type 0) (x : X) → EachAt xs many P → Q many x → ((m : ℕ) (y : X) → slice_get xs m ≡ Some y → P m y → Q m y) → EachAt (xs ++ x ∷ []) (many + 1) Q
each_push xs many P Q x are right others = record {
  as_many = length-append xs (x ∷ []) ∙ ap (λ (n : ℕ). n + 1) are.as_many;
  each = λ m y is. elim (get_push xs m x y is) [
    | inl last ↦ subst (λ (k : ℕ). Q k y) (sym (last.0 ∙ are.as_many)) (subst (Q many) last.1 right)
    | inr there ↦ others m y there (are.each m y there)
  ];
}

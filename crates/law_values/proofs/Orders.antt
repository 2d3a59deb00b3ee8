-- A list that was sorted: its members, and their order.
use Rattle.std.proofs.Common.{◌≡◌, Bool, true, false, List, [], ◌∷◌, refl, sym, subst, inl, inr, ◌⊎◌, if◌then◌else◌}
use Rattle.txn_types.specs.Lists.{Member, inserted_by, sorted_by}
use Rattle.law_machines.proofs.Basics.{inserted_from}
use Rattle.law_values.specs.Laws.{InOrder}

into_choice : {A : Type 0} (b : Bool) (le : A → A → Bool) (x y z : A) (ys : List A) → (z ≡ x) ⊎ Member z (y ∷ ys) → ((z ≡ x) ⊎ Member z ys → Member z (inserted_by le x ys)) → Member z (if b then x ∷ y ∷ ys else y ∷ inserted_by le x ys)
into_choice true le x y z ys m more = m
into_choice false le x y z ys m more = elim m [
  | inl new ↦ inr (more (inl new))
  | inr old ↦ elim old [ inl here ↦ inl here | inr later ↦ inr (more (inr later)) ]
]

inserted_into : {A : Type 0} (le : A → A → Bool) (x z : A) (ys : List A) → (z ≡ x) ⊎ Member z ys → Member z (inserted_by le x ys)
unfolding inserted_by
inserted_into le x z [] m = m
inserted_into le x z (y ∷ ys) m = into_choice (le x y) le x y z ys m (inserted_into le x z ys)

pub sorted_into : {A : Type 0} (le : A → A → Bool) (z : A) (xs : List A) → Member z xs → Member z (sorted_by le xs)
unfolding sorted_by
sorted_into le z [] m = m
sorted_into le z (x ∷ xs) m = inserted_into le x z (sorted_by le xs) (elim m [
  | inl here ↦ inl here
  | inr later ↦ inr (sorted_into le z xs later)
])

-- a test that decides an order: of two, the one that passes comes first
pub record Sorts {A : Type 0} (le : A → A → Bool) (R : A → A → Type 0) : Type 0 where
  pub first : (x y : A) → le x y ≡ true → R x y
  pub second : (x y : A) → le x y ≡ false → R y x
  pub through : (x y z : A) → R x y → R y z → R x z

order_choice : {A : Type 0} (b : Bool) (le : A → A → Bool) (R : A → A → Type 0) (sorts : Sorts le R) (x y : A) (ys : List A) → le x y ≡ b → ((z : A) → Member z ys → R y z) → InOrder R ys → InOrder R (inserted_by le x ys) →
    InOrder R (if b then x ∷ y ∷ ys else y ∷ inserted_by le x ys)
order_choice true le R sorts x y ys is below order more = (
  λ z m. elim m [
    | inl here ↦ subst (λ w. R x w) (sym here) (sorts.first x y is)
    | inr later ↦ sorts.through x y z (sorts.first x y is) (below z later)
  ],
  (below, order),
)
order_choice false le R sorts x y ys is below order more = (
  λ z m. elim (inserted_from le x z ys m) [
    | inl new ↦ subst (λ w. R y w) (sym new) (sorts.second x y is)
    | inr old ↦ below z old
  ],
  more,
)

inserted_order : {A : Type 0} (le : A → A → Bool) (R : A → A → Type 0) (sorts : Sorts le R) (x : A) (ys : List A) → InOrder R ys → InOrder R (inserted_by le x ys)
unfolding inserted_by
inserted_order le R sorts x [] order = (λ z m. absurd m, tt)
inserted_order le R sorts x (y ∷ ys) order = order_choice (le x y) le R sorts x y ys refl order.0 order.1 (inserted_order le R sorts x ys order.1)

pub sorted_order : {A : Type 0} (le : A → A → Bool) (R : A → A → Type 0) (sorts : Sorts le R) (xs : List A) → InOrder R (sorted_by le xs)
unfolding sorted_by
sorted_order le R sorts [] = tt
sorted_order le R sorts (x ∷ xs) = inserted_order le R sorts x (sorted_by le xs) (sorted_order le R sorts xs)

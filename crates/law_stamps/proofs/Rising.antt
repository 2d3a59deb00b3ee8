-- Entries whose stamps rise: two such lists of the same entries are one list.
use Rattle.std.proofs.Common.{◌≡◌, ◌⊎◌, ℕ, zero, suc, ◌<◌, false, List, [], ◌∷◌, nat_eq, refl, sym, ap, subst, inl, inr, ⊎_elim, ne_eqb, arith}
use Rattle.std.specs.Prelude.{IsPermutation, Contains}
use Rattle.std.specs.List.{AllByRecursion, IsDistinct}
use Rattle.std.specs.List.Sorted.{IsStrictlyIncreasing, IsStrictlySortedBy}
use Rattle.std.specs.Ordering.{nat_cmp, MatchOrdering}
use Rattle.std.specs.declared.cmp.Ordering.{Ordering}
use Rattle.std.specs.declared.cmp.Ordering.TheVariants.{Less}
use Rattle.std.proofs.lemmas.Cmp.{ranked}
use Rattle.std.proofs.lemmas.Map.Keys.{sorted_from_strictly_increasing}
use Rattle.std.proofs.lemmas.List.Elements.{All-contains, All-from_recursion}
use Rattle.std.proofs.lemmas.List.Sorted.{Contains-permutation, IsPermutation-sym}
use Rattle.txn_data.specs.declared.stamped1.Stamped1.{Stamped1}
use Rattle.trace_merge.specs.Merged.{stamps, NoStampTwice}

-- each stamp is above this number
abbrev pub Above : ℕ → List Stamped1 → Type 0
Above n xs = AllByRecursion (λ (x : Stamped1). n < x.stamp) xs

-- each stamp is below all later ones
abbrev pub Rises : List Stamped1 → Type 0
Rises [] = Unit {0}
Rises (x ∷ xs) = Above x.stamp xs × Rises xs

-- ## which entries a list has

contains_cases : (x z : Stamped1) (xs : List Stamped1) → Contains (x ∷ xs) z → (x ≡ z) ⊎ Contains xs z
contains_cases x z xs (zero, lt, is) = inl is
contains_cases x z xs (suc k, lt, is) = inr (k, omega (arith, lt), is)

contains_first : (x : Stamped1) (xs : List Stamped1) → Contains (x ∷ xs) x
contains_first x xs = (0, omega arith, refl)

contains_later : (x z : Stamped1) (xs : List Stamped1) → Contains xs z → Contains (x ∷ xs) z
contains_later x z xs c = let lt = c.1 in (suc c.0, omega (arith, lt), c.2)

no_contains : (z : Stamped1) → Contains [] z → ⊥
no_contains z c = let lt = c.1 in omega (arith, lt)

above_at : (n : ℕ) (z : Stamped1) (xs : List Stamped1) → Above n xs → Contains xs z → n < z.stamp
above_at n z xs above c = All-contains (λ (x : Stamped1). n < x.stamp) xs z (All-from_recursion (λ (x : Stamped1). n < x.stamp) xs above) c

-- ## two lists of the same entries

abbrev Within : List Stamped1 → List Stamped1 → Type 0
Within xs ys = (z : Stamped1) → Contains xs z → Contains ys z

same_first : (x y : Stamped1) (xs ys : List Stamped1) → Rises (x ∷ xs) → Rises (y ∷ ys) → Within (x ∷ xs) (y ∷ ys) → Within (y ∷ ys) (x ∷ xs) → x ≡ y
same_first x y xs ys one two there back =
    ⊎_elim
    (λ is. sym is)
    (λ late. ⊎_elim
    (λ is. is)
    (λ other. let low = above_at y.stamp x ys two.0 late in let high = above_at x.stamp y xs one.0 other in absurd (omega (arith, low, high)))
    (contains_cases x y xs (back y (contains_first y ys))))
    (contains_cases y x ys (there x (contains_first x xs)))

same_rest : (x : Stamped1) (xs ys : List Stamped1) → Above x.stamp xs → Within (x ∷ xs) (x ∷ ys) → Within xs ys
same_rest x xs ys above there z c =
    ⊎_elim
    (λ (is : x ≡ z). let high = above_at x.stamp z xs above c in let same = ap (λ (s : Stamped1). s.stamp) is in absurd (omega (arith, high, same)))
    (λ later. later)
    (contains_cases x z ys (there z (contains_later x z xs c)))

one_order : (xs ys : List Stamped1) → Rises xs → Rises ys → Within xs ys → Within ys xs → xs ≡ ys
one_order [] [] one two there back = refl
one_order [] (y ∷ ys) one two there back = absurd (no_contains y (back y (contains_first y ys)))
one_order (x ∷ xs) [] one two there back = absurd (no_contains x (there x (contains_first x xs)))
one_order (x ∷ xs) (y ∷ ys) one two there back =
    let first : x ≡ y = same_first x y xs ys one two there back in
    let all : Within (x ∷ xs) (x ∷ ys) = subst (λ (s : Stamped1). Within (x ∷ xs) (s ∷ ys)) (sym first) there in
    let none : Within (x ∷ ys) (x ∷ xs) = subst (λ (s : Stamped1). Within (s ∷ ys) (x ∷ xs)) (sym first) back in
    let above : Above x.stamp ys = subst (λ (s : Stamped1). Above s.stamp ys) (sym first) two.0 in
    let rest : xs ≡ ys = one_order xs ys one.1 two.1 (same_rest x xs ys one.0 all) (same_rest x ys xs above none) in
    subst (λ (s : Stamped1). x ∷ xs ≡ s ∷ ys) first (ap (λ (l : List Stamped1). x ∷ l) rest)

-- a list can be put into an order in which the stamps rise in one way at most
pub one_sorted : (xs ys : List Stamped1) → Rises xs → Rises ys → IsPermutation xs ys → xs ≡ ys
one_sorted xs ys one two same = one_order xs ys one two (λ z c. Contains-permutation xs ys z same c) (λ z c. Contains-permutation ys xs z (IsPermutation-sym xs ys same) c)

-- ## other words for it

less : (m n : ℕ) → nat_cmp m n ≡ Less → m < n
less m n is = subst (λ (r : Ordering). MatchOrdering r (m < n) (m ≡ n) (n < m)) is (ranked m n (nat_cmp m n) refl)

above_from : (n : ℕ) (xs : List Stamped1) → AllByRecursion (λ (m : ℕ). nat_cmp n m ≡ Less) (stamps xs) → Above n xs
above_from n [] less_all = tt
above_from n (x ∷ xs) less_all = (less n x.stamp less_all.0, above_from n xs less_all.1)

rises_from : (xs : List Stamped1) → IsStrictlySortedBy nat_cmp (stamps xs) → Rises xs
unfolding IsStrictlySortedBy
rises_from [] sorted = tt
rises_from (x ∷ xs) sorted = (above_from x.stamp xs sorted.0, rises_from xs sorted.1)

pub rises_of : (xs : List Stamped1) → IsStrictlyIncreasing (stamps xs) → Rises xs
rises_of xs rising = rises_from xs (sorted_from_strictly_increasing (stamps xs) rising)

differs : (n : ℕ) (xs : List Stamped1) → Above n xs → AllByRecursion (λ (m : ℕ). nat_eq n m ≡ false) (stamps xs)
differs n [] above = tt
differs n (x ∷ xs) above = let lt = above.0 in (ne_eqb n x.stamp (λ is. omega (arith, lt, is)), differs n xs above.1)

pub once_each : (xs : List Stamped1) → Rises xs → NoStampTwice xs
unfolding IsDistinct
once_each [] rises = tt
once_each (x ∷ xs) rises = (differs x.stamp xs rises.0, once_each xs rises.1)

-- Numbers that rise, each once.
use Rattle.std.proofs.Common.{◌≡◌, ℕ, ◌<◌, Bool, true, false, ◌||◌, List, [], ◌∷◌, refl, sym, ap, ◌∙◌, arith, nat_lt, nat_eq, if◌then◌else◌}
use Rattle.std.specs.List.{AllByRecursion}
use Rattle.std.specs.List.Sorted.{IsStrictlySortedBy}
use Rattle.std.specs.Ordering.{nat_cmp}
use Rattle.std.specs.declared.cmp.Ordering.TheVariants.{Less}
use Rattle.std.proofs.lemmas.Bool.Decides.{nat_tests}
use Rattle.txn_types.specs.Lists.{with_number, rising, has_number}

-- each of these numbers is above n
abbrev pub AreAbove : ℕ → List ℕ → Type 0
AreAbove n [] = Unit {0}
AreAbove n (m ∷ ms) = (n < m) × AreAbove n ms

abbrev pub Rises : List ℕ → Type 0
Rises [] = Unit {0}
Rises (n ∷ ns) = AreAbove n ns × Rises ns

are_above-less : (k n : ℕ) (ms : List ℕ) → k < n → AreAbove n ms → AreAbove k ms
are_above-less k n [] below h = tt
are_above-less k n (m ∷ ms) below h = (omega (arith, h.0), are_above-less k n ms below h.1)

are_above-with : (k n : ℕ) (ms : List ℕ) → k < n → AreAbove k ms → AreAbove k (with_number n ms)
unfolding with_number
are_above-with k n [] below h = (below, tt)
are_above-with k n (m ∷ ms) below h =
    elim (nat_lt n m) as (λ b. AreAbove k (if b then n ∷ m ∷ ms else (if nat_eq n m then m ∷ ms else m ∷ with_number n ms))) [
      | true ↦ (below, h)
      | false ↦ elim (nat_eq n m) as (λ b. AreAbove k (if b then m ∷ ms else m ∷ with_number n ms)) [
        | true ↦ h
        | false ↦ (h.0, are_above-with k n ms below h.1)
      ]
    ]

rises-with : (n : ℕ) (ms : List ℕ) → Rises ms → Rises (with_number n ms)
unfolding with_number
rises-with n [] h = (tt, tt)
rises-with n (m ∷ ms) h =
    let P : Bool → Type 0 = λ b. nat_lt n m ≡ b → Rises (if b then n ∷ m ∷ ms else (if nat_eq n m then m ∷ ms else m ∷ with_number n ms)) in
    let Q : Bool → Type 0 = λ b. nat_lt n m ≡ false → nat_eq n m ≡ b → Rises (if b then m ∷ ms else m ∷ with_number n ms) in
    (elim (nat_lt n m) as P [
      | true ↦ λ lt. let less : n < m = grind (arith, nat_tests) in ((less, are_above-less n m ms less h.0), h)
      | false ↦ λ ge. (elim (nat_eq n m) as Q [
        | true ↦ λ _ _. h
        | false ↦ λ g e. let more : m < n = grind (arith, nat_tests) in (are_above-with m n ms more h.0, rises-with n ms h.1)
      ]) ge refl
    ]) refl

rises : (ns : List ℕ) → Rises (rising ns)
unfolding rising
rises [] = tt
rises (n ∷ ns) = rises-with n (rising ns) (rises ns)

has_number-with : (x n : ℕ) (ms : List ℕ) → has_number x (with_number n ms) ≡ (nat_eq x n || has_number x ms)
unfolding with_number
has_number-with x n [] = refl
has_number-with x n (m ∷ ms) =
    let P : Bool → Type 0 = λ b. nat_lt n m ≡ b → has_number x (if b then n ∷ m ∷ ms else (if nat_eq n m then m ∷ ms else m ∷ with_number n ms)) ≡ (nat_eq x n || (nat_eq x m || has_number x ms)) in
    let Q : Bool → Type 0 = λ b. nat_eq n m ≡ b → has_number x (if b then m ∷ ms else m ∷ with_number n ms) ≡ (nat_eq x n || (nat_eq x m || has_number x ms)) in
    (elim (nat_lt n m) as P [
      | true ↦ λ lt. refl
      | false ↦ λ ge. (elim (nat_eq n m) as Q [
        | true ↦ λ e. grind (arith, nat_tests)
        | false ↦ λ e. ap (λ b. nat_eq x m || b) (has_number-with x n ms) ∙ swapped (nat_eq x m) (nat_eq x n) (has_number x ms)
      ]) refl
    ]) refl
  where
    swapped : (a b c : Bool) → (a || (b || c)) ≡ (b || (a || c))
    swapped true true c = refl
    swapped true false c = refl
    swapped false b c = refl

pub has_number-rising : (x : ℕ) (ns : List ℕ) → has_number x (rising ns) ≡ has_number x ns
unfolding rising
has_number-rising x [] = refl
has_number-rising x (n ∷ ns) = has_number-with x n (rising ns) ∙ ap (λ b. nat_eq x n || b) (has_number-rising x ns)

pub above-none : (n : ℕ) (ms : List ℕ) → AreAbove n ms → has_number n ms ≡ false
above-none n [] h = refl
above-none n (m ∷ ms) h =
    let apart : nat_eq n m ≡ false = grind (arith, nat_tests, h.0) in
    rw apart (above-none n ms h.1)

itself : (n : ℕ) → nat_eq n n ≡ true
itself n = grind (arith, nat_tests)

-- lists that rise and have the same numbers are one
pub same_rising : (xs ys : List ℕ) → Rises xs → Rises ys → ((n : ℕ) → has_number n xs ≡ has_number n ys) → xs ≡ ys
same_rising [] [] h g same = refl
same_rising [] (y ∷ ys) h g same = let at = same y in let e = itself y in grind (arith, at, e)
same_rising (x ∷ xs) [] h g same = let at = same x in let e = itself x in grind (arith, at, e)
same_rising (x ∷ xs) (y ∷ ys) h g same =
    let heads : x ≡ y = first_same x y xs ys h.0 g.0 (same x) (same y) in
    let tails : (n : ℕ) → has_number n xs ≡ has_number n ys =
    λ n. without (nat_eq n x) (nat_eq n y) (has_number n xs) (has_number n ys) (ap (λ m. nat_eq n m) heads) (same n)
    (λ e. let is : n ≡ x = grind (arith, nat_tests, e) in rw is (above-none x xs h.0))
    (λ e. let is : n ≡ y = grind (arith, nat_tests, e) in rw is (above-none y ys g.0)) in
    let rest = same_rising xs ys h.1 g.1 tails in
    λ i. heads i ∷ rest i
  where
    first_same : (x y : ℕ) (xs ys : List ℕ) → AreAbove x xs → AreAbove y ys → has_number x (x ∷ xs) ≡ has_number x (y ∷ ys) → has_number y (x ∷ xs) ≡ has_number y (y ∷ ys) → x ≡ y
    first_same x y xs ys h g at_x at_y =
        let P : Bool → Type 0 = λ b. nat_lt x y ≡ b → x ≡ y in
        let Q : Bool → Type 0 = λ b. nat_lt x y ≡ false → nat_lt y x ≡ b → x ≡ y in
        (elim (nat_lt x y) as P [
          | true ↦ λ lt. let less : x < y = grind (arith, nat_tests) in
              let none = above-none x ys (are_above-less x y ys less g) in
              let e = itself x in
              grind (arith, nat_tests, none, at_x, e)
          | false ↦ λ ge. (elim (nat_lt y x) as Q [
            | true ↦ λ _ gt. let less : y < x = grind (arith, nat_tests) in
                let none = above-none y xs (are_above-less y x xs less h) in
                let e = itself y in
                grind (arith, nat_tests, none, at_y, e)
            | false ↦ λ a b. grind (arith, nat_tests)
          ]) ge refl
        ]) refl

    without : (a b c d : Bool) → a ≡ b → (a || c) ≡ (b || d) → (a ≡ true → c ≡ false) → (b ≡ true → d ≡ false) → c ≡ d
    without true true c d e h f g = f refl ∙ sym (g refl)
    without true false c d e h f g = cc
    without false true c d e h f g = cc
    without false false c d e h f g = h

are_above-sorted : (n : ℕ) (ms : List ℕ) → AllByRecursion (λ m. nat_cmp n m ≡ Less) ms → AreAbove n ms
are_above-sorted n [] h = tt
are_above-sorted n (m ∷ ms) h = (let first = h.0 in grind (arith, nat_tests, first), are_above-sorted n ms h.1)

pub rises-sorted : (ns : List ℕ) → IsStrictlySortedBy nat_cmp ns → Rises ns
unfolding IsStrictlySortedBy
rises-sorted [] h = tt
rises-sorted (n ∷ ns) h = (are_above-sorted n ns h.0, rises-sorted ns h.1)

-- keys in order that are these numbers are these numbers by rising value
pub rising-keys : (keys ns : List ℕ) → IsStrictlySortedBy nat_cmp keys → ((x : ℕ) → has_number x keys ≡ has_number x ns) → keys ≡ rising ns
rising-keys keys ns sorted same =
    same_rising keys (rising ns) (rises-sorted keys sorted) (rises ns) (λ x. same x ∙ sym (has_number-rising x ns))

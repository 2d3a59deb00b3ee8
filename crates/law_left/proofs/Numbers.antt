-- Rising numbers of what passes a test are those rising numbers that pass it.
use Rattle.std.proofs.Common.{◌≡◌, ℕ, ◌<◌, Bool, true, false, List, [], ◌∷◌, map, filter, nat_eq, nat_lt, refl, sym, ◌∙◌, ap, subst, inl, inr, arith}
use Rattle.std.proofs.Math.Numerals.{lt_of_le_of_ne}
use Rattle.std.proofs.lemmas.Bool.{lt-ltb, ltb-true, ltb-false}
use Rattle.txn_types.specs.Lists.{Member, with_number, rising}
use Rattle.law_machines.proofs.Basics.{test_cases, eq_cases, eq_true}

-- n is below each of these numbers, which rise
abbrev Below : ℕ → List ℕ → Type 0
Below n [] = Unit {0}
Below n (m ∷ ms) = (n < m) × Below n ms

abbrev Rises : List ℕ → Type 0
Rises [] = Unit {0}
Rises (n ∷ ns) = Below n ns × Rises ns

below_less : (k n : ℕ) (ms : List ℕ) → k < n → Below n ms → Below k ms
below_less k n [] less below = tt
below_less k n (m ∷ ms) less below = let first = below.0 in (omega (arith, less, first), below_less k n ms less below.1)

-- the three ways of a number into a list
data Order (n m : ℕ) : Type 0 where
  Less : nat_lt n m ≡ true → n < m → Order n m
  Same : nat_lt n m ≡ false → nat_eq n m ≡ true → Order n m
  More : nat_lt n m ≡ false → nat_eq n m ≡ false → m < n → Order n m

order : (n m : ℕ) → Order n m
order n m = elim (test_cases (nat_lt n m)) [
  | inl lt ↦ Less lt (ltb-true n m lt)
  | inr ge ↦ elim (eq_cases n m) [
    | inl same ↦ Same ge same.0
    | inr other ↦ More ge other.0 (lt_of_le_of_ne (ltb-false n m ge) (λ is. other.1 (sym is)))
  ]
]

below_with : (k n : ℕ) (ms : List ℕ) → k < n → Below k ms → Below k (with_number n ms)
unfolding with_number
below_with k n [] less below = (less, tt)
below_with k n (m ∷ ms) less below = elim (order n m) [
  | Less lt first ↦ rw lt (less, below)
  | Same ge same ↦ rw (ge, same) below
  | More ge other more ↦ rw (ge, other) (below.0, below_with k n ms less below.1)
]

rises_with : (n : ℕ) (ms : List ℕ) → Rises ms → Rises (with_number n ms)
unfolding with_number
rises_with n [] up = (tt, tt)
rises_with n (m ∷ ms) up = elim (order n m) [
  | Less lt first ↦ rw lt ((first, below_less n m ms first up.0), up)
  | Same ge same ↦ rw (ge, same) up
  | More ge other more ↦ rw (ge, other) (below_with m n ms more up.0, rises_with n ms up.1)
]

rises : (ns : List ℕ) → Rises (rising ns)
unfolding rising
rises [] = tt
rises (n ∷ ns) = rises_with n (rising ns) (rises ns)

-- a number below all of them comes first
with_below : (n : ℕ) (ms : List ℕ) → Below n ms → with_number n ms ≡ n ∷ ms
unfolding with_number
with_below n [] below = refl
with_below n (m ∷ ms) below = rw (lt-ltb n m below.0) refl

module _ (test : ℕ → Bool) where
  below_filter : (n : ℕ) (ms : List ℕ) → Below n ms → Below n (filter test ms)
  below_filter n [] below = tt
  below_filter n (m ∷ ms) below = elim (test_cases (test m)) [
    | inl holds ↦ rw holds (below.0, below_filter n ms below.1)
    | inr fails ↦ rw fails (below_filter n ms below.1)
  ]

  dropped : (n : ℕ) (ms : List ℕ) → test n ≡ false → filter test (with_number n ms) ≡ filter test ms
  unfolding with_number
  dropped n [] is = rw is refl
  dropped n (m ∷ ms) is = elim (order n m) [
    | Less lt first ↦ rw lt (rw is refl)
    | Same ge same ↦ rw (ge, same) refl
    | More ge other more ↦ rw (ge, other) (elim (test_cases (test m)) [
      | inl holds ↦ rw holds (ap (λ (l : List ℕ). m ∷ l) (dropped n ms is))
      | inr fails ↦ rw fails (dropped n ms is)
    ])
  ]

  first_kept : (n m : ℕ) (ms : List ℕ) → test n ≡ true → Below n (m ∷ ms) → filter test (n ∷ m ∷ ms) ≡ with_number n (filter test (m ∷ ms))
  first_kept n m ms is below = rw is (sym (with_below n (filter test (m ∷ ms)) (below_filter n (m ∷ ms) below)))

  kept : (n : ℕ) (ms : List ℕ) → Rises ms → test n ≡ true → filter test (with_number n ms) ≡ with_number n (filter test ms)
  unfolding with_number
  kept n [] up is = rw is refl
  kept n (m ∷ ms) up is = elim (order n m) [
    | Less lt first ↦ rw lt (first_kept n m ms is (first, below_less n m ms first up.0))
    | Same ge same ↦
        let holds : test m ≡ true = subst (λ (k : ℕ). test k ≡ true) (eq_true n m same) is in
        rw (ge, same) (rw holds (rw (ge, same) refl))
    | More ge other more ↦ elim (test_cases (test m)) [
      | inl holds ↦ rw (ge, other) (rw holds (rw (ge, other) (ap (λ (l : List ℕ). m ∷ l) (kept n ms up.1 is))))
      | inr fails ↦ rw (ge, other) (rw fails (kept n ms up.1 is))
    ]
  ]

  pub rising_filter : (ns : List ℕ) → rising (filter test ns) ≡ filter test (rising ns)
  unfolding rising
  rising_filter [] = refl
  rising_filter (n ∷ ns) = elim (test_cases (test n)) [
    | inl holds ↦ rw holds (ap (λ (l : List ℕ). with_number n l) (rising_filter ns) ∙ sym (kept n (rising ns) (rises ns) holds))
    | inr fails ↦ rw fails (rising_filter ns ∙ sym (dropped n (rising ns) fails))
  ]

  pub map_filter : {A : Type 0} (f : A → ℕ) (xs : List A) → map f (filter (λ (x : A). test (f x)) xs) ≡ filter test (map f xs)
  map_filter f [] = refl
  map_filter f (x ∷ xs) = elim (test_cases (test (f x))) [
    | inl holds ↦ rw holds (ap (λ (l : List ℕ). f x ∷ l) (map_filter f xs))
    | inr fails ↦ rw fails (map_filter f xs)
  ]

-- what passes a test as a whole stays
pub filter_all : {A : Type 0} (test : A → Bool) (xs : List A) → ((x : A) → Member x xs → test x ≡ true) → filter test xs ≡ xs
filter_all test [] all = refl
filter_all test (x ∷ xs) all = rw (all x (inl refl)) (ap (λ l. x ∷ l) (filter_all test xs (λ y m. all y (inr m))))

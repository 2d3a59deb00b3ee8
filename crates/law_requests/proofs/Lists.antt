-- Lists of places and of tablets.
use Rattle.std.proofs.Common.{◌≡◌, ℕ, zero, suc, ◌+◌, ◌<◌, ◌≤◌, Bool, true, false, ◌||◌, not, List, [], ◌∷◌, nat_eq, length, filter, refl, sym, ◌∙◌, ap, subst, inl, inr, ◌⊎◌, if◌then◌else◌, arith}
use Rattle.std.specs.List.{All}
use Rattle.std.proofs.lemmas.List.Elements.{All-nil, All-cons, All-head, All-tail}
use Rattle.txn_types.specs.Lists.{Member, has_number}
use Rattle.txn_types.specs.Session.{Accepted, tablets_used}
use Rattle.law_machines.proofs.Basics.{eq_refl, eq_cases}
use Rattle.law_requests.specs.Requests.{AreDistinct}

pub all_member : {X : Type 0} (P : X → Type 0) (x : X) (xs : List X) → All P xs → Member x xs → P x
all_member P x [] all m = absurd m
all_member P x (y ∷ ys) all m = elim m [
  | inl here ↦ subst P (sym here) (All-head P y ys all)
  | inr more ↦ all_member P x ys (All-tail P y ys all) more
]

pub all_of : {X : Type 0} (P : X → Type 0) (xs : List X) → ((x : X) → Member x xs → P x) → All P xs
all_of P [] each = All-nil P
all_of P (x ∷ xs) each = All-cons P x xs (each x (inl refl)) (all_of P xs (λ y m. each y (inr m)))

-- ## distinct numbers below a bound are at most as many

abbrev without : ℕ → List ℕ → List ℕ
without n ns = filter (λ m. not (nat_eq m n)) ns

without_none : (n : ℕ) (ns : List ℕ) → (Member n ns → ⊥) → length (without n ns) ≡ length ns
without_none n [] none = refl
without_none n (m ∷ ms) none = elim (eq_cases m n) [
  | inl same ↦ absurd (none (inl (sym same.1)))
  | inr other ↦ rw other.0 (ap suc (without_none n ms (λ more. none (inr more))))
]

distinct_parts : (n : ℕ) (ns : List ℕ) → AreDistinct (n ∷ ns) → (Member n ns → ⊥) × AreDistinct ns
unfolding AreDistinct
distinct_parts n ns are = are

distinct_cons : (n : ℕ) (ns : List ℕ) → (Member n ns → ⊥) → AreDistinct ns → AreDistinct (n ∷ ns)
unfolding AreDistinct
distinct_cons n ns new are = (new, are)

distinct_nil : AreDistinct []
unfolding AreDistinct
distinct_nil = tt

without_length : (n : ℕ) (ns : List ℕ) → AreDistinct ns → length ns ≤ length (without n ns) + 1
without_length n [] are = omega arith
without_length n (m ∷ ms) are =
    let parts = distinct_parts m ms are in
    elim (eq_cases m n) [
      | inl same ↦ rw same.0 (let rest = without_none n ms (subst (λ k. Member k ms → ⊥) same.1 parts.0) in omega (arith, rest))
      | inr other ↦ rw other.0 (let rest = without_length n ms parts.1 in omega (arith, rest))
    ]

without_member : (k n : ℕ) (ns : List ℕ) → Member k (without n ns) → Member k ns × (k ≡ n → ⊥)
without_member k n [] at = absurd at
without_member k n (m ∷ ms) at = elim (eq_cases m n) [
  | inl same ↦
      let more = without_member k n ms (subst (λ (b : Bool). Member k (if not b then m ∷ without n ms else without n ms)) same.0 at) in
      (inr more.0, more.1)
  | inr other ↦ elim (subst (λ (b : Bool). Member k (if not b then m ∷ without n ms else without n ms)) other.0 at) [
    | inl here ↦ (inl here, λ is. other.1 (sym here ∙ is))
    | inr rest ↦ let more = without_member k n ms rest in (inr more.0, more.1)
  ]
]

without_distinct : (n : ℕ) (ns : List ℕ) → AreDistinct ns → AreDistinct (without n ns)
without_distinct n [] are = are
without_distinct n (m ∷ ms) are =
    let parts = distinct_parts m ms are in
    let rest = without_distinct n ms parts.1 in
    elim (eq_cases m n) [
      | inl same ↦ rw same.0 rest
      | inr other ↦ rw other.0 (distinct_cons m (without n ms) (λ again. parts.0 (without_member m n ms again).0) rest)
    ]

pub few_below : (k : ℕ) (ns : List ℕ) → AreDistinct ns → ((n : ℕ) → Member n ns → n < k) → length ns ≤ k
few_below zero [] are below = omega arith
few_below zero (n ∷ ns) are below = absurd (let never = below n (inl refl) in omega (arith, never))
few_below (suc k) ns are below =
    let fewer = few_below k (without k ns) (without_distinct k ns are) (λ n at. let part = without_member n k ns at in lower n k (below n part.0) part.1) in
    let once = without_length k ns are in
    omega (arith, fewer, once)
  where
    lower : (n m : ℕ) → n < suc m → (n ≡ m → ⊥) → n < m
    lower n m low other = elim (eq_cases n m) [ inl same ↦ absurd (other same.1) | inr not ↦ grind (arith, low, other) ]

-- ## the tablets of accepted writes

used_choice : (n : ℕ) (a : Accepted) (more : List Accepted) (before : List ℕ) (b : Bool) →
    Member n (if b then tablets_used before more else a.tablet ∷ tablets_used (a.tablet ∷ before) more) →
    ((b ≡ true) × Member n (tablets_used before more)) ⊎ ((b ≡ false) × ((n ≡ a.tablet) ⊎ Member n (tablets_used (a.tablet ∷ before) more)))
used_choice n a more before true at = inl (refl, at)
used_choice n a more before false at = inr (refl, at)

or_false : (a b : Bool) → (a || b) ≡ false → b ≡ false
or_false true b is = cc
or_false false b is = is

-- each is the tablet of one of them, and none that was used before
pub used_member : (n : ℕ) (before : List ℕ) (ws : List Accepted) → Member n (tablets_used before ws) → ((a : Accepted) × Member a ws × (n ≡ a.tablet)) × (has_number n before ≡ false)
unfolding tablets_used
used_member n before [] at = absurd at
used_member n before (a ∷ more) at = elim (used_choice n a more before (has_number a.tablet before) at) [
  | inl used ↦ let rest = used_member n before more used.1 in ((rest.0.0, inr rest.0.1, rest.0.2), rest.1)
  | inr new ↦ elim new.1 [
    | inl here ↦ ((a, inl refl, here), subst (λ k. has_number k before ≡ false) (sym here) new.0)
    | inr later ↦ let rest = used_member n (a.tablet ∷ before) more later in ((rest.0.0, inr rest.0.1, rest.0.2), or_false (nat_eq n a.tablet) (has_number n before) rest.1)
  ]
]

distinct_choice : (a : Accepted) (more : List Accepted) (before : List ℕ) (b : Bool) → AreDistinct (tablets_used before more) → AreDistinct (a.tablet ∷ tablets_used (a.tablet ∷ before) more) →
    AreDistinct (if b then tablets_used before more else a.tablet ∷ tablets_used (a.tablet ∷ before) more)
distinct_choice a more before true one two = one
distinct_choice a more before false one two = two

or_first : (a b : Bool) → (a || b) ≡ false → a ≡ false
or_first true b is = cc
or_first false b is = refl

pub used_distinct : (before : List ℕ) (ws : List Accepted) → AreDistinct (tablets_used before ws)
unfolding tablets_used
used_distinct before [] = distinct_nil
used_distinct before (a ∷ more) =
    distinct_choice a more before (has_number a.tablet before) (used_distinct before more)
    (distinct_cons a.tablet (tablets_used (a.tablet ∷ before) more) (λ again.
    let told = or_first (nat_eq a.tablet a.tablet) (has_number a.tablet before) (used_member a.tablet (a.tablet ∷ before) more again).1 in
    let never : true ≡ false = sym (eq_refl a.tablet) ∙ told in cc)
    (used_distinct (a.tablet ∷ before) more))

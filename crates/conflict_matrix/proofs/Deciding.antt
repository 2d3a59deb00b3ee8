-- What one more transaction changes in the decision.
use Rattle.std.proofs.Common.{◌≡◌, ℕ, ◌<◌, Bool, true, false, List, [], ◌∷◌, ◌++◌, Option, Some, None, refl, sym, ap, ◌∙◌, arith, append-nil, append_assoc, nat_lt, nat_eq, if◌then◌else◌}
use Rattle.std.specs.Prelude.{filter, option_to_list}
use Rattle.std.specs.List.{cons_option}
use Rattle.std.proofs.lemmas.Bool.Decides.{nat_tests}
use Rattle.txn_types.specs.Lists.{with_number, rising}
use Rattle.txn_types.specs.Tablet.{first_of, greatest_above, first_fate, commit_time}
use Rattle.txn_data.specs.declared.found.Found.{Found}
use Rattle.txn_data.specs.declared.fate_of.FateOf.{FateOf}
use Rattle.conflict_matrix.specs.Decide.{ids, fate_times}
use Rattle.conflict_matrix.specs.Steps.{lesser, greater_above, with_time}

-- each of these numbers is above n
abbrev pub AreAbove : ℕ → List ℕ → Type 0
AreAbove n [] = Unit {0}
AreAbove n (m ∷ ms) = (n < m) × AreAbove n ms

abbrev pub Rises : List ℕ → Type 0
Rises [] = Unit {0}
Rises (n ∷ ns) = AreAbove n ns × Rises ns

are_above-less : (k n : ℕ) (ms : List ℕ) → k < n → AreAbove n ms → AreAbove k ms
are_above-less k n [] below h = tt
are_above-less k n (m ∷ ms) below h = (omega (arith, h.0), are_above-less k n ms below h.1)

are_above-with : (k n : ℕ) (ms : List ℕ) → k < n → AreAbove k ms → AreAbove k (with_number n ms)
unfolding with_number
are_above-with k n [] below h = (below, tt)
are_above-with k n (m ∷ ms) below h =
    elim (nat_lt n m) as (λ b. AreAbove k (if b then n ∷ m ∷ ms else (if nat_eq n m then m ∷ ms else m ∷ with_number n ms))) [
      | true ↦ (below, h)
      | false ↦ elim (nat_eq n m) as (λ b. AreAbove k (if b then m ∷ ms else m ∷ with_number n ms)) [
        | true ↦ h
        | false ↦ (h.0, are_above-with k n ms below h.1)
      ]
    ]

rises-with : (n : ℕ) (ms : List ℕ) → Rises ms → Rises (with_number n ms)
unfolding with_number
rises-with n [] h = (tt, tt)
rises-with n (m ∷ ms) h =
    let P : Bool → Type 0 = λ b. nat_lt n m ≡ b → Rises (if b then n ∷ m ∷ ms else (if nat_eq n m then m ∷ ms else m ∷ with_number n ms)) in
    let Q : Bool → Type 0 = λ b. nat_lt n m ≡ false → nat_eq n m ≡ b → Rises (if b then m ∷ ms else m ∷ with_number n ms) in
    (elim (nat_lt n m) as P [
      | true ↦ λ lt. let less : n < m = grind (arith, nat_tests) in ((less, are_above-less n m ms less h.0), h)
      | false ↦ λ ge. (elim (nat_eq n m) as Q [
        | true ↦ λ _ _. h
        | false ↦ λ g e. let more : m < n = grind (arith, nat_tests) in (are_above-with m n ms more h.0, rises-with n ms h.1)
      ]) ge refl
    ]) refl

pub rises : (ns : List ℕ) → Rises (rising ns)
unfolding rising
rises [] = tt
rises (n ∷ ns) = rises-with n (rising ns) (rises ns)

-- the first that passes
abbrev pub first_passing : (ℕ → Bool) → List ℕ → Option ℕ
first_passing f ns = first_of (filter f ns)

lesser-above : (f : ℕ → Bool) (n : ℕ) (ms : List ℕ) → AreAbove n ms → lesser n (first_passing f ms) ≡ Some n
lesser-above f n [] h = refl
lesser-above f n (m ∷ ms) h =
    elim (f m) as (λ b. lesser n (first_of (if b then m ∷ filter f ms else filter f ms)) ≡ Some n) [
      | true ↦ grind (arith, h.0)
      | false ↦ lesser-above f n ms h.1
    ]

-- with one more number the first that passes is the lesser of the two, where the new one passes
abbrev chosen : Bool → ℕ → Option ℕ → Option ℕ
chosen b n r = if b then lesser n r else r

first_passing-with : (f : ℕ → Bool) (n : ℕ) (ms : List ℕ) → Rises ms
    → first_passing f (with_number n ms) ≡ chosen (f n) n (first_passing f ms)
unfolding with_number
first_passing-with f n [] h = elim (f n) as (λ b. first_of (if b then n ∷ [] else []) ≡ chosen b n None) [ true ↦ refl | false ↦ refl ]
first_passing-with f n (m ∷ ms) h =
    let P : Bool → Type 0 = λ b. nat_lt n m ≡ b → first_passing f (if b then n ∷ m ∷ ms else (if nat_eq n m then m ∷ ms else m ∷ with_number n ms)) ≡ chosen (f n) n (first_passing f (m ∷ ms)) in
    let Q : Bool → Type 0 = λ b. nat_lt n m ≡ false → nat_eq n m ≡ b → first_passing f (if b then m ∷ ms else m ∷ with_number n ms) ≡ chosen (f n) n (first_passing f (m ∷ ms)) in
    let above : nat_lt n m ≡ true → AreAbove n (m ∷ ms) = λ lt. let less : n < m = grind (arith, nat_tests) in (less, are_above-less n m ms less h.0) in
    (elim (nat_lt n m) as P [
      | true ↦ λ lt. (elim (f n) as (λ b. first_of (if b then n ∷ filter f (m ∷ ms) else filter f (m ∷ ms)) ≡ chosen b n (first_passing f (m ∷ ms))) [
        | true ↦ sym (lesser-above f n (m ∷ ms) (above lt))
        | false ↦ refl
      ])
      | false ↦ λ ge. (elim (nat_eq n m) as Q [
        | true ↦ λ _ eq. let same : n ≡ m = grind (arith, nat_tests) in
            rw same (elim (f m) as (λ b. first_of (if b then m ∷ filter f ms else filter f ms) ≡ chosen b m (first_of (if b then m ∷ filter f ms else filter f ms))) [
              | true ↦ grind arith
              | false ↦ refl
            ])
        | false ↦ λ g e. let more : m < n = grind (arith, nat_tests) in
            elim (f m) as (λ b. first_of (if b then m ∷ filter f (with_number n ms) else filter f (with_number n ms)) ≡ chosen (f n) n (first_of (if b then m ∷ filter f ms else filter f ms))) [
              | true ↦ elim (f n) as (λ b. Some m ≡ chosen b n (Some m)) [ true ↦ grind (arith, more) | false ↦ refl ]
              | false ↦ first_passing-with f n ms h.1
            ]
      ]) ge refl
    ]) refl

chosen-swap : (a b : Bool) (m n : ℕ) (r : Option ℕ) → chosen a m (chosen b n r) ≡ chosen b n (chosen a m r)
chosen-swap true true m n None = grind arith
chosen-swap true true m n (Some k) = grind arith
chosen-swap true false m n r = refl
chosen-swap false b m n r = refl

pub first_passing-push : (f : ℕ → Bool) (ns : List ℕ) (n : ℕ)
    → first_passing f (rising (ns ++ n ∷ [])) ≡ (if f n then lesser n (first_passing f (rising ns)) else first_passing f (rising ns))
unfolding rising
first_passing-push f [] n = first_passing-with f n [] tt
first_passing-push f (m ∷ ns) n =
    first_passing-with f m (rising (ns ++ n ∷ [])) (rises (ns ++ n ∷ []))
    ∙ ap (chosen (f m) m) (first_passing-push f ns n)
    ∙ chosen-swap (f m) (f n) m n (first_passing f (rising ns))
    ∙ ap (chosen (f n) n) (sym (first_passing-with f m (rising ns) (rises ns)))

greater-swap : (read c d : ℕ) (r : Option ℕ)
    → greater_above read c (greater_above read d r) ≡ greater_above read d (greater_above read c r)
greater-swap read c d None = grind (arith, nat_tests)
greater-swap read c d (Some k) = grind (arith, nat_tests)

pub greatest_above-push : (read : ℕ) (cs : List ℕ) (c : ℕ)
    → greatest_above read (cs ++ c ∷ []) ≡ greater_above read c (greatest_above read cs)
unfolding greatest_above
greatest_above-push read [] c = refl
greatest_above-push read (d ∷ cs) c =
    ap (greater_above read d) (greatest_above-push read cs c) ∙ greater-swap read d c (greatest_above read cs)

pub ids-push : (fs : List Found) (f : Found) → ids (fs ++ f ∷ []) ≡ ids fs ++ f.txn ∷ []
ids-push [] f = refl
ids-push (g ∷ fs) f = ap (λ xs. g.txn ∷ xs) (ids-push fs f)

cons_option-append : (o : Option ℕ) (xs ys : List ℕ) → cons_option o xs ++ ys ≡ cons_option o (xs ++ ys)
cons_option-append None xs ys = refl
cons_option-append (Some x) xs ys = refl

cons_option-nil : (o : Option ℕ) → cons_option o [] ≡ option_to_list o
cons_option-nil None = refl
cons_option-nil (Some x) = refl

-- the times that fates name, after one more transaction
pub fate_times-push : (fates : List FateOf) (xs : List ℕ) (x : ℕ)
    → fate_times fates (xs ++ x ∷ []) ≡ fate_times fates xs ++ option_to_list (commit_time (first_fate fates x))
fate_times-push fates [] x = cons_option-nil (commit_time (first_fate fates x))
fate_times-push fates (y ∷ xs) x =
    ap (cons_option (commit_time (first_fate fates y))) (fate_times-push fates xs x)
    ∙ sym (cons_option-append (commit_time (first_fate fates y)) (fate_times fates xs) (option_to_list (commit_time (first_fate fates x))))

-- the greatest time after one more transaction
pub greatest_above-fate : (read : ℕ) (cs : List ℕ) (fates : List FateOf) (xs : List ℕ) (x : ℕ) (o : Option ℕ)
    → o ≡ commit_time (first_fate fates x)
    → greatest_above read (cs ++ fate_times fates (xs ++ x ∷ []))
    ≡ with_time read o (greatest_above read (cs ++ fate_times fates xs))
greatest_above-fate read cs fates xs x None is =
    ap (λ ys. greatest_above read (cs ++ ys)) (fate_times-push fates xs x ∙ ap (λ o. fate_times fates xs ++ option_to_list o) (sym is) ∙ append-nil (fate_times fates xs))
greatest_above-fate read cs fates xs x (Some c) is =
    ap (λ ys. greatest_above read (cs ++ ys)) (fate_times-push fates xs x ∙ ap (λ o. fate_times fates xs ++ option_to_list o) (sym is))
    ∙ ap (greatest_above read) (sym (append_assoc cs (fate_times fates xs) (c ∷ [])))
    ∙ greatest_above-push read (cs ++ fate_times fates xs) c

-- the greatest time before any transaction
pub greatest_above-newest : (read : ℕ) (o : Option ℕ) → with_time read o None ≡ greatest_above read (option_to_list o ++ [])
unfolding greatest_above
greatest_above-newest read None = refl
greatest_above-newest read (Some c) = refl

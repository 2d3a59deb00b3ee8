-- As many seats as there are actors, of different actors: each actor has one.
use Rattle.std.proofs.Common.{◌≡◌, ◌≢◌, ◌⊎◌, ℕ, zero, suc, ◌+◌, ◌<◌, ◌≤◌, eqb, eq-eqb, ne_eqb, List, [], ◌∷◌, length, refl, sym, ap, ◌∙◌, inl, inr, ⊎_elim, arith}
use mathlib.Core.Option.{some, some-injective}
use mathlib.Core.Logic.{dite}
use native.Mathlib.Decide.{ℕ_discrete}
use lib.ListN.{get_elem?}
use Rattle.actor_table.specs.Values.{SeatValue}
use Rattle.actor_table.proofs.Histories.{no_elem, sum_to, sum_to-le, sum_to-less}
use Rattle.actor_table.proofs.Goings.{number, number-true, number-false, number-less}

-- how many of the seats are of this actor
seats_of : ℕ → List SeatValue → ℕ
seats_of a [] = 0
seats_of a (s ∷ ss) = number (eqb s.at.actor a) 1 0 + seats_of a ss

none-here : (a : ℕ) (ss : List SeatValue) → ((k : ℕ) (s : SeatValue) → get_elem? ss k ≡ some s → s.at.actor ≢ a) → seats_of a ss ≡ 0
unfolding seats_of
none-here a [] h = refl
none-here a (s ∷ ss) h =
    let first : number (eqb s.at.actor a) 1 0 ≡ 0 = number-false (eqb s.at.actor a) 1 0 (ne_eqb s.at.actor a (h 0 s refl)) in
    omega (arith, first, none-here a ss (λ k t e. h (suc k) t e))

one-here : (a : ℕ) (ss : List SeatValue) → ((j k : ℕ) (s t : SeatValue) → get_elem? ss j ≡ some s → get_elem? ss k ≡ some t → s.at.actor ≡ t.at.actor → j ≡ k) → seats_of a ss ≤ 1
unfolding seats_of
one-here a [] h = omega arith
one-here a (s ∷ ss) h = dite (ℕ_discrete s.at.actor a)
    (λ q.
    let rest : seats_of a ss ≡ 0 = none-here a ss (λ k t e r. let z : 0 ≡ suc k = h 0 (suc k) s t refl e (q ∙ sym r) in absurd (omega arith)) in
    let first = number-less (eqb s.at.actor a) in
    omega (arith, rest, first))
    (λ ne.
    let first : number (eqb s.at.actor a) 1 0 ≡ 0 = number-false (eqb s.at.actor a) 1 0 (ne_eqb s.at.actor a ne) in
    let rest : seats_of a ss ≤ 1 = one-here a ss (λ j k x y e f r. let z : suc j ≡ suc k = h (suc j) (suc k) x y e f r in omega arith) in
    omega (arith, first, rest))

pub record Found (a : ℕ) (ss : List SeatValue) : Type 0 where
  pub place : ℕ
  pub seat : SeatValue
  pub there : get_elem? ss place ≡ some seat
  pub actor : seat.at.actor ≡ a

found-later : (a : ℕ) (s : SeatValue) (ss : List SeatValue) → Found a ss → Found a (s ∷ ss)
found-later a s ss f = record { place = suc f.place; seat = f.seat; there = f.there; actor = f.actor }

look : (a : ℕ) (ss : List SeatValue) → Found a ss ⊎ ((k : ℕ) (s : SeatValue) → get_elem? ss k ≡ some s → s.at.actor ≢ a)
look a [] = inr (λ k s e. absurd (no_elem k s e))
look a (s ∷ ss) = dite (ℕ_discrete s.at.actor a)
    (λ q. inl record { place = 0; seat = s; there = refl; actor = q })
    (λ ne. ⊎_elim (λ (f : Found a ss). inl (found-later a s ss f)) (λ (none : (k : ℕ) (t : SeatValue) → get_elem? ss k ≡ some t → t.at.actor ≢ a). inr (none-of none ne)) (look a ss))
  where
    none-of : ((k : ℕ) (t : SeatValue) → get_elem? ss k ≡ some t → t.at.actor ≢ a) → s.at.actor ≢ a → (k : ℕ) (t : SeatValue) → get_elem? (s ∷ ss) k ≡ some t → t.at.actor ≢ a
    none-of none ne zero t e q = ne (ap (λ (x : SeatValue). x.at.actor) (some-injective _ _ e) ∙ q)
    none-of none ne (suc k) t e q = none k t e q

total : (n : ℕ) (ss : List SeatValue) → ((k : ℕ) (s : SeatValue) → get_elem? ss k ≡ some s → s.at.actor < n) → length ss ≤ sum_to n (λ a. seats_of a ss)
unfolding seats_of
total n [] h = omega arith
total n (s ∷ ss) h =
    let f : ℕ → ℕ = λ a. seats_of a ss in
    let g : ℕ → ℕ = λ a. seats_of a (s ∷ ss) in
    let up : (a : ℕ) → f a ≤ g a = λ a. omega arith in
    let one : number (eqb s.at.actor s.at.actor) 1 0 ≡ 1 = number-true (eqb s.at.actor s.at.actor) 1 0 (eq-eqb s.at.actor s.at.actor refl) in
    let at : suc (f s.at.actor) ≤ g s.at.actor = omega (arith, one) in
    omega (arith, total n ss (λ k t e. h (suc k) t e), sum_to-less n s.at.actor f g up at (h 0 s refl))

-- each actor below n has one of n seats of different actors below n
pub each-has : (n : ℕ) (ss : List SeatValue) → length ss ≡ n → ((k : ℕ) (s : SeatValue) → get_elem? ss k ≡ some s → s.at.actor < n)
    → ((j k : ℕ) (s t : SeatValue) → get_elem? ss j ≡ some s → get_elem? ss k ≡ some t → s.at.actor ≡ t.at.actor → j ≡ k)
    → (a : ℕ) → a < n → Found a ss
each-has n ss count below apart a lt = ⊎_elim (λ (f : Found a ss). f)
    (λ (none : (k : ℕ) (s : SeatValue) → get_elem? ss k ≡ some s → s.at.actor ≢ a).
    let f : ℕ → ℕ = λ b. seats_of b ss in
    let g : ℕ → ℕ = λ b. 1 in
    let zero_here : f a ≡ 0 = none-here a ss none in
    let all = total n ss below in
    let less = sum_to-less n a f g (λ b. one-here b ss apart) (omega (arith, zero_here)) lt in
    let most = sum_to-le n 1 g (λ b. omega arith) in
    absurd (omega (arith, all, less, most, count)))
    (look a ss)

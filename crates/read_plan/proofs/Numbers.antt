-- One step further in a list of rising numbers, and of the tablets of places.
use Rattle.std.proofs.Common.{◌≡◌, ℕ, ◌+◌, ◌<◌, ◌≤◌, true, false, List, [], ◌∷◌, ◌++◌, take, drop, length, get_or, nat_eq, nat_lt, refl, sym, append_assoc, arith}
use Rattle.std.proofs.lemmas.Bool.Decides.{nat_tests}
use Rattle.std.proofs.lemmas.Grind.{common_steps}
use Rattle.std.proofs.lemmas.List.{take_more, drop_more, drop_all}
use Rattle.txn_data.specs.declared.place.Place.{Place}
use Rattle.txn_types.specs.Lists.{with_number, rising}
use Rattle.txn_types.specs.ReadProgram.{tablets_of}

further : (n : ℕ) (ms : List ℕ) (i m : ℕ) → i < length ms → get_or ms i m ≡ m → nat_lt n m ≡ false → nat_eq n m ≡ false →
    take i ms ++ with_number n (drop i ms) ≡ take (i + 1) ms ++ with_number n (drop (i + 1) ms)
unfolding with_number
further n ms i m within here less same =
    rw (drop_more ms i m within, take_more ms i m within, here, less, same) (sym (append_assoc (take i ms) (m ∷ []) (with_number n (drop (i + 1) ms))))

-- the number goes after the one that it is above
pub above : (n : ℕ) (ms : List ℕ) (i : ℕ) → i < length ms → get_or ms i 0 ≤ n → (n ≡ get_or ms i 0 → ⊥) →
    take i ms ++ with_number n (drop i ms) ≡ take (i + 1) ms ++ with_number n (drop (i + 1) ms)
above n ms i within least other =
    further n ms i (get_or ms i 0) within (grind (arith, common_steps)) (grind (arith, nat_tests)) (grind (arith, nat_tests, other))

pub below : (n : ℕ) (ms : List ℕ) (i : ℕ) → i < length ms → n < get_or ms i 0 → take i ms ++ with_number n (drop i ms) ≡ take i ms ++ n ∷ drop i ms
unfolding with_number
below n ms i within less =
    let first = drop_more ms i 0 within in
    let test : nat_lt n (get_or ms i 0) ≡ true = grind (arith, nat_tests) in
    rw (first, test) refl

pub there : (n : ℕ) (ms : List ℕ) (i : ℕ) → i < length ms → n ≡ get_or ms i 0 → take i ms ++ with_number n (drop i ms) ≡ ms
unfolding with_number
there n ms i within same =
    let first = drop_more ms i 0 within in
    let less : nat_lt n (get_or ms i 0) ≡ false = grind (arith, nat_tests) in
    let equal : nat_eq n (get_or ms i 0) ≡ true = grind (arith, nat_tests) in
    grind (arith, common_steps, first, less, equal)

pub past : (n : ℕ) (ms : List ℕ) (i : ℕ) → length ms ≤ i → take i ms ++ with_number n (drop i ms) ≡ take i ms ++ n ∷ drop i ms
unfolding with_number
past n ms i all = rw (drop_all i ms all) refl

-- the tablets of the places from one on
pub tablets_more : (ps : List Place) (i : ℕ) (p : Place) → i < length ps →
    tablets_of (drop i ps) ≡ with_number (get_or ps i p).tablet (tablets_of (drop (i + 1) ps))
unfolding rising
tablets_more ps i p within = rw (drop_more ps i p within) refl

pub tablets_none : (ps : List Place) → tablets_of (drop (length ps) ps) ≡ []
unfolding rising
tablets_none ps = let all : length ps ≤ length ps = omega arith in rw (drop_all (length ps) ps all) refl

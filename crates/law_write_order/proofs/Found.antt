-- What a write meets of others: no open one, and no commit above the time that it read at.
use Rattle.std.proofs.Common.{◌≡◌, ℕ, ◌≤◌, Bool, true, false, List, [], ◌∷◌, Option, Some, None, max, filter, filter_map, nat_eq, nat_lt, refl, sym, subst, inl, inr, if◌then◌else◌, arith}
use Rattle.std.proofs.lemmas.Bool.{ltb-false}
use Rattle.std.specs.List.{cons_option}
use Rattle.txn_data.specs.declared.fate.Fate.{Fate}
use Rattle.txn_data.specs.declared.fate.Fate.TheVariants as fate
use Rattle.txn_data.specs.declared.fate_of.FateOf.{FateOf}
use Rattle.txn_types.specs.Lists.{Member, rising, or_zero}
use Rattle.txn_types.specs.Tablet.{first_fate, is_open, first_of, greatest_above, greatest_fate}
use Rattle.law_machines.proofs.Basics.{eq_true, test_cases, member_filter, member_rising}

-- ## no conflict

first_none : (x : ℕ) (ns : List ℕ) → first_of ns ≡ None → Member x ns → ⊥
first_none x [] none m = absurd m
first_none x (n ∷ ns) none m = cc

pub no_first : (test : ℕ → Bool) (x : ℕ) (ns : List ℕ) → first_of (filter test (rising ns)) ≡ None → Member x ns → test x ≡ false
no_first test x ns none m = elim (test_cases (test x)) [
  | inl is ↦ absurd (first_none x (filter test (rising ns)) none (member_filter test x (rising ns) (member_rising x ns m) is))
  | inr not_so ↦ not_so
]

-- ## the fates

-- the fate of a transaction that is not open
pub data Settled (f : Option Fate) : Type 0 where
  IsCommitted : (c : ℕ) → f ≡ Some (fate.Committed c) → Settled f
  IsAborted : f ≡ Some fate.Aborted → Settled f
  IsAbsent : f ≡ Some fate.Absent → Settled f

pub settled : (f : Option Fate) → is_open f ≡ false → Settled f
settled None is = cc
settled (Some fate.Pending) is = cc
settled (Some (fate.Committed c)) is = IsCommitted c refl
settled (Some fate.Aborted) is = IsAborted refl
settled (Some fate.Absent) is = IsAbsent refl

first_choice : (b : Bool) (f : FateOf) (fs : List FateOf) (x : ℕ) (g : Fate) → nat_eq f.txn x ≡ b → (if b then Some f.fate else first_fate fs x) ≡ Some g →
    (first_fate fs x ≡ Some g → (k : FateOf) × Member k fs × (k.txn ≡ x) × (k.fate ≡ g)) → (k : FateOf) × Member k (f ∷ fs) × (k.txn ≡ x) × (k.fate ≡ g)
first_choice true f fs x g same is more = let here : f.fate ≡ g = cc in (f, inl refl, eq_true f.txn x same, here)
first_choice false f fs x g same is more = let r = more is in (r.0, inr r.1, r.2, r.3)

pub first_member : (fs : List FateOf) (x : ℕ) (g : Fate) → first_fate fs x ≡ Some g → (k : FateOf) × Member k fs × (k.txn ≡ x) × (k.fate ≡ g)
unfolding first_fate
first_member [] x g is = cc
first_member (f ∷ fs) x g is = first_choice (nat_eq f.txn x) f fs x g refl is (first_member fs x g)

-- the greatest fate is not below any
pub greatest_over : (all fs : List FateOf) (k : FateOf) (c : ℕ) → Member k fs → first_fate all k.txn ≡ Some (fate.Committed c) → c ≤ greatest_fate all fs
unfolding greatest_fate
greatest_over all [] k c m is = absurd m
greatest_over all (f ∷ fs) k c m is = elim m [
  | inl here ↦
      let first : first_fate all f.txn ≡ Some (fate.Committed c) = subst (λ (g : FateOf). first_fate all g.txn ≡ Some (fate.Committed c)) here is in
      rw first (omega (arith))
  | inr later ↦ let more = greatest_over all fs k c later is in omega (arith, more)
]

-- ## the commits that a write has to be above

above_rest : (b : Bool) (c n : ℕ) (rest : Option ℕ) → (if b then Some (max c n) else rest) ≡ None → rest ≡ None
above_rest true c n rest none = cc
above_rest false c n rest none = none

above_first : (b : Bool) (read c n : ℕ) (rest : Option ℕ) → nat_lt read c ≡ b → (if b then Some (max c n) else rest) ≡ None → nat_lt read c ≡ false
above_first true read c n rest is none = cc
above_first false read c n rest is none = is

pub none_above : (read c : ℕ) (cs : List ℕ) → greatest_above read cs ≡ None → Member c cs → c ≤ read
unfolding greatest_above
none_above read c [] none m = absurd m
none_above read c (d ∷ cs) none m = elim m [
  | inl here ↦
      let low : nat_lt read d ≡ false = above_first (nat_lt read d) read d (or_zero (greatest_above read cs)) (greatest_above read cs) refl none in
      let under = ltb-false read d low in
      subst (λ (n : ℕ). n ≤ read) (sym here) under
  | inr later ↦ none_above read c cs (above_rest (nat_lt read d) d (or_zero (greatest_above read cs)) (greatest_above read cs) none) later
]

option_member : {B : Type 0} (o : Option B) (y : B) (ys : List B) → Member y ys → Member y (cons_option o ys)
option_member (Some w) y ys m = inr m
option_member None y ys m = m

pub member_mapped : {A B : Type 0} (g : A → Option B) (x : A) (y : B) (xs : List A) → Member x xs → g x ≡ Some y → Member y (filter_map g xs)
member_mapped g x y [] m is = absurd m
member_mapped g x y (z ∷ xs) m is = elim m [
  | inl here ↦
      let there : g z ≡ Some y = subst (λ w. g w ≡ Some y) here is in
      subst (λ o. Member y (cons_option o (filter_map g xs))) (sym there) (inl refl)
  | inr later ↦ option_member (g z) y (filter_map g xs) (member_mapped g x y xs later is)
]

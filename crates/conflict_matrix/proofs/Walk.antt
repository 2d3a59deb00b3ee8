-- A walk over fates whose ids do not fall.
use Rattle.std.proofs.Common.{◌≡◌, ℕ, suc, ◌+◌, ◌<◌, ◌≤◌, Bool, true, false, List, [], ◌∷◌, Some, None, length, get_or, refl, sym, ap, ◌∙◌, arith, nat_lt, nat_eq, if◌then◌else◌}
use Rattle.std.specs.List.{slice_get, IsAllAdjacentAnswer}
use Rattle.std.specs.List.Sorted.{IsNonDecreasingBy}
use Rattle.std.specs.Ordering.{is_le, nat_cmp}
use Rattle.std.proofs.lemmas.Bool.Decides.{nat_tests}
use Rattle.std.proofs.lemmas.List.{get_or_read}
use Rattle.std.proofs.lemmas.List.Sorted.{IsNonDecreasingBy-from_all_adjacent}
use Rattle.std.proofs.lemmas.Map.Keys.{le_from_is_le}
use Rattle.txn_data.specs.declared.fate_of.FateOf.{FateOf}
use Rattle.txn_types.specs.Tablet.{first_fate}
use Rattle.conflict_matrix.specs.declared.first_fates.FirstFates.{FirstFates}
use Rattle.conflict_matrix.specs.Firsts.{not_below, own_fate, FatesRise}

fate-cons : (f : FateOf) (fs : List FateOf) (x : ℕ) → first_fate (f ∷ fs) x ≡ (if nat_eq f.txn x then Some f.fate else first_fate fs x)
unfolding first_fate
fate-cons f fs x = refl

fate-nil : (x : ℕ) → first_fate [] x ≡ None
unfolding first_fate
fate-nil x = refl

tail-rises : (f : FateOf) (fs : List FateOf) → FatesRise (f ∷ fs) → FatesRise fs
tail-rises f fs rises = λ i j d le within. rises (suc i) (suc j) d (omega arith) (omega arith)

-- what is left rises too
pub rest-rises : (x : ℕ) (fs : List FateOf) → FatesRise fs → FatesRise (not_below x fs)
rest-rises x [] rises = rises
rest-rises x (f ∷ fs) rises = by (rest-rises x fs (tail-rises f fs rises)) (nat_lt f.txn x)
  where
    by : FatesRise (not_below x fs) → (b : Bool) → FatesRise (if b then not_below x fs else f ∷ fs)
    by rest true = rest
    by rest false = rises

-- a transaction that is not below it has the same first fate in what is left
pub rest-tells : (x y : ℕ) (fs : List FateOf) → x ≤ y → first_fate (not_below x fs) y ≡ first_fate fs y
rest-tells x y [] le = refl
rest-tells x y (f ∷ fs) le = by (rest-tells x y fs le) (nat_lt f.txn x) refl
  where
    other : (n : ℕ) → nat_lt n x ≡ true → nat_eq n y ≡ false
    other n h = grind (arith, nat_tests)

    by : first_fate (not_below x fs) y ≡ first_fate fs y → (b : Bool) → nat_lt f.txn x ≡ b → first_fate (if b then not_below x fs else f ∷ fs) y ≡ first_fate (f ∷ fs) y
    by rest true is = rest ∙ sym (fate-cons f fs y ∙ ap (λ b. if b then Some f.fate else first_fate fs y) (other f.txn is))
    by rest false is = refl

-- where all ids are above it, a transaction has no fate
none-above : (x : ℕ) (fs : List FateOf) → ((j : ℕ) (d : FateOf) → j < length fs → x < (get_or fs j d).txn) → first_fate fs x ≡ None
none-above x [] above = fate-nil x
none-above x (f ∷ fs) above =
    fate-cons f fs x
    ∙ ap (λ b. if b then Some f.fate else first_fate fs x) (other f.txn (above 0 f (omega arith)))
    ∙ none-above x fs (λ j d within. above (suc j) d (omega arith))
  where
    other : (n : ℕ) → x < n → nat_eq n x ≡ false
    other n h = grind (arith, nat_tests)

-- the first fate is the first of what is left
pub rest-first : (x : ℕ) (fs : List FateOf) → FatesRise fs → first_fate fs x ≡ own_fate x (slice_get (not_below x fs) 0)
rest-first x [] rises = fate-nil x
rest-first x (f ∷ fs) rises = by (rest-first x fs (tail-rises f fs rises)) (nat_lt f.txn x) refl
  where
    other : (n : ℕ) → nat_lt n x ≡ true → nat_eq n x ≡ false
    other n h = grind (arith, nat_tests)

    later : (n : ℕ) → nat_lt n x ≡ false → nat_eq n x ≡ false → x < n
    later n h g = grind (arith, nat_tests)

    at : (b : Bool) → nat_eq f.txn x ≡ b → nat_lt f.txn x ≡ false → (if b then Some f.fate else first_fate fs x) ≡ (if b then Some f.fate else None)
    at true is not_less = refl
    at false is not_less =
        let above : x < f.txn = later f.txn not_less is in
        none-above x fs (λ j d within. let le : f.txn ≤ (get_or fs j d).txn = rises 0 (suc j) d (omega arith) (omega arith) in omega arith)

    by : first_fate fs x ≡ own_fate x (slice_get (not_below x fs) 0) → (b : Bool) → nat_lt f.txn x ≡ b
        → first_fate (f ∷ fs) x ≡ own_fate x (slice_get (if b then not_below x fs else f ∷ fs) 0)
    by rest true is = fate-cons f fs x ∙ ap (λ b. if b then Some f.fate else first_fate fs x) (other f.txn is) ∙ rest
    by rest false is = fate-cons f fs x ∙ at (nat_eq f.txn x) refl is

pub rises-from_answer : {X : Type 0} (n : X → ℕ) (xs : List X) (r : Bool) → r ≡ true → IsAllAdjacentAnswer (λ x y b. b ≡ is_le (nat_cmp (n x) (n y))) xs r → IsNonDecreasingBy n xs
rises-from_answer n xs true h answer = IsNonDecreasingBy-from_all_adjacent n xs (λ k d within. le_from_is_le _ _ (sym (answer k d within)))
rises-from_answer n xs false h answer = cc

-- ---- one question after another

-- asked about what is left of these, from the i-th on, it tells what all the fates tell
pub record Ahead {X : Type 0} (n : X → ℕ) (fates : List FateOf) (asked : List X) (i : ℕ) (firsts : FirstFates) : Type 0 where
  pub rising : firsts.walks ≡ true → IsNonDecreasingBy n asked
  pub tells : (j : ℕ) (d : X) → i ≤ j → j < length asked → first_fate firsts.rest.now (n (get_or asked j d)) ≡ first_fate fates (n (get_or asked j d))

module _ {X : Type 0} (n : X → ℕ) (fates : List FateOf) (asked : List X) where
  pub ahead-first : (firsts : FirstFates) → firsts.rest.now ≡ fates → (firsts.walks ≡ true → IsNonDecreasingBy n asked) → Ahead n fates asked 0 firsts
  ahead-first firsts whole rising = record { rising = rising; tells = λ j d from within. ap (λ l. first_fate l (n (get_or asked j d))) whole }

  module _ (i : ℕ) (x : X) (old : FirstFates) (ahead : Ahead n fates asked i old) (within : i < length asked) (is : x ≡ get_or asked i x) where
    pub ahead-tells : first_fate old.rest.now (n x) ≡ first_fate fates (n x)
    ahead-tells = ap (λ y. first_fate old.rest.now (n y)) is ∙ ahead.tells i x (omega arith) within ∙ ap (λ y. first_fate fates (n y)) (sym is)

    pub ahead-next : (new : FirstFates) → new.walks ≡ old.walks
        → ((y : ℕ) → (old.walks ≡ true → n x ≤ y) → first_fate new.rest.now y ≡ first_fate old.rest.now y)
        → Ahead n fates asked (i + 1) new
    ahead-next new same later = record {
      rising = λ walks. ahead.rising (sym same ∙ walks);
      tells = λ j d from there. later (n (get_or asked j d)) (λ walks. below j d from there (ahead.rising walks)) ∙ ahead.tells j d (omega arith) there;
    }
      where
        below : (j : ℕ) (d : X) → i + 1 ≤ j → j < length asked → IsNonDecreasingBy n asked → n x ≤ n (get_or asked j d)
        below j d from there rising =
            let le : n (get_or asked i d) ≤ n (get_or asked j d) = rising i j d (omega arith) there in
            let at : n x ≡ n (get_or asked i d) = ap n (get_or_read asked i x within is d) in
            omega (arith, le, at)

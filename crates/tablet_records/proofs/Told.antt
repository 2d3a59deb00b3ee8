-- The first fates of transactions, and the transactions that are committed.
use Rattle.std.proofs.Common.{◌≡◌, ℕ, Bool, true, false, ◌&&◌, ◌||◌, not, List, [], ◌∷◌, Option, Some, None, cond, if◌then◌else◌, nat_eq, refl, sym, ap, ◌∙◌, arith}
use Rattle.std.specs.Prelude.{is_some}
use Rattle.std.specs.List.{list_any}
use Rattle.std.specs.BTreeMap.{is_at}
use Rattle.std.specs.Ordering.{nat_cmp}
use Rattle.std.proofs.lemmas.Bool.Decides.{nat_tests}
use Rattle.txn_data.specs.declared.fate.Fate.{Fate}
use Rattle.txn_data.specs.declared.fate_of.FateOf.{FateOf}
use Rattle.txn_types.specs.Lists.{or_else}
use Rattle.txn_types.specs.Tablet.{is_own, first_fate, commit_time}
use Rattle.tablet_records.specs.Committed.{is_committed_other}

fate-cons : (f : FateOf) (fs : List FateOf) (x : ℕ) → first_fate (f ∷ fs) x ≡ (if nat_eq f.txn x then Some f.fate else first_fate fs x)
unfolding first_fate
fate-cons f fs x = refl

fate-nil : (x : ℕ) → first_fate [] x ≡ None
unfolding first_fate
fate-nil x = refl

at-is : (n x : ℕ) → is_at (nat_cmp n) x ≡ nat_eq n x
at-is n x = grind (arith, nat_tests)

at-turned : (n x : ℕ) → is_at (nat_cmp x) n ≡ nat_eq n x
at-turned n x = grind (arith, nat_tests)

is-number : (n x : ℕ) → nat_eq n x ≡ true → n ≡ x
is-number n x h = grind (arith, nat_tests)

abbrev fate_if : Bool → FateOf → Option Fate → Option Fate
fate_if b f o = if b then Some f.fate else o

or_else-none : (o : Option Fate) → o ≡ or_else o None
or_else-none None = refl
or_else-none (Some f) = refl

-- ---- the first fates

-- the next fate is the first of its transaction
pub first-more : (m n : ℕ → Option Fate) (f : FateOf) (fs : List FateOf) (x : ℕ) → m f.txn ≡ None
    → n x ≡ cond (is_at (nat_cmp f.txn) x) (Some f.fate) (m x) → or_else (n x) (first_fate fs x) ≡ or_else (m x) (first_fate (f ∷ fs) x)
first-more m n f fs x none is =
    let P : Bool → Type 0 = λ b. nat_eq f.txn x ≡ b → or_else (cond b (Some f.fate) (m x)) (first_fate fs x) ≡ or_else (m x) (fate_if b f (first_fate fs x)) in
    ap (λ o. or_else o (first_fate fs x)) (is ∙ ap (λ b. cond b (Some f.fate) (m x)) (at-is f.txn x))
    ∙ (elim (nat_eq f.txn x) as P [
      | true ↦ λ e. ap (λ o. or_else o (Some f.fate)) (sym (ap m (sym (is-number f.txn x e)) ∙ none))
      | false ↦ λ e. refl
    ]) refl
    ∙ ap (or_else (m x)) (sym (fate-cons f fs x))

-- or its transaction has one already
pub first-again : (m : ℕ → Option Fate) (f : FateOf) (fs : List FateOf) (x : ℕ) → is_some (m f.txn) ≡ true
    → or_else (m x) (first_fate fs x) ≡ or_else (m x) (first_fate (f ∷ fs) x)
first-again m f fs x some =
    let P : Bool → Type 0 = λ b. nat_eq f.txn x ≡ b → or_else (m x) (first_fate fs x) ≡ or_else (m x) (fate_if b f (first_fate fs x)) in
    (elim (nat_eq f.txn x) as P [
      | true ↦ λ e. first (m x) (ap (λ y. is_some (m y)) (sym (is-number f.txn x e)) ∙ some)
      | false ↦ λ e. refl
    ]) refl
    ∙ ap (or_else (m x)) (sym (fate-cons f fs x))
  where
    first : (o : Option Fate) → is_some o ≡ true → or_else o (first_fate fs x) ≡ or_else o (Some f.fate)
    first None h = cc
    first (Some g) h = refl

pub first-end : (m : ℕ → Option Fate) (fs : List FateOf) (all : Option Fate) (x : ℕ) → fs ≡ [] → or_else (m x) (first_fate fs x) ≡ all → m x ≡ all
first-end m fs all x done h =
    or_else-none (m x) ∙ ap (or_else (m x)) (sym (fate-nil x)) ∙ ap (λ l. or_else (m x) (first_fate l x)) (sym done) ∙ h

pub none-there : (o : Option Fate) → is_some o ≡ false → o ≡ None
none-there None h = refl
none-there (Some f) h = cc

-- ---- the transactions that are committed

and-false : (b : Bool) → (b && false) ≡ false
and-false true = refl
and-false false = refl

or-true : (b : Bool) → (b || true) ≡ true
or-true true = refl
or-true false = refl

or-false : (b : Bool) → (b || false) ≡ b
or-false true = refl
or-false false = refl

-- the next transaction is taken
pub taken-more : (w : ℕ → Bool) (k : ℕ) (rest keys : List ℕ) (x : ℕ) (before after : Bool) → keys ≡ k ∷ rest → w k ≡ true
    → after ≡ cond (is_at (nat_cmp k) x) true before
    → (after || (list_any (is_at (nat_cmp x)) rest && w x)) ≡ (before || (list_any (is_at (nat_cmp x)) keys && w x))
taken-more w k rest keys x before after whole taken is =
    let among = list_any (is_at (nat_cmp x)) rest in
    let P : Bool → Type 0 = λ b. nat_eq k x ≡ b → (cond b true before || (among && w x)) ≡ (before || ((b || among) && w x)) in
    ap (λ b. b || (among && w x)) (is ∙ ap (λ b. cond b true before) (at-is k x))
    ∙ (elim (nat_eq k x) as P [
      | true ↦ λ e. sym (ap (λ b. before || b) (ap w (sym (is-number k x e)) ∙ taken) ∙ or-true before)
      | false ↦ λ e. refl
    ]) refl
    ∙ ap (λ b. before || ((b || among) && w x)) (sym (at-turned k x))
    ∙ ap (λ l. before || (list_any (is_at (nat_cmp x)) l && w x)) (sym whole)

-- or it is left out
pub taken-less : (w : ℕ → Bool) (k : ℕ) (rest keys : List ℕ) (x : ℕ) (before : Bool) → keys ≡ k ∷ rest → w k ≡ false
    → (before || (list_any (is_at (nat_cmp x)) rest && w x)) ≡ (before || (list_any (is_at (nat_cmp x)) keys && w x))
taken-less w k rest keys x before whole left =
    let among = list_any (is_at (nat_cmp x)) rest in
    let P : Bool → Type 0 = λ b. nat_eq k x ≡ b → (before || (among && w x)) ≡ (before || ((b || among) && w x)) in
    (elim (nat_eq k x) as P [
      | true ↦ λ e.
          let none : w x ≡ false = ap w (sym (is-number k x e)) ∙ left in
          ap (λ b. before || (among && b)) none ∙ ap (λ b. before || b) (and-false among) ∙ sym (ap (λ b. before || b) none)
      | false ↦ λ e. refl
    ]) refl
    ∙ ap (λ b. before || ((b || among) && w x)) (sym (at-turned k x))
    ∙ ap (λ l. before || (list_any (is_at (nat_cmp x)) l && w x)) (sym whole)

-- all that are committed have a fate
pub taken-end : (own_txn : Option ℕ) (fate_of : ℕ → Option Fate) (rest : List ℕ) (x : ℕ) (found : Bool) → rest ≡ []
    → (found || (list_any (is_at (nat_cmp x)) rest && is_committed_other own_txn fate_of x)) ≡ (is_some (fate_of x) && is_committed_other own_txn fate_of x)
    → found ≡ is_committed_other own_txn fate_of x
taken-end own_txn fate_of rest x found done h =
    sym (or-false found)
    ∙ ap (λ l. found || (list_any (is_at (nat_cmp x)) l && is_committed_other own_txn fate_of x)) (sym done)
    ∙ h
    ∙ by (fate_of x)
  where
    by : (o : Option Fate) → (is_some o && (not (is_own own_txn x) && is_some (commit_time o))) ≡ (not (is_own own_txn x) && is_some (commit_time o))
    by None = sym (and-false (not (is_own own_txn x)))
    by (Some f) = refl

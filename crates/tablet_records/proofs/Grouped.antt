-- Provisional writes in the order of their transactions are those of one transaction after another.
use Rattle.std.proofs.Common.{◌≡◌, ℕ, ◌<◌, Bool, true, false, ◌&&◌, ◌||◌, not, List, [], ◌∷◌, ◌++◌, Option, Some, None, if◌then◌else◌, nat_le, nat_eq, refl, sym, ap, ◌∙◌, arith}
use Rattle.std.specs.Prelude.{filter, filter_map, flat_map, is_some}
use Rattle.std.specs.List.{AllByRecursion, cons_option}
use Rattle.std.specs.List.Sorted.{IsStrictlySortedBy}
use Rattle.std.specs.Ordering.{nat_cmp}
use Rattle.std.specs.declared.cmp.Ordering.TheVariants.{Less}
use Rattle.std.proofs.lemmas.Bool.Decides.{nat_tests}
use Rattle.txn_data.specs.declared.fate_of.FateOf.{FateOf}
use Rattle.txn_data.specs.declared.version.Version.{Version}
use Rattle.txn_types.specs.Lists.{has_number, inserted_by, sorted_by}
use Rattle.txn_types.specs.Tablet.{Intent, is_of, txn_of, is_own, first_fate, commit_time, version_at, under_fate}
use Rattle.intent_records.specs.Holds.{own}
use Rattle.tablet_records.specs.Committed.{committed_writes, committed_of}

true-not-false : true ≡ false → ⊥
true-not-false h = cc

-- by the ids of their transactions
abbrev by_txn : Intent → Intent → Bool
by_txn p q = nat_le (txn_of p) (txn_of q)

-- p comes not after each of these
abbrev BeforeAll : Intent → List Intent → Type 0
BeforeAll p [] = Unit {0}
BeforeAll p (q ∷ qs) = (by_txn p q ≡ true) × BeforeAll p qs

-- p comes after each of these
abbrev AfterAll : Intent → List Intent → Type 0
AfterAll p [] = Unit {0}
AfterAll p (q ∷ qs) = (by_txn p q ≡ false) × AfterAll p qs

abbrev InOrder : List Intent → Type 0
InOrder [] = Unit {0}
InOrder (p ∷ ps) = BeforeAll p ps × InOrder ps

by_txn-trans : (p q r : Intent) → by_txn p q ≡ true → by_txn q r ≡ true → by_txn p r ≡ true
by_txn-trans p q r h k = grind (arith, nat_tests)

by_txn-total : (p q : Intent) → by_txn p q ≡ false → by_txn q p ≡ true
by_txn-total p q h = grind (arith, nat_tests)

before-trans : (p q : Intent) (rs : List Intent) → by_txn p q ≡ true → BeforeAll q rs → BeforeAll p rs
before-trans p q [] h b = tt
before-trans p q (r ∷ rs) h b = (by_txn-trans p q r h b.0, before-trans p q rs h b.1)

inserted-nil : (p : Intent) → inserted_by by_txn p [] ≡ p ∷ []
unfolding inserted_by
inserted-nil p = refl

abbrev put : Bool → Intent → Intent → List Intent → List Intent
put b p q qs = if b then p ∷ q ∷ qs else q ∷ inserted_by by_txn p qs

inserted-cons : (p q : Intent) (qs : List Intent) → inserted_by by_txn p (q ∷ qs) ≡ put (by_txn p q) p q qs
unfolding inserted_by
inserted-cons p q qs = refl

before-inserted : (p q : Intent) (qs : List Intent) → by_txn p q ≡ true → BeforeAll p qs → BeforeAll p (inserted_by by_txn q qs)
unfolding inserted_by
before-inserted p q [] h b = (h, tt)
before-inserted p q (r ∷ qs) h b =
    elim (by_txn q r) as (λ x. BeforeAll p (if x then q ∷ r ∷ qs else r ∷ inserted_by by_txn q qs)) [
      | true ↦ (h, b)
      | false ↦ (b.0, before-inserted p q qs h b.1)
    ]

order-inserted : (p : Intent) (qs : List Intent) → InOrder qs → InOrder (inserted_by by_txn p qs)
unfolding inserted_by
order-inserted p [] o = (tt, tt)
order-inserted p (q ∷ qs) o =
    let P : Bool → Type 0 = λ x. by_txn p q ≡ x → InOrder (if x then p ∷ q ∷ qs else q ∷ inserted_by by_txn p qs) in
    (elim (by_txn p q) as P [
      | true ↦ λ h. ((h, before-trans p q qs h o.0), o)
      | false ↦ λ h. (before-inserted q p qs (by_txn-total p q h) o.0, order-inserted p qs o.1)
    ]) refl

order-sorted : (ps : List Intent) → InOrder (sorted_by by_txn ps)
unfolding sorted_by
order-sorted [] = tt
order-sorted (p ∷ ps) = order-inserted p (sorted_by by_txn ps) (order-sorted ps)

-- what comes not after any goes to the front
inserted-front : (p : Intent) (qs : List Intent) → BeforeAll p qs → inserted_by by_txn p qs ≡ p ∷ qs
inserted-front p [] b = inserted-nil p
inserted-front p (q ∷ qs) b = inserted-cons p q qs ∙ ap (λ x. put x p q qs) b.0

-- and what comes after some goes behind them
inserted-behind : (p : Intent) (qs rs : List Intent) → AfterAll p qs → inserted_by by_txn p (qs ++ rs) ≡ qs ++ inserted_by by_txn p rs
inserted-behind p [] rs a = refl
inserted-behind p (q ∷ qs) rs a = inserted-cons p q (qs ++ rs) ∙ ap (λ x. put x p q (qs ++ rs)) a.0 ∙ ap (λ xs. q ∷ xs) (inserted-behind p qs rs a.1)

-- ---- a filter before the order and after it

before-filter : (h : Intent → Bool) (p : Intent) (qs : List Intent) → BeforeAll p qs → BeforeAll p (filter h qs)
before-filter h p [] b = tt
before-filter h p (q ∷ qs) b = elim (h q) as (λ x. BeforeAll p (if x then q ∷ filter h qs else filter h qs)) [ true ↦ (b.0, before-filter h p qs b.1) | false ↦ before-filter h p qs b.1 ]

abbrev kept : Bool → Intent → List Intent → List Intent
kept b p ps = if b then p ∷ ps else ps

filter-inserted : (h : Intent → Bool) (p : Intent) (qs : List Intent) → h p ≡ true → InOrder qs → filter h (inserted_by by_txn p qs) ≡ inserted_by by_txn p (filter h qs)
filter-inserted h p [] k o = ap (filter h) (inserted-nil p) ∙ ap (λ x. kept x p []) k ∙ sym (inserted-nil p)
filter-inserted h p (q ∷ qs) k o =
    let P : Bool → Bool → Type 0 = λ x y. by_txn p q ≡ x → h q ≡ y → filter h (put x p q qs) ≡ inserted_by by_txn p (kept y q (filter h qs)) in
    let step : (x y : Bool) → P x y =
    λ x. elim x as (λ x. (y : Bool) → P x y) [
      | true ↦ λ y. elim y as (P true) [
        | true ↦ λ b is. ap (λ z. kept z p (kept (h q) q (filter h qs))) k ∙ ap (λ z. p ∷ kept z q (filter h qs)) is ∙ sym (inserted-cons p q (filter h qs) ∙ ap (λ x. put x p q (filter h qs)) b)
        | false ↦ λ b is. ap (λ z. kept z p (kept (h q) q (filter h qs))) k ∙ ap (λ z. p ∷ kept z q (filter h qs)) is ∙ sym (inserted-front p (filter h qs) (before-filter h p qs (before-trans p q qs b o.0)))
      ]
      | false ↦ λ y. elim y as (P false) [
        | true ↦ λ b is. ap (λ z. kept z q (filter h (inserted_by by_txn p qs))) is ∙ ap (λ xs. q ∷ xs) (filter-inserted h p qs k o.1) ∙ sym (inserted-cons p q (filter h qs) ∙ ap (λ x. put x p q (filter h qs)) b)
        | false ↦ λ b is. ap (λ z. kept z q (filter h (inserted_by by_txn p qs))) is ∙ filter-inserted h p qs k o.1
      ]
    ] in
    ap (filter h) (inserted-cons p q qs) ∙ step (by_txn p q) (h q) refl refl

filter-left_out : (h : Intent → Bool) (p : Intent) (qs : List Intent) → h p ≡ false → filter h (inserted_by by_txn p qs) ≡ filter h qs
filter-left_out h p [] k = ap (filter h) (inserted-nil p) ∙ ap (λ x. kept x p []) k
filter-left_out h p (q ∷ qs) k =
    ap (filter h) (inserted-cons p q qs)
    ∙ elim (by_txn p q) as (λ x. filter h (put x p q qs) ≡ filter h (q ∷ qs)) [
      | true ↦ ap (λ x. kept x p (filter h (q ∷ qs))) k
      | false ↦ ap (kept (h q) q) (filter-left_out h p qs k)
    ]

sorted-nil : sorted_by by_txn [] ≡ []
unfolding sorted_by
sorted-nil = refl

sorted-cons : (p : Intent) (ps : List Intent) → sorted_by by_txn (p ∷ ps) ≡ inserted_by by_txn p (sorted_by by_txn ps)
unfolding sorted_by
sorted-cons p ps = refl

sorted-filter : (h : Intent → Bool) (ps : List Intent) → filter h (sorted_by by_txn ps) ≡ sorted_by by_txn (filter h ps)
sorted-filter h [] = ap (filter h) sorted-nil ∙ sym sorted-nil
sorted-filter h (p ∷ ps) =
    let P : Bool → Type 0 = λ x. h p ≡ x → filter h (inserted_by by_txn p (sorted_by by_txn ps)) ≡ sorted_by by_txn (kept x p (filter h ps)) in
    ap (filter h) (sorted-cons p ps)
    ∙ (elim (h p) as P [
      | true ↦ λ k. filter-inserted h p (sorted_by by_txn ps) k (order-sorted ps) ∙ ap (inserted_by by_txn p) (sorted-filter h ps) ∙ sym (sorted-cons p (filter h ps))
      | false ↦ λ k. filter-left_out h p (sorted_by by_txn ps) k ∙ sorted-filter h ps
    ]) refl

-- ---- one transaction after another

abbrev AreAbove : ℕ → List ℕ → Type 0
AreAbove n [] = Unit {0}
AreAbove n (m ∷ ms) = (n < m) × AreAbove n ms

abbrev Rises : List ℕ → Type 0
Rises [] = Unit {0}
Rises (n ∷ ns) = AreAbove n ns × Rises ns

above-sorted : (n : ℕ) (ms : List ℕ) → AllByRecursion (λ m. nat_cmp n m ≡ Less) ms → AreAbove n ms
above-sorted n [] h = tt
above-sorted n (m ∷ ms) h = (let first = h.0 in grind (arith, nat_tests, first), above-sorted n ms h.1)

rises-sorted : (ns : List ℕ) → IsStrictlySortedBy nat_cmp ns → Rises ns
unfolding IsStrictlySortedBy
rises-sorted [] h = tt
rises-sorted (n ∷ ns) h = (above-sorted n ns h.0, rises-sorted ns h.1)

above-is : (n m : ℕ) (ms : List ℕ) → AreAbove n ms → has_number m ms ≡ true → n < m
above-is n m [] a h = absurd (true-not-false (sym h))
above-is n m (k ∷ ms) a h =
    let P : Bool → Type 0 = λ x. nat_eq m k ≡ x → (x || has_number m ms) ≡ true → n < m in
    (elim (nat_eq m k) as P [
      | true ↦ λ e _. let first = a.0 in grind (arith, nat_tests, e, first)
      | false ↦ λ e k. above-is n m ms a.1 k
    ]) refl h

abbrev grouped : List ℕ → List Intent → List Intent
grouped xs ps = flat_map (λ x. own x ps) xs

before-own : (p : Intent) (x : ℕ) (qs : List Intent) → nat_le (txn_of p) x ≡ true → BeforeAll p (own x qs)
before-own p x [] h = tt
before-own p x (q ∷ qs) h =
    let P : Bool → Type 0 = λ b. is_of x q ≡ b → BeforeAll p (kept b q (own x qs)) in
    (elim (is_of x q) as P [
      | true ↦ λ e. (grind (arith, nat_tests, e, h), before-own p x qs h)
      | false ↦ λ e. before-own p x qs h
    ]) refl

after-own : (p : Intent) (x : ℕ) (qs : List Intent) → nat_le (txn_of p) x ≡ false → AfterAll p (own x qs)
after-own p x [] h = tt
after-own p x (q ∷ qs) h =
    let P : Bool → Type 0 = λ b. is_of x q ≡ b → AfterAll p (kept b q (own x qs)) in
    (elim (is_of x q) as P [
      | true ↦ λ e. (grind (arith, nat_tests, e, h), after-own p x qs h)
      | false ↦ λ e. after-own p x qs h
    ]) refl

before-append : (p : Intent) (qs rs : List Intent) → BeforeAll p qs → BeforeAll p rs → BeforeAll p (qs ++ rs)
before-append p [] rs a b = b
before-append p (q ∷ qs) rs a b = (a.0, before-append p qs rs a.1 b)

before-grouped : (p : Intent) (xs : List ℕ) (qs : List Intent) → AreAbove (txn_of p) xs → BeforeAll p (grouped xs qs)
before-grouped p [] qs a = tt
before-grouped p (x ∷ xs) qs a =
    let first = a.0 in
    before-append p (own x qs) (grouped xs qs) (before-own p x qs (grind (arith, nat_tests, first))) (before-grouped p xs qs a.1)

grouped-other : (xs : List ℕ) (p : Intent) (qs : List Intent) → has_number (txn_of p) xs ≡ false → grouped xs (p ∷ qs) ≡ grouped xs qs
grouped-other [] p qs h = refl
grouped-other (x ∷ xs) p qs h =
    let P : Bool → Type 0 = λ b. (b || has_number (txn_of p) xs) ≡ false → kept b p (own x qs) ++ grouped xs (p ∷ qs) ≡ own x qs ++ grouped xs qs in
    (elim (nat_eq (txn_of p) x) as P [
      | true ↦ λ k. absurd (true-not-false k)
      | false ↦ λ k. ap (λ l. own x qs ++ l) (grouped-other xs p qs k)
    ]) h

none-above : (n : ℕ) (ms : List ℕ) → AreAbove n ms → has_number n ms ≡ false
none-above n [] a = refl
none-above n (m ∷ ms) a =
    let first = a.0 in
    let apart : nat_eq n m ≡ false = grind (arith, nat_tests, first) in
    ap (λ b. b || has_number n ms) apart ∙ none-above n ms a.1

above-same : (n m : ℕ) (ms : List ℕ) → n ≡ m → AreAbove m ms → AreAbove n ms
above-same n m [] e a = tt
above-same n m (k ∷ ms) e a = let first = a.0 in (grind (arith, e, first), above-same n m ms e a.1)

grouped-more : (xs : List ℕ) (p : Intent) (qs : List Intent) → Rises xs → has_number (txn_of p) xs ≡ true → grouped xs (p ∷ qs) ≡ inserted_by by_txn p (grouped xs qs)
grouped-more [] p qs r h = absurd (true-not-false (sym h))
grouped-more (x ∷ xs) p qs r h =
    let n = txn_of p in
    let P : Bool → Type 0 = λ b. nat_eq n x ≡ b → (b || has_number n xs) ≡ true → kept b p (own x qs) ++ grouped xs (p ∷ qs) ≡ inserted_by by_txn p (own x qs ++ grouped xs qs) in
    (elim (nat_eq n x) as P [
      | true ↦ λ e k.
          let same : n ≡ x = grind (arith, nat_tests, e) in
          let above = above-same n x xs same r.0 in
          ap (λ l. p ∷ (own x qs ++ l)) (grouped-other xs p qs (none-above n xs above))
          ∙ sym (inserted-front p (own x qs ++ grouped xs qs) (before-append p (own x qs) (grouped xs qs) (before-own p x qs (grind (arith, nat_tests, same))) (before-grouped p xs qs above)))
      | false ↦ λ e k.
          let above : x < n = above-is x n xs r.0 k in
          ap (λ l. own x qs ++ l) (grouped-more xs p qs r.1 k)
          ∙ sym (inserted-behind p (own x qs) (grouped xs qs) (after-own p x qs (grind (arith, nat_tests, above))))
    ]) refl h

grouped-none : (xs : List ℕ) → grouped xs [] ≡ []
grouped-none [] = refl
grouped-none (x ∷ xs) = grouped-none xs

-- the writes of some transactions by rising id, in the order of their transactions
sorted-grouped : (xs : List ℕ) (ps : List Intent) → Rises xs → sorted_by by_txn (filter (λ p. has_number (txn_of p) xs) ps) ≡ grouped xs ps
sorted-grouped xs [] r = sorted-nil ∙ sym (grouped-none xs)
sorted-grouped xs (p ∷ ps) r =
    let h : Intent → Bool = λ p. has_number (txn_of p) xs in
    let P : Bool → Type 0 = λ b. has_number (txn_of p) xs ≡ b → sorted_by by_txn (kept b p (filter h ps)) ≡ grouped xs (p ∷ ps) in
    (elim (has_number (txn_of p) xs) as P [
      | true ↦ λ e. sorted-cons p (filter h ps) ∙ ap (inserted_by by_txn p) (sorted-grouped xs ps r) ∙ sym (grouped-more xs p ps r e)
      | false ↦ λ e. sorted-grouped xs ps r ∙ sym (grouped-other xs p ps e)
    ]) refl

-- ---- as versions

cons_option-append : (o : Option Version) (us vs : List Version) → cons_option o (us ++ vs) ≡ cons_option o us ++ vs
cons_option-append None us vs = refl
cons_option-append (Some v) us vs = refl

filter_map-append : (f : Intent → Option Version) (ps qs : List Intent) → filter_map f (ps ++ qs) ≡ filter_map f ps ++ filter_map f qs
filter_map-append f [] qs = refl
filter_map-append f (p ∷ ps) qs = ap (cons_option (f p)) (filter_map-append f ps qs) ∙ cons_option-append (f p) (filter_map f ps) (filter_map f qs)

filter_map-grouped : (f : Intent → Option Version) (ps : List Intent) (xs : List ℕ) → filter_map f (grouped xs ps) ≡ flat_map (λ x. filter_map f (own x ps)) xs
filter_map-grouped f ps [] = refl
filter_map-grouped f ps (x ∷ xs) = filter_map-append f (own x ps) (grouped xs ps) ∙ ap (λ l. filter_map f (own x ps) ++ l) (filter_map-grouped f ps xs)

-- what has no commit time is not committed
abbrev is_told : List FateOf → Intent → Bool
is_told fates p = is_some (commit_time (first_fate fates (txn_of p)))

abbrev version_by : Intent → Option ℕ → Option Version
version_by p at = elim at [ Some c ↦ Some (version_at c p) | None ↦ None ]

untold-none : (fates : List FateOf) (p : Intent) → is_told fates p ≡ false → under_fate fates p ≡ None
untold-none fates p h =
    let P : Option ℕ → Type 0 = λ o. is_some o ≡ false → version_by p o ≡ None in
    (elim (commit_time (first_fate fates (txn_of p))) as P [ None ↦ λ k. refl | Some c ↦ λ k. absurd (true-not-false k) ]) h

filter_map-told : (fates : List FateOf) (ps : List Intent) → filter_map (under_fate fates) (filter (is_told fates) ps) ≡ filter_map (under_fate fates) ps
filter_map-told fates [] = refl
filter_map-told fates (p ∷ ps) =
    let P : Bool → Type 0 = λ b. is_told fates p ≡ b → filter_map (under_fate fates) (kept b p (filter (is_told fates) ps)) ≡ cons_option (under_fate fates p) (filter_map (under_fate fates) ps) in
    (elim (is_told fates p) as P [
      | true ↦ λ e. ap (cons_option (under_fate fates p)) (filter_map-told fates ps)
      | false ↦ λ e. filter_map-told fates ps ∙ sym (ap (λ o. cons_option o (filter_map (under_fate fates) ps)) (untold-none fates p e))
    ]) refl

filter-both : (f g h : Intent → Bool) → ((p : Intent) → h p ≡ (f p && g p)) → (ps : List Intent) → filter f (filter g ps) ≡ filter h ps
filter-both f g h is [] = refl
filter-both f g h is (p ∷ ps) =
    let P : Bool → Bool → Bool → Type 0 = λ x y z. z ≡ (x && y) → f p ≡ x → filter f (kept y p (filter g ps)) ≡ kept z p (filter h ps) in
    let step : (x y z : Bool) → P x y z =
    λ x. elim x as (λ x. (y z : Bool) → P x y z) [
      | true ↦ λ y. elim y as (λ y. (z : Bool) → P true y z) [
        | true ↦ λ z e k. ap (λ x. kept x p (filter f (filter g ps))) k ∙ ap (λ l. p ∷ l) (filter-both f g h is ps) ∙ sym (ap (λ x. kept x p (filter h ps)) e)
        | false ↦ λ z e k. filter-both f g h is ps ∙ sym (ap (λ x. kept x p (filter h ps)) e)
      ]
      | false ↦ λ y. elim y as (λ y. (z : Bool) → P false y z) [
        | true ↦ λ z e k. ap (λ x. kept x p (filter f (filter g ps))) k ∙ filter-both f g h is ps ∙ sym (ap (λ x. kept x p (filter h ps)) e)
        | false ↦ λ z e k. filter-both f g h is ps ∙ sym (ap (λ x. kept x p (filter h ps)) e)
      ]
    ] in
    step (f p) (g p) (h p) (is p) refl

and-turned : (a b : Bool) → (a && b) ≡ (b && a)
and-turned true true = refl
and-turned true false = refl
and-turned false true = refl
and-turned false false = refl

-- the committed writes are those of one transaction after another
pub committed-grouped : (own_txn : Option ℕ) (fates : List FateOf) (ps : List Intent) (xs : List ℕ) → IsStrictlySortedBy nat_cmp xs
    → ((x : ℕ) → has_number x xs ≡ (not (is_own own_txn x) && is_some (commit_time (first_fate fates x))))
    → committed_of fates ps xs ≡ committed_writes own_txn fates ps
committed-grouped own_txn fates ps xs sorted is =
    let others : Intent → Bool = λ p. not (is_own own_txn (txn_of p)) in
    let f = under_fate fates in
    sym (filter_map-grouped f ps xs)
    ∙ ap (filter_map f) (
    sym (sorted-grouped xs ps (rises-sorted xs sorted))
    ∙ ap (sorted_by by_txn) (sym (filter-both (is_told fates) others (λ p. has_number (txn_of p) xs) (λ p. is (txn_of p) ∙ and-turned (others p) (is_told fates p)) ps))
    ∙ sym (sorted-filter (is_told fates) (filter others ps))
    )
    ∙ filter_map-told fates (sorted_by by_txn (filter others ps))

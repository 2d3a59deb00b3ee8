-- The decision over the transactions found, and the tablet's table over the writes.
use Rattle.std.proofs.Common.{◌≡◌, ℕ, Bool, true, false, List, [], ◌∷◌, ◌++◌, Option, Some, None, max, refl, sym, ap, ◌∙◌, arith, nat_lt, nat_eq, if◌then◌else◌}
use Rattle.std.specs.Prelude.{cond, filter, filter_map, option_to_list, map}
use Rattle.std.specs.List.{cons_option}
use Rattle.std.proofs.lemmas.Bool.Decides.{nat_tests}
use Rattle.doc_path.specs.Path.{related}
use Rattle.txn_data.specs.declared.fate_of.FateOf.{FateOf}
use Rattle.txn_data.specs.declared.version.Version.{Version}
use Rattle.txn_types.specs.Lists.{with_number, rising, or_zero}
use Rattle.txn_types.specs.Tablet.{Intent, txn_of, home_in, others_on, first_of, first_fate, is_open, commit_time, greatest_above}
use Rattle.conflict_matrix.specs.Decide.{ids, fate_times}
use Rattle.conflict_matrix.specs.Laws.{LeastOpenIsConflict, OverlapIsGreatestCommit}
use Rattle.conflict_matrix.proofs.Deciding.{AreAbove, Rises, rises}

with_number-first : (n : ℕ) (ns : List ℕ) → AreAbove n ns → with_number n ns ≡ n ∷ ns
unfolding with_number
with_number-first n [] h = refl
with_number-first n (m ∷ ms) h = let less : nat_lt n m ≡ true = grind (arith, nat_tests, h.0) in
    ap (λ b. if b then n ∷ m ∷ ms else (if nat_eq n m then m ∷ ms else m ∷ with_number n ms)) less

rising-itself : (ns : List ℕ) → Rises ns → rising ns ≡ ns
unfolding rising
rising-itself [] h = refl
rising-itself (n ∷ ns) h = ap (with_number n) (rising-itself ns h.1) ∙ with_number-first n ns h.0

ids-homes : (all : List Intent) (xs : List ℕ) → ids (map (λ x. record { txn = x; status = home_in x all }) xs) ≡ xs
ids-homes all [] = refl
ids-homes all (x ∷ xs) = ap (λ ys. x ∷ ys) (ids-homes all xs)

pub least_open_is_conflict : LeastOpenIsConflict
least_open_is_conflict all ps x path fates =
    let xs = rising (map txn_of (others_on x path ps)) in
    ap (λ ys. first_of (filter (λ y. is_open (first_fate fates y)) (rising ys))) (ids-homes all xs)
    ∙ ap (λ ys. first_of (filter (λ y. is_open (first_fate fates y)) ys)) (rising-itself xs (rises (map txn_of (others_on x path ps))))

-- the greater of two times, where there are some
abbrev best : Option ℕ → Option ℕ → Option ℕ
best None second = second
best (Some m) None = Some m
best (Some m) (Some n) = Some (max m n)

best-assoc : (o p q : Option ℕ) → best (best o p) q ≡ best o (best p q)
best-assoc None p q = refl
best-assoc (Some m) None q = refl
best-assoc (Some m) (Some n) None = refl
best-assoc (Some m) (Some n) (Some k) = grind arith

best-swap : (o p q : Option ℕ) → best o (best p q) ≡ best p (best o q)
best-swap None None q = refl
best-swap None (Some n) None = refl
best-swap None (Some n) (Some k) = refl
best-swap (Some m) None None = refl
best-swap (Some m) None (Some k) = refl
best-swap (Some m) (Some n) None = grind arith
best-swap (Some m) (Some n) (Some k) = grind arith

best-again : (o q : Option ℕ) → best o (best o q) ≡ best o q
best-again None q = refl
best-again (Some m) None = grind arith
best-again (Some m) (Some k) = grind arith

abbrev one_above : ℕ → ℕ → Option ℕ
one_above read c = cond (nat_lt read c) (Some c) None

greatest-cons : (read c : ℕ) (cs : List ℕ) → greatest_above read (c ∷ cs) ≡ best (one_above read c) (greatest_above read cs)
unfolding greatest_above
greatest-cons read c cs = by (nat_lt read c) (greatest_above read cs)
  where
    by : (b : Bool) (r : Option ℕ) → (if b then Some (max c (or_zero r)) else r) ≡ best (cond b (Some c) None) r
    by true None = grind arith
    by true (Some k) = refl
    by false r = refl

greatest-append : (read : ℕ) (cs ds : List ℕ) → greatest_above read (cs ++ ds) ≡ best (greatest_above read cs) (greatest_above read ds)
unfolding greatest_above
greatest-append read [] ds = refl
greatest-append read (c ∷ cs) ds =
    greatest-cons read c (cs ++ ds)
    ∙ ap (best (one_above read c)) (greatest-append read cs ds)
    ∙ sym (best-assoc (one_above read c) (greatest_above read cs) (greatest_above read ds))
    ∙ ap (λ o. best o (greatest_above read ds)) (sym (greatest-cons read c cs))

-- a greatest time above the read time is its own greatest
greatest-kept : (read : ℕ) (cs : List ℕ) → greatest_above read (option_to_list (greatest_above read cs)) ≡ greatest_above read cs
unfolding greatest_above
greatest-kept read [] = refl
greatest-kept read (c ∷ cs) = by (greatest-kept read cs) (nat_lt read c) refl
  where
    alone : (m : ℕ) → nat_lt read m ≡ true → greatest_above read (m ∷ []) ≡ Some m
    alone m h = ap (λ b. if b then Some (max m 0) else None) h ∙ grind arith

    by : greatest_above read (option_to_list (greatest_above read cs)) ≡ greatest_above read cs → (b : Bool) → nat_lt read c ≡ b → greatest_above read (option_to_list (if b then Some (max c (or_zero (greatest_above read cs))) else greatest_above read cs)) ≡ (if b then Some (max c (or_zero (greatest_above read cs))) else greatest_above read cs)
    by rest true h = alone (max c (or_zero (greatest_above read cs))) (grind (arith, nat_tests, h))
    by rest false h = rest

abbrev fate_above : ℕ → List FateOf → ℕ → Option ℕ
fate_above read fates x = greatest_above read (option_to_list (commit_time (first_fate fates x)))

fates-cons : (read : ℕ) (fates : List FateOf) (x : ℕ) (xs : List ℕ)
    → greatest_above read (fate_times fates (x ∷ xs)) ≡ best (fate_above read fates x) (greatest_above read (fate_times fates xs))
fates-cons read fates x xs = by (commit_time (first_fate fates x))
  where
    by : (o : Option ℕ) → greatest_above read (cons_option o (fate_times fates xs)) ≡ best (greatest_above read (option_to_list o)) (greatest_above read (fate_times fates xs))
    by None = greatest-append read [] (fate_times fates xs)
    by (Some c) = greatest-append read (c ∷ []) (fate_times fates xs)

fates-with : (read : ℕ) (fates : List FateOf) (n : ℕ) (ms : List ℕ)
    → greatest_above read (fate_times fates (with_number n ms)) ≡ best (fate_above read fates n) (greatest_above read (fate_times fates ms))
unfolding with_number
fates-with read fates n [] = fates-cons read fates n []
fates-with read fates n (m ∷ ms) =
    let P : Bool → Type 0 = λ b. greatest_above read (fate_times fates (if b then n ∷ m ∷ ms else (if nat_eq n m then m ∷ ms else m ∷ with_number n ms))) ≡ best (fate_above read fates n) (greatest_above read (fate_times fates (m ∷ ms))) in
    let Q : Bool → Type 0 = λ b. nat_eq n m ≡ b → greatest_above read (fate_times fates (if b then m ∷ ms else m ∷ with_number n ms)) ≡ best (fate_above read fates n) (greatest_above read (fate_times fates (m ∷ ms))) in
    elim (nat_lt n m) as P [
      | true ↦ fates-cons read fates n (m ∷ ms)
      | false ↦ (elim (nat_eq n m) as Q [
        | true ↦ λ e. let same : n ≡ m = grind (arith, nat_tests, e) in
            fates-cons read fates m ms
            ∙ sym (best-again (fate_above read fates m) (greatest_above read (fate_times fates ms)))
            ∙ ap (best (fate_above read fates m)) (sym (fates-cons read fates m ms))
            ∙ ap (λ k. best (fate_above read fates k) (greatest_above read (fate_times fates (m ∷ ms)))) (sym same)
        | false ↦ λ e.
            fates-cons read fates m (with_number n ms)
            ∙ ap (best (fate_above read fates m)) (fates-with read fates n ms)
            ∙ best-swap (fate_above read fates m) (fate_above read fates n) (greatest_above read (fate_times fates ms))
            ∙ ap (best (fate_above read fates n)) (sym (fates-cons read fates m ms))
      ]) refl
    ]

-- the greatest time depends on which transactions there are, not on how often or in which order
fates-rising : (read : ℕ) (fates : List FateOf) (xs : List ℕ) → greatest_above read (fate_times fates (rising xs)) ≡ greatest_above read (fate_times fates xs)
unfolding rising
fates-rising read fates [] = refl
fates-rising read fates (x ∷ xs) =
    fates-with read fates x (rising xs)
    ∙ ap (best (fate_above read fates x)) (fates-rising read fates xs)
    ∙ sym (fates-cons read fates x xs)

fate_times-writes : (fates : List FateOf) (ps : List Intent)
    → fate_times fates (map txn_of ps) ≡ filter_map (λ (p : Intent). commit_time (first_fate fates (txn_of p))) ps
fate_times-writes fates [] = refl
fate_times-writes fates (p ∷ ps) = ap (cons_option (commit_time (first_fate fates (txn_of p)))) (fate_times-writes fates ps)

pub overlap_is_greatest_commit : OverlapIsGreatestCommit
overlap_is_greatest_commit all ps vs x path fates read =
    let times = map (λ (v : Version). v.at) (filter (λ (v : Version). related v.path path) vs) in
    let others = others_on x path ps in
    ap (λ ys. greatest_above read (option_to_list (greatest_above read times) ++ fate_times fates ys)) (ids-homes all (rising (map txn_of others)))
    ∙ greatest-append read (option_to_list (greatest_above read times)) (fate_times fates (rising (map txn_of others)))
    ∙ ap (λ o. best o (greatest_above read (fate_times fates (rising (map txn_of others))))) (greatest-kept read times)
    ∙ ap (best (greatest_above read times)) (fates-rising read fates (map txn_of others))
    ∙ sym (greatest-append read times (fate_times fates (map txn_of others)))
    ∙ ap (λ cs. greatest_above read (times ++ cs)) (fate_times-writes fates others)

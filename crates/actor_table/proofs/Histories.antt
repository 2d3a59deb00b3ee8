-- Lists of entries, and the entries of one actor in them.
use Rattle.std.proofs.Common.{◌≡◌, ◌≢◌, ◌⊎◌, ℕ, zero, suc, ◌+◌, ◌*◌, ◌<◌, ◌≤◌, eqb, eq-eqb, ne_eqb, Bool, true, false, List, [], ◌∷◌, ◌++◌, length, refl, sym, ap, ◌∙◌, subst, inl, inr, ⊎_elim, arith, length-append, add-zero, suc-mul}
use mathlib.Core.Option.{some, some-ne-none, some-injective}
use mathlib.Core.Logic.{dite}
use native.Mathlib.Decide.{ℕ_discrete}
use lib.ListN.{get_elem?}
use Rattle.actor_table.specs.declared.stamped_entry.StampedEntry.{StampedEntry}
use Rattle.actor_table.specs.Steps.{AreBelow}
use Rattle.actor_table.specs.History.{HistoryEntry, with_stamp, push, entries_from, entries_of}

pub no_elem : {A : Type 0} (k : ℕ) (a : A) → get_elem? [] k ≡ some a → ⊥
no_elem k a e = some-ne-none a (sym e)

pub get_lt : {A : Type 0} (l : List A) (k : ℕ) (a : A) → get_elem? l k ≡ some a → k < length l
get_lt [] k a e = absurd (some-ne-none a (sym e))
get_lt (x ∷ xs) zero a e = omega arith
get_lt (x ∷ xs) (suc k) a e = omega (arith, get_lt xs k a e)

pub get_there : {A : Type 0} (l : List A) (k : ℕ) → k < length l → (a : A) × (get_elem? l k ≡ some a)
get_there [] k h = absurd (omega arith)
get_there (x ∷ xs) zero h = (x, refl)
get_there (x ∷ xs) (suc k) h = get_there xs k (omega arith)

pub get_snoc : {A : Type 0} (l : List A) (a b : A) (k : ℕ) → get_elem? (l ++ a ∷ []) k ≡ some b → (get_elem? l k ≡ some b) ⊎ ((k ≡ length l) × (a ≡ b))
get_snoc [] a b zero e = inr (refl, some-injective a b e)
get_snoc [] a b (suc k) e = absurd (some-ne-none b (sym e))
get_snoc (x ∷ xs) a b zero e = inl e
get_snoc (x ∷ xs) a b (suc k) e = ⊎_elim (λ t. inl t) (λ t. inr (ap suc t.0, t.1)) (get_snoc xs a b k e)

pub append-none : {A : Type 0} (xs : List A) → xs ++ [] ≡ xs
append-none [] = refl
append-none (x ∷ xs) = ap (λ t. x ∷ t) (append-none xs)

pub eqb-true : (x y : ℕ) → eqb x y ≡ true → x ≡ y
eqb-true x y e = dite (ℕ_discrete x y) (λ q. q) (λ ne. let f : eqb x y ≡ false = ne_eqb x y ne in absurd (cc))

push-append : (b : Bool) (x : StampedEntry) (ys zs : List StampedEntry) → push b x (ys ++ zs) ≡ push b x ys ++ zs
push-append true x ys zs = refl
push-append false x ys zs = refl

entries_from-snoc : (n a : ℕ) (history : List HistoryEntry) (e : HistoryEntry) → entries_from n a (history ++ e ∷ []) ≡ entries_from n a history ++ push (eqb e.by a) (with_stamp (n + length history) e) []
entries_from-snoc n a [] e = ap (λ k. push (eqb e.by a) (with_stamp k e) []) (sym (add-zero n))
entries_from-snoc n a (x ∷ xs) e =
    let q : suc n + length xs ≡ n + suc (length xs) = omega arith in
    ap (push (eqb x.by a) (with_stamp n x)) (entries_from-snoc (suc n) a xs e)
    ∙ push-append (eqb x.by a) (with_stamp n x) (entries_from (suc n) a xs) (push (eqb e.by a) (with_stamp (suc n + length xs) e) [])
    ∙ ap (λ k. push (eqb x.by a) (with_stamp n x) (entries_from (suc n) a xs) ++ push (eqb e.by a) (with_stamp k e) []) q

pub entries_of-other : (a : ℕ) (history : List HistoryEntry) (e : HistoryEntry) → a ≢ e.by → entries_of a (history ++ e ∷ []) ≡ entries_of a history
entries_of-other a history e ne =
    entries_from-snoc 0 a history e
    ∙ ap (λ b. entries_of a history ++ push b (with_stamp (0 + length history) e) []) (ne_eqb e.by a (λ q. ne (sym q)))
    ∙ append-none (entries_of a history)

pub entries_of-mine : (history : List HistoryEntry) (e : HistoryEntry) → entries_of e.by (history ++ e ∷ []) ≡ entries_of e.by history ++ with_stamp (length history) e ∷ []
entries_of-mine history e =
    let q : 0 + length history ≡ length history = omega arith in
    entries_from-snoc 0 e.by history e
    ∙ ap (λ b. entries_of e.by history ++ push b (with_stamp (0 + length history) e) []) (eq-eqb e.by e.by refl)
    ∙ ap (λ k. entries_of e.by history ++ with_stamp k e ∷ []) q

pub entries_of-more : (a : ℕ) (history : List HistoryEntry) (e : HistoryEntry) → length (entries_of a history) ≤ length (entries_of a (history ++ e ∷ []))
entries_of-more a history e =
    let q = ap length (entries_from-snoc 0 a history e) in
    let f = length-append (entries_of a history) (push (eqb e.by a) (with_stamp (0 + length history) e) []) in
    omega (arith, q, f)

push-below : (b : Bool) (x : StampedEntry) (xs : List StampedEntry) (n : ℕ) → x.stamp < n → AreBelow n xs → AreBelow n (push b x xs)
push-below true x xs n h t = (h, t)
push-below false x xs n h t = t

entries_from-below : (n a m : ℕ) (history : List HistoryEntry) → n + length history ≤ m → AreBelow m (entries_from n a history)
entries_from-below n a m [] h = tt
entries_from-below n a m (x ∷ xs) h = push-below (eqb x.by a) (with_stamp n x) (entries_from (suc n) a xs) m (omega arith) (entries_from-below (suc n) a m xs (omega arith))

pub entries_of-below : (a : ℕ) (history : List HistoryEntry) → AreBelow (length history) (entries_of a history)
entries_of-below a history = entries_from-below 0 a (length history) history (omega arith)

-- ---- sums over the numbers below a bound

pub sum_to : ℕ → (ℕ → ℕ) → ℕ
sum_to zero f = 0
sum_to (suc k) f = sum_to k f + f k

pub sum_to-le : (k b : ℕ) (f : ℕ → ℕ) → ((a : ℕ) → f a ≤ b) → sum_to k f ≤ k * b
unfolding sum_to
sum_to-le zero b f h = omega arith
sum_to-le (suc k) b f h = omega (arith, sum_to-le k b f h, h k, suc-mul k b)

sum_to-mono : (k : ℕ) (f g : ℕ → ℕ) → ((a : ℕ) → f a ≤ g a) → sum_to k f ≤ sum_to k g
unfolding sum_to
sum_to-mono zero f g h = omega arith
sum_to-mono (suc k) f g h = omega (arith, sum_to-mono k f g h, h k)

pub sum_to-less : (k x : ℕ) (f g : ℕ → ℕ) → ((a : ℕ) → f a ≤ g a) → suc (f x) ≤ g x → x < k → suc (sum_to k f) ≤ sum_to k g
unfolding sum_to
sum_to-less zero x f g h s lt = absurd (omega arith)
sum_to-less (suc k) x f g h s lt = dite (ℕ_discrete x k)
    (λ e. let here : suc (f k) ≤ g k = subst (λ y. suc (f y) ≤ g y) e s in omega (arith, sum_to-mono k f g h, here))
    (λ ne. omega (arith, sum_to-less k x f g h s (omega arith), h k))

push-length : (b : Bool) (x : StampedEntry) (xs : List StampedEntry) → length xs ≤ length (push b x xs)
push-length true x xs = omega arith
push-length false x xs = omega arith

total : (n k : ℕ) (history : List HistoryEntry) → ((i : ℕ) (e : HistoryEntry) → get_elem? history i ≡ some e → e.by < k) → length history ≤ sum_to k (λ a. length (entries_from n a history))
total n k [] h = omega arith
total n k (x ∷ xs) h =
    let f : ℕ → ℕ = λ a. length (entries_from (suc n) a xs) in
    let g : ℕ → ℕ = λ a. length (entries_from n a (x ∷ xs)) in
    let up : (a : ℕ) → f a ≤ g a = λ a. push-length (eqb x.by a) (with_stamp n x) (entries_from (suc n) a xs) in
    let at : suc (f x.by) ≤ g x.by = rw (eq-eqb x.by x.by refl) (omega arith) in
    omega (arith, total (suc n) k xs (λ i e q. h (suc i) e q), sum_to-less k x.by f g up at (h 0 x refl))

-- the history is not longer than its actors' entries may be
pub length-bounded : (k b : ℕ) (history : List HistoryEntry) → ((i : ℕ) (e : HistoryEntry) → get_elem? history i ≡ some e → e.by < k) → ((a : ℕ) → length (entries_of a history) ≤ b) → length history ≤ k * b
length-bounded k b history h c = omega (arith, total 0 k history h, sum_to-le k b (λ a. length (entries_of a history)) c)

-- ---- where the entries of one actor stand

-- where an entry of one actor stands in the history
pub record Place (n a : ℕ) (history : List HistoryEntry) (x : StampedEntry) : Type 0 where
  pub at : ℕ
  pub entry : HistoryEntry
  pub there : get_elem? history at ≡ some entry
  pub by : entry.by ≡ a
  pub is : x ≡ with_stamp (n + at) entry

later : (n a : ℕ) (y : HistoryEntry) (ys : List HistoryEntry) (x : StampedEntry) → Place (suc n) a ys x → Place n a (y ∷ ys) x
later n a y ys x p = let q : suc n + p.at ≡ n + suc p.at = omega arith in
    record { at = suc p.at; entry = p.entry; there = p.there; by = p.by; is = p.is ∙ ap (λ k. with_stamp k p.entry) q }

pushed : (n a : ℕ) (y : HistoryEntry) (ys : List HistoryEntry) (b : Bool) → eqb y.by a ≡ b → (xs : List StampedEntry) → ((k : ℕ) (x : StampedEntry) → get_elem? xs k ≡ some x → Place (suc n) a ys x)
    → (k : ℕ) (x : StampedEntry) → get_elem? (push b (with_stamp n y) xs) k ≡ some x → Place n a (y ∷ ys) x
pushed n a y ys true q xs h zero x e =
    let z : n ≡ n + 0 = omega arith in
    record { at = 0; entry = y; there = refl; by = eqb-true y.by a q; is = sym (some-injective _ _ e) ∙ ap (λ k. with_stamp k y) z }
pushed n a y ys true q xs h (suc k) x e = later n a y ys x (h k x e)
pushed n a y ys false q xs h k x e = later n a y ys x (h k x e)

pub placed : (n a : ℕ) (history : List HistoryEntry) (k : ℕ) (x : StampedEntry) → get_elem? (entries_from n a history) k ≡ some x → Place n a history x
placed n a [] k x e = absurd (some-ne-none x (sym e))
placed n a (y ∷ ys) k x e = pushed n a y ys (eqb y.by a) refl (entries_from (suc n) a ys) (placed (suc n) a ys) k x e

pub stamp-placed : (n a : ℕ) (history : List HistoryEntry) (x : StampedEntry) (p : Place n a history x) → x.stamp ≡ n + p.at
stamp-placed n a history x p = ap (λ (e : StampedEntry). e.stamp) p.is

pushed-rises : (n : ℕ) (y : HistoryEntry) (b : Bool) (xs : List StampedEntry) → ((k : ℕ) (x : StampedEntry) → get_elem? xs k ≡ some x → n < x.stamp)
    → ((i l : ℕ) (e f : StampedEntry) → get_elem? xs i ≡ some e → get_elem? xs l ≡ some f → i < l → e.stamp < f.stamp)
    → (i l : ℕ) (e f : StampedEntry) → get_elem? (push b (with_stamp n y) xs) i ≡ some e → get_elem? (push b (with_stamp n y) xs) l ≡ some f → i < l → e.stamp < f.stamp
pushed-rises n y true xs above rises i zero e f p q lt = absurd (omega arith)
pushed-rises n y true xs above rises zero (suc l) e f p q lt =
    let first : e.stamp ≡ n = ap (λ (x : StampedEntry). x.stamp) (sym (some-injective _ _ p)) in
    omega (arith, first, above l f q)
pushed-rises n y true xs above rises (suc i) (suc l) e f p q lt = rises i l e f p q (omega arith)
pushed-rises n y false xs above rises i l e f p q lt = rises i l e f p q lt

-- the stamps of one actor rise
pub entries_from-rises : (n a : ℕ) (history : List HistoryEntry) (i l : ℕ) (e f : StampedEntry) → get_elem? (entries_from n a history) i ≡ some e → get_elem? (entries_from n a history) l ≡ some f → i < l → e.stamp < f.stamp
entries_from-rises n a [] i l e f p q lt = absurd (no_elem i e p)
entries_from-rises n a (y ∷ ys) i l e f p q lt =
    pushed-rises n y (eqb y.by a) (entries_from (suc n) a ys)
    (λ k x r. let w = placed (suc n) a ys k x r in omega (arith, stamp-placed (suc n) a ys x w))
    (entries_from-rises (suc n) a ys) i l e f p q lt

-- an entry stands among the entries of its actor
pub record Among (own : List StampedEntry) (e : StampedEntry) : Type 0 where
  pub place : ℕ
  pub there : get_elem? own place ≡ some e

push-head : (b : Bool) (x : StampedEntry) (xs : List StampedEntry) → b ≡ true → Among (push b x xs) x
push-head true x xs e = record { place = 0; there = refl }
push-head false x xs e = absurd (cc)

push-tail : (b : Bool) (x : StampedEntry) (xs : List StampedEntry) (a : StampedEntry) → Among xs a → Among (push b x xs) a
push-tail true x xs a s = record { place = suc s.place; there = s.there }
push-tail false x xs a s = s

pub among : (n k : ℕ) (history : List HistoryEntry) (e : HistoryEntry) → get_elem? history k ≡ some e → Among (entries_from n e.by history) (with_stamp (n + k) e)
among n k [] e q = absurd (some-ne-none e (sym q))
among n zero (x ∷ xs) e q =
    let same : x ≡ e = some-injective x e q in
    let z : n ≡ n + 0 = omega arith in
    subst (λ (y : HistoryEntry). Among (entries_from n y.by (x ∷ xs)) (with_stamp (n + 0) y)) same
    (subst (λ i. Among (entries_from n x.by (x ∷ xs)) (with_stamp i x)) z (push-head (eqb x.by x.by) (with_stamp n x) (entries_from (suc n) x.by xs) (eq-eqb x.by x.by refl)))
among n (suc k) (x ∷ xs) e q =
    let z : suc n + k ≡ n + suc k = omega arith in
    push-tail (eqb x.by e.by) (with_stamp n x) (entries_from (suc n) e.by xs) (with_stamp (n + suc k) e) (subst (λ i. Among (entries_from (suc n) e.by xs) (with_stamp i e)) z (among (suc n) k xs e q))

-- The positions of records that a search finds, at the transactions that are asked for.
use Rattle.std.proofs.Common.{◌≡◌, ℕ, ◌+◌, ◌<◌, Bool, true, false, ◌&&◌, ◌||◌, not, List, [], ◌∷◌, Option, Some, length, refl, sym, ap, ◌∙◌, arith, nat_eq, take, get_or}
use Rattle.std.specs.Prelude.{filter, cond, is_some}
use Rattle.std.specs.List.{list_any}
use Rattle.std.specs.BTreeSet.{BTreeSet, contains}
use Rattle.std.specs.BTreeMap.{is_at}
use Rattle.std.specs.BTreeMap.Range.{range_contains, entries_between}
use Rattle.std.specs.Ordering.{nat_cmp, is_le}
use Rattle.std.specs.declared.ops.Bound.TheVariants.{Included, Excluded}
use Rattle.std.proofs.lemmas.List.Folds.{list_any_more}
use Rattle.std.proofs.lemmas.Bool.Decides.{nat_tests}
use Rattle.doc_path.specs.Path.{Parts}
use Rattle.intent_records.specs.declared.path_range.PathRange.{PathRange}
use Rattle.intent_records.specs.declared.primary_record.PrimaryRecord.{PrimaryRecord}
use Rattle.intent_records.specs.declared.record_key.RecordKey.{RecordKey}
use Rattle.intent_records.specs.Keys.{key_order}
use Rattle.intent_records.specs.Search.{between, near, near_any, in_any}
use Rattle.intent_records.specs.Related.{has_place, placed, Has, Adds}
use Rattle.intent_records.proofs.Between.{is_eq-nat_cmp, keys_between}
use Rattle.intent_records.proofs.Told.{set-turn}

abbrev Records : Type 0
Records = List (RecordKey × PrimaryRecord)

abbrev Placing : Type 0
Placing = ℕ → Option (BTreeSet ℕ)

-- the record is the one at this position of the transaction
abbrev pub at_place : ℕ → ℕ → RecordKey → Bool
at_place x i k = nat_eq k.txn x && nat_eq k.position i

-- ---- records on some paths

pub placed-or : (f g : Parts → Bool) (x i : ℕ) (es : Records) → placed (λ q. f q || g q) x i es ≡ (placed f x i es || placed g x i es)
placed-or f g x i [] = refl
placed-or f g x i (e ∷ es) =
    by (f e.0.path) (g e.0.path) (at_place x i e.0) (placed f x i es) (placed g x i es) (placed (λ q. f q || g q) x i es) (placed-or f g x i es)
  where
    swapped : (p q : Bool) → (true || (p || q)) ≡ (p || (true || q))
    swapped true q = refl
    swapped false q = refl

    by : (a b c p q r : Bool) → r ≡ (p || q) → (((a || b) && c) || r) ≡ (((a && c) || p) || ((b && c) || q))
    by true b true p q r h = refl
    by false true true p q r h = swapped p q
    by false false c p q r h = h
    by true true false p q r h = h
    by true false false p q r h = h
    by false true false p q r h = h

pub placed-same : (f g : Parts → Bool) → ((q : Parts) → f q ≡ g q) → (x i : ℕ) (es : Records) → placed f x i es ≡ placed g x i es
placed-same f g same x i [] = refl
placed-same f g same x i (e ∷ es) =
    ap (λ b. (b && at_place x i e.0) || placed f x i es) (same e.0.path)
    ∙ ap (λ b. (g e.0.path && at_place x i e.0) || b) (placed-same f g same x i es)

pub placed-none : (f : Parts → Bool) → ((q : Parts) → f q ≡ false) → (x i : ℕ) (es : Records) → placed f x i es ≡ false
placed-none f none x i [] = refl
placed-none f none x i (e ∷ es) = ap (λ b. (b && at_place x i e.0) || placed f x i es) (none e.0.path) ∙ placed-none f none x i es

-- what all of a part are, which has just the records on some paths
placed-filter : (t : RecordKey → Bool) (f : Parts → Bool) → ((k : RecordKey) → t k ≡ f k.path) → (x i : ℕ) (es : Records)
    → placed (λ q. true) x i (filter (λ (e : RecordKey × PrimaryRecord). t e.0) es) ≡ placed f x i es
placed-filter t f same x i [] = refl
placed-filter t f same x i (e ∷ es) =
    by (placed-filter t f same x i es) (t e.0) ∙ ap (λ b. (b && at_place x i e.0) || placed f x i es) (same e.0)
  where
    by : placed (λ q. true) x i (filter (λ (e : RecordKey × PrimaryRecord). t e.0) es) ≡ placed f x i es
        → (b : Bool) → placed (λ q. true) x i (cond b (e ∷ filter (λ (e : RecordKey × PrimaryRecord). t e.0) es) (filter (λ (e : RecordKey × PrimaryRecord). t e.0) es))
        ≡ ((b && at_place x i e.0) || placed f x i es)
    by rest true = ap (λ b. at_place x i e.0 || b) rest
    by rest false = rest

placed-range : (first end : Parts) (a b : RecordKey) (x i : ℕ) (part es : Records)
    → a ≡ record { path = first; txn = 0; position = 0 } → b ≡ record { path = end; txn = 0; position = 0 }
    → part ≡ entries_between key_order (Included a) (Excluded b) es
    → placed (λ q. true) x i part ≡ placed (between first end) x i es
placed-range first end a b x i part es from to is =
    ap (placed (λ q. true) x i) is
    ∙ placed-filter (λ k. range_contains key_order (Included a) (Excluded b) k) (between first end)
    (λ k. ap (λ c. is_le (key_order c k) && not (is_le (key_order b k))) from
    ∙ ap (λ c. is_le (key_order (record { path = first; txn = 0; position = 0 }) k) && not (is_le (key_order c k))) to
    ∙ keys_between first end k)
    x i es

-- ---- positions are added

pub adds-none : (s : Placing) → Adds (λ x i. false) s s
adds-none s = record { asks = λ x. refl; has = λ x i. by (has_place (s x) i) (is_some (s x)) }
  where
    by : (a b : Bool) → a ≡ (a || (b && false))
    by true b = refl
    by false true = refl
    by false false = refl

pub adds-then : (f g : ℕ → ℕ → Bool) (s t u : Placing) → Adds f s t → Adds g t u → Adds (λ x i. f x i || g x i) s u
adds-then f g s t u first more = record {
  asks = λ x. more.asks x ∙ first.asks x;
  has = λ x i.
      more.has x i
      ∙ ap (λ b. has_place (t x) i || (b && g x i)) (first.asks x)
      ∙ ap (λ b. b || (is_some (s x) && g x i)) (first.has x i)
      ∙ by (has_place (s x) i) (is_some (s x)) (f x i) (g x i);
}
  where
    by : (a b c d : Bool) → ((a || (b && c)) || (b && d)) ≡ (a || (b && (c || d)))
    by true b c d = refl
    by false true c d = refl
    by false false c d = refl

pub adds-same : (f g : ℕ → ℕ → Bool) (s t : Placing) → ((x i : ℕ) → f x i ≡ g x i) → Adds f s t → Adds g s t
adds-same f g s t same adds = record {
  asks = adds.asks;
  has = λ x i. adds.has x i ∙ ap (λ b. has_place (s x) i || (is_some (s x) && b)) (same x i);
}

-- the position of one record, where its transaction is asked for
pub adds-place : (k : RecordKey) (s t : Placing) (positions after : BTreeSet ℕ) → s k.txn ≡ Some positions
    → ((x : ℕ) → t x ≡ cond (is_at (nat_cmp k.txn) x) (Some after) (s x))
    → ((i : ℕ) → contains nat_cmp after i ≡ cond (is_at (nat_cmp k.position) i) true (contains nat_cmp positions i))
    → Adds (λ x i. nat_eq k.txn x && nat_eq k.position i) s t
adds-place k s t positions after some written added = record {
  asks = λ x. ap is_some (written x ∙ ap (λ b. cond b (Some after) (s x)) (is_eq-nat_cmp k.txn x)) ∙ asks_by x (nat_eq k.txn x) refl;
  has = λ x i. ap (λ o. has_place o i) (written x ∙ ap (λ b. cond b (Some after) (s x)) (is_eq-nat_cmp k.txn x)) ∙ has_by x i (nat_eq k.txn x) refl;
}
  where
    same_number : (m n : ℕ) → nat_eq m n ≡ true → m ≡ n
    same_number m n h = grind (arith, nat_tests, h)

    some_at : (x : ℕ) → nat_eq k.txn x ≡ true → s x ≡ Some positions
    some_at x h = ap s (sym (same_number k.txn x h)) ∙ some

    asks_by : (x : ℕ) (b : Bool) → nat_eq k.txn x ≡ b → is_some (cond b (Some after) (s x)) ≡ is_some (s x)
    asks_by x true h = sym (ap is_some (some_at x h))
    asks_by x false h = refl

    turned : (b c : Bool) → cond b true c ≡ (c || (true && b))
    turned true true = refl
    turned true false = refl
    turned false true = refl
    turned false false = refl

    unchanged : (a b : Bool) → a ≡ (a || (b && false))
    unchanged true b = refl
    unchanged false true = refl
    unchanged false false = refl

    has_by : (x i : ℕ) (b : Bool) → nat_eq k.txn x ≡ b → has_place (cond b (Some after) (s x)) i ≡ (has_place (s x) i || (is_some (s x) && (b && nat_eq k.position i)))
    has_by x i true h =
        added i
        ∙ ap (λ b. cond b true (contains nat_cmp positions i)) (is_eq-nat_cmp k.position i)
        ∙ turned (nat_eq k.position i) (contains nat_cmp positions i)
        ∙ ap (λ o. has_place o i || (is_some o && nat_eq k.position i)) (sym (some_at x h))
    has_by x i false h = unchanged (has_place (s x) i) (is_some (s x))

-- ---- a search in a part of the records

-- what is added by the rest of the records makes up what all add
abbrev pub AddsRest : (ℕ → ℕ → Bool) → Records → Placing → Placing → Type 0
AddsRest all rest before now = (after : Placing) → Adds (λ x i. placed (λ q. true) x i rest) now after → Adds all before after

pub rest-start : (first end : Parts) (a b : RecordKey) (part es : Records) (s : Placing)
    → a ≡ record { path = first; txn = 0; position = 0 } → b ≡ record { path = end; txn = 0; position = 0 }
    → part ≡ entries_between key_order (Included a) (Excluded b) es
    → AddsRest (λ x i. placed (between first end) x i es) part s s
rest-start first end a b part es s from to is after adds =
    adds-same (λ x i. placed (λ q. true) x i part) (λ x i. placed (between first end) x i es) s after
    (λ x i. placed-range first end a b x i part es from to is) adds

pub rest-next : (all : ℕ → ℕ → Bool) (k : RecordKey) (r : PrimaryRecord) (rest es : Records) (s t u : Placing) → es ≡ (k, r) ∷ rest
    → Adds (λ x i. nat_eq k.txn x && nat_eq k.position i) t u → AddsRest all es s t → AddsRest all rest s u
rest-next all k r rest es s t u whole one before after adds =
    before after (
    adds-same (λ x i. at_place x i k || placed (λ q. true) x i rest) (λ x i. placed (λ q. true) x i es) t after
    (λ x i. ap (placed (λ q. true) x i) (sym whole))
    (adds-then (λ x i. at_place x i k) (λ x i. placed (λ q. true) x i rest) t u after one adds)
    )

pub rest-end : (all : ℕ → ℕ → Bool) (es : Records) (s t : Placing) → es ≡ [] → AddsRest all es s t → Adds all s t
rest-end all es s t done before =
    before t (adds-same (λ x i. false) (λ x i. placed (λ q. true) x i es) t t (λ x i. ap (placed (λ q. true) x i) (sym done)) (adds-none t))

-- one more of some sets of paths
placed-some_more : {A : Type 0} (on : A → Parts → Bool) (xs : List A) (n : ℕ) (a : A) (x i : ℕ) (es : Records) → n < length xs → a ≡ get_or xs n a
    → (placed (λ q. list_any (λ b. on b q) (take n xs)) x i es || placed (on a) x i es) ≡ placed (λ q. list_any (λ b. on b q) (take (n + 1) xs)) x i es
placed-some_more on xs n a x i es within is =
    sym (placed-or (λ q. list_any (λ b. on b q) (take n xs)) (on a) x i es)
    ∙ placed-same (λ q. list_any (λ b. on b q) (take n xs) || on a q) (λ q. list_any (λ b. on b q) (take (n + 1) xs))
    (λ q. ap (λ b. list_any (λ b. on b q) (take n xs) || on b q) is ∙ sym (list_any_more (λ b. on b q) xs n a within)) x i es

-- nothing is added for no ranges
pub adds-start : (ranges : List PathRange) (es : Records) (s : Placing) → Adds (λ x i. placed (in_any (take 0 ranges)) x i es) s s
adds-start ranges es s =
    adds-same (λ x i. false) (λ x i. placed (in_any (take 0 ranges)) x i es) s s (λ x i. sym (placed-none (in_any (take 0 ranges)) (λ q. refl) x i es)) (adds-none s)

-- one more of some ranges
pub adds-range_more : (ranges : List PathRange) (n : ℕ) (range : PathRange) (es : Records) (s t u : Placing) → n < length ranges → range ≡ get_or ranges n range
    → Adds (λ x i. placed (in_any (take n ranges)) x i es) s t
    → Adds (λ x i. placed (between range.first range.end) x i es) t u
    → Adds (λ x i. placed (in_any (take (n + 1) ranges)) x i es) s u
adds-range_more ranges n range es s t u within is so_far more =
    adds-same (λ x i. placed (in_any (take n ranges)) x i es || placed (between range.first range.end) x i es) (λ x i. placed (in_any (take (n + 1) ranges)) x i es) s u
    (λ x i. placed-some_more (λ (r : PathRange). between r.first r.end) ranges n range x i es within is)
    (adds-then (λ x i. placed (in_any (take n ranges)) x i es) (λ x i. placed (between range.first range.end) x i es) s t u so_far more)

-- all ranges together are the paths near a path
pub adds-all : (ranges : List PathRange) (n : ℕ) (path : Parts) (es : Records) (s t : Placing) → take n ranges ≡ ranges → ((q : Parts) → in_any ranges q ≡ near path q)
    → Adds (λ x i. placed (in_any (take n ranges)) x i es) s t → Adds (λ x i. placed (near path) x i es) s t
adds-all ranges n path es s t whole related adds =
    adds-same (λ x i. placed (in_any (take n ranges)) x i es) (λ x i. placed (near path) x i es) s t
    (λ x i. ap (λ l. placed (in_any l) x i es) whole ∙ placed-same (in_any ranges) (near path) related x i es) adds

-- ---- what the transactions that are asked for have

pub has-same : (asked : ℕ → Bool) (f g : ℕ → ℕ → Bool) (s : Placing) → ((x i : ℕ) → f x i ≡ g x i) → Has asked f s → Has asked g s
has-same asked f g s same h = record { asks = h.asks; has = λ x i. h.has x i ∙ ap (λ b. asked x && b) (same x i) }

-- the records on no paths
pub has-start : (asked : ℕ → Bool) (paths : List Parts) (es : Records) (s : Placing) → Has asked (λ x i. false) s → Has asked (λ x i. placed (near_any (take 0 paths)) x i es) s
has-start asked paths es s h =
    has-same asked (λ x i. false) (λ x i. placed (near_any (take 0 paths)) x i es) s (λ x i. sym (placed-none (near_any (take 0 paths)) (λ q. refl) x i es)) h

-- one more of some paths
pub has-more : (asked : ℕ → Bool) (paths : List Parts) (n : ℕ) (path : Parts) (es : Records) (s t : Placing)
    → n < length paths → path ≡ get_or paths n path
    → Has asked (λ x i. placed (near_any (take n paths)) x i es) s
    → Adds (λ x i. placed (near path) x i es) s t
    → Has asked (λ x i. placed (near_any (take (n + 1) paths)) x i es) t
has-more asked paths n path es s t within is so_far more = record {
  asks = λ x. more.asks x ∙ so_far.asks x;
  has = λ x i.
      more.has x i
      ∙ ap (λ b. has_place (s x) i || (b && placed (near path) x i es)) (so_far.asks x)
      ∙ ap (λ b. b || (asked x && placed (near path) x i es)) (so_far.has x i)
      ∙ by (asked x) (placed (near_any (take n paths)) x i es) (placed (near path) x i es)
      ∙ ap (λ b. asked x && b) (placed-some_more near paths n path x i es within is);
}
  where
    by : (a b c : Bool) → ((a && b) || (a && c)) ≡ (a && (b || c))
    by true b c = refl
    by false b c = refl

-- ---- one more transaction that is asked for, which has nothing yet

pub asked-more : (s t : Placing) (k : ℕ) (empty : BTreeSet ℕ) (rest keys : List ℕ) (x : ℕ) → keys ≡ k ∷ rest
    → t x ≡ cond (is_at (nat_cmp k) x) (Some empty) (s x)
    → (is_some (t x) || list_any (is_at (nat_cmp x)) rest) ≡ (is_some (s x) || list_any (is_at (nat_cmp x)) keys)
asked-more s t k empty rest keys x whole written =
    set-turn x k (is_some (s x)) (is_some (t x)) rest keys whole (ap is_some written ∙ by (is_at (nat_cmp k) x) (s x))
  where
    by : (b : Bool) (o : Option (BTreeSet ℕ)) → is_some (cond b (Some empty) o) ≡ cond b true (is_some o)
    by true o = refl
    by false o = refl

pub nothing-more : (s t : Placing) (k : ℕ) (empty : BTreeSet ℕ) (x i : ℕ) → empty.keys ≡ []
    → t x ≡ cond (is_at (nat_cmp k) x) (Some empty) (s x) → has_place (s x) i ≡ false → has_place (t x) i ≡ false
nothing-more s t k empty x i none written before = ap (λ o. has_place o i) written ∙ by (is_at (nat_cmp k) x)
  where
    by : (b : Bool) → has_place (cond b (Some empty) (s x)) i ≡ false
    by true = ap (list_any (is_at (nat_cmp i))) none
    by false = before

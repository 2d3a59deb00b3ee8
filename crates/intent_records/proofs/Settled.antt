-- A search that goes from record to record, and behind all records of a transaction at a path once it is settled there.
use Rattle.std.proofs.Common.{◌≡◌, ℕ, ◌<◌, ◌≤◌, Bool, true, false, ◌&&◌, ◌||◌, not, List, [], ◌∷◌, Option, Some, length, refl, sym, ap, subst, ◌∙◌, arith, nat_eq, All}
use Rattle.std.specs.Prelude.{filter, cond}
use Rattle.std.specs.List.{AllByRecursion}
use Rattle.std.specs.List.Sorted.{IsStrictlySortedBy}
use Rattle.std.specs.Map.{keys_of}
use Rattle.std.specs.BTreeMap.Range.{range_contains, entries_between, is_from_start, is_past_end}
use Rattle.std.specs.declared.cmp.Ordering.{Ordering}
use Rattle.std.specs.declared.cmp.Ordering.TheVariants.{Less, Equal, Greater}
use Rattle.std.specs.declared.ops.Bound.{Bound}
use Rattle.std.specs.declared.ops.Bound.TheVariants.{Included, Excluded, Unbounded}
use Rattle.std.specs.Ordering.{is_le, is_lt, is_gt, nat_cmp, ordering_then, ordering_reverse}
use Rattle.std.proofs.lemmas.Bool.Decides.{nat_tests}
use Rattle.std.proofs.lemmas.Cmp.{tied_itself, upto}
use Rattle.std.proofs.lemmas.List.Elements.{All-head, filter_passes}
use Rattle.std.proofs.lemmas.List.Kept.{IsStrictlySortedBy-filter}
use Rattle.std.proofs.lemmas.Map.Keys.{sorted_head}
use Rattle.std.proofs.lemmas.Map.Lookups.{exact_unsigned}
use Rattle.doc_path.specs.Path.{Parts, path_order}
use Rattle.txn_types.specs.Tablet.{is_own}
use Rattle.intent_records.specs.declared.primary_record.PrimaryRecord.{PrimaryRecord}
use Rattle.intent_records.specs.declared.record_key.RecordKey.{RecordKey}
use Rattle.intent_records.specs.KeyOrder.{path_order_total, key_order_total}
use Rattle.intent_records.specs.Keys.{key_order}
use Rattle.intent_records.specs.Search.{asks, settles, hit, in_time}

-- the greatest key of its transaction on its path, where positions go up to m
abbrev pub last_alike : ℕ → RecordKey → RecordKey
last_alike m k = record { path = k.path; txn = k.txn; position = m }

-- the records whose keys pass
abbrev those : (RecordKey → Bool) → List (RecordKey × PrimaryRecord) → List (RecordKey × PrimaryRecord)
those t es = filter (λ (e : RecordKey × PrimaryRecord). t e.0) es

-- the records behind it
abbrev behind : ℕ → RecordKey → List (RecordKey × PrimaryRecord) → List (RecordKey × PrimaryRecord)
behind m k es = those (λ q. is_lt (key_order (last_alike m k) q)) es

-- ---- the order of the keys

-- a key after another that is not behind the last one alike is of the same transaction
alike : (m : ℕ) (k q : RecordKey) → key_order k q ≡ Less → is_lt (key_order (last_alike m k) q) ≡ false → k.txn ≡ q.txn
alike m k q after within = by (path_order k.path q.path) (nat_cmp k.txn q.txn) (exact_unsigned k.txn q.txn) (nat_cmp k.position q.position) (nat_cmp m q.position) after within
  where
    by : (o p : Ordering) → (p ≡ Equal → k.txn ≡ q.txn) → (r s : Ordering) → ordering_then o (ordering_then p r) ≡ Less → is_lt (ordering_then o (ordering_then p s)) ≡ false → k.txn ≡ q.txn
    by Less p same r s h g = cc
    by Equal Less same r s h g = cc
    by Equal Equal same r s h g = same refl
    by Equal Greater same r s h g = cc
    by Greater p same r s h g = cc

-- a key is not behind the last one alike
not_behind : (m : ℕ) (k : RecordKey) → k.position ≤ m → is_lt (key_order (last_alike m k) k) ≡ false
not_behind m k within =
    rw (tied_itself path_order_total k.path) (by (nat_cmp k.txn k.txn) (same k.txn) (nat_cmp m k.position) (most m k.position within))
  where
    same : (n : ℕ) → is_lt (nat_cmp n n) ≡ false
    same n = grind (arith, nat_tests)

    most : (a b : ℕ) → b ≤ a → is_lt (nat_cmp a b) ≡ false
    most a b h = grind (arith, nat_tests)

    by : (o : Ordering) → is_lt o ≡ false → (r : Ordering) → is_lt r ≡ false → is_lt (ordering_then o r) ≡ false
    by Less g r h = g
    by Equal g r h = h
    by Greater g r h = refl

-- a key behind the last one alike is after the key
after_behind : (m : ℕ) (k q : RecordKey) → k.position ≤ m → is_lt (key_order (last_alike m k) q) ≡ true → key_order k q ≡ Less
after_behind m k q within behind =
    by (path_order k.path q.path) (nat_cmp k.txn q.txn) (nat_cmp k.position q.position) (nat_cmp m q.position) (less k.position m q.position within) behind
  where
    less : (a b c : ℕ) → a ≤ b → is_lt (nat_cmp b c) ≡ true → nat_cmp a c ≡ Less
    less a b c h g = grind (arith, nat_tests)

    by : (o p r s : Ordering) → (is_lt s ≡ true → r ≡ Less) → is_lt (ordering_then o (ordering_then p s)) ≡ true → ordering_then o (ordering_then p r) ≡ Less
    by Less p r s h g = refl
    by Equal Less r s h g = refl
    by Equal Equal r s h g = h g
    by Equal Greater r s h g = cc
    by Greater p r s h g = cc

lt_is : (o : Ordering) → is_lt o ≡ true → o ≡ Less
lt_is Less h = refl
lt_is Equal h = cc
lt_is Greater h = cc

le_from_gt : (o : Ordering) → is_gt o ≡ false → is_le o ≡ true
le_from_gt Less h = refl
le_from_gt Equal h = refl
le_from_gt Greater h = cc

gt_from_le : (o : Ordering) → is_le o ≡ true → is_gt o ≡ false
gt_from_le Less h = refl
gt_from_le Equal h = refl
gt_from_le Greater h = cc

-- what comes after a key within a start is within it
from_start : (from : Bound RecordKey) (k q : RecordKey) → is_from_start key_order from k ≡ true → key_order k q ≡ Less → is_from_start key_order from q ≡ true
from_start (Included a) k q h less =
    le_from_gt (key_order a q) (upto key_order_total a k q (gt_from_le (key_order a k) h) (ap is_gt less))
from_start (Excluded a) k q h less =
    ap is_lt (key_order_total.trans a k q (lt_is (key_order a k) h) less)
from_start Unbounded k q h less = refl

-- ---- a part of the records

and_true : (b : Bool) → (b && true) ≡ b
and_true true = refl
and_true false = refl

and_false : (b : Bool) → (b && false) ≡ false
and_false true = refl
and_false false = refl

asks-settles : (own_txn until : Option ℕ) (x wrote : ℕ) → asks own_txn until x wrote ≡ (not (is_own own_txn x) && settles own_txn until x wrote)
asks-settles own_txn until x wrote = by (is_own own_txn x) (in_time until wrote)
  where
    by : (a t : Bool) → (not a && t) ≡ (not a && (a || t))
    by true t = refl
    by false t = refl

-- the transaction, if it is not left aside
abbrev told : Option ℕ → ℕ → ℕ → Bool
told own_txn x n = not (is_own own_txn n) && nat_eq n x

-- what is passed over behind a record, of its transaction at its path, tells of no other transaction
alike-found : (m : ℕ) (own_txn until : Option ℕ) (x : ℕ) (k : RecordKey) (es : List (RecordKey × PrimaryRecord)) → AllByRecursion (λ (q : RecordKey). key_order k q ≡ Less) (keys_of es)
    → (told own_txn x k.txn || hit (λ q. true) own_txn until x es)
    ≡ (told own_txn x k.txn || hit (λ q. true) own_txn until x (behind m k es))
alike-found m own_txn until x k [] after = refl
alike-found m own_txn until x k (e ∷ es) after = by (alike-found m own_txn until x k es after.1) (is_lt (key_order (last_alike m k) e.0)) refl
  where
    more : (c h a b : Bool) → (c || a) ≡ (c || b) → (c || (h || a)) ≡ (c || (h || b))
    more true h a b is = refl
    more false true a b is = refl
    more false false a b is = is

    same : (own in_time is : Bool) (a b : Bool) → ((not own && is) || a) ≡ ((not own && is) || b) → ((not own && is) || (((not own && in_time) && is) || a)) ≡ ((not own && is) || b)
    same true t i a b h = h
    same false t true a b h = refl
    same false true false a b h = h
    same false false false a b h = h

    by : (told own_txn x k.txn || hit (λ q. true) own_txn until x es) ≡ (told own_txn x k.txn || hit (λ q. true) own_txn until x (behind m k es))
        → (b : Bool) → is_lt (key_order (last_alike m k) e.0) ≡ b
        → (told own_txn x k.txn || hit (λ q. true) own_txn until x (e ∷ es)) ≡ (told own_txn x k.txn || hit (λ q. true) own_txn until x (cond b (e ∷ behind m k es) (behind m k es)))
    by rest true is = more (told own_txn x k.txn) (asks own_txn until e.0.txn e.1.wrote && nat_eq e.0.txn x) _ _ rest
    by rest false is =
        let P : ℕ → Type 0 = λ n. (told own_txn x k.txn || ((asks own_txn until n e.1.wrote && nat_eq n x) || hit (λ q. true) own_txn until x es)) ≡ (told own_txn x k.txn || hit (λ q. true) own_txn until x (behind m k es)) in
        subst P (alike m k e.0 after.0 is) (same (is_own own_txn k.txn) (in_time until e.1.wrote) (nat_eq k.txn x) _ _ rest)

-- ---- the next part

filter-twice : (s t u : RecordKey → Bool) → ((q : RecordKey) → (s q && t q) ≡ u q) → (es : List (RecordKey × PrimaryRecord))
    → those s (those t es) ≡ those u es
filter-twice s t u both [] = refl
filter-twice s t u both (e ∷ es) = by (t e.0) (both e.0) ∙ ap (λ l. cond (u e.0) (e ∷ l) l) (filter-twice s t u both es)
  where
    by : (b : Bool) → (s e.0 && b) ≡ u e.0
        → those s (cond b (e ∷ those t es) (those t es))
        ≡ cond (u e.0) (e ∷ those s (those t es)) (those s (those t es))
    by true is = ap (λ c. cond c (e ∷ those s (those t es)) (those s (those t es))) (sym (and_true (s e.0)) ∙ is)
    by false is = ap (λ c. cond c (e ∷ those s (those t es)) (those s (those t es))) (sym (and_false (s e.0)) ∙ is)

-- of a part that begins at k or before it, what is behind a key that is not before k
next-part : (last k : RecordKey) (from hi : Bound RecordKey) (es : List (RecordKey × PrimaryRecord)) → ((q : RecordKey) → is_lt (key_order last q) ≡ true → key_order k q ≡ Less) → is_from_start key_order from k ≡ true
    → those (λ q. is_lt (key_order last q)) (entries_between key_order from hi es) ≡ entries_between key_order (Excluded last) hi es
next-part last k from hi es later start =
    filter-twice (λ q. is_lt (key_order last q)) (λ q. range_contains key_order from hi q) (λ q. range_contains key_order (Excluded last) hi q)
    (λ q. by (is_lt (key_order last q)) (is_from_start key_order from q) (not (is_past_end key_order hi q)) (λ lt. from_start from k q start (later q lt))) es
  where
    by : (a b c : Bool) → (a ≡ true → b ≡ true) → (a && (b && c)) ≡ (a && c)
    by true b c h = ap (λ d. d && c) (h refl)
    by false b c h = refl

keys-filter : (t : RecordKey → Bool) (es : List (RecordKey × PrimaryRecord)) → keys_of (those t es) ≡ filter t (keys_of es)
keys-filter t [] = refl
keys-filter t (e ∷ es) = by (t e.0) ∙ ap (λ l. cond (t e.0) (e.0 ∷ l) l) (keys-filter t es)
  where
    by : (b : Bool) → keys_of (cond b (e ∷ those t es) (those t es))
        ≡ cond b (e.0 ∷ keys_of (those t es)) (keys_of (those t es))
    by true = refl
    by false = refl

sorted-part : (from hi : Bound RecordKey) (es : List (RecordKey × PrimaryRecord)) → IsStrictlySortedBy key_order (keys_of es) → IsStrictlySortedBy key_order (keys_of (entries_between key_order from hi es))
sorted-part from hi es sorted =
    subst (IsStrictlySortedBy key_order) (sym (keys-filter (λ q. range_contains key_order from hi q) es))
    (IsStrictlySortedBy-filter key_order (λ q. range_contains key_order from hi q) (keys_of es) sorted)

-- the first record of a part lies in it
head-in : (t : RecordKey → Bool) (e : RecordKey × PrimaryRecord) (rest es : List (RecordKey × PrimaryRecord)) → those t es ≡ e ∷ rest → t e.0 ≡ true
head-in t e rest es is = All-head (λ (q : RecordKey × PrimaryRecord). t q.0 ≡ true) e rest (subst (All (λ (q : RecordKey × PrimaryRecord). t q.0 ≡ true)) is (filter_passes (λ (q : RecordKey × PrimaryRecord). t q.0) es))

-- records that all come after a key are all behind it
all-after : (k : RecordKey) (es : List (RecordKey × PrimaryRecord)) → AllByRecursion (λ (q : RecordKey). key_order k q ≡ Less) (keys_of es) → those (λ q. is_lt (key_order k q)) es ≡ es
all-after k [] after = refl
all-after k (e ∷ es) after =
    ap (λ b. cond b (e ∷ those (λ q. is_lt (key_order k q)) es) (those (λ q. is_lt (key_order k q)) es)) (ap is_lt after.0)
    ∙ ap (λ l. e ∷ l) (all-after k es after.1)

no_longer : (t : RecordKey → Bool) (es : List (RecordKey × PrimaryRecord)) → length (those t es) ≤ length es
no_longer t [] = omega arith
no_longer t (e ∷ es) = by (t e.0) (no_longer t es)
  where
    by : (b : Bool) → length (those t es) ≤ length es → length (cond b (e ∷ those t es) (those t es)) ≤ length (e ∷ es)
    by true rest = omega arith
    by false rest = omega arith

-- ---- the search

-- from some key on the search has not looked yet: what was found and what is to be found in the rest are all that there is;
-- and the transaction that was settled last was told of, unless it is left aside
pub record GotTo (own_txn until : Option ℕ) (end : RecordKey) (es : List (RecordKey × PrimaryRecord)) (all found : ℕ → Bool) (settled : Option RecordKey) (rest : List (RecordKey × PrimaryRecord)) : Type 0 where
  pub from : Bound RecordKey
  pub rest_is : rest ≡ entries_between key_order from (Excluded end) es
  pub tells : (x : ℕ) → (found x || hit (λ q. true) own_txn until x rest) ≡ all x
  pub told_of : (k : RecordKey) → settled ≡ Some k → (x : ℕ) → told own_txn x k.txn ≡ true → found x ≡ true

or_false : (a : Bool) → (a || false) ≡ a
or_false true = refl
or_false false = refl

module _ (own_txn until : Option ℕ) (end : RecordKey) (es : List (RecordKey × PrimaryRecord)) (all found : ℕ → Bool) (settled : Option RecordKey) where
  pub got-all : GotTo own_txn until end es all found settled [] → (x : ℕ) → found x ≡ all x
  got-all got x = sym (or_false (found x)) ∙ got.tells x

  module _ (e : RecordKey × PrimaryRecord) (rest part : List (RecordKey × PrimaryRecord)) (sorted : IsStrictlySortedBy key_order (keys_of es)) (first : part ≡ e ∷ rest)
      (before : GotTo own_txn until end es all found settled part) where
    got : GotTo own_txn until end es all found settled (e ∷ rest)
    got = subst (GotTo own_txn until end es all found settled) first before

    both : (a b : Bool) → (a && b) ≡ true → (a ≡ true) × (b ≡ true)
    both true b h = (refl, h)
    both false b h = cc

    in_part : (is_from_start key_order got.from e.0 ≡ true) × (not (is_past_end key_order (Excluded end) e.0) ≡ true)
    in_part = both _ _ (head-in (λ q. range_contains key_order got.from (Excluded end) q) e rest es (sym got.rest_is))

    after : AllByRecursion (λ (q : RecordKey). key_order e.0 q ≡ Less) (keys_of rest)
    after = sorted_head key_order e.0 (keys_of rest)
        (subst (λ (l : List (RecordKey × PrimaryRecord)). IsStrictlySortedBy key_order (keys_of l)) (sym got.rest_is) (sorted-part got.from (Excluded end) es sorted))

    -- the rest of a part is the part behind its first record
    rest-part : rest ≡ entries_between key_order (Excluded e.0) (Excluded end) es
    rest-part =
        sym (all-after e.0 rest after)
        ∙ ap (λ b. cond b (e ∷ those (λ q. is_lt (key_order e.0 q)) rest) (those (λ q. is_lt (key_order e.0 q)) rest)) (sym (ap is_lt (tied_itself key_order_total e.0)))
        ∙ ap (λ l. those (λ q. is_lt (key_order e.0 q)) l) got.rest_is
        ∙ next-part e.0 e.0 got.from (Excluded end) es (λ q. lt_is (key_order e.0 q)) in_part.0

    -- a record that settles nothing is passed over
    pub got-unsettled : settles own_txn until e.0.txn e.1.wrote ≡ false → GotTo own_txn until end es all found settled rest
    got-unsettled unsettled = record {
      from = Excluded e.0;
      rest_is = rest-part;
      tells = λ x.
          ap (λ h. found x || ((h && nat_eq e.0.txn x) || hit (λ q. true) own_txn until x rest))
          (sym (asks-settles own_txn until e.0.txn e.1.wrote ∙ ap (λ s. not (is_own own_txn e.0.txn) && s) unsettled ∙ and_false (not (is_own own_txn e.0.txn))))
          ∙ got.tells x;
      told_of = got.told_of;
    }

    -- a record that settles its transaction is told of
    pub got-settled : settles own_txn until e.0.txn e.1.wrote ≡ true → (more : ℕ → Bool) → ((x : ℕ) → more x ≡ (found x || told own_txn x e.0.txn)) → GotTo own_txn until end es all more (Some e.0) rest
    got-settled is more adds = record {
      from = Excluded e.0;
      rest_is = rest-part;
      tells = λ x.
          ap (λ b. b || hit (λ q. true) own_txn until x rest) (adds x)
          ∙ or_assoc (found x) (told own_txn x e.0.txn) _
          ∙ ap (λ h. found x || ((h && nat_eq e.0.txn x) || hit (λ q. true) own_txn until x rest))
          (sym (asks-settles own_txn until e.0.txn e.1.wrote ∙ ap (λ s. not (is_own own_txn e.0.txn) && s) is ∙ and_true (not (is_own own_txn e.0.txn))))
          ∙ got.tells x;
      told_of = λ k same x tell.
          let key : e.0 ≡ k = cc in
          adds x ∙ ap (λ b. found x || b) (ap (λ (q : RecordKey). told own_txn x q.txn) key ∙ tell) ∙ or_true (found x);
    }
      where
        or_assoc : (a b c : Bool) → ((a || b) || c) ≡ (a || (b || c))
        or_assoc true b c = refl
        or_assoc false b c = refl

        or_true : (a : Bool) → (a || true) ≡ true
        or_true true = refl
        or_true false = refl

    module _ (m : ℕ) (within : e.0.position ≤ m) (last : RecordKey) (last_is : last ≡ last_alike m e.0) where
      behind-part : behind m e.0 rest ≡ entries_between key_order (Excluded last) (Excluded end) es
      behind-part =
          ap (λ b. cond b (e ∷ behind m e.0 rest) (behind m e.0 rest)) (sym (not_behind m e.0 within))
          ∙ ap (behind m e.0) got.rest_is
          ∙ next-part (last_alike m e.0) e.0 got.from (Excluded end) es (λ q. after_behind m e.0 q within) in_part.0
          ∙ ap (λ b. entries_between key_order (Excluded b) (Excluded end) es) (sym last_is)

      -- from a record of the transaction that was settled last, the search goes on behind all that are alike
      pub got-alike : (last_settled : RecordKey) → settled ≡ Some last_settled → (same : Bool) → (nat_eq e.0.txn last_settled.txn && same) ≡ true → (next : List (RecordKey × PrimaryRecord)) → next ≡ entries_between key_order (Excluded last) (Excluded end) es
          → GotTo own_txn until end es all found settled next
      got-alike last_settled was same alike next next_is = record {
        from = Excluded last;
        rest_is = next_is;
        tells = λ x.
            ap (λ l. found x || hit (λ q. true) own_txn until x l) (next_is ∙ sym behind-part)
            ∙ skip (is_own own_txn e.0.txn) (in_time until e.1.wrote) (nat_eq e.0.txn x) (found x) _ _
            (λ tell. got.told_of last_settled was x (ap (told own_txn x) (sym (one_txn e.0.txn last_settled.txn same alike)) ∙ tell)) (alike-found m own_txn until x e.0 rest after)
            ∙ got.tells x;
        told_of = got.told_of;
      }
        where
          one_txn : (a b : ℕ) (c : Bool) → (nat_eq a b && c) ≡ true → a ≡ b
          one_txn a b c h = grind (arith, nat_tests)

          skip : (own timely is f a b : Bool) → ((not own && is) ≡ true → f ≡ true) → ((not own && is) || a) ≡ ((not own && is) || b)
              → (f || b) ≡ (f || (((not own && timely) && is) || a))
          skip o t i true a b h g = refl
          skip true t i false a b h g = sym g
          skip false t true false a b h g = let no : false ≡ true = h refl in cc
          skip false true false false a b h g = sym g
          skip false false false false a b h g = sym g

      pub got-less : (next : List (RecordKey × PrimaryRecord)) → next ≡ entries_between key_order (Excluded last) (Excluded end) es → length next < length part
      got-less next next_is =
          let same : length next ≡ length (behind m e.0 rest) = ap length (next_is ∙ sym behind-part) in
          let whole : length part ≡ length (e ∷ rest) = ap length first in
          let fits : length (behind m e.0 rest) ≤ length rest = no_longer (λ q. is_lt (key_order (last_alike m e.0) q)) rest in
          omega arith

      -- the search goes on before the end
      pub got-forward : (path : Parts) → end ≡ record { path = path; txn = 0; position = 0 } → key_order last end ≡ Less
      got-forward path is =
          ap (λ a. key_order a end) last_is ∙ ap (key_order (last_alike m e.0)) is
          ∙ by (path_order e.0.path path) (path_order path e.0.path) (path_order_total.antisymm e.0.path path) (ordering_then (nat_cmp 0 e.0.txn) (nat_cmp 0 e.0.position)) (least e.0.txn e.0.position) _
          (ap (λ a. not (is_le (key_order a e.0))) (sym is) ∙ in_part.1)
        where
          least : (a b : ℕ) → is_gt (ordering_then (nat_cmp 0 a) (nat_cmp 0 b)) ≡ false
          least a b = grind (arith, nat_tests)

          by : (o p : Ordering) → o ≡ ordering_reverse p → (r : Ordering) → is_gt r ≡ false → (s : Ordering) → not (is_le (ordering_then p r)) ≡ true → ordering_then o s ≡ Less
          by o Less rev r h s g = cc
          by o Equal rev Less h s g = cc
          by o Equal rev Equal h s g = cc
          by o Equal rev Greater h s g = cc
          by o Greater rev r h s g = ap (λ p. ordering_then p s) rev

-- The writes of a transaction at the positions that a search finds.
use Rattle.std.proofs.Common.{◌≡◌, ℕ, zero, suc, ◌+◌, ◌<◌, Bool, true, false, ◌&&◌, ◌||◌, List, [], ◌∷◌, ◌++◌, Option, Some, None, length, refl, sym, ap, ◌∙◌, ◌≤◌, append-nil, append_assoc, arith, nat_eq, take}
use Rattle.std.specs.Prelude.{slice_get, filter, filter_map, map, cond, is_some, option_map}
use Rattle.std.specs.List.{list_any, cons_option}
use Rattle.std.specs.List.Sorted.{IsStrictlySortedBy}
use Rattle.std.specs.BTreeMap.{get, is_at}
use Rattle.std.specs.BTreeSet.{BTreeSet, IsOrdered}
use Rattle.std.specs.Ordering.{nat_cmp}
use Rattle.std.proofs.lemmas.Bool.Decides.{nat_tests}
use Rattle.std.proofs.lemmas.List.{map-append, take_all}
use Rattle.std.proofs.lemmas.List.Folds.{list_any_at}
use Rattle.std.proofs.lemmas.Map.Views.{All-found, btree_map_get_iff}
use Rattle.doc_path.specs.Path.{Parts}
use Rattle.txn_data.specs.declared.provisional.Provisional.{Provisional}
use Rattle.txn_types.specs.Lists.{has_number}
use Rattle.txn_types.specs.Tablet.{Intent}
use Rattle.intent_records.specs.declared.intents.Intents.{Intents}
use Rattle.intent_records.specs.declared.primary_record.PrimaryRecord.{PrimaryRecord}
use Rattle.intent_records.specs.declared.record_key.RecordKey.{RecordKey}
use Rattle.intent_records.specs.Holds.{Holds, own, primary_of, provisional_of, record_at}
use Rattle.intent_records.specs.KeyOrder.{key_order_total, key_order_exact}
use Rattle.intent_records.specs.Keys.{key_order}
use Rattle.intent_records.specs.Search.{near_any}
use Rattle.intent_records.specs.Related.{on_related, related_writes, placed, has_place, Has}
use Rattle.intent_records.proofs.Between.{same_path-itself}
use Rattle.intent_records.proofs.Rising.{AreAbove, Rises, above-none, rises-sorted, same_rising}
use Rattle.intent_records.proofs.Places.{has-same}
use Rattle.intent_records.proofs.Told.{contains-number}
use Rattle.intent_records.proofs.Writes.{own-member, record_at-some}
use Rattle.intent_records.proofs.Hits.{any-all, same_bool, has_parts, near_any-related}

-- ---- positions of what passes

-- the positions, counted from n, of those that pass
abbrev passing : ℕ → (Intent → Bool) → List Intent → List ℕ
passing n f [] = []
passing n f (p ∷ ps) = cond (f p) (n ∷ passing (suc n) f ps) (passing (suc n) f ps)

abbrev passes : (Intent → Bool) → Option Intent → Bool
passes f None = false
passes f (Some p) = f p

above-passing : (m n : ℕ) (f : Intent → Bool) (ps : List Intent) → m < n → AreAbove m (passing n f ps)
above-passing m n f [] h = tt
above-passing m n f (p ∷ ps) h = elim (f p) as (λ b. AreAbove m (cond b (n ∷ passing (suc n) f ps) (passing (suc n) f ps))) [
  | true ↦ (h, above-passing m (suc n) f ps (omega (arith, h)))
  | false ↦ above-passing m (suc n) f ps (omega (arith, h))
]

rises-passing : (n : ℕ) (f : Intent → Bool) (ps : List Intent) → Rises (passing n f ps)
rises-passing n f [] = tt
rises-passing n f (p ∷ ps) = elim (f p) as (λ b. Rises (cond b (n ∷ passing (suc n) f ps) (passing (suc n) f ps))) [
  | true ↦ (above-passing n (suc n) f ps (omega arith), rises-passing (suc n) f ps)
  | false ↦ rises-passing (suc n) f ps
]

itself : (n : ℕ) → nat_eq (n + 0) n ≡ true
itself n = grind (arith, nat_tests)

apart : (n j : ℕ) → nat_eq (n + suc j) n ≡ false
apart n j = grind (arith, nat_tests)

next : (n j : ℕ) → n + suc j ≡ suc n + j
next n j = omega arith

none-more : (n : ℕ) → n + 0 ≡ n
none-more n = omega arith

has-passing : (n : ℕ) (f : Intent → Bool) (ps : List Intent) (j : ℕ) → has_number (n + j) (passing n f ps) ≡ passes f (slice_get ps j)
has-passing n f [] j = refl
has-passing n f (p ∷ ps) zero = elim (f p) as (λ b. has_number (n + 0) (cond b (n ∷ passing (suc n) f ps) (passing (suc n) f ps)) ≡ b) [
  | true ↦ ap (λ b. b || has_number (n + 0) (passing (suc n) f ps)) (itself n)
  | false ↦ ap (λ m. has_number m (passing (suc n) f ps)) (none-more n) ∙ above-none n (passing (suc n) f ps) (above-passing n (suc n) f ps (omega arith))
]
has-passing n f (p ∷ ps) (suc j) =
    let rest : has_number (n + suc j) (passing (suc n) f ps) ≡ passes f (slice_get ps j) = ap (λ m. has_number m (passing (suc n) f ps)) (next n j) ∙ has-passing (suc n) f ps j in
    elim (f p) as (λ b. has_number (n + suc j) (cond b (n ∷ passing (suc n) f ps) (passing (suc n) f ps)) ≡ passes f (slice_get ps j)) [
      | true ↦ ap (λ b. b || has_number (n + suc j) (passing (suc n) f ps)) (apart n j) ∙ rest
      | false ↦ rest
    ]

pick-passing : (all : List Intent) (n : ℕ) (f : Intent → Bool) (ps : List Intent) → ((j : ℕ) → slice_get all (n + j) ≡ slice_get ps j) → filter_map (slice_get all) (passing n f ps) ≡ filter f ps
pick-passing all n f [] same = refl
pick-passing all n f (p ∷ ps) same =
    let first : slice_get all n ≡ Some p = ap (slice_get all) (sym (none-more n)) ∙ same 0 in
    let rest = pick-passing all (suc n) f ps (λ j. ap (slice_get all) (sym (next n j)) ∙ same (suc j)) in
    elim (f p) as (λ b. filter_map (slice_get all) (cond b (n ∷ passing (suc n) f ps) (passing (suc n) f ps)) ≡ cond b (p ∷ filter f ps) (filter f ps)) [
      | true ↦ ap (λ o. cons_option o (filter_map (slice_get all) (passing (suc n) f ps))) first ∙ ap (λ l. p ∷ l) rest
      | false ↦ rest
    ]

from-none : (n : ℕ) → 0 + n ≡ n
from-none n = omega arith

-- at rising positions that are those of what passes, there is what passes
picked : (f : Intent → Bool) (ps : List Intent) (keys : List ℕ) → IsStrictlySortedBy nat_cmp keys
    → ((i : ℕ) → has_number i keys ≡ passes f (slice_get ps i)) → filter_map (slice_get ps) keys ≡ filter f ps
picked f ps keys sorted is =
    ap (filter_map (slice_get ps)) (same_rising keys (passing 0 f ps) (rises-sorted keys sorted) (rises-passing 0 f ps)
    (λ i. is i ∙ sym (ap (λ m. has_number m (passing 0 f ps)) (sym (from-none i)) ∙ has-passing 0 f ps i)))
    ∙ pick-passing ps 0 f ps (λ j. ap (slice_get ps) (from-none j))

-- ---- the records and the writes

same_number : (m n : ℕ) → nat_eq m n ≡ true → m ≡ n
same_number m n h = grind (arith, nat_tests, h)

number-itself : (n : ℕ) → nat_eq n n ≡ true
number-itself n = grind (arith, nat_tests)

both : (a b : Bool) → (a && b) ≡ true → (a ≡ true) × (b ≡ true)
both true b h = (refl, h)
both false b h = cc

passing-some : (on : Parts → Bool) (o : Option Intent) → passes (λ p. on p.path) o ≡ true → (p : Intent) × ((o ≡ Some p) × (on p.path ≡ true))
passing-some on None h = cc
passing-some on (Some p) h = (p, (refl, h))

placed-held : (s : Intents) (ps : List Intent) → Holds s ps → (on : Parts → Bool) (x i : ℕ)
    → placed on x i s.records.entries ≡ passes (λ p. on p.path) (slice_get (own x ps) i)
placed-held s ps holds on x i = same_bool _ _ there back
  where
    there : list_any (λ (e : RecordKey × PrimaryRecord). on e.0.path && (nat_eq e.0.txn x && nat_eq e.0.position i)) s.records.entries ≡ true
        → passes (λ p. on p.path) (slice_get (own x ps) i) ≡ true
    there h =
        let at = any-all (λ (e : RecordKey × PrimaryRecord). get key_order s.records e.0 ≡ Some e.1)
        (λ (e : RecordKey × PrimaryRecord). on e.0.path && (nat_eq e.0.txn x && nat_eq e.0.position i))
        s.records.entries (All-found key_order_total s.records holds.ordered) h in
        let e = at.0 in
        let tests = both (on e.0.path) (nat_eq e.0.txn x && nat_eq e.0.position i) at.1.1 in
        let place = both (nat_eq e.0.txn x) (nat_eq e.0.position i) tests.1 in
        let write = record_at-some e.0.path (slice_get (own e.0.txn ps) e.0.position) e.1 (sym (holds.primary e.0) ∙ at.1.0) in
        ap (λ y. passes (λ p. on p.path) (slice_get (own y ps) i)) (sym (same_number e.0.txn x place.0))
        ∙ ap (λ j. passes (λ p. on p.path) (slice_get (own e.0.txn ps) j)) (sym (same_number e.0.position i place.1))
        ∙ ap (passes (λ p. on p.path)) write.1.0
        ∙ ap on write.1.1
        ∙ tests.0

    back : passes (λ p. on p.path) (slice_get (own x ps) i) ≡ true
        → list_any (λ (e : RecordKey × PrimaryRecord). on e.0.path && (nat_eq e.0.txn x && nat_eq e.0.position i)) s.records.entries ≡ true
    back h =
        let write = passing-some on (slice_get (own x ps) i) h in
        let p = write.0 in
        let k : RecordKey = record { path = p.path; txn = x; position = i } in
        let stands : get key_order s.records k ≡ Some (primary_of p) =
        holds.primary k ∙ ap (record_at p.path) write.1.0 ∙ ap (λ b. cond b (Some (primary_of p)) None) (same_path-itself p.path) in
        let in_map = (btree_map_get_iff key_order_total key_order_exact s.records holds.ordered k (primary_of p)).0 stands in
        list_any_at (λ (e : RecordKey × PrimaryRecord). on e.0.path && (nat_eq e.0.txn x && nat_eq e.0.position i)) s.records.entries in_map.0 (k, primary_of p) in_map.1
        (ap (λ (e : RecordKey × PrimaryRecord). on e.0.path && (nat_eq e.0.txn x && nat_eq e.0.position i)) in_map.2
        ∙ ap (λ b. b && (nat_eq x x && nat_eq i i)) write.1.1
        ∙ ap (λ b. b && nat_eq i i) (number-itself x)
        ∙ number-itself i)

near-passes : (s : Intents) (ps : List Intent) → Holds s ps → (paths : List Parts) (x i : ℕ)
    → passes (λ p. near_any paths p.path) (slice_get (own x ps) i) ≡ passes (on_related paths) (slice_get (own x ps) i)
near-passes s ps holds paths x i = by (slice_get (own x ps) i) refl
  where
    by : (o : Option Intent) → slice_get (own x ps) i ≡ o → passes (λ p. near_any paths p.path) o ≡ passes (on_related paths) o
    by None h = refl
    by (Some p) h = near_any-related paths p.path (has_parts p.path (holds.parts p (own-member x ps i p h).0))

-- the positions that were found of a transaction that is asked for are those of its writes on related paths
pub picked-held : (s : Intents) (ps : List Intent) → Holds s ps → (paths : List Parts) (asked : ℕ → Bool) (places : ℕ → Option (BTreeSet ℕ)) (x : ℕ) (positions : BTreeSet ℕ)
    → Has asked (λ y i. placed (near_any paths) y i s.records.entries) places → places x ≡ Some positions → IsOrdered nat_cmp positions
    → filter_map (slice_get (own x ps)) positions.keys ≡ filter (on_related paths) (own x ps)
picked-held s ps holds paths asked places x positions has some ordered =
    let is : asked x ≡ true = sym (has.asks x) ∙ ap is_some some in
    picked (on_related paths) (own x ps) positions.keys ordered
    (λ i.
    sym (contains-number i positions.keys)
    ∙ ap (λ o. has_place o i) (sym some)
    ∙ has.has x i
    ∙ ap (λ b. b && placed (near_any paths) x i s.records.entries) is
    ∙ placed-held s ps holds (near_any paths) x i
    ∙ near-passes s ps holds paths x i)

-- ---- one transaction more

-- a transaction that is asked for has its positions
pub asked-placed : (asked : ℕ → Bool) (found : ℕ → ℕ → Bool) (places : ℕ → Option (BTreeSet ℕ)) (x : ℕ) → Has asked found places → asked x ≡ true → places x ≡ None → ⊥
asked-placed asked found places x has is none = let bad : false ≡ true = sym (ap is_some none) ∙ has.asks x ∙ is in cc

-- its writes on related paths are added
pub listed-more : (paths : List Parts) (x : ℕ) (rest xs : List ℕ) (ps : List Intent) (places : List ℕ) (done new all : List Provisional) → xs ≡ x ∷ rest
    → new ≡ done ++ map provisional_of (filter_map (slice_get (own x ps)) places)
    → filter_map (slice_get (own x ps)) places ≡ filter (on_related paths) (own x ps)
    → done ++ map provisional_of (related_writes paths xs ps) ≡ all → new ++ map provisional_of (related_writes paths rest ps) ≡ all
listed-more paths x rest xs ps places done new all whole is held before =
    ap (λ l. l ++ map provisional_of (related_writes paths rest ps)) (is ∙ ap (λ l. done ++ map provisional_of l) held)
    ∙ append_assoc done (map provisional_of (filter (on_related paths) (own x ps))) (map provisional_of (related_writes paths rest ps))
    ∙ ap (λ l. done ++ l) (sym (map-append provisional_of (filter (on_related paths) (own x ps)) (related_writes paths rest ps)))
    ∙ ap (λ l. done ++ map provisional_of (related_writes paths l ps)) (sym whole)
    ∙ before

-- ---- one position more

abbrev copies_at : List Intent → List ℕ → List Provisional
copies_at xs keys = map provisional_of (filter_map (slice_get xs) keys)

-- the write that stands there is copied
pub push-more : (xs : List Intent) (k : ℕ) (rest keys : List ℕ) (write : Provisional) (done new all : List Provisional) → keys ≡ k ∷ rest
    → Some write ≡ option_map provisional_of (slice_get xs k) → new ≡ done ++ write ∷ []
    → done ++ map provisional_of (filter_map (slice_get xs) keys) ≡ all → new ++ map provisional_of (filter_map (slice_get xs) rest) ≡ all
push-more xs k rest keys write done new all whole found is before = by (slice_get xs k) refl found
  where
    by : (o : Option Intent) → slice_get xs k ≡ o → Some write ≡ option_map provisional_of o → new ++ copies_at xs rest ≡ all
    by None at h = cc
    by (Some p) at h =
        let same : write ≡ provisional_of p = cc in
        ap (λ l. l ++ copies_at xs rest) is
        ∙ append_assoc done (write ∷ []) (copies_at xs rest)
        ∙ ap (λ w. done ++ w ∷ copies_at xs rest) same
        ∙ ap (λ o. done ++ map provisional_of (cons_option o (filter_map (slice_get xs) rest))) (sym at)
        ∙ ap (λ l. done ++ copies_at xs l) (sym whole)
        ∙ before

-- or none stands there
pub push-less : (xs : List Intent) (k : ℕ) (rest keys : List ℕ) (done all : List Provisional) → keys ≡ k ∷ rest
    → option_map provisional_of (slice_get xs k) ≡ None
    → done ++ map provisional_of (filter_map (slice_get xs) keys) ≡ all → done ++ map provisional_of (filter_map (slice_get xs) rest) ≡ all
push-less xs k rest keys done all whole none before = by (slice_get xs k) refl none
  where
    by : (o : Option Intent) → slice_get xs k ≡ o → option_map provisional_of o ≡ None → done ++ copies_at xs rest ≡ all
    by None at h =
        ap (λ o. done ++ map provisional_of (cons_option o (filter_map (slice_get xs) rest))) (sym at)
        ∙ ap (λ l. done ++ copies_at xs l) (sym whole)
        ∙ before
    by (Some p) at h = cc

pub push-end : (xs : List Intent) (rest : List ℕ) (done all : List Provisional) → rest ≡ []
    → done ++ map provisional_of (filter_map (slice_get xs) rest) ≡ all → done ≡ all
push-end xs rest done all none before = sym (append-nil done) ∙ ap (λ l. done ++ copies_at xs l) (sym none) ∙ before

-- ---- the transactions that are left

itself_at : (k : ℕ) → is_at (nat_cmp k) k ≡ true
itself_at k = grind (arith, nat_tests)

or-true : (b : Bool) → (b || true) ≡ true
or-true true = refl
or-true false = refl

pub among-rest : (k : ℕ) (rest keys : List ℕ) (x : ℕ) → keys ≡ k ∷ rest → list_any (is_at (nat_cmp x)) rest ≡ true → list_any (is_at (nat_cmp x)) keys ≡ true
among-rest k rest keys x whole h =
    ap (list_any (is_at (nat_cmp x))) whole ∙ ap (λ b. is_at (nat_cmp x) k || b) h ∙ or-true (is_at (nat_cmp x) k)

pub among-first : (k : ℕ) (rest keys : List ℕ) → keys ≡ k ∷ rest → list_any (is_at (nat_cmp k)) keys ≡ true
among-first k rest keys whole = ap (list_any (is_at (nat_cmp k))) whole ∙ ap (λ b. b || list_any (is_at (nat_cmp k)) rest) (itself_at k)

-- all of the paths
pub has-end : (asked : ℕ → Bool) (paths : List Parts) (n : ℕ) (es : List (RecordKey × PrimaryRecord)) (places : ℕ → Option (BTreeSet ℕ)) → length paths ≤ n
    → Has asked (λ x i. placed (near_any (take n paths)) x i es) places → Has asked (λ x i. placed (near_any paths) x i es) places
has-end asked paths n es places all h =
    has-same asked (λ x i. placed (near_any (take n paths)) x i es) (λ x i. placed (near_any paths) x i es) places
    (λ x i. ap (λ l. placed (near_any l) x i es) (take_all n paths all)) h

-- What a search over the primary records finds, as a test over the writes that they stand for.
use Rattle.std.proofs.Common.{◌≡◌, ℕ, ◌+◌, ◌<◌, ◌≤◌, Bool, true, false, ◌&&◌, ◌||◌, not, List, [], ◌∷◌, Option, Some, None, length, refl, sym, ap, ◌∙◌, arith, inl, inr, nat_eq, nat_le, take, get_or, All}
use Rattle.std.specs.Prelude.{filter, map, cond, slice_get}
use Rattle.std.specs.List.{list_any}
use Rattle.std.specs.BTreeMap.{get}
use Rattle.std.specs.BTreeMap.Range.{range_contains, entries_between}
use Rattle.std.specs.Ordering.{is_le}
use Rattle.std.specs.declared.ops.Bound.TheVariants.{Included, Excluded}
use Rattle.std.proofs.lemmas.List.Elements.{All-tail}
use Rattle.std.proofs.lemmas.List.Folds.{list_any_at, list_any_more}
use Rattle.std.proofs.lemmas.Map.Views.{All-found, btree_map_get_iff}
use Rattle.doc_path.specs.Path.{Parts, related}
use Rattle.txn_types.specs.Lists.{Member, has_number}
use Rattle.txn_types.specs.Tablet.{Intent, is_of, txn_of, is_own, others_on}
use Rattle.conflict_matrix.specs.Conflict.{intents_of, any_meet}
use Rattle.conflict_matrix.specs.Laws.{WritesMeetWhereRelated}
use Rattle.intent_records.specs.declared.intents.Intents.{Intents}
use Rattle.intent_records.specs.declared.path_range.PathRange.{PathRange}
use Rattle.intent_records.specs.declared.primary_record.PrimaryRecord.{PrimaryRecord}
use Rattle.intent_records.specs.declared.record_key.RecordKey.{RecordKey}
use Rattle.intent_records.specs.Holds.{Holds, own, primary_of, record_at}
use Rattle.intent_records.specs.KeyOrder.{key_order_total, key_order_exact}
use Rattle.intent_records.specs.Keys.{key_order}
use Rattle.intent_records.specs.Search.{hit, asks, between, some_parts, near, near_any, in_any, others_until, others_meeting}
use Rattle.intent_records.proofs.Between.{same_path-itself, keys_between}
use Rattle.intent_records.proofs.Writes.{own-member, own-place, record_at-some, is_of-txn, is_of-itself, any-member, member-any, list_any-same, has_number-filter}

pub hit-or : (f g : Parts → Bool) (own_txn until : Option ℕ) (x : ℕ) (es : List (RecordKey × PrimaryRecord))
    → hit (λ q. f q || g q) own_txn until x es ≡ (hit f own_txn until x es || hit g own_txn until x es)
hit-or f g own_txn until x [] = refl
hit-or f g own_txn until x (e ∷ es) =
    by (f e.0.path) (g e.0.path) (asks own_txn until e.0.txn e.1.wrote) (nat_eq e.0.txn x) (hit f own_txn until x es) (hit g own_txn until x es) (hit (λ q. f q || g q) own_txn until x es) (hit-or f g own_txn until x es)
  where
    swapped : (p q : Bool) → (true || (p || q)) ≡ (p || (true || q))
    swapped true q = refl
    swapped false q = refl

    by : (a b c d p q r : Bool) → r ≡ (p || q) → ((((a || b) && c) && d) || r) ≡ ((((a && c) && d) || p) || (((b && c) && d) || q))
    by true b true true p q r h = refl
    by false true true true p q r h = swapped p q
    by false false c d p q r h = h
    by true true true false p q r h = h
    by true false true false p q r h = h
    by false true true false p q r h = h
    by true true false d p q r h = h
    by true false false d p q r h = h
    by false true false d p q r h = h

pub hit-same : (f g : Parts → Bool) → ((q : Parts) → f q ≡ g q) → (own_txn until : Option ℕ) (x : ℕ) (es : List (RecordKey × PrimaryRecord))
    → hit f own_txn until x es ≡ hit g own_txn until x es
hit-same f g same own_txn until x [] = refl
hit-same f g same own_txn until x (e ∷ es) =
    ap (λ b. ((b && asks own_txn until e.0.txn e.1.wrote) && nat_eq e.0.txn x) || hit f own_txn until x es) (same e.0.path)
    ∙ ap (λ b. ((g e.0.path && asks own_txn until e.0.txn e.1.wrote) && nat_eq e.0.txn x) || b) (hit-same f g same own_txn until x es)

pub hit-none : (f : Parts → Bool) → ((q : Parts) → f q ≡ false) → (own_txn until : Option ℕ) (x : ℕ) (es : List (RecordKey × PrimaryRecord))
    → hit f own_txn until x es ≡ false
hit-none f none own_txn until x [] = refl
hit-none f none own_txn until x (e ∷ es) =
    ap (λ b. ((b && asks own_txn until e.0.txn e.1.wrote) && nat_eq e.0.txn x) || hit f own_txn until x es) (none e.0.path)
    ∙ hit-none f none own_txn until x es

-- what all of a part are, which has just the records on some paths
pub hit-filter : (t : RecordKey → Bool) (f : Parts → Bool) → ((k : RecordKey) → t k ≡ f k.path) → (own_txn until : Option ℕ) (x : ℕ) (es : List (RecordKey × PrimaryRecord))
    → hit (λ q. true) own_txn until x (filter (λ (e : RecordKey × PrimaryRecord). t e.0) es) ≡ hit f own_txn until x es
hit-filter t f same own_txn until x [] = refl
hit-filter t f same own_txn until x (e ∷ es) =
    by (hit-filter t f same own_txn until x es) (t e.0) ∙ ap (λ b. ((b && asks own_txn until e.0.txn e.1.wrote) && nat_eq e.0.txn x) || hit f own_txn until x es) (same e.0)
  where
    by : hit (λ q. true) own_txn until x (filter (λ (e : RecordKey × PrimaryRecord). t e.0) es) ≡ hit f own_txn until x es
        → (b : Bool) → hit (λ q. true) own_txn until x (cond b (e ∷ filter (λ (e : RecordKey × PrimaryRecord). t e.0) es) (filter (λ (e : RecordKey × PrimaryRecord). t e.0) es))
        ≡ (((b && asks own_txn until e.0.txn e.1.wrote) && nat_eq e.0.txn x) || hit f own_txn until x es)
    by rest true = ap (λ b. (asks own_txn until e.0.txn e.1.wrote && nat_eq e.0.txn x) || b) rest
    by rest false = rest

-- ---- the records and the writes

-- a write that a search finds, of this transaction
abbrev pub found : (Parts → Bool) → Option ℕ → Option ℕ → ℕ → Intent → Bool
found on own_txn until x p = (on p.path && asks own_txn until (txn_of p) p.wrote) && nat_eq (txn_of p) x

pub any-all : {A : Type 0} (P : A → Type 0) (f : A → Bool) (xs : List A) → All P xs → list_any f xs ≡ true → (x : A) × (P x × (f x ≡ true))
any-all P f [] each h = cc
any-all {A} P f (x ∷ xs) each h = by (any-all P f xs (All-tail P x xs each)) (f x) refl h
  where
    by : (list_any f xs ≡ true → (y : A) × (P y × (f y ≡ true))) → (b : Bool) → f x ≡ b → (b || list_any f xs) ≡ true → (y : A) × (P y × (f y ≡ true))
    by rest true is h = (x, (each 0 x (omega arith), is))
    by rest false is h = rest h

pub same_bool : (a b : Bool) → (a ≡ true → b ≡ true) → (b ≡ true → a ≡ true) → a ≡ b
same_bool true b f g = sym (f refl)
same_bool false true f g = g refl
same_bool false false f g = refl

pub hit-held : (s : Intents) (ps : List Intent) → Holds s ps → (on : Parts → Bool) (own_txn until : Option ℕ) (x : ℕ)
    → hit on own_txn until x s.records.entries ≡ list_any (found on own_txn until x) ps
hit-held s ps holds on own_txn until x = same_bool _ _ there back
  where
    test : RecordKey × PrimaryRecord → Bool
    test e = (on e.0.path && asks own_txn until e.0.txn e.1.wrote) && nat_eq e.0.txn x

    there : list_any (λ (e : RecordKey × PrimaryRecord). (on e.0.path && asks own_txn until e.0.txn e.1.wrote) && nat_eq e.0.txn x) s.records.entries ≡ true → list_any (found on own_txn until x) ps ≡ true
    there h =
        let at = any-all (λ (e : RecordKey × PrimaryRecord). get key_order s.records e.0 ≡ Some e.1)
        (λ (e : RecordKey × PrimaryRecord). (on e.0.path && asks own_txn until e.0.txn e.1.wrote) && nat_eq e.0.txn x)
        s.records.entries (All-found key_order_total s.records holds.ordered) h in
        let e = at.0 in
        let write = record_at-some e.0.path (slice_get (own e.0.txn ps) e.0.position) e.1 (sym (holds.primary e.0) ∙ at.1.0) in
        let p = write.0 in
        let member = own-member e.0.txn ps e.0.position p write.1.0 in
        let txn : txn_of p ≡ e.0.txn = is_of-txn e.0.txn p member.1 in
        let wrote : p.wrote ≡ e.1.wrote = ap (λ (r : PrimaryRecord). r.wrote) write.1.2 in
        let same : found on own_txn until x p ≡ true =
        ap (λ q. (on q && asks own_txn until (txn_of p) p.wrote) && nat_eq (txn_of p) x) write.1.1
        ∙ ap (λ y. (on e.0.path && asks own_txn until y p.wrote) && nat_eq y x) txn
        ∙ ap (λ w. (on e.0.path && asks own_txn until e.0.txn w) && nat_eq e.0.txn x) wrote
        ∙ at.1.1 in
        member-any (found on own_txn until x) ps p member.0 same

    back : list_any (found on own_txn until x) ps ≡ true → list_any (λ (e : RecordKey × PrimaryRecord). (on e.0.path && asks own_txn until e.0.txn e.1.wrote) && nat_eq e.0.txn x) s.records.entries ≡ true
    back h =
        let at = any-member (found on own_txn until x) ps h in
        let p = at.0 in
        let place = own-place (txn_of p) ps p at.1.0 (is_of-itself p) in
        let k : RecordKey = record { path = p.path; txn = txn_of p; position = place.0 } in
        let stands : get key_order s.records k ≡ Some (primary_of p) =
        holds.primary k ∙ ap (record_at p.path) place.1 ∙ ap (λ b. cond b (Some (primary_of p)) None) (same_path-itself p.path) in
        let in_map = (btree_map_get_iff key_order_total key_order_exact s.records holds.ordered k (primary_of p)).0 stands in
        list_any_at (λ (e : RecordKey × PrimaryRecord). (on e.0.path && asks own_txn until e.0.txn e.1.wrote) && nat_eq e.0.txn x) s.records.entries in_map.0 (k, primary_of p) in_map.1
        (ap (λ (e : RecordKey × PrimaryRecord). (on e.0.path && asks own_txn until e.0.txn e.1.wrote) && nat_eq e.0.txn x) in_map.2 ∙ at.1.1)

pub has_parts : (p : Parts) → 1 ≤ length p → some_parts p ≡ true
has_parts [] h = absurd (omega arith)
has_parts (a ∷ p) h = refl

-- the transactions with a conflicting write are those found
pub hit-others_on : (s : Intents) (ps : List Intent) → Holds s ps → (x : ℕ) (path : Parts) (y : ℕ)
    → hit (near path) (Some x) None y s.records.entries ≡ has_number y (map txn_of (others_on x path ps))
hit-others_on s ps holds x path y =
    hit-held s ps holds (near path) (Some x) None y
    ∙ list_any-same (found (near path) (Some x) None y) (λ p. (not (is_of x p) && related p.path path) && nat_eq (txn_of p) y) ps
    (λ p m. by (some_parts p.path) (related p.path path) (not (is_of x p)) (nat_eq (txn_of p) y) (has_parts p.path (holds.parts p m)))
    ∙ sym (has_number-filter (λ (p : Intent). not (is_of x p) && related p.path path) y ps)
  where
    by : (a b c d : Bool) → a ≡ true → (((a && b) && (c && true)) && d) ≡ ((c && b) && d)
    by true true true d h = refl
    by true true false d h = refl
    by true false true d h = refl
    by true false false d h = refl
    by false b c d h = cc

pub near_any-related : (paths : List Parts) (q : Parts) → some_parts q ≡ true → near_any paths q ≡ list_any (related q) paths
near_any-related [] q h = refl
near_any-related (p ∷ paths) q h =
    ap (λ b. (b && related q p) || near_any paths q) h ∙ ap (λ b. related q p || b) (near_any-related paths q h)

pub hit-others_until : (s : Intents) (ps : List Intent) → Holds s ps → (own_txn : Option ℕ) (paths : List Parts) (until : ℕ) (y : ℕ)
    → hit (near_any paths) own_txn (Some until) y s.records.entries ≡ has_number y (map txn_of (others_until own_txn paths until ps))
hit-others_until s ps holds own_txn paths until y =
    hit-held s ps holds (near_any paths) own_txn (Some until) y
    ∙ list_any-same (found (near_any paths) own_txn (Some until) y) (λ p. (not (is_own own_txn (txn_of p)) && nat_le p.wrote until && list_any (related p.path) paths) && nat_eq (txn_of p) y) ps
    (λ p m. ap (λ b. (b && asks own_txn (Some until) (txn_of p) p.wrote) && nat_eq (txn_of p) y) (near_any-related paths p.path (has_parts p.path (holds.parts p m)))
    ∙ by (list_any (related p.path) paths) (not (is_own own_txn (txn_of p)) && nat_le p.wrote until) (nat_eq (txn_of p) y))
    ∙ sym (has_number-filter (λ (p : Intent). not (is_own own_txn (txn_of p)) && nat_le p.wrote until && list_any (related p.path) paths) y ps)
  where
    by : (a b c : Bool) → ((a && b) && c) ≡ ((b && a) && c)
    by true true c = refl
    by true false c = refl
    by false true c = refl
    by false false c = refl

-- ---- a search in a part of the records

pub hit-range : (first end : Parts) (a b : RecordKey) (own_txn until : Option ℕ) (x : ℕ) (part es : List (RecordKey × PrimaryRecord))
    → a ≡ record { path = first; txn = 0; position = 0 } → b ≡ record { path = end; txn = 0; position = 0 }
    → part ≡ entries_between key_order (Included a) (Excluded b) es
    → hit (λ q. true) own_txn until x part ≡ hit (between first end) own_txn until x es
hit-range first end a b own_txn until x part es from to is =
    ap (hit (λ q. true) own_txn until x) is
    ∙ hit-filter (λ k. range_contains key_order (Included a) (Excluded b) k) (between first end)
    (λ k. ap (λ c. is_le (key_order c k) && not (is_le (key_order b k))) from
    ∙ ap (λ c. is_le (key_order (record { path = first; txn = 0; position = 0 }) k) && not (is_le (key_order c k))) to
    ∙ keys_between first end k)
    own_txn until x es

-- one more of some sets of paths
pub hit-some_more : {A : Type 0} (on : A → Parts → Bool) (xs : List A) (i : ℕ) (a : A) (own_txn until : Option ℕ) (x : ℕ) (es : List (RecordKey × PrimaryRecord)) → i < length xs → a ≡ get_or xs i a
    → (hit (λ q. list_any (λ b. on b q) (take i xs)) own_txn until x es || hit (on a) own_txn until x es) ≡ hit (λ q. list_any (λ b. on b q) (take (i + 1) xs)) own_txn until x es
hit-some_more on xs i a own_txn until x es within is =
    sym (hit-or (λ q. list_any (λ b. on b q) (take i xs)) (on a) own_txn until x es)
    ∙ hit-same (λ q. list_any (λ b. on b q) (take i xs) || on a q) (λ q. list_any (λ b. on b q) (take (i + 1) xs))
    (λ q. ap (λ b. list_any (λ b. on b q) (take i xs) || on b q) is ∙ sym (list_any_more (λ b. on b q) xs i a within)) own_txn until x es

-- nothing is found on no paths
pub hit-start : (ranges : List PathRange) (own_txn until : Option ℕ) (x : ℕ) (es : List (RecordKey × PrimaryRecord)) (before : Bool)
    → before ≡ (before || hit (in_any (take 0 ranges)) own_txn until x es)
hit-start ranges own_txn until x es before =
    by before ∙ ap (λ b. before || b) (sym (hit-none (in_any (take 0 ranges)) (λ q. refl) own_txn until x es))
  where
    by : (b : Bool) → b ≡ (b || false)
    by true = refl
    by false = refl

-- one more of some ranges
pub hit-range_more : (ranges : List PathRange) (i : ℕ) (range : PathRange) (own_txn until : Option ℕ) (x : ℕ) (es : List (RecordKey × PrimaryRecord)) (before found after : Bool)
    → i < length ranges → range ≡ get_or ranges i range
    → found ≡ (before || hit (in_any (take i ranges)) own_txn until x es)
    → after ≡ (found || hit (between range.first range.end) own_txn until x es)
    → after ≡ (before || hit (in_any (take (i + 1) ranges)) own_txn until x es)
hit-range_more ranges i range own_txn until x es before found after within is so_far more =
    more
    ∙ ap (λ b. b || hit (between range.first range.end) own_txn until x es) so_far
    ∙ or_assoc before (hit (in_any (take i ranges)) own_txn until x es) (hit (between range.first range.end) own_txn until x es)
    ∙ ap (λ b. before || b) (hit-some_more (λ (r : PathRange). between r.first r.end) ranges i range own_txn until x es within is)
  where
    or_assoc : (a b c : Bool) → ((a || b) || c) ≡ (a || (b || c))
    or_assoc true b c = refl
    or_assoc false b c = refl

-- one more of some paths
pub hit-near_more : (paths : List Parts) (i : ℕ) (path : Parts) (own_txn until : Option ℕ) (x : ℕ) (es : List (RecordKey × PrimaryRecord)) (found after : Bool)
    → i < length paths → path ≡ get_or paths i path
    → found ≡ hit (near_any (take i paths)) own_txn until x es
    → after ≡ (found || hit (near path) own_txn until x es)
    → after ≡ hit (near_any (take (i + 1) paths)) own_txn until x es
hit-near_more paths i path own_txn until x es found after within is so_far more =
    more
    ∙ ap (λ b. b || hit (near path) own_txn until x es) so_far
    ∙ hit-some_more near paths i path own_txn until x es within is

-- ---- conflicting intents

filter-same : (f g : Intent → Bool) (ps : List Intent) → ((p : Intent) → Member p ps → f p ≡ g p) → filter f ps ≡ filter g ps
filter-same f g [] same = refl
filter-same f g (p ∷ ps) same =
    ap (λ b. cond b (p ∷ filter f ps) (filter f ps)) (same p (inl refl))
    ∙ ap (λ l. cond (g p) (p ∷ l) l) (filter-same f g ps (λ q m. same q (inr m)))

-- the writes whose intents conflict are those on related paths
pub meeting-related : WritesMeetWhereRelated → (s : Intents) (ps : List Intent) → Holds s ps → (x : ℕ) (path : Parts) → 1 ≤ length path
    → others_meeting x path ps ≡ others_on x path ps
meeting-related law s ps holds x path some =
    filter-same (λ (p : Intent). not (is_of x p) && any_meet (intents_of p.path) (intents_of path)) (λ (p : Intent). not (is_of x p) && related p.path path) ps
    (λ p m. ap (λ b. not (is_of x p) && b) (law p.path path (holds.parts p m) some))

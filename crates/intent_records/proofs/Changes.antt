-- The records after one more write, and without those of a transaction.
use Rattle.std.proofs.Common.{◌≡◌, ℕ, ◌≤◌, Bool, true, false, ◌&&◌, not, List, [], ◌∷◌, ◌++◌, Option, Some, None, length, refl, sym, ap, ◌∙◌, arith, ⊎_elim, nat_eq}
use Rattle.std.specs.Prelude.{slice_get, map, filter, cond, is_none, option_map}
use Rattle.std.specs.BTreeMap.{get, is_at, IsOrdered}
use Rattle.std.specs.Ordering.{nat_cmp}
use Rattle.std.proofs.lemmas.Bool.Decides.{nat_tests}
use Rattle.std.proofs.lemmas.List.{map-append, length-map}
use Rattle.std.proofs.lemmas.Option.{slice_get-map}
use Rattle.doc_path.specs.Path.{Parts}
use Rattle.txn_data.specs.declared.meta.Meta.{Meta}
use Rattle.txn_types.specs.Lists.{or_else}
use Rattle.txn_types.specs.Tablet.{Intent, is_of, txn_of, same_path}
use Rattle.intent_records.specs.declared.intents.Intents.{Intents}
use Rattle.intent_records.specs.declared.primary_record.PrimaryRecord.{PrimaryRecord}
use Rattle.intent_records.specs.declared.record_key.RecordKey.{RecordKey}
use Rattle.intent_records.specs.Holds.{Holds, own, first_meta, path_of, primary_of, record_at, any_paths}
use Rattle.intent_records.specs.Keys.{key_order}
use Rattle.intent_records.specs.Steps.{Lists, paths_or_none, is_path, is_listed}
use Rattle.intent_records.proofs.Between.{is_eq-nat_cmp}
use Rattle.intent_records.proofs.Writes.{own-push, own-without, first_meta-push, first_meta-without, first_meta-any, paths_or_none-any, any_paths-push, member-push, member-filter, is_of-txn}
use Rattle.intent_records.proofs.Positions.{key_at, at_push, slice_get-after, end_or_none}

cond_none : (f : Option Meta) (b : Bool) (m : Meta) → cond (b && is_none f) (Some m) f ≡ or_else f (cond b (Some m) None)
cond_none None true m = refl
cond_none (Some y) true m = refl
cond_none None false m = refl
cond_none (Some y) false m = refl

count_held : (s : Intents) (ps : List Intent) → Holds s ps → (x : ℕ) → length (paths_or_none (get nat_cmp s.index x)) ≡ length (own x ps)
count_held s ps holds x =
    ap (λ o. length (paths_or_none o)) (holds.index x) ∙ ap length (paths_or_none-any (map path_of (own x ps))) ∙ length-map (own x ps) path_of

-- one more write
pub holds-added : (s t : Intents) (ps : List Intent) (p : Intent) → Holds s ps → 1 ≤ length p.path
    → Lists (get nat_cmp s.metas) (get nat_cmp s.index) p.meta p.path (get nat_cmp t.metas) (get nat_cmp t.index)
    → ((k : RecordKey) → get key_order t.records k ≡ cond (is_at (key_order (record { path = p.path; txn = txn_of p; position = length (paths_or_none (get nat_cmp s.index (txn_of p))) })) k) (Some (primary_of p)) (get key_order s.records k))
    → IsOrdered key_order t.records
    → Holds t (ps ++ p ∷ [])
holds-added s t ps p holds long lists kept ordered = record {
  metas = λ x.
      lists.first x
      ∙ ap (λ b. cond (is_of x p && b) (Some p.meta) (get nat_cmp s.metas x)) (ap is_none (holds.index x) ∙ first_meta-any x ps)
      ∙ ap (λ o. cond (is_of x p && is_none (first_meta x ps)) (Some p.meta) o) (holds.metas x)
      ∙ cond_none (first_meta x ps) (is_of x p) p.meta
      ∙ sym (first_meta-push x ps p);
  index = λ x.
      lists.paths x
      ∙ ap (λ o. cond (is_of x p) (Some (paths_or_none o ++ p.path ∷ [])) o) (holds.index x)
      ∙ ap (λ l. cond (is_of x p) (Some (l ++ p.path ∷ [])) (any_paths (map path_of (own x ps)))) (paths_or_none-any (map path_of (own x ps)))
      ∙ paths_of (own x ps) (is_of x p)
      ∙ ap (λ l. any_paths (map path_of l)) (sym (own-push x ps p));
  primary = λ k.
      let at = key_at p.path (txn_of p) (length (own (txn_of p) ps)) k in
      kept k
      ∙ ap (λ n. cond (is_at (key_order (record { path = p.path; txn = txn_of p; position = n })) k) (Some (primary_of p)) (get key_order s.records k)) (count_held s ps holds (txn_of p))
      ∙ ap (λ b. cond b (Some (primary_of p)) (get key_order s.records k)) at
      ∙ ap (λ o. cond (same_path p.path k.path && (nat_eq (txn_of p) k.txn && nat_eq (length (own (txn_of p) ps)) k.position)) (Some (primary_of p)) o) (holds.primary k)
      ∙ primary_at k
      ∙ ap (λ l. record_at k.path (slice_get l k.position)) (sym (own-push k.txn ps p));
  ordered = ordered;
  parts = λ q m. ⊎_elim (λ n. holds.parts q n) (λ same. rw same long) (member-push q p ps m);
}
  where
    paths_of : (l : List Intent) (b : Bool) → cond b (Some (map path_of l ++ p.path ∷ [])) (any_paths (map path_of l)) ≡ any_paths (map path_of (cond b (l ++ p ∷ []) l))
    paths_of l true = sym (ap any_paths (map-append path_of l (p ∷ [])) ∙ any_paths-push (map path_of l) p.path)
    paths_of l false = refl

    primary_at : (k : RecordKey) → cond (same_path p.path k.path && (nat_eq (txn_of p) k.txn && nat_eq (length (own (txn_of p) ps)) k.position)) (Some (primary_of p)) (record_at k.path (slice_get (own k.txn ps) k.position))
        ≡ record_at k.path (slice_get (cond (is_of k.txn p) (own k.txn ps ++ p ∷ []) (own k.txn ps)) k.position)
    primary_at k = by (is_of k.txn p) refl
      where
        at_end : (b : Bool) (o : Option Intent) → (b ≡ true → o ≡ None)
            → cond (same_path p.path k.path && b) (Some (primary_of p)) (record_at k.path o) ≡ record_at k.path (at_push b p o)
        at_end true o none =
            ap (λ r. cond (same_path p.path k.path && true) (Some (primary_of p)) (record_at k.path r)) (none refl)
            ∙ elim (same_path p.path k.path) as (λ e. cond (e && true) (Some (primary_of p)) None ≡ cond e (Some (primary_of p)) None) [ true ↦ refl | false ↦ refl ]
        at_end false o none =
            elim (same_path p.path k.path) as (λ e. cond (e && false) (Some (primary_of p)) (record_at k.path o) ≡ record_at k.path o) [ true ↦ refl | false ↦ refl ]

        by : (b : Bool) → is_of k.txn p ≡ b → cond (same_path p.path k.path && (b && nat_eq (length (own (txn_of p) ps)) k.position)) (Some (primary_of p)) (record_at k.path (slice_get (own k.txn ps) k.position))
            ≡ record_at k.path (slice_get (cond b (own k.txn ps ++ p ∷ []) (own k.txn ps)) k.position)
        by true is =
            ap (λ y. cond (same_path p.path k.path && nat_eq (length (own y ps)) k.position) (Some (primary_of p)) (record_at k.path (slice_get (own k.txn ps) k.position))) (is_of-txn k.txn p is)
            ∙ at_end (nat_eq (length (own k.txn ps)) k.position) (slice_get (own k.txn ps) k.position) (end_or_none (own k.txn ps) k.position)
            ∙ ap (record_at k.path) (sym (slice_get-after (own k.txn ps) p k.position))
        by false is =
            elim (same_path p.path k.path) as (λ e. cond (e && false) (Some (primary_of p)) (record_at k.path (slice_get (own k.txn ps) k.position)) ≡ record_at k.path (slice_get (own k.txn ps) k.position)) [ true ↦ refl | false ↦ refl ]

-- without the writes of a transaction
pub holds-dropped : (s t : Intents) (ps : List Intent) (x : ℕ) → Holds s ps
    → ((y : ℕ) → get nat_cmp t.metas y ≡ cond (is_at (nat_cmp x) y) None (get nat_cmp s.metas y))
    → ((y : ℕ) → get nat_cmp t.index y ≡ cond (is_at (nat_cmp x) y) None (get nat_cmp s.index y))
    → ((k : RecordKey) → get key_order t.records k ≡ cond (is_listed x (paths_or_none (get nat_cmp s.index x)) k) None (get key_order s.records k))
    → IsOrdered key_order t.records
    → Holds t (filter (λ (p : Intent). not (is_of x p)) ps)
holds-dropped s t ps x holds metas index kept ordered = record {
  metas = λ y.
      metas y
      ∙ ap (λ b. cond b None (get nat_cmp s.metas y)) (is_eq-nat_cmp x y ∙ turned x y)
      ∙ ap (cond (nat_eq y x) None) (holds.metas y)
      ∙ sym (first_meta-without y x ps);
  index = λ y.
      index y
      ∙ ap (λ b. cond b None (get nat_cmp s.index y)) (is_eq-nat_cmp x y ∙ turned x y)
      ∙ ap (cond (nat_eq y x) None) (holds.index y)
      ∙ paths_of (own y ps) (nat_eq y x)
      ∙ ap (λ l. any_paths (map path_of l)) (sym (own-without y x ps));
  primary = λ k.
      kept k
      ∙ ap (λ l. cond (is_listed x l k) None (get key_order s.records k)) (ap paths_or_none (holds.index x) ∙ paths_or_none-any (map path_of (own x ps)))
      ∙ ap (cond (is_listed x (map path_of (own x ps)) k) None) (holds.primary k)
      ∙ primary_at k
      ∙ ap (λ l. record_at k.path (slice_get l k.position)) (sym (own-without k.txn x ps));
  ordered = ordered;
  parts = λ q m. holds.parts q (member-filter (λ (p : Intent). not (is_of x p)) q ps m);
}
  where
    turned : (m n : ℕ) → nat_eq m n ≡ nat_eq n m
    turned m n = grind (arith, nat_tests)

    paths_of : (l : List Intent) (b : Bool) → cond b None (any_paths (map path_of l)) ≡ any_paths (map path_of (cond b [] l))
    paths_of l true = refl
    paths_of l false = refl

    primary_at : (k : RecordKey) → cond (is_listed x (map path_of (own x ps)) k) None (record_at k.path (slice_get (own k.txn ps) k.position))
        ≡ record_at k.path (slice_get (cond (nat_eq k.txn x) [] (own k.txn ps)) k.position)
    primary_at k =
        ap (λ b. cond (b && is_path (slice_get (map path_of (own x ps)) k.position) k.path) None (record_at k.path (slice_get (own k.txn ps) k.position))) (turned x k.txn)
        ∙ by (nat_eq k.txn x) refl
      where
        cancelled : (o : Option Intent) → cond (is_path (option_map path_of o) k.path) None (record_at k.path o) ≡ None
        cancelled None = refl
        cancelled (Some q) = elim (same_path q.path k.path) as (λ e. cond e None (cond e (Some (primary_of q)) None) ≡ None) [ true ↦ refl | false ↦ refl ]

        by : (b : Bool) → nat_eq k.txn x ≡ b → cond (b && is_path (slice_get (map path_of (own x ps)) k.position) k.path) None (record_at k.path (slice_get (own k.txn ps) k.position))
            ≡ record_at k.path (slice_get (cond b [] (own k.txn ps)) k.position)
        by true is =
            let same : x ≡ k.txn = grind (arith, nat_tests, is) in
            ap (λ y. cond (is_path (slice_get (map path_of (own y ps)) k.position) k.path) None (record_at k.path (slice_get (own k.txn ps) k.position))) same
            ∙ ap (λ o. cond (is_path o k.path) None (record_at k.path (slice_get (own k.txn ps) k.position))) (slice_get-map path_of (own k.txn ps) k.position)
            ∙ cancelled (slice_get (own k.txn ps) k.position)
        by false is = refl

-- a transaction without paths has no metadata
pub no_meta : (s : Intents) (ps : List Intent) → Holds s ps → (x : ℕ) → get nat_cmp s.index x ≡ None → get nat_cmp s.metas x ≡ None
no_meta s ps holds x h =
    let none : is_none (first_meta x ps) ≡ true = sym (first_meta-any x ps) ∙ ap is_none (sym (holds.index x)) ∙ ap is_none h in
    holds.metas x ∙ by (first_meta x ps) none
  where
    by : (o : Option Meta) → is_none o ≡ true → o ≡ None
    by None h = refl
    by (Some m) h = cc

-- ---- a place that is not taken yet

at_end_none : (s : Intents) (ps : List Intent) → Holds s ps → (path : Parts) (x : ℕ) (k : RecordKey)
    → is_at (key_order (record { path = path; txn = x; position = length (paths_or_none (get nat_cmp s.index x)) })) k ≡ true
    → get key_order s.records k ≡ None
at_end_none s ps holds path x k h =
    let at = sym (key_at path x (length (paths_or_none (get nat_cmp s.index x))) k) ∙ h in
    let parts = both (same_path path k.path) (nat_eq x k.txn && nat_eq (length (paths_or_none (get nat_cmp s.index x))) k.position) at in
    let rest = both (nat_eq x k.txn) (nat_eq (length (paths_or_none (get nat_cmp s.index x))) k.position) parts.1 in
    let same : x ≡ k.txn = grind (arith, nat_tests, rest.0) in
    let ends : nat_eq (length (own k.txn ps)) k.position ≡ true =
    ap (λ y. nat_eq (length (own y ps)) k.position) (sym same) ∙ ap (λ n. nat_eq n k.position) (sym (count_held s ps holds x)) ∙ rest.1 in
    holds.primary k ∙ ap (record_at k.path) (end_or_none (own k.txn ps) k.position ends)
  where
    both : (a b : Bool) → (a && b) ≡ true → (a ≡ true) × (b ≡ true)
    both true b h = (refl, h)
    both false b h = cc

-- a record that was added and taken back
pub holds-kept : (s t : Intents) (ps : List Intent) (path : Parts) (x : ℕ) (r : PrimaryRecord) → Holds s ps
    → ((y : ℕ) → get nat_cmp t.metas y ≡ get nat_cmp s.metas y)
    → ((y : ℕ) → get nat_cmp t.index y ≡ get nat_cmp s.index y)
    → ((k : RecordKey) → get key_order t.records k ≡ cond (is_at (key_order (record { path = path; txn = x; position = length (paths_or_none (get nat_cmp s.index x)) })) k) None
    (cond (is_at (key_order (record { path = path; txn = x; position = length (paths_or_none (get nat_cmp s.index x)) })) k) (Some r) (get key_order s.records k)))
    → IsOrdered key_order t.records
    → Holds t ps
holds-kept s t ps path x r holds metas index kept ordered = record {
  metas = λ y. metas y ∙ holds.metas y;
  index = λ y. index y ∙ holds.index y;
  primary = λ k. kept k
      ∙ by (get key_order s.records k) (is_at (key_order (record { path = path; txn = x; position = length (paths_or_none (get nat_cmp s.index x)) })) k) (at_end_none s ps holds path x k)
      ∙ holds.primary k;
  ordered = ordered;
  parts = holds.parts;
}
  where
    by : (o : Option PrimaryRecord) (b : Bool) → (b ≡ true → o ≡ None) → cond b None (cond b (Some r) o) ≡ o
    by o true none = sym (none refl)
    by o false none = refl

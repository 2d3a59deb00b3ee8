-- The records of a transaction, as they are read.
use Rattle.std.proofs.Common.{◌≡◌, ℕ, ◌+◌, List, [], ◌∷◌, ◌++◌, Option, Some, None, refl, sym, ap, ◌∙◌, take}
use Rattle.std.specs.Prelude.{slice_get, map, cond, option_map}
use Rattle.std.specs.BTreeMap.{get}
use Rattle.std.specs.Ordering.{nat_cmp}
use Rattle.std.proofs.lemmas.List.{map-append, take_more}
use Rattle.std.proofs.lemmas.Option.{slice_get-map, slice_get_within, get_or_from_slice_get}
use Rattle.doc_path.specs.Path.{Parts}
use Rattle.txn_data.specs.declared.op.Op.{Op}
use Rattle.txn_data.specs.declared.provisional.Provisional.{Provisional}
use Rattle.txn_types.specs.Tablet.{Intent, txn_of, same_path}
use Rattle.intent_records.specs.declared.intents.Intents.{Intents}
use Rattle.intent_records.specs.declared.primary_record.PrimaryRecord.{PrimaryRecord}
use Rattle.intent_records.specs.Holds.{Holds, own, path_of, primary_of, provisional_of, record_at, any_paths}
use Rattle.intent_records.specs.Keys.{key_order}
use Rattle.intent_records.proofs.Between.{same_path-itself}
use Rattle.intent_records.proofs.Writes.{is_of-txn, own-member}

some_paths : (l m : List Parts) → any_paths l ≡ Some m → m ≡ l
some_paths [] m h = cc
some_paths (p ∷ l) m h = cc

pub paths-held : (s : Intents) (ps : List Intent) → Holds s ps → (x : ℕ) (paths : List Parts) → get nat_cmp s.index x ≡ Some paths → paths ≡ map path_of (own x ps)
paths-held s ps holds x paths h = some_paths (map path_of (own x ps)) paths (sym (holds.index x) ∙ h)

no_paths : (l : List Intent) → any_paths (map path_of l) ≡ None → l ≡ []
no_paths [] h = refl
no_paths (p ∷ l) h = cc

pub none-held : (s : Intents) (ps : List Intent) → Holds s ps → (x : ℕ) → get nat_cmp s.index x ≡ None → own x ps ≡ []
none-held s ps holds x h = no_paths (own x ps) (sym (holds.index x) ∙ h)

option_map-some : (o : Option Intent) (path : Parts) → option_map path_of o ≡ Some path → (p : Intent) × ((o ≡ Some p) × (p.path ≡ path))
option_map-some None path h = cc
option_map-some (Some p) path h = (p, (refl, cc))

-- the write at a position of those of a transaction, and its record
pub write-held : (s : Intents) (ps : List Intent) → Holds s ps → (x i : ℕ) (path : Parts) (paths : List Parts)
    → get nat_cmp s.index x ≡ Some paths → slice_get paths i ≡ Some path
    → (p : Intent) × ((slice_get (own x ps) i ≡ Some p) × (p.path ≡ path) × (txn_of p ≡ x) × (get key_order s.records (record { path = path; txn = x; position = i }) ≡ Some (primary_of p)))
write-held s ps holds x i path paths h at =
    let place = sym (slice_get-map path_of (own x ps) i) ∙ ap (λ l. slice_get l i) (sym (paths-held s ps holds x paths h)) ∙ at in
    let write = option_map-some (slice_get (own x ps) i) path place in
    let p = write.0 in
    let member = own-member x ps i p write.1.0 in (
      p,
      (
        write.1.0,
        write.1.1,
        is_of-txn x p member.1,
        holds.primary (record { path = path; txn = x; position = i })
            ∙ ap (record_at path) write.1.0
            ∙ ap (λ q. cond (same_path q path) (Some (primary_of p)) None) write.1.1
            ∙ ap (λ b. cond b (Some (primary_of p)) None) (same_path-itself path),
      ),
    )

pub read-more : (xs : List Intent) (i : ℕ) (p : Intent) (list after : List Provisional) (v : Provisional)
    → slice_get xs i ≡ Some p → list ≡ map provisional_of (take i xs) → after ≡ list ++ v ∷ [] → v ≡ provisional_of p
    → after ≡ map provisional_of (take (i + 1) xs)
read-more xs i p list after v at so_far more is =
    more
    ∙ ap (λ l. l ++ v ∷ []) so_far
    ∙ ap (λ w. map provisional_of (take i xs) ++ w ∷ []) is
    ∙ sym (map-append provisional_of (take i xs) (p ∷ []))
    ∙ ap (λ q. map provisional_of (take i xs ++ q ∷ [])) (sym (get_or_from_slice_get xs i p p at))
    ∙ ap (map provisional_of) (sym (take_more xs i p (slice_get_within xs i p at)))

pub copy-held : (path : Parts) (x : ℕ) (p : Intent) (r : PrimaryRecord) (op : Op) → p.path ≡ path → txn_of p ≡ x → r ≡ primary_of p → op ≡ r.op
    → (record { path = path; txn = x; wrote = r.wrote; number = r.number; op = op }) ≡ provisional_of p
copy-held path x p r op same_path same_txn same copied =
    let whole = copied ∙ ap (λ (q : PrimaryRecord). q.op) same in
    λ i. record { path = sym same_path i; txn = sym same_txn i; wrote = (same i).wrote; number = (same i).number; op = whole i }

-- Keys by their path, their transaction and their position.
use Rattle.std.proofs.Common.{◌≡◌, ℕ, zero, suc, Bool, true, false, ◌&&◌, ◌||◌, List, [], ◌∷◌, ◌++◌, Option, Some, None, length, refl, sym, ap, ◌∙◌, nat_eq}
use Rattle.std.specs.Prelude.{slice_get, cond}
use Rattle.std.specs.BTreeMap.{is_at}
use Rattle.std.specs.Ordering.{nat_cmp, is_eq, ordering_then}
use Rattle.std.specs.declared.cmp.Ordering.{Ordering}
use Rattle.std.specs.declared.cmp.Ordering.TheVariants.{Less, Equal, Greater}
use Rattle.std.specs.Str.{bytes_eq}
use Rattle.doc_path.specs.Path.{Parts, byte_order, path_order, order_then}
use Rattle.txn_types.specs.Tablet.{same_path}
use Rattle.intent_records.specs.declared.primary_record.PrimaryRecord.{PrimaryRecord}
use Rattle.intent_records.specs.declared.record_key.RecordKey.{RecordKey}
use Rattle.intent_records.specs.Keys.{key_order}
use Rattle.intent_records.specs.Steps.{is_path, is_listed}
use Rattle.intent_records.proofs.Between.{bytes_eq-order, is_eq-nat_cmp, after_none, before_some, both_more, same_path-cons}

is_eq-order_then : (o r : Ordering) → is_eq (order_then o r) ≡ (is_eq o && is_eq r)
is_eq-order_then Less r = refl
is_eq-order_then Equal r = refl
is_eq-order_then Greater r = refl

is_eq-then : (o r : Ordering) → is_eq (ordering_then o r) ≡ (is_eq o && is_eq r)
is_eq-then Less r = refl
is_eq-then Equal r = refl
is_eq-then Greater r = refl

is_eq-path_order : (p q : Parts) → is_eq (path_order p q) ≡ same_path p q
is_eq-path_order [] [] = refl
is_eq-path_order [] (b ∷ q) = refl
is_eq-path_order (a ∷ p) [] = refl
is_eq-path_order (a ∷ p) (b ∷ q) =
    is_eq-order_then (byte_order a b) (path_order p q)
    ∙ ap (λ x. x && is_eq (path_order p q)) (sym (bytes_eq-order a b))
    ∙ ap (λ x. bytes_eq a b && x) (is_eq-path_order p q)
    ∙ sym (same_path-cons a b p q)

-- a key is found by its path, its transaction and its position
pub key_at : (path : Parts) (txn position : ℕ) (k : RecordKey)
    → is_at (key_order (record { path = path; txn = txn; position = position })) k ≡ (same_path path k.path && (nat_eq txn k.txn && nat_eq position k.position))
key_at path txn position k =
    is_eq-then (path_order path k.path) (ordering_then (nat_cmp txn k.txn) (nat_cmp position k.position))
    ∙ ap (λ x. x && is_eq (ordering_then (nat_cmp txn k.txn) (nat_cmp position k.position))) (is_eq-path_order path k.path)
    ∙ ap (λ x. same_path path k.path && x) (is_eq-then (nat_cmp txn k.txn) (nat_cmp position k.position) ∙ rw (is_eq-nat_cmp txn k.txn, is_eq-nat_cmp position k.position) refl)

-- whether a place is the end, past the end or before it, what stands there after one more
abbrev pub at_push : {A : Type 0} → Bool → A → Option A → Option A
at_push true x o = Some x
at_push false x o = o

pub slice_get-after : {A : Type 0} (xs : List A) (x : A) (i : ℕ) → slice_get (xs ++ x ∷ []) i ≡ at_push (nat_eq (length xs) i) x (slice_get xs i)
slice_get-after [] x zero = refl
slice_get-after [] x (suc i) = sym (ap (λ b. at_push b x None) (before_some i))
slice_get-after (y ∷ xs) x zero = sym (ap (λ b. at_push b x (Some y)) (after_none (length xs)))
slice_get-after (y ∷ xs) x (suc i) = slice_get-after xs x i ∙ ap (λ b. at_push b x (slice_get xs i)) (sym (both_more (length xs) i))

pub end_or_none : {A : Type 0} (xs : List A) (i : ℕ) → nat_eq (length xs) i ≡ true → slice_get xs i ≡ None
end_or_none [] i h = refl
end_or_none (y ∷ xs) zero h = let e : true ≡ false = sym h ∙ after_none (length xs) in cc
end_or_none (y ∷ xs) (suc i) h = end_or_none xs i (sym (both_more (length xs) i) ∙ h)

-- the key of one more record of a transaction
pub listed-push : (x : ℕ) (paths : List Parts) (path : Parts) (k : RecordKey)
    → is_listed x (paths ++ path ∷ []) k ≡ (is_listed x paths k || is_at (key_order (record { path = path; txn = x; position = length paths })) k)
listed-push x paths path k =
    ap (λ o. nat_eq x k.txn && is_path o k.path) (slice_get-after paths path k.position)
    ∙ by (nat_eq x k.txn) (nat_eq (length paths) k.position) (slice_get paths k.position) (end_or_none paths k.position)
    ∙ ap (λ b. is_listed x paths k || b) (sym (key_at path x (length paths) k))
  where
    and_false : (s : Bool) → false ≡ (s && false)
    and_false true = refl
    and_false false = refl

    and_true : (s : Bool) → s ≡ (s && true)
    and_true true = refl
    and_true false = refl

    or_and_false : (i s : Bool) → i ≡ (i || (s && false))
    or_and_false true s = refl
    or_and_false false true = refl
    or_and_false false false = refl

    by : (a b : Bool) (o : Option Parts) → (b ≡ true → o ≡ None)
        → (a && is_path (at_push b path o) k.path) ≡ ((a && is_path o k.path) || (same_path path k.path && (a && b)))
    by false b o none = and_false (same_path path k.path)
    by true true o none = and_true (same_path path k.path) ∙ ap (λ r. is_path r k.path || (same_path path k.path && true)) (sym (none refl))
    by true false o none = or_and_false (is_path o k.path) (same_path path k.path)

not_listed : (x : ℕ) (k : RecordKey) → is_listed x [] k ≡ false
not_listed x k = elim (nat_eq x k.txn) as (λ b. (b && false) ≡ false) [ true ↦ refl | false ↦ refl ]

pub none_listed : (x : ℕ) (k : RecordKey) (o : Option PrimaryRecord) → cond (is_listed x [] k) None o ≡ o
none_listed x k o = ap (λ b. cond b None o) (not_listed x k)

cond_or : (a b : Bool) (o : Option PrimaryRecord) → cond a None (cond b None o) ≡ cond (a || b) None o
cond_or true b o = refl
cond_or false b o = refl

-- the last path is taken out with its record
pub listed-pop : (x : ℕ) (paths rest : List Parts) (path : Parts) (k : RecordKey) (n : ℕ) (o r : Option PrimaryRecord)
    → paths ≡ rest ++ path ∷ [] → n ≡ length rest
    → r ≡ cond (is_at (key_order (record { path = path; txn = x; position = n })) k) None o
    → cond (is_listed x rest k) None r ≡ cond (is_listed x paths k) None o
listed-pop x paths rest path k n o r whole last removed =
    ap (cond (is_listed x rest k) None) removed
    ∙ ap (λ m. cond (is_listed x rest k) None (cond (is_at (key_order (record { path = path; txn = x; position = m })) k) None o)) last
    ∙ cond_or (is_listed x rest k) (is_at (key_order (record { path = path; txn = x; position = length rest })) k) o
    ∙ ap (λ b. cond b None o) (sym (listed-push x rest path k))
    ∙ ap (λ l. cond (is_listed x l k) None o) (sym whole)

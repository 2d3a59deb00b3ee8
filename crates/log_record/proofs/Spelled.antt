-- The fields of a record, each with its spelling.
use Rattle.std.proofs.Common.{◌≡◌, ℕ, ◌+◌, ◌/◌, ◌%◌, ◌^◌, ◌≤◌, ◌⊎◌, Bool, true, cond, eqb, leb, List, [], ◌∷◌, ◌++◌, length, Option, Some, None, Ok, Err, refl, ap, subst, ◌∙◌, arith, inl, inr}
use Rattle.std.specs.List.{flat_map, list_all, AllByRecursion}
use Rattle.std.proofs.lemmas.Bool.{eqb-true, and_parts, leb-true, le-leb}
use Rattle.doc_path.specs.Path.{Parts}
use Rattle.txn_data.specs.declared.isolation.Isolation.{Isolation}
use Rattle.txn_data.specs.declared.isolation.Isolation.TheVariants.{Snapshot}
use Rattle.txn_data.specs.declared.meta.Meta.{Meta}
use Rattle.txn_data.specs.declared.op.Op.{Op}
use Rattle.txn_data.specs.declared.op.Op.TheVariants.{Put, Delete}
use Rattle.log_record.specs.declared.record_refusal.RecordRefusal.TheVariants.{BadFlag}
use Rattle.log_record.specs.Spelling.{u32_spelling, u64_spelling, id_spelling, isolation_spelling, bytes_spelling, path_spelling, op_spelling, tablets_spelling, by_spelling, meta_spelling, is_within, are_bytes, is_path, is_op, IsU32, IsU64, IsId, IsBy, IsMeta}
use Rattle.log_record.specs.Reading.{Reader, each, ◌>>=◌, offset, nothing, ◌>>◌, made, flagged, byte_at, bytes_of, u32_at, u64_at, id_of, id_at, isolation_at, bytes_at, path_at, op_at, tablets_at, by_at, meta_of, meta_at, IsBytes}
use Rattle.log_record.proofs.Steps.{IsBytes-behind, chosen, ok_is, wide32, wide64}
use Rattle.log_record.proofs.Exact.{Extends, offset-more, extends_cond, Exact, made_takes, made_extends, exact_then, exact_made, exact_under, exact_each, exact_sized, exact_bytes, exact_number}

pub exact_u32 : Exact u32_at u32_spelling IsU32
unfolding u32_spelling
exact_u32 = exact_number _ (2 ^ 32) wide32

pub exact_u64 : Exact u64_at u64_spelling IsU64
unfolding u64_spelling
exact_u64 = exact_number _ (2 ^ 64) wide64

abbrev halves : ℕ → ℕ × ℕ
halves x = (x / 2 ^ 64, x % 2 ^ 64)

halves_of : (p : ℕ × ℕ) → IsU64 p.0 × IsU64 p.1 → halves (id_of p) ≡ p
halves_of p fits =
    let high : id_of p / 2 ^ 64 ≡ p.0 = omega (arith, fits.0, fits.1) in
    let low : id_of p % 2 ^ 64 ≡ p.1 = omega (arith, fits.0, fits.1) in
    rw (high, low) refl

pub exact_id : Exact id_at id_spelling IsId
exact_id = exact_made (u64_at >> u64_at) (λ (p : ℕ × ℕ). u64_spelling p.0 ++ u64_spelling p.1) (λ (p : ℕ × ℕ). IsU64 p.0 × IsU64 p.1) id_of halves IsId
    (exact_then u64_at u64_at u64_spelling u64_spelling IsU64 IsU64 exact_u64 exact_u64) halves_of
    (λ p fits. omega (arith, fits.0, fits.1)) (λ x fits. (omega arith, omega arith)) (λ x fits. omega arith)

-- ---- an isolation

isolation_takes : (whole : ℕ) (bytes : List ℕ) (x : Isolation) (rest : List ℕ) → IsBytes bytes → isolation_at whole bytes ≡ Ok (x, rest) → Unit {0} × (bytes ≡ isolation_spelling x ++ rest)
unfolding isolation_at
isolation_takes whole [] x rest fits e = absurd cc
isolation_takes whole (flag ∷ bytes) x rest fits e =
    elim (chosen (eqb flag 0) (Ok (Snapshot, bytes)) (Err (BadFlag (offset whole (flag ∷ bytes)))) (Ok (x, rest)) e) [
      | inl a ↦
          let p = ok_is (Snapshot, bytes) (x, rest) a.1 in
          subst (λ (t : Isolation × List ℕ). Unit {0} × (flag ∷ bytes ≡ isolation_spelling t.0 ++ t.1)) p (tt, ap (λ (b : ℕ). b ∷ bytes) (eqb-true flag 0 a.0))
      | inr a ↦ absurd cc
    ]

isolation_again : (whole : ℕ) (x : Isolation) (rest : List ℕ) → Unit {0} → isolation_at whole (isolation_spelling x ++ rest) ≡ Ok (x, rest)
unfolding isolation_at
isolation_again whole Snapshot rest good = refl

isolation_extends : (whole : ℕ) (bytes more : List ℕ) → Extends whole more (isolation_at whole bytes) (isolation_at (whole + length more) (bytes ++ more))
unfolding isolation_at
isolation_extends whole [] more = refl
isolation_extends whole (flag ∷ bytes) more =
    extends_cond whole more (eqb flag 0) _ _ _ _ refl (ap (λ (k : ℕ). Err (BadFlag k)) (offset-more whole (flag ∷ bytes) more))

pub exact_isolation : Exact isolation_at isolation_spelling (λ (i : Isolation). Unit {0})
exact_isolation = record { takes = isolation_takes; again = isolation_again; extends = isolation_extends }

-- ---- bytes behind their length, paths and tablets

within_is : (least most n : ℕ) → is_within least most n ≡ true → (least ≤ n) × (n ≤ most)
within_is least most n e =
    let both = and_parts (leb least n) (leb n most) e in
    (leb-true _ _ both.0, leb-true _ _ both.1)

all_pass : {A : Type 0} (test : A → Bool) (xs : List A) → AllByRecursion (λ x. test x ≡ true) xs → list_all test xs ≡ true
all_pass test [] each = refl
all_pass test (x ∷ xs) each = rw (each.0, all_pass test xs each.1) refl

each_passes : {A : Type 0} (test : A → Bool) (xs : List A) → list_all test xs ≡ true → AllByRecursion (λ x. test x ≡ true) xs
each_passes test [] all = tt
each_passes test (x ∷ xs) all =
    let both = and_parts (test x) (list_all test xs) all in
    (both.0, each_passes test xs both.1)

abbrev AreBytes : List ℕ → Type 0
AreBytes bytes = are_bytes bytes ≡ true

pub exact_lengthy : Exact bytes_at bytes_spelling AreBytes
exact_lengthy =
    exact_under bytes_at bytes_spelling (λ (bytes : List ℕ). IsU32 (length bytes) × Unit {0} × AreBytes bytes) AreBytes
    (exact_sized u32_at u32_spelling IsU32 1 65536 bytes_of (λ (bytes : List ℕ). bytes) (λ (bytes : List ℕ). Unit {0}) (λ (bytes : List ℕ). length bytes) exact_u32
    (λ n. exact_under (bytes_of n) (λ (bytes : List ℕ). bytes) (λ (bytes : List ℕ). length bytes ≡ n) (λ (bytes : List ℕ). Unit {0} × (length bytes ≡ n)) (exact_bytes n) (λ x len. (tt, len)) (λ x good. good.1)))
    (λ x good. good.2) (λ x good. let within = within_is 1 65536 (length x) good in (omega (arith, within.1), tt, good))

byte_takes : (whole : ℕ) (bytes : List ℕ) (x : ℕ) (rest : List ℕ) → IsBytes bytes → byte_at whole bytes ≡ Ok (x, rest) → Unit {0} × (bytes ≡ (x ∷ []) ++ rest)
unfolding byte_at
byte_takes whole [] x rest fits e = absurd cc
byte_takes whole (b ∷ bytes) x rest fits e =
    let p = ok_is (b, bytes) (x, rest) e in
    (tt, ap (λ (t : ℕ × List ℕ). t.0 ∷ t.1) p)

byte_again : (whole x : ℕ) (rest : List ℕ) → Unit {0} → byte_at whole ((x ∷ []) ++ rest) ≡ Ok (x, rest)
unfolding byte_at
byte_again whole x rest good = refl

byte_extends : (whole : ℕ) (bytes more : List ℕ) → Extends whole more (byte_at whole bytes) (byte_at (whole + length more) (bytes ++ more))
unfolding byte_at
byte_extends whole [] more = refl
byte_extends whole (b ∷ bytes) more = refl

exact_byte : Exact byte_at (λ (b : ℕ). b ∷ []) (λ (b : ℕ). Unit {0})
exact_byte = record { takes = byte_takes; again = byte_again; extends = byte_extends }

abbrev pub IsPath : Parts → Type 0
IsPath path = is_path path ≡ true

path_good : (path : Parts) → Unit {0} × AllByRecursion AreBytes path × (is_within 1 5 (length path) ≡ true) → IsPath path
path_good path good = rw (good.2, all_pass are_bytes path good.1) refl

path_parts : (path : Parts) → IsPath path → Unit {0} × AllByRecursion AreBytes path × (is_within 1 5 (length path) ≡ true)
path_parts path good =
    let both = and_parts (is_within 1 5 (length path)) (list_all are_bytes path) good in
    (tt, each_passes are_bytes path both.1, both.0)

pub exact_path : Exact path_at path_spelling IsPath
exact_path =
    exact_under path_at path_spelling (λ (path : Parts). Unit {0} × AllByRecursion AreBytes path × (is_within 1 5 (length path) ≡ true)) IsPath
    (exact_sized byte_at (λ (b : ℕ). b ∷ []) (λ (b : ℕ). Unit {0}) 1 5 (each bytes_at) (flat_map bytes_spelling) (AllByRecursion AreBytes) (λ (path : Parts). length path) exact_byte
    (exact_each bytes_at bytes_spelling AreBytes exact_lengthy)) path_good path_parts

abbrev pub AreTablets : List ℕ → Type 0
AreTablets tablets = AllByRecursion IsU32 tablets × (leb (length tablets) 64 ≡ true)

tablets_parts : (tablets : List ℕ) → AreTablets tablets → IsU32 (length tablets) × AllByRecursion IsU32 tablets × (is_within 0 64 (length tablets) ≡ true)
tablets_parts tablets good =
    let few : length tablets ≤ 64 = leb-true _ _ good.1 in
    (omega (arith, few), good.0, rw (le-leb 0 (length tablets) (omega arith), good.1) refl)

tablets_good : (tablets : List ℕ) → IsU32 (length tablets) × AllByRecursion IsU32 tablets × (is_within 0 64 (length tablets) ≡ true) → AreTablets tablets
tablets_good tablets good = (good.1, (and_parts (leb 0 (length tablets)) (leb (length tablets) 64) good.2).1)

pub exact_tablets : Exact tablets_at tablets_spelling AreTablets
exact_tablets =
    exact_under tablets_at tablets_spelling (λ (tablets : List ℕ). IsU32 (length tablets) × AllByRecursion IsU32 tablets × (is_within 0 64 (length tablets) ≡ true)) AreTablets
    (exact_sized u32_at u32_spelling IsU32 0 64 (each u32_at) (flat_map u32_spelling) (AllByRecursion IsU32) (λ (tablets : List ℕ). length tablets) exact_u32 (exact_each u32_at u32_spelling IsU32 exact_u32))
    tablets_good tablets_parts

-- ---- behind a flag

-- which of the two was read
abbrev Flagged : {A : Type 0} → Reader A → Reader A → ℕ → List ℕ → A → List ℕ → Type 0
Flagged off on whole bytes x rest =
    ((behind : List ℕ) × (bytes ≡ 0 ∷ behind) × (off whole behind ≡ Ok (x, rest))) ⊎ ((behind : List ℕ) × (bytes ≡ 1 ∷ behind) × (on whole behind ≡ Ok (x, rest)))

flagged_takes : {A : Type 0} (off on : Reader A) (whole : ℕ) (bytes : List ℕ) (x : A) (rest : List ℕ) → flagged off on whole bytes ≡ Ok (x, rest) → Flagged off on whole bytes x rest
unfolding flagged
flagged_takes off on whole [] x rest e = absurd cc
flagged_takes off on whole (flag ∷ bytes) x rest e =
    elim (chosen (eqb flag 0) (off whole bytes) (cond (eqb flag 1) (on whole bytes) (Err (BadFlag (offset whole (flag ∷ bytes))))) (Ok (x, rest)) e) [
      | inl a ↦ inl (bytes, ap (λ (b : ℕ). b ∷ bytes) (eqb-true flag 0 a.0), a.1)
      | inr a ↦ elim (chosen (eqb flag 1) (on whole bytes) (Err (BadFlag (offset whole (flag ∷ bytes)))) (Ok (x, rest)) a.1) [
        | inl b ↦ inr (bytes, ap (λ (b : ℕ). b ∷ bytes) (eqb-true flag 1 b.0), b.1)
        | inr b ↦ absurd cc
      ]
    ]

flagged_extends : {A : Type 0} (off on : Reader A) (whole : ℕ) (bytes more : List ℕ) → ((behind : List ℕ) → Extends whole more (off whole behind) (off (whole + length more) (behind ++ more)))
    → ((behind : List ℕ) → Extends whole more (on whole behind) (on (whole + length more) (behind ++ more))) → Extends whole more (flagged off on whole bytes) (flagged off on (whole + length more) (bytes ++ more))
unfolding flagged
flagged_extends off on whole [] more ho hn = refl
flagged_extends off on whole (flag ∷ bytes) more ho hn =
    extends_cond whole more (eqb flag 0) _ _ _ _ (ho bytes)
    (extends_cond whole more (eqb flag 1) _ _ _ _ (hn bytes) (ap (λ (k : ℕ). Err (BadFlag k)) (offset-more whole (flag ∷ bytes) more)))

abbrev pub IsOp : Op → Type 0
IsOp op = is_op op ≡ true

op_takes : (whole : ℕ) (bytes : List ℕ) (x : Op) (rest : List ℕ) → IsBytes bytes → op_at whole bytes ≡ Ok (x, rest) → IsOp x × (bytes ≡ op_spelling x ++ rest)
op_takes whole bytes x rest fits e =
    elim (flagged_takes (nothing Delete) (made Put bytes_at) whole bytes x rest e) [
      | inl a ↦
          let p = ok_is (Delete, a.0) (x, rest) a.2 in
          subst (λ (t : Op × List ℕ). IsOp t.0 × (bytes ≡ op_spelling t.0 ++ t.1)) p (refl, a.1)
      | inr a ↦
          let m = made_takes bytes_at Put whole a.0 x rest a.2 in
          let t = exact_lengthy.takes whole a.0 m.0 rest (IsBytes-behind bytes (1 ∷ []) a.0 a.1 fits) m.1 in
          subst (λ (o : Op). IsOp o × (bytes ≡ op_spelling o ++ rest)) m.2 (t.0, a.1 ∙ ap (λ (u : List ℕ). 1 ∷ u) t.1)
    ]

op_again : (whole : ℕ) (x : Op) (rest : List ℕ) → IsOp x → op_at whole (op_spelling x ++ rest) ≡ Ok (x, rest)
unfolding flagged
op_again whole Delete rest good = refl
op_again whole (Put value) rest good = rw (exact_lengthy.again whole value rest good) refl

pub exact_op : Exact op_at op_spelling IsOp
exact_op = record {
  takes = op_takes;
  again = op_again;
  extends = λ whole bytes more. flagged_extends (nothing Delete) (made Put bytes_at) whole bytes more (λ behind. refl) (λ behind. made_extends bytes_at Put whole behind more (exact_lengthy.extends whole behind more));
}

by_takes : (whole : ℕ) (bytes : List ℕ) (x : Option ℕ) (rest : List ℕ) → IsBytes bytes → by_at whole bytes ≡ Ok (x, rest) → IsBy x × (bytes ≡ by_spelling x ++ rest)
by_takes whole bytes x rest fits e =
    elim (flagged_takes (nothing None) (made Some id_at) whole bytes x rest e) [
      | inl a ↦
          let p = ok_is (None, a.0) (x, rest) a.2 in
          subst (λ (t : Option ℕ × List ℕ). IsBy t.0 × (bytes ≡ by_spelling t.0 ++ t.1)) p (tt, a.1)
      | inr a ↦
          let m = made_takes id_at Some whole a.0 x rest a.2 in
          let t = exact_id.takes whole a.0 m.0 rest (IsBytes-behind bytes (1 ∷ []) a.0 a.1 fits) m.1 in
          subst (λ (o : Option ℕ). IsBy o × (bytes ≡ by_spelling o ++ rest)) m.2 (t.0, a.1 ∙ ap (λ (u : List ℕ). 1 ∷ u) t.1)
    ]

by_again : (whole : ℕ) (x : Option ℕ) (rest : List ℕ) → IsBy x → by_at whole (by_spelling x ++ rest) ≡ Ok (x, rest)
unfolding flagged
by_again whole None rest good = refl
by_again whole (Some by) rest good = ap (λ r. r >>= λ x. Ok (Some x.0, x.1)) (exact_id.again whole by rest good)

pub exact_by : Exact by_at by_spelling IsBy
exact_by = record {
  takes = by_takes;
  again = by_again;
  extends = λ whole bytes more. flagged_extends (nothing None) (made Some id_at) whole bytes more (λ behind. refl) (λ behind. made_extends id_at Some whole behind more (exact_id.extends whole behind more));
}

-- ---- what a write says of its transaction

abbrev meta_parts : Meta → ℕ × (ℕ × (Isolation × ℕ))
meta_parts meta = (meta.txn, (meta.status, (meta.isolation, meta.priority)))

abbrev MetaFields : ℕ × (ℕ × (Isolation × ℕ)) → Type 0
MetaFields f = IsId f.0 × (IsU32 f.1.0 × (Unit {0} × IsU32 f.1.1.1))

pub exact_meta : Exact meta_at meta_spelling IsMeta
exact_meta =
    exact_made (id_at >> u32_at >> isolation_at >> u32_at) (λ (f : ℕ × (ℕ × (Isolation × ℕ))). id_spelling f.0 ++ (u32_spelling f.1.0 ++ (isolation_spelling f.1.1.0 ++ u32_spelling f.1.1.1)))
    MetaFields meta_of meta_parts IsMeta
    (exact_then id_at (u32_at >> isolation_at >> u32_at) id_spelling _ IsId _ exact_id
    (exact_then u32_at (isolation_at >> u32_at) u32_spelling _ IsU32 _ exact_u32
    (exact_then isolation_at u32_at isolation_spelling u32_spelling _ IsU32 exact_isolation exact_u32)))
    (λ f good. refl) (λ f good. (good.0, good.1.0, good.1.1.1)) (λ meta good. (good.0, (good.1, (tt, good.2)))) (λ meta good. refl)

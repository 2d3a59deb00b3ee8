-- Records: what is read is spelled so, what is spelled is read.
use Rattle.std.proofs.Common.{◌≡◌, ℕ, ◌+◌, true, eqb, IsTrue, List, [], ◌∷◌, ◌++◌, length, Option, Result, Ok, Err, refl, sym, ap, subst, ◌∙◌, arith, inl, inr}
use Rattle.std.specs.Prelude.{IfOk}
use Rattle.std.proofs.lemmas.Bool.{eqb-true, and_parts}
use Rattle.std.proofs.lemmas.List.{append-nil, length-append}
use Rattle.doc_path.specs.Path.{Parts}
use Rattle.txn_data.specs.declared.isolation.Isolation.{Isolation}
use Rattle.txn_data.specs.declared.meta.Meta.{Meta}
use Rattle.txn_data.specs.declared.op.Op.{Op}
use Rattle.log_record.specs.declared.log_record.LogRecord.{LogRecord}
use Rattle.log_record.specs.declared.log_record.LogRecord.TheVariants.{Lease, Write, Apply, Clean, Single, Begin, Commit, Abort, Forget}
use Rattle.log_record.specs.declared.record_refusal.RecordRefusal.{RecordRefusal}
use Rattle.log_record.specs.declared.record_refusal.RecordRefusal.TheVariants.{BadKind, Truncated, Spare}
use Rattle.log_record.specs.Spelling.{u32_spelling, u64_spelling, id_spelling, isolation_spelling, path_spelling, op_spelling, tablets_spelling, by_spelling, meta_spelling, spelling, has_spelling, is_path, is_op, IsU32, IsU64, IsId, IsBy, IsMeta, IsInRange, Spells}
use Rattle.log_record.specs.Reading.{Reader, Read, Gives, Foretells, ◌>>=◌, ◌>>◌, made, u32_at, u64_at, id_at, isolation_at, path_at, op_at, tablets_at, by_at, meta_at, write_of, apply_of, single_of, begin_of, commit_of, abort_of, record_at, ended, record_of, IsBytes}
use Rattle.log_record.proofs.Steps.{IsBytes-behind, bind_ok, chosen, ok_is}
use Rattle.log_record.proofs.Exact.{Extends, offset-more, extends_cond, Exact, made_takes, made_extends, exact_then}
use Rattle.log_record.proofs.Spelled.{exact_u32, exact_u64, exact_id, exact_isolation, exact_path, exact_op, exact_tablets, exact_by, exact_meta, IsPath, IsOp, AreTablets}

-- ---- the fields of each kind

exact_change : Exact (path_at >> op_at) (λ (f : Parts × Op). path_spelling f.0 ++ op_spelling f.1) (λ (f : Parts × Op). IsPath f.0 × IsOp f.1)
exact_change = exact_then path_at op_at path_spelling op_spelling IsPath IsOp exact_path exact_op

exact_placed : Exact (u64_at >> path_at >> op_at) (λ (f : ℕ × (Parts × Op)). u64_spelling f.0 ++ (path_spelling f.1.0 ++ op_spelling f.1.1)) (λ (f : ℕ × (Parts × Op)). IsU64 f.0 × (IsPath f.1.0 × IsOp f.1.1))
exact_placed = exact_then u64_at (path_at >> op_at) u64_spelling _ IsU64 _ exact_u64 exact_change

abbrev WriteFields : Type 0
WriteFields = Meta × (ℕ × (ℕ × (Parts × Op)))

abbrev write_spelling : WriteFields → List ℕ
write_spelling f = meta_spelling f.0 ++ (u32_spelling f.1.0 ++ (u64_spelling f.1.1.0 ++ (path_spelling f.1.1.1.0 ++ op_spelling f.1.1.1.1)))

abbrev WriteGood : WriteFields → Type 0
WriteGood f = IsMeta f.0 × (IsU32 f.1.0 × (IsU64 f.1.1.0 × (IsPath f.1.1.1.0 × IsOp f.1.1.1.1)))

exact_write : Exact (meta_at >> u32_at >> u64_at >> path_at >> op_at) write_spelling WriteGood
exact_write = exact_then meta_at (u32_at >> u64_at >> path_at >> op_at) meta_spelling _ IsMeta _ exact_meta (exact_then u32_at (u64_at >> path_at >> op_at) u32_spelling _ IsU32 _ exact_u32 exact_placed)

exact_apply : Exact (id_at >> u64_at) (λ (f : ℕ × ℕ). id_spelling f.0 ++ u64_spelling f.1) (λ (f : ℕ × ℕ). IsId f.0 × IsU64 f.1)
exact_apply = exact_then id_at u64_at id_spelling u64_spelling IsId IsU64 exact_id exact_u64

exact_single : Exact (id_at >> u64_at >> path_at >> op_at) (λ (f : ℕ × (ℕ × (Parts × Op))). id_spelling f.0 ++ (u64_spelling f.1.0 ++ (path_spelling f.1.1.0 ++ op_spelling f.1.1.1)))
    (λ (f : ℕ × (ℕ × (Parts × Op))). IsId f.0 × (IsU64 f.1.0 × (IsPath f.1.1.0 × IsOp f.1.1.1)))
exact_single = exact_then id_at (u64_at >> path_at >> op_at) id_spelling _ IsId _ exact_id exact_placed

exact_begin : Exact (id_at >> isolation_at >> u32_at) (λ (f : ℕ × (Isolation × ℕ)). id_spelling f.0 ++ (isolation_spelling f.1.0 ++ u32_spelling f.1.1)) (λ (f : ℕ × (Isolation × ℕ)). IsId f.0 × (Unit {0} × IsU32 f.1.1))
exact_begin = exact_then id_at (isolation_at >> u32_at) id_spelling _ IsId _ exact_id (exact_then isolation_at u32_at isolation_spelling u32_spelling _ IsU32 exact_isolation exact_u32)

exact_commit : Exact (id_at >> u64_at >> tablets_at) (λ (f : ℕ × (ℕ × List ℕ)). id_spelling f.0 ++ (u64_spelling f.1.0 ++ tablets_spelling f.1.1)) (λ (f : ℕ × (ℕ × List ℕ)). IsId f.0 × (IsU64 f.1.0 × AreTablets f.1.1))
exact_commit = exact_then id_at (u64_at >> tablets_at) id_spelling _ IsId _ exact_id (exact_then u64_at tablets_at u64_spelling tablets_spelling IsU64 AreTablets exact_u64 exact_tablets)

exact_abort : Exact (id_at >> by_at) (λ (f : ℕ × Option ℕ). id_spelling f.0 ++ by_spelling f.1) (λ (f : ℕ × Option ℕ). IsId f.0 × IsBy f.1)
exact_abort = exact_then id_at by_at id_spelling by_spelling IsId IsBy exact_id exact_by

-- ---- what is read is spelled so

-- the record was taken from the front of the bytes
pub record Takes (bytes : List ℕ) (r : LogRecord) (rest : List ℕ) : Type 0 where
  pub in_range : IsInRange r
  pub has : IsTrue (has_spelling r)
  pub parts : bytes ≡ spelling r ++ rest

-- fields behind the byte of their kind
kind_takes : {A : Type 0} (kind tag : ℕ) (f : Reader A) (s : A → List ℕ) (F : A → Type 0) (make : A → LogRecord) → Exact f s F → eqb tag kind ≡ true
    → ((x : A) → F x → IsInRange (make x)) → ((x : A) → F x → has_spelling (make x) ≡ true) → ((x : A) → spelling (make x) ≡ kind ∷ s x)
    → (whole : ℕ) (bytes : List ℕ) (r : LogRecord) (rest : List ℕ) → IsBytes bytes → made make f whole bytes ≡ Ok (r, rest) → Takes (tag ∷ bytes) r rest
kind_takes {A = A} kind tag f s F make ef same in_range has spelled whole bytes r rest fits e =
    let m = made_takes f make whole bytes r rest e in
    let t = ef.takes whole bytes m.0 rest fits m.1 in
    let is : tag ∷ bytes ≡ spelling (make m.0) ++ rest = ap (λ (b : ℕ). b ∷ bytes) (eqb-true tag kind same) ∙ ap (λ (u : List ℕ). kind ∷ u) t.1 ∙ ap (λ (u : List ℕ). u ++ rest) (sym (spelled m.0)) in
    subst (λ (q : LogRecord). Takes (tag ∷ bytes) q rest) m.2 (record { in_range = in_range m.0 t.0; has = has m.0 t.0; parts = is })

pub record_takes : (whole : ℕ) (bytes : List ℕ) (r : LogRecord) (rest : List ℕ) → IsBytes bytes → record_at whole bytes ≡ Ok (r, rest) → Takes bytes r rest
unfolding record_at
record_takes whole [] r rest fits e = absurd cc
record_takes whole (tag ∷ bytes) r rest fits e =
    let behind = IsBytes-behind (tag ∷ bytes) (tag ∷ []) bytes refl fits in
    elim (chosen (eqb tag 1) _ _ (Ok (r, rest)) e) [
      | inl a ↦ kind_takes 1 tag u64_at u64_spelling IsU64 Lease exact_u64 a.0 (λ x good. good) (λ x good. refl) (λ x. refl) whole bytes r rest behind a.1
      | inr a ↦ elim (chosen (eqb tag 2) _ _ (Ok (r, rest)) a.1) [
        | inl b ↦
            kind_takes 2 tag (meta_at >> u32_at >> u64_at >> path_at >> op_at) _ _ write_of exact_write b.0 (λ x good. (good.0, good.1.0, good.1.1.0))
            (λ x good. rw (good.1.1.1.0, good.1.1.1.1) refl) (λ x. refl) whole bytes r rest behind b.1
        | inr b ↦ elim (chosen (eqb tag 3) _ _ (Ok (r, rest)) b.1) [
          | inl c ↦ kind_takes 3 tag (id_at >> u64_at) _ _ apply_of exact_apply c.0 (λ x good. (good.0, good.1)) (λ x good. refl) (λ x. refl) whole bytes r rest behind c.1
          | inr c ↦ elim (chosen (eqb tag 4) _ _ (Ok (r, rest)) c.1) [
            | inl d ↦ kind_takes 4 tag id_at _ _ Clean exact_id d.0 (λ x good. good) (λ x good. refl) (λ x. refl) whole bytes r rest behind d.1
            | inr d ↦ elim (chosen (eqb tag 5) _ _ (Ok (r, rest)) d.1) [
              | inl g ↦
                  kind_takes 5 tag (id_at >> u64_at >> path_at >> op_at) _ _ single_of exact_single g.0 (λ x good. (good.0, good.1.0)) (λ x good. rw (good.1.1.0, good.1.1.1) refl) (λ x. refl)
                  whole bytes r rest behind g.1
              | inr g ↦ elim (chosen (eqb tag 6) _ _ (Ok (r, rest)) g.1) [
                | inl h ↦ kind_takes 6 tag (id_at >> isolation_at >> u32_at) _ _ begin_of exact_begin h.0 (λ x good. (good.0, good.1.1)) (λ x good. refl) (λ x. refl) whole bytes r rest behind h.1
                | inr h ↦ elim (chosen (eqb tag 7) _ _ (Ok (r, rest)) h.1) [
                  | inl i ↦
                      kind_takes 7 tag (id_at >> u64_at >> tablets_at) _ _ commit_of exact_commit i.0 (λ x good. (good.0, good.1.0, good.1.1.0)) (λ x good. good.1.1.1) (λ x. refl) whole bytes r rest behind i.1
                  | inr i ↦ elim (chosen (eqb tag 8) _ _ (Ok (r, rest)) i.1) [
                    | inl j ↦ kind_takes 8 tag (id_at >> by_at) _ _ abort_of exact_abort j.0 (λ x good. (good.0, good.1)) (λ x good. refl) (λ x. refl) whole bytes r rest behind j.1
                    | inr j ↦ elim (chosen (eqb tag 9) _ _ (Ok (r, rest)) j.1) [
                      | inl k ↦ kind_takes 9 tag id_at _ _ Forget exact_id k.0 (λ x good. good) (λ x good. refl) (λ x. refl) whole bytes r rest behind k.1
                      | inr k ↦ absurd cc
                    ]
                  ]
                ]
              ]
            ]
          ]
        ]
      ]
    ]

-- ---- what is spelled is read

made_again : {A : Type 0} (f : Reader A) (s : A → List ℕ) (F : A → Type 0) (make : A → LogRecord) → Exact f s F → (whole : ℕ) (x : A) (rest : List ℕ) → F x → made make f whole (s x ++ rest) ≡ Ok (make x, rest)
made_again {A = A} f s F make ef whole x rest good = ap (λ (r : Read A). r >>= λ (u : A × List ℕ). Ok (make u.0, u.1)) (ef.again whole x rest good)

pub record_again : (whole : ℕ) (r : LogRecord) (rest : List ℕ) → IsInRange r → IsTrue (has_spelling r) → record_at whole (spelling r ++ rest) ≡ Ok (r, rest)
unfolding record_at
record_again whole (Lease until) rest in_range has = made_again u64_at u64_spelling IsU64 Lease exact_u64 whole until rest in_range
record_again whole (Write meta number at path op) rest in_range has =
    let both = and_parts (is_path path) (is_op op) has in
    made_again (meta_at >> u32_at >> u64_at >> path_at >> op_at) write_spelling WriteGood write_of exact_write whole (meta, (number, (at, (path, op)))) rest (in_range.0, (in_range.1, (in_range.2, (both.0, both.1))))
record_again whole (Apply x at) rest in_range has = made_again (id_at >> u64_at) _ _ apply_of exact_apply whole (x, at) rest (in_range.0, in_range.1)
record_again whole (Clean x) rest in_range has = made_again id_at id_spelling IsId Clean exact_id whole x rest in_range
record_again whole (Single x at path op) rest in_range has =
    let both = and_parts (is_path path) (is_op op) has in
    made_again (id_at >> u64_at >> path_at >> op_at) _ _ single_of exact_single whole (x, (at, (path, op))) rest (in_range.0, (in_range.1, (both.0, both.1)))
record_again whole (Begin x isolation priority) rest in_range has = made_again (id_at >> isolation_at >> u32_at) _ _ begin_of exact_begin whole (x, (isolation, priority)) rest (in_range.0, (tt, in_range.1))
record_again whole (Commit x at tablets) rest in_range has = made_again (id_at >> u64_at >> tablets_at) _ _ commit_of exact_commit whole (x, (at, tablets)) rest (in_range.0, (in_range.1, (in_range.2, has)))
record_again whole (Abort x by) rest in_range has = made_again (id_at >> by_at) _ _ abort_of exact_abort whole (x, by) rest (in_range.0, in_range.1)
record_again whole (Forget x) rest in_range has = made_again id_at id_spelling IsId Forget exact_id whole x rest in_range

pub no_spelling_begins : (p q : LogRecord) (x y : List ℕ) → IsInRange p → IsInRange q → IsTrue (has_spelling p) → IsTrue (has_spelling q) → spelling p ++ x ≡ spelling q ++ y → (p ≡ q) × (x ≡ y)
no_spelling_begins p q x y p_in q_in p_has q_has e =
    let same = ok_is (p, x) (q, y) (sym (record_again 0 p x p_in p_has) ∙ ap (record_at 0) e ∙ record_again 0 q y q_in q_has) in
    (ap (λ (t : LogRecord × List ℕ). t.0) same, ap (λ (t : LogRecord × List ℕ). t.1) same)

-- ---- a front foretells

record_extends : (whole : ℕ) (bytes more : List ℕ) → Extends whole more (record_at whole bytes) (record_at (whole + length more) (bytes ++ more))
unfolding record_at
record_extends whole [] more = refl
record_extends whole (tag ∷ bytes) more =
    extends_cond whole more (eqb tag 1) _ _ _ _ (made_extends u64_at Lease whole bytes more (exact_u64.extends whole bytes more))
    (extends_cond whole more (eqb tag 2) _ _ _ _ (made_extends (meta_at >> u32_at >> u64_at >> path_at >> op_at) write_of whole bytes more (exact_write.extends whole bytes more))
    (extends_cond whole more (eqb tag 3) _ _ _ _ (made_extends (id_at >> u64_at) apply_of whole bytes more (exact_apply.extends whole bytes more))
    (extends_cond whole more (eqb tag 4) _ _ _ _ (made_extends id_at Clean whole bytes more (exact_id.extends whole bytes more))
    (extends_cond whole more (eqb tag 5) _ _ _ _ (made_extends (id_at >> u64_at >> path_at >> op_at) single_of whole bytes more (exact_single.extends whole bytes more))
    (extends_cond whole more (eqb tag 6) _ _ _ _ (made_extends (id_at >> isolation_at >> u32_at) begin_of whole bytes more (exact_begin.extends whole bytes more))
    (extends_cond whole more (eqb tag 7) _ _ _ _ (made_extends (id_at >> u64_at >> tablets_at) commit_of whole bytes more (exact_commit.extends whole bytes more))
    (extends_cond whole more (eqb tag 8) _ _ _ _ (made_extends (id_at >> by_at) abort_of whole bytes more (exact_abort.extends whole bytes more))
    (extends_cond whole more (eqb tag 9) _ _ _ _ (made_extends id_at Forget whole bytes more (exact_id.extends whole bytes more))
    (ap (λ (k : ℕ). Err (BadKind k)) (offset-more whole (tag ∷ bytes) more))))))))))

-- all of the bytes: `b` and `more` stand behind the front
ended_foretells : (len b : ℕ) (more : List ℕ) (r all : Read LogRecord) → Extends len (b ∷ more) r all → Foretells len (r >>= ended len) (all >>= ended (len + length (b ∷ more)))
unfolding ended
ended_foretells len b more (Ok (x, [])) all h = rw h (ap (λ (k : ℕ). Err (Spare k)) (omega arith))
ended_foretells len b more (Ok (x, c ∷ rest)) all h = rw h (ap (λ (k : ℕ). Err (Spare k)) (offset-more len (c ∷ rest) (b ∷ more)))
ended_foretells len b more (Err (Truncated at)) all h = h
ended_foretells len b more (Err e) all h = rw h refl

pub record_foretells : (front : List ℕ) (b : ℕ) (more : List ℕ) → Foretells (length front) (record_of front) (record_of (front ++ b ∷ more))
unfolding record_of
record_foretells front b more =
    let same : length (front ++ b ∷ more) ≡ length front + length (b ∷ more) = length-append front (b ∷ more) in
    rw same (ended_foretells (length front) b more (record_at (length front) front) (record_at (length front + length (b ∷ more)) (front ++ b ∷ more)) (record_extends (length front) front (b ∷ more)))

-- ---- all of the bytes

ended_ok : (whole : ℕ) (x : LogRecord × List ℕ) (r : LogRecord) → ended whole x ≡ Ok r → x ≡ (r, [])
unfolding ended
ended_ok whole (q, []) r e = ap (λ (w : LogRecord). (w, [])) (ok_is q r e)
ended_ok whole (q, b ∷ rest) r e = absurd cc

all_takes : (bytes : List ℕ) (r : LogRecord) → IsBytes bytes → record_of bytes ≡ Ok r → Spells bytes r
unfolding record_of
all_takes bytes r fits e =
    let a = bind_ok (record_at (length bytes) bytes) (ended (length bytes)) r e in
    let is = ended_ok (length bytes) a.0 r a.2 in
    let t = record_takes (length bytes) bytes r [] fits (a.1 ∙ ap Ok is) in
    record { in_range = t.in_range; has = t.has; is = t.parts ∙ append-nil (spelling r) }

all_again : (r : LogRecord) → IsInRange r → IsTrue (has_spelling r) → record_of (spelling r) ≡ Ok r
unfolding record_of ended
all_again r in_range has =
    let whole : ℕ = length (spelling r) in
    let read : record_at whole (spelling r) ≡ Ok (r, []) = ap (record_at whole) (sym (append-nil (spelling r))) ∙ record_again whole r [] in_range has in
    ap (λ (q : Read LogRecord). q >>= ended whole) read

pub is_found : (bytes : List ℕ) (r : Result LogRecord RecordRefusal) → IsBytes bytes → Gives (λ (v : LogRecord). v) r (record_of bytes) → IfOk r (Spells bytes)
is_found bytes (Ok r) fits given = all_takes bytes r fits given
is_found bytes (Err e) fits given = tt

pub is_only : (bytes : List ℕ) (r : Result LogRecord RecordRefusal) (v : LogRecord) → Spells bytes v → Gives (λ (v : LogRecord). v) r (record_of bytes) → Gives (λ (v : LogRecord). v) r (Ok v)
is_only bytes r v spells given = subst (Gives (λ (v : LogRecord). v) r) (ap record_of spells.is ∙ all_again v spells.in_range spells.has) given

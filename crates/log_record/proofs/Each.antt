-- So many fields, one after another, as a loop reads them.
use Rattle.std.proofs.Common.{◌≡◌, ℕ, zero, suc, ◌-◌, ◌+◌, ◌<◌, ◌≤◌, List, [], ◌∷◌, ◌++◌, Ok, Err, refl, sym, ap, ◌∙◌, append_assoc, arith}
use Rattle.log_record.specs.declared.record_refusal.RecordRefusal.{RecordRefusal}
use Rattle.std.proofs.lemmas.List.{append-nil}
use Rattle.log_record.specs.declared.record_refusal.RecordRefusal.TheVariants.{Memory}
use Rattle.log_record.specs.Reading.{Read, Reader, Fails, onto, each}

onto-onto : {A : Type 0} (a b : List A) (r : Read (List A)) → onto a (onto b r) ≡ onto (a ++ b) r
onto-onto {A = A} a b (Ok x) = ap (λ (xs : List A). Ok (xs, x.1)) (sym (append_assoc a b x.0))
onto-onto {A = A} a b (Err d) = refl

pub onto_nothing : {A : Type 0} (r : Read (List A)) → onto [] r ≡ r
onto_nothing (Ok x) = refl
onto_nothing (Err d) = refl

-- one more was read, of those that are left
one_more : {A : Type 0} (item : Reader A) (left whole : ℕ) (front : List A) (bytes after : List ℕ) (x : A) (total : Read (List A)) → item whole bytes ≡ Ok (x, after)
    → onto front (each item (suc left) whole bytes) ≡ total → onto (front ++ x ∷ []) (each item left whole after) ≡ total
unfolding each
one_more item left whole front bytes after x total read so_far =
    sym (onto-onto front (x ∷ []) (each item left whole after)) ∙ ap (onto front) (rw read refl) ∙ so_far

pub each_more : {A : Type 0} (item : Reader A) (count i whole : ℕ) (front : List A) (bytes after : List ℕ) (x : A) (total : Read (List A)) → i < count → item whole bytes ≡ Ok (x, after)
    → onto front (each item (count - i) whole bytes) ≡ total → onto (front ++ x ∷ []) (each item (count - (i + 1)) whole after) ≡ total
each_more item count i whole front bytes after x total lt read so_far =
    let left : count - i ≡ suc (count - (i + 1)) = omega arith in
    one_more item (count - (i + 1)) whole front bytes after x total read (rw (← left) so_far)

one_fails : {A : Type 0} (item : Reader A) (left whole : ℕ) (front : List A) (bytes : List ℕ) (e : RecordRefusal) (total : Read (List A)) → item whole bytes ≡ Err e
    → onto front (each item (suc left) whole bytes) ≡ total → total ≡ Err e
unfolding each
one_fails item left whole front bytes e total read so_far = sym so_far ∙ rw read refl

pub each_fails : {A : Type 0} (item : Reader A) (count i whole : ℕ) (front : List A) (bytes : List ℕ) (e : RecordRefusal) (total : Read (List A)) → i < count → Fails e (item whole bytes)
    → onto front (each item (count - i) whole bytes) ≡ total → Fails e total
each_fails item count i whole front bytes Memory total lt read so_far = tt
each_fails item count i whole front bytes e total lt read so_far =
    let left : count - i ≡ suc (count - (i + 1)) = omega arith in
    one_fails item (count - (i + 1)) whole front bytes e total read (rw (← left) so_far)

-- none is left
pub each_done : {A : Type 0} (item : Reader A) (left whole : ℕ) (front : List A) (bytes : List ℕ) (total : Read (List A)) → left ≡ 0 → onto front (each item left whole bytes) ≡ total → total ≡ Ok (front, bytes)
unfolding each
each_done {A = A} item zero whole front bytes total none so_far = sym so_far ∙ ap (λ (xs : List A). Ok (xs, bytes)) (append-nil front)
each_done item (suc left) whole front bytes total none so_far = absurd (omega arith)

-- the first, and the others behind it
pub each_first : {A : Type 0} (item : Reader A) (count whole : ℕ) (bytes after : List ℕ) (x : A) → 1 ≤ count → item whole bytes ≡ Ok (x, after)
    → each item count whole bytes ≡ onto (x ∷ []) (each item (count - 1) whole after)
unfolding each
each_first item zero whole bytes after x some read = absurd (omega arith)
each_first item (suc left) whole bytes after x some read =
    let others : suc left - 1 ≡ left = omega arith in
    rw (read, others) refl

pub each_first_fails : {A : Type 0} (item : Reader A) (count whole : ℕ) (bytes : List ℕ) (e : RecordRefusal) → 1 ≤ count → Fails e (item whole bytes) → Fails e (each item count whole bytes)
each_first_fails item count whole bytes e some read =
    let all : count - 0 ≡ count = omega arith in
    each_fails item count 0 whole [] bytes e (each item count whole bytes) (omega arith) read (rw all (onto_nothing (each item count whole bytes)))

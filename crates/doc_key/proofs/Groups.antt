-- Steps of reading a group: the columns so far, and what reading the rest gives.
use Rattle.std.proofs.Common.{◌≡◌, ℕ, zero, suc, ◌-◌, ◌≤◌, true, false, eqb, List, [], ◌∷◌, ◌++◌, length, Result, Ok, Err, refl, sym, ap, ◌∙◌, arith}
use Rattle.std.proofs.lemmas.Bool.{ne_eqb}
use Rattle.std.proofs.lemmas.List.{append-nil, length_push}
use Rattle.doc_value.specs.declared.key_refusal.KeyRefusal.{KeyRefusal}
use Rattle.doc_value.specs.declared.key_refusal.KeyRefusal.TheVariants.{BadTag, Truncated, TooMany, Memory}
use Rattle.doc_value.specs.declared.primitive.Primitive.{Primitive}
use Rattle.doc_value.specs.Reading.{Read, Fails, onto, offset}
use Rattle.doc_value.proofs.Steps.{onto-onto}
use Rattle.doc_key.specs.Reading.{is_column_tag, column_at, columns_at}

-- the bytes that are left, where they begin with a tag that ends no group
pub record Goes (bytes : List ℕ) (tag : ℕ) (rest : List ℕ) : Type 0 where
  pub bytes_are : bytes ≡ tag ∷ rest
  pub no_end : tag ≡ 0x21 → ⊥

-- where there is no room, the tag is none of a column
abbrev pub MayStand : ℕ → ℕ → Type 0
MayStand room tag = room ≡ 0 → is_column_tag tag ≡ false

pub group_cut : (whole room : ℕ) (front : List Primitive) (bytes : List ℕ) (total : Read (List Primitive)) → bytes ≡ []
    → onto front (columns_at whole room bytes) ≡ total → total ≡ Err (Truncated whole)
unfolding columns_at
group_cut whole zero front bytes total e so_far = sym so_far ∙ ap (λ (t : List ℕ). onto front (columns_at whole 0 t)) e
group_cut whole (suc room) front bytes total e so_far = sym so_far ∙ ap (λ (t : List ℕ). onto front (columns_at whole (suc room) t)) e

pub group_ends : (whole room : ℕ) (front : List Primitive) (bytes : List ℕ) (tag : ℕ) (rest : List ℕ) (total : Read (List Primitive)) → bytes ≡ tag ∷ rest → tag ≡ 0x21
    → onto front (columns_at whole room bytes) ≡ total → total ≡ Ok (front, rest)
unfolding columns_at
group_ends whole zero front bytes tag rest total e end so_far =
    sym so_far ∙ ap (λ (t : List ℕ). onto front (columns_at whole 0 t)) (e ∙ ap (λ (b : ℕ). b ∷ rest) end) ∙ ap (λ (cs : List Primitive). Ok (cs, rest)) (append-nil front)
group_ends whole (suc room) front bytes tag rest total e end so_far =
    sym so_far ∙ ap (λ (t : List ℕ). onto front (columns_at whole (suc room) t)) (e ∙ ap (λ (b : ℕ). b ∷ rest) end) ∙ ap (λ (cs : List Primitive). Ok (cs, rest)) (append-nil front)

pub group_is_full : (whole room : ℕ) (front : List Primitive) (bytes : List ℕ) (tag : ℕ) (rest : List ℕ) (total : Read (List Primitive)) → Goes bytes tag rest → room ≡ 0 → is_column_tag tag ≡ true
    → onto front (columns_at whole room bytes) ≡ total → total ≡ Err (TooMany (whole - length bytes))
unfolding columns_at
group_is_full whole room front bytes tag rest total goes none column so_far =
    let not_end : eqb tag 0x21 ≡ false = ne_eqb tag 0x21 goes.no_end in
    let one : onto front (columns_at whole 0 (tag ∷ rest)) ≡ Err (TooMany (whole - length (tag ∷ rest))) = rw (not_end, column) refl in
    sym so_far ∙ ap (λ (r : ℕ). onto front (columns_at whole r bytes)) none ∙ ap (λ (t : List ℕ). onto front (columns_at whole 0 t)) goes.bytes_are ∙ one ∙ ap (λ (t : List ℕ). Err (TooMany (whole - length t))) (sym goes.bytes_are)

no_column : (whole tag : ℕ) (rest : List ℕ) → is_column_tag tag ≡ false → column_at whole (tag ∷ rest) ≡ Err (BadTag (offset whole (tag ∷ rest)))
unfolding column_at
no_column whole tag rest none = rw none refl

one_more : (whole room tag : ℕ) (rest after : List ℕ) (c : Primitive) → (tag ≡ 0x21 → ⊥) → MayStand room tag → column_at whole (tag ∷ rest) ≡ Ok (c, after)
    → (k : ℕ) × (room ≡ suc k) × (columns_at whole room (tag ∷ rest) ≡ onto (c ∷ []) (columns_at whole k after))
unfolding columns_at
one_more whole zero tag rest after c no_end may read =
    let refused = no_column whole tag rest (may refl) in
    absurd cc
one_more whole (suc k) tag rest after c no_end may read =
    (k, refl, rw (ne_eqb tag 0x21 no_end, read) refl)

pub group_goes_on : (whole most : ℕ) (front : List Primitive) (bytes : List ℕ) (tag : ℕ) (rest after : List ℕ) (c : Primitive) (total : Read (List Primitive)) → Goes bytes tag rest → length front ≤ most
    → MayStand (most - length front) tag → column_at whole bytes ≡ Ok (c, after)
    → onto front (columns_at whole (most - length front) bytes) ≡ total → (onto (front ++ c ∷ []) (columns_at whole (most - length (front ++ c ∷ [])) after) ≡ total) × (length (front ++ c ∷ []) ≤ most)
group_goes_on whole most front bytes tag rest after c total goes few may read so_far =
    let one = one_more whole (most - length front) tag rest after c goes.no_end may (ap (column_at whole) (sym goes.bytes_are) ∙ read) in
    let longer = length_push front c in
    let room : most - length (front ++ c ∷ []) ≡ one.0 = omega (arith, longer, one.1) in (
      ap (λ (r : ℕ). onto (front ++ c ∷ []) (columns_at whole r after)) room
          ∙ sym (onto-onto front (c ∷ []) (columns_at whole one.0 after))
          ∙ ap (onto front) (sym one.2)
          ∙ ap (λ (t : List ℕ). onto front (columns_at whole (most - length front) t)) (sym goes.bytes_are)
          ∙ so_far,
      omega (arith, longer, one.1),
    )

abbrev failed : (A : Type 0) → KeyRefusal → Result A KeyRefusal
failed A e = Err e

err_is : (d e : KeyRefusal) → failed (Primitive × List ℕ) d ≡ failed (Primitive × List ℕ) e → d ≡ e
err_is d e same = cc

refused_too : (e : KeyRefusal) (whole room tag : ℕ) (rest : List ℕ) (front : List Primitive) → (tag ≡ 0x21 → ⊥) → MayStand room tag → column_at whole (tag ∷ rest) ≡ Err e
    → onto front (columns_at whole room (tag ∷ rest)) ≡ Err e
unfolding columns_at
refused_too e whole zero tag rest front no_end may read =
    let same = err_is (BadTag (offset whole (tag ∷ rest))) e (sym (no_column whole tag rest (may refl)) ∙ read) in
    rw (ne_eqb tag 0x21 no_end, may refl) (ap (failed (List Primitive × List ℕ)) same)
refused_too e whole (suc k) tag rest front no_end may read = rw (ne_eqb tag 0x21 no_end, read) refl

group_fails_with : (e : KeyRefusal) (whole room : ℕ) (front : List Primitive) (bytes : List ℕ) (tag : ℕ) (rest : List ℕ) (total : Read (List Primitive)) → Goes bytes tag rest
    → MayStand room tag → column_at whole bytes ≡ Err e → onto front (columns_at whole room bytes) ≡ total → total ≡ Err e
group_fails_with e whole room front bytes tag rest total goes may read so_far =
    sym so_far
    ∙ ap (λ (t : List ℕ). onto front (columns_at whole room t)) goes.bytes_are
    ∙ refused_too e whole room tag rest front goes.no_end may (ap (column_at whole) (sym goes.bytes_are) ∙ read)

-- a refusal of a column is one of its group
pub group_fails : (e : KeyRefusal) (whole room : ℕ) (front : List Primitive) (bytes : List ℕ) (tag : ℕ) (rest : List ℕ) (total : Read (List Primitive)) → Goes bytes tag rest
    → MayStand room tag → Fails e (column_at whole bytes) → onto front (columns_at whole room bytes) ≡ total → Fails e total
group_fails Memory whole room front bytes tag rest total goes may read so_far = tt
group_fails e whole room front bytes tag rest total goes may read so_far = group_fails_with e whole room front bytes tag rest total goes may read so_far

-- Steps of reading subkeys: the parts so far, and what reading the rest gives.
use Rattle.std.proofs.Common.{◌≡◌, ℕ, zero, suc, ◌-◌, Bool, true, false, eqb, ◌||◌, List, [], ◌∷◌, ◌++◌, length, Result, Ok, Err, refl, sym, ap, ◌∙◌, arith}
use Rattle.std.specs.Prelude.{OnOk, is_ok}
use Rattle.std.proofs.lemmas.Bool.{ne_eqb}
use Rattle.std.proofs.lemmas.List.{append-nil, length_push}
use Rattle.doc_path.specs.Path.{Parts}
use Rattle.doc_value.specs.declared.key_refusal.KeyRefusal.{KeyRefusal}
use Rattle.doc_value.specs.declared.key_refusal.KeyRefusal.TheVariants.{BadTag, Truncated, TooMany, Memory}
use Rattle.doc_value.specs.Reading.{Read, Fails, onto, offset, value_at}
use Rattle.doc_value.proofs.Steps.{onto-onto}
use Rattle.sub_doc_key.specs.Reading.{is_subkey_tag, subkey_at, subkeys_at}

-- the bytes that are left, where they begin with a tag that ends no path
pub record Goes (bytes : List ℕ) (tag : ℕ) (rest : List ℕ) : Type 0 where
  pub bytes_are : bytes ≡ tag ∷ rest
  pub no_end : tag ≡ 0x23 → ⊥

-- where there is no room, the tag is none of a subkey
abbrev pub MayStand : ℕ → ℕ → Type 0
MayStand room tag = room ≡ 0 → is_subkey_tag tag ≡ false

pub path_cut : (whole room : ℕ) (front : Parts) (bytes : List ℕ) (total : Read Parts) → bytes ≡ []
    → onto front (subkeys_at whole room bytes) ≡ total → total ≡ Err (Truncated whole)
unfolding subkeys_at
path_cut whole zero front bytes total e so_far = sym so_far ∙ ap (λ (t : List ℕ). onto front (subkeys_at whole 0 t)) e
path_cut whole (suc room) front bytes total e so_far = sym so_far ∙ ap (λ (t : List ℕ). onto front (subkeys_at whole (suc room) t)) e

pub path_ends : (whole room : ℕ) (front : Parts) (bytes : List ℕ) (tag : ℕ) (rest : List ℕ) (total : Read Parts) → bytes ≡ tag ∷ rest → tag ≡ 0x23
    → onto front (subkeys_at whole room bytes) ≡ total → total ≡ Ok (front, rest)
unfolding subkeys_at
path_ends whole zero front bytes tag rest total e end so_far =
    sym so_far ∙ ap (λ (t : List ℕ). onto front (subkeys_at whole 0 t)) (e ∙ ap (λ (b : ℕ). b ∷ rest) end) ∙ ap (λ (ps : Parts). Ok (ps, rest)) (append-nil front)
path_ends whole (suc room) front bytes tag rest total e end so_far =
    sym so_far ∙ ap (λ (t : List ℕ). onto front (subkeys_at whole (suc room) t)) (e ∙ ap (λ (b : ℕ). b ∷ rest) end) ∙ ap (λ (ps : Parts). Ok (ps, rest)) (append-nil front)

pub path_is_full : (whole room : ℕ) (front : Parts) (bytes : List ℕ) (tag : ℕ) (rest : List ℕ) (total : Read Parts) → Goes bytes tag rest → room ≡ 0 → is_subkey_tag tag ≡ true
    → onto front (subkeys_at whole room bytes) ≡ total → total ≡ Err (TooMany (whole - length bytes))
unfolding subkeys_at
path_is_full whole room front bytes tag rest total goes none subkey so_far =
    let not_end : eqb tag 0x23 ≡ false = ne_eqb tag 0x23 goes.no_end in
    let one : onto front (subkeys_at whole 0 (tag ∷ rest)) ≡ Err (TooMany (whole - length (tag ∷ rest))) = rw (not_end, subkey) refl in
    sym so_far ∙ ap (λ (r : ℕ). onto front (subkeys_at whole r bytes)) none ∙ ap (λ (t : List ℕ). onto front (subkeys_at whole 0 t)) goes.bytes_are ∙ one ∙ ap (λ (t : List ℕ). Err (TooMany (whole - length t))) (sym goes.bytes_are)

record AreAllFalse (a b c d e : Bool) : Type 0 where
  a_is : a ≡ false
  b_is : b ≡ false
  c_is : c ≡ false
  d_is : d ≡ false
  e_is : e ≡ false

are_all_false : (a b c d e : Bool) → (a || b || c || d || e) ≡ false → AreAllFalse a b c d e
are_all_false true b c d e none = absurd cc
are_all_false false true c d e none = absurd cc
are_all_false false false true d e none = absurd cc
are_all_false false false false true e none = absurd cc
are_all_false false false false false true none = absurd cc
are_all_false false false false false false none = record { a_is = refl; b_is = refl; c_is = refl; d_is = refl; e_is = refl }

pub no_subkey : (whole tag : ℕ) (rest : List ℕ) → is_subkey_tag tag ≡ false → subkey_at whole (tag ∷ rest) ≡ Err (BadTag (offset whole (tag ∷ rest)))
unfolding subkey_at value_at
no_subkey whole tag rest none =
    let f = are_all_false (eqb tag 0x46) (eqb tag 0x49) (eqb tag 0x4B) (eqb tag 0x53) (eqb tag 0x54) none in
    rw (f.a_is, f.b_is, f.c_is, f.d_is, f.e_is) refl

one_more : (whole room tag : ℕ) (rest after : List ℕ) (part : List ℕ) → (tag ≡ 0x23 → ⊥) → MayStand room tag → subkey_at whole (tag ∷ rest) ≡ Ok (part, after)
    → (k : ℕ) × (room ≡ suc k) × (subkeys_at whole room (tag ∷ rest) ≡ onto (part ∷ []) (subkeys_at whole k after))
unfolding subkeys_at
one_more whole zero tag rest after part no_end may read =
    let refused = no_subkey whole tag rest (may refl) in
    absurd cc
one_more whole (suc k) tag rest after part no_end may read =
    (k, refl, rw (ne_eqb tag 0x23 no_end, read) refl)

pub path_goes_on : (whole most : ℕ) (front : Parts) (bytes : List ℕ) (tag : ℕ) (rest after : List ℕ) (part : List ℕ) (total : Read Parts) → Goes bytes tag rest
    → MayStand (most - length front) tag → subkey_at whole bytes ≡ Ok (part, after)
    → onto front (subkeys_at whole (most - length front) bytes) ≡ total → onto (front ++ part ∷ []) (subkeys_at whole (most - length (front ++ part ∷ [])) after) ≡ total
path_goes_on whole most front bytes tag rest after part total goes may read so_far =
    let one = one_more whole (most - length front) tag rest after part goes.no_end may (ap (subkey_at whole) (sym goes.bytes_are) ∙ read) in
    let longer = length_push front part in
    let room : most - length (front ++ part ∷ []) ≡ one.0 = omega (arith, longer, one.1) in
    ap (λ (r : ℕ). onto (front ++ part ∷ []) (subkeys_at whole r after)) room
    ∙ sym (onto-onto front (part ∷ []) (subkeys_at whole one.0 after))
    ∙ ap (onto front) (sym one.2)
    ∙ ap (λ (t : List ℕ). onto front (subkeys_at whole (most - length front) t)) (sym goes.bytes_are)
    ∙ so_far

abbrev failed : (A : Type 0) → KeyRefusal → Result A KeyRefusal
failed A e = Err e

err_is : (d e : KeyRefusal) → failed (List ℕ × List ℕ) d ≡ failed (List ℕ × List ℕ) e → d ≡ e
err_is d e same = cc

refused_too : (e : KeyRefusal) (whole room tag : ℕ) (rest : List ℕ) (front : Parts) → (tag ≡ 0x23 → ⊥) → MayStand room tag → subkey_at whole (tag ∷ rest) ≡ Err e
    → onto front (subkeys_at whole room (tag ∷ rest)) ≡ Err e
unfolding subkeys_at
refused_too e whole zero tag rest front no_end may read =
    let same = err_is (BadTag (offset whole (tag ∷ rest))) e (sym (no_subkey whole tag rest (may refl)) ∙ read) in
    rw (ne_eqb tag 0x23 no_end, may refl) (ap (failed (Parts × List ℕ)) same)
refused_too e whole (suc k) tag rest front no_end may read = rw (ne_eqb tag 0x23 no_end, read) refl

path_fails_with : (e : KeyRefusal) (whole room : ℕ) (front : Parts) (bytes : List ℕ) (tag : ℕ) (rest : List ℕ) (total : Read Parts) → Goes bytes tag rest
    → MayStand room tag → subkey_at whole bytes ≡ Err e → onto front (subkeys_at whole room bytes) ≡ total → total ≡ Err e
path_fails_with e whole room front bytes tag rest total goes may read so_far =
    sym so_far
    ∙ ap (λ (t : List ℕ). onto front (subkeys_at whole room t)) goes.bytes_are
    ∙ refused_too e whole room tag rest front goes.no_end may (ap (subkey_at whole) (sym goes.bytes_are) ∙ read)

-- a refusal of a subkey is one of its path
pub path_fails : (e : KeyRefusal) (whole room : ℕ) (front : Parts) (bytes : List ℕ) (tag : ℕ) (rest : List ℕ) (total : Read Parts) → Goes bytes tag rest
    → MayStand room tag → Fails e (subkey_at whole bytes) → onto front (subkeys_at whole room bytes) ≡ total → Fails e total
path_fails Memory whole room front bytes tag rest total goes may read so_far = tt
path_fails e whole room front bytes tag rest total goes may read so_far = path_fails_with e whole room front bytes tag rest total goes may read so_far

-- what holds of a call that did not fail
pub pushed : {E : Type 0} (r : Result (Unit {0}) E) (P : Type 0) → true ≡ is_ok r → OnOk r P → P
pushed (Ok u) P fine holds = holds
pushed (Err e) P fine holds = absurd cc

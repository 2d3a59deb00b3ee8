-- Reading a front of bytes, and reading all of them: what was read or refused stays so, whatever follows.
use Rattle.std.proofs.Common.{◌≡◌, ℕ, zero, suc, ◌+◌, ◌-◌, cond, eqb, List, [], ◌∷◌, ◌++◌, length, Result, Ok, Err, refl, ap}
use Rattle.std.specs.Int.{w16}
use Rattle.std.proofs.lemmas.List.{length-append}
use Rattle.doc_value.specs.declared.key_refusal.KeyRefusal.{KeyRefusal}
use Rattle.doc_value.specs.declared.key_refusal.KeyRefusal.TheVariants.{BadTag, BadHash, TooMany}
use Rattle.doc_value.specs.declared.primitive.Primitive.{Primitive}
use Rattle.doc_value.specs.Reading.{Read, ◌>>=◌, Foretells, offset, onto, number_at}
use Rattle.doc_value.proofs.Fronts.{Extends, offset-more, extends_bind, extends_cond, extends_onto, number_extends, value_extends, ended_foretells}
use Rattle.doc_key.specs.declared.doc_key.DocKey.{DocKey}
use Rattle.doc_key.specs.Hash.{hash_of}
use Rattle.doc_key.specs.Spelling.{columns}
use Rattle.doc_key.specs.Reading.{is_column_tag, column_at, columns_at, group_at, hashed_key_at, plain_key_at, key_at, key_of}

bad_tag : {A : Type 0} (whole : ℕ) (bytes more : List ℕ) → Extends {A = A} whole more (Err (BadTag (offset whole bytes))) (Err (BadTag (offset (whole + length more) (bytes ++ more))))
bad_tag whole bytes more = ap (λ (k : ℕ). Err (BadTag k)) (offset-more whole bytes more)

too_many : {A : Type 0} (whole : ℕ) (bytes more : List ℕ) → Extends {A = A} whole more (Err (TooMany (offset whole bytes))) (Err (TooMany (offset (whole + length more) (bytes ++ more))))
too_many whole bytes more = ap (λ (k : ℕ). Err (TooMany k)) (offset-more whole bytes more)

column_extends : (whole : ℕ) (bytes more : List ℕ) → Extends whole more (column_at whole bytes) (column_at (whole + length more) (bytes ++ more))
unfolding column_at
column_extends whole [] more = refl
column_extends whole (tag ∷ bytes) more =
    extends_cond whole more (is_column_tag tag) _ _ _ _ (value_extends whole (tag ∷ bytes) more) (bad_tag whole (tag ∷ bytes) more)

columns_extend : (whole room : ℕ) (bytes more : List ℕ) → Extends whole more (columns_at whole room bytes) (columns_at (whole + length more) room (bytes ++ more))
unfolding columns_at
columns_extend whole zero [] more = refl
columns_extend whole (suc room) [] more = refl
columns_extend whole zero (tag ∷ bytes) more =
    extends_cond whole more (eqb tag 0x21) _ _ _ _ refl
    (extends_cond whole more (is_column_tag tag) _ _ _ _ (too_many whole (tag ∷ bytes) more) (bad_tag whole (tag ∷ bytes) more))
columns_extend whole (suc room) (tag ∷ bytes) more =
    extends_cond whole more (eqb tag 0x21) _ _ _ _ refl
    (extends_bind whole more (column_at whole (tag ∷ bytes)) (column_at (whole + length more) (tag ∷ bytes ++ more))
    (λ first. onto (first.0 ∷ []) (columns_at whole room first.1)) (λ first. onto (first.0 ∷ []) (columns_at (whole + length more) room first.1))
    (column_extends whole (tag ∷ bytes) more)
    (λ first. extends_onto whole more (first.0 ∷ []) (columns_at whole room first.1) (columns_at (whole + length more) room (first.1 ++ more)) (columns_extend whole room first.1 more)))

group_extends : (whole : ℕ) (bytes more : List ℕ) → Extends whole more (group_at whole bytes) (group_at (whole + length more) (bytes ++ more))
unfolding group_at
group_extends whole bytes more =
    extends_bind whole more (column_at whole bytes) (column_at (whole + length more) (bytes ++ more))
    (λ first. onto (first.0 ∷ []) (columns_at whole 7 first.1)) (λ first. onto (first.0 ∷ []) (columns_at (whole + length more) 7 first.1))
    (column_extends whole bytes more)
    (λ first. extends_onto whole more (first.0 ∷ []) (columns_at whole 7 first.1) (columns_at (whole + length more) 7 (first.1 ++ more)) (columns_extend whole 7 first.1 more))

abbrev key_with : List Primitive → List Primitive × List ℕ → Result (DocKey × List ℕ) KeyRefusal
key_with hashed range = Ok (record { hashed = hashed; range = range.0 }, range.1)

abbrev range_after : ℕ → List ℕ → ℕ → List Primitive × List ℕ → Read (List Primitive)
range_after whole bytes hash hashed = cond (eqb hash (hash_of (columns hashed.0))) (columns_at whole (8 - length hashed.0) hashed.1) (Err (BadHash (offset whole bytes)))

abbrev group_after : ℕ → List ℕ → ℕ → List Primitive × List ℕ → Read DocKey
group_after whole bytes hash hashed = range_after whole bytes hash hashed >>= key_with hashed.0

group_after_extends : (whole : ℕ) (bytes more : List ℕ) (hash : ℕ) (hashed : List Primitive × List ℕ)
    → Extends whole more (group_after whole bytes hash hashed) (group_after (whole + length more) (bytes ++ more) hash (hashed.0, hashed.1 ++ more))
group_after_extends whole bytes more hash hashed =
    extends_bind whole more (range_after whole bytes hash hashed) (range_after (whole + length more) (bytes ++ more) hash (hashed.0, hashed.1 ++ more))
    (key_with hashed.0) (key_with hashed.0)
    (extends_cond whole more (eqb hash (hash_of (columns hashed.0))) (columns_at whole (8 - length hashed.0) hashed.1) (Err (BadHash (offset whole bytes)))
    (columns_at (whole + length more) (8 - length hashed.0) (hashed.1 ++ more)) (Err (BadHash (offset (whole + length more) (bytes ++ more))))
    (columns_extend whole (8 - length hashed.0) hashed.1 more)
    (ap (λ (k : ℕ). Err (BadHash k)) (offset-more whole bytes more)))
    (λ range. refl)

hashed_key_extends : (whole : ℕ) (bytes more : List ℕ) → Extends whole more (hashed_key_at whole bytes) (hashed_key_at (whole + length more) (bytes ++ more))
unfolding hashed_key_at
hashed_key_extends whole bytes more =
    let n : ℕ = whole + length more in
    extends_bind whole more (number_at w16 whole bytes) (number_at w16 n (bytes ++ more))
    (λ hash. group_at whole hash.1 >>= group_after whole bytes hash.0) (λ hash. group_at n hash.1 >>= group_after n (bytes ++ more) hash.0)
    (number_extends w16 whole bytes more)
    (λ hash. extends_bind whole more (group_at whole hash.1) (group_at n (hash.1 ++ more)) (group_after whole bytes hash.0) (group_after n (bytes ++ more) hash.0)
    (group_extends whole hash.1 more) (group_after_extends whole bytes more hash.0))

plain_key_extends : (whole : ℕ) (bytes more : List ℕ) → Extends whole more (plain_key_at whole bytes) (plain_key_at (whole + length more) (bytes ++ more))
unfolding plain_key_at
plain_key_extends whole bytes more =
    extends_bind whole more (group_at whole bytes) (group_at (whole + length more) (bytes ++ more)) (key_with []) (key_with []) (group_extends whole bytes more) (λ range. refl)

pub key_extends : (whole : ℕ) (bytes more : List ℕ) → Extends whole more (key_at whole bytes) (key_at (whole + length more) (bytes ++ more))
unfolding key_at
key_extends whole [] more = refl
key_extends whole (tag ∷ bytes) more =
    extends_cond whole more (eqb tag 0x47) _ _ _ _ (hashed_key_extends whole bytes more) (plain_key_extends whole (tag ∷ bytes) more)

pub key_foretells : (front : List ℕ) (b : ℕ) (more : List ℕ) → Foretells (length front) (key_of front) (key_of (front ++ b ∷ more))
unfolding key_of
key_foretells front b more =
    let same : length (front ++ b ∷ more) ≡ length front + length (b ∷ more) = length-append front (b ∷ more) in
    rw same (ended_foretells (length front) b more (key_at (length front) front) (key_at (length front + length (b ∷ more)) (front ++ b ∷ more)) (key_extends (length front) front (b ∷ more)))

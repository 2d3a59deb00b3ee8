-- Reading a front of bytes, and reading all of them: what was read or refused stays so, whatever follows.
use Rattle.std.proofs.Common.{◌≡◌, ℕ, zero, suc, ◌+◌, ◌-◌, eqb, List, [], ◌∷◌, ◌++◌, length, take, Result, Ok, Err, refl, ap, ◌∙◌, arith}
use Rattle.std.specs.Int.{w32, w64, bit_not}
use Rattle.std.proofs.lemmas.List.{length-append, take-append-le}
use Rattle.doc_path.specs.Path.{Parts}
use Rattle.doc_value.specs.declared.key_refusal.KeyRefusal.{KeyRefusal}
use Rattle.doc_value.specs.declared.key_refusal.KeyRefusal.TheVariants.{BadTag, TooMany}
use Rattle.doc_value.specs.Reading.{◌>>=◌, Foretells, offset, onto, number_at, value_at}
use Rattle.doc_value.proofs.Fronts.{Extends, offset-more, extends_bind, extends_cond, extends_onto, number_extends, value_extends, ended_foretells}
use Rattle.doc_key.specs.Reading.{key_at}
use Rattle.doc_key.proofs.Extends.{key_extends}
use Rattle.sub_doc_key.specs.declared.sub_doc_key.SubDocKey.{SubDocKey}
use Rattle.sub_doc_key.specs.Reading.{before, is_subkey_tag, first_at, subkey_at, subkeys_at, version_at, versioned_at, versioned_of}

before_more : (bytes rest more : List ℕ) → before (bytes ++ more) (rest ++ more) ≡ before bytes rest
before_more bytes rest more =
    let same : length (bytes ++ more) - length (rest ++ more) ≡ length bytes - length rest = omega (arith, length-append bytes more, length-append rest more) in
    ap (λ (n : ℕ). take n (bytes ++ more)) same ∙ take-append-le (length bytes - length rest) bytes more (omega arith)

first_extends : (whole : ℕ) (bytes more : List ℕ) → Extends whole more (first_at whole bytes) (first_at (whole + length more) (bytes ++ more))
unfolding first_at
first_extends whole bytes more =
    extends_bind whole more (key_at whole bytes) (key_at (whole + length more) (bytes ++ more))
    (λ key. Ok (before bytes key.1 ∷ [], key.1)) (λ key. Ok (before (bytes ++ more) key.1 ∷ [], key.1))
    (key_extends whole bytes more)
    (λ key. ap (λ (p : List ℕ). Ok (p ∷ [], key.1 ++ more)) (before_more bytes key.1 more))

subkey_extends : (whole : ℕ) (bytes more : List ℕ) → Extends whole more (subkey_at whole bytes) (subkey_at (whole + length more) (bytes ++ more))
unfolding subkey_at
subkey_extends whole bytes more =
    extends_bind whole more (value_at whole bytes) (value_at (whole + length more) (bytes ++ more))
    (λ value. Ok (before bytes value.1, value.1)) (λ value. Ok (before (bytes ++ more) value.1, value.1))
    (value_extends whole bytes more)
    (λ value. ap (λ (p : List ℕ). Ok (p, value.1 ++ more)) (before_more bytes value.1 more))

bad_tag : (whole : ℕ) (bytes more : List ℕ) → Extends {A = Parts} whole more (Err (BadTag (offset whole bytes))) (Err (BadTag (offset (whole + length more) (bytes ++ more))))
bad_tag whole bytes more = ap (λ (k : ℕ). Err (BadTag k)) (offset-more whole bytes more)

too_many : (whole : ℕ) (bytes more : List ℕ) → Extends {A = Parts} whole more (Err (TooMany (offset whole bytes))) (Err (TooMany (offset (whole + length more) (bytes ++ more))))
too_many whole bytes more = ap (λ (k : ℕ). Err (TooMany k)) (offset-more whole bytes more)

subkeys_extend : (whole room : ℕ) (bytes more : List ℕ) → Extends whole more (subkeys_at whole room bytes) (subkeys_at (whole + length more) room (bytes ++ more))
unfolding subkeys_at
subkeys_extend whole zero [] more = refl
subkeys_extend whole (suc room) [] more = refl
subkeys_extend whole zero (tag ∷ bytes) more =
    extends_cond whole more (eqb tag 0x23) _ _ _ _ refl
    (extends_cond whole more (is_subkey_tag tag) _ _ _ _ (too_many whole (tag ∷ bytes) more) (bad_tag whole (tag ∷ bytes) more))
subkeys_extend whole (suc room) (tag ∷ bytes) more =
    extends_cond whole more (eqb tag 0x23) _ _ _ _ refl
    (extends_bind whole more (subkey_at whole (tag ∷ bytes)) (subkey_at (whole + length more) (tag ∷ bytes ++ more))
    (λ first. onto (first.0 ∷ []) (subkeys_at whole room first.1)) (λ first. onto (first.0 ∷ []) (subkeys_at (whole + length more) room first.1))
    (subkey_extends whole (tag ∷ bytes) more)
    (λ first. extends_onto whole more (first.0 ∷ []) (subkeys_at whole room first.1) (subkeys_at (whole + length more) room (first.1 ++ more)) (subkeys_extend whole room first.1 more)))

abbrev versioned_with : Parts → ℕ → ℕ × List ℕ → Result (SubDocKey × List ℕ) KeyRefusal
versioned_with path at number = Ok (record { path = path; at = bit_not w64 at; number = bit_not w32 number.0 }, number.1)

version_extends : (whole : ℕ) (path : Parts) (bytes more : List ℕ) → Extends whole more (version_at whole path bytes) (version_at (whole + length more) path (bytes ++ more))
unfolding version_at
version_extends whole path bytes more =
    let n : ℕ = whole + length more in
    extends_bind whole more (number_at w64 whole bytes) (number_at w64 n (bytes ++ more))
    (λ at. number_at w32 whole at.1 >>= versioned_with path at.0) (λ at. number_at w32 n at.1 >>= versioned_with path at.0)
    (number_extends w64 whole bytes more)
    (λ at. extends_bind whole more (number_at w32 whole at.1) (number_at w32 n (at.1 ++ more)) (versioned_with path at.0) (versioned_with path at.0)
    (number_extends w32 whole at.1 more) (λ number. refl))

versioned_extends : (whole : ℕ) (bytes more : List ℕ) → Extends whole more (versioned_at whole bytes) (versioned_at (whole + length more) (bytes ++ more))
unfolding versioned_at
versioned_extends whole bytes more =
    let n : ℕ = whole + length more in
    extends_bind whole more (first_at whole bytes) (first_at n (bytes ++ more))
    (λ first. onto first.0 (subkeys_at whole 4 first.1) >>= λ path. version_at whole path.0 path.1)
    (λ first. onto first.0 (subkeys_at n 4 first.1) >>= λ path. version_at n path.0 path.1)
    (first_extends whole bytes more)
    (λ first. extends_bind whole more (onto first.0 (subkeys_at whole 4 first.1)) (onto first.0 (subkeys_at n 4 (first.1 ++ more)))
    (λ path. version_at whole path.0 path.1) (λ path. version_at n path.0 path.1)
    (extends_onto whole more first.0 (subkeys_at whole 4 first.1) (subkeys_at n 4 (first.1 ++ more)) (subkeys_extend whole 4 first.1 more))
    (λ path. version_extends whole path.0 path.1 more))

pub versioned_foretells : (front : List ℕ) (b : ℕ) (more : List ℕ) → Foretells (length front) (versioned_of front) (versioned_of (front ++ b ∷ more))
unfolding versioned_of
versioned_foretells front b more =
    let same : length (front ++ b ∷ more) ≡ length front + length (b ∷ more) = length-append front (b ∷ more) in
    rw same (ended_foretells (length front) b more (versioned_at (length front) front) (versioned_at (length front + length (b ∷ more)) (front ++ b ∷ more)) (versioned_extends (length front) front (b ∷ more)))

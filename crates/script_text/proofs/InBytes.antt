-- The texts of values and keys whose spellings are bytes are of bytes.
use Rattle.std.proofs.Common.{ℕ, zero, suc, ◌<◌, List, [], ◌∷◌, ◌++◌, map, All, refl, arith}
use Rattle.std.specs.Int.{w16, to_be_bytes}
use Rattle.std.specs.List.{AllByRecursion}
use Rattle.std.proofs.lemmas.List.{append-nil}
use Rattle.std.proofs.lemmas.List.Elements.{All-head, All-tail}
use Rattle.doc_key.specs.declared.doc_key.DocKey.{DocKey}
use Rattle.doc_key.specs.Hash.{hash_of}
use Rattle.doc_key.specs.Spelling as of_key
use Rattle.doc_value.specs.declared.primitive.Primitive.{Primitive}
use Rattle.doc_value.specs.declared.primitive.Primitive.TheVariants.{Int, Text as TextCase, False, True, Column}
use Rattle.doc_value.specs.Reading.{IsBytes}
use Rattle.doc_value.specs.Spelling as of_value
use Rattle.doc_value.proofs.Steps.{IsBytes-behind}

abbrev pub IsByte : ℕ → Type 0
IsByte b = b < 256

-- the text of a value, if it has one, is of bytes
abbrev pub IsOfBytes : Primitive → Type 0
IsOfBytes False = Unit {0}
IsOfBytes (Int z) = Unit {0}
IsOfBytes (Column n) = Unit {0}
IsOfBytes (TextCase bytes) = AllByRecursion IsByte bytes
IsOfBytes True = Unit {0}

front : (a b : List ℕ) → IsBytes (a ++ b) → IsBytes a
front [] b h i = omega arith
front (x ∷ a) b h zero = h 0
front (x ∷ a) b h (suc i) = front a b (λ k. h (suc k)) i

behind : (a b : List ℕ) → IsBytes (a ++ b) → IsBytes b
behind a b h = IsBytes-behind (a ++ b) a b refl h

escaped_bytes : (bytes rest : List ℕ) → IsBytes (of_value.escaped bytes ++ rest) → AllByRecursion IsByte bytes
escaped_bytes [] rest h = tt
escaped_bytes (zero ∷ bytes) rest h = (omega arith, escaped_bytes bytes rest (λ i. h (suc (suc i))))
escaped_bytes (suc b ∷ bytes) rest h = (h 0, escaped_bytes bytes rest (λ i. h (suc i)))

pub value_bytes : (v : Primitive) → IsBytes (of_value.spelling v) → IsOfBytes v
value_bytes False h = tt
value_bytes (Int z) h = tt
value_bytes (Column n) h = tt
value_bytes (TextCase bytes) h = escaped_bytes bytes (0 ∷ 0 ∷ []) (λ i. h (suc i))
value_bytes True h = tt

columns_bytes : (vs : List Primitive) (rest : List ℕ) → IsBytes (of_key.columns vs ++ rest) → AllByRecursion IsOfBytes vs
columns_bytes [] rest h = tt
columns_bytes (v ∷ vs) rest h =
    let all = front (of_key.columns (v ∷ vs)) rest h in
    (value_bytes v (front (of_value.spelling v) (of_key.columns vs) all), columns_bytes vs [] (no_rest vs (behind (of_value.spelling v) (of_key.columns vs) all)))
  where
    no_rest : (ws : List Primitive) → IsBytes (of_key.columns ws) → IsBytes (of_key.columns ws ++ [])
    no_rest ws h = rw append-nil h

hashed_bytes : (vs : List Primitive) → IsBytes (of_key.hashed_group vs) → AllByRecursion IsOfBytes vs
hashed_bytes [] h = tt
hashed_bytes (v ∷ vs) h =
    let hash = to_be_bytes w16 (hash_of (of_key.columns (v ∷ vs))) in
    columns_bytes (v ∷ vs) (0x21 ∷ []) (behind (0x47 ∷ hash) (of_key.columns (v ∷ vs) ++ 0x21 ∷ []) h)

pub record KeyIsOfBytes (key : DocKey) : Type 0 where
  pub hashed : AllByRecursion IsOfBytes key.hashed
  pub range : AllByRecursion IsOfBytes key.range

pub key_bytes : (key : DocKey) → IsBytes (of_key.spelling key) → KeyIsOfBytes key
key_bytes key h = record {
  hashed = hashed_bytes key.hashed (front (of_key.hashed_group key.hashed) (of_key.columns key.range ++ 0x21 ∷ []) h);
  range = columns_bytes key.range (0x21 ∷ []) (behind (of_key.hashed_group key.hashed) (of_key.columns key.range ++ 0x21 ∷ []) h);
}

pub subkeys_bytes : (vs : List Primitive) → All IsBytes (map of_value.spelling vs) → AllByRecursion IsOfBytes vs
subkeys_bytes [] h = tt
subkeys_bytes (v ∷ vs) h = (
  value_bytes v (All-head IsBytes (of_value.spelling v) (map of_value.spelling vs) h),
  subkeys_bytes vs (All-tail IsBytes (of_value.spelling v) (map of_value.spelling vs) h),
)

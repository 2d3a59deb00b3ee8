-- Reading a versioned key off the front of bytes, from left to right: the key and the bytes after it, or the first
-- fault. As in the reading of values, `whole` is the number of all bytes that were given, and `bytes` are those that
-- are not read yet. Besides the faults of a document key and of a value, which stand where they stand there, one is met:
--   TooMany  a fifth subkey: at its tag
use Rattle.std.specs.Prelude.{ℕ, zero, suc, ◌-◌, Bool, ◌||◌, List, [], ◌∷◌, length, take, Result, Ok, Err, nat_eq, if◌then◌else◌}
use Rattle.std.specs.Int.{w32, w64, bit_not}
use Rattle.doc_path.specs.Path.{Parts}
use Rattle.doc_value.specs.declared.key_refusal.KeyRefusal.{KeyRefusal}
use Rattle.doc_value.specs.declared.key_refusal.KeyRefusal.TheVariants.{BadTag, Truncated, TooMany}
use Rattle.doc_value.specs.Reading.{Read, ◌>>=◌, onto, offset, number_at, value_at, ended}
use Rattle.doc_key.specs.Reading.{key_at}
use Rattle.sub_doc_key.specs.Spelling.{most_subkeys}
use Rattle.sub_doc_key.specs.declared.sub_doc_key.SubDocKey.{SubDocKey}

-- the bytes that were read, where `rest` are left
abbrev pub before : List ℕ → List ℕ → List ℕ
before bytes rest = take (length bytes - length rest) bytes

-- the bytes of a document key, as the path that has no other part
unfoldable pub first_at : ℕ → List ℕ → Read Parts
first_at whole bytes = do
  key ← key_at whole bytes
  Ok (before bytes key.1 ∷ [], key.1)

-- the bytes of a subkey, which is any value
unfoldable pub subkey_at : ℕ → List ℕ → Read (List ℕ)
subkey_at whole bytes = do
  value ← value_at whole bytes
  Ok (before bytes value.1, value.1)

-- the tag of a value
abbrev pub is_subkey_tag : ℕ → Bool
is_subkey_tag tag = nat_eq tag 0x46 || nat_eq tag 0x49 || nat_eq tag 0x4B || nat_eq tag 0x53 || nat_eq tag 0x54

-- the subkeys that are left, up to and without the 23 that begins the suffix, where `room` more may stand
unfoldable pub subkeys_at : ℕ → ℕ → List ℕ → Read Parts
subkeys_at whole room [] = Err (Truncated whole)
subkeys_at whole zero (tag ∷ rest) =
    if nat_eq tag 0x23 then Ok ([], rest)
    else (if is_subkey_tag tag then Err (TooMany (offset whole (tag ∷ rest))) else Err (BadTag (offset whole (tag ∷ rest))))
subkeys_at whole (suc room) (tag ∷ rest) =
    if nat_eq tag 0x23 then Ok ([], rest) else (subkey_at whole (tag ∷ rest) >>= λ first. onto (first.0 ∷ []) (subkeys_at whole room first.1))

-- what follows the 23: the time and the write number, each with its bits turned round
unfoldable pub version_at : ℕ → Parts → List ℕ → Read SubDocKey
version_at whole path bytes = do
  at ← number_at w64 whole bytes
  number ← number_at w32 whole at.1
  Ok (record { path = path; at = bit_not w64 at.0; number = bit_not w32 number.0 }, number.1)

unfoldable pub versioned_at : ℕ → List ℕ → Read SubDocKey
versioned_at whole bytes = do
  first ← first_at whole bytes
  path ← onto first.0 (subkeys_at whole most_subkeys first.1)
  version_at whole path.0 path.1

-- all of the bytes
unfoldable pub versioned_of : List ℕ → Result SubDocKey KeyRefusal
versioned_of bytes = versioned_at (length bytes) bytes >>= ended (length bytes)

-- Reading a document key off the front of bytes, from left to right: the key and the bytes after it, or the first
-- fault. As in the reading of values, `whole` is the number of all bytes that were given, and `bytes` are those that
-- are not read yet. Besides the faults of a value, which stand where they stand there, these are met:
--   BadTag   a byte that is neither the tag of a column nor, behind a column, the 21 that ends a group: at that byte.
--            So is the tag of a column number, and a 21 with no column before it
--   BadHash  a hash that is not that of the hashed columns, met where their group ends: at its first byte
--   TooMany  a ninth column: at its tag
use Rattle.std.specs.Prelude.{ℕ, zero, suc, ◌-◌, Bool, ◌||◌, List, [], ◌∷◌, length, Result, Ok, Err, nat_eq, if◌then◌else◌}
use Rattle.std.specs.Int.{w16}
use Rattle.doc_value.specs.declared.key_refusal.KeyRefusal.{KeyRefusal}
use Rattle.doc_value.specs.declared.key_refusal.KeyRefusal.TheVariants.{BadTag, Truncated, BadHash, TooMany}
use Rattle.doc_value.specs.declared.primitive.Primitive.{Primitive}
use Rattle.doc_value.specs.Reading.{Read, ◌>>=◌, onto, offset, number_at, value_at, ended}
use Rattle.doc_key.specs.declared.doc_key.DocKey.{DocKey}
use Rattle.doc_key.specs.Hash.{hash_of}
use Rattle.doc_key.specs.Spelling.{columns, most_columns}

-- the tag of a false, an integer, a text or a true
abbrev pub is_column_tag : ℕ → Bool
is_column_tag tag = nat_eq tag 0x46 || nat_eq tag 0x49 || nat_eq tag 0x53 || nat_eq tag 0x54

-- a column
unfoldable pub column_at : ℕ → List ℕ → Read Primitive
column_at whole [] = Err (Truncated whole)
column_at whole (tag ∷ rest) =
    if is_column_tag tag then value_at whole (tag ∷ rest) else Err (BadTag (offset whole (tag ∷ rest)))

-- the columns that are left of a group, up to and without the 21 that ends it, where `room` more may stand
unfoldable pub columns_at : ℕ → ℕ → List ℕ → Read (List Primitive)
columns_at whole room [] = Err (Truncated whole)
columns_at whole zero (tag ∷ rest) =
    if nat_eq tag 0x21 then Ok ([], rest)
    else (if is_column_tag tag then Err (TooMany (offset whole (tag ∷ rest))) else Err (BadTag (offset whole (tag ∷ rest))))
columns_at whole (suc room) (tag ∷ rest) =
    if nat_eq tag 0x21 then Ok ([], rest) else (column_at whole (tag ∷ rest) >>= λ first. onto (first.0 ∷ []) (columns_at whole room first.1))

-- the first group of a key, which has a column at least
unfoldable pub group_at : ℕ → List ℕ → Read (List Primitive)
group_at whole bytes = do
  first ← column_at whole bytes
  onto (first.0 ∷ []) (columns_at whole (most_columns - 1) first.1)

-- what follows a 47: the hash, the hashed columns, and the range columns
unfoldable pub hashed_key_at : ℕ → List ℕ → Read DocKey
hashed_key_at whole bytes = do
  hash ← number_at w16 whole bytes
  hashed ← group_at whole hash.1
  range ← if nat_eq hash.0 (hash_of (columns hashed.0)) then columns_at whole (most_columns - length hashed.0) hashed.1 else Err (BadHash (offset whole bytes))
  Ok (record { hashed = hashed.0; range = range.0 }, range.1)

-- a key without hashed columns
unfoldable pub plain_key_at : ℕ → List ℕ → Read DocKey
plain_key_at whole bytes = do
  range ← group_at whole bytes
  Ok (record { hashed = []; range = range.0 }, range.1)

unfoldable pub key_at : ℕ → List ℕ → Read DocKey
key_at whole [] = Err (Truncated whole)
key_at whole (tag ∷ rest) = if nat_eq tag 0x47 then hashed_key_at whole rest else plain_key_at whole (tag ∷ rest)

-- all of the bytes
unfoldable pub key_of : List ℕ → Result DocKey KeyRefusal
key_of bytes = key_at (length bytes) bytes >>= ended (length bytes)

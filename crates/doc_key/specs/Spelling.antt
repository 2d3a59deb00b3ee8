-- The spelling of document keys as bytes.
use Rattle.std.specs.Prelude.{ℕ, ◌+◌, Bool, true, false, ◌&&◌, List, [], ◌∷◌, ◌++◌, length, Option, Some, None, nat_le}
use Rattle.std.specs.List.{flat_map, list_all, AllByRecursion}
use Rattle.std.specs.Int.{w16, to_be_bytes}
use Rattle.doc_value.specs.declared.primitive.Primitive.{Primitive}
use Rattle.doc_value.specs.declared.primitive.Primitive.TheVariants.{Int, Text, False, True, Column}
use Rattle.doc_value.specs.Spelling as value
use Rattle.doc_key.specs.declared.doc_key.DocKey.{DocKey}
use Rattle.doc_key.specs.Hash.{hash_of}

-- the columns, one after another
abbrev pub columns : List Primitive → List ℕ
columns group = flat_map value.spelling group

-- the hash of a key: that of its hashed columns, where it has any
abbrev pub hash_of_columns : List Primitive → Option ℕ
hash_of_columns [] = None
hash_of_columns (c ∷ cs) = Some (hash_of (columns (c ∷ cs)))

-- nothing where no column is hashed, and else 47, the two bytes of the hash, the hashed columns and 21
abbrev pub hashed_group : List Primitive → List ℕ
hashed_group [] = []
hashed_group (c ∷ cs) = 0x47 ∷ (to_be_bytes w16 (hash_of (columns (c ∷ cs))) ++ (columns (c ∷ cs) ++ 0x21 ∷ []))

-- the hashed columns, and then the range columns and 21
abbrev pub spelling : DocKey → List ℕ
spelling key = hashed_group key.hashed ++ (columns key.range ++ 0x21 ∷ [])

-- a column number is no column, and neither is a text without a spelling
abbrev pub is_column : Primitive → Bool
is_column (Column n) = false
is_column False = true
is_column (Int z) = true
is_column (Text bytes) = value.has_spelling (Text bytes)
is_column True = true

-- the most columns that a key may have
abbrev pub most_columns : ℕ
most_columns = 8

-- the key has a spelling: it has one to eight columns
abbrev pub has_spelling : DocKey → Bool
has_spelling key =
    list_all is_column key.hashed && list_all is_column key.range && nat_le 1 (length key.hashed + length key.range) && nat_le (length key.hashed + length key.range) most_columns

-- the numbers in it are those of their types, as in each key that a program holds
pub record IsInRange (key : DocKey) : Type 0 where
  pub hashed : AllByRecursion value.IsInRange key.hashed
  pub range : AllByRecursion value.IsInRange key.range

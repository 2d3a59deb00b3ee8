-- The spelling of versioned keys as bytes: a path, and the time and the write number of a version of what stands there.
use Rattle.std.specs.Prelude.{◌≡◌, ℕ, ◌^◌, ◌<◌, ◌≤◌, List, [], ◌∷◌, ◌++◌, length, IsTrue}
use Rattle.std.specs.List.{concat, AllByRecursion}
use Rattle.std.specs.Int.{Width, w32, w64, bit_not, to_be_bytes}
use Rattle.doc_path.specs.Path.{Parts}
use Rattle.doc_value.specs.declared.primitive.Primitive.{Primitive}
use Rattle.doc_value.specs.Spelling as of_value
use Rattle.doc_key.specs.declared.doc_key.DocKey.{DocKey}
use Rattle.doc_key.specs.Spelling as of_key
use Rattle.sub_doc_key.specs.declared.sub_doc_key.SubDocKey.{SubDocKey}

-- a number with each of its bits turned round, high byte first: the greater the number, the lesser the bytes
abbrev pub downward : Width → ℕ → List ℕ
downward w n = to_be_bytes w (bit_not w n)

-- 23, the hybrid time and the write number, so that the newest version comes first
abbrev pub suffix : ℕ → ℕ → List ℕ
suffix at number = 0x23 ∷ (downward w64 at ++ downward w32 number)

-- the parts of the path, one after another, and the suffix
abbrev pub spelling : SubDocKey → List ℕ
spelling key = concat key.path ++ suffix key.at key.number

-- the bytes spell a document key
pub record IsSpelledKey (bytes : List ℕ) : Type 0 where
  pub key : DocKey
  pub in_range : of_key.IsInRange key
  pub has : IsTrue (of_key.has_spelling key)
  pub is : bytes ≡ of_key.spelling key

-- the bytes spell a subkey, which is any value
pub record IsSpelledValue (bytes : List ℕ) : Type 0 where
  pub value : Primitive
  pub in_range : of_value.IsInRange value
  pub has : IsTrue (of_value.has_spelling value)
  pub is : bytes ≡ of_value.spelling value

-- the most subkeys that a path may have
abbrev pub most_subkeys : ℕ
most_subkeys = 4

-- the first part spells a document key, and each of up to four others a subkey
abbrev pub IsSpelledPath : Parts → Type 0
IsSpelledPath [] = ⊥
IsSpelledPath (first ∷ subkeys) = IsSpelledKey first × AllByRecursion IsSpelledValue subkeys × (length subkeys ≤ most_subkeys)

-- the key has a spelling that is read as this key
pub record HasSpelling (key : SubDocKey) : Type 0 where
  pub path : IsSpelledPath key.path
  pub at : key.at < 2 ^ 64
  pub number : key.number < 2 ^ 32

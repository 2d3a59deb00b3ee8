-- The spelling of values as bytes. Each begins with a tag. The order of spellings, byte by byte, is the order of the store.
use Rattle.std.specs.Prelude.{ℕ, zero, suc, ◌+◌, ◌-◌, ◌^◌, ◌<◌, Bool, true, ℤ, pos, negsuc, List, [], ◌∷◌, ◌++◌, length, nat_le}
use Rattle.std.specs.List.{flat_map}
use Rattle.std.specs.Int.{w32, w64, to_be_bytes}
use Rattle.std.specs.Int.RustNames.{FitsSigned}
use Rattle.doc_value.specs.declared.primitive.Primitive.{Primitive}
use Rattle.doc_value.specs.declared.primitive.Primitive.TheVariants.{Int, Text, False, True, Column}

-- how far an integer lies above the least of 64 bits: the number that its 64 bits stand for once the sign bit is flipped
abbrev pub above_least : ℤ → ℕ
above_least (pos n) = 2 ^ 63 + n
above_least (negsuc n) = 2 ^ 63 - suc n

-- the bytes, with a 01 after each 00
abbrev pub escaped_byte : ℕ → List ℕ
escaped_byte zero = 0 ∷ 1 ∷ []
escaped_byte (suc b) = suc b ∷ []

abbrev pub escaped : List ℕ → List ℕ
escaped bytes = flat_map escaped_byte bytes

-- False is 46. An integer is 49 and eight bytes, high byte first. A column number is 4B and four bytes.
-- A text is 53, its bytes with a 01 after each 00, and then 00 00. True is 54.
abbrev pub spelling : Primitive → List ℕ
spelling False = 0x46 ∷ []
spelling (Int z) = 0x49 ∷ to_be_bytes w64 (above_least z)
spelling (Column n) = 0x4B ∷ to_be_bytes w32 n
spelling (Text bytes) = 0x53 ∷ (escaped bytes ++ 0 ∷ 0 ∷ [])
spelling True = 0x54 ∷ []

-- the most bytes that a text may have
abbrev pub longest_text : ℕ
longest_text = 256

-- the value has a spelling: each has, but a text of more than 256 bytes
abbrev pub has_spelling : Primitive → Bool
has_spelling False = true
has_spelling (Int z) = true
has_spelling (Column n) = true
has_spelling (Text bytes) = nat_le (length bytes) longest_text
has_spelling True = true

-- the numbers in it are those of their types, as in each value that a program holds
abbrev pub IsInRange : Primitive → Type 0
IsInRange False = Unit {0}
IsInRange (Int z) = FitsSigned w64 z
IsInRange (Column n) = n < 2 ^ 32
IsInRange (Text bytes) = Unit {0}
IsInRange True = Unit {0}

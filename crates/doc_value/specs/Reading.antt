-- Reading a value off the front of bytes, from left to right: the value and the bytes after it, or the first fault.
--
-- Each function takes `whole`, the number of all bytes that were given, and `bytes`, those that are not read yet.
-- So the first byte of `bytes` stands at `whole - length bytes`. The faults, and where each stands:
--   BadTag     a byte that is no tag of a value, where a value begins: at that byte
--   Truncated  the bytes end inside a spelling: at `whole`, where the missing byte would stand
--   BadText    in a text, a byte after a 00 that is neither 00 nor 01: at that byte
--   TooLong    a text of more than 256 bytes, met where it ends: at its tag
--   Spare      a byte after a whole spelling: at that byte
use Rattle.std.specs.Prelude.{◌≡◌, ℕ, zero, suc, ◌-◌, ◌<◌, List, [], ◌∷◌, ◌++◌, length, take, drop, Result, Ok, Err, pos, ◌-ℤ◌, slice_index, nat_lt, nat_eq, if◌then◌else◌}
use Rattle.std.specs.Int.{Width, w32, w64, byte_len, from_be_bytes}
use Rattle.doc_value.specs.declared.key_refusal.KeyRefusal.{KeyRefusal}
use Rattle.doc_value.specs.declared.key_refusal.KeyRefusal.TheVariants.{BadTag, Truncated, BadText, TooLong, Spare, Memory}
use Rattle.doc_value.specs.declared.primitive.Primitive.{Primitive}
use Rattle.doc_value.specs.declared.primitive.Primitive.TheVariants.{Int, Text, False, True, Column}
use Rattle.doc_value.specs.Spelling.{longest_text}

-- what is read, and the bytes after it; or the first fault
abbrev pub Read : Type 0 → Type 0
Read A = Result (A × List ℕ) KeyRefusal

infixl 10 ◌>>=◌
abbrev pub ◌>>=◌ : {A B : Type 0} → Result A KeyRefusal → (A → Result B KeyRefusal) → Result B KeyRefusal
(Ok x) >>= f = f x
(Err e) >>= f = Err e

-- What a function returned, seen by `view`, is what was read, unless memory ran out.
abbrev pub Fails : {B : Type 0} → KeyRefusal → Result B KeyRefusal → Type 0
Fails Memory read = Unit {0}
Fails fault read = read ≡ Err fault

abbrev pub Gives : {A B : Type 0} → (A → B) → Result A KeyRefusal → Result B KeyRefusal → Type 0
Gives view (Ok x) read = read ≡ Ok (view x)
Gives view (Err e) read = Fails e read

-- where the first byte of `bytes` stands
abbrev pub offset : ℕ → List ℕ → ℕ
offset whole bytes = whole - length bytes

-- the same list behind items that were read before it
abbrev pub onto : {A : Type 0} → List A → Read (List A) → Read (List A)
onto front read = read >>= λ x. Ok (front ++ x.0, x.1)

-- as many bytes as a number of this width has, high byte first
abbrev pub number_at : Width → ℕ → List ℕ → Read ℕ
number_at w whole bytes =
    if nat_lt (length bytes) (byte_len w) then Err (Truncated whole)
    else Ok (from_be_bytes w (take (byte_len w) bytes), drop (byte_len w) bytes)

-- the bytes of a text, up to and without the 00 00 that ends it, where a 00 01 stands for a 00
unfoldable pub text_at : ℕ → List ℕ → Read (List ℕ)
text_at whole [] = Err (Truncated whole)
text_at whole (suc b ∷ rest) = onto (suc b ∷ []) (text_at whole rest)
text_at whole (zero ∷ []) = Err (Truncated whole)
text_at whole (zero ∷ zero ∷ rest) = Ok ([], rest)
text_at whole (zero ∷ suc zero ∷ rest) = onto (0 ∷ []) (text_at whole rest)
text_at whole (zero ∷ suc (suc b) ∷ rest) = Err (BadText (offset whole (suc (suc b) ∷ rest)))

-- What follows the tag of an integer, of a column number and of a text. The tag of a text stands before its bytes.
unfoldable pub int_at : ℕ → List ℕ → Read Primitive
int_at whole rest = do
  number ← number_at w64 whole rest
  Ok (Int (pos number.0 -ℤ pos 0x8000_0000_0000_0000), number.1)

unfoldable pub column_id_at : ℕ → List ℕ → Read Primitive
column_id_at whole rest = do
  number ← number_at w32 whole rest
  Ok (Column number.0, number.1)

unfoldable pub string_at : ℕ → List ℕ → Read Primitive
string_at whole rest = do
  text ← text_at whole rest
  if nat_lt longest_text (length text.0) then Err (TooLong (offset whole rest - 1)) else Ok (Text text.0, text.1)

-- a value, by its tag
unfoldable pub value_at : ℕ → List ℕ → Read Primitive
value_at whole [] = Err (Truncated whole)
value_at whole (tag ∷ rest) =
    if nat_eq tag 0x46 then Ok (False, rest)
    else (if nat_eq tag 0x49 then int_at whole rest
    else (if nat_eq tag 0x4B then column_id_at whole rest
    else (if nat_eq tag 0x53 then string_at whole rest
    else (if nat_eq tag 0x54 then Ok (True, rest)
    else Err (BadTag (offset whole (tag ∷ rest)))))))

-- what was read is all that was given
unfoldable pub ended : {A : Type 0} → ℕ → A × List ℕ → Result A KeyRefusal
ended whole (x, []) = Ok x
ended whole (x, b ∷ rest) = Err (Spare (offset whole (b ∷ rest)))

-- all of the bytes
unfoldable pub value_of : List ℕ → Result Primitive KeyRefusal
value_of bytes = value_at (length bytes) bytes >>= ended (length bytes)

-- What the answer to a front of bytes, of this length, tells of the answer to all of them, where a byte at least
-- follows. A whole spelling is followed by a Spare byte. A Truncated names the length, and what follows decides. Any
-- other refusal is that of all bytes, whatever follows: it is the first.
abbrev pub Foretells : {A : Type 0} → ℕ → Result A KeyRefusal → Result A KeyRefusal → Type 0
Foretells len (Ok x) all = all ≡ Err (Spare len)
Foretells len (Err (Truncated at)) all = at ≡ len
Foretells len (Err fault) all = all ≡ Err fault

-- each is a byte
abbrev pub IsBytes : List ℕ → Type 0
IsBytes bytes = (i : ℕ) → slice_index bytes i < 256

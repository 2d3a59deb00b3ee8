-- The text of values, as scripts and reports show them.
use Rattle.std.specs.Prelude.{ℕ, ◌+◌, ◌/◌, ◌%◌, ◌||◌, ◌&&◌, List, [], ◌∷◌, ◌++◌, codes, decimal, nat_eq, nat_lt, nat_le, if◌then◌else◌}
use Rattle.std.specs.List.{flat_map}
use Rattle.std.specs.Fmt.{signed_decimal}
use Rattle.doc_value.specs.declared.primitive.Primitive.{Primitive}
use Rattle.doc_value.specs.declared.primitive.Primitive.TheVariants.{Int, Text, False, True, Column}

-- a lower-case hexadecimal digit
abbrev pub hex_digit : ℕ → ℕ
hex_digit n = if nat_lt n 10 then 48 + n else 87 + n

-- A quote and a backslash stand behind a backslash. The other bytes from 20 to 7E stand for themselves, and each
-- byte that is left is \xhh.
abbrev pub shown_byte : ℕ → List ℕ
shown_byte b =
    if nat_eq b 34 || nat_eq b 92 then 92 ∷ b ∷ []
    else (if nat_le 0x20 b && nat_le b 0x7E then b ∷ []
    else 92 ∷ 120 ∷ hex_digit (b / 16) ∷ hex_digit (b % 16) ∷ [])

-- An integer is decimal. A text stands in quotes. A column number is decimal behind a #.
abbrev pub shown : Primitive → List ℕ
shown False = codes "false"
shown (Int z) = signed_decimal z
shown (Column n) = 35 ∷ decimal n
shown (Text bytes) = 34 ∷ (flat_map shown_byte bytes ++ 34 ∷ [])
shown True = codes "true"

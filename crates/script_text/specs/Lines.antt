-- The lines of a script, its head and its body.
use Rattle.std.specs.Prelude.{ℕ, ◌+◌, List, [], ◌∷◌, ◌++◌, Option, Some, None, option_map, nat_eq, if◌then◌else◌, codes}
use Rattle.std.specs.Str.{bytes_eq}

abbrev pub Text : Type 0
Text = List ℕ

-- the byte, before the first of the lines
abbrev pub onto_first : ℕ → List Text → List Text
onto_first b [] = (b ∷ []) ∷ []
onto_first b (line ∷ lines) = (b ∷ line) ∷ lines

-- the lines of a text, each ended by a line feed, which the last may lack
unfoldable pub lines_of : Text → List Text
lines_of [] = []
lines_of (b ∷ bytes) = if nat_eq b 10 then [] ∷ lines_of bytes else onto_first b (lines_of bytes)

-- the text before the first line that is three dashes, how many lines that is, and the lines after it
pub record Parts : Type 0 where
  pub head : Text
  pub before : ℕ
  pub body : List Text

-- one more line before
abbrev pub with_line : Text → Parts → Parts
with_line line parts = record { head = line ++ (10 ∷ parts.head); before = parts.before + 1; body = parts.body }

unfoldable pub parts_of : List Text → Option Parts
parts_of [] = None
parts_of (line ∷ lines) =
    if bytes_eq line (codes "---") then Some (record { head = []; before = 0; body = lines })
    else option_map (with_line line) (parts_of lines)

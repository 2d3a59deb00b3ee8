-- Texts that are parted at some bytes, but not within strings: lines into words, and paths at their marks.
use Rattle.std.specs.Prelude.{ℕ, zero, suc, Bool, true, false, not, ◌||◌, List, [], ◌∷◌, nat_eq, if◌then◌else◌, map, filter}
use Rattle.script_text.specs.Lines.{Text}
use Rattle.script_text.specs.declared.marks.Marks.{Marks}
use Rattle.script_text.specs.declared.marks.Marks.TheVariants.{OfLine, OfPath}
use Rattle.script_text.specs.declared.within.Within.{Within}
use Rattle.script_text.specs.declared.within.Within.TheVariants.{Outside, Inside, Behind}

-- where the next byte stands: a quote opens a string, and closes it but behind a backslash
abbrev pub after : Within → ℕ → Within
after Outside b = if nat_eq b 34 then Inside else Outside
after Inside b = if nat_eq b 34 then Outside else (if nat_eq b 92 then Behind else Inside)
after Behind b = Inside

-- the words of a line are parted by spaces; the marks of a path are [ ; , ] and /
abbrev pub parts : Marks → ℕ → Bool
parts OfLine b = nat_eq b 32
parts OfPath b = nat_eq b 91 || nat_eq b 59 || nat_eq b 44 || nat_eq b 93 || nat_eq b 47

-- the byte parts the text here
abbrev pub is_mark : Marks → Within → ℕ → Bool
is_mark marks Outside b = parts marks b
is_mark marks Inside b = false
is_mark marks Behind b = false

-- a text, and the byte that ends it, which is 0 for the last
pub record Piece : Type 0 where
  pub text : Text
  pub mark : ℕ

abbrev pub onto_piece : ℕ → List Piece → List Piece
onto_piece b [] = []
onto_piece b (p ∷ more) = record p { text = b ∷ p.text } ∷ more

-- the byte ends a piece, or belongs to the first
abbrev pub with_byte : Bool → ℕ → List Piece → List Piece
with_byte true b more = record { text = []; mark = b } ∷ more
with_byte false b more = onto_piece b more

unfoldable pub pieces_in : Marks → Text → Within → List Piece
pieces_in marks [] within = record { text = []; mark = 0 } ∷ []
pieces_in marks (b ∷ bytes) within = with_byte (is_mark marks within b) b (pieces_in marks bytes (after within b))

abbrev pub pieces_of : Marks → Text → List Piece
pieces_of marks text = pieces_in marks text Outside

-- the pieces behind a mark: none behind the last piece
abbrev pub pieces_behind : Marks → ℕ → Text → List Piece
pieces_behind marks zero rest = []
pieces_behind marks (suc mark) rest = pieces_of marks rest

abbrev pub is_empty : Text → Bool
is_empty [] = true
is_empty (b ∷ text) = false

-- the pieces that are not empty
abbrev pub words_in : List Piece → List Text
words_in pieces = filter (λ word. not (is_empty word)) (map (λ (p : Piece). p.text) pieces)

abbrev pub words_of : Text → List Text
words_of line = words_in (pieces_of OfLine line)

-- What a line with bytes is, by the text that it begins with.
use Rattle.std.proofs.Common.{◌≡◌, ℕ, false, List, [], ◌∷◌, length, eqb, Some, None, codes, refl, ap, ◌∙◌, sym}
use Rattle.docdb_run.specs.Form.{after_text, line_of, first_of, second_of, third_of, put_line, read_line}

line_of-filled : (clock : ℕ) (line : List ℕ) → false ≡ eqb (length line) 0 → line_of clock line ≡ first_of clock line (after_text (codes "1: single put [;\"") line)
line_of-filled clock [] filled = cc
line_of-filled clock (b ∷ line) filled = refl

pub line_of-put : (clock : ℕ) (line bytes : List ℕ) → false ≡ eqb (length line) 0 → Some bytes ≡ after_text (codes "1: single put [;\"") line → line_of clock line ≡ put_line bytes
line_of-put clock line bytes filled put = line_of-filled clock line filled ∙ ap (first_of clock line) (sym put)

line_of-other : (clock : ℕ) (line : List ℕ) → false ≡ eqb (length line) 0 → None ≡ after_text (codes "1: single put [;\"") line → line_of clock line ≡ second_of clock line (after_text (codes "1: read [;\"") line)
line_of-other clock line filled put = line_of-filled clock line filled ∙ ap (first_of clock line) (sym put)

pub line_of-read : (clock : ℕ) (line bytes : List ℕ) → false ≡ eqb (length line) 0 → None ≡ after_text (codes "1: single put [;\"") line → Some bytes ≡ after_text (codes "1: read [;\"") line → line_of clock line ≡ read_line bytes
line_of-read clock line bytes filled put read =
    line_of-other clock line filled put ∙ ap (second_of clock line) (sym read)

pub line_of-last : (clock : ℕ) (line : List ℕ) → false ≡ eqb (length line) 0 → None ≡ after_text (codes "1: single put [;\"") line → None ≡ after_text (codes "1: read [;\"") line → line_of clock line ≡ third_of clock (after_text (codes "1: clock 0 ") line)
line_of-last clock line filled put read =
    line_of-other clock line filled put ∙ ap (second_of clock line) (sym read)

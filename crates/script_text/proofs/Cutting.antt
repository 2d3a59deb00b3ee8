-- How the first line of a text is found.
use Rattle.std.proofs.Common.{◌≡◌, ◌≢◌, ℕ, ◌+◌, ◌<◌, List, [], ◌∷◌, ◌++◌, length, get_or, take, drop, refl, sym, ap, ◌∙◌, arith, eq-eqb}
use Rattle.std.proofs.lemmas.Bool.{ne_eqb}
use Rattle.std.proofs.lemmas.List.{append-nil, at_drop_more, drop_more, take-append-drop, take_more}
use Rattle.script_text.specs.Lines.{Text, lines_of, onto_first}

-- the bytes, before the first of the lines
abbrev pub onto_line : Text → List Text → List Text
onto_line [] lines = lines
onto_line (b ∷ front) lines = onto_first b (onto_line front lines)

onto_line-push : (front : Text) (b : ℕ) (lines : List Text) → onto_line (front ++ b ∷ []) lines ≡ onto_line front (onto_first b lines)
onto_line-push [] b lines = refl
onto_line-push (c ∷ front) b lines = ap (onto_first c) (onto_line-push front b lines)

onto_line-first : (front line : Text) (lines : List Text) → onto_line front (line ∷ lines) ≡ (front ++ line) ∷ lines
onto_line-first [] line lines = refl
onto_line-first (b ∷ front) line lines = ap (onto_first b) (onto_line-first front line lines)

onto_line-last : (front : Text) → 0 < length front → onto_line front [] ≡ front ∷ []
onto_line-last [] lt = absurd (omega arith)
onto_line-last (b ∷ []) lt = refl
onto_line-last (b ∷ c ∷ front) lt = ap (onto_first b) (onto_line-last (c ∷ front) (omega arith))

-- one byte on
pub line_more : (bytes : Text) (i : ℕ) → i < length bytes → get_or bytes i 0 ≢ 10
    → onto_line (take i bytes) (lines_of (drop i bytes)) ≡ onto_line (take (i + 1) bytes) (lines_of (drop (i + 1) bytes))
unfolding lines_of
line_more bytes i lt other =
    let step = at_drop_more lines_of bytes i 0 lt in
    let no_feed = ne_eqb _ _ other in
    rw (step, no_feed, take_more bytes i 0 lt, onto_line-push) refl

-- a line feed ends the first line
pub line_end : (bytes : Text) (i : ℕ) → i < length bytes → get_or bytes i 0 ≡ 10
    → onto_line (take i bytes) (lines_of (drop i bytes)) ≡ take i bytes ∷ lines_of (drop (i + 1) bytes)
unfolding lines_of
line_end bytes i lt is =
    let step = at_drop_more lines_of bytes i 0 lt in
    let feed = eq-eqb _ _ is in
    rw (step, feed, onto_line-first, append-nil) refl

-- the end of the text ends the last
pub line_last : (bytes : Text) → 0 < length bytes → onto_line bytes (lines_of []) ≡ bytes ∷ lines_of []
unfolding lines_of
line_last bytes some = onto_line-last bytes some

-- what stands on both sides of a line feed
pub feed_between : (bytes : Text) (i : ℕ) → i < length bytes → get_or bytes i 0 ≡ 10 → bytes ≡ take i bytes ++ 10 ∷ drop (i + 1) bytes
feed_between bytes i lt is =
    sym (take-append-drop i bytes)
    ∙ ap (λ (rest : Text). take i bytes ++ rest) (drop_more bytes i 0 lt ∙ ap (λ (b : ℕ). b ∷ drop (i + 1) bytes) is)

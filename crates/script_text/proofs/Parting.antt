-- How the pieces of a text are found from the left.
use Rattle.std.proofs.Common.{◌≡◌, ℕ, zero, suc, ◌+◌, ◌<◌, true, false, List, [], ◌∷◌, ◌++◌, length, get_or, take, drop, refl, sym, ap, ◌∙◌, arith}
use Rattle.std.proofs.lemmas.Bool.Decides.{nat_tests}
use Rattle.std.proofs.lemmas.List.{append-nil, append_assoc, at_drop_more, take_more}
use Rattle.script_text.specs.declared.marks.Marks.{Marks}
use Rattle.script_text.specs.declared.marks.Marks.TheVariants.{OfLine, OfPath}
use Rattle.script_text.specs.declared.within.Within.{Within}
use Rattle.script_text.specs.declared.within.Within.TheVariants.{Outside, Inside, Behind}
use Rattle.script_text.specs.Lines.{Text}
use Rattle.script_text.specs.Words.{Piece, after, is_mark, onto_piece, parts, pieces_behind, pieces_in, pieces_of, words_in, words_of}

-- the bytes, before the first of the pieces
abbrev pub onto_front : Text → List Piece → List Piece
onto_front [] more = more
onto_front (b ∷ front) more = onto_piece b (onto_front front more)

pub onto_front-push : (front : Text) (b : ℕ) (more : List Piece) → onto_front (front ++ b ∷ []) more ≡ onto_front front (onto_piece b more)
onto_front-push [] b more = refl
onto_front-push (c ∷ front) b more = ap (onto_piece c) (onto_front-push front b more)

abbrev piece : Text → ℕ → Piece
piece text mark = record { text = text; mark = mark }

pub onto_front-first : (front text : Text) (mark : ℕ) (more : List Piece)
    → onto_front front (piece text mark ∷ more) ≡ piece (front ++ text) mark ∷ more
onto_front-first [] text mark more = refl
onto_front-first (b ∷ front) text mark more = ap (onto_piece b) (onto_front-first front text mark more)

-- a mark is no quote and not 0
mark_of_line : (b : ℕ) → parts OfLine b ≡ true → (after Outside b ≡ Outside) × (0 < b)
mark_of_line b e = (grind (arith, nat_tests), grind (arith, nat_tests))

mark_of_path : (b : ℕ) → parts OfPath b ≡ true → (after Outside b ≡ Outside) × (0 < b)
mark_of_path b e = (grind (arith, nat_tests), grind (arith, nat_tests))

pub mark_outside : (marks : Marks) (within : Within) (b : ℕ) → is_mark marks within b ≡ true → (after within b ≡ Outside) × (0 < b)
mark_outside OfLine Outside b e = mark_of_line b e
mark_outside OfPath Outside b e = mark_of_path b e
mark_outside marks Inside b e = absurd cc
mark_outside marks Behind b e = absurd cc

pub pieces_behind_mark : (marks : Marks) (b : ℕ) (rest : Text) → 0 < b → pieces_behind marks b rest ≡ pieces_of marks rest
pieces_behind_mark marks zero rest lt = absurd (omega arith)
pieces_behind_mark marks (suc b) rest lt = refl

-- one byte on
pub pieces_more : (marks : Marks) (bytes : Text) (i : ℕ) (within : Within) → i < length bytes → is_mark marks within (get_or bytes i 0) ≡ false
    → onto_front (take i bytes) (pieces_in marks (drop i bytes) within)
    ≡ onto_front (take (i + 1) bytes) (pieces_in marks (drop (i + 1) bytes) (after within (get_or bytes i 0)))
unfolding pieces_in
pieces_more marks bytes i within lt not_mark =
    let step = at_drop_more (λ (t : Text). pieces_in marks t within) bytes i 0 lt in
    rw (step, not_mark, take_more bytes i 0 lt, onto_front-push) refl

-- a mark ends the first piece
pub pieces_end : (marks : Marks) (bytes : Text) (i : ℕ) (within : Within) → i < length bytes → is_mark marks within (get_or bytes i 0) ≡ true
    → onto_front (take i bytes) (pieces_in marks (drop i bytes) within)
    ≡ piece (take i bytes) (get_or bytes i 0) ∷ pieces_behind marks (get_or bytes i 0) (drop (i + 1) bytes)
unfolding pieces_in
pieces_end marks bytes i within lt mark =
    let b = get_or bytes i 0 in
    let step = at_drop_more (λ (t : Text). pieces_in marks t within) bytes i 0 lt in
    let out = mark_outside marks within b mark in
    rw (step, mark, out.0, onto_front-first, append-nil) (sym (ap (λ (more : List Piece). piece (take i bytes) b ∷ more) (pieces_behind_mark marks b (drop (i + 1) bytes) out.1)))

-- the end of the text ends the last
pub pieces_none : (marks : Marks) (bytes : Text) (within : Within) → onto_front bytes (pieces_in marks [] within) ≡ piece bytes 0 ∷ []
unfolding pieces_in
pieces_none marks bytes within = rw onto_front-first (ap (λ (t : Text). piece t 0 ∷ []) (append-nil bytes))

-- ---- words

-- a piece that is not empty is a word
pub word_more : (words : List Text) (pieces : List Piece) (text : Text) (mark : ℕ) (rest : Text) (all : List Text)
    → pieces ≡ piece text mark ∷ pieces_behind OfLine mark rest → 0 < length text → 0 < mark
    → words ++ words_in pieces ≡ all → (words ++ text ∷ []) ++ words_of rest ≡ all
word_more words pieces [] mark rest all is some behind said = absurd (omega arith)
word_more words pieces (b ∷ text) mark rest all is some behind said =
    append_assoc words ((b ∷ text) ∷ []) (words_of rest)
    ∙ (sym (ap (λ (ps : List Piece). words ++ (b ∷ text) ∷ words_in ps) (pieces_behind_mark OfLine mark rest behind))
    ∙ (sym (ap (λ (ps : List Piece). words ++ words_in ps) is) ∙ said))

pub word_none : (words : List Text) (pieces : List Piece) (text : Text) (mark : ℕ) (rest : Text) (all : List Text)
    → pieces ≡ piece text mark ∷ pieces_behind OfLine mark rest → length text ≡ 0 → 0 < mark
    → words ++ words_in pieces ≡ all → words ++ words_of rest ≡ all
word_none words pieces [] mark rest all is none behind said =
    sym (ap (λ (ps : List Piece). words ++ words_in ps) (pieces_behind_mark OfLine mark rest behind))
    ∙ (sym (ap (λ (ps : List Piece). words ++ words_in ps) is) ∙ said)
word_none words pieces (b ∷ text) mark rest all is none behind said = absurd (omega arith)

-- the last piece
pub word_last : (words : List Text) (pieces : List Piece) (text : Text) (mark : ℕ) (rest : Text) (all : List Text)
    → pieces ≡ piece text mark ∷ pieces_behind OfLine mark rest → 0 < length text → mark ≡ 0
    → words ++ words_in pieces ≡ all → words ++ text ∷ [] ≡ all
word_last words pieces [] mark rest all is some end said = absurd (omega arith)
word_last words pieces (b ∷ text) mark rest all is some end said =
    let ps : pieces ≡ piece (b ∷ text) 0 ∷ [] = is ∙ ap (λ (m : ℕ). piece (b ∷ text) m ∷ pieces_behind OfLine m rest) end in
    sym (ap (λ (ps : List Piece). words ++ words_in ps) ps) ∙ said

pub word_end : (words : List Text) (pieces : List Piece) (text : Text) (mark : ℕ) (rest : Text) (all : List Text)
    → pieces ≡ piece text mark ∷ pieces_behind OfLine mark rest → length text ≡ 0 → mark ≡ 0
    → words ++ words_in pieces ≡ all → words ≡ all
word_end words pieces [] mark rest all is none end said =
    let ps : pieces ≡ piece [] 0 ∷ [] = is ∙ ap (λ (m : ℕ). piece [] m ∷ pieces_behind OfLine m rest) end in
    sym (append-nil words) ∙ (sym (ap (λ (ps : List Piece). words ++ words_in ps) ps) ∙ said)
word_end words pieces (b ∷ text) mark rest all is none end said = absurd (omega arith)

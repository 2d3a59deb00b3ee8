-- Texts within which no byte parts, as they stand in lines and paths that are written.
use Rattle.std.proofs.Common.{◌≡◌, ℕ, ◌<◌, ◌≤◌, ◌^◌, Bool, true, false, cond, ◌&&◌, List, [], ◌∷◌, ◌++◌, length, Option, Some, None, nat_eq, nat_le, decimal, refl, sym, ap, ◌∙◌, arith, IsAscii, flat_map}
use Rattle.std.specs.List.{AllByRecursion, list_all}
use Rattle.std.proofs.lemmas.Bool.{and_from, and_parts, le-leb, leb-true, ne_eqb, or_from}
use Rattle.std.proofs.lemmas.List.{append-nil}
use Rattle.std.proofs.lemmas.List.Folds.{list_all-append}
use Rattle.std.proofs.lemmas.Str.Ascii.{IsAscii-cons, IsAscii-nil}
use Rattle.script_text.specs.declared.marks.Marks.{Marks}
use Rattle.script_text.specs.declared.marks.Marks.TheVariants.{OfLine, OfPath}
use Rattle.script_text.specs.declared.within.Within.{Within}
use Rattle.script_text.specs.declared.within.Within.TheVariants.{Outside}
use Rattle.script_text.specs.Lines.{Text, lines_of, onto_first}
use Rattle.script_text.specs.Terms.{is_digit}
use Rattle.script_text.specs.Words.{Piece, after, is_mark, onto_piece, parts, pieces_in, pieces_of, with_byte, words_in, words_of}
use Rattle.script_text.specs.Written.{behind_space, spaced}
use Rattle.script_text.proofs.Digits.{decimal_spells}
use Rattle.script_text.proofs.Parting.{mark_outside, onto_front, onto_front-first}

abbrev piece : Text → ℕ → Piece
piece text mark = record { text = text; mark = mark }

-- ---- printed bytes

abbrev pub is_printed : ℕ → Bool
is_printed b = nat_le 32 b && nat_le b 126

abbrev pub is_plain : Text → Bool
is_plain text = list_all is_printed text

pub plain_append : (a b : Text) → is_plain a ≡ true → is_plain b ≡ true → is_plain (a ++ b) ≡ true
plain_append a b p q = list_all-append is_printed a b ∙ and_from (is_plain a) (is_plain b) p q

printed : (b : ℕ) → is_printed b ≡ true → (32 ≤ b) × (b ≤ 126)
printed b e = let both = and_parts (nat_le 32 b) (nat_le b 126) e in (leb-true _ _ both.0, leb-true _ _ both.1)

pub plain_ascii : (text : Text) → is_plain text ≡ true → IsAscii text
plain_ascii [] p = IsAscii-nil
plain_ascii (b ∷ text) p =
    let both = and_parts (is_printed b) (is_plain text) p in
    IsAscii-cons b text (omega (arith, printed b both.0)) (plain_ascii text both.1)

-- a line feed ends a line
pub line_ends : (line rest : Text) → is_plain line ≡ true → lines_of (line ++ 10 ∷ rest) ≡ line ∷ lines_of rest
unfolding lines_of
line_ends [] rest p = refl
line_ends (b ∷ line) rest p =
    let both = and_parts (is_printed b) (is_plain line) p in
    let other : nat_eq b 10 ≡ false = ne_eqb b 10 (omega (arith, printed b both.0)) in
    rw other (ap (onto_first b) (line_ends line rest both.1))

-- ---- no byte is a mark

-- where the text ends, if no byte of it is a mark
abbrev pub stays : Marks → Within → Text → Option Within
stays marks at [] = Some at
stays marks at (b ∷ text) = cond (is_mark marks at b) None (stays marks (after at b) text)

pub record Stands (marks : Marks) (at : Within) (text : Text) (next : Within) : Type 0 where
  pub stays : stays marks at text ≡ Some next
  pub plain : is_plain text ≡ true

some_is : {A : Type 0} (x y : A) → Some x ≡ Some y → x ≡ y
some_is {A = A} x y e = cc

stays-append : (marks : Marks) (at mid : Within) (a b : Text) → stays marks at a ≡ Some mid → stays marks at (a ++ b) ≡ stays marks mid b
stays-append marks at mid [] b e = ap (λ (w : Within). stays marks w b) (some_is at mid e)
stays-append marks at mid (c ∷ a) b e = go (λ e. stays-append marks (after at c) mid a b e) (is_mark marks at c) e
  where
    go : (stays marks (after at c) a ≡ Some mid → stays marks (after at c) (a ++ b) ≡ stays marks mid b) → (mark : Bool)
        → cond mark None (stays marks (after at c) a) ≡ Some mid → cond mark None (stays marks (after at c) (a ++ b)) ≡ stays marks mid b
    go more true e = absurd cc
    go more false e = more e

pub stands_append : (marks : Marks) (at mid next : Within) (a b : Text) → Stands marks at a mid → Stands marks mid b next → Stands marks at (a ++ b) next
stands_append marks at mid next a b p q = record {
  stays = stays-append marks at mid a b p.stays ∙ q.stays;
  plain = plain_append a b p.plain q.plain;
}

pieces_stay : (marks : Marks) (at next : Within) (text rest : Text) → stays marks at text ≡ Some next
    → pieces_in marks (text ++ rest) at ≡ onto_front text (pieces_in marks rest next)
unfolding pieces_in
pieces_stay marks at next [] rest e = ap (λ (w : Within). pieces_in marks rest w) (some_is at next e)
pieces_stay marks at next (b ∷ text) rest e = go (λ e. pieces_stay marks (after at b) next text rest e) (is_mark marks at b) e
  where
    go : (stays marks (after at b) text ≡ Some next → pieces_in marks (text ++ rest) (after at b) ≡ onto_front text (pieces_in marks rest next)) → (mark : Bool)
        → cond mark None (stays marks (after at b) text) ≡ Some next
        → with_byte mark b (pieces_in marks (text ++ rest) (after at b)) ≡ onto_piece b (onto_front text (pieces_in marks rest next))
    go more true e = absurd cc
    go more false e = ap (onto_piece b) (more e)

pub piece_front : (marks : Marks) (text rest : Text) → stays marks Outside text ≡ Some Outside
    → pieces_of marks (text ++ rest) ≡ onto_front text (pieces_of marks rest)
piece_front marks text rest e = pieces_stay marks Outside Outside text rest e

-- a mark ends the first piece
pub piece_marked : (marks : Marks) (text rest : Text) (b : ℕ) → stays marks Outside text ≡ Some Outside → parts marks b ≡ true
    → pieces_of marks (text ++ b ∷ rest) ≡ piece text b ∷ pieces_of marks rest
unfolding pieces_in
piece_marked marks text rest b e mark =
    pieces_stay marks Outside Outside text (b ∷ rest) e
    ∙ (ap (onto_front text) at_mark
    ∙ (onto_front-first text [] b (pieces_of marks rest)
    ∙ ap (λ (t : Text). piece t b ∷ pieces_of marks rest) (append-nil text)))
  where
    at_mark : pieces_in marks (b ∷ rest) Outside ≡ piece [] b ∷ pieces_of marks rest
    at_mark = rw (mark, (mark_outside marks Outside b mark).0) refl

-- the last piece
pub piece_last : (marks : Marks) (text : Text) → stays marks Outside text ≡ Some Outside → pieces_of marks text ≡ piece text 0 ∷ []
unfolding pieces_in
piece_last marks text e =
    ap (λ (t : Text). pieces_of marks t) (sym (append-nil text))
    ∙ (pieces_stay marks Outside Outside text [] e
    ∙ (onto_front-first text [] 0 [] ∙ ap (λ (t : Text). piece t 0 ∷ []) (append-nil text)))

-- ---- digits

digit_apart : (b : ℕ) → (48 ≤ b) × (b ≤ 57) → (parts OfLine b ≡ false) × (parts OfPath b ≡ false) × (nat_eq b 34 ≡ false)
digit_apart b h =
    let least = h.0 in
    let most = h.1 in (
      ne_eqb b 32 (omega arith),
      or_from _ _ (or_from _ _ (or_from _ _ (or_from _ _ (ne_eqb b 91 (omega arith)) (ne_eqb b 59 (omega arith))) (ne_eqb b 44 (omega arith))) (ne_eqb b 93 (omega arith))) (ne_eqb b 47 (omega arith)),
      ne_eqb b 34 (omega arith),
    )

no_mark : (marks : Marks) (b : ℕ) → (48 ≤ b) × (b ≤ 57) → parts marks b ≡ false
no_mark OfLine b h = (digit_apart b h).0
no_mark OfPath b h = (digit_apart b h).1

digits_stand : (marks : Marks) (text : Text) → list_all is_digit text ≡ true → Stands marks Outside text Outside
digits_stand marks [] e = record { stays = refl; plain = refl }
digits_stand marks (b ∷ text) e =
    let both = and_parts (is_digit b) (list_all is_digit text) e in
    let bounds = and_parts (nat_le 48 b) (nat_le b 57) both.0 in
    let least = leb-true 48 b bounds.0 in
    let most = leb-true b 57 bounds.1 in
    let apart = no_mark marks b (least, most) in
    let no_quote = (digit_apart b (least, most)).2 in
    let rest = digits_stand marks text both.1 in
    record {
      stays = rw (apart, no_quote) rest.stays;
      plain = and_from (is_printed b) (is_plain text) (and_from (nat_le 32 b) (nat_le b 126) (le-leb _ _ (omega arith)) (le-leb _ _ (omega arith))) rest.plain;
    }

pub decimal_stands : (marks : Marks) (n : ℕ) → n < 2 ^ 64 → Stands marks Outside (decimal n) Outside
decimal_stands marks n lt = digits_stand marks (decimal n) (decimal_spells n lt).digits

-- ---- words

pub record IsWord (word : Text) : Type 0 where
  pub stands : Stands OfLine Outside word Outside
  pub some : 0 < length word

words_behind : (word : Text) (words : List Text) → IsWord word → AllByRecursion IsWord words
    → words_of (word ++ flat_map behind_space words) ≡ word ∷ words
words_behind [] words is are = absurd (omega (arith, is.some))
words_behind (b ∷ word) [] is are =
    ap (λ (t : Text). words_of t) (append-nil (b ∷ word)) ∙ ap words_in (piece_last OfLine (b ∷ word) is.stands.stays)
words_behind (b ∷ word) (next ∷ words) is are =
    ap words_in (piece_marked OfLine (b ∷ word) (next ++ flat_map behind_space words) 32 is.stands.stays refl)
    ∙ ap (λ (ws : List Text). (b ∷ word) ∷ ws) (words_behind next words are.0 are.1)

-- the words of a line that is written
pub words_again : (word : Text) (words : List Text) → IsWord word → AllByRecursion IsWord words → words_of (spaced (word ∷ words)) ≡ word ∷ words
words_again word words is are = words_behind word words is are

words_plain : (words : List Text) → AllByRecursion IsWord words → is_plain (flat_map behind_space words) ≡ true
words_plain [] are = refl
words_plain (word ∷ words) are = plain_append (32 ∷ word) (flat_map behind_space words) are.0.stands.plain (words_plain words are.1)

pub spaced_plain : (words : List Text) → AllByRecursion IsWord words → is_plain (spaced words) ≡ true
spaced_plain [] are = refl
spaced_plain (word ∷ words) are = plain_append word (flat_map behind_space words) are.0.stands.plain (words_plain words are.1)

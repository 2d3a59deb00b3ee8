-- The lines of a script, one by one.
use Rattle.std.proofs.Common.{◌≡◌, ℕ, ◌+◌, ◌≤◌, ◌<◌, true, false, List, [], ◌∷◌, ◌++◌, length, take, drop, get_or, eqb, if◌then◌else◌, Option, Some, None, refl, sym, ap, ◌∙◌, arith}
use Rattle.std.proofs.lemmas.List.{at_drop_more, take_more, take_all, drop_all}
use Rattle.std.proofs.lemmas.Bool.Decides.{nat_tests}
use Rattle.docdb_run.specs.Form.{lines_from, lines_of, Reading, after_line, Form, Accepted, Later, form_over, form_of, at_first}

lines_from-byte : (line : List ℕ) (b : ℕ) (bytes : List ℕ) → lines_from line (b ∷ bytes) ≡ (if eqb b 10 then line ∷ lines_from [] bytes else lines_from (line ++ b ∷ []) bytes)
unfolding lines_from
lines_from-byte [] b bytes = refl
lines_from-byte (a ∷ line) b bytes = refl

lines_from-at : (line bytes : List ℕ) (i d : ℕ) → i < length bytes → lines_from line (drop i bytes) ≡ (if eqb (get_or bytes i d) 10 then line ∷ lines_from [] (drop (i + 1) bytes) else lines_from (line ++ get_or bytes i d ∷ []) (drop (i + 1) bytes))
lines_from-at line bytes i d h =
    at_drop_more (lines_from line) bytes i d h ∙ lines_from-byte line (get_or bytes i d) (drop (i + 1) bytes)

lines_from-end : (line : List ℕ) → 0 < length line → lines_from line [] ≡ line ∷ []
unfolding lines_from
lines_from-end [] h = absurd (omega arith)
lines_from-end (a ∷ line) h = refl

-- the first line is what stands before place i
abbrev pub IsFront : List ℕ → ℕ → Type 0
IsFront bytes i = lines_from (take i bytes) (drop i bytes) ≡ lines_of bytes

pub front-more : (bytes : List ℕ) (i d : ℕ) → i < length bytes → eqb (get_or bytes i d) 10 ≡ false → IsFront bytes i → IsFront bytes (i + 1)
front-more bytes i d h other front = rw (take_more bytes i d h) (
    sym (lines_from-at (take i bytes) bytes i d h ∙ ap (λ t. if t then take i bytes ∷ lines_from [] (drop (i + 1) bytes) else lines_from (take i bytes ++ get_or bytes i d ∷ []) (drop (i + 1) bytes)) other)
    ∙ front)

pub front-feed : (bytes : List ℕ) (i d : ℕ) → i < length bytes → eqb (get_or bytes i d) 10 ≡ true → IsFront bytes i → lines_of bytes ≡ take i bytes ∷ lines_of (drop (i + 1) bytes)
front-feed bytes i d h feed front =
    sym front ∙ (lines_from-at (take i bytes) bytes i d h ∙ ap (λ t. if t then take i bytes ∷ lines_from [] (drop (i + 1) bytes) else lines_from (take i bytes ++ get_or bytes i d ∷ []) (drop (i + 1) bytes)) feed)

lines_of-nil : lines_of [] ≡ []
unfolding lines_from
lines_of-nil = refl

pub front-all : (bytes : List ℕ) (i : ℕ) → length bytes ≤ i → 0 < length bytes → IsFront bytes i → lines_of bytes ≡ bytes ∷ lines_of []
front-all bytes i h some front =
    sym front ∙ (ap (λ l. lines_from l (drop i bytes)) (take_all i bytes h) ∙ (ap (lines_from bytes) (drop_all i bytes h)
    ∙ (lines_from-end bytes some ∙ ap (λ ls. bytes ∷ ls) (sym lines_of-nil))))

nat_eq_zero : (n : ℕ) → true ≡ eqb n 0 → n ≡ 0
nat_eq_zero n h = grind (arith, nat_tests)

pub lines_of-empty : (bytes : List ℕ) → true ≡ eqb (length bytes) 0 → lines_of bytes ≡ []
lines_of-empty [] h = lines_of-nil
lines_of-empty (b ∷ bytes) h = absurd (omega (arith, nat_eq_zero (length (b ∷ bytes)) h))

-- what comes of the lines after one that is read, or refused
follow : Option Reading → ℕ → List (List ℕ) → Form
follow (Some next) n lines = form_over next lines
follow None n lines = Later n

form_over-step : (r : Reading) (line : List ℕ) (lines : List (List ℕ)) → form_over r (line ∷ lines) ≡ follow (after_line r line) r.line lines
unfolding form_over follow
form_over-step r line lines = go (after_line r line)
  where
    go : (o : Option Reading) → (elim o [ Some next ↦ form_over next lines | None ↦ Later r.line ]) ≡ follow o r.line lines
    go (Some next) = refl
    go None = refl

step_to : (r : Reading) (rest line after : List ℕ) (o : Option Reading) (whole : Form) → lines_of rest ≡ line ∷ lines_of after → after_line r line ≡ o → form_over r (lines_of rest) ≡ whole → follow o r.line (lines_of after) ≡ whole
step_to r rest line after o whole split read same =
    ap (λ p. follow p r.line (lines_of after)) (sym read) ∙ (sym (form_over-step r line (lines_of after)) ∙ (ap (form_over r) (sym split) ∙ same))

pub more_lines : (r next : Reading) (rest line after : List ℕ) (whole : Form) → lines_of rest ≡ line ∷ lines_of after → after_line r line ≡ Some next → form_over r (lines_of rest) ≡ whole → form_over next (lines_of after) ≡ whole
unfolding follow
more_lines r next rest line after whole split read same = step_to r rest line after (Some next) whole split read same

pub refused_line : (r : Reading) (rest line after : List ℕ) (whole : Form) → lines_of rest ≡ line ∷ lines_of after → after_line r line ≡ None → form_over r (lines_of rest) ≡ whole → whole ≡ Later r.line
unfolding follow
refused_line r rest line after whole split read same = sym (step_to r rest line after None whole split read same)

-- the end of the lines
pub no_lines : (r : Reading) → r.line ≡ 1 → form_over r [] ≡ Later 1
unfolding form_over
no_lines r h = rw h refl

pub end_of_lines : (r : Reading) → (r.line ≡ 1 → ⊥) → form_over r [] ≡ Accepted r.commands
unfolding form_over
end_of_lines r h = grind (arith, nat_tests)

-- a script of no more than the most bytes
pub form_of-within : (script : List ℕ) → length script ≤ 16777216 → form_of script ≡ form_over at_first (lines_of script)
form_of-within script h = grind (arith, nat_tests)

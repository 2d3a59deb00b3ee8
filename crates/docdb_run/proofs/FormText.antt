-- Texts and numbers of a line, byte by byte.
use Rattle.std.proofs.Common.{◌≡◌, ℕ, ◌+◌, ◌-◌, ◌*◌, ◌≤◌, ◌<◌, ◌&&◌, Bool, true, false, nat_le, List, [], ◌∷◌, length, take, drop, get_or, Option, Some, None, MatchOption, option_copied, refl, sym, ap, ◌∙◌, if◌then◌else◌, option_and_then, Bor, eqb, arith}
use Rattle.std.proofs.lemmas.Bool.Decides.{nat_tests}
use Rattle.std.proofs.lemmas.List.{at_drop_more, at_drop_all}
use Rattle.std.specs.Str.{bytes_eq}
use Rattle.docdb_run.specs.Form.{after_text, is_letter, letter_count, is_digit, number_from}

pub letter_count-at : (bytes : List ℕ) (i d : ℕ) → i < length bytes → letter_count (drop i bytes) ≡ (if is_letter (get_or bytes i d) then letter_count (drop (i + 1) bytes) + 1 else 0)
unfolding letter_count
letter_count-at bytes i d h = at_drop_more letter_count bytes i d h

pub letter_count-end : (bytes : List ℕ) (i : ℕ) → length bytes ≤ i → letter_count (drop i bytes) ≡ 0
unfolding letter_count
letter_count-end bytes i h = at_drop_all letter_count bytes i h

-- a number with one more digit
abbrev pub with_digit : ℕ → ℕ → ℕ → Option ℕ
with_digit most n b = if is_digit b && nat_le (n * 10 + (b - 48)) most then Some (n * 10 + (b - 48)) else None

number_from-step : (most n b : ℕ) (bytes : List ℕ) → number_from most n (b ∷ bytes) ≡ option_and_then (λ m. number_from most m bytes) (with_digit most n b)
unfolding number_from
number_from-step most n b bytes = go (is_digit b && nat_le (n * 10 + (b - 48)) most)
  where
    go : (t : Bool) → (if t then number_from most (n * 10 + (b - 48)) bytes else None) ≡ option_and_then (λ m. number_from most m bytes) (if t then Some (n * 10 + (b - 48)) else None)
    go true = refl
    go false = refl

pub number_from-at : (most n : ℕ) (bytes : List ℕ) (i d : ℕ) → i < length bytes → number_from most n (drop i bytes) ≡ option_and_then (λ m. number_from most m (drop (i + 1) bytes)) (with_digit most n (get_or bytes i d))
number_from-at most n bytes i d h =
    at_drop_more (number_from most n) bytes i d h ∙ number_from-step most n (get_or bytes i d) (drop (i + 1) bytes)

pub number_from-none : (most n : ℕ) (bytes : List ℕ) (i d : ℕ) (r : Option ℕ) → i < length bytes → with_digit most n (get_or bytes i d) ≡ None → number_from most n (drop i bytes) ≡ r → None ≡ r
number_from-none most n bytes i d r h e same =
    sym (number_from-at most n bytes i d h ∙ ap (option_and_then (λ m. number_from most m (drop (i + 1) bytes))) e) ∙ same

pub number_from-more : (most n m : ℕ) (bytes : List ℕ) (i d : ℕ) (r : Option ℕ) → i < length bytes → with_digit most n (get_or bytes i d) ≡ Some m → number_from most n (drop i bytes) ≡ r → number_from most m (drop (i + 1) bytes) ≡ r
number_from-more most n m bytes i d r h e same =
    sym (number_from-at most n bytes i d h ∙ ap (option_and_then (λ m. number_from most m (drop (i + 1) bytes))) e) ∙ same

pub number_from-end : (most n : ℕ) (bytes : List ℕ) (i : ℕ) → length bytes ≤ i → number_from most n (drop i bytes) ≡ Some n
unfolding number_from
number_from-end most n bytes i h = at_drop_all (number_from most n) bytes i h

eqb-symm : (a b : ℕ) → eqb a b ≡ eqb b a
eqb-symm a b = grind (arith, nat_tests)

-- a text that the bytes begin with, by the front of its length
after_text-front : (text bytes : List ℕ) → after_text text bytes ≡ (if bytes_eq (take (length text) bytes) text then Some (drop (length text) bytes) else None)
unfolding after_text
after_text-front [] bytes = refl
after_text-front (t ∷ text) [] = refl
after_text-front (t ∷ text) (b ∷ bytes) = rw (after_text-front text bytes, eqb-symm t b) (go (eqb b t))
  where
    same : Bool
    same = bytes_eq (take (length text) bytes) text

    rest : Option (List ℕ)
    rest = Some (drop (length text) bytes)

    go : (first : Bool) → (if first then (if same then rest else None) else None) ≡ (if first && same then rest else None)
    go true = refl
    go false = refl

pub after_text-stripped : (text bytes : List ℕ) (r : Option (Bor (List ℕ))) → MatchOption r (bytes_eq (take (length text) bytes) text ≡ false) (λ x. (bytes_eq (take (length text) bytes) text ≡ true) × (x.now ≡ drop (length text) bytes) × (length x.now + length text ≡ length bytes)) → option_copied r ≡ after_text text bytes
after_text-stripped text bytes None h = rw (after_text-front text bytes, h) refl
after_text-stripped text bytes (Some x) h = rw (after_text-front text bytes, h.0, h.1) refl

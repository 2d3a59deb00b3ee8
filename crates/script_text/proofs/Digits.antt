-- Numbers that are written in decimal are read as they were.
use Rattle.std.proofs.Common.{◌≡◌, ℕ, ◌+◌, ◌-◌, ◌*◌, ◌/◌, ◌%◌, ◌^◌, ◌<◌, ◌≤◌, true, not, ◌&&◌, ◌||◌, [], ◌∷◌, ◌++◌, length, Some, nat_eq, nat_le, decimal, fold, refl, ap, ◌∙◌, arith, inl, inr}
use Rattle.std.specs.List.{list_all}
use Rattle.std.proofs.lemmas.Bool.{and_from, cases_eq, eq-eqb, le-leb, ne_eqb, or_left, or_right}
use Rattle.std.proofs.lemmas.Fmt.{decimal_by_steps}
use Rattle.std.proofs.lemmas.List.{length_push}
use Rattle.std.proofs.lemmas.List.Folds.{list_all-append}
use Rattle.script_text.specs.Lines.{Text}
use Rattle.script_text.specs.Terms.{decimal_value, is_digit, is_whole, leads, number_in}

-- the text is the digits of the number
pub record Spells (n : ℕ) (text : Text) : Type 0 where
  pub digits : list_all is_digit text ≡ true
  pub value : decimal_value text ≡ n
  pub some : 0 < length text
  pub one : n ≡ 0 → length text ≡ 1
  pub leads : 0 < n → leads text ≡ true

digit : (d : ℕ) → d < 10 → is_digit (48 + d) ≡ true
digit d lt = and_from (nat_le 48 (48 + d)) (nat_le (48 + d) 57) (le-leb _ _ (omega arith)) (le-leb _ _ (omega arith))

one_digit : (n : ℕ) → n < 10 → Spells n ((48 + n) ∷ [])
one_digit n lt = record {
  digits = and_from (is_digit (48 + n)) true (digit n lt) refl;
  value = omega arith;
  some = omega arith;
  one = λ _. refl;
  leads = λ some. ap not (ne_eqb (48 + n) 48 (omega arith));
}

push_from : (m : ℕ) (text : Text) (b : ℕ)
    → fold (λ n b. n * 10 + (b - 48)) m (text ++ b ∷ []) ≡ fold (λ n b. n * 10 + (b - 48)) m text * 10 + (b - 48)
push_from m [] b = refl
push_from m (c ∷ text) b = push_from (m * 10 + (c - 48)) text b

decimal_value-push : (text : Text) (b : ℕ) → decimal_value (text ++ b ∷ []) ≡ decimal_value text * 10 + (b - 48)
decimal_value-push text b = push_from 0 text b

leads-append : (text more : Text) → leads text ≡ true → leads (text ++ more) ≡ true
leads-append [] more e = absurd cc
leads-append (b ∷ text) more e = e

digit_more : (n : ℕ) (text : Text) → 10 ≤ n → Spells (n / 10) text → Spells n (text ++ (48 + n % 10) ∷ [])
digit_more n text le s = record {
  digits = list_all-append is_digit text ((48 + n % 10) ∷ [])
      ∙ and_from (list_all is_digit text) (is_digit (48 + n % 10) && true) s.digits (and_from (is_digit (48 + n % 10)) true (digit (n % 10) (omega arith)) refl);
  value = decimal_value-push text (48 + n % 10) ∙ omega (arith, s.value);
  some = omega (arith, length_push text (48 + n % 10));
  one = λ none. absurd (omega arith);
  leads = λ some. leads-append text ((48 + n % 10) ∷ []) (s.leads (omega arith));
}

pub decimal_spells : (n : ℕ) → n < 2 ^ 64 → Spells n (decimal n)
decimal_spells n lt = decimal_by_steps Spells one_digit digit_more n lt

whole : (n : ℕ) (text : Text) → Spells n text → is_whole text ≡ true
whole n text s = and_from (list_all is_digit text) (nat_eq (length text) 1 || leads text) s.digits (elim (cases_eq n 0) [
  | inl none ↦ or_left (nat_eq (length text) 1) (leads text) (eq-eqb _ _ (s.one none))
  | inr some ↦ or_right (nat_eq (length text) 1) (leads text) (s.leads (omega arith))
])

number_spelled : (low high n : ℕ) (text : Text) → Spells n text → low ≤ n → n ≤ high → number_in low high text ≡ Some n
number_spelled low high n text s least most =
    let is_whole = whole n text s in
    rw (is_whole, s.value, le-leb low n least, le-leb n high most) refl

-- a number in its limits
pub number_again : (low high n : ℕ) → low ≤ n → n ≤ high → n < 2 ^ 64 → number_in low high (decimal n) ≡ Some n
number_again low high n least most lt = number_spelled low high n (decimal n) (decimal_spells n lt) least most

-- The text of a value is read as this value.
use Rattle.std.proofs.Common.{◌≡◌, ℕ, suc, ◌+◌, ◌-◌, ◌*◌, ◌/◌, ◌%◌, ◌^◌, ◌<◌, ◌≤◌, ◌⊎◌, Bool, true, false, cond, ◌&&◌, ◌||◌, pos, negsuc, List, [], ◌∷◌, ◌++◌, length, Some, nat_eq, nat_le, decimal, flat_map, codes, refl, sym, ap, subst, ◌∙◌, arith, inl, inr}
use Rattle.std.specs.Int.{w64}
use Rattle.std.specs.Int.RustNames.{FitsSigned}
use Rattle.std.specs.List.{AllByRecursion, list_all}
use Rattle.std.specs.Prelude.{option_map, option_and_then}
use Rattle.std.proofs.lemmas.Bool.{and_from, and_parts, cases_lt, eqb-true, le-leb, le-ltb, leb-true, lt-leb, lt-ltb, ne_eqb, or_cases, or_parts}
use Rattle.std.proofs.lemmas.Int.{ints}
use Rattle.std.proofs.lemmas.List.{append_assoc}
use Rattle.doc_key.specs.Spelling as of_key
use Rattle.doc_value.specs.declared.primitive.Primitive.{Primitive}
use Rattle.doc_value.specs.declared.primitive.Primitive.TheVariants.{Int, Text as TextCase, False, True, Column}
use Rattle.doc_value.specs.Showing.{hex_digit, shown, shown_byte}
use Rattle.doc_value.specs.Spelling as of_value
use Rattle.script_text.specs.declared.in_string.InString.TheVariants.{Plain}
use Rattle.script_text.specs.declared.marks.Marks.{Marks}
use Rattle.script_text.specs.declared.marks.Marks.TheVariants.{OfLine, OfPath}
use Rattle.script_text.specs.declared.within.Within.TheVariants.{Outside, Inside}
use Rattle.script_text.specs.Lines.{Text}
use Rattle.script_text.specs.Terms.{column_of, hex_value, if_spelled, integer_of, is_digit, onto, string_in, subkey_of, number_in}
use Rattle.script_text.proofs.Digits.{Spells, decimal_spells, number_again}
use Rattle.script_text.proofs.InBytes.{IsByte, IsOfBytes}
use Rattle.script_text.proofs.Staying.{Stands, decimal_stands, is_printed, stands_append}

-- ---- hexadecimal digits

pub hex_again : (n : ℕ) → n < 16 → hex_value (hex_digit n) ≡ Some n
hex_again n lt = elim (cases_lt n 10) [
  | inl small ↦
      let below = lt-ltb n 10 small in
      let digit : is_digit (48 + n) ≡ true = and_from (nat_le 48 (48 + n)) (nat_le (48 + n) 57) (le-leb _ _ (omega arith)) (le-leb _ _ (omega arith)) in
      rw (below, digit) (ap (λ (m : ℕ). Some m) (omega arith))
  | inr large ↦
      let above = le-ltb n 10 large in
      let least = le-leb 48 (87 + n) (omega arith) in
      let no_digit = lt-leb (87 + n) 57 (omega arith) in
      let letter = le-leb 97 (87 + n) (omega arith) in
      let last = le-leb (87 + n) 102 (omega arith) in
      rw (above, least, no_digit, letter, last) (ap (λ (m : ℕ). Some m) (omega arith))
]

-- a digit is no quote and no backslash, and it is printed
record IsApart (b : ℕ) : Type 0 where
  no_quote : nat_eq b 34 ≡ false
  no_backslash : nat_eq b 92 ≡ false

hex_apart : (n : ℕ) → IsApart (hex_digit n)
hex_apart n = elim (cases_lt n 10) [
  | inl small ↦
      let below = lt-ltb n 10 small in
      rw below (record { no_quote = ne_eqb (48 + n) 34 (omega arith); no_backslash = ne_eqb (48 + n) 92 (omega arith) })
  | inr large ↦
      let above = le-ltb n 10 large in
      rw above (record { no_quote = ne_eqb (87 + n) 34 (omega arith); no_backslash = ne_eqb (87 + n) 92 (omega arith) })
]

hex_printed : (n : ℕ) → n < 16 → is_printed (hex_digit n) ≡ true
hex_printed n lt = elim (cases_lt n 10) [
  | inl small ↦
      let below = lt-ltb n 10 small in
      rw below (and_from (nat_le 32 (48 + n)) (nat_le (48 + n) 126) (le-leb _ _ (omega arith)) (le-leb _ _ (omega arith)))
  | inr large ↦
      let above = le-ltb n 10 large in
      rw above (and_from (nat_le 32 (87 + n)) (nat_le (87 + n) 126) (le-leb _ _ (omega arith)) (le-leb _ _ (omega arith)))
]

-- ---- the bytes of strings

-- what a byte of a string is shown as is read as this byte, and no byte of it parts a text
record IsShownByte (b : ℕ) (text : Text) : Type 0 where
  again : (rest : Text) → string_in (text ++ rest) Plain ≡ onto (b ∷ []) (string_in rest Plain)
  stands : (marks : Marks) → Stands marks Inside text Inside

quote : IsShownByte 34 (92 ∷ 34 ∷ [])
unfolding string_in
quote = record { again = λ rest. refl; stands = λ marks. record { stays = refl; plain = refl } }

backslash : IsShownByte 92 (92 ∷ 92 ∷ [])
unfolding string_in
backslash = record { again = λ rest. refl; stands = λ marks. record { stays = refl; plain = refl } }

itself : (b : ℕ) → IsApart b → is_printed b ≡ true → IsShownByte b (b ∷ [])
unfolding string_in
itself b apart printed =
    let no_quote = apart.no_quote in
    let no_backslash = apart.no_backslash in
    record {
      again = λ rest. rw (no_quote, no_backslash) refl;
      stands = λ marks. record { stays = rw (no_quote, no_backslash) refl; plain = and_from (is_printed b) true printed refl };
    }

in_hex : (b : ℕ) → b < 256 → IsShownByte b (92 ∷ 120 ∷ hex_digit (b / 16) ∷ hex_digit (b % 16) ∷ [])
unfolding string_in
in_hex b lt =
    let high : b / 16 < 16 = omega arith in
    let low : b % 16 < 16 = omega arith in
    let first = hex_again (b / 16) high in
    let second = hex_again (b % 16) low in
    let one = hex_apart (b / 16) in
    let other = hex_apart (b % 16) in
    let one_printed = hex_printed (b / 16) high in
    let other_printed = hex_printed (b % 16) low in
    record {
      again = λ rest. both (hex_digit (b / 16)) (hex_digit (b % 16)) first second rest;
      stands = λ marks. apart marks (hex_digit (b / 16)) (hex_digit (b % 16)) one other one_printed other_printed;
    }
  where
    is : b / 16 % 16 * 16 + b % 16 ≡ b
    is = omega arith

    both : (h l : ℕ) → hex_value h ≡ Some (b / 16) → hex_value l ≡ Some (b % 16) → (rest : Text)
        → string_in (92 ∷ 120 ∷ h ∷ l ∷ rest) Plain ≡ onto (b ∷ []) (string_in rest Plain)
    both h l e e' rest = rw (e, e', is) refl

    apart : (marks : Marks) (h l : ℕ) → IsApart h → IsApart l → is_printed h ≡ true → is_printed l ≡ true → Stands marks Inside (92 ∷ 120 ∷ h ∷ l ∷ []) Inside
    apart marks h l p q hp lp =
        let p_quote = p.no_quote in
        let p_backslash = p.no_backslash in
        let q_quote = q.no_quote in
        let q_backslash = q.no_backslash in
        record {
          stays = rw (p_quote, p_backslash, q_quote, q_backslash) refl;
          plain = and_from (is_printed h) (is_printed l && true) hp (and_from (is_printed l) true lp refl);
        }

byte_shown : (b : ℕ) → b < 256 → IsShownByte b (shown_byte b)
byte_shown b lt = go (nat_eq b 34 || nat_eq b 92) refl (nat_le 0x20 b && nat_le b 0x7E) refl
  where
    escaped : (nat_eq b 34 ≡ true) ⊎ (nat_eq b 92 ≡ true) → IsShownByte b (92 ∷ b ∷ [])
    escaped (inl e) = subst (λ (c : ℕ). IsShownByte c (92 ∷ c ∷ [])) (sym (eqb-true b 34 e)) quote
    escaped (inr e) = subst (λ (c : ℕ). IsShownByte c (92 ∷ c ∷ [])) (sym (eqb-true b 92 e)) backslash

    go : (behind : Bool) → (nat_eq b 34 || nat_eq b 92) ≡ behind → (plain : Bool) → is_printed b ≡ plain
        → IsShownByte b (cond behind (92 ∷ b ∷ []) (cond plain (b ∷ []) (92 ∷ 120 ∷ hex_digit (b / 16) ∷ hex_digit (b % 16) ∷ [])))
    go true e plain e' = escaped (or_cases (nat_eq b 34) (nat_eq b 92) e)
    go false e true e' =
        let apart = or_parts (nat_eq b 34) (nat_eq b 92) e in
        itself b (record { no_quote = apart.0; no_backslash = apart.1 }) e'
    go false e false e' = in_hex b lt

string_again : (bytes : List ℕ) → AllByRecursion IsByte bytes → string_in (flat_map shown_byte bytes ++ 34 ∷ []) Plain ≡ Some bytes
unfolding string_in
string_again [] are = refl
string_again (b ∷ bytes) are =
    ap (λ (t : Text). string_in t Plain) (append_assoc (shown_byte b) (flat_map shown_byte bytes) (34 ∷ []))
    ∙ ((byte_shown b are.0).again (flat_map shown_byte bytes ++ 34 ∷ [])
    ∙ ap (onto (b ∷ [])) (string_again bytes are.1))

bytes_stand : (marks : Marks) (bytes : List ℕ) → AllByRecursion IsByte bytes → Stands marks Inside (flat_map shown_byte bytes) Inside
bytes_stand marks [] are = record { stays = refl; plain = refl }
bytes_stand marks (b ∷ bytes) are =
    stands_append marks Inside Inside Inside (shown_byte b) (flat_map shown_byte bytes) ((byte_shown b are.0).stands marks) (bytes_stand marks bytes are.1)

-- ---- columns

-- the text of a value: it is read as this value, no byte of it parts a text, and it is some text
pub record IsShown (v : Primitive) (text : Text) : Type 0 where
  pub stands : (marks : Marks) → Stands marks Outside text Outside
  pub some : 0 < length text
  pub column : of_key.is_column v ≡ true → column_of text ≡ Some v
  pub subkey : of_value.has_spelling v ≡ true → subkey_of text ≡ Some v

digits_column : (n : ℕ) (text : Text) → Spells n text → (column_of text ≡ option_map Int (integer_of text)) × (subkey_of text ≡ option_map Int (integer_of text))
digits_column n [] s = absurd (omega (arith, s.some))
digits_column n (b ∷ text) s =
    let bounds = and_parts (nat_le 48 b) (nat_le b 57) (and_parts (is_digit b) (list_all is_digit text) s.digits).0 in
    let least = leb-true 48 b bounds.0 in
    let most = leb-true b 57 bounds.1 in
    let no_quote = ne_eqb b 34 (omega arith) in
    let no_true = ne_eqb b 116 (omega arith) in
    let no_false = ne_eqb b 102 (omega arith) in
    let no_hash = ne_eqb b 35 (omega arith) in
    (rw (no_quote, no_true, no_false) refl, rw (no_hash, no_quote, no_true, no_false) refl)

digits_integer : (n : ℕ) (text : Text) → Spells n text → integer_of text ≡ option_map pos (number_in 0 (2 ^ 63 - 1) text)
digits_integer n [] s = absurd (omega (arith, s.some))
digits_integer n (b ∷ text) s =
    let bounds = and_parts (nat_le 48 b) (nat_le b 57) (and_parts (is_digit b) (list_all is_digit text) s.digits).0 in
    let least = leb-true 48 b bounds.0 in
    let most = leb-true b 57 bounds.1 in
    let no_minus = ne_eqb b 45 (omega arith) in
    rw no_minus refl

above_shown : (n : ℕ) → FitsSigned w64 (pos n) → IsShown (Int (pos n)) (decimal n)
above_shown n fits =
    let lt : n < 2 ^ 63 = omega (arith, ints, fits.sfits) in
    let s = decimal_spells n (omega arith) in
    let is : integer_of (decimal n) ≡ Some (pos n) = digits_integer n (decimal n) s ∙ ap (option_map pos) (number_again 0 (2 ^ 63 - 1) n (omega arith) (omega arith) (omega arith)) in
    record {
      stands = λ marks. decimal_stands marks n (omega arith);
      some = s.some;
      column = λ _. (digits_column n (decimal n) s).0 ∙ ap (option_map Int) is;
      subkey = λ _. (digits_column n (decimal n) s).1 ∙ ap (option_map Int) is;
    }

below_shown : (n : ℕ) → FitsSigned w64 (negsuc n) → IsShown (Int (negsuc n)) (45 ∷ decimal (suc n))
below_shown n fits =
    let lt : suc n ≤ 2 ^ 63 = omega (arith, ints, fits.sfits) in
    let is : integer_of (45 ∷ decimal (suc n)) ≡ Some (negsuc n) =
    ap (option_map (λ n. negsuc (n - 1))) (number_again 1 (2 ^ 63) (suc n) (omega arith) lt (omega arith))
    ∙ ap (λ (m : ℕ). Some (negsuc m)) (omega arith) in
    record {
      stands = λ marks. minus marks (decimal_stands marks (suc n) (omega arith));
      some = omega arith;
      column = λ _. ap (option_map Int) is;
      subkey = λ _. ap (option_map Int) is;
    }
  where
    minus : (marks : Marks) → Stands marks Outside (decimal (suc n)) Outside → Stands marks Outside (45 ∷ decimal (suc n)) Outside
    minus OfLine s = record { stays = s.stays; plain = s.plain }
    minus OfPath s = record { stays = s.stays; plain = s.plain }

number_shown : (n : ℕ) → n < 2 ^ 32 → IsShown (Column n) (35 ∷ decimal n)
number_shown n lt = record {
  stands = λ marks. hash marks (decimal_stands marks n (omega arith));
  some = omega arith;
  column = λ e. absurd cc;
  subkey = λ _. ap (option_map Column) (number_again 0 (2 ^ 32 - 1) n (omega arith) (omega arith) (omega arith));
}
  where
    hash : (marks : Marks) → Stands marks Outside (decimal n) Outside → Stands marks Outside (35 ∷ decimal n) Outside
    hash OfLine s = record { stays = s.stays; plain = s.plain }
    hash OfPath s = record { stays = s.stays; plain = s.plain }

text_shown : (bytes : List ℕ) → AllByRecursion IsByte bytes → IsShown (TextCase bytes) (34 ∷ (flat_map shown_byte bytes ++ 34 ∷ []))
text_shown bytes are =
    let read = string_again bytes are in
    record {
      stands = λ marks. quoted marks (stands_append marks Inside Inside Outside (flat_map shown_byte bytes) (34 ∷ []) (bytes_stand marks bytes are) (record { stays = refl; plain = refl }));
      some = omega arith;
      column = λ has. ap (option_and_then (λ bs. if_spelled (TextCase bs))) read ∙ rw has refl;
      subkey = λ has. ap (option_and_then (λ bs. if_spelled (TextCase bs))) read ∙ rw has refl;
    }
  where
    quoted : (marks : Marks) → Stands marks Inside (flat_map shown_byte bytes ++ 34 ∷ []) Outside → Stands marks Outside (34 ∷ (flat_map shown_byte bytes ++ 34 ∷ [])) Outside
    quoted OfLine s = record { stays = s.stays; plain = s.plain }
    quoted OfPath s = record { stays = s.stays; plain = s.plain }

false_shown : IsShown False (codes "false")
false_shown = record { stands = stands; some = omega arith; column = λ _. refl; subkey = λ _. refl }
  where
    stands : (marks : Marks) → Stands marks Outside (codes "false") Outside
    stands OfLine = record { stays = refl; plain = refl }
    stands OfPath = record { stays = refl; plain = refl }

true_shown : IsShown True (codes "true")
true_shown = record { stands = stands; some = omega arith; column = λ _. refl; subkey = λ _. refl }
  where
    stands : (marks : Marks) → Stands marks Outside (codes "true") Outside
    stands OfLine = record { stays = refl; plain = refl }
    stands OfPath = record { stays = refl; plain = refl }

pub value_shown : (v : Primitive) → of_value.IsInRange v → IsOfBytes v → IsShown v (shown v)
value_shown False fits are = false_shown
value_shown (Int (pos n)) fits are = above_shown n fits
value_shown (Int (negsuc n)) fits are = below_shown n fits
value_shown (Column n) fits are = number_shown n fits
value_shown (TextCase bytes) fits are = text_shown bytes are
value_shown True fits are = true_shown

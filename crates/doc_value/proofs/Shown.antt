-- What is shown is ASCII.
use Rattle.std.proofs.Common.{All, ℕ, ◌/◌, ◌%◌, ◌<◌, Bool, true, false, cond, List, [], ◌∷◌, ◌++◌, nat_eq, nat_le, suc, arith, IsAscii, flat_map, ◌||◌, ◌&&◌, ◌≡◌, refl}
use Rattle.std.proofs.lemmas.Bool.Decides.{nat_tests}
use Rattle.std.proofs.lemmas.List.Elements.{All-head, All-tail}
use Rattle.std.proofs.lemmas.Str.{IsAscii-append}
use Rattle.std.proofs.lemmas.Str.Ascii.{IsAscii-cons, IsAscii-nil}
use Rattle.doc_value.specs.Reading.{IsBytes}
use Rattle.doc_value.specs.Showing.{hex_digit, shown_byte}

digit_ascii : (n : ℕ) → n < 16 → hex_digit n < 128
digit_ascii n lt = grind (arith, nat_tests)

one : (b : ℕ) → b < 128 → IsAscii (b ∷ [])
one b lt = IsAscii-cons b [] lt IsAscii-nil

two : (a b : ℕ) → a < 128 → b < 128 → IsAscii (a ∷ b ∷ [])
two a b p q = IsAscii-cons a (b ∷ []) p (one b q)

marked : (b : ℕ) → (nat_eq b 34 || nat_eq b 92) ≡ true → b < 128
marked b e = grind (arith, nat_tests)

printed : (b : ℕ) → (nat_le 0x20 b && nat_le b 0x7E) ≡ true → b < 128
printed b e = grind (arith, nat_tests)

hex_ascii : (b : ℕ) → b < 256 → IsAscii (92 ∷ 120 ∷ hex_digit (b / 16) ∷ hex_digit (b % 16) ∷ [])
hex_ascii b lt =
    IsAscii-append (92 ∷ 120 ∷ []) (hex_digit (b / 16) ∷ hex_digit (b % 16) ∷ []) (two 92 120 (omega arith) (omega arith))
    (two (hex_digit (b / 16)) (hex_digit (b % 16)) (digit_ascii (b / 16) (omega arith)) (digit_ascii (b % 16) (omega arith)))

chosen : (is_marked is_printed : Bool) (b : ℕ) (hex : List ℕ) → (is_marked ≡ true → b < 128) → (is_printed ≡ true → b < 128) → IsAscii hex
    → IsAscii (cond is_marked (92 ∷ b ∷ []) (cond is_printed (b ∷ []) hex))
chosen true is_printed b hex m p h = two 92 b (omega arith) (m refl)
chosen false true b hex m p h = one b (p refl)
chosen false false b hex m p h = h

pub byte_ascii : (b : ℕ) → b < 256 → IsAscii (shown_byte b)
byte_ascii b lt = chosen (nat_eq b 34 || nat_eq b 92) (nat_le 0x20 b && nat_le b 0x7E) b _ (marked b) (printed b) (hex_ascii b lt)

pub text_ascii : (bytes : List ℕ) → IsBytes bytes → IsAscii (flat_map shown_byte bytes)
text_ascii [] h = IsAscii-nil
text_ascii (b ∷ bytes) h = IsAscii-append (shown_byte b) (flat_map shown_byte bytes) (byte_ascii b (h 0)) (text_ascii bytes (λ i. h (suc i)))

pub quoted_ascii : (bytes : List ℕ) → IsBytes bytes → IsAscii (34 ∷ (flat_map shown_byte bytes ++ 34 ∷ []))
quoted_ascii bytes h =
    IsAscii-cons 34 (flat_map shown_byte bytes ++ 34 ∷ []) (omega arith)
    (IsAscii-append (flat_map shown_byte bytes) (34 ∷ []) (text_ascii bytes h) (one 34 (omega arith)))

-- texts one after another, each behind a byte
pub parted_ascii : {X : Type 0} (b : ℕ) → b < 128 → (text : X → List ℕ) (xs : List X) → All (λ (x : X). IsAscii (text x)) xs
    → IsAscii (flat_map (λ (x : X). b ∷ text x) xs)
parted_ascii b lt text [] all = IsAscii-nil
parted_ascii {X = X} b lt text (x ∷ xs) all =
    let Is : X → Type 0 = λ y. IsAscii (text y) in
    IsAscii-append (b ∷ text x) (flat_map (λ (y : X). b ∷ text y) xs)
    (IsAscii-cons b (text x) lt (All-head Is x xs all)) (parted_ascii b lt text xs (All-tail Is x xs all))

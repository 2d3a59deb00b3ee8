-- The number of a text, as a parse gives it.
use Rattle.std.proofs.Common.{◌≡◌, ◌^◌, ◌<◌, ◌≤◌, ℕ, Bool, true, false, Some, None, refl, ap, arith}
use Rattle.std.specs.Str.Parse.{IsNumeral, digits_value, without_leading_plus}
use Rattle.clap.specs.Words.{Text}
use Rattle.clap.specs.ValueTests.{is_unsigned_in}
use Rattle.clap.specs.declared.builder.value_parser.ValueParser.TheVariants as vp
use Rattle.clap.proofs.ValueTestLemmas.{Accepts-accepts, accepts-Accepts}
use Rattle.run_words.specs.Words.{number_in}

-- the text is a number of at most 64 bits
abbrev pub IsNumber : Text → Type 0
IsNumber t = IsNumeral 10 (without_leading_plus t) × (digits_value 10 (without_leading_plus t) < 2 ^ 64)

-- a number in range
pub number-in_range : (low high n : ℕ) (t : Text) → IsNumber t → n ≡ digits_value 10 (without_leading_plus t) → low ≤ n → n ≤ high
    → Some n ≡ number_in low high t
number-in_range low high n t number is above within =
    let yes : is_unsigned_in low high t ≡ true =
    Accepts-accepts false (vp.Unsigned low high) t (number.0, number.1, omega arith, omega arith) in
    rw yes (ap Some is)

-- no number
pub number-refused : (low high : ℕ) (t : Text) → (IsNumber t → ⊥) → None ≡ number_in low high t
number-refused low high t other = go (is_unsigned_in low high t) refl
  where
    go : (b : Bool) → is_unsigned_in low high t ≡ b → None ≡ number_in low high t
    go true e =
        let a = accepts-Accepts false (vp.Unsigned low high) t e in
        absurd (other (a.0, a.1))
    go false e = rw e refl

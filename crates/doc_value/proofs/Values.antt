-- Values: what is read is spelled so, what is spelled is read.
use Rattle.std.proofs.Common.{◌≡◌, ℕ, ◌-◌, ◌^◌, ◌<◌, true, false, cond, ltb, eqb, IsTrue, ℤ, pos, negsuc, ◌-ℤ◌, List, [], ◌∷◌, ◌++◌, length, Result, Ok, Err, refl, sym, ap, subst, ◌∙◌, append_assoc, arith, inl, inr}
use Rattle.std.specs.Prelude.{IfOk}
use Rattle.std.specs.Int.{w32, w64, to_be_bytes}
use Rattle.std.specs.Int.RustNames.{FitsSigned}
use Rattle.std.proofs.lemmas.Bool.{eqb-true, ltb-false, le-ltb, le-leb, leb-true}
use Rattle.std.proofs.lemmas.Int.{ints}
use Rattle.std.proofs.lemmas.List.{append-nil}
use Rattle.doc_value.specs.declared.key_refusal.KeyRefusal.{KeyRefusal}
use Rattle.doc_value.specs.declared.key_refusal.KeyRefusal.TheVariants.{TooLong}
use Rattle.doc_value.specs.declared.primitive.Primitive.{Primitive}
use Rattle.doc_value.specs.declared.primitive.Primitive.TheVariants.{Int, Text, False, True, Column}
use Rattle.doc_value.specs.Spelling.{above_least, escaped, spelling, has_spelling, IsInRange}
use Rattle.doc_value.specs.Reading.{◌>>=◌, Gives, offset, number_at, text_at, int_at, column_id_at, string_at, value_at, ended, value_of, IsBytes}
use Rattle.doc_value.proofs.Steps.{IsBytes-behind, bind_ok, guard_ok, chosen, ok_is, wide32, wide64, number_takes, number_again}
use Rattle.doc_value.proofs.Texts.{text_takes, text_again}

above_least-from : (n : ℕ) → n < 2 ^ 64 → above_least (pos n -ℤ pos 0x8000_0000_0000_0000) ≡ n
above_least-from n lt = grind (arith, ints)

from-above_least : (z : ℤ) → FitsSigned w64 z → pos (above_least z) -ℤ pos 0x8000_0000_0000_0000 ≡ z
from-above_least (pos n) fits = omega (arith, ints)
from-above_least (negsuc n) fits = omega (arith, ints, fits.sfits)

pub above_least-lt : (z : ℤ) → FitsSigned w64 z → above_least z < 2 ^ 64
above_least-lt (pos n) fits = omega (arith, fits.sfits)
above_least-lt (negsuc n) fits = omega (arith, fits.sfits)

FitsSigned-from : (n : ℕ) → n < 2 ^ 64 → FitsSigned w64 (pos n -ℤ pos 0x8000_0000_0000_0000)
FitsSigned-from n lt = omega (arith, ints)

-- the value was taken from the front of the bytes
pub record Takes (bytes : List ℕ) (value : Primitive) (rest : List ℕ) : Type 0 where
  pub in_range : IsInRange value
  pub has : IsTrue (has_spelling value)
  pub parts : bytes ≡ spelling value ++ rest

abbrev Found : List ℕ → Primitive × List ℕ → Type 0
Found bytes x = Takes bytes x.0 x.1

int_takes : (whole : ℕ) (bytes : List ℕ) (x : Primitive × List ℕ) → IsBytes bytes → int_at whole bytes ≡ Ok x → Found (0x49 ∷ bytes) x
unfolding int_at
int_takes whole bytes x fits e =
    let a = bind_ok (number_at w64 whole bytes) (λ n. Ok (Int (pos n.0 -ℤ pos 0x8000_0000_0000_0000), n.1)) x e in
    let t = number_takes w64 (2 ^ 64) wide64 whole bytes a.0.0 a.0.1 fits a.1 in
    subst (Found (0x49 ∷ bytes)) (ok_is (Int (pos a.0.0 -ℤ pos 0x8000_0000_0000_0000), a.0.1) x a.2) (record {
      in_range = FitsSigned-from a.0.0 t.1;
      has = refl;
      parts = ap (λ (t : List ℕ). 0x49 ∷ t) (t.0 ∙ ap (λ (n : ℕ). to_be_bytes w64 n ++ a.0.1) (sym (above_least-from a.0.0 t.1)));
    })

column_id_takes : (whole : ℕ) (bytes : List ℕ) (x : Primitive × List ℕ) → IsBytes bytes → column_id_at whole bytes ≡ Ok x → Found (0x4B ∷ bytes) x
unfolding column_id_at
column_id_takes whole bytes x fits e =
    let a = bind_ok (number_at w32 whole bytes) (λ n. Ok (Column n.0, n.1)) x e in
    let t = number_takes w32 (2 ^ 32) wide32 whole bytes a.0.0 a.0.1 fits a.1 in
    subst (Found (0x4B ∷ bytes)) (ok_is (Column a.0.0, a.0.1) x a.2) (record {
      in_range = t.1;
      has = refl;
      parts = ap (λ (t : List ℕ). 0x4B ∷ t) t.0;
    })

string_takes : (whole : ℕ) (bytes : List ℕ) (x : Primitive × List ℕ) → string_at whole bytes ≡ Ok x → Found (0x53 ∷ bytes) x
unfolding string_at
string_takes whole bytes x e =
    let a = bind_ok (text_at whole bytes) (λ text. cond (ltb 256 (length text.0)) (Err (TooLong (offset whole bytes - 1))) (Ok (Text text.0, text.1))) x e in
    let g = guard_ok (ltb 256 (length a.0.0)) (TooLong (offset whole bytes - 1)) (Text a.0.0, a.0.1) x a.2 in
    subst (Found (0x53 ∷ bytes)) g.1 (record {
      in_range = tt;
      has = le-leb _ _ (ltb-false _ _ g.0);
      parts = ap (λ (t : List ℕ). 0x53 ∷ t) (text_takes whole bytes a.0.0 a.0.1 a.1 ∙ sym (append_assoc (escaped a.0.0) (0 ∷ 0 ∷ []) a.0.1));
    })

value_found : (whole : ℕ) (bytes : List ℕ) (x : Primitive × List ℕ) → IsBytes bytes → value_at whole bytes ≡ Ok x → Found bytes x
unfolding value_at
value_found whole [] x fits e = absurd cc
value_found whole (tag ∷ bytes) x fits e =
    let behind = IsBytes-behind (tag ∷ bytes) (tag ∷ []) bytes refl fits in
    let front : (t : ℕ) → eqb tag t ≡ true → Found (t ∷ bytes) x → Found (tag ∷ bytes) x = λ t same. subst (λ (u : ℕ). Found (u ∷ bytes) x) (sym (eqb-true tag t same)) in
    elim (chosen (eqb tag 0x46) _ _ (Ok x) e) [
      | inl a ↦ front 0x46 a.0 (subst (Found (0x46 ∷ bytes)) (ok_is (False, bytes) x a.1) (record { in_range = tt; has = refl; parts = refl }))
      | inr a ↦ elim (chosen (eqb tag 0x49) _ _ (Ok x) a.1) [
        | inl b ↦ front 0x49 b.0 (int_takes whole bytes x behind b.1)
        | inr b ↦ elim (chosen (eqb tag 0x4B) _ _ (Ok x) b.1) [
          | inl c ↦ front 0x4B c.0 (column_id_takes whole bytes x behind c.1)
          | inr c ↦ elim (chosen (eqb tag 0x53) _ _ (Ok x) c.1) [
            | inl d ↦ front 0x53 d.0 (string_takes whole bytes x d.1)
            | inr d ↦ elim (chosen (eqb tag 0x54) _ _ (Ok x) d.1) [
              | inl f ↦ front 0x54 f.0 (subst (Found (0x54 ∷ bytes)) (ok_is (True, bytes) x f.1) (record { in_range = tt; has = refl; parts = refl }))
              | inr f ↦ absurd cc
            ]
          ]
        ]
      ]
    ]

pub value_takes : (whole : ℕ) (bytes : List ℕ) (value : Primitive) (rest : List ℕ) → IsBytes bytes → value_at whole bytes ≡ Ok (value, rest) → Takes bytes value rest
value_takes whole bytes value rest fits e = value_found whole bytes (value, rest) fits e

pub value_again : (whole : ℕ) (value : Primitive) (rest : List ℕ) → IsInRange value → IsTrue (has_spelling value) → value_at whole (spelling value ++ rest) ≡ Ok (value, rest)
unfolding value_at int_at column_id_at string_at
value_again whole False rest in_range has = refl
value_again whole True rest in_range has = refl
value_again whole (Int z) rest in_range has =
    rw (number_again w64 (2 ^ 64) wide64 whole (above_least z) rest (above_least-lt z in_range), from-above_least z in_range) refl
value_again whole (Column n) rest in_range has = rw (number_again w32 (2 ^ 32) wide32 whole n rest in_range) refl
value_again whole (Text text) rest in_range has =
    let regrouped : (escaped text ++ 0 ∷ 0 ∷ []) ++ rest ≡ escaped text ++ 0 ∷ 0 ∷ rest = append_assoc (escaped text) (0 ∷ 0 ∷ []) rest in
    let short : ltb 256 (length text) ≡ false = le-ltb _ _ (leb-true _ _ has) in
    rw (regrouped, text_again whole text rest, short) refl

pub no_spelling_begins : (p q : Primitive) (x y : List ℕ) → IsInRange p → IsInRange q → IsTrue (has_spelling p) → IsTrue (has_spelling q)
    → spelling p ++ x ≡ spelling q ++ y → (p ≡ q) × (x ≡ y)
no_spelling_begins p q x y p_in q_in p_has q_has e =
    let same = ok_is (p, x) (q, y) (sym (value_again 0 p x p_in p_has) ∙ ap (value_at 0) e ∙ value_again 0 q y q_in q_has) in
    (ap (λ (t : Primitive × List ℕ). t.0) same, ap (λ (t : Primitive × List ℕ). t.1) same)

-- ---- all of the bytes

ended_ok : (whole : ℕ) (x : Primitive × List ℕ) (value : Primitive) → ended whole x ≡ Ok value → x ≡ (value, [])
unfolding ended
ended_ok whole (v, []) value e = ap (λ (w : Primitive). (w, [])) (ok_is v value e)
ended_ok whole (v, b ∷ rest) value e = absurd cc

all_takes : (bytes : List ℕ) (value : Primitive) → IsBytes bytes → value_of bytes ≡ Ok value → IsInRange value × IsTrue (has_spelling value) × (bytes ≡ spelling value)
unfolding value_of
all_takes bytes value fits e =
    let a = bind_ok (value_at (length bytes) bytes) (ended (length bytes)) value e in
    let x-is : a.0 ≡ (value, []) = ended_ok (length bytes) a.0 value a.2 in
    let t : Takes bytes value [] = subst (Found bytes) x-is (value_found (length bytes) bytes a.0 fits a.1) in
    (t.in_range, t.has, t.parts ∙ append-nil (spelling value))

pub all_again : (value : Primitive) → IsInRange value → IsTrue (has_spelling value) → value_of (spelling value) ≡ Ok value
unfolding value_of ended
all_again value in_range has =
    let whole : ℕ = length (spelling value) in
    let read : value_at whole (spelling value) ≡ Ok (value, []) = ap (value_at whole) (sym (append-nil (spelling value))) ∙ value_again whole value [] in_range has in
    ap (λ (r : Result (Primitive × List ℕ) KeyRefusal). r >>= ended whole) read

pub is_found : (bytes : List ℕ) (r : Result Primitive KeyRefusal) → IsBytes bytes → Gives (λ (v : Primitive). v) r (value_of bytes)
    → IfOk r (λ value. IsInRange value × IsTrue (has_spelling value) × (bytes ≡ spelling value))
is_found bytes (Ok value) fits given = all_takes bytes value fits given
is_found bytes (Err e) fits given = tt

pub is_only : (bytes : List ℕ) (r : Result Primitive KeyRefusal) (value : Primitive) → IsInRange value → IsTrue (has_spelling value) → bytes ≡ spelling value
    → Gives (λ (v : Primitive). v) r (value_of bytes) → Gives (λ (v : Primitive). v) r (Ok value)
is_only bytes r value in_range has e given = subst (Gives (λ (v : Primitive). v) r) (ap value_of e ∙ all_again value in_range has) given

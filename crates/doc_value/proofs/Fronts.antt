-- Reading a front of bytes, and reading all of them: what was read or refused stays so, whatever follows.
use Rattle.std.proofs.Common.{◌≡◌, ℕ, zero, suc, ◌+◌, ◌-◌, Bool, true, false, cond, ltb, eqb, pos, ◌-ℤ◌, List, [], ◌∷◌, ◌++◌, length, Ok, Err, refl, ap, arith, inl, inr}
use Rattle.std.specs.Int.{Width, w32, w64, byte_len}
use Rattle.std.proofs.lemmas.Bool.{cases_lt, le-ltb, lt-ltb}
use Rattle.std.proofs.lemmas.List.{length-append, take-append-le, drop-append-le}
use Rattle.doc_value.specs.declared.key_refusal.KeyRefusal.TheVariants.{BadTag, Truncated, BadText, TooLong, Spare}
use Rattle.doc_value.specs.declared.primitive.Primitive.TheVariants.{Int, Text, Column}
use Rattle.doc_value.specs.Reading.{Read, ◌>>=◌, Foretells, offset, onto, number_at, text_at, int_at, column_id_at, string_at, value_at, ended, value_of}

-- how what is read of all bytes follows from what is read of a front: `more` stands behind the front
abbrev pub Extends : {A : Type 0} → ℕ → List ℕ → Read A → Read A → Type 0
Extends whole more (Ok x) all = all ≡ Ok (x.0, x.1 ++ more)
Extends whole more (Err (Truncated at)) all = at ≡ whole
Extends whole more (Err e) all = all ≡ Err e

pub offset-more : (whole : ℕ) (bytes more : List ℕ) → offset (whole + length more) (bytes ++ more) ≡ offset whole bytes
offset-more whole bytes more = omega (arith, length-append bytes more)

pub extends_bind : {A B : Type 0} (whole : ℕ) (more : List ℕ) (r all : Read A) (f g : A × List ℕ → Read B) → Extends whole more r all
    → ((x : A × List ℕ) → Extends whole more (f x) (g (x.0, x.1 ++ more))) → Extends whole more (r >>= f) (all >>= g)
extends_bind whole more (Ok x) all f g h next = rw h (next x)
extends_bind whole more (Err (Truncated at)) all f g h next = h
extends_bind whole more (Err e) all f g h next = rw h refl

pub extends_cond : {A : Type 0} (whole : ℕ) (more : List ℕ) (b : Bool) (x y u v : Read A) → Extends whole more x u → Extends whole more y v → Extends whole more (cond b x y) (cond b u v)
extends_cond whole more true x y u v h k = h
extends_cond whole more false x y u v h k = k

pub extends_onto : {A : Type 0} (whole : ℕ) (more : List ℕ) (front : List A) (r all : Read (List A)) → Extends whole more r all → Extends whole more (onto front r) (onto front all)
extends_onto whole more front r all h =
    extends_bind whole more r all (λ x. Ok (front ++ x.0, x.1)) (λ x. Ok (front ++ x.0, x.1)) h (λ x. refl)

pub number_extends : (w : Width) (whole : ℕ) (bytes more : List ℕ) → Extends whole more (number_at w whole bytes) (number_at w (whole + length more) (bytes ++ more))
number_extends w whole bytes more =
    elim (cases_lt (length bytes) (byte_len w)) [
      | inl short ↦
          let cut : ltb (length bytes) (byte_len w) ≡ true = lt-ltb _ _ short in
          rw cut refl
      | inr long ↦
          let here : ltb (length bytes) (byte_len w) ≡ false = le-ltb _ _ long in
          let there : ltb (length (bytes ++ more)) (byte_len w) ≡ false = le-ltb _ _ (omega (arith, long, length-append bytes more)) in
          rw (here, there, take-append-le (byte_len w) bytes more long, drop-append-le (byte_len w) bytes more long) refl
    ]

text_extends : (whole : ℕ) (bytes more : List ℕ) → Extends whole more (text_at whole bytes) (text_at (whole + length more) (bytes ++ more))
unfolding text_at
text_extends whole [] more = refl
text_extends whole (suc b ∷ bytes) more = extends_onto whole more (suc b ∷ []) (text_at whole bytes) (text_at (whole + length more) (bytes ++ more)) (text_extends whole bytes more)
text_extends whole (zero ∷ []) more = refl
text_extends whole (zero ∷ zero ∷ bytes) more = refl
text_extends whole (zero ∷ suc zero ∷ bytes) more = extends_onto whole more (0 ∷ []) (text_at whole bytes) (text_at (whole + length more) (bytes ++ more)) (text_extends whole bytes more)
text_extends whole (zero ∷ suc (suc b) ∷ bytes) more = ap (λ (k : ℕ). Err (BadText k)) (offset-more whole (suc (suc b) ∷ bytes) more)

string_extends : (whole : ℕ) (bytes more : List ℕ) → Extends whole more (string_at whole bytes) (string_at (whole + length more) (bytes ++ more))
unfolding string_at
string_extends whole bytes more =
    extends_bind whole more (text_at whole bytes) (text_at (whole + length more) (bytes ++ more))
    (λ text. cond (ltb 256 (length text.0)) (Err (TooLong (offset whole bytes - 1))) (Ok (Text text.0, text.1)))
    (λ text. cond (ltb 256 (length text.0)) (Err (TooLong (offset (whole + length more) (bytes ++ more) - 1))) (Ok (Text text.0, text.1)))
    (text_extends whole bytes more)
    (λ text. extends_cond whole more (ltb 256 (length text.0)) (Err (TooLong (offset whole bytes - 1))) (Ok (Text text.0, text.1))
    (Err (TooLong (offset (whole + length more) (bytes ++ more) - 1))) (Ok (Text text.0, text.1 ++ more))
    (ap (λ (k : ℕ). Err (TooLong (k - 1))) (offset-more whole bytes more)) refl)

int_extends : (whole : ℕ) (bytes more : List ℕ) → Extends whole more (int_at whole bytes) (int_at (whole + length more) (bytes ++ more))
unfolding int_at
int_extends whole bytes more =
    extends_bind whole more (number_at w64 whole bytes) (number_at w64 (whole + length more) (bytes ++ more))
    (λ n. Ok (Int (pos n.0 -ℤ pos 0x8000_0000_0000_0000), n.1)) (λ n. Ok (Int (pos n.0 -ℤ pos 0x8000_0000_0000_0000), n.1)) (number_extends w64 whole bytes more) (λ n. refl)

column_id_extends : (whole : ℕ) (bytes more : List ℕ) → Extends whole more (column_id_at whole bytes) (column_id_at (whole + length more) (bytes ++ more))
unfolding column_id_at
column_id_extends whole bytes more =
    extends_bind whole more (number_at w32 whole bytes) (number_at w32 (whole + length more) (bytes ++ more))
    (λ n. Ok (Column n.0, n.1)) (λ n. Ok (Column n.0, n.1)) (number_extends w32 whole bytes more) (λ n. refl)

pub value_extends : (whole : ℕ) (bytes more : List ℕ) → Extends whole more (value_at whole bytes) (value_at (whole + length more) (bytes ++ more))
unfolding value_at
value_extends whole [] more = refl
value_extends whole (tag ∷ bytes) more =
    let n : ℕ = whole + length more in
    let all : List ℕ = bytes ++ more in
    let bad : Extends whole more (Err (BadTag (offset whole (tag ∷ bytes)))) (Err (BadTag (offset n (tag ∷ all)))) = ap (λ (k : ℕ). Err (BadTag k)) (offset-more whole (tag ∷ bytes) more) in
    extends_cond whole more (eqb tag 0x46) _ _ _ _ refl
    (extends_cond whole more (eqb tag 0x49) _ _ _ _ (int_extends whole bytes more)
    (extends_cond whole more (eqb tag 0x4B) _ _ _ _ (column_id_extends whole bytes more)
    (extends_cond whole more (eqb tag 0x53) _ _ _ _ (string_extends whole bytes more)
    (extends_cond whole more (eqb tag 0x54) _ _ _ _ refl bad))))

-- all of the bytes: `b` and `more` stand behind the front
pub ended_foretells : {A : Type 0} (len b : ℕ) (more : List ℕ) (r all : Read A) → Extends len (b ∷ more) r all
    → Foretells len (r >>= ended len) (all >>= ended (len + length (b ∷ more)))
unfolding ended
ended_foretells len b more (Ok (x, [])) all h =
    rw h (ap (λ (k : ℕ). Err (Spare k)) (omega arith))
ended_foretells len b more (Ok (x, c ∷ rest)) all h =
    rw h (ap (λ (k : ℕ). Err (Spare k)) (offset-more len (c ∷ rest) (b ∷ more)))
ended_foretells len b more (Err (Truncated at)) all h = h
ended_foretells len b more (Err e) all h = rw h refl

pub value_foretells : (front : List ℕ) (b : ℕ) (more : List ℕ) → Foretells (length front) (value_of front) (value_of (front ++ b ∷ more))
unfolding value_of
value_foretells front b more =
    let same : length (front ++ b ∷ more) ≡ length front + length (b ∷ more) = length-append front (b ∷ more) in
    rw same (ended_foretells (length front) b more (value_at (length front) front) (value_at (length front + length (b ∷ more)) (front ++ b ∷ more)) (value_extends (length front) front (b ∷ more)))

-- Texts that are put together of strings and of ASCII.
use Rattle.std.proofs.Common.{◌≡◌, ℕ, List, ◌∷◌, ◌++◌, IsAscii, IfOk, OnOk, Result, Ok, Err, String, Vec, Global, string_bytes, sym, ap, subst, arith}
use Rattle.std.specs.Str.{IsUtf8}
use Rattle.std.specs.String.{string_vec}
use Rattle.std.proofs.lemmas.Str.{IsAscii-append, IsUtf8-append, IsUtf8-from_ascii, IsUtf8-had}
use Rattle.std.proofs.lemmas.Str.Ascii.{IsAscii-cons}

-- the bytes of a string, and the string that is made of bytes
pub string_utf8 : (s : String Global) (v : Vec ℕ Global) → v ≡ string_vec s → IsUtf8 v.items
string_utf8 s v is = subst (λ (w : Vec ℕ Global). IsUtf8 w.items) (sym is) (IsUtf8-had (string_bytes s) s.ok)

pub string_of : {E : Type 0} (r : Result (String Global) E) (s : String Global) (v : Vec ℕ Global) → r ≡ Ok s → IfOk r (λ t. string_vec t ≡ v)
    → string_bytes s ≡ v.items
string_of {E = E} r s v is ok =
    ap (λ (w : Vec ℕ Global). w.items) (subst (λ (x : Result (String Global) E). IfOk x (λ t. string_vec t ≡ v)) is ok)

pub more_utf8 : (front back text : List ℕ) → text ≡ front ++ back → IsUtf8 front → IsAscii back → IsUtf8 text
more_utf8 front back text is before ascii = subst IsUtf8 (sym is) (IsUtf8-append front back before (IsUtf8-from_ascii back ascii))

-- a row of a read: a space, a path, an equals sign and a value
pub row_ascii : {E : Type 0} (r : Result (Unit {0}) E) (path value : List ℕ) → IsAscii path → OnOk r (IsAscii value)
    → OnOk r (IsAscii (32 ∷ (path ++ 61 ∷ value)))
row_ascii (Ok x) path value is has =
    IsAscii-cons 32 (path ++ 61 ∷ value) (omega arith) (IsAscii-append path (61 ∷ value) is (IsAscii-cons 61 value (omega arith) has))
row_ascii (Err e) path value is has = tt

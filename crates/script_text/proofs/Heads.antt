-- What a script says, by its parts.
use Rattle.std.proofs.Common.{◌≡◌, ◌≤◌, ◌⊎◌, inl, inr, true, false, Bool, Result, Err, length, refl}
use Rattle.std.specs.Str.{IsUtf8, is_utf8}
use Rattle.std.proofs.lemmas.Bool.{le-ltb}
use Rattle.std.proofs.lemmas.Str.{IsUtf8-from_is_utf8, is_utf8-from_IsUtf8}
use Rattle.script_text.specs.declared.script_refusal.ScriptRefusal.{ScriptRefusal}
use Rattle.script_text.specs.declared.script_refusal.ScriptRefusal.TheVariants.{ScriptRefused, Memory}
use Rattle.script_text.specs.declared.why.Why.TheVariants.{Utf8}
use Rattle.script_text.specs.Lines.{Text, lines_of, parts_of}
use Rattle.script_text.specs.Outcomes.{IsTold}
use Rattle.script_text.specs.Script.{script_in, script_of}

-- a script of few bytes that are UTF-8
pub script_parts : (bytes : Text) → length bytes ≤ 16777216 → IsUtf8 bytes → script_of bytes ≡ script_in (parts_of (lines_of bytes))
script_parts bytes few utf8 =
    let short = le-ltb 16777216 (length bytes) few in
    let is_text = is_utf8-from_IsUtf8 bytes utf8 in
    rw (short, is_text) refl

-- one of other bytes
pub script_other : (bytes : Text) → length bytes ≤ 16777216 → (IsUtf8 bytes → ⊥) → script_of bytes ≡ Err (ScriptRefused 0 Utf8)
script_other bytes few other = go (is_utf8 bytes) refl
  where
    go : (b : Bool) → is_utf8 bytes ≡ b → script_of bytes ≡ Err (ScriptRefused 0 Utf8)
    go true e = absurd (other (IsUtf8-from_is_utf8 bytes e))
    go false e =
        let short = le-ltb 16777216 (length bytes) few in
        rw (short, e) refl

-- a refusal, in the words of a caller
pub refused_of_told : {B : Type 0} (e : ScriptRefusal) (said : Result B ScriptRefusal) → IsTold e said → (e ≡ Memory) ⊎ (said ≡ Err e)
refused_of_told (ScriptRefused line why) said is = inr is
refused_of_told Memory said is = inl refl

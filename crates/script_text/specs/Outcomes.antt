-- What functions return, against what the definitions say. Memory may run out at any time.
use Rattle.std.specs.Prelude.{◌≡◌, List, Option, Some, None, Result, Ok, Err, map}
use denote.Ref.{Bor}
use Rattle.script_text.specs.declared.fault.Fault.{Fault}
use Rattle.script_text.specs.declared.fault.Fault.TheVariants as fault
use Rattle.script_text.specs.declared.no_term.NoTerm.{NoTerm}
use Rattle.script_text.specs.declared.no_term.NoTerm.TheVariants.{Other, Memory}
use Rattle.script_text.specs.declared.script_refusal.ScriptRefusal.{ScriptRefusal}
use Rattle.script_text.specs.declared.script_refusal.ScriptRefusal.TheVariants as refusal
use Rattle.script_text.specs.Commands.{Read}
use Rattle.script_text.specs.Lines.{Text}

-- what is read as no term
abbrev pub IsNone : {B : Type 0} → NoTerm → Option B → Type 0
IsNone Other said = said ≡ None
IsNone Memory said = Unit {0}

-- what was returned, seen by `view`, is what the definition says
abbrev pub Reads : {A B : Type 0} → (A → B) → Result A NoTerm → Option B → Type 0
Reads view (Ok x) said = said ≡ Some (view x)
Reads view (Err e) said = IsNone e said

-- a line that is refused for this reason
abbrev pub IsRefused : {B : Type 0} → Fault → Read B → Type 0
IsRefused (fault.Refused why) said = said ≡ Err why
IsRefused fault.Memory said = Unit {0}

-- the same, of what is read from the words of a line
abbrev pub Gives : {A B : Type 0} → (A → B) → Result A Fault → Read B → Type 0
Gives view (Ok x) said = said ≡ Ok (view x)
Gives view (Err e) said = IsRefused e said

-- the words, as lists of bytes
abbrev pub texts : List (Bor Text) → List Text
texts words = map (λ w. w.now) words

-- a script that is refused for this reason
abbrev pub IsTold : {B : Type 0} → ScriptRefusal → Result B ScriptRefusal → Type 0
IsTold (refusal.ScriptRefused line why) said = said ≡ Err (refusal.ScriptRefused line why)
IsTold refusal.Memory said = Unit {0}

-- the same, of what is read from the lines of a script
abbrev pub Tells : {A B : Type 0} → (A → B) → Result A ScriptRefusal → Result B ScriptRefusal → Type 0
Tells view (Ok x) said = said ≡ Ok (view x)
Tells view (Err e) said = IsTold e said

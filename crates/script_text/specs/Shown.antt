-- The words of reasons, as reports show them, and the texts of refusals.
use Rattle.std.specs.Prelude.{◌++◌, ℕ, List, codes, decimal}
use Rattle.script_text.specs.declared.script_refusal.ScriptRefusal.{ScriptRefusal}
use Rattle.script_text.specs.declared.script_refusal.ScriptRefusal.TheVariants.{ScriptRefused, Memory}
use Rattle.script_text.specs.declared.why.Why.{Why}
use Rattle.script_text.specs.declared.why.Why.TheVariants.{Long, Utf8, NoHead, HeadText, HeadKey, HeadValue, Session, Command}
use Rattle.script_text.specs.declared.why.Why.TheVariants.{Words, Path, Value, Number, Many}

abbrev pub word_of : Why → List ℕ
word_of Long = codes "long"
word_of Utf8 = codes "utf8"
word_of NoHead = codes "no-head"
word_of HeadText = codes "head-text"
word_of HeadKey = codes "head-key"
word_of HeadValue = codes "head-value"
word_of Session = codes "session"
word_of Command = codes "command"
word_of Words = codes "words"
word_of Path = codes "path"
word_of Value = codes "value"
word_of Number = codes "number"
word_of Many = codes "many"

-- a refusal, as it is shown
abbrev pub refusal_text : ScriptRefusal → List ℕ
refusal_text (ScriptRefused line why) = codes "line " ++ (decimal line ++ (codes " of the script: " ++ word_of why))
refusal_text Memory = codes "out of memory"

-- What a script says: a cluster and the commands of its sessions, or the first reason against it.
use Rattle.std.specs.Prelude.{◌+◌, ◌&&◌, not, ℕ, Bool, List, [], ◌∷◌, ◌++◌, length, Option, Some, None, Result, Ok, Err}
use Rattle.std.specs.Prelude.{nat_eq, nat_lt, nat_le, if◌then◌else◌}
use Rattle.std.specs.Str.{is_utf8}
use Rattle.txn_data.specs.declared.command.Command.{Command}
use Rattle.txn_data.specs.declared.commands.Commands.{Commands}
use Rattle.txn_data.specs.declared.config.Config.{Config}
use Rattle.txn_data.specs.declared.session_plan.SessionPlan.{SessionPlan}
use Rattle.cluster_config.specs.declared.head_refusal.HeadRefusal.{HeadRefusal}
use Rattle.cluster_config.specs.declared.head_refusal.HeadRefusal.TheVariants as head
use Rattle.cluster_config.specs.Head.{head_of}
use Rattle.script_text.specs.declared.line.Line.{Line}
use Rattle.script_text.specs.declared.line.Line.TheVariants.{Passed, Told, Goes}
use Rattle.script_text.specs.declared.script_refusal.ScriptRefusal.{ScriptRefusal}
use Rattle.script_text.specs.declared.script_refusal.ScriptRefusal.TheVariants.{ScriptRefused, Memory}
use Rattle.script_text.specs.declared.why.Why.{Why}
use Rattle.script_text.specs.declared.why.Why.TheVariants as why
use Rattle.script_text.specs.Commands.{Read, ◌>>=◌, flags_over, is_go, is_passed, line_of, no_flags}
use Rattle.script_text.specs.Lines.{Parts, Text, lines_of, parts_of}
use Rattle.script_text.specs.Words.{words_of}

-- the most bytes of a script, and the most commands and the most moves
abbrev pub most_bytes : ℕ
most_bytes = 16777216

abbrev pub most_lines : ℕ
most_lines = 100000

-- ---- the plan

-- the sessions by rising number, with a command put at the end of one's commands
unfoldable pub with_told : ℕ → Command → List SessionPlan → List SessionPlan
with_told session told [] = record { session = session; commands = told ∷ [] } ∷ []
with_told session told (plan ∷ plans) =
    if nat_lt session plan.session then record { session = session; commands = told ∷ [] } ∷ plan ∷ plans
    else if nat_eq session plan.session then record plan { commands = plan.commands ++ told ∷ [] } ∷ plans
    else plan ∷ with_told session told plans

-- the commands and moves of the lines so far
abbrev pub nothing_said : Commands
nothing_said = record { sessions = []; order = []; go = [] }

abbrev pub said_after : Commands → Line → Commands
said_after said Passed = said
said_after said (Told session told) =
    record said { sessions = with_told session told said.sessions; order = said.order ++ session ∷ [] }
said_after said (Goes line) = record said { go = said.go ++ line ∷ [] }

-- ---- the body

-- a line that is not passed over would be one command, or one move, too many
abbrev pub is_full : Commands → List Text → Bool
is_full said words =
    not (is_passed words)
    && nat_le most_lines (if is_go words then length said.go else length said.order)

-- one more line
abbrev pub line_after : Config → List Bool → Commands → List Text → Read Commands
line_after config flags said words =
    if is_full said words then Err why.Many
    else (line_of config flags words >>= λ line. Ok (said_after said line))

abbrev pub at_line : ℕ → Read Commands → Result Commands ScriptRefusal
at_line number (Ok said) = Ok said
at_line number (Err e) = Err (ScriptRefused number e)

abbrev pub and_lines : (Commands → Result Commands ScriptRefusal) → Result Commands ScriptRefusal → Result Commands ScriptRefusal
and_lines more (Ok said) = more said
and_lines more (Err e) = Err e

-- the lines from this number on
unfoldable pub body_over : Config → List Bool → Commands → ℕ → List Text → Result Commands ScriptRefusal
body_over config flags said number [] = Ok said
body_over config flags said number (line ∷ lines) =
    and_lines (λ next. body_over config flags next (number + 1) lines)
    (at_line number (line_after config flags said (words_of line)))

abbrev pub body_of : Config → ℕ → List Text → Result Commands ScriptRefusal
body_of config first lines = body_over config (flags_over no_flags lines) nothing_said first lines

-- ---- the script

-- what is refused as a whole, or in its head, is refused at line 0
abbrev pub at_head : {A : Type 0} → Why → Result A ScriptRefusal
at_head e = Err (ScriptRefused 0 e)

abbrev pub refusal_of_head : HeadRefusal → ScriptRefusal
refusal_of_head head.HeadText = ScriptRefused 0 why.HeadText
refusal_of_head head.HeadKey = ScriptRefused 0 why.HeadKey
refusal_of_head head.HeadValue = ScriptRefused 0 why.HeadValue
refusal_of_head head.Memory = Memory

abbrev pub with_config : Config → Result Commands ScriptRefusal → Result (Config × Commands) ScriptRefusal
with_config config (Ok said) = Ok (config, said)
with_config config (Err e) = Err e

abbrev pub with_head : Parts → Result Config HeadRefusal → Result (Config × Commands) ScriptRefusal
with_head parts (Err e) = Err (refusal_of_head e)
with_head parts (Ok config) = with_config config (body_of config (parts.before + 2) parts.body)

abbrev pub script_in : Option Parts → Result (Config × Commands) ScriptRefusal
script_in None = at_head why.NoHead
script_in (Some parts) = with_head parts (head_of parts.head)

-- what the bytes of a script say
abbrev pub script_of : Text → Result (Config × Commands) ScriptRefusal
script_of bytes =
    if nat_lt most_bytes (length bytes) then at_head why.Long
    else if not (is_utf8 bytes) then at_head why.Utf8
    else script_in (parts_of (lines_of bytes))

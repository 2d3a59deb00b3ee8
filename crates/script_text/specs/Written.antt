-- The text of a script that is written: the head, three dashes, a line for each command in line order, and the moves.
use Rattle.std.specs.Prelude.{ℕ, zero, suc, Bool, true, false, List, [], ◌∷◌, ◌++◌, codes, decimal, drop, map}
use Rattle.std.specs.List.{All, flat_map}
use Rattle.doc_value.specs.Reading.{IsBytes, value_of}
use Rattle.sub_doc_key.specs.Showing.{shown_path, shown_value}
use Rattle.txn_data.specs.declared.actor.Actor.{Actor}
use Rattle.txn_data.specs.declared.actor.Actor.TheVariants.{Tablet, Status, Session, Applier}
use Rattle.txn_data.specs.declared.command.Command.{Command}
use Rattle.txn_data.specs.declared.command.Command.TheVariants as command
use Rattle.txn_data.specs.declared.commands.Commands.{Commands}
use Rattle.txn_data.specs.declared.config.Config.{Config}
use Rattle.txn_data.specs.declared.go_line.GoLine.{GoLine}
use Rattle.txn_data.specs.declared.mover.Mover.{Mover}
use Rattle.txn_data.specs.declared.mover.Mover.TheVariants as mover
use Rattle.txn_data.specs.declared.place.Place.{Place}
use Rattle.txn_data.specs.declared.session_plan.SessionPlan.{SessionPlan}
use Rattle.txn_types.specs.Script.{commands_of, count}
use Rattle.cluster_config.specs.Written.{ended, head_text}
use Rattle.script_text.specs.Lines.{Text}

-- ---- words

-- a path and a value, as they are shown
abbrev pub path_word : Place → Text
path_word place = shown_path place.path

abbrev pub value_word : List ℕ → Text
value_word bytes = shown_value (value_of bytes)

-- a priority of 0 is left out
abbrev pub priority_words : ℕ → List Text
priority_words zero = []
priority_words (suc n) = (codes "prio=" ++ decimal (suc n)) ∷ []

abbrev pub strict_words : Bool → List Text
strict_words true = codes "norestart" ∷ []
strict_words false = []

-- only tablets and status tablets restart
abbrev pub actor_word : Actor → Text
actor_word (Tablet k) = 116 ∷ decimal k
actor_word (Status j) = 115 ∷ decimal j
actor_word (Session i) = []
actor_word (Applier k) = []

-- the verb of a command, and the words after it
abbrev pub command_words : Command → List Text
command_words (command.Begin priority) = codes "begin" ∷ priority_words priority
command_words (command.Put place v) = codes "put" ∷ path_word place ∷ value_word v ∷ []
command_words (command.Del place) = codes "del" ∷ path_word place ∷ []
command_words command.Commit = codes "commit" ∷ []
command_words command.Abort = codes "abort" ∷ []
command_words (command.Read strict places) = codes "read" ∷ (strict_words strict ++ map path_word places)
command_words (command.Scan strict place) = codes "scan" ∷ (strict_words strict ++ path_word place ∷ [])
command_words (command.SinglePut place v priority) =
    codes "single" ∷ codes "put" ∷ path_word place ∷ value_word v ∷ priority_words priority
command_words (command.SingleDel place priority) = codes "single" ∷ codes "del" ∷ path_word place ∷ priority_words priority
command_words (command.Restart actor) = codes "restart" ∷ actor_word actor ∷ []
command_words (command.Apply tablet) = codes "apply" ∷ (116 ∷ decimal tablet) ∷ []
command_words (command.Clock node micros) = codes "clock" ∷ decimal node ∷ decimal micros ∷ []
command_words command.End = []

-- a command of a session
abbrev pub told_words : ℕ → Command → List Text
told_words session told = (decimal session ++ 58 ∷ []) ∷ command_words told

abbrev pub mover_word : Mover → Text
mover_word (mover.Session i) = decimal i
mover_word (mover.Applier k) = 97 ∷ decimal k

-- a move
abbrev pub go_words : GoLine → List Text
go_words g = codes "@go" ∷ mover_word g.who ∷ decimal g.count ∷ []

-- ---- lines

-- the words, with a space before each but the first
abbrev pub behind_space : Text → Text
behind_space word = 32 ∷ word

abbrev pub spaced : List Text → Text
spaced [] = []
spaced (word ∷ words) = word ++ flat_map behind_space words

abbrev pub line_text : List Text → Text
line_text words = ended (spaced words)

-- the first of the commands that a session has left
abbrev pub told_line : ℕ → List Command → List (List Text)
told_line session [] = []
told_line session (told ∷ later) = told_words session told ∷ []

-- the commands that a session has left behind lines of these sessions
abbrev pub left : List SessionPlan → List ℕ → ℕ → List Command
left plans before session = drop (count session before) (commands_of session plans)

-- the lines of the commands, where `before` are the sessions of the lines so far
unfoldable pub told_lines : List SessionPlan → List ℕ → List ℕ → List (List Text)
told_lines plans before [] = []
told_lines plans before (session ∷ more) =
    told_line session (left plans before session) ++ told_lines plans (before ++ session ∷ []) more

abbrev pub body_lines : Commands → List (List Text)
body_lines plan = told_lines plan.sessions [] plan.order ++ map go_words plan.go

-- ---- the script

abbrev pub written : Config → Commands → Text
written config plan = head_text config ++ (codes "---\n" ++ flat_map line_text (body_lines plan))

-- ---- the bytes of paths and values

-- what a command has to spell is bytes, as in each command that a program holds
abbrev pub IsInBytes : Command → Type 0
IsInBytes (command.Put place v) = All IsBytes place.path × IsBytes v
IsInBytes (command.Del place) = All IsBytes place.path
IsInBytes (command.Read strict places) = All (λ (p : Place). All IsBytes p.path) places
IsInBytes (command.Scan strict place) = All IsBytes place.path
IsInBytes (command.SinglePut place v priority) = All IsBytes place.path × IsBytes v
IsInBytes (command.SingleDel place priority) = All IsBytes place.path
IsInBytes other = Unit {0}

-- so is what the sessions of a plan have to spell
abbrev pub AreInBytes : Commands → Type 0
AreInBytes plan = (session : ℕ) → All IsInBytes (commands_of session plan.sessions)

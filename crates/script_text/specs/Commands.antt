-- The lines of a body: which command a line gives to which session, or why it is refused.
--
-- In a line the reasons come in this order: its session, its command, the number and the form of its words, and then
-- each of its words from left to right.
use Rattle.std.specs.Prelude.{◌-◌, ◌&&◌, ℕ, Bool, true, false, List, [], ◌∷◌, length, drop, take, replicate, slice_index_or, slice_set, Option, Some, None, Result, Ok, Err}
use Rattle.std.specs.Prelude.{option_map, option_and_then, nat_eq, nat_le, if◌then◌else◌, codes}
use Rattle.std.specs.List.{starts_with}
use Rattle.std.specs.Str.{bytes_eq}
use Rattle.txn_data.specs.declared.actor.Actor.{Actor}
use Rattle.txn_data.specs.declared.actor.Actor.TheVariants.{Tablet, Status}
use Rattle.txn_data.specs.declared.command.Command.{Command}
use Rattle.txn_data.specs.declared.command.Command.TheVariants as command
use Rattle.txn_data.specs.declared.config.Config.{Config}
use Rattle.txn_data.specs.declared.go_line.GoLine.{GoLine}
use Rattle.txn_data.specs.declared.mover.Mover.{Mover}
use Rattle.txn_data.specs.declared.mover.Mover.TheVariants.{Session as SessionMover, Applier as ApplierMover}
use Rattle.txn_data.specs.declared.place.Place.{Place}
use Rattle.txn_data.specs.declared.schedule.Schedule.{Schedule}
use Rattle.txn_data.specs.declared.schedule.Schedule.TheVariants.{Serial, Go, Drawn}
use Rattle.cluster_config.specs.Head.{largest}
use Rattle.script_text.specs.declared.line.Line.{Line}
use Rattle.script_text.specs.declared.line.Line.TheVariants.{Passed, Told, Goes}
use Rattle.script_text.specs.declared.verb.Verb.{Verb}
use Rattle.script_text.specs.declared.verb.Verb.TheVariants as verb
use Rattle.script_text.specs.declared.why.Why.{Why}
use Rattle.script_text.specs.declared.why.Why.TheVariants as why
use Rattle.script_text.specs.Lines.{Text}
use Rattle.script_text.specs.Terms.{number_in, place_of, value_of}
use Rattle.script_text.specs.Words.{words_of}

-- what is read, or why it is refused
abbrev pub Read : Type 0 → Type 0
Read A = Result A Why

infixl 10 ◌>>=◌
abbrev pub ◌>>=◌ : {A B : Type 0} → Read A → (A → Read B) → Read B
(Ok x) >>= f = f x
(Err e) >>= f = Err e

abbrev pub or_why : {A : Type 0} → Why → Option A → Read A
or_why e None = Err e
or_why e (Some x) = Ok x

abbrev pub path : Config → Text → Read Place
path config word = or_why why.Path (place_of config.tablets word)

abbrev pub value : Text → Read (List ℕ)
value word = or_why why.Value (value_of word)

-- what follows `prio=`, the optional word of a priority
abbrev pub priority_text : Text → Read Text
priority_text word =
    if starts_with nat_eq word (codes "prio=") then Ok (drop 5 word) else Err why.Words

abbrev pub priority : Text → Read ℕ
priority text = or_why why.Number (number_in 0 4294967295 text)

-- a letter and a number below this many, of which there is one at least
abbrev pub numbered : ℕ → ℕ → Text → Option ℕ
numbered letter many [] = None
numbered letter many (b ∷ text) = if nat_eq b letter then number_in 0 (many - 1) text else None

-- t and the number of a tablet, or s and that of a status tablet
abbrev pub tablet : Config → Text → Option ℕ
tablet config word = numbered 116 config.tablets word

abbrev pub actor_or : Option ℕ → Option ℕ → Option Actor
actor_or (Some k) other = Some (Tablet k)
actor_or None (Some j) = Some (Status j)
actor_or None None = None

abbrev pub actor : Config → Text → Option Actor
actor config word = actor_or (tablet config word) (numbered 115 config.status word)

-- ---- commands

-- a verb of one word
abbrev pub verb_named : Text → Option Verb
verb_named word =
    if bytes_eq word (codes "begin") then Some verb.Begin
    else if bytes_eq word (codes "put") then Some verb.Put
    else if bytes_eq word (codes "del") then Some verb.Del
    else if bytes_eq word (codes "commit") then Some verb.Commit
    else if bytes_eq word (codes "abort") then Some verb.Abort
    else if bytes_eq word (codes "read") then Some verb.Read
    else if bytes_eq word (codes "scan") then Some verb.Scan
    else if bytes_eq word (codes "restart") then Some verb.Restart
    else if bytes_eq word (codes "apply") then Some verb.Apply
    else if bytes_eq word (codes "clock") then Some verb.Clock
    else None

-- the verb behind `single`
abbrev pub single_named : Text → Option Verb
single_named word =
    if bytes_eq word (codes "put") then Some verb.SinglePut
    else if bytes_eq word (codes "del") then Some verb.SingleDel
    else None

-- the verb, and the words after it
abbrev pub with_words : List Text → Option Verb → Option (Verb × List Text)
with_words words asked = option_map (λ (v : Verb). (v, words)) asked

abbrev pub single_verb : List Text → Option (Verb × List Text)
single_verb [] = None
single_verb (word ∷ words) = with_words words (single_named word)

-- the verb of a line behind its session, and the words after it
abbrev pub verb_of : List Text → Option (Verb × List Text)
verb_of [] = None
verb_of (word ∷ words) =
    if bytes_eq word (codes "single") then single_verb words else with_words words (verb_named word)

-- the paths of all words, or the reason of the first that is none
unfoldable pub paths : Config → List Text → Read (List Place)
paths config [] = Ok []
paths config (word ∷ words) = path config word >>= λ first. paths config words >>= λ places. Ok (first ∷ places)

abbrev pub begin_of : List Text → Read Command
begin_of [] = Ok (command.Begin 0)
begin_of (option ∷ []) = do
  text ← priority_text option
  number ← priority text
  Ok (command.Begin number)
begin_of words = Err why.Words

-- a path and a value
abbrev pub written : Config → Text → Text → Read (Place × List ℕ)
written config word other = do
  place ← path config word
  bytes ← value other
  Ok (place, bytes)

abbrev pub put_of : Config → List Text → Read Command
put_of config (word ∷ other ∷ []) = written config word other >>= λ w. Ok (command.Put w.0 w.1)
put_of config words = Err why.Words

abbrev pub del_of : Config → List Text → Read Command
del_of config (word ∷ []) = path config word >>= λ place. Ok (command.Del place)
del_of config words = Err why.Words

-- a command without words
abbrev pub alone : Command → List Text → Read Command
alone told [] = Ok told
alone told (word ∷ words) = Err why.Words

-- one to sixteen paths
abbrev pub read_paths : Config → Bool → List Text → Read Command
read_paths config strict words =
    if nat_le 1 (length words) && nat_le (length words) 16
    then (paths config words >>= λ places. Ok (command.Read strict places))
    else Err why.Words

abbrev pub scan_path : Config → Bool → List Text → Read Command
scan_path config strict (word ∷ []) = path config word >>= λ place. Ok (command.Scan strict place)
scan_path config strict words = Err why.Words

-- whether the first word is `norestart`, and then it is no path; and the words after it
abbrev pub strict_of : List Text → Bool × List Text
strict_of [] = (false, [])
strict_of (word ∷ words) = if bytes_eq word (codes "norestart") then (true, words) else (false, word ∷ words)

abbrev pub read_of : Config → List Text → Read Command
read_of config words = read_paths config (strict_of words).0 (strict_of words).1

abbrev pub scan_of : Config → List Text → Read Command
scan_of config words = scan_path config (strict_of words).0 (strict_of words).1

abbrev pub single_put_of : Config → List Text → Read Command
single_put_of config (word ∷ other ∷ []) = written config word other >>= λ w. Ok (command.SinglePut w.0 w.1 0)
single_put_of config (word ∷ other ∷ option ∷ []) = do
  text ← priority_text option
  w ← written config word other
  number ← priority text
  Ok (command.SinglePut w.0 w.1 number)
single_put_of config words = Err why.Words

abbrev pub single_del_of : Config → List Text → Read Command
single_del_of config (word ∷ []) = path config word >>= λ place. Ok (command.SingleDel place 0)
single_del_of config (word ∷ option ∷ []) = do
  text ← priority_text option
  place ← path config word
  number ← priority text
  Ok (command.SingleDel place number)
single_del_of config words = Err why.Words

abbrev pub restart_of : Config → List Text → Read Command
restart_of config (word ∷ []) = or_why why.Number (option_map command.Restart (actor config word))
restart_of config words = Err why.Words

abbrev pub apply_of : Config → List Text → Read Command
apply_of config (word ∷ []) = or_why why.Number (option_map command.Apply (tablet config word))
apply_of config words = Err why.Words

abbrev pub clock_with : Config → Text → Text → Read Command
clock_with config word other = do
  node ← or_why why.Number (number_in 0 (config.nodes - 1) word)
  micros ← or_why why.Number (number_in 0 largest other)
  Ok (command.Clock node micros)

abbrev pub clock_of : Config → List Text → Read Command
clock_of config (word ∷ other ∷ []) = clock_with config word other
clock_of config words = Err why.Words

-- the command of a verb and the words after it
abbrev pub command_of : Config → Verb → List Text → Read Command
command_of config verb.Begin words = begin_of words
command_of config verb.Put words = put_of config words
command_of config verb.Del words = del_of config words
command_of config verb.Commit words = alone command.Commit words
command_of config verb.Abort words = alone command.Abort words
command_of config verb.Read words = read_of config words
command_of config verb.Scan words = scan_of config words
command_of config verb.SinglePut words = single_put_of config words
command_of config verb.SingleDel words = single_del_of config words
command_of config verb.Restart words = restart_of config words
command_of config verb.Apply words = apply_of config words
command_of config verb.Clock words = clock_of config words

-- ---- lines

-- the number of a session, at once followed by a colon
abbrev pub session_before : List ℕ → Text → Option ℕ
session_before (colon ∷ []) text = if nat_eq colon 58 then number_in 1 1000 text else None
session_before others text = None

abbrev pub session_of : Text → Option ℕ
session_of word = session_before (drop (length word - 1) word) (take (length word - 1) word)

-- a remark begins with #
abbrev pub begins_remark : Text → Bool
begins_remark [] = false
begins_remark (b ∷ word) = nat_eq b 35

-- a line is passed over if it has no word, or is a remark
abbrev pub is_passed : List Text → Bool
is_passed [] = true
is_passed (word ∷ words) = begins_remark word

abbrev pub first_word : List Text → Option Text
first_word [] = None
first_word (word ∷ words) = Some word

-- the session that a line begins with
abbrev pub session_in : List Text → Option ℕ
session_in words = option_and_then session_of (first_word words)

-- a flag for each number up to that of the last session, set at those of the sessions that lines begin with
abbrev pub no_flags : List Bool
no_flags = replicate 1001 false

abbrev pub with_flag : List Bool → Option ℕ → List Bool
with_flag flags None = flags
with_flag flags (Some session) = slice_set flags session true

unfoldable pub flags_over : List Bool → List Text → List Bool
flags_over flags [] = flags
flags_over flags (line ∷ lines) = flags_over (with_flag flags (session_in (words_of line))) lines

-- an applier of the cluster, or a session that a line begins with
abbrev pub session_mover : List Bool → ℕ → Option Mover
session_mover flags session = if slice_index_or flags session false then Some (SessionMover session) else None

abbrev pub mover_or : List Bool → Option ℕ → Option ℕ → Option Mover
mover_or flags (Some k) other = Some (ApplierMover k)
mover_or flags None other = option_and_then (session_mover flags) other

abbrev pub mover : Config → List Bool → Text → Option Mover
mover config flags word = mover_or flags (numbered 97 config.tablets word) (number_in 1 1000 word)

abbrev pub go_once : Config → List Bool → Text → Read GoLine
go_once config flags word = or_why why.Number (mover config flags word) >>= λ who. Ok (record { who = who; count = 1 })

abbrev pub go_often : Config → List Bool → Text → Text → Read GoLine
go_often config flags word other = do
  who ← or_why why.Number (mover config flags word)
  count ← or_why why.Number (number_in 1 1000000 other)
  Ok (record { who = who; count = count })

abbrev pub go_of : Config → List Bool → List Text → Read GoLine
go_of config flags (word ∷ []) = go_once config flags word
go_of config flags (word ∷ other ∷ []) = go_often config flags word other
go_of config flags words = Err why.Words

-- lines that move a mover stand only where the schedule goes by them
abbrev pub go_in : Schedule → Config → List Bool → List Text → Read Line
go_in Go config flags words = go_of config flags words >>= λ line. Ok (Goes line)
go_in Serial config flags words = Err why.Command
go_in Drawn config flags words = Err why.Command

abbrev pub told_of : Config → ℕ → List Text → Read Line
told_of config session words = do
  asked ← or_why why.Command (verb_of words)
  told ← command_of config asked.0 asked.1
  Ok (Told session told)

abbrev pub is_go : List Text → Bool
is_go [] = false
is_go (word ∷ words) = bytes_eq word (codes "@go")

-- a line that is not passed over
abbrev pub spoken : Config → List Bool → List Text → Read Line
spoken config flags [] = Ok Passed
spoken config flags (word ∷ words) =
    if is_go (word ∷ words) then go_in config.schedule config flags words
    else (or_why why.Session (session_of word) >>= λ session. told_of config session words)

abbrev pub line_of : Config → List Bool → List Text → Read Line
line_of config flags words = if is_passed words then Ok Passed else spoken config flags words

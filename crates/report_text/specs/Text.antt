-- The report of a history: a line for each command that a session was told, a line for the last pass of each tablet, and
-- the total. It is made of the history and the cluster's numbers alone.
use Rattle.std.specs.Prelude.{ℕ, ◌+◌, Bool, true, false, List, [], ◌∷◌, ◌++◌, All, Option, Some, None, codes, nat_le, if◌then◌else◌, flat_map}
use Rattle.std.specs.List.{list_all}
use Rattle.sub_doc_key.specs.Spelling.{IsSpelledPath, IsSpelledValue}
use Rattle.txn_data.specs.declared.actor.Actor.{Actor}
use Rattle.txn_data.specs.declared.actor.Actor.TheVariants.{Session, Applier}
use Rattle.txn_data.specs.declared.row.Row.{Row}
use Rattle.txn_data.specs.declared.command.Command.{Command}
use Rattle.txn_data.specs.declared.told.Told.{Told}
use Rattle.txn_data.specs.declared.told.Told.TheVariants as told
use Rattle.txn_data.specs.declared.told_refusal.ToldRefusal.TheVariants as why
use Rattle.txn_data.specs.declared.event.Event.{Event}
use Rattle.txn_data.specs.declared.event.Event.TheVariants.{Tell}
use Rattle.txn_data.specs.declared.entry.Entry.{Entry}
use Rattle.txn_data.specs.declared.config.Config.{Config}
use Rattle.txn_types.specs.Lists.{Member}
use Rattle.txn_types.specs.History.{History, same_actor}
use Rattle.txn_types.specs.Reads.{Read, reads, origin, own_reading, SkewHeld}
use Rattle.txn_types.specs.Run.{mover_at}
use Rattle.txn_types.specs.Script.{from_up}
use Rattle.txn_types.specs.Cause.{ToldAt, tells}
use Rattle.txn_types.specs.Settled.{last_told}
use Rattle.report_text.specs.Shown.{Shown}
use Rattle.report_text.specs.Answer.{answer_text}
use Rattle.report_text.specs.Line.{word_under_way, command_call, pass_call, line_text}
use Rattle.report_text.specs.Total.{counts_of, total_text}

-- The lines of sessions.

abbrev pub shown_by : Option Command → Event → List Shown
shown_by line (Tell number t) = (record { word = word_under_way line; told = t }) ∷ []
shown_by line event = []

-- the commands that a mover was told, in their order
unfoldable pub shown_to : Config → Actor → History → List Shown
shown_to config m [] = []
shown_to config m (e ∷ h) =
    if same_actor e.actor m then shown_to config m h ++ shown_by (mover_at config m h).line e.event else shown_to config m h

-- the lines of commands of a session, numbered on from here
unfoldable pub numbered_lines : Bool → ℕ → ℕ → List Shown → List ℕ
numbered_lines json session number [] = []
numbered_lines json session number (s ∷ more) =
    line_text json (command_call session number) s.word (answer_text s.told) ++ numbered_lines json session (number + 1) more

-- the lines of a session, numbered from 1
abbrev pub session_lines : Config → Bool → History → ℕ → List ℕ
session_lines config json h session = numbered_lines json session 1 (shown_to config (Session session) h)

-- the greatest number that a session has
abbrev pub last_session : ℕ
last_session = 1000

-- The lines of last passes.

-- the line of the last pass over a tablet; none where there was no pass
abbrev pub pass_line : Bool → ℕ → Option Told → List ℕ
pass_line json tablet None = []
pass_line json tablet (Some t) = line_text json (pass_call tablet) (codes "last") (answer_text t)

abbrev pub last_pass : Bool → History → ℕ → List ℕ
last_pass json h tablet = pass_line json tablet (last_told (Applier tablet) h)

-- The line of the total.

abbrev pub told_session : Actor → Event → List Told
told_session (Session i) (Tell number t) = t ∷ []
told_session a event = []

-- what sessions were told, the newest first
unfoldable pub session_tells : History → List Told
session_tells [] = []
session_tells (e ∷ h) = told_session e.actor e.event ++ session_tells h

-- Whether clocks agreed within the cluster's skew: for each finished read, each reading before its origin is at most its
-- own first one plus the skew.
abbrev pub reads_up_to : ℕ → Option ℕ → Bool
reads_up_to most None = true
reads_up_to most (Some reading) = nat_le reading most

abbrev pub agrees_at : Config → Read → Bool
agrees_at config read =
    list_all (λ (e : Entry). reads_up_to (own_reading config read + config.skew_us) e.reading) (origin config read)

abbrev pub agreed : Config → History → Bool
agreed config h = list_all (agrees_at config) (reads h)

-- the same as a fact about each finished read
abbrev pub Agreed : Config → History → Type 0
Agreed config h = (read : Read) → Member read (reads h) → SkewHeld config config.skew_us read

abbrev pub total_line : Bool → History → Bool → List ℕ
total_line json h agree = total_text json (counts_of (session_tells h)) agree

-- The report.

-- the sessions by number, and then the last passes by tablet
abbrev pub lines_of : Config → Bool → History → List ℕ
lines_of config json h =
    flat_map (session_lines config json h) (from_up 1 last_session) ++ flat_map (last_pass json h) (from_up 0 config.tablets)

-- the lines and then the total, or the total alone, which says that clocks agreed where this is true
abbrev pub text_with : Config → Bool → Bool → History → Bool → List ℕ
text_with config json true h agree = total_line json h agree
text_with config json false h agree = lines_of config json h ++ total_line json h agree

abbrev pub text_of : Config → Bool → Bool → History → List ℕ
text_of config json total_only h = text_with config json total_only h (agreed config h)

-- What was told can be shown as a script spells it: each part of a path spells a document key or a subkey, and each value
-- a value.
abbrev pub IsSpelledIfSome : Option (List ℕ) → Type 0
IsSpelledIfSome None = Unit {0}
IsSpelledIfSome (Some bytes) = IsSpelledValue bytes

abbrev pub IsSpelledRow : Row → Type 0
IsSpelledRow row = IsSpelledPath row.path × IsSpelledIfSome row.value

abbrev pub IsSpelledTold : Told → Type 0
IsSpelledTold (told.Values at restarts rows) = All IsSpelledRow rows
IsSpelledTold (told.Refused (why.Restart at path)) = IsSpelledPath path
IsSpelledTold t = Unit {0}

abbrev pub AllSpelled : History → Type 0
AllSpelled h = (t : ToldAt) → Member t (tells h) → IsSpelledTold t.told

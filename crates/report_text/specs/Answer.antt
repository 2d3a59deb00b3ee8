-- The text of what is told of a command: an answer, or a refusal.
use Rattle.std.specs.Prelude.{ℕ, Bool, true, false, List, ◌++◌, Option, Some, None, codes, decimal, flat_map}
use Rattle.std.specs.Int.{to_be_bytes, w128}
use Rattle.uuid.specs.Text.{hyphenated_text, lower}
use Rattle.hybrid_time.specs.Time.{micros_of, logical_of}
use Rattle.doc_value.specs.Reading.{value_of}
use Rattle.sub_doc_key.specs.Showing.{shown_path, shown_value}
use Rattle.txn_data.specs.declared.actor.Actor.{Actor}
use Rattle.txn_data.specs.declared.actor.Actor.TheVariants.{Tablet, Status, Session, Applier}
use Rattle.txn_data.specs.declared.row.Row.{Row}
use Rattle.txn_data.specs.declared.told.Told.{Told}
use Rattle.txn_data.specs.declared.told.Told.TheVariants as told
use Rattle.txn_data.specs.declared.told_refusal.ToldRefusal.{ToldRefusal}
use Rattle.txn_data.specs.declared.told_refusal.ToldRefusal.TheVariants as why

-- the id of a transaction: its 128-bit number as a UUID, hyphenated and in lower case
abbrev pub id_text : ℕ → List ℕ
id_text id = hyphenated_text lower (to_be_bytes w128 id)

-- a hybrid time: its microseconds, a dot, and its logical counter
abbrev pub time_text : ℕ → List ℕ
time_text time = decimal (micros_of time) ++ (codes "." ++ decimal (logical_of time))

-- an actor: t, s or a with its number; a session is its number alone
abbrev pub actor_text : Actor → List ℕ
actor_text (Tablet k) = codes "t" ++ decimal k
actor_text (Status j) = codes "s" ++ decimal j
actor_text (Session i) = decimal i
actor_text (Applier k) = codes "a" ++ decimal k

-- a value as a script shows it; a - where there is none
abbrev pub value_text : Option (List ℕ) → List ℕ
value_text None = codes "-"
value_text (Some bytes) = shown_value (value_of bytes)

-- a row of a read: behind a space its path, an equals sign, and its value
abbrev pub row_text : Row → List ℕ
row_text row = codes " " ++ (shown_path row.path ++ (codes "=" ++ value_text row.value))

abbrev pub kept_text : Bool → List ℕ
kept_text true = codes "restarted kept=yes"
kept_text false = codes "restarted kept=no"

abbrev pub refusal_text : ToldRefusal → List ℕ
refusal_text (why.Conflict other) = codes "refused conflict " ++ id_text other
refusal_text (why.Overlap at) = codes "refused overlap " ++ time_text at
refusal_text (why.Aborted by) = codes "refused aborted " ++ id_text by
refusal_text (why.Restart at path) = codes "refused restart " ++ (time_text at ++ (codes " " ++ shown_path path))
refusal_text (why.LeaseHeld actor until) = codes "refused lease " ++ (actor_text actor ++ (codes " " ++ decimal until))
refusal_text (why.ClockFull actor at) = codes "refused clock-full " ++ (actor_text actor ++ (codes " " ++ time_text at))
refusal_text (why.ClockRange actor reading) =
    codes "refused clock-range " ++ (actor_text actor ++ (codes " " ++ decimal reading))
refusal_text (why.LogFault actor) = codes "refused log " ++ actor_text actor
refusal_text (why.Down actor since) = codes "refused down " ++ (actor_text actor ++ (codes " " ++ decimal since))
refusal_text why.NoTxn = codes "refused no-transaction"
refusal_text why.TxnOpen = codes "refused transaction-open"
refusal_text why.InDoubt = codes "refused in-doubt"
refusal_text why.Memory = codes "refused memory"

abbrev pub answer_text : Told → List ℕ
answer_text (told.Began txn at) = codes "began " ++ (id_text txn ++ (codes " at " ++ time_text at))
answer_text (told.Written at) = codes "written at " ++ time_text at
answer_text (told.Committed txn at) = codes "committed " ++ (id_text txn ++ (codes " at " ++ time_text at))
answer_text (told.Ended txn) = codes "ended " ++ id_text txn
answer_text (told.Values at restarts rows) =
    codes "values at " ++ (time_text at ++ (codes " restarts " ++ (decimal restarts ++ (codes ":" ++ flat_map row_text rows))))
answer_text (told.Restarted kept) = kept_text kept
answer_text (told.Passed applied cleaned left) =
    codes "passed applied=" ++ (decimal applied ++ (codes " cleaned=" ++ (decimal cleaned ++ (codes " left=" ++ decimal left))))
answer_text told.Set = codes "set"
answer_text (told.Refused refusal) = refusal_text refusal

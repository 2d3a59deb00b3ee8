-- What the top call promises of a run, for each status that it ends with.
use Rattle.std.specs.Prelude.{◌≡◌, ℕ, ◌+◌, Bool, false, List, [], ◌∷◌, ◌++◌, Option, Some, take, drop, codes, decimal, reverse, IfSome, bytes_eq, ◌⊎◌}
use Rattle.docdb_outside.specs.Count.{Rose}
use Rattle.txn_data.specs.declared.command.Command.{Command}
use Rattle.txn_data.specs.declared.entry.Entry.{Entry}
use Rattle.txn_types.specs.Lists.{Member}
use Rattle.txn_types.specs.History.{History}
use Rattle.txn_types.specs.Run.{Run}
use Rattle.docdb_run.specs.BeforeLogs.{as_logged}
use Rattle.txn_types.specs.Reads.{Read, reads, IsFinal, Right, Steady}
use Rattle.txn_types.specs.Script.{Follows, Whole, Scheduled}
use Rattle.txn_types.specs.Cause.{ToldAt, tells, Cause}
use Rattle.docdb_run.specs.Form.{Accepted, Later, form_of, plan_of, cluster, most_bytes}
use Rattle.docdb_run.specs.Text.{text_of}

-- a run of the commands of a script, as far as it came: nothing is logged yet, so it is a run of the history in which
-- each append is what the table would log
pub record IsRun (commands : List Command) (h : History) : Type 0 where
  pub run : Run cluster (as_logged cluster h)
  pub follows : Follows (plan_of commands) h

-- a run of all of them, in the order and with the readings of the schedule; each finished read is right and steady, and
-- each refusal has its cause
pub record IsWholeRun (commands : List Command) (h : History) : Type 0 where
  pub is_run : IsRun commands h
  pub whole : Whole cluster (plan_of commands) h
  pub scheduled : Scheduled cluster (plan_of commands) h
  pub final : (read : Read) → Member read (reads h) → IsFinal cluster read
  pub right : (read : Read) → Member read (reads h) → Right cluster h read
  pub steady : (read : Read) → Member read (reads h) → Steady cluster h read
  pub causes : (t : ToldAt) → Member t (tells (as_logged cluster h)) → Cause cluster t

-- what the call was given and what it left: the words, the bytes that the source held before and after, its count of
-- faults, the bytes that the sink had taken, its counts of faults and stalls, and the recorded history
pub record Call : Type 0 where
  pub words : List (List ℕ)
  pub left : Option (List ℕ)
  pub left_after : Option (List ℕ)
  pub source_faults : ℕ
  pub source_faults_after : ℕ
  pub taken : Option (List ℕ)
  pub taken_after : Option (List ℕ)
  pub sink_faults : ℕ
  pub sink_faults_after : ℕ
  pub sink_stalls : ℕ
  pub sink_stalls_after : ℕ
  pub entries : List Entry

-- these bytes were written, or the first of them, where the sink tells what it has taken
abbrev pub WroteTo : Option (List ℕ) → Option (List ℕ) → List ℕ → Type 0
WroteTo taken after bytes = IfSome taken (λ before. after ≡ Some (before ++ bytes))

abbrev pub PartTo : Option (List ℕ) → Option (List ℕ) → List ℕ → Type 0
PartTo taken after bytes = (n : ℕ) × WroteTo taken after (take n bytes)

abbrev pub Wrote : Call → List ℕ → Type 0
Wrote c bytes = WroteTo c.taken c.taken_after bytes

abbrev pub WrotePart : Call → List ℕ → Type 0
WrotePart c bytes = PartTo c.taken c.taken_after bytes

-- a text was written and the status is its own, or the sink failed, or took nothing of a piece, and the status is 5
abbrev pub EndsWriting : Option (List ℕ) → Option (List ℕ) → ℕ → ℕ → ℕ → ℕ → List ℕ → ℕ → ℕ → Type 0
EndsWriting taken after faults faults_after stalls stalls_after text own status =
    ((status ≡ own) × WroteTo taken after text)
    ⊎ ((status ≡ 5) × (Rose faults faults_after ⊎ Rose stalls stalls_after) × PartTo taken after text)

abbrev pub sim : List (List ℕ)
sim = codes "sim" ∷ []

abbrev pub are_sim : List (List ℕ) → Bool
are_sim (word ∷ []) = bytes_eq word (codes "sim")
are_sim words = false

-- the script is all that the source held, where it tells that, and was read to its end or to one byte past the limit
abbrev pub WasRead : Call → List ℕ → Type 0
WasRead c script = IfSome c.left (λ bytes. (bytes ≡ script) × (c.left_after ≡ Some (drop (most_bytes + 1) bytes)))

-- the causes of a refusal of the whole call, and the line that it is told by
abbrev pub refused_words : List ℕ
refused_words = codes "refused words\n"

abbrev pub refused_read : List ℕ
refused_read = codes "refused read\n"

abbrev pub refused_script : ℕ → List ℕ
refused_script line = codes "refused script " ++ (decimal line ++ codes " later\n")

-- the words are others than the one word
abbrev pub WordsRefused : Call → Type 0
WordsRefused c = c.words ≡ sim → ⊥

-- the source failed
abbrev pub ReadFailed : Call → Type 0
ReadFailed c = (c.words ≡ sim) × Rose c.source_faults c.source_faults_after

-- a line of the script is not of the form
pub record ScriptRefused (c : Call) (line : ℕ) : Type 0 where
  pub words : c.words ≡ sim
  pub script : List ℕ
  pub read : WasRead c script
  pub later : form_of script ≡ Later line

-- a script was accepted, with these commands
pub record IsAccepted (c : Call) (commands : List Command) : Type 0 where
  pub words : c.words ≡ sim
  pub script : List ℕ
  pub read : WasRead c script
  pub accepted : form_of script ≡ Accepted commands

abbrev pub history : Call → History
history c = reverse c.entries

-- all was told, and the report was written
pub record Done (c : Call) : Type 0 where
  pub commands : List Command
  pub accepted : IsAccepted c commands
  pub whole : IsWholeRun commands (history c)
  pub text : Wrote c (text_of cluster (plan_of commands) (history c))

-- the sink failed, or took nothing of a piece
abbrev pub SinkFailed : Call → Type 0
SinkFailed c = Rose c.sink_faults c.sink_faults_after ⊎ Rose c.sink_stalls c.sink_stalls_after

-- what was recorded and written where the sink failed: nothing and a part of a refusal, or a whole run and a part of its
-- report
pub record BrokenRefusal (c : Call) (line : List ℕ) : Type 0 where
  pub empty : c.entries ≡ []
  pub part : WrotePart c line

pub record BrokenReport (c : Call) : Type 0 where
  pub commands : List Command
  pub accepted : IsAccepted c commands
  pub whole : IsWholeRun commands (history c)
  pub part : WrotePart c (text_of cluster (plan_of commands) (history c))

abbrev pub Broken : Call → Type 0
Broken c =
    (WordsRefused c × BrokenRefusal c refused_words)
    ⊎ (ReadFailed c × BrokenRefusal c refused_read)
    ⊎ ((line : ℕ) × ScriptRefused c line × BrokenRefusal c (refused_script line))
    ⊎ BrokenReport c

-- memory ran out: nothing was written, and what is recorded is a run as far as it came
pub record CutOff (c : Call) : Type 0 where
  pub commands : List Command
  pub accepted : (c.entries ≡ []) ⊎ IsAccepted c commands
  pub run : IsRun commands (history c)
  pub nothing : Wrote c []

-- the status says which of these it was
abbrev pub Ends : ℕ → Call → Type 0
Ends status c =
    ((status ≡ 0) × Done c)
    ⊎ ((status ≡ 1) × ((line : ℕ) × ScriptRefused c line × Wrote c (refused_script line) × (c.entries ≡ [])))
    ⊎ ((status ≡ 2) × WordsRefused c × Wrote c refused_words × (c.entries ≡ []))
    ⊎ ((status ≡ 3) × CutOff c)
    ⊎ ((status ≡ 4) × ReadFailed c × Wrote c refused_read × (c.entries ≡ []))
    ⊎ ((status ≡ 5) × SinkFailed c × Broken c)

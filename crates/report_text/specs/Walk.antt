-- How far a walk over a history has come: what it has of the entries so far.
use Rattle.std.specs.Prelude.{◌≡◌, ℕ, ◌+◌, ◌<◌, Bool, not, List, [], ◌∷◌, ◌++◌, Option, Some, None, codes, length, slice_index_or, if◌then◌else◌}
use Rattle.txn_data.specs.declared.actor.Actor.TheVariants.{Session, Applier}
use Rattle.txn_data.specs.declared.told.Told.{Told}
use Rattle.txn_data.specs.declared.event.Event.{Event}
use Rattle.txn_data.specs.declared.event.Event.TheVariants.{Start, Tell}
use Rattle.txn_data.specs.declared.config.Config.{Config}
use Rattle.txn_types.specs.History.{History}
use Rattle.txn_types.specs.Run.{mover_at}
use Rattle.txn_types.specs.Settled.{last_told}
use Rattle.report_text.specs.declared.counts.Counts.{Counts}
use Rattle.report_text.specs.Shown.{Shown, SessionShown}
use Rattle.report_text.specs.Answer.{answer_text}
use Rattle.report_text.specs.Line.{word_of, word_under_way, pass_call, line_text}
use Rattle.report_text.specs.Total.{is_refused, is_committed, is_values, restarts_of, counts_of}
use Rattle.report_text.specs.Text.{shown_to, numbered_lines, session_tells, last_session}

-- what a session has once a command began there, and once it was told
abbrev pub with_word : List ℕ → SessionShown → SessionShown
with_word word s = record { word = word; lines = s.lines }

abbrev pub with_told : Told → SessionShown → SessionShown
with_told t s = record { word = []; lines = s.lines ++ (record { word = s.word; told = t }) ∷ [] }

-- what an event of its own makes of that
abbrev pub session_with : Event → SessionShown → SessionShown
session_with (Start number line) s = with_word (word_of line) s
session_with (Tell number t) s = with_told t s
session_with event s = s

-- the counts with one more that was told
abbrev pub counts_with : Told → Counts → Counts
counts_with t n = record {
  commands = n.commands + 1;
  ok = n.ok + (if not (is_refused t) then 1 else 0);
  refused = n.refused + (if is_refused t then 1 else 0);
  committed = n.committed + (if is_committed t then 1 else 0);
  reads = n.reads + (if is_values t then 1 else 0);
  restarts = n.restarts + restarts_of t;
}

abbrev pub counts_on : Event → Counts → Counts
counts_on (Tell number t) n = counts_with t n
counts_on event n = n

-- what an event of an applier makes of the line of its last pass
abbrev pub pass_on : Event → Option Shown → Option Shown
pass_on (Tell number t) s = Some (record { word = codes "last"; told = t })
pass_on event s = s

-- one of a list is changed by f, where there is one at this place
pub record Changed {A : Type 0} (i : ℕ) (f : A → A) (old new : List A) : Type 0 where
  pub same_length : length new ≡ length old
  pub here : (d : A) → i < length old → slice_index_or new i d ≡ f (slice_index_or old i d)
  pub others : (j : ℕ) (d : A) → ¬ (j ≡ i) → slice_index_or new j d ≡ slice_index_or old j d

-- what a session has after a history
abbrev pub session_after : Config → History → ℕ → SessionShown
session_after config h i = record {
  word = word_under_way (mover_at config (Session i) h).line;
  lines = shown_to config (Session i) h;
}

-- what the line of a last pass shows
abbrev pub last_shown : Option Told → Option Shown
last_shown None = None
last_shown (Some t) = Some (record { word = codes "last"; told = t })

-- all of it, after a history: each session at its number, and each last pass at its tablet
pub record Saw (config : Config) (h : History) (rows : List SessionShown) (last : List (Option Shown)) (n : Counts) : Type 0 where
  pub numbers : length rows ≡ last_session + 1
  pub sessions : (i : ℕ) (d : SessionShown) → i < last_session + 1 → slice_index_or rows i d ≡ session_after config h i
  pub tablets : length last ≡ config.tablets
  pub passes : (k : ℕ) (d : Option Shown) → k < config.tablets → slice_index_or last k d ≡ last_shown (last_told (Applier k) h)
  pub counts : n ≡ counts_of (session_tells h)

-- the lines of what is kept
abbrev pub nothing_shown : SessionShown
nothing_shown = record { word = []; lines = [] }

abbrev pub kept_lines : Bool → List SessionShown → ℕ → List ℕ
kept_lines json sessions i = numbered_lines json i 1 (slice_index_or sessions i nothing_shown).lines

abbrev pub kept_pass : Bool → ℕ → Option Shown → List ℕ
kept_pass json k None = []
kept_pass json k (Some s) = line_text json (pass_call k) s.word (answer_text s.told)

abbrev pub kept_passes : Bool → List (Option Shown) → ℕ → List ℕ
kept_passes json passes k = kept_pass json k (slice_index_or passes k None)

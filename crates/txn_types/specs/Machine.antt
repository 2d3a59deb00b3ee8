-- What one machine makes of a request: the entry that it adds to its own, and whether its table allows it.
use Rattle.std.specs.Prelude.{◌≡◌, ℕ, ◌≤◌, Bool, true, false, List, ◌∷◌, Option, Some, None, length}
use Rattle.txn_data.specs.Time.{takes_time}
use Rattle.txn_data.specs.declared.actor.Actor.{Actor}
use Rattle.txn_data.specs.declared.append.Append.{Append}
use Rattle.txn_data.specs.declared.append.Append.TheVariants.{Nothing}
use Rattle.txn_data.specs.declared.request.Request.{Request}
use Rattle.txn_data.specs.declared.request.Request.TheVariants as request
use Rattle.txn_data.specs.declared.reply.Reply.{Reply}
use Rattle.txn_data.specs.declared.reply.Reply.TheVariants as reply
use Rattle.txn_data.specs.declared.refusal.Refusal.TheVariants as refusal
use Rattle.txn_data.specs.declared.served.Served.{Served}
use Rattle.txn_data.specs.declared.event.Event.{Event}
use Rattle.txn_data.specs.declared.event.Event.TheVariants.{Serve, Restarted}
use Rattle.txn_data.specs.declared.entry.Entry.{Entry}
use Rattle.txn_types.specs.History.{History}
use Rattle.txn_types.specs.Run.{Serves, CanKeep}

-- a reading is given where the request takes one
abbrev pub ReadingGiven : Bool → Option ℕ → Type 0
ReadingGiven true None = ⊥
ReadingGiven true (Some reading) = Unit {0}
ReadingGiven false reading = Unit {0}

abbrev pub FewTablets : Request → Type 0
FewTablets (request.Commit x floor tablets) = length tablets ≤ 64
FewTablets asked = Unit {0}

abbrev pub reading_used : Bool → Option ℕ → Option ℕ
reading_used true reading = reading
reading_used false reading = None

-- a restart that succeeds is told by a Restarted, everything else by a Serve
abbrev pub event_of : Actor → Request → Reply → Option ℕ → Append → Event
event_of from asked (reply.Restarted kept) time append = Restarted from kept
event_of from asked r time append = Serve from asked r time append

abbrev pub entry_of : Actor → Actor → Request → Option ℕ → Served → Entry
entry_of a from asked reading served = record {
  actor = a;
  reading = reading_used (takes_time asked) reading;
  event = event_of from asked served.reply served.time served.append;
}

abbrev pub AnswersBy : ℕ → Actor → History → Option ℕ → Request → Reply → Option ℕ → Append → Type 0
AnswersBy lease a h reading asked (reply.Restarted kept) time append = (asked ≡ request.Restart) × CanKeep kept h × (time ≡ None) × (append ≡ Nothing)
AnswersBy lease a h reading asked r time append = Serves lease a h (reading_used (takes_time asked) reading) asked r time append

-- the table of the actor answers the request so, after these entries of its own
abbrev pub Answers : ℕ → Actor → History → Option ℕ → Request → Served → Type 0
Answers lease a h reading asked served = AnswersBy lease a h reading asked served.reply served.time served.append

-- a meaning of a machine: whether it stands for these own entries, opened on a log with these bytes and this count of faults
abbrev pub Standing : Type 1
Standing = List ℕ → ℕ → History → Type 0

-- a machine that ran out of memory changed nothing: it stands for what it stood for
abbrev pub Stays : Standing → Standing → Type 0
Stays before after = (bytes : List ℕ) (faults : ℕ) (h : History) → before bytes faults h → after bytes faults h

-- a machine stands for one entry more, and its table allows it
abbrev pub Adds : Standing → Standing → (History → Type 0) → Entry → Type 0
Adds before after allowed e =
    (bytes : List ℕ) (faults : ℕ) (h : History) → before bytes faults h → allowed h × after bytes faults (e ∷ h)

-- what a machine made of a request
abbrev pub Advances : Standing → Standing → ℕ → Actor → Actor → Option ℕ → Request → Reply → Served → Type 0
Advances before after lease a from reading asked (reply.Refused refusal.Memory) served = Stays before after
Advances before after lease a from reading asked r served =
    Adds before after (λ h. Answers lease a h reading asked served) (entry_of a from asked reading served)

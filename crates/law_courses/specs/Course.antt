-- The course of a command: what it asked and heard, one after another, from its start to what it is told.
use Rattle.std.specs.Prelude.{◌≡◌, ℕ, Bool, [], ◌∷◌, Option, Some, ◌⊎◌}
use Rattle.txn_data.specs.declared.actor.Actor.{Actor}
use Rattle.txn_data.specs.declared.append.Append.{Append}
use Rattle.txn_data.specs.declared.entry.Entry.{Entry}
use Rattle.txn_data.specs.declared.event.Event.{Event}
use Rattle.txn_data.specs.declared.event.Event.TheVariants.{Serve}
use Rattle.txn_data.specs.declared.refusal.Refusal.TheVariants as refusal
use Rattle.txn_data.specs.declared.reply.Reply.{Reply}
use Rattle.txn_data.specs.declared.reply.Reply.TheVariants as reply
use Rattle.txn_data.specs.declared.request.Request.{Request}
use Rattle.txn_data.specs.declared.request.Request.TheVariants as request
use Rattle.txn_types.specs.Lists.{or_else}
use Rattle.txn_types.specs.History.{History}
use Rattle.txn_types.specs.Program.{Program, Done, Asks, Reads}
use Rattle.law_machines.specs.Own.{StandsOver}

-- the first history is the second, or what of it came earlier
unfoldable pub IsPart : History → History → Type 0
IsPart low [] = low ≡ []
IsPart low (e ∷ h) = (low ≡ e ∷ h) ⊎ IsPart low h

-- an entry of these parts
abbrev pub entry_of : Actor → Option ℕ → Event → Entry
entry_of a reading event = record { actor = a; reading = reading; event = event }

-- a request of the mover was answered by an entry that stands over `before` in the history
pub record Answer (m to : Actor) (asked : Request) (h low : History) : Type 0 where
  pub reading : Option ℕ
  pub reply : Reply
  pub time : Option ℕ
  pub append : Append
  pub before : History
  pub stands : StandsOver (entry_of to reading (Serve m asked reply time append)) before h
  pub later : IsPart low before

-- the history with that answer
abbrev pub answered : (m to : Actor) (asked : Request) (h low : History) → Answer m to asked h low → History
answered m to asked h low a = entry_of to a.reading (Serve m asked a.reply a.time a.append) ∷ a.before

-- program p of the mover came to `end` over the history h, with answers later than `low`. Each request was answered by an
-- entry that stands later than the answers before it; or it was a restart that was answered; or out of memory was heard
-- in place of an answer. `had` is the reading that was taken before, if one was, and `own` the one that is taken in the end.
-- Where a reading is taken, the program may also end at once.
unfoldable pub Came : {A : Type 0} → Actor → History → Option ℕ → History → Option ℕ → Program A → A → Type 0
Came m h own low had (Done a) end = (a ≡ end) × (had ≡ own)
Came m h own low had (Asks to asked next) end =
    ((a : Answer m to asked h low) × Came m h own (answered m to asked h low a) had (next a.reply) end)
    ⊎ ((asked ≡ request.Restart) × ((k : Bool) × Came m h own low had (next (reply.Restarted k)) end))
    ⊎ Came m h own low had (next (reply.Refused refusal.Memory)) end
Came m h own low had (Reads given) end = (reading : ℕ) × (Came m h own low (or_else had (Some reading)) (given reading) end ⊎ (given reading ≡ Done end))

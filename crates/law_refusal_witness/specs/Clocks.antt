-- What a tablet answers once the counter of its time has ended, by its table.
use Rattle.std.specs.Prelude.{◌≡◌, ℕ, ◌+◌, ◌*◌, Bool, false, [], ◌∷◌, Some, None}
use Rattle.txn_data.specs.declared.append.Append.TheVariants.{Took}
use Rattle.txn_data.specs.declared.event.Event.TheVariants.{Serve}
use Rattle.txn_data.specs.declared.op.Op.TheVariants.{Put}
use Rattle.txn_data.specs.declared.refusal.Refusal.TheVariants as refusal
use Rattle.txn_data.specs.declared.reply.Reply.{Reply}
use Rattle.txn_data.specs.declared.reply.Reply.TheVariants as reply
use Rattle.txn_data.specs.declared.request.Request.{Request}
use Rattle.txn_data.specs.declared.request.Request.TheVariants as request
use Rattle.txn_types.specs.History.{History}
use Rattle.txn_types.specs.Clock.{Answer, refusal_answer}
use Rattle.txn_types.specs.Run.{Serves, machine_answer}
use Rattle.txn_promises.specs.Refuses.{Meets}
use Rattle.law_witness.specs.Witness.{small, early, window_at, doc, val, x, reader, tablet, entry}

-- the last time of the microsecond 1,000,000: the counter is at its end
abbrev pub end_at : ℕ
end_at = 1000000 * 4096 + 4095

-- a read at that time is listed for, and the tablet takes the time
abbrev pub list_request : Request
list_request = request.ListRead None (doc ∷ []) end_at window_at None

abbrev pub list_reply : Reply
list_reply = reply.Listed end_at []

abbrev pub listed : History
listed = entry tablet early (Serve reader list_request list_reply (Some end_at) Took) ∷ []

-- then something is written singly
abbrev pub single_request : Request
single_request = request.Single x doc (Put val) 0 []

abbrev pub answers : Bool → ℕ → Answer
answers fails reading = machine_answer small.lease_us tablet listed fails reading single_request

abbrev pub next_at : ℕ
next_at = 1000001 * 4096

-- the listing is what the table answers; the single write meets the row of ClockFull, and is answered so whether the log fails or
-- not; with the next microsecond it is taken
pub record ShowsFullCounter : Type 0 where
  pub allowed : Serves small.lease_us tablet [] early list_request list_reply (Some end_at) Took
  pub meets : Meets small.lease_us listed early single_request (refusal.ClockFull end_at)
  pub full : (fails : Bool) → answers fails 1000000 ≡ refusal_answer (refusal.ClockFull end_at)
  pub next : answers false 1000001 ≡ record { reply = reply.SingleDone next_at; time = Some next_at; append = Took }

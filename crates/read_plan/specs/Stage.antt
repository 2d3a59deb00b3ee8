-- What is left of a read at each stage.
use Rattle.std.specs.Prelude.{ℕ, Bool, true, false, List}
use Rattle.txn_data.specs.declared.actor.Actor.{Actor}
use Rattle.txn_data.specs.declared.actor.Actor.TheVariants.{Tablet}
use Rattle.txn_data.specs.declared.fate_of.FateOf.{FateOf}
use Rattle.txn_data.specs.declared.found.Found.{Found}
use Rattle.txn_data.specs.declared.request.Request.TheVariants as request
use Rattle.txn_data.specs.declared.reply.Reply.{Reply}
use Rattle.txn_data.specs.declared.reply.Reply.TheVariants as reply
use Rattle.txn_data.specs.declared.told_refusal.ToldRefusal.TheVariants as told_refusal
use Rattle.txn_data.specs.declared.read_what.ReadWhat.{ReadWhat}
use Rattle.txn_data.specs.declared.read_what.ReadWhat.TheVariants as what
use Rattle.txn_data.specs.declared.read_end.ReadEnd.{ReadEnd}
use Rattle.txn_types.specs.Program.{Program, Asks, Turn, Tell, refusal_told}
use Rattle.txn_types.specs.ReadProgram.{Asked, Progress, paths_on, read_ended, read_refused, ask_fates, window_of, with_limit, with_tablet_rows, round_one, round_two, restarted, met_then}
use Rattle.read_plan.specs.declared.stage.Stage.{Stage}
use Rattle.read_plan.specs.declared.stage.Stage.TheVariants as stage

-- the first round, or the second
abbrev pub round : Bool → Asked → Progress → List ℕ → Program ReadEnd
round true a s tablets = round_one a s tablets
round false a s tablets = round_two a s tablets

-- what a tablet collected, in either round, before these tablets are visited
abbrev pub collected : Bool → Asked → ℕ → List ℕ → Progress → Reply → Program ReadEnd
collected true a k tablets seen answer = elim answer [
  | reply.Collected rows ↦ round_one a (with_tablet_rows k rows seen) tablets
  | reply.Met at path ↦ met_then a.strict (what.Restart at path) seen (round_one a (restarted at seen) tablets)
  | reply.Refused why ↦ read_refused (refusal_told (Tablet k) why) seen
  | _ ↦ read_refused told_refusal.Memory seen
]
collected false a k tablets seen answer = elim answer [
  | reply.Collected rows ↦ round_two a (with_tablet_rows k rows seen) tablets
  | reply.Refused why ↦ read_refused (refusal_told (Tablet k) why) seen
  | _ ↦ read_refused told_refusal.Memory seen
]

-- the local limit of a tablet is fixed
abbrev pub limited : Progress → ℕ → ℕ → Progress
limited s k limit = record s { limits = with_limit k limit s.limits }

-- a tablet is asked to collect, once these fates are known
abbrev pub collecting : Bool → Asked → Progress → ℕ → ℕ → List ℕ → List FateOf → Program ReadEnd
collecting first a s k limit tablets fates =
    Asks (Tablet k) (request.Collect a.own_txn a.kind (paths_on k a.places) s.t (window_of first a.g limit) fates) (λ answer. collected first a k tablets s answer)

-- the program that is left at a stage, with these tablets to visit in this round, these transactions to ask about, and
-- these fates known
abbrev pub rest_at : Asked → Progress → Bool → List ℕ → List Found → List FateOf → Stage → Program ReadEnd
rest_at a s first tablets others fates stage.Listing = round first a s tablets
rest_at a s first tablets others fates (stage.Asking k limit) = ask_fates s others fates (collecting first a s k limit tablets)
rest_at a s first tablets others fates (stage.Restarting at path) = read_ended (what.Restart at path) s
rest_at a s first tablets others fates (stage.Refused by why) = read_refused (refusal_told by why) s

-- after a refusal, or a reply that is none to the request
abbrev pub stopped_by : Actor → Progress → Reply → Program ReadEnd
stopped_by by s r = elim r [ reply.Refused why ↦ read_refused (refusal_told by why) s | _ ↦ read_refused told_refusal.Memory s ]

-- a tablet has listed, and did not collect yet
abbrev pub is_asking : Stage → Bool
is_asking (stage.Asking k limit) = true
is_asking _ = false

abbrev pub is_listing : Stage → Bool
is_listing stage.Listing = true
is_listing _ = false

-- a read that waits for a reply
abbrev pub waits : Program ReadEnd → Bool
waits (Asks to request next) = true
waits _ = false

-- the ends that want room: they have rows or a path
abbrev pub end_takes_room : ReadWhat → Bool
end_takes_room (what.Refused why) = false
end_takes_room _ = true

-- the turns that want room, for what they say or for the reply: all but to tell a refusal
abbrev pub takes_room : Turn ReadEnd → Bool
takes_room (Tell end) = end_takes_room end.what
takes_room _ = true

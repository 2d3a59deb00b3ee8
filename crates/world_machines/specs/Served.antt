-- What a machine made of a request.
use Rattle.std.specs.Prelude.{◌≡◌, ℕ, List, ◌∷◌, Some}
use Rattle.txn_data.specs.declared.actor.Actor.{Actor}
use Rattle.txn_data.specs.declared.config.Config.{Config}
use Rattle.txn_data.specs.declared.entry.Entry.{Entry}
use Rattle.txn_data.specs.declared.refusal.Refusal.TheVariants as refusal
use Rattle.txn_data.specs.declared.reply.Reply.{Reply}
use Rattle.txn_data.specs.declared.reply.Reply.TheVariants as reply
use Rattle.txn_data.specs.declared.request.Request.{Request}
use Rattle.txn_data.specs.declared.served.Served.{Served}
use Rattle.txn_types.specs.History.{History, own}
use Rattle.txn_types.specs.Machine.{Answers, entry_of}
use Rattle.txn_types.specs.Run.{Flight, Asked, Answered, IsMachine, flight, flight_after}
use Rattle.txn_types.specs.Script.{asker, ReadsRight}
use Rattle.law_parts.specs.Parts.{OwnAllowed, Matches}
use Rattle.tablet_log.specs.Logged.{Store}
use Rattle.world_machines.specs.Machines.{MachinesState, StandsFor}

-- The entry by which the machine of actor `by` answers this request of mover `from`, after the history. The machine's table
-- allows it over the machine's own entries. It is of the mover, matches the request where that is in flight, and makes it the
-- reply. A reading in it is the one given. Out of memory is no reply.
pub record IsServed (config : Config) (by from : Actor) (asked : Request) (reading : ℕ) (h : History) (r : Reply) (e : Entry) : Type 0 where
  pub actor : e.actor ≡ by
  pub allowed : OwnAllowed config by (own by h) e.reading e.event
  pub asker : asker e ≡ from
  pub matches : flight from h ≡ Asked by asked → Matches by e.event h
  pub answers : (f : Flight) → flight_after from f by e.event ≡ Answered by r
  pub reads : ReadsRight reading e.reading
  pub memory : r ≡ reply.Refused refusal.Memory → ⊥

-- what the machines then stand for: what they stood for where memory ran out, and else the entry that the machine's table
-- allows, with what they stood for
abbrev pub MovesOn : {L : Type 0} → Config → (Actor → Store) → List L → History → Actor → Actor → Request → ℕ → Reply → Served → MachinesState L → Type 0
MovesOn config start spare h by from asked reading (reply.Refused refusal.Memory) served m = StandsFor config start spare h m
MovesOn config start spare h by from asked reading r served m =
    IsMachine config by × Answers config.lease_us by (own by h) (Some reading) asked served
    × StandsFor config start spare (entry_of by from asked (Some reading) served ∷ h) m

-- What a machine made of a request, as the entry that it makes.
use Rattle.std.proofs.Common.{◌≡◌, ℕ, Bool, true, false, List, ◌∷◌, Option, Some, None, refl, sym, ap, ◌∙◌, subst, if◌then◌else◌}
use Rattle.std.specs.Prelude.{Result, Ok, Err, IfOk, OnErr}
use Rattle.txn_data.specs.Time.{takes_time}
use Rattle.txn_data.specs.declared.actor.Actor.{Actor}
use Rattle.txn_data.specs.declared.append.Append.{Append}
use Rattle.txn_data.specs.declared.config.Config.{Config}
use Rattle.txn_data.specs.declared.entry.Entry.{Entry}
use Rattle.txn_data.specs.declared.event.Event.TheVariants.{Serve, Restarted}
use Rattle.txn_data.specs.declared.refusal.Refusal.TheVariants as refusal
use Rattle.txn_data.specs.declared.reply.Reply.{Reply}
use Rattle.txn_data.specs.declared.reply.Reply.TheVariants as reply
use Rattle.txn_data.specs.declared.request.Request.{Request}
use Rattle.txn_data.specs.declared.request.Request.TheVariants as request
use Rattle.txn_data.specs.declared.served.Served.{Served}
use Rattle.txn_types.specs.History.{History, same_actor, own}
use Rattle.txn_types.specs.Machine.{AnswersBy, Answers, reading_used, event_of, entry_of}
use Rattle.txn_types.specs.Run.{Flight, Asked, Answered, IsMachine, flight, flight_after}
use Rattle.txn_types.specs.Script.{asker, ReadsRight}
use Rattle.law_machines.proofs.Basics.{same_refl}
use Rattle.law_parts.specs.Parts.{OwnAllowed, Matches}
use Rattle.tablet_log.specs.Logged.{Store}
use Rattle.world_machines.specs.declared.answered.Answered.{Answered as Told}
use Rattle.world_machines.specs.Machines.{MachinesState, StandsFor}
use Rattle.world_machines.specs.Served.{IsServed, MovesOn}

allowed : (config : Config) (by from : Actor) (h : History) (reading : Option ℕ) (asked : Request) (r : Reply) (time : Option ℕ) (append : Append) → IsMachine config by → AnswersBy config.lease_us by h reading asked r time append →
    OwnAllowed config by h (reading_used (takes_time asked) reading) (event_of from asked r time append)
allowed config by from h reading asked (reply.Restarted kept) time append there is =
    (there, subst (λ (q : Request). reading_used (takes_time q) reading ≡ None) (sym is.0) refl, is.1)
allowed config by from h reading asked r time append there is = (there, is)

matches : (config : Config) (by from : Actor) (g h : History) (reading : Option ℕ) (asked : Request) (r : Reply) (time : Option ℕ) (append : Append) → AnswersBy config.lease_us by g reading asked r time append → flight from h ≡ Asked by asked →
    Matches by (event_of from asked r time append) h
matches config by from g h reading asked (reply.Restarted kept) time append is asks = subst (λ (q : Request). flight from h ≡ Asked by q) is.0 asks
matches config by from g h reading asked r time append is asks = asks

answers : (by from : Actor) (asked : Request) (r : Reply) (time : Option ℕ) (append : Append) (f : Flight) → flight_after from f by (event_of from asked r time append) ≡ Answered by r
answers by from asked (reply.Restarted kept) time append f = rw (same_refl from) refl
answers by from asked r time append f = rw (same_refl from) refl

asks : (by from : Actor) (asked : Request) (reading : Option ℕ) (served : Served) (r : Reply) → asker (record { actor = by; reading = reading; event = event_of from asked r served.time served.append }) ≡ from
asks by from asked reading served (reply.Restarted kept) = refl
asks by from asked reading served r = refl

reads : (takes : Bool) (reading : ℕ) → ReadsRight reading (reading_used takes (Some reading))
reads true reading = refl
reads false reading = tt

made : {L : Type 0} (config : Config) (start : Actor → Store) (spare : List L) (h : History) (by from : Actor) (asked : Request) (reading : ℕ) (r : Reply) (served : Served) (m : MachinesState L) →
    (r ≡ reply.Refused refusal.Memory → ⊥) → MovesOn config start spare h by from asked reading r served m →
    IsMachine config by × Answers config.lease_us by (own by h) (Some reading) asked served × StandsFor config start spare (entry_of by from asked (Some reading) served ∷ h) m
made config start spare h by from asked reading (reply.Refused refusal.Memory) served m kept moves = absurd (kept refl)
made config start spare h by from asked reading r served m kept moves = moves

-- what was served without a loss of memory is an entry more
moved_on : {L : Type 0} (config : Config) (start : Actor → Store) (spare : List L) (h : History) (by from : Actor) (asked : Request) (reading : ℕ) (served : Served) (m : MachinesState L) →
    (served.reply ≡ reply.Refused refusal.Memory → ⊥) → MovesOn config start spare h by from asked reading served.reply served m →
    let e = entry_of by from asked (Some reading) served in IsServed config by from asked reading h served.reply e × StandsFor config start spare (e ∷ h) m
moved_on config start spare h by from asked reading served m kept moves =
    let parts = made config start spare h by from asked reading served.reply served m kept moves in (
      record {
        actor = refl;
        allowed = allowed config by from (own by h) (Some reading) asked served.reply served.time served.append parts.0 parts.1;
        asker = asks by from asked (reading_used (takes_time asked) (Some reading)) served served.reply;
        matches = matches config by from (own by h) h (Some reading) asked served.reply served.time served.append parts.1;
        answers = answers by from asked served.reply served.time served.append;
        reads = reads (takes_time asked) reading;
        memory = kept;
      },
      parts.2,
    )

-- and so is what is told of it
pub answered_ok : {L E : Type 0} (config : Config) (start : Actor → Store) (spare : List L) (h : History) (by from : Actor) (asked : Request) (reading : ℕ) (served : Served) (m : MachinesState L) (r : Result Told E) →
    IfOk r (λ a. a.entry ≡ entry_of by from asked (Some reading) served) → IfOk r (λ a. a.reply ≡ served.reply) → IfOk r (λ a. served.reply ≡ reply.Refused refusal.Memory → ⊥) →
    MovesOn config start spare h by from asked reading served.reply served m →
    IfOk r (λ a. IsServed config by from asked reading h a.reply a.entry × StandsFor config start spare (a.entry ∷ h) m)
answered_ok config start spare h by from asked reading served m (Ok a) entry replied kept moves =
    subst (λ (e : Entry). IsServed config by from asked reading h a.reply e × StandsFor config start spare (e ∷ h) m) (sym entry)
    (subst (λ (r : Reply). let e = entry_of by from asked (Some reading) served in IsServed config by from asked reading h r e × StandsFor config start spare (e ∷ h) m) (sym replied)
    (moved_on config start spare h by from asked reading served m kept moves))
answered_ok config start spare h by from asked reading served m (Err why) entry replied kept moves = tt

pub answered_memory : {L E : Type 0} (config : Config) (start : Actor → Store) (spare : List L) (h : History) (by from : Actor) (asked : Request) (reading : ℕ) (served : Served) (m : MachinesState L) (r : Result Told E) →
    OnErr r (served.reply ≡ reply.Refused refusal.Memory) → MovesOn config start spare h by from asked reading served.reply served m → OnErr r (StandsFor config start spare h m)
answered_memory config start spare h by from asked reading served m (Ok a) ran_out moves = tt
answered_memory config start spare h by from asked reading served m (Err why) ran_out moves = subst (λ (r : Reply). MovesOn config start spare h by from asked reading r served m) ran_out moves

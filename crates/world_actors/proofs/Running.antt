-- One entry more makes a run again, and is the move of its mover.
use Rattle.std.proofs.Common.{◌≡◌, ℕ, List, [], ◌∷◌, Option, Some, None, refl, sym, ◌∙◌, ap, subst}
use Rattle.txn_data.specs.declared.actor.Actor.{Actor}
use Rattle.txn_data.specs.declared.actor.Actor.TheVariants.{Tablet, Status, Session, Applier}
use Rattle.txn_data.specs.declared.command.Command.{Command}
use Rattle.txn_data.specs.declared.command.Command.TheVariants as command
use Rattle.txn_data.specs.declared.config.Config.{Config}
use Rattle.txn_data.specs.declared.mover.Mover.{Mover}
use Rattle.txn_data.specs.declared.mover.Mover.TheVariants as mover
use Rattle.txn_data.specs.declared.refusal.Refusal.TheVariants as refusal
use Rattle.txn_data.specs.declared.reply.Reply.{Reply}
use Rattle.txn_data.specs.declared.reply.Reply.TheVariants as reply
use Rattle.txn_data.specs.declared.request.Request.{Request}
use Rattle.txn_data.specs.declared.told.Told.{Told}
use Rattle.txn_data.specs.declared.event.Event.{Event}
use Rattle.txn_data.specs.declared.event.Event.TheVariants.{Start, Ask, Serve, Hear, Tell, Restarted}
use Rattle.txn_data.specs.declared.entry.Entry.{Entry}
use Rattle.txn_types.specs.History.{History, own}
use Rattle.txn_types.specs.Plan.{IsCluster}
use Rattle.txn_types.specs.Run.{Flight, Quiet, Asked, Answered, CanHear, flight, flight_after, IsMachine, IsUnderWay, MayStart, mover_at, Run}
use Rattle.txn_types.specs.Run as run
use Rattle.txn_types.specs.Run.{Steps as RunSteps}
use Rattle.txn_types.specs.Script.{ReadsRight, actor_of, asker, clock_by, node_of, number_at}
use Rattle.law_parts.specs.Parts.{OwnAllowed, Matches}
use Rattle.law_parts.proofs.Own.{mover_of_own}
use Rattle.law_parts.proofs.RunsOf.{one_more}
use Rattle.mover_chain.specs.NextEvent.{Given, NextEvent, next_event}
use Rattle.mover_seat.specs.Stage.{awaited}
use Rattle.mover_seat.specs.Step.{HearsMemory, IsStep, moved_of}
use Rattle.mover_seat.specs.declared.moved.Moved.{Moved}
use Rattle.mover_seat.specs.declared.step.Step.{Step}
use Rattle.world_actors.specs.Steps.{MovesOn}

-- ## a mover is no machine, and a machine is no mover

no_machine : (config : Config) (who : Mover) → IsMachine config (actor_of who) → ⊥
no_machine config (mover.Session i) is = is
no_machine config (mover.Applier k) is = is

machine_starts : (config : Config) (a : Actor) (m : run.Mover) (line : Command) → IsMachine config a → MayStart config a m line → ⊥
machine_starts config (Tablet k) m line is may = may
machine_starts config (Status j) m line is may = may
machine_starts config (Session i) m line is may = is
machine_starts config (Applier k) m line is may = is

pub awaited_is : (f : Flight) (to : Actor) → awaited f ≡ Some to → (asked : Request) × (f ≡ Asked to asked)
awaited_is Quiet to is = cc
awaited_is (Asked by asked) to is = (asked, let same : Some by ≡ Some to = is in let eq : by ≡ to = (cc) in ap (λ (a : Actor). Asked a asked) eq)
awaited_is (Answered from r) to is = cc

-- ## by a mover

step_matches : (config : Config) (who : Mover) (h : History) (reading : Option ℕ) (event : Event) → OwnAllowed config (actor_of who) (own (actor_of who) h) reading event →
    ((from : Actor) (r : Reply) → event ≡ Hear from r → CanHear (flight (actor_of who) h) from r) → Matches (actor_of who) event h
step_matches config who h reading (Start number line) allowed hears = tt
step_matches config who h reading (Ask to asked) allowed hears = tt
step_matches config who h reading (Serve from asked r time append) allowed hears = absurd (no_machine config who allowed.0)
step_matches config who h reading (Hear from r) allowed hears = hears from r refl
step_matches config who h reading (Tell number t) allowed hears = tt
step_matches config who h reading (Restarted from kept) allowed hears = absurd (no_machine config who allowed.0)

runs_on : (config : Config) (who : Mover) (h : History) (e : Entry) → Run config h → e.actor ≡ actor_of who → OwnAllowed config (actor_of who) (own (actor_of who) h) e.reading e.event →
    ((from : Actor) (r : Reply) → e.event ≡ Hear from r → CanHear (flight (actor_of who) h) from r) → Run config (e ∷ h)
runs_on config who h e before is allowed hears =
    one_more config h e before
    (subst (λ (a : Actor). OwnAllowed config a (own a h) e.reading e.event) (sym is) allowed)
    (subst (λ (a : Actor). Matches a e.event h) (sym is) (step_matches config who h e.reading e.event allowed hears))

can_hear : (f : Flight) (from : Actor) (r : Reply) → f ≡ Answered from r → CanHear f from r
can_hear f from r is = rw is (refl, refl)

pub step_runs : (config : Config) (who : Mover) (h : History) (next : NextEvent) (reading : ℕ) (step : Step) → Run config h → IsStep config (actor_of who) next reading (own (actor_of who) h) (flight (actor_of who) h) step → Run config (step.entry ∷ h)
step_runs config who h next reading step before is = runs_on config who h step.entry before is.actor is.allowed (λ from r hears. can_hear (flight (actor_of who) h) from r (is.heard from r hears))

hear_is : (from to : Actor) (r s : Reply) → Hear from r ≡ Hear to s → (from ≡ to) × (r ≡ s)
hear_is from to r s is = (cc, cc)

lost_hears : (f : Flight) (to : Actor) (asked : Request) (from : Actor) (r : Reply) (event : Event) → f ≡ Asked to asked → event ≡ Hear to (reply.Refused refusal.Memory) → event ≡ Hear from r → CanHear f from r
lost_hears f to asked from r event flies hears is =
    let same = hear_is to from (reply.Refused refusal.Memory) r (sym hears ∙ is) in
    rw flies (same.0, sym same.1)

pub lost_runs : (config : Config) (who : Mover) (h : History) (next : NextEvent) (to : Actor) (step : Step) → Run config h → awaited (flight (actor_of who) h) ≡ Some to → HearsMemory config (actor_of who) next (own (actor_of who) h) to step → Run config (step.entry ∷ h)
lost_runs config who h next to step before waits is =
    let flies = awaited_is (flight (actor_of who) h) to waits in
    runs_on config who h step.entry before is.actor is.allowed (λ from r hears. lost_hears (flight (actor_of who) h) to flies.0 from r step.entry.event flies.1 is.hears hears)

-- ## whose move it is

own_asker : (config : Config) (who : Mover) (h : History) (e : Entry) → e.actor ≡ actor_of who → OwnAllowed config (actor_of who) (own (actor_of who) h) e.reading e.event → asker e ≡ actor_of who
own_asker config who h e is allowed = by_event e.event allowed
  where
    by_event : (event : Event) → OwnAllowed config (actor_of who) (own (actor_of who) h) e.reading event → (elim event [ Serve from asked r time append ↦ from | Restarted from kept ↦ from | _ ↦ e.actor ]) ≡ actor_of who
    by_event (Start number line) may = is
    by_event (Ask to asked) may = is
    by_event (Serve from asked r time append) may = absurd (no_machine config who may.0)
    by_event (Hear from r) may = is
    by_event (Tell number t) may = is
    by_event (Restarted from kept) may = absurd (no_machine config who may.0)

told_clock_of : (config : Config) (who : Mover) (h : History) (e : Entry) (m : Moved) → e.actor ≡ actor_of who → m ≡ moved_of (clock_by (mover_at config (actor_of who) (own (actor_of who) h)).line e.event) →
    m ≡ moved_of (clock_by (mover_at config e.actor h).line e.event)
told_clock_of config who h e m is told =
    told ∙ ap (λ (n : run.Mover). moved_of (clock_by n.line e.event)) (mover_of_own config (actor_of who) h ∙ ap (λ (a : Actor). mover_at config a h) (sym is))

pub step_moves : (given : Given) (config : Config) (readings : List ℕ) (who : Mover) (h : History) (reading : ℕ) (step : Step) → reading ≡ number_at (node_of config (actor_of who)) readings →
    IsStep config (actor_of who) (next_event given config (actor_of who) h) reading (own (actor_of who) h) (flight (actor_of who) h) step → MovesOn given config readings (actor_of who) h (step.entry ∷ h) step.moved
step_moves given config readings who h reading step right is = record {
  entry = step.entry;
  adds = refl;
  is_move = record {
    by = own_asker config who h step.entry is.actor is.allowed;
    left = is.left;
    starts = is.starts;
    reads = subst (λ n. ReadsRight n step.entry.reading) (right ∙ ap (λ (a : Actor). number_at (node_of config a) readings) (sym is.actor)) is.reads;
  };
  clock = told_clock_of config who h step.entry step.moved is.actor is.moved;
}

no_reading : (n : ℕ) (reading : Option ℕ) → reading ≡ None → ReadsRight n reading
no_reading n reading is = rw is tt

pub lost_moves : (given : Given) (config : Config) (readings : List ℕ) (who : Mover) (h : History) (to : Actor) (step : Step) →
    HearsMemory config (actor_of who) (next_event given config (actor_of who) h) (own (actor_of who) h) to step → MovesOn given config readings (actor_of who) h (step.entry ∷ h) step.moved
lost_moves given config readings who h to step is = record {
  entry = step.entry;
  adds = refl;
  is_move = record {
    by = own_asker config who h step.entry is.actor is.allowed;
    left = is.left;
    starts = λ number line starts. absurd (let never : Hear to (reply.Refused refusal.Memory) ≡ Start number line = sym is.hears ∙ starts in cc);
    reads = no_reading (number_at (node_of config step.entry.actor) readings) step.entry.reading is.reading;
  };
  clock = told_clock_of config who h step.entry step.moved is.actor is.moved;
}

-- ## by a machine

pub served_runs : (config : Config) (h : History) (e : Entry) (by : Actor) → Run config h → e.actor ≡ by → OwnAllowed config by (own by h) e.reading e.event → Matches by e.event h → Run config (e ∷ h)
served_runs config h e by before is allowed matches =
    one_more config h e before
    (subst (λ (a : Actor). OwnAllowed config a (own a h) e.reading e.event) (sym is) allowed)
    (subst (λ (a : Actor). Matches a e.event h) (sym is) matches)

pub no_line_started : (config : Config) (by : Actor) (h : History) (e : Entry) → IsMachine config by → OwnAllowed config by (own by h) e.reading e.event → (number : ℕ) (line : Command) → e.event ≡ Start number line → ⊥
no_line_started config by h e machine allowed number line is =
    let may : OwnAllowed config by (own by h) e.reading (Start number line) = subst (λ (v : Event). OwnAllowed config by (own by h) e.reading v) is allowed in
    machine_starts config by (mover_at config by (own by h)) line machine may.3

-- only what tells a line can tell a clock
silent : (line : Command) (event : Event) → ((number : ℕ) (t : Told) → event ≡ Tell number t → ⊥) → clock_by (Some line) event ≡ None
silent (command.Clock node micros) (Start number line) never = refl
silent (command.Clock node micros) (Ask to asked) never = refl
silent (command.Clock node micros) (Serve from asked r time append) never = refl
silent (command.Clock node micros) (Hear from r) never = refl
silent (command.Clock node micros) (Tell number t) never = absurd (never number t refl)
silent (command.Clock node micros) (Restarted from kept) never = refl
silent (command.Begin priority) event never = refl
silent (command.Put place v) event never = refl
silent (command.Del place) event never = refl
silent command.Commit event never = refl
silent command.Abort event never = refl
silent (command.Read strict places) event never = refl
silent (command.Scan strict place) event never = refl
silent (command.SinglePut place v priority) event never = refl
silent (command.SingleDel place priority) event never = refl
silent (command.Restart actor) event never = refl
silent (command.Apply tablet) event never = refl
silent command.End event never = refl

pub silent_line : (line : Option Command) (event : Event) → ((number : ℕ) (t : Told) → event ≡ Tell number t → ⊥) → clock_by line event ≡ None
silent_line None event never = refl
silent_line (Some line) event never = silent line event never

-- what answers makes no mover's event
pub answers_is : (from by : Actor) (r : Reply) (event : Event) → ((f : Flight) → flight_after from f by event ≡ Answered by r) → (number : ℕ) (t : Told) → event ≡ Tell number t → ⊥
answers_is from by r event answers number t is =
    let quiet : Quiet ≡ Answered by r = subst (λ (v : Event). flight_after from Quiet by v ≡ Answered by r) is (answers Quiet) in cc

-- ## before the first entry

pub runs_none : (config : Config) → IsCluster config → Run config []
unfolding RunSteps
runs_none config cluster = (cluster, tt)

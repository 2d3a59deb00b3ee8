-- What one step of a mover leaves, and what it came to.
use Rattle.std.proofs.Common.{ltb-true, ◌≡◌, ℕ, ◌+◌, ◌^◌, ◌≤◌, ◌<◌, Bool, true, false, List, ◌∷◌, Option, Some, None, Ok, Err, length, is_some, nat_lt, refl, sym, ◌∙◌, ap, subst, arith, if◌then◌else◌}
use Rattle.std.proofs.lemmas.Nat.{mod_below}
use Rattle.txn_data.specs.declared.actor.Actor.{Actor}
use Rattle.txn_data.specs.declared.actor.Actor.TheVariants.{Tablet, Status, Session, Applier}
use Rattle.txn_data.specs.declared.command.Command.{Command}
use Rattle.txn_data.specs.declared.config.Config.{Config}
use Rattle.txn_data.specs.declared.entry.Entry.{Entry}
use Rattle.txn_data.specs.declared.event.Event.TheVariants.{Hear, Start}
use Rattle.txn_data.specs.declared.mover.Mover.{Mover}
use Rattle.txn_data.specs.declared.mover.Mover.TheVariants as mover
use Rattle.txn_data.specs.declared.refusal.Refusal.TheVariants as refused
use Rattle.txn_data.specs.declared.reply.Reply.{Reply}
use Rattle.txn_data.specs.declared.reply.Reply.TheVariants as reply
use Rattle.txn_data.specs.declared.request.Request.{Request}
use Rattle.txn_data.specs.declared.told.Told.{Told}
use Rattle.txn_types.specs.History.{History, own}
use Rattle.txn_types.specs.Plan.{IsCluster}
use Rattle.txn_types.specs.Program.{Program}
use Rattle.txn_types.specs.Run.{Flight, Quiet, Asked, IsMachine, IsUnderWay, flight, mover_at, Run}
use Rattle.txn_types.specs.Script.{actor_of, commands_of, lines, node_of, number_at, ReadsRight, started}
use Rattle.tablet_log.specs.Logged.{Store}
use Rattle.mover_chain.specs.NextEvent.{Given, NextEvent, NoneLeft, Starts, applier_next, goes_on, is_left, next_event, pass_starts, session_starts, all_done}
use Rattle.mover_chain.proofs.States.{IsMoving, moving_under_way}
use Rattle.mover_seat.specs.Stage.{awaited}
use Rattle.mover_seat.specs.Step.{HearsMemory, IsStep, moved_of}
use Rattle.mover_seat.specs.declared.moved.Moved.TheVariants as moved
use Rattle.mover_seat.specs.declared.step.Step.{Step}
use Rattle.world_machines.specs.Machines as machines
use Rattle.world_machines.specs.Served.{IsServed}
use Rattle.world_movers.specs.Movers as movers
use Rattle.world_movers.specs.declared.movers.Movers.{Movers}
use Rattle.world_actors.specs.State.{ActorsState}
use Rattle.world_actors.specs.Steps.{has_next}
use Rattle.world_actors.specs.Standing.{AreStanding, AwaitsNone, HasEvent, StepsOn}
use Rattle.world_actors.specs.declared.step_refusal.StepRefusal.TheVariants as refusal
use Rattle.world_actors.proofs.Following.{follows_step}
use Rattle.world_actors.proofs.Running.{answers_is, lost_moves, lost_runs, no_line_started, served_runs, silent_line, step_moves, step_runs}
use Rattle.world_actors.proofs.Beside.{machines_beside}

-- ## readings by node

pub node_within : (config : Config) (a : Actor) → IsCluster config → node_of config a < config.nodes
node_within config (Tablet k) cluster = let some = cluster.nodes.0 in mod_below k config.nodes (omega (arith, some))
node_within config (Status j) cluster = let some = cluster.nodes.0 in mod_below (j + 1) config.nodes (omega (arith, some))
node_within config (Session i) cluster = let some = cluster.nodes.0 in mod_below i config.nodes (omega (arith, some))
node_within config (Applier k) cluster = let some = cluster.nodes.0 in mod_below k config.nodes (omega (arith, some))

-- ## messages on their way

asked_both : (to by : Actor) (asked other : Request) → Asked to asked ≡ Asked by other → to ≡ by
asked_both to by asked other is = cc

some_not_none : (f : Flight) (by : Actor) (asked : Request) → is_some (awaited f) ≡ false → f ≡ Asked by asked → ⊥
some_not_none f by asked none flies = let never : is_some (awaited (Asked by asked)) ≡ false = subst (λ (g : Flight). is_some (awaited g) ≡ false) flies none in cc

-- a machine that may make one action more is not full
pub not_full : (h : History) (f : Flight) (to by : Actor) (request asked : Request) → f ≡ Asked to request → nat_lt (length (own to h)) (2 ^ 62) ≡ true → f ≡ Asked by asked → 2 ^ 62 ≤ length (own by h) → ⊥
not_full h f to by request asked is room flies full =
    let same = asked_both to by request asked (sym is ∙ flies) in
    let below = ltb-true (length (own by h)) (2 ^ 62) (subst (λ (a : Actor). nat_lt (length (own a h)) (2 ^ 62) ≡ true) same room) in
    omega (arith, below, full)

-- a mover that asked has an event left
under_left : (line : Option Command) (f : Flight) (rest : Program Told) (otherwise : NextEvent) (by : Actor) (asked : Request) → IsUnderWay line → f ≡ Asked by asked →
    is_left (elim line [ Some l ↦ goes_on f rest | None ↦ otherwise ]) ≡ true
under_left None f rest otherwise by asked under flies = absurd under
under_left (Some l) f rest otherwise by asked under flies = rw flies refl

moving : (f : Flight) (by : Actor) (asked : Request) → f ≡ Asked by asked → IsMoving f
moving f by asked flies = rw flies tt

quiet_asked : (by : Actor) (asked : Request) → Quiet ≡ Asked by asked → ⊥
quiet_asked by asked is = cc

applier_left : (given : Given) (config : Config) (k : ℕ) (h : History) (m : Movers) (by : Actor) (asked : Request) → Run config h → movers.StandsFor config given h m → flight (Applier k) h ≡ Asked by asked → (there : Bool) → nat_lt k config.tablets ≡ there →
    is_left (if there then applier_next given config k h else NoneLeft) ≡ true
applier_left given config k h m by asked run stands flies true there =
    under_left (mover_at config (Applier k) h).line (flight (Applier k) h) (mover_at config (Applier k) h).rest (pass_starts k config.passes (started (Applier k) h) (all_done given config h)) by asked
    (moving_under_way config (Applier k) h run.1 (moving (flight (Applier k) h) by asked flies)) flies
applier_left given config k h m by asked run stands flies false there =
    absurd (quiet_asked by asked (sym (stands.appliers.others k there).flight ∙ flies))

pub asked_left : (given : Given) (config : Config) (who : Mover) (h : History) (m : Movers) (by : Actor) (asked : Request) → Run config h → movers.StandsFor config given h m → flight (actor_of who) h ≡ Asked by asked →
    has_next given config (actor_of who) h ≡ true
asked_left given config (mover.Session i) h m by asked run stands flies =
    under_left (mover_at config (Session i) h).line (flight (Session i) h) (mover_at config (Session i) h).rest (session_starts given.all (lines (Session i) h) (commands_of i given.sessions) (mover_at config (Session i) h).keeps.opened) by asked
    (moving_under_way config (Session i) h run.1 (moving (flight (Session i) h) by asked flies)) flies
asked_left given config (mover.Applier k) h m by asked run stands flies = applier_left given config k h m by asked run stands flies (nat_lt k config.tablets) refl

-- ## what a step leaves

starts_own : (given : Given) (config : Config) (a b : Actor) (h : History) (line : Command) → b ≡ a → next_event given config a h ≡ Starts line → next_event given config b h ≡ Starts line
starts_own given config a b h line is next = subst (λ (c : Actor). next_event given config c h ≡ Starts line) (sym is) next

hears_no_start : (to : Actor) (number : ℕ) (line : Command) → Hear to (reply.Refused refused.Memory) ≡ Start number line → ⊥
hears_no_start to number line is = cc

-- the mover made its next entry
pub next_made : {L : Type 0} (config : Config) (given : Given) (start : Actor → Store) (spare : List L) (readings : List ℕ) (who : Mover) (h : History) (reading : ℕ) (step : Step) (before after : ActorsState L) →
    AreStanding config given start spare h before → AwaitsNone h before.movers who → reading ≡ number_at (node_of config (actor_of who)) readings →
    after.config ≡ before.config → after.machines ≡ before.machines → movers.StandsFor config given (step.entry ∷ h) after.movers →
    IsStep config (actor_of who) (next_event given config (actor_of who) h) reading (own (actor_of who) h) (flight (actor_of who) h) step →
    StepsOn config given start spare readings (actor_of who) h (step.entry ∷ h) (Ok step.moved) after
next_made {L} config given start spare readings who h reading step before after stands awaits right cluster same moved_on is = record {
  standing = record {
    cluster = cluster ∙ stands.cluster;
    lines = stands.lines;
    run = step_runs config who h (next_event given config (actor_of who) h) reading step stands.run is;
    follows = follows_step given config step.entry h stands.follows (λ number line begins. starts_own given config (actor_of who) step.entry.actor h line is.actor (is.starts number line begins));
    movers = moved_on;
    machines = subst (λ (m : machines.MachinesState L). machines.StandsFor config start spare (step.entry ∷ h) m) (sym same)
        (machines_beside config start spare who step.entry h before.machines is.actor stands.machines);
  };
  steps = step_moves given config readings who h reading step right is;
  full = λ by asked flies full. absurd (some_not_none (flight (actor_of who) h) by asked (awaits.none config given stands.movers) flies);
}

-- the machine ran out of memory, and the mover hears so
pub hears_memory : {L : Type 0} (config : Config) (given : Given) (start : Actor → Store) (spare : List L) (readings : List ℕ) (who : Mover) (h : History) (to : Actor) (request : Request) (step : Step) (before after : ActorsState L) →
    AreStanding config given start spare h before → flight (actor_of who) h ≡ Asked to request → nat_lt (length (own to h)) (2 ^ 62) ≡ true →
    after.config ≡ before.config → machines.StandsFor config start spare h after.machines → movers.StandsFor config given (step.entry ∷ h) after.movers →
    HearsMemory config (actor_of who) (next_event given config (actor_of who) h) (own (actor_of who) h) to step →
    StepsOn config given start spare readings (actor_of who) h (step.entry ∷ h) (Ok step.moved) after
hears_memory {L} config given start spare readings who h to request step before after stands flies room cluster kept moved_on is = record {
  standing = record {
    cluster = cluster ∙ stands.cluster;
    lines = stands.lines;
    run = lost_runs config who h (next_event given config (actor_of who) h) to step stands.run (ap awaited flies) is;
    follows = follows_step given config step.entry h stands.follows (λ number line begins. absurd (hears_no_start to number line (sym is.hears ∙ begins)));
    movers = moved_on;
    machines = machines_beside config start spare who step.entry h after.machines is.actor kept;
  };
  steps = lost_moves given config readings who h to step is;
  full = λ by asked other full. absurd (not_full h (flight (actor_of who) h) to by request asked flies room other full);
}

-- the machine answered
pub serves : {L : Type 0} (config : Config) (given : Given) (start : Actor → Store) (spare : List L) (readings : List ℕ) (who : Mover) (h : History) (by : Actor) (request : Request) (reading : ℕ) (r : Reply) (e : Entry) (before after : ActorsState L) →
    AreStanding config given start spare h before → HasEvent h before.movers who → flight (actor_of who) h ≡ Asked by request → nat_lt (length (own by h)) (2 ^ 62) ≡ true → IsMachine config by →
    reading ≡ number_at (node_of config by) readings →
    after.config ≡ before.config → machines.StandsFor config start spare (e ∷ h) after.machines → movers.StandsFor config given (e ∷ h) after.movers →
    IsServed config by (actor_of who) request reading h r e →
    StepsOn config given start spare readings (actor_of who) h (e ∷ h) (Ok moved.Event) after
serves {L} config given start spare readings who h by request reading r e before after stands left flies room machine right cluster kept moved_on is = record {
  standing = record {
    cluster = cluster ∙ stands.cluster;
    lines = stands.lines;
    run = served_runs config h e by stands.run is.actor is.allowed (is.matches flies);
    follows = follows_step given config e h stands.follows (λ number line begins. absurd (no_line_started config by h e machine is.allowed number line begins));
    movers = moved_on;
    machines = kept;
  };
  steps = record {
    entry = e;
    adds = refl;
    is_move = record {
      by = is.asker;
      left = left config given stands.movers;
      starts = λ number line begins. absurd (no_line_started config by h e machine is.allowed number line begins);
      reads = subst (λ n. ReadsRight n e.reading) (right ∙ ap (λ (a : Actor). number_at (node_of config a) readings) (sym is.actor)) is.reads;
    };
    clock = ap moved_of (sym (silent_line (mover_at config e.actor h).line e.event (answers_is (actor_of who) by r e.event is.answers)));
  };
  full = λ other asked also full. absurd (not_full h (flight (actor_of who) h) by other request asked flies room also full);
}

-- the step was refused for want of memory, and nothing changed
pub lacks_memory : {L : Type 0} (config : Config) (given : Given) (start : Actor → Store) (spare : List L) (readings : List ℕ) (who : Mover) (h : History) (before : ActorsState L) →
    AreStanding config given start spare h before → HasEvent h before.movers who → StepsOn config given start spare readings (actor_of who) h h (Err refusal.Memory) before
lacks_memory config given start spare readings who h before stands left =
    record { standing = stands; steps = (refl, left config given stands.movers); full = λ by asked flies full. refl }

-- the mover has no event left, and nothing changed
pub not_enabled : {L : Type 0} (config : Config) (given : Given) (start : Actor → Store) (spare : List L) (readings : List ℕ) (who : Mover) (h : History) (before : ActorsState L) →
    AreStanding config given start spare h before → has_next given config (actor_of who) h ≡ false → StepsOn config given start spare readings (actor_of who) h h (Err refusal.NotEnabled) before
not_enabled config given start spare readings who h before stands none = record {
  standing = stands;
  steps = (refl, none);
  full = λ by asked flies full. absurd (let there = asked_left given config who h before.movers by asked stands.run stands.movers flies in let never : true ≡ false = sym there ∙ none in cc);
}

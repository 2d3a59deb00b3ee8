use Rattle.std.proofs.Common.{◌<◌, ◌∙◌, ℕ, Ok, Err, ap, length, subst, sym}
use Rattle.mover_seat.specs.declared.moved.Moved.TheVariants as moved
use Rattle.txn_types.specs.Script.{actor_of}
use Rattle.world_actors.specs.declared.step_refusal.StepRefusal.TheVariants as refusal
use Rattle.sim_schedule.proofs.Advancing.{clock_within, is_enabled, moved_as, refused_as, step_as, went_clock, went_event, went_lost}
use Rattle.sim_schedule.proofs.simulation.Simulation.advance.Goals as goal

pub index_mut-requires : goal.index_mut-requires
index_mut-requires g c =
    let step = step_as c.args.self.now.world c.step.new.self c.as_slice.result.now c.args.self.now.clocks.items (actor_of c.args.who) c.step.result (Ok (moved.Clock c.in-Ok-Clock.node c.in-Ok-Clock.micros)) c.step.ensures.stands c.step.ensures.steps c.as_slice.ensures.value
    (moved_as c.step.result c.in-Ok-Clock.field-0 (moved.Clock c.in-Ok-Clock.node c.in-Ok-Clock.micros) c.in-Ok-Clock.is c.in-Ok-Clock.field-0-is) in
    let within = clock_within c.args.self.now.world c.step.new.self c.args.self.now.clocks.items (actor_of c.args.who) c.in-Ok-Clock.node c.in-Ok-Clock.micros c.requires step in
    subst (λ (n : ℕ). c.in-Ok-Clock.node < n) (ap length (sym c.as_slice.ensures.value) ∙ c.as_slice.ensures.len) within

pub returns-in-Err-Memory-clause-went : goal.returns-in-Err-Memory-clause-went
returns-in-Err-Memory-clause-went g c = λ config plan standing.
    let step = step_as c.args.self.now.world c.step.new.self c.as_slice.result.now c.args.self.now.clocks.items (actor_of c.args.who) c.step.result (Err refusal.Memory) c.step.ensures.stands c.step.ensures.steps c.as_slice.ensures.value
    (refused_as c.step.result c.in-Err-Memory.field-0 refusal.Memory c.in-Err-Memory.is c.in-Err-Memory.field-0-is) in
    went_lost config plan c.args.self.now.world c.step.new.self c.args.self.now.clocks.items (actor_of c.args.who) step standing

pub unreachable-requires : goal.unreachable-requires
unreachable-requires g c =
    let step = step_as c.args.self.now.world c.step.new.self c.as_slice.result.now c.args.self.now.clocks.items (actor_of c.args.who) c.step.result (Err refusal.NotEnabled) c.step.ensures.stands c.step.ensures.steps c.as_slice.ensures.value
    (refused_as c.step.result c.in-Err-NotEnabled.field-0 refusal.NotEnabled c.in-Err-NotEnabled.is c.in-Err-NotEnabled.field-0-is) in
    is_enabled c.args.self.now.world c.step.new.self c.args.self.now.clocks.items (actor_of c.args.who) c.requires step

pub returns-in-Ok-Event-clause-went : goal.returns-in-Ok-Event-clause-went
returns-in-Ok-Event-clause-went g c = λ config plan standing.
    let step = step_as c.args.self.now.world c.step.new.self c.as_slice.result.now c.args.self.now.clocks.items (actor_of c.args.who) c.step.result (Ok moved.Event) c.step.ensures.stands c.step.ensures.steps c.as_slice.ensures.value
    (moved_as c.step.result c.in-Ok-Event.field-0 moved.Event c.in-Ok-Event.is c.in-Ok-Event.field-0-is) in
    went_event config plan c.args.self.now.world c.step.new.self c.args.self.now.clocks.items (actor_of c.args.who) step standing

pub returns-in-Ok-Clock-clause-went : goal.returns-in-Ok-Clock-clause-went
returns-in-Ok-Clock-clause-went g c = λ config plan standing.
    let step = step_as c.args.self.now.world c.step.new.self c.as_slice.result.now c.args.self.now.clocks.items (actor_of c.args.who) c.step.result (Ok (moved.Clock c.in-Ok-Clock.node c.in-Ok-Clock.micros)) c.step.ensures.stands c.step.ensures.steps c.as_slice.ensures.value
    (moved_as c.step.result c.in-Ok-Clock.field-0 (moved.Clock c.in-Ok-Clock.node c.in-Ok-Clock.micros) c.in-Ok-Clock.is c.in-Ok-Clock.field-0-is) in
    let within = clock_within c.args.self.now.world c.step.new.self c.args.self.now.clocks.items (actor_of c.args.who) c.in-Ok-Clock.node c.in-Ok-Clock.micros c.requires step in
    went_clock config plan c.args.self.now.world c.step.new.self c.args.self.now.clocks.items (actor_of c.args.who) c.in-Ok-Clock.node c.in-Ok-Clock.micros within step standing

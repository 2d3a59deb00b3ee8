-- One move of a simulation.
use Rattle.std.proofs.Common.{◌≡◌, ℕ, ◌<◌, true, false, List, [], Option, Some, None, Result, Ok, Err, length, length-set, set, refl, sym, ◌∙◌, ap, subst}
use Rattle.txn_data.specs.declared.actor.Actor.{Actor}
use Rattle.txn_data.specs.declared.commands.Commands.{Commands}
use Rattle.txn_data.specs.declared.config.Config.{Config}
use Rattle.txn_types.specs.History.{History}
use Rattle.txn_types.specs.Script.{IsRunnable, ReadingsAsTold}
use Rattle.tablet_log.specs.Logged.{Store}
use Rattle.mover_chain.specs.NextEvent.{Given, given_by}
use Rattle.mover_seat.specs.Step.{moved_of}
use Rattle.mover_seat.specs.declared.moved.Moved.{Moved}
use Rattle.mover_seat.specs.declared.moved.Moved.TheVariants as moved
use Rattle.law_moves.specs.Moving.{MovedOnce}
use Rattle.law_moves.proofs.Clocks.{AreTold, clock_told, clocks_set, clocks_stay, first_told, none_read, reads_on}
use Rattle.world_actors.specs.Steps.{MovesOn, Steps}
use Rattle.world_actors.specs.declared.step_refusal.StepRefusal.{StepRefusal}
use Rattle.world_actors.specs.declared.step_refusal.StepRefusal.TheVariants as refusal
use Rattle.world_core.specs.State.{WorldState}
use Rattle.world_core.specs.World.{recorded, StandsFor}
use Rattle.sim_schedule.specs.Stands.{HasNext, Standing, Stands, Went}

-- ## before the first entry

pub stands_first : {L : Type 0} (config : Config) (plan : Commands) (start : Actor → Store) (spare : List L) (w : WorldState L) (clocks : List ℕ) → IsRunnable config plan → StandsFor config (given_by plan) start spare w → recorded w ≡ [] →
    clocks ≡ config.start_us → Stands config plan start spare w clocks
stands_first config plan start spare w clocks runnable stands first same = record {
  runnable = runnable;
  world = stands;
  readings = subst (ReadingsAsTold config) (sym first) (none_read config);
  many = ap length same ∙ runnable.readings;
  told = subst (λ (c : List ℕ). AreTold config c (recorded w)) (sym same) (subst (AreTold config config.start_us) (sym first) (first_told config));
}

-- ## a step

event_none : (c : Option (ℕ × ℕ)) → moved_of c ≡ moved.Event → c ≡ None
event_none None is = refl
event_none (Some (n, m)) is = absurd (let not_event : moved.Clock n m ≡ moved.Event = is in cc)

clock_some : (c : Option (ℕ × ℕ)) (node micros : ℕ) → moved_of c ≡ moved.Clock node micros → c ≡ Some (node, micros)
clock_some None node micros is = absurd (let not_clock : moved.Event ≡ moved.Clock node micros = is in cc)
clock_some (Some (n, m)) node micros is = let same : moved.Clock n m ≡ moved.Clock node micros = is in cc

-- what a step of the world leaves
pub record Stepped {L : Type 0} (w w' : WorldState L) (clocks : List ℕ) (a : Actor) (result : Result Moved StepRefusal) : Type 0 where
  pub stands : (config : Config) (given : Given) (start : Actor → Store) (spare : List L) → StandsFor config given start spare w → StandsFor config given start spare w'
  pub steps : (config : Config) (given : Given) (start : Actor → Store) (spare : List L) → StandsFor config given start spare w → Steps given config clocks a (recorded w) (recorded w') result

-- by what it came to, and by the readings that it was given
pub step_as : {L : Type 0} (w w' : WorldState L) (readings clocks : List ℕ) (a : Actor) (r s : Result Moved StepRefusal) → ((config : Config) (given : Given) (start : Actor → Store) (spare : List L) → StandsFor config given start spare w → StandsFor config given start spare w') →
    ((config : Config) (given : Given) (start : Actor → Store) (spare : List L) → StandsFor config given start spare w → Steps given config readings a (recorded w) (recorded w') r) → readings ≡ clocks → r ≡ s → Stepped w w' clocks a s
step_as {L} w w' readings clocks a r s stands steps same is =
    subst (λ (c : List ℕ). Stepped w w' c a s) same (subst (Stepped w w' readings a) is (record { stands = stands; steps = steps }))

pub moved_as : (r : Result Moved StepRefusal) (m n : Moved) → r ≡ Ok m → m ≡ n → r ≡ Ok n
moved_as r m n is same = is ∙ ap (λ (x : Moved). Ok x) same

pub refused_as : (r : Result Moved StepRefusal) (m n : StepRefusal) → r ≡ Err m → m ≡ n → r ≡ Err n
refused_as r m n is same = is ∙ ap (λ (x : StepRefusal). Err x) same

once : (given : Given) (config : Config) (clocks : List ℕ) (a : Actor) (h g : History) (m : Moved) → MovesOn given config clocks a h g m → MovedOnce a h g
once given config clocks a h g m moves = record { entry = moves.entry; adds = moves.adds; by = moves.is_move.by }

readings_on : {L : Type 0} (config : Config) (plan : Commands) (start : Actor → Store) (spare : List L) (w : WorldState L) (clocks : List ℕ) (a : Actor) (g : History) (m : Moved) → Stands config plan start spare w clocks →
    MovesOn (given_by plan) config clocks a (recorded w) g m → ReadingsAsTold config g
readings_on config plan start spare w clocks a g m stands moves =
    subst (ReadingsAsTold config) (sym moves.adds) (reads_on config clocks moves.entry (recorded w) stands.runnable.cluster stands.told stands.readings moves.is_move.reads)

stands_event : {L : Type 0} (config : Config) (plan : Commands) (start : Actor → Store) (spare : List L) (w w' : WorldState L) (clocks : List ℕ) (a : Actor) → Stepped w w' clocks a (Ok moved.Event) →
    Stands config plan start spare w clocks → Stands config plan start spare w' clocks
stands_event config plan start spare w w' clocks a step stands =
    let moves = step.steps config (given_by plan) start spare stands.world in
    record {
      runnable = stands.runnable;
      world = step.stands config (given_by plan) start spare stands.world;
      readings = readings_on config plan start spare w clocks a (recorded w') moved.Event stands moves;
      many = stands.many;
      told = subst (AreTold config clocks) (sym moves.adds) (clocks_stay config clocks moves.entry (recorded w) stands.told (event_none _ (sym moves.clock)));
    }

-- a clock that is told is of a node of the cluster
pub clock_within : {L : Type 0} (w w' : WorldState L) (clocks : List ℕ) (a : Actor) (node micros : ℕ) → HasNext w clocks a → Stepped w w' clocks a (Ok (moved.Clock node micros)) → node < length clocks
clock_within w w' clocks a node micros has step =
    let stands = has.standing.stands in
    let moves = step.steps has.config (given_by has.plan) has.standing.start has.standing.spare stands.world in
    subst (λ n. node < n) (sym stands.many)
    (clock_told has.config moves.entry.actor node micros moves.entry.event (recorded w) stands.world.run.1 (clock_some _ node micros (sym moves.clock)))

stands_clock : {L : Type 0} (config : Config) (plan : Commands) (start : Actor → Store) (spare : List L) (w w' : WorldState L) (clocks : List ℕ) (a : Actor) (node micros : ℕ) → node < length clocks → Stepped w w' clocks a (Ok (moved.Clock node micros)) →
    Stands config plan start spare w clocks → Stands config plan start spare w' (set clocks node micros)
stands_clock config plan start spare w w' clocks a node micros within step stands =
    let moves = step.steps config (given_by plan) start spare stands.world in
    record {
      runnable = stands.runnable;
      world = step.stands config (given_by plan) start spare stands.world;
      readings = readings_on config plan start spare w clocks a (recorded w') (moved.Clock node micros) stands moves;
      many = length-set clocks node micros ∙ stands.many;
      told = subst (AreTold config (set clocks node micros)) (sym moves.adds) (clocks_set config clocks moves.entry (recorded w) node micros stands.told within (clock_some _ node micros (sym moves.clock)));
    }

stands_lost : {L : Type 0} (config : Config) (plan : Commands) (start : Actor → Store) (spare : List L) (w w' : WorldState L) (clocks : List ℕ) (a : Actor) → Stepped w w' clocks a (Err refusal.Memory) →
    Stands config plan start spare w clocks → Stands config plan start spare w' clocks
stands_lost config plan start spare w w' clocks a step stands =
    let same = (step.steps config (given_by plan) start spare stands.world).0 in
    record {
      runnable = stands.runnable;
      world = step.stands config (given_by plan) start spare stands.world;
      readings = subst (ReadingsAsTold config) (sym same) stands.readings;
      many = stands.many;
      told = subst (AreTold config clocks) (sym same) stands.told;
    }

standing_on : {L : Type 0} (config : Config) (plan : Commands) (w w' : WorldState L) (c c' : List ℕ) (P : Type 0) → ((start : Actor → Store) (spare : List L) → Stands config plan start spare w c → Stands config plan start spare w' c') → Standing config plan w c → P → Went config plan w c w' c' P
standing_on config plan w w' c c' P stands standing so = record {
  stands = stands;
  standing = record { start = standing.start; spare = standing.spare; stands = stands standing.start standing.spare standing.stands };
  so = so;
}

pub went_event : {L : Type 0} (config : Config) (plan : Commands) (w w' : WorldState L) (clocks : List ℕ) (a : Actor) → Stepped w w' clocks a (Ok moved.Event) → Standing config plan w clocks → Went config plan w clocks w' clocks (MovedOnce a (recorded w) (recorded w'))
went_event config plan w w' clocks a step standing =
    standing_on config plan w w' clocks clocks (MovedOnce a (recorded w) (recorded w')) (λ start spare. stands_event config plan start spare w w' clocks a step) standing
    (once (given_by plan) config clocks a (recorded w) (recorded w') moved.Event (step.steps config (given_by plan) standing.start standing.spare standing.stands.world))

pub went_clock : {L : Type 0} (config : Config) (plan : Commands) (w w' : WorldState L) (clocks : List ℕ) (a : Actor) (node micros : ℕ) → node < length clocks → Stepped w w' clocks a (Ok (moved.Clock node micros)) → Standing config plan w clocks →
    Went config plan w clocks w' (set clocks node micros) (MovedOnce a (recorded w) (recorded w'))
went_clock config plan w w' clocks a node micros within step standing =
    standing_on config plan w w' clocks (set clocks node micros) (MovedOnce a (recorded w) (recorded w')) (λ start spare. stands_clock config plan start spare w w' clocks a node micros within step) standing
    (once (given_by plan) config clocks a (recorded w) (recorded w') (moved.Clock node micros) (step.steps config (given_by plan) standing.start standing.spare standing.stands.world))

pub went_lost : {L : Type 0} (config : Config) (plan : Commands) (w w' : WorldState L) (clocks : List ℕ) (a : Actor) → Stepped w w' clocks a (Err refusal.Memory) → Standing config plan w clocks → Went config plan w clocks w' clocks (Unit {0})
went_lost config plan w w' clocks a step standing = standing_on config plan w w' clocks clocks (Unit {0}) (λ start spare. stands_lost config plan start spare w w' clocks a step) standing tt

-- a mover that has an event left is not refused as not enabled
pub is_enabled : {L : Type 0} (w w' : WorldState L) (clocks : List ℕ) (a : Actor) → HasNext w clocks a → Stepped w w' clocks a (Err refusal.NotEnabled) → ⊥
is_enabled w w' clocks a has step =
    let none = (step.steps has.config (given_by has.plan) has.standing.start has.standing.spare has.standing.stands.world).1 in
    let never : true ≡ false = sym has.left ∙ none in cc

-- there is one reading for each node
pub readings_fit : {L : Type 0} (w : WorldState L) (clocks : List ℕ) (a : Actor) → HasNext w clocks a → length clocks ≡ w.actors.config.nodes
readings_fit w clocks a has = has.standing.stands.many ∙ sym (ap (λ (c : Config). c.nodes) has.standing.stands.world.cluster)

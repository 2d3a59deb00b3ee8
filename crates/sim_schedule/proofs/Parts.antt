-- The parts of the schedules: each loop from one round to the next.
use Rattle.std.proofs.Common.{◌≡◌, ℕ, suc, ◌+◌, ◌<◌, ◌≤◌, List, [], drop, get_or, length, map, take, refl, sym, subst, arith}
use Rattle.txn_data.specs.declared.actor.Actor.TheVariants.{Session, Applier}
use Rattle.txn_data.specs.declared.commands.Commands.{Commands}
use Rattle.txn_data.specs.declared.config.Config.{Config}
use Rattle.txn_data.specs.declared.go_line.GoLine.{GoLine}
use Rattle.txn_data.specs.declared.session_plan.SessionPlan.{SessionPlan}
use Rattle.txn_types.specs.History.{History}
use Rattle.txn_types.specs.Script.{actor_of, from_up}
use Rattle.mover_chain.specs.NextEvent.{given_by}
use Rattle.law_schedules.specs.Courses.{GoCourse, MovedToEnd, MovedUntilTold, MovedUpTo, OneByOne, PassesMade}
use Rattle.law_moves.proofs.Enabled.{lines_can_start}
use Rattle.law_moves.proofs.OneMore.{one_mapped, one_over, one_up, up_at_first}
use Rattle.law_moves.proofs.Over.{round_can_begin}
use Rattle.law_moves.proofs.Rounds.{can_begin}
use Rattle.world_core.specs.State.{WorldState}
use Rattle.world_core.specs.World.{recorded}
use Rattle.sim_schedule.specs.Stands.{AppliersEnded, HasNext, HasPasses, SessionsEnded, Standing, Went}
use Rattle.sim_schedule.proofs.Going.{went_as, went_none, went_over}
use Rattle.sim_schedule.proofs.Lists.{all_taken, none_taken, one_taken, parts_at}
use Rattle.sim_schedule.proofs.Ways.{Way}

-- ## the ends of sessions

abbrev pub SessionEnd : Config → Commands → SessionPlan → History → History → Type 0
SessionEnd config plan p g h = MovedToEnd (given_by plan) config (Session p.session) g h

abbrev pub EndedTo : {L : Type 0} → Commands → ℕ → WorldState L → List ℕ → WorldState L → List ℕ → Type 0
EndedTo plan i w c w1 c1 = (config : Config) → Standing config plan w c → Went config plan w c w1 c1 (OneByOne (SessionEnd config plan) (take i plan.sessions) (recorded w) (recorded w1))

pub ended_none : {L : Type 0} (plan : Commands) (w : WorldState L) (c : List ℕ) → EndedTo plan 0 w c w c
ended_none plan w c config standing = went_none config plan w c (OneByOne (SessionEnd config plan) (take 0 plan.sessions) (recorded w) (recorded w)) standing (none_taken (SessionEnd config plan) plan.sessions (recorded w))

pub ended_more : {L : Type 0} (plan : Commands) (i : ℕ) (p : SessionPlan) (w w1 w2 : WorldState L) (c c1 c2 : List ℕ) → i < length plan.sessions → p ≡ get_or plan.sessions i p → EndedTo plan i w c w1 c1 →
    Way w1 c1 w2 c2 (λ (config : Config) (plan : Commands). MovedToEnd (given_by plan) config (Session p.session) (recorded w1) (recorded w2)) → EndedTo plan (i + 1) w c w2 c2
ended_more plan i p w w1 w2 c c1 c2 within is so_far last config standing =
    let went = so_far config standing in
    went_over (OneByOne (SessionEnd config plan) (take (i + 1) plan.sessions) (recorded w) (recorded w2)) went (last config plan went.standing)
    (λ all one. one_taken (SessionEnd config plan) plan.sessions i p (recorded w) (recorded w1) (recorded w2) within is all one)

pub ended_all : {L : Type 0} (plan : Commands) (i : ℕ) (w w1 : WorldState L) (c c1 : List ℕ) → length plan.sessions ≤ i → EndedTo plan i w c w1 c1 → (config : Config) → Standing config plan w c → Went config plan w c w1 c1 (SessionsEnded config plan (recorded w) (recorded w1))
ended_all plan i w w1 c c1 past so_far config standing =
    went_as (SessionsEnded config plan (recorded w) (recorded w1)) (so_far config standing) (all_taken (SessionEnd config plan) plan.sessions i (recorded w) (recorded w1) past)

-- ## the ends of appliers

abbrev pub ApplierEnd : Config → Commands → ℕ → History → History → Type 0
ApplierEnd config plan k g h = MovedToEnd (given_by plan) config (Applier k) g h

abbrev pub AppliedTo : {L : Type 0} → Config → ℕ → WorldState L → List ℕ → WorldState L → List ℕ → Type 0
AppliedTo config k w c w1 c1 = (plan : Commands) → Standing config plan w c → Went config plan w c w1 c1 (OneByOne (ApplierEnd config plan) (from_up 0 k) (recorded w) (recorded w1))

pub applied_none : {L : Type 0} (config : Config) (w : WorldState L) (c : List ℕ) → AppliedTo config 0 w c w c
applied_none config w c plan standing = went_none config plan w c (OneByOne (ApplierEnd config plan) (from_up 0 0) (recorded w) (recorded w)) standing (up_at_first (ApplierEnd config plan) 0 (recorded w))

pub applied_all : {L : Type 0} (config : Config) (k : ℕ) (w w1 : WorldState L) (c c1 : List ℕ) → k ≡ config.tablets → AppliedTo config k w c w1 c1 → (plan : Commands) → Standing config plan w c → Went config plan w c w1 c1 (AppliersEnded config plan (recorded w) (recorded w1))
applied_all config k w w1 c c1 is so_far plan standing =
    went_as (AppliersEnded config plan (recorded w) (recorded w1)) (so_far plan standing) (subst (λ (n : ℕ). OneByOne (ApplierEnd config plan) (from_up 0 n) (recorded w) (recorded w1)) is)

zero_and : (k : ℕ) → k ≡ 0 + k
zero_and k = omega arith

pub applied_more : {L : Type 0} (config : Config) (k : ℕ) (w w1 w2 : WorldState L) (c c1 c2 : List ℕ) → AppliedTo config k w c w1 c1 →
    Way w1 c1 w2 c2 (λ (config : Config) (plan : Commands). MovedToEnd (given_by plan) config (Applier k) (recorded w1) (recorded w2)) → AppliedTo config (k + 1) w c w2 c2
applied_more config k w w1 w2 c c1 c2 so_far last plan standing =
    let went = so_far plan standing in
    went_over (OneByOne (ApplierEnd config plan) (from_up 0 (k + 1)) (recorded w) (recorded w2)) went (last config plan went.standing)
    (λ all one. one_up (ApplierEnd config plan) 0 k k (recorded w) (recorded w1) (recorded w2) (zero_and k) all one)

-- ## passes by tablet

abbrev pub Pass : ℕ → History → History → Type 0
Pass k g h = MovedUntilTold (Applier k) g h

abbrev pub PassedTo : {L : Type 0} → Config → ℕ → WorldState L → List ℕ → WorldState L → List ℕ → Type 0
PassedTo config k w c w1 c1 = (plan : Commands) → Standing config plan w c → Went config plan w c w1 c1 (OneByOne Pass (from_up 0 k) (recorded w) (recorded w1))

pub passed_none : {L : Type 0} (config : Config) (w : WorldState L) (c : List ℕ) → PassedTo config 0 w c w c
passed_none config w c plan standing = went_none config plan w c (OneByOne Pass (from_up 0 0) (recorded w) (recorded w)) standing (up_at_first Pass 0 (recorded w))

pub passed_more : {L : Type 0} (config : Config) (k : ℕ) (w w1 w2 : WorldState L) (c c1 c2 : List ℕ) → PassedTo config k w c w1 c1 →
    Way w1 c1 w2 c2 (λ (config : Config) (plan : Commands). MovedUntilTold (Applier k) (recorded w1) (recorded w2)) → PassedTo config (k + 1) w c w2 c2
passed_more config k w w1 w2 c c1 c2 so_far last plan standing =
    let went = so_far plan standing in
    went_over (OneByOne Pass (from_up 0 (k + 1)) (recorded w) (recorded w2)) went (last config plan went.standing)
    (λ all one. one_up Pass 0 k k (recorded w) (recorded w1) (recorded w2) (zero_and k) all one)

pub passed_all : {L : Type 0} (config : Config) (k : ℕ) (w w1 : WorldState L) (c c1 : List ℕ) → k ≡ config.tablets → PassedTo config k w c w1 c1 → (plan : Commands) → Standing config plan w c → Went config plan w c w1 c1 (PassesMade config (recorded w) (recorded w1))
passed_all config k w w1 c c1 is so_far plan standing =
    went_as (PassesMade config (recorded w) (recorded w1)) (so_far plan standing) (subst (λ (n : ℕ). OneByOne Pass (from_up 0 n) (recorded w) (recorded w1)) is)

pub pass_next : {L : Type 0} (config : Config) (k : ℕ) (w w1 : WorldState L) (c c1 : List ℕ) → HasPasses config w c → PassedTo config k w c w1 c1 → k < config.tablets → HasNext w1 c1 (Applier k)
pass_next config k w w1 c c1 has so_far there =
    let went = so_far has.plan has.standing in
    record {
      config = config;
      plan = has.plan;
      standing = went.standing;
      left = can_begin config has.plan has.number k (recorded w) (recorded w1) went.standing.stands.world.run.1 has.can there went.so;
    }

-- ## lines in their order

abbrev pub LineDone : ℕ → History → History → Type 0
LineDone i g h = MovedUntilTold (Session i) g h

abbrev pub LinesTo : {L : Type 0} → Config → Commands → ℕ → WorldState L → List ℕ → WorldState L → List ℕ → Type 0
LinesTo config plan i w c w1 c1 = Went config plan w c w1 c1 (OneByOne LineDone (take i plan.order) [] (recorded w1))

pub lines_none : {L : Type 0} (config : Config) (plan : Commands) (w : WorldState L) (c : List ℕ) → Standing config plan w c → recorded w ≡ [] → LinesTo config plan 0 w c w c
lines_none config plan w c standing first =
    went_none config plan w c (OneByOne LineDone (take 0 plan.order) [] (recorded w)) standing (subst (OneByOne LineDone (take 0 plan.order) []) (sym first) (none_taken LineDone plan.order []))

pub line_next : {L : Type 0} (config : Config) (plan : Commands) (n i : ℕ) (w w1 : WorldState L) (c c1 : List ℕ) → n < length plan.order → i ≡ get_or plan.order n i → LinesTo config plan n w c w1 c1 → HasNext w1 c1 (Session i)
line_next config plan n i w w1 c c1 within is so_far = record {
  config = config;
  plan = plan;
  standing = so_far.standing;
  left = lines_can_start config plan (take n plan.order) (drop (suc n) plan.order) i (recorded w1) so_far.standing.stands.runnable so_far.standing.stands.world.run (parts_at plan.order n i within is) so_far.so;
}

pub lines_more : {L : Type 0} (config : Config) (plan : Commands) (n i : ℕ) (w w1 w2 : WorldState L) (c c1 c2 : List ℕ) → n < length plan.order → i ≡ get_or plan.order n i → LinesTo config plan n w c w1 c1 →
    Way w1 c1 w2 c2 (λ (config : Config) (plan : Commands). MovedUntilTold (Session i) (recorded w1) (recorded w2)) → LinesTo config plan (n + 1) w c w2 c2
lines_more config plan n i w w1 w2 c c1 c2 within is so_far last =
    went_over (OneByOne LineDone (take (n + 1) plan.order) [] (recorded w2)) so_far (last config plan so_far.standing)
    (λ all one. one_taken LineDone plan.order n i [] (recorded w1) (recorded w2) within is all one)

-- ## rounds of passes

-- all lines were done, then each session to its end, and then so many rounds of passes
abbrev pub RoundsTo : {L : Type 0} → Config → Commands → ℕ → WorldState L → List ℕ → WorldState L → List ℕ → Type 0
RoundsTo config plan r w c w1 c1 = Went config plan w c w1 c1 ((told : History) × (ended : History) × OneByOne LineDone plan.order [] told × OneByOne (SessionEnd config plan) plan.sessions told ended × OneByOne (λ (n : ℕ). PassesMade config) (from_up 1 r) ended (recorded w1))

pub rounds_none : {L : Type 0} (config : Config) (plan : Commands) (n : ℕ) (w w1 w2 : WorldState L) (c c1 c2 : List ℕ) → length plan.order ≤ n → LinesTo config plan n w c w1 c1 → Went config plan w1 c1 w2 c2 (SessionsEnded config plan (recorded w1) (recorded w2)) → RoundsTo config plan 0 w c w2 c2
rounds_none config plan n w w1 w2 c c1 c2 past lines_all ends_all =
    went_over ((told : History) × (ended : History) × OneByOne LineDone plan.order [] told × OneByOne (SessionEnd config plan) plan.sessions told ended × OneByOne (λ (m : ℕ). PassesMade config) (from_up 1 0) ended (recorded w2)) lines_all ends_all
    (λ all ends. (recorded w1, recorded w2, all_taken LineDone plan.order n [] (recorded w1) past all, ends, up_at_first (λ (m : ℕ). PassesMade config) 1 (recorded w2)))

pub round_next : {L : Type 0} (config : Config) (plan : Commands) (r : ℕ) (w w1 : WorldState L) (c c1 : List ℕ) → RoundsTo config plan r w c w1 c1 → r < config.passes → HasPasses config w1 c1
round_next config plan r w w1 c c1 so_far more =
    let so = so_far.so in
    record {
      plan = plan;
      number = r + 1;
      standing = so_far.standing;
      can = round_can_begin config plan r so.0 so.1 (recorded w1) so_far.standing.stands.world.run.1 so.2 so.3 so.4 more;
    }

pub rounds_more : {L : Type 0} (config : Config) (plan : Commands) (r : ℕ) (w w1 w2 : WorldState L) (c c1 c2 : List ℕ) → RoundsTo config plan r w c w1 c1 → ((p : Commands) → Standing config p w1 c1 → Went config p w1 c1 w2 c2 (PassesMade config (recorded w1) (recorded w2))) → RoundsTo config plan (r + 1) w c w2 c2
rounds_more config plan r w w1 w2 c c1 c2 so_far last =
    went_over ((told : History) × (ended : History) × OneByOne LineDone plan.order [] told × OneByOne (SessionEnd config plan) plan.sessions told ended × OneByOne (λ (m : ℕ). PassesMade config) (from_up 1 (r + 1)) ended (recorded w2)) so_far (last plan so_far.standing)
    (λ so one. (so.0, so.1, so.2, so.3, one_up (λ (m : ℕ). PassesMade config) 1 r (1 + r) so.1 (recorded w1) (recorded w2) refl so.4 one))

-- ## lines that move a mover

abbrev pub GoneBy : Config → Commands → GoLine → History → History → Type 0
GoneBy config plan l g h = MovedUpTo (given_by plan) config (actor_of l.who) l.count g h

abbrev pub GoneTo : {L : Type 0} → Config → Commands → ℕ → WorldState L → List ℕ → WorldState L → List ℕ → Type 0
GoneTo config plan i w c w1 c1 = Went config plan w c w1 c1 (OneByOne (GoneBy config plan) (take i plan.go) [] (recorded w1))

pub gone_none : {L : Type 0} (config : Config) (plan : Commands) (w : WorldState L) (c : List ℕ) → Standing config plan w c → recorded w ≡ [] → GoneTo config plan 0 w c w c
gone_none config plan w c standing first =
    went_none config plan w c (OneByOne (GoneBy config plan) (take 0 plan.go) [] (recorded w)) standing (subst (OneByOne (GoneBy config plan) (take 0 plan.go) []) (sym first) (none_taken (GoneBy config plan) plan.go []))

pub gone_more : {L : Type 0} (config : Config) (plan : Commands) (n : ℕ) (l : GoLine) (w w1 w2 : WorldState L) (c c1 c2 : List ℕ) → n < length plan.go → l ≡ get_or plan.go n l → GoneTo config plan n w c w1 c1 →
    Way w1 c1 w2 c2 (λ (config : Config) (plan : Commands). MovedUpTo (given_by plan) config (actor_of l.who) l.count (recorded w1) (recorded w2)) → GoneTo config plan (n + 1) w c w2 c2
gone_more config plan n l w w1 w2 c c1 c2 within is so_far last =
    went_over (OneByOne (GoneBy config plan) (take (n + 1) plan.go) [] (recorded w2)) so_far (last config plan so_far.standing)
    (λ all one. one_taken (GoneBy config plan) plan.go n l [] (recorded w1) (recorded w2) within is all one)

pub all_gone : (config : Config) (plan : Commands) (n : ℕ) (gone ended h : History) → length plan.go ≤ n → OneByOne (GoneBy config plan) (take n plan.go) [] gone → SessionsEnded config plan gone ended → AppliersEnded config plan ended h → GoCourse config plan h
all_gone config plan n gone ended h past lines_all sessions appliers = (
  gone,
  all_taken (GoneBy config plan) plan.go n [] gone past lines_all,
  one_over (MovedToEnd (given_by plan) config) (map (λ (p : SessionPlan). Session p.session) plan.sessions) (map Applier (from_up 0 config.tablets)) gone ended h
      (one_mapped (MovedToEnd (given_by plan) config) (λ (p : SessionPlan). Session p.session) plan.sessions gone ended sessions)
      (one_mapped (MovedToEnd (given_by plan) config) Applier (from_up 0 config.tablets) ended h appliers),
)

-- A mover that is moved in a loop: what holds between two moves.
use Rattle.std.proofs.Common.{◌≡◌, ℕ, ◌+◌, ◌-◌, ◌^◌, ◌<◌, ◌≤◌, Bool, true, false, List, length, sym, ◌∙◌, inl, inr, arith}
use Rattle.txn_data.specs.declared.actor.Actor.{Actor}
use Rattle.txn_data.specs.declared.commands.Commands.{Commands}
use Rattle.txn_data.specs.declared.config.Config.{Config}
use Rattle.tablet_log.specs.Logged.{Store}
use Rattle.mover_chain.specs.NextEvent.{Given, given_by, has_event}
use Rattle.law_schedules.specs.Courses.{Moved, MovedToEnd, MovedUntilTold, MovedUntold, MovedUpTo, is_tell}
use Rattle.law_moves.specs.Moving.{MovedOnce}
use Rattle.law_moves.proofs.Loops.{has_next, longer, moved_first, moved_on, still_has, told_on, untold_first, untold_on}
use Rattle.world_core.specs.State.{WorldState}
use Rattle.world_core.specs.World.{recorded, StandsFor}
use Rattle.sim_schedule.specs.Stands.{HasNext, Stand, Standing, Went}
use Rattle.sim_schedule.proofs.Going.{went_none, went_over}

-- whatever the simulation stood for before, it stands for it now, and it went on so
abbrev pub Way : {L : Type 0} → WorldState L → List ℕ → WorldState L → List ℕ → (Config → Commands → Type 0) → Type 0
Way w c w' c' so = (config : Config) (plan : Commands) → Standing config plan w c → Went config plan w c w' c' (so config plan)

-- whether a mover has an event left is this
abbrev pub Left : {L : Type 0} → WorldState L → Actor → Bool → Type 0
Left {L} w a b = (config : Config) (given : Given) (start : Actor → Store) (spare : List L) → StandsFor config given start spare w → b ≡ has_event given config a (recorded w)

abbrev pub Once : {L : Type 0} → WorldState L → WorldState L → Actor → Config → Commands → Type 0
Once w w' a config plan = MovedOnce a (recorded w) (recorded w')

abbrev pub Nothing : Config → Commands → Type 0
Nothing config plan = Unit {0}

has_at : {L : Type 0} (w : WorldState L) (c : List ℕ) (a : Actor) (b : Bool) (config : Config) (plan : Commands) → Left w a b → Standing config plan w c → b ≡ has_event (given_by plan) config a (recorded w)
has_at w c a b config plan left standing = left config (given_by plan) standing.start standing.spare standing.stands.world

pub way_lost : {L : Type 0} (w w1 w2 : WorldState L) (c c1 c2 : List ℕ) (P Q : Config → Commands → Type 0) → Way w c w1 c1 P → Way w1 c1 w2 c2 Q → Way w c w2 c2 Nothing
way_lost w w1 w2 c c1 c2 P Q first second config plan standing =
    let went = first config plan standing in
    went_over (Unit {0}) went (second config plan went.standing) (λ p q. tt)

-- a way leaves some cluster and plan that the simulation stands for
pub way_stand : {L : Type 0} (w w1 : WorldState L) (c c1 : List ℕ) (P : Config → Commands → Type 0) → Stand w c → Way w c w1 c1 P → Stand w1 c1
way_stand w w1 c c1 P stand way = record { config = stand.config; plan = stand.plan; standing = (way stand.config stand.plan stand.standing).standing }

pub next_left : {L : Type 0} (w : WorldState L) (c : List ℕ) (a : Actor) (b : Bool) → Stand w c → Left w a b → b ≡ true → HasNext w c a
next_left w c a b stand left is = record {
  config = stand.config;
  plan = stand.plan;
  standing = stand.standing;
  left = has_next (given_by stand.plan) stand.config a (recorded w) (sym (has_at w c a b stand.config stand.plan left stand.standing) ∙ is);
}

-- a history that grows has less room
pub less_room : {L : Type 0} (w w' : WorldState L) (c c' : List ℕ) (a : Actor) → HasNext w c a → Way w c w' c' (Once w w' a) → length (recorded w) < 2 ^ 64 → 2 ^ 64 - length (recorded w') < 2 ^ 64 - length (recorded w)
less_room w w' c c' a has once fits =
    let grown = longer a (recorded w) (recorded w') (once has.config has.plan has.standing).so in
    omega (arith, grown, fits)

-- ## so often, while it has an event left

abbrev pub MovedSo : {L : Type 0} → WorldState L → WorldState L → Actor → ℕ → Config → Commands → Type 0
MovedSo w w' a n config plan = Moved (given_by plan) config a n (recorded w) (recorded w')

pub moved_none : {L : Type 0} (w : WorldState L) (c : List ℕ) (a : Actor) → Way w c w c (MovedSo w w a 0)
moved_none w c a config plan standing = went_none config plan w c (MovedSo w w a 0 config plan) standing (moved_first (given_by plan) config a (recorded w))

pub moved_more : {L : Type 0} (w w1 w2 : WorldState L) (c c1 c2 : List ℕ) (a : Actor) (n : ℕ) (b : Bool) → Way w c w1 c1 (MovedSo w w1 a n) → Left w1 a b → b ≡ true → Way w1 c1 w2 c2 (Once w1 w2 a) → Way w c w2 c2 (MovedSo w w2 a (n + 1))
moved_more w w1 w2 c c1 c2 a n b way left is once config plan standing =
    let went = way config plan standing in
    went_over (MovedSo w w2 a (n + 1) config plan) went (once config plan went.standing)
    (λ moved last. moved_on (given_by plan) config a n (recorded w) (recorded w1) (recorded w2) moved (sym (has_at w1 c1 a b config plan left went.standing) ∙ is) last)

pub moved_up_to : {L : Type 0} (w w1 : WorldState L) (c c1 : List ℕ) (a : Actor) (n most : ℕ) (b : Bool) → Way w c w1 c1 (MovedSo w w1 a n) → n ≤ most → Left w1 a b → b ≡ false → Way w c w1 c1 (λ (config : Config) (plan : Commands). MovedUpTo (given_by plan) config a most (recorded w) (recorded w1))
moved_up_to w w1 c c1 a n most b way few left is config plan standing =
    let went = way config plan standing in
    record { stands = went.stands; standing = went.standing; so = (n, went.so, inr (few, sym (has_at w1 c1 a b config plan left went.standing) ∙ is)) }

pub moved_all : {L : Type 0} (w w1 : WorldState L) (c c1 : List ℕ) (a : Actor) (n most : ℕ) → Way w c w1 c1 (MovedSo w w1 a n) → n ≡ most → Way w c w1 c1 (λ (config : Config) (plan : Commands). MovedUpTo (given_by plan) config a most (recorded w) (recorded w1))
moved_all w w1 c c1 a n most way all config plan standing =
    let went = way config plan standing in
    record { stands = went.stands; standing = went.standing; so = (n, went.so, inl all) }

-- ## to its end

abbrev pub MovedSome : {L : Type 0} → WorldState L → WorldState L → Actor → Config → Commands → Type 0
MovedSome w w' a config plan = (n : ℕ) × Moved (given_by plan) config a n (recorded w) (recorded w')

pub some_none : {L : Type 0} (w : WorldState L) (c : List ℕ) (a : Actor) → Way w c w c (MovedSome w w a)
some_none w c a config plan standing = went_none config plan w c (MovedSome w w a config plan) standing (0, moved_first (given_by plan) config a (recorded w))

pub some_more : {L : Type 0} (w w1 w2 : WorldState L) (c c1 c2 : List ℕ) (a : Actor) (b : Bool) → Way w c w1 c1 (MovedSome w w1 a) → Left w1 a b → b ≡ true → Way w1 c1 w2 c2 (Once w1 w2 a) → Way w c w2 c2 (MovedSome w w2 a)
some_more w w1 w2 c c1 c2 a b way left is once config plan standing =
    let went = way config plan standing in
    went_over (MovedSome w w2 a config plan) went (once config plan went.standing)
    (λ moved last. (moved.0 + 1, moved_on (given_by plan) config a moved.0 (recorded w) (recorded w1) (recorded w2) moved.1 (sym (has_at w1 c1 a b config plan left went.standing) ∙ is) last))

pub some_ends : {L : Type 0} (w w1 : WorldState L) (c c1 : List ℕ) (a : Actor) (b : Bool) → Way w c w1 c1 (MovedSome w w1 a) → Left w1 a b → b ≡ false → Way w c w1 c1 (λ (config : Config) (plan : Commands). MovedToEnd (given_by plan) config a (recorded w) (recorded w1))
some_ends w w1 c c1 a b way left is config plan standing =
    let went = way config plan standing in
    record { stands = went.stands; standing = went.standing; so = (went.so.0, went.so.1, sym (has_at w1 c1 a b config plan left went.standing) ∙ is) }

-- ## until it is told

abbrev pub Untold : {L : Type 0} → WorldState L → WorldState L → Actor → Config → Commands → Type 0
Untold w w' a config plan = (n : ℕ) × MovedUntold a n (recorded w) (recorded w')

pub untold_none : {L : Type 0} (w : WorldState L) (c : List ℕ) (a : Actor) → Way w c w c (Untold w w a)
untold_none w c a config plan standing = went_none config plan w c (Untold w w a config plan) standing (0, untold_first a (recorded w))

-- the entry that a move added tells it what its command came to, or not
abbrev pub LastTells : {L : Type 0} → WorldState L → WorldState L → Actor → Bool → Type 0
LastTells w w' a b = (once : MovedOnce a (recorded w) (recorded w')) → is_tell once.entry.event ≡ b

pub untold_more : {L : Type 0} (w w1 w2 : WorldState L) (c c1 c2 : List ℕ) (a : Actor) → Way w c w1 c1 (Untold w w1 a) → Way w1 c1 w2 c2 (Once w1 w2 a) → LastTells w1 w2 a false → Way w c w2 c2 (Untold w w2 a)
untold_more w w1 w2 c c1 c2 a way once silent config plan standing =
    let went = way config plan standing in
    went_over (Untold w w2 a config plan) went (once config plan went.standing)
    (λ moved last. (moved.0 + 1, untold_on a moved.0 (recorded w) (recorded w1) (recorded w2) moved.1 last (silent last)))

pub until_told : {L : Type 0} (w w1 w2 : WorldState L) (c c1 c2 : List ℕ) (a : Actor) → Way w c w1 c1 (Untold w w1 a) → Way w1 c1 w2 c2 (Once w1 w2 a) → LastTells w1 w2 a true → Way w c w2 c2 (λ (config : Config) (plan : Commands). MovedUntilTold a (recorded w) (recorded w2))
until_told w w1 w2 c c1 c2 a way once told config plan standing =
    let went = way config plan standing in
    went_over (MovedUntilTold a (recorded w) (recorded w2)) went (once config plan went.standing)
    (λ moved last. told_on a moved.0 (recorded w) (recorded w1) (recorded w2) moved.1 last (told last))

pub next_still : {L : Type 0} (w w' : WorldState L) (c c' : List ℕ) (a : Actor) → HasNext w c a → Way w c w' c' (Once w w' a) → LastTells w w' a false → HasNext w' c' a
next_still w w' c c' a has once silent =
    let went = once has.config has.plan has.standing in
    record {
      config = has.config;
      plan = has.plan;
      standing = went.standing;
      left = still_has (given_by has.plan) has.config a (recorded w) (recorded w') has.left went.standing.stands.world.run.1 went.so (silent went.so);
    }

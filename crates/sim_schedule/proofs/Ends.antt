-- A schedule from its first move to the last passes.
use Rattle.std.proofs.Common.{◌≡◌, ◌+◌, ◌≤◌, length, List, ℕ, Result, Ok, Err, OnOk, OnErr, sym, subst}
use Rattle.txn_data.specs.declared.commands.Commands.{Commands}
use Rattle.txn_data.specs.declared.config.Config.{Config}
use Rattle.txn_data.specs.declared.schedule.Schedule.{Schedule}
use Rattle.txn_data.specs.declared.schedule.Schedule.TheVariants.{Serial, Go, Drawn}
use Rattle.law_schedules.specs.Courses.{Course, CourseBy, GoCourse, PassesMade, SerialCourse}
use Rattle.law_moves.proofs.Over.{go_over, last_passes_can_begin, serial_over}
use Rattle.world_core.specs.State.{WorldState}
use Rattle.world_core.specs.World.{recorded}
use Rattle.sim_schedule.specs.Stands.{AppliersEnded, HasPasses, IsDrawn, IsOver, SessionsEnded, Went}
use Rattle.sim_schedule.proofs.Going.{went_as, went_over}
use Rattle.sim_schedule.proofs.Parts.{GoneTo, all_gone}

pub ok_map : {T E : Type 0} (r : Result T E) (P Q : Type 0) → (P → Q) → OnOk r P → OnOk r Q
ok_map (Ok x) P Q goes so = goes so
ok_map (Err e) P Q goes so = tt

pub err_of : {T E : Type 0} (r : Result T E) (P : Type 0) → P → OnErr r P
err_of (Ok x) P so = tt
err_of (Err e) P so = so

pub serial_is_over : {L T E : Type 0} (config : Config) (plan : Commands) (r : Result T E) (w w1 : WorldState L) (c c1 : List ℕ) → config.schedule ≡ Serial → Went config plan w c w1 c1 (OnOk r (SerialCourse config plan (recorded w1))) → Went config plan w c w1 c1 (OnOk r (IsOver config plan (recorded w1)))
serial_is_over config plan r w w1 c c1 is went =
    went_as (OnOk r (IsOver config plan (recorded w1))) went (ok_map r (SerialCourse config plan (recorded w1)) (IsOver config plan (recorded w1)) (λ course. record {
      chosen = subst (λ (s : Schedule). CourseBy s config plan (recorded w1)) (sym is) course;
      none = serial_over config plan (recorded w1) went.standing.stands.world.run.1 course;
    }))

pub go_is_over : {L T E : Type 0} (config : Config) (plan : Commands) (r : Result T E) (w w1 : WorldState L) (c c1 : List ℕ) → config.schedule ≡ Go → Went config plan w c w1 c1 (OnOk r (GoCourse config plan (recorded w1))) → Went config plan w c w1 c1 (OnOk r (IsOver config plan (recorded w1)))
go_is_over config plan r w w1 c c1 is went =
    went_as (OnOk r (IsOver config plan (recorded w1))) went (ok_map r (GoCourse config plan (recorded w1)) (IsOver config plan (recorded w1)) (λ course. record {
      chosen = subst (λ (s : Schedule). CourseBy s config plan (recorded w1)) (sym is) course;
      none = go_over config plan (recorded w1) course;
    }))

pub drawn_is_over : {L T E : Type 0} (config : Config) (plan : Commands) (r : Result T E) (w w1 : WorldState L) (c c1 : List ℕ) → config.schedule ≡ Drawn → Went config plan w c w1 c1 (OnOk r (IsDrawn config plan (recorded w1))) → Went config plan w c w1 c1 (OnOk r (IsOver config plan (recorded w1)))
drawn_is_over config plan r w w1 c c1 is went =
    went_as (OnOk r (IsOver config plan (recorded w1))) went (ok_map r (IsDrawn config plan (recorded w1)) (IsOver config plan (recorded w1)) (λ drawn. record {
      chosen = subst (λ (s : Schedule). CourseBy s config plan (recorded w1)) (sym is) drawn.course;
      none = drawn.none;
    }))

pub last_has : {L : Type 0} (config : Config) (plan : Commands) (w w1 : WorldState L) (c c1 : List ℕ) → Went config plan w c w1 c1 (IsOver config plan (recorded w1)) → HasPasses config w1 c1
last_has config plan w w1 c c1 went = record {
  plan = plan;
  number = config.passes + 1;
  standing = went.standing;
  can = last_passes_can_begin config plan (recorded w1) went.standing.stands.world.run went.so.chosen went.so.none;
}

pub all_made : {L T E : Type 0} (config : Config) (plan : Commands) (r : Result T E) (w w1 w2 : WorldState L) (c c1 c2 : List ℕ) → Went config plan w c w1 c1 (IsOver config plan (recorded w1)) → Went config plan w1 c1 w2 c2 (OnOk r (PassesMade config (recorded w1) (recorded w2))) →
    Went config plan w c w2 c2 (OnOk r (Course config plan (recorded w2)))
all_made config plan r w w1 w2 c c1 c2 first last =
    went_over (OnOk r (Course config plan (recorded w2))) first last (λ over. ok_map r (PassesMade config (recorded w1) (recorded w2)) (Course config plan (recorded w2)) (λ made.
    record { before = recorded w1; chosen = over.chosen; none_left = over.none; last = made }))

pub gone_all : {L T E : Type 0} (config : Config) (plan : Commands) (r : Result T E) (n : ℕ) (w w1 w2 w3 : WorldState L) (c c1 c2 c3 : List ℕ) → length plan.go ≤ n → GoneTo config plan n w c w1 c1 → Went config plan w1 c1 w2 c2 (SessionsEnded config plan (recorded w1) (recorded w2)) →
    Went config plan w2 c2 w3 c3 (OnOk r (AppliersEnded config plan (recorded w2) (recorded w3))) → Went config plan w c w3 c3 (OnOk r (GoCourse config plan (recorded w3)))
gone_all config plan r n w w1 w2 w3 c c1 c2 c3 past lines_all sessions appliers =
    went_over (OnOk r (GoCourse config plan (recorded w3))) lines_all (went_over (OnOk r (AppliersEnded config plan (recorded w2) (recorded w3))) sessions appliers (λ first second. second))
    (λ gone. ok_map r (AppliersEnded config plan (recorded w2) (recorded w3)) (GoCourse config plan (recorded w3)) (all_gone config plan n (recorded w1) (recorded w2) (recorded w3) past gone sessions.so))

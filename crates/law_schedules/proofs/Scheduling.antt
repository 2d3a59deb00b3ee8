-- A run that was made by a schedule has the moves that the schedule names.
use Rattle.std.proofs.Common.{◌≡◌, ℕ, ◌+◌, List, [], ◌∷◌, ◌++◌, flat_map, length, nat_eq, if◌then◌else◌, refl, sym, ◌∙◌, ap, subst, inl, inr, arith}
use Rattle.txn_data.specs.declared.actor.Actor.{Actor}
use Rattle.txn_data.specs.declared.actor.Actor.TheVariants.{Session}
use Rattle.txn_data.specs.declared.config.Config.{Config}
use Rattle.txn_data.specs.declared.commands.Commands.{Commands}
use Rattle.txn_data.specs.declared.session_plan.SessionPlan.{SessionPlan}
use Rattle.txn_data.specs.declared.schedule.Schedule.{Schedule}
use Rattle.txn_data.specs.declared.schedule.Schedule.TheVariants.{Serial, Go, Drawn}
use Rattle.txn_types.specs.Lists.{Member}
use Rattle.txn_types.specs.History.{History}
use Rattle.txn_types.specs.Plan.{AreRising}
use Rattle.txn_types.specs.Script.{commands_of, count, from_up, in_line_order, IsRunnable, moves, moves_by, movers, passes_at, to_their_ends, turns}
use Rattle.law_machines.proofs.Basics.{eq_cases, eq_refl}
use Rattle.mover_chain.specs.NextEvent.{given_by}
use Rattle.law_schedules.specs.Courses.{at_work, CourseBy, MovedToEnd, PassesMade}
use Rattle.law_schedules.specs.Laws.{CoursesAreScheduled}
use Rattle.law_schedules.proofs.Moving.{append_more, steps_stood}
use Rattle.law_schedules.proofs.Passing.{one_stood, passes_stood, rounds}
use Rattle.law_schedules.proofs.Ordering.{count_first, lines_made}
use Rattle.law_schedules.proofs.Ending.{above, EndOf, end_stood, ends_made, PartOf, part_before, rising_rest}
use Rattle.law_schedules.proofs.Going.{all_drawn, gone_on, gone_to_ends}
use Rattle.law_schedules.proofs.Few.{idle_first, none_begun, still_after_ends}
use Rattle.law_schedules.proofs.Doing.{courses_do_all, last_passed}

commands_step : (i : ℕ) (q : SessionPlan) (qs : List SessionPlan) → commands_of i (q ∷ qs) ≡ (if nat_eq q.session i then q.commands else commands_of i qs)
unfolding commands_of
commands_step i q qs = refl

-- the commands of a session are those of its plan
commands_at : (ps : List SessionPlan) (p : SessionPlan) → AreRising ps → Member p ps → commands_of p.session ps ≡ p.commands
commands_at [] p rising at = absurd at
commands_at (q ∷ qs) p rising (inl same) = commands_step p.session q qs ∙ subst (λ (x : SessionPlan). (if nat_eq x.session p.session then x.commands else commands_of p.session qs) ≡ p.commands) same (rw (eq_refl p.session) refl)
commands_at (q ∷ qs) p rising (inr more) = commands_step p.session q qs ∙ elim (eq_cases q.session p.session) [
  | inl same ↦ absurd (let low = above q qs p rising more in let is = same.1 in omega (arith, low, is))
  | inr other ↦ rw other.0 (commands_at qs p (rising_rest q qs rising) more)
]

serial_moves : (config : Config) (plan : Commands) (h whole : History) → IsRunnable config plan → PartOf config plan h whole → CourseBy Serial config plan h → moves h ≡ moves_by Serial config plan whole
serial_moves config plan h whole runnable part (told, ended, lines_all, ends_all, rounds_all) =
    let late = one_stood (λ (n : ℕ). PassesMade config) (λ n. passes_stood config) (from_up 1 config.passes) ended h rounds_all in
    let mid = one_stood (EndOf plan config) (λ p. end_stood config plan (Session p.session)) plan.sessions told ended ends_all in
    let part_ended = part_before config plan ended h whole late part in
    let part_told = part_before config plan told ended whole mid part_ended in
    let made = lines_made config whole [] plan.order [] told part_told.stood part.run.1 (λ i. (idle_first config (Session i), none_begun (Session i) ∙ sym (count_first i))) lines_all in
    let ends = ends_made config plan plan.sessions told ended whole part_ended runnable.lines.rising
    (λ p member. let is = commands_at plan.sessions p runnable.lines.rising member in
    (is, ((made.after p.session).0, (made.after p.session).1 ∙ ap (λ n. n + count p.session plan.order) (count_first p.session) ∙ nothing (count p.session plan.order) ∙ runnable.order p.session ∙ ap length is)))
    ends_all in
    let passes = rounds config whole 1 config.passes ended h part.stood part.run.1
    (λ k within. let still = still_after_ends config plan k told ended (steps_stood config ended whole part_ended.stood part.run.1) lines_all ends_all in (still.0, let none = still.1 in omega (arith, none)))
    rounds_all in
    passes.moves
    ∙ ap (λ (l : List Actor). l ++ flat_map (passes_at config whole) (from_up 1 config.passes)) (ends.moves ∙ ap (λ (l : List Actor). l ++ flat_map (λ (p : SessionPlan). turns whole (Session p.session) (length p.commands + 1)) plan.sessions) made.moves)
    ∙ append_more (in_line_order whole [] plan.order) (flat_map (λ (p : SessionPlan). turns whole (Session p.session) (length p.commands + 1)) plan.sessions) (flat_map (passes_at config whole) (from_up 1 config.passes))
  where
    nothing : (n : ℕ) → 0 + n ≡ n
    nothing n = omega arith

go_moves : (config : Config) (plan : Commands) (h whole : History) → PartOf config plan h whole → CourseBy Go config plan h → moves h ≡ moves_by Go config plan whole
go_moves config plan h whole part (gone, lines_all, ends_all) =
    let late = one_stood (MovedToEnd (given_by plan) config) (end_stood config plan) (movers config plan) gone h ends_all in
    sym (ap (λ (done : List Actor). to_their_ends config whole done (movers config plan)) (gone_on config plan plan.go [] gone whole (part_before config plan gone h whole late part) lines_all)
    ∙ gone_to_ends config plan (movers config plan) gone h whole part ends_all)

by_schedule : (schedule : Schedule) (config : Config) (plan : Commands) (h whole : History) → IsRunnable config plan → PartOf config plan h whole → at_work config plan h ≡ [] → CourseBy schedule config plan h → moves h ≡ moves_by schedule config plan whole
by_schedule Serial config plan h whole runnable part none course = serial_moves config plan h whole runnable part course
by_schedule Go config plan h whole runnable part none course = go_moves config plan h whole part course
by_schedule Drawn config plan h whole runnable part none course = sym (all_drawn config plan course.0 h whole part course.1 none)

pub courses_are_scheduled : CoursesAreScheduled
courses_are_scheduled config plan h runnable run follows course =
    let all = courses_do_all config plan h runnable run follows course in
    let part : PartOf config plan course.before h = record { stood = passes_stood config course.before h course.last; run = run; all = all } in
    (last_passed config plan h course run.1).moves
    ∙ ap (λ (l : List Actor). l ++ passes_at config h (config.passes + 1)) (by_schedule config.schedule config plan course.before h runnable part course.none_left course.chosen)

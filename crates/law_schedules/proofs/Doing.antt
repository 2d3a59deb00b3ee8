-- A run that was made by a schedule does all of its plan.
use Rattle.std.proofs.Common.{◌≡◌, ℕ, zero, suc, ◌+◌, ◌<◌, ◌≤◌, true, false, List, [], ◌∷◌, ◌++◌, Option, Some, None, drop, length, map, refl, sym, ◌∙◌, ap, subst, inl, inr, arith}
use Rattle.std.proofs.Math.Seq.{drop-append_seam}
use Rattle.std.proofs.lemmas.Bool.{lt-ltb, ltb-true, ltb-false}
use Rattle.std.proofs.lemmas.List.{append-nil}
use Rattle.txn_data.specs.declared.actor.Actor.{Actor}
use Rattle.txn_data.specs.declared.actor.Actor.TheVariants.{Session, Applier}
use Rattle.txn_data.specs.declared.config.Config.{Config}
use Rattle.txn_data.specs.declared.command.Command.{Command}
use Rattle.txn_data.specs.declared.commands.Commands.{Commands}
use Rattle.txn_data.specs.declared.session_plan.SessionPlan.{SessionPlan}
use Rattle.txn_types.specs.Lists.{Member}
use Rattle.txn_types.specs.History.{History}
use Rattle.txn_types.specs.Session.{Opened}
use Rattle.txn_types.specs.Run.{mover_at, Steps}
use Rattle.txn_types.specs.Script.{AllTold, ClosedAfter, commands_of, Follows, from_up, lines, movers, started}
use Rattle.law_machines.proofs.Basics.{eq_cases, eq_refl, member_filter, member_left, member_map, member_right, test_cases}
use Rattle.mover_chain.specs.NextEvent.{given_by, has_event, is_left, session_starts}
use Rattle.mover_chain.proofs.Counted.{IsIdle}
use Rattle.mover_chain.proofs.Fronts.{Front, front_of}
use Rattle.mover_chain.proofs.States.{Same, applier_has, applier_left, session_has, session_left}
use Rattle.law_schedules.specs.Courses.{at_work, Course, CourseBy}
use Rattle.law_schedules.specs.Laws.{CoursesDoAll}
use Rattle.law_schedules.proofs.Moving.{stood_self, steps_stood}
use Rattle.law_schedules.proofs.Passing.{all_passed, IsTablet, Passed, passes_stood}
use Rattle.law_schedules.proofs.Few.{few_by}

-- ## no mover has an event left

pub none_at : (config : Config) (plan : Commands) (h : History) (a : Actor) → at_work config plan h ≡ [] → Member a (movers config plan) → has_event (given_by plan) config a h ≡ false
none_at config plan h a none member = elim (test_cases (has_event (given_by plan) config a h)) [
  | inr over ↦ over
  | inl some ↦ absurd (subst (λ (names : List Actor). Member a names) none (member_filter (λ (b : Actor). has_event (given_by plan) config b h) a (movers config plan) member some))
]

up_member : (m t k : ℕ) → m ≤ k → k < m + t → Member k (from_up m t)
unfolding from_up
up_member m zero k low high = absurd (omega (arith, low, high))
up_member m (suc t) k low high = elim (eq_cases m k) [
  | inl same ↦ inl (sym same.1)
  | inr other ↦ let not = other.1 in inr (up_member (m + 1) t k (above m k low not) (omega (arith, high)))
]
  where
    above : (i j : ℕ) → i ≤ j → (i ≡ j → ⊥) → i + 1 ≤ j
    above i j le not = omega (arith, le, not)

pub session_in : (config : Config) (plan : Commands) (p : SessionPlan) → Member p plan.sessions → Member (Session p.session) (movers config plan)
session_in config plan p member = member_left (Session p.session) (map (λ (q : SessionPlan). Session q.session) plan.sessions) (map Applier (from_up 0 config.tablets)) (member_map (λ (q : SessionPlan). Session q.session) p plan.sessions member)

pub applier_in : (config : Config) (plan : Commands) (k : ℕ) → k < config.tablets → Member (Applier k) (movers config plan)
applier_in config plan k there = member_right (Applier k) (map (λ (q : SessionPlan). Session q.session) plan.sessions) (map Applier (from_up 0 config.tablets)) (member_map Applier k (from_up 0 config.tablets) (up_member 0 config.tablets k (omega arith) (omega (arith, there))))

-- ## sessions

closed : (begun planned : List Command) (opened : Option Opened) → Front begun planned → is_left (session_starts true begun planned opened) ≡ false → ClosedAfter begun planned opened
closed begun planned opened (inr all) over = by_opened opened
  where
    by_opened : (o : Option Opened) → ClosedAfter begun planned o
    by_opened None = inr all
    by_opened (Some x) = all
closed begun planned opened (inl front) over = by_more front.0 front.1
  where
    rest : (more : List Command) → begun ++ more ≡ planned → drop (length begun) planned ≡ more
    rest more is = ap (drop (length begun)) (sym is) ∙ drop-append_seam begun more

    by_opened : (o : Option Opened) → begun ≡ planned → is_left (session_starts true begun planned o) ≡ false → drop (length begun) planned ≡ [] → ClosedAfter begun planned o
    by_opened None same none empty = inl same
    by_opened (Some x) same none empty =
        absurd (let some : is_left (session_starts true begun planned (Some x)) ≡ true = rw empty (rw same (rw (eq_refl (length planned)) refl)) in let never : true ≡ false = sym some ∙ none in cc)

    by_more : (more : List Command) → begun ++ more ≡ planned → ClosedAfter begun planned opened
    by_more [] is = by_opened opened (sym (append-nil begun) ∙ is) over (rest [] is)
    by_more (x ∷ xs) is = absurd (let some : is_left (session_starts true begun planned opened) ≡ true = rw (rest (x ∷ xs) is) refl in let never : true ≡ false = sym some ∙ over in cc)

told_by_line : (line : Option Command) (begun planned : List Command) (opened : Option Opened) → Front begun planned → session_left line begun planned opened ≡ false → (line ≡ None) × ClosedAfter begun planned opened
told_by_line (Some l) begun planned opened front over = absurd (let never : true ≡ false = over in cc)
told_by_line None begun planned opened front over = (refl, closed begun planned opened front over)

session_told : (config : Config) (plan : Commands) (i : ℕ) (g h : History) → Same config (Session i) g h → Follows plan h → has_event (given_by plan) config (Session i) g ≡ false → AllTold config plan i h
session_told config plan i g h same follows over =
    let front = front_of (lines (Session i) h) (commands_of i plan.sessions) (follows i) in
    told_by_line (mover_at config (Session i) h).line (lines (Session i) h) (commands_of i plan.sessions) (mover_at config (Session i) h).keeps.opened front
    (rw same.line (rw same.begun (rw same.opened (sym (session_has config plan i g) ∙ over))))

-- ## appliers

passes_all : (passes begun : ℕ) (line : Option Command) → applier_left passes begun line ≡ false → begun ≤ passes → (line ≡ None) × (begun ≡ passes)
passes_all passes begun (Some l) over few = absurd (let many = ltb-false begun (passes + 1) over in omega (arith, many, few))
passes_all passes begun None over few = (refl, let many = ltb-false begun passes over in omega (arith, many, few))

-- where a schedule has come to its end, each applier has made its passes beside the sessions
pub passes_beside : (config : Config) (plan : Commands) (h : History) → Steps config h → CourseBy config.schedule config plan h → at_work config plan h ≡ [] → (k : ℕ) → k < config.tablets → IsIdle config (Applier k) h × (started (Applier k) h ≡ config.passes)
passes_beside config plan h steps chosen none k there =
    let few = few_by config.schedule config plan k h steps there chosen in
    let over = sym (applier_has config plan k h (lt-ltb k config.tablets there)) ∙ none_at config plan h (Applier k) none (applier_in config plan k there) in
    passes_all config.passes (started (Applier k) h) (mover_at config (Applier k) h).line over few

passes_done : (config : Config) (plan : Commands) (h : History) (course : Course config plan h) → Steps config h → (k : ℕ) → IsTablet 0 config.tablets k → IsIdle config (Applier k) course.before × (started (Applier k) course.before + 1 ≡ config.passes + 1)
passes_done config plan h course steps k within =
    let steps_then = steps_stood config course.before h (passes_stood config course.before h course.last) steps in
    let all = passes_beside config plan course.before steps_then course.chosen course.none_left k (let high = within.1 in omega (arith, high)) in
    (all.0, let same = all.1 in omega (arith, same))

pub last_passed : (config : Config) (plan : Commands) (h : History) (course : Course config plan h) → Steps config h → Passed config h (config.passes + 1) 0 config.tablets course.before h
last_passed config plan h course steps =
    all_passed config h (config.passes + 1) course.before h (stood_self h) steps (passes_done config plan h course steps) course.last

pub courses_do_all : CoursesDoAll
courses_do_all config plan h runnable run follows course =
    let made = last_passed config plan h course run.1 in
    record {
      follows = follows;
      sessions = λ p member. session_told config plan p.session course.before h (made.others (Session p.session) (λ k within. refl)) follows
          (none_at config plan course.before (Session p.session) course.none_left (session_in config plan p member));
      appliers = λ k there.
          let within : IsTablet 0 config.tablets k = (omega arith, let low = ltb-true k config.tablets there in omega (arith, low)) in
          let stands = made.after k within in
          record { passes = stands.1; told = stands.0; last = made.quiet k within };
    }

-- Before the last passes no applier began more passes than it makes beside the sessions.
use Rattle.std.proofs.Common.{◌≡◌, ℕ, zero, suc, ◌+◌, ◌%◌, ◌<◌, ◌≤◌, true, List, [], ◌∷◌, Option, Some, None, length, refl, sym, ◌∙◌, ap, subst, inl, inr, arith}
use Rattle.std.proofs.lemmas.Bool.{lt-ltb, ltb-true}
use Rattle.docdb_base.specs.Generator.{draw_of}
use Rattle.txn_data.specs.declared.actor.Actor.{Actor}
use Rattle.txn_data.specs.declared.actor.Actor.TheVariants.{Session, Applier}
use Rattle.txn_data.specs.declared.config.Config.{Config}
use Rattle.txn_data.specs.declared.command.Command.{Command}
use Rattle.txn_data.specs.declared.commands.Commands.{Commands}
use Rattle.txn_data.specs.declared.event.Event.{Event}
use Rattle.txn_data.specs.declared.event.Event.TheVariants.{Start, Ask, Serve, Hear, Tell, Restarted}
use Rattle.txn_data.specs.declared.entry.Entry.{Entry}
use Rattle.txn_data.specs.declared.schedule.Schedule.{Schedule}
use Rattle.txn_data.specs.declared.schedule.Schedule.TheVariants.{Serial, Go, Drawn}
use Rattle.txn_types.specs.Lists.{Member}
use Rattle.txn_types.specs.History.{History}
use Rattle.txn_types.specs.Run.{mover_at, IsUnderWay, Steps}
use Rattle.txn_types.specs.Script.{asker, at_position, drawn_of, from_up, movers, started}
use Rattle.law_machines.proofs.Basics.{filter_member, same_of, same_cases}
use Rattle.mover_chain.specs.Laws.{StoodBefore}
use Rattle.mover_chain.specs.NextEvent.{given_by, has_event}
use Rattle.mover_chain.proofs.Counted.{IsIdle, begun_still, moves_as}
use Rattle.mover_chain.proofs.Lines.{no_lines}
use Rattle.mover_chain.proofs.States.{Same, applier_has, applier_left, another_moves, own_allowed, steps_before}
use Rattle.law_schedules.specs.Courses.{at_work, CourseBy, DrawnTo, Moved, MovedToEnd, MovedUntilTold, OneByOne, PassesMade}
use Rattle.law_schedules.proofs.Moving.{by_other, moved_by, stood_self, steps_stood}
use Rattle.law_schedules.proofs.Counting.{begins}
use Rattle.law_schedules.proofs.Passing.{one_first, one_none, one_stood, passes_stood, rounds}
use Rattle.law_schedules.proofs.Ordering.{count_first, HasMade, lines_made}
use Rattle.law_schedules.proofs.Ending.{EndOf, end_stood}
use Rattle.law_schedules.proofs.Going.{LineMoved, line_stood}

abbrev pub FewPasses : Config → ℕ → History → Type 0
FewPasses config k h = started (Applier k) h ≤ config.passes

-- ## an entry of a mover that has an event left

never_both : (line : Option Command) → line ≡ None → IsUnderWay line → ⊥
never_both line none under = subst IsUnderWay none under

begun_under : (config : Config) (a : Actor) (e : Entry) (h : History) → Steps config (e ∷ h) → asker e ≡ a → IsUnderWay (mover_at config a h).line → started a (e ∷ h) ≡ started a h
begun_under config a e h steps mine under = by_event e.event refl
  where
    by_event : (event : Event) → e.event ≡ event → started a (e ∷ h) ≡ started a h
    by_event (Start number line) is =
        absurd (never_both (mover_at config a h).line (own_allowed config a e h (Start number line) (moves_as a e (Start number line) is (same_of (asker e) a mine)) is (steps_before config e h steps).1).0 under)
    by_event (Ask to asked) is = begun_still a e h (Ask to asked) is refl
    by_event (Hear from r) is = begun_still a e h (Hear from r) is refl
    by_event (Tell number t) is = begun_still a e h (Tell number t) is refl
    by_event (Serve from asked r time append) is = begun_still a e h (Serve from asked r time append) is refl
    by_event (Restarted from kept) is = begun_still a e h (Restarted from kept) is refl

few_own : (config : Config) (plan : Commands) (k : ℕ) (e : Entry) (h : History) → Steps config (e ∷ h) → k < config.tablets → asker e ≡ Applier k → has_event (given_by plan) config (Applier k) h ≡ true → FewPasses config k (e ∷ h)
few_own config plan k e h steps there mine some = by_line (mover_at config (Applier k) h).line refl
  where
    has : applier_left config.passes (started (Applier k) h) (mover_at config (Applier k) h).line ≡ true
    has = sym (applier_has config plan k h (lt-ltb k config.tablets there)) ∙ some

    by_line : (line : Option Command) → (mover_at config (Applier k) h).line ≡ line → FewPasses config k (e ∷ h)
    by_line None is =
        let one = begins config (Applier k) e h steps is (same_of (asker e) (Applier k) mine) in
        let few = ltb-true (started (Applier k) h) config.passes (subst (λ (l : Option Command). applier_left config.passes (started (Applier k) h) l ≡ true) is has) in
        omega (arith, one, few)
    by_line (Some l) is =
        let same = begun_under config (Applier k) e h steps mine (subst IsUnderWay (sym is) tt) in
        let few = ltb-true (started (Applier k) h) (config.passes + 1) (subst (λ (l' : Option Command). applier_left config.passes (started (Applier k) h) l' ≡ true) is has) in
        omega (arith, same, few)

pub few_step : (config : Config) (plan : Commands) (k : ℕ) (a : Actor) (e : Entry) (h : History) → Steps config (e ∷ h) → k < config.tablets → asker e ≡ a → has_event (given_by plan) config a h ≡ true → FewPasses config k h → FewPasses config k (e ∷ h)
few_step config plan k a e h steps there mine some few = elim (same_cases a (Applier k)) [
  | inl same ↦ few_own config plan k e h steps there (mine ∙ same.1) (subst (λ (b : Actor). has_event (given_by plan) config b h ≡ true) same.1 some)
  | inr other ↦ let kept = ap length (another_moves config (Applier k) e h (rw mine other.0)).begun in omega (arith, kept, few)
]

few_moved : (config : Config) (plan : Commands) (k : ℕ) (a : Actor) (n : ℕ) (g h : History) → Steps config h → k < config.tablets → Moved (given_by plan) config a n g h → FewPasses config k g → FewPasses config k h
unfolding Moved
few_moved config plan k a zero g h steps there moved few = subst (FewPasses config k) (sym moved) few
few_moved config plan k a (suc n) g [] steps there moved few = absurd moved
few_moved config plan k a (suc n) g (e ∷ h) steps there moved few =
    few_step config plan k a e h steps there moved.1 moved.2 (few_moved config plan k a n g h (steps_before config e h steps).0 there moved.0 few)

-- ## one after another

one_keeps : {X : Type 0} (config : Config) (moved : X → History → History → Type 0) (kept : History → Type 0) → ((x : X) (g h : History) → moved x g h → StoodBefore g h) →
    ((x : X) (g h : History) → Steps config h → moved x g h → kept g → kept h) → (xs : List X) (g h : History) → Steps config h → OneByOne moved xs g h → kept g → kept h
one_keeps config moved kept stood each [] g h steps all before = subst kept (sym (one_none moved g h all)) before
one_keeps config moved kept stood each (x ∷ xs) g h steps all before =
    let first = one_first moved x xs g h all in
    let late = one_stood moved stood xs first.0 h first.2 in
    one_keeps config moved kept stood each xs first.0 h steps first.2 (each x g first.0 (steps_stood config first.0 h late steps) first.1 before)

-- ## at first

pub none_begun : (a : Actor) → started a [] ≡ 0
none_begun a = ap length (no_lines a)

pub idle_first : (config : Config) (a : Actor) → IsIdle config a []
unfolding mover_at
idle_first config a = refl

few_first : (config : Config) (k : ℕ) → FewPasses config k []
few_first config k = let none = none_begun (Applier k) in omega (arith, none)

-- ## by schedule

pub at_first : (config : Config) (i : ℕ) → HasMade config 0 [] i
at_first config i = (idle_first config (Session i), none_begun (Session i))

same_kept : (config : Config) (k : ℕ) (g h : History) → Same config (Applier k) g h → IsIdle config (Applier k) g × (started (Applier k) g ≡ 0) → IsIdle config (Applier k) h × (started (Applier k) h ≡ 0)
same_kept config k g h same still = (same.line ∙ still.0, ap length same.begun ∙ still.1)

-- in line order no applier moves before all sessions are done
pub still_after_ends : (config : Config) (plan : Commands) (k : ℕ) (told ended : History) → Steps config ended → OneByOne (λ (i : ℕ). MovedUntilTold (Session i)) plan.order [] told →
    OneByOne (EndOf plan config) plan.sessions told ended → IsIdle config (Applier k) ended × (started (Applier k) ended ≡ 0)
still_after_ends config plan k told ended steps lines_all ends_all =
    let late = one_stood (EndOf plan config) (λ p. end_stood config plan (Session p.session)) plan.sessions told ended ends_all in
    let made = lines_made config told [] plan.order [] told (stood_self told) (steps_stood config told ended late steps) (λ i. ((at_first config i).0, (at_first config i).1 ∙ sym (count_first i))) lines_all in
    one_keeps config (EndOf plan config) (λ (h : History). IsIdle config (Applier k) h × (started (Applier k) h ≡ 0)) (λ p. end_stood config plan (Session p.session))
    (λ p g h now moved still. same_kept config k g h (by_other config (Session p.session) (Applier k) moved.0 g h refl (moved_by (given_by plan) config (Session p.session) moved.0 g h moved.1)) still)
    plan.sessions told ended steps ends_all
    (same_kept config k [] told (made.appliers k) (idle_first config (Applier k), none_begun (Applier k)))

few_serial : (config : Config) (plan : Commands) (k : ℕ) (h : History) → Steps config h → k < config.tablets → CourseBy Serial config plan h → FewPasses config k h
few_serial config plan k h steps there (told, ended, lines_all, ends_all, rounds_all) =
    let late = one_stood (λ (n : ℕ). PassesMade config) (λ n. passes_stood config) (from_up 1 config.passes) ended h rounds_all in
    let made = rounds config h 1 config.passes ended h (stood_self h) steps
    (λ j within. let still = still_after_ends config plan j told ended (steps_stood config ended h late steps) lines_all ends_all in (still.0, let none = still.1 in omega (arith, none)))
    rounds_all in
    let all = (made.after k (omega arith, omega (arith, there))).1 in
    omega (arith, all)

few_go : (config : Config) (plan : Commands) (k : ℕ) (h : History) → Steps config h → k < config.tablets → CourseBy Go config plan h → FewPasses config k h
few_go config plan k h steps there (gone, lines_all, ends_all) =
    let late = one_stood (MovedToEnd (given_by plan) config) (end_stood config plan) (movers config plan) gone h ends_all in
    one_keeps config (MovedToEnd (given_by plan) config) (FewPasses config k) (end_stood config plan)
    (λ a f g now moved few. few_moved config plan k a moved.0 f g now there moved.1 few) (movers config plan) gone h steps ends_all
    (one_keeps config (LineMoved plan config) (FewPasses config k) (line_stood config plan)
    (λ l f g now moved few. few_moved config plan k _ moved.0 f g now there moved.1 few) plan.go [] gone (steps_stood config gone h late steps) lines_all (few_first config k))

position_in : (n : ℕ) (names : List Actor) (a : Actor) → at_position n names ≡ a ∷ [] → Member a names
unfolding at_position
position_in n [] a is = absurd (let not : [] ≡ a ∷ [] = is in cc)
position_in zero (b ∷ more) a is = inl (let same : b ∷ [] ≡ a ∷ [] = is in cc)
position_in (suc n) (b ∷ more) a is = inr (position_in n more a is)

drawn_in : (draw : ℕ) (names : List Actor) (a : Actor) → drawn_of draw names ≡ a ∷ [] → Member a names
drawn_in draw [] a is = absurd (let not : [] ≡ a ∷ [] = is in cc)
drawn_in draw (b ∷ more) a is = position_in (draw % length (b ∷ more)) (b ∷ more) a is

few_drawn : (config : Config) (plan : Commands) (k state : ℕ) (h : History) → Steps config h → k < config.tablets → DrawnTo config plan state h → FewPasses config k h
unfolding DrawnTo
few_drawn config plan k state [] steps there drawn = few_first config k
few_drawn config plan k state (e ∷ h) steps there (before, earlier, next, one) =
    let at = filter_member (λ (a : Actor). has_event (given_by plan) config a h) (asker e) (movers config plan) (drawn_in (draw_of state) (at_work config plan h) (asker e) one) in
    few_step config plan k (asker e) e h steps there refl at.1 (few_drawn config plan k before h (steps_before config e h steps).0 there earlier)

pub few_by : (schedule : Schedule) (config : Config) (plan : Commands) (k : ℕ) (h : History) → Steps config h → k < config.tablets → CourseBy schedule config plan h → FewPasses config k h
few_by Serial config plan k h steps there course = few_serial config plan k h steps there course
few_by Go config plan k h steps there course = few_go config plan k h steps there course
few_by Drawn config plan k h steps there course = few_drawn config plan k course.0 h steps there course.1

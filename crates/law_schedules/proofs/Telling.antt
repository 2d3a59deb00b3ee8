-- A mover that is moved until it is told what its command came to.
use Rattle.std.proofs.Common.{◌≡◌, ℕ, zero, suc, ◌+◌, ◌≤◌, true, false, [], ◌∷◌, ◌++◌, Option, None, replicate, refl, sym, ◌∙◌, ap, subst, inl, inr, ◌⊎◌, arith}
use Rattle.std.proofs.lemmas.Bool.{and_parts}
use Rattle.txn_data.specs.declared.actor.Actor.{Actor}
use Rattle.txn_data.specs.declared.config.Config.{Config}
use Rattle.txn_data.specs.declared.command.Command.{Command}
use Rattle.txn_data.specs.declared.told.Told.{Told}
use Rattle.txn_data.specs.declared.event.Event.{Event}
use Rattle.txn_data.specs.declared.event.Event.TheVariants.{Start, Ask, Serve, Hear, Tell, Restarted}
use Rattle.txn_data.specs.declared.entry.Entry.{Entry}
use Rattle.txn_types.specs.History.{History, same_actor}
use Rattle.txn_types.specs.Run.{mover_at, Allowed, IsUnderWay, Steps}
use Rattle.txn_types.specs.Script.{asker, entries_of, started, moves, named, turns}
use Rattle.law_machines.proofs.Basics.{same_of}
use Rattle.mover_chain.specs.Laws.{StoodBefore}
use Rattle.mover_chain.proofs.Counted.{IsIdle, idle_makes_none, moves_as, begun_still}
use Rattle.mover_chain.proofs.States.{Same, mover_own, own_allowed, quiet_same, steps_before}
use Rattle.law_schedules.specs.Courses.{MovedUntold, MovedUntilTold, is_tell, tells}
use Rattle.law_schedules.proofs.Moving.{By, by_more, by_moves, by_named, by_other, by_stood, steps_stood, untold_by}
use Rattle.law_schedules.proofs.Counting.{all_of_one, begins, no_more}

-- ## entry by entry

pub under_begun : (config : Config) (a : Actor) (e : Entry) (h : History) → Steps config (e ∷ h) → IsIdle config a h → same_actor (asker e) a ≡ true → IsUnderWay (mover_at config a (e ∷ h)).line
under_begun config a e h steps idle mine =
    let start = idle_makes_none config a e h steps idle mine in
    rw (mover_own config a e h start.3) (rw start.2 tt)

never_both : (line : Option Command) → line ≡ None → IsUnderWay line → ⊥
never_both line none under = subst IsUnderWay none under

pub goes_on : (config : Config) (a : Actor) (e : Entry) (h : History) → Steps config (e ∷ h) → same_actor (asker e) a ≡ true → tells a e ≡ false → IsUnderWay (mover_at config a h).line →
    IsUnderWay (mover_at config a (e ∷ h)).line × (started a (e ∷ h) ≡ started a h)
goes_on config a e h steps mine silent under = by_event e.event refl
  where
    allowed : Allowed config h e.actor e.reading e.event
    allowed = (steps_before config e h steps).1

    quiet : Same config a h (e ∷ h) → IsUnderWay (mover_at config a (e ∷ h)).line
    quiet same = subst IsUnderWay (sym same.line) under

    by_event : (event : Event) → e.event ≡ event → IsUnderWay (mover_at config a (e ∷ h)).line × (started a (e ∷ h) ≡ started a h)
    by_event (Start number line) is =
        absurd (never_both (mover_at config a h).line (own_allowed config a e h (Start number line) (moves_as a e (Start number line) is mine) is allowed).0 under)
    by_event (Ask to asked) is = (rw (mover_own config a e h (moves_as a e (Ask to asked) is mine)) (rw is under), begun_still a e h (Ask to asked) is refl)
    by_event (Hear from r) is = (rw (mover_own config a e h (moves_as a e (Hear from r) is mine)) (rw is under), begun_still a e h (Hear from r) is refl)
    by_event (Tell number t) is =
        let own = moves_as a e (Tell number t) is mine in
        let told : tells a e ≡ true = rw own (rw is refl) in
        absurd (let never : true ≡ false = sym told ∙ silent in cc)
    by_event (Serve from asked r time append) is = (quiet (quiet_same config a e h (λ m. rw is refl) (rw is refl)), begun_still a e h (Serve from asked r time append) is refl)
    by_event (Restarted from kept) is = (quiet (quiet_same config a e h (λ m. rw is refl) (rw is refl)), begun_still a e h (Restarted from kept) is refl)

-- ## until nothing was told

abbrev InCommand : Config → Actor → History → History → Type 0
InCommand config a g h = (h ≡ g) ⊎ (IsUnderWay (mover_at config a h).line × (started a h ≡ started a g + 1))

untold_step : (config : Config) (a : Actor) (e : Entry) (g h : History) → Steps config (e ∷ h) → IsIdle config a g → same_actor (asker e) a ≡ true → tells a e ≡ false → InCommand config a g h →
    IsUnderWay (mover_at config a (e ∷ h)).line × (started a (e ∷ h) ≡ started a g + 1)
untold_step config a e g h steps idle mine silent (inl first) =
    let idle_now : IsIdle config a h = subst (IsIdle config a) (sym first) idle in
    (under_begun config a e h steps idle_now mine, begins config a e h steps idle_now mine ∙ ap (λ (k : History). started a k + 1) first)
untold_step config a e g h steps idle mine silent (inr under) =
    let goes = goes_on config a e h steps mine silent under.0 in
    (goes.0, goes.1 ∙ under.1)

untold : (config : Config) (a : Actor) (n : ℕ) (g h : History) → Steps config h → IsIdle config a g → MovedUntold a n g h → InCommand config a g h
unfolding MovedUntold
untold config a zero g h steps idle moved = inl moved
untold config a (suc n) g [] steps idle moved = absurd moved
untold config a (suc n) g (e ∷ h) steps idle moved =
    inr (untold_step config a e g h steps idle (same_of (asker e) a moved.1) moved.2 (untold config a n g h (steps_before config e h steps).0 idle moved.0))

-- ## and then told

-- a command of mover `a` was made from history `g` to `h`, in so many moves
pub record CommandMade (config : Config) (a : Actor) (g h : History) : Type 0 where
  pub many : ℕ
  pub by : By a many g h
  pub idle : IsIdle config a h
  pub begun : started a h ≡ started a g + 1

tell_is : (event : Event) → is_tell event ≡ true → (number : ℕ) × (t : Told) × (event ≡ Tell number t)
tell_is (Tell number t) is = (number, t, refl)
tell_is (Start number line) is = cc
tell_is (Ask to asked) is = cc
tell_is (Serve from asked r time append) is = cc
tell_is (Hear from r) is = cc
tell_is (Restarted from kept) is = cc

told_after : (config : Config) (a : Actor) (g : History) (e : Entry) (h : History) → Steps config (e ∷ h) → IsIdle config a g → same_actor e.actor a ≡ true → (number : ℕ) (t : Told) → e.event ≡ Tell number t → InCommand config a g h →
    IsIdle config a (e ∷ h) × (started a (e ∷ h) ≡ started a g + 1)
told_after config a g e h steps idle own number t is (inl first) =
    absurd (never_both (mover_at config a h).line (subst (IsIdle config a) (sym first) idle) (own_allowed config a e h (Tell number t) own is (steps_before config e h steps).1).0)
told_after config a g e h steps idle own number t is (inr under) =
    (rw (mover_own config a e h own) (rw is refl), begun_still a e h (Tell number t) is refl ∙ under.1)

pub command_made : (config : Config) (a : Actor) (g h : History) → Steps config h → IsIdle config a g → MovedUntilTold a g h → CommandMade config a g h
command_made config a g [] steps idle moved = absurd moved
command_made config a g (e ∷ h) steps idle moved =
    let before = untold config a moved.0 g h (steps_before config e h steps).0 idle moved.1 in
    let parts = and_parts (same_actor e.actor a) (is_tell e.event) moved.3 in
    let tell = tell_is e.event parts.1 in
    let after = told_after config a g e h steps idle parts.0 tell.0 tell.1 tell.2 before in
    record {
      many = suc moved.0;
      by = by_more a moved.0 g e h (untold_by a moved.0 g h moved.1) moved.2;
      idle = after.0;
      begun = after.1;
    }

pub told_stood : (a : Actor) (g h : History) → MovedUntilTold a g h → StoodBefore g h
told_stood a g [] moved = absurd moved
told_stood a g (e ∷ h) moved = by_stood a (suc moved.0) g (e ∷ h) (by_more a moved.0 g e h (untold_by a moved.0 g h moved.1) moved.2)

-- ## its moves are the turns of that command in the whole history

pub all_from : (config : Config) (a : Actor) (n : ℕ) (g h : History) → StoodBefore g h → Steps config h → IsIdle config a g → started a g + 1 ≡ n → started a h ≤ n →
    entries_of a n h + named a (moves g) ≡ named a (moves h)
all_from config a n g h stood steps idle is few =
    subst (λ (k : History). entries_of a n k + named a (moves g) ≡ named a (moves k)) (sym stood.1)
    (all_of_one config a n stood.0 g (subst (Steps config) stood.1 steps) idle is (subst (λ (k : History). started a k ≤ n) stood.1 few))

none_after : (config : Config) (a : Actor) (n : ℕ) (h whole : History) → StoodBefore h whole → Steps config whole → IsIdle config a h → started a h ≡ n → entries_of a n whole ≡ entries_of a n h
none_after config a n h whole stood steps idle is =
    subst (λ (k : History). entries_of a n k ≡ entries_of a n h) (sym stood.1) (no_more config a n stood.0 h (subst (Steps config) stood.1 steps) idle is)

turns_made : (config : Config) (a : Actor) (n : ℕ) (g h whole : History) → StoodBefore h whole → Steps config whole → IsIdle config a g → started a g + 1 ≡ n → (made : CommandMade config a g h) → entries_of a n whole ≡ made.many
turns_made config a n g h whole stood steps idle is made =
    let at : started a h ≡ n = made.begun ∙ is in
    let all = all_from config a n g h (by_stood a made.many g h made.by) (steps_stood config h whole stood steps) idle is (omega (arith, at)) in
    let more = by_named a made.many g h made.by in
    none_after config a n h whole stood steps made.idle at ∙ omega (arith, all, more)

-- what a command leaves that was made in a longer history
pub record CommandTurns (config : Config) (a : Actor) (n : ℕ) (g h whole : History) : Type 0 where
  pub moves : moves h ≡ moves g ++ turns whole a n
  pub idle : IsIdle config a h
  pub begun : started a h ≡ n
  pub others : (b : Actor) → same_actor a b ≡ false → Same config b g h

pub command_turns : (config : Config) (a : Actor) (n : ℕ) (g h whole : History) → StoodBefore h whole → Steps config whole → IsIdle config a g → started a g + 1 ≡ n → MovedUntilTold a g h → CommandTurns config a n g h whole
command_turns config a n g h whole stood steps idle is moved =
    let made = command_made config a g h (steps_stood config h whole stood steps) idle moved in
    record {
      moves = by_moves a made.many g h made.by ∙ ap (λ m. moves g ++ replicate m a) (sym (turns_made config a n g h whole stood steps idle is made));
      idle = made.idle;
      begun = made.begun ∙ is;
      others = λ b other. by_other config a b made.many g h other made.by;
    }

-- While appliers make their passes, no session is told anything.
use Rattle.std.proofs.Common.{◌≡◌, ℕ, zero, suc, Bool, true, false, ◌&&◌, if◌then◌else◌, [], ◌∷◌, refl, sym, ◌∙◌, subst}
use Rattle.txn_data.specs.declared.actor.Actor.{Actor}
use Rattle.txn_data.specs.declared.actor.Actor.TheVariants.{Tablet, Status, Session, Applier}
use Rattle.txn_data.specs.declared.config.Config.{Config}
use Rattle.txn_data.specs.declared.event.Event.{Event}
use Rattle.txn_data.specs.declared.event.Event.TheVariants.{Start, Ask, Serve, Hear, Tell, Restarted}
use Rattle.txn_data.specs.declared.entry.Entry.{Entry}
use Rattle.txn_types.specs.History.{History, same_actor, is_start}
use Rattle.txn_types.specs.Run.{Steps}
use Rattle.txn_types.specs.Script.{asker, is_told, told_since}
use Rattle.law_machines.proofs.Basics.{same_of}
use Rattle.mover_chain.proofs.Counted.{IsIdle, idle_makes_none}
use Rattle.mover_chain.proofs.States.{steps_before}
use Rattle.law_schedules.specs.Courses.{MovedUntilTold}
use Rattle.law_schedules.proofs.Moving.{By, by_more, untold_by}

told_step : (a : Actor) (e : Entry) (h : History) →
    told_since a (e ∷ h) ≡ (if same_actor e.actor a && is_start e.event then false else (if is_told e.actor e.event then true else told_since a h))
unfolding told_since
told_step a e h = refl

stays_false : (b c : Bool) → (c ≡ false) → (if b then false else c) ≡ false
stays_false true c none = refl
stays_false false c none = none

-- an applier's move tells no session
tells_none : (k : ℕ) (e : Entry) → asker e ≡ Applier k → is_told e.actor e.event ≡ false
tells_none k e mine = by_event e.actor e.event mine
  where
    by_event : (b : Actor) (event : Event) → (elim event [ Serve from asked r time append ↦ from | Restarted from kept ↦ from | _ ↦ b ]) ≡ Applier k → is_told b event ≡ false
    by_event (Session i) (Tell number t) is = cc
    by_event (Applier j) (Tell number t) is = refl
    by_event (Tablet j) (Tell number t) is = refl
    by_event (Status j) (Tell number t) is = refl
    by_event (Session i) (Start number line) is = refl
    by_event (Session i) (Ask to asked) is = refl
    by_event (Session i) (Serve from asked r time append) is = refl
    by_event (Session i) (Hear from r) is = refl
    by_event (Session i) (Restarted from kept) is = refl
    by_event (Applier j) event is = refl
    by_event (Tablet j) event is = refl
    by_event (Status j) event is = refl

step_silent : (a : Actor) (k : ℕ) (e : Entry) (h : History) → asker e ≡ Applier k → told_since a h ≡ false → told_since a (e ∷ h) ≡ false
step_silent a k e h mine still =
    told_step a e h ∙ stays_false (same_actor e.actor a && is_start e.event) (if is_told e.actor e.event then true else told_since a h) (rw (tells_none k e mine) still)

by_silent : (a : Actor) (k n : ℕ) (g h : History) → By (Applier k) n g h → told_since a g ≡ false → told_since a h ≡ false
unfolding By
by_silent a k zero g h by still = subst (λ (f : History). told_since a f ≡ false) (sym by) still
by_silent a k (suc n) g [] by still = absurd by
by_silent a k (suc n) g (e ∷ h) by still = step_silent a k e h by.1 (by_silent a k n g h by.0 still)

told_by : (a : Actor) (g h : History) → MovedUntilTold a g h → (n : ℕ) × By a (suc n) g h
told_by a g [] moved = absurd moved
told_by a g (e ∷ h) moved = (moved.0, by_more a moved.0 g e h (untold_by a moved.0 g h moved.1) moved.2)

pub applier_silent : (a : Actor) (k : ℕ) (g h : History) → MovedUntilTold (Applier k) g h → told_since a g ≡ false → told_since a h ≡ false
applier_silent a k g h moved still = let by = told_by (Applier k) g h moved in by_silent a k (suc by.0) g h by.1 still

-- since its Start none was told
first_quiet : (config : Config) (k : ℕ) (e : Entry) (h : History) → Steps config (e ∷ h) → IsIdle config (Applier k) h → asker e ≡ Applier k → told_since (Applier k) (e ∷ h) ≡ false
first_quiet config k e h steps idle mine =
    let start = idle_makes_none config (Applier k) e h steps idle (same_of (asker e) (Applier k) mine) in
    told_step (Applier k) e h ∙ rw start.3 (rw start.2 refl)

by_quiet : (config : Config) (k n : ℕ) (g h : History) → Steps config h → IsIdle config (Applier k) g → By (Applier k) (suc n) g h → told_since (Applier k) h ≡ false
unfolding By
by_quiet config k n g [] steps idle by = absurd by
by_quiet config k zero g (e ∷ h) steps idle by = first_quiet config k e h steps (subst (IsIdle config (Applier k)) (sym by.0) idle) by.1
by_quiet config k (suc n) g (e ∷ h) steps idle by = step_silent (Applier k) k e h by.1 (by_quiet config k n g h (steps_before config e h steps).0 idle by.0)

pub applier_quiet : (config : Config) (k : ℕ) (g h : History) → Steps config h → IsIdle config (Applier k) g → MovedUntilTold (Applier k) g h → told_since (Applier k) h ≡ false
applier_quiet config k g h steps idle moved = let by = told_by (Applier k) g h moved in by_quiet config k by.0 g h steps idle by.1

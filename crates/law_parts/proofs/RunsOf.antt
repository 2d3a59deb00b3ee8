-- A run and its parts.
use Rattle.std.proofs.Common.{◌≡◌, ℕ, [], ◌∷◌, Option, None, sym, ◌∙◌, ap, subst, inl, inr, ◌+◌}
use Rattle.txn_data.specs.declared.actor.Actor.{Actor}
use Rattle.txn_data.specs.declared.event.Event.{Event}
use Rattle.txn_data.specs.declared.event.Event.TheVariants.{Start, Ask, Serve, Hear, Tell, Restarted}
use Rattle.txn_data.specs.declared.entry.Entry.{Entry}
use Rattle.txn_data.specs.declared.config.Config.{Config}
use Rattle.txn_types.specs.History.{History, same_actor, own}
use Rattle.txn_types.specs.Program as program
use Rattle.txn_types.specs.Program.{turn_with}
use Rattle.txn_types.specs.Run.{Mover, flight, MayStart, CanTell, IsUnderWay, Allowed, Steps}
use Rattle.law_machines.proofs.Basics.{test_cases, same_true, same_refl}
use Rattle.law_parts.specs.Parts.{OwnAllowed, OwnSteps, Matches, MessagesMatch, PartsMakeARun, RunsHaveParts, OneMoreIsARun}
use Rattle.law_parts.proofs.Own.{own_same, own_other, mover_of_own, is_moving, quiet_of, heard_moving, moving_is, matches_before}

-- one entry: allowed over the whole where it is allowed over the actor's own and its message matches, and the other way
to_whole : (config : Config) (h : History) (a : Actor) (reading : Option ℕ) (event : Event) → MessagesMatch h → OwnAllowed config a (own a h) reading event → Matches a event h → Allowed config h a reading event
to_whole config h a reading (Start number line) fit own_is is =
    subst (λ (m : Mover). (m.line ≡ None) × (number ≡ m.commands + 1) × (reading ≡ None) × MayStart config a m line) (mover_of_own config a h) own_is
to_whole config h a reading (Ask to asked) fit own_is is =
    let m = mover_of_own config a h in (
      subst (λ (n : Mover). IsUnderWay n.line) m own_is.0,
      quiet_of (flight a h) (moving_is a h fit ∙ own_is.1),
      subst (λ (n : Mover). turn_with n.rest reading ≡ program.Ask to asked) m own_is.2,
    )
to_whole config h a reading (Serve from asked r time append) fit own_is is = (own_is.0, is, own_is.1)
to_whole config h a reading (Hear from r) fit own_is is = (own_is.0, is)
to_whole config h a reading (Tell number t) fit own_is is =
    let m = mover_of_own config a h in (
      subst (λ (n : Mover). IsUnderWay n.line) m own_is.0,
      quiet_of (flight a h) (moving_is a h fit ∙ own_is.1),
      subst (λ (n : Mover). number ≡ n.commands) m own_is.2,
      subst (λ (n : Mover). CanTell n reading t) m own_is.3,
    )
to_whole config h a reading (Restarted from kept) fit own_is is = (own_is.0, is, own_is.1, own_is.2)

to_own : (config : Config) (h : History) (a : Actor) (reading : Option ℕ) (event : Event) → MessagesMatch h → Allowed config h a reading event → OwnAllowed config a (own a h) reading event
to_own config h a reading (Start number line) fit is =
    subst (λ (m : Mover). (m.line ≡ None) × (number ≡ m.commands + 1) × (reading ≡ None) × MayStart config a m line) (sym (mover_of_own config a h)) is
to_own config h a reading (Ask to asked) fit is =
    let m = sym (mover_of_own config a h) in (
      subst (λ (n : Mover). IsUnderWay n.line) m is.0,
      sym (moving_is a h fit) ∙ ap is_moving is.1,
      subst (λ (n : Mover). turn_with n.rest reading ≡ program.Ask to asked) m is.2,
    )
to_own config h a reading (Serve from asked r time append) fit is = (is.0, is.2)
to_own config h a reading (Hear from r) fit is = (is.0, sym (moving_is a h fit) ∙ heard_moving (flight a h) from r is.1)
to_own config h a reading (Tell number t) fit is =
    let m = sym (mover_of_own config a h) in (
      subst (λ (n : Mover). IsUnderWay n.line) m is.0,
      sym (moving_is a h fit) ∙ ap is_moving is.1,
      subst (λ (n : Mover). number ≡ n.commands) m is.2,
      subst (λ (n : Mover). CanTell n reading t) m is.3,
    )
to_own config h a reading (Restarted from kept) fit is = (is.0, is.2, is.3)

to_match : (config : Config) (h : History) (a : Actor) (reading : Option ℕ) (event : Event) → Allowed config h a reading event → Matches a event h
to_match config h a reading (Serve from asked r time append) is = is.1
to_match config h a reading (Hear from r) is = is.1
to_match config h a reading (Restarted from kept) is = is.1
to_match config h a reading (Start number line) is = tt
to_match config h a reading (Ask to asked) is = tt
to_match config h a reading (Tell number t) is = tt

-- ## the whole

own_step : (config : Config) (a : Actor) (e : Entry) (h : History) → OwnSteps config a (e ∷ h) → OwnSteps config a h × OwnAllowed config a h e.reading e.event
unfolding OwnSteps
own_step config a e h steps = steps

own_more : (config : Config) (a : Actor) (e : Entry) (h : History) → OwnSteps config a h → OwnAllowed config a h e.reading e.event → OwnSteps config a (e ∷ h)
unfolding OwnSteps
own_more config a e h steps is = (steps, is)

own_none : (config : Config) (a : Actor) → OwnSteps config a []
unfolding OwnSteps
own_none config a = tt

-- the parts of what stood before an entry
own_before : (config : Config) (e : Entry) (h : History) → ((a : Actor) → OwnSteps config a (own a (e ∷ h))) → (a : Actor) → OwnSteps config a (own a h)
own_before config e h all a = elim (test_cases (same_actor e.actor a)) [
  | inl is ↦ (own_step config a e (own a h) (subst (OwnSteps config a) (own_same a e h is) (all a))).0
  | inr not ↦ subst (OwnSteps config a) (own_other a e h not) (all a)
]

own_last : (config : Config) (e : Entry) (h : History) → ((a : Actor) → OwnSteps config a (own a (e ∷ h))) → OwnAllowed config e.actor (own e.actor h) e.reading e.event
own_last config e h all = (own_step config e.actor e (own e.actor h) (subst (OwnSteps config e.actor) (own_same e.actor e h (same_refl e.actor)) (all e.actor))).1

steps_of : (config : Config) (h : History) → ((a : Actor) → OwnSteps config a (own a h)) → MessagesMatch h → Steps config h
unfolding Steps
steps_of config [] all fit = tt
steps_of config (e ∷ h) all fit =
    let before = matches_before e h fit in (
      steps_of config h (own_before config e h all) before.0,
      to_whole config h e.actor e.reading e.event before.0 (own_last config e h all) before.1,
    )

match_of : (config : Config) (h : History) → Steps config h → MessagesMatch h
unfolding Steps MessagesMatch
match_of config [] steps = tt
match_of config (e ∷ h) steps = (match_of config h steps.0, to_match config h e.actor e.reading e.event steps.1)

own_of : (config : Config) (h : History) → Steps config h → (a : Actor) → OwnSteps config a (own a h)
unfolding Steps
own_of config [] steps a = own_none config a
own_of config (e ∷ h) steps a = elim (test_cases (same_actor e.actor a)) [
  | inl is ↦
      subst (OwnSteps config a) (sym (own_same a e h is)) (own_more config a e (own a h) (own_of config h steps.0 a)
      (subst (λ (b : Actor). OwnAllowed config b (own b h) e.reading e.event) (same_true e.actor a is) (to_own config h e.actor e.reading e.event (match_of config h steps.0) steps.1)))
  | inr not ↦ subst (OwnSteps config a) (sym (own_other a e h not)) (own_of config h steps.0 a)
]

pub parts_run : PartsMakeARun
parts_run config h parts = (parts.cluster, steps_of config h parts.actors parts.messages)

pub run_parts : RunsHaveParts
run_parts config h run = record { cluster = run.0; actors = own_of config h run.1; messages = match_of config h run.1 }

pub one_more : OneMoreIsARun
unfolding Steps
one_more config h e run allowed fits = (run.0, (run.1, to_whole config h e.actor e.reading e.event (match_of config h run.1) allowed fits))

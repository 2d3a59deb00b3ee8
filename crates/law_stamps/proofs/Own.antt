-- The entries of each actor, before the last entry of all.
use Rattle.std.proofs.Common.{[], ◌∷◌, inl, inr, subst}
use Rattle.txn_data.specs.declared.actor.Actor.{Actor}
use Rattle.txn_data.specs.declared.config.Config.{Config}
use Rattle.txn_data.specs.declared.entry.Entry.{Entry}
use Rattle.txn_types.specs.History.{History, own, same_actor}
use Rattle.law_machines.proofs.Basics.{same_refl, test_cases}
use Rattle.law_parts.specs.Parts.{OwnAllowed, OwnSteps}
use Rattle.law_parts.proofs.Own.{own_other, own_same}

own_step : (config : Config) (a : Actor) (e : Entry) (h : History) → OwnSteps config a (e ∷ h) → OwnSteps config a h × OwnAllowed config a h e.reading e.event
unfolding OwnSteps
own_step config a e h steps = steps

pub own_none : (config : Config) (a : Actor) → OwnSteps config a []
unfolding OwnSteps
own_none config a = tt

pub own_before : (config : Config) (e : Entry) (h : History) → ((a : Actor) → OwnSteps config a (own a (e ∷ h))) → (a : Actor) → OwnSteps config a (own a h)
own_before config e h all a = elim (test_cases (same_actor e.actor a)) [
  | inl is ↦ (own_step config a e (own a h) (subst (OwnSteps config a) (own_same a e h is) (all a))).0
  | inr not ↦ subst (OwnSteps config a) (own_other a e h not) (all a)
]

pub own_last : (config : Config) (e : Entry) (h : History) → ((a : Actor) → OwnSteps config a (own a (e ∷ h))) → OwnAllowed config e.actor (own e.actor h) e.reading e.event
own_last config e h all = (own_step config e.actor e (own e.actor h) (subst (OwnSteps config e.actor) (own_same e.actor e h (same_refl e.actor)) (all e.actor))).1

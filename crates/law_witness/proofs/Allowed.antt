-- How a run of the small cluster is shown: one more allowed entry after another, each by what the tables compute.
use Rattle.std.proofs.Common.{[], ◌∷◌, refl, arith}
use Rattle.std.proofs.lemmas.List.Elements.{All-from_recursion}
use Rattle.txn_data.specs.declared.entry.Entry.{Entry}
use Rattle.txn_types.specs.History.{History}
use Rattle.txn_types.specs.Plan.{IsShort, IsPlace}
use Rattle.txn_types.specs.Run.{Allowed, Steps, Run}
use Rattle.law_witness.specs.Witness.{small, doc, place}
use Rattle.law_witness.proofs.Fits.{cluster_fits}

-- all entries so far are allowed
pub record AreAllowed (h : History) : Type 0 where
  pub steps : Steps small h

pub none : AreAllowed []
unfolding Steps
none = record { steps = tt }

-- and one more
infixl 20 ◌and_then◌
pub ◌and_then◌ : {h : History} {e : Entry} → AreAllowed h → Allowed small h e.actor e.reading e.event → AreAllowed (e ∷ h)
unfolding Steps
all and_then next = record { steps = (all.steps, next) }

pub run_of : (h : History) → AreAllowed h → Run small h
run_of h all = (cluster_fits small refl, all.steps)

-- the last entry of a run is allowed
pub last_allowed : (h : History) (e : Entry) → Run small (e ∷ h) → Allowed small h e.actor e.reading e.event
unfolding Steps
last_allowed h e run = run.1.1

pub on_tablet : IsPlace small place
on_tablet = (omega arith, (omega arith, omega arith, All-from_recursion IsShort doc ((omega arith, omega arith), tt)))

-- The entries of the run are allowed, one after another.
use Rattle.std.proofs.Common.{[], ◌∷◌, false, refl, inl, arith}
use Rattle.std.proofs.lemmas.List.Elements.{All-from_recursion}
use Rattle.txn_types.specs.Plan.{IsPlace}
use Rattle.law_witness.specs.Witness.{small, place, begun, writing, written, committing, done, listing, asking, up_again, collecting, met, collected, learned, whole}
use Rattle.worked_cases.proofs.Tables.{tables}
use Rattle.law_witness.proofs.Allowed.{AreAllowed, none, ◌and_then◌, on_tablet}

pub begun_allowed : AreAllowed begun
unfolding tables
begun_allowed =
    none
    and_then (refl, refl, refl, ((omega arith, omega arith), omega arith, tt))
    and_then (tt, refl, refl)
    and_then (omega arith, refl, record { fails = false; fits = refl; replied = refl; took = refl; logged = refl })
    and_then (refl, (refl, refl))
    and_then (tt, refl, refl, inl refl)

pub writing_allowed : AreAllowed writing
unfolding tables
writing_allowed =
    begun_allowed
    and_then (refl, refl, refl, ((omega arith, omega arith), omega arith, (on_tablet, (omega arith, omega arith))))
    and_then (tt, refl, refl)
    and_then (omega arith, refl, record { fails = false; fits = refl; replied = refl; took = refl; logged = refl })
    and_then (refl, (refl, refl))
    and_then (tt, refl, refl)

pub written_allowed : AreAllowed written
unfolding tables
written_allowed =
    writing_allowed
    and_then (omega arith, refl, record { fails = false; fits = tt; replied = refl; took = refl; logged = refl })
    and_then (refl, (refl, refl))
    and_then (tt, refl, refl, inl refl)

pub committing_allowed : AreAllowed committing
unfolding tables
committing_allowed =
    written_allowed
    and_then (refl, refl, refl, ((omega arith, omega arith), omega arith, tt))
    and_then (tt, refl, refl)

pub done_allowed : AreAllowed done
unfolding tables
done_allowed =
    committing_allowed
    and_then (omega arith, refl, record { fails = false; fits = tt; replied = refl; took = refl; logged = refl })
    and_then (refl, (refl, refl))
    and_then (tt, refl, refl, inl refl)

pub listing_allowed : AreAllowed listing
unfolding tables
listing_allowed =
    done_allowed
    and_then (refl, refl, refl, ((omega arith, omega arith), omega arith, (omega arith, omega arith, All-from_recursion (IsPlace small) (place ∷ []) (on_tablet, tt))))
    and_then (tt, refl, refl)

pub asking_allowed : AreAllowed asking
unfolding tables
asking_allowed =
    listing_allowed
    and_then (omega arith, refl, record { fails = false; fits = tt; replied = refl; took = refl; logged = refl })
    and_then (refl, (refl, refl))
    and_then (tt, refl, refl)

pub up_again_allowed : AreAllowed up_again
unfolding tables
up_again_allowed =
    asking_allowed
    and_then (refl, refl, refl, ((omega arith, omega arith), omega arith, omega arith))
    and_then (tt, refl, refl)
    and_then (omega arith, refl, refl, tt)
    and_then (refl, (refl, refl))
    and_then (tt, refl, refl, inl refl)

pub collecting_allowed : AreAllowed collecting
unfolding tables
collecting_allowed =
    up_again_allowed
    and_then (omega arith, refl, record { fails = false; fits = tt; replied = refl; took = refl; logged = refl })
    and_then (refl, (refl, refl))
    and_then (tt, refl, refl)

pub met_allowed : AreAllowed met
unfolding tables
met_allowed =
    collecting_allowed
    and_then (omega arith, refl, record { fails = false; fits = refl; replied = refl; took = refl; logged = refl })
    and_then (refl, (refl, refl))

pub collected_allowed : AreAllowed collected
unfolding tables
collected_allowed =
    met_allowed
    and_then (tt, refl, refl)
    and_then (omega arith, refl, record { fails = false; fits = tt; replied = refl; took = refl; logged = refl })
    and_then (refl, (refl, refl))
    and_then (tt, refl, refl)
    and_then (omega arith, refl, record { fails = false; fits = tt; replied = refl; took = refl; logged = refl })
    and_then (refl, (refl, refl))
    and_then (tt, refl, refl)
    and_then (omega arith, refl, record { fails = false; fits = refl; replied = refl; took = refl; logged = refl })
    and_then (refl, (refl, refl))

pub learned_allowed : AreAllowed learned
unfolding tables
learned_allowed =
    collected_allowed
    and_then (tt, refl, refl, inl refl)
    and_then (refl, refl, refl, (omega arith, refl))
    and_then (tt, refl, refl)
    and_then (omega arith, refl, record { fails = false; fits = refl; replied = refl; took = refl; logged = refl })
    and_then (refl, (refl, refl))
    and_then (tt, refl, refl)
    and_then (omega arith, refl, record { fails = false; fits = tt; replied = refl; took = refl; logged = refl })
    and_then (refl, (refl, refl))

pub whole_allowed : AreAllowed whole
unfolding tables
whole_allowed =
    learned_allowed
    and_then (tt, refl, refl)
    and_then (omega arith, refl, record { fails = false; fits = tt; replied = refl; took = refl; logged = refl })
    and_then (refl, (refl, refl))
    and_then (tt, refl, refl)
    and_then (omega arith, refl, record { fails = false; fits = refl; replied = refl; took = refl; logged = refl })
    and_then (refl, (refl, refl))
    and_then (tt, refl, refl, inl refl)

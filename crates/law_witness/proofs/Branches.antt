-- The entries of the other runs are allowed, one after another.
use Rattle.std.proofs.Common.{[], ◌∷◌, false, refl, inl, arith}
use Rattle.std.proofs.lemmas.List.Elements.{All-from_recursion}
use Rattle.txn_types.specs.Plan.{IsPlace}
use Rattle.law_witness.specs.Witness.{small, place}
use Rattle.law_witness.specs.Branches.{put_again, listed_first, asking_late, promised, second_begun, second_written, both_done, reader_begun, single_done, overwriting}
use Rattle.worked_cases.proofs.Tables.{tables}
use Rattle.law_witness.proofs.Allowed.{AreAllowed, none, ◌and_then◌, on_tablet}
use Rattle.law_witness.proofs.Entries.{writing_allowed, committing_allowed, done_allowed}

pub put_again_allowed : AreAllowed put_again
unfolding tables
put_again_allowed =
    done_allowed
    and_then (refl, refl, refl, ((omega arith, omega arith), omega arith, (on_tablet, (omega arith, omega arith))))

pub listed_first_allowed : AreAllowed listed_first
unfolding tables
listed_first_allowed =
    writing_allowed
    and_then (refl, refl, refl, ((omega arith, omega arith), omega arith, (omega arith, omega arith, All-from_recursion (IsPlace small) (place ∷ []) (on_tablet, tt))))
    and_then (tt, refl, refl)
    and_then (omega arith, refl, record { fails = false; fits = tt; replied = refl; took = refl; logged = refl })

pub asking_late_allowed : AreAllowed asking_late
unfolding tables
asking_late_allowed =
    committing_allowed
    and_then (refl, refl, refl, ((omega arith, omega arith), omega arith, (omega arith, omega arith, All-from_recursion (IsPlace small) (place ∷ []) (on_tablet, tt))))
    and_then (tt, refl, refl)
    and_then (omega arith, refl, record { fails = false; fits = tt; replied = refl; took = refl; logged = refl })
    and_then (refl, (refl, refl))
    and_then (tt, refl, refl)

pub promised_allowed : AreAllowed promised
unfolding tables
promised_allowed =
    asking_late_allowed
    and_then (omega arith, refl, record { fails = false; fits = tt; replied = refl; took = refl; logged = refl })

pub second_begun_allowed : AreAllowed second_begun
unfolding tables
second_begun_allowed =
    done_allowed
    and_then (refl, refl, refl, ((omega arith, omega arith), omega arith, tt))
    and_then (tt, refl, refl)
    and_then (omega arith, refl, record { fails = false; fits = refl; replied = refl; took = refl; logged = refl })
    and_then (refl, (refl, refl))
    and_then (tt, refl, refl, inl refl)

pub second_written_allowed : AreAllowed second_written
unfolding tables
second_written_allowed =
    second_begun_allowed
    and_then (refl, refl, refl, ((omega arith, omega arith), omega arith, (on_tablet, (omega arith, omega arith))))
    and_then (tt, refl, refl)
    and_then (omega arith, refl, record { fails = false; fits = refl; replied = refl; took = refl; logged = refl })
    and_then (refl, (refl, refl))
    and_then (tt, refl, refl)
    and_then (omega arith, refl, record { fails = false; fits = refl; replied = refl; took = refl; logged = refl })
    and_then (refl, (refl, refl))
    and_then (tt, refl, refl)
    and_then (omega arith, refl, record { fails = false; fits = tt; replied = refl; took = refl; logged = refl })
    and_then (refl, (refl, refl))
    and_then (tt, refl, refl, inl refl)

pub both_done_allowed : AreAllowed both_done
unfolding tables
both_done_allowed =
    second_written_allowed
    and_then (refl, refl, refl, ((omega arith, omega arith), omega arith, tt))
    and_then (tt, refl, refl)
    and_then (omega arith, refl, record { fails = false; fits = tt; replied = refl; took = refl; logged = refl })
    and_then (refl, (refl, refl))
    and_then (tt, refl, refl, inl refl)

pub reader_begun_allowed : AreAllowed reader_begun
unfolding tables
reader_begun_allowed =
    none
    and_then (refl, refl, refl, ((omega arith, omega arith), omega arith, tt))
    and_then (tt, refl, refl)
    and_then (omega arith, refl, record { fails = false; fits = refl; replied = refl; took = refl; logged = refl })
    and_then (refl, (refl, refl))
    and_then (tt, refl, refl, inl refl)

pub single_done_allowed : AreAllowed single_done
unfolding tables
single_done_allowed =
    reader_begun_allowed
    and_then (refl, refl, refl, ((omega arith, omega arith), omega arith, (on_tablet, (omega arith, omega arith))))
    and_then (tt, refl, refl)
    and_then (omega arith, refl, record { fails = false; fits = refl; replied = refl; took = refl; logged = refl })
    and_then (refl, (refl, refl))
    and_then (tt, refl, refl)
    and_then (omega arith, refl, record { fails = false; fits = tt; replied = refl; took = refl; logged = refl })
    and_then (refl, (refl, refl))
    and_then (tt, refl, refl, inl refl)

pub overwriting_allowed : AreAllowed overwriting
unfolding tables
overwriting_allowed =
    single_done_allowed
    and_then (refl, refl, refl, ((omega arith, omega arith), omega arith, (on_tablet, (omega arith, omega arith))))
    and_then (tt, refl, refl)
    and_then (omega arith, refl, record { fails = false; fits = refl; replied = refl; took = refl; logged = refl })
    and_then (refl, (refl, refl))
    and_then (tt, refl, refl)

-- What a tablet answers once the counter of its time has ended, by computation.
use Rattle.std.proofs.Common.{true, false, refl, arith}
use Rattle.worked_cases.proofs.Tables.{tables}
use Rattle.law_refusal_witness.specs.Clocks.{ShowsFullCounter}

pub shows_full_counter : ShowsFullCounter
unfolding tables
shows_full_counter = record {
  allowed = record { fails = false; fits = tt; replied = refl; took = refl; logged = refl };
  meets = ((refl, refl, refl), omega arith, (0, refl, refl), refl, omega arith);
  full = elim [ true ↦ refl | false ↦ refl ];
  next = refl;
}

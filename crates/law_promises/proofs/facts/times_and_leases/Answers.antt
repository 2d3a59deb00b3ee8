use Rattle.law_clocks.proofs.Runs.{times_rise, times_keep_floors, counts_on, leases_cover, last_is_greatest}
use Rattle.law_time_sources.proofs.Runs.{times_grounded}
use Rattle.law_promises.proofs.facts.times_and_leases.Goals as goal

pub returns : goal.returns
returns c = record {
  grounded = times_grounded;
  rise = times_rise;
  floors = times_keep_floors;
  counts = counts_on;
  covered = leases_cover;
  greatest = last_is_greatest;
}

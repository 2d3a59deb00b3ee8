use Rattle.leased_log.proofs.Acting.{Laws}
use Rattle.leased_log.proofs.Loading.{not_loaded}
use Rattle.leased_log.proofs.leased_log.LeasedLog.load.Goals as goal

pub returns-clause-not_loaded : goal.returns-clause-not_loaded
returns-clause-not_loaded g c failed a bytes faults h from st =
    let laws : Laws = record {
      log_taken = c.a_serve_is_logged.ensures.taken;
      log_failed = c.a_serve_is_logged.ensures.failed;
      piece = c.a_serve_is_logged.ensures.piece;
      none = c.a_restart_is_logged.ensures.none;
      clock_taken = c.entries_move_the_clock.ensures.taken;
      clock_same = c.entries_move_the_clock.ensures.same;
    } in
    not_loaded laws a c.args.self.now c.load_records.new.self bytes faults h from (c.load_records.ensures.failed failed) st

use Rattle.leased_log.proofs.Acting.{Laws, does}
use Rattle.leased_log.proofs.leased_log.LeasedLog.act.Goals as goal

pub returns-clause-does : goal.returns-clause-does
returns-clause-does g c =
    let laws : Laws = record {
      log_taken = c.a_serve_is_logged.ensures.taken;
      log_failed = c.a_serve_is_logged.ensures.failed;
      piece = c.a_serve_is_logged.ensures.piece;
      none = c.a_restart_is_logged.ensures.none;
      clock_taken = c.entries_move_the_clock.ensures.taken;
      clock_same = c.entries_move_the_clock.ensures.same;
    } in
    does laws c.args.self.now c.carry_out.new.self c.args.action c.carry_out.result c.carry_out.ensures.acts c.carry_out.ensures.spelled c.requires.actions

use Rattle.leased_log.proofs.Loading.{RestartLaws, is_restarted}
use Rattle.leased_log.proofs.leased_log.LeasedLog.restart.Goals as goal

pub returns-clause-restarts : goal.returns-clause-restarts
returns-clause-restarts g c a bytes faults h from st holds =
    let laws : RestartLaws = record {
      one_list = c.bytes_have_one_meaning.ensures.one_list;
      records = c.a_restart_is_logged.ensures.records;
      none = c.a_restart_is_logged.ensures.none;
      lease = c.a_status_tablet_is_replayed.ensures.lease;
      clock = c.entries_move_the_clock.ensures.restarted;
    } in
    is_restarted laws a c.args.self.now c.start_from.new.self bytes faults h from c.start_from.result c.args.records.now c.start_from.ensures st holds

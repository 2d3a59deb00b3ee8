-- What the tables, the programs, the schedules and what is said of reads compute with, under one name.
use Rattle.txn_types.specs.Lists.{inserted_by, sorted_by, with_number, rising}
use Rattle.txn_types.specs.Writes.{last_word, with_path, paths_beneath, beneath}
use Rattle.txn_types.specs.History.{next_restart_kept, counting_before}
use Rattle.txn_types.specs.Committed.{writes, committed, committed_snapshots, fold_of}
use Rattle.txn_types.specs.Clock.{last_time, has_given, lease_over, has_failed, down_since}
use Rattle.txn_types.specs.Tablet.{provisional_over, with_version, with_versions, versions_over, home_in, first_fate, greatest_above, greatest_fate, writes_at, met_in}
use Rattle.txn_types.specs.Status.{record_over, noted, is_sure}
use Rattle.txn_types.specs.Program.{then_do}
use Rattle.txn_types.specs.ReadProgram.{limit_of, ask_fates, row_of, rows_from, round_two, round_one}
use Rattle.txn_types.specs.TxnProgram.{resolve_all}
use Rattle.txn_types.specs.PassProgram.{pass_over}
use Rattle.txn_types.specs.Session.{tablets_used, with_row, with_rows}
use Rattle.txn_types.specs.Run.{mover_at, flight}
use Rattle.txn_types.specs.Reads.{reads, before_start, first_read_time, began_time, begin_of, reading_after, met_since}
use Rattle.txn_types.specs.Script.{lines, commands_of, told_since, entries_of, count, in_line_order, from_up, entries_beside, named, go_on, to_their_ends, at_position, draw_on, number_at, reading_of}
use Rattle.txn_types.specs.Settled.{last_told}
use Rattle.txn_types.specs.Cause.{tells}

unfoldable pub tables : Unit {0}
unfolding inserted_by sorted_by with_number rising last_word with_path paths_beneath beneath next_restart_kept counting_before writes committed committed_snapshots fold_of last_time has_given lease_over has_failed down_since provisional_over with_version with_versions versions_over home_in first_fate greatest_above greatest_fate writes_at met_in record_over noted is_sure then_do limit_of ask_fates row_of rows_from round_two round_one resolve_all pass_over tablets_used with_row with_rows mover_at flight reads before_start first_read_time began_time begin_of reading_after met_since lines commands_of told_since entries_of count in_line_order from_up entries_beside named go_on to_their_ends at_position draw_on number_at reading_of last_told tells
tables = tt

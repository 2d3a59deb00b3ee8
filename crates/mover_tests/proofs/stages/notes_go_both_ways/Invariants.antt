use Rattle.std.specs.Prelude.{[]}
use Rattle.actor_table.specs.Values.{no_config}
use Rattle.mover_tests.proofs.stages.notes_go_both_ways.Given as goal

abbrev pub ghosts-run_talk : goal.ghosts-run_talk
ghosts-run_talk g a = record { table = a.stage.table; config = no_config; readings = [] }

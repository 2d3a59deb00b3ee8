use Rattle.std.proofs.Common.{true}
use Rattle.docdb_run.specs.Text.{last_line, total_of, report_lines}
use Rattle.docdb_run.proofs.ReportLines.{line-more, line-all, joined}
use Rattle.docdb_run.proofs.report.report.Goals as goal

pub loop-at-preserved : goal.loop-at-preserved
loop-at-preserved c =
    line-more c.loop-at.text.items c.put_command.new.text.items c.args.commands.now c.args.told.now c.loop-at.at c.index-commands-at.result c.index-told-at.result _
    c.loop-at-test.true c.requires.same c.index-commands-at.is c.index-told-at.is c.in_ok-put_command.ensures c.loop-at.invariant

pub returns : goal.returns
returns c =
    joined (report_lines 1 c.args.commands.now c.args.told.now) (last_line 0 c.args.passed.now) (total_of c.args.told.now true) c.loop-at.text.items c.put_last.new.text.items c.put_total.new.text.items
    (line-all c.loop-at.text.items c.args.commands.now c.args.told.now c.loop-at.at _ c.loop-at-test.false c.loop-at.invariant)
    c.in_ok-put_last.ensures c.in_ok-put_total.ensures

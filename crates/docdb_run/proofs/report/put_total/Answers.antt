use Rattle.std.proofs.Common.{◌∙◌, true}
use Rattle.docdb_run.specs.Text.{total_of}
use Rattle.docdb_run.proofs.ReportLines.{total-counted, appended}
use Rattle.docdb_run.proofs.report.put_total.Goals as goal

pub returns : goal.returns
returns c =
    let counts = c.of-counts.result in
    let line = c.as_bytes.ensures.value ∙ (c.in_ok-line.ensures
    ∙ total-counted c.args.told.now counts.ok counts.refused counts.committed counts.reads counts.restarts
    c.of-counts.ensures.ok c.of-counts.ensures.refused c.of-counts.ensures.committed c.of-counts.ensures.reads c.of-counts.ensures.restarts) in
    appended c.extend_from_slice.result c.args.text.now.items c.extend_from_slice.new.self.items c.as_bytes.result.now (total_of c.args.told.now true) c.extend_from_slice.ensures.items line

use Rattle.report_text.proofs.Ascii.{row_ascii}
use Rattle.report_text.proofs.rows.put_row.Goals as goal

pub returns-clause-ascii : goal.returns-clause-ascii
returns-clause-ascii c = row_ascii c.put_value.result _ _ c.in_ok-path_text.ensures.ascii c.put_value.ensures.ascii

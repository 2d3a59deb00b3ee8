use Rattle.docdb_run.proofs.FormText.{after_text-stripped}
use Rattle.docdb_run.proofs.form_text.after_text.Goals as goal

pub returns : goal.returns
returns c = after_text-stripped c.args.text.now c.args.bytes.now c.strip_prefix.result c.strip_prefix.ensures.cases

use Rattle.std.proofs.Common.{◌∙◌, ap}
use Rattle.std.specs.Int.{to_be_bytes, w128}
use Rattle.std.proofs.lemmas.Result.{IfOk-weaker}
use Rattle.uuid.specs.Text.{hyphenated_text, lower}
use Rattle.docdb_run.proofs.answer.id.Goals as goal

pub returns : goal.returns
returns c =
    IfOk-weaker c.format.result _ _ (λ text h. h ∙ ap (hyphenated_text lower) (c.hyphenated-id.ensures ∙ (c.from_u128.ensures ∙ ap (to_be_bytes w128) c.txn.view_is))) c.format.ensures.ok

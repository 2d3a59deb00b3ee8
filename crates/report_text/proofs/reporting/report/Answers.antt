use Rattle.std.proofs.Common.{◌≡◌, Bool, ap, ◌∙◌}
use Rattle.std.proofs.lemmas.Result.{IfOk-weaker}
use Rattle.txn_types.specs.History.{history_of}
use Rattle.report_text.specs.Text.{agreed, text_with}
use Rattle.report_text.proofs.Agreeing.{agreed_answer}
use Rattle.report_text.proofs.reporting.report.Goals as goal

pub returns-clause-text : goal.returns-clause-text
returns-clause-text c =
    let config = c.args.config.now in
    let h = history_of c.args.trace.now in
    let agree : c.is_none-agree.result ≡ agreed config h =
    agreed_answer config h c.clocks_agree.result c.is_none-agree.result c.is_none-agree.ensures (c.clocks_agree.ensures config c.requires.run) in
    IfOk-weaker c.report_with.result _ _ (λ text is. is ∙ ap (λ (b : Bool). text_with config c.args.json c.args.total_only h b) agree) c.report_with.ensures.text

use Rattle.std.proofs.Common.{◌+◌, ◌++◌, Option, None, refl, sym, ap, ◌∙◌, arith, string_bytes}
use Rattle.std.proofs.lemmas.List.{append-nil, get_or_default}
use Rattle.txn_types.specs.Script.{from_up}
use Rattle.report_text.specs.Shown.{Shown}
use Rattle.report_text.specs.Walk.{kept_pass, kept_passes}
use Rattle.report_text.proofs.Lines.{one_more}
use Rattle.report_text.proofs.reporting.put_passes.Goals as goal

pub loop-tablet-init : goal.loop-tablet-init
unfolding from_up
loop-tablet-init c = sym (append-nil (string_bytes c.args.text.now))

pub loop-tablet-preserved : goal.loop-tablet-preserved
loop-tablet-preserved c =
    let passes = c.args.passes.now in
    let k = c.loop-tablet.tablet in
    let text = string_bytes c.loop-tablet.text in
    let pass = c.index-passes-tablet.result in
    one_more (kept_passes c.args.json passes) (string_bytes c.args.text.now) text (string_bytes c.put_pass.new.text) 0 k (k + 1) k (omega arith) refl
    c.loop-tablet.invariant
    (c.in_ok-put_pass.ensures ∙ ap (λ (p : Option Shown). text ++ kept_pass c.args.json k p)
    (c.index-passes-tablet.is ∙ get_or_default passes k pass None c.loop-tablet-test.true))

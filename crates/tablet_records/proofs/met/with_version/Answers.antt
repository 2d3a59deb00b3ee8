use Rattle.std.proofs.Common.{◌≡◌, true, false, Option, Some, sym, ap, ◌∙◌, arith}
use Rattle.doc_path.specs.Path.{Parts}
use Rattle.txn_data.specs.declared.met_at.MetAt.{MetAt}
use Rattle.tablet_records.proofs.Meeting.{chosen_or, outside, unrelated, compared}
use Rattle.tablet_records.proofs.met.with_version.Goals as goal

pub returns-then-not-is_in_window : goal.returns-then-not-is_in_window
returns-then-not-is_in_window c =
    let no : c.is_in_window.result ≡ false = grind (arith, c.if-not-is_in_window.true) in
    outside c.args.window.now c.args.t c.args.paths.now c.args.version.now c.args.met (sym c.is_in_window.ensures ∙ no)

pub returns-then-not-is_related : goal.returns-then-not-is_related
returns-then-not-is_related c =
    let no : c.is_related.result ≡ false = grind (arith, c.if-not-is_related.true) in
    unrelated c.args.window.now c.args.t c.args.paths.now c.args.version.now c.args.met (sym c.is_related.ensures ∙ no)

pub returns-then-not-is_better : goal.returns-then-not-is_better
returns-then-not-is_better c =
    let inside : c.is_in_window.result ≡ true = grind (arith, c.if-not-is_in_window.false) in
    let on : c.is_related.result ≡ true = grind (arith, c.if-not-is_related.false) in
    let no : c.is_better.result ≡ false = grind (arith, c.if-not-is_better.true) in
    let v = c.args.version.now in
    sym (ap (λ b. chosen_or b v c.args.met) no)
    ∙ compared c.args.window.now c.args.t c.args.paths.now v c.args.met c.is_better.result (sym c.is_in_window.ensures ∙ inside) (sym c.is_related.ensures ∙ on) c.is_better.ensures

pub returns : goal.returns
returns c =
    let inside : c.is_in_window.result ≡ true = grind (arith, c.if-not-is_in_window.false) in
    let on : c.is_related.result ≡ true = grind (arith, c.if-not-is_related.false) in
    let yes : c.is_better.result ≡ true = grind (arith, c.if-not-is_better.false) in
    let v = c.args.version.now in
    let at : Parts → Option MetAt = λ q. Some (record { at = v.at; path = q }) in
    ap at c.in_ok-path.ensures
    ∙ sym (ap (λ b. chosen_or b v c.args.met) yes)
    ∙ compared c.args.window.now c.args.t c.args.paths.now v c.args.met c.is_better.result (sym c.is_in_window.ensures ∙ inside) (sym c.is_related.ensures ∙ on) c.is_better.ensures

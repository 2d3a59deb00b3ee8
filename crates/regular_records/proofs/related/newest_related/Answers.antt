use Rattle.std.proofs.Common.{◌≤◌, Bor, length, arith, sym, ap, ◌∙◌, subst}
use Rattle.std.specs.Prelude.{option_map}
use Rattle.std.proofs.lemmas.Bool.Decides.{nat_tests}
use Rattle.txn_data.specs.declared.window.Window.{Window}
use Rattle.regular_records.specs.Related.{above_upto}
use Rattle.regular_records.specs.NewestBeneath.{newest_at}
use Rattle.regular_records.proofs.Stopped.{found-above}
use Rattle.regular_records.proofs.related.newest_related.Goals as goal

pub returns-then-le : goal.returns-then-le
returns-then-le c =
    let p = c.args.path.now.items in
    let window = option_map (λ (w : Bor Window). w.now) c.args.window in
    let above =
    c.newest_above-newest.ensures
    ∙ ap (λ q. above_upto c.args.t window q c.args.paths.now c.len.result) c.deref.ensures.value
    ∙ ap (above_upto c.args.t window p c.args.paths.now) (c.len.ensures ∙ sym c.deref.ensures.len ∙ ap length c.deref.ensures.value) in
    let low : newest_at p c.args.beneath.now ≤ c.args.t =
    let le : c.newest.result ≤ c.args.t = grind (arith, nat_tests, c.le.ensures, c.if-le.true) in
    subst (λ q. newest_at q c.args.beneath.now ≤ c.args.t) c.deref-2.ensures.value (subst (λ n. n ≤ c.args.t) c.newest.ensures le) in
    sym (found-above c.args.t window p c.args.paths.now c.args.beneath.now _ c.requires.kept c.requires.sums c.requires.some low (sym above))

use Rattle.std.proofs.Common.{Bor, ◌+◌, take, refl, ap, ◌∙◌, add-one}
use Rattle.std.specs.Prelude.{option_map}
use Rattle.txn_data.specs.declared.window.Window.{Window}
use Rattle.regular_records.specs.Store.{path_versions_at}
use Rattle.regular_records.specs.Related.{above_upto, newer_at}
use Rattle.regular_records.proofs.related.newest_above.Goals as goal

pub loop-i-init : goal.loop-i-init
unfolding above_upto
loop-i-init c = refl

pub loop-i-preserved : goal.loop-i-preserved
unfolding above_upto
loop-i-preserved c =
    let window = option_map (λ (w : Bor Window). w.now) c.args.window in
    rw add-one (c.newer_on-newest.ensures
    ∙ ap (λ found. newer_at c.args.t window found (take (c.loop-i.i + 1) c.args.path.now) (path_versions_at (take (c.loop-i.i + 1) c.args.path.now) c.args.paths.now)) c.loop-i.invariant
    ∙ rw add-one refl)

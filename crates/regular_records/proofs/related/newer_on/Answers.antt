use Rattle.std.proofs.Common.{Bor, sym, ap, ◌∙◌}
use Rattle.std.specs.Prelude.{option_map}
use Rattle.txn_data.specs.declared.window.Window.{Window}
use Rattle.regular_records.specs.declared.version_key.VersionKey.{VersionKey}
use Rattle.regular_records.specs.Related.{newest_met, newer, newer_at}
use Rattle.regular_records.proofs.Order.{parts_exact}
use Rattle.regular_records.proofs.related.newer_on.Goals as goal

pub returns-in-Some : goal.returns-in-Some
returns-in-Some c =
    let window = option_map (λ (w : Bor Window). w.now) c.args.window in
    let time = option_map (λ (m : Bor VersionKey). m.now.at) c.first_met.result in
    let found = option_map newest_met c.args.newest in
    let key = c.deref.ensures.value ∙ sym (parts_exact c.args.path.now c.in-Some.stored.now.items c.in-Some.ensures.same_key) in
    c.newer.ensures
    ∙ ap (λ p. newer found p time) key
    ∙ ap (newer found c.args.path.now) c.first_met.ensures
    ∙ ap (newer_at c.args.t window found c.args.path.now) c.in-Some.ensures.value

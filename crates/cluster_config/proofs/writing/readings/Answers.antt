use Rattle.std.proofs.Common.{◌≡◌, ◌∙◌, ◌+◌, ◌++◌, ◌∷◌, [], ap, ap₂, sym, add-one, take, arith, slice_index}
use Rattle.std.proofs.Math.Seq.{take-suc}
use Rattle.std.proofs.lemmas.List.{take_all}
use Rattle.toml.proofs.Views.{items_view-push, view-Array}
use Rattle.toml.specs.Data.{array, push_item}
use Rattle.toml.specs.View.{items_view}
use Rattle.cluster_config.specs.Table.{integers}
use Rattle.cluster_config.proofs.Members.{integers-push}
use Rattle.cluster_config.proofs.writing.readings.Goals as goal

pub items-preserved : goal.items-preserved
items-preserved c =
    let ns = c.args.numbers.now in
    let i = c.items.reading-index in
    let more : take (i + 1) ns ≡ take i ns ++ slice_index ns i ∷ [] = rw add-one (take-suc ns i 0 c.items-test.true) in
    ap items_view c.in_ok-push.ensures.items
    ∙ (items_view-push c.items.values.items c.number.result
    ∙ (ap₂ push_item c.items.invariant c.number.ensures
    ∙ (sym (integers-push (take i ns) (slice_index ns i)) ∙ ap integers (sym more))))

pub returns : goal.returns
returns c =
    let ns = c.args.numbers.now in
    view-Array c.items.values ∙ ap array (c.items.invariant ∙ ap integers (take_all c.items.reading-index ns (omega arith)))

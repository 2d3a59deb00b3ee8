use Rattle.std.proofs.Common.{◌≡◌, ℕ, max, ap, ◌∙◌, arith}
use Rattle.std.specs.Ordering.{nat_cmp, ord_max}
use Rattle.std.proofs.lemmas.Bool.Decides.{nat_tests}
use Rattle.std.specs.Prelude.{List}
use Rattle.txn_data.specs.declared.found.Found.{Found}
use Rattle.txn_data.specs.declared.reply.Reply.TheVariants.{Listed}
use Rattle.txn_types.specs.Tablet.{founds}
use Rattle.intent_records.specs.Search.{others_until}
use Rattle.tablet_records.proofs.tablet_records.TabletRecords.list_read.Goals as goal

greater : (m n : ℕ) → ord_max nat_cmp m n ≡ max m n
greater m n = grind (arith, nat_tests)

pub returns : goal.returns
returns g c ps vs kept =
    ap (λ (o : List Found). Listed c.args.limit o) (c.in_ok-others.ensures ps kept.intents
    ∙ ap (λ (u : ℕ). founds ps (others_until c.args.own c.args.paths.now u ps)) (c.max.ensures ∙ greater c.args.t c.args.limit))

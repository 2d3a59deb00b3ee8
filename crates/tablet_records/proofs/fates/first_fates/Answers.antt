use Rattle.std.proofs.Common.{◌≡◌, ◌+◌, ◌∷◌, List, drop, sym, ap, ◌∙◌}
use Rattle.std.specs.BTreeMap.{get}
use Rattle.std.specs.Ordering.{nat_cmp}
use Rattle.std.proofs.lemmas.List.{drop_more, drop_all}
use Rattle.txn_data.specs.declared.fate_of.FateOf.{FateOf}
use Rattle.txn_types.specs.Lists.{or_else}
use Rattle.txn_types.specs.Tablet.{first_fate as fate_in}
use Rattle.tablet_records.proofs.Told.{first-more, first-again, first-end, none-there}
use Rattle.tablet_records.proofs.fates.first_fates.Goals.{then-not-contains_key+in_ok-insert, else-not-contains_key}
use Rattle.tablet_records.proofs.fates.first_fates.Goals as goal

pub loop-of-preserved : goal.loop-of-preserved
loop-of-preserved c = λ x.
    let fates = c.args.fates.now in
    let i = c.loop-of.of-index in
    let f = c.of-item.result in
    let m = get nat_cmp c.loop-of.firsts in
    let rest = drop (i + 1) fates in
    let more : drop i fates ≡ f ∷ rest = drop_more fates i f c.loop-of-test.true ∙ ap (λ (y : FateOf). y ∷ rest) (sym c.of-item.is) in
    let before = ap (λ (l : List FateOf). or_else (m x) (fate_in l x)) (sym more) ∙ c.loop-of.invariant x in
    elim c.if-not-contains_key.branch [
      | then-not-contains_key+in_ok-insert w ↦
          ap (λ s. or_else (get nat_cmp s x) (fate_in rest x)) w.firsts-is
          ∙ first-more m (get nat_cmp w.insert.new.self) f rest x (none-there (m f.txn) (sym c.contains_key.ensures ∙ w.if-not-contains_key.true)) (w.in_ok-insert.ensures.updates.0 x)
          ∙ before
      | else-not-contains_key w ↦
          ap (λ s. or_else (get nat_cmp s x) (fate_in rest x)) w.firsts-is
          ∙ first-again m f rest x (sym c.contains_key.ensures ∙ w.if-not-contains_key.false)
          ∙ before
    ]

pub returns : goal.returns
returns c = λ x.
    let fates = c.args.fates.now in
    let i = c.loop-of.of-index in
    first-end (get nat_cmp c.loop-of.firsts) (drop i fates) (fate_in fates x) x (drop_all i fates c.loop-of-test.false) (c.loop-of.invariant x)

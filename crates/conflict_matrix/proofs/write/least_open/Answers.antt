use Rattle.std.proofs.Common.{◌≡◌, ℕ, ◌+◌, Bool, [], ◌∷◌, ◌++◌, take, refl, ap, ◌∙◌, arith}
use Rattle.std.proofs.lemmas.List.{take_more}
use Rattle.txn_data.specs.declared.found.Found.{Found}
use Rattle.txn_types.specs.Lists.{rising}
use Rattle.txn_types.specs.Tablet.{is_open, first_fate}
use Rattle.conflict_matrix.specs.Decide.{ids}
use Rattle.conflict_matrix.proofs.Deciding.{ids-push, first_passing, first_passing-push}
use Rattle.conflict_matrix.proofs.Walk.{ahead-first, ahead-tells, ahead-next}
use Rattle.conflict_matrix.proofs.write.least_open.Goals as goal
use Rattle.conflict_matrix.proofs.write.least_open.Goals.{then-is_open, else-is_open}

pub loop-other-init : goal.loop-other-init
unfolding rising
loop-other-init c = record {
  ahead = ahead-first (λ (f : Found). f.txn) c.args.fates.now c.args.others.now c.of-firsts.result c.of-firsts.ensures.rest (λ walks. c.rise.ensures (c.of-firsts.ensures.rising walks));
  least = refl;
}

pub loop-other-preserved : goal.loop-other-preserved
loop-other-preserved c =
    let i = c.loop-other.other-index in
    let fates = c.args.fates.now in
    let before = take i c.args.others.now in
    let f = c.other-item.result in
    let more : take (i + 1) c.args.others.now ≡ before ++ f ∷ [] = grind (arith, take_more c.args.others.now i f c.loop-other-test.true, c.other-item.is) in
    let stands : ids (take (i + 1) c.args.others.now) ≡ ids before ++ f.txn ∷ [] = ap ids more ∙ ids-push before f in
    let open_in : ℕ → Bool = λ x. is_open (first_fate fates x) in
    let pushed = ap (λ xs. first_passing open_in (rising xs)) stands ∙ first_passing-push open_in (ids before) f.txn in
    let told = ahead-tells (λ (g : Found). g.txn) c.args.fates.now c.args.others.now i f c.loop-other.firsts c.loop-other.invariant.ahead c.loop-other-test.true c.other-item.is in
    let stands_open : c.is_open.result ≡ open_in f.txn = c.is_open.ensures ∙ ap is_open (c.fate_of.ensures.told ∙ told) in
    record {
      ahead = ahead-next (λ (g : Found). g.txn) c.args.fates.now c.args.others.now i f c.loop-other.firsts c.loop-other.invariant.ahead c.loop-other-test.true c.other-item.is
          c.fate_of.new.self c.fate_of.ensures.walks c.fate_of.ensures.later;
      least = elim c.if-is_open.branch [
        | then-is_open w ↦ grind (arith, pushed, c.loop-other.invariant.least, w.least-is, w.if-is_open.true, stands_open)
        | else-is_open w ↦ grind (arith, pushed, c.loop-other.invariant.least, w.least-is, w.if-is_open.false, stands_open)
      ];
    }

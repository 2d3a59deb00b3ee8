use Rattle.std.proofs.Common.{◌≡◌, ◌+◌, [], ◌∷◌, ◌++◌, take, ap, ◌∙◌, arith}
use Rattle.std.specs.Prelude.{option_to_list}
use Rattle.std.proofs.lemmas.List.{take_more}
use Rattle.txn_data.specs.declared.found.Found.{Found}
use Rattle.txn_types.specs.Tablet.{greatest_above, commit_time}
use Rattle.conflict_matrix.specs.Decide.{ids, fate_times}
use Rattle.conflict_matrix.proofs.Deciding.{ids-push, greatest_above-newest, greatest_above-fate}
use Rattle.conflict_matrix.proofs.Walk.{ahead-first, ahead-tells, ahead-next}
use Rattle.conflict_matrix.proofs.write.overlap_above.Goals as goal

pub loop-other-init : goal.loop-other-init
loop-other-init c = record {
  ahead = ahead-first (λ (f : Found). f.txn) c.args.fates.now c.args.others.now c.of-firsts.result c.of-firsts.ensures.rest (λ walks. c.rise.ensures (c.of-firsts.ensures.rising walks));
  greatest = c.with_time-greatest.ensures ∙ greatest_above-newest c.args.read c.args.newest;
}

pub loop-other-preserved : goal.loop-other-preserved
loop-other-preserved c =
    let i = c.loop-other.other-index in
    let fates = c.args.fates.now in
    let before = take i c.args.others.now in
    let f = c.other-item.result in
    let more : take (i + 1) c.args.others.now ≡ before ++ f ∷ [] = grind (arith, take_more c.args.others.now i f c.loop-other-test.true, c.other-item.is) in
    let stands : ids (take (i + 1) c.args.others.now) ≡ ids before ++ f.txn ∷ [] = ap ids more ∙ ids-push before f in
    let told = ahead-tells (λ (g : Found). g.txn) c.args.fates.now c.args.others.now i f c.loop-other.firsts c.loop-other.invariant.ahead c.loop-other-test.true c.other-item.is in
    let pushed = ap (λ xs. greatest_above c.args.read (option_to_list c.args.newest ++ fate_times fates xs)) stands ∙ greatest_above-fate c.args.read (option_to_list c.args.newest) fates (ids before) f.txn c.time_of.result (c.time_of.ensures.told ∙ ap commit_time told) in
    record {
      ahead = ahead-next (λ (g : Found). g.txn) c.args.fates.now c.args.others.now i f c.loop-other.firsts c.loop-other.invariant.ahead c.loop-other-test.true c.other-item.is
          c.time_of.new.self c.time_of.ensures.walks c.time_of.ensures.later;
      greatest = cc;
    }

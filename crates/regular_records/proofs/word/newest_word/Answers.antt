use Rattle.std.proofs.Common.{◌≡◌, ℕ, ◌+◌, ◌<◌, length, refl, arith, ap, ◌∙◌, take, subst, add-one}
use Rattle.std.specs.Prelude.{option_map, IfSome}
use Rattle.std.proofs.lemmas.List.{length-take-le}
use Rattle.regular_records.specs.Records.{later}
use Rattle.regular_records.specs.Store.{newest_upto, word_version}
use Rattle.regular_records.proofs.Words.{is_longer, at_most, equal_most}
use Rattle.regular_records.proofs.word.newest_word.Goals as goal

pub loop-i-init : goal.loop-i-init
unfolding newest_upto
loop-i-init c = record { value = refl; parts = tt }

pub loop-i-preserved : goal.loop-i-preserved
unfolding newest_upto
loop-i-preserved c =
    let p = c.args.path.now in
    let i = c.loop-i.i in
    let in_path : i < length p = c.loop-i-test.true in
    let many : length (take (i + 1) p) ≡ i + 1 = length-take-le (i + 1) p (omega arith) in
    let parts : IfSome c.word_at.result (λ x. x.parts ≡ i + 1) = let P : ℕ → Type 0 = λ n. IfSome c.word_at.result (λ x. x.parts ≡ n) in subst P many c.word_at.ensures.parts in
    let step = c.later-word.ensures.value p (is_longer p i (i + 1) c.loop-i.word c.word_at.result refl in_path c.loop-i.invariant.parts parts) in
    record {
      value = rw add-one (step
          ∙ ap (λ x. later x (option_map (word_version p) c.word_at.result)) c.loop-i.invariant.value
          ∙ ap (later (newest_upto c.args.t p c.args.paths.now i)) (c.word_at.ensures.value p ∙ rw (many, add-one) refl));
      parts = c.later-word.ensures.parts (i + 1) (at_most i (i + 1) c.loop-i.word (omega arith) c.loop-i.invariant.parts) (equal_most (i + 1) c.word_at.result parts);
    }

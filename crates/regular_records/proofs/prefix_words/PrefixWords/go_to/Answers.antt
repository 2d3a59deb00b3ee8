use Rattle.std.proofs.Common.{◌≡◌, ◌-◌, ◌<◌, ◌≤◌, suc, length, take, refl, sym, ap, ◌∙◌, subst, arith, add-one}
use Rattle.std.specs.Prelude.{Result, Ok, Err, OnOk}
use Rattle.std.proofs.lemmas.List.{length-take, take-take}
use Rattle.regular_records.specs.PrefixWords.{AreFirstWords}
use Rattle.regular_records.proofs.Words.{words-move, own-word, own-last}
use Rattle.regular_records.proofs.prefix_words.PrefixWords.go_to.Goals as goal

pub loop-i-init : goal.loop-i-init
loop-i-init c =
    let p = c.args.path.now in
    let k = c.shared.result in
    let ws = c.args.self.now.words.items in
    let above : length (take (length p - 1) p) ≤ length p - 1 = omega (arith, length-take (length p - 1) p) in
    let within = c.shared.ensures.others in
    let few : k ≤ length p - 1 = omega arith in
    let many = sym c.truncate.new.self.ok.0 ∙ sym c.len-i.ensures in
    let fewer : length c.truncate.new.self.items ≤ k = (let is = ap length c.truncate.ensures.items in omega (arith, length-take k ws)) in
    record {
      words = subst (AreFirstWords c.args.t p c.args.paths.now) (sym c.truncate.ensures.items)
          (words-move c.args.t c.args.self.now.path.now p c.args.paths.now ws k c.requires.words.0 (c.shared.ensures.same ∙ take-take k (length p - 1) p few));
      many = many;
      path = refl;
      inside = omega arith;
    }

pub loop-i-preserved : goal.loop-i-preserved
loop-i-preserved c =
    let p = c.args.path.now in
    let i = c.loop-i.i in
    let many = c.loop-i.invariant.many in
    let inside : i < length p = omega arith in
    let fits : length c.loop-i.self.words.items < length p = omega arith in
    record {
      words = c.in_ok-push_word.ensures.words c.args.t p c.args.paths.now fits c.loop-i.invariant.words
          (own-word c.args.t p c.args.paths.now i (length c.loop-i.self.words.items) c.word_at.result inside many (c.word_at.ensures.value p) c.word_at.ensures.parts);
      many = c.in_ok-push_word.ensures.len ∙ ap suc many ∙ sym (add-one i);
      path = c.loop-i.invariant.path;
      inside = omega arith;
    }

on_both : {A E : Type 0} (r : Result A E) (P Q R : Type 0) → (P → Q → R) → OnOk r P → OnOk r Q → OnOk r R
on_both (Ok x) P Q R f p q = f p q
on_both (Err e) P Q R f p q = tt

pub returns-clause-words : goal.returns-clause-words
returns-clause-words c =
    let p = c.args.path.now in
    let store = c.args.paths.now in
    let ws = c.loop-i.self.words.items in
    let some = c.requires.some in
    let many = c.loop-i.invariant.many in
    let within = c.loop-i.invariant.inside in
    let next : suc (length ws) ≡ length p = omega arith in
    let own = own-last c.args.t p store (length ws) (length p) c.args.versions.now c.first_until.result next refl c.requires.there (c.first_until.ensures.value p) c.first_until.ensures.parts in
    on_both c.push_word-2.result _ _ _
    (λ are len. (subst (λ q. AreFirstWords c.args.t q store c.push_word-2.new.words.items) (sym c.loop-i.invariant.path) are, len ∙ next ∙ ap length (sym c.loop-i.invariant.path)))
    (c.push_word-2.ensures.words c.args.t p store (omega arith) c.loop-i.invariant.words own) c.push_word-2.ensures.len

use Rattle.std.proofs.Common.{◌≡◌, ◌-◌, List, Option, None, suc, length, sym, ap, ◌∙◌, subst, arith}
use Rattle.std.specs.Prelude.{slice_index_or}
use Rattle.regular_records.specs.declared.word.Word.{Word}
use Rattle.regular_records.specs.PrefixWords.{AreFirstWords}
use Rattle.regular_records.proofs.Words.{IsAbove, is_longer, at_most, equal_most, last-word, next-word, words-push}
use Rattle.regular_records.proofs.prefix_words.push_word.Goals as goal

pub returns-clause-words : goal.returns-clause-words
returns-clause-words c t p store fits are own =
    let ws = c.args.words.now.items in
    let n = length ws in
    let above : c.last_word-above.result ≡ slice_index_or ws (n - 1) None = c.last_word-above.ensures ∙ ap (λ (xs : List (Option Word)). slice_index_or xs (length xs - 1) None) c.deref.ensures.value in
    let last = subst (IsAbove t p store n) (sym above) (last-word t p store ws are) in
    let is = c.later.ensures.value p (is_longer p n (suc n) c.last_word-above.result c.args.own (omega arith) fits last.1 own.1) in
    let parts = c.later.ensures.parts (suc n) (at_most n (suc n) c.last_word-above.result (omega arith) last.1) (equal_most (suc n) c.args.own own.1) in
    subst (AreFirstWords t p store) (sym c.in_ok-push.ensures.items)
    (words-push t p store ws c.later.result are (next-word t p store n c.last_word-above.result c.args.own c.later.result last own is parts))

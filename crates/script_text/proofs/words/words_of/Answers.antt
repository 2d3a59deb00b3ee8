use Rattle.std.proofs.Common.{arith, sym, ◌∙◌}
use Rattle.std.proofs.lemmas.Bool.{eqb-false, eqb-true}
use Rattle.std.proofs.lemmas.List.{map_push}
use Rattle.script_text.proofs.Parting.{word_more, word_none}
use Rattle.script_text.proofs.words.words_of.Goals as goal
use Rattle.script_text.proofs.words.words_of.Goals.{then-not-is_empty+in_ok-push, else-not-is_empty}

pub words-preserved : goal.words-preserved
words-preserved c =
    elim c.if-not-is_empty.branch [
      | then-not-is_empty+in_ok-push w ↦
          let some = eqb-false _ _ (sym c.is_empty.ensures ∙ w.if-not-is_empty.true) in
          rw (w.words-is, w.in_ok-push.ensures.items, map_push)
          (word_more _ _ _ _ _ _ c.cut-mark.ensures.pieces (omega arith) (omega (arith, c.if-mark-eq0.false)) c.words.invariant)
      | else-not-is_empty w ↦
          let none = eqb-true _ _ (sym c.is_empty.ensures ∙ w.if-not-is_empty.false) in
          rw w.words-is (word_none _ _ _ _ _ _ c.cut-mark.ensures.pieces none (omega (arith, c.if-mark-eq0.false)) c.words.invariant)
    ]

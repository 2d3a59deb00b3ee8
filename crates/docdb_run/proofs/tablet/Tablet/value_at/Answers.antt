use Rattle.std.proofs.Common.{◌≡◌, ◌-◌, refl, sym, ◌∙◌, arith}
use Rattle.txn_types.specs.Writes.{last_word}
use Rattle.docdb_run.proofs.WorldLemmas.{word_is, word_not}
use Rattle.docdb_run.proofs.tablet.Tablet.value_at.Goals as goal

pub returns-then-is_prefix : goal.returns-then-is_prefix
returns-then-is_prefix c =
    let w = word_is c.items-versions.result.now c.loop-i.i (c.loop-i.i - 1) c.index-versions-i.result c.args.path.now
    (omega arith) (omega arith) c.index-versions-i.is (sym c.is_prefix.ensures ∙ c.if-is_prefix.true) in
    rw (← c.items-versions.ensures, c.loop-i.invariant.word, w) c.value_set.ensures

pub loop-i-preserved : goal.loop-i-preserved
loop-i-preserved c =
    let w = word_not c.items-versions.result.now c.loop-i.i (c.loop-i.i - 1) c.index-versions-i.result c.args.path.now
    (omega arith) (omega arith) c.index-versions-i.is (sym c.is_prefix.ensures ∙ c.if-is_prefix.false) in
    record { in_range = omega arith; word = c.loop-i.invariant.word ∙ w }

pub returns : goal.returns
unfolding last_word
returns c =
    let none : c.loop-i.i ≡ 0 = omega arith in
    let word = rw none at c.loop-i.invariant.word in
    rw (← c.items-versions.ensures, word) refl

use Rattle.std.proofs.Common.{arith}
use Rattle.doc_value.proofs.Texts.{text_more_byte}
use Rattle.doc_value.proofs.read.text_at.Goals as goal

pub loop-byte-preserved-then-byte-ne0 : goal.loop-byte-preserved-then-byte-ne0
loop-byte-preserved-then-byte-ne0 c =
    let first = c.in-Some.ensures.cases in
    (rw c.in_ok-push.ensures.items (text_more_byte c.args.whole c.loop-byte.text.items c.loop-byte.rest.now c.in-Some.after.now c.in-Some.byte.now _ c.if-byte-ne0.true first.0 c.loop-byte.invariant.0), omega (arith, first.1))

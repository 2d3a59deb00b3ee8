use Rattle.sub_doc_key.proofs.Texts.{ascii_step, shown_step}
use Rattle.sub_doc_key.proofs.show.show.Goals as goal

pub loop-i-preserved : goal.loop-i-preserved
loop-i-preserved c =
    let at = c.part-in-loop-i.ensures in
    record {
      text =
          shown_step _ _ _ _ c.args.path.now c.loop-i.i c.part-in-loop-i.result.now at c.loop-i.auto.i c.loop-i.invariant.text c.in_ok-push.ensures.items c.in_ok-show_value.ensures.ok;
      ascii = ascii_step c.args.path.now c.loop-i.i c.part-in-loop-i.result.now at c.loop-i.auto.i c.loop-i.invariant.ascii c.in_ok-show_value.ensures.ascii;
    }

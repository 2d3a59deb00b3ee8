use Rattle.std.proofs.Common.{◌∙◌, List, arith, ap, drop, set, sym}
use Rattle.std.proofs.lemmas.List.{map-set, take_rest}
use Rattle.txn_data.specs.declared.command.Command.{Command}
use Rattle.script_text.specs.Queues.{lists_of}
use Rattle.script_text.proofs.Queueing.{own_queue}
use Rattle.script_text.proofs.queues.write_next.Goals as goal

pub returns-clause-later : goal.returns-clause-later
returns-clause-later c =
    let items = c.args.queues.now.items in
    let q = c.index.result.now in
    let own = own_queue items c.args.session q (omega (arith, c.args.queues.now.ok.0, c.requires.room, c.requires.session)) c.index.ensures in
    rw map-set (ap (λ (cs : List Command). set (lists_of items) c.args.session cs) (take_rest q.now 1 ∙ ap (drop 1) (sym own)))

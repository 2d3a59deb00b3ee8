use Rattle.std.proofs.Common.{◌∙◌, ap}
use Rattle.std.specs.Prelude.{is_some}
use Rattle.own_writes.specs.Numbered.{numbered}
use Rattle.own_writes.proofs.LastWord.{decided_is}
use Rattle.own_writes.proofs.overlay.is_written.Goals as goal

pub returns : goal.returns
returns c = λ ws held.
    let told = c.decided_at.ensures (numbered 0 ws) held in
    let is = decided_is c.newest_is_last_word.ensures ws c.args.path.now in
    c.is_some.ensures ∙ ap is_some told ∙ is

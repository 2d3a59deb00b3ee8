use Rattle.std.proofs.Common.{◌≡◌, ◌∙◌, sym, ap, true}
use Rattle.std.specs.Prelude.{is_some}
use Rattle.txn_data.specs.declared.row.Row.{Row}
use Rattle.txn_types.specs.Writes.{last_word, value}
use Rattle.own_writes.specs.Numbered.{numbered}
use Rattle.own_writes.proofs.LastWord.{row_over}
use Rattle.own_writes.proofs.Numbers.{writes_again}
use Rattle.own_writes.proofs.overlay.row_over.Goals as goal

pub returns : goal.returns
returns c = λ ws held.
    let is : is_some (last_word ws c.args.row.path) ≡ true = sym (c.is_written.ensures ws held) ∙ c.if-not-is_written.false in
    let found = c.in_ok-value.ensures (numbered 0 ws) held in
    let shown = row_over ws c.args.row is in
    let same = ap (λ us. value us c.args.row.path) (writes_again 0 ws) in
    ap (λ v. let r : Row = record { path = c.args.row.path; value = v } in r) (found ∙ same) ∙ sym shown

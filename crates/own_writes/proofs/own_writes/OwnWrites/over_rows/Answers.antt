use Rattle.std.proofs.Common.{◌≡◌, List, ap, subst}
use Rattle.std.specs.Prelude.{map, IfOk}
use Rattle.txn_data.specs.declared.written.Written.{Written}
use Rattle.txn_types.specs.Session.{writes_of, row_under}
use Rattle.own_writes.specs.Indexed.{written}
use Rattle.own_writes.specs.OwnWrites.{writes}
use Rattle.own_writes.proofs.Index.{if_indexed}
use Rattle.own_writes.proofs.own_writes.OwnWrites.over_rows.Goals as goal

pub returns-clause-rows : goal.returns-clause-rows
returns-clause-rows c = λ places.
    let new = c.index.new.self in
    let ws = written new.writes.items in
    let same : ws ≡ writes_of (writes c.args.self.now) = ap writes_of c.in_ok-index.ensures.same in
    let P : List Written → Type 0 = λ us. IfOk c.rows_over.result (λ all. all ≡ map (row_under us) c.args.rows) in
    subst P same (if_indexed new.by_path new.indexed new.writes.items c.rows_over.result (map (row_under ws) c.args.rows) c.in_ok-index.ensures.all new.held (λ held. c.rows_over.ensures ws held))

use Rattle.std.proofs.Common.{◌≡◌, List, [], ◌++◌, ap, subst, sym, ◌∙◌, append-nil}
use Rattle.std.specs.Prelude.{filter, IfOk}
use Rattle.txn_data.specs.declared.row.Row.{Row}
use Rattle.txn_data.specs.declared.written.Written.{Written}
use Rattle.txn_types.specs.Session.{writes_of, is_untouched, with_rows}
use Rattle.txn_types.specs.Writes.{beneath}
use Rattle.own_writes.specs.Numbered.{numbered}
use Rattle.own_writes.specs.Merging.{Rise}
use Rattle.own_writes.specs.Indexed.{written}
use Rattle.own_writes.specs.OwnWrites.{writes}
use Rattle.own_writes.proofs.Index.{on_indexed}
use Rattle.own_writes.proofs.Numbers.{writes_again}
use Rattle.own_writes.proofs.Rising.{beneath_rise}
use Rattle.own_writes.proofs.own_writes.OwnWrites.over_scan.Goals as goal

pub merged-requires : goal.merged-requires
merged-requires c =
    let new = c.index.new.self in
    let ws = written new.writes.items in
    let path = c.args.place.now.path in
    let scanned : c.in_ok-own.own ≡ beneath ws path =
    on_indexed new.by_path new.indexed new.writes.items _ _ c.in_ok-index.ensures.all new.held (λ held. c.in_ok-own.ensures.rows (numbered 0 ws) held ∙ ap (λ us. beneath us path) (writes_again 0 ws)) in
    let P : List Row → Type 0 = λ rows. Rise rows in
    subst P (sym scanned ∙ sym c.into_items.ensures) (beneath_rise ws path)

pub returns-clause-rows : goal.returns-clause-rows
returns-clause-rows c =
    let new = c.index.new.self in
    let ws = written new.writes.items in
    let path = c.args.place.now.path in
    let scanned : c.in_ok-own.own ≡ beneath ws path =
    on_indexed new.by_path new.indexed new.writes.items _ _ c.in_ok-index.ensures.all new.held (λ held. c.in_ok-own.ensures.rows (numbered 0 ws) held ∙ ap (λ us. beneath us path) (writes_again 0 ws)) in
    let rest : c.in_ok-rest.rest.items ≡ filter (is_untouched ws) c.args.rows =
    on_indexed new.by_path new.indexed new.writes.items _ _ c.in_ok-index.ensures.all new.held (λ held. c.in_ok-rest.ensures ws held) in
    let same : ws ≡ writes_of (writes c.args.self.now) = ap writes_of c.in_ok-index.ensures.same in
    let first : c.into_items.result.items ≡ beneath ws path ++ [] = c.into_items.ensures ∙ scanned ∙ sym (append-nil (beneath ws path)) in
    let P : List Row → Type 0 = λ rows. IfOk c.merged.result (λ all. all ≡ with_rows rows c.in_ok-rest.rest.items) in
    let Q : List Row → Type 0 = λ rows. IfOk c.merged.result (λ all. all ≡ with_rows (beneath ws path ++ []) rows) in
    let R : List Written → Type 0 = λ us. IfOk c.merged.result (λ all. all ≡ with_rows (beneath us path ++ []) (filter (is_untouched us) c.args.rows)) in
    subst R same (subst Q rest (subst P first c.merged.ensures))

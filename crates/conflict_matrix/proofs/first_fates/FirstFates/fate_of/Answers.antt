use Rattle.std.proofs.Common.{sym, ap, ◌∙◌}
use Rattle.std.specs.List.{slice_get}
use Rattle.txn_types.specs.Tablet.{first_fate as fate_in}
use Rattle.conflict_matrix.specs.Firsts.{own_fate}
use Rattle.conflict_matrix.proofs.Walk.{rest-rises, rest-tells, rest-first}
use Rattle.conflict_matrix.proofs.first_fates.FirstFates.fate_of.Goals as goal

pub invariant_of-self : goal.invariant_of-self
invariant_of-self c = record { in_order = λ walks. rw c.not_below-self.ensures (rest-rises c.args.txn c.args.self.now.rest.now (c.args.self.now.in_order walks)) }

pub returns-clause-told : goal.returns-clause-told
returns-clause-told c =
    c.own_fate.ensures
    ∙ ap (λ l. own_fate c.args.txn (slice_get l 0)) c.not_below-self.ensures
    ∙ sym (rest-first c.args.txn c.args.self.now.rest.now (c.args.self.now.in_order c.if-not-self.false))

pub returns-clause-later : goal.returns-clause-later
returns-clause-later c = λ x le.
    ap (λ l. fate_in l x) c.not_below-self.ensures ∙ rest-tells c.args.txn x c.args.self.now.rest.now (le c.if-not-self.false)

use Rattle.own_writes.proofs.NextRow.{less_some, equal_some, greater_some, greater_none}
use Rattle.std.proofs.Common.{◌∙◌, sym}
use Rattle.own_writes.proofs.merging.next_row.Goals as goal

pub returns-in-Less-clause-some : goal.returns-in-Less-clause-some
returns-in-Less-clause-some c = less_some _ _ _ _ c.requires (sym c.order_of.ensures ∙ c.in-Less.is) c.pop_front.ensures.items

pub returns-in-Equal-clause-some : goal.returns-in-Equal-clause-some
returns-in-Equal-clause-some c =
    equal_some _ _ _ _ _ c.requires (sym c.order_of.ensures ∙ c.in-Equal.is) c.pop_front-in-Equal-2.ensures.items c.pop_front-in-Equal.ensures.rest

pub returns-in-Greater-clause-some : goal.returns-in-Greater-clause-some
returns-in-Greater-clause-some c = greater_some _ _ _ _ c.requires (sym c.order_of.ensures ∙ c.in-Greater.is) c.pop_front-in-Greater.ensures.items

pub returns-in-Greater-clause-none : goal.returns-in-Greater-clause-none
returns-in-Greater-clause-none c = greater_none _ _ _ c.pop_front-in-Greater.result (sym c.order_of.ensures ∙ c.in-Greater.is) c.pop_front-in-Greater.ensures.items c.pop_front-in-Greater.ensures.rest

use Rattle.std.proofs.Common.{List, IsAscii, subst}
use Rattle.doc_value.specs.declared.primitive.Primitive.{Primitive}
use Rattle.doc_key.specs.Showing.{shown_columns}
use Rattle.doc_key.proofs.Shown.{key_ascii, kept}
use Rattle.doc_key.proofs.doc_key.DocKey.show.Goals as goal

pub returns-in_err-show_columns-2-clause-memory : goal.returns-in_err-show_columns-2-clause-memory
returns-in_err-show_columns-2-clause-memory c =
    kept _ _ _ _ _ _ _ _ _ c.in_ok-push.ensures.items c.in_ok-show_columns.ensures.ok c.in_ok-push-2.ensures.items c.in_err-show_columns-2.ensures.memory

pub returns-clause-ascii : goal.returns-clause-ascii
returns-clause-ascii c =
    let Is : List Primitive → Type 0 = λ cs. IsAscii (shown_columns cs) in
    key_ascii c.args.self.now (subst Is c.items.ensures c.in_ok-show_columns.ensures.ascii) (subst Is c.items-2.ensures c.in_ok-show_columns-2.ensures.ascii)

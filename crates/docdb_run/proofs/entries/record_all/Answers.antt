use Rattle.std.proofs.Common.{◌++◌, length, ap, sym, ◌∙◌, rules, List}
use Rattle.std.proofs.lemmas.List.{map-id}
use Rattle.std.proofs.lemmas.Result.{err_from_is_err_and}
use Rattle.std.proofs.lemmas.Iterator.Consumers.{YieldsList-so_far}
use Rattle.std.proofs.lemmas.Iterator.Adapters.{YieldsList-from_vec}
use Rattle.txn_data.specs.declared.entry.Entry.{Entry}
use Rattle.docdb_run.proofs.entries.record_all.Goals as goal

pub returns-in_err-push-clause-memory : goal.returns-in_err-push-clause-memory
returns-in_err-push-clause-memory c =
    let before = YieldsList-so_far (YieldsList-from_vec {s = c.into_iter-entry-iterator.result} c.args.entries (search rules) (search rules))
    c.loop-entry.yielded c.loop-entry.entry-iterator c.loop-entry.yielded_by in
    let p = err_from_is_err_and c.from_residual.result c.from_residual.ensures.1 in
    rw (p.1) (
      length c.loop-entry.yielded,
      c.in_err-push.ensures.memory ∙ c.loop-entry.invariant
          ∙ ap (λ (xs : List Entry). c.args.trace.now.entries ++ xs) (sym (map-id c.loop-entry.yielded) ∙ before),
    )

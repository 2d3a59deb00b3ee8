use Rattle.std.proofs.Common.{sym, ◌∙◌, arith}
use Rattle.std.proofs.lemmas.Result.{err_from_is_err_and}
use Rattle.docdb_run.specs.Course.{at_first, entries_from, pass_entries}
use Rattle.docdb_run.proofs.WorldLemmas.{clock_moves, commands_move, told_more, entries_more, form_here, told_done, entries_done, whole_begins, within_begins, end_begins}
use Rattle.docdb_run.proofs.simulate.simulate.Goals as goal

pub run-requires-clause-form : goal.run-requires-clause-form
run-requires-clause-form c =
    (form_here c.loop-command.world.clock c.args.commands.now c.loop-command.command-index c.command-item.result
    c.loop-command-test.true c.command-item.is c.loop-command.invariant.lines).0

pub returns-in_err-run-clause-memory : goal.returns-in_err-run-clause-memory
returns-in_err-run-clause-memory c =
    let p = err_from_is_err_and c.from_residual.result c.from_residual.ensures.1 in
    let n = c.in_err-run.ensures.memory.0 in
    let begins = within_begins (entries_from at_first c.args.commands.now) c.loop-command.trace.entries pass_entries
    c.loop-command.world c.args.commands.now c.loop-command.command-index c.command-item.result n
    c.loop-command-test.true c.command-item.is c.loop-command.invariant.recorded in
    rw (p.1) (begins.0, c.in_err-run.ensures.memory.1 ∙ begins.1)

pub returns-in_err-push-clause-memory : goal.returns-in_err-push-clause-memory
returns-in_err-push-clause-memory c =
    let p = err_from_is_err_and c.from_residual-in_err-push.result c.from_residual-in_err-push.ensures.1 in
    let more = entries_more (entries_from at_first c.args.commands.now) c.loop-command.trace.entries
    c.loop-command.world c.args.commands.now c.loop-command.command-index c.command-item.result
    c.loop-command-test.true c.command-item.is c.loop-command.invariant.recorded in
    let begins = whole_begins _ _ _ pass_entries more in
    rw (p.1) (begins.0, c.in_ok-run.ensures.entries ∙ begins.1)

pub loop-command-preserved : goal.loop-command-preserved
loop-command-preserved c =
    let cs = c.args.commands.now in
    let i = c.loop-command.command-index in
    let item = c.command-item.result in
    let world = c.loop-command.world in
    record {
      told =
          rw (c.in_ok-push.ensures.items, c.in_ok-run.ensures.told, c.in_ok-run.ensures.course)
          (told_more _ _ world cs i item c.loop-command-test.true c.command-item.is c.loop-command.invariant.told);
      recorded =
          rw (c.in_ok-run.ensures.entries, c.in_ok-run.ensures.course)
          (entries_more _ _ world cs i item c.loop-command-test.true c.command-item.is c.loop-command.invariant.recorded);
      lines =
          rw (c.in_ok-run.ensures.course, ← (clock_moves world item))
          (form_here world.clock cs i item c.loop-command-test.true c.command-item.is c.loop-command.invariant.lines).1;
      few = rw (c.in_ok-run.ensures.course) (omega (arith, commands_move world item, c.loop-command.invariant.few));
    }

pub returns-in_err-last_pass-clause-memory : goal.returns-in_err-last_pass-clause-memory
returns-in_err-last_pass-clause-memory c =
    let p = err_from_is_err_and c.from_residual-in_err-last_pass.result c.from_residual-in_err-last_pass.ensures.1 in
    rw (p.1) (whole_begins _ _ _ pass_entries c.loop-command.invariant.recorded)

pub returns-in_err-record_all-clause-memory : goal.returns-in_err-record_all-clause-memory
returns-in_err-record_all-clause-memory c =
    let p = err_from_is_err_and c.from_residual-in_err-record_all.result c.from_residual-in_err-record_all.ensures.1 in
    let done = entries_done _ _ c.loop-command.world c.args.commands.now c.loop-command.command-index
    c.loop-command-test.false c.loop-command.invariant.recorded in
    let memory = rw (c.in_ok-last_pass.ensures) at c.in_err-record_all.ensures.memory in
    let begins = end_begins (entries_from at_first c.args.commands.now) c.loop-command.trace.entries pass_entries memory.0 done in
    rw (p.1) (begins.0, memory.1 ∙ begins.1)

pub returns-clause-told : goal.returns-clause-told
returns-clause-told c =
    sym
    (told_done _ _ c.loop-command.world c.args.commands.now c.loop-command.command-index c.loop-command-test.false
    c.loop-command.invariant.told)

pub returns-clause-entries : goal.returns-clause-entries
returns-clause-entries c =
    let done = entries_done (entries_from at_first c.args.commands.now) c.loop-command.trace.entries c.loop-command.world
    c.args.commands.now c.loop-command.command-index c.loop-command-test.false c.loop-command.invariant.recorded in
    rw (done, ← c.in_ok-last_pass.ensures) c.in_ok-record_all.ensures.ok

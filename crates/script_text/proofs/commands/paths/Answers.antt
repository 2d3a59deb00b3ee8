use Rattle.std.proofs.Common.{subst, sym, ◌∙◌}
use Rattle.std.proofs.lemmas.Result.{err_from_is_err_and}
use Rattle.script_text.specs.Outcomes.{IsRefused}
use Rattle.script_text.proofs.Steps.{paths_all, paths_more, paths_refused}
use Rattle.script_text.proofs.commands.paths.Goals as goal

pub returns-in_err-path : goal.returns-in_err-path
returns-in_err-path c =
    let p = err_from_is_err_and c.from_residual.result c.from_residual.ensures.1 in
    rw (p.1, p.2) (subst (IsRefused c.in_err-path.field-0.0) c.paths.invariant
    (paths_refused c.in_err-path.field-0.0 c.args.config.now c.paths.places.items c.args.words.now c.paths.word-index _ c.paths-test.true c.in_err-path.ensures))

pub paths-preserved : goal.paths-preserved
paths-preserved c =
    rw c.in_ok-push.ensures.items (paths_more c.args.config.now c.paths.places.items c.args.words.now c.paths.word-index _ c.in_ok-path.field-0 c.paths-test.true c.in_ok-path.ensures ∙ c.paths.invariant)

pub returns : goal.returns
returns c = sym c.paths.invariant ∙ paths_all c.args.config.now c.paths.places.items c.args.words.now c.paths.word-index c.paths-test.false

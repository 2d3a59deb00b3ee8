use Rattle.std.proofs.lemmas.Result.{IfOk-weaker}
use Rattle.regular_records.proofs.Held.{held-by, if_ok-same}
use Rattle.regular_records.proofs.Scanned.{rows-kept, all_fit}
use Rattle.regular_records.proofs.map_versions.MapVersionsVersions.scan_at.Goals as goal

pub returns-clause-rows : goal.returns-clause-rows
returns-clause-rows c vs h =
    let store = c.self.inside.paths in
    if_ok-same c.rows_at.result _ _
    (rows-kept c.args.t c.as_parts.result.now store vs c.args.path.now c.self.invariant.0 (held-by c.args.self.now store vs c.self.view_is h) c.as_parts.ensures.value)
    c.rows_at.ensures

pub returns-clause-fit : goal.returns-clause-fit
returns-clause-fit c = IfOk-weaker c.rows_at.result _ _ (λ rows e. all_fit rows) c.rows_at.ensures

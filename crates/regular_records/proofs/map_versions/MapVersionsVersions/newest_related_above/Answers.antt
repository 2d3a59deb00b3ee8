use Rattle.std.proofs.Common.{◌≤◌, length, sym, ◌∙◌, subst}
use Rattle.regular_records.proofs.Held.{held-by}
use Rattle.regular_records.proofs.Greatest.{greatest-found}
use Rattle.regular_records.proofs.map_versions.MapVersionsVersions.newest_related_above.Goals as goal

pub returns : goal.returns
returns c vs h =
    let store = c.self.inside.paths in
    let path = c.deref.ensures.value ∙ c.as_parts.ensures.value in
    c.time_above.ensures
    ∙ greatest-found c.args.t c.deref.result.now c.args.path.now store c.self.inside.beneath vs c.self.invariant.0 c.self.invariant.1 (held-by c.args.self.now store vs c.self.view_is h)
    (subst (λ q. 1 ≤ length q) (sym path) c.as_parts.ensures.least) path

use Rattle.std.proofs.Common.{◌∙◌}
use Rattle.regular_records.proofs.Held.{held-by, value-kept, if_ok-same}
use Rattle.regular_records.proofs.map_versions.MapVersionsVersions.get_at.Goals as goal

pub returns : goal.returns
returns c vs h =
    let q = c.deref.result.now in
    let store = c.self.inside.paths in
    if_ok-same c.value_at.result _ _
    (value-kept c.args.t c.args.path.now q store vs c.self.invariant.0 (held-by c.args.self.now store vs c.self.view_is h) (c.deref.ensures.value ∙ c.as_parts.ensures.value))
    c.value_at.ensures

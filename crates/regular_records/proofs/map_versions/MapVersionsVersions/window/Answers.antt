use Rattle.std.proofs.Common.{Some, None, sym, ap, ◌∙◌}
use Rattle.std.specs.Prelude.{option_map}
use Rattle.regular_records.specs.Related.{newest_met, best_from}
use Rattle.regular_records.proofs.Held.{held-by}
use Rattle.regular_records.proofs.Several.{met-kept, met-path}
use Rattle.regular_records.proofs.map_versions.MapVersionsVersions.window.Goals as goal

pub of_parts-requires-clause-least : goal.of_parts-requires-clause-least
of_parts-requires-clause-least c =
    (met-path c.args.t (Some c.args.w.now) c.self.inside.paths c.items.result.now (newest_met c.in-Some.met) c.self.invariant.0
    (sym c.best_of.ensures ∙ ap (option_map newest_met) c.in-Some.is)).0

pub of_parts-requires-clause-most : goal.of_parts-requires-clause-most
of_parts-requires-clause-most c =
    (met-path c.args.t (Some c.args.w.now) c.self.inside.paths c.items.result.now (newest_met c.in-Some.met) c.self.invariant.0
    (sym c.best_of.ensures ∙ ap (option_map newest_met) c.in-Some.is)).1

pub returns-in-None : goal.returns-in-None
returns-in-None c vs h =
    let store = c.self.inside.paths in
    sym (ap (option_map newest_met) c.in-None.is) ∙ c.best_of.ensures
    ∙ ap (best_from c.args.t (Some c.args.w.now) store None) c.items.ensures
    ∙ met-kept c.args.t c.args.w.now store c.args.paths.now vs c.self.invariant.0 (held-by c.args.self.now store vs c.self.view_is h)

pub returns-in_ok-path-in-Some : goal.returns-in_ok-path-in-Some
returns-in_ok-path-in-Some c vs h =
    let store = c.self.inside.paths in
    ap (λ p. Some (record { at = c.in-Some.met.key.now.at; path = p })) c.in_ok-path-in-Some.ensures
    ∙ sym (ap (option_map newest_met) c.in-Some.is) ∙ c.best_of.ensures
    ∙ ap (best_from c.args.t (Some c.args.w.now) store None) c.items.ensures
    ∙ met-kept c.args.t c.args.w.now store c.args.paths.now vs c.self.invariant.0 (held-by c.args.self.now store vs c.self.view_is h)

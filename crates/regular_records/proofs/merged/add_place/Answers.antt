use Rattle.std.proofs.Common.{List, sym, ap, ◌∙◌, subst}
use Rattle.std.specs.List.{AllByRecursion}
use Rattle.txn_types.specs.Writes.{with_path}
use Rattle.regular_records.specs.Merged.{Place, paths_in, HasParts, IsKnown, AreKnown}
use Rattle.regular_records.proofs.Both.{paths-insert, parts-insert, known-insert}
use Rattle.regular_records.proofs.merged.add_place.Goals as goal

pub returns-clause-paths : goal.returns-clause-paths
returns-clause-paths c =
    ap paths_in c.in_ok-insert.ensures.entries ∙ paths-insert c.into_parts.result c.args.known c.args.places.now.entries
    ∙ ap (λ q. with_path q (paths_in c.args.places.now.entries)) c.into_parts.ensures.value

pub returns-clause-parts : goal.returns-clause-parts
returns-clause-parts c parts =
    let is = c.into_parts.ensures.value in
    let has : HasParts c.into_parts.result.items = subst HasParts (sym is) (c.into_parts.ensures.least, c.into_parts.ensures.most) in
    let P : List Place → Type 0 = λ es. AllByRecursion HasParts (paths_in es) in
    subst P (sym c.in_ok-insert.ensures.entries) (parts-insert c.into_parts.result c.args.known c.args.places.now.entries has parts)

pub returns-clause-known : goal.returns-clause-known
returns-clause-known c ws known all =
    subst (AreKnown ws) (sym c.in_ok-insert.ensures.entries)
    (known-insert ws c.into_parts.result c.args.known c.args.places.now.entries (subst (λ q. IsKnown ws q c.args.known) (sym c.into_parts.ensures.value) known) all)

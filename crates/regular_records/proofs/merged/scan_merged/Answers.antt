use Rattle.std.proofs.Common.{◌++◌, sym, ◌∙◌, subst}
use Rattle.std.proofs.lemmas.Result.{IfOk-weaker}
use Rattle.txn_types.specs.Tablet.{writes_at}
use Rattle.regular_records.specs.Merged.{AreKnown}
use Rattle.regular_records.proofs.Both.{both-paths, both-fit, both-rows, beneath-have}
use Rattle.regular_records.proofs.merged.scan_merged.Goals as goal

pub rows_on-requires-clause-fit : goal.rows_on-requires-clause-fit
rows_on-requires-clause-fit g c =
    let paths = both-paths c.new-places.result.entries c.add_rows.new.places.entries c.add_rows-2.new.places.entries c.in_ok-rows.rows c.in_ok-rows-2.rows
    c.new-places.ensures.empty c.in_ok-add_rows.ensures.paths c.in_ok-add_rows-2.ensures.paths in
    both-fit g.V.Versions.fits c.add_rows-2.new.places.entries c.in_ok-rows.rows c.in_ok-rows-2.rows paths c.in_ok-rows.ensures.fit c.in_ok-rows-2.ensures.fit

pub returns : goal.returns
returns g c us vs h k =
    let t = c.args.t in
    let p = c.args.path.now in
    let old = c.in_ok-rows.ensures.rows us h in
    let new = c.in_ok-rows-2.ensures.rows vs k in
    let paths = both-paths c.new-places.result.entries c.add_rows.new.places.entries c.add_rows-2.new.places.entries c.in_ok-rows.rows c.in_ok-rows-2.rows
    c.new-places.ensures.empty c.in_ok-add_rows.ensures.paths c.in_ok-add_rows-2.ensures.paths in
    let first = c.in_ok-add_rows.ensures.known us vs h k (beneath-have (writes_at t us) p c.in_ok-rows.rows old) (subst (AreKnown (writes_at t (us ++ vs))) (sym c.new-places.ensures.empty) tt) in
    let known = c.in_ok-add_rows-2.ensures.known us vs h k (beneath-have (writes_at t vs) p c.in_ok-rows-2.rows new) first in
    IfOk-weaker c.rows_on.result _ _
    (λ rows e. e ∙ both-rows t p us vs c.add_rows-2.new.places.entries c.in_ok-rows.rows c.in_ok-rows-2.rows paths old new)
    (c.rows_on.ensures us vs h k known)

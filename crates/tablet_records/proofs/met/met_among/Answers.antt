use Rattle.std.proofs.Common.{◌≡◌, ◌+◌, List, [], ◌∷◌, ◌++◌, take, sym, ap, ◌∙◌, append_assoc}
use Rattle.std.proofs.lemmas.List.{take_more}
use Rattle.doc_path.specs.Path.{Parts}
use Rattle.txn_data.specs.declared.version.Version.{Version}
use Rattle.txn_types.specs.Tablet.{met_in}
use Rattle.regular_records.specs.Records.{better}
use Rattle.tablet_records.proofs.met.met_among.Goals as goal

pub loop-version-preserved : goal.loop-version-preserved
loop-version-preserved g c us h =
    let w = c.in-Some.window in
    let t = c.args.t in
    let paths = c.args.paths.now in
    let v = c.version-item.result in
    let i = c.loop-version.version-index in
    let list = c.args.list.now in
    let done = take i list in
    let more : take (i + 1) list ≡ done ++ v ∷ [] = take_more list i v c.loop-version-test.true ∙ ap (λ (x : Version). done ++ x ∷ []) (sym c.version-item.is) in
    c.in_ok-met-2.ensures
    ∙ ap (λ (ps : List Parts). better c.loop-version.met (met_in w t ps (v ∷ []))) c.items.ensures
    ∙ ap (λ m. better m (met_in w t paths (v ∷ []))) (c.loop-version.invariant us h)
    ∙ sym (c.met_of_both.ensures w t paths (us ++ done) (v ∷ []))
    ∙ ap (met_in w t paths) (append_assoc us done (v ∷ []) ∙ ap (λ (l : List Version). us ++ l) (sym more))

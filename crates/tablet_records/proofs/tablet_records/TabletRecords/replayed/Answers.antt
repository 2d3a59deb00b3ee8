use Rattle.std.proofs.Common.{◌≡◌, ◌+◌, [], ◌∷◌, ◌++◌, take, ap, subst, sym, ◌∙◌, arith}
use Rattle.std.proofs.lemmas.List.{take_more}
use Rattle.tablet_log.specs.Replay.{TabletState, tablet_of, tablet_after, tablet_at_first}
use Rattle.tablet_records.specs.Keeps.{Keeps}
use Rattle.tablet_records.proofs.Changing.{fold_push}
use Rattle.tablet_records.proofs.tablet_records.TabletRecords.replayed.Goals as goal

pub loop-logged-preserved : goal.loop-logged-preserved
loop-logged-preserved g c =
    let i = c.loop-logged.logged-index in
    let r = c.logged-item.result in
    let more : take (i + 1) c.args.records.now ≡ take i c.args.records.now ++ r ∷ [] = grind (arith, take_more c.args.records.now i r c.loop-logged-test.true, c.logged-item.is) in
    let step : tablet_of (take (i + 1) c.args.records.now) ≡ tablet_after (tablet_of (take i c.args.records.now)) r =
    ap tablet_of more ∙ fold_push tablet_after tablet_at_first (take i c.args.records.now) r in
    subst (λ (s : TabletState). Keeps g.V.Versions.holds c.apply.new.self s.intents s.versions) (sym step)
    (c.in_ok-apply.ensures.ok (tablet_of (take i c.args.records.now)).intents (tablet_of (take i c.args.records.now)).versions c.loop-logged.invariant)

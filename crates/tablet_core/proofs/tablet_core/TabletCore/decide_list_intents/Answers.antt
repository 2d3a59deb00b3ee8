use Rattle.std.proofs.Common.{None, List, refl, sym, ap, rules}
use Rattle.txn_data.specs.declared.found.Found.{Found}
use Rattle.txn_data.specs.declared.reply.Reply.TheVariants.{Intents}
use Rattle.txn_data.specs.declared.request.Request.TheVariants as request
use Rattle.txn_types.specs.Clock.{told_only}
use Rattle.txn_types.specs.Tablet.{provisional, versions}
use Rattle.tablet_core.proofs.Says.{told_decided}
use Rattle.tablet_core.proofs.tablet_core.TabletCore.decide_list_intents.Goals as goal

pub returns : goal.returns
returns g c = rw (c.tell.ensures, ← c.self.view_is) (told_decided g.V.Versions.holds _ g.V.Versions.fits None request.ListIntents
    (Intents c.in_ok-all.all) tt tt refl
    (λ h kept fails. ap (λ (fs : List Found). told_only (Intents fs)) (sym (c.in_ok-all.ensures (provisional h) (versions h) kept))) (search rules))

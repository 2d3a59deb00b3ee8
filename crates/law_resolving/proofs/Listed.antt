-- What a tablet tells of the others before a write was begun.
use Rattle.std.proofs.Common.{◌≡◌, ℕ, List, Option, Some, None, ◌&&◌, not, subst}
use Rattle.doc_path.specs.Path.{Parts, related}
use Rattle.txn_data.specs.declared.actor.Actor.TheVariants.{Tablet}
use Rattle.txn_data.specs.declared.append.Append.{Append}
use Rattle.txn_data.specs.declared.config.Config.{Config}
use Rattle.txn_data.specs.declared.found.Found.{Found}
use Rattle.txn_data.specs.declared.request.Request.TheVariants as request
use Rattle.txn_data.specs.declared.reply.Reply.TheVariants as reply
use Rattle.txn_types.specs.Lists.{Member}
use Rattle.txn_types.specs.History.{History, own}
use Rattle.txn_types.specs.Clock.{told_only, down_since}
use Rattle.txn_types.specs.Tablet.{Intent, is_of, provisional, founds, others_on, tablet_standing}
use Rattle.txn_types.specs.Run.{Run, Serves}
use Rattle.law_machines.proofs.Basics.{filter_member}
use Rattle.law_open_txns.specs.Transaction.{Begun}
use Rattle.law_cleaning.proofs.Listed.{AllBegun, founds_member, intent_begun}

same_others : (fs gs : List Found) → reply.Others fs ≡ reply.Others gs → fs ≡ gs
same_others fs gs is = cc

others_standing : (d : Option ℕ) (fs gs : List Found) → reply.Others fs ≡ (tablet_standing d (told_only (reply.Others gs))).reply → fs ≡ gs
others_standing (Some n) fs gs is = cc
others_standing None fs gs is = same_others fs gs is

pub others_begun : (config : Config) (lease k x : ℕ) (path : Parts) (g : History) (reading : Option ℕ) (fs : List Found) (time : Option ℕ) (append : Append) → Run config g →
    Serves lease (Tablet k) (own (Tablet k) g) reading (request.ListWrite x path) (reply.Others fs) time append → AllBegun g fs
others_begun config lease k x path g reading fs time append run served f m =
    let ps = provisional (own (Tablet k) g) in
    let is : fs ≡ founds ps (others_on x path ps) = others_standing (down_since (own (Tablet k) g)) fs (founds ps (others_on x path ps)) served.replied in
    let p = founds_member f ps (others_on x path ps) (subst (λ (l : List Found). Member f l) is m) in
    let here = (filter_member (λ (q : Intent). not (is_of x q) && related q.path path) p.0 ps p.1).0 in
    subst (λ (y : ℕ). Begun g y) p.2 (intent_begun config k g p.0 run here)

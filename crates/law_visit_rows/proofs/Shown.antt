-- A visit shows the writes of what is committed up to its time.
use Rattle.std.proofs.Common.{◌≡◌, ℕ, ◌≤◌, [], ◌∷◌, Option, Some, refl, sym, ◌∙◌, ap, subst, inl, inr, arith}
use Rattle.txn_data.specs.declared.actor.Actor.{Actor}
use Rattle.txn_data.specs.declared.actor.Actor.TheVariants.{Tablet}
use Rattle.txn_data.specs.declared.append.Append.{Append}
use Rattle.txn_data.specs.declared.config.Config.{Config}
use Rattle.txn_data.specs.declared.entry.Entry.{Entry}
use Rattle.txn_data.specs.declared.event.Event.{Event}
use Rattle.txn_data.specs.declared.event.Event.TheVariants.{Serve}
use Rattle.txn_data.specs.declared.fate.Fate.TheVariants as fate
use Rattle.txn_data.specs.declared.reply.Reply.{Reply}
use Rattle.txn_data.specs.declared.reply.Reply.TheVariants as reply
use Rattle.txn_data.specs.declared.request.Request.TheVariants as request
use Rattle.txn_data.specs.declared.version.Version.{Version}
use Rattle.txn_data.specs.declared.window.Window.{Window}
use Rattle.txn_types.specs.Lists.{Member}
use Rattle.txn_types.specs.History.{History, own}
use Rattle.txn_types.specs.Tablet.{version_at, considered, provisional, versions}
use Rattle.txn_types.specs.Run.{Run}
use Rattle.law_machines.specs.Own.{StandsOver, ServesNext, time_of}
use Rattle.law_machines.proofs.Owns.{serves_at, member_stands, stands_member, stands_trans}
use Rattle.law_clocks.specs.Laws.{Adds}
use Rattle.law_clocks.proofs.Runs.{member_before, listings_promise}
use Rattle.law_fates.proofs.Runs.{pending_above, told_committed}
use Rattle.law_session_order.proofs.Runs.{commits_above}
use Rattle.law_open_txns.proofs.Tables.{Written, Accepted, Faulty, Turned, written}
use Rattle.law_write_order.proofs.Found.{first_member}
use Rattle.law_versions.specs.Laws.{MakesVersion, IsMadeIn}
use Rattle.law_versions.proofs.Runs.{are_commits, are_writes}
use Rattle.law_courses.proofs.Parts.{part_stands}
use Rattle.law_visits.specs.Visits.{fate_entry, Wanted, Visit}
use Rattle.law_visit_rows.specs.Laws.{VisitsShowTheWrites}
use Rattle.law_visit_rows.proofs.Items.{Item, IsVersion, IsIntent, item_of, collect_served}
use Rattle.law_visit_rows.proofs.Visits.{lists, collects, list_stands, collect_serves, NonePending, item_shown}

-- ## what it considers was written

made_on : (h before : History) (e : Entry) (k : ℕ) (v : Version) → StandsOver e before h → IsMadeIn h before k v → IsMadeIn h h k v
made_on h before e k v stands made = (made.0, member_before made.0 e before h made.1 stands, made.2, made.3)

item_known : (config : Config) (h low : History) (m : Actor) (w : Wanted) (k t : ℕ) (window : Option Window) (answer : Reply) (v : Visit h low m w k t window answer) (x : Version) → Run config h →
    Item v.fates (provisional (own (Tablet k) v.before)) (versions (own (Tablet k) v.before)) x → IsMadeIn h h k x
item_known config h low m w k t window answer v x run (IsVersion of) =
    let c = collects h low m w k t window answer v in
    made_on h v.before c k x v.collected (are_commits config h v.before k x run (inr (c, v.collected)) of)
item_known config h low m w k t window answer v x run (IsIntent p d of first is) =
    let c = collects h low m w k t window answer v in
    let f = first_member v.fates p.meta.txn (fate.Committed d) first in
    let told = v.asked.told f.0 f.1 in
    let e = fate_entry m t f.0 told.0 in
    let in_h : StandsOver e told.0.before h = stands_trans e c told.0.before v.before h (part_stands e told.0.before v.before told.1) v.collected in
    let committed = told_committed config h e p.meta.txn d run (stands_member e told.0.before h in_h) (f.2, f.3) in
    subst (λ (u : Version). IsMadeIn h h k u) is (made_on h v.before c k (version_at d p) v.collected (are_writes config h v.before k d p run (inr (c, v.collected)) of committed))

-- ## what was written up to its time stood at the listing

-- where two entries stand
pub data Place (e f : Entry) (b c : History) : Type 0 where
  Earlier : StandsOver e b c → Place e f b c
  Later : StandsOver f c b → Place e f b c
  Same : e ≡ f → Place e f b c

pub places : (e f : Entry) (b c h : History) → StandsOver e b h → StandsOver f c h → Place e f b c
places e f b c [] one two = absurd one
places e f b c (g ∷ h) one two = elim one [
  | inl here ↦ elim two [
    | inl there ↦ Same (sym here.0 ∙ there.0)
    | inr below ↦ Later (subst (λ (l : History). StandsOver f c l) here.1 below)
  ]
  | inr more ↦ elim two [
    | inl there ↦ Earlier (subst (λ (l : History). StandsOver e b l) there.1 more)
    | inr below ↦ places e f b c h more below
  ]
]

-- when it was written
pub record WrittenAt (x : Version) (event : Event) : Type 0 where
  pub time : ℕ
  pub took : time_of event ≡ Some time
  pub adds : Adds event
  pub wrote : x.wrote ≡ time
  pub not_above : time ≤ x.at

written_time : (w : ℕ) (time : Option ℕ) (append : Append) → Written (reply.Written w) time append → time ≡ Some w
written_time w time append (Accepted v is at took) = let one : v ≡ w = cc in at ∙ ap Some one
written_time w time append (Faulty is) = cc
written_time w time append (Turned why is none nothing) = cc

pub written_at : (config : Config) (h first : History) (x : Version) (k : ℕ) (e : Entry) (event : Event) → Run config h → StandsOver e first h → e.actor ≡ Tablet k → e.event ≡ event → ServesNext config.lease_us (Tablet k) (own (Tablet k) first) e.reading event →
    MakesVersion h x e event → WrittenAt x event
written_at config h first x k e (Serve from (request.Write meta number q op read seen fates) (reply.Written at) time append) run stands actor is served makes =
    let took : time ≡ Some at = written_time at time append (written config.lease_us (Tablet k) (own (Tablet k) first) e.reading meta number q op read seen fates (reply.Written at) time append served) in
    let above = (commits_above config h e x.at number read seen from meta q op fates (reply.Written at) time append run (stands_member e first h stands) is makes.1).2 at took in
    record { time = at; took = took; adds = tt; wrote = ap (λ (u : Version). u.wrote) makes.0; not_above = omega (arith, above) }
written_at config h first x k e (Serve from (request.Single y q op seen fates) r (Some at) append) run stands actor is served makes =
    let time : x.at ≡ at = ap (λ (u : Version). u.at) makes.0 in
    record { time = at; took = refl; adds = tt; wrote = ap (λ (u : Version). u.wrote) makes.0; not_above = omega (arith, time) }
written_at config h first x k e event run stands actor is served makes = absurd makes

not_list : (h : History) (x : Version) (e : Entry) (m : Actor) (w : Wanted) (t : ℕ) (known : Option ℕ) (r : Reply) (time : Option ℕ) (append : Append) → MakesVersion h x e (Serve m (request.ListRead w.own_txn w.paths t w.g known) r time append) → ⊥
not_list h x e m w t known r time append makes = makes

at_list : (config : Config) (h low : History) (m : Actor) (w : Wanted) (k t : ℕ) (window : Option Window) (answer : Reply) (v : Visit h low m w k t window answer) (x : Version) (e : Entry) (first : History) → Run config h → StandsOver e first h → e.actor ≡ Tablet k → MakesVersion h x e e.event →
    x.at ≤ t → WrittenAt x e.event → Member e v.list_before
at_list config h low m w k t window answer v x e first run stands actor makes le wrote =
    let l = lists h low m w k t window answer v in
    elim (places e l first v.list_before h stands (list_stands h low m w k t window answer v)) [
      | Earlier there ↦ stands_member e first v.list_before there
      | Later after ↦
          let up = (listings_promise config h first l e t w.g v.known v.limit wrote.time run stands (stands_member l v.list_before first after) (sym actor) (refl, refl, refl, refl) wrote.adds wrote.took).0 in
          let not_above = wrote.not_above in
          absurd (omega (arith, up, not_above, le))
      | Same is ↦ absurd (not_list h x e m w t v.known (reply.Listed v.limit v.others) v.list_time v.list_append (subst (λ (g : Entry). MakesVersion h x e g.event) is makes))
    ]

-- ## so it is considered

none_pending : (config : Config) (h low : History) (m : Actor) (w : Wanted) (k t c : ℕ) (window : Option Window) (answer : Reply) (v : Visit h low m w k t window answer) → Run config h → c ≤ t → NonePending h low m w k t window answer v c
none_pending config h low m w k t c window answer v run le = λ f is committed told.
    let a = told.0 in
    let e = fate_entry m t f a in
    let in_h : StandsOver e a.before h = stands_trans e (collects h low m w k t window answer v) a.before v.before h (part_stands e a.before v.before told.1) v.collected in
    let event = ap (λ (g : _). Serve m (request.AskFate f.txn t) (reply.FateIs g) a.time a.append) is in
    let above = pending_above config h e m f.txn t c a.time a.append run (stands_member e a.before h in_h) event committed in
    omega (arith, above, le)

pub visits_show : VisitsShowTheWrites
visits_show config h low m w k t window rows run above v =
    let o = own (Tablet k) v.before in
    let vs = considered w.own_txn v.fates (provisional o) (versions o) in
    record {
      versions = vs;
      rows_are = collect_served config.lease_us k o v.reading w.own_txn w.kind w.paths t window v.fates rows v.time v.append (collect_serves config h low m w k t window (reply.Collected rows) v run);
      writes = record {
        known = λ x p of rel le m_x. item_known config h low m w k t window (reply.Collected rows) v x run (item_of w.own_txn v.fates (provisional o) (versions o) x m_x);
        shown = λ x p of rel le made.
            let e = made.0 in
            let place = member_stands e h made.1 in
            let served : ServesNext config.lease_us (Tablet k) (own (Tablet k) place.0) e.reading e.event = subst (λ (a : Actor). ServesNext config.lease_us a (own a place.0) e.reading e.event) made.2 (serves_at config e place.0 h run.1 place.1) in
            let wrote = written_at config h place.0 x k e e.event run place.1 made.2 refl served made.3 in
            let wrote_is = wrote.wrote in
            let not_above = wrote.not_above in
            item_shown config h low m w k t window (reply.Collected rows) v x p e run (λ y own_txn committed. let up = above y x.at own_txn committed in omega (arith, up, le)) (none_pending config h low m w k t x.at window (reply.Collected rows) v run le)
            (omega (arith, wrote_is, not_above, le)) of rel (at_list config h low m w k t window (reply.Collected rows) v x e place.0 run place.1 made.2 made.3 le wrote) made.2 made.3;
      };
    }

-- What a tablet took before a listing of a visit, the collect of the visit considers.
use Rattle.std.proofs.Common.{◌≡◌, ℕ, ◌≤◌, max, true, false, not, List, ◌∷◌, Option, Some, None, nat_le, filter, refl, sym, ◌∙◌, ap, subst, inl, inr, ◌⊎◌, arith}
use Rattle.std.proofs.lemmas.Bool.{le-leb}
use Rattle.std.specs.List.{list_any}
use Rattle.doc_path.specs.Path.{Parts, related}
use Rattle.txn_data.specs.declared.actor.Actor.{Actor}
use Rattle.txn_data.specs.declared.actor.Actor.TheVariants.{Tablet}
use Rattle.txn_data.specs.declared.config.Config.{Config}
use Rattle.txn_data.specs.declared.entry.Entry.{Entry}
use Rattle.txn_data.specs.declared.event.Event.{Event}
use Rattle.txn_data.specs.declared.event.Event.TheVariants.{Serve}
use Rattle.txn_data.specs.declared.fate.Fate.{Fate}
use Rattle.txn_data.specs.declared.fate.Fate.TheVariants as fate
use Rattle.txn_data.specs.declared.fate_of.FateOf.{FateOf}
use Rattle.txn_data.specs.declared.found.Found.{Found}
use Rattle.txn_data.specs.declared.reply.Reply.{Reply}
use Rattle.txn_data.specs.declared.reply.Reply.TheVariants as reply
use Rattle.txn_data.specs.declared.request.Request.TheVariants as request
use Rattle.txn_data.specs.declared.version.Version.{Version}
use Rattle.txn_data.specs.declared.window.Window.{Window}
use Rattle.txn_types.specs.Lists.{Member}
use Rattle.txn_types.specs.History.{History, own, counting}
use Rattle.txn_types.specs.Tablet.{Intent, version_at, txn_of, first_fate, is_own, considered, provisional, versions}
use Rattle.txn_types.specs.Run.{Run, Steps, Serves}
use Rattle.law_machines.specs.Own.{StandsOver, piece}
use Rattle.law_machines.proofs.Basics.{eq_cases, member_left, member_filter}
use Rattle.law_machines.proofs.Owns.{steps_at, stands_member, stands_own, stands_trans, member_own, own_member, member_counted, counted_counting, run_until}
use Rattle.law_machines.proofs.Since.{own_stands}
use Rattle.law_clocks.proofs.Answered.{list_answered}
use Rattle.law_clocks.proofs.Rise.{timed_whole}
use Rattle.law_clocks.proofs.Runs.{member_before}
use Rattle.law_owners.specs.Owner.{Uses}
use Rattle.law_owners.proofs.Runs.{ids_once}
use Rattle.law_fates.specs.Laws.{CommittedAt}
use Rattle.law_fates.proofs.Runs.{commits_once, told_committed, told_aborted}
use Rattle.law_open_txns.specs.Transaction.{Begun}
use Rattle.law_cleaning.proofs.Listed.{intent_begun}
use Rattle.law_forgetting.specs.Laws.{IsForgotten}
use Rattle.law_forgetting.proofs.Forgotten.{told_absent}
use Rattle.law_committed_writes.proofs.Kept.{forgotten_later, forgotten_none}
use Rattle.law_write_order.proofs.Found.{first_member}
use Rattle.law_write_order.proofs.Singles.{counted_split}
use Rattle.law_versions.specs.Laws.{MakesVersion, IsFront, IsWaiting, IsThere, CountsIn}
use Rattle.law_versions.proofs.Runs.{stay, are_there}
use Rattle.law_courses.proofs.Parts.{part_member, part_stands}
use Rattle.law_visits.specs.Visits.{fate_entry, WasAsked, Wanted, list_entry, collect_entry, Visit}
use Rattle.law_visit_rows.proofs.Items.{intent_item, first_some, list_test, list_served, found_of, any_of, all_three}
use Rattle.law_visit_rows.proofs.Intents.{wrote_it, same_txn}

-- ## the entries of a visit

abbrev pub lists : (h low : History) (m : Actor) (w : Wanted) (k t : ℕ) (window : Option Window) (answer : Reply) → Visit h low m w k t window answer → Entry
lists h low m w k t window answer v = list_entry m w k t v.known v.limit v.others v.list_reading v.list_time v.list_append

abbrev pub collects : (h low : History) (m : Actor) (w : Wanted) (k t : ℕ) (window : Option Window) (answer : Reply) → Visit h low m w k t window answer → Entry
collects h low m w k t window answer v = collect_entry m w k t window v.fates answer v.reading v.time v.append

pub list_stands : (h low : History) (m : Actor) (w : Wanted) (k t : ℕ) (window : Option Window) (answer : Reply) (v : Visit h low m w k t window answer) → StandsOver (lists h low m w k t window answer v) v.list_before h
list_stands h low m w k t window answer v = stands_trans (lists h low m w k t window answer v) (collects h low m w k t window answer v) v.list_before v.before h v.listed v.collected

pub list_serves : (config : Config) (h low : History) (m : Actor) (w : Wanted) (k t : ℕ) (window : Option Window) (answer : Reply) (v : Visit h low m w k t window answer) → Run config h →
    Serves config.lease_us (Tablet k) (own (Tablet k) v.list_before) v.list_reading (request.ListRead w.own_txn w.paths t w.g v.known) (reply.Listed v.limit v.others) v.list_time v.list_append
unfolding Steps
list_serves config h low m w k t window answer v run =
    let e = lists h low m w k t window answer v in
    let up_to : Steps config (e ∷ v.list_before) = steps_at config e v.list_before h run.1 (list_stands h low m w k t window answer v) in
    up_to.1.2

pub collect_serves : (config : Config) (h low : History) (m : Actor) (w : Wanted) (k t : ℕ) (window : Option Window) (answer : Reply) (v : Visit h low m w k t window answer) → Run config h →
    Serves config.lease_us (Tablet k) (own (Tablet k) v.before) v.reading (request.Collect w.own_txn w.kind w.paths t window v.fates) answer v.time v.append
unfolding Steps
collect_serves config h low m w k t window answer v run =
    let e = collects h low m w k t window answer v in
    let up_to : Steps config (e ∷ v.before) = steps_at config e v.before h run.1 v.collected in
    up_to.1.2

-- ## what counts where the tablet listed

list_whole : (config : Config) (h low : History) (m : Actor) (w : Wanted) (k t : ℕ) (window : Option Window) (answer : Reply) (v : Visit h low m w k t window answer) → Run config h → piece (own (Tablet k) v.list_before) ≡ None
list_whole config h low m w k t window answer v run =
    let served = list_serves config h low m w k t window answer v run in
    let a = list_answered config.lease_us (Tablet k) (own (Tablet k) v.list_before) v.list_reading w.own_txn w.paths t w.g v.known (reply.Listed v.limit v.others) v.list_time v.list_append served tt in
    timed_whole config.lease_us (Tablet k) (own (Tablet k) v.list_before) v.list_reading (Serve m (request.ListRead w.own_txn w.paths t w.g v.known) (reply.Listed v.limit v.others) v.list_time v.list_append) a.now served a.time

pub single_counts : (config : Config) (h before : History) (f e : Entry) (a : Actor) (x : ℕ) → Run config h → StandsOver f before h → f.actor ≡ a → e.actor ≡ a → piece (own a before) ≡ None → Member e before →
    Member e (counting h) → Uses x e.event → Member e (counting before)
single_counts config h before f e a x run stands at_f at_e none member counts uses =
    elim (counted_split e f (own a before) (own a h) false none (stands_own a f before h at_f stands) (member_counted e a h at_e counts)) [
      | inl there ↦ counted_counting e a before there
      | inr above ↦
          let up = own_stands a e above.0 h above.1 in
          let below : Member e (own a up.0) = subst (λ (l : History). Member e l) (sym up.2) (above.2 e (member_own e a before at_e member)) in
          absurd (ids_once config h up.0 e x run up.1 uses e (own_member e a up.0 below) uses)
    ]

-- ## the versions, and the provisional writes that are listed

-- what is committed at this time is not the read's own transaction
abbrev pub NotOwn : History → Option ℕ → ℕ → Type 0
NotOwn h own_txn c = (y : ℕ) → own_txn ≡ Some y → CommittedAt h y c → ⊥

-- no question of the visit about what is committed at this time was answered Pending
abbrev pub NonePending : (h low : History) (m : Actor) (w : Wanted) (k t : ℕ) (window : Option Window) (answer : Reply) → Visit h low m w k t window answer → ℕ → Type 0
NonePending h low m w k t window answer v c = (f : FateOf) → f.fate ≡ fate.Pending → CommittedAt h f.txn c → WasAsked m t (lists h low m w k t window answer v ∷ v.list_before) v.before f → ⊥

-- the same of some transactions, whichever they are
abbrev NoneOwn : (ℕ → Type 0) → Option ℕ → Type 0
NoneOwn Q own_txn = (y : ℕ) → own_txn ≡ Some y → Q y → ⊥

abbrev NoPending : (Q : ℕ → Type 0) (h low : History) (m : Actor) (w : Wanted) (k t : ℕ) (window : Option Window) (answer : Reply) → Visit h low m w k t window answer → Type 0
NoPending Q h low m w k t window answer v = (f : FateOf) → f.fate ≡ fate.Pending → Q f.txn → WasAsked m t (lists h low m w k t window answer v ∷ v.list_before) v.before f → ⊥

-- a visit that meets nothing of these transactions as its own or as pending; what waits at the listing to become this
-- version is of them
pub record IsClear (Q : ℕ → Type 0) (h low : History) (m : Actor) (w : Wanted) (k t : ℕ) (window : Option Window) (answer : Reply) (v : Visit h low m w k t window answer) (x : Version) : Type 0 where
  pub other : NoneOwn Q w.own_txn
  pub none : NoPending Q h low m w k t window answer v
  pub whose : (p : Intent) → Member p (provisional (own (Tablet k) v.list_before)) → CommittedAt h p.meta.txn x.at → version_at x.at p ≡ x → Q p.meta.txn

not_own : (Q : ℕ → Type 0) (own_txn : Option ℕ) (x : ℕ) → NoneOwn Q own_txn → Q x → is_own own_txn x ≡ false
not_own Q None x other mine = refl
not_own Q (Some y) x other mine = elim (eq_cases x y) [
  | inl same ↦ absurd (other y refl (subst Q same.1 mine))
  | inr differ ↦ differ.0
]

-- the version is there at the collect, or waits there with a provisional write of this transaction
pub data At (h before : History) (k x c : ℕ) (v : Version) : Type 0 where
  Is : Member v (versions (own (Tablet k) before)) → At h before k x c v
  Waits : (p : Intent) → Member p (provisional (own (Tablet k) before)) → p.meta.txn ≡ x → version_at c p ≡ v → At h before k x c v

version_path : (c : ℕ) (p : Intent) (v : Version) → version_at c p ≡ v → p.path ≡ v.path
version_path c p v is = ap (λ (u : Version). u.path) is

still_there : (config : Config) (h before later : History) (k c : ℕ) (p : Intent) (v : Version) → Run config h → IsFront before h → IsFront later h → v.at ≡ c → Member p (provisional (own (Tablet k) before)) → CommittedAt h p.meta.txn c → version_at c p ≡ v →
    Member v (versions (own (Tablet k) later)) ⊎ IsWaiting h v (provisional (own (Tablet k) later)) → At h later k p.meta.txn c v
still_there config h before later k c p v run front after time m committed is there = elim there [
  | inl version ↦ Is version
  | inr waits ↦
      let q = waits.0 in
      let now : version_at c q ≡ v = subst (λ (n : ℕ). version_at n q ≡ v) time waits.2 in
      let q_committed : CommittedAt h q.meta.txn c = subst (λ (n : ℕ). CommittedAt h q.meta.txn n) time waits.3 in
      let same = same_txn config h k c p q run (wrote_it config h before k c p run front m committed) (wrote_it config h later k c q run after waits.1 q_committed) (version_path c p v is ∙ sym (version_path c q v now)) in
      Waits q waits.1 (sym same) now
]

-- a provisional write at the collect, of a transaction that was asked about
fate_item : (Q : ℕ → Type 0) (config : Config) (h low : History) (m : Actor) (w : Wanted) (k t : ℕ) (window : Option Window) (answer : Reply) (v : Visit h low m w k t window answer) (x : Version) (p r : Intent) (f : FateOf) (q : Fate) → Run config h → f.txn ≡ p.meta.txn → f.fate ≡ q →
    WasAsked m t (lists h low m w k t window answer v ∷ v.list_before) v.before f → first_fate v.fates p.meta.txn ≡ Some q → Member p (provisional (own (Tablet k) v.list_before)) → CommittedAt h p.meta.txn x.at → Q p.meta.txn → IsClear Q h low m w k t window answer v x →
    Member r (provisional (own (Tablet k) v.before)) → r.meta.txn ≡ p.meta.txn → version_at x.at r ≡ x → Member x (considered w.own_txn v.fates (provisional (own (Tablet k) v.before)) (versions (own (Tablet k) v.before)))
fate_item Q config h low m w k t window answer v x p r f fate.Pending run txn is told first mp committed mine clear mr same now = absurd (clear.none f is (subst Q (sym txn) mine) told)
fate_item Q config h low m w k t window answer v x p r f fate.Aborted run txn is told first mp committed mine clear mr same now =
    let a = told.0 in
    let e = fate_entry m t f a in
    let in_h : StandsOver e a.before h = stands_trans e (collects h low m w k t window answer v) a.before v.before h (part_stands e a.before v.before told.1) v.collected in
    absurd (told_aborted config h e p.meta.txn x.at run (stands_member e a.before h in_h) (txn, is) committed)
fate_item Q config h low m w k t window answer v x p r f fate.Absent run txn is told first mp committed mine clear mr same now =
    let a = told.0 in
    let e = fate_entry m t f a in
    let in_before : StandsOver e a.before v.before = part_stands e a.before v.before told.1 in
    let in_h : StandsOver e a.before h = stands_trans e (collects h low m w k t window answer v) a.before v.before h in_before v.collected in
    let run_list = run_until config h v.list_before (lists h low m w k t window answer v) run (list_stands h low m w k t window answer v) in
    let begun = intent_begun config k v.list_before p run_list mp in
    let begun_then : Begun a.before p.meta.txn = (begun.0, part_member begun.0 (lists h low m w k t window answer v ∷ v.list_before) a.before told.2 (inr begun.1), begun.2) in
    let gone : IsForgotten a.before p.meta.txn x.at = told_absent config h a.before e p.meta.txn x.at run in_h begun_then (txn, is) committed in
    let run_collect = run_until config h v.before (collects h low m w k t window answer v) run v.collected in
    absurd (forgotten_none config v.before p.meta.txn x.at k r run_collect (forgotten_later v.before a.before e p.meta.txn x.at in_before gone) mr same)
fate_item Q config h low m w k t window answer v x p r f (fate.Committed d) run txn is told first mp committed mine clear mr same now =
    let a = told.0 in
    let e = fate_entry m t f a in
    let in_h : StandsOver e a.before h = stands_trans e (collects h low m w k t window answer v) a.before v.before h (part_stands e a.before v.before told.1) v.collected in
    let at_d = told_committed config h e p.meta.txn d run (stands_member e a.before h in_h) (txn, is) in
    let time : d ≡ x.at = commits_once config h p.meta.txn d x.at run at_d committed in
    let first_r : first_fate v.fates r.meta.txn ≡ Some (fate.Committed x.at) = subst (λ (y : ℕ). first_fate v.fates y ≡ Some (fate.Committed x.at)) (sym same) (subst (λ (n : ℕ). first_fate v.fates p.meta.txn ≡ Some (fate.Committed n)) time first) in
    subst (λ (u : Version). Member u (considered w.own_txn v.fates (provisional (own (Tablet k) v.before)) (versions (own (Tablet k) v.before)))) now
    (intent_item w.own_txn v.fates (provisional (own (Tablet k) v.before)) (versions (own (Tablet k) v.before)) r x.at mr (not_own Q w.own_txn r.meta.txn clear.other (subst Q (sym same) mine)) first_r)

told_item : (Q : ℕ → Type 0) (config : Config) (h low : History) (m : Actor) (w : Wanted) (k t : ℕ) (window : Option Window) (answer : Reply) (v : Visit h low m w k t window answer) (x : Version) (p : Intent) (q : Fate) → Run config h → Member p (provisional (own (Tablet k) v.list_before)) →
    CommittedAt h p.meta.txn x.at → Q p.meta.txn → IsClear Q h low m w k t window answer v x → first_fate v.fates p.meta.txn ≡ Some q → At h v.before k p.meta.txn x.at x →
    Member x (considered w.own_txn v.fates (provisional (own (Tablet k) v.before)) (versions (own (Tablet k) v.before)))
told_item Q config h low m w k t window answer v x p q run mp committed mine clear first (Is version) = member_left x (versions (own (Tablet k) v.before)) _ version
told_item Q config h low m w k t window answer v x p q run mp committed mine clear first (Waits r mr same now) =
    let f = first_member v.fates p.meta.txn q first in
    fate_item Q config h low m w k t window answer v x p r f.0 q run f.2 f.3 (v.asked.told f.0 f.1) first mp committed mine clear mr same now

-- the transaction of a provisional write that the listing has to tell was asked about
asked_about : (Q : ℕ → Type 0) (config : Config) (h low : History) (m : Actor) (w : Wanted) (k t : ℕ) (window : Option Window) (answer : Reply) (v : Visit h low m w k t window answer) (x : Version) (p : Intent) (path : Parts) → Run config h → Member p (provisional (own (Tablet k) v.list_before)) →
    CommittedAt h p.meta.txn x.at → IsClear Q h low m w k t window answer v x → version_at x.at p ≡ x → x.wrote ≤ max t v.limit → Member path w.paths → related x.path path ≡ true → (q : Fate) × (first_fate v.fates p.meta.txn ≡ Some q)
asked_about Q config h low m w k t window answer v x p path run mp committed clear now low_wrote of rel =
    let ps = provisional (own (Tablet k) v.list_before) in
    let served = list_serves config h low m w k t window answer v run in
    let told = list_served config.lease_us k (own (Tablet k) v.list_before) v.list_reading w.own_txn w.paths t w.g v.known v.limit v.others v.list_time v.list_append served in
    let wrote : p.wrote ≡ x.wrote = ap (λ (u : Version). u.wrote) now in
    let at_path : p.path ≡ x.path = ap (λ (u : Version). u.path) now in
    let related_p : related p.path path ≡ true = subst (λ (r : Parts). related r path ≡ true) (sym at_path) rel in
    let passes : list_test w.own_txn w.paths t v.limit p ≡ true = all_three (not (is_own w.own_txn (txn_of p))) (nat_le p.wrote (max t v.limit)) (list_any (related p.path) w.paths)
    (ap not (not_own Q w.own_txn p.meta.txn clear.other (clear.whose p mp committed now))) (le-leb p.wrote (max t v.limit) (omega (arith, wrote, low_wrote))) (any_of (related p.path) w.paths path of related_p) in
    let found = found_of ps (filter (list_test w.own_txn w.paths t v.limit) ps) p (member_filter (list_test w.own_txn w.paths t v.limit) p ps mp passes) in
    let each = v.asked.each found.0 (subst (λ (l : List Found). Member found.0 l) (sym told) found.1) in
    first_some v.fates each.0 p.meta.txn each.1 (each.2 ∙ found.2)

-- ## the collect considers it

-- one item that was made by a write which stood at the listing
write_item : (Q : ℕ → Type 0) (config : Config) (h low : History) (m : Actor) (w : Wanted) (k t : ℕ) (window : Option Window) (answer : Reply) (v : Visit h low m w k t window answer) (x : Version) (path : Parts) → Run config h → IsClear Q h low m w k t window answer v x →
    x.wrote ≤ max t v.limit → Member path w.paths → related x.path path ≡ true →
    Member x (versions (own (Tablet k) v.list_before)) ⊎ IsWaiting h x (provisional (own (Tablet k) v.list_before)) → (IsWaiting h x (provisional (own (Tablet k) v.list_before)) → Member x (versions (own (Tablet k) v.before)) ⊎ IsWaiting h x (provisional (own (Tablet k) v.before))) →
    Member x (considered w.own_txn v.fates (provisional (own (Tablet k) v.before)) (versions (own (Tablet k) v.before)))
write_item Q config h low m w k t window answer v x path run clear low_wrote of rel there later = elim there [
  | inl version ↦
      let run_collect = run_until config h v.before (collects h low m w k t window answer v) run v.collected in
      member_left x (versions (own (Tablet k) v.before)) _ (stay config v.before v.list_before k x run_collect (inr (lists h low m w k t window answer v, v.listed)) version)
  | inr waits ↦
      let p = waits.0 in
      let first = asked_about Q config h low m w k t window answer v x p path run waits.1 waits.3 clear waits.2 low_wrote of rel in
      let at = still_there config h v.list_before v.before k x.at p x run (inr (lists h low m w k t window answer v, list_stands h low m w k t window answer v)) (inr (collects h low m w k t window answer v, v.collected)) refl waits.1 waits.3 waits.2 (later waits) in
      told_item Q config h low m w k t window answer v x p first.0 run waits.1 waits.3 (clear.whose p waits.1 waits.3 waits.2) clear first.1 at
]

item_event : (Q : ℕ → Type 0) (config : Config) (h low : History) (m : Actor) (w : Wanted) (k t : ℕ) (window : Option Window) (answer : Reply) (v : Visit h low m w k t window answer) (x : Version) (path : Parts) (e : Entry) (event : Event) → Run config h → IsClear Q h low m w k t window answer v x →
    x.wrote ≤ max t v.limit → Member path w.paths → related x.path path ≡ true → Member e v.list_before → e.actor ≡ Tablet k → e.event ≡ event → MakesVersion h x e event →
    Member x (considered w.own_txn v.fates (provisional (own (Tablet k) v.before)) (versions (own (Tablet k) v.before)))
item_event Q config h low m w k t window answer v x path e (Serve from (request.Write meta number q op read seen fates) (reply.Written at) time append) run clear low_wrote of rel member actor is makes =
    let event = Serve from (request.Write meta number q op read seen fates) (reply.Written at) time append in
    let l = lists h low m w k t window answer v in
    let c = collects h low m w k t window answer v in
    let makes_e : MakesVersion h x e e.event = subst (λ (ev : Event). MakesVersion h x e ev) (sym is) makes in
    let at_list : CountsIn v.list_before e e.event = subst (λ (ev : Event). CountsIn v.list_before e ev) (sym is) member in
    let at_collect : CountsIn v.before e e.event = subst (λ (ev : Event). CountsIn v.before e ev) (sym is) (member_before e l v.list_before v.before member v.listed) in
    let there : IsThere h x (versions (own (Tablet k) v.list_before)) (provisional (own (Tablet k) v.list_before)) event =
    subst (λ (ev : Event). IsThere h x (versions (own (Tablet k) v.list_before)) (provisional (own (Tablet k) v.list_before)) ev) is (are_there config h v.list_before e k x run (inr (l, list_stands h low m w k t window answer v)) actor at_list makes_e) in
    let later : IsThere h x (versions (own (Tablet k) v.before)) (provisional (own (Tablet k) v.before)) event =
    subst (λ (ev : Event). IsThere h x (versions (own (Tablet k) v.before)) (provisional (own (Tablet k) v.before)) ev) is (are_there config h v.before e k x run (inr (c, v.collected)) actor at_collect makes_e) in
    write_item Q config h low m w k t window answer v x path run clear low_wrote of rel there (λ waits. later)
item_event Q config h low m w k t window answer v x path e (Serve from (request.Single y q op seen fates) r (Some at) append) run clear low_wrote of rel member actor is makes =
    let event = Serve from (request.Single y q op seen fates) r (Some at) append in
    let l = lists h low m w k t window answer v in
    let makes_e : MakesVersion h x e e.event = subst (λ (ev : Event). MakesVersion h x e ev) (sym is) makes in
    let uses : Uses y e.event = subst (λ (ev : Event). Uses y ev) (sym is) refl in
    let counts : Member e (counting v.list_before) = single_counts config h v.list_before l e (Tablet k) y run (list_stands h low m w k t window answer v) refl actor (list_whole config h low m w k t window answer v run) member makes.1 uses in
    let at_list : CountsIn v.list_before e e.event = subst (λ (ev : Event). CountsIn v.list_before e ev) (sym is) counts in
    let there : IsThere h x (versions (own (Tablet k) v.list_before)) (provisional (own (Tablet k) v.list_before)) event =
    subst (λ (ev : Event). IsThere h x (versions (own (Tablet k) v.list_before)) (provisional (own (Tablet k) v.list_before)) ev) is (are_there config h v.list_before e k x run (inr (l, list_stands h low m w k t window answer v)) actor at_list makes_e) in
    write_item Q config h low m w k t window answer v x path run clear low_wrote of rel (inl there) (λ waits. inl (stay config v.before v.list_before k x (run_until config h v.before (collects h low m w k t window answer v) run v.collected) (inr (l, v.listed)) there))
item_event Q config h low m w k t window answer v x path e event run clear low_wrote of rel member actor is makes = absurd makes

-- what the tablet took before the listing, and not above its limits, the collect considers as what it becomes, where the
-- visit is clear of its transaction
pub item_of_shown : (Q : ℕ → Type 0) (config : Config) (h low : History) (m : Actor) (w : Wanted) (k t : ℕ) (window : Option Window) (answer : Reply) (v : Visit h low m w k t window answer) (x : Version) (path : Parts) (e : Entry) → Run config h → IsClear Q h low m w k t window answer v x →
    x.wrote ≤ max t v.limit → Member path w.paths → related x.path path ≡ true → Member e v.list_before → e.actor ≡ Tablet k → MakesVersion h x e e.event →
    Member x (considered w.own_txn v.fates (provisional (own (Tablet k) v.before)) (versions (own (Tablet k) v.before)))
item_of_shown Q config h low m w k t window answer v x path e run clear low_wrote of rel member actor makes =
    item_event Q config h low m w k t window answer v x path e e.event run clear low_wrote of rel member actor refl makes

-- so where nothing that is committed at its time is the read's own, or was pending
pub item_shown : (config : Config) (h low : History) (m : Actor) (w : Wanted) (k t : ℕ) (window : Option Window) (answer : Reply) (v : Visit h low m w k t window answer) (x : Version) (path : Parts) (e : Entry) → Run config h → NotOwn h w.own_txn x.at → NonePending h low m w k t window answer v x.at →
    x.wrote ≤ max t v.limit → Member path w.paths → related x.path path ≡ true → Member e v.list_before → e.actor ≡ Tablet k → MakesVersion h x e e.event →
    Member x (considered w.own_txn v.fates (provisional (own (Tablet k) v.before)) (versions (own (Tablet k) v.before)))
item_shown config h low m w k t window answer v x path e run other none low_wrote of rel member actor makes =
    item_of_shown (λ y. CommittedAt h y x.at) config h low m w k t window answer v x path e run (record { other = other; none = none; whose = λ p mp committed is. committed }) low_wrote of rel member actor makes

-- Related writes of committed transactions are committed in the order in which their tablet took them.
use Rattle.std.proofs.Common.{◌≡◌, ℕ, ◌≤◌, ◌<◌, Bool, true, false, ◌&&◌, not, List, Option, Some, None, max, map, filter, filter_map, refl, sym, ◌∙◌, ap, subst, inl, inr, ◌⊎◌, arith}
use Rattle.doc_path.specs.Path.{Parts, related}
use Rattle.txn_data.specs.declared.actor.Actor.{Actor}
use Rattle.txn_data.specs.declared.actor.Actor.TheVariants.{Tablet}
use Rattle.txn_data.specs.declared.append.Append.{Append}
use Rattle.txn_data.specs.declared.append.Append.TheVariants.{Nothing, Took, Failed}
use Rattle.txn_data.specs.declared.config.Config.{Config}
use Rattle.txn_data.specs.declared.fate.Fate.{Fate}
use Rattle.txn_data.specs.declared.fate.Fate.TheVariants as fate
use Rattle.txn_data.specs.declared.fate_of.FateOf.{FateOf}
use Rattle.txn_data.specs.declared.request.Request.{Request}
use Rattle.txn_data.specs.declared.request.Request.TheVariants as request
use Rattle.txn_data.specs.declared.reply.Reply.{Reply}
use Rattle.txn_data.specs.declared.reply.Reply.TheVariants as reply
use Rattle.txn_data.specs.declared.version.Version.{Version}
use Rattle.txn_data.specs.declared.event.Event.{Event}
use Rattle.txn_data.specs.declared.event.Event.TheVariants.{Serve}
use Rattle.txn_data.specs.declared.entry.Entry.{Entry}
use Rattle.txn_types.specs.Lists.{Member}
use Rattle.txn_types.specs.History.{History, same_actor, own, counting, standing, was_logged}
use Rattle.txn_types.specs.Tablet.{Intent, is_of, txn_of, provisional, versions, others_on, first_fate, is_open, commit_time, related_commits, greatest_fate}
use Rattle.txn_types.specs.Run.{Run}
use Rattle.law_machines.specs.Own.{StandsOver, ServesNext, piece, time_of}
use Rattle.law_machines.proofs.Basics.{eq_cases, same_true, member_left, member_right, member_map, member_filter, filter_member}
use Rattle.law_machines.proofs.Counted.{counted, counting_own, own_all}
use Rattle.law_machines.proofs.Owns.{serves_at, stands_member, stands_own, stands_trans, member_stands, member_own, own_member, member_counted, counted_counting, run_until}
use Rattle.law_machines.proofs.Since.{own_stands}
use Rattle.law_clocks.specs.Laws.{floor_at, IsPast}
use Rattle.law_clocks.proofs.Rise.{timed_whole}
use Rattle.law_clocks.proofs.Runs.{times_rise, times_keep_floors, member_before}
use Rattle.law_owners.specs.Owner.{Uses, IsHomedAt}
use Rattle.law_owners.proofs.Founds.{standing_part}
use Rattle.law_owners.proofs.Runs.{ids_once, requests_homed}
use Rattle.law_fates.specs.Laws.{Tells, CommittedAt}
use Rattle.law_fates.proofs.Runs.{commits_once, told_committed, told_aborted}
use Rattle.law_open_txns.proofs.Tables.{Written, Accepted, Faulty, Turned, written}
use Rattle.law_open_txns.specs.Transaction.{IsLogged, Begun}
use Rattle.law_session_order.proofs.Runs.{commits_above}
use Rattle.law_carried_fates.specs.Laws.{Carries}
use Rattle.law_forgetting.proofs.Forgotten.{told_absent}
use Rattle.law_committed_writes.proofs.Versions.{HasVersion}
use Rattle.law_committed_writes.proofs.Kept.{kept_before, forgotten_later, forgotten_none}
use Rattle.law_resolving.proofs.Runs.{fates_begun}
use Rattle.law_write_order.specs.Laws.{IsCommittedWrite, ReadFrom, RelatedWritesAreInOrder}
use Rattle.law_write_order.proofs.Found.{no_first, IsCommitted, IsAborted, IsAbsent, settled, first_member, greatest_over, none_above, member_mapped}
use Rattle.law_write_order.proofs.Asked.{write_asked, single_asked, apply_timed, single_logged}
use Rattle.law_write_order.proofs.Singles.{IsSingle, single_version, IsTimed, version_reached, counted_split}

-- ## what the earlier write left where the later one comes

-- it is provisional there, or a version with the commit time
abbrev Left : History → ℕ → ℕ → Parts → History → Type 0
Left h x c p o = ((i : Intent) × Member i (provisional o) × (i.meta.txn ≡ x) × (i.path ≡ p) × CommittedAt h x c) ⊎ HasVersion p c (versions o)

written_time : (w : ℕ) (time : Option ℕ) (append : Append) → Written (reply.Written w) time append → time ≡ Some w
written_time w time append (Accepted v is at took) = let same : w ≡ v = cc in at ∙ ap Some (sym same)
written_time w time append (Faulty is) = cc
written_time w time append (Turned why is none nothing) = cc

single_was : (event : Event) (from : Actor) (asked : Request) (r : Reply) (time : Option ℕ) (append : Append) → event ≡ Serve from asked r time append → IsLogged append → was_logged event ≡ true
single_was event from asked r time Nothing is logs = absurd logs
single_was event from asked r time Took is logs = ap was_logged is
single_was event from asked r time Failed is logs = ap was_logged is

-- a single write that counts in the end counts already
single_counts : (config : Config) (h before : History) (f e : Entry) (a : Actor) (x : ℕ) → Run config h → StandsOver f before h → f.actor ≡ a → e.actor ≡ a → piece (own a before) ≡ None → Member e before →
    Member e (counting h) → Uses x e.event → Member e (counted false (own a before))
single_counts config h before f e a x run stands at_f at_e none member counts uses =
    elim (counted_split e f (own a before) (own a h) false none (stands_own a f before h at_f stands) (member_counted e a h at_e counts)) [
      | inl there ↦ there
      | inr above ↦
          let up = own_stands a e above.0 h above.1 in
          let below : Member e (own a up.0) = subst (λ (l : History). Member e l) (sym up.2) (above.2 e (member_own e a before at_e member)) in
          absurd (ids_once config h up.0 e x run up.1 uses e (own_member e a up.0 below) uses)
    ]

left_event : (config : Config) (h before : History) (f e : Entry) (k x c : ℕ) (p : Parts) (event : Event) → Run config h → StandsOver f before h → f.actor ≡ Tablet k → e.actor ≡ Tablet k → piece (own (Tablet k) before) ≡ None →
    Member e before → e.event ≡ event → IsCommittedWrite h x c p e event → Left h x c p (own (Tablet k) before)
left_event config h before f e k x c p (Serve from (request.Write meta number q op read seen fates) (reply.Written w) time append) run stands at_f at_e none member is write =
    let until = run_until config h before f run stands in
    let place = member_stands e before member in
    let served : ServesNext config.lease_us (Tablet k) (own (Tablet k) place.0) e.reading (Serve from (request.Write meta number q op read seen fates) (reply.Written w) time append) =
    subst (λ (ev : Event). ServesNext config.lease_us (Tablet k) (own (Tablet k) place.0) e.reading ev) is
    (subst (λ (d : Actor). ServesNext config.lease_us d (own d place.0) e.reading e.event) at_e (serves_at config e place.0 before until.1 place.1)) in
    let time_is = written_time w time append (written config.lease_us (Tablet k) (own (Tablet k) place.0) e.reading meta number q op read seen fates (reply.Written w) time append served) in
    let event_is = is ∙ ap (λ (t : Option ℕ). Serve from (request.Write meta number q op read seen fates) (reply.Written w) t append) time_is in
    let committed : CommittedAt h meta.txn c = subst (λ (z : ℕ). CommittedAt h z c) (sym write.0) write.2 in
    elim (kept_before config h before f e k c number w read seen from meta q op fates append run stands member at_e event_is committed) [
      | inl there ↦ inl (record { meta = meta; number = number; path = q; op = op; wrote = w }, there, write.0, write.1, write.2)
      | inr v ↦ inr (v.0, v.1, v.2 ∙ write.1, v.3)
    ]
left_event config h before f e k x c p (Serve from (request.Single y q op seen fates) r (Some d) append) run stands at_f at_e none member is write =
    let a = Tablet k in
    let until = run_until config h before f run stands in
    let place = member_stands e before member in
    let served : ServesNext config.lease_us a (own a place.0) e.reading (Serve from (request.Single y q op seen fates) r (Some d) append) =
    subst (λ (ev : Event). ServesNext config.lease_us a (own a place.0) e.reading ev) is
    (subst (λ (b : Actor). ServesNext config.lease_us b (own b place.0) e.reading e.event) at_e (serves_at config e place.0 before until.1 place.1)) in
    let logs = single_was e.event from (request.Single y q op seen fates) r (Some d) append is (single_logged config.lease_us k (own a place.0) e.reading y q op seen fates r d append served) in
    let uses : Uses y e.event = subst (λ (ev : Event). Uses y ev) (sym is) refl in
    let counts = single_counts config h before f e a y run stands at_f at_e none member write.3 uses in
    let in_log : Member e (standing (own a before)) =
    member_filter (λ (g : Entry). was_logged g.event) e (counting (own a before)) (subst (λ (l : History). Member e l) (sym (counting_own a (own a before) (own_all a before))) counts) logs in
    inr (single_version p c e (standing (own a before)) in_log (subst (λ (ev : Event). IsSingle p c ev) (sym is) (write.1, write.2)))
left_event config h before f e k x c p event run stands at_f at_e none member is write = absurd write

-- ## what the later one was told of it

not_own : (b : Bool) (q : Bool) → b ≡ false → q ≡ true → not b && q ≡ true
not_own true q is yes_too = cc
not_own false q is yes_too = yes_too

other_on : (x y : ℕ) (p q : Parts) (i : Intent) (ps : List Intent) → Member i ps → i.meta.txn ≡ x → i.path ≡ p → (x ≡ y → ⊥) → related p q ≡ true → Member i (others_on y q ps)
other_on x y p q i ps m own path other rel = elim (eq_cases i.meta.txn y) [
  | inl same ↦ absurd (other (sym own ∙ same.1))
  | inr differ ↦ member_filter (λ (j : Intent). not (is_of y j) && related j.path q) i ps m (not_own (is_of y i) (related i.path q) differ.0 (subst (λ (z : Parts). related z q ≡ true) (sym path) rel))
]

-- the fate that it was told is the commit
told_fate : (config : Config) (h before : History) (f : Entry) (k x c : ℕ) (fates : List FateOf) (i : Intent) → Run config h → StandsOver f before h → Carries f.event fates → Member i (provisional (own (Tablet k) before)) → i.meta.txn ≡ x →
    CommittedAt h x c → is_open (first_fate fates x) ≡ false → first_fate fates x ≡ Some (fate.Committed c)
told_fate config h before f k x c fates i run stands carries m own committed closed = elim (settled (first_fate fates x) closed) [
  | IsCommitted d is ↦
      let g = first_member fates x (fate.Committed d) is in
      let t = fates_begun config h before f fates g.0 run stands carries g.1 in
      let tells = subst (λ (z : ℕ). Tells z t.1.0.event (fate.Committed d)) g.2 (subst (λ (v : Fate). Tells g.0.txn t.1.0.event v) g.3 t.1.4) in
      let member = member_before t.1.0 f before h (stands_member t.1.0 t.1.1 before t.1.2) stands in
      let same : d ≡ c = commits_once config h x d c run (told_committed config h t.1.0 x d run member tells) committed in
      is ∙ ap (λ (z : ℕ). Some (fate.Committed z)) same
  | IsAborted is ↦
      let g = first_member fates x fate.Aborted is in
      let t = fates_begun config h before f fates g.0 run stands carries g.1 in
      let tells = subst (λ (z : ℕ). Tells z t.1.0.event fate.Aborted) g.2 (subst (λ (v : Fate). Tells g.0.txn t.1.0.event v) g.3 t.1.4) in
      let member = member_before t.1.0 f before h (stands_member t.1.0 t.1.1 before t.1.2) stands in
      absurd (told_aborted config h t.1.0 x c run member tells committed)
  | IsAbsent is ↦
      let g = first_member fates x fate.Absent is in
      let t = fates_begun config h before f fates g.0 run stands carries g.1 in
      let tells = subst (λ (z : ℕ). Tells z t.1.0.event fate.Absent) g.2 (subst (λ (v : Fate). Tells g.0.txn t.1.0.event v) g.3 t.1.4) in
      let begun = subst (λ (z : ℕ). Begun t.1.1 z) g.2 t.1.3 in
      let gone = told_absent config h t.1.1 t.1.0 x c run (stands_trans t.1.0 f t.1.1 before h t.1.2 stands) begun tells committed in
      absurd (forgotten_none config before x c k i (run_until config h before f run stands) (forgotten_later before t.1.1 t.1.0 x c t.1.2 gone) m own)
]

-- ## so it is committed above

serves_event : (config : Config) (h before : History) (f : Entry) (k : ℕ) (event : Event) → Run config h → StandsOver f before h → f.actor ≡ Tablet k → f.event ≡ event → ServesNext config.lease_us (Tablet k) (own (Tablet k) before) f.reading event
serves_event config h before f k event run stands at is =
    subst (λ (ev : Event). ServesNext config.lease_us (Tablet k) (own (Tablet k) before) f.reading ev) is
    (subst (λ (b : Actor). ServesNext config.lease_us b (own b before) f.reading f.event) at (serves_at config f before h run.1 stands))

-- each Apply that was logged took a time that is not below its commit time
applied_timed : (config : Config) (before : History) (k : ℕ) (z : Entry) (event : Event) → Run config before → Member z before → z.actor ≡ Tablet k → z.event ≡ event → was_logged event ≡ true → IsTimed event
applied_timed config before k z (Serve from (request.Apply x at) r None append) run m here is logs =
    let place = member_stands z before m in
    let served = serves_event config before place.0 z k (Serve from (request.Apply x at) r None append) run place.1 here is in
    absurd (apply_timed config.lease_us k (own (Tablet k) place.0) z.reading x at r None append served (log_is append logs))
  where
    log_is : (b : Append) → was_logged (Serve from (request.Apply x at) r None b) ≡ true → IsLogged b
    log_is Nothing l = cc
    log_is Took l = tt
    log_is Failed l = tt
applied_timed config before k z (Serve from (request.Apply x at) r (Some t) append) run m here is logs =
    let past = times_keep_floors config before z t run m (ap time_of is) in
    let under : floor_at (Serve from (request.Apply x at) r (Some t) append) ≤ t = subst (λ (ev : Event). floor_at ev ≤ t) is past.0 in
    (t, refl, under)
applied_timed config before k z event run m here is logs = tt

version_below : (config : Config) (h before : History) (f : Entry) (k c d : ℕ) (v : Version) → Run config h → StandsOver f before h → f.actor ≡ Tablet k → time_of f.event ≡ Some d → Member v (versions (own (Tablet k) before)) → v.at ≡ c →
    (t : ℕ) × (c ≤ t) × IsPast f.event t d
version_below config h before f k c d v run stands at time_is m at_c =
    let a = Tablet k in
    let until = run_until config h before f run stands in
    let reached = version_reached (standing (own a before)) v (λ z n.
    let in_own = standing_part z (own a before) n in
    let here = filter_member (λ (g : Entry). same_actor g.actor a) z before in_own in
    applied_timed config before k z z.event until here.0 (same_true z.actor a here.1) refl (filter_member (λ (g : Entry). was_logged g.event) z (counting (own a before)) n).1) m in
    let z = reached.0 in
    let counts = (filter_member (λ (g : Entry). was_logged g.event) z (counting (own a before)) reached.1).0 in
    let in_own = standing_part z (own a before) reached.1 in
    let actor_is = same_true z.actor a (filter_member (λ (g : Entry). same_actor g.actor a) z before in_own).1 in
    let in_counting : Member z (counting before) = counted_counting z a before (subst (λ (l : History). Member z l) (counting_own a (own a before) (own_all a before)) counts) in
    let under = reached.2.2 in
    (reached.2.0, omega (arith, under, at_c), times_rise config h before z f reached.2.0 d run stands in_counting (actor_is ∙ sym at) reached.2.1 time_is)

abbrev IsAfter : ℕ → ℕ → Event → Type 0
IsAfter c d event = (c < d) × ReadFrom c event

after_event : (config : Config) (h before : History) (f : Entry) (k x y c d : ℕ) (p q : Parts) (event : Event) → Run config h → StandsOver f before h → f.actor ≡ Tablet k → f.event ≡ event → IsCommittedWrite h y d q f event →
    Left h x c p (own (Tablet k) before) → (x ≡ y → ⊥) → related p q ≡ true → IsAfter c d event
after_event config h before f k x y c d p q (Serve from (request.Write meta number path op read seen fates) (reply.Written w) time append) run stands at is write left other rel =
    let o = own (Tablet k) before in
    let event = Serve from (request.Write meta number path op read seen fates) (reply.Written w) time append in
    let asked = write_asked config.lease_us k o f.reading meta number path op read seen fates w time append (serves_event config h before f k event run stands at is) in
    let rel_here : related p path ≡ true = subst (λ (z : Parts). related p z ≡ true) (sym write.1) rel in
    let differ : x ≡ meta.txn → ⊥ = λ same. other (same ∙ write.0) in
    let commits = related_commits meta.txn path fates (provisional o) (versions o) in
    let low : c ≤ read = elim left [
      | inl i ↦
          let on = other_on x meta.txn p path i.0 (provisional o) i.1 i.2 i.3 differ rel_here in
          let closed = no_first (λ z. is_open (first_fate fates z)) i.0.meta.txn (map txn_of (others_on meta.txn path (provisional o))) asked.0 (member_map txn_of i.0 (others_on meta.txn path (provisional o)) on) in
          let told = told_fate config h before f k x c fates i.0 run stands (subst (λ (ev : Event). Carries ev fates) (sym is) refl) i.1 i.2 i.4 (subst (λ (z : ℕ). is_open (first_fate fates z) ≡ false) i.2 closed) in
          let time_at : commit_time (first_fate fates (txn_of i.0)) ≡ Some c = subst (λ (z : ℕ). commit_time (first_fate fates z) ≡ Some c) (sym i.2) (ap commit_time told) in
          none_above read c commits asked.1
          (member_right c (map (λ (v : Version). v.at) (filter (λ (v : Version). related v.path path) (versions o))) (filter_map (λ (j : Intent). commit_time (first_fate fates (txn_of j))) (others_on meta.txn path (provisional o)))
          (member_mapped (λ (j : Intent). commit_time (first_fate fates (txn_of j))) i.0 c (others_on meta.txn path (provisional o)) on time_at))
      | inr v ↦
          let on = member_filter (λ (u : Version). related u.path path) v.0 (versions o) v.1 (subst (λ (z : Parts). related z path ≡ true) (sym v.2) rel_here) in
          none_above read c commits asked.1
          (member_left c (map (λ (u : Version). u.at) (filter (λ (u : Version). related u.path path) (versions o))) (filter_map (λ (j : Intent). commit_time (first_fate fates (txn_of j))) (others_on meta.txn path (provisional o)))
          (subst (λ (z : ℕ). Member z (map (λ (u : Version). u.at) (filter (λ (u : Version). related u.path path) (versions o)))) v.3 (member_map (λ (u : Version). u.at) v.0 (filter (λ (u : Version). related u.path path) (versions o)) on)))
    ] in
    let above = (commits_above config h f d number read seen from meta path op fates (reply.Written w) time append run (stands_member f before h stands) is (subst (λ (z : ℕ). CommittedAt h z d) (sym write.0) write.2)).1 in
    (omega (arith, low, above), low)
after_event config h before f k x y c d p q (Serve from (request.Single z path op seen fates) r (Some t) append) run stands at is write left other rel =
    let o = own (Tablet k) before in
    let event = Serve from (request.Single z path op seen fates) r (Some t) append in
    let asked = single_asked config.lease_us k o f.reading z path op seen fates r t append (serves_event config h before f k event run stands at is) in
    let rel_here : related p path ≡ true = subst (λ (v : Parts). related p v ≡ true) (sym write.1) rel in
    let differ : x ≡ z → ⊥ = λ same. other (same ∙ write.0) in
    let t_is : t ≡ d = write.2 in
    elim left [
      | inl i ↦
          let on = other_on x z p path i.0 (provisional o) i.1 i.2 i.3 differ rel_here in
          let closed = no_first (λ n. is_open (first_fate fates n)) i.0.meta.txn (map txn_of (others_on z path (provisional o))) asked (member_map txn_of i.0 (others_on z path (provisional o)) on) in
          let told = told_fate config h before f k x c fates i.0 run stands (subst (λ (ev : Event). Carries ev fates) (sym is) refl) i.1 i.2 i.4 (subst (λ (n : ℕ). is_open (first_fate fates n) ≡ false) i.2 closed) in
          let g = first_member fates x (fate.Committed c) told in
          let top = greatest_over fates fates g.0 c g.1 (subst (λ (n : ℕ). first_fate fates n ≡ Some (fate.Committed c)) (sym g.2) told) in
          let past : IsPast event (floor_at event) t = subst (λ (ev : Event). IsPast ev (floor_at ev) t) is (times_keep_floors config h f t run (stands_member f before h stands) (ap time_of is)) in
          let floor : max seen (greatest_fate fates fates) < t = past.1 refl in
          (omega (arith, top, floor, t_is), tt)
      | inr v ↦
          let below = version_below config h before f k c t v.0 run stands at (ap time_of is) v.1 v.3 in
          let past : IsPast event below.0 t = subst (λ (ev : Event). IsPast ev below.0 t) is below.2 in
          let low = below.1 in
          let high : below.0 < t = past.1 refl in
          (omega (arith, low, high, t_is), tt)
    ]
after_event config h before f k x y c d p q event run stands at is write left other rel = absurd write

-- ## the law

at_tablet : (config : Config) (h : History) (x c : ℕ) (p : Parts) (a : Actor) (e : Entry) (event : Event) → IsHomedAt config a event → IsCommittedWrite h x c p e event → (k : ℕ) × (a ≡ Tablet k)
at_tablet config h x c p (Tablet k) e event homed write = (k, refl)
at_tablet config h x c p a e (Serve from (request.Write meta number q op read seen fates) r time append) homed write = absurd homed.1
at_tablet config h x c p a e (Serve from (request.Single y q op seen fates) r time append) homed write = absurd homed.1
at_tablet config h x c p a e event homed write = absurd write

took_time : (config : Config) (h before : History) (f : Entry) (k y d : ℕ) (q : Parts) (event : Event) → Run config h → StandsOver f before h → f.actor ≡ Tablet k → f.event ≡ event → IsCommittedWrite h y d q f event → piece (own (Tablet k) before) ≡ None
took_time config h before f k y d q (Serve from (request.Write meta number path op read seen fates) (reply.Written w) time append) run stands at is write =
    let event = Serve from (request.Write meta number path op read seen fates) (reply.Written w) time append in
    let served = serves_event config h before f k event run stands at is in
    let time_is = written_time w time append (written config.lease_us (Tablet k) (own (Tablet k) before) f.reading meta number path op read seen fates (reply.Written w) time append served) in
    timed_whole config.lease_us (Tablet k) (own (Tablet k) before) f.reading event w served time_is
took_time config h before f k y d q (Serve from (request.Single z path op seen fates) r (Some t) append) run stands at is write =
    let event = Serve from (request.Single z path op seen fates) r (Some t) append in
    timed_whole config.lease_us (Tablet k) (own (Tablet k) before) f.reading event t (serves_event config h before f k event run stands at is) refl
took_time config h before f k y d q event run stands at is write = absurd write

pub in_commit_order : RelatedWritesAreInOrder
in_commit_order config h before e f x y c d p q run stands member same one two other rel =
    let tablet = at_tablet config h y d q f.actor f f.event (requests_homed config h f run (stands_member f before h stands)) two in
    let k = tablet.0 in
    let none = took_time config h before f k y d q f.event run stands tablet.1 refl two in
    let left = left_event config h before f e k x c p e.event run stands tablet.1 (same ∙ tablet.1) none member refl one in
    after_event config h before f k x y c d p q f.event run stands tablet.1 refl two left other rel

-- an entry writes for one transaction
pub write_txn : (h : History) (x y c d : ℕ) (p q : Parts) (e : Entry) (event : Event) → IsCommittedWrite h x c p e event → IsCommittedWrite h y d q e event → x ≡ y
write_txn h x y c d p q e (Serve from (request.Write meta number r op read seen fates) (reply.Written w) time append) one two = sym one.0 ∙ two.0
write_txn h x y c d p q e (Serve from (request.Single z r op seen fates) answer (Some t) append) one two = sym one.0 ∙ two.0
write_txn h x y c d p q e event one two = absurd one

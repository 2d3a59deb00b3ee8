-- A first visit is clear of a transaction that was told committed before: it is not the read's own, and not pending.
use Rattle.std.proofs.Common.{◌≡◌, ℕ, [], ◌∷◌, Option, Some, refl, sym, ◌∙◌, ap, subst, inl, inr, ◌⊎◌}
use Rattle.txn_data.specs.declared.actor.Actor.{Actor}
use Rattle.txn_data.specs.declared.actor.Actor.TheVariants.{Tablet, Status, Session}
use Rattle.txn_data.specs.declared.append.Append.{Append}
use Rattle.txn_data.specs.declared.config.Config.{Config}
use Rattle.txn_data.specs.declared.fate.Fate.{Fate}
use Rattle.txn_data.specs.declared.fate.Fate.TheVariants as fate
use Rattle.txn_data.specs.declared.fate_of.FateOf.{FateOf}
use Rattle.txn_data.specs.declared.isolation.Isolation.TheVariants.{Snapshot}
use Rattle.txn_data.specs.declared.reply.Reply.{Reply}
use Rattle.txn_data.specs.declared.reply.Reply.TheVariants as reply
use Rattle.txn_data.specs.declared.request.Request.TheVariants as request
use Rattle.txn_data.specs.declared.version.Version.{Version}
use Rattle.txn_data.specs.declared.window.Window.{Window}
use Rattle.txn_data.specs.declared.event.Event.{Event}
use Rattle.txn_data.specs.declared.event.Event.TheVariants.{Serve}
use Rattle.txn_data.specs.declared.entry.Entry.{Entry}
use Rattle.txn_types.specs.Lists.{Member}
use Rattle.txn_types.specs.History.{History, own}
use Rattle.txn_types.specs.Tablet.{Intent, version_at, provisional}
use Rattle.txn_types.specs.Reads.{Read, reads, start_of, opened_at, inside}
use Rattle.txn_types.specs.Run.{Run}
use Rattle.law_machines.specs.Own.{StandsOver, ServesNext}
use Rattle.law_machines.proofs.Owns.{stands_member, stands_trans, serves_at, run_until}
use Rattle.law_owners.specs.Owner.{home_of}
use Rattle.law_owners.proofs.Runs.{requests_homed, IsSingleOf}
use Rattle.law_fates.specs.Laws.{CommittedAt}
use Rattle.law_fates.proofs.Life.{Life, Open, Finished, life}
use Rattle.law_fates.proofs.Told.{Before, ByCommit, ByResolve, Becomes, told_at, told_before}
use Rattle.law_fates.proofs.Runs.{home_log, record_before, committed_finished}
use Rattle.law_open_txns.specs.Transaction.{IsEndOf}
use Rattle.law_session_order.proofs.Runs.{commit_of}
use Rattle.law_write_numbers.specs.Laws.{IsNumbered}
use Rattle.law_write_order.specs.Laws.{IsCommittedWrite}
use Rattle.law_versions.specs.Laws.{MakesVersion, IsFront}
use Rattle.law_versions.proofs.Runs.{committed_stays}
use Rattle.law_versions.proofs.Same.{Kind, Writes, Singles, write_and_single}
use Rattle.law_courses.specs.Course.{IsPart}
use Rattle.law_courses.proofs.Parts.{part_trans, part_tail, part_member, part_stands}
use Rattle.law_told_commits.proofs.Says.{WasTold}
use Rattle.law_told_commits.proofs.Commits.{never_both}
use Rattle.law_visits.specs.Visits.{fate_entry, WasAsked, Wanted, Visit}
use Rattle.law_visit_rows.proofs.Intents.{WroteIt, wrote_it, same_txn}
use Rattle.law_visit_rows.proofs.Visits.{lists, collects, list_stands, IsClear}
use Rattle.law_right_reads.proofs.Above.{opened_at_start}
use Rattle.law_fresh_reads.proofs.Origins.{told_kind}
use Rattle.law_fresh_reads.proofs.Opened.{open_at_start}

-- ## what is committed is not told Pending

not_open : (c : ℕ) (v : Life) → v ≡ Finished c → v ≡ Open → ⊥
not_open c v one two = cc

pub pending_never : (config : Config) (h before : History) (a m : Actor) (reading time : Option ℕ) (append : Append) (x t c : ℕ) → Run config h → StandsOver (record { actor = a; reading = reading; event = Serve m (request.AskFate x t) (reply.FateIs fate.Pending) time append }) before h →
    CommittedAt before x c → ⊥
pending_never config h before a m reading time append x t c run stands committed =
    let event = Serve m (request.AskFate x t) (reply.FateIs fate.Pending) time append in
    let e : Entry = record { actor = a; reading = reading; event = event } in
    let until = run_until config h before e run stands in
    let homed = requests_homed config h e run (stands_member e before h stands) in
    let home : a ≡ Status (home_of config x) = homed.0 in
    let o = own (Status (home_of config x)) before in
    let served : ServesNext config.lease_us (Status (home_of config x)) o reading event = subst (λ (d : Actor). ServesNext config.lease_us d (own d before) reading event) home (serves_at config e before h run.1 stands) in
    let end = committed_finished config before x c until committed in
    elim (told_at config.lease_us (home_of config x) o reading x event fate.Pending served (refl, refl)) [
      | Before told ↦ let is : Becomes fate.Pending (life x (home_log config x before)) = told_before o x fate.Pending (life x (home_log config x before)) (record_before config x before until) told in not_open c (life x (home_log config x before)) end is
      | ByCommit d is commits taken ↦ cc
      | ByResolve is resolves taken ↦ cc
    ]

-- ## it stays committed

part_split : (low h : History) → IsPart low h → (low ≡ h) ⊎ ((e : Entry) × StandsOver e low h)
unfolding IsPart
part_split low [] part = inl part
part_split low (g ∷ h) part = elim part [
  | inl same ↦ inl same
  | inr below ↦ elim (part_split low h below) [
    | inl is ↦ inr (g, inl (refl, sym is))
    | inr deeper ↦ inr (deeper.0, inr deeper.1)
  ]
]

pub committed_part : (config : Config) (low h : History) (x c : ℕ) → Run config h → IsPart low h → CommittedAt low x c → CommittedAt h x c
committed_part config low h x c run part committed = elim (part_split low h part) [
  | inl same ↦ subst (λ (l : History). CommittedAt l x c) same committed
  | inr at ↦ committed_stays config h low at.0 x c run at.1 committed
]

-- ## what waits is its own

write_is : (h : History) (x n : ℕ) (v : Version) (e : Entry) (event : Event) → MakesVersion h v e event → Kind x n event → IsCommittedWrite h x v.at v.path e event
write_is h x n v e (Serve from (request.Write meta number path o read seen fates) (reply.Written w) time append) makes (Writes is) =
    (is.0, sym (ap (λ (u : Version). u.path) makes.0), subst (λ (z : ℕ). CommittedAt h z v.at) is.0 makes.1)
write_is h x n v e (Serve from (request.Write meta number path o read seen fates) (reply.Written w) time append) makes (Singles is) = absurd is
write_is h x n v e (Serve from (request.Single y path o seen fates) r (Some c) append) makes (Writes is) = absurd is
write_is h x n v e (Serve from (request.Single y path o seen fates) r (Some c) append) makes (Singles is) =
    (is, sym (ap (λ (u : Version). u.path) makes.0), sym (ap (λ (u : Version). u.at) makes.0), makes.1)
write_is h x n v e event makes kind = absurd makes

-- a write of the transaction, as it would be kept
intent_of : ℕ → Version → Intent
intent_of x v = record { meta = record { txn = x; status = 0; isolation = Snapshot; priority = 0 }; number = v.number; path = v.path; op = v.op; wrote = v.wrote }

waits_own : (config : Config) (h before : History) (k x n : ℕ) (v : Version) (e : Entry) (p : Intent) → Run config h → IsFront before h → Member e h → e.actor ≡ Tablet k → MakesVersion h v e e.event → Kind x n e.event →
    Member p (provisional (own (Tablet k) before)) → CommittedAt h p.meta.txn v.at → version_at v.at p ≡ v → p.meta.txn ≡ x
unfolding intent_of
waits_own config h before k x n v e p run front of_e actor makes kind mp committed is =
    let q = intent_of x v in
    let mine : WroteIt h k v.at q = record { entry = e; member = of_e; actor = actor; write = write_is h x n v e e.event makes kind } in
    same_txn config h k v.at p q run (wrote_it config h before k v.at p run front mp committed) mine (ap (λ (u : Version). u.path) is)

-- ## the visit is clear of it

-- of a single write nothing waits, and of a snapshot transaction it is its own
abbrev pub Its : (x n : ℕ) (event : Event) → Kind x n event → ℕ → Type 0
Its x n event (Writes number) z = z ≡ x
Its x n event (Singles single) z = ⊥

not_own : (config : Config) (h low : History) (read : Read) (x at y : ℕ) → Run config h → Run config low → Member read (reads h) → IsPart low (start_of read) → CommittedAt low x at → inside config read ≡ Some y → y ≡ x → ⊥
not_own config h low read x at y run run_low m part committed is same =
    let op = opened_at_start config read y (opened_at config read) is in
    let start = open_at_start config h read op.0 run m op.1 in
    let k = commit_of config low x at run_low committed in
    let txn : op.0.meta.txn ≡ x = op.2 ∙ same in
    start.ok.free start.doubt k.entry (part_member k.entry low (start_of read) part k.member) (subst (λ (z : ℕ). IsEndOf z k.entry.event) (sym txn) k.end)

asked_never : (config : Config) (h low z : History) (m : Actor) (w : Wanted) (k t x at : ℕ) (window : Option Window) (answer : Reply) (v : Visit h z m w k t window answer) (f : FateOf) → Run config h → IsPart low z → CommittedAt low x at → f.txn ≡ x → f.fate ≡ fate.Pending →
    WasAsked m t (lists h z m w k t window answer v ∷ v.list_before) v.before f → ⊥
asked_never config h low z m w k t x at window answer v f run part committed same pending told =
    let a = told.0 in
    let l = lists h z m w k t window answer v in
    let e = fate_entry m t f a in
    let in_h : StandsOver e a.before h = stands_trans e (collects h z m w k t window answer v) a.before v.before h (part_stands e a.before v.before told.1) v.collected in
    let run_a = run_until config h a.before e run in_h in
    let low_in : IsPart low a.before = part_trans low v.list_before a.before (part_trans low z v.list_before part v.later) (part_tail l v.list_before a.before told.2) in
    let there = committed_part config low a.before x at run_a low_in committed in
    let now : StandsOver (record { actor = Status a.status; reading = a.reading; event = Serve m (request.AskFate x t) (reply.FateIs fate.Pending) a.time a.append }) a.before h =
    subst (λ (g : Fate). StandsOver (record { actor = Status a.status; reading = a.reading; event = Serve m (request.AskFate x t) (reply.FateIs g) a.time a.append }) a.before h) pending
    (subst (λ (y : ℕ). StandsOver (record { actor = Status a.status; reading = a.reading; event = Serve m (request.AskFate y t) (reply.FateIs f.fate) a.time a.append }) a.before h) same in_h) in
    pending_never config h a.before (Status a.status) m a.reading a.time a.append x t at run now there

kind_clear : (config : Config) (h low : History) (read : Read) (w : Wanted) (k t x at n : ℕ) (window : Option Window) (answer : Reply) (v : Visit h (start_of read) (Session read.session) w k t window answer) (u : Version) (e : Entry) (event : Event) (kind : Kind x n event) → Run config h → Run config low →
    Member read (reads h) → IsPart low (start_of read) → IsPart low h → WasTold low x at → w.own_txn ≡ inside config read → Member e h → e.event ≡ event → e.actor ≡ Tablet k → MakesVersion h u e e.event →
    IsClear (Its x n event kind) h (start_of read) (Session read.session) w k t window answer v u
kind_clear config h low read w k t x at n window answer v u e event (Writes number) run run_low m part part_h was own_is of_e is actor makes =
    let mine : IsNumbered x n e.event = subst (λ (ev : Event). IsNumbered x n ev) (sym is) number in
    let committed : CommittedAt low x at = elim (told_kind config low x at run_low was) [
      | inl yes_so ↦ yes_so
      | inr single ↦ absurd (write_and_single config h e single.0 x n run of_e (part_member single.0 low h part_h single.1) mine single.2)
    ] in
    let front : IsFront v.list_before h = inr (lists h (start_of read) (Session read.session) w k t window answer v, list_stands h (start_of read) (Session read.session) w k t window answer v) in
    record {
      other = λ y own same. not_own config h low read x at y run run_low m part committed (sym own_is ∙ own) same;
      none = λ f pending same told. asked_never config h low (start_of read) (Session read.session) w k t x at window answer v f run part committed same pending told;
      whose = λ p mp committed_p now. waits_own config h v.list_before k x n u e p run front of_e actor makes (Writes mine) mp committed_p now;
    }
kind_clear config h low read w k t x at n window answer v u e event (Singles single) run run_low m part part_h was own_is of_e is actor makes =
    let mine : IsSingleOf x e.event = subst (λ (ev : Event). IsSingleOf x ev) (sym is) single in
    let front : IsFront v.list_before h = inr (lists h (start_of read) (Session read.session) w k t window answer v, list_stands h (start_of read) (Session read.session) w k t window answer v) in
    record {
      other = λ y own none. none;
      none = λ f pending none told. none;
      whose = λ p mp committed_p now.
          let same = waits_own config h v.list_before k x n u e p run front of_e actor makes (Singles mine) mp committed_p now in
          never_both config h x u.at e run (subst (λ (z : ℕ). CommittedAt h z u.at) same committed_p) of_e mine;
    }

pub clear : (config : Config) (h low : History) (read : Read) (w : Wanted) (k t x at n : ℕ) (window : Option Window) (answer : Reply) (v : Visit h (start_of read) (Session read.session) w k t window answer) (u : Version) (e : Entry) (kind : Kind x n e.event) → Run config h → Run config low →
    Member read (reads h) → IsPart low (start_of read) → IsPart low h → WasTold low x at → w.own_txn ≡ inside config read → Member e h → e.actor ≡ Tablet k → MakesVersion h u e e.event →
    IsClear (Its x n e.event kind) h (start_of read) (Session read.session) w k t window answer v u
clear config h low read w k t x at n window answer v u e kind run run_low m part part_h was own_is of_e actor makes =
    kind_clear config h low read w k t x at n window answer v u e e.event kind run run_low m part part_h was own_is of_e refl actor makes

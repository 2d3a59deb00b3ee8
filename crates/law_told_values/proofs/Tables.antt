-- What a tablet replies of paths and values is given, where its own entries and the request are.
use Rattle.std.proofs.Common.{ℕ, ◌∷◌, max, Bool, true, false, ◌&&◌, ◌||◌, not, List, [], Option, Some, None, Result, Ok, Err, map, filter, filter_map, nat_lt, nat_le, nat_eq, refl, sym, subst, inl, inr, if◌then◌else◌}
use Rattle.std.specs.List.{cons_option}
use Rattle.hybrid_time.specs.declared.time_refusal.TimeRefusal.{TimeRefusal}
use Rattle.doc_path.specs.Path.{Parts, path_order}
use Rattle.txn_data.specs.declared.actor.Actor.{Actor}
use Rattle.txn_data.specs.declared.actor.Actor.TheVariants.{Tablet, Status, Session, Applier}
use Rattle.txn_data.specs.declared.append.Append.{Append}
use Rattle.txn_data.specs.declared.fate.Fate.TheVariants as fate
use Rattle.txn_data.specs.declared.fate_of.FateOf.{FateOf}
use Rattle.txn_data.specs.declared.met_at.MetAt.{MetAt}
use Rattle.txn_data.specs.declared.read_kind.ReadKind.{ReadKind}
use Rattle.txn_data.specs.declared.read_kind.ReadKind.TheVariants.{Get, Scan}
use Rattle.txn_data.specs.declared.refusal.Refusal.{Refusal}
use Rattle.txn_data.specs.declared.reply.Reply.{Reply}
use Rattle.txn_data.specs.declared.reply.Reply.TheVariants as reply
use Rattle.txn_data.specs.declared.request.Request.{Request}
use Rattle.txn_data.specs.declared.request.Request.TheVariants as request
use Rattle.txn_data.specs.declared.version.Version.{Version}
use Rattle.txn_data.specs.declared.window.Window.{Window}
use Rattle.txn_data.specs.declared.written.Written.{Written}
use Rattle.txn_data.specs.declared.event.Event.{Event}
use Rattle.txn_data.specs.declared.event.Event.TheVariants.{Serve}
use Rattle.txn_data.specs.declared.entry.Entry.{Entry}
use Rattle.txn_types.specs.Lists.{Member, or_zero, sorted_by}
use Rattle.txn_types.specs.Writes.{value, beneath}
use Rattle.txn_types.specs.History.{History, standing}
use Rattle.txn_types.specs.Clock.{Answer, told_only, refusal_answer, logged, timed, timed_answer, holds, clock_time, Kind, Own, Floor, lease_due, lease_end, last_time, has_given, down_since}
use Rattle.txn_types.specs.Status.{Record, NoRecord, Pending, Committed, AbortedBy, record_of, fate_told, resolved, commit_answer, abort_answer, may_forget, is_sure, noted, status_up, status_standing, status_answer}
use Rattle.txn_types.specs.Tablet.{Intent, txn_of, is_of, is_own, version_at, same_place, with_version, with_versions, versions_after, versions_over, versions, provisional_after, provisional_over, provisional, conflict, greatest_above, related_commits, commit_time, first_fate, greatest_fate, under_fate, considered, version_before, writes_at, rows_of, is_met, better_met, met_in, met_under, not_after, collected, listed, local_limit, has_any, write_answer, tablet_up, tablet_standing, tablet_answer}
use Rattle.txn_types.specs.Run.{Serves, machine_answer}
use Rattle.law_machines.proofs.Basics.{map_member, member_cases, filter_member, sorted_from}
use Rattle.law_owners.proofs.Founds.{standing_part}
use Rattle.law_told_values.specs.Given.{PathIsGiven, RowsAreGiven}
use Rattle.law_told_values.proofs.Grounds.{OpIsGiven, WritesAreGiven, value_given, beneath_given, rows_of_each, mapped_rows}

abbrev pub PathsGiven : History → List Parts → Type 0
PathsGiven h ps = (p : Parts) → Member p ps → PathIsGiven h p

-- the paths and the value of a request that writes or collects
abbrev pub RequestIsGiven : History → Request → Type 0
RequestIsGiven h (request.Write meta number path o read seen fates) = PathIsGiven h path × OpIsGiven h o
RequestIsGiven h (request.Single x path o seen fates) = PathIsGiven h path × OpIsGiven h o
RequestIsGiven h (request.Collect own_txn kind paths t window fates) = PathsGiven h paths
RequestIsGiven h asked = Unit {0}

-- the rows and the path of a reply
abbrev pub ReplyIsGiven : History → Reply → Type 0
ReplyIsGiven h (reply.Collected rows) = RowsAreGiven h rows
ReplyIsGiven h (reply.Met at path) = PathIsGiven h path
ReplyIsGiven h r = Unit {0}

abbrev pub ServeIsGiven : History → Event → Type 0
ServeIsGiven h (Serve from asked r time append) = RequestIsGiven h asked
ServeIsGiven h event = Unit {0}

abbrev pub AllGiven : History → History → Type 0
AllGiven h l = (e : Entry) → Member e l → ServeIsGiven h e.event

-- ## what a tablet holds

abbrev IntentsAreGiven : History → List Intent → Type 0
IntentsAreGiven h ps = (p : Intent) → Member p ps → PathIsGiven h p.path × OpIsGiven h p.op

abbrev VersionsAreGiven : History → List Version → Type 0
VersionsAreGiven h vs = (v : Version) → Member v vs → PathIsGiven h v.path × OpIsGiven h v.op

intents_event : (h : History) (ps : List Intent) (event : Event) → ServeIsGiven h event → IntentsAreGiven h ps → IntentsAreGiven h (provisional_after ps event)
intents_event h ps (Serve from (request.Write meta number path o read seen fates) answer (Some w) append) is are = λ p m. elim (member_cases p ps _ m) [
  | inl old ↦ are p old
  | inr new ↦ elim new [ inl here ↦ subst (λ (q : Intent). PathIsGiven h q.path × OpIsGiven h q.op) (sym here) is | inr never ↦ absurd never ]
]
intents_event h ps (Serve from (request.Apply x at) answer time append) is are = λ p m. are p (filter_member _ p ps m).0
intents_event h ps (Serve from (request.Clean x) answer time append) is are = λ p m. are p (filter_member _ p ps m).0
intents_event h ps event is are = are

intents_given : (h l : History) → AllGiven h l → IntentsAreGiven h (provisional_over l)
unfolding provisional_over
intents_given h [] all = λ p m. absurd m
intents_given h (e ∷ l) all = intents_event h (provisional_over l) e.event (all e (inl refl)) (intents_given h l (λ f m. all f (inr m)))

one_more : (h : History) (v : Version) (vs : List Version) → PathIsGiven h v.path × OpIsGiven h v.op → VersionsAreGiven h vs → VersionsAreGiven h (v ∷ vs)
one_more h v vs is are = λ u m. elim m [ inl here ↦ subst (λ (w : Version). PathIsGiven h w.path × OpIsGiven h w.op) (sym here) is | inr deeper ↦ are u deeper ]

with_choice : (b : Bool) (h : History) (us vs : List Version) → VersionsAreGiven h us → VersionsAreGiven h vs → VersionsAreGiven h (if b then us else vs)
with_choice true h us vs one two = one
with_choice false h us vs one two = two

with_given : (h : History) (us : List Version) (v : Version) → VersionsAreGiven h us → PathIsGiven h v.path × OpIsGiven h v.op → VersionsAreGiven h (with_version us v)
unfolding with_version
with_given h [] v are is = one_more h v [] is are
with_given h (u ∷ us) v are is =
    with_choice (same_place u v) h (v ∷ us) (u ∷ with_version us v) (one_more h v us is (λ w m. are w (inr m)))
    (one_more h u (with_version us v) (are u (inl refl)) (with_given h us v (λ w m. are w (inr m)) is))

withs_given : (h : History) (us vs : List Version) → VersionsAreGiven h us → VersionsAreGiven h vs → VersionsAreGiven h (with_versions us vs)
unfolding with_versions
withs_given h us [] are more = are
withs_given h us (v ∷ vs) are more = withs_given h (with_version us v) vs (with_given h us v are (more v (inl refl))) (λ w m. more w (inr m))

applied_given : (h : History) (x at : ℕ) (ps : List Intent) → IntentsAreGiven h ps → VersionsAreGiven h (map (version_at at) (filter (is_of x) ps))
applied_given h x at ps are = λ v m.
    let p = map_member (version_at at) v (filter (is_of x) ps) m in
    subst (λ (w : Version). PathIsGiven h w.path × OpIsGiven h w.op) (sym p.2) (are p.0 (filter_member (is_of x) p.0 ps p.1).0)

versions_event : (h : History) (vs : List Version) (ps : List Intent) (event : Event) → ServeIsGiven h event → IntentsAreGiven h ps → VersionsAreGiven h vs → VersionsAreGiven h (versions_after vs ps event)
versions_event h vs ps (Serve from (request.Single x path o seen fates) answer (Some c) append) is held are = with_given h vs _ are is
versions_event h vs ps (Serve from (request.Apply x at) answer time append) is held are = withs_given h vs (map (version_at at) (filter (is_of x) ps)) are (applied_given h x at ps held)
versions_event h vs ps event is held are = are

versions_given : (h l : History) → AllGiven h l → VersionsAreGiven h (versions_over l)
unfolding versions_over
versions_given h [] all = λ v m. absurd m
versions_given h (e ∷ l) all =
    versions_event h (versions_over l) (provisional_over l) e.event (all e (inl refl)) (intents_given h l (λ f m. all f (inr m))) (versions_given h l (λ f m. all f (inr m)))

-- ## what it shows

under_given : (h : History) (p : Intent) (o : Option ℕ) (vs : List Version) → PathIsGiven h p.path × OpIsGiven h p.op → VersionsAreGiven h vs →
    VersionsAreGiven h (cons_option (elim o [ Some c ↦ Some (version_at c p) | None ↦ None ]) vs)
under_given h p (Some c) vs is are = one_more h (version_at c p) vs is are
under_given h p None vs is are = are

laid_given : (h : History) (fates : List FateOf) (ps : List Intent) → IntentsAreGiven h ps → VersionsAreGiven h (filter_map (under_fate fates) ps)
laid_given h fates [] are = λ v m. absurd m
laid_given h fates (p ∷ ps) are =
    under_given h p (commit_time (first_fate fates (txn_of p))) (filter_map (under_fate fates) ps) (are p (inl refl)) (laid_given h fates ps (λ q m. are q (inr m)))

considered_given : (h : History) (own_txn : Option ℕ) (fates : List FateOf) (ps : List Intent) (vs : List Version) → IntentsAreGiven h ps → VersionsAreGiven h vs → VersionsAreGiven h (considered own_txn fates ps vs)
considered_given h own_txn fates ps vs held before = λ v m.
    let others = filter (λ (p : Intent). not (is_own own_txn (txn_of p))) ps in
    let laid = sorted_by (λ (p q : Intent). nat_le (txn_of p) (txn_of q)) others in
    elim (member_cases v vs (filter_map (under_fate fates) laid) m) [
      | inl old ↦ before v old
      | inr new ↦ laid_given h fates laid (λ q n. held q (filter_member _ q ps (sorted_from (λ (p r : Intent). nat_le (txn_of p) (txn_of r)) q others n)).0) v new
    ]

writes_given : (h : History) (t : ℕ) (vs : List Version) → VersionsAreGiven h vs → WritesAreGiven h (writes_at t vs)
unfolding writes_at
writes_given h t vs are = λ w m.
    let kept = filter (λ (v : Version). nat_le v.at t) vs in
    let v = map_member (λ (u : Version). record { path = u.path; op = u.op }) w (sorted_by version_before kept) m in
    let from = are v.0 (filter_member _ v.0 vs (sorted_from version_before v.0 kept v.1)).0 in
    subst (λ (x : Written). PathIsGiven h x.path × OpIsGiven h x.op) (sym v.2) from

rows_given : (h : History) (kind : ReadKind) (paths : List Parts) (ws : List Written) → PathsGiven h paths → WritesAreGiven h ws → RowsAreGiven h (rows_of kind paths ws)
rows_given h Get paths ws asked are = mapped_rows h (λ p. record { path = p; value = value ws p }) paths (λ p m. (asked p m, value_given h ws p are))
rows_given h Scan paths ws asked are = rows_of_each h (beneath ws) paths (λ p m. beneath_given h ws p are)

abbrev MetIsGiven : History → Option MetAt → Type 0
MetIsGiven h (Some m) = PathIsGiven h m.path
MetIsGiven h None = Unit {0}

better_choice : (b : Bool) (h : History) (m n : MetAt) → PathIsGiven h m.path → PathIsGiven h n.path → PathIsGiven h (if b then m else n).path
better_choice true h m n one two = one
better_choice false h m n one two = two

better_given : (h : History) (v : Version) (o : Option MetAt) → PathIsGiven h v.path → MetIsGiven h o → PathIsGiven h (better_met v o).path
better_given h v None is more = is
better_given h v (Some m) is more = better_choice (nat_lt m.at v.at || (nat_eq m.at v.at && not_after (path_order v.path m.path))) h (record { at = v.at; path = v.path }) m is more

met_choice : (b : Bool) (h : History) (m : MetAt) (o : Option MetAt) → PathIsGiven h m.path → MetIsGiven h o → MetIsGiven h (if b then Some m else o)
met_choice true h m o one more = one
met_choice false h m o one more = more

met_given : (h : History) (w : Window) (t : ℕ) (paths : List Parts) (vs : List Version) → VersionsAreGiven h vs → MetIsGiven h (met_in w t paths vs)
unfolding met_in
met_given h w t paths [] are = tt
met_given h w t paths (v ∷ vs) are =
    let rest = met_given h w t paths vs (λ u m. are u (inr m)) in
    met_choice (is_met w t paths v) h (better_met v (met_in w t paths vs)) (met_in w t paths vs) (better_given h v (met_in w t paths vs) (are v (inl refl)).0 rest) rest

met_under_given : (h : History) (w : Option Window) (t : ℕ) (paths : List Parts) (vs : List Version) → VersionsAreGiven h vs → MetIsGiven h (met_under w t paths vs)
met_under_given h None t paths vs are = tt
met_under_given h (Some w) t paths vs are = met_given h w t paths vs are

collected_given : (h : History) (kind : ReadKind) (paths : List Parts) (t : ℕ) (vs : List Version) (o : Option MetAt) → PathsGiven h paths → VersionsAreGiven h vs → MetIsGiven h o → ReplyIsGiven h (collected kind paths t vs o)
collected_given h kind paths t vs None asked are is = rows_given h kind paths (writes_at t vs) asked (writes_given h t vs are)
collected_given h kind paths t vs (Some m) asked are is = is

-- ## answers: only a Collect tells rows or a path

abbrev Quiet : Answer → Type 0
Quiet answer = (h : History) → ReplyIsGiven h answer.reply

logged_quiet : (fails due : Bool) (time : Option ℕ) (r : Reply) → ((h : History) → ReplyIsGiven h r) → Quiet (logged fails due time r)
logged_quiet fails false time r quiet = quiet
logged_quiet false true time r quiet = quiet
logged_quiet true true time r quiet = λ h. tt

given_quiet : (lease : ℕ) (end : Option ℕ) (fails records : Bool) (time : Result ℕ TimeRefusal) (r : ℕ → Reply) → ((now : ℕ) (h : History) → ReplyIsGiven h (r now)) → Quiet (timed_answer lease end fails records time r)
given_quiet lease end fails records (Err e) r quiet = λ h. tt
given_quiet lease end fails true (Ok now) r quiet = logged_quiet fails true (Some now) (r now) (quiet now)
given_quiet lease end fails false (Ok now) r quiet = logged_quiet fails (lease_due end now) (Some now) (r now) (quiet now)

chosen_quiet : (b : Bool) (why : Refusal) (answer : Answer) → Quiet answer → Quiet (if b then refusal_answer why else answer)
chosen_quiet true why answer quiet = λ h. tt
chosen_quiet false why answer quiet = quiet

timed_quiet : (lease : ℕ) (o : History) (fails : Bool) (kind : Kind) (floor reading : ℕ) (records : Bool) (r : ℕ → Reply) → ((now : ℕ) (h : History) → ReplyIsGiven h (r now)) → Quiet (timed lease o fails kind floor reading records r)
timed_quiet lease o fails kind floor reading records r quiet =
    chosen_quiet (holds (lease_end lease o) (has_given o) reading) _ (timed_answer lease (lease_end lease o) fails records (clock_time kind (last_time o) floor reading) r)
    (given_quiet lease (lease_end lease o) fails records (clock_time kind (last_time o) floor reading) r quiet)

write_quiet : (c v : Option ℕ) (done : Answer) → Quiet done → Quiet (write_answer c v done)
write_quiet (Some other) v done quiet = λ h. tt
write_quiet None (Some at) done quiet = λ h. tt
write_quiet None None done quiet = quiet

choice_quiet : (b : Bool) (one two : Answer) → Quiet one → Quiet two → Quiet (if b then one else two)
choice_quiet true one two quiet more = quiet
choice_quiet false one two quiet more = more

all_standing : (h o : History) → AllGiven h o → AllGiven h (standing o)
all_standing h o all = λ e m. all e (standing_part e o m)

up_given : (h : History) (lease : ℕ) (o : History) (fails : Bool) (reading : ℕ) (asked : Request) → AllGiven h o → RequestIsGiven h asked → ReplyIsGiven h (tablet_up lease o fails reading asked).reply
up_given h lease o fails reading (request.Write meta number path o' read seen fates) all is =
    write_quiet (conflict meta.txn path fates (provisional o)) (greatest_above read (related_commits meta.txn path fates (provisional o) (versions o))) _
    (timed_quiet lease o fails Own seen reading true (λ w. reply.Written w) (λ now g. tt)) h
up_given h lease o fails reading (request.Single x path o' seen fates) all is =
    write_quiet (conflict x path fates (provisional o)) None _ (timed_quiet lease o fails Own (max seen (greatest_fate fates fates)) reading true (λ c. reply.SingleDone c) (λ now g. tt)) h
up_given h lease o fails reading (request.ListRead own_txn paths t g limit) all is = timed_quiet lease o fails Floor t reading false (λ now. listed own_txn paths t (local_limit limit now g) (provisional o)) (λ now f. tt) h
up_given h lease o fails reading (request.Collect own_txn kind paths t window fates) all is =
    let held = intents_given h (standing o) (all_standing h o all) in
    let vs = considered own_txn fates (provisional o) (versions o) in
    let are = considered_given h own_txn fates (provisional o) (versions o) held (versions_given h (standing o) (all_standing h o all)) in
    collected_given h kind paths t vs (met_under window t paths vs) is are (met_under_given h window t paths vs are)
up_given h lease o fails reading (request.Apply x at) all is = choice_quiet (has_any x (provisional o)) (timed lease o fails Floor at reading true (λ now. reply.AppliedHere)) (told_only reply.AppliedHere) (timed_quiet lease o fails Floor at reading true (λ now. reply.AppliedHere) (λ now g. tt)) (λ g. tt) h
up_given h lease o fails reading (request.Clean x) all is = logged_quiet fails (has_any x (provisional o)) None reply.Cleaned (λ g. tt) h
up_given h lease o fails reading asked all is = tt

standing_given : (h : History) (d : Option ℕ) (up : Answer) → ReplyIsGiven h up.reply → ReplyIsGiven h (tablet_standing d up).reply
standing_given h (Some n) up is = tt
standing_given h None up is = is

tablet_given : (h : History) (lease : ℕ) (o : History) (fails : Bool) (reading : ℕ) (asked : Request) → AllGiven h o → RequestIsGiven h asked → ReplyIsGiven h (tablet_answer lease o fails reading asked).reply
tablet_given h lease o fails reading request.Restart all is = tt
tablet_given h lease o fails reading asked all is = standing_given h (down_since o) (tablet_up lease o fails reading asked) (up_given h lease o fails reading asked all is)

resolved_quiet : (fails : Bool) (priority : ℕ) (r : Record) → Quiet (resolved fails priority r)
resolved_quiet fails priority (Pending lower) = choice_quiet (nat_lt lower priority) (logged fails true None (reply.FateIs fate.Aborted)) (told_only (reply.FateIs fate.Pending)) (logged_quiet fails true None (reply.FateIs fate.Aborted) (λ g. tt)) (λ g. tt)
resolved_quiet fails priority (Committed c tablets) = λ g. tt
resolved_quiet fails priority (AbortedBy by) = λ g. tt
resolved_quiet fails priority NoRecord = λ g. tt

commit_quiet : (r : Record) (done : Answer) → Quiet done → Quiet (commit_answer r done)
commit_quiet (Pending priority) done quiet = quiet
commit_quiet (Committed c tablets) done quiet = λ g. tt
commit_quiet (AbortedBy by) done quiet = λ g. tt
commit_quiet NoRecord done quiet = λ g. tt

abort_quiet : (fails : Bool) (r : Record) → Quiet (abort_answer fails r)
abort_quiet fails (Committed c tablets) = λ g. tt
abort_quiet fails (Pending priority) = logged_quiet fails true None reply.Ended (λ g. tt)
abort_quiet fails (AbortedBy by) = logged_quiet fails true None reply.Ended (λ g. tt)
abort_quiet fails NoRecord = λ g. tt

status_up_quiet : (lease : ℕ) (o : History) (fails : Bool) (reading : ℕ) (asked : Request) → Quiet (status_up lease o fails reading asked)
status_up_quiet lease o fails reading (request.Begin x isolation priority) = logged_quiet fails true None reply.Begun (λ g. tt)
status_up_quiet lease o fails reading (request.AskFate x t) = timed_quiet lease o fails Floor t reading false (λ now. reply.FateIs (fate_told (record_of x o))) (λ now g. tt)
status_up_quiet lease o fails reading (request.Resolve x by priority) = resolved_quiet fails priority (record_of x o)
status_up_quiet lease o fails reading (request.Commit x floor tablets) =
    commit_quiet (record_of x o) (timed lease o fails Own floor reading true (λ c. reply.Committed c)) (timed_quiet lease o fails Own floor reading true (λ c. reply.Committed c) (λ now g. tt))
status_up_quiet lease o fails reading (request.Abort x) = abort_quiet fails (record_of x o)
status_up_quiet lease o fails reading (request.Applied x tablet) = logged_quiet fails (may_forget (is_sure x o) (tablet ∷ noted x o) (record_of x o)) None reply.Noted (λ g. tt)
status_up_quiet lease o fails reading asked = λ g. tt

status_standing_quiet : (d : Option ℕ) (up : Answer) → Quiet up → Quiet (status_standing d up)
status_standing_quiet (Some n) up quiet = λ g. tt
status_standing_quiet None up quiet = quiet

status_quiet : (lease : ℕ) (o : History) (fails : Bool) (reading : ℕ) (asked : Request) → Quiet (status_answer lease o fails reading asked)
status_quiet lease o fails reading request.Restart = λ g. tt
status_quiet lease o fails reading asked = status_standing_quiet (down_since o) (status_up lease o fails reading asked) (status_up_quiet lease o fails reading asked)

machine_given : (h : History) (lease : ℕ) (a : Actor) (o : History) (fails : Bool) (reading : ℕ) (asked : Request) → AllGiven h o → RequestIsGiven h asked → ReplyIsGiven h (machine_answer lease a o fails reading asked).reply
machine_given h lease (Tablet k) o fails reading asked all is = tablet_given h lease o fails reading asked all is
machine_given h lease (Status j) o fails reading asked all is = status_quiet lease o fails reading asked h
machine_given h lease (Session i) o fails reading asked all is = status_quiet lease o fails reading asked h
machine_given h lease (Applier k) o fails reading asked all is = status_quiet lease o fails reading asked h

pub reply_given : (h : History) (lease : ℕ) (a : Actor) (o : History) (reading : Option ℕ) (asked : Request) (r : Reply) (time : Option ℕ) (append : Append) → Serves lease a o reading asked r time append →
    AllGiven h o → RequestIsGiven h asked → ReplyIsGiven h r
reply_given h lease a o reading asked r time append served all is =
    subst (ReplyIsGiven h) (sym served.replied) (machine_given h lease a o served.fails (or_zero reading) asked all is)

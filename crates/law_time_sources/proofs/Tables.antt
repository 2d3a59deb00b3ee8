-- What a machine replies is grounded, where its own entries, the request and its time are.
use Rattle.std.proofs.Common.{ℕ, ◌+◌, ◌∷◌, max, Bool, true, false, ◌&&◌, ◌||◌, not, List, [], Option, Some, None, Result, Ok, Err, map, filter, filter_map, nat_lt, nat_le, nat_eq, refl, sym, subst, inl, inr, if◌then◌else◌}
use Rattle.std.specs.List.{cons_option}
use Rattle.hybrid_time.specs.Time.{micros_of, logical_of, time_at, time_after, greatest_reading}
use Rattle.hybrid_time.specs.declared.time_refusal.TimeRefusal.{TimeRefusal}
use Rattle.hybrid_time.specs.declared.time_refusal.TimeRefusal.TheVariants.{ClockFull, ClockRange}
use Rattle.doc_path.specs.Path.{Parts, path_order, related}
use Rattle.txn_data.specs.declared.actor.Actor.{Actor}
use Rattle.txn_data.specs.declared.actor.Actor.TheVariants.{Tablet}
use Rattle.txn_data.specs.declared.append.Append.{Append}
use Rattle.txn_data.specs.declared.fate.Fate.TheVariants as fate
use Rattle.txn_data.specs.declared.fate_of.FateOf.{FateOf}
use Rattle.txn_data.specs.declared.met_at.MetAt.{MetAt}
use Rattle.txn_data.specs.declared.read_kind.ReadKind.{ReadKind}
use Rattle.txn_data.specs.declared.refusal.Refusal.TheVariants as refusal
use Rattle.txn_data.specs.declared.reply.Reply.{Reply}
use Rattle.txn_data.specs.declared.reply.Reply.TheVariants as reply
use Rattle.txn_data.specs.declared.request.Request.{Request}
use Rattle.txn_data.specs.declared.request.Request.TheVariants as request
use Rattle.txn_data.specs.declared.version.Version.{Version}
use Rattle.txn_data.specs.declared.window.Window.{Window}
use Rattle.txn_data.specs.declared.event.Event.{Event}
use Rattle.txn_data.specs.declared.event.Event.TheVariants.{Serve, Restarted}
use Rattle.txn_data.specs.declared.entry.Entry.{Entry}
use Rattle.txn_types.specs.Lists.{Member, or_zero, sorted_by}
use Rattle.txn_types.specs.History.{History, counting_before, counting, standing, event_counts, next_restart_kept, was_logged}
use Rattle.txn_types.specs.Clock.{Answer, told_only, refusal_answer, logged, timed, timed_answer, holds, clock_time, Kind, Own, Floor, lease_due, lease_end, last_after, last_time, has_given, down_since}
use Rattle.txn_types.specs.Status as status
use Rattle.txn_types.specs.Status.{Record, NoRecord, record_after, record_over, record_of, fate_told, resolved, commit_answer, abort_answer, may_forget, is_sure, noted, status_up, status_standing, status_answer}
use Rattle.txn_types.specs.Tablet.{Intent, txn_of, is_of, is_own, version_at, same_place, with_version, with_versions, versions_after, versions_over, versions, provisional_over, provisional, conflict, others_on, greatest_above, related_commits, commit_time, first_fate, greatest_fate, under_fate, considered, is_met, better_met, met_in, met_under, not_after, collected, listed, local_limit, has_any, write_answer, tablet_up, tablet_standing, tablet_answer}
use Rattle.txn_types.specs.Run.{Serves, machine_answer}
use Rattle.law_machines.proofs.Basics.{map_member, member_cases, filter_member}
use Rattle.law_machines.proofs.Counted.{choice_member}
use Rattle.law_time_sources.specs.Laws.{IsGrounded, FateIsGrounded, FatesAreGrounded, RequestIsGrounded, ReplyIsGrounded, TimeIsGrounded, EventIsGrounded}
use Rattle.law_time_sources.proofs.Grounds.{zero_grounded, greater_grounded, greatest_grounded, time_or_zero, first_grounded, commit_grounded}

-- each of these entries is grounded in the history
abbrev pub AllGrounded : History → History → Type 0
AllGrounded h l = (e : Entry) → Member e l → EventIsGrounded h e.event

-- ## what stands in a log

counting_member : (e : Entry) (later l : History) → Member e (counting_before later l) → Member e l
unfolding counting_before
counting_member e later [] m = m
counting_member e later (f ∷ l) m = elim (choice_member (event_counts f.event (next_restart_kept f.actor later)) e f (counting_before (f ∷ later) l) m) [
  | inl here ↦ inl here.1
  | inr deeper ↦ inr (counting_member e (f ∷ later) l deeper)
]

standing_member : (e : Entry) (l : History) → Member e (standing l) → Member e l
standing_member e l m = counting_member e [] l (filter_member (λ (f : Entry). was_logged f.event) e (counting l) m).0

all_standing : (h l : History) → AllGrounded h l → AllGrounded h (standing l)
all_standing h l all = λ e m. all e (standing_member e l m)

-- ## records

abbrev RecordIsGrounded : History → Record → Type 0
RecordIsGrounded h (status.Committed c tablets) = IsGrounded h c
RecordIsGrounded h r = Unit {0}

record_choice : (b : Bool) (h : History) (r s : Record) → RecordIsGrounded h r → RecordIsGrounded h s → RecordIsGrounded h (if b then r else s)
record_choice true h r s one two = one
record_choice false h r s one two = two

record_event : (h : History) (x : ℕ) (r : Record) (event : Event) → EventIsGrounded h event → RecordIsGrounded h r → RecordIsGrounded h (record_after x r event)
record_event h x r (Serve from (request.Begin y isolation priority) answer time append) is before = record_choice (nat_eq y x) h _ r tt before
record_event h x r (Serve from (request.Resolve y by priority) answer time append) is before = record_choice (nat_eq y x) h _ r tt before
record_event h x r (Serve from (request.Commit y floor tablets) answer (Some c) append) is before = record_choice (nat_eq y x) h (status.Committed c tablets) r is.2 before
record_event h x r (Serve from (request.Abort y) answer time append) is before = record_choice (nat_eq y x) h _ r tt before
record_event h x r (Serve from (request.Applied y tablet) answer time append) is before = record_choice (nat_eq y x) h _ r tt before
record_event h x r event is before = before

record_grounded : (h : History) (x : ℕ) (l : History) → AllGrounded h l → RecordIsGrounded h (record_over x l)
unfolding record_over
record_grounded h x [] all = tt
record_grounded h x (e ∷ l) all = record_event h x (record_over x l) e.event (all e (inl refl)) (record_grounded h x l (λ f m. all f (inr m)))

record_fate : (h : History) (r : Record) → RecordIsGrounded h r → FateIsGrounded h (fate_told r)
record_fate h NoRecord is = tt
record_fate h (status.Pending priority) is = tt
record_fate h (status.Committed c tablets) is = is
record_fate h (status.AbortedBy by) is = tt

-- ## versions

abbrev VersionsAreGrounded : History → List Version → Type 0
VersionsAreGrounded h vs = (v : Version) → Member v vs → IsGrounded h v.at

one_more : (h : History) (v : Version) (vs : List Version) → IsGrounded h v.at → VersionsAreGrounded h vs → VersionsAreGrounded h (v ∷ vs)
one_more h v vs is are = λ u m. elim m [ inl here ↦ subst (λ (w : Version). IsGrounded h w.at) (sym here) is | inr deeper ↦ are u deeper ]

with_choice : (b : Bool) (h : History) (us vs : List Version) → VersionsAreGrounded h us → VersionsAreGrounded h vs → VersionsAreGrounded h (if b then us else vs)
with_choice true h us vs one two = one
with_choice false h us vs one two = two

with_grounded : (h : History) (us : List Version) (v : Version) → VersionsAreGrounded h us → IsGrounded h v.at → VersionsAreGrounded h (with_version us v)
unfolding with_version
with_grounded h [] v are is = one_more h v [] is are
with_grounded h (u ∷ us) v are is =
    with_choice (same_place u v) h (v ∷ us) (u ∷ with_version us v) (one_more h v us is (λ w m. are w (inr m)))
    (one_more h u (with_version us v) (are u (inl refl)) (with_grounded h us v (λ w m. are w (inr m)) is))

withs_grounded : (h : History) (us vs : List Version) → VersionsAreGrounded h us → VersionsAreGrounded h vs → VersionsAreGrounded h (with_versions us vs)
unfolding with_versions
withs_grounded h us [] are more = are
withs_grounded h us (v ∷ vs) are more = withs_grounded h (with_version us v) vs (with_grounded h us v are (more v (inl refl))) (λ w m. more w (inr m))

applied_grounded : (h : History) (at : ℕ) (ps : List Intent) → IsGrounded h at → VersionsAreGrounded h (map (version_at at) ps)
applied_grounded h at ps is = λ v m. let p = map_member (version_at at) v ps m in subst (λ (w : Version). IsGrounded h w.at) (sym p.2) is

versions_event : (h : History) (vs : List Version) (ps : List Intent) (event : Event) → EventIsGrounded h event → VersionsAreGrounded h vs → VersionsAreGrounded h (versions_after vs ps event)
versions_event h vs ps (Serve from (request.Single x path op seen fates) answer (Some c) append) is are = with_grounded h vs _ are is.2
versions_event h vs ps (Serve from (request.Apply x at) answer time append) is are = withs_grounded h vs (map (version_at at) (filter (is_of x) ps)) are (applied_grounded h at (filter (is_of x) ps) is.0)
versions_event h vs ps event is are = are

versions_grounded : (h l : History) → AllGrounded h l → VersionsAreGrounded h (versions_over l)
unfolding versions_over
versions_grounded h [] all = λ v m. absurd m
versions_grounded h (e ∷ l) all = versions_event h (versions_over l) (provisional_over l) e.event (all e (inl refl)) (versions_grounded h l (λ f m. all f (inr m)))

-- ## what is met

under_grounded : (h : History) (p : Intent) (o : Option ℕ) (vs : List Version) → TimeIsGrounded h o → VersionsAreGrounded h vs →
    VersionsAreGrounded h (cons_option (elim o [ Some c ↦ Some (version_at c p) | None ↦ None ]) vs)
under_grounded h p (Some c) vs is are = one_more h (version_at c p) vs is are
under_grounded h p None vs is are = are

laid_grounded : (h : History) (fates : List FateOf) (ps : List Intent) → FatesAreGrounded h fates → VersionsAreGrounded h (filter_map (under_fate fates) ps)
laid_grounded h fates [] are = λ v m. absurd m
laid_grounded h fates (p ∷ ps) are =
    under_grounded h p (commit_time (first_fate fates (txn_of p))) (filter_map (under_fate fates) ps)
    (commit_grounded h (first_fate fates (txn_of p)) (first_grounded h fates (txn_of p) are)) (laid_grounded h fates ps are)

considered_grounded : (h : History) (own_txn : Option ℕ) (fates : List FateOf) (ps : List Intent) (vs : List Version) → FatesAreGrounded h fates → VersionsAreGrounded h vs →
    VersionsAreGrounded h (considered own_txn fates ps vs)
considered_grounded h own_txn fates ps vs are before = λ v m.
    let laid = sorted_by (λ (p q : Intent). nat_le (txn_of p) (txn_of q)) (filter (λ (p : Intent). not (is_own own_txn (txn_of p))) ps) in
    elim (member_cases v vs (filter_map (under_fate fates) laid) m) [ inl old ↦ before v old | inr new ↦ laid_grounded h fates laid are v new ]

abbrev MetIsGrounded : History → Option MetAt → Type 0
MetIsGrounded h (Some m) = IsGrounded h m.at
MetIsGrounded h None = Unit {0}

better_grounded : (h : History) (v : Version) (o : Option MetAt) → IsGrounded h v.at → MetIsGrounded h o → IsGrounded h (better_met v o).at
better_grounded h v None is more = is
better_grounded h v (Some m) is more = choice_grounded (nat_lt m.at v.at || (nat_eq m.at v.at && not_after (path_order v.path m.path)))
  where
    choice_grounded : (b : Bool) → IsGrounded h (if b then (record { at = v.at; path = v.path }) else m).at
    choice_grounded true = is
    choice_grounded false = more

met_choice : (b : Bool) (h : History) (m : MetAt) (o : Option MetAt) → IsGrounded h m.at → MetIsGrounded h o → MetIsGrounded h (if b then Some m else o)
met_choice true h m o one more = one
met_choice false h m o one more = more

met_grounded : (h : History) (w : Window) (t : ℕ) (paths : List Parts) (vs : List Version) → VersionsAreGrounded h vs → MetIsGrounded h (met_in w t paths vs)
unfolding met_in
met_grounded h w t paths [] are = tt
met_grounded h w t paths (v ∷ vs) are =
    let rest = met_grounded h w t paths vs (λ u m. are u (inr m)) in
    met_choice (is_met w t paths v) h (better_met v (met_in w t paths vs)) (met_in w t paths vs) (better_grounded h v (met_in w t paths vs) (are v (inl refl)) rest) rest

met_under_grounded : (h : History) (w : Option Window) (t : ℕ) (paths : List Parts) (vs : List Version) → VersionsAreGrounded h vs → MetIsGrounded h (met_under w t paths vs)
met_under_grounded h None t paths vs are = tt
met_under_grounded h (Some w) t paths vs are = met_grounded h w t paths vs are

collected_grounded : (h : History) (kind : ReadKind) (paths : List Parts) (t : ℕ) (vs : List Version) (o : Option MetAt) → MetIsGrounded h o → ReplyIsGrounded h (collected kind paths t vs o)
collected_grounded h kind paths t vs None is = tt
collected_grounded h kind paths t vs (Some m) is = is

-- ## answers

abbrev IsFine : History → Answer → Type 0
IsFine h answer = TimeIsGrounded h answer.time → ReplyIsGrounded h answer.reply

logged_fine : (h : History) (fails due : Bool) (time : Option ℕ) (r : Reply) → (TimeIsGrounded h time → ReplyIsGrounded h r) → IsFine h (logged fails due time r)
logged_fine h fails false time r fine = fine
logged_fine h false true time r fine = fine
logged_fine h true true time r fine = λ is. tt

-- the time that a clock names where it gives none
abbrev ClockIsGrounded : History → Result ℕ TimeRefusal → Type 0
ClockIsGrounded h (Err (ClockFull at)) = IsGrounded h at
ClockIsGrounded h given = Unit {0}

full_choice : (b : Bool) (h : History) (at now : ℕ) → IsGrounded h at → ClockIsGrounded h (if b then Err (ClockFull at) else Ok now)
full_choice true h at now is = is
full_choice false h at now is = tt

later_choice : (b : Bool) (h : History) (now : ℕ) (given : Result ℕ TimeRefusal) → ClockIsGrounded h given → ClockIsGrounded h (if b then Ok now else given)
later_choice true h now given is = tt
later_choice false h now given is = is

range_choice : (b : Bool) (h : History) (reading : ℕ) (given : Result ℕ TimeRefusal) → ClockIsGrounded h given → ClockIsGrounded h (if b then Err (ClockRange reading) else given)
range_choice true h reading given is = tt
range_choice false h reading given is = is

clock_grounded : (h : History) (kind : Kind) (last floor reading : ℕ) → IsGrounded h last → IsGrounded h floor → ClockIsGrounded h (clock_time kind last floor reading)
clock_grounded h Own last floor reading last_is floor_is =
    let b = max last floor in
    range_choice (nat_lt greatest_reading reading) h reading (time_after b reading)
    (later_choice (nat_lt (micros_of b) reading) h (time_at reading 0) (if nat_eq (logical_of b) 4095 then Err (ClockFull b) else Ok (b + 1))
    (full_choice (nat_eq (logical_of b) 4095) h b (b + 1) (greater_grounded h last floor last_is floor_is)))
clock_grounded h Floor last floor reading last_is floor_is =
    range_choice (nat_lt greatest_reading reading) h reading (Ok (max (max last floor) (time_at reading 0))) tt

last_event : (h : History) (last : ℕ) (event : Event) → EventIsGrounded h event → IsGrounded h last → IsGrounded h (last_after last event)
last_event h last (Serve from asked answer (Some time) append) is before = greater_grounded h last time before is.2
last_event h last (Restarted from kept) is before = zero_grounded h
last_event h last event is before = before

last_grounded : (h l : History) → AllGrounded h l → IsGrounded h (last_time l)
unfolding last_time
last_grounded h [] all = zero_grounded h
last_grounded h (e ∷ l) all = last_event h (last_time l) e.event (all e (inl refl)) (last_grounded h l (λ f m. all f (inr m)))

given_fine : (h : History) (lease : ℕ) (end : Option ℕ) (fails records : Bool) (time : Result ℕ TimeRefusal) (r : ℕ → Reply) → ClockIsGrounded h time → ((now : ℕ) → IsGrounded h now → ReplyIsGrounded h (r now)) → IsFine h (timed_answer lease end fails records time r)
given_fine h lease end fails records (Err (ClockFull at)) r clock fine = λ is. clock
given_fine h lease end fails records (Err (ClockRange reading)) r clock fine = λ is. tt
given_fine h lease end fails true (Ok now) r clock fine = logged_fine h fails true (Some now) (r now) (fine now)
given_fine h lease end fails false (Ok now) r clock fine = logged_fine h fails (lease_due end now) (Some now) (r now) (fine now)

held_fine : (b : Bool) (h : History) (until : ℕ) (answer : Answer) → IsFine h answer → IsFine h (if b then refusal_answer (refusal.LeaseHeld until) else answer)
held_fine true h until answer fine = λ is. tt
held_fine false h until answer fine = fine

timed_fine : (h : History) (lease : ℕ) (o : History) (fails : Bool) (kind : Kind) (floor reading : ℕ) (records : Bool) (r : ℕ → Reply) → AllGrounded h o → IsGrounded h floor → ((now : ℕ) → IsGrounded h now → ReplyIsGrounded h (r now)) →
    IsFine h (timed lease o fails kind floor reading records r)
timed_fine h lease o fails kind floor reading records r all low fine =
    held_fine (holds (lease_end lease o) (has_given o) reading) h (or_zero (lease_end lease o)) (timed_answer lease (lease_end lease o) fails records (clock_time kind (last_time o) floor reading) r)
    (given_fine h lease (lease_end lease o) fails records (clock_time kind (last_time o) floor reading) r (clock_grounded h kind (last_time o) floor reading (last_grounded h o all) low) fine)

-- the commit times that a write has to be above
abbrev TimesAreGrounded : History → List ℕ → Type 0
TimesAreGrounded h cs = (c : ℕ) → Member c cs → IsGrounded h c

above_choice : (b : Bool) (h : History) (c : ℕ) (o : Option ℕ) → IsGrounded h c → TimeIsGrounded h o → TimeIsGrounded h (if b then Some (max c (or_zero o)) else o)
above_choice true h c o is more = greater_grounded h c (or_zero o) is (time_or_zero h o more)
above_choice false h c o is more = more

above_grounded : (h : History) (read : ℕ) (cs : List ℕ) → TimesAreGrounded h cs → TimeIsGrounded h (greatest_above read cs)
unfolding greatest_above
above_grounded h read [] are = tt
above_grounded h read (c ∷ cs) are = above_choice (nat_lt read c) h c (greatest_above read cs) (are c (inl refl)) (above_grounded h read cs (λ d m. are d (inr m)))

fate_times : (h : History) (fates : List FateOf) (ps : List Intent) → FatesAreGrounded h fates → TimesAreGrounded h (filter_map (λ (p : Intent). commit_time (first_fate fates (txn_of p))) ps)
fate_times h fates [] are = λ c m. absurd m
fate_times h fates (p ∷ ps) are =
    laid_time h (commit_time (first_fate fates (txn_of p))) (filter_map (λ (q : Intent). commit_time (first_fate fates (txn_of q))) ps)
    (commit_grounded h (first_fate fates (txn_of p)) (first_grounded h fates (txn_of p) are)) (fate_times h fates ps are)
  where
    laid_time : (g : History) (o : Option ℕ) (cs : List ℕ) → TimeIsGrounded g o → TimesAreGrounded g cs → TimesAreGrounded g (cons_option o cs)
    laid_time g (Some c) cs is more = λ d m. elim m [ inl here ↦ subst (IsGrounded g) (sym here) is | inr deeper ↦ more d deeper ]
    laid_time g None cs is more = more

related_grounded : (h : History) (x : ℕ) (path : Parts) (fates : List FateOf) (ps : List Intent) (vs : List Version) → FatesAreGrounded h fates → VersionsAreGrounded h vs → TimesAreGrounded h (related_commits x path fates ps vs)
related_grounded h x path fates ps vs are before = λ c m.
    elim (member_cases c (map (λ (v : Version). v.at) (filter (λ (v : Version). related v.path path) vs)) (filter_map (λ (p : Intent). commit_time (first_fate fates (txn_of p))) (others_on x path ps)) m) [
      | inl old ↦
          let v = map_member (λ (u : Version). u.at) c (filter (λ (u : Version). related u.path path) vs) old in
          subst (IsGrounded h) (sym v.2) (before v.0 (filter_member (λ (u : Version). related u.path path) v.0 vs v.1).0)
      | inr new ↦ fate_times h fates (others_on x path ps) are c new
    ]

write_fine : (h : History) (c v : Option ℕ) (done : Answer) → TimeIsGrounded h v → IsFine h done → IsFine h (write_answer c v done)
write_fine h (Some other) v done overlap fine = λ is. tt
write_fine h None (Some at) done overlap fine = λ is. overlap
write_fine h None None done overlap fine = fine

apply_fine : (b : Bool) (h : History) (done : Answer) → IsFine h done → IsFine h (if b then done else told_only reply.AppliedHere)
apply_fine true h done fine = fine
apply_fine false h done fine = λ is. tt

up_fine : (h : History) (lease : ℕ) (o : History) (fails : Bool) (reading : ℕ) (asked : Request) → AllGrounded h o → RequestIsGrounded h asked → IsFine h (tablet_up lease o fails reading asked)
up_fine h lease o fails reading (request.Write meta number path op read seen fates) all is =
    write_fine h (conflict meta.txn path fates (provisional o)) (greatest_above read (related_commits meta.txn path fates (provisional o) (versions o))) (timed lease o fails Own seen reading true (λ w. reply.Written w))
    (above_grounded h read (related_commits meta.txn path fates (provisional o) (versions o)) (related_grounded h meta.txn path fates (provisional o) (versions o) is.2 (versions_grounded h (standing o) (all_standing h o all))))
    (timed_fine h lease o fails Own seen reading true (λ w. reply.Written w) all is.1 (λ now at. at))
up_fine h lease o fails reading (request.Single x path op seen fates) all is =
    write_fine h (conflict x path fates (provisional o)) None (timed lease o fails Own (max seen (greatest_fate fates fates)) reading true (λ c. reply.SingleDone c)) tt
    (timed_fine h lease o fails Own (max seen (greatest_fate fates fates)) reading true (λ c. reply.SingleDone c) all
    (greater_grounded h seen (greatest_fate fates fates) is.0 (greatest_grounded h fates fates is.1)) (λ now at. at))
up_fine h lease o fails reading (request.ListRead own_txn paths t g limit) all is = timed_fine h lease o fails Floor t reading false (λ now. listed own_txn paths t (local_limit limit now g) (provisional o)) all is (λ now at. tt)
up_fine h lease o fails reading (request.Collect own_txn kind paths t window fates) all is =
    let vs = considered own_txn fates (provisional o) (versions o) in
    λ at. collected_grounded h kind paths t vs (met_under window t paths vs)
    (met_under_grounded h window t paths vs (considered_grounded h own_txn fates (provisional o) (versions o) is.1 (versions_grounded h (standing o) (all_standing h o all))))
up_fine h lease o fails reading (request.Apply x at) all is = apply_fine (has_any x (provisional o)) h (timed lease o fails Floor at reading true (λ now. reply.AppliedHere)) (timed_fine h lease o fails Floor at reading true (λ now. reply.AppliedHere) all is (λ now at. tt))
up_fine h lease o fails reading (request.Clean x) all is = logged_fine h fails (has_any x (provisional o)) None reply.Cleaned (λ at. tt)
up_fine h lease o fails reading asked all is = λ at. tt

standing_fine : (h : History) (d : Option ℕ) (up : Answer) → IsFine h up → IsFine h (tablet_standing d up)
standing_fine h (Some n) up fine = λ is. tt
standing_fine h None up fine = fine

tablet_fine : (h : History) (lease : ℕ) (o : History) (fails : Bool) (reading : ℕ) (asked : Request) → AllGrounded h o → RequestIsGrounded h asked → IsFine h (tablet_answer lease o fails reading asked)
tablet_fine h lease o fails reading request.Restart all is = λ at. tt
tablet_fine h lease o fails reading asked all is = standing_fine h (down_since o) (tablet_up lease o fails reading asked) (up_fine h lease o fails reading asked all is)

lower_fine : (b fails : Bool) (h : History) → IsFine h (if b then logged fails true None (reply.FateIs fate.Aborted) else told_only (reply.FateIs fate.Pending))
lower_fine true fails h = logged_fine h fails true None _ (λ at. tt)
lower_fine false fails h = λ is. tt

resolved_fine : (h : History) (fails : Bool) (priority : ℕ) (r : Record) → RecordIsGrounded h r → IsFine h (resolved fails priority r)
resolved_fine h fails priority (status.Pending own) is = lower_fine (nat_lt own priority) fails h
resolved_fine h fails priority NoRecord is = λ at. tt
resolved_fine h fails priority (status.Committed c tablets) is = λ at. is
resolved_fine h fails priority (status.AbortedBy by) is = λ at. tt

commit_fine : (h : History) (r : Record) (done : Answer) → RecordIsGrounded h r → IsFine h done → IsFine h (commit_answer r done)
commit_fine h (status.Pending priority) done is fine = fine
commit_fine h (status.Committed c tablets) done is fine = λ at. is
commit_fine h (status.AbortedBy by) done is fine = λ at. tt
commit_fine h NoRecord done is fine = λ at. tt

abort_fine : (h : History) (fails : Bool) (r : Record) → RecordIsGrounded h r → IsFine h (abort_answer fails r)
abort_fine h fails (status.Committed c tablets) is = λ at. is
abort_fine h fails (status.Pending priority) is = logged_fine h fails true None reply.Ended (λ at. tt)
abort_fine h fails (status.AbortedBy by) is = logged_fine h fails true None reply.Ended (λ at. tt)
abort_fine h fails NoRecord is = λ at. tt

status_up_fine : (h : History) (lease : ℕ) (o : History) (fails : Bool) (reading : ℕ) (asked : Request) → AllGrounded h o → RequestIsGrounded h asked → IsFine h (status_up lease o fails reading asked)
status_up_fine h lease o fails reading (request.Begin x isolation priority) all is = logged_fine h fails true None reply.Begun (λ at. tt)
status_up_fine h lease o fails reading (request.AskFate x t) all is =
    timed_fine h lease o fails Floor t reading false (λ now. reply.FateIs (fate_told (record_of x o))) all is (λ now at. record_fate h (record_of x o) (record_grounded h x (standing o) (all_standing h o all)))
status_up_fine h lease o fails reading (request.Resolve x by priority) all is = resolved_fine h fails priority (record_of x o) (record_grounded h x (standing o) (all_standing h o all))
status_up_fine h lease o fails reading (request.Commit x floor tablets) all is =
    commit_fine h (record_of x o) (timed lease o fails Own floor reading true (λ c. reply.Committed c)) (record_grounded h x (standing o) (all_standing h o all))
    (timed_fine h lease o fails Own floor reading true (λ c. reply.Committed c) all is (λ now at. at))
status_up_fine h lease o fails reading (request.Abort x) all is = abort_fine h fails (record_of x o) (record_grounded h x (standing o) (all_standing h o all))
status_up_fine h lease o fails reading (request.Applied x tablet) all is = logged_fine h fails (may_forget (is_sure x o) (tablet ∷ noted x o) (record_of x o)) None reply.Noted (λ at. tt)
status_up_fine h lease o fails reading asked all is = λ at. tt

status_standing_fine : (h : History) (d : Option ℕ) (up : Answer) → IsFine h up → IsFine h (status_standing d up)
status_standing_fine h (Some n) up fine = λ is. tt
status_standing_fine h None up fine = fine

status_fine : (h : History) (lease : ℕ) (o : History) (fails : Bool) (reading : ℕ) (asked : Request) → AllGrounded h o → RequestIsGrounded h asked → IsFine h (status_answer lease o fails reading asked)
status_fine h lease o fails reading request.Restart all is = λ at. tt
status_fine h lease o fails reading asked all is = status_standing_fine h (down_since o) (status_up lease o fails reading asked) (status_up_fine h lease o fails reading asked all is)

machine_fine : (h : History) (lease : ℕ) (a : Actor) (o : History) (fails : Bool) (reading : ℕ) (asked : Request) → AllGrounded h o → RequestIsGrounded h asked → IsFine h (machine_answer lease a o fails reading asked)
machine_fine h lease (Tablet k) o fails reading asked all is = tablet_fine h lease o fails reading asked all is
machine_fine h lease a o fails reading asked all is = status_fine h lease o fails reading asked all is

pub reply_grounded : (h : History) (lease : ℕ) (a : Actor) (o : History) (reading : Option ℕ) (asked : Request) (r : Reply) (time : Option ℕ) (append : Append) → Serves lease a o reading asked r time append →
    AllGrounded h o → RequestIsGrounded h asked → TimeIsGrounded h time → ReplyIsGrounded h r
reply_grounded h lease a o reading asked r time append served all is at =
    subst (λ (q : Reply). ReplyIsGrounded h q) (sym served.replied)
    (machine_fine h lease a o served.fails (or_zero reading) asked all is (subst (λ (t : Option ℕ). TimeIsGrounded h t) served.took at))

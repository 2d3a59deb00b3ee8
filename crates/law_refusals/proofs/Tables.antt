-- What the refusal of a machine says of the entries that it had of its own.
use Rattle.std.proofs.Common.{◌≡◌, ℕ, ◌+◌, ◌<◌, ◌≤◌, max, Bool, true, false, ◌&&◌, not, List, ◌∷◌, Option, Some, None, Result, Ok, Err, nat_lt, nat_le, nat_eq, refl, sym, ◌∙◌, ap, subst, if◌then◌else◌}
use Rattle.std.proofs.lemmas.Bool.{ltb-true, ltb-false, leb-true}
use Rattle.hybrid_time.specs.Time.{time_after, time_at, micros_of, logical_of, greatest_reading}
use Rattle.hybrid_time.specs.declared.time_refusal.TimeRefusal.{TimeRefusal}
use Rattle.hybrid_time.specs.declared.time_refusal.TimeRefusal.TheVariants as time_refusal
use Rattle.txn_data.specs.Time.{takes_time}
use Rattle.txn_data.specs.declared.actor.Actor.{Actor}
use Rattle.txn_data.specs.declared.actor.Actor.TheVariants.{Tablet, Status, Session, Applier}
use Rattle.txn_data.specs.declared.append.Append.{Append}
use Rattle.txn_data.specs.declared.append.Append.TheVariants.{Nothing, Failed}
use Rattle.txn_data.specs.declared.met_at.MetAt.{MetAt}
use Rattle.txn_data.specs.declared.read_kind.ReadKind.{ReadKind}
use Rattle.txn_data.specs.declared.version.Version.{Version}
use Rattle.txn_data.specs.declared.request.Request.{Request}
use Rattle.txn_data.specs.declared.request.Request.TheVariants as request
use Rattle.txn_data.specs.declared.reply.Reply.{Reply}
use Rattle.txn_data.specs.declared.reply.Reply.TheVariants as reply
use Rattle.txn_data.specs.declared.refusal.Refusal.{Refusal}
use Rattle.txn_data.specs.declared.refusal.Refusal.TheVariants as refusal
use Rattle.txn_data.specs.declared.fate.Fate.TheVariants as fate
use Rattle.doc_path.specs.Path.{Parts}
use Rattle.law_machines.proofs.Basics.{eq_true}
use Rattle.txn_types.specs.Lists.{or_zero}
use Rattle.txn_types.specs.History.{History}
use Rattle.txn_types.specs.Clock.{Answer, told_only, refusal_answer, logged, timed, timed_answer, time_refused, holds, clock_time, Kind, Own, Floor, lease_due, lease_end, last_time, has_given, down_since}
use Rattle.txn_types.specs.Tablet.{tablet_answer, tablet_up, tablet_standing, write_answer, has_any, provisional, conflict, greatest_above, related_commits, versions, greatest_fate, founds, others_on, listed, local_limit, considered, collected, met_under}
use Rattle.txn_types.specs.Status.{status_answer, status_up, status_standing, record_of, commit_answer, fate_told, Record, NoRecord, Pending, Committed, AbortedBy, abort_answer, resolved, may_forget, is_sure, noted}
use Rattle.txn_promises.specs.Refuses.{MeetsConflict, MeetsOverlap}
use Rattle.law_refusals.specs.Refusals.{Explains}
use Rattle.txn_types.specs.Run.{ReadingFits, Serves, machine_answer}
use Rattle.txn_types.specs.Cause.{needs_time, floor_asked, is_pending, Fails, IsRestart}

-- each refusal of this answer is explained; out of memory is answered where a request is not in the machine's table
abbrev pub Says : ℕ → History → Option ℕ → Request → Answer → Type 0
Says lease o reading asked a = (why : Refusal) → a.reply ≡ reply.Refused why → (why ≡ refusal.Memory → ⊥) → Explains lease o reading asked a.append why

abbrev NotRefused : Reply → Type 0
NotRefused r = (why : Refusal) → r ≡ reply.Refused why → ⊥

fails_so : (asked : Request) → Fails asked Failed
fails_so request.Restart = tt
fails_so (request.ListWrite x path) = refl
fails_so (request.Write meta number path op read seen fates) = refl
fails_so (request.Single x path op seen fates) = refl
fails_so (request.ListRead own_txn paths t g limit) = refl
fails_so (request.Collect own_txn kind paths t window fates) = refl
fails_so request.ListIntents = refl
fails_so (request.Apply x at) = refl
fails_so (request.Clean x) = refl
fails_so (request.Begin x isolation priority) = refl
fails_so (request.AskFate x t) = refl
fails_so (request.Resolve x by priority) = refl
fails_so (request.Commit x floor tablets) = refl
fails_so (request.Abort x) = refl
fails_so (request.Applied x tablet) = refl

fault_is : (why : Refusal) → reply.Refused refusal.LogFault ≡ reply.Refused why → refusal.LogFault ≡ why
fault_is why is = cc

logged_says : (lease : ℕ) (o : History) (reading : Option ℕ) (asked : Request) (fails due : Bool) (time : Option ℕ) (r : Reply) → NotRefused r → Says lease o reading asked (logged fails due time r)
logged_says lease o reading asked fails false time r not why is real = absurd (not why is)
logged_says lease o reading asked false true time r not why is real = absurd (not why is)
logged_says lease o reading asked true true time r not why is real = subst (Explains lease o reading asked Failed) (fault_is why is) (fails_so asked)

-- ## the clock

abbrev ErrSays : Kind → ℕ → ℕ → ℕ → TimeRefusal → Type 0
ErrSays kind last floor n (time_refusal.ClockRange k) = (k ≡ n) × (greatest_reading < n)
ErrSays kind last floor n (time_refusal.ClockFull at) = (kind ≡ Own) × (at ≡ max last floor) × (logical_of at ≡ 4095) × (n ≤ micros_of at)

after_says : (t u : Bool) (last floor n : ℕ) (e : TimeRefusal) → nat_lt (micros_of (max last floor)) n ≡ t → nat_eq (logical_of (max last floor)) 4095 ≡ u →
    (if t then Ok (time_at n 0) else (if u then Err (time_refusal.ClockFull (max last floor)) else Ok (max last floor + 1))) ≡ Err e → ErrSays Own last floor n e
after_says true u last floor n e lt eq is = cc
after_says false false last floor n e lt eq is = cc
after_says false true last floor n e lt eq is =
    let same : time_refusal.ClockFull (max last floor) ≡ e = cc in
    subst (ErrSays Own last floor n) same (refl, refl, eq_true (logical_of (max last floor)) 4095 eq, ltb-false (micros_of (max last floor)) n lt)

next_says : (t : Bool) (last floor n : ℕ) (e : TimeRefusal) → nat_lt greatest_reading n ≡ t → (if t then Err (time_refusal.ClockRange n) else time_after (max last floor) n) ≡ Err e → ErrSays Own last floor n e
next_says true last floor n e lt is = let same : time_refusal.ClockRange n ≡ e = cc in subst (ErrSays Own last floor n) same (refl, ltb-true greatest_reading n lt)
next_says false last floor n e lt is = after_says (nat_lt (micros_of (max last floor)) n) (nat_eq (logical_of (max last floor)) 4095) last floor n e refl refl is

least_says : (t : Bool) (last floor n m : ℕ) (e : TimeRefusal) → nat_lt greatest_reading n ≡ t → (if t then Err (time_refusal.ClockRange n) else Ok m) ≡ Err e → ErrSays Floor last floor n e
least_says true last floor n m e lt is = let same : time_refusal.ClockRange n ≡ e = cc in subst (ErrSays Floor last floor n) same (refl, ltb-true greatest_reading n lt)
least_says false last floor n m e lt is = cc

clock_says : (kind : Kind) (last floor n : ℕ) (e : TimeRefusal) → clock_time kind last floor n ≡ Err e → ErrSays kind last floor n e
clock_says Own last floor n e is = next_says (nat_lt greatest_reading n) last floor n e refl is
clock_says Floor last floor n e is = least_says (nat_lt greatest_reading n) last floor n (max (max last floor) (time_at n 0)) e refl is

-- ## an action that takes a time

abbrev HasFloor : Kind → ℕ → Request → Type 0
HasFloor kind floor asked = kind ≡ Own → floor_asked asked ≡ Some floor

refused_says : (lease : ℕ) (o : History) (reading : Option ℕ) (asked : Request) (append : Append) (kind : Kind) (floor : ℕ) (e : TimeRefusal) → needs_time asked o ≡ true → HasFloor kind floor asked →
    ErrSays kind (last_time o) floor (or_zero reading) e → Explains lease o reading asked append (time_refused e)
refused_says lease o reading asked append kind floor (time_refusal.ClockRange k) needs has says = (needs, subst (λ (n : ℕ). greatest_reading < n) (sym says.0) says.1, sym says.0)
refused_says lease o reading asked append kind floor (time_refusal.ClockFull at) needs has says = (needs, (floor, has says.0, says.1), says.2, says.3)

why_is : (one two : Refusal) → reply.Refused one ≡ reply.Refused two → one ≡ two
why_is one two is = cc

given_says : (lease : ℕ) (o : History) (reading : Option ℕ) (asked : Request) (end : Option ℕ) (fails records : Bool) (kind : Kind) (floor : ℕ) (time : Result ℕ TimeRefusal) (r : ℕ → Reply) →
    clock_time kind (last_time o) floor (or_zero reading) ≡ time → needs_time asked o ≡ true → HasFloor kind floor asked → ((now : ℕ) → NotRefused (r now)) → Says lease o reading asked (timed_answer lease end fails records time r)
given_says lease o reading asked end fails records kind floor (Err e) r clock needs has not why is real =
    subst (Explains lease o reading asked _) (why_is (time_refused e) why is) (refused_says lease o reading asked _ kind floor e needs has (clock_says kind (last_time o) floor (or_zero reading) e clock))
given_says lease o reading asked end fails true kind floor (Ok time) r clock needs has not why is real = logged_says lease o reading asked fails true (Some time) (r time) (not time) why is real
given_says lease o reading asked end fails false kind floor (Ok time) r clock needs has not why is real = logged_says lease o reading asked fails (lease_due end time) (Some time) (r time) (not time) why is real

both_true : (a b : Bool) → (not a && b) ≡ true → (a ≡ false) × (b ≡ true)
both_true true b is = cc
both_true false b is = (refl, is)

held_so : (end : Option ℕ) (given : Bool) (n : ℕ) → holds end given n ≡ true → (end ≡ Some (or_zero end)) × (given ≡ false) × (n ≤ or_zero end)
held_so None given n is = cc
held_so (Some u) given n is = let both = both_true given (nat_le n u) is in (refl, both.0, leb-true n u both.1)

held_says : (b : Bool) (lease : ℕ) (o : History) (reading : Option ℕ) (asked : Request) (a : Answer) → holds (lease_end lease o) (has_given o) (or_zero reading) ≡ b → needs_time asked o ≡ true → Says lease o reading asked a →
    Says lease o reading asked (if b then refusal_answer (refusal.LeaseHeld (or_zero (lease_end lease o))) else a)
held_says true lease o reading asked a held needs says why is real =
    let so = held_so (lease_end lease o) (has_given o) (or_zero reading) held in
    subst (Explains lease o reading asked _) (why_is (refusal.LeaseHeld (or_zero (lease_end lease o))) why is) (needs, so.0, so.1, so.2)
held_says false lease o reading asked a held needs says why is real = says why is real

timed_says : (lease : ℕ) (o : History) (reading : Option ℕ) (asked : Request) (fails : Bool) (kind : Kind) (floor : ℕ) (records : Bool) (r : ℕ → Reply) → needs_time asked o ≡ true → HasFloor kind floor asked → ((now : ℕ) → NotRefused (r now)) →
    Says lease o reading asked (timed lease o fails kind floor (or_zero reading) records r)
timed_says lease o reading asked fails kind floor records r needs has not =
    held_says (holds (lease_end lease o) (has_given o) (or_zero reading)) lease o reading asked (timed_answer lease (lease_end lease o) fails records (clock_time kind (last_time o) floor (or_zero reading)) r) refl needs
    (given_says lease o reading asked (lease_end lease o) fails records kind floor (clock_time kind (last_time o) floor (or_zero reading)) r refl needs has not)

-- ## a tablet

told_says : (lease : ℕ) (o : History) (reading : Option ℕ) (asked : Request) (r : Reply) → NotRefused r → Says lease o reading asked (told_only r)
told_says lease o reading asked r not why is real = absurd (not why is)

memory_says : (lease : ℕ) (o : History) (reading : Option ℕ) (asked : Request) → Says lease o reading asked (refusal_answer refusal.Memory)
memory_says lease o reading asked why is real = absurd (real (sym (why_is refusal.Memory why is)))

write_says : (c v : Option ℕ) (lease : ℕ) (o : History) (reading : Option ℕ) (asked : Request) (done : Answer) → ((other : ℕ) → c ≡ Some other → MeetsConflict asked o other) → ((at : ℕ) → c ≡ None → v ≡ Some at → MeetsOverlap asked o at) →
    (c ≡ None → v ≡ None → Says lease o reading asked done) → Says lease o reading asked (write_answer c v done)
write_says (Some other) v lease o reading asked done conflicts overlaps says why is real = subst (Explains lease o reading asked _) (why_is (refusal.Conflict other) why is) (conflicts other refl)
write_says None (Some at) lease o reading asked done conflicts overlaps says why is real = subst (Explains lease o reading asked _) (why_is (refusal.Overlap at) why is) (overlaps at refl refl)
write_says None None lease o reading asked done conflicts overlaps says why is real = says refl refl why is real

collected_plain : (kind : ReadKind) (paths : List Parts) (t : ℕ) (vs : List Version) (m : Option MetAt) → NotRefused (collected kind paths t vs m)
collected_plain kind paths t vs (Some m) why is = cc
collected_plain kind paths t vs None why is = cc

apply_says : (b : Bool) (lease : ℕ) (o : History) (reading : Option ℕ) (asked : Request) (done : Answer) → (b ≡ true → Says lease o reading asked done) → Says lease o reading asked (if b then done else told_only reply.AppliedHere)
apply_says true lease o reading asked done says = says refl
apply_says false lease o reading asked done says = told_says lease o reading asked reply.AppliedHere (λ why is. cc)

up_says : (lease : ℕ) (o : History) (reading : Option ℕ) (fails : Bool) (asked : Request) → Says lease o reading asked (tablet_up lease o fails (or_zero reading) asked)
up_says lease o reading fails (request.ListWrite x path) = told_says lease o reading (request.ListWrite x path) (reply.Others (founds (provisional o) (others_on x path (provisional o)))) (λ why is. cc)
up_says lease o reading fails (request.Write meta number path op read seen fates) =
    write_says (conflict meta.txn path fates (provisional o)) (greatest_above read (related_commits meta.txn path fates (provisional o) (versions o))) lease o reading (request.Write meta number path op read seen fates) _
    (λ other is. is) (λ at none is. (none, is))
    (λ none free. timed_says lease o reading (request.Write meta number path op read seen fates) fails Own seen true (λ w. reply.Written w) (rw none (rw free refl)) (λ own. refl) (λ now why is. cc))
up_says lease o reading fails (request.Single x path op seen fates) =
    write_says (conflict x path fates (provisional o)) None lease o reading (request.Single x path op seen fates) _
    (λ other is. is) (λ at none is. cc)
    (λ none free. timed_says lease o reading (request.Single x path op seen fates) fails Own (max seen (greatest_fate fates fates)) true (λ c. reply.SingleDone c) (rw none refl) (λ own. refl) (λ now why is. cc))
up_says lease o reading fails (request.ListRead own_txn paths t g limit) =
    timed_says lease o reading (request.ListRead own_txn paths t g limit) fails Floor t false (λ now. listed own_txn paths t (local_limit limit now g) (provisional o)) refl (λ own. cc) (λ now why is. cc)
up_says lease o reading fails (request.Collect own_txn kind paths t window fates) =
    told_says lease o reading (request.Collect own_txn kind paths t window fates) _
    (collected_plain kind paths t (considered own_txn fates (provisional o) (versions o)) (met_under window t paths (considered own_txn fates (provisional o) (versions o))))
up_says lease o reading fails request.ListIntents = told_says lease o reading request.ListIntents (reply.Intents (founds (provisional o) (provisional o))) (λ why is. cc)
up_says lease o reading fails (request.Apply x at) = apply_says (has_any x (provisional o)) lease o reading (request.Apply x at) _
    (λ any. timed_says lease o reading (request.Apply x at) fails Floor at true (λ now. reply.AppliedHere) any (λ own. cc) (λ now why is. cc))
up_says lease o reading fails (request.Clean x) = logged_says lease o reading (request.Clean x) fails (has_any x (provisional o)) None reply.Cleaned (λ why is. cc)
up_says lease o reading fails (request.Begin x isolation priority) = memory_says lease o reading (request.Begin x isolation priority)
up_says lease o reading fails (request.AskFate x t) = memory_says lease o reading (request.AskFate x t)
up_says lease o reading fails (request.Resolve x by priority) = memory_says lease o reading (request.Resolve x by priority)
up_says lease o reading fails (request.Commit x floor tablets) = memory_says lease o reading (request.Commit x floor tablets)
up_says lease o reading fails (request.Abort x) = memory_says lease o reading (request.Abort x)
up_says lease o reading fails (request.Applied x tablet) = memory_says lease o reading (request.Applied x tablet)
up_says lease o reading fails request.Restart = memory_says lease o reading request.Restart

-- ## a status tablet

resolved_plain : (lease : ℕ) (o : History) (reading : Option ℕ) (asked : Request) (fails : Bool) (priority : ℕ) (r : Record) → Says lease o reading asked (resolved fails priority r)
resolved_plain lease o reading asked fails priority (Pending own) = choice (nat_lt own priority)
  where
    choice : (b : Bool) → Says lease o reading asked (if b then logged fails true None (reply.FateIs fate.Aborted) else told_only (reply.FateIs fate.Pending))
    choice true = logged_says lease o reading asked fails true None (reply.FateIs fate.Aborted) (λ why is. cc)
    choice false = told_says lease o reading asked (reply.FateIs fate.Pending) (λ why is. cc)
resolved_plain lease o reading asked fails priority NoRecord = told_says lease o reading asked (reply.FateIs fate.Absent) (λ why is. cc)
resolved_plain lease o reading asked fails priority (Committed c tablets) = told_says lease o reading asked (reply.FateIs (fate.Committed c)) (λ why is. cc)
resolved_plain lease o reading asked fails priority (AbortedBy by) = told_says lease o reading asked (reply.FateIs fate.Aborted) (λ why is. cc)

commit_says : (r : Record) (lease : ℕ) (o : History) (reading : Option ℕ) (asked : Request) (done : Answer) → (is_pending r ≡ true → Says lease o reading asked done) → Says lease o reading asked (commit_answer r done)
commit_says (Pending priority) lease o reading asked done says = says refl
commit_says (Committed c tablets) lease o reading asked done says = told_says lease o reading asked (reply.Committed c) (λ why is. cc)
commit_says (AbortedBy by) lease o reading asked done says = told_says lease o reading asked (reply.AbortedBy by) (λ why is. cc)
commit_says NoRecord lease o reading asked done says = told_says lease o reading asked reply.Gone (λ why is. cc)

abort_says : (r : Record) (lease : ℕ) (o : History) (reading : Option ℕ) (asked : Request) (fails : Bool) → Says lease o reading asked (abort_answer fails r)
abort_says (Pending priority) lease o reading asked fails = logged_says lease o reading asked fails true None reply.Ended (λ why is. cc)
abort_says (Committed c tablets) lease o reading asked fails = told_says lease o reading asked (reply.Committed c) (λ why is. cc)
abort_says (AbortedBy by) lease o reading asked fails = logged_says lease o reading asked fails true None reply.Ended (λ why is. cc)
abort_says NoRecord lease o reading asked fails = told_says lease o reading asked reply.Ended (λ why is. cc)

status_says : (lease : ℕ) (o : History) (reading : Option ℕ) (fails : Bool) (asked : Request) → Says lease o reading asked (status_up lease o fails (or_zero reading) asked)
status_says lease o reading fails (request.Begin x isolation priority) = logged_says lease o reading (request.Begin x isolation priority) fails true None reply.Begun (λ why is. cc)
status_says lease o reading fails (request.AskFate x t) =
    timed_says lease o reading (request.AskFate x t) fails Floor t false (λ now. reply.FateIs (fate_told (record_of x o))) refl (λ own. cc) (λ now why is. cc)
status_says lease o reading fails (request.Resolve x by priority) = resolved_plain lease o reading (request.Resolve x by priority) fails priority (record_of x o)
status_says lease o reading fails (request.Commit x floor tablets) = commit_says (record_of x o) lease o reading (request.Commit x floor tablets) _
    (λ pending. timed_says lease o reading (request.Commit x floor tablets) fails Own floor true (λ c. reply.Committed c) pending (λ own. refl) (λ now why is. cc))
status_says lease o reading fails (request.Abort x) = abort_says (record_of x o) lease o reading (request.Abort x) fails
status_says lease o reading fails (request.Applied x tablet) =
    logged_says lease o reading (request.Applied x tablet) fails (may_forget (is_sure x o) (tablet ∷ noted x o) (record_of x o)) None reply.Noted (λ why is. cc)
status_says lease o reading fails (request.ListWrite x path) = memory_says lease o reading (request.ListWrite x path)
status_says lease o reading fails (request.Write meta number path op read seen fates) = memory_says lease o reading (request.Write meta number path op read seen fates)
status_says lease o reading fails (request.Single x path op seen fates) = memory_says lease o reading (request.Single x path op seen fates)
status_says lease o reading fails (request.ListRead own_txn paths t g limit) = memory_says lease o reading (request.ListRead own_txn paths t g limit)
status_says lease o reading fails (request.Collect own_txn kind paths t window fates) = memory_says lease o reading (request.Collect own_txn kind paths t window fates)
status_says lease o reading fails request.ListIntents = memory_says lease o reading request.ListIntents
status_says lease o reading fails (request.Apply x at) = memory_says lease o reading (request.Apply x at)
status_says lease o reading fails (request.Clean x) = memory_says lease o reading (request.Clean x)
status_says lease o reading fails request.Restart = memory_says lease o reading request.Restart

-- ## up or down

tablet_stands : (down : Option ℕ) (lease : ℕ) (o : History) (reading : Option ℕ) (asked : Request) (up : Answer) → down_since o ≡ down → (IsRestart asked → ⊥) → Says lease o reading asked up → Says lease o reading asked (tablet_standing down up)
tablet_stands (Some since) lease o reading asked up is live says why same real = subst (Explains lease o reading asked _) (why_is (refusal.Down since) why same) (live, is)
tablet_stands None lease o reading asked up is live says why same real = says why same real

status_stands : (down : Option ℕ) (lease : ℕ) (o : History) (reading : Option ℕ) (asked : Request) (up : Answer) → down_since o ≡ down → (IsRestart asked → ⊥) → Says lease o reading asked up → Says lease o reading asked (status_standing down up)
status_stands (Some since) lease o reading asked up is live says why same real = subst (Explains lease o reading asked _) (why_is (refusal.Down since) why same) (live, is)
status_stands None lease o reading asked up is live says why same real = says why same real

load_says : (lease : ℕ) (o : History) (reading : Option ℕ) → Says lease o reading request.Restart (refusal_answer refusal.LogFault)
load_says lease o reading why is real = subst (Explains lease o reading request.Restart Nothing) (fault_is why is) tt

tablet_answers : (lease : ℕ) (o : History) (reading : Option ℕ) (fails : Bool) (asked : Request) → Says lease o reading asked (tablet_answer lease o fails (or_zero reading) asked)
tablet_answers lease o reading fails (request.ListWrite x path) = tablet_stands (down_since o) lease o reading (request.ListWrite x path) _ refl (λ i. i) (up_says lease o reading fails (request.ListWrite x path))
tablet_answers lease o reading fails (request.Write meta number path op read seen fates) = tablet_stands (down_since o) lease o reading (request.Write meta number path op read seen fates) _ refl (λ i. i) (up_says lease o reading fails (request.Write meta number path op read seen fates))
tablet_answers lease o reading fails (request.Single x path op seen fates) = tablet_stands (down_since o) lease o reading (request.Single x path op seen fates) _ refl (λ i. i) (up_says lease o reading fails (request.Single x path op seen fates))
tablet_answers lease o reading fails (request.ListRead own_txn paths t g limit) = tablet_stands (down_since o) lease o reading (request.ListRead own_txn paths t g limit) _ refl (λ i. i) (up_says lease o reading fails (request.ListRead own_txn paths t g limit))
tablet_answers lease o reading fails (request.Collect own_txn kind paths t window fates) = tablet_stands (down_since o) lease o reading (request.Collect own_txn kind paths t window fates) _ refl (λ i. i) (up_says lease o reading fails (request.Collect own_txn kind paths t window fates))
tablet_answers lease o reading fails request.ListIntents = tablet_stands (down_since o) lease o reading request.ListIntents _ refl (λ i. i) (up_says lease o reading fails request.ListIntents)
tablet_answers lease o reading fails (request.Apply x at) = tablet_stands (down_since o) lease o reading (request.Apply x at) _ refl (λ i. i) (up_says lease o reading fails (request.Apply x at))
tablet_answers lease o reading fails (request.Clean x) = tablet_stands (down_since o) lease o reading (request.Clean x) _ refl (λ i. i) (up_says lease o reading fails (request.Clean x))
tablet_answers lease o reading fails (request.Begin x isolation priority) = tablet_stands (down_since o) lease o reading (request.Begin x isolation priority) _ refl (λ i. i) (up_says lease o reading fails (request.Begin x isolation priority))
tablet_answers lease o reading fails (request.AskFate x t) = tablet_stands (down_since o) lease o reading (request.AskFate x t) _ refl (λ i. i) (up_says lease o reading fails (request.AskFate x t))
tablet_answers lease o reading fails (request.Resolve x by priority) = tablet_stands (down_since o) lease o reading (request.Resolve x by priority) _ refl (λ i. i) (up_says lease o reading fails (request.Resolve x by priority))
tablet_answers lease o reading fails (request.Commit x floor tablets) = tablet_stands (down_since o) lease o reading (request.Commit x floor tablets) _ refl (λ i. i) (up_says lease o reading fails (request.Commit x floor tablets))
tablet_answers lease o reading fails (request.Abort x) = tablet_stands (down_since o) lease o reading (request.Abort x) _ refl (λ i. i) (up_says lease o reading fails (request.Abort x))
tablet_answers lease o reading fails (request.Applied x tablet) = tablet_stands (down_since o) lease o reading (request.Applied x tablet) _ refl (λ i. i) (up_says lease o reading fails (request.Applied x tablet))
tablet_answers lease o reading fails request.Restart = load_says lease o reading

status_answers : (lease : ℕ) (o : History) (reading : Option ℕ) (fails : Bool) (asked : Request) → Says lease o reading asked (status_answer lease o fails (or_zero reading) asked)
status_answers lease o reading fails (request.ListWrite x path) = status_stands (down_since o) lease o reading (request.ListWrite x path) _ refl (λ i. i) (status_says lease o reading fails (request.ListWrite x path))
status_answers lease o reading fails (request.Write meta number path op read seen fates) = status_stands (down_since o) lease o reading (request.Write meta number path op read seen fates) _ refl (λ i. i) (status_says lease o reading fails (request.Write meta number path op read seen fates))
status_answers lease o reading fails (request.Single x path op seen fates) = status_stands (down_since o) lease o reading (request.Single x path op seen fates) _ refl (λ i. i) (status_says lease o reading fails (request.Single x path op seen fates))
status_answers lease o reading fails (request.ListRead own_txn paths t g limit) = status_stands (down_since o) lease o reading (request.ListRead own_txn paths t g limit) _ refl (λ i. i) (status_says lease o reading fails (request.ListRead own_txn paths t g limit))
status_answers lease o reading fails (request.Collect own_txn kind paths t window fates) = status_stands (down_since o) lease o reading (request.Collect own_txn kind paths t window fates) _ refl (λ i. i) (status_says lease o reading fails (request.Collect own_txn kind paths t window fates))
status_answers lease o reading fails request.ListIntents = status_stands (down_since o) lease o reading request.ListIntents _ refl (λ i. i) (status_says lease o reading fails request.ListIntents)
status_answers lease o reading fails (request.Apply x at) = status_stands (down_since o) lease o reading (request.Apply x at) _ refl (λ i. i) (status_says lease o reading fails (request.Apply x at))
status_answers lease o reading fails (request.Clean x) = status_stands (down_since o) lease o reading (request.Clean x) _ refl (λ i. i) (status_says lease o reading fails (request.Clean x))
status_answers lease o reading fails (request.Begin x isolation priority) = status_stands (down_since o) lease o reading (request.Begin x isolation priority) _ refl (λ i. i) (status_says lease o reading fails (request.Begin x isolation priority))
status_answers lease o reading fails (request.AskFate x t) = status_stands (down_since o) lease o reading (request.AskFate x t) _ refl (λ i. i) (status_says lease o reading fails (request.AskFate x t))
status_answers lease o reading fails (request.Resolve x by priority) = status_stands (down_since o) lease o reading (request.Resolve x by priority) _ refl (λ i. i) (status_says lease o reading fails (request.Resolve x by priority))
status_answers lease o reading fails (request.Commit x floor tablets) = status_stands (down_since o) lease o reading (request.Commit x floor tablets) _ refl (λ i. i) (status_says lease o reading fails (request.Commit x floor tablets))
status_answers lease o reading fails (request.Abort x) = status_stands (down_since o) lease o reading (request.Abort x) _ refl (λ i. i) (status_says lease o reading fails (request.Abort x))
status_answers lease o reading fails (request.Applied x tablet) = status_stands (down_since o) lease o reading (request.Applied x tablet) _ refl (λ i. i) (status_says lease o reading fails (request.Applied x tablet))
status_answers lease o reading fails request.Restart = load_says lease o reading

machine_says : (lease : ℕ) (a : Actor) (o : History) (reading : Option ℕ) (fails : Bool) (asked : Request) → Says lease o reading asked (machine_answer lease a o fails (or_zero reading) asked)
machine_says lease (Tablet k) o reading fails asked = tablet_answers lease o reading fails asked
machine_says lease (Status j) o reading fails asked = status_answers lease o reading fails asked
machine_says lease (Session i) o reading fails asked = status_answers lease o reading fails asked
machine_says lease (Applier k) o reading fails asked = status_answers lease o reading fails asked

-- each refusal that a machine serves is explained by the entries that it had of its own, out of memory apart
pub served_says : (lease : ℕ) (a : Actor) (o : History) (reading : Option ℕ) (asked : Request) (r : Reply) (time : Option ℕ) (append : Append) (why : Refusal) → Serves lease a o reading asked r time append → r ≡ reply.Refused why → (why ≡ refusal.Memory → ⊥) → Explains lease o reading asked append why
served_says lease a o reading asked r time append why serves is real =
    subst (λ (p : Append). Explains lease o reading asked p why) (sym serves.logged) (machine_says lease a o reading serves.fails asked why (sym serves.replied ∙ is) real)

-- a time is wanted only where a reading is taken
needs_reading : (asked : Request) (o : History) → needs_time asked o ≡ true → takes_time asked ≡ true
needs_reading (request.ListWrite x path) o needs = cc
needs_reading (request.Write meta number path op read seen fates) o needs = refl
needs_reading (request.Single x path op seen fates) o needs = refl
needs_reading (request.ListRead own_txn paths t g limit) o needs = refl
needs_reading (request.Collect own_txn kind paths t window fates) o needs = cc
needs_reading request.ListIntents o needs = cc
needs_reading (request.Apply x at) o needs = refl
needs_reading (request.Clean x) o needs = cc
needs_reading (request.Begin x isolation priority) o needs = cc
needs_reading (request.AskFate x t) o needs = refl
needs_reading (request.Resolve x by priority) o needs = cc
needs_reading (request.Commit x floor tablets) o needs = refl
needs_reading (request.Abort x) o needs = cc
needs_reading (request.Applied x tablet) o needs = cc
needs_reading request.Restart o needs = cc

fits_so : (b : Bool) (reading : Option ℕ) (n : ℕ) → ReadingFits b reading → b ≡ true → or_zero reading ≡ n → reading ≡ Some n
fits_so true (Some m) n fits is same = ap Some same
fits_so true None n fits is same = absurd fits
fits_so false reading n fits is same = cc

pub reading_of : (asked : Request) (o : History) (reading : Option ℕ) (n : ℕ) → ReadingFits (takes_time asked) reading → needs_time asked o ≡ true → or_zero reading ≡ n → reading ≡ Some n
reading_of asked o reading n fits needs same = fits_so (takes_time asked) reading n fits (needs_reading asked o needs) same

-- ## what a status tablet tells of its records

resolve_pending : (fails : Bool) (priority : ℕ) (r : Record) → (resolved fails priority r).reply ≡ reply.FateIs fate.Pending → (own : ℕ) × (r ≡ Pending own) × (priority ≤ own)
resolve_pending fails priority (Pending own) is = choice (nat_lt own priority) fails refl is
  where
    choice : (b f : Bool) → nat_lt own priority ≡ b → (if b then logged f true None (reply.FateIs fate.Aborted) else told_only (reply.FateIs fate.Pending)).reply ≡ reply.FateIs fate.Pending → (p : ℕ) × (Pending own ≡ Pending p) × (priority ≤ p)
    choice true false lt same = cc
    choice true true lt same = cc
    choice false f lt same = (own, refl, ltb-false own priority lt)
resolve_pending fails priority NoRecord is = cc
resolve_pending fails priority (Committed c tablets) is = cc
resolve_pending fails priority (AbortedBy by) is = cc

standing_up : (down : Option ℕ) (up : Answer) (r : Reply) → (status_standing down up).reply ≡ r → ((since : ℕ) → r ≡ reply.Refused (refusal.Down since) → ⊥) → up.reply ≡ r
standing_up (Some since) up r is not = absurd (not since (sym is))
standing_up None up r is not = is

pub pending_at : (lease : ℕ) (j : ℕ) (o : History) (reading : Option ℕ) (x by priority : ℕ) (r : Reply) (time : Option ℕ) (append : Append) → Serves lease (Status j) o reading (request.Resolve x by priority) r time append → r ≡ reply.FateIs fate.Pending →
    (own : ℕ) × (record_of x o ≡ Pending own) × (priority ≤ own)
pending_at lease j o reading x by priority r time append serves is =
    resolve_pending serves.fails priority (record_of x o) (standing_up (down_since o) (resolved serves.fails priority (record_of x o)) (reply.FateIs fate.Pending) (sym serves.replied ∙ is) (λ since e. cc))

commit_aborted : (r : Record) (done : Answer) (by : ℕ) → ((why : Refusal) (e : done.reply ≡ reply.AbortedBy by) → ⊥) → (commit_answer r done).reply ≡ reply.AbortedBy by → r ≡ AbortedBy by
commit_aborted (Pending priority) done by not is = absurd (not refusal.Memory is)
commit_aborted (Committed c tablets) done by not is = cc
commit_aborted (AbortedBy who) done by not is = let same : who ≡ by = cc in ap AbortedBy same
commit_aborted NoRecord done by not is = cc

logged_not : (fails due : Bool) (time : Option ℕ) (c by : ℕ) → (logged fails due time (reply.Committed c)).reply ≡ reply.AbortedBy by → ⊥
logged_not fails false time c by is = cc
logged_not false true time c by is = cc
logged_not true true time c by is = cc

given_not : (lease : ℕ) (end : Option ℕ) (fails : Bool) (time : Result ℕ TimeRefusal) (by : ℕ) → (timed_answer lease end fails true time (λ c. reply.Committed c)).reply ≡ reply.AbortedBy by → ⊥
given_not lease end fails (Err e) by is = cc
given_not lease end fails (Ok c) by is = logged_not fails true (Some c) c by is

held_not : (b : Bool) (at by : ℕ) (a : Answer) → (a.reply ≡ reply.AbortedBy by → ⊥) → (if b then refusal_answer (refusal.LeaseHeld at) else a).reply ≡ reply.AbortedBy by → ⊥
held_not true at by a not is = cc
held_not false at by a not is = not is

pub aborted_at : (lease : ℕ) (j : ℕ) (o : History) (reading : Option ℕ) (x floor by : ℕ) (tablets : List ℕ) (r : Reply) (time : Option ℕ) (append : Append) → Serves lease (Status j) o reading (request.Commit x floor tablets) r time append → r ≡ reply.AbortedBy by →
    record_of x o ≡ AbortedBy by
aborted_at lease j o reading x floor by tablets r time append serves is =
    commit_aborted (record_of x o) _ by
    (λ why. held_not (holds (lease_end lease o) (has_given o) (or_zero reading)) (or_zero (lease_end lease o)) by _ (given_not lease (lease_end lease o) serves.fails (clock_time Own (last_time o) floor (or_zero reading)) by))
    (standing_up (down_since o) (commit_answer (record_of x o) (timed lease o serves.fails Own floor (or_zero reading) true (λ c. reply.Committed c))) (reply.AbortedBy by) (sym serves.replied ∙ is) (λ since e. cc))

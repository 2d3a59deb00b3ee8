-- What a machine answers a request that meets the row of a refusal.
use Rattle.std.proofs.Common.{◌≡◌, ℕ, ◌<◌, ◌≤◌, max, Bool, true, false, List, Option, Some, None, is_none, Result, Err, nat_le, nat_eq, refl, sym, ◌∙◌, ap, subst, arith}
use Rattle.std.proofs.lemmas.Bool.{lt-ltb, le-ltb, and_parts}
use Rattle.hybrid_time.specs.Time.{micros_of, logical_of, greatest_reading}
use Rattle.hybrid_time.specs.declared.time_refusal.TimeRefusal.{TimeRefusal}
use Rattle.hybrid_time.specs.declared.time_refusal.TimeRefusal.TheVariants as time_refusal
use Rattle.txn_data.specs.declared.actor.Actor.{Actor}
use Rattle.txn_data.specs.declared.actor.Actor.TheVariants.{Tablet, Status, Session, Applier}
use Rattle.txn_data.specs.declared.append.Append.{Append}
use Rattle.txn_data.specs.declared.fate.Fate.TheVariants as fate
use Rattle.txn_data.specs.declared.request.Request.{Request}
use Rattle.txn_data.specs.declared.request.Request.TheVariants as request
use Rattle.txn_data.specs.declared.reply.Reply.{Reply}
use Rattle.txn_data.specs.declared.reply.Reply.TheVariants as reply
use Rattle.txn_data.specs.declared.refusal.Refusal.{Refusal}
use Rattle.txn_data.specs.declared.refusal.Refusal.TheVariants as refusal
use Rattle.txn_types.specs.Lists.{or_zero}
use Rattle.txn_types.specs.History.{History}
use Rattle.txn_types.specs.Clock.{Answer, refusal_answer, timed, timed_answer, holds, clock_time, Kind, Own, Floor, lease_end, last_time, has_given, down_since}
use Rattle.txn_types.specs.Tablet.{tablet_answer, tablet_up, tablet_standing, provisional, conflict, greatest_above, related_commits, versions, greatest_fate, listed, local_limit}
use Rattle.txn_types.specs.Status.{status_answer, status_up, status_standing, record_of, commit_answer, fate_told, Record, NoRecord, Pending, Committed, AbortedBy}
use Rattle.txn_types.specs.Run.{Serves, machine_answer}
use Rattle.txn_types.specs.Cause.{needs_time, floor_asked, is_pending, IsRestart}
use Rattle.law_owners.specs.Owner.{IsOfTable}
use Rattle.txn_promises.specs.Refuses.{MeetsConflict, MeetsOverlap, Meets}

-- what a machine that is up answers
abbrev pub Up : Actor → ℕ → History → Bool → ℕ → Request → Answer
Up (Tablet k) lease o fails reading asked = tablet_up lease o fails reading asked
Up a lease o fails reading asked = status_up lease o fails reading asked

abbrev pub Standing : Actor → Option ℕ → Answer → Answer
Standing (Tablet k) down up = tablet_standing down up
Standing a down up = status_standing down up

tablet_live : (lease : ℕ) (o : History) (fails : Bool) (reading : ℕ) (asked : Request) → (IsRestart asked → ⊥) → tablet_answer lease o fails reading asked ≡ tablet_standing (down_since o) (tablet_up lease o fails reading asked)
tablet_live lease o fails reading request.Restart live = absurd (live tt)
tablet_live lease o fails reading asked live = refl

status_live : (lease : ℕ) (o : History) (fails : Bool) (reading : ℕ) (asked : Request) → (IsRestart asked → ⊥) → status_answer lease o fails reading asked ≡ status_standing (down_since o) (status_up lease o fails reading asked)
status_live lease o fails reading request.Restart live = absurd (live tt)
status_live lease o fails reading asked live = refl

pub live : (lease : ℕ) (a : Actor) (o : History) (fails : Bool) (reading : ℕ) (asked : Request) → (IsRestart asked → ⊥) → machine_answer lease a o fails reading asked ≡ Standing a (down_since o) (Up a lease o fails reading asked)
live lease (Tablet k) o fails reading asked other = tablet_live lease o fails reading asked other
live lease (Status j) o fails reading asked other = status_live lease o fails reading asked other
live lease (Session i) o fails reading asked other = status_live lease o fails reading asked other
live lease (Applier k) o fails reading asked other = status_live lease o fails reading asked other

standing_down : (a : Actor) (since : ℕ) (up : Answer) → Standing a (Some since) up ≡ refusal_answer (refusal.Down since)
standing_down (Tablet k) since up = refl
standing_down (Status j) since up = refl
standing_down (Session i) since up = refl
standing_down (Applier k) since up = refl

standing_up : (a : Actor) (up : Answer) → Standing a None up ≡ up
standing_up (Tablet k) up = refl
standing_up (Status j) up = refl
standing_up (Session i) up = refl
standing_up (Applier k) up = refl

is_down : (lease : ℕ) (a : Actor) (o : History) (fails : Bool) (reading : ℕ) (asked : Request) (since : ℕ) → (IsRestart asked → ⊥) → down_since o ≡ Some since → machine_answer lease a o fails reading asked ≡ refusal_answer (refusal.Down since)
is_down lease a o fails reading asked since other is = live lease a o fails reading asked other ∙ (ap (λ (d : Option ℕ). Standing a d (Up a lease o fails reading asked)) is ∙ standing_down a since (Up a lease o fails reading asked))

pub is_up : (lease : ℕ) (a : Actor) (o : History) (fails : Bool) (reading : ℕ) (asked : Request) → (IsRestart asked → ⊥) → down_since o ≡ None → machine_answer lease a o fails reading asked ≡ Up a lease o fails reading asked
is_up lease a o fails reading asked other is = live lease a o fails reading asked other ∙ (ap (λ (d : Option ℕ). Standing a d (Up a lease o fails reading asked)) is ∙ standing_up a (Up a lease o fails reading asked))

-- ## writes

conflict_up : (lease : ℕ) (a : Actor) (o : History) (fails : Bool) (reading : ℕ) (asked : Request) (other : ℕ) → IsOfTable a asked → MeetsConflict asked o other → Up a lease o fails reading asked ≡ refusal_answer (refusal.Conflict other)
conflict_up lease (Tablet k) o fails reading (request.Write meta number path op read seen fates) other of meets = rw meets refl
conflict_up lease (Tablet k) o fails reading (request.Single x path op seen fates) other of meets = rw meets refl
conflict_up lease (Status j) o fails reading (request.Write meta number path op read seen fates) other of meets = absurd of
conflict_up lease (Status j) o fails reading (request.Single x path op seen fates) other of meets = absurd of
conflict_up lease (Session i) o fails reading (request.Write meta number path op read seen fates) other of meets = absurd of
conflict_up lease (Session i) o fails reading (request.Single x path op seen fates) other of meets = absurd of
conflict_up lease (Applier k) o fails reading (request.Write meta number path op read seen fates) other of meets = absurd of
conflict_up lease (Applier k) o fails reading (request.Single x path op seen fates) other of meets = absurd of
conflict_up lease a o fails reading asked other of meets = absurd meets

overlap_up : (lease : ℕ) (a : Actor) (o : History) (fails : Bool) (reading : ℕ) (asked : Request) (at : ℕ) → IsOfTable a asked → MeetsOverlap asked o at → Up a lease o fails reading asked ≡ refusal_answer (refusal.Overlap at)
overlap_up lease (Tablet k) o fails reading (request.Write meta number path op read seen fates) at of meets = rw meets.0 (rw meets.1 refl)
overlap_up lease (Status j) o fails reading (request.Write meta number path op read seen fates) at of meets = absurd of
overlap_up lease (Session i) o fails reading (request.Write meta number path op read seen fates) at of meets = absurd of
overlap_up lease (Applier k) o fails reading (request.Write meta number path op read seen fates) at of meets = absurd of
overlap_up lease a o fails reading asked at of meets = absurd meets

no_restart_conflict : (asked : Request) (o : History) (other : ℕ) → MeetsConflict asked o other → IsRestart asked → ⊥
no_restart_conflict request.Restart o other meets is = meets
no_restart_conflict asked o other meets is = is

no_restart_overlap : (asked : Request) (o : History) (at : ℕ) → MeetsOverlap asked o at → IsRestart asked → ⊥
no_restart_overlap request.Restart o at meets is = meets
no_restart_overlap asked o at meets is = is

no_restart_timed : (asked : Request) (o : History) → needs_time asked o ≡ true → IsRestart asked → ⊥
no_restart_timed request.Restart o needs is = cc
no_restart_timed asked o needs is = is

-- ## an action that takes a time

record IsTimed (lease : ℕ) (o : History) (fails : Bool) (reading : ℕ) (asked : Request) (up : Answer) : Type 0 where
  kind : Kind
  floor : ℕ
  records : Bool
  answer : ℕ → Reply
  is : up ≡ timed lease o fails kind floor reading records answer
  of_floor : (n : ℕ) → floor_asked asked ≡ Some n → (kind ≡ Own) × (floor ≡ n)

some_is : (a b : ℕ) → Some a ≡ Some b → a ≡ b
some_is a b is = cc

none_of : (o : Option ℕ) → is_none o ≡ true → o ≡ None
none_of None is = refl
none_of (Some n) is = cc

pending_commit : (r : Record) (done : Answer) → is_pending r ≡ true → commit_answer r done ≡ done
pending_commit (Pending priority) done is = refl
pending_commit (Committed at tablets) done is = cc
pending_commit (AbortedBy by) done is = cc
pending_commit NoRecord done is = cc

tablet_timed : (lease : ℕ) (o : History) (fails : Bool) (reading : ℕ) (k : ℕ) (asked : Request) → IsOfTable (Tablet k) asked → needs_time asked o ≡ true → IsTimed lease o fails reading asked (tablet_up lease o fails reading asked)
tablet_timed lease o fails reading k (request.Write meta number path op read seen fates) of needs =
    let both = and_parts (is_none (conflict meta.txn path fates (provisional o))) (is_none (greatest_above read (related_commits meta.txn path fates (provisional o) (versions o)))) needs in
    let c : conflict meta.txn path fates (provisional o) ≡ None = none_of (conflict meta.txn path fates (provisional o)) both.0 in
    let v : greatest_above read (related_commits meta.txn path fates (provisional o) (versions o)) ≡ None = none_of (greatest_above read (related_commits meta.txn path fates (provisional o) (versions o))) both.1 in
    record { kind = Own; floor = seen; records = true; answer = λ w. reply.Written w; is = rw c (rw v refl); of_floor = λ n is. (refl, some_is seen n is) }
tablet_timed lease o fails reading k (request.Single x path op seen fates) of needs =
    let c : conflict x path fates (provisional o) ≡ None = none_of (conflict x path fates (provisional o)) needs in
    record { kind = Own; floor = max seen (greatest_fate fates fates); records = true; answer = λ c. reply.SingleDone c; is = rw c refl; of_floor = λ n is. (refl, some_is (max seen (greatest_fate fates fates)) n is) }
tablet_timed lease o fails reading k (request.ListRead own_txn paths t g limit) of needs =
    record { kind = Floor; floor = t; records = false; answer = λ now. listed own_txn paths t (local_limit limit now g) (provisional o); is = refl; of_floor = λ n is. cc }
tablet_timed lease o fails reading k (request.Apply x at) of needs =
    record { kind = Floor; floor = at; records = true; answer = λ now. reply.AppliedHere; is = rw needs refl; of_floor = λ n is. cc }
tablet_timed lease o fails reading k (request.AskFate x t) of needs = absurd of
tablet_timed lease o fails reading k (request.Commit x floor tablets) of needs = absurd of
tablet_timed lease o fails reading k asked of needs = cc

status_timed : (lease : ℕ) (o : History) (fails : Bool) (reading : ℕ) (j : ℕ) (asked : Request) → IsOfTable (Status j) asked → needs_time asked o ≡ true → IsTimed lease o fails reading asked (status_up lease o fails reading asked)
status_timed lease o fails reading j (request.AskFate x t) of needs =
    record { kind = Floor; floor = t; records = false; answer = λ now. reply.FateIs (fate_told (record_of x o)); is = refl; of_floor = λ n is. cc }
status_timed lease o fails reading j (request.Commit x floor tablets) of needs =
    record { kind = Own; floor = floor; records = true; answer = λ c. reply.Committed c; is = pending_commit (record_of x o) _ needs; of_floor = λ n is. (refl, some_is floor n is) }
status_timed lease o fails reading j (request.Write meta number path op read seen fates) of needs = absurd of
status_timed lease o fails reading j (request.Single x path op seen fates) of needs = absurd of
status_timed lease o fails reading j (request.ListRead own_txn paths t g limit) of needs = absurd of
status_timed lease o fails reading j (request.Apply x at) of needs = absurd of
status_timed lease o fails reading j asked of needs = cc

no_table : (asked : Request) (o : History) → needs_time asked o ≡ true → (i : ℕ) → (IsOfTable (Session i) asked → ⊥) × (IsOfTable (Applier i) asked → ⊥)
no_table request.Restart o needs i = cc
no_table asked o needs i = (λ of. of, λ of. of)

up_timed : (lease : ℕ) (a : Actor) (o : History) (fails : Bool) (reading : ℕ) (asked : Request) → IsOfTable a asked → needs_time asked o ≡ true → IsTimed lease o fails reading asked (Up a lease o fails reading asked)
up_timed lease (Tablet k) o fails reading asked of needs = tablet_timed lease o fails reading k asked of needs
up_timed lease (Status j) o fails reading asked of needs = status_timed lease o fails reading j asked of needs
up_timed lease (Session i) o fails reading asked of needs = absurd ((no_table asked o needs i).0 of)
up_timed lease (Applier k) o fails reading asked of needs = absurd ((no_table asked o needs k).1 of)

le-leb : (a b : ℕ) → a ≤ b → nat_le a b ≡ true
le-leb a b is = grind (arith, is)

held_timed : (lease : ℕ) (o : History) (fails : Bool) (kind : Kind) (floor reading : ℕ) (records : Bool) (r : ℕ → Reply) (until : ℕ) → lease_end lease o ≡ Some until → has_given o ≡ false → reading ≤ until → timed lease o fails kind floor reading records r ≡ refusal_answer (refusal.LeaseHeld until)
held_timed lease o fails kind floor reading records r until end given early = rw end (rw given (rw (le-leb reading until early) refl))

free_timed : (lease : ℕ) (o : History) (fails : Bool) (kind : Kind) (floor reading : ℕ) (records : Bool) (r : ℕ → Reply) → holds (lease_end lease o) (has_given o) reading ≡ false →
    timed lease o fails kind floor reading records r ≡ timed_answer lease (lease_end lease o) fails records (clock_time kind (last_time o) floor reading) r
free_timed lease o fails kind floor reading records r free = rw free refl

out_of_range : (kind : Kind) (last floor reading : ℕ) → greatest_reading < reading → clock_time kind last floor reading ≡ Err (time_refusal.ClockRange reading)
out_of_range Own last floor reading above = rw (lt-ltb greatest_reading reading above) refl
out_of_range Floor last floor reading above = rw (lt-ltb greatest_reading reading above) refl

counter_ended : (last floor reading at : ℕ) → reading ≤ greatest_reading → at ≡ max last floor → logical_of at ≡ 4095 → reading ≤ micros_of at → clock_time Own last floor reading ≡ Err (time_refusal.ClockFull at)
counter_ended last floor reading at within is ended early =
    rw (le-ltb greatest_reading reading within) (rw (sym is) (rw (le-ltb (micros_of at) reading early) (rw (four ended) refl)))
  where
    four : logical_of at ≡ 4095 → nat_eq (logical_of at) 4095 ≡ true
    four e = rw e refl

refused_timed : (lease : ℕ) (end : Option ℕ) (fails records : Bool) (e : TimeRefusal) (r : ℕ → Reply) → timed_answer lease end fails records (Err e) r ≡ timed_answer lease end fails true (Err e) r
refused_timed lease end fails true e r = refl
refused_timed lease end fails false e r = refl

range_is : (lease : ℕ) (end : Option ℕ) (fails records : Bool) (n : ℕ) (r : ℕ → Reply) → timed_answer lease end fails records (Err (time_refusal.ClockRange n)) r ≡ refusal_answer (refusal.ClockRange n)
range_is lease end fails true n r = refl
range_is lease end fails false n r = refl

full_is : (lease : ℕ) (end : Option ℕ) (fails records : Bool) (at : ℕ) (r : ℕ → Reply) → timed_answer lease end fails records (Err (time_refusal.ClockFull at)) r ≡ refusal_answer (refusal.ClockFull at)
full_is lease end fails true at r = refl
full_is lease end fails false at r = refl

-- ## each row

meets_answer : (lease : ℕ) (a : Actor) (o : History) (fails : Bool) (reading : Option ℕ) (asked : Request) (r : Refusal) → IsOfTable a asked → Meets lease o reading asked r → machine_answer lease a o fails (or_zero reading) asked ≡ refusal_answer r
meets_answer lease a o fails reading asked (refusal.Down since) of meets = is_down lease a o fails (or_zero reading) asked since meets.0 meets.1
meets_answer lease a o fails reading asked (refusal.Conflict other) of meets =
    is_up lease a o fails (or_zero reading) asked (no_restart_conflict asked o other meets.1) meets.0 ∙ conflict_up lease a o fails (or_zero reading) asked other of meets.1
meets_answer lease a o fails reading asked (refusal.Overlap at) of meets =
    is_up lease a o fails (or_zero reading) asked (no_restart_overlap asked o at meets.1) meets.0 ∙ overlap_up lease a o fails (or_zero reading) asked at of meets.1
meets_answer lease a o fails reading asked (refusal.LeaseHeld until) of meets =
    let timed_up = up_timed lease a o fails (or_zero reading) asked of meets.1 in
    is_up lease a o fails (or_zero reading) asked (no_restart_timed asked o meets.1) meets.0
    ∙ (timed_up.is ∙ held_timed lease o fails timed_up.kind timed_up.floor (or_zero reading) timed_up.records timed_up.answer until meets.2 meets.3 meets.4)
meets_answer lease a o fails reading asked (refusal.ClockRange n) of meets =
    let timed_up = up_timed lease a o fails (or_zero reading) asked of meets.0.1 in
    let above : greatest_reading < or_zero reading = subst (λ (k : ℕ). greatest_reading < k) (sym meets.1) meets.2 in
    is_up lease a o fails (or_zero reading) asked (no_restart_timed asked o meets.0.1) meets.0.0
    ∙ (timed_up.is ∙ (free_timed lease o fails timed_up.kind timed_up.floor (or_zero reading) timed_up.records timed_up.answer meets.0.2
    ∙ (ap (λ (t : Result ℕ TimeRefusal). timed_answer lease (lease_end lease o) fails timed_up.records t timed_up.answer) (out_of_range timed_up.kind (last_time o) timed_up.floor (or_zero reading) above)
    ∙ (range_is lease (lease_end lease o) fails timed_up.records (or_zero reading) timed_up.answer ∙ ap (λ (k : ℕ). refusal_answer (refusal.ClockRange k)) meets.1))))
meets_answer lease a o fails reading asked (refusal.ClockFull at) of meets =
    let timed_up = up_timed lease a o fails (or_zero reading) asked of meets.0.1 in
    let own = timed_up.of_floor meets.2.0 meets.2.1 in
    let ended : clock_time timed_up.kind (last_time o) timed_up.floor (or_zero reading) ≡ Err (time_refusal.ClockFull at) =
    subst (λ (k : Kind). clock_time k (last_time o) timed_up.floor (or_zero reading) ≡ Err (time_refusal.ClockFull at)) (sym own.0)
    (subst (λ (f : ℕ). clock_time Own (last_time o) f (or_zero reading) ≡ Err (time_refusal.ClockFull at)) (sym own.1)
    (counter_ended (last_time o) meets.2.0 (or_zero reading) at meets.1 meets.2.2 meets.3 meets.4)) in
    is_up lease a o fails (or_zero reading) asked (no_restart_timed asked o meets.0.1) meets.0.0
    ∙ (timed_up.is ∙ (free_timed lease o fails timed_up.kind timed_up.floor (or_zero reading) timed_up.records timed_up.answer meets.0.2
    ∙ (ap (λ (t : Result ℕ TimeRefusal). timed_answer lease (lease_end lease o) fails timed_up.records t timed_up.answer) ended
    ∙ full_is lease (lease_end lease o) fails timed_up.records at timed_up.answer)))
meets_answer lease a o fails reading asked refusal.LogFault of meets = absurd meets
meets_answer lease a o fails reading asked refusal.Memory of meets = absurd meets

pub row_served : (lease : ℕ) (a : Actor) (o : History) (reading : Option ℕ) (asked : Request) (r : Reply) (time : Option ℕ) (append : Append) (w : Refusal) → Serves lease a o reading asked r time append → IsOfTable a asked → Meets lease o reading asked w → r ≡ reply.Refused w
row_served lease a o reading asked r time append w serves of meets = serves.replied ∙ ap (λ (x : Answer). x.reply) (meets_answer lease a o serves.fails reading asked w of meets)

-- ## records

pending_up : (lease : ℕ) (a : Actor) (o : History) (fails : Bool) (reading x by priority own_priority : ℕ) → IsOfTable a (request.Resolve x by priority) → record_of x o ≡ Pending own_priority → priority ≤ own_priority →
    (Up a lease o fails reading (request.Resolve x by priority)).reply ≡ reply.FateIs fate.Pending
pending_up lease (Status j) o fails reading x by priority own_priority of is low = rw is (rw (le-ltb own_priority priority low) refl)
pending_up lease (Tablet k) o fails reading x by priority own_priority of is low = absurd of
pending_up lease (Session i) o fails reading x by priority own_priority of is low = absurd of
pending_up lease (Applier k) o fails reading x by priority own_priority of is low = absurd of

aborted_up : (lease : ℕ) (a : Actor) (o : History) (fails : Bool) (reading x floor by : ℕ) (tablets : List ℕ) → IsOfTable a (request.Commit x floor tablets) → record_of x o ≡ AbortedBy by →
    (Up a lease o fails reading (request.Commit x floor tablets)).reply ≡ reply.AbortedBy by
aborted_up lease (Status j) o fails reading x floor by tablets of is = rw is refl
aborted_up lease (Tablet k) o fails reading x floor by tablets of is = absurd of
aborted_up lease (Session i) o fails reading x floor by tablets of is = absurd of
aborted_up lease (Applier k) o fails reading x floor by tablets of is = absurd of

pub pending_served : (lease : ℕ) (a : Actor) (o : History) (reading : Option ℕ) (x by priority own_priority : ℕ) (r : Reply) (time : Option ℕ) (append : Append) → Serves lease a o reading (request.Resolve x by priority) r time append → IsOfTable a (request.Resolve x by priority) →
    down_since o ≡ None → record_of x o ≡ Pending own_priority → priority ≤ own_priority → r ≡ reply.FateIs fate.Pending
pending_served lease a o reading x by priority own_priority r time append serves of up is low =
    serves.replied ∙ (ap (λ (w : Answer). w.reply) (is_up lease a o serves.fails (or_zero reading) (request.Resolve x by priority) (λ e. e) up) ∙ pending_up lease a o serves.fails (or_zero reading) x by priority own_priority of is low)

pub aborted_served : (lease : ℕ) (a : Actor) (o : History) (reading : Option ℕ) (x floor by : ℕ) (tablets : List ℕ) (r : Reply) (time : Option ℕ) (append : Append) → Serves lease a o reading (request.Commit x floor tablets) r time append → IsOfTable a (request.Commit x floor tablets) →
    down_since o ≡ None → record_of x o ≡ AbortedBy by → r ≡ reply.AbortedBy by
aborted_served lease a o reading x floor by tablets r time append serves of up is =
    serves.replied ∙ (ap (λ (w : Answer). w.reply) (is_up lease a o serves.fails (or_zero reading) (request.Commit x floor tablets) (λ e. e) up) ∙ aborted_up lease a o serves.fails (or_zero reading) x floor by tablets of is)

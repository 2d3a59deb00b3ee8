-- Going through the records that entries log gives what the tables say of the entries.
use Rattle.std.proofs.Common.{◌≡◌, ℕ, ◌+◌, Bool, true, false, cond, List, [], ◌∷◌, ◌++◌, Option, Some, None, refl, sym, ap, ◌∙◌}
use Rattle.std.specs.Prelude.{filter}
use Rattle.std.specs.List.{fold}
use Rattle.hybrid_time.specs.Time.{micros_of}
use Rattle.txn_data.specs.declared.actor.Actor.{Actor}
use Rattle.txn_data.specs.declared.append.Append.{Append}
use Rattle.txn_data.specs.declared.append.Append.TheVariants.{Nothing, Took, Failed}
use Rattle.txn_data.specs.declared.request.Request.{Request}
use Rattle.txn_data.specs.declared.request.Request.TheVariants as request
use Rattle.txn_data.specs.declared.reply.Reply.{Reply}
use Rattle.txn_data.specs.declared.version.Version.{Version}
use Rattle.txn_data.specs.declared.event.Event.{Event}
use Rattle.txn_data.specs.declared.event.Event.TheVariants.{Start, Ask, Serve, Hear, Tell, Restarted}
use Rattle.txn_data.specs.declared.entry.Entry.{Entry}
use Rattle.txn_types.specs.History.{History, counting, was_logged}
use Rattle.txn_types.specs.Clock.{lease_due, lease_with, lease_over, lease_end}
use Rattle.txn_types.specs.Clock as clock
use Rattle.txn_types.specs.Tablet.{Intent, provisional_after, provisional_over, provisional, versions_over, versions}
use Rattle.txn_types.specs.Tablet as tablet
use Rattle.txn_types.specs.Status.{Record, NoRecord, record_over, record_of}
use Rattle.txn_types.specs.Status as status
use Rattle.log_record.specs.declared.log_record.LogRecord.{LogRecord}
use Rattle.log_record.specs.declared.log_record.LogRecord.TheVariants.{Lease}
use Rattle.tablet_log.specs.Entries.{own_record, lease_record, records_of, logged_over, logged_records}
use Rattle.tablet_log.specs.Replay.{TabletState, lease_after, tablet_after, tablet_at_first, tablet_of, record_after, record_in, lease_in}

fold_joined : {A B : Type 0} (f : A → B → A) (a : A) (xs ys : List B) → fold f a (xs ++ ys) ≡ fold f (fold f a xs) ys
fold_joined f a [] ys = refl
fold_joined f a (x ∷ xs) ys = fold_joined f (f a x) xs ys

-- ---- a tablet

abbrev state : Option ℕ → List Intent → List Version → TabletState
state end ps vs = record { lease = end; intents = ps; versions = vs }

-- the record of an action's own
own_tablet : (end : Option ℕ) (ps : List Intent) (vs : List Version) (from : Actor) (asked : Request) (r : Reply) (time : Option ℕ) (append : Append)
    → fold tablet_after (state end ps vs) (own_record asked time)
    ≡ state end (provisional_after ps (Serve from asked r time append)) (tablet.versions_after vs ps (Serve from asked r time append))
own_tablet end ps vs from (request.ListWrite x path) r time append = refl
own_tablet end ps vs from (request.Write meta number path op read seen fates) r None append = refl
own_tablet end ps vs from (request.Write meta number path op read seen fates) r (Some w) append = refl
own_tablet end ps vs from (request.Single x path op seen fates) r None append = refl
own_tablet end ps vs from (request.Single x path op seen fates) r (Some c) append = refl
own_tablet end ps vs from (request.ListRead own paths t g limit) r time append = refl
own_tablet end ps vs from (request.Collect own kind paths t window fates) r time append = refl
own_tablet end ps vs from request.ListIntents r time append = refl
own_tablet end ps vs from (request.Apply x at) r time append = refl
own_tablet end ps vs from (request.Clean x) r time append = refl
own_tablet end ps vs from (request.Begin x isolation priority) r time append = refl
own_tablet end ps vs from (request.AskFate x t) r time append = refl
own_tablet end ps vs from (request.Resolve x by priority) r time append = refl
own_tablet end ps vs from (request.Commit x floor tablets) r None append = refl
own_tablet end ps vs from (request.Commit x floor tablets) r (Some c) append = refl
own_tablet end ps vs from (request.Abort x) r time append = refl
own_tablet end ps vs from (request.Applied x k) r time append = refl
own_tablet end ps vs from request.Restart r time append = refl

-- the lease before it
leased_tablet : (lease : ℕ) (end : Option ℕ) (ps : List Intent) (vs : List Version) (time : ℕ) (rs : List LogRecord)
    → fold tablet_after (state end ps vs) (lease_record lease end (Some time) ++ rs) ≡ fold tablet_after (state (lease_with lease end time) ps vs) rs
leased_tablet lease end ps vs time rs =
    elim (lease_due end time) as (λ (b : Bool). fold tablet_after (state end ps vs) (cond b (Lease (micros_of time + lease) ∷ []) [] ++ rs) ≡ fold tablet_after (state (cond b (Some (micros_of time + lease)) end) ps vs) rs) [
      | true ↦ refl
      | false ↦ refl
    ]

abbrev tablet_state_after : ℕ → Option ℕ → List Intent → List Version → Event → TabletState
tablet_state_after lease end ps vs ev =
    state (clock.lease_after lease end ev) (cond (was_logged ev) (provisional_after ps ev) ps) (cond (was_logged ev) (tablet.versions_after vs ps ev) vs)

tablet_event : (lease : ℕ) (end : Option ℕ) (ps : List Intent) (vs : List Version) (ev : Event)
    → fold tablet_after (state end ps vs) (records_of lease end ev) ≡ tablet_state_after lease end ps vs ev
tablet_event lease end ps vs (Start command line) = refl
tablet_event lease end ps vs (Ask to asked) = refl
tablet_event lease end ps vs (Serve from asked r None Nothing) = refl
tablet_event lease end ps vs (Serve from asked r None Took) = own_tablet end ps vs from asked r None Took
tablet_event lease end ps vs (Serve from asked r None Failed) = own_tablet end ps vs from asked r None Failed
tablet_event lease end ps vs (Serve from asked r (Some time) Nothing) = leased_tablet lease end ps vs time []
tablet_event lease end ps vs (Serve from asked r (Some time) Took) =
    leased_tablet lease end ps vs time (own_record asked (Some time)) ∙ own_tablet (lease_with lease end time) ps vs from asked r (Some time) Took
tablet_event lease end ps vs (Serve from asked r (Some time) Failed) =
    leased_tablet lease end ps vs time (own_record asked (Some time)) ∙ own_tablet (lease_with lease end time) ps vs from asked r (Some time) Failed
tablet_event lease end ps vs (Hear from r) = refl
tablet_event lease end ps vs (Tell command told) = refl
tablet_event lease end ps vs (Restarted from kept) = refl

abbrev logged_only : History → History
logged_only cs = filter (λ (e : Entry). was_logged e.event) cs

kept_tablet : (end : Option ℕ) (b : Bool) (e : Entry) (fs : History)
    → state end (cond b (provisional_after (provisional_over fs) e.event) (provisional_over fs)) (cond b (tablet.versions_after (versions_over fs) (provisional_over fs) e.event) (versions_over fs))
    ≡ state end (provisional_over (cond b (e ∷ fs) fs)) (versions_over (cond b (e ∷ fs) fs))
unfolding provisional_over versions_over
kept_tablet end true e fs = refl
kept_tablet end false e fs = refl

abbrev table_state : ℕ → History → TabletState
table_state lease cs = state (lease_over lease cs) (provisional_over (logged_only cs)) (versions_over (logged_only cs))

tablet_over : (lease : ℕ) (cs : History) → tablet_of (logged_over lease cs) ≡ table_state lease cs
unfolding logged_over lease_over provisional_over versions_over
tablet_over lease [] = refl
tablet_over lease (e ∷ cs) =
    fold_joined tablet_after tablet_at_first (logged_over lease cs) (records_of lease (lease_over lease cs) e.event)
    ∙ ap (λ (s : TabletState). fold tablet_after s (records_of lease (lease_over lease cs) e.event)) (tablet_over lease cs)
    ∙ tablet_event lease (lease_over lease cs) (provisional_over (logged_only cs)) (versions_over (logged_only cs)) e.event
    ∙ kept_tablet (clock.lease_after lease (lease_over lease cs) e.event) (was_logged e.event) e (logged_only cs)

pub tablet_is : (lease : ℕ) (h : History) → tablet_of (logged_records lease h) ≡ record { lease = lease_end lease h; intents = provisional h; versions = versions h }
tablet_is lease h = tablet_over lease (counting h)

-- ---- a status tablet

own_status : (x : ℕ) (kept : Record) (from : Actor) (asked : Request) (r : Reply) (time : Option ℕ) (append : Append)
    → fold (record_after x) kept (own_record asked time) ≡ status.record_after x kept (Serve from asked r time append)
own_status x kept from (request.ListWrite y path) r time append = refl
own_status x kept from (request.Write meta number path op read seen fates) r None append = refl
own_status x kept from (request.Write meta number path op read seen fates) r (Some w) append = refl
own_status x kept from (request.Single y path op seen fates) r None append = refl
own_status x kept from (request.Single y path op seen fates) r (Some c) append = refl
own_status x kept from (request.ListRead own paths t g limit) r time append = refl
own_status x kept from (request.Collect own kind paths t window fates) r time append = refl
own_status x kept from request.ListIntents r time append = refl
own_status x kept from (request.Apply y at) r time append = refl
own_status x kept from (request.Clean y) r time append = refl
own_status x kept from (request.Begin y isolation priority) r time append = refl
own_status x kept from (request.AskFate y t) r time append = refl
own_status x kept from (request.Resolve y by priority) r time append = refl
own_status x kept from (request.Commit y floor tablets) r None append = refl
own_status x kept from (request.Commit y floor tablets) r (Some c) append = refl
own_status x kept from (request.Abort y) r time append = refl
own_status x kept from (request.Applied y k) r time append = refl
own_status x kept from request.Restart r time append = refl

leased_status : (x lease : ℕ) (end : Option ℕ) (kept : Record) (time : ℕ) (rs : List LogRecord) → fold (record_after x) kept (lease_record lease end (Some time) ++ rs) ≡ fold (record_after x) kept rs
leased_status x lease end kept time rs =
    elim (lease_due end time) as (λ (b : Bool). fold (record_after x) kept (cond b (Lease (micros_of time + lease) ∷ []) [] ++ rs) ≡ fold (record_after x) kept rs) [
      | true ↦ refl
      | false ↦ refl
    ]

status_event : (x lease : ℕ) (end : Option ℕ) (kept : Record) (ev : Event) → fold (record_after x) kept (records_of lease end ev) ≡ cond (was_logged ev) (status.record_after x kept ev) kept
status_event x lease end kept (Start command line) = refl
status_event x lease end kept (Ask to asked) = refl
status_event x lease end kept (Serve from asked r None Nothing) = refl
status_event x lease end kept (Serve from asked r None Took) = own_status x kept from asked r None Took
status_event x lease end kept (Serve from asked r None Failed) = own_status x kept from asked r None Failed
status_event x lease end kept (Serve from asked r (Some time) Nothing) = leased_status x lease end kept time []
status_event x lease end kept (Serve from asked r (Some time) Took) = leased_status x lease end kept time (own_record asked (Some time)) ∙ own_status x kept from asked r (Some time) Took
status_event x lease end kept (Serve from asked r (Some time) Failed) = leased_status x lease end kept time (own_record asked (Some time)) ∙ own_status x kept from asked r (Some time) Failed
status_event x lease end kept (Hear from r) = refl
status_event x lease end kept (Tell command told) = refl
status_event x lease end kept (Restarted from kept_piece) = refl

kept_status : (x : ℕ) (b : Bool) (e : Entry) (fs : History) → cond b (status.record_after x (record_over x fs) e.event) (record_over x fs) ≡ record_over x (cond b (e ∷ fs) fs)
unfolding record_over
kept_status x true e fs = refl
kept_status x false e fs = refl

status_over : (x lease : ℕ) (cs : History) → record_in x (logged_over lease cs) ≡ record_over x (logged_only cs)
unfolding logged_over record_over
status_over x lease [] = refl
status_over x lease (e ∷ cs) =
    fold_joined (record_after x) NoRecord (logged_over lease cs) (records_of lease (lease_over lease cs) e.event)
    ∙ ap (λ (kept : Record). fold (record_after x) kept (records_of lease (lease_over lease cs) e.event)) (status_over x lease cs)
    ∙ status_event x lease (lease_over lease cs) (record_over x (logged_only cs)) e.event
    ∙ kept_status x (was_logged e.event) e (logged_only cs)

pub status_is : (lease : ℕ) (h : History) (x : ℕ) → record_in x (logged_records lease h) ≡ record_of x h
status_is lease h x = status_over x lease (counting h)

lease_folded : (s : TabletState) (rs : List LogRecord) → (fold tablet_after s rs).lease ≡ fold lease_after s.lease rs
lease_folded s [] = refl
lease_folded s (r ∷ rs) = lease_folded (tablet_after s r) rs

pub lease_is : (lease : ℕ) (h : History) → lease_in (logged_records lease h) ≡ lease_end lease h
lease_is lease h = sym (lease_folded tablet_at_first (logged_records lease h)) ∙ ap (λ (s : TabletState). s.lease) (tablet_is lease h)

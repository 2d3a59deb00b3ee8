-- What a restart does to the records that stand in a log.
use Rattle.std.proofs.Common.{◌≡◌, ℕ, Bool, true, false, cond, List, [], ◌∷◌, ◌++◌, Option, Some, None, refl, sym, ap, subst, ◌∙◌}
use Rattle.std.proofs.lemmas.Bool.{eq-eqb}
use Rattle.std.proofs.lemmas.List.{append-nil}
use Rattle.txn_data.specs.declared.actor.Actor.{Actor}
use Rattle.txn_data.specs.declared.actor.Actor.TheVariants.{Tablet, Status, Session, Applier}
use Rattle.txn_data.specs.declared.append.Append.TheVariants.{Nothing, Took, Failed}
use Rattle.txn_data.specs.declared.request.Request.{Request}
use Rattle.txn_data.specs.declared.reply.Reply.{Reply}
use Rattle.txn_data.specs.declared.event.Event.{Event}
use Rattle.txn_data.specs.declared.event.Event.TheVariants.{Start, Ask, Serve, Hear, Tell, Restarted}
use Rattle.txn_data.specs.declared.entry.Entry.{Entry}
use Rattle.txn_types.specs.History.{History, same_actor, kept_by, next_restart_kept, event_counts, counting_before, counting}
use Rattle.txn_types.specs.Clock.{has_failed}
use Rattle.log_record.specs.declared.log_record.LogRecord.{LogRecord}
use Rattle.tablet_log.specs.Entries.{logged_over, logged_records, failed_records}
use Rattle.tablet_log.specs.Rests.{IsStill, IsStillWhere, RestsDown, if_kept}

abbrev entry : Actor → Option ℕ → Event → Entry
entry a reading ev = record { actor = a; reading = reading; event = ev }

same_self : (a : Actor) → same_actor a a ≡ true
same_self (Tablet k) = eq-eqb k k refl
same_self (Status k) = eq-eqb k k refl
same_self (Session k) = eq-eqb k k refl
same_self (Applier k) = eq-eqb k k refl

same_of : (b a : Actor) → b ≡ a → same_actor b a ≡ true
same_of b a e = subst (λ (x : Actor). same_actor x a ≡ true) (sym e) (same_self a)

-- the entries that count, where the next restart keeps what had failed or does not
unfoldable pub counting_if : Bool → History → History
counting_if b [] = []
counting_if b (e ∷ h) =
    cond (event_counts e.event b) (e ∷ counting_if (kept_by e.event b) h) (counting_if (kept_by e.event b) h)

kept_next : (a : Actor) (e : Entry) (later : History) → e.actor ≡ a → next_restart_kept a (e ∷ later) ≡ kept_by e.event (next_restart_kept a later)
unfolding next_restart_kept
kept_next a e later is = let same = same_of e.actor a is in rw same refl

-- of one actor it matters alone whether its next restart keeps
counting_is : (a : Actor) (later : History) (h : History) → RestsDown a h → counting_before later h ≡ counting_if (next_restart_kept a later) h
unfolding counting_before counting_if RestsDown
counting_is a later [] rests = refl
counting_is a later (e ∷ h) rests =
    let rest : counting_before (e ∷ later) h ≡ counting_if (kept_by e.event (next_restart_kept a later)) h =
    counting_is a (e ∷ later) h rests.0 ∙ ap (λ (b : Bool). counting_if b h) (kept_next a e later rests.1) in
    let next : next_restart_kept e.actor later ≡ next_restart_kept a later = ap (λ (b : Actor). next_restart_kept b later) rests.1 in
    ap (λ (k : Bool). cond (event_counts e.event k) (e ∷ counting_before (e ∷ later) h) (counting_before (e ∷ later) h)) next
    ∙ ap (λ (cs : History). cond (event_counts e.event (next_restart_kept a later)) (e ∷ cs) cs) rest

pub counting_all : (a : Actor) (h : History) → RestsDown a h → counting h ≡ counting_if false h
unfolding next_restart_kept
counting_all a h rests = counting_is a [] h rests

counting_restarted : (a : Actor) (h : History) (reading : Option ℕ) (from : Actor) (kept : Bool) → RestsDown a h
    → counting (entry a reading (Restarted from kept) ∷ h) ≡ counting_if kept h
unfolding counting_before next_restart_kept
counting_restarted a h reading from kept rests =
    counting_is a (entry a reading (Restarted from kept) ∷ []) h rests
    ∙ ap (λ (b : Bool). counting_if b h) (kept_next a (entry a reading (Restarted from kept)) [] refl)

-- without a failed append it does not matter
abbrev pub Same : History → Type 0
Same h = has_failed h ≡ false → (b : Bool) → counting_if b h ≡ counting_if false h

same_after : (a : Actor) (reading : Option ℕ) (ev : Event) (h : History) → Same h → Same (entry a reading ev ∷ h)
unfolding counting_if has_failed
same_after a reading (Start command line) h ih none b = ih none b
same_after a reading (Ask to asked) h ih none b = ih none b
same_after a reading (Serve from asked r time Nothing) h ih none b = ap (λ (cs : History). entry a reading (Serve from asked r time Nothing) ∷ cs) (ih none b)
same_after a reading (Serve from asked r time Took) h ih none b = ap (λ (cs : History). entry a reading (Serve from asked r time Took) ∷ cs) (ih none b)
same_after a reading (Serve from asked r time Failed) h ih none b = cc
same_after a reading (Hear from r) h ih none b = ih none b
same_after a reading (Tell command told) h ih none b = ih none b
same_after a reading (Restarted from kept) h ih none b = refl

pub counting_same : (h : History) → Same h
unfolding counting_if
counting_same [] none b = refl
counting_same (e ∷ h) none b = same_after e.actor e.reading e.event h (counting_same h) none b

-- no piece stands behind the log where no append failed
abbrev pub NoPiece : ℕ → History → Type 0
NoPiece lease h = has_failed h ≡ false → failed_records lease h ≡ []

none_after : (lease : ℕ) (a : Actor) (reading : Option ℕ) (ev : Event) (h : History) → NoPiece lease h → NoPiece lease (entry a reading ev ∷ h)
unfolding failed_records has_failed
none_after lease a reading (Start command line) h ih none = ih none
none_after lease a reading (Ask to asked) h ih none = ih none
none_after lease a reading (Serve from asked r time Nothing) h ih none = ih none
none_after lease a reading (Serve from asked r time Took) h ih none = ih none
none_after lease a reading (Serve from asked r time Failed) h ih none = cc
none_after lease a reading (Hear from r) h ih none = ih none
none_after lease a reading (Tell command told) h ih none = ih none
none_after lease a reading (Restarted from kept) h ih none = refl

pub no_piece : (lease : ℕ) (h : History) → has_failed h ≡ false → failed_records lease h ≡ []
unfolding failed_records
no_piece lease [] none = refl
no_piece lease (e ∷ h) none = none_after lease e.actor e.reading e.event h (no_piece lease h) none

-- a restart that keeps adds the failed piece to what counts
abbrev Joined : ℕ → History → Type 0
Joined lease h = logged_over lease (counting_if true h) ≡ logged_over lease (counting_if false h) ++ failed_records lease h

-- where no append failed
joined_none : (lease : ℕ) (h : History) → has_failed h ≡ false → Joined lease h
joined_none lease h none =
    ap (logged_over lease) (counting_same h none true) ∙ sym (append-nil (logged_over lease (counting_if false h)))
    ∙ ap (λ (rs : List LogRecord). logged_over lease (counting_if false h) ++ rs) (sym (no_piece lease h none))

-- the entry that failed is the first since the last restart
joined_failed : (lease : ℕ) (a : Actor) (reading : Option ℕ) (from : Actor) (asked : Request) (r : Reply) (time : Option ℕ) (h : History)
    → RestsDown a h → has_failed h ≡ false → Joined lease (entry a reading (Serve from asked r time Failed) ∷ h)
unfolding counting_if logged_over failed_records
joined_failed lease a reading from asked r time h rests none =
    let same : counting_if true h ≡ counting_if false h = counting_same h none true in
    let all : counting h ≡ counting_if false h = counting_all a h rests in
    rw (same, all) refl

-- what follows it adds no records
joined_still : (lease : ℕ) (a : Actor) (reading : Option ℕ) (ev : Event) (h : History) → IsStill ev → Joined lease h → Joined lease (entry a reading ev ∷ h)
unfolding counting_if logged_over failed_records
joined_still lease a reading (Serve from asked r None Nothing) h still ih =
    append-nil (logged_over lease (counting_if true h)) ∙ ih
    ∙ ap (λ (rs : List LogRecord). rs ++ failed_records lease h) (sym (append-nil (logged_over lease (counting_if false h))))
joined_still lease a reading (Restarted from kept) h still ih = sym (append-nil (logged_over lease (counting_if kept h)))
joined_still lease a reading (Serve from asked r None Took) h still ih = absurd still
joined_still lease a reading (Serve from asked r None Failed) h still ih = absurd still
joined_still lease a reading (Serve from asked r (Some time) append) h still ih = absurd still
joined_still lease a reading (Start command line) h still ih = absurd still
joined_still lease a reading (Ask to asked) h still ih = absurd still
joined_still lease a reading (Hear from r) h still ih = absurd still
joined_still lease a reading (Tell command told) h still ih = absurd still

joined_after : (lease : ℕ) (a : Actor) (reading : Option ℕ) (ev : Event) (h : History) (failed : Bool) → has_failed h ≡ failed
    → RestsDown a h → IsStillWhere failed ev → Joined lease h → Joined lease (entry a reading ev ∷ h)
joined_after lease a reading ev h true is rests still ih = joined_still lease a reading ev h still ih
joined_after lease a reading (Serve from asked r time Failed) h false is rests still ih = joined_failed lease a reading from asked r time h rests is
joined_after lease a reading (Serve from asked r time Nothing) h false is rests still ih = joined_none lease (entry a reading (Serve from asked r time Nothing) ∷ h) (unfold has_failed in is)
joined_after lease a reading (Serve from asked r time Took) h false is rests still ih = joined_none lease (entry a reading (Serve from asked r time Took) ∷ h) (unfold has_failed in is)
joined_after lease a reading (Start command line) h false is rests still ih = joined_none lease (entry a reading (Start command line) ∷ h) (unfold has_failed in is)
joined_after lease a reading (Ask to asked) h false is rests still ih = joined_none lease (entry a reading (Ask to asked) ∷ h) (unfold has_failed in is)
joined_after lease a reading (Hear from r) h false is rests still ih = joined_none lease (entry a reading (Hear from r) ∷ h) (unfold has_failed in is)
joined_after lease a reading (Tell command told) h false is rests still ih = joined_none lease (entry a reading (Tell command told) ∷ h) (unfold has_failed in is)
joined_after lease a reading (Restarted from kept) h false is rests still ih = joined_still lease a reading (Restarted from kept) h tt ih

joined : (lease : ℕ) (a : Actor) (h : History) → RestsDown a h → Joined lease h
unfolding RestsDown counting_if logged_over failed_records
joined lease a [] rests = refl
joined lease a (e ∷ h) rests =
    let own = subst (λ (b : Actor). RestsDown b h) (sym rests.1) rests.0 in
    joined_after lease e.actor e.reading e.event h (has_failed h) refl own rests.2 (joined lease a h rests.0)

pub log_restarted : (lease : ℕ) (a : Actor) (h : History) (reading : Option ℕ) (from : Actor) (kept : Bool) → RestsDown a h
    → logged_records lease (entry a reading (Restarted from kept) ∷ h) ≡ logged_records lease h ++ if_kept kept (failed_records lease h)
log_restarted lease a h reading from true rests =
    ap (logged_over lease) (counting_restarted a h reading from true rests) ∙ joined lease a h rests
    ∙ ap (λ (cs : History). logged_over lease cs ++ failed_records lease h) (sym (counting_all a h rests))
log_restarted lease a h reading from false rests =
    ap (logged_over lease) (counting_restarted a h reading from false rests ∙ sym (counting_all a h rests))
    ∙ sym (append-nil (logged_records lease h))

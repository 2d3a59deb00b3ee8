-- What has become of a transaction that is asked to end and has no record.
use Rattle.std.proofs.Common.{◌≡◌, ℕ, true, ◌&&◌, [], ◌∷◌, Option, refl, sym, ◌∙◌, ap, subst, inl, inr}
use Rattle.txn_data.specs.declared.actor.Actor.{Actor}
use Rattle.txn_data.specs.declared.actor.Actor.TheVariants.{Status, Session}
use Rattle.txn_data.specs.declared.append.Append.{Append}
use Rattle.txn_data.specs.declared.append.Append.TheVariants.{Nothing, Took, Failed}
use Rattle.txn_data.specs.declared.config.Config.{Config}
use Rattle.txn_data.specs.declared.request.Request.TheVariants as request
use Rattle.txn_data.specs.declared.event.Event.{Event}
use Rattle.txn_data.specs.declared.event.Event.TheVariants.{Start, Ask, Serve, Hear, Tell, Restarted}
use Rattle.txn_data.specs.declared.entry.Entry.{Entry}
use Rattle.txn_types.specs.Lists.{Member}
use Rattle.txn_types.specs.History.{History, same_actor, is_start, own, was_logged}
use Rattle.txn_types.specs.Status.{Record, NoRecord, record_of, record_over, is_sure}
use Rattle.txn_types.specs.Run.{Run}
use Rattle.txn_types.specs.Cause.{ServedAt, served_by, served_since}
use Rattle.law_machines.specs.Own.{StandsOver, ServesNext, landed}
use Rattle.law_machines.proofs.Basics.{test_cases, same_cases, same_true, filter_member, member_cases}
use Rattle.law_machines.proofs.Counted.{own_all}
use Rattle.law_machines.proofs.Owns.{serves_at, serves_own, member_stands, own_member}
use Rattle.law_machines.proofs.Landed.{logged, standing_landed}
use Rattle.law_machines.proofs.Lands.{logged_member}
use Rattle.law_clocks.proofs.Runs.{member_before}
use Rattle.law_courses.specs.Course.{entry_of}
use Rattle.law_owners.specs.Owner.{home_of, owner_of, IsHomedAt}
use Rattle.law_owners.proofs.Runs.{requests_homed}
use Rattle.law_fates.proofs.Table.{logged_is}
use Rattle.law_fates.proofs.Life.{Life, Fresh, Open, Finished, Dead, life, RecordIs}
use Rattle.law_fates.proofs.Runs.{home_log, home_lands, record_before}
use Rattle.law_open_txns.specs.Laws.{EndIsAnswered}
use Rattle.law_open_txns.proofs.Runs.{ends_answered}
use Rattle.law_carried_fates.specs.Laws.{NotesOf}
use Rattle.law_forgetting.proofs.Records.{forgot_entry}
use Rattle.law_left.proofs.Fates.{begun_not_fresh}
use Rattle.txn_promises.specs.Ends.{FailsToAbort, KeptAbort}
use Rattle.law_closings.specs.Laws.{Closes}
use Rattle.law_closings.proofs.Rules.{Free, begun_for}
use Rattle.law_endings.proofs.Records.{IsAbort, gone_by_abort, forgets_sure, sure_closed}

-- ## it is dead

data Cases (v : Life) : Type 0 where
  IsFresh : v ≡ Fresh → Cases v
  IsOpen : v ≡ Open → Cases v
  IsFinished : (c : ℕ) → v ≡ Finished c → Cases v
  IsDead : v ≡ Dead → Cases v

cases : (v : Life) → Cases v
cases Fresh = IsFresh refl
cases Open = IsOpen refl
cases (Finished c) = IsFinished c refl
cases Dead = IsDead refl

sure_event : (lease j : ℕ) (o : History) (reading : Option ℕ) (x k : ℕ) (event : Event) → ServesNext lease (Status j) o reading event → was_logged event ≡ true → NotesOf x k event → is_sure x o ≡ true
sure_event lease j o reading x k (Serve from (request.Applied y tablet) r time append) served logs is =
    subst (λ (z : ℕ). is_sure z o ≡ true) is.0 (forgets_sure lease j o reading y tablet r time append served (logged_is from (request.Applied y tablet) r time append logs))
sure_event lease j o reading x k event served logs is = absurd is

-- an entry of what an actor logged is its own
logged_actor : (a : Actor) (h : History) (f : Entry) → Member f (logged (landed (own a h))) → (f.actor ≡ a) × Member f h × (was_logged f.event ≡ true)
logged_actor a h f m =
    let mine = filter_member (λ (e : Entry). same_actor e.actor a) f h (logged_member (own a h) f m) in
    (same_true f.actor a mine.1, mine.0, (filter_member (λ (e : Entry). was_logged e.event) f (landed (own a h)) m).1)

-- it was not forgotten, since then it was sure, so an answer had closed it
not_forgotten : (config : Config) (b : History) (m : Actor) (x c : ℕ) → Run config b → Free m x b → record_over x (home_log config x b) ≡ NoRecord → life x (home_log config x b) ≡ Finished c → ⊥
not_forgotten config b m x c run free none was =
    let a = Status (home_of config x) in
    let f = forgot_entry x c (home_log config x b) (home_lands config x b run) none was in
    let mine = logged_actor a b f.0 f.1 in
    let place = member_stands f.0 b mine.1 in
    let served : ServesNext config.lease_us a (own a place.0) f.0.reading f.0.event = subst (λ (d : Actor). ServesNext config.lease_us d (own d place.0) f.0.reading f.0.event) mine.0 (serves_at config f.0 place.0 b run.1 place.1) in
    let closed = sure_closed x (own a place.0) (sure_event config.lease_us (home_of config x) (own a place.0) f.0.reading x f.2.0 f.0.event served mine.2 f.2.1) in
    free.not_closed closed.0 (member_before closed.0 f.0 place.0 b (own_member closed.0 a place.0 closed.1) place.1) closed.2

pub absent_dead : (config : Config) (b : History) (m : Actor) (x : ℕ) → Run config b → Free m x b → record_of x (own (Status (home_of config x)) b) ≡ NoRecord → (life x (home_log config x b) ≡ Dead) × (record_over x (home_log config x b) ≡ NoRecord)
absent_dead config b m x run free none =
    let a = Status (home_of config x) in
    let over : record_over x (home_log config x b) ≡ NoRecord = subst (λ (l : History). record_over x l ≡ NoRecord) (standing_landed config.lease_us a (own a b) (serves_own config a b run.1) (own_all a b)) none in
    let is : RecordIs NoRecord (life x (home_log config x b)) = subst (λ (r : Record). RecordIs r (life x (home_log config x b))) none (record_before config x b run) in (
      elim (cases (life x (home_log config x b))) [
        | IsFresh fresh ↦ absurd (begun_not_fresh config x b run (begun_for m b x free.begun) fresh)
        | IsOpen up ↦ absurd (subst (λ (v : Life). RecordIs NoRecord v) up is)
        | IsFinished c was ↦ absurd (not_forgotten config b m x c run free over was)
        | IsDead dead ↦ dead
      ],
      over,
    )

-- ## by an abort that failed, and was kept

fails_event : (config : Config) (a m : Actor) (x : ℕ) (event : Event) → IsHomedAt config a event → IsAbort x event → EndIsAnswered event → was_logged event ≡ true → (Closes x event → ⊥) → ((from : Actor) → from ≡ Session (owner_of x) → from ≡ m) → FailsToAbort m x event
fails_event config a m x (Serve from (request.Abort y) r time append) homed is answered logs never mine =
    let owner : from ≡ m = mine from (homed.0.0 ∙ ap (λ (z : ℕ). Session (owner_of z)) is) in
    elim answered [
      | inl closes ↦ absurd (never (is, closes))
      | inr other ↦ elim other [
        | inl fault ↦ subst (λ (b : Append). FailsToAbort m x (Serve from (request.Abort y) r time b)) (sym fault.1) (owner, is)
        | inr turned ↦ absurd (not_logged append turned.2 logs)
      ]
    ]
  where
    not_logged : (b : Append) → b ≡ Nothing → was_logged (Serve from (request.Abort y) r time b) ≡ true → ⊥
    not_logged Nothing nothing is_logged = cc
    not_logged Took nothing is_logged = cc
    not_logged Failed nothing is_logged = cc
fails_event config a m x event homed is answered logs never mine = absurd is

pub kept_abort : (config : Config) (b : History) (m : Actor) (x : ℕ) → Run config b → Free m x b → m ≡ Session (owner_of x) → record_of x (own (Status (home_of config x)) b) ≡ NoRecord → KeptAbort m x (own (Status (home_of config x)) b)
kept_abort config b m x run free mine none =
    let a = Status (home_of config x) in
    let dead = absent_dead config b m x run free none in
    let f = gone_by_abort x (home_log config x b) (home_lands config x b run) dead.1 dead.0 in
    let of = logged_actor a b f.0 f.1 in
    record {
      entry = f.0;
      stands = subst (λ (l : History). Member f.0 l) (sym (standing_landed config.lease_us a (own a b) (serves_own config a b run.1) (own_all a b))) f.1;
      fails = fails_event config f.0.actor m x f.0.event (requests_homed config b f.0 run of.1) f.2 (ends_answered config b f.0 run of.1) of.2 (free.not_closed f.0 of.1) (λ from is. is ∙ sym mine);
    }

-- ## where what was served since a start stands

by_event : (m : Actor) (h : History) (a : Actor) (reading : Option ℕ) (event : Event) (s : ServedAt) → Member s (served_by m h (entry_of a reading event)) →
    (time : Option ℕ) × (entry_of a reading event ≡ entry_of s.by s.reading (Serve m s.asked s.reply time s.append)) × (h ≡ s.before)
by_event m h a reading (Serve from asked r time append) s here = elim (same_cases from m) [
  | inl same ↦ elim (rw same.0 at here) [
    | inl is ↦ (
      time,
      ap (λ (c : Actor). entry_of a reading (Serve c asked r time append)) same.1 ∙ ap (λ (u : ServedAt). entry_of u.by u.reading (Serve m u.asked u.reply time u.append)) (sym is),
      ap (λ (u : ServedAt). u.before) (sym is),
    )
    | inr none ↦ absurd none
  ]
  | inr other ↦ absurd (rw other.0 at here)
]
by_event m h a reading (Start number line) s here = absurd here
by_event m h a reading (Ask to asked) s here = absurd here
by_event m h a reading (Hear from r) s here = absurd here
by_event m h a reading (Tell number t) s here = absurd here
by_event m h a reading (Restarted from kept) s here = absurd here

pub since_stands : (m : Actor) (h : History) (s : ServedAt) → Member s (served_since m h) → (time : Option ℕ) × StandsOver (entry_of s.by s.reading (Serve m s.asked s.reply time s.append)) s.before h
unfolding served_since
since_stands m [] s here = absurd here
since_stands m (e ∷ h) s here = elim (test_cases (same_actor e.actor m && is_start e.event)) [
  | inl starts ↦ absurd (rw starts at here)
  | inr other ↦ elim (member_cases s (served_by m h e) (served_since m h) (rw other at here)) [
    | inl now ↦ let is = by_event m h e.actor e.reading e.event s now in (is.0, inl (is.1, is.2))
    | inr deeper ↦ let r = since_stands m h s deeper in (r.0, inr r.1)
  ]
]

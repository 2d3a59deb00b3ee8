-- An entry of a mover changes no machine; what was asked, and what answers it.
use Rattle.std.proofs.Common.{◌≡◌, ℕ, Bool, true, false, List, [], ◌∷◌, ◌++◌, Option, Some, reverse, refl, sym, ◌∙◌, ap, subst, inl, inr, if◌then◌else◌}
use Rattle.std.proofs.lemmas.List.{reverse-append}
use Rattle.txn_data.specs.declared.actor.Actor.{Actor}
use Rattle.txn_data.specs.declared.actor.Actor.TheVariants.{Tablet, Status}
use Rattle.txn_data.specs.declared.append.Append.{Append}
use Rattle.txn_data.specs.declared.config.Config.{Config}
use Rattle.txn_data.specs.declared.found.Found.{Found}
use Rattle.txn_data.specs.declared.entry.Entry.{Entry}
use Rattle.txn_data.specs.declared.event.Event.{Event}
use Rattle.txn_data.specs.declared.event.Event.TheVariants.{Start, Ask, Serve, Hear, Tell, Restarted}
use Rattle.txn_data.specs.declared.mover.Mover.{Mover}
use Rattle.txn_data.specs.declared.mover.Mover.TheVariants as mover
use Rattle.txn_data.specs.declared.reply.Reply.{Reply}
use Rattle.txn_data.specs.declared.reply.Reply.TheVariants as reply
use Rattle.txn_data.specs.declared.request.Request.{Request}
use Rattle.txn_data.specs.declared.request.Request.TheVariants as request
use Rattle.txn_types.specs.History.{History, own, same_actor}
use Rattle.txn_types.specs.Run.{Flight, Quiet, Asked, Answered, flight, flight_after, IsMachine, Run}
use Rattle.txn_types.specs.Script.{actor_of}
use Rattle.law_machines.proofs.Basics.{same_true, test_cases}
use Rattle.law_parts.specs.Parts.{Matches}
use Rattle.law_parts.proofs.Own.{own_other}
use Rattle.law_requests.specs.Laws.{IsListing}
use Rattle.law_requests.specs.Requests.{IsServable}
use Rattle.law_requests.proofs.Runs.{may_be_served}
use Rattle.law_requests.proofs.Replies.{lists_fit}
use Rattle.mover_chain.proofs.States.{flight_step}
use Rattle.session_core.specs.Turn.{lists}
use Rattle.tablet_core.specs.Stands as tablet
use Rattle.status_tablet.specs.Stands as status
use Rattle.regular_records.specs.Holding.{Holds}
use Rattle.tablet_log.specs.Logged.{Store}
use Rattle.world_machines.specs.Machines as machines
use Rattle.world_machines.specs.Machines.{EachAt, MachinesState, StatusStands, TabletStands}
use Rattle.world_machines.specs.Served.{IsServed}
use Rattle.world_movers.specs.Asked.{IsAnswer}
use Rattle.mover_seat.specs.Stage.{awaited}

-- ## an entry at the end of a trace

pub recorded_more : (entries : List Entry) (e : Entry) → reverse (entries ++ e ∷ []) ≡ e ∷ reverse entries
recorded_more entries e = reverse-append entries (e ∷ [])

-- ## machines beside a mover

no_tablet : (who : Mover) (k : ℕ) → same_actor (actor_of who) (Tablet k) ≡ false
no_tablet (mover.Session i) k = refl
no_tablet (mover.Applier j) k = refl

no_status : (who : Mover) (j : ℕ) → same_actor (actor_of who) (Status j) ≡ false
no_status (mover.Session i) j = refl
no_status (mover.Applier k) j = refl

pub machines_beside : {L : Type 0} (config : Config) (start : Actor → Store) (spare : List L) (who : Mover) (e : Entry) (h : History) (m : MachinesState L) → e.actor ≡ actor_of who →
    machines.StandsFor config start spare h m → machines.StandsFor config start spare (e ∷ h) m
machines_beside config start spare who e h m is stands = record {
  tablets = record {
    as_many = stands.tablets.as_many;
    each = λ k t there. let s = stands.tablets.each k t there in record {
      number = s.number;
      lease = s.lease;
      stands = subst (λ (g : History). tablet.Stands Holds t (start (Tablet k)).held (start (Tablet k)).faults g) (sym (own_other (Tablet k) e h (subst (λ (a : Actor). same_actor a (Tablet k) ≡ false) (sym is) (no_tablet who k)))) s.stands;
    };
  };
  statuses = record {
    as_many = stands.statuses.as_many;
    each = λ j t there. let s = stands.statuses.each j t there in record {
      number = s.number;
      lease = s.lease;
      stands = subst (λ (g : History). status.Stands t (start (Status j)).held (start (Status j)).faults g) (sym (own_other (Status j) e h (subst (λ (a : Actor). same_actor a (Status j) ≡ false) (sym is) (no_status who j)))) s.stands;
    };
  };
  rest = stands.rest;
}

-- ## a request on its way may be served

pub servable_of : (config : Config) (h : History) (a to : Actor) (asked : Request) → Run config h → flight a h ≡ Asked to asked → IsServable config to asked
servable_of config h a to asked run flies = (may_be_served config h a to asked run flies).3

-- ## what a machine answered

pub is_answer : (config : Config) (h : History) (a by : Actor) (asked : Request) (reading : ℕ) (r : Reply) (e : Entry) → IsMachine config by → flight a h ≡ Asked by asked → IsServed config by a asked reading h r e → IsAnswer config h a r e
is_answer config h a by asked reading r e machine flies served = record {
  machine = subst (IsMachine config) (sym served.actor) machine;
  asked = subst (λ (f : Flight). awaited f ≡ Some e.actor) (sym flies) (ap (λ (b : Actor). Some b) (sym served.actor));
  asker = served.asker;
  answered = flight_step a e h ∙ ap (λ (b : Actor). flight_after a (flight a h) b e.event) served.actor ∙ served.answers (flight a h) ∙ ap (λ (b : Actor). Answered b r) (sym served.actor);
}

asked_same : (to by : Actor) (asked other : Request) → Asked to asked ≡ Asked by other → asked ≡ other
asked_same to by asked other is = cc

answered_same : (a b : Actor) (r s : Reply) → Answered a r ≡ Answered b s → r ≡ s
answered_same a b r s is = cc

listing_lists : (asked : Request) → IsListing asked → lists asked ≡ true
listing_lists (request.ListRead own_txn paths t g limit) is = refl
listing_lists (request.ListWrite x path) is = absurd is
listing_lists (request.Write meta number path op read seen fates) is = absurd is
listing_lists (request.Single x path op seen fates) is = absurd is
listing_lists (request.Collect own_txn kind paths t window fates) is = absurd is
listing_lists request.ListIntents is = absurd is
listing_lists (request.Apply x at) is = absurd is
listing_lists (request.Clean x) is = absurd is
listing_lists (request.Begin x isolation priority) is = absurd is
listing_lists (request.Commit x floor tablets) is = absurd is
listing_lists (request.Abort x) is = absurd is
listing_lists (request.Resolve x by priority) is = absurd is
listing_lists (request.AskFate x t) is = absurd is
listing_lists (request.Applied x tablet) is = absurd is
listing_lists request.Restart is = absurd is

quiet_not : (by : Actor) (r : Reply) → Quiet ≡ Answered by r → ⊥
quiet_not by r is = cc

asked_not : (to by : Actor) (asked : Request) (r : Reply) → Asked to asked ≡ Answered by r → ⊥
asked_not to by asked r is = cc

neither : (b : Bool) (f : Flight) (by : Actor) (r : Reply) → (f ≡ Answered by r → ⊥) → (if b then f else Quiet) ≡ Answered by r → ⊥
neither true f by r never is = never is
neither false f by r never is = quiet_not by r is

-- an answer with a list is to a listing
pub listed_lists : (config : Config) (h : History) (a by : Actor) (asked : Request) (reading limit : ℕ) (others : List Found) (e : Entry) → Run config (e ∷ h) → flight a h ≡ Asked by asked →
    IsServed config by a asked reading h (reply.Listed limit others) e → lists asked ≡ true
listed_lists config h a by asked reading limit others e run flies served = by_event e.event refl
  where
    answers : (event : Event) → e.event ≡ event → flight_after a Quiet by event ≡ Answered by (reply.Listed limit others)
    answers event is = subst (λ (v : Event). flight_after a Quiet by v ≡ Answered by (reply.Listed limit others)) is (served.answers Quiet)

    of_serve : (from : Actor) (other : Request) (s : Reply) (time : Option ℕ) (append : Append) → e.event ≡ Serve from other s time append → same_actor from a ≡ true → lists asked ≡ true
    of_serve from other s time append is own =
        let same : s ≡ reply.Listed limit others = answered_same by by s (reply.Listed limit others) (subst (λ (b : Bool). (if b then Answered by s else Quiet) ≡ Answered by (reply.Listed limit others)) own (answers (Serve from other s time append) is)) in
        let matched : flight from h ≡ Asked by other = subst (λ (v : Event). Matches by v h) is (served.matches flies) in
        let eq : asked ≡ other = asked_same by by asked other (sym flies ∙ ap (λ (b : Actor). flight b h) (sym (same_true from a own)) ∙ matched) in
        ap lists eq ∙ listing_lists other (lists_fit config (e ∷ h) e from other limit others time append run (inl refl) (is ∙ ap (λ (x : Reply). Serve from other x time append) same))

    by_event : (event : Event) → e.event ≡ event → lists asked ≡ true
    by_event (Serve from other s time append) is = elim (test_cases (same_actor from a)) [
      | inl own ↦ of_serve from other s time append is own
      | inr other_is ↦ absurd (quiet_not by (reply.Listed limit others) (subst (λ (b : Bool). (if b then Answered by s else Quiet) ≡ Answered by (reply.Listed limit others)) other_is (answers (Serve from other s time append) is)))
    ]
    by_event (Restarted from kept) is = elim (test_cases (same_actor from a)) [
      | inl own ↦ absurd (let same : reply.Restarted kept ≡ reply.Listed limit others = answered_same by by (reply.Restarted kept) (reply.Listed limit others) (subst (λ (b : Bool). (if b then Answered by (reply.Restarted kept) else Quiet) ≡ Answered by (reply.Listed limit others)) own (answers (Restarted from kept) is)) in cc)
      | inr other_is ↦ absurd (quiet_not by (reply.Listed limit others) (subst (λ (b : Bool). (if b then Answered by (reply.Restarted kept) else Quiet) ≡ Answered by (reply.Listed limit others)) other_is (answers (Restarted from kept) is)))
    ]
    by_event (Start number line) is = absurd (quiet_not by (reply.Listed limit others) (answers (Start number line) is))
    by_event (Tell number t) is = absurd (quiet_not by (reply.Listed limit others) (answers (Tell number t) is))
    by_event (Ask to other) is = absurd (neither (same_actor by a) (Asked to other) by (reply.Listed limit others) (asked_not to by other (reply.Listed limit others)) (answers (Ask to other) is))
    by_event (Hear from s) is = absurd (neither (same_actor by a) Quiet by (reply.Listed limit others) (quiet_not by (reply.Listed limit others)) (answers (Hear from s) is))

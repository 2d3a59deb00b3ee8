-- The recorded history of a course, and the history in which each append is what the table would log.
use Rattle.std.proofs.Common.{◌≡◌, ℕ, ◌≤◌, Bool, false, List, [], ◌∷◌, Option, Some, None, Result, refl, sym, ap, ◌∙◌, arith}
use Rattle.hybrid_time.specs.declared.time_refusal.TimeRefusal.{TimeRefusal}
use Rattle.doc_path.specs.Path.{Parts}
use Rattle.txn_data.specs.declared.actor.Actor.{Actor}
use Rattle.txn_data.specs.declared.append.Append.{Append}
use Rattle.txn_data.specs.declared.append.Append.TheVariants.{Nothing}
use Rattle.txn_data.specs.declared.op.Op.TheVariants.{Put}
use Rattle.txn_data.specs.declared.request.Request.{Request}
use Rattle.txn_data.specs.declared.request.Request.TheVariants as request
use Rattle.txn_data.specs.declared.reply.Reply.{Reply}
use Rattle.txn_data.specs.declared.reply.Reply.TheVariants as reply
use Rattle.txn_data.specs.declared.event.Event.TheVariants.{Serve}
use Rattle.txn_data.specs.declared.entry.Entry.{Entry}
use Rattle.txn_types.specs.Lists.{or_zero}
use Rattle.txn_types.specs.History.{History, own}
use Rattle.txn_types.specs.Clock.{Answer}
use Rattle.txn_types.specs.Run.{machine_answer}
use Rattle.docdb_run.specs.BeforeLogs.{as_logged, logged_event}
use Rattle.docdb_run.specs.Form.{cluster}
use Rattle.docdb_run.specs.Course.{Course, one, t0, applier, by, single_time, single_id, read_time, read_window, tablet_time}
use Rattle.docdb_run.proofs.TabletState.{answer_list, answer_single, answer_listed, answer_collected, answer_intents, single_answer, append_due, is_due}
use Rattle.docdb_run.proofs.Ordered.{upto_more}
use Rattle.docdb_run.proofs.Inv.{Inv}
use Rattle.docdb_run.proofs.SingleSteps.{e1, e2, e3, e4, e5, e6, e7, e8, h5, h8, single_line, single_append, single_logged, tablet4}
use Rattle.docdb_run.proofs.ReadSteps.{r1, r2, r3, r4, r5, r7, r8, q8, read_tablet4, window_at}
use Rattle.docdb_run.proofs.OtherSteps.{c1, c2, d2, p1, p2, p4, p5, o4}

-- an entry that served nothing stays
pub logged_plain : (h g : History) (e : Entry) → as_logged cluster h ≡ g → logged_event cluster g e ≡ e.event →
    as_logged cluster (e ∷ h) ≡ e ∷ g
unfolding as_logged
logged_plain h g e is same = rw (is, same) refl

-- an entry that served something has the append of the table
pub logged_serve : (h g : History) (a from : Actor) (reading : Option ℕ) (asked : Request) (r : Reply) (time : Option ℕ) (before after : Append) →
    as_logged cluster h ≡ g →
    (machine_answer 2000000 a (own a g) false (or_zero reading) asked).append ≡ after →
    as_logged cluster (by a reading (Serve from asked r time before) ∷ h) ≡ by a reading (Serve from asked r time after) ∷ g
unfolding as_logged
logged_serve h g a from reading asked r time before after is same = rw (is, same) refl

abbrev pub append_of : Answer → Append
append_of a = a.append

-- a single write
abbrev pub raw_single : Course → Parts → List ℕ → ℕ → Result ℕ TimeRefusal → History → History
raw_single k path v priority time h =
    e8 k time ∷ e7 time ∷ e6 k path v time Nothing ∷ h5 k path v priority h

pub logged_single : (h g : History) (k : Course) (path : Parts) (v : List ℕ) (priority : ℕ) (time : Result ℕ TimeRefusal) →
    as_logged cluster h ≡ g → Inv g k → single_time k ≡ time →
    as_logged cluster (raw_single k path v priority time h) ≡ h8 k path v priority time g
logged_single h g k path v priority time is inv timed =
    let l1 = logged_plain h g (e1 k (single_line path v priority)) is refl in
    let l2 = logged_plain _ _ (e2 k path) l1 refl in
    let l3 = logged_serve _ _ t0 one None (request.ListWrite (single_id k) path) (reply.Others []) None Nothing Nothing l2
    (ap append_of (answer_list (own t0 g) k.tablet k.versions (single_id k) path 0 inv.tablet)) in
    let l4 = logged_plain _ _ e4 l3 refl in
    let l5 = logged_plain _ _ (e5 k path v) l4 refl in
    let answer = answer_single (e3 k path ∷ own t0 g) k.tablet k.versions (single_id k) path (Put v) k.session k.clock (tablet4 g k path inv) in
    let l6 = logged_serve _ _ t0 one (Some k.clock) (request.Single (single_id k) path (Put v) k.session []) _ _ Nothing (single_append time) l5
    (ap append_of (answer ∙ ap single_answer timed) ∙ sym (single_logged time)) in
    let l7 = logged_plain _ _ (e7 time) l6 refl in
    logged_plain _ _ (e8 k time) l7 refl

-- a read
abbrev pub raw_read : Course → Parts → Bool → History → History
raw_read k path strict h = q8 k path strict false h

pub logged_read : (h g : History) (k : Course) (path : Parts) (strict : Bool) → as_logged cluster h ≡ g → Inv g k →
    as_logged cluster (raw_read k path strict h) ≡ q8 k path strict (is_due (own t0 g) (tablet_time k)) g
logged_read h g k path strict is inv =
    let due = is_due (own t0 g) (tablet_time k) in
    let l1 = logged_plain h g (r1 k path strict) is refl in
    let l2 = logged_plain _ _ (r2 k path) l1 refl in
    let under : k.session ≤ read_time k = omega arith in
    let l3 = logged_serve _ _ t0 one (Some k.clock) (request.ListRead None (path ∷ []) (read_time k) (read_window k) None) _ _ Nothing (append_due due) l2
    (ap append_of (answer_listed (own t0 g) k.tablet k.versions path (read_time k) (read_window k) k.clock inv.tablet inv.clock)) in
    let l4 = logged_plain _ _ (r4 k) l3 refl in
    let l5 = logged_plain _ _ (r5 k path) l4 refl in
    let answer = answer_collected (r3 k path due ∷ own t0 g) (tablet_time k) k.versions path (read_time k) 0 (window_at k)
    (read_tablet4 g k path due inv) (upto_more k.session (read_time k) k.versions under inv.upto) in
    let l6 = logged_serve _ _ t0 one None _ _ None Nothing Nothing l5 (ap append_of answer) in
    let l7 = logged_plain _ _ (r7 k path) l6 refl in
    logged_plain _ _ (r8 k path) l7 refl

-- a clock line, and the last pass
pub logged_clock : (h g : History) (k : Course) (micros : ℕ) → as_logged cluster h ≡ g → as_logged cluster (d2 k micros h) ≡ d2 k micros g
logged_clock h g k micros is = logged_plain _ _ (c2 k) (logged_plain h g (c1 k micros) is refl) refl

pub logged_pass : (h g : History) (k : Course) → as_logged cluster h ≡ g → Inv g k → as_logged cluster (p5 ∷ o4 h) ≡ p5 ∷ o4 g
logged_pass h g k is inv =
    let l2 = logged_plain _ _ p2 (logged_plain h g p1 is refl) refl in
    let l3 = logged_serve _ _ t0 applier None request.ListIntents (reply.Intents []) None Nothing Nothing l2
    (ap append_of (answer_intents (own t0 g) k.tablet k.versions 0 inv.tablet)) in
    logged_plain _ _ p5 (logged_plain _ _ p4 l3 refl) refl

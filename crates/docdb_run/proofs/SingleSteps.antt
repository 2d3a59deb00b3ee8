-- A single write, entry by entry.
use Rattle.std.proofs.Common.{◌≡◌, ℕ, ◌<◌, ◌+◌, ◌^◌, max, false, List, [], ◌∷◌, Some, None, Ok, Err, Result, refl, sym, ap, ◌∙◌, arith, inl}
use Rattle.hybrid_time.specs.declared.time_refusal.TimeRefusal.{TimeRefusal}
use Rattle.hybrid_time.specs.declared.time_refusal.TimeRefusal.TheVariants as time_refusal
use Rattle.doc_path.specs.Path.{Parts}
use Rattle.txn_data.specs.declared.append.Append.{Append}
use Rattle.txn_data.specs.declared.append.Append.TheVariants.{Nothing, Took}
use Rattle.txn_data.specs.declared.op.Op.TheVariants.{Put}
use Rattle.txn_data.specs.declared.place.Place.{Place}
use Rattle.txn_data.specs.declared.command.Command.{Command}
use Rattle.txn_data.specs.declared.command.Command.TheVariants as command
use Rattle.txn_data.specs.declared.request.Request.{Request}
use Rattle.txn_data.specs.declared.request.Request.TheVariants as request
use Rattle.txn_data.specs.declared.reply.Reply.TheVariants as reply
use Rattle.txn_data.specs.declared.event.Event.TheVariants.{Start, Ask, Serve, Hear, Tell}
use Rattle.txn_data.specs.declared.entry.Entry.{Entry}
use Rattle.txn_types.specs.History.{History, own}
use Rattle.txn_types.specs.Clock.{Answer}
use Rattle.txn_types.specs.TxnProgram.{resolve_all}
use Rattle.txn_types.specs.Plan.{IsPlace, IsShort}
use Rattle.txn_types.specs.Run.{Mover, mover_at, mover_after, flight, Steps, Allowed, machine_answer}
use Rattle.docdb_run.specs.Form.{cluster}
use Rattle.docdb_run.specs.Course.{Course, one, t0, by, single_id, single_reply, single_told, time_given, single_time, after_single, version_of}
use Rattle.docdb_run.proofs.Ordered.{Upto, upto_more, upto_end}
use Rattle.docdb_run.proofs.Times.{next_above}
use Rattle.docdb_run.proofs.TabletState.{TabletAt, lease, answer_list, answer_single, single_answer, quiet_step, single_step, max_zero}
use Rattle.docdb_run.proofs.Inv.{Inv, between, mover_on, mover_off}

-- the place of a document on tablet 0
abbrev pub on_t0 : Parts → Place
on_t0 path = record { tablet = 0; path = path }

abbrev pub single_line : Parts → List ℕ → ℕ → Command
single_line path v priority = command.SinglePut (on_t0 path) v priority

abbrev pub single_append : Result ℕ TimeRefusal → Append
single_append (Ok c) = Took
single_append (Err e) = Nothing

-- the eight entries, oldest first
abbrev pub e1 : Course → Command → Entry
e1 k line = by one None (Start (k.commands + 1) line)

abbrev pub e2 : Course → Parts → Entry
e2 k path = by one None (Ask t0 (request.ListWrite (single_id k) path))

abbrev pub e3 : Course → Parts → Entry
e3 k path = by t0 None (Serve one (request.ListWrite (single_id k) path) (reply.Others []) None Nothing)

abbrev pub e4 : Entry
e4 = by one None (Hear t0 (reply.Others []))

abbrev pub single_of : Course → Parts → List ℕ → Request
single_of k path v = request.Single (single_id k) path (Put v) k.session []

abbrev pub e5 : Course → Parts → List ℕ → Entry
e5 k path v = by one None (Ask t0 (single_of k path v))

abbrev pub e6 : Course → Parts → List ℕ → Result ℕ TimeRefusal → Append → Entry
e6 k path v time append = by t0 (Some k.clock) (Serve one (single_of k path v) (single_reply time) (time_given time) append)

abbrev pub e7 : Result ℕ TimeRefusal → Entry
e7 time = by one None (Hear t0 (single_reply time))

abbrev pub e8 : Course → Result ℕ TimeRefusal → Entry
e8 k time = by one None (Tell (k.commands + 1) (single_told (single_id k) time))

-- the histories after each of them
abbrev pub h4 : Course → Parts → List ℕ → ℕ → History → History
h4 k path v priority g = e4 ∷ e3 k path ∷ e2 k path ∷ e1 k (single_line path v priority) ∷ g

abbrev pub h8 : Course → Parts → List ℕ → ℕ → Result ℕ TimeRefusal → History → History
h8 k path v priority time g =
    e8 k time ∷ e7 time ∷ e6 k path v time (single_append time) ∷ e5 k path v ∷ h4 k path v priority g

abbrev pub h5 : Course → Parts → List ℕ → ℕ → History → History
h5 k path v priority g = e5 k path v ∷ h4 k path v priority g

abbrev pub h7 : Course → Parts → List ℕ → ℕ → Result ℕ TimeRefusal → History → History
h7 k path v priority time g = e7 time ∷ e6 k path v time (single_append time) ∷ h5 k path v priority g

-- the session after each of its entries
abbrev pub m1 : Course → Command → Mover
m1 k line = mover_after cluster one (between k) None (Start (k.commands + 1) line)

abbrev pub m2 : Course → Parts → List ℕ → ℕ → Mover
m2 k path v priority = mover_after cluster one (m1 k (single_line path v priority)) None (Ask t0 (request.ListWrite (single_id k) path))

abbrev pub m4 : Course → Parts → List ℕ → ℕ → Mover
m4 k path v priority = mover_after cluster one (m2 k path v priority) None (Hear t0 (reply.Others []))

abbrev pub m5 : Course → Parts → List ℕ → ℕ → Mover
m5 k path v priority = mover_after cluster one (m4 k path v priority) None (Ask t0 (single_of k path v))

abbrev pub m7 : Course → Parts → List ℕ → ℕ → Result ℕ TimeRefusal → Mover
m7 k path v priority time = mover_after cluster one (m5 k path v priority) None (Hear t0 (single_reply time))

pub mover4 : (g : History) (k : Course) (path : Parts) (v : List ℕ) (priority : ℕ) → Inv g k →
    mover_at cluster one (h4 k path v priority g) ≡ m4 k path v priority
mover4 g k path v priority inv =
    let is1 : mover_at cluster one (e1 k (single_line path v priority) ∷ g) ≡ m1 k (single_line path v priority) =
    mover_on one g (e1 k (single_line path v priority)) (between k) refl inv.mover in
    let is2 : mover_at cluster one (e2 k path ∷ e1 k (single_line path v priority) ∷ g) ≡ m2 k path v priority =
    mover_on one _ (e2 k path) _ refl is1 in
    let is3 : mover_at cluster one (e3 k path ∷ e2 k path ∷ e1 k (single_line path v priority) ∷ g) ≡ m2 k path v priority =
    mover_off one _ (e3 k path) _ refl is2 in
    mover_on one _ e4 _ refl is3

pub mover7 : (g : History) (k : Course) (path : Parts) (v : List ℕ) (priority : ℕ) (time : Result ℕ TimeRefusal) → Inv g k →
    mover_at cluster one (h7 k path v priority time g) ≡ m7 k path v priority time
mover7 g k path v priority time inv =
    let is5 : mover_at cluster one (h5 k path v priority g) ≡ m5 k path v priority =
    mover_on one _ (e5 k path v) _ refl (mover4 g k path v priority inv) in
    let is6 : mover_at cluster one (e6 k path v time (single_append time) ∷ h5 k path v priority g) ≡ m5 k path v priority =
    mover_off one _ (e6 k path v time (single_append time)) _ refl is5 in
    mover_on one _ (e7 time) _ refl is6

pub steps4 : (g : History) (k : Course) (path : Parts) (v : List ℕ) (priority : ℕ) → Inv g k →
    IsPlace cluster (on_t0 path) → IsShort v → k.commands < 2 ^ 40 → Steps cluster (h4 k path v priority g)
unfolding Steps mover_at flight
steps4 g k path v priority inv place short few =
    let answer = answer_list (own t0 g) k.tablet k.versions (single_id k) path 0 inv.tablet in
    rw (inv.mover, inv.quiet) (
      (
        (
          (
            inv.steps,
            (refl, refl, refl, ((omega arith, omega arith), few, (place, short))),
          ),
          (tt, refl, refl),
        ),
        (
          omega arith,
          refl,
          record {
            fails = false;
            fits = refl;
            replied = ap (λ (a : Answer). a.reply) (sym answer);
            took = ap (λ (a : Answer). a.time) (sym answer);
            logged = ap (λ (a : Answer). a.append) (sym answer);
          },
        ),
      ),
      (refl, (refl, refl)),
    )

-- the tablet after the ListWrite
pub tablet4 : (g : History) (k : Course) (path : Parts) → Inv g k → TabletAt (e3 k path ∷ own t0 g) k.tablet k.versions
tablet4 g k path inv = quiet_step (own t0 g) k.tablet k.versions t0 one None (request.ListWrite (single_id k) path) (reply.Others []) inv.tablet (λ down n. refl)

abbrev pub allowed : History → Entry → Type 0
allowed h e = Allowed cluster h e.actor e.reading e.event

pub single_replied : (time : Result ℕ TimeRefusal) → single_reply time ≡ (single_answer time).reply
single_replied (Ok c) = refl
single_replied (Err (time_refusal.ClockFull at)) = refl
single_replied (Err (time_refusal.ClockRange reading)) = refl

pub single_took : (time : Result ℕ TimeRefusal) → time_given time ≡ (single_answer time).time
single_took (Ok c) = refl
single_took (Err e) = refl

pub single_logged : (time : Result ℕ TimeRefusal) → single_append time ≡ (single_answer time).append
single_logged (Ok c) = refl
single_logged (Err e) = refl

pub allowed5 : (g : History) (k : Course) (path : Parts) (v : List ℕ) (priority : ℕ) → Inv g k → allowed (h4 k path v priority g) (e5 k path v)
unfolding flight resolve_all
allowed5 g k path v priority inv = rw (mover4 g k path v priority inv) (tt, refl, refl)

pub allowed6 : (g : History) (k : Course) (path : Parts) (v : List ℕ) (priority : ℕ) (time : Result ℕ TimeRefusal) → Inv g k →
    single_time k ≡ time → allowed (h5 k path v priority g) (e6 k path v time (single_append time))
unfolding flight
allowed6 g k path v priority time inv is =
    let answer = answer_single (e3 k path ∷ own t0 g) k.tablet k.versions (single_id k) path (Put v) k.session k.clock (tablet4 g k path inv) in
    let full : machine_answer lease t0 (e3 k path ∷ own t0 g) false k.clock (single_of k path v) ≡ single_answer time = answer ∙ ap single_answer is in (
      omega arith,
      refl,
      record {
        fails = false;
        fits = tt;
        replied = single_replied time ∙ ap (λ (a : Answer). a.reply) (sym full);
        took = single_took time ∙ ap (λ (a : Answer). a.time) (sym full);
        logged = single_logged time ∙ ap (λ (a : Answer). a.append) (sym full);
      },
    )

pub allowed8 : (g : History) (k : Course) (path : Parts) (v : List ℕ) (priority : ℕ) (time : Result ℕ TimeRefusal) → Inv g k →
    allowed (h7 k path v priority time g) (e8 k time)
unfolding flight resolve_all
allowed8 g k path v priority (Ok c) inv = rw (mover7 g k path v priority (Ok c) inv) (tt, refl, refl, inl refl)
allowed8 g k path v priority (Err (time_refusal.ClockFull at)) inv =
    rw (mover7 g k path v priority (Err (time_refusal.ClockFull at)) inv) (tt, refl, refl, inl refl)
allowed8 g k path v priority (Err (time_refusal.ClockRange reading)) inv =
    rw (mover7 g k path v priority (Err (time_refusal.ClockRange reading)) inv) (tt, refl, refl, inl refl)

pub allowed7 : (g : History) (k : Course) (path : Parts) (v : List ℕ) (priority : ℕ) (time : Result ℕ TimeRefusal) →
    allowed (e6 k path v time (single_append time) ∷ h5 k path v priority g) (e7 time)
unfolding flight
allowed7 g k path v priority time = (refl, (refl, refl))

pub steps8 : (g : History) (k : Course) (path : Parts) (v : List ℕ) (priority : ℕ) (time : Result ℕ TimeRefusal) → Inv g k →
    IsPlace cluster (on_t0 path) → IsShort v → k.commands < 2 ^ 40 → single_time k ≡ time →
    Steps cluster (h8 k path v priority time g)
unfolding Steps
steps8 g k path v priority time inv place short few is = (
  (
    (
      (steps4 g k path v priority inv place short few, allowed5 g k path v priority inv),
      allowed6 g k path v priority time inv is,
    ),
    allowed7 g k path v priority time,
  ),
  allowed8 g k path v priority time inv,
)

-- and then all is as the course says
pub single_tablet : (g : History) (k : Course) (path : Parts) (v : List ℕ) (priority : ℕ) (time : Result ℕ TimeRefusal) → Inv g k →
    single_time k ≡ time →
    TabletAt (own t0 (h8 k path v priority time g)) (after_single k path v time).tablet (after_single k path v time).versions
single_tablet g k path v priority (Ok c) inv is =
    single_step (e3 k path ∷ own t0 g) k.tablet k.versions t0 one (Some k.clock) (single_id k) k.session c path v (reply.SingleDone c)
    (tablet4 g k path inv) ((next_above k.tablet k.session k.clock c is).0)
single_tablet g k path v priority (Err (time_refusal.ClockFull at)) inv is =
    quiet_step (e3 k path ∷ own t0 g) k.tablet k.versions t0 one (Some k.clock) (single_of k path v)
    (single_reply (Err (time_refusal.ClockFull at))) (tablet4 g k path inv) (λ down n. refl)
single_tablet g k path v priority (Err (time_refusal.ClockRange reading)) inv is =
    quiet_step (e3 k path ∷ own t0 g) k.tablet k.versions t0 one (Some k.clock) (single_of k path v)
    (single_reply (Err (time_refusal.ClockRange reading))) (tablet4 g k path inv) (λ down n. refl)

pub single_mover : (k : Course) (path : Parts) (v : List ℕ) (priority : ℕ) (time : Result ℕ TimeRefusal) →
    mover_after cluster one (m7 k path v priority time) None (e8 k time).event ≡ between (after_single k path v time)
single_mover k path v priority (Ok c) = refl
single_mover k path v priority (Err (time_refusal.ClockFull at)) = rw (max_zero k.session) refl
single_mover k path v priority (Err (time_refusal.ClockRange reading)) = rw (max_zero k.session) refl

pub single_upto : (k : Course) (path : Parts) (v : List ℕ) (time : Result ℕ TimeRefusal) → Upto k.session k.versions →
    Upto (after_single k path v time).session (after_single k path v time).versions
single_upto k path v (Ok c) u =
    upto_end (max k.session c) k.versions (version_of path v c) (upto_more k.session (max k.session c) k.versions (omega arith) u) (omega arith)
single_upto k path v (Err e) u = u

pub single_clock : (k : Course) (path : Parts) (v : List ℕ) (time : Result ℕ TimeRefusal) → (after_single k path v time).clock ≡ k.clock
single_clock k path v (Ok c) = refl
single_clock k path v (Err e) = refl

pub single_inv : (g : History) (k : Course) (path : Parts) (v : List ℕ) (priority : ℕ) (time : Result ℕ TimeRefusal) → Inv g k →
    IsPlace cluster (on_t0 path) → IsShort v → k.commands < 2 ^ 40 → single_time k ≡ time →
    Inv (h8 k path v priority time g) (after_single k path v time)
unfolding flight mover_at
single_inv g k path v priority time inv place short few is = record {
  steps = steps8 g k path v priority time inv place short few is;
  tablet = single_tablet g k path v priority time inv is;
  mover = mover_on one (h7 k path v priority time g) (e8 k time) (m7 k path v priority time) refl (mover7 g k path v priority time inv)
      ∙ single_mover k path v priority time;
  quiet = refl;
  passes = inv.passes;
  still = inv.still;
  upto = single_upto k path v time inv.upto;
  clock = rw (single_clock k path v time) inv.clock;
}

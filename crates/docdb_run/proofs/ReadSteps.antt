-- A read, entry by entry.
use Rattle.std.proofs.Common.{◌≡◌, ℕ, ◌<◌, ◌≤◌, ◌+◌, ◌^◌, max, min, Bool, true, false, List, [], ◌∷◌, Some, None, refl, sym, ap, ◌∙◌, arith, inl, Ok, Result, All, zero, suc}
use Rattle.std.proofs.lemmas.Bool.{le-ltb}
use Rattle.std.proofs.lemmas.Slice.Eq.{bytes_eq-Decides}
use Rattle.std.specs.Str.{bytes_eq}
use Rattle.hybrid_time.specs.Time.{time_at, least_time, greatest_reading}
use Rattle.hybrid_time.specs.declared.time_refusal.TimeRefusal.{TimeRefusal}
use Rattle.doc_path.specs.Path.{Parts, is_prefix}
use Rattle.txn_data.specs.declared.append.Append.TheVariants.{Nothing}
use Rattle.txn_data.specs.declared.read_kind.ReadKind.TheVariants.{Get}
use Rattle.txn_data.specs.declared.window.Window.{Window}
use Rattle.txn_data.specs.declared.command.Command.{Command}
use Rattle.txn_data.specs.declared.command.Command.TheVariants as command
use Rattle.txn_data.specs.declared.told.Told.{Told}
use Rattle.txn_data.specs.declared.told.Told.TheVariants as told
use Rattle.txn_data.specs.declared.request.Request.{Request}
use Rattle.txn_data.specs.declared.request.Request.TheVariants as request
use Rattle.txn_data.specs.declared.reply.Reply.TheVariants as reply
use Rattle.txn_data.specs.declared.event.Event.TheVariants.{Start, Ask, Serve, Hear, Tell}
use Rattle.txn_data.specs.declared.entry.Entry.{Entry}
use Rattle.txn_types.specs.Lists.{rising, with_number}
use Rattle.txn_types.specs.Writes.{last_word}
use Rattle.txn_types.specs.History.{History, own}
use Rattle.txn_types.specs.Clock.{Answer}
use Rattle.txn_types.specs.Tablet.{same_path}
use Rattle.txn_types.specs.Program.{Program, then_do, turn}
use Rattle.txn_types.specs.ReadProgram.{round_one, limit_of, ask_fates, row_of, rows_from}
use Rattle.txn_types.specs.Session.{read_at, timed_then}
use Rattle.txn_types.specs.Plan.{IsPlace}
use Rattle.txn_types.specs.Run.{Mover, mover_at, mover_after, flight, Steps}
use Rattle.docdb_run.specs.Form.{cluster}
use Rattle.docdb_run.specs.Course.{Course, one, t0, by, read_time, read_window, tablet_time, row_at, after_read}
use Rattle.docdb_run.proofs.Ordered.{upto_more}
use Rattle.docdb_run.proofs.TabletState.{TabletAt, answer_listed, answer_collected, listed_step, quiet_step, append_due, is_due}
use Rattle.docdb_run.proofs.Inv.{Inv, between, keeps_of, mover_on, mover_off}
use Rattle.docdb_run.proofs.SingleSteps.{on_t0, allowed}

abbrev pub read_line : Parts → Bool → Command
read_line path strict = command.Read strict (on_t0 path ∷ [])

abbrev pub limit_at : Course → ℕ
limit_at k = min (tablet_time k) (read_window k)

abbrev pub list_of : Course → Parts → Request
list_of k path = request.ListRead None (path ∷ []) (read_time k) (read_window k) None

abbrev pub window_at : Course → Window
window_at k = record { g = read_window k; limit = limit_at k }

abbrev pub collect_of : Course → Parts → Request
collect_of k path = request.Collect None Get (path ∷ []) (read_time k) (Some (window_at k)) []

-- the eight entries, oldest first
abbrev pub r1 : Course → Parts → Bool → Entry
r1 k path strict = by one None (Start (k.commands + 1) (read_line path strict))

abbrev pub r2 : Course → Parts → Entry
r2 k path = by one (Some k.clock) (Ask t0 (list_of k path))

abbrev pub r3 : Course → Parts → Bool → Entry
r3 k path due = by t0 (Some k.clock) (Serve one (list_of k path) (reply.Listed (limit_at k) []) (Some (tablet_time k)) (append_due due))

abbrev pub r4 : Course → Entry
r4 k = by one None (Hear t0 (reply.Listed (limit_at k) []))

abbrev pub r5 : Course → Parts → Entry
r5 k path = by one None (Ask t0 (collect_of k path))

abbrev pub r6 : Course → Parts → Entry
r6 k path = by t0 None (Serve one (collect_of k path) (reply.Collected (row_at k path)) None Nothing)

abbrev pub r7 : Course → Parts → Entry
r7 k path = by one None (Hear t0 (reply.Collected (row_at k path)))

abbrev pub r8 : Course → Parts → Entry
r8 k path = by one None (Tell (k.commands + 1) (told.Values (read_time k) 0 (row_at k path)))

-- the histories after them
abbrev pub q2 : Course → Parts → Bool → History → History
q2 k path strict g = r2 k path ∷ r1 k path strict ∷ g

abbrev pub q4 : Course → Parts → Bool → Bool → History → History
q4 k path strict due g = r4 k ∷ r3 k path due ∷ q2 k path strict g

abbrev pub q5 : Course → Parts → Bool → Bool → History → History
q5 k path strict due g = r5 k path ∷ q4 k path strict due g

abbrev pub q7 : Course → Parts → Bool → Bool → History → History
q7 k path strict due g = r7 k path ∷ r6 k path ∷ q5 k path strict due g

abbrev pub q8 : Course → Parts → Bool → Bool → History → History
q8 k path strict due g = r8 k path ∷ q7 k path strict due g

-- the session after each of its entries
abbrev pub s1 : Course → Parts → Bool → Mover
s1 k path strict = mover_after cluster one (between k) None (Start (k.commands + 1) (read_line path strict))

abbrev pub read_rest : Course → Parts → Bool → Program Told
read_rest k path strict =
    read_at cluster Get strict (on_t0 path ∷ []) k.clock (read_time k)

abbrev pub s2 : Course → Parts → Bool → Mover
s2 k path strict = record {
  keeps = keeps_of k;
  commands = k.commands + 1;
  line = Some (read_line path strict);
  rest = read_rest k path strict;
  reading = Some k.clock;
  limits = [];
  may_lose = true;
}

abbrev pub s4 : Course → Parts → Bool → Mover
s4 k path strict = mover_after cluster one (s2 k path strict) None (Hear t0 (reply.Listed (limit_at k) []))

abbrev pub s5 : Course → Parts → Bool → Mover
s5 k path strict = mover_after cluster one (s4 k path strict) None (Ask t0 (collect_of k path))

abbrev pub s7 : Course → Parts → Bool → Mover
s7 k path strict = mover_after cluster one (s5 k path strict) None (Hear t0 (reply.Collected (row_at k path)))

pub time_is : (k : Course) → k.clock ≤ 4000000000000000 → least_time k.session 0 k.clock ≡ Ok (read_time k)
time_is k low = rw (le-ltb greatest_reading k.clock low) refl

-- the session's program with the outcome of its reading
abbrev pub read_from : Course → Parts → Bool → Result ℕ TimeRefusal → Program Told
read_from k path strict time = timed_then 1 k.clock (read_at cluster Get strict (on_t0 path ∷ []) k.clock) time

pub read2 : (k : Course) (path : Parts) (strict : Bool) → k.clock ≤ 4000000000000000 →
    mover_after cluster one (s1 k path strict) (Some k.clock) (Ask t0 (list_of k path)) ≡ s2 k path strict
read2 k path strict low = ap (λ (time : Result ℕ TimeRefusal). started k path strict (read_from k path strict time)) (time_is k low)
  where
    started : Course → Parts → Bool → Program Told → Mover
    started k path strict rest = record {
      keeps = keeps_of k;
      commands = k.commands + 1;
      line = Some (read_line path strict);
      rest = rest;
      reading = Some k.clock;
      limits = [];
      may_lose = true;
    }

pub read_mover2 : (g : History) (k : Course) (path : Parts) (strict : Bool) → Inv g k →
    mover_at cluster one (q2 k path strict g) ≡ s2 k path strict
read_mover2 g k path strict inv =
    mover_on one (r1 k path strict ∷ g) (r2 k path) (s1 k path strict) refl
    (mover_on one g (r1 k path strict) (between k) refl inv.mover)
    ∙ read2 k path strict inv.clock

pub read_mover4 : (g : History) (k : Course) (path : Parts) (strict due : Bool) → Inv g k →
    mover_at cluster one (q4 k path strict due g) ≡ s4 k path strict
read_mover4 g k path strict due inv =
    mover_on one (r3 k path due ∷ q2 k path strict g) (r4 k) (s2 k path strict) refl
    (mover_off one (q2 k path strict g) (r3 k path due) (s2 k path strict) refl (read_mover2 g k path strict inv))

pub read_mover7 : (g : History) (k : Course) (path : Parts) (strict due : Bool) → Inv g k →
    mover_at cluster one (q7 k path strict due g) ≡ s7 k path strict
read_mover7 g k path strict due inv =
    mover_on one (r6 k path ∷ q5 k path strict due g) (r7 k path) (s5 k path strict) refl
    (mover_off one (q5 k path strict due g) (r6 k path) (s5 k path strict) refl
    (mover_on one (q4 k path strict due g) (r5 k path) (s4 k path strict) refl (read_mover4 g k path strict due inv)))

pub all_one : {A : Type 0} (P : A → Type 0) (x : A) → P x → All P (x ∷ [])
all_one P x p zero d lt = p
all_one P x p (suc n) d lt = absurd (omega arith)

pub read_allowed1 : (g : History) (k : Course) (path : Parts) (strict : Bool) → Inv g k → IsPlace cluster (on_t0 path) →
    k.commands < 2 ^ 40 → allowed g (r1 k path strict)
read_allowed1 g k path strict inv place few =
    rw inv.mover (refl, refl, refl, ((omega arith, omega arith), few, (omega arith, omega arith, all_one (IsPlace cluster) (on_t0 path) place)))

pub read_allowed2 : (g : History) (k : Course) (path : Parts) (strict : Bool) → Inv g k → allowed (r1 k path strict ∷ g) (r2 k path)
unfolding flight then_do round_one limit_of rising with_number
read_allowed2 g k path strict inv =
    rw (mover_on one g (r1 k path strict) (between k) refl inv.mover, inv.quiet)
    (tt, refl, ap (λ (time : Result ℕ TimeRefusal). turn (read_from k path strict time)) (time_is k inv.clock))

pub read_allowed3 : (g : History) (k : Course) (path : Parts) (strict : Bool) → Inv g k →
    allowed (q2 k path strict g) (r3 k path (is_due (own t0 g) (tablet_time k)))
unfolding flight
read_allowed3 g k path strict inv =
    let answer = answer_listed (own t0 g) k.tablet k.versions path (read_time k) (read_window k) k.clock inv.tablet inv.clock in (
      omega arith,
      refl,
      record {
        fails = false;
        fits = tt;
        replied = ap (λ (a : Answer). a.reply) (sym answer);
        took = ap (λ (a : Answer). a.time) (sym answer);
        logged = ap (λ (a : Answer). a.append) (sym answer);
      },
    )

pub read_tablet4 : (g : History) (k : Course) (path : Parts) (due : Bool) → Inv g k →
    TabletAt (r3 k path due ∷ own t0 g) (tablet_time k) k.versions
read_tablet4 g k path due inv =
    listed_step (own t0 g) k.tablet k.versions t0 one (Some k.clock) None (path ∷ []) (read_time k) (read_window k) (tablet_time k) None
    (reply.Listed (limit_at k) []) due inv.tablet (omega arith)

pub read_allowed5 : (g : History) (k : Course) (path : Parts) (strict due : Bool) → Inv g k → allowed (q4 k path strict due g) (r5 k path)
unfolding flight then_do round_one limit_of rising with_number ask_fates
read_allowed5 g k path strict due inv = rw (read_mover4 g k path strict due inv) (tt, refl, refl)

pub read_allowed6 : (g : History) (k : Course) (path : Parts) (strict due : Bool) → Inv g k → allowed (q5 k path strict due g) (r6 k path)
unfolding flight
read_allowed6 g k path strict due inv =
    let answer = answer_collected (r3 k path due ∷ own t0 g) (tablet_time k) k.versions path (read_time k) 0 (window_at k)
    (read_tablet4 g k path due inv) (upto_more k.session (read_time k) k.versions (omega arith) inv.upto) in (
      omega arith,
      refl,
      record {
        fails = false;
        fits = refl;
        replied = ap (λ (a : Answer). a.reply) (sym answer);
        took = ap (λ (a : Answer). a.time) (sym answer);
        logged = ap (λ (a : Answer). a.append) (sym answer);
      },
    )

-- a path is the same as itself
pub same_bytes : (bytes : List ℕ) → bytes_eq bytes bytes ≡ true
same_bytes bytes = (bytes_eq-Decides bytes bytes).1 refl

pub prefix_refl : (p : Parts) → is_prefix p p ≡ true
prefix_refl [] = refl
prefix_refl (part ∷ p) = rw (same_bytes part) (prefix_refl p)

pub same_self : (p : Parts) → same_path p p ≡ true
same_self p = rw (prefix_refl p) refl

pub read_allowed7 : (g : History) (k : Course) (path : Parts) (strict due : Bool) → allowed (r6 k path ∷ q5 k path strict due g) (r7 k path)
unfolding flight
read_allowed7 g k path strict due = (refl, (refl, refl))

pub read_allowed8 : (g : History) (k : Course) (path : Parts) (strict due : Bool) → Inv g k → allowed (q7 k path strict due g) (r8 k path)
unfolding flight then_do round_one limit_of rising with_number ask_fates row_of rows_from last_word
read_allowed8 g k path strict due inv = rw (read_mover7 g k path strict due inv, same_self path) (tt, refl, refl, inl refl)

pub read_allowed4 : (g : History) (k : Course) (path : Parts) (strict due : Bool) → allowed (r3 k path due ∷ q2 k path strict g) (r4 k)
unfolding flight
read_allowed4 g k path strict due = (refl, (refl, refl))

pub read_steps : (g : History) (k : Course) (path : Parts) (strict : Bool) → Inv g k → IsPlace cluster (on_t0 path) → k.commands < 2 ^ 40 →
    Steps cluster (q8 k path strict (is_due (own t0 g) (tablet_time k)) g)
unfolding Steps
read_steps g k path strict inv place few =
    let due = is_due (own t0 g) (tablet_time k) in (
      (
        (
          (
            (
              (
                ((inv.steps, read_allowed1 g k path strict inv place few), read_allowed2 g k path strict inv),
                read_allowed3 g k path strict inv,
              ),
              read_allowed4 g k path strict due,
            ),
            read_allowed5 g k path strict due inv,
          ),
          read_allowed6 g k path strict due inv,
        ),
        read_allowed7 g k path strict due,
      ),
      read_allowed8 g k path strict due inv,
    )

pub read_last : (s c : ℕ) → max (max s c) (max (max s 0) c) ≡ max (max s 0) c
read_last s c = omega arith

pub read_mover : (k : Course) (path : Parts) (strict : Bool) →
    mover_after cluster one (s7 k path strict) None (r8 k path).event ≡ between (after_read k)
read_mover k path strict = rw (read_last k.session (time_at k.clock 0)) refl

pub read_inv : (g : History) (k : Course) (path : Parts) (strict : Bool) → Inv g k → IsPlace cluster (on_t0 path) → k.commands < 2 ^ 40 →
    Inv (q8 k path strict (is_due (own t0 g) (tablet_time k)) g) (after_read k)
unfolding flight mover_at
read_inv g k path strict inv place few =
    let due = is_due (own t0 g) (tablet_time k) in record {
      steps = read_steps g k path strict inv place few;
      tablet = quiet_step (r3 k path due ∷ own t0 g) (tablet_time k) k.versions t0 one None (collect_of k path) (reply.Collected (row_at k path))
          (read_tablet4 g k path due inv) (λ down n. refl);
      mover = mover_on one (q7 k path strict due g) (r8 k path) (s7 k path strict) refl (read_mover7 g k path strict due inv)
          ∙ read_mover k path strict;
      quiet = refl;
      passes = inv.passes;
      still = inv.still;
      upto = upto_more k.session (read_time k) k.versions (omega arith) inv.upto;
      clock = inv.clock;
    }

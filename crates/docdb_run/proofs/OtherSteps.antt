-- A clock line, and the last pass, entry by entry.
use Rattle.std.proofs.Common.{◌≡◌, ℕ, ◌<◌, ◌≤◌, ◌+◌, ◌^◌, false, [], ◌∷◌, None, refl, sym, ap, ◌∙◌, arith, inl}
use Rattle.txn_data.specs.declared.append.Append.TheVariants.{Nothing}
use Rattle.txn_data.specs.declared.command.Command.{Command}
use Rattle.txn_data.specs.declared.command.Command.TheVariants as command
use Rattle.txn_data.specs.declared.told.Told.TheVariants as told
use Rattle.txn_data.specs.declared.request.Request.TheVariants as request
use Rattle.txn_data.specs.declared.reply.Reply.TheVariants as reply
use Rattle.txn_data.specs.declared.event.Event.TheVariants.{Start, Ask, Serve, Hear, Tell}
use Rattle.txn_data.specs.declared.entry.Entry.{Entry}
use Rattle.txn_types.specs.History.{History, own}
use Rattle.txn_types.specs.Clock.{Answer}
use Rattle.txn_types.specs.PassProgram.{pass_over}
use Rattle.txn_types.specs.Run.{Mover, idle, mover_at, mover_after, flight, Steps}
use Rattle.docdb_run.specs.Form.{cluster}
use Rattle.docdb_run.specs.Course.{Course, one, t0, applier, by, after_clock}
use Rattle.docdb_run.proofs.TabletState.{answer_intents, max_zero}
use Rattle.docdb_run.proofs.Inv.{Inv, between, mover_on, mover_off}
use Rattle.docdb_run.proofs.SingleSteps.{allowed}

abbrev pub clock_line : ℕ → Command
clock_line micros = command.Clock 0 micros

abbrev pub c1 : Course → ℕ → Entry
c1 k micros = by one None (Start (k.commands + 1) (clock_line micros))

abbrev pub c2 : Course → Entry
c2 k = by one None (Tell (k.commands + 1) told.Set)

abbrev pub d2 : Course → ℕ → History → History
d2 k micros g = c2 k ∷ c1 k micros ∷ g

pub clock_mover : (g : History) (k : Course) (micros : ℕ) → Inv g k →
    mover_at cluster one (d2 k micros g) ≡ between (after_clock k micros)
clock_mover g k micros inv =
    mover_on one (c1 k micros ∷ g) (c2 k) _ refl (mover_on one g (c1 k micros) (between k) refl inv.mover)
    ∙ rw (max_zero k.session) refl

pub clock_allowed2 : (g : History) (k : Course) (micros : ℕ) → Inv g k → allowed (c1 k micros ∷ g) (c2 k)
unfolding flight
clock_allowed2 g k micros inv =
    rw (mover_on one g (c1 k micros) (between k) refl inv.mover, inv.quiet) (tt, refl, refl, inl refl)

pub clock_allowed1 : (g : History) (k : Course) (micros : ℕ) → Inv g k → k.commands < 2 ^ 40 → allowed g (c1 k micros)
clock_allowed1 g k micros inv few = rw inv.mover (refl, refl, refl, ((omega arith, omega arith), few, omega arith))

pub clock_inv : (g : History) (k : Course) (micros : ℕ) → Inv g k → k.commands < 2 ^ 40 → micros ≤ 4000000000000000 →
    Inv (d2 k micros g) (after_clock k micros)
unfolding Steps flight mover_at
clock_inv g k micros inv few low = record {
  steps = ((inv.steps, clock_allowed1 g k micros inv few), clock_allowed2 g k micros inv);
  tablet = inv.tablet;
  mover = clock_mover g k micros inv;
  quiet = inv.quiet;
  passes = inv.passes;
  still = inv.still;
  upto = inv.upto;
  clock = low;
}

-- the last pass
abbrev pub p1 : Entry
p1 = by applier None (Start 1 (command.Apply 0))

abbrev pub p2 : Entry
p2 = by applier None (Ask t0 request.ListIntents)

abbrev pub p3 : Entry
p3 = by t0 None (Serve applier request.ListIntents (reply.Intents []) None Nothing)

abbrev pub p4 : Entry
p4 = by applier None (Hear t0 (reply.Intents []))

abbrev pub p5 : Entry
p5 = by applier None (Tell 1 (told.Passed 0 0 0))

abbrev pub o4 : History → History
o4 g = p4 ∷ p3 ∷ p2 ∷ p1 ∷ g

abbrev pub n1 : Mover
n1 = mover_after cluster applier idle None (Start 1 (command.Apply 0))

abbrev pub n4 : Mover
n4 = mover_after cluster applier (mover_after cluster applier n1 None (Ask t0 request.ListIntents)) None (Hear t0 (reply.Intents []))

pub pass_mover1 : (g : History) (k : Course) → Inv g k → mover_at cluster applier (p1 ∷ g) ≡ n1
pass_mover1 g k inv = mover_on applier g p1 idle refl inv.passes

pub pass_mover4 : (g : History) (k : Course) → Inv g k → mover_at cluster applier (o4 g) ≡ n4
pass_mover4 g k inv =
    mover_on applier (p3 ∷ p2 ∷ p1 ∷ g) p4 (mover_after cluster applier n1 None (Ask t0 request.ListIntents)) refl
    (mover_off applier (p2 ∷ p1 ∷ g) p3 (mover_after cluster applier n1 None (Ask t0 request.ListIntents)) refl
    (mover_on applier (p1 ∷ g) p2 n1 refl (pass_mover1 g k inv)))

pub pass_allowed1 : (g : History) (k : Course) → Inv g k → allowed g p1
pass_allowed1 g k inv = rw inv.passes (refl, refl, refl, (omega arith, refl))

pub pass_allowed2 : (g : History) (k : Course) → Inv g k → allowed (p1 ∷ g) p2
unfolding flight
pass_allowed2 g k inv = rw (pass_mover1 g k inv, inv.still) (tt, refl, refl)

pub pass_allowed3 : (g : History) (k : Course) → Inv g k → allowed (p2 ∷ p1 ∷ g) p3
unfolding flight
pass_allowed3 g k inv =
    let answer = answer_intents (own t0 g) k.tablet k.versions 0 inv.tablet in (
      omega arith,
      refl,
      record {
        fails = false;
        fits = refl;
        replied = ap (λ (a : Answer). a.reply) (sym answer);
        took = ap (λ (a : Answer). a.time) (sym answer);
        logged = ap (λ (a : Answer). a.append) (sym answer);
      },
    )

pub pass_allowed4 : (g : History) → allowed (p3 ∷ p2 ∷ p1 ∷ g) p4
unfolding flight
pass_allowed4 g = (refl, (refl, refl))

pub pass_allowed5 : (g : History) (k : Course) → Inv g k → allowed (o4 g) p5
unfolding flight pass_over
pass_allowed5 g k inv = rw (pass_mover4 g k inv) (tt, refl, refl, inl refl)

pub pass_steps : (g : History) (k : Course) → Inv g k → Steps cluster (p5 ∷ o4 g)
unfolding Steps
pass_steps g k inv =
    (((((inv.steps, pass_allowed1 g k inv), pass_allowed2 g k inv), pass_allowed3 g k inv), pass_allowed4 g), pass_allowed5 g k inv)

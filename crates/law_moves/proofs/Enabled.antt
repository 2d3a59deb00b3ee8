-- Which movers have an event left: those with a line under way, and the session that the next line names.
use Rattle.std.proofs.Common.{◌≡◌, ℕ, zero, suc, ◌+◌, ◌<◌, Bool, true, false, nat_lt, List, [], ◌∷◌, ◌++◌, Option, Some, None, drop, length, refl, sym, ◌∙◌, ap, subst, arith}
use Rattle.txn_data.specs.declared.actor.Actor.{Actor}
use Rattle.txn_data.specs.declared.actor.Actor.TheVariants.{Tablet, Status, Session, Applier}
use Rattle.txn_data.specs.declared.command.Command.{Command}
use Rattle.txn_data.specs.declared.commands.Commands.{Commands}
use Rattle.txn_data.specs.declared.config.Config.{Config}
use Rattle.txn_data.specs.declared.entry.Entry.{Entry}
use Rattle.txn_data.specs.declared.told.Told.{Told}
use Rattle.txn_types.specs.History.{History}
use Rattle.txn_types.specs.Program.{Program}
use Rattle.txn_types.specs.Run.{Flight, Quiet, Asked, Answered, IsUnderWay, Steps, flight, mover_at}
use Rattle.txn_types.specs.Script.{asker, commands_of, count, lines, started}
use Rattle.law_machines.proofs.Basics.{same_of}
use Rattle.mover_chain.specs.NextEvent.{Given, all_done, given_by, goes_on, is_left, next_event, pass_starts, session_starts, starts_next}
use Rattle.law_schedules.specs.Courses.{tells}
use Rattle.law_schedules.proofs.Few.{at_first}
use Rattle.law_schedules.proofs.Moving.{stood_self}
use Rattle.law_schedules.proofs.Ordering.{HasMade, count_first, count_same, lines_made}
use Rattle.law_schedules.proofs.Telling as telling
use Rattle.law_schedules.proofs.Telling.{under_begun}
use Rattle.law_moves.specs.Laws.{LinesCanStart}

-- ## a line is under way

goes_left : (f : Flight) (p : Program Told) → is_left (goes_on f p) ≡ true
goes_left Quiet p = refl
goes_left (Asked to asked) p = refl
goes_left (Answered from r) p = refl

-- a session, or the applier of a tablet that is there
abbrev pub IsThere : Config → Actor → Type 0
IsThere config (Session i) = Unit {0}
IsThere config (Applier k) = nat_lt k config.tablets ≡ true
IsThere config a = ⊥

pub under_left : (given : Given) (config : Config) (a : Actor) (h : History) → IsThere config a → IsUnderWay (mover_at config a h).line → is_left (next_event given config a h) ≡ true
under_left given config (Session i) h there under = by_line (mover_at config (Session i) h).line under
  where
    by_line : (line : Option Command) → IsUnderWay line →
        is_left (elim line [ Some l ↦ goes_on (flight (Session i) h) (mover_at config (Session i) h).rest | None ↦ session_starts given.all (lines (Session i) h) (commands_of i given.sessions) (mover_at config (Session i) h).keeps.opened ]) ≡ true
    by_line (Some l) is = goes_left (flight (Session i) h) (mover_at config (Session i) h).rest
    by_line None is = absurd is
under_left given config (Applier k) h there under = rw there (by_line (mover_at config (Applier k) h).line under)
  where
    by_line : (line : Option Command) → IsUnderWay line →
        is_left (elim line [ Some l ↦ goes_on (flight (Applier k) h) (mover_at config (Applier k) h).rest | None ↦ pass_starts k config.passes (started (Applier k) h) (all_done given config h) ]) ≡ true
    by_line (Some l) is = goes_left (flight (Applier k) h) (mover_at config (Applier k) h).rest
    by_line None is = absurd is
under_left given config (Tablet k) h there under = absurd there
under_left given config (Status j) h there under = absurd there

-- after a move that tells it nothing a mover has a line under way
pub silent_under : (config : Config) (a : Actor) (e : Entry) (h : History) → Steps config (e ∷ h) → asker e ≡ a → tells a e ≡ false → IsUnderWay (mover_at config a (e ∷ h)).line
silent_under config a e h steps mine silent = by_line (mover_at config a h).line refl
  where
    by_line : (line : Option Command) → (mover_at config a h).line ≡ line → IsUnderWay (mover_at config a (e ∷ h)).line
    by_line None is = under_begun config a e h steps is (same_of (asker e) a mine)
    by_line (Some l) is = (telling.goes_on config a e h steps (same_of (asker e) a mine) silent (subst IsUnderWay (sym is) tt)).0

-- a mover that is moved on after such a move has an event left
pub silent_left : (given : Given) (config : Config) (a : Actor) (e : Entry) (h : History) → IsThere config a → Steps config (e ∷ h) → asker e ≡ a → tells a e ≡ false → is_left (next_event given config a (e ∷ h)) ≡ true
silent_left given config a e h there steps mine silent = under_left given config a (e ∷ h) there (silent_under config a e h steps mine silent)

-- ## a line is to start

drop_left : (n : ℕ) (planned : List Command) (may_end : Bool) → n < length planned → is_left (starts_next (drop n planned) may_end) ≡ true
drop_left n [] may_end few = absurd (omega (arith, few))
drop_left zero (line ∷ more) may_end few = refl
drop_left (suc n) (line ∷ more) may_end few = drop_left n more may_end (omega (arith, few))

-- a session that made fewer commands than it has lines
pub line_left : (plan : Commands) (config : Config) (i n : ℕ) (h : History) → HasMade config n h i → n < length (commands_of i plan.sessions) → is_left (next_event (given_by plan) config (Session i) h) ≡ true
line_left plan config i n h made few =
    subst (λ (line : Option Command).
    is_left (elim line [ Some l ↦ goes_on (flight (Session i) h) (mover_at config (Session i) h).rest | None ↦ session_starts true (lines (Session i) h) (commands_of i plan.sessions) (mover_at config (Session i) h).keeps.opened ]) ≡ true) (sym made.0)
    (drop_left (started (Session i) h) (commands_of i plan.sessions) _ (let is = made.1 in omega (arith, is, few)))

count_over : (i : ℕ) (before more : List ℕ) → count i (before ++ more) ≡ count i before + count i more
unfolding count
count_over i [] more = omega arith
count_over i (j ∷ before) more = let rest = count_over i before more in omega (arith, rest)

pub lines_can_start : LinesCanStart
lines_can_start config plan before more i h runnable run order done =
    let made = lines_made config h [] before [] h (stood_self h) run.1 (λ j. ((at_first config j).0, (at_first config j).1 ∙ sym (count_first j))) done in
    let all = sym (runnable.order i) ∙ ap (count i) order ∙ count_over i before (i ∷ more) in
    let one = count_same i more in
    let none = count_first i in
    line_left plan config i (count i [] + count i before) h (made.after i) (omega (arith, all, one, none))

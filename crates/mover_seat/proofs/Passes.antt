-- What an applier makes next, and where it then stands.
use Rattle.std.proofs.Common.{◌≡◌, ℕ, ◌+◌, ◌<◌, ◌≤◌, Bool, true, false, ◌&&◌, [], ◌∷◌, Option, Some, None, length, nat_lt, nat_eq, refl, sym, ap, ◌∙◌, subst, inl, inr, ◌⊎◌, add-zero, arith, if◌then◌else◌}
use Rattle.std.proofs.lemmas.List.{length-append}
use borrow.Author.Tests.{ltb-true}
use Rattle.txn_data.specs.declared.actor.Actor.{Actor}
use Rattle.txn_data.specs.declared.actor.Actor.TheVariants.{Applier}
use Rattle.txn_data.specs.declared.command.Command.{Command}
use Rattle.txn_data.specs.declared.command.Command.TheVariants as command
use Rattle.txn_data.specs.declared.config.Config.{Config}
use Rattle.txn_data.specs.declared.entry.Entry.{Entry}
use Rattle.txn_data.specs.declared.event.Event.TheVariants.{Start, Hear}
use Rattle.txn_data.specs.declared.reply.Reply.{Reply}
use Rattle.txn_data.specs.declared.request.Request.{Request}
use Rattle.txn_data.specs.declared.told.Told.{Told}
use Rattle.txn_data.specs.declared.told.Told.TheVariants as told
use Rattle.txn_data.specs.declared.told_refusal.ToldRefusal.TheVariants as told_refusal
use Rattle.txn_types.specs.History.{History}
use Rattle.txn_types.specs.PassProgram.{pass_program}
use Rattle.txn_types.specs.Program.{Program, Done, Asks, Reads, turn, turn_with, with_reading, heard}
use Rattle.txn_types.specs.Run.{Mover, Flight, Quiet, Answered, mover_at, mover_after, flight_after, IsUnderWay}
use Rattle.txn_types.specs.Script.{line_by, lines, started}
use Rattle.law_machines.proofs.Basics.{eq_true}
use Rattle.intent_applier.specs.Rest.{rest}
use Rattle.intent_applier.specs.declared.pass.Pass.{Pass}
use Rattle.mover_chain.specs.NextEvent.{NoneLeft, Starts, pass_starts, is_left}
use Rattle.mover_seat.specs.Made.{starts_made, asks_made, hears_made, tells_made}
use Rattle.mover_seat.specs.NextEvent.{applier_from}
use Rattle.mover_seat.specs.Pass.{GoesOn, IsLost, HasCome, Comes, begins, does_hold}
use Rattle.mover_seat.specs.Stage.{StandsAt, IsDue, awaited}
use Rattle.mover_seat.specs.Step.{clock_of}
use Rattle.mover_seat.specs.declared.made.Made.{Made}
use Rattle.mover_seat.specs.declared.moved.Moved.TheVariants as moved
use Rattle.mover_seat.specs.declared.stage.Stage.{Stage}
use Rattle.mover_seat.specs.declared.stage.Stage.TheVariants as stage
use Rattle.mover_seat.proofs.Own.{mover_first, mover_more, lines_more}
use Rattle.mover_seat.proofs.Taken.{and_true}
use Rattle.mover_seat.proofs.Sessions.{the_line, no_clock, starts_that, flight_asked, flight_heard}
use Rattle.mover_seat.proofs.Turns.{left_when, asks_makes, hears_makes, tells_makes}

turn_none : {T : Type 0} (p : Program T) → turn_with p None ≡ turn p
turn_none (Done t) = refl
turn_none (Asks to asked next) = refl
turn_none (Reads given) = refl

with_none : {T : Type 0} (p : Program T) → with_reading p None ≡ p
with_none (Done t) = refl
with_none (Asks to asked next) = refl
with_none (Reads given) = refl

-- where a pass goes on, its applier stands
goes_on_at : (p : Program Told) (pass : Option Pass) (m : Mover) (f : Flight) (at : Stage) → GoesOn p pass at → m.rest ≡ p → IsDue m f → StandsAt m f at
goes_on_at p pass m f (stage.Asks to asked) on is due = (due, ap (λ (q : Program Told). turn_with q None) is ∙ turn_none p ∙ on.0)
goes_on_at p pass m f (stage.Tells t) on is due = (due, inl (ap (λ (q : Program Told). turn_with q None) is ∙ turn_none p ∙ on.0))
goes_on_at p pass m f stage.Between on is due = absurd on
goes_on_at p pass m f stage.Reads on is due = absurd on
goes_on_at p pass m f (stage.Awaits to) on is due = absurd on
goes_on_at p pass m f (stage.Hears from r) on is due = absurd on

-- the pass that is held has that left
goes_on_rest : (p : Program Told) (pass : Option Pass) (at : Stage) (q : Pass) → GoesOn p pass at → pass ≡ Some q → p ≡ rest q
goes_on_rest p pass (stage.Asks to asked) q on is = let same : on.1.0 ≡ q = cc in sym on.1.2 ∙ ap rest same
goes_on_rest p pass (stage.Tells t) q on is = let none : pass ≡ None = on.1 in cc
goes_on_rest p pass stage.Between q on is = absurd on
goes_on_rest p pass stage.Reads q on is = absurd on
goes_on_rest p pass (stage.Awaits to) q on is = absurd on
goes_on_rest p pass (stage.Hears from r) q on is = absurd on

-- ## between two passes

starts_if : (a b : Bool) (line : Command) → is_left (if a then Starts line else (if b then Starts line else NoneLeft)) ≡ true → (if a then Starts line else (if b then Starts line else NoneLeft)) ≡ Starts line
starts_if true b line is = refl
starts_if false true line is = refl
starts_if false false line is = cc

pub pass_between : (done : Bool) (passes k begun : ℕ) (m : Mover) (f : Flight) → m.line ≡ None → applier_from done passes k begun m f ≡ pass_starts k passes begun done
pass_between done passes k begun m f is = rw is refl

pub begun_pass : (config : Config) (k : ℕ) (done : Bool) (begun : ℕ) (m : Mover) (f : Flight) (before after : Option Pass) (at : Stage) → HasCome config k begun m f before stage.Between → begins k config.passes begun done ≡ true →
    GoesOn (pass_program k) after at → Comes config k done begun m f (starts_made (begun + 1) (command.Apply k) at) (begun + 1) after
begun_pass config k done begun m f before after at come may on =
    let quiet : f ≡ Quiet = come.stage.1 in
    let next : applier_from done config.passes k begun m f ≡ Starts (command.Apply k) =
    pass_between done config.passes k begun m f come.stage.0 ∙ starts_if (nat_lt begun config.passes) (nat_eq begun config.passes && done) (command.Apply k) may in
    let then_at = mover_after config (Applier k) m None (Start (begun + 1) (command.Apply k)) in (
      λ reading. record {
        left = ap is_left next;
        may = (come.stage.0, ap (λ (n : ℕ). n + 1) (sym come.commands), refl, (come.there, refl), quiet);
        starts = λ n x e. starts_that (applier_from done config.passes k begun m f) (begun + 1) n (command.Apply k) x next e;
        reads = tt;
        moved = no_clock m.line (begun + 1) (command.Apply k) come.stage.0;
      },
      record {
        there = come.there;
        commands = ap (λ (n : ℕ). n + 1) come.commands;
        stage = goes_on_at (pass_program k) after then_at f at on refl (record { under_way = tt; quiet = quiet });
        rest = λ p is. goes_on_rest (pass_program k) after at p on is;
        may_lose = refl;
        line = λ x e. the_line (command.Apply k) x e;
      },
      refl,
    )

pub none_begun : (config : Config) (k : ℕ) (done : Bool) (begun : ℕ) (m : Mover) (f : Flight) (pass : Option Pass) → HasCome config k begun m f pass stage.Between → begins k config.passes begun done ≡ false →
    is_left (applier_from done config.passes k begun m f) ≡ false
none_begun config k done begun m f pass come none = ap is_left (pass_between done config.passes k begun m f come.stage.0) ∙ none

-- ## within a pass

pub under_way_pass : (done : Bool) (passes k begun : ℕ) (m : Mover) (f : Flight) → IsUnderWay m.line → is_left (applier_from done passes k begun m f) ≡ true
under_way_pass done passes k begun m f under = left_when m.line f m.rest (pass_starts k passes begun done) under

pub asked_pass : (config : Config) (k : ℕ) (done : Bool) (begun : ℕ) (m : Mover) (f : Flight) (pass : Option Pass) (to : Actor) (asked : Request) → HasCome config k begun m f pass (stage.Asks to asked) →
    Comes config k done begun m f (asks_made None to asked) begun pass
asked_pass config k done begun m f pass to asked come =
    let a = Applier k in
    let due = come.stage.0 in (
      λ reading. asks_makes config a (applier_from done config.passes k begun m f) m f reading None to asked (under_way_pass done config.passes k begun m f due.under_way) due tt come.stage.1,
      record {
        there = come.there;
        commands = come.commands;
        stage = (due.under_way, ap awaited (flight_asked a to asked f));
        rest = λ p is. with_none m.rest ∙ come.rest p is;
        may_lose = come.may_lose;
        line = come.line;
      },
      sym (add-zero begun),
    )

no_clock_of : (k : ℕ) (x : Command) → x ≡ command.Apply k → moved.Event ≡ clock_of x
no_clock_of k x is = sym (ap clock_of is)

pub told_pass : (config : Config) (k : ℕ) (done : Bool) (begun : ℕ) (m : Mover) (f : Flight) (pass : Option Pass) (t : Told) → HasCome config k begun m f pass (stage.Tells t) → pass ≡ None →
    Comes config k done begun m f (tells_made None begun moved.Event t) begun pass
told_pass config k done begun m f pass t come none =
    let a = Applier k in
    let due = come.stage.0 in (
      λ reading. tells_makes config a (applier_from done config.passes k begun m f) m f reading None begun moved.Event t (under_way_pass done config.passes k begun m f due.under_way) due tt (sym come.commands) come.stage.1 (λ x e. no_clock_of k x (come.line x e)),
      record {
        there = come.there;
        commands = come.commands;
        stage = (refl, due.quiet);
        rest = λ p is. cc;
        may_lose = refl;
        line = λ x e. cc;
      },
      sym (add-zero begun),
    )

pub heard_pass : (config : Config) (k : ℕ) (done : Bool) (begun : ℕ) (m : Mover) (f : Flight) (before after : Option Pass) (p : Pass) (from : Actor) (r : Reply) (at : Stage) → HasCome config k begun m f before (stage.Hears from r) → before ≡ Some p →
    GoesOn (heard (rest p) r) after at ⊎ IsLost after at → Comes config k done begun m f (hears_made from r at) begun after
heard_pass config k done begun m f before after p from r at come held on =
    let a = Applier k in
    let then_at = mover_after config a m None (Hear from r) in
    let quiet : flight_after a f a (Hear from r) ≡ Quiet = flight_heard a from r f in
    let due : IsDue then_at (flight_after a f a (Hear from r)) = record { under_way = come.stage.0; quiet = quiet } in
    let lose : then_at.may_lose ≡ true = and_true true m.may_lose refl ∙ come.may_lose in
    let left : then_at.rest ≡ heard (rest p) r = ap (λ (q : Program Told). heard q r) (come.rest p held) in
    let lost_at : Stage = stage.Tells (told.Refused told_refusal.Memory) in
    let stands : StandsAt then_at (flight_after a f a (Hear from r)) at = elim on [
      | inl goes ↦ goes_on_at (heard (rest p) r) after then_at (flight_after a f a (Hear from r)) at goes left due
      | inr lost ↦ subst (StandsAt then_at (flight_after a f a (Hear from r))) (sym lost.told) (due, inr (refl, lose, refl))
    ] in (
      λ reading. hears_makes config a (applier_from done config.passes k begun m f) m f reading from r at (under_way_pass done config.passes k begun m f come.stage.0) come.stage.1,
      record {
        there = come.there;
        commands = come.commands;
        stage = stands;
        rest = λ q is. elim on [
          | inl goes ↦ left ∙ goes_on_rest (heard (rest p) r) after at q goes is
          | inr lost ↦ let none : after ≡ None = lost.over in cc
        ];
        may_lose = lose;
        line = come.line;
      },
      sym (add-zero begun),
    )

-- a reply to what it asked came
pub reply_pass : (config : Config) (k begun : ℕ) (m : Mover) (f : Flight) (pass : Option Pass) (from to : Actor) (r : Reply) → HasCome config k begun m f pass (stage.Awaits from) → awaited f ≡ Some to → HasCome config k begun m (Answered to r) pass (stage.Hears from r)
reply_pass config k begun m f pass from to r come goes =
    let there : awaited f ≡ Some from = come.stage.1 in
    let same : to ≡ from = cc in
    record {
      there = come.there;
      commands = come.commands;
      stage = (come.stage.0, ap (λ (a : Actor). Answered a r) same);
      rest = come.rest;
      may_lose = come.may_lose;
      line = come.line;
    }

-- ## before the first pass

pub none_come : (config : Config) (k : ℕ) → k < config.tablets → HasCome config k 0 (mover_at config (Applier k) []) Quiet None stage.Between
none_come config k there =
    let first = mover_first config (Applier k) in
    let none : (mover_at config (Applier k) []).line ≡ None = ap (λ (m : Mover). m.line) first in
    record {
      there = there;
      commands = ap (λ (m : Mover). m.commands) first;
      stage = (none, refl);
      rest = λ p is. cc;
      may_lose = ap (λ (m : Mover). m.may_lose) first;
      line = λ x e. cc;
    }

pub held_hears : (pass : Option Pass) (from : Actor) (r : Reply) → does_hold pass (stage.Hears from r) ≡ true → (p : Pass) × (pass ≡ Some p)
held_hears None from r is = cc
held_hears (Some p) from r is = (p, refl)

pub held_tells : (pass : Option Pass) (t : Told) → does_hold pass (stage.Tells t) ≡ true → pass ≡ None
held_tells None t is = refl
held_tells (Some p) t is = cc

-- ## a seat

abbrev pub entry_by : ℕ → Made → Entry
entry_by n made = record { actor = Applier n; reading = made.reading; event = made.event }

pub begun_more : (k n begun then_begun : ℕ) (g : History) (made : Made) → n ≡ k → begun ≡ started (Applier k) g → then_begun ≡ begun + length (line_by made.event) → then_begun ≡ started (Applier k) (entry_by n made ∷ g)
begun_more k n begun then_begun g made is was now =
    now ∙ ap (λ (x : ℕ). x + length (line_by made.event)) was
    ∙ sym (ap length (lines_more (Applier k) (entry_by n made) g (ap Applier is)) ∙ length-append (lines (Applier k) g) (line_by made.event))

pub come_more : (config : Config) (k n begun : ℕ) (g : History) (f : Flight) (pass : Option Pass) (made : Made) → n ≡ k →
    HasCome config k begun (mover_after config (Applier k) (mover_at config (Applier k) g) made.reading made.event) f pass made.stage → HasCome config k begun (mover_at config (Applier k) (entry_by n made ∷ g)) f pass made.stage
come_more config k n begun g f pass made is come =
    subst (λ (x : Mover). HasCome config k begun x f pass made.stage) (sym (mover_more config (Applier k) (entry_by n made) g (ap Applier is))) come

begins_few : (a b : Bool) (begun passes : ℕ) (line : Command) → nat_lt begun passes ≡ a → nat_eq begun passes ≡ b → (done : Bool) → is_left (if a then Starts line else (if b && done then Starts line else NoneLeft)) ≡ true → begun + 1 ≤ passes + 1
begins_few true b begun passes line is eq done may = let less : begun < passes = ltb-true begun passes is in omega arith
begins_few false true begun passes line is eq done may = let same : begun ≡ passes = eq_true begun passes eq in omega arith
begins_few false false begun passes line is eq done may = cc

pub few_passes : (k passes begun then_begun : ℕ) (done may : Bool) → may ≡ begins k passes begun done → (then_begun ≡ begun) ⊎ (may ≡ true) × (then_begun ≡ begun + 1) → begun ≤ passes + 1 → then_begun ≤ passes + 1
few_passes k passes begun then_begun done may is took few = elim took [
  | inl same ↦ omega arith
  | inr more ↦
      let bound = begins_few (nat_lt begun passes) (nat_eq begun passes) begun passes (command.Apply k) refl refl done (sym is ∙ more.0) in
      let then_is : then_begun ≡ begun + 1 = more.1 in
      omega arith
]

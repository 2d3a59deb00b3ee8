-- What a session makes next, and where it then stands.
use Rattle.std.proofs.Common.{◌≡◌, ℕ, ◌+◌, ◌<◌, ◌≤◌, ◌%◌, ◌^◌, Bool, true, false, ◌&&◌, not, List, [], ◌∷◌, ◌++◌, Option, Some, None, refl, sym, ap, ◌∙◌, subst, inl, inr, arith}
use Rattle.std.specs.Prelude.{Result, is_some}
use Rattle.std.specs.List.{All}
use Rattle.std.proofs.lemmas.List.Elements.{All-nil}
use Rattle.txn_data.specs.declared.actor.Actor.{Actor}
use Rattle.txn_data.specs.declared.actor.Actor.TheVariants.{Session}
use Rattle.txn_data.specs.declared.command.Command.{Command}
use Rattle.txn_data.specs.declared.config.Config.{Config}
use Rattle.txn_data.specs.declared.entry.Entry.{Entry}
use Rattle.txn_data.specs.declared.event.Event.{Event}
use Rattle.txn_data.specs.declared.event.Event.TheVariants.{Start, Ask, Hear, Tell}
use Rattle.txn_data.specs.declared.reply.Reply.{Reply}
use Rattle.txn_data.specs.declared.request.Request.{Request}
use Rattle.txn_data.specs.declared.told.Told.{Told}
use Rattle.txn_data.specs.declared.told.Told.TheVariants as told
use Rattle.txn_data.specs.declared.told_refusal.ToldRefusal.TheVariants as told_refusal
use Rattle.txn_types.specs.History.{History}
use Rattle.txn_types.specs.Plan.{IsLine, IsSession}
use Rattle.txn_types.specs.Program as program
use Rattle.txn_types.specs.Program.{turn_with}
use Rattle.txn_types.specs.Run.{Mover, Flight, Quiet, Asked, Answered, idle, mover_at, mover_after, flight_after, CanTell, IsUnderWay}
use Rattle.txn_types.specs.Script.{clock_by, line_by, lines, ReadsRight}
use Rattle.law_machines.proofs.Basics.{same_refl}
use Rattle.session_core.specs.Core.{mover, session_of, commands_of, IsOf, IsNamed, reads}
use Rattle.session_core.specs.Core.{Answered as AnsweredBy}
use Rattle.session_core.specs.Turn.{lists}
use Rattle.session_core.specs.declared.session_core.SessionCore.{SessionCore}
use Rattle.session_core.specs.declared.turn.Turn.{Turn}
use Rattle.mover_chain.specs.NextEvent.{NextEvent, Starts, starts_next, session_starts, is_left}
use Rattle.mover_seat.specs.Lines.{Splits, Takes, line_next, one_if}
use Rattle.mover_seat.specs.Made.{starts_made, asks_made, hears_made, tells_made}
use Rattle.mover_seat.specs.NextEvent.{session_from}
use Rattle.mover_seat.specs.Session.{HasCome, Comes}
use Rattle.mover_seat.specs.Stage.{IsDue, awaited, stage_after}
use Rattle.mover_seat.specs.Step.{clock_of, moved_of}
use Rattle.mover_seat.specs.declared.lines.Lines.{Lines}
use Rattle.mover_seat.specs.declared.made.Made.{Made}
use Rattle.mover_seat.specs.declared.moved.Moved.TheVariants as moved
use Rattle.mover_seat.specs.declared.stage.Stage.{Stage}
use Rattle.mover_seat.specs.declared.stage.Stage.TheVariants as stage
use Rattle.mover_seat.proofs.Own.{mover_first, mover_more, lines_first, lines_more}
use Rattle.mover_seat.proofs.Taken.{starts_left, taken_splits, taken_lines, taken_starts, append_none}
use Rattle.mover_seat.proofs.Turns.{answered_at, left_when, asks_makes, hears_makes, tells_makes}

same_of : (config : Config) (c d : SessionCore) → IsNamed c d → IsOf config c → IsOf config d
same_of config c d named is = record { status = named.status ∙ is.status ∙ ap (λ (j : ℕ). j % config.status) (sym named.session); skew = named.skew ∙ is.skew }

-- ## between two commands

pub from_between : (given : List Command) (all : Bool) (begun : List Command) (m : Mover) (f : Flight) → m.line ≡ None → session_from given all begun m f ≡ session_starts all begun given m.keeps.opened
from_between given all begun m f is = rw is refl

-- what comes next is what the lines have next
pub between_next : (config : Config) (i : ℕ) (given : List Command) (all : Bool) (begun : List Command) (m : Mover) (f : Flight) (c : SessionCore) (l : Lines) (is_open : Bool) → HasCome config i given all begun m f c l stage.Between →
    is_open ≡ is_some (mover config c).keeps.opened → session_from given all begun m f ≡ line_next l is_open
between_next config i given all begun m f c l is_open come is =
    from_between given all begun m f come.stage.0
    ∙ starts_left given begun l.left.items l.ended all m.keeps.opened come.splits l.last
    ∙ ap (λ (b : Bool). starts_next l.left.items (b && not l.ended && is_some m.keeps.opened)) (sym come.finished)
    ∙ ap (λ (b : Bool). starts_next l.left.items (l.finished && not l.ended && b)) (sym (is ∙ ap (λ (x : Mover). is_some x.keeps.opened) come.mover))

pub the_line : (line x : Command) → Some line ≡ Some x → x ≡ line
the_line line x e = let same : line ≡ x = cc in sym same

pub no_clock : (o : Option Command) (number : ℕ) (line : Command) → o ≡ None → moved.Event ≡ moved_of (clock_by o (Start number line))
no_clock o number line none = sym (ap (λ (x : Option Command). moved_of (clock_by x (Start number line))) none)

pub starts_that : (next : NextEvent) (number n : ℕ) (line x : Command) → next ≡ Starts line → Start number line ≡ Start n x → next ≡ Starts x
starts_that next number n line x is e = let same : line ≡ x = cc in is ∙ ap Starts same

pub begun_comes : {E : Type 0} (config : Config) (i : ℕ) (given : List Command) (all : Bool) (begun : List Command) (m : Mover) (f : Flight) (c d : SessionCore) (l k : Lines) (line : Command) (number : ℕ) (is_open : Bool) (r : Result Turn E) (reading : ℕ) →
    HasCome config i given all begun m f c l stage.Between → IsNamed c d → commands_of d ≡ commands_of c + 1 → number ≡ commands_of d → commands_of c < 2 ^ 40 →
    AnsweredBy config (session_of c) (mover_after config (session_of c) (mover config c) None (Start (commands_of c + 1) line)) None (mover config d) r →
    Takes l line k → line_next l is_open ≡ Starts line → is_open ≡ is_some (mover config c).keeps.opened →
    Comes config i given all begun m f reading (starts_made number line (stage_after r)) d k
begun_comes config i given all begun m f c d l k line number is_open r reading come named more many few answered takes starts is =
    let a = Session i in
    let after = mover config d in
    let then_is : Mover → Mover = λ x. mover_after config a x None (Start (commands_of c + 1) line) in
    let A : Actor → Type 0 = λ x. AnsweredBy config x (mover_after config x (mover config c) None (Start (commands_of c + 1) line)) None after r in
    let M : Mover → Type 0 = λ x. AnsweredBy config a (then_is x) None after r in
    let there = answered_at config a (then_is m) after f r (subst M come.mover (subst A come.is answered)) (record { under_way = tt; quiet = come.stage.1 }) in
    let next : session_from given all begun m f ≡ Starts line = between_next config i given all begun m f c l is_open come is ∙ starts in
    let opened : is_open ≡ is_some m.keeps.opened = is ∙ ap (λ (x : Mover). is_some x.keeps.opened) come.mover in
    let bound : m.commands < 2 ^ 40 = subst (λ (n : ℕ). n < 2 ^ 40) (sym come.commands) few in
    let quiet : f ≡ Quiet = come.stage.1 in (
      record {
        left = ap is_left next;
        may = (come.stage.0, many ∙ more ∙ ap (λ (n : ℕ). n + 1) (sym come.commands), refl, (come.session, bound, taken_starts config m.keeps.opened is_open line l k takes.taken come.lines starts opened), quiet);
        starts = λ n x e. starts_that (session_from given all begun m f) number n line x next e;
        reads = tt;
        moved = no_clock m.line number line come.stage.0;
      },
      record {
        of = same_of config c d named come.of;
        is = ap Session named.session ∙ come.is;
        session = come.session;
        commands = ap (λ (n : ℕ). n + 1) come.commands ∙ sym more;
        mover = there.1;
        stage = there.0;
        finished = takes.finished ∙ come.finished;
        splits = taken_splits given begun line l k takes.taken come.splits;
        lines = taken_lines config line l k takes.taken come.lines;
        clock = λ x e. takes.clock ∙ ap clock_of (sym (the_line line x e));
        listing = λ to asked e which. cc;
      },
    )

-- ## within a command

pub under_way_left : (given : List Command) (all : Bool) (begun : List Command) (m : Mover) (f : Flight) → IsUnderWay m.line → is_left (session_from given all begun m f) ≡ true
under_way_left given all begun m f under = left_when m.line f m.rest (session_starts all begun given m.keeps.opened) under

-- a message leaves
pub flight_asked : (a to : Actor) (asked : Request) (f : Flight) → flight_after a f a (Ask to asked) ≡ Asked to asked
flight_asked a to asked f = rw (same_refl a) refl

-- and the reply to it ends it
pub flight_heard : (a from : Actor) (r : Reply) (f : Flight) → flight_after a f a (Hear from r) ≡ Quiet
flight_heard a from r f = rw (same_refl a) refl

listed_same : (f : Flight) (to by : Actor) (asked which : Request) → f ≡ Asked to asked → f ≡ Asked by which → lists which ≡ true → lists asked ≡ true
listed_same f to by asked which is e listed = let same : asked ≡ which = cc in ap lists same ∙ listed

same_begun : (given begun left : List Command) (ended : Bool) → Splits given begun ended left → Splits given (begun ++ []) ended left
same_begun given begun left ended is = subst (λ (xs : List Command). Splits given xs ended left) (sym (append_none begun)) is

-- it asks
pub asked_comes : (config : Config) (i : ℕ) (given : List Command) (all : Bool) (begun : List Command) (m : Mover) (f : Flight) (c d : SessionCore) (l : Lines) (at : Stage) (now : ℕ) (reading : Option ℕ) (to : Actor) (asked : Request) →
    HasCome config i given all begun m f c l at → IsDue m f → IsNamed c d → commands_of d ≡ commands_of c → ReadsRight now reading → turn_with m.rest reading ≡ program.Ask to asked →
    mover config d ≡ mover_after config (Session i) m reading (Ask to asked) → (lists asked ≡ true → reads d ≡ true) → Comes config i given all begun m f now (asks_made reading to asked) d l
asked_comes config i given all begun m f c d l at now reading to asked come due named same reads turn is listing =
    let a = Session i in
    let gone = flight_asked a to asked f in (
      asks_makes config a (session_from given all begun m f) m f now reading to asked (under_way_left given all begun m f due.under_way) due reads turn,
      record {
        of = same_of config c d named come.of;
        is = ap Session named.session ∙ come.is;
        session = come.session;
        commands = come.commands ∙ sym same;
        mover = is;
        stage = (due.under_way, ap awaited gone);
        finished = come.finished;
        splits = same_begun given begun l.left.items l.ended come.splits;
        lines = come.lines;
        clock = come.clock;
        listing = λ by which e listed. listing (listed_same (flight_after a f a (Ask to asked)) to by asked which gone e listed);
      },
    )

-- it is told
pub told_comes : (config : Config) (i : ℕ) (given : List Command) (all : Bool) (begun : List Command) (m : Mover) (f : Flight) (c d : SessionCore) (l : Lines) (at : Stage) (now : ℕ) (reading : Option ℕ) (number : ℕ) (t : Told) →
    HasCome config i given all begun m f c l at → IsDue m f → IsNamed c d → commands_of d ≡ commands_of c → ReadsRight now reading → number ≡ commands_of c → CanTell m reading t →
    mover config d ≡ mover_after config (Session i) m reading (Tell number t) → Comes config i given all begun m f now (tells_made reading number l.clock t) d l
told_comes config i given all begun m f c d l at now reading number t come due named same reads many can is =
    let quiet : f ≡ Quiet = due.quiet in (
      tells_makes config (Session i) (session_from given all begun m f) m f now reading number l.clock t (under_way_left given all begun m f due.under_way) due reads (many ∙ sym come.commands) can come.clock,
      record {
        of = same_of config c d named come.of;
        is = ap Session named.session ∙ come.is;
        session = come.session;
        commands = come.commands ∙ sym same;
        mover = is;
        stage = (refl, quiet);
        finished = come.finished;
        splits = same_begun given begun l.left.items l.ended come.splits;
        lines = come.lines;
        clock = λ x e. cc;
        listing = λ by which e listed. cc;
      },
    )

-- it hears a reply
pub heard_comes : {E : Type 0} (config : Config) (i : ℕ) (given : List Command) (all : Bool) (begun : List Command) (m : Mover) (f : Flight) (c d : SessionCore) (l : Lines) (from : Actor) (reply : Reply) (r : Result Turn E) (now : ℕ) →
    HasCome config i given all begun m f c l (stage.Hears from reply) → IsNamed c d → commands_of d ≡ commands_of c →
    AnsweredBy config (session_of c) (mover_after config (session_of c) (mover config c) None (Hear from reply)) None (mover config d) r →
    Comes config i given all begun m f now (hears_made from reply (stage_after r)) d l
heard_comes config i given all begun m f c d l from reply r now come named same answered =
    let a = Session i in
    let after = mover config d in
    let then_is : Mover → Mover = λ x. mover_after config a x None (Hear from reply) in
    let A : Actor → Type 0 = λ x. AnsweredBy config x (mover_after config x (mover config c) None (Hear from reply)) None after r in
    let M : Mover → Type 0 = λ x. AnsweredBy config a (then_is x) None after r in
    let quiet : flight_after a f a (Hear from reply) ≡ Quiet = flight_heard a from reply f in
    let there = answered_at config a (then_is m) after (flight_after a f a (Hear from reply)) r (subst M come.mover (subst A come.is answered)) (record { under_way = come.stage.0; quiet = quiet }) in (
      hears_makes config a (session_from given all begun m f) m f now from reply (stage_after r) (under_way_left given all begun m f come.stage.0) come.stage.1,
      record {
        of = same_of config c d named come.of;
        is = ap Session named.session ∙ come.is;
        session = come.session;
        commands = come.commands ∙ sym same;
        mover = there.1;
        stage = there.0;
        finished = come.finished;
        splits = same_begun given begun l.left.items l.ended come.splits;
        lines = come.lines;
        clock = come.clock;
        listing = λ by which e listed. cc;
      },
    )

-- a reply to what it asked came
pub reply_comes : (config : Config) (i : ℕ) (given : List Command) (all : Bool) (begun : List Command) (m : Mover) (f : Flight) (c : SessionCore) (l : Lines) (from to : Actor) (r : Reply) → HasCome config i given all begun m f c l (stage.Awaits from) → awaited f ≡ Some to →
    HasCome config i given all begun m (Answered to r) c l (stage.Hears from r)
reply_comes config i given all begun m f c l from to r come goes =
    let there : awaited f ≡ Some from = come.stage.1 in
    let same : to ≡ from = cc in
    record {
      of = come.of;
      is = come.is;
      session = come.session;
      commands = come.commands;
      mover = come.mover;
      stage = (come.stage.0, ap (λ (a : Actor). Answered a r) same);
      finished = come.finished;
      splits = come.splits;
      lines = come.lines;
      clock = come.clock;
      listing = λ by which e listed. cc;
    }

-- ## a reading that was wanted

turned_at : (config : Config) (i : ℕ) (m : Mover) (c : SessionCore) (reading : Option ℕ) (event : Event) (after : Mover) → session_of c ≡ Session i → mover config c ≡ m →
    after ≡ mover_after config (session_of c) (mover config c) reading event → after ≡ mover_after config (Session i) m reading event
turned_at config i m c reading event after is at goes =
    goes ∙ ap (λ (x : Actor). mover_after config x (mover config c) reading event) is ∙ ap (λ (x : Mover). mover_after config (Session i) x reading event) at

-- it asks with it
pub read_asks : (config : Config) (i : ℕ) (given : List Command) (all : Bool) (begun : List Command) (m : Mover) (f : Flight) (c d : SessionCore) (l : Lines) (reading : ℕ) (to : Actor) (asked : Request) → HasCome config i given all begun m f c l stage.Reads → IsNamed c d → commands_of d ≡ commands_of c →
    program.Ask to asked ≡ turn_with (mover config c).rest (Some reading) → mover config d ≡ mover_after config (session_of c) (mover config c) (Some reading) (Ask to asked) → (lists asked ≡ true → reads d ≡ true) →
    Comes config i given all begun m f reading (asks_made (Some reading) to asked) d l
read_asks config i given all begun m f c d l reading to asked come named same is goes listing =
    asked_comes config i given all begun m f c d l stage.Reads reading (Some reading) to asked come come.stage.0 named same refl
    (ap (λ (x : Mover). turn_with x.rest (Some reading)) (sym come.mover) ∙ sym is)
    (turned_at config i m c (Some reading) (Ask to asked) (mover config d) come.is come.mover goes) listing

-- or is told something with it
pub read_tells : (config : Config) (i : ℕ) (given : List Command) (all : Bool) (begun : List Command) (m : Mover) (f : Flight) (c d : SessionCore) (l : Lines) (reading number : ℕ) (t : Told) → HasCome config i given all begun m f c l stage.Reads → IsNamed c d → commands_of d ≡ commands_of c →
    number ≡ commands_of d → program.Tell t ≡ turn_with (mover config c).rest (Some reading) → mover config d ≡ mover_after config (session_of c) (mover config c) (Some reading) (Tell (mover config c).commands t) →
    Comes config i given all begun m f reading (tells_made (Some reading) number l.clock t) d l
read_tells config i given all begun m f c d l reading number t come named same many is goes =
    told_comes config i given all begun m f c d l stage.Reads reading (Some reading) number t come come.stage.0 named same refl (many ∙ same)
    (inl (ap (λ (x : Mover). turn_with x.rest (Some reading)) (sym come.mover) ∙ sym is))
    (turned_at config i m c (Some reading) (Tell number t) (mover config d) come.is come.mover goes)

-- or memory runs out, and no entry has the reading
pub read_loses : (config : Config) (i : ℕ) (given : List Command) (all : Bool) (begun : List Command) (m : Mover) (f : Flight) (c d : SessionCore) (l : Lines) (reading number : ℕ) → HasCome config i given all begun m f c l stage.Reads → IsNamed c d → commands_of d ≡ commands_of c →
    number ≡ commands_of d → (mover config c).may_lose ≡ true → mover config d ≡ mover_after config (session_of c) (mover config c) None (Tell (mover config c).commands (told.Refused told_refusal.Memory)) →
    Comes config i given all begun m f reading (tells_made None number l.clock (told.Refused told_refusal.Memory)) d l
read_loses config i given all begun m f c d l reading number come named same many may goes =
    told_comes config i given all begun m f c d l stage.Reads reading None number (told.Refused told_refusal.Memory) come come.stage.0 named same tt (many ∙ same)
    (inr (refl, ap (λ (x : Mover). x.may_lose) (sym come.mover) ∙ may, refl))
    (turned_at config i m c None (Tell number (told.Refused told_refusal.Memory)) (mover config d) come.is come.mover goes)

-- ## what is due is told

itself : (c : SessionCore) → IsNamed c c
itself c = record { session = refl; status = refl; skew = refl }

pub due_told : (config : Config) (i : ℕ) (given : List Command) (all : Bool) (begun : List Command) (m : Mover) (f : Flight) (c : SessionCore) (l : Lines) (reading number : ℕ) (t : Told) → HasCome config i given all begun m f c l (stage.Tells t) → number ≡ commands_of c →
    Comes config i given all begun m f reading (tells_made None number l.clock t) c l
due_told config i given all begun m f c l reading number t come many =
    told_comes config i given all begun m f c c l (stage.Tells t) reading None number t come come.stage.0 (itself c) refl tt many come.stage.1 come.mover

pub due_asked : (config : Config) (i : ℕ) (given : List Command) (all : Bool) (begun : List Command) (m : Mover) (f : Flight) (c : SessionCore) (l : Lines) (reading : ℕ) (to : Actor) (asked : Request) → HasCome config i given all begun m f c l (stage.Asks to asked) → (lists asked ≡ true → reads c ≡ true) →
    Comes config i given all begun m f reading (asks_made None to asked) c l
due_asked config i given all begun m f c l reading to asked come listing =
    asked_comes config i given all begun m f c c l (stage.Asks to asked) reading None to asked come come.stage.0 (itself c) refl tt come.stage.1 come.mover listing

-- ## a seat

pub few_begun : (n k g : ℕ) (b : Bool) → n + k ≡ g + one_if b → g ≤ 4000000000 → n < 2 ^ 40
few_begun n k g true is few = omega arith
few_begun n k g false is few = omega arith

abbrev pub entry_by : ℕ → Made → Entry
entry_by n made = record { actor = Session n; reading = made.reading; event = made.event }

pub come_more : (config : Config) (i n : ℕ) (given : List Command) (all : Bool) (g : History) (f : Flight) (c : SessionCore) (l : Lines) (made : Made) → n ≡ i →
    HasCome config i given all (lines (Session i) g ++ line_by made.event) (mover_after config (Session i) (mover_at config (Session i) g) made.reading made.event) f c l made.stage →
    HasCome config i given all (lines (Session i) (entry_by n made ∷ g)) (mover_at config (Session i) (entry_by n made ∷ g)) f c l made.stage
come_more config i n given all g f c l made is come =
    let a = Session i in
    let e = entry_by n made in
    let mine : e.actor ≡ a = ap Session is in
    let m = mover_after config a (mover_at config a g) made.reading made.event in
    subst (λ (x : Mover). HasCome config i given all (lines a (e ∷ g)) x f c l made.stage) (sym (mover_more config a e g mine))
    (subst (λ (ls : List Command). HasCome config i given all ls m f c l made.stage) (sym (lines_more a e g mine)) come)

pub none_come : (config : Config) (i : ℕ) (c : SessionCore) (l : Lines) → IsOf config c → session_of c ≡ Session i → IsSession i → commands_of c ≡ 0 → mover config c ≡ idle → l.finished ≡ false → l.ended ≡ false → l.left.items ≡ [] →
    HasCome config i [] false (lines (Session i) []) (mover_at config (Session i) []) Quiet c l stage.Between
none_come config i c l of is session many at finished ended left =
    let a = Session i in
    let first = mover_first config a in
    let none : (mover_at config a []).line ≡ None = ap (λ (m : Mover). m.line) first in
    let nothing : [] ≡ lines a [] ++ l.left.items = ap (λ (ls : List Command). ls ++ []) (sym (lines_first a)) ∙ ap (λ (ls : List Command). lines a [] ++ ls) (sym left) in
    record {
      of = of;
      is = is;
      session = session;
      commands = ap (λ (m : Mover). m.commands) first ∙ sym many;
      mover = at ∙ sym first;
      stage = (none, refl);
      finished = finished;
      splits = subst (λ (b : Bool). Splits [] (lines a []) b l.left.items) (sym ended) nothing;
      lines = subst (All (IsLine config)) (sym left) (All-nil (IsLine config));
      clock = λ x e. cc;
      listing = λ by which e listed. cc;
    }

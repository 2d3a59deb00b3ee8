-- A put or a del whose refusal ends its transaction asked one Abort of it, and nothing after that; another asked none.
use Rattle.std.proofs.Common.{◌≡◌, ℕ, Bool, true, false, ◌&&◌, not, List, [], ◌∷◌, Option, Some, None, length, refl, sym, ◌∙◌, ap, subst, inl, inr, if◌then◌else◌}
use Rattle.txn_data.specs.declared.actor.Actor.{Actor}
use Rattle.txn_data.specs.declared.actor.Actor.TheVariants.{Tablet, Status, Session}
use Rattle.txn_data.specs.declared.command.Command.{Command}
use Rattle.txn_data.specs.declared.command.Command.TheVariants as command
use Rattle.txn_data.specs.declared.config.Config.{Config}
use Rattle.txn_data.specs.declared.fate.Fate.TheVariants as fate
use Rattle.txn_data.specs.declared.fate_of.FateOf.{FateOf}
use Rattle.txn_data.specs.declared.found.Found.{Found}
use Rattle.txn_data.specs.declared.meta.Meta.{Meta}
use Rattle.txn_data.specs.declared.op.Op.{Op}
use Rattle.txn_data.specs.declared.op.Op.TheVariants as op
use Rattle.txn_data.specs.declared.place.Place.{Place}
use Rattle.txn_data.specs.declared.request.Request.{Request}
use Rattle.txn_data.specs.declared.request.Request.TheVariants as request
use Rattle.txn_data.specs.declared.reply.Reply.{Reply}
use Rattle.txn_data.specs.declared.reply.Reply.TheVariants as reply
use Rattle.txn_data.specs.declared.told.Told.{Told}
use Rattle.txn_data.specs.declared.told.Told.TheVariants as told
use Rattle.txn_data.specs.declared.told_refusal.ToldRefusal.{ToldRefusal}
use Rattle.txn_data.specs.declared.told_refusal.ToldRefusal.TheVariants as why
use Rattle.txn_data.specs.declared.txn_step.TxnStep.TheVariants as step
use Rattle.txn_data.specs.declared.event.Event.{Event}
use Rattle.txn_data.specs.declared.event.Event.TheVariants.{Start, Ask, Serve, Hear, Tell, Restarted}
use Rattle.txn_data.specs.declared.entry.Entry.{Entry}
use Rattle.txn_types.specs.History.{History, same_actor, is_start}
use Rattle.txn_types.specs.Program as program
use Rattle.txn_types.specs.Program.{Program, Done, Asks, Reads, turn_with, with_reading, heard, refusal_told}
use Rattle.txn_types.specs.TxnProgram.{refused, write_refused, resolve_all, txn_program}
use Rattle.txn_types.specs.Session.{Keeps, Opened, write_command, command_program}
use Rattle.txn_types.specs.Run.{Run, Mover, Allowed, Steps, CanTell, CanHear, Flight, Quiet, Asked, flight, flight_after, mover_at, mover_after, is_settling, may_lose_after}
use Rattle.txn_types.specs.Reads.{open_txn}
use Rattle.txn_promises.specs.Lines.{is_write}
use Rattle.txn_promises.specs.Leaves.{asked_by, asked_since, NoAbort, ClosingAsked}
use Rattle.law_machines.proofs.Basics.{same_cases}
use Rattle.law_messages.proofs.Flights.{idle_quiet}
use Rattle.law_heard.proofs.Means.{shuts, Shut}
use Rattle.law_asked.proofs.Flights.{Busy, busy_not, quiet_more, busy_more, asks_flies, hears_quiet, AbortFlies, flies_not, flies_heard, flies_more}

-- ## programs that close once

abbrev Opens : Told → Type 0
Opens (told.Refused w) = shuts w ≡ false
Opens t = Unit {0}

abbrev abort_of : Request → Option ℕ
abort_of (request.Abort y) = Some y
abort_of asked = None

-- it tells a refusal after which the transaction is closed
abbrev Closed : Program Told → Type 0
Closed (Done t) = Shut t
Closed p = ⊥

abbrev ByAbort : Option ℕ → ℕ → Type 0 → Type 0 → Type 0
ByAbort (Some y) x ends goes = (y ≡ x) × ends
ByAbort None x ends goes = goes

-- it tells such a refusal only after its Abort, which comes once and last
abbrev Closing : ℕ → Program Told → Type 0
Closing x (Done t) = Opens t
Closing x (Asks to asked next) = ByAbort (abort_of asked) x ((r : Reply) → Closed (next r)) ((r : Reply) → Closing x (next r))
Closing x (Reads given) = ⊥

stop_closing : (meta : Meta) (w : ToldRefusal) → Closing meta.txn (write_refused meta w)
stop_closing meta (why.Conflict other) = (refl, λ r. (why.Conflict other, refl, refl))
stop_closing meta (why.Overlap at) = (refl, λ r. (why.Overlap at, refl, refl))
stop_closing meta (why.LogFault actor) = (refl, λ r. (why.LogFault actor, refl, refl))
stop_closing meta w = refl

resolve_closing : (meta : Meta) (fs : List Found) (fates : List FateOf) (next : List FateOf → Program Told) → ((given : List FateOf) → Closing meta.txn (next given)) → Closing meta.txn (resolve_all meta fs fates (write_refused meta) next)
unfolding resolve_all
resolve_closing meta [] fates next goes = goes fates
resolve_closing meta (f ∷ fs) fates next goes = elim [
  | reply.FateIs fate.Pending ↦ stop_closing meta (why.Conflict f.txn)
  | reply.FateIs (fate.Committed at) ↦ resolve_closing meta fs _ next goes
  | reply.FateIs fate.Aborted ↦ resolve_closing meta fs _ next goes
  | reply.FateIs fate.Absent ↦ resolve_closing meta fs _ next goes
  | reply.Refused r ↦ stop_closing meta (refusal_told (Status f.status) r)
  | _ ↦ refl
]

write_closing : (meta : Meta) (number : ℕ) (place : Place) (o : Op) (read seen : ℕ) → Closing meta.txn (txn_program (step.Write meta number place o read seen))
write_closing meta number place o read seen = elim [
  | reply.Others found ↦ resolve_closing meta found [] _ (λ fates. elim [
    | reply.Written at ↦ tt
    | reply.Refused r ↦ stop_closing meta (refusal_told (Tablet place.tablet) r)
    | _ ↦ refl
  ])
  | reply.Refused r ↦ stop_closing meta (refusal_told (Tablet place.tablet) r)
  | _ ↦ refl
]

-- what is open is this transaction
abbrev pub OpenIs : ℕ → Option Opened → Type 0
OpenIs x o = (y : ℕ) → open_txn o ≡ Some y → y ≡ x

pub open_is : (x : ℕ) (o : Option Opened) → open_txn o ≡ Some x → OpenIs x o
open_is x o is y there = let same : Some y ≡ Some x = sym there ∙ is in cc

command_closing : (s : Keeps) (place : Place) (o : Op) (opened : Option Opened) (x : ℕ) → OpenIs x opened → Closing x (write_command s place o opened)
command_closing s place o None x is = refl
command_closing s place o (Some y) x is = doubt y.in_doubt
  where
    same : y.meta.txn ≡ x
    same = is y.meta.txn refl

    doubt : (b : Bool) → Closing x (if b then refused why.InDoubt else txn_program (step.Write y.meta (length y.writes) place o y.r s.last))
    doubt true = refl
    doubt false = subst (λ (z : ℕ). Closing z (txn_program (step.Write y.meta (length y.writes) place o y.r s.last))) same (write_closing y.meta (length y.writes) place o y.r s.last)

line_closing : (config : Config) (i : ℕ) (s : Keeps) (line : Command) (x : ℕ) → is_write (Some line) ≡ true → OpenIs x s.opened → Closing x (command_program config i s line)
line_closing config i s (command.Put place v) x writes is = command_closing s place (op.Put v) s.opened x is
line_closing config i s (command.Del place) x writes is = command_closing s place op.Delete s.opened x is
line_closing config i s line x writes is = cc

-- ## a session under way

-- what is left while a request that is no Abort is on its way; and while the Abort is
abbrev Waits : ℕ → Program Told → Type 0
Waits x (Asks to asked next) = (r : Reply) → Closing x (next r)
Waits x p = ⊥

abbrev Shutting : Program Told → Type 0
Shutting (Asks to asked next) = (r : Reply) → Closed (next r)
Shutting p = ⊥

-- no Abort yet, and nothing on its way or something; or the Abort was asked, and is on its way or was answered, which settles
-- the command
data State (x : ℕ) (asks : List Request) (p : Program Told) (f : Flight) (lose : Bool) : Type 0 where
  Still : NoAbort asks → f ≡ Quiet → Closing x p → State x asks p f lose
  Moving : NoAbort asks → Busy f → Waits x p → State x asks p f lose
  Ending : ClosingAsked x asks → AbortFlies x f → Shutting p → State x asks p f lose
  Over : ClosingAsked x asks → Closed p → lose ≡ false → State x asks p f lose

no_abort_more : (asked : Request) (asks : List Request) → abort_of asked ≡ None → NoAbort asks → NoAbort (asked ∷ asks)
no_abort_more asked asks none not x here = elim here [
  | inl is ↦ let wrong : Some x ≡ None = ap abort_of is ∙ none in cc
  | inr more ↦ not x more
]

is_abort_of : (asked : Request) (y : ℕ) → abort_of asked ≡ Some y → asked ≡ request.Abort y
is_abort_of (request.Abort z) y is = let same : z ≡ y = cc in ap request.Abort same
is_abort_of asked y is = cc

ask_same : (a to : Actor) (q asked : Request) (next : Reply → Program Told) → turn_with (Asks a q next) None ≡ program.Ask to asked → q ≡ asked
ask_same a to q asked next is = cc

-- asking
asks_state : (x : ℕ) (asks : List Request) (a to : Actor) (asked : Request) (next : Reply → Program Told) (lose : Bool) (y : Option ℕ) → abort_of asked ≡ y → NoAbort asks → ByAbort y x ((r : Reply) → Closed (next r)) ((r : Reply) → Closing x (next r)) → State x (asked ∷ asks) (Asks a asked next) (Asked to asked) lose
asks_state x asks a to asked next lose (Some y) is not closes =
    let abort : asked ≡ request.Abort x = is_abort_of asked y is ∙ ap request.Abort closes.0 in
    Ending (asks, ap (λ (q : Request). q ∷ asks) abort, not) abort closes.1
asks_state x asks a to asked next lose None is not closes = Moving (no_abort_more asked asks is not) tt closes

ask_still : (x : ℕ) (asks : List Request) (p : Program Told) (reading : Option ℕ) (to : Actor) (asked : Request) (lose : Bool) → NoAbort asks → Closing x p → turn_with p reading ≡ program.Ask to asked → State x (asked ∷ asks) (with_reading p reading) (Asked to asked) lose
ask_still x asks (Done t) None to asked lose not closes is = cc
ask_still x asks (Done t) (Some n) to asked lose not closes is = cc
ask_still x asks (Asks a q next) None to asked lose not closes is =
    let same : q ≡ asked = ask_same a to q asked next is in
    subst (λ (r : Request). State x (r ∷ asks) (Asks a q next) (Asked to r) lose) same (asks_state x asks a to q next lose (abort_of q) refl not closes)
ask_still x asks (Asks a q next) (Some n) to asked lose not closes is = cc
ask_still x asks (Reads given) None to asked lose not closes is = cc
ask_still x asks (Reads given) (Some n) to asked lose not closes is = absurd closes

closed_silent : (p : Program Told) (reading : Option ℕ) (to : Actor) (asked : Request) → Closed p → turn_with p reading ≡ program.Ask to asked → ⊥
closed_silent (Done t) None to asked closed is = cc
closed_silent (Done t) (Some n) to asked closed is = cc
closed_silent (Asks a q next) reading to asked closed is = closed
closed_silent (Reads given) reading to asked closed is = closed

asks_next : (x : ℕ) (asks : List Request) (p : Program Told) (f : Flight) (lose : Bool) (reading : Option ℕ) (to : Actor) (asked : Request) → State x asks p f lose → f ≡ Quiet → turn_with p reading ≡ program.Ask to asked → State x (asked ∷ asks) (with_reading p reading) (Asked to asked) lose
asks_next x asks p f lose reading to asked state quiet is = elim state [
  | Still not still closes ↦ ask_still x asks p reading to asked lose not closes is
  | Moving not moves waits ↦ absurd (busy_not f moves quiet)
  | Ending closing flies shut ↦ absurd (flies_not x f flies quiet)
  | Over closing closed low ↦ absurd (closed_silent p reading to asked closed is)
]

-- hearing
hear_waits : (x : ℕ) (asks : List Request) (p : Program Told) (r : Reply) (g : Flight) (lose : Bool) → NoAbort asks → Waits x p → g ≡ Quiet → State x asks (heard p r) g lose
hear_waits x asks (Asks to asked next) r g lose not waits quiet = Still not quiet (waits r)
hear_waits x asks (Done t) r g lose not waits quiet = absurd waits
hear_waits x asks (Reads given) r g lose not waits quiet = absurd waits

hear_shut : (x : ℕ) (asks : List Request) (p : Program Told) (r : Reply) (g : Flight) (lose : Bool) → ClosingAsked x asks → Shutting p → lose ≡ false → State x asks (heard p r) g lose
hear_shut x asks (Asks to asked next) r g lose closing shut low = Over closing (shut r) low
hear_shut x asks (Done t) r g lose closing shut low = absurd shut
hear_shut x asks (Reads given) r g lose closing shut low = absurd shut

hear_closed : (p : Program Told) (r : Reply) → Closed p → Closed (heard p r)
hear_closed (Done t) r closed = closed
hear_closed (Asks to asked next) r closed = absurd closed
hear_closed (Reads given) r closed = absurd closed

can_hear : (f : Flight) (from : Actor) (r : Reply) → f ≡ Quiet → CanHear f from r → ⊥
can_hear f from r quiet can = subst (λ (g : Flight). CanHear g from r) quiet can

lost_first : (a b : Bool) → a ≡ false → (a && b) ≡ false
lost_first a b is = rw is refl

lost_then : (a b : Bool) → b ≡ true → (a && not b) ≡ false
lost_then true b is = rw is refl
lost_then false b is = refl

hears_next : (x i : ℕ) (asks : List Request) (p : Program Told) (f g : Flight) (lose : Bool) (from : Actor) (r : Reply) → State x asks p f lose → CanHear f from r → g ≡ Quiet → State x asks (heard p r) g (lose && may_lose_after (Session i) r)
hears_next x i asks p f g lose from r state can quiet = elim state [
  | Still not still closes ↦ absurd (can_hear f from r still can)
  | Moving not moves waits ↦ hear_waits x asks p r g (lose && may_lose_after (Session i) r) not waits quiet
  | Ending closing flies shut ↦ hear_shut x asks p r g (lose && may_lose_after (Session i) r) closing shut (lost_then lose (is_settling r) (flies_heard x f from r flies can))
  | Over closing closed low ↦ Over closing (hear_closed p r closed) (lost_first lose (may_lose_after (Session i) r) low)
]

abbrev At : ℕ → List Request → Mover → Flight → Type 0
At x asks s f = (line : Command) → s.line ≡ Some line → is_write (Some line) ≡ true → OpenIs x s.keeps.opened → State x asks s.rest f s.may_lose

own_state : (config : Config) (h : History) (i x : ℕ) (s : Mover) (reading : Option ℕ) (event : Event) → Run config h → mover_at config (Session i) h ≡ s → Allowed config h (Session i) reading event → At x (asked_since (Session i) h) s (flight (Session i) h) →
    At x (if is_start event then [] else elim (asked_by event) [ [] ↦ asked_since (Session i) h | asked ∷ more ↦ asked ∷ asked_since (Session i) h ]) (mover_after config (Session i) s reading event) (flight_after (Session i) (flight (Session i) h) (Session i) event)
own_state config h i x s reading (Start number l) run same ok at line is writes there =
    let e : l ≡ line = cc in
    Still (λ y here. here) (idle_quiet config h (Session i) run ok.0) (subst (λ (c : Command). Closing x (command_program config i s.keeps l)) e (line_closing config i s.keeps l x (subst (λ (c : Command). is_write (Some c) ≡ true) (sym e) writes) there))
own_state config h i x s reading (Ask to asked) run same ok at line is writes there =
    subst (λ (f : Flight). State x (asked ∷ asked_since (Session i) h) (with_reading s.rest reading) f s.may_lose) (sym (asks_flies (Session i) (flight (Session i) h) to asked))
    (asks_next x (asked_since (Session i) h) s.rest (flight (Session i) h) s.may_lose reading to asked (at line is writes there) ok.1 (subst (λ (t : Mover). turn_with t.rest reading ≡ program.Ask to asked) same ok.2))
own_state config h i x s reading (Hear from r) run same ok at line is writes there =
    hears_next x i (asked_since (Session i) h) s.rest (flight (Session i) h) (flight_after (Session i) (flight (Session i) h) (Session i) (Hear from r)) s.may_lose from r (at line is writes there) ok.1 (hears_quiet (Session i) (flight (Session i) h) from r)
own_state config h i x s reading (Tell number t) run same ok at line is writes there = cc
own_state config h i x s reading (Serve from asked r time append) run same ok at line is writes there = absurd ok.0
own_state config h i x s reading (Restarted from kept) run same ok at line is writes there = absurd ok.0

other_state : (config : Config) (i x : ℕ) (asks : List Request) (p : Program Told) (lose : Bool) (e : Entry) (h : History) → same_actor e.actor (Session i) ≡ false → Allowed config h e.actor e.reading e.event → State x asks p (flight (Session i) h) lose → State x asks p (flight (Session i) (e ∷ h)) lose
other_state config i x asks p lose e h other ok state = elim state [
  | Still not still closes ↦ Still not (quiet_more config (Session i) e h other ok still) closes
  | Moving not moves waits ↦ Moving not (busy_more (Session i) e h other moves) waits
  | Ending closing flies shut ↦ Ending closing (flies_more config (Session i) x e h other ok flies) shut
  | Over closing closed low ↦ Over closing closed low
]

flight_step : (m : Actor) (e : Entry) (h : History) → flight m (e ∷ h) ≡ flight_after m (flight m h) e.actor e.event
unfolding flight
flight_step m e h = refl

abbrev Own : Config → ℕ → ℕ → Entry → History → Flight → Type 0
Own config i x e h f = At x (if is_start e.event then [] else elim (asked_by e.event) [ [] ↦ asked_since (Session i) h | asked ∷ more ↦ asked ∷ asked_since (Session i) h ]) (mover_after config (Session i) (mover_at config (Session i) h) e.reading e.event) f

at_own : (config : Config) (i x : ℕ) (e : Entry) (h : History) → e.actor ≡ Session i → Run config h → Allowed config h e.actor e.reading e.event → At x (asked_since (Session i) h) (mover_at config (Session i) h) (flight (Session i) h) → Own config i x e h (flight (Session i) (e ∷ h))
at_own config i x e h who run ok at =
    subst (λ (f : Flight). Own config i x e h f) (sym (flight_step (Session i) e h))
    (subst (λ (a : Actor). Own config i x e h (flight_after (Session i) (flight (Session i) h) a e.event)) (sym who)
    (own_state config h i x (mover_at config (Session i) h) e.reading e.event run refl (subst (λ (a : Actor). Allowed config h a e.reading e.event) who ok) at))

state_at : (config : Config) (i x : ℕ) (h : History) → Run config h → At x (asked_since (Session i) h) (mover_at config (Session i) h) (flight (Session i) h)
unfolding mover_at Steps asked_since
state_at config i x [] run = λ line is. cc
state_at config i x (e ∷ h) run =
    let before : At x (asked_since (Session i) h) (mover_at config (Session i) h) (flight (Session i) h) = state_at config i x h (run.0, run.1.0) in
    elim (same_cases e.actor (Session i)) [
      | inl same ↦ rw same.0 (at_own config i x e h same.1 (run.0, run.1.0) run.1.1 before)
      | inr other ↦ rw other.0 (λ line is writes there. other_state config i x (asked_since (Session i) h) (mover_at config (Session i) h).rest (mover_at config (Session i) h).may_lose e h other.0 run.1.1 (before line is writes there))
    ]

-- ## the entry that tells

told_is : (one two : Told) → program.Tell one ≡ program.Tell two → one ≡ two
told_is one two is = cc

still_told : (x : ℕ) (p : Program Told) (reading : Option ℕ) (w : ToldRefusal) → Closing x p → turn_with p reading ≡ program.Tell (told.Refused w) → shuts w ≡ true → ⊥
still_told x (Done t) None w closes is shut =
    let low : shuts w ≡ false = subst Opens (told_is t (told.Refused w) is) closes in let wrong : true ≡ false = sym shut ∙ low in cc
still_told x (Done t) (Some n) w closes is shut = cc
still_told x (Asks a q next) None w closes is shut = cc
still_told x (Asks a q next) (Some n) w closes is shut = cc
still_told x (Reads given) reading w closes is shut = closes

refused_is : (one two : ToldRefusal) → told.Refused one ≡ told.Refused two → one ≡ two
refused_is one two is = cc

closed_told : (p : Program Told) (reading : Option ℕ) (w : ToldRefusal) → Closed p → turn_with p reading ≡ program.Tell (told.Refused w) → shuts w ≡ true
closed_told (Done t) None w closed is = subst (λ (v : ToldRefusal). shuts v ≡ true) (refused_is closed.0 w (sym closed.1 ∙ told_is t (told.Refused w) is)) closed.2
closed_told (Done t) (Some n) w closed is = cc
closed_told (Asks a q next) reading w closed is = absurd closed
closed_told (Reads given) reading w closed is = absurd closed

tells_closing : (x : ℕ) (asks : List Request) (s : Mover) (f : Flight) (reading : Option ℕ) (w : ToldRefusal) → State x asks s.rest f s.may_lose → f ≡ Quiet → CanTell s reading (told.Refused w) → shuts w ≡ true → ClosingAsked x asks
tells_closing x asks s f reading w state quiet can shut = elim state [
  | Still not still closes ↦ elim can [
    | inl is ↦ absurd (still_told x s.rest reading w closes is shut)
    | inr none ↦ let wrong : shuts why.Memory ≡ true = subst (λ (v : ToldRefusal). shuts v ≡ true) (refused_is w why.Memory none.0) shut in cc
  ]
  | Moving not moves waits ↦ absurd (busy_not f moves quiet)
  | Ending closing flies ends ↦ absurd (flies_not x f flies quiet)
  | Over closing closed low ↦ closing
]

tells_still : (x : ℕ) (asks : List Request) (s : Mover) (f : Flight) (reading : Option ℕ) (w : ToldRefusal) → State x asks s.rest f s.may_lose → f ≡ Quiet → CanTell s reading (told.Refused w) → shuts w ≡ false → NoAbort asks
tells_still x asks s f reading w state quiet can open_still = elim state [
  | Still not still closes ↦ not
  | Moving not moves waits ↦ absurd (busy_not f moves quiet)
  | Ending closing flies ends ↦ absurd (flies_not x f flies quiet)
  | Over closing closed low ↦ elim can [
    | inl is ↦ let wrong : true ≡ false = sym (closed_told s.rest reading w closed is) ∙ open_still in cc
    | inr none ↦ let wrong : true ≡ false = sym none.1 ∙ low in cc
  ]
]

module _ (config : Config) (h : History) (i x number : ℕ) (reading : Option ℕ) (line : Command) (w : ToldRefusal) (run : Run config h) (ok : Allowed config h (Session i) reading (Tell number (told.Refused w))) (is : (mover_at config (Session i) h).line ≡ Some line) (writes : is_write (Some line) ≡ true)
    (there : OpenIs x (mover_at config (Session i) h).keeps.opened) where
  pub closing_asked : shuts w ≡ true → ClosingAsked x (asked_since (Session i) h)
  closing_asked shut = tells_closing x (asked_since (Session i) h) (mover_at config (Session i) h) (flight (Session i) h) reading w (state_at config i x h run line is writes there) ok.1 ok.3 shut

  pub none_asked : shuts w ≡ false → NoAbort (asked_since (Session i) h)
  none_asked open_still = tells_still x (asked_since (Session i) h) (mover_at config (Session i) h) (flight (Session i) h) reading w (state_at config i x h run line is writes there) ok.1 ok.3 open_still

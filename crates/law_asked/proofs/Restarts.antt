-- A command that is refused restarted nothing, but for a restart that is told out of memory.
use Rattle.std.proofs.Common.{◌≡◌, ℕ, Bool, true, false, ◌&&◌, List, [], ◌∷◌, ◌++◌, Option, Some, None, refl, sym, ◌∙◌, ap, subst, inl, inr, if◌then◌else◌}
use Rattle.txn_data.specs.declared.actor.Actor.{Actor}
use Rattle.txn_data.specs.declared.command.Command.{Command}
use Rattle.txn_data.specs.declared.config.Config.{Config}
use Rattle.txn_data.specs.declared.request.Request.{Request}
use Rattle.txn_data.specs.declared.request.Request.TheVariants as request
use Rattle.txn_data.specs.declared.reply.Reply.{Reply}
use Rattle.txn_data.specs.declared.reply.Reply.TheVariants as reply
use Rattle.txn_data.specs.declared.told.Told.{Told}
use Rattle.txn_data.specs.declared.told.Told.TheVariants as told
use Rattle.txn_data.specs.declared.told_refusal.ToldRefusal.{ToldRefusal}
use Rattle.txn_data.specs.declared.told_refusal.ToldRefusal.TheVariants as why
use Rattle.txn_data.specs.declared.event.Event.{Event}
use Rattle.txn_data.specs.declared.event.Event.TheVariants.{Start, Ask, Serve, Hear, Tell, Restarted}
use Rattle.txn_data.specs.declared.entry.Entry.{Entry}
use Rattle.txn_types.specs.Lists.{Member}
use Rattle.txn_types.specs.History.{History, same_actor, is_start}
use Rattle.txn_types.specs.Program as program
use Rattle.txn_types.specs.Program.{Program, Done, Asks, Reads, turn, turn_with, with_reading, heard}
use Rattle.txn_types.specs.Run.{Run, Mover, MayStart, Allowed, Steps, CanTell, CanHear, Flight, Quiet, Asked, Answered, flight, flight_after, mover_at, mover_after, program_of, IsMachine}
use Rattle.txn_promises.specs.Lines.{is_write, is_restart}
use Rattle.txn_promises.specs.Leaves.{restarted_by, restarted_since}
use Rattle.law_machines.proofs.Basics.{same_cases}
use Rattle.law_messages.proofs.Flights.{asked_next}
use Rattle.law_messages.proofs.Rules.{entry}
use Rattle.law_heard.proofs.Heeds.{ComesTo, Heeds}
use Rattle.law_heard.proofs.Means.{IsAsked, Closes, NotRefused, Means}
use Rattle.law_heard.proofs.Lines.{Stops, LineHeeds, line_heeds}

-- ## what is left heeds what it hears

heeds_ask : (P C : Actor → Request → Type 0) (W : Actor → Request → Reply → Told → Type 0) (p : Program Told) (reading : Option ℕ) → Heeds P C W p → Heeds P C W (with_reading p reading)
heeds_ask P C W (Done t) reading heeds = heeds
heeds_ask P C W (Asks to asked next) reading heeds = heeds
heeds_ask P C W (Reads given) None heeds = heeds
heeds_ask P C W (Reads given) (Some n) heeds = heeds n

heeds_hear : (P C : Actor → Request → Type 0) (W : Actor → Request → Reply → Told → Type 0) (p : Program Told) (r : Reply) → Heeds P C W p → Heeds P C W (heard p r)
heeds_hear P C W (Done t) r heeds = heeds
heeds_hear P C W (Asks to asked next) r heeds = (heeds.1 r).1
heeds_hear P C W (Reads given) r heeds = heeds

abbrev HeedsOn : Mover → Type 0
HeedsOn s = (line : Command) → s.line ≡ Some line → LineHeeds s.keeps line s.rest

own_heeds : (config : Config) (h : History) (m : Actor) (s : Mover) (reading : Option ℕ) (event : Event) → mover_at config m h ≡ s → Allowed config h m reading event → HeedsOn s → HeedsOn (mover_after config m s reading event)
own_heeds config h m s reading (Start number line) same ok heeds given is =
    let e : line ≡ given = cc in
    subst (λ (l : Command). LineHeeds s.keeps l (program_of config m s.keeps line)) e (line_heeds config m s line (subst (λ (t : Mover). MayStart config m t line) same ok.3))
own_heeds config h m s reading (Ask to asked) same ok heeds line is = heeds_ask (IsAsked (Some line) s.keeps.opened) (Closes (is_write (Some line))) (Means (is_write (Some line)) (Stops s.keeps line)) s.rest reading (heeds line is)
own_heeds config h m s reading (Hear from r) same ok heeds line is = heeds_hear (IsAsked (Some line) s.keeps.opened) (Closes (is_write (Some line))) (Means (is_write (Some line)) (Stops s.keeps line)) s.rest r (heeds line is)
own_heeds config h m s reading (Tell number t) same ok heeds line is = cc
own_heeds config h m s reading (Serve from asked r time append) same ok heeds line is = heeds line is
own_heeds config h m s reading (Restarted from kept) same ok heeds line is = heeds line is

heeds_at : (config : Config) (m : Actor) (h : History) → Steps config h → HeedsOn (mover_at config m h)
unfolding mover_at Steps
heeds_at config m [] steps = λ line is. cc
heeds_at config m (e ∷ h) steps = elim (same_cases e.actor m) [
  | inl same ↦ rw same.0 (own_heeds config h m (mover_at config m h) e.reading e.event refl (subst (λ (a : Actor). Allowed config h a e.reading e.event) same.1 steps.1) (heeds_at config m h steps.0))
  | inr other ↦ rw other.0 (heeds_at config m h steps.0)
]

-- ## a mover under way

-- what a restart that was done leads to
abbrev Returns : Bool → Program Told → Type 0
Returns k (Asks to asked next) = ComesTo NotRefused (next (reply.Restarted k))
Returns k p = ⊥

-- nothing was restarted; or the answer is on its way; or it was heard
data State (rs : List Actor) (line : Command) (p : Program Told) (f : Flight) : Type 0 where
  Still : rs ≡ [] → State rs line p f
  Coming : (a : Actor) (k : Bool) → is_restart (Some line) ≡ true → f ≡ Answered a (reply.Restarted k) → Returns k p → State rs line p f
  Heard : is_restart (Some line) ≡ true → ComesTo NotRefused p → State rs line p f

comes_ask : (Q : Told → Type 0) (p : Program Told) (reading : Option ℕ) → ComesTo Q p → ComesTo Q (with_reading p reading)
comes_ask Q (Done t) reading comes = comes
comes_ask Q (Asks to asked next) reading comes = comes
comes_ask Q (Reads given) None comes = comes
comes_ask Q (Reads given) (Some n) comes = comes n

comes_hear : (Q : Told → Type 0) (p : Program Told) (r : Reply) → ComesTo Q p → ComesTo Q (heard p r)
comes_hear Q (Done t) r comes = comes
comes_hear Q (Asks to asked next) r comes = comes r
comes_hear Q (Reads given) r comes = comes

returns_hear : (k : Bool) (p : Program Told) (r : Reply) → Returns k p → r ≡ reply.Restarted k → ComesTo NotRefused (heard p r)
returns_hear k (Asks to asked next) r returns is = subst (λ (x : Reply). ComesTo NotRefused (next x)) (sym is) returns
returns_hear k (Done t) r returns is = absurd returns
returns_hear k (Reads given) r returns is = absurd returns

heard_is : (f : Flight) (a from : Actor) (k : Bool) (r : Reply) → f ≡ Answered a (reply.Restarted k) → CanHear f from r → r ≡ reply.Restarted k
heard_is f a from k r is can = (subst (λ (g : Flight). CanHear g from r) is can).1

answered_busy : (f : Flight) (a : Actor) (r : Reply) → f ≡ Answered a r → f ≡ Quiet → ⊥
answered_busy f a r is quiet = let wrong : Answered a r ≡ Quiet = sym is ∙ quiet in cc

abbrev At : List Actor → Mover → Flight → Type 0
At rs s f = (line : Command) → s.line ≡ Some line → State rs line s.rest f

own_state : (config : Config) (h : History) (m : Actor) (s : Mover) (rs : List Actor) (reading : Option ℕ) (event : Event) → (IsMachine config m → ⊥) → mover_at config m h ≡ s → Allowed config h m reading event → At rs s (flight m h) →
    At (if is_start event then [] else rs) (mover_after config m s reading event) (flight_after m (flight m h) m event)
own_state config h m s rs reading (Start number l) mover same ok at line is = Still refl
own_state config h m s rs reading (Ask to asked) mover same ok at line is = elim (at line is) [
  | Still none ↦ Still none
  | Coming a k restarts flies returns ↦ absurd (answered_busy (flight m h) a (reply.Restarted k) flies ok.1)
  | Heard restarts comes ↦ Heard restarts (comes_ask NotRefused s.rest reading comes)
]
own_state config h m s rs reading (Hear from r) mover same ok at line is = elim (at line is) [
  | Still none ↦ Still none
  | Coming a k restarts flies returns ↦ Heard restarts (returns_hear k s.rest r returns (heard_is (flight m h) a from k r flies ok.1))
  | Heard restarts comes ↦ Heard restarts (comes_hear NotRefused s.rest r comes)
]
own_state config h m s rs reading (Tell number t) mover same ok at line is = cc
own_state config h m s rs reading (Serve from asked r time append) mover same ok at line is = absurd (mover ok.0)
own_state config h m s rs reading (Restarted from kept) mover same ok at line is = absurd (mover ok.0)

-- an entry of another
flight_other : (m a : Actor) (f : Flight) (g : Flight) → same_actor a m ≡ false → (if same_actor a m then g else f) ≡ f
flight_other m a f g other = rw other refl

restart_kind : (config : Config) (h : History) (m a : Actor) (line : Command) (k : Bool) → Run config h → flight m h ≡ Asked a request.Restart → (mover_at config m h).line ≡ Some line → (is_restart (Some line) ≡ true) × Returns k (mover_at config m h).rest
restart_kind config h m a line k run flies is =
    let next = asked_next config h m a request.Restart run flies in
    let heeds : LineHeeds (mover_at config m h).keeps line (Asks a request.Restart next.0) = subst (λ (p : Program Told). LineHeeds (mover_at config m h).keeps line p) next.1 (heeds_at config m h run.1 line is) in
    (heeds.0, subst (λ (p : Program Told). Returns k p) (sym next.1) (heeds.1 (reply.Restarted k)).0)

other_state : (config : Config) (h : History) (m a : Actor) (line : Command) (rs : List Actor) (reading : Option ℕ) (event : Event) → same_actor a m ≡ false → Run config h → Allowed config h a reading event → (mover_at config m h).line ≡ Some line → State rs line (mover_at config m h).rest (flight m h) →
    State (restarted_by m (entry a reading event) ++ rs) line (mover_at config m h).rest (flight_after m (flight m h) a event)
other_state config h m a line rs reading (Start number l) other run ok is state = state
other_state config h m a line rs reading (Tell number t) other run ok is state = state
other_state config h m a line rs reading (Ask to asked) other run ok is state = subst (λ (f : Flight). State rs line (mover_at config m h).rest f) (sym (flight_other m a (flight m h) (Asked to asked) other)) state
other_state config h m a line rs reading (Hear from r) other run ok is state = subst (λ (f : Flight). State rs line (mover_at config m h).rest f) (sym (flight_other m a (flight m h) Quiet other)) state
other_state config h m a line rs reading (Serve from asked r time append) other run ok is state = elim (same_cases from m) [
  | inl same ↦ elim state [
    | Still none ↦ Still none
    | Coming b k restarts flies returns ↦ let asks : flight m h ≡ Asked a asked = subst (λ (c : Actor). flight c h ≡ Asked a asked) same.1 ok.1 in let wrong : Answered b (reply.Restarted k) ≡ Asked a asked = sym flies ∙ asks in cc
    | Heard restarts comes ↦ Heard restarts comes
  ]
  | inr differ ↦ subst (λ (f : Flight). State rs line (mover_at config m h).rest f) (sym (flight_other m from (flight m h) (Answered a r) differ.0)) state
]
other_state config h m a line rs reading (Restarted from kept) other run ok is state = elim (same_cases from m) [
  | inl same ↦
      let asks : flight m h ≡ Asked a request.Restart = subst (λ (c : Actor). flight c h ≡ Asked a request.Restart) same.1 ok.1 in
      let kind = restart_kind config h m a line kept run asks is in
      rw same.0 (Coming a kept kind.0 refl kind.1)
  | inr differ ↦ rw differ.0 state
]

flight_step : (m : Actor) (e : Entry) (h : History) → flight m (e ∷ h) ≡ flight_after m (flight m h) e.actor e.event
unfolding flight
flight_step m e h = refl

own_none : (m : Actor) (reading : Option ℕ) (a : Actor) (event : Event) → (config : Config) (h : History) → (IsMachine config a → ⊥) → Allowed config h a reading event → restarted_by m (entry a reading event) ≡ []
own_none m reading a (Restarted from kept) config h mover ok = absurd (mover ok.0)
own_none m reading a event config h mover ok = refl

start_choice : (b c : Bool) (rs : List Actor) → b ≡ true → (if b && c then [] else rs) ≡ (if c then [] else rs)
start_choice b c rs is = rw is refl

other_choice : (b c : Bool) (rs : List Actor) → b ≡ false → (if b && c then [] else rs) ≡ rs
other_choice b c rs is = rw is refl

since_own : (m : Actor) (e : Entry) (h : History) → same_actor e.actor m ≡ true → restarted_by m e ≡ [] → restarted_since m (e ∷ h) ≡ (if is_start e.event then [] else restarted_since m h)
unfolding restarted_since
since_own m e h same none = start_choice (same_actor e.actor m) (is_start e.event) (restarted_by m e ++ restarted_since m h) same ∙ ap (λ (l : List Actor). if is_start e.event then [] else l ++ restarted_since m h) none

since_other : (m : Actor) (e : Entry) (h : History) → same_actor e.actor m ≡ false → restarted_since m (e ∷ h) ≡ restarted_by m e ++ restarted_since m h
unfolding restarted_since
since_other m e h other = other_choice (same_actor e.actor m) (is_start e.event) (restarted_by m e ++ restarted_since m h) other

mover_own : (config : Config) (m : Actor) (e : Entry) (h : History) → same_actor e.actor m ≡ true → mover_at config m (e ∷ h) ≡ mover_after config m (mover_at config m h) e.reading e.event
unfolding mover_at
mover_own config m e h same = rw same refl

mover_other : (config : Config) (m : Actor) (e : Entry) (h : History) → same_actor e.actor m ≡ false → mover_at config m (e ∷ h) ≡ mover_at config m h
unfolding mover_at
mover_other config m e h other = rw other refl

nothing : (m : Actor) → restarted_since m [] ≡ []
unfolding restarted_since
nothing m = refl

move : (rs more : List Actor) (s u : Mover) (f g : Flight) → rs ≡ more → s ≡ u → f ≡ g → At rs s f → At more u g
move rs more s u f g one two three at = subst (λ (x : Flight). At more u x) three (subst (λ (x : Mover). At more x f) two (subst (λ (x : List Actor). At x s f) one at))

state_at : (config : Config) (m : Actor) (h : History) → (IsMachine config m → ⊥) → Run config h → At (restarted_since m h) (mover_at config m h) (flight m h)
unfolding Steps
state_at config m [] mover run = λ line is. Still (nothing m)
state_at config m (e ∷ h) mover run =
    let before : At (restarted_since m h) (mover_at config m h) (flight m h) = state_at config m h mover (run.0, run.1.0) in
    elim (same_cases e.actor m) [
      | inl same ↦
          let ok : Allowed config h m e.reading e.event = subst (λ (a : Actor). Allowed config h a e.reading e.event) same.1 run.1.1 in
          let none : restarted_by m e ≡ [] = own_none m e.reading e.actor e.event config h (subst (λ (a : Actor). IsMachine config a → ⊥) (sym same.1) mover) run.1.1 in
          let step : flight m (e ∷ h) ≡ flight_after m (flight m h) m e.event = flight_step m e h ∙ ap (λ (a : Actor). flight_after m (flight m h) a e.event) same.1 in
          move (if is_start e.event then [] else restarted_since m h) (restarted_since m (e ∷ h)) (mover_after config m (mover_at config m h) e.reading e.event) (mover_at config m (e ∷ h)) (flight_after m (flight m h) m e.event) (flight m (e ∷ h))
          (sym (since_own m e h same.0 none)) (sym (mover_own config m e h same.0)) (sym step)
          (own_state config h m (mover_at config m h) (restarted_since m h) e.reading e.event mover refl ok before)
      | inr other ↦
          move (restarted_by m e ++ restarted_since m h) (restarted_since m (e ∷ h)) (mover_at config m h) (mover_at config m (e ∷ h)) (flight_after m (flight m h) e.actor e.event) (flight m (e ∷ h))
          (sym (since_other m e h other.0)) (sym (mover_other config m e h other.0)) (sym (flight_step m e h))
          (λ line is. other_state config h m e.actor line (restarted_since m h) e.reading e.event other.0 (run.0, run.1.0) run.1.1 is (before line is))
    ]

-- ## the entry that tells

tell_is : (t u : Told) → turn (Done t) ≡ program.Tell u → t ≡ u
tell_is t u is = cc

turn_comes : (Q : Told → Type 0) (p : Program Told) (t : Told) → ComesTo Q p → turn p ≡ program.Tell t → Q t
turn_comes Q (Done u) t comes is = subst Q (tell_is u t is) comes
turn_comes Q (Asks a q next) t comes is = cc
turn_comes Q (Reads given) t comes is = cc

with_comes : (Q : Told → Type 0) (p : Program Told) (reading : Option ℕ) (t : Told) → ComesTo Q p → turn_with p reading ≡ program.Tell t → Q t
with_comes Q (Done u) None t comes is = subst Q (tell_is u t is) comes
with_comes Q (Done u) (Some n) t comes is = cc
with_comes Q (Asks a q next) None t comes is = cc
with_comes Q (Asks a q next) (Some n) t comes is = cc
with_comes Q (Reads given) None t comes is = cc
with_comes Q (Reads given) (Some n) t comes is = turn_comes Q (given n) t (comes n) is

refused_is : (one two : ToldRefusal) → told.Refused one ≡ told.Refused two → one ≡ two
refused_is one two is = cc

tells : (rs : List Actor) (line : Command) (s : Mover) (f : Flight) (reading : Option ℕ) (w : ToldRefusal) (a : Actor) → State rs line s.rest f → f ≡ Quiet → CanTell s reading (told.Refused w) → Member a rs → (is_restart (Some line) ≡ true) × (w ≡ why.Memory)
tells rs line s f reading w a state quiet can here = elim state [
  | Still none ↦ let wrong : Member a [] = subst (λ (l : List Actor). Member a l) none here in absurd wrong
  | Coming b k restarts flies returns ↦ absurd (answered_busy f b (reply.Restarted k) flies quiet)
  | Heard restarts comes ↦ (
    restarts,
    elim can [
      | inl is ↦ absurd (with_comes NotRefused s.rest reading (told.Refused w) comes is w refl)
      | inr none ↦ refused_is w why.Memory none.0
    ],
  )
]

pub restarts_told : (config : Config) (h : History) (m : Actor) (reading : Option ℕ) (number : ℕ) (line : Command) (w : ToldRefusal) (a : Actor) → (IsMachine config m → ⊥) → Run config h → Allowed config h m reading (Tell number (told.Refused w)) → (mover_at config m h).line ≡ Some line →
    Member a (restarted_since m h) → (is_restart (Some line) ≡ true) × (w ≡ why.Memory)
restarts_told config h m reading number line w a mover run ok is here = tells (restarted_since m h) line (mover_at config m h) (flight m h) reading w a (state_at config m h mover run line is) ok.1 ok.3 here

-- Whether a mover has an event left, read off its line under way, its lines and its open transaction; and what each entry
-- does to these.
use Rattle.std.proofs.Common.{◌≡◌, ℕ, ◌+◌, Bool, true, false, ◌&&◌, if◌then◌else◌, nat_lt, List, [], ◌∷◌, Option, Some, None, refl, ◌∙◌, ap, subst, inl, inr, arith}
use Rattle.std.proofs.Math.Bool.{and-true}
use Rattle.std.proofs.lemmas.Bool.{ltb-true, ltb-false, lt-ltb, le-ltb}
use Rattle.std.proofs.lemmas.List.{append-nil}
use Rattle.txn_data.specs.declared.actor.Actor.{Actor}
use Rattle.txn_data.specs.declared.actor.Actor.TheVariants.{Session, Applier}
use Rattle.txn_data.specs.declared.command.Command.{Command}
use Rattle.txn_data.specs.declared.commands.Commands.{Commands}
use Rattle.txn_data.specs.declared.config.Config.{Config}
use Rattle.txn_data.specs.declared.append.Append.{Append}
use Rattle.txn_data.specs.declared.request.Request.{Request}
use Rattle.txn_data.specs.declared.request.Request.TheVariants as request
use Rattle.txn_data.specs.declared.reply.Reply.{Reply}
use Rattle.txn_data.specs.declared.reply.Reply.TheVariants as reply
use Rattle.txn_data.specs.declared.told.Told.{Told}
use Rattle.txn_data.specs.declared.event.Event.{Event}
use Rattle.txn_data.specs.declared.event.Event.TheVariants.{Start, Ask, Serve, Hear, Tell, Restarted}
use Rattle.txn_data.specs.declared.entry.Entry.{Entry}
use Rattle.txn_types.specs.History.{History, same_actor}
use Rattle.txn_types.specs.Program.{Program}
use Rattle.txn_types.specs.Session.{Opened}
use Rattle.txn_types.specs.Run.{Mover, mover_at, mover_after, Flight, Quiet, Asked, Answered, flight, flight_after, IsUnderWay, Allowed, Steps, CanHear}
use Rattle.txn_types.specs.Script.{lines, line_by, commands_of, asker, started, passes_counted}
use Rattle.law_machines.proofs.Basics.{test_cases, same_true}
use Rattle.mover_chain.specs.NextEvent.{goes_on, is_left, session_starts, pass_starts, given_by, has_event, all_done, number_of_next}
use Rattle.mover_chain.proofs.Lines.{lines_own, lines_other}

abbrev pub IsMoving : Flight → Type 0
IsMoving Quiet = ⊥
IsMoving f = Unit {0}

pub mover_own : (config : Config) (a : Actor) (e : Entry) (h : History) → same_actor e.actor a ≡ true → mover_at config a (e ∷ h) ≡ mover_after config a (mover_at config a h) e.reading e.event
unfolding mover_at
mover_own config a e h is = rw is refl

pub mover_other : (config : Config) (a : Actor) (e : Entry) (h : History) → same_actor e.actor a ≡ false → mover_at config a (e ∷ h) ≡ mover_at config a h
unfolding mover_at
mover_other config a e h is = rw is refl

pub steps_before : (config : Config) (e : Entry) (h : History) → Steps config (e ∷ h) → Steps config h × Allowed config h e.actor e.reading e.event
unfolding Steps
steps_before config e h steps = steps

first_quiet : (a : Actor) → IsMoving (flight a []) → ⊥
unfolding flight
first_quiet a moving = moving

pub flight_step : (a : Actor) (e : Entry) (h : History) → flight a (e ∷ h) ≡ flight_after a (flight a h) e.actor e.event
unfolding flight
flight_step a e h = refl

-- ## of a session

goes_left : (f : Flight) (p : Program Told) → is_left (goes_on f p) ≡ true
goes_left Quiet p = refl
goes_left (Asked to asked) p = refl
goes_left (Answered from r) p = refl

abbrev pub session_left : Option Command → List Command → List Command → Option Opened → Bool
session_left (Some line) begun planned opened = true
session_left None begun planned opened = is_left (session_starts true begun planned opened)

pub session_has : (config : Config) (plan : Commands) (i : ℕ) (h : History) →
    has_event (given_by plan) config (Session i) h ≡ session_left (mover_at config (Session i) h).line (lines (Session i) h) (commands_of i plan.sessions) (mover_at config (Session i) h).keeps.opened
session_has config plan i h = by_line (mover_at config (Session i) h).line
  where
    by_line : (line : Option Command) →
        (is_left (elim line [ Some l ↦ goes_on (flight (Session i) h) (mover_at config (Session i) h).rest | None ↦ session_starts true (lines (Session i) h) (commands_of i plan.sessions) (mover_at config (Session i) h).keeps.opened ]) && true)
        ≡ session_left line (lines (Session i) h) (commands_of i plan.sessions) (mover_at config (Session i) h).keeps.opened
    by_line (Some l) = and-true _ ∙ goes_left (flight (Session i) h) (mover_at config (Session i) h).rest
    by_line None = and-true _

-- ## of an applier

abbrev pub applier_left : ℕ → ℕ → Option Command → Bool
applier_left passes begun (Some line) = nat_lt begun (passes + 1)
applier_left passes begun None = nat_lt begun passes

and_false : (b : Bool) → (b && false) ≡ false
and_false true = refl
and_false false = refl

pass_has : (k passes begun : ℕ) (done : Bool) → (is_left (pass_starts k passes begun done) && nat_lt (begun + 1) (passes + 1)) ≡ nat_lt begun passes
pass_has k passes begun done = elim (test_cases (nat_lt begun passes)) [
  | inl few ↦ rw few (lt-ltb (begun + 1) (passes + 1) (let below = ltb-true begun passes few in omega arith))
  | inr enough ↦ rw enough (rw (le-ltb (begun + 1) (passes + 1) (let above = ltb-false begun passes enough in omega arith)) (and_false _))
]

pub applier_has : (config : Config) (plan : Commands) (k : ℕ) (h : History) → nat_lt k config.tablets ≡ true →
    has_event (given_by plan) config (Applier k) h ≡ applier_left config.passes (started (Applier k) h) (mover_at config (Applier k) h).line
applier_has config plan k h there = rw there (by_line (mover_at config (Applier k) h).line)
  where
    done : Bool
    done = all_done (given_by plan) config h

    by_line : (line : Option Command) →
        (is_left (elim line [ Some l ↦ goes_on (flight (Applier k) h) (mover_at config (Applier k) h).rest | None ↦ pass_starts k config.passes (started (Applier k) h) done ])
        && passes_counted config (Applier k) (number_of_next (started (Applier k) h) line))
        ≡ applier_left config.passes (started (Applier k) h) line
    by_line (Some l) = ap (λ (b : Bool). b && nat_lt (started (Applier k) h) (config.passes + 1)) (goes_left (flight (Applier k) h) (mover_at config (Applier k) h).rest)
    by_line None = pass_has k config.passes (started (Applier k) h) done

-- ## what an entry leaves

-- nothing changed of what a mover has left
pub record Same (config : Config) (a : Actor) (h g : History) : Type 0 where
  pub line : (mover_at config a g).line ≡ (mover_at config a h).line
  pub opened : (mover_at config a g).keeps.opened ≡ (mover_at config a h).keeps.opened
  pub begun : lines a g ≡ lines a h

same_mover : (config : Config) (a : Actor) (e : Entry) (h : History) → mover_at config a (e ∷ h) ≡ mover_at config a h → lines a (e ∷ h) ≡ lines a h → Same config a h (e ∷ h)
same_mover config a e h mover begun = record {
  line = ap (λ (m : Mover). m.line) mover;
  opened = ap (λ (m : Mover). m.keeps.opened) mover;
  begun = begun;
}

other_same : (config : Config) (a : Actor) (e : Entry) (h : History) → same_actor e.actor a ≡ false → Same config a h (e ∷ h)
other_same config a e h other = same_mover config a e h (mover_other config a e h other) (lines_other a e h other)

pub quiet_mover : (config : Config) (a : Actor) (e : Entry) (h : History) → ((m : Mover) → mover_after config a m e.reading e.event ≡ m) → mover_at config a (e ∷ h) ≡ mover_at config a h
quiet_mover config a e h still = elim (test_cases (same_actor e.actor a)) [
  | inl own ↦ mover_own config a e h own ∙ still (mover_at config a h)
  | inr other ↦ mover_other config a e h other
]

-- an entry in which a machine answers changes nothing of any mover's lines
pub quiet_same : (config : Config) (a : Actor) (e : Entry) (h : History) → ((m : Mover) → mover_after config a m e.reading e.event ≡ m) → line_by e.event ≡ [] → Same config a h (e ∷ h)
quiet_same config a e h still none = elim (test_cases (same_actor e.actor a)) [
  | inl own ↦ same_mover config a e h (mover_own config a e h own ∙ still (mover_at config a h)) (lines_own a e h own ∙ rw none (append-nil (lines a h)))
  | inr other ↦ other_same config a e h other
]

-- so does one that is the move of another
pub another_moves : (config : Config) (a : Actor) (e : Entry) (h : History) → same_actor (asker e) a ≡ false → Same config a h (e ∷ h)
another_moves config a e h other = by_event e.event refl
  where
    by_event : (event : Event) → e.event ≡ event → Same config a h (e ∷ h)
    by_event (Start number line) is = other_same config a e h (subst (λ (v : Event). same_actor (elim v [ Serve from asked r time append ↦ from | Restarted from kept ↦ from | _ ↦ e.actor ]) a ≡ false) is other)
    by_event (Ask to asked) is = other_same config a e h (subst (λ (v : Event). same_actor (elim v [ Serve from asked r time append ↦ from | Restarted from kept ↦ from | _ ↦ e.actor ]) a ≡ false) is other)
    by_event (Hear from r) is = other_same config a e h (subst (λ (v : Event). same_actor (elim v [ Serve from asked r time append ↦ from | Restarted from kept ↦ from | _ ↦ e.actor ]) a ≡ false) is other)
    by_event (Tell number t) is = other_same config a e h (subst (λ (v : Event). same_actor (elim v [ Serve from asked r time append ↦ from | Restarted from kept ↦ from | _ ↦ e.actor ]) a ≡ false) is other)
    by_event (Serve from asked r time append) is = quiet_same config a e h (λ m. rw is refl) (rw is refl)
    by_event (Restarted from kept) is = quiet_same config a e h (λ m. rw is refl) (rw is refl)

-- ## a message on its way is of a command under way

under_own : (config : Config) (a : Actor) (e : Entry) (h : History) → same_actor e.actor a ≡ true → IsUnderWay (mover_after config a (mover_at config a h) e.reading e.event).line → IsUnderWay (mover_at config a (e ∷ h)).line
under_own config a e h own under = rw (mover_own config a e h own) under

under_other : (config : Config) (a : Actor) (e : Entry) (h : History) → same_actor e.actor a ≡ false → IsUnderWay (mover_at config a h).line → IsUnderWay (mover_at config a (e ∷ h)).line
under_other config a e h other under = rw (mover_other config a e h other) under

pub own_allowed : (config : Config) (a : Actor) (e : Entry) (h : History) (event : Event) → same_actor e.actor a ≡ true → e.event ≡ event → Allowed config h e.actor e.reading e.event → Allowed config h a e.reading event
own_allowed config a e h event own is allowed = subst (λ (b : Actor). Allowed config h b e.reading event) (same_true e.actor a own) (subst (λ (v : Event). Allowed config h e.actor e.reading v) is allowed)

moving_quiet : (f : Flight) → f ≡ Quiet → IsMoving f → ⊥
moving_quiet f is moving = subst IsMoving is moving

asked_moves : (f : Flight) (a : Actor) (asked : Request) → f ≡ Asked a asked → IsMoving f
asked_moves f a asked is = rw is tt

pub heard_moves : (f : Flight) (from : Actor) (r : Reply) → CanHear f from r → IsMoving f
heard_moves Quiet from r can = can
heard_moves (Asked to asked) from r can = tt
heard_moves (Answered by answer) from r can = tt

-- what a machine answered for a mover was on its way to it
pub served_moves : (config : Config) (e : Entry) (h : History) (from : Actor) (asked : Request) (r : Reply) (time : Option ℕ) (append : Append) → e.event ≡ Serve from asked r time append →
    Allowed config h e.actor e.reading e.event → IsMoving (flight from h)
served_moves config e h from asked r time append is allowed =
    let serves : Allowed config h e.actor e.reading (Serve from asked r time append) = subst (λ (v : Event). Allowed config h e.actor e.reading v) is allowed in
    asked_moves (flight from h) e.actor asked serves.1

pub restarted_moves : (config : Config) (e : Entry) (h : History) (from : Actor) (kept : Bool) → e.event ≡ Restarted from kept → Allowed config h e.actor e.reading e.event → IsMoving (flight from h)
restarted_moves config e h from kept is allowed =
    let restarts : Allowed config h e.actor e.reading (Restarted from kept) = subst (λ (v : Event). Allowed config h e.actor e.reading v) is allowed in
    asked_moves (flight from h) e.actor request.Restart restarts.1

under_machine : (config : Config) (a : Actor) (e : Entry) (h : History) → ((m : Mover) → mover_after config a m e.reading e.event ≡ m) → IsUnderWay (mover_at config a h).line → IsUnderWay (mover_at config a (e ∷ h)).line
under_machine config a e h still under = rw ((quiet_mover config a e h still)) under

moving_step : (config : Config) (a : Actor) (e : Entry) (h : History) → Steps config (e ∷ h) → (IsMoving (flight a h) → IsUnderWay (mover_at config a h).line) → IsMoving (flight a (e ∷ h)) → IsUnderWay (mover_at config a (e ∷ h)).line
moving_step config a e h steps before moving = by_event e.event refl
  where
    allowed : Allowed config h e.actor e.reading e.event
    allowed = (steps_before config e h steps).1

    now : (event : Event) → e.event ≡ event → IsMoving (flight_after a (flight a h) e.actor event)
    now event is = subst (λ (v : Event). IsMoving (flight_after a (flight a h) e.actor v)) is (subst IsMoving (flight_step a e h) moving)

    by_event : (event : Event) → e.event ≡ event → IsUnderWay (mover_at config a (e ∷ h)).line
    by_event (Start number line) is = elim (test_cases (same_actor e.actor a)) [
      | inl own ↦ under_own config a e h own (rw is tt)
      | inr other ↦ under_other config a e h other (before (now (Start number line) is))
    ]
    by_event (Ask to asked) is = elim (test_cases (same_actor e.actor a)) [
      | inl own ↦ under_own config a e h own (rw is (own_allowed config a e h (Ask to asked) own is allowed).0)
      | inr other ↦ under_other config a e h other (before (subst (λ (b : Bool). IsMoving (if b then Asked to asked else flight a h)) other (now (Ask to asked) is)))
    ]
    by_event (Hear from r) is = elim (test_cases (same_actor e.actor a)) [
      | inl own ↦ absurd (subst (λ (b : Bool). IsMoving (if b then Quiet else flight a h)) own (now (Hear from r) is))
      | inr other ↦ under_other config a e h other (before (subst (λ (b : Bool). IsMoving (if b then Quiet else flight a h)) other (now (Hear from r) is)))
    ]
    by_event (Tell number t) is = elim (test_cases (same_actor e.actor a)) [
      | inl own ↦ absurd (moving_quiet (flight a h) (own_allowed config a e h (Tell number t) own is allowed).1 (now (Tell number t) is))
      | inr other ↦ under_other config a e h other (before (now (Tell number t) is))
    ]
    by_event (Serve from asked r time append) is = under_machine config a e h (λ m. rw is refl) (elim (test_cases (same_actor from a)) [
      | inl own ↦ before (subst (λ (b : Actor). IsMoving (flight b h)) (same_true from a own) (served_moves config e h from asked r time append is allowed))
      | inr other ↦ before (subst (λ (b : Bool). IsMoving (if b then Answered e.actor r else flight a h)) other (now (Serve from asked r time append) is))
    ])
    by_event (Restarted from kept) is = under_machine config a e h (λ m. rw is refl) (elim (test_cases (same_actor from a)) [
      | inl own ↦ before (subst (λ (b : Actor). IsMoving (flight b h)) (same_true from a own) (restarted_moves config e h from kept is allowed))
      | inr other ↦ before (subst (λ (b : Bool). IsMoving (if b then Answered e.actor (reply.Restarted kept) else flight a h)) other (now (Restarted from kept) is))
    ])

pub moving_under_way : (config : Config) (a : Actor) (h : History) → Steps config h → IsMoving (flight a h) → IsUnderWay (mover_at config a h).line
moving_under_way config a [] steps moving = absurd (first_quiet a moving)
moving_under_way config a (e ∷ h) steps moving = moving_step config a e h steps (moving_under_way config a h (steps_before config e h steps).0) moving

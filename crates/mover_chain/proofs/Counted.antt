-- Sessions and appliers, each with its own lines.
use Rattle.std.proofs.Common.{◌≡◌, ℕ, ◌+◌, ◌<◌, ◌≤◌, Bool, true, false, ◌&&◌, if◌then◌else◌, nat_eq, nat_lt, List, [], ◌∷◌, ◌++◌, Option, Some, None, length, refl, sym, ◌∙◌, ap, subst, inl, inr, ◌⊎◌, arith}
use Rattle.std.proofs.Math.Bool.{and-true}
use Rattle.std.proofs.lemmas.Bool.{and_parts, ltb-true, ltb-false, lt-ltb, le-ltb}
use Rattle.std.proofs.lemmas.List.{append-nil, length-append, same_from_push}
use Rattle.txn_data.specs.declared.actor.Actor.{Actor}
use Rattle.txn_data.specs.declared.actor.Actor.TheVariants.{Tablet, Status, Session, Applier}
use Rattle.txn_data.specs.declared.command.Command.{Command}
use Rattle.txn_data.specs.declared.command.Command.TheVariants as command
use Rattle.txn_data.specs.declared.session_plan.SessionPlan.{SessionPlan}
use Rattle.txn_data.specs.declared.commands.Commands.{Commands}
use Rattle.txn_data.specs.declared.config.Config.{Config}
use Rattle.txn_data.specs.declared.event.Event.{Event}
use Rattle.txn_data.specs.declared.event.Event.TheVariants.{Start, Ask, Serve, Hear, Tell, Restarted}
use Rattle.txn_data.specs.declared.entry.Entry.{Entry}
use Rattle.txn_types.specs.Lists.{Member}
use Rattle.txn_types.specs.History.{History, same_actor}
use Rattle.txn_types.specs.Session.{Opened, IsOpen}
use Rattle.txn_types.specs.Run.{Mover, idle, mover_at, flight, IsUnderWay, MayStart, Allowed, Steps, StartsLine}
use Rattle.txn_types.specs.Script.{ClosedAfter, Whole, lines, line_by, commands_of, asker, started, entries_beside, named, moves, has_left}
use Rattle.law_machines.proofs.Basics.{test_cases, eq_true, same_refl, same_true}
use Rattle.mover_chain.specs.NextEvent.{is_left, session_starts, given_by, has_event}
use Rattle.mover_chain.specs.Laws.{LeftIsCounted}
use Rattle.mover_chain.proofs.Fronts.{Front, front_of, front_before, line_is_left, none_is_left, ended_is_left}
use Rattle.mover_chain.proofs.Lines.{no_lines, lines_own, lines_other}
use Rattle.mover_chain.proofs.States.{IsMoving, session_left, session_has, applier_left, applier_has, Same, another_moves, moving_under_way, steps_before, own_allowed, heard_moves, served_moves, restarted_moves}
use Rattle.mover_chain.proofs.Left.{beside_step, beside_first, moves_step, moves_first, Goes, left_is}

-- who moves where an event is no answer of a machine
abbrev pub mover_of : Actor → Event → Actor
mover_of a event = elim event [ Serve from asked r time append ↦ from | Restarted from kept ↦ from | _ ↦ a ]

pub moves_as : (a : Actor) (e : Entry) (event : Event) → e.event ≡ event → same_actor (asker e) a ≡ true → same_actor (mover_of e.actor event) a ≡ true
moves_as a e event is mine = subst (λ (v : Event). same_actor (mover_of e.actor v) a ≡ true) is mine

-- ## sessions

abbrev session_state : Config → ℕ → List Command → History → Bool
session_state config i planned h = session_left (mover_at config (Session i) h).line (lines (Session i) h) planned (mover_at config (Session i) h).keeps.opened

under_left : (line : Option Command) (begun planned : List Command) (opened : Option Opened) → IsUnderWay line → session_left line begun planned opened ≡ true
under_left None begun planned opened under = absurd under
under_left (Some l) begun planned opened under = refl

same_left : (config : Config) (i : ℕ) (planned : List Command) (h g : History) → Same config (Session i) h g → session_state config i planned g ≡ session_state config i planned h
same_left config i planned h g same = rw same.line (rw same.begun (rw same.opened refl))

front_step : (a : Actor) (planned : List Command) (e : Entry) (h : History) → Front (lines a (e ∷ h)) planned → Front (lines a h) planned
front_step a planned e h front = elim (test_cases (same_actor e.actor a)) [
  | inl own ↦ by_event e.event (subst (λ (l : List Command). Front l planned) (lines_own a e h own) front)
  | inr other ↦ subst (λ (l : List Command). Front l planned) (lines_other a e h other) front
]
  where
    by_event : (event : Event) → Front (lines a h ++ line_by event) planned → Front (lines a h) planned
    by_event (Start number line) f = front_before (lines a h) line planned f
    by_event (Ask to asked) f = subst (λ (l : List Command). Front l planned) (append-nil (lines a h)) f
    by_event (Serve from asked r time append) f = subst (λ (l : List Command). Front l planned) (append-nil (lines a h)) f
    by_event (Hear from r) f = subst (λ (l : List Command). Front l planned) (append-nil (lines a h)) f
    by_event (Tell number t) f = subst (λ (l : List Command). Front l planned) (append-nil (lines a h)) f
    by_event (Restarted from kept) f = subst (λ (l : List Command). Front l planned) (append-nil (lines a h)) f

end_open : (config : Config) (opened : Option Opened) (line : Command) → StartsLine config opened line → line ≡ command.End → IsOpen opened
end_open config opened line starts is = subst (λ (l : Command). StartsLine config opened l) is starts

-- a session makes no entry where it has no event left
session_needs : (config : Config) (i : ℕ) (planned : List Command) (e : Entry) (h : History) → Steps config (e ∷ h) → Front (lines (Session i) (e ∷ h)) planned → same_actor (asker e) (Session i) ≡ true →
    session_state config i planned h ≡ true
session_needs config i planned e h steps front mine = by_event e.event refl
  where
    allowed : Allowed config h e.actor e.reading e.event
    allowed = (steps_before config e h steps).1

    under : IsUnderWay (mover_at config (Session i) h).line → session_state config i planned h ≡ true
    under u = under_left (mover_at config (Session i) h).line (lines (Session i) h) planned (mover_at config (Session i) h).keeps.opened u

    way : (from : Actor) → same_actor from (Session i) ≡ true → IsMoving (flight from h) → session_state config i planned h ≡ true
    way from own moving = under (moving_under_way config (Session i) h (steps_before config e h steps).0 (subst (λ (a : Actor). IsMoving (flight a h)) (same_true from (Session i) own) moving))

    by_event : (event : Event) → e.event ≡ event → session_state config i planned h ≡ true
    by_event (Start number line) is =
        let own = moves_as (Session i) e (Start number line) is mine in
        let may = own_allowed config (Session i) e h (Start number line) own is allowed in
        rw may.0 (line_is_left (lines (Session i) h) planned line (mover_at config (Session i) h).keeps.opened
        (subst (λ (l : List Command). Front l planned) (lines_own (Session i) e h own ∙ rw is refl) front)
        (end_open config (mover_at config (Session i) h).keeps.opened line may.3.2))
    by_event (Ask to asked) is = under (own_allowed config (Session i) e h (Ask to asked) (moves_as (Session i) e (Ask to asked) is mine) is allowed).0
    by_event (Hear from r) is = way (Session i) (same_refl (Session i)) (heard_moves (flight (Session i) h) from r (own_allowed config (Session i) e h (Hear from r) (moves_as (Session i) e (Hear from r) is mine) is allowed).1)
    by_event (Tell number t) is = under (own_allowed config (Session i) e h (Tell number t) (moves_as (Session i) e (Tell number t) is mine) is allowed).0
    by_event (Serve from asked r time append) is = way from (moves_as (Session i) e (Serve from asked r time append) is mine) (served_moves config e h from asked r time append is allowed)
    by_event (Restarted from kept) is = way from (moves_as (Session i) e (Restarted from kept) is mine) (restarted_moves config e h from kept is allowed)

session_goes : (config : Config) (i : ℕ) (planned : List Command) (h : History) → Steps config h → Front (lines (Session i) h) planned → Goes config (Session i) (session_state config i planned) h
unfolding Goes
session_goes config i planned [] steps front = tt
session_goes config i planned (e ∷ h) steps front = (
  session_goes config i planned h (steps_before config e h steps).0 (front_step (Session i) planned e h front),
  λ passes. same_left config i planned h (e ∷ h) (another_moves config (Session i) e h (sym (and-true (same_actor (asker e) (Session i))) ∙ passes)),
  λ comes. session_needs config i planned e h steps front (sym (and-true (same_actor (asker e) (Session i))) ∙ comes),
)

pub session_named : (config : Config) (i : ℕ) (h : History) → named (Session i) (moves h) ≡ entries_beside config (Session i) h
session_named config i [] = moves_first (Session i) ∙ sym (beside_first config (Session i))
session_named config i (e ∷ h) =
    moves_step (Session i) e h ∙ ap (λ n. n + (if same_actor (asker e) (Session i) then 1 else 0)) (session_named config i h)
    ∙ ap (λ (b : Bool). entries_beside config (Session i) h + (if b then 1 else 0)) (sym (and-true (same_actor (asker e) (Session i))))
    ∙ sym (beside_step config (Session i) e h)

closed_left : (config : Config) (begun planned : List Command) (opened : Option Opened) → ClosedAfter begun planned opened → is_left (session_starts true begun planned opened) ≡ false
closed_left config begun planned None (inl all) = rw all (none_is_left planned None refl)
closed_left config begun planned None (inr ended) = rw ended (ended_is_left planned None)
closed_left config begun planned (Some x) ended = rw ended (ended_is_left planned (Some x))

of_session : (config : Config) (plan : Commands) (later g : History) (p : SessionPlan) → Steps config (later ++ g) → Whole config plan (later ++ g) → Member p plan.sessions →
    has_event (given_by plan) config (Session p.session) g ≡ has_left config (later ++ g) (moves g) (Session p.session)
of_session config plan later g p steps whole member =
    let i = p.session in
    let planned = commands_of i plan.sessions in
    let told = whole.sessions p member in
    session_has config plan i g
    ∙ left_is config (Session i) (session_state config i planned) later g
    (session_goes config i planned (later ++ g) steps (front_of (lines (Session i) (later ++ g)) planned (whole.follows i)))
    (rw told.0 (closed_left config (lines (Session i) (later ++ g)) planned (mover_at config (Session i) (later ++ g)).keeps.opened told.1))
    (λ some. let same = session_named config i g in omega (arith, same))

-- ## an actor that starts nothing makes no moves

abbrev pub IsIdle : Config → Actor → History → Type 0
IsIdle config a h = (mover_at config a h).line ≡ None

-- before its first line a mover is idle, and no transaction is open
first_at : (config : Config) (a : Actor) → mover_at config a [] ≡ idle
unfolding mover_at
first_at config a = refl

under_none : (line : Option Command) → line ≡ None → IsUnderWay line → ⊥
under_none line is under = subst IsUnderWay is under

-- an entry that is no start is not the move of an idle mover
pub idle_makes_none : (config : Config) (a : Actor) (e : Entry) (h : History) → Steps config (e ∷ h) → IsIdle config a h → same_actor (asker e) a ≡ true →
    (number : ℕ) × (line : Command) × (e.event ≡ Start number line) × (same_actor e.actor a ≡ true)
idle_makes_none config a e h steps idle_now mine = by_event e.event refl
  where
    allowed : Allowed config h e.actor e.reading e.event
    allowed = (steps_before config e h steps).1

    never : IsUnderWay (mover_at config a h).line → ⊥
    never under = under_none (mover_at config a h).line idle_now under

    way : (from : Actor) → same_actor from a ≡ true → IsMoving (flight from h) → ⊥
    way from own moving = never (moving_under_way config a h (steps_before config e h steps).0 (subst (λ (b : Actor). IsMoving (flight b h)) (same_true from a own) moving))

    by_event : (event : Event) → e.event ≡ event → (number : ℕ) × (line : Command) × (e.event ≡ Start number line) × (same_actor e.actor a ≡ true)
    by_event (Start number line) is = (number, line, is, moves_as a e (Start number line) is mine)
    by_event (Ask to asked) is = absurd (never (own_allowed config a e h (Ask to asked) (moves_as a e (Ask to asked) is mine) is allowed).0)
    by_event (Hear from r) is = absurd (way a (same_refl a) (heard_moves (flight a h) from r (own_allowed config a e h (Hear from r) (moves_as a e (Hear from r) is mine) is allowed).1))
    by_event (Tell number t) is = absurd (never (own_allowed config a e h (Tell number t) (moves_as a e (Tell number t) is mine) is allowed).0)
    by_event (Serve from asked r time append) is = absurd (way from (moves_as a e (Serve from asked r time append) is mine) (served_moves config e h from asked r time append is allowed))
    by_event (Restarted from kept) is = absurd (way from (moves_as a e (Restarted from kept) is mine) (restarted_moves config e h from kept is allowed))

-- such a start makes its list of lines longer
start_adds : (config : Config) (a : Actor) (e : Entry) (h : History) (number : ℕ) (line : Command) → e.event ≡ Start number line → same_actor e.actor a ≡ true → lines a (e ∷ h) ≡ lines a h ++ line ∷ []
start_adds config a e h number line is own = lines_own a e h own ∙ rw is refl

push_not_nil : (xs : List Command) (x : Command) → xs ++ x ∷ [] ≡ [] → ⊥
push_not_nil [] x is = cc
push_not_nil (y ∷ ys) x is = cc

-- a mover that started no line is idle with no transaction open, and made no move
pub record Still (config : Config) (a : Actor) (h : History) : Type 0 where
  pub line : (mover_at config a h).line ≡ None
  pub opened : (mover_at config a h).keeps.opened ≡ None
  pub moves : entries_beside config a h ≡ 0

still_first : (config : Config) (a : Actor) → Still config a []
still_first config a = record {
  line = ap (λ (m : Mover). m.line) (first_at config a);
  opened = ap (λ (m : Mover). m.keeps.opened) (first_at config a);
  moves = beside_first config a;
}

-- a list of lines that an entry leaves empty was empty before
empty_before : (a : Actor) (e : Entry) (h : History) → lines a (e ∷ h) ≡ [] → lines a h ≡ []
empty_before a e h none = elim (test_cases (same_actor e.actor a)) [
  | inl own ↦ append_nil_left (lines a h) (line_by e.event) (sym (lines_own a e h own) ∙ none)
  | inr other ↦ sym (lines_other a e h other) ∙ none
]
  where
    append_nil_left : (xs ys : List Command) → xs ++ ys ≡ [] → xs ≡ []
    append_nil_left [] ys is = refl
    append_nil_left (x ∷ xs) ys is = absurd (let not : x ∷ (xs ++ ys) ≡ [] = is in cc)

no_lines_still : (config : Config) (a : Actor) (h : History) → Steps config h → lines a h ≡ [] → Still config a h
no_lines_still config a [] steps none = still_first config a
no_lines_still config a (e ∷ h) steps none =
    let before = no_lines_still config a h (steps_before config e h steps).0 (empty_before a e h none) in
    elim (test_cases (same_actor (asker e) a)) [
      | inl mine ↦
          let start = idle_makes_none config a e h steps before.line mine in
          absurd (push_not_nil (lines a h) start.1 (sym (start_adds config a e h start.0 start.1 start.2 start.3) ∙ none))
      | inr other ↦
          let same = another_moves config a e h other in
          record { line = same.line ∙ before.line; opened = same.opened ∙ before.opened; moves = beside_step config a e h ∙ rw other (rw before.moves (omega arith)) }
    ]

none_begun : (config : Config) (a : Actor) (e : Entry) (h : History) → ((m : Mover) (line : Command) → MayStart config a m line → ⊥) → same_actor e.actor a ≡ true → (event : Event) → e.event ≡ event →
    Allowed config h e.actor e.reading e.event → line_by event ≡ []
none_begun config a e h never own (Start number line) is allowed = absurd (never (mover_at config a h) line (own_allowed config a e h (Start number line) own is allowed).3)
none_begun config a e h never own (Ask to asked) is allowed = refl
none_begun config a e h never own (Hear from r) is allowed = refl
none_begun config a e h never own (Tell number t) is allowed = refl
none_begun config a e h never own (Serve from asked r time append) is allowed = refl
none_begun config a e h never own (Restarted from kept) is allowed = refl

one_more : (begun passes : ℕ) → nat_lt begun passes ≡ nat_lt (begun + 1) (passes + 1)
one_more begun passes = elim (test_cases (nat_lt begun passes)) [
  | inl few ↦ few ∙ sym (lt-ltb (begun + 1) (passes + 1) (let below = ltb-true begun passes few in omega (arith, below)))
  | inr many ↦ many ∙ sym (le-ltb (begun + 1) (passes + 1) (let above = ltb-false begun passes many in omega (arith, above)))
]

-- an actor that may start no line starts none
never_starts : (config : Config) (a : Actor) (h : History) → ((m : Mover) (line : Command) → MayStart config a m line → ⊥) → Steps config h → lines a h ≡ []
never_starts config a [] never steps = no_lines a
never_starts config a (e ∷ h) never steps =
    let before = never_starts config a h never (steps_before config e h steps).0 in
    elim (test_cases (same_actor e.actor a)) [
      | inr other ↦ lines_other a e h other ∙ before
      | inl own ↦ lines_own a e h own ∙ rw before (none_begun config a e h never own e.event refl (steps_before config e h steps).1)
    ]

-- a session that has no lines in the plan starts no End either
end_step : (config : Config) (i : ℕ) (e : Entry) (h : History) → Steps config (e ∷ h) → lines (Session i) (e ∷ h) ≡ command.End ∷ [] → (lines (Session i) h ≡ command.End ∷ [] → ⊥) → ⊥
end_step config i e h steps is before = elim (test_cases (same_actor e.actor (Session i))) [
  | inr other ↦ before (sym (lines_other (Session i) e h other) ∙ is)
  | inl own ↦ by_event own e.event refl
]
  where
    ends : (event : Event) → same_actor e.actor (Session i) ≡ true → e.event ≡ event → lines (Session i) h ++ line_by event ≡ command.End ∷ []
    ends event own is_event = subst (λ (v : Event). lines (Session i) h ++ line_by v ≡ command.End ∷ []) is_event (sym (lines_own (Session i) e h own) ∙ is)

    by_event : same_actor e.actor (Session i) ≡ true → (event : Event) → e.event ≡ event → ⊥
    by_event own (Start number line) is_event =
        let same = same_from_push (lines (Session i) h) [] line command.End (ends (Start number line) own is_event) in
        let may = own_allowed config (Session i) e h (Start number line) own is_event (steps_before config e h steps).1 in
        subst IsOpen (no_lines_still config (Session i) h (steps_before config e h steps).0 same.0).opened (end_open config (mover_at config (Session i) h).keeps.opened line may.3.2 same.1)
    by_event own (Ask to asked) is_event = before (sym (append-nil (lines (Session i) h)) ∙ ends (Ask to asked) own is_event)
    by_event own (Hear from r) is_event = before (sym (append-nil (lines (Session i) h)) ∙ ends (Hear from r) own is_event)
    by_event own (Tell number t) is_event = before (sym (append-nil (lines (Session i) h)) ∙ ends (Tell number t) own is_event)
    by_event own (Serve from asked r time append) is_event = before (sym (append-nil (lines (Session i) h)) ∙ ends (Serve from asked r time append) own is_event)
    by_event own (Restarted from kept) is_event = before (sym (append-nil (lines (Session i) h)) ∙ ends (Restarted from kept) own is_event)

no_end : (config : Config) (i : ℕ) (h : History) → Steps config h → lines (Session i) h ≡ command.End ∷ [] → ⊥
no_end config i [] steps is = let not : [] ≡ command.End ∷ [] = sym (no_lines (Session i)) ∙ is in cc
no_end config i (e ∷ h) steps is = end_step config i e h steps is (λ before. no_end config i h (steps_before config e h steps).0 before)

-- ## appliers

abbrev applier_state : Config → ℕ → History → Bool
applier_state config k h = applier_left config.passes (started (Applier k) h) (mover_at config (Applier k) h).line

same_applier : (config : Config) (k : ℕ) (h g : History) → Same config (Applier k) h g → applier_state config k g ≡ applier_state config k h
same_applier config k h g same = rw same.line (rw same.begun refl)

-- once more passes were begun than are made beside the sessions, none of those is left
late_none : (passes begun : ℕ) (line : Option Command) → passes < begun → applier_left passes begun line ≡ false
late_none passes begun (Some l) late = le-ltb begun (passes + 1) (omega (arith, late))
late_none passes begun None late = le-ltb begun passes (omega (arith, late))

pub begun_by : (a : Actor) (e : Entry) (h : History) (event : Event) → e.event ≡ event → same_actor e.actor a ≡ true → started a (e ∷ h) ≡ started a h + length (line_by event)
begun_by a e h event is own = ap length (lines_own a e h own) ∙ rw is (length-append (lines a h) (line_by event))

pub begun_still : (a : Actor) (e : Entry) (h : History) (event : Event) → e.event ≡ event → line_by event ≡ [] → started a (e ∷ h) ≡ started a h
begun_still a e h event is none = elim (test_cases (same_actor e.actor a)) [
  | inl own ↦ begun_by a e h event is own ∙ rw none (omega arith)
  | inr other ↦ ap length (lines_other a e h other)
]

-- what an applier had left before an entry of its own, where the entry is of pass `started (Applier k) (e ∷ h)`
applier_before : (config : Config) (k : ℕ) (e : Entry) (h : History) → Steps config (e ∷ h) → same_actor (asker e) (Applier k) ≡ true →
    applier_state config k h ≡ nat_lt (started (Applier k) (e ∷ h)) (config.passes + 1)
applier_before config k e h steps mine = by_event e.event refl
  where
    allowed : Allowed config h e.actor e.reading e.event
    allowed = (steps_before config e h steps).1

    by_line : (line : Option Command) → IsUnderWay line → applier_left config.passes (started (Applier k) h) line ≡ nat_lt (started (Applier k) h) (config.passes + 1)
    by_line None under = absurd under
    by_line (Some l) under = refl

    under : (event : Event) → e.event ≡ event → line_by event ≡ [] → IsUnderWay (mover_at config (Applier k) h).line → applier_state config k h ≡ nat_lt (started (Applier k) (e ∷ h)) (config.passes + 1)
    under event is none u = by_line (mover_at config (Applier k) h).line u ∙ ap (λ n. nat_lt n (config.passes + 1)) (sym (begun_still (Applier k) e h event is none))

    way : (from : Actor) → same_actor from (Applier k) ≡ true → IsMoving (flight from h) → IsUnderWay (mover_at config (Applier k) h).line
    way from own moving = moving_under_way config (Applier k) h (steps_before config e h steps).0 (subst (λ (a : Actor). IsMoving (flight a h)) (same_true from (Applier k) own) moving)

    by_event : (event : Event) → e.event ≡ event → applier_state config k h ≡ nat_lt (started (Applier k) (e ∷ h)) (config.passes + 1)
    by_event (Start number line) is =
        let own = moves_as (Applier k) e (Start number line) is mine in
        let may = own_allowed config (Applier k) e h (Start number line) own is allowed in
        rw may.0 (rw (begun_by (Applier k) e h (Start number line) is own) (one_more (started (Applier k) h) config.passes))
    by_event (Ask to asked) is = under (Ask to asked) is refl (own_allowed config (Applier k) e h (Ask to asked) (moves_as (Applier k) e (Ask to asked) is mine) is allowed).0
    by_event (Hear from r) is = under (Hear from r) is refl (way (Applier k) (same_refl (Applier k)) (heard_moves (flight (Applier k) h) from r (own_allowed config (Applier k) e h (Hear from r) (moves_as (Applier k) e (Hear from r) is mine) is allowed).1))
    by_event (Tell number t) is = under (Tell number t) is refl (own_allowed config (Applier k) e h (Tell number t) (moves_as (Applier k) e (Tell number t) is mine) is allowed).0
    by_event (Serve from asked r time append) is = under (Serve from asked r time append) is refl (way from (moves_as (Applier k) e (Serve from asked r time append) is mine) (served_moves config e h from asked r time append is allowed))
    by_event (Restarted from kept) is = under (Restarted from kept) is refl (way from (moves_as (Applier k) e (Restarted from kept) is mine) (restarted_moves config e h from kept is allowed))

applier_goes : (config : Config) (k : ℕ) (h : History) → Steps config h → Goes config (Applier k) (applier_state config k) h
unfolding Goes
applier_goes config k [] steps = tt
applier_goes config k (e ∷ h) steps = (
  applier_goes config k h (steps_before config e h steps).0,
  λ passes. elim (test_cases (same_actor (asker e) (Applier k))) [
    | inr other ↦ same_applier config k h (e ∷ h) (another_moves config (Applier k) e h other)
    | inl mine ↦
        let late : nat_lt (started (Applier k) (e ∷ h)) (config.passes + 1) ≡ false = subst (λ (b : Bool). (b && nat_lt (started (Applier k) (e ∷ h)) (config.passes + 1)) ≡ false) mine passes in
        let above = ltb-false (started (Applier k) (e ∷ h)) (config.passes + 1) late in
        late_none config.passes (started (Applier k) (e ∷ h)) (mover_at config (Applier k) (e ∷ h)).line (omega (arith, above)) ∙ sym (applier_before config k e h steps mine ∙ late)
  ],
  λ comes. let parts = and_parts (same_actor (asker e) (Applier k)) (nat_lt (started (Applier k) (e ∷ h)) (config.passes + 1)) comes in applier_before config k e h steps parts.0 ∙ parts.1,
)

-- as long as no more passes were begun than are made beside the sessions, each move is counted
pub begun_grows : (a : Actor) (e : Entry) (h : History) → started a h ≤ started a (e ∷ h)
begun_grows a e h = elim (test_cases (same_actor e.actor a)) [
  | inl own ↦ rw (begun_by a e h e.event refl own) (omega arith)
  | inr other ↦ rw (ap length (lines_other a e h other)) (omega arith)
]

applier_named : (config : Config) (k : ℕ) (h : History) → started (Applier k) h ≤ config.passes → named (Applier k) (moves h) ≡ entries_beside config (Applier k) h
applier_named config k [] few = moves_first (Applier k) ∙ sym (beside_first config (Applier k))
applier_named config k (e ∷ h) few =
    let before : started (Applier k) h ≤ config.passes = let grows = begun_grows (Applier k) e h in omega (arith, grows, few) in
    let fits : nat_lt (started (Applier k) (e ∷ h)) (config.passes + 1) ≡ true = lt-ltb (started (Applier k) (e ∷ h)) (config.passes + 1) (omega (arith, few)) in
    moves_step (Applier k) e h ∙ ap (λ n. n + (if same_actor (asker e) (Applier k) then 1 else 0)) (applier_named config k h before)
    ∙ ap (λ (b : Bool). entries_beside config (Applier k) h + (if b then 1 else 0)) (sym (ap (λ (b : Bool). same_actor (asker e) (Applier k) && b) fits ∙ and-true (same_actor (asker e) (Applier k))))
    ∙ sym (beside_step config (Applier k) e h)

few_begun : (passes begun : ℕ) (line : Option Command) → applier_left passes begun line ≡ true → begun ≤ passes
few_begun passes begun (Some l) some = let below = ltb-true begun (passes + 1) some in omega (arith, below)
few_begun passes begun None some = let below = ltb-true begun passes some in omega (arith, below)

of_applier : (config : Config) (plan : Commands) (later g : History) (k : ℕ) → Steps config (later ++ g) → Whole config plan (later ++ g) → nat_lt k config.tablets ≡ true →
    has_event (given_by plan) config (Applier k) g ≡ has_left config (later ++ g) (moves g) (Applier k)
of_applier config plan later g k steps whole there =
    let passed = whole.appliers k there in
    applier_has config plan k g there
    ∙ left_is config (Applier k) (applier_state config k) later g (applier_goes config k (later ++ g) steps)
    (late_none config.passes (started (Applier k) (later ++ g)) (mover_at config (Applier k) (later ++ g)).line (let all = passed.passes in omega (arith, all)))
    (λ some. let same = applier_named config k g (few_begun config.passes (started (Applier k) g) (mover_at config (Applier k) g).line some) in omega (arith, same))

-- ## all actors

none_left : (config : Config) (a : Actor) (h g : History) → entries_beside config a h ≡ 0 → has_left config h (moves g) a ≡ false
none_left config a h g none = le-ltb 0 _ (omega (arith, none))

still_left : (config : Config) (plan : Commands) (later g : History) (i : ℕ) → Steps config (later ++ g) → lines (Session i) (later ++ g) ≡ [] → commands_of i plan.sessions ≡ [] →
    has_event (given_by plan) config (Session i) g ≡ has_left config (later ++ g) (moves g) (Session i)
still_left config plan later g i steps none empty =
    let still = no_lines_still config (Session i) (later ++ g) steps none in
    let front : Front (lines (Session i) (later ++ g)) (commands_of i plan.sessions) = inl ([], append-nil (lines (Session i) (later ++ g)) ∙ none ∙ sym empty) in
    session_has config plan i g
    ∙ left_is config (Session i) (session_state config i (commands_of i plan.sessions)) later g
    (session_goes config i (commands_of i plan.sessions) (later ++ g) steps front)
    (rw still.line (rw still.opened (rw none (rw empty refl))))
    (λ some. let same = session_named config i g in omega (arith, same))

-- a session with lines is one of the plan
pub planned_session : (i : ℕ) (sessions : List SessionPlan) (line : Command) (more : List Command) → commands_of i sessions ≡ line ∷ more → (p : SessionPlan) × Member p sessions × (p.session ≡ i)
unfolding commands_of
planned_session i [] line more is = absurd (let not : [] ≡ line ∷ more = is in cc)
planned_session i (p ∷ ps) line more is = elim (test_cases (nat_eq p.session i)) [
  | inl same ↦ (p, inl refl, eq_true p.session i same)
  | inr other ↦ let found = planned_session i ps line more (subst (λ (b : Bool). (if b then p.commands else commands_of i ps) ≡ line ∷ more) other is) in (found.0, inr found.1, found.2)
]

of_any_session : (config : Config) (plan : Commands) (later g : History) (i : ℕ) → Steps config (later ++ g) → Whole config plan (later ++ g) →
    has_event (given_by plan) config (Session i) g ≡ has_left config (later ++ g) (moves g) (Session i)
of_any_session config plan later g i steps whole = by_lines (commands_of i plan.sessions) refl
  where
    empty : (begun : List Command) → Front begun [] → (begun ≡ []) ⊎ (begun ≡ command.End ∷ [])
    empty [] front = inl refl
    empty (x ∷ xs) (inl front) = absurd (let not : x ∷ (xs ++ front.0) ≡ [] = front.1 in cc)
    empty (x ∷ xs) (inr all) = inr all

    by_lines : (planned : List Command) → commands_of i plan.sessions ≡ planned → has_event (given_by plan) config (Session i) g ≡ has_left config (later ++ g) (moves g) (Session i)
    by_lines [] is = elim (empty (lines (Session i) (later ++ g)) (subst (λ (l : List Command). Front (lines (Session i) (later ++ g)) l) is (front_of (lines (Session i) (later ++ g)) (commands_of i plan.sessions) (whole.follows i)))) [
      | inl none ↦ still_left config plan later g i steps none is
      | inr end ↦ absurd (no_end config i (later ++ g) steps end)
    ]
    by_lines (line ∷ more) is =
        let found = planned_session i plan.sessions line more is in
        subst (λ n. has_event (given_by plan) config (Session n) g ≡ has_left config (later ++ g) (moves g) (Session n)) found.2 (of_session config plan later g found.0 steps whole found.1)

never_left : (config : Config) (plan : Commands) (later g : History) (a : Actor) → Steps config (later ++ g) → ((m : Mover) (line : Command) → MayStart config a m line → ⊥) →
    has_event (given_by plan) config a g ≡ false → has_event (given_by plan) config a g ≡ has_left config (later ++ g) (moves g) a
never_left config plan later g a steps never none =
    none ∙ sym (none_left config a (later ++ g) g (no_lines_still config a (later ++ g) steps (never_starts config a (later ++ g) never steps)).moves)

of_actor : (config : Config) (plan : Commands) (later g : History) (a : Actor) → Steps config (later ++ g) → Whole config plan (later ++ g) →
    has_event (given_by plan) config a g ≡ has_left config (later ++ g) (moves g) a
of_actor config plan later g (Session i) steps whole = of_any_session config plan later g i steps whole
of_actor config plan later g (Applier k) steps whole = elim (test_cases (nat_lt k config.tablets)) [
  | inl there ↦ of_applier config plan later g k steps whole there
  | inr absent ↦ never_left config plan later g (Applier k) steps (λ m line may. let below = ltb-false k config.tablets absent in let above = may.0 in omega (arith, below, above)) (rw absent refl)
]
of_actor config plan later g (Tablet k) steps whole = never_left config plan later g (Tablet k) steps (λ m line may. may) refl
of_actor config plan later g (Status j) steps whole = never_left config plan later g (Status j) steps (λ m line may. may) refl

pub left_is_counted : LeftIsCounted
left_is_counted config plan g h a run whole stood =
    subst (λ (f : History). has_event (given_by plan) config a g ≡ has_left config f (moves g) a) (sym stood.1)
    (of_actor config plan stood.0 g a (subst (Steps config) stood.1 run.1) (subst (Whole config plan) stood.1 whole))

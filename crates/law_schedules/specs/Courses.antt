-- How a history was made, move by move, where each move is chosen by what is known at its time: the lines given, and the
-- entries so far.
use Rattle.std.specs.Prelude.{◌≡◌, ℕ, zero, suc, ◌≤◌, Bool, true, false, ◌&&◌, List, [], ◌∷◌, filter, ◌⊎◌}
use Rattle.docdb_base.specs.Generator.{next_state, draw_of}
use Rattle.txn_data.specs.declared.actor.Actor.{Actor}
use Rattle.txn_data.specs.declared.actor.Actor.TheVariants.{Session, Applier}
use Rattle.txn_data.specs.declared.session_plan.SessionPlan.{SessionPlan}
use Rattle.txn_data.specs.declared.go_line.GoLine.{GoLine}
use Rattle.txn_data.specs.declared.commands.Commands.{Commands}
use Rattle.txn_data.specs.declared.config.Config.{Config}
use Rattle.txn_data.specs.declared.schedule.Schedule.{Schedule}
use Rattle.txn_data.specs.declared.schedule.Schedule.TheVariants.{Serial, Go, Drawn}
use Rattle.txn_data.specs.declared.event.Event.{Event}
use Rattle.txn_data.specs.declared.event.Event.TheVariants.{Tell}
use Rattle.txn_data.specs.declared.entry.Entry.{Entry}
use Rattle.txn_types.specs.History.{History, same_actor}
use Rattle.txn_types.specs.Script.{asker, actor_of, drawn_of, from_up, movers}
use Rattle.mover_chain.specs.NextEvent.{Given, given_by, has_event}

-- from history `g` to `h` a mover was moved so often: each entry between is its move, and before each it had an event left
unfoldable pub Moved : Given → Config → Actor → ℕ → History → History → Type 0
Moved given config a zero g h = h ≡ g
Moved given config a (suc n) g [] = ⊥
Moved given config a (suc n) g (e ∷ h) = Moved given config a n g h × (asker e ≡ a) × (has_event given config a h ≡ true)

-- it was moved until it had no event left
abbrev pub MovedToEnd : Given → Config → Actor → History → History → Type 0
MovedToEnd given config a g h = (n : ℕ) × Moved given config a n g h × (has_event given config a h ≡ false)

-- it was moved so often, or fewer times if it had no event left any more
abbrev pub MovedUpTo : Given → Config → Actor → ℕ → History → History → Type 0
MovedUpTo given config a most g h =
    (n : ℕ) × Moved given config a n g h × ((n ≡ most) ⊎ ((n ≤ most) × (has_event given config a h ≡ false)))

abbrev pub is_tell : Event → Bool
is_tell (Tell number t) = true
is_tell event = false

-- whether an entry tells what this mover's command came to
abbrev pub tells : Actor → Entry → Bool
tells a e = same_actor e.actor a && is_tell e.event

-- it was moved so often, and was told nothing by that
unfoldable pub MovedUntold : Actor → ℕ → History → History → Type 0
MovedUntold a zero g h = h ≡ g
MovedUntold a (suc n) g [] = ⊥
MovedUntold a (suc n) g (e ∷ h) = MovedUntold a n g h × (asker e ≡ a) × (tells a e ≡ false)

-- it was moved until it was told what its command came to
abbrev pub MovedUntilTold : Actor → History → History → Type 0
MovedUntilTold a g [] = ⊥
MovedUntilTold a g (e ∷ h) = (n : ℕ) × MovedUntold a n g h × (asker e ≡ a) × (tells a e ≡ true)

-- Movers of a list were moved one after another, each in this way.
unfoldable pub OneByOne : {X : Type 0} → (X → History → History → Type 0) → List X → History → History → Type 0
OneByOne moved [] g h = h ≡ g
OneByOne moved (x ∷ xs) g h = (k : History) × moved x g k × OneByOne moved xs k h

-- each applier made one pass more, by tablet
abbrev pub PassesMade : Config → History → History → Type 0
PassesMade config g h = OneByOne (λ (k : ℕ). MovedUntilTold (Applier k)) (from_up 0 config.tablets) g h

-- commands whole in line order, then each session to its end, then rounds of passes
abbrev pub SerialCourse : Config → Commands → History → Type 0
SerialCourse config plan h =
    let given = given_by plan in
    (told : History) × (ended : History)
    × OneByOne (λ (i : ℕ). MovedUntilTold (Session i)) plan.order [] told
    × OneByOne (λ (p : SessionPlan). MovedToEnd given config (Session p.session)) plan.sessions told ended
    × OneByOne (λ (n : ℕ). PassesMade config) (from_up 1 config.passes) ended h

-- as the script says, then each mover to its end: sessions by number, then appliers
abbrev pub GoCourse : Config → Commands → History → Type 0
GoCourse config plan h =
    let given = given_by plan in
    (gone : History)
    × OneByOne (λ (l : GoLine). MovedUpTo given config (actor_of l.who) l.count) plan.go [] gone
    × OneByOne (MovedToEnd given config) (movers config plan) gone h

-- the movers that have an event left after this history
abbrev pub at_work : Config → Commands → History → List Actor
at_work config plan h = filter (λ a. has_event (given_by plan) config a h) (movers config plan)

-- each move is of the mover drawn among those that have an event left; the generator has then this state
unfoldable pub DrawnTo : Config → Commands → ℕ → History → Type 0
DrawnTo config plan state [] = state ≡ config.number
DrawnTo config plan state (e ∷ h) =
    (before : ℕ) × DrawnTo config plan before h × (state ≡ next_state before)
    × (drawn_of (draw_of state) (at_work config plan h) ≡ asker e ∷ [])

abbrev pub DrawnCourse : Config → Commands → History → Type 0
DrawnCourse config plan h = (state : ℕ) × DrawnTo config plan state h

abbrev pub CourseBy : Schedule → Config → Commands → History → Type 0
CourseBy Serial config plan h = SerialCourse config plan h
CourseBy Go config plan h = GoCourse config plan h
CourseBy Drawn config plan h = DrawnCourse config plan h

-- a history was made by the schedule until no mover had an event left, and then by the last passes, by tablet
pub record Course (config : Config) (plan : Commands) (h : History) : Type 0 where
  pub before : History
  pub chosen : CourseBy config.schedule config plan before
  pub none_left : at_work config plan before ≡ []
  pub last : PassesMade config before h

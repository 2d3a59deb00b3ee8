-- How a history follows a plan, does all of it, and takes its moves in the order and with the readings of a schedule.
use Rattle.std.specs.Prelude.{◌≡◌, ℕ, zero, suc, ◌+◌, ◌-◌, ◌%◌, Bool, true, false, ◌&&◌, List, [], ◌∷◌, ◌++◌, Option, Some, None, nat_eq, nat_lt, if◌then◌else◌, length, map, filter, flat_map, reverse, take, min, replicate, ◌⊎◌}
use Rattle.docdb_base.specs.Generator.{next_state, draw_of}
use Rattle.txn_data.specs.declared.actor.Actor.{Actor}
use Rattle.txn_data.specs.declared.actor.Actor.TheVariants.{Tablet, Status, Session, Applier}
use Rattle.txn_data.specs.declared.mover.Mover.{Mover}
use Rattle.txn_data.specs.declared.mover.Mover.TheVariants as mover
use Rattle.txn_data.specs.declared.command.Command.{Command}
use Rattle.txn_data.specs.declared.command.Command.TheVariants as command
use Rattle.txn_data.specs.declared.session_plan.SessionPlan.{SessionPlan}
use Rattle.txn_data.specs.declared.go_line.GoLine.{GoLine}
use Rattle.txn_data.specs.declared.commands.Commands.{Commands}
use Rattle.txn_data.specs.declared.config.Config.{Config}
use Rattle.txn_data.specs.declared.schedule.Schedule.{Schedule}
use Rattle.txn_data.specs.declared.schedule.Schedule.TheVariants.{Serial, Go, Drawn}
use Rattle.txn_data.specs.declared.told.Told.TheVariants as told
use Rattle.txn_data.specs.declared.event.Event.{Event}
use Rattle.txn_data.specs.declared.event.Event.TheVariants.{Start, Serve, Tell, Restarted}
use Rattle.txn_data.specs.declared.entry.Entry.{Entry}
use Rattle.txn_types.specs.Lists.{Member}
use Rattle.txn_types.specs.History.{History, same_actor, is_start}
use Rattle.txn_types.specs.Session.{Opened}
use Rattle.txn_types.specs.Plan.{IsCluster, IsPlan}
use Rattle.txn_types.specs.Run.{mover_at}

-- the lines that a mover started, in their order
abbrev pub line_by : Event → List Command
line_by (Start number line) = line ∷ []
line_by event = []

unfoldable pub lines : Actor → History → List Command
lines a [] = []
lines a (e ∷ h) = if same_actor e.actor a then lines a h ++ line_by e.event else lines a h

unfoldable pub commands_of : ℕ → List SessionPlan → List Command
commands_of i [] = []
commands_of i (p ∷ ps) = if nat_eq p.session i then p.commands else commands_of i ps

-- the lines of a session are the first commands of its plan, or all of them and then End
abbrev pub FollowsLines : List Command → List Command → Type 0
FollowsLines started planned = (started ≡ take (length started) planned) ⊎ (started ≡ planned ++ command.End ∷ [])

-- each session follows its plan; one that has none starts nothing. In a run a line starts only once the one before it was
-- told, and End only where a transaction is open.
abbrev pub Follows : Commands → History → Type 0
Follows plan h = (i : ℕ) → FollowsLines (lines (Session i) h) (commands_of i plan.sessions)

abbrev pub ClosedAfter : List Command → List Command → Option Opened → Type 0
ClosedAfter started planned None = (started ≡ planned) ⊎ (started ≡ planned ++ command.End ∷ [])
ClosedAfter started planned (Some x) = started ≡ planned ++ command.End ∷ []

-- a session has started and been told all its commands, and End where a transaction was then open
abbrev pub AllTold : Config → Commands → ℕ → History → Type 0
AllTold config plan i h =
    let m = mover_at config (Session i) h in
    (m.line ≡ None) × ClosedAfter (lines (Session i) h) (commands_of i plan.sessions) m.keeps.opened

abbrev pub is_told : Actor → Event → Bool
is_told (Session i) (Tell number t) = true
is_told a event = false

-- whether a session was told something since the last Start of this actor
unfoldable pub told_since : Actor → History → Bool
told_since a [] = false
told_since a (e ∷ h) =
    if same_actor e.actor a && is_start e.event then false
    else (if is_told e.actor e.event then true else told_since a h)

-- an applier has made its passes beside the sessions and the last one, which began after all that sessions were told
pub record HasPassed (config : Config) (k : ℕ) (h : History) : Type 0 where
  pub passes : length (lines (Applier k) h) ≡ config.passes + 1
  pub told : (mover_at config (Applier k) h).line ≡ None
  pub last : told_since (Applier k) h ≡ false

-- a history does all of a plan
pub record Whole (config : Config) (plan : Commands) (h : History) : Type 0 where
  pub follows : Follows plan h
  pub sessions : (p : SessionPlan) → Member p plan.sessions → AllTold config plan p.session h
  pub appliers : (k : ℕ) → nat_lt k config.tablets ≡ true → HasPassed config k h

-- The order of the moves.

-- an entry is its actor's move, and that of the mover that asked where an actor served it
abbrev pub asker : Entry → Actor
asker e = elim e.event [ Serve from asked r time append ↦ from | Restarted from kept ↦ from | _ ↦ e.actor ]

abbrev pub moves : History → List Actor
moves h = reverse (map asker h)

-- how many commands or passes a mover has started
abbrev pub started : Actor → History → ℕ
started a h = length (lines a h)

-- how many entries the n-th command or pass of a mover has
unfoldable pub entries_of : Actor → ℕ → History → ℕ
entries_of a n [] = 0
entries_of a n (e ∷ h) =
    entries_of a n h + (if same_actor (asker e) a && nat_eq (started a (e ∷ h)) n then 1 else 0)

-- a mover as often as its n-th command or pass has entries
abbrev pub turns : History → Actor → ℕ → List Actor
turns h a n = replicate (entries_of a n h) a

unfoldable pub count : ℕ → List ℕ → ℕ
count i [] = 0
count i (j ∷ js) = count i js + (if nat_eq i j then 1 else 0)

-- the commands in line order: the next of the session that each line names
unfoldable pub in_line_order : History → List ℕ → List ℕ → List Actor
in_line_order h before [] = []
in_line_order h before (i ∷ more) = turns h (Session i) (count i before + 1) ++ in_line_order h (i ∷ before) more

-- the numbers from n, k of them
unfoldable pub from_up : ℕ → ℕ → List ℕ
from_up n zero = []
from_up n (suc k) = n ∷ from_up (n + 1) k

-- each applier's n-th pass, by tablet
abbrev pub passes_at : Config → History → ℕ → List Actor
passes_at config h n = flat_map (λ k. turns h (Applier k) n) (from_up 0 config.tablets)

-- commands whole in line order, then the end of each session, then the passes in rounds
abbrev pub serial_moves : Config → Commands → History → List Actor
serial_moves config plan h =
    in_line_order h [] plan.order
    ++ (flat_map (λ (p : SessionPlan). turns h (Session p.session) (length p.commands + 1)) plan.sessions
    ++ flat_map (passes_at config h) (from_up 1 config.passes))

-- how many entries a mover has, an applier's last pass not counted
abbrev pub passes_counted : Config → Actor → ℕ → Bool
passes_counted config (Applier k) n = nat_lt n (config.passes + 1)
passes_counted config a n = true

unfoldable pub entries_beside : Config → Actor → History → ℕ
entries_beside config a [] = 0
entries_beside config a (e ∷ h) =
    entries_beside config a h
    + (if same_actor (asker e) a && passes_counted config a (started a (e ∷ h)) then 1 else 0)

-- how often a list names a mover
unfoldable pub named : Actor → List Actor → ℕ
named a [] = 0
named a (b ∷ more) = named a more + (if same_actor b a then 1 else 0)

-- what a mover has left, where the moves so far are `done`
abbrev pub left : Config → History → List Actor → Actor → ℕ
left config h done a = entries_beside config a h - named a done

abbrev pub actor_of : Mover → Actor
actor_of (mover.Session i) = Session i
actor_of (mover.Applier k) = Applier k

-- the movers: sessions by number, then appliers
abbrev pub movers : Config → Commands → List Actor
movers config plan =
    map (λ (p : SessionPlan). Session p.session) plan.sessions ++ map Applier (from_up 0 config.tablets)

-- the lines of the plan in order, each its mover as often as it says or as it has left; then each mover to its end
unfoldable pub go_on : Config → History → List Actor → List GoLine → List Actor
go_on config h done [] = done
go_on config h done (g ∷ gs) =
    go_on config h (done ++ replicate (min g.count (left config h done (actor_of g.who))) (actor_of g.who)) gs

unfoldable pub to_their_ends : Config → History → List Actor → List Actor → List Actor
to_their_ends config h done [] = done
to_their_ends config h done (a ∷ more) = to_their_ends config h (done ++ replicate (left config h done a) a) more

abbrev pub go_moves : Config → Commands → History → List Actor
go_moves config plan h = to_their_ends config h (go_on config h [] plan.go) (movers config plan)

-- the mover at a position in a list
unfoldable pub at_position : ℕ → List Actor → List Actor
at_position n [] = []
at_position zero (a ∷ more) = a ∷ []
at_position (suc n) (a ∷ more) = at_position n more

abbrev pub has_left : Config → History → List Actor → Actor → Bool
has_left config h done a = nat_lt 0 (left config h done a)

-- the mover that is drawn among those that have an event left
abbrev pub drawn_of : ℕ → List Actor → List Actor
drawn_of draw [] = []
drawn_of draw (a ∷ more) = at_position (draw % length (a ∷ more)) (a ∷ more)

-- while a mover has an event left, one that has is drawn; there are at most n moves
unfoldable pub draw_on : Config → Commands → History → ℕ → ℕ → List Actor → List Actor
draw_on config plan h zero state done = done
draw_on config plan h (suc n) state done =
    let drawn = drawn_of (draw_of (next_state state)) (filter (has_left config h done) (movers config plan)) in
    draw_on config plan h n (next_state state) (done ++ drawn)

abbrev pub drawn_moves : Config → Commands → History → List Actor
drawn_moves config plan h = draw_on config plan h (length h) config.number []

abbrev pub moves_by : Schedule → Config → Commands → History → List Actor
moves_by Serial config plan h = serial_moves config plan h
moves_by Go config plan h = go_moves config plan h
moves_by Drawn config plan h = drawn_moves config plan h

-- The readings.

-- a clock that was told: its node and its reading
abbrev pub clock_by : Option Command → Event → Option (ℕ × ℕ)
clock_by (Some (command.Clock node micros)) (Tell number told.Set) = Some (node, micros)
clock_by line event = None

abbrev pub set_by : ℕ → Option (ℕ × ℕ) → ℕ → ℕ
set_by node None otherwise = otherwise
set_by node (Some (n, micros)) otherwise = if nat_eq n node then micros else otherwise

unfoldable pub number_at : ℕ → List ℕ → ℕ
number_at n [] = 0
number_at zero (x ∷ xs) = x
number_at (suc n) (x ∷ xs) = number_at n xs

-- the reading of a node: that of the last clock told for it, else its first one
unfoldable pub reading_of : Config → ℕ → History → ℕ
reading_of config node [] = number_at node config.start_us
reading_of config node (e ∷ h) =
    set_by node (clock_by (mover_at config e.actor h).line e.event) (reading_of config node h)

-- the node that an actor is on
abbrev pub node_of : Config → Actor → ℕ
node_of config (Tablet k) = k % config.nodes
node_of config (Status j) = (j + 1) % config.nodes
node_of config (Session i) = i % config.nodes
node_of config (Applier k) = k % config.nodes

abbrev pub ReadsRight : ℕ → Option ℕ → Type 0
ReadsRight reading None = Unit {0}
ReadsRight reading (Some recorded) = recorded ≡ reading

unfoldable pub ReadingsAsTold : Config → History → Type 0
ReadingsAsTold config [] = Unit {0}
ReadingsAsTold config (e ∷ h) =
    ReadingsAsTold config h × ReadsRight (reading_of config (node_of config e.actor) h) e.reading

-- a plan that can be run: what a world asks of its plan, one first reading for each node, and an order that names each
-- session as often as it has lines
pub record IsRunnable (config : Config) (plan : Commands) : Type 0 where
  pub cluster : IsCluster config
  pub lines : IsPlan config plan
  pub readings : length config.start_us ≡ config.nodes
  pub order : (i : ℕ) → count i plan.order ≡ length (commands_of i plan.sessions)

-- the moves are those of the schedule and then the last passes by tablet, and each reading is the node's
pub record Scheduled (config : Config) (plan : Commands) (h : History) : Type 0 where
  pub order : moves h ≡ moves_by config.schedule config plan h ++ passes_at config h (config.passes + 1)
  pub readings : ReadingsAsTold config h

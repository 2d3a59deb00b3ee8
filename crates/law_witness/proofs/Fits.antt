-- A test of what a simulation leaves open: the limits of the cluster, that each start is allowed, and that each machine that
-- serves is one of the cluster. Where the test is passed, it is so.
use Rattle.std.proofs.Common.{◌≡◌, ℕ, ◌^◌, ◌≤◌, Bool, true, false, ◌&&◌, List, [], ◌∷◌, Option, Some, None, refl, length, nat_eq, nat_le, nat_lt, is_some, is_none}
use Rattle.std.specs.List.{All, list_all}
use Rattle.std.proofs.lemmas.Bool.{leb-true, ltb-true, eqb-true, and_parts}
use Rattle.std.proofs.lemmas.List.Elements.{All-weaker}
use Rattle.std.proofs.lemmas.List.Sums.{AllPass-from_list_all}
use Rattle.doc_path.specs.Path.{Parts}
use Rattle.txn_data.specs.declared.actor.Actor.{Actor}
use Rattle.txn_data.specs.declared.actor.Actor.TheVariants.{Tablet, Status, Session, Applier}
use Rattle.txn_data.specs.declared.place.Place.{Place}
use Rattle.txn_data.specs.declared.command.Command.{Command}
use Rattle.txn_data.specs.declared.command.Command.TheVariants as command
use Rattle.txn_data.specs.declared.config.Config.{Config}
use Rattle.txn_data.specs.declared.event.Event.{Event}
use Rattle.txn_data.specs.declared.event.Event.TheVariants.{Start, Serve, Restarted}
use Rattle.txn_types.specs.History.{History}
use Rattle.txn_types.specs.Plan.{IsCluster, IsShort, IsPath, IsPlace, CanRestart, IsLine}
use Rattle.txn_types.specs.Session.{Opened}
use Rattle.txn_types.specs.Run.{Mover, mover_at, IsMachine, StartsLine, MayStart}

abbrev is_within : ℕ → ℕ → ℕ → Bool
is_within low high n = nat_le low n && nat_le n high

within : (low high n : ℕ) → is_within low high n ≡ true → (low ≤ n) × (n ≤ high)
within low high n is = let parts = and_parts _ _ is in (leb-true low n parts.0, leb-true n high parts.1)

all_pass : {A : Type 0} (p : A → Bool) (P : A → Type 0) → ((x : A) → p x ≡ true → P x) → (xs : List A) → list_all p xs ≡ true → All P xs
all_pass p P each xs is = All-weaker (λ x. p x ≡ true) P each xs (AllPass-from_list_all p xs is)

-- the cluster

abbrev pub is_cluster : Config → Bool
is_cluster c =
    is_within 1 16 c.nodes && (is_within 1 64 c.tablets && (is_within 1 16 c.status
    && (nat_le c.passes 1000 && (nat_le c.skew_us 10000000 && is_within 1 60000000 c.lease_us))))

pub cluster_fits : (c : Config) → is_cluster c ≡ true → IsCluster c
cluster_fits c is =
    let nodes = and_parts _ _ is in
    let tablets = and_parts _ _ nodes.1 in
    let status = and_parts _ _ tablets.1 in
    let passes = and_parts _ _ status.1 in
    let skew = and_parts _ _ passes.1 in
    record {
      nodes = within 1 16 c.nodes nodes.0;
      tablets = within 1 64 c.tablets tablets.0;
      status = within 1 16 c.status status.0;
      passes = leb-true c.passes 1000 passes.0;
      skew = leb-true c.skew_us 10000000 skew.0;
      lease = within 1 60000000 c.lease_us skew.1;
    }

-- lines

abbrev is_short : List ℕ → Bool
is_short bytes = is_within 1 65536 (length bytes)

short : (bytes : List ℕ) → is_short bytes ≡ true → IsShort bytes
short bytes is = within 1 65536 (length bytes) is

abbrev is_path : Parts → Bool
is_path p = nat_le 1 (length p) && (nat_le (length p) 5 && list_all is_short p)

path : (p : Parts) → is_path p ≡ true → IsPath p
path p is =
    let some = and_parts _ _ is in
    let few = and_parts _ _ some.1 in
    (leb-true 1 (length p) some.0, leb-true (length p) 5 few.0, all_pass is_short IsShort short p few.1)

abbrev is_place : Config → Place → Bool
is_place config p = nat_lt p.tablet config.tablets && is_path p.path

place : (config : Config) (p : Place) → is_place config p ≡ true → IsPlace config p
place config p is = let parts = and_parts _ _ is in (ltb-true p.tablet config.tablets parts.0, path p.path parts.1)

abbrev is_machine : Config → Actor → Bool
is_machine config (Tablet k) = nat_lt k config.tablets
is_machine config (Status j) = nat_lt j config.status
is_machine config a = false

pub machine : (config : Config) (a : Actor) → is_machine config a ≡ true → IsMachine config a
machine config (Tablet k) is = ltb-true k config.tablets is
machine config (Status j) is = ltb-true j config.status is
machine config (Session i) is = cc
machine config (Applier k) is = cc

can_restart : (config : Config) (a : Actor) → is_machine config a ≡ true → CanRestart config a
can_restart config (Tablet k) is = ltb-true k config.tablets is
can_restart config (Status j) is = ltb-true j config.status is
can_restart config (Session i) is = cc
can_restart config (Applier k) is = cc

abbrev is_line : Config → Command → Bool
is_line config (command.Begin priority) = true
is_line config (command.Put p v) = is_place config p && is_short v
is_line config (command.Del p) = is_place config p
is_line config command.Commit = true
is_line config command.Abort = true
is_line config (command.Read strict ps) = nat_le 1 (length ps) && (nat_le (length ps) 16 && list_all (is_place config) ps)
is_line config (command.Scan strict p) = is_place config p
is_line config (command.SinglePut p v priority) = is_place config p && is_short v
is_line config (command.SingleDel p priority) = is_place config p
is_line config (command.Restart a) = is_machine config a
is_line config (command.Apply tablet) = nat_lt tablet config.tablets
is_line config (command.Clock node micros) = nat_lt node config.nodes
is_line config command.End = false

put_line : (config : Config) (p : Place) (v : List ℕ) → (is_place config p && is_short v) ≡ true → IsPlace config p × IsShort v
put_line config p v is = let parts = and_parts _ _ is in (place config p parts.0, short v parts.1)

read_line : (config : Config) (strict : Bool) (ps : List Place) → is_line config (command.Read strict ps) ≡ true → IsLine config (command.Read strict ps)
read_line config strict ps is =
    let some = and_parts _ _ is in
    let few = and_parts _ _ some.1 in
    (leb-true 1 (length ps) some.0, leb-true (length ps) 16 few.0, all_pass (is_place config) (IsPlace config) (place config) ps few.1)

-- a line of the plan, or End with a transaction open
abbrev starts_line : Config → Option Opened → Command → Bool
starts_line config opened command.End = is_some opened
starts_line config opened line = is_line config line

line_starts : (config : Config) (opened : Option Opened) (line : Command) → starts_line config opened line ≡ true → StartsLine config opened line
line_starts config opened (command.Begin priority) is = tt
line_starts config opened (command.Put p v) is = put_line config p v is
line_starts config opened (command.Del p) is = place config p is
line_starts config opened command.Commit is = tt
line_starts config opened command.Abort is = tt
line_starts config opened (command.Read strict ps) is = read_line config strict ps is
line_starts config opened (command.Scan strict p) is = place config p is
line_starts config opened (command.SinglePut p v priority) is = put_line config p v is
line_starts config opened (command.SingleDel p priority) is = place config p is
line_starts config opened (command.Restart a) is = can_restart config a is
line_starts config opened (command.Apply tablet) is = ltb-true tablet config.tablets is
line_starts config opened (command.Clock node micros) is = ltb-true node config.nodes is
line_starts config None command.End is = cc
line_starts config (Some x) command.End is = tt

-- starts

abbrev is_pass : ℕ → Command → Bool
is_pass k (command.Apply tablet) = nat_eq tablet k
is_pass k line = false

pass : (k : ℕ) (line : Command) → is_pass k line ≡ true → line ≡ command.Apply k
pass k (command.Apply tablet) is = rw (eqb-true tablet k is) refl
pass k line is = cc

abbrev may_start : Config → Actor → Mover → Command → Bool
may_start config (Session i) m line =
    is_within 1 1000 i && (nat_lt m.commands (2 ^ 40) && starts_line config m.keeps.opened line)
may_start config (Applier k) m line = nat_lt k config.tablets && is_pass k line
may_start config a m line = false

mover_starts : (config : Config) (a : Actor) (m : Mover) (line : Command) → may_start config a m line ≡ true → MayStart config a m line
mover_starts config (Session i) m line is =
    let number = and_parts _ _ is in
    let few = and_parts _ _ number.1 in
    (within 1 1000 i number.0, ltb-true m.commands (2 ^ 40) few.0, line_starts config m.keeps.opened line few.1)
mover_starts config (Applier k) m line is =
    let parts = and_parts _ _ is in (ltb-true k config.tablets parts.0, pass k line parts.1)
mover_starts config (Tablet k) m line is = cc
mover_starts config (Status j) m line is = cc

-- no line is under way, and the mover may start this one
abbrev start_fits : Config → Actor → Mover → Command → Bool
start_fits config a m line = is_none m.line && may_start config a m line

no_line : (line : Option Command) → is_none line ≡ true → line ≡ None
no_line None is = refl
no_line (Some line) is = cc

pub start_allowed : (config : Config) (a : Actor) (m : Mover) (line : Command) → start_fits config a m line ≡ true → (m.line ≡ None) × MayStart config a m line
start_allowed config a m line is =
    let parts = and_parts _ _ is in (no_line m.line parts.0, mover_starts config a m line parts.1)

-- the entries of a history

abbrev pub entry_fits : Config → History → Actor → Event → Bool
entry_fits config h a (Start number line) = start_fits config a (mover_at config a h) line
entry_fits config h a (Serve from asked r time append) = is_machine config a
entry_fits config h a (Restarted from kept) = is_machine config a
entry_fits config h a event = true

abbrev pub entries_fit : Config → History → Bool
entries_fit config [] = true
entries_fit config (e ∷ h) = entries_fit config h && entry_fits config h e.actor e.event

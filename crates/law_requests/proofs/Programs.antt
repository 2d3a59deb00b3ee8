-- Each request of a command is of its line, and may be served; whatever is heard, as long as what it tells of transactions
-- names their status tablets.
use Rattle.std.proofs.Common.{◌≡◌, ℕ, ◌<◌, ◌+◌, ◌%◌, Bool, true, false, ◌||◌, List, [], ◌∷◌, Option, Some, None, Result, Ok, Err, max, nat_eq, length, map, filter, refl, sym, ap, subst, inl, inr, if◌then◌else◌, arith}
use Rattle.std.specs.List.{All}
use Rattle.std.proofs.lemmas.Nat.{mod_below}
use Rattle.hybrid_time.specs.Time.{limit_time, least_time}
use Rattle.hybrid_time.specs.declared.time_refusal.TimeRefusal.{TimeRefusal}
use Rattle.doc_path.specs.Path.{Parts}
use Rattle.txn_data.specs.declared.actor.Actor.{Actor}
use Rattle.txn_data.specs.declared.actor.Actor.TheVariants.{Tablet, Status, Session, Applier}
use Rattle.txn_data.specs.declared.command.Command.{Command}
use Rattle.txn_data.specs.declared.command.Command.TheVariants as command
use Rattle.txn_data.specs.declared.config.Config.{Config}
use Rattle.txn_data.specs.declared.fate.Fate.TheVariants as fate
use Rattle.txn_data.specs.declared.fate_of.FateOf.{FateOf}
use Rattle.txn_data.specs.declared.found.Found.{Found}
use Rattle.txn_data.specs.declared.meta.Meta.{Meta}
use Rattle.txn_data.specs.declared.op.Op.{Op}
use Rattle.txn_data.specs.declared.op.Op.TheVariants as op
use Rattle.txn_data.specs.declared.place.Place.{Place}
use Rattle.txn_data.specs.declared.read_end.ReadEnd.{ReadEnd}
use Rattle.txn_data.specs.declared.read_kind.ReadKind.{ReadKind}
use Rattle.txn_data.specs.declared.read_kind.ReadKind.TheVariants.{Get, Scan}
use Rattle.txn_data.specs.declared.read_what.ReadWhat.{ReadWhat}
use Rattle.txn_data.specs.declared.read_what.ReadWhat.TheVariants as what
use Rattle.txn_data.specs.declared.tablet_limit.TabletLimit.{TabletLimit}
use Rattle.txn_data.specs.declared.txn_step.TxnStep.TheVariants as step
use Rattle.txn_data.specs.declared.written.Written.{Written}
use Rattle.txn_data.specs.declared.request.Request.{Request}
use Rattle.txn_data.specs.declared.request.Request.TheVariants as request
use Rattle.txn_data.specs.declared.reply.Reply.{Reply}
use Rattle.txn_data.specs.declared.reply.Reply.TheVariants as reply
use Rattle.txn_data.specs.declared.told.Told.{Told}
use Rattle.txn_data.specs.declared.told_refusal.ToldRefusal.{ToldRefusal}
use Rattle.txn_data.specs.declared.told_refusal.ToldRefusal.TheVariants as told_refusal
use Rattle.txn_types.specs.Lists.{Member}
use Rattle.txn_types.specs.Plan.{IsCluster, IsShort, IsPath, IsPlace, IsLine, CanRestart, places_of}
use Rattle.txn_types.specs.Program.{Program, Done, Asks, Reads, then_do, refusal_told}
use Rattle.txn_types.specs.ReadProgram.{Asked, Progress, tablets_of, paths_on, read_refused, ask_fates, visit, with_tablet_rows, read_done, round_two, restarted, met_then, round_one, read_program}
use Rattle.txn_types.specs.TxnProgram.{refused, write_refused, resolve_all, find_others, txn_program}
use Rattle.txn_types.specs.PassProgram.{Counts, apply_then, clean_then, pass_over, pass_program}
use Rattle.txn_types.specs.Session.{Keeps, Opened, Accepted, next_meta, begin_program, read_told, read_at, read_inside, read_command, write_command, commit_command, abort_command, if_closed, restart_program, command_program, has_writes, writes_of, tablets_used, timed_then, moved_then}
use Rattle.txn_types.specs.Run.{Mover, IsMachine, StartsLine, MayStart, program_of}
use Rattle.law_machines.proofs.Basics.{map_member, filter_member}
use Rattle.law_owners.specs.Owner.{home_of, IsOfTable}
use Rattle.law_owners.proofs.Founds.{FoundsHomed, rising_member}
use Rattle.law_owners.proofs.Replies.{ReplyHomed}
use Rattle.law_requests.specs.Requests.{IsNamed, Sets, IsOfLine, IsShortOp, IsSmall, IsServable}
use Rattle.law_requests.proofs.Lists.{all_member, all_of, few_below, used_member, used_distinct}

-- ## lines

-- the places of the line are places of the cluster, and what it sets is short
pub record LineFits (config : Config) (line : Command) : Type 0 where
  pub places : (place : Place) → Member place (places_of line) → IsPlace config place
  pub values : (o : Op) → Sets line o → IsShortOp o

one_place : (config : Config) (place : Place) → IsPlace config place → (other : Place) → Member other (place ∷ []) → IsPlace config other
one_place config place is other at = elim at [ inl here ↦ subst (IsPlace config) (sym here) is | inr never ↦ absurd never ]

put_short : (v : List ℕ) (o : Op) → IsShort v → o ≡ op.Put v → IsShortOp o
put_short v o short is = subst IsShortOp (sym is) short

del_short : (o : Op) → o ≡ op.Delete → IsShortOp o
del_short o is = subst IsShortOp (sym is) tt

line_fits : (config : Config) (line : Command) → IsLine config line → LineFits config line
line_fits config (command.Put place v) is = record { places = one_place config place is.0; values = λ o sets. put_short v o is.1 sets }
line_fits config (command.Del place) is = record { places = one_place config place is; values = λ o sets. del_short o sets }
line_fits config (command.Read strict places) is = record { places = λ place at. all_member (IsPlace config) place places is.2 at; values = λ o sets. absurd sets }
line_fits config (command.Scan strict place) is = record { places = one_place config place is; values = λ o sets. absurd sets }
line_fits config (command.SinglePut place v priority) is = record { places = one_place config place is.0; values = λ o sets. put_short v o is.1 sets }
line_fits config (command.SingleDel place priority) is = record { places = one_place config place is; values = λ o sets. del_short o sets }
line_fits config (command.Begin priority) is = record { places = λ place at. absurd at; values = λ o sets. absurd sets }
line_fits config command.Commit is = record { places = λ place at. absurd at; values = λ o sets. absurd sets }
line_fits config command.Abort is = record { places = λ place at. absurd at; values = λ o sets. absurd sets }
line_fits config (command.Restart actor) is = record { places = λ place at. absurd at; values = λ o sets. absurd sets }
line_fits config (command.Apply tablet) is = record { places = λ place at. absurd at; values = λ o sets. absurd sets }
line_fits config (command.Clock node micros) is = record { places = λ place at. absurd at; values = λ o sets. absurd sets }
line_fits config command.End is = absurd is

-- ## requests

abbrev pub IsAsked : Config → Command → Actor → Request → Type 0
IsAsked config line to asked = IsOfLine line to asked × IsServable config to asked

-- all that it asks is so
abbrev pub Goes : {A : Type 0} → Config → Command → Program A → Type 0
Goes config line (Done a) = Unit {0}
Goes config line (Asks to asked next) = IsAsked config line to asked × ((r : Reply) → ReplyHomed config r → Goes config line (next r))
Goes config line (Reads given) = (reading : ℕ) → Goes config line (given reading)

then_goes : {A B : Type 0} (config : Config) (line : Command) (p : Program A) (next : A → Program B) → Goes config line p → ((a : A) → Goes config line (next a)) → Goes config line (then_do p next)
unfolding then_do
then_goes config line (Done a) next first rest = rest a
then_goes config line (Asks to asked heard) next first rest = (first.0, λ r is. then_goes config line (heard r) next (first.1 r is) rest)
then_goes config line (Reads given) next first rest = λ reading. then_goes config line (given reading) next (first reading) rest

pub home_below : (config : Config) (x : ℕ) → IsCluster config → home_of config x < config.status
home_below config x cluster = mod_below _ config.status (let least = cluster.status.0 in omega (arith, least))

pub status_below : (config : Config) (i : ℕ) → IsCluster config → i % config.status < config.status
status_below config i cluster = mod_below i config.status (let least = cluster.status.0 in omega (arith, least))

found_below : (config : Config) (f : Found) (fs : List Found) → IsCluster config → FoundsHomed config fs → Member f fs → f.status < config.status
found_below config f fs cluster homed at = subst (λ k. k < config.status) (sym (homed f at)) (home_below config f.txn cluster)

-- a request of a status tablet's table, without a list of tablets
at_status : (config : Config) (line : Command) (j : ℕ) (asked : Request) → j < config.status → IsOfLine line (Status j) asked → IsOfTable (Status j) asked → IsSmall asked → IsAsked config line (Status j) asked
at_status config line j asked below of table small = (of, record { machine = below; table = table; small = small })

named_place : (config : Config) (line : Command) (k : ℕ) (path : Parts) → LineFits config line → IsNamed line k path → (k < config.tablets) × IsPath path
named_place config line k path fits named =
    let is = fits.places named.0 named.1 in
    (subst (λ n. n < config.tablets) named.2 is.0, subst IsPath named.3 is.1)

-- ## reads

tablet_of_place : (config : Config) (line : Command) (k : ℕ) → LineFits config line → Member k (tablets_of (places_of line)) → k < config.tablets
tablet_of_place config line k fits at =
    let place = map_member (λ (p : Place). p.tablet) k (places_of line) (rising_member k (map (λ (p : Place). p.tablet) (places_of line)) at) in
    subst (λ n. n < config.tablets) (sym place.2) (fits.places place.0 place.1).0

paths_fit : (config : Config) (line : Command) (k : ℕ) → LineFits config line → All IsPath (paths_on k (places_of line))
paths_fit config line k fits = all_of IsPath (paths_on k (places_of line)) (λ path at.
    let place = map_member (λ (p : Place). p.path) path (filter (λ (p : Place). nat_eq p.tablet k) (places_of line)) at in
    let part = filter_member (λ (p : Place). nat_eq p.tablet k) place.0 (places_of line) place.1 in
    subst IsPath (sym place.2) (fits.places place.0 part.0).1)

-- the places of the read are those of the line
abbrev ReadsLine : Command → Asked → Type 0
ReadsLine line a = a.places ≡ places_of line

fates_goes : (config : Config) (line : Command) (s : Progress) (fs : List Found) (fates : List FateOf) (next : List FateOf → Program ReadEnd) → IsCluster config → FoundsHomed config fs →
    ((found : List FateOf) → Goes config line (next found)) → Goes config line (ask_fates s fs fates next)
unfolding ask_fates
fates_goes config line s [] fates next cluster homed goes = goes fates
fates_goes config line s (f ∷ fs) fates next cluster homed goes = (
  at_status config line f.status (request.AskFate f.txn s.t) (found_below config f (f ∷ fs) cluster homed (inl refl)) tt tt tt,
  elim [
    | reply.FateIs heard ↦ λ is. fates_goes config line s fs _ next cluster (λ g at. homed g (inr at)) goes
    | reply.Refused why ↦ λ is. tt
    | _ ↦ λ is. tt
  ],
)

read_asked : (config : Config) (line : Command) (a : Asked) (k : ℕ) → LineFits config line → ReadsLine line a → Member k (tablets_of (places_of line)) →
    (paths_on k a.places ≡ paths_on k (places_of line)) × (k < config.tablets) × All IsPath (paths_on k a.places)
read_asked config line a k fits same at =
    let paths = ap (paths_on k) same in
    (paths, tablet_of_place config line k fits at, subst (λ (ps : List Parts). All IsPath ps) (sym paths) (paths_fit config line k fits))

visit_goes : (config : Config) (line : Command) (a : Asked) (s : Progress) (windowed : Bool) (k : ℕ) (next : Progress → Reply → Program ReadEnd) → IsCluster config → LineFits config line → ReadsLine line a →
    Member k (tablets_of (places_of line)) → ((seen : Progress) (r : Reply) → ReplyHomed config r → Goes config line (next seen r)) → Goes config line (visit a s windowed k next)
visit_goes config line a s windowed k next cluster fits same at goes =
    let is = read_asked config line a k fits same at in (
      (is.0, record { machine = is.1; table = tt; small = is.2 }),
      elim [
        | reply.Listed limit others ↦ λ homed. fates_goes config line _ others [] _ cluster homed (λ fates.
            ((is.0, record { machine = is.1; table = tt; small = is.2 }), λ answer heard. goes _ answer heard))
        | reply.Refused why ↦ λ homed. tt
        | _ ↦ λ homed. tt
      ],
    )

abbrev two_next : Asked → ℕ → List ℕ → Progress → Reply → Program ReadEnd
two_next a k ks seen answer = elim answer [
  | reply.Collected rows ↦ round_two a (with_tablet_rows k rows seen) ks
  | reply.Refused why ↦ read_refused (refusal_told (Tablet k) why) seen
  | _ ↦ read_refused told_refusal.Memory seen
]

abbrev one_next : Asked → ℕ → List ℕ → Progress → Reply → Program ReadEnd
one_next a k ks seen answer = elim answer [
  | reply.Collected rows ↦ round_one a (with_tablet_rows k rows seen) ks
  | reply.Met at path ↦ met_then a.strict (what.Restart at path) seen (round_one a (restarted at seen) ks)
  | reply.Refused why ↦ read_refused (refusal_told (Tablet k) why) seen
  | _ ↦ read_refused told_refusal.Memory seen
]

two_goes : (config : Config) (line : Command) (a : Asked) (s : Progress) (ks : List ℕ) → IsCluster config → LineFits config line → ReadsLine line a → ((k : ℕ) → Member k ks → Member k (tablets_of (places_of line))) → Goes config line (round_two a s ks)
unfolding round_two
two_goes config line a s [] cluster fits same part = tt
two_goes config line a s (k ∷ ks) cluster fits same part =
    visit_goes config line a s false k (two_next a k ks) cluster fits same (part k (inl refl)) (λ seen. elim [
      | reply.Collected rows ↦ λ is. two_goes config line a (with_tablet_rows k rows seen) ks cluster fits same (λ j at. part j (inr at))
      | reply.Refused why ↦ λ is. tt
      | _ ↦ λ is. tt
    ])

choice_goes : {A : Type 0} (b : Bool) (config : Config) (line : Command) (p q : Program A) → Goes config line p → Goes config line q → Goes config line (if b then p else q)
choice_goes true config line p q one two = one
choice_goes false config line p q one two = two

met_goes : (strict : Bool) (config : Config) (line : Command) (end : ReadWhat) (s : Progress) (next : Program ReadEnd) → Goes config line next → Goes config line (met_then strict end s next)
met_goes true config line end s next goes = tt
met_goes false config line end s next goes = goes

one_goes : (config : Config) (line : Command) (a : Asked) (s : Progress) (ks : List ℕ) → IsCluster config → LineFits config line → ReadsLine line a → ((k : ℕ) → Member k ks → Member k (tablets_of (places_of line))) → Goes config line (round_one a s ks)
unfolding round_one
one_goes config line a s [] cluster fits same part =
    choice_goes (nat_eq s.restarts 0) config line (read_done a s) _ tt (two_goes config line a _ (tablets_of a.places) cluster fits same (λ k at. subst (λ (ps : List Place). Member k (tablets_of ps)) same at))
one_goes config line a s (k ∷ ks) cluster fits same part = visit_goes config line a s true k (one_next a k ks) cluster fits same (part k (inl refl)) (λ seen. elim [
  | reply.Collected rows ↦ λ is. one_goes config line a (with_tablet_rows k rows seen) ks cluster fits same (λ j at. part j (inr at))
  | reply.Met t path ↦ λ is. met_goes a.strict config line (what.Restart t path) seen _ (one_goes config line a (restarted t seen) ks cluster fits same (λ j at. part j (inr at)))
  | reply.Refused why ↦ λ is. tt
  | _ ↦ λ is. tt
])

read_goes : (config : Config) (line : Command) (own_txn : Option ℕ) (kind : ReadKind) (ws : List Written) (places : List Place) (t g : ℕ) (strict : Bool) (limits : List TabletLimit) → IsCluster config → LineFits config line → places ≡ places_of line →
    Goes config line (then_do (read_program own_txn kind places t g strict limits) (λ end. Done (read_told kind ws places end)))
read_goes config line own_txn kind ws places t g strict limits cluster fits same =
    then_goes config line (read_program own_txn kind places t g strict limits) (λ end. Done (read_told kind ws places end))
    (one_goes config line _ _ (tablets_of places) cluster fits same (λ k at. subst (λ (ps : List Place). Member k (tablets_of ps)) same at)) (λ end. tt)

-- ## transactions

resolve_goes : (config : Config) (line : Command) (meta : Meta) (fs : List Found) (fates : List FateOf) (stop : ToldRefusal → Program Told) (next : List FateOf → Program Told) → IsCluster config → FoundsHomed config fs →
    ((why : ToldRefusal) → Goes config line (stop why)) → ((found : List FateOf) → Goes config line (next found)) → Goes config line (resolve_all meta fs fates stop next)
unfolding resolve_all
resolve_goes config line meta [] fates stop next cluster homed stops goes = goes fates
resolve_goes config line meta (f ∷ fs) fates stop next cluster homed stops goes = (
  at_status config line f.status (request.Resolve f.txn meta.txn meta.priority) (found_below config f (f ∷ fs) cluster homed (inl refl)) tt tt tt,
  elim [
    | reply.FateIs fate.Pending ↦ λ is. stops (told_refusal.Conflict f.txn)
    | reply.FateIs settled ↦ λ is. resolve_goes config line meta fs _ stop next cluster (λ g at. homed g (inr at)) stops goes
    | reply.Refused why ↦ λ is. stops (refusal_told (Status f.status) why)
    | _ ↦ λ is. tt
  ],
)

find_goes : (config : Config) (line : Command) (meta : Meta) (place : Place) (stop : ToldRefusal → Program Told) (next : List FateOf → Program Told) → IsCluster config → LineFits config line → IsNamed line place.tablet place.path →
    ((why : ToldRefusal) → Goes config line (stop why)) → ((found : List FateOf) → Goes config line (next found)) → Goes config line (find_others meta place stop next)
find_goes config line meta place stop next cluster fits named stops goes =
    let is = named_place config line place.tablet place.path fits named in (
      (named, record { machine = is.0; table = tt; small = is.1 }),
      elim [
        | reply.Others found ↦ λ homed. resolve_goes config line meta found [] stop next cluster homed stops goes
        | reply.Refused why ↦ λ homed. stops (refusal_told (Tablet place.tablet) why)
        | _ ↦ λ homed. tt
      ],
    )

stop_goes : (config : Config) (line : Command) (meta : Meta) (why : ToldRefusal) → meta.status < config.status → Goes config line (write_refused meta why)
stop_goes config line meta (told_refusal.Conflict other) below = (at_status config line meta.status (request.Abort meta.txn) below tt tt tt, λ r is. tt)
stop_goes config line meta (told_refusal.Overlap at) below = (at_status config line meta.status (request.Abort meta.txn) below tt tt tt, λ r is. tt)
stop_goes config line meta (told_refusal.LogFault actor) below = (at_status config line meta.status (request.Abort meta.txn) below tt tt tt, λ r is. tt)
stop_goes config line meta why below = tt

begin_goes : (config : Config) (line : Command) (meta : Meta) (r : ℕ) → meta.status < config.status → Goes config line (txn_program (step.Begin meta r))
begin_goes config line meta r below = (at_status config line meta.status (request.Begin meta.txn meta.isolation meta.priority) below tt tt tt, elim [ reply.Begun ↦ λ is. tt | reply.Refused why ↦ λ is. tt | _ ↦ λ is. tt ])

write_goes : (config : Config) (line : Command) (meta : Meta) (number : ℕ) (place : Place) (o : Op) (read seen : ℕ) → IsCluster config → LineFits config line → IsNamed line place.tablet place.path → Sets line o → meta.status < config.status →
    Goes config line (txn_program (step.Write meta number place o read seen))
write_goes config line meta number place o read seen cluster fits named sets below =
    let is = named_place config line place.tablet place.path fits named in
    find_goes config line meta place (write_refused meta) _ cluster fits named (λ why. stop_goes config line meta why below) (λ fates. (
      ((named, sets), record { machine = is.0; table = tt; small = (is.1, fits.values o sets) }),
      elim [
        | reply.Written w ↦ λ homed. tt
        | reply.Refused why ↦ λ homed. stop_goes config line meta (refusal_told (Tablet place.tablet) why) below
        | _ ↦ λ homed. tt
      ],
    ))

single_goes : (config : Config) (line : Command) (meta : Meta) (place : Place) (o : Op) (seen : ℕ) → IsCluster config → LineFits config line → IsNamed line place.tablet place.path → Sets line o →
    Goes config line (txn_program (step.Single meta place o seen))
single_goes config line meta place o seen cluster fits named sets =
    let is = named_place config line place.tablet place.path fits named in
    find_goes config line meta place refused _ cluster fits named (λ why. tt) (λ fates. (
      ((named, sets), record { machine = is.0; table = tt; small = (is.1, fits.values o sets) }),
      elim [ reply.SingleDone at ↦ λ homed. tt | reply.Refused why ↦ λ homed. tt | _ ↦ λ homed. tt ],
    ))

-- ## passes

applied_goes : (config : Config) (line : Command) (k : ℕ) (f : Found) (c : ℕ) (next : Program Told) → k < config.tablets → f.status < config.status → Goes config line next → Goes config line (apply_then k f c next)
applied_goes config line k f c next there below goes = (
  (tt, record { machine = there; table = tt; small = tt }),
  elim [
    | reply.AppliedHere ↦ λ is. (at_status config line f.status (request.Applied f.txn k) below tt tt tt, elim [ reply.Noted ↦ λ noted. goes | reply.Refused why ↦ λ noted. tt | _ ↦ λ noted. tt ])
    | reply.Refused why ↦ λ is. tt
    | _ ↦ λ is. tt
  ],
)

cleaned_goes : (config : Config) (line : Command) (k : ℕ) (f : Found) (next : Program Told) → k < config.tablets → Goes config line next → Goes config line (clean_then k f next)
cleaned_goes config line k f next there goes = ((tt, record { machine = there; table = tt; small = tt }), elim [ reply.Cleaned ↦ λ is. goes | reply.Refused why ↦ λ is. tt | _ ↦ λ is. tt ])

over_goes : (config : Config) (line : Command) (k : ℕ) (n : Counts) (fs : List Found) → IsCluster config → k < config.tablets → FoundsHomed config fs → Goes config line (pass_over k n fs)
unfolding pass_over
over_goes config line k n [] cluster there homed = tt
over_goes config line k n (f ∷ fs) cluster there homed =
    let below = found_below config f (f ∷ fs) cluster homed (inl refl) in
    let rest : FoundsHomed config fs = λ g at. homed g (inr at) in (
      at_status config line f.status (request.AskFate f.txn 0) below tt tt tt,
      elim [
        | reply.FateIs fate.Pending ↦ λ is. over_goes config line k (record n { left = n.left + 1 }) fs cluster there rest
        | reply.FateIs (fate.Committed c) ↦ λ is. applied_goes config line k f c _ there below (over_goes config line k (record n { applied = n.applied + 1 }) fs cluster there rest)
        | reply.FateIs fate.Aborted ↦ λ is. cleaned_goes config line k f _ there (over_goes config line k (record n { cleaned = n.cleaned + 1 }) fs cluster there rest)
        | reply.FateIs fate.Absent ↦ λ is. cleaned_goes config line k f _ there (over_goes config line k (record n { cleaned = n.cleaned + 1 }) fs cluster there rest)
        | reply.Refused why ↦ λ is. tt
        | _ ↦ λ is. tt
      ],
    )

pass_goes : (config : Config) (line : Command) (k : ℕ) → IsCluster config → k < config.tablets → Goes config line (pass_program k)
pass_goes config line k cluster there = (
  (tt, record { machine = there; table = tt; small = tt }),
  elim [ reply.Intents found ↦ λ homed. over_goes config line k _ found cluster there homed | reply.Refused why ↦ λ homed. tt | _ ↦ λ homed. tt ],
)

-- ## commands

-- an open transaction: its status tablet is there, and so is the tablet of each of its writes
abbrev pub OpenFits : Config → Option Opened → Type 0
OpenFits config None = Unit {0}
OpenFits config (Some x) = (x.meta.status < config.status) × ((a : Accepted) → Member a x.writes → a.tablet < config.tablets)

moved_goes : (config : Config) (line : Command) (i low : ℕ) (next : ℕ → ℕ → Program Told) → ((reading now : ℕ) → Goes config line (next reading now)) → Goes config line (moved_then i low next)
moved_goes config line i low next goes = λ reading. timed (least_time low 0 reading) reading
  where
    timed : (r : Result ℕ TimeRefusal) (reading : ℕ) → Goes config line (timed_then i reading (next reading) r)
    timed (Ok now) reading = goes reading now
    timed (Err why) reading = tt

closed_goes : (config : Config) (line : Command) (opened : Option Opened) (p : Program Told) → Goes config line p → Goes config line (if_closed opened p)
closed_goes config line (Some x) p goes = tt
closed_goes config line None p goes = goes

write_command_goes : (config : Config) (line : Command) (s : Keeps) (place : Place) (o : Op) (opened : Option Opened) → IsCluster config → LineFits config line → IsNamed line place.tablet place.path → Sets line o → OpenFits config opened →
    Goes config line (write_command s place o opened)
write_command_goes config line s place o None cluster fits named sets is = tt
write_command_goes config line s place o (Some x) cluster fits named sets is =
    choice_goes x.in_doubt config line (refused told_refusal.InDoubt) _ tt (write_goes config line x.meta (length x.writes) place o x.r s.last cluster fits named sets is.0)

read_command_goes : (config : Config) (line : Command) (i : ℕ) (s : Keeps) (kind : ReadKind) (strict : Bool) (places : List Place) (opened : Option Opened) → IsCluster config → LineFits config line → places ≡ places_of line →
    Goes config line (read_command config i s kind strict places opened)
read_command_goes config line i s kind strict places None cluster fits same =
    moved_goes config line i s.last (read_at config kind strict places) (λ reading now. read_goes config line None kind [] places now (max now (limit_time reading config.skew_us)) strict [] cluster fits same)
read_command_goes config line i s kind strict places (Some x) cluster fits same =
    choice_goes x.in_doubt config line (refused told_refusal.InDoubt) (read_inside x kind strict places) tt
    (read_goes config line (Some x.meta.txn) kind (writes_of x.writes) places x.r x.g (strict || has_writes x.writes || x.has_read) x.limits cluster fits same)

commit_goes : (config : Config) (line : Command) (s : Keeps) (opened : Option Opened) → IsCluster config → OpenFits config opened → Goes config line (commit_command s opened)
commit_goes config line s None cluster is = tt
commit_goes config line s (Some x) cluster is =
    let distinct = used_distinct [] x.writes in
    let few = few_below config.tablets (tablets_used [] x.writes) distinct (λ n at. let used = used_member n [] x.writes at in subst (λ k. k < config.tablets) (sym used.0.2) (is.1 used.0.0 used.0.1)) in
    let most = cluster.tablets.1 in (
      at_status config line x.meta.status (request.Commit x.meta.txn s.last (tablets_used [] x.writes)) is.0 tt tt (omega (arith, few, most), distinct),
      elim [ reply.Committed at ↦ λ homed. tt | reply.AbortedBy by ↦ λ homed. tt | reply.Gone ↦ λ homed. tt | reply.Refused why ↦ λ homed. tt | _ ↦ λ homed. tt ],
    )

abort_goes : (config : Config) (line : Command) (opened : Option Opened) → OpenFits config opened → Goes config line (abort_command opened)
abort_goes config line None is = tt
abort_goes config line (Some x) is = (
  at_status config line x.meta.status (request.Abort x.meta.txn) is.0 tt tt tt,
  elim [ reply.Ended ↦ λ homed. tt | reply.Committed at ↦ λ homed. tt | reply.Refused why ↦ λ homed. tt | _ ↦ λ homed. tt ],
)

restart_goes : (config : Config) (line : Command) (a : Actor) → IsMachine config a → Goes config line (restart_program a)
restart_goes config line (Tablet k) there = ((tt, record { machine = there; table = tt; small = tt }), elim [ reply.Restarted kept ↦ λ homed. tt | reply.Refused why ↦ λ homed. tt | _ ↦ λ homed. tt ])
restart_goes config line (Status j) there = ((tt, record { machine = there; table = tt; small = tt }), elim [ reply.Restarted kept ↦ λ homed. tt | reply.Refused why ↦ λ homed. tt | _ ↦ λ homed. tt ])
restart_goes config line (Session i) there = absurd there
restart_goes config line (Applier k) there = absurd there

at_own : (line : Command) (place : Place) → places_of line ≡ place ∷ [] → IsNamed line place.tablet place.path
at_own line place is = (place, rw is (inl refl), refl, refl)

command_goes : (config : Config) (i : ℕ) (s : Keeps) (line : Command) → IsCluster config → LineFits config line → StartsLine config s.opened line → OpenFits config s.opened → Goes config line (command_program config i s line)
command_goes config i s (command.Begin priority) cluster fits is fine =
    closed_goes config (command.Begin priority) s.opened (begin_program config i s priority) (moved_goes config (command.Begin priority) i s.last _ (λ reading now. begin_goes config (command.Begin priority) (next_meta config i s priority) now (status_below config i cluster)))
command_goes config i s (command.Put place v) cluster fits is fine = write_command_goes config (command.Put place v) s place (op.Put v) s.opened cluster fits (at_own (command.Put place v) place refl) refl fine
command_goes config i s (command.Del place) cluster fits is fine = write_command_goes config (command.Del place) s place op.Delete s.opened cluster fits (at_own (command.Del place) place refl) refl fine
command_goes config i s command.Commit cluster fits is fine = commit_goes config command.Commit s s.opened cluster fine
command_goes config i s command.Abort cluster fits is fine = abort_goes config command.Abort s.opened fine
command_goes config i s command.End cluster fits is fine = abort_goes config command.End s.opened fine
command_goes config i s (command.Read strict places) cluster fits is fine = read_command_goes config (command.Read strict places) i s Get strict places s.opened cluster fits refl
command_goes config i s (command.Scan strict place) cluster fits is fine = read_command_goes config (command.Scan strict place) i s Scan strict (place ∷ []) s.opened cluster fits refl
command_goes config i s (command.SinglePut place v priority) cluster fits is fine =
    closed_goes config (command.SinglePut place v priority) s.opened (txn_program (step.Single (next_meta config i s priority) place (op.Put v) s.last))
    (single_goes config (command.SinglePut place v priority) (next_meta config i s priority) place (op.Put v) s.last cluster fits (at_own (command.SinglePut place v priority) place refl) refl)
command_goes config i s (command.SingleDel place priority) cluster fits is fine =
    closed_goes config (command.SingleDel place priority) s.opened (txn_program (step.Single (next_meta config i s priority) place op.Delete s.last))
    (single_goes config (command.SingleDel place priority) (next_meta config i s priority) place op.Delete s.last cluster fits (at_own (command.SingleDel place priority) place refl) refl)
command_goes config i s (command.Restart actor) cluster fits is fine = restart_goes config (command.Restart actor) actor (machine_of actor is)
  where
    machine_of : (a : Actor) → CanRestart config a → IsMachine config a
    machine_of (Tablet k) can = can
    machine_of (Status j) can = can
    machine_of (Session n) can = absurd can
    machine_of (Applier n) can = absurd can
command_goes config i s (command.Apply tablet) cluster fits is fine = pass_goes config (command.Apply tablet) tablet cluster is
command_goes config i s (command.Clock node micros) cluster fits is fine = tt

-- what a mover starts fits, and so does all that it asks
pub starts_fit : (config : Config) (a : Actor) (m : Mover) (line : Command) → MayStart config a m line → LineFits config line
starts_fit config (Session i) m line may = session_fits m.keeps.opened line may.2
  where
    session_fits : (opened : Option Opened) (l : Command) → StartsLine config opened l → LineFits config l
    session_fits opened command.End is = record { places = λ place at. absurd at; values = λ o sets. absurd sets }
    session_fits opened l is = line_fits config l is
starts_fit config (Applier k) m line may = subst (LineFits config) (sym may.1) (line_fits config (command.Apply k) may.0)
starts_fit config (Tablet k) m line may = absurd may
starts_fit config (Status j) m line may = absurd may

pub program_goes : (config : Config) (a : Actor) (m : Mover) (line : Command) → IsCluster config → MayStart config a m line → OpenFits config m.keeps.opened → Goes config line (program_of config a m.keeps line)
program_goes config (Session i) m line cluster may fine = command_goes config i m.keeps line cluster (starts_fit config (Session i) m line may) may.2 fine
program_goes config (Applier k) m line cluster may fine =
    subst (λ (l : Command). Goes config l (program_of config (Applier k) m.keeps l)) (sym may.1) (pass_goes config (command.Apply k) k cluster may.0)
program_goes config (Tablet k) m line cluster may fine = absurd may
program_goes config (Status j) m line cluster may fine = absurd may

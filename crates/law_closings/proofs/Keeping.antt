-- A session asks for the end of a transaction that it began, and that was not closed.
use Rattle.std.proofs.Common.{◌≡◌, ℕ, ◌+◌, Bool, true, List, [], ◌∷◌, Option, Some, None, Result, Ok, Err, refl, sym, subst, inl, inr, ◌&&◌}
use Rattle.hybrid_time.specs.Time.{least_time}
use Rattle.hybrid_time.specs.declared.time_refusal.TimeRefusal.{TimeRefusal}
use Rattle.txn_data.specs.declared.actor.Actor.{Actor}
use Rattle.txn_data.specs.declared.actor.Actor.TheVariants.{Tablet, Status, Session, Applier}
use Rattle.txn_data.specs.declared.append.Append.{Append}
use Rattle.txn_data.specs.declared.command.Command.{Command}
use Rattle.txn_data.specs.declared.command.Command.TheVariants as command
use Rattle.txn_data.specs.declared.config.Config.{Config}
use Rattle.txn_data.specs.declared.tablet_limit.TabletLimit.{TabletLimit}
use Rattle.txn_data.specs.declared.request.Request.{Request}
use Rattle.txn_data.specs.declared.request.Request.TheVariants as request
use Rattle.txn_data.specs.declared.reply.Reply.{Reply}
use Rattle.txn_data.specs.declared.reply.Reply.TheVariants as reply
use Rattle.txn_data.specs.declared.told.Told.{Told}
use Rattle.txn_data.specs.declared.told.Told.TheVariants as told
use Rattle.txn_data.specs.declared.told_refusal.ToldRefusal.TheVariants as told_refusal
use Rattle.txn_data.specs.declared.txn_step.TxnStep.TheVariants as step
use Rattle.txn_data.specs.declared.event.Event.{Event}
use Rattle.txn_data.specs.declared.event.Event.TheVariants.{Start, Serve, Restarted}
use Rattle.txn_data.specs.declared.entry.Entry.{Entry}
use Rattle.txn_types.specs.Lists.{Member}
use Rattle.txn_types.specs.History.{History}
use Rattle.txn_types.specs.Plan.{IsCluster}
use Rattle.txn_types.specs.Program.{Program, Done, Asks, Reads, refusal_told}
use Rattle.txn_types.specs.TxnProgram.{refused, lost, txn_program}
use Rattle.txn_types.specs.Session.{Keeps, Opened, txn_id, next_meta, timed_then, begin_program, if_closed, command_program, opens, opened_after}
use Rattle.txn_types.specs.Run.{Mover, MayStart, Allowed, Steps, Run, limits_of, limits_after, may_lose_after, program_of}
use Rattle.law_machines.specs.Own.{StandsOver}
use Rattle.law_messages.proofs.Rules.{Stage, hears, with_own, no_memory, told_memory, entry, kept, GoodServe}
use Rattle.law_messages.proofs.Safe.{Ending, Safe, Keeping}
use Rattle.law_messages.proofs.Runs.{good_of}
use Rattle.law_messages.proofs.Shapes.{Always, OfPasses, pass_always}
use Rattle.law_owners.specs.Owner.{Uses}
use Rattle.law_owners.proofs.Runs.{ids_once}
use Rattle.law_open_txns.specs.Transaction.{IsBeginOf}
use Rattle.law_closings.specs.Laws.{Ends, EndsAt, Closes, ClosedIsNotEnded}
use Rattle.law_closings.proofs.Rules.{BeginsFor, Free, FreeFor, OpenFree, IdleFree, AllBegun, rules, base_step, idle_step, free_later, EndsOnce, NoEnd, stage, IsStill, ends_safe, none_free}
use Rattle.law_closings.proofs.Commands.{line_once, line_still, OpensNone, line_plain, none_opened}

-- ## a program that asks for no end, of a mover that has nothing open then

no_end_free : (m : Actor) (g : History) (asked : Request) → NoEnd asked → FreeFor m g asked
no_end_free m g (request.Commit y floor tablets) plain = absurd plain
no_end_free m g (request.Abort y) plain = absurd plain
no_end_free m g asked plain = tt

abbrev LeavesNone : Config → Actor → Stage → Type 0
LeavesNone config m c = (reading : Option ℕ) (limits : List TabletLimit) (lose : Bool) (t : Told) (g : History) → IdleFree m g (kept config m (record c { reading = reading; limits = limits; may_lose = lose }) t).opened

plain_safe : (config : Config) (m : Actor) (z : History) (p : Program Told) (c : Stage) (h : History) → LeavesNone config m c → Always NoEnd p → Safe rules config m z c h p
plain_safe config m z (Done t) c h leaves always = (λ may g later. (tt, leaves c.reading c.limits c.may_lose told_memory g), λ g later. (tt, leaves c.reading c.limits c.may_lose t g))
plain_safe config m z (Asks to asked next) c h leaves always = (
  λ may g later. (tt, leaves c.reading c.limits c.may_lose told_memory g),
  λ g later steps base. (
    no_end_free m g asked always.0,
    λ reading r time append allowed after. plain_safe config m z (next r) (hears m c to r) (entry to reading (Serve m asked r time append) ∷ g) leaves (always.1 r),
    λ reading k is after. plain_safe config m z (next (reply.Restarted k)) (hears m c to (reply.Restarted k)) (entry to reading (Restarted m k) ∷ g) leaves (always.1 (reply.Restarted k)),
    plain_safe config m z (next no_memory) (hears m c to no_memory) g leaves (always.1 no_memory),
  ),
)
plain_safe config m z (Reads given) c h leaves always = (
  λ may g later. (tt, leaves c.reading c.limits c.may_lose told_memory g),
  λ n g later recorded. (
    plain_safe config m z (given n) (with_own c (Some n)) g leaves (always n),
    λ t is f on. (tt, leaves c.reading c.limits c.may_lose t f),
  ),
)

-- ## a begin

-- the id that the session uses next
abbrev next_id : ℕ → Keeps → ℕ
next_id i s = txn_id i (s.serial + 1)

abbrev IsBegan : Told → Type 0
IsBegan (told.Began x at) = Unit {0}
IsBegan t = ⊥

not_began : (u t : Told) → Done u ≡ Done t → (IsBegan u → ⊥) → IsBegan t → ⊥
not_began u t is never began = let same : u ≡ t = cc in never (subst IsBegan (sym same) began)

opens_free : (config : Config) (i : ℕ) (s : Keeps) (priority : ℕ) (reading : Option ℕ) (t : Told) (g : History) → (IsBegan t → Free (Session i) (next_id i s) g) → OpenFree (Session i) g (opens config i s priority reading t)
opens_free config i s priority (Some n) (told.Began x at) g free = free tt
opens_free config i s priority reading t g free = tt

begin_idle : (config : Config) (i : ℕ) (s : Keeps) (priority : ℕ) (reading : Option ℕ) (limits : List TabletLimit) (t : Told) (g : History) (o : Option Opened) → o ≡ None → (IsBegan t → Free (Session i) (next_id i s) g) →
    OpenFree (Session i) g (opened_after config i s (command.Begin priority) reading limits t o)
begin_idle config i s priority reading limits t g None is free = opens_free config i s priority reading t g free
begin_idle config i s priority reading limits t g (Some x) is free = cc

begins_uses : (x : ℕ) (event : Event) → IsBeginOf x event → Uses x event
begins_uses x (Serve from (request.Begin y isolation priority) reply.Begun time append) is = is
begins_uses x event is = absurd is

module _ (config : Config) (cluster : IsCluster config) (i : ℕ) (s : Keeps) (priority : ℕ) (none : s.opened ≡ None) (z : History) where
  abbrev line : Command
  line = command.Begin priority

  begin_ending : (reading : Option ℕ) (limits : List TabletLimit) (lose : Bool) (h : History) (t : Told) → (IsBegan t → Free (Session i) (next_id i s) h) → Ending rules config (Session i) z (stage s line reading limits lose) h t
  begin_ending reading limits lose h t free = λ g later. (
    tt,
    begin_idle config i s priority reading limits t g s.opened none (λ began. free_later config cluster (Session i) (next_id i s) h g later (free began)),
  )

  begin_told : (reading : Option ℕ) (limits : List TabletLimit) (lose : Bool) (h : History) (t : Told) → (IsBegan t → Free (Session i) (next_id i s) h) → Safe rules config (Session i) z (stage s line reading limits lose) h (Done t)
  begin_told reading limits lose h t free = (λ may. begin_ending reading limits lose h told_memory (λ never. absurd never), begin_ending reading limits lose h t free)

  abbrev begin_next : ℕ → Reply → Program Told
  begin_next now answer = elim answer [
    | reply.Begun ↦ Done (told.Began (next_meta config i s priority).txn now)
    | reply.Refused why ↦ refused (refusal_told (Status (next_meta config i s priority).status) why)
    | _ ↦ lost
  ]

  begin_answered : (reading : Option ℕ) (limits : List TabletLimit) (lose : Bool) (h : History) (now : ℕ) (r : Reply) → (r ≡ reply.Begun → Free (Session i) (next_id i s) h) → Safe rules config (Session i) z (stage s line reading limits lose) h (begin_next now r)
  begin_answered reading limits lose h now reply.Begun free = begin_told reading limits lose h (told.Began (next_meta config i s priority).txn now) (λ began. free refl)
  begin_answered reading limits lose h now (reply.Refused why) free = begin_told reading limits lose h (told.Refused (refusal_told (Status (next_meta config i s priority).status) why)) (λ never. absurd never)
  begin_answered reading limits lose h now r free = begin_told reading limits lose h told_memory (λ never. absurd never)

  abbrev asked : Request
  asked = request.Begin (next_meta config i s priority).txn (next_meta config i s priority).isolation (next_meta config i s priority).priority

  begun_free : (g : History) (to : Actor) (own : Option ℕ) (r : Reply) (time : Option ℕ) (append : Append) → Steps config g → AllBegun g → Allowed config g to own (Serve (Session i) asked r time append) → r ≡ reply.Begun →
      Free (Session i) (next_id i s) (entry to own (Serve (Session i) asked r time append) ∷ g)
  unfolding Steps
  begun_free g to own r time append steps all allowed is =
      let e = entry to own (Serve (Session i) asked r time append) in
      let so_far : Steps config (e ∷ g) = (steps, allowed) in
      let run : Run config (e ∷ g) = (cluster, so_far) in
      let id = next_id i s in
      record {
        not_closed = λ f member closes. elim member [
          | inl same ↦ let never : Closes id e.event = subst (λ (d : Entry). Closes id d.event) same closes in absurd never.0
          | inr more ↦ let begun = all id f more closes in ids_once config (e ∷ g) g e id run (inl (refl, refl)) refl begun.0 begun.1 (begins_uses id begun.0.event begun.2)
        ];
        begun = (e, inl refl, subst (λ (q : Reply). BeginsFor (Session i) (next_id i s) (Serve (Session i) asked q time append)) (sym is) (refl, refl));
      }

  begin_asks : (reading : Option ℕ) (limits : List TabletLimit) (lose : Bool) (h : History) (now : ℕ) → Safe rules config (Session i) z (stage s line reading limits lose) h (txn_program (step.Begin (next_meta config i s priority) now))
  begin_asks reading limits lose h now = (
    λ may. begin_ending reading limits lose h told_memory (λ never. absurd never),
    λ g later steps base. (
      tt,
      λ own r time append allowed after.
          begin_answered reading (limits_after limits (Status (next_meta config i s priority).status) r) (lose && may_lose_after (Session i) r) (entry (Status (next_meta config i s priority).status) own (Serve (Session i) asked r time append) ∷ g) now r (begun_free g (Status (next_meta config i s priority).status) own r time append steps base allowed),
      λ own k is after. cc,
      begin_told reading (limits_after limits (Status (next_meta config i s priority).status) no_memory) (lose && may_lose_after (Session i) no_memory) g told_memory (λ never. absurd never),
    ),
  )

  begin_timed : (n : ℕ) (limits : List TabletLimit) (h : History) (time : Result ℕ TimeRefusal) →
      Safe rules config (Session i) z (stage s line (Some n) limits true) h (timed_then i n (λ now. txn_program (step.Begin (next_meta config i s priority) now)) time)
      × ((t : Told) → timed_then i n (λ now. txn_program (step.Begin (next_meta config i s priority) now)) time ≡ Done t → Ending rules config (Session i) z (stage s line None limits true) h t)
  begin_timed n limits h (Ok now) = (begin_asks (Some n) limits true h now, λ t is. cc)
  begin_timed n limits h (Err why) =
      let range : Told = told.Refused (told_refusal.ClockRange (Session i) n) in (
        begin_told (Some n) limits true h range (λ never. absurd never),
        λ t is. begin_ending None limits true h t (λ began. absurd (not_began range t is (λ never. never) began)),
      )

  begin_safe : (limits : List TabletLimit) (h : History) → Safe rules config (Session i) z (stage s line None limits true) h (begin_program config i s priority)
  begin_safe limits h = (
    λ may. begin_ending None limits true h told_memory (λ never. absurd never),
    λ n g later recorded. begin_timed n limits g (least_time s.last 0 n),
  )

-- ## each line

none_safe : (config : Config) → IsCluster config → (i : ℕ) (s : Keeps) (line : Command) (z h : History) → s.opened ≡ None → OpensNone line → Safe rules config (Session i) z (stage s line None (limits_of s.opened) true) h (command_program config i s line)
none_safe config cluster i s line z h none plain =
    plain_safe config (Session i) z (command_program config i s line) (stage s line None (limits_of s.opened) true) h
    (λ reading limits lose t g. none_free (Session i) g (opened_after config i s line reading limits t s.opened) (subst (λ (o : Option Opened). opened_after config i s line reading limits t o ≡ None) (sym none) (none_opened config i s line reading limits t plain)))
    (line_plain config i s line plain none)

closed_safe : (config : Config) → IsCluster config → (i : ℕ) (s : Keeps) (line : Command) (z h : History) → s.opened ≡ None → Safe rules config (Session i) z (stage s line None (limits_of s.opened) true) h (command_program config i s line)
closed_safe config cluster i s (command.Begin priority) z h none =
    subst (λ (o : Option Opened). Safe rules config (Session i) z (stage s (command.Begin priority) None (limits_of s.opened) true) h (if_closed o (begin_program config i s priority))) (sym none)
    (begin_safe config cluster i s priority none z (limits_of s.opened) h)
closed_safe config cluster i s line z h none = none_safe config cluster i s line z h none tt

opened_safe : (config : Config) → IsCluster config → (i : ℕ) (s : Keeps) (line : Command) (z h : History) (o : Option Opened) → s.opened ≡ o → OpenFree (Session i) h o →
    Safe rules config (Session i) z (stage s line None (limits_of s.opened) true) h (command_program config i s line)
opened_safe config cluster i s line z h None is free = closed_safe config cluster i s line z h is
opened_safe config cluster i s line z h (Some x) is free =
    ends_safe config cluster i s line x.meta.txn (λ reading limits t. subst (λ (o : Option Opened). IsStill x.meta.txn (opened_after config i s line reading limits t o)) (sym is) (line_still config i s line x reading limits t)) z
    None (limits_of s.opened) true h (command_program config i s line)
    (subst (λ (o : Option Opened). EndsOnce x.meta.txn (λ t. (reading : Option ℕ) (limits : List TabletLimit) → opened_after config i s line reading limits t o ≡ None) (command_program config i s line)) (sym is) (line_once config i s line x is)) free

of_passes : OfPasses NoEnd
of_passes = record { lists = tt; asks = λ x t. tt; applies = λ x at. tt; cleans = λ x. tt; notes = λ x tablet. tt }

line_safe : (config : Config) → IsCluster config → (h : History) (m : Actor) (s : Mover) (number : ℕ) (line : Command) → MayStart config m s line → IdleFree m (entry m None (Start number line) ∷ h) s.keeps.opened →
    Safe rules config m h (stage s.keeps line None (limits_of s.keeps.opened) true) (entry m None (Start number line) ∷ h) (program_of config m s.keeps line)
line_safe config cluster h (Session i) s number line may idle = opened_safe config cluster i s.keeps line h (entry (Session i) None (Start number line) ∷ h) s.keeps.opened refl idle
line_safe config cluster h (Applier k) s number line may idle =
    plain_safe config (Applier k) h (program_of config (Applier k) s.keeps line) (stage s.keeps line None (limits_of s.keeps.opened) true) (entry (Applier k) None (Start number line) ∷ h) (λ reading limits lose t g. tt)
    (subst (λ (l : Command). Always NoEnd (program_of config (Applier k) s.keeps l)) (sym may.1) (pass_always NoEnd of_passes k))
line_safe config cluster h (Tablet k) s number line may idle = absurd may
line_safe config cluster h (Status j) s number line may idle = absurd may

pub keeping : (config : Config) → IsCluster config → Keeping rules config
keeping config cluster = record {
  first_base = λ x e member closes. absurd member;
  base = λ h e base fine. base_step config h e base fine;
  first_idle = first;
  idle = λ h e m keeps base fine other idle. idle_step config cluster h e m keeps.opened fine other idle;
  starts = λ h m s number line steps base is may idle. line_safe config cluster h m s number line may idle;
}
  where
    first : (m : Actor) → IdleFree m [] None
    first (Session i) = tt
    first (Applier k) = tt
    first (Tablet k) = tt
    first (Status j) = tt

-- ## the law

ends_free : (before : History) (a : Actor) (m : Actor) (asked : Request) (r : Reply) (time : Option ℕ) (append : Append) (x : ℕ) → GoodServe rules before a (Serve m asked r time append) → Ends x asked → Free m x before
ends_free before a m (request.Commit y floor tablets) r time append x good is = subst (λ (z : ℕ). Free m z before) is good
ends_free before a m (request.Abort y) r time append x good is = subst (λ (z : ℕ). Free m z before) is good
ends_free before a m asked r time append x good is = absurd is

-- what is asked to end was begun by the same mover, and not closed before
pub ends_once : (config : Config) (h before : History) (a m : Actor) (reading : Option ℕ) (asked : Request) (r : Reply) (time : Option ℕ) (append : Append) (x : ℕ) → Run config h →
    StandsOver (entry a reading (Serve m asked r time append)) before h → Ends x asked → Free m x before
ends_once config h before a m reading asked r time append x run stands is =
    ends_free before a m asked r time append x (good_of rules config (keeping config run.0) h before (entry a reading (Serve m asked r time append)) run.1 stands) is

closed_event : (config : Config) (h before : History) (a : Actor) (reading : Option ℕ) (event : Event) (k : Entry) (x : ℕ) → Run config h → StandsOver (entry a reading event) before h → EndsAt x event → Member k before → Closes x k.event → ⊥
closed_event config h before a reading (Serve from asked r time append) k x run stands is = (ends_once config h before a from reading asked r time append x run stands is).not_closed k
closed_event config h before a reading event k x run stands is = absurd is

pub closed_not_ended : ClosedIsNotEnded
closed_not_ended config h before e k x run stands is member closes = closed_event config h before e.actor e.reading e.event k x run stands is member closes

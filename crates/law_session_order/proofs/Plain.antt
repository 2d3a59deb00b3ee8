-- A command that neither writes nor ends its transaction leaves what its session knows of it; and a begin opens a new one.
use Rattle.std.proofs.Common.{inl, ◌≡◌, ℕ, ◌+◌, ◌^◌, ◌<◌, ◌≤◌, max, Bool, true, false, ◌&&◌, List, [], ◌∷◌, Option, Some, None, Result, Ok, Err, nat_lt, refl, sym, ◌∙◌, ap, subst, if◌then◌else◌, arith}
use Rattle.hybrid_time.specs.Time.{least_time, time_at, greatest_reading}
use Rattle.hybrid_time.specs.declared.time_refusal.TimeRefusal.{TimeRefusal}
use Rattle.hybrid_time.specs.declared.time_refusal.TimeRefusal.TheVariants.{ClockRange}
use Rattle.txn_data.specs.declared.actor.Actor.{Actor}
use Rattle.txn_data.specs.declared.actor.Actor.TheVariants.{Status, Session}
use Rattle.txn_data.specs.declared.command.Command.{Command}
use Rattle.txn_data.specs.declared.command.Command.TheVariants as command
use Rattle.txn_data.specs.declared.config.Config.{Config}
use Rattle.txn_data.specs.declared.meta.Meta.{Meta}
use Rattle.txn_data.specs.declared.tablet_limit.TabletLimit.{TabletLimit}
use Rattle.txn_data.specs.declared.request.Request.{Request}
use Rattle.txn_data.specs.declared.request.Request.TheVariants as request
use Rattle.txn_data.specs.declared.reply.Reply.{Reply}
use Rattle.txn_data.specs.declared.reply.Reply.TheVariants as reply
use Rattle.txn_data.specs.declared.told.Told.{Told}
use Rattle.txn_data.specs.declared.told.Told.TheVariants as told
use Rattle.txn_data.specs.declared.told_refusal.ToldRefusal.TheVariants as told_refusal
use Rattle.txn_data.specs.declared.event.Event.{Event}
use Rattle.txn_data.specs.declared.event.Event.TheVariants.{Serve, Restarted}
use Rattle.txn_data.specs.declared.txn_step.TxnStep.TheVariants as step
use Rattle.txn_data.specs.declared.entry.Entry.{Entry}
use Rattle.txn_types.specs.History.{History}
use Rattle.txn_types.specs.Plan.{IsCluster}
use Rattle.txn_types.specs.Program.{Program, Done, Asks, Reads, refusal_told}
use Rattle.txn_types.specs.TxnProgram.{txn_program, refused, lost}
use Rattle.txn_types.specs.Session.{Keeps, Opened, next_meta, txn_id, opens, moved_by, time_taken, timed_then, begin_program, serial_after, opened_after}
use Rattle.txn_types.specs.Run.{limits_after, may_lose_after}
use Rattle.law_messages.proofs.Rules.{lasts, Stage, kept, hears, with_own, no_memory, told_memory, entry}
use Rattle.law_messages.proofs.Safe.{Ending, Safe}
use Rattle.law_messages.proofs.Shapes.{Always}
use Rattle.law_owners.specs.Owner.{owner_of}
use Rattle.law_owners.proofs.Homed.{NotOpen}
use Rattle.law_owners.proofs.Programs.{not_open}
use Rattle.law_owners.proofs.Serials.{next_homed, id_owner, id_number, serial_is}
use Rattle.law_open_txns.proofs.Open.{begun_more, number_of, OpenedOk, TouchesTo, TouchesUpTo, IdleOk, IsGood, rules, idle_later, NoTouch, idle_served, idle_restarted, touches_up}
use Rattle.law_open_txns.specs.Transaction.{Begun, IsBeginOf, IsEndOf, IsCoveredBy}

-- whatever is told, it rests on what it rested on
abbrev pub ClosesAll : Config → Actor → Keeps → Option Command → Type 0
ClosesAll config m keeps line = (g : History) (reading : Option ℕ) (limits : List TabletLimit) (lose : Bool) (t : Told) → IdleOk config g m keeps →
    IdleOk config g m (kept config m (record { keeps = keeps; line = line; reading = reading; limits = limits; may_lose = lose }) t)

plain_good : (config : Config) (h : History) (m a : Actor) (asked : Request) → NoTouch asked → IsGood config h m a asked
plain_good config h m a (request.Write meta number path op read seen fates) plain = absurd plain
plain_good config h m a (request.Commit x floor tablets) plain = absurd plain
plain_good config h m a asked plain = tt

plain_ending : (config : Config) → IsCluster config → (m : Actor) (z : History) (c : Stage) (h : History) (t : Told) → ClosesAll config m c.keeps c.line → IdleOk config h m c.keeps → Ending (rules config) config m z c h t
plain_ending config cluster m z c h t closes idle = λ g later. (tt, closes g c.reading c.limits c.may_lose t (idle_later config cluster m c.keeps h g later idle))

pub plain_safe : (config : Config) → IsCluster config → (m : Actor) (z : History) (p : Program Told) (c : Stage) (h : History) → ClosesAll config m c.keeps c.line → Always NoTouch p → IdleOk config h m c.keeps →
    Safe (rules config) config m z c h p
plain_safe config cluster m z (Done t) c h closes plain idle =
    (λ may. plain_ending config cluster m z c h told_memory closes idle, plain_ending config cluster m z c h t closes idle)
plain_safe config cluster m z (Asks to asked next) c h closes plain idle = (
  λ may. plain_ending config cluster m z c h told_memory closes idle,
  λ g later steps base.
      let now = idle_later config cluster m c.keeps h g later idle in (
        plain_good config g m to asked plain.0,
        λ reading r time append allowed after.
            plain_safe config cluster m z (next r) (hears m c to r) (entry to reading (Serve m asked r time append) ∷ g) closes (plain.1 r) (idle_served config m c.keeps g to reading asked r time append plain.0 now),
        λ reading k is after.
            plain_safe config cluster m z (next (reply.Restarted k)) (hears m c to (reply.Restarted k)) (entry to reading (Restarted m k) ∷ g) closes (plain.1 (reply.Restarted k))
            (idle_restarted config m c.keeps g to reading k now),
        plain_safe config cluster m z (next no_memory) (hears m c to no_memory) g closes (plain.1 no_memory) now,
      ),
)
plain_safe config cluster m z (Reads given) c h closes plain idle = (
  λ may. plain_ending config cluster m z c h told_memory closes idle,
  λ reading g later own.
      let now = idle_later config cluster m c.keeps h g later idle in (
        plain_safe config cluster m z (given reading) (with_own c (Some reading)) g closes (plain reading) now,
        λ t is. plain_ending config cluster m z c g t closes now,
      ),
)

-- a command that is told at once
pub told_safe : (config : Config) → IsCluster config → (m : Actor) (z : History) (c : Stage) (h : History) (t : Told) → IdleOk config h m c.keeps →
    ((g : History) → IdleOk config g m c.keeps → IdleOk config g m (kept config m c t)) → ((g : History) → IdleOk config g m c.keeps → IdleOk config g m (kept config m c told_memory)) →
    Safe (rules config) config m z c h (Done t)
told_safe config cluster m z c h t idle closes loses =
    (λ may g later. (tt, loses g (idle_later config cluster m c.keeps h g later idle)), λ g later. (tt, closes g (idle_later config cluster m c.keeps h g later idle)))

-- ## a begin

new_event : (i n x : ℕ) (event : Event) → owner_of x ≡ i → number_of x ≡ n + 1 → TouchesTo i n event → (last : ℕ) (ks : List ℕ) (a : Actor) → IsCoveredBy x last ks a event
new_event i n x (Serve from (request.Write meta number path op read seen fates) r time append) owner next to last ks a = λ is.
    let low : number_of x ≤ n = subst (λ (y : ℕ). number_of y ≤ n) is (to (ap owner_of is ∙ owner)) in
    absurd (omega (arith, low, next))
new_event i n x event owner next to last ks a = tt

new_end : (i n x : ℕ) (event : Event) → owner_of x ≡ i → number_of x ≡ n + 1 → TouchesTo i n event → IsEndOf x event → ⊥
new_end i n x (Serve from (request.Commit y floor tablets) r time append) owner next to is =
    let low : number_of x ≤ n = subst (λ (z : ℕ). number_of z ≤ n) is.0 (to (ap owner_of is.0 ∙ owner)) in omega (arith, low, next)
new_end i n x (Serve from (request.Abort y) r time append) owner next to is =
    let low : number_of x ≤ n = subst (λ (z : ℕ). number_of z ≤ n) is.0 (to (ap owner_of is.0 ∙ owner)) in omega (arith, low, next)
new_end i n x event owner next to is = absurd is

least_choice : (b : Bool) (m r c : ℕ) → (if b then Err (ClockRange r) else Ok m) ≡ Ok c → m ≡ c
least_choice true m r c is = cc
least_choice false m r c is = cc

least_most : (last reading now : ℕ) → least_time last 0 reading ≡ Ok now → now ≤ max last (time_at reading 0)
least_most last reading now is =
    let e : max (max last 0) (time_at reading 0) ≡ now = least_choice (nat_lt greatest_reading reading) (max (max last 0) (time_at reading 0)) reading now is in
    omega arith

-- the time of a Began is the session's own
abbrev pub BeganAt : History → ℕ → ℕ → Told → Type 0
BeganAt h id now (told.Began x at) = (at ≤ now) × Begun h id
BeganAt h id now t = Unit {0}

-- the id that the session uses next
abbrev id_of : ℕ → Keeps → ℕ
id_of i s = txn_id i (s.serial + 1)

opens_ok : (config : Config) (i : ℕ) (s : Keeps) (priority : ℕ) (reading : Option ℕ) (t : Told) (g : History) (last : ℕ) → s.serial + 1 < 2 ^ 64 → BeganAt g (id_of i s) last t → TouchesUpTo (Session i) s.serial g →
    OpenedOk config g (Session i) last (s.serial + 1) (opens config i s priority reading t)
opens_ok config i s priority (Some reading) (told.Began x at) g last low began touches =
    let id = txn_id i (s.serial + 1) in
    let owner = id_owner i (s.serial + 1) low in
    let number = id_number i (s.serial + 1) low in
    record {
      homed = next_homed config i s priority low;
      number = omega (arith, number);
      read = began.0;
      covered = λ e member. new_event i s.serial id e.event owner number (touches e member) last [] e.actor;
      free = λ is e member. new_end i s.serial id e.event owner number (touches e member);
      begun = began.1;
    }
opens_ok config i s priority reading t g last low began touches = tt

began_more : (h : History) (id low high : ℕ) (t : Told) → low ≤ high → BeganAt h id low t → BeganAt h id high t
began_more h id low high (told.Began x at) le began = let at_low = began.0 in (omega (arith, le, at_low), began.1)
began_more h id low high t le began = tt

began_on : (e : Entry) (h : History) (id now : ℕ) (t : Told) → BeganAt h id now t → BeganAt (e ∷ h) id now t
began_on e h id now (told.Began x at) began = (began.0, begun_more id e h began.1)
began_on e h id now t began = tt

-- what is kept after a begin, by the parts that matter
begin_parts : (config : Config) (i : ℕ) (s : Keeps) (priority : ℕ) (reading : Option ℕ) (limits : List TabletLimit) (t : Told) (g : History) (opened : Option Opened) → opened ≡ None → s.serial + 1 < 2 ^ 64 →
    NotOpen t → BeganAt g (id_of i s) (moved_by s.last reading) t → TouchesUpTo (Session i) s.serial g →
    OpenedOk config g (Session i) (max (moved_by s.last reading) (time_taken t)) (s.serial + 1) (opened_after config i s (command.Begin priority) reading limits t opened)
begin_parts config i s priority reading limits t g None none low ok began touches =
    opens_ok config i s priority reading t g (max (moved_by s.last reading) (time_taken t)) low
    (began_more g (id_of i s) (moved_by s.last reading) (max (moved_by s.last reading) (time_taken t)) t (omega arith) began) touches
begin_parts config i s priority reading limits t g (Some x) none low ok began touches = cc

pub begin_idle : (config : Config) (i : ℕ) (s : Keeps) (priority : ℕ) (reading : Option ℕ) (limits : List TabletLimit) (lose : Bool) (t : Told) (g : History) → s.opened ≡ None → s.serial + 1 < 2 ^ 64 →
    NotOpen t → BeganAt g (id_of i s) (moved_by s.last reading) t → IdleOk config g (Session i) s →
    IdleOk config g (Session i) (kept config (Session i) (record { keeps = s; line = Some (command.Begin priority); reading = reading; limits = limits; may_lose = lose }) t)
begin_idle config i s priority reading limits lose t g none low ok began idle =
    let serial : serial_after s (command.Begin priority) t ≡ s.serial + 1 = serial_is s (command.Begin priority) t ok in
    record {
      opened = subst (λ (n : ℕ). OpenedOk config g (Session i) (max (moved_by s.last reading) (time_taken t)) n (opened_after config i s (command.Begin priority) reading limits t s.opened)) (sym serial)
          (begin_parts config i s priority reading limits t g s.opened none low ok began idle.touches);
      touches = subst (λ (n : ℕ). TouchesUpTo (Session i) n g) (sym serial) (touches_up (Session i) s.serial (s.serial + 1) g (omega arith) idle.touches);
    }

abbrev begin_stage : Keeps → ℕ → Option ℕ → List TabletLimit → Bool → Stage
begin_stage s priority reading limits lose = record { keeps = s; line = Some (command.Begin priority); reading = reading; limits = limits; may_lose = lose }

begin_ending : (config : Config) → IsCluster config → (i : ℕ) (s : Keeps) (priority : ℕ) (reading : Option ℕ) (limits : List TabletLimit) (lose : Bool) (z h : History) (t : Told) → s.opened ≡ None → s.serial + 1 < 2 ^ 64 →
    NotOpen t → BeganAt h (id_of i s) (moved_by s.last reading) t → IdleOk config h (Session i) s → Ending (rules config) config (Session i) z (begin_stage s priority reading limits lose) h t
begin_ending config cluster i s priority reading limits lose z h t none low ok began idle = λ g later. (
  tt,
  begin_idle config i s priority reading limits lose t g none low ok
      (lasts (rules config) config (Session i) (λ k. BeganAt k (id_of i s) (moved_by s.last reading) t) (λ k e base fine other b. began_on e k (id_of i s) (moved_by s.last reading) t b) h g later began)
      (idle_later config cluster (Session i) s h g later idle),
)

begin_told : (config : Config) → IsCluster config → (i : ℕ) (s : Keeps) (priority : ℕ) (reading : Option ℕ) (limits : List TabletLimit) (lose : Bool) (z h : History) (t : Told) → s.opened ≡ None → s.serial + 1 < 2 ^ 64 →
    NotOpen t → BeganAt h (id_of i s) (moved_by s.last reading) t → IdleOk config h (Session i) s → Safe (rules config) config (Session i) z (begin_stage s priority reading limits lose) h (Done t)
begin_told config cluster i s priority reading limits lose z h t none low ok began idle = (
  λ may. begin_ending config cluster i s priority reading limits lose z h told_memory none low tt tt idle,
  begin_ending config cluster i s priority reading limits lose z h t none low ok began idle,
)

begin_answered : (config : Config) → IsCluster config → (i : ℕ) (s : Keeps) (priority now : ℕ) (reading : Option ℕ) (limits : List TabletLimit) (lose : Bool) (z h : History) (meta : Meta) → s.opened ≡ None → s.serial + 1 < 2 ^ 64 →
    now ≤ moved_by s.last reading → IdleOk config h (Session i) s → (r : Reply) → (r ≡ reply.Begun → Begun h (id_of i s)) → Safe (rules config) config (Session i) z (begin_stage s priority reading limits lose) h (elim r [
      | reply.Begun ↦ Done (told.Began meta.txn now)
      | reply.Refused why ↦ refused (refusal_told (Status meta.status) why)
      | _ ↦ lost
    ])
begin_answered config cluster i s priority now reading limits lose z h meta none low le idle reply.Begun heard =
    begin_told config cluster i s priority reading limits lose z h (told.Began meta.txn now) none low tt (le, heard refl) idle
begin_answered config cluster i s priority now reading limits lose z h meta none low le idle (reply.Refused why) heard =
    begin_told config cluster i s priority reading limits lose z h (told.Refused (refusal_told (Status meta.status) why)) none low (not_open (Status meta.status) why) tt idle
begin_answered config cluster i s priority now reading limits lose z h meta none low le idle r heard =
    begin_told config cluster i s priority reading limits lose z h (told.Refused told_refusal.Memory) none low tt tt idle

begin_asks : (config : Config) → IsCluster config → (i : ℕ) (s : Keeps) (priority now : ℕ) (reading : Option ℕ) (limits : List TabletLimit) (lose : Bool) (z h : History) (meta : Meta) → s.opened ≡ None → s.serial + 1 < 2 ^ 64 →
    now ≤ moved_by s.last reading → meta.txn ≡ id_of i s → IdleOk config h (Session i) s → Safe (rules config) config (Session i) z (begin_stage s priority reading limits lose) h (txn_program (step.Begin meta now))
begin_asks config cluster i s priority now reading limits lose z h meta none low le named idle = (
  λ may. begin_ending config cluster i s priority reading limits lose z h told_memory none low tt tt idle,
  λ g later steps base.
      let there = idle_later config cluster (Session i) s h g later idle in (
        tt,
        λ own r time append allowed after. begin_answered config cluster i s priority now reading (limits_after limits (Status meta.status) r) (lose && may_lose_after (Session i) r) z _ meta none low le (idle_served config (Session i) s g _ own _ r time append tt there) r
            (λ is. (
              entry (Status meta.status) own (Serve (Session i) (request.Begin meta.txn meta.isolation meta.priority) r time append),
              inl refl,
              subst (λ (q : Reply). IsBeginOf (id_of i s) (Serve (Session i) (request.Begin meta.txn meta.isolation meta.priority) q time append)) (sym is) named,
            )),
        λ own k is after. cc,
        begin_answered config cluster i s priority now reading (limits_after limits (Status meta.status) no_memory) (lose && may_lose_after (Session i) no_memory) z g meta none low le there no_memory (λ is. cc),
      ),
)

begin_timed : (config : Config) → IsCluster config → (i : ℕ) (s : Keeps) (priority reading : ℕ) (limits : List TabletLimit) (lose : Bool) (z h : History) (time : Result ℕ TimeRefusal) → least_time s.last 0 reading ≡ time →
    s.opened ≡ None → s.serial + 1 < 2 ^ 64 → IdleOk config h (Session i) s →
    Safe (rules config) config (Session i) z (begin_stage s priority (Some reading) limits lose) h (timed_then i reading (λ now. txn_program (step.Begin (next_meta config i s priority) now)) time)
    × ((t : Told) → timed_then i reading (λ now. txn_program (step.Begin (next_meta config i s priority) now)) time ≡ Done t →
    Ending (rules config) config (Session i) z (begin_stage s priority None limits lose) h t)
begin_timed config cluster i s priority reading limits lose z h (Err why) is none low idle = (
  begin_told config cluster i s priority (Some reading) limits lose z h (told.Refused (told_refusal.ClockRange (Session i) reading)) none low tt tt idle,
  λ t same.
      let told_is : told.Refused (told_refusal.ClockRange (Session i) reading) ≡ t = cc in
      subst (λ (u : Told). Ending (rules config) config (Session i) z (begin_stage s priority None limits lose) h u) told_is
      (begin_ending config cluster i s priority None limits lose z h (told.Refused (told_refusal.ClockRange (Session i) reading)) none low tt tt idle),
)
begin_timed config cluster i s priority reading limits lose z h (Ok now) is none low idle =
    let le : now ≤ max s.last (time_at reading 0) = least_most s.last reading now is in
    (begin_asks config cluster i s priority now (Some reading) limits lose z h (next_meta config i s priority) none low le refl idle, λ t same. cc)

pub begin_safe : (config : Config) → IsCluster config → (i : ℕ) (s : Keeps) (priority : ℕ) (limits : List TabletLimit) (z h : History) → s.opened ≡ None → s.serial + 1 < 2 ^ 64 → IdleOk config h (Session i) s →
    Safe (rules config) config (Session i) z (begin_stage s priority None limits true) h (begin_program config i s priority)
begin_safe config cluster i s priority limits z h none low idle = (
  λ may. begin_ending config cluster i s priority None limits true z h told_memory none low tt tt idle,
  λ reading g later own. begin_timed config cluster i s priority reading limits true z g (least_time s.last 0 reading) refl none low (idle_later config cluster (Session i) s h g later idle),
)

-- A commit, an abort and an end: each covers what was written, and closes the transaction, leaves it, or leaves it in doubt.
use Rattle.std.proofs.Common.{◌≡◌, ℕ, ◌≤◌, max, Bool, true, false, ◌&&◌, List, [], ◌∷◌, Option, Some, None, map, refl, sym, ◌∙◌, ap, subst, inl, inr, ◌⊎◌, if◌then◌else◌, arith}
use Rattle.txn_data.specs.declared.actor.Actor.{Actor}
use Rattle.txn_data.specs.declared.actor.Actor.TheVariants.{Status, Session}
use Rattle.txn_data.specs.declared.append.Append.{Append}
use Rattle.txn_data.specs.declared.append.Append.TheVariants.{Nothing}
use Rattle.txn_data.specs.declared.command.Command.{Command}
use Rattle.txn_data.specs.declared.config.Config.{Config}
use Rattle.txn_data.specs.declared.refusal.Refusal.{Refusal}
use Rattle.txn_data.specs.declared.refusal.Refusal.TheVariants as refusal
use Rattle.txn_data.specs.declared.tablet_limit.TabletLimit.{TabletLimit}
use Rattle.txn_data.specs.declared.request.Request.{Request}
use Rattle.txn_data.specs.declared.request.Request.TheVariants as request
use Rattle.txn_data.specs.declared.reply.Reply.{Reply}
use Rattle.txn_data.specs.declared.reply.Reply.TheVariants as reply
use Rattle.txn_data.specs.declared.told.Told.{Told}
use Rattle.txn_data.specs.declared.told.Told.TheVariants as told
use Rattle.txn_data.specs.declared.told_refusal.ToldRefusal.TheVariants as told_refusal
use Rattle.txn_data.specs.declared.event.Event.TheVariants.{Serve}
use Rattle.txn_types.specs.Lists.{Member}
use Rattle.txn_types.specs.History.{History, own}
use Rattle.txn_types.specs.Plan.{IsCluster}
use Rattle.txn_types.specs.Program.{Program, Done, Asks, refusal_told}
use Rattle.txn_types.specs.Session.{Keeps, Opened, Accepted, tablets_used, after_end, opened_after, uses_serial, serial_after, time_taken}
use Rattle.txn_types.specs.Run.{limits_after, may_lose_after, is_settling, Serves}
use Rattle.law_messages.proofs.Rules.{kept, no_memory, told_memory, entry}
use Rattle.law_messages.proofs.Safe.{Ending, Safe}
use Rattle.law_owners.proofs.Homed.{NotOpen}
use Rattle.law_owners.proofs.Programs.{not_open}
use Rattle.law_owners.proofs.Serials.{serial_is, next_serial}
use Rattle.law_open_txns.proofs.Tables.{Ended, Closed, Broken, Standing}
use Rattle.law_open_txns.proofs.Open.{begun_more, tablet_of, number_of, OpenOk, OpenedOk, TouchesTo, TouchesUpTo, IdleOk, IsGood, rules, open_up, touches_more, covered_more, no_end_more, idle_later}
use Rattle.txn_types.specs.Lists.{has_number}
use Rattle.law_machines.proofs.Basics.{eq_true}
use Rattle.std.proofs.lemmas.Bool.{or_cases}
use Rattle.std.proofs.Common.{nat_eq}
use Rattle.law_open_txns.specs.Transaction.{IsEndOf, IsCoveredBy}
use Rattle.law_session_order.proofs.Put.{stage, open_of, settled, touches_later}

-- ## the tablets that a commit names are those of the writes

used_choice : (b : Bool) (k : ℕ) (a : Accepted) (before : List ℕ) (ws : List Accepted) → has_number a.tablet before ≡ b → (k ≡ a.tablet) ⊎ Member k (map tablet_of ws) →
    ((earlier : List ℕ) → Member k (map tablet_of ws) → Member k (tablets_used earlier ws) ⊎ (has_number k earlier ≡ true)) →
    Member k (if b then tablets_used before ws else a.tablet ∷ tablets_used (a.tablet ∷ before) ws) ⊎ (has_number k before ≡ true)
used_choice true k a before ws has m more = elim m [
  | inl is ↦ inr (subst (λ (n : ℕ). has_number n before ≡ true) (sym is) has)
  | inr later ↦ more before later
]
used_choice false k a before ws has m more = elim m [
  | inl is ↦ inl (inl is)
  | inr later ↦ elim (more (a.tablet ∷ before) later) [
    | inl used ↦ inl (inr used)
    | inr earlier ↦ elim (or_cases (nat_eq k a.tablet) (has_number k before) earlier) [
      | inl same ↦ inl (inl (eq_true k a.tablet same))
      | inr old ↦ inr old
    ]
  ]
]

used : (k : ℕ) (before : List ℕ) (ws : List Accepted) → Member k (map tablet_of ws) → Member k (tablets_used before ws) ⊎ (has_number k before ≡ true)
unfolding tablets_used
used k before [] m = absurd m
used k before (a ∷ ws) m = used_choice (has_number a.tablet before) k a before ws refl m (λ earlier later. used k earlier ws later)

pub all_used : (k : ℕ) (ws : List Accepted) → Member k (map tablet_of ws) → Member k (tablets_used [] ws)
all_used k ws m = elim (used k [] ws m) [ inl is ↦ is | inr none ↦ cc ]

-- ## what is kept

pub record EndLine (config : Config) (i : ℕ) (s : Keeps) (x : Opened) (line : Command) : Type 0 where
  pub opened : s.opened ≡ Some x
  pub plain : uses_serial line ≡ false
  pub after : (reading : Option ℕ) (limits : List TabletLimit) (t : Told) → opened_after config i s line reading limits t (Some x) ≡ after_end x t

end_idle : (config : Config) (i : ℕ) (s : Keeps) (x : Opened) (line : Command) (limits : List TabletLimit) (lose : Bool) (t : Told) (g : History) → EndLine config i s x line → NotOpen t →
    OpenedOk config g (Session i) (max s.last (time_taken t)) s.serial (after_end x t) → TouchesUpTo (Session i) s.serial g → IdleOk config g (Session i) (kept config (Session i) (stage s line limits lose) t)
end_idle config i s x line limits lose t g about ok opened touches =
    let serial : serial_after s line t ≡ s.serial = serial_is s line t ok ∙ ap (λ (b : Bool). next_serial b s.serial) about.plain in
    let is : opened_after config i s line None limits t s.opened ≡ after_end x t = ap (λ (o : Option Opened). opened_after config i s line None limits t o) about.opened ∙ about.after None limits t in
    record {
      opened = subst (λ (n : ℕ). OpenedOk config g (Session i) (max s.last (time_taken t)) n (opened_after config i s line None limits t s.opened)) (sym serial)
          (subst (λ (o : Option Opened). OpenedOk config g (Session i) (max s.last (time_taken t)) s.serial o) (sym is) opened);
      touches = subst (λ (n : ℕ). TouchesUpTo (Session i) n g) (sym serial) touches;
    }

-- what is left of a transaction that was not closed
pub record Left (config : Config) (i : ℕ) (s : Keeps) (x : Opened) (t : Told) (h : History) : Type 0 where
  pub y : Opened
  pub is : after_end x t ≡ Some y
  pub ok : OpenOk config h (Session i) s.last s.serial y

ends_left : (config : Config) → IsCluster config → (i : ℕ) (s : Keeps) (x : Opened) (line : Command) (limits : List TabletLimit) (lose : Bool) (z h : History) (t : Told) → EndLine config i s x line → NotOpen t →
    Left config i s x t h → TouchesUpTo (Session i) s.serial h → Ending (rules config) config (Session i) z (stage s line limits lose) h t
ends_left config cluster i s x line limits lose z h t about ok left touches = λ g later.
    let keeps : Keeps = record { last = s.last; serial = s.serial; opened = Some left.y } in
    let there = idle_later config cluster (Session i) keeps h g later (record { opened = left.ok; touches = touches }) in (
      tt,
      end_idle config i s x line limits lose t g about ok
          (subst (λ (o : Option Opened). OpenedOk config g (Session i) (max s.last (time_taken t)) s.serial o) (sym left.is)
          (open_up config g (Session i) s.last (max s.last (time_taken t)) s.serial s.serial left.y (omega arith) (omega arith) there.opened)) there.touches,
    )

ends_shut : (config : Config) → IsCluster config → (i : ℕ) (s : Keeps) (x : Opened) (line : Command) (limits : List TabletLimit) (lose : Bool) (z h : History) (t : Told) → EndLine config i s x line → NotOpen t →
    after_end x t ≡ None → TouchesUpTo (Session i) s.serial h → Ending (rules config) config (Session i) z (stage s line limits lose) h t
ends_shut config cluster i s x line limits lose z h t about ok shut touches = λ g later. (
  tt,
  end_idle config i s x line limits lose t g about ok
      (subst (λ (o : Option Opened). OpenedOk config g (Session i) (max s.last (time_taken t)) s.serial o) (sym shut) tt) (touches_later config cluster i s.serial h g later touches),
)

-- ## a refusal leaves it, or leaves it in doubt

doubtful : (config : Config) (i : ℕ) (s : Keeps) (x : Opened) (h : History) → OpenOk config h (Session i) s.last s.serial x → OpenOk config h (Session i) s.last s.serial (record x { in_doubt = true })
doubtful config i s x h ok = record { homed = ok.homed; number = ok.number; read = ok.read; covered = ok.covered; free = λ is. cc; begun = ok.begun }

refused_left : (config : Config) (i : ℕ) (s : Keeps) (x : Opened) (h : History) (a : Actor) (why : Refusal) → OpenOk config h (Session i) s.last s.serial x → Left config i s x (told.Refused (refusal_told a why)) h
refused_left config i s x h a (refusal.Conflict other) ok = record { y = x; is = refl; ok = ok }
refused_left config i s x h a (refusal.Overlap at) ok = record { y = x; is = refl; ok = ok }
refused_left config i s x h a (refusal.LeaseHeld until) ok = record { y = x; is = refl; ok = ok }
refused_left config i s x h a (refusal.ClockFull at) ok = record { y = x; is = refl; ok = ok }
refused_left config i s x h a (refusal.ClockRange reading) ok = record { y = x; is = refl; ok = ok }
refused_left config i s x h a refusal.LogFault ok = record { y = record x { in_doubt = true }; is = refl; ok = doubtful config i s x h ok }
refused_left config i s x h a (refusal.Down since) ok = record { y = x; is = refl; ok = ok }
refused_left config i s x h a refusal.Memory ok = record { y = x; is = refl; ok = ok }

memory_left : (config : Config) (i : ℕ) (s : Keeps) (x : Opened) (h : History) → OpenOk config h (Session i) s.last s.serial x → Left config i s x told_memory h
memory_left config i s x h ok = record { y = x; is = refl; ok = ok }

-- what is known of it but for commits and aborts
pub record Half (config : Config) (i : ℕ) (s : Keeps) (x : Opened) (h : History) : Type 0 where
  pub known : OpenOk config h (Session i) s.last s.serial (record x { in_doubt = true })
  pub touches : TouchesUpTo (Session i) s.serial h

-- what an answer leaves
pub data Answered (config : Config) (i : ℕ) (s : Keeps) (x : Opened) (h : History) (p : Program Told) : Type 0 where
  Shut : (t : Told) → p ≡ Done t → NotOpen t → after_end x t ≡ None → Answered config i s x h p
  Stays : (t : Told) → p ≡ Done t → NotOpen t → Left config i s x t h → Answered config i s x h p

answered_safe : (config : Config) → IsCluster config → (i : ℕ) (s : Keeps) (x : Opened) (line : Command) (limits : List TabletLimit) (lose : Bool) (z h : History) (p : Program Told) → EndLine config i s x line →
    (lose ≡ true → ⊥) → TouchesUpTo (Session i) s.serial h → Answered config i s x h p → Safe (rules config) config (Session i) z (stage s line limits lose) h p
answered_safe config cluster i s x line limits lose z h p about never touches (Shut t is ok shut) =
    subst (λ (q : Program Told). Safe (rules config) config (Session i) z (stage s line limits lose) h q) (sym is)
    (λ may. absurd (never may), ends_shut config cluster i s x line limits lose z h t about ok shut touches)
answered_safe config cluster i s x line limits lose z h p about never touches (Stays t is ok left) =
    subst (λ (q : Program Told). Safe (rules config) config (Session i) z (stage s line limits lose) h q) (sym is)
    (λ may. absurd (never may), ends_left config cluster i s x line limits lose z h t about ok left touches)

-- ## a request to end

-- the request, the answers that close it, and what each answer leads to
pub record Ending_ (x : Opened) (asked : Request) (C : Reply → Type 0) (next : Reply → Program Told) : Type 0 where
  pub covered : (floor : ℕ) (ks : List ℕ) (a from : Actor) (r : Reply) (time : Option ℕ) (append : Append) → IsCoveredBy x.meta.txn floor ks a (Serve from asked r time append)
  pub ends : (from : Actor) (r : Reply) (time : Option ℕ) → IsEndOf x.meta.txn (Serve from asked r time Nothing) → ⊥
  pub touches : (i n : ℕ) (from : Actor) (r : Reply) (time : Option ℕ) (append : Append) → number_of x.meta.txn ≤ n → TouchesTo i n (Serve from asked r time append)
  pub closes : (r : Reply) → C r → (t : Told) × (next r ≡ Done t) × NotOpen t × (after_end x t ≡ None) × (is_settling r ≡ true)
  pub refuses : (why : Refusal) → next (reply.Refused why) ≡ Done (told.Refused (refusal_told (Status x.meta.status) why))

served_half : (config : Config) (i : ℕ) (s : Keeps) (x : Opened) (asked : Request) (C : Reply → Type 0) (next : Reply → Program Told) → Ending_ x asked C next → (g : History) (reading : Option ℕ) (r : Reply) (time : Option ℕ) (append : Append) →
    OpenOk config g (Session i) s.last s.serial x → TouchesUpTo (Session i) s.serial g → Half config i s x (entry (Status x.meta.status) reading (Serve (Session i) asked r time append) ∷ g)
served_half config i s x asked C next asks g reading r time append ok touches =
    let e = entry (Status x.meta.status) reading (Serve (Session i) asked r time append) in
    record {
      known = record {
        homed = ok.homed;
        number = ok.number;
        read = ok.read;
        covered = covered_more x.meta.txn s.last (map tablet_of x.writes) e g (asks.covered s.last (map tablet_of x.writes) (Status x.meta.status) (Session i) r time append) ok.covered;
        free = λ is. cc;
        begun = begun_more x.meta.txn e g ok.begun;
      };
      touches = touches_more (Session i) s.serial e g (λ j is. asks.touches j s.serial (Session i) r time append ok.number) touches;
    }

answer_of : (config : Config) (i : ℕ) (s : Keeps) (x : Opened) (asked : Request) (C : Reply → Type 0) (next : Reply → Program Told) → Ending_ x asked C next → (g : History) (reading : Option ℕ) (r : Reply) (time : Option ℕ) (append : Append) →
    OpenOk config g (Session i) s.last s.serial x → TouchesUpTo (Session i) s.serial g → Ended C r append →
    Answered config i s x (entry (Status x.meta.status) reading (Serve (Session i) asked r time append) ∷ g) (next r) × (is_settling r ≡ true)
answer_of config i s x asked C next asks g reading r time append ok touches (Closed c) =
    let k = asks.closes r c in (Shut k.0 k.1 k.2 k.3, k.4)
answer_of config i s x asked C next asks g reading r time append ok touches (Broken is) =
    let half = served_half config i s x asked C next asks g reading r time append ok touches in (
      Stays (told.Refused (told_refusal.LogFault (Status x.meta.status))) (ap next is ∙ asks.refuses refusal.LogFault) tt
          (record { y = record x { in_doubt = true }; is = refl; ok = half.known }),
      ap is_settling is,
    )
answer_of config i s x asked C next asks g reading r time append ok touches (Standing why is nothing) =
    let e = entry (Status x.meta.status) reading (Serve (Session i) asked r time append) in
    let half = served_half config i s x asked C next asks g reading r time append ok touches in
    let whole : OpenOk config (e ∷ g) (Session i) s.last s.serial x = record {
      homed = ok.homed;
      number = ok.number;
      read = ok.read;
      covered = half.known.covered;
      free = λ free. no_end_more x.meta.txn e g (λ end. asks.ends (Session i) r time (subst (λ (b : Append). IsEndOf x.meta.txn (Serve (Session i) asked r time b)) nothing end)) (ok.free free);
      begun = half.known.begun;
    } in (
      Stays (told.Refused (refusal_told (Status x.meta.status) why)) (ap next is ∙ asks.refuses why) (not_open (Status x.meta.status) why)
          (refused_left config i s x (e ∷ g) (Status x.meta.status) why whole),
      ap is_settling is,
    )

pub end_safe : (config : Config) → IsCluster config → (i : ℕ) (s : Keeps) (x : Opened) (line : Command) (asked : Request) (C : Reply → Type 0) (next : Reply → Program Told) (z : History) → EndLine config i s x line → Ending_ x asked C next →
    (asked ≡ request.Restart → ⊥) → ((g : History) → OpenOk config g (Session i) s.last s.serial x → IsGood config g (Session i) (Status x.meta.status) asked) →
    ((g : History) (reading : Option ℕ) (r : Reply) (time : Option ℕ) (append : Append) → Serves config.lease_us (Status x.meta.status) g reading asked r time append → Ended C r append) →
    (limits : List TabletLimit) (lose : Bool) (h : History) → IdleOk config h (Session i) s → Safe (rules config) config (Session i) z (stage s line limits lose) h (Asks (Status x.meta.status) asked next)
end_safe config cluster i s x line asked C next z about asks never good ended limits lose h idle = (
  λ may. ends_left config cluster i s x line limits lose z h told_memory about tt (memory_left config i s x h (open_of config i s x h about.opened idle)) idle.touches,
  λ g later steps base.
      let there = idle_later config cluster (Session i) s h g later idle in
      let ok = open_of config i s x g about.opened there in (
        good g ok,
        λ reading r time append allowed after.
            let a = answer_of config i s x asked C next asks g reading r time append ok there.touches (ended (own (Status x.meta.status) g) reading r time append allowed.2) in
            answered_safe config cluster i s x line (limits_after limits (Status x.meta.status) r) (lose && may_lose_after (Session i) r) z _ (next r) about (settled lose r a.1)
            (served_half config i s x asked C next asks g reading r time append ok there.touches).touches a.0,
        λ reading k is after. absurd (never is),
        answered_safe config cluster i s x line (limits_after limits (Status x.meta.status) no_memory) (lose && may_lose_after (Session i) no_memory) z g (next no_memory) about (settled lose no_memory refl) there.touches
            (Stays told_memory (asks.refuses refusal.Memory) tt (memory_left config i s x g ok)),
      ),
)

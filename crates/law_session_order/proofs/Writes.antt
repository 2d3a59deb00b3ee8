-- The write of a put or a del, and the questions before it.
use Rattle.std.proofs.Common.{◌≡◌, ℕ, ◌≤◌, max, Bool, true, ◌&&◌, List, [], ◌∷◌, ◌++◌, Option, Some, None, map, length, refl, sym, subst, inl, inr, arith}
use Rattle.txn_data.specs.declared.actor.Actor.TheVariants.{Tablet, Status, Session}
use Rattle.txn_data.specs.declared.append.Append.{Append}
use Rattle.txn_data.specs.declared.append.Append.TheVariants.{Nothing, Took}
use Rattle.txn_data.specs.declared.command.Command.{Command}
use Rattle.txn_data.specs.declared.config.Config.{Config}
use Rattle.txn_data.specs.declared.fate.Fate.TheVariants as fate
use Rattle.txn_data.specs.declared.fate_of.FateOf.{FateOf}
use Rattle.txn_data.specs.declared.found.Found.{Found}
use Rattle.txn_data.specs.declared.op.Op.{Op}
use Rattle.txn_data.specs.declared.place.Place.{Place}
use Rattle.txn_data.specs.declared.refusal.Refusal.TheVariants as refusal
use Rattle.txn_data.specs.declared.tablet_limit.TabletLimit.{TabletLimit}
use Rattle.txn_data.specs.declared.request.Request.{Request}
use Rattle.txn_data.specs.declared.request.Request.TheVariants as request
use Rattle.txn_data.specs.declared.reply.Reply.{Reply}
use Rattle.txn_data.specs.declared.reply.Reply.TheVariants as reply
use Rattle.txn_data.specs.declared.told.Told.{Told}
use Rattle.txn_data.specs.declared.told.Told.TheVariants as told
use Rattle.txn_data.specs.declared.told_refusal.ToldRefusal.TheVariants as told_refusal
use Rattle.txn_data.specs.declared.event.Event.TheVariants.{Serve}
use Rattle.txn_data.specs.declared.txn_step.TxnStep.TheVariants as step
use Rattle.txn_types.specs.Lists.{Member}
use Rattle.txn_types.specs.History.{History, own}
use Rattle.txn_types.specs.Plan.{IsCluster}
use Rattle.txn_types.specs.Program.{Program, Done, Asks, refusal_told}
use Rattle.txn_types.specs.TxnProgram.{txn_program, lost, write_refused, resolve_all}
use Rattle.txn_types.specs.Session.{Keeps, Opened, Accepted}
use Rattle.txn_types.specs.Run.{limits_after, may_lose_after}
use Rattle.law_messages.proofs.Rules.{no_memory, entry}
use Rattle.law_messages.proofs.Safe.{Safe}
use Rattle.law_owners.proofs.Programs.{not_open}
use Rattle.law_open_txns.proofs.Tables.{Written, Accepted as WasAccepted, Faulty, Turned, written}
use Rattle.law_open_txns.proofs.Open.{begun_more, tablet_of, number_of, OpenOk, OpenedOk, TouchesUpTo, IdleOk, rules, open_more, touches_more, covered_up, covered_more, no_end_more, idle_later, idle_served}
use Rattle.law_session_order.proofs.Put.{Line, stage, kept_idle, open_of, settled, abort_safe, stop_safe, lost_safe, loses_left}

-- ## the accepted writes with one more

last_tablet : (ws : List Accepted) (a : Accepted) → Member a.tablet (map tablet_of (ws ++ a ∷ []))
last_tablet [] a = inl refl
last_tablet (b ∷ ws) a = inr (last_tablet ws a)

more_tablets : (k : ℕ) (ws : List Accepted) (a : Accepted) → Member k (map tablet_of ws) → Member k (map tablet_of (ws ++ a ∷ []))
more_tablets k [] a m = absurd m
more_tablets k (b ∷ ws) a m = elim m [ inl is ↦ inl is | inr more ↦ inr (more_tablets k ws a more) ]

abbrev accepted : Place → Op → Accepted
accepted place op = record { tablet = place.tablet; write = record { path = place.path; op = op } }

abbrev with_write : Opened → Place → Op → Opened
with_write x place op = record x { writes = x.writes ++ accepted place op ∷ [] }

abbrev asks_write : Opened → Place → Op → Keeps → List FateOf → Request
asks_write x place op s fates = request.Write x.meta (length x.writes) place.path op x.r s.last fates

same_some : (w v : ℕ) (time : Option ℕ) → time ≡ Some w → time ≡ Some v → w ≡ v
same_some w v time one two = cc

open_written : (config : Config) (i : ℕ) (s : Keeps) (x : Opened) (place : Place) (op : Op) (fates : List FateOf) (g : History) (reading : Option ℕ) (r : Reply) (time : Option ℕ) (append : Append) (w : ℕ) →
    time ≡ Some w → append ≡ Took → OpenOk config g (Session i) s.last s.serial x →
    OpenOk config (entry (Tablet place.tablet) reading (Serve (Session i) (asks_write x place op s fates) r time append) ∷ g) (Session i) (max s.last w) s.serial (with_write x place op)
open_written config i s x place op fates g reading r time append w at took ok =
    let e = entry (Tablet place.tablet) reading (Serve (Session i) (asks_write x place op s fates) r time append) in
    let ks = map tablet_of (x.writes ++ accepted place op ∷ []) in
    let read = ok.read in
    record {
      homed = ok.homed;
      number = ok.number;
      read = omega (arith, read);
      covered = covered_more x.meta.txn (max s.last w) ks e g
          (λ same. (λ failed. cc, omega (arith, read), λ v is. let eq = same_some w v time at is in (omega (arith, eq), last_tablet x.writes (accepted place op))))
          (covered_up x.meta.txn s.last (max s.last w) (map tablet_of x.writes) ks g (omega arith) (λ k m. more_tablets k x.writes (accepted place op) m) ok.covered);
      free = λ is. no_end_more x.meta.txn e g (λ none. none) (ok.free is);
      begun = begun_more x.meta.txn e g ok.begun;
    }

touch_write : (config : Config) (i : ℕ) (s : Keeps) (x : Opened) (place : Place) (op : Op) (fates : List FateOf) (g : History) (reading : Option ℕ) (r : Reply) (time : Option ℕ) (append : Append) → number_of x.meta.txn ≤ s.serial →
    TouchesUpTo (Session i) s.serial g → TouchesUpTo (Session i) s.serial (entry (Tablet place.tablet) reading (Serve (Session i) (asks_write x place op s fates) r time append) ∷ g)
touch_write config i s x place op fates g reading r time append number touches =
    touches_more (Session i) s.serial (entry (Tablet place.tablet) reading (Serve (Session i) (asks_write x place op s fates) r time append)) g (λ j is own. number) touches

-- it was refused, and nothing was written
turned_idle : (config : Config) (i : ℕ) (s : Keeps) (x : Opened) (place : Place) (op : Op) (fates : List FateOf) (g : History) (reading : Option ℕ) (r : Reply) (time : Option ℕ) (append : Append) → s.opened ≡ Some x →
    time ≡ None → append ≡ Nothing → IdleOk config g (Session i) s → IdleOk config (entry (Tablet place.tablet) reading (Serve (Session i) (asks_write x place op s fates) r time append) ∷ g) (Session i) s
turned_idle config i s x place op fates g reading r time append is none nothing idle =
    let e = entry (Tablet place.tablet) reading (Serve (Session i) (asks_write x place op s fates) r time append) in
    let ok = open_of config i s x g is idle in
    record {
      opened = subst (λ (o : Option Opened). OpenedOk config (e ∷ g) (Session i) s.last s.serial o) (sym is)
          (open_more config (Session i) s.last s.serial x e g (λ same. (λ failed. cc, ok.read, λ w some. cc)) (λ never. never) ok);
      touches = touch_write config i s x place op fates g reading r time append ok.number idle.touches;
    }

-- ## the answer to it

abbrev answered : Opened → Place → Reply → Program Told
answered x place answer = elim answer [
  | reply.Written at ↦ Done (told.Written at)
  | reply.Refused why ↦ write_refused x.meta (refusal_told (Tablet place.tablet) why)
  | _ ↦ lost
]

accepted_safe : (config : Config) → IsCluster config → (i : ℕ) (s : Keeps) (x : Opened) (line : Command) (place : Place) (op : Op) (limits : List TabletLimit) (lose : Bool) (z h : History) (w : ℕ) → Line config i s x line place op →
    (lose ≡ true → ⊥) → OpenOk config h (Session i) (max s.last w) s.serial (with_write x place op) → TouchesUpTo (Session i) s.serial h →
    Safe (rules config) config (Session i) z (stage s line limits lose) h (Done (told.Written w))
accepted_safe config cluster i s x line place op limits lose z h w about never ok touches = (
  λ may. absurd (never may),
  λ g later.
      let then_keeps : Keeps = record { last = max s.last w; serial = s.serial; opened = Some (with_write x place op) } in
      let there = idle_later config cluster (Session i) then_keeps h g later (record { opened = ok; touches = touches }) in
      (tt, kept_idle config i s x line place op limits lose (told.Written w) g about tt there.opened there.touches),
)

write_answered : (config : Config) → IsCluster config → (i : ℕ) (s : Keeps) (x : Opened) (line : Command) (place : Place) (op : Op) (fates : List FateOf) (limits : List TabletLimit) (lose : Bool) (z g : History) (reading : Option ℕ)
    (r : Reply) (time : Option ℕ) (append : Append) → Line config i s x line place op → IdleOk config g (Session i) s → Written r time append →
    Safe (rules config) config (Session i) z (stage s line (limits_after limits (Tablet place.tablet) r) (lose && may_lose_after (Session i) r))
    (entry (Tablet place.tablet) reading (Serve (Session i) (asks_write x place op s fates) r time append) ∷ g) (answered x place r)
write_answered config cluster i s x line place op fates limits lose z g reading r time append about idle (WasAccepted w is at took) =
    let ok = open_of config i s x g about.opened idle in
    subst (λ (q : Reply). Safe (rules config) config (Session i) z (stage s line (limits_after limits (Tablet place.tablet) q) (lose && may_lose_after (Session i) q))
    (entry (Tablet place.tablet) reading (Serve (Session i) (asks_write x place op s fates) r time append) ∷ g) (answered x place q)) (sym is)
    (accepted_safe config cluster i s x line place op (limits_after limits (Tablet place.tablet) (reply.Written w)) (lose && may_lose_after (Session i) (reply.Written w)) z
    (entry (Tablet place.tablet) reading (Serve (Session i) (asks_write x place op s fates) r time append) ∷ g) w about (settled lose (reply.Written w) refl)
    (open_written config i s x place op fates g reading r time append w at took ok) (touch_write config i s x place op fates g reading r time append ok.number idle.touches))
write_answered config cluster i s x line place op fates limits lose z g reading r time append about idle (Faulty is) =
    let ok = open_of config i s x g about.opened idle in
    let fault = reply.Refused refusal.LogFault in
    subst (λ (q : Reply). Safe (rules config) config (Session i) z (stage s line (limits_after limits (Tablet place.tablet) q) (lose && may_lose_after (Session i) q))
    (entry (Tablet place.tablet) reading (Serve (Session i) (asks_write x place op s fates) r time append) ∷ g) (answered x place q)) (sym is)
    (abort_safe config cluster i s x line place op (limits_after limits (Tablet place.tablet) (reply.Refused refusal.LogFault)) (lose && may_lose_after (Session i) (reply.Refused refusal.LogFault)) z
    (entry (Tablet place.tablet) reading (Serve (Session i) (asks_write x place op s fates) r time append) ∷ g) (told_refusal.LogFault (Tablet place.tablet)) about tt
    (λ may. absurd (settled lose (reply.Refused refusal.LogFault) refl may)) ok.number (touch_write config i s x place op fates g reading r time append ok.number idle.touches))
write_answered config cluster i s x line place op fates limits lose z g reading r time append about idle (Turned why is none nothing) =
    subst (λ (q : Reply). Safe (rules config) config (Session i) z (stage s line (limits_after limits (Tablet place.tablet) q) (lose && may_lose_after (Session i) q))
    (entry (Tablet place.tablet) reading (Serve (Session i) (asks_write x place op s fates) r time append) ∷ g) (answered x place q)) (sym is)
    (stop_safe config cluster i s x line place op (limits_after limits (Tablet place.tablet) (reply.Refused why)) (lose && may_lose_after (Session i) (reply.Refused why)) z
    (entry (Tablet place.tablet) reading (Serve (Session i) (asks_write x place op s fates) r time append) ∷ g) (refusal_told (Tablet place.tablet) why) about (not_open (Tablet place.tablet) why)
    (turned_idle config i s x place op fates g reading r time append about.opened none nothing idle))

write_safe : (config : Config) → IsCluster config → (i : ℕ) (s : Keeps) (x : Opened) (line : Command) (place : Place) (op : Op) (fates : List FateOf) (limits : List TabletLimit) (lose : Bool) (z h : History) → Line config i s x line place op →
    IdleOk config h (Session i) s → Safe (rules config) config (Session i) z (stage s line limits lose) h (Asks (Tablet place.tablet) (asks_write x place op s fates) (answered x place))
write_safe config cluster i s x line place op fates limits lose z h about idle = (
  loses_left config cluster i s x line place op limits lose z h about idle,
  λ g later steps base.
      let there = idle_later config cluster (Session i) s h g later idle in (
        ((open_of config i s x g about.opened there).free about.free, (open_of config i s x g about.opened there).begun),
        λ reading r time append allowed after.
            write_answered config cluster i s x line place op fates limits lose z g reading r time append about there
            (written config.lease_us (Tablet place.tablet) (own (Tablet place.tablet) g) reading x.meta (length x.writes) place.path op x.r s.last fates r time append allowed.2),
        λ reading k is after. cc,
        stop_safe config cluster i s x line place op (limits_after limits (Tablet place.tablet) no_memory) (lose && may_lose_after (Session i) no_memory) z g
            (refusal_told (Tablet place.tablet) refusal.Memory) about tt there,
      ),
)

-- ## the questions before it

-- what goes on is safe wherever it goes on
abbrev GoesOn : Config → ℕ → Keeps → Command → History → Program Told → Type 0
GoesOn config i s line z p = (limits : List TabletLimit) (lose : Bool) (g : History) → IdleOk config g (Session i) s → Safe (rules config) config (Session i) z (stage s line limits lose) g p

abbrev resolved : Opened → Found → List Found → List FateOf → (List FateOf → Program Told) → Reply → Program Told
resolved x f fs fates next r = elim r [
  | reply.FateIs heard ↦ elim heard [
    | fate.Pending ↦ write_refused x.meta (told_refusal.Conflict f.txn)
    | settled ↦ resolve_all x.meta fs (fates ++ (record { txn = f.txn; fate = settled }) ∷ []) (write_refused x.meta) next
  ]
  | reply.Refused why ↦ write_refused x.meta (refusal_told (Status f.status) why)
  | _ ↦ lost
]

resolve_answered : (config : Config) → IsCluster config → (i : ℕ) (s : Keeps) (x : Opened) (line : Command) (place : Place) (op : Op) (z : History) (f : Found) (fs : List Found) (fates : List FateOf) (next : List FateOf → Program Told) →
    Line config i s x line place op → ((found : List FateOf) → GoesOn config i s line z (resolve_all x.meta fs found (write_refused x.meta) next)) → (r : Reply) → GoesOn config i s line z (resolved x f fs fates next r)
resolve_answered config cluster i s x line place op z f fs fates next about again (reply.FateIs fate.Pending) = λ limits lose g idle.
    stop_safe config cluster i s x line place op limits lose z g (told_refusal.Conflict f.txn) about tt idle
resolve_answered config cluster i s x line place op z f fs fates next about again (reply.FateIs settled) = again _
resolve_answered config cluster i s x line place op z f fs fates next about again (reply.Refused why) = λ limits lose g idle.
    stop_safe config cluster i s x line place op limits lose z g (refusal_told (Status f.status) why) about (not_open (Status f.status) why) idle
resolve_answered config cluster i s x line place op z f fs fates next about again r = λ limits lose g idle.
    lost_safe config cluster i s x line place op limits lose z g about idle

resolve_safe : (config : Config) → IsCluster config → (i : ℕ) (s : Keeps) (x : Opened) (line : Command) (place : Place) (op : Op) (z : History) (fs : List Found) (fates : List FateOf) (next : List FateOf → Program Told) →
    Line config i s x line place op → ((found : List FateOf) → GoesOn config i s line z (next found)) → GoesOn config i s line z (resolve_all x.meta fs fates (write_refused x.meta) next)
unfolding resolve_all
resolve_safe config cluster i s x line place op z [] fates next about goes = goes fates
resolve_safe config cluster i s x line place op z (f ∷ fs) fates next about goes = λ limits lose h idle.
    let heard : (r : Reply) → GoesOn config i s line z (resolved x f fs fates next r) = resolve_answered config cluster i s x line place op z f fs fates next about (λ found. resolve_safe config cluster i s x line place op z fs found next about goes) in (
      loses_left config cluster i s x line place op limits lose z h about idle,
      λ g later steps base.
          let there = idle_later config cluster (Session i) s h g later idle in (
            tt,
            λ reading r time append allowed after. heard r _ _ _ (idle_served config (Session i) s g (Status f.status) reading (request.Resolve f.txn x.meta.txn x.meta.priority) r time append tt there),
            λ reading k is after. cc,
            heard no_memory _ _ g there,
          ),
    )

abbrev found_next : Opened → Place → (List FateOf → Program Told) → Reply → Program Told
found_next x place next r = elim r [
  | reply.Others found ↦ resolve_all x.meta found [] (write_refused x.meta) next
  | reply.Refused why ↦ write_refused x.meta (refusal_told (Tablet place.tablet) why)
  | _ ↦ lost
]

found_answered : (config : Config) → IsCluster config → (i : ℕ) (s : Keeps) (x : Opened) (line : Command) (place : Place) (op : Op) (z : History) (next : List FateOf → Program Told) → Line config i s x line place op →
    ((found : List FateOf) → GoesOn config i s line z (next found)) → (r : Reply) → GoesOn config i s line z (found_next x place next r)
found_answered config cluster i s x line place op z next about goes (reply.Others found) = resolve_safe config cluster i s x line place op z found [] next about goes
found_answered config cluster i s x line place op z next about goes (reply.Refused why) = λ limits lose g idle.
    stop_safe config cluster i s x line place op limits lose z g (refusal_told (Tablet place.tablet) why) about (not_open (Tablet place.tablet) why) idle
found_answered config cluster i s x line place op z next about goes r = λ limits lose g idle.
    lost_safe config cluster i s x line place op limits lose z g about idle

pub put_safe : (config : Config) → IsCluster config → (i : ℕ) (s : Keeps) (x : Opened) (line : Command) (place : Place) (op : Op) (z : History) → Line config i s x line place op →
    GoesOn config i s line z (txn_program (step.Write x.meta (length x.writes) place op x.r s.last))
put_safe config cluster i s x line place op z about = λ limits lose h idle.
    let next : List FateOf → Program Told = λ fates. Asks (Tablet place.tablet) (asks_write x place op s fates) (answered x place) in
    let goes : (found : List FateOf) → GoesOn config i s line z (next found) = λ found ls l g there. write_safe config cluster i s x line place op found ls l z g about there in
    let heard : (r : Reply) → GoesOn config i s line z (found_next x place next r) = found_answered config cluster i s x line place op z next about goes in (
      loses_left config cluster i s x line place op limits lose z h about idle,
      λ g later steps base.
          let there = idle_later config cluster (Session i) s h g later idle in (
            tt,
            λ reading r time append allowed after. heard r _ _ _ (idle_served config (Session i) s g (Tablet place.tablet) reading (request.ListWrite x.meta.txn place.path) r time append tt there),
            λ reading k is after. cc,
            heard no_memory _ _ g there,
          ),
    )

-- One machine serves a request, and the others stay as they were.
use Rattle.std.proofs.Common.{◌≡◌, ◌≢◌, ℕ, ◌<◌, ◌^◌, true, false, List, ◌∷◌, Some, length, nat_eq, nat_lt, get_or, set, refl, sym, ap, ◌∙◌, subst, inl, inr}
use Rattle.std.specs.List.{slice_get}
use Rattle.std.proofs.lemmas.Option.{slice_get_read}
use Rattle.txn_data.specs.Time.{takes_time}
use Rattle.txn_data.specs.declared.actor.Actor.{Actor}
use Rattle.txn_data.specs.declared.actor.Actor.TheVariants.{Tablet, Status}
use Rattle.txn_data.specs.declared.config.Config.{Config}
use Rattle.txn_data.specs.declared.entry.Entry.{Entry}
use Rattle.txn_data.specs.declared.refusal.Refusal.TheVariants as refusal
use Rattle.txn_data.specs.declared.reply.Reply.{Reply}
use Rattle.txn_data.specs.declared.reply.Reply.TheVariants as reply
use Rattle.txn_data.specs.declared.request.Request.{Request}
use Rattle.txn_data.specs.declared.served.Served.{Served}
use Rattle.txn_data.specs.declared.version.Version.{Version}
use Rattle.txn_types.specs.History.{History, same_actor, own}
use Rattle.txn_types.specs.Machine.{Advances, entry_of}
use Rattle.law_machines.proofs.Basics.{eq_refl, eq_cases}
use Rattle.law_parts.proofs.Own.{own_same, own_other}
use Rattle.tablet_log.specs.Logged.{Store}
use Rattle.tablet_core.specs.Stands as tablet
use Rattle.tablet_core.specs.Stands.{CoreState}
use Rattle.status_tablet.specs.Stands as status
use Rattle.status_tablet.specs.Stands.{StatusState}
use Rattle.regular_records.specs.Holding.{Holds}
use Rattle.world_machines.specs.Machines.{MachinesState, TabletStands, StatusStands, StandsFor}
use Rattle.world_machines.specs.Served.{MovesOn}
use Rattle.world_machines.proofs.Places.{each_set, each_same}

abbrev pub Core : Type 0
Core = CoreState (List Version)

apart : (j k : ℕ) → j ≢ k → nat_eq k j ≡ false
apart j k other = elim (eq_cases k j) [ inl same ↦ absurd (other (sym same.1)) | inr differs ↦ differs.0 ]

tablet_beside : (config : Config) (start : Store) (e : Entry) (h : History) (j : ℕ) (t : Core) → same_actor e.actor (Tablet j) ≡ false → TabletStands config start h j t → TabletStands config start (e ∷ h) j t
tablet_beside config start e h j t other is = record {
  number = is.number;
  lease = is.lease;
  stands = subst (λ (g : History). tablet.Stands Holds t start.held start.faults g) (sym (own_other (Tablet j) e h other)) is.stands;
}

status_beside : (config : Config) (start : Store) (e : Entry) (h : History) (j : ℕ) (t : StatusState) → same_actor e.actor (Status j) ≡ false → StatusStands config start h j t → StatusStands config start (e ∷ h) j t
status_beside config start e h j t other is = record {
  number = is.number;
  lease = is.lease;
  stands = subst (λ (g : History). status.Stands t start.held start.faults g) (sym (own_other (Status j) e h other)) is.stands;
}

-- ## a tablet

tablet_kept : {L : Type 0} (config : Config) (start : Actor → Store) (spare : List L) (h : History) (m : MachinesState L) (k : ℕ) (u : Core) → StandsFor config start spare h m → TabletStands config (start (Tablet k)) h k u →
    StandsFor config start spare h (record m { tablets = set m.tablets k u })
tablet_kept config start spare h m k u stands is = record {
  tablets = each_set (λ j t. TabletStands config (start (Tablet j)) h j t) (λ j t. TabletStands config (start (Tablet j)) h j t) config.tablets m.tablets k u stands.tablets (λ j t other was. was) is;
  statuses = stands.statuses;
  rest = stands.rest;
}

tablet_added : {L : Type 0} (config : Config) (start : Actor → Store) (spare : List L) (e : Entry) (h : History) (m : MachinesState L) (k : ℕ) (u : Core) → e.actor ≡ Tablet k → StandsFor config start spare h m → TabletStands config (start (Tablet k)) (e ∷ h) k u →
    StandsFor config start spare (e ∷ h) (record m { tablets = set m.tablets k u })
tablet_added config start spare e h m k u by stands is = record {
  tablets = each_set (λ j t. TabletStands config (start (Tablet j)) h j t) (λ j t. TabletStands config (start (Tablet j)) (e ∷ h) j t) config.tablets m.tablets k u stands.tablets
      (λ j t other was. tablet_beside config (start (Tablet j)) e h j t (ap (λ (a : Actor). same_actor a (Tablet j)) by ∙ apart j k other) was) is;
  statuses = each_same (λ j t. StatusStands config (start (Status j)) h j t) (λ j t. StatusStands config (start (Status j)) (e ∷ h) j t) config.status m.statuses stands.statuses
      (λ j t was. status_beside config (start (Status j)) e h j t (ap (λ (a : Actor). same_actor a (Status j)) by) was);
  rest = stands.rest;
}

tablet_by_reply : {L : Type 0} (config : Config) (start : Actor → Store) (spare : List L) (h : History) (m : MachinesState L) (k : ℕ) (t u : Core) (from : Actor) (asked : Request) (reading : ℕ) (r : Reply) (served : Served) → served.reply ≡ r →
    StandsFor config start spare h m → k < config.tablets → TabletStands config (start (Tablet k)) h k t → u.tablet ≡ k → u.log.clock.lease ≡ config.lease_us →
    Advances (tablet.Stands Holds t) (tablet.Stands Holds u) config.lease_us (Tablet k) from (Some reading) asked r served →
    MovesOn config start spare h (Tablet k) from asked reading r served (record m { tablets = set m.tablets k u })
tablet_by_reply config start spare h m k t u from asked reading (reply.Refused refusal.Memory) served is stands there was number lease advances =
    tablet_kept config start spare h m k u stands (record { number = number; lease = lease; stands = advances (start (Tablet k)).held (start (Tablet k)).faults (own (Tablet k) h) was.stands })
tablet_by_reply config start spare h m k t u from asked reading r served is stands there was number lease advances =
    let made = advances (start (Tablet k)).held (start (Tablet k)).faults (own (Tablet k) h) was.stands in
    let e = entry_of (Tablet k) from asked (Some reading) served in (
      there,
      made.0,
      tablet_added config start spare e h m k u refl stands (record {
        number = number;
        lease = lease;
        stands = subst (λ (g : History). tablet.Stands Holds u (start (Tablet k)).held (start (Tablet k)).faults g) (sym (own_same (Tablet k) e h (eq_refl k))) made.1;
      }),
    )

-- a tablet served a request by its table
pub tablet_moves : {L : Type 0} (config : Config) (start : Actor → Store) (spare : List L) (h : History) (m : MachinesState L) (k : ℕ) (t u : Core) (from : Actor) (asked : Request) (reading : ℕ) (served : Served) →
    StandsFor config start spare h m → k < length m.tablets → t ≡ get_or m.tablets k t → u.tablet ≡ t.tablet → u.log.clock.lease ≡ t.log.clock.lease →
    Advances (tablet.Stands Holds t) (tablet.Stands Holds u) t.log.clock.lease (Tablet t.tablet) from (Some reading) asked served.reply served →
    MovesOn config start spare h (Tablet k) from asked reading served.reply served (record m { tablets = set m.tablets k u })
tablet_moves config start spare h m k t u from asked reading served stands within at number lease advances =
    let was = stands.tablets.each k t (slice_get_read m.tablets (length m.tablets) k t refl within at) in
    tablet_by_reply config start spare h m k t u from asked reading served.reply served refl stands (subst (λ n. k < n) stands.tablets.as_many within) was (number ∙ was.number) (lease ∙ was.lease)
    (subst (λ n. Advances (tablet.Stands Holds t) (tablet.Stands Holds u) n (Tablet k) from (Some reading) asked served.reply served) was.lease
    (subst (λ n. Advances (tablet.Stands Holds t) (tablet.Stands Holds u) t.log.clock.lease (Tablet n) from (Some reading) asked served.reply served) was.number advances))

-- ## a status tablet

status_kept : {L : Type 0} (config : Config) (start : Actor → Store) (spare : List L) (h : History) (m : MachinesState L) (k : ℕ) (u : StatusState) → StandsFor config start spare h m → StatusStands config (start (Status k)) h k u →
    StandsFor config start spare h (record m { statuses = set m.statuses k u })
status_kept config start spare h m k u stands is = record {
  tablets = stands.tablets;
  statuses = each_set (λ j t. StatusStands config (start (Status j)) h j t) (λ j t. StatusStands config (start (Status j)) h j t) config.status m.statuses k u stands.statuses (λ j t other was. was) is;
  rest = stands.rest;
}

status_added : {L : Type 0} (config : Config) (start : Actor → Store) (spare : List L) (e : Entry) (h : History) (m : MachinesState L) (k : ℕ) (u : StatusState) → e.actor ≡ Status k → StandsFor config start spare h m → StatusStands config (start (Status k)) (e ∷ h) k u →
    StandsFor config start spare (e ∷ h) (record m { statuses = set m.statuses k u })
status_added config start spare e h m k u by stands is = record {
  tablets = each_same (λ j t. TabletStands config (start (Tablet j)) h j t) (λ j t. TabletStands config (start (Tablet j)) (e ∷ h) j t) config.tablets m.tablets stands.tablets
      (λ j t was. tablet_beside config (start (Tablet j)) e h j t (ap (λ (a : Actor). same_actor a (Tablet j)) by) was);
  statuses = each_set (λ j t. StatusStands config (start (Status j)) h j t) (λ j t. StatusStands config (start (Status j)) (e ∷ h) j t) config.status m.statuses k u stands.statuses
      (λ j t other was. status_beside config (start (Status j)) e h j t (ap (λ (a : Actor). same_actor a (Status j)) by ∙ apart j k other) was) is;
  rest = stands.rest;
}

status_by_reply : {L : Type 0} (config : Config) (start : Actor → Store) (spare : List L) (h : History) (m : MachinesState L) (k : ℕ) (t u : StatusState) (from : Actor) (asked : Request) (reading : ℕ) (r : Reply) (served : Served) → served.reply ≡ r →
    StandsFor config start spare h m → k < config.status → StatusStands config (start (Status k)) h k t → u.status ≡ k → u.log.clock.lease ≡ config.lease_us →
    Advances (status.Stands t) (status.Stands u) config.lease_us (Status k) from (Some reading) asked r served →
    MovesOn config start spare h (Status k) from asked reading r served (record m { statuses = set m.statuses k u })
status_by_reply config start spare h m k t u from asked reading (reply.Refused refusal.Memory) served is stands there was number lease advances =
    status_kept config start spare h m k u stands (record { number = number; lease = lease; stands = advances (start (Status k)).held (start (Status k)).faults (own (Status k) h) was.stands })
status_by_reply config start spare h m k t u from asked reading r served is stands there was number lease advances =
    let made = advances (start (Status k)).held (start (Status k)).faults (own (Status k) h) was.stands in
    let e = entry_of (Status k) from asked (Some reading) served in (
      there,
      made.0,
      status_added config start spare e h m k u refl stands (record {
        number = number;
        lease = lease;
        stands = subst (λ (g : History). status.Stands u (start (Status k)).held (start (Status k)).faults g) (sym (own_same (Status k) e h (eq_refl k))) made.1;
      }),
    )

-- a status tablet served a request by its table
pub status_moves : {L : Type 0} (config : Config) (start : Actor → Store) (spare : List L) (h : History) (m : MachinesState L) (k : ℕ) (t u : StatusState) (from : Actor) (asked : Request) (reading : ℕ) (served : Served) →
    StandsFor config start spare h m → k < length m.statuses → t ≡ get_or m.statuses k t → u.status ≡ t.status → u.log.clock.lease ≡ t.log.clock.lease →
    Advances (status.Stands t) (status.Stands u) t.log.clock.lease (Status t.status) from (Some reading) asked served.reply served →
    MovesOn config start spare h (Status k) from asked reading served.reply served (record m { statuses = set m.statuses k u })
status_moves config start spare h m k t u from asked reading served stands within at number lease advances =
    let was = stands.statuses.each k t (slice_get_read m.statuses (length m.statuses) k t refl within at) in
    status_by_reply config start spare h m k t u from asked reading served.reply served refl stands (subst (λ n. k < n) stands.statuses.as_many within) was (number ∙ was.number) (lease ∙ was.lease)
    (subst (λ n. Advances (status.Stands t) (status.Stands u) n (Status k) from (Some reading) asked served.reply served) was.lease
    (subst (λ n. Advances (status.Stands t) (status.Stands u) t.log.clock.lease (Status n) from (Some reading) asked served.reply served) was.number advances))

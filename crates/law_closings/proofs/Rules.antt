-- Once a commit or an abort of a transaction was answered so that it closes, none is served again.
use Rattle.std.proofs.Common.{◌≡◌, ℕ, Bool, true, false, ◌&&◌, List, ◌∷◌, Option, Some, None, refl, sym, ◌∙◌, ap, subst, inl, inr, ◌⊎◌}
use Rattle.txn_data.specs.declared.actor.Actor.{Actor}
use Rattle.txn_data.specs.declared.actor.Actor.TheVariants.{Tablet, Status, Session, Applier}
use Rattle.txn_data.specs.declared.command.Command.{Command}
use Rattle.txn_data.specs.declared.config.Config.{Config}
use Rattle.txn_data.specs.declared.tablet_limit.TabletLimit.{TabletLimit}
use Rattle.txn_data.specs.declared.request.Request.{Request}
use Rattle.txn_data.specs.declared.request.Request.TheVariants as request
use Rattle.txn_data.specs.declared.reply.Reply.{Reply}
use Rattle.txn_data.specs.declared.reply.Reply.TheVariants as reply
use Rattle.txn_data.specs.declared.told.Told.{Told}
use Rattle.txn_data.specs.declared.event.Event.{Event}
use Rattle.txn_data.specs.declared.event.Event.TheVariants.{Serve, Restarted}
use Rattle.txn_data.specs.declared.entry.Entry.{Entry}
use Rattle.txn_types.specs.Lists.{Member, or_else}
use Rattle.txn_types.specs.History.{History}
use Rattle.txn_types.specs.Plan.{IsCluster}
use Rattle.txn_types.specs.Program.{Program, Done, Asks, Reads}
use Rattle.txn_types.specs.Session.{Keeps, Opened, opened_after}
use Rattle.txn_types.specs.Run.{Steps, is_settling, limits_after, may_lose_after}
use Rattle.law_messages.proofs.Rules.{Rules, Stage, no_memory, told_memory, entry, IsFor, IsFine, GoodServe, Later, lasts}
use Rattle.law_messages.proofs.Safe.{Ending, Safe}
use Rattle.law_messages.proofs.Shapes.{Always}
use Rattle.law_owners.specs.Owner.{owner_of, IsHomedAt}
use Rattle.law_owners.proofs.Runs.{requests_homed}
use Rattle.law_open_txns.specs.Transaction.{Begun, IsBeginOf}
use Rattle.law_open_txns.specs.Laws.{ClosesCommit, ClosesAbort}
use Rattle.law_closings.specs.Laws.{ClosesBy, Closes}

-- ## closings

abbrev pub NotClosed : ℕ → History → Type 0
NotClosed x h = (e : Entry) → Member e h → Closes x e.event → ⊥

-- a Begin of this mover that was answered
abbrev pub BeginsFor : Actor → ℕ → Event → Type 0
BeginsFor m x (Serve from (request.Begin y isolation priority) reply.Begun time append) = (from ≡ m) × (y ≡ x)
BeginsFor m x event = ⊥

abbrev pub BegunFor : Actor → History → ℕ → Type 0
BegunFor m h x = (e : Entry) × Member e h × BeginsFor m x e.event

-- a mover's own transaction, begun and not closed
pub record Free (m : Actor) (x : ℕ) (h : History) : Type 0 where
  pub not_closed : NotClosed x h
  pub begun : BegunFor m h x

-- ## the rules

abbrev pub FreeFor : Actor → History → Request → Type 0
FreeFor m h (request.Commit y floor tablets) = Free m y h
FreeFor m h (request.Abort y) = Free m y h
FreeFor m h asked = Unit {0}

abbrev pub OpenFree : Actor → History → Option Opened → Type 0
OpenFree m h None = Unit {0}
OpenFree m h (Some x) = Free m x.meta.txn h

-- what a session rests on between two commands
abbrev pub IdleFree : Actor → History → Option Opened → Type 0
IdleFree (Session i) h o = OpenFree (Session i) h o
IdleFree m h o = Unit {0}

abbrev pub AllBegun : History → Type 0
AllBegun h = (x : ℕ) (e : Entry) → Member e h → Closes x e.event → Begun h x

abbrev pub rules : Rules
rules = record {
  Base = λ h. AllBegun h;
  Good = λ h m a asked. FreeFor m h asked;
  Idle = λ h m keeps. IdleFree m h keeps.opened;
  Ends = λ z m h c t. Unit {0};
}

-- ## one more entry

begins_begun : (m : Actor) (x : ℕ) (event : Event) → BeginsFor m x event → IsBeginOf x event
begins_begun m x (Serve from (request.Begin y isolation priority) reply.Begun time append) is = is.1
begins_begun m x event is = absurd is

pub begun_for : (m : Actor) (h : History) (x : ℕ) → BegunFor m h x → Begun h x
begun_for m h x begun = (begun.0, begun.1, begins_begun m x begun.0.event begun.2)

pub free_more : (m : Actor) (x : ℕ) (e : Entry) (h : History) → (Closes x e.event → ⊥) → Free m x h → Free m x (e ∷ h)
free_more m x e h never free = record {
  not_closed = λ f member closes. elim member [
    | inl is ↦ never (subst (λ (g : Entry). Closes x g.event) is closes)
    | inr more ↦ free.not_closed f more closes
  ];
  begun = (free.begun.0, inr free.begun.1, free.begun.2);
}

closed_free : (h : History) (a : Actor) (event : Event) (x : ℕ) → GoodServe rules h a event → Closes x event → (m : Actor) × IsFor m event × Free m x h
closed_free h a (Serve from (request.Commit y floor tablets) r time append) x good closes = (from, refl, subst (λ (z : ℕ). Free from z h) closes.0 good)
closed_free h a (Serve from (request.Abort y) r time append) x good closes = (from, refl, subst (λ (z : ℕ). Free from z h) closes.0 good)
closed_free h a (Serve from asked r time append) x good closes = absurd closes.0
closed_free h a event x good closes = absurd closes

pub base_step : (config : Config) (h : History) (e : Entry) → AllBegun h → IsFine rules config h e → AllBegun (e ∷ h)
base_step config h e all fine x f member closes = elim member [
  | inl is ↦
      let free = closed_free h e.actor e.event x fine.good (subst (λ (g : Entry). Closes x g.event) is closes) in
      let begun = begun_for free.0 h x free.2.begun in
      (begun.0, inr begun.1, begun.2)
  | inr more ↦ let begun = all x f more closes in (begun.0, inr begun.1, begun.2)
]

-- who began it owns it
begins_owner : (config : Config) (a m : Actor) (x : ℕ) (event : Event) → IsHomedAt config a event → BeginsFor m x event → m ≡ Session (owner_of x)
begins_owner config a m x (Serve from (request.Begin y isolation priority) reply.Begun time append) homed is = sym is.0 ∙ (homed.0.0 ∙ ap (λ (z : ℕ). Session (owner_of z)) is.1)
begins_owner config a m x event homed is = absurd is

owned : (config : Config) → IsCluster config → (h : History) (m : Actor) (x : ℕ) → Steps config h → Free m x h → m ≡ Session (owner_of x)
owned config cluster h m x steps free = begins_owner config free.begun.0.actor m x free.begun.0.event (requests_homed config h free.begun.0 (cluster, steps) free.begun.1) free.begun.2

for_one : (m n : Actor) (event : Event) → m ≡ n → IsFor m event → IsFor n event
for_one m n event is for = subst (λ (a : Actor). IsFor a event) is for

free_step : (config : Config) → IsCluster config → (h : History) (e : Entry) (m : Actor) (x : ℕ) → IsFine rules config h e → (IsFor m e.event → ⊥) → Free m x h → Free m x (e ∷ h)
free_step config cluster h e m x fine other free = free_more m x e h (λ closes.
    let by = closed_free h e.actor e.event x fine.good closes in
    other (for_one by.0 m e.event (owned config cluster h by.0 x fine.steps by.2 ∙ sym (owned config cluster h m x fine.steps free)) by.1)) free

open_step : (config : Config) → IsCluster config → (h : History) (e : Entry) (m : Actor) (o : Option Opened) → IsFine rules config h e → (IsFor m e.event → ⊥) → OpenFree m h o → OpenFree m (e ∷ h) o
open_step config cluster h e m None fine other free = tt
open_step config cluster h e m (Some x) fine other free = free_step config cluster h e m x.meta.txn fine other free

pub idle_step : (config : Config) → IsCluster config → (h : History) (e : Entry) (m : Actor) (o : Option Opened) → IsFine rules config h e → (IsFor m e.event → ⊥) → IdleFree m h o → IdleFree m (e ∷ h) o
idle_step config cluster h e (Session i) o fine other free = open_step config cluster h e (Session i) o fine other free
idle_step config cluster h e (Applier k) o fine other free = tt
idle_step config cluster h e (Tablet k) o fine other free = tt
idle_step config cluster h e (Status j) o fine other free = tt

pub free_later : (config : Config) → IsCluster config → (m : Actor) (x : ℕ) (h g : History) → Later rules config m h g → Free m x h → Free m x g
free_later config cluster m x = lasts rules config m (λ h. Free m x h) (λ h e base fine other free. free_step config cluster h e m x fine other free)

-- ## programs that end a transaction at most once

-- what is asked ends no other transaction
abbrev pub EndsNoOther : ℕ → Request → Type 0
EndsNoOther x (request.Commit y floor tablets) = y ≡ x
EndsNoOther x (request.Abort y) = y ≡ x
EndsNoOther x asked = Unit {0}

-- it comes at once to something that closes the transaction for its session
abbrev pub Shuts : (Told → Type 0) → Program Told → Type 0
Shuts shut p = (t : Told) × (p ≡ Done t) × shut t

abbrev pub EndsOnce : ℕ → (Told → Type 0) → Program Told → Type 0
EndsOnce x shut (Done t) = Unit {0}
EndsOnce x shut (Asks to asked next) = EndsNoOther x asked × ((r : Reply) → (ClosesBy asked r → Shuts shut (next r)) × EndsOnce x shut (next r))
EndsOnce x shut (Reads given) = (n : ℕ) → EndsOnce x shut (given n)

-- it asks for no end
abbrev pub NoEnd : Request → Type 0
NoEnd (request.Commit y floor tablets) = ⊥
NoEnd (request.Abort y) = ⊥
NoEnd asked = Unit {0}

no_end_other : (x : ℕ) (asked : Request) → NoEnd asked → EndsNoOther x asked
no_end_other x (request.Commit y floor tablets) plain = absurd plain
no_end_other x (request.Abort y) plain = absurd plain
no_end_other x asked plain = tt

no_end_closes : (asked : Request) (r : Reply) → NoEnd asked → ClosesBy asked r → ⊥
no_end_closes (request.Commit y floor tablets) r plain closes = plain
no_end_closes (request.Abort y) r plain closes = plain
no_end_closes asked r plain closes = closes

pub never_ends : (x : ℕ) (shut : Told → Type 0) (p : Program Told) → Always NoEnd p → EndsOnce x shut p
never_ends x shut (Done t) always = tt
never_ends x shut (Asks to asked next) always = (no_end_other x asked always.0, λ r. (λ closes. absurd (no_end_closes asked r always.0 closes), never_ends x shut (next r) (always.1 r)))
never_ends x shut (Reads given) always = λ n. never_ends x shut (given n) (always n)

-- ## such a program is safe

closes_or_not : (asked : Request) (r : Reply) → ClosesBy asked r ⊎ (ClosesBy asked r → ⊥)
closes_or_not (request.Commit y floor tablets) (reply.Committed c) = inl tt
closes_or_not (request.Commit y floor tablets) (reply.AbortedBy by) = inl tt
closes_or_not (request.Commit y floor tablets) reply.Gone = inl tt
closes_or_not (request.Commit y floor tablets) r = inr (λ never. never)
closes_or_not (request.Abort y) (reply.Committed c) = inl tt
closes_or_not (request.Abort y) reply.Ended = inl tt
closes_or_not (request.Abort y) r = inr (λ never. never)
closes_or_not asked r = inr (λ never. never)

commit_settles : (r : Reply) → ClosesCommit r → is_settling r ≡ true
commit_settles (reply.Committed c) closes = refl
commit_settles (reply.AbortedBy by) closes = refl
commit_settles reply.Gone closes = refl
commit_settles r closes = absurd closes

abort_settles : (r : Reply) → ClosesAbort r → is_settling r ≡ true
abort_settles (reply.Committed c) closes = refl
abort_settles reply.Ended closes = refl
abort_settles r closes = absurd closes

settles : (asked : Request) (r : Reply) → ClosesBy asked r → is_settling r ≡ true
settles (request.Commit y floor tablets) r closes = commit_settles r closes
settles (request.Abort y) r closes = abort_settles r closes
settles asked r closes = absurd closes

free_for : (m : Actor) (x : ℕ) (g : History) (asked : Request) → EndsNoOther x asked → Free m x g → FreeFor m g asked
free_for m x g (request.Commit y floor tablets) is free = subst (λ (z : ℕ). Free m z g) (sym is) free
free_for m x g (request.Abort y) is free = subst (λ (z : ℕ). Free m z g) (sym is) free
free_for m x g asked is free = tt

abbrev pub stage : Keeps → Command → Option ℕ → List TabletLimit → Bool → Stage
stage s line reading limits lose = record { keeps = s; line = Some line; reading = reading; limits = limits; may_lose = lose }

-- what is left of the transaction, whatever is told, is the same one
abbrev pub IsStill : ℕ → Option Opened → Type 0
IsStill x None = Unit {0}
IsStill x (Some y) = y.meta.txn ≡ x

abbrev pub StaysOne : Config → ℕ → Keeps → Command → ℕ → Type 0
StaysOne config i s line x = (reading : Option ℕ) (limits : List TabletLimit) (t : Told) → IsStill x (opened_after config i s line reading limits t s.opened)

abbrev pub ShutBy : Config → ℕ → Keeps → Command → Told → Type 0
ShutBy config i s line t = (reading : Option ℕ) (limits : List TabletLimit) → opened_after config i s line reading limits t s.opened ≡ None

still_free : (m : Actor) (x : ℕ) (g : History) (o : Option Opened) → IsStill x o → Free m x g → OpenFree m g o
still_free m x g None is free = tt
still_free m x g (Some y) is free = subst (λ (z : ℕ). Free m z g) (sym is) free

pub none_free : (m : Actor) (g : History) (o : Option Opened) → o ≡ None → OpenFree m g o
none_free m g o is = subst (λ (p : Option Opened). OpenFree m g p) (sym is) tt

module _ (config : Config) (cluster : IsCluster config) (i : ℕ) (s : Keeps) (line : Command) (x : ℕ) (stays : StaysOne config i s line x) (z : History) where
  abbrev m : Actor
  m = Session i

  told_ending : (reading : Option ℕ) (limits : List TabletLimit) (lose : Bool) (h : History) (t : Told) → Free m x h → Ending rules config m z (stage s line reading limits lose) h t
  told_ending reading limits lose h t free = λ g later. (tt, still_free m x g (opened_after config i s line reading limits t s.opened) (stays reading limits t) (free_later config cluster m x h g later free))

  shut_safe : (reading : Option ℕ) (limits : List TabletLimit) (lose : Bool) (h : History) (p : Program Told) → (lose ≡ true → ⊥) → Shuts (ShutBy config i s line) p → Safe rules config m z (stage s line reading limits lose) h p
  shut_safe reading limits lose h p never shuts =
      subst (λ (q : Program Told). Safe rules config m z (stage s line reading limits lose) h q) (sym shuts.1)
      (λ may. absurd (never may), λ g later. (tt, none_free m g (opened_after config i s line reading limits shuts.0 s.opened) (shuts.2 reading limits)))

  pub ends_safe : (reading : Option ℕ) (limits : List TabletLimit) (lose : Bool) (h : History) (p : Program Told) → EndsOnce x (ShutBy config i s line) p → Free m x h → Safe rules config m z (stage s line reading limits lose) h p
  ends_safe reading limits lose h (Done t) ends free = (λ may. told_ending reading limits lose h told_memory free, told_ending reading limits lose h t free)
  ends_safe reading limits lose h (Asks to asked next) ends free = (
    λ may. told_ending reading limits lose h told_memory free,
    λ g later steps base.
        let now = free_later config cluster m x h g later free in (
          free_for m x g asked ends.0 now,
          λ own r time append allowed after. elim (closes_or_not asked r) [
            | inl closes ↦ shut_safe reading (limits_after limits to r) (lose && may_lose_after m r) (entry to own (Serve m asked r time append) ∷ g) (next r) (not_lost lose r (settles asked r closes)) ((ends.1 r).0 closes)
            | inr stays_open ↦ ends_safe reading (limits_after limits to r) (lose && may_lose_after m r) (entry to own (Serve m asked r time append) ∷ g) (next r) (ends.1 r).1
                (free_more m x (entry to own (Serve m asked r time append)) g (λ closes. stays_open closes.1) now)
          ],
          λ own k is after. ends_safe reading (limits_after limits to (reply.Restarted k)) (lose && may_lose_after m (reply.Restarted k)) (entry to own (Restarted m k) ∷ g) (next (reply.Restarted k)) (ends.1 (reply.Restarted k)).1
              (free_more m x (entry to own (Restarted m k)) g (λ closes. closes) now),
          ends_safe reading (limits_after limits to no_memory) (lose && may_lose_after m no_memory) g (next no_memory) (ends.1 no_memory).1 now,
        ),
  )
    where
      not_lost : (lost : Bool) (r : Reply) → is_settling r ≡ true → (lost && may_lose_after (Session i) r) ≡ true → ⊥
      not_lost true r is may = let plain : may_lose_after (Session i) r ≡ false = rw is refl in cc
      not_lost false r is may = cc
  ends_safe reading limits lose h (Reads given) ends free = (
    λ may. told_ending reading limits lose h told_memory free,
    λ n g later recorded.
        let now = free_later config cluster m x h g later free in (
          ends_safe (or_else reading (Some n)) limits lose g (given n) (ends n) now,
          λ t is. told_ending reading limits lose g t now,
        ),
  )

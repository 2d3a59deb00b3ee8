-- What a session knows of the writes of its open transaction: they are the accepted ones, numbered in their order.
use Rattle.std.proofs.Common.{◌≡◌, ℕ, ◌<◌, Bool, List, ◌∷◌, ◌++◌, Option, Some, None, reverse, refl, sym, ◌∙◌, ap, subst, inl}
use Rattle.txn_data.specs.declared.actor.Actor.{Actor}
use Rattle.txn_data.specs.declared.actor.Actor.TheVariants.{Session}
use Rattle.txn_data.specs.declared.append.Append.{Append}
use Rattle.txn_data.specs.declared.command.Command.{Command}
use Rattle.txn_data.specs.declared.config.Config.{Config}
use Rattle.txn_data.specs.declared.request.Request.{Request}
use Rattle.txn_data.specs.declared.request.Request.TheVariants as request
use Rattle.txn_data.specs.declared.reply.Reply.{Reply}
use Rattle.txn_data.specs.declared.reply.Reply.TheVariants as reply
use Rattle.txn_data.specs.declared.tablet_limit.TabletLimit.{TabletLimit}
use Rattle.txn_data.specs.declared.told.Told.{Told}
use Rattle.txn_data.specs.declared.written.Written.{Written}
use Rattle.txn_data.specs.declared.event.Event.{Event}
use Rattle.txn_data.specs.declared.event.Event.TheVariants.{Serve, Restarted}
use Rattle.txn_data.specs.declared.entry.Entry.{Entry}
use Rattle.txn_types.specs.Lists.{Member}
use Rattle.txn_types.specs.History.{History}
use Rattle.txn_types.specs.Plan.{IsCluster}
use Rattle.txn_types.specs.Program.{Program, Done, Asks, Reads}
use Rattle.txn_types.specs.Committed.{Numbered}
use Rattle.txn_types.specs.Session.{Keeps, Opened, writes_of}
use Rattle.txn_types.specs.Run.{Steps}
use Rattle.law_messages.proofs.Rules.{Rules, Stage, kept, hears, with_own, no_memory, told_memory, entry, IsFor, IsFine, Later, lasts}
use Rattle.law_messages.proofs.Safe.{Safe, Ending}
use Rattle.law_messages.proofs.Shapes.{Always}
use Rattle.law_owners.specs.Owner.{owner_of, IsOwner, IsHomedAt}
use Rattle.law_owners.proofs.Runs.{requests_homed}
use Rattle.law_write_numbers.specs.Laws.{IsNumbered}
use Rattle.law_write_numbers.proofs.Numbers.{all_accepted, downwards, none_accepted}

-- each accepted write of the transaction has a number below
abbrev pub AreBelow : ℕ → ℕ → History → Type 0
AreBelow x n h = (e : Entry) → Member e h → (k : ℕ) → IsNumbered x k e.event → k < n

-- a transaction and its accepted writes, in their order
pub record Claim : Type 0 where
  pub txn : ℕ
  pub accepted : List Written

-- it is the session's own, and these are its accepted writes in the history, numbered from 0
abbrev pub Holds : History → Actor → Option Claim → Type 0
Holds h m None = Unit {0}
Holds h m (Some c) = IsOwner m c.txn × (all_accepted h c.txn ≡ downwards (reverse c.accepted))

abbrev pub claim_of : Option Opened → Option Claim
claim_of None = None
claim_of (Some x) = Some (record { txn = x.meta.txn; accepted = writes_of x.writes })

abbrev pub IsGood : History → Request → Type 0
IsGood h (request.Write meta number path op read seen fates) = AreBelow meta.txn number h
IsGood h asked = Unit {0}

abbrev pub rules : Rules
rules = record {
  Base = λ h. Unit {0};
  Good = λ h m a asked. IsGood h asked;
  Idle = λ h m keeps. Holds h m (claim_of keeps.opened);
  Ends = λ z m h c t. Unit {0};
}

-- ## one more entry

pub holds_more : (m : Actor) (c : Claim) (e : Entry) (h : History) → ((k : ℕ) → IsNumbered c.txn k e.event → ⊥) → Holds h m (Some c) → Holds (e ∷ h) m (Some c)
holds_more m c e h none holds = (holds.0, ap (λ (ns : List Numbered). ns ++ all_accepted h c.txn) (none_accepted c.txn e.event none) ∙ holds.1)

foreign : (config : Config) (m a : Actor) (x k : ℕ) (event : Event) → IsHomedAt config a event → (IsFor m event → ⊥) → IsOwner m x → IsNumbered x k event → ⊥
foreign config m a x k (Serve from (request.Write meta number path op read seen fates) (reply.Written w) time append) homed other mine is =
    other (homed.0.0 ∙ (ap (λ (z : ℕ). Session (owner_of z)) is.0 ∙ sym mine))
foreign config m a x k event homed other mine is = absurd is

pub holds_step : (config : Config) → IsCluster config → (m : Actor) (claim : Option Claim) (h : History) (e : Entry) → IsFine rules config h e → (IsFor m e.event → ⊥) → Holds h m claim → Holds (e ∷ h) m claim
unfolding Steps
holds_step config cluster m None h e fine other holds = tt
holds_step config cluster m (Some c) h e fine other holds =
    let steps : Steps config (e ∷ h) = (fine.steps, fine.allowed) in
    let homed = requests_homed config (e ∷ h) e (cluster, steps) (inl refl) in
    holds_more m c e h (λ k is. foreign config m e.actor c.txn k e.event homed other holds.0 is) holds

pub holds_later : (config : Config) → IsCluster config → (m : Actor) (claim : Option Claim) (h g : History) → Later rules config m h g → Holds h m claim → Holds g m claim
holds_later config cluster m claim = lasts rules config m (λ h. Holds h m claim) (λ h e base fine other holds. holds_step config cluster m claim h e fine other holds)

-- ## an entry of its own that writes nothing

abbrev pub NoWrite : Request → Type 0
NoWrite (request.Write meta number path op read seen fates) = ⊥
NoWrite asked = Unit {0}

plain_number : (x k : ℕ) (from : Actor) (asked : Request) (r : Reply) (time : Option ℕ) (append : Append) → NoWrite asked → IsNumbered x k (Serve from asked r time append) → ⊥
plain_number x k from (request.Write meta number path op read seen fates) r time append plain is = plain
plain_number x k from asked r time append plain is = is

plain_good : (h : History) (asked : Request) → NoWrite asked → IsGood h asked
plain_good h (request.Write meta number path op read seen fates) plain = absurd plain
plain_good h asked plain = tt

pub holds_served : (m : Actor) (claim : Option Claim) (h : History) (to : Actor) (reading : Option ℕ) (asked : Request) (r : Reply) (time : Option ℕ) (append : Append) → NoWrite asked → Holds h m claim →
    Holds (entry to reading (Serve m asked r time append) ∷ h) m claim
holds_served m None h to reading asked r time append plain holds = tt
holds_served m (Some c) h to reading asked r time append plain holds =
    holds_more m c (entry to reading (Serve m asked r time append)) h (λ k is. plain_number c.txn k m asked r time append plain is) holds

pub holds_restarted : (m : Actor) (claim : Option Claim) (h : History) (to : Actor) (reading : Option ℕ) (k : Bool) → Holds h m claim → Holds (entry to reading (Restarted m k) ∷ h) m claim
holds_restarted m None h to reading k holds = tt
holds_restarted m (Some c) h to reading k holds = holds_more m c (entry to reading (Restarted m k)) h (λ j is. is) holds

-- ## a program that writes nothing

-- what the command may be told
abbrev pub Tells : (Told → Type 0) → Program Told → Type 0
Tells P (Done t) = P t
Tells P (Asks to asked next) = (r : Reply) → Tells P (next r)
Tells P (Reads given) = (reading : ℕ) → Tells P (given reading)

abbrev pub Any : Told → Type 0
Any t = Unit {0}

pub tells_any : (p : Program Told) → Tells Any p
tells_any (Done t) = tt
tells_any (Asks to asked next) = λ r. tells_any (next r)
tells_any (Reads given) = λ reading. tells_any (given reading)

-- whatever of this the command is told, the claim becomes that of what is open then; out of memory is among it
pub record Closes (config : Config) (m : Actor) (s : Keeps) (line : Option Command) (claim : Option Claim) (P : Told → Type 0) : Type 0 where
  pub closes : (g : History) (reading : Option ℕ) (limits : List TabletLimit) (lose : Bool) (t : Told) → P t → Holds g m claim →
      Holds g m (claim_of (kept config m (record { keeps = s; line = line; reading = reading; limits = limits; may_lose = lose }) t).opened)
  pub memory : P told_memory

pub told_ending : (config : Config) → IsCluster config → (m : Actor) (z : History) (c : Stage) (h : History) (claim : Option Claim) (P : Told → Type 0) (t : Told) → Closes config m c.keeps c.line claim P → P t → Holds h m claim → Ending rules config m z c h t
told_ending config cluster m z c h claim P t closes told holds = λ g later. (tt, closes.closes g c.reading c.limits c.may_lose t told (holds_later config cluster m claim h g later holds))

pub plain_safe : (config : Config) → IsCluster config → (m : Actor) (z : History) (p : Program Told) (c : Stage) (h : History) (claim : Option Claim) (P : Told → Type 0) → Closes config m c.keeps c.line claim P → Always NoWrite p → Tells P p → Holds h m claim →
    Safe rules config m z c h p
plain_safe config cluster m z (Done t) c h claim P closes plain tells holds =
    (λ may. told_ending config cluster m z c h claim P told_memory closes closes.memory holds, told_ending config cluster m z c h claim P t closes tells holds)
plain_safe config cluster m z (Asks to asked next) c h claim P closes plain tells holds = (
  λ may. told_ending config cluster m z c h claim P told_memory closes closes.memory holds,
  λ g later steps base.
      let now = holds_later config cluster m claim h g later holds in (
        plain_good g asked plain.0,
        λ reading r time append allowed after.
            plain_safe config cluster m z (next r) (hears m c to r) (entry to reading (Serve m asked r time append) ∷ g) claim P closes (plain.1 r) (tells r) (holds_served m claim g to reading asked r time append plain.0 now),
        λ reading k is after.
            plain_safe config cluster m z (next (reply.Restarted k)) (hears m c to (reply.Restarted k)) (entry to reading (Restarted m k) ∷ g) claim P closes (plain.1 (reply.Restarted k)) (tells (reply.Restarted k)) (holds_restarted m claim g to reading k now),
        plain_safe config cluster m z (next no_memory) (hears m c to no_memory) g claim P closes (plain.1 no_memory) (tells no_memory) now,
      ),
)
plain_safe config cluster m z (Reads given) c h claim P closes plain tells holds = (
  λ may. told_ending config cluster m z c h claim P told_memory closes closes.memory holds,
  λ reading g later own.
      let now = holds_later config cluster m claim h g later holds in (
        plain_safe config cluster m z (given reading) (with_own c (Some reading)) g claim P closes (plain reading) (tells reading) now,
        λ t is. told_ending config cluster m z c g claim P t closes (subst (λ (p : Program Told). Tells P p) is (tells reading)) now,
      ),
)

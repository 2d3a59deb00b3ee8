-- What a session knows of its open transaction: what it wrote is covered, and unless a commit or an abort of it broke, none was to be logged.
use Rattle.std.proofs.Common.{◌≡◌, ℕ, ◌%◌, ◌^◌, ◌≤◌, Bool, false, List, ◌∷◌, Option, Some, None, map, refl, sym, ◌∙◌, ap, subst, inl, inr, arith}
use Rattle.txn_data.specs.declared.actor.Actor.{Actor}
use Rattle.txn_data.specs.declared.actor.Actor.TheVariants.{Tablet, Status, Session, Applier}
use Rattle.txn_data.specs.declared.append.Append.{Append}
use Rattle.txn_data.specs.declared.config.Config.{Config}
use Rattle.txn_data.specs.declared.request.Request.{Request}
use Rattle.txn_data.specs.declared.request.Request.TheVariants as request
use Rattle.txn_data.specs.declared.reply.Reply.{Reply}
use Rattle.txn_data.specs.declared.event.Event.{Event}
use Rattle.txn_data.specs.declared.event.Event.TheVariants.{Serve, Restarted}
use Rattle.txn_data.specs.declared.entry.Entry.{Entry}
use Rattle.txn_types.specs.Lists.{Member}
use Rattle.txn_types.specs.History.{History}
use Rattle.txn_types.specs.Plan.{IsCluster}
use Rattle.txn_types.specs.Session.{Keeps, Opened, Accepted}
use Rattle.txn_types.specs.Run.{Steps}
use Rattle.law_messages.proofs.Rules.{Rules, IsFor, IsFine, Later, lasts, entry}
use Rattle.law_owners.specs.Owner.{owner_of, IsOwner, IsHomedAt}
use Rattle.law_owners.proofs.Programs.{MetaHomed}
use Rattle.law_owners.proofs.Runs.{requests_homed}
use Rattle.law_open_txns.specs.Transaction.{Begun, IsEndOf, IsOn, IsCoveredBy}

abbrev pub AllCovered : ℕ → ℕ → List ℕ → History → Type 0
AllCovered x floor tablets h = (e : Entry) → Member e h → IsCoveredBy x floor tablets e.actor e.event

abbrev pub NoEnd : ℕ → History → Type 0
NoEnd x h = (e : Entry) → Member e h → IsEndOf x e.event → ⊥

abbrev pub tablet_of : Accepted → ℕ
tablet_of a = a.tablet

abbrev pub number_of : ℕ → ℕ
number_of x = x % 2 ^ 64

pub record OpenOk (config : Config) (h : History) (m : Actor) (last serial : ℕ) (x : Opened) : Type 0 where
  pub homed : MetaHomed config m x.meta
  pub number : number_of x.meta.txn ≤ serial
  pub read : x.r ≤ last
  pub covered : AllCovered x.meta.txn last (map tablet_of x.writes) h
  pub free : x.in_doubt ≡ false → NoEnd x.meta.txn h
  pub begun : Begun h x.meta.txn

abbrev pub OpenedOk : Config → History → Actor → ℕ → ℕ → Option Opened → Type 0
OpenedOk config h m last serial None = Unit {0}
OpenedOk config h m last serial (Some x) = OpenOk config h m last serial x

-- the ids that a session's writes, commits and aborts name are not above its serial number
abbrev pub TouchesTo : ℕ → ℕ → Event → Type 0
TouchesTo i n (Serve from (request.Write meta number path op read seen fates) r time append) = owner_of meta.txn ≡ i → number_of meta.txn ≤ n
TouchesTo i n (Serve from (request.Commit y floor tablets) r time append) = owner_of y ≡ i → number_of y ≤ n
TouchesTo i n (Serve from (request.Abort y) r time append) = owner_of y ≡ i → number_of y ≤ n
TouchesTo i n event = Unit {0}

abbrev pub TouchesUpTo : Actor → ℕ → History → Type 0
TouchesUpTo (Session i) n h = (e : Entry) → Member e h → TouchesTo i n e.event
TouchesUpTo m n h = Unit {0}

pub record IdleOk (config : Config) (h : History) (m : Actor) (keeps : Keeps) : Type 0 where
  pub opened : OpenedOk config h m keeps.last keeps.serial keeps.opened
  pub touches : TouchesUpTo m keeps.serial h

-- what a request has behind it
abbrev pub IsGood : Config → History → Actor → Actor → Request → Type 0
IsGood config h m a (request.Write meta number path op read seen fates) = NoEnd meta.txn h × Begun h meta.txn
IsGood config h m a (request.Commit x floor tablets) = AllCovered x floor tablets h
IsGood config h m a asked = Unit {0}

abbrev pub rules : Config → Rules
rules config = record {
  Base = λ h. Unit {0};
  Good = λ h m a asked. IsGood config h m a asked;
  Idle = λ h m keeps. IdleOk config h m keeps;
  Ends = λ z m h c t. Unit {0};
}

-- ## what the others leave

fine_homed : (R : Rules) (config : Config) (h : History) (e : Entry) → IsCluster config → IsFine R config h e → IsHomedAt config e.actor e.event
unfolding Steps
fine_homed R config h e cluster fine =
    let steps : Steps config (e ∷ h) = (fine.steps, fine.allowed) in
    requests_homed config (e ∷ h) e (cluster, steps) (inl refl)

owner_same : (from m : Actor) (x y : ℕ) → IsOwner from y → y ≡ x → IsOwner m x → from ≡ m
owner_same from m x y one same two = one ∙ (ap (λ (z : ℕ). Session (owner_of z)) same ∙ sym two)

foreign_covered : (config : Config) (m a : Actor) (x floor : ℕ) (tablets : List ℕ) (event : Event) → IsHomedAt config a event → (IsFor m event → ⊥) → IsOwner m x → IsCoveredBy x floor tablets a event
foreign_covered config m a x floor tablets (Serve from (request.Write meta number path op read seen fates) r time append) homed other mine =
    λ is. absurd (other (owner_same from m x meta.txn homed.0.0 is mine))
foreign_covered config m a x floor tablets event homed other mine = tt

foreign_end : (config : Config) (m a : Actor) (x : ℕ) (event : Event) → IsHomedAt config a event → (IsFor m event → ⊥) → IsOwner m x → IsEndOf x event → ⊥
foreign_end config m a x (Serve from (request.Commit y floor tablets) r time append) homed other mine is = other (owner_same from m x y homed.0.0 is.0 mine)
foreign_end config m a x (Serve from (request.Abort y) r time append) homed other mine is = other (owner_same from m x y homed.0.0 is.0 mine)
foreign_end config m a x event homed other mine is = absurd is

foreign_touches : (config : Config) (i n : ℕ) (a : Actor) (event : Event) → IsHomedAt config a event → (IsFor (Session i) event → ⊥) → TouchesTo i n event
foreign_touches config i n a (Serve from (request.Write meta number path op read seen fates) r time append) homed other = λ own. absurd (other (homed.0.0 ∙ ap Session own))
foreign_touches config i n a (Serve from (request.Commit y floor tablets) r time append) homed other = λ own. absurd (other (homed.0.0 ∙ ap Session own))
foreign_touches config i n a (Serve from (request.Abort y) r time append) homed other = λ own. absurd (other (homed.0.0 ∙ ap Session own))
foreign_touches config i n a event homed other = tt

-- ## one more entry

pub covered_more : (x floor : ℕ) (tablets : List ℕ) (e : Entry) (h : History) → IsCoveredBy x floor tablets e.actor e.event → AllCovered x floor tablets h → AllCovered x floor tablets (e ∷ h)
covered_more x floor tablets e h new old f m = elim m [
  | inl is ↦ subst (λ (g : Entry). IsCoveredBy x floor tablets g.actor g.event) (sym is) new
  | inr more ↦ old f more
]

pub no_end_more : (x : ℕ) (e : Entry) (h : History) → (IsEndOf x e.event → ⊥) → NoEnd x h → NoEnd x (e ∷ h)
no_end_more x e h new old f m is = elim m [
  | inl same ↦ new (subst (λ (g : Entry). IsEndOf x g.event) same is)
  | inr more ↦ old f more is
]

pub touches_more : (m : Actor) (n : ℕ) (e : Entry) (h : History) → ((i : ℕ) → m ≡ Session i → TouchesTo i n e.event) → TouchesUpTo m n h → TouchesUpTo m n (e ∷ h)
touches_more (Session i) n e h new old = λ f member. elim member [
  | inl is ↦ subst (λ (g : Entry). TouchesTo i n g.event) (sym is) (new i refl)
  | inr more ↦ old f more
]
touches_more (Applier k) n e h new old = tt
touches_more (Tablet k) n e h new old = tt
touches_more (Status j) n e h new old = tt

pub begun_more : (x : ℕ) (e : Entry) (h : History) → Begun h x → Begun (e ∷ h) x
begun_more x e h begun = (begun.0, inr begun.1, begun.2)

pub open_more : (config : Config) (m : Actor) (last serial : ℕ) (x : Opened) (e : Entry) (h : History) → IsCoveredBy x.meta.txn last (map tablet_of x.writes) e.actor e.event → (IsEndOf x.meta.txn e.event → ⊥) →
    OpenOk config h m last serial x → OpenOk config (e ∷ h) m last serial x
open_more config m last serial x e h covered end ok = record {
  homed = ok.homed;
  number = ok.number;
  read = ok.read;
  covered = covered_more x.meta.txn last (map tablet_of x.writes) e h covered ok.covered;
  free = λ is. no_end_more x.meta.txn e h end (ok.free is);
  begun = begun_more x.meta.txn e h ok.begun;
}

open_step : (config : Config) (m : Actor) (last serial : ℕ) (x : Opened) (h : History) (e : Entry) → IsHomedAt config e.actor e.event → (IsFor m e.event → ⊥) → OpenOk config h m last serial x →
    OpenOk config (e ∷ h) m last serial x
open_step config m last serial x h e homed other ok = open_more config m last serial x e h
    (foreign_covered config m e.actor x.meta.txn last (map tablet_of x.writes) e.event homed other ok.homed.0) (foreign_end config m e.actor x.meta.txn e.event homed other ok.homed.0) ok

touches_step : (config : Config) (m : Actor) (n : ℕ) (h : History) (e : Entry) → IsHomedAt config e.actor e.event → (IsFor m e.event → ⊥) → TouchesUpTo m n h → TouchesUpTo m n (e ∷ h)
touches_step config m n h e homed other ids =
    touches_more m n e h (λ i is. foreign_touches config i n e.actor e.event homed (subst (λ (b : Actor). IsFor b e.event → ⊥) is other)) ids

opened_step : (config : Config) (m : Actor) (last serial : ℕ) (opened : Option Opened) (h : History) (e : Entry) → IsHomedAt config e.actor e.event → (IsFor m e.event → ⊥) → OpenedOk config h m last serial opened →
    OpenedOk config (e ∷ h) m last serial opened
opened_step config m last serial None h e homed other ok = tt
opened_step config m last serial (Some x) h e homed other ok = open_step config m last serial x h e homed other ok

pub idle_step : (config : Config) → IsCluster config → (m : Actor) (keeps : Keeps) (h : History) (e : Entry) → IsFine (rules config) config h e → (IsFor m e.event → ⊥) → IdleOk config h m keeps → IdleOk config (e ∷ h) m keeps
idle_step config cluster m keeps h e fine other idle =
    let homed = fine_homed (rules config) config h e cluster fine in
    record {
      opened = opened_step config m keeps.last keeps.serial keeps.opened h e homed other idle.opened;
      touches = touches_step config m keeps.serial h e homed other idle.touches;
    }

pub idle_later : (config : Config) → IsCluster config → (m : Actor) (keeps : Keeps) (h g : History) → Later (rules config) config m h g → IdleOk config h m keeps → IdleOk config g m keeps
idle_later config cluster m keeps = lasts (rules config) config m (λ h. IdleOk config h m keeps) (λ h e base fine other idle. idle_step config cluster m keeps h e fine other idle)

-- ## an entry of the session's own that neither writes nor ends

abbrev pub NoTouch : Request → Type 0
NoTouch (request.Write meta number path op read seen fates) = ⊥
NoTouch (request.Commit x floor tablets) = ⊥
NoTouch (request.Abort x) = ⊥
NoTouch asked = Unit {0}

plain_covered : (x floor : ℕ) (tablets : List ℕ) (a from : Actor) (asked : Request) (r : Reply) (time : Option ℕ) (append : Append) → NoTouch asked → IsCoveredBy x floor tablets a (Serve from asked r time append)
plain_covered x floor tablets a from (request.Write meta number path op read seen fates) r time append plain = absurd plain
plain_covered x floor tablets a from asked r time append plain = tt

plain_end : (x : ℕ) (from : Actor) (asked : Request) (r : Reply) (time : Option ℕ) (append : Append) → NoTouch asked → IsEndOf x (Serve from asked r time append) → ⊥
plain_end x from (request.Commit y floor tablets) r time append plain is = plain
plain_end x from (request.Abort y) r time append plain is = plain
plain_end x from asked r time append plain is = is

plain_touches : (i n : ℕ) (from : Actor) (asked : Request) (r : Reply) (time : Option ℕ) (append : Append) → NoTouch asked → TouchesTo i n (Serve from asked r time append)
plain_touches i n from (request.Write meta number path op read seen fates) r time append plain = absurd plain
plain_touches i n from (request.Commit y floor tablets) r time append plain = absurd plain
plain_touches i n from (request.Abort y) r time append plain = absurd plain
plain_touches i n from asked r time append plain = tt

opened_plain : (config : Config) (m : Actor) (last serial : ℕ) (opened : Option Opened) (e : Entry) (h : History) →
    ((x : ℕ) (ks : List ℕ) → IsCoveredBy x last ks e.actor e.event) → ((x : ℕ) → IsEndOf x e.event → ⊥) → OpenedOk config h m last serial opened → OpenedOk config (e ∷ h) m last serial opened
opened_plain config m last serial None e h covered end ok = tt
opened_plain config m last serial (Some x) e h covered end ok = open_more config m last serial x e h (covered x.meta.txn (map tablet_of x.writes)) (end x.meta.txn) ok

pub idle_served : (config : Config) (m : Actor) (keeps : Keeps) (h : History) (to : Actor) (reading : Option ℕ) (asked : Request) (r : Reply) (time : Option ℕ) (append : Append) → NoTouch asked → IdleOk config h m keeps →
    IdleOk config (entry to reading (Serve m asked r time append) ∷ h) m keeps
idle_served config m keeps h to reading asked r time append plain idle = record {
  opened = opened_plain config m keeps.last keeps.serial keeps.opened (entry to reading (Serve m asked r time append)) h
      (λ x ks. plain_covered x keeps.last ks to m asked r time append plain) (λ x. plain_end x m asked r time append plain) idle.opened;
  touches = touches_more m keeps.serial (entry to reading (Serve m asked r time append)) h (λ i is. plain_touches i keeps.serial m asked r time append plain) idle.touches;
}

pub idle_restarted : (config : Config) (m : Actor) (keeps : Keeps) (h : History) (to : Actor) (reading : Option ℕ) (k : Bool) → IdleOk config h m keeps → IdleOk config (entry to reading (Restarted m k) ∷ h) m keeps
idle_restarted config m keeps h to reading k idle = record {
  opened = opened_plain config m keeps.last keeps.serial keeps.opened (entry to reading (Restarted m k)) h (λ x ks. tt) (λ x none. none) idle.opened;
  touches = touches_more m keeps.serial (entry to reading (Restarted m k)) h (λ i is. tt) idle.touches;
}

-- ## later times and greater numbers

cover_event : (x : ℕ) (low high : ℕ) (ks more : List ℕ) (a : Actor) (event : Event) → low ≤ high → ((k : ℕ) → Member k ks → Member k more) → IsCoveredBy x low ks a event → IsCoveredBy x high more a event
cover_event x low high ks more a (Serve from (request.Write meta number path op read seen fates) r time append) le part covered = λ is.
    let c = covered is in
    let below = c.1 in
    (c.0, omega (arith, le, below), λ w at. let t = c.2 w at in let under = t.0 in (omega (arith, le, under), on_more a ks more part t.1))
  where
    on_more : (a : Actor) (ks more : List ℕ) → ((k : ℕ) → Member k ks → Member k more) → IsOn a ks → IsOn a more
    on_more (Tablet k) ks more part on = part k on
    on_more (Status j) ks more part on = absurd on
    on_more (Session i) ks more part on = absurd on
    on_more (Applier k) ks more part on = absurd on
cover_event x low high ks more a event le part covered = tt

pub covered_up : (x low high : ℕ) (ks more : List ℕ) (h : History) → low ≤ high → ((k : ℕ) → Member k ks → Member k more) → AllCovered x low ks h → AllCovered x high more h
covered_up x low high ks more h le part all = λ e m. cover_event x low high ks more e.actor e.event le part (all e m)

pub open_up : (config : Config) (h : History) (m : Actor) (low high few many : ℕ) (x : Opened) → low ≤ high → few ≤ many → OpenOk config h m low few x → OpenOk config h m high many x
open_up config h m low high few many x le up ok =
    let number = ok.number in
    let read = ok.read in
    record {
      homed = ok.homed;
      number = omega (arith, number, up);
      read = omega (arith, read, le);
      covered = covered_up x.meta.txn low high (map tablet_of x.writes) (map tablet_of x.writes) h le (λ k member. member) ok.covered;
      free = ok.free;
      begun = ok.begun;
    }

touch_event : (i low high : ℕ) (event : Event) → low ≤ high → TouchesTo i low event → TouchesTo i high event
touch_event i low high (Serve from (request.Write meta number path op read seen fates) r time append) le to = λ own. let t = to own in omega (arith, le, t)
touch_event i low high (Serve from (request.Commit y floor tablets) r time append) le to = λ own. let t = to own in omega (arith, le, t)
touch_event i low high (Serve from (request.Abort y) r time append) le to = λ own. let t = to own in omega (arith, le, t)
touch_event i low high event le to = tt

pub touches_up : (m : Actor) (low high : ℕ) (h : History) → low ≤ high → TouchesUpTo m low h → TouchesUpTo m high h
touches_up (Session i) low high h le ids = λ e member. touch_event i low high e.event le (ids e member)
touches_up (Applier k) low high h le ids = tt
touches_up (Tablet k) low high h le ids = tt
touches_up (Status j) low high h le ids = tt

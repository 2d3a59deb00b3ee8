-- Each id is used once, and each request of a transaction goes to its own status tablet, in every run.
use Rattle.std.proofs.Common.{◌≡◌, ℕ, ◌+◌, ◌%◌, ◌^◌, ◌≤◌, Bool, List, ◌∷◌, Option, Some, None, sym, ◌∙◌, ap, subst, inl, inr, arith}
use Rattle.txn_data.specs.declared.actor.Actor.{Actor}
use Rattle.txn_data.specs.declared.actor.Actor.TheVariants.{Tablet, Status, Session, Applier}
use Rattle.txn_data.specs.declared.append.Append.{Append}
use Rattle.txn_data.specs.declared.command.Command.{Command}
use Rattle.txn_data.specs.declared.config.Config.{Config}
use Rattle.txn_data.specs.declared.tablet_limit.TabletLimit.{TabletLimit}
use Rattle.txn_data.specs.declared.request.Request.{Request}
use Rattle.txn_data.specs.declared.request.Request.TheVariants as request
use Rattle.txn_data.specs.declared.reply.Reply.{Reply}
use Rattle.txn_data.specs.declared.reply.Reply.TheVariants as reply
use Rattle.txn_data.specs.declared.told.Told.{Told}
use Rattle.txn_data.specs.declared.event.Event.{Event}
use Rattle.txn_data.specs.declared.event.Event.TheVariants.{Start, Ask, Serve, Hear, Tell, Restarted}
use Rattle.txn_data.specs.declared.entry.Entry.{Entry}
use Rattle.txn_types.specs.Lists.{Member}
use Rattle.txn_types.specs.History.{History, own}
use Rattle.txn_types.specs.Program.{Program, Done, Asks, Reads}
use Rattle.txn_types.specs.Session.{Keeps}
use Rattle.law_machines.proofs.Owns.{own_member}
use Rattle.law_messages.proofs.Rules.{Rules, Stage, kept, hears, with_own, no_memory, told_memory, entry, IsFor, GoodServe, Later, lasts}
use Rattle.law_messages.proofs.Safe.{Ending, Safe}
use Rattle.law_owners.specs.Owner.{owner_of, IsHomed, IsOfTable, IsHomedAt, Uses, IsUnused}
use Rattle.law_owners.proofs.Founds.{AllHomed}
use Rattle.law_owners.proofs.Replies.{reply_homed}
use Rattle.law_owners.proofs.Homed.{NotOpen, Spends, left, Homed}
use Rattle.law_owners.proofs.Serials.{OpenedHomed}

-- ## the rules

-- the ids of this session that the entry uses are not above the serial number
abbrev pub IdsTo : ℕ → ℕ → Event → Type 0
IdsTo i n (Serve from (request.Begin y isolation priority) r time append) = owner_of y ≡ i → y % 2 ^ 64 ≤ n
IdsTo i n (Serve from (request.Single y path op seen fates) r time append) = owner_of y ≡ i → y % 2 ^ 64 ≤ n
IdsTo i n event = Unit {0}

abbrev pub IdsUpTo : Actor → ℕ → History → Type 0
IdsUpTo (Session i) n h = (e : Entry) → Member e h → IdsTo i n e.event
IdsUpTo m n h = Unit {0}

pub record IdleOk (config : Config) (h : History) (m : Actor) (keeps : Keeps) : Type 0 where
  pub opened : OpenedHomed config m keeps.opened
  pub ids : IdsUpTo m keeps.serial h

abbrev pub NewFor : History → Request → Type 0
NewFor h (request.Begin x isolation priority) = IsUnused x h
NewFor h (request.Single x path op seen fates) = IsUnused x h
NewFor h asked = Unit {0}

pub record IsGood (config : Config) (h : History) (m a : Actor) (asked : Request) : Type 0 where
  pub homed : IsHomed config m a asked
  pub table : IsOfTable a asked
  pub new : NewFor h asked

abbrev pub rules : Config → Rules
rules config = record {
  Base = λ h. AllHomed config h;
  Good = λ h m a asked. IsGood config h m a asked;
  Idle = λ h m keeps. IdleOk config h m keeps;
  Ends = λ z m h c t. Unit {0};
}

-- ## what the others leave

base_event : (config : Config) (h : History) (a : Actor) (event : Event) → GoodServe (rules config) h a event → IsHomedAt config a event
base_event config h a (Serve from asked r time append) good = (good.homed, good.table)
base_event config h a (Restarted from k) good = tt
base_event config h a (Start number line) good = tt
base_event config h a (Ask to asked) good = tt
base_event config h a (Hear from r) good = tt
base_event config h a (Tell number t) good = tt

pub base_step : (config : Config) (h : History) (e : Entry) → AllHomed config h → GoodServe (rules config) h e.actor e.event → AllHomed config (e ∷ h)
base_step config h e all good f m = elim m [
  | inl is ↦ subst (λ (g : Entry). IsHomedAt config g.actor g.event) (sym is) (base_event config h e.actor e.event good)
  | inr more ↦ all f more
]

ids_event : (config : Config) (i n : ℕ) (h : History) (a : Actor) (event : Event) → GoodServe (rules config) h a event → (IsFor (Session i) event → ⊥) → IdsTo i n event
ids_event config i n h a (Serve from (request.Begin y isolation priority) r time append) good other = λ own. absurd (other (good.homed.0 ∙ ap Session own))
ids_event config i n h a (Serve from (request.Single y path op seen fates) r time append) good other = λ own. absurd (other (good.homed ∙ ap Session own))
ids_event config i n h a event good other = tt

ids_member : (i n : ℕ) (h : History) (e : Entry) → IdsTo i n e.event → IdsUpTo (Session i) n h → IdsUpTo (Session i) n (e ∷ h)
ids_member i n h e new old f m = elim m [
  | inl is ↦ subst (λ (g : Entry). IdsTo i n g.event) (sym is) new
  | inr more ↦ old f more
]

pub ids_step : (config : Config) (m : Actor) (n : ℕ) (h : History) (e : Entry) → GoodServe (rules config) h e.actor e.event → (IsFor m e.event → ⊥) → IdsUpTo m n h → IdsUpTo m n (e ∷ h)
ids_step config (Session i) n h e good other ids = ids_member i n h e (ids_event config i n h e.actor e.event good other) ids
ids_step config (Applier k) n h e good other ids = tt
ids_step config (Tablet k) n h e good other ids = tt
ids_step config (Status j) n h e good other ids = tt

pub ids_later : (config : Config) (m : Actor) (n : ℕ) (h g : History) → Later (rules config) config m h g → IdsUpTo m n h → IdsUpTo m n g
ids_later config m n = lasts (rules config) config m (λ h. IdsUpTo m n h) (λ h e base fine other ids. ids_step config m n h e fine.good other ids)

-- ## the id that a command may use

abbrev pub IsNext : Actor → ℕ → ℕ → Type 0
IsNext (Session i) x serial = (owner_of x ≡ i) × (x % 2 ^ 64 ≡ serial + 1)
IsNext m x serial = ⊥

pub record Spare (m : Actor) (x n : ℕ) (h : History) : Type 0 where
  pub serial : ℕ
  pub ids : IdsUpTo m serial h
  pub end : serial + 1 ≡ n
  pub next : IsNext m x serial

abbrev pub Holding : Actor → Option ℕ → ℕ → History → Type 0
Holding m None n h = IdsUpTo m n h
Holding m (Some x) n h = Spare m x n h

ids_more_event : (i k n : ℕ) (event : Event) → k ≤ n → IdsTo i k event → IdsTo i n event
ids_more_event i k n (Serve from (request.Begin y isolation priority) r time append) le ids = λ own. let b = ids own in omega (arith, le, b)
ids_more_event i k n (Serve from (request.Single y path op seen fates) r time append) le ids = λ own. let b = ids own in omega (arith, le, b)
ids_more_event i k n event le ids = tt

pub ids_more : (m : Actor) (k n : ℕ) (h : History) → k ≤ n → IdsUpTo m k h → IdsUpTo m n h
ids_more (Session i) k n h le ids = λ e member. ids_more_event i k n e.event le (ids e member)
ids_more (Applier j) k n h le ids = tt
ids_more (Tablet j) k n h le ids = tt
ids_more (Status j) k n h le ids = tt

held : (m : Actor) (spare : Option ℕ) (n : ℕ) (h : History) → Holding m spare n h → IdsUpTo m n h
held m None n h holding = holding
held m (Some x) n h holding = let e = holding.end in ids_more m holding.serial n h (omega (arith, e)) holding.ids

holding_later : (config : Config) (m : Actor) (spare : Option ℕ) (n : ℕ) (h g : History) → Later (rules config) config m h g → Holding m spare n h → Holding m spare n g
holding_later config m None n h g later holding = ids_later config m n h g later holding
holding_later config m (Some x) n h g later holding = record {
  serial = holding.serial;
  ids = ids_later config m holding.serial h g later holding.ids;
  end = holding.end;
  next = holding.next;
}

-- out of memory leaves the id unused
weaken : (m : Actor) (spare : Option ℕ) (n : ℕ) (h : History) (asked : Request) → Holding m spare n h → Holding m (left spare asked) n h
weaken m spare n h (request.Begin x isolation priority) holding = held m spare n h holding
weaken m spare n h (request.Single x path op seen fates) holding = held m spare n h holding
weaken m spare n h asked holding = holding

-- the id that is used now was not used before
unused_event : (i x y serial : ℕ) → IsNext (Session i) x serial → (owner_of y ≡ i → y % 2 ^ 64 ≤ serial) → y ≡ x → ⊥
unused_event i x y serial next ids is =
    let low : x % 2 ^ 64 ≤ serial = subst (λ (z : ℕ). z % 2 ^ 64 ≤ serial) is (ids (ap owner_of is ∙ next.0)) in
    let high = next.1 in omega (arith, low, high)

unused_by : (i x serial : ℕ) (event : Event) → IsNext (Session i) x serial → IdsTo i serial event → Uses x event → ⊥
unused_by i x serial (Serve from (request.Begin y isolation priority) r time append) next ids is = unused_event i x y serial next ids is
unused_by i x serial (Serve from (request.Single y path op seen fates) r time append) next ids is = unused_event i x y serial next ids is
unused_by i x serial event next ids is = is

unused : (m : Actor) (x n : ℕ) (h : History) → Spare m x n h → IsUnused x h
unused (Session i) x n h spare = λ e member uses. unused_by i x spare.serial e.event spare.next (spare.ids e member) uses
unused (Applier k) x n h spare = absurd spare.next
unused (Tablet k) x n h spare = absurd spare.next
unused (Status j) x n h spare = absurd spare.next

spare_at : (m : Actor) (spare : Option ℕ) (x n : ℕ) (h : History) → spare ≡ Some x → Holding m spare n h → Spare m x n h
spare_at m spare x n h is holding = subst (λ (o : Option ℕ). Holding m o n h) is holding

new_for : (m : Actor) (spare : Option ℕ) (n : ℕ) (h : History) (asked : Request) → Spends spare asked → Holding m spare n h → NewFor h asked
new_for m spare n h (request.Begin x isolation priority) spends holding = unused m x n h (spare_at m spare x n h spends holding)
new_for m spare n h (request.Single x path op seen fates) spends holding = unused m x n h (spare_at m spare x n h spends holding)
new_for m spare n h asked spends holding = tt

-- once it is served it is used
used_ids : (m : Actor) (x n : ℕ) (h : History) (e : Entry) → ((i : ℕ) → (owner_of x ≡ i → x % 2 ^ 64 ≤ n) → IdsTo i n e.event) → Spare m x n h → IdsUpTo m n (e ∷ h)
used_ids (Session i) x n h e new spare =
    let end = spare.end in
    let next = spare.next.1 in
    ids_member i n h e (new i (λ own. omega (arith, end, next))) (held (Session i) (Some x) n h spare)
used_ids (Applier k) x n h e new spare = tt
used_ids (Tablet k) x n h e new spare = tt
used_ids (Status j) x n h e new spare = tt

plain_ids : (m : Actor) (n : ℕ) (h : History) (e : Entry) → ((i k : ℕ) → IdsTo i k e.event) → IdsUpTo m n h → IdsUpTo m n (e ∷ h)
plain_ids (Session i) n h e new ids = ids_member i n h e (new i n) ids
plain_ids (Applier k) n h e new ids = tt
plain_ids (Tablet k) n h e new ids = tt
plain_ids (Status j) n h e new ids = tt

plain_holding : (m : Actor) (spare : Option ℕ) (n : ℕ) (h : History) (e : Entry) → ((i k : ℕ) → IdsTo i k e.event) → Holding m spare n h → Holding m spare n (e ∷ h)
plain_holding m None n h e new holding = plain_ids m n h e new holding
plain_holding m (Some x) n h e new holding = record {
  serial = holding.serial;
  ids = plain_ids m holding.serial h e new holding.ids;
  end = holding.end;
  next = holding.next;
}

holding_served : (m to : Actor) (spare : Option ℕ) (n : ℕ) (h : History) (reading : Option ℕ) (asked : Request) (r : Reply) (time : Option ℕ) (append : Append) → Spends spare asked → Holding m spare n h →
    Holding m (left spare asked) n (entry to reading (Serve m asked r time append) ∷ h)
holding_served m to spare n h reading (request.Begin x isolation priority) r time append spends holding =
    used_ids m x n h (entry to reading (Serve m (request.Begin x isolation priority) r time append)) (λ i low. low) (spare_at m spare x n h spends holding)
holding_served m to spare n h reading (request.Single x path op seen fates) r time append spends holding =
    used_ids m x n h (entry to reading (Serve m (request.Single x path op seen fates) r time append)) (λ i low. low) (spare_at m spare x n h spends holding)
holding_served m to spare n h reading asked r time append spends holding = plain_holding m spare n h (entry to reading (Serve m asked r time append)) (λ i k. tt) holding

-- ## a homed program is safe

-- what is kept once the command is told
abbrev pub Closes : Config → Actor → Keeps → Option Command → ℕ → Type 0
Closes config m keeps line n = (reading : Option ℕ) (limits : List TabletLimit) (lose : Bool) (t : Told) → NotOpen t →
    ((kept config m (record { keeps = keeps; line = line; reading = reading; limits = limits; may_lose = lose }) t).serial ≡ n)
    × OpenedHomed config m (kept config m (record { keeps = keeps; line = line; reading = reading; limits = limits; may_lose = lose }) t).opened

ending : (config : Config) (m : Actor) (z : History) (c : Stage) (h : History) (spare : Option ℕ) (n : ℕ) (t : Told) → Closes config m c.keeps c.line n → Holding m spare n h → NotOpen t →
    Ending (rules config) config m z c h t
ending config m z c h spare n t closes holding ok = λ g later.
    let k = closes c.reading c.limits c.may_lose t ok in
    (tt, record { opened = k.1; ids = subst (λ (s : ℕ). IdsUpTo m s g) (sym k.0) (held m spare n g (holding_later config m spare n h g later holding)) })

own_homed : (config : Config) (a : Actor) (g : History) → AllHomed config g → AllHomed config (own a g)
own_homed config a g all e m = all e (own_member e a g m)

done_homed : (config : Config) (m : Actor) (spare : Option ℕ) (p : Program Told) (t : Told) → p ≡ Done t → Homed NotOpen config m spare p → NotOpen t
done_homed config m spare p t is homed = subst (λ (q : Program Told). Homed NotOpen config m spare q) is homed

pub homed_safe : (config : Config) (m : Actor) (z : History) (c : Stage) (h : History) (p : Program Told) (spare : Option ℕ) (n : ℕ) → Closes config m c.keeps c.line n →
    Homed NotOpen config m spare p → Holding m spare n h → Safe (rules config) config m z c h p
homed_safe config m z c h (Done t) spare n closes homed holding =
    (λ may. ending config m z c h spare n told_memory closes holding tt, ending config m z c h spare n t closes holding homed)
homed_safe config m z c h (Asks to asked next) spare n closes homed holding = (
  λ may. ending config m z c h spare n told_memory closes holding tt,
  λ g later steps base.
      let now = holding_later config m spare n h g later holding in (
        record { homed = homed.0; table = homed.1; new = new_for m spare n g asked homed.2 now },
        λ reading r time append allowed after.
            homed_safe config m z (hears m c to r) (entry to reading (Serve m asked r time append) ∷ g) (next r) (left spare asked) n closes
            (homed.3 r (reply_homed config config.lease_us to (own to g) reading asked r time append allowed.2 (own_homed config to g base)))
            (holding_served m to spare n g reading asked r time append homed.2 now),
        λ reading k is after.
            homed_safe config m z (hears m c to (reply.Restarted k)) (entry to reading (Restarted m k) ∷ g) (next (reply.Restarted k)) (left spare asked) n closes
            (homed.3 (reply.Restarted k) tt) (weaken m spare n _ asked (plain_holding m spare n g (entry to reading (Restarted m k)) (λ i j. tt) now)),
        homed_safe config m z (hears m c to no_memory) g (next no_memory) (left spare asked) n closes (homed.3 no_memory tt) (weaken m spare n g asked now),
      ),
)
homed_safe config m z c h (Reads given) spare n closes homed holding = (
  λ may. ending config m z c h spare n told_memory closes holding tt,
  λ reading g later recorded.
      let now = holding_later config m spare n h g later holding in (
        homed_safe config m z (with_own c (Some reading)) g (given reading) spare n closes (homed reading) now,
        λ t is. ending config m z c g spare n t closes now (done_homed config m spare (given reading) t is (homed reading)),
      ),
)

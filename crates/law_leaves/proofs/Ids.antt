-- The ids that a session has open, and one that it has closed for good.
use Rattle.std.proofs.Common.{◌≡◌, ℕ, ◌+◌, ◌*◌, ◌^◌, ◌≤◌, List, [], ◌∷◌, Option, Some, None, refl, sym, ◌∙◌, ap, subst, inl, inr, ◌⊎◌, arith}
use Rattle.txn_data.specs.declared.actor.Actor.{Actor}
use Rattle.txn_data.specs.declared.command.Command.{Command}
use Rattle.txn_data.specs.declared.command.Command.TheVariants as command
use Rattle.txn_data.specs.declared.config.Config.{Config}
use Rattle.txn_data.specs.declared.op.Op.{Op}
use Rattle.txn_data.specs.declared.place.Place.{Place}
use Rattle.txn_data.specs.declared.tablet_limit.TabletLimit.{TabletLimit}
use Rattle.txn_data.specs.declared.told.Told.{Told}
use Rattle.txn_data.specs.declared.told.Told.TheVariants as told
use Rattle.txn_data.specs.declared.told_refusal.ToldRefusal.TheVariants as why
use Rattle.txn_data.specs.declared.event.Event.{Event}
use Rattle.txn_data.specs.declared.event.Event.TheVariants.{Start, Ask, Serve, Hear, Tell, Restarted}
use Rattle.txn_data.specs.declared.entry.Entry.{Entry}
use Rattle.txn_types.specs.History.{History}
use Rattle.txn_types.specs.Session.{Keeps, Opened, txn_id, opens, after_write, after_end, after_read, opened_after, serial_after}
use Rattle.txn_types.specs.Run.{Mover, mover_at, mover_after, kept_after, session_of}
use Rattle.txn_types.specs.Reads.{open_txn}
use Rattle.law_machines.specs.Own.{StandsOver}
use Rattle.law_machines.proofs.Basics.{same_cases}
use Rattle.law_owners.proofs.Serials.{serial_least}

some_is : (x y : Opened) → Some x ≡ Some y → x ≡ y
some_is x y is = cc

-- what is open after a command was open before, or it is new
record Before (o : Option Opened) (y : Opened) : Type 0 where
  pub then_open : Opened
  pub is : o ≡ Some then_open
  pub same : then_open.meta.txn ≡ y.meta.txn

abbrev Came : ℕ → Keeps → Command → Told → Option Opened → Opened → Type 0
Came i s line t o y = Before o y ⊎ ((y.meta.txn ≡ txn_id i (s.serial + 1)) × (serial_after s line t ≡ s.serial + 1))

stayed : (z u y : Opened) → u.meta.txn ≡ z.meta.txn → Some u ≡ Some y → Before (Some z) y
stayed z u y same is = record { then_open = z; is = refl; same = sym same ∙ ap (λ (o : Opened). o.meta.txn) (some_is u y is) }

new_open : (config : Config) (i : ℕ) (s : Keeps) (priority : ℕ) (reading : Option ℕ) (t : Told) (y : Opened) → opens config i s priority reading t ≡ Some y → (y.meta.txn ≡ txn_id i (s.serial + 1)) × (serial_after s (command.Begin priority) t ≡ s.serial + 1)
new_open config i s priority (Some n) (told.Began x at) y is = (sym (ap (λ (o : Opened). o.meta.txn) (some_is _ y is)), refl)
new_open config i s priority None t y is = cc
new_open config i s priority (Some n) t y is = cc

write_before : (z y : Opened) (place : Place) (o : Op) (t : Told) → after_write z place o t ≡ Some y → Before (Some z) y
write_before z y place o (told.Written at) is = stayed z _ y refl is
write_before z y place o (told.Refused (why.Conflict other)) is = cc
write_before z y place o (told.Refused (why.Overlap at)) is = cc
write_before z y place o (told.Refused (why.LogFault a)) is = cc
write_before z y place o t is = stayed z z y refl is

end_before : (z y : Opened) (t : Told) → after_end z t ≡ Some y → Before (Some z) y
end_before z y (told.Committed x at) is = cc
end_before z y (told.Ended x) is = cc
end_before z y (told.Refused (why.Aborted by)) is = cc
end_before z y (told.Refused (why.LogFault a)) is = stayed z _ y refl is
end_before z y t is = stayed z z y refl is

read_before : (z y : Opened) (limits : List TabletLimit) (t : Told) → after_read z limits t ≡ Some y → Before (Some z) y
read_before z y limits (told.Values at restarts rows) is = stayed z _ y refl is
read_before z y limits t is = stayed z (record z { limits = limits }) y refl is

came_from : (config : Config) (i : ℕ) (s : Keeps) (line : Command) (reading : Option ℕ) (limits : List TabletLimit) (t : Told) (o : Option Opened) (y : Opened) → opened_after config i s line reading limits t o ≡ Some y → Came i s line t o y
came_from config i s (command.Begin priority) reading limits t None y is = inr (new_open config i s priority reading t y is)
came_from config i s line reading limits t None y is = cc
came_from config i s (command.Put place v) reading limits t (Some z) y is = inl (write_before z y place _ t is)
came_from config i s (command.Del place) reading limits t (Some z) y is = inl (write_before z y place _ t is)
came_from config i s command.Commit reading limits t (Some z) y is = inl (end_before z y t is)
came_from config i s command.Abort reading limits t (Some z) y is = inl (end_before z y t is)
came_from config i s command.End reading limits t (Some z) y is = inl (end_before z y t is)
came_from config i s (command.Read strict places) reading limits t (Some z) y is = inl (read_before z y limits t is)
came_from config i s (command.Scan strict place) reading limits t (Some z) y is = inl (read_before z y limits t is)
came_from config i s line reading limits t (Some z) y is = inl (stayed z z y refl is)

-- ## the id of what is open

-- it is of the session, with a serial number that it used
abbrev pub IsId : Actor → ℕ → ℕ → Type 0
IsId m serial x = (n : ℕ) × ((x ≡ txn_id (session_of m) n) × (n ≤ serial))

abbrev Ids : Actor → Keeps → Type 0
Ids m s = (y : Opened) → s.opened ≡ Some y → IsId m s.serial y.meta.txn

higher : (m : Actor) (low high x : ℕ) → low ≤ high → IsId m low x → IsId m high x
higher m low high x up id = let under = id.1.1 in (id.0, (id.1.0, omega (arith, under, up)))

kept_ids : (config : Config) (m : Actor) (s : Mover) (line : Option Command) (t : Told) → Ids m s.keeps → Ids m (kept_after config m s line t)
kept_ids config m s None t ids = ids
kept_ids config m s (Some line) t ids = λ y is. elim (came_from config (session_of m) s.keeps line s.reading s.limits t s.keeps.opened y is) [
  | inl before ↦ subst (λ (x : ℕ). IsId m (serial_after s.keeps line t) x) before.same (higher m s.keeps.serial (serial_after s.keeps line t) before.then_open.meta.txn (serial_least s.keeps line t) (ids before.then_open before.is))
  | inr new ↦ let up = new.1 in (s.keeps.serial + 1, (new.0, omega (arith, up)))
]

own_ids : (config : Config) (m : Actor) (s : Mover) (reading : Option ℕ) (event : Event) → Ids m s.keeps → Ids m (mover_after config m s reading event).keeps
own_ids config m s reading (Tell number t) ids = kept_ids config m s s.line t ids
own_ids config m s reading (Start number line) ids = ids
own_ids config m s reading (Ask to asked) ids = ids
own_ids config m s reading (Hear from r) ids = ids
own_ids config m s reading (Serve from asked r time append) ids = ids
own_ids config m s reading (Restarted from kept) ids = ids

pub ids_at : (config : Config) (m : Actor) (h : History) → Ids m (mover_at config m h).keeps
unfolding mover_at
ids_at config m [] = λ y is. cc
ids_at config m (e ∷ h) = elim (same_cases e.actor m) [
  | inl same ↦ rw same.0 (own_ids config m (mover_at config m h) e.reading e.event (ids_at config m h))
  | inr other ↦ rw other.0 (ids_at config m h)
]

-- ## closed for good

abbrev pub Gone : Actor → ℕ → Keeps → Type 0
Gone m x s = (open_txn s.opened ≡ Some x → ⊥) × IsId m s.serial x

same_number : (b n k : ℕ) → b + n ≡ b + k → n ≡ k
same_number b n k is = omega (arith, is)

not_next : (m : Actor) (serial x : ℕ) → IsId m serial x → x ≡ txn_id (session_of m) (serial + 1) → ⊥
not_next m serial x id is =
    let low = id.1.1 in
    let same : id.0 ≡ serial + 1 = same_number (session_of m * 2 ^ 64) id.0 (serial + 1) (sym id.1.0 ∙ is) in
    let wrong : ⊥ = omega (arith, low, same) in absurd wrong

open_cases : (o : Option Opened) (x : ℕ) → open_txn o ≡ Some x → (y : Opened) × ((o ≡ Some y) × (y.meta.txn ≡ x))
open_cases None x is = cc
open_cases (Some y) x is = let same : y.meta.txn ≡ x = cc in (y, (refl, same))

open_is : (o : Option Opened) (y : Opened) (x : ℕ) → o ≡ Some y → y.meta.txn ≡ x → open_txn o ≡ Some x
open_is o y x is same = ap open_txn is ∙ ap Some same

kept_gone : (config : Config) (m : Actor) (x : ℕ) (s : Mover) (line : Option Command) (t : Told) → Gone m x s.keeps → Gone m x (kept_after config m s line t)
kept_gone config m x s None t gone = gone
kept_gone config m x s (Some line) t gone = (
  λ open_now.
      let y = open_cases (opened_after config (session_of m) s.keeps line s.reading s.limits t s.keeps.opened) x open_now in
      elim (came_from config (session_of m) s.keeps line s.reading s.limits t s.keeps.opened y.0 y.1.0) [
        | inl before ↦ gone.0 (open_is s.keeps.opened before.then_open x before.is (before.same ∙ y.1.1))
        | inr new ↦ not_next m s.keeps.serial x gone.1 (sym y.1.1 ∙ new.0)
      ],
  higher m s.keeps.serial (serial_after s.keeps line t) x (serial_least s.keeps line t) gone.1,
)

own_gone : (config : Config) (m : Actor) (x : ℕ) (s : Mover) (reading : Option ℕ) (event : Event) → Gone m x s.keeps → Gone m x (mover_after config m s reading event).keeps
own_gone config m x s reading (Tell number t) gone = kept_gone config m x s s.line t gone
own_gone config m x s reading (Start number line) gone = gone
own_gone config m x s reading (Ask to asked) gone = gone
own_gone config m x s reading (Hear from r) gone = gone
own_gone config m x s reading (Serve from asked r time append) gone = gone
own_gone config m x s reading (Restarted from kept) gone = gone

gone_more : (config : Config) (m : Actor) (x : ℕ) (e : Entry) (h : History) → Gone m x (mover_at config m h).keeps → Gone m x (mover_at config m (e ∷ h)).keeps
unfolding mover_at
gone_more config m x e h gone = elim (same_cases e.actor m) [
  | inl same ↦ rw same.0 (own_gone config m x (mover_at config m h) e.reading e.event gone)
  | inr other ↦ rw other.0 gone
]

pub gone_from : (config : Config) (m : Actor) (x : ℕ) (e : Entry) (b c : History) → StandsOver e b c → Gone m x (mover_at config m (e ∷ b)).keeps → Gone m x (mover_at config m c).keeps
gone_from config m x e b [] stands gone = absurd stands
gone_from config m x e b (f ∷ c) stands gone = elim stands [
  | inl here ↦ subst (λ (g : Entry). Gone m x (mover_at config m (g ∷ c)).keeps) (sym here.0) (subst (λ (l : History). Gone m x (mover_at config m (e ∷ l)).keeps) (sym here.1) gone)
  | inr deeper ↦ gone_more config m x f c (gone_from config m x e b c deeper gone)
]

-- Movers that differ in nothing.
use Rattle.std.proofs.Common.{◌≡◌, ℕ, Bool, true, false, ◌&&◌, not, List, Option, Some, None, refl, sym, ap, ◌∙◌}
use Rattle.std.specs.Prelude.{Result, Ok, Err, OnOk, is_some, is_none}
use Rattle.std.specs.Option.{option_or}
use Rattle.txn_data.specs.declared.actor.Actor.TheVariants.{Session}
use Rattle.txn_data.specs.declared.config.Config.{Config}
use Rattle.txn_data.specs.declared.event.Event.TheVariants as event
use Rattle.txn_data.specs.declared.tablet_limit.TabletLimit.{TabletLimit}
use Rattle.txn_data.specs.declared.told.Told.{Told}
use Rattle.txn_types.specs.Lists.{or_else}
use Rattle.txn_types.specs.Program.{Program}
use Rattle.txn_types.specs.Run.{Mover, mover_after}
use Rattle.txn_types.specs.Session.{Keeps, keeps_after}
use Rattle.session_core.specs.Mover.{between, within, mover_on}
use Rattle.session_core.specs.OpenTxn.{opened_if}
use Rattle.session_core.specs.SessionState.{keeps}
use Rattle.session_core.specs.CommandInFlight.{limits_under}
use Rattle.session_core.specs.declared.command_in_flight.CommandInFlight.{CommandInFlight}
use Rattle.session_core.specs.declared.open_txn.OpenTxn.{OpenTxn}
use Rattle.session_core.specs.declared.session_state.SessionState.{SessionState}

pub on_ok : {A E P Q : Type 0} (r : Result A E) → (P → Q) → OnOk r P → OnOk r Q
on_ok (Ok a) f p = f p
on_ok (Err e) f p = p

pub settled_and : (b c : Bool) → c ≡ true → false ≡ (b && not c)
settled_and true c e = rw e refl
settled_and false c e = refl

pub unsettled_and : (b c : Bool) → c ≡ false → b ≡ (b && not c)
unsettled_and true c e = rw e refl
unsettled_and false c e = refl

-- it goes on in its program, with these limits, and may lose or not
abbrev gone_on : Mover → Program Told → List TabletLimit → Bool → Mover
gone_on m p l b = record m { rest = p; limits = l; may_lose = b }

pub same_gone_on : (m : Mover) (p q : Program Told) (l k : List TabletLimit) (b d : Bool) → p ≡ q → l ≡ k → b ≡ d → gone_on m p l b ≡ gone_on m q k d
same_gone_on m p q l k b d one two three = ap (λ x. gone_on m x l b) one ∙ ap (λ x. gone_on m q x b) two ∙ ap (λ x. gone_on m q k x) three

-- what it keeps is that of the session, also within a command
keeps_on : (config : Config) (i : ℕ) (s : Keeps) (n : ℕ) (u : Option CommandInFlight) → (mover_on config i s n u).keeps ≡ s
keeps_on config i s n None = refl
keeps_on config i s n (Some u) = refl

open_if : (x : Option OpenTxn) → is_some x ≡ is_some (opened_if x)
open_if None = refl
open_if (Some t) = refl

pub is_open : (config : Config) (i : ℕ) (k : SessionState) (n : ℕ) (u : Option CommandInFlight) → is_some k.transaction ≡ is_some (mover_on config i (keeps k) n u).keeps.opened
is_open config i k n u = open_if k.transaction ∙ sym (ap (λ (s : Keeps). is_some s.opened) (keeps_on config i (keeps k) n u))

-- what is told depends on the line, the reading and the limits
pub told_within : (config : Config) (i : ℕ) (s t : Keeps) (n k h : ℕ) (u v : CommandInFlight) (told : Told) → t ≡ s → v.line ≡ u.line → v.reading ≡ u.reading → limits_under s v ≡ limits_under s u
    → mover_after config (Session i) (within config i t n v) None (event.Tell k told) ≡ mover_after config (Session i) (within config i s n u) None (event.Tell h told)
told_within config i s t n k h u v told one two three four =
    ap (λ x. between (keeps_after config i x v.line v.reading (limits_under x v) told) n) one
    ∙ ap (λ x. between (keeps_after config i s x v.reading (limits_under s v) told) n) two
    ∙ ap (λ x. between (keeps_after config i s u.line x (limits_under s v) told) n) three
    ∙ ap (λ x. between (keeps_after config i s u.line u.reading x told) n) four

-- the first request has the first reading
pub or_first : {A : Type 0} (x y : Option A) → option_or x y ≡ or_else x y
or_first None y = refl
or_first (Some a) y = refl

pub none_is : {A : Type 0} (o : Option A) → is_none o ≡ true → o ≡ None
none_is None h = refl
none_is (Some a) h = cc

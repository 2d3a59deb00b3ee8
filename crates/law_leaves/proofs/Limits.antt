-- The limits of a mover under way: those of its transaction, and for each other tablet the first that it heard.
use Rattle.std.proofs.Common.{◌≡◌, ℕ, Bool, true, false, List, [], ◌∷◌, ◌++◌, Option, Some, None, nat_eq, refl, sym, ◌∙◌, ap, subst, inl, inr, if◌then◌else◌}
use Rattle.txn_data.specs.declared.actor.Actor.{Actor}
use Rattle.txn_data.specs.declared.actor.Actor.TheVariants.{Tablet, Status, Session, Applier}
use Rattle.txn_data.specs.declared.command.Command.{Command}
use Rattle.txn_data.specs.declared.config.Config.{Config}
use Rattle.txn_data.specs.declared.tablet_limit.TabletLimit.{TabletLimit}
use Rattle.txn_data.specs.declared.reply.Reply.{Reply}
use Rattle.txn_data.specs.declared.reply.Reply.TheVariants as reply
use Rattle.txn_data.specs.declared.event.Event.{Event}
use Rattle.txn_data.specs.declared.event.Event.TheVariants.{Start, Ask, Serve, Hear, Tell, Restarted}
use Rattle.txn_types.specs.Lists.{or_else}
use Rattle.txn_types.specs.History.{History, is_start}
use Rattle.txn_types.specs.ReadProgram.{limit_of}
use Rattle.txn_types.specs.Run.{Mover, mover_at, mover_after, limits_of, limits_after}
use Rattle.txn_promises.specs.Leaves.{limit_heard, first_limit}
use Rattle.law_machines.proofs.Basics.{same_cases, eq_cases}

or_none : (o : Option ℕ) → or_else o None ≡ o
or_none (Some n) = refl
or_none None = refl

or_assoc : (a b c : Option ℕ) → or_else (or_else a b) c ≡ or_else a (or_else b c)
or_assoc (Some n) b c = refl
or_assoc None b c = refl

limit_choice : (b : Bool) (l : TabletLimit) (rest more : Option ℕ) → (if b then Some l.limit else or_else rest more) ≡ or_else (if b then Some l.limit else rest) more
limit_choice true l rest more = refl
limit_choice false l rest more = refl

limit_append : (k : ℕ) (ls more : List TabletLimit) → limit_of k (ls ++ more) ≡ or_else (limit_of k ls) (limit_of k more)
unfolding limit_of
limit_append k [] more = refl
limit_append k (l ∷ ls) more = rw (limit_append k ls more) (limit_choice (nat_eq l.tablet k) l (limit_of k ls) (limit_of k more))

abbrev one : ℕ → ℕ → List TabletLimit
one j limit = (record { tablet = j; limit = limit }) ∷ []

one_same : (k j limit : ℕ) → nat_eq j k ≡ false → limit_of k (one j limit) ≡ None
unfolding limit_of
one_same k j limit other = rw other refl

known_before : (o more : Option ℕ) (known : ℕ) → o ≡ Some known → o ≡ or_else o more
known_before o more known is = rw is refl

with_heard : (k j limit : ℕ) (ls : List TabletLimit) (o : Option ℕ) → limit_of j ls ≡ o → limit_of k (elim o [ Some known ↦ ls | None ↦ ls ++ one j limit ]) ≡ or_else (limit_of k ls) (limit_of k (one j limit))
with_heard k j limit ls None is = limit_append k ls (one j limit)
with_heard k j limit ls (Some known) is = elim (eq_cases j k) [
  | inl same ↦ known_before (limit_of k ls) (limit_of k (one j limit)) known (subst (λ (n : ℕ). limit_of n ls ≡ Some known) same.1 is)
  | inr differ ↦ sym (ap (λ (o : Option ℕ). or_else (limit_of k ls) o) (one_same k j limit differ.0) ∙ or_none (limit_of k ls))
]

heard_more : (k : ℕ) (ls : List TabletLimit) (from : Actor) (r : Reply) → limit_of k (limits_after ls from r) ≡ or_else (limit_of k ls) (limit_heard k (Hear from r))
heard_more k ls (Tablet j) (reply.Listed limit others) = with_heard k j limit ls (limit_of j ls) refl
heard_more k ls (Tablet j) r = sym (or_none (limit_of k ls))
heard_more k ls (Status j) r = sym (or_none (limit_of k ls))
heard_more k ls (Session i) r = sym (or_none (limit_of k ls))
heard_more k ls (Applier j) r = sym (or_none (limit_of k ls))

abbrev Heard : ℕ → Mover → Option ℕ → Type 0
Heard k s first = limit_of k s.limits ≡ or_else (limit_of k (limits_of s.keeps.opened)) first

own_heard : (config : Config) (k : ℕ) (m : Actor) (s : Mover) (reading : Option ℕ) (event : Event) (line : Command) (first : Option ℕ) → ((l : Command) → s.line ≡ Some l → Heard k s first) → (mover_after config m s reading event).line ≡ Some line →
    Heard k (mover_after config m s reading event) (if is_start event then None else or_else first (limit_heard k event))
own_heard config k m s reading (Start number l) line first before is = sym (or_none (limit_of k (limits_of s.keeps.opened)))
own_heard config k m s reading (Ask to asked) line first before is = before line is ∙ ap (λ (o : Option ℕ). or_else (limit_of k (limits_of s.keeps.opened)) o) (sym (or_none first))
own_heard config k m s reading (Hear from r) line first before is =
    heard_more k s.limits from r ∙ (ap (λ (o : Option ℕ). or_else o (limit_heard k (Hear from r))) (before line is) ∙ or_assoc (limit_of k (limits_of s.keeps.opened)) first (limit_heard k (Hear from r)))
own_heard config k m s reading (Tell number t) line first before is = cc
own_heard config k m s reading (Serve from asked r time append) line first before is = before line is ∙ ap (λ (o : Option ℕ). or_else (limit_of k (limits_of s.keeps.opened)) o) (sym (or_none first))
own_heard config k m s reading (Restarted from kept) line first before is = before line is ∙ ap (λ (o : Option ℕ). or_else (limit_of k (limits_of s.keeps.opened)) o) (sym (or_none first))

pub limits_heard : (config : Config) (k : ℕ) (m : Actor) (h : History) (line : Command) → (mover_at config m h).line ≡ Some line → Heard k (mover_at config m h) (first_limit m k h)
unfolding mover_at first_limit
limits_heard config k m [] line is = cc
limits_heard config k m (e ∷ h) line is = elim (same_cases e.actor m) [
  | inl same ↦ rw same.0 (own_heard config k m (mover_at config m h) e.reading e.event line (first_limit m k h) (λ l. limits_heard config k m h l) (rw same.0 at is))
  | inr other ↦ rw other.0 (limits_heard config k m h line (rw other.0 at is))
]

-- A program is safe where each of its requests is good whenever it is served, whatever the other movers do meanwhile.
use Rattle.std.proofs.Common.{◌≡◌, ℕ, Bool, true, [], ◌∷◌, Option, Some, None}
use Rattle.txn_data.specs.declared.actor.Actor.{Actor}
use Rattle.txn_data.specs.declared.append.Append.{Append}
use Rattle.txn_data.specs.declared.request.Request.{Request}
use Rattle.txn_data.specs.declared.request.Request.TheVariants as request
use Rattle.txn_data.specs.declared.reply.Reply.{Reply}
use Rattle.txn_data.specs.declared.reply.Reply.TheVariants as reply
use Rattle.txn_data.specs.declared.told.Told.{Told}
use Rattle.txn_data.specs.declared.command.Command.{Command}
use Rattle.txn_data.specs.declared.config.Config.{Config}
use Rattle.txn_data.specs.declared.event.Event.TheVariants.{Start, Serve, Restarted}
use Rattle.txn_data.specs.declared.entry.Entry.{Entry}
use Rattle.txn_types.specs.History.{History}
use Rattle.txn_types.specs.Program.{Program, Done, Asks, Reads}
use Rattle.txn_types.specs.Session.{Keeps, at_first}
use Rattle.txn_types.specs.Run.{Mover, Allowed, Steps, Flight, Quiet, Asked, Answered, MayStart, limits_of, program_of, mover_at}
use Rattle.law_messages.proofs.Rules.{Rules, Stage, stage_of, kept, hears, with_own, no_memory, told_memory, entry, Recorded, IsFor, IsFine, Later, later_trans}

-- the command may be told this at any time
abbrev pub Ending : (R : Rules) → Config → Actor → History → Stage → History → Told → Type 0
Ending R config m z c h t = (g : History) → Later R config m h g → R.Ends z m g c t × R.Idle g m (kept config m c t)

-- and out of memory, where that may still be told
abbrev pub Loses : (R : Rules) → Config → Actor → History → Stage → History → Type 0
Loses R config m z c h = c.may_lose ≡ true → Ending R config m z c h told_memory

-- z is the history before the command's start
abbrev pub Safe : (R : Rules) → Config → Actor → History → Stage → History → Program Told → Type 0
Safe R config m z c h (Done t) = Loses R config m z c h × Ending R config m z c h t
Safe R config m z c h (Asks to asked next) = Loses R config m z c h × ((g : History) → Later R config m h g → Steps config g → R.Base g → R.Good g m to asked
    × ((reading : Option ℕ) (r : Reply) (time : Option ℕ) (append : Append) → Allowed config g to reading (Serve m asked r time append) → R.Base (entry to reading (Serve m asked r time append) ∷ g) →
    Safe R config m z (hears m c to r) (entry to reading (Serve m asked r time append) ∷ g) (next r))
    × ((reading : Option ℕ) (k : Bool) → asked ≡ request.Restart → R.Base (entry to reading (Restarted m k) ∷ g) →
    Safe R config m z (hears m c to (reply.Restarted k)) (entry to reading (Restarted m k) ∷ g) (next (reply.Restarted k)))
    × Safe R config m z (hears m c to no_memory) g (next no_memory))
Safe R config m z c h (Reads given) = Loses R config m z c h × ((reading : ℕ) (g : History) → Later R config m h g → Recorded reading m g →
    Safe R config m z (with_own c (Some reading)) g (given reading)
    × ((t : Told) → given reading ≡ Done t → Ending R config m z c g t))

pub loses_later : (R : Rules) (config : Config) (m : Actor) (z : History) (c : Stage) (h g : History) → Later R config m h g → Loses R config m z c h → Loses R config m z c g
loses_later R config m z c h g later loses = λ may f on. loses may f (later_trans R config m h g f later on)

pub safe_later : (R : Rules) (config : Config) (m : Actor) (z : History) (c : Stage) (h g : History) (p : Program Told) → Later R config m h g → Safe R config m z c h p → Safe R config m z c g p
safe_later R config m z c h g (Done t) later safe = (loses_later R config m z c h g later safe.0, λ f on. safe.1 f (later_trans R config m h g f later on))
safe_later R config m z c h g (Asks to asked next) later safe = (loses_later R config m z c h g later safe.0, λ f on. safe.1 f (later_trans R config m h g f later on))
safe_later R config m z c h g (Reads given) later safe = (loses_later R config m z c h g later safe.0, λ reading f on. safe.1 reading f (later_trans R config m h g f later on))

-- ## a mover, whatever it is about

abbrev pub Rests : (R : Rules) → Config → Actor → History → Keeps → Type 0
Rests R config m h keeps = (g : History) → Later R config m h g → R.Idle g m keeps

abbrev pub Waits : (R : Rules) → Config → Actor → History → Stage → History → Program Told → Actor → Request → Type 0
Waits R config m z c h (Asks to asked next) a q = (to ≡ a) × (asked ≡ q) × Safe R config m z c h (Asks to asked next)
Waits R config m z c h p a q = ⊥

abbrev pub Hears : (R : Rules) → Config → Actor → History → Stage → History → Program Told → Actor → Reply → Type 0
Hears R config m z c h (Asks to asked next) by r = (to ≡ by) × Safe R config m z (hears m c by r) h (next r)
Hears R config m z c h p by r = ⊥

abbrev pub MoverIs : (R : Rules) → Config → Actor → History → Stage → History → Program Told → Option Command → Flight → Type 0
MoverIs R config m z c h p None Quiet = Rests R config m h c.keeps
MoverIs R config m z c h p None f = ⊥
MoverIs R config m z c h p (Some line) Quiet = Safe R config m z c h p
MoverIs R config m z c h p (Some line) (Asked a q) = Waits R config m z c h p a q
MoverIs R config m z c h p (Some line) (Answered by r) = Hears R config m z c h p by r

abbrev pub MoverAt : (R : Rules) → Config → Actor → History → History → Mover → Flight → Type 0
MoverAt R config m h z s f = MoverIs R config m z (stage_of s) h s.rest s.line f

-- between two commands a mover rests
pub rests_idle : (R : Rules) (config : Config) (m : Actor) (z : History) (c : Stage) (h : History) (p : Program Told) (line : Option Command) (f : Flight) → MoverIs R config m z c h p line f → line ≡ None → Rests R config m h c.keeps
rests_idle R config m z c h p None Quiet is none = is
rests_idle R config m z c h p None (Asked a q) is none = absurd is
rests_idle R config m z c h p None (Answered by r) is none = absurd is
rests_idle R config m z c h p (Some line) f is none = cc

-- what a proof by rules has to show
pub record Keeping (R : Rules) (config : Config) : Type 0 where
  pub first_base : R.Base []
  pub base : (h : History) (e : Entry) → R.Base h → IsFine R config h e → R.Base (e ∷ h)
  pub first_idle : (m : Actor) → R.Idle [] m at_first
  pub idle : (h : History) (e : Entry) (m : Actor) (keeps : Keeps) → R.Base h → IsFine R config h e → (IsFor m e.event → ⊥) → R.Idle h m keeps → R.Idle (e ∷ h) m keeps
  pub starts : (h : History) (m : Actor) (s : Mover) (number : ℕ) (line : Command) → Steps config h → R.Base h → mover_at config m h ≡ s → MayStart config m s line →
      R.Idle (entry m None (Start number line) ∷ h) m s.keeps →
      Safe R config m h (record { keeps = s.keeps; line = Some line; reading = None; limits = limits_of s.keeps.opened; may_lose = true })
      (entry m None (Start number line) ∷ h) (program_of config m s.keeps line)

-- ## the same over what the others did since

pub stays : (R : Rules) (config : Config) (m : Actor) (z : History) (c : Stage) (h g : History) (p : Program Told) (line : Option Command) (f : Flight) → Later R config m h g →
    MoverIs R config m z c h p line f → MoverIs R config m z c g p line f
stays R config m z c h g p None Quiet later at = λ k on. at k (later_trans R config m h g k later on)
stays R config m z c h g p None (Asked a q) later at = absurd at
stays R config m z c h g p None (Answered by r) later at = absurd at
stays R config m z c h g p (Some line) Quiet later at = safe_later R config m z c h g p later at
stays R config m z c h g (Asks to asked next) (Some line) (Asked a q) later at = (at.0, at.1, safe_later R config m z c h g (Asks to asked next) later at.2)
stays R config m z c h g (Done t) (Some line) (Asked a q) later at = absurd at
stays R config m z c h g (Reads given) (Some line) (Asked a q) later at = absurd at
stays R config m z c h g (Asks to asked next) (Some line) (Answered by r) later at = (at.0, safe_later R config m z (hears m c by r) h g (next r) later at.1)
stays R config m z c h g (Done t) (Some line) (Answered by r) later at = absurd at
stays R config m z c h g (Reads given) (Some line) (Answered by r) later at = absurd at

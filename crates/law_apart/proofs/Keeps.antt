-- What a session keeps of its open transaction is its read time, after each entry.
use Rattle.std.proofs.Common.{◌≡◌, ℕ, ◌<◌, ◌≤◌, true, false, List, Option, Some, None, refl, sym, ◌∙◌, ap, subst, arith}
use Rattle.txn_data.specs.declared.command.Command.{Command}
use Rattle.txn_data.specs.declared.command.Command.TheVariants as command
use Rattle.txn_data.specs.declared.config.Config.{Config}
use Rattle.txn_data.specs.declared.op.Op.{Op}
use Rattle.txn_data.specs.declared.place.Place.{Place}
use Rattle.txn_data.specs.declared.tablet_limit.TabletLimit.{TabletLimit}
use Rattle.txn_data.specs.declared.told.Told.{Told}
use Rattle.txn_data.specs.declared.told.Told.TheVariants as told
use Rattle.txn_data.specs.declared.told_refusal.ToldRefusal.TheVariants as told_refusal
use Rattle.txn_data.specs.declared.event.Event.TheVariants.{Tell}
use Rattle.txn_types.specs.Lists.{or_else, or_zero}
use Rattle.txn_types.specs.History.{History}
use Rattle.txn_types.specs.Session.{Keeps, Opened, opens, after_write, after_end, after_read, opened_after}
use Rattle.txn_types.specs.Reads.{began_time, read_time}
use Rattle.law_owners.specs.Owner.{owner_of}
use Rattle.law_open_txns.proofs.Open.{number_of}
use Rattle.law_apart.proofs.Steps.{first_read, IsSilent, Same}

-- of session i, whose serial number this is
pub record OpenRead (config : Config) (h : History) (i serial : ℕ) (x : Opened) : Type 0 where
  pub owner : owner_of x.meta.txn ≡ i
  pub number : number_of x.meta.txn ≤ serial
  pub time : read_time config h x.meta.txn ≡ x.r
  pub unread : x.has_read ≡ false → first_read config h x.meta.txn ≡ None
  pub done : x.has_read ≡ true → first_read config h x.meta.txn ≡ Some x.r

abbrev pub OpenedRead : Config → History → ℕ → ℕ → Option Opened → Type 0
OpenedRead config h i serial None = Unit {0}
OpenedRead config h i serial (Some x) = OpenRead config h i serial x

pub record SessionRead (config : Config) (h : History) (i serial : ℕ) (o : Option Opened) : Type 0 where
  pub opened : OpenedRead config h i serial o
  pub fresh : (x : ℕ) → owner_of x ≡ i → serial < number_of x → (began_time x h ≡ None) × (first_read config h x ≡ None)

pub same_time : (config : Config) (x : ℕ) (h g : History) → Same config x h g → read_time config g x ≡ read_time config h x
same_time config x h g same = ap (λ (o : Option ℕ). or_zero (or_else o (began_time x g))) same.1 ∙ ap (λ (o : Option ℕ). or_zero (or_else (first_read config h x) o)) same.0

pub open_same : (config : Config) (h g : History) (i few many : ℕ) (x : Opened) → Same config x.meta.txn h g → few ≤ many → OpenRead config h i few x → OpenRead config g i many x
open_same config h g i few many x same le ok = let number = ok.number in record {
  owner = ok.owner;
  number = omega (arith, number, le);
  time = same_time config x.meta.txn h g same ∙ ok.time;
  unread = λ is. same.1 ∙ ok.unread is;
  done = λ is. same.1 ∙ ok.done is;
}

pub opened_same : (config : Config) (h g : History) (i few many : ℕ) (opened : Option Opened) → ((x : ℕ) → owner_of x ≡ i → Same config x h g) → few ≤ many → OpenedRead config h i few opened → OpenedRead config g i many opened
opened_same config h g i few many None same le ok = tt
opened_same config h g i few many (Some x) same le ok = open_same config h g i few many x (same x.meta.txn ok.owner) le ok

-- ## what is told otherwise leaves it

-- the same transaction with the same read time
abbrev SameOpen : Opened → Option Opened → Type 0
SameOpen x None = Unit {0}
SameOpen x (Some y) = (y.meta ≡ x.meta) × (y.r ≡ x.r) × (y.has_read ≡ x.has_read)

same_open : (config : Config) (g : History) (i serial : ℕ) (x : Opened) (o : Option Opened) → SameOpen x o → OpenRead config g i serial x → OpenedRead config g i serial o
same_open config g i serial x None same ok = tt
same_open config g i serial x (Some y) same ok =
    let id : y.meta.txn ≡ x.meta.txn = ap (λ m. m.txn) same.0 in
    record {
      owner = ap owner_of id ∙ ok.owner;
      number = subst (λ (n : ℕ). number_of n ≤ serial) (sym id) ok.number;
      time = ap (λ (n : ℕ). read_time config g n) id ∙ (ok.time ∙ sym same.1);
      unread = λ is. ap (λ (n : ℕ). first_read config g n) id ∙ ok.unread (sym same.2 ∙ is);
      done = λ is. ap (λ (n : ℕ). first_read config g n) id ∙ (ok.done (sym same.2 ∙ is) ∙ ap Some (sym same.1));
    }

write_open : (x : Opened) (place : Place) (o : Op) (t : Told) → SameOpen x (after_write x place o t)
write_open x place o (told.Written at) = (refl, refl, refl)
write_open x place o (told.Refused (told_refusal.Conflict other)) = tt
write_open x place o (told.Refused (told_refusal.Overlap at)) = tt
write_open x place o (told.Refused (told_refusal.LogFault actor)) = tt
write_open x place o t = (refl, refl, refl)

end_open : (x : Opened) (t : Told) → SameOpen x (after_end x t)
end_open x (told.Committed y at) = tt
end_open x (told.Ended y) = tt
end_open x (told.Refused (told_refusal.Aborted by)) = tt
end_open x (told.Refused (told_refusal.LogFault actor)) = (refl, refl, refl)
end_open x t = (refl, refl, refl)

read_open : (x : Opened) (limits : List TabletLimit) (number : ℕ) (t : Told) → IsSilent (Tell number t) → SameOpen x (after_read x limits t)
read_open x limits number (told.Values at restarts rows) silent = absurd silent
read_open x limits number t silent = (refl, refl, refl)

no_open : (config : Config) (i : ℕ) (s : Keeps) (priority number : ℕ) (reading : Option ℕ) (t : Told) → IsSilent (Tell number t) → opens config i s priority reading t ≡ None
no_open config i s priority number (Some reading) (told.Began y at) silent = absurd silent
no_open config i s priority number reading t silent = refl

line_open : (config : Config) (i : ℕ) (s : Keeps) (line : Command) (number : ℕ) (reading : Option ℕ) (limits : List TabletLimit) (t : Told) (x : Opened) → IsSilent (Tell number t) → SameOpen x (opened_after config i s line reading limits t (Some x))
line_open config i s (command.Put place v) number reading limits t x silent = write_open x place _ t
line_open config i s (command.Del place) number reading limits t x silent = write_open x place _ t
line_open config i s command.Commit number reading limits t x silent = end_open x t
line_open config i s command.Abort number reading limits t x silent = end_open x t
line_open config i s command.End number reading limits t x silent = end_open x t
line_open config i s (command.Read strict places) number reading limits t x silent = read_open x limits number t silent
line_open config i s (command.Scan strict place) number reading limits t x silent = read_open x limits number t silent
line_open config i s line number reading limits t x silent = (refl, refl, refl)

pub silent_opened : (config : Config) (g : History) (i serial : ℕ) (s : Keeps) (line : Command) (number : ℕ) (reading : Option ℕ) (limits : List TabletLimit) (t : Told) (opened : Option Opened) → IsSilent (Tell number t) → OpenedRead config g i serial opened →
    OpenedRead config g i serial (opened_after config i s line reading limits t opened)
silent_opened config g i serial s (command.Begin priority) number reading limits t None silent ok = subst (λ (o : Option Opened). OpenedRead config g i serial o) (sym (no_open config i s priority number reading t silent)) tt
silent_opened config g i serial s line number reading limits t None silent ok = tt
silent_opened config g i serial s line number reading limits t (Some x) silent ok = same_open config g i serial x (opened_after config i s line reading limits t (Some x)) (line_open config i s line number reading limits t x silent) ok

-- A command that is lost at its start leaves the open transaction as it was.
use Rattle.std.proofs.Common.{◌≡◌, ℕ, Option, Some, None, refl, sym, ap, ◌∙◌, max, arith}
use Rattle.txn_data.specs.declared.command.Command.{Command}
use Rattle.txn_data.specs.declared.command.Command.TheVariants as command
use Rattle.txn_data.specs.declared.config.Config.{Config}
use Rattle.txn_data.specs.declared.told.Told.TheVariants as told
use Rattle.txn_data.specs.declared.told_refusal.ToldRefusal.TheVariants as told_refusal
use Rattle.txn_types.specs.Session.{Keeps, Opened, opened_after, serial_after, keeps_after}
use Rattle.txn_types.specs.Run.{limits_of}

pub lost_opened : (config : Config) (i : ℕ) (s : Keeps) (line : Command) (o : Option Opened) →
    opened_after config i s line None (limits_of o) (told.Refused told_refusal.Memory) o ≡ o
lost_opened config i s (command.Begin priority) None = refl
lost_opened config i s (command.Put place v) None = refl
lost_opened config i s (command.Del place) None = refl
lost_opened config i s command.Commit None = refl
lost_opened config i s command.Abort None = refl
lost_opened config i s (command.Read strict places) None = refl
lost_opened config i s (command.Scan strict place) None = refl
lost_opened config i s (command.SinglePut place v priority) None = refl
lost_opened config i s (command.SingleDel place priority) None = refl
lost_opened config i s (command.Restart actor) None = refl
lost_opened config i s (command.Apply tablet) None = refl
lost_opened config i s (command.Clock node micros) None = refl
lost_opened config i s command.End None = refl
lost_opened config i s (command.Begin priority) (Some x) = refl
lost_opened config i s (command.Put place v) (Some x) = refl
lost_opened config i s (command.Del place) (Some x) = refl
lost_opened config i s command.Commit (Some x) = refl
lost_opened config i s command.Abort (Some x) = refl
lost_opened config i s (command.Read strict places) (Some x) = refl
lost_opened config i s (command.Scan strict place) (Some x) = refl
lost_opened config i s (command.SinglePut place v priority) (Some x) = refl
lost_opened config i s (command.SingleDel place priority) (Some x) = refl
lost_opened config i s (command.Restart actor) (Some x) = refl
lost_opened config i s (command.Apply tablet) (Some x) = refl
lost_opened config i s (command.Clock node micros) (Some x) = refl
lost_opened config i s command.End (Some x) = refl

pub max_none : (n : ℕ) → max n 0 ≡ n
max_none n = omega arith

-- the same but for the serial number
abbrev with_serial : Keeps → ℕ → Keeps
with_serial s n = record { last = s.last; serial = n; opened = s.opened }

pub lost_keeps : (config : Config) (i : ℕ) (s : Keeps) (line : Command) (serial : ℕ) → serial ≡ serial_after s line (told.Refused told_refusal.Memory)
    → with_serial s serial ≡ keeps_after config i s line None (limits_of s.opened) (told.Refused told_refusal.Memory)
lost_keeps config i s line serial e =
    let f : ℕ → ℕ → Option Opened → Keeps = λ l n o. record { last = l; serial = n; opened = o } in
    let used = serial_after s line (told.Refused told_refusal.Memory) in
    ap (λ l. f l serial s.opened) (sym (max_none s.last))
    ∙ ap (λ n. f (max s.last 0) n s.opened) e
    ∙ ap (λ o. f (max s.last 0) used o) (sym (lost_opened config i s line s.opened))

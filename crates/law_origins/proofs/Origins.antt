-- Two configs move a mover alike, as far as its lines, its serial numbers and its open transaction go.
use Rattle.std.proofs.Common.{◌≡◌, ℕ, List, [], ◌∷◌, Option, Some, None, refl, sym, ◌∙◌, ap, inl, inr, ◌+◌}
use Rattle.txn_data.specs.declared.actor.Actor.{Actor}
use Rattle.txn_data.specs.declared.actor.Actor.TheVariants.{Session}
use Rattle.txn_data.specs.declared.op.Op.{Op}
use Rattle.txn_data.specs.declared.op.Op.TheVariants as op
use Rattle.txn_data.specs.declared.place.Place.{Place}
use Rattle.txn_data.specs.declared.tablet_limit.TabletLimit.{TabletLimit}
use Rattle.txn_data.specs.declared.told.Told.{Told}
use Rattle.txn_data.specs.declared.told.Told.TheVariants as told
use Rattle.txn_data.specs.declared.told_refusal.ToldRefusal.TheVariants as told_refusal
use Rattle.txn_data.specs.declared.command.Command.{Command}
use Rattle.txn_data.specs.declared.command.Command.TheVariants as command
use Rattle.txn_data.specs.declared.config.Config.{Config}
use Rattle.txn_data.specs.declared.event.Event.{Event}
use Rattle.txn_data.specs.declared.event.Event.TheVariants.{Start, Ask, Serve, Hear, Tell, Restarted}
use Rattle.txn_types.specs.Lists.{or_else}
use Rattle.txn_types.specs.History.{History, same_actor}
use Rattle.txn_types.specs.Session.{Opened, Keeps, txn_id, after_write, after_end, after_read, opens, opened_after, serial_after}
use Rattle.txn_types.specs.Run.{Mover, mover_at, mover_after, kept_after, session_of}
use Rattle.txn_types.specs.Reads.{open_txn, start_of, origin_under}
use Rattle.law_machines.proofs.Basics.{test_cases}
use Rattle.law_origins.specs.Laws.{OriginsAreOfNoConfig}

write_like : (x y : Opened) (place : Place) (o : Op) (t : Told) → Some x.meta.txn ≡ Some y.meta.txn → open_txn (after_write x place o t) ≡ open_txn (after_write y place o t)
write_like x y place o (told.Written at) same = same
write_like x y place o (told.Refused (told_refusal.Conflict other)) same = refl
write_like x y place o (told.Refused (told_refusal.Overlap at)) same = refl
write_like x y place o (told.Refused (told_refusal.LogFault actor)) same = refl
write_like x y place o (told.Refused why) same = same
write_like x y place o t same = same

end_like : (x y : Opened) (t : Told) → Some x.meta.txn ≡ Some y.meta.txn → open_txn (after_end x t) ≡ open_txn (after_end y t)
end_like x y (told.Committed z at) same = refl
end_like x y (told.Ended z) same = refl
end_like x y (told.Refused (told_refusal.Aborted by)) same = refl
end_like x y (told.Refused (told_refusal.LogFault actor)) same = same
end_like x y (told.Refused why) same = same
end_like x y t same = same

read_like : (x y : Opened) (ls ms : List TabletLimit) (t : Told) → Some x.meta.txn ≡ Some y.meta.txn → open_txn (after_read x ls t) ≡ open_txn (after_read y ms t)
read_like x y ls ms (told.Values at restarts rows) same = same
read_like x y ls ms t same = same

opens_like : (config other : Config) (i priority : ℕ) (s u : Keeps) (reading : Option ℕ) (t : Told) → s.serial ≡ u.serial → open_txn (opens config i s priority reading t) ≡ open_txn (opens other i u priority reading t)
opens_like config other i priority s u None t same = refl
opens_like config other i priority s u (Some r) (told.Began x at) same = ap (λ n. Some (txn_id i (n + 1))) same
opens_like config other i priority s u (Some r) t same = refl

none_some : (x : ℕ) → None ≡ Some x → ⊥
none_some x is = cc

opened_like : (config other : Config) (i : ℕ) (s u : Keeps) (line : Command) (reading : Option ℕ) (ls ms : List TabletLimit) (t : Told) (o p : Option Opened) → s.serial ≡ u.serial → open_txn o ≡ open_txn p →
    open_txn (opened_after config i s line reading ls t o) ≡ open_txn (opened_after other i u line reading ms t p)
opened_like config other i s u line reading ls ms t None (Some y) serial same = absurd (none_some y.meta.txn same)
opened_like config other i s u line reading ls ms t (Some x) None serial same = absurd (none_some x.meta.txn (sym same))
opened_like config other i s u (command.Begin priority) reading ls ms t None None serial same = opens_like config other i priority s u reading t serial
opened_like config other i s u line reading ls ms t None None serial same = refl
opened_like config other i s u (command.Put place v) reading ls ms t (Some x) (Some y) serial same = write_like x y place (op.Put v) t same
opened_like config other i s u (command.Del place) reading ls ms t (Some x) (Some y) serial same = write_like x y place op.Delete t same
opened_like config other i s u command.Commit reading ls ms t (Some x) (Some y) serial same = end_like x y t same
opened_like config other i s u command.Abort reading ls ms t (Some x) (Some y) serial same = end_like x y t same
opened_like config other i s u command.End reading ls ms t (Some x) (Some y) serial same = end_like x y t same
opened_like config other i s u (command.Read strict places) reading ls ms t (Some x) (Some y) serial same = read_like x y ls ms t same
opened_like config other i s u (command.Scan strict place) reading ls ms t (Some x) (Some y) serial same = read_like x y ls ms t same
opened_like config other i s u line reading ls ms t (Some x) (Some y) serial same = same

serial_like : (s u : Keeps) (line : Command) (t : Told) → s.serial ≡ u.serial → serial_after s line t ≡ serial_after u line t
serial_like s u line (told.Refused told_refusal.TxnOpen) same = same
serial_like s u line (told.Refused why) same = rw same refl
serial_like s u line t same = rw same refl

-- two movers with the same line under way, the same serial number, the same transaction open and the same reading
record Like (m n : Mover) : Type 0 where
  pub line : m.line ≡ n.line
  pub reading : m.reading ≡ n.reading
  pub serial : m.keeps.serial ≡ n.keeps.serial
  pub opened : open_txn m.keeps.opened ≡ open_txn n.keeps.opened

kept_serial : (config other : Config) (a : Actor) (m n : Mover) (line : Option Command) (t : Told) → Like m n → (kept_after config a m line t).serial ≡ (kept_after other a n line t).serial
kept_serial config other a m n None t like = like.serial
kept_serial config other a m n (Some line) t like = serial_like m.keeps n.keeps line t like.serial

kept_opened : (config other : Config) (a : Actor) (m n : Mover) (line : Option Command) (t : Told) → Like m n → open_txn (kept_after config a m line t).opened ≡ open_txn (kept_after other a n line t).opened
kept_opened config other a m n None t like = like.opened
kept_opened config other a m n (Some line) t like =
    opened_like config other (session_of a) m.keeps n.keeps line m.reading m.limits n.limits t m.keeps.opened n.keeps.opened like.serial like.opened
    ∙ ap (λ (r : Option ℕ). open_txn (opened_after other (session_of a) n.keeps line r n.limits t n.keeps.opened)) like.reading

after_like : (config other : Config) (a : Actor) (m n : Mover) (reading : Option ℕ) (event : Event) → Like m n → Like (mover_after config a m reading event) (mover_after other a n reading event)
after_like config other a m n reading (Start number line) like = record { line = refl; reading = refl; serial = like.serial; opened = like.opened }
after_like config other a m n reading (Ask to asked) like = record { line = like.line; reading = ap (λ (r : Option ℕ). or_else r reading) like.reading; serial = like.serial; opened = like.opened }
after_like config other a m n reading (Hear from r) like = record { line = like.line; reading = like.reading; serial = like.serial; opened = like.opened }
after_like config other a m n reading (Tell number t) like = record {
  line = refl;
  reading = refl;
  serial = kept_serial config other a m n m.line t like ∙ ap (λ (l : Option Command). (kept_after other a n l t).serial) like.line;
  opened = kept_opened config other a m n m.line t like ∙ ap (λ (l : Option Command). open_txn (kept_after other a n l t).opened) like.line;
}
after_like config other a m n reading (Serve from asked r time append) like = like
after_like config other a m n reading (Restarted from kept) like = like

movers_like : (config other : Config) (a : Actor) (h : History) → Like (mover_at config a h) (mover_at other a h)
unfolding mover_at
movers_like config other a [] = record { line = refl; reading = refl; serial = refl; opened = refl }
movers_like config other a (e ∷ h) = elim (test_cases (same_actor e.actor a)) [
  | inl own ↦ rw own (after_like config other a (mover_at config a h) (mover_at other a h) e.reading e.event (movers_like config other a h))
  | inr not ↦ rw not (movers_like config other a h)
]

pub one_origin : OriginsAreOfNoConfig
one_origin config other read = ap (origin_under read) (movers_like config other (Session read.session) (start_of read)).opened

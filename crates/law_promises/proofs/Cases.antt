-- Histories that are no runs, whatever stands before: each breaks one fact with one entry.
use Rattle.std.proofs.Common.{◌≡◌, ℕ, ◌+◌, [], ◌∷◌, Some, None, refl, inl, inr, arith}
use Rattle.doc_path.specs.Path.{Parts}
use Rattle.txn_data.specs.declared.actor.Actor.TheVariants.{Tablet, Status, Session, Applier}
use Rattle.txn_data.specs.declared.append.Append.TheVariants.{Nothing, Took}
use Rattle.txn_data.specs.declared.command.Command.TheVariants as command
use Rattle.txn_data.specs.declared.config.Config.{Config}
use Rattle.txn_data.specs.declared.told.Told.TheVariants as told
use Rattle.txn_data.specs.declared.fate.Fate.TheVariants as fate
use Rattle.txn_data.specs.declared.isolation.Isolation.TheVariants.{Snapshot}
use Rattle.txn_data.specs.declared.meta.Meta.{Meta}
use Rattle.txn_data.specs.declared.op.Op.TheVariants.{Delete}
use Rattle.txn_data.specs.declared.request.Request.TheVariants as request
use Rattle.txn_data.specs.declared.reply.Reply.TheVariants as reply
use Rattle.txn_data.specs.declared.event.Event.{Event}
use Rattle.txn_data.specs.declared.event.Event.TheVariants.{Start, Ask, Serve, Hear, Tell}
use Rattle.txn_data.specs.declared.entry.Entry.{Entry}
use Rattle.txn_types.specs.History.{History}
use Rattle.txn_types.specs.Run.{Run}
use Rattle.law_machines.proofs.Owns.{run_until}
use Rattle.law_clocks.proofs.Runs.{times_keep_floors, listings_promise}
use Rattle.law_owners.proofs.Runs.{pending_kept}
use Rattle.law_fates.proofs.Runs.{told_committed, commits_once}
use Rattle.law_session_order.proofs.Runs.{no_write_after, commits_above}
use Rattle.law_carried_fates.proofs.Runs.{applies_committed}

-- the first transaction of session 1
abbrev pub x : ℕ
x = 18446744073709551617

abbrev pub doc : Parts
doc = (7 ∷ []) ∷ []

abbrev pub meta : Meta
meta = record { txn = x; status = 0; isolation = Snapshot; priority = 0 }

abbrev pub at_status : Event → Entry
at_status event = record { actor = Status 0; reading = Some 0; event = event }

abbrev pub at_tablet : Event → Entry
at_tablet event = record { actor = Tablet 0; reading = Some 0; event = event }

-- it commits at this time, asked with this floor
abbrev pub commits : ℕ → ℕ → Entry
commits floor c = at_status (Serve (Session 1) (request.Commit x floor (0 ∷ [])) (reply.Committed c) (Some c) Took)

-- it writes at this time
abbrev pub writes : ℕ → Entry
writes w = at_tablet (Serve (Session 1) (request.Write meta 0 doc Delete 0 0 []) (reply.Written w) (Some w) Took)

abbrev pub by_writer : Event → Entry
by_writer event = record { actor = Session 1; reading = None; event = event }

-- it writes at this time, its session is told so, and asks to commit with this floor; the number is that of the command
abbrev pub asks_to_commit : ℕ → ℕ → ℕ → History → History
asks_to_commit number w floor h =
    by_writer (Ask (Status 0) (request.Commit x floor (0 ∷ [])))
    ∷ by_writer (Start (number + 1) command.Commit)
    ∷ by_writer (Tell number (told.Written w))
    ∷ by_writer (Hear (Tablet 0) (reply.Written w))
    ∷ writes w
    ∷ h

-- someone asks about it at t, and hears Pending with this time of the clock
abbrev pending : ℕ → ℕ → Entry
pending t now = at_status (Serve (Session 2) (request.AskFate x t) (reply.FateIs fate.Pending) (Some now) Nothing)

-- a tablet lists for a read at t, with this local limit
abbrev pub lists : ℕ → ℕ → Entry
lists t limit = at_tablet (Serve (Session 2) (request.ListRead None (doc ∷ []) t 8191 None) (reply.Listed limit []) (Some t) Nothing)

-- Pending, with the clock left below the time asked about
abbrev low_clock : ℕ
low_clock = 5

clock_left_below : (config : Config) (h : History) → Run config (pending 10 low_clock ∷ h) → ⊥
clock_left_below config h run =
    let p = times_keep_floors config (pending 10 low_clock ∷ h) (pending 10 low_clock) low_clock run (inl refl) refl in
    let low = p.0 in omega (arith, low)

-- a commit below what Pending promised
abbrev low_commit : ℕ
low_commit = 5

commit_below_promise : (config : Config) (h : History) → Run config (commits 3 low_commit ∷ pending 10 10 ∷ h) → ⊥
commit_below_promise config h run =
    let p = pending_kept config (commits 3 low_commit ∷ pending 10 10 ∷ h) (pending 10 10 ∷ h) (pending 10 10) (commits 3 low_commit) (Session 2) (Session 1) x 10 3 low_commit (0 ∷ []) (reply.Committed low_commit) (Some 10) Nothing Took
    run (inl (refl, refl)) (inl refl) refl refl in
    omega (arith, p)

-- a commit at the time of a write
abbrev early_commit : ℕ
early_commit = 5

commit_below_write : (config : Config) (h : History) (number : ℕ) → Run config (commits 5 early_commit ∷ asks_to_commit number 5 5 h) → ⊥
commit_below_write config h number run =
    let all = commits 5 early_commit ∷ asks_to_commit number 5 5 h in
    let committed = told_committed config all (commits 5 early_commit) x early_commit run (inl refl) (refl, refl) in
    let above = commits_above config all (writes 5) early_commit 0 0 0 (Session 1) meta doc Delete [] (reply.Written 5) (Some 5) Took run (inr (inr (inr (inr (inr (inl refl)))))) refl committed in
    let low = above.2 5 refl in omega (arith, low)

-- a write after a commit, also of one that was lost
write_after_commit : (config : Config) (h : History) → Run config (writes 9 ∷ commits 3 5 ∷ h) → ⊥
write_after_commit config h run = no_write_after config (writes 9 ∷ commits 3 5 ∷ h) (commits 3 5 ∷ h) (writes 9) (commits 3 5) x run (inl (refl, refl)) refl (inl refl) (refl, tt)

-- a write at or below what a listing read promised
abbrev low_write : ℕ
low_write = 10

write_below_listing : (config : Config) (h : History) → Run config (writes low_write ∷ lists 10 10 ∷ h) → ⊥
write_below_listing config h run =
    let p = listings_promise config (writes low_write ∷ lists 10 10 ∷ h) (lists 10 10 ∷ h) (lists 10 10) (writes low_write) 10 8191 None 10 low_write run (inl (refl, refl)) (inl refl) refl (refl, refl, refl, refl) tt refl in
    let lt = p.0 in omega (arith, lt)

-- an applier is told that it is committed at this time, and asks to apply it then
abbrev pub to_apply : ℕ → History → History
to_apply c h =
    (record { actor = Applier 0; reading = None; event = Ask (Tablet 0) (request.Apply x c) })
    ∷ (record { actor = Applier 0; reading = None; event = Hear (Status 0) (reply.FateIs (fate.Committed c)) })
    ∷ at_status (Serve (Applier 0) (request.AskFate x 0) (reply.FateIs (fate.Committed c)) (Some 20) Nothing)
    ∷ h

-- a tablet applies it at this time
abbrev pub applies : ℕ → Entry
applies c = at_tablet (Serve (Applier 0) (request.Apply x c) reply.AppliedHere (Some 20) Took)

-- an apply at another time than that of the commit, as that of the write
abbrev elsewhen : ℕ
elsewhen = 5

applied_elsewhen : (config : Config) (h : History) → Run config (applies elsewhen ∷ to_apply 9 h) → ⊥
applied_elsewhen config h run =
    let all = applies elsewhen ∷ to_apply 9 h in
    let told = at_status (Serve (Applier 0) (request.AskFate x 0) (reply.FateIs (fate.Committed 9)) (Some 20) Nothing) in
    let until = run_until config all (to_apply 9 h) (applies elsewhen) run (inl (refl, refl)) in
    let was = applies_committed config all (to_apply 9 h) (applies elsewhen) x elsewhen run (inl (refl, refl)) (refl, refl) in
    let same : elsewhen ≡ 9 = commits_once config (to_apply 9 h) x elsewhen 9 until was (told_committed config (to_apply 9 h) told x 9 until (inr (inr (inl refl))) (refl, refl)) in
    omega (arith, same)

-- A transaction commits above the time of each finished read inside it.
use Rattle.std.proofs.Common.{◌≡◌, ℕ, ◌<◌, false, List, [], ◌∷◌, Option, Some, None, refl, sym, ◌∙◌, ap, subst, inl, inr, arith}
use Rattle.txn_data.specs.declared.actor.Actor.{Actor}
use Rattle.txn_data.specs.declared.actor.Actor.TheVariants.{Session}
use Rattle.txn_data.specs.declared.append.Append.{Append}
use Rattle.txn_data.specs.declared.command.Command.{Command}
use Rattle.txn_data.specs.declared.command.Command.TheVariants as command
use Rattle.txn_data.specs.declared.config.Config.{Config}
use Rattle.txn_data.specs.declared.read_kind.ReadKind.TheVariants.{Get, Scan}
use Rattle.txn_data.specs.declared.reply.Reply.{Reply}
use Rattle.txn_data.specs.declared.request.Request.TheVariants as request
use Rattle.txn_data.specs.declared.row.Row.{Row}
use Rattle.txn_data.specs.declared.told.Told.TheVariants as told
use Rattle.txn_data.specs.declared.event.Event.{Event}
use Rattle.txn_data.specs.declared.event.Event.TheVariants.{Serve, Tell}
use Rattle.txn_data.specs.declared.entry.Entry.{Entry}
use Rattle.txn_types.specs.Lists.{Member}
use Rattle.txn_types.specs.History.{History}
use Rattle.txn_types.specs.Session.{Keeps, Opened, read_command, command_program}
use Rattle.txn_types.specs.Reads.{Read, reads, start_of, open_txn, opened_at, inside}
use Rattle.txn_types.specs.Run.{Run, Steps, mover_at}
use Rattle.law_machines.specs.Own.{StandsOver}
use Rattle.law_machines.proofs.Basics.{same_cases}
use Rattle.law_machines.proofs.Owns.{steps_at, member_stands, stands_member}
use Rattle.law_messages.proofs.Rules.{entry}
use Rattle.law_owners.specs.Owner.{owner_of, IsHomedAt}
use Rattle.law_owners.proofs.Runs.{requests_homed}
use Rattle.law_open_txns.proofs.Open.{OpenedOk, NoEnd}
use Rattle.law_open_txns.specs.Transaction.{IsEndOf, Begun}
use Rattle.law_session_order.proofs.Runs.{commit_of, idle_ok}
use Rattle.law_read_times.specs.Laws.{IsReadLine}
use Rattle.law_courses.specs.Course.{IsPart, Came}
use Rattle.law_courses.specs.Laws.{CameAbout}
use Rattle.law_courses.proofs.Parts.{part_stands, stands_part}
use Rattle.law_courses.proofs.Courses.{told_came_about}
use Rattle.law_apart.proofs.Keeps.{OpenedRead}
use Rattle.law_apart.proofs.Rising.{sessions_read}
use Rattle.law_steady_reads.proofs.FinalTimes.{read_told as read_entry, read_facts, part_start, part_steps, start_of_keeps}
use Rattle.law_steady_reads.proofs.Steady.{told_taken}
use Rattle.law_visits.proofs.Visited.{not_in_doubt}
use Rattle.law_visit_rows.proofs.Shown.{Earlier, Later, Same, places}
use Rattle.law_right_reads.specs.Laws.{CommitsAreAboveReads}
use Rattle.law_right_reads.proofs.Floors.{commit_floor}
use Rattle.law_right_reads.proofs.Starts.{under_way}
use Rattle.law_right_reads.proofs.Starts.{start_of as began_at}

-- ## a read that was told values is not in doubt

line_clear : (config : Config) (h low : History) (i : ℕ) (s : Keeps) (own : Option ℕ) (line : Command) (x : Opened) (at restarts : ℕ) (rows : List Row) → IsReadLine (Some line) → s.opened ≡ Some x →
    Came (Session i) h own low None (command_program config i s line) (told.Values at restarts rows) → x.in_doubt ≡ false
line_clear config h low i s own (command.Read strict places) x at restarts rows of opened came =
    not_in_doubt config h low i s own Get strict places x x.in_doubt at restarts rows refl
    (subst (λ (o : Option Opened). Came (Session i) h own low None (read_command config i s Get strict places o) (told.Values at restarts rows)) opened came)
line_clear config h low i s own (command.Scan strict place) x at restarts rows of opened came =
    not_in_doubt config h low i s own Scan strict (place ∷ []) x x.in_doubt at restarts rows refl
    (subst (λ (o : Option Opened). Came (Session i) h own low None (read_command config i s Scan strict (place ∷ []) o) (told.Values at restarts rows)) opened came)
line_clear config h low i s own line x at restarts rows of opened came = absurd of

pub about_clear : (config : Config) (h low : History) (i : ℕ) (s : Keeps) (own : Option ℕ) (line : Option Command) (x : Opened) (at restarts : ℕ) (rows : List Row) → IsReadLine line → s.opened ≡ Some x →
    CameAbout config (Session i) h low s own line (told.Values at restarts rows) → x.in_doubt ≡ false
about_clear config h low i s own (Some line) x at restarts rows of opened came = elim came.1 [
  | inl is ↦ line_clear config h low i s own line x at restarts rows of opened is
  | inr memory ↦ cc
]
about_clear config h low i s own None x at restarts rows of opened came = absurd of

-- what a session knows of the transaction that a finished read is inside of, where the read starts
read_opened : (config : Config) (h : History) (read : Read) (x : Opened) → Run config h → Member read (reads h) → opened_at config read ≡ Some x → OpenedOk config (start_of read) (Session read.session) (mover_at config (Session read.session) (start_of read)).keeps.last (mover_at config (Session read.session) (start_of read)).keeps.serial (Some x) × (x.in_doubt ≡ false)
read_opened config h read x run m is =
    let i = read.session in
    let f = read_facts config h read run m in
    let t = read_entry h read m in
    let before = read.before in
    let low = start_of read in
    let e = entry (Session i) t.reading (Tell t.number (told.Values read.at read.restarts read.rows)) in
    let s = mover_at config (Session i) before in
    let x_now : s.keeps.opened ≡ Some x = sym (ap (λ (n : Keeps). n.opened) (start_of_keeps config read f)) ∙ is in
    let came = told_came_about config h before e run t.stands in
    let clear = about_clear config (e ∷ before) low i s.keeps s.reading s.line x read.at read.restarts read.rows (subst IsReadLine (sym f.line_is) f.reads) x_now came in
    let start = began_at config (Session i) before f.line f.run.1 f.line_is in
    let run_low : Run config low = (f.run.0, part_steps config low before (part_start (Session i) before) f.run.1) in
    (subst (λ (o : Option Opened). OpenedOk config low (Session i) (mover_at config (Session i) low).keeps.last (mover_at config (Session i) low).keeps.serial o) is (idle_ok config low i run_low start.idle).opened, clear)

-- no end of it was to be logged before the read
pub no_end_before : (config : Config) (h : History) (read : Read) (x : Opened) → Run config h → Member read (reads h) → opened_at config read ≡ Some x → NoEnd x.meta.txn (start_of read)
no_end_before config h read x run m is = let r = read_opened config h read x run m is in r.0.free r.1

-- and it was begun before
pub begun_before : (config : Config) (h : History) (read : Read) (x : Opened) → Run config h → Member read (reads h) → opened_at config read ≡ Some x → Begun (start_of read) x.meta.txn
begun_before config h read x run m is = let r = read_opened config h read x run m is in r.0.begun

-- ## the commit comes after the read

-- a served commit is no entry of a session
commit_other : (config : Config) (m a : Actor) (reading : Option ℕ) (from : Actor) (y floor : ℕ) (tablets : List ℕ) (r : Reply) (time : Option ℕ) (append : Append) (h : History) → IsHomedAt config a (Serve from (request.Commit y floor tablets) r time append) →
    (i : ℕ) → (mover_at config (Session i) (entry a reading (Serve from (request.Commit y floor tablets) r time append) ∷ h)).line ≡ (mover_at config (Session i) h).line
unfolding mover_at
commit_other config m a reading from y floor tablets r time append h homed i = elim (same_cases a (Session i)) [
  | inl s ↦ rw s.0 refl
  | inr s ↦ rw s.0 refl
]

read_not_commit : (line : Command) → IsReadLine (Some line) → line ≡ command.Commit → ⊥
read_not_commit (command.Read strict places) of is = cc
read_not_commit (command.Scan strict place) of is = cc
read_not_commit line of is = of

pub same_line : (line : Command) (o : Option Command) → o ≡ Some line → o ≡ Some command.Commit → line ≡ command.Commit
same_line line o one two = cc

pub opened_at_start : (config : Config) (read : Read) (y : ℕ) (o : Option Opened) → open_txn o ≡ Some y → (x : Opened) × (o ≡ Some x) × (x.meta.txn ≡ y)
opened_at_start config read y (Some x) is = (x, refl, cc)
opened_at_start config read y None is = cc

commit_after : (config : Config) (h : History) (read : Read) (y c : ℕ) (a : Actor) (reading : Option ℕ) (from : Actor) (floor : ℕ) (tablets : List ℕ) (r : Reply) (time : Option ℕ) (append : Append) (zk : History) → Run config h → Member read (reads h) → inside config read ≡ Some y →
    StandsOver (entry a reading (Serve from (request.Commit y floor tablets) r time append)) zk h → IsEndOf y (Serve from (request.Commit y floor tablets) r time append) → floor < c → read.at < c
unfolding Steps
commit_after config h read y c a reading from floor tablets r time append zk run m is_in stands end above =
    let i = read.session in
    let f = read_facts config h read run m in
    let t = read_entry h read m in
    let before = read.before in
    let low = start_of read in
    let e = entry (Session i) t.reading (Tell t.number (told.Values read.at read.restarts read.rows)) in
    let k = entry a reading (Serve from (request.Commit y floor tablets) r time append) in
    let s = mover_at config (Session i) before in
    let keeps = start_of_keeps config read f in
    let x = opened_at_start config read y (mover_at config (Session i) low).keeps.opened is_in in
    let x_now : s.keeps.opened ≡ Some x.0 = sym (ap (λ (n : Keeps). n.opened) keeps) ∙ x.1 in
    let opened : OpenedRead config before i s.keeps.serial (Some x.0) = subst (λ (o : Option Opened). OpenedRead config before i s.keeps.serial o) x_now (sessions_read config before f.run i).opened in
    let owner : owner_of y ≡ i = ap owner_of (sym x.2) ∙ opened.owner in
    let homed = requests_homed config h k run (stands_member k zk h stands) in
    let mine : from ≡ Session i = homed.0.0 ∙ ap Session owner in
    let k_mine = entry a reading (Serve (Session i) (request.Commit y floor tablets) r time append) in
    let stands_mine : StandsOver k_mine zk h = subst (λ (b : Actor). StandsOver (entry a reading (Serve b (request.Commit y floor tablets) r time append)) zk h) mine stands in
    let floors = commit_floor config h zk a reading i y floor tablets r time append run.1 stands_mine in
    elim (places e k before zk h t.stands stands) [
      | Earlier there ↦
          let run_k : Steps config zk = (steps_at config k zk h run.1 stands).0 in
          let taken = told_taken config (Session i) t.reading t.number (told.Values read.at read.restarts read.rows) before zk run_k there in
          let floor_is = floors.0 in
          omega (arith, taken, floor_is, above)
      | Later there ↦
          let part : IsPart (k ∷ zk) before = stands_part k zk before there in
          elim (under_way config (Session i) before (k ∷ zk) f.line f.line_is part) [
            | inl old ↦ absurd (no_end_before config h read x.0 run m x.1 k (stands_member k zk low (part_stands k zk low old)) (subst (λ (n : ℕ). IsEndOf n (Serve from (request.Commit y floor tablets) r time append)) (sym x.2) end))
            | inr now ↦ absurd (read_not_commit f.line f.reads (same_line f.line (mover_at config (Session i) zk).line (sym (commit_other config (Session i) a reading from y floor tablets r time append zk homed i) ∙ now) floors.1))
          ]
      | Same is ↦ let no = ap (λ (g : Entry). g.event) is in cc
    ]

pub commits_above_reads : CommitsAreAboveReads
commits_above_reads config h read y c run m is_in committed =
    let k = commit_of config h y c run committed in
    let place = member_stands k.entry h k.member in
    let form = k.form in
    let stands : StandsOver (entry k.entry.actor k.entry.reading (Serve form.from (request.Commit y form.floor form.tablets) form.reply (Some c) form.append)) place.0 h =
    subst (λ (ev : Event). StandsOver (entry k.entry.actor k.entry.reading ev) place.0 h) form.is place.1 in
    commit_after config h read y c k.entry.actor k.entry.reading form.from form.floor form.tablets form.reply (Some c) form.append place.0 run m is_in stands (subst (λ (ev : Event). IsEndOf y ev) form.is k.end) k.above

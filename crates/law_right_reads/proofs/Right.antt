-- Each finished read is right.
use Rattle.std.proofs.Common.{◌≡◌, ℕ, List, [], ◌∷◌, ◌++◌, Option, Some, None, All, refl, sym, ◌∙◌, ap, subst, inl, inr}
use Rattle.std.proofs.lemmas.List.Elements.{All-head, All-tail}
use Rattle.txn_data.specs.declared.actor.Actor.TheVariants.{Session}
use Rattle.txn_data.specs.declared.command.Command.{Command}
use Rattle.txn_data.specs.declared.command.Command.TheVariants as command
use Rattle.txn_data.specs.declared.config.Config.{Config}
use Rattle.txn_data.specs.declared.place.Place.{Place}
use Rattle.txn_data.specs.declared.written.Written.{Written}
use Rattle.txn_data.specs.declared.event.Event.TheVariants.{Start, Tell}
use Rattle.txn_data.specs.declared.told.Told.TheVariants as told
use Rattle.txn_data.specs.declared.entry.Entry.{Entry}
use Rattle.txn_types.specs.Lists.{Member}
use Rattle.txn_types.specs.History.{History}
use Rattle.txn_types.specs.Committed.{fold}
use Rattle.txn_types.specs.Plan.{IsPath, IsPlace, started_places}
use Rattle.txn_types.specs.ReadProgram.{TabletRows}
use Rattle.txn_types.specs.Reads.{Read, start_of, places_asked, line_of, open_txn, opened_at, own_writes, rows_asked, final_time}
use Rattle.txn_types.specs.Session.{Opened}
use Rattle.txn_types.specs.Run.{Run, StartsLine, mover_at}
use Rattle.law_machines.proofs.Basics.{member_flat}
use Rattle.law_machines.proofs.Owns.{stands_member}
use Rattle.law_messages.proofs.Rules.{entry}
use Rattle.law_read_times.specs.Laws.{IsReadLine}
use Rattle.law_write_numbers.proofs.Runs.{keeps}
use Rattle.law_folds.specs.Laws.{IsShown, AreStarted}
use Rattle.law_folds.proofs.Folds.{reads_show}
use Rattle.law_courses.specs.Course.{IsPart}
use Rattle.law_courses.proofs.Parts.{part_member, part_tail, stands_part}
use Rattle.law_steady_reads.proofs.FinalTimes.{read_told as read_entry, Facts, read_facts, part_start, part_steps, reads_final}
use Rattle.law_visits.specs.Laws.{laid_over, wanted_at}
use Rattle.law_visits.proofs.Visited.{reads_visit}
use Rattle.law_visit_rows.proofs.Shown.{visits_show}
use Rattle.law_right_reads.specs.Laws.{ReadsAreRight}
use Rattle.law_right_reads.proofs.Starts.{start_of as began_at}
use Rattle.law_right_reads.proofs.Above.{commits_above_reads}

-- ## the places of the line were started

all_member : {A : Type 0} (P : A → Type 0) (xs : List A) (x : A) → All P xs → Member x xs → P x
all_member P [] x all m = absurd m
all_member P (y ∷ ys) x all m = elim m [ inl is ↦ subst P (sym is) (All-head P y ys all) | inr more ↦ all_member P ys x (All-tail P y ys all) more ]

line_path : (config : Config) (opened : Option Opened) (line : Command) (place : Place) → IsReadLine (Some line) → StartsLine config opened line → Member place (places_asked (Some line)) → IsPath place.path
line_path config opened (command.Read strict places) place of starts m = (all_member (IsPlace config) places place starts.2 m).1
line_path config opened (command.Scan strict place_asked) place of starts m = elim m [ inl is ↦ subst (λ (p : Place). IsPath p.path) (sym is) starts.1 | inr none ↦ absurd none ]
line_path config opened line place of starts m = absurd of

line_places : (line : Command) (number : ℕ) (place : Place) → IsReadLine (Some line) → Member place (places_asked (Some line)) → Member place (started_places (Start number line))
line_places (command.Read strict places) number place of m = m
line_places (command.Scan strict asked) number place of m = m
line_places line number place of m = absurd of

pub started_all : (config : Config) (h : History) (read : Read) → Facts config read → IsPart read.before h → AreStarted h (places_asked (line_of config read))
started_all config h read f part place m =
    let m_line : Member place (places_asked (Some f.line)) = subst (λ (l : Option Command). Member place (places_asked l)) f.line_is m in
    let s = began_at config (Session read.session) read.before f.line f.run.1 f.line_is in
    let e = entry (Session read.session) None (Start s.number f.line) in
    let e_in : Member e h = part_member e read.before h part (stands_member e (start_of read) read.before s.stands) in (
      member_flat (λ (g : Entry). started_places g.event) e place h e_in (line_places f.line s.number place f.reads m_line),
      line_path config (mover_at config (Session read.session) (start_of read)).keeps.opened f.line place f.reads s.may.2 m_line,
    )

-- ## the own writes

own_laid : (config : Config) (read : Read) (o : Option Opened) → Run config (start_of read) → (mover_at config (Session read.session) (start_of read)).line ≡ None → (mover_at config (Session read.session) (start_of read)).keeps.opened ≡ o → laid_over o ≡ own_writes read (open_txn o)
own_laid config read None run idle opened = refl
own_laid config read (Some x) run idle opened = keeps config (start_of read) read.session x run idle opened

-- ## the law

pub reads_right : ReadsAreRight
reads_right config h read run agree m =
    let f = read_facts config h read run m in
    let i = read.session in
    let t = read_entry h read m in
    let e = entry (Session i) t.reading (Tell t.number (told.Values read.at read.restarts read.rows)) in
    let part : IsPart read.before h = part_tail e read.before h (stands_part e read.before h t.stands) in
    let low = start_of read in
    let run_low : Run config low = (f.run.0, part_steps config low read.before (part_start (Session i) read.before) f.run.1) in
    let s = began_at config (Session i) read.before f.line f.run.1 f.line_is in
    let d = reads_visit config h read run m in
    let line = line_of config read in
    let shown : (g : TabletRows) → Member g d.found → IsShown h d.kind (places_asked line) read.at g = λ g of.
    let v = d.finally g of in
    let w = visits_show config h low (Session i) (wanted_at config read d.kind g.tablet) g.tablet read.at v.0 g.rows run (λ y c own committed. commits_above_reads config h read y c run m own committed) v.1 in
    (w.versions, w.rows_are, w.writes) in
    let rows = reads_show config h d.kind line d.found read.at (laid_over (opened_at config read)) run agree d.of (started_all config h read f part) d.tablets shown in
    let time = (reads_final config h read run m).time in
    let own = own_laid config read (opened_at config read) run_low s.idle refl in
    d.rows ∙ (rows ∙ (ap (λ (n : ℕ). rows_asked line (fold h n ++ laid_over (opened_at config read))) time ∙ ap (λ (ws : List Written). rows_asked line (fold h (final_time config read) ++ ws)) own))

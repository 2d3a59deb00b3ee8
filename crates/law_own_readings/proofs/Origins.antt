-- What a session recorded tells the origin of its reads.
use Rattle.std.proofs.Common.{◌≡◌, ℕ, ◌∷◌, Option, Some, None, sym, ◌∙◌, ap, subst}
use Rattle.txn_data.specs.declared.actor.Actor.TheVariants.{Session}
use Rattle.txn_data.specs.declared.told.Told.TheVariants as told
use Rattle.txn_data.specs.declared.event.Event.TheVariants.{Tell}
use Rattle.txn_types.specs.Session.{Keeps, Opened}
use Rattle.txn_types.specs.Reads.{Read, before_start, opened_at, open_txn, origin_under}
use Rattle.txn_types.specs.Run.{mover_at}
use Rattle.law_messages.proofs.Rules.{entry}
use Rattle.law_read_times.specs.Laws.{IsReadLine}
use Rattle.law_courses.proofs.Courses.{told_came_about}
use Rattle.law_steady_reads.proofs.FinalTimes.{read_told, read_facts, start_of_keeps}
use Rattle.law_own_readings.specs.Laws.{origin_by, OriginsShow}
use Rattle.law_own_readings.proofs.Begins.{BeginIsLast, begins_last}
use Rattle.law_own_readings.proofs.Taken.{IsTaken, about_taken}

by_taken : (read : Read) (opened : Option Opened) (own : Option ℕ) → IsTaken opened own → BeginIsLast read.session read.before opened → origin_under read (open_txn opened) ≡ origin_by read own
by_taken read None own taken last = ap (origin_by read) (sym taken.1)
by_taken read (Some x) own taken last = last ∙ ap (origin_by read) (sym taken)

pub origins_are_shown : OriginsShow
origins_are_shown config h read run m =
    let f = read_facts config h read run m in
    let t = read_told h read m in
    let i = read.session in
    let before = read.before in
    let s = mover_at config (Session i) before in
    let e = entry (Session i) t.reading (Tell t.number (told.Values read.at read.restarts read.rows)) in
    let came = told_came_about config h before e run t.stands in
    let taken = about_taken config i s.keeps (e ∷ before) (before_start (Session i) before) s.reading s.line read.at read.restarts read.rows (subst IsReadLine (sym f.line_is) f.reads) came in
    let opened : opened_at config read ≡ s.keeps.opened = ap (λ (k : Keeps). k.opened) (start_of_keeps config read f) in
    record {
      session = taken.session;
      origin = ap (λ (o : Option Opened). origin_under read (open_txn o)) opened
          ∙ (by_taken read s.keeps.opened s.reading taken.taken (begins_last config before i f.run) ∙ ap (origin_by read) (sym f.reading));
    }

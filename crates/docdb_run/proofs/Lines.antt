-- The lines that the movers of a course started, and in which order they move.
use Rattle.std.proofs.Common.{◌≡◌, false, List, [], ◌∷◌, ◌++◌, refl, sym, ap, ◌∙◌, reverse, append_assoc}
use Rattle.std.proofs.lemmas.List.{append-nil}
use Rattle.txn_data.specs.declared.actor.Actor.{Actor}
use Rattle.txn_data.specs.declared.command.Command.{Command}
use Rattle.txn_data.specs.declared.command.Command.TheVariants as command
use Rattle.txn_data.specs.declared.entry.Entry.{Entry}
use Rattle.txn_types.specs.History.{History, same_actor}
use Rattle.txn_types.specs.Script.{lines}
use Rattle.docdb_run.specs.Form.{IsFormLine, AreFormLines}
use Rattle.docdb_run.specs.Course as course
use Rattle.docdb_run.specs.Course.{Course, one, applier, course_after, entries_from}
use Rattle.docdb_run.proofs.Courses.{course_is, reverse_join}

-- a command starts its line
pub lines_of : (h : History) (k : Course) (c : Command) → IsFormLine k.clock c →
    lines one (reverse (course.entries_of k c) ++ h) ≡ lines one h ++ c ∷ []
unfolding lines
lines_of h k (command.SinglePut place v priority) f = simp append-nil
lines_of h k (command.Read strict (place ∷ [])) f = simp append-nil
lines_of h k (command.Read strict (place ∷ other ∷ more)) f = absurd f
lines_of h k (command.Read strict []) f = absurd f
lines_of h k (command.Clock node micros) f = simp append-nil
lines_of h k (command.Begin priority) f = absurd f
lines_of h k (command.Put place v) f = absurd f
lines_of h k (command.Del place) f = absurd f
lines_of h k command.Commit f = absurd f
lines_of h k command.Abort f = absurd f
lines_of h k (command.Scan strict place) f = absurd f
lines_of h k (command.SingleDel place priority) f = absurd f
lines_of h k (command.Restart actor) f = absurd f
lines_of h k (command.Apply tablet) f = absurd f
lines_of h k command.End f = absurd f

pub lines_all : (cs : List Command) (h : History) (k : Course) → AreFormLines k.clock cs →
    lines one (reverse (entries_from k cs) ++ h) ≡ lines one h ++ cs
unfolding entries_from AreFormLines
lines_all [] h k f = sym (append-nil (lines one h))
lines_all (c ∷ cs) h k f =
    let is = course_is k c f.0 in
    let rest : AreFormLines (course_after k c).clock cs = rw is.0 f.1 in
    rw (reverse_join (course.entries_of k c) (entries_from (course_after k c) cs) h)
    (lines_all cs (reverse (course.entries_of k c) ++ h) (course_after k c) rest
    ∙ ap (λ (ls : List Command). ls ++ cs) (lines_of h k c f.0) ∙ append_assoc (lines one h) (c ∷ []) cs)

-- another actor starts none of them
abbrev pub OthersSilent : Actor → List Entry → Type 0
OthersSilent a [] = Unit {0}
OthersSilent a (e ∷ es) = (same_actor e.actor a ≡ false) × OthersSilent a es

pub silent_lines : (a : Actor) (es : List Entry) (h : History) → OthersSilent a es → lines a (es ++ h) ≡ lines a h
unfolding lines
silent_lines a [] h s = refl
silent_lines a (e ∷ es) h s = rw s.0 (silent_lines a es h s.1)

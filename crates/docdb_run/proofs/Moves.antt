-- The moves of a course are those of the serial schedule.
use Rattle.std.proofs.Common.{◌≡◌, ℕ, ◌<◌, ◌≤◌, ◌+◌, Bool, true, false, ◌&&◌, List, [], ◌∷◌, ◌++◌, refl, sym, ap, ◌∙◌, arith, length, reverse, map, subst, nat_eq, if◌then◌else◌, replicate}
use Rattle.std.proofs.lemmas.Bool.{eq-eqb, ne_eqb}
use Rattle.std.proofs.lemmas.List.{append-nil, length-append, map-append, length-reverse}
use Rattle.txn_data.specs.declared.actor.Actor.{Actor}
use Rattle.txn_data.specs.declared.command.Command.{Command}
use Rattle.txn_data.specs.declared.command.Command.TheVariants as command
use Rattle.txn_data.specs.declared.entry.Entry.{Entry}
use Rattle.txn_types.specs.History.{History, same_actor}
use Rattle.txn_types.specs.Script.{lines, line_by, asker, started, entries_of, count, in_line_order}
use Rattle.docdb_run.specs.Form.{IsFormLine, AreFormLines}
use Rattle.docdb_run.specs.Course as course
use Rattle.docdb_run.specs.Course.{Course, one, applier, course_after, entries_from}
use Rattle.docdb_run.proofs.Courses.{course_is, reverse_join}
use Rattle.docdb_run.proofs.Lines.{lines_of}

-- entries that one mover makes within its s-th command
abbrev pub Block : Actor → ℕ → List Entry → History → Type 0
Block a s [] h = Unit {0}
Block a s (e ∷ es) h = (same_actor (asker e) a ≡ true) × (started a (e ∷ es ++ h) ≡ s) × Block a s es h

one_more : (a b : Bool) (n : ℕ) → a ≡ true → n + (if a && b then 1 else 0) ≡ n + (if b then 1 else 0)
one_more true b n is = refl
one_more false b n is = cc

pub block_here : (a : Actor) (s : ℕ) (es : List Entry) (h : History) → Block a s es h →
    entries_of a s (es ++ h) ≡ entries_of a s h + length es
unfolding entries_of
block_here a s [] h b = omega arith
block_here a s (e ∷ es) h b =
    let before : entries_of a s (es ++ h) ≡ entries_of a s h + length es = block_here a s es h b.2 in
    one_more (same_actor (asker e) a) (nat_eq (started a (e ∷ es ++ h)) s) (entries_of a s (es ++ h)) b.0
    ∙ (rw (eq-eqb (started a (e ∷ es ++ h)) s b.1) (omega arith))

pub block_elsewhere : (a : Actor) (s n : ℕ) (es : List Entry) (h : History) → Block a s es h → (s ≡ n → ⊥) →
    entries_of a n (es ++ h) ≡ entries_of a n h
unfolding entries_of
block_elsewhere a s n [] h b ne = refl
block_elsewhere a s n (e ∷ es) h b ne =
    let before : entries_of a n (es ++ h) ≡ entries_of a n h = block_elsewhere a s n es h b.2 ne in
    one_more (same_actor (asker e) a) (nat_eq (started a (e ∷ es ++ h)) n) (entries_of a n (es ++ h)) b.0
    ∙ (rw (ne_eqb (started a (e ∷ es ++ h)) n (λ (q : started a (e ∷ es ++ h) ≡ n). ne (sym b.1 ∙ q))) (omega arith))

-- a command is a block of the next number
pub one_line : (ls : List Command) (c : Command) → length (ls ++ c ∷ []) ≡ length ls + 1
one_line ls c = length-append ls (c ∷ [])

pub block_of : (h : History) (k : Course) (c : Command) → IsFormLine k.clock c →
    Block one (started one h + 1) (reverse (course.entries_of k c)) h
unfolding lines
block_of h k (command.SinglePut place v priority) f =
    let n : length (lines one h ++ command.SinglePut place v priority ∷ []) ≡ length (lines one h) + 1 = one_line (lines one h) (command.SinglePut place v priority) in (
      refl,
      simp append-nil n,
      (
        refl,
        simp append-nil n,
        (
          refl,
          simp append-nil n,
          (
            refl,
            simp append-nil n,
            (refl, simp append-nil n, (refl, simp append-nil n, (refl, simp append-nil n, (refl, n, tt)))),
          ),
        ),
      ),
    )
block_of h k (command.Read strict (place ∷ [])) f =
    let n : length (lines one h ++ command.Read strict (place ∷ []) ∷ []) ≡ length (lines one h) + 1 = one_line (lines one h) (command.Read strict (place ∷ [])) in (
      refl,
      simp append-nil n,
      (
        refl,
        simp append-nil n,
        (
          refl,
          simp append-nil n,
          (
            refl,
            simp append-nil n,
            (refl, simp append-nil n, (refl, simp append-nil n, (refl, simp append-nil n, (refl, n, tt)))),
          ),
        ),
      ),
    )
block_of h k (command.Read strict (place ∷ other ∷ more)) f = absurd f
block_of h k (command.Read strict []) f = absurd f
block_of h k (command.Clock node micros) f =
    let n : length (lines one h ++ command.Clock node micros ∷ []) ≡ length (lines one h) + 1 = one_line (lines one h) (command.Clock node micros) in
    (refl, simp append-nil n, (refl, n, tt))
block_of h k (command.Begin priority) f = absurd f
block_of h k (command.Put place v) f = absurd f
block_of h k (command.Del place) f = absurd f
block_of h k command.Commit f = absurd f
block_of h k command.Abort f = absurd f
block_of h k (command.Scan strict place) f = absurd f
block_of h k (command.SingleDel place priority) f = absurd f
block_of h k (command.Restart actor) f = absurd f
block_of h k (command.Apply tablet) f = absurd f
block_of h k command.End f = absurd f

-- later commands have later numbers
pub started_after : (h : History) (k : Course) (c : Command) → IsFormLine k.clock c →
    started one (reverse (course.entries_of k c) ++ h) ≡ started one h + 1
started_after h k c f = ap length (lines_of h k c f) ∙ one_line (lines one h) c

pub stable : (cs : List Command) (h : History) (k : Course) (n : ℕ) → AreFormLines k.clock cs → n ≤ started one h →
    entries_of one n (reverse (entries_from k cs) ++ h) ≡ entries_of one n h
unfolding entries_from AreFormLines
stable [] h k n f le = refl
stable (c ∷ cs) h k n f le =
    let is = course_is k c f.0 in
    let rest : AreFormLines (course_after k c).clock cs = rw is.0 f.1 in
    let next : History = reverse (course.entries_of k c) ++ h in
    let more : started one next ≡ started one h + 1 = started_after h k c f.0 in
    let later : entries_of one n (reverse (entries_from (course_after k c) cs) ++ next) ≡ entries_of one n next =
    stable cs next (course_after k c) n rest (omega arith) in
    let here : entries_of one n next ≡ entries_of one n h =
    block_elsewhere one (started one h + 1) n (reverse (course.entries_of k c)) h (block_of h k c f.0) (λ (q : started one h + 1 ≡ n). omega arith) in
    rw (reverse_join (course.entries_of k c) (entries_from (course_after k c) cs) h) (later ∙ here)

-- nothing is of a number that has not begun
append_le : (a : Actor) (e : Entry) (h : History) → started a h ≤ started a (e ∷ h)
unfolding lines
append_le a e h = chosen_le (same_actor e.actor a)
  where
    chosen_le : (b : Bool) → length (lines a h) ≤ length (if b then lines a h ++ line_by e.event else lines a h)
    chosen_le true = omega (arith, length-append (lines a h) (line_by e.event))
    chosen_le false = omega arith

and_false : (a b : Bool) → b ≡ false → (a && b) ≡ false
and_false true b is = is
and_false false b is = refl

pub none_above : (a : Actor) (h : History) (n : ℕ) → started a h < n → entries_of a n h ≡ 0
unfolding entries_of
none_above a [] n lt = refl
none_above a (e ∷ h) n lt =
    let le : started a h ≤ started a (e ∷ h) = append_le a e h in
    let before : entries_of a n h ≡ 0 = none_above a h n (omega arith) in
    let not : nat_eq (started a (e ∷ h)) n ≡ false = ne_eqb (started a (e ∷ h)) n (λ (q : started a (e ∷ h) ≡ n). omega arith) in
    rw (before, and_false (same_actor (asker e) a) (nat_eq (started a (e ∷ h)) n) not) refl

-- the entries of a command are all its mover's
pub askers_of : (k : Course) (c : Command) → IsFormLine k.clock c →
    map asker (course.entries_of k c) ≡ replicate (length (course.entries_of k c)) one
askers_of k (command.SinglePut place v priority) f = refl
askers_of k (command.Read strict (place ∷ [])) f = refl
askers_of k (command.Read strict (place ∷ other ∷ more)) f = absurd f
askers_of k (command.Read strict []) f = absurd f
askers_of k (command.Clock node micros) f = refl
askers_of k (command.Begin priority) f = absurd f
askers_of k (command.Put place v) f = absurd f
askers_of k (command.Del place) f = absurd f
askers_of k command.Commit f = absurd f
askers_of k command.Abort f = absurd f
askers_of k (command.Scan strict place) f = absurd f
askers_of k (command.SingleDel place priority) f = absurd f
askers_of k (command.Restart actor) f = absurd f
askers_of k (command.Apply tablet) f = absurd f
askers_of k command.End f = absurd f

length_reverse : (es : List Entry) → length (reverse es) ≡ length es
length_reverse es = length-reverse es

-- in line order, where `pass` are entries of others that follow
pub in_order : (cs : List Command) (pass : List Entry) (h : History) (k : Course) (before : List ℕ) → AreFormLines k.clock cs →
    count 1 before ≡ started one h →
    ((n : ℕ) (g : History) → entries_of one n (pass ++ g) ≡ entries_of one n g) →
    in_line_order (pass ++ (reverse (entries_from k cs) ++ h)) before (replicate (length cs) 1) ≡ map asker (entries_from k cs)
unfolding entries_from AreFormLines in_line_order count
in_order [] pass h k before f is others = refl
in_order (c ∷ cs) pass h k before f is others =
    let facts = course_is k c f.0 in
    let rest : AreFormLines (course_after k c).clock cs = rw facts.0 f.1 in
    let next : History = reverse (course.entries_of k c) ++ h in
    let more : started one next ≡ started one h + 1 = started_after h k c f.0 in
    let whole : History = pass ++ (reverse (entries_from (course_after k c) cs) ++ next) in
    let size : entries_of one (count 1 before + 1) whole ≡ length (course.entries_of k c) =
    others (count 1 before + 1) (reverse (entries_from (course_after k c) cs) ++ next)
    ∙ (stable cs next (course_after k c) (count 1 before + 1) rest (omega arith)
    ∙ (ap (λ (n : ℕ). entries_of one (n + 1) next) is
    ∙ (block_here one (started one h + 1) (reverse (course.entries_of k c)) h (block_of h k c f.0)
    ∙ (ap (λ (n : ℕ). n + length (reverse (course.entries_of k c))) (none_above one h (started one h + 1) (omega arith))
    ∙ omega (arith, length_reverse (course.entries_of k c)))))) in
    let tail : in_line_order whole (1 ∷ before) (replicate (length cs) 1) ≡ map asker (entries_from (course_after k c) cs) =
    in_order cs pass next (course_after k c) (1 ∷ before) rest (omega arith) others in
    let joined : reverse (course.entries_of k c ++ entries_from (course_after k c) cs) ++ h ≡ reverse (entries_from (course_after k c) cs) ++ next =
    reverse_join (course.entries_of k c) (entries_from (course_after k c) cs) h in
    subst (λ (g : History). in_line_order (pass ++ g) before (replicate (length (c ∷ cs)) 1)
    ≡ map asker (course.entries_of k c ++ entries_from (course_after k c) cs)) (sym joined)
    (ap (λ (n : ℕ). replicate n one ++ in_line_order whole (1 ∷ before) (replicate (length cs) 1)) size
    ∙ (ap (λ (actors : List Actor). replicate (length (course.entries_of k c)) one ++ actors) tail
    ∙ (ap (λ (actors : List Actor). actors ++ map asker (entries_from (course_after k c) cs)) (sym (askers_of k c f.0))
    ∙ sym (map-append asker (course.entries_of k c) (entries_from (course_after k c) cs)))))

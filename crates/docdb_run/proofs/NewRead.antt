-- A read that has just finished: its origin, its own reading, its final time, and what it has to answer.
use Rattle.std.proofs.Common.{◌≡◌, ℕ, ◌≤◌, max, Bool, true, false, List, [], ◌∷◌, Option, Some, None, refl, sym, ap, ◌∙◌, arith, length, subst, inl, inr}
use Rattle.std.proofs.lemmas.Bool.{le-ltb, lt-ltb}
use Rattle.hybrid_time.specs.Time.{time_at}
use Rattle.doc_path.specs.Path.{Parts}
use Rattle.txn_data.specs.declared.actor.Actor.{Actor}
use Rattle.txn_data.specs.declared.written.Written.{Written}
use Rattle.txn_data.specs.declared.committed_txn.CommittedTxn.{CommittedTxn}
use Rattle.txn_data.specs.declared.command.Command.{Command}
use Rattle.txn_data.specs.declared.entry.Entry.{Entry}
use Rattle.txn_types.specs.Lists.{Member, or_zero, or_else}
use Rattle.txn_types.specs.History.{History}
use Rattle.txn_types.specs.Committed.{fold_of}
use Rattle.txn_types.specs.Run.{Mover, mover_at}
use Rattle.txn_types.specs.Reads.{Read, reads, before_start, reading_after, reading_by, met_since, met_of, start_of, line_of, inside, open_txn, origin, origin_under, own_reading, own_time, final_time, last_met, time_unmet, rows_asked}
use Rattle.docdb_run.specs.Form.{cluster}
use Rattle.docdb_run.specs.Course.{Course, one, read_time, row_at, after_read, writes_of}
use Rattle.docdb_run.proofs.Inv.{between}
use Rattle.docdb_run.proofs.ReadSteps.{r1, r2, r3, r4, r5, r6, r7, q2, q4, q5, q7, q8, read_line}
use Rattle.docdb_run.proofs.Commits.{singles, CommitsUpto, commits_upto_more, fold_all}
use Rattle.docdb_run.proofs.ReadsOk.{ReadOk, Sound, own_told_in}

abbrev pub new_read : Course → Parts → Bool → History → Read
new_read k path strict h = record {
  session = 1;
  before = q7 k path strict false h;
  at = read_time k;
  restarts = 0;
  rows = row_at k path;
}

pub start_is : (k : Course) (path : Parts) (strict : Bool) (h : History) → start_of (new_read k path strict h) ≡ h
unfolding before_start
start_is k path strict h = refl

pub met_is : (k : Course) (path : Parts) (strict : Bool) (h : History) → met_of (new_read k path strict h) ≡ []
unfolding met_since
met_is k path strict h = refl

pub line_is : (k : Course) (path : Parts) (strict : Bool) (h : History) → line_of cluster (new_read k path strict h) ≡ Some (read_line path strict)
unfolding mover_at
line_is k path strict h = refl

pub inside_is : (k : Course) (path : Parts) (strict : Bool) (h : History) → mover_at cluster one h ≡ between k →
    inside cluster (new_read k path strict h) ≡ None
inside_is k path strict h is =
    ap (λ (g : History). open_txn (mover_at cluster one g).keeps.opened) (start_is k path strict h)
    ∙ ap (λ (m : Mover). open_txn m.keeps.opened) is

pub origin_is : (k : Course) (path : Parts) (strict : Bool) (h : History) → mover_at cluster one h ≡ between k →
    origin cluster (new_read k path strict h) ≡ h
origin_is k path strict h is =
    ap (origin_under (new_read k path strict h)) (inside_is k path strict h is) ∙ start_is k path strict h

-- no reading stands after the last entry of a history
pub none_after : (a : Actor) (h : History) (n : ℕ) → length h ≤ n → reading_after a n h ≡ None
unfolding reading_after
none_after a [] n le = refl
none_after a (e ∷ h) n le = rw (lt-ltb (length h) n (omega arith)) refl

-- one more entry after the first n
pub one_after : (a : Actor) (n : ℕ) (e : Entry) (h : History) → n ≤ length h →
    reading_after a n (e ∷ h) ≡ or_else (reading_after a n h) (reading_by a e)
unfolding reading_after
one_after a n e h le = rw (le-ltb (length h) n le) refl

pub reading_is : (k : Course) (path : Parts) (strict : Bool) (h : History) →
    reading_after one (length h) (q7 k path strict false h) ≡ Some k.clock
reading_is k path strict h =
    let n = length h in
    one_after one n (r7 k path) (r6 k path ∷ q5 k path strict false h) (omega arith)
    ∙ ap (λ (o : Option ℕ). or_else o None) (one_after one n (r6 k path) (q5 k path strict false h) (omega arith)
    ∙ ap (λ (o : Option ℕ). or_else o None) (one_after one n (r5 k path) (q4 k path strict false h) (omega arith)
    ∙ ap (λ (o : Option ℕ). or_else o None) (one_after one n (r4 k) (r3 k path false ∷ q2 k path strict h) (omega arith)
    ∙ ap (λ (o : Option ℕ). or_else o None) (one_after one n (r3 k path false) (q2 k path strict h) (omega arith)
    ∙ ap (λ (o : Option ℕ). or_else o None) (one_after one n (r2 k path) (r1 k path strict ∷ h) (omega arith)
    ∙ ap (λ (o : Option ℕ). or_else o (Some k.clock)) (one_after one n (r1 k path strict) h (omega arith)
    ∙ ap (λ (o : Option ℕ). or_else o None) (none_after one h n (omega arith))))))))

pub own_reading_is : (k : Course) (path : Parts) (strict : Bool) (h : History) → mover_at cluster one h ≡ between k →
    own_reading cluster (new_read k path strict h) ≡ k.clock
own_reading_is k path strict h is =
    ap (λ (g : History). or_zero (reading_after one (length g) (q7 k path strict false h))) (origin_is k path strict h is)
    ∙ ap or_zero (reading_is k path strict h)

times : (s c : ℕ) → max s c ≡ max (max s 0) c
times s c = omega arith

pub own_time_is : (k : Course) (path : Parts) (strict : Bool) (h : History) → mover_at cluster one h ≡ between k →
    own_time cluster (new_read k path strict h) ≡ read_time k
own_time_is k path strict h is =
    ap (λ (g : History). max (mover_at cluster one g).keeps.last (time_at (own_reading cluster (new_read k path strict h)) 0)) (origin_is k path strict h is)
    ∙ ap (λ (m : Mover). max m.keeps.last (time_at (own_reading cluster (new_read k path strict h)) 0)) is
    ∙ ap (λ (p : ℕ). max k.session (time_at p 0)) (own_reading_is k path strict h is)
    ∙ times k.session (time_at k.clock 0)

pub final_is : (k : Course) (path : Parts) (strict : Bool) (h : History) → mover_at cluster one h ≡ between k →
    final_time cluster (new_read k path strict h) ≡ read_time k
final_is k path strict h is =
    let read = new_read k path strict h in
    ap (λ (ms : List ℕ). last_met ms (time_unmet cluster read (inside cluster read))) (met_is k path strict h)
    ∙ ap (time_unmet cluster read) (inside_is k path strict h is)
    ∙ own_time_is k path strict h is

member_upto : (n : ℕ) (xs : List CommittedTxn) (x : CommittedTxn) → CommitsUpto n xs → Member x xs → x.at ≤ n
member_upto n [] x u m = absurd m
member_upto n (y ∷ ys) x u m = elim m [
  | inl same ↦ let e : x.at ≡ y.at = ap (λ (z : CommittedTxn). z.at) same in omega (arith, e, u.0)
  | inr more ↦ member_upto n ys x u.1 more
]

pub new_ok : (h : History) (k : Course) (path : Parts) (strict : Bool) → mover_at cluster one h ≡ between k → Sound h k →
    ReadOk (q8 k path strict false h) (after_read k) (new_read k path strict h)
unfolding singles
new_ok h k path strict is s =
    let read = new_read k path strict h in
    let le : k.session ≤ read_time k = omega arith in
    let up : CommitsUpto (read_time k) (singles h) = commits_upto_more k.session (read_time k) (singles h) le s.upto in
    let seen : fold_of (singles h) (read_time k) ≡ writes_of k.versions = fold_all (read_time k) (singles h) s.order up ∙ s.writes in
    record {
      session = refl;
      final = record { time = sym (final_is k path strict h is); met = ap length (sym (met_is k path strict h)) };
      alone = inside_is k path strict h is;
      tablet = omega arith;
      last = omega arith;
      rows = ap (λ (ws : List Written). rows_asked (Some (read_line path strict)) ws) (sym seen)
          ∙ ap (λ (line : Option Command). rows_asked line (fold_of (singles h) (read_time k))) (sym (line_is k path strict h));
      told = λ x t. s.told x (subst (λ (g : History). own_told_in x g ≡ true) (origin_is k path strict h is) t);
      commits = λ x m t. member_upto (read_time k) (singles h) x up m;
      earlier = λ other m.
          let ok : ReadOk h k other = s.reads_ok other (subst (λ (g : History). Member other (reads g)) (origin_is k path strict h is) m) in
          omega (arith, ok.final.time, ok.last);
    }

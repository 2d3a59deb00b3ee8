-- Each finished read of a course is right and steady.
use Rattle.std.proofs.Common.{◌≡◌, ℕ, ◌<◌, ◌≤◌, Bool, true, ◌&&◌, List, ◌∷◌, ◌++◌, Option, None, sym, ap, ◌∙◌, arith, reverse, ◌⊎◌, inl, inr}
use Rattle.std.proofs.lemmas.List.{append-nil}
use Rattle.std.specs.List.{list_any}
use Rattle.txn_data.specs.declared.written.Written.{Written}
use Rattle.txn_data.specs.declared.committed_txn.CommittedTxn.{CommittedTxn}
use Rattle.txn_data.specs.declared.entry.Entry.{Entry}
use Rattle.txn_types.specs.Lists.{Member}
use Rattle.txn_types.specs.History.{History, same_actor}
use Rattle.txn_types.specs.Committed.{fold, fold_of}
use Rattle.txn_types.specs.Session.{txn_id}
use Rattle.txn_types.specs.Reads.{Read, reads, own_writes, line_of, inside, origin, own_told, is_commit_of, final_time, rows_asked, IsFinal, Right, Steady}
use Rattle.docdb_run.specs.Form.{cluster}
use Rattle.docdb_run.specs.Course.{Course, one, writes_of}
use Rattle.docdb_run.proofs.Commits.{AllSimple, singles, committed_is, Descending, CommitsUpto, writes_in, fold_later}

-- the id of a transaction that the session has not begun yet is above this
abbrev pub last_id : Course → ℕ
last_id k = txn_id 1 k.serial

-- the ids told committed in a history, and those committed, are not above n
abbrev pub own_told_in : ℕ → History → Bool
own_told_in x h = list_any (λ (e : Entry). same_actor e.actor one && is_commit_of x e.event) h

abbrev pub ToldUpto : ℕ → History → Type 0
ToldUpto n h = (x : ℕ) → own_told_in x h ≡ true → x ≤ n

abbrev pub IdsUpto : ℕ → List CommittedTxn → Type 0
IdsUpto n xs = (x : CommittedTxn) → Member x xs → x.txn ≤ n

-- what stays true of a finished read, whatever single writes follow
pub record ReadOk (h : History) (k : Course) (read : Read) : Type 0 where
  pub session : read.session ≡ 1
  pub final : IsFinal cluster read
  pub alone : inside cluster read ≡ None
  pub tablet : read.at ≤ k.tablet
  pub last : read.at ≤ k.session
  pub rows : read.rows ≡ rows_asked (line_of cluster read) (fold_of (singles h) read.at)
  pub told : (x : ℕ) → own_told cluster read x ≡ true → x ≤ last_id k
  pub commits : (x : CommittedTxn) → Member x (singles h) → own_told cluster read x.txn ≡ true → x.at ≤ read.at
  pub earlier : (other : Read) → Member other (reads (origin cluster read)) → final_time cluster other ≤ read.at

-- between two commands
pub record Sound (h : History) (k : Course) : Type 0 where
  pub simple : AllSimple h
  pub order : Descending (singles h)
  pub upto : CommitsUpto k.session (singles h)
  pub writes : writes_in (reverse (singles h)) ≡ writes_of k.versions
  pub told : ToldUpto (last_id k) h
  pub reads_ok : (read : Read) → Member read (reads h) → ReadOk h k read

-- a read that was taken before goes on being so
pub ok_more : (h : History) (k : Course) (c x : ℕ) (ws : List Written) (h' : History) (k' : Course) (read : Read) →
    ReadOk h k read → k.tablet < c → k'.tablet ≡ c → k.session ≤ k'.session → last_id k < x → last_id k' ≡ x →
    singles h' ≡ (record { txn = x; at = c; writes = ws }) ∷ singles h → ReadOk h' k' read
ok_more h k c x ws h' k' read ok later tablet_is session_le newer id_is are =
    let commit : CommittedTxn = record { txn = x; at = c; writes = ws } in record {
      session = ok.session;
      final = ok.final;
      alone = ok.alone;
      tablet = omega (arith, ok.tablet);
      last = omega (arith, ok.last);
      rows = ok.rows ∙ ap (rows_asked (line_of cluster read)) (sym (ap (λ (xs : List CommittedTxn). fold_of xs read.at) are
          ∙ fold_later read.at commit (singles h) (omega (arith, ok.tablet))));
      told = λ y t. let le = ok.told y t in omega (arith, le);
      commits = λ y m t.
          let both : (y ≡ commit) ⊎ Member y (singles h) = rw are at m in
          elim both [
            | inl same ↦
                let id : y.txn ≡ x = ap (λ (z : CommittedTxn). z.txn) same in
                let le : y.txn ≤ last_id k = ok.told y.txn t in
                absurd (omega arith)
            | inr old ↦ ok.commits y old t
          ];
      earlier = ok.earlier;
    }

pub ok_same : (h : History) (k : Course) (h' : History) (k' : Course) (read : Read) → ReadOk h k read →
    k.tablet ≤ k'.tablet → k.session ≤ k'.session → last_id k ≤ last_id k' → singles h' ≡ singles h → ReadOk h' k' read
ok_same h k h' k' read ok tablet_le session_le id_le are = record {
  session = ok.session;
  final = ok.final;
  alone = ok.alone;
  tablet = omega (arith, ok.tablet);
  last = omega (arith, ok.last);
  rows = ok.rows ∙ ap (rows_asked (line_of cluster read)) (sym (ap (λ (xs : List CommittedTxn). fold_of xs read.at) are));
  told = λ y t. let le = ok.told y t in omega (arith, le);
  commits = λ y m t. ok.commits y (rw are at m) t;
  earlier = ok.earlier;
}

-- so each of them is right and steady
pub right_if : (h : History) (k : Course) (read : Read) → AllSimple h → ReadOk h k read → Right cluster h read
right_if h k read simple ok =
    let seen : List Written = fold h (final_time cluster read) in
    let at_time : fold_of (singles h) read.at ≡ fold_of (singles h) (final_time cluster read) =
    ap (λ (t : ℕ). fold_of (singles h) t) ok.final.time in
    let is_fold : fold_of (singles h) (final_time cluster read) ≡ seen =
    ap (λ (xs : List CommittedTxn). fold_of xs (final_time cluster read)) (sym (committed_is h simple)) in
    let with_own : seen ++ own_writes read None ≡ seen ++ own_writes read (inside cluster read) =
    ap (λ (x : Option ℕ). seen ++ own_writes read x) (sym ok.alone) in
    ok.rows ∙ ap (rows_asked (line_of cluster read)) (at_time ∙ is_fold ∙ sym (append-nil seen) ∙ with_own)

pub steady_if : (h : History) (k : Course) (read : Read) → AllSimple h → ReadOk h k read → Steady cluster h read
steady_if h k read simple ok = record {
  commits = λ x m t. let le : x.at ≤ read.at = ok.commits x (rw (committed_is h simple) at m) t in omega (arith, le, ok.final.time);
  reads_before = λ other m same. let le : final_time cluster other ≤ read.at = ok.earlier other m in omega (arith, le, ok.final.time);
}

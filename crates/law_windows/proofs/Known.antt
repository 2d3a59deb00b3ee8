-- What was known before a read lies in its window.
use Rattle.std.proofs.Common.{◌≡◌, ℕ, ◌+◌, ◌≤◌, max, true, ◌&&◌, [], ◌∷◌, Option, Some, None, refl, sym, subst, inl, inr, arith}
use Rattle.std.proofs.lemmas.Bool.{and_parts}
use Rattle.hybrid_time.specs.Time.{micros_of, limit_time}
use Rattle.doc_path.specs.Path.{Parts}
use Rattle.txn_data.specs.declared.actor.Actor.TheVariants.{Session}
use Rattle.txn_data.specs.declared.committed_txn.CommittedTxn.{CommittedTxn}
use Rattle.txn_data.specs.declared.config.Config.{Config}
use Rattle.txn_data.specs.declared.request.Request.TheVariants as request
use Rattle.txn_data.specs.declared.reply.Reply.TheVariants as reply
use Rattle.txn_data.specs.declared.told.Told.TheVariants as told
use Rattle.txn_data.specs.declared.event.Event.{Event}
use Rattle.txn_data.specs.declared.event.Event.TheVariants.{Serve, Tell}
use Rattle.txn_data.specs.declared.entry.Entry.{Entry}
use Rattle.txn_types.specs.Lists.{Member}
use Rattle.txn_types.specs.History.{History}
use Rattle.txn_types.specs.Committed.{committed}
use Rattle.txn_types.specs.Reads.{Read, reads, origin, inside, is_commit_of, was_told, touches, paths_asked, known, own_reading, own_time, SkewHeld, ReadsUpTo}
use Rattle.txn_types.specs.Run.{Run}
use Rattle.law_machines.specs.Own.{StandsOver, time_of}
use Rattle.law_machines.proofs.Basics.{eq_true, filter_member, any_member}
use Rattle.law_machines.proofs.Owns.{member_stands}
use Rattle.law_messages.proofs.Rules.{entry}
use Rattle.law_fates.specs.Laws.{CommittedAt}
use Rattle.law_session_order.proofs.Runs.{commits_above}
use Rattle.law_write_order.specs.Laws.{IsCommittedWrite}
use Rattle.law_courses.specs.Course.{IsPart}
use Rattle.law_courses.proofs.Parts.{part_trans, part_tail, part_member, stands_part}
use Rattle.law_steady_reads.proofs.FinalTimes.{ToldRead, read_told, read_facts, part_steps}
use Rattle.law_told_commits.proofs.Commits.{commit_times}
use Rattle.law_steady_reads.proofs.Steady.{part_origin}
use Rattle.law_time_sources.specs.Laws.{IsGrounded, EventIsGrounded}
use Rattle.law_time_sources.proofs.Runs.{times_grounded}
use Rattle.law_told_commits.specs.Laws.{TellsCommit}
use Rattle.law_windows.specs.Laws.{KnownCommitsAreInWindows, KnownWritesAreInWindows}

-- ## the history before the origin of a read

pub record Origin (config : Config) (h : History) (read : Read) : Type 0 where
  pub run : Run config (origin config read)
  pub part : IsPart (origin config read) h

pub origin_of : (config : Config) (h : History) (read : Read) → Run config h → Member read (reads h) → Origin config h read
origin_of config h read run m =
    let f = read_facts config h read run m in
    let t : ToldRead h read = read_told h read m in
    let e = entry (Session read.session) t.reading (Tell t.number (told.Values read.at read.restarts read.rows)) in
    let in_before : IsPart (origin config read) read.before = part_origin read (inside config read) in
    record {
      run = (run.0, part_steps config (origin config read) read.before in_before f.run.1);
      part = part_trans (origin config read) read.before h in_before (part_tail e read.before h (stands_part e read.before h t.stands));
    }

-- ## a known commit is told at a time that is grounded there

told_time : (h g : History) (event : Event) (x : CommittedTxn) → is_commit_of x.txn event ≡ true → TellsCommit h event → Member x (committed h) → EventIsGrounded g event → IsGrounded g x.at
told_time h g (Tell number (told.Committed y at)) x is tells of grounded = subst (λ (t : ℕ). IsGrounded g t) (sym (tells x of (sym (eq_true y x.txn is)))) grounded
told_time h g event x is tells of grounded = cc

read_up_to : (most n : ℕ) (reading : Option ℕ) → reading ≡ Some n → ReadsUpTo most reading → n ≤ most
read_up_to most n (Some r) is up = let same : r ≡ n = cc in omega (arith, same, up)
read_up_to most n None is up = cc

micros_limit : (time reading skew : ℕ) → micros_of time ≤ reading + skew → time ≤ limit_time reading skew
micros_limit time reading skew le = omega (arith, le)

in_limit : (config : Config) (read : Read) (g : History) (time : ℕ) → IsPart g (origin config read) → SkewHeld config config.skew_us read → IsGrounded g time → time ≤ limit_time (own_reading config read) config.skew_us
in_limit config read g time part held grounded = micros_limit time (own_reading config read) config.skew_us (elim grounded [
  | inl zero_is ↦ omega (arith, zero_is)
  | inr read_at ↦ read_up_to (own_reading config read + config.skew_us) (micros_of time) read_at.0.reading read_at.2 (held read_at.0 (part_member read_at.0 g (origin config read) part read_at.1))
])

-- what was known, where it was told
pub record ToldBefore (config : Config) (h : History) (read : Read) (x : CommittedTxn) : Type 0 where
  pub of : Member x (committed h)
  pub touches_paths : touches (paths_asked config read) x ≡ true
  pub entry : Entry
  pub before : History
  pub stands : StandsOver entry before (origin config read)
  pub member : Member entry (origin config read)
  pub tells : is_commit_of x.txn entry.event ≡ true

pub known_told : (config : Config) (h : History) (read : Read) (x : CommittedTxn) → Member x (known config h read) → ToldBefore config h read x
known_told config h read x m =
    let f = filter_member (λ (y : CommittedTxn). touches (paths_asked config read) y && was_told (origin config read) y.txn) x (committed h) m in
    let parts = and_parts (touches (paths_asked config read) x) (was_told (origin config read) x.txn) f.1 in
    let e = any_member (λ (g : Entry). is_commit_of x.txn g.event) (origin config read) parts.1 in
    let place = member_stands e.0 (origin config read) e.1 in
    record { of = f.0; touches_paths = parts.0; entry = e.0; before = place.0; stands = place.1; member = e.1; tells = e.2 }

-- ## the laws

pub known_commits : KnownCommitsAreInWindows
known_commits config h read x run m held known_is =
    let o = origin_of config h read run m in
    let t = known_told config h read x known_is in
    let grounded : EventIsGrounded (t.entry ∷ t.before) t.entry.event = times_grounded config (origin config read) t.before t.entry o.run t.stands in
    let tells : TellsCommit h t.entry.event = commit_times config h t.entry run (part_member t.entry (origin config read) h o.part t.member) in
    let time : IsGrounded (t.entry ∷ t.before) x.at = told_time h (t.entry ∷ t.before) t.entry.event x t.tells tells t.of grounded in
    let le = in_limit config read (t.entry ∷ t.before) x.at (stands_part t.entry t.before (origin config read) t.stands) held time in
    limit_window (own_time config read) le
  where
    limit_window : (own : ℕ) → x.at ≤ limit_time (own_reading config read) config.skew_us → x.at ≤ max own (limit_time (own_reading config read) config.skew_us)
    limit_window own le = omega (arith, le)

below_commit : (config : Config) (h : History) (e : Entry) (event : Event) (x c w : ℕ) (path : Parts) → Run config h → Member e h → e.event ≡ event → IsCommittedWrite h x c path e event → time_of event ≡ Some w → w ≤ c
below_commit config h e (Serve from (request.Write meta number p o read seen fates) (reply.Written t) time append) x c w path run m is of took =
    let above = commits_above config h e c number read seen from meta p o fates (reply.Written t) time append run m is (subst (λ (y : ℕ). CommittedAt h y c) (sym of.0) of.2) in
    let low = above.2 w took in
    omega (arith, low)
below_commit config h e (Serve from (request.Single y p o seen fates) r (Some d) append) x c w path run m is of took = let same : d ≡ w = cc in let at = of.2 in omega (arith, same, at)
below_commit config h e event x c w path run m is of took = absurd of

pub known_writes : KnownWritesAreInWindows
known_writes config h read x e path w run m held known_is in_h of took =
    let high = known_commits config h read x run m held known_is in
    let low = below_commit config h e e.event x.txn x.at w path run in_h refl of took in
    omega (arith, high, low)

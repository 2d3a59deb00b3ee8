-- What lists of writes leave, whoever keeps them: the fold of commits, a tablet's versions, and a read over several tablets.
use Rattle.std.specs.Prelude.{◌≡◌, ℕ, ◌<◌, ◌≤◌, true, List, [], ◌∷◌, ◌++◌, Option, Some, map, ◌⊎◌}
use Rattle.doc_path.specs.Path.{Parts, is_prefix}
use Rattle.txn_data.specs.declared.command.Command.{Command}
use Rattle.txn_data.specs.declared.command.Command.TheVariants as command
use Rattle.txn_data.specs.declared.committed_txn.CommittedTxn.{CommittedTxn}
use Rattle.txn_data.specs.declared.place.Place.{Place}
use Rattle.txn_data.specs.declared.read_kind.ReadKind.{ReadKind}
use Rattle.txn_data.specs.declared.read_kind.ReadKind.TheVariants.{Get, Scan}
use Rattle.txn_data.specs.declared.version.Version.{Version}
use Rattle.txn_data.specs.declared.written.Written.{Written}
use Rattle.txn_types.specs.Lists.{Member}
use Rattle.txn_types.specs.Writes.{last_word}
use Rattle.txn_types.specs.Committed.{fold_of}
use Rattle.txn_types.specs.Tablet.{rows_of, writes_at}
use Rattle.txn_types.specs.ReadProgram.{TabletRows, paths_on, tablets_of, all_rows}
use Rattle.txn_types.specs.Session.{rows_under}
use Rattle.txn_types.specs.Reads.{places_asked, rows_asked}

-- ## a read over several tablets

-- the line of a read of this kind
abbrev pub IsReadOf : ReadKind → Option Command → Type 0
IsReadOf Get (Some (command.Read strict places)) = Unit {0}
IsReadOf Scan (Some (command.Scan strict place)) = Unit {0}
IsReadOf kind line = ⊥

-- a tablet answered from writes of its own that have the last word of `ws` on all paths asked of it, and on those beneath
pub record IsAnswer (kind : ReadKind) (places : List Place) (ws : List Written) (f : TabletRows) : Type 0 where
  pub writes : List Written
  pub rows : f.rows ≡ rows_of kind (paths_on f.tablet places) writes
  pub same : (p q : Parts) → Member p (paths_on f.tablet places) → is_prefix p q ≡ true → last_word writes q ≡ last_word ws q

-- where each tablet of a read so answered, its rows with the transaction's own writes laid over them are those of `ws` with
-- these writes after them
abbrev pub ReadsShowTheWrites : Type 0
ReadsShowTheWrites = (kind : ReadKind) (line : Option Command) (found : List TabletRows) (ws own : List Written) → IsReadOf kind line →
    map (λ (f : TabletRows). f.tablet) found ≡ tablets_of (places_asked line) → ((f : TabletRows) → Member f found → IsAnswer kind (places_asked line) ws f) →
    rows_under kind own (places_asked line) (all_rows kind (places_asked line) found) ≡ rows_asked line (ws ++ own)

-- ## versions and the fold

-- a write with what ranks it: its commit time and its number
pub record Ranked : Type 0 where
  pub at : ℕ
  pub number : ℕ
  pub write : Written

abbrev pub rank : Version → Ranked
rank v = record { at = v.at; number = v.number; write = record { path = v.path; op = v.op } }

-- by commit time, then by number
abbrev pub IsUpTo : Ranked → Ranked → Type 0
IsUpTo u v = (u.at < v.at) ⊎ ((u.at ≡ v.at) × (u.number ≤ v.number))

-- the write speaks of this path
abbrev pub IsOn : Parts → Ranked → Type 0
IsOn p r = is_prefix r.write.path p ≡ true

-- what follows in a list is not less than what stands before it
abbrev pub InOrder : {A : Type 0} → (A → A → Type 0) → List A → Type 0
InOrder R [] = Unit {0}
InOrder {A = A} R (x ∷ xs) = ((y : A) → Member y xs → R x y) × InOrder R xs

-- the writes of a transaction, ranked: in the order of their numbers, all at its commit time
pub record AreItsRanks (ranks : List Ranked) (x : CommittedTxn) : Type 0 where
  pub writes : x.writes ≡ map (λ (r : Ranked). r.write) ranks
  pub order : InOrder (λ (r s : Ranked). r.number ≤ s.number) ranks
  pub time : (r : Ranked) → Member r ranks → r.at ≡ x.at

-- some transaction of the list, committed not later than t, has the write
abbrev pub IsInSome : (CommittedTxn → List Ranked) → List CommittedTxn → ℕ → Ranked → Type 0
IsInSome ranks xs t r = (x : CommittedTxn) × Member x xs × (x.at ≤ t) × Member r (ranks x)

-- some version of the list, committed not later than t, is the write
abbrev pub IsRankOf : List Version → ℕ → Ranked → Type 0
IsRankOf vs t r = (v : Version) × Member v vs × (v.at ≤ t) × (rank v ≡ r)

-- on a path, transactions of one commit time have the same writes, of which none has the number of another
pub record AreRanked (ranks : CommittedTxn → List Ranked) (xs : List CommittedTxn) (p : Parts) : Type 0 where
  pub its : (x : CommittedTxn) → Member x xs → AreItsRanks (ranks x) x
  pub one : (x y : CommittedTxn) (r s : Ranked) → Member x xs → Member y xs → Member r (ranks x) → Member s (ranks y) → IsOn p r → IsOn p s → x.at ≡ y.at → Member s (ranks x)
  pub unique : (x : CommittedTxn) (r s : Ranked) → Member x xs → Member r (ranks x) → Member s (ranks x) → IsOn p r → IsOn p s → r.number ≡ s.number → r.write ≡ s.write

-- up to a time, versions and transactions are the same writes on a path
pub record AreSame (ranks : CommittedTxn → List Ranked) (xs : List CommittedTxn) (vs : List Version) (t : ℕ) (p : Parts) : Type 0 where
  pub known : (r : Ranked) → IsOn p r → IsRankOf vs t r → IsInSome ranks xs t r
  pub shown : (r : Ranked) → IsOn p r → IsInSome ranks xs t r → IsRankOf vs t r

-- then what the versions leave there is what the fold of the transactions leaves
abbrev pub VersionsLeaveTheFold : Type 0
VersionsLeaveTheFold = (ranks : CommittedTxn → List Ranked) (xs : List CommittedTxn) (vs : List Version) (t : ℕ) (p : Parts) → AreRanked ranks xs p → AreSame ranks xs vs t p →
    last_word (writes_at t vs) p ≡ last_word (fold_of xs t) p

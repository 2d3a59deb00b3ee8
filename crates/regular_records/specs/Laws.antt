-- What holds of the newest version and of what a read meets, whatever the list.
use Rattle.std.specs.Prelude.{◌≡◌, ℕ, List, [], ◌++◌, option_map}
use Rattle.doc_path.specs.Path.{Parts}
use Rattle.txn_data.specs.declared.version.Version.{Version}
use Rattle.txn_data.specs.declared.read_kind.ReadKind.{ReadKind}
use Rattle.txn_data.specs.declared.window.Window.{Window}
use Rattle.txn_types.specs.Writes.{last_word}
use Rattle.txn_types.specs.Tablet.{with_versions, writes_at, rows_of, met_in}
use Rattle.regular_records.specs.Records.{later, newest, write_of, better}

-- the newest version up to t on a prefix of p is the last word on p among the versions up to t
abbrev pub NewestIsLastWord : Type 0
NewestIsLastWord = (t : ℕ) (p : Parts) (vs : List Version) → last_word (writes_at t vs) p ≡ option_map write_of (newest t p vs)

-- of two lists, the newest is the later of the two newest
abbrev pub NewestOfBoth : Type 0
NewestOfBoth = (t : ℕ) (p : Parts) (us vs : List Version) → newest t p (us ++ vs) ≡ later (newest t p us) (newest t p vs)

-- of two lists, what a read meets is the better of what it meets in each
abbrev pub MetOfBoth : Type 0
MetOfBoth = (w : Window) (t : ℕ) (paths : List Parts) (us vs : List Version) → met_in w t paths (us ++ vs) ≡ better (met_in w t paths us) (met_in w t paths vs)

-- behind other versions, versions that are added one after another have the rows that their list has
abbrev pub RowsOfAdded : Type 0
RowsOfAdded = (kind : ReadKind) (paths : List Parts) (t : ℕ) (us vs : List Version)
    → rows_of kind paths (writes_at t (us ++ with_versions [] vs)) ≡ rows_of kind paths (writes_at t (us ++ vs))

-- The last word of numbered writes, and a row beneath them.
use Rattle.std.proofs.Common.{◌≡◌, true, List, Option, Some, None, refl, sym, ap, ◌∙◌}
use Rattle.std.specs.Prelude.{is_some, option_map}
use Rattle.doc_path.specs.Path.{Parts}
use Rattle.txn_data.specs.declared.row.Row.{Row}
use Rattle.txn_data.specs.declared.written.Written.{Written}
use Rattle.txn_types.specs.Writes.{last_word, value}
use Rattle.txn_types.specs.Session.{row_under}
use Rattle.regular_records.specs.Laws.{NewestIsLastWord}
use Rattle.regular_records.specs.Records.{newest, decided, decided_by, write_of}
use Rattle.own_writes.specs.Numbered.{numbered}
use Rattle.own_writes.proofs.Numbers.{writes_again}

some_mapped : {A B : Type 0} (f : A → B) (o : Option A) → is_some (option_map f o) ≡ is_some o
some_mapped f None = refl
some_mapped f (Some a) = refl

-- something decides on the path exactly where one of the writes has the last word
pub decided_is : NewestIsLastWord → (ws : List Written) (p : Parts) → is_some (decided 0 p (numbered 0 ws)) ≡ is_some (last_word ws p)
decided_is law ws p =
    some_mapped decided_by (newest 0 p (numbered 0 ws))
    ∙ sym (some_mapped write_of (newest 0 p (numbered 0 ws)))
    ∙ ap is_some (sym (law 0 p (numbered 0 ws)))
    ∙ ap (λ us. is_some (last_word us p)) (writes_again 0 ws)

over_choice : (o : Option Written) (over row : Row) → is_some o ≡ true → (elim o as (λ _. Row) [ Some w ↦ over | None ↦ row ]) ≡ over
over_choice None over row h = cc
over_choice (Some w) over row h = refl

-- a row whose path goes by the writes, and one whose path does not
abbrev goes_by : List Written → Row → Row
goes_by ws row = record { path = row.path; value = value ws row.path }

pub row_over : (ws : List Written) (row : Row) → is_some (last_word ws row.path) ≡ true → row_under ws row ≡ record { path = row.path; value = value ws row.path }
row_over ws row h = over_choice (last_word ws row.path) (goes_by ws row) row h

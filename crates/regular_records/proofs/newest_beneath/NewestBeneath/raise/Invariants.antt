use Rattle.std.proofs.Common.{◌≡◌, ◌≤◌, true, max, length}
use Rattle.doc_path.specs.Path.{Parts, is_prefix}
use Rattle.regular_records.specs.NewestBeneath.{newest_at, HasPlaces}
use Rattle.regular_records.proofs.newest_beneath.NewestBeneath.raise.Given as goal

abbrev pub invariant-loop-i : goal.invariant-loop-i
invariant-loop-i l = record {
  raised : (q : Parts) → 1 ≤ length q → length q ≤ l.i → is_prefix q l.path ≡ true → newest_at q l.self ≡ max l.at (newest_at q l.initial.self);
  others : (q : Parts) → (length q ≤ l.i → is_prefix q l.path ≡ true → ⊥) → newest_at q l.self ≡ newest_at q l.initial.self;
  places : (p : Parts) → HasPlaces p l.initial.self → HasPlaces p l.self;
}

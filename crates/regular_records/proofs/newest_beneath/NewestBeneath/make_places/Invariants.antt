use Rattle.std.proofs.Common.{◌≡◌, ℕ, ◌≤◌, take}
use Rattle.doc_path.specs.Path.{Parts}
use Rattle.regular_records.specs.NewestBeneath.{newest_at, HasPlace, HasPlaces}
use Rattle.regular_records.proofs.newest_beneath.NewestBeneath.make_places.Given as goal

abbrev pub invariant-loop-i : goal.invariant-loop-i
invariant-loop-i l = record {
  times : (q : Parts) → newest_at q l.self ≡ newest_at q l.initial.self;
  others : (p : Parts) → HasPlaces p l.initial.self → HasPlaces p l.self;
  places : (n : ℕ) → 1 ≤ n → n ≤ l.i → HasPlace (take n l.parts.items) l.self;
}

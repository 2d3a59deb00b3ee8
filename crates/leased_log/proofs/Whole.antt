-- Where the store of an actor holds whole frames, an append leaves it so, whether it fails or not.
use Rattle.std.proofs.Common.{◌≡◌, ℕ, ◌⊎◌, inl, inr, Ok, Err, Result, List, ◌++◌, sym, ap, ◌∙◌}
use Rattle.std.specs.Prelude.{OnOk, OnErr}
use Rattle.std.specs.List.{AllByRecursion}
use Rattle.std.proofs.lemmas.Grind.{flat_map-append}
use Rattle.log_record.specs.declared.log_record.LogRecord.{LogRecord}
use Rattle.tablet_log.specs.Frames.{IsRecord, frame, frames}
use Rattle.leased_log.specs.Stands.{IsWhole}
use Rattle.leased_log.proofs.Parts.{all_joined}

whole_still : (held after : List ℕ) → IsWhole held → after ≡ held → IsWhole after
whole_still held after whole same = record { records = whole.records; holds = record { records = whole.holds.records; is = same ∙ whole.holds.is } }

whole_after : (held after : List ℕ) (rs : List LogRecord) → IsWhole held → AllByRecursion IsRecord rs → after ≡ held ++ frames rs → IsWhole after
whole_after held after rs whole spelled more = record {
  records = whole.records ++ rs;
  holds = record {
    records = all_joined IsRecord whole.records rs whole.holds.records spelled;
    is = more ∙ ap (λ (bytes : List ℕ). bytes ++ frames rs) whole.holds.is ∙ sym (flat_map-append frame whole.records rs);
  };
}

pub whole_appended : {A E : Type 0} (held after piece : List ℕ) (rs : List LogRecord) (r : Result A E) → IsWhole held → AllByRecursion IsRecord rs → piece ≡ frames rs
    → OnOk r (after ≡ held ++ piece) → OnErr r ((after ≡ held) ⊎ (after ≡ held ++ piece)) → IsWhole after
whole_appended held after piece rs (Ok x) whole spelled is ok err = whole_after held after rs whole spelled (ok ∙ ap (λ (bytes : List ℕ). held ++ bytes) is)
whole_appended held after piece rs (Err e) whole spelled is ok err = elim err [
  | inl same ↦ whole_still held after whole same
  | inr more ↦ whole_after held after rs whole spelled (more ∙ ap (λ (bytes : List ℕ). held ++ bytes) is)
]

-- A log of records whose paths fit stays one.
use Rattle.std.proofs.Common.{◌≡◌, ℕ, inl, inr, List, [], ◌∷◌, ◌++◌, Option, Some, None, sym, ap, ◌∙◌}
use Rattle.std.specs.Prelude.{IfSome, option_to_list}
use Rattle.std.specs.List.{AllByRecursion}
use Rattle.std.proofs.lemmas.Grind.{flat_map-append}
use Rattle.doc_path.specs.Path.{Parts}
use Rattle.txn_data.specs.declared.append.Append.{Append}
use Rattle.txn_data.specs.declared.append.Append.TheVariants.{Nothing, Took, Failed}
use Rattle.log_record.specs.declared.log_record.LogRecord.{LogRecord}
use Rattle.tablet_log.specs.Frames.{IsRecord, frame, frames}
use Rattle.leased_log.specs.declared.decision.Decision.{Decision}
use Rattle.leased_log.specs.Stands.{LogState}
use Rattle.leased_log.specs.Decides.{lease_of, lease_records, records_for}
use Rattle.leased_log.specs.Acts.{ActsBy}
use Rattle.tablet_records.specs.Keeps.{PathFits}
use Rattle.tablet_core.specs.Fitting.{HoldsFitting}

all_joined : {A : Type 0} (P : A → Type 0) (xs ys : List A) → AllByRecursion P xs → AllByRecursion P ys → AllByRecursion P (xs ++ ys)
all_joined P [] ys p q = q
all_joined P (x ∷ xs) ys p q = (p.0, all_joined P xs ys p.1 q)

-- the same bytes
pub same_fit : (fits : Parts → Type 0) (before after : List ℕ) → HoldsFitting fits before → after ≡ before → HoldsFitting fits after
same_fit fits before after was e = record { records = was.records; holds = record { records = was.holds.records; is = e ∙ was.holds.is }; fit = was.fit }

-- more records
more_fit : (fits : Parts → Type 0) (before after : List ℕ) (rs : List LogRecord) → HoldsFitting fits before → AllByRecursion IsRecord rs → AllByRecursion (PathFits fits) rs
    → after ≡ before ++ frames rs → HoldsFitting fits after
more_fit fits before after rs was spelled fit e = record {
  records = was.records ++ rs;
  holds = record {
    records = all_joined IsRecord was.records rs was.holds.records spelled;
    is = e ∙ ap (λ (bytes : List ℕ). bytes ++ frames rs) was.holds.is ∙ sym (flat_map-append frame was.records rs);
  };
  fit = all_joined (PathFits fits) was.records rs was.fit fit;
}

own_fit : (fits : Parts → Type 0) (own : Option LogRecord) → IfSome own (PathFits fits) → AllByRecursion (PathFits fits) (option_to_list own)
own_fit fits None fit = tt
own_fit fits (Some r) fit = (fit, tt)

lease_fit : (fits : Parts → Type 0) (lease : Option ℕ) (own : Option LogRecord) → IfSome own (PathFits fits) → AllByRecursion (PathFits fits) (lease_records lease ++ option_to_list own)
lease_fit fits None own fit = own_fit fits own fit
lease_fit fits (Some until) own fit = (tt, own_fit fits own fit)

-- what was decided is done
pub acted_fit : (fits : Parts → Type 0) (append : Append) (old new : LogState) (d : Decision) → ActsBy append old new d → AllByRecursion IsRecord (records_for d) → IfSome d.own (PathFits fits)
    → HoldsFitting fits old.held → HoldsFitting fits new.held
acted_fit fits Nothing old new d acts spelled fit was = same_fit fits old.held new.held was acts.held
acted_fit fits Took old new d acts spelled fit was = more_fit fits old.held new.held (records_for d) was spelled (lease_fit fits (lease_of d.step) d.own fit) acts.held
acted_fit fits Failed old new d acts spelled fit was = elim acts.held [
  | inl same ↦ same_fit fits old.held new.held was same
  | inr more ↦ more_fit fits old.held new.held (records_for d) was spelled (lease_fit fits (lease_of d.step) d.own fit) more
]

use Rattle.std.proofs.Common.{◌≡◌, ◌-◌, length, arith, ◌∙◌, sym}
use Rattle.std.proofs.lemmas.List.{nil_from_length}
use Rattle.std.proofs.lemmas.Result.{err_from_is_err_and}
use Rattle.sub_doc_key.proofs.Subkeys.{MayStand, path_cut, path_ends, path_is_full, path_goes_on, path_fails, pushed}
use Rattle.sub_doc_key.proofs.read.subkeys_at.Goals as goal
use Rattle.sub_doc_key.proofs.read.subkeys_at.Goals.{else-parts-eq-MOST_PARTS-via-then-parts-eq-MOST_PARTS+else-is_subkey_tag, else-parts-eq-MOST_PARTS-via-else-parts-eq-MOST_PARTS}

pub returns-then-tag-eq-HYBRID_TIME-clause-value : goal.returns-then-tag-eq-HYBRID_TIME-clause-value
returns-then-tag-eq-HYBRID_TIME-clause-value c =
    let first = c.in-Some.ensures.cases in
    path_ends c.args.whole (5 - length c.loop-tag.path) c.loop-tag.path c.loop-tag.rest.now c.in-Some.tag.now c.in-Some.after.now _ first.0 c.if-tag-eq-HYBRID_TIME.true c.loop-tag.invariant.0

pub returns-then-is_subkey_tag-clause-value : goal.returns-then-is_subkey_tag-clause-value
returns-then-is_subkey_tag-clause-value c =
    let first = c.in-Some.ensures.cases in
    let full : 5 - length c.loop-tag.path ≡ 0 = omega (arith, c.parts.ensures.value, c.if-parts-eq-MOST_PARTS.true) in
    path_is_full c.args.whole (5 - length c.loop-tag.path) c.loop-tag.path c.loop-tag.rest.now c.in-Some.tag.now c.in-Some.after.now _ (record { bytes_are = first.0; no_end = c.if-tag-eq-HYBRID_TIME.false }) full (sym c.if-is_subkey_tag.ensures) c.loop-tag.invariant.0

pub returns-in_err-subkey-clause-value : goal.returns-in_err-subkey-clause-value
returns-in_err-subkey-clause-value c =
    let first = c.in-Some.ensures.cases in
    let may : MayStand (5 - length c.loop-tag.path) c.in-Some.tag.now =
    λ full. elim c.else-parts-eq-MOST_PARTS.branch [
      | else-parts-eq-MOST_PARTS-via-then-parts-eq-MOST_PARTS+else-is_subkey_tag w ↦ sym w.is_subkey_tag.ensures ∙ w.if-is_subkey_tag.false
      | else-parts-eq-MOST_PARTS-via-else-parts-eq-MOST_PARTS w ↦ absurd (w.if-parts-eq-MOST_PARTS.false (omega (arith, c.parts.ensures.value, c.parts.ensures.most)))
    ] in
    let p = err_from_is_err_and c.from_residual.result c.from_residual.ensures.1 in
    rw (p.1, p.2) (path_fails c.in_err-subkey.field-0.0 c.args.whole (5 - length c.loop-tag.path) c.loop-tag.path c.loop-tag.rest.now c.in-Some.tag.now c.in-Some.after.now _ (record { bytes_are = first.0; no_end = c.if-tag-eq-HYBRID_TIME.false }) may c.in_err-subkey.ensures.value c.loop-tag.invariant.0)

pub loop-tag-preserved : goal.loop-tag-preserved
loop-tag-preserved c =
    let first = c.in-Some.ensures.cases in
    let may : MayStand (5 - length c.loop-tag.path) c.in-Some.tag.now =
    λ full. elim c.else-parts-eq-MOST_PARTS.branch [
      | else-parts-eq-MOST_PARTS-via-then-parts-eq-MOST_PARTS+else-is_subkey_tag w ↦ sym w.is_subkey_tag.ensures ∙ w.if-is_subkey_tag.false
      | else-parts-eq-MOST_PARTS-via-else-parts-eq-MOST_PARTS w ↦ absurd (w.if-parts-eq-MOST_PARTS.false (omega (arith, c.parts.ensures.value, c.parts.ensures.most)))
    ] in
    let next = path_goes_on c.args.whole 5 c.loop-tag.path c.loop-tag.rest.now c.in-Some.tag.now c.in-Some.after.now c.in_ok-subkey.after.now c.in_ok-subkey.subkey.now _ (record { bytes_are = first.0; no_end = c.if-tag-eq-HYBRID_TIME.false }) may c.in_ok-subkey.ensures.value c.loop-tag.invariant.0 in
    rw (pushed c.push.result _ c.in_ok-map_err.ensures.variant c.push.ensures.ok) (next, omega (arith, c.in_ok-subkey.ensures.rest, c.loop-tag.invariant.1))

pub returns-clause-value : goal.returns-clause-value
returns-clause-value c =
    path_cut c.args.whole (5 - length c.loop-tag.path) c.loop-tag.path c.loop-tag.rest.now _ (nil_from_length c.loop-tag.rest.now c.in_default.ensures.cases) c.loop-tag.invariant.0

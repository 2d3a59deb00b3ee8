use Rattle.std.proofs.Common.{◌≡◌, Some, None, sym, ap, ◌∙◌}
use Rattle.std.specs.Prelude.{slice_get, option_map}
use Rattle.std.specs.BTreeMap.{get}
use Rattle.std.proofs.lemmas.Option.{slice_get-get_or}
use Rattle.intent_records.specs.Holds.{primary_of, provisional_of}
use Rattle.intent_records.specs.Keys.{key_order}
use Rattle.intent_records.proofs.Reading.{write-held, copy-held}
use Rattle.intent_records.proofs.intents.Intents.write_at.Goals as goal

pub returns-in_default-get-2 : goal.returns-in_default-get-2
returns-in_default-get-2 c = λ ps holds.
    let s = c.args.self.now in
    let x = c.args.txn in
    let i = c.args.position in
    let path = c.in-Some-get.path.now in
    let at : slice_get c.in-Some.paths.now i ≡ Some path = ap (λ l. slice_get l i) (sym c.items.ensures)
    ∙ slice_get-get_or c.items.result.now i path c.in-Some-get.ensures.lookup.3.0
    ∙ ap Some (sym c.in-Some-get.ensures.lookup.1) in
    let write = write-held s ps holds x i path c.in-Some.paths.now (sym c.in-Some.ensures.value) at in
    let stands : get key_order s.records (record { path = c.in_ok-try_copy.field-0; txn = x; position = i }) ≡ Some (primary_of write.0) =
    ap (λ q. get key_order s.records (record { path = q; txn = x; position = i })) c.in_ok-try_copy.ensures ∙ write.1.3 in
    let none : None ≡ Some (primary_of write.0) = c.in_default-get-2.ensures.value ∙ stands in
    cc

pub returns : goal.returns
returns c = λ ps holds.
    let s = c.args.self.now in
    let x = c.args.txn in
    let i = c.args.position in
    let path = c.in-Some-get.path.now in
    let at : slice_get c.in-Some.paths.now i ≡ Some path = ap (λ l. slice_get l i) (sym c.items.ensures)
    ∙ slice_get-get_or c.items.result.now i path c.in-Some-get.ensures.lookup.3.0
    ∙ ap Some (sym c.in-Some-get.ensures.lookup.1) in
    let write = write-held s ps holds x i path c.in-Some.paths.now (sym c.in-Some.ensures.value) at in
    let p = write.0 in
    let stands : get key_order s.records (record { path = c.in_ok-try_copy.field-0; txn = x; position = i }) ≡ Some (primary_of p) =
    ap (λ q. get key_order s.records (record { path = q; txn = x; position = i })) c.in_ok-try_copy.ensures ∙ write.1.3 in
    let got : Some c.in-Some-get-2.record.now ≡ Some (primary_of p) = c.in-Some-get-2.ensures.value ∙ stands in
    let same : c.in-Some-get-2.record.now ≡ primary_of p = cc in
    ap Some (copy-held c.in_ok-try_copy.field-0 x p c.in-Some-get-2.record.now c.in_ok-op.op (write.1.1 ∙ sym c.in_ok-try_copy.ensures) write.1.2 same c.in_ok-op.ensures)
    ∙ ap (option_map provisional_of) (sym write.1.0)

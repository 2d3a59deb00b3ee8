use Rattle.std.proofs.Common.{◌≡◌, Some, None, length, sym, ap, ◌∙◌, arith}
use Rattle.std.specs.Prelude.{map, slice_get}
use Rattle.std.specs.BTreeMap.{get}
use Rattle.std.proofs.lemmas.List.{take_all, length-map}
use Rattle.std.proofs.lemmas.Option.{slice_get-get_or}
use Rattle.intent_records.specs.Holds.{own, provisional_of, primary_of, path_of}
use Rattle.intent_records.specs.Keys.{key_order}
use Rattle.intent_records.proofs.Reading.{write-held, paths-held, none-held, read-more, copy-held}
use Rattle.intent_records.proofs.intents.Intents.records_of.Goals as goal
use Rattle.intent_records.proofs.intents.Intents.records_of.Goals.{in-Some-get+in_ok-try_copy+in_ok-push, in_default-get, in-Some+else-loop-position-test, in_default}

pub loop-position-preserved : goal.loop-position-preserved
loop-position-preserved c = λ ps holds.
    let s = c.args.self.now in
    let i = c.loop-position.position in
    let x = c.args.txn in
    let path = c.path-item.result in
    let at : slice_get c.in-Some.paths.now i ≡ Some path =
    ap (λ l. slice_get l i) (sym c.items-path-items.ensures) ∙ slice_get-get_or c.items-path-items.result.now i path c.loop-position-test.true ∙ ap Some (sym c.path-item.is) in
    let write = write-held s ps holds x i path c.in-Some.paths.now (sym c.in-Some.ensures.value) at in
    let p = write.0 in
    let stands : get key_order s.records (record { path = c.in_ok-path.path; txn = x; position = i }) ≡ Some (primary_of p) =
    ap (λ q. get key_order s.records (record { path = q; txn = x; position = i })) c.in_ok-path.ensures ∙ write.1.3 in
    elim c.match-get-2.branch [
      | in-Some-get+in_ok-try_copy+in_ok-push w ↦
          let got : Some w.in-Some-get.record.now ≡ Some (primary_of p) = w.in-Some-get.ensures.value ∙ stands in
          let same : w.in-Some-get.record.now ≡ primary_of p = cc in
          ap (λ l. l.items) w.list-is
          ∙ read-more (own x ps) i p c.loop-position.list.items w.push.new.self.items _ write.1.0 (c.loop-position.invariant ps holds) w.in_ok-push.ensures.items
          (copy-held c.in_ok-path.path x p w.in-Some-get.record.now w.in_ok-try_copy.field-0 (write.1.1 ∙ sym c.in_ok-path.ensures) write.1.2 same w.in_ok-try_copy.ensures)
      | in_default-get w ↦
          let none : None ≡ Some (primary_of p) = w.in_default-get.ensures.value ∙ stands in
          cc
    ]

pub returns : goal.returns
returns c = λ ps holds.
    let s = c.args.self.now in
    let x = c.args.txn in
    elim c.match-get.branch [
      | in-Some+else-loop-position-test w ↦
          let listed = paths-held s ps holds x w.in-Some.paths.now (sym w.in-Some.ensures.value) in
          let count : length w.items-path-items.result.now ≡ length (own x ps) = ap length (w.items-path-items.ensures ∙ listed) ∙ length-map (own x ps) path_of in
          ap (λ l. l.items) w.list-is
          ∙ w.loop-position.invariant ps holds
          ∙ ap (map provisional_of) (take_all w.loop-position.position (own x ps) (omega arith))
      | in_default w ↦
          ap (λ l. l.items) w.list-is
          ∙ c.new-list.ensures.items
          ∙ ap (map provisional_of) (sym (none-held s ps holds x (sym w.in_default.ensures.value)))
    ]

use Rattle.std.proofs.Common.{ℕ, ◌≤◌, Option, Some, length, sym, ap, ◌∙◌, subst}
use Rattle.std.specs.Prelude.{option_map, IfSome}
use Rattle.std.proofs.lemmas.List.{length-take-le}
use Rattle.regular_records.specs.declared.decided.Decided.{Decided}
use Rattle.regular_records.specs.declared.word.Word.{Word}
use Rattle.regular_records.specs.Records.{decided_by}
use Rattle.regular_records.specs.Store.{word_version}
use Rattle.regular_records.proofs.Held.{held-by, newest-at}
use Rattle.regular_records.proofs.map_versions.MapVersionsVersions.decided_at.Goals as goal

pub returns-in-None : goal.returns-in-None
returns-in-None c vs h =
    let q = c.deref.result.now in
    let store = c.self.inside.paths in
    let found = newest-at c.args.t c.args.path.now q store vs c.self.invariant.0 (held-by c.args.self.now store vs c.self.view_is h) (c.deref.ensures.value ∙ c.as_parts.ensures.value) in
    ap (option_map decided_by)
    (sym (ap (option_map (word_version q)) c.in-None.is) ∙ c.newest_word.ensures.value ∙ found)

pub returns-in-Some : goal.returns-in-Some
returns-in-Some c vs h =
    let q = c.deref.result.now in
    let store = c.self.inside.paths in
    let w = c.in-Some.word in
    let P : Option Word → Type 0 = λ o. IfSome o (λ w. w.parts ≤ length q) in
    let fits : w.parts ≤ length q = subst P c.in-Some.is c.newest_word.ensures.parts in
    let found = newest-at c.args.t c.args.path.now q store vs c.self.invariant.0 (held-by c.args.self.now store vs c.self.view_is h) (c.deref.ensures.value ∙ c.as_parts.ensures.value) in
    let as_decided : ℕ → Option Decided = λ n. Some (record { at = w.at.now; number = w.number; parts = n }) in
    ap as_decided (sym (length-take-le w.parts q fits))
    ∙ ap (option_map decided_by) (sym (ap (option_map (word_version q)) c.in-Some.is) ∙ c.newest_word.ensures.value ∙ found)

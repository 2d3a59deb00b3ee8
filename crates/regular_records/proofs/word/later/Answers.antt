use Rattle.std.proofs.Common.{sym, ap, ◌∙◌, subst, if◌then◌else◌, Option, Some}
use Rattle.regular_records.specs.Store.{word_version, IsLonger}
use Rattle.regular_records.specs.declared.word.Word.{Word}
use Rattle.regular_records.proofs.Slots.{later-longer}
use Rattle.regular_records.proofs.word.later.Goals as goal

pub returns-then-is_newer-clause-value : goal.returns-then-is_newer-clause-value
returns-then-is_newer-clause-value c p h =
    let w = c.in-Some-Some.word in
    let o = c.in-Some-Some.other in
    let P : Option Word → Type 0 = λ x. IsLonger p x c.args.second in
    let Q : Option Word → Type 0 = λ y. IsLonger p (Some w) y in
    let k : IsLonger p (Some w) (Some o) = subst Q c.in-Some-Some.is-1 (subst P c.in-Some-Some.is-0 h) in
    rw (c.in-Some-Some.is-0, c.in-Some-Some.is-1)
    (ap (λ b. if b then Some (word_version p w) else Some (word_version p o)) (sym c.if-is_newer.true) ∙ later-longer p w o c.is_newer.result k.0 k.1 c.is_newer.ensures)

pub returns-else-is_newer-clause-value : goal.returns-else-is_newer-clause-value
returns-else-is_newer-clause-value c p h =
    let w = c.in-Some-Some.word in
    let o = c.in-Some-Some.other in
    let P : Option Word → Type 0 = λ x. IsLonger p x c.args.second in
    let Q : Option Word → Type 0 = λ y. IsLonger p (Some w) y in
    let k : IsLonger p (Some w) (Some o) = subst Q c.in-Some-Some.is-1 (subst P c.in-Some-Some.is-0 h) in
    rw (c.in-Some-Some.is-0, c.in-Some-Some.is-1)
    (ap (λ b. if b then Some (word_version p w) else Some (word_version p o)) (sym c.if-is_newer.false) ∙ later-longer p w o c.is_newer.result k.0 k.1 c.is_newer.ensures)

use Rattle.std.proofs.Common.{◌≡◌, ◌<◌, length, take, refl, arith}
use Rattle.std.proofs.lemmas.List.{take_all, length-take-le}
use Rattle.regular_records.proofs.Prefix.{is_prefix-itself, is_prefix-longer}
use Rattle.regular_records.proofs.word.word_value.Goals as goal

pub returns-then-word-parts : goal.returns-then-word-parts
returns-then-word-parts c p h k =
    let n = c.args.word.now.parts in
    let short : length (take n p) ≡ n = length-take-le n p (omega arith) in
    let less : length (take n p) < length p = omega arith in
    rw (is_prefix-longer p (take n p) less) refl

pub returns-in_ok-try_copy-in-Put : goal.returns-in_ok-try_copy-in-Put
returns-in_ok-try_copy-in-Put c p h k =
    let n = c.args.word.now.parts in
    rw (take_all n p (omega arith), is_prefix-itself p, c.in-Put.is, c.in_ok-try_copy-in-Put.ensures) refl

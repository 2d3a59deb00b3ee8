use Rattle.std.proofs.Common.{◌≡◌, ◌∙◌, ◌++◌, ℕ, List, length, take, drop, refl, ap, sym, subst, arith}
use Rattle.log_record.specs.Spelling.{Spells}
use Rattle.tablet_log.specs.Frames.{frame}
use Rattle.tablet_log.proofs.Framed.{none_short, none_cut, one_read, unread_is}
use Rattle.tablet_log.proofs.read.frame_at.Goals as goal

pub returns-then-bytes-lt4-clause-refused : goal.returns-then-bytes-lt4-clause-refused
returns-then-bytes-lt4-clause-refused c = (refl, none_short c.spellings_are_short.ensures c.args.bytes.now (omega arith))

pub returns-then-rest-count-clause-refused : goal.returns-then-rest-count-clause-refused
returns-then-rest-count-clause-refused c =
    let behind : length c.count_at-count.result.1.now ≡ length (drop 4 c.args.bytes.now) = ap length c.count_at-count.ensures.rest in
    (refl, none_cut c.spellings_are_short.ensures c.args.bytes.now c.count_at-count.result.0 c.count_at-count.ensures.count (omega (arith, behind)))

pub returns-in-Ok-clause-found : goal.returns-in-Ok-clause-found
returns-in-Ok-clause-found c =
    let count : ℕ = c.count_at-count.result.0 in
    let payload : c.split_at.result.0.now ≡ take count (drop 4 c.args.bytes.now) = c.split_at.ensures.front ∙ ap (take count) c.count_at-count.ensures.rest in
    let behind : length c.count_at-count.result.1.now ≡ length (drop 4 c.args.bytes.now) = ap length c.count_at-count.ensures.rest in
    let spells : Spells (take count (drop 4 c.args.bytes.now)) c.in-Ok.logged = subst (λ (p : List ℕ). Spells p c.in-Ok.logged) payload c.in-Ok.ensures.found in
    let one = one_read c.args.bytes.now count c.in-Ok.logged (λ i. omega (arith, c.type_inv.bytes i)) (omega arith) c.count_at-count.ensures.count (omega (arith, behind)) spells in
    (one.0, one.1 ∙ ap (λ (t : List ℕ). frame c.in-Ok.logged ++ t) (sym (c.split_at.ensures.back ∙ ap (drop count) c.count_at-count.ensures.rest)))

pub returns-in-Err-clause-refused : goal.returns-in-Err-clause-refused
returns-in-Err-clause-refused c =
    let count : ℕ = c.count_at-count.result.0 in
    let payload : c.split_at.result.0.now ≡ take count (drop 4 c.args.bytes.now) = c.split_at.ensures.front ∙ ap (take count) c.count_at-count.ensures.rest in
    rw c.unread.ensures (unread_is c.spellings_are_short.ensures c.args.bytes.now count c.args.offset c.in-Err.refusal c.count_at-count.ensures.count
    (λ r spells. c.in-Err.ensures.only r (subst (λ (p : List ℕ). Spells p r) (sym payload) spells)))

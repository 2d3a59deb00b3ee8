use Rattle.std.proofs.Common.{◌∷◌, ◌++◌, [], codes}
use Rattle.script_text.specs.Written.{mover_word}
use Rattle.script_text.proofs.Kept.{behind, kept, on_err}
use Rattle.script_text.proofs.written_words.write_go.Goals as goal

pub returns-in_err-write_number-clause-memory : goal.returns-in_err-write_number-clause-memory
returns-in_err-write_number-clause-memory c =
    let old = c.args.out.now.items in
    let one = c.extend_from_slice.new.self.items in
    let two = c.write_mover.new.out.items in
    let three = c.push.new.self.items in
    let word = mover_word c.args.line.now.who in
    let first = behind old one two (codes "@go ") word c.in_ok-extend_from_slice.ensures.items c.in_ok-write_mover.ensures.ok in
    on_err c.from_residual-in_err-write_number.result _
    (kept old three c.write_number.new.out.items ((codes "@go " ++ word) ++ 32 ∷ []) (behind old two three (codes "@go " ++ word) (32 ∷ []) first c.in_ok-push.ensures.items) c.in_err-write_number.ensures.memory)

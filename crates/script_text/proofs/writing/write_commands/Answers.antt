use Rattle.std.proofs.Common.{◌≡◌, ◌+◌, ◌++◌, ◌∷◌, ◌∙◌, [], ℕ, List, append-nil, ap, arith, drop, flat_map, get_or, length, refl, subst, sym, take}
use Rattle.std.proofs.lemmas.List.{drop_more, length-map, take_all, take_more}
use denote.Ref.{Bor}
use Rattle.txn_data.specs.declared.command.Command.{Command}
use Rattle.script_text.specs.Lines.{Text}
use Rattle.script_text.specs.Queues.{lists_of, queue_of}
use Rattle.script_text.specs.Written.{line_text, told_line, told_lines}
use Rattle.script_text.proofs.Kept.{front_kept, front_more, on_err}
use Rattle.script_text.proofs.Queueing.{AreLeft, AreOfBytes, first_left, next_bytes, next_left, next_text, none_bytes, none_told}
use Rattle.script_text.proofs.writing.write_commands.Goals as goal

pub lines-init : goal.lines-init
lines-init c = record {
  room = c.in_ok-queues.ensures.room;
  each = λ i le. c.in_ok-queues.ensures.each i le ∙ first_left c.args.plans.now i;
  text = refl;
  front = take_all (length c.args.out.now.items) c.args.out.now.items (omega arith);
  bytes = none_bytes c.args.plans.now;
}

pub returns-in_err-write_next-clause-memory : goal.returns-in_err-write_next-clause-memory
returns-in_err-write_next-clause-memory c =
    on_err c.from_residual-in_err-write_next.result _
    (front_kept c.args.out.now.items c.lines.out.items c.write_next.new.out.items c.lines.invariant.front c.in_err-write_next.ensures.memory)

pub lines-preserved : goal.lines-preserved
lines-preserved c =
    let plans = c.args.plans.now in
    let order = c.args.order.now in
    let k = c.lines.session-index in
    let s = get_or order k 0 in
    let old = c.lines.queues.items in
    let new = c.write_next.new.queues.items in
    let done = take k order in
    let more = drop (k + 1) order in
    let h = c.lines.invariant in
    let told = c.in_ok-write_next.ensures in
    let small = c.requires.order k 0 c.lines-test.true in
    let so_far : take (k + 1) order ≡ done ++ s ∷ [] = take_more order k 0 c.lines-test.true in
    let all : Text = c.args.out.now.items ++ flat_map line_text (told_lines plans [] order) in
    let before : c.lines.out.items ++ flat_map line_text (told_lines plans done (s ∷ more)) ≡ all =
    subst (λ (ss : List ℕ). c.lines.out.items ++ flat_map line_text (told_lines plans done ss) ≡ all) (drop_more order k 0 c.lines-test.true) h.text in
    record {
      room = c.write_next.ensures.room;
      each = subst (λ (ss : List ℕ). AreLeft plans ss (lists_of new)) (sym so_far)
          (next_left plans done s (lists_of old) (lists_of new) h.each (omega (arith, length-map old (λ (q : Bor (List Command)). q.now), c.lines.queues.ok.0, h.room)) small told.later);
      text = subst (λ (ss : List ℕ). c.write_next.new.out.items ++ flat_map line_text (told_lines plans ss more) ≡ all) (sym so_far)
          (next_text plans done more s c.lines.out.items c.write_next.new.out.items all (queue_of old s) (h.each s small) told.ok before);
      front = ap (take (length c.args.out.now.items)) told.ok ∙ front_more c.args.out.now.items c.lines.out.items (flat_map line_text (told_line s (queue_of old s))) h.front;
      bytes = subst (λ (ss : List ℕ). AreOfBytes plans ss) (sym so_far) (next_bytes plans done s (queue_of old s) (h.each s small) told.bytes h.bytes);
    }

pub returns-clause-ok : goal.returns-clause-ok
returns-clause-ok c =
    let plans = c.args.plans.now in
    let order = c.args.order.now in
    let k = c.lines.session-index in
    sym (append-nil c.lines.out.items)
    ∙ (ap (λ (ls : List (List Text)). c.lines.out.items ++ flat_map line_text ls) (sym (none_told plans order (take k order) k (omega arith))) ∙ c.lines.invariant.text)

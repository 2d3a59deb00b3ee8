use Rattle.std.proofs.Common.{◌≡◌, ◌≤◌, ◌+◌, ◌++◌, length, take, drop, min, vec_len, arith, ap, sym, ◌∙◌}
use Rattle.std.proofs.lemmas.List.{length-drop, length-take, length-append}
use Rattle.docdb_run.proofs.Pieces.{IsReadTo, more_read, all_read}
use Rattle.docdb_run.proofs.script_source.read_source.Goals.{else-pieces-test, then-pieces-test+in-Ok+then-count-eq0}
use Rattle.docdb_run.proofs.script_source.read_source.Goals as goal

pub returns-clause-read : goal.returns-clause-read
returns-clause-read g c = elim c.pieces-test.branch [
  | else-pieces-test w ↦
      let full : vec_len c.pieces.script ≡ 16777217 = omega arith in
      rw (w.source-is, sym full) c.pieces.invariant.read
  | then-pieces-test+in-Ok+then-count-eq0 w ↦
      let room : length w.read.new.buf ≡ min w.min-room.result 4096 = w.read.auto.buf ∙ (length-take w.min-room.result c.pieces.buffer ∙ ap (min w.min-room.result) c.pieces.invariant.buffer) in
      rw w.source-is (all_read (g.S.Source.left c.args.source.now) (g.S.Source.left c.pieces.source) (g.S.Source.left w.read.new.self)
      c.pieces.script.items w.read.new.buf (vec_len c.pieces.script) w.in-Ok.count 16777217 c.pieces.invariant.read w.in-Ok.ensures.moved w.if-count-eq0.true (omega arith) (omega arith))
]

pub pieces-preserved : goal.pieces-preserved
pieces-preserved g c =
    let buf = c.read.new.buf in
    let rest = drop c.min-room.result c.pieces.buffer in
    let kept : length buf ≡ length (take c.min-room.result c.pieces.buffer) = c.read.auto.buf in
    let room : length buf ≡ min c.min-room.result 4096 =
    kept ∙ (length-take c.min-room.result c.pieces.buffer ∙ ap (min c.min-room.result) c.pieces.invariant.buffer) in
    let whole : length (buf ++ rest) ≡ 4096 =
    omega (arith, length-append buf rest, length-drop c.min-room.result c.pieces.buffer) in
    let bound : c.in-Ok.count ≤ length (take c.min-room.result c.pieces.buffer) = c.in-Ok.ensures.bound in
    let fits : c.in-Ok.count ≤ length buf = omega arith in
    let len : vec_len c.extend_from_slice.new.self ≡ vec_len c.pieces.script + c.in-Ok.count =
    omega (arith, length-take c.in-Ok.count (buf ++ rest), c.in-Ok-extend_from_slice.ensures.len) in
    let more : IsReadTo (g.S.Source.left c.args.source.now) (g.S.Source.left c.read.new.self) (c.pieces.script.items ++ take c.in-Ok.count (buf ++ rest)) (vec_len c.pieces.script + c.in-Ok.count) =
    more_read (g.S.Source.left c.args.source.now) (g.S.Source.left c.pieces.source) (g.S.Source.left c.read.new.self)
    c.pieces.script.items buf rest (vec_len c.pieces.script) c.in-Ok.count c.pieces.invariant.read c.in-Ok.ensures.moved fits in
    record {
      within = omega arith;
      buffer = whole;
      read = rw (len, c.in-Ok-extend_from_slice.ensures.items) more;
      faults = omega arith;
    }

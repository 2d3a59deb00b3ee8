use Rattle.std.proofs.Common.{◌≡◌, ◌∙◌, ◌-◌, ◌≤◌, length, take, drop, arith}
use Rattle.std.proofs.lemmas.List.{length-drop, take_all}
use Rattle.docdb_run.proofs.Pieces.{more_written}
use Rattle.docdb_run.proofs.output.write_all.Goals as goal

pub pieces-preserved : goal.pieces-preserved
pieces-preserved g c =
    let bytes = c.args.bytes.now in
    let done = c.pieces.done in
    let rest : take (length bytes - done) (drop done bytes) ≡ drop done bytes =
    take_all _ _ (omega (arith, length-drop done bytes)) in
    let bound : c.in-Ok.count ≤ length (take (length bytes - done) (drop done bytes)) = c.in-Ok.ensures.bound in
    let short : c.in-Ok.count ≤ length (drop done bytes) = rw rest at bound in
    record {
      within = omega (arith, length-drop done bytes);
      told = c.write.ensures.told ∙ c.pieces.invariant.told;
      written = more_written (g.K.Sink.taken c.args.out.now) (g.K.Sink.taken c.pieces.out) (g.K.Sink.taken c.write.new.self) bytes
          (take (length bytes - done) (drop done bytes)) done c.in-Ok.count c.pieces.invariant.written c.in-Ok.ensures.moved rest;
      faults = omega arith;
      stalls = omega arith;
    }

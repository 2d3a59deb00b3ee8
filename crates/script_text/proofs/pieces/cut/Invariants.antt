use Rattle.std.proofs.Common.{◌≡◌, take, drop}
use Rattle.script_text.specs.Words.{pieces_in, pieces_of}
use Rattle.script_text.proofs.Parting.{onto_front}
use Rattle.script_text.proofs.pieces.cut.Given as goal

abbrev pub invariant-bytes : goal.invariant-bytes
invariant-bytes l = onto_front (take l.i l.bytes) (pieces_in l.marks (drop l.i l.bytes) l.within) ≡ pieces_of l.marks l.bytes

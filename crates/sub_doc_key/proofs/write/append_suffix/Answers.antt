use Rattle.std.proofs.Common.{◌≡◌, ◌∷◌, [], ◌++◌, ℕ, List, ap, ◌∙◌}
use Rattle.std.specs.Int.{w64, bit_not, to_be_bytes}
use Rattle.sub_doc_key.specs.Spelling.{downward}
use Rattle.sub_doc_key.proofs.Fronts.{three_pieces}
use Rattle.sub_doc_key.proofs.write.append_suffix.Goals as goal

pub returns-clause-ok : goal.returns-clause-ok
returns-clause-ok c =
    let time : c.to_be_bytes.result ≡ downward w64 c.args.at = c.to_be_bytes.ensures ∙ ap (λ (n : ℕ). to_be_bytes w64 (bit_not w64 n)) c.bits.ensures in
    three_pieces _ _ _ _ (0x23 ∷ []) c.to_be_bytes.result c.to_be_bytes-2.result c.in_ok-push.ensures.items c.in_ok-extend_from_slice.ensures.items c.in_ok-extend_from_slice-2.ensures.items
    ∙ ap (λ (t : List ℕ). c.args.out.now.items ++ 0x23 ∷ (t ++ c.to_be_bytes-2.result)) time
    ∙ ap (λ (t : List ℕ). c.args.out.now.items ++ 0x23 ∷ (downward w64 c.args.at ++ t)) c.to_be_bytes-2.ensures

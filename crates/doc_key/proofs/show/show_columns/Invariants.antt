use Rattle.std.proofs.Common.{◌≡◌, ◌++◌, ◌∷◌, take, All, IsAscii}
use Rattle.std.specs.List.{flat_map}
use Rattle.doc_value.specs.declared.primitive.Primitive.{Primitive}
use Rattle.doc_value.specs.Showing.{shown}
use Rattle.doc_key.proofs.show.show_columns.Given as goal

abbrev pub invariant-loop-column : goal.invariant-loop-column
invariant-loop-column l = record {
  text : l.out.items ≡ l.initial.out.items ++ flat_map (λ d. 44 ∷ shown d) (take l.column-index l.others);
  ascii : All (λ (d : Primitive). IsAscii (shown d)) (take l.column-index l.others);
}

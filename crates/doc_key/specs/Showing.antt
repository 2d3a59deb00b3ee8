-- The text of document keys, as scripts and reports show them.
use Rattle.std.specs.Prelude.{ℕ, List, [], ◌∷◌, ◌++◌}
use Rattle.std.specs.List.{flat_map}
use Rattle.doc_value.specs.declared.primitive.Primitive.{Primitive}
use Rattle.doc_value.specs.Showing as value
use Rattle.doc_key.specs.declared.doc_key.DocKey.{DocKey}

-- the first column, and each other behind a comma
abbrev pub shown_columns : List Primitive → List ℕ
shown_columns [] = []
shown_columns (c ∷ cs) = value.shown c ++ flat_map (λ d. 44 ∷ value.shown d) cs

-- [, the hashed columns, ;, the range columns, ]
abbrev pub shown : DocKey → List ℕ
shown key = 91 ∷ (shown_columns key.hashed ++ 59 ∷ (shown_columns key.range ++ 93 ∷ []))

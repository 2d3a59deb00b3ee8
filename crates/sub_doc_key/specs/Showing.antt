-- The text of paths, as scripts and reports show them.
use Rattle.std.specs.Prelude.{ℕ, List, [], ◌∷◌, ◌++◌, Result, Ok, Err}
use Rattle.std.specs.List.{flat_map}
use Rattle.doc_path.specs.Path.{Parts}
use Rattle.doc_value.specs.declared.key_refusal.KeyRefusal.{KeyRefusal}
use Rattle.doc_value.specs.declared.primitive.Primitive.{Primitive}
use Rattle.doc_value.specs.Reading.{value_of}
use Rattle.doc_value.specs.Showing as of_value
use Rattle.doc_key.specs.declared.doc_key.DocKey.{DocKey}
use Rattle.doc_key.specs.Reading.{key_of}
use Rattle.doc_key.specs.Showing as of_key

-- a document key, and behind a / each subkey
abbrev pub shown : DocKey → List Primitive → List ℕ
shown key subkeys = of_key.shown key ++ flat_map (λ s. 47 ∷ of_value.shown s) subkeys

-- The text of a part is that of the key or value which it spells. Bytes that spell none have no text.
abbrev pub shown_key : Result DocKey KeyRefusal → List ℕ
shown_key (Ok key) = of_key.shown key
shown_key (Err refusal) = []

abbrev pub shown_value : Result Primitive KeyRefusal → List ℕ
shown_value (Ok value) = of_value.shown value
shown_value (Err refusal) = []

abbrev pub shown_path : Parts → List ℕ
shown_path [] = []
shown_path (first ∷ subkeys) = shown_key (key_of first) ++ flat_map (λ s. 47 ∷ shown_value (value_of s)) subkeys

use Rattle.std.proofs.Common.{◌∙◌, ap, sym, append-nil, List, [], ℕ, map, refl}
use Rattle.std.specs.Prelude.{option_map}
use Rattle.std.proofs.lemmas.List.Elements.{All-head, All-tail}
use Rattle.doc_key.specs.Showing as of_key_text
use Rattle.doc_key.specs.Spelling as of_key
use Rattle.doc_value.specs.Reading.{IsBytes}
use Rattle.doc_value.specs.Spelling as of_value
use Rattle.script_text.specs.Terms.{document_of}
use Rattle.script_text.proofs.InBytes.{key_bytes, subkeys_bytes, value_bytes}
use Rattle.script_text.proofs.Showing.{value_shown}
use Rattle.script_text.proofs.ShownPaths.{document_again, placed_word, readable}
use Rattle.script_text.proofs.laws.what_is_shown_is_read.Goals as goal

pub returns : goal.returns
returns c = record {
  values = λ v fits is bytes. ap (option_map of_value.spelling) ((value_shown v fits (value_bytes v bytes)).column is);
  subkeys = λ v fits is bytes. (value_shown v fits (value_bytes v bytes)).subkey is;
  keys = λ key fits has bytes.
      ap (λ (t : List ℕ). document_of t) (sym (append-nil (of_key_text.shown key)))
      ∙ document_again (record { key = key; subkeys = [] }) (readable (record { key = key; subkeys = [] }) fits tt (key_bytes key bytes) tt (rw has refl));
  paths = λ d key subkeys is bytes.
      document_again d (readable d key subkeys
      (key_bytes d.key (All-head IsBytes (of_key.spelling d.key) (map of_value.spelling d.subkeys) bytes))
      (subkeys_bytes d.subkeys (All-tail IsBytes (of_key.spelling d.key) (map of_value.spelling d.subkeys) bytes)) is);
  places = λ config place is bytes. (placed_word config place is bytes).again;
}

use Rattle.std.proofs.Common.{◌≡◌, ◌++◌, All, flat_map, map, take}
use Rattle.doc_value.specs.Reading.{IsBytes}
use Rattle.txn_data.specs.declared.place.Place.{Place}
use Rattle.script_text.specs.Written.{behind_space, path_word}
use Rattle.script_text.proofs.written_words.write_places.Given as goal

abbrev pub invariant-places : goal.invariant-places
invariant-places l = record {
  text : l.out.items ≡ l.fn.out.items ++ flat_map behind_space (map path_word (take l.place-index l.places));
  bytes : All (λ (p : Place). All IsBytes p.path) (take l.place-index l.places);
}

use Rattle.std.proofs.Common.{◌++◌, ◌∷◌, [], ◌∙◌, All, List, flat_map, map, sym, ap, subst, take}
use Rattle.std.proofs.lemmas.List.{flat_map_more, map_more}
use Rattle.std.proofs.lemmas.List.Elements.{All-more}
use Rattle.doc_value.specs.Reading.{IsBytes}
use Rattle.txn_data.specs.declared.place.Place.{Place}
use Rattle.script_text.specs.Lines.{Text}
use Rattle.script_text.specs.Written.{behind_space, path_word}
use Rattle.script_text.proofs.written_words.write_places.Goals as goal

pub places-preserved : goal.places-preserved
places-preserved c =
    let places = c.args.places.now in
    let k = c.places.place-index in
    let place = c.place-item.result in
    let old = c.args.out.now.items in
    let so_far = map path_word (take k places) in
    record {
      text =
          c.in_ok-write_place.ensures.ok
          ∙ (ap (λ (t : Text). t ++ behind_space (path_word place)) c.places.invariant.text
          ∙ (flat_map_more behind_space old so_far (path_word place)
          ∙ ap (λ (ws : List Text). old ++ flat_map behind_space ws)
          (sym (map_more path_word places k place c.places-test.true ∙ ap (λ (p : Place). so_far ++ path_word p ∷ []) (sym c.place-item.is)))));
      bytes =
          All-more (λ (p : Place). All IsBytes p.path) places k place c.places-test.true c.places.invariant.bytes
          (subst (λ (p : Place). All IsBytes p.path) c.place-item.is c.in_ok-write_place.ensures.bytes);
    }

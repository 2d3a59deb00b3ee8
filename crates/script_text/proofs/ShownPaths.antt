-- The text of a path is read as this path, and the text of a place as this place.
use Rattle.std.proofs.Common.{◌≡◌, ℕ, ◌+◌, ◌<◌, Bool, true, false, ◌&&◌, List, [], ◌∷◌, ◌++◌, length, map, Option, Some, nat_eq, nat_le, flat_map, All, codes, bytes_eq, refl, sym, ap, subst, ◌∙◌, arith}
use Rattle.std.specs.List.{AllByRecursion, list_all}
use Rattle.std.specs.Prelude.{option_map}
use Rattle.std.proofs.lemmas.Bool.{and_parts}
use Rattle.std.proofs.lemmas.List.{append-nil, append_assoc}
use Rattle.std.proofs.lemmas.List.Elements.{All-head, All-tail}
use Rattle.doc_key.specs.Showing as of_key_text
use Rattle.doc_key.specs.Spelling as of_key
use Rattle.doc_value.specs.declared.primitive.Primitive.{Primitive}
use Rattle.doc_value.specs.declared.primitive.Primitive.TheVariants.{Int, Text as TextCase, False, True, Column}
use Rattle.doc_value.specs.Reading.{IsBytes}
use Rattle.doc_value.specs.Showing as of_value_text
use Rattle.doc_value.specs.Spelling as of_value
use Rattle.doc_value.proofs.Values.{all_again}
use Rattle.sub_doc_key.specs.Showing as of_path
use Rattle.sub_doc_key.specs.Spelling.{most_subkeys}
use Rattle.sub_doc_key.proofs.Texts.{shown_is}
use Rattle.txn_data.specs.declared.config.Config.{Config}
use Rattle.txn_data.specs.declared.place.Place.{Place}
use Rattle.script_text.specs.declared.document.Document.{Document}
use Rattle.script_text.specs.declared.marks.Marks.TheVariants.{OfLine, OfPath}
use Rattle.script_text.specs.declared.part_kind.PartKind.TheVariants.{OfKey, BehindKey}
use Rattle.script_text.specs.declared.within.Within.TheVariants.{Outside}
use Rattle.script_text.specs.Lines.{Text}
use Rattle.script_text.specs.Saying.{IsColumn, IsPlaced}
use Rattle.script_text.specs.Terms.{Group, columns_to, document_behind, document_of, group_to, is_document, onto_group}
use Rattle.script_text.specs.Terms.{path_for, place_for, place_of, subkeys_in, value_of}
use Rattle.script_text.specs.Words.{Piece, onto_piece, parts, pieces_in, pieces_of}
use Rattle.script_text.specs.Written.{path_word, value_word}
use Rattle.script_text.proofs.InBytes.{IsOfBytes, KeyIsOfBytes, key_bytes, subkeys_bytes, value_bytes}
use Rattle.script_text.proofs.Parting.{onto_front}
use Rattle.script_text.proofs.Showing.{IsShown, value_shown}
use Rattle.script_text.proofs.Staying.{IsWord, Stands, piece_front, piece_last, piece_marked, stands_append}

abbrev shown : Primitive → Text
shown v = of_value_text.shown v

abbrev behind_comma : Primitive → Text
behind_comma v = 44 ∷ shown v

abbrev behind_slash : Primitive → Text
behind_slash v = 47 ∷ shown v

abbrev column_is : Primitive → Bool
column_is v = of_key.is_column v

-- columns and subkeys that have texts
abbrev AreShown : List Primitive → Type 0
AreShown vs = AllByRecursion (λ v. IsShown v (shown v)) vs

pub are_shown : (vs : List Primitive) → AllByRecursion of_value.IsInRange vs → AllByRecursion IsOfBytes vs → AreShown vs
are_shown [] fit are = tt
are_shown (v ∷ vs) fit are = (value_shown v fit.0 are.0, are_shown vs fit.1 are.1)

-- ---- groups

abbrev group : List Primitive → List Piece → Option Group
group values rest = Some (record { values = values; rest = rest })

-- columns up to the mark that ends them
group_again : (ends : ℕ) (c : Primitive) (cs : List Primitive) (rest : Text) → nat_eq 44 ends ≡ false → nat_eq ends ends ≡ true
    → parts OfPath ends ≡ true → AreShown (c ∷ cs) → list_all column_is (c ∷ cs) ≡ true
    → group_to OfKey 44 ends (pieces_of OfPath (shown c ++ (flat_map behind_comma cs ++ ends ∷ rest))) ≡ group (c ∷ cs) (pieces_of OfPath rest)
unfolding group_to
group_again ends c [] rest apart same mark are is =
    let first = are.0 in
    let read = first.column (and_parts (column_is c) (list_all column_is []) is).0 in
    ap (group_to OfKey 44 ends) (piece_marked OfPath (shown c) rest ends ((first.stands OfPath).stays) mark)
    ∙ rw (read, same) refl
group_again ends c (d ∷ ds) rest apart same mark are is =
    let first = are.0 in
    let both = and_parts (column_is c) (list_all column_is (d ∷ ds)) is in
    let read = first.column both.0 in
    let more = flat_map behind_comma ds ++ ends ∷ rest in
    let regrouped : (shown d ++ flat_map behind_comma ds) ++ ends ∷ rest ≡ shown d ++ more = append_assoc (shown d) (flat_map behind_comma ds) (ends ∷ rest) in
    ap (λ (t : Text). group_to OfKey 44 ends (pieces_of OfPath (shown c ++ 44 ∷ t))) regrouped
    ∙ (ap (group_to OfKey 44 ends) (piece_marked OfPath (shown c) (shown d ++ more) 44 ((first.stands OfPath).stays) refl)
    ∙ (rw (read, apart) (ap (onto_group (c ∷ [])) (group_again ends d ds rest apart same mark are.1 both.1))))

-- subkeys up to the end of the text
subkeys_group : (s : Primitive) (ss : List Primitive) → AreShown (s ∷ ss) → list_all of_value.has_spelling (s ∷ ss) ≡ true
    → group_to BehindKey 47 0 (pieces_of OfPath (shown s ++ flat_map behind_slash ss)) ≡ group (s ∷ ss) []
unfolding group_to
subkeys_group s [] are have =
    let first = are.0 in
    let read = first.subkey (and_parts (of_value.has_spelling s) (list_all of_value.has_spelling []) have).0 in
    ap (λ (t : Text). group_to BehindKey 47 0 (pieces_of OfPath t)) (append-nil (shown s))
    ∙ (ap (group_to BehindKey 47 0) (piece_last OfPath (shown s) ((first.stands OfPath).stays))
    ∙ rw read refl)
subkeys_group s (t ∷ ts) are have =
    let first = are.0 in
    let both = and_parts (of_value.has_spelling s) (list_all of_value.has_spelling (t ∷ ts)) have in
    let read = first.subkey both.0 in
    ap (group_to BehindKey 47 0) (piece_marked OfPath (shown s) (shown t ++ flat_map behind_slash ts) 47 ((first.stands OfPath).stays) refl)
    ∙ rw read (ap (onto_group (s ∷ [])) (subkeys_group t ts are.1 both.1))

-- a group that does not begin with a mark has a column
not_none : (ends b : ℕ) (pieces : List Piece) → columns_to ends (onto_piece b pieces) ≡ group_to OfKey 44 ends (onto_piece b pieces)
unfolding group_to
not_none ends b [] = refl
not_none ends b (p ∷ more) = refl

not_empty : (ends : ℕ) (text : Text) (pieces : List Piece) → 0 < length text → columns_to ends (onto_front text pieces) ≡ group_to OfKey 44 ends (onto_front text pieces)
not_empty ends [] pieces some = absurd (omega arith)
not_empty ends (b ∷ text) pieces some = not_none ends b (onto_front text pieces)

some_column : (ends : ℕ) (text rest : Text) → Stands OfPath Outside text Outside → 0 < length text
    → columns_to ends (pieces_of OfPath (text ++ rest)) ≡ group_to OfKey 44 ends (pieces_of OfPath (text ++ rest))
some_column ends text rest stands some =
    let front = piece_front OfPath text rest stands.stays in
    ap (columns_to ends) front ∙ (not_empty ends text (pieces_of OfPath rest) some ∙ sym (ap (group_to OfKey 44 ends) front))

columns_again : (ends : ℕ) (cs : List Primitive) (rest : Text) → nat_eq 44 ends ≡ false → nat_eq ends ends ≡ true → parts OfPath ends ≡ true
    → AreShown cs → list_all column_is cs ≡ true
    → columns_to ends (pieces_of OfPath (of_key_text.shown_columns cs ++ ends ∷ rest)) ≡ group cs (pieces_of OfPath rest)
columns_again ends [] rest apart same mark are is =
    ap (columns_to ends) (piece_marked OfPath [] rest ends refl mark) ∙ rw same refl
columns_again ends (c ∷ cs) rest apart same mark are is =
    let regrouped : (shown c ++ flat_map behind_comma cs) ++ ends ∷ rest ≡ shown c ++ (flat_map behind_comma cs ++ ends ∷ rest) =
    append_assoc (shown c) (flat_map behind_comma cs) (ends ∷ rest) in
    ap (λ (t : Text). columns_to ends (pieces_of OfPath t)) regrouped
    ∙ (some_column ends (shown c) (flat_map behind_comma cs ++ ends ∷ rest) (are.0.stands OfPath) are.0.some
    ∙ group_again ends c cs rest apart same mark are is)

subkeys_again : (ss : List Primitive) → AreShown ss → list_all of_value.has_spelling ss ≡ true
    → subkeys_in (pieces_of OfPath (flat_map behind_slash ss)) ≡ Some ss
unfolding pieces_in
subkeys_again [] are have = refl
subkeys_again (s ∷ ss) are have = ap (option_map (λ (g : Group). g.values)) (subkeys_group s ss are have)

-- ---- documents

-- a document that has a text
pub record IsReadable (d : Document) : Type 0 where
  pub hashed : AreShown d.key.hashed
  pub range : AreShown d.key.range
  pub subkeys : AreShown d.subkeys
  pub is : is_document d ≡ true

pub readable : (d : Document) → of_key.IsInRange d.key → AllByRecursion of_value.IsInRange d.subkeys → KeyIsOfBytes d.key → AllByRecursion IsOfBytes d.subkeys
    → is_document d ≡ true → IsReadable d
readable d key subkeys key_are subkeys_are is = record {
  hashed = are_shown d.key.hashed key.hashed key_are.hashed;
  range = are_shown d.key.range key.range key_are.range;
  subkeys = are_shown d.subkeys subkeys subkeys_are;
  is = is;
}

-- what is_document says
pub record Parts (d : Document) : Type 0 where
  pub key : of_key.has_spelling d.key ≡ true
  pub hashed : list_all column_is d.key.hashed ≡ true
  pub range : list_all column_is d.key.range ≡ true
  pub subkeys : list_all of_value.has_spelling d.subkeys ≡ true

pub parts_of_document : (d : Document) → is_document d ≡ true → Parts d
parts_of_document d is =
    let hashed = d.key.hashed in
    let range = d.key.range in
    let both = and_parts (of_key.has_spelling d.key) (list_all of_value.has_spelling d.subkeys && nat_le (length d.subkeys) most_subkeys) is in
    let few = and_parts ((list_all column_is hashed && list_all column_is range) && nat_le 1 (length hashed + length range)) (nat_le (length hashed + length range) of_key.most_columns) both.0 in
    let some = and_parts (list_all column_is hashed && list_all column_is range) (nat_le 1 (length hashed + length range)) few.0 in
    let each = and_parts (list_all column_is hashed) (list_all column_is range) some.0 in
    record {
      key = both.0;
      hashed = each.0;
      range = each.1;
      subkeys = (and_parts (list_all of_value.has_spelling d.subkeys) (nat_le (length d.subkeys) most_subkeys) both.1).0;
    }

abbrev text_of : Document → Text
text_of d = of_path.shown d.key d.subkeys

-- the text behind the first bracket
abbrev inner : Document → Text
inner d = of_key_text.shown_columns d.key.hashed ++ 59 ∷ (of_key_text.shown_columns d.key.range ++ 93 ∷ flat_map behind_slash d.subkeys)

inner_is : (d : Document) → text_of d ≡ 91 ∷ inner d
inner_is d =
    let hashed = of_key_text.shown_columns d.key.hashed in
    let range = of_key_text.shown_columns d.key.range in
    let tail = flat_map behind_slash d.subkeys in
    let once : (hashed ++ 59 ∷ (range ++ 93 ∷ [])) ++ tail ≡ hashed ++ 59 ∷ ((range ++ 93 ∷ []) ++ tail) = append_assoc hashed (59 ∷ (range ++ 93 ∷ [])) tail in
    let twice : (range ++ 93 ∷ []) ++ tail ≡ range ++ 93 ∷ tail = append_assoc range (93 ∷ []) tail in
    ap (λ (t : Text). 91 ∷ t) (once ∙ ap (λ (t : Text). hashed ++ 59 ∷ t) twice)

-- the text of a document is read as this document
pub document_again : (d : Document) → IsReadable d → document_of (text_of d) ≡ Some d
unfolding pieces_in
document_again d r =
    let parts = parts_of_document d r.is in
    let tail = flat_map behind_slash d.subkeys in
    let hashed = columns_again 59 d.key.hashed (of_key_text.shown_columns d.key.range ++ 93 ∷ tail) refl refl refl r.hashed parts.hashed in
    let range = columns_again 93 d.key.range tail refl refl refl r.range parts.range in
    let subkeys = subkeys_again d.subkeys r.subkeys parts.subkeys in
    let is = r.is in
    ap (λ (t : Text). document_of t) (inner_is d) ∙ behind hashed range subkeys is
  where
    behind : columns_to 59 (pieces_of OfPath (inner d)) ≡ group d.key.hashed (pieces_of OfPath (of_key_text.shown_columns d.key.range ++ 93 ∷ flat_map behind_slash d.subkeys))
        → columns_to 93 (pieces_of OfPath (of_key_text.shown_columns d.key.range ++ 93 ∷ flat_map behind_slash d.subkeys)) ≡ group d.key.range (pieces_of OfPath (flat_map behind_slash d.subkeys))
        → subkeys_in (pieces_of OfPath (flat_map behind_slash d.subkeys)) ≡ Some d.subkeys → is_document d ≡ true
        → document_behind (pieces_of OfPath (inner d)) ≡ Some d
    behind hashed range subkeys is = rw (hashed, range, subkeys, is) refl

-- ---- how they stand in lines

columns_stand : (cs : List Primitive) → AreShown cs → Stands OfLine Outside (flat_map behind_comma cs) Outside
columns_stand [] are = record { stays = refl; plain = refl }
columns_stand (c ∷ cs) are =
    stands_append OfLine Outside Outside Outside (44 ∷ shown c) (flat_map behind_comma cs)
    (record { stays = (are.0.stands OfLine).stays; plain = (are.0.stands OfLine).plain }) (columns_stand cs are.1)

shown_columns_stand : (cs : List Primitive) → AreShown cs → Stands OfLine Outside (of_key_text.shown_columns cs) Outside
shown_columns_stand [] are = record { stays = refl; plain = refl }
shown_columns_stand (c ∷ cs) are = stands_append OfLine Outside Outside Outside (shown c) (flat_map behind_comma cs) (are.0.stands OfLine) (columns_stand cs are.1)

subkeys_stand : (ss : List Primitive) → AreShown ss → Stands OfLine Outside (flat_map behind_slash ss) Outside
subkeys_stand [] are = record { stays = refl; plain = refl }
subkeys_stand (s ∷ ss) are =
    stands_append OfLine Outside Outside Outside (47 ∷ shown s) (flat_map behind_slash ss)
    (record { stays = (are.0.stands OfLine).stays; plain = (are.0.stands OfLine).plain }) (subkeys_stand ss are.1)

behind_byte : (b : ℕ) (text : Text) → Stands OfLine Outside (b ∷ []) Outside → Stands OfLine Outside text Outside → Stands OfLine Outside (b ∷ text) Outside
behind_byte b text p q = stands_append OfLine Outside Outside Outside (b ∷ []) text p q

inner_stands : (d : Document) → IsReadable d → Stands OfLine Outside (91 ∷ inner d) Outside
inner_stands d r =
    let tail = flat_map behind_slash d.subkeys in
    let range = of_key_text.shown_columns d.key.range in
    let bracket = behind_byte 93 tail (record { stays = refl; plain = refl }) (subkeys_stand d.subkeys r.subkeys) in
    let second = stands_append OfLine Outside Outside Outside range (93 ∷ tail) (shown_columns_stand d.key.range r.range) bracket in
    let parted = behind_byte 59 (range ++ 93 ∷ tail) (record { stays = refl; plain = refl }) second in
    let first = stands_append OfLine Outside Outside Outside (of_key_text.shown_columns d.key.hashed) (59 ∷ (range ++ 93 ∷ tail)) (shown_columns_stand d.key.hashed r.hashed) parted in
    behind_byte 91 (inner d) (record { stays = refl; plain = refl }) first

-- ---- places and values

-- the word of a place: it is read as this place, and is not the word that stands before paths
pub record IsPathWord (config : Config) (place : Place) (word : Text) : Type 0 where
  pub is : IsWord word
  pub again : place_of config.tablets word ≡ Some place
  pub apart : bytes_eq word (codes "norestart") ≡ false

document_word : (config : Config) (d : Document) → IsReadable d → IsPathWord config (place_for config.tablets d) (91 ∷ inner d)
document_word config d r = record {
  is = record { stands = inner_stands d r; some = omega arith };
  again = ap (option_map (place_for config.tablets)) (ap (λ (t : Text). document_of t) (sym (inner_is d)) ∙ document_again d r);
  apart = refl;
}

pub placed_word : (config : Config) (place : Place) → IsPlaced config place → All IsBytes place.path → IsPathWord config place (path_word place)
placed_word config place p bytes =
    let d : Document = record { key = p.key; subkeys = p.subkeys } in
    let of_bytes : All IsBytes (path_for d) = subst (λ (q : Place). All IsBytes q.path) p.is bytes in
    let first = key_bytes p.key (All-head IsBytes (of_key.spelling p.key) (map of_value.spelling p.subkeys) of_bytes) in
    let others = subkeys_bytes p.subkeys (All-tail IsBytes (of_key.spelling p.key) (map of_value.spelling p.subkeys) of_bytes) in
    let r = readable d p.key_in_range p.subkeys_in_range first others p.has in
    let parts = parts_of_document d p.has in
    let is : of_path.shown_path (path_for d) ≡ 91 ∷ inner d = shown_is p.key p.subkeys p.key_in_range parts.key p.subkeys_in_range parts.subkeys ∙ inner_is d in
    subst (λ (q : Place). IsPathWord config q (path_word q)) (sym p.is)
    (subst (λ (t : Text). IsPathWord config (place_for config.tablets d) t) (sym is) (document_word config d r))

-- the word of a value
pub record IsValueWord (bytes : List ℕ) (word : Text) : Type 0 where
  pub is : IsWord word
  pub again : value_of word ≡ Some bytes

pub column_word : (bytes : List ℕ) → IsColumn bytes → IsBytes bytes → IsValueWord bytes (value_word bytes)
column_word bytes c are = subst (λ (bs : List ℕ). IsValueWord bs (value_word bs)) (sym c.is) (of_value_word c.value c.in_range c.column (subst IsBytes c.is are))
  where
    has : (v : Primitive) → of_key.is_column v ≡ true → of_value.has_spelling v ≡ true
    has False e = refl
    has (Int z) e = refl
    has (Column n) e = refl
    has (TextCase bytes) e = e
    has True e = refl

    of_value_word : (v : Primitive) → of_value.IsInRange v → of_key.is_column v ≡ true → IsBytes (of_value.spelling v) → IsValueWord (of_value.spelling v) (value_word (of_value.spelling v))
    of_value_word v fits column are =
        let s = value_shown v fits (value_bytes v are) in
        let is = ap of_path.shown_value (all_again v fits (has v column)) in
        subst (λ (t : Text). IsValueWord (of_value.spelling v) t) (sym is) (record {
          is = record { stands = s.stands OfLine; some = s.some };
          again = ap (option_map of_value.spelling) (s.column column);
        })

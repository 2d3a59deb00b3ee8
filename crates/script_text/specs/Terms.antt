-- Numbers, values and paths, as the words of a script spell them.
use Rattle.std.specs.Prelude.{◌^◌, ◌+◌, ◌-◌, ◌*◌, ◌%◌, ◌&&◌, ◌||◌, ℕ, ℤ, pos, negsuc, Bool, false, not, List, [], ◌∷◌, ◌++◌, length, map}
use Rattle.std.specs.Prelude.{Option, Some, None, option_map, option_and_then, nat_eq, nat_le, if◌then◌else◌, codes}
use Rattle.std.specs.List.{fold, list_all}
use Rattle.std.specs.Str.{bytes_eq}
use Rattle.doc_value.specs.declared.primitive.Primitive.{Primitive}
use Rattle.doc_value.specs.declared.primitive.Primitive.TheVariants.{Int, Text as TextCase, False, True, Column}
use Rattle.doc_value.specs.Spelling as of_value
use Rattle.doc_key.specs.Spelling as of_key
use Rattle.sub_doc_key.specs.Spelling.{most_subkeys}
use Rattle.partition_map.specs.Partition.{owner}
use Rattle.txn_data.specs.declared.place.Place.{Place}
use Rattle.script_text.specs.declared.document.Document.{Document}
use Rattle.script_text.specs.declared.in_string.InString.{InString}
use Rattle.script_text.specs.declared.in_string.InString.TheVariants.{Plain, Escape, First, Second}
use Rattle.script_text.specs.declared.marks.Marks.TheVariants.{OfPath}
use Rattle.script_text.specs.declared.part_kind.PartKind.{PartKind}
use Rattle.script_text.specs.declared.part_kind.PartKind.TheVariants.{OfKey, BehindKey}
use Rattle.script_text.specs.declared.string_step.StringStep.{StringStep}
use Rattle.script_text.specs.declared.string_step.StringStep.TheVariants.{Goes, Gives, Ends, Wrong}
use Rattle.script_text.specs.Lines.{Text}
use Rattle.script_text.specs.Words.{Piece, is_empty, pieces_of}

-- ---- numbers

abbrev pub is_digit : ℕ → Bool
is_digit b = nat_le 48 b && nat_le b 57

-- the text begins with another byte than 0
abbrev pub leads : Text → Bool
leads [] = false
leads (b ∷ text) = not (nat_eq b 48)

-- decimal digits without a leading zero
abbrev pub is_whole : Text → Bool
is_whole text = list_all is_digit text && (nat_eq (length text) 1 || leads text)

abbrev pub decimal_value : Text → ℕ
decimal_value text = fold (λ n b. n * 10 + (b - 48)) 0 text

-- the whole number of a text, where it lies from low to high
abbrev pub number_in : ℕ → ℕ → Text → Option ℕ
number_in low high text =
    if is_whole text && (nat_le low (decimal_value text) && nat_le (decimal_value text) high)
    then Some (decimal_value text) else None

-- the integer of 64 bits of a text: a whole number, or one from 1 behind a minus
abbrev pub integer_of : Text → Option ℤ
integer_of [] = None
integer_of (b ∷ text) =
    if nat_eq b 45 then option_map (λ n. negsuc (n - 1)) (number_in 1 (2 ^ 63) text)
    else option_map pos (number_in 0 (2 ^ 63 - 1) (b ∷ text))

-- ---- values

-- a lower-case hexadecimal digit
abbrev pub hex_value : ℕ → Option ℕ
hex_value b =
    if is_digit b then Some (b - 48)
    else (if nat_le 97 b && nat_le b 102 then Some (b - 87) else None)

-- What a byte of a string does. A backslash stands before a quote, a backslash, or an x and two digits. The other
-- characters stand for their bytes.
abbrev pub first_digit : Option ℕ → StringStep
first_digit None = Wrong
first_digit (Some high) = Goes (Second high)

abbrev pub second_digit : ℕ → Option ℕ → StringStep
second_digit high None = Wrong
second_digit high (Some low) = Gives (high % 16 * 16 + low)

abbrev pub step : InString → ℕ → StringStep
step Plain b = if nat_eq b 34 then Ends else (if nat_eq b 92 then Goes Escape else Gives b)
step Escape b = if nat_eq b 120 then Goes First else (if nat_eq b 34 || nat_eq b 92 then Gives b else Wrong)
step First b = first_digit (hex_value b)
step (Second high) b = second_digit high (hex_value b)

-- the same bytes behind those that were read before
abbrev pub onto : List ℕ → Option (List ℕ) → Option (List ℕ)
onto front rest = option_map (λ bytes. front ++ bytes) rest

abbrev pub after_step : StringStep → Bool → (InString → Option (List ℕ)) → Option (List ℕ)
after_step (Goes next) last more = more next
after_step (Gives byte) last more = onto (byte ∷ []) (more Plain)
after_step Ends last more = if last then Some [] else None
after_step Wrong last more = None

-- the bytes of a string, from behind its first quote to its last one, which ends the text
unfoldable pub string_in : Text → InString → Option (List ℕ)
string_in [] at = None
string_in (b ∷ text) at = after_step (step at b) (is_empty text) (λ next. string_in text next)

abbrev pub if_spelled : Primitive → Option Primitive
if_spelled value = if of_value.has_spelling value then Some value else None

-- a string in quotes, `true`, `false`, or an integer
abbrev pub column_of : Text → Option Primitive
column_of [] = None
column_of (b ∷ text) =
    if nat_eq b 34 then option_and_then (λ bytes. if_spelled (TextCase bytes)) (string_in text Plain)
    else if bytes_eq (b ∷ text) (codes "true") then Some True
    else if bytes_eq (b ∷ text) (codes "false") then Some False
    else option_map Int (integer_of (b ∷ text))

-- the bytes of a value, which is a column
abbrev pub value_of : Text → Option (List ℕ)
value_of text = option_map of_value.spelling (column_of text)

-- a column, or the number of one behind a #
abbrev pub subkey_of : Text → Option Primitive
subkey_of [] = None
subkey_of (b ∷ text) =
    if nat_eq b 35 then option_map Column (number_in 0 (2 ^ 32 - 1) text) else column_of (b ∷ text)

-- a part of a path, by its kind
abbrev pub part_of : PartKind → Text → Option Primitive
part_of OfKey text = column_of text
part_of BehindKey text = subkey_of text

-- ---- paths

-- the values of a group, and the pieces behind it
pub record Group : Type 0 where
  pub values : List Primitive
  pub rest : List Piece

-- the same group behind values that were read before
abbrev pub onto_group : List Primitive → Option Group → Option Group
onto_group front group = option_map (λ (g : Group). record g { values = front ++ g.values }) group

-- the value that is read first, by the mark behind it, the pieces behind that, and the group that these may go on with
abbrev pub group_step : ℕ → ℕ → ℕ → List Piece → Option Group → Option Primitive → Option Group
group_step between ends mark more others None = None
group_step between ends mark more others (Some value) =
    if nat_eq mark ends then Some (record { values = value ∷ []; rest = more })
    else if nat_eq mark between then onto_group (value ∷ []) others
    else None

-- one value or more, parted by the first mark and ended by the second
unfoldable pub group_to : PartKind → ℕ → ℕ → List Piece → Option Group
group_to kind between ends [] = None
group_to kind between ends (p ∷ more) =
    group_step between ends p.mark more (group_to kind between ends more) (part_of kind p.text)

-- columns parted by commas, or none
abbrev pub columns_to : ℕ → List Piece → Option Group
columns_to ends [] = None
columns_to ends (p ∷ more) =
    if is_empty p.text && nat_eq p.mark ends then Some (record { values = []; rest = more })
    else group_to OfKey 44 ends (p ∷ more)

-- what stands behind a key: nothing, or subkeys, each behind a /
abbrev pub subkeys_in : List Piece → Option (List Primitive)
subkeys_in [] = None
subkeys_in (p ∷ more) =
    if not (is_empty p.text) then None
    else if nat_eq p.mark 0 then Some []
    else if nat_eq p.mark 47 then option_map (λ (g : Group). g.values) (group_to BehindKey 47 0 more)
    else None

-- a document whose key and subkeys have spellings, and no more subkeys than may be
abbrev pub is_document : Document → Bool
is_document d =
    of_key.has_spelling d.key && (list_all of_value.has_spelling d.subkeys && nat_le (length d.subkeys) most_subkeys)

abbrev pub if_document : Document → Option Document
if_document d = if is_document d then Some d else None

-- hashed columns, ;, range columns, ], and then up to four subkeys
abbrev pub document_behind : List Piece → Option Document
document_behind pieces =
    option_and_then (λ (hashed : Group).
    option_and_then (λ (range : Group).
    option_and_then (λ subkeys.
    if_document (record { key = record { hashed = hashed.values; range = range.values }; subkeys = subkeys }))
    (subkeys_in range.rest))
    (columns_to 93 hashed.rest))
    (columns_to 59 pieces)

-- a [ stands first
abbrev pub document_in : List Piece → Option Document
document_in [] = None
document_in (p ∷ more) = if is_empty p.text && nat_eq p.mark 91 then document_behind more else None

abbrev pub document_of : Text → Option Document
document_of text = document_in (pieces_of OfPath text)

-- the tablet that owns the hash, or the first where there is none
abbrev pub tablet_for : ℕ → Option ℕ → ℕ
tablet_for tablets None = 0
tablet_for tablets (Some hash) = owner hash tablets

abbrev pub path_for : Document → List Text
path_for d = of_key.spelling d.key ∷ map of_value.spelling d.subkeys

abbrev pub place_for : ℕ → Document → Place
place_for tablets d = record {
  tablet = tablet_for tablets (of_key.hash_of_columns d.key.hashed);
  path = path_for d;
}

-- the place of a path, among so many tablets
abbrev pub place_of : ℕ → Text → Option Place
place_of tablets text = option_map (place_for tablets) (document_of text)

-- Steps of reading that may be refused.
use Rattle.std.proofs.Common.{◌≡◌, ℕ, ◌+◌, ◌<◌, ◌≤◌, true, false, Bool, List, [], ◌∷◌, ◌++◌, length, get_or, drop, Ok, Err, refl, sym, ap, ◌∙◌, arith, Result}
use denote.Ref.{Bor}
use Rattle.std.specs.List.{list_all}
use Rattle.std.proofs.lemmas.Bool.{and_parts, false≢true}
use Rattle.std.proofs.lemmas.List.{append_assoc, append-nil, at_drop_more, drop_all, get_or-map, length-map}
use Rattle.std.proofs.lemmas.List.Folds.{list_all_at}
use Rattle.doc_value.specs.Spelling as of_value
use Rattle.doc_value.specs.declared.primitive.Primitive.{Primitive}
use Rattle.txn_data.specs.declared.commands.Commands.{Commands}
use Rattle.txn_data.specs.declared.config.Config.{Config}
use Rattle.txn_data.specs.declared.place.Place.{Place}
use Rattle.script_text.specs.declared.document.Document.{Document}
use Rattle.script_text.specs.declared.fault.Fault.{Fault}
use Rattle.script_text.specs.declared.fault.Fault.TheVariants.{Refused, Memory}
use Rattle.script_text.specs.Commands.{Read, ◌>>=◌, flags_over, path, paths, session_in, with_flag}
use Rattle.script_text.specs.Lines.{Text, lines_of}
use Rattle.script_text.specs.declared.script_refusal.ScriptRefusal.{ScriptRefusal}
use Rattle.script_text.specs.declared.script_refusal.ScriptRefusal.TheVariants as refusal
use Rattle.script_text.specs.Outcomes.{IsRefused, IsTold, texts}
use Rattle.script_text.specs.Script.{and_lines, at_line, body_over, line_after}
use Rattle.script_text.specs.Terms.{is_document}
use Rattle.script_text.specs.Words.{words_of}

-- a step that is refused refuses the whole
pub refused_on : {A B : Type 0} (e : Fault) (read : Read A) (more : A → Read B) → IsRefused e read → IsRefused e (read >>= more)
refused_on {A = A} {B = B} (Refused why) read more is = ap (λ (r : Read A). r >>= more) is
refused_on Memory read more is = tt

-- what holds of all holds of each
all_at : {A : Type 0} (p : A → Bool) (xs : List A) (i : ℕ) (d : A) → i < length xs → list_all p xs ≡ true → p (get_or xs i d) ≡ true
all_at {A = A} p xs i d lt all = go (p (get_or xs i d)) refl
  where
    go : (b : Bool) → p (get_or xs i d) ≡ b → p (get_or xs i d) ≡ true
    go true e = e
    go false e = absurd (false≢true (sym (list_all_at p xs i d lt e) ∙ all))

-- each subkey of a document has a spelling
pub subkey_spelled : (d : Document) (i : ℕ) (s : Primitive) → i < length d.subkeys → is_document d ≡ true → of_value.has_spelling (get_or d.subkeys i s) ≡ true
subkey_spelled d i s lt is = all_at of_value.has_spelling d.subkeys i s lt (and_parts _ _ (and_parts _ _ is).1).0

-- the same places behind those that were read before
abbrev pub onto_places : List Place → Read (List Place) → Read (List Place)
onto_places front (Ok places) = Ok (front ++ places)
onto_places front (Err e) = Err e

-- the word at a place, as bytes
text_at : (words : List (Bor Text)) (i : ℕ) (d : Bor Text) → i < length words → get_or (texts words) i [] ≡ (get_or words i d).now
text_at words i d lt = get_or-map (λ (w : Bor Text). w.now) words i d [] lt

-- one more place
pub paths_more : (config : Config) (front : List Place) (words : List (Bor Text)) (i : ℕ) (d : Bor Text) (place : Place) → i < length words
    → path config (get_or words i d).now ≡ Ok place
    → onto_places (front ++ place ∷ []) (paths config (drop (i + 1) (texts words))) ≡ onto_places front (paths config (drop i (texts words)))
unfolding paths
paths_more config front words i d place lt is =
    let long : i < length (texts words) = omega (arith, length-map words (λ (w : Bor Text). w.now)) in
    let step = at_drop_more (paths config) (texts words) i [] long in
    let at = text_at words i d lt in
    rw (step, at, is) (onto_places-onto front place (paths config (drop (i + 1) (texts words))))
  where
    onto_places-onto : (front : List Place) (place : Place) (more : Read (List Place))
        → onto_places (front ++ place ∷ []) more ≡ onto_places front (more >>= λ places. Ok (place ∷ places))
    onto_places-onto front place (Ok places) = ap (λ (ps : List Place). Ok ps) (append_assoc front (place ∷ []) places)
    onto_places-onto front place (Err e) = refl

-- a word that is no path refuses all
pub paths_refused : (e : Fault) (config : Config) (front : List Place) (words : List (Bor Text)) (i : ℕ) (d : Bor Text) → i < length words
    → IsRefused e (path config (get_or words i d).now) → IsRefused e (onto_places front (paths config (drop i (texts words))))
unfolding paths
paths_refused (Refused why) config front words i d lt is =
    let long : i < length (texts words) = omega (arith, length-map words (λ (w : Bor Text). w.now)) in
    let step = at_drop_more (paths config) (texts words) i [] long in
    let at = text_at words i d lt in
    rw (step, at, is) refl
paths_refused Memory config front words i d lt is = tt

-- all words are read
pub paths_all : (config : Config) (front : List Place) (words : List (Bor Text)) (i : ℕ) → length words ≤ i
    → onto_places front (paths config (drop i (texts words))) ≡ Ok front
unfolding paths
paths_all config front words i le = rw (drop_all i (texts words) (omega (arith, length-map words (λ (w : Bor Text). w.now)))) (ap (λ (ps : List Place). Ok ps) (append-nil front))

-- one more line with its session's flag
pub flags_more : (flags : List Bool) (text line rest : Text) → lines_of text ≡ line ∷ lines_of rest
    → flags_over flags (lines_of text) ≡ flags_over (with_flag flags (session_in (words_of line))) (lines_of rest)
unfolding flags_over
flags_more flags text line rest is = ap (λ (ls : List Text). flags_over flags ls) is

pub flags_none : (flags : List Bool) (text : Text) → length text ≡ 0 → flags_over flags (lines_of text) ≡ flags
unfolding flags_over lines_of
flags_none flags [] none = refl
flags_none flags (b ∷ text) none = absurd (omega arith)

-- ---- lines of a body

pub body_more : (config : Config) (flags slice : List Bool) (said next : Commands) (number : ℕ) (text line rest : Text) (all : Result Commands ScriptRefusal)
    → slice ≡ flags → lines_of text ≡ line ∷ lines_of rest → at_line number (line_after config slice said (words_of line)) ≡ Ok next
    → body_over config flags said number (lines_of text) ≡ all → body_over config flags next (number + 1) (lines_of rest) ≡ all
unfolding body_over
body_more config flags slice said next number text line rest all same lines read over =
    let is = rw same at read in
    sym (ap (λ (ls : List Text). body_over config flags said number ls) lines
    ∙ ap (and_lines (λ more. body_over config flags more (number + 1) (lines_of rest))) is) ∙ over

pub body_refused : (e : ScriptRefusal) (config : Config) (flags slice : List Bool) (said : Commands) (number : ℕ) (text line rest : Text) (all : Result Commands ScriptRefusal)
    → slice ≡ flags → lines_of text ≡ line ∷ lines_of rest → IsTold e (at_line number (line_after config slice said (words_of line)))
    → body_over config flags said number (lines_of text) ≡ all → IsTold e all
unfolding body_over
body_refused (refusal.ScriptRefused at why) config flags slice said number text line rest all same lines read over =
    let is = rw same at read in
    sym over ∙ (ap (λ (ls : List Text). body_over config flags said number ls) lines
    ∙ ap (and_lines (λ more. body_over config flags more (number + 1) (lines_of rest))) is)
body_refused refusal.Memory config flags slice said number text line rest all same lines read over = tt

pub body_none : (config : Config) (flags : List Bool) (said : Commands) (number : ℕ) (text : Text) (all : Result Commands ScriptRefusal)
    → length text ≡ 0 → body_over config flags said number (lines_of text) ≡ all → all ≡ Ok said
unfolding body_over lines_of
body_none config flags said number [] all none over = sym over
body_none config flags said number (b ∷ text) all none over = absurd (omega arith)

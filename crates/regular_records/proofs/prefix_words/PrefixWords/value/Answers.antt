use Rattle.std.proofs.Common.{◌≡◌, ℕ, ◌-◌, ◌≤◌, List, Option, None, arith, length, sym, ap, ◌∙◌, subst}
use Rattle.std.specs.Prelude.{option_map, IfSome, slice_index_or}
use Rattle.doc_path.specs.Path.{Parts}
use Rattle.txn_types.specs.Writes.{set_at}
use Rattle.regular_records.specs.declared.word.Word.{Word}
use Rattle.regular_records.specs.Records.{write_of}
use Rattle.regular_records.specs.Store.{VersionStore, word_version}
use Rattle.regular_records.specs.PrefixWords.{AreFirstWords}
use Rattle.regular_records.proofs.Held.{if_ok-same}
use Rattle.regular_records.proofs.Words.{IsAbove, last-word}
use Rattle.regular_records.proofs.prefix_words.PrefixWords.value.Goals as goal

same : {xs ys : List (Option Word)} → xs ≡ ys → slice_index_or xs (length xs - 1) None ≡ slice_index_or ys (length ys - 1) None
same is = ap (λ (xs : List (Option Word)). slice_index_or xs (length xs - 1) None) is

-- the last of all words of a path
last-at : (ws : List (Option Word)) (p : Parts) (o : Option Word) (t : ℕ) (store : VersionStore) → AreFirstWords t p store ws × (length ws ≡ length p) → o ≡ slice_index_or ws (length ws - 1) None
    → IsAbove t p store (length p) o
last-at ws p o t store are is =
    subst (λ n. IsAbove t p store n o) are.1 (subst (IsAbove t p store (length ws)) (sym is) (last-word t p store ws are.0))

pub returns-in-None : goal.returns-in-None
returns-in-None c t store are =
    let p = c.args.self.now.path.now in
    ap (λ o. set_at p (option_map write_of o)) (ap (option_map (word_version p)) (sym c.in-None.is) ∙ (last-at c.args.self.now.words.items p c.last_word.result t store are (c.last_word.ensures ∙ same c.deref.ensures.value)).0)

pub returns-in-Some : goal.returns-in-Some
returns-in-Some c t store are =
    let p = c.args.self.now.path.now in
    let last = last-at c.args.self.now.words.items p c.last_word.result t store are (c.last_word.ensures ∙ same c.deref.ensures.value) in
    let many : length p ≡ c.len.result = sym (c.len.ensures ∙ sym c.deref.ensures.len ∙ ap length c.deref.ensures.value ∙ are.1) in
    let P : Option Word → Type 0 = λ o. IfSome o (λ (w : Word). w.parts ≤ length p) in
    let fits : c.in-Some.word.parts ≤ length p = subst P c.in-Some.is last.1 in
    if_ok-same c.word_value.result _ _
    (ap (λ o. set_at p (option_map write_of o)) (ap (option_map (word_version p)) (sym c.in-Some.is) ∙ last.0))
    (c.word_value.ensures p many (omega arith))

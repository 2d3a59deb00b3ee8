-- The lines of a report, one by one.
use Rattle.std.proofs.Common.{◌≡◌, ℕ, ◌+◌, ◌≤◌, ◌<◌, List, [], ◌∷◌, ◌++◌, length, drop, get_or, take, Bool, true, false, not, map, sum, if◌then◌else◌, Some, Result, Ok, Err, is_ok, OnOk, refl, sym, ap, ◌∙◌, arith, append_assoc}
use Rattle.std.proofs.lemmas.List.{drop_more, drop_all, append-nil}
use Rattle.std.proofs.lemmas.List.Filters.{length-filter_more}
use Rattle.std.proofs.lemmas.Grind.{common_steps}
use Rattle.txn_data.specs.declared.command.Command.{Command}
use Rattle.txn_data.specs.declared.told.Told.{Told}
use Rattle.docdb_run.specs.Text.{report_lines, command_line, word_of, total_line, total_of, count_told, is_refused, is_committed, is_values, restarts_of}

-- what is written, with the lines that are left
abbrev pub WithLines : List ℕ → List Command → List Told → ℕ → List ℕ → Type 0
WithLines text cs ts i whole = text ++ report_lines (i + 1) (drop i cs) (drop i ts) ≡ whole

lines-at : (n : ℕ) (cs : List Command) (ts : List Told) (i : ℕ) (c : Command) (t : Told) → i < length cs → i < length ts → c ≡ get_or cs i c → t ≡ get_or ts i t → report_lines n (drop i cs) (drop i ts) ≡ command_line 1 n (word_of (Some c)) t ++ report_lines (n + 1) (drop (i + 1) cs) (drop (i + 1) ts)
unfolding report_lines
lines-at n cs ts i c t h k at_c at_t =
    let front_c : drop i cs ≡ c ∷ drop (i + 1) cs = drop_more cs i c h ∙ ap (λ x. x ∷ drop (i + 1) cs) (sym at_c) in
    let front_t : drop i ts ≡ t ∷ drop (i + 1) ts = drop_more ts i t k ∙ ap (λ x. x ∷ drop (i + 1) ts) (sym at_t) in
    ap (λ l. report_lines n l (drop i ts)) front_c ∙ ap (λ l. report_lines n (c ∷ drop (i + 1) cs) l) front_t

pub line-more : (old new : List ℕ) (cs : List Command) (ts : List Told) (i : ℕ) (c : Command) (t : Told) (whole : List ℕ) → i < length cs → length ts ≡ length cs → c ≡ get_or cs i c → t ≡ get_or ts i t → new ≡ old ++ command_line 1 (i + 1) (word_of (Some c)) t → WithLines old cs ts i whole → WithLines new cs ts (i + 1) whole
line-more old new cs ts i c t whole h same at_c at_t put was =
    let line = command_line 1 (i + 1) (word_of (Some c)) t in
    let rest = report_lines (i + 1 + 1) (drop (i + 1) cs) (drop (i + 1) ts) in
    ap (λ l. l ++ rest) put ∙ (append_assoc old line rest
    ∙ (ap (λ l. old ++ l) (sym (lines-at (i + 1) cs ts i c t h (omega arith) at_c at_t)) ∙ was))

lines-end : (n : ℕ) (ts : List Told) → report_lines n [] ts ≡ []
unfolding report_lines
lines-end n ts = refl

pub line-all : (text : List ℕ) (cs : List Command) (ts : List Told) (i : ℕ) (whole : List ℕ) → length cs ≤ i → WithLines text cs ts i whole → text ≡ whole
line-all text cs ts i whole h was =
    sym (ap (λ l. text ++ report_lines (i + 1) l (drop i ts)) (drop_all i cs h) ∙ (ap (λ l. text ++ l) (lines-end (i + 1) (drop i ts)) ∙ append-nil text)) ∙ was

pub joined : (lines last total text with_last whole : List ℕ) → text ≡ lines → with_last ≡ text ++ last → whole ≡ with_last ++ total → whole ≡ lines ++ (last ++ total)
joined lines last total text with_last whole a b c =
    c ∙ (ap (λ l. l ++ total) (b ∙ ap (λ l. l ++ last) a) ∙ append_assoc lines last total)

-- one more is counted
pub counted-more : (p : Told → Bool) (ts : List Told) (i : ℕ) (t : Told) (old new : ℕ) → i < length ts → t ≡ get_or ts i t → old ≡ count_told p (take i ts) → new ≡ old + (if p t then 1 else 0) → new ≡ count_told p (take (i + 1) ts)
counted-more p ts i t old new h at_t was put =
    put ∙ (ap (λ n. n + (if p t then 1 else 0)) was ∙ (ap (λ x. count_told p (take i ts) + (if p x then 1 else 0)) at_t ∙ sym (length-filter_more p ts i t h)))

pub restarts-more : (ts : List Told) (i : ℕ) (t : Told) (old new : ℕ) → i < length ts → t ≡ get_or ts i t → old ≡ sum (map restarts_of (take i ts)) → new ≡ old + restarts_of t → new ≡ sum (map restarts_of (take (i + 1) ts))
restarts-more ts i t old new h at_t was put = grind (arith, common_steps)

pub one-most : (b : Bool) → (if b then 1 else 0) ≤ 1
one-most true = omega arith
one-most false = omega arith

pub total-counted : (ts : List Told) (ok refused committed values restarts : ℕ) → ok ≡ count_told (λ t. not (is_refused t)) ts → refused ≡ count_told is_refused ts → committed ≡ count_told is_committed ts → values ≡ count_told is_values ts → restarts ≡ sum (map restarts_of ts) → total_line (length ts) ok refused committed values restarts true ≡ total_of ts true
total-counted ts ok refused committed values restarts a b c d e = rw (a, b, c, d, e) refl

-- a piece is put at the end, where there is memory
pub appended : {T E : Type 0} (r : Result T E) (old new piece whole : List ℕ) → new ≡ (if is_ok r then old ++ piece else old) → piece ≡ whole → OnOk r (new ≡ old ++ whole)
appended (Ok x) old new piece whole put same = put ∙ ap (λ l. old ++ l) same
appended (Err e) old new piece whole put same = tt

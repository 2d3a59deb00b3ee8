-- How the head of a script is parted from its body.
use Rattle.std.proofs.Common.{◌≡◌, ℕ, ◌+◌, ◌-◌, ◌<◌, ◌≤◌, true, false, [], ◌∷◌, ◌++◌, length, get_or, take, drop, Option, Some, None, refl, sym, ap, ap₂, subst, ◌∙◌, arith, zero-add}
use Rattle.std.specs.Prelude.{codes, option_map}
use Rattle.std.specs.Str.{IsCharBoundary, IsUtf8, bytes_eq}
use Rattle.std.proofs.lemmas.List.{append_assoc, append-nil, drop_at, get_or_at, length-append, length-take-le, take_all, take_at}
use Rattle.std.proofs.lemmas.Str.{IsCharBoundary-after_ascii, IsCharBoundary-at_seam, IsUtf8-drop, IsUtf8-nil}
use Rattle.script_text.specs.Lines.{Parts, Text, lines_of, parts_of, with_line}

-- the parts of a text that begins with this front, of so many lines
abbrev pub with_front : Text → ℕ → Option Parts → Option Parts
with_front front before parts =
    option_map (λ (p : Parts). record { head = front ++ p.head; before = before + p.before; body = p.body }) parts

-- how many bytes stand before the rest
abbrev pub ahead : Text → Text → ℕ
ahead bytes rest = length bytes - length rest

-- no line before the rest is three dashes
pub record IsParted (bytes rest : Text) (before : ℕ) : Type 0 where
  pub said : with_front (take (ahead bytes rest) bytes) before (parts_of (lines_of rest)) ≡ parts_of (lines_of bytes)
  pub whole : take (ahead bytes rest) bytes ++ rest ≡ bytes
  pub few : before + length rest ≤ length bytes
  pub utf8 : IsUtf8 bytes → IsUtf8 rest

with_front-none : (o : Option Parts) → with_front [] 0 o ≡ o
with_front-none None = refl
with_front-none (Some p) = ap (λ (n : ℕ). Some (record { head = p.head; before = n; body = p.body })) (zero-add p.before)

pub parted_none : (bytes : Text) → IsParted bytes bytes 0
parted_none bytes =
    let start : ahead bytes bytes ≡ 0 = omega arith in
    record {
      said = rw start (with_front-none (parts_of (lines_of bytes)));
      whole = rw start refl;
      few = omega arith;
      utf8 = λ u. u;
    }

-- a line moves to the front
with_front-line : (front line : Text) (before : ℕ) (o : Option Parts)
    → with_front (front ++ (line ++ 10 ∷ [])) (before + 1) o ≡ with_front front before (option_map (with_line line) o)
with_front-line front line before None = refl
with_front-line front line before (Some p) =
    let heads : (front ++ (line ++ 10 ∷ [])) ++ p.head ≡ front ++ (line ++ 10 ∷ p.head) =
    append_assoc front (line ++ 10 ∷ []) p.head ∙ ap (λ (t : Text). front ++ t) (append_assoc line (10 ∷ []) p.head) in
    let numbers : before + 1 + p.before ≡ before + (p.before + 1) = omega arith in
    ap₂ (λ (h : Text) (n : ℕ). Some (record { head = h; before = n; body = p.body })) heads numbers

step : (rest line after : Text) → lines_of rest ≡ line ∷ lines_of after → bytes_eq line (codes "---") ≡ false
    → parts_of (lines_of rest) ≡ option_map (with_line line) (parts_of (lines_of after))
unfolding parts_of
step rest line after lines other = ap parts_of lines ∙ rw other refl

none_after : (o : Option Parts) (line : Text) (front : Text) (before : ℕ) → o ≡ None
    → with_front front before (option_map (with_line line) o) ≡ None
none_after o line front before is = rw is refl

no_lines : parts_of (lines_of []) ≡ None
unfolding parts_of lines_of
no_lines = refl

pub parted_last : (bytes rest line : Text) (before : ℕ) → IsParted bytes rest before → lines_of rest ≡ line ∷ lines_of []
    → 0 < length rest → bytes_eq line (codes "---") ≡ false → IsParted bytes [] (before + 1)
parted_last bytes rest line before p lines some other =
    let full : take (ahead bytes []) bytes ≡ bytes = take_all (ahead bytes []) bytes (omega arith) in
    record {
      said = ap (with_front (take (ahead bytes []) bytes) (before + 1)) no_lines
          ∙ (sym (none_after (parts_of (lines_of [])) line (take (ahead bytes rest) bytes) before no_lines)
          ∙ (sym (ap (with_front (take (ahead bytes rest) bytes) before) (step rest line [] lines other)) ∙ p.said));
      whole = append-nil (take (ahead bytes []) bytes) ∙ full;
      few = omega (arith, p.few);
      utf8 = λ u. IsUtf8-nil;
    }

pub parted_more : (bytes rest line after : Text) (before : ℕ) → IsParted bytes rest before → lines_of rest ≡ line ∷ lines_of after
    → rest ≡ line ++ 10 ∷ after → bytes_eq line (codes "---") ≡ false → IsParted bytes after (before + 1)
parted_more bytes rest line after before p lines feed other =
    let front : Text = take (ahead bytes rest) bytes in
    let all : (front ++ (line ++ 10 ∷ [])) ++ after ≡ bytes =
    append_assoc front (line ++ 10 ∷ []) after
    ∙ (ap (λ (t : Text). front ++ t) (append_assoc line (10 ∷ []) after ∙ sym feed) ∙ p.whole) in
    let long : length (front ++ (line ++ 10 ∷ [])) + length after ≡ length bytes =
    sym (length-append (front ++ (line ++ 10 ∷ [])) after) ∙ ap (λ (t : Text). length t) all in
    let rest_long : length rest ≡ length line + (length after + 1) = ap (λ (t : Text). length t) feed ∙ (length-append line (10 ∷ after) ∙ omega arith) in
    let front_is : take (ahead bytes after) bytes ≡ front ++ (line ++ 10 ∷ []) =
    sym (ap (λ (t : Text). take (ahead bytes after) t) all) ∙ take_at (front ++ (line ++ 10 ∷ [])) after (ahead bytes after) (omega arith) in
    record {
      said = ap (λ (f : Text). with_front f (before + 1) (parts_of (lines_of after))) front_is
          ∙ (with_front-line front line before (parts_of (lines_of after))
          ∙ (sym (ap (with_front front before) (step rest line after lines other)) ∙ p.said));
      whole = ap (λ (f : Text). f ++ after) front_is ∙ all;
      few = omega (arith, p.few);
      utf8 = λ u. after_feed rest line after feed (p.utf8 u);
    }
  where
    after_feed : (rest line after : Text) → rest ≡ line ++ 10 ∷ after → IsUtf8 rest → IsUtf8 after
    after_feed rest line after feed u =
        let at : get_or rest (length line) 0 ≡ 10 = ap (λ (t : Text). get_or t (length line) 0) feed ∙ get_or_at line 10 after 0 (length line) refl in
        let long : length rest ≡ length line + (length after + 1) = ap (λ (t : Text). length t) feed ∙ (length-append line (10 ∷ after) ∙ omega arith) in
        let behind : drop (length line + 1) rest ≡ after =
        ap (λ (t : Text). drop (length line + 1) t) (feed ∙ sym (append_assoc line (10 ∷ []) after))
        ∙ drop_at (line ++ 10 ∷ []) after (length line + 1) (length-append line (10 ∷ [])) in
        subst IsUtf8 behind (IsUtf8-drop rest (length line + 1) u (IsCharBoundary-after_ascii rest (length line) u (omega arith) (omega arith)))

-- where the rest begins
pub parted_at : (bytes rest : Text) (before : ℕ) → IsParted bytes rest before → length rest ≤ length bytes → IsUtf8 bytes
    → IsCharBoundary bytes (ahead bytes rest)
parted_at bytes rest before p le u =
    subst (IsCharBoundary bytes) (length-take-le (ahead bytes rest) bytes (omega arith))
    (IsCharBoundary-at_seam bytes (take (ahead bytes rest) bytes) rest (sym p.whole) (p.utf8 u))

-- one more line that is not three dashes
pub parted_next : (bytes rest line after : Text) (before : ℕ) → IsParted bytes rest before → lines_of rest ≡ line ∷ lines_of after
    → (0 < length after → rest ≡ line ++ 10 ∷ after) → 0 < length rest → bytes_eq line (codes "---") ≡ false → IsParted bytes after (before + 1)
parted_next bytes rest line [] before p lines feed some other = parted_last bytes rest line before p lines some other
parted_next bytes rest line (b ∷ after) before p lines feed some other = parted_more bytes rest line (b ∷ after) before p lines (feed (omega arith)) other

-- three dashes
pub parted_end : (bytes rest line after : Text) (before : ℕ) → IsParted bytes rest before → lines_of rest ≡ line ∷ lines_of after
    → bytes_eq line (codes "---") ≡ true
    → Some (record { head = take (ahead bytes rest) bytes; before = before; body = lines_of after }) ≡ parts_of (lines_of bytes)
unfolding parts_of
parted_end bytes rest line after before p lines dashes =
    let front : Text = take (ahead bytes rest) bytes in
    let here : parts_of (lines_of rest) ≡ Some (record { head = []; before = 0; body = lines_of after }) = ap parts_of lines ∙ rw dashes refl in
    let sum : before ≡ before + 0 = omega arith in
    ap₂ (λ (h : Text) (n : ℕ). Some (record { head = h; before = n; body = lines_of after })) (sym (append-nil front)) sum
    ∙ (sym (ap (with_front front before) here) ∙ p.said)

-- no line is three dashes
pub parted_without : (bytes rest : Text) (before : ℕ) → IsParted bytes rest before → length rest ≡ 0 → None ≡ parts_of (lines_of bytes)
parted_without bytes [] before p none = sym (ap (with_front (take (ahead bytes []) bytes) before) no_lines) ∙ p.said
parted_without bytes (b ∷ rest) before p none = absurd (omega arith)

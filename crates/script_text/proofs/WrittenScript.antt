-- The text of a script that is written says its cluster and its plan.
use Rattle.std.proofs.Common.{◌≡◌, ℕ, ◌≤◌, true, false, List, [], ◌∷◌, ◌++◌, length, map, Some, Ok, decimal, flat_map, codes, bytes_eq, IsAscii, refl, sym, ap, subst, ◌∙◌, arith}
use Rattle.std.specs.List.{All, AllByRecursion}
use Rattle.std.specs.Str.{is_utf8}
use Rattle.std.proofs.lemmas.Bool.{le-ltb}
use Rattle.std.proofs.lemmas.List.{append-nil, append_assoc}
use Rattle.std.proofs.lemmas.List.Concat.{flat_map-append}
use Rattle.std.proofs.lemmas.List.Elements.{All-head, All-tail}
use Rattle.std.proofs.lemmas.Str.{IsAscii-append, IsUtf8-from_ascii, is_utf8-from_IsUtf8}
use Rattle.std.proofs.lemmas.Str.Ascii.{IsAscii-cons, IsAscii-nil}
use Rattle.txn_data.specs.declared.commands.Commands.{Commands}
use Rattle.txn_data.specs.declared.config.Config.{Config}
use Rattle.txn_data.specs.declared.go_line.GoLine.{GoLine}
use Rattle.txn_data.specs.declared.schedule.Schedule.{Schedule}
use Rattle.txn_data.specs.declared.schedule.Schedule.TheVariants.{Serial, Go, Drawn}
use Rattle.txn_data.specs.declared.session_plan.SessionPlan.{SessionPlan}
use Rattle.cluster_config.specs.Head.{IsSpelled, head_of, largest}
use Rattle.cluster_config.specs.Table.{schedule_text}
use Rattle.cluster_config.specs.Written.{ended, head_lines, head_text, listed}
use Rattle.script_text.specs.declared.marks.Marks.TheVariants.{OfLine}
use Rattle.script_text.specs.Lines.{Text, lines_of, parts_of}
use Rattle.script_text.specs.Saying.{IsSaid}
use Rattle.script_text.specs.Script.{most_bytes, script_of}
use Rattle.script_text.specs.Written.{AreInBytes, body_lines, go_words, line_text, spaced, told_lines, written}
use Rattle.script_text.proofs.Kept.{behind}
use Rattle.script_text.proofs.Staying.{decimal_stands, is_plain, line_ends, plain_append, plain_ascii}
use Rattle.script_text.proofs.WrittenBody.{IsLine, body_again, body_are_lines, plain_line}

-- ---- lines that are written

abbrev IsPlain : Text → Type 0
IsPlain line = is_plain line ≡ true

lines_again : (lines : List Text) (rest : Text) → AllByRecursion IsPlain lines → lines_of (flat_map ended lines ++ rest) ≡ lines ++ lines_of rest
lines_again [] rest all = refl
lines_again (line ∷ lines) rest all =
    ap (λ (t : Text). lines_of t) (append_assoc (line ++ 10 ∷ []) (flat_map ended lines) rest ∙ append_assoc line (10 ∷ []) (flat_map ended lines ++ rest))
    ∙ (line_ends line (flat_map ended lines ++ rest) all.0 ∙ ap (λ (ls : List Text). line ∷ ls) (lines_again lines rest all.1))

lines_ascii : (lines : List Text) → AllByRecursion IsPlain lines → IsAscii (flat_map ended lines)
lines_ascii [] all = IsAscii-nil
lines_ascii (line ∷ lines) all =
    IsAscii-append (line ++ 10 ∷ []) (flat_map ended lines) (IsAscii-append line (10 ∷ []) (plain_ascii line all.0) (IsAscii-cons 10 [] (omega arith) IsAscii-nil)) (lines_ascii lines all.1)

-- ---- the head

decimal_plain : (n : ℕ) → n ≤ largest → IsPlain (decimal n)
decimal_plain n le = (decimal_stands OfLine n (omega (arith, le))).plain

others_plain : (ns : List ℕ) → All (λ n. n ≤ largest) ns → IsPlain (flat_map (λ m. codes ", " ++ decimal m) ns)
others_plain [] all = refl
others_plain (n ∷ ns) all =
    plain_append (codes ", " ++ decimal n) (flat_map (λ m. codes ", " ++ decimal m) ns)
    (plain_append (codes ", ") (decimal n) refl (decimal_plain n (All-head (λ (n : ℕ). n ≤ largest) n ns all))) (others_plain ns (All-tail (λ (n : ℕ). n ≤ largest) n ns all))

listed_plain : (ns : List ℕ) → All (λ n. n ≤ largest) ns → IsPlain (listed ns)
listed_plain [] all = refl
listed_plain (n ∷ ns) all =
    plain_append (decimal n) (flat_map (λ m. codes ", " ++ decimal m) ns) (decimal_plain n (All-head (λ (n : ℕ). n ≤ largest) n ns all))
    (others_plain ns (All-tail (λ (n : ℕ). n ≤ largest) n ns all))

schedule_plain : (s : Schedule) → IsPlain (codes "schedule = \"" ++ (schedule_text s ++ codes "\""))
schedule_plain Serial = refl
schedule_plain Go = refl
schedule_plain Drawn = refl

head_plain : (c : Config) → IsSpelled c → AllByRecursion IsPlain (head_lines c)
head_plain c h = (
  plain_append (codes "lease_us = ") (decimal c.lease_us) refl (decimal_plain c.lease_us (omega (arith, h.cluster.lease.1))),
  (
    plain_append (codes "nodes = ") (decimal c.nodes) refl (decimal_plain c.nodes (omega (arith, h.cluster.nodes.1))),
    (
      plain_append (codes "number = ") (decimal c.number) refl (decimal_plain c.number h.number),
      (
        plain_append (codes "passes = ") (decimal c.passes) refl (decimal_plain c.passes (omega (arith, h.cluster.passes))),
        (
          schedule_plain c.schedule,
          (
            plain_append (codes "skew_us = ") (decimal c.skew_us) refl (decimal_plain c.skew_us (omega (arith, h.cluster.skew))),
            (
              plain_append (codes "start_us = [") (listed c.start_us ++ codes "]") refl (plain_append (listed c.start_us) (codes "]") (listed_plain c.start_us h.readings) refl),
              (
                plain_append (codes "status = ") (decimal c.status) refl (decimal_plain c.status (omega (arith, h.cluster.status.1))),
                (plain_append (codes "tablets = ") (decimal c.tablets) refl (decimal_plain c.tablets (omega (arith, h.cluster.tablets.1))), tt),
              ),
            ),
          ),
        ),
      ),
    ),
  ),
)

-- a line that does not end the head
abbrev GoesOn : Text → Type 0
GoesOn line = bytes_eq line (codes "---") ≡ false

head_goes_on : (c : Config) → AllByRecursion GoesOn (head_lines c)
head_goes_on c = (refl, (refl, (refl, (refl, (refl, (refl, (refl, (refl, (refl, tt)))))))))

parts_again : (lines body : List Text) → AllByRecursion GoesOn lines
    → parts_of (lines ++ codes "---" ∷ body) ≡ Some (record { head = flat_map ended lines; before = length lines; body = body })
unfolding parts_of
parts_again [] body all = refl
parts_again (line ∷ lines) body all =
    let goes_on = all.0 in
    rw (goes_on, parts_again lines body all.1)
    (ap (λ (n : ℕ). Some (record { head = line ++ 10 ∷ flat_map ended lines; before = n; body = body })) (omega arith)
    ∙ ap (λ (t : Text). Some (record { head = t; before = length (line ∷ lines); body = body })) (sym (append_assoc line (10 ∷ []) (flat_map ended lines))))

-- ---- the body

all_plain : (lines : List (List Text)) → AllByRecursion IsLine lines → AllByRecursion IsPlain (map spaced lines)
all_plain [] all = tt
all_plain (line ∷ lines) all = (plain_line line all.0, all_plain lines all.1)

as_lines : (lines : List (List Text)) → flat_map line_text lines ≡ flat_map ended (map spaced lines)
as_lines [] = refl
as_lines (line ∷ lines) = ap (λ (t : Text). line_text line ++ t) (as_lines lines)

-- ---- the script

module _ (config : Config) (plan : Commands) (spelled : IsSpelled config) (said : IsSaid config plan) (bytes : AreInBytes plan) where
  abbrev body : Text
  body = flat_map line_text (body_lines plan)

  body_plain : AllByRecursion IsPlain (map spaced (body_lines plan))
  body_plain = all_plain (body_lines plan) (body_are_lines config spelled plan said bytes)

  body_is : lines_of body ≡ map spaced (body_lines plan)
  unfolding lines_of
  body_is =
      ap (λ (t : Text). lines_of t) (as_lines (body_lines plan) ∙ sym (append-nil (flat_map ended (map spaced (body_lines plan)))))
      ∙ (lines_again (map spaced (body_lines plan)) [] body_plain ∙ append-nil (map spaced (body_lines plan)))

  dashes : lines_of (codes "---\n" ++ body) ≡ codes "---" ∷ map spaced (body_lines plan)
  dashes = line_ends (codes "---") body refl ∙ ap (λ (ls : List Text). codes "---" ∷ ls) body_is

  parts_are : parts_of (lines_of (written config plan)) ≡ Some (record { head = head_text config; before = 9; body = map spaced (body_lines plan) })
  parts_are =
      ap parts_of (lines_again (head_lines config) (codes "---\n" ++ body) (head_plain config spelled) ∙ ap (λ (ls : List Text). head_lines config ++ ls) dashes)
      ∙ parts_again (head_lines config) (map spaced (body_lines plan)) (head_goes_on config)

  is_text : is_utf8 (written config plan) ≡ true
  is_text =
      let body_ascii : IsAscii body = subst IsAscii (sym (as_lines (body_lines plan))) (lines_ascii (map spaced (body_lines plan)) body_plain) in
      let dashed : IsAscii (codes "---\n" ++ body) =
      IsAscii-cons 45 (45 ∷ 45 ∷ 10 ∷ body) (omega arith) (IsAscii-cons 45 (45 ∷ 10 ∷ body) (omega arith) (IsAscii-cons 45 (10 ∷ body) (omega arith) (IsAscii-cons 10 body (omega arith) body_ascii))) in
      is_utf8-from_IsUtf8 (written config plan) (IsUtf8-from_ascii (written config plan)
      (IsAscii-append (head_text config) (codes "---\n" ++ body) (lines_ascii (head_lines config) (head_plain config spelled)) dashed))

  -- what the text says
  pub written_again : head_of (head_text config) ≡ Ok config → length (written config plan) ≤ most_bytes → script_of (written config plan) ≡ Ok (config, plan)
  written_again head few =
      let short = le-ltb most_bytes (length (written config plan)) few in
      let text = is_text in
      let parts = parts_are in
      let read = body_again config spelled plan said bytes 11 in
      rw (short, text, parts, head, read) refl

-- the parts of the text, one behind another
pub all_parts : (config : Config) (plan : Commands) (old one two new : Text) (plans : List SessionPlan) (order : List ℕ) (moves : List GoLine)
    → plans ≡ plan.sessions → order ≡ plan.order → moves ≡ plan.go → one ≡ old ++ (head_text config ++ codes "---\n")
    → two ≡ one ++ flat_map line_text (told_lines plans [] order) → new ≡ two ++ flat_map line_text (map go_words moves) → new ≡ old ++ written config plan
all_parts config plan old one two new plans order moves is_plans is_order is_moves first second third =
    let head = head_text config in
    let dashes = codes "---\n" in
    let a = flat_map line_text (told_lines plan.sessions [] plan.order) in
    let b = flat_map line_text (map go_words plan.go) in
    let commands : two ≡ one ++ a =
    second ∙ (ap (λ (ps : List SessionPlan). one ++ flat_map line_text (told_lines ps [] order)) is_plans
    ∙ ap (λ (js : List ℕ). one ++ flat_map line_text (told_lines plan.sessions [] js)) is_order) in
    let last : new ≡ two ++ b = third ∙ ap (λ (gs : List GoLine). two ++ flat_map line_text (map go_words gs)) is_moves in
    behind old two new ((head ++ dashes) ++ a) b (behind old one two (head ++ dashes) a first commands) last
    ∙ ap (λ (t : Text). old ++ t) (append_assoc (head ++ dashes) a b
    ∙ (append_assoc head dashes (a ++ b)
    ∙ ap (λ (t : Text). head ++ (dashes ++ t)) (sym (flat_map-append line_text (told_lines plan.sessions [] plan.order) (map go_words plan.go)))))

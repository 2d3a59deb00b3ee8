-- The commands of an accepted script are of the form.
use Rattle.std.proofs.Common.{◌≡◌, ℕ, ◌<◌, ◌≤◌, ◌+◌, ◌-◌, ◌*◌, ◌^◌, Bool, true, false, ◌&&◌, List, [], ◌∷◌, ◌++◌, Option, Some, None, refl, ap, ◌∙◌, arith, length, take, drop, subst, nat_lt, nat_le, nat_eq, if◌then◌else◌, codes}
use Rattle.std.proofs.lemmas.Bool.{leb-true, ltb-true}
use Rattle.std.proofs.lemmas.List.{length-append, length-take}
use Rattle.std.specs.Int.{to_be_bytes, w64}
use Rattle.std.specs.Str.{bytes_eq}
use Rattle.txn_data.specs.declared.command.Command.{Command}
use Rattle.txn_data.specs.declared.command.Command.TheVariants as command
use Rattle.txn_types.specs.Plan.{IsPlace, IsShort}
use Rattle.docdb_run.specs.declared.line.Line.{Line}
use Rattle.docdb_run.specs.declared.line.Line.TheVariants.{Blank, Told}
use Rattle.docdb_run.specs.Form.{cluster, is_word, place_of, key_of, value_of, after_text, letter_count, is_digit, number_from, number_of, put_valued, put_digits, put_letters, put_line, read_letters, read_line, clock_valued, clock_line, third_of, second_of, first_of, line_of, Reading, clock_after, with_command, with_line, after_line, form_over, form_of, Form, Accepted, Later, IsFormLine, AreFormLines, IsForm, most_commands, most_bytes, lines_of}
use Rattle.docdb_run.specs.Form as form
use Rattle.docdb_run.proofs.ReadSteps.{all_one}

both_true : (a b : Bool) → (a && b) ≡ true → (a ≡ true) × (b ≡ true)
both_true true b is = (refl, is)
both_true false b is = cc

word_small : (n : ℕ) → is_word n ≡ true → n ≤ 8
word_small n is = leb-true n 8 ((both_true (nat_le 1 n) (nat_le n 8) is).1)

-- a key of at most eight letters, and a value, are short
key_short : (letters : List ℕ) → length letters ≤ 8 → IsShort (key_of letters)
key_short letters le = (omega arith, omega (arith, length-append letters (0 ∷ 0 ∷ 33 ∷ [])))

place_short : (letters : List ℕ) → length letters ≤ 8 → IsPlace cluster (place_of letters)
place_short letters le = (omega arith, (omega arith, omega arith, all_one IsShort (key_of letters) (key_short letters le)))

eight_bytes : (n : ℕ) → length (to_be_bytes w64 n) ≡ 8
eight_bytes n = refl

value_short : (n : ℕ) → IsShort (value_of n)
value_short n = (omega arith, omega (arith, eight_bytes (n + 2 ^ 63)))

take_small : (n : ℕ) (bytes : List ℕ) → n ≤ 8 → length (take n bytes) ≤ 8
take_small n bytes le = omega (arith, length-take n bytes)

-- each of the three lines
put_value_is : (clock : ℕ) (letters : List ℕ) (n : Option ℕ) (c : Command) → length letters ≤ 8 → put_valued letters n ≡ Some (Told c) → IsFormLine clock c
put_value_is clock letters None c le is = cc
put_value_is clock letters (Some n) c le is =
    let same : command.SinglePut (place_of letters) (value_of n) 0 ≡ c = cc in
    subst (IsFormLine clock) same (place_short letters le, value_short n)

put_digits_is : (clock : ℕ) (letters : List ℕ) (digits : Option (List ℕ)) (c : Command) → length letters ≤ 8 → put_digits letters digits ≡ Some (Told c) → IsFormLine clock c
put_digits_is clock letters None c le is = cc
put_digits_is clock letters (Some digits) c le is = put_value_is clock letters (number_of (2 ^ 63 - 1) digits) c le is

put_is : (clock n : ℕ) (bytes : List ℕ) (c : Command) (b : Bool) → is_word n ≡ b →
    (if b then put_digits (take n bytes) (after_text (codes "\"] ") (drop n bytes)) else None) ≡ Some (Told c) → IsFormLine clock c
put_is clock n bytes c true word is = put_digits_is clock (take n bytes) (after_text (codes "\"] ") (drop n bytes)) c (take_small n bytes (word_small n word)) is
put_is clock n bytes c false word is = cc

read_is : (clock n : ℕ) (bytes : List ℕ) (c : Command) (b : Bool) → (is_word n && bytes_eq (drop n bytes) (codes "\"]")) ≡ b →
    (if b then Some (Told (command.Read false (place_of (take n bytes) ∷ []))) else None) ≡ Some (Told c) → IsFormLine clock c
read_is clock n bytes c true word is =
    let same : command.Read false (place_of (take n bytes) ∷ []) ≡ c = cc in
    let small : n ≤ 8 = word_small n ((both_true (is_word n) (bytes_eq (drop n bytes) (codes "\"]")) word).0) in
    subst (IsFormLine clock) same (place_short (take n bytes) (take_small n bytes small))
read_is clock n bytes c false word is = cc

-- a number that is read is not above the most
number_step : (most n m d : ℕ) (bytes : List ℕ) (b : Bool) →
    ((k : ℕ) → k ≤ most → number_from most k bytes ≡ Some m → m ≤ most) →
    (is_digit d && nat_le (n * 10 + (d - 48)) most) ≡ b →
    (if b then number_from most (n * 10 + (d - 48)) bytes else None) ≡ Some m → m ≤ most
number_step most n m d bytes true more test is =
    more (n * 10 + (d - 48)) (leb-true (n * 10 + (d - 48)) most ((both_true (is_digit d) (nat_le (n * 10 + (d - 48)) most) test).1)) is
number_step most n m d bytes false more test is = cc

number_upto : (most : ℕ) (bytes : List ℕ) (n m : ℕ) → n ≤ most → number_from most n bytes ≡ Some m → m ≤ most
unfolding number_from
number_upto most [] n m le is = let e : n ≡ m = cc in omega arith
number_upto most (d ∷ bytes) n m le is =
    number_step most n m d bytes (is_digit d && nat_le (n * 10 + (d - 48)) most) (λ k small eq. number_upto most bytes k m small eq) refl is

leading : (most m : ℕ) (bytes : List ℕ) (b : Bool) → (if b then None else number_from most 0 bytes) ≡ Some m → m ≤ most
leading most m bytes true is = cc
leading most m bytes false is = number_upto most bytes 0 m (omega arith) is

number_small : (most m : ℕ) (bytes : List ℕ) → number_of most bytes ≡ Some m → m ≤ most
number_small most m [] is = cc
number_small most m (b ∷ []) is = number_upto most (b ∷ []) 0 m (omega arith) is
number_small most m (b ∷ d ∷ bytes) is = leading most m (b ∷ d ∷ bytes) (nat_eq b 48) is

clock_test : (clock m : ℕ) (c : Command) (b : Bool) → nat_le clock m ≡ b → m ≤ 4000000000000000 →
    (if b then Some (Told (command.Clock 0 m)) else None) ≡ Some (Told c) → IsFormLine clock c
clock_test clock m c true le small is =
    let same : command.Clock 0 m ≡ c = cc in subst (IsFormLine clock) same (refl, leb-true clock m le, small)
clock_test clock m c false le small is = cc

clock_is : (clock : ℕ) (n : Option ℕ) (c : Command) → ((m : ℕ) → n ≡ Some m → m ≤ 4000000000000000) →
    clock_valued clock n ≡ Some (Told c) → IsFormLine clock c
clock_is clock None c small is = cc
clock_is clock (Some m) c small is = clock_test clock m c (nat_le clock m) refl (small m refl) is

third_is : (clock : ℕ) (rest : Option (List ℕ)) (c : Command) → third_of clock rest ≡ Some (Told c) → IsFormLine clock c
third_is clock None c is = cc
third_is clock (Some digits) c is =
    clock_is clock (number_of 4000000000000000 digits) c (λ m e. number_small 4000000000000000 m digits e) is

second_is : (clock : ℕ) (line : List ℕ) (rest : Option (List ℕ)) (c : Command) → second_of clock line rest ≡ Some (Told c) → IsFormLine clock c
second_is clock line None c is = third_is clock (after_text (codes "1: clock 0 ") line) c is
second_is clock line (Some bytes) c is =
    read_is clock (letter_count bytes) bytes c (is_word (letter_count bytes) && bytes_eq (drop (letter_count bytes) bytes) (codes "\"]")) refl is

first_is : (clock : ℕ) (line : List ℕ) (rest : Option (List ℕ)) (c : Command) → first_of clock line rest ≡ Some (Told c) → IsFormLine clock c
first_is clock line None c is = second_is clock line (after_text (codes "1: read [;\"") line) c is
first_is clock line (Some bytes) c is = put_is clock (letter_count bytes) bytes c (is_word (letter_count bytes)) refl is

pub line_is : (clock : ℕ) (line : List ℕ) (c : Command) → line_of clock line ≡ Some (Told c) → IsFormLine clock c
line_is clock [] c is = let e : Blank ≡ Told c = cc in cc
line_is clock (b ∷ line) c is = first_is clock (b ∷ line) (after_text (codes "1: single put [;\"") (b ∷ line)) c is

-- what is read so far
unfoldable pub clock_end : ℕ → List Command → ℕ
clock_end clock [] = clock
clock_end clock (c ∷ cs) = clock_end (clock_after clock c) cs

lines_end : (clock : ℕ) (cs : List Command) (c : Command) → AreFormLines clock cs → IsFormLine (clock_end clock cs) c → AreFormLines clock (cs ++ c ∷ [])
unfolding AreFormLines clock_end
lines_end clock [] c f l = (l, tt)
lines_end clock (d ∷ cs) c f l = (f.0, lines_end (clock_after clock d) cs c f.1 l)

clock_after_end : (clock : ℕ) (cs : List Command) (c : Command) → clock_end clock (cs ++ c ∷ []) ≡ clock_after (clock_end clock cs) c
unfolding clock_end
clock_after_end clock [] c = refl
clock_after_end clock (d ∷ cs) c = clock_after_end (clock_after clock d) cs c

pub record ReadWell (r : Reading) : Type 0 where
  pub lines : AreFormLines 1000000 r.commands
  pub clock : clock_end 1000000 r.commands ≡ r.clock
  pub few : length r.commands ≤ 100000

command_well : (r s : Reading) (c : Command) (b : Bool) → ReadWell r → IsFormLine r.clock c → nat_lt (length r.commands) most_commands ≡ b →
    (if b then Some (record { clock = clock_after r.clock c; line = r.line + 1; commands = r.commands ++ c ∷ [] }) else None) ≡ Some s → ReadWell s
command_well r s c true w f lt is =
    let next : Reading = record { clock = clock_after r.clock c; line = r.line + 1; commands = r.commands ++ c ∷ [] } in
    let same : next ≡ s = cc in
    let small : length r.commands < 100000 = ltb-true (length r.commands) most_commands lt in
    subst ReadWell same (record {
      lines = lines_end 1000000 r.commands c w.lines (rw w.clock f);
      clock = clock_after_end 1000000 r.commands c ∙ ap (λ (n : ℕ). clock_after n c) w.clock;
      few = omega (arith, length-append r.commands (c ∷ []));
    })
command_well r s c false w f lt is = cc

line_well : (r s : Reading) (line : Option Line) → ReadWell r → ((c : Command) → line ≡ Some (Told c) → IsFormLine r.clock c) →
    with_line r line ≡ Some s → ReadWell s
line_well r s None w f is = cc
line_well r s (Some Blank) w f is =
    let next : Reading = record r { line = r.line + 1 } in
    let same : next ≡ s = cc in subst ReadWell same (record { lines = w.lines; clock = w.clock; few = w.few })
line_well r s (Some (Told c)) w f is = command_well r s c (nat_lt (length r.commands) most_commands) w (f c refl) refl is

first_well : (r s : Reading) (b : Bool) → ReadWell r → (if b then Some (record r { line = 2 }) else None) ≡ Some s → ReadWell s
first_well r s true w is =
    let next : Reading = record r { line = 2 } in
    let same : next ≡ s = cc in subst ReadWell same (record { lines = w.lines; clock = w.clock; few = w.few })
first_well r s false w is = cc

after_well : (r s : Reading) (line : List ℕ) (b : Bool) → ReadWell r →
    (if b then (if bytes_eq line (codes "---") then Some (record r { line = 2 }) else None) else with_line r (line_of r.clock line)) ≡ Some s → ReadWell s
after_well r s line true w is = first_well r s (bytes_eq line (codes "---")) w is
after_well r s line false w is = line_well r s (line_of r.clock line) w (λ c e. line_is r.clock line c e) is

next_well : (r : Reading) (ls : List (List ℕ)) (next : Option Reading) (cs : List Command) →
    ((s : Reading) → next ≡ Some s → form_over s ls ≡ Accepted cs → IsForm cs) →
    (elim next [ Some s ↦ form_over s ls | None ↦ Later r.line ]) ≡ Accepted cs → IsForm cs
next_well r ls None cs more is = cc
next_well r ls (Some s) cs more is = more s refl is

end_well : (r : Reading) (b : Bool) (cs : List Command) → ReadWell r → (if b then Later 1 else Accepted r.commands) ≡ Accepted cs → IsForm cs
end_well r true cs w is = cc
end_well r false cs w is =
    let same : r.commands ≡ cs = cc in subst IsForm same (record { lines = w.lines; few = w.few })

over_well : (ls : List (List ℕ)) (r : Reading) (cs : List Command) → ReadWell r → form_over r ls ≡ Accepted cs → IsForm cs
unfolding form_over
over_well [] r cs w is = end_well r (nat_eq r.line 1) cs w is
over_well (l ∷ ls) r cs w is =
    next_well r ls (after_line r l) cs (λ s e f. over_well ls s cs (after_well r s l (nat_eq r.line 1) w e) f) is

size_well : (b : Bool) (script : List ℕ) (cs : List Command) → (if b then Later 0 else form_over form.at_first (lines_of script)) ≡ Accepted cs → IsForm cs
unfolding AreFormLines clock_end
size_well true script cs is = cc
size_well false script cs is =
    over_well (lines_of script) form.at_first cs (record { lines = tt; clock = refl; few = omega arith }) is

pub form_is : (script : List ℕ) (cs : List Command) → form_of script ≡ Accepted cs → IsForm cs
form_is script cs is = size_well (nat_lt most_bytes (length script)) script cs is

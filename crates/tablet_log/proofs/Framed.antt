-- Frames: what begins with one, and that bytes are one list of them.
use Rattle.std.proofs.Common.{◌≡◌, ℕ, ◌+◌, ◌^◌, ◌<◌, ◌≤◌, IsTrue, List, [], ◌∷◌, ◌++◌, length, get_or, take, drop, Ok, Err, refl, sym, ap, ◌∙◌, append_assoc, arith, inl, inr}
use Rattle.std.specs.List.{AllByRecursion}
use Rattle.std.specs.Int.{w32, from_be_bytes}
use Rattle.std.proofs.lemmas.Bool.{cases_lt}
use Rattle.std.proofs.lemmas.Grind.{flat_map-append}
use Rattle.std.proofs.lemmas.List.{get_or_past, take_at, take_more, drop_at, take-append-drop, length-append, append-nil, length-take, length-take-le, get_or-take}
use Rattle.std.proofs.lemmas.Nat.{be_bytes_4, from_be_bytes-to_be_bytes_4}
use Rattle.log_record.specs.declared.log_record.LogRecord.{LogRecord}
use Rattle.log_record.specs.declared.record_refusal.RecordRefusal.{RecordRefusal}
use Rattle.log_record.specs.declared.record_refusal.RecordRefusal.TheVariants as refusal
use Rattle.log_record.specs.Spelling.{u32_spelling, spelling, has_spelling, IsInRange, Spells}
use Rattle.log_record.specs.Reading.{Fails, IsBytes}
use Rattle.tablet_log.specs.Frames.{frame, frames, IsRecord, NoFrame, Holds, IsBroken, IsUnread}
use Rattle.tablet_log.specs.Refusals.{unread}

-- what the law on the lengths of spellings says
abbrev pub Short : Type 0
Short = (r : LogRecord) → IsTrue (has_spelling r) → length (spelling r) ≤ 393280

-- what the law on what follows spellings says
abbrev pub Apart : Type 0
Apart = (p q : LogRecord) (x y : List ℕ) → IsInRange p → IsInRange q → IsTrue (has_spelling p) → IsTrue (has_spelling q) → spelling p ++ x ≡ spelling q ++ y → (p ≡ q) × (x ≡ y)

-- ---- the four bytes of a number

four : (n : ℕ) → length (u32_spelling n) ≡ 4
unfolding u32_spelling
four n = refl

four_again : (n : ℕ) → n < 2 ^ 32 → from_be_bytes w32 (u32_spelling n) ≡ n
unfolding u32_spelling
four_again n lt = from_be_bytes-to_be_bytes_4 n lt

four_back : (bytes : List ℕ) (n : ℕ) → length bytes ≡ 4 → IsBytes bytes → n ≡ from_be_bytes w32 bytes → u32_spelling n ≡ bytes
unfolding u32_spelling
four_back bytes n len fits is = be_bytes_4 bytes n len fits is

-- ---- one frame at the front

pub record Front (bytes : List ℕ) (r : LogRecord) (more : List ℕ) : Type 0 where
  pub long : 4 ≤ length bytes
  pub count : from_be_bytes w32 (take 4 bytes) ≡ length (spelling r)
  pub behind : drop 4 bytes ≡ spelling r ++ more

front_of : Short → (bytes : List ℕ) (r : LogRecord) (more : List ℕ) → IsRecord r → bytes ≡ frame r ++ more → Front bytes r more
front_of short bytes r more good e =
    let n : ℕ = length (spelling r) in
    let is : bytes ≡ u32_spelling n ++ (spelling r ++ more) = e ∙ append_assoc (u32_spelling n) (spelling r) more in
    let len = four n in
    record {
      long = omega (arith, ap length is, len, length-append (u32_spelling n) (spelling r ++ more));
      count = ap (λ (b : List ℕ). from_be_bytes w32 (take 4 b)) is ∙ ap (from_be_bytes w32) (take_at (u32_spelling n) (spelling r ++ more) 4 len) ∙ four_again n (omega (arith, short r good.1));
      behind = ap (drop 4) is ∙ drop_at (u32_spelling n) (spelling r ++ more) 4 len;
    }

pub none_short : Short → (bytes : List ℕ) → length bytes < 4 → NoFrame bytes
none_short short bytes lt r more good e =
    let f = front_of short bytes r more good e in
    omega (arith, f.long)

pub none_cut : Short → (bytes : List ℕ) (count : ℕ) → count ≡ from_be_bytes w32 (take 4 bytes) → length (drop 4 bytes) < count → NoFrame bytes
none_cut short bytes count is lt r more good e =
    let f = front_of short bytes r more good e in
    omega (arith, f.count, ap length f.behind, length-append (spelling r) more)

-- a payload that does not decode
none_bad : Short → (bytes : List ℕ) (count : ℕ) (e : RecordRefusal) → count ≡ from_be_bytes w32 (take 4 bytes) → ((r : LogRecord) → Ok r ≡ Err e → ⊥)
    → ((r : LogRecord) → Spells (take count (drop 4 bytes)) r → Ok r ≡ Err e) → NoFrame bytes
none_bad short bytes count e is differ only r more good at =
    let f = front_of short bytes r more good at in
    let payload : take count (drop 4 bytes) ≡ spelling r = ap (take count) f.behind ∙ take_at (spelling r) more count (sym (is ∙ f.count)) in
    differ r (only r (record { in_range = good.0; has = good.1; is = payload }))

pub unread_is : Short → (bytes : List ℕ) (count offset : ℕ) (e : RecordRefusal) → count ≡ from_be_bytes w32 (take 4 bytes)
    → ((r : LogRecord) → Spells (take count (drop 4 bytes)) r → Fails e (Ok r)) → IsUnread (NoFrame bytes) offset (unread offset e)
unread_is short bytes count offset refusal.Memory is only = tt
unread_is short bytes count offset e is only = (refl, none_bad short bytes count e is (λ r same. cc) only)

IsBytes-take : (n : ℕ) (bytes : List ℕ) → IsBytes bytes → IsBytes (take n bytes)
IsBytes-take n bytes h i =
    elim (cases_lt i n) [
      | inl lt ↦ rw (get_or-take n bytes i 0 lt) (h i)
      | inr le ↦ rw (get_or_past (take n bytes) i 0 (omega (arith, length-take n bytes))) (omega arith)
    ]

-- a payload that does
pub one_read : (bytes : List ℕ) (count : ℕ) (r : LogRecord) → IsBytes bytes → 4 ≤ length bytes → count ≡ from_be_bytes w32 (take 4 bytes) → count ≤ length (drop 4 bytes)
    → Spells (take count (drop 4 bytes)) r → IsRecord r × (bytes ≡ frame r ++ drop count (drop 4 bytes))
one_read bytes count r fits long is within spells =
    let payload : List ℕ = take count (drop 4 bytes) in
    let size : length payload ≡ count = length-take-le count (drop 4 bytes) within in
    let number : u32_spelling (length (spelling r)) ≡ take 4 bytes =
    four_back (take 4 bytes) (length (spelling r)) (length-take-le 4 bytes long) (IsBytes-take 4 bytes fits) (sym (ap length spells.is) ∙ size ∙ is) in (
      (spells.in_range, spells.has),
      sym (take-append-drop 4 bytes) ∙ ap (λ (t : List ℕ). t ++ drop 4 bytes) (sym number)
          ∙ ap (λ (t : List ℕ). u32_spelling (length (spelling r)) ++ t) (sym (take-append-drop count (drop 4 bytes)) ∙ ap (λ (t : List ℕ). t ++ drop count (drop 4 bytes)) spells.is)
          ∙ sym (append_assoc (u32_spelling (length (spelling r))) (spelling r) (drop count (drop 4 bytes))),
    )

pub frame_some : (r : LogRecord) (more : List ℕ) → 4 ≤ length (frame r ++ more)
frame_some r more =
    let n : ℕ = length (spelling r) in
    omega (arith, four n, length-append (frame r) more, length-append (u32_spelling n) (spelling r))

-- ---- a list of frames

frame_len : (r : LogRecord) → length (frame r) ≡ 4 + length (spelling r)
frame_len r = omega (arith, four (length (spelling r)), length-append (u32_spelling (length (spelling r))) (spelling r))

pub frames_len_more : (rs : List LogRecord) (i : ℕ) (r : LogRecord) → i < length rs → r ≡ get_or rs i r → length (frames (take (i + 1) rs)) ≡ length (frames (take i rs)) + (4 + length (spelling r))
frames_len_more rs i r lt is =
    let more : take (i + 1) rs ≡ take i rs ++ r ∷ [] = take_more rs i r lt ∙ ap (λ x. take i rs ++ x ∷ []) (sym is) in
    let joined : frames (take (i + 1) rs) ≡ frames (take i rs) ++ frame r =
    ap frames more ∙ flat_map-append frame (take i rs) (r ∷ []) ∙ ap (λ (t : List ℕ). frames (take i rs) ++ t) (append-nil (frame r)) in
    omega (arith, ap length joined, length-append (frames (take i rs)) (frame r), frame_len r)

pub frames_more : (rs : List LogRecord) (r : LogRecord) (rest : List ℕ) → frames rs ++ (frame r ++ rest) ≡ frames (rs ++ r ∷ []) ++ rest
frames_more rs r rest =
    sym (append_assoc (frames rs) (frame r) rest) ∙ ap (λ (t : List ℕ). t ++ rest) (ap (λ (t : List ℕ). frames rs ++ t) (sym (append-nil (frame r))) ∙ sym (flat_map-append frame rs (r ∷ [])))

pub all_more : (rs : List LogRecord) (r : LogRecord) → AllByRecursion IsRecord rs → IsRecord r → AllByRecursion IsRecord (rs ++ r ∷ [])
all_more [] r all good = (good, tt)
all_more (q ∷ rs) r all good = (all.0, all_more rs r all.1 good)

frame_one : Short → Apart → (p q : LogRecord) (x y : List ℕ) → IsRecord p → IsRecord q → frame p ++ x ≡ frame q ++ y → (p ≡ q) × (x ≡ y)
frame_one short apart p q x y p_good q_good e =
    let f = front_of short (frame q ++ y) p x p_good (sym e) in
    let g = front_of short (frame q ++ y) q y q_good refl in
    apart p q x y p_good.0 q_good.0 p_good.1 q_good.1 (sym f.behind ∙ g.behind)

-- behind whole lists of frames stands what begins with none: then the lists are one
frames_one : Short → Apart → (p q : List LogRecord) (x y : List ℕ) → AllByRecursion IsRecord p → AllByRecursion IsRecord q → NoFrame x → NoFrame y → frames p ++ x ≡ frames q ++ y
    → (p ≡ q) × (x ≡ y)
frames_one short apart [] [] x y p_good q_good x_stops y_stops e = (refl, e)
frames_one short apart [] (r ∷ q) x y p_good q_good x_stops y_stops e = absurd (x_stops r (frames q ++ y) q_good.0 (e ∙ append_assoc (frame r) (frames q) y))
frames_one short apart (r ∷ p) [] x y p_good q_good x_stops y_stops e = absurd (y_stops r (frames p ++ x) p_good.0 (sym e ∙ append_assoc (frame r) (frames p) x))
frames_one short apart (r ∷ p) (s ∷ q) x y p_good q_good x_stops y_stops e =
    let first = frame_one short apart r s (frames p ++ x) (frames q ++ y) p_good.0 q_good.0 (sym (append_assoc (frame r) (frames p) x) ∙ e ∙ append_assoc (frame s) (frames q) y) in
    let others = frames_one short apart p q x y p_good.1 q_good.1 x_stops y_stops first.1 in
    (ap (λ (t : LogRecord). t ∷ p) first.0 ∙ ap (λ (ts : List LogRecord). s ∷ ts) others.0, others.1)

nothing_stops : NoFrame []
nothing_stops r more good e = omega (arith, ap length e, frame_some r more)

held_is : (bytes : List ℕ) (p : List LogRecord) → Holds bytes p → bytes ≡ frames p ++ []
held_is bytes p h = h.is ∙ sym (append-nil (frames p))

pub one_list : Short → Apart → (bytes : List ℕ) (p q : List LogRecord) → Holds bytes p → Holds bytes q → p ≡ q
one_list short apart bytes p q h k = (frames_one short apart p q [] [] h.records k.records nothing_stops nothing_stops (sym (held_is bytes p h) ∙ held_is bytes q k)).0

pub one_offset : Short → Apart → (bytes : List ℕ) (m n : ℕ) → IsBroken bytes m → IsBroken bytes n → m ≡ n
one_offset short apart bytes m n h k =
    let same = frames_one short apart h.before k.before h.rest k.rest h.records k.records h.none k.none (sym h.is ∙ k.is) in
    h.at ∙ ap (λ (rs : List LogRecord). length (frames rs)) same.0 ∙ sym k.at

pub not_both : Short → Apart → (bytes : List ℕ) (p : List LogRecord) (n : ℕ) → Holds bytes p → IsBroken bytes n → ⊥
not_both short apart bytes p n h k =
    k.some (sym (frames_one short apart p k.before [] k.rest h.records k.records nothing_stops k.none (sym (held_is bytes p h) ∙ k.is)).1)

-- The last word on a path among versions, entries that are recorded one after another, and the course of a form's commands.
use Rattle.std.proofs.Common.{◌≡◌, ℕ, ◌+◌, ◌<◌, ◌≤◌, true, false, List, [], ◌∷◌, ◌++◌, Some, Result, Ok, Err, refl, sym, ap, ◌∙◌, length, take, drop, get_or, arith, add-one, suc, zero}
use Rattle.std.proofs.lemmas.List.{map-append, append_assoc, append-nil}
use Rattle.std.proofs.Math.ListN.{drop_of_length-le}
use Rattle.std.proofs.Math.Seq.{take-suc, drop-cons, take-append_seam, take-append-add}
use Rattle.hybrid_time.specs.declared.time_refusal.TimeRefusal.{TimeRefusal}
use Rattle.doc_path.specs.Path.{Parts, is_prefix}
use Rattle.txn_data.specs.declared.version.Version.{Version}
use Rattle.txn_data.specs.declared.written.Written.{Written}
use Rattle.txn_data.specs.declared.command.Command.{Command}
use Rattle.txn_data.specs.declared.command.Command.TheVariants as command
use Rattle.txn_types.specs.Writes.{last_word}
use Rattle.txn_data.specs.declared.entry.Entry.{Entry}
use Rattle.txn_data.specs.declared.told.Told.{Told}
use Rattle.docdb_run.specs.Form.{IsFormLine, AreFormLines, clock_after}
use Rattle.docdb_run.specs.Course.{Course, writes_of, single_time, after_single, entries_of, told_of, course_after, entries_from, told_from}

-- the last write counts where its path is a prefix, and else the writes before it
pub last_word_is : (ws : List Written) (w : Written) (p : Parts) → is_prefix w.path p ≡ true → last_word (ws ++ w ∷ []) p ≡ Some w
unfolding last_word
last_word_is [] w p h = rw h refl
last_word_is (x ∷ ws) w p h = rw (last_word_is ws w p h) refl

pub last_word_not : (ws : List Written) (w : Written) (p : Parts) → is_prefix w.path p ≡ false →
    last_word (ws ++ w ∷ []) p ≡ last_word ws p
unfolding last_word
last_word_not [] w p h = rw h refl
last_word_not (x ∷ ws) w p h = rw (last_word_not ws w p h) refl

abbrev pub written : Version → Written
written v = record { path = v.path; op = v.op }

-- of the first i versions the last one counts where its path is a prefix, and else those before it
pub writes_more : (vs : List Version) (i j : ℕ) (v : Version) → j + 1 ≡ i → j < length vs → v ≡ get_or vs j v →
    writes_of (take i vs) ≡ writes_of (take j vs) ++ written v ∷ []
writes_more vs i j v s h e =
    rw (← s, add-one, take-suc vs j v h, ← e) (map-append written (take j vs) (v ∷ []))

pub word_is : (vs : List Version) (i j : ℕ) (v : Version) (p : Parts) → j + 1 ≡ i → j < length vs → v ≡ get_or vs j v →
    is_prefix v.path p ≡ true → last_word (writes_of (take i vs)) p ≡ Some (written v)
word_is vs i j v p s h e is =
    rw (writes_more vs i j v s h e) (last_word_is (writes_of (take j vs)) (written v) p is)

pub word_not : (vs : List Version) (i j : ℕ) (v : Version) (p : Parts) → j + 1 ≡ i → j < length vs → v ≡ get_or vs j v →
    is_prefix v.path p ≡ false → last_word (writes_of (take i vs)) p ≡ last_word (writes_of (take j vs)) p
word_not vs i j v p s h e is =
    rw (writes_more vs i j v s h e) (last_word_not (writes_of (take j vs)) (written v) p is)

-- a beginning of some entries is one of those with more after them
pub begins : {A : Type 0} (n : ℕ) (ys zs : List A) → (m : ℕ) × (take n ys ≡ take m (ys ++ zs))
begins zero ys zs = (0, refl)
begins (suc n) [] zs = (0, refl)
begins {A} (suc n) (y ∷ ys) zs =
    let rest = begins n ys zs in (suc rest.0, ap (λ (xs : List A). y ∷ xs) rest.1)

pub begins_after : {A : Type 0} (all xs ys zs : List A) (n : ℕ) → all ≡ xs ++ (ys ++ zs) →
    (m : ℕ) × (xs ++ take n ys ≡ take m all)
begins_after {A} all xs ys zs n e =
    let rest = begins n ys zs in
    (length xs + rest.0, rw e (ap (λ (ts : List A). xs ++ ts) rest.1 ∙ sym (take-append-add xs (ys ++ zs) rest.0)))

-- a single write leaves the clock, and begins one command
single_clock : (k : Course) (path : Parts) (v : List ℕ) (t : Result ℕ TimeRefusal) → k.clock ≡ (after_single k path v t).clock
single_clock k path v (Ok c) = refl
single_clock k path v (Err e) = refl

single_commands : (k : Course) (path : Parts) (v : List ℕ) (t : Result ℕ TimeRefusal) →
    (after_single k path v t).commands ≡ k.commands + 1
single_commands k path v (Ok c) = refl
single_commands k path v (Err e) = refl

-- a command moves the clock as its line says, and begins one command at most
pub clock_moves : (k : Course) (c : Command) → clock_after k.clock c ≡ (course_after k c).clock
clock_moves k (command.SinglePut place v priority) = single_clock k place.path v (single_time k)
clock_moves k (command.Read strict (place ∷ more)) = refl
clock_moves k (command.Clock node micros) = refl
clock_moves k line = refl

pub commands_move : (k : Course) (c : Command) → (course_after k c).commands ≤ k.commands + 1
commands_move k (command.SinglePut place v priority) =
    let e = single_commands k place.path v (single_time k) in omega arith
commands_move k (command.Read strict (place ∷ more)) = omega arith
commands_move k (command.Clock node micros) = omega arith
commands_move k line = omega arith

-- one more command of a list
pub told_more : (all ts : List Told) (k : Course) (cs : List Command) (i : ℕ) (c : Command) → i < length cs → c ≡ get_or cs i c →
    all ≡ ts ++ told_from k (drop i cs) → all ≡ (ts ++ told_of k c ∷ []) ++ told_from (course_after k c) (drop (i + 1) cs)
unfolding told_from
told_more all ts k cs i c h e is =
    let step = rw (drop-cons cs i c h, ← e) at is in
    rw (append_assoc, add-one) step

pub entries_more : (all es : List Entry) (k : Course) (cs : List Command) (i : ℕ) (c : Command) → i < length cs →
    c ≡ get_or cs i c → all ≡ es ++ entries_from k (drop i cs) →
    all ≡ (es ++ entries_of k c) ++ entries_from (course_after k c) (drop (i + 1) cs)
unfolding entries_from
entries_more all es k cs i c h e is =
    let step = rw (drop-cons cs i c h, ← e) at is in
    rw (append_assoc, add-one) step

pub form_here : (clock : ℕ) (cs : List Command) (i : ℕ) (c : Command) → i < length cs → c ≡ get_or cs i c →
    AreFormLines clock (drop i cs) → IsFormLine clock c × AreFormLines (clock_after clock c) (drop (i + 1) cs)
unfolding AreFormLines
form_here clock cs i c h e lines =
    let here = rw (drop-cons cs i c h, ← e) at lines in
    rw add-one here

-- no more commands
pub told_done : (all ts : List Told) (k : Course) (cs : List Command) (i : ℕ) → length cs ≤ i →
    all ≡ ts ++ told_from k (drop i cs) → all ≡ ts
unfolding told_from
told_done all ts k cs i h is =
    let step = rw (drop_of_length-le cs {i = i} h) at is in
    step ∙ append-nil ts

pub entries_done : (all es : List Entry) (k : Course) (cs : List Command) (i : ℕ) → length cs ≤ i →
    all ≡ es ++ entries_from k (drop i cs) → all ≡ es
unfolding entries_from
entries_done all es k cs i h is =
    let step = rw (drop_of_length-le cs {i = i} h) at is in
    step ∙ append-nil es

-- what is recorded before, within and after a command is a beginning of all entries
pub whole_begins : (all xs zs pass : List Entry) → all ≡ xs ++ zs → (m : ℕ) × (xs ≡ take m (all ++ pass))
whole_begins all xs zs pass e =
    (length xs, rw (e, append_assoc) (sym (take-append_seam xs (zs ++ pass))))

pub within_begins : (all es pass : List Entry) (k : Course) (cs : List Command) (i : ℕ) (c : Command) (n : ℕ) → i < length cs →
    c ≡ get_or cs i c → all ≡ es ++ entries_from k (drop i cs) →
    (m : ℕ) × (es ++ take n (entries_of k c) ≡ take m (all ++ pass))
within_begins all es pass k cs i c n h e is =
    let step = entries_more all es k cs i c h e is in
    begins_after (all ++ pass) es (entries_of k c) (entries_from (course_after k c) (drop (i + 1) cs) ++ pass) n
    (rw step (simp append_assoc))

pub end_begins : (all es pass : List Entry) (n : ℕ) → all ≡ es → (m : ℕ) × (es ++ take n pass ≡ take m (all ++ pass))
end_begins all es pass n e = begins_after (all ++ pass) es pass [] n (rw (e, append-nil) refl)

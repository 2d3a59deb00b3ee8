-- How the top call ends, from what its parts did.
use Rattle.std.proofs.Common.{◌≡◌, ℕ, ◌<◌, ◌≤◌, ◌+◌, Bool, true, false, List, [], ◌∷◌, ◌++◌, Option, Some, None, refl, sym, ap, ◌∙◌, arith, length, reverse, take, drop, subst, inl, inr, ◌⊎◌, nat_lt, nat_eq, if◌then◌else◌, IfSome, append_assoc, codes, suc}
use Rattle.std.proofs.lemmas.Bool.{lt-ltb, eqb-true, ltb-true, ltb-false}
use Rattle.std.proofs.lemmas.List.{append-nil, reverse-append, take-append-drop, take_all, length-take}
use Rattle.std.proofs.lemmas.Slice.Eq.{bytes_eq-Decides}
use Rattle.std.proofs.Math.Seq.{take-append_seam, take-length}
use Rattle.txn_data.specs.declared.actor.Actor.{Actor}
use Rattle.txn_data.specs.declared.actor.Actor.TheVariants.{Session}
use Rattle.txn_data.specs.declared.command.Command.{Command}
use Rattle.txn_data.specs.declared.told.Told.{Told}
use Rattle.txn_data.specs.declared.told.Told.TheVariants as told
use Rattle.txn_data.specs.declared.entry.Entry.{Entry}
use Rattle.txn_types.specs.History.{History, same_actor}
use Rattle.txn_types.specs.Run.{Steps}
use Rattle.docdb_run.specs.BeforeLogs.{as_logged}
use Rattle.txn_types.specs.Script.{lines, line_by, commands_of, Follows}
use Rattle.docdb_run.specs.Form.{Accepted, Later, form_of, plan_of, cluster, most_bytes, IsForm}
use Rattle.docdb_run.specs.Text.{text_of, report_text}
use Rattle.docdb_run.specs.Course.{Course, at_first, all_entries, told_from, course_after}
use Rattle.docdb_run.specs.Outcome.{IsRun, IsWholeRun, Call, WroteTo, PartTo, EndsWriting, are_sim, Wrote, WrotePart, sim, refused_words, refused_read, refused_script, WordsRefused, ReadFailed, ScriptRefused, IsAccepted, history, SinkFailed, Ends}
use Rattle.docdb_run.proofs.Courses.{whole_history, whole_run, earlier_steps, is_cluster}
use Rattle.docdb_run.proofs.SoundSteps.{whole_final, whole_right, whole_steady}
use Rattle.docdb_run.proofs.Whole.{whole_lines, silent_whole, plan_one, plan_other, whole_follows, whole_whole}
use Rattle.docdb_run.proofs.Scheduling.{whole_scheduled}
use Rattle.docdb_run.proofs.Causes.{whole_caused}
use Rattle.docdb_run.proofs.TextOf.{whole_text}

-- a whole course
pub whole_is_run : (cs : List Command) → IsForm cs → IsWholeRun cs (whole_history cs)
whole_is_run cs f = record {
  is_run = record { run = whole_run cs f; follows = whole_follows cs f };
  whole = whole_whole cs f;
  scheduled = whole_scheduled cs f;
  final = whole_final cs f;
  right = whole_right cs f;
  steady = whole_steady cs f;
  causes = whole_caused cs f;
}

-- a part of one: what a mover started so far is the first part of what it starts in all
chosen_more : (b : Bool) (xs ys more line : List Command) → xs ≡ ys ++ more → (out : List Command) × ((if b then xs ++ line else xs) ≡ ys ++ out)
chosen_more true xs ys more line is = (more ++ line, ap (λ (zs : List Command). zs ++ line) is ∙ append_assoc ys more line)
chosen_more false xs ys more line is = (more, is)

lines_more : (a : Actor) (later h : History) → (more : List Command) × (lines a (later ++ h) ≡ lines a h ++ more)
unfolding lines
lines_more a [] h = ([], sym (append-nil (lines a h)))
lines_more a (e ∷ later) h =
    let before = lines_more a later h in
    chosen_more (same_actor e.actor a) (lines a (later ++ h)) (lines a h) before.0 (line_by e.event) before.1

two_ways : (b : Bool) (i : ℕ) → nat_eq 1 i ≡ b → (nat_eq 1 i ≡ true) ⊎ (nat_eq 1 i ≡ false)
two_ways true i is = inl is
two_ways false i is = inr is

planned_is : (cs : List Command) → IsForm cs → (i : ℕ) → lines (Session i) (whole_history cs) ≡ commands_of i (plan_of cs).sessions
planned_is cs f i = elim (two_ways (nat_eq 1 i) i refl) [
  | inl same ↦ subst (λ (n : ℕ). lines (Session n) (whole_history cs) ≡ commands_of n (plan_of cs).sessions) (eqb-true 1 i same)
      (whole_lines cs f ∙ sym (plan_one cs))
  | inr other ↦ silent_whole (Session i) cs f other refl refl ∙ sym (plan_other cs i other)
]

abbrev pub part_of : List Command → ℕ → History
part_of cs n = reverse (take n (all_entries cs))

whole_parts : (cs : List Command) (n : ℕ) → whole_history cs ≡ reverse (drop n (all_entries cs)) ++ part_of cs n
whole_parts cs n =
    ap (λ (es : List Entry). reverse es) (sym (take-append-drop n (all_entries cs)))
    ∙ reverse-append (take n (all_entries cs)) (drop n (all_entries cs))

pub part_follows : (cs : List Command) → IsForm cs → (n : ℕ) → Follows (plan_of cs) (part_of cs n)
part_follows cs f n i =
    let more = lines_more (Session i) (reverse (drop n (all_entries cs))) (part_of cs n) in
    let started : List Command = lines (Session i) (part_of cs n) in
    let planned : started ++ more.0 ≡ commands_of i (plan_of cs).sessions =
    sym more.1 ∙ ap (lines (Session i)) (sym (whole_parts cs n)) ∙ planned_is cs f i in
    inl (sym (take-append_seam started more.0) ∙ ap (take (length started)) planned)

pub part_is_run : (cs : List Command) → IsForm cs → (n : ℕ) → IsRun cs (part_of cs n)
part_is_run cs f n = record {
  run = (
    is_cluster,
    earlier_steps (reverse (drop n (all_entries cs))) (part_of cs n)
        (subst (λ (h : History). Steps cluster (as_logged cluster h)) (whole_parts cs n) (whole_run cs f).1),
  );
  follows = part_follows cs f n;
}

-- the script that was read: all bytes where they are told, of which no more than one past the limit counts
over_most : (b : Bool) (full : List ℕ) → nat_lt most_bytes (length full) ≡ b → form_of (take (most_bytes + 1) full) ≡ form_of full
over_most true full lt =
    let long : most_bytes < length full = ltb-true most_bytes (length full) lt in
    let taken : nat_lt most_bytes (length (take (most_bytes + 1) full)) ≡ true =
    lt-ltb most_bytes (length (take (most_bytes + 1) full)) (omega (arith, length-take (most_bytes + 1) full)) in
    rw (taken, lt) refl
over_most false full lt =
    let short : length full ≤ most_bytes = ltb-false most_bytes (length full) lt in
    ap form_of (take_all (most_bytes + 1) full (omega arith))

pub same_form : (full : List ℕ) → form_of (take (most_bytes + 1) full) ≡ form_of full
same_form full = over_most (nat_lt most_bytes (length full)) full refl

-- what reading a source to its end gives
abbrev pub WasTaken : Option (List ℕ) → Option (List ℕ) → List ℕ → Type 0
WasTaken left after bytes = IfSome left (λ full. (bytes ≡ take (most_bytes + 1) full) × (after ≡ Some (drop (most_bytes + 1) full)))

abbrev pub script_in : Option (List ℕ) → List ℕ → List ℕ
script_in None bytes = bytes
script_in (Some full) bytes = full

read_in : (left after : Option (List ℕ)) (bytes : List ℕ) → WasTaken left after bytes →
    IfSome left (λ full. (full ≡ script_in left bytes) × (after ≡ Some (drop (most_bytes + 1) full)))
read_in None after bytes t = tt
read_in (Some full) after bytes t = (refl, t.1)

form_in : (left after : Option (List ℕ)) (bytes : List ℕ) → WasTaken left after bytes → form_of (script_in left bytes) ≡ form_of bytes
form_in None after bytes t = refl
form_in (Some full) after bytes t = sym (same_form full) ∙ ap form_of (sym t.0)

pub accepted_if : (c : Call) (bytes : List ℕ) (cs : List Command) → c.words ≡ sim → WasTaken c.left c.left_after bytes →
    form_of bytes ≡ Accepted cs → IsAccepted c cs
accepted_if c bytes cs words t is = record {
  words = words;
  script = script_in c.left bytes;
  read = read_in c.left c.left_after bytes t;
  accepted = form_in c.left c.left_after bytes t ∙ is;
}

pub refused_if : (c : Call) (bytes : List ℕ) (line : ℕ) → c.words ≡ sim → WasTaken c.left c.left_after bytes →
    form_of bytes ≡ Later line → ScriptRefused c line
refused_if c bytes line words t is = record {
  words = words;
  script = script_in c.left bytes;
  read = read_in c.left c.left_after bytes t;
  later = form_in c.left c.left_after bytes t ∙ is;
}

-- nothing recorded is a run too
pub empty_run : IsRun [] []
unfolding lines commands_of Steps as_logged
empty_run = record { run = (is_cluster, tt); follows = λ i. inl refl }

-- the endings
pub ends_words : (c : Call) → WordsRefused c → Wrote c refused_words → c.entries ≡ [] → Ends 2 c
ends_words c refused wrote empty = inr (inr (inl (refl, refused, wrote, empty)))

pub ends_read : (c : Call) → ReadFailed c → Wrote c refused_read → c.entries ≡ [] → Ends 4 c
ends_read c failed wrote empty = inr (inr (inr (inr (inl (refl, failed, wrote, empty)))))

pub ends_script : (c : Call) (line : ℕ) → ScriptRefused c line → Wrote c (refused_script line) → c.entries ≡ [] → Ends 1 c
ends_script c line refused wrote empty = inr (inl (refl, (line, refused, wrote, empty)))

-- out of memory before anything is recorded, and in the middle of a run
pub ends_before : (c : Call) → Wrote c [] → c.entries ≡ [] → Ends 3 c
ends_before c nothing empty = inr (inr (inr (inl (
  refl,
  record {
    commands = [];
    accepted = inl empty;
    run = subst (λ (es : List Entry). IsRun [] (reverse es)) (sym empty) empty_run;
    nothing = nothing;
  },
))))

pub ends_within : (c : Call) (cs : List Command) (n : ℕ) → IsAccepted c cs → IsForm cs → Wrote c [] → c.entries ≡ take n (all_entries cs) → Ends 3 c
ends_within c cs n accepted f nothing part = inr (inr (inr (inl (
  refl,
  record {
    commands = cs;
    accepted = inr accepted;
    run = subst (λ (es : List Entry). IsRun cs (reverse es)) (sym part) (part_is_run cs f n);
    nothing = nothing;
  },
))))

-- the sink failed under a refusal
pub ends_broken_words : (c : Call) → WordsRefused c → SinkFailed c → WrotePart c refused_words → c.entries ≡ [] → Ends 5 c
ends_broken_words c refused failed part empty =
    inr (inr (inr (inr (inr (refl, failed, inl (refused, record { empty = empty; part = part }))))))

pub ends_broken_read : (c : Call) → ReadFailed c → SinkFailed c → WrotePart c refused_read → c.entries ≡ [] → Ends 5 c
ends_broken_read c refused failed part empty =
    inr (inr (inr (inr (inr (refl, failed, inr (inl (refused, record { empty = empty; part = part })))))))

pub ends_broken_script : (c : Call) (line : ℕ) → ScriptRefused c line → SinkFailed c → WrotePart c (refused_script line) → c.entries ≡ [] → Ends 5 c
ends_broken_script c line refused failed part empty =
    inr (inr (inr (inr (inr (refl, failed, inr (inr (inl (line, refused, record { empty = empty; part = part }))))))))

-- a whole run, and its report or a part of it
pub whole_of : (c : Call) (cs : List Command) → IsForm cs → c.entries ≡ all_entries cs → IsWholeRun cs (history c)
whole_of c cs f all = subst (λ (es : List Entry). IsWholeRun cs (reverse es)) (sym all) (whole_is_run cs f)

abbrev pub report_of : List Command → List ℕ
report_of cs = report_text cs (told_from at_first cs) (told.Passed 0 0 0)

pub text_is : (c : Call) (cs : List Command) → IsForm cs → c.entries ≡ all_entries cs → report_of cs ≡ text_of cluster (plan_of cs) (history c)
text_is c cs f all =
    sym (whole_text cs f) ∙ ap (λ (es : List Entry). text_of cluster (plan_of cs) (reverse es)) (sym all)

pub ends_done : (c : Call) (cs : List Command) → IsAccepted c cs → IsForm cs → c.entries ≡ all_entries cs → Wrote c (report_of cs) → Ends 0 c
ends_done c cs accepted f all wrote = inl (
  refl,
  record {
    commands = cs;
    accepted = accepted;
    whole = whole_of c cs f all;
    text = subst (λ (bytes : List ℕ). Wrote c bytes) (text_is c cs f all) wrote;
  },
)

pub ends_broken_report : (c : Call) (cs : List Command) → IsAccepted c cs → IsForm cs → c.entries ≡ all_entries cs → SinkFailed c →
    WrotePart c (report_of cs) → Ends 5 c
ends_broken_report c cs accepted f all failed part =
    inr (inr (inr (inr (inr (
      refl,
      failed,
      inr (inr (inr (record {
        commands = cs;
        accepted = accepted;
        whole = whole_of c cs f all;
        part = subst (λ (bytes : List ℕ). WrotePart c bytes) (text_is c cs f all) part;
      }))),
    )))))

-- which words they are
pub sim_words : (words : List (List ℕ)) → are_sim words ≡ true → words ≡ sim
sim_words [] is = cc
sim_words (word ∷ []) is = ap (λ (w : List ℕ). w ∷ []) ((bytes_eq-Decides word (codes "sim")).0 is)
sim_words (word ∷ other ∷ more) is = cc

pub other_words : (words : List (List ℕ)) → are_sim words ≡ false → words ≡ sim → ⊥
other_words words is same =
    let yes : are_sim words ≡ true = subst (λ (ws : List (List ℕ)). are_sim ws ≡ true) (sym same) refl in
    let no : true ≡ false = sym yes ∙ is in cc

-- nothing was written
pub nothing_written : (taken : Option (List ℕ)) → WroteTo taken taken []
nothing_written None = tt
nothing_written (Some before) = ap (λ (bytes : List ℕ). Some bytes) (sym (append-nil before))

-- a text was written, or the sink failed
abbrev pub WroteOr : Call → List ℕ → ℕ → ℕ → Type 0
WroteOr c text own status =
    EndsWriting c.taken c.taken_after c.sink_faults c.sink_faults_after c.sink_stalls c.sink_stalls_after text own status

pub ends_as : (c : Call) (status own : ℕ) → status ≡ own → Ends own c → Ends status c
ends_as c status own is ends = subst (λ (n : ℕ). Ends n c) (sym is) ends

pub words_end : (c : Call) (status : ℕ) (text : List ℕ) → WordsRefused c → c.entries ≡ [] → text ≡ refused_words → WroteOr c text 2 status → Ends status c
words_end c status text refused empty is written =
    let wrote : WroteOr c refused_words 2 status = subst (λ (bytes : List ℕ). WroteOr c bytes 2 status) is written in
    elim wrote [
      | inl whole ↦ ends_as c status 2 whole.0 (ends_words c refused whole.1 empty)
      | inr broken ↦ ends_as c status 5 broken.0 (ends_broken_words c refused broken.1 broken.2 empty)
    ]

pub read_end : (c : Call) (status : ℕ) (text : List ℕ) → ReadFailed c → c.entries ≡ [] → text ≡ refused_read → WroteOr c text 4 status → Ends status c
read_end c status text failed empty is written =
    let wrote : WroteOr c refused_read 4 status = subst (λ (bytes : List ℕ). WroteOr c bytes 4 status) is written in
    elim wrote [
      | inl whole ↦ ends_as c status 4 whole.0 (ends_read c failed whole.1 empty)
      | inr broken ↦ ends_as c status 5 broken.0 (ends_broken_read c failed broken.1 broken.2 empty)
    ]

pub script_end : (c : Call) (status line : ℕ) (text : List ℕ) → ScriptRefused c line → c.entries ≡ [] → text ≡ refused_script line →
    WroteOr c text 1 status → Ends status c
script_end c status line text refused empty is written =
    let wrote : WroteOr c (refused_script line) 1 status = subst (λ (bytes : List ℕ). WroteOr c bytes 1 status) is written in
    elim wrote [
      | inl whole ↦ ends_as c status 1 whole.0 (ends_script c line refused whole.1 empty)
      | inr broken ↦ ends_as c status 5 broken.0 (ends_broken_script c line refused broken.1 broken.2 empty)
    ]

pub report_end : (c : Call) (status : ℕ) (cs : List Command) (text : List ℕ) → IsAccepted c cs → IsForm cs → c.entries ≡ all_entries cs →
    text ≡ report_of cs → WroteOr c text 0 status → Ends status c
report_end c status cs text accepted f all is written =
    let wrote : WroteOr c (report_of cs) 0 status = subst (λ (bytes : List ℕ). WroteOr c bytes 0 status) is written in
    elim wrote [
      | inl whole ↦ ends_as c status 0 whole.0 (ends_done c cs accepted f all whole.1)
      | inr broken ↦ ends_as c status 5 broken.0 (ends_broken_report c cs accepted f all broken.1 broken.2)
    ]

-- a part, where the sink tells what it has taken
pub part_written : (taken after : Option (List ℕ)) (text : List ℕ) →
    IfSome taken (λ before. (n : ℕ) × (after ≡ Some (before ++ take n text))) → PartTo taken after text
part_written None after text p = (0, tt)
part_written (Some before) after text p = (p.0, p.1)

-- each command is told something
told_count : (k : Course) (cs : List Command) → length (told_from k cs) ≡ length cs
unfolding told_from
told_count k [] = refl
told_count k (c ∷ cs) = ap suc (told_count (course_after k c) cs)

pub told_length : (cs : List Command) → length (told_from at_first cs) ≡ length cs
told_length cs = told_count at_first cs

pub as_many : (cs : List Command) (tolds : List Told) → tolds ≡ told_from at_first cs → length tolds ≡ length cs
as_many cs tolds is = ap (λ (ts : List Told). length ts) is ∙ told_length cs

pub within_word : (cs : List Command) (tolds : List Told) → IsForm cs → tolds ≡ told_from at_first cs → length tolds < 4294967296
within_word cs tolds f is =
    let same : length tolds ≡ length cs = as_many cs tolds is in
    let few : length cs ≤ 100000 = f.few in omega arith

-- all entries are a part too
pub all_taken : (cs : List Command) (es : List Entry) → es ≡ all_entries cs → es ≡ take (length (all_entries cs)) (all_entries cs)
all_taken cs es is = is ∙ sym (take-length (all_entries cs))

-- the report of the same commands and of what they were told
pub same_report : (cs ds : List Command) (tolds : List Told) → ds ≡ cs → tolds ≡ told_from at_first cs →
    report_text ds tolds (told.Passed 0 0 0) ≡ report_of cs
same_report cs ds tolds same is =
    ap (λ (xs : List Command). report_text xs tolds (told.Passed 0 0 0)) same
    ∙ ap (λ (ts : List Told). report_text cs ts (told.Passed 0 0 0)) is

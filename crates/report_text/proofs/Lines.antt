-- The lines of what is kept are those of the history.
use Rattle.std.proofs.Common.{◌≡◌, ℕ, zero, suc, ◌+◌, ◌<◌, ◌≤◌, Bool, true, false, List, ◌∷◌, ◌++◌, Option, Some, None, length, flat_map, get_or, drop, refl, sym, ap, ◌∙◌, arith, add-zero, add-one, append_assoc}
use Rattle.std.proofs.lemmas.List.{append-nil, drop_all, drop_more}
use Rattle.txn_data.specs.declared.actor.Actor.TheVariants.{Applier}
use Rattle.txn_data.specs.declared.told.Told.{Told}
use Rattle.txn_data.specs.declared.config.Config.{Config}
use Rattle.txn_types.specs.History.{History}
use Rattle.txn_types.specs.Script.{from_up}
use Rattle.txn_types.specs.Settled.{last_told}
use Rattle.report_text.specs.declared.counts.Counts.{Counts}
use Rattle.report_text.specs.Shown.{Shown, SessionShown}
use Rattle.report_text.specs.Answer.{answer_text}
use Rattle.report_text.specs.Line.{command_call, line_text}
use Rattle.report_text.specs.Text.{numbered_lines, session_lines, pass_line, last_pass, last_session, lines_of, text_with}
use Rattle.report_text.specs.Total.{total_text}
use Rattle.report_text.specs.Walk.{Saw, kept_lines, kept_pass, kept_passes, last_shown, nothing_shown}

-- two functions that agree on the numbers
flat_map_up : (f g : ℕ → List ℕ) (n k : ℕ) → ((i : ℕ) → n ≤ i → i < n + k → f i ≡ g i) → flat_map f (from_up n k) ≡ flat_map g (from_up n k)
unfolding from_up
flat_map_up f g n zero same = refl
flat_map_up f g n (suc k) same =
    ap (λ (first : List ℕ). first ++ flat_map f (from_up (n + 1) k)) (same n (omega arith) (omega arith))
    ∙ ap (λ (rest : List ℕ). g n ++ rest) (flat_map_up f g (n + 1) k (λ i low high. same i (omega arith) (omega arith)))

-- one number more
flat_map_suc : (f : ℕ → List ℕ) (n k : ℕ) → flat_map f (from_up n (suc k)) ≡ flat_map f (from_up n k) ++ f (n + k)
unfolding from_up
flat_map_suc f n zero = append-nil (f n) ∙ ap f (sym (add-zero n))
flat_map_suc f n (suc k) =
    let next : n + 1 + k ≡ n + suc k = omega arith in
    ap (λ (rest : List ℕ). f n ++ rest) (flat_map_suc f (n + 1) k)
    ∙ (sym (append_assoc (f n) (flat_map f (from_up (n + 1) k)) (f (n + 1 + k)))
    ∙ ap (λ (m : ℕ). (f n ++ flat_map f (from_up (n + 1) k)) ++ f m) next)

pub flat_map_more : (f : ℕ → List ℕ) (n k m : ℕ) → m ≡ k + 1 → flat_map f (from_up n m) ≡ flat_map f (from_up n k) ++ f (n + k)
flat_map_more f n k m is = ap (λ (x : ℕ). flat_map f (from_up n x)) (is ∙ add-one k) ∙ flat_map_suc f n k

pass_is : (json : Bool) (k : ℕ) (last : Option Told) → kept_pass json k (last_shown last) ≡ pass_line json k last
pass_is json k None = refl
pass_is json k (Some t) = refl

pub kept_is : (config : Config) (json : Bool) (h : History) (sessions : List SessionShown) (passes : List (Option Shown)) (n : Counts) →
    Saw config h sessions passes n →
    flat_map (kept_lines json sessions) (from_up 1 last_session) ++ flat_map (kept_passes json passes) (from_up 0 (length passes))
    ≡ lines_of config json h
kept_is config json h sessions passes n s =
    ap (λ (lines : List ℕ). lines ++ flat_map (kept_passes json passes) (from_up 0 (length passes)))
    (flat_map_up (kept_lines json sessions) (session_lines config json h) 1 last_session
    (λ i low high. ap (λ (x : SessionShown). numbered_lines json i 1 x.lines) (s.sessions i nothing_shown (omega arith))))
    ∙ ap (λ (lines : List ℕ). flat_map (session_lines config json h) (from_up 1 last_session) ++ lines)
    (ap (λ (k : ℕ). flat_map (kept_passes json passes) (from_up 0 k)) s.tablets
    ∙ flat_map_up (kept_passes json passes) (last_pass json h) 0 config.tablets
    (λ k low high. ap (kept_pass json k) (s.passes k None (omega arith)) ∙ pass_is json k (last_told (Applier k) h)))

-- the text with one session more
pub one_more : (f : ℕ → List ℕ) (start text new : List ℕ) (low i m k : ℕ) → i ≡ low + k → m ≡ k + 1 →
    text ≡ start ++ flat_map f (from_up low k) → new ≡ text ++ f i → new ≡ start ++ flat_map f (from_up low m)
one_more f start text new low i m k place next was put =
    put ∙ (ap (λ (t : List ℕ). t ++ f i) was
    ∙ (append_assoc start (flat_map f (from_up low k)) (f i)
    ∙ ap (λ (t : List ℕ). start ++ t) (ap (λ (x : ℕ). flat_map f (from_up low k) ++ f x) place ∙ sym (flat_map_more f low k m next))))

-- the line at this place, and those that are left
pub lines_at : (json : Bool) (session number : ℕ) (ls : List Shown) (i : ℕ) (s : Shown) → i < length ls → s ≡ get_or ls i s →
    numbered_lines json session number (drop i ls)
    ≡ line_text json (command_call session number) s.word (answer_text s.told) ++ numbered_lines json session (number + 1) (drop (i + 1) ls)
unfolding numbered_lines
lines_at json session number ls i s lt is =
    ap (numbered_lines json session number) (drop_more ls i s lt ∙ ap (λ x. x ∷ drop (i + 1) ls) (sym is))

pub line_more : (json : Bool) (session : ℕ) (ls : List Shown) (i : ℕ) (s : Shown) (text new whole : List ℕ) → i < length ls → s ≡ get_or ls i s →
    text ++ numbered_lines json session (i + 1) (drop i ls) ≡ whole →
    new ≡ text ++ line_text json (command_call session (i + 1)) s.word (answer_text s.told) →
    new ++ numbered_lines json session (i + 1 + 1) (drop (i + 1) ls) ≡ whole
line_more json session ls i s text new whole lt is was put =
    let line = line_text json (command_call session (i + 1)) s.word (answer_text s.told) in
    let rest = numbered_lines json session (i + 1 + 1) (drop (i + 1) ls) in
    ap (λ (t : List ℕ). t ++ rest) put
    ∙ (append_assoc text line rest ∙ (ap (λ (t : List ℕ). text ++ t) (sym (lines_at json session (i + 1) ls i s lt is)) ∙ was))

pub line_end : (json : Bool) (session : ℕ) (ls : List Shown) (i : ℕ) (text whole : List ℕ) → length ls ≤ i →
    text ++ numbered_lines json session (i + 1) (drop i ls) ≡ whole → text ≡ whole
unfolding numbered_lines
line_end json session ls i text whole over was =
    sym (ap (λ (l : List Shown). text ++ numbered_lines json session (i + 1) l) (drop_all i ls over) ∙ append-nil text) ∙ was

-- all of it
pub whole : (config : Config) (json : Bool) (h : History) (sessions : List SessionShown) (passes : List (Option Shown)) (n : Counts) (agree : Bool)
    (a b c : List ℕ) → Saw config h sessions passes n → a ≡ flat_map (kept_lines json sessions) (from_up 1 last_session) →
    b ≡ a ++ flat_map (kept_passes json passes) (from_up 0 (length passes)) → c ≡ b ++ total_text json n agree → c ≡ text_with config json false h agree
whole config json h sessions passes n agree a b c s p q r =
    r ∙ (ap (λ (t : List ℕ). t ++ total_text json n agree) (q ∙ (ap (λ (t : List ℕ). t ++ flat_map (kept_passes json passes) (from_up 0 (length passes))) p
    ∙ kept_is config json h sessions passes n s))
    ∙ ap (λ (m : Counts). lines_of config json h ++ total_text json m agree) s.counts)

pub alone : (config : Config) (json : Bool) (h : History) (sessions : List SessionShown) (passes : List (Option Shown)) (n : Counts) (agree : Bool)
    (c : List ℕ) → Saw config h sessions passes n → c ≡ total_text json n agree → c ≡ text_with config json true h agree
alone config json h sessions passes n agree c s r = r ∙ ap (λ (m : Counts). total_text json m agree) s.counts

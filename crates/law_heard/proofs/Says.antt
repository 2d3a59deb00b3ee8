-- What is said of each request that was served for a told command.
use Rattle.std.proofs.Common.{◌≡◌, true, List, [], ◌∷◌, ◌++◌, Option, Some, None, reverse, append_assoc, refl, sym, ◌∙◌, ap, subst, inl, inr}
use Rattle.std.proofs.lemmas.List.{reverse-append}
use Rattle.txn_data.specs.declared.command.Command.{Command}
use Rattle.txn_data.specs.declared.config.Config.{Config}
use Rattle.txn_data.specs.declared.refusal.Refusal.{Refusal}
use Rattle.txn_data.specs.declared.reply.Reply.TheVariants as reply
use Rattle.txn_types.specs.Lists.{Member}
use Rattle.txn_types.specs.History.{History}
use Rattle.txn_types.specs.Session.{Keeps}
use Rattle.txn_types.specs.Run.{Run, mover_at, program_of}
use Rattle.txn_types.specs.Cause.{ToldAt, tells, ServedAt, served_since}
use Rattle.txn_promises.specs.Lines.{is_write}
use Rattle.law_machines.proofs.Basics.{member_left, member_right}
use Rattle.law_courses.specs.Laws.{CouldStart}
use Rattle.law_served.specs.Ran.{Ran}
use Rattle.law_served.specs.Laws.{RanAs}
use Rattle.law_served.proofs.Runs.{told_ran}
use Rattle.law_heard.proofs.Heeds.{Says, ran_heeds, ran_ends}
use Rattle.law_heard.proofs.Means.{IsAsked, Closes, Means}
use Rattle.law_heard.proofs.Lines.{Stops, LineHeeds, line_heeds}

pub member_reverse : {A : Type 0} (x : A) (xs : List A) → Member x xs → Member x (reverse xs)
member_reverse x [] m = m
member_reverse x (y ∷ ys) m = subst (λ (l : List _). Member x l) (sym (reverse-append (y ∷ []) ys)) (elim m [
  | inl is ↦ member_right x (reverse ys) (y ∷ []) (inl is)
  | inr more ↦ member_left x (reverse ys) (y ∷ []) (member_reverse x ys more)
])

-- the line of the command, and what is said of all that was served for it
pub record Line (config : Config) (t : ToldAt) : Type 0 where
  pub line : Command
  pub is : (mover_at config t.who t.before).line ≡ Some line
  pub could : CouldStart config t.who (mover_at config t.who t.before).keeps line
  pub ran : Ran t.who true (reverse (served_since t.who t.before)) (program_of config t.who (mover_at config t.who t.before).keeps line) t.told
  pub says : (s : ServedAt) → Member s (served_since t.who t.before) →
      Says (IsAsked (Some line) (mover_at config t.who t.before).keeps.opened) (Means (is_write (Some line)) (Stops (mover_at config t.who t.before).keeps line)) t.who s t.told
  pub ends : (newer older : List ServedAt) (s u : ServedAt) (w : Refusal) → served_since t.who t.before ≡ newer ++ (s ∷ older) → s.reply ≡ reply.Refused w → Member u newer → Closes (is_write (Some line)) u.by u.asked

split_reverse : {A : Type 0} (xs newer older : List A) (x : A) → xs ≡ newer ++ (x ∷ older) → reverse xs ≡ reverse older ++ (x ∷ reverse newer)
split_reverse xs newer older x is = ap reverse is ∙ (reverse-append newer (x ∷ older) ∙ (ap (λ (l : List _). l ++ reverse newer) (reverse-append (x ∷ []) older) ∙ append_assoc (reverse older) (x ∷ []) (reverse newer)))

line_of : (config : Config) (t : ToldAt) (o : Option Command) → (mover_at config t.who t.before).line ≡ o → RanAs config t.who (served_since t.who t.before) (mover_at config t.who t.before).keeps o t.told → Line config t
line_of config t None is ran = absurd ran
line_of config t (Some line) is ran =
    let keeps = (mover_at config t.who t.before).keeps in
    let could = ran.0 in
    let heeds : LineHeeds keeps line (program_of config t.who keeps line) = subst (λ (k : Keeps). LineHeeds k line (program_of config t.who k line)) could.1 (line_heeds config t.who could.0 line could.2) in
    record {
      line = line;
      is = is;
      could = could;
      ran = ran.1;
      says = λ s here. ran_heeds (IsAsked (Some line) keeps.opened) (Closes (is_write (Some line))) (Means (is_write (Some line)) (Stops keeps line)) t.who true (reverse (served_since t.who t.before)) (program_of config t.who keeps line) t.told s heeds ran.1 (member_reverse s (served_since t.who t.before) here);
      ends = λ newer older s u w is refused here.
          ran_ends (IsAsked (Some line) keeps.opened) (Closes (is_write (Some line))) (Means (is_write (Some line)) (Stops keeps line)) t.who true (reverse (served_since t.who t.before)) (reverse older) (reverse newer) (program_of config t.who keeps line) t.told s u w heeds ran.1
          (split_reverse (served_since t.who t.before) newer older s is) refused (member_reverse u newer here);
    }

pub told_line : (config : Config) (h : History) (t : ToldAt) → Run config h → Member t (tells h) → Line config t
told_line config h t run here = line_of config t (mover_at config t.who t.before).line refl (told_ran config h t run here)

-- What a known commit wrote stands in the history before the origin of the read.
use Rattle.std.proofs.Common.{◌≡◌, ℕ, true, List, [], ◌∷◌, Option, map, refl, sym, ◌∙◌, ap, subst, inl, inr, ◌⊎◌}
use Rattle.txn_data.specs.declared.actor.Actor.{Actor}
use Rattle.txn_data.specs.declared.committed_txn.CommittedTxn.{CommittedTxn}
use Rattle.txn_data.specs.declared.config.Config.{Config}
use Rattle.txn_data.specs.declared.told.Told.TheVariants as told
use Rattle.txn_data.specs.declared.version.Version.{Version}
use Rattle.txn_data.specs.declared.written.Written.{Written}
use Rattle.txn_data.specs.declared.event.Event.{Event}
use Rattle.txn_data.specs.declared.event.Event.TheVariants.{Tell}
use Rattle.txn_data.specs.declared.entry.Entry.{Entry}
use Rattle.txn_types.specs.Lists.{Member}
use Rattle.txn_types.specs.History.{History}
use Rattle.txn_types.specs.Committed.{committed}
use Rattle.txn_types.specs.Reads.{before_start, is_commit_of}
use Rattle.txn_types.specs.Run.{Run, mover_at}
use Rattle.law_machines.specs.Own.{StandsOver}
use Rattle.law_machines.proofs.Basics.{eq_true, map_member}
use Rattle.law_machines.proofs.Owns.{member_stands, stands_member, counting_part}
use Rattle.law_clocks.proofs.Runs.{member_before}
use Rattle.law_messages.proofs.Rules.{entry}
use Rattle.law_owners.proofs.Runs.{IsSingleOf, single_uses}
use Rattle.law_fates.specs.Laws.{CommittedAt}
use Rattle.law_fates.proofs.Runs.{told_committed}
use Rattle.law_session_order.proofs.Runs.{commit_of, no_write_after}
use Rattle.law_write_numbers.proofs.Begins.{numbered_write}
use Rattle.law_courses.specs.Course.{IsPart}
use Rattle.law_courses.proofs.Courses.{told_came_about}
use Rattle.law_courses.proofs.Parts.{part_member}
use Rattle.law_told_commits.proofs.Says.{ToldBy, WasTold}
use Rattle.law_told_commits.proofs.Commits.{Begins, tells_fate, committed_begun, one_user, begins_uses, not_both, line_came}
use Rattle.law_values.specs.Laws.{Ranked}
use Rattle.law_versions.specs.Laws.{MakesVersion}
use Rattle.law_versions.proofs.Same.{Kind, Writes, Singles, write_and_single}
use Rattle.law_folds.proofs.Ranks.{ranks, first, snapshot_entry, single_ranks}
use Rattle.law_folds.proofs.Made.{Snapshot, Single, kind_of, its}

-- ## what was told was served

told_event : (config : Config) (o g : History) (m : Actor) (reading : Option ℕ) (event : Event) (x : ℕ) → Run config o → StandsOver (entry m reading event) g o → is_commit_of x event ≡ true → (at : ℕ) × WasTold o x at
told_event config o g m reading (Tell number (told.Committed y at)) x run stands is =
    let e = entry m reading (Tell number (told.Committed y at)) in
    let came = told_came_about config o g e run stands in
    let s = mover_at config m g in
    let was = line_came config m (e ∷ g) (before_start m g) s.keeps s.reading s.line y at came in
    let same : y ≡ x = eq_true y x is in
    let here : WasTold o y at = elim was.1 [
      | inl self ↦ absurd (subst (λ (f : Entry). ToldBy y at f.event) self was.2)
      | inr more ↦ (was.0, member_before was.0 e g o more stands, was.2)
    ] in
    (at, subst (λ (z : ℕ). WasTold o z at) same here)
told_event config o g m reading event x run stands is = cc

pub was_told_in : (config : Config) (o g : History) (e : Entry) (x : ℕ) → Run config o → StandsOver e g o → is_commit_of x e.event ≡ true → (at : ℕ) × WasTold o x at
was_told_in config o g e x run stands is = told_event config o g e.actor e.reading e.event x run stands is

-- ## a write of a committed transaction, with its version

pub record WriteOf (h : History) (x : CommittedTxn) (w : Written) : Type 0 where
  pub version : Version
  pub entry : Entry
  pub member : Member entry h
  pub makes : MakesVersion h version entry entry.event
  pub path : version.path ≡ w.path
  pub at : version.at ≡ x.at
  pub number : ℕ
  pub kind : Kind x.txn number entry.event

pub write_of : (config : Config) (h : History) (x : CommittedTxn) (w : Written) → Run config h → Member x (committed h) → Member w x.writes → WriteOf h x w
write_of config h x w run m of =
    let r = map_member (λ (s : Ranked). s.write) w (ranks h x) (subst (λ (ws : List Written). Member w ws) (its config h x run m).writes of) in
    elim (kind_of h x m) [
      | Snapshot mine ↦
          let n = snapshot_entry h x r.0 mine r.1 in
          let a = n.1.3 in
          record {
            version = a.version;
            entry = n.1.0;
            member = n.1.1;
            makes = a.makes (x, mine, refl, refl);
            path = ap (λ (s : Ranked). s.write.path) a.is ∙ (sym (ap (λ (s : Ranked). s.write.path) n.2) ∙ sym (ap (λ (v : Written). v.path) r.2));
            at = ap (λ (s : Ranked). s.at) a.is;
            number = n.0.number;
            kind = Writes a.number;
          }
      | Single e counts single one ↦
          let listed : Member r.0 (map (first x.at) x.writes) = subst (λ (rs : List Ranked). Member r.0 rs) (single_ranks config h x e run (counting_part e h counts) one.single) r.1 in
          record {
            version = one.version;
            entry = e;
            member = counting_part e h counts;
            makes = one.makes counts;
            path = ap (λ (s : Ranked). s.write.path) (one.is r.0 listed) ∙ sym (ap (λ (v : Written). v.path) r.2);
            at = one.at;
            number = 0;
            kind = Singles one.single;
          }
    ]

-- ## where it stands

pub part_or_later : (low h before : History) (e : Entry) → IsPart low h → StandsOver e before h → Member e low ⊎ IsPart low before
unfolding IsPart
part_or_later low [] before e part stands = absurd stands
part_or_later low (g ∷ h) before e part stands = elim part [
  | inl same ↦ inl (subst (λ (l : History). Member e l) (sym same) (stands_member e before (g ∷ h) stands))
  | inr below ↦ elim stands [
    | inl here ↦ inr (subst (λ (l : History). IsPart low l) here.1 below)
    | inr deeper ↦ part_or_later low h before e below deeper
  ]
]

-- it was told of a snapshot transaction that is committed there, or it was a single write
pub told_kind : (config : Config) (o : History) (x at : ℕ) → Run config o → WasTold o x at → CommittedAt o x at ⊎ ((e : Entry) × Member e o × IsSingleOf x e.event)
told_kind config o x at run was = elim (tells_fate x at was.0.event was.2) [
  | inl tells ↦ inl (told_committed config o was.0 x at run was.1 tells)
  | inr single ↦ inr (was.0, was.1, single)
]

after_commit : (config : Config) (h o before : History) (e : Entry) (x at n : ℕ) → Run config h → Run config o → IsPart o h → IsPart o before → StandsOver e before h → Member e h → CommittedAt o x at → Kind x n e.event → ⊥
after_commit config h o before e x at n run run_o part later stands m committed (Writes number) =
    let k = commit_of config o x at run_o committed in
    no_write_after config h before e k.entry x run stands (numbered_write x n e.event number) (part_member k.entry o before later k.member) k.end
after_commit config h o before e x at n run run_o part later stands m committed (Singles single) =
    let b = committed_begun config o x at run_o committed in
    let same = one_user config h b.0 e x run (part_member b.0 o h part b.1) m (begins_uses x b.0.event b.2) (single_uses x e.event single) in
    not_both x e.event (subst (λ (g : Entry). Begins x g.event) same b.2) single

after_single : (config : Config) (h o : History) (e f : Entry) (x n : ℕ) → Run config h → IsPart o h → Member e h → Member f o → IsSingleOf x f.event → Kind x n e.event → Member e o
after_single config h o e f x n run part m of_f single (Writes number) = absurd (write_and_single config h e f x n run m (part_member f o h part of_f) number single)
after_single config h o e f x n run part m of_f single (Singles mine) =
    let same = one_user config h f e x run (part_member f o h part of_f) m (single_uses x f.event single) (single_uses x e.event mine) in
    subst (λ (g : Entry). Member g o) same of_f

-- so it stands where its commit was told
pub stands_there : (config : Config) (h o : History) (e : Entry) (x at n : ℕ) → Run config h → Run config o → IsPart o h → WasTold o x at → Member e h → Kind x n e.event → Member e o
stands_there config h o e x at n run run_o part was m kind =
    let place = member_stands e h m in
    elim (part_or_later o h place.0 e part place.1) [
      | inl there ↦ there
      | inr later ↦ elim (told_kind config o x at run_o was) [
        | inl committed ↦ absurd (after_commit config h o place.0 e x at n run run_o part later place.1 m committed kind)
        | inr single ↦ after_single config h o e single.0 x n run part m single.1 single.2 kind
      ]
    ]

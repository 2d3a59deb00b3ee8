-- No two writes of what is committed have one path, one commit time and one number at a tablet.
use Rattle.std.proofs.Common.{◌≡◌, ℕ, true, Some, refl, sym, ◌∙◌, ap, subst, inl, inr, arith}
use Rattle.doc_path.specs.Path.{Parts, related}
use Rattle.txn_data.specs.declared.config.Config.{Config}
use Rattle.txn_data.specs.declared.request.Request.TheVariants as request
use Rattle.txn_data.specs.declared.reply.Reply.TheVariants as reply
use Rattle.txn_data.specs.declared.version.Version.{Version}
use Rattle.txn_data.specs.declared.event.Event.{Event}
use Rattle.txn_data.specs.declared.event.Event.TheVariants.{Serve}
use Rattle.txn_data.specs.declared.entry.Entry.{Entry}
use Rattle.txn_types.specs.Lists.{Member}
use Rattle.txn_types.specs.History.{History}
use Rattle.txn_types.specs.Run.{Run}
use Rattle.law_machines.specs.Own.{StandsOver}
use Rattle.law_machines.proofs.Basics.{eq_cases}
use Rattle.law_machines.proofs.Owns.{Before, After, One, in_order, member_stands, stands_trans}
use Rattle.law_clocks.proofs.Runs.{member_before}
use Rattle.law_owners.proofs.Runs.{ids_once, IsSingleOf, single_uses}
use Rattle.law_open_txns.specs.Transaction.{IsBeginOf}
use Rattle.law_session_order.proofs.Runs.{writes_begun}
use Rattle.law_write_order.specs.Laws.{IsCommittedWrite}
use Rattle.law_write_order.proofs.Order.{in_commit_order}
use Rattle.law_write_numbers.specs.Laws.{IsNumbered}
use Rattle.law_write_numbers.proofs.Runs.{rise}
use Rattle.law_write_numbers.proofs.Begins.{numbered_write, begin_uses}
use Rattle.law_values.proofs.Paths.{self_related}
use Rattle.law_versions.specs.Laws.{MakesVersion, IsMadeIn}

-- ## of one transaction

begin_not_single : (x : ℕ) (event : Event) → IsBeginOf x event → IsSingleOf x event → ⊥
begin_not_single x (Serve from (request.Begin y isolation priority) reply.Begun time append) begins single = single
begin_not_single x event begins single = absurd begins

-- no accepted write has the id of a single write
pub write_and_single : (config : Config) (h : History) (e f : Entry) (x n : ℕ) → Run config h → Member e h → Member f h → IsNumbered x n e.event → IsSingleOf x f.event → ⊥
write_and_single config h e f x n run of_e of_f number single =
    elim (in_order e f h of_e of_f) [
      | Before before stands earlier ↦
          let b = begun_in config h before e f x n run stands earlier number in
          ids_once config h before f x run stands (single_uses x f.event single) b.0 b.1 (begin_uses x b.0.event b.2)
      | After before stands earlier ↦
          let b = writes_begun config h before e x run stands (numbered_write x n e.event number) in
          elim (in_order b.0 f before b.1 earlier) [
            | Before first there first_b ↦ ids_once config h first f x run (stands_trans f e first before h there stands) (single_uses x f.event single) b.0 first_b (begin_uses x b.0.event b.2)
            | After first there first_f ↦ ids_once config h first b.0 x run (stands_trans b.0 e first before h there stands) (begin_uses x b.0.event b.2) f first_f (single_uses x f.event single)
            | One same ↦ begin_not_single x f.event (subst (λ (g : Entry). IsBeginOf x g.event) same b.2) single
          ]
      | One same ↦ both x n f.event (subst (λ (g : Entry). IsNumbered x n g.event) same number) single
    ]
  where
    begun_in : (config : Config) (h before : History) (e f : Entry) (x n : ℕ) → Run config h → StandsOver f before h → Member e before → IsNumbered x n e.event → (b : Entry) × Member b before × IsBeginOf x b.event
    begun_in config h before e f x n run stands earlier number =
        let at = member_stands e before earlier in
        let b = writes_begun config h at.0 e x run (stands_trans e f at.0 before h at.1 stands) (numbered_write x n e.event number) in
        (b.0, member_before b.0 e at.0 before b.1 at.1, b.2)

    both : (x n : ℕ) (event : Event) → IsNumbered x n event → IsSingleOf x event → ⊥
    both x n (Serve from (request.Write meta number path op read seen fates) (reply.Written w) time append) is single = single
    both x n event is single = absurd is

-- two accepted writes of a transaction with one number, or two single writes of one id, are one entry
pub data Kind (x n : ℕ) (event : Event) : Type 0 where
  Writes : IsNumbered x n event → Kind x n event
  Singles : IsSingleOf x event → Kind x n event

apart_here : (config : Config) (h before : History) (e f : Entry) (x n : ℕ) → Run config h → StandsOver f before h → Member e before → Member f h → Kind x n e.event → Kind x n f.event → ⊥
apart_here config h before e f x n run stands earlier of_f (Writes one) (Writes two) = let low = rise config h before e f x n n run stands earlier one two in omega (arith, low)
apart_here config h before e f x n run stands earlier of_f (Writes one) (Singles two) = write_and_single config h e f x n run (member_before e f before h earlier stands) of_f one two
apart_here config h before e f x n run stands earlier of_f (Singles one) (Writes two) = write_and_single config h f e x n run of_f (member_before e f before h earlier stands) two one
apart_here config h before e f x n run stands earlier of_f (Singles one) (Singles two) = ids_once config h before f x run stands (single_uses x f.event two) e earlier (single_uses x e.event one)

-- ## of two

-- who wrote it, and how
pub record By (h : History) (v : Version) (e : Entry) (event : Event) : Type 0 where
  pub txn : ℕ
  pub writes : IsCommittedWrite h txn v.at v.path e event
  pub kind : Kind txn v.number event

pub by : (h : History) (v : Version) (e : Entry) (event : Event) → MakesVersion h v e event → By h v e event
by h v e (Serve from (request.Write meta number path op read seen fates) (reply.Written w) time append) makes = record {
  txn = meta.txn;
  writes = (refl, sym (ap (λ (u : Version). u.path) makes.0), makes.1);
  kind = Writes (refl, sym (ap (λ (u : Version). u.number) makes.0));
}
by h v e (Serve from (request.Single x path op seen fates) r (Some c) append) makes = record {
  txn = x;
  writes = (refl, sym (ap (λ (u : Version). u.path) makes.0), sym (ap (λ (u : Version). u.at) makes.0), makes.1);
  kind = Singles refl;
}
by h v e event makes = absurd makes

before_apart : (config : Config) (h before : History) (e f : Entry) (u v : Version) → Run config h → StandsOver f before h → Member e before → Member f h → e.actor ≡ f.actor →
    MakesVersion h u e e.event → MakesVersion h v f f.event → u.path ≡ v.path → u.at ≡ v.at → u.number ≡ v.number → ⊥
before_apart config h before e f u v run stands earlier of_f at one two path time number =
    let a = by h u e e.event one in
    let b = by h v f f.event two in
    elim (eq_cases a.txn b.txn) [
      | inl same ↦ apart_here config h before e f a.txn u.number run stands earlier of_f a.kind
          (subst (λ (x : ℕ). Kind x u.number f.event) (sym same.1) (subst (λ (n : ℕ). Kind b.txn n f.event) (sym number) b.kind))
      | inr other ↦
          let low = (in_commit_order config h before e f a.txn b.txn u.at v.at u.path v.path run stands earlier at a.writes b.writes other.1 (subst (λ (p : Parts). related u.path p ≡ true) path (self_related u.path))).0 in
          omega (arith, low, time)
    ]

same_event : (h : History) (u v : Version) (e : Entry) (event : Event) → MakesVersion h u e event → MakesVersion h v e event → u.at ≡ v.at → u ≡ v
same_event h u v e (Serve from (request.Write meta number path op read seen fates) (reply.Written w) time append) one two at =
    one.0 ∙ (ap (λ (c : ℕ). let x : Version = record { path = path; at = c; wrote = w; number = number; op = op } in x) at ∙ sym two.0)
same_event h u v e (Serve from (request.Single x path op seen fates) r (Some c) append) one two at = one.0 ∙ sym two.0
same_event h u v e event one two at = absurd one

pub same_version : (config : Config) (h : History) (k : ℕ) (u v : Version) → Run config h → IsMadeIn h h k u → IsMadeIn h h k v → u.path ≡ v.path → u.at ≡ v.at → u.number ≡ v.number → u ≡ v
same_version config h k u v run one two path at number =
    elim (in_order one.0 two.0 h one.1 two.1) [
      | Before before stands earlier ↦ absurd (before_apart config h before one.0 two.0 u v run stands earlier two.1 (one.2 ∙ sym two.2) one.3 two.3 path at number)
      | After before stands earlier ↦ absurd (before_apart config h before two.0 one.0 v u run stands earlier one.1 (two.2 ∙ sym one.2) two.3 one.3 (sym path) (sym at) (sym number))
      | One same ↦ same_event h u v two.0 two.0.event (subst (λ (g : Entry). MakesVersion h u g g.event) same one.3) two.3 at
    ]

-- Related commits are in order.
use Rattle.std.proofs.Common.{◌≡◌, ℕ, ◌<◌, true, ◌&&◌, [], ◌∷◌, Some, bytes_eq, sym, ◌∙◌, ap, subst, inl, inr, ◌⊎◌, arith}
use Rattle.std.proofs.lemmas.Bool.{or_cases, and_parts}
use Rattle.doc_path.specs.Path.{Parts, is_prefix, related}
use Rattle.txn_data.specs.declared.actor.Actor.{Actor}
use Rattle.txn_data.specs.declared.actor.Actor.TheVariants.{Tablet}
use Rattle.txn_data.specs.declared.committed_txn.CommittedTxn.{CommittedTxn}
use Rattle.txn_data.specs.declared.config.Config.{Config}
use Rattle.txn_data.specs.declared.place.Place.{Place}
use Rattle.txn_data.specs.declared.request.Request.TheVariants as request
use Rattle.txn_data.specs.declared.reply.Reply.TheVariants as reply
use Rattle.txn_data.specs.declared.event.Event.{Event}
use Rattle.txn_data.specs.declared.event.Event.TheVariants.{Serve}
use Rattle.txn_data.specs.declared.entry.Entry.{Entry}
use Rattle.txn_types.specs.Lists.{Member}
use Rattle.txn_types.specs.History.{History}
use Rattle.txn_types.specs.Plan.{IsPath, PlacesAgree, first_part, started_places}
use Rattle.txn_types.specs.Run.{Run}
use Rattle.law_machines.specs.Own.{StandsOver}
use Rattle.law_machines.proofs.Basics.{flat_member, member_flat}
use Rattle.law_machines.proofs.Owns.{member_stands, in_order, Before, After, One}
use Rattle.law_clocks.proofs.Runs.{member_before}
use Rattle.law_open_txns.specs.Transaction.{IsWriteOf}
use Rattle.law_committed_writes.proofs.Versions.{bytes_same}
use Rattle.law_places.specs.Laws.{started, IsPlace, IsPlaced}
use Rattle.law_places.proofs.Runs.{writes_placed}
use Rattle.law_write_order.specs.Laws.{IsCommittedWrite, ReadFrom}
use Rattle.law_write_order.proofs.Order.{in_commit_order, write_txn}
use Rattle.law_related_writes.specs.Laws.{RelatedCommitsDiffer, WritesFrom, RelatedCommitsReadAbove}
use Rattle.law_related_writes.proofs.Writes.{related_back, pair_of, Made, made_by, made_by_snapshot}

-- ## related paths are at one tablet

pub first_same : (p q : Parts) → IsPath p → IsPath q → related p q ≡ true → first_part p ≡ first_part q
first_same [] q path other is = absurd (omega (arith, path.0))
first_same (a ∷ p) [] path other is = absurd (omega (arith, other.0))
first_same (a ∷ p) (b ∷ q) path other is = elim (or_cases (bytes_eq a b && is_prefix p q) (bytes_eq b a && is_prefix q p) is) [
  | inl one ↦ ap Some (bytes_same a b (and_parts (bytes_eq a b) (is_prefix p q) one).0)
  | inr two ↦ ap Some (sym (bytes_same b a (and_parts (bytes_eq b a) (is_prefix q p) two).0))
]

started_before : (f : Entry) (before h : History) (place : Place) → StandsOver f before h → Member place (started before) → Member place (started h)
started_before f before h place stands m =
    let e = flat_member (λ (g : Entry). started_places g.event) place before m in
    member_flat (λ (g : Entry). started_places g.event) e.0 place h (member_before e.0 f before h e.1 stands) e.2

place_of : (h before : History) (x c : ℕ) (path : Parts) (e : Entry) (a : Actor) (event : Event) → IsPlaced before a event → IsCommittedWrite h x c path e event → IsPlace before a path
place_of h before x c path e a (Serve from (request.Write meta number q op read seen fates) (reply.Written w) time append) placed write = subst (λ (p : Parts). IsPlace before a p) write.1 placed
place_of h before x c path e a (Serve from (request.Single y q op seen fates) r (Some d) append) placed write = subst (λ (p : Parts). IsPlace before a p) write.1 placed
place_of h before x c path e a event placed write = absurd write

pub made_place : (config : Config) (h : History) (x : CommittedTxn) (path : Parts) (m : Made h x path) → Run config h → IsPlace h m.entry.actor path
made_place config h x path m run =
    let at = member_stands m.entry h m.member in
    let p = place_of h at.0 x.txn x.at path m.entry m.entry.actor m.entry.event (writes_placed config h at.0 m.entry run at.1) m.writes in
    (p.0, started_before m.entry at.0 h p.0 at.1 p.1, p.2, p.3, p.4)

one_actor : (config : Config) (h : History) (x y : CommittedTxn) (p q : Parts) (m : Made h x p) (n : Made h y q) → Run config h → PlacesAgree h → related p q ≡ true → m.entry.actor ≡ n.entry.actor
one_actor config h x y p q m n run agree rel =
    let a = made_place config h x p m run in
    let b = made_place config h y q n run in
    let first : first_part a.0.path ≡ first_part b.0.path = ap first_part a.3 ∙ (first_same p q a.4 b.4 rel ∙ ap first_part (sym b.3)) in
    a.2 ∙ (ap Tablet (agree a.0 b.0 a.1 b.1 first) ∙ sym b.2)

-- ## so one is before the other

-- the first is before the second, and the second's write read not below it
abbrev Earlier : (h : History) (x y : CommittedTxn) (q : Parts) → Made h y q → Type 0
Earlier h x y q n = (x.at < y.at) × ReadFrom x.at n.entry.event

ordered : (config : Config) (h : History) (x y : CommittedTxn) (p q : Parts) (m : Made h x p) (n : Made h y q) → Run config h → PlacesAgree h → (x.txn ≡ y.txn → ⊥) → related p q ≡ true → Earlier h x y q n ⊎ Earlier h y x p m
ordered config h x y p q m n run agree other rel =
    let same = one_actor config h x y p q m n run agree rel in
    elim (in_order m.entry n.entry h m.member n.member) [
      | Before before stands first ↦ inl (in_commit_order config h before m.entry n.entry x.txn y.txn x.at y.at p q run stands first same m.writes n.writes other rel)
      | After before stands first ↦ inr (in_commit_order config h before n.entry m.entry y.txn x.txn y.at x.at q p run stands first (sym same) n.writes m.writes (λ is. other (sym is)) (related_back p q rel))
      | One is ↦ absurd (other (write_txn h x.txn y.txn x.at y.at p q n.entry n.entry.event (subst (λ (g : Entry). IsCommittedWrite h x.txn x.at p g g.event) is m.writes) n.writes))
    ]

pub commits_differ : RelatedCommitsDiffer
commits_differ config h x y run agree of_x of_y other rel same =
    let pair = pair_of x y rel in
    let m = made_by h x pair.one of_x pair.of_one in
    let n = made_by h y pair.two of_y pair.of_two in
    elim (ordered config h x y pair.one.path pair.two.path m n run agree other pair.related) [
      | inl before ↦ let low = before.0 in omega (arith, low, same)
      | inr after ↦ let low = after.0 in omega (arith, low, same)
    ]

-- ## and a write of the later one read not below it

read_above : (h : History) (y d c : ℕ) (path : Parts) (e : Entry) (event : Event) → IsCommittedWrite h y d path e event → IsWriteOf y event → ReadFrom c event → WritesFrom y c event
read_above h y d c path e (Serve from (request.Write meta number q op read seen fates) (reply.Written w) time append) write own low = (own, low)
read_above h y d c path e (Serve from (request.Single z q op seen fates) r (Some t) append) write own low = absurd own
read_above h y d c path e event write own low = absurd write

pub commits_read_above : RelatedCommitsReadAbove
commits_read_above config h x y run agree of_x of_y other rel =
    let pair = pair_of x y rel in
    let m = made_by_snapshot h x pair.one of_x pair.of_one in
    let n = made_by_snapshot h y pair.two of_y pair.of_two in
    elim (ordered config h x y pair.one.path pair.two.path m.0 n.0 run agree other pair.related) [
      | inl before ↦ inl (n.0.entry, n.0.member, read_above h y.txn y.at x.at pair.two.path n.0.entry n.0.entry.event n.0.writes n.1 before.1)
      | inr after ↦ inr (m.0.entry, m.0.member, read_above h x.txn x.at y.at pair.one.path m.0.entry m.0.entry.event m.0.writes m.1 after.1)
    ]

-- What is met among versions and one more.
use Rattle.std.proofs.Common.{◌≡◌, ℕ, Bool, true, false, ◌&&◌, List, [], ◌∷◌, Option, Some, None, if◌then◌else◌, nat_lt, refl, sym, ap, ◌∙◌}
use Rattle.std.specs.Prelude.{nat_le}
use Rattle.std.specs.List.{list_any}
use Rattle.doc_path.specs.Path.{Parts, related}
use Rattle.txn_data.specs.declared.version.Version.{Version}
use Rattle.txn_data.specs.declared.window.Window.{Window}
use Rattle.txn_data.specs.declared.met_at.MetAt.{MetAt}
use Rattle.txn_types.specs.Tablet.{met_in}
use Rattle.regular_records.specs.Records.{better}

abbrev pub met_of : Version → MetAt
met_of v = record { at = v.at; path = v.path }

abbrev pub in_window : Window → ℕ → Version → Bool
in_window w t v = nat_lt t v.at && nat_le v.at w.g && nat_le v.wrote w.limit

abbrev chosen : Bool → Version → Option MetAt
chosen b v = if b then Some (met_of v) else None

abbrev pub chosen_or : Bool → Version → Option MetAt → Option MetAt
chosen_or b v m = if b then Some (met_of v) else m

met_in-one : (w : Window) (t : ℕ) (paths : List Parts) (v : Version) → met_in w t paths (v ∷ []) ≡ chosen (in_window w t v && list_any (related v.path) paths) v
unfolding met_in
met_in-one w t paths v = refl

better-none : (o : Option MetAt) → better o None ≡ o
better-none None = refl
better-none (Some m) = refl

and-false : (b : Bool) → (b && false) ≡ false
and-false true = refl
and-false false = refl

unmet : (w : Window) (t : ℕ) (paths : List Parts) (v : Version) (m : Option MetAt) → (in_window w t v && list_any (related v.path) paths) ≡ false → m ≡ better m (met_in w t paths (v ∷ []))
unmet w t paths v m h = sym (ap (better m) (met_in-one w t paths v ∙ ap (λ b. chosen b v) h) ∙ better-none m)

-- a version outside the window changes nothing
pub outside : (w : Window) (t : ℕ) (paths : List Parts) (v : Version) (m : Option MetAt) → in_window w t v ≡ false → m ≡ better m (met_in w t paths (v ∷ []))
outside w t paths v m h = unmet w t paths v m (ap (λ b. b && list_any (related v.path) paths) h)

-- nor does one on another path
pub unrelated : (w : Window) (t : ℕ) (paths : List Parts) (v : Version) (m : Option MetAt) → list_any (related v.path) paths ≡ false → m ≡ better m (met_in w t paths (v ∷ []))
unrelated w t paths v m h = unmet w t paths v m (ap (λ b. in_window w t v && b) h ∙ and-false (in_window w t v))

-- one that is met is compared with what was met
pub compared : (w : Window) (t : ℕ) (paths : List Parts) (v : Version) (m : Option MetAt) (b : Bool) → in_window w t v ≡ true → list_any (related v.path) paths ≡ true
    → better m (Some (met_of v)) ≡ chosen_or b v m → chosen_or b v m ≡ better m (met_in w t paths (v ∷ []))
compared w t paths v m b h k is =
    sym (
    ap (better m) (met_in-one w t paths v ∙ ap (λ c. chosen (c && list_any (related v.path) paths) v) h ∙ ap (λ c. chosen c v) k)
    ∙ is
    )

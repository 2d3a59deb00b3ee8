-- What is given stays so, and what lists of writes leave is given where the writes are.
use Rattle.std.proofs.Common.{ℕ, Bool, true, false, List, [], ◌∷◌, ◌++◌, Option, Some, None, flat_map, map, refl, sym, subst, inl, inr, if◌then◌else◌}
use Rattle.std.specs.declared.cmp.Ordering.{Ordering}
use Rattle.std.specs.declared.cmp.Ordering.TheVariants.{Less, Equal, Greater}
use Rattle.doc_path.specs.Path.{Parts, is_prefix, path_order}
use Rattle.txn_data.specs.declared.op.Op.{Op}
use Rattle.txn_data.specs.declared.op.Op.TheVariants as op
use Rattle.txn_data.specs.declared.written.Written.{Written}
use Rattle.txn_data.specs.declared.row.Row.{Row}
use Rattle.txn_data.specs.declared.told.Told.{Told}
use Rattle.txn_data.specs.declared.told.Told.TheVariants as told
use Rattle.txn_data.specs.declared.told_refusal.ToldRefusal.TheVariants as told_refusal
use Rattle.txn_data.specs.declared.entry.Entry.{Entry}
use Rattle.txn_types.specs.Lists.{Member, or_else}
use Rattle.txn_types.specs.Writes.{last_word, value_set, set_at, value, with_path, paths_beneath, row_with, beneath}
use Rattle.txn_types.specs.Plan.{started_places}
use Rattle.txn_types.specs.History.{History}
use Rattle.law_machines.proofs.Basics.{member_cases, map_member, member_flat, flat_member}
use Rattle.law_told_values.specs.Given.{started_values, PathIsGiven, ValueIsGiven, FoundIsGiven, RowIsGiven, RowsAreGiven, ToldIsGiven}

-- each entry of one history is in the other
abbrev pub Within : History → History → Type 0
Within h g = (e : Entry) → Member e h → Member e g

pub within_more : (e : Entry) (h : History) → Within h (e ∷ h)
within_more e h = λ f m. inr m

pub within_same : (h : History) → Within h h
within_same h = λ e m. m

pub within_trans : (h g f : History) → Within h g → Within g f → Within h f
within_trans h g f one two = λ e m. two e (one e m)

-- ## it stays

pub path_in : (h g : History) (path : Parts) → Within h g → PathIsGiven h path → PathIsGiven g path
path_in h g path on is =
    let from = flat_member (λ (e : Entry). started_places e.event) is.0 h is.1 in
    (is.0, member_flat (λ (e : Entry). started_places e.event) from.0 is.0 g (on from.0 from.1) from.2, is.2)

pub value_in : (h g : History) (v : List ℕ) → Within h g → ValueIsGiven h v → ValueIsGiven g v
value_in h g v on is =
    let from = flat_member (λ (e : Entry). started_values e.event) v h is in
    member_flat (λ (e : Entry). started_values e.event) from.0 v g (on from.0 from.1) from.2

pub found_in : (h g : History) (o : Option (List ℕ)) → Within h g → FoundIsGiven h o → FoundIsGiven g o
found_in h g None on is = tt
found_in h g (Some v) on is = value_in h g v on is

pub rows_in : (h g : History) (rows : List Row) → Within h g → RowsAreGiven h rows → RowsAreGiven g rows
rows_in h g rows on are = λ row m. let is = are row m in (path_in h g row.path on is.0, found_in h g row.value on is.1)

pub told_in : (h g : History) (t : Told) → Within h g → ToldIsGiven h t → ToldIsGiven g t
told_in h g (told.Values at restarts rows) on is = rows_in h g rows on is
told_in h g (told.Refused (told_refusal.Restart at path)) on is = path_in h g path on is
told_in h g (told.Refused why) on is = tt
told_in h g t on is = tt

-- ## writes

abbrev pub OpIsGiven : History → Op → Type 0
OpIsGiven h (op.Put v) = ValueIsGiven h v
OpIsGiven h op.Delete = Unit {0}

pub op_in : (h g : History) (o : Op) → Within h g → OpIsGiven h o → OpIsGiven g o
op_in h g (op.Put v) on is = value_in h g v on is
op_in h g op.Delete on is = tt

abbrev pub WritesAreGiven : History → List Written → Type 0
WritesAreGiven h ws = (w : Written) → Member w ws → PathIsGiven h w.path × OpIsGiven h w.op

pub writes_in : (h g : History) (ws : List Written) → Within h g → WritesAreGiven h ws → WritesAreGiven g ws
writes_in h g ws on are = λ w m. let is = are w m in (path_in h g w.path on is.0, op_in h g w.op on is.1)

abbrev WordIsGiven : History → Option Written → Type 0
WordIsGiven h (Some w) = OpIsGiven h w.op
WordIsGiven h None = Unit {0}

word_choice : (h : History) (one two : Option Written) → WordIsGiven h one → WordIsGiven h two → WordIsGiven h (or_else one two)
word_choice h (Some w) two is more = is
word_choice h None two is more = more

word_test : (b : Bool) (h : History) (w : Written) → OpIsGiven h w.op → WordIsGiven h (if b then Some w else None)
word_test true h w is = is
word_test false h w is = tt

word_given : (h : History) (ws : List Written) (p : Parts) → WritesAreGiven h ws → WordIsGiven h (last_word ws p)
unfolding last_word
word_given h [] p are = tt
word_given h (w ∷ ws) p are =
    word_choice h (last_word ws p) (if is_prefix w.path p then Some w else None) (word_given h ws p (λ u m. are u (inr m)))
    (word_test (is_prefix w.path p) h w (are w (inl refl)).1)

set_given : (h : History) (o : Op) → OpIsGiven h o → FoundIsGiven h (value_set o)
set_given h (op.Put v) is = is
set_given h op.Delete is = tt

set_choice : (b : Bool) (h : History) (o : Op) → OpIsGiven h o → FoundIsGiven h (if b then value_set o else None)
set_choice true h o is = set_given h o is
set_choice false h o is = tt

at_given : (h : History) (p : Parts) (word : Option Written) → WordIsGiven h word → FoundIsGiven h (set_at p word)
at_given h p None is = tt
at_given h p (Some w) is = set_choice (is_prefix p w.path) h w.op is

-- the value that they leave at a path
pub value_given : (h : History) (ws : List Written) (p : Parts) → WritesAreGiven h ws → FoundIsGiven h (value ws p)
value_given h ws p are = at_given h p (last_word ws p) (word_given h ws p are)

-- ## and all that lies beneath one

abbrev PathsAreGiven : History → List Parts → Type 0
PathsAreGiven h ps = (p : Parts) → Member p ps → PathIsGiven h p

cons_given : (h : History) (p : Parts) (ps : List Parts) → PathIsGiven h p → PathsAreGiven h ps → PathsAreGiven h (p ∷ ps)
cons_given h p ps is are = λ q m. elim m [ inl here ↦ subst (PathIsGiven h) (sym here) is | inr more ↦ are q more ]

order_given : (o : Ordering) (h : History) (p q : Parts) (qs : List Parts) → PathIsGiven h p → PathsAreGiven h (q ∷ qs) → PathsAreGiven h (with_path p qs) →
    PathsAreGiven h (elim o [ Less ↦ p ∷ q ∷ qs | Equal ↦ q ∷ qs | Greater ↦ q ∷ with_path p qs ])
order_given Less h p q qs is are more = cons_given h p (q ∷ qs) is are
order_given Equal h p q qs is are more = are
order_given Greater h p q qs is are more = cons_given h q (with_path p qs) (are q (inl refl)) more

with_given : (h : History) (p : Parts) (ps : List Parts) → PathIsGiven h p → PathsAreGiven h ps → PathsAreGiven h (with_path p ps)
unfolding with_path
with_given h p [] is are = cons_given h p [] is are
with_given h p (q ∷ qs) is are = order_given (path_order p q) h p q qs is are (with_given h p qs is (λ r m. are r (inr m)))

paths_choice : (b : Bool) (h : History) (ps qs : List Parts) → PathsAreGiven h ps → PathsAreGiven h qs → PathsAreGiven h (if b then ps else qs)
paths_choice true h ps qs one two = one
paths_choice false h ps qs one two = two

paths_given : (h : History) (p : Parts) (ws : List Written) → WritesAreGiven h ws → PathsAreGiven h (paths_beneath p ws)
unfolding paths_beneath
paths_given h p [] are = λ q m. absurd m
paths_given h p (w ∷ ws) are =
    let rest = paths_given h p ws (λ u m. are u (inr m)) in
    paths_choice (is_prefix p w.path) h (with_path w.path (paths_beneath p ws)) (paths_beneath p ws) (with_given h w.path (paths_beneath p ws) (are w (inl refl)).0 rest) rest

row_given : (h : History) (q : Parts) (o : Option (List ℕ)) → PathIsGiven h q → FoundIsGiven h o → RowsAreGiven h (row_with q o)
row_given h q None path found = λ row m. absurd m
row_given h q (Some v) path found = λ row m. elim m [ inl here ↦ subst (RowIsGiven h) (sym here) (path, found) | inr never ↦ absurd never ]

pub beneath_given : (h : History) (ws : List Written) (p : Parts) → WritesAreGiven h ws → RowsAreGiven h (beneath ws p)
unfolding beneath
beneath_given h ws p are = λ row m.
    let from = flat_member (λ q. row_with q (value ws q)) row (paths_beneath p ws) m in
    row_given h from.0 (value ws from.0) (paths_given h p ws are from.0 from.1) (value_given h ws from.0 are) row from.2

-- ## rows one after another

pub rows_both : (h : History) (one two : List Row) → RowsAreGiven h one → RowsAreGiven h two → RowsAreGiven h (one ++ two)
rows_both h one two first second = λ row m. elim (member_cases row one two m) [ inl old ↦ first row old | inr new ↦ second row new ]

pub no_rows : (h : History) → RowsAreGiven h []
no_rows h = λ row m. absurd m

pub rows_of_each : {A : Type 0} (h : History) (f : A → List Row) (xs : List A) → ((x : A) → Member x xs → RowsAreGiven h (f x)) → RowsAreGiven h (flat_map f xs)
rows_of_each h f xs each = λ row m. let from = flat_member f row xs m in each from.0 from.1 row from.2

pub mapped_rows : {A : Type 0} (h : History) (f : A → Row) (xs : List A) → ((x : A) → Member x xs → RowIsGiven h (f x)) → RowsAreGiven h (map f xs)
mapped_rows h f xs each = λ row m. let from = map_member f row xs m in subst (RowIsGiven h) (sym from.2) (each from.0 from.1)

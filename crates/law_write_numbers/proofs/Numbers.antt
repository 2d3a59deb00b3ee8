-- The accepted writes of a transaction, and their numbers.
use Rattle.std.proofs.Common.{◌≡◌, ℕ, ◌+◌, ◌<◌, Bool, true, false, List, [], ◌∷◌, ◌++◌, length, map, flat_map, reverse, nat_eq, nat_le, refl, sym, ◌∙◌, ap, subst, inl, inr, if◌then◌else◌, arith}
use Rattle.std.proofs.lemmas.Bool.{lt-leb}
use Rattle.std.proofs.lemmas.List.{reverse-append, length-reverse, map-append}
use Rattle.txn_data.specs.declared.request.Request.TheVariants as request
use Rattle.txn_data.specs.declared.reply.Reply.TheVariants as reply
use Rattle.txn_data.specs.declared.written.Written.{Written}
use Rattle.txn_data.specs.declared.event.Event.{Event}
use Rattle.txn_data.specs.declared.event.Event.TheVariants.{Serve}
use Rattle.txn_data.specs.declared.entry.Entry.{Entry}
use Rattle.txn_types.specs.Lists.{Member, inserted_by, sorted_by}
use Rattle.txn_types.specs.History.{History}
use Rattle.txn_types.specs.Committed.{Numbered, accepted_by, writes}
use Rattle.law_machines.proofs.Basics.{eq_refl, eq_true, member_flat}
use Rattle.law_write_numbers.specs.Laws.{IsNumbered}

-- ## the accepted writes, the newest first

abbrev pub all_accepted : History → ℕ → List Numbered
all_accepted h x = flat_map (λ (e : Entry). accepted_by x e.event) h

none_choice : (b : Bool) (x txn number : ℕ) (n : Numbered) → nat_eq txn x ≡ b → ((k : ℕ) → (txn ≡ x) × (number ≡ k) → ⊥) → (if b then n ∷ [] else []) ≡ []
none_choice true x txn number n is none = absurd (none number (eq_true txn x is, refl))
none_choice false x txn number n is none = refl

pub none_accepted : (x : ℕ) (event : Event) → ((k : ℕ) → IsNumbered x k event → ⊥) → accepted_by x event ≡ []
none_accepted x (Serve from (request.Write meta number path op read seen fates) (reply.Written w) time append) none =
    none_choice (nat_eq meta.txn x) x meta.txn number (record { number = number; write = record { path = path; op = op } }) refl none
none_accepted x event none = refl

pub all_none : (x : ℕ) (h : History) → ((e : Entry) → Member e h → (k : ℕ) → IsNumbered x k e.event → ⊥) → all_accepted h x ≡ []
all_none x [] none = refl
all_none x (e ∷ h) none = ap (λ (ns : List Numbered). ns ++ all_accepted h x) (none_accepted x e.event (none e (inl refl))) ∙ all_none x h (λ f m. none f (inr m))

own_choice : (b : Bool) (n : Numbered) → b ≡ true → (if b then n ∷ [] else []) ≡ n ∷ []
own_choice true n is = refl
own_choice false n is = cc

pub own_accepted : (x number : ℕ) (w : Written) → (if nat_eq x x then (record { number = number; write = w }) ∷ [] else []) ≡ (let n : Numbered = record { number = number; write = w } in n ∷ [])
own_accepted x number w = own_choice (nat_eq x x) (record { number = number; write = w }) (eq_refl x)

numbered_in : (x k : ℕ) (event : Event) → IsNumbered x k event → (n : Numbered) × Member n (accepted_by x event) × (n.number ≡ k)
numbered_in x k (Serve from (request.Write meta number path op read seen fates) (reply.Written w) time append) is =
    let n : Numbered = record { number = number; write = record { path = path; op = op } } in
    let here : nat_eq meta.txn x ≡ true = subst (λ (y : ℕ). nat_eq meta.txn y ≡ true) is.0 (eq_refl meta.txn) in
    (n, subst (λ (ns : List Numbered). Member n ns) (sym (own_choice (nat_eq meta.txn x) n here)) (inl refl), is.1)
numbered_in x k event is = absurd is

-- ## numbered from 0 by their order

-- of writes with the newest first
unfoldable pub downwards : List Written → List Numbered
downwards [] = []
downwards (w ∷ older) = (record { number = length older; write = w }) ∷ downwards older

down_below : (ws : List Written) (n : Numbered) → Member n (downwards ws) → n.number < length ws
unfolding downwards
down_below [] n m = absurd m
down_below (w ∷ older) n m = elim m [
  | inl here ↦ let is : n.number ≡ length older = ap (λ (k : Numbered). k.number) here in omega (arith, is)
  | inr later ↦ let low = down_below older n later in omega (arith, low)
]

-- so each has a number below their count
pub accepted_below : (x : ℕ) (h : History) (ws : List Written) → all_accepted h x ≡ downwards (reverse ws) → (e : Entry) → Member e h → (k : ℕ) → IsNumbered x k e.event → k < length ws
accepted_below x h ws is e m k numbered =
    let n = numbered_in x k e.event numbered in
    let in_all : Member n.0 (all_accepted h x) = member_flat (λ (f : Entry). accepted_by x f.event) e n.0 h m n.1 in
    let low = down_below (reverse ws) n.0 (subst (λ (ns : List Numbered). Member n.0 ns) is in_all) in
    let count = length-reverse ws in
    let same = n.2 in
    omega (arith, low, count, same)

-- one more
pub down_more : (ws : List Written) (w : Written) → downwards (reverse (ws ++ w ∷ [])) ≡ (let n : Numbered = record { number = length ws; write = w } in n ∷ downwards (reverse ws))
unfolding downwards
down_more ws w =
    ap downwards (reverse-append ws (w ∷ []))
    ∙ ap (λ (k : ℕ). let n : Numbered = record { number = k; write = w } in n ∷ downwards (reverse ws)) (length-reverse ws)

-- ## sorted by number, they are in their order again

abbrev pub by_number : Numbered → Numbered → Bool
by_number a b = nat_le a.number b.number

abbrev to_write : Numbered → Written
to_write n = n.write

end_choice : (b : Bool) (x y : Numbered) (ys : List Numbered) → b ≡ false → inserted_by by_number x ys ≡ ys ++ x ∷ [] → (if b then x ∷ y ∷ ys else y ∷ inserted_by by_number x ys) ≡ y ∷ (ys ++ x ∷ [])
end_choice true x y ys is more = cc
end_choice false x y ys is more = ap (λ (ns : List Numbered). y ∷ ns) more

insert_end : (x : Numbered) (ys : List Numbered) → ((y : Numbered) → Member y ys → y.number < x.number) → inserted_by by_number x ys ≡ ys ++ x ∷ []
unfolding inserted_by
insert_end x [] low = refl
insert_end x (y ∷ ys) low = end_choice (by_number x y) x y ys (lt-leb x.number y.number (low y (inl refl))) (insert_end x ys (λ z m. low z (inr m)))

below_end : (x : Numbered) (ys : List Numbered) (k : ℕ) → ((y : Numbered) → Member y ys → y.number < k) → x.number ≡ k → (z : Numbered) → Member z (ys ++ x ∷ []) → z.number < k + 1
below_end x [] k low is z m = elim m [
  | inl here ↦ let same : z.number ≡ x.number = ap (λ (n : Numbered). n.number) here in omega (arith, same, is)
  | inr none ↦ absurd none
]
below_end x (y ∷ ys) k low is z m = elim m [
  | inl here ↦ let under = low y (inl refl) in let same : z.number ≡ y.number = ap (λ (n : Numbered). n.number) here in omega (arith, under, same)
  | inr later ↦ below_end x ys k (λ w n. low w (inr n)) is z later
]

sorted_down : (ws : List Written) → (map to_write (sorted_by by_number (downwards ws)) ≡ reverse ws) × ((n : Numbered) → Member n (sorted_by by_number (downwards ws)) → n.number < length ws)
unfolding downwards sorted_by
sorted_down [] = (refl, λ n m. absurd m)
sorted_down (w ∷ older) =
    let rest = sorted_down older in
    let ys = sorted_by by_number (downwards older) in
    let x : Numbered = record { number = length older; write = w } in
    let ends = insert_end x ys rest.1 in (
      ap (map to_write) ends ∙ (map-append to_write ys (x ∷ []) ∙ (ap (λ (vs : List Written). vs ++ w ∷ []) rest.0 ∙ sym (reverse-append (w ∷ []) older))),
      λ n m.
          let low = below_end x ys (length older) rest.1 refl n (subst (λ (ns : List Numbered). Member n ns) ends m) in
          omega (arith, low),
    )

twice : (ws : List Written) → reverse (reverse ws) ≡ ws
twice [] = refl
twice (w ∷ ws) =
    ap (λ (vs : List Written). reverse vs) (reverse-append (w ∷ []) ws) ∙ (reverse-append (reverse ws) (w ∷ []) ∙ ap (λ (vs : List Written). w ∷ vs) (twice ws))

pub accepted_writes : (x : ℕ) (h : History) (ws : List Written) → all_accepted h x ≡ downwards (reverse ws) → ws ≡ writes h x
unfolding writes
accepted_writes x h ws is =
    sym (ap (λ (ns : List Numbered). map to_write (sorted_by by_number ns)) is ∙ ((sorted_down (reverse ws)).0 ∙ twice ws))

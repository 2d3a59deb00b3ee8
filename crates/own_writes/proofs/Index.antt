-- The writes that are kept by path, as more are put there.
use Rattle.std.proofs.Common.{◌≡◌, ℕ, ◌≤◌, ◌<◌, ◌+◌, ◌-◌, get_or, List, [], ◌∷◌, ◌++◌, Option, length, take, drop, refl, sym, ap, ◌∙◌, arith, subst}
use Rattle.std.specs.Prelude.{map, Result, Ok, Err, IfOk}
use Rattle.std.specs.Coded.{Coded, Coded-set, coded_ℕ, coded_list, coded×, coded_option, code_by}
use Rattle.std.proofs.Math.Logic.{∥∥₁_elim, ∥∥₁_map}
use Rattle.std.proofs.lemmas.List.{take-append-le, take-append-drop, take_all, length-take-le, length-map, map-append, take_more, length-drop}
use Rattle.doc_path.specs.Path.{Parts}
use Rattle.txn_data.specs.declared.row.Row.{Row}
use Rattle.txn_data.specs.declared.version.Version.{Version}
use Rattle.txn_types.specs.Tablet.{with_versions}
use Rattle.regular_records.specs.Holding.{Holds}
use Rattle.own_writes.specs.Numbered.{version_of, numbered}
use Rattle.txn_types.specs.Session.{Accepted}
use Rattle.own_writes.specs.Accepted.{accepted, all_accepted}
use Rattle.own_writes.specs.Indexed.{written, IsIndexed}
use Rattle.own_writes.specs.declared.accepted.Accepted.{Accepted as Kept}
use Rattle.own_writes.proofs.Numbers.{all_more, numbered-append}

pub none_indexed : (kept : List Version) (items : List Kept) → Holds kept [] → IsIndexed kept 0 items
unfolding numbered
none_indexed kept items h = ∣ h ∣₁

pub same_indexed : (kept : List Version) (n : ℕ) (old new : List Kept) → new ≡ old → IsIndexed kept n old → IsIndexed kept n new
same_indexed kept n old new e h = let P : List Kept → Type 0 = λ items. IsIndexed kept n items in subst P (sym e) h

pub push_indexed : (kept : List Version) (n : ℕ) (old more new : List Kept) → n ≤ length old → new ≡ old ++ more → IsIndexed kept n old → IsIndexed kept n new
push_indexed kept n old more new within e h =
    let P : List Kept → Type 0 = λ items. ∥ Holds kept (numbered 0 (written items)) ∥₁ in
    same_indexed kept n (old ++ more) new e (subst P (sym (take-append-le n old more within)) h)

pub failed_indexed : (kept new : List Version) (n : ℕ) (items : List Kept) → ((vs : List Version) → Holds kept vs → Holds new vs) → IsIndexed kept n items → IsIndexed new n items
failed_indexed kept new n items same h = ∥∥₁_map h (same (numbered 0 (written (take n items))))

written_length : (n : ℕ) (items : List Kept) → n ≤ length items → n ≡ length (written (take n items))
written_length n items within =
    sym (length-take-le n items within) ∙ sym (length-map (take n items) accepted) ∙ sym (length-map (all_accepted (take n items)) (λ (a : Accepted). a.write))

pub written-append : (xs ys : List Kept) → written (xs ++ ys) ≡ written xs ++ written ys
written-append xs ys =
    ap (map (λ (a : Accepted). a.write)) (map-append accepted xs ys) ∙ map-append (λ (a : Accepted). a.write) (all_accepted xs) (all_accepted ys)

written_all : (n : ℕ) (items : List Kept) → written (take n items) ++ written (drop n items) ≡ written items
written_all n items = sym (written-append (take n items) (drop n items)) ∙ ap written (take-append-drop n items)

pub all_indexed : (kept new : List Version) (n m : ℕ) (items : List Kept) → n ≤ length items → m ≡ length items
    → ((vs : List Version) → Holds kept vs → Holds new (with_versions vs (numbered n (written (drop n items))))) → IsIndexed kept n items → IsIndexed new m items
all_indexed kept new n m items within all more h =
    let joined : with_versions (numbered 0 (written (take n items))) (numbered n (written (drop n items))) ≡ numbered 0 (written (take m items)) =
    all_more n (written (take n items)) (written (drop n items)) (written_length n items within) ∙ ap (numbered 0) (written_all n items ∙ ap written (sym (take_all m items (omega arith)))) in
    let P : List Version → Type 0 = λ vs. Holds new vs in
    ∥∥₁_map h (λ held. subst P joined (more (numbered 0 (written (take n items))) held))

-- ## what follows where all are there

row_code : Coded Row
row_code = code_by (Parts × Option (List ℕ)) (coded× (coded_list (coded_list coded_ℕ)) (coded_option (coded_list coded_ℕ))) (λ r. (r.path, r.value)) (λ p. record { path = p.0; value = p.1 }) (λ _. refl)

pub on_indexed : (kept : List Version) (n : ℕ) (items : List Kept) (a b : List Row) → n ≡ length items → IsIndexed kept n items → (Holds kept (numbered 0 (written items)) → a ≡ b) → a ≡ b
on_indexed kept n items a b all h is =
    let P : List Kept → Type 0 = λ those. Holds kept (numbered 0 (written those)) in
    ∥∥₁_elim h (Coded-set (coded_list row_code) a b) (λ held. is (subst P (take_all n items (omega arith)) held))

pub if_indexed : {E : Type 0} (kept : List Version) (n : ℕ) (items : List Kept) (r : Result (List Row) E) (x : List Row) → n ≡ length items → IsIndexed kept n items
    → (Holds kept (numbered 0 (written items)) → IfOk r (λ a. a ≡ x)) → IfOk r (λ a. a ≡ x)
if_indexed kept n items (Ok a) x all h is = on_indexed kept n items a x all h is
if_indexed kept n items (Err e) x all h is = tt

-- ## one more in a list

pub numbered_more : (first i : ℕ) (ws : List Kept) (x : Kept) → i < length ws → x ≡ get_or ws i x
    → numbered first (written (take (i + 1) ws)) ≡ numbered first (written (take i ws)) ++ version_of (first + i) x.write ∷ []
unfolding numbered
numbered_more first i ws x in_ws is =
    let more : take (i + 1) ws ≡ take i ws ++ x ∷ [] = take_more ws i x in_ws ∙ ap (λ y. take i ws ++ y ∷ []) (sym is) in
    let long : first + length (written (take i ws)) ≡ first + i = ap (λ k. first + k) (sym (written_length i ws (omega arith))) in
    ap (λ l. numbered first (written l)) more
    ∙ ap (numbered first) (written-append (take i ws) (x ∷ []))
    ∙ numbered-append first (written (take i ws)) (written (x ∷ []))
    ∙ ap (λ k. numbered first (written (take i ws)) ++ version_of k x.write ∷ []) long

pub rest_sliced : (n : ℕ) (xs : List Kept) → take (length xs - n) (drop n xs) ≡ drop n xs
rest_sliced n xs = take_all (length xs - n) (drop n xs) (omega (arith, length-drop n xs))

-- The steps of the loops over arguments, and what each call answers.
use Rattle.std.specs.Prelude.{◌≡◌, ℕ, suc, ◌+◌, ◌-◌, ◌<◌, ◌≤◌, ◌^◌, List, ◌∷◌, ◌++◌, length, take, drop, min, Option, Some, None, slice_index, set, get_or, refl}
use Rattle.std.proofs.Common.{ap, ◌∙◌, sym, subst, arith}
use Rattle.std.proofs.lemmas.List.{set_split, map-append, take-append-drop, get_or_default}
use Rattle.slotted_slots.specs.Maps.{values, with_value_at}
use Rattle.slotted_slots.specs.Syntax.{Element, applied, name}
use Rattle.slotted_slots.specs.declared.types.AppliedId.{AppliedId}
use Rattle.slotted_nodes.specs.Form.{scopes, scope_end_of, end_at, counted, counted_end, child_place}
use Rattle.slotted_nodes.specs.ReadFrom.{slots_of, applied_count, applied_count-append}
use Rattle.slotted_symbols.specs.Arguments.{element, elements, places, tree_of, to_child}
use Rattle.slotted_symbols.specs.Places.{IsAtPlace, IsChildAt, HasName, HasChild, HasOtherChild}
use Rattle.slotted_symbols.specs.Trees.{place_of_child}
use Rattle.slotted_symbols.proofs.Splitting.{split, places_more, children_more}
use Rattle.slotted_symbols.proofs.Found.{name_of_slot, name_in_child, slot_replaced, value_replaced, child_found, child_replaced, end_at_slot, no_end_in_child}
use Rattle.slotted_symbols.specs.declared.argument.Argument.{Argument}
use Rattle.slotted_symbols.specs.declared.argument.Argument.TheVariants.{Slot, Child}

-- how many places stand in front of the argument k
abbrev pub places_before : List Argument → ℕ → ℕ
places_before args k = length (slots_of (elements (take k args)))

abbrev pub children_before : List Argument → ℕ → ℕ
children_before args n = applied_count (elements (take n args))

-- locating a place
pub locate_step : (args : List Argument) (i k left w : ℕ) (x : Argument) → k < length args → x ≡ get_or args k x → w ≡ places (element x) →
    w ≤ left → places_before args k + left ≡ i → places_before args (k + 1) + (left - w) ≡ i
locate_step args i k left w x h at width le inv = omega (arith, places_more args k x h at, width, le, inv)

pub located : (args : List Argument) (i k left w : ℕ) (x : Argument) → k < length args → x ≡ get_or args k x → w ≡ places (element x) →
    left < w → places_before args k + left ≡ i → IsAtPlace args i k left
located args i k left w x h at width lt inv = record {
  within = h;
  place = inv;
  inside = omega (arith, places_more args k x h at, width, lt, inv);
}

-- the place of a slot, and those of a child
slot_place : (args : List Argument) (i k j x : ℕ) → IsAtPlace args i k j → Slot x ≡ get_or args k (Slot x) → i ≡ places_before args k
slot_place args i k j x p at = omega (arith, places_more args k (Slot x) p.within at, p.place, p.inside)

pub child_place_at : (args : List Argument) (i k j : ℕ) (a : AppliedId) → IsAtPlace args i k j → Child a ≡ get_or args k (Child a) → j < length a.m
child_place_at args i k j a p at = omega (arith, places_more args k (Child a) p.within at, p.place, p.inside)

-- reading
pub slot_named : (args : List Argument) (i k j x : ℕ) → IsAtPlace args i k j → Slot x ≡ get_or args k (Slot x) →
    slice_index (slots_of (elements args)) i ≡ x
slot_named args i k j x p at =
    (λ t. slice_index (slots_of (split args k (Slot x) p.within at t)) (slot_place args i k j x p at t))
    ∙ name_of_slot (elements (take k args)) x (elements (drop (k + 1) args))

pub value_named : (args : List Argument) (i k j : ℕ) (a : AppliedId) → IsAtPlace args i k j → Child a ≡ get_or args k (Child a) →
    slice_index (slots_of (elements args)) i ≡ slice_index (values a.m) j
value_named args i k j a p at =
    (λ t. slice_index (slots_of (split args k (Child a) p.within at t)) (sym p.place t))
    ∙ name_in_child (elements (take k args)) a.id.0 a.m (elements (drop (k + 1) args)) j (child_place_at args i k j a p at)

-- writing
set_elements : (args : List Argument) (k : ℕ) (y : Argument) → k < length args →
    elements (set args k y) ≡ elements (take k args) ++ (element y ∷ elements (drop (k + 1) args))
set_elements args k y h =
    let e : suc k ≡ k + 1 = omega arith in
    ap elements (set_split args k y h ∙ ap (λ n. take k args ++ y ∷ drop n args) e) ∙ map-append element (take k args) (y ∷ drop (k + 1) args)

pub slot_set : (args : List Argument) (i k j x s : ℕ) → IsAtPlace args i k j → Slot x ≡ get_or args k (Slot x) →
    HasName (elements args) i s (elements (set args k (Slot s)))
slot_set args i k j x s p at =
    let es : List Element = elements (take k args) in
    let ds : List Element = elements (drop (k + 1) args) in
    subst (λ f. HasName (elements args) i s f) (sym (set_elements args k (Slot s) p.within))
    (subst (λ e. HasName e i s (es ++ name s ∷ ds)) (sym (split args k (Slot x) p.within at))
    (subst (λ n. HasName (es ++ name x ∷ ds) n s (es ++ name s ∷ ds)) (sym (slot_place args i k j x p at)) (slot_replaced es x s ds)))

pub value_set : (args : List Argument) (i k j s : ℕ) (a b : AppliedId) → IsAtPlace args i k j → Child a ≡ get_or args k (Child a) →
    b.id.0 ≡ a.id.0 → b.m ≡ with_value_at a.m j s → HasName (elements args) i s (elements (set args k (Child b)))
value_set args i k j s a b p at id m =
    let es : List Element = elements (take k args) in
    let ds : List Element = elements (drop (k + 1) args) in
    let there : HasName (es ++ applied a.id.0 a.m ∷ ds) (length (slots_of es) + j) s (es ++ applied a.id.0 (with_value_at a.m j s) ∷ ds) =
    value_replaced es a.id.0 a.m ds j s (child_place_at args i k j a p at) in
    let made : es ++ applied b.id.0 b.m ∷ ds ≡ es ++ applied a.id.0 (with_value_at a.m j s) ∷ ds = (λ t. es ++ applied (id t) (m t) ∷ ds) in
    subst (λ f. HasName (elements args) i s f) (sym (set_elements args k (Child b) p.within ∙ made))
    (subst (λ e. HasName e i s (es ++ applied a.id.0 (with_value_at a.m j s) ∷ ds)) (sym (split args k (Child a) p.within at))
    (subst (λ n. HasName (es ++ applied a.id.0 a.m ∷ ds) n s (es ++ applied a.id.0 (with_value_at a.m j s) ∷ ds)) p.place there))

-- scopes
pub slot_end : (args : List Argument) (i k j x : ℕ) → IsAtPlace args i k j → Slot x ≡ get_or args k (Slot x) →
    scope_end_of (scopes (tree_of (elements args))) i ≡ end_at i (to_child (elements (drop (k + 1) args)))
slot_end args i k j x p at =
    let es : List Element = elements (take k args) in
    let ds : List Element = elements (drop (k + 1) args) in
    let q = slot_place args i k j x p at in
    (λ t. scope_end_of (scopes (tree_of (split args k (Slot x) p.within at t))) (q t))
    ∙ end_at_slot es x ds ∙ ap (λ n. end_at n (to_child ds)) (sym q)

pub child_end : (args : List Argument) (i k j : ℕ) (a : AppliedId) → IsAtPlace args i k j → Child a ≡ get_or args k (Child a) →
    scope_end_of (scopes (tree_of (elements args))) i ≡ None
child_end args i k j a p at =
    (λ t. scope_end_of (scopes (tree_of (split args k (Child a) p.within at t))) (sym p.place t))
    ∙ no_end_in_child (elements (take k args)) a.id.0 a.m (elements (drop (k + 1) args)) j (child_place_at args i k j a p at)

-- children
pub child_reached : (args : List Argument) (k n : ℕ) (a : AppliedId) → n < length args → Child a ≡ get_or args n (Child a) →
    children_before args n + 0 ≡ k → IsChildAt args k n
child_reached args k n a h at inv = record {
  within = h;
  before = omega (arith, inv);
  one = omega (arith, children_more args n (Child a) h at, inv);
}

pub no_slot_there : (args : List Argument) (k n x : ℕ) → IsChildAt args k n → Slot x ≡ get_or args n (Slot x) → ⊥
no_slot_there args k n x p at = omega (arith, children_more args n (Slot x) p.within at, p.before, p.one)

pub child_read : (args : List Argument) (k n : ℕ) (a : AppliedId) → IsChildAt args k n → Child a ≡ get_or args n (Child a) → HasChild (elements args) k a
child_read args k n a p at =
    subst (λ e. HasChild e k a) (sym (split args n (Child a) p.within at))
    (subst (λ c. HasChild (elements (take n args) ++ applied a.id.0 a.m ∷ elements (drop (n + 1) args)) c a) p.before
    (child_found (elements (take n args)) a (elements (drop (n + 1) args))))

pub child_written : (args : List Argument) (k n : ℕ) (a b : AppliedId) → IsChildAt args k n → Child b ≡ get_or args n (Child b) →
    HasOtherChild (elements args) k a (elements (set args n (Child a)))
child_written args k n a b p at =
    let es : List Element = elements (take n args) in
    let ds : List Element = elements (drop (n + 1) args) in
    subst (λ f. HasOtherChild (elements args) k a f) (sym (set_elements args n (Child a) p.within))
    (subst (λ e. HasOtherChild e k a (es ++ applied a.id.0 a.m ∷ ds)) (sym (split args n (Child b) p.within at))
    (subst (λ c. HasOtherChild (es ++ applied b.id.0 b.m ∷ ds) c a (es ++ applied a.id.0 a.m ∷ ds)) p.before (child_replaced es b a ds)))

pub child_placed : (args : List Argument) (k n : ℕ) (b : AppliedId) → IsChildAt args k n → Child b ≡ get_or args n (Child b) →
    child_place (tree_of (elements args)) k ≡ places_before args n
child_placed args k n b p at =
    (λ t. child_place (tree_of (split args n (Child b) p.within at t)) (sym p.before t))
    ∙ place_of_child (elements (take n args)) b.id.0 b.m (elements (drop (n + 1) args))

pub child_within : (args : List Argument) (k n : ℕ) → IsChildAt args k n → k < applied_count (elements args)
child_within args k n p =
    let e : applied_count (elements args) ≡ applied_count (elements (take (n + 1) args)) + applied_count (elements (drop (n + 1) args)) =
    ap (λ l. applied_count (elements l)) (sym (take-append-drop (n + 1) args))
    ∙ (ap applied_count (map-append element (take (n + 1) args) (drop (n + 1) args))
    ∙ applied_count-append (elements (take (n + 1) args)) (elements (drop (n + 1) args))) in
    omega (arith, e, p.one)

-- what stands at a child is a child
placed_by : (args : List Argument) (k n : ℕ) (x : Argument) → IsChildAt args k n → x ≡ get_or args n x → child_place (tree_of (elements args)) k ≡ places_before args n
placed_by args k n (Slot x) p at = absurd (no_slot_there args k n x p at)
placed_by args k n (Child b) p at = child_placed args k n b p at

pub placed_at : (args : List Argument) (k n : ℕ) → IsChildAt args k n → child_place (tree_of (elements args)) k ≡ places_before args n
placed_at args k n p =
    let x = get_or args n (Slot 0) in
    placed_by args k n x p (get_or_default args n (Slot 0) x p.within)

written_by : (args : List Argument) (k n : ℕ) (a : AppliedId) (x : Argument) → IsChildAt args k n → x ≡ get_or args n x → HasOtherChild (elements args) k a (elements (set args n (Child a)))
written_by args k n a (Slot x) p at = absurd (no_slot_there args k n x p at)
written_by args k n a (Child b) p at = child_written args k n a b p at

pub written_at : (args : List Argument) (k n : ℕ) (a : AppliedId) → IsChildAt args k n → HasOtherChild (elements args) k a (elements (set args n (Child a)))
written_at args k n a p =
    let x = get_or args n (Slot 0) in
    written_by args k n a x p (get_or_default args n (Slot 0) x p.within)

-- the end of a scope, as the code adds it up
pub end_some : (i count s r : ℕ) (o : Option ℕ) → Some count ≡ counted_end o → s ≡ min (count + 1) (2 ^ 64 - 1) → r ≡ min (s + i) (2 ^ 64 - 1) →
    Some r ≡ counted_end (end_at i o)
end_some i count s r None e f g = cc
end_some i count s r (Some n) e f g =
    let same : count ≡ counted n = cc in
    ap Some (omega (arith, same, f, g))

pub end_none : (i : ℕ) (o : Option ℕ) → None ≡ counted_end o → None ≡ counted_end (end_at i o)
end_none i None e = refl
end_none i (Some n) e = cc

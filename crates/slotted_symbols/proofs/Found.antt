-- What stands at a place, at a slot and at a child, and what is left when it is replaced.
use Rattle.std.specs.Prelude.{◌≡◌, ℕ, ◌+◌, ◌-◌, ◌<◌, List, [], ◌∷◌, ◌++◌, length, take, drop, None, slice_index, slice_index_or, get_or, set, refl}
use Rattle.std.proofs.Common.{ap, ◌∙◌, sym, arith, append_assoc, length-append}
use Rattle.std.proofs.lemmas.List.{get_or_at, get_or-append-add, get_or_append_left, set_at, set-append_left, set-append_right, take_at, drop_at, drop-drop}
use Rattle.slotted_slots.specs.Maps.{keys, values, with_value_at, keys-with_value_at, values-with_value_at}
use Rattle.slotted_slots.specs.Syntax.{Element, text, applied, name}
use Rattle.slotted_slots.specs.declared.types.AppliedId.{AppliedId}
use Rattle.slotted_nodes.specs.Form.{child, children, scopes, scope_end_of, end_at}
use Rattle.slotted_nodes.specs.ReadFrom.{slots_of, slots_of-append, applied_count}
use Rattle.slotted_symbols.specs.Arguments.{tree_of, to_child, kinds, with_slot}
use Rattle.slotted_symbols.specs.Places.{HasName, HasChild, HasOtherChild}
use Rattle.slotted_symbols.specs.Trees.{length-keys, length-values, children-tree_of, child_behind, place_of_child, other_child, same_keys, scope_at_slot, scope_in_child}

-- the name at a slot, and in a child
pub name_of_slot : (es : List Element) (x : ℕ) (ds : List Element) → slice_index (slots_of (es ++ name x ∷ ds)) (length (slots_of es)) ≡ x
name_of_slot es x ds =
    ap (λ l. get_or l (length (slots_of es)) 0) (slots_of-append es (name x ∷ ds)) ∙ get_or_at (slots_of es) x (slots_of ds) 0 (length (slots_of es)) refl

pub name_in_child : (es : List Element) (i : ℕ) (m : List (ℕ × ℕ)) (ds : List Element) (j : ℕ) → j < length m →
    slice_index (slots_of (es ++ applied i m ∷ ds)) (length (slots_of es) + j) ≡ slice_index (values m) j
name_in_child es i m ds j h =
    ap (λ l. get_or l (length (slots_of es) + j) 0) (slots_of-append es (applied i m ∷ ds))
    ∙ (get_or-append-add (slots_of es) (values m ++ slots_of ds) j 0
    ∙ get_or_append_left (values m) (slots_of ds) 0 j (omega (arith, h, length-values m)))

-- lists with another element in the middle
kinds_slot : (es : List Element) (x y : ℕ) (ds : List Element) → kinds (es ++ name x ∷ ds) ≡ kinds (es ++ name y ∷ ds)
kinds_slot [] x y ds = refl
kinds_slot (text w ∷ es) x y ds = kinds_slot es x y ds
kinds_slot (applied i m ∷ es) x y ds = ap (λ ks. 1 ∷ ks) (kinds_slot es x y ds)
kinds_slot (name z ∷ es) x y ds = ap (λ ks. 0 ∷ ks) (kinds_slot es x y ds)

kinds_child : (es : List Element) (i : ℕ) (m : List (ℕ × ℕ)) (j : ℕ) (n : List (ℕ × ℕ)) (ds : List Element) →
    kinds (es ++ applied i m ∷ ds) ≡ kinds (es ++ applied j n ∷ ds)
kinds_child [] i m j n ds = refl
kinds_child (text w ∷ es) i m j n ds = kinds_child es i m j n ds
kinds_child (applied h o ∷ es) i m j n ds = ap (λ ks. 1 ∷ ks) (kinds_child es i m j n ds)
kinds_child (name z ∷ es) i m j n ds = ap (λ ks. 0 ∷ ks) (kinds_child es i m j n ds)

as_many : (es : List Element) (d e : Element) (ds : List Element) → length (es ++ d ∷ ds) ≡ length (es ++ e ∷ ds)
as_many es d e ds = length-append es (d ∷ ds) ∙ sym (length-append es (e ∷ ds))

tree_slot : (es : List Element) (x y : ℕ) (ds : List Element) → tree_of (es ++ name x ∷ ds) ≡ tree_of (es ++ name y ∷ ds)
tree_slot [] x y ds = refl
tree_slot (text w ∷ es) x y ds = tree_slot es x y ds
tree_slot (applied i m ∷ es) x y ds = ap (λ t. child i (keys m) t) (tree_slot es x y ds)
tree_slot (name z ∷ es) x y ds = ap with_slot (tree_slot es x y ds)

-- another name at a slot, and in a child
pub slot_replaced : (es : List Element) (x s : ℕ) (ds : List Element) → HasName (es ++ name x ∷ ds) (length (slots_of es)) s (es ++ name s ∷ ds)
slot_replaced es x s ds = record {
  count = as_many es (name s) (name x) ds;
  kind = kinds_slot es s x ds;
  tree = tree_slot es s x ds;
  names = slots_of-append es (name s ∷ ds)
      ∙ sym (ap (λ l. set l (length (slots_of es)) s) (slots_of-append es (name x ∷ ds)) ∙ set_at (slots_of es) x (slots_of ds) s (length (slots_of es)) refl);
}

pub value_replaced : (es : List Element) (i : ℕ) (m : List (ℕ × ℕ)) (ds : List Element) (j s : ℕ) → j < length m →
    HasName (es ++ applied i m ∷ ds) (length (slots_of es) + j) s (es ++ applied i (with_value_at m j s) ∷ ds)
value_replaced es i m ds j s h =
    let n = length (slots_of es) in
    let back : n + j - n ≡ j = omega arith in
    let written : set (slots_of es ++ (values m ++ slots_of ds)) (n + j) s ≡ slots_of es ++ (values (with_value_at m j s) ++ slots_of ds) =
    set-append_right (slots_of es) (values m ++ slots_of ds) n (n + j) s refl (omega arith)
    ∙ (ap (λ k. slots_of es ++ set (values m ++ slots_of ds) k s) back
    ∙ (ap (λ l. slots_of es ++ l) (set-append_left (values m) (slots_of ds) j s (omega (arith, h, length-values m)))
    ∙ ap (λ l. slots_of es ++ (l ++ slots_of ds)) (sym (values-with_value_at m j s)))) in
    record {
      count = as_many es (applied i (with_value_at m j s)) (applied i m) ds;
      kind = kinds_child es i (with_value_at m j s) i m ds;
      tree = same_keys es i (with_value_at m j s) m ds (keys-with_value_at m j s);
      names = slots_of-append es (applied i (with_value_at m j s) ∷ ds)
          ∙ sym (ap (λ l. set l (n + j) s) (slots_of-append es (applied i m ∷ ds)) ∙ written);
    }

-- a child
child_there : (es : List Element) (a : AppliedId) (ds : List Element) →
    slice_index_or (children (tree_of (es ++ applied a.id.0 a.m ∷ ds))) (applied_count es) (0, []) ≡ (a.id.0, keys a.m)
child_there es a ds =
    ap (λ cs. slice_index_or cs (applied_count es) (0, [])) (children-tree_of (es ++ applied a.id.0 a.m ∷ ds)) ∙ child_behind es a.id.0 a.m ds

names_there : (es : List Element) (a : AppliedId) (ds : List Element) →
    take (length (keys a.m)) (drop (length (slots_of es)) (slots_of (es ++ applied a.id.0 a.m ∷ ds))) ≡ values a.m
names_there es a ds =
    ap (λ l. take (length (keys a.m)) (drop (length (slots_of es)) l)) (slots_of-append es (applied a.id.0 a.m ∷ ds))
    ∙ (ap (take (length (keys a.m))) (drop_at (slots_of es) (values a.m ++ slots_of ds) (length (slots_of es)) refl)
    ∙ take_at (values a.m) (slots_of ds) (length (keys a.m)) (omega (arith, length-keys a.m, length-values a.m)))

pub child_found : (es : List Element) (a : AppliedId) (ds : List Element) → HasChild (es ++ applied a.id.0 a.m ∷ ds) (applied_count es) a
child_found es a ds =
    let c = child_there es a ds in
    record {
      id = sym (ap (λ p. p.0) c);
      key = sym (ap (λ p. p.1) c);
      names = sym ((λ j. take (length (c j).1) (drop (place_of_child es a.id.0 a.m ds j) (slots_of (es ++ applied a.id.0 a.m ∷ ds)))) ∙ names_there es a ds);
    }

pub child_replaced : (es : List Element) (b a : AppliedId) (ds : List Element) →
    HasOtherChild (es ++ applied b.id.0 b.m ∷ ds) (applied_count es) a (es ++ applied a.id.0 a.m ∷ ds)
child_replaced es b a ds =
    let n = length (slots_of es) in
    let all : List ℕ = slots_of (es ++ applied b.id.0 b.m ∷ ds) in
    let c = child_there es b ds in
    let before : take n all ≡ slots_of es = ap (take n) (slots_of-append es (applied b.id.0 b.m ∷ ds)) ∙ take_at (slots_of es) (values b.m ++ slots_of ds) n refl in
    let after : drop (n + length (keys b.m)) all ≡ slots_of ds =
    sym (drop-drop (length (keys b.m)) n all)
    ∙ (ap (λ l. drop (length (keys b.m)) (drop n l)) (slots_of-append es (applied b.id.0 b.m ∷ ds))
    ∙ (ap (drop (length (keys b.m))) (drop_at (slots_of es) (values b.m ++ slots_of ds) n refl)
    ∙ drop_at (values b.m) (slots_of ds) (length (keys b.m)) (omega (arith, length-keys b.m, length-values b.m)))) in
    record {
      count = as_many es (applied a.id.0 a.m) (applied b.id.0 b.m) ds;
      kind = kinds_child es a.id.0 a.m b.id.0 b.m ds;
      tree = sym (other_child es b.id.0 b.m a.id.0 a.m ds);
      names = slots_of-append es (applied a.id.0 a.m ∷ ds)
          ∙ sym (append_assoc (slots_of es) (values a.m) (slots_of ds))
          ∙ sym ((λ j. take (place_of_child es b.id.0 b.m ds j) all ++ values a.m ++ drop (place_of_child es b.id.0 b.m ds j + length (c j).1) all)
          ∙ (λ j. before j ++ values a.m ++ after j));
    }

-- scopes
pub end_at_slot : (es : List Element) (x : ℕ) (ds : List Element) →
    scope_end_of (scopes (tree_of (es ++ name x ∷ ds))) (length (slots_of es)) ≡ end_at (length (slots_of es)) (to_child ds)
end_at_slot es x ds = ap (end_at (length (slots_of es))) (scope_at_slot es x ds)

pub no_end_in_child : (es : List Element) (i : ℕ) (m : List (ℕ × ℕ)) (ds : List Element) (j : ℕ) → j < length m →
    scope_end_of (scopes (tree_of (es ++ applied i m ∷ ds))) (length (slots_of es) + j) ≡ None
no_end_in_child es i m ds j h = ap (end_at (length (slots_of es) + j)) (scope_in_child es i m ds j h)

-- Reading and writing two fields of one node.
use Rattle.std.specs.Prelude.{◌≡◌, ℕ, suc, zero, ◌+◌, ◌-◌, ◌<◌, ◌≤◌, List, [], ◌∷◌, ◌++◌, length, map, Option, Some, None, refl, slice_index_or, ◌⊎◌}
use Rattle.std.proofs.Common.{ap, ◌∙◌, inl, inr, sym, append_assoc, arith, length-append}
use Rattle.std.proofs.lemmas.Grind.{common_steps}
use Rattle.std.proofs.lemmas.List.{length-map}
use Rattle.slotted_nodes.specs.Form.{Tree, leaf, own, child, bind, join, scopes, children, child_place, with_child_in, end_at, scope_end_of}

-- places and children of two trees are those of the one, then those of the other
pub scopes-join : (a b : Tree) → scopes (join a b) ≡ scopes a ++ scopes b
scopes-join leaf b = refl
scopes-join (own r) b = ap (λ s. None ∷ s) (scopes-join r b)
scopes-join (child i ks r) b = rw (scopes-join r b) (sym (append_assoc (map (λ _. None) ks) (scopes r) (scopes b)))
scopes-join (bind u r) b = rw (scopes-join r b) (ap (λ s. Some (length (scopes u)) ∷ s) (sym (append_assoc (scopes u) (scopes r) (scopes b))))

pub children-join : (a b : Tree) → children (join a b) ≡ children a ++ children b
children-join leaf b = refl
children-join (own r) b = children-join r b
children-join (child i ks r) b = ap (λ s. (i, ks) ∷ s) (children-join r b)
children-join (bind u r) b = rw (children-join r b) (sym (append_assoc (children u) (children r) (children b)))

-- a child of the one keeps its place, and one of the other comes after the places of the one
pub child_place-join_left : (a b : Tree) (k : ℕ) → k < length (children a) → child_place (join a b) k ≡ child_place a k
child_place-join_left leaf b k h = grind arith
child_place-join_left (own r) b k h = ap suc (child_place-join_left r b k h)
child_place-join_left (child i ks r) b zero h = refl
child_place-join_left (child i ks r) b (suc k) h = ap (λ n. length ks + n) (child_place-join_left r b k (omega arith))
child_place-join_left (bind u r) b k h = grind (arith, length-append, child_place-join_left r b (k - length (children u)))

pub child_place-join_right : (a b : Tree) (k : ℕ) → length (children a) ≤ k →
    child_place (join a b) k ≡ length (scopes a) + child_place b (k - length (children a))
child_place-join_right leaf b k h = grind arith
child_place-join_right (own r) b k h = grind (arith, child_place-join_right r b k h)
child_place-join_right (child i ks r) b zero h = grind arith
child_place-join_right (child i ks r) b (suc k) h = grind (arith, length-append, length-map, child_place-join_right r b k)
child_place-join_right (bind u r) b k h = grind (arith, length-append, child_place-join_right r b (k - length (children u)))

-- another child goes into the one or into the other
pub with_child_in-join_left : (a b : Tree) (k j : ℕ) (ls : List ℕ) → k < length (children a) →
    with_child_in (join a b) k j ls ≡ join (with_child_in a k j ls) b
with_child_in-join_left leaf b k j ls h = grind arith
with_child_in-join_left (own r) b k j ls h = ap own (with_child_in-join_left r b k j ls h)
with_child_in-join_left (child i ks r) b zero j ls h = refl
with_child_in-join_left (child i ks r) b (suc k) j ls h = ap (λ t. child i ks t) (with_child_in-join_left r b k j ls (omega arith))
with_child_in-join_left (bind u r) b k j ls h = grind (arith, length-append, with_child_in-join_left r b (k - length (children u)) j ls)

pub with_child_in-join_right : (a b : Tree) (k j : ℕ) (ls : List ℕ) → length (children a) ≤ k →
    with_child_in (join a b) k j ls ≡ join a (with_child_in b (k - length (children a)) j ls)
with_child_in-join_right leaf b k j ls h = grind arith
with_child_in-join_right (own r) b k j ls h = ap own (with_child_in-join_right r b k j ls h)
with_child_in-join_right (child i ks r) b zero j ls h = grind arith
with_child_in-join_right (child i ks r) b (suc k) j ls h = grind (arith, with_child_in-join_right r b k j ls)
with_child_in-join_right (bind u r) b k j ls h = grind (arith, length-append, with_child_in-join_right r b (k - length (children u)) j ls)

-- a child's places are places of the tree
pub child_fits : (a : Tree) (k : ℕ) → k < length (children a) →
    child_place a k + length (slice_index_or (children a) k (0, [])).1 ≤ length (scopes a)
child_fits leaf k h = grind arith
child_fits (own r) k h = grind (arith, child_fits r k)
child_fits (child i ks r) zero h = grind (arith, length-append, length-map)
child_fits (child i ks r) (suc k) h = grind (arith, length-append, length-map, child_fits r k)
child_fits (bind u r) k h = grind (arith, length-append, common_steps, child_fits u k, child_fits r (k - length (children u)))

-- there is no binder among the places of a child
pub none_at : (ks : List ℕ) (i : ℕ) → slice_index_or (map {B = Option ℕ} (λ _. None) ks) i None ≡ None
none_at [] i = refl
none_at (k ∷ ks) zero = refl
none_at (k ∷ ks) (suc i) = none_at ks i

-- what stands at a place of two lists
pub at_append : {A : Type 0} (a b : List A) (d : A) (i : ℕ) →
    ((i < length a) × (slice_index_or (a ++ b) i d ≡ slice_index_or a i d)) ⊎
    ((length a ≤ i) × (slice_index_or (a ++ b) i d ≡ slice_index_or b (i - length a) d))
at_append [] b d i = inr (omega arith, ap (λ n. slice_index_or b n d) (omega arith))
at_append (x ∷ a) b d zero = inl (omega arith, refl)
at_append (x ∷ a) b d (suc i) = elim (at_append a b d i) [ inl h ↦ inl (omega (arith, h.0), h.1) | inr h ↦ inr (omega (arith, h.0), h.1 ∙ ap (λ n. slice_index_or b n d) (omega arith)) ]

-- a binder's scope ends within the tree
pub scope_within : (t : Tree) (i n : ℕ) → slice_index_or (scopes t) i None ≡ Some n → i + 1 + n ≤ length (scopes t)
scope_within leaf i n h = cc
scope_within (own r) zero n h = cc
scope_within (own r) (suc i) n h = grind (arith, scope_within r i n)
scope_within (child k ks r) i n h =
    grind (arith, length-append, length-map, none_at, at_append (map {B = Option ℕ} (λ _. None) ks) (scopes r) None i, scope_within r (i - length ks) n)
scope_within (bind u r) zero n h = grind (arith, length-append)
scope_within (bind u r) (suc i) n h =
    grind (arith, length-append, at_append (scopes u) (scopes r) None i, scope_within u i n, scope_within r (i - length (scopes u)) n)

-- where the scope of a binder ends is a place of the tree
end_within : (t : Tree) (i e : ℕ) (o : Option ℕ) → slice_index_or (scopes t) i None ≡ o → end_at i o ≡ Some e → e ≤ length (scopes t)
end_within t i e None p h = cc
end_within t i e (Some n) p h = grind (arith, scope_within t i n)

pub scope_end_within : (t : Tree) (i e : ℕ) → Some e ≡ scope_end_of (scopes t) i → e ≤ length (scopes t)
scope_end_within t i e h = end_within t i e (slice_index_or (scopes t) i None) refl (sym h)

-- another child leaves as many children
pub length_children-with_child_in : (t : Tree) (k j : ℕ) (ls : List ℕ) → length (children (with_child_in t k j ls)) ≡ length (children t)
length_children-with_child_in leaf k j ls = refl
length_children-with_child_in (own r) k j ls = length_children-with_child_in r k j ls
length_children-with_child_in (child i ks r) zero j ls = refl
length_children-with_child_in (child i ks r) (suc k) j ls = ap suc (length_children-with_child_in r k j ls)
length_children-with_child_in (bind u r) k j ls =
    grind (arith, length-append, length_children-with_child_in u k j ls, length_children-with_child_in r (k - length (children u)) j ls)

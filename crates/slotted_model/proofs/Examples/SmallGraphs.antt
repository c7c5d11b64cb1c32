-- Small graphs, and what they stand for, computed.
use Rattle.std.proofs.Common.{◌≡◌, ℕ, zero, suc, ◌<◌, List, [], ◌∷◌, Some, None, ap, refl, arith}
use Rattle.slotted_theory.specs.Nameless.{DTerm, stop, place, sub, scope}
use Rattle.slotted_theory.proofs.Values.{node}
use Rattle.slotted_model.specs.Ascending.{ascending}
use Rattle.slotted_model.specs.Classes.{canonical_term, canonical_slots, term_of, canonical_node, Canonical}
use Rattle.slotted_theory.specs.Shape.{shape}
use Rattle.slotted_model.specs.Growth.{IsNew, Added}
use Rattle.slotted_model.proofs.Represented.Growing.{added, Canonical-nil}
use Rattle.slotted_model.specs.Ids.{id_of}

abbrev var_term : ℕ → DTerm
var_term x = node 1 [] (place x stop)

-- the class 0 is var x for the slot 5
-- the class 1 is lam of it, bound
-- the class 2 is a pair of class 0 at the slots 9 and 7
abbrev pair_node : DTerm
pair_node = node 3 [] (sub 0 ((0 ∷ 5 ∷ []) ∷ []) (place 9 stop) (sub 0 ((0 ∷ 5 ∷ []) ∷ []) (place 7 stop) stop))

abbrev lam_node : DTerm
lam_node = node 2 [] (scope (sub 0 ((0 ∷ 5 ∷ []) ∷ []) (place 0 stop) stop) stop)

abbrev graph : List DTerm
graph = var_term 5 ∷ lam_node ∷ pair_node ∷ []

once_each : ascending (9 ∷ 7 ∷ 9 ∷ []) ≡ 7 ∷ 9 ∷ []
once_each = refl

slots_of_pair : canonical_slots graph 2 ≡ 7 ∷ 9 ∷ []
slots_of_pair = refl

slots_of_lam : canonical_slots graph 1 ≡ []
slots_of_lam = refl

term_of_lam : canonical_term graph 1 ≡ node 2 [] (scope (sub 1 [] (place 0 stop) stop) stop)
term_of_lam = refl

term_of_pair : canonical_term graph 2 ≡ node 3 [] (sub 1 [] (place 9 stop) (sub 1 [] (place 7 stop) stop))
term_of_pair = refl

term_of_applied : term_of graph (2, (7, 20) ∷ (9, 30) ∷ []) ≡ node 3 [] (sub 1 [] (place 30 stop) (sub 1 [] (place 20 stop) stop))
term_of_applied = refl

id_of_pair : id_of graph (node 3 [] (sub 1 [] (place 30 stop) (sub 1 [] (place 20 stop) stop))) ≡ Some (2, (7, 20) ∷ (9, 30) ∷ [])
id_of_pair = refl

id_of_pair_of_one : id_of graph (node 3 [] (sub 1 [] (place 30 stop) (sub 1 [] (place 30 stop) stop))) ≡ None
id_of_pair_of_one = refl

id_of_lam : id_of graph (node 2 [] (scope (sub 1 [] (place 0 stop) stop) stop)) ≡ Some (1, [])
id_of_lam = refl

-- the graph is made class by class
with_var : Added [] (var_term 5 ∷ []) (var_term 5)
with_var = added [] (var_term 5) Canonical-nil (record { operator = omega arith; children = tt; shape_is_new = λ i l p. omega arith })

lam_is_new : IsNew (var_term 5 ∷ []) lam_node
lam_is_new = record {
  operator = omega arith;
  children = ((((0, (5, 0) ∷ []), refl, record { in_range = omega arith; slots = refl; injective = (λ h. h, tt) }), tt), tt);
  shape_is_new = other;
}
  where
    other : (i : ℕ) → i < 1 → ¬ (shape (canonical_node (var_term 5 ∷ []) i) ≡ shape lam_node)
    other zero l p = let e : ◌≡◌ {A = ℕ} 1 2 = ap (λ (t : DTerm). t.op) p in omega arith
    other (suc i) l p = omega arith

pair_is_new : IsNew (var_term 5 ∷ lam_node ∷ []) pair_node
pair_is_new = record {
  operator = omega arith;
  children = (
    ((0, (5, 9) ∷ []), refl, record { in_range = omega arith; slots = refl; injective = (λ h. h, tt) }),
    (((0, (5, 7) ∷ []), refl, record { in_range = omega arith; slots = refl; injective = (λ h. h, tt) }), tt),
  );
  shape_is_new = other;
}
  where
    other : (i : ℕ) → i < 2 → ¬ (shape (canonical_node (var_term 5 ∷ lam_node ∷ []) i) ≡ shape pair_node)
    other zero l p = let e : ◌≡◌ {A = ℕ} 1 3 = ap (λ (t : DTerm). t.op) p in omega arith
    other (suc zero) l p = let e : ◌≡◌ {A = ℕ} 2 3 = ap (λ (t : DTerm). t.op) p in omega arith
    other (suc (suc i)) l p = omega arith

with_lam : Added (var_term 5 ∷ []) (var_term 5 ∷ lam_node ∷ []) lam_node
with_lam = added (var_term 5 ∷ []) lam_node with_var.canonical lam_is_new

graph_is_canonical : Canonical graph
graph_is_canonical = let r : Added (var_term 5 ∷ lam_node ∷ []) graph pair_node = added (var_term 5 ∷ lam_node ∷ []) pair_node with_lam.canonical pair_is_new in r.canonical

-- Laws of look-ups of patterns held against the graph where (f $x $y) and (g $x) are equal: the class of f has dropped
-- a slot, so an id of it may lack a name. The pattern is (lam $7 ?a), where ?a is f of 8 and a name that is lacking.
use Rattle.std.proofs.Common.{◌≡◌, ◌⊎◌, ℕ, List, [], ◌∷◌, Some, sym, ap, refl, subst, inl, inr, arith}
use Rattle.std.specs.Prelude.{Contains}
use Rattle.slotted_lists.proofs.Contained.{contains_head, contains_cases}
use Rattle.slotted_theory.specs.Term.{Term, done, name, bind}
use Rattle.slotted_theory.specs.Nameless.{DTerm, stop, place, scope}
use Rattle.slotted_theory.specs.Renaming.{swapped}
use Rattle.slotted_theory.specs.Derives.{Equal}
use Rattle.slotted_theory.proofs.Bijections.{to-injective, swap}
use Rattle.slotted_theory.proofs.Values.{node, child_before}
use Rattle.slotted_model.specs.Applied.{Applied}
use Rattle.slotted_model.specs.Filling.{IsFilling}
use Rattle.slotted_model.specs.ProofList.{asserted}
use Rattle.slotted_model.specs.Rest.{IsValidIn}
use Rattle.slotted_model.proofs.Examples.CompletenessExamples.{one_of, nodes, graph, at_rest}
use Rattle.slotted_model.proofs.Represented.Fillings.{fills-itself}
use Rattle.slotted_model_rules.specs.Substitution.{named_node, named_before}
use Rattle.slotted_model_rules.specs.Patterns.{Pattern, pattern_node, variable, no_argument, child_pattern, binding}
use Rattle.slotted_model_rules.specs.Patterns.{look_up_pattern, pattern_of, Matches}
use Rattle.slotted_model_rules.specs.Instances.{is_itself, IsInstance}
use Rattle.slotted_model_rules.specs.Complete.{IsFreeInPattern}
use Rattle.slotted_model_rules.proofs.Laws.{pattern-laws, matcher-laws}

abbrev pub lam_a : Pattern
lam_a = pattern_node 5 [] (binding 7 (child_pattern (variable (97 ∷ [])) no_argument) no_argument)

abbrev pub f_8 : List ℕ → Applied
f_8 v = (0, (0, 8) ∷ [])

pub f_8_valid : IsValidIn graph (0, (0, 8) ∷ [])
f_8_valid = record {
  in_range = omega arith;
  ascending = (tt, tt);
  injective = (λ h. h, tt);
  has_slots = λ s c. c;
  within = λ s c. subst (Contains (0 ∷ 1 ∷ [])) (sym (one_of c)) (contains_head 0 (1 ∷ []));
}

-- with the names 7 and 8 exchanged outside the binder 7 captures nothing: the pattern is looked up as the id with the
-- name 7
exchanged_outside : look_up_pattern graph (swapped 7 8) f_8 lam_a ≡ Some (2, (3, 7) ∷ [])
exchanged_outside =
    pattern-laws.pattern_look_ups_move_with_names graph at_rest (λ y. y) (swapped 7 8) (to-injective (swap 7 8)) f_8
    lam_a

-- the term (lam $7 (f $8 $7)) as a pattern is looked up as the term
abbrev pub lam_f : Term
lam_f = named_node 5 [] (bind 7 (named_before (named_node 3 [] (name 8 (name 7 done))) done) done)

looked_up_as_term : look_up_pattern graph (λ y. y) f_8 (pattern_of lam_f) ≡ Some (2, (3, 8) ∷ [])
looked_up_as_term = pattern-laws.terms_are_looked_up_as_patterns graph (λ y. y) f_8 lam_f

-- the pattern matches that id by rows: the binder's name is matched, and a row of the class of g stands for f
matches_by_rows : Matches graph (λ y. y) f_8 lam_a (2, (3, 8) ∷ [])
matches_by_rows =
    (pattern-laws.matches_are_look_ups graph at_rest (λ y. y) (λ x y e. e) f_8 lam_a ((f_8_valid, tt), tt)
    (2, (3, 8) ∷ [])).0 refl

-- the name 8 of the id is free in the pattern, since it stands in the value under another binder
name_is_free : IsFreeInPattern f_8 8 lam_a
name_is_free =
    matcher-laws.looked_up_names_are_free graph at_rest f_8 lam_a ((f_8_valid, tt), tt) (2, (3, 8) ∷ []) refl 8
    (contains_head 8 [])

-- the lacking name is filled by the name 11, which under the binder is 12: the instance is equal to the term of what
-- was looked up
filled_by_12 : IsFilling nodes (0 ∷ []) (0, (0, 9) ∷ []) (0, (0, 9) ∷ (1, 12) ∷ [])
filled_by_12 = record {
  class = refl;
  full = record { in_range = omega arith; slots = refl; injective = (differ, (λ h. h, tt)) };
  keeps = λ s x c. subst (Contains ((0, 9) ∷ (1, 12) ∷ [])) (sym (one_of c)) (contains_head (0, 9) ((1, 12) ∷ []));
  fresh = λ s x c n k. elim (contains_cases (0, 9) ((1, 12) ∷ []) (s, x) c) [
    | inl e ↦ n (subst (Contains (0 ∷ [])) (sym (ap (λ (p : ℕ × ℕ). p.0) e)) (contains_head 0 []))
    | inr d ↦
        let is : x ≡ 12 = ap (λ (p : ℕ × ℕ). p.1) (one_of d) in
        let not : x ≡ 0 = one_of k in omega arith
  ];
}
  where
    differ : ◌≡◌ {A = ℕ} 9 12 ⊎ ⊥ → ⊥
    differ (inl e) = omega arith
    differ (inr k) = k

abbrev pub filled_lam : DTerm
filled_lam = node 5 [] (scope (child_before (node 3 [] (place 9 (place 12 stop))) stop) stop)

pub filled_instance : IsInstance is_itself nodes [] f_8 (λ y. y) lam_a filled_lam
filled_instance = (_, refl, (_, _, refl, (_, _, refl, ((0, (0, 9) ∷ (1, 12) ∷ []), filled_by_12, refl), refl), refl))

instance_is_equal : Equal (asserted nodes graph.proofs)
    (node 5 [] (scope (child_before (node 3 [] (place 9 (place 0 stop))) stop) stop)) filled_lam
instance_is_equal =
    pattern-laws.instances_are_equal graph at_rest is_itself f_8 [] [] (λ y. y) (λ x y e. e) lam_a ((f_8_valid, tt), tt)
    (2, (3, 8) ∷ []) (2, (3, 8) ∷ []) refl
    (fills-itself nodes [] (2, (3, 8) ∷ []) (record { in_range = omega arith; slots = refl; injective = (λ h. h, tt) }))
    filled_lam filled_instance

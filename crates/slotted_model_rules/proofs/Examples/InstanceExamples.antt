-- Laws of instances held against (lam $7 ?a) and (k ?a), where ?a is h of 8 and a name that is lacking, in the graphs
-- of (h $0 $1) and of (k (h $0 $1)); and against n over n over the word a, in which b is put for a.
use Rattle.std.proofs.Common.{◌≡◌, ◌≢◌, ◌⊎◌, ◌↔◌, ℕ, suc, List, [], ◌∷◌, sym, ap, refl, subst, inl, inr, arith}
use Rattle.std.specs.Prelude.{Contains}
use Rattle.slotted_lists.proofs.Contained.{contains_head, contains_cases}
use Rattle.slotted_theory.specs.Nameless.{DTerm, stop, scope, moved}
use Rattle.slotted_theory.specs.Renaming.{swapped}
use Rattle.slotted_theory.proofs.Bijections.{to-injective, swap}
use Rattle.slotted_theory.proofs.Values.{node, child_before}
use Rattle.slotted_model.specs.Applied.{Applied, as_term}
use Rattle.slotted_model.specs.Classes.{term_of, IsFull}
use Rattle.slotted_model.specs.Filling.{IsFilling}
use Rattle.slotted_model.specs.Find.{used_slots}
use Rattle.slotted_model.proofs.Examples.CompletenessExamples as dropped
use Rattle.slotted_model.proofs.Examples.CompletenessExamples.{one_of}
use Rattle.slotted_model.proofs.Examples.CongruenceExample.{twice, id, id_full}
use Rattle.slotted_model.proofs.Represented.Fillings.{fills-itself}
use Rattle.slotted_model.proofs.Represented.Ids.{term_eq-true, term_eq-same}
use Rattle.slotted_model.proofs.Examples.OpenSessionsExample.{h_of, open_state}
use Rattle.slotted_model_rules.specs.Instances.{is_itself, IsInstance, IsAnswer}
use Rattle.slotted_model_rules.specs.PatternClaims.{MovesWithNames}
use Rattle.slotted_model_rules.specs.Patterns.{Pattern, pattern_node, variable, replacing, no_argument, child_pattern}
use Rattle.slotted_model_rules.specs.Patterns.{pattern_of}
use Rattle.slotted_model_rules.proofs.Examples.CallExamples.{with_k, k_extends}
use Rattle.slotted_model_rules.proofs.Laws.{pattern-laws}
use Rattle.slotted_model_rules.proofs.Examples.LookUpExamples.{lam_a, f_8, f_8_valid, lam_f}

-- lam over h of both names, where 0 is the name of lam
abbrev lam_h : ℕ → ℕ → DTerm
lam_h x y = node 5 [] (scope (child_before (h_of x y) stop) stop)

-- the test whether a term is the other moves with names
itself-moves : MovesWithNames is_itself
itself-moves f inj u r e = term_eq-same (moved f r) (moved f u) (ap (moved f) (term_eq-true r u e))

-- h of x that lacks a name is filled by 12, where this is not given
filled_by_12 : (nodes : List DTerm) (given : List ℕ) (x : ℕ) → IsFull nodes (0, (0, x) ∷ (1, 12) ∷ []) →
    ¬ Contains given 12 → IsFilling nodes given (0, (0, x) ∷ []) (0, (0, x) ∷ (1, 12) ∷ [])
filled_by_12 nodes given x full none = record {
  class = refl;
  full = full;
  keeps = λ s y c. subst (Contains ((0, x) ∷ (1, 12) ∷ [])) (sym (one_of c)) (contains_head (0, x) ((1, 12) ∷ []));
  fresh = λ s y c n k. elim (contains_cases (0, x) ((1, 12) ∷ []) (s, y) c) [
    | inl e ↦ n (subst (Contains (0 ∷ [])) (sym (ap (λ (p : ℕ × ℕ). p.0) e)) (contains_head 0 []))
    | inr d ↦ none (subst (Contains given) (ap (λ (p : ℕ × ℕ). p.1) (one_of d)) k)
  ];
}

-- names that differ are not one another
differ : {x y : ℕ} → x ≢ y → ◌≡◌ x y ⊎ ⊥ → ⊥
differ n (inl e) = n e
differ n (inr k) = k

-- in the graph of h, where the name 8 is given, under lam the names 0 and 9 are, and the missing name is 12
in_first : IsInstance is_itself open_state.nodes (8 ∷ []) f_8 (λ y. y) lam_a (lam_h 9 12)
in_first = (
  _,
  refl,
  (
    _,
    _,
    refl,
    (
      _,
      _,
      refl,
      (
        (0, (0, 9) ∷ (1, 12) ∷ []),
        filled_by_12 open_state.nodes (0 ∷ 9 ∷ []) 9
            (record { in_range = omega arith; slots = refl; injective = (differ (λ e. omega arith), (λ k. k, tt)) })
            other,
        refl,
      ),
      refl,
    ),
    refl,
  ),
)
  where
    other : ¬ Contains {X = ℕ} (0 ∷ 9 ∷ []) 12
    other c = elim (contains_cases 0 (9 ∷ []) 12 c) [
      | inl e ↦ omega arith
      | inr k ↦ let e : ◌≡◌ {A = ℕ} 12 9 = one_of k in omega arith
    ]

-- it is one still in the graph that has the class of k too
in_second : IsInstance is_itself with_k.nodes (8 ∷ []) f_8 (λ y. y) lam_a (lam_h 9 12)
in_second =
    pattern-laws.instances_stay is_itself open_state.nodes with_k.nodes k_extends.1.terms (8 ∷ []) f_8 (λ y. y) lam_a
    (lam_h 9 12) in_first

-- with the names 8 and 9 exchanged outside, where now 9 is given, 8 becomes 9, which is 10 under lam
in_other_names : IsInstance is_itself with_k.nodes (9 ∷ []) f_8 (swapped 8 9) lam_a (lam_h 10 12)
in_other_names =
    pattern-laws.instances_move_with_names is_itself itself-moves with_k.nodes k_extends.0.sane.sound.canonical
    (8 ∷ []) (9 ∷ []) f_8 (λ y. y) (swapped 8 9) (to-injective (swap 8 9)) given lam_a (lam_h 9 12) in_second
  where
    given : (z : ℕ) → Contains (9 ∷ []) (swapped 8 9 z) → Contains (8 ∷ []) z
    given z c =
        subst (Contains (8 ∷ [])) (sym (to-injective (swap 8 9) z 8 (one_of c))) (contains_head 8 [])

-- in the graph where f has dropped a slot there is an instance too, in which the name 11 is not the missing one
there_is_one : (t : DTerm) × IsInstance is_itself dropped.nodes (11 ∷ []) f_8 (λ y. y) lam_a t
there_is_one =
    pattern-laws.instances_exist is_itself (λ u. (u, term_eq-same u u refl)) dropped.nodes
    (used_slots dropped.graph.found) (11 ∷ []) f_8 (λ y. y) (λ x y e. e) lam_a ((f_8_valid, tt), tt)

-- where ?a is h of 8 and 9 each instance is lam of this, whatever names are given
abbrev h_8_9 : List ℕ → Applied
h_8_9 v = (0, (0, 8) ∷ (1, 9) ∷ [])

-- h of a name and the one after it is full
h_8_9_full : (x : ℕ) → IsFull with_k.nodes (0, (0, x) ∷ (1, suc x) ∷ [])
h_8_9_full x = record { in_range = omega arith; slots = refl; injective = (differ (λ e. omega arith), (λ k. k, tt)) }

-- so it is this one
just_one : (u : DTerm) → IsInstance is_itself with_k.nodes (5 ∷ []) h_8_9 (λ y. y) lam_a u → lam_h 9 10 ≡ u
just_one u i =
    pattern-laws.full_values_have_one_instance with_k.nodes [] (5 ∷ []) h_8_9 (λ y. y) (λ x y e. e) lam_a
    ((h_8_9_full 8, tt), tt) (lam_h 9 10) u (
      _,
      refl,
      (
        _,
        _,
        refl,
        (
          _,
          _,
          refl,
          (
            (0, (0, 9) ∷ (1, 10) ∷ []),
            fills-itself with_k.nodes (0 ∷ []) (0, (0, 9) ∷ (1, 10) ∷ []) (h_8_9_full 9),
            refl,
          ),
          refl,
        ),
        refl,
      ),
    )
    i

-- the term (lam $7 (f $8 $7)) is the one instance of itself, without bound names
lam_alone : (u : DTerm) → IsInstance is_itself with_k.nodes [] f_8 (λ y. y) (pattern_of lam_f) u ↔ (u ≡ lam_h 9 0)
lam_alone u = pattern-laws.terms_are_their_instances is_itself with_k.nodes [] f_8 (λ y. y) lam_f u

-- so the term is an instance of itself
lam_itself : IsInstance is_itself with_k.nodes [] f_8 (λ y. y) (pattern_of lam_f) (lam_h 9 0)
lam_itself = (lam_alone (lam_h 9 0)).1 refl

-- (k ?a) is built over the value of ?a, with 12 for the missing name: the id of k of 8 and 12 is an answer
abbrev k_a : Pattern
k_a = pattern_node 4 [] (child_pattern (variable (97 ∷ [])) no_argument)

abbrev h_8_12 : Applied
h_8_12 = (0, (0, 8) ∷ (1, 12) ∷ [])

abbrev k_8_12 : Applied
k_8_12 = (1, (0, 8) ∷ (1, 12) ∷ [])

-- k of 8 and 12 is full
k_full : IsFull with_k.nodes k_8_12
k_full = record { in_range = omega arith; slots = refl; injective = (differ (λ e. omega arith), (λ k. k, tt)) }

-- 12 fills the missing name where 8 is given
h_filled : IsFilling with_k.nodes (8 ∷ []) (0, (0, 8) ∷ []) h_8_12
h_filled =
    filled_by_12 with_k.nodes (8 ∷ []) 8
    (record { in_range = omega arith; slots = refl; injective = (differ (λ e. omega arith), (λ k. k, tt)) })
    (λ c. let e : ◌≡◌ {A = ℕ} 12 8 = one_of c in omega arith)

-- it answers for (k ?a)
k_is_answer : IsAnswer is_itself with_k.nodes (8 ∷ []) f_8 k_a k_8_12
k_is_answer =
    pattern-laws.built_nodes_are_instances is_itself itself-moves with_k.nodes k_extends.0.sane.sound.canonical (8 ∷ [])
    f_8 4 [] (child_pattern (variable (97 ∷ [])) no_argument) (child_before (as_term (0, (0, 8) ∷ [])) stop)
    (child_before (as_term h_8_12) stop) ((0, (0, 8) ∷ []), stop, refl, inl (97 ∷ [], refl, refl), refl)
    (h_8_12, stop, refl, h_filled, refl) k_8_12 k_full refl

-- so its term is an instance, as that of the filled value is one of ?a
k_is_instance : IsInstance is_itself with_k.nodes (8 ∷ []) f_8 (λ y. y) k_a (node 4 [] (child_before (h_of 8 12) stop))
k_is_instance =
    pattern-laws.answers_stand_for_instances is_itself with_k.nodes (8 ∷ []) f_8 k_a k_8_12 k_is_answer k_8_12
    (fills-itself with_k.nodes (8 ∷ []) k_8_12 k_full)

-- the value of ?a, filled, is an instance of ?a
value_is_instance : IsInstance is_itself with_k.nodes (8 ∷ []) f_8 (λ y. y) (variable (97 ∷ [])) (h_of 8 12)
value_is_instance =
    pattern-laws.answers_stand_for_instances is_itself with_k.nodes (8 ∷ []) f_8 (variable (97 ∷ []))
    (0, (0, 8) ∷ []) (inl (97 ∷ [], refl, refl)) h_8_12 h_filled

-- ?b is n over n over the word a: with the word b for a the id of n over n over b is an answer
abbrev word : ℕ → Pattern
word op = pattern_node op [] no_argument

-- the id of n over n over b answers for it
n_n_b_is_answer : IsAnswer is_itself twice.nodes [] (λ v. id 4) (replacing (variable (98 ∷ [])) (word 1) (word 2))
    (id 5)
n_n_b_is_answer =
    pattern-laws.replaced_are_instances is_itself twice.nodes [] (λ v. id 4) (variable (98 ∷ [])) (word 1) (word 2)
    (id 4) (id 0) (id 1) (id 4) (id 0) (id 1) (term_of twice.nodes (id 4)) (inl (98 ∷ [], refl, refl))
    (inr (id_full 0 (omega arith), (_, refl, refl))) (inr (id_full 1 (omega arith), (_, refl, refl)))
    (fills-itself twice.nodes [] (id 4) (id_full 4 (omega arith)))
    (fills-itself twice.nodes [] (id 0) (id_full 0 (omega arith)))
    (fills-itself twice.nodes [] (id 1) (id_full 1 (omega arith))) refl (id 5) (id_full 5 (omega arith)) refl

-- The laws of ids that lack names applied to a graph where a slot was dropped: f x y is asserted to equal g x, so f 7 alone is valid.
use Rattle.std.proofs.Common.{◌≡◌, ℕ, List, [], ◌∷◌, Some, false, refl, sym, ap, subst, arith, inl, inr, ◌⊎◌}
use Rattle.std.specs.Prelude.{◌↔◌, Contains}
use Rattle.std.proofs.lemmas.Bool.{false≢true}
use Rattle.slotted_lists.proofs.Contained.{contains_head, contains_tail, contains_cases, Contains-nil}
use Rattle.slotted_theory.specs.FiniteMaps.{filled}
use Rattle.slotted_theory.specs.Nameless.{DTerm, stop, place, scope}
use Rattle.slotted_theory.specs.Derives.{Equal, listed, moving}
use Rattle.slotted_theory.proofs.Filled.{filled-injective}
use Rattle.slotted_theory.proofs.Values.{node, child_before}
use Rattle.slotted_model.specs.Applied.{Applied, values, as_term, EachChild}
use Rattle.slotted_model.specs.Classes.{term_of, layer_of, IsFull}
use Rattle.slotted_model.specs.Closed.{AreAlikeUpTo, IsClosed}
use Rattle.slotted_model.specs.Filling.{IsFilling, FillsNode}
use Rattle.slotted_model.specs.Find.{used_slots, find}
use Rattle.slotted_model.specs.Normal.{normal}
use Rattle.slotted_model.specs.ProofList.{equation_of, asserted}
use Rattle.slotted_model.specs.State.{look_up_node}
use Rattle.slotted_model.specs.Rest.{IsValidIn, IsAffected, CoversAffected}
use Rattle.slotted_model.specs.Affected.{AreAlikeOrAffected}
use Rattle.slotted_model.specs.SoundnessClaims.{SoundnessLaws}
use Rattle.slotted_model.specs.CompletenessClaims.{CompletenessLaws}
use Rattle.slotted_model.proofs.Represented.Fillings.{fills-itself}
use Rattle.slotted_model.proofs.Complete.Spreading.{is_affected-iff}
use Rattle.slotted_model.proofs.Examples.CompletenessExamples.{one_of, nodes, proofs, graph, after, after_sound, at_rest, lam_id}

-- f 7, which lacks a name for the dropped slot, and f 7 8 and f 7 9, which have one
abbrev f_7 : Applied
f_7 = (0, (0, 7) ∷ [])

abbrev f_7_and : ℕ → Applied
f_7_and x = (0, (0, 7) ∷ (1, x) ∷ [])

abbrev g_7 : Applied
g_7 = (1, (2, 7) ∷ [])

first_slot : (s : ℕ) → Contains (0 ∷ []) s → Contains (0 ∷ 1 ∷ []) s
first_slot s c = subst (Contains (0 ∷ 1 ∷ [])) (sym (one_of c)) (contains_head 0 (1 ∷ []))

f_7-valid : IsValidIn graph f_7
f_7-valid = record { in_range = omega arith; ascending = (tt, tt); injective = (λ k. k, tt); has_slots = λ s c. c; within = first_slot }

f_7-not_full : ¬ IsFull nodes f_7
f_7-not_full full = elim (contains_cases 0 [] 1 (subst (λ xs. Contains xs 1) (sym full.slots) (contains_tail 0 (1 ∷ []) 1 (contains_head 1 [])))) [
  | inl e ↦ let n : ◌≡◌ {A = ℕ} 1 0 = e in omega arith
  | inr k ↦ Contains-nil 1 k
]

f_7_8-full : IsFull nodes (f_7_and 8)
f_7_8-full = record { in_range = omega arith; slots = refl; injective = (different, (λ k. k, tt)) }
  where
    different : ◌≡◌ {A = ℕ} 7 8 ⊎ ⊥ → ⊥
    different (inl e) = omega arith
    different (inr k) = k

f_7_9-valid : IsValidIn graph (f_7_and 9)
f_7_9-valid = record { in_range = omega arith; ascending = ((omega arith, tt), (tt, tt)); injective = (different, (λ k. k, tt)); has_slots = first_slot; within = λ s c. c }
  where
    different : ◌≡◌ {A = ℕ} 7 9 ⊎ ⊥ → ⊥
    different (inl e) = omega arith
    different (inr k) = k

g_7-full : IsFull nodes g_7
g_7-full = record { in_range = omega arith; slots = refl; injective = (λ k. k, tt) }

g_7-valid : IsValidIn graph g_7
g_7-valid = record { in_range = omega arith; ascending = (tt, tt); injective = (λ k. k, tt); has_slots = λ s c. c; within = λ s c. c }

kept_name : (s x y : ℕ) → Contains f_7.1 (s, x) → Contains (f_7_and y).1 (s, x)
kept_name s x y c = subst (Contains ((0, 7) ∷ (1, y) ∷ [])) (sym (one_of c)) (contains_head (0, 7) ((1, y) ∷ []))

-- f 7 8 fills f 7, by a name other than 7
f_7_8-fills : IsFilling nodes (7 ∷ []) f_7 (f_7_and 8)
f_7_8-fills = record { class = refl; full = f_7_8-full; keeps = λ s x. kept_name s x 8; fresh = other }
  where
    other : (s x : ℕ) → Contains {X = ℕ × ℕ} ((0, 7) ∷ (1, 8) ∷ []) (s, x) → ¬ Contains (0 ∷ []) s → ¬ Contains (7 ∷ []) x
    other s x c n k = elim (contains_cases (0, 7) ((1, 8) ∷ []) (s, x) c) [
      | inl e ↦ n (subst (Contains (0 ∷ [])) (sym (ap (λ (p : ℕ × ℕ). p.0) e)) (contains_head 0 []))
      | inr d ↦
          let is : x ≡ 8 = ap (λ (p : ℕ × ℕ). p.1) (one_of d) in
          let seven : x ≡ 7 = one_of k in
          omega arith
    ]

g_7-fills : IsFilling nodes [] g_7 g_7
g_7-fills = record { class = refl; full = g_7-full; keeps = λ s x c. c; fresh = λ s x c n k. Contains-nil x k }

f_7_8-is_g_7 : Equal (asserted nodes proofs) (term_of nodes (f_7_and 8)) (term_of nodes g_7)
f_7_8-is_g_7 = moving (filled (f_7_and 8).1) (filled-injective (f_7_and 8).1 f_7_8-full.injective) (listed (contains_head (node 3 [] (place 0 (place 1 stop)), node 4 [] (place 0 stop)) []))

module _ (laws : SoundnessLaws) where
  fillings_find_alike : find after f_7 ≡ find after (f_7_and 8)
  fillings_find_alike = laws.fillings_find_alike nodes after after_sound.linked (7 ∷ []) f_7 (f_7_and 8) f_7-valid f_7_8-fills

  used_names_find_alike : find after f_7 ≡ find after (f_7_and 9)
  used_names_find_alike = laws.finds_need_used_slots nodes after after_sound.linked f_7 (f_7_and 9) f_7-valid f_7_9-valid refl (λ s x u c. kept_name s x 9 c)

-- no class of the graph is affected
no_marks : CoversAffected graph (λ c. false)
no_marks = record { symmetries = λ y c. absurd (Contains-nil y c); parents = λ r c k m t. t }

lam_unaffected : ¬ IsAffected graph 2
lam_unaffected a = false≢true ((is_affected-iff graph 2).1 a)

lam_full : IsFull nodes lam_id
lam_full = record { in_range = omega arith; slots = refl; injective = (λ k. k, tt) }

-- a binder over f of a name from outside, without a name for the dropped slot
abbrev lam_f_4 : DTerm
lam_f_4 = node 5 [] (scope (child_before (as_term (0, (0, 4) ∷ [])) stop) stop)

lam_f_4-children : EachChild (IsValidIn graph) lam_f_4.args
lam_f_4-children = ((((0, (0, 4) ∷ []), refl, child), tt), tt)
  where
    child : IsValidIn graph (0, (0, 4) ∷ [])
    child = record { in_range = omega arith; ascending = (tt, tt); injective = (λ k. k, tt); has_slots = λ s c. c; within = first_slot }

lam_f_4-looked_up : look_up_node graph lam_f_4 ≡ Some lam_id
lam_f_4-looked_up = refl

module _ (laws : CompletenessLaws) where
  closed : IsClosed nodes after (asserted nodes proofs) (look_up_node graph) (λ c. false)
  closed = laws.rest_is_closed graph at_rest (λ c. false) no_marks

  equal_fillings_are_alike : AreAlikeUpTo after (λ c. false) f_7 g_7
  equal_fillings_are_alike =
      laws.equal_fillings_are_found_alike nodes after_sound.canonical after after_sound.linked (asserted nodes proofs) (look_up_node graph) (λ c. false) closed
      f_7 g_7 (f_7_and 8) g_7 (7 ∷ []) [] f_7-valid g_7-valid f_7_8-fills g_7-fills f_7_8-is_g_7

  equal_is_found : AreAlikeOrAffected graph f_7 g_7
  equal_is_found = laws.equal_is_found_at_rest graph at_rest f_7 g_7 (f_7_and 8) g_7 (7 ∷ []) [] f_7-valid g_7-valid f_7_8-fills g_7-fills f_7_8-is_g_7

  looked_up_is_equal : IsValidIn graph lam_id × ((b : Applied) (given : List ℕ) → IsFilling nodes given lam_id b → Equal (asserted nodes proofs) (term_of nodes b) (layer_of nodes lam_f_4))
  looked_up_is_equal = laws.looked_up_node_is_equal_at_rest graph at_rest lam_f_4 lam_f_4-children lam_id lam_f_4-looked_up

  equal_is_looked_up : (look_up_node graph lam_f_4 ≡ Some (find after lam_id)) ↔ Equal (asserted nodes proofs) (term_of nodes lam_id) (layer_of nodes lam_f_4)
  equal_is_looked_up = laws.equal_node_is_looked_up_at_rest graph at_rest lam_id lam_full lam_unaffected lam_f_4 (omega arith) lam_f_4-children

  layer_is_lam : Equal (asserted nodes proofs) (term_of nodes lam_id) (layer_of nodes lam_f_4)
  layer_is_lam = equal_is_looked_up.0 refl

-- f 7 and g 7 have the equation of f 7 8 and g 7; and the node under the binder can be filled, and has the normal form that it had
module _ (laws : SoundnessLaws) where
  fillings_keep_equations : equation_of (f_7_and 8) g_7 ≡ equation_of f_7 g_7
  fillings_keep_equations =
      laws.fillings_keep_equations nodes (used_slots graph.found) f_7 g_7 (f_7_and 8) g_7 f_7-valid g_7-valid f_7_8-fills (fills-itself nodes (values (f_7_and 8).1) g_7 g_7-full)

  filled_lam : (e : DTerm) × FillsNode nodes (3 ∷ []) lam_f_4 e
  filled_lam = laws.filled_nodes_are_there nodes (used_slots graph.found) (3 ∷ []) lam_f_4 lam_f_4-children

  filled_lam-full : EachChild (IsFull nodes) filled_lam.0.args
  filled_lam-full = laws.filled_nodes_are_full nodes (3 ∷ []) lam_f_4 filled_lam.0 filled_lam.1

  filled_lam-normal : normal after filled_lam.0 ≡ normal after lam_f_4
  filled_lam-normal = laws.filled_nodes_have_one_normal_form nodes after after_sound.linked (3 ∷ []) lam_f_4 filled_lam.0 lam_f_4-children filled_lam.1

-- More laws applied to the graphs where n (n a) and n (n b) are found alike by congruence.
use Rattle.std.proofs.Common.{◌≡◌, ℕ, ◌<◌, List, [], Some, false, refl, arith}
use Rattle.std.specs.Prelude.{◌↔◌, Contains}
use Rattle.slotted_lists.proofs.Contained.{Contains-nil}
use Rattle.slotted_theory.specs.Nameless.{DTerm, stop, moved}
use Rattle.slotted_theory.specs.FiniteMaps.{filled}
use Rattle.slotted_theory.specs.Derives.{Equal}
use Rattle.slotted_theory.proofs.Values.{node}
use Rattle.slotted_model.specs.Applied.{Applied}
use Rattle.slotted_model.specs.Classes.{term_of, IsFull}
use Rattle.slotted_model.specs.Correspondence.{same_names}
use Rattle.slotted_model.specs.Closed.{AreAlikeUpTo, IsClosed}
use Rattle.slotted_model.specs.Filling.{IsFilling}
use Rattle.slotted_model.specs.Find.{find}
use Rattle.slotted_model.specs.Normal.{HasNormalTwin, HasOneNumber}
use Rattle.slotted_model.specs.ProofList.{IsTransitive, equation_of, turned_equation, find_equation, entry_equation, asserted}
use Rattle.slotted_model.specs.State.{Row, filed_node, look_up_node, look_up_tree}
use Rattle.slotted_model.specs.Rest.{IsValidIn, FoundTogether, IsAnswer, RestGives, CoversAffected}
use Rattle.slotted_model.specs.Affected.{AreAlikeOrAffected}
use Rattle.slotted_model.specs.SoundnessClaims.{SoundnessLaws}
use Rattle.slotted_model.specs.CompletenessClaims.{CompletenessLaws}
use Rattle.slotted_model.specs.RestClaims.{RestLaws}
use Rattle.slotted_model.proofs.Finds.NormalIds.{full-is_valid}
use Rattle.slotted_model.specs.Adding.{IsExactAssertion}
use Rattle.slotted_model.proofs.Examples.CongruenceExample.{id, n, twice, twice_rests, id_full, rebuilt, rebuilt_done, words_asserted, one_normal_form}

module _ (laws : SoundnessLaws) where
  twin : (b : Applied) × (b.0 ≡ 5) × HasNormalTwin rebuilt.nodes rebuilt.found (id 4) b
  twin = laws.equal_shapes_have_twins rebuilt.nodes rebuilt_done.rest.sane.sound.canonical rebuilt.found (id 4) (id_full 4 (omega arith)) 5 (omega arith) refl

  twin_numbers : (s t : ℕ) → Contains (same_names (id 4).1 twin.0.1) (s, t) ↔ HasOneNumber rebuilt.found rebuilt.nodes 4 twin.0.0 s t
  twin_numbers = laws.twins_pair_by_numbers rebuilt.nodes rebuilt.found (id 4) twin.0 (id_full 4 (omega arith)) twin.2

  twin_again : HasNormalTwin rebuilt.nodes rebuilt.found (id 4) twin.0
  twin_again = laws.twins_move_together rebuilt.nodes rebuilt.found (id 4) twin.0 (id 4) twin.0 (id_full 4 (omega arith)) twin.2 (id_full 4 (omega arith)) twin.2.full refl

  joined : IsTransitive (equation_of (id 4) (id 5)) (find_equation rebuilt.nodes rebuilt.found 4) (turned_equation rebuilt.nodes (find_equation rebuilt.nodes rebuilt.found 5))
  joined = laws.found_alike_are_joined rebuilt.nodes rebuilt.found rebuilt_done.rest.sane.sound.linked (id 4) (id 5) (id_full 4 (omega arith)) (id_full 5 (omega arith)) refl

  live_entry : find_equation rebuilt.nodes rebuilt.found 5 ≡ entry_equation rebuilt.nodes rebuilt.found 5
  live_entry = laws.live_finds_are_entries rebuilt.nodes rebuilt.found rebuilt_done.rest.sane.sound.linked 5 (omega arith) refl

module _ (laws : RestLaws) where
  gives : RestGives rebuilt
  gives = laws.rest_is_enough rebuilt rebuilt_done.rest

  congruent_together : FoundTogether rebuilt (id 4) (id 5)
  congruent_together = laws.rest_is_congruent rebuilt rebuilt_done.rest (id 4) (id 5) (id_full 4 (omega arith)) (id_full 5 (omega arith)) one_normal_form

  -- what the rows of the graph file is looked up
  filed : (r : Row) → Contains rebuilt.rows r → (b : Applied) → IsFull rebuilt.nodes b → b.0 ≡ r.source →
      look_up_node rebuilt (moved (filled b.1) (filed_node r)) ≡ Some (find rebuilt.found b)
  filed r c = (laws.filed_nodes_are_looked_up rebuilt rebuilt_done.rest r c).0

  -- the assertion of a = b entered its equation as an explicit one, and three classes fewer live
  exact : IsExactAssertion twice (id 0) (id 1) rebuilt
  exact = laws.asserting_is_exact twice twice_rests (id 0) (id 1) (id_full 0 (omega arith)) (id_full 1 (omega arith)) rebuilt words_asserted

  -- nodes over the two words are looked up alike, since these find alike
  alike_in_turn : look_up_node rebuilt (n 0) ≡ look_up_node rebuilt (n 1)
  alike_in_turn = laws.equal_in_turn_is_looked_up_alike rebuilt (n 0) (n 1) refl refl (id 1, stop, refl, refl, refl)

  answer : IsAnswer rebuilt (n 0) (id 3)
  answer = laws.answers_are_found rebuilt rebuilt_done.rest (n 0) (id 3) refl

no_marks : CoversAffected rebuilt (λ c. false)
no_marks = record { symmetries = λ y c. absurd (Contains-nil y c); parents = λ r c k m t. t }

fills : (i : ℕ) → i < 6 → IsFilling rebuilt.nodes [] (id i) (id i)
fills i l = record { class = refl; full = id_full i l; keeps = λ s x c. c; fresh = λ s x c k. absurd (Contains-nil (s, x) c) }

valid : (i : ℕ) → i < 6 → IsValidIn rebuilt (id i)
valid i l = full-is_valid rebuilt.nodes rebuilt.found rebuilt_done.rest.sane.sound.linked (id i) (id_full i l)

module _ (laws : CompletenessLaws) where
  abbrev pairs : List (DTerm × DTerm)
  pairs = asserted rebuilt.nodes rebuilt.proofs

  closed : IsClosed rebuilt.nodes rebuilt.found pairs (look_up_node rebuilt) (λ c. false)
  closed = laws.rest_is_closed rebuilt rebuilt_done.rest (λ c. false) no_marks

  alike_is_equal : (find rebuilt.found (id 4) ≡ find rebuilt.found (id 5)) ↔ Equal pairs (term_of rebuilt.nodes (id 4)) (term_of rebuilt.nodes (id 5))
  alike_is_equal =
      laws.finding_alike_is_equality rebuilt.nodes rebuilt.found rebuilt.proofs (look_up_node rebuilt) rebuilt_done.rest.sane.sound closed
      (id 4) (id 5) (id 4) (id 5) [] [] (valid 4 (omega arith)) (valid 5 (omega arith)) (fills 4 (omega arith)) (fills 5 (omega arith))

  equal_terms_alike : AreAlikeUpTo rebuilt.found (λ c. false) (id 4) (id 5)
  equal_terms_alike =
      laws.equal_terms_are_found_alike rebuilt.nodes rebuilt_done.rest.sane.sound.canonical rebuilt.found pairs (look_up_node rebuilt) (λ c. false) closed
      (id 4) (id 5) (id_full 4 (omega arith)) (id_full 5 (omega arith)) (alike_is_equal.0 refl)

  congruent_alike : AreAlikeUpTo rebuilt.found (λ c. false) (id 4) (id 5)
  congruent_alike = laws.finding_alike_is_a_congruence rebuilt.nodes rebuilt.found pairs (look_up_node rebuilt) (λ c. false) closed (id 4) (id 5) (id_full 4 (omega arith)) (id_full 5 (omega arith)) one_normal_form

  congruent_at_rest : AreAlikeOrAffected rebuilt (id 4) (id 5)
  congruent_at_rest = laws.congruent_is_found_at_rest rebuilt rebuilt_done.rest (id 4) (id 5) (id_full 4 (omega arith)) (id_full 5 (omega arith)) one_normal_form

  words_looked_up_alike : look_up_tree rebuilt (node 1 [] stop) ≡ look_up_tree rebuilt (node 2 [] stop)
  words_looked_up_alike =
      laws.equal_is_looked_up_alike_at_rest rebuilt rebuilt_done.rest (λ y c. absurd (Contains-nil y c)) (node 1 [] stop) (node 2 [] stop)
      (record { operator = omega arith; children = tt }) (record { operator = omega arith; children = tt })
      ((laws.finding_alike_is_equality rebuilt.nodes rebuilt.found rebuilt.proofs (look_up_node rebuilt) rebuilt_done.rest.sane.sound closed
      (id 0) (id 1) (id 0) (id 1) [] [] (valid 0 (omega arith)) (valid 1 (omega arith)) (fills 0 (omega arith)) (fills 1 (omega arith))).0 refl)

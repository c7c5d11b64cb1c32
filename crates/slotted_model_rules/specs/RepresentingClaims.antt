-- The laws of what represents a body, all owed by `representing_laws_hold` in src/pattern.rt.
use Rattle.std.specs.Prelude.{◌≡◌, ◌⊎◌, ◌↔◌, ℕ, List, [], Contains, Bool, IsTrue}
use Rattle.slotted_theory.specs.Nameless.{DTerm, moved}
use Rattle.slotted_theory.specs.Renaming.{Bijection}
use Rattle.slotted_model.specs.Applied.{Applied}
use Rattle.slotted_model_rules.specs.Patterns.{Pattern}
use Rattle.slotted_model_rules.specs.Instances.{IsInstance, is_itself, IsAnswer}
use Rattle.slotted_model_rules.specs.PatternClaims.{MovesWithNames}
use Rattle.slotted_model_rules.specs.Representing.{is_listed, represents}

-- the test moves with names, with each term for itself and without
abbrev pub RepresentingMovesWithNames : Type 0
RepresentingMovesWithNames = (X : List (DTerm × DTerm)) → MovesWithNames (is_listed X) × MovesWithNames (represents X)

-- without a pair each term is represented by itself alone
abbrev pub NoPairsRepresentTerms : Type 0
NoPairsRepresentTerms = represents [] ≡ is_itself

-- each pair of the list is represented, and each term by itself
abbrev pub PairsAreRepresented : Type 0
PairsAreRepresented = (X : List (DTerm × DTerm)) →
    ((u r : DTerm) → Contains X (u, r) → IsTrue (is_listed X u r) × IsTrue (represents X u r)) ×
    ((u : DTerm) → IsTrue (represents X u u))

-- what is listed is a pair of the list with the names of both exchanged by one bijection, and nothing else is
abbrev pub ListedAreRenamedPairs : Type 0
ListedAreRenamedPairs = (X : List (DTerm × DTerm)) (u r : DTerm) → IsTrue (is_listed X u r) ↔
    ((p : DTerm × DTerm) × Contains X p × (π : Bijection) × (moved π.to p.0 ≡ u) × (moved π.to p.1 ≡ r))

-- and what is represented is that or the same term
abbrev pub RepresentedAreListed : Type 0
RepresentedAreListed = (X : List (DTerm × DTerm)) (u r : DTerm) → IsTrue (represents X u r) ↔ (IsTrue (is_listed X u r) ⊎ (r ≡ u))

-- more pairs represent more
abbrev pub MorePairsRepresentMore : Type 0
MorePairsRepresentMore = (X Y : List (DTerm × DTerm)) → ((p : DTerm × DTerm) → Contains X p → Contains Y p) → (u r : DTerm) →
    (IsTrue (is_listed X u r) → IsTrue (is_listed Y u r)) × (IsTrue (represents X u r) → IsTrue (represents Y u r))

-- where more is represented instances and answers are some still
abbrev pub InstancesStayRepresented : Type 0
InstancesStayRepresented =
    (R Q : DTerm → DTerm → Bool) → ((u r : DTerm) → IsTrue (R u r) → IsTrue (Q u r)) →
    (nodes : List DTerm) (given : List ℕ) (σ : List ℕ → Applied) →
    ((ρ : ℕ → ℕ) (p : Pattern) (t : DTerm) → IsInstance R nodes given σ ρ p t → IsInstance Q nodes given σ ρ p t) ×
    ((p : Pattern) (a : Applied) → IsAnswer R nodes given σ p a → IsAnswer Q nodes given σ p a)

-- all these laws
pub record RepresentingLaws : Type 0 where
  pub representing_moves_with_names : RepresentingMovesWithNames
  pub no_pairs_represent_terms : NoPairsRepresentTerms
  pub pairs_are_represented : PairsAreRepresented
  pub listed_are_renamed_pairs : ListedAreRenamedPairs
  pub represented_are_listed : RepresentedAreListed
  pub more_pairs_represent_more : MorePairsRepresentMore
  pub instances_stay_represented : InstancesStayRepresented

-- The laws of steps that fit: what they enter is proved. All are owed by `step_laws_hold` in src/laws.rt.
use Rattle.std.specs.Prelude.{All, ◌≡◌, ◌↔◌, ◌<◌, ℕ, true, List, [], ◌∷◌, length, Contains}
use Rattle.slotted_theory.specs.Nameless.{DTerm}
use Rattle.slotted_model.specs.Applied.{Applied, keys}
use Rattle.slotted_model.specs.Classes.{canonical_node, IsFull, Canonical}
use Rattle.slotted_model.specs.Correspondence.{IsFullMap}
use Rattle.slotted_model.specs.ProofList.{ProofEntry, congruent, explicit, reflexive, symmetric, transitive}
use Rattle.slotted_model.specs.Leaves.{IsLeaf}
use Rattle.slotted_proofs.specs.declared.equation.Equation.{Equation as Sides}
use Rattle.slotted_proofs.specs.Equations.{to_applied, equality, statement_of}
use Rattle.slotted_proofs.specs.Entries.{Proven, entries_of, proven_at, explicit_numbers}
use Rattle.slotted_proofs.specs.Proving.{IsProvable, IsProved}
use Rattle.slotted_proofs.specs.Lines.{Lines, PartsAreEarlier, has_line}
use Rattle.slotted_proofs.specs.AlikeNodes.{AreAlikeNodes}
use Rattle.slotted_proofs.specs.Steps.{AreEntries, HasInjectiveSides, Matches, IsReflexiveStep, IsSymmetricStep, IsTransitiveStep, by_step}

-- two equations match exactly if they are of the same classes, over the same slots, and the same slots carry one name
abbrev pub MatchIsOneStatement : Type 0
MatchIsOneStatement =
    (a b c d : Applied) → IsFullMap (keys a.1) a.1 → IsFullMap (keys b.1) b.1 → IsFullMap (keys c.1) c.1 → IsFullMap (keys d.1) d.1 →
    Matches a b c d ↔ (equality a b ≡ equality c d)

-- both sides of the equation are full ids of the graph
pub record IsOfFull (nodes : List DTerm) (e : Sides) : Type 0 where
  pub left : IsFull nodes (to_applied e.l)
  pub right : IsFull nodes (to_applied e.r)

-- a reflexive step that fits proves its equation
abbrev pub ReflexiveStepProves : Type 0
ReflexiveStepProves =
    (nodes : List DTerm) (list : List Proven) (e : Sides) → IsOfFull nodes e → IsReflexiveStep e →
    IsProvable nodes list (by_step (statement_of e) reflexive)

-- and so does a symmetric one
abbrev pub SymmetricStepProves : Type 0
SymmetricStepProves =
    (nodes : List DTerm) (list : List Proven) (e : Sides) (p : ℕ) → IsOfFull nodes e → IsSymmetricStep list e p →
    IsProvable nodes list (by_step (statement_of e) (symmetric p))

-- and a transitive one
abbrev pub TransitiveStepProves : Type 0
TransitiveStepProves =
    (nodes : List DTerm) (list : List Proven) (e : Sides) (p q : ℕ) → IsOfFull nodes e → IsTransitiveStep list e p q →
    IsProvable nodes list (by_step (statement_of e) (transitive p q))

-- and a congruent one over the canonical nodes of the two classes
abbrev pub CongruentStepProves : Type 0
CongruentStepProves =
    (nodes : List DTerm) (list : List Proven) (e : Sides) (children : List Sides) (parts : List ℕ) → Canonical nodes → IsOfFull nodes e →
    All HasInjectiveSides children → AreAlikeNodes (canonical_node nodes e.l.id.0) (canonical_node nodes e.r.id.0) e children →
    AreEntries list parts children →
    IsProvable nodes list (by_step (statement_of e) (congruent parts))

-- the parts of each entry of a proved list stand at earlier numbers
abbrev pub PartsStandEarlier : Type 0
PartsStandEarlier = (nodes : List DTerm) (list : List Proven) → IsProved nodes list → PartsAreEarlier list

-- the explicit entries that have a line in the proof of an entry are the explicit leaves of its tree
abbrev pub ExplicitLinesAreLeaves : Type 0
ExplicitLinesAreLeaves =
    (list : List Proven) → PartsAreEarlier list → (p : ℕ) (lines : List ℕ) → p < length list → Lines list [] (p ∷ []) lines →
    (q : ℕ) → IsLeaf (entries_of list) p q ↔ ((has_line lines q ≡ true) × ((proven_at list q).step ≡ explicit))

-- and all leaves are among the numbers of the asserted entries
abbrev pub LeavesAreNumbered : Type 0
LeavesAreNumbered = (entries : List ProofEntry) (p q : ℕ) → IsLeaf entries p q → Contains (explicit_numbers entries) q

-- all these laws
pub record StepLaws : Type 0 where
  pub match_is_one_statement : MatchIsOneStatement
  pub reflexive_step_proves : ReflexiveStepProves
  pub symmetric_step_proves : SymmetricStepProves
  pub transitive_step_proves : TransitiveStepProves
  pub congruent_step_proves : CongruentStepProves
  pub parts_stand_earlier : PartsStandEarlier
  pub explicit_lines_are_leaves : ExplicitLinesAreLeaves
  pub leaves_are_numbered : LeavesAreNumbered

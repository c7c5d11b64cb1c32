-- Proofs of equations, one for each, as the parts of a congruent step, and the congruence that the step proves.
use Rattle.std.proofs.Common.{◌≡◌, ◌<◌, ◌+◌, ℕ, List, [], ◌∷◌, ◌++◌, length, sym, ◌∙◌, ap, refl, subst, inl, inr, arith, length-append}
use Rattle.std.specs.Prelude.{slice_index_or}
use Rattle.std.proofs.Math.Seq.{get_or-append_seam}
use Rattle.std.proofs.lemmas.Bool.{cases_eq}
use Rattle.std.proofs.lemmas.List.{get_or_append_left}
use Rattle.slotted_theory.specs.Nameless.{DTerm}
use Rattle.slotted_model.specs.Applied.{Applied}
use Rattle.slotted_model.specs.Classes.{canonical_node, canonical_slots, IsFull}
use Rattle.slotted_model.specs.Normal.{HasNormalTwin}
use Rattle.slotted_model.specs.ProofList.{Equation, congruent, equation_of}
use Rattle.slotted_model.specs.Rebuild.{IsCongruence}
use Rattle.slotted_proofs.specs.declared.equation.Equation.{Equation as Sides}
use Rattle.slotted_proofs.specs.AlikeNodes.{AreAlikeNodes}
use Rattle.slotted_proofs.specs.Entries.{Proven, statement_at}
use Rattle.slotted_proofs.specs.Equations.{Statement, to_applied, equality, statement_of}
use Rattle.slotted_proofs.specs.Proving.{IsCanonical}
use Rattle.slotted_proofs.specs.StepClaims.{IsOfFull}
use Rattle.slotted_proofs.specs.Steps.{AreEntries, IsEntry, by_step}
use Rattle.slotted_proofs.proofs.Fitting.{congruent_fits, own}
use Rattle.slotted_proofs.proofs.Stepping.{states-entry}
use Rattle.slotted_classes.specs.Kept.{Kept, nodes_of, entries_of, with_proofs, EntersBy}
use Rattle.slotted_rebuilding.specs.Proving.{OnlyProves, Proves, ProvesEqual}
use Rattle.slotted_classes.specs.StateOf.{state_of}
use Rattle.slotted_classes.specs.Stored.{Stored}
use Rattle.slotted_rebuilding.proofs.EnteredProofs.{entering-proves, nothing-proved, only-nodes, only-stands, proved-then, proves-stands}
use Rattle.slotted_rebuilding.proofs.JoinedIds.{written_sides}
use Rattle.slotted_rebuilding.specs.Congruence.{IsOfAlike, AreTwins, AreChildrenOf, ProvesSides, ProvesEach, ProvesTwins}

-- the sides of an equation find alike so long as only proofs are entered
pub alike-still : (k l : Kept) → OnlyProves k l → (e : Sides) → IsOfAlike k e → IsOfAlike l e
alike-still k l only e h = subst (λ (x : Kept). IsOfAlike x e) (sym only.kept) (record { left = h.left; right = h.right; alike = h.alike })

-- the first equations are proved
pub record ProvesFirst (k l : Kept) (equations : List Sides) (n : ℕ) (parts : List ℕ) : Type 0 where
  pub only : OnlyProves k l
  pub count : length parts ≡ n
  pub each : (i p : ℕ) (e : Sides) → i < n → ProvesSides l (slice_index_or equations i e) (slice_index_or parts i p)

pub first-none : (k : Kept) → Stored k → (equations : List Sides) (parts : List ℕ) → parts ≡ [] → ProvesFirst k k equations 0 parts
first-none k stored equations parts none = record { only = nothing-proved k stored; count = ap length none; each = λ i p e l. absurd (omega arith) }

-- and one more
pub first-more : (k l m : Kept) (equations : List Sides) (n : ℕ) (parts more : List ℕ) (c : Sides) (q : ℕ) → ProvesFirst k l equations n parts → ((e : Sides) → c ≡ slice_index_or equations n e) → more ≡ parts ++ q ∷ [] → ProvesEqual l m (to_applied c.l) (to_applied c.r) q → ProvesFirst k m equations (n + 1) more
first-more k l m equations n parts more c q before is pushed proves = record {
  only = proved-then k l m before.only proves.only;
  count = let a : length more ≡ length (parts ++ q ∷ []) = ap length pushed in let b : length (parts ++ q ∷ []) ≡ length parts + 1 = length-append parts (q ∷ []) in omega (arith, a, b, before.count);
  each = λ i p e lt. elim (cases_eq i n) [
    | inl here ↦
        let last : i ≡ length parts = here ∙ sym before.count in
        let part : slice_index_or more i p ≡ q = ap (λ (xs : List ℕ). slice_index_or xs i p) pushed ∙ (ap (λ j. slice_index_or (parts ++ q ∷ []) j p) last ∙ get_or-append_seam parts q [] p) in
        let side : slice_index_or equations i e ≡ c = ap (λ j. slice_index_or equations j e) here ∙ sym (is e) in
        subst (λ (x : Sides × ℕ). ProvesSides m x.0 x.1) (λ j. (sym side j, sym part j)) (proves.in_range, proves.equation)
    | inr earlier ↦
        let within : i < n = omega (arith, lt, earlier) in
        let part : slice_index_or more i p ≡ slice_index_or parts i p = ap (λ (xs : List ℕ). slice_index_or xs i p) pushed ∙ get_or_append_left parts (q ∷ []) p i (omega (arith, within, before.count)) in
        let old = before.each i p e within in
        let stays = only-stands l m proves.only (slice_index_or parts i p) old.0 in
        subst (ProvesSides m (slice_index_or equations i e)) (sym part) (stays.0, ap (λ (s : Statement). s.equation) stays.1 ∙ old.1)
  ];
}

-- all of them
pub first-all : (k l : Kept) (equations : List Sides) (n : ℕ) (parts : List ℕ) → ProvesFirst k l equations n parts → n ≡ length equations → ProvesEach k l equations parts
first-all k l equations n parts h all = record { only = h.only; count = h.count ∙ all; each = λ i p e lt. h.each i p e (omega (arith, lt, h.count)) }

-- the parts of equations of full ids are entries of what matches them

entry_of_sides : (l : Kept) → Stored l → (e : Sides) → IsFull (nodes_of l) (to_applied e.l) → IsFull (nodes_of l) (to_applied e.r) → (p : ℕ) → ProvesSides l e p → IsEntry l.proofs p (to_applied e.l) (to_applied e.r)
entry_of_sides l stored e fa fb p h =
    let a : Applied = to_applied e.l in
    let b : Applied = to_applied e.r in
    let s : Statement = statement_at l.proofs p in
    let c : IsCanonical (nodes_of l) s = stored.proved.canonical p h.0 in
    let w = written_sides (nodes_of l) l.proofs stored.proved p h.0 in
    let q : equation_of a b ≡ s.equation = sym h.1 in
    let left : (equality a b).left_slots ≡ s.left_slots = fa.slots ∙ (ap (λ (x : Equation). canonical_slots (nodes_of l) x.left) q ∙ sym c.left) in
    let right : (equality a b).right_slots ≡ s.right_slots = fb.slots ∙ (ap (λ (x : Equation). canonical_slots (nodes_of l) x.right) q ∙ sym c.right) in
    states-entry l.proofs p a b w.0 w.1 (own (nodes_of l) a fa) (own (nodes_of l) b fb) h.0 w.2
    (λ i. record { left_slots = left i; right_slots = right i; equation = q i })

module _ (k : Kept) (e : Sides) (twins : AreTwins k e) (cs : List Sides) (children : AreChildrenOf k e cs) (m : Kept) (parts : List ℕ) (bridged : ProvesEach k m cs parts) where
  pub parts-entries : AreEntries m.proofs parts cs
  parts-entries = record {
    count = bridged.count;
    each = λ i p c lt.
        let d : Sides = slice_index_or cs i c in
        let alike : IsOfAlike m d = alike-still k m bridged.only d (children.alike i c (omega (arith, lt, bridged.count))) in
        entry_of_sides m bridged.only.stored d alike.left alike.right (slice_index_or parts i p) (bridged.each i p c lt);
  }

  same-nodes : nodes_of m ≡ nodes_of k
  same-nodes = only-nodes k m bridged.only

  e-full : IsOfFull (nodes_of m) e
  e-full = record {
    left = subst (λ (ns : List DTerm). IsFull ns (to_applied e.l)) (sym same-nodes) twins.left;
    right = subst (λ (ns : List DTerm). IsFull ns (to_applied e.r)) (sym same-nodes) twins.twin.full;
  }

  -- the step proves the equation of the two sides, which is a congruence
  pub step-proves : (l : Kept) (p : ℕ) → EntersBy m l e (congruent parts) p → ProvesTwins k l e p
  step-proves l p enters =
      let there : Stored m = bridged.only.stored in
      let proves : Proves m l (equation_of (to_applied e.l) (to_applied e.r)) p =
      entering-proves m there (by_step (statement_of e) (congruent parts))
      (congruent_fits (nodes_of m) m.proofs e cs parts there.sane.sound.canonical e-full children.injective
      (subst (λ (ns : List DTerm). AreAlikeNodes (canonical_node ns e.l.id.0) (canonical_node ns e.r.id.0) e cs) (sym same-nodes) children.nodes) parts-entries)
      (λ z. cc) l p enters in
      let only : OnlyProves k l = proved-then k m l bridged.only proves.only in
      record { only = only; congruence = congruence-at only proves }
    where
      congruence-at : OnlyProves k l → Proves m l (equation_of (to_applied e.l) (to_applied e.r)) p → IsCongruence (state_of l) p e.l.id.0 e.r.id.0
      congruence-at only proves = record {
        left = to_applied e.l;
        right = to_applied e.r;
        left_class = refl;
        right_class = refl;
        left_full = subst (λ (ns : List DTerm). IsFull ns (to_applied e.l)) (sym (only-nodes k l only)) twins.left;
        twins = subst (λ (x : Kept). HasNormalTwin (nodes_of x) (entries_of x) (to_applied e.l) (to_applied e.r)) (sym only.kept) (twin-of only.proofs);
        stands = proves-stands m l (equation_of (to_applied e.l) (to_applied e.r)) p proves;
      }
        where
          twin-of : (ps : List Proven) → HasNormalTwin (nodes_of (with_proofs k ps)) (entries_of (with_proofs k ps)) (to_applied e.l) (to_applied e.r)
          twin-of ps = twins.twin

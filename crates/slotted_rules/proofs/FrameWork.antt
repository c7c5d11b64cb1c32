-- How many nodes are left under the children of frames.
use Rattle.std.proofs.Common.{◌≡◌, ◌<◌, ◌+◌, ◌*◌, ◌∙◌, ℕ, zero, suc, List, [], ◌∷◌, drop, length, refl, ap, arith}
use Rattle.std.specs.Prelude.{slice_index_or}
use Rattle.std.proofs.Math.Seq.{drop-cons}
use Rattle.std.proofs.lemmas.List.{drop-set-lt}
use Rattle.slotted_slots.specs.declared.types.AppliedId.{AppliedId}
use Rattle.slotted_theory.specs.Nameless.{DTerm}
use Rattle.slotted_nodes.specs.Form.{Form, children}
use Rattle.slotted_languages.specs.Shape.{Fits}
use Rattle.slotted_model.specs.Applied.{Applied}
use Rattle.slotted_model.specs.Classes.{Canonical, IsFull}
use Rattle.slotted_model.specs.Growth.{Extends}
use Rattle.slotted_proofs.specs.Equations.{to_applied}
use Rattle.slotted_classes.specs.ChildIds.{child_ids}
use Rattle.slotted_classes.proofs.ChildIds.{length-ids}
use Rattle.slotted_operations.specs.Canonical.{IsNodeOf}
use Rattle.slotted_operations.proofs.Ids.CanonicalTerms.{child_set, children-below}
use Rattle.slotted_operations.proofs.Ids.NodeCounts.{children_nodes, ids_nodes}
use Rattle.slotted_rules.specs.declared.substitution.Frame.{Frame}
use Rattle.slotted_rules.specs.Frames.{TakesAnswer, next_child, waiting_work, work_from}

-- older ids have as many nodes over newer classes
nodes-same : (older newer : List DTerm) → Extends older newer → (ids : List Applied) → ((k : ℕ) (d : Applied) → k < length ids → (slice_index_or ids k d).0 < length older) → ids_nodes newer ids ≡ ids_nodes older ids
nodes-same older newer ext [] within = refl
nodes-same older newer ext (a ∷ ids) within =
    let here = ext.canonical_terms a.0 (within 0 a (omega arith)) in
    let rest = nodes-same older newer ext ids (λ k d l. within (suc k) d (omega arith)) in
    cc (here, rest)

-- an id has one node more than the children of its node
pub opened-nodes : (older newer : List DTerm) → Extends older newer → Canonical newer → (c : Applied) → c.0 < length older → IsFull newer c → (f : Form) → Fits f → IsNodeOf newer c f →
    ids_nodes older (c ∷ []) ≡ suc (ids_nodes older (child_ids f))
opened-nodes older newer ext can c within full f fits is =
    let whole = nodes-same older newer ext (c ∷ []) (λ k d l. only k d l) in
    let parts = nodes-same older newer ext (child_ids f) (λ k d l. omega (arith, within, (children-below newer can c full f fits is k d (omega (arith, l, length-ids f.tree f.names))).0)) in
    omega (arith, whole, parts, children_nodes newer can c full f is)
  where
    only : (k : ℕ) (d : Applied) → k < 1 → (slice_index_or (c ∷ []) k d).0 < length older
    only zero d l = within
    only (suc k) d l = absurd (omega (arith, l))

module _ {L : Type 0} (form : L → Form) (nodes : List DTerm) (r : Frame L) (lt : r.next < length (children (form r.node).tree)) where
  -- those of the next child are left before its turn
  pub next-work : work_from form nodes r.next r ≡ 2 * ids_nodes nodes (next_child form r ∷ []) + waiting_work form nodes r
  next-work =
      let ids : List Applied = child_ids (form r.node) in
      let inside : r.next < length ids = omega (arith, lt, length-ids (form r.node).tree (form r.node).names) in
      let split : ids_nodes nodes (drop r.next ids) ≡ ids_nodes nodes (next_child form r ∷ drop (suc r.next) ids) = ap (ids_nodes nodes) (drop-cons ids r.next (0, []) inside) in
      omega (arith, split)

  -- and not once its answer is taken
  pub taken-work : (s : Frame L) (a : AppliedId) → Fits (form r.node) → TakesAnswer form r s a → work_from form nodes s.next s ≡ waiting_work form nodes r
  taken-work s a fits takes =
      let ids : child_ids (form s.node) ≡ _ = ap child_ids takes.node ∙ child_set (form r.node) r.next (to_applied a) fits lt in
      let next : s.next ≡ suc r.next = omega (arith, takes.next) in
      let rest = drop-set-lt (suc r.next) (child_ids (form r.node)) r.next (to_applied a) (omega arith) in
      (λ j. suc (2 * ids_nodes nodes (drop (next j) (ids j)))) ∙ ap (λ (bs : List Applied). suc (2 * ids_nodes nodes bs)) rest

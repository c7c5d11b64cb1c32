-- Nodes over ids that are what they find: they are in normal form.
use Rattle.std.proofs.Common.{◌≡◌, ◌∙◌, ℕ, List, ap, refl, sym}
use Rattle.std.specs.Prelude.{All}
use Rattle.slotted_lists.proofs.Each.{Each-from_All}
use Rattle.slotted_theory.specs.Nameless.{DArgs, DTerm, stop, place, sub, scope}
use Rattle.slotted_theory.proofs.Values.{child_before, node}
use Rattle.slotted_nodes.specs.Form.{Form}
use Rattle.slotted_languages.specs.NodeTerm.{nameless_node}
use Rattle.slotted_languages.specs.Shape.{Fits}
use Rattle.slotted_model.specs.Applied.{Applied, EachChild, as_term, renamed_id}
use Rattle.slotted_model.specs.Find.{Entry, find}
use Rattle.slotted_model.specs.Normal.{normal, normal_args}
use Rattle.slotted_model.proofs.Finds.Congruence.{child-applied}
use Rattle.slotted_model.proofs.Finds.NormalIds.{found-renamed}
use Rattle.slotted_classes.specs.ChildIds.{child_ids}
use Rattle.slotted_classes.proofs.ChildIds.{EachChild-node_args}

-- a node is in normal form where each child is what it finds
normal-itself : (found : List Entry) (d : DArgs) → EachChild (λ a. find found a ≡ a) d → normal_args found d ≡ d
normal-itself found stop h = refl
normal-itself found (place x r) h = ap (place x) (normal-itself found r h)
normal-itself found (sub op payloads args r) h =
    let is = child-applied (λ a. find found a ≡ a) op payloads args h.0 in
    let child : as_term (find found h.0.0) ≡ node op payloads args = ap as_term h.0.2 ∙ sym h.0.1 in
    (λ j. child_before (as_term (find found (is j))) (normal-itself found r h.1 j)) ∙ ap (λ (c : DTerm). child_before c r) child
normal-itself found (scope inner r) h = λ j. scope (normal-itself found inner h.0 j) (normal-itself found r h.1 j)

pub normal-found : (found : List Entry) (f : Form) → Fits f → All (λ a. find found a ≡ a) (child_ids f) → normal found (nameless_node f) ≡ nameless_node f
normal-found found f fits all =
    let P : Applied → Type 0 = λ a. find found a ≡ a in
    let keep : (g : ℕ → ℕ) (a : Applied) → find found a ≡ a → find found (renamed_id g a) ≡ renamed_id g a = λ g a e. found-renamed found g a ∙ ap (renamed_id g) e in
    let each = EachChild-node_args P (λ g inj a e. keep g a e) (λ x. x) (λ x y e. e) f.tree f.names fits (Each-from_All P (child_ids f) all) in
    ap (node (nameless_node f).op (nameless_node f).payloads) (normal-itself found (nameless_node f).args each)

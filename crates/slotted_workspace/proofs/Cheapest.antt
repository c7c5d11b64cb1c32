-- A cheapest term of an id is one of the term that was added with the id.
use Rattle.std.proofs.Common.{◌≡◌, ◌⊎◌, ◌∙◌, ℕ, List, sym, inl, inr}
use Rattle.std.specs.Prelude.{IsTrue, Option, String}
use Rattle.std.specs.declared.alloc.Global.{Global}
use Rattle.std.proofs.lemmas.Bool.{false≢true}
use Rattle.slotted_slots.specs.declared.types.AppliedId.{AppliedId}
use Rattle.slotted_slots.specs.Syntax.{Element}
use Rattle.slotted_theory.specs.Term.{Term}
use Rattle.slotted_nodes.specs.Form.{Form}
use Rattle.slotted_model.specs.Cost.{CostFunction}
use Rattle.slotted_operations.specs.Graph.{Graph}
use Rattle.slotted_proofs.specs.Equations.{to_applied}
use Rattle.slotted_graph.specs.Extension.{ExtendsTo}
use Rattle.slotted_workspace.specs.Asked.{ExtractsBy}
use Rattle.slotted_workspace.specs.Cheapest.{AddsText, CheapestOf, FindsCheapest}
use Rattle.slotted_workspace.specs.Keeping.{IsKept}
use Rattle.slotted_workspace.specs.declared.kept.Kept.{Kept}
use Rattle.slotted_workspace.proofs.Extractions.{extracts}
use Rattle.slotted_workspace.proofs.Staying.{kept-later}

pub text-kept : {L : Type 0} (read : List Element → Option Form) (g h : Graph) (text : List ℕ) (t : Term) (id : AppliedId) → AddsText read g h text t (to_applied id) → IsKept {L = L} h (record { id = id; term = t })
text-kept read g h text t id adds = record { full = adds.full; term = adds.term; found = adds.found; valid = adds.valid }

module _ {L C : Type 0} (form : L → Form) (written : Term → List Element) (costs : CostFunction C) where
  cheapest-kept : (g h : Graph) (k : Kept L) → IsKept g k → (cost : C) (printed : String Global) → CheapestOf form written costs g h (to_applied k.id) cost printed → ExtractsBy form written costs g h k.term cost printed
  cheapest-kept g h k kept cost printed c = extracts form written costs g h k kept c.takes c.term cost printed c.well c.least c.known c.count c.size c.bytes

  pub finds-cheapest : (read : List Element → Option Form) (g added ran h : Graph) (text : List ℕ) (t : Term) (id : AppliedId) → AddsText read g added text t (to_applied id) → IsTrue ran.failed ⊎ ExtendsTo added ran →
      (cost : C) (printed : String Global) → CheapestOf form written costs ran h (to_applied id) cost printed → FindsCheapest form read written costs g h text cost printed
  finds-cheapest read g added ran h text t id adds (inl failed) cost printed c = absurd (false≢true (sym c.well ∙ failed))
  finds-cheapest read g added ran h text t id adds (inr grows) cost printed c =
      let k : Kept L = record { id = id; term = t } in
      record {
        term = t;
        id = to_applied id;
        added = added;
        adds = adds;
        ran = ran;
        grows = grows;
        best = cheapest-kept ran h k (kept-later added ran grows k (text-kept read g added text t id adds)) cost printed c;
      }

use Rattle.std.proofs.Common.{◌≡◌, ◌∙◌, ◌⊎◌, Bool, true, false, ap, refl, subst, sym, inl, inr}
use Rattle.std.specs.Prelude.{IsTrue}
use Rattle.slotted_slots.specs.Table.{Table}
use Rattle.slotted_hashcons.specs.WellFiled.{state_in}
use Rattle.slotted_operations.specs.Good.{Good, HasFreshSlots, RestsWith}
use Rattle.slotted_operations.specs.Graph.{Graph}
use Rattle.slotted_operations.proofs.LookUps.ClassNodes.{are-looked_up}
use Rattle.slotted_operations.proofs.LookUps.ClassTerms.{are-represented}
use Rattle.slotted_graph.specs.States.{IsGraph}
use Rattle.slotted_graph.proofs.egraph.EGraph.is_failed.Goals as goal

pub returns-clause-nodes : goal.returns-clause-nodes
returns-clause-nodes l c = elim c.self.invariant [
  | inl failed ↦ inl (ap (λ (x : Graph). x.failed) (sym c.self.view_is) ∙ failed)
  | inr well ↦ inr (are-looked_up c.self.inside.store c.self.inside.nodes well.0 well.2 c.args.self.now (ap (λ (x : Graph). x.image) c.self.view_is) (ap (λ (x : Graph). x.filed) c.self.view_is))
]

pub returns-clause-terms : goal.returns-clause-terms
returns-clause-terms l c = elim c.self.invariant [
  | inl failed ↦ inl (ap (λ (x : Graph). x.failed) (sym c.self.view_is) ∙ failed)
  | inr well ↦ inr (are-represented c.self.inside.store c.self.inside.nodes well.0 well.2 c.args.self.now (ap (λ (x : Graph). x.image) c.self.view_is) (ap (λ (x : Graph). x.filed) c.self.view_is))
]

pub returns-clause-rests : goal.returns-clause-rests
returns-clause-rests l c = elim c.self.invariant [
  | inl failed ↦ inl (ap (λ (x : Graph). x.failed) (sym c.self.view_is) ∙ failed)
  | inr well ↦ has_failed c.self.inside.failed refl (well.0, well.1, well.2)
]
  where
    has_failed : (b : Bool) → c.self.inside.failed ≡ b → Good c.self.inside.store × HasFreshSlots c.self.inside.table c.self.inside.store × RestsWith c.self.inside.store c.self.inside.nodes → IsTrue c.args.self.now.failed ⊎ IsGraph c.args.self.now
    has_failed true e well = inl (ap (λ (x : Graph). x.failed) (sym c.self.view_is) ∙ e)
    has_failed false e well = inr (record {
      well = ap (λ (x : Graph). x.failed) (sym c.self.view_is) ∙ e;
      state = state_in c.self.inside.store c.self.inside.nodes;
      is_state = record {
        kept = c.self.inside.store;
        rows = c.self.inside.nodes;
        good = well.0;
        rests = well.2;
        fresh = subst (λ (t : Table). HasFreshSlots t c.self.inside.store) (ap (λ (x : Graph). x.table) c.self.view_is) well.1;
        image = ap (λ (x : Graph). x.image) c.self.view_is;
        filed = ap (λ (x : Graph). x.filed) c.self.view_is;
        state = refl;
      };
    })

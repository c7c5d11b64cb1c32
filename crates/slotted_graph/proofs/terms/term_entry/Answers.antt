-- From numbers to slots of the source, to slots of the class.
use Rattle.std.proofs.Common.{◌∙◌, ap, refl, sym, subst}
use Rattle.slotted_theory.specs.FiniteMaps.{IsInjectiveMap}
use Rattle.slotted_slots.specs.Maps.{composed}
use Rattle.slotted_model.specs.Applied.{Applied}
use Rattle.slotted_model.specs.Correspondence.{same_names}
use Rattle.slotted_proofs.proofs.Bridges.{injective_differ, shared-model}
use Rattle.slotted_lookup.proofs.Finds.{map-injective}
use Rattle.slotted_graph.proofs.terms.term_entry.Goals as goal

pub inverse-requires : goal.inverse-requires
inverse-requires g c =
    let e = ap (λ (a : Applied). a.1) c.in_ok-found.ensures.ok in
    injective_differ c.in_ok-found.found.m (subst IsInjectiveMap (sym e) (map-injective c.args.store.now c.requires.good c.args.entry.source c.requires.within))

pub returns-clause-ok : goal.returns-clause-ok
returns-clause-ok g c =
    let slots = c.args.entry.names in
    let e = ap (λ (a : Applied). a.1) c.in_ok-found.ensures.ok in
    let once = subst IsInjectiveMap (sym e) (map-injective c.args.store.now c.requires.good c.args.entry.source c.requires.within) in
    record {
      cost = refl;
      rank = refl;
      node = refl;
      names = c.in_ok-names.ensures.ok ∙ (ap (composed slots) c.in_ok-back.ensures.ok ∙ (shared-model slots c.in_ok-found.found.m once ∙ ap (same_names slots) e));
    }

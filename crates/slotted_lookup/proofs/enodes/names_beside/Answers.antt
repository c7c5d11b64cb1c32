-- From numbers to slots of the class, to slots of the class that is found, to names.
use Rattle.std.proofs.Common.{◌∙◌, ap, sym, subst}
use Rattle.slotted_theory.specs.FiniteMaps.{IsInjectiveMap}
use Rattle.slotted_slots.specs.Maps.{composed}
use Rattle.slotted_model.specs.Applied.{Applied}
use Rattle.slotted_model.specs.Correspondence.{composite, same_names}
use Rattle.slotted_proofs.proofs.Bridges.{composed-model, injective_differ, shared-model}
use Rattle.slotted_lookup.proofs.Finds.{map-injective}
use Rattle.slotted_lookup.proofs.enodes.names_beside.Goals as goal

pub inverse-requires : goal.inverse-requires
inverse-requires g c =
    let e = ap (λ (a : Applied). a.1) c.in_ok-found.ensures.ok in
    injective_differ c.in_ok-found.found.m (subst IsInjectiveMap (sym e) (map-injective c.args.store.now c.requires.good c.args.source c.requires.within))

pub returns-clause-ok : goal.returns-clause-ok
returns-clause-ok g c =
    let slots = c.args.slots.now in
    let e = ap (λ (a : Applied). a.1) c.in_ok-found.ensures.ok in
    let once = subst IsInjectiveMap (sym e) (map-injective c.args.store.now c.requires.good c.args.source c.requires.within) in
    let numbered = c.in_ok-numbered.ensures.ok ∙ (ap (composed slots) c.in_ok-back.ensures.ok ∙ (shared-model slots c.in_ok-found.found.m once ∙ ap (same_names slots) e)) in
    c.in_ok-names.ensures.ok ∙ (composed-model c.in_ok-numbered.numbered c.in_ok-named.named.m ∙ (λ j. composite (numbered j) (c.in_ok-named.ensures.ok j).1))

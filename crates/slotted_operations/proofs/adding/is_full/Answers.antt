use Rattle.std.proofs.Common.{◌≡◌, ◌<◌, ◌∙◌, ap, arith, sym, subst, length}
use Rattle.std.proofs.lemmas.Bool.{false≢true}
use Rattle.slotted_theory.specs.FiniteMaps.{IsInjectiveMap}
use Rattle.slotted_model.specs.Ascending.{ascending}
use Rattle.slotted_slots.specs.Maps.{values}
use Rattle.slotted_proofs.specs.Equations.{to_applied}
use Rattle.slotted_classes.specs.Kept.{names_at}
use Rattle.slotted_operations.proofs.Ids.FullIds.{length-rows, row-differ, other_keys, full_iff}
use Rattle.slotted_classes.proofs.NameMaps.{all_differ-iff}
use Rattle.slotted_operations.proofs.adding.is_full.Goals as goal

pub names_of-requires : goal.names_of-requires
names_of-requires g c = omega (arith, length-rows c.args.store.now c.requires)

pub values_are_keys-requires : goal.values_are_keys-requires
values_are_keys-requires g c =
    subst IsInjectiveMap (sym c.names_of.ensures) (row-differ c.args.store.now c.requires c.args.a.now.id.0 (omega arith))

pub returns-then-not-values_are_keys : goal.returns-then-not-values_are_keys
returns-then-not-values_are_keys g c =
    let found : ascending (values c.names_of.result.now) ≡ ascending (values (names_at c.args.store.now c.args.a.now.id.0)) = ap (λ m. ascending (values m)) c.names_of.ensures in
    let l : c.args.a.now.id.0 < length c.args.store.now.classes = omega arith in
    (λ y. absurd (false≢true y), λ full. absurd (other_keys c.args.store.now c.requires (to_applied c.args.a.now) l (λ e. false≢true (sym c.if-not-values_are_keys.true ∙ c.values_are_keys.ensures.1 (e ∙ sym found))) full))

pub returns : goal.returns
returns g c =
    let found : ascending (values c.names_of.result.now) ≡ ascending (values (names_at c.args.store.now c.args.a.now.id.0)) = ap (λ m. ascending (values m)) c.names_of.ensures in
    let l : c.args.a.now.id.0 < length c.args.store.now.classes = omega arith in
    let i = full_iff c.args.store.now c.requires (to_applied c.args.a.now) l (c.values_are_keys.ensures.0 c.if-not-values_are_keys.false ∙ found) in
    let d = all_differ-iff c.args.a.now.m in
    (λ y. i.0 (d.0 (sym c.is_bijection.ensures ∙ y)), λ full. c.is_bijection.ensures ∙ d.1 (i.1 full))

use Rattle.std.proofs.Common.{◌≡◌, ◌<◌, ◌∙◌, ℕ, List, length, ap, arith, sym, subst}
use Rattle.std.specs.Prelude.{Contains}
use Rattle.std.proofs.lemmas.Bool.{false≢true}
use Rattle.slotted_model.proofs.Finds.NormalIds.{Contains-ascending, Contains-of_ascending}
use Rattle.slotted_slots.specs.Maps.{values}
use Rattle.slotted_classes.specs.Kept.{names_at}
use Rattle.slotted_classes.proofs.NameMaps.{all_differ-iff}
use Rattle.slotted_classes.proofs.KeptLists.{length-nodes_of}
use Rattle.slotted_operations.proofs.Ids.FullIds.{length-rows, row-values}
use Rattle.slotted_operations.proofs.Graphs.Finds.{good-finds}
use Rattle.slotted_operations.proofs.adding.can_be_found.Goals as goal

pub names_of-requires : goal.names_of-requires
names_of-requires g c = omega (arith, length-rows c.args.store.now c.requires)

pub returns-then-not-keys_are_values : goal.returns-then-not-keys_are_values
returns-then-not-keys_are_values g c =
    let i = c.args.a.now.id.0 in
    let at : Contains (values c.names_of.result.now) ≡ Contains (values (names_at c.args.store.now i)) = ap (λ m. Contains (values m)) c.names_of.ensures in (
      λ y. absurd (false≢true y),
      λ f. absurd (false≢true (sym c.if-not-keys_are_values.true ∙ c.keys_are_values.ensures.within.1 (λ s h.
          subst (λ (P : ℕ → Type 0). P s) (sym at)
          (Contains-of_ascending (values (names_at c.args.store.now i)) s
          (subst (λ (S : List ℕ). Contains S s) (sym (row-values c.args.store.now c.requires i (omega arith))) (f.within s h)))))),
    )

pub has_found_names-requires-clause-good : goal.has_found_names-requires-clause-good
has_found_names-requires-clause-good g c = good-finds c.args.store.now c.requires

pub returns-then-has_found_names : goal.returns-then-has_found_names
returns-then-has_found_names g c =
    let i = c.args.a.now.id.0 in
    let l : i < length c.args.store.now.classes = omega arith in
    let at : Contains (values c.names_of.result.now) ≡ Contains (values (names_at c.args.store.now i)) = ap (λ m. Contains (values m)) c.names_of.ensures in
    let d = all_differ-iff c.args.a.now.m in (
      λ y. record {
        in_range = omega (arith, l, length-nodes_of c.args.store.now);
        ascending = c.keys_are_values.ensures.ascending;
        injective = d.0 (sym c.is_bijection.ensures ∙ y);
        has_slots = c.has_found_names.ensures.0 c.if-has_found_names.true;
        within = λ s h.
            subst (λ (S : List ℕ). Contains S s) (row-values c.args.store.now c.requires i l)
            (Contains-ascending (values (names_at c.args.store.now i)) s (subst (λ (P : ℕ → Type 0). P s) at (c.keys_are_values.ensures.within.0 c.if-not-keys_are_values.false s h)));
      },
      λ f. c.is_bijection.ensures ∙ d.1 f.injective,
    )

pub returns-else-has_found_names : goal.returns-else-has_found_names
returns-else-has_found_names g c = (
  λ y. absurd (false≢true (sym c.if-has_found_names.false ∙ y)),
  λ f. c.has_found_names.ensures.1 f.has_slots,
)

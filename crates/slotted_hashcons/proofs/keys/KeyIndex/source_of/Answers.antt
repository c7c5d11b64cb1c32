use Rattle.std.proofs.Common.{ℕ, [], ◌∙◌, ap, sym, subst, Option, List}
use Rattle.std.specs.Prelude.{option_map}
use Rattle.slotted_hashcons.specs.Filed.{Filing, HasKey, HasKeysOnce, IsNewKey, rows_of}
use Rattle.slotted_hashcons.proofs.Indexed.{keys-once}
use Rattle.slotted_hashcons.proofs.KeyedRows.{found-key, not-found-key}
use Rattle.slotted_classes.proofs.RowsByForm.{found-lookup}
use Rattle.slotted_hashcons.proofs.keys.KeyIndex.source_of.Goals as goal

pub returns-in-Some-clause-some : goal.returns-in-Some-clause-some
returns-in-Some-clause-some g c =
    let form = g.L.LanguageChildren.form in
    subst (λ (v : List (Option Filing)). HasKey v c.in-Some.source.now (form c.args.key.now)) c.self.view_is
    (found-key (rows_of form c.self.inside.nodes) c.self.inside.places.items c.self.invariant (form c.args.key.now) c.in-Some.source.now []
    (sym (found-lookup g.L.PartialEq.eq form (λ (n : ℕ). (n, [])) g.met.L.LanguageChildren.same c.self.inside.nodes.entries c.args.key.now)
    ∙ ap (option_map (λ (n : ℕ). (n, []))) (sym c.in-Some.ensures.value)))

pub returns-in-Some-clause-once : goal.returns-in-Some-clause-once
returns-in-Some-clause-once g c = subst HasKeysOnce c.self.view_is (keys-once (rows_of g.L.LanguageChildren.form c.self.inside.nodes) c.self.inside.places.items c.self.invariant)

pub returns-in-None-clause-none : goal.returns-in-None-clause-none
returns-in-None-clause-none g c =
    let form = g.L.LanguageChildren.form in
    subst (λ (v : List (Option Filing)). IsNewKey v (form c.args.key.now)) c.self.view_is
    (not-found-key (rows_of form c.self.inside.nodes) c.self.inside.places.items c.self.invariant (form c.args.key.now)
    (sym (found-lookup g.L.PartialEq.eq form (λ (n : ℕ). (n, [])) g.met.L.LanguageChildren.same c.self.inside.nodes.entries c.args.key.now)
    ∙ ap (option_map (λ (n : ℕ). (n, []))) (sym c.in-None.ensures.value)))

pub returns-in-None-clause-once : goal.returns-in-None-clause-once
returns-in-None-clause-once g c = subst HasKeysOnce c.self.view_is (keys-once (rows_of g.L.LanguageChildren.form c.self.inside.nodes) c.self.inside.places.items c.self.invariant)

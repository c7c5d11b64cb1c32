use Rattle.std.proofs.Common.{List, map, sym, subst}
use Rattle.slotted_nodes.specs.Form.{Form}
use Rattle.slotted_languages.specs.Outline.{skeleton_form}
use Rattle.slotted_matching.specs.Skeletons.{IsPlaceOf}
use Rattle.slotted_matching.proofs.SkeletonPlaces.{found-place, no-place}
use Rattle.slotted_matching.proofs.skeletons.Skeletons.find.Goals as goal

pub returns-in-Some-clause-ok : goal.returns-in-Some-clause-ok
returns-in-Some-clause-ok g c =
    let form = g.L.LanguageChildren.form in
    subst (λ (S : List Form). IsPlaceOf S (skeleton_form (form c.args.node.now)) c.in-Some.number) c.self.view_is
    (subst (λ (f : Form). IsPlaceOf (map form c.self.inside.nodes.keys) f c.in-Some.number) c.in_ok-skeleton.ensures.ok
    (found-place g.L.PartialEq.eq form g.met.L.LanguageChildren.same c.self.inside.nodes.keys c.in_ok-skeleton.skeleton c.in-Some.number c.self.invariant (sym c.in-Some.ensures.index)))

pub returns-clause-ok : goal.returns-clause-ok
returns-clause-ok g c =
    let form = g.L.LanguageChildren.form in
    subst (λ (S : List Form). IsPlaceOf S (skeleton_form (form c.args.node.now)) c.len.result) c.self.view_is
    (subst (λ (f : Form). IsPlaceOf (map form c.self.inside.nodes.keys) f c.len.result) c.in_ok-skeleton.ensures.ok
    (no-place g.L.PartialEq.eq form g.met.L.LanguageChildren.same c.self.inside.nodes.keys c.in_ok-skeleton.skeleton c.len.result (sym c.in-None.ensures.found) c.len.ensures.len))

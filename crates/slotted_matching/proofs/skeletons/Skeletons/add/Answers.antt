use Rattle.std.proofs.Common.{List, sym, subst, map}
use Rattle.slotted_nodes.specs.Form.{Form}
use Rattle.slotted_matching.specs.Skeletons.{GrowsTo, StandOnce}
use Rattle.slotted_matching.proofs.SkeletonPlaces.{inserted-grows, inserted-once, stored-at}
use Rattle.slotted_matching.proofs.skeletons.Skeletons.add.Goals as goal

pub invariant_of-self-2 : goal.invariant_of-self-2
invariant_of-self-2 g c =
    let form = g.L.LanguageChildren.form in
    subst (λ ks. StandOnce (map form ks)) (sym c.in_ok-number.ensures.keys)
    (inserted-once g.L.PartialEq.eq form g.met.L.LanguageChildren.same c.self.inside.nodes.keys c.args.skeleton c.self.invariant)

pub returns-clause-ok : goal.returns-clause-ok
returns-clause-ok g c =
    let form = g.L.LanguageChildren.form in
    let s = c.in_ok-number.ensures.stored in
    stored-at g.L.PartialEq.eq form g.met.L.LanguageChildren.same c.insert_full.new.self.keys c.args.skeleton s.0 c.in_ok-number.number s.1 s.2

pub returns-clause-grows : goal.returns-clause-grows
returns-clause-grows g c =
    let form = g.L.LanguageChildren.form in
    subst (λ (S : List Form). GrowsTo S (map form c.insert_full.new.self.keys)) c.self.view_is
    (subst (λ ks. GrowsTo (map form c.self.inside.nodes.keys) (map form ks)) (sym c.in_ok-number.ensures.keys)
    (inserted-grows g.L.PartialEq.eq form g.met.L.LanguageChildren.same c.self.inside.nodes.keys c.args.skeleton))

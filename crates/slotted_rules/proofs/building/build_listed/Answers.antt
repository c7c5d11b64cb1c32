-- Each pattern is built over the instances of its parts.
use Rattle.std.proofs.Common.{◌≡◌, ◌∙◌, ◌∷◌, ◌++◌, ◌-◌, [], length, refl, sym, ap, subst, arith, inr, map, take}
use Rattle.std.proofs.lemmas.List.{length-map, map-append, take_all}
use Rattle.slotted_patterns.specs.Subpatterns.{subpatterns}
use Rattle.slotted_patterns.specs.View.{tree_of}
use Rattle.slotted_proofs.specs.Equations.{to_applied}
use Rattle.slotted_rule_patterns.specs.Values.{values_of}
use Rattle.slotted_rules.proofs.Carrying.{carries-itself, carries-on, later-carries}
use Rattle.slotted_rules.specs.Methods.{not_asked}
use Rattle.slotted_rules.specs.Stacked.{IsReady}
use Rattle.slotted_rules.proofs.AskedMethods.{asks-then}
use Rattle.slotted_rules.proofs.Answering.{err-then}
use Rattle.slotted_rules.proofs.Growing.{grows-then, later-grows}
use Rattle.slotted_rules.proofs.StackedInstances.{Waits, last-listed, next-enough, next-ready, none-taken, some-whole, waits-start, waits-step, waits-valid, waits-whole}
use Rattle.slotted_rules.proofs.building.build_listed.Goals as goal

pub loop-left-init : goal.loop-left-init
loop-left-init g c =
    let tree = tree_of g.L.LanguageChildren.form in
    let listed = c.args.listed.now.inside.now in
    let p = tree c.args.listed.now.pattern.now in
    let many : length listed ≡ length (subpatterns p) = sym (length-map listed (λ q. tree q.now)) ∙ ap length c.requires.listed in
    record {
      some = omega (arith, some-whole p, many);
      within = omega arith;
      waits = waits-start g.M.OwnSubst.method c.args.graph.now (values_of c.args.subst.now) p _ (map to_applied c.new-ids.result.items) c.requires.graph (take_all (length listed) (subpatterns p) (omega (arith, many))) (ap (map to_applied) c.new-ids.ensures.items);
      carries = carries-itself g.N.Analysis.codes g.N.Analysis.meaning g.met.N.Analysis.is_merge c.args.graph.now;
      asks = not_asked;
    }

pub build_over-requires-clause-ready : goal.build_over-requires-clause-ready
build_over-requires-clause-ready g c =
    let tree = tree_of g.L.LanguageChildren.form in
    let m = g.M.OwnSubst.method in
    let s = values_of c.args.subst.now in
    let g0 = c.args.graph.now in
    let h = c.loop-left.graph in
    let p = tree c.args.listed.now.pattern.now in
    let ids = map to_applied c.loop-left.ids.items in
    let x = tree c.index-inside-left.result.now in
    let left = take (c.loop-left.left - 1) (subpatterns p) in
    let last = last-listed (λ q. tree q.now) c.args.listed.now.inside.now p c.loop-left.left c.index-inside-left.result c.requires.listed c.loop-left-test.true c.loop-left.invariant.within c.index-inside-left.is in
    let w : Waits m g0 h s p (left ++ x ∷ []) ids = subst (λ l. Waits m g0 h s p l ids) last c.loop-left.invariant.waits in
    let ready : IsReady g0.table s p = record { known = c.requires.known; whole = c.requires.whole; given = c.requires.given } in
    next-ready m g0 h s p x left ids w ready

pub build_over-requires-clause-values : goal.build_over-requires-clause-values
build_over-requires-clause-values g c =
    λ k d l. c.loop-left.invariant.waits.makes.grows.extends.valid _ (c.requires.values k d l)

pub build_over-requires-clause-enough : goal.build_over-requires-clause-enough
build_over-requires-clause-enough g c =
    let tree = tree_of g.L.LanguageChildren.form in
    let m = g.M.OwnSubst.method in
    let s = values_of c.args.subst.now in
    let g0 = c.args.graph.now in
    let h = c.loop-left.graph in
    let p = tree c.args.listed.now.pattern.now in
    let ids = map to_applied c.loop-left.ids.items in
    let x = tree c.index-inside-left.result.now in
    let left = take (c.loop-left.left - 1) (subpatterns p) in
    let last = last-listed (λ q. tree q.now) c.args.listed.now.inside.now p c.loop-left.left c.index-inside-left.result c.requires.listed c.loop-left-test.true c.loop-left.invariant.within c.index-inside-left.is in
    let w : Waits m g0 h s p (left ++ x ∷ []) ids = subst (λ l. Waits m g0 h s p l ids) last c.loop-left.invariant.waits in
    omega (arith, next-enough m g0 h s p x left ids w, length-map c.loop-left.ids.items to_applied)

pub build_over-requires-clause-valid : goal.build_over-requires-clause-valid
build_over-requires-clause-valid g c =
    let tree = tree_of g.L.LanguageChildren.form in
    let m = g.M.OwnSubst.method in
    let s = values_of c.args.subst.now in
    let g0 = c.args.graph.now in
    let h = c.loop-left.graph in
    let p = tree c.args.listed.now.pattern.now in
    let ids = map to_applied c.loop-left.ids.items in
    let x = tree c.index-inside-left.result.now in
    let left = take (c.loop-left.left - 1) (subpatterns p) in
    let last = last-listed (λ q. tree q.now) c.args.listed.now.inside.now p c.loop-left.left c.index-inside-left.result c.requires.listed c.loop-left-test.true c.loop-left.invariant.within c.index-inside-left.is in
    let w : Waits m g0 h s p (left ++ x ∷ []) ids = subst (λ l. Waits m g0 h s p l ids) last c.loop-left.invariant.waits in
    waits-valid m g0 h s p x left ids w

pub returns-in_err-id-clause-err : goal.returns-in_err-id-clause-err
returns-in_err-id-clause-err g c =
    err-then c.from_residual.result (later-grows c.args.graph.now c.loop-left.graph c.build_over.new.graph c.loop-left.invariant.waits.makes.grows c.in_err-id.ensures.err)

pub loop-left-preserved : goal.loop-left-preserved
loop-left-preserved g c =
    let tree = tree_of g.L.LanguageChildren.form in
    let m = g.M.OwnSubst.method in
    let s = values_of c.args.subst.now in
    let g0 = c.args.graph.now in
    let h = c.loop-left.graph in
    let p = tree c.args.listed.now.pattern.now in
    let ids = map to_applied c.loop-left.ids.items in
    let x = tree c.index-inside-left.result.now in
    let left = take (c.loop-left.left - 1) (subpatterns p) in
    let last = last-listed (λ q. tree q.now) c.args.listed.now.inside.now p c.loop-left.left c.index-inside-left.result c.requires.listed c.loop-left-test.true c.loop-left.invariant.within c.index-inside-left.is in
    let w : Waits m g0 h s p (left ++ x ∷ []) ids = subst (λ l. Waits m g0 h s p l ids) last c.loop-left.invariant.waits in
    let ready : IsReady g0.table s p = record { known = c.requires.known; whole = c.requires.whole; given = c.requires.given } in
    let f = c.build_over.new.graph in
    record {
      some = omega (arith, c.loop-left-test.true);
      within = omega (arith, c.loop-left.invariant.within);
      waits = waits-step m g0 h s p x left ids w f (map to_applied c.build_over.new.ids.items) (map to_applied c.push.new.self.items) (to_applied c.in_ok-id.id) c.requires.graph ready c.in_ok-id.ensures.ok
          (ap (map to_applied) c.in_ok-push.ensures.items ∙ map-append to_applied c.build_over.new.ids.items (c.in_ok-id.id ∷ []));
      carries = carries-on g.N.Analysis.codes g.N.Analysis.meaning g.met.N.Analysis.is_merge g0 h f w.makes.grows.extends c.loop-left.invariant.carries c.in_ok-id.ensures.ok.makes.grows.graph.well c.build_over.ensures.carries;
      asks = asks-then g.M.OwnSubst.substitutes c.args.method.now g0 c.loop-left.invariant.asks c.in_ok-id.ensures.asks;
    }

pub returns-in_err-push-clause-err : goal.returns-in_err-push-clause-err
returns-in_err-push-clause-err g c =
    err-then c.from_residual-in_err-push.result (inr (grows-then c.args.graph.now c.loop-left.graph c.build_over.new.graph c.loop-left.invariant.waits.makes.grows c.in_ok-id.ensures.ok.makes.grows))

pub returns-in_err-id-clause-carries : goal.returns-in_err-id-clause-carries
returns-in_err-id-clause-carries g c =
    later-carries g.N.Analysis.codes g.N.Analysis.meaning g.met.N.Analysis.is_merge c.args.graph.now c.loop-left.graph c.build_over.new.graph c.loop-left.invariant.waits.makes.grows.extends c.loop-left.invariant.carries c.build_over.ensures.carries

pub returns-in_err-push-clause-carries : goal.returns-in_err-push-clause-carries
returns-in_err-push-clause-carries g c =
    later-carries g.N.Analysis.codes g.N.Analysis.meaning g.met.N.Analysis.is_merge c.args.graph.now c.loop-left.graph c.build_over.new.graph c.loop-left.invariant.waits.makes.grows.extends c.loop-left.invariant.carries c.build_over.ensures.carries

pub returns-then-left-eq0-clause-ok : goal.returns-then-left-eq0-clause-ok
returns-then-left-eq0-clause-ok g c =
    let tree = tree_of g.L.LanguageChildren.form in
    let m = g.M.OwnSubst.method in
    let s = values_of c.args.subst.now in
    let g0 = c.args.graph.now in
    let h = c.loop-left.graph in
    let p = tree c.args.listed.now.pattern.now in
    let ids = map to_applied c.loop-left.ids.items in
    let x = tree c.index-inside-left.result.now in
    let left = take (c.loop-left.left - 1) (subpatterns p) in
    let last = last-listed (λ q. tree q.now) c.args.listed.now.inside.now p c.loop-left.left c.index-inside-left.result c.requires.listed c.loop-left-test.true c.loop-left.invariant.within c.index-inside-left.is in
    let w : Waits m g0 h s p (left ++ x ∷ []) ids = subst (λ l. Waits m g0 h s p l ids) last c.loop-left.invariant.waits in
    let ready : IsReady g0.table s p = record { known = c.requires.known; whole = c.requires.whole; given = c.requires.given } in
    let f = c.build_over.new.graph in
    let rest = map to_applied c.build_over.new.ids.items in
    let a = to_applied c.in_ok-id.id in
    let next = waits-step m g0 h s p x left ids w f rest (rest ++ a ∷ []) a c.requires.graph ready c.in_ok-id.ensures.ok refl in
    waits-whole m g0 f s p left rest a (none-taken (subpatterns p) (c.loop-left.left - 1) c.if-left-eq0.true) next

pub returns-then-left-eq0-clause-asks : goal.returns-then-left-eq0-clause-asks
returns-then-left-eq0-clause-asks g c =
    asks-then g.M.OwnSubst.substitutes c.args.method.now c.args.graph.now c.loop-left.invariant.asks c.in_ok-id.ensures.asks

pub returns-then-left-eq0-clause-carries : goal.returns-then-left-eq0-clause-carries
returns-then-left-eq0-clause-carries g c =
    later-carries g.N.Analysis.codes g.N.Analysis.meaning g.met.N.Analysis.is_merge c.args.graph.now c.loop-left.graph c.build_over.new.graph c.loop-left.invariant.waits.makes.grows.extends c.loop-left.invariant.carries c.build_over.ensures.carries

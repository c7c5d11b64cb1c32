-- The last id that is left goes into the last place that is left.
use Rattle.std.proofs.Common.{◌≡◌, ◌<◌, ◌-◌, ◌++◌, suc, drop, length, map, sym, subst, ap, ◌∙◌, arith, append-nil}
use Rattle.std.proofs.lemmas.List.{drop_all}
use Rattle.slotted_nodes.specs.Form.{Form, children}
use Rattle.slotted_patterns.proofs.PatternCopies.{mapped_last}
use Rattle.slotted_patterns.proofs.PieceTexts.{length_last}
use Rattle.slotted_classes.proofs.ChildIds.{length-ids}
use Rattle.slotted_languages.specs.Beside.{IsBeside}
use Rattle.slotted_operations.specs.Nodes.{child_ids, to_applied}
use Rattle.slotted_operations.proofs.Additions.IdStacks.{taken-more}
use Rattle.slotted_operations.proofs.Ids.CanonicalTerms.{beside-itself, beside-step, child_set}
use Rattle.slotted_operations.proofs.stacks.over_last.Goals as goal

pub loop-k-init : goal.loop-k-init
loop-k-init g c =
    let f : Form = g.L.LanguageChildren.form c.args.node.node in
    let all = map to_applied c.args.ids.now.items in
    let k = c.applied_id_count-k.result in
    record {
      beside = beside-itself f;
      within = omega (arith, c.applied_id_count-k.ensures);
      enough = omega (arith, c.applied_id_count-k.ensures, c.requires);
      taken = sym (append-nil all) ∙ ap (λ xs. all ++ xs) (sym (drop_all k (child_ids f) (omega (arith, length-ids f.tree f.names, c.applied_id_count-k.ensures))));
    }

pub loop-k-preserved : goal.loop-k-preserved
loop-k-preserved g c =
    let form = g.L.LanguageChildren.form in
    let f : Form = form c.args.node.node in
    let h : Form = form c.loop-k.node in
    let k = c.loop-k.k in
    let j = k - 1 in
    let a = to_applied c.in-Some.id in
    let old = c.loop-k.ids.items in
    let rest = c.pop.new.self.items in
    let fits = g.met.L.LanguageChildren.fits c.loop-k.node in
    let next : k ≡ suc j = omega (arith, c.loop-k-test.true) in
    let wide : j < length (children f.tree) = omega (arith, next, c.loop-k.invariant.within) in
    let wider : j < length (children h.tree) = omega (arith, wide, c.loop-k.invariant.beside.count) in
    let last = mapped_last to_applied old rest c.pop.result c.in-Some.id c.pop.ensures.items c.in-Some.is in
    let inside : j < length (child_ids h) = omega (arith, wider, length-ids h.tree h.names) in
    let before = taken-more (map to_applied c.args.ids.now.items) (map to_applied old) (map to_applied rest) (child_ids h) k j a c.loop-k.invariant.taken last next inside in
    record {
      beside = subst (λ (e : Form). IsBeside f e) (sym c.set_applied_id.ensures) (beside-step f h j a fits wide c.loop-k.invariant.beside);
      within = omega (arith, wide);
      enough = omega (arith, next, c.loop-k.invariant.enough, length_last old rest c.pop.result c.in-Some.id c.pop.ensures.items c.in-Some.is);
      taken = before ∙ ap (λ xs. map to_applied rest ++ drop j xs) (sym (ap child_ids c.set_applied_id.ensures ∙ child_set h j a fits wider));
    }

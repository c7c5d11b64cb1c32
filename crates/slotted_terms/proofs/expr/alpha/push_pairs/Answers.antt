use Rattle.std.proofs.Common.{◌≡◌, ◌<◌, ◌-◌, ◌++◌, suc, length, refl, sym, subst, ◌∙◌, arith, append-nil, append_assoc}
use Rattle.slotted_outlines.specs.Seen.{lefts, lefts_above, rights, rights_above}
use Rattle.slotted_terms.proofs.PairLists.{pairs-more, pairs-none}
use Rattle.slotted_terms.proofs.expr.alpha.push_pairs.Goals as goal

pub loop-k-init : goal.loop-k-init
loop-k-init g c =
    let form = g.L.LanguageChildren.form in
    let old = c.args.left.now.items in
    record {
      within = omega arith;
      kept = refl;
      pairs = pairs-none (form c.args.nodes.now.one) (form c.args.nodes.now.two) c.args.binders.now.items c.args.ones.now c.args.twos.now (length c.args.ones.now) old (sym (append-nil old)) (omega arith);
    }

pub loop-k-preserved : goal.loop-k-preserved
loop-k-preserved g c =
    let form = g.L.LanguageChildren.form in
    let f = form c.args.nodes.now.one in
    let h = form c.args.nodes.now.two in
    let s = c.args.binders.now.items in
    let ts = c.args.ones.now in
    let us = c.args.twos.now in
    let k = c.loop-k.k in
    let j = k - 1 in
    let above = c.in_ok-above.above.items in
    let next : k ≡ suc j = omega (arith, c.loop-k-test.true) in
    let within : j < length ts = omega (arith, next, c.loop-k.invariant.within) in
    let p = c.loop-k.invariant.pairs in
    let left = subst (λ x. lefts (x ++ above) ≡ lefts_above f x j) c.loop-k.invariant.kept c.in_ok-above.ensures.left in
    let right = subst (λ x. rights (x ++ above) ≡ rights_above h x j) c.loop-k.invariant.kept c.in_ok-above.ensures.right in
    record {
      within = omega (arith, within);
      kept = c.in_ok-above.ensures.kept ∙ c.loop-k.invariant.kept;
      pairs = pairs-more f h s ts us c.requires.count k j next within c.args.left.now.items c.loop-k.left.items c.push.new.self.items p _ c.in_ok-push.ensures.items (omega (arith, c.len-depth.ensures, c.args.binders.now.ok.0)) c.index-ones-k.is c.index-twos-k.is left right
          (append_assoc c.args.left.now.items p.added _);
    }

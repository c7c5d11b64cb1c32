use Rattle.std.proofs.Common.{arith, ap, ◌∙◌, length}
use Rattle.slotted_nodes.specs.Form.{Form, IsSmall, scopes}
use Rattle.slotted_nodes.specs.SmallForms.{small_end}
use Rattle.slotted_languages.specs.Walk.{walk_of}
use Rattle.slotted_languages.proofs.WalkSteps.{one_numbered, all_numbered}
use Rattle.slotted_languages.proofs.shape.number_places.Goals as goal

pub loop-i-preserved : goal.loop-i-preserved
loop-i-preserved g c =
    let form = g.L.LanguageChildren.form in
    let fits = g.met.L.LanguageChildren.fits in
    let tree = ap (λ (f : Form). length (scopes f.tree)) c.loop-i.invariant.numbered.named in
    let small : IsSmall (form c.loop-i.node) = omega (arith, c.requires.small, fits c.args.node.now, fits c.loop-i.node, tree) in
    record {
      numbered = one_numbered (form c.args.node.now) (form c.loop-i.node) (form c.set_slot.new.self) (walk_of c.loop-i.numbering) (walk_of c.number.new.self)
          c.loop-i.i c.slot-name.result c.in_ok-number.number c.scope_end-scope_end.result (g.met.L.LanguageChildren.fits c.args.node.now)
          (omega (arith, c.loop-i-test.true, c.slot_count-i-end.ensures)) c.loop-i.invariant.numbered c.slot-name.ensures
          (c.scope_end-scope_end.ensures ∙ small_end (form c.loop-i.node) c.loop-i.i (fits c.loop-i.node) small)
          c.in_ok-number.ensures.ok c.set_slot.ensures;
      good = c.in_ok-number.ensures.good;
    }

pub returns-clause-ok : goal.returns-clause-ok
returns-clause-ok g c =
    let form = g.L.LanguageChildren.form in
    let p = all_numbered (form c.args.node.now) (form c.loop-i.node) (walk_of c.loop-i.numbering) c.loop-i.i (g.met.L.LanguageChildren.fits c.args.node.now)
    (omega (arith, c.loop-i-test.false, c.loop-i.auto.i-end, c.slot_count-i-end.ensures, c.requires.small)) c.loop-i.invariant.numbered in
    λ i. (p.0 i, p.1 i)

-- One source after another.
use Rattle.std.proofs.Common.{◌<◌, ◌∙◌, ◌++◌, ◌∷◌, [], Vec, get_or, length, map, ap, sym, subst, arith}
use Rattle.std.specs.Prelude.{All, option_map}
use Rattle.std.proofs.lemmas.List.{map-append, take_more}
use Rattle.std.proofs.lemmas.List.Elements.{All-push}
use Rattle.slotted_reports.proofs.KeyOrder.{none-some}
use Rattle.slotted_reports.specs.Nodes.{HasKeyOf}
use Rattle.slotted_reports.proofs.nodes.with_keys.Goals.{in-Some+in_ok-push, in_default}
use Rattle.slotted_reports.proofs.nodes.with_keys.Goals as goal

pub loop-i-preserved : goal.loop-i-preserved
loop-i-preserved g c =
    let form = g.L.LanguageChildren.form in
    let v = c.args.nodes.now.filed in
    let xs = c.args.sources.now in
    let i = c.loop-i.i in
    let before = c.loop-i.pairs.items in
    let lt : i < length xs = omega (arith, c.loop-i-test.true, c.loop-i.auto.i-end) in
    elim c.match-node.branch [
      | in-Some+in_ok-push w ↦
          let items = ap (λ (u : Vec _ _). u.items) w.pairs-is ∙ w.in_ok-push.ensures.items in
          let at = sym (ap (option_map (λ p. (form p.0.now, p.1.now))) (sym w.in-Some.is) ∙ c.node.ensures) in
          record {
            sources = ap (map (λ p. p.1)) items ∙ (map-append (λ p. p.1) before _ ∙ (ap (λ ys. ys ++ get_or xs i 0 ∷ []) c.loop-i.invariant.sources ∙ sym (take_more xs i 0 lt)));
            keys = subst (All (HasKeyOf form v)) (sym items) (All-push (HasKeyOf form v) before _ c.loop-i.invariant.keys (w.in-Some.field-0-1.now, at));
          }
      | in_default w ↦
          let filed = c.requires i 0 lt in
          let none = ap (option_map (λ p. (form p.0.now, p.1.now))) (sym w.in_default.is) ∙ c.node.ensures in
          absurd (none-some filed.0 (none ∙ filed.1))
    ]

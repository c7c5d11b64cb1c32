-- One source after another.
use Rattle.std.proofs.Common.{◌<◌, ◌∙◌, ◌++◌, ◌∷◌, [], Vec, get_or, length, map, ap, sym, arith}
use Rattle.std.specs.Prelude.{option_map}
use Rattle.std.proofs.lemmas.List.{map_push, take_more}
use Rattle.slotted_matching.proofs.index.keyed_sources.Goals.{in-Some+in_ok-push, in_default}
use Rattle.slotted_matching.proofs.index.keyed_sources.Goals as goal

pub loop-i-preserved : goal.loop-i-preserved
loop-i-preserved g c =
    let form = g.L.LanguageChildren.form in
    let xs = c.args.sources.now in
    let i = c.loop-i.i in
    let lt : i < length xs = omega (arith, c.loop-i-test.true, c.loop-i.auto.i-end) in
    elim c.match-node.branch [
      | in-Some+in_ok-push w ↦
          ap (λ (u : Vec _ _). map (λ p. p.1) u.items) w.pairs-is
          ∙ (ap (map (λ p. p.1)) w.in_ok-push.ensures.items
          ∙ (map_push (λ p. p.1) c.loop-i.pairs.items _ ∙ (ap (λ ys. ys ++ get_or xs i 0 ∷ []) c.loop-i.invariant ∙ sym (take_more xs i 0 lt))))
      | in_default w ↦
          let filed = c.requires i 0 lt in
          let none = ap (option_map (λ p. (form p.0.now, p.1.now))) (sym w.in_default.is) ∙ c.node.ensures in
          let both = none ∙ filed.1 in
          absurd (cc)
    ]

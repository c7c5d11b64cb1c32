-- Each turn writes a pair; at the end the closing bracket comes.
use lib.Utf8.{encode}
use Rattle.std.proofs.Common.{◌≡◌, ◌∷◌, [], ◌++◌, codes, rules, refl, sym, ap, ◌∙◌}
use Rattle.std.specs.Prelude.{IsOk}
use Rattle.std.proofs.lemmas.Grind.{put_two}
use Rattle.std.proofs.lemmas.List.{drop_all, append-nil}
use Rattle.slotted_slots.specs.Shown.{shown_map, shown_pairs}
use Rattle.slotted_slots.proofs.MapPrinting.{shown_pairs-step}
use Rattle.slotted_slots.proofs.slot_map.showing.SlotMapShow.write_shown.Goals as goal

pub loop-pair-preserved : goal.loop-pair-preserved
unfolding encode
loop-pair-preserved g c = (
  (44 ∷ 32 ∷ [], (refl, refl)),
  λ plain.
      let so_far = c.loop-pair.invariant.1 plain in
      let ok : IsOk c.write-in-loop-pair.result = search rules in
      let wrote = c.write-in-loop-pair.ensures.writes so_far.1.plain ok in (
        _,
        put_two g.W.Write.write_str_gives _ _ _ _ _ _ so_far.1 wrote refl,
        shown_pairs-step c.args.table.now _ so_far.0 c.deref-pair-items.result.now c.loop-pair.pair-index c.pair-item.result c.show-key.result c.show-value.result _ c.loop-pair-test.true c.pair-item.is c.show-key.ensures c.show-value.ensures so_far.2,
      ),
)

pub returns : goal.returns
unfolding shown_map
returns g c plain ok =
    let so_far = c.loop-pair.invariant.1 plain in
    let wrote = c.write-2.ensures.writes so_far.1.plain ok in
    let t = c.args.table.now in
    let xs = c.deref-pair-items.result.now in
    let before = c.loop-pair.separator.now in
    let all : so_far.0 ≡ codes "[" ++ shown_pairs t [] xs =
    sym (append-nil so_far.0) ∙ (ap (λ ys. so_far.0 ++ shown_pairs t before ys) (sym (drop_all c.loop-pair.pair-index xs c.loop-pair-test.false)) ∙ so_far.2) in
    let same = ap (λ m. codes "[" ++ shown_pairs t [] m) (c.deref-pair-items.ensures.value ∙ c.self.view_is) in
    put_two g.W.Write.write_str_gives _ _ _ _ _ _ so_far.1 wrote (ap (λ text. text ++ codes "]") (all ∙ same))

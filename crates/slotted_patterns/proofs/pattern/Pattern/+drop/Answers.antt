use Rattle.std.proofs.Common.{◌<◌, rules, is_ok, sym, subst, arith}
use denote.Param.Weighed.{most}
use Rattle.slotted_patterns.proofs.PatternSizes.{depth, below-ENode, left-shallow, last-shallow, sizes-last, Opens, opens-ENode, opens-PVar, opens-Subst}
use Rattle.slotted_patterns.proofs.pattern.Pattern.+drop.Goals as goal
use Rattle.slotted_patterns.proofs.pattern.Pattern.+drop.Goals.{in-ENode, in-PVar-1, in-Subst+in-Err-1, in-Subst+in-Ok-1}

pub drop-children-requires : goal.drop-children-requires
drop-children-requires g t c κs within =
    let less = below-ENode c.loop-self.self c.in-ENode.field-0 c.in-ENode.children c.in-ENode.is in
    let refused = left-shallow c.in-ENode.children.items c.append.new.other.items (is_ok c.append.result) c.append.ensures.other_items in
    let below : most depth c.append.new.other.items < t = omega (arith, less, refused, c.loop-self.invariant.0, c.decreases) in
    (((below, tt), tt), search rules depth 40 fits 50000)

-- the pattern at hand gives way to what stands inside it
pub loop-self-smaller : goal.loop-self-smaller
loop-self-smaller g t c =
    let form = g.L.LanguageChildren.form in
    let p = c.loop-self.self in
    let left = c.loop-self.left.items in
    let opened : Opens form p left c.match-self.left.items = elim c.match-self.branch [
      | in-ENode w ↦ subst (λ v. Opens form p left v.items) (sym w.left-is) (opens-ENode form p w.in-ENode.field-0 w.in-ENode.children left w.append.new.self.items (is_ok w.append.result) w.in-ENode.is w.append.ensures.items)
      | in-PVar-1 w ↦ subst (λ v. Opens form p left v.items) (sym w.left-is) (opens-PVar form p left)
      | in-Subst+in-Err-1 w ↦ subst (λ v. Opens form p left v.items) (sym w.left-is) (opens-Subst form p w.in-Subst.body w.in-Subst.place w.in-Subst.value w.into_inner.result w.into_inner-in-Subst.result w.into_inner-in-Subst-2.result left w.push.new.self.items w.push-in-Subst.new.self.items w.push-in-Subst-2.new.self.items (is_ok w.push.result) (is_ok w.push-in-Subst.result) (is_ok w.push-in-Subst-2.result) w.in-Subst.is w.into_inner.ensures w.into_inner-in-Subst.ensures w.into_inner-in-Subst-2.ensures w.push.ensures.items w.push-in-Subst.ensures.items w.push-in-Subst-2.ensures.items)
      | in-Subst+in-Ok-1 w ↦ subst (λ v. Opens form p left v.items) (sym w.left-is) (opens-Subst form p w.in-Subst.body w.in-Subst.place w.in-Subst.value w.into_inner.result w.into_inner-in-Subst.result w.into_inner-in-Subst-2.result left w.push.new.self.items w.push-in-Subst.new.self.items w.push-in-Subst-2.new.self.items (is_ok w.push.result) (is_ok w.push-in-Subst.result) (is_ok w.push-in-Subst-2.result) w.in-Subst.is w.into_inner.ensures w.into_inner-in-Subst.ensures w.into_inner-in-Subst-2.ensures w.push.ensures.items w.push-in-Subst.ensures.items w.push-in-Subst-2.ensures.items)
    ] in
    omega (arith, opened.smaller, sizes-last form c.match-self.left.items c.pop.new.self.items c.pop.result c.in-Some.next c.pop.ensures.items c.in-Some.is)

pub loop-self-preserved : goal.loop-self-preserved
loop-self-preserved g t c =
    let form = g.L.LanguageChildren.form in
    let p = c.loop-self.self in
    let left = c.loop-self.left.items in
    let opened : Opens form p left c.match-self.left.items = elim c.match-self.branch [
      | in-ENode w ↦ subst (λ v. Opens form p left v.items) (sym w.left-is) (opens-ENode form p w.in-ENode.field-0 w.in-ENode.children left w.append.new.self.items (is_ok w.append.result) w.in-ENode.is w.append.ensures.items)
      | in-PVar-1 w ↦ subst (λ v. Opens form p left v.items) (sym w.left-is) (opens-PVar form p left)
      | in-Subst+in-Err-1 w ↦ subst (λ v. Opens form p left v.items) (sym w.left-is) (opens-Subst form p w.in-Subst.body w.in-Subst.place w.in-Subst.value w.into_inner.result w.into_inner-in-Subst.result w.into_inner-in-Subst-2.result left w.push.new.self.items w.push-in-Subst.new.self.items w.push-in-Subst-2.new.self.items (is_ok w.push.result) (is_ok w.push-in-Subst.result) (is_ok w.push-in-Subst-2.result) w.in-Subst.is w.into_inner.ensures w.into_inner-in-Subst.ensures w.into_inner-in-Subst-2.ensures w.push.ensures.items w.push-in-Subst.ensures.items w.push-in-Subst-2.ensures.items)
      | in-Subst+in-Ok-1 w ↦ subst (λ v. Opens form p left v.items) (sym w.left-is) (opens-Subst form p w.in-Subst.body w.in-Subst.place w.in-Subst.value w.into_inner.result w.into_inner-in-Subst.result w.into_inner-in-Subst-2.result left w.push.new.self.items w.push-in-Subst.new.self.items w.push-in-Subst-2.new.self.items (is_ok w.push.result) (is_ok w.push-in-Subst.result) (is_ok w.push-in-Subst-2.result) w.in-Subst.is w.into_inner.ensures w.into_inner-in-Subst.ensures w.into_inner-in-Subst-2.ensures w.push.ensures.items w.push-in-Subst.ensures.items w.push-in-Subst-2.ensures.items)
    ] in
    last-shallow c.match-self.left.items c.pop.new.self.items c.pop.result c.in-Some.next c.pop.ensures.items c.in-Some.is (depth c.args.self) (opened.shallow (depth c.args.self) c.loop-self.invariant.0 c.loop-self.invariant.1)

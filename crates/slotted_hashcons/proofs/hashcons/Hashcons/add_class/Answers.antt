-- The lists grow one after another: that of the filed nodes last.
use Rattle.std.proofs.Common.{◌∷◌, [], length, ap, sym, subst, length-append, arith}
use Rattle.slotted_hashcons.specs.Over.{FitTogether}
use Rattle.slotted_hashcons.specs.Waiting.{Waiting}
use Rattle.slotted_hashcons.proofs.Together.{fit-list, fit-flag, fit-class}
use Rattle.slotted_hashcons.proofs.hashcons.Hashcons.add_class.Goals as goal

pub invariant_of-self-in_err-add_class-2 : goal.invariant_of-self-in_err-add_class-2
invariant_of-self-in_err-add_class-2 g c =
    let v = c.self.inside.nodes in
    let us = c.self.inside.usages in
    let w = c.self.inside.waiting in
    subst (λ u. FitTogether v c.add_class.new.self u) (sym c.in_err-add_class-2.ensures.unchanged)
    (subst (λ ls. FitTogether v ls w) (sym c.in_ok-add_class.ensures.ok) (fit-list v us w c.self.invariant))

pub invariant_of-self-in_err-add_class-3 : goal.invariant_of-self-in_err-add_class-3
invariant_of-self-in_err-add_class-3 g c =
    let v = c.self.inside.nodes in
    let us = c.self.inside.usages in
    let w = c.self.inside.waiting in
    let lists : FitTogether v c.add_class.new.self w = subst (λ ls. FitTogether v ls w) (sym c.in_ok-add_class.ensures.ok) (fit-list v us w c.self.invariant) in
    subst (λ x. FitTogether x c.add_class.new.self c.add_class-2.new.self) (sym c.in_err-add_class-3.ensures.unchanged)
    (subst (λ u. FitTogether v c.add_class.new.self u) (sym c.in_ok-add_class-2.ensures.ok) (fit-flag v c.add_class.new.self w lists))

pub invariant_of-self-2 : goal.invariant_of-self-2
invariant_of-self-2 g c =
    let v = c.self.inside.nodes in
    let us = c.self.inside.usages in
    let w = c.self.inside.waiting in
    let ls = c.add_class.new.self in
    let u = c.add_class-2.new.self in
    let lists : FitTogether v ls w = subst (λ x. FitTogether v x w) (sym c.in_ok-add_class.ensures.ok) (fit-list v us w c.self.invariant) in
    let flags : FitTogether v ls u = subst (FitTogether v ls) (sym c.in_ok-add_class-2.ensures.ok) (fit-flag v ls w lists) in
    subst (λ x. FitTogether x ls u) (sym c.in_ok-add_class-3.ensures.ok)
    (fit-class v ls u flags
    (omega (arith, c.self.invariant.lists, ap length c.in_ok-add_class.ensures.ok, length-append us ([] ∷ [])))
    (omega (arith, c.self.invariant.flags, ap (λ (x : Waiting). x.count) c.in_ok-add_class-2.ensures.ok)))

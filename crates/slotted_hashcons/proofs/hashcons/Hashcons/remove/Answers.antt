use Rattle.std.proofs.Common.{◌∙◌, ap, sym, subst}
use Rattle.std.specs.Prelude.{slice_get}
use Rattle.slotted_hashcons.specs.FiledRows.{Rows}
use Rattle.slotted_hashcons.specs.Over.{FitTogether}
use Rattle.slotted_hashcons.proofs.Together.{fit-taken, front-within}
use Rattle.slotted_hashcons.proofs.hashcons.Hashcons.remove.Goals as goal

pub unfile-requires : goal.unfile-requires
unfile-requires g c =
    front-within c.self.inside.nodes c.self.inside.usages c.self.inside.waiting c.self.invariant c.args.class
    (ap (λ (s : Rows). slice_get s.waiting 0) c.self.view_is ∙ c.requires)

pub invariant_of-self : goal.invariant_of-self
invariant_of-self g c =
    let u = c.end_turn.new.waiting in
    subst (λ v. FitTogether v c.self.inside.usages u) (sym c.unfile.ensures)
    (fit-taken c.self.inside.nodes c.self.inside.usages c.self.inside.waiting c.self.invariant c.args.class u c.end_turn.ensures.0 c.end_turn.ensures.1)

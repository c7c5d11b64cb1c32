use Rattle.std.proofs.Common.{sym, ◌∙◌, subst}
use Rattle.slotted_proofs.specs.Equations.{to_applied, statement_of, IsWritten}
use Rattle.slotted_proofs.specs.Entries.{statement_at}
use Rattle.slotted_proofs.proofs.Written.{stated, sides_eq-same, same_statement, written_once}
use Rattle.slotted_proofs.proofs.list.ProofList.has_at.Goals as goal

pub returns-then-is_valid : goal.returns-then-is_valid
returns-then-is_valid c =
    let s = statement_at c.args.self.now c.args.p in
    let f = c.equ.result.now in
    let e = c.args.equation.now in
    let told = sides_eq-same f e in (
      λ y. record {
        in_range = c.is_valid.ensures.0 c.if-is_valid.true;
        statement = sym (stated s (to_applied f.l) (to_applied f.r) c.equ.ensures) ∙ same_statement f e (told.0 (sym c.eq.ensures ∙ y));
      },
      λ h. c.eq.ensures ∙ told.1 (written_once (statement_of e) f e (subst (λ t. IsWritten t f) h.statement c.equ.ensures) c.requires),
    )

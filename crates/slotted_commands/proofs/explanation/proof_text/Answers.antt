-- The proof without its last line feed.
use Rattle.std.proofs.Common.{ℕ, List, inr, refl, subst}
use Rattle.std.specs.Prelude.{Err}
use Rattle.std.proofs.lemmas.Result.{err_from_is_err_and}
use Rattle.slotted_explain.specs.Printed.{IsProofText}
use Rattle.slotted_explain.proofs.LastLine.{proof_ends}
use Rattle.slotted_commands.proofs.Explaining.{popped, printing_refused}
use Rattle.slotted_commands.proofs.explanation.proof_text.Goals as goal

pub to_string-requires : goal.to_string-requires
to_string-requires g c = inr c.requires.within

pub returns-in_err-text-clause-err : goal.returns-in_err-text-clause-err
returns-in_err-text-clause-err g c =
    let e = c.in_err-text.ensures in
    let p = err_from_is_err_and c.from_residual.result c.from_residual.ensures.1 in
    rw (p.1, p.2) (printing_refused c.args.graph.now c.to_string.new.graph c.args.proof (Err c.in_err-text.field-0.0) c.in_err-text.field-0.0 refl c.requires.sound e.failed.0 e.full e.only c.to_string.ensures.takes c.to_string.ensures.count)

pub returns-clause-ok : goal.returns-clause-ok
returns-clause-ok g c =
    let graph = c.args.graph.now in
    let written = g.L.Printable.written in
    let text = c.in_ok-text.text in
    let printed = c.in_ok-text.ensures.text in
    record {
      proof = subst (λ (bs : List ℕ). IsProofText written graph c.to_string.new.graph c.args.proof bs) (popped text c.pop.new.self (proof_ends written graph c.to_string.new.graph c.args.proof _ printed) c.pop.ensures.ascii_bytes) printed;
      takes = c.to_string.ensures.takes;
      count = c.to_string.ensures.count;
    }

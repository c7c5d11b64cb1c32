use Rattle.std.proofs.Common.{inr, refl}
use Rattle.std.specs.Prelude.{Err}
use Rattle.std.proofs.lemmas.Bool.{false≢true}
use Rattle.std.proofs.lemmas.Result.{err_from_is_err_and}
use Rattle.slotted_commands.specs.Explained.{explained, printing_ran_out}
use Rattle.slotted_commands.proofs.Explaining.{proves, explanation_refused}
use Rattle.slotted_commands.proofs.explanation.explain_terms.Goals as goal

pub explain_equivalence-requires-clause-left : goal.explain_equivalence-requires-clause-left
explain_equivalence-requires-clause-left g c = inr c.requires.left

pub explain_equivalence-requires-clause-right : goal.explain_equivalence-requires-clause-right
explain_equivalence-requires-clause-right g c = inr c.requires.right

pub returns-in_err-proof : goal.returns-in_err-proof
returns-in_err-proof g c =
    let e = c.in_err-proof.ensures in
    let p = err_from_is_err_and c.from_residual.result c.from_residual.ensures.1 in
    rw (p.1, p.2) (explanation_refused c.args.graph.now c.explain_equivalence.new.self c.args.left.now c.args.right.now e.more e.takes e.adds e.filed e.kept
    g.L.Printable.written (Err c.in_err-proof.field-0.0) c.in_err-proof.field-0.0 refl c.requires.sound e.failed.0 e.not_equal e.full e.fails e.only)

pub proof_text-requires-clause-sound : goal.proof_text-requires-clause-sound
proof_text-requires-clause-sound g c failed = false≢true (c.in_ok-proof.ensures.fails.0 failed).0

pub proof_text-requires-clause-within : goal.proof_text-requires-clause-within
proof_text-requires-clause-within g c = c.in_ok-proof.ensures.explains.in_range

pub returns-in_err-text : goal.returns-in_err-text
returns-in_err-text g c =
    let e = c.in_ok-proof.ensures in
    let p = err_from_is_err_and c.from_residual-in_err-text.result c.from_residual-in_err-text.ensures.1 in
    let found = proves c.args.graph.now c.explain_equivalence.new.self c.args.left.now c.args.right.now e.more e.takes e.adds e.filed e.kept c.in_ok-proof.proof (λ f. false≢true (e.fails.0 f).0) e.explains in
    rw (p.1, p.2) (printing_ran_out c.in_ok-proof.proof c.explain_equivalence.new.self found c.in_err-text.ensures.err)

pub returns : goal.returns
returns g c =
    let e = c.in_ok-proof.ensures in
    let found = proves c.args.graph.now c.explain_equivalence.new.self c.args.left.now c.args.right.now e.more e.takes e.adds e.filed e.kept c.in_ok-proof.proof (λ f. false≢true (e.fails.0 f).0) e.explains in
    explained c.in_ok-proof.proof c.explain_equivalence.new.self found c.in_ok-text.ensures.ok

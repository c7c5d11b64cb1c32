use Rattle.std.specs.Prelude.{IsTrue, string_bytes}
use Rattle.std.proofs.lemmas.Bool.{false≢true}
use Rattle.std.proofs.lemmas.Result.{IfOk-weaker, err_from_is_err_and}
use Rattle.slotted_explain.specs.Printed.{IsProofText}
use Rattle.slotted_commands.proofs.Explaining.{proves}
use Rattle.slotted_commands.proofs.Steps.{sound_graph}
use Rattle.slotted_workspace.specs.Asked.{ExplainsTerms}
use Rattle.slotted_workspace.proofs.Explanations.{explain-refused, explains, extends-explained, extends-printed, print-refused}
use Rattle.slotted_workspace.proofs.Saying.{kept-answered}
use Rattle.std.proofs.Common.{Ok, refl}
use Rattle.slotted_workspace.proofs.explaining.explanation.Goals as goal

pub returns-in_err-proof-clause-err : goal.returns-in_err-proof-clause-err
returns-in_err-proof-clause-err g c =
    let e = c.in_err-proof.ensures in
    let p = err_from_is_err_and c.from_residual.result c.from_residual.ensures.1 in
    rw (p.1, p.2) (explain-refused c.args.graph.now c.explain_equivalence.new.self c.args.left.now.term c.args.right.now.term e.more e.takes e.adds e.filed e.kept
    g.L.Printable.written c.in_err-proof.field-0.0 e.failed e.stays e.not_equal e.full e.fails e.only)

pub returns-in_err-proof-clause-extends : goal.returns-in_err-proof-clause-extends
returns-in_err-proof-clause-extends g c =
    let e = c.in_err-proof.ensures in
    extends-explained c.args.graph.now c.explain_equivalence.new.self c.args.left.now.term c.args.right.now.term e.more e.takes e.adds e.filed e.kept

pub returns-clause-ok : goal.returns-clause-ok
returns-clause-ok g c =
    let graph = c.args.graph.now in
    let between = c.explain_equivalence.new.self in
    let left = c.args.left.now in
    let right = c.args.right.now in
    let e = c.in_ok-proof.ensures in
    let p = c.in_ok-proof.proof in
    let sound : ¬ IsTrue between.failed = λ f. false≢true (e.fails.0 f).0 in
    let found = proves graph between left.term right.term e.more e.takes e.adds e.filed e.kept p sound e.explains in
    IfOk-weaker c.to_string.result (λ s. IsProofText g.L.Printable.written between c.to_string.new.graph p (string_bytes s)) (ExplainsTerms g.L.Printable.written graph c.to_string.new.graph left.term right.term)
    (λ text printed. explains g.L.Printable.written graph between c.to_string.new.graph left right p (sound_graph graph.failed (Ok p) p refl e.failed.1) sound found (kept-answered graph p e.failed c.requires.left) (kept-answered graph p e.failed c.requires.right)
    text c.explain_equivalence.ensures.rests c.to_string.ensures.takes printed) c.to_string.ensures.text

pub returns-clause-err : goal.returns-clause-err
returns-clause-err g c =
    let graph = c.args.graph.now in
    let between = c.explain_equivalence.new.self in
    let left = c.args.left.now in
    let right = c.args.right.now in
    let e = c.in_ok-proof.ensures in
    let p = c.in_ok-proof.proof in
    let sound : ¬ IsTrue between.failed = λ f. false≢true (e.fails.0 f).0 in
    let found = proves graph between left.term right.term e.more e.takes e.adds e.filed e.kept p sound e.explains in
    let out = c.to_string.ensures in
    print-refused g.L.Printable.written graph between c.to_string.new.graph left right p (sound_graph graph.failed (Ok p) p refl e.failed.1) sound found (kept-answered graph p e.failed c.requires.left) (kept-answered graph p e.failed c.requires.right)
    c.to_string.result out.failed.0 out.full out.only out.takes out.count

pub returns-clause-extends : goal.returns-clause-extends
returns-clause-extends g c =
    let e = c.in_ok-proof.ensures in
    extends-printed c.args.graph.now c.explain_equivalence.new.self c.to_string.new.graph
    (extends-explained c.args.graph.now c.explain_equivalence.new.self c.args.left.now.term c.args.right.now.term e.more e.takes e.adds e.filed e.kept) (λ f. false≢true (e.fails.0 f).0) c.to_string.ensures.takes

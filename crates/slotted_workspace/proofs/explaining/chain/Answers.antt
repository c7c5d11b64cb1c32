use Rattle.std.specs.Prelude.{IsTrue}
use Rattle.std.proofs.Common.{Ok, refl}
use Rattle.std.proofs.lemmas.Bool.{false≢true}
use Rattle.std.proofs.lemmas.Result.{err_from_is_err_and}
use Rattle.slotted_lists.proofs.Results.{OnOk-always}
use Rattle.slotted_commands.proofs.Explaining.{proves}
use Rattle.slotted_commands.proofs.Steps.{sound_graph}
use Rattle.slotted_workspace.proofs.Explanations.{chain-not_made, chain-refused, chains, extends-explained, extends-printed}
use Rattle.slotted_workspace.proofs.Saying.{kept-answered}
use Rattle.slotted_workspace.proofs.explaining.chain.Goals as goal

pub returns-in_err-proof-clause-err : goal.returns-in_err-proof-clause-err
returns-in_err-proof-clause-err g c =
    let e = c.in_err-proof.ensures in
    let p = err_from_is_err_and c.from_residual.result c.from_residual.ensures.1 in
    rw (p.1, p.2) (chain-not_made c.args.graph.now c.explain_equivalence.new.self c.args.left.now.term c.args.right.now.term e.more e.takes e.adds e.filed e.kept
    c.in_err-proof.field-0.0 e.failed e.stays e.not_equal e.full e.fails e.only)

pub returns-in_err-proof-clause-extends : goal.returns-in_err-proof-clause-extends
returns-in_err-proof-clause-extends g c =
    let e = c.in_err-proof.ensures in
    extends-explained c.args.graph.now c.explain_equivalence.new.self c.args.left.now.term c.args.right.now.term e.more e.takes e.adds e.filed e.kept

pub returns-clause-ok : goal.returns-clause-ok
returns-clause-ok g c =
    let graph = c.args.graph.now in
    let between = c.explain_equivalence.new.self in
    let left = c.args.left.now in
    let right = c.args.right.now in
    let e = c.in_ok-proof.ensures in
    let p = c.in_ok-proof.proof in
    let sound : ¬ IsTrue between.failed = λ f. false≢true (e.fails.0 f).0 in
    let found = proves graph between left.term right.term e.more e.takes e.adds e.filed e.kept p sound e.explains in
    OnOk-always c.to_flat_string.result
    (chains g.L.Printable.written graph between c.to_flat_string.new.graph left right p (sound_graph graph.failed (Ok p) p refl e.failed.1) sound found (kept-answered graph p e.failed c.requires.left) (kept-answered graph p e.failed c.requires.right)
    c.explain_equivalence.ensures.rests c.to_flat_string.ensures.takes c.to_flat_string.ensures.count)

pub returns-clause-err : goal.returns-clause-err
returns-clause-err g c =
    let graph = c.args.graph.now in
    let between = c.explain_equivalence.new.self in
    let left = c.args.left.now in
    let right = c.args.right.now in
    let e = c.in_ok-proof.ensures in
    let p = c.in_ok-proof.proof in
    let sound : ¬ IsTrue between.failed = λ f. false≢true (e.fails.0 f).0 in
    let found = proves graph between left.term right.term e.more e.takes e.adds e.filed e.kept p sound e.explains in
    let out = c.to_flat_string.ensures in
    chain-refused g.L.Printable.written graph between c.to_flat_string.new.graph left right p (sound_graph graph.failed (Ok p) p refl e.failed.1) sound found (kept-answered graph p e.failed c.requires.left) (kept-answered graph p e.failed c.requires.right)
    c.to_flat_string.result out.failed.0 out.full out.only out.takes out.count

pub returns-clause-extends : goal.returns-clause-extends
returns-clause-extends g c =
    let e = c.in_ok-proof.ensures in
    extends-printed c.args.graph.now c.explain_equivalence.new.self c.to_flat_string.new.graph
    (extends-explained c.args.graph.now c.explain_equivalence.new.self c.args.left.now.term c.args.right.now.term e.more e.takes e.adds e.filed e.kept) (λ f. false≢true (e.fails.0 f).0) c.to_flat_string.ensures.takes

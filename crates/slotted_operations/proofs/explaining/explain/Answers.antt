use Rattle.std.proofs.Common.{rules}
use Rattle.slotted_proofs.specs.Equations.{to_applied}
use Rattle.slotted_operations.proofs.Unions.Explanations.{left-full, explains, runs-large, runs-left, runs-right}
use Rattle.slotted_operations.proofs.Unions.CompressedPaths.{explains-shortened, large-explaining, proves-nodes}
use Rattle.slotted_operations.proofs.explaining.explain.Goals as goal

pub explain_ids-requires-clause-left : goal.explain_ids-requires-clause-left
explain_ids-requires-clause-left g c = left-full c.args.store.now c.args.nodes.now c.requires.good c.add_syn_expr.new.store c.add_syn_expr.new.nodes c.add_syn_expr-2.new.store c.add_syn_expr-2.new.nodes c.args.left.now c.args.right.now c.args.table.now c.add_syn_expr.new.table c.add_syn_expr-2.new.table (to_applied c.in_ok-a.a) (to_applied c.in_ok-b.b) c.in_ok-a.ensures.ok c.in_ok-b.ensures.ok

pub explain_ids-requires-clause-good : goal.explain_ids-requires-clause-good
explain_ids-requires-clause-good g c = c.in_ok-b.ensures.ok.good

pub explain_ids-requires-clause-right : goal.explain_ids-requires-clause-right
explain_ids-requires-clause-right g c = c.in_ok-b.ensures.ok.full

pub compress_paths-requires : goal.compress_paths-requires
compress_paths-requires g c =
    record {
      good = (explains c.args.store.now c.args.nodes.now c.requires.good c.add_syn_expr.new.store c.add_syn_expr.new.nodes c.add_syn_expr-2.new.store c.add_syn_expr-2.new.nodes c.args.left.now c.args.right.now c.args.table.now c.add_syn_expr.new.table c.add_syn_expr-2.new.table (to_applied c.in_ok-a.a) (to_applied c.in_ok-b.b) c.in_ok-a.ensures.ok c.in_ok-b.ensures.ok
          c.explain_ids.new.store c.in_ok-answer.answer c.in_ok-answer.ensures.ok).good.stored;
    }

pub returns-clause-ok : goal.returns-clause-ok
returns-clause-ok g c =
    explains-shortened c.args.store.now c.args.nodes.now c.requires.good c.explain_ids.new.store c.add_syn_expr-2.new.nodes c.args.left.now c.args.right.now c.args.table.now c.add_syn_expr-2.new.table c.in_ok-answer.answer
    (explains c.args.store.now c.args.nodes.now c.requires.good c.add_syn_expr.new.store c.add_syn_expr.new.nodes c.add_syn_expr-2.new.store c.add_syn_expr-2.new.nodes c.args.left.now c.args.right.now c.args.table.now c.add_syn_expr.new.table c.add_syn_expr-2.new.table (to_applied c.in_ok-a.a) (to_applied c.in_ok-b.b) c.in_ok-a.ensures.ok c.in_ok-b.ensures.ok
    c.explain_ids.new.store c.in_ok-answer.answer c.in_ok-answer.ensures.ok)
    c.compress_paths.new.store c.in_ok-compress_paths.ensures.ok

pub returns-in_err-compress_paths-clause-full : goal.returns-in_err-compress_paths-clause-full
returns-in_err-compress_paths-clause-full g c e =
    large-explaining c.args.store.now c.args.nodes.now c.add_syn_expr.new.store c.add_syn_expr.new.nodes c.add_syn_expr-2.new.store c.add_syn_expr-2.new.nodes c.args.left.now c.args.right.now c.args.table.now c.add_syn_expr.new.table c.add_syn_expr-2.new.table (to_applied c.in_ok-a.a) (to_applied c.in_ok-b.b) c.in_ok-a.ensures.ok c.in_ok-b.ensures.ok
    c.explain_ids.new.store (proves-nodes c.add_syn_expr-2.new.store c.explain_ids.new.store (to_applied c.in_ok-a.a) (to_applied c.in_ok-b.b) c.in_ok-answer.answer c.in_ok-answer.ensures.ok)
    (c.in_err-compress_paths.ensures.full (search rules)) c.args.table.now c.add_syn_expr-2.new.table

pub returns-in_err-answer-clause-full : goal.returns-in_err-answer-clause-full
returns-in_err-answer-clause-full g c e =
    runs-large c.args.store.now c.args.nodes.now c.requires.good c.add_syn_expr.new.store c.add_syn_expr.new.nodes c.add_syn_expr-2.new.store c.add_syn_expr-2.new.nodes c.args.left.now c.args.right.now c.args.table.now c.add_syn_expr.new.table c.add_syn_expr-2.new.table (to_applied c.in_ok-a.a) (to_applied c.in_ok-b.b) c.in_ok-a.ensures.ok c.in_ok-b.ensures.ok
    (c.in_err-answer.ensures.alike (search rules)) c.args.table.now c.add_syn_expr-2.new.table (c.in_err-answer.ensures.full (search rules))

pub returns-in_err-answer-clause-more : goal.returns-in_err-answer-clause-more
returns-in_err-answer-clause-more g c s h = c.add_syn_expr-2.ensures.more s (c.add_syn_expr.ensures.more s h)

pub returns-in_err-compress_paths-clause-more : goal.returns-in_err-compress_paths-clause-more
returns-in_err-compress_paths-clause-more g c s h = c.add_syn_expr-2.ensures.more s (c.add_syn_expr.ensures.more s h)

pub returns-in_err-b-clause-more : goal.returns-in_err-b-clause-more
returns-in_err-b-clause-more g c s h = c.add_syn_expr-2.ensures.more s (c.add_syn_expr.ensures.more s h)

pub returns-clause-more : goal.returns-clause-more
returns-clause-more g c s h = c.add_syn_expr-2.ensures.more s (c.add_syn_expr.ensures.more s h)

pub returns-in_err-a-clause-full : goal.returns-in_err-a-clause-full
returns-in_err-a-clause-full g c e =
    runs-left c.args.store.now c.args.left.now c.args.right.now c.args.table.now c.add_syn_expr.new.table (c.in_err-a.ensures.unknown (search rules)) (c.in_err-a.ensures.full (search rules))

pub returns-in_err-b-clause-full : goal.returns-in_err-b-clause-full
returns-in_err-b-clause-full g c e =
    runs-right c.args.store.now c.args.nodes.now c.add_syn_expr.new.store c.add_syn_expr.new.nodes c.args.left.now c.args.right.now c.args.table.now c.add_syn_expr.new.table c.add_syn_expr-2.new.table
    (to_applied c.in_ok-a.a) c.in_ok-a.ensures.ok c.add_syn_expr.ensures.takes (c.in_err-b.ensures.unknown (search rules)) (c.in_err-b.ensures.full (search rules))

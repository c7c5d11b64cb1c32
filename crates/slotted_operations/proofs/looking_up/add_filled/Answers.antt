-- A node over full ids is added as it is.
use Rattle.std.proofs.lemmas.Result.{IfOk-weaker}
use Rattle.slotted_proofs.specs.Equations.{to_applied}
use Rattle.slotted_operations.specs.Good.{Adds, AddsFilled}
use Rattle.slotted_operations.proofs.Additions.NodeFillings.{runs_out-whole, takes-whole, whole-adds}
use Rattle.slotted_operations.proofs.looking_up.add_filled.Goals as goal

pub add_syn-requires-clause-children : goal.add_syn-requires-clause-children
add_syn-requires-clause-children g c = c.has_full_children.ensures.0 c.if-has_full_children.true

pub returns-then-has_full_children-clause-ok : goal.returns-then-has_full_children-clause-ok
returns-then-has_full_children-clause-ok g c =
    let f = g.L.LanguageChildren.form c.args.node.now in
    let k = c.args.store.now in
    let t = c.args.table.now in
    let u = c.add_syn.new.table in
    IfOk-weaker c.add_syn.result (λ a. Adds t u k c.args.nodes.now c.add_syn.new.store c.add_syn.new.nodes f (to_applied a)) (λ a. AddsFilled t u k c.args.nodes.now c.add_syn.new.store c.add_syn.new.nodes f (to_applied a))
    (λ a adds. whole-adds k f (g.met.L.LanguageChildren.fits c.args.node.now) t c.requires.children (c.has_full_children.ensures.0 c.if-has_full_children.true) c.requires.known u
    (λ j d l. c.add_syn.ensures.more _ (c.requires.known j d l)) c.args.nodes.now c.add_syn.new.store c.add_syn.new.nodes (to_applied a) adds) c.add_syn.ensures.ok

pub returns-then-has_full_children-clause-takes : goal.returns-then-has_full_children-clause-takes
returns-then-has_full_children-clause-takes g c = takes-whole c.args.store.now (g.L.LanguageChildren.form c.args.node.now) c.args.table.now c.add_syn.new.table c.add_syn.ensures.takes

pub returns-then-has_full_children-clause-full : goal.returns-then-has_full_children-clause-full
returns-then-has_full_children-clause-full g c is =
    runs_out-whole c.args.store.now (g.L.LanguageChildren.form c.args.node.now) c.args.table.now c.add_syn.new.table (c.add_syn.ensures.full is)

pub returns-then-has_full_children-clause-unknown : goal.returns-then-has_full_children-clause-unknown
returns-then-has_full_children-clause-unknown g c is _ = c.add_syn.ensures.unknown is

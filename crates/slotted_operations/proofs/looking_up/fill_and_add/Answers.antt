use Rattle.std.proofs.Common.{rules, subst}
use Rattle.slotted_proofs.specs.Equations.{to_applied}
use Rattle.slotted_classes.specs.Kept.{nodes_of}
use Rattle.slotted_operations.specs.Causes.{IsUnknownNode}
use Rattle.slotted_operations.proofs.Additions.NodeFillings.{filled-adds, full-enough, makes-both, makes-missing, runs_out-missing, runs_out-node}
use Rattle.slotted_operations.proofs.Graphs.FreshSlots.{fresh_slots-more}
use Rattle.slotted_operations.proofs.looking_up.fill_and_add.Goals as goal

pub fill_node-requires-clause-rows : goal.fill_node-requires-clause-rows
fill_node-requires-clause-rows g c = c.requires.good.rows

pub add_syn-requires-clause-fresh_slots : goal.add_syn-requires-clause-fresh_slots
add_syn-requires-clause-fresh_slots g c = fresh_slots-more c.args.table.now c.fill_node.new.table c.args.store.now c.fill_node.ensures.more c.requires.fresh_slots

pub add_syn-requires-clause-children : goal.add_syn-requires-clause-children
add_syn-requires-clause-children g c = c.in_ok-filled.ensures.children c.requires.known

pub returns-clause-ok : goal.returns-clause-ok
returns-clause-ok g c =
    let form = g.L.LanguageChildren.form in
    let fits = g.met.L.LanguageChildren.fits in
    let e = c.in_ok-filled.ensures in
    filled-adds c.args.store.now (form c.args.node.now) (form c.in_ok-filled.filled) (fits c.args.node.now) c.args.table.now c.fill_node.new.table e.node e.made
    c.requires.known (fits c.in_ok-filled.filled) e.fills e.children e.normal e.same c.add_syn.new.table
    (λ j d l. c.add_syn.ensures.more _ (e.known c.requires.known j d l)) c.args.nodes.now c.add_syn.new.store c.add_syn.new.nodes (to_applied c.in_ok-answer.answer) c.in_ok-answer.ensures.ok

pub returns-clause-takes : goal.returns-clause-takes
returns-clause-takes g c =
    let form = g.L.LanguageChildren.form in
    let e = c.in_ok-filled.ensures in
    makes-both c.args.store.now (form c.args.node.now) (form c.in_ok-filled.filled) (g.met.L.LanguageChildren.fits c.args.node.now) c.args.table.now c.fill_node.new.table e.node e.made c.add_syn.new.table c.add_syn.ensures.takes

pub returns-in_err-answer-clause-takes : goal.returns-in_err-answer-clause-takes
returns-in_err-answer-clause-takes g c =
    let form = g.L.LanguageChildren.form in
    let e = c.in_ok-filled.ensures in
    makes-both c.args.store.now (form c.args.node.now) (form c.in_ok-filled.filled) (g.met.L.LanguageChildren.fits c.args.node.now) c.args.table.now c.fill_node.new.table e.node e.made c.add_syn.new.table c.add_syn.ensures.takes

pub returns-in_err-answer-clause-full : goal.returns-in_err-answer-clause-full
returns-in_err-answer-clause-full g c e =
    let form = g.L.LanguageChildren.form in
    let o = c.in_ok-filled.ensures in
    runs_out-node c.args.store.now (form c.args.node.now) (form c.in_ok-filled.filled) (g.met.L.LanguageChildren.fits c.args.node.now) c.args.table.now c.fill_node.new.table o.node o.made c.add_syn.new.table (c.in_err-answer.ensures.full (search rules))

pub returns-in_err-filled-clause-takes : goal.returns-in_err-filled-clause-takes
returns-in_err-filled-clause-takes g c = makes-missing c.args.store.now (g.L.LanguageChildren.form c.args.node.now) c.args.table.now c.fill_node.new.table c.fill_node.ensures.takes

pub returns-in_err-filled-clause-full : goal.returns-in_err-filled-clause-full
returns-in_err-filled-clause-full g c e = runs_out-missing c.args.store.now (g.L.LanguageChildren.form c.args.node.now) c.args.table.now c.fill_node.new.table (c.in_err-filled.ensures.full (search rules))

pub returns-in_err-answer-clause-unknown : goal.returns-in_err-answer-clause-unknown
returns-in_err-answer-clause-unknown g c e full = subst (IsUnknownNode (nodes_of c.args.store.now)) (c.in_ok-filled.ensures.same full) (c.in_err-answer.ensures.unknown (search rules))

pub returns-in_err-filled-clause-unknown : goal.returns-in_err-filled-clause-unknown
returns-in_err-filled-clause-unknown g c e full =
    absurd (full-enough c.args.store.now (g.L.LanguageChildren.form c.args.node.now) c.args.table.now c.fill_node.new.table (c.in_err-filled.ensures.full (search rules)) c.fill_node.ensures.more full)

use Rattle.std.proofs.Common.{◌≡◌, ◌≤◌, ap, length, refl, sym, rules, arith, inl, inr}
use Rattle.std.proofs.lemmas.Result.{IfOk-weaker}
use Rattle.slotted_lists.proofs.Maps.{length-keys}
use Rattle.slotted_languages.proofs.HandedOn.{memory_only}
use Rattle.slotted_classes.specs.Names.{between}
use Rattle.slotted_proofs.specs.Equations.{to_applied}
use Rattle.slotted_operations.specs.Good.{Makes}
use Rattle.slotted_operations.proofs.LookUps.Rows.{row-names}
use Rattle.slotted_operations.proofs.Additions.NodeAddition.{absent-unknown, fresh_injective, row_makes, class_makes, shape-places}
use Rattle.slotted_operations.proofs.Additions.Tables.{makes-more, makes-none, runs_out-more}
use Rattle.slotted_operations.proofs.adding.made.Goals as goal

pub class_of_row-requires : goal.class_of_row-requires
class_of_row-requires g c =
    row-names c.args.store.now c.requires.good (g.L.LanguageChildren.form c.args.node.now) (g.met.L.LanguageChildren.fits c.args.node.now)
    (g.L.LanguageChildren.form c.in_ok-shape.shape) c.in_ok-shape.names c.in_ok-shape.ensures.shape
    (c.in-Some.row.now.source.0, c.in-Some.row.now.names) c.in-Some.ensures

pub returns-in-Some-clause-ok : goal.returns-in-Some-clause-ok
returns-in-Some-clause-ok g c =
    let k = c.args.store.now in
    let f = g.L.LanguageChildren.form c.args.node.now in
    let row = c.in-Some.row.now in
    let names = c.in_ok-shape.names in
    IfOk-weaker c.class_of_row.result (λ a. to_applied a ≡ (row.source.0, between row.names names)) (λ a. Makes c.args.table.now c.args.table.now k k f (to_applied a))
    (λ a. row_makes c.args.table.now k c.requires.good c.requires.fresh_slots f (g.met.L.LanguageChildren.fits c.args.node.now)
    (g.L.LanguageChildren.form c.in_ok-shape.shape) names c.in_ok-shape.ensures.shape (row.source.0, row.names) (to_applied a) c.in-Some.ensures) c.class_of_row.ensures.ok

pub make_class-requires-clause-absent : goal.make_class-requires-clause-absent
make_class-requires-clause-absent g c = sym c.in_default.ensures

pub make_class-requires-clause-different : goal.make_class-requires-clause-different
make_class-requires-clause-different g c =
    fresh_injective c.in_ok-slots.slots c.args.table.now.fresh (length c.in_ok-shape.names) c.in_ok-slots.ensures.values

pub returns-clause-ok : goal.returns-clause-ok
returns-clause-ok g c =
    class_makes c.args.table.now c.fresh_names.new.table c.args.store.now c.make_class.new.self c.requires.good c.requires.fresh_slots
    (g.L.LanguageChildren.form c.args.node.now) (g.met.L.LanguageChildren.fits c.args.node.now) c.requires.children
    (c.class_count.result, c.in_ok-slots.m) c.in_ok-slots.slots (g.L.LanguageChildren.form c.in_ok-shape.shape) c.in_ok-shape.names c.in_ok-shape.ensures.shape
    c.in_default.ensures c.in_ok-slots.ensures.keys c.in_ok-slots.ensures.values c.in_ok-slots.ensures.table c.in_ok-make_class.ensures.ok
    (λ i. (c.class_count.ensures i, c.in_ok-slots.ensures.map i))

-- at most one slot for each place of the node

pub returns-in_err-shape-clause-takes : goal.returns-in_err-shape-clause-takes
returns-in_err-shape-clause-takes g c = makes-none (length (g.L.LanguageChildren.form c.args.node.now).names) c.args.table.now

pub returns-in-Some-clause-takes : goal.returns-in-Some-clause-takes
returns-in-Some-clause-takes g c = makes-none (length (g.L.LanguageChildren.form c.args.node.now).names) c.args.table.now

pub returns-in_err-slots-clause-takes : goal.returns-in_err-slots-clause-takes
returns-in_err-slots-clause-takes g c =
    let f = g.L.LanguageChildren.form c.args.node.now in
    let names = c.in_ok-shape.names in
    makes-more (length names) (length f.names) c.args.table.now c.fresh_names.new.table c.fresh_names.ensures.takes
    (shape-places f (g.met.L.LanguageChildren.fits c.args.node.now) (g.L.LanguageChildren.form c.in_ok-shape.shape) names names c.in_ok-shape.ensures.shape refl)

pub returns-in_err-make_class-clause-takes : goal.returns-in_err-make_class-clause-takes
returns-in_err-make_class-clause-takes g c =
    let f = g.L.LanguageChildren.form c.args.node.now in
    let names = c.in_ok-shape.names in
    makes-more (length names) (length f.names) c.args.table.now c.fresh_names.new.table c.fresh_names.ensures.takes
    (shape-places f (g.met.L.LanguageChildren.fits c.args.node.now) (g.L.LanguageChildren.form c.in_ok-shape.shape) names names c.in_ok-shape.ensures.shape refl)

pub returns-clause-takes : goal.returns-clause-takes
returns-clause-takes g c =
    let f = g.L.LanguageChildren.form c.args.node.now in
    let names = c.in_ok-shape.names in
    makes-more (length names) (length f.names) c.args.table.now c.fresh_names.new.table c.fresh_names.ensures.takes
    (shape-places f (g.met.L.LanguageChildren.fits c.args.node.now) (g.L.LanguageChildren.form c.in_ok-shape.shape) names names c.in_ok-shape.ensures.shape refl)

pub returns-in_err-shape-clause-full : goal.returns-in_err-shape-clause-full
returns-in_err-shape-clause-full g c e = inr (c.in_err-shape.ensures.full.0 (search rules))

pub returns-in_err-slots-clause-full : goal.returns-in_err-slots-clause-full
returns-in_err-slots-clause-full g c e =
    let f = g.L.LanguageChildren.form c.args.node.now in
    let names = c.in_ok-shape.names in
    inl (runs_out-more (length names) (length f.names) c.args.table.now c.fresh_names.new.table (c.in_err-slots.ensures.full (search rules))
    (shape-places f (g.met.L.LanguageChildren.fits c.args.node.now) (g.L.LanguageChildren.form c.in_ok-shape.shape) names names c.in_ok-shape.ensures.shape refl))

pub returns-in_err-make_class-clause-full : goal.returns-in_err-make_class-clause-full
returns-in_err-make_class-clause-full g c e =
    let f = g.L.LanguageChildren.form c.args.node.now in
    let names = c.in_ok-shape.names in
    let within : length names ≤ length f.names = shape-places f (g.met.L.LanguageChildren.fits c.args.node.now) (g.L.LanguageChildren.form c.in_ok-shape.shape) names names c.in_ok-shape.ensures.shape refl in
    inr (omega (arith, within, c.in_err-make_class.ensures.full (search rules), ap length c.in_ok-slots.ensures.keys, length-keys c.in_ok-slots.slots, length-keys names))

pub returns-in-Some-clause-full : goal.returns-in-Some-clause-full
returns-in-Some-clause-full g c = memory_only c.class_of_row.result c.class_of_row.ensures.err

-- the node has no class, or it is too large

pub returns-in-Some-clause-unknown : goal.returns-in-Some-clause-unknown
returns-in-Some-clause-unknown g c = memory_only c.class_of_row.result c.class_of_row.ensures.err

pub returns-in_err-shape-clause-unknown : goal.returns-in_err-shape-clause-unknown
returns-in_err-shape-clause-unknown g c e = inr (c.in_err-shape.ensures.full.0 (search rules))

pub returns-in_err-slots-clause-unknown : goal.returns-in_err-slots-clause-unknown
returns-in_err-slots-clause-unknown g c e =
    inl (absent-unknown c.args.store.now c.requires.good (g.L.LanguageChildren.form c.args.node.now) (g.met.L.LanguageChildren.fits c.args.node.now)
    (g.L.LanguageChildren.form c.in_ok-shape.shape) c.in_ok-shape.names c.in_ok-shape.ensures.shape c.in_default.ensures)

pub returns-in_err-make_class-clause-unknown : goal.returns-in_err-make_class-clause-unknown
returns-in_err-make_class-clause-unknown g c e =
    inl (absent-unknown c.args.store.now c.requires.good (g.L.LanguageChildren.form c.args.node.now) (g.met.L.LanguageChildren.fits c.args.node.now)
    (g.L.LanguageChildren.form c.in_ok-shape.shape) c.in_ok-shape.names c.in_ok-shape.ensures.shape c.in_default.ensures)

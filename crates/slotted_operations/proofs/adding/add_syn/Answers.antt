use Rattle.std.proofs.Common.{◌≢◌, arith, length, rules}
use Rattle.slotted_operations.specs.Good.{MakesOne}
use Rattle.slotted_proofs.specs.Equations.{to_applied}
use Rattle.slotted_operations.proofs.Additions.NewClasses.{adds-filed, adds-made, class-made-of, none-known, one-made, rebuild-runs_out, unfiled, unknown-made}
use Rattle.slotted_operations.proofs.Unions.CompressedPaths.{adds-compressed, large-there}
use Rattle.slotted_operations.proofs.adding.add_syn.Goals as goal

pub returns-then-class_count-clause-ok : goal.returns-then-class_count-clause-ok
returns-then-class_count-clause-ok g c =
    adds-made c.args.store.now c.args.nodes.now c.requires.good c.requires.rests c.args.table.now c.made.new.table (g.L.LanguageChildren.form c.args.node.now) (to_applied c.in_ok-answer.answer) c.made.new.store c.in_ok-answer.ensures.ok (omega (arith, c.class_count.ensures, c.class_count-2.ensures, c.if-class_count.true))

pub file_newest-requires : goal.file_newest-requires
file_newest-requires g c =
    let make = c.in_ok-answer.ensures.ok in
    let one : MakesOne c.args.store.now c.made.new.store (g.L.LanguageChildren.form c.args.node.now) =
    one-made c.args.store.now c.args.nodes.now c.requires.good c.requires.rests c.args.table.now c.made.new.table (g.L.LanguageChildren.form c.args.node.now) (to_applied c.in_ok-answer.answer) c.made.new.store make (λ e. c.if-class_count.false (omega (arith, e, c.class_count.ensures, c.class_count-2.ensures))) in
    record { unfiled = unfiled c.args.store.now c.args.nodes.now c.requires.good c.requires.rests c.made.new.store make.good (g.L.LanguageChildren.form c.args.node.now) one }

pub compress_paths-requires : goal.compress_paths-requires
compress_paths-requires g c =
    let make = c.in_ok-answer.ensures.ok in
    let form = g.L.LanguageChildren.form c.args.node.now in
    let k = c.args.store.now in
    let r = c.args.nodes.now in
    let more : length r.filed ≢ length c.made.new.store.classes = λ e. c.if-class_count.false (omega (arith, e, c.class_count.ensures, c.class_count-2.ensures)) in
    let one : MakesOne k c.made.new.store form = one-made k r c.requires.good c.requires.rests c.args.table.now c.made.new.table form (to_applied c.in_ok-answer.answer) c.made.new.store make more in
    record {
      good = (adds-filed k r c.requires.good c.requires.rests c.made.new.store make.good form one c.file_newest.new.store c.file_newest.new.nodes c.in_ok-file_newest.ensures.ok c.args.table.now c.made.new.table (to_applied c.in_ok-answer.answer) make).good.stored;
    }

pub returns-clause-ok : goal.returns-clause-ok
returns-clause-ok g c =
    let make = c.in_ok-answer.ensures.ok in
    let form = g.L.LanguageChildren.form c.args.node.now in
    let k = c.args.store.now in
    let r = c.args.nodes.now in
    let more : length r.filed ≢ length c.made.new.store.classes = λ e. c.if-class_count.false (omega (arith, e, c.class_count.ensures, c.class_count-2.ensures)) in
    let one : MakesOne k c.made.new.store form = one-made k r c.requires.good c.requires.rests c.args.table.now c.made.new.table form (to_applied c.in_ok-answer.answer) c.made.new.store make more in
    adds-compressed c.args.table.now c.made.new.table k r c.requires.good c.requires.rests c.file_newest.new.store c.file_newest.new.nodes form (to_applied c.in_ok-answer.answer)
    (adds-filed k r c.requires.good c.requires.rests c.made.new.store make.good form one c.file_newest.new.store c.file_newest.new.nodes c.in_ok-file_newest.ensures.ok c.args.table.now c.made.new.table (to_applied c.in_ok-answer.answer) make)
    (class-made-of k r c.requires.good c.requires.rests c.made.new.store make.good form one c.file_newest.new.store c.file_newest.new.nodes c.in_ok-file_newest.ensures.ok)
    (none-known k r c.requires.good c.requires.rests c.args.table.now c.made.new.table form (to_applied c.in_ok-answer.answer) c.made.new.store make more)
    c.compress_paths.new.store c.in_ok-compress_paths.ensures.ok

pub returns-in_err-compress_paths-clause-full : goal.returns-in_err-compress_paths-clause-full
returns-in_err-compress_paths-clause-full g c e =
    rebuild-runs_out c.args.table.now c.made.new.table c.args.table.now c.made.new.table c.args.store.now c.made.new.store (g.L.LanguageChildren.form c.args.node.now) (to_applied c.in_ok-answer.answer) c.in_ok-answer.ensures.ok
    (large-there c.made.new.store c.file_newest.new.store c.in_ok-file_newest.ensures.ok.grows.nodes (c.in_err-compress_paths.ensures.full (search rules)))

pub returns-in_err-compress_paths-clause-unknown : goal.returns-in_err-compress_paths-clause-unknown
returns-in_err-compress_paths-clause-unknown g c e =
    unknown-made c.args.store.now c.args.nodes.now c.requires.good c.requires.rests c.args.table.now c.made.new.table (g.L.LanguageChildren.form c.args.node.now) (to_applied c.in_ok-answer.answer) c.made.new.store
    c.in_ok-answer.ensures.ok (λ e. c.if-class_count.false (omega (arith, e, c.class_count.ensures, c.class_count-2.ensures)))

pub returns-in_err-file_newest-clause-full : goal.returns-in_err-file_newest-clause-full
returns-in_err-file_newest-clause-full g c e =
    rebuild-runs_out c.args.table.now c.made.new.table c.args.table.now c.made.new.table c.args.store.now c.made.new.store (g.L.LanguageChildren.form c.args.node.now) (to_applied c.in_ok-answer.answer) c.in_ok-answer.ensures.ok (c.in_err-file_newest.ensures.full (search rules))

pub returns-in_err-file_newest-clause-unknown : goal.returns-in_err-file_newest-clause-unknown
returns-in_err-file_newest-clause-unknown g c e =
    unknown-made c.args.store.now c.args.nodes.now c.requires.good c.requires.rests c.args.table.now c.made.new.table (g.L.LanguageChildren.form c.args.node.now) (to_applied c.in_ok-answer.answer) c.made.new.store
    c.in_ok-answer.ensures.ok (λ e. c.if-class_count.false (omega (arith, e, c.class_count.ensures, c.class_count-2.ensures)))

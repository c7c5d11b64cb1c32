use Rattle.std.proofs.Common.{◌++◌, ◌∙◌, ap, sym, inl, inr}
use Rattle.slotted_slots.specs.Maps.{keys, values}
use Rattle.slotted_slots.proofs.SlotsTaken.{at_most_beside}
use Rattle.slotted_languages.specs.Children.{binders}
use Rattle.slotted_languages.proofs.Counting.{composed_within, runs_out_from}
use Rattle.std.proofs.lemmas.Result.{IfOk-weaker}
use Rattle.slotted_lists.proofs.Maps.{keys-with_values}
use Rattle.slotted_lists.proofs.Results.{IfOk-both}
use Rattle.slotted_theory.specs.FiniteMaps.{filled}
use Rattle.slotted_languages.specs.Shape.{shape}
use Rattle.slotted_languages.proofs.FreeAndBound.{free_is_value, none_meets}
use Rattle.slotted_languages.proofs.Occurrences.{lacks_smaller}
use Rattle.slotted_languages.proofs.PutIn.{renamed_put}
use Rattle.slotted_languages.proofs.Renamings.{has_values, composed_shape}
use Rattle.slotted_languages.proofs.Shapes.{values-shape}
use Rattle.slotted_languages.proofs.TakenNames.{avoided_taken, value_free, value_stands}
use Rattle.slotted_languages.proofs.HandedOn.{handed_memory, handed_short, handed_slots, no_slots, not_large, slots_handed, small_of, takes_nothing}
use Rattle.slotted_languages.proofs.renaming.rename_apart.Goals as goal

pub rename-requires-clause-avoided : goal.rename-requires-clause-avoided
rename-requires-clause-avoided g c = has_values c.in_ok-names.names c.in_ok-avoid.avoid c.in_ok-avoid.ensures.members

pub returns-clause-taken : goal.returns-clause-taken
returns-clause-taken g c =
    let form = g.L.LanguageChildren.form in
    let f = form c.args.node.now in
    let e = c.in_ok-names.ensures.ok ∙ composed_shape f c.args.m.now c.in_ok-numbered.free c.requires (λ i. (c.in_ok-numbered.ensures.shape i).1) in
    IfOk-both c.rename.result _ _ _
    (λ r h k. avoided_taken c.args.table.now c.rename.new.table c.in_ok-avoid.avoid f.names (form r).names
    (λ z p. inl (value_stands f (form r) (filled c.args.m.now) (shape f).1 c.in_ok-names.names z (g.met.L.LanguageChildren.fits r) (values-shape f) e (h (filled c.args.m.now) e).renamed (sym (c.in_ok-avoid.ensures.members z) ∙ p))) k)
    c.rename.ensures.renamed c.rename.ensures.taken

pub returns-clause-stays : goal.returns-clause-stays
returns-clause-stays g c =
    let form = g.L.LanguageChildren.form in
    let f = form c.args.node.now in
    let e = c.in_ok-names.ensures.ok ∙ composed_shape f c.args.m.now c.in_ok-numbered.free c.requires (λ i. (c.in_ok-numbered.ensures.shape i).1) in
    IfOk-weaker c.rename.result _ _
    (λ r h j lt b a.
    let d = h (filled c.args.m.now) e in
    d.kept j lt b (lacks_smaller _ _ (λ p. value_free f (form r) (filled c.args.m.now) (shape f).1 c.in_ok-names.names _ (values-shape f) e d.renamed (sym (c.in_ok-avoid.ensures.members _) ∙ p)) a)) c.rename.ensures.renamed

pub returns-clause-renamed : goal.returns-clause-renamed
returns-clause-renamed g c =
    let f = g.L.LanguageChildren.form c.args.node.now in
    let e = c.in_ok-names.ensures.ok ∙ composed_shape f c.args.m.now c.in_ok-numbered.free c.requires (λ i. (c.in_ok-numbered.ensures.shape i).1) in
    IfOk-weaker c.rename.result _ _ (λ r h. (h (filled c.args.m.now) e).renamed) c.rename.ensures.renamed

pub returns-clause-known : goal.returns-clause-known
returns-clause-known g c =
    let form = g.L.LanguageChildren.form in
    let fits = g.met.L.LanguageChildren.fits in
    let f = form c.args.node.now in
    let m = c.args.m.now in
    let e = c.in_ok-names.ensures.ok ∙ composed_shape f m c.in_ok-numbered.free c.requires (λ i. (c.in_ok-numbered.ensures.shape i).1) in
    IfOk-weaker c.rename.result _ _
    (λ r h. renamed_put c.args.table.now c.rename.new.table m f c.in_ok-avoid.avoid (form r) (fits c.args.node.now) (fits r) c.requires (h (filled m) e))
    c.rename.ensures.renamed

pub returns-clause-checked : goal.returns-clause-checked
returns-clause-checked g c =
    let form = g.L.LanguageChildren.form in
    let fits = g.met.L.LanguageChildren.fits in
    let f = form c.args.node.now in
    let π = filled c.args.m.now in
    let avoid = c.in_ok-avoid.avoid in
    let e = c.in_ok-names.ensures.ok ∙ composed_shape f c.args.m.now c.in_ok-numbered.free c.requires (λ i. (c.in_ok-numbered.ensures.shape i).1) in
    IfOk-weaker c.rename.result _ _
    (λ r h. none_meets c.args.table.now c.rename.new.table π f avoid (form r) (fits c.args.node.now) (fits r) (h π e)
    (λ z p. c.in_ok-avoid.ensures.members z ∙ free_is_value f (form r) π (shape f).1 c.in_ok-names.names (values-shape f) e (h π e).renamed z p))
    c.rename.ensures.renamed

pub rename-requires-clause-free : goal.rename-requires-clause-free
rename-requires-clause-free g c =
    let f = g.L.LanguageChildren.form c.args.node.now in
    ap keys (c.in_ok-names.ensures.ok ∙ composed_shape f c.args.m.now c.in_ok-numbered.free c.requires (λ i. (c.in_ok-numbered.ensures.shape i).1)) ∙ keys-with_values (filled c.args.m.now) (shape f).1

pub returns-clause-count : goal.returns-clause-count
returns-clause-count g c =
    let f = g.L.LanguageChildren.form c.args.node.now in
    let avoid = c.in_ok-avoid.avoid in
    let m = c.args.m.now in
    at_most_beside (binders f) (avoid ++ f.names) (values m ++ f.names) c.args.table.now c.rename.new.table
    (λ z now before h. composed_within f avoid c.in_ok-numbered.free m c.in_ok-names.names c.in_ok-avoid.ensures.members c.in_ok-names.ensures.ok z h) c.rename.ensures.count

pub returns-clause-full : goal.returns-clause-full
returns-clause-full g c is =
    let f = g.L.LanguageChildren.form c.args.node.now in
    let avoid = c.in_ok-avoid.avoid in
    let m = c.args.m.now in
    inr (runs_out_from (binders f) (avoid ++ f.names) (values m ++ f.names) c.args.table.now c.rename.new.table c.rename.ensures.more
    (λ z before h. composed_within f avoid c.in_ok-numbered.free m c.in_ok-names.names c.in_ok-avoid.ensures.members c.in_ok-names.ensures.ok z h) (c.rename.ensures.full is))

pub returns-in_err-numbered-clause-large : goal.returns-in_err-numbered-clause-large
returns-in_err-numbered-clause-large g c large = handed_slots c.from_residual.result c.in_err-numbered.field-0.0 c.from_residual.ensures.1 (c.in_err-numbered.ensures.full.1 large)

pub returns-in_err-numbered-clause-full : goal.returns-in_err-numbered-clause-full
returns-in_err-numbered-clause-full g c is = inl (c.in_err-numbered.ensures.full.0 (slots_handed c.from_residual.result c.in_err-numbered.field-0.0 c.from_residual.ensures.1 is))

pub returns-in_err-numbered-clause-count : goal.returns-in_err-numbered-clause-count
returns-in_err-numbered-clause-count g c = takes_nothing (binders (g.L.LanguageChildren.form c.args.node.now)) (values c.args.m.now ++ (g.L.LanguageChildren.form c.args.node.now).names) c.args.table.now

pub returns-in_err-numbered-clause-only : goal.returns-in_err-numbered-clause-only
returns-in_err-numbered-clause-only g c = handed_short c.from_residual.result c.in_err-numbered.field-0.0 c.from_residual.ensures.1 c.in_err-numbered.ensures.only

pub returns-in_err-names-clause-large : goal.returns-in_err-names-clause-large
returns-in_err-names-clause-large g c large = not_large (c.in_ok-numbered.numbered, c.in_ok-numbered.free) (g.L.LanguageChildren.form c.args.node.now) c.in_ok-numbered.ensures.full large

pub returns-in_err-names-clause-full : goal.returns-in_err-names-clause-full
returns-in_err-names-clause-full g c is = no_slots c.from_residual-in_err-names.result c.in_err-names.field-0.0 c.from_residual-in_err-names.ensures.1 c.in_err-names.ensures.memory is

pub returns-in_err-names-clause-count : goal.returns-in_err-names-clause-count
returns-in_err-names-clause-count g c = takes_nothing (binders (g.L.LanguageChildren.form c.args.node.now)) (values c.args.m.now ++ (g.L.LanguageChildren.form c.args.node.now).names) c.args.table.now

pub returns-in_err-names-clause-only : goal.returns-in_err-names-clause-only
returns-in_err-names-clause-only g c = handed_memory c.from_residual-in_err-names.result c.in_err-names.field-0.0 c.from_residual-in_err-names.ensures.1 c.in_err-names.ensures.memory

pub returns-in_err-avoid-clause-large : goal.returns-in_err-avoid-clause-large
returns-in_err-avoid-clause-large g c large = not_large (c.in_ok-numbered.numbered, c.in_ok-numbered.free) (g.L.LanguageChildren.form c.args.node.now) c.in_ok-numbered.ensures.full large

pub returns-in_err-avoid-clause-full : goal.returns-in_err-avoid-clause-full
returns-in_err-avoid-clause-full g c is = no_slots c.from_residual-in_err-avoid.result c.in_err-avoid.field-0.0 c.from_residual-in_err-avoid.ensures.1 c.in_err-avoid.ensures.memory is

pub returns-in_err-avoid-clause-count : goal.returns-in_err-avoid-clause-count
returns-in_err-avoid-clause-count g c = takes_nothing (binders (g.L.LanguageChildren.form c.args.node.now)) (values c.args.m.now ++ (g.L.LanguageChildren.form c.args.node.now).names) c.args.table.now

pub returns-in_err-avoid-clause-only : goal.returns-in_err-avoid-clause-only
returns-in_err-avoid-clause-only g c = handed_memory c.from_residual-in_err-avoid.result c.in_err-avoid.field-0.0 c.from_residual-in_err-avoid.ensures.1 c.in_err-avoid.ensures.memory

pub rename-requires-clause-small : goal.rename-requires-clause-small
rename-requires-clause-small g c = small_of (c.in_ok-numbered.numbered, c.in_ok-numbered.free) (g.L.LanguageChildren.form c.args.node.now) c.in_ok-numbered.ensures.full

pub rename-requires-clause-numbered : goal.rename-requires-clause-numbered
rename-requires-clause-numbered g c = λ i. (c.in_ok-numbered.ensures.shape i).0

pub returns-clause-large : goal.returns-clause-large
returns-clause-large g c large = not_large (c.in_ok-numbered.numbered, c.in_ok-numbered.free) (g.L.LanguageChildren.form c.args.node.now) c.in_ok-numbered.ensures.full large

use Rattle.std.proofs.Common.{◌≡◌, ◌++◌, ◌∙◌, ap, sym, inl, inr, true}
use Rattle.std.specs.Prelude.{ℕ}
use Rattle.slotted_slots.specs.Maps.{is_among, keys}
use Rattle.slotted_languages.specs.NodeTerm.{free_names_of}
use Rattle.slotted_languages.proofs.TakenNames.{avoided_taken, free_stands}
use Rattle.std.proofs.lemmas.Result.{IfOk-weaker}
use Rattle.slotted_lists.proofs.Maps.{with_values-itself}
use Rattle.slotted_theory.specs.FiniteMaps.{with_values}
use Rattle.slotted_theory.specs.Nameless.{DTerm}
use Rattle.slotted_theory.specs.Shape.{free_names}
use Rattle.slotted_languages.specs.Shape.{shape}
use Rattle.slotted_slots.proofs.SlotsTaken.{at_most_beside}
use Rattle.slotted_languages.specs.Children.{binders}
use Rattle.slotted_languages.proofs.Counting.{avoided_stands, runs_out_from}
use Rattle.slotted_languages.proofs.FreeAndBound.{none_meets}
use Rattle.slotted_languages.proofs.PutIn.{same_put}
use Rattle.slotted_languages.proofs.Occurrences.{is_among-firsts, lacks_smaller}
use Rattle.slotted_languages.proofs.Renamings.{among_index, has_values, renamed_same}
use Rattle.slotted_languages.proofs.HandedOn.{handed_memory, handed_short, handed_slots, no_slots, not_large, slots_handed, small_of, takes_nothing}
use Rattle.slotted_languages.proofs.renaming.refresh_binders.Goals as goal

pub rename-requires-clause-avoided : goal.rename-requires-clause-avoided
rename-requires-clause-avoided g c n z e = c.in_ok-add_names.ensures.kept z (has_values c.in_ok-numbered.free c.in_ok-avoid.avoid c.in_ok-avoid.ensures.members n z e)

pub returns-clause-same : goal.returns-clause-same
returns-clause-same g c =
    let f = g.L.LanguageChildren.form c.args.node.now in
    let p : c.in_ok-numbered.free ≡ (shape f).1 = λ i. (c.in_ok-numbered.ensures.shape i).1 in
    let e : c.in_ok-numbered.free ≡ with_values (λ x. x) (shape f).1 = p ∙ with_values-itself (shape f).1 in
    IfOk-weaker c.rename.result _ _ (λ r h. renamed_same c.args.table.now c.rename.new.table f c.add_names.new.set (g.L.LanguageChildren.form r) (h (λ x. x) e)) c.rename.ensures.renamed

pub returns-clause-taken : goal.returns-clause-taken
returns-clause-taken g c =
    let form = g.L.LanguageChildren.form in
    let f = form c.args.node.now in
    let own : (z : ℕ) → is_among z c.in_ok-avoid.avoid ≡ true → is_among z f.names ≡ true =
    λ z p. free_stands f z (g.met.L.LanguageChildren.fits c.args.node.now) (sym (is_among-firsts z (free_names_of f)) ∙ (ap (is_among z) (sym c.in_ok-numbered.ensures.names) ∙ (sym (c.in_ok-avoid.ensures.members z) ∙ p))) in
    IfOk-weaker c.rename.result _ _
    (λ r k. avoided_taken c.args.table.now c.rename.new.table c.add_names.new.set f.names (form r).names (λ z p. inr (elim (c.in_ok-add_names.ensures.within z p) [
      | inl q ↦ own z q
      | inr q ↦ q
    ])) k) c.rename.ensures.taken

pub returns-clause-fresh : goal.returns-clause-fresh
returns-clause-fresh g c =
    let f = g.L.LanguageChildren.form c.args.node.now in
    let p : c.in_ok-numbered.free ≡ (shape f).1 = λ i. (c.in_ok-numbered.ensures.shape i).1 in
    let e : c.in_ok-numbered.free ≡ with_values (λ x. x) (shape f).1 = p ∙ with_values-itself (shape f).1 in
    IfOk-weaker c.rename.result _ _
    (λ r h j lt b. lacks_smaller _ _ (c.in_ok-add_names.ensures.added _) ((h (λ x. x) e).bound j lt b)) c.rename.ensures.renamed

pub returns-clause-unused : goal.returns-clause-unused
returns-clause-unused g c =
    let f = g.L.LanguageChildren.form c.args.node.now in
    let p : c.in_ok-numbered.free ≡ (shape f).1 = λ i. (c.in_ok-numbered.ensures.shape i).1 in
    let e : c.in_ok-numbered.free ≡ with_values (λ x. x) (shape f).1 = p ∙ with_values-itself (shape f).1 in
    IfOk-weaker c.rename.result _ _
    (λ r h j lt b. (h (λ x. x) e).unused j lt b (c.in_ok-add_names.ensures.added _ (among_index f.names j lt))) c.rename.ensures.renamed

pub returns-clause-differ : goal.returns-clause-differ
returns-clause-differ g c =
    let f = g.L.LanguageChildren.form c.args.node.now in
    let p : c.in_ok-numbered.free ≡ (shape f).1 = λ i. (c.in_ok-numbered.ensures.shape i).1 in
    let e : c.in_ok-numbered.free ≡ with_values (λ x. x) (shape f).1 = p ∙ with_values-itself (shape f).1 in
    IfOk-weaker c.rename.result _ _ (λ r h j k lt lk b q. (h (λ x. x) e).differ j k lt lk b q) c.rename.ensures.renamed

pub returns-clause-apart : goal.returns-clause-apart
returns-clause-apart g c =
    let f = g.L.LanguageChildren.form c.args.node.now in
    let p : c.in_ok-numbered.free ≡ (shape f).1 = λ i. (c.in_ok-numbered.ensures.shape i).1 in
    let e : c.in_ok-numbered.free ≡ with_values (λ x. x) (shape f).1 = p ∙ with_values-itself (shape f).1 in
    IfOk-weaker c.rename.result _ _
    (λ r h j k lt lk b u q. (h (λ x. x) e).apart j k lt lk b u (c.in_ok-add_names.ensures.added _ (among_index f.names j lt)) (c.in_ok-add_names.ensures.added _ (among_index f.names k lk)) q) c.rename.ensures.renamed

pub returns-clause-known : goal.returns-clause-known
returns-clause-known g c =
    let form = g.L.LanguageChildren.form in
    let fits = g.met.L.LanguageChildren.fits in
    let f = form c.args.node.now in
    let p : c.in_ok-numbered.free ≡ (shape f).1 = λ i. (c.in_ok-numbered.ensures.shape i).1 in
    let e : c.in_ok-numbered.free ≡ with_values (λ x. x) (shape f).1 = p ∙ with_values-itself (shape f).1 in
    IfOk-weaker c.rename.result _ _
    (λ r h. same_put c.args.table.now c.rename.new.table f c.add_names.new.set (form r) (fits c.args.node.now) (fits r) (h (λ x. x) e))
    c.rename.ensures.renamed

pub returns-clause-checked : goal.returns-clause-checked
returns-clause-checked g c =
    let form = g.L.LanguageChildren.form in
    let fits = g.met.L.LanguageChildren.fits in
    let f = form c.args.node.now in
    let avoid = c.add_names.new.set in
    let p : c.in_ok-numbered.free ≡ (shape f).1 = λ i. (c.in_ok-numbered.ensures.shape i).1 in
    let e : c.in_ok-numbered.free ≡ with_values (λ x. x) (shape f).1 = p ∙ with_values-itself (shape f).1 in
    IfOk-weaker c.rename.result _ _
    (λ r h.
    let d = h (λ x. x) e in
    let same : free_names_of (form r) ≡ free_names_of f = ap (λ (n : DTerm). free_names n.args) (renamed_same c.args.table.now c.rename.new.table f avoid (form r) d) in
    none_meets c.args.table.now c.rename.new.table (λ x. x) f avoid (form r) (fits c.args.node.now) (fits r) d
    (λ z q. c.in_ok-add_names.ensures.added z (free_stands f z (fits c.args.node.now) (ap (is_among z) (sym same) ∙ q)))) c.rename.ensures.renamed

pub rename-requires-clause-free : goal.rename-requires-clause-free
rename-requires-clause-free g c = λ i. keys (c.in_ok-numbered.ensures.shape i).1

pub returns-clause-count : goal.returns-clause-count
returns-clause-count g c =
    let f = g.L.LanguageChildren.form c.args.node.now in
    let avoid = c.add_names.new.set in
    at_most_beside (binders f) (avoid ++ f.names) f.names c.args.table.now c.rename.new.table
    (λ z now before h. avoided_stands f c.in_ok-avoid.avoid avoid c.in_ok-numbered.free (g.met.L.LanguageChildren.fits c.args.node.now) c.in_ok-numbered.ensures.names c.in_ok-avoid.ensures.members c.in_ok-add_names.ensures.within z h) c.rename.ensures.count

pub returns-clause-full : goal.returns-clause-full
returns-clause-full g c is =
    let f = g.L.LanguageChildren.form c.args.node.now in
    let avoid = c.add_names.new.set in
    inr (runs_out_from (binders f) (avoid ++ f.names) f.names c.args.table.now c.rename.new.table c.rename.ensures.more
    (λ z before h. avoided_stands f c.in_ok-avoid.avoid avoid c.in_ok-numbered.free (g.met.L.LanguageChildren.fits c.args.node.now) c.in_ok-numbered.ensures.names c.in_ok-avoid.ensures.members c.in_ok-add_names.ensures.within z h) (c.rename.ensures.full is))

pub returns-in_err-numbered-clause-large : goal.returns-in_err-numbered-clause-large
returns-in_err-numbered-clause-large g c large = handed_slots c.from_residual.result c.in_err-numbered.field-0.0 c.from_residual.ensures.1 (c.in_err-numbered.ensures.full.1 large)

pub returns-in_err-numbered-clause-full : goal.returns-in_err-numbered-clause-full
returns-in_err-numbered-clause-full g c is = inl (c.in_err-numbered.ensures.full.0 (slots_handed c.from_residual.result c.in_err-numbered.field-0.0 c.from_residual.ensures.1 is))

pub returns-in_err-numbered-clause-count : goal.returns-in_err-numbered-clause-count
returns-in_err-numbered-clause-count g c = takes_nothing (binders (g.L.LanguageChildren.form c.args.node.now)) (g.L.LanguageChildren.form c.args.node.now).names c.args.table.now

pub returns-in_err-numbered-clause-only : goal.returns-in_err-numbered-clause-only
returns-in_err-numbered-clause-only g c = handed_short c.from_residual.result c.in_err-numbered.field-0.0 c.from_residual.ensures.1 c.in_err-numbered.ensures.only

pub returns-in_err-avoid-clause-large : goal.returns-in_err-avoid-clause-large
returns-in_err-avoid-clause-large g c large = not_large (c.in_ok-numbered.numbered, c.in_ok-numbered.free) (g.L.LanguageChildren.form c.args.node.now) c.in_ok-numbered.ensures.full large

pub returns-in_err-avoid-clause-full : goal.returns-in_err-avoid-clause-full
returns-in_err-avoid-clause-full g c is = no_slots c.from_residual-in_err-avoid.result c.in_err-avoid.field-0.0 c.from_residual-in_err-avoid.ensures.1 c.in_err-avoid.ensures.memory is

pub returns-in_err-avoid-clause-count : goal.returns-in_err-avoid-clause-count
returns-in_err-avoid-clause-count g c = takes_nothing (binders (g.L.LanguageChildren.form c.args.node.now)) (g.L.LanguageChildren.form c.args.node.now).names c.args.table.now

pub returns-in_err-avoid-clause-only : goal.returns-in_err-avoid-clause-only
returns-in_err-avoid-clause-only g c = handed_memory c.from_residual-in_err-avoid.result c.in_err-avoid.field-0.0 c.from_residual-in_err-avoid.ensures.1 c.in_err-avoid.ensures.memory

pub returns-in_err-add_names-clause-large : goal.returns-in_err-add_names-clause-large
returns-in_err-add_names-clause-large g c large = not_large (c.in_ok-numbered.numbered, c.in_ok-numbered.free) (g.L.LanguageChildren.form c.args.node.now) c.in_ok-numbered.ensures.full large

pub returns-in_err-add_names-clause-full : goal.returns-in_err-add_names-clause-full
returns-in_err-add_names-clause-full g c is = no_slots c.from_residual-in_err-add_names.result c.in_err-add_names.field-0.0 c.from_residual-in_err-add_names.ensures.1 c.in_err-add_names.ensures.only is

pub returns-in_err-add_names-clause-count : goal.returns-in_err-add_names-clause-count
returns-in_err-add_names-clause-count g c = takes_nothing (binders (g.L.LanguageChildren.form c.args.node.now)) (g.L.LanguageChildren.form c.args.node.now).names c.args.table.now

pub returns-in_err-add_names-clause-only : goal.returns-in_err-add_names-clause-only
returns-in_err-add_names-clause-only g c = handed_memory c.from_residual-in_err-add_names.result c.in_err-add_names.field-0.0 c.from_residual-in_err-add_names.ensures.1 c.in_err-add_names.ensures.only

pub add_names-requires : goal.add_names-requires
add_names-requires g c = record { small = small_of (c.in_ok-numbered.numbered, c.in_ok-numbered.free) (g.L.LanguageChildren.form c.args.node.now) c.in_ok-numbered.ensures.full }

pub rename-requires-clause-small : goal.rename-requires-clause-small
rename-requires-clause-small g c = small_of (c.in_ok-numbered.numbered, c.in_ok-numbered.free) (g.L.LanguageChildren.form c.args.node.now) c.in_ok-numbered.ensures.full

pub rename-requires-clause-numbered : goal.rename-requires-clause-numbered
rename-requires-clause-numbered g c = λ i. (c.in_ok-numbered.ensures.shape i).0

pub returns-clause-large : goal.returns-clause-large
returns-clause-large g c large = not_large (c.in_ok-numbered.numbered, c.in_ok-numbered.free) (g.L.LanguageChildren.form c.args.node.now) c.in_ok-numbered.ensures.full large

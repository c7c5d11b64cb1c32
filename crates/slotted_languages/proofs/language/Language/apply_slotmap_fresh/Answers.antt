-- The map that was filled knows each free slot.
use Rattle.std.proofs.Common.{◌++◌, ◌∙◌, inl, inr, length, rules, subst}
use Rattle.std.proofs.lemmas.Result.{IfOk-weaker}
use Rattle.slotted_lists.proofs.Results.{IfOk-both}
use Rattle.slotted_languages.specs.Fresh.{IsFilled, RunsOut, at_hand}
use Rattle.slotted_languages.specs.NodeTerm.{free_names_of}
use Rattle.slotted_slots.specs.Ascending.{IsAscending}
use Rattle.slotted_slots.specs.Maps.{keys, values}
use Rattle.slotted_slots.specs.Table.{TakesAtMost}
use Rattle.slotted_languages.proofs.Counting.{filled_runs_out, filled_takes, filling_runs_out, filling_takes}
use Rattle.slotted_languages.proofs.TakenNames.{filled_taken}
use Rattle.slotted_languages.proofs.Fills.{knows_each, renamed_fresh}
use Rattle.slotted_languages.proofs.PutIn.{filled_put}
use Rattle.slotted_languages.proofs.HandedOn.{handed_memory, handed_short, handed_slots, no_slots, not_large, slots_handed, small_of, takes_nothing}
use Rattle.slotted_languages.proofs.language.Language.apply_slotmap_fresh.Goals as goal

pub apply_slotmap-requires : goal.apply_slotmap-requires
apply_slotmap-requires g c =
    let f = g.Self.LanguageChildren.form c.args.self.now in
    knows_each c.fill_names.new.names (free_names_of f) (λ x e. c.in_ok-fill_names.ensures.ok.has x (c.in_ok-wanted.ensures.members x ∙ e))

pub returns-clause-taken : goal.returns-clause-taken
returns-clause-taken g c =
    let form = g.Self.LanguageChildren.form in
    let fits = g.met.Self.LanguageChildren.fits in
    let f = form c.args.self.now in
    let t = c.args.table.now in
    let m = c.args.m.now in
    let wanted = c.in_ok-wanted.wanted in
    let names = c.fill_names.new.names in
    let u = c.fill_names.new.table in
    let d : IsFilled t u f.names wanted m names = subst (λ n. IsFilled t u f.names wanted n names) c.in_ok-names.ensures.ok c.in_ok-fill_names.ensures.ok in
    let up : IsAscending (keys names) = subst (λ n. IsAscending (keys n)) c.names.view_is c.names.invariant in
    IfOk-both c.apply_slotmap.result _ _ _
    (λ r e k. filled_taken t c.fill_names.new.table c.apply_slotmap.new.table m names wanted f (form r) (fits c.args.self.now) (fits r) up d c.in_ok-wanted.ensures.members e c.in_ok-fill_names.ensures.taken k)
    c.apply_slotmap.ensures.renamed c.apply_slotmap.ensures.taken

pub returns-clause-renamed : goal.returns-clause-renamed
returns-clause-renamed g c =
    let form = g.Self.LanguageChildren.form in
    let f = form c.args.self.now in
    let t = c.args.table.now in
    let wanted = c.in_ok-wanted.wanted in
    let names = c.fill_names.new.names in
    let u = c.fill_names.new.table in
    let d : IsFilled t u f.names wanted c.args.m.now names = subst (λ m. IsFilled t u f.names wanted m names) c.in_ok-names.ensures.ok c.in_ok-fill_names.ensures.ok in
    IfOk-weaker c.apply_slotmap.result _ _ (λ r e. renamed_fresh t u c.args.m.now names wanted f (form r) d c.in_ok-wanted.ensures.members e) c.apply_slotmap.ensures.renamed

pub returns-clause-known : goal.returns-clause-known
returns-clause-known g c =
    let form = g.Self.LanguageChildren.form in
    let f = form c.args.self.now in
    let t = c.args.table.now in
    let m = c.args.m.now in
    let wanted = c.in_ok-wanted.wanted in
    let names = c.fill_names.new.names in
    let u = c.fill_names.new.table in
    let d : IsFilled t u f.names wanted m names = subst (λ n. IsFilled t u f.names wanted n names) c.in_ok-names.ensures.ok c.in_ok-fill_names.ensures.ok in
    let up : IsAscending (keys names) = subst (λ n. IsAscending (keys n)) c.names.view_is c.names.invariant in
    IfOk-weaker c.apply_slotmap.result _ _
    (λ r put. filled_put t u c.apply_slotmap.new.table f.names wanted m names f (form r) up d c.apply_slotmap.ensures.more put)
    c.apply_slotmap.ensures.known

pub returns-clause-count : goal.returns-clause-count
returns-clause-count g c =
    let form = g.Self.LanguageChildren.form in
    let f = form c.args.self.now in
    let fits = g.met.Self.LanguageChildren.fits c.args.self.now in
    let t = c.args.table.now in
    let u = c.fill_names.new.table in
    let m = c.args.m.now in
    let wanted = c.in_ok-wanted.wanted in
    let taken = subst (λ n. TakesAtMost (length wanted) (at_hand wanted n f) t u) c.in_ok-names.ensures.ok c.fill_names.ensures.count in
    let names = c.fill_names.new.names in
    let d : IsFilled t u f.names wanted m names = subst (λ n. IsFilled t u f.names wanted n names) c.in_ok-names.ensures.ok c.in_ok-fill_names.ensures.ok in
    let up : IsAscending (keys names) = subst (λ n. IsAscending (keys n)) c.names.view_is c.names.invariant in
    filled_takes t u wanted m f fits c.fill_names.ensures.sorted c.in_ok-wanted.ensures.members c.apply_slotmap.new.table names up d taken c.apply_slotmap.ensures.count

pub returns-clause-full : goal.returns-clause-full
returns-clause-full g c is =
    let form = g.Self.LanguageChildren.form in
    let f = form c.args.self.now in
    let fits = g.met.Self.LanguageChildren.fits c.args.self.now in
    let t = c.args.table.now in
    let u = c.fill_names.new.table in
    let m = c.args.m.now in
    let wanted = c.in_ok-wanted.wanted in
    let taken = subst (λ n. TakesAtMost (length wanted) (at_hand wanted n f) t u) c.in_ok-names.ensures.ok c.fill_names.ensures.count in
    let names = c.fill_names.new.names in
    let d : IsFilled t u f.names wanted m names = subst (λ n. IsFilled t u f.names wanted n names) c.in_ok-names.ensures.ok c.in_ok-fill_names.ensures.ok in
    let up : IsAscending (keys names) = subst (λ n. IsAscending (keys n)) c.names.view_is c.names.invariant in
    elim (c.apply_slotmap.ensures.full is) [
      | inl q ↦ inl q
      | inr q ↦ inr (filled_runs_out t u wanted m f fits c.fill_names.ensures.sorted c.in_ok-wanted.ensures.members c.apply_slotmap.new.table names up d taken c.apply_slotmap.ensures.more q)
    ]

pub returns-in_err-fill_names-clause-count : goal.returns-in_err-fill_names-clause-count
returns-in_err-fill_names-clause-count g c =
    let form = g.Self.LanguageChildren.form in
    let f = form c.args.self.now in
    let fits = g.met.Self.LanguageChildren.fits c.args.self.now in
    let t = c.args.table.now in
    let u = c.fill_names.new.table in
    let m = c.args.m.now in
    let wanted = c.in_ok-wanted.wanted in
    let taken = subst (λ n. TakesAtMost (length wanted) (at_hand wanted n f) t u) c.in_ok-names.ensures.ok c.fill_names.ensures.count in
    filling_takes t u wanted m f fits c.fill_names.ensures.sorted c.in_ok-wanted.ensures.members taken

pub returns-in_err-fill_names-clause-full : goal.returns-in_err-fill_names-clause-full
returns-in_err-fill_names-clause-full g c is =
    let form = g.Self.LanguageChildren.form in
    let f = form c.args.self.now in
    let fits = g.met.Self.LanguageChildren.fits c.args.self.now in
    let t = c.args.table.now in
    let u = c.fill_names.new.table in
    let m = c.args.m.now in
    let wanted = c.in_ok-wanted.wanted in
    let last : RunsOut (length wanted) (at_hand wanted c.in_ok-names.names f) t u = search rules in
    let out = subst (λ n. RunsOut (length wanted) (at_hand wanted n f) t u) c.in_ok-names.ensures.ok last in
    inr (filling_runs_out t u wanted m f fits c.fill_names.ensures.sorted c.in_ok-wanted.ensures.members c.fill_names.ensures.more out)

pub returns-in_err-wanted-clause-large : goal.returns-in_err-wanted-clause-large
returns-in_err-wanted-clause-large g c large = handed_slots c.from_residual.result c.in_err-wanted.field-0.0 c.from_residual.ensures.1 (c.in_err-wanted.ensures.full.1 large)

pub returns-in_err-wanted-clause-full : goal.returns-in_err-wanted-clause-full
returns-in_err-wanted-clause-full g c is = inl (c.in_err-wanted.ensures.full.0 (slots_handed c.from_residual.result c.in_err-wanted.field-0.0 c.from_residual.ensures.1 is))

pub returns-in_err-wanted-clause-count : goal.returns-in_err-wanted-clause-count
returns-in_err-wanted-clause-count g c = takes_nothing (length (g.Self.LanguageChildren.form c.args.self.now).names) (values c.args.m.now ++ (g.Self.LanguageChildren.form c.args.self.now).names) c.args.table.now

pub returns-in_err-wanted-clause-only : goal.returns-in_err-wanted-clause-only
returns-in_err-wanted-clause-only g c = handed_short c.from_residual.result c.in_err-wanted.field-0.0 c.from_residual.ensures.1 c.in_err-wanted.ensures.only

pub returns-in_err-names-clause-large : goal.returns-in_err-names-clause-large
returns-in_err-names-clause-large g c large = not_large c.in_ok-wanted.wanted (g.Self.LanguageChildren.form c.args.self.now) c.in_ok-wanted.ensures.full large

pub returns-in_err-names-clause-full : goal.returns-in_err-names-clause-full
returns-in_err-names-clause-full g c is = no_slots c.from_residual-in_err-names.result c.in_err-names.field-0.0 c.from_residual-in_err-names.ensures.1 c.in_err-names.ensures.memory is

pub returns-in_err-names-clause-count : goal.returns-in_err-names-clause-count
returns-in_err-names-clause-count g c = takes_nothing (length (g.Self.LanguageChildren.form c.args.self.now).names) (values c.args.m.now ++ (g.Self.LanguageChildren.form c.args.self.now).names) c.args.table.now

pub returns-in_err-names-clause-only : goal.returns-in_err-names-clause-only
returns-in_err-names-clause-only g c = handed_memory c.from_residual-in_err-names.result c.in_err-names.field-0.0 c.from_residual-in_err-names.ensures.1 c.in_err-names.ensures.memory

pub fill_names-requires : goal.fill_names-requires
fill_names-requires g c = record { small = small_of c.in_ok-wanted.wanted (g.Self.LanguageChildren.form c.args.self.now) c.in_ok-wanted.ensures.full }

pub returns-in_err-fill_names-clause-large : goal.returns-in_err-fill_names-clause-large
returns-in_err-fill_names-clause-large g c large = not_large c.in_ok-wanted.wanted (g.Self.LanguageChildren.form c.args.self.now) c.in_ok-wanted.ensures.full large

pub returns-in_err-fill_names-clause-only : goal.returns-in_err-fill_names-clause-only
returns-in_err-fill_names-clause-only g c = handed_short c.from_residual-in_err-fill_names.result c.in_err-fill_names.field-0.0 c.from_residual-in_err-fill_names.ensures.1 c.in_err-fill_names.ensures.only

pub returns-clause-stays : goal.returns-clause-stays
returns-clause-stays g c = c.apply_slotmap.ensures.stays

pub returns-clause-checked : goal.returns-clause-checked
returns-clause-checked g c = c.apply_slotmap.ensures.checked

pub returns-clause-large : goal.returns-clause-large
returns-clause-large g c large = not_large c.in_ok-wanted.wanted (g.Self.LanguageChildren.form c.args.self.now) c.in_ok-wanted.ensures.full large

pub returns-clause-more : goal.returns-clause-more
returns-clause-more g c z k = c.apply_slotmap.ensures.more z (c.fill_names.ensures.more z k)

pub returns-clause-kept : goal.returns-clause-kept
returns-clause-kept g c = c.apply_slotmap.ensures.kept ∙ c.fill_names.ensures.kept

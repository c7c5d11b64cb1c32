use Rattle.std.proofs.Common.{inl, inr, length}
use Rattle.std.specs.Prelude.{not}
use Rattle.std.proofs.lemmas.Result.{IfOk-weaker}
use Rattle.slotted_slots.specs.Maps.{is_among}
use Rattle.slotted_languages.proofs.FreeAndBound.{none_meets_still}
use Rattle.slotted_languages.proofs.Fills.{refreshed_by}
use Rattle.slotted_languages.proofs.HandedOn.{handed_memory, handed_short, handed_slots, left_of, no_slots, not_large, slots_handed, small_of, takes_nothing}
use Rattle.slotted_languages.proofs.language.Language.refresh_internals.Goals as goal

pub returns-clause-refreshed : goal.returns-clause-refreshed
returns-clause-refreshed g c =
    let form = g.Self.LanguageChildren.form in
    IfOk-weaker c.refresh_names.result _ _
    (λ r h. refreshed_by c.args.table.now c.in_ok-outside.outside (λ x. not (is_among x c.args.public.now)) (form c.args.self.now) (form r) c.in_ok-outside.ensures.ok h) c.refresh_names.ensures.ok

pub returns-clause-checked : goal.returns-clause-checked
returns-clause-checked g c =
    let form = g.Self.LanguageChildren.form in
    IfOk-weaker c.refresh_names.result _ _
    (λ r h. none_meets_still c.args.table.now (λ x. is_among x c.in_ok-outside.outside) (form c.args.self.now) (form r) h) c.refresh_names.ensures.ok

pub returns-in_err-check_count-clause-large : goal.returns-in_err-check_count-clause-large
returns-in_err-check_count-clause-large g c large = handed_slots c.from_residual.result c.in_err-check_count.field-0.0 c.from_residual.ensures.1 (c.in_err-check_count.ensures.full.1 large)

pub returns-in_err-check_count-clause-full : goal.returns-in_err-check_count-clause-full
returns-in_err-check_count-clause-full g c is = inl (c.in_err-check_count.ensures.full.0 (slots_handed c.from_residual.result c.in_err-check_count.field-0.0 c.from_residual.ensures.1 is))

pub returns-in_err-check_count-clause-count : goal.returns-in_err-check_count-clause-count
returns-in_err-check_count-clause-count g c = takes_nothing (length (g.Self.LanguageChildren.form c.args.self.now).names) (g.Self.LanguageChildren.form c.args.self.now).names c.args.table.now

pub returns-in_err-check_count-clause-only : goal.returns-in_err-check_count-clause-only
returns-in_err-check_count-clause-only g c = handed_short c.from_residual.result c.in_err-check_count.field-0.0 c.from_residual.ensures.1 (inr c.in_err-check_count.ensures.only)

pub returns-in_err-outside-clause-large : goal.returns-in_err-outside-clause-large
returns-in_err-outside-clause-large g c large = not_large c.in_ok-check_count.field-0 (g.Self.LanguageChildren.form c.args.self.now) c.in_ok-check_count.ensures.full large

pub returns-in_err-outside-clause-full : goal.returns-in_err-outside-clause-full
returns-in_err-outside-clause-full g c is = no_slots c.from_residual-in_err-outside.result c.in_err-outside.field-0.0 c.from_residual-in_err-outside.ensures.1 c.in_err-outside.ensures.err is

pub returns-in_err-outside-clause-count : goal.returns-in_err-outside-clause-count
returns-in_err-outside-clause-count g c = takes_nothing (length (g.Self.LanguageChildren.form c.args.self.now).names) (g.Self.LanguageChildren.form c.args.self.now).names c.args.table.now

pub returns-in_err-outside-clause-only : goal.returns-in_err-outside-clause-only
returns-in_err-outside-clause-only g c = handed_memory c.from_residual-in_err-outside.result c.in_err-outside.field-0.0 c.from_residual-in_err-outside.ensures.1 c.in_err-outside.ensures.err

pub names_outside-requires : goal.names_outside-requires
names_outside-requires g c = record { small = small_of c.in_ok-check_count.field-0 (g.Self.LanguageChildren.form c.args.self.now) c.in_ok-check_count.ensures.full }

pub refresh_names-requires-clause-small : goal.refresh_names-requires-clause-small
refresh_names-requires-clause-small g c = small_of c.in_ok-check_count.field-0 (g.Self.LanguageChildren.form c.args.self.now) c.in_ok-check_count.ensures.full

pub refresh_names-requires-clause-own : goal.refresh_names-requires-clause-own
refresh_names-requires-clause-own g c z = left_of _ _ _ (c.in_ok-outside.ensures.ok z)

pub returns-clause-large : goal.returns-clause-large
returns-clause-large g c large = not_large c.in_ok-check_count.field-0 (g.Self.LanguageChildren.form c.args.self.now) c.in_ok-check_count.ensures.full large

pub returns-clause-full : goal.returns-clause-full
returns-clause-full g c is = c.refresh_names.ensures.full is

pub returns-clause-known : goal.returns-clause-known
returns-clause-known g c = c.refresh_names.ensures.known

pub returns-clause-taken : goal.returns-clause-taken
returns-clause-taken g c = c.refresh_names.ensures.taken

pub returns-clause-count : goal.returns-clause-count
returns-clause-count g c = c.refresh_names.ensures.count

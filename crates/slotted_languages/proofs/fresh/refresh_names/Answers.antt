use Rattle.std.proofs.Common.{[], inr, length, rules, subst}
use Rattle.std.proofs.lemmas.Result.{IfOk-weaker}
use Rattle.slotted_slots.specs.Ascending.{IsAscending}
use Rattle.slotted_slots.specs.Maps.{keys}
use Rattle.slotted_languages.specs.Fresh.{IsFilled, RunsOut, at_hand}
use Rattle.slotted_languages.proofs.Counting.{refreshed_runs_out, refreshed_takes}
use Rattle.slotted_languages.proofs.Fills.{refreshed}
use Rattle.slotted_languages.proofs.PutIn.{replaced_put}
use Rattle.slotted_languages.proofs.Taken.{replaced_taken}
use Rattle.slotted_languages.proofs.HandedOn.{handed_short, memory_only}
use Rattle.slotted_languages.proofs.fresh.refresh_names.Goals as goal

pub returns-clause-ok : goal.returns-clause-ok
returns-clause-ok g c =
    let form = g.L.LanguageChildren.form in
    let f = form c.args.node.now in
    let wanted = c.args.wanted.now in
    let names = c.fill_names.new.names in
    let t = c.args.table.now in
    let u = c.fill_names.new.table in
    let d : IsFilled t u f.names wanted [] names = subst (λ m. IsFilled t u f.names wanted m names) c.new-names.ensures c.in_ok-fill_names.ensures.ok in
    IfOk-weaker c.replace_names.result _ _ (λ r e. refreshed t u f (form r) wanted names (g.met.L.LanguageChildren.fits c.args.node.now) d e) c.replace_names.ensures.ok

pub returns-clause-taken : goal.returns-clause-taken
returns-clause-taken g c =
    let form = g.L.LanguageChildren.form in
    let f = form c.args.node.now in
    let wanted = c.args.wanted.now in
    let names = c.fill_names.new.names in
    let t = c.args.table.now in
    let u = c.fill_names.new.table in
    let d : IsFilled t u f.names wanted [] names = subst (λ m. IsFilled t u f.names wanted m names) c.new-names.ensures c.in_ok-fill_names.ensures.ok in
    let up : IsAscending (keys names) = subst (λ m. IsAscending (keys m)) c.names.view_is c.names.invariant in
    IfOk-weaker c.replace_names.result _ _ (λ r e. replaced_taken t c.fill_names.new.table f (form r) wanted names up d c.requires.own c.in_ok-fill_names.ensures.taken e) c.replace_names.ensures.ok

pub returns-clause-known : goal.returns-clause-known
returns-clause-known g c =
    let form = g.L.LanguageChildren.form in
    let f = form c.args.node.now in
    let wanted = c.args.wanted.now in
    let names = c.fill_names.new.names in
    let t = c.args.table.now in
    let u = c.fill_names.new.table in
    let d : IsFilled t u f.names wanted [] names = subst (λ m. IsFilled t u f.names wanted m names) c.new-names.ensures c.in_ok-fill_names.ensures.ok in
    IfOk-weaker c.replace_names.result _ _ (λ r e. replaced_put t u wanted names f (form r) d e) c.replace_names.ensures.ok

pub returns-clause-count : goal.returns-clause-count
returns-clause-count g c =
    refreshed_takes c.args.table.now c.fill_names.new.table c.args.wanted.now c.new-names.result (g.L.LanguageChildren.form c.args.node.now) c.new-names.ensures c.fill_names.ensures.sorted c.requires.own c.fill_names.ensures.count

pub returns-in_err-fill_names-clause-count : goal.returns-in_err-fill_names-clause-count
returns-in_err-fill_names-clause-count g c =
    refreshed_takes c.args.table.now c.fill_names.new.table c.args.wanted.now c.new-names.result (g.L.LanguageChildren.form c.args.node.now) c.new-names.ensures c.fill_names.ensures.sorted c.requires.own c.fill_names.ensures.count

pub returns-in_err-fill_names-clause-full : goal.returns-in_err-fill_names-clause-full
returns-in_err-fill_names-clause-full g c is =
    let f = g.L.LanguageChildren.form c.args.node.now in
    let wanted = c.args.wanted.now in
    let out : RunsOut (length wanted) (at_hand wanted c.new-names.result f) c.args.table.now c.fill_names.new.table = search rules in
    inr (refreshed_runs_out c.args.table.now c.fill_names.new.table wanted c.new-names.result f c.new-names.ensures c.fill_names.ensures.sorted c.requires.own c.fill_names.ensures.more out)

pub returns-in_err-fill_names-clause-only : goal.returns-in_err-fill_names-clause-only
returns-in_err-fill_names-clause-only g c = handed_short c.from_residual.result c.in_err-fill_names.field-0.0 c.from_residual.ensures.1 c.in_err-fill_names.ensures.only

pub returns-clause-full : goal.returns-clause-full
returns-clause-full g c is = memory_only c.replace_names.result c.replace_names.ensures.err is

use Rattle.std.specs.Prelude.{◌⊎◌}
use Rattle.std.proofs.Common.{◌≡◌, false, inl, inr, Result, IfErr, subst}
use Rattle.slotted_lists.proofs.Booleans.{unless-true}
use Rattle.slotted_graph.proofs.Extending.{extends-then}
use Rattle.slotted_rules.specs.Applying.{RefusesRules, StopsSearching, apply_refused, search_refused}
use Rattle.slotted_rules.proofs.Answering.{if-err-mapped}
use Rattle.slotted_languages.proofs.HandedOn.{handed_err}
use Rattle.slotted_slots.specs.declared.error.Error.{Error}
use Rattle.slotted_slots.specs.Error.{IsShortage}
use Rattle.slotted_rules.proofs.Lowering.{later-lowers}
use Rattle.slotted_rules.proofs.AppliedRules.{ok-well}
use Rattle.slotted_rules.proofs.applying.search_and_apply.Goals as goal

pub returns-clause-extends : goal.returns-clause-extends
returns-clause-extends g c =
    let f = c.search_all.new.graph in
    let well : f.failed ≡ false = ok-well _ f.failed c.search_all.result c.in_ok-found.found c.in_ok-found.was c.search_all.ensures.fails in
    elim c.apply_all.ensures.extends [
      | inl failed ↦ inl failed
      | inr more ↦ inr (extends-then c.args.graph.now f c.apply_all.new.graph (unless-true f.failed well c.search_all.ensures.extends) more)
    ]

pub returns-clause-lowers : goal.returns-clause-lowers
returns-clause-lowers g c =
    let f = c.search_all.new.graph in
    let well : f.failed ≡ false = ok-well _ f.failed c.search_all.result c.in_ok-found.found c.in_ok-found.was c.search_all.ensures.fails in
    later-lowers g.N.Analysis.codes g.N.Analysis.meaning g.met.N.Analysis.is_merge c.args.graph.now f c.apply_all.new.graph (unless-true f.failed well c.search_all.ensures.extends) (unless-true f.failed well c.search_all.ensures.lowers) c.apply_all.ensures.lowers

pub returns-in_err-found-clause-refused : goal.returns-in_err-found-clause-refused
returns-in_err-found-clause-refused g c =
    let e = c.in_err-found.field-0.0 in
    let searches = g.R.RewriteT.searches in
    let gives_up = g.R.RewriteT.gives_up in
    let applies = g.R.RewriteT.applies in
    let breaks_off = g.R.RewriteT.breaks_off in
    let g0 = c.args.graph.now in
    let h = c.search_all.new.graph in
    let stops : IsShortage e ⊎ StopsSearching searches gives_up c.args.rules.now g0 h e =
    subst (λ (r : Result _ Error). IfErr r (λ y. IsShortage y ⊎ StopsSearching searches gives_up c.args.rules.now g0 h y)) c.in_err-found.was c.search_all.ensures.refused in
    handed_err c.from_residual.result e c.from_residual.ensures.1 (λ y. IsShortage y ⊎ RefusesRules searches gives_up applies breaks_off c.args.rules.now g0 h y)
    (elim stops [
      | inl short ↦ inl short
      | inr s ↦ inr (search_refused s)
    ])

pub returns-clause-refused : goal.returns-clause-refused
returns-clause-refused g c =
    if-err-mapped c.apply_all.result c.apply_all.ensures.refused
    (λ e k. elim k [
      | inl short ↦ inl short
      | inr s ↦ inr (apply_refused c.in_ok-found.found.items c.search_all.new.graph c.in_ok-found.ensures.ok s)
    ])

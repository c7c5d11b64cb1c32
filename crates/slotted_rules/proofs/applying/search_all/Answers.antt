-- Each rule is searched in the graph that the ones before it left.
use Rattle.std.proofs.Common.{◌≡◌, ◌∙◌, ◌⊎◌, ◌+◌, ◌++◌, [], ◌∷◌, false, Result, IfErr, take, take_all, sym, ap, subst, inl, inr}
use Rattle.std.proofs.lemmas.Bool.{false≢true}
use Rattle.std.proofs.lemmas.List.{take_more}
use Rattle.slotted_lists.proofs.Booleans.{unless-true}
use Rattle.slotted_slots.specs.declared.error.Error.{Error}
use Rattle.slotted_slots.specs.declared.error.Error.TheVariants.{Failed}
use Rattle.slotted_slots.specs.Error.{IsShortage}
use Rattle.slotted_languages.proofs.HandedOn.{handed_err}
use Rattle.slotted_model_rules.specs.Runners.{SearchesAll, none_searched}
use Rattle.slotted_graph.specs.Extension.{ExtendsTo}
use Rattle.slotted_graph.proofs.Extending.{extends-itself, extends-then}
use Rattle.slotted_rules.specs.Applying.{AreRefusedBy, CanApplyAll, StopsSearching}
use Rattle.slotted_graph.proofs.Saying.{lowers-itself}
use Rattle.slotted_rules.proofs.Lowering.{later-lowers}
use Rattle.slotted_rules.proofs.AppliedRules.{can-more, handed_and, not-failed, ok-well, refused-one, searches-more, shortage_of, searching-stops}
use Rattle.slotted_rules.proofs.applying.search_all.Goals as goal

pub loop-rule-init : goal.loop-rule-init
loop-rule-init g c = record {
  so_far = record {
    well = c.requires.well;
    extends = extends-itself c.args.graph.now;
    searched = subst (λ xs. SearchesAll g.R.RewriteT.searches [] c.args.graph.now xs c.args.graph.now) (sym c.new-found.ensures.items) none_searched;
    can_apply = subst (λ xs. CanApplyAll g.R.RewriteT.can_apply [] xs c.args.graph.now) (sym c.new-found.ensures.items) tt;
  };
  lowers = lowers-itself g.N.Analysis.codes g.N.Analysis.meaning g.met.N.Analysis.is_merge c.args.graph.now;
}

pub search-requires : goal.search-requires
search-requires g c =
    inr (g.met.R.RewriteT.valid_stays c.rule-item.result c.args.graph.now c.loop-rule.graph c.loop-rule.invariant.so_far.extends
    (subst (λ r. g.R.RewriteT.valid r c.args.graph.now) (sym c.rule-item.is) (c.requires.valid c.loop-rule.rule-index c.rule-item.result c.loop-rule-test.true)))

pub returns-in_err-search-clause-extends : goal.returns-in_err-search-clause-extends
returns-in_err-search-clause-extends g c = elim c.search.ensures.extends [
  | inl failed ↦ inl failed
  | inr more ↦ inr (extends-then c.args.graph.now c.loop-rule.graph c.search.new.graph c.loop-rule.invariant.so_far.extends more)
]

pub returns-in_err-search-clause-fails : goal.returns-in_err-search-clause-fails
returns-in_err-search-clause-fails g c failed =
    handed_and c.from_residual.result c.in_err-search.field-0.0 c.from_residual.ensures.1 IsShortage
    (shortage_of c.search.result c.in_err-search.field-0.0 c.in_err-search.was (not-failed c.search.result c.in_err-search.field-0.0 c.in_err-search.was c.loop-rule.graph.failed c.loop-rule.invariant.so_far.well c.search.ensures.failed) (c.search.ensures.fails failed))

pub returns-in_err-search-clause-err : goal.returns-in_err-search-clause-err
returns-in_err-search-clause-err g c =
    let e = c.in_err-search.field-0.0 in
    handed_err c.from_residual.result e c.from_residual.ensures.1 (λ x. IsShortage x ⊎ AreRefusedBy g.R.RewriteT.refuses c.args.rules.now x)
    (refused-one g.R.RewriteT.refuses c.args.rules.now c.loop-rule.rule-index c.rule-item.result c.loop-rule-test.true c.rule-item.is e
    (not-failed c.search.result e c.in_err-search.was c.loop-rule.graph.failed c.loop-rule.invariant.so_far.well c.search.ensures.failed)
    (subst (λ (r : Result _ Error). IfErr r (λ x. (x ≡ Failed) ⊎ IsShortage x ⊎ g.R.RewriteT.refuses c.rule-item.result x)) c.in_err-search.was c.search.ensures.err))

pub returns-in_err-push_back-clause-extends : goal.returns-in_err-push_back-clause-extends
returns-in_err-push_back-clause-extends g c = elim c.search.ensures.extends [
  | inl failed ↦ inl failed
  | inr more ↦ inr (extends-then c.args.graph.now c.loop-rule.graph c.search.new.graph c.loop-rule.invariant.so_far.extends more)
]

pub loop-rule-preserved : goal.loop-rule-preserved
loop-rule-preserved g c =
    let x = c.in_ok-search.field-0 in
    let i = c.loop-rule.rule-index in
    let h = c.search.new.graph in
    let well : h.failed ≡ false = ok-well _ h.failed c.search.result x c.in_ok-search.was c.search.ensures.fails in
    let more : ExtendsTo c.loop-rule.graph h = unless-true h.failed well c.search.ensures.extends in
    let found = c.in_ok-search.ensures.ok in
    let rules : take (i + 1) c.args.rules.now ≡ take i c.args.rules.now ++ c.rule-item.result ∷ [] = take_more c.args.rules.now i c.rule-item.result c.loop-rule-test.true ∙ ap (λ r. take i c.args.rules.now ++ r ∷ []) (sym c.rule-item.is) in
    record {
      so_far = record {
        well = well;
        extends = extends-then c.args.graph.now c.loop-rule.graph h c.loop-rule.invariant.so_far.extends more;
        searched = subst (λ rs. SearchesAll g.R.RewriteT.searches rs c.args.graph.now c.push_back.new.self.items h) (sym rules)
            (subst (λ fs. SearchesAll g.R.RewriteT.searches (take i c.args.rules.now ++ c.rule-item.result ∷ []) c.args.graph.now fs h) (sym c.in_ok-push_back.ensures.items)
            (searches-more g.R.RewriteT.searches c.loop-rule.invariant.so_far.searched c.rule-item.result x found));
        can_apply = subst (λ rs. CanApplyAll g.R.RewriteT.can_apply rs c.push_back.new.self.items h) (sym rules)
            (subst (λ fs. CanApplyAll g.R.RewriteT.can_apply (take i c.args.rules.now ++ c.rule-item.result ∷ []) fs h) (sym c.in_ok-push_back.ensures.items)
            (can-more g.R.RewriteT.can_apply g.met.R.RewriteT.can_apply_stays (take i c.args.rules.now) c.loop-rule.found.items c.loop-rule.graph h more c.loop-rule.invariant.so_far.can_apply c.rule-item.result x
            (g.met.R.RewriteT.searched_fits c.rule-item.result c.loop-rule.graph h x found)));
      };
      lowers = unless-true h.failed well (later-lowers g.N.Analysis.codes g.N.Analysis.meaning g.met.N.Analysis.is_merge c.args.graph.now c.loop-rule.graph h c.loop-rule.invariant.so_far.extends c.loop-rule.invariant.lowers c.search.ensures.lowers);
    }

pub returns-clause-ok : goal.returns-clause-ok
returns-clause-ok g c = subst (λ rs. SearchesAll g.R.RewriteT.searches rs c.args.graph.now c.loop-rule.found.items c.loop-rule.graph) (take_all c.loop-rule.rule-index c.args.rules.now c.loop-rule-test.false) c.loop-rule.invariant.so_far.searched

pub returns-clause-can : goal.returns-clause-can
returns-clause-can g c = subst (λ rs. CanApplyAll g.R.RewriteT.can_apply rs c.loop-rule.found.items c.loop-rule.graph) (take_all c.loop-rule.rule-index c.args.rules.now c.loop-rule-test.false) c.loop-rule.invariant.so_far.can_apply

pub returns-clause-extends : goal.returns-clause-extends
returns-clause-extends g c = inr c.loop-rule.invariant.so_far.extends

pub returns-clause-fails : goal.returns-clause-fails
returns-clause-fails g c failed = absurd (false≢true (sym c.loop-rule.invariant.so_far.well ∙ failed))

pub returns-in_err-search-clause-lowers : goal.returns-in_err-search-clause-lowers
returns-in_err-search-clause-lowers g c = later-lowers g.N.Analysis.codes g.N.Analysis.meaning g.met.N.Analysis.is_merge c.args.graph.now c.loop-rule.graph c.search.new.graph c.loop-rule.invariant.so_far.extends c.loop-rule.invariant.lowers c.search.ensures.lowers

pub returns-in_err-push_back-clause-lowers : goal.returns-in_err-push_back-clause-lowers
returns-in_err-push_back-clause-lowers g c = later-lowers g.N.Analysis.codes g.N.Analysis.meaning g.met.N.Analysis.is_merge c.args.graph.now c.loop-rule.graph c.search.new.graph c.loop-rule.invariant.so_far.extends c.loop-rule.invariant.lowers c.search.ensures.lowers

pub returns-clause-lowers : goal.returns-clause-lowers
returns-clause-lowers g c = inr c.loop-rule.invariant.lowers

pub returns-in_err-search-clause-refused : goal.returns-in_err-search-clause-refused
returns-in_err-search-clause-refused g c =
    let e = c.in_err-search.field-0.0 in
    let searches = g.R.RewriteT.searches in
    let gives_up = g.R.RewriteT.gives_up in
    let f = c.loop-rule.graph in
    let h = c.search.new.graph in
    handed_err c.from_residual.result e c.from_residual.ensures.1 (λ x. IsShortage x ⊎ StopsSearching searches gives_up c.args.rules.now c.args.graph.now h x)
    (searching-stops searches gives_up c.args.rules.now c.loop-rule.rule-index c.rule-item.result c.loop-rule-test.true c.rule-item.is c.loop-rule.found.items c.args.graph.now f h c.loop-rule.invariant.so_far.searched e
    (not-failed c.search.result e c.in_err-search.was f.failed c.loop-rule.invariant.so_far.well c.search.ensures.failed)
    (subst (λ (r : Result _ Error). IfErr r (λ x. (x ≡ Failed) ⊎ IsShortage x ⊎ gives_up c.rule-item.result f h x)) c.in_err-search.was c.search.ensures.left))

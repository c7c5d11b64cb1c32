use Rattle.std.proofs.Common.{◌≡◌, Result, Ok, IfErr, sym, subst, inl, inr, false}
use Rattle.std.specs.Prelude.{◌⊎◌, IsErrAnd, IsTrue}
use Rattle.slotted_lists.proofs.Booleans.{unless-true}
use Rattle.slotted_slots.specs.declared.error.Error.{Error}
use Rattle.slotted_slots.specs.Error.{IsShortage}
use Rattle.slotted_languages.proofs.HandedOn.{handed_err}
use Rattle.slotted_model_rules.specs.Runners.{SearchesAll}
use Rattle.slotted_operations.specs.Graph.{Graph}
use Rattle.slotted_graph.specs.Extension.{ExtendsTo}
use Rattle.slotted_graph.proofs.Extending.{extends-then}
use Rattle.slotted_rules.specs.Applying.{AreRefusedBy, StopsApplying, StopsSearching, apply_refused, search_refused}
use Rattle.slotted_rules.specs.Counting.{AppliesRule, BreaksRule, RefusesCounted, RefusesRule, SearchesRule}
use Rattle.slotted_rules.specs.WrittenLaws.{valid-later}
use Rattle.slotted_rules.proofs.Lowering.{later-lowers}
use Rattle.slotted_rules.proofs.AppliedRules.{ok-well}
use Rattle.slotted_rules.proofs.counting.search_and_count.Goals as goal

pub returns-in_err-found-clause-err : goal.returns-in_err-found-clause-err
returns-in_err-found-clause-err g c =
    let refuses = RefusesRule g.L.LanguageChildren.form g.C.Cond.refuses in
    handed_err c.from_residual.result c.in_err-found.field-0.0 c.from_residual.ensures.1 (λ x. IsShortage x ⊎ AreRefusedBy refuses c.args.rules.now x)
    (subst (λ (r : Result _ Error). IfErr r (λ x. IsShortage x ⊎ AreRefusedBy refuses c.args.rules.now x)) c.in_err-found.was c.search_all.ensures.err)

-- a search without a refusal extends the graph
searched : {A : Type 0} (g f : Graph) (r : Result A Error) (x : A) → r ≡ Ok x → (IsTrue f.failed → IsErrAnd r IsShortage) → IsTrue f.failed ⊎ ExtendsTo g f → ExtendsTo g f
searched g f r x is fails extends = unless-true f.failed (ok-well IsShortage f.failed r x is fails) extends

pub count_all-requires-clause-valid : goal.count_all-requires-clause-valid
count_all-requires-clause-valid g c k d l = valid-later g.L.LanguageChildren.form c.args.graph.now c.search_all.new.graph _ (searched c.args.graph.now c.search_all.new.graph c.search_all.result c.in_ok-found.found c.in_ok-found.was c.search_all.ensures.fails c.search_all.ensures.extends) (c.requires.valid k d l)

pub returns-in_err-count_all-clause-extends : goal.returns-in_err-count_all-clause-extends
returns-in_err-count_all-clause-extends g c = elim c.count_all.ensures.extends [
  | inl failed ↦ inl failed
  | inr more ↦ inr (extends-then c.args.graph.now c.search_all.new.graph c.count_all.new.graph (searched c.args.graph.now c.search_all.new.graph c.search_all.result c.in_ok-found.found c.in_ok-found.was c.search_all.ensures.fails c.search_all.ensures.extends) more)
]

pub returns-clause-extends : goal.returns-clause-extends
returns-clause-extends g c = elim c.count_all.ensures.extends [
  | inl failed ↦ inl failed
  | inr more ↦ inr (extends-then c.args.graph.now c.search_all.new.graph c.count_all.new.graph (searched c.args.graph.now c.search_all.new.graph c.search_all.result c.in_ok-found.found c.in_ok-found.was c.search_all.ensures.fails c.search_all.ensures.extends) more)
]

pub returns-clause-counts : goal.returns-clause-counts
returns-clause-counts g c =
    let a = c.in_ok-count_all.ensures.ok in
    record {
      searched = c.search_all.new.graph;
      each = a.0;
      by_searches = subst (λ founds. SearchesAll (SearchesRule g.L.LanguageChildren.form) c.args.rules.now c.args.graph.now founds c.search_all.new.graph) (sym a.1) c.in_ok-found.ensures.ok;
      by_applies = a.2;
      told = a.3;
    }

pub returns-in_err-count_all-clause-lowers : goal.returns-in_err-count_all-clause-lowers
returns-in_err-count_all-clause-lowers g c =
    let f = c.search_all.new.graph in
    let well : f.failed ≡ false = ok-well _ f.failed c.search_all.result c.in_ok-found.found c.in_ok-found.was c.search_all.ensures.fails in
    later-lowers g.N.Analysis.codes g.N.Analysis.meaning g.met.N.Analysis.is_merge c.args.graph.now f c.count_all.new.graph (unless-true f.failed well c.search_all.ensures.extends) (unless-true f.failed well c.search_all.ensures.lowers) c.count_all.ensures.lowers

pub returns-clause-lowers : goal.returns-clause-lowers
returns-clause-lowers g c =
    let f = c.search_all.new.graph in
    let well : f.failed ≡ false = ok-well _ f.failed c.search_all.result c.in_ok-found.found c.in_ok-found.was c.search_all.ensures.fails in
    later-lowers g.N.Analysis.codes g.N.Analysis.meaning g.met.N.Analysis.is_merge c.args.graph.now f c.count_all.new.graph (unless-true f.failed well c.search_all.ensures.extends) (unless-true f.failed well c.search_all.ensures.lowers) c.count_all.ensures.lowers

pub returns-in_err-found-clause-refused : goal.returns-in_err-found-clause-refused
returns-in_err-found-clause-refused g c =
    let form = g.L.LanguageChildren.form in
    let e = c.in_err-found.field-0.0 in
    let rules = c.args.rules.now in
    let g0 = c.args.graph.now in
    let h = c.search_all.new.graph in
    let stops : IsShortage e ⊎ StopsSearching (SearchesRule form) (λ _ _ _ _. ⊥) rules g0 h e =
    subst (λ (r : Result _ Error). IfErr r (λ y. IsShortage y ⊎ StopsSearching (SearchesRule form) (λ _ _ _ _. ⊥) rules g0 h y)) c.in_err-found.was c.search_all.ensures.refused in
    handed_err c.from_residual.result e c.from_residual.ensures.1 (λ y. IsShortage y ⊎ RefusesCounted form g.C.Cond.answers g.C.Cond.refuses rules g0 h y)
    (elim stops [
      | inl short ↦ inl short
      | inr s ↦ inr (search_refused s)
    ])

pub returns-in_err-count_all-clause-refused : goal.returns-in_err-count_all-clause-refused
returns-in_err-count_all-clause-refused g c =
    let form = g.L.LanguageChildren.form in
    let applies = AppliesRule form g.C.Cond.answers in
    let breaks = BreaksRule form g.C.Cond.answers g.C.Cond.refuses in
    let e = c.in_err-count_all.field-0.0 in
    let rules = c.args.rules.now in
    let founds = c.in_ok-found.found.items in
    let f = c.search_all.new.graph in
    let h = c.count_all.new.graph in
    let stops : IsShortage e ⊎ StopsApplying applies breaks rules founds f h e =
    subst (λ (r : Result _ Error). IfErr r (λ y. IsShortage y ⊎ StopsApplying applies breaks rules founds f h y)) c.in_err-count_all.was c.count_all.ensures.refused in
    handed_err c.from_residual-in_err-count_all.result e c.from_residual-in_err-count_all.ensures.1 (λ y. IsShortage y ⊎ RefusesCounted form g.C.Cond.answers g.C.Cond.refuses rules c.args.graph.now h y)
    (elim stops [
      | inl short ↦ inl short
      | inr s ↦ inr (apply_refused founds f c.in_ok-found.ensures.ok s)
    ])

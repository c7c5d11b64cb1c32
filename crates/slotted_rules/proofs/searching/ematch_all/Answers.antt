use Rattle.std.proofs.Common.{List, subst, sym}
use Rattle.slotted_model_rules.specs.Conditions.{Values}
use Rattle.slotted_patterns.specs.Tree.{PatternTree}
use Rattle.slotted_patterns.specs.View.{tree_of}
use Rattle.slotted_matching.proofs.Finding.{ok-mapped}
use Rattle.slotted_rules.specs.Rewriting.{IsSearched}
use Rattle.slotted_rules.proofs.searching.ematch_all.Goals as goal

pub returns-clause-found : goal.returns-clause-found
returns-clause-found g c =
    let t : PatternTree = tree_of g.L.LanguageChildren.form c.args.pattern.now in
    let f = c.in_ok-found.ensures in
    ok-mapped c.substitutions.result c.substitutions.ensures.ok
    (λ all same. subst (λ (l : List Values). IsSearched t c.args.graph.now l c.find_matches.new.self) (sym same) (record {
      takes = c.find_matches.ensures.takes;
      finds = f.finds;
      looked_up = f.looked_up;
      each = f.each;
      none = f.none;
      valid = f.valid;
      variables = f.variables;
      fresh = f.fresh;
      count = f.count;
    }))

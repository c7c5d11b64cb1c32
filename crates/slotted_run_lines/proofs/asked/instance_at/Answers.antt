use Rattle.std.proofs.Common.{[], sym, subst, inr, arith}
use Rattle.std.specs.Prelude.{slice_index_or}
use Rattle.std.proofs.lemmas.List.Elements.{Contains-get_or}
use Rattle.slotted_rule_patterns.specs.Values.{values_of}
use Rattle.slotted_graph.specs.Matching.{AreValidValues}
use Rattle.slotted_run_lines.proofs.asked.instance_at.Goals as goal

pub pattern_subst-requires-clause-values : goal.pattern_subst-requires-clause-values
pattern_subst-requires-clause-values c =
    let found = c.in_ok-found.found in
    let s = values_of c.in_ok-subst.subst in
    let first = slice_index_or found 0 [] in
    let valid : AreValidValues c.find_matches.new.self first = c.in_ok-found.ensures.valid first (Contains-get_or found 0 [] (omega (arith, c.len.ensures, c.if-len-eq0.false))) in
    inr (λ k d l. subst (AreValidValues c.find_matches.new.self) (sym c.in_ok-subst.ensures.ok) valid (slice_index_or s k d) (Contains-get_or s k d l))

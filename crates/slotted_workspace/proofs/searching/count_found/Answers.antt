use Rattle.std.proofs.Common.{◌≡◌, arith, Ok, ◌∙◌, inr, length, map, refl, sym}
use Rattle.std.specs.Prelude.{vec_len}
use Rattle.std.proofs.lemmas.List.{length-map}
use Rattle.slotted_patterns.specs.View.{tree_of}
use Rattle.slotted_rule_patterns.specs.Values.{values_of}
use Rattle.slotted_rule_patterns.specs.Variables.{has_substitution}
use Rattle.slotted_graph.proofs.Extending.{extends-read, extends-takes, extends-then}
use Rattle.slotted_languages.proofs.HandedOn.{handed_err}
use Rattle.slotted_commands.proofs.Steps.{sound_graph}
use Rattle.slotted_workspace.specs.Asked.{ReadsPattern, SearchRefused}
use Rattle.slotted_workspace.proofs.Searches.{found-plain, search-refused}
use Rattle.slotted_workspace.proofs.searching.count_found.Goals as goal

pub returns-in_err-pattern-clause-extends : goal.returns-in_err-pattern-clause-extends
returns-in_err-pattern-clause-extends g c = inr (extends-read c.args.graph.now c.parse_pattern.new.self c.in_err-pattern.ensures.reads)

pub returns-in_err-found-clause-err : goal.returns-in_err-found-clause-err
returns-in_err-found-clause-err g c =
    let form = g.L.LanguageChildren.form in
    let read = g.L.LanguageChildren.read in
    let p = c.in_ok-pattern.pattern in
    let first = c.in_ok-pattern.ensures in
    let second = c.in_err-found.ensures in
    let well = sound_graph c.args.graph.now.failed (Ok p) p refl first.failed.1 in
    let e = c.in_err-found.field-0.0 in
    let r = c.from_residual-in_err-found in
    let reads : ReadsPattern form read c.args.graph.now c.parse_pattern.new.self c.args.text.now p = record { well = well; answer = first.answer well; known = first.known; only = first.reads } in
    handed_err r.result e r.ensures.1 (SearchRefused form read c.args.graph.now c.ematch_all.new.graph c.args.text.now)
    (search-refused form read c.args.graph.now c.parse_pattern.new.self c.ematch_all.new.graph c.args.text.now p reads second.takes e second.failed second.subst second.only)

pub returns-in_err-found-clause-extends : goal.returns-in_err-found-clause-extends
returns-in_err-found-clause-extends g c =
    let k = c.parse_pattern.new.self in
    let h = c.ematch_all.new.graph in
    inr (extends-then c.args.graph.now k h (extends-read c.args.graph.now k c.in_ok-pattern.ensures.reads) (extends-takes k h c.in_err-found.ensures.takes))

pub returns-clause-extends : goal.returns-clause-extends
returns-clause-extends g c =
    let k = c.parse_pattern.new.self in
    let h = c.ematch_all.new.graph in
    inr (extends-then c.args.graph.now k h (extends-read c.args.graph.now k c.in_ok-pattern.ensures.reads) (extends-takes k h c.in_ok-found.ensures.takes))

pub returns-clause-ok : goal.returns-clause-ok
returns-clause-ok g c =
    let form = g.L.LanguageChildren.form in
    let p = c.in_ok-pattern.pattern in
    let k = c.parse_pattern.new.self in
    let first = c.in_ok-pattern.ensures in
    let second = c.in_ok-found.ensures in
    let all = c.in_ok-found.found in
    let well = sound_graph c.args.graph.now.failed (Ok p) p refl first.failed.1 in
    let counted : vec_len all ≡ length all.items = omega arith in
    record {
      pattern = p;
      between = k;
      reads = record { well = well; answer = first.answer well; known = first.known; only = first.reads };
      plain = found-plain all k (has_substitution (tree_of form p)) (first.reads.failed ∙ well) second.subst;
      found = map values_of all.items;
      searched = second.found;
      count = c.len.ensures ∙ counted ∙ sym (length-map all.items values_of);
    }

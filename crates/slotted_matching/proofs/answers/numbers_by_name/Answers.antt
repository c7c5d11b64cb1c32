use Rattle.std.proofs.Common.{◌≡◌, ◌<◌, ◌+◌, ℕ, ap, sym, ◌∙◌, arith, subst, length, map, get_or, [], List}
use Rattle.std.specs.Prelude.{String, string_bytes}
use Rattle.std.specs.declared.alloc.Global.{Global}
use Rattle.std.specs.BTreeMap.{insert_entry}
use Rattle.std.proofs.lemmas.List.{length-map, get_or-map}
use Rattle.slotted_matching.specs.Matches.{name_order}
use Rattle.slotted_matching.proofs.NumberedNames.{NumbersBelow, numbers-step, numbers-all, bytes-inserted}
use Rattle.slotted_matching.proofs.answers.numbers_by_name.Goals as goal

pub loop-number-preserved : goal.loop-number-preserved
loop-number-preserved c =
    let vs = map string_bytes c.args.variables.now in
    let i = c.loop-number.number in
    let x = c.index-variables-number.result in
    let l : i < length vs = omega (arith, c.loop-number-test.true, length-map c.args.variables.now string_bytes) in
    let name : string_bytes c.in_ok-name.name ≡ get_or vs i [] =
    c.in_ok-name.ensures.ok ∙ (c.as_str.ensures.value ∙ (ap string_bytes c.index-variables-number.is ∙ sym (get_or-map string_bytes c.args.variables.now i x [] c.loop-number-test.true))) in
    let by_bytes = λ (es : List (String Global × ℕ)). map (λ (e : String Global × ℕ). (string_bytes e.0, e.1)) es in
    record {
      below = subst (NumbersBelow vs (i + 1))
          (sym (ap by_bytes c.in_ok-insert.ensures.entries
          ∙ (bytes-inserted c.loop-number.numbers.entries c.in_ok-name.name i ∙ ap (λ n. insert_entry name_order (by_bytes c.loop-number.numbers.entries) n i) name)))
          (numbers-step vs i (by_bytes c.loop-number.numbers.entries) c.requires l c.loop-number.invariant.below);
      ordered = c.insert.ensures.ordered;
    }

pub returns-clause-ok : goal.returns-clause-ok
returns-clause-ok c =
    let vs = map string_bytes c.args.variables.now in
    let n = length-map c.args.variables.now string_bytes in
    numbers-all vs c.loop-number.numbers.entries c.loop-number.number (omega (arith, c.loop-number-test.false, n)) (omega (arith, c.loop-number.auto.number-end, n)) c.loop-number.invariant.ordered c.loop-number.invariant.below

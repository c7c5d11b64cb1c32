use denote.Ref.{Bor}
use Rattle.std.proofs.Common.{◌≡◌, length, arith}
use Rattle.std.specs.Prelude.{vec_len}
use Rattle.std.proofs.lemmas.List.{length-map}
use Rattle.std.proofs.lemmas.Option.{MatchOption-at_some, MatchOption-at_none}
use Rattle.slotted_symbols.specs.SymbolForms.{symbol_form}
use Rattle.slotted_symbols.specs.declared.symbol_lang.SymbolLang.{SymbolLang}
use Rattle.slotted_signatures.specs.Misused.{IsMisuse}
use Rattle.slotted_signatures.specs.UsedAsDeclared.{IsUsedAsDeclared}
use Rattle.slotted_signatures.proofs.FirstMisuse.{all-right, first-here, right-later}
use Rattle.slotted_signatures.proofs.signatures.Signatures.misuse.Goals as goal

pub returns-in-Some-clause-some : goal.returns-in-Some-clause-some
returns-in-Some-clause-some c =
    let us = c.args.self.now in
    let n = c.index.result.now in
    let count : vec_len c.in_ok-nodes.nodes ≡ length c.in_ok-nodes.nodes.items = omega arith in
    let misuse = MatchOption-at_some (Unit {0}) (IsMisuse us c.loop-number.number (symbol_form n.now)) c.in-Some.misuse c.in-Some.is c.in_ok-misuse.ensures.some in
    first-here us (λ (n : Bor SymbolLang). symbol_form n.now) c.in_ok-nodes.nodes.items c.loop-number.number n (omega (arith, count)) c.index.ensures _ c.in-Some.misuse c.in_ok-nodes.ensures.ok c.loop-number.invariant misuse

pub loop-number-preserved : goal.loop-number-preserved
loop-number-preserved c =
    let us = c.args.self.now in
    let n = c.index.result.now in
    let count : vec_len c.in_ok-nodes.nodes ≡ length c.in_ok-nodes.nodes.items = omega arith in
    let right = MatchOption-at_none (IsUsedAsDeclared us (symbol_form n.now)) (λ _. Unit {0}) c.in_default.is c.in_ok-misuse.ensures.none in
    right-later us (λ (n : Bor SymbolLang). symbol_form n.now) c.in_ok-nodes.nodes.items c.loop-number.number n (omega (arith, count)) c.index.ensures c.loop-number.invariant right

pub returns-clause-none : goal.returns-clause-none
returns-clause-none c =
    let count : vec_len c.in_ok-nodes.nodes ≡ length c.in_ok-nodes.nodes.items = omega arith in
    all-right c.args.self.now c.loop-number.number _ _ c.in_ok-nodes.ensures.ok (omega (arith, count, length-map c.in_ok-nodes.nodes.items (λ (n : Bor SymbolLang). symbol_form n.now))) c.loop-number.invariant

use Rattle.std.proofs.Common.{ℕ, List, subst}
use Rattle.std.specs.Prelude.{string_bytes}
use Rattle.std.proofs.lemmas.Result.{err_from_is_err_and}
use Rattle.slotted_workspace.specs.Asked.{AddsTerm, ChainsTerms}
use Rattle.slotted_arrays.specs.Optimising.{not_added_again, not_chained, not_extracted}
use Rattle.slotted_arrays.proofs.Deriving.{of-both-later}
use Rattle.slotted_arrays.proofs.optimiser.derive.Goals as goal

pub returns-clause-ok : goal.returns-clause-ok
returns-clause-ok g c =
    let of = c.in_ok-best.ensures.ok in
    let s = c.args.workspace.now in
    let extracted = c.extract_by.new.self in
    let both = c.add.new.self in
    let v = c.explain_chain.new.self in
    let text = string_bytes c.in_ok-best.best.text in
    let a = subst (λ (n : List ℕ). AddsTerm g.L.LanguageChildren.read extracted both n c.in_ok-found.found) c.as_str.ensures.value c.in_ok-found.ensures.ok in (
      of.0,
      of.1,
      record {
        extracted = extracted;
        best = of.2;
        only_extracts = c.in_ok-best.ensures.rest;
        both = both;
        found = c.in_ok-found.found;
        adds = a;
        chains = of-both-later g.L.LanguageChildren.read s extracted both c.args.given c.in_ok-found.found text of.0 (ChainsTerms both.graph v.graph) c.in_ok-best.ensures.rest a of.1 c.in_ok-chain.ensures.ok;
        only_chains = c.in_ok-chain.ensures.rest;
      },
    )

pub returns-in_err-best-clause-err : goal.returns-in_err-best-clause-err
returns-in_err-best-clause-err g c =
    let p = err_from_is_err_and c.from_residual.result c.from_residual.ensures.1 in
    rw (p.1, p.2) (not_extracted c.in_err-best.ensures.err)

pub returns-in_err-found-clause-err : goal.returns-in_err-found-clause-err
returns-in_err-found-clause-err g c =
    let p = err_from_is_err_and c.from_residual-in_err-found.result c.from_residual-in_err-found.ensures.1 in
    rw (p.1, p.2) (not_added_again c.extract_by.new.self _ c.in_ok-best.ensures.rest c.in_err-found.ensures.err)

pub returns-in_err-chain-clause-err : goal.returns-in_err-chain-clause-err
returns-in_err-chain-clause-err g c =
    let p = err_from_is_err_and c.from_residual-in_err-chain.result c.from_residual-in_err-chain.ensures.1 in
    rw (p.1, p.2) (not_chained c.extract_by.new.self c.add.new.self _ c.in_ok-found.found c.in_ok-best.ensures.rest c.in_ok-found.ensures.ok c.in_err-chain.ensures.err)

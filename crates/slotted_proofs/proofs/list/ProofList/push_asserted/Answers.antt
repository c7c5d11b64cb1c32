use Rattle.std.proofs.Common.{◌≡◌, ◌++◌, ◌∷◌, ◌+◌, ℕ, List, [], sym, ap, arith, ◌∙◌, subst, length}
use Rattle.slotted_proofs.specs.Equations.{statement_of}
use Rattle.slotted_proofs.specs.Entries.{Proven, proven_of, entries_of, explicit_numbers, IsNew}
use Rattle.slotted_proofs.specs.Stored.{AreWritten, IsListed}
use Rattle.slotted_proofs.proofs.Listed.{shown, shown-more, insert_new, written_more, explicit-asserted}
use Rattle.std.proofs.lemmas.Result.{err_from_is_err_and, IfOk-from_err}
use Rattle.slotted_proofs.proofs.list.ProofList.push_asserted.Goals as goal

pub invariant_of-self-2 : goal.invariant_of-self-2
invariant_of-self-2 c =
    let es = c.self.inside.entries.entries in
    let e = c.args.equation in
    let x : Proven = proven_of e c.args.proof in
    let is_new : IsNew (shown es) (statement_of e) = subst (λ list. IsNew list (statement_of e)) (sym c.self.view_is) c.requires.new in
    let same : c.put.new.map.entries ≡ es ++ (e, c.args.proof) ∷ [] = c.in_ok-put.ensures.ok ∙ insert_new es e c.args.proof is_new in
    let more : shown c.put.new.map.entries ≡ shown es ++ x ∷ [] = ap shown same ∙ shown-more es e c.args.proof in
    let number : c.at-last.result ≡ 0 + length (shown es) = c.at-last.ensures ∙ (c.len.ensures ∙ (ap length (sym c.self.view_is) ∙ omega arith)) in (
      subst AreWritten (sym same) (written_more es e c.args.proof c.self.invariant.0 c.requires.written),
      c.push_reserved.ensures.items
          ∙ (ap (λ (ns : List ℕ). ns ++ c.at-last.result ∷ []) (c.in_ok-reserve.ensures.items ∙ c.self.invariant.1)
          ∙ (ap (λ (n : ℕ). explicit_numbers (entries_of (shown es)) ++ n ∷ []) number ∙ (sym (explicit-asserted 0 (shown es) x c.requires.step) ∙ ap (λ list. explicit_numbers (entries_of list)) (sym more)))),
    )

pub returns-clause-ok : goal.returns-clause-ok
returns-clause-ok c =
    let es = c.self.inside.entries.entries in
    let e = c.args.equation in
    let x : Proven = proven_of e c.args.proof in
    let is_new : IsNew (shown es) (statement_of e) = subst (λ list. IsNew list (statement_of e)) (sym c.self.view_is) c.requires.new in
    let same : c.put.new.map.entries ≡ es ++ (e, c.args.proof) ∷ [] = c.in_ok-put.ensures.ok ∙ insert_new es e c.args.proof is_new in
    let more : shown c.put.new.map.entries ≡ shown es ++ x ∷ [] = ap shown same ∙ shown-more es e c.args.proof in
    more ∙ ap (λ list. list ++ x ∷ []) c.self.view_is

pub invariant_of-self : goal.invariant_of-self
invariant_of-self c =
    let es = c.self.inside.entries.entries in
    subst (λ (ns : List ℕ). AreWritten es × IsListed es ns) (sym c.in_err-reserve.ensures.items) c.self.invariant

pub invariant_of-self-in_err-put : goal.invariant_of-self-in_err-put
invariant_of-self-in_err-put c =
    let ns : List ℕ = c.reserve.new.self.items in
    subst (λ es. AreWritten es × IsListed es ns) (sym c.in_err-put.ensures.err) (c.self.invariant.0, c.in_ok-reserve.ensures.items ∙ c.self.invariant.1)

pub returns-in_err-put-clause-err : goal.returns-in_err-put-clause-err
returns-in_err-put-clause-err c =
    let r = err_from_is_err_and c.from_residual-in_err-put.result c.from_residual-in_err-put.ensures.1 in
    rw r.1 (ap shown c.in_err-put.ensures.err ∙ c.self.view_is)

pub returns-clause-number : goal.returns-clause-number
returns-clause-number c = c.at-last.ensures ∙ c.len.ensures

pub returns-in_err-reserve-clause-ok : goal.returns-in_err-reserve-clause-ok
returns-in_err-reserve-clause-ok c = IfOk-from_err c.from_residual.result _ c.from_residual.ensures.0

pub returns-in_err-reserve-clause-number : goal.returns-in_err-reserve-clause-number
returns-in_err-reserve-clause-number c = IfOk-from_err c.from_residual.result _ c.from_residual.ensures.0

pub returns-in_err-put-clause-ok : goal.returns-in_err-put-clause-ok
returns-in_err-put-clause-ok c = IfOk-from_err c.from_residual-in_err-put.result _ c.from_residual-in_err-put.ensures.0

pub returns-in_err-put-clause-number : goal.returns-in_err-put-clause-number
returns-in_err-put-clause-number c = IfOk-from_err c.from_residual-in_err-put.result _ c.from_residual-in_err-put.ensures.0

pub returns-in_err-put-clause-memory : goal.returns-in_err-put-clause-memory
returns-in_err-put-clause-memory c =
    let r = err_from_is_err_and c.from_residual-in_err-put.result c.from_residual-in_err-put.ensures.1 in
    rw (r.1, r.2) c.in_err-put.ensures.memory

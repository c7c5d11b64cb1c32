use Rattle.std.proofs.Common.{◌≡◌, ◌++◌, ◌∷◌, [], sym, ap, ◌∙◌, subst, inl, refl}
use Rattle.slotted_proofs.specs.Equations.{statement_of}
use Rattle.slotted_proofs.specs.Entries.{Proven, proven_of, entries_of, explicit_numbers, IsNew}
use Rattle.slotted_proofs.specs.Stored.{AreWritten, IsListed}
use Rattle.slotted_proofs.proofs.Listed.{shown, shown-more, insert_new, written_more, explicit-other, entered_last, entered_by}
use Rattle.std.proofs.lemmas.Result.{err_from_is_err_and, IfOk-from_err}
use Rattle.slotted_proofs.proofs.list.ProofList.enter.Goals as goal

pub invariant_of-self-2 : goal.invariant_of-self-2
invariant_of-self-2 c =
    let es = c.self.inside.entries.entries in
    let e = c.args.equation in
    let x : Proven = proven_of e c.args.proof in
    let is_new : IsNew (shown es) (statement_of e) = subst (λ list. IsNew list (statement_of e)) (sym c.self.view_is) c.in_default.ensures.absent in
    let same : c.put.new.map.entries ≡ es ++ (e, c.args.proof) ∷ [] = c.in_ok-put.ensures.ok ∙ insert_new es e c.args.proof is_new in
    let more : shown c.put.new.map.entries ≡ shown es ++ x ∷ [] = ap shown same ∙ shown-more es e c.args.proof in (
      subst AreWritten (sym same) (written_more es e c.args.proof c.self.invariant.0 c.requires),
      c.self.invariant.1 ∙ (sym (explicit-other 0 (shown es) x (sym c.is_explicit.ensures ∙ c.if-is_explicit.false)) ∙ ap (λ list. explicit_numbers (entries_of list)) (sym more)),
    )

pub returns-clause-ok : goal.returns-clause-ok
returns-clause-ok c =
    let es = c.self.inside.entries.entries in
    let e = c.args.equation in
    let x : Proven = proven_of e c.args.proof in
    let is_new : IsNew (shown es) (statement_of e) = subst (λ list. IsNew list (statement_of e)) (sym c.self.view_is) c.in_default.ensures.absent in
    let same : c.put.new.map.entries ≡ es ++ (e, c.args.proof) ∷ [] = c.in_ok-put.ensures.ok ∙ insert_new es e c.args.proof is_new in
    let more : shown c.put.new.map.entries ≡ shown es ++ x ∷ [] = ap shown same ∙ shown-more es e c.args.proof in
    entered_last c.args.self.now (shown c.put.new.map.entries) x c.at-last.result c.in_default.ensures.absent (c.at-last.ensures ∙ c.len.ensures) (more ∙ ap (λ list. list ++ x ∷ []) c.self.view_is)

pub number_of-requires : goal.number_of-requires
number_of-requires c = c.requires

pub returns-in-Some-clause-ok : goal.returns-in-Some-clause-ok
returns-in-Some-clause-ok c = record { stands = c.in-Some.ensures.found; grows = inl (c.in-Some.ensures.found, refl) }

pub push_asserted-requires-clause-written : goal.push_asserted-requires-clause-written
push_asserted-requires-clause-written c = c.requires

pub push_asserted-requires-clause-new : goal.push_asserted-requires-clause-new
push_asserted-requires-clause-new c = c.in_default.ensures.absent

pub push_asserted-requires-clause-step : goal.push_asserted-requires-clause-step
push_asserted-requires-clause-step c = sym c.is_explicit.ensures ∙ c.if-is_explicit.true

pub returns-then-is_explicit-clause-memory : goal.returns-then-is_explicit-clause-memory
returns-then-is_explicit-clause-memory c = c.push_asserted.ensures.memory

pub returns-then-is_explicit-clause-err : goal.returns-then-is_explicit-clause-err
returns-then-is_explicit-clause-err c = c.push_asserted.ensures.err

pub returns-then-is_explicit-clause-ok : goal.returns-then-is_explicit-clause-ok
returns-then-is_explicit-clause-ok c =
    entered_by c.push_asserted.result c.args.self.now c.push_asserted.new.self (proven_of c.args.equation c.args.proof) c.in_default.ensures.absent
    c.push_asserted.ensures.ok c.push_asserted.ensures.number

pub invariant_of-self : goal.invariant_of-self
invariant_of-self c = subst (λ es. AreWritten es × IsListed es c.self.inside.asserted.items) (sym c.in_err-put.ensures.err) c.self.invariant

pub returns-in_err-put-clause-err : goal.returns-in_err-put-clause-err
returns-in_err-put-clause-err c =
    let r = err_from_is_err_and c.from_residual.result c.from_residual.ensures.1 in
    rw r.1 (ap shown c.in_err-put.ensures.err ∙ c.self.view_is)

pub returns-in_err-put-clause-ok : goal.returns-in_err-put-clause-ok
returns-in_err-put-clause-ok c = IfOk-from_err c.from_residual.result _ c.from_residual.ensures.0

pub returns-in_err-put-clause-memory : goal.returns-in_err-put-clause-memory
returns-in_err-put-clause-memory c =
    let r = err_from_is_err_and c.from_residual.result c.from_residual.ensures.1 in
    rw (r.1, r.2) c.in_err-put.ensures.memory

-- What calls of a workspace say of the terms of handles, said of the terms of their texts.
use Rattle.std.proofs.Common.{◌≡◌, ◌∙◌, ℕ, List, ap, refl, subst, sym}
use Rattle.std.specs.Prelude.{Option, Some}
use Rattle.slotted_lists.proofs.Options.{Some-same}
use Rattle.slotted_slots.specs.declared.error.Error.{Error}
use Rattle.slotted_slots.specs.Syntax.{Element}
use Rattle.slotted_theory.specs.Term.{Term}
use Rattle.slotted_nodes.specs.Form.{Form}
use Rattle.slotted_workspace.specs.Asked.{AddsTerm, ChangesGraph, OfBoth, OfOne, RefusesOne}
use Rattle.slotted_workspace.specs.Spaces.{Space, term_at}
use Rattle.slotted_workspace.specs.declared.error.WorkspaceError.{WorkspaceError}
use Rattle.slotted_workspace.specs.declared.error.WorkspaceError.TheVariants.{UnknownHandle}
use Rattle.slotted_workspace.specs.declared.error.WorkspaceError.TheVariants as refused
use Rattle.slotted_workspace.specs.declared.handle.Handle.{Handle}
use Rattle.slotted_workspace.proofs.Handles.{stands-changed, stands-later}

-- what is said of a handle's term is said of the term that it is known to stand for
pub of-term : (s : Space) (h : Handle) (t : Term) (P : Term → Type 0) → term_at s h ≡ Some t → OfOne s h P → P t
of-term s h t P stands of = subst P (Some-same of.0 t (sym of.1 ∙ stands)) of.2

-- after another term was added and the graph has changed, both handles stand for their terms
pub of-both-later : (read : List Element → Option Form) (s extracted both : Space) (given found : Handle) (text : List ℕ) (t : Term) (P : Term → Term → Type 0) → ChangesGraph s extracted → (a : AddsTerm read extracted both text found) →
    term_at s given ≡ Some t → OfBoth both given found P → P t a.term
of-both-later read s extracted both given found text t P only a stands of =
    let one : term_at both given ≡ Some t = stands-later extracted both given t a.term (ap (λ (x : Space). x.number) a.rest) (ap (λ (x : Space). x.terms) a.rest) (stands-changed s extracted given t only stands) in
    subst (λ u. P u a.term) (Some-same of.0 t (sym of.2 ∙ one)) (subst (P of.0) (Some-same of.1 a.term (sym of.3 ∙ a.stands)) of.4)

-- refusals of a call that changes nothing

pub one-unknown : (s : Space) (h : Handle) (P : Term → Error → Type 0) (e : WorkspaceError) → RefusesOne s s h (λ _ _. ⊥) e → RefusesOne s s h P e
one-unknown s h P UnknownHandle r = r
one-unknown s h P (refused.RuleText x) r = absurd r
one-unknown s h P (refused.Graph e) r = absurd r.0.2

pub one-refused : (s : Space) (h : Handle) (t : Term) (P : Term → Error → Type 0) (e : Error) → term_at s h ≡ Some t → P t e → RefusesOne s s h P (refused.Graph e)
one-refused s h t P e stands p = ((t, stands, p), refl)

-- Which terms handles stand for in a later workspace, and what is asserted once a term was added.
use Rattle.std.proofs.Common.{◌≡◌, ◌∙◌, ◌++◌, ℕ, List, [], ◌∷◌, ap, subst, sym}
use Rattle.std.specs.Prelude.{Bool, true, false, Option, None, Some, if◌then◌else◌, nat_eq, slice_get}
use Rattle.slotted_lists.proofs.Lists.{slice_get-append_left}
use Rattle.slotted_slots.specs.Syntax.{Element}
use Rattle.slotted_theory.specs.Term.{Term}
use Rattle.slotted_nodes.specs.Form.{Form}
use Rattle.slotted_model.proofs.Data.Options.{None-Some}
use Rattle.slotted_operations.specs.Image.{asserted_in}
use Rattle.slotted_workspace.specs.Asked.{AddsTerm, ChangesGraph}
use Rattle.slotted_workspace.specs.Spaces.{Space, term_at}
use Rattle.slotted_workspace.specs.declared.handle.Handle.{Handle}

chosen-later : {A : Type 0} (b : Bool) (o p : Option A) (x : A) → (o ≡ Some x → p ≡ Some x) → (if b then o else None) ≡ Some x → (if b then p else None) ≡ Some x
chosen-later true o p x later e = later e
chosen-later false o p x later e = absurd (None-Some x e)

-- with more terms it stands for the same one
pub stands-later : (s v : Space) (h : Handle) (t u : Term) → v.number ≡ s.number → v.terms ≡ s.terms ++ u ∷ [] → term_at s h ≡ Some t → term_at v h ≡ Some t
stands-later s v h t u number terms e =
    (λ i. if nat_eq h.workspace (number i) then slice_get (terms i) h.index else None)
    ∙ chosen-later (nat_eq h.workspace s.number) (slice_get s.terms h.index) (slice_get (s.terms ++ u ∷ []) h.index) t (slice_get-append_left s.terms (u ∷ []) h.index t) e

-- and so it does where the graph alone changes
pub stands-changed : (s v : Space) (h : Handle) (t : Term) → ChangesGraph s v → term_at s h ≡ Some t → term_at v h ≡ Some t
stands-changed s v h t only e = subst (λ (x : Space). term_at x h ≡ Some t) (sym only) e

pub asserts-nothing : (read : List Element → Option Form) (s v : Space) (text : List ℕ) (h : Handle) → AddsTerm read s v text h → asserted_in v.graph.image ≡ asserted_in s.graph.image
asserts-nothing read s v text h a = a.adds.gains.adds.asserted ∙ ap asserted_in a.adds.writes.only.image

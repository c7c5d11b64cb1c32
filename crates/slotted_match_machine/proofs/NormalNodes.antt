-- At rest the ids of each node that the matcher visits are valid and in normal form.
use Rattle.std.proofs.Common.{◌≡◌, ℕ, List, sym, ◌∙◌, ap, subst, inl, inr}
use Rattle.slotted_lists.proofs.Members.{In, In-append}
use Rattle.slotted_theory.specs.Nameless.{DTerm, extend}
use Rattle.slotted_theory.specs.Renaming.{IsInjective}
use Rattle.slotted_theory.proofs.Names.{extend-injective}
use Rattle.slotted_model.specs.Applied.{Applied, renamed_id, EachChild}
use Rattle.slotted_model.specs.Find.{find}
use Rattle.slotted_model.specs.ProofList.{node_of}
use Rattle.slotted_model.specs.State.{Row, State}
use Rattle.slotted_model.specs.Rest.{IsValidIn, AtRest}
use Rattle.slotted_model.proofs.Represented.Children.{EachChild-map}
use Rattle.slotted_model.proofs.Rebuilding.Events.{normal-found}
use Rattle.slotted_model.proofs.Represented.Folds.{as_term-same}
use Rattle.slotted_model.proofs.Finds.NormalIds.{found-renamed}
use Rattle.slotted_model.proofs.Rebuilding.RowNodes.{row_node, row-normal, node-valid}
use Rattle.slotted_model_rules.specs.Matcher.{NodeArgs, no_more, a_name, an_id, a_binder, unnamed, IsNodeOf}
use Rattle.slotted_model_rules.proofs.Patterns.LookingUp.{IsFoundId}
use Rattle.slotted_model_rules.proofs.Matching.ValidValues.{IdsValid, ids-valid}
use Rattle.slotted_model_rules.proofs.Matching.AllSlots.{renamed-injective}
use Rattle.slotted_match_machine.specs.Index.{ids_of}

module _ (g : State) where
  ids-found : (κ : ℕ → ℕ) → IsInjective κ → (n : NodeArgs) → EachChild (λ a. find g.found a ≡ a) (unnamed κ n) → (a : Applied) → In a (ids_of n) → find g.found a ≡ a
  ids-found κ inj no_more c a i = absurd i
  ids-found κ inj (a_name x rest) c a i = ids-found κ inj rest c a i
  ids-found κ inj (an_id b rest) c a (inl e) =
      let same : renamed_id κ b ≡ c.0.0 = as_term-same (renamed_id κ b) c.0.0 c.0.1 in
      let found : find g.found (renamed_id κ b) ≡ renamed_id κ b = ap (find g.found) same ∙ (c.0.2 ∙ sym same) in
      let here : find g.found b ≡ b = renamed-injective κ inj (find g.found b) b (sym (found-renamed g.found κ b) ∙ found) in
      ap (find g.found) e ∙ (here ∙ sym e)
  ids-found κ inj (an_id b rest) c a (inr i) = ids-found κ inj rest c.1 a i
  ids-found κ inj (a_binder x inner rest) c a i = elim (In-append a (ids_of inner) (ids_of rest) i) [
    | inl j ↦ ids-found (extend x κ) (extend-injective x κ inj) inner c.0 a j
    | inr j ↦ ids-found κ inj rest c.1 a j
  ]

  each-valid : (n : NodeArgs) → IdsValid g n → (a : Applied) → In a (ids_of n) → IsValidIn g a
  each-valid no_more v a i = absurd i
  each-valid (a_name x rest) v a i = each-valid rest v a i
  each-valid (an_id b rest) v a (inl e) = subst (IsValidIn g) (sym e) v.0
  each-valid (an_id b rest) v a (inr i) = each-valid rest v.1 a i
  each-valid (a_binder x inner rest) v a i = elim (In-append a (ids_of inner) (ids_of rest) i) [
    | inl j ↦ each-valid inner v.0 a j
    | inr j ↦ each-valid rest v.1 a j
  ]

  pub ids-normal : AtRest g → (seen : List ℕ) (r : Row) (a : Applied) (n : NodeArgs) → IsNodeOf g seen r a n → (b : Applied) → In b (ids_of n) → IsFoundId g b
  ids-normal rest seen r a n is b i =
      let each : EachChild (IsFoundId g) (row_node r is.id).args =
      subst (λ (t : DTerm). EachChild (IsFoundId g) t.args) (sym (row-normal g rest r is.of_row.filed is.id is.of_row.source))
      (normal-found g rest.sane.sound.linked (node_of g.nodes is.id).args (node-valid g rest is.id is.of_row.full)) in
      let here : EachChild (IsFoundId g) (unnamed (λ y. y) n) = subst (EachChild (IsFoundId g)) (sym is.form) each in (
        each-valid n (ids-valid g (λ y. y) n (EachChild-map (IsFoundId g) (IsValidIn g) (λ c k. k.0) (unnamed (λ y. y) n) here)) b i,
        ids-found (λ y. y) (λ x y e. e) n (EachChild-map (IsFoundId g) (λ c. find g.found c ≡ c) (λ c k. k.1) (unnamed (λ y. y) n) here) b i,
      )

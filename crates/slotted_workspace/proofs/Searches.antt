-- Why a search for the pattern of a text is refused.
use Rattle.std.proofs.Common.{◌≡◌, ◌⊎◌, ◌↔◌, ◌∙◌, List, ℕ, Ok, Err, IsErrOf, ap, refl, sym, inl, inr}
use Rattle.std.specs.Prelude.{Bool, IsTrue, Option, false, true}
use Rattle.std.proofs.lemmas.Bool.{false≢true}
use Rattle.slotted_slots.specs.declared.error.Error.{Error}
use Rattle.slotted_slots.specs.declared.error.Error.TheVariants.{Failed, SubstInSearch}
use Rattle.slotted_slots.specs.Error.{IsShortage}
use Rattle.slotted_slots.specs.Syntax.{Element}
use Rattle.slotted_nodes.specs.Form.{Form}
use Rattle.slotted_languages.proofs.HandedOn.{not_refused}
use Rattle.slotted_patterns.specs.View.{tree_of}
use Rattle.slotted_patterns.specs.declared.pattern.Pattern.{Pattern}
use Rattle.slotted_rule_patterns.specs.Variables.{has_substitution}
use Rattle.slotted_operations.specs.Graph.{Graph, OnlyTakesSlots}
use Rattle.slotted_workspace.specs.Asked.{ReadsPattern, SearchRefused, search_refused}

module _ {L T : Type 0} (form : L → Form) (read : List Element → Option Form) (g k h : Graph) (text : List ℕ) (p : Pattern L) (reads : ReadsPattern form read g k text p) (takes : OnlyTakesSlots k h) where
  pub search-refused : (e : Error) → (IsErrOf {T = T} (Err e) Failed ↔ IsTrue k.failed) → (IsErrOf {T = T} (Err e) SubstInSearch ↔ ((k.failed ≡ false) × (has_substitution (tree_of form p) ≡ true))) → (e ≡ Failed) ⊎ ((e ≡ SubstInSearch) ⊎ IsShortage e) →
      SearchRefused form read g h text e
  search-refused e failed subst (inl is) = absurd (false≢true (sym (reads.only.failed ∙ reads.well) ∙ failed.0 (ap Err is)))
  search-refused e failed subst (inr (inl is)) = search_refused p k reads takes (inl (is, (subst.0 (ap Err is)).1))
  search-refused e failed subst (inr (inr short)) = search_refused p k reads takes (inr short)

-- what was found was found by a pattern without a substitution
pub found-plain : {A : Type 0} (x : A) (k : Graph) (b : Bool) → k.failed ≡ false → (IsErrOf {T = A} (Ok x) SubstInSearch ↔ ((k.failed ≡ false) × (b ≡ true))) → b ≡ false
found-plain x k false well subst = refl
found-plain x k true well subst = not_refused x (subst.1 (well, refl))

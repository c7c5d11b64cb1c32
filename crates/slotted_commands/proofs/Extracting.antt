-- What the calls of an extraction leave the next one.
use Rattle.std.proofs.Common.{◌≡◌, ◌⊎◌, ℕ, List, inl, inr, refl, sym, ap, ◌∙◌, subst}
use Rattle.std.specs.Prelude.{Option, None, Some, IsTrue, Result, Ok, Err, IfErr, IsErrOf, option_map}
use Rattle.slotted_theory.specs.Term.{Term}
use Rattle.slotted_slots.specs.declared.error.Error.{Error}
use Rattle.slotted_slots.specs.declared.error.Error.TheVariants.{Failed, OutOfSlots, UnknownClass}
use Rattle.slotted_slots.specs.Error.{IsOutOfMemory, IsShortage}
use Rattle.slotted_nodes.specs.Form.{Form}
use Rattle.slotted_terms.specs.Valid.{IsValidTerm}
use Rattle.slotted_model.specs.Applied.{Applied}
use Rattle.slotted_costs.specs.Costs.{MayRefuse, cost_of_term}
use Rattle.slotted_explain.specs.Causes.{class_found}
use Rattle.slotted_explain.specs.Graph.{Graph, MakesAtMost, OnlyTakesSlots}
use Rattle.slotted_explain.specs.Reports.{IsFound}
use Rattle.slotted_explain.specs.Terms.{entry_at}
use Rattle.slotted_explain.specs.TermEntry.{TermEntry}
use Rattle.slotted_explain.proofs.EntryForms.{forms_of, least-forms, runs_out-form, slots-forms}
use Rattle.slotted_explain.specs.LeastTerms.{AreLeastOf, HasEachLiveClass, IsExtracted, LacksEntry, MakesForExtracted, RunsOutForExtracted}
use Rattle.slotted_commands.specs.Extracted.{IsSmallest, LacksForSmallest, TakesForSmallest, sizes}

-- entries of least cost, over the forms of their nodes

least-of_forms : {L : Type 0} (form : L → Form) (g : Graph) (es : List (Option (TermEntry L ℕ))) → AreLeastOf form g sizes es → AreLeastOf (λ (f : Form). f) g sizes (forms_of form es)
least-of_forms form g es least = record {
  kept = least.kept;
  rows = least.rows;
  good = least.good;
  rests = least.rests;
  image = least.image;
  filed = least.filed;
  least = least-forms form least.kept least.rows sizes es least.least;
}

pub takes_for_smallest : {L : Type 0} (form : L → Form) (g h : Graph) (a : Applied) (es : List (Option (TermEntry L ℕ))) → AreLeastOf form g sizes es → MakesForExtracted form es a g h → TakesForSmallest g a h
takes_for_smallest form g h a es least makes = inr (record {
  entries = forms_of form es;
  least = least-of_forms form g es least;
  makes = subst (λ n. MakesAtMost n g.table h.table) (sym (slots-forms form es (class_found g.image a.0))) makes;
})

pub lacks_for_smallest : {L : Type 0} (form : L → Form) (g h : Graph) (a : Applied) (es : List (Option (TermEntry L ℕ))) → AreLeastOf form g sizes es → RunsOutForExtracted form es a g h → LacksForSmallest g a h
lacks_for_smallest form g h a es least out = record {
  entries = forms_of form es;
  least = least-of_forms form g es least;
  runs_out = runs_out-form form es (class_found g.image a.0) g.table h.table out;
}

-- memory is no slot
pub not_slots : (e : Error) → IsOutOfMemory e → e ≡ OutOfSlots → ⊥
not_slots e m o = cc

-- a refusal that is not f is one of the others
other_refusal : {A : Type 0} (x : Result A Error) (e f : Error) (S : Error → Type 0) → x ≡ Err e → ¬ IsErrOf x f → IfErr x (λ y. (y ≡ f) ⊎ S y) → S e
other_refusal (Ok y) e f S is not only = cc
other_refusal (Err y) e f S is not only = let same : y ≡ e = cc in subst S same (elim only [ inl h ↦ absurd (not (ap Err h)) | inr s ↦ s ])

-- a growth was refused, or else a cost, which never is
pub only_memory : (e : Error) → MayRefuse (λ y. ⊥) e → IsShortage e
only_memory e may = elim may [ inl m ↦ inl m | inr n ↦ absurd n ]

-- the costs of a graph that has not failed were refused
pub costs_refused : {A : Type 0} (g : Graph) (x : Result A Error) (e : Error) → x ≡ Err e → ¬ IsTrue g.failed → (IsErrOf x Failed → IsTrue g.failed) → IfErr x (λ y. (y ≡ Failed) ⊎ MayRefuse (λ z. ⊥) y) → IsShortage e
costs_refused g x e is sound was only = only_memory e (other_refusal x e Failed (MayRefuse (λ z. ⊥)) is (λ f. sound (was f)) only)

-- where the entries of a graph are of least cost, and the id is what it finds itself
module _ {L : Type 0} (form : L → Form) (g : Graph) (es : List (Option (TermEntry L ℕ))) (a : Applied) (found : IsFound g a) (each : HasEachLiveClass g es) where
  -- the class of the id has an entry
  has_entry : (e : TermEntry L ℕ) × (entry_at es a.0 ≡ Some e)
  has_entry = each a.0 (found.valid.in_range, found.live)

  -- so it is not unknown
  pub is_known : ¬ (entry_at es a.0 ≡ None)
  is_known none = let is : None ≡ Some has_entry.0 = sym none ∙ has_entry.1 in cc

  pub finds_known : ¬ LacksEntry g es a
  finds_known none = is_known (ap (entry_at es) (sym found.live) ∙ none)

  -- its cost was refused
  pub cost_refused : {A : Type 0} (x : Result A Error) (e : Error) → x ≡ Err e → (IsErrOf x UnknownClass → entry_at es a.0 ≡ None) → IfErr x (λ y. (y ≡ UnknownClass) ⊎ IsOutOfMemory y) → IsShortage e
  cost_refused x e is unknown only = inl (other_refusal x e UnknownClass IsOutOfMemory is (λ u. is_known (unknown u)) only)

  -- its term was refused
  pub term_refused : {A : Type 0} (x : Result A Error) (e : Error) → x ≡ Err e → ¬ IsTrue g.failed → (IsErrOf x Failed → IsTrue g.failed) → (IsErrOf x UnknownClass → LacksEntry g es a)
      → IfErr x (λ y. (y ≡ Failed) ⊎ ((y ≡ UnknownClass) ⊎ IsShortage y)) → IsShortage e
  term_refused x e is sound was unknown only =
      elim (other_refusal x e Failed (λ y. (y ≡ UnknownClass) ⊎ IsShortage y) is (λ f. sound (was f)) only) [
        | inl u ↦ absurd (finds_known (unknown (is ∙ ap Err u)))
        | inr s ↦ s
      ]

  -- what is extracted costs what its class's entry says
  pub smallest : (h : Graph) (n : ℕ) (t : Term) → AreLeastOf form g sizes es → option_map (λ e. e.cost) (entry_at es a.0) ≡ Some n → IsExtracted form g es a t → IsValidTerm h.table t → IsSmallest g a n t h
  smallest h n t least cost is valid =
      let both = is sizes least in
      let e = has_entry.0 in
      let costs : Some e.cost ≡ Some n = sym (ap (option_map (λ e. e.cost)) has_entry.1) ∙ cost in
      let same : e.cost ≡ n = cc in
      record { least = both.0; size = sym same ∙ both.1 e (ap (entry_at es) found.live ∙ has_entry.1); known = valid }

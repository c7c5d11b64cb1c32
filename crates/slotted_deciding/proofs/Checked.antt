-- What a checked step leaves of a graph.
use Rattle.std.proofs.Common.{◌≡◌, ◌⊎◌, ◌++◌, ◌∙◌, ℕ, List, [], ◌∷◌, ap, inl, inr, refl, subst, sym}
use Rattle.std.specs.Prelude.{IsTrue}
use Rattle.std.proofs.lemmas.List.{append-nil}
use Rattle.std.proofs.lemmas.List.Elements.{filter_map-append}
use Rattle.slotted_theory.specs.Nameless.{DTerm}
use Rattle.slotted_model.specs.Applied.{Applied}
use Rattle.slotted_model.specs.ProofList.{ProofEntry, Step, asserted, congruent, explicit, reflexive, symmetric, transitive}
use Rattle.slotted_model.proofs.Represented.Growing.{Extends-same}
use Rattle.slotted_proofs.specs.Entries.{Proven, entry_of}
use Rattle.slotted_proofs.specs.declared.equation.Equation.{Equation as Sides}
use Rattle.slotted_rebuilding.proofs.RebuildCounts.{counts-same}
use Rattle.slotted_operations.specs.Checks.{Accepts, Fits, entry_by, with_entry}
use Rattle.slotted_operations.specs.Graph.{Graph}
use Rattle.slotted_operations.specs.Image.{asserted_in}
use Rattle.slotted_operations.specs.ValidIds.{IsValidId}
use Rattle.slotted_graph.specs.Extension.{ExtendsTo}
use Rattle.slotted_graph.specs.States.{IsGraph}
use Rattle.slotted_graph.proofs.Insides.{given}
use Rattle.std.specs.Coded.{Coded}
use Rattle.slotted_data.specs.Meaning.{IsMergeOf, Meaning}
use Rattle.slotted_graph.proofs.Saying.{lowers-same}
use Rattle.slotted_deciding.specs.Steps.{GoesTo, LeadsTo}
use Rattle.slotted_deciding.proofs.Growing.{goes-itself, leads-with}

-- an entry by a step is asserted by none of the four steps
not-asserted : (nodes : List DTerm) (e : Sides) (s : Step) (proofs : List ProofEntry) → ¬ (s ≡ explicit) → asserted nodes (proofs ++ entry_of (entry_by e s) ∷ []) ≡ asserted nodes proofs
not-asserted nodes e explicit proofs n = absurd (n refl)
not-asserted nodes e reflexive proofs n = filter_map-append _ proofs _ ∙ append-nil (asserted nodes proofs)
not-asserted nodes e (symmetric p) proofs n = filter_map-append _ proofs _ ∙ append-nil (asserted nodes proofs)
not-asserted nodes e (transitive p q) proofs n = filter_map-append _ proofs _ ∙ append-nil (asserted nodes proofs)
not-asserted nodes e (congruent parts) proofs n = filter_map-append _ proofs _ ∙ append-nil (asserted nodes proofs)

-- a step that fits is none of an assertion
not-explicit : (g : Graph) (e : Sides) (s : Step) → Fits g.image e s → ¬ (s ≡ explicit)
not-explicit g e s fits same = (subst (Fits g.image e) same fits).1

entry-valid : (g : Graph) (x : Proven) (a : Applied) → IsValidId g a → IsValidId (with_entry g x) a
entry-valid g x a v = record { in_range = v.in_range; ascending = v.ascending; injective = v.injective; known = v.known; within = v.within; has_left = v.has_left }

entry-extends : (g : Graph) (e : Sides) (s : Step) → Fits g.image e s → ExtendsTo g (with_entry g (entry_by e s))
entry-extends g e s fits = record {
  more = λ z k. k;
  canonical = Extends-same g.image.canonical;
  valid = λ a v. entry-valid g (entry_by e s) a v;
  alike = λ a b v w q. q;
  entries = (entry_of (entry_by e s) ∷ [], refl);
  stored = (entry_by e s ∷ [], refl);
  asserted = ([], not-asserted g.image.canonical e s g.image.entries (not-explicit g e s fits) ∙ sym (append-nil (asserted_in g.image)));
  symmetries = ([], sym (append-nil g.image.symmetries));
  counts = counts-same g.image.counts;
}

pub goes-checked : (g h : Graph) (e : Sides) (s : Step) (p : ℕ) → IsGraph g → Fits g.image e s → Accepts g h (entry_by e s) p → IsTrue h.failed ⊎ IsGraph h → GoesTo g h
goes-checked g h e s p is fits accepts rests = elim accepts.grows [
  | inl q ↦ subst (GoesTo g) (sym q.1) (goes-itself g is)
  | inr q ↦
      let there : GoesTo g (with_entry g (entry_by e s)) = record {
        graph = subst IsGraph q.2 (given (ap (λ (x : Graph). x.failed) q.2 ∙ is.well) rests);
        extends = entry-extends g e s fits;
        asserted = not-asserted g.image.canonical e s g.image.entries (not-explicit g e s fits);
      } in
      subst (GoesTo g) (sym q.2) there
]

-- and data of the analysis stays
pub leads-checked : {N D : Type 0} (codes : Coded N × Coded D) (meaning : N → Meaning D) (law : (n : N) → IsMergeOf (meaning n)) (g h : Graph) (e : Sides) (s : Step) (p : ℕ) → IsGraph g → Fits g.image e s → Accepts g h (entry_by e s) p → IsTrue h.failed ⊎ IsGraph h →
    LeadsTo codes meaning g h
leads-checked codes meaning law g h e s p is fits accepts rests = leads-with codes meaning g h (goes-checked g h e s p is fits accepts rests) (lowers-same codes meaning law g h (goes-checked g h e s p is fits accepts rests).extends.canonical found part)
  where
    found : h.image.found ≡ g.image.found
    found = elim accepts.grows [ inl q ↦ ap (λ (x : Graph). x.image.found) q.1 | inr q ↦ ap (λ (x : Graph). x.image.found) q.2 ]

    part : h.part ≡ g.part
    part = elim accepts.grows [ inl q ↦ ap (λ (x : Graph). x.part) q.1 | inr q ↦ ap (λ (x : Graph). x.part) q.2 ]

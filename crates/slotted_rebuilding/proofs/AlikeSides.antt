-- The sides of an entry find alike just where what it says of the classes that they find is the identity on the slots of one class.
use Rattle.std.proofs.Common.{◌≡◌, ◌<◌, ℕ, List, length, sym, ◌∙◌, ap, subst}
use Rattle.slotted_model.specs.Applied.{Applied}
use Rattle.slotted_model.specs.Classes.{canonical_slots, IsFull}
use Rattle.slotted_model.specs.Correspondence.{IsFullMap, same_names, identity}
use Rattle.slotted_model.specs.Find.{Entry, used_slots, find, Linked}
use Rattle.slotted_model.specs.Link.{found_equation}
use Rattle.slotted_model.specs.ProofList.{Equation, equation_of, equation_at, IsOver}
use Rattle.slotted_model.specs.Changes.{found_entry}
use Rattle.slotted_model.proofs.Correspondences.FullMaps.{same_names-itself}
use Rattle.slotted_model.proofs.Rebuilding.FoundEntries.{found-used, identity-alike}
use Rattle.slotted_model.proofs.Finds.NormalIds.{found-full, full-is_valid}
use Rattle.slotted_model.proofs.Finds.Uniting.{found_equation-shares}
use Rattle.slotted_theory.specs.Nameless.{DTerm}
use Rattle.slotted_proofs.specs.Entries.{statement_at}
use Rattle.slotted_proofs.specs.Equations.{AreSides}
use Rattle.slotted_proofs.specs.Proving.{IsCanonical}
use Rattle.slotted_classes.specs.Finding.{IsFindable}
use Rattle.slotted_classes.specs.Kept.{Kept, nodes_of, entries_of, proofs_of}
use Rattle.slotted_classes.proofs.KeptLists.{equation_at-of}
use Rattle.slotted_classes.specs.StateOf.{state_of}
use Rattle.slotted_classes.specs.Stored.{Stored}
use Rattle.slotted_rebuilding.specs.Uniting.{SaysNothing}
use Rattle.slotted_rebuilding.proofs.EnteredProofs.{stored-over}

-- full ids that find alike
module _ (nodes : List DTerm) (found : List Entry) (linked : Linked nodes found) (a b : Applied) (fa : IsFull nodes a) (fb : IsFull nodes b) where
  abbrev says : Equation
  says = found_equation nodes found (equation_of a b)

  left-full : IsFullMap (used_slots found says.left) (find found a).1
  left-full = subst (λ K. IsFullMap K (find found a).1) (found-used nodes found linked a.0 fa.in_range) (found-full nodes found linked a (full-is_valid nodes found linked a fa))

  pub alike-identity : find found a ≡ find found b → says.pairs ≡ identity (used_slots found says.left)
  alike-identity e =
      sym (found_equation-shares nodes found linked a b fa fb)
      ∙ (ap (λ (x : Applied). same_names (find found a).1 x.1) (sym e) ∙ same_names-itself (used_slots found says.left) (find found a).1 left-full)

module _ (k : Kept) (stored : Stored k) (p : ℕ) (within : p < length k.proofs) (a b : Applied) (sides : AreSides (statement_at k.proofs p) a b) where
  abbrev nodes : List DTerm
  nodes = nodes_of k

  abbrev found : List Entry
  found = entries_of k

  over : IsOver nodes (statement_at k.proofs p).equation
  over = stored-over k stored p within

  canonical : IsCanonical nodes (statement_at k.proofs p)
  canonical = stored.proved.canonical p within

  pub left-is_full : IsFull nodes a
  left-is_full =
      let e : a.0 ≡ (statement_at k.proofs p).equation.left = ap (λ (x : Applied). x.0) sides.left in
      record { in_range = subst (λ i. i < length nodes) (sym e) over.left; slots = sides.left_full.slots ∙ (canonical.left ∙ ap (canonical_slots nodes) (sym e)); injective = sides.left_full.injective }

  pub right-is_full : IsFull nodes b
  right-is_full =
      let e : b.0 ≡ (statement_at k.proofs p).equation.right = ap (λ (x : Applied). x.0) sides.right in
      record { in_range = subst (λ i. i < length nodes) (sym e) over.right; slots = sides.right_full.slots ∙ (canonical.right ∙ ap (canonical_slots nodes) (sym e)); injective = sides.right_full.injective }

  pub left-findable : IsFindable k a
  left-findable = full-is_valid nodes found stored.sane.sound.linked a left-is_full

  pub right-findable : IsFindable k b
  right-findable = full-is_valid nodes found stored.sane.sound.linked b right-is_full

  equation-is : equation_of a b ≡ equation_at (proofs_of k) p
  equation-is = sides.equation ∙ sym (equation_at-of k.proofs p)

  pub alike-nothing : find found a ≡ find found b → SaysNothing k (found_entry (state_of k) p)
  alike-nothing e = subst (λ q. SaysNothing k (found_equation nodes found q)) equation-is
      (ap (λ (x : Applied). x.0) e, alike-identity nodes found stored.sane.sound.linked a b left-is_full right-is_full e)

  pub nothing-alike : SaysNothing k (found_entry (state_of k) p) → find found a ≡ find found b
  nothing-alike n =
      let m : SaysNothing k (found_equation nodes found (equation_of a b)) = subst (λ q. SaysNothing k (found_equation nodes found q)) (sym equation-is) n in
      identity-alike nodes found stored.sane.sound.linked a b left-is_full right-is_full m.0 m.1

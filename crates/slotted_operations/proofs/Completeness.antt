-- What a no says at rest: that no names can be filled in by which the terms are derivable, unless open symmetries affect both ids.
use Rattle.std.proofs.Common.{◌≡◌, ◌↔◌, [], sym, subst, inl, inr}
use Rattle.std.specs.Prelude.{◌⊎◌, Bool, IsTrue}
use Rattle.slotted_model.specs.Affected.{AreAlikeOrAffected}
use Rattle.slotted_model.specs.Applied.{Applied}
use Rattle.slotted_model.specs.Find.{find, find_class}
use Rattle.slotted_model.specs.Rest as model
use Rattle.slotted_model.specs.Rest.{AtRest}
use Rattle.slotted_model.proofs.Complete.AtRest.{rest-alike, rest-derivable}
use Rattle.slotted_classes.specs.Finding.{IsFindable}
use Rattle.slotted_classes.specs.Kept.{Kept, entries_of}
use Rattle.slotted_hashcons.specs.FiledRows.{Rows}
use Rattle.slotted_hashcons.specs.WellFiled.{state_in}
use Rattle.slotted_operations.specs.Affected.{IsAffected, AreAffected, IsYesIfEqual, IsYesIfDerivable}
use Rattle.slotted_operations.specs.Causes.{class_found}
use Rattle.slotted_operations.specs.ValidIds.{IsValidId}
use Rattle.slotted_operations.specs.Good.{Good, RestsWith, image_of}
use Rattle.slotted_operations.specs.Graph.{Graph}
use Rattle.slotted_operations.specs.Image.{Image}
use Rattle.slotted_operations.proofs.Unions.AffectedClasses.{affected-is}
use Rattle.slotted_operations.proofs.Ids.ValidIds.{of-valid, findable-within, fills-filling}
use Rattle.slotted_operations.proofs.Graphs.Images.{class_found-is}
use Rattle.slotted_operations.proofs.Graphs.AtRest.{at-rest}

module _ (k : Kept) (good : Good k) (r : Rows) (rest : AtRest (state_in k r)) (a b : Applied) (fa : IsFindable k a) (fb : IsFindable k b) (y : Bool) (says : IsTrue y ↔ (find (entries_of k) a ≡ find (entries_of k) b)) where
  -- a findable id of an affected class
  finds-affected : (c : Applied) → IsFindable k c → model.IsAffected (state_in k r) (find_class (entries_of k) c.0) → IsAffected (image_of k) (class_found (image_of k) c.0)
  finds-affected c f h =
      subst (IsAffected (image_of k)) (sym (class_found-is k c.0 (findable-within k c f))) (affected-is k good r rest.sane rest.nothing_waits h)

  yes-or_affected : AreAlikeOrAffected (state_in k r) a b → IsTrue y ⊎ AreAffected (image_of k) a b
  yes-or_affected (inl e) = inl (says.1 e)
  yes-or_affected (inr h) = inr (finds-affected a fa h.0, finds-affected b fb h.1)

  pub yes-if_equal : IsYesIfEqual (image_of k) a b y
  yes-if_equal left right fl fr e = yes-or_affected (rest-alike (state_in k r) rest a b left right [] [] fa fb (fills-filling k a left fl) (fills-filling k b right fr) e)

  pub yes-if_derivable : IsYesIfDerivable (image_of k) a b y
  yes-if_derivable left right fl fr E t u listed et eu d =
      yes-or_affected (rest-derivable (state_in k r) rest a b left right [] [] fa fb (fills-filling k a left fl) (fills-filling k b right fr) E t u listed et eu d)

-- the same of ids of a graph
pub complete-of : (k : Kept) (r : Rows) → Good k → RestsWith k r → (g : Graph) → image_of k ≡ g.image → (a b : Applied) → IsValidId g a → IsValidId g b → (y : Bool) → (IsTrue y ↔ (find (entries_of k) a ≡ find (entries_of k) b)) →
    IsYesIfEqual g.image a b y × IsYesIfDerivable g.image a b y
complete-of k r good rests g image a b va vb y says =
    let rest = at-rest k r good rests in
    let fa = of-valid k good g image a va in
    let fb = of-valid k good g image b vb in
    subst (λ (x : Image). IsYesIfEqual x a b y × IsYesIfDerivable x a b y) image
    (yes-if_equal k good r rest a b fa fb y says, yes-if_derivable k good r rest a b fa fb y says)

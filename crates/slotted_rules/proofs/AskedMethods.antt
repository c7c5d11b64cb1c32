-- A method of substitution is asked, one call after another.
use Rattle.std.proofs.Common.{ap, inl, inr}
use Rattle.std.specs.Prelude.{◌⊎◌, IsTrue, IsErrAnd, IfOk, OnOk, Result, Ok, Err}
use Rattle.slotted_slots.specs.Error.{IsShortage}
use Rattle.slotted_slots.specs.declared.error.Error.{Error}
use Rattle.slotted_model.specs.Applied.{Applied}
use Rattle.slotted_graph.specs.Extension.{ExtendsTo}
use Rattle.slotted_graph.specs.Graph.{Graph, OnlyTakesSlots}
use Rattle.slotted_graph.specs.Image.{asserted_in}
use Rattle.slotted_graph.proofs.Extending.{extends-takes}
use Rattle.slotted_rules.specs.Building.{Builds}
use Rattle.slotted_rules.specs.Methods.{AsksMethod, not_asked, then_built, then_asked}

module _ {M : Type 0} (substitutes : M → Graph → Applied → Applied → Applied → Applied → M → Graph → Type 0) (k : M) (g : Graph) where
  pub asks-takes : {l : M} {f h : Graph} → AsksMethod substitutes k g l f → OnlyTakesSlots f h → AsksMethod substitutes k g l h
  asks-takes {l} {f} {h} before takes = then_built before (extends-takes f h takes) (ap asserted_in takes.reads.image)

  pub asks-filled : (e f h : Graph) → OnlyTakesSlots g e → OnlyTakesSlots e f → OnlyTakesSlots f h → AsksMethod substitutes k g k h
  asks-filled e f h first second third = asks-takes (asks-takes (asks-takes not_asked first) second) third

  -- a graph that has not failed extends the one before
  pub asks-once : {A : Type 0} {l : M} {f : Graph} (m : M) (h : Graph) (b x t : Applied) (to : A → Applied) (r : Result A Error) → AsksMethod substitutes k g l f → IfOk r (λ a. substitutes l f b x t (to a) m h) →
      (IsTrue h.failed → IsErrAnd r IsShortage) → IsTrue h.failed ⊎ ExtendsTo f h → OnOk r (AsksMethod substitutes k g m h)
  asks-once m h b x t to (Ok a) before asked fails (inl failed) = absurd (fails failed)
  asks-once m h b x t to (Ok a) before asked fails (inr extends) = then_asked b x t (to a) before extends asked
  asks-once m h b x t to (Err e) before asked fails extends = tt

  pub asks-then : {l : M} {f : Graph} {m : M} {h : Graph} → AsksMethod substitutes k g l f → AsksMethod substitutes l f m h → AsksMethod substitutes k g m h
  asks-then before not_asked = before
  asks-then before (then_built more extends nothing) = then_built (asks-then before more) extends nothing
  asks-then before (then_asked b x t a more extends asked) = then_asked b x t a (asks-then before more) extends asked

  pub asks-none : {A : Type 0} (r : Result A Error) → OnOk r (AsksMethod substitutes k g k g)
  asks-none (Ok a) = not_asked
  asks-none (Err e) = tt

  pub asks-built : {A : Type 0} (h : Graph) (r : Result A Error) → OnOk r (Builds g h) → OnOk r (AsksMethod substitutes k g k h)
  asks-built h (Ok a) built = then_built not_asked built.grows.extends built.asserts
  asks-built h (Err e) built = tt

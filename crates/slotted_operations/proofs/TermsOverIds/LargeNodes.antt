-- Classes that are too large to be rebuilt: a new one is so only if its node is.
use Rattle.std.proofs.Common.{◌≡◌, ◌⊎◌, ◌<◌, ◌≤◌, ◌^◌, ℕ, suc, List, length, sym, ◌∙◌, ap, subst, arith, inl, inr, length-append}
use Rattle.std.proofs.lemmas.Bool.{cases_lt}
use Rattle.slotted_theory.specs.Nameless.{DArgs, DTerm, stop, place, sub, scope}
use Rattle.slotted_theory.specs.Shape.{SameUpToNames, free_names, outside}
use Rattle.slotted_nodes.specs.Form.{Form}
use Rattle.slotted_languages.specs.NodeTerm.{nameless_node}
use Rattle.slotted_model.specs.Ascending.{names}
use Rattle.slotted_model.specs.Classes.{canonical_node}
use Rattle.slotted_model.specs.Growth.{Extends}
use Rattle.slotted_classes.proofs.NameCounts.{length-ascending, length-outside}
use Rattle.slotted_languages.specs.Sizes.{args_size, node_size}
use Rattle.slotted_alike.proofs.WideNodes.{size-moved}
use Rattle.slotted_operations.specs.Causes.{IsLargeClass, IsWideClass, IsWideNode}

free-fit : (d : DArgs) → length (free_names d) ≤ args_size d
free-fit stop = omega arith
free-fit (place x rest) = omega (arith, free-fit rest)
free-fit (sub op payloads args rest) = omega (arith, length-append (free_names args) (free_names rest), free-fit args, free-fit rest)
free-fit (scope inner rest) = omega (arith, length-append (outside (free_names inner)) (free_names rest), length-outside (free_names inner), free-fit inner, free-fit rest)

-- a node has no more names than its size
names-fit : (d : DTerm) → length (names d) ≤ node_size d
names-fit d = omega (arith, length-ascending (free_names d.args), free-fit d.args)

-- other names do not change it
size-same : (d e : DTerm) → SameUpToNames d e → node_size e ≡ node_size d
size-same d e same = sym (ap node_size same.1) ∙ size-moved same.0.to d.args

-- a large class among the older ones and one more is an older one, or has a wide node
module _ (older newer : List DTerm) (grows : Extends older newer) (f : Form) (d : DTerm) (same : SameUpToNames (nameless_node f) d) (last : canonical_node newer (length older) ≡ d) (one_more : length newer ≡ suc (length older)) where
  abbrev IsLargeIn : List DTerm → ℕ → Type 0
  IsLargeIn nodes i = IsLargeClass nodes i ⊎ IsWideClass nodes i

  large-last : IsLargeIn newer (length older) → IsWideNode f
  large-last (inl many) = omega (arith, many, ap (λ (x : DTerm). length (names x)) last, names-fit d, size-same (nameless_node f) d same)
  large-last (inr wide) = omega (arith, wide, ap node_size last, size-same (nameless_node f) d same)

  pub large-old_or_new : (i : ℕ) → i < length newer → IsLargeIn newer i → ((j : ℕ) × (j < length older) × IsLargeIn older j) ⊎ IsWideNode f
  large-old_or_new i within large = elim (cases_lt i (length older)) [
    | inl h ↦ inl (i, h, subst (λ (x : DTerm). (2 ^ 29 ≤ length (names x)) ⊎ (2 ^ 29 ≤ node_size x)) (grows.classes i h).1 large)
    | inr past ↦ let e : i ≡ length older = omega (arith, within, past, one_more) in inr (large-last (subst (IsLargeIn newer) e large))
  ]

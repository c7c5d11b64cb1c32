-- A canonical node of an id that has all names, whose binders then get fresh slots.
use Rattle.std.proofs.Common.{◌≡◌, ◌∙◌, List, ap, length, sym, subst, arith}
use Rattle.std.specs.Prelude.{IsSome}
use Rattle.slotted_slots.specs.Table.{KnowsMore, Table}
use Rattle.slotted_nodes.specs.Form.{Form, scope_end_of, scopes}
use Rattle.slotted_languages.specs.Children.{binders}
use Rattle.slotted_languages.specs.NewNames.{BindersAreUnknown}
use Rattle.slotted_languages.specs.NodeTerm.{nameless_node}
use Rattle.slotted_languages.specs.Shape.{Fits}
use Rattle.slotted_languages.proofs.Renamings.{unknown_before}
use Rattle.slotted_languages.proofs.Shapes.{shape-same}
use Rattle.slotted_theory.specs.FiniteMaps.{filled}
use Rattle.slotted_model.proofs.Data.Theory.{moved-id}
use Rattle.slotted_model.specs.Applied.{Applied}
use Rattle.slotted_theory.specs.Nameless.{DTerm}
use Rattle.slotted_model.specs.Classes.{canonical_node}
use Rattle.slotted_operations.specs.Canonical.{IsNodeOf, binder_count}
use Rattle.slotted_operations.specs.Syn.{HasUnknownBinders, node_binders}
use Rattle.slotted_operations.proofs.TermsOverIds.Binders.{args_binders-moved, binders_counted}

-- two nodes that are one up to bound names have their binders at the same places
module _ (b c : Form) (fits_b : Fits b) (fits_c : Fits c) (same : nameless_node c ≡ nameless_node b) where
  tree : c.tree ≡ b.tree
  tree = ap (λ (h : Form). h.tree) (shape-same (λ x. x) (λ x y p. p) c b (moved-id (nameless_node c) ∙ same)).0

  pub as-many_places : length c.names ≡ length b.names
  as-many_places = fits_c ∙ (ap (λ h. length (scopes h)) tree ∙ sym fits_b)

  pub binders-unknown : (t u : Table) → KnowsMore t u → BindersAreUnknown u b c → HasUnknownBinders t c
  binders-unknown t u more unknown j l e =
      unknown_before t u _ more (unknown j (omega (arith, l, as-many_places)) (subst (λ h. IsSome (scope_end_of (scopes h) j)) tree e))

-- a node of a full id has as many binders as its class's node
module _ (nodes : List DTerm) (a : Applied) (b : Form) (fits : Fits b) (is : IsNodeOf nodes a b) where
  pub binders-of_class : binders b ≡ node_binders nodes a.0
  binders-of_class = binders_counted b fits ∙ (ap binder_count is ∙ args_binders-moved (filled a.1) (canonical_node nodes a.0).args)

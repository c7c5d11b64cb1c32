-- Nodes that differ in the ids of their children alone.
--     IsBeside f g      g is f but for the ids of its children
use Rattle.std.specs.Prelude.{◌≡◌, List, length}
use Rattle.slotted_theory.specs.Term.{Term}
use Rattle.slotted_nodes.specs.Form.{Form, children}
use Rattle.slotted_languages.specs.Filled.{filled}

-- operator, payloads, and what stands beside the children are the same
pub record IsBeside (f g : Form) : Type 0 where
  pub operator : g.operator ≡ f.operator
  pub payloads : g.payloads ≡ f.payloads
  pub count : length (children g.tree) ≡ length (children f.tree)
  pub outline : (us : List Term) → length us ≡ length (children f.tree) → filled g.tree g.names us ≡ filled f.tree f.names us

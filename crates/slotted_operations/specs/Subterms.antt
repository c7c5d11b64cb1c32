-- The terms that stand in a term, and the nodes at their tops.
--     IsSubterm s t        s is t, or it stands under t at some depth, its names as they are there: a binder above it is a name in it
--     IsTopOf look t f     f is the node at the top of t, over what the look-up answers of the terms under it
--     IsTopIn look t f     it is that of a subterm
use Rattle.std.specs.Prelude.{◌≡◌, ◌⊎◌, ◌<◌, ℕ, List, Option, Some, length, slice_index_or}
use Rattle.slotted_theory.specs.Nameless.{DTerm, nameless}
use Rattle.slotted_theory.specs.Term.{Args, Term, done, name, child, bind}
use Rattle.slotted_nodes.specs.Form.{Form}
use Rattle.slotted_languages.specs.Filled.{term_of}
use Rattle.slotted_model.specs.Applied.{Applied}
use Rattle.slotted_model.specs.LookUp.{look_up}
use Rattle.slotted_operations.specs.Nodes.{child_ids}

-- the term stands among the arguments, at some depth
abbrev pub StandsUnder : Term → Args → Type 0
StandsUnder s done = ⊥
StandsUnder s (name x rest) = StandsUnder s rest
StandsUnder s (child op payloads args rest) = (s ≡ record { op = op; payloads = payloads; args = args }) ⊎ StandsUnder s args ⊎
    StandsUnder s rest
StandsUnder s (bind x inner rest) = StandsUnder s inner ⊎ StandsUnder s rest

abbrev pub IsSubterm : Term → Term → Type 0
IsSubterm s t = (s ≡ t) ⊎ StandsUnder s t.args

-- with some terms in the places of its children the node is t, and each child is what its term is looked up as
pub record IsTopOf (look : DTerm → Option Applied) (t : Term) (f : Form) : Type 0 where
  pub parts : List Term
  pub whole : term_of f parts ≡ t
  pub count : length parts ≡ length (child_ids f)
  pub each : (i : ℕ) (a : Applied) (c : Term) → i < length parts →
      look_up look (nameless (slice_index_or parts i c)) ≡ Some (slice_index_or (child_ids f) i a)

pub record IsTopIn (look : DTerm → Option Applied) (t : Term) (f : Form) : Type 0 where
  pub subterm : Term
  pub stands : IsSubterm subterm t
  pub top : IsTopOf look subterm f

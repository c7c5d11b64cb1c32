-- What the calls that give canonical nodes and terms out need and leave, from the graph g to h. Where an id lacks names, fresh slots stand for
-- them; and a fresh slot is made for a binder.
--     FillsFresh g t u a b           b is a with its missing names: slots that were made from the table t to u
--     IsNodeOfFilling g h a f        f is the canonical node of such an id b
--     IsTermOfFilling g h a t        t is the canonical term of such an id b, up to bound names
--     IsNodeWhereFull, IsTermWhereFull     where a lacks no name, it is that of a
--     names_lacking nodes a          how many names the id lacks
--     node_binders, term_binders     how many binders the canonical node and term of a class have
--     slots_for_node, slots_for_term       how many fresh slots those of an id take: so many as it lacks names and these have binders
--     NodeRunsOut, TermRunsOut       fewer fresh slots were left than there are binders, or a node is too large
--     MakesForNodeOf, MakesForTermOf, RunsOutForNodeOf, RunsOutForTermOf     the counts of an id, from g to h
--     HasUnknownBinders t f          the table t knows no binder's name of the node f
--     FreshNodeRunsOut, MakesForFreshNode, RunsOutForFreshNode     the counts of a canonical node with fresh binders
use Rattle.std.specs.Prelude.{◌≡◌, ◌⊎◌, ℕ, ◌+◌, ◌*◌, List, All, Contains}
use Rattle.slotted_theory.specs.Term.{Term}
use Rattle.slotted_theory.specs.Nameless.{DTerm, nameless}
use Rattle.slotted_slots.specs.declared.types.AppliedId.{AppliedId}
use Rattle.slotted_slots.specs.Maps.{values}
use Rattle.slotted_slots.specs.Table.{Table, AllKnown}
use Rattle.slotted_nodes.specs.Form.{Form}
use Rattle.slotted_languages.specs.NewNames.{BindersAreUnknown}
use Rattle.slotted_terms.specs.Valid.{IsValidTerm}
use Rattle.slotted_model.specs.Applied.{Applied, keys}
use Rattle.slotted_model.specs.Classes.{canonical_node, canonical_term, term_of, IsFull}
use Rattle.slotted_proofs.specs.Equations.{to_applied}
use Rattle.slotted_classes.specs.Kept.{Kept, nodes_of}
pub use Rattle.slotted_operations.specs.Adding.{names_lacking}
use Rattle.slotted_operations.specs.Canonical.{binder_count, IsNodeOf}
use Rattle.slotted_operations.specs.Causes.{IsLargeNode, HasLargePart}
use Rattle.slotted_operations.specs.ValidIds.{Fills}
use Rattle.slotted_operations.specs.Good.{HasFreshSlots, IsNodeOver, image_of}
use Rattle.slotted_operations.specs.Graph.{Graph, IsFreshBetween, MakesAtMost, RunsOut}
use Rattle.slotted_operations.specs.Image.{Image}
use Rattle.slotted_operations.specs.Nodes.{child_ids}

-- names that lack

-- b is a with its missing names: different slots that the old table did not know and the new one made
pub record FillsFresh (g : Image) (old new : Table) (a b : Applied) : Type 0 where
  pub fills : Fills g a b
  pub fresh : (s x : ℕ) → Contains b.1 (s, x) → ¬ Contains (keys a.1) s → IsFreshBetween old new x

-- f is the canonical node of such an id
pub record IsFilledNode (g : Image) (old new : Table) (a : Applied) (f : Form) : Type 0 where
  pub filled : Applied
  pub fills : FillsFresh g old new a filled
  pub node : IsNodeOf g.canonical filled f

-- t is the canonical term of such an id, up to bound names
pub record IsFilledTerm (g : Image) (old new : Table) (a : Applied) (t : Term) : Type 0 where
  pub filled : Applied
  pub fills : FillsFresh g old new a filled
  pub term : nameless t ≡ term_of g.canonical filled

-- the same of the graph
abbrev pub IsNodeOfFilling : Graph → Graph → Applied → Form → Type 0
IsNodeOfFilling g h a f = IsFilledNode g.image g.table h.table a f

abbrev pub IsTermOfFilling : Graph → Graph → Applied → Term → Type 0
IsTermOfFilling g h a t = IsFilledTerm g.image g.table h.table a t

-- where a lacks no name, f is its canonical node
abbrev pub IsNodeWhereFull : List DTerm → Applied → Form → Type 0
IsNodeWhereFull nodes a f = IsFull nodes a → IsNodeOf nodes a f

-- where a lacks no name, t is its canonical term, up to bound names
abbrev pub IsTermWhereFull : List DTerm → Applied → Term → Type 0
IsTermWhereFull nodes a t = IsFull nodes a → nameless t ≡ term_of nodes a

-- fresh slots

abbrev pub node_binders : List DTerm → ℕ → ℕ
node_binders nodes i = binder_count (canonical_node nodes i)

abbrev pub term_binders : List DTerm → ℕ → ℕ
term_binders nodes i = binder_count (canonical_term nodes i)

-- one for each name that the id lacks, and one for each binder
abbrev pub slots_for_node : List DTerm → Applied → ℕ
slots_for_node nodes a = names_lacking nodes a + node_binders nodes a.0

abbrev pub slots_for_term : List DTerm → Applied → ℕ
slots_for_term nodes a = names_lacking nodes a + term_binders nodes a.0

-- fewer fresh slots were left than the canonical node of the class has binders, or it has too many places to be numbered
abbrev pub NodeRunsOut : List DTerm → ℕ → Table → Table → Type 0
NodeRunsOut nodes i old new = RunsOut (node_binders nodes i) old new ⊎ IsLargeNode nodes i

-- fewer were left than its canonical term has, or a node of that has too many places
abbrev pub TermRunsOut : List DTerm → ℕ → Table → Table → Type 0
TermRunsOut nodes i old new = RunsOut (term_binders nodes i) old new ⊎ HasLargePart nodes i

-- the same, where a fresh slot is made for each name that the id lacks too
abbrev pub FilledNodeRunsOut : List DTerm → Applied → Table → Table → Type 0
FilledNodeRunsOut nodes a old new = RunsOut (slots_for_node nodes a) old new ⊎ IsLargeNode nodes a.0

abbrev pub FilledTermRunsOut : List DTerm → Applied → Table → Table → Type 0
FilledTermRunsOut nodes a old new = RunsOut (slots_for_term nodes a) old new ⊎ HasLargePart nodes a.0

-- the same of the graph
abbrev pub RunsOutForNodeOf : Graph → Graph → Applied → Type 0
RunsOutForNodeOf g h a = FilledNodeRunsOut g.image.canonical a g.table h.table

abbrev pub RunsOutForTermOf : Graph → Graph → Applied → Type 0
RunsOutForTermOf g h a = FilledTermRunsOut g.image.canonical a g.table h.table

-- no more fresh slots are made than the id lacks names and there are binders
abbrev pub MakesForNodeOf : Graph → Graph → Applied → Type 0
MakesForNodeOf g h a = MakesAtMost (slots_for_node g.image.canonical a) g.table h.table

abbrev pub MakesForTermOf : Graph → Graph → Applied → Type 0
MakesForTermOf g h a = MakesAtMost (slots_for_term g.image.canonical a) g.table h.table

-- the same of the term of a class, for an id that lacks no name
abbrev pub MakesForTermAt : Graph → Graph → ℕ → Type 0
MakesForTermAt g h i = MakesAtMost (term_binders g.image.canonical i) g.table h.table

abbrev pub RunsOutForTermAt : Graph → Graph → ℕ → Type 0
RunsOutForTermAt g h i = TermRunsOut g.image.canonical i g.table h.table

-- nodes with fresh binders

abbrev pub HasUnknownBinders : Table → Form → Type 0
HasUnknownBinders t f = BindersAreUnknown t f f

-- fewer fresh slots were left than two for each binder of the canonical node of the class, or it has too many places to be numbered
abbrev pub FreshNodeRunsOut : List DTerm → ℕ → Table → Table → Type 0
FreshNodeRunsOut nodes i old new = RunsOut (2 * node_binders nodes i) old new ⊎ IsLargeNode nodes i

-- two slots at most for each binder of the id's canonical node
abbrev pub MakesForFreshNode : Graph → Graph → Applied → Type 0
MakesForFreshNode g h a = MakesAtMost (2 * node_binders g.image.canonical a.0) g.table h.table

abbrev pub RunsOutForFreshNode : Graph → Graph → Applied → Type 0
RunsOutForFreshNode g h a = FreshNodeRunsOut g.image.canonical a.0 g.table h.table

-- over what is kept

-- what is answered for an id that finds and has known names: its node, which is valid over the new table
pub record GivesNode (old new : Table) (k : Kept) (a : AppliedId) (f : Form) : Type 0 where
  pub filled : IsFilledNode (image_of k) old new (to_applied a) f
  pub node : IsNodeWhereFull (nodes_of k) (to_applied a) f
  pub valid : IsNodeOver new k f
  pub children : All (IsFull (nodes_of k)) (child_ids f)

-- or its term
pub record GivesTerm (old new : Table) (k : Kept) (a : AppliedId) (t : Term) : Type 0 where
  pub filled : IsFilledTerm (image_of k) old new (to_applied a) t
  pub term : IsTermWhereFull (nodes_of k) (to_applied a) t
  pub valid : IsValidTerm new t

-- so many fresh slots were not to be had
abbrev pub LacksForFilledNode : Kept → AppliedId → Table → Table → Type 0
LacksForFilledNode k a old new = FilledNodeRunsOut (nodes_of k) (to_applied a) old new

abbrev pub LacksForFilledTerm : Kept → AppliedId → Table → Table → Type 0
LacksForFilledTerm k a old new = FilledTermRunsOut (nodes_of k) (to_applied a) old new

-- the table knows the slots of all classes, and the names of a map
abbrev pub KnowsSlotsAnd : Table → Kept → List (ℕ × ℕ) → Type 0
KnowsSlotsAnd t k m = HasFreshSlots t k × AllKnown t (values m)

-- over such a table a full id needs a slot for each binder alone

abbrev pub MakesForNode : Kept → ℕ → List (ℕ × ℕ) → Table → Table → Type 0
MakesForNode k i m old new = KnowsSlotsAnd old k m → MakesAtMost (node_binders (nodes_of k) i) old new

abbrev pub MakesForTerm : Kept → ℕ → List (ℕ × ℕ) → Table → Table → Type 0
MakesForTerm k i m old new = KnowsSlotsAnd old k m → MakesAtMost (term_binders (nodes_of k) i) old new

abbrev pub LacksForFullNode : Kept → ℕ → List (ℕ × ℕ) → Table → Table → Type 0
LacksForFullNode k i m old new = KnowsSlotsAnd old k m → NodeRunsOut (nodes_of k) i old new

abbrev pub LacksForFullTerm : Kept → ℕ → List (ℕ × ℕ) → Table → Table → Type 0
LacksForFullTerm k i m old new = KnowsSlotsAnd old k m → TermRunsOut (nodes_of k) i old new

-- What holds of the lists of each graph that has not failed, and what each call of the graph leaves.
--     image_of k     what contracts see of what is kept
--     Good k         what holds of what is kept of each graph that has not failed
--     RestsWith k r  all is at rest, with what is filed
--     KeepsNotes k l what died stays listed, and what rebuilds noted goes on
--     Makes          what holds once a node has a class, before this is filed
--     Adds, AddsTerm, AddsFilled, AddsFound, Unites     what a call leaves
use Rattle.std.specs.Prelude.{◌≡◌, ◌⊎◌, ℕ, suc, ◌<◌, ◌≤◌, All, List, [], ◌∷◌, ◌++◌, length, Bool, false, Option, Some, None, Contains, IsSome}
use base.Stored.{Gv}
use Rattle.slotted_slots.specs.declared.types.AppliedId.{AppliedId}
use Rattle.slotted_slots.specs.Table.{KnowsMore, Table, empty_table, AllKnown}
use Rattle.slotted_theory.specs.Term.{Term}
use Rattle.slotted_theory.specs.Nameless.{DTerm, nameless}
use Rattle.slotted_theory.specs.Shape.{shape}
use Rattle.slotted_nodes.specs.Form.{Form, IsSmall}
use Rattle.slotted_languages.specs.NewNames.{IsTooLarge}
use Rattle.slotted_languages.specs.NodeTerm.{nameless_node}
use Rattle.slotted_languages.specs.Shape.{Fits}
use Rattle.slotted_model.specs.Adding.{SameAnswers, with_new_class}
use Rattle.slotted_model.specs.Adding as model
use Rattle.slotted_model.specs.Applied.{Applied, EachChild, values}
use Rattle.slotted_model.specs.Changes.{GoesOn}
use Rattle.slotted_model.specs.Classes.{canonical_slots, term_of, IsFull}
use Rattle.slotted_model.specs.Find.{Entry, find, find_class, find_map}
use Rattle.slotted_model.specs.Growth.{Extends, IsNew}
use Rattle.slotted_model.specs.Ids.{id_of_node, id_of}
use Rattle.slotted_model.specs.Rest.{Represents, lives_from, slots_from}
use Rattle.slotted_model.specs.Normal.{normal}
use Rattle.slotted_model.specs.State.{Row, State, look_up_node, look_up_tree}
use Rattle.slotted_proofs.specs.Entries.{Proven}
use Rattle.slotted_proofs.specs.Equations.{to_applied}
use Rattle.slotted_classes.specs.Counts.{noted}
use Rattle.slotted_classes.specs.Finding.{IsFindable}
use Rattle.slotted_classes.specs.Kept.{Kept, node_at, nodes_of, entries_of, proofs_of, rows_from, size_of, with_counts}
use Rattle.slotted_classes.specs.Names.{HasNumberedBinders}
use Rattle.slotted_hashcons.specs.FiledRows.{Rows, rows_in}
use Rattle.slotted_classes.specs.StateOf.{state_with}
use Rattle.slotted_classes.specs.Stored.{Stored}
use Rattle.slotted_rebuilding.specs.Counted.{CountsFit, CountsOn}
use Rattle.slotted_hashcons.specs.WellFiled.{state_in, IsWellFiled}
use Rattle.slotted_operations.specs.Adding.{HasChildrenFilled, HasLargeClassOrFilled, children_lack, IsOfTerm, MakesFilledClass, RunsOutForFilled, slots_needed, term_nodes}
use Rattle.slotted_operations.specs.Causes.{HasLargeClassIn, HasLargeClassOrNode, HasLargeClassOrTerm}
use Rattle.slotted_operations.specs.Graph.{Graph, IsFreshBetween, HasNewClass, MakesAtMost}
use Rattle.slotted_operations.specs.Image.{Image, AddsClasses, NewClassesAre, IsIdOfNode, IsIdOfSubterm, IsUnion, RecordsFilled}
use Rattle.slotted_operations.specs.Nodes.{child_ids}
use Rattle.slotted_operations.specs.Subterms.{IsSubterm, IsTopIn}

-- what the classes from the number i on find: a live class, and their own slot for each slot of that
abbrev pub finds_from : List Entry → ℕ → List Entry → List Applied
finds_from found i [] = []
finds_from found i (e ∷ es) = (find_class found i, find_map found i) ∷ finds_from found (suc i) es

-- what contracts see of it
abbrev pub image_of : Kept → Image
image_of k = record {
  canonical = nodes_of k;
  found = finds_from (entries_of k) 0 (entries_of k);
  entries = proofs_of k;
  stored = k.proofs;
  symmetries = k.symmetries;
  counts = k.counts;
}

-- what contracts see of a graph in which this is kept, with these filed nodes, by what its analysis keeps
abbrev pub graph_of : Bool → Table → Kept → List Row → Gv → Graph
graph_of b t k rows part = record { failed = b; table = t; image = image_of k; filed = rows; part = part }

-- the id has a known slot for each slot of its class
abbrev pub IsFullOver : Table → Kept → AppliedId → Type 0
IsFullOver t k a = IsFull (nodes_of k) (to_applied a) × AllKnown t (values a.m)

-- the id finds, and its names are known slots
abbrev pub IsIdOver : Table → Kept → AppliedId → Type 0
IsIdOver t k a = IsFindable k (to_applied a) × AllKnown t (values a.m)

-- the node has fewer than 2^30 places, known slots, and children that find
abbrev pub IsNodeOver : Table → Kept → Form → Type 0
IsNodeOver t k f = IsSmall f × AllKnown t f.names × All (IsFindable k) (child_ids f)

-- rows file the canonical nodes, whose binders are numbered, all is stored as a union needs it, and each listed symmetry is aligned
pub record Good (k : Kept) : Type 0 where
  pub rows : k.rows ≡ rows_from 0 k.classes
  pub fits : (i : ℕ) → i < length k.classes → Fits (node_at k i)
  pub numbered : (i : ℕ) → i < length k.classes → HasNumberedBinders (node_at k i)
  pub stored : Stored k
  pub settled : k.dropped ≡ false

-- the slots of classes are fresh ones that the table made
abbrev pub HasFreshSlots : Table → Kept → Type 0
HasFreshSlots t k = (i s : ℕ) → i < length k.classes → Contains (canonical_slots (nodes_of k) i) s → IsFreshBetween empty_table t s

-- all is at rest with what is filed: the filed nodes fit what is kept, each class is linked to one of them, the sides of each asserted
-- equation are equal up to listed symmetries, nothing waits, and what rebuilds noted is within its bounds
pub record RestsWith (k : Kept) (r : Rows) : Type 0 where
  pub filed : IsWellFiled k r
  pub represents : Represents (state_in k r)
  pub quiet : r.waiting ≡ []
  pub noted : CountsFit k.counts (size_of k)

-- the classes that died are still listed, and perhaps more, and what rebuilds noted goes on
pub record KeepsNotes (k l : Kept) : Type 0 where
  pub gone : List ℕ
  pub deaths : l.deaths ≡ k.deaths ++ gone
  pub counts : CountsOn k l

-- there is one class more, for a new node with the shape of f, whichever nodes are filed and whatever waits
pub record MakesOne (k l : Kept) (f : Form) : Type 0 where
  pub node : DTerm
  pub is_new : IsNew (nodes_of k) node
  pub same_shape : shape node ≡ shape (nameless_node f)
  pub count : length l.classes ≡ suc (length k.classes)
  pub state : (rows : List Row) (waiting : List ℕ) → state_with l rows waiting ≡ with_new_class (state_with k rows waiting) node

-- what is kept has a class for the node f, which the look-up answers, and the slots of new classes are new
pub record Makes (old new : Table) (k l : Kept) (f : Form) (a : Applied) : Type 0 where
  pub good : Good l
  pub fresh_slots : HasFreshSlots new l
  pub extends : Extends (nodes_of k) (nodes_of l)
  pub more : List Proven
  pub proofs : l.proofs ≡ k.proofs ++ more
  pub symmetries : l.symmetries ≡ k.symmetries
  pub deaths : l.deaths ≡ k.deaths
  pub counts : l.counts ≡ k.counts
  pub found : id_of_node (nodes_of l) (nameless_node f) ≡ Some a
  pub filed : NewClassesAre (nodes_of k) (nodes_of l) (IsIdOfNode (nodes_of l) (nameless_node f))
  pub kept : IsSome (id_of_node (nodes_of k) (nameless_node f)) → (l ≡ k) × (new ≡ old)
  pub made : id_of_node (nodes_of k) (nameless_node f) ≡ None → HasNewClass old new (nodes_of k) (nodes_of l) (nameless_node f)
  pub step : (l ≡ k) ⊎ MakesOne k l f
  pub large : HasLargeClassIn (image_of l) → HasLargeClassOrNode (image_of k) f

-- in the model's words a class was made of a new node with the shape of f, and then no answer changed
pub record MakesClassOf (g : State) (f : Form) (h : State) : Type 0 where
  pub node : DTerm
  pub is_new : IsNew g.nodes node
  pub same_shape : shape node ≡ shape (nameless_node f)
  pub between : State
  pub adds : model.Adds g node between
  pub same : SameAnswers between h

-- what `Makes` says, and all is rebuilt
pub record Adds (old new : Table) (k : Kept) (r : Rows) (l : Kept) (q : Rows) (f : Form) (a : Applied) : Type 0 where
  pub good : Good l
  pub rests : RestsWith l q
  pub fresh_slots : HasFreshSlots new l
  pub extends : Extends (nodes_of k) (nodes_of l)
  pub goes_on : GoesOn (state_in k r) (state_in l q)
  pub adds : AddsClasses (image_of k) (image_of l)
  pub notes : KeepsNotes k l
  pub found : id_of_node (nodes_of l) (nameless_node f) ≡ Some a
  pub filed : NewClassesAre (nodes_of k) (nodes_of l) (IsIdOfNode (nodes_of l) (nameless_node f))
  pub kept : IsSome (id_of_node (nodes_of k) (nameless_node f)) → (l ≡ k) × (q ≡ r) × (new ≡ old)
  pub made : id_of_node (nodes_of k) (nameless_node f) ≡ None → HasNewClass old new (nodes_of k) (nodes_of l) (nameless_node f)
  pub step : ((l ≡ k) × (q ≡ r)) ⊎ MakesClassOf (state_in k r) f (state_in l q)
  pub large : HasLargeClassIn (image_of l) → HasLargeClassOrNode (image_of k) f

-- valid ids find what they found, and what was looked up is looked up as before
pub record KeepsAnswers (k : Kept) (r : Rows) (l : Kept) (q : Rows) : Type 0 where
  pub finds : (a : Applied) → IsFindable k a → find (entries_of l) a ≡ find (entries_of k) a
  pub nodes : (d : DTerm) → EachChild (IsFindable k) d.args → (a : Applied) → look_up_node (state_in k r) d ≡ Some a →
      look_up_node (state_in l q) d ≡ Some a
  pub trees : (t : DTerm) (a : Applied) → look_up_tree (state_in k r) t ≡ Some a → look_up_tree (state_in l q) t ≡ Some a

-- the class of the node with its children filled was there by canonical nodes, or is made
pub record AddsFilled (old new : Table) (k : Kept) (r : Rows) (l : Kept) (q : Rows) (f : Form) (a : Applied) : Type 0 where
  pub filled : Form
  pub fits : Fits filled
  pub between : Table
  pub no_more : old.fresh ≤ between.fresh
  pub filling : MakesAtMost (children_lack (image_of k) f) old between
  pub fills : HasChildrenFilled (nodes_of k) old f (nameless_node filled)
  pub full : All (IsFull (nodes_of k)) (child_ids filled)
  pub known : AllKnown new filled.names
  pub one_form : normal (entries_of k) (nameless_node filled) ≡ normal (entries_of k) (nameless_node f)
  pub same : All (IsFull (nodes_of k)) (child_ids f) → filled ≡ f
  pub adds : Adds between new k r l q filled a
  pub large : HasLargeClassIn (image_of l) → HasLargeClassOrFilled (image_of k) f

-- the node is looked up, or, where it was not, a class was made of it with its children filled, and it is looked up now
pub record AddsFound (old new : Table) (k : Kept) (r : Rows) (l : Kept) (q : Rows) (f : Form) (a : Applied) : Type 0 where
  pub good : Good l
  pub rests : RestsWith l q
  pub fresh_slots : HasFreshSlots new l
  pub extends : Extends (nodes_of k) (nodes_of l)
  pub goes_on : GoesOn (state_in k r) (state_in l q)
  pub adds : AddsClasses (image_of k) (image_of l)
  pub notes : KeepsNotes k l
  pub keeps : KeepsAnswers k r l q
  pub found : look_up_node (state_in l q) (nameless_node f) ≡ Some a
  pub kept : IsSome (look_up_node (state_in k r) (nameless_node f)) → (l ≡ k) × (q ≡ r) × (new ≡ old)
  pub made : look_up_node (state_in k r) (nameless_node f) ≡ None → MakesFilledClass old new (nodes_of k) (nodes_of l) f a
  pub large : HasLargeClassIn (image_of l) → HasLargeClassOrFilled (image_of k) f

-- slots ran out for a node that is not looked up, or that has too many places to be numbered
abbrev pub RunsOutForUnknownIn : Table → Table → Kept → Rows → Form → Type 0
RunsOutForUnknownIn old new k r f =
    RunsOutForFilled (image_of k) f old new × ((look_up_node (state_in k r) (nameless_node f) ≡ None) ⊎ IsTooLarge f)

-- what is kept has an id for the term t, the slots of classes are fresh ones, and all is rebuilt
pub record AddsTerm (old new : Table) (k : Kept) (r : Rows) (l : Kept) (q : Rows) (t : Term) (a : Applied) : Type 0 where
  pub good : Good l
  pub rests : RestsWith l q
  pub fresh_slots : HasFreshSlots new l
  pub extends : Extends (nodes_of k) (nodes_of l)
  pub goes_on : GoesOn (state_in k r) (state_in l q)
  pub adds : AddsClasses (image_of k) (image_of l)
  pub notes : KeepsNotes k l
  pub full : IsFull (nodes_of l) a
  pub term : term_of (nodes_of l) a ≡ nameless t
  pub filed : NewClassesAre (nodes_of k) (nodes_of l) (IsIdOfSubterm (nodes_of l) t)
  pub kept : IsSome (id_of (nodes_of k) (nameless t)) → (l ≡ k) × (q ≡ r) × (new ≡ old)
  pub large : HasLargeClassIn (image_of l) → HasLargeClassOrTerm (image_of k) t

-- the id finds, and the table knows its names
abbrev pub IsFoundIn : Table → Kept → Applied → Type 0
IsFoundIn t k a = IsFindable k a × AllKnown t (values a.1)

-- a node at the top of a subterm of w, whose children find, is added to what is kept: by look-up, with known names, and of no more places and
-- no larger than w
pub record AddsNodeIn (w : Term) (t : Table) (k : Kept) (r : Rows) (u : Table) (l : Kept) (q : Rows) : Type 0 where
  pub node : Form
  pub fits : Fits node
  pub children : All (IsFoundIn t k) (child_ids node)
  pub known : AllKnown t node.names
  pub small : IsOfTerm w node
  pub top : IsTopIn (look_up_node (state_in k r)) w node
  pub answer : Applied
  pub added : AddsFound t u k r l q node answer
  pub more : KnowsMore t u
  pub makes : MakesAtMost (slots_needed (image_of k) node) t u

-- so many nodes of the term w are added, one after another
pub data AddsNodesIn (w : Term) (t : Table) (k : Kept) (r : Rows) : ℕ → Table → Kept → Rows → Type 0 where
  none_added : AddsNodesIn w t k r 0 t k r
  one_added : {n : ℕ} {u v : Table} {l m : Kept} {q s : Rows} → AddsNodesIn w t k r n u l q → AddsNodeIn w u l q v m s →
      AddsNodesIn w t k r (suc n) v m s

-- each class that l has more than k is what a subterm of w is looked up as
abbrev pub FilesSubterms : Kept → Kept → Rows → Term → Type 0
FilesSubterms k l q w =
    (i : ℕ) → length (nodes_of k) ≤ i → i < length (nodes_of l) →
    (a : Applied) × (a.0 ≡ i) × (s : Term) × IsSubterm s w × (look_up_tree (state_in l q) (nameless s) ≡ Some a)

-- the nodes of the term w are added, and it is looked up
pub record AddsFoundTerm (t : Table) (k : Kept) (r : Rows) (u : Table) (l : Kept) (q : Rows) (w : Term) (a : Applied) : Type 0 where
  pub nodes : AddsNodesIn w t k r (term_nodes w) u l q
  pub found : look_up_tree (state_in l q) (nameless w) ≡ Some a
  pub known : AllKnown u (values a.1)
  pub kept : IsSome (look_up_tree (state_in k r) (nameless w)) → (l ≡ k) × (q ≡ r) × (u ≡ t)
  pub filed : FilesSubterms k l q w

-- some of its nodes are added, and perhaps slots are made for one more
pub record TakesForTermIn (w : Term) (t : Table) (k : Kept) (r : Rows) (v : Table) : Type 0 where
  pub count : ℕ
  pub few : count ≤ term_nodes w
  pub between : Table
  pub kept : Kept
  pub rows : Rows
  pub nodes : AddsNodesIn w t k r count between kept rows
  pub last : (v ≡ between) ⊎ ((f : Form) × All (IsFoundIn between kept) (child_ids f) × AllKnown between f.names × Fits f × IsOfTerm w f
      × MakesAtMost (slots_needed (image_of kept) f) between v × IsTopIn (look_up_node (state_in kept rows)) w f)

-- slots ran out for a node that is looked up as a subterm is, after others were added
pub record LacksForTermIn (w : Term) (t : Table) (k : Kept) (r : Rows) (v : Table) : Type 0 where
  pub count : ℕ
  pub few : count < term_nodes w
  pub between : Table
  pub kept : Kept
  pub rows : Rows
  pub nodes : AddsNodesIn w t k r count between kept rows
  pub node : Form
  pub fits : Fits node
  pub children : All (IsFoundIn between kept) (child_ids node)
  pub known : AllKnown between node.names
  pub small : IsOfTerm w node
  pub cause : RunsOutForUnknownIn between v kept rows node
  pub top : IsTopIn (look_up_node (state_in kept rows)) w node
  pub same : look_up_tree (state_in kept rows) (nameless top.subterm) ≡ look_up_node (state_in kept rows) (nameless_node node)

-- from k to l the number of live classes does not rise, and where it stays, that of their slots does not
pub record NeverMore (k l : Kept) : Type 0 where
  pub live : lives_from 0 (entries_of l) ≤ lives_from 0 (entries_of k)
  pub slots : lives_from 0 (entries_of l) ≡ lives_from 0 (entries_of k) → slots_from 0 (entries_of l) ≤ slots_from 0 (entries_of k)

-- a rebuild is noted that found nothing to do
abbrev pub with_rest_noted : Kept → Rows → Kept
with_rest_noted k r = with_counts k (noted k.counts (length (rows_in r.filed)) (size_of k) (size_of k) 0)

-- the last rebuild that was noted found no more filed nodes and no greater size than there were, and left the size that is now
pub record NotesLast (k : Kept) (r : Rows) (l : Kept) : Type 0 where
  pub nodes : l.counts.nodes ≤ length (rows_in r.filed)
  pub before : l.counts.size_before ≤ size_of k
  pub after : l.counts.size_after ≡ size_of l

-- what a union of a and b answers, and what it leaves, where the text says why
pub record Unites (k : Kept) (r : Rows) (l : Kept) (q : Rows) (a b : Applied) (text : Option (List ℕ)) (y : Bool) : Type 0 where
  pub good : Good l
  pub rests : RestsWith l q
  pub nodes : nodes_of l ≡ nodes_of k
  pub goes_on : GoesOn (state_in k r) (state_in l q)
  pub union : IsUnion (image_of k) (image_of l) a b y
  pub counts : NeverMore k l
  pub records : RecordsFilled (image_of k) (image_of l) a b text
  pub notes : KeepsNotes k l
  pub last : NotesLast k r l

-- the same of two ids of the code
abbrev pub UnitesSides : Kept → Rows → Kept → Rows → AppliedId → AppliedId → Option (List ℕ) → Bool → Type 0
UnitesSides k r l q a b text y = Unites k r l q (to_applied a) (to_applied b) text y

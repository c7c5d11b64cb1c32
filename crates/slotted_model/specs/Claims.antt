-- The laws of these definitions, all owed by `laws_hold` in src/lib.rt.
use Rattle.std.specs.Prelude.{◌≡◌, ◌↔◌, ℕ, ◌<◌, List, [], length, Some, None, option_map, Contains}
use Rattle.slotted_theory.specs.Nameless.{DTerm, moved}
use Rattle.slotted_theory.specs.Renaming.{IsInjective}
use Rattle.slotted_theory.specs.FiniteMaps.{filled}
use Rattle.slotted_theory.specs.Shape.{shape, SameUpToNames}
use Rattle.slotted_theory.proofs.Values.{value}
use Rattle.slotted_model.specs.Ascending.{ascending, names}
use Rattle.slotted_model.specs.Applied.{Applied, values, renamed_id, as_term, EachChild, IsNode}
use Rattle.slotted_model.specs.Trees.{IsTree}
use Rattle.slotted_model.specs.Classes.{canonical_node, canonical_term, term_of, layer_of, canonical_slots, IsFull, Canonical}
use Rattle.slotted_model.specs.LookUp.{found_or}
use Rattle.slotted_model.specs.Ids.{id_of_node, id_of}
use Rattle.slotted_model.specs.Image.{Image, with_class}
use Rattle.slotted_model.specs.Growth.{IsNew, Added}
use Rattle.slotted_model.specs.Filling.{IsValid, IsFilling, EqualForSomeFilling, EqualForEveryFilling, RenamedFilling, RenamedTogether}

-- the free names of a canonical term are the class's canonical slots
abbrev pub CanonicalTermsHaveTheirSlots : Type 0
CanonicalTermsHaveTheirSlots = (nodes : List DTerm) → Canonical nodes → (i : ℕ) → i < length nodes →
    names (canonical_term nodes i) ≡ canonical_slots nodes i

-- the free names of a full id's term are the id's names
abbrev pub TermsHaveTheirNames : Type 0
TermsHaveTheirNames = (nodes : List DTerm) → Canonical nodes → (a : Applied) → IsFull nodes a →
    names (term_of nodes a) ≡ ascending (values a.1)

-- f tells the names of the list apart
abbrev pub IsInjectiveOn : (ℕ → ℕ) → List ℕ → Type 0
IsInjectiveOn f xs = (x y : ℕ) → Contains xs x → Contains xs y → f x ≡ f y → x ≡ y

-- a full id with its names renamed is full, and stands for the renamed term
abbrev pub RenamingMovesTerms : Type 0
RenamingMovesTerms = (nodes : List DTerm) → Canonical nodes → (a : Applied) → IsFull nodes a → (f : ℕ → ℕ) →
    IsInjectiveOn f (values a.1) → IsFull nodes (renamed_id f a) × (term_of nodes (renamed_id f a) ≡ moved f (term_of nodes a))

-- a full id stands for its canonical node, with the names put in, over what the children stand for
abbrev pub TermsAreLayers : Type 0
TermsAreLayers = (nodes : List DTerm) → Canonical nodes → (a : Applied) → IsFull nodes a →
    term_of nodes a ≡ layer_of nodes (moved (filled a.1) (canonical_node nodes a.0))

-- the term of a full id holds no ids
abbrev pub TermsAreTrees : Type 0
TermsAreTrees = (nodes : List DTerm) → Canonical nodes → (a : Applied) → IsFull nodes a → IsTree (term_of nodes a)

-- an operator of the language over full ids is a node
abbrev pub FullNodesAreNodes : Type 0
FullNodesAreNodes = (nodes : List DTerm) (d : DTerm) → 0 < d.op → EachChild (IsFull nodes) d.args → IsNode d

-- full ids with one canonical term are the same
abbrev pub TermsTellIdsApart : Type 0
TermsTellIdsApart = (nodes : List DTerm) → Canonical nodes → (a b : Applied) → IsFull nodes a → IsFull nodes b →
    (term_of nodes a ≡ term_of nodes b) ↔ (a ≡ b)

-- the id of a node over full ids is the full id that stands for it, if there is one
abbrev pub NodesAreFound : Type 0
NodesAreFound = (nodes : List DTerm) → Canonical nodes → (d : DTerm) → EachChild (IsFull nodes) d.args → (a : Applied) →
    (id_of_node nodes d ≡ Some a) ↔ (IsFull nodes a × (term_of nodes a ≡ layer_of nodes d))

-- the id of a tree is the full id that stands for it, if there is one
abbrev pub TreesAreFound : Type 0
TreesAreFound = (nodes : List DTerm) → Canonical nodes → (t : DTerm) (a : Applied) → (id_of nodes t ≡ Some a) ↔
    (IsFull nodes a × (term_of nodes a ≡ t))

-- the id of a renamed tree is the renamed id
abbrev pub RenamingMovesIds : Type 0
RenamingMovesIds = (nodes : List DTerm) → Canonical nodes → (f : ℕ → ℕ) → IsInjective f → (t : DTerm) →
    id_of nodes (moved f t) ≡ option_map (renamed_id f) (id_of nodes t)

-- a tree has an id exactly if its value from the bottom up is that id
abbrev pub IdsAreValues : Type 0
IdsAreValues = (nodes : List DTerm) → Canonical nodes → (t : DTerm) → IsTree t → (a : Applied) → (id_of nodes t ≡ Some a) ↔
    (value (found_or (id_of_node nodes)) t ≡ as_term a)

-- a node has no id exactly if no canonical node has its shape
abbrev pub NewShapesAreNotFound : Type 0
NewShapesAreNotFound = (nodes : List DTerm) (d : DTerm) → (id_of_node nodes d ≡ None) ↔
    ((i : ℕ) → i < length nodes → ¬ (shape (canonical_node nodes i) ≡ shape d))

-- a new node becomes a class, and leaves what was
abbrev pub NewClassesExtend : Type 0
NewClassesExtend = (g : Image) (c : DTerm) → Canonical g.canonical → IsNew g.canonical c → Added g.canonical (with_class g c).canonical c

-- a node is new under any names
abbrev pub RenamedNodesAreNew : Type 0
RenamedNodesAreNew = (nodes : List DTerm) (d c : DTerm) → SameUpToNames d c → IsNew nodes d → IsNew nodes c

-- where no slot has been dropped the valid ids are the full ones
abbrev pub ValidIsFull : Type 0
ValidIsFull = (nodes : List DTerm) (a : Applied) → IsValid (canonical_slots nodes) nodes a ↔ IsFull nodes a

-- a full id lacks no name
abbrev pub FullIsFilled : Type 0
FullIsFilled = (nodes : List DTerm) (given : List ℕ) (a b : Applied) → IsFull nodes a → IsFilling nodes given a b ↔ (b ≡ a)

-- an id that is valid over fewer slots has a filling, whatever the names given
abbrev pub FillingsExist : Type 0
FillingsExist = (nodes : List DTerm) (slots : ℕ → List ℕ) (given : List ℕ) (a : Applied) → IsValid slots nodes a → (b : Applied) ×
    IsFilling nodes given a b

-- what an id that lacks names stands for is what one of its fillings stands for
abbrev pub LackingIdsStandForAFilling : Type 0
LackingIdsStandForAFilling = (nodes : List DTerm) → Canonical nodes → (slots : ℕ → List ℕ) (a : Applied) → IsValid slots nodes a →
    (b : Applied) × IsFilling nodes [] a b × (term_of nodes b ≡ term_of nodes a)

-- fillings of one id differ by a bijection of the names that it has not
abbrev pub FillingsAreRenamed : Type 0
FillingsAreRenamed = (nodes : List DTerm) (given : List ℕ) (a b c : Applied) → IsFilling nodes given a b →
    IsFilling nodes given a c → RenamedFilling given a b c

-- and so do two ids, each filled by names that the other has not
abbrev pub PairsOfFillingsAreRenamed : Type 0
PairsOfFillingsAreRenamed = (nodes : List DTerm) (a b left right other_left other_right : Applied) →
    IsFilling nodes (values b.1) a left → IsFilling nodes (values left.1) b right →
    IsFilling nodes (values b.1) a other_left → IsFilling nodes (values other_left.1) b other_right →
    RenamedTogether left other_left right other_right

-- whether some or every filling has equal terms does not matter
abbrev pub SomeFillingIsEveryFilling : Type 0
SomeFillingIsEveryFilling = (nodes : List DTerm) → Canonical nodes → (slots : ℕ → List ℕ) (a b : Applied) →
    IsValid slots nodes a → IsValid slots nodes b → EqualForSomeFilling nodes a b ↔ EqualForEveryFilling nodes a b

-- where no slot has been dropped, valid ids are the same exactly if they stand for one term, whether some or every filling is asked
abbrev pub ValidIdsAreTerms : Type 0
ValidIdsAreTerms = (nodes : List DTerm) → Canonical nodes → (a b : Applied) → IsValid (canonical_slots nodes) nodes a →
    IsValid (canonical_slots nodes) nodes b →
    ((a ≡ b) ↔ EqualForSomeFilling nodes a b) × ((a ≡ b) ↔ EqualForEveryFilling nodes a b)

-- all these laws
pub record Laws : Type 0 where
  pub canonical_terms_have_their_slots : CanonicalTermsHaveTheirSlots
  pub terms_have_their_names : TermsHaveTheirNames
  pub renaming_moves_terms : RenamingMovesTerms
  pub terms_are_layers : TermsAreLayers
  pub terms_are_trees : TermsAreTrees
  pub full_nodes_are_nodes : FullNodesAreNodes
  pub terms_tell_ids_apart : TermsTellIdsApart
  pub nodes_are_found : NodesAreFound
  pub trees_are_found : TreesAreFound
  pub renaming_moves_ids : RenamingMovesIds
  pub ids_are_values : IdsAreValues
  pub new_shapes_are_not_found : NewShapesAreNotFound
  pub new_classes_extend : NewClassesExtend
  pub renamed_nodes_are_new : RenamedNodesAreNew
  pub valid_is_full : ValidIsFull
  pub full_is_filled : FullIsFilled
  pub fillings_exist : FillingsExist
  pub lacking_ids_stand_for_a_filling : LackingIdsStandForAFilling
  pub fillings_are_renamed : FillingsAreRenamed
  pub pairs_of_fillings_are_renamed : PairsOfFillingsAreRenamed
  pub some_filling_is_every_filling : SomeFillingIsEveryFilling
  pub valid_ids_are_terms : ValidIdsAreTerms

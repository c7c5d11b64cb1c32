-- The laws of substitution over ids, all owed by `replaced_id_laws_hold` in src/substitution.rt.
use Rattle.std.specs.Prelude.{◌≡◌, ◌≢◌, ◌⊎◌, ℕ, ◌<◌, List, length, Contains}
use Rattle.slotted_theory.specs.Nameless.{DArgs, DTerm, moved}
use Rattle.slotted_theory.specs.Renaming.{IsInjective}
use Rattle.slotted_theory.specs.Shape.{free_names}
use Rattle.slotted_theory.proofs.Values.{node}
use Rattle.slotted_model.specs.Applied.{Applied, values, renamed_id}
use Rattle.slotted_model.specs.Classes.{term_of, layer_of, IsFull, Canonical}
use Rattle.slotted_model.specs.Filling.{FillsArgs}
use Rattle.slotted_model.specs.Growth.{Extends}
use Rattle.slotted_model_rules.specs.Matcher.{NodeArgs, unnamed, bound_names}
use Rattle.slotted_model_rules.specs.Substitution.{substituted, StandsIn}
use Rattle.slotted_model_rules.specs.ReplacedIds.{IsReplaced, IsOlderOrLacks, HasReplacedChildren, HasReplacedIds, ids_of, id_at, HasOtherIds}

-- what stands in the term of b is b itself, or of an older class
abbrev pub PartsAreOlder : Type 0
PartsAreOlder = (nodes : List DTerm) → Canonical nodes → (x b : Applied) → IsFull nodes x → IsFull nodes b →
    StandsIn (term_of nodes x) (term_of nodes b) → (b ≡ x) ⊎ (x.0 < b.0)

-- and each of its names is one of b: under binders of b x stands as it is seen from there
abbrev pub PartsHaveFewerNames : Type 0
PartsHaveFewerNames = (nodes : List DTerm) → Canonical nodes → (x b : Applied) → IsFull nodes x → IsFull nodes b →
    StandsIn (term_of nodes x) (term_of nodes b) → (y : ℕ) → Contains (values x.1) y → Contains (values b.1) y

-- the same of terms alone
abbrev pub PartsHaveFewerFreeNames : Type 0
PartsHaveFewerFreeNames = (x b : DTerm) → StandsIn x b → (y : ℕ) → Contains (free_names x.args) y → Contains (free_names b.args) y

-- so an id of an older class, or one that lacks a name of x, stays what it is
abbrev pub OlderIdsStay : Type 0
OlderIdsStay = (nodes : List DTerm) → Canonical nodes → (x b : Applied) → IsFull nodes x → IsFull nodes b → IsOlderOrLacks b x →
    (¬ StandsIn (term_of nodes x) (term_of nodes b)) × ((t : Applied) → IsReplaced nodes x t b b)

-- and so it is under binders of a node, where f gives the names outside the numbers that they have there
abbrev pub OlderIdsStayInside : Type 0
OlderIdsStayInside = (nodes : List DTerm) → Canonical nodes → (f : ℕ → ℕ) → IsInjective f → (x b : Applied) → IsFull nodes x →
    IsFull nodes b → IsOlderOrLacks b (renamed_id f x) →
    (t : DTerm) → substituted (moved f (term_of nodes x)) t (term_of nodes b) ≡ term_of nodes b

-- x itself becomes t
abbrev pub WholeIdsAreReplaced : Type 0
WholeIdsAreReplaced = (nodes : List DTerm) (x t : Applied) → IsFull nodes t → IsReplaced nodes x t x t

-- any other id: where d stands for b, a full id of d over what comes of its children is what comes of b
abbrev pub OtherIdsAreSearched : Type 0
OtherIdsAreSearched = (nodes : List DTerm) → Canonical nodes → (x t b a : Applied) → IsFull nodes x → IsFull nodes b → b ≢ x →
    (d : DTerm) → term_of nodes b ≡ layer_of nodes d →
    (m : DArgs) → HasReplacedChildren nodes (term_of nodes x) (term_of nodes t) d.args m →
    (given : List ℕ) (e : DArgs) → FillsArgs nodes given m e → IsFull nodes a →
    term_of nodes a ≡ layer_of nodes (node d.op d.payloads e) → IsReplaced nodes x t b a

-- where binders have names of neither x nor t, a child with these names is seen from inside by its numbers
abbrev pub NamesAreSeenInside : Type 0
NamesAreSeenInside = (nodes : List DTerm) → Canonical nodes → (x t : Applied) → IsFull nodes x → IsFull nodes t → (n m : NodeArgs) →
    HasReplacedIds nodes x t n m →
    HasReplacedChildren nodes (term_of nodes x) (term_of nodes t) (unnamed (λ y. y) n) (unnamed (λ y. y) m)

-- so it is where each id has come of that of its number in a loop over the children
abbrev pub IdsAreReplacedByNumber : Type 0
IdsAreReplacedByNumber =
    (nodes : List DTerm) (x t : Applied) (n m : NodeArgs) → HasOtherIds n m →
    ((y : ℕ) → Contains (bound_names n) y → (¬ Contains (values x.1) y) × (¬ Contains (values t.1) y)) →
    ((k : ℕ) → k < length (ids_of n) → IsFull nodes (id_at n k) × IsReplaced nodes x t (id_at n k) (id_at m k)) →
    HasReplacedIds nodes x t n m

-- both together, of a node with names
abbrev pub NamedNodesAreSearched : Type 0
NamedNodesAreSearched =
    (nodes : List DTerm) → Canonical nodes → (x t b a : Applied) → IsFull nodes x → IsFull nodes t → IsFull nodes b → b ≢ x →
    (op : ℕ) (payloads : List (List ℕ)) (n : NodeArgs) → term_of nodes b ≡ layer_of nodes (node op payloads (unnamed (λ y. y) n)) →
    (m : NodeArgs) → HasReplacedIds nodes x t n m →
    (given : List ℕ) (e : DArgs) → FillsArgs nodes given (unnamed (λ y. y) m) e → IsFull nodes a →
    term_of nodes a ≡ layer_of nodes (node op payloads e) → IsReplaced nodes x t b a

-- where each child of it stays, b stays too, and no node has to be added
abbrev pub UnchangedNodesStay : Type 0
UnchangedNodesStay =
    (nodes : List DTerm) → Canonical nodes → (x t b : Applied) → IsFull nodes x → IsFull nodes t → IsFull nodes b → b ≢ x →
    (op : ℕ) (payloads : List (List ℕ)) (n : NodeArgs) → term_of nodes b ≡ layer_of nodes (node op payloads (unnamed (λ y. y) n)) →
    HasReplacedIds nodes x t n n → IsReplaced nodes x t b b

-- new classes change none of this
abbrev pub ReplacedIdsStay : Type 0
ReplacedIdsStay = (older newer : List DTerm) → Extends older newer → (x t : Applied) → IsFull older x → IsFull older t →
    ((b a : Applied) → IsFull older b → IsReplaced older x t b a → IsReplaced newer x t b a) ×
    ((n m : NodeArgs) → HasReplacedIds older x t n m → HasReplacedIds newer x t n m)

-- arguments with each child filled are filled still
abbrev pub FilledArgumentsStay : Type 0
FilledArgumentsStay = (older newer : List DTerm) → Extends older newer → (given : List ℕ) (d e : DArgs) → FillsArgs older given d e →
    FillsArgs newer given d e

-- so it does not matter that the node over what comes of the children is added after it was filled
abbrev pub AddedNodesAreReplaced : Type 0
AddedNodesAreReplaced =
    (older newer : List DTerm) → Extends older newer → Canonical newer → (x t b a : Applied) →
    IsFull older x → IsFull older t → IsFull older b → b ≢ x →
    (op : ℕ) (payloads : List (List ℕ)) (n : NodeArgs) → term_of older b ≡ layer_of older (node op payloads (unnamed (λ y. y) n)) →
    (m : NodeArgs) → HasReplacedIds older x t n m →
    (given : List ℕ) (e : DArgs) → FillsArgs older given (unnamed (λ y. y) m) e → IsFull newer a →
    term_of newer a ≡ layer_of newer (node op payloads e) → IsReplaced newer x t b a

-- all these laws
pub record ReplacedIdLaws : Type 0 where
  pub parts_are_older : PartsAreOlder
  pub parts_have_fewer_names : PartsHaveFewerNames
  pub parts_have_fewer_free_names : PartsHaveFewerFreeNames
  pub older_ids_stay : OlderIdsStay
  pub older_ids_stay_inside : OlderIdsStayInside
  pub whole_ids_are_replaced : WholeIdsAreReplaced
  pub other_ids_are_searched : OtherIdsAreSearched
  pub names_are_seen_inside : NamesAreSeenInside
  pub ids_are_replaced_by_number : IdsAreReplacedByNumber
  pub named_nodes_are_searched : NamedNodesAreSearched
  pub unchanged_nodes_stay : UnchangedNodesStay
  pub replaced_ids_stay : ReplacedIdsStay
  pub filled_arguments_stay : FilledArgumentsStay
  pub added_nodes_are_replaced : AddedNodesAreReplaced

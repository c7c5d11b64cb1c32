-- What is filed of a class: a key, which is a shape, with the slot of the class for each number of it.
use Rattle.std.proofs.Common.{◌≡◌, ◌<◌, ◌≤◌, ℕ, List, length, map, ap, ◌∙◌, sym, subst, arith}
use Rattle.std.specs.Prelude.{slice_index_or}
use Rattle.slotted_lists.proofs.Members.{In, In-map}
use Rattle.slotted_lists.proofs.Maps.{is_among-In, In-is_among, keys-with_values, values-with_values}
use Rattle.slotted_lists.proofs.Lists.{map-injective}
use Rattle.slotted_theory.specs.Nameless.{DTerm, moved}
use Rattle.slotted_theory.specs.FiniteMaps.{filled, IsInjectiveMap, with_values}
use Rattle.slotted_theory.specs.Renaming.{IsInjective}
use Rattle.slotted_theory.specs.Shape.{free_names}
use Rattle.slotted_theory.proofs.Filled.{filled-injective}
use Rattle.slotted_slots.specs.Maps.{KnowsAll, composed}
use Rattle.slotted_slots.proofs.CombiningLaws.{is_some-value_of, is_among-at}
use Rattle.slotted_nodes.specs.Form.{Form, children, scopes}
use Rattle.slotted_languages.specs.NodeTerm.{nameless_node, free_names_of}
use Rattle.slotted_languages.specs.Shape.{Fits, firsts, shape}
use Rattle.slotted_languages.proofs.Renamings.{composed_shape}
use Rattle.slotted_languages.proofs.Shapes.{injective-shape, keys-shape, shape-renamed, shape-same, shape_back, values-shape, values_of_shape}
use Rattle.slotted_model.specs.Applied.{keys, values, map_on}
use Rattle.slotted_model.specs.Ascending.{IsAscending}
use Rattle.slotted_model.specs.Find.{find, used_slots}
use Rattle.slotted_model.specs.Normal.{normal}
use Rattle.slotted_model.specs.State.{normal_node}
use Rattle.slotted_model.proofs.Finds.Congruence.{normal_args-names}
use Rattle.slotted_model.proofs.Data.Maps.{IsInjectiveMap-with_values, filled-pair, map_on-filled, pair-filled, values-map_on}
use Rattle.slotted_model.proofs.Represented.RenamedIds.{normal-moves}
use Rattle.slotted_model.proofs.Data.Theory.{free_names-moved, moved-agrees, moved-moved}
use Rattle.slotted_proofs.proofs.Bridges.{ascends}
use Rattle.slotted_classes.specs.Finding.{HasFinds, IsFindable}
use Rattle.slotted_classes.specs.Kept.{Kept, node_at, nodes_of, entries_of}
use Rattle.slotted_classes.proofs.NamePairs.{In-firsts}
use Rattle.slotted_hashcons.specs.FoundNodes.{FilesNode, HasNoMorePlaces, IsFoundNode, finds_of}
use Rattle.slotted_hashcons.specs.NormalNodes.{HasFindableChildren}
use Rattle.slotted_classes.proofs.ClassNodes.{node-is}
use Rattle.slotted_hashcons.proofs.FoundChildren.{child_ids-valid, found-nameless, found-places}
use Rattle.slotted_hashcons.proofs.NumbersInShapes.{firsts-map}
use Rattle.slotted_hashcons.proofs.ReplacedChildren.{first_form, first_names-fit}
use Rattle.slotted_hashcons.proofs.ShapesOfNodes.{found-from, shape-again}

-- a node that is the shape of itself has its numbers as names, each where it first stands
pub own-numbers : (f : Form) → Fits f → (shape f).0 ≡ f → keys (shape f).1 ≡ firsts (free_names_of f)
own-numbers f fits own =
    let m : List (ℕ × ℕ) = (shape f).1 in
    let F : ℕ → ℕ = filled m in
    let inj : IsInjective F = filled-injective m (injective-shape f) in
    let back : moved F (nameless_node f) ≡ nameless_node f = ap (λ (h : Form). moved F (nameless_node h)) (sym own) ∙ shape-renamed f fits in
    let e : map_on F (keys m) ≡ with_values F m = map_on-filled m (ascends (keys m) (keys-shape f)) ∙ (shape-same F inj f f back).1 in
    map-injective F inj (keys m) (values m) (sym (values-map_on F (keys m)) ∙ (ap values e ∙ values-with_values F m)) ∙ values-shape f

-- nodes that are one node up to names have as many places
pub same-places : (F : ℕ → ℕ) → IsInjective F → (f g : Form) → Fits f → Fits g → moved F (nameless_node f) ≡ nameless_node g → length f.names ≡ length g.names
same-places F inj f g fits of_g e =
    fits ∙ (ap (λ (h : Form). length (scopes h.tree)) (shape-same F inj f g e).0 ∙ sym of_g)

-- a class's node in normal form has no more places than the node
pub no-more-places : (k : Kept) → HasFinds k → (i : ℕ) → i < length k.classes → Fits (node_at k i) → HasFindableChildren k (node_at k i) → (f : Form) (m : List (ℕ × ℕ)) → Fits f → IsFoundNode k i f m → HasNoMorePlaces k i f
no-more-places k good i within of_node findable f m fits found =
    let c : Form = node_at k i in
    let n : ℕ = length (children c.tree) in
    let g : Form = first_form (find (entries_of k)) c n in
    let of_g : Fits g = first_names-fit (find (entries_of k)) c.tree n c.names of_node in
    let is : nameless_node g ≡ normal_node (finds_of k) i = found-nameless (entries_of k) c n of_node (omega arith) ∙ ap (normal (entries_of k)) (node-is k i within) in
    let same : length f.names ≡ length g.names = same-places (filled m) (filled-injective m found.different) f g fits of_g (found.back ∙ sym is) in
    let fewer : length g.names ≤ length c.names = found-places (nodes_of k) (entries_of k) good.linked c n of_node (child_ids-valid (used_slots (entries_of k)) (nodes_of k) c of_node findable) in
    omega (arith, same, fewer)

-- the key in normal form, by its shape, is the class's node in normal form
module _ (k : Kept) (f : Form) (fits : Fits f) (findable : HasFindableChildren k f) (i : ℕ) (slots : List (ℕ × ℕ)) (files : FilesNode k i f slots) where
  abbrev F : ℕ → ℕ
  F = filled slots

  apart : IsInjective F
  apart = filled-injective slots files.different

  module _ (c : Form) (is : nameless_node c ≡ normal (entries_of k) (nameless_node f)) where
    -- each name that it has is a number of the key
    is-number : (x : ℕ) → In x (free_names_of c) → In x (keys slots)
    is-number x h =
        let n : In x (free_names_of f) =
        normal_args-names (IsFindable k) (entries_of k) (nameless_node f).args findable x (subst (λ (d : DTerm). In x (free_names d.args)) is h) in
        subst (In x) (sym (files.numbers ∙ own-numbers f fits files.itself)) ((In-firsts x (free_names_of f)).1 n)

    knows : KnowsAll slots (free_names_of c)
    knows j d lt =
        let xs : List ℕ = free_names_of c in
        let x : ℕ = slice_index_or xs j d in
        is_some-value_of slots x ∙ In-is_among (keys slots) x (is-number x (is_among-In xs x (is_among-at xs j d lt)))

    pub refound : (g : Form) (own : List (ℕ × ℕ)) → Fits c → Fits g → ◌≡◌ {A = Form × List (ℕ × ℕ)} (g, own) (shape c) → IsFoundNode k i g (composed own slots)
    refound g own of_c of_g e =
        let m : List (ℕ × ℕ) = with_values F own in
        let d : DTerm = normal_node (finds_of k) i in
        let o : own ≡ (shape c).1 = ap (λ (p : Form × List (ℕ × ℕ)). p.1) e in
        let put : composed own slots ≡ m = composed_shape c slots own knows o ∙ ap (with_values F) (sym o) in
        let there : moved F (nameless_node c) ≡ d = ap (moved F) is ∙ (sym (normal-moves (entries_of k) F (nameless_node f)) ∙ files.normal_form) in
        let again = shape-again c g own of_c e in
        let different : IsInjectiveMap own = subst IsInjectiveMap (sym o) (injective-shape c) in
        let rises : IsAscending (keys own) = subst (λ l. IsAscending (keys l)) (sym o) (ascends (keys (shape c).1) (keys-shape c)) in
        let same : keys m ≡ keys own = keys-with_values F own in
        let at : (x : ℕ) → In x (free_names_of g) → filled m x ≡ F (filled own x) =
        λ x h.
        let w : In x (keys own) = subst (In x) (sym (again.1 ∙ own-numbers g of_g again.0)) ((In-firsts x (free_names_of g)).1 h) in
        filled-pair m x (F (filled own x)) (subst IsAscending (sym same) rises) (In-map (λ (p : ℕ × ℕ). (p.0, F p.1)) own (x, filled own x) (pair-filled own x rises w)) in
        let back : moved (filled m) (nameless_node g) ≡ d =
        moved-agrees (filled m) (λ x. F (filled own x)) (nameless_node g) at ∙ (sym (moved-moved F (filled own) (nameless_node g)) ∙ (ap (moved F) (shape_back c g own of_c e) ∙ there)) in
        let vs : values m ≡ firsts (free_names d.args) =
        values-with_values F own
        ∙ (ap (map F) (values_of_shape c g own e)
        ∙ (sym (firsts-map F apart (free_names_of c)) ∙ ap firsts (sym (free_names-moved F (nameless_node c).args) ∙ ap (λ (t : DTerm). free_names t.args) there))) in
        subst (IsFoundNode k i g) (sym put) (found-from k i g m (IsInjectiveMap-with_values F own (λ x y _ _. apart x y) different) again.0 (same ∙ again.1) back vs)

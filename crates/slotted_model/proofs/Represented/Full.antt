-- Full ids: their names are those of their terms, renaming moves their terms, and their terms are layers.
use Rattle.std.proofs.Common.{◌≡◌, ℕ, zero, suc, ◌+◌, ◌<◌, List, length, sym, ◌∙◌, ap, subst, arith}
use Rattle.slotted_lists.proofs.Members.{Contains-In}
use Rattle.slotted_lists.proofs.Maps.{keys-with_values}
use Rattle.slotted_theory.specs.Nameless.{DTerm, moved}
use Rattle.slotted_theory.specs.FiniteMaps.{filled}
use Rattle.slotted_theory.specs.Shape.{free_names}
use Rattle.slotted_theory.proofs.Filled.{filled-injective}
use Rattle.slotted_model.specs.Ascending.{IsAscending, ascending, names}
use Rattle.slotted_model.specs.Applied.{Applied, keys, values, renamed_id, EachChild}
use Rattle.slotted_model.specs.Classes.{terms, canonical_node, canonical_term, term_of, layer_of, canonical_slots, IsFull, Canonical}
use Rattle.slotted_model.specs.Claims.{IsInjectiveOn}
use Rattle.slotted_model.proofs.Data.Sets.{SameMembers, IsAscending-ascending, In-ascending, In-of_ascending, same_members, ascending-same}
use Rattle.slotted_model.proofs.Data.Maps.{IsInjectiveMap-with_values}
use Rattle.slotted_model.proofs.Represented.Children.{EachChild-map, EachChild-moved, KeysAreNames, term_by-renamed, layer-moved, names-term_by, names-expand}
use Rattle.slotted_model.proofs.Represented.Terms.{terms_from-layer}

pub full-ascending : (nodes : List DTerm) (a : Applied) → IsFull nodes a → IsAscending (keys a.1)
full-ascending nodes a full = subst IsAscending (sym full.slots) (IsAscending-ascending (free_names (canonical_node nodes a.0).args))

-- a canonical term is the layer of its node
pub canonical_term-layer : (nodes : List DTerm) → Canonical nodes → (i : ℕ) → i < length nodes → canonical_term nodes i ≡ layer_of nodes (canonical_node nodes i)
canonical_term-layer nodes can i l =
    let at : i ≡ 0 + i = omega arith in
    terms_from-layer _ nodes i i at l (EachChild-map (λ a. (a.0 < i) × IsFull nodes a) (λ a. a.0 < i) (λ a h. h.0) (canonical_node nodes i).args (can.children i l))

keys_by_names : (nodes : List DTerm) (a : Applied) → IsFull nodes a → SameMembers (free_names (canonical_term nodes a.0).args) (canonical_slots nodes a.0) → KeysAreNames (terms nodes) a
keys_by_names nodes a full s = subst (SameMembers (free_names (canonical_term nodes a.0).args)) (sym full.slots) s

names_below : (nodes : List DTerm) → Canonical nodes → (n i : ℕ) → i < n → i < length nodes → SameMembers (free_names (canonical_term nodes i).args) (canonical_slots nodes i)
names_below nodes can zero i h l = absurd (omega arith)
names_below nodes can (suc n) i h l =
    let node_names : List ℕ = free_names (canonical_node nodes i).args in
    let s : SameMembers (free_names (layer_of nodes (canonical_node nodes i)).args) node_names =
    names-expand (terms nodes) (canonical_node nodes i).args
    (EachChild-map (λ a. (a.0 < i) × IsFull nodes a) (λ a. KeysAreNames (terms nodes) a × IsAscending (keys a.1))
    (λ a k. (keys_by_names nodes a k.1 (names_below nodes can n a.0 (omega (arith, k.0)) k.1.in_range), full-ascending nodes a k.1))
    (canonical_node nodes i).args (can.children i l)) in
    let t : SameMembers (free_names (canonical_term nodes i).args) node_names = subst (λ (d : DTerm). SameMembers (free_names d.args) node_names) (sym (canonical_term-layer nodes can i l)) s in
    λ z. (λ k. In-ascending z node_names ((t z).0 k), λ k. (t z).1 (In-of_ascending z node_names k))

pub canonical_term-members : (nodes : List DTerm) → Canonical nodes → (i : ℕ) → i < length nodes → SameMembers (free_names (canonical_term nodes i).args) (canonical_slots nodes i)
canonical_term-members nodes can i l = names_below nodes can (suc i) i (omega arith) l

pub full-keys : (nodes : List DTerm) → Canonical nodes → (a : Applied) → IsFull nodes a → KeysAreNames (terms nodes) a
full-keys nodes can a full = keys_by_names nodes a full (canonical_term-members nodes can a.0 full.in_range)

pub canonical_term-names : (nodes : List DTerm) → Canonical nodes → (i : ℕ) → i < length nodes → names (canonical_term nodes i) ≡ canonical_slots nodes i
canonical_term-names nodes can i l =
    let free : List ℕ = free_names (canonical_term nodes i).args in
    let s : SameMembers free (canonical_slots nodes i) = canonical_term-members nodes can i l in
    same_members (ascending free) (canonical_slots nodes i) (IsAscending-ascending free) (IsAscending-ascending (free_names (canonical_node nodes i).args))
    (λ z. (λ h. (s z).0 (In-of_ascending z free h), λ h. In-ascending z free ((s z).1 h)))

pub term_of-names : (nodes : List DTerm) → Canonical nodes → (a : Applied) → IsFull nodes a → names (term_of nodes a) ≡ ascending (values a.1)
term_of-names nodes can a full = ascending-same (free_names (term_of nodes a).args) (values a.1) (names-term_by (terms nodes) a (full-keys nodes can a full) (full-ascending nodes a full))

pub full-renamed : (nodes : List DTerm) (a : Applied) → IsFull nodes a → (f : ℕ → ℕ) → IsInjectiveOn f (values a.1) → IsFull nodes (renamed_id f a)
full-renamed nodes a full f inj = record {
  in_range = full.in_range;
  slots = keys-with_values f a.1 ∙ full.slots;
  injective = IsInjectiveMap-with_values f a.1 (λ x y h k. inj x y (Contains-In (values a.1) x h) (Contains-In (values a.1) y k)) full.injective;
}

pub term_of-renamed : (nodes : List DTerm) → Canonical nodes → (a : Applied) → IsFull nodes a → (f : ℕ → ℕ) → term_of nodes (renamed_id f a) ≡ moved f (term_of nodes a)
term_of-renamed nodes can a full f = term_by-renamed (terms nodes) f a (full-keys nodes can a full)

pub term_of-layer : (nodes : List DTerm) → Canonical nodes → (a : Applied) → IsFull nodes a → term_of nodes a ≡ layer_of nodes (moved (filled a.1) (canonical_node nodes a.0))
term_of-layer nodes can a full =
    ap (moved (filled a.1)) (canonical_term-layer nodes can a.0 full.in_range)
    ∙ sym (layer-moved (terms nodes) (filled a.1) (canonical_node nodes a.0)
    (EachChild-map (λ b. (b.0 < a.0) × IsFull nodes b) (KeysAreNames (terms nodes)) (λ b h. full-keys nodes can b h.1) (canonical_node nodes a.0).args (can.children a.0 full.in_range)))

-- the children of the canonical node with an id's names are full and earlier
pub full-children : (nodes : List DTerm) → Canonical nodes → (a : Applied) → IsFull nodes a → EachChild (λ b. (b.0 < a.0) × IsFull nodes b) (moved (filled a.1) (canonical_node nodes a.0)).args
full-children nodes can a full =
    EachChild-moved (λ b. (b.0 < a.0) × IsFull nodes b) (λ f inj b h. (h.0, full-renamed nodes b h.1 f (λ x y k l. inj x y))) (filled a.1) (filled-injective a.1 full.injective) (canonical_node nodes a.0).args (can.children a.0 full.in_range)

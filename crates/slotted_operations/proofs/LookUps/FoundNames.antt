-- The names of an answer are names of the node, so the table knows them.
use Rattle.std.proofs.Common.{◌≡◌, ℕ, suc, List, [], ◌∷◌, length, take, drop, map, sym, ◌∙◌, ap, refl, subst, arith, inl, inr}
use Rattle.std.specs.Prelude.{slice_index, slice_index_or, Some, All, IsTrue}
use Rattle.std.proofs.lemmas.Bool.{cases_eq}
use Rattle.slotted_lists.proofs.Members.{In, In-append, In-map, In-of_map, In-take, In-drop, In-first}
use Rattle.slotted_theory.specs.Term.{Args, Term, done, name}
use Rattle.slotted_theory.specs.Term as term
use Rattle.slotted_theory.specs.Nameless.{DTerm, extend, nameless_args, nameless, moved}
use Rattle.slotted_theory.specs.Shape.{outside, free_names}
use Rattle.slotted_theory.specs.FiniteMaps.{filled}
use Rattle.slotted_theory.proofs.Names.{extend-same, extend-other}
use Rattle.slotted_nodes.specs.Form.{Form, Tree, leaf, own, child, bind, scopes}
use Rattle.slotted_languages.specs.NodeTerm.{own_names, node_args, nameless_node}
use Rattle.slotted_languages.specs.Shape.{Fits}
use Rattle.slotted_languages.proofs.NodeTerms.{own_fits, child_rest_fits, bind_inner_fits, bind_rest_fits}
use Rattle.slotted_model.specs.Applied.{Applied, keys, values}
use Rattle.slotted_model.specs.Classes.{canonical_node, IsFull, Canonical, term_of, layer_of}
use Rattle.slotted_model.specs.Ids.{id_of_node}
use Rattle.slotted_model.proofs.Data.Members.{In-inside}
use Rattle.slotted_model.proofs.Data.Sets.{In-ascending, In-of_ascending}
use Rattle.slotted_model.proofs.Data.Maps.{values-map_on, map_on-filled}
use Rattle.slotted_model.proofs.Data.Theory.{free_names-moved}
use Rattle.slotted_model.proofs.Represented.Full.{full-ascending, term_of-layer, term_of-names}
use Rattle.slotted_model.proofs.Represented.Ids.{id_of_node-some}
use Rattle.slotted_slots.specs.Table.{Table, is_known, AllKnown}
use Rattle.slotted_model.specs.Ascending.{names}
use Rattle.slotted_terms.specs.Valid.{HasKnownNames}
use Rattle.slotted_classes.proofs.NameMaps.{In-at, at_In}

-- y is the number of one of the names
abbrev IsNumberOf : (ℕ → ℕ) → List ℕ → ℕ → Type 0
IsNumberOf ρ xs y = (x : ℕ) × In x xs × (y ≡ ρ x)

wider : (ρ : ℕ → ℕ) (xs ys : List ℕ) (y : ℕ) → ((x : ℕ) → In x xs → In x ys) → IsNumberOf ρ xs y → IsNumberOf ρ ys y
wider ρ xs ys y h r = (r.0, h r.0 r.1, r.2)

own_free : (ρ : ℕ → ℕ) (xs : List ℕ) (y : ℕ) → In y (free_names (nameless_args ρ (own_names xs))) → IsNumberOf ρ xs y
own_free ρ [] y h = absurd h
own_free ρ (x ∷ xs) y (inl e) = (x, inl refl, e)
own_free ρ (x ∷ xs) y (inr h) = wider ρ xs (x ∷ xs) y (λ z k. inr k) (own_free ρ xs y h)

-- a number that is not the binder's is one outside
pub outer_number : (ρ : ℕ → ℕ) (b x y : ℕ) → suc y ≡ extend b ρ x → y ≡ ρ x
outer_number ρ b x y e = elim (cases_eq x b) [
  | inl q ↦ let z : suc y ≡ 0 = e ∙ extend-same b ρ x q in absurd (omega arith)
  | inr n ↦ let z : suc y ≡ suc (ρ x) = e ∙ extend-other b ρ x n in omega arith
]

-- the free names of a node are names at its places
pub free_from : (ρ : ℕ → ℕ) (t : Tree) (xs : List ℕ) → length xs ≡ length (scopes t) → (y : ℕ) → In y (free_names (nameless_args ρ (node_args t xs))) → IsNumberOf ρ xs y
free_from ρ leaf xs n y h = absurd h
free_from ρ (own r) xs n y (inl e) = (slice_index xs 0, In-first xs (length (scopes r)) n, e)
free_from ρ (own r) xs n y (inr h) = wider ρ (drop 1 xs) xs y (In-drop 1 xs) (free_from ρ r (drop 1 xs) (own_fits r xs n) y h)
free_from ρ (child i ks r) xs n y h = elim (In-append y (free_names (nameless_args ρ (own_names (take (length ks) xs)))) (free_names (nameless_args ρ (node_args r (drop (length ks) xs)))) h) [
  | inl a ↦ wider ρ (take (length ks) xs) xs y (In-take (length ks) xs) (own_free ρ (take (length ks) xs) y a)
  | inr b ↦ wider ρ (drop (length ks) xs) xs y (In-drop (length ks) xs) (free_from ρ r (drop (length ks) xs) (child_rest_fits i ks r xs n) y b)
]
free_from ρ (bind u r) xs n y h =
    let m = length (scopes u) in
    let b = slice_index xs 0 in
    let us = take m (drop 1 xs) in
    let rs = drop m (drop 1 xs) in
    elim (In-append y (outside (free_names (nameless_args (extend b ρ) (node_args u us)))) (free_names (nameless_args ρ (node_args r rs))) h) [
      | inl a ↦
          let q = free_from (extend b ρ) u us (bind_inner_fits u r xs n) (suc y) (In-inside y (free_names (nameless_args (extend b ρ) (node_args u us))) a) in
          (q.0, In-drop 1 xs q.0 (In-take m (drop 1 xs) q.0 q.1), outer_number ρ b q.0 y q.2)
      | inr c ↦ wider ρ rs xs y (λ z k. In-drop 1 xs z (In-drop m (drop 1 xs) z k)) (free_from ρ r rs (bind_rest_fits u r xs n) y c)
    ]

module _ (g : List DTerm) (f : Form) (a : Applied) (found : id_of_node g (nameless_node f) ≡ Some a) where
  -- what a look-up answers is full
  pub answer_full : IsFull g a
  answer_full = (id_of_node-some g (nameless_node f) a found).0

  abbrev stands : moved (filled a.1) (canonical_node g a.0) ≡ nameless_node f
  stands = (id_of_node-some g (nameless_node f) a found).1

  -- and stands for the node over what its children stand for
  pub answer_term : Canonical g → term_of g a ≡ layer_of g (nameless_node f)
  answer_term can = term_of-layer g can a answer_full ∙ ap (layer_of g) stands

  value_free : (v : ℕ) → In v (values a.1) → In v (free_names (nameless_node f).args)
  value_free v h =
      let m : values a.1 ≡ map (filled a.1) (keys a.1) = ap values (sym (map_on-filled a.1 (full-ascending g a answer_full))) ∙ values-map_on (filled a.1) (keys a.1) in
      let r : (k : ℕ) × In k (keys a.1) × (v ≡ filled a.1 k) = In-of_map (filled a.1) (keys a.1) v (subst (In v) m h) in
      let k : In r.0 (free_names (canonical_node g a.0).args) = In-of_ascending r.0 (free_names (canonical_node g a.0).args) (subst (In r.0) answer_full.slots r.1) in
      subst (In v) (sym (free_names-moved (filled a.1) (canonical_node g a.0).args) ∙ ap (λ (t : DTerm). free_names t.args) stands)
      (subst (λ x. In x (map (filled a.1) (free_names (canonical_node g a.0).args))) (sym r.2) (In-map (filled a.1) (free_names (canonical_node g a.0).args) r.0 k))

  -- its names are names of the node
  pub answer_names : Fits f → (P : ℕ → Type 0) → All P f.names → All P (values a.1)
  answer_names hf P all k d l =
      let v = slice_index_or (values a.1) k d in
      let r = free_from (λ x. x) f.tree f.names hf v (value_free v (In-at (values a.1) k d l)) in
      subst P (sym r.2) (at_In P f.names all r.0 r.1)

-- the free names of a term are names in it
term_free : (t : Table) (ρ : ℕ → ℕ) (a : Args) → HasKnownNames t a → (y : ℕ) → In y (free_names (nameless_args ρ a)) → (x : ℕ) × IsTrue (is_known t x) × (y ≡ ρ x)
term_free t ρ done k y h = absurd h
term_free t ρ (name x rest) k y (inl e) = (x, k.0, e)
term_free t ρ (name x rest) k y (inr h) = term_free t ρ rest k.1 y h
term_free t ρ (term.child op payloads args rest) k y h = elim (In-append y (free_names (nameless_args ρ args)) (free_names (nameless_args ρ rest)) h) [
  | inl a ↦ term_free t ρ args k.0 y a
  | inr b ↦ term_free t ρ rest k.1 y b
]
term_free t ρ (term.bind x inner rest) k y h = elim (In-append y (outside (free_names (nameless_args (extend x ρ) inner))) (free_names (nameless_args ρ rest)) h) [
  | inl a ↦
      let q = term_free t (extend x ρ) inner k.1 (suc y) (In-inside y (free_names (nameless_args (extend x ρ) inner)) a) in
      (q.0, q.1, outer_number ρ x q.0 y q.2)
  | inr b ↦ term_free t ρ rest k.2 y b
]

-- the names of an id that stands for a term with known names are known
pub term_known : (g : List DTerm) → Canonical g → (a : Applied) → IsFull g a → (u : Term) → term_of g a ≡ nameless u → (t : Table) → HasKnownNames t u.args → AllKnown t (values a.1)
term_known g can a full u e t k i d l =
    let v = slice_index_or (values a.1) i d in
    let h : In v (names (term_of g a)) = subst (In v) (sym (term_of-names g can a full)) (In-ascending v (values a.1) (In-at (values a.1) i d l)) in
    let q = term_free t (λ x. x) u.args k v (subst (λ (x : DTerm). In v (free_names x.args)) e (In-of_ascending v (free_names (term_of g a).args) h)) in
    subst (λ x. IsTrue (is_known t x)) (sym q.2) q.1

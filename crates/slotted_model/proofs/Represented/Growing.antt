-- A new class keeps what holds of a graph, and what was there.
use Rattle.std.proofs.Common.{◌≡◌, ℕ, ◌+◌, ◌<◌, List, [], ◌∷◌, ◌++◌, length, sym, ◌∙◌, ap, refl, subst, inl, inr, arith, length-append}
use Rattle.std.proofs.lemmas.Bool.{cases_lt}
use Rattle.slotted_theory.specs.Nameless.{DTerm, moved}
use Rattle.slotted_theory.specs.FiniteMaps.{filled}
use Rattle.slotted_theory.specs.Shape.{free_names, shape, SameUpToNames}
use Rattle.slotted_theory.proofs.Bijections.{to-injective}
use Rattle.slotted_theory.proofs.Shapes.{shape_iff}
use Rattle.slotted_model.specs.Ascending.{names}
use Rattle.slotted_model.specs.Applied.{Applied, map_on, EachChild}
use Rattle.slotted_model.specs.Classes.{term_at, terms, canonical_node, canonical_term, canonical_slots, term_of, layer_of, IsFull, Canonical}
use Rattle.slotted_model.specs.Ids.{class_with_names}
use Rattle.slotted_model.specs.Growth.{IsNew, identity_id, Extends, Added}
use Rattle.slotted_model.proofs.Data.Sets.{IsAscending-ascending}
use Rattle.slotted_model.proofs.Data.Theory.{moved-agrees, moved-id}
use Rattle.slotted_model.proofs.Data.Maps.{keys-map_on, filled-map_on, IsInjectiveMap-map_on}
use Rattle.slotted_model.proofs.Represented.Children.{EachChild-map, EachChild-moved, layer-agrees}
use Rattle.slotted_model.proofs.Represented.Terms.{term_at-front, term_at-seam, length-terms, terms_from-append}
use Rattle.slotted_model.proofs.Represented.Full.{canonical_term-members, full-renamed, term_of-layer}
use Rattle.slotted_model.proofs.Represented.Ids.{Stands, class-stands, id_of-iff}

pub identity-full : (nodes : List DTerm) (i : ℕ) → i < length nodes → IsFull nodes (identity_id nodes i)
identity-full nodes i l = record {
  in_range = l;
  slots = keys-map_on (λ s. s) (canonical_slots nodes i);
  injective = IsInjectiveMap-map_on (λ s. s) (canonical_slots nodes i) (λ x y h k p. p) (IsAscending-ascending (free_names (canonical_node nodes i).args));
}

-- a class with its own slots stands for its canonical term
pub term_of-identity : (nodes : List DTerm) → Canonical nodes → (i : ℕ) → i < length nodes → term_of nodes (identity_id nodes i) ≡ canonical_term nodes i
term_of-identity nodes can i l =
    moved-agrees (filled (map_on (λ s. s) (canonical_slots nodes i))) (λ s. s) (canonical_term nodes i) (λ x h. filled-map_on (λ s. s) (canonical_slots nodes i) x ((canonical_term-members nodes can i l x).0 h))
    ∙ moved-id (canonical_term nodes i)

module _ (nodes : List DTerm) (c : DTerm) where
  pub longer : length (nodes ++ c ∷ []) ≡ length nodes + 1
  longer = length-append nodes (c ∷ [])

  pub node-old : (i : ℕ) → i < length nodes → canonical_node (nodes ++ c ∷ []) i ≡ canonical_node nodes i
  node-old i l = term_at-front nodes (c ∷ []) i l

  pub node-new : canonical_node (nodes ++ c ∷ []) (length nodes) ≡ c
  node-new = term_at-seam nodes c

  -- what holds of each class and of the new node holds of each class of the new graph
  pub each-class : (Q : ℕ → DTerm → Type 0) → ((i : ℕ) → i < length nodes → Q i (canonical_node nodes i)) → Q (length nodes) c → (i : ℕ) → i < length (nodes ++ c ∷ []) → Q i (canonical_node (nodes ++ c ∷ []) i)
  each-class Q old new i l = elim (cases_lt i (length nodes)) [
    | inl h ↦ subst (Q i) (sym (node-old i h)) (old i h)
    | inr h ↦
        let e : length nodes ≡ i = omega (arith, longer) in
        subst (λ j. Q j (canonical_node (nodes ++ c ∷ []) j)) e (subst (Q (length nodes)) (sym node-new) new)
  ]

  pub terms-new : terms (nodes ++ c ∷ []) ≡ terms nodes ++ layer_of nodes c ∷ []
  terms-new = terms_from-append [] nodes c

  pub canonical_term-old : (i : ℕ) → i < length nodes → canonical_term (nodes ++ c ∷ []) i ≡ canonical_term nodes i
  canonical_term-old i l = ap (λ ts. term_at ts i) terms-new ∙ term_at-front (terms nodes) (layer_of nodes c ∷ []) i (omega (arith, length-terms nodes))

  pub canonical_term-new : canonical_term (nodes ++ c ∷ []) (length nodes) ≡ layer_of nodes c
  canonical_term-new =
      ap (λ ts. term_at ts (length nodes)) terms-new
      ∙ (ap (term_at (terms nodes ++ layer_of nodes c ∷ [])) (sym (length-terms nodes)) ∙ term_at-seam (terms nodes) (layer_of nodes c))

  pub full-old : (a : Applied) → IsFull nodes a → IsFull (nodes ++ c ∷ []) a
  full-old a full = record {
    in_range = omega (arith, full.in_range, longer);
    slots = full.slots ∙ ap names (sym (node-old a.0 full.in_range));
    injective = full.injective;
  }

  pub term_of-old : (a : Applied) → IsFull nodes a → term_of (nodes ++ c ∷ []) a ≡ term_of nodes a
  term_of-old a full = ap (moved (filled a.1)) (canonical_term-old a.0 full.in_range)

  layer_of-old : (d : DTerm) → EachChild (IsFull nodes) d.args → layer_of (nodes ++ c ∷ []) d ≡ layer_of nodes d
  layer_of-old d k = layer-agrees (terms (nodes ++ c ∷ [])) (terms nodes) d (EachChild-map (IsFull nodes) (λ a. term_of (nodes ++ c ∷ []) a ≡ term_of nodes a) term_of-old d.args k)

  pub grown-canonical : Canonical nodes → IsNew nodes c → Canonical (nodes ++ c ∷ [])
  grown-canonical can new = record {
    operators = each-class (λ i d. 0 < d.op) can.operators new.operator;
    children = each-class (λ i d. EachChild (λ a. (a.0 < i) × IsFull (nodes ++ c ∷ []) a) d.args)
        (λ i l. EachChild-map (λ a. (a.0 < i) × IsFull nodes a) (λ a. (a.0 < i) × IsFull (nodes ++ c ∷ []) a) (λ a h. (h.0, full-old a h.1)) (canonical_node nodes i).args (can.children i l))
        (EachChild-map (IsFull nodes) (λ a. (a.0 < length nodes) × IsFull (nodes ++ c ∷ []) a) (λ a h. (h.in_range, full-old a h)) c.args new.children);
    shapes = λ i j l m. each-class (λ i d. shape d ≡ shape (canonical_node (nodes ++ c ∷ []) j) → i ≡ j)
        (λ i l. each-class (λ j e. shape (canonical_node nodes i) ≡ shape e → i ≡ j) (λ j m. can.shapes i j l m) (λ p. absurd (new.shape_is_new i l p)) j m)
        (each-class (λ j e. shape c ≡ shape e → length nodes ≡ j) (λ j m p. absurd (new.shape_is_new j m (sym p))) (λ p. refl) j m)
        i l;
  }

  pub grown-extends : Canonical nodes → IsNew nodes c → Extends nodes (nodes ++ c ∷ [])
  grown-extends can new = record {
    classes = λ i l. (omega (arith, longer), node-old i l);
    canonical_terms = canonical_term-old;
    full = full-old;
    terms = term_of-old;
    layers = layer_of-old;
    ids = λ t a p.
        let r : IsFull nodes a × (term_of nodes a ≡ t) = (id_of-iff nodes can t a).0 p in
        (id_of-iff (nodes ++ c ∷ []) (grown-canonical can new) t a).1 (full-old a r.0, term_of-old a r.0 ∙ r.1);
  }

  -- the new class with the names of a node of its shape
  new-stands : (d : DTerm) → SameUpToNames c d → Stands (nodes ++ c ∷ []) d (class_with_names (nodes ++ c ∷ []) d (length nodes))
  new-stands d s = class-stands (nodes ++ c ∷ []) d (length nodes) (omega (arith, longer)) (subst (λ e. SameUpToNames e d) (sym node-new) s)

  renamed-children : (d : DTerm) → SameUpToNames c d → EachChild (IsFull nodes) c.args → EachChild (IsFull nodes) d.args
  renamed-children d s k =
      subst (λ (e : DTerm). EachChild (IsFull nodes) e.args) s.1
      (EachChild-moved (IsFull nodes) (λ f inj a full. full-renamed nodes a full f (λ x y h l. inj x y)) s.0.to (to-injective s.0) c.args k)

  pub added : Canonical nodes → IsNew nodes c → Added nodes (nodes ++ c ∷ []) c
  added can new =
      let l : length nodes < length (nodes ++ c ∷ []) = omega (arith, longer) in
      let grown : Canonical (nodes ++ c ∷ []) = grown-canonical can new in
      record {
        canonical = grown;
        extends = grown-extends can new;
        full = identity-full (nodes ++ c ∷ []) (length nodes) l;
        term = term_of-identity (nodes ++ c ∷ []) grown (length nodes) l ∙ canonical_term-new;
        full_with_names = λ d s. (new-stands d s).0;
        term_with_names = λ d s.
            term_of-layer (nodes ++ c ∷ []) grown (class_with_names (nodes ++ c ∷ []) d (length nodes)) (new-stands d s).0
            ∙ (ap (layer_of (nodes ++ c ∷ [])) (new-stands d s).1 ∙ layer_of-old d (renamed-children d s new.children));
      }

pub Extends-same : (nodes : List DTerm) → Extends nodes nodes
Extends-same nodes = record {
  classes = λ i l. (l, refl);
  canonical_terms = λ i l. refl;
  full = λ a h. h;
  terms = λ a h. refl;
  layers = λ d c. refl;
  ids = λ t a p. p;
}

pub Extends-then : (first second third : List DTerm) → Extends first second → Extends second third → Extends first third
Extends-then first second third e f = record {
  classes = λ i l. ((f.classes i (e.classes i l).0).0, (f.classes i (e.classes i l).0).1 ∙ (e.classes i l).1);
  canonical_terms = λ i l. f.canonical_terms i (e.classes i l).0 ∙ e.canonical_terms i l;
  full = λ a h. f.full a (e.full a h);
  terms = λ a h. f.terms a (e.full a h) ∙ e.terms a h;
  layers = λ d c. f.layers d (EachChild-map (IsFull first) (IsFull second) e.full d.args c) ∙ e.layers d c;
  ids = λ t a p. f.ids t a (e.ids t a p);
}

-- no classes at all
pub Canonical-nil : Canonical []
Canonical-nil = record { operators = λ i l. omega arith; children = λ i l. absurd (omega arith); shapes = λ i j l m p. omega arith }

-- a node is new under any names
pub IsNew-renamed : (nodes : List DTerm) (d c : DTerm) → SameUpToNames d c → IsNew nodes d → IsNew nodes c
IsNew-renamed nodes d c s new = record {
  operator = subst (λ (e : DTerm). 0 < e.op) s.1 new.operator;
  children = subst (λ (e : DTerm). EachChild (IsFull nodes) e.args) s.1
      (EachChild-moved (IsFull nodes) (λ f inj a full. full-renamed nodes a full f (λ x y h l. inj x y)) s.0.to (to-injective s.0) d.args new.children);
  shape_is_new = λ i l p. new.shape_is_new i l (p ∙ sym ((shape_iff d c).1 s));
}

-- Equality up to listed symmetries: it moves with names, links are an equivalence, and where all symmetries are aligned equal ids are found together.
use Rattle.std.proofs.Common.{◌≡◌, ℕ, ◌<◌, List, length, sym, ◌∙◌, ap, refl, subst, inl, inr}
use Rattle.std.specs.Prelude.{Contains}
use Rattle.std.proofs.lemmas.Bool.{cases_Bool, false≢true}
use Rattle.slotted_lists.proofs.Members.{In, In-map, In-of_map}
use Rattle.slotted_lists.proofs.Maps.{values-with_values}
use Rattle.slotted_theory.specs.Nameless.{DTerm, moved}
use Rattle.slotted_theory.specs.Renaming.{Bijection, IsInjective}
use Rattle.slotted_theory.specs.Shape.{free_names}
use Rattle.slotted_theory.proofs.Bijections.{to-injective}
use Rattle.slotted_model.specs.Ascending.{IsAscending}
use Rattle.slotted_model.specs.Applied.{Applied, values, renamed_id, as_term}
use Rattle.slotted_model.specs.Classes.{canonical_node, canonical_slots, IsFull}
use Rattle.slotted_model.specs.Correspondence.{turned, IsPartialInjection}
use Rattle.slotted_model.specs.Find.{Linked, find_class, find}
use Rattle.slotted_model.specs.Growth.{identity_id}
use Rattle.slotted_model.specs.Ids.{term_eq}
use Rattle.slotted_model.specs.ProofList.{node_of}
use Rattle.slotted_model.specs.Normal.{normal}
use Rattle.slotted_model.specs.State.{Symmetry, State, left_of, right_of}
use Rattle.slotted_model.specs.Rest.{IsValidIn, UpToSymmetries, found_alike, listed, turned_round, joined, LinkedTo, id_names, IsAligned, HasNoOpenSymmetry, IsListed, FoundTogether}
use Rattle.slotted_model.proofs.Data.Sets.{IsAscending-ascending, In-ascending, In-of_ascending, ascending-same}
use Rattle.slotted_model.proofs.Data.Maps.{keys-map_on, IsInjectiveMap-map_on}
use Rattle.slotted_model.proofs.Represented.Ids.{term_eq-true, term_eq-same}
use Rattle.slotted_model.proofs.Represented.Folds.{as_term-same}
use Rattle.slotted_model.proofs.Represented.OtherFillings.{with_values-then}
use Rattle.slotted_model.proofs.Correspondences.Pairs.{Contains-key, Contains-of_key, Contains-of_value}
use Rattle.slotted_model.proofs.Correspondences.PartialInjections.{turned-partial, turned-pair, turned-by}
use Rattle.slotted_model.proofs.Correspondences.FullMaps.{injective_map-from}
use Rattle.slotted_model.proofs.Data.Ordered.{in_order-ascending, in_order-once}
use Rattle.slotted_model.proofs.Finds.NormalIds.{keys-identity, found-renamed, full-is_valid}
use Rattle.slotted_model.proofs.Represented.Full.{full-renamed}
use Rattle.slotted_model.proofs.Represented.RenamedIds.{valid-renamed, full-bijection, normal-renamed}

-- whether two applied ids are the same is decided
pub applied-stable : (a b : Applied) → ¬ (¬ (a ≡ b)) → a ≡ b
applied-stable a b n = elim (cases_Bool (term_eq (as_term a) (as_term b))) [
  | inl t ↦ as_term-same a b (term_eq-true (as_term a) (as_term b) t)
  | inr f ↦ absurd (n (λ e. false≢true (sym f ∙ term_eq-same (as_term a) (as_term b) (ap as_term e))))
]

-- a class with its own slots as names
pub identity-full : (nodes : List DTerm) (i : ℕ) → i < length nodes → IsFull nodes (identity_id nodes i)
identity-full nodes i h = record {
  in_range = h;
  slots = keys-map_on (λ s. s) (canonical_slots nodes i);
  injective = IsInjectiveMap-map_on (λ s. s) (canonical_slots nodes i) (λ x y k l e. e) (IsAscending-ascending (free_names (canonical_node nodes i).args));
}

-- the names of an id are the same set under one renaming
pub id_names-renamed : (f : ℕ → ℕ) (a b : Applied) → id_names a ≡ id_names b → id_names (renamed_id f a) ≡ id_names (renamed_id f b)
id_names-renamed f a b e = ascending-same (values (renamed_id f a).1) (values (renamed_id f b).1) (λ z. (half a b e z, half b a (sym e) z))
  where
    half : (x y : Applied) → id_names x ≡ id_names y → (z : ℕ) → In z (values (renamed_id f x).1) → In z (values (renamed_id f y).1)
    half x y p z h =
        let r : (v : ℕ) × In v (values x.1) × (z ≡ f v) = In-of_map f (values x.1) z (subst (In z) (values-with_values f x.1) h) in
        let k : In r.0 (values y.1) = In-of_ascending r.0 (values y.1) (subst (In r.0) p (In-ascending r.0 (values x.1) r.1)) in
        subst (λ w. In w (values (renamed_id f y).1)) (sym r.2) (subst (In (f r.0)) (sym (values-with_values f y.1)) (In-map f (values y.1) r.0 k))

module _ (g : State) where
  -- the sides of a listed symmetry are valid
  pub left-valid : (y : Symmetry) → IsListed g y → IsValidIn g (left_of y)
  left-valid y l = record {
    in_range = l.in_range;
    ascending = subst IsAscending (sym (keys-identity y.slots)) l.ascending;
    injective = IsInjectiveMap-map_on (λ s. s) y.slots (λ s t h k e. e) l.ascending;
    has_slots = λ s c. subst (λ K. Contains K s) (sym (keys-identity y.slots)) (l.used s c);
    within = λ s c. l.within s (subst (λ K. Contains K s) (keys-identity y.slots) c);
  }

  pub right-valid : (y : Symmetry) → IsListed g y → IsValidIn g (right_of y)
  right-valid y l =
      let S = y.slots in
      let B = turned S y.pairs in
      let t : IsPartialInjection S S B = turned-partial S S y.pairs l.bijection in
      record {
        in_range = l.in_range;
        ascending = in_order-ascending S B l.ascending t.in_order;
        injective = injective_map-from B (in_order-once S B l.ascending t.in_order) t.injective;
        has_slots = λ s c.
            let r = Contains-of_value y.pairs s (l.onto s (l.used s c)) in
            Contains-key B s r.0 (turned-by S S y.pairs l.bijection r.0 s r.1);
        within = λ s c.
            let r = Contains-of_key B s c in
            l.within s (l.bijection.within r.0 s (turned-pair S y.pairs r.0 s r.1));
      }

  -- equality up to symmetries moves with names
  pub upto-renamed : (f : ℕ → ℕ) → IsInjective f → {a b : Applied} → UpToSymmetries g a b → UpToSymmetries g (renamed_id f a) (renamed_id f b)
  upto-renamed f inj (found_alike {a = a} {b = b} v w e) =
      found_alike (valid-renamed _ g.nodes f inj a v) (valid-renamed _ g.nodes f inj b w)
      (found-renamed g.found f a ∙ (ap (renamed_id f) e ∙ sym (found-renamed g.found f b)))
  upto-renamed f inj (listed y h c i) =
      let same : (x : Applied) → renamed_id (λ z. f (h z)) x ≡ renamed_id f (renamed_id h x) = λ x. ap (λ (m : List (ℕ × ℕ)). (x.0, m)) (sym (with_values-then h f x.1)) in
      let s : UpToSymmetries g (renamed_id (λ z. f (h z)) (left_of y)) (renamed_id (λ z. f (h z)) (right_of y)) = listed y (λ z. f (h z)) c (λ x z e. i x z (inj (h x) (h z) e)) in
      subst (λ x. UpToSymmetries g x (renamed_id f (renamed_id h (right_of y)))) (same (left_of y))
      (subst (λ x. UpToSymmetries g (renamed_id (λ z. f (h z)) (left_of y)) x) (same (right_of y)) s)
  upto-renamed f inj (turned_round e) = turned_round (upto-renamed f inj e)
  upto-renamed f inj (joined d e) = joined (upto-renamed f inj d) (upto-renamed f inj e)

  pub upto-refl : (a : Applied) → IsValidIn g a → UpToSymmetries g a a
  upto-refl a v = found_alike v v refl

  -- links are an equivalence of classes
  pub linked_to-same : Linked g.nodes g.found → (i : ℕ) → i < length g.nodes → LinkedTo g i i
  linked_to-same l i h =
      let a : Applied = identity_id g.nodes i in
      let full : IsFull g.nodes a = identity-full g.nodes i h in
      record { left = a; right = a; left_class = refl; right_class = refl; left_full = full; right_full = full; same = refl; equal = upto-refl a (full-is_valid g.nodes g.found l a full) }

  pub linked_to-turned : (i o : ℕ) → LinkedTo g i o → LinkedTo g o i
  linked_to-turned i o l = record {
    left = l.right;
    right = l.left;
    left_class = l.right_class;
    right_class = l.left_class;
    left_full = l.right_full;
    right_full = l.left_full;
    same = sym l.same;
    equal = turned_round l.equal;
  }

  pub linked_to-joined : (i o j : ℕ) → LinkedTo g i o → LinkedTo g o j → LinkedTo g i j
  linked_to-joined i o j l r =
      let p : (π : Bijection) × (renamed_id π.to r.left ≡ l.right) = full-bijection g.nodes r.left l.right r.left_full l.right_full (r.left_class ∙ sym l.right_class) in
      let f : ℕ → ℕ = p.0.to in
      let inj : IsInjective f = to-injective p.0 in
      record {
        left = l.left;
        right = renamed_id f r.right;
        left_class = l.left_class;
        right_class = r.right_class;
        left_full = l.left_full;
        right_full = full-renamed g.nodes r.right r.right_full f (λ x y h k. inj x y);
        same = l.same
            ∙ (ap (λ x. normal g.found (node_of g.nodes x)) (sym p.1)
            ∙ (normal-renamed g.nodes g.found r.left r.left_full f
            ∙ (ap (moved f) r.same ∙ sym (normal-renamed g.nodes g.found r.right r.right_full f))));
        equal = joined l.equal (subst (λ x. UpToSymmetries g x (renamed_id f r.right)) p.1 (upto-renamed f inj r.equal));
      }

  module _ (each : (y : Symmetry) → Contains g.symmetries y → IsListed g y) where
    -- only valid ids are equal up to symmetries
    pub upto-valid : {a b : Applied} → UpToSymmetries g a b → IsValidIn g a × IsValidIn g b
    upto-valid (found_alike v w e) = (v, w)
    upto-valid (listed y f c inj) = (valid-renamed _ g.nodes f inj (left_of y) (left-valid y (each y c)), valid-renamed _ g.nodes f inj (right_of y) (right-valid y (each y c)))
    upto-valid (turned_round e) = let r = upto-valid e in (r.1, r.0)
    upto-valid (joined d e) = ((upto-valid d).0, (upto-valid e).1)

  -- they find one class
  pub upto-class : {a b : Applied} → UpToSymmetries g a b → find_class g.found a.0 ≡ find_class g.found b.0
  upto-class (found_alike v w e) = ap (λ (x : Applied). x.0) e
  upto-class (listed y f c inj) = refl
  upto-class (turned_round e) = sym (upto-class e)
  upto-class (joined d e) = upto-class d ∙ upto-class e

  -- and alike where no symmetry of that class is open
  pub upto-alike : {a b : Applied} → UpToSymmetries g a b → HasNoOpenSymmetry g (find_class g.found a.0) → find g.found a ≡ find g.found b
  upto-alike (found_alike v w e) closed = e
  upto-alike (listed y f c inj) closed =
      found-renamed g.found f (left_of y)
      ∙ (ap (renamed_id f) (applied-stable (find g.found (left_of y)) (find g.found (right_of y)) (closed y c refl))
      ∙ sym (found-renamed g.found f (right_of y)))
  upto-alike (turned_round e) closed = sym (upto-alike e (subst (HasNoOpenSymmetry g) (sym (upto-class e)) closed))
  upto-alike (joined d e) closed = upto-alike d closed ∙ upto-alike e (subst (HasNoOpenSymmetry g) (upto-class d) closed)

  module _ (aligned : (y : Symmetry) → Contains g.symmetries y → IsAligned g y) where
    pub upto-names : {a b : Applied} → UpToSymmetries g a b → id_names (find g.found a) ≡ id_names (find g.found b)
    upto-names (found_alike v w e) = ap id_names e
    upto-names (listed y f c inj) =
        ap id_names (found-renamed g.found f (left_of y))
        ∙ (id_names-renamed f (find g.found (left_of y)) (find g.found (right_of y)) (aligned y c)
        ∙ ap id_names (sym (found-renamed g.found f (right_of y))))
    upto-names (turned_round e) = sym (upto-names e)
    upto-names (joined d e) = upto-names d ∙ upto-names e

    -- where all symmetries are aligned, equal ids are found together
    pub upto-together : {a b : Applied} → UpToSymmetries g a b → FoundTogether g a b
    upto-together e = record { equal = e; class = upto-class e; names = upto-names e; alike = upto-alike e }

-- Proof steps are sound: an equation holds if its parts do.
use Rattle.std.proofs.Common.{◌≡◌, ℕ, List, sym, ◌∙◌, ap, refl, subst}
use Rattle.std.specs.Prelude.{Contains}
use Rattle.std.proofs.lemmas.List.Elements.{Contains-append_left, Contains-append_right}
use Rattle.slotted_lists.proofs.Contained.{contains_head, contains_tail}
use Rattle.slotted_theory.specs.Nameless.{DArgs, DTerm}
use Rattle.slotted_theory.specs.Derives.{Equal, joined, within, moving, EqualArgs, equal_done, equal_name, equal_child, equal_bind}
use Rattle.slotted_theory.specs.Derives.{turned as the_other_way}
use Rattle.slotted_theory.specs.Renaming.{Bijection}
use Rattle.slotted_theory.proofs.Bijections.{to-injective}
use Rattle.slotted_theory.proofs.Equals.{Equal-from_path}
use Rattle.slotted_theory.proofs.Values.{node, expand_args, expand}
use Rattle.slotted_theory.specs.FiniteMaps.{with_values}
use Rattle.slotted_model.specs.Applied.{Applied, as_term, renamed_id}
use Rattle.slotted_model.specs.Classes.{terms, stands, canonical_slots, term_of, layer_of, IsFull, Canonical}
use Rattle.slotted_model.specs.Correspondence.{IsFullMap, same_names, identity, turned, IsPartialInjection}
use Rattle.slotted_model.specs.ProofList.{Equation, equation_of, turned_equation, IsOver, HoldsFrom, IsReflexive, IsSymmetric, IsTransitive, AreCongruent, no_more, one_name, one_child, one_binder, node_of, IsCongruent}
use Rattle.slotted_model.proofs.Represented.Children.{expand-as_term}
use Rattle.slotted_model.proofs.Represented.Full.{term_of-renamed, term_of-layer}
use Rattle.slotted_model.proofs.Correspondences.FullMaps.{equal_sides_iff, same_names-turned}
use Rattle.slotted_model.proofs.Correspondences.Matching.{same_names-bijection}
use Rattle.slotted_model.proofs.Correspondences.Middle.{middle_iff}
use Rattle.slotted_model.proofs.Correspondences.FullIds.{slots-different, full_map, full_id}

-- equal terms at the ends of paths
pub Equal-between : {E : List (DTerm × DTerm)} {a b c d : DTerm} → a ≡ b → c ≡ d → Equal E b d → Equal E a c
Equal-between p q e = joined (Equal-from_path p) (joined e (Equal-from_path (sym q)))

pub equation-turned : (nodes : List DTerm) (a b : Applied) → IsFull nodes a → IsFull nodes b → equation_of b a ≡ turned_equation nodes (equation_of a b)
equation-turned nodes a b fa fb =
    let e : same_names b.1 a.1 ≡ turned (canonical_slots nodes b.0) (same_names a.1 b.1) = same_names-turned (canonical_slots nodes a.0) (canonical_slots nodes b.0) a.1 b.1 (full_map nodes a fa) (full_map nodes b fb) in
    λ i. record { left = b.0; right = a.0; pairs = e i }

-- the steps of a proof list keep each relation between full ids that has their laws
module _ (R : Applied → Applied → Type 0) (nodes : List DTerm) where
  -- it relates the sides of an equation, whatever their names
  abbrev pub Relates : Equation → Type 0
  Relates e = (a b : Applied) → IsFull nodes a → IsFull nodes b → equation_of a b ≡ e → R a b

  -- one pair of full ids is enough, if the relation does not depend on names
  pub one_pair-relates : ((π : Bijection) (a b : Applied) → IsFull nodes a → IsFull nodes b → R a b → R (renamed_id π.to a) (renamed_id π.to b)) → (e : Equation) (a b : Applied) → IsFull nodes a → IsFull nodes b → equation_of a b ≡ e → R a b → Relates e
  one_pair-relates renames e a b fa fb p eq c d fc fd q =
      let r : equation_of c d ≡ equation_of a b = q ∙ sym p in
      let left : c.0 ≡ a.0 = ap (λ (x : Equation). x.left) r in
      let right : d.0 ≡ b.0 = ap (λ (x : Equation). x.right) r in
      let P : List ℕ = canonical_slots nodes a.0 in
      let Q : List ℕ = canonical_slots nodes b.0 in
      let mc : IsFullMap P c.1 = subst (λ i. IsFullMap (canonical_slots nodes i) c.1) left (full_map nodes c fc) in
      let md : IsFullMap Q d.1 = subst (λ i. IsFullMap (canonical_slots nodes i) d.1) right (full_map nodes d fd) in
      let s : (π : Bijection) × (c.1 ≡ with_values π.to a.1) × (d.1 ≡ with_values π.to b.1) = same_names-bijection P Q a.1 b.1 c.1 d.1 (full_map nodes a fa) (full_map nodes b fb) mc md (sym (ap (λ (x : Equation). x.pairs) r)) in
      let ec : c ≡ renamed_id s.0.to a = λ i. (left i, s.1 i) in
      let ed : d ≡ renamed_id s.0.to b = λ i. (right i, s.2 i) in
      subst (λ (x : Applied × Applied). R x.0 x.1) (λ i. (sym ec i, sym ed i)) (renames s.0 a b fa fb eq)

  pub reflexive-relates : ((a : Applied) → R a a) → (e : Equation) → IsReflexive nodes e → Relates e
  reflexive-relates same_one e r a b fa fb p =
      let same : a.0 ≡ b.0 = ap (λ (x : Equation). x.left) p ∙ (r.0 ∙ sym (ap (λ (x : Equation). x.right) p)) in
      let P : List ℕ = canonical_slots nodes a.0 in
      let mb : IsFullMap P b.1 = subst (λ i. IsFullMap (canonical_slots nodes i) b.1) (sym same) (full_map nodes b fb) in
      let pairs : same_names a.1 b.1 ≡ identity P = ap (λ (x : Equation). x.pairs) p ∙ (r.1 ∙ ap (λ i. identity (canonical_slots nodes i)) (sym (ap (λ (x : Equation). x.left) p))) in
      let m : a.1 ≡ b.1 = (equal_sides_iff P a.1 b.1 (full_map nodes a fa) mb).0 pairs in
      subst (R a) (λ i. (same i, m i)) (same_one a)

  pub symmetric-relates : ((a b : Applied) → R a b → R b a) → (e part : Equation) → IsSymmetric nodes e part → Relates part → Relates e
  symmetric-relates turns e part s h a b fa fb p =
      turns b a (h b a fb fa (equation-turned nodes a b fa fb ∙ (ap (turned_equation nodes) p ∙ sym s)))

  pub transitive-relates : ((a b c : Applied) → R a b → R b c → R a c) → (e first second : Equation) → IsOver nodes first → IsOver nodes second → IsTransitive e first second → Relates first → Relates second → Relates e
  transitive-relates joins e first second o1 o2 t h1 h2 a c fa fc p =
      let P : List ℕ = canonical_slots nodes a.0 in
      let Q : List ℕ = canonical_slots nodes first.right in
      let R : List ℕ = canonical_slots nodes c.0 in
      let left : first.left ≡ a.0 = t.left ∙ sym (ap (λ (x : Equation). x.left) p) in
      let right : second.right ≡ c.0 = t.right ∙ sym (ap (λ (x : Equation). x.right) p) in
      let i1 : IsPartialInjection P Q first.pairs = subst (λ i. IsPartialInjection (canonical_slots nodes i) Q first.pairs) left o1.pairs in
      let i2 : IsPartialInjection Q R second.pairs = subst (λ i. IsPartialInjection Q (canonical_slots nodes i) second.pairs) right (subst (λ i. IsPartialInjection (canonical_slots nodes i) (canonical_slots nodes second.right) second.pairs) (sym t.middle) o2.pairs) in
      let r : (k : List (ℕ × ℕ)) × IsFullMap Q k × (same_names a.1 k ≡ first.pairs) × (same_names k c.1 ≡ second.pairs) =
      (middle_iff P Q R a.1 c.1 e.pairs first.pairs second.pairs (full_map nodes a fa) (full_map nodes c fc) (ap (λ (x : Equation). x.pairs) p) (slots-different nodes first.right) i1 i2).1 t.joins in
      let b : Applied = (first.right, r.0) in
      let fb : IsFull nodes b = full_id nodes first.right r.0 o1.right r.1 in
      joins a b c (h1 a b fa fb (λ i. record { left = sym left i; right = first.right; pairs = r.2 i }))
      (h2 b c fb fc (λ i. record { left = t.middle i; right = sym right i; pairs = r.3 i }))

-- so they are sound: an equation holds if its parts do

-- the two sides stand for equal terms
abbrev StandForEqual : List (DTerm × DTerm) → List DTerm → Applied → Applied → Type 0
StandForEqual E nodes a b = Equal E (term_of nodes a) (term_of nodes b)

-- one pair of full ids with equal terms is enough
pub one_is_enough : (E : List (DTerm × DTerm)) (nodes : List DTerm) → Canonical nodes → (e : Equation) (a b : Applied) → IsFull nodes a → IsFull nodes b → equation_of a b ≡ e → Equal E (term_of nodes a) (term_of nodes b) → HoldsFrom E nodes e
one_is_enough E nodes can =
    one_pair-relates (StandForEqual E nodes) nodes (λ π a b fa fb eq.
    Equal-between (term_of-renamed nodes can a fa π.to) (term_of-renamed nodes can b fb π.to) (moving π.to (to-injective π) eq))

pub reflexive-sound : (E : List (DTerm × DTerm)) (nodes : List DTerm) (e : Equation) → IsReflexive nodes e → HoldsFrom E nodes e
reflexive-sound E nodes = reflexive-relates (StandForEqual E nodes) nodes (λ a. Equal-from_path refl)

pub symmetric-sound : (E : List (DTerm × DTerm)) (nodes : List DTerm) (e part : Equation) → IsSymmetric nodes e part → HoldsFrom E nodes part → HoldsFrom E nodes e
symmetric-sound E nodes = symmetric-relates (StandForEqual E nodes) nodes (λ a b h. the_other_way h)

pub transitive-sound : (E : List (DTerm × DTerm)) (nodes : List DTerm) (e first second : Equation) → IsOver nodes first → IsOver nodes second → IsTransitive e first second → HoldsFrom E nodes first → HoldsFrom E nodes second → HoldsFrom E nodes e
transitive-sound E nodes = transitive-relates (StandForEqual E nodes) nodes (λ a b c h k. joined h k)

-- the children of congruent nodes stand for equal terms
congruent_args : {E : List (DTerm × DTerm)} {nodes : List DTerm} {d e : DArgs} {parts : List Equation} → AreCongruent nodes d e parts → ((q : Equation) → Contains parts q → HoldsFrom E nodes q) → EqualArgs E (expand_args (stands (terms nodes)) d) (expand_args (stands (terms nodes)) e)
congruent_args no_more h = equal_done
congruent_args (one_name c) h = equal_name (congruent_args c (λ q k. h q k))
congruent_args {nodes = nodes} (one_child a b {parts = parts} fa fb c) h =
    equal_child {d = expand (stands (terms nodes)) (as_term a)} {e = expand (stands (terms nodes)) (as_term b)}
    (Equal-between (expand-as_term (terms nodes) a) (expand-as_term (terms nodes) b) (h (equation_of a b) (contains_head (equation_of a b) parts) a b fa fb (λ i. equation_of a b)))
    (congruent_args c (λ q k. h q (contains_tail (equation_of a b) parts q k)))
congruent_args (one_binder {inner = inner} {parts = parts} c k) h =
    equal_bind (congruent_args c (λ q m. h q (Contains-append_left inner parts q m))) (congruent_args k (λ q m. h q (Contains-append_right inner parts q m)))

pub congruent-sound : (E : List (DTerm × DTerm)) (nodes : List DTerm) → Canonical nodes → (e : Equation) (parts : List Equation) → IsCongruent nodes e parts → ((q : Equation) → Contains parts q → HoldsFrom E nodes q) → HoldsFrom E nodes e
congruent-sound E nodes can e parts c h =
    let l : DTerm = node_of nodes c.left in
    let r : DTerm = node_of nodes c.right in
    let args : EqualArgs E (layer_of nodes l).args (layer_of nodes r).args = congruent_args c.children h in
    let same : Equal E (layer_of nodes l) (layer_of nodes r) =
    joined (within {op = l.op} {payloads = l.payloads} args) (Equal-from_path (λ i. node (c.operators i) (c.payloads i) (layer_of nodes r).args)) in
    one_is_enough E nodes can e c.left c.right c.left_full c.right_full c.equation
    (Equal-between (term_of-layer nodes can c.left c.left_full) (term_of-layer nodes can c.right c.right_full) same)

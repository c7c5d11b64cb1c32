-- Equations in numbered form: what they state determines them.
use Rattle.std.proofs.Common.{◌≡◌, ◌↔◌, ℕ, List, Bool, true, false, refl, sym, ap, ◌∙◌, subst, rules}
use Rattle.std.specs.Prelude.{IsTrue, ◌&&◌, nat_eq, not}
use Rattle.std.proofs.lemmas.Bool.{false≢true}
use Rattle.std.specs.Bool.{Decides}
use Rattle.std.specs.Cmp.Lexicographic.{pointwise}
use Rattle.std.proofs.lemmas.Slice.Eq.{slice_eq-Decides}
use Rattle.slotted_theory.specs.FiniteMaps.{IsInjectiveMap}
use Rattle.slotted_model.specs.Applied.{Applied, keys}
use Rattle.slotted_model.specs.Correspondence.{IsFullMap}
use Rattle.slotted_model.proofs.Correspondences.FullMaps.{same_names-turned}
use Rattle.slotted_proofs.specs.declared.equation.Equation.{Equation as Sides}
use Rattle.slotted_proofs.specs.Equations.{Statement, to_applied, equality, statement_of, turned_statement, AreSides, IsWritten}

-- the sides of a statement state it
pub stated : (s : Statement) (a b : Applied) → AreSides s a b → equality a b ≡ s
stated s a b w = λ i. record { left_slots = w.left_full.slots i; right_slots = w.right_full.slots i; equation = w.equation i }

-- and so they are the sides of what they state
pub own_sides : (s : Statement) (a b : Applied) → AreSides s a b → AreSides (equality a b) a b
own_sides s a b w = subst (λ t. AreSides t a b) (sym (stated s a b w)) w

-- an equality turned round is the other way round
pub equality-turned : (a b c d : Applied) → IsInjectiveMap a.1 → IsInjectiveMap b.1 → AreSides (equality b a) c d → equality b a ≡ turned_statement (equality a b)
equality-turned a b c d h k w =
    let P : List ℕ = keys a.1 in
    let Q : List ℕ = keys b.1 in
    let f : IsFullMap P a.1 = record { slots = refl; once = w.right_full.once; injective = h } in
    let g : IsFullMap Q b.1 = record { slots = refl; once = w.left_full.once; injective = k } in
    λ i. record { left_slots = Q; right_slots = P; equation = record { left = b.0; right = a.0; pairs = same_names-turned P Q a.1 b.1 f g i } }

-- the comparison of the code is equality

pair_same : (p q : ℕ × ℕ) → Decides (nat_eq p.0 q.0 && nat_eq p.1 q.1) (p ≡ q)
pair_same p q = search rules

abbrev pub maps_eq : List (ℕ × ℕ) → List (ℕ × ℕ) → Bool
maps_eq m n = pointwise (λ p q. nat_eq p.0 q.0 && nat_eq p.1 q.1) m n

pub map_same : (m n : List (ℕ × ℕ)) → IsTrue (maps_eq m n) ↔ m ≡ n
map_same m n = search (rules, slice_eq-Decides pair_same m n (maps_eq m n) refl)

pub maps_told : (b : Bool) (m n : List (ℕ × ℕ)) → b ≡ maps_eq m n → IsTrue b ↔ m ≡ n
maps_told b m n e = subst (λ (x : Bool). IsTrue x ↔ m ≡ n) (sym e) (map_same m n)

-- and so is its opposite
pub not_false : (b : Bool) → false ≡ not b → b ≡ true
not_false true e = refl
not_false false e = e

pub not_true : (b : Bool) → true ≡ not b → b ≡ true → ⊥
not_true true e h = false≢true (sym e)
not_true false e h = false≢true h

abbrev pub sides_eq : Sides → Sides → Bool
sides_eq e f = (nat_eq e.l.id.0 f.l.id.0 && maps_eq e.l.m f.l.m) && (nat_eq e.r.id.0 f.r.id.0 && maps_eq e.r.m f.r.m)

-- the same class and the same map on both sides
pub record SameSides (e f : Sides) : Type 0 where
  pub left : e.l.id.0 ≡ f.l.id.0
  pub left_map : e.l.m ≡ f.l.m
  pub right : e.r.id.0 ≡ f.r.id.0
  pub right_map : e.r.m ≡ f.r.m

four_tests : (i j k l : ℕ) (b c : Bool) {P Q : Type 0} → (IsTrue b ↔ P) → (IsTrue c ↔ Q) → IsTrue ((nat_eq i j && b) && (nat_eq k l && c)) ↔ ((i ≡ j) × P × (k ≡ l) × Q)
four_tests i j k l b c h g = search rules

pub sides_eq-same : (e f : Sides) → IsTrue (sides_eq e f) ↔ SameSides e f
sides_eq-same e f =
    let t = four_tests e.l.id.0 f.l.id.0 e.r.id.0 f.r.id.0 (maps_eq e.l.m f.l.m) (maps_eq e.r.m f.r.m) (map_same e.l.m f.l.m) (map_same e.r.m f.r.m) in (
      λ h. let q = t.0 h in record { left = q.0; left_map = q.1; right = q.2; right_map = q.3 },
      λ s. t.1 (s.left, s.left_map, s.right, s.right_map),
    )

-- equal sides state the same
pub same_statement : (e f : Sides) → SameSides e f → statement_of e ≡ statement_of f
same_statement e f s = λ i. equality (s.left i, s.left_map i) (s.right i, s.right_map i)

-- two numbered equations of one statement are the same
pub written_once : (s : Statement) (e f : Sides) → IsWritten s e → IsWritten s f → SameSides e f
written_once s e f w v =
    let l : to_applied e.l ≡ to_applied f.l = w.left ∙ sym v.left in
    let r : to_applied e.r ≡ to_applied f.r = w.right ∙ sym v.right in
    record { left = ap (λ a. a.0) l; left_map = ap (λ a. a.1) l; right = ap (λ a. a.0) r; right_map = ap (λ a. a.1) r }

-- Two sessions of the same trees and pairs in another order. The one unites u x and v x, keeps v, and adds f (u x), which is made over v x;
-- the other adds f (u x) first, then v of another name, and keeps u: the nodes differ, and the graphs agree.
use Rattle.std.proofs.Common.{◌≡◌, ◌≢◌, ◌↔◌, ℕ, List, zero, suc, ◌<◌, ◌≤◌, [], ◌∷◌, length, Some, refl, ap, sym, ◌∙◌, subst, arith, inl, inr}
use Rattle.std.specs.Prelude.{Contains, slice_index_or}
use Rattle.slotted_theory.specs.Nameless.{DTerm, stop, place}
use Rattle.slotted_theory.specs.Shape.{shape}
use Rattle.slotted_theory.specs.Derives.{Equal, listed, turned, reflexive, within, moving, equal_child, equal_done}
use Rattle.std.proofs.lemmas.Bool.{leb-true}
use Rattle.slotted_lists.proofs.Contained.{contains_head, contains_tail, contains_cases, Contains-nil}
use Rattle.slotted_theory.specs.Renaming.{swapped}
use Rattle.slotted_theory.proofs.Bijections.{swap, to-injective}
use Rattle.slotted_theory.proofs.Values.{node, child_before}
use Rattle.slotted_model.specs.Applied.{Applied, as_term}
use Rattle.slotted_model.specs.Classes.{canonical_node, IsFull}
use Rattle.slotted_model.specs.Growth.{IsNew}
use Rattle.slotted_model.specs.Find.{find_class}
use Rattle.slotted_model.specs.Link.{IsLater}
use Rattle.slotted_model.specs.ProofList.{Equation, equation_at}
use Rattle.slotted_model.specs.State.{Row, State, normal_node, look_up_tree, child_classes}
use Rattle.slotted_model.specs.Rest.{lives_from, slots_from}
use Rattle.slotted_model.specs.Affected.{AreAlikeOrAffected}
use Rattle.slotted_model.specs.Changes.{linked_state, left_dies}
use Rattle.slotted_model.specs.Rebuild.{IsCovered, HasNothingLeft, starts as starts_run}
use Rattle.slotted_model.specs.Adding.{with_new_class, with_quiet_row, with_assertion, Adds, files_row, Asserts, is_new}
use Rattle.slotted_model.specs.Agreement.{Knows, Correspond, HasTermsOf, Agree}
use Rattle.slotted_model.specs.Sessions.{nothing, Session, starts, adds, asserts, Follow, AreAmong}
use Rattle.slotted_model.proofs.Examples.CompletenessExamples.{one_of, three_of}
use Rattle.slotted_model.specs.Cost.{CostFunction, limited_size}
use Rattle.slotted_model.specs.Extraction.{TableEntry, cost_in, Fits}
use Rattle.slotted_model.proofs.LeastTerms.AgreeingCosts.{costs-agree}
use Rattle.slotted_model.proofs.LeastTerms.KnownCosts.{lawful-everywhere}
use Rattle.slotted_model.proofs.LeastTerms.Optimal.{finished-fits}
use Rattle.slotted_model.proofs.LeastTerms.Sizes.{size-lawful, size-total}
use Rattle.slotted_model.proofs.LeastTerms.TableMaking.{made}
use Rattle.slotted_model.proofs.Complete.Corresponding.{each-corresponds, alike-or_affected}
use Rattle.slotted_model.proofs.Represented.Growing.{node-new}
use Rattle.slotted_model.proofs.Complete.HoldingTrees.{session-holds, sessions-terms, sessions-agree}
use Rattle.slotted_model.proofs.Rebuilding.QuietTurns.{quiet-run}

operators_differ : {d e : DTerm} → d ≡ e → d.op ≡ e.op
operators_differ p = ap (λ (t : DTerm). t.op) p

-- a class whose node has a shape of its own is filed in one turn
abbrev pub with_filed : State → DTerm → State
with_filed g c = with_quiet_row (with_new_class g c) (length g.nodes)

pub files_apart : (g : State) (c : DTerm) → IsCovered (with_new_class g c) (length g.nodes) →
    ((r : Row) → Contains g.rows r → (r.source ≢ length g.nodes) × (r.shape ≢ shape (normal_node (with_new_class g c) (length g.nodes)))) →
    HasNothingLeft (with_filed g c) → Adds g c (with_filed g c)
files_apart g c covered other left =
    let i : ℕ = length g.nodes in
    files_row (λ r k. (other r k).1)
    (quiet-run (with_new_class g c) i covered (λ r k. (other r k).0) (λ r k. (other r k).1) (λ k. Contains-nil i (subst (λ w. Contains w i) left.0 k))) left

-- so it is if no row has its operator
pub files : (g : State) (c : DTerm) → IsCovered (with_new_class g c) (length g.nodes) →
    ((r : Row) → Contains g.rows r → (r.source ≢ length g.nodes) × (r.shape.op ≢ c.op)) → HasNothingLeft (with_filed g c) → Adds g c (with_filed g c)
files g c covered other left =
    files_apart g c covered (λ r k. ((other r k).0, λ e. (other r k).1 (operators_differ e ∙ ap (λ (t : DTerm). t.op) (node-new g.nodes c)))) left

abbrev u_of : ℕ → DTerm
u_of x = node 3 [] (place x stop)

abbrev v_of : ℕ → DTerm
v_of x = node 4 [] (place x stop)

abbrev f_of : DTerm → DTerm
f_of t = node 5 [] (child_before t stop)

-- f over the class of u, or of v, of the name 0
abbrev f_over : ℕ → DTerm
f_over i = node 5 [] (child_before (as_term (i, (0, 0) ∷ [])) stop)

-- what holds of the one row, or of both rows, of a list
pub one_row : {X : Type 0} (P : X → Type 0) (x : X) → P x → (y : X) → Contains (x ∷ []) y → P y
one_row P x p y c = subst P (sym (one_of c)) p

pub two_rows : {X : Type 0} (P : X → Type 0) (x z : X) → P x → P z → (y : X) → Contains (x ∷ z ∷ []) y → P y
two_rows P x z p q y c = elim (contains_cases x (z ∷ []) y c) [
  | inl e ↦ subst P (sym e) p
  | inr k ↦ one_row P z q y k
]

abbrev row_of_u : Row
row_of_u = record { shape = u_of 0; source = 0; slots = (0, 0) ∷ [] }

-- u x alone, as both sessions begin
abbrev with_u : State
with_u = with_filed nothing (u_of 0)

u_is_new : IsNew [] (u_of 0)
u_is_new = record { operator = omega arith; children = tt; shape_is_new = λ i l p. omega arith }

begun : Session (u_of 0 ∷ []) [] with_u
begun = adds (u_of 0) (u_of 0) starts u_is_new reflexive (files nothing (u_of 0) (λ s c. c) (λ r k. absurd (Contains-nil r k)) (refl, λ y k. absurd (Contains-nil y k)))

-- the early union: v x, then u x = v x, by which u dies, and then f over v
abbrev early_v : State
early_v = with_filed with_u (v_of 0)

abbrev u_is_v : Equation
u_is_v = record { left = 0; right = 1; pairs = (0, 0) ∷ [] }

abbrev early_union : State
early_union = linked_state (with_assertion early_v u_is_v) u_is_v 2 0 []

abbrev early : State
early = with_filed early_union (f_over 1)

early_v_is_new : IsNew with_u.nodes (v_of 0)
early_v_is_new = record { operator = omega arith; children = tt; shape_is_new = other }
  where
    other : (i : ℕ) → i < 1 → ¬ (shape (canonical_node with_u.nodes i) ≡ shape (v_of 0))
    other zero l p = let e : ◌≡◌ {A = ℕ} 3 4 = operators_differ p in omega arith
    other (suc i) l p = omega arith

early_u_full : IsFull early_v.nodes (0, (0, 0) ∷ [])
early_u_full = record { in_range = omega arith; slots = refl; injective = (λ k. k, tt) }

early_v_full : IsFull early_v.nodes (1, (0, 0) ∷ [])
early_v_full = record { in_range = omega arith; slots = refl; injective = (λ k. k, tt) }

early_f_is_new : IsNew early_union.nodes (f_over 1)
early_f_is_new = record { operator = omega arith; children = (((1, (0, 0) ∷ []), refl, early_v_full), tt); shape_is_new = other }
  where
    other : (i : ℕ) → i < 2 → ¬ (shape (canonical_node early_v.nodes i) ≡ shape (f_over 1))
    other zero l p = let e : ◌≡◌ {A = ℕ} 3 5 = operators_differ p in omega arith
    other (suc zero) l p = let e : ◌≡◌ {A = ℕ} 4 5 = operators_differ p in omega arith
    other (suc (suc i)) l p = omega arith

early_asserts : Asserts early_v (0, (0, 0) ∷ []) (1, (0, 0) ∷ []) early_union
early_asserts = is_new other
    (left_dies 2 0 [] (λ e. omega arith) (record { left = λ s c. c; right = λ s c. c }) (omega arith, refl) none_died
    (record {
      once = tt;
      kept = λ o c. c;
      over = two_rows (λ r. Contains (child_classes r.shape.args) 0 → Contains [] r.source) _ _ (λ c. absurd (Contains-nil 0 c)) (λ c. absurd (Contains-nil 0 c));
      from = λ o c. absurd (Contains-nil o c);
    })) starts_run (refl, λ y c. absurd (Contains-nil y c))
  where
    other : (q : ℕ) → q < 2 → equation_at early_v.proofs q ≢ u_is_v
    other zero l e = let n : ◌≡◌ {A = ℕ} 0 1 = ap (λ (x : Equation). x.right) e in omega arith
    other (suc zero) l e = let n : ◌≡◌ {A = ℕ} 1 0 = ap (λ (x : Equation). x.left) e in omega arith
    other (suc (suc q)) l e = omega arith

    none_died : IsLater early_v.found 0
    none_died zero l d = absurd (d refl)
    none_died (suc zero) l d = absurd (d refl)
    none_died (suc (suc i)) l d = absurd (omega arith)

early_session : Session (f_of (u_of 0) ∷ v_of 0 ∷ u_of 0 ∷ []) ((u_of 0, v_of 0) ∷ []) early
early_session =
    adds (f_of (u_of 0)) (f_over 1)
    (asserts (u_of 0) (v_of 0) (0, (0, 0) ∷ []) (1, (0, 0) ∷ [])
    (adds (v_of 0) (v_of 0) begun early_v_is_new reflexive
    (files with_u (v_of 0) (λ s c. c) (one_row (λ r. (r.source ≢ 1) × (r.shape.op ≢ 4)) _ (λ e. omega arith, λ e. omega arith)) (refl, λ y k. absurd (Contains-nil y k))))
    (early_u_full, reflexive) (early_v_full, reflexive) early_asserts)
    early_f_is_new (within (equal_child {d = v_of 0} {e = u_of 0} (turned (listed (contains_head (u_of 0, v_of 0) []))) equal_done))
    (files early_union (f_over 1) (λ s c. c) (two_rows (λ r. (r.source ≢ 2) × (r.shape.op ≢ 5)) _ _ (λ e. omega arith, λ e. omega arith) (λ e. omega arith, λ e. omega arith)) (refl, λ y k. absurd (Contains-nil y k)))

-- the late union: f over u, then v of the name 7, and v x = u x, by which v dies
abbrev late_f : State
late_f = with_filed with_u (f_over 0)

abbrev late_v : State
late_v = with_filed late_f (v_of 7)

abbrev v_is_u : Equation
v_is_u = record { left = 2; right = 0; pairs = (7, 0) ∷ [] }

abbrev late : State
late = linked_state (with_assertion late_v v_is_u) v_is_u 3 0 []

late_u_full : IsFull with_u.nodes (0, (0, 0) ∷ [])
late_u_full = record { in_range = omega arith; slots = refl; injective = (λ k. k, tt) }

late_f_is_new : IsNew with_u.nodes (f_over 0)
late_f_is_new = record { operator = omega arith; children = (((0, (0, 0) ∷ []), refl, late_u_full), tt); shape_is_new = other }
  where
    other : (i : ℕ) → i < 1 → ¬ (shape (canonical_node with_u.nodes i) ≡ shape (f_over 0))
    other zero l p = let e : ◌≡◌ {A = ℕ} 3 5 = operators_differ p in omega arith
    other (suc i) l p = omega arith

late_v_is_new : IsNew late_f.nodes (v_of 7)
late_v_is_new = record { operator = omega arith; children = tt; shape_is_new = other }
  where
    other : (i : ℕ) → i < 2 → ¬ (shape (canonical_node late_f.nodes i) ≡ shape (v_of 7))
    other zero l p = let e : ◌≡◌ {A = ℕ} 3 4 = operators_differ p in omega arith
    other (suc zero) l p = let e : ◌≡◌ {A = ℕ} 5 4 = operators_differ p in omega arith
    other (suc (suc i)) l p = omega arith

late_asserts : Asserts late_v (2, (7, 0) ∷ []) (0, (0, 0) ∷ []) late
late_asserts = is_new other
    (left_dies 3 0 [] (λ e. omega arith) (record { left = λ s c. c; right = λ s c. c }) (omega arith, refl) none_died
    (record {
      once = tt;
      kept = λ o c. c;
      over = three_of (λ r. Contains (child_classes r.shape.args) 2 → Contains [] r.source) _ _ _ (λ c. absurd (Contains-nil 2 c))
          (λ c. let e : ◌≡◌ {A = ℕ} 2 0 = one_of c in absurd (omega arith)) (λ c. absurd (Contains-nil 2 c));
      from = λ o c. absurd (Contains-nil o c);
    })) starts_run (refl, λ y c. absurd (Contains-nil y c))
  where
    other : (q : ℕ) → q < 3 → equation_at late_v.proofs q ≢ v_is_u
    other zero l e = let n : ◌≡◌ {A = ℕ} 0 2 = ap (λ (x : Equation). x.left) e in omega arith
    other (suc zero) l e = let n : ◌≡◌ {A = ℕ} 1 2 = ap (λ (x : Equation). x.left) e in omega arith
    other (suc (suc zero)) l e = let n : ◌≡◌ {A = ℕ} 2 0 = ap (λ (x : Equation). x.right) e in omega arith
    other (suc (suc (suc q))) l e = omega arith

    none_died : IsLater late_v.found 0
    none_died zero l d = absurd (d refl)
    none_died (suc zero) l d = absurd (d refl)
    none_died (suc (suc zero)) l d = absurd (d refl)
    none_died (suc (suc (suc i))) l d = absurd (omega arith)

late_session : Session (v_of 7 ∷ f_of (u_of 0) ∷ u_of 0 ∷ []) ((v_of 0, u_of 0) ∷ []) late
late_session =
    asserts (v_of 0) (u_of 0) (2, (7, 0) ∷ []) (0, (0, 0) ∷ [])
    (adds (v_of 7) (v_of 7)
    (adds (f_of (u_of 0)) (f_over 0) begun late_f_is_new reflexive
    (files with_u (f_over 0) (λ s c. c) (one_row (λ r. (r.source ≢ 1) × (r.shape.op ≢ 5)) _ (λ e. omega arith, λ e. omega arith)) (refl, λ y k. absurd (Contains-nil y k))))
    late_v_is_new reflexive
    (files late_f (v_of 7) (λ s c. c) (two_rows (λ r. (r.source ≢ 2) × (r.shape.op ≢ 4)) _ _ (λ e. omega arith, λ e. omega arith) (λ e. omega arith, λ e. omega arith)) (refl, λ y k. absurd (Contains-nil y k))))
    (record { in_range = omega arith; slots = refl; injective = (λ k. k, tt) }, reflexive)
    (record { in_range = omega arith; slots = refl; injective = (λ k. k, tt) }, reflexive)
    late_asserts

-- the kept classes and the nodes differ
kept_differ : (find_class early.found 0 ≡ 1) × (find_class late.found 2 ≡ 0)
kept_differ = (refl, refl)

nodes_differ : canonical_node early.nodes 2 ≢ canonical_node late.nodes 1
nodes_differ p = let n : ◌≡◌ {A = ℕ} 1 0 = ap (λ (d : DTerm). slice_index_or (child_classes d.args) 0 0) p in omega arith

-- each tree of the one is one of the other, up to its names
early_among : AreAmong (f_of (u_of 0) ∷ v_of 0 ∷ u_of 0 ∷ []) (v_of 7 ∷ f_of (u_of 0) ∷ u_of 0 ∷ [])
early_among = three_of (λ t. (u : DTerm) × Contains (v_of 7 ∷ f_of (u_of 0) ∷ u_of 0 ∷ []) u × (shape u ≡ shape t)) _ _ _
    (f_of (u_of 0), contains_tail (v_of 7) (f_of (u_of 0) ∷ u_of 0 ∷ []) (f_of (u_of 0)) (contains_head (f_of (u_of 0)) (u_of 0 ∷ [])), refl)
    (v_of 7, contains_head (v_of 7) (f_of (u_of 0) ∷ u_of 0 ∷ []), refl)
    (u_of 0, contains_tail (v_of 7) (f_of (u_of 0) ∷ u_of 0 ∷ []) (u_of 0) (contains_tail (f_of (u_of 0)) (u_of 0 ∷ []) (u_of 0) (contains_head (u_of 0) [])), refl)

late_among : AreAmong (v_of 7 ∷ f_of (u_of 0) ∷ u_of 0 ∷ []) (f_of (u_of 0) ∷ v_of 0 ∷ u_of 0 ∷ [])
late_among = three_of (λ t. (u : DTerm) × Contains (f_of (u_of 0) ∷ v_of 0 ∷ u_of 0 ∷ []) u × (shape u ≡ shape t)) _ _ _
    (v_of 0, contains_tail (f_of (u_of 0)) (v_of 0 ∷ u_of 0 ∷ []) (v_of 0) (contains_head (v_of 0) (u_of 0 ∷ [])), refl)
    (f_of (u_of 0), contains_head (f_of (u_of 0)) (v_of 0 ∷ u_of 0 ∷ []), refl)
    (u_of 0, contains_tail (f_of (u_of 0)) (v_of 0 ∷ u_of 0 ∷ []) (u_of 0) (contains_tail (v_of 0) (u_of 0 ∷ []) (u_of 0) (contains_head (u_of 0) [])), refl)

-- and the pair of the one is that of the other, turned round
early_follows : Follow ((u_of 0, v_of 0) ∷ []) ((v_of 0, u_of 0) ∷ [])
early_follows d e c = subst (λ (p : DTerm × DTerm). Equal ((v_of 0, u_of 0) ∷ []) p.0 p.1) (sym (one_of c)) (turned (listed (contains_head (v_of 0, u_of 0) [])))

late_follows : Follow ((v_of 0, u_of 0) ∷ []) ((u_of 0, v_of 0) ∷ [])
late_follows d e c = subst (λ (p : DTerm × DTerm). Equal ((u_of 0, v_of 0) ∷ []) p.0 p.1) (sym (one_of c)) (turned (listed (contains_head (u_of 0, v_of 0) [])))

-- so each graph has the terms of the other: the class that lives with u x and v x in the early graph is that of v, in the late one that of u
late_has : Knows late early × HasTermsOf late early
late_has =
    sessions-terms (f_of (u_of 0) ∷ v_of 0 ∷ u_of 0 ∷ []) (v_of 7 ∷ f_of (u_of 0) ∷ u_of 0 ∷ []) ((u_of 0, v_of 0) ∷ []) ((v_of 0, u_of 0) ∷ []) early late early_session late_session early_follows early_among

-- f of the early graph corresponds to an id of the late one
f_corresponds : (b : Applied) × Correspond early late (2, (0, 5) ∷ []) b
f_corresponds =
    each-corresponds early late (session-holds early_session).rest (session-holds late_session).rest late_has.0 late_has.1 (2, (0, 5) ∷ [])
    (record { in_range = omega arith; slots = refl; injective = (λ k. k, tt) })

-- what u x and v x find in the late graph follows from what they find in the early one, also if symmetries were open
found_there : AreAlikeOrAffected late (0, (0, 5) ∷ []) (2, (7, 5) ∷ [])
found_there =
    alike-or_affected early late (session-holds early_session).rest (session-holds late_session).rest late_has.0 (0, (0, 5) ∷ []) (0, (0, 5) ∷ []) (1, (0, 5) ∷ []) (2, (7, 5) ∷ [])
    (record {
      left_full = record { in_range = omega arith; slots = refl; injective = (λ k. k, tt) };
      right_full = record { in_range = omega arith; slots = refl; injective = (λ k. k, tt) };
      equal = reflexive;
    })
    (record {
      left_full = record { in_range = omega arith; slots = refl; injective = (λ k. k, tt) };
      right_full = record { in_range = omega arith; slots = refl; injective = (λ k. k, tt) };
      equal = reflexive;
    }) refl

-- and the graphs agree
agreed : Agree early late
agreed =
    sessions-agree (f_of (u_of 0) ∷ v_of 0 ∷ u_of 0 ∷ []) (v_of 7 ∷ f_of (u_of 0) ∷ u_of 0 ∷ []) ((u_of 0, v_of 0) ∷ []) ((v_of 0, u_of 0) ∷ []) early late early_session late_session
    (λ y c. absurd (Contains-nil y c)) (λ y c. absurd (Contains-nil y c)) early_follows late_follows early_among late_among

-- two live classes of one slot each
same_counts : (lives_from 0 early.found ≡ 2) × (lives_from 0 late.found ≡ 2) × (slots_from 0 early.found ≡ 2) × (slots_from 0 late.found ≡ 2)
same_counts = (refl, refl, refl, refl)

-- f (v x) was added in neither: in both it is looked up as f (u x) is
answers : (look_up_tree early (f_of (u_of 3)) ≡ look_up_tree early (f_of (v_of 3))) ↔ (look_up_tree late (f_of (u_of 3)) ≡ look_up_tree late (f_of (v_of 3)))
answers =
    agreed.answers (f_of (u_of 3)) (f_of (v_of 3)) (record { operator = omega arith; children = (omega arith, tt, tt) })
    (record { operator = omega arith; children = (omega arith, tt, tt) }) (2, (0, 3) ∷ []) refl

computed : (look_up_tree early (f_of (v_of 3)) ≡ Some (2, (0, 3) ∷ [])) × (look_up_tree late (f_of (v_of 3)) ≡ Some (1, (0, 3) ∷ []))
computed = (refl, refl)

-- f of the early graph and f of the late one have one size, by whatever tables
abbrev k : CostFunction ℕ
k = limited_size 100

f_ids : Correspond early late (2, (0, 3) ∷ []) (1, (0, 3) ∷ [])
f_ids = record {
  left_full = record { in_range = omega arith; slots = refl; injective = (λ k. k, tt) };
  right_full = record { in_range = omega arith; slots = refl; injective = (λ k. k, tt) };
  equal = within (equal_child {d = v_of 3} {e = u_of 3} (moving (swapped 0 3) (to-injective (swap 0 3)) (listed (contains_head (v_of 0, u_of 0) []))) equal_done);
}

same_size : (table other : List (TableEntry ℕ)) → Fits ℕ early k table → Fits ℕ late k other → (x y : ℕ) → cost_in table 2 ≡ Some x → cost_in other 1 ≡ Some y → x ≡ y
same_size table other fits other_fits x y p q =
    let both = costs-agree early late (session-holds early_session).rest (session-holds late_session).rest agreed k (lawful-everywhere early k (size-lawful 100)) (lawful-everywhere late k (size-lawful 100))
    table other fits other_fits (2, (0, 3) ∷ []) (1, (0, 3) ∷ []) f_ids x y p q in
    let le : x ≤ y = leb-true x y both.0 in
    let ge : y ≤ x = leb-true y x both.1 in
    omega arith

-- there are such tables
fitting : (table : List (TableEntry ℕ)) × Fits ℕ early k table
fitting =
    let law = lawful-everywhere early k (size-lawful 100) in
    let m = made early k law (size-total 100) in
    (m.0, finished-fits early k m.0 (session-holds early_session).rest law m.1 m.2)

-- Where a symmetry is open, graphs of the same terms need not agree: both sessions assert h x y = h y x, and one of them also what follows
-- of the two terms app (h x y) x and app (h y x) x. There these are one class, and in the other graph two.
use Rattle.std.proofs.Common.{◌≡◌, ◌≢◌, ℕ, zero, suc, ◌<◌, List, [], ◌∷◌, get_or, refl, ap, sym, subst, arith, inl, inr, ◌⊎◌}
use Rattle.std.specs.Prelude.{Contains}
use Rattle.slotted_lists.proofs.Contained.{contains_head, contains_tail, contains_cases, Contains-nil}
use Rattle.slotted_theory.specs.Nameless.{DTerm, stop, place}
use Rattle.slotted_theory.specs.Shape.{shape}
use Rattle.slotted_theory.specs.Derives.{Equal, listed as from_list, reflexive, within, equal_child, equal_name, equal_done}
use Rattle.slotted_theory.proofs.Values.{node, child_before}
use Rattle.slotted_model.specs.Applied.{Applied, as_term}
use Rattle.slotted_model.specs.Classes.{canonical_node, IsFull}
use Rattle.slotted_model.specs.Correspondence.{identity}
use Rattle.slotted_model.specs.Growth.{IsNew}
use Rattle.slotted_model.specs.Link.{IsLater}
use Rattle.slotted_model.specs.ProofList.{Equation, equation_at}
use Rattle.slotted_model.specs.State.{Symmetry, State, child_classes}
use Rattle.slotted_model.specs.Rest.{IsAligned, AtRest, lives_from}
use Rattle.slotted_model.specs.Changes.{linked_state, with_symmetry, left_dies, lists}
use Rattle.slotted_model.specs.Rebuild.{starts as starts_run}
use Rattle.slotted_model.specs.Adding.{with_assertion, Asserts, is_new}
use Rattle.slotted_model.specs.Affected.{AreAlikeOrAffected}
use Rattle.slotted_model.specs.Agreement.{Knows, HasTermsOf}
use Rattle.slotted_model.specs.Find.{find}
use Rattle.slotted_model.specs.Sessions.{nothing, Session, starts, adds, asserts, Follow, AreAmong}
use Rattle.slotted_model.proofs.Examples.CompletenessExamples.{one_of, three_of}
use Rattle.slotted_model.proofs.Complete.Corresponding.{alike-or_affected}
use Rattle.slotted_model.proofs.Complete.HoldingTrees.{session-holds, sessions-terms}
use Rattle.slotted_model.proofs.Data.Parts.{first_name, after_first}
use Rattle.slotted_model.proofs.Examples.SessionExample.{with_filed, files, files_apart, one_row, two_rows}

abbrev pub h_of : ℕ → ℕ → DTerm
h_of x y = node 3 [] (place x (place y stop))

abbrev app_of : ℕ → ℕ → DTerm
app_of x y = node 5 [] (child_before (h_of x y) (place 0 stop))

-- app over h, of the names 0 and 1 in this order or the other, and the name 0
abbrev app_over : ℕ → ℕ → DTerm
app_over x y = node 5 [] (child_before (as_term (0, (0, x) ∷ (1, y) ∷ [])) (place 0 stop))

abbrev pub exchanged : Equation
exchanged = record { left = 0; right = 0; pairs = (0, 1) ∷ (1, 0) ∷ [] }

abbrev pub symmetry : Symmetry
symmetry = record { class = 0; slots = 0 ∷ 1 ∷ []; pairs = (0, 1) ∷ (1, 0) ∷ []; proof = 1 }

abbrev pub with_h : State
with_h = with_filed nothing (h_of 0 1)

abbrev pub open_state : State
open_state = with_symmetry (with_assertion with_h exchanged) symmetry

abbrev with_one : State
with_one = with_filed open_state (app_over 0 1)

-- the graph of two classes of app
abbrev graph : State
graph = with_filed with_one (app_over 1 0)

-- and that in which they are united
abbrev ones_equal : Equation
ones_equal = record { left = 1; right = 2; pairs = (0, 0) ∷ (1, 1) ∷ [] }

abbrev united : State
united = linked_state (with_assertion graph ones_equal) ones_equal 4 0 []

pub h_is_new : IsNew [] (h_of 0 1)
h_is_new = record { operator = omega arith; children = tt; shape_is_new = λ i l p. omega arith }

two_differ : {x y : ℕ} → x ≢ y → ◌≡◌ x y ⊎ ⊥ → ⊥
two_differ n (inl e) = n e
two_differ n (inr k) = k

-- ids of h, and of both classes of app, with the names 0 and 1
pub h_full : (x y : ℕ) → x ≢ y → IsFull with_h.nodes (0, (0, x) ∷ (1, y) ∷ [])
h_full x y n = record { in_range = omega arith; slots = refl; injective = (two_differ n, (λ k. k, tt)) }

one_full : IsFull graph.nodes (1, (0, 0) ∷ (1, 1) ∷ [])
one_full = record { in_range = omega arith; slots = refl; injective = (two_differ (λ e. omega arith), (λ k. k, tt)) }

other_full : IsFull graph.nodes (2, (0, 0) ∷ (1, 1) ∷ [])
other_full = record { in_range = omega arith; slots = refl; injective = (two_differ (λ e. omega arith), (λ k. k, tt)) }

one_is_new : IsNew with_h.nodes (app_over 0 1)
one_is_new = record { operator = omega arith; children = (((0, (0, 0) ∷ (1, 1) ∷ []), refl, h_full 0 1 (λ e. omega arith)), tt); shape_is_new = other }
  where
    other : (i : ℕ) → i < 1 → ¬ (shape (canonical_node with_h.nodes i) ≡ shape (app_over 0 1))
    other zero l p = let e : ◌≡◌ {A = ℕ} 3 5 = ap (λ (t : DTerm). t.op) p in omega arith
    other (suc i) l p = omega arith

-- the two shapes differ in the number of app's own name
shapes_differ : shape (app_over 0 1) ≢ shape (app_over 1 0)
shapes_differ p = let e : ◌≡◌ {A = ℕ} 0 1 = ap (λ (t : DTerm). first_name (after_first t.args)) p in omega arith

other_is_new : IsNew with_one.nodes (app_over 1 0)
other_is_new = record { operator = omega arith; children = (((0, (0, 1) ∷ (1, 0) ∷ []), refl, record { in_range = omega arith; slots = refl; injective = (two_differ (λ e. omega arith), (λ k. k, tt)) }), tt); shape_is_new = other }
  where
    other : (i : ℕ) → i < 2 → ¬ (shape (canonical_node with_one.nodes i) ≡ shape (app_over 1 0))
    other zero l p = let e : ◌≡◌ {A = ℕ} 3 5 = ap (λ (t : DTerm). t.op) p in omega arith
    other (suc zero) l p = shapes_differ p
    other (suc (suc i)) l p = omega arith

-- the partner of the first slot
abbrev first_partner : List (ℕ × ℕ) → ℕ
first_partner m = (get_or m 0 (0, 0)).1

pub opens : Asserts with_h (0, (0, 0) ∷ (1, 1) ∷ []) (0, (0, 1) ∷ (1, 0) ∷ []) open_state
opens = is_new other (lists 1 refl (record { left = λ s c. c; right = both }) moves (λ y c. absurd (Contains-nil y c)) (omega arith, refl)) starts_run
    (refl, one_row (IsAligned open_state) symmetry refl)
  where
    other : (q : ℕ) → q < 1 → equation_at with_h.proofs q ≢ exchanged
    other zero l e = let n : ◌≡◌ {A = ℕ} 0 1 = ap (λ (x : Equation). first_partner x.pairs) e in omega arith
    other (suc q) l e = omega arith

    moves : exchanged.pairs ≢ identity (0 ∷ 1 ∷ [])
    moves e = let n : ◌≡◌ {A = ℕ} 1 0 = ap first_partner e in omega arith

    both : (t : ℕ) → Contains (0 ∷ 1 ∷ []) t → Contains (1 ∷ 0 ∷ []) t
    both = two_rows (Contains (1 ∷ 0 ∷ [])) 0 1 (contains_tail 1 (0 ∷ []) 0 (contains_head 0 [])) (contains_head 1 (0 ∷ []))

abbrev trees : List DTerm
trees = app_of 1 0 ∷ app_of 0 1 ∷ h_of 0 1 ∷ []

abbrev pairs : List (DTerm × DTerm)
pairs = (h_of 0 1, h_of 1 0) ∷ []

session : Session trees pairs graph
session =
    adds (app_of 1 0) (app_over 1 0)
    (adds (app_of 0 1) (app_over 0 1)
    (asserts (h_of 0 1) (h_of 1 0) (0, (0, 0) ∷ (1, 1) ∷ []) (0, (0, 1) ∷ (1, 0) ∷ [])
    (adds (h_of 0 1) (h_of 0 1) starts h_is_new reflexive (files nothing (h_of 0 1) (λ s c. c) (λ r k. absurd (Contains-nil r k)) (refl, λ y k. absurd (Contains-nil y k))))
    (h_full 0 1 (λ e. omega arith), reflexive) (h_full 1 0 (λ e. omega arith), reflexive) opens)
    one_is_new reflexive
    (files open_state (app_over 0 1) (λ s c. c) (one_row (λ r. (r.source ≢ 1) × (r.shape.op ≢ 5)) _ (λ e. omega arith, λ e. omega arith)) (refl, one_row (IsAligned with_one) symmetry refl)))
    other_is_new reflexive
    (files_apart with_one (app_over 1 0) (λ s c. c)
    (two_rows (λ r. (r.source ≢ 2) × (r.shape ≢ shape (app_over 1 0))) _ _ (λ e. omega arith, shapes_differ) (λ e. omega arith, λ p. let e : ◌≡◌ {A = ℕ} 3 5 = ap (λ (t : DTerm). t.op) p in omega arith))
    (refl, one_row (IsAligned graph) symmetry refl))

unites : Asserts graph (1, (0, 0) ∷ (1, 1) ∷ []) (2, (0, 0) ∷ (1, 1) ∷ []) united
unites = is_new other
    (left_dies 4 0 [] (λ e. omega arith) (record { left = λ s c. c; right = λ s c. c }) (omega arith, refl) none_died
    (record {
      once = tt;
      kept = λ o c. c;
      over = three_of (λ r. Contains (child_classes r.shape.args) 1 → Contains [] r.source) _ _ _ (λ c. let e : ◌≡◌ {A = ℕ} 1 0 = one_of c in absurd (omega arith))
          (λ c. let e : ◌≡◌ {A = ℕ} 1 0 = one_of c in absurd (omega arith)) (λ c. absurd (Contains-nil 1 c));
      from = λ o c. absurd (Contains-nil o c);
    })) starts_run (refl, one_row (IsAligned united) symmetry refl)
  where
    other : (q : ℕ) → q < 4 → equation_at graph.proofs q ≢ ones_equal
    other zero l e = let n : ◌≡◌ {A = ℕ} 0 1 = ap (λ (x : Equation). x.left) e in omega arith
    other (suc zero) l e = let n : ◌≡◌ {A = ℕ} 0 1 = ap (λ (x : Equation). x.left) e in omega arith
    other (suc (suc zero)) l e = let n : ◌≡◌ {A = ℕ} 1 2 = ap (λ (x : Equation). x.right) e in omega arith
    other (suc (suc (suc zero))) l e = let n : ◌≡◌ {A = ℕ} 2 1 = ap (λ (x : Equation). x.left) e in omega arith
    other (suc (suc (suc (suc q)))) l e = omega arith

    none_died : IsLater graph.found 0
    none_died zero l d = absurd (d refl)
    none_died (suc zero) l d = absurd (d refl)
    none_died (suc (suc zero)) l d = absurd (d refl)
    none_died (suc (suc (suc i))) l d = absurd (omega arith)

abbrev more_pairs : List (DTerm × DTerm)
more_pairs = (app_of 0 1, app_of 1 0) ∷ pairs

united_session : Session trees more_pairs united
united_session = asserts (app_of 0 1) (app_of 1 0) (1, (0, 0) ∷ (1, 1) ∷ []) (2, (0, 0) ∷ (1, 1) ∷ []) session (one_full, reflexive) (other_full, reflexive) unites

-- the pairs of each session follow from those of the other
less_follows : Follow pairs more_pairs
less_follows d e c = from_list (contains_tail (app_of 0 1, app_of 1 0) pairs (d, e) c)

more_follow : Follow more_pairs pairs
more_follow d e c = elim (contains_cases (app_of 0 1, app_of 1 0) pairs (d, e) c) [
  | inl q ↦
      subst (λ (p : DTerm × DTerm). Equal pairs p.0 p.1) (sym q)
      (within (equal_child {d = h_of 0 1} {e = h_of 1 0} (from_list (contains_head (h_of 0 1, h_of 1 0) [])) (equal_name equal_done)))
  | inr i ↦ from_list i
]

same_trees : AreAmong trees trees
same_trees t c = (t, c, refl)

-- the premises hold both ways, but for that on open symmetries, and the graphs have different numbers of classes
counts_differ : (lives_from 0 graph.found ≡ 3) × (lives_from 0 united.found ≡ 2)
counts_differ = (refl, refl)

open_need_not_agree : ¬ ((g h : State) → AtRest g → AtRest h → Knows h g → Knows g h → HasTermsOf h g → HasTermsOf g h → lives_from 0 g.found ≡ lives_from 0 h.found)
open_need_not_agree law =
    let there : Knows united graph × HasTermsOf united graph = sessions-terms trees trees pairs more_pairs graph united session united_session less_follows same_trees in
    let back : Knows graph united × HasTermsOf graph united = sessions-terms trees trees more_pairs pairs united graph united_session session more_follow same_trees in
    let e : ◌≡◌ {A = ℕ} 3 2 = law graph united (session-holds session).rest (session-holds united_session).rest there.0 back.0 there.1 back.1 in
    omega arith

-- what the one finds alike and the other does not, finds affected classes in the other
affected_there : AreAlikeOrAffected graph (1, (0, 0) ∷ (1, 1) ∷ []) (2, (0, 0) ∷ (1, 1) ∷ [])
affected_there =
    alike-or_affected united graph (session-holds united_session).rest (session-holds session).rest
    (sessions-terms trees trees more_pairs pairs united graph united_session session more_follow same_trees).0
    (1, (0, 0) ∷ (1, 1) ∷ []) (1, (0, 0) ∷ (1, 1) ∷ []) (2, (0, 0) ∷ (1, 1) ∷ []) (2, (0, 0) ∷ (1, 1) ∷ [])
    (record { left_full = one_full; right_full = one_full; equal = reflexive }) (record { left_full = other_full; right_full = other_full; equal = reflexive }) refl

not_alike : find graph.found (1, (0, 0) ∷ (1, 1) ∷ []) ≢ find graph.found (2, (0, 0) ∷ (1, 1) ∷ [])
not_alike p = let n : ◌≡◌ {A = ℕ} 1 2 = ap (λ (x : Applied). x.0) p in omega arith

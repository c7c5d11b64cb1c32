-- Laws of hidden names held against (h (f $2 $3)), where (f $7 $8) was asserted to equal (f $7 $9): f has dropped its second
-- slot, and h its slot 3 after it. So the name that an id of h has for that slot stands nowhere in the filed node.
use Rattle.std.proofs.Common.{◌≡◌, ◌≢◌, ◌<◌, ℕ, zero, suc, List, [], ◌∷◌, ◌++◌, length, refl, sym, ◌∙◌, ap, subst, inl, inr, arith}
use Rattle.std.specs.Prelude.{Contains}
use Rattle.slotted_lists.proofs.Contained.{contains_head, contains_tail, contains_cases, Contains-nil}
use Rattle.slotted_theory.specs.Nameless.{stop}
use Rattle.slotted_theory.specs.FiniteMaps.{filled}
use Rattle.slotted_theory.specs.Shape.{free_names}
use Rattle.slotted_theory.proofs.Values.{node, child_before}
use Rattle.slotted_model.specs.Adding.{Asserts, is_new}
use Rattle.slotted_model.specs.Applied.{Applied, values, as_term}
use Rattle.slotted_model.specs.Changes.{ProofsGrow, with_proofs, Unites, drops_left, finds_alike, dropped_state}
use Rattle.slotted_model.specs.Classes.{IsFull}
use Rattle.slotted_model.specs.Correspondence.{IsPartialInjection}
use Rattle.slotted_model.specs.Find.{find}
use Rattle.slotted_model.specs.Link.{CanEnter}
use Rattle.slotted_model.specs.ProofList.{Equation, ProofEntry, congruent, equation_of, equation_at, one_child, no_more}
use Rattle.slotted_model.specs.Rebuild.{IsCongruence, Turn, enters, narrows, refiles, refiled_state, starts, takes_turn}
use Rattle.slotted_model.specs.Rest.{IsValidIn, AtRest}
use Rattle.slotted_model.specs.State.{Row, State}
use Rattle.slotted_model.proofs.Rebuilding.Asserting.{asserts}
use Rattle.slotted_model.proofs.Examples.CompletenessExamples.{one_of}
use Rattle.slotted_model.proofs.Finds.Entering.{entered-proved}
use Rattle.slotted_model.proofs.Rebuilding.Touching.{touching, touched-is}
use Rattle.slotted_model.proofs.Examples.TurnExamples.{with_h, h_rests, f_7_8, f_7_9, redundant, f_full, f_sane, f_dropped, f_united}
use Rattle.slotted_model.proofs.Rebuilding.RowNodes.{row_node}
use Rattle.slotted_model_rules.specs.Patterns.{IsOfRow}
use Rattle.slotted_model_rules.specs.Matcher.{an_id, no_more as no_more_names, IsNodeOf}
use Rattle.slotted_model_rules.proofs.Laws.{goal-laws}

-- ids of h with two names
abbrev h_of : ℕ → ℕ → Applied
h_of x y = (1, (2, x) ∷ (3, y) ∷ [])

h_full : (x y : ℕ) → x ≢ y → IsFull with_h.nodes (h_of x y)
h_full x y n = record {
  in_range = omega arith;
  slots = refl;
  injective = (
    λ k. elim k [
      | inl e ↦ n e
      | inr j ↦ j
    ],
    (λ j. j, tt),
  );
}

-- by congruence (h (f $7 $8)) equals (h (f $7 $9)): so h drops the slot 3, which its node lacks
abbrev by_f : ProofEntry
by_f = record { equation = equation_of (h_of 7 8) (h_of 7 9); step = congruent (2 ∷ []) }

by_f_partial : IsPartialInjection (2 ∷ 3 ∷ []) (2 ∷ 3 ∷ []) ((2, 2) ∷ [])
by_f_partial = record {
  in_order = refl;
  within = λ s t c. subst (Contains (2 ∷ 3 ∷ [])) (sym (ap (λ (p : ℕ × ℕ). p.1) (one_of c))) (contains_head 2 (3 ∷ []));
  injective = λ s r t c d. ap (λ (p : ℕ × ℕ). p.0) (one_of c) ∙ sym (ap (λ (p : ℕ × ℕ). p.0) (one_of d));
}

by_f_enters : CanEnter with_h.nodes f_dropped.proofs by_f
by_f_enters = record {
  over = record { left = omega arith; right = omega arith; pairs = by_f_partial };
  proved = (
    λ q c. subst (λ x. x < 3) (sym (one_of c)) (omega arith),
    record {
      left = h_of 7 8;
      right = h_of 7 9;
      left_full = h_full 7 8 (λ e. omega arith);
      right_full = h_full 7 9 (λ e. omega arith);
      equation = refl;
      operators = refl;
      payloads = refl;
      children = one_child f_7_8 f_7_9 (f_full 7 8 (λ e. omega arith)) (f_full 7 9 (λ e. omega arith)) no_more;
    },
  );
  is_new = other;
}
  where
    other : (p : ℕ) → p < 3 → equation_at f_dropped.proofs p ≢ by_f.equation
    other zero l e = let n : ◌≡◌ {A = ℕ} 0 1 = ap (λ (x : Equation). x.left) e in omega arith
    other (suc zero) l e = let n : ◌≡◌ {A = ℕ} 2 1 = ap (λ (x : Equation). length x.pairs) e in omega arith
    other (suc (suc zero)) l e = let n : ◌≡◌ {A = ℕ} 0 1 = ap (λ (x : Equation). x.left) e in omega arith
    other (suc (suc (suc p))) l e = omega arith

by_f_grows : ProofsGrow with_h.nodes f_dropped.proofs (f_dropped.proofs ++ by_f ∷ [])
by_f_grows = record { more = by_f ∷ []; is = refl; proved = entered-proved with_h.nodes f_dropped.proofs by_f f_sane.sound.proved by_f_enters; asserts_nothing = refl }

abbrev entered : State
entered = with_proofs f_dropped (f_dropped.proofs ++ by_f ∷ [])

by_f_congruence : IsCongruence entered 3 1 1
by_f_congruence = record {
  left = h_of 7 8;
  right = h_of 7 9;
  left_class = refl;
  right_class = refl;
  left_full = h_full 7 8 (λ e. omega arith);
  twins = record { full = h_full 7 9 (λ e. omega arith); same = refl; left_names = λ s. (λ c. c, λ c. c); right_names = λ s. (λ c. c, λ c. c) };
  stands = (omega arith, refl);
}

abbrev narrowed : State
narrowed = dropped_state entered 1 (2 ∷ []) 3 (touching entered 1)

not_two : Contains {X = ℕ} (2 ∷ []) 3 → ⊥
not_two c = let e : ◌≡◌ {A = ℕ} 3 2 = one_of c in omega arith

narrowing : Unites 3 entered narrowed
narrowing =
    drops_left 3 3 (touching entered 1) (contains_tail 2 (3 ∷ []) 3 (contains_head 3 [])) not_two (omega arith, refl)
    (touched-is entered (Contains-nil 1, tt) 1) (finds_alike refl refl)

h_turn : Turn f_dropped narrowed
h_turn =
    enters (f_dropped.proofs ++ by_f ∷ []) by_f_grows
    (narrows 1 3 3 (contains_head 1 []) (contains_tail 2 (3 ∷ []) 3 (contains_head 3 [])) not_two by_f_congruence narrowing)

-- then its node is filed anew, and all is at rest
abbrev pub graph : State
graph = refiled_state narrowed 1

abbrev pub row_h : Row
row_h = record { shape = node 5 [] (child_before (as_term (0, (0, 0) ∷ [])) stop); source = 1; slots = (0, 2) ∷ [] }

h_asserted : Asserts with_h f_7_8 f_7_9 graph
h_asserted = is_new other f_united (takes_turn (takes_turn starts h_turn) (refiles 1 (contains_head 1 []) (λ s c. c) apart)) (refl, λ y c. absurd (Contains-nil y c))
  where
    other : (q : ℕ) → q < 2 → equation_at with_h.proofs q ≢ redundant
    other zero l e = let n : ◌≡◌ {A = ℕ} 2 1 = ap (λ (x : Equation). length x.pairs) e in omega arith
    other (suc zero) l e = let n : ◌≡◌ {A = ℕ} 1 0 = ap (λ (x : Equation). x.left) e in omega arith
    other (suc (suc q)) l e = omega arith

    apart : (r : Row) → Contains narrowed.rows r → r.source ≢ 1 → r.shape ≢ row_h.shape
    apart r c n e = elim (contains_cases _ (_ ∷ []) r c) [
      | inl f ↦ n (ap (λ (x : Row). x.source) f)
      | inr d ↦ let m : ◌≡◌ {A = ℕ} 3 5 = ap (λ (x : Row). x.shape.op) (sym (one_of d)) ∙ ap (λ t. t.op) e in omega arith
    ]

pub rests : AtRest graph
rests = (asserts with_h h_rests f_7_8 f_7_9 (f_full 7 8 (λ e. omega arith)) (f_full 7 9 (λ e. omega arith)) graph h_asserted).rest

-- the id h of 30 and 31 has the node (h (f $30)), and finds h of 30: the name 31 is hidden
one_name : free_names (row_node row_h (h_of 30 31)).args ≡ 30 ∷ []
one_name = refl

found_one : find graph.found (h_of 30 31) ≡ (1, (2, 30) ∷ [])
found_one = refl

row_filed : Contains graph.rows row_h
row_filed = (0, omega arith, refl)

-- what it finds stands in the node
thirty_stands : Contains {X = ℕ} (30 ∷ []) 30
thirty_stands = goal-laws.found_names_stand graph rests row_h row_filed (h_of 30 31) (h_full 30 31 (λ e. omega arith)) refl 30 (contains_head 30 [])

-- where 31 was seen the id can be another one, with the same node
with_another : (c : Applied) × (find graph.found c ≡ (1, (2, 30) ∷ [])) × (row_node row_h c ≡ row_node row_h (h_of 30 31)) × (¬ Contains (values c.1) 31)
with_another =
    let k = goal-laws.hidden_names_can_be_new graph rests row_h row_filed (h_of 30 31) (h_full 30 31 (λ e. omega arith)) refl (31 ∷ []) in (
      k.0,
      k.3,
      k.4,
      λ c. elim (k.5 31 c) [
        | inl d ↦ let e : ◌≡◌ {A = ℕ} 31 30 = one_of d in omega arith
        | inr n ↦ n (contains_head 31 [])
      ],
    )

-- so the node with 30 is one of the matcher's where 31 was seen, though the id that is named has 31
is_node : IsNodeOf graph (31 ∷ []) row_h (1, (2, 30) ∷ []) (an_id (0, (0, 30) ∷ []) no_more_names)
is_node =
    goal-laws.standing_names_suffice graph rests (31 ∷ []) row_h (1, (2, 30) ∷ []) (h_of 30 31) (an_id (0, (0, 30) ∷ []) no_more_names)
    (record { filed = row_filed; full = h_full 30 31 (λ e. omega arith); source = refl; same = refl }) refl tt
    (λ z c. absurd (Contains-nil z c)) (λ z c. inl c)

-- the row's only number stands for the slot that was found, so it has the name 30
thirty : (i s : ℕ) → Contains {X = ℕ} (0 ∷ []) i → Contains {X = ℕ × ℕ} ((2, 2) ∷ []) (s, filled row_h.slots i) → Contains {X = ℕ × ℕ} ((2, 30) ∷ []) (s, 30)
thirty i s c d = subst (λ x. Contains {X = ℕ × ℕ} ((2, 30) ∷ []) (x, 30)) (sym (ap (λ (p : ℕ × ℕ). p.0) (one_of d))) (contains_head (2, 30) [])

one_number : (x y : ℕ) → Contains {X = ℕ} (0 ∷ []) x → Contains {X = ℕ} (0 ∷ []) y → ◌≡◌ {A = ℕ} 30 30 → x ≡ y
one_number x y c d e = one_of c ∙ sym (one_of d)

id_is_valid : IsValidIn graph (1, (2, 30) ∷ [])
id_is_valid = record { in_range = omega arith; ascending = (tt, tt); injective = (λ h. h, tt); has_slots = λ s c. c; within = λ s c. subst (Contains (2 ∷ 3 ∷ [])) (sym (one_of c)) (contains_head 2 (3 ∷ [])) }

named_thirty : (b : Applied) × IsOfRow graph row_h b (1, (2, 30) ∷ []) × (row_node row_h b ≡ node 5 [] (child_before (as_term (0, (0, 30) ∷ [])) stop))
named_thirty = goal-laws.rows_take_names graph rests row_h row_filed (1, (2, 30) ∷ []) id_is_valid refl (λ i. 30) one_number thirty

-- and this is a node of the matcher's, whatever was seen
node_named_so : (seen : List ℕ) → IsNodeOf graph seen row_h (1, (2, 30) ∷ []) (an_id (0, (0, 30) ∷ []) no_more_names)
node_named_so seen =
    goal-laws.named_rows_are_nodes graph rests row_h row_filed (1, (2, 30) ∷ []) id_is_valid refl (λ i. 30) one_number thirty seen (an_id (0, (0, 30) ∷ []) no_more_names) refl tt
    (λ z c. absurd (Contains-nil z c)) (λ i c. inl (contains_head 30 []))

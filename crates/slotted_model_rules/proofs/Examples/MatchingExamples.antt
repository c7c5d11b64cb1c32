-- What the matcher finds, and what it misses where a slot was dropped.
use Rattle.std.proofs.Common.{◌≡◌, ℕ, zero, suc, List, [], ◌∷◌, Some, sym, ap, refl, subst, inl, inr, arith, ◌⊎◌}
use Rattle.std.specs.Prelude.{Contains}
use Rattle.slotted_lists.proofs.Contained.{contains_head, contains_cases, Contains-nil}
use Rattle.slotted_model.specs.Applied.{Applied, as_term}
use Rattle.slotted_model.specs.Rest.{IsValidIn}
use Rattle.slotted_model.proofs.Examples.CompletenessExamples as dropped
use Rattle.slotted_model.proofs.Examples.CompletenessExamples.{one_of}
use Rattle.slotted_model.proofs.Finds.NormalIds.{full-is_valid}
use Rattle.slotted_model.specs.State.{Row}
use Rattle.slotted_theory.proofs.Names.{extend-same}
use Rattle.slotted_model_rules.specs.Complete.{HasAllSlots, HasOwnBinders}
use Rattle.slotted_model_rules.specs.Patterns.{Pattern, pattern_node, no_argument, own_name, child_pattern, binding, look_up_pattern, variable}
use Rattle.slotted_model_rules.specs.Matcher.{NodeArgs, no_more, a_name, an_id, a_binder, MatchState, Found, class_id, start_at, Reads, IsNodeOf}
use Rattle.slotted_theory.specs.Nameless.{stop, place, scope}
use Rattle.slotted_theory.specs.Derives.{Equal}
use Rattle.slotted_theory.proofs.Values.{node, child_before}
use Rattle.slotted_model.specs.ProofList.{asserted}
use Rattle.slotted_model.proofs.Represented.Fillings.{fills-itself}
use Rattle.slotted_model_rules.specs.Instances.{is_itself}
use Rattle.slotted_model_rules.proofs.Patterns.EqualInstances.{filled-instance_equal}
use Rattle.slotted_model_rules.proofs.Matching.Completing.{finds-all}
use Rattle.slotted_model_rules.proofs.Examples.PatternExamples as small

-- in the graph of (app (lam $x (var $x)) (lam $x (var $x))) no class has dropped a slot, and (lam $7 ?a), with (var $7) for ?a, has a binder of its own
all_slots : HasAllSlots small.graph
all_slots zero l = refl
all_slots (suc zero) l = refl
all_slots (suc (suc zero)) l = refl
all_slots (suc (suc (suc i))) l = absurd (omega arith)

own_binder : HasOwnBinders (small.var_of 7) small.lam_pattern
own_binder = record { differ = (Contains-nil 7, tt); in_scope = bound }
  where
    bound : (y : ℕ) → Contains (7 ∷ []) y → ((¬ (y ≡ 7)) × (Contains (7 ∷ []) y ⊎ ⊥)) ⊎ ⊥ → ⊥
    bound y c (inl h) = h.0 (one_of c)
    bound y c (inr h) = h

-- so this substitution is a reading of what is found
lam_is_found : (out : MatchState) × Contains (small.out ∷ []) out × (f : ℕ → ℕ) × Reads small.graph f (small.var_of 7) out
lam_is_found =
    finds-all small.graph small.rests all_slots small.graph.rows (λ r c. c) (small.var_of 7) small.lam_pattern ((valid, tt), tt) own_binder (1, []) refl (small.out ∷ []) small.lam_found
  where
    valid : IsValidIn small.graph (0, (0, 7) ∷ [])
    valid = full-is_valid small.graph.nodes small.graph.found small.rests.sane.sound.linked (0, (0, 7) ∷ []) (record { in_range = omega arith; slots = refl; injective = (λ h. h, tt) })

-- where (f $x $y) and (g $x) are equal the class of f has dropped a slot: (lam $7 (f $8 $7)) is looked up, and its binder has a name of its own, but a visit of (f $x $y)
-- has a new name for the dropped slot, which is not the one of the binder, so that nothing is found
abbrev lam_f_pattern : Pattern
lam_f_pattern = pattern_node 5 [] (binding 7 (child_pattern (pattern_node 3 [] (own_name 8 (own_name 7 no_argument))) no_argument) no_argument)

is_looked_up : (σ : List ℕ → Applied) → look_up_pattern dropped.graph (λ y. y) σ lam_f_pattern ≡ Some (2, (3, 8) ∷ [])
is_looked_up σ = refl

not_among : (x y : ℕ) → (x ≡ y → ⊥) → ¬ Contains (y ∷ []) x
not_among x y n c = n (one_of c)

abbrev lam_names : NodeArgs
lam_names = a_binder 50 (an_id (1, (2, 3) ∷ []) no_more) no_more

abbrev f_names : NodeArgs
f_names = a_name 3 (a_name 51 no_more)

-- the names that were seen are 50 and 3
not_51 : ¬ Contains {X = ℕ} (50 ∷ 3 ∷ 3 ∷ []) 51
not_51 c = elim (contains_cases 50 (3 ∷ 3 ∷ []) 51 c) [
  | inl e ↦ omega arith
  | inr k ↦ elim (contains_cases 3 (3 ∷ []) 51 k) [
    | inl e ↦ omega arith
    | inr l ↦ not_among 51 3 (λ e. omega arith) l
  ]
]

new_name : (z : ℕ) → Contains {X = ℕ} (3 ∷ 51 ∷ []) z → Contains (3 ∷ []) z ⊎ (¬ Contains {X = ℕ} (50 ∷ 3 ∷ 3 ∷ []) z)
new_name z c = elim (contains_cases 3 (51 ∷ []) z c) [
  | inl e ↦ inl (subst (Contains {X = ℕ} (3 ∷ [])) (sym e) (contains_head 3 []))
  | inr k ↦ inr (λ h. not_51 (subst (Contains {X = ℕ} (50 ∷ 3 ∷ 3 ∷ [])) (one_of k) h))
]

is_missed : Found dropped.graph dropped.graph.rows lam_f_pattern (start_at dropped.graph 2) (class_id dropped.graph 2) []
is_missed = (
  [],
  [],
  refl,
  inl (λ h. let e : ◌≡◌ {A = ℕ} 3 5 = h.operator in omega arith, refl),
  (
    [],
    [],
    refl,
    inl (λ h. let e : ◌≡◌ {A = ℕ} 4 5 = h.operator in omega arith, refl),
    (
      [],
      [],
      refl,
      inr (
        lam_names,
        record { class = refl; operator = refl; payloads_same = refl },
        record {
          id = (2, (3, 3) ∷ []);
          of_row = record { filed = (2, omega arith, refl); full = record { in_range = omega arith; slots = refl; injective = (λ h. h, tt) }; source = refl; same = refl };
          form = refl;
          binders_differ = (Contains-nil 50, tt);
          binders_new = λ z c. (
            λ d. let e : z ≡ 50 = one_of c in let l : z ≡ 3 = one_of d in omega arith,
            λ d. let e : z ≡ 50 = one_of c in let l : z ≡ 3 = one_of d in omega arith,
          );
          others_new = λ z c. inl c;
        },
        (
          [],
          (
            [],
            (
              [],
              [],
              refl,
              inr (
                f_names,
                record { class = refl; operator = refl; payloads_same = refl },
                record {
                  id = (0, (0, 3) ∷ (1, 51) ∷ []);
                  of_row = record { filed = (0, omega arith, refl); full = record { in_range = omega arith; slots = refl; injective = (differ, (λ h. h, tt)) }; source = refl; same = refl };
                  form = refl;
                  binders_differ = tt;
                  binders_new = λ z c. absurd (Contains-nil z c);
                  others_new = new_name;
                },
                refl,
              ),
              (
                [],
                [],
                refl,
                inl (λ h. let e : ◌≡◌ {A = ℕ} 4 3 = h.operator in omega arith, refl),
                ([], [], refl, inl (λ h. let e : ◌≡◌ {A = ℕ} 5 3 = h.operator in omega arith, refl), refl),
              ),
            ),
            refl,
          ),
          refl,
        ),
      ),
      refl,
    ),
  ),
)
  where
    differ : ◌≡◌ {A = ℕ} 3 51 ⊎ ⊥ → ⊥
    differ (inl e) = omega arith
    differ (inr k) = k

-- (lam $7 (g $8)) is looked up as the same id, so it is equal by what was asserted to the id's term, which is (lam $7 (f $8 $7))
abbrev lam_g_pattern : Pattern
lam_g_pattern = pattern_node 5 [] (binding 7 (child_pattern (pattern_node 4 [] (own_name 8 no_argument)) no_argument) no_argument)

lam_g_equal : Equal (asserted dropped.graph.nodes dropped.graph.proofs) (node 5 [] (scope (child_before (node 3 [] (place 9 (place 0 stop))) stop) stop)) (node 5 [] (scope (child_before (node 4 [] (place 9 stop)) stop) stop))
lam_g_equal =
    filled-instance_equal dropped.graph dropped.at_rest is_itself (λ v. (0, [])) [] [] (λ y. y) (λ x y e. e) lam_g_pattern ((tt, tt), tt) (2, (3, 8) ∷ []) (2, (3, 8) ∷ []) refl
    (fills-itself dropped.graph.nodes [] (2, (3, 8) ∷ []) (record { in_range = omega arith; slots = refl; injective = (λ h. h, tt) }))
    (node 5 [] (scope (child_before (node 4 [] (place 9 stop)) stop) stop))
    (_, refl, (_, _, refl, (_, _, refl, (_, refl, (_, refl, refl)), refl), refl))

-- in the graph of (app (lam $x (var $x)) (lam $x (var $x))) the pattern (app ?a ?a) is found once
abbrev pub twice : Pattern
twice = pattern_node 3 [] (child_pattern (variable (97 ∷ [])) (child_pattern (variable (97 ∷ [])) no_argument))

abbrev pub both_lams : NodeArgs
both_lams = an_id (1, []) (an_id (1, []) no_more)

abbrev pub with_lam : MatchState
with_lam = record { values = ((97 ∷ []), (1, [])) ∷ []; pairs = []; seen = [] }

-- the rows of lam and app
abbrev lam_row : Row
lam_row = record { shape = small.lam_node; source = 1; slots = [] }

abbrev app_row : Row
app_row = record { shape = small.app_node; source = 2; slots = [] }

pub app_node : IsNodeOf small.graph [] app_row (2, []) both_lams
app_node = record {
  id = (2, []);
  of_row = record { filed = (0, omega arith, refl); full = record { in_range = omega arith; slots = refl; injective = tt }; source = refl; same = refl };
  form = refl;
  binders_differ = tt;
  binders_new = λ z c. absurd (Contains-nil z c);
  others_new = λ z c. inl c;
}

twice_is_found : Found small.graph small.graph.rows twice (start_at small.graph 2) (class_id small.graph 2) (with_lam ∷ [])
twice_is_found = (
  with_lam ∷ [],
  [],
  refl,
  inr (
    both_lams,
    record { class = refl; operator = refl; payloads_same = refl },
    app_node,
    (with_lam ∷ [], refl, (with_lam ∷ [], [], refl, (with_lam ∷ [], refl, (with_lam ∷ [], [], refl, refl, refl)), refl)),
  ),
  ([], [], refl, inl (λ h. let e : ◌≡◌ {A = ℕ} 2 3 = h.operator in omega arith, refl), ([], [], refl, inl (λ h. let e : ◌≡◌ {A = ℕ} 1 3 = h.operator in omega arith, refl), refl)),
)

-- and (app (lam $7 ?a) (lam $7 ?b)) is not, since two binders of the graph would stand for one slot
abbrev one_binder_twice : Pattern
one_binder_twice = pattern_node 3 [] (child_pattern small.lam_pattern (child_pattern (pattern_node 2 [] (binding 7 (child_pattern (variable (98 ∷ [])) no_argument) no_argument)) no_argument))

lam_node_of : (seen : List ℕ) (x : ℕ) → ¬ Contains seen x → IsNodeOf small.graph seen lam_row (1, []) (a_binder x (an_id (0, (0, x) ∷ []) no_more) no_more)
lam_node_of seen x n = record {
  id = (1, []);
  of_row = record { filed = (1, omega arith, refl); full = record { in_range = omega arith; slots = refl; injective = tt }; source = refl; same = refl };
  form = ap (λ y. scope (child_before (as_term (0, (0, y) ∷ [])) stop) stop) (extend-same x (λ y. y) x refl);
  binders_differ = (Contains-nil x, tt);
  binders_new = λ z c. (λ d. n (subst (Contains seen) (one_of c) d), λ d. Contains-nil z d);
  others_new = λ z c. inl c;
}

one_binder_is_not_found : Found small.graph small.graph.rows one_binder_twice (start_at small.graph 2) (class_id small.graph 2) []
one_binder_is_not_found = (
  [],
  [],
  refl,
  inr (
    both_lams,
    record { class = refl; operator = refl; payloads_same = refl },
    app_node,
    (
      small.out ∷ [],
      (
        [],
        small.out ∷ [],
        refl,
        inl (λ h. let e : ◌≡◌ {A = ℕ} 3 2 = h.operator in omega arith, refl),
        (
          small.out ∷ [],
          [],
          refl,
          inr (
            a_binder 9 (an_id (0, (0, 9) ∷ []) no_more) no_more,
            record { class = refl; operator = refl; payloads_same = refl },
            lam_node_of [] 9 (Contains-nil 9),
            (small.out ∷ [], (small.out ∷ [], refl, (small.out ∷ [], [], refl, refl, refl)), (small.out ∷ [], [], refl, refl, refl)),
          ),
          ([], [], refl, inl (λ h. let e : ◌≡◌ {A = ℕ} 1 2 = h.operator in omega arith, refl), refl),
        ),
      ),
      (
        [],
        [],
        refl,
        (
          [],
          (
            [],
            [],
            refl,
            inl (λ h. let e : ◌≡◌ {A = ℕ} 3 2 = h.operator in omega arith, refl),
            (
              [],
              [],
              refl,
              inr (a_binder 10 (an_id (0, (0, 10) ∷ []) no_more) no_more, record { class = refl; operator = refl; payloads_same = refl }, lam_node_of (9 ∷ 9 ∷ []) 10 not_10, refl),
              ([], [], refl, inl (λ h. let e : ◌≡◌ {A = ℕ} 1 2 = h.operator in omega arith, refl), refl),
            ),
          ),
          refl,
        ),
        refl,
      ),
    ),
  ),
  ([], [], refl, inl (λ h. let e : ◌≡◌ {A = ℕ} 2 3 = h.operator in omega arith, refl), ([], [], refl, inl (λ h. let e : ◌≡◌ {A = ℕ} 1 3 = h.operator in omega arith, refl), refl)),
)
  where
    not_10 : ¬ Contains {X = ℕ} (9 ∷ 9 ∷ []) 10
    not_10 c = elim (contains_cases 9 (9 ∷ []) 10 c) [
      | inl e ↦ omega arith
      | inr k ↦ not_among 10 9 (λ e. omega arith) k
    ]

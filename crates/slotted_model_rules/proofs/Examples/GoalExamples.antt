-- Laws of goals held against the graph of (app (lam $x (var $x)) (lam $x (var $x))): the pattern (app ?a ?a) at the class
-- of app, goal by goal.
use Rattle.std.proofs.Common.{◌≡◌, ◌≢◌, ◌∙◌, ℕ, suc, List, [], ◌∷◌, Some, None, Bool, true, false, refl, sym, ap, inl, inr, arith}
use Rattle.std.specs.Prelude.{nat_eq}
use Rattle.std.proofs.lemmas.Bool.{false≢true, eq-eqb}
use Rattle.slotted_lists.proofs.Contained.{contains_head}
use Rattle.slotted_theory.specs.Nameless.{place, stop}
use Rattle.slotted_model.specs.Applied.{Applied}
use Rattle.slotted_model.specs.Find.{find}
use Rattle.slotted_model.specs.Rest.{IsValidIn}
use Rattle.slotted_model.specs.State.{Row}
use Rattle.slotted_model.proofs.Finds.NormalIds.{full-is_valid}
use Rattle.slotted_model_rules.specs.Patterns.{PatternArgs, variable, replacing, no_argument, own_name, child_pattern, binding}
use Rattle.slotted_model_rules.specs.Matcher.{NodeArgs, no_more, a_name, an_id, a_binder, MatchState, walked, Found, class_id, start_at}
use Rattle.slotted_model_rules.specs.Goals.{FoundAll, has_outline}
use Rattle.slotted_model_rules.proofs.Laws.{goal-laws}
use Rattle.slotted_model_rules.proofs.Examples.MatchingExamples.{twice, both_lams, with_lam, app_node}
use Rattle.slotted_model_rules.proofs.Examples.PatternExamples as small

abbrev a : List ℕ
a = 97 ∷ []

abbrev b : List ℕ
b = 98 ∷ []

-- the class of lam, and a state in which nothing was seen
abbrev lam : Applied
lam = (1, [])

abbrev nothing_seen : MatchState
nothing_seen = record { values = []; pairs = []; seen = [] }

-- ?a at the class of lam and there again: the first takes it as its value, and the second finds what the first found
same_twice : FoundAll small.graph small.graph.rows ((variable a, lam) ∷ (variable a, lam) ∷ []) nothing_seen (with_lam ∷ [])
same_twice =
    (goal-laws.variables_take_values.new_value small.graph small.graph.rows a lam ((variable a, lam) ∷ []) nothing_seen (with_lam ∷ []) refl).1
    ((goal-laws.variables_take_values.same_value small.graph small.graph.rows a lam lam [] with_lam (with_lam ∷ []) refl refl).1 refl)

-- ?a at the class of lam and then at that of app: nothing is found
app_differs : find small.graph.found lam ≢ find small.graph.found (2, [])
app_differs e = let n : ◌≡◌ {A = ℕ} 1 2 = ap (λ (c : Applied). c.0) e in omega arith

not_both : FoundAll small.graph small.graph.rows ((variable a, lam) ∷ (variable a, (2, [])) ∷ []) nothing_seen []
not_both =
    (goal-laws.variables_take_values.new_value small.graph small.graph.rows a lam ((variable a, (2, [])) ∷ []) nothing_seen [] refl).1
    ((goal-laws.variables_take_values.other_value small.graph small.graph.rows a (2, []) lam [] with_lam [] refl app_differs).1 refl)

-- both at once, as the matcher compares them
by_with_value : FoundAll small.graph small.graph.rows ((variable a, lam) ∷ []) with_lam (with_lam ∷ [])
by_with_value =
    (goal-laws.variables_take_values.in_front small.graph small.graph.rows a lam [] with_lam (with_lam ∷ [])).1
    (with_lam ∷ [], [], refl, refl, refl)

-- (lam $7 ?a) is found as a goal as it is found alone
lam_as_goal : FoundAll small.graph small.graph.rows ((small.lam_pattern, class_id small.graph 1) ∷ []) (start_at small.graph 1) (small.out ∷ [])
lam_as_goal =
    (goal-laws.one_goal_is_found small.graph small.graph.rows small.lam_pattern (class_id small.graph 1) (start_at small.graph 1) (small.out ∷ [])).1
    small.lam_found

-- and then ?b at the same class from there
abbrev out_and_b : MatchState
out_and_b = record { values = (b, lam) ∷ (a, (0, (0, 9) ∷ [])) ∷ []; pairs = (9, 7) ∷ []; seen = 9 ∷ 9 ∷ [] }

then_b : FoundAll small.graph small.graph.rows ((small.lam_pattern, class_id small.graph 1) ∷ (variable b, lam) ∷ []) (start_at small.graph 1) (out_and_b ∷ [])
then_b =
    (goal-laws.goals_go_on small.graph small.graph.rows ((small.lam_pattern, class_id small.graph 1) ∷ []) ((variable b, lam) ∷ []) (start_at small.graph 1) (out_and_b ∷ [])).1
    (small.out ∷ [], lam_as_goal, (out_and_b ∷ [], [], refl, (goal-laws.variables_take_values.new_value small.graph small.graph.rows b lam [] small.out (out_and_b ∷ []) refl).1 refl, refl))

-- (app ?a ?a) at the class of app: beside the row of app its child patterns are the goals above, and the other rows do not fit
app_by_goals : FoundAll small.graph small.graph.rows ((twice, class_id small.graph 2) ∷ []) (start_at small.graph 2) (with_lam ∷ [])
app_by_goals =
    (goal-laws.nodes_make_goals small.graph small.graph.rows 3 [] (child_pattern (variable a) (child_pattern (variable a) no_argument)) (class_id small.graph 2) [] (start_at small.graph 2) (with_lam ∷ [])).1 (
      with_lam ∷ [],
      [],
      refl,
      inr (both_lams, record { class = refl; operator = refl; payloads_same = refl }, app_node, same_twice),
      ([], [], refl, inl (λ h. let e : ◌≡◌ {A = ℕ} 2 3 = h.operator in omega arith, refl), ([], [], refl, inl (λ h. let e : ◌≡◌ {A = ℕ} 1 3 = h.operator in omega arith, refl), refl)),
    )

-- so the matcher finds it there
app_is_found : Found small.graph small.graph.rows twice (start_at small.graph 2) (class_id small.graph 2) (with_lam ∷ [])
app_is_found =
    (goal-laws.one_goal_is_found small.graph small.graph.rows twice (class_id small.graph 2) (start_at small.graph 2) (with_lam ∷ [])).0
    app_by_goals

-- the rows of other operators can be passed over: what is left is the row of app
abbrev is_app : Row → Bool
is_app r = nat_eq r.shape.op 3

app_class_valid : IsValidIn small.graph (2, [])
app_class_valid = full-is_valid small.graph.nodes small.graph.found small.rests.sane.sound.linked (2, []) (record { in_range = omega arith; slots = refl; injective = tt })

app_alone : FoundAll small.graph small.graph.rows ((twice, class_id small.graph 2) ∷ []) (start_at small.graph 2) (with_lam ∷ [])
app_alone =
    (goal-laws.rows_can_be_passed_over small.graph small.rests small.graph.rows (λ r c. c) 3 [] (child_pattern (variable a) (child_pattern (variable a) no_argument)) (class_id small.graph 2)
    app_class_valid is_app (λ r c e. inl (λ h. false≢true (sym e ∙ eq-eqb r.shape.op 3 h.operator))) [] (start_at small.graph 2) (with_lam ∷ [])).1
    (with_lam ∷ [], [], refl, inr (both_lams, record { class = refl; operator = refl; payloads_same = refl }, app_node, same_twice), refl)

-- the goals of its node are at valid ids
lam_is_valid : IsValidIn small.graph lam
lam_is_valid =
    goal-laws.goals_are_valid small.graph small.rests [] _ (2, []) (child_pattern (variable a) (child_pattern (variable a) no_argument)) both_lams app_node refl
    (variable a, lam) (contains_head (variable a, lam) ((variable a, lam) ∷ []))

-- nothing is found of a substitution
not_found : FoundAll small.graph small.graph.rows ((replacing (variable a) (variable a) (variable b), lam) ∷ (variable a, lam) ∷ []) nothing_seen []
not_found =
    (goal-laws.substitutions_are_not_found small.graph small.graph.rows (variable a) (variable a) (variable b) lam ((variable a, lam) ∷ []) nothing_seen []).1 refl

-- the arguments (f $7 bind $8 in (g ?a $8)) beside those of a node with the names 20 and 21: two flat lists are paired
abbrev f_args : PatternArgs
f_args = own_name 7 (binding 8 (child_pattern (variable a) (own_name 8 no_argument)) no_argument)

abbrev f_node : ℕ → NodeArgs
f_node y = a_name 20 (a_binder 21 (an_id lam (a_name y no_more)) no_more)

paired_flat : walked f_args (f_node 21) [] ≡ Some ((21, 8) ∷ (20, 7) ∷ [])
paired_flat = goal-laws.walks_are_flat f_args (f_node 21) []

-- where the last name is another one, the slot 8 has two names
not_paired : walked f_args (f_node 22) [] ≡ None
not_paired = goal-laws.walks_are_flat f_args (f_node 22) []

-- a node with another outline is not walked, whatever its names are, as can be seen without them
not_walked : walked (own_name 7 no_argument) (f_node 21) [] ≡ None
not_walked = goal-laws.walks_are_flat (own_name 7 no_argument) (f_node 21) []

seen_without_names : has_outline (own_name 7 no_argument) (place 5 (place 6 stop)) ≡ false
seen_without_names = goal-laws.outlines_have_no_names.without_names (λ y. y) (own_name 7 no_argument) (a_name 5 (a_name 6 no_more))

with_other_names : has_outline (own_name 7 (own_name 8 no_argument)) (place 6 (place 7 stop)) ≡ true
with_other_names = goal-laws.outlines_have_no_names.with_others suc (own_name 7 (own_name 8 no_argument)) (place 5 (place 6 stop))

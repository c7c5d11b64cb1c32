-- Patterns on a small graph, and instances with missing names: var is operator 1, lam 2, app 3.
use Rattle.std.proofs.Common.{◌≡◌, ℕ, ◌<◌, List, [], ◌∷◌, Some, None, sym, ◌∙◌, ap, refl, subst, inl, inr, arith}
use Rattle.std.specs.Prelude.{Contains, cond}
use Rattle.std.proofs.lemmas.Bool.{cases_Bool}
use Rattle.slotted_lists.proofs.Contained.{contains_head, contains_cases, Contains-nil}
use Rattle.slotted_lists.proofs.Options.{Some-same}
use Rattle.slotted_theory.specs.Nameless.{DTerm, stop, place, scope}
use Rattle.slotted_theory.specs.Renaming.{swapped}
use Rattle.slotted_theory.specs.Decided.{numbers_eq}
use Rattle.slotted_theory.proofs.Bijections.{to-injective, swap}
use Rattle.slotted_theory.proofs.Values.{node, child_before}
use Rattle.slotted_model.specs.Applied.{Applied, renamed_id, as_term}
use Rattle.slotted_model.specs.Filling.{IsFilling}
use Rattle.slotted_model.specs.Find.{find}
use Rattle.slotted_model.specs.State.{State}
use Rattle.slotted_model.specs.Rest.{IsValidIn, AtRest}
use Rattle.slotted_model.proofs.Examples.CongruenceExample.{made-rests}
use Rattle.slotted_model.proofs.Rebuilding.Asserting.{nothing-rests}
use Rattle.slotted_model.proofs.Finds.NormalIds.{full-is_valid}
use Rattle.slotted_model.proofs.Data.Options.{None-Some}
use Rattle.slotted_model.proofs.Examples.RestExamples.{empty, made}
use Rattle.slotted_model_rules.specs.Patterns.{Pattern, pattern_node, variable, no_argument, child_pattern, binding, look_up_pattern, Matches}
use Rattle.slotted_model_rules.specs.Instances.{is_itself, IsInstance}
use Rattle.slotted_model_rules.specs.Matcher.{NodeArgs, no_more, an_id, a_binder, MatchState, Found, class_id, start_at, Reads, value_at}
use Rattle.slotted_model_rules.proofs.Patterns.LookingUp.{matches-look_ups}
use Rattle.slotted_model_rules.proofs.Matching.Answering.{found-look_up}

-- the classes of (var $0), (lam $x (var $x)), and (app (lam $x (var $x)) (lam $x (var $x)))
abbrev pub var_node : DTerm
var_node = node 1 [] (place 0 stop)

abbrev pub lam_node : DTerm
lam_node = node 2 [] (scope (child_before (as_term (0, (0, 0) ∷ [])) stop) stop)

abbrev pub app_node : DTerm
app_node = node 3 [] (child_before (as_term (1, [])) (child_before (as_term (1, [])) stop))

abbrev pub one : State
one = made empty var_node

abbrev pub two : State
two = made one lam_node

abbrev pub graph : State
graph = made two app_node

one_rests : AtRest one
one_rests = made-rests empty nothing-rests var_node (omega arith) tt refl (λ s c. c) (refl, λ y c. absurd (Contains-nil y c))

two_rests : AtRest two
two_rests =
    made-rests one one_rests lam_node (omega arith) ((((0, (0, 0) ∷ []), refl, record { in_range = omega arith; slots = refl; injective = (λ h. h, tt) }), tt), tt)
    refl (λ s c. absurd (Contains-nil s c)) (refl, λ y c. absurd (Contains-nil y c))

pub rests : AtRest graph
rests =
    made-rests two two_rests app_node (omega arith) (
      ((1, []), refl, record { in_range = omega arith; slots = refl; injective = tt }),
      (((1, []), refl, record { in_range = omega arith; slots = refl; injective = tt }), tt),
    )
    refl (λ s c. absurd (Contains-nil s c)) (refl, λ y c. absurd (Contains-nil y c))

-- (lam $7 ?a), and ?a is (var $x)
abbrev pub lam_pattern : Pattern
lam_pattern = pattern_node 2 [] (binding 7 (child_pattern (variable (97 ∷ [])) no_argument) no_argument)

abbrev pub var_of : ℕ → List ℕ → Applied
var_of x v = (0, (0, x) ∷ [])

-- where ?a is (var $7) the value is bound by the pattern's binder, and the pattern is there; where it is (var $8) it is not
bound_value : look_up_pattern graph (λ y. y) (var_of 7) lam_pattern ≡ Some (1, [])
bound_value = refl

free_value : look_up_pattern graph (λ y. y) (var_of 8) lam_pattern ≡ None
free_value = refl

-- the matcher holds the pattern beside the node (lam $9 0[$9]): the name 9 stands for the slot 7, and ?a is 0[$9]
abbrev pub out : MatchState
out = record { values = ((97 ∷ []), (0, (0, 9) ∷ [])) ∷ []; pairs = (9, 7) ∷ []; seen = 9 ∷ 9 ∷ [] }

abbrev lam_names : NodeArgs
lam_names = a_binder 9 (an_id (0, (0, 9) ∷ []) no_more) no_more

pub lam_found : Found graph graph.rows lam_pattern (start_at graph 1) (class_id graph 1) (out ∷ [])
lam_found = (
  [],
  out ∷ [],
  refl,
  inl (λ h. let e : ◌≡◌ {A = ℕ} 3 2 = h.operator in omega arith, refl),
  (
    out ∷ [],
    [],
    refl,
    inr (
      lam_names,
      record { class = refl; operator = refl; payloads_same = refl },
      record {
        id = (1, []);
        of_row = record { filed = (1, omega arith, refl); full = record { in_range = omega arith; slots = refl; injective = tt }; source = refl; same = refl };
        form = refl;
        binders_differ = (λ c. Contains-nil 9 c, tt);
        binders_new = λ z c. (λ d. Contains-nil z d, λ d. Contains-nil z d);
        others_new = λ z c. inl c;
      },
      (out ∷ [], (out ∷ [], refl, (out ∷ [], [], refl, refl, refl)), (out ∷ [], [], refl, refl, refl)),
    ),
    ([], [], refl, inl (λ h. let e : ◌≡◌ {A = ℕ} 1 2 = h.operator in omega arith, refl), refl),
  ),
)

-- read with the name 7 for 9 the answer's value is (var $7), which the pattern's binder binds: so the pattern is looked up as the class
lam_read : Reads graph (swapped 9 7) (var_of 7) out
lam_read = record {
  injective = to-injective (swap 9 7);
  slots = λ s t c. elim (contains_cases (9, 7) [] (s, t) c) [
    | inl e ↦ ap (λ (p : ℕ × ℕ). swapped 9 7 p.0) e ∙ sym (ap (λ (p : ℕ × ℕ). p.1) e)
    | inr k ↦ absurd (Contains-nil (s, t) k)
  ];
  values_read = read;
}
  where
    read : (v : List ℕ) (b : Applied) → value_at out.values v ≡ Some b → find graph.found (var_of 7 v) ≡ renamed_id (swapped 9 7) (find graph.found b)
    read v b e = elim (cases_Bool (numbers_eq (97 ∷ []) v)) [
      | inl t ↦
          let q : (0, (0, 9) ∷ []) ≡ b = Some-same (0, (0, 9) ∷ []) b (ap (λ c. cond c (Some (0, (0, 9) ∷ [])) None) (sym t) ∙ e) in
          ap (λ a. renamed_id (swapped 9 7) (find graph.found a)) q
      | inr f ↦ absurd (None-Some b (ap (λ c. cond c (Some (0, (0, 9) ∷ [])) None) (sym f) ∙ e))
    ]

lam_answer : look_up_pattern graph (λ y. y) (var_of 7) lam_pattern ≡ Some (1, [])
lam_answer = found-look_up graph graph.rows rests (swapped 9 7) (var_of 7) lam_pattern (start_at graph 1) (class_id graph 1) (out ∷ []) lam_found out (inl refl) lam_read

-- so it matches the id 1[] by rows
lam_matches : Matches graph (λ y. y) (var_of 7) lam_pattern (1, [])
lam_matches = (matches-look_ups graph rests (var_of 7) (λ y. y) (λ x y e. e) lam_pattern ((valid, tt), tt) (1, [])).0 bound_value
  where
    valid : IsValidIn graph (0, (0, 7) ∷ [])
    valid = full-is_valid graph.nodes graph.found rests.sane.sound.linked (0, (0, 7) ∷ []) (record { in_range = omega arith; slots = refl; injective = (λ h. h, tt) })

-- (lam $7 (lam $8 (app ?a ?a))), where ?a is 0[$8] in a graph whose class 0 is (f $0 $1): it lacks a name, and is filled by other names at each place.
-- Seen from under both binders $8 is the place 0, and free names are two more; 12 and 13 stand for the free names 10 and 11.
abbrev f_node : DTerm
f_node = node 5 [] (place 0 (place 1 stop))

abbrev twice_under : Pattern
twice_under = pattern_node 2 [] (binding 7 (child_pattern (pattern_node 2 [] (binding 8 (child_pattern (pattern_node 3 [] (child_pattern (variable (97 ∷ [])) (child_pattern (variable (97 ∷ [])) no_argument))) no_argument) no_argument)) no_argument) no_argument)

abbrev f_of : ℕ → DTerm
f_of z = node 5 [] (place 0 (place z stop))

filled_by : (z : ℕ) → 1 < z → IsFilling (f_node ∷ []) (0 ∷ 1 ∷ []) (0, (0, 0) ∷ []) (0, (0, 0) ∷ (1, z) ∷ [])
filled_by z l = record {
  class = refl;
  full = record { in_range = omega arith; slots = refl; injective = (λ h. elim h [ inl e ↦ omega arith | inr n ↦ n ], (λ h. h, tt)) };
  keeps = λ s x c. elim (contains_cases (0, 0) [] (s, x) c) [
    | inl e ↦ subst (Contains ((0, 0) ∷ (1, z) ∷ [])) (sym e) (contains_head (0, 0) ((1, z) ∷ []))
    | inr k ↦ absurd (Contains-nil (s, x) k)
  ];
  fresh = λ s x c n g. elim (contains_cases (0, 0) ((1, z) ∷ []) (s, x) c) [
    | inl e ↦ n (subst (Contains (0 ∷ [])) (sym (ap (λ (p : ℕ × ℕ). p.0) e)) (contains_head 0 []))
    | inr k ↦ elim (contains_cases (1, z) [] (s, x) k) [
      | inl e ↦ let q : x ≡ z = ap (λ (p : ℕ × ℕ). p.1) e in elim (contains_cases 0 (1 ∷ []) x g) [
        | inl m ↦ omega arith
        | inr m ↦ elim (contains_cases 1 [] x m) [
          | inl o ↦ omega arith
          | inr o ↦ Contains-nil x o
        ]
      ]
      | inr m ↦ Contains-nil (s, x) m
    ]
  ];
}

filled_twice : IsInstance is_itself (f_node ∷ []) [] (λ v. (0, (0, 8) ∷ [])) (λ y. y) twice_under
    (node 2 [] (scope (child_before (node 2 [] (scope (child_before (node 3 [] (child_before (f_of 12) (child_before (f_of 13) stop))) stop) stop)) stop) stop))
filled_twice = (
  _,
  refl,
  (
    _,
    _,
    refl,
    (
      _,
      _,
      refl,
      (
        _,
        refl,
        (
          _,
          _,
          refl,
          (
            _,
            _,
            refl,
            (
              _,
              refl,
              (
                f_of 12,
                _,
                refl,
                ((0, (0, 0) ∷ (1, 12) ∷ []), filled_by 12 (omega arith), refl),
                (f_of 13, _, refl, ((0, (0, 0) ∷ (1, 13) ∷ []), filled_by 13 (omega arith), refl), refl),
              ),
            ),
            refl,
          ),
          refl,
        ),
      ),
      refl,
    ),
    refl,
  ),
)

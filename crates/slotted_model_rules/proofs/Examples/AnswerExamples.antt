-- Laws of the matcher held against what it finds: (lam $7 ?a) at the class of (lam $x (var $x)), and at the class of
-- (lam $y (f $x $y)) in the graph where f has dropped a slot.
use Rattle.std.proofs.Common.{◌≡◌, ◌∙◌, ℕ, List, [], ◌∷◌, Some, None, sym, ap, refl, inl, inr, arith}
use Rattle.std.specs.Prelude.{Contains, cond}
use Rattle.std.proofs.lemmas.Bool.{cases_Bool}
use Rattle.slotted_lists.proofs.Contained.{contains_head, Contains-nil}
use Rattle.slotted_lists.proofs.Options.{Some-same}
use Rattle.slotted_theory.specs.Decided.{numbers_eq}
use Rattle.slotted_theory.specs.Renaming.{Bijection, IsInjective, swapped}
use Rattle.slotted_theory.proofs.Bijections.{to-injective, swap}
use Rattle.slotted_model.specs.Applied.{Applied, renamed_id}
use Rattle.slotted_model.specs.Find.{find_class, find}
use Rattle.slotted_model.specs.Rest.{IsValidIn}
use Rattle.slotted_model.proofs.Examples.CompletenessExamples as dropped
use Rattle.slotted_model.proofs.Examples.CompletenessExamples.{one_of}
use Rattle.slotted_model.proofs.Data.Options.{None-Some}
use Rattle.slotted_model_rules.specs.Patterns.{variable}
use Rattle.slotted_model_rules.specs.Matcher.{NodeArgs, no_more, an_id, a_binder, MatchState, value_at, Found, class_id}
use Rattle.slotted_model_rules.specs.Matcher.{start_at, Reads}
use Rattle.slotted_model_rules.proofs.Laws.{matcher-laws}
use Rattle.slotted_model_rules.proofs.Examples.LookUpExamples.{lam_a, f_8}
use Rattle.slotted_model_rules.proofs.Examples.PatternExamples as small

-- what is found has an id for ?a
a_has_value : (b : Applied) × (value_at small.out.values (97 ∷ []) ≡ Some b)
a_has_value =
    (matcher-laws.answers_have_values small.graph small.graph.rows small.lam_pattern (start_at small.graph 1)
    (class_id small.graph 1) (small.out ∷ []) small.lam_found small.out (contains_head small.out [])).0.0

-- the class of lam under its own slots, of which it has none, is a valid id, and finds itself
lam_class_is_valid : IsValidIn small.graph (1, []) × (find_class small.graph.found 1 ≡ 1)
lam_class_is_valid =
    let v = matcher-laws.class_ids_are_valid small.graph small.rests 1 (omega arith) in (v.0, v.1 refl)

-- so the id that was found for ?a is valid too
value_is_valid : IsValidIn small.graph (0, (0, 9) ∷ [])
value_is_valid =
    matcher-laws.answers_are_valid small.graph small.rests small.graph.rows small.lam_pattern (start_at small.graph 1)
    (class_id small.graph 1) (small.out ∷ []) small.lam_found lam_class_is_valid.0 (λ v b e. absurd (None-Some b e))
    small.out (contains_head small.out []) (97 ∷ []) (0, (0, 9) ∷ []) refl

-- a name of the graph stands for the slot 7, which is a binder
binder_is_named : (s : ℕ) × Contains small.out.pairs (s, 7)
binder_is_named =
    (matcher-laws.slots_are_named small.graph small.graph.rows small.lam_pattern (start_at small.graph 1)
    (class_id small.graph 1) (small.out ∷ []) small.lam_found small.out (contains_head small.out [])).0

-- what was found can be read
can_be_read : (f : ℕ → ℕ) × (σ : List ℕ → Applied) × Reads small.graph f σ small.out
can_be_read =
    matcher-laws.readings_exist small.graph small.graph.rows small.lam_pattern 1 (small.out ∷ []) small.lam_found
    small.out (contains_head small.out [])

-- from there ?b is found at the class of lam: the name 9 stands for the slot 7 as before, and ?a has its value still
abbrev with_b : MatchState
with_b = record {
  values = ((98 ∷ []), (1, [])) ∷ ((97 ∷ []), (0, (0, 9) ∷ [])) ∷ [];
  pairs = (9, 7) ∷ [];
  seen = 9 ∷ 9 ∷ [];
}

-- both are kept
kept_on : Contains with_b.pairs (9, 7) × (value_at with_b.values (97 ∷ []) ≡ Some (0, (0, 9) ∷ []))
kept_on =
    let k = matcher-laws.answers_go_on small.graph small.graph.rows (variable (98 ∷ [])) small.out (1, [])
    (with_b ∷ []) refl with_b (contains_head with_b []) in
    (k.0 9 7 (contains_head (9, 7) []), k.1 (97 ∷ []) (0, (0, 9) ∷ []) refl)

-- the class of (lam $y (f $x $y)) has the slot 3, and is valid under it
dropped_class_is_valid : IsValidIn dropped.graph (2, (3, 3) ∷ [])
dropped_class_is_valid = (matcher-laws.class_ids_are_valid dropped.graph dropped.at_rest 2 (omega arith)).0

-- the matcher has a run for (lam $7 ?a) there
runs_there : (outs : List MatchState)
    × Found dropped.graph dropped.graph.rows lam_a (start_at dropped.graph 2) (2, (3, 3) ∷ []) outs
runs_there =
    matcher-laws.runs_exist dropped.graph dropped.at_rest dropped.graph.rows (λ r c. c) lam_a (start_at dropped.graph 2)
    (2, (3, 3) ∷ []) dropped_class_is_valid

-- one such run, step by step: the name 50 stands for the binder, and ?a is g of the class's slot
abbrev lam_names : NodeArgs
lam_names = a_binder 50 (an_id (1, (2, 3) ∷ []) no_more) no_more

abbrev with_g : MatchState
with_g = record { values = ((97 ∷ []), (1, (2, 3) ∷ [])) ∷ []; pairs = (50, 7) ∷ []; seen = 50 ∷ 3 ∷ 3 ∷ [] }

-- the rows of f and g are passed over, and that of lam is the one
g_is_found : Found dropped.graph dropped.graph.rows lam_a (start_at dropped.graph 2) (2, (3, 3) ∷ []) (with_g ∷ [])
g_is_found = (
  [],
  with_g ∷ [],
  refl,
  inl (λ h. let e : ◌≡◌ {A = ℕ} 3 5 = h.operator in omega arith, refl),
  (
    [],
    with_g ∷ [],
    refl,
    inl (λ h. let e : ◌≡◌ {A = ℕ} 4 5 = h.operator in omega arith, refl),
    (
      with_g ∷ [],
      [],
      refl,
      inr (
        lam_names,
        record { class = refl; operator = refl; payloads_same = refl },
        record {
          id = (2, (3, 3) ∷ []);
          of_row = record {
            filed = (2, omega arith, refl);
            full = record { in_range = omega arith; slots = refl; injective = (λ h. h, tt) };
            source = refl;
            same = refl;
          };
          form = refl;
          binders_differ = (Contains-nil 50, tt);
          binders_new = λ z c. (
            λ d. let e : z ≡ 50 = one_of c in let l : z ≡ 3 = one_of d in omega arith,
            λ d. let e : z ≡ 50 = one_of c in let l : z ≡ 3 = one_of d in omega arith,
          );
          others_new = λ z c. inl c;
        },
        (with_g ∷ [], (with_g ∷ [], refl, (with_g ∷ [], [], refl, refl, refl)), (with_g ∷ [], [], refl, refl, refl)),
      ),
      refl,
    ),
  ),
)

-- the slot 7 for the name 50, and x for the name 3
abbrev named : ℕ → ℕ → ℕ
named x z = swapped 3 x (swapped 50 7 z)

-- no two names become one
named-injective : (x : ℕ) → IsInjective (named x)
named-injective x y z e = to-injective (swap 50 7) y z (to-injective (swap 3 x) (swapped 50 7 y) (swapped 50 7 z) e)

-- what was found for ?a
abbrev g_3 : Applied
g_3 = (1, (2, 3) ∷ [])

-- the state is read by these names, where the value of ?a finds what g of x finds
read_by : (x : ℕ) (σ : List ℕ → Applied) → named x 50 ≡ 7 →
    ((v : List ℕ) → find dropped.graph.found (σ v) ≡ renamed_id (named x) (1, (2, 3) ∷ [])) →
    Reads dropped.graph (named x) σ with_g
read_by x σ seven same = record {
  injective = named-injective x;
  slots = λ s t c.
      ap (λ (p : ℕ × ℕ). named x p.0) (one_of c) ∙ seven ∙ sym (ap (λ (p : ℕ × ℕ). p.1) (one_of c));
  values_read = read;
}
  where
    read : (v : List ℕ) (b : Applied) → value_at with_g.values v ≡ Some b →
        find dropped.graph.found (σ v) ≡ renamed_id (named x) (find dropped.graph.found b)
    read v b e = elim (cases_Bool (numbers_eq (97 ∷ []) v)) [
      | inl t ↦
          let q : g_3 ≡ b = Some-same g_3 b (ap (λ c. cond c (Some g_3) None) (sym t) ∙ e) in
          same v ∙ ap (λ a. renamed_id (named x) (find dropped.graph.found a)) q
      | inr f ↦ absurd (None-Some b (ap (λ c. cond c (Some g_3) None) (sym f) ∙ e))
    ]

-- once with 8 for it, where ?a is f of 8 that lacks a name, and once with 9, where it is g of 9
read_with_8 : Reads dropped.graph (named 8) f_8 with_g
read_with_8 = read_by 8 f_8 refl (λ v. refl)

abbrev g_9 : List ℕ → Applied
g_9 v = (1, (2, 9) ∷ [])

-- the value that is g of 9 reads it by 9
read_with_9 : Reads dropped.graph (named 9) g_9 with_g
read_with_9 = read_by 9 g_9 refl (λ v. refl)

-- so a renaming that leaves the slot 7 takes what f of 8 finds to g of 9: it takes 8 to 9
eight_to_nine : (π : Bijection) × (π.to 7 ≡ 7) × ((1, (2, 9) ∷ []) ≡ renamed_id π.to (1, (2, 8) ∷ []))
eight_to_nine =
    let r = matcher-laws.readings_are_renamed dropped.graph with_g (named 8) (named 9) f_8 g_9 read_with_8 read_with_9
    in
    (r.0, r.1 50 7 (contains_head (50, 7) []), r.2 (97 ∷ []) (1, (2, 3) ∷ []) refl)

-- the value that was found there is valid
g_is_valid : IsValidIn dropped.graph (1, (2, 3) ∷ [])
g_is_valid =
    matcher-laws.answers_are_valid dropped.graph dropped.at_rest dropped.graph.rows lam_a (start_at dropped.graph 2)
    (2, (3, 3) ∷ []) (with_g ∷ []) g_is_found dropped_class_is_valid (λ v b e. absurd (None-Some b e)) with_g
    (contains_head with_g []) (97 ∷ []) (1, (2, 3) ∷ []) refl

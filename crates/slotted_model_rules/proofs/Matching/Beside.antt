-- A pattern beside a node with names that is what its arguments are looked up as: the binders can be matched, and then each name stands for the right slot.
use Rattle.std.proofs.Common.{◌≡◌, ℕ, suc, List, [], ◌∷◌, ◌++◌, Option, Some, None, map, sym, ◌∙◌, ap, refl, subst, inl, inr, arith}
use Rattle.std.specs.Prelude.{◌⊎◌, Contains, option_and_then, cond}
use Rattle.std.proofs.lemmas.Bool.{cases_eq, cases_Bool, eq-eqb}
use Rattle.slotted_lists.proofs.Contained.{contains_cases}
use Rattle.slotted_lists.proofs.Members.{In, In-left, In-right, In-append, In-map, Contains-In}
use Rattle.slotted_lists.proofs.Options.{Some-same}
use Rattle.slotted_lists.proofs.Maps.{values-with_values}
use Rattle.slotted_theory.specs.Nameless.{DArgs, stop, place, scope, extend}
use Rattle.slotted_theory.specs.FiniteMaps.{value_of, with_values}
use Rattle.slotted_theory.specs.Renaming.{IsInjective}
use Rattle.slotted_theory.specs.Shape.{outside, free_names}
use Rattle.slotted_theory.proofs.Names.{extend-same, extend-other, extend-injective}
use Rattle.slotted_theory.proofs.Values.{child_before}
use Rattle.slotted_model.specs.Applied.{Applied, keys, values, renamed_id, in_places, as_term}
use Rattle.slotted_model.specs.Correspondence.{has_slot}
use Rattle.slotted_model.specs.State.{State}
use Rattle.slotted_model.specs.Rest.{AtRest}
use Rattle.slotted_model.proofs.Represented.Children.{free_names-places}
use Rattle.slotted_model.proofs.Correspondences.Pairs.{Contains-value_of, Contains-of_value, value_of-found}
use Rattle.slotted_model.proofs.Represented.Folds.{as_term-same}
use Rattle.slotted_model.proofs.Data.Members.{In-outside}
use Rattle.slotted_model.proofs.Data.Options.{None-Some, option_map-some, both-some}
use Rattle.slotted_model.proofs.Data.Parts.{kind, first_name, first_child, first_scope, after_first}
use Rattle.slotted_model.proofs.Complete.Spreading.{has_slot-in}
use Rattle.slotted_model_rules.specs.Complete.{own_binders}
use Rattle.slotted_model_rules.specs.Patterns.{PatternArgs, no_argument, own_name, child_pattern, binding, look_up_pattern, look_up_arguments}
use Rattle.slotted_model_rules.specs.Matcher.{NodeArgs, no_more, a_name, an_id, a_binder, unnamed, written_names, bound_names, rest_of, inside_first, paired_with, paired, walked}
use Rattle.slotted_model_rules.proofs.Matching.AllSlots.{renamed-injective, renamed-agrees}
use Rattle.slotted_model_rules.proofs.Patterns.LookingUp.{pattern-moved}
use Rattle.slotted_model_rules.proofs.Substitutions.Renamed.{renamed-twice}
use Rattle.slotted_model_rules.proofs.Matching.Walking.{Agrees}

module _ (g : State) (σ : List ℕ → Applied) where
  -- the arguments are looked up as the node, name by name: κ numbers the names of the node, ρ those of the pattern
  abbrev pub Beside : (ℕ → ℕ) → (ℕ → ℕ) → PatternArgs → NodeArgs → Type 0
  Beside κ ρ no_argument n = n ≡ no_more
  Beside κ ρ (own_name x rest) n = (y : ℕ) × (m : NodeArgs) × (n ≡ a_name y m) × (ρ x ≡ κ y) × Beside κ ρ rest m
  Beside κ ρ (child_pattern p rest) n = (c : Applied) × (m : NodeArgs) × (n ≡ an_id c m) × (look_up_pattern g ρ σ p ≡ Some (renamed_id κ c)) × Beside κ ρ rest m
  Beside κ ρ (binding x inner rest) n = (y : ℕ) × (m : NodeArgs) × (k : NodeArgs) × (n ≡ a_binder y m k) × Beside (extend y κ) (extend x ρ) inner m × Beside κ ρ rest k

  -- what a node without names was made of
  of_place : (w : ℕ) (f : DArgs) (κ : ℕ → ℕ) (n : NodeArgs) → place w f ≡ unnamed κ n → (y : ℕ) × (m : NodeArgs) × (n ≡ a_name y m) × (w ≡ κ y) × (f ≡ unnamed κ m)
  of_place w f κ (a_name y m) e = (y, m, refl, ap first_name e, ap after_first e)
  of_place w f κ no_more e = let k : kind (place w f) ≡ kind stop = ap kind e in absurd (omega arith)
  of_place w f κ (an_id c m) e = let k : ◌≡◌ {A = ℕ} 1 2 = ap kind e in absurd (omega arith)
  of_place w f κ (a_binder y i m) e = let k : ◌≡◌ {A = ℕ} 1 3 = ap kind e in absurd (omega arith)

  of_stop : (κ : ℕ → ℕ) (n : NodeArgs) → stop ≡ unnamed κ n → n ≡ no_more
  of_stop κ no_more e = refl
  of_stop κ (a_name y m) e = let k : ◌≡◌ {A = ℕ} 0 1 = ap kind e in absurd (omega arith)
  of_stop κ (an_id c m) e = let k : ◌≡◌ {A = ℕ} 0 2 = ap kind e in absurd (omega arith)
  of_stop κ (a_binder y i m) e = let k : ◌≡◌ {A = ℕ} 0 3 = ap kind e in absurd (omega arith)

  of_child : (a : Applied) (f : DArgs) (κ : ℕ → ℕ) (n : NodeArgs) → child_before (as_term a) f ≡ unnamed κ n → (c : Applied) × (m : NodeArgs) × (n ≡ an_id c m) × (a ≡ renamed_id κ c) × (f ≡ unnamed κ m)
  of_child a f κ (an_id c m) e = (c, m, refl, as_term-same a (renamed_id κ c) (ap first_child e), ap after_first e)
  of_child a f κ no_more e = let k : ◌≡◌ {A = ℕ} 2 0 = ap kind e in absurd (omega arith)
  of_child a f κ (a_name y m) e = let k : ◌≡◌ {A = ℕ} 2 1 = ap kind e in absurd (omega arith)
  of_child a f κ (a_binder y i m) e = let k : ◌≡◌ {A = ℕ} 2 3 = ap kind e in absurd (omega arith)

  of_scope : (i f : DArgs) (κ : ℕ → ℕ) (n : NodeArgs) → scope i f ≡ unnamed κ n → (y : ℕ) × (m : NodeArgs) × (k : NodeArgs) × (n ≡ a_binder y m k) × (i ≡ unnamed (extend y κ) m) × (f ≡ unnamed κ k)
  of_scope i f κ (a_binder y m k) e = (y, m, k, refl, ap first_scope e, ap after_first e)
  of_scope i f κ no_more e = let k : ◌≡◌ {A = ℕ} 3 0 = ap kind e in absurd (omega arith)
  of_scope i f κ (a_name y m) e = let k : ◌≡◌ {A = ℕ} 3 1 = ap kind e in absurd (omega arith)
  of_scope i f κ (an_id c m) e = let k : ◌≡◌ {A = ℕ} 3 2 = ap kind e in absurd (omega arith)

  pub beside : (κ ρ : ℕ → ℕ) (args : PatternArgs) (n : NodeArgs) → look_up_arguments g ρ σ args ≡ Some (unnamed κ n) → Beside κ ρ args n
  beside κ ρ no_argument n e = of_stop κ n (Some-same stop (unnamed κ n) e)
  beside κ ρ (own_name x rest) n e =
      let r : (f : DArgs) × (look_up_arguments g ρ σ rest ≡ Some f) × (place (ρ x) f ≡ unnamed κ n) = option_map-some (place (ρ x)) (look_up_arguments g ρ σ rest) (unnamed κ n) e in
      let q = of_place (ρ x) r.0 κ n r.2 in
      (q.0, q.1, q.2, q.3, beside κ ρ rest q.1 (r.1 ∙ ap Some q.4))
  beside κ ρ (child_pattern p rest) n e =
      let r : (a : Applied) × (f : DArgs) × (look_up_pattern g ρ σ p ≡ Some a) × (look_up_arguments g ρ σ rest ≡ Some f) × (child_before (as_term a) f ≡ unnamed κ n) =
      both-some (λ a found. child_before (as_term a) found) (look_up_pattern g ρ σ p) (look_up_arguments g ρ σ rest) (unnamed κ n) e in
      let q = of_child r.0 r.1 κ n r.4 in
      (q.0, q.1, q.2, r.2 ∙ ap Some q.3, beside κ ρ rest q.1 (r.3 ∙ ap Some q.4))
  beside κ ρ (binding x inner rest) n e =
      let r : (i : DArgs) × (f : DArgs) × (look_up_arguments g (extend x ρ) σ inner ≡ Some i) × (look_up_arguments g ρ σ rest ≡ Some f) × (scope i f ≡ unnamed κ n) =
      both-some scope (look_up_arguments g (extend x ρ) σ inner) (look_up_arguments g ρ σ rest) (unnamed κ n) e in
      let q = of_scope r.0 r.1 κ n r.4 in
      (q.0, q.1, q.2, q.3, beside (extend q.0 κ) (extend x ρ) inner q.1 (r.2 ∙ ap Some q.4), beside κ ρ rest q.2 (r.3 ∙ ap Some q.5))

  -- f takes each name of the node to the one in its place, and each child pattern is looked up as the id in its place
  abbrev pub Answers : (ℕ → ℕ) → PatternArgs → NodeArgs → Type 0
  Answers f no_argument n = n ≡ no_more
  Answers f (own_name x rest) n = (y : ℕ) × (m : NodeArgs) × (n ≡ a_name y m) × (f y ≡ x) × Answers f rest m
  Answers f (child_pattern p rest) n = (c : Applied) × (m : NodeArgs) × (n ≡ an_id c m) × (look_up_pattern g (λ y. y) σ p ≡ Some (renamed_id f c)) × Answers f rest m
  Answers f (binding x inner rest) n = (y : ℕ) × (m : NodeArgs) × (k : NodeArgs) × (n ≡ a_binder y m k) × (f y ≡ x) × Answers f inner m × Answers f rest k

-- the name of the first binder
abbrev pub bound_of_first : NodeArgs → ℕ
bound_of_first no_more = 0
bound_of_first (a_name x rest) = 0
bound_of_first (an_id a rest) = 0
bound_of_first (a_binder x inner rest) = x

-- each binder of the node with the one of the pattern that stands in its place
abbrev pub bound_pairs : PatternArgs → NodeArgs → List (ℕ × ℕ)
bound_pairs no_argument n = []
bound_pairs (own_name x rest) n = bound_pairs rest (rest_of n)
bound_pairs (child_pattern p rest) n = bound_pairs rest (rest_of n)
bound_pairs (binding x inner rest) n = (bound_of_first n, x) ∷ (bound_pairs inner (inside_first n) ++ bound_pairs rest (rest_of n))

map-append : {A B : Type 0} (f : A → B) (xs ys : List A) → map f (xs ++ ys) ≡ map f xs ++ map f ys
map-append f [] ys = refl
map-append f (x ∷ xs) ys = ap (λ l. f x ∷ l) (map-append f xs ys)

pub bound_pairs-values : (args : PatternArgs) (n : NodeArgs) → values (bound_pairs args n) ≡ own_binders args
bound_pairs-values no_argument n = refl
bound_pairs-values (own_name x rest) n = bound_pairs-values rest (rest_of n)
bound_pairs-values (child_pattern p rest) n = bound_pairs-values rest (rest_of n)
bound_pairs-values (binding x inner rest) n =
    ap (λ l. x ∷ l) (map-append (λ (p : ℕ × ℕ). p.1) (bound_pairs inner (inside_first n)) (bound_pairs rest (rest_of n)) ∙ (λ i. bound_pairs-values inner (inside_first n) i ++ bound_pairs-values rest (rest_of n) i))

-- S holds of each name that is free in the node
abbrev pub NamesIn : (ℕ → Type 0) → NodeArgs → Type 0
NamesIn S no_more = Unit {0}
NamesIn S (a_name x rest) = S x × NamesIn S rest
NamesIn S (an_id a rest) = ((z : ℕ) → In z (values a.1) → S z) × NamesIn S rest
NamesIn S (a_binder x inner rest) = NamesIn (λ z. (z ≡ x) ⊎ S z) inner × NamesIn S rest

either-in : {A B C : Type 0} → (B → C) → A ⊎ B → A ⊎ C
either-in f (inl a) = inl a
either-in f (inr b) = inr (f b)

pub NamesIn-map : (S T : ℕ → Type 0) → ((z : ℕ) → S z → T z) → (n : NodeArgs) → NamesIn S n → NamesIn T n
NamesIn-map S T h no_more k = tt
NamesIn-map S T h (a_name x rest) k = (h x k.0, NamesIn-map S T h rest k.1)
NamesIn-map S T h (an_id a rest) k = (λ z i. h z (k.0 z i), NamesIn-map S T h rest k.1)
NamesIn-map S T h (a_binder x inner rest) k =
    (NamesIn-map (λ z. (z ≡ x) ⊎ S z) (λ z. (z ≡ x) ⊎ T z) (λ z. either-in (h z)) inner k.0, NamesIn-map S T h rest k.1)

pub names-in : (ρ : ℕ → ℕ) (n : NodeArgs) (Q : ℕ → Type 0) → ((w : ℕ) → In w (free_names (unnamed ρ n)) → Q w) → NamesIn (λ z. Q (ρ z)) n
names-in ρ no_more Q h = tt
names-in ρ (a_name x rest) Q h = (h (ρ x) (inl refl), names-in ρ rest Q (λ w k. h w (inr k)))
names-in ρ (an_id a rest) Q h =
    let own : List ℕ = values (with_values ρ a.1) in (
      λ z i. h (ρ z) (In-left (ρ z) (free_names (in_places own)) (free_names (unnamed ρ rest))
          (subst (In (ρ z)) (sym (free_names-places own)) (subst (In (ρ z)) (sym (values-with_values ρ a.1)) (In-map ρ (values a.1) z i)))),
      names-in ρ rest Q (λ w k. h w (In-right w (free_names (in_places own)) (free_names (unnamed ρ rest)) k)),
    )
names-in ρ (a_binder x inner rest) Q h =
    let here : List ℕ = free_names (unnamed (extend x ρ) inner) in
    let R : ℕ → Type 0 = λ w. (u : ℕ) → w ≡ suc u → Q u in
    let k : NamesIn (λ z. R (extend x ρ z)) inner = names-in (extend x ρ) inner R
    (λ w i u e. h u (In-left u (outside here) (free_names (unnamed ρ rest)) (In-outside u here (subst (λ v. In v here) e i)))) in (
      NamesIn-map (λ z. R (extend x ρ z)) (λ z. (z ≡ x) ⊎ Q (ρ z)) (λ z r. elim (cases_eq z x) [
        | inl e ↦ inl e
        | inr o ↦ inr (r (ρ z) (extend-other x ρ z o))
      ]) inner k,
      names-in ρ rest Q (λ w i. h w (In-right w (outside here) (free_names (unnamed ρ rest)) i)),
    )

-- each name that is written is free or bound
pub written-in : (S : ℕ → Type 0) (n : NodeArgs) → NamesIn S n → (z : ℕ) → In z (written_names n) → S z ⊎ In z (bound_names n)
written-in S no_more h z k = absurd k
written-in S (a_name x rest) h z (inl e) = inl (subst S (sym e) h.0)
written-in S (a_name x rest) h z (inr k) = written-in S rest h.1 z k
written-in S (an_id a rest) h z k = elim (In-append z (values a.1) (written_names rest) k) [
  | inl i ↦ inl (h.0 z i)
  | inr i ↦ written-in S rest h.1 z i
]
written-in S (a_binder x inner rest) h z (inl e) = inr (inl e)
written-in S (a_binder x inner rest) h z (inr k) = elim (In-append z (written_names inner) (written_names rest) k) [
  | inl i ↦ elim (written-in (λ w. (w ≡ x) ⊎ S w) inner h.0 z i) [
    | inl s ↦ elim s [
      | inl e ↦ inr (inl e)
      | inr t ↦ inl t
    ]
    | inr b ↦ inr (inr (In-left z (bound_names inner) (bound_names rest) b))
  ]
  | inr i ↦ either-in (λ b. inr (In-right z (bound_names inner) (bound_names rest) b)) (written-in S rest h.1 z i)
]

module _ (g : State) (rest_state : AtRest g) (σ : List ℕ → Applied) where
  pub bound_pairs-keys : (κ ρ : ℕ → ℕ) (args : PatternArgs) (n : NodeArgs) → Beside g σ κ ρ args n → keys (bound_pairs args n) ≡ bound_names n
  bound_pairs-keys κ ρ no_argument n b = ap bound_names (sym b)
  bound_pairs-keys κ ρ (own_name x rest) n b = subst (λ m. keys (bound_pairs rest (rest_of m)) ≡ bound_names m) (sym b.2) (bound_pairs-keys κ ρ rest b.1 b.4)
  bound_pairs-keys κ ρ (child_pattern p rest) n b = subst (λ m. keys (bound_pairs rest (rest_of m)) ≡ bound_names m) (sym b.2) (bound_pairs-keys κ ρ rest b.1 b.4)
  bound_pairs-keys κ ρ (binding x inner rest) n b =
      subst (λ m. keys (bound_pairs (binding x inner rest) m) ≡ bound_names m) (sym b.3)
      (ap (λ l. b.0 ∷ l) (map-append (λ (p : ℕ × ℕ). p.0) (bound_pairs inner b.1) (bound_pairs rest b.2)
      ∙ (λ i. bound_pairs-keys (extend b.0 κ) (extend x ρ) inner b.1 b.4 i ++ bound_pairs-keys κ ρ rest b.2 b.5 i)))

  -- where f takes binders to binders, and the numbers of the two sides agree by it
  pub answers : (κ ρ f : ℕ → ℕ) → IsInjective ρ → IsInjective f → (S : ℕ → Type 0) → ((z : ℕ) → S z → κ z ≡ ρ (f z)) → (args : PatternArgs) (n : NodeArgs) → Beside g σ κ ρ args n → NamesIn S n →
      ((y x : ℕ) → In (y, x) (bound_pairs args n) → f y ≡ x) → Answers g σ f args n
  answers κ ρ f inj injf S agree no_argument n b names bound = b
  answers κ ρ f inj injf S agree (own_name x rest) n b names bound =
      let here : NamesIn S (a_name b.0 b.1) = subst (NamesIn S) b.2 names in
      (b.0, b.1, b.2, inj (f b.0) x (sym (agree b.0 here.0) ∙ sym b.3), answers κ ρ f inj injf S agree rest b.1 b.4 here.1 (λ y z i. bound y z (subst (λ m. In (y, z) (bound_pairs rest (rest_of m))) (sym b.2) i)))
  answers κ ρ f inj injf S agree (child_pattern p rest) n b names bound =
      let c : Applied = b.0 in
      let here : NamesIn S (an_id c b.1) = subst (NamesIn S) b.2 names in
      let same : renamed_id κ c ≡ renamed_id ρ (renamed_id f c) = renamed-agrees κ (λ z. ρ (f z)) c (λ z i. agree z (here.0 z i)) ∙ sym (renamed-twice ρ f c) in
      let q : (d : Applied) × (look_up_pattern g (λ y. y) σ p ≡ Some d) × (renamed_id ρ d ≡ renamed_id ρ (renamed_id f c)) =
      option_map-some (renamed_id ρ) (look_up_pattern g (λ y. y) σ p) (renamed_id ρ (renamed_id f c)) (sym (pattern-moved g rest_state ρ inj (λ y. y) σ p) ∙ (b.3 ∙ ap Some same)) in
      (c, b.1, b.2, q.1 ∙ ap Some (renamed-injective ρ inj q.0 (renamed_id f c) q.2), answers κ ρ f inj injf S agree rest b.1 b.4 here.1 (λ y z i. bound y z (subst (λ m. In (y, z) (bound_pairs rest (rest_of m))) (sym b.2) i)))
  answers κ ρ f inj injf S agree (binding x inner rest) n b names bound =
      let y : ℕ = b.0 in
      let here : NamesIn S (a_binder y b.1 b.2) = subst (NamesIn S) b.3 names in
      let pairs : (u v : ℕ) → In (u, v) (bound_pairs (binding x inner rest) (a_binder y b.1 b.2)) → f u ≡ v = λ u v i. bound u v (subst (λ m. In (u, v) (bound_pairs (binding x inner rest) m)) (sym b.3) i) in
      let fy : f y ≡ x = pairs y x (inl refl) in
      let under : (z : ℕ) → ((z ≡ y) ⊎ S z) → extend y κ z ≡ extend x ρ (f z) = λ z s. elim (cases_eq z y) [
        | inl e ↦ extend-same y κ z e ∙ sym (extend-same x ρ (f z) (ap f e ∙ fy))
        | inr o ↦ elim s [
          | inl e ↦ absurd (o e)
          | inr t ↦ extend-other y κ z o ∙ (ap suc (agree z t) ∙ sym (extend-other x ρ (f z) (λ e. o (injf z y (e ∙ sym fy)))))
        ]
      ] in (
        y,
        b.1,
        b.2,
        b.3,
        fy,
        answers (extend y κ) (extend x ρ) f (extend-injective x ρ inj) injf (λ z. (z ≡ y) ⊎ S z) under inner b.1 b.4 here.0
            (λ u v i. pairs u v (inr (In-left (u, v) (bound_pairs inner b.1) (bound_pairs rest b.2) i))),
        answers κ ρ f inj injf S agree rest b.2 b.5 here.1 (λ u v i. pairs u v (inr (In-right (u, v) (bound_pairs inner b.1) (bound_pairs rest b.2) i))),
      )

  -- functions that agree on the names that are written answer alike
  pub answers-agree : (f h : ℕ → ℕ) (args : PatternArgs) (n : NodeArgs) → ((z : ℕ) → In z (written_names n) → f z ≡ h z) → Answers g σ f args n → Answers g σ h args n
  answers-agree f h no_argument n e a = a
  answers-agree f h (own_name x rest) n e a =
      let k : (z : ℕ) → In z (written_names (a_name a.0 a.1)) → f z ≡ h z = λ z i. e z (subst (λ m. In z (written_names m)) (sym a.2) i) in
      (a.0, a.1, a.2, sym (k a.0 (inl refl)) ∙ a.3, answers-agree f h rest a.1 (λ z i. k z (inr i)) a.4)
  answers-agree f h (child_pattern p rest) n e a =
      let k : (z : ℕ) → In z (written_names (an_id a.0 a.1)) → f z ≡ h z = λ z i. e z (subst (λ m. In z (written_names m)) (sym a.2) i) in
      (a.0, a.1, a.2, a.3 ∙ ap Some (renamed-agrees f h a.0 (λ z i. k z (In-left z (values a.0.1) (written_names a.1) i))), answers-agree f h rest a.1 (λ z i. k z (In-right z (values a.0.1) (written_names a.1) i)) a.4)
  answers-agree f h (binding x inner rest) n e a =
      let k : (z : ℕ) → In z (written_names (a_binder a.0 a.1 a.2)) → f z ≡ h z = λ z i. e z (subst (λ m. In z (written_names m)) (sym a.3) i) in (
        a.0,
        a.1,
        a.2,
        a.3,
        sym (k a.0 (inl refl)) ∙ a.4,
        answers-agree f h inner a.1 (λ z i. k z (inr (In-left z (written_names a.1) (written_names a.2) i))) a.5,
        answers-agree f h rest a.2 (λ z i. k z (inr (In-right z (written_names a.1) (written_names a.2) i))) a.6,
      )

-- pairs after a walk
pub record Walk (f : ℕ → ℕ) (args : PatternArgs) (n : NodeArgs) (pairs : List (ℕ × ℕ)) : Type 0 where
  pub after : List (ℕ × ℕ)
  pub went : walked args n pairs ≡ Some after
  pub says : Agrees f after
  pub from : (s t : ℕ) → Contains after (s, t) → Contains pairs (s, t) ⊎ In s (written_names n)

record Pairing (f : ℕ → ℕ) (pairs : List (ℕ × ℕ)) (y x : ℕ) : Type 0 where
  after : List (ℕ × ℕ)
  went : paired pairs y x ≡ Some after
  says : Agrees f after
  from : (s t : ℕ) → Contains after (s, t) → Contains pairs (s, t) ⊎ (s ≡ y)

pairing : (f : ℕ → ℕ) → IsInjective f → (pairs : List (ℕ × ℕ)) → Agrees f pairs → (y x : ℕ) → f y ≡ x → Pairing f pairs y x
pairing f inj pairs says y x e = go (value_of pairs y) refl
  where
    go : (o : Option ℕ) → value_of pairs y ≡ o → Pairing f pairs y x
    go (Some u) v =
        let same : u ≡ x = sym (says y u (Contains-value_of pairs y u v)) ∙ e in
        record { after = pairs; went = ap (λ o. paired_with o pairs y x) v ∙ ap (λ b. cond b (Some pairs) None) (eq-eqb u x same); says = says; from = λ s t c. inl c }
    go None v = elim (cases_Bool (has_slot (values pairs) x)) [
      | inl h ↦
          let r : (s : ℕ) × Contains pairs (s, x) = Contains-of_value pairs x (Contains-In (values pairs) x (has_slot-in (values pairs) x h)) in
          let same : r.0 ≡ y = inj r.0 y (says r.0 x r.1 ∙ sym e) in
          let k : (u : ℕ) × (value_of pairs y ≡ Some u) = value_of-found pairs y x (subst (λ s. Contains pairs (s, x)) same r.1) in
          absurd (None-Some k.0 (sym v ∙ k.1))
      | inr h ↦ record {
        after = (y, x) ∷ pairs;
        went = ap (λ o. paired_with o pairs y x) v ∙ ap (λ b. cond b None (Some ((y, x) ∷ pairs))) h;
        says = λ s t c. elim (contains_cases (y, x) pairs (s, t) c) [
          | inl p ↦ ap (λ (q : ℕ × ℕ). f q.0) p ∙ (e ∙ sym (ap (λ (q : ℕ × ℕ). q.1) p))
          | inr k ↦ says s t k
        ];
        from = λ s t c. elim (contains_cases (y, x) pairs (s, t) c) [
          | inl p ↦ inr (ap (λ (q : ℕ × ℕ). q.0) p)
          | inr k ↦ inl k
        ];
      }
    ]

-- where f says what stands for what, a walk goes to its end
pub walks : (g : State) (σ : List ℕ → Applied) (f : ℕ → ℕ) → IsInjective f → (args : PatternArgs) (n : NodeArgs) (pairs : List (ℕ × ℕ)) → Agrees f pairs → Answers g σ f args n → Walk f args n pairs
walks g σ f inj no_argument n pairs says a =
    subst (λ m. Walk f no_argument m pairs) (sym a) (record { after = pairs; went = refl; says = says; from = λ s t c. inl c })
walks g σ f inj (own_name x rest) n pairs says a =
    let p : Pairing f pairs a.0 x = pairing f inj pairs says a.0 x a.3 in
    let w : Walk f rest a.1 p.after = walks g σ f inj rest a.1 p.after p.says a.4 in
    subst (λ m. Walk f (own_name x rest) m pairs) (sym a.2) (record {
      after = w.after;
      went = ap (option_and_then (walked rest a.1)) p.went ∙ w.went;
      says = w.says;
      from = λ s t c. elim (w.from s t c) [
        | inl k ↦ elim (p.from s t k) [
          | inl l ↦ inl l
          | inr e ↦ inr (inl e)
        ]
        | inr k ↦ inr (inr k)
      ];
    })
walks g σ f inj (child_pattern p rest) n pairs says a =
    let w : Walk f rest a.1 pairs = walks g σ f inj rest a.1 pairs says a.4 in
    subst (λ m. Walk f (child_pattern p rest) m pairs) (sym a.2) (record {
      after = w.after;
      went = w.went;
      says = w.says;
      from = λ s t c. elim (w.from s t c) [
        | inl k ↦ inl k
        | inr k ↦ inr (In-right s (values a.0.1) (written_names a.1) k)
      ];
    })
walks g σ f inj (binding x inner rest) n pairs says a =
    let p : Pairing f pairs a.0 x = pairing f inj pairs says a.0 x a.4 in
    let i : Walk f inner a.1 p.after = walks g σ f inj inner a.1 p.after p.says a.5 in
    let w : Walk f rest a.2 i.after = walks g σ f inj rest a.2 i.after i.says a.6 in
    subst (λ m. Walk f (binding x inner rest) m pairs) (sym a.3) (record {
      after = w.after;
      went = ap (λ o. option_and_then (walked rest a.2) (option_and_then (walked inner a.1) o)) p.went ∙ (ap (option_and_then (walked rest a.2)) i.went ∙ w.went);
      says = w.says;
      from = λ s t c. elim (w.from s t c) [
        | inr k ↦ inr (inr (In-right s (written_names a.1) (written_names a.2) k))
        | inl k ↦ elim (i.from s t k) [
          | inr l ↦ inr (inr (In-left s (written_names a.1) (written_names a.2) l))
          | inl l ↦ elim (p.from s t l) [
            | inl o ↦ inl o
            | inr e ↦ inr (inl e)
          ]
        ]
      ];
    })

-- Names held beside each other: what a walk keeps, and what it says of the names.
use Rattle.std.proofs.Common.{◌≡◌, ℕ, List, [], ◌∷◌, Option, Some, None, sym, ◌∙◌, ap, refl, subst, inl, inr}
use Rattle.std.specs.Prelude.{Contains, option_and_then, cond}
use Rattle.std.proofs.lemmas.Bool.{cases_eq, cases_Bool, eq-eqb, ne_eqb}
use Rattle.slotted_lists.proofs.Contained.{contains_head, contains_tail}
use Rattle.slotted_lists.proofs.Members.{In, In-append}
use Rattle.slotted_lists.proofs.Options.{Some-same}
use Rattle.slotted_theory.specs.FiniteMaps.{value_of}
use Rattle.slotted_model.specs.Applied.{Applied, values}
use Rattle.slotted_model.specs.Correspondence.{has_slot}
use Rattle.slotted_model.proofs.Correspondences.Pairs.{Contains-value_of}
use Rattle.slotted_model.proofs.Data.Options.{None-Some, and_then-some}
use Rattle.slotted_model_rules.specs.Patterns.{PatternArgs, no_argument, own_name, child_pattern, binding}
use Rattle.slotted_model_rules.specs.Matcher.{NodeArgs, no_more, a_name, an_id, a_binder, paired_with, paired, walked, Gives}

-- a member of what is given is given for some member
pub member-given : {A B : Type 0} (P : A → List B → Type 0) (xs : List A) (outs : List B) → Gives P xs outs → (y : B) → In y outs → (x : A) × In x xs × (here : List B) × P x here × In y here
member-given P [] outs g y h = absurd (subst (In y) g h)
member-given P (x ∷ xs) outs g y h = elim (In-append y g.0 g.1 (subst (In y) g.2 h)) [
  | inl k ↦ (x, inl refl, g.0, g.3, k)
  | inr k ↦ let r = member-given P xs g.1 g.4 y k in (r.0, inr r.1, r.2, r.3, r.4)
]

-- f gives to each name of the node, and to each binder, the name that stands in its place in the pattern
abbrev pub Aligned : (ℕ → ℕ) → PatternArgs → NodeArgs → Type 0
Aligned f no_argument n = n ≡ no_more
Aligned f (own_name x rest) n = (y : ℕ) × (m : NodeArgs) × (n ≡ a_name y m) × (f y ≡ x) × Aligned f rest m
Aligned f (child_pattern p rest) n = (c : Applied) × (m : NodeArgs) × (n ≡ an_id c m) × Aligned f rest m
Aligned f (binding x inner rest) n = (y : ℕ) × (m : NodeArgs) × (k : NodeArgs) × (n ≡ a_binder y m k) × (f y ≡ x) × Aligned f inner m × Aligned f rest k

-- f says what the pairs say
abbrev pub Agrees : (ℕ → ℕ) → List (ℕ × ℕ) → Type 0
Agrees f pairs = (s t : ℕ) → Contains pairs (s, t) → f s ≡ t

-- the later pairs have the earlier ones
abbrev pub Keeps : List (ℕ × ℕ) → List (ℕ × ℕ) → Type 0
Keeps pairs later = (s t : ℕ) → Contains pairs (s, t) → Contains later (s, t)

-- the pair is there afterwards, and all that was
pub paired-keeps : (pairs : List (ℕ × ℕ)) (s t : ℕ) (q : List (ℕ × ℕ)) → paired pairs s t ≡ Some q → Contains q (s, t) × Keeps pairs q
paired-keeps pairs s t q e = go (value_of pairs s) refl e
  where
    go : (o : Option ℕ) → value_of pairs s ≡ o → paired_with o pairs s t ≡ Some q → Contains q (s, t) × Keeps pairs q
    go (Some u) v p = elim (cases_eq u t) [
      | inl same ↦
          let k : pairs ≡ q = Some-same pairs q (ap (λ b. cond b (Some pairs) None) (sym (eq-eqb u t same)) ∙ p) in
          (subst (λ m. Contains m (s, t)) k (subst (λ z. Contains pairs (s, z)) same (Contains-value_of pairs s u v)), λ x y c. subst (λ m. Contains m (x, y)) k c)
      | inr n ↦ absurd (None-Some q (ap (λ b. cond b (Some pairs) None) (sym (ne_eqb u t n)) ∙ p))
    ]
    go None v p = elim (cases_Bool (has_slot (values pairs) t)) [
      | inl h ↦ absurd (None-Some q (ap (λ b. cond b None (Some ((s, t) ∷ pairs))) (sym h) ∙ p))
      | inr h ↦
          let k : (s, t) ∷ pairs ≡ q = Some-same ((s, t) ∷ pairs) q (ap (λ b. cond b None (Some ((s, t) ∷ pairs))) (sym h) ∙ p) in
          (subst (λ m. Contains m (s, t)) k (contains_head (s, t) pairs), λ x y c. subst (λ m. Contains m (x, y)) k (contains_tail (s, t) pairs (x, y) c))
    ]

-- what a walk leaves
pub walked-aligned : (args : PatternArgs) (n : NodeArgs) (pairs q : List (ℕ × ℕ)) → walked args n pairs ≡ Some q → Keeps pairs q × ((f : ℕ → ℕ) → Agrees f q → Aligned f args n)
walked-aligned no_argument no_more pairs q e = (λ s t c. subst (λ m. Contains m (s, t)) (Some-same pairs q e) c, λ f h. refl)
walked-aligned (own_name x rest) (a_name y n) pairs q e =
    let r : (m : List (ℕ × ℕ)) × (paired pairs y x ≡ Some m) × (walked rest n m ≡ Some q) = and_then-some (walked rest n) (paired pairs y x) q e in
    let k : Contains r.0 (y, x) × Keeps pairs r.0 = paired-keeps pairs y x r.0 r.1 in
    let w : Keeps r.0 q × ((f : ℕ → ℕ) → Agrees f q → Aligned f rest n) = walked-aligned rest n r.0 q r.2 in
    (λ s t c. w.0 s t (k.1 s t c), λ f h. (y, n, refl, h y x (w.0 y x k.0), w.1 f h))
walked-aligned (child_pattern p rest) (an_id a n) pairs q e =
    let w : Keeps pairs q × ((f : ℕ → ℕ) → Agrees f q → Aligned f rest n) = walked-aligned rest n pairs q e in
    (w.0, λ f h. (a, n, refl, w.1 f h))
walked-aligned (binding x inner rest) (a_binder y m n) pairs q e =
    let r : (u : List (ℕ × ℕ)) × (option_and_then (walked inner m) (paired pairs y x) ≡ Some u) × (walked rest n u ≡ Some q) =
    and_then-some (walked rest n) (option_and_then (walked inner m) (paired pairs y x)) q e in
    let o : (u : List (ℕ × ℕ)) × (paired pairs y x ≡ Some u) × (walked inner m u ≡ Some r.0) = and_then-some (walked inner m) (paired pairs y x) r.0 r.1 in
    let k : Contains o.0 (y, x) × Keeps pairs o.0 = paired-keeps pairs y x o.0 o.1 in
    let i : Keeps o.0 r.0 × ((f : ℕ → ℕ) → Agrees f r.0 → Aligned f inner m) = walked-aligned inner m o.0 r.0 o.2 in
    let w : Keeps r.0 q × ((f : ℕ → ℕ) → Agrees f q → Aligned f rest n) = walked-aligned rest n r.0 q r.2 in (
      λ s t c. w.0 s t (i.0 s t (k.1 s t c)),
      λ f h. (y, m, n, refl, h y x (w.0 y x (i.0 y x k.0)), i.1 f (λ s t c. h s t (w.0 s t c)), w.1 f h),
    )
walked-aligned _ _ pairs q e = absurd (None-Some q e)

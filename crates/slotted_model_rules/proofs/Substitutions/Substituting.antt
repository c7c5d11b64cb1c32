-- Substitution on terms without bound names: what changes, how it moves, which names are left, and what it keeps.
use Rattle.std.proofs.Common.{◌≡◌, ◌≢◌, ◌⊎◌, ℕ, suc, List, sym, ◌∙◌, ap, refl, subst, inl, inr}
use Rattle.std.specs.Prelude.{cond, Contains}
use Rattle.std.proofs.lemmas.Bool.{cases_Bool, false≢true}
use Rattle.std.proofs.Math.Nat.{suc_inj}
use Rattle.slotted_lists.proofs.Members.{In, In-left, In-right, In-append, In-map, In-of_map, In-Contains, Contains-In}
use Rattle.slotted_theory.specs.Nameless.{DArgs, DTerm, stop, place, sub, scope, lift, moved, moved_args}
use Rattle.slotted_theory.specs.Renaming.{IsInjective}
use Rattle.slotted_theory.specs.Derives.{Equal, moving, within, joined, EqualArgs, equal_done, equal_name, equal_child, equal_bind}
use Rattle.slotted_theory.specs.Shape.{outside, free_names}
use Rattle.slotted_theory.proofs.Names.{lift-injective}
use Rattle.slotted_theory.proofs.ByBijection.{moved-injective}
use Rattle.slotted_theory.proofs.Equals.{Equal-from_path}
use Rattle.slotted_theory.proofs.Values.{node, child_before}
use Rattle.slotted_model.specs.Ids.{term_eq}
use Rattle.slotted_model.specs.Trees.{HasNoIds, IsTree}
use Rattle.slotted_model.proofs.Represented.Ids.{term_eq-true, term_eq-same}
use Rattle.slotted_model.proofs.Data.Members.{In-outside, In-inside}
use Rattle.slotted_model.proofs.Data.Theory.{moved-moved, free_names-moved}
use Rattle.slotted_model.proofs.Represented.Trees.{IsTree-moved}
use Rattle.slotted_model_rules.specs.Substitution.{seen_inside, put, substituted_args, substituted, StandsInArgs, StandsIn}

-- two terms are the same or not
pub same_or_not : (d x : DTerm) → (d ≡ x) ⊎ (d ≢ x)
same_or_not d x = elim (cases_Bool (term_eq d x)) [
  | inl p ↦ inl (term_eq-true d x p)
  | inr p ↦ inr (λ e. false≢true (sym p ∙ term_eq-same d x e))
]

pub put-same : (x t d e : DTerm) → d ≡ x → put x t d e ≡ t
put-same x t d e p = ap (λ b. cond b t e) (term_eq-same d x p)

pub put-other : (x t d e : DTerm) → d ≢ x → put x t d e ≡ e
put-other x t d e n = elim (cases_Bool (term_eq d x)) [
  | inl p ↦ absurd (n (term_eq-true d x p))
  | inr p ↦ ap (λ b. cond b t e) p
]

nothing-args : (x t : DTerm) (d : DArgs) → ¬ StandsInArgs x d → substituted_args x t d ≡ d
nothing-args x t stop h = refl
nothing-args x t (place y rest) h = ap (place y) (nothing-args x t rest h)
nothing-args x t (sub op payloads args rest) h =
    let e : put x t (node op payloads args) (node op payloads (substituted_args x t args)) ≡ node op payloads args =
    put-other x t (node op payloads args) (node op payloads (substituted_args x t args)) (λ p. h (inl (inl p))) ∙ ap (node op payloads) (nothing-args x t args (λ k. h (inl (inr k)))) in
    λ i. child_before (e i) (nothing-args x t rest (λ k. h (inr k)) i)
nothing-args x t (scope inner rest) h =
    λ i. scope (nothing-args (seen_inside x) (seen_inside t) inner (λ k. h (inl k)) i) (nothing-args x t rest (λ k. h (inr k)) i)

-- where x stands nowhere nothing changes
pub nothing-substituted : (x t b : DTerm) → ¬ StandsIn x b → substituted x t b ≡ b
nothing-substituted x t b h =
    put-other x t b (node b.op b.payloads (substituted_args x t b.args)) (λ p. h (inl p)) ∙ ap (node b.op b.payloads) (nothing-args x t b.args (λ k. h (inr k)))

put-itself : (x d e : DTerm) → e ≡ d → put x x d e ≡ d
put-itself x d e p = elim (same_or_not d x) [
  | inl q ↦ put-same x x d e q ∙ sym q
  | inr n ↦ put-other x x d e n ∙ p
]

itself-args : (x : DTerm) (d : DArgs) → substituted_args x x d ≡ d
itself-args x stop = refl
itself-args x (place y rest) = ap (place y) (itself-args x rest)
itself-args x (sub op payloads args rest) =
    let e : put x x (node op payloads args) (node op payloads (substituted_args x x args)) ≡ node op payloads args =
    put-itself x (node op payloads args) (node op payloads (substituted_args x x args)) (ap (node op payloads) (itself-args x args)) in
    λ i. child_before (e i) (itself-args x rest i)
itself-args x (scope inner rest) = λ i. scope (itself-args (seen_inside x) inner i) (itself-args x rest i)

-- with itself in its place nothing changes
pub itself-substituted : (x b : DTerm) → substituted x x b ≡ b
itself-substituted x b = put-itself x b (node b.op b.payloads (substituted_args x x b.args)) (ap (node b.op b.payloads) (itself-args x b.args))

-- what is seen from inside moves by the lifted function
pub seen_inside-moved : (f : ℕ → ℕ) (d : DTerm) → moved (lift f) (seen_inside d) ≡ seen_inside (moved f d)
seen_inside-moved f d = moved-moved (lift f) suc d ∙ sym (moved-moved suc f d)

put-moved : (f : ℕ → ℕ) → IsInjective f → (x t d e : DTerm) → moved f (put x t d e) ≡ put (moved f x) (moved f t) (moved f d) (moved f e)
put-moved f inj x t d e = elim (same_or_not d x) [
  | inl q ↦ ap (moved f) (put-same x t d e q) ∙ sym (put-same (moved f x) (moved f t) (moved f d) (moved f e) (ap (moved f) q))
  | inr n ↦ ap (moved f) (put-other x t d e n) ∙ sym (put-other (moved f x) (moved f t) (moved f d) (moved f e) (λ p. n (moved-injective f inj d x p)))
]

moved-substituted_args : (f : ℕ → ℕ) → IsInjective f → (x t : DTerm) (d : DArgs) → moved_args f (substituted_args x t d) ≡ substituted_args (moved f x) (moved f t) (moved_args f d)
moved-substituted_args f inj x t stop = refl
moved-substituted_args f inj x t (place y rest) = ap (place (f y)) (moved-substituted_args f inj x t rest)
moved-substituted_args f inj x t (sub op payloads args rest) =
    let d : DTerm = node op payloads args in
    let e : moved f (put x t d (node op payloads (substituted_args x t args))) ≡ put (moved f x) (moved f t) (moved f d) (node op payloads (substituted_args (moved f x) (moved f t) (moved_args f args))) =
    put-moved f inj x t d (node op payloads (substituted_args x t args)) ∙ ap (λ z. put (moved f x) (moved f t) (moved f d) (node op payloads z)) (moved-substituted_args f inj x t args) in
    λ i. child_before (e i) (moved-substituted_args f inj x t rest i)
moved-substituted_args f inj x t (scope inner rest) =
    let e : moved_args (lift f) (substituted_args (seen_inside x) (seen_inside t) inner) ≡ substituted_args (seen_inside (moved f x)) (seen_inside (moved f t)) (moved_args (lift f) inner) =
    moved-substituted_args (lift f) (lift-injective f inj) (seen_inside x) (seen_inside t) inner ∙ (λ i. substituted_args (seen_inside-moved f x i) (seen_inside-moved f t i) (moved_args (lift f) inner)) in
    λ i. scope (e i) (moved-substituted_args f inj x t rest i)

-- it moves with names
pub moved-substituted : (f : ℕ → ℕ) → IsInjective f → (x t b : DTerm) → moved f (substituted x t b) ≡ substituted (moved f x) (moved f t) (moved f b)
moved-substituted f inj x t b =
    put-moved f inj x t b (node b.op b.payloads (substituted_args x t b.args))
    ∙ ap (λ z. put (moved f x) (moved f t) (moved f b) (node b.op b.payloads z)) (moved-substituted_args f inj x t b.args)

either-map : {A B C D : Type 0} → (A → C) → (B → D) → A ⊎ B → C ⊎ D
either-map f g (inl a) = inl (f a)
either-map f g (inr b) = inr (g b)

put-names : (x t d e : DTerm) (y : ℕ) → (In y (free_names e.args) → In y (free_names d.args) ⊎ In y (free_names t.args)) → In y (free_names (put x t d e).args) → In y (free_names d.args) ⊎ In y (free_names t.args)
put-names x t d e y k h = elim (same_or_not d x) [
  | inl q ↦ inr (subst (λ (z : DTerm). In y (free_names z.args)) (put-same x t d e q) h)
  | inr n ↦ k (subst (λ (z : DTerm). In y (free_names z.args)) (put-other x t d e n) h)
]

-- a name that is free from inside is free, and the other way round
name-inside : (t : DTerm) (y : ℕ) → In (suc y) (free_names (seen_inside t).args) → In y (free_names t.args)
name-inside t y h =
    let r : (z : ℕ) × In z (free_names t.args) × (suc y ≡ suc z) = In-of_map suc (free_names t.args) (suc y) (subst (In (suc y)) (free_names-moved suc t.args) h) in
    subst (λ z. In z (free_names t.args)) (sym (suc_inj r.2)) r.1

name-seen : (t : DTerm) (y : ℕ) → In y (free_names t.args) → In (suc y) (free_names (seen_inside t).args)
name-seen t y h = subst (In (suc y)) (sym (free_names-moved suc t.args)) (In-map suc (free_names t.args) y h)

names-args : (x t : DTerm) (d : DArgs) (y : ℕ) → In y (free_names (substituted_args x t d)) → In y (free_names d) ⊎ In y (free_names t.args)
names-args x t stop y h = inl h
names-args x t (place z rest) y (inl e) = inl (inl e)
names-args x t (place z rest) y (inr h) = either-map inr (λ k. k) (names-args x t rest y h)
names-args x t (sub op payloads args rest) y h =
    let e : DTerm = node op payloads (substituted_args x t args) in
    elim (In-append y (free_names (put x t (node op payloads args) e).args) (free_names (substituted_args x t rest)) h) [
      | inl k ↦ either-map (In-left y (free_names args) (free_names rest)) (λ l. l) (put-names x t (node op payloads args) e y (names-args x t args y) k)
      | inr k ↦ either-map (In-right y (free_names args) (free_names rest)) (λ l. l) (names-args x t rest y k)
    ]
names-args x t (scope inner rest) y h =
    let here : List ℕ = free_names (substituted_args (seen_inside x) (seen_inside t) inner) in
    elim (In-append y (outside here) (free_names (substituted_args x t rest)) h) [
      | inl k ↦ either-map (λ l. In-left y (outside (free_names inner)) (free_names rest) (In-outside y (free_names inner) l)) (name-inside t y) (names-args (seen_inside x) (seen_inside t) inner (suc y) (In-inside y here k))
      | inr k ↦ either-map (In-right y (outside (free_names inner)) (free_names rest)) (λ l. l) (names-args x t rest y k)
    ]

-- names come from both
pub names-substituted : (x t b : DTerm) (y : ℕ) → Contains (free_names (substituted x t b).args) y → Contains (free_names b.args) y ⊎ Contains (free_names t.args) y
names-substituted x t b y c =
    either-map (Contains-In (free_names b.args) y) (Contains-In (free_names t.args) y)
    (put-names x t b (node b.op b.payloads (substituted_args x t b.args)) y (names-args x t b.args y) (In-Contains (free_names (substituted x t b).args) y c))

-- each name that is put in stays
kept-put : (x t d e : DTerm) (y : ℕ) → (d ≡ x) ⊎ In y (free_names e.args) → In y (free_names t.args) → In y (free_names (put x t d e).args)
kept-put x t d e y h c = elim (same_or_not d x) [
  | inl q ↦ subst (λ (z : DTerm). In y (free_names z.args)) (sym (put-same x t d e q)) c
  | inr n ↦ elim h [
    | inl q ↦ absurd (n q)
    | inr k ↦ subst (λ (z : DTerm). In y (free_names z.args)) (sym (put-other x t d e n)) k
  ]
]

kept-args : (x t : DTerm) (d : DArgs) (y : ℕ) → StandsInArgs x d → In y (free_names t.args) → In y (free_names (substituted_args x t d))
kept-args x t stop y h c = absurd h
kept-args x t (place z rest) y h c = inr (kept-args x t rest y h c)
kept-args x t (sub op payloads args rest) y (inl h) c =
    In-left y (free_names (put x t (node op payloads args) (node op payloads (substituted_args x t args))).args) (free_names (substituted_args x t rest))
    (kept-put x t (node op payloads args) (node op payloads (substituted_args x t args)) y (either-map (λ e. e) (λ k. kept-args x t args y k c) h) c)
kept-args x t (sub op payloads args rest) y (inr h) c =
    In-right y (free_names (put x t (node op payloads args) (node op payloads (substituted_args x t args))).args) (free_names (substituted_args x t rest)) (kept-args x t rest y h c)
kept-args x t (scope inner rest) y (inl h) c =
    let here : List ℕ = free_names (substituted_args (seen_inside x) (seen_inside t) inner) in
    In-left y (outside here) (free_names (substituted_args x t rest)) (In-outside y here (kept-args (seen_inside x) (seen_inside t) inner (suc y) h (name-seen t y c)))
kept-args x t (scope inner rest) y (inr h) c =
    In-right y (outside (free_names (substituted_args (seen_inside x) (seen_inside t) inner))) (free_names (substituted_args x t rest)) (kept-args x t rest y h c)

pub kept-substituted : (x t b : DTerm) → StandsIn x b → (y : ℕ) → Contains (free_names t.args) y → Contains (free_names (substituted x t b).args) y
kept-substituted x t b h y c =
    let k : In y (free_names t.args) = In-Contains (free_names t.args) y c in
    Contains-In (free_names (substituted x t b).args) y
    (kept-put x t b (node b.op b.payloads (substituted_args x t b.args)) y (either-map (λ e. e) (λ l. kept-args x t b.args y l k) h) k)

put-equal : {E : List (DTerm × DTerm)} (x t d e : DTerm) → Equal E x t → Equal E d e → Equal E d (put x t d e)
put-equal x t d e h k = elim (same_or_not d x) [
  | inl q ↦ joined (Equal-from_path q) (joined h (Equal-from_path (sym (put-same x t d e q))))
  | inr n ↦ joined k (Equal-from_path (sym (put-other x t d e n)))
]

args-equal : {E : List (DTerm × DTerm)} (x t : DTerm) → Equal E x t → (d : DArgs) → EqualArgs E d (substituted_args x t d)
args-equal x t h stop = equal_done
args-equal x t h (place y rest) = equal_name (args-equal x t h rest)
args-equal x t h (sub op payloads args rest) =
    equal_child {d = node op payloads args} {e = put x t (node op payloads args) (node op payloads (substituted_args x t args))}
    (put-equal x t (node op payloads args) (node op payloads (substituted_args x t args)) h (within (args-equal x t h args)))
    (args-equal x t h rest)
args-equal x t h (scope inner rest) = equal_bind (args-equal (seen_inside x) (seen_inside t) (moving suc (λ y z e. suc_inj e) h) inner) (args-equal x t h rest)

-- equal in place of equal makes what is equal
pub substituted-equal : (E : List (DTerm × DTerm)) (x t b : DTerm) → Equal E x t → Equal E b (substituted x t b)
substituted-equal E x t b h = put-equal x t b (node b.op b.payloads (substituted_args x t b.args)) h (within (args-equal x t h b.args))

put-tree : (x t d e : DTerm) → IsTree t → IsTree e → IsTree (put x t d e)
put-tree x t d e h k = elim (same_or_not d x) [
  | inl q ↦ subst IsTree (sym (put-same x t d e q)) h
  | inr n ↦ subst IsTree (sym (put-other x t d e n)) k
]

trees-args : (x t : DTerm) → IsTree t → (d : DArgs) → HasNoIds d → HasNoIds (substituted_args x t d)
trees-args x t h stop k = tt
trees-args x t h (place y rest) k = trees-args x t h rest k
trees-args x t h (sub op payloads args rest) k =
    let r : IsTree (put x t (node op payloads args) (node op payloads (substituted_args x t args))) =
    put-tree x t (node op payloads args) (node op payloads (substituted_args x t args)) h (record { operator = k.0; children = trees-args x t h args k.1 }) in
    (r.operator, r.children, trees-args x t h rest k.2)
trees-args x t h (scope inner rest) k = (trees-args (seen_inside x) (seen_inside t) (IsTree-moved suc t h) inner k.0, trees-args x t h rest k.1)

pub trees-substituted : (x t b : DTerm) → IsTree t → IsTree b → IsTree (substituted x t b)
trees-substituted x t b h k =
    put-tree x t b (node b.op b.payloads (substituted_args x t b.args)) h (record { operator = k.operator; children = trees-args x t h b.args k.children })

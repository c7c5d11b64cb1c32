-- Replacing on terms with names, as it is written: it is substitution where the binders have other names.
use Rattle.std.proofs.Common.{◌≡◌, ◌≢◌, ℕ, suc, ◌≤◌, sym, ◌∙◌, ap, refl, subst, inl, inr, arith}
use Rattle.std.specs.Prelude.{cond, Contains, max}
use Rattle.std.proofs.lemmas.Bool.{cases_Bool}
use Rattle.slotted_lists.proofs.Contained.{above, Contains-below}
use Rattle.slotted_theory.specs.Term.{Args, Term, done, name, child, bind}
use Rattle.slotted_theory.specs.Nameless.{place, scope, extend, nameless_args, nameless_by, nameless, moved, Alpha}
use Rattle.slotted_theory.specs.Renaming.{IsInjective}
use Rattle.slotted_theory.specs.Shape.{free_names, IsFreeIn}
use Rattle.slotted_theory.proofs.ByBijection.{moved-injective}
use Rattle.slotted_theory.proofs.FreeNames.{moved-agrees}
use Rattle.slotted_theory.proofs.Laws.{moved-nameless, moved-moved}
use Rattle.slotted_theory.proofs.Names.{extend-other, extend-injective}
use Rattle.slotted_theory.proofs.NamesBack.{BindersFrom, a_named_term_from}
use Rattle.slotted_theory.proofs.Values.{node, child_before}
use Rattle.slotted_model.specs.Ids.{term_eq}
use Rattle.slotted_model.proofs.Represented.Ids.{term_eq-true, term_eq-same}
use Rattle.slotted_model_rules.specs.Substitution.{seen_inside, put, substituted_args, substituted, named_node, put_named, replaced_args, replaced, HasOthersBoundArgs, HasOthersBound}
use Rattle.slotted_model_rules.proofs.Substitutions.Substituting.{same_or_not, put-same, put-other}

put_named-same : (x t d e : Term) → nameless d ≡ nameless x → put_named x t d e ≡ t
put_named-same x t d e p = ap (λ b. cond b t e) (term_eq-same (nameless d) (nameless x) p)

put_named-other : (x t d e : Term) → nameless d ≢ nameless x → put_named x t d e ≡ e
put_named-other x t d e n = elim (cases_Bool (term_eq (nameless d) (nameless x))) [
  | inl p ↦ absurd (n (term_eq-true (nameless d) (nameless x) p))
  | inr p ↦ ap (λ b. cond b t e) p
]

nameless-put : (ρ : ℕ → ℕ) → IsInjective ρ → (x t d e : Term) → nameless_by ρ (put_named x t d e) ≡ put (nameless_by ρ x) (nameless_by ρ t) (nameless_by ρ d) (nameless_by ρ e)
nameless-put ρ inj x t d e = elim (same_or_not (nameless d) (nameless x)) [
  | inl q ↦
      let p : nameless_by ρ d ≡ nameless_by ρ x = sym (moved-nameless ρ d) ∙ (ap (moved ρ) q ∙ moved-nameless ρ x) in
      ap (nameless_by ρ) (put_named-same x t d e q) ∙ sym (put-same (nameless_by ρ x) (nameless_by ρ t) (nameless_by ρ d) (nameless_by ρ e) p)
  | inr n ↦
      let m : nameless_by ρ d ≢ nameless_by ρ x = λ p. n (moved-injective ρ inj (nameless d) (nameless x) (moved-nameless ρ d ∙ (p ∙ sym (moved-nameless ρ x)))) in
      ap (nameless_by ρ) (put_named-other x t d e n) ∙ sym (put-other (nameless_by ρ x) (nameless_by ρ t) (nameless_by ρ d) (nameless_by ρ e) m)
]

-- under a binder of another name
nameless-inside : (ρ : ℕ → ℕ) (y : ℕ) (x : Term) → ¬ IsFreeIn y x.args → nameless_by (extend y ρ) x ≡ seen_inside (nameless_by ρ x)
nameless-inside ρ y x n =
    sym (moved-nameless (extend y ρ) x)
    ∙ (moved-agrees (extend y ρ) (λ z. suc (ρ z)) (nameless x) (λ z c. extend-other y ρ z (λ e. n (subst (Contains (free_names (nameless x).args)) e c)))
    ∙ (sym (moved-moved suc ρ (nameless x)) ∙ ap seen_inside (moved-nameless ρ x)))

replaced-args : (ρ : ℕ → ℕ) → IsInjective ρ → (x t : Term) (a : Args) → HasOthersBoundArgs x t a →
    nameless_args ρ (replaced_args x t a) ≡ substituted_args (nameless_by ρ x) (nameless_by ρ t) (nameless_args ρ a)
replaced-args ρ inj x t done h = refl
replaced-args ρ inj x t (name y rest) h = ap (place (ρ y)) (replaced-args ρ inj x t rest h)
replaced-args ρ inj x t (child op payloads args rest) h =
    let d : Term = named_node op payloads args in
    let e : nameless_by ρ (put_named x t d (named_node op payloads (replaced_args x t args)))
    ≡ put (nameless_by ρ x) (nameless_by ρ t) (nameless_by ρ d) (node op payloads (substituted_args (nameless_by ρ x) (nameless_by ρ t) (nameless_args ρ args))) =
    nameless-put ρ inj x t d (named_node op payloads (replaced_args x t args))
    ∙ ap (λ z. put (nameless_by ρ x) (nameless_by ρ t) (nameless_by ρ d) (node op payloads z)) (replaced-args ρ inj x t args h.0) in
    λ i. child_before (e i) (replaced-args ρ inj x t rest h.1 i)
replaced-args ρ inj x t (bind y inner rest) h =
    let e : nameless_args (extend y ρ) (replaced_args x t inner) ≡ substituted_args (seen_inside (nameless_by ρ x)) (seen_inside (nameless_by ρ t)) (nameless_args (extend y ρ) inner) =
    replaced-args (extend y ρ) (extend-injective y ρ inj) x t inner h.2
    ∙ (λ i. substituted_args (nameless-inside ρ y x h.0 i) (nameless-inside ρ y t h.1 i) (nameless_args (extend y ρ) inner)) in
    λ i. scope (e i) (replaced-args ρ inj x t rest h.3 i)

-- replacing as it is written is substitution
pub replaced-substituted : (x t b : Term) → HasOthersBound x t b → nameless (replaced x t b) ≡ substituted (nameless x) (nameless t) (nameless b)
replaced-substituted x t b h =
    nameless-put (λ y. y) (λ y z e. e) x t b (named_node b.op b.payloads (replaced_args x t b.args))
    ∙ ap (λ z. put (nameless x) (nameless t) (nameless b) (node b.op b.payloads z)) (replaced-args (λ y. y) (λ y z e. e) x t b.args h)

-- binders from a number on that is above all free names of x and of t
others-bound : (x t : Term) (k : ℕ) → above (free_names (nameless x).args) ≤ k → above (free_names (nameless t).args) ≤ k → (a : Args) → BindersFrom k a → HasOthersBoundArgs x t a
others-bound x t k l m done h = tt
others-bound x t k l m (name y rest) h = others-bound x t k l m rest h
others-bound x t k l m (child op payloads args rest) h = (others-bound x t k l m args h.0, others-bound x t k l m rest h.1)
others-bound x t k l m (bind y inner rest) h =
    let far : k ≤ y = h.0 in (
      λ c. let b = Contains-below (free_names (nameless x).args) y c in omega arith,
      λ c. let b = Contains-below (free_names (nameless t).args) y c in omega arith,
      others-bound x t k l m inner h.1,
      others-bound x t k l m rest h.2,
    )

pub with_others_bound : (x t b : Term) → (c : Term) × Alpha b c × HasOthersBound x t c
with_others_bound x t b =
    let k : ℕ = max (above (free_names (nameless x).args)) (above (free_names (nameless t).args)) in
    let r : (c : Term) × (nameless c ≡ nameless b) × BindersFrom k c.args = a_named_term_from k (nameless b) in
    (r.0, sym r.1, others-bound x t k (omega arith) (omega arith) r.0.args r.2)

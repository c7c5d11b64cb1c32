-- What is derivable is equal without bound names.
use Rattle.std.proofs.Common.{ℕ, List, sym, ◌∙◌, ap, refl}
use Rattle.std.specs.Prelude.{map}
use Rattle.slotted_lists.proofs.Contained.{Contains-map}
use Rattle.slotted_theory.specs.Term.{Args, Term}
use Rattle.slotted_theory.specs.Nameless.{nameless_args, nameless_by, nameless, extend, moved}
use Rattle.slotted_theory.specs.Renaming.{IsInjective}
use Rattle.slotted_theory.specs.Derives.{Derives, asserted, alpha, symmetric, transitive, congruent, renaming, DerivesArgs, both_done, same_name, both_child, same_bind, Equal, listed, reflexive, turned, joined, within, moving, EqualArgs, equal_done, equal_name, equal_child, equal_bind, nameless_pair}
use Rattle.slotted_theory.proofs.Names.{extend-injective}
use Rattle.slotted_theory.proofs.Laws.{moved-nameless, nameless_by-renamed}
use Rattle.slotted_theory.proofs.Equals.{Equal-along}
use Rattle.slotted_theory.proofs.Bijections.{to-injective}

-- under any numbering of the free names
mutual
  forward : {E : List (Term × Term)} {t u : Term} → Derives E t u → (ρ : ℕ → ℕ) → IsInjective ρ → Equal (map nameless_pair E) (nameless_by ρ t) (nameless_by ρ u)
  forward {E} {t} {u} (asserted c) ρ inj = Equal-along (moved-nameless ρ t) (moved-nameless ρ u) (moving ρ inj (listed (Contains-map nameless_pair E (t, u) c)))
  forward {E} {t} {u} (alpha e) ρ inj = Equal-along refl (sym (moved-nameless ρ t) ∙ (ap (moved ρ) e ∙ moved-nameless ρ u)) reflexive
  forward (symmetric d) ρ inj = turned (forward d ρ inj)
  forward (transitive d e) ρ inj = joined (forward d ρ inj) (forward e ρ inj)
  forward (congruent a) ρ inj = within (forward_args a ρ inj)
  forward (renaming {t = t} {u = u} π d) ρ inj =
      Equal-along (sym (nameless_by-renamed ρ π.to (to-injective π) t)) (sym (nameless_by-renamed ρ π.to (to-injective π) u)) (forward d (λ x. ρ (π.to x)) (λ x y p. to-injective π x y (inj (π.to x) (π.to y) p)))

  forward_args : {E : List (Term × Term)} {a b : Args} → DerivesArgs E a b → (ρ : ℕ → ℕ) → IsInjective ρ → EqualArgs (map nameless_pair E) (nameless_args ρ a) (nameless_args ρ b)
  forward_args both_done ρ inj = equal_done
  forward_args (same_name a) ρ inj = equal_name (forward_args a ρ inj)
  forward_args (both_child d a) ρ inj = equal_child (forward d ρ inj) (forward_args a ρ inj)
  forward_args (same_bind {x = x} a r) ρ inj = equal_bind (forward_args a (extend x ρ) (extend-injective x ρ inj)) (forward_args r ρ inj)

-- derivable terms are equal without bound names
pub Derives-equal : {E : List (Term × Term)} {t u : Term} → Derives E t u → Equal (map nameless_pair E) (nameless t) (nameless u)
Derives-equal d = forward d (λ x. x) (λ x y p. p)

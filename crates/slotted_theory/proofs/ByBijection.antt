-- What an injective function does on two terms, some bijection does.
use Rattle.std.proofs.Common.{◌≡◌, ℕ, sym, ◌∙◌, ap, arith}
use Rattle.std.specs.Prelude.{max}
use Rattle.std.proofs.Math.Path.{fun_ext}
use Rattle.slotted_theory.specs.Nameless.{DTerm, moved}
use Rattle.slotted_theory.specs.Renaming.{Bijection, IsInjective}
use Rattle.slotted_theory.proofs.Laws.{moved-moved, moved-id}
use Rattle.slotted_theory.proofs.FreeNames.{bound, moved-agrees_below}
use Rattle.slotted_theory.proofs.Bijections.{bijection_below, Agrees}

-- a bijection that moves both terms as f does
pub record MovesAs (f : ℕ → ℕ) (d e : DTerm) : Type 0 where
  pub bijection : Bijection
  pub left : moved bijection.to d ≡ moved f d
  pub right : moved bijection.to e ≡ moved f e

pub moves_as : (f : ℕ → ℕ) → IsInjective f → (d e : DTerm) → MovesAs f d e
moves_as f inj d e =
    let r : Agrees f (max (bound d.args) (bound e.args)) = bijection_below f inj (max (bound d.args) (bound e.args)) in
    record {
      bijection = r.bijection;
      left = moved-agrees_below r.bijection.to f d (λ x h. r.agrees x (omega arith));
      right = moved-agrees_below r.bijection.to f e (λ x h. r.agrees x (omega arith));
    }

pub moved-back : (π : Bijection) (d : DTerm) → moved π.back (moved π.to d) ≡ d
moved-back π d = moved-moved π.back π.to d ∙ (ap (λ f. moved f d) (fun_ext π.back_to) ∙ moved-id d)

pub moved-injective : (f : ℕ → ℕ) → IsInjective f → (d e : DTerm) → moved f d ≡ moved f e → d ≡ e
moved-injective f inj d e p =
    let r : MovesAs f d e = moves_as f inj d e in
    sym (moved-back r.bijection d) ∙ (ap (moved r.bijection.back) (r.left ∙ (p ∙ sym r.right)) ∙ moved-back r.bijection e)

-- Affected classes: a test that covers them says yes to each of them.
use Rattle.std.proofs.Common.{ℕ, subst}
use Rattle.std.specs.Prelude.{Bool, IsTrue}
use Rattle.slotted_model.specs.State.{State}
use Rattle.slotted_model.specs.Rest.{HasNoOpenSymmetry, IsAffected, by_symmetry, by_child, CoversAffected}

module _ (g : State) (marked : ℕ → Bool) (covers : CoversAffected g marked) where
  pub affected-marked : {c : ℕ} → IsAffected g c → IsTrue (marked c)
  affected-marked (by_symmetry y h o) = covers.symmetries y h o
  affected-marked (by_child {c = c} r h k e) = covers.parents r c h k (affected-marked e)

  pub unmarked-closed : (c : ℕ) → ¬ IsTrue (marked c) → HasNoOpenSymmetry g c
  unmarked-closed c n y h e o = n (subst (λ d. IsTrue (marked d)) e (covers.symmetries y h o))

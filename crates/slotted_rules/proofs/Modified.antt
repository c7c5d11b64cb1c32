-- Rounds of edits after rules: they extend the graph, and where classes are never modified the rules are alone.
use Rattle.std.proofs.Common.{◌≡◌, true, false, Result, Ok, Err, IfOk, refl, sym, subst}
use Rattle.std.specs.Prelude.{Bool}
use Rattle.std.specs.Coded.{Coded}
use Rattle.slotted_data.specs.Meaning.{Meaning, no_data, unit_code}
use Rattle.slotted_slots.specs.declared.error.Error.{Error}
use Rattle.slotted_operations.specs.Graph.{Graph}
use Rattle.slotted_graph.specs.Asked.{Asks}
use Rattle.slotted_graph.specs.Extension.{ExtendsTo}
use Rattle.slotted_graph.specs.Writing.{IfUnmodified}
use Rattle.slotted_rules.specs.Applying.{AreModified, NeverModified, ThenModifies}

module _ {L N D : Type 0} (codes : Coded N × Coded D) (meaning : N → Meaning D) (ask : Asks L N D) (modifies : Bool) (g h : Graph) (modified : AreModified codes meaning ask modifies g h) where
  pub modified-extends : ExtendsTo g h
  modified-extends = modified.1.leaves.extends

  pub modified-never : modifies ≡ false → h ≡ g
  modified-never never = (modified.1.still never).0

pub then-alone : (rules after : Graph → Graph → Type 0) → ((g h : Graph) → after g h → h ≡ g) → (g h : Graph) → ThenModifies rules after g h → rules g h
then-alone rules after still g h led = subst (rules g) (sym (still led.applied h led.by_edits)) led.by_rules

pub then-never : {L N D : Type 0} (codes : Coded N × Coded D) (meaning : N → Meaning D) (ask : Asks L N D) (modifies : Bool) → modifies ≡ false → (rules : Graph → Graph → Type 0) (g h : Graph) →
    ThenModifies rules (AreModified codes meaning ask modifies) g h → rules g h
then-never codes meaning ask modifies never rules g h led = then-alone rules (AreModified codes meaning ask modifies) (λ a b m. modified-never codes meaning ask modifies a b m never) g h led

-- the same as clauses say it
pub led-unmodified : {L N D : Type 0} (codes : Coded N × Coded D) (meaning : N → Meaning D) (ask : Asks L N D) (modifies : Bool) (rules : Graph → Graph → Type 0) (g h : Graph) →
    ThenModifies rules (AreModified codes meaning ask modifies) g h → IfUnmodified modifies (rules g h)
led-unmodified codes meaning ask true rules g h led = tt
led-unmodified codes meaning ask false rules g h led = then-never codes meaning ask false refl rules g h led

pub ok-unmodified : {L N D A : Type 0} (codes : Coded N × Coded D) (meaning : N → Meaning D) (ask : Asks L N D) (modifies : Bool) (rules : A → Graph → Graph → Type 0) (g h : Graph) (r : Result A Error) →
    IfOk r (λ x. ThenModifies (rules x) (AreModified codes meaning ask modifies) g h) → IfUnmodified modifies (IfOk r (λ x. rules x g h))
ok-unmodified codes meaning ask true rules g h r led = tt
ok-unmodified codes meaning ask false rules g h (Ok x) led = then-never codes meaning ask false refl (rules x) g h led
ok-unmodified codes meaning ask false rules g h (Err e) led = tt

-- the analysis that keeps nothing leaves the graph as it is
pub never-changed : (L : Type 0) (g h : Graph) → NeverModified L g h → h ≡ g
never-changed L g h m = modified-never (unit_code, unit_code) (λ _. no_data) (λ _ _ _ _. ⊥) false g h m refl

-- What a rule adds is equal, by what is asserted then, to what it matched.
use Rattle.std.proofs.Common.{◌≡◌, ℕ, suc, ◌<◌, List, ◌∷◌, Some, Bool, true, length, sym, ◌∙◌, ap, subst}
use Rattle.std.specs.Prelude.{Contains, map}
use Rattle.slotted_theory.specs.Nameless.{DArgs, DTerm, extend}
use Rattle.slotted_theory.specs.Derives.{Equal, joined}
use Rattle.slotted_theory.proofs.Equals.{Equal-through}
use Rattle.slotted_model.specs.Ascending.{names}
use Rattle.slotted_model.specs.Applied.{Applied}
use Rattle.slotted_model.specs.Classes.{term_of, IsFull}
use Rattle.slotted_model.specs.Filling.{IsFilling}
use Rattle.slotted_model.specs.Growth.{Extends}
use Rattle.slotted_model.specs.ProofList.{Equation, equation_at, left_side, right_side, asserted, IsOver}
use Rattle.slotted_model.specs.State.{State}
use Rattle.slotted_model.specs.Rest.{IsValidIn, AtRest}
use Rattle.slotted_model.proofs.Complete.AtRest.{asserted-entry}
use Rattle.slotted_model.proofs.Finds.FindProofs.{left_side-full, right_side-full, sides-equation, proved-holds}
use Rattle.slotted_model_rules.specs.Patterns.{Pattern, PatternArgs, pattern_node, variable, replacing, no_argument, own_name, child_pattern, binding, EachVariable, EachVariableIn, look_up_pattern}
use Rattle.slotted_model_rules.specs.Instances.{IsInstance, IsInstanceArgs}
use Rattle.slotted_model_rules.specs.Conditions.{Values, holds}
use Rattle.slotted_model_rules.specs.Rules.{IsExtension, IsBetween, Rule, valued, IsApplied, Applies}
use Rattle.slotted_model_rules.proofs.Patterns.EqualInstances.{filled-instance_equal}
use Rattle.slotted_model_rules.proofs.Rules.Applying.{applies-extend, held-applied}

-- what is derivable stays so
pub extension-equal : (g h : State) → AtRest g → AtRest h → IsExtension g h → {d e : DTerm} → Equal (asserted g.nodes g.proofs) d e → Equal (asserted h.nodes h.proofs) d e
extension-equal g h rest after x p = Equal-through each p
  where
    each : (d e : DTerm) → Contains (asserted g.nodes g.proofs) (d, e) → Equal (asserted h.nodes h.proofs) d e
    each d e c =
        let r = asserted-entry g.nodes g.proofs d e c in
        let q : Equation = equation_at g.proofs r.0 in
        let over : IsOver g.nodes q = rest.sane.sound.proved.over r.0 r.1 in
        let s = x.goes_on.proofs r.0 r.1 in
        let fl : IsFull g.nodes (left_side g.nodes q) = left_side-full g.nodes q over in
        let fr : IsFull g.nodes (right_side g.nodes q) = right_side-full g.nodes q over in
        let k : Equal (asserted h.nodes h.proofs) (term_of h.nodes (left_side g.nodes q)) (term_of h.nodes (right_side g.nodes q)) =
        proved-holds h.nodes after.sane.sound.canonical h.proofs after.sane.sound.proved r.0 s.0 (left_side g.nodes q) (right_side g.nodes q)
        (x.terms.full (left_side g.nodes q) fl) (x.terms.full (right_side g.nodes q) fr) (sides-equation g.nodes q over ∙ sym s.1) in
        let l : term_of h.nodes (left_side g.nodes q) ≡ d = x.terms.terms (left_side g.nodes q) fl ∙ ap (λ (z : DTerm × DTerm). z.0) r.3 in
        let m : term_of h.nodes (right_side g.nodes q) ≡ e = x.terms.terms (right_side g.nodes q) fr ∙ ap (λ (z : DTerm × DTerm). z.1) r.3 in
        subst (λ z. Equal (asserted h.nodes h.proofs) z e) l (subst (Equal (asserted h.nodes h.proofs) (term_of h.nodes (left_side g.nodes q))) m k)

-- an instance over ids that were there was one before
module _ (R : DTerm → DTerm → Bool) (older newer : List DTerm) (extends : Extends older newer) (σ : List ℕ → Applied) where
  full-before : (a : Applied) → a.0 < length older → IsFull newer a → IsFull older a
  full-before a l full = record { in_range = l; slots = full.slots ∙ ap names (extends.classes a.0 l).1; injective = full.injective }

  mutual
    instance-before : (given : List ℕ) (ρ : ℕ → ℕ) (p : Pattern) (t : DTerm) → EachVariable (λ v. (σ v).0 < length older) p → IsInstance R newer given σ ρ p t → IsInstance R older given σ ρ p t
    instance-before given ρ (pattern_node op payloads args) t known i = (i.0, i.1, arguments-before given ρ args i.0 known i.2)
    instance-before given ρ (variable v) t known i =
        let full : IsFull older i.0 = full-before i.0 (subst (λ c. c < length older) (sym i.1.class) known) i.1.full in
        (i.0, record { class = i.1.class; full = full; keeps = i.1.keeps; fresh = i.1.fresh }, i.2 ∙ extends.terms i.0 full)
    instance-before given ρ (replacing body part value) t known i = (
      i.0,
      i.1,
      i.2,
      i.3,
      instance-before given ρ body i.0 known.0 i.4,
      i.5,
      instance-before given ρ part i.2 known.1 i.6,
      instance-before given ρ value i.3 known.2 i.7,
      i.8,
    )

    arguments-before : (given : List ℕ) (ρ : ℕ → ℕ) (args : PatternArgs) (a : DArgs) → EachVariableIn (λ v. (σ v).0 < length older) args → IsInstanceArgs R newer given σ ρ args a → IsInstanceArgs R older given σ ρ args a
    arguments-before given ρ no_argument a known i = i
    arguments-before given ρ (own_name x rest) a known i = (i.0, i.1, arguments-before given ρ rest i.0 known i.2)
    arguments-before given ρ (child_pattern p rest) a known i = (i.0, i.1, i.2, instance-before given ρ p i.0 known.0 i.3, arguments-before given ρ rest i.1 known.1 i.4)
    arguments-before given ρ (binding x inner rest) a known i =
        (i.0, i.1, i.2, arguments-before (0 ∷ map suc given) (extend x ρ) inner i.0 known.0 i.3, arguments-before given ρ rest i.1 known.1 i.4)

-- P holds of each variable if Q does
mutual
  pub each-variable : (P Q : List ℕ → Type 0) → ((v : List ℕ) → Q v → P v) → (p : Pattern) → EachVariable Q p → EachVariable P p
  each-variable P Q h (pattern_node op payloads args) k = each-in P Q h args k
  each-variable P Q h (variable v) k = h v k
  each-variable P Q h (replacing body part value) k = (each-variable P Q h body k.0, each-variable P Q h part k.1, each-variable P Q h value k.2)

  each-in : (P Q : List ℕ → Type 0) → ((v : List ℕ) → Q v → P v) → (args : PatternArgs) → EachVariableIn Q args → EachVariableIn P args
  each-in P Q h no_argument k = tt
  each-in P Q h (own_name x rest) k = each-in P Q h rest k
  each-in P Q h (child_pattern p rest) k = (each-variable P Q h p k.0, each-in P Q h rest k.1)
  each-in P Q h (binding x inner rest) k = (each-in P Q h inner k.0, each-in P Q h rest k.1)

module _ (A : State → Applied → Applied → Type 0) (R : DTerm → DTerm → Bool) (given more_given : List ℕ) (rule : Rule) where
  pub rewrites-equal : {found : List Values} {g h : State} → AtRest g → Applies A R given rule found g h → (s : Values) → Contains found s → ((m : State) → IsBetween g h m → holds rule.condition s m ≡ Some true) →
      EachVariable (λ v. IsValidIn g (valued s v)) rule.left → (x b : Applied) → look_up_pattern g (λ y. y) (valued s) rule.left ≡ Some x → IsFilling g.nodes more_given x b →
      (t : DTerm) × IsInstance R h.nodes given (valued s) (λ y. y) rule.right t × Equal (asserted h.nodes h.proofs) (term_of g.nodes b) t
  rewrites-equal {found} {g} {h} rest step s c held valid x b e fills =
      let k = applies-extend A R given rule rest step in
      let a : IsApplied R given rule h s = held-applied A R given rule rest step s c held in
      let i : IsInstance R g.nodes given (valued s) (λ y. y) rule.left (term_of h.nodes a.instances.left) =
      instance-before R g.nodes h.nodes k.1.terms (valued s) given (λ y. y) rule.left (term_of h.nodes a.instances.left)
      (each-variable (λ v. (valued s v).0 < length g.nodes) (λ v. IsValidIn g (valued s v)) (λ v w. w.in_range) rule.left valid) a.instances.left_instance in
      let l : Equal (asserted h.nodes h.proofs) (term_of g.nodes b) (term_of h.nodes a.instances.left) =
      extension-equal g h rest k.0 k.1 (filled-instance_equal g rest R (valued s) given more_given (λ y. y) (λ u v p. p) rule.left valid x b e fills (term_of h.nodes a.instances.left) i) in
      let r : Equal (asserted h.nodes h.proofs) (term_of h.nodes a.instances.left) (term_of h.nodes a.instances.right) =
      proved-holds h.nodes k.0.sane.sound.canonical h.proofs k.0.sane.sound.proved a.number a.in_range a.instances.left a.instances.right a.instances.left_full a.instances.right_full a.instances.equation in
      (term_of h.nodes a.instances.right, a.instances.right_instance, joined l r)

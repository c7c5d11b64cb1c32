-- Instances of a pattern that is looked up are equal by what was asserted to the term of the id.
use Rattle.std.proofs.Common.{◌≡◌, ℕ, suc, List, ◌∷◌, Some, sym, ◌∙◌, ap, refl, subst}
use Rattle.std.specs.Prelude.{map, Bool}
use Rattle.slotted_lists.proofs.Options.{Some-same}
use Rattle.slotted_theory.specs.Nameless.{DArgs, DTerm, stop, place, scope, extend}
use Rattle.slotted_theory.specs.Renaming.{IsInjective}
use Rattle.slotted_theory.specs.Derives.{Equal, joined, within, EqualArgs, equal_done, equal_name, equal_child, equal_bind}
use Rattle.slotted_theory.proofs.Equals.{Equal-from_path}
use Rattle.slotted_theory.proofs.Names.{extend-injective}
use Rattle.slotted_theory.proofs.Values.{node, child_before, expand_args, expand}
use Rattle.slotted_model.specs.Applied.{Applied, renamed_id, as_term, EachChild}
use Rattle.slotted_model.specs.Classes.{stands, terms, term_of}
use Rattle.slotted_model.specs.Filling.{IsFilling}
use Rattle.slotted_model.specs.Find.{used_slots, find, Linked}
use Rattle.slotted_model.specs.ProofList.{asserted}
use Rattle.slotted_model.specs.State.{State, look_up_node}
use Rattle.slotted_model.specs.Rest.{IsValidIn, AtRest}
use Rattle.slotted_model.proofs.Represented.Children.{expand-as_term}
use Rattle.slotted_model.proofs.Complete.LookUpsAreEqual.{valid-equal, node-equal}
use Rattle.slotted_model.proofs.Finds.NormalIds.{found-valid, found-again, filling-found, full-is_valid}
use Rattle.slotted_model.proofs.Data.Options.{None-Some, option_map-some, both-some, and_then-some}
use Rattle.slotted_model.proofs.Represented.RenamedIds.{valid-renamed}
use Rattle.slotted_model_rules.specs.Instances.{IsInstance, IsInstanceArgs}
use Rattle.slotted_model_rules.specs.Patterns.{Pattern, PatternArgs, pattern_node, variable, replacing, no_argument, own_name, child_pattern, binding, EachVariable, EachVariableIn, look_up_pattern, look_up_arguments}

module _ (g : State) (rest : AtRest g) (R : DTerm → DTerm → Bool) (σ : List ℕ → Applied) where
  abbrev linked : Linked g.nodes g.found
  linked = rest.sane.sound.linked

  abbrev E : List (DTerm × DTerm)
  E = asserted g.nodes g.proofs

  mutual
    pub instance-equal : (given : List ℕ) (ρ : ℕ → ℕ) → IsInjective ρ → (p : Pattern) → EachVariable (λ v. IsValidIn g (σ v)) p → (x : Applied) → look_up_pattern g ρ σ p ≡ Some x → (t : DTerm) → IsInstance R g.nodes given σ ρ p t →
        IsValidIn g x × Equal E (term_of g.nodes x) t
    instance-equal given ρ inj (pattern_node op payloads args) valid x e t i =
        let q : (d : DArgs) × (look_up_arguments g ρ σ args ≡ Some d) × (look_up_node g (node op payloads d) ≡ Some x) =
        and_then-some (λ d. look_up_node g (node op payloads d)) (look_up_arguments g ρ σ args) x e in
        let inside : EachChild (IsValidIn g) q.0 × EqualArgs E (expand_args (stands (terms g.nodes)) q.0) i.0 = arguments-equal given ρ inj args valid q.0 q.1 i.0 i.2 in
        let here = node-equal g rest (node op payloads q.0) inside.0 x q.2 in
        (here.0, joined here.1 (joined (within inside.1) (Equal-from_path (sym i.1))))
    instance-equal given ρ inj (variable v) valid x e t i =
        let b : Applied = renamed_id ρ (σ v) in
        let vb : IsValidIn g b = valid-renamed (used_slots g.found) g.nodes ρ inj (σ v) valid in
        let found : find g.found b ≡ x = Some-same (find g.found b) x e in
        let vx : IsValidIn g x = subst (IsValidIn g) found (found-valid g.nodes g.found linked b vb) in
        let alike : find g.found x ≡ find g.found i.0 =
        ap (find g.found) (sym found) ∙ (found-again g.nodes g.found linked b vb ∙ filling-found g.nodes g.found linked given b i.0 vb i.1) in
        (vx, joined (valid-equal g rest x i.0 vx (full-is_valid g.nodes g.found linked i.0 i.1.full) alike) (Equal-from_path (sym i.2)))
    instance-equal given ρ inj (replacing body part value) valid x e t i = absurd (None-Some x e)

    arguments-equal : (given : List ℕ) (ρ : ℕ → ℕ) → IsInjective ρ → (args : PatternArgs) → EachVariableIn (λ v. IsValidIn g (σ v)) args → (d : DArgs) → look_up_arguments g ρ σ args ≡ Some d → (a : DArgs) →
        IsInstanceArgs R g.nodes given σ ρ args a → EachChild (IsValidIn g) d × EqualArgs E (expand_args (stands (terms g.nodes)) d) a
    arguments-equal given ρ inj no_argument valid d e a i =
        subst (λ z. EachChild (IsValidIn g) z × EqualArgs E (expand_args (stands (terms g.nodes)) z) a) (Some-same stop d e) (tt, subst (EqualArgs E stop) (sym i) equal_done)
    arguments-equal given ρ inj (own_name x others) valid d e a i =
        let r : (f : DArgs) × (look_up_arguments g ρ σ others ≡ Some f) × (place (ρ x) f ≡ d) = option_map-some (place (ρ x)) (look_up_arguments g ρ σ others) d e in
        let k : EachChild (IsValidIn g) r.0 × EqualArgs E (expand_args (stands (terms g.nodes)) r.0) i.0 = arguments-equal given ρ inj others valid r.0 r.1 i.0 i.2 in
        subst (λ z. EachChild (IsValidIn g) z × EqualArgs E (expand_args (stands (terms g.nodes)) z) a) r.2
        (k.0, subst (EqualArgs E (place (ρ x) (expand_args (stands (terms g.nodes)) r.0))) (sym i.1) (equal_name k.1))
    arguments-equal given ρ inj (child_pattern p others) valid d e a i =
        let r : (c : Applied) × (f : DArgs) × (look_up_pattern g ρ σ p ≡ Some c) × (look_up_arguments g ρ σ others ≡ Some f) × (child_before (as_term c) f ≡ d) =
        both-some (λ c found. child_before (as_term c) found) (look_up_pattern g ρ σ p) (look_up_arguments g ρ σ others) d e in
        let c : IsValidIn g r.0 × Equal E (term_of g.nodes r.0) i.0 = instance-equal given ρ inj p valid.0 r.0 r.2 i.0 i.3 in
        let k : EachChild (IsValidIn g) r.1 × EqualArgs E (expand_args (stands (terms g.nodes)) r.1) i.1 = arguments-equal given ρ inj others valid.1 r.1 r.3 i.1 i.4 in
        let child : Equal E (expand (stands (terms g.nodes)) (as_term r.0)) i.0 = joined (Equal-from_path (expand-as_term (terms g.nodes) r.0)) c.1 in
        subst (λ z. EachChild (IsValidIn g) z × EqualArgs E (expand_args (stands (terms g.nodes)) z) a) r.4
        (((r.0, refl, c.0), k.0), subst (EqualArgs E (expand_args (stands (terms g.nodes)) (child_before (as_term r.0) r.1))) (sym i.2) (equal_child {d = expand (stands (terms g.nodes)) (as_term r.0)} {e = i.0} child k.1))
    arguments-equal given ρ inj (binding x inner others) valid d e a i =
        let r : (b : DArgs) × (f : DArgs) × (look_up_arguments g (extend x ρ) σ inner ≡ Some b) × (look_up_arguments g ρ σ others ≡ Some f) × (scope b f ≡ d) =
        both-some scope (look_up_arguments g (extend x ρ) σ inner) (look_up_arguments g ρ σ others) d e in
        let m = arguments-equal (0 ∷ map suc given) (extend x ρ) (extend-injective x ρ inj) inner valid.0 r.0 r.2 i.0 i.3 in
        let k = arguments-equal given ρ inj others valid.1 r.1 r.3 i.1 i.4 in
        subst (λ z. EachChild (IsValidIn g) z × EqualArgs E (expand_args (stands (terms g.nodes)) z) a) r.4
        ((m.0, k.0), subst (EqualArgs E (scope (expand_args (stands (terms g.nodes)) r.0) (expand_args (stands (terms g.nodes)) r.1))) (sym i.2) (equal_bind m.1 k.1))

  -- whatever names fill the id
  pub filled-instance_equal : (given more_given : List ℕ) (ρ : ℕ → ℕ) → IsInjective ρ → (p : Pattern) → EachVariable (λ v. IsValidIn g (σ v)) p → (x b : Applied) → look_up_pattern g ρ σ p ≡ Some x → IsFilling g.nodes more_given x b →
      (t : DTerm) → IsInstance R g.nodes given σ ρ p t → Equal E (term_of g.nodes b) t
  filled-instance_equal given more_given ρ inj p valid x b e f t i =
      let r : IsValidIn g x × Equal E (term_of g.nodes x) t = instance-equal given ρ inj p valid x e t i in
      joined (valid-equal g rest b x (full-is_valid g.nodes g.found linked b f.full) r.0 (sym (filling-found g.nodes g.found linked more_given x b r.0 f))) r.1

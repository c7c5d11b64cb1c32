-- An instance by filled values is one by the values.
use Rattle.std.proofs.Common.{◌≡◌, ap, refl, sym, subst, inl, inr, ℕ, suc, List, [], ◌∷◌, ◌++◌, map, arith}
use Rattle.std.specs.Prelude.{◌⊎◌, Bool, true, false, Contains, IsTrue, Some, cond}
use Rattle.std.proofs.lemmas.Bool.{cases_eq}
use Rattle.std.proofs.lemmas.List.Elements.{All-contains, Contains-append_right}
use Rattle.std.proofs.Math.Nat.{suc_inj}
use Rattle.slotted_lists.proofs.Contained.{contains_cases, contains_head, Contains-map, Contains-of_map}
use Rattle.slotted_lists.proofs.Maps.{keys-with_values}
use Rattle.slotted_slots.specs.Maps.{values}
use Rattle.slotted_slots.specs.Table.{AllKnown, Table, is_known}
use Rattle.slotted_nodes.specs.Form.{Form}
use Rattle.slotted_languages.specs.Shape.{Fits}
use Rattle.slotted_patterns.specs.Known.{HasKnownNames}
use Rattle.slotted_patterns.specs.View.{tree_of}
use Rattle.slotted_patterns.specs.declared.pattern.Pattern as written
use Rattle.slotted_theory.specs.Decided.{numbers_eq}
use Rattle.slotted_theory.specs.FiniteMaps.{with_values}
use Rattle.slotted_theory.specs.Nameless.{DArgs, DTerm, extend}
use Rattle.slotted_theory.specs.Renaming.{IsInjective}
use Rattle.slotted_theory.proofs.Names.{extend-injective, extend-other}
use Rattle.slotted_model.specs.Applied.{Applied, renamed_id}
use Rattle.slotted_model.specs.Classes.{term_of}
use Rattle.slotted_model.specs.Filling.{IsFilling}
use Rattle.slotted_model.specs.ProofList.{Equation}
use Rattle.slotted_model.proofs.Represented.Fillings.{filling-iff}
use Rattle.slotted_model.proofs.Represented.Full.{full-renamed}
use Rattle.slotted_model_rules.specs.Conditions.{Values}
use Rattle.slotted_model_rules.specs.Instances.{IsInstance, IsInstanceArgs}
use Rattle.slotted_model_rules.specs.Matcher.{value_at}
use Rattle.slotted_model_rules.specs.Patterns.{Pattern, PatternArgs, pattern_node, variable, replacing, no_argument, own_name, child_pattern, binding}
use Rattle.slotted_model_rules.specs.Rules.{IsEquationOfInstances, Rule, id_or_none, valued}
use Rattle.slotted_rule_patterns.specs.PatternCode.{pattern_in}
use Rattle.slotted_rules.specs.Filled.{FillsBeside, FillsValues}
use Rattle.slotted_rules.specs.Putting.{FillsUnknown}
use Rattle.slotted_rules.proofs.KnownBinders.{HasKnownBinders, HaveKnownBinders, known-binders}

module _ (R : DTerm → DTerm → Bool) (t : Table) (nodes : List DTerm) where
  -- the value of a variable, if it has one, gets its missing names
  abbrev IsFilledBy : Applied → Applied → Type 0
  IsFilledBy a b = (b ≡ a) ⊎ FillsUnknown t nodes a b

  beside-unknown : (older : List ℕ) (a b : Applied) → FillsBeside t nodes older a b → FillsUnknown t nodes a b
  beside-unknown older a b h given known =
      let f = h given known in
      record { class = f.class; full = f.full; keeps = f.keeps; fresh = λ s x c none has. f.fresh s x c none (Contains-append_right older given x has) }

  valued-filled : (older : List ℕ) (s f : Values) → FillsValues t nodes older s f → (v : List ℕ) → IsFilledBy (valued s v) (valued f v)
  valued-filled older [] [] h v = inl refl
  valued-filled older [] (d ∷ f) h v = absurd h
  valued-filled older (e ∷ s) [] h v = absurd h
  valued-filled older (e ∷ s) (d ∷ f) h v =
      subst (λ n. IsFilledBy (valued (e ∷ s) v) (id_or_none (cond (numbers_eq n v) (Some d.1) (value_at f v)))) (sym h.0)
      (either_filled (numbers_eq e.0 v) (beside-unknown older e.1 d.1 h.1) (valued-filled (values d.1.1 ++ older) s f h.2 v))
    where
      either_filled : (b : Bool) → FillsUnknown t nodes e.1 d.1 → IsFilledBy (valued s v) (valued f v) → IsFilledBy (id_or_none (cond b (Some e.1) (value_at s v))) (id_or_none (cond b (Some d.1) (value_at f v)))
      either_filled true here later = inr here
      either_filled false here later = later

  -- where a given name stands for a name outside, the table knows that
  abbrev pub KnownFrom : (ℕ → ℕ) → List ℕ → Type 0
  KnownFrom ρ given = (y : ℕ) → Contains given (ρ y) → IsTrue (is_known t y)

  known-inside : (ρ : ℕ → ℕ) (given : List ℕ) (x : ℕ) → IsTrue (is_known t x) → KnownFrom ρ given → KnownFrom (extend x ρ) (0 ∷ map suc given)
  known-inside ρ given x known from y c = elim (cases_eq y x) [
    | inl e ↦ subst (λ z. IsTrue (is_known t z)) (sym e) known
    | inr other ↦ elim (contains_cases 0 (map suc given) (suc (ρ y)) (subst (Contains (0 ∷ map suc given)) (extend-other x ρ y other) c)) [
      | inl zero_is ↦ absurd (omega (arith, zero_is))
      | inr later ↦
          let r : (z : ℕ) × Contains given z × (suc z ≡ suc (ρ y)) = Contains-of_map suc given (suc (ρ y)) later in
          from y (subst (Contains given) (suc_inj r.2) r.1)
    ]
  ]

  pair-from : (ρ : ℕ → ℕ) (m : List (ℕ × ℕ)) (s x : ℕ) → Contains (with_values ρ m) (s, x) → (y : ℕ) × Contains m (s, y) × (ρ y ≡ x)
  pair-from ρ m s x c =
      let r : (p : ℕ × ℕ) × Contains m p × ((p.0, ρ p.1) ≡ (s, x)) = Contains-of_map (λ (p : ℕ × ℕ). (p.0, ρ p.1)) m (s, x) c in
      (r.0.1, subst (λ k. Contains m (k, r.0.1)) (ap (λ (p : ℕ × ℕ). p.0) r.2) r.1, ap (λ (p : ℕ × ℕ). p.1) r.2)

  -- with its names moved, too, it is a filling by none of the given names
  filling-outside : (ρ : ℕ → ℕ) (given : List ℕ) → IsInjective ρ → KnownFrom ρ given → (a b : Applied) → FillsUnknown t nodes a b → IsFilling nodes given (renamed_id ρ a) (renamed_id ρ b)
  filling-outside ρ given inj from a b h =
      let f = h [] (λ k d l. absurd (omega (arith, l))) in
      record {
        class = f.class;
        full = full-renamed nodes b f.full ρ (λ x y i j. inj x y);
        keeps = λ s x c.
            let r = pair-from ρ a.1 s x c in
            subst (λ z. Contains (with_values ρ b.1) (s, z)) r.2 (Contains-map (λ (p : ℕ × ℕ). (p.0, ρ p.1)) b.1 (s, r.0) (f.keeps s r.0 r.1));
        fresh = λ s x c none has.
            let r = pair-from ρ b.1 s x c in
            let known : IsTrue (is_known t r.0) = from r.0 (subst (Contains given) (sym r.2) has) in
            let only = h (r.0 ∷ []) (only-known r.0 known) in
            only.fresh s r.0 r.1 (λ k. none (subst (λ ks. Contains ks s) (sym (keys-with_values ρ a.1)) k)) (contains_head r.0 []);
      }
    where
      only-known : (y : ℕ) → IsTrue (is_known t y) → AllKnown t (y ∷ [])
      only-known y known ℕ.zero d l = known
      only-known y known (suc k) d l = absurd (omega (arith, l))

  module _ (s f : Values) (fills : FillsValues t nodes [] s f) where
    mutual
      pub filled-instance : (ρ : ℕ → ℕ) (given : List ℕ) → IsInjective ρ → KnownFrom ρ given → (p : Pattern) → HasKnownBinders t p → (d : DTerm) → IsInstance R nodes given (valued f) ρ p d → IsInstance R nodes given (valued s) ρ p d
      filled-instance ρ given inj from (pattern_node op payloads args) known d i = (i.0, i.1, filled-arguments ρ given inj from args known i.0 i.2)
      filled-instance ρ given inj from (variable v) known d i = elim (valued-filled [] s f fills v) [
        | inl same ↦ subst (λ a. IsInstance R nodes given (λ w. a) ρ (variable v) d) same i
        | inr filled ↦
            let moved = filling-outside ρ given inj from (valued s v) (valued f v) filled in
            let same : i.0 ≡ renamed_id ρ (valued f v) = (filling-iff nodes given (renamed_id ρ (valued f v)) i.0 moved.full).0 i.1 in
            (i.0, subst (IsFilling nodes given (renamed_id ρ (valued s v))) (sym same) moved, i.2)
      ]
      filled-instance ρ given inj from (replacing body part value) known d i = (
        i.0,
        i.1,
        i.2,
        i.3,
        filled-instance ρ given inj from body known.0 i.0 i.4,
        i.5,
        filled-instance ρ given inj from part known.1 i.2 i.6,
        filled-instance ρ given inj from value known.2 i.3 i.7,
        i.8,
      )

      filled-arguments : (ρ : ℕ → ℕ) (given : List ℕ) → IsInjective ρ → KnownFrom ρ given → (args : PatternArgs) → HaveKnownBinders t args → (a : DArgs) → IsInstanceArgs R nodes given (valued f) ρ args a → IsInstanceArgs R nodes given (valued s) ρ args a
      filled-arguments ρ given inj from no_argument known a i = i
      filled-arguments ρ given inj from (own_name x rest) known a i = (i.0, i.1, filled-arguments ρ given inj from rest known i.0 i.2)
      filled-arguments ρ given inj from (child_pattern p rest) known a i = (i.0, i.1, i.2, filled-instance ρ given inj from p known.0 i.0 i.3, filled-arguments ρ given inj from rest known.1 i.1 i.4)
      filled-arguments ρ given inj from (binding x inner rest) known a i = (
        i.0,
        i.1,
        i.2,
        filled-arguments (extend x ρ) (0 ∷ map suc given) (extend-injective x ρ inj) (known-inside ρ given x known.0 from) inner known.1 i.0 i.3,
        filled-arguments ρ given inj from rest known.2 i.1 i.4,
      )

  -- so is an equation of instances
  pub filled-equation : {L : Type 0} (form : L → Form) → ((n : L) → Fits (form n)) → (s f : Values) → FillsValues t nodes [] s f → (given : List ℕ) → AllKnown t given → (left right : written.Pattern L) → HasKnownNames t (tree_of form left) → HasKnownNames t (tree_of form right) →
      (rule : Rule) → pattern_in (tree_of form left) ≡ Some rule.left → pattern_in (tree_of form right) ≡ Some rule.right → (e : Equation) → IsEquationOfInstances R given nodes rule f e → IsEquationOfInstances R given nodes rule s e
  filled-equation form fits s f fills given all left right known_left known_right rule is_left is_right e i =
      let from : KnownFrom (λ y. y) given = λ y c. All-contains (λ z. IsTrue (is_known t z)) given y all c in
      let inj : IsInjective (λ y. y) = λ x y same. same in
      record {
        left = i.left;
        right = i.right;
        left_full = i.left_full;
        right_full = i.right_full;
        equation = i.equation;
        left_instance = filled-instance s f fills (λ y. y) given inj from rule.left (known-binders t form fits left rule.left is_left known_left) (term_of nodes i.left) i.left_instance;
        right_instance = filled-instance s f fills (λ y. y) given inj from rule.right (known-binders t form fits right rule.right is_right known_right) (term_of nodes i.right) i.right_instance;
      }

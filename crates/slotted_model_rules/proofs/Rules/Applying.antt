-- What an apply of a rule leaves.
use Rattle.std.proofs.Common.{◌≡◌, ℕ, List, ◌∷◌, ◌++◌, Some, Bool, true, false, sym, ◌∙◌, ap, refl, subst, inl, inr}
use Rattle.std.specs.Prelude.{◌⊎◌, Contains}
use Rattle.std.proofs.lemmas.List.Elements.{Contains-append_right}
use Rattle.slotted_lists.proofs.Contained.{contains_head, contains_tail, contains_cases, Contains-nil}
use Rattle.slotted_theory.specs.Nameless.{DTerm}
use Rattle.slotted_model.specs.Applied.{Applied, values}
use Rattle.slotted_model.specs.Classes.{term_of, IsFull}
use Rattle.slotted_model.specs.Filling.{IsFilling}
use Rattle.slotted_model.specs.Find.{find_class, find}
use Rattle.slotted_model.specs.Growth.{Extends}
use Rattle.slotted_model.specs.ProofList.{Equation, equation_of, equation_at}
use Rattle.slotted_model.specs.State.{State}
use Rattle.slotted_model.specs.Rest.{AtRest, HasNoOpenSymmetry}
use Rattle.slotted_model.specs.Adding.{HasAsserted}
use Rattle.slotted_model.proofs.Rebuilding.Asserting.{asserts as pair-asserted}
use Rattle.slotted_model.proofs.Rebuilding.GoingOn.{still-equal}
use Rattle.slotted_model.proofs.Finds.NormalIds.{full-is_valid}
use Rattle.slotted_model.proofs.Rebuilding.UpTo.{upto-class, upto-alike}
use Rattle.slotted_model_rules.specs.Instances.{IsInstance}
use Rattle.slotted_model_rules.specs.Conditions.{Values, holds}
use Rattle.slotted_model_rules.specs.Rules.{IsExtension, IsBetween, Calls, no_call, asserts, IsNewEntry, IsAskedFor, Rule, valued, IsEquationOfInstances, AssertsInstances, Applies, all_done, does_not_hold, does_hold, IsApplied, ComesFromRule, IsAskedByRule, progress}
use Rattle.slotted_model_rules.proofs.Patterns.Instantiating.{answer-instances, instance-stays}
use Rattle.slotted_model_rules.proofs.Rules.Extending.{extension-same, extension-then, asserting-extends}
use Rattle.slotted_model_rules.proofs.Rules.Calling.{calls-extend, calls-enter, calls-then, calls-more, no-progress, between-later}

-- a filling by names that are not among more avoids fewer
pub fewer-given : (nodes : List DTerm) (some given : List ℕ) (a b : Applied) → IsFilling nodes (some ++ given) a b → IsFilling nodes given a b
fewer-given nodes some given a b f = record {
  class = f.class;
  full = f.full;
  keeps = f.keeps;
  fresh = λ s x c n k. f.fresh s x c n (Contains-append_right some given x k);
}

module _ (A : State → Applied → Applied → Type 0) (R : DTerm → DTerm → Bool) (given : List ℕ) (rule : Rule) where
  -- an equation of instances stays one
  instances-stay : (older newer : List DTerm) → Extends older newer → (s : Values) (e : Equation) → IsEquationOfInstances R given older rule s e → IsEquationOfInstances R given newer rule s e
  instances-stay older newer x s e i = record {
    left = i.left;
    right = i.right;
    left_full = x.full i.left i.left_full;
    right_full = x.full i.right i.right_full;
    equation = i.equation;
    left_instance = subst (IsInstance R newer given (valued s) (λ y. y) rule.left) (sym (x.terms i.left i.left_full)) (instance-stays R older newer x (valued s) given (λ y. y) rule.left (term_of older i.left) i.left_instance);
    right_instance = subst (IsInstance R newer given (valued s) (λ y. y) rule.right) (sym (x.terms i.right i.right_full)) (instance-stays R older newer x (valued s) given (λ y. y) rule.right (term_of older i.right) i.right_instance);
  }

  -- what is asserted is of instances
  asserted-instances : (s : Values) (g h : State) (a : AssertsInstances A R given rule s g h) → IsEquationOfInstances R given a.built.nodes rule s (equation_of a.left_filled a.right_filled)
  asserted-instances s g h a = record {
    left = a.left_filled;
    right = a.right_filled;
    left_full = a.left_fills.full;
    right_full = a.right_fills.full;
    equation = refl;
    left_instance = answer-instances R a.built.nodes given (valued s) rule.left a.left a.left_answers a.left_filled (fewer-given a.built.nodes (values a.right.1) given a.left a.left_filled a.left_fills);
    right_instance = answer-instances R a.built.nodes given (valued s) rule.right a.right a.right_answers a.right_filled (fewer-given a.built.nodes (values a.left_filled.1) given a.right a.right_filled a.right_fills);
  }

  asserted-extends : (s : Values) (g h : State) → AtRest g → AssertsInstances A R given rule s g h → AtRest h × IsExtension g h
  asserted-extends s g h rest a =
      let k = calls-extend A rest a.builds in
      let has : HasAsserted a.built a.left_filled a.right_filled h = pair-asserted a.built k.0 a.left_filled a.right_filled a.left_fills.full a.right_fills.full h a.asserts in
      (has.rest, extension-then g a.built h rest.sane k.1 (asserting-extends a.built k.0 a.left_filled a.right_filled a.left_fills.full a.right_fills.full h has a.asserts))

  -- just after it the substitution is applied
  asserted-applied : (s : Values) (g h : State) → AtRest g → AssertsInstances A R given rule s g h → IsApplied R given rule h s
  unfolding instances-stay asserted-instances
  asserted-applied s g h rest a =
      let k = calls-extend A rest a.builds in
      let has : HasAsserted a.built a.left_filled a.right_filled h = pair-asserted a.built k.0 a.left_filled a.right_filled a.left_fills.full a.right_fills.full h a.asserts in
      let e : IsExtension a.built h = asserting-extends a.built k.0 a.left_filled a.right_filled a.left_fills.full a.right_fills.full h has a.asserts in
      let i = instances-stay a.built.nodes h.nodes e.terms s (equation_of a.left_filled a.right_filled) (asserted-instances s g h a) in
      record {
        number = has.stands.0;
        in_range = has.stands.1.0;
        instances = record {
          left = i.left;
          right = i.right;
          left_full = i.left_full;
          right_full = i.right_full;
          equation = sym has.stands.1.1;
          left_instance = i.left_instance;
          right_instance = i.right_instance;
        };
        equal = has.together.equal;
      }

  applied-later : (s : Values) (g h : State) → AtRest g → IsExtension g h → IsApplied R given rule g s → IsApplied R given rule h s
  unfolding instances-stay
  applied-later s g h rest e a =
      let i = instances-stay g.nodes h.nodes e.terms s (equation_at g.proofs a.number) a.instances in
      record {
        number = a.number;
        in_range = (e.goes_on.proofs a.number a.in_range).0;
        instances = record {
          left = i.left;
          right = i.right;
          left_full = i.left_full;
          right_full = i.right_full;
          equation = i.equation ∙ sym (e.goes_on.proofs a.number a.in_range).1;
          left_instance = i.left_instance;
          right_instance = i.right_instance;
        };
        equal = still-equal g h rest.sane.sound e.goes_on a.equal;
      }

  pub applies-extend : {found : List Values} {g h : State} → AtRest g → Applies A R given rule found g h → AtRest h × IsExtension g h
  applies-extend {found} {g} rest all_done = (rest, extension-same g rest.sane)
  applies-extend rest (does_not_hold denied more) = applies-extend rest more
  applies-extend {found} {g} {h} rest (does_hold {s = s} {f = f} granted a more) =
      let k = asserted-extends s g f rest a in
      let l = applies-extend k.0 more in
      (l.0, extension-then g f h rest.sane k.1 l.1)

  pub held-applied : {found : List Values} {g h : State} → AtRest g → Applies A R given rule found g h → (s : Values) → Contains found s →
      ((m : State) → IsBetween g h m → holds rule.condition s m ≡ Some true) → IsApplied R given rule h s
  held-applied rest all_done s c held = absurd (Contains-nil s c)
  held-applied {found} {g} {h} rest (does_not_hold {s = t} {rest = others} denied more) s c held = elim (contains_cases t others s c) [
    | inl e ↦
        let granted : holds rule.condition s g ≡ Some true = held g (record { rest = rest; after = extension-same g rest.sane; before = (applies-extend rest more).1 }) in
        let bad : Some false ≡ Some true = sym denied ∙ (ap (λ (z : Values). holds rule.condition z g) (sym e) ∙ granted) in
        cc
    | inr k ↦ held-applied rest more s k held
  ]
  held-applied {found} {g} {h} rest (does_hold {s = t} {rest = others} {f = f} granted a more) s c held =
      let k = asserted-extends t g f rest a in
      let l = applies-extend k.0 more in
      elim (contains_cases t others s c) [
        | inl e ↦ applied-later s f h k.0 l.1 (subst (IsApplied R given rule f) (sym e) (asserted-applied t g f rest a))
        | inr q ↦ held-applied k.0 more s q (λ m b. held m (between-later A g f h m rest k.1 b))
      ]

  -- what the apply asserts: what a substitution asks for, or what is asked for besides
  abbrev pub Asked : State → List Values → State → Applied → Applied → Type 0
  Asked g found m a b = A m a b ⊎ IsAskedByRule R given rule found g m a b

  -- with more substitutions, and from an earlier graph
  ask-more : (g f : State) → AtRest g → IsExtension g f → (t : Values) (others : List Values) (m : State) (a b : Applied) → Asked f others m a b → Asked g (t ∷ others) m a b
  ask-more g f rest e t others m a b (inl x) = inl x
  ask-more g f rest e t others m a b (inr x) = inr (record {
    substitution = x.substitution;
    is_found = contains_tail t others x.substitution x.is_found;
    moment = x.moment;
    moment_rests = x.moment_rests;
    after = extension-then g f x.moment rest.sane e x.after;
    before = x.before;
    held = x.held;
    instances = x.instances;
  })

  pub applies-calls : {found : List Values} {g h : State} → AtRest g → Applies A R given rule found g h → Calls (Asked g found) g h
  applies-calls rest all_done = no_call
  applies-calls {found} {g} {h} rest (does_not_hold {s = t} {rest = others} denied more) =
      calls-more (Asked g others) (Asked g (t ∷ others)) (ask-more g g rest (extension-same g rest.sane) t others) (applies-calls rest more)
  applies-calls {found} {g} {h} rest (does_hold {s = t} {rest = others} {f = f} granted a more) =
      let k = asserted-extends t g f rest a in
      calls-then (Asked g (t ∷ others)) (calls-more A (Asked g (t ∷ others)) (λ m x y q. inl q) a.builds) (
      asserts a.left_filled a.right_filled a.left_fills.full a.right_fills.full
      (inr (record {
        substitution = t;
        is_found = contains_head t others;
        moment = g;
        moment_rests = rest;
        after = extension-same g rest.sane;
        before = (calls-extend A rest a.builds).1;
        held = granted;
        instances = asserted-instances t g f a;
      }))
      a.asserts (calls-more (Asked f others) (Asked g (t ∷ others)) (ask-more g f rest k.1 t others) (applies-calls k.0 more))
      )

  pub entries-come : {found : List Values} {g h : State} → AtRest g → Applies A R given rule found g h → (p : ℕ) → IsNewEntry g h p →
      ComesFromRule R given rule found g h (equation_at h.proofs p) ⊎ IsAskedFor A g h (equation_at h.proofs p)
  entries-come {found} {g} {h} rest step p new =
      let r : IsAskedFor (Asked g found) g h (equation_at h.proofs p) = calls-enter (Asked g found) rest (applies-calls rest step) p new in
      elim r.asks [
        | inl a ↦ inr (record { moment = r.moment; between = r.between; left = r.left; right = r.right; asks = a; equation = r.equation })
        | inr x ↦ inl (record {
          substitution = x.substitution;
          is_found = x.is_found;
          moment = x.moment;
          between = record { rest = x.moment_rests; after = x.after; before = extension-then x.moment r.moment h x.moment_rests.sane x.before r.between.before };
          held = x.held;
          instances = subst (IsEquationOfInstances R given h.nodes rule x.substitution) r.equation
              (instances-stay r.moment.nodes h.nodes r.between.before.terms x.substitution (equation_of r.left r.right) x.instances);
        })
      ]

  pub saturated : {found : List Values} {g h : State} → AtRest g → Applies A R given rule found g h → progress h ≡ progress g → (s : Values) → Contains found s →
      ((m : State) → IsBetween g h m → holds rule.condition s m ≡ Some true) →
      (e : Equation) × (i : IsEquationOfInstances R given g.nodes rule s e)
      × (find_class g.found i.left.0 ≡ find_class g.found i.right.0)
      × (HasNoOpenSymmetry h (find_class g.found i.left.0) → find g.found i.left ≡ find g.found i.right)
  saturated {found} {g} {h} rest step same s c held =
      let a : IsApplied R given rule h s = held-applied rest step s c held in
      let k = no-progress (Asked g found) g h rest (applies-calls rest step) same in
      let fl : IsFull g.nodes a.instances.left = subst (λ ns. IsFull ns a.instances.left) k.0 a.instances.left_full in
      let fr : IsFull g.nodes a.instances.right = subst (λ ns. IsFull ns a.instances.right) k.0 a.instances.right_full in
      let l : find h.found a.instances.left ≡ find g.found a.instances.left = k.1 a.instances.left (full-is_valid g.nodes g.found rest.sane.sound.linked a.instances.left fl) in
      let r : find h.found a.instances.right ≡ find g.found a.instances.right = k.1 a.instances.right (full-is_valid g.nodes g.found rest.sane.sound.linked a.instances.right fr) in
      let j : IsEquationOfInstances R given g.nodes rule s (equation_at h.proofs a.number) = record {
        left = a.instances.left;
        right = a.instances.right;
        left_full = fl;
        right_full = fr;
        equation = a.instances.equation;
        left_instance = subst (λ (ns : List DTerm). IsInstance R ns given (valued s) (λ y. y) rule.left (term_of ns a.instances.left)) k.0 a.instances.left_instance;
        right_instance = subst (λ (ns : List DTerm). IsInstance R ns given (valued s) (λ y. y) rule.right (term_of ns a.instances.right)) k.0 a.instances.right_instance;
      } in
      let lc : find_class h.found a.instances.left.0 ≡ find_class g.found a.instances.left.0 = ap (λ (x : Applied). x.0) l in
      let rc : find_class h.found a.instances.right.0 ≡ find_class g.found a.instances.right.0 = ap (λ (x : Applied). x.0) r in (
        equation_at h.proofs a.number,
        j,
        sym lc ∙ (upto-class h a.equal ∙ rc),
        λ none. sym l ∙ (upto-alike h a.equal (subst (HasNoOpenSymmetry h) (sym lc) none) ∙ r),
      )

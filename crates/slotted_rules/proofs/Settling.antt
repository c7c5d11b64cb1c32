-- What a written rule leaves for one answer after another.
use Rattle.std.proofs.Common.{◌≡◌, ◌∙◌, ◌<◌, ◌≤◌, ◌+◌, ℕ, List, [], ◌∷◌, ◌++◌, length, take, take_all, ap, sym, subst, inl, inr, arith, refl, length-append}
use Rattle.std.specs.Prelude.{◌⊎◌, IsTrue, Bool, true, false, Contains, Option, Some, None, IfOk, IsSome, OnOk, Result, Ok, Err, slice_index_or}
use Rattle.std.proofs.lemmas.Bool.{cases_eq, cases_lt, false≢true}
use Rattle.std.proofs.lemmas.List.{get_or_append_left, get_or_default, take_more}
use Rattle.std.proofs.lemmas.List.Elements.{Contains-get_or}
use Rattle.slotted_slots.specs.Table.{AllKnown}
use Rattle.slotted_theory.specs.Nameless.{DTerm}
use Rattle.std.specs.Int.{from_bool}
use Rattle.slotted_slots.specs.declared.error.Error.{Error}
use Rattle.slotted_slots.specs.Error.{IsShortage}
use Rattle.slotted_patterns.specs.Tree.{PatternTree}
use Rattle.slotted_model.specs.Growth.{Extends}
use Rattle.slotted_model.specs.ProofList.{Equation, ProofEntry, equation_at, explicit, step_at}
use Rattle.slotted_proofs.specs.Entries.{Proven, nothing_proven}
use Rattle.slotted_model_rules.specs.Conditions.{Values, always}
use Rattle.slotted_model_rules.specs.Rules.{IsEquationOfInstances, Rule, valued}
use Rattle.slotted_model_rules.proofs.Patterns.Instantiating.{instance-stays}
use Rattle.slotted_graph.specs.Graph.{Graph}
use Rattle.slotted_graph.specs.Extension.{Begins, ExtendsTo}
use Rattle.slotted_graph.specs.States.{IsGraph}
use Rattle.slotted_graph.proofs.Extending.{between-longer, extends-itself, extends-then}
use Rattle.slotted_rule_patterns.specs.PatternCode.{pattern_in}
use Rattle.slotted_rules.specs.Filled.{FillsValues}
use Rattle.slotted_rules.specs.Methods.{method_of, represented}
use Rattle.slotted_rules.specs.Refusals.{HavePassed}
use Rattle.slotted_rules.specs.Uniting.{UnitesInstances}
use Rattle.slotted_rules.proofs.FilledValues.{fills-wider}
use Rattle.slotted_rules.proofs.InstanceEquations.{stored-length, united-equation, united-fills, united-pairs, united-representatives}
use Rattle.slotted_rules.proofs.Putting.{representatives-longer}
use Rattle.slotted_rules.specs.Loops.{HasAppliedSome}
use Rattle.slotted_rules.specs.Rewriting.{AppliesEach, AppliesOne, AreFromRule, BreaksOff, ComesFromRule, HasEntryFor, HasEquationFor, IsEquationFor, IsRefusedRewrite, IsSettled, LeavesUnited, RefusesOne, asserts, next_answer, no_answer, passes_over}

-- what is known is known later
known-later : (g h : Graph) → ExtendsTo g h → (given : List ℕ) → AllKnown g.table given → AllKnown h.table given
known-later g h e given known = λ k d l. e.more _ (known k d l)

pub begins-within : {A : Type 0} (xs ys : List A) → Begins xs ys → (n : ℕ) → n < length xs → n < length ys
begins-within xs ys b n l = omega (arith, l, ap length b.1, length-append xs b.0)

pub begins-at : {A : Type 0} (xs ys : List A) (d : A) → Begins xs ys → (n : ℕ) → n < length xs → slice_index_or ys n d ≡ slice_index_or xs n d
begins-at xs ys d b n l = ap (λ zs. slice_index_or zs n d) b.1 ∙ get_or_append_left xs b.0 d n l

equation-begins : (xs ys : List ProofEntry) → Begins xs ys → (n : ℕ) → n < length xs → equation_at ys n ≡ equation_at xs n
equation-begins xs ys b n l = ap (λ (z : ProofEntry). z.equation) (begins-at xs ys _ b n l)

equation-stays : (older newer : List DTerm) → Extends older newer → (R : DTerm → DTerm → Bool) (given : List ℕ) (rule : Rule) (s : Values) (e : Equation) →
    IsEquationOfInstances R given older rule s e → IsEquationOfInstances R given newer rule s e
equation-stays older newer extends R given rule s e i = record {
  left = i.left;
  right = i.right;
  left_full = extends.full i.left i.left_full;
  right_full = extends.full i.right i.right_full;
  equation = i.equation;
  left_instance = subst (λ t. Rattle.slotted_model_rules.specs.Instances.IsInstance R newer given (valued s) (λ y. y) rule.left t) (sym (extends.terms i.left i.left_full))
      (instance-stays R older newer extends (valued s) given (λ y. y) rule.left _ i.left_instance);
  right_instance = subst (λ t. Rattle.slotted_model_rules.specs.Instances.IsInstance R newer given (valued s) (λ y. y) rule.right t) (sym (extends.terms i.right i.right_full))
      (instance-stays R older newer extends (valued s) given (λ y. y) rule.right _ i.right_instance);
}

-- from f to h, and so in a longer stretch from g to i
module _ (g f h i : Graph) (before : ExtendsTo g f) (after : ExtendsTo h i) (p q : PatternTree) (s : Values) where
  filled-wider : (filled : Values) → FillsValues f.table h.image.canonical [] s filled → FillsValues g.table i.image.canonical [] s filled
  filled-wider filled fills = fills-wider g.table f.table h.image.canonical i.image.canonical before.more after.canonical [] s filled fills

  entry-wider : (R : DTerm → DTerm → Bool) (given : List ℕ) (rule : Rule) (filled : Values) → HasEntryFor R given h rule filled → HasEntryFor R given i rule filled
  entry-wider R given rule filled e = record {
    number = e.number;
    in_range = begins-within h.image.entries i.image.entries after.entries e.number e.in_range;
    instances = subst (IsEquationOfInstances R given i.image.canonical rule filled) (sym (equation-begins h.image.entries i.image.entries after.entries e.number e.in_range))
        (equation-stays h.image.canonical i.image.canonical after.canonical R given rule filled (equation_at h.image.entries e.number) e.instances);
  }

  has-wider : HasEquationFor f h p q s → HasEquationFor g i p q s
  has-wider e = record {
    whole_left = e.whole_left;
    whole_right = e.whole_right;
    filled = e.filled;
    fills = filled-wider e.filled e.fills;
    method = e.method;
    pairs = e.pairs;
    are = representatives-longer g f h i e.pairs before after e.are;
    each = λ rule l r given known. entry-wider (represented (method_of e.method) e.pairs) given rule e.filled (e.each rule l r given (known-later g f before given known));
  }

  pub settled-wider : (holds : Values → Graph → Bool → Type 0) → IsSettled holds p q f h s → IsSettled holds p q g i s
  settled-wider holds (inl e) = inl (has-wider e)
  settled-wider holds (inr m) = inr (m.0, between-longer g f h i m.0 before after m.1, m.2)

  equation-wider : (e : Equation) → IsEquationFor f h p q s e → IsEquationFor g i p q s e
  equation-wider e k = record {
    whole_left = k.whole_left;
    whole_right = k.whole_right;
    filled = k.filled;
    fills = filled-wider k.filled k.fills;
    method = k.method;
    pairs = k.pairs;
    are = representatives-longer g f h i k.pairs before after k.are;
    each = λ rule l r given known.
        equation-stays h.image.canonical i.image.canonical after.canonical (represented (method_of k.method) k.pairs) given rule k.filled e (k.each rule l r given (known-later g f before given known));
  }

module _ (g f h i : Graph) (before : ExtendsTo g f) (after : ExtendsTo h i) (holds : Values → Graph → Bool → Type 0) (p q : PatternTree) (name : List ℕ) (found : List Values) where
  pub comes-wider : (n : ℕ) → n < length h.image.entries → n < length h.image.stored → ComesFromRule holds p q name found f h n → ComesFromRule holds p q name found g i n
  comes-wider n l k c = record {
    answer = c.answer;
    is_found = c.is_found;
    moment = c.moment;
    between = between-longer g f h i c.moment before after c.between;
    held = c.held;
    equation = equation-wider g f h i before after p q c.answer (equation_at i.image.entries n)
        (subst (IsEquationFor f h p q c.answer) (sym (equation-begins h.image.entries i.image.entries after.entries n l)) c.equation);
    text = ap (λ (z : Proven). z.text) (begins-at h.image.stored i.image.stored nothing_proven after.stored n k) ∙ c.text;
  }

some-is : {A : Type 0} (o : Option A) → IsSome o → (a : A) × (o ≡ Some a)
some-is None h = absurd (false≢true h)
some-is (Some a) h = (a, refl)

none-given : (g : Graph) → AllKnown g.table []
none-given g = λ k d l. absurd (omega (arith, l))

-- one answer whose condition holds
module _ (holds : Values → Graph → Bool → Type 0) (p q : PatternTree) (name : List ℕ) (s : Values) (g h : Graph) (y : Bool) (u : UnitesInstances g h s p q (Some name) y) where
  united-has : HavePassed s p q → HasEquationFor g h p q s
  united-has passed = record {
    whole_left = passed.0.0;
    whole_right = passed.1.0;
    filled = u.filled;
    fills = united-fills g h s p q (Some name) y u;
    method = u.method;
    pairs = united-pairs g h s p q (Some name) y u;
    are = united-representatives g h s p q (Some name) y u;
    each = λ rule l r given known.
        let e = united-equation g h s p q (Some name) y u rule l r given known in
        record {
          number = e.number;
          in_range = e.in_range;
          instances = subst (IsEquationOfInstances _ given h.image.canonical rule u.filled) (sym e.stands) e.instances;
        };
  }

  module _ (found : List Values) (c : Contains found s) (held : holds s g true) (is : IsGraph g) (passed : HavePassed s p q) where
    united-comes : AreFromRule holds p q name found g h
    united-comes n past lt new =
        let l = some-is (pattern_in p) passed.0.0 in
        let r = some-is (pattern_in q) passed.1.0 in
        let rule : Rule = record { left = l.0; right = r.0; condition = always } in
        let first = united-equation g h s p q (Some name) y u rule l.1 r.1 [] (none-given g) in
        record {
          answer = s;
          is_found = c;
          moment = g;
          between = record { graph = is; after = extends-itself g; before = u.extends };
          held = held;
          equation = record {
            whole_left = passed.0.0;
            whole_right = passed.1.0;
            filled = u.filled;
            fills = united-fills g h s p q (Some name) y u;
            method = u.method;
            pairs = united-pairs g h s p q (Some name) y u;
            are = united-representatives g h s p q (Some name) y u;
            each = λ rule l r given known.
                let e = united-equation g h s p q (Some name) y u rule l r given known in
                subst (IsEquationOfInstances _ given h.image.canonical rule u.filled) (sym (e.only n past lt new).0) e.instances;
          };
          text = (first.only n past lt new).1;
        }

one-at-most : (y : Bool) → from_bool y ≤ 1
one-at-most true = omega arith
one-at-most false = omega arith

each-more : {holds : Values → Graph → Bool → Type 0} {p q : PatternTree} {name : List ℕ} {found : List Values} {s : Values} {y : Bool} {n : ℕ} {g f h : Graph} → AppliesEach holds p q name found n g f → AppliesOne holds p q name s f h y →
    AppliesEach holds p q name (found ++ s ∷ []) (n + from_bool y) g h
each-more {holds} {p} {q} {name} {found} {s} {y} {n} {g} {f} {h} no_answer one = subst (λ (k : ℕ). AppliesEach holds p q name (s ∷ []) k g h) (omega arith) (next_answer one no_answer)
each-more {holds} {p} {q} {name} {found} {s} {y} {n} {g} {f} {h} (next_answer {s = t} {found = more} {y = z} {n = m} first later) one =
    let all : AppliesEach holds p q name (t ∷ more ++ s ∷ []) (from_bool z + (m + from_bool y)) g h = next_answer first (each-more later one) in
    subst (λ (k : ℕ). AppliesEach holds p q name (t ∷ more ++ s ∷ []) k g h) (omega arith) all

module _ (holds : Values → Graph → Bool → Type 0) (p q : PatternTree) (name : List ℕ) (found : List Values) (i n : ℕ) (l : i < length found) (g f : Graph) (so_far : HasAppliedSome holds p q name found i n g f) where
  abbrev answer : Values
  answer = slice_index_or found i []

  earlier-settled : (h : Graph) → ExtendsTo f h → IsSettled holds p q g h answer → (j : ℕ) → j < i + 1 → IsSettled holds p q g h (slice_index_or found j [])
  earlier-settled h e here j lt = elim (cases_eq j i) [
    | inl same ↦ subst (λ k. IsSettled holds p q g h (slice_index_or found k [])) (sym same) here
    | inr other ↦ settled-wider g g f h (extends-itself g) e p q (slice_index_or found j []) holds (so_far.settled j (omega (arith, lt, other)))
  ]

  -- an entry that is new from g to h is new from g to f, or from f to h
  both-origins : (h : Graph) → IsGraph h → ExtendsTo f h → AreFromRule holds p q name found f h → AreFromRule holds p q name found g h
  both-origins h is e later n past lt new = elim (cases_lt n (length f.image.entries)) [
    | inl before ↦
        let was : step_at f.image.entries n ≡ explicit = sym (ap (λ (z : ProofEntry). z.step) (begins-at f.image.entries h.image.entries _ e.entries n before)) ∙ new in
        comes-wider g g f h (extends-itself g) e holds p q name found n before (omega (arith, before, stored-length f so_far.graph)) (so_far.origin n past before was)
    | inr after ↦ comes-wider g f h h so_far.extends (extends-itself h) holds p q name found n lt (omega (arith, lt, stored-length h is)) (later n after lt new)
  ]

  in-turn : (h : Graph) (y : Bool) → AppliesOne holds p q name answer f h y → AppliesEach holds p q name (take (i + 1) found) (n + from_bool y) g h
  in-turn h y one = subst (λ (xs : List Values). AppliesEach holds p q name xs (n + from_bool y) g h) (sym (take_more found i [] l)) (each-more so_far.in_turn one)

  next-within : (y : Bool) → n + from_bool y ≤ i + 1
  next-within y = omega (arith, so_far.within, one-at-most y)

  pub one-applied : (h : Graph) (y : Bool) → AppliesOne holds p q name answer f h y → HasAppliedSome holds p q name found (i + 1) (n + from_bool y) g h
  one-applied h y (passes_over none same unsaid) =
      subst (HasAppliedSome holds p q name found (i + 1) (n + from_bool y) g) (sym same) (record {
        graph = so_far.graph;
        extends = so_far.extends;
        settled = earlier-settled f (extends-itself f) (inr (f, record { graph = so_far.graph; after = so_far.extends; before = extends-itself f }, none));
        origin = so_far.origin;
        within = next-within y;
        in_turn = subst (λ (x : Graph). AppliesEach holds p q name (take (i + 1) found) (n + from_bool y) g x) same (in-turn h y (passes_over none same unsaid));
      })
  one-applied h y (asserts held passed u) = record {
    graph = u.graph;
    extends = extends-then g f h so_far.extends u.extends;
    settled = earlier-settled h u.extends (settled-wider g f h h so_far.extends (extends-itself h) p q answer holds (inl (united-has holds p q name answer f h y u passed)));
    origin = both-origins h u.graph u.extends (united-comes holds p q name answer f h y u found (Contains-get_or found i [] l) held so_far.graph passed);
    within = next-within y;
    in_turn = in-turn h y (asserts held passed u);
  }

-- one answer whose instances were united
pub if-asserted : (holds : Values → Graph → Bool → Type 0) (p q : PatternTree) (name : List ℕ) (s : Values) (g h : Graph) (r : Result Bool Error) → holds s g true → OnOk r (HavePassed s p q) → IfOk r (UnitesInstances g h s p q (Some name)) →
    IfOk r (AppliesOne holds p q name s g h)
if-asserted holds p q name s g h (Ok y) held passed u = asserts held passed u
if-asserted holds p q name s g h (Err e) held passed u = tt

-- before the first answer nothing is new
pub none-applied : (holds : Values → Graph → Bool → Type 0) (p q : PatternTree) (name : List ℕ) (found : List Values) (g : Graph) → IsGraph g → HasAppliedSome holds p q name found 0 0 g g
none-applied holds p q name found g is = record {
  graph = is;
  extends = extends-itself g;
  settled = λ j l. absurd (omega (arith, l));
  origin = λ n past lt new. absurd (omega (arith, past, lt));
  within = omega arith;
  in_turn = no_answer;
}

-- and after the last one each is settled
pub all-applied : (holds : Values → Graph → Bool → Type 0) (p q : PatternTree) (name : List ℕ) (found : List Values) (i n : ℕ) (g h : Graph) → length found ≤ i → HasAppliedSome holds p q name found i n g h → LeavesUnited holds p q name found g h n
all-applied holds p q name found i n g h le a = (
  record {
    graph = a.graph;
    extends = a.extends;
    settled = λ s c. subst (IsSettled holds p q g h) (get_or_default found c.0 [] s c.1 ∙ c.2) (a.settled c.0 (omega (arith, c.1, le)));
    origin = a.origin;
    united = n;
    in_turn = subst (λ (xs : List Values). AppliesEach holds p q name xs n g h) (take_all i found le) a.in_turn;
  },
  refl,
)

-- a refusal at one answer is one of the rule
pub refused-rewrite : (holds : Values → Graph → Bool → Type 0) (refuses : Values → Graph → Error → Type 0) (q : PatternTree) (s : Values) (g : Graph) (e : Error) → IsShortage e ⊎ RefusesOne holds refuses q s g e → IsShortage e ⊎ IsRefusedRewrite refuses q e
refused-rewrite holds refuses q s g e (inl short) = inl short
refused-rewrite holds refuses q s g e (inr (inl refused)) = inr (inr (s, g, refused))
refused-rewrite holds refuses q s g e (inr (inr r)) = inr (inl (r.1, r.2))

-- and so the rule breaks off there
pub breaks-off : (holds : Values → Graph → Bool → Type 0) (refuses : Values → Graph → Error → Type 0) (p q : PatternTree) (name : List ℕ) (found : List Values) (i n : ℕ) → i < length found → (g f : Graph) → HasAppliedSome holds p q name found i n g f →
    (h : Graph) (e : Error) → IsTrue h.failed ⊎ (h ≡ f) → (IsTrue h.failed → IsShortage e) → IsShortage e ⊎ RefusesOne holds refuses q (slice_index_or found i []) f e → IsShortage e ⊎ BreaksOff holds refuses p q name found g h e
breaks-off holds refuses p q name found i n l g f so_far h e unchanged fails (inl short) = inl short
breaks-off holds refuses p q name found i n l g f so_far h e (inl failed) fails (inr refused) = inl (fails failed)
breaks-off holds refuses p q name found i n l g f so_far h e (inr same) fails (inr refused) = inr (subst (λ (k : Graph). BreaksOff holds refuses p q name found g k e) (sym same) (record {
  graph = so_far.graph;
  extends = so_far.extends;
  origin = so_far.origin;
  answer = i;
  within = l;
  united = n;
  in_turn = so_far.in_turn;
  refused = refused;
}))

-- What a union of two instances leaves in the proof list.
use Rattle.std.proofs.Common.{◌≡◌, ◌∙◌, ap, refl, sym, subst, inl, inr, ℕ, ◌+◌, ◌<◌, ◌≤◌, List, [], ◌∷◌, ◌++◌, length, arith, length-append}
use Rattle.std.specs.Prelude.{Bool, Option, Some, slice_index_or}
use Rattle.std.proofs.lemmas.List.{length-map}
use Rattle.std.proofs.lemmas.List.Elements.{Contains-append_left, Contains-append_right}
use Rattle.slotted_lists.proofs.Contained.{Contains-nil}
use Rattle.slotted_lists.proofs.Lists.{slice_index_or-map}
use Rattle.slotted_slots.specs.Table.{AllKnown}
use Rattle.slotted_theory.specs.Nameless.{DTerm}
use Rattle.slotted_patterns.specs.Tree.{PatternTree}
use Rattle.slotted_proofs.specs.Equations.{to_applied}
use Rattle.slotted_proofs.specs.Entries.{Proven, entry_of, entries_of, nothing_proven, proven_at, asserted_entry}
use Rattle.slotted_model.specs.Applied.{Applied, values}
use Rattle.slotted_model.specs.Filling.{IsFilling}
use Rattle.slotted_model.specs.ProofList.{ProofEntry, equation_of, equation_at, explicit, step_at, term_pair}
use Rattle.slotted_model.proofs.Represented.Fillings.{a_filling}
use Rattle.slotted_model_rules.specs.Conditions.{Values}
use Rattle.slotted_model_rules.specs.Instances.{IsAnswer}
use Rattle.slotted_model_rules.specs.Rules.{IsEquationOfInstances, Rule, valued}
use Rattle.slotted_model_rules.proofs.Patterns.Instantiating.{answer-instances}
use Rattle.slotted_model_rules.proofs.Rules.Applying.{fewer-given as last-given}
use Rattle.slotted_graph.specs.Graph.{Graph}
use Rattle.slotted_graph.specs.Image.{FillApart, Image, asserted_in}
use Rattle.slotted_graph.specs.States.{IsGraph}
use Rattle.slotted_graph.specs.ValidIds.{IsValidId}
use Rattle.slotted_graph.proofs.Extending.{extends-itself}
use Rattle.slotted_rule_patterns.specs.PatternCode.{pattern_in}
use Rattle.slotted_rules.specs.Filled.{FillsValues}
use Rattle.slotted_rules.specs.Methods.{AreRepresentatives, method_of, represented}
use Rattle.slotted_rules.specs.Uniting.{UnitesInstances, HasEquationOfInstances}
use Rattle.slotted_rules.proofs.Answers.{answer-more}
use Rattle.slotted_rules.proofs.BuiltInstances.{representatives-both}
use Rattle.slotted_rules.proofs.ExplicitEntries.{explicit_count, asserted-count, count-append, new-counts, only-new}
use Rattle.slotted_rules.proofs.Putting.{representatives-longer}
use Rattle.slotted_rules.proofs.UnitedInstances.{known-method}

-- an id is filled by names that are none of these
valid-filling : (g : Graph) (given : List ℕ) (a : Applied) → IsValidId g a → (b : Applied) × IsFilling g.image.canonical given a b
valid-filling g given a v =
    a_filling g.image.canonical (λ c. []) given a
    (record { in_range = v.in_range; ascending = v.ascending; injective = v.injective; has_slots = λ s c. absurd (Contains-nil s c); within = v.within })

fewer-given : (nodes : List DTerm) (xs ys : List ℕ) (a b : Applied) → IsFilling nodes (xs ++ ys) a b → IsFilling nodes xs a b
fewer-given nodes xs ys a b f = record { class = f.class; full = f.full; keeps = f.keeps; fresh = λ s x c none has. f.fresh s x c none (Contains-append_left xs ys x has) }

-- the entries of a graph are those of the model
graph-entries : (h : Graph) → IsGraph h → h.image.entries ≡ entries_of h.image.stored
graph-entries h is = subst (λ (x : Image). x.entries ≡ entries_of x.stored) is.is_state.image refl

entry-at : (h : Graph) → IsGraph h → (n : ℕ) → slice_index_or h.image.entries n (entry_of nothing_proven) ≡ entry_of (proven_at h.image.stored n)
entry-at h is n = ap (λ (l : List ProofEntry). slice_index_or l n (entry_of nothing_proven)) (graph-entries h is) ∙ slice_index_or-map entry_of h.image.stored n nothing_proven

pub stored-length : (h : Graph) → IsGraph h → length h.image.entries ≡ length h.image.stored
stored-length h is = ap length (graph-entries h is) ∙ length-map h.image.stored entry_of

module _ (g h : Graph) (s : Values) (p q : PatternTree) (text : Option (List ℕ)) (y : Bool) (u : UnitesInstances g h s p q text y) where
  count-grown : explicit_count h.image.entries ≡ explicit_count g.image.entries + explicit_count u.extends.entries.0
  count-grown = ap explicit_count u.extends.entries.1 ∙ count-append g.image.entries u.extends.entries.0

  count-built : explicit_count u.built.image.entries ≡ explicit_count g.image.entries
  count-built =
      let same = (u.left_instance.instance (known-method u.method)).asserts in
      sym (asserted-count u.built.image.canonical u.built.image.entries) ∙ (ap length same ∙ asserted-count g.image.canonical g.image.entries)

  -- each new explicit entry is the one that the union made, with the text
  new-one : (left right : Applied) → FillApart u.built.image (to_applied u.left) (to_applied u.right) left right → (n : ℕ) → length g.image.entries ≤ n → n < length h.image.entries → step_at h.image.entries n ≡ explicit →
      (equation_at h.image.entries n ≡ equation_of left right) × ((proven_at h.image.stored n).text ≡ text)
  new-one left right apart n past lt new =
      let asserts = u.union.asserts left right apart in
      let records = u.recorded.each left right apart in
      let more = u.extends.entries.0 in
      let is : h.image.entries ≡ g.image.entries ++ more = u.extends.entries.1 in
      let lt' : n < length (g.image.entries ++ more) = subst (λ (l : List ProofEntry). n < length l) is lt in
      let new' : step_at (g.image.entries ++ more) n ≡ explicit = subst (λ (l : List ProofEntry). step_at l n ≡ explicit) is new in
      let some : 1 ≤ explicit_count more = new-counts g.image.entries more n past lt' new' in
      let total = asserted-count h.image.canonical h.image.entries in
      let before = asserted-count u.built.image.canonical u.built.image.entries in
      elim asserts.asserted [
        | inl same ↦ absurd (omega (arith, some, count-grown, count-built, total, before, ap length same.1))
        | inr added ↦ elim records.entered [
          | inl stood ↦ absurd (added.0 stood)
          | inr x ↦
              let e : slice_index_or h.image.entries x.number (entry_of nothing_proven) ≡ entry_of (asserted_entry left right text) = entry-at h u.graph x.number ∙ ap entry_of x.entry in
              let few : explicit_count more ≤ 1 = omega (arith, count-grown, count-built, total, before, ap length added.1, length-append (asserted_in u.built.image) (term_pair u.built.image.canonical (equation_of left right) ∷ [])) in
              let far : length g.image.entries ≤ x.number =
              omega (arith, x.past, stored-length u.built u.left_instance.grows.graph, ap length u.left_instance.grows.extends.entries.1, length-append g.image.entries u.left_instance.grows.extends.entries.0) in
              let within : x.number < length h.image.entries = omega (arith, x.in_range, stored-length h u.graph) in
              let step : step_at h.image.entries x.number ≡ explicit = ap (λ (z : ProofEntry). z.step) e in
              let same : n ≡ x.number =
              only-new g.image.entries more few n x.number past lt' new' far (subst (λ (l : List ProofEntry). x.number < length l) is within) (subst (λ (l : List ProofEntry). step_at l x.number ≡ explicit) is step) in (
                ap (equation_at h.image.entries) same ∙ ap (λ (z : ProofEntry). z.equation) e,
                ap (λ z. (proven_at h.image.stored z).text) same ∙ ap (λ (z : Proven). z.text) x.entry,
              )
        ]
      ]

  -- where what is filled in is none of the names that are given: what represents a body are the pairs of both sides
  pub united-pairs : List (DTerm × DTerm)
  united-pairs = (u.left_instance.instance (known-method u.method)).pairs ++ (u.right_instance.instance (known-method u.method)).pairs

  pub united-representatives : AreRepresentatives g h united-pairs
  unfolding united-pairs
  united-representatives =
      let l = u.left_instance.instance (known-method u.method) in
      let r = u.right_instance.instance (known-method u.method) in
      representatives-longer g g u.built h (l.pairs ++ r.pairs) (extends-itself g) u.later (representatives-both g u.built l.pairs r.pairs l.are r.are)

  -- both are instances by the filled values
  pub united-fills : FillsValues g.table h.image.canonical [] s u.filled
  united-fills = subst (λ (z : List DTerm). FillsValues g.table z [] s u.filled) (sym u.union.canonical) u.fills

  pub united-equation : (rule : Rule) → pattern_in p ≡ Some rule.left → pattern_in q ≡ Some rule.right → (given : List ℕ) → AllKnown g.table given → HasEquationOfInstances (represented (method_of u.method) united-pairs) given g h rule u.filled text
  unfolding united-pairs
  united-equation rule is_left is_right given known =
      let m = method_of u.method in
      let f = u.built in
      let l = u.left_instance.instance (known-method u.method) in
      let r = u.right_instance.instance (known-method u.method) in
      let a : Applied = to_applied u.left in
      let b : Applied = to_applied u.right in
      let R = represented m (l.pairs ++ r.pairs) in
      let fa = valid-filling f (values b.1 ++ given) a u.left_instance.valid in
      let left : Applied = fa.0 in
      let fb = valid-filling f (values left.1 ++ given) b u.right_instance.valid in
      let right : Applied = fb.0 in
      let nodes = f.image.canonical in
      let apart : FillApart f.image a b left right = record { left_fills = fewer-given nodes (values b.1) given a left fa.1; right_fills = fewer-given nodes (values left.1) given b right fb.1 } in
      let asserts = u.union.asserts left right apart in
      let first : IsAnswer R nodes given (valued u.filled) rule.left a = answer-more m l.pairs (l.pairs ++ r.pairs) (λ z c. Contains-append_left l.pairs r.pairs z c) nodes (valued u.filled) given rule.left a (l.answers rule.left is_left given known) in
      let second : IsAnswer R nodes given (valued u.filled) rule.right b = answer-more m r.pairs (l.pairs ++ r.pairs) (λ z c. Contains-append_right l.pairs r.pairs z c) nodes (valued u.filled) given rule.right b (r.answers rule.right is_right given known) in
      let there : IsEquationOfInstances R given nodes rule u.filled (equation_of left right) = record {
        left = left;
        right = right;
        left_full = fa.1.full;
        right_full = fb.1.full;
        equation = refl;
        left_instance = answer-instances R nodes given (valued u.filled) rule.left a first left (last-given nodes (values b.1) given a left fa.1);
        right_instance = answer-instances R nodes given (valued u.filled) rule.right b second right (last-given nodes (values left.1) given b right fb.1);
      } in
      record {
        equation = equation_of left right;
        instances = subst (λ (z : List DTerm). IsEquationOfInstances R given z rule u.filled (equation_of left right)) (sym u.union.canonical) there;
        number = asserts.number;
        in_range = asserts.in_range;
        stands = asserts.stands;
        only = λ n past lt new. new-one left right apart n past lt new;
      }

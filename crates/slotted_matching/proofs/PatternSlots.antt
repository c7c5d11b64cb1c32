-- The slots of a program's steps are those of its pattern.
use Rattle.std.proofs.Common.{◌≡◌, ℕ, suc, List, [], ◌∷◌, ◌++◌, ◌∙◌, ap, refl, subst, inl, inr, Vec}
use Rattle.std.specs.declared.alloc.Global.{Global}
use Rattle.std.specs.List.{flat_map}
use Rattle.std.proofs.lemmas.Grind.{flat_map-append}
use Rattle.slotted_lists.proofs.Members.{In, In-left, In-right, In-append, In-Contains, Contains-In}
use Rattle.slotted_model_rules.specs.Goals.{own_slots}
use Rattle.slotted_model_rules.specs.Patterns.{Pattern, PatternArgs, no_argument, own_name, child_pattern, binding}
use Rattle.slotted_match_machine.specs.declared.program.Source.{Source}
use Rattle.slotted_match_machine.specs.declared.program.Step.{Step}
use Rattle.slotted_match_machine.specs.declared.program.Step.TheVariants.{Node}
use Rattle.slotted_match_machine.specs.Programs.{child_patterns, placed, IsProgramFor, ends, compares, takes, enters, IsProgram}
use Rattle.slotted_matching.specs.Compiled.{HoldsSlots}
use Rattle.slotted_matching.specs.Found.{slots_of, slots_in}
use Rattle.slotted_matching.proofs.StepSlots.{same-owns}

-- the slots of goals
abbrev of_goals : List (Pattern × Source) → List ℕ
of_goals qs = flat_map (λ (q : Pattern × Source). slots_of q.0) qs

of-placed : (register k : ℕ) (ps : List Pattern) → of_goals (placed register k ps) ≡ flat_map slots_of ps
of-placed register k [] = refl
of-placed register k (p ∷ ps) = ap (λ l. slots_of p ++ l) (of-placed register (suc k) ps)

own-in : (args : PatternArgs) (y : ℕ) → In y (own_slots args) → In y (slots_in args)
own-in no_argument y i = i
own-in (own_name x rest) y (inl e) = inl e
own-in (own_name x rest) y (inr i) = inr (own-in rest y i)
own-in (child_pattern p rest) y i = In-right y (slots_of p) (slots_in rest) (own-in rest y i)
own-in (binding x inner rest) y (inl e) = inl e
own-in (binding x inner rest) y (inr i) = inr (elim (In-append y (own_slots inner) (own_slots rest) i) [
  | inl j ↦ In-left y (slots_in inner) (slots_in rest) (own-in inner y j)
  | inr j ↦ In-right y (slots_in inner) (slots_in rest) (own-in rest y j)
])

children-in : (args : PatternArgs) (y : ℕ) → In y (flat_map slots_of (child_patterns args)) → In y (slots_in args)
children-in no_argument y i = i
children-in (own_name x rest) y i = inr (children-in rest y i)
children-in (child_pattern p rest) y i = elim (In-append y (slots_of p) (flat_map slots_of (child_patterns rest)) i) [
  | inl j ↦ In-left y (slots_of p) (slots_in rest) j
  | inr j ↦ In-right y (slots_of p) (slots_in rest) (children-in rest y j)
]
children-in (binding x inner rest) y i =
    inr (elim (In-append y (flat_map slots_of (child_patterns inner)) (flat_map slots_of (child_patterns rest)) (subst (In y) (flat_map-append slots_of (child_patterns inner) (child_patterns rest)) i)) [
      | inl j ↦ In-left y (slots_in inner) (slots_in rest) (children-in inner y j)
      | inr j ↦ In-right y (slots_in inner) (slots_in rest) (children-in rest y j)
    ])

module _ {IsOutline : ℕ → ℕ → List (List ℕ) → PatternArgs → Type 0} (variables : List (List ℕ)) where
  step-slots : {next : ℕ} {seen : List (List ℕ)} {steps : List Step} {qs : List (Pattern × Source)} → IsProgramFor IsOutline variables next seen steps qs →
      (outline : ℕ) (owns : Vec ℕ Global) (from : Source) → In (Node outline owns from) steps → (y : ℕ) → In y owns.items → In y (of_goals qs)
  step-slots ends outline owns from i y j = absurd i
  step-slots (compares h same program) outline owns from (inl e) y j = absurd (cc)
  step-slots (compares h same program) outline owns from (inr i) y j = step-slots program outline owns from i y j
  step-slots (takes at new program) outline owns from (inl e) y j = absurd (cc)
  step-slots (takes at new program) outline owns from (inr i) y j = step-slots program outline owns from i y j
  step-slots (enters {outline = o} {args = args} {slots = slots} {from = at} {goals = qs} is same program) outline owns from (inl e) y j =
      In-left y (slots_in args) (of_goals qs) (own-in args y (subst (In y) (same-owns outline o owns slots from at e ∙ same) j))
  step-slots (enters {next = next} {args = args} {goals = qs} is same program) outline owns from (inr i) y j =
      let k = step-slots program outline owns from i y j in
      let split = flat_map-append (λ (q : Pattern × Source). slots_of q.0) (placed next 0 (child_patterns args)) qs ∙ ap (λ l. l ++ of_goals qs) (of-placed next 0 (child_patterns args)) in
      elim (In-append y (flat_map slots_of (child_patterns args)) (of_goals qs) (subst (In y) split k)) [
        | inl m ↦ In-left y (slots_in args) (of_goals qs) (children-in args y m)
        | inr m ↦ In-right y (slots_in args) (of_goals qs) m
      ]

  pub holds-slots : (p : Pattern) (steps : List Step) → IsProgram IsOutline variables p steps → HoldsSlots steps (slots_of p)
  holds-slots p steps program outline owns from c y d =
      elim (In-append y (slots_of p) [] (step-slots program outline owns from (In-Contains steps (Node outline owns from) c) y (In-Contains owns.items y d))) [
        | inl i ↦ Contains-In (slots_of p) y i
        | inr i ↦ absurd i
      ]

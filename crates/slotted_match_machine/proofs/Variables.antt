-- The variables of a program are those of its pattern, each once.
use Rattle.std.proofs.Common.{◌≡◌, ◌↔◌, ℕ, suc, ◌+◌, ◌<◌, List, [], ◌∷◌, ◌++◌, length, sym, ◌∙◌, ap, refl, subst, inl, inr, arith}
use Rattle.std.specs.Prelude.{◌⊎◌, Contains, slice_index_or}
use Rattle.std.specs.List.{flat_map}
use Rattle.std.proofs.lemmas.Bool.{cases_eq}
use Rattle.std.proofs.lemmas.Grind.{flat_map-append}
use Rattle.std.proofs.lemmas.List.{length_push}
use Rattle.std.proofs.lemmas.List.Elements.{Contains-get_or}
use Rattle.std.proofs.Math.ListN.{get_or-append}
use Rattle.std.proofs.Math.Seq.{get_or-append_seam}
use Rattle.slotted_lists.proofs.Members.{In, In-left, In-right, In-append, In-Contains, Contains-In}
use Rattle.slotted_model_rules.specs.Patterns.{Pattern, PatternArgs, no_argument, own_name, child_pattern, binding}
use Rattle.slotted_match_machine.specs.declared.program.Source.{Source}
use Rattle.slotted_match_machine.specs.declared.program.Step.{Step}
use Rattle.slotted_match_machine.specs.Programs.{variables_of, variables_in, child_patterns, placed, IsProgramFor, ends, compares, takes, enters, IsProgram}

-- the variables of goals
abbrev of_goals : List (Pattern × Source) → List (List ℕ)
of_goals qs = flat_map (λ (q : Pattern × Source). variables_of q.0) qs

of-placed : (register k : ℕ) (ps : List Pattern) → of_goals (placed register k ps) ≡ flat_map variables_of ps
of-placed register k [] = refl
of-placed register k (p ∷ ps) = ap (λ l. variables_of p ++ l) (of-placed register (suc k) ps)

of-children : (args : PatternArgs) → flat_map variables_of (child_patterns args) ≡ variables_in args
of-children no_argument = refl
of-children (own_name x rest) = of-children rest
of-children (child_pattern p rest) = ap (λ l. variables_of p ++ l) (of-children rest)
of-children (binding x inner rest) = flat_map-append variables_of (child_patterns inner) (child_patterns rest) ∙ (λ i. of-children inner i ++ of-children rest i)

of-entered : (register : ℕ) (args : PatternArgs) (qs : List (Pattern × Source)) → of_goals (placed register 0 (child_patterns args) ++ qs) ≡ variables_in args ++ of_goals qs
of-entered register args qs =
    flat_map-append (λ (q : Pattern × Source). variables_of q.0) (placed register 0 (child_patterns args)) qs ∙ ap (λ l. l ++ of_goals qs) (of-placed register 0 (child_patterns args) ∙ of-children args)

-- no variable has two numbers
abbrev Once : List (List ℕ) → Type 0
Once vs = (i j : ℕ) → i < length vs → j < length vs → slice_index_or vs i [] ≡ slice_index_or vs j [] → i ≡ j

once-more : (vs : List (List ℕ)) (v : List ℕ) → ¬ Contains vs v → Once vs → Once (vs ++ v ∷ [])
once-more vs v new once i j h k e =
    go (old-or-last i (subst (λ n. i < n) (length_push vs v) h)) (old-or-last j (subst (λ n. j < n) (length_push vs v) k))
  where
    old-or-last : (m : ℕ) → m < length vs + 1 → (m < length vs) ⊎ (m ≡ length vs)
    old-or-last m l = elim (cases_eq m (length vs)) [
      | inl q ↦ inr q
      | inr n ↦ inl (omega arith)
    ]

    old : (m : ℕ) → m < length vs → slice_index_or (vs ++ v ∷ []) m [] ≡ slice_index_or vs m []
    old m l = get_or-append vs (v ∷ []) [] m l

    last : (m : ℕ) → m ≡ length vs → slice_index_or (vs ++ v ∷ []) m [] ≡ v
    last m q = ap (λ n. slice_index_or (vs ++ v ∷ []) n []) q ∙ get_or-append_seam vs v [] []

    differ : (m : ℕ) → m < length vs → slice_index_or vs m [] ≡ v → ⊥
    differ m l q = new (subst (Contains vs) q (Contains-get_or vs m [] l))

    go : (i < length vs) ⊎ (i ≡ length vs) → (j < length vs) ⊎ (j ≡ length vs) → i ≡ j
    go (inl a) (inl b) = once i j a b (sym (old i a) ∙ (e ∙ old j b))
    go (inl a) (inr b) = absurd (differ i a (sym (old i a) ∙ (e ∙ last j b)))
    go (inr a) (inl b) = absurd (differ j b (sym (old j b) ∙ (sym e ∙ last i a)))
    go (inr a) (inr b) = a ∙ sym b

module _ {IsOutline : ℕ → ℕ → List (List ℕ) → PatternArgs → Type 0} (variables : List (List ℕ)) where
  -- each has a number from before or stands in a goal
  comes-from : {next : ℕ} {seen : List (List ℕ)} {steps : List Step} {qs : List (Pattern × Source)} → IsProgramFor IsOutline variables next seen steps qs → (v : List ℕ) → In v variables → In v seen ⊎ In v (of_goals qs)
  comes-from ends v i = inl i
  comes-from (compares h same program) v i = elim (comes-from program v i) [
    | inl j ↦ inl j
    | inr j ↦ inr (inr j)
  ]
  comes-from (takes {seen = seen} {v = u} at new program) v i = elim (comes-from program v i) [
    | inl j ↦ elim (In-append v seen (u ∷ []) j) [
      | inl k ↦ inl k
      | inr k ↦ elim k [
        | inl e ↦ inr (inl e)
        | inr none ↦ absurd none
      ]
    ]
    | inr j ↦ inr (inr j)
  ]
  comes-from (enters {next = next} {args = args} {goals = qs} outline same program) v i = elim (comes-from program v i) [
    | inl j ↦ inl j
    | inr j ↦ inr (subst (In v) (of-entered next args qs) j)
  ]

  -- and each of these is one
  stands-in : {next : ℕ} {seen : List (List ℕ)} {steps : List Step} {qs : List (Pattern × Source)} → IsProgramFor IsOutline variables next seen steps qs → (v : List ℕ) → In v seen ⊎ In v (of_goals qs) → In v variables
  stands-in ends v (inl i) = i
  stands-in ends v (inr i) = absurd i
  stands-in (compares h same program) v (inl i) = stands-in program v (inl i)
  stands-in (compares {k = k} {seen = seen} {v = u} h same program) v (inr (inl e)) =
      stands-in program v (inl (subst (λ w. In w seen) (same ∙ sym e) (In-Contains seen (slice_index_or seen k []) (Contains-get_or seen k [] h))))
  stands-in (compares h same program) v (inr (inr i)) = stands-in program v (inr i)
  stands-in (takes {seen = seen} {v = u} at new program) v (inl i) = stands-in program v (inl (In-left v seen (u ∷ []) i))
  stands-in (takes {seen = seen} {v = u} at new program) v (inr (inl e)) = stands-in program v (inl (In-right v seen (u ∷ []) (inl e)))
  stands-in (takes at new program) v (inr (inr i)) = stands-in program v (inr i)
  stands-in (enters outline same program) v (inl i) = stands-in program v (inl i)
  stands-in (enters {next = next} {args = args} {goals = qs} outline same program) v (inr i) = stands-in program v (inr (subst (In v) (sym (of-entered next args qs)) i))

  numbered-once : {next : ℕ} {seen : List (List ℕ)} {steps : List Step} {qs : List (Pattern × Source)} → IsProgramFor IsOutline variables next seen steps qs → Once seen → Once variables
  numbered-once ends once = once
  numbered-once (compares h same program) once = numbered-once program once
  numbered-once (takes {seen = seen} {v = v} at new program) once = numbered-once program (once-more seen v new once)
  numbered-once (enters outline same program) once = numbered-once program once

  pub program-variables : (p : Pattern) (steps : List Step) → IsProgram IsOutline variables p steps → (v : List ℕ) → Contains variables v ↔ Contains (variables_of p) v
  program-variables p steps program v = (
    λ c. go (comes-from program v (In-Contains variables v c)),
    λ c. Contains-In variables v (stands-in program v (inr (In-left v (variables_of p) [] (In-Contains (variables_of p) v c)))),
  )
    where
      go : In v [] ⊎ In v (variables_of p ++ []) → Contains (variables_of p) v
      go (inl i) = absurd i
      go (inr i) = elim (In-append v (variables_of p) [] i) [
        | inl j ↦ Contains-In (variables_of p) v j
        | inr j ↦ absurd j
      ]

  pub program-once : (p : Pattern) (steps : List Step) → IsProgram IsOutline variables p steps → Once variables
  program-once p steps program = numbered-once program (λ i j h k e. absurd (omega arith))

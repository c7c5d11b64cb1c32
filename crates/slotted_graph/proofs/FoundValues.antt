-- What holds of each variable of the model's pattern holds of each name among the variables of a pattern; and an answer has a value for each.
use Rattle.std.proofs.Common.{◌≡◌, ◌∙◌, ℕ, List, [], ◌∷◌, ◌++◌, length, take, drop, ap, arith, refl, sym, subst, inl, inr, map, length-append}
use Rattle.std.specs.Prelude.{Bool, true, false, cond, Contains, Some, None, is_some}
use Rattle.std.specs.List.{All, AllByRecursion}
use Rattle.std.proofs.lemmas.Bool.{false≢true}
use Rattle.std.proofs.lemmas.List.{length-drop, length-take-le, take-append-drop}
use Rattle.std.proofs.lemmas.List.Elements.{All-from_recursion}
use Rattle.slotted_lists.proofs.Members.{In, In-Contains}
use Rattle.slotted_theory.specs.Decided.{numbers_eq}
use Rattle.slotted_theory.proofs.Decides.{numbers_eq-same}
use Rattle.slotted_nodes.specs.Form.{Tree, leaf, own, child, bind, scopes, children}
use Rattle.slotted_patterns.specs.Tree.{PatternTree, enode, pvar, substitution, PatternRow, no_more, one_more}
use Rattle.slotted_model_rules.specs.Conditions.{Values}
use Rattle.slotted_model_rules.specs.Matcher.{value_at}
use Rattle.slotted_model_rules.specs.Patterns.{Pattern, variable, EachVariable, EachVariableIn}
use Rattle.slotted_rule_patterns.specs.PatternCode.{filled_pattern, pattern_in, patterns_in}
use Rattle.slotted_rule_patterns.specs.Variables.{first_missing, has_value, variables_of, variables_of_row}
use Rattle.slotted_rule_patterns.proofs.KnownVariables.{none_outside-known}
use Rattle.slotted_rule_patterns.proofs.Parts.{node-parts, replacing-parts, first-parts}
use Rattle.slotted_matching.specs.Found.{HaveVariables}
use Rattle.slotted_graph.proofs.Finds.{each-of}

each-append : {A : Type 0} (P : A → Type 0) (xs ys : List A) → AllByRecursion P xs → AllByRecursion P ys → AllByRecursion P (xs ++ ys)
each-append P [] ys h k = k
each-append P (x ∷ xs) ys h k = (h.0, each-append P xs ys h.1 k)

module _ (P : List ℕ → Type 0) where
  abbrev EachOf : List Pattern → Type 0
  EachOf ps = AllByRecursion (EachVariable P) ps

  filled-each : (u : Tree) (xs : List ℕ) (ps : List Pattern) → length ps ≡ length (children u) → EachVariableIn P (filled_pattern u xs ps) → EachOf ps
  filled-each leaf xs [] l h = tt
  filled-each leaf xs (p ∷ ps) l h = absurd (omega (arith, l))
  filled-each (own r) xs ps l h = filled-each r (drop 1 xs) ps l h
  filled-each (child i ks r) xs [] l h = tt
  filled-each (child i ks r) xs (p ∷ ps) l h = (h.0, filled-each r (drop (length ks) xs) ps (omega (arith, l)) h.1)
  filled-each (bind u r) xs ps l h =
      let n = length (children u) in
      let whole = take-append-drop n ps in
      let many = length-append (children u) (children r) in
      let first : length (take n ps) ≡ n = length-take-le n ps (omega (arith, l, many)) in
      let others : length (drop n ps) ≡ length (children r) = omega (arith, l, many, length-drop n ps) in
      subst EachOf whole
      (each-append (EachVariable P) (take n ps) (drop n ps) (filled-each u (take (length (scopes u)) (drop 1 xs)) (take n ps) first h.0)
      (filled-each r (drop (length (scopes u)) (drop 1 xs)) (drop n ps) others h.1))

  mutual
    code-each : (t : PatternTree) (p : Pattern) → pattern_in t ≡ Some p → EachVariable P p → AllByRecursion P (variables_of t)
    code-each (enode f row) p e h =
        let n = node-parts f row p e in
        codes-each row n.patterns n.are (filled-each f.tree f.names n.patterns n.count (subst (EachVariable P) n.is h))
    code-each (pvar v) p e h = let same : variable v ≡ p = cc in (subst (EachVariable P) (sym same) h, tt)
    code-each (substitution b x t) p e h =
        let n = replacing-parts b x t p e in
        let parts = subst (EachVariable P) n.is h in
        each-append P (variables_of b) (variables_of x ++ variables_of t) (code-each b n.body n.body_is parts.0)
        (each-append P (variables_of x) (variables_of t) (code-each x n.part n.part_is parts.1) (code-each t n.value n.value_is parts.2))

    codes-each : (row : PatternRow) (ps : List Pattern) → patterns_in row ≡ Some ps → EachOf ps → AllByRecursion P (variables_of_row row)
    codes-each no_more ps e h = tt
    codes-each (one_more q row) ps e h =
        let n = first-parts q row ps e in
        let parts = subst EachOf n.is h in
        each-append P (variables_of q) (variables_of_row row) (code-each q n.first n.first_is parts.0) (codes-each row n.others n.others_are parts.1)

  pub variable-each : (t : PatternTree) (p : Pattern) → pattern_in t ≡ Some p → EachVariable P p → All P (variables_of t)
  variable-each t p e h = All-from_recursion P (variables_of t) (code-each t p e h)

-- a variable that has an entry has a value
value-there : (s : Values) (v : List ℕ) → In v (map (λ e. e.0) s) → has_value s v ≡ true
value-there [] v i = absurd i
value-there (e ∷ s) v i = by (value-there s v) (numbers_eq e.0 v) refl
  where
    by : (In v (map (λ e. e.0) s) → has_value s v ≡ true) → (b : Bool) → numbers_eq e.0 v ≡ b → is_some (cond b (Some e.1) (value_at s v)) ≡ true
    by rest true q = refl
    by rest false q = elim i [
      | inl h ↦ absurd (false≢true (sym q ∙ (ap (numbers_eq e.0) h ∙ numbers_eq-same e.0)))
      | inr j ↦ rest j
    ]

-- an answer that has an entry for each variable lacks no value
pub none-missing : (t : PatternTree) (p : Pattern) → pattern_in t ≡ Some p → (found : List Values) → HaveVariables t found → (s : Values) → Contains found s → first_missing t s ≡ None
none-missing t p e found have s c =
    none_outside-known (has_value s) t
    (variable-each (λ v. has_value s v ≡ true) t p e (each-of (λ v. has_value s v ≡ true) p (λ v d. value-there s v (In-Contains (map (λ e. e.0) s) v (have s c p e v d)))))

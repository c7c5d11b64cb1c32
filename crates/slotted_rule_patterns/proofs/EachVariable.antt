-- What holds of each name among the variables of a pattern holds of each variable of the model's pattern.
use Rattle.std.proofs.Common.{◌≡◌, ℕ, zero, suc, List, [], ◌∷◌, ◌++◌, length, take, drop, sym, subst}
use Rattle.std.specs.Prelude.{Some}
use Rattle.std.specs.List.{All, AllByRecursion}
use Rattle.std.proofs.lemmas.List.Elements.{recursion_from_All}
use Rattle.slotted_nodes.specs.Form.{Tree, leaf, own, child, bind, scopes, children}
use Rattle.slotted_patterns.specs.Tree.{PatternTree, enode, pvar, substitution, PatternRow, no_more, one_more}
use Rattle.slotted_model_rules.specs.Patterns.{Pattern, variable, EachVariable, EachVariableIn}
use Rattle.slotted_rule_patterns.specs.PatternCode.{filled_pattern, pattern_in, patterns_in}
use Rattle.slotted_rule_patterns.specs.Variables.{variables_of, variables_of_row}
use Rattle.slotted_rule_patterns.proofs.Parts.{node-parts, replacing-parts, first-parts}

module _ (P : List ℕ → Type 0) where
  abbrev Each : List (List ℕ) → Type 0
  Each vs = AllByRecursion P vs

  Each-left : (vs ws : List (List ℕ)) → Each (vs ++ ws) → Each vs
  Each-left [] ws h = tt
  Each-left (v ∷ vs) ws h = (h.0, Each-left vs ws h.1)

  Each-right : (vs ws : List (List ℕ)) → Each (vs ++ ws) → Each ws
  Each-right [] ws h = h
  Each-right (v ∷ vs) ws h = Each-right vs ws h.1

  -- P holds of each variable of each of the patterns
  abbrev EachOf : List Pattern → Type 0
  EachOf ps = AllByRecursion (EachVariable P) ps

  EachOf-take : (n : ℕ) (ps : List Pattern) → EachOf ps → EachOf (take n ps)
  EachOf-take zero ps h = tt
  EachOf-take (suc n) [] h = tt
  EachOf-take (suc n) (p ∷ ps) h = (h.0, EachOf-take n ps h.1)

  EachOf-drop : (n : ℕ) (ps : List Pattern) → EachOf ps → EachOf (drop n ps)
  EachOf-drop zero ps h = h
  EachOf-drop (suc n) [] h = tt
  EachOf-drop (suc n) (p ∷ ps) h = EachOf-drop n ps h.1

  each-filled : (u : Tree) (xs : List ℕ) (ps : List Pattern) → EachOf ps → EachVariableIn P (filled_pattern u xs ps)
  each-filled leaf xs ps h = tt
  each-filled (own r) xs ps h = each-filled r (drop 1 xs) ps h
  each-filled (child i ks r) xs [] h = tt
  each-filled (child i ks r) xs (p ∷ ps) h = (h.0, each-filled r (drop (length ks) xs) ps h.1)
  each-filled (bind u r) xs ps h = (
    each-filled u (take (length (scopes u)) (drop 1 xs)) (take (length (children u)) ps) (EachOf-take (length (children u)) ps h),
    each-filled r (drop (length (scopes u)) (drop 1 xs)) (drop (length (children u)) ps) (EachOf-drop (length (children u)) ps h),
  )

  mutual
    each-code : (t : PatternTree) (p : Pattern) → pattern_in t ≡ Some p → Each (variables_of t) → EachVariable P p
    each-code (enode f row) p e h =
        let n = node-parts f row p e in
        subst (EachVariable P) (sym n.is) (each-filled f.tree f.names n.patterns (each-codes row n.patterns n.are h))
    each-code (pvar v) p e h = let same : variable v ≡ p = cc in subst (EachVariable P) same h.0
    each-code (substitution b x t) p e h =
        let n = replacing-parts b x t p e in
        let r = Each-right (variables_of b) (variables_of x ++ variables_of t) h in
        subst (EachVariable P) (sym n.is) (
          each-code b n.body n.body_is (Each-left (variables_of b) (variables_of x ++ variables_of t) h),
          each-code x n.part n.part_is (Each-left (variables_of x) (variables_of t) r),
          each-code t n.value n.value_is (Each-right (variables_of x) (variables_of t) r),
        )

    each-codes : (row : PatternRow) (ps : List Pattern) → patterns_in row ≡ Some ps → Each (variables_of_row row) → EachOf ps
    each-codes no_more ps e h = let same : [] ≡ ps = cc in subst EachOf same tt
    each-codes (one_more q row) ps e h =
        let n = first-parts q row ps e in
        subst EachOf (sym n.is) (
          each-code q n.first n.first_is (Each-left (variables_of q) (variables_of_row row) h),
          each-codes row n.others n.others_are (Each-right (variables_of q) (variables_of_row row) h),
        )

  pub each-variable : (t : PatternTree) (p : Pattern) → pattern_in t ≡ Some p → All P (variables_of t) → EachVariable P p
  each-variable t p e h = each-code t p e (recursion_from_All P (variables_of t) h)

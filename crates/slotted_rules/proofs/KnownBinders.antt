-- A table that knows the names of a pattern knows those of its binders.
use Rattle.std.proofs.Common.{◌≡◌, sym, subst, ℕ, List, [], ◌∷◌, ◌++◌, length, take, drop, map}
use Rattle.std.specs.Prelude.{IsTrue, Some}
use Rattle.slotted_lists.proofs.Each.{Each, Each-take, Each-drop}
use Rattle.slotted_slots.specs.Table.{Table, is_known}
use Rattle.slotted_nodes.specs.Form.{Form, Tree, leaf, own, child, bind, scopes, children}
use Rattle.slotted_languages.specs.Shape.{Fits}
use Rattle.slotted_languages.proofs.NodeTerms.{own_fits, child_rest_fits, bind_inner_fits, bind_rest_fits}
use Rattle.slotted_patterns.specs.Known.{AreKnown, HasKnownNames, HaveKnownNames}
use Rattle.slotted_patterns.specs.Tree.{PatternTree, enode, pvar, substitution, PatternRow, no_more, one_more, row_of}
use Rattle.slotted_patterns.specs.View.{tree_of, tree_step}
use Rattle.slotted_patterns.specs.declared.pattern.Pattern.{Pattern}
use Rattle.slotted_patterns.specs.declared.pattern.Pattern.TheOpen.{Pattern-F}
use Rattle.slotted_patterns.specs.declared.pattern.Pattern.TheFolds.{fold-roll-Pattern, ind-Pattern, map-Pattern}
use Rattle.slotted_model_rules.specs.Patterns as model
use Rattle.slotted_rule_patterns.specs.PatternCode.{filled_pattern, pattern_in, patterns_in}
use Rattle.slotted_rule_patterns.proofs.Parts.{first-parts, node-parts, replacing-parts}
use Rattle.slotted_rules.proofs.NodesOver.{first-of}

abbrev mutual
  -- the table knows the name of each binder
  pub HasKnownBinders : Table → model.Pattern → Type 0
  HasKnownBinders t (model.pattern_node op payloads args) = HaveKnownBinders t args
  HasKnownBinders t (model.variable v) = Unit {0}
  HasKnownBinders t (model.replacing body part value) = HasKnownBinders t body × HasKnownBinders t part × HasKnownBinders t value

  pub HaveKnownBinders : Table → model.PatternArgs → Type 0
  HaveKnownBinders t model.no_argument = Unit {0}
  HaveKnownBinders t (model.own_name x rest) = HaveKnownBinders t rest
  HaveKnownBinders t (model.child_pattern p rest) = HasKnownBinders t p × HaveKnownBinders t rest
  HaveKnownBinders t (model.binding x inner rest) = IsTrue (is_known t x) × HaveKnownBinders t inner × HaveKnownBinders t rest

abbrev mutual
  -- each node has as many names as places
  HasFittingNodes : PatternTree → Type 0
  HasFittingNodes (enode f row) = Fits f × HaveFittingNodes row
  HasFittingNodes (pvar v) = Unit {0}
  HasFittingNodes (substitution b x v) = HasFittingNodes b × HasFittingNodes x × HasFittingNodes v

  HaveFittingNodes : PatternRow → Type 0
  HaveFittingNodes no_more = Unit {0}
  HaveFittingNodes (one_more p rest) = HasFittingNodes p × HaveFittingNodes rest

-- patterns of a language

module _ {L : Type 0} (form : L → Form) (fits : (n : L) → Fits (form n)) where
  abbrev IsFitting : Pattern L → Type 0
  IsFitting p = HasFittingNodes (tree_of form p)

  children_fit : (ps : List ((p : Pattern L) × IsFitting p)) → HaveFittingNodes (row_of (map (tree_of form) (map (λ e. e.0) ps)))
  children_fit [] = tt
  children_fit (p ∷ ps) = (p.1, children_fit ps)

  level_fits : (y : Pattern-F L ((p : Pattern L) × IsFitting p)) → HasFittingNodes (tree_step form (map-Pattern L (Pattern L) PatternTree (tree_of form) (map-Pattern L ((p : Pattern L) × IsFitting p) (Pattern L) (λ e. e.0) y)))
  level_fits (Pattern-F.ENode n inner) = (fits n, children_fit inner.items)
  level_fits (Pattern-F.PVar v) = tt
  level_fits (Pattern-F.Subst body place value) = (body.value.1, place.value.1, value.value.1)

  nodes_fit : (p : Pattern L) → IsFitting p
  nodes_fit = ind-Pattern L IsFitting (λ x y is.
      subst HasFittingNodes (sym (fold-roll-Pattern L PatternTree (tree_step form) x))
      (subst (λ z. HasFittingNodes (tree_step form (map-Pattern L (Pattern L) PatternTree (tree_of form) z))) is (level_fits y)))

module _ (t : Table) where
  each-known : (xs : List ℕ) → AreKnown t xs → Each (λ x. IsTrue (is_known t x)) xs
  each-known [] h = tt
  each-known (x ∷ xs) h = (h.0, each-known xs h.1)

  filled-binders : (u : Tree) (xs : List ℕ) (ps : List model.Pattern) → length xs ≡ length (scopes u) → Each (λ x. IsTrue (is_known t x)) xs → Each (HasKnownBinders t) ps → HaveKnownBinders t (filled_pattern u xs ps)
  filled-binders leaf xs ps n known h = tt
  filled-binders (own r) xs ps n known h = filled-binders r (drop 1 xs) ps (own_fits r xs n) (Each-drop (λ x. IsTrue (is_known t x)) 1 xs known) h
  filled-binders (child i ks r) xs [] n known h = tt
  filled-binders (child i ks r) xs (p ∷ ps) n known h =
      (h.0, filled-binders r (drop (length ks) xs) ps (child_rest_fits i ks r xs n) (Each-drop (λ x. IsTrue (is_known t x)) (length ks) xs known) h.1)
  filled-binders (bind u r) xs ps n known h =
      let P : ℕ → Type 0 = λ x. IsTrue (is_known t x) in
      let m = length (scopes u) in
      let q = length (children u) in
      let later : Each P (drop 1 xs) = Each-drop P 1 xs known in (
        first-of P xs (length (scopes u ++ scopes r)) n known,
        filled-binders u (take m (drop 1 xs)) (take q ps) (bind_inner_fits u r xs n) (Each-take P m (drop 1 xs) later) (Each-take (HasKnownBinders t) q ps h),
        filled-binders r (drop m (drop 1 xs)) (drop q ps) (bind_rest_fits u r xs n) (Each-drop P m (drop 1 xs) later) (Each-drop (HasKnownBinders t) q ps h),
      )

  mutual
    tree-binders : (q : PatternTree) (p : model.Pattern) → pattern_in q ≡ Some p → HasKnownNames t q → HasFittingNodes q → HasKnownBinders t p
    tree-binders (enode f row) p e known fit =
        let n = node-parts f row p e in
        subst (HasKnownBinders t) (sym n.is) (filled-binders f.tree f.names n.patterns fit.0 (each-known f.names known.0) (row-binders row n.patterns n.are known.1 fit.1))
    tree-binders (pvar v) p e known fit = let same : model.variable v ≡ p = cc in subst (HasKnownBinders t) same tt
    tree-binders (substitution b x v) p e known fit =
        let n = replacing-parts b x v p e in
        subst (HasKnownBinders t) (sym n.is) (tree-binders b n.body n.body_is known.0 fit.0, tree-binders x n.part n.part_is known.1 fit.1, tree-binders v n.value n.value_is known.2 fit.2)

    row-binders : (row : PatternRow) (ps : List model.Pattern) → patterns_in row ≡ Some ps → HaveKnownNames t row → HaveFittingNodes row → Each (HasKnownBinders t) ps
    row-binders no_more ps e known fit = let none : [] ≡ ps = cc in subst (Each (HasKnownBinders t)) none tt
    row-binders (one_more q row) ps e known fit =
        let n = first-parts q row ps e in
        subst (Each (HasKnownBinders t)) (sym n.is) (tree-binders q n.first n.first_is known.0 fit.0, row-binders row n.others n.others_are known.1 fit.1)

  pub known-binders : {L : Type 0} (form : L → Form) → ((n : L) → Fits (form n)) → (q : Pattern L) (p : model.Pattern) → pattern_in (tree_of form q) ≡ Some p → HasKnownNames t (tree_of form q) → HasKnownBinders t p
  known-binders form fits q p e known = tree-binders (tree_of form q) p e known (nodes_fit form fits q)

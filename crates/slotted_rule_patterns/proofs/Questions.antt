-- What holds of each pattern inside, or of one of them, by the first for which the answer is yes.
use Rattle.std.proofs.Common.{◌≡◌, ℕ, suc, List, [], ◌∷◌, ◌++◌, length, reverse, Bool, true, false, refl, sym, ap, map, ◌∙◌, Vec}
use Rattle.std.specs.Prelude.{cond, not, ◌&&◌, ◌||◌, ◌==◌, Option, Some, None, option_and_then, option_map, is_some}
use Rattle.std.specs.List.{find, list_any}
use Rattle.std.specs.Option.{option_or}
use Rattle.std.specs.Str.{bytes_eq}
use Rattle.std.proofs.lemmas.Bool.{false≢true}
use Rattle.std.proofs.lemmas.List.Folds.{find-append, list_any-append}
use Rattle.std.specs.declared.alloc.Global.{Global}
use Rattle.std.proofs.lemmas.List.{length-map}
use Rattle.slotted_nodes.specs.Form.{Form, children}
use Rattle.slotted_patterns.specs.Subpatterns.{patterns_in as row_list, subpatterns}
use Rattle.slotted_patterns.specs.Tree.{PatternTree, enode, pvar, substitution, PatternRow, no_more, one_more, row_of}
use Rattle.slotted_patterns.specs.View.{tree_of}
use Rattle.slotted_patterns.specs.declared.pattern.Pattern.{Pattern as Tree, ENode}
use Rattle.slotted_patterns.proofs.Folds.{patterns_in-row}
use Rattle.slotted_model.specs.LookUp.{both}
use Rattle.slotted_model_rules.specs.Patterns.{Pattern, replacing}
use Rattle.slotted_rule_patterns.specs.Inside.{first_such, is_miscounted, is_named, is_outside, is_substitution, name_in}
use Rattle.slotted_rule_patterns.specs.PatternCode.{pattern_in, patterns_in, pattern_over}
use Rattle.slotted_rule_patterns.specs.Variables.{first_outside, has_substitution, have_substitution, has_variable, variables_of, variables_of_row}
use Rattle.slotted_rule_patterns.proofs.FirstInside.{asked-node, asked-row, asked-substitution, asked-own, first-node, first-row, first-substitution, row_such}
use Rattle.slotted_rule_patterns.proofs.Parts.{first-parts}
use Rattle.slotted_rule_patterns.proofs.Rows.{tree_of-node}
use Rattle.slotted_rule_patterns.proofs.Whole.{is_some-over}

pub or-false : (b : Bool) → (b || false) ≡ b
or-false true = refl
or-false false = refl

or-true : (b : Bool) → (b || true) ≡ true
or-true true = refl
or-true false = refl

mutual
  pub asks-substitution : (t : PatternTree) → is_some (first_such is_substitution t) ≡ has_substitution t
  asks-substitution (enode f row) = asked-node is_substitution f row ∙ (or-false (is_some (row_such is_substitution row)) ∙ asks-substitutions row)
  asks-substitution (pvar v) = refl
  asks-substitution (substitution b x t) =
      let q = is_substitution in
      asked-substitution q b x t
      ∙ (ap (λ c. is_some (first_such q b) || (is_some (first_such q x) || c)) (or-true (is_some (first_such q t)))
      ∙ (ap (λ c. is_some (first_such q b) || c) (or-true (is_some (first_such q x))) ∙ or-true (is_some (first_such q b))))

  asks-substitutions : (row : PatternRow) → is_some (row_such is_substitution row) ≡ have_substitution row
  asks-substitutions no_more = refl
  asks-substitutions (one_more p rest) = asked-row is_substitution p rest ∙ (λ i. asks-substitution p i || asks-substitutions rest i)

module _ (name : List ℕ) where
  abbrev named : PatternTree → Bool
  named = is_named name

  mutual
    pub asks-variable : (t : PatternTree) → is_some (first_such named t) ≡ has_variable t name
    asks-variable (enode f row) = asked-node named f row ∙ (or-false (is_some (row_such named row)) ∙ asks-variables row)
    asks-variable (pvar v) = asked-own named (pvar v) ∙ sym (or-false (bytes_eq name v))
    asks-variable (substitution b x t) =
        asked-substitution named b x t
        ∙ ((λ i. asks-variable b i || (asks-variable x i || (or-false (is_some (first_such named t)) ∙ asks-variable t) i))
        ∙ (ap (λ c. has_variable b name || c) (sym (list_any-append (bytes_eq name) (variables_of x) (variables_of t)))
        ∙ sym (list_any-append (bytes_eq name) (variables_of b) (variables_of x ++ variables_of t))))

    asks-variables : (row : PatternRow) → is_some (row_such named row) ≡ list_any (bytes_eq name) (variables_of_row row)
    asks-variables no_more = refl
    asks-variables (one_more p rest) =
        asked-row named p rest
        ∙ ((λ i. asks-variable p i || asks-variables rest i) ∙ sym (list_any-append (bytes_eq name) (variables_of p) (variables_of_row rest)))

-- the name of a variable
abbrev name_of : PatternTree → List ℕ
name_of (enode f row) = []
name_of (pvar v) = v
name_of (substitution b x t) = []

module _ (known : List ℕ → Bool) where
  abbrev outside : PatternTree → Bool
  outside = is_outside known

  abbrev unknown : List ℕ → Bool
  unknown v = not (known v)

  map-or : (a b : Option PatternTree) → option_map name_of (option_or a b) ≡ option_or (option_map name_of a) (option_map name_of b)
  map-or None b = refl
  map-or (Some x) b = refl

  or-none : (o : Option (List ℕ)) → option_or o None ≡ o
  or-none None = refl
  or-none (Some x) = refl

  one : (b : Bool) (v : List ℕ) → option_map name_of (cond b (Some (pvar v)) None) ≡ cond b (Some v) None
  one true v = refl
  one false v = refl

  mutual
    asks-outside : (t : PatternTree) → option_map name_of (first_such outside t) ≡ first_outside known t
    asks-outside (enode f row) =
        ap (option_map name_of) (first-node outside f row)
        ∙ (map-or (row_such outside row) None ∙ (or-none (option_map name_of (row_such outside row)) ∙ ask-outside row))
    asks-outside (pvar v) = one (not (known v)) v
    asks-outside (substitution b x t) =
        ap (option_map name_of) (first-substitution outside b x t)
        ∙ (map-or (first_such outside b) _
        ∙ (ap (option_or (option_map name_of (first_such outside b))) (map-or (first_such outside x) _ ∙ ap (option_or (option_map name_of (first_such outside x))) (map-or (first_such outside t) None ∙ or-none (option_map name_of (first_such outside t))))
        ∙ ((λ i. option_or (asks-outside b i) (option_or (asks-outside x i) (asks-outside t i)))
        ∙ (ap (option_or (first_outside known b)) (sym (find-append unknown (variables_of x) (variables_of t)))
        ∙ sym (find-append unknown (variables_of b) (variables_of x ++ variables_of t))))))

    ask-outside : (row : PatternRow) → option_map name_of (row_such outside row) ≡ find unknown (variables_of_row row)
    ask-outside no_more = refl
    ask-outside (one_more p rest) =
        ap (option_map name_of) (first-row outside p rest)
        ∙ (map-or (first_such outside p) (row_such outside rest)
        ∙ ((λ i. option_or (asks-outside p i) (ask-outside rest i)) ∙ sym (find-append unknown (variables_of p) (variables_of_row rest))))

  found-here : (x p : PatternTree) (o : Option PatternTree) → (o ≡ Some p → outside p ≡ true) → (b : Bool) → outside x ≡ b → cond b (Some x) o ≡ Some p → outside p ≡ true
  found-here x p o later true h e = let same : x ≡ p = cc in ap outside (sym same) ∙ h
  found-here x p o later false h e = later e

  found-holds : (xs : List PatternTree) (p : PatternTree) → find outside xs ≡ Some p → outside p ≡ true
  found-holds [] p e = absurd (cc)
  found-holds (x ∷ xs) p e = found-here x p (find outside xs) (found-holds xs p) (outside x) refl e

  named-outside : (p : PatternTree) → outside p ≡ true → name_in p ≡ Some (name_of p)
  named-outside (enode f row) h = absurd (false≢true h)
  named-outside (pvar v) h = refl
  named-outside (substitution b x t) h = absurd (false≢true h)

  -- the first one is a variable, and has the name that is asked for
  pub name-outside : (t p : PatternTree) → first_such outside t ≡ Some p → name_in p ≡ first_outside known t
  name-outside t p e =
      named-outside p (found-holds (reverse (subpatterns t)) p e) ∙ (ap (option_map name_of) (sym e) ∙ asks-outside t)

  pub none-outside : (t : PatternTree) → first_such outside t ≡ None → None ≡ first_outside known t
  none-outside t e = ap (option_map name_of) (sym e) ∙ asks-outside t

-- as many patterns as stand in the row
many : (row : PatternRow) (ps : List Pattern) → patterns_in row ≡ Some ps → length ps ≡ length (row_list row)
many no_more ps e = let same : [] ≡ ps = cc in ap length (sym same)
many (one_more p rest) ps e =
    let f = first-parts p rest ps e in
    ap length f.is ∙ ap suc (many rest f.others f.others_are)

both-some : {A B C : Type 0} (f : A → B → C) (a : Option A) (b : Option B) → is_some (both f a b) ≡ (is_some a && is_some b)
both-some f None b = refl
both-some f (Some a) None = refl
both-some f (Some a) (Some b) = refl

pub neither : (a b : Bool) → not (a || b) ≡ (not a && not b)
neither true b = refl
neither false b = refl

pub twice : (b : Bool) → not (not b) ≡ b
twice true = refl
twice false = refl

then-some : {A B : Type 0} (f : A → Option B) (b : Bool) → ((x : A) → is_some (f x) ≡ b) → (o : Option A) → is_some (option_and_then f o) ≡ (is_some o && b)
then-some f b h None = refl
then-some f b h (Some x) = h x

over-asked : (f : Form) (n : ℕ) (o : Option (List Pattern)) (asked : Bool) → not asked ≡ is_some o → ((ps : List Pattern) → o ≡ Some ps → length ps ≡ n) → not (asked || not (n == length (children f.tree))) ≡ is_some (option_and_then (pattern_over f) o)
over-asked f n None true h l = refl
over-asked f n None false h l = absurd (cc)
over-asked f n (Some ps) true h l = absurd (cc)
over-asked f n (Some ps) false h l = twice (n == length (children f.tree)) ∙ sym (is_some-over f n (Some ps) refl l)

mutual
  pub asks-miscount : (t : PatternTree) → not (is_some (first_such is_miscounted t)) ≡ is_some (pattern_in t)
  asks-miscount (enode f row) =
      ap not (asked-node is_miscounted f row)
      ∙ over-asked f (length (row_list row)) (patterns_in row) (is_some (row_such is_miscounted row)) (asks-miscounts row) (many row)
  asks-miscount (pvar v) = refl
  asks-miscount (substitution b x t) =
      let q = is_miscounted in
      let three = neither (is_some (first_such q x)) (is_some (first_such q t)) ∙ (λ i. asks-miscount x i && asks-miscount t i) in
      ap not (asked-substitution q b x t ∙ ap (λ c. is_some (first_such q b) || (is_some (first_such q x) || c)) (or-false (is_some (first_such q t))))
      ∙ (neither (is_some (first_such q b)) _
      ∙ ((λ i. asks-miscount b i && three i)
      ∙ sym (then-some (λ body. both (λ part value. replacing body part value) (pattern_in x) (pattern_in t)) (is_some (pattern_in x) && is_some (pattern_in t))
      (λ body. both-some (λ part value. replacing body part value) (pattern_in x) (pattern_in t)) (pattern_in b))))

  asks-miscounts : (row : PatternRow) → not (is_some (row_such is_miscounted row)) ≡ is_some (patterns_in row)
  asks-miscounts no_more = refl
  asks-miscounts (one_more p rest) =
      ap not (asked-row is_miscounted p rest)
      ∙ (neither (is_some (first_such is_miscounted p)) (is_some (row_such is_miscounted rest))
      ∙ ((λ i. asks-miscount p i && asks-miscounts rest i) ∙ sym (both-some (λ q qs. q ∷ qs) (pattern_in p) (patterns_in rest))))

-- whether a node has another number of child patterns
module _ {L : Type 0} (form : L → Form) (p : Tree L) (n : L) (ps : Vec (Tree L) Global) (is : p ≡ ENode n ps) where
  pub miscounted-node : (count many : ℕ) → count ≡ length ps.items → many ≡ length (children (form n).tree) → not (count == many) ≡ is_miscounted (tree_of form p)
  miscounted-node count many c m =
      let listed : length (row_list (row_of (map (tree_of form) ps.items))) ≡ length ps.items =
      ap length (patterns_in-row (map (tree_of form) ps.items)) ∙ length-map ps.items (tree_of form) in
      (λ i. not ((c ∙ sym listed) i == m i)) ∙ sym (ap is_miscounted (tree_of-node form p n ps is))

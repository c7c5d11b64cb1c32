-- Instances on a stack: those of the parts of a pattern give way to one of the pattern.
use Rattle.std.proofs.Common.{◌≡◌, ◌∙◌, ap, refl, sym, subst, ℕ, zero, suc, ◌+◌, ◌-◌, ◌<◌, ◌≤◌, List, [], ◌∷◌, ◌++◌, length, get_or, map, take, drop, arith, append_assoc, length-append, length-drop}
use Rattle.std.specs.Prelude.{All, Some, true}
use Rattle.std.proofs.lemmas.List.{get_or-map, length-map, take-append-drop, take_all, take_more}
use Rattle.std.proofs.lemmas.List.Elements.{All-drop}
use Rattle.std.proofs.Math.Seq.{get_or-append_seam, take-append_seam}
use Rattle.slotted_slots.specs.Table.{Table, AllKnown}
use Rattle.slotted_nodes.specs.Form.{Form, children}
use Rattle.slotted_languages.specs.Shape.{Fits}
use Rattle.slotted_patterns.specs.Known.{AreKnown, HaveKnownNames}
use Rattle.slotted_patterns.specs.Subpatterns.{before_parts, parts, patterns_in as row_list, subpatterns, EndsInParts}
use Rattle.slotted_patterns.specs.Tree.{PatternTree, enode, pvar, substitution, PatternRow, no_more, one_more, row_of}
use Rattle.slotted_patterns.proofs.Folds.{EachOf, Folds, ends-length, folds-end, folds-inside, folds-parts, folds-start, folds-step, patterns_in-row}
use Rattle.slotted_model.specs.Applied.{Applied}
use Rattle.slotted_model_rules.specs.Conditions.{Values}
use Rattle.slotted_model_rules.specs.Matcher.{value_at}
use Rattle.slotted_model_rules.specs.Patterns.{Pattern}
use Rattle.slotted_rule_patterns.specs.PatternCode.{pattern_in, patterns_in}
use Rattle.slotted_rule_patterns.specs.Variables.{has_value, variables_of, variables_of_row}
use Rattle.slotted_rule_patterns.proofs.Parts.{node-parts, first-parts}
use Rattle.slotted_classes.specs.ChildIds.{child_ids}
use Rattle.slotted_lookup.specs.Filling.{node_over}
use Rattle.slotted_lookup.proofs.NodesOver.{child_ids-over}
use Rattle.slotted_graph.specs.Adding.{AddsSyn}
use Rattle.slotted_graph.specs.Graph.{Graph, IsFullId}
use Rattle.slotted_graph.specs.States.{IsGraph}
use Rattle.slotted_graph.specs.ValidIds.{IsValidId}
use Rattle.slotted_rules.specs.Building.{Builds}
use Rattle.slotted_rules.specs.Instances.{AreValidValues, Instantiates}
use Rattle.slotted_rules.specs.Methods.{Method}
use Rattle.slotted_rules.specs.Stacked.{AreInstances, BuildsOver, IsReady, Makes, PutsLast, ids_before, last_ids}
use Rattle.slotted_rules.proofs.Answers.{instance-wider, makes-then}
use Rattle.slotted_rules.proofs.BuiltInstances.{built-node, makes-itself, substituted-instance, variable-instance}
use Rattle.slotted_rules.proofs.NodesOver.{known-over}
use Rattle.slotted_rules.proofs.Parts.{all-known, known-later, pattern_at, ready-parts, some-is, some-of, values-left, values-right}
use Rattle.slotted_rules.specs.Frames.{at}

module _ (m : Method) (g h : Graph) (s : Values) where
  pub instances-length : (ids : List Applied) (qs : List PatternTree) → AreInstances m g h s ids qs → length ids ≡ length qs
  instances-length [] [] i = refl
  instances-length [] (q ∷ qs) i = absurd i
  instances-length (a ∷ ids) [] i = absurd i
  instances-length (a ∷ ids) (q ∷ qs) i = ap suc (instances-length ids qs i.1)

  instances-more : (ids : List Applied) (qs : List PatternTree) (a : Applied) (q : PatternTree) → AreInstances m g h s ids qs → Instantiates m g h s q a → AreInstances m g h s (ids ++ a ∷ []) (qs ++ q ∷ [])
  instances-more [] [] a q i n = (n, tt)
  instances-more [] (p ∷ qs) a q i n = absurd i
  instances-more (b ∷ ids) [] a q i n = absurd i
  instances-more (b ∷ ids) (p ∷ qs) a q i n = (i.0, instances-more ids qs a q i.1 n)

  instances-split : (ids bs : List Applied) (qs ps : List PatternTree) → length bs ≡ length ps → AreInstances m g h s (ids ++ bs) (qs ++ ps) → AreInstances m g h s ids qs × AreInstances m g h s bs ps
  instances-split [] bs [] ps n i = (tt, i)
  instances-split [] bs (q ∷ qs) ps n i = absurd (omega (arith, n, instances-length bs (q ∷ (qs ++ ps)) i, length-append qs ps))
  instances-split (a ∷ ids) bs [] ps n i = absurd (omega (arith, n, instances-length (a ∷ (ids ++ bs)) ps i, length-append ids bs))
  instances-split (a ∷ ids) bs (q ∷ qs) ps n i = let r = instances-split ids bs qs ps n i.1 in ((i.0, r.0), r.1)

  instances-at : (ids : List Applied) (qs : List PatternTree) → AreInstances m g h s ids qs → (j : ℕ) → j < length qs → Instantiates m g h s (pattern_at qs j) (at ids j)
  instances-at [] [] i j l = absurd (omega arith)
  instances-at [] (q ∷ qs) i j l = absurd i
  instances-at (a ∷ ids) [] i j l = absurd i
  instances-at (a ∷ ids) (q ∷ qs) i zero l = i.0
  instances-at (a ∷ ids) (q ∷ qs) i (suc j) l = instances-at ids qs i.1 j (omega arith)

  pub instances-valid : (ids : List Applied) (qs : List PatternTree) → AreInstances m g h s ids qs → All (IsValidId h) ids
  instances-valid [] [] i k d l = absurd (omega arith)
  instances-valid [] (q ∷ qs) i k d l = absurd i
  instances-valid (a ∷ ids) [] i k d l = absurd i
  instances-valid (a ∷ ids) (q ∷ qs) i zero d l = i.0.valid
  instances-valid (a ∷ ids) (q ∷ qs) i (suc k) d l = instances-valid ids qs i.1 k d (omega arith)

  -- those of the parts, and those before them
  last-instances : (ids : List Applied) (done : List PatternTree) (q : PatternTree) → EndsInParts q done → AreInstances m g h s ids done
      → AreInstances m g h s (ids_before (length (parts q)) ids) (before_parts q done) × AreInstances m g h s (last_ids (length (parts q)) ids) (parts q)
  last-instances ids done q ends i =
      let n = length (parts q) in
      let k = length ids - n in
      let same : length (drop k ids) ≡ n = omega (arith, length-drop k ids, ends-length q done ends, instances-length ids done i) in
      instances-split (take k ids) (drop k ids) (before_parts q done) (parts q) same
      (subst (λ xs. AreInstances m g h s xs (before_parts q done ++ parts q)) (sym (take-append-drop k ids)) (subst (AreInstances m g h s ids) ends i))

-- later they are instances still
later-instances : (m : Method) (g h i : Graph) (s : Values) → IsGraph g → Makes m h i → (ids : List Applied) (qs : List PatternTree) → AreInstances m g h s ids qs → AreInstances m g i s ids qs
later-instances m g h i s is after [] [] n = tt
later-instances m g h i s is after [] (q ∷ qs) n = absurd n
later-instances m g h i s is after (a ∷ ids) [] n = absurd n
later-instances m g h i s is after (a ∷ ids) (q ∷ qs) n = (instance-wider m g g h i s q a (makes-itself m g is) after n.0, later-instances m g h i s is after ids qs n.1)

builds-makes : (m : Method) (g h : Graph) → Builds g h → Makes m g h
builds-makes m g h b = record { grows = b.grows; asserts = λ k. b.asserts }

-- a node
pub over-node : (m : Method) (h i : Graph) (s : Values) (f : Form) (qs : List PatternTree) (ids rest : List Applied) (a : Applied) → Fits f → length qs ≡ length (children f.tree)
    → rest ≡ ids_before (length (children f.tree)) ids → AddsSyn h i (node_over f (last_ids (length (children f.tree)) ids)) a → Builds h i → IsFullId i a
    → BuildsOver m h i s (enode f (row_of qs)) ids rest a
over-node m h i s f qs ids rest a fits many left syn builds full =
    let q = enode f (row_of qs) in
    let row : parts q ≡ qs = patterns_in-row qs in
    let count : length (parts q) ≡ length (children f.tree) = ap length row ∙ many in
    record {
      makes = builds-makes m h i builds;
      left = left ∙ ap (λ n. ids_before n ids) (sym count);
      builds = λ g done is known makes ends each.
          let below = last_ids (length (children f.tree)) ids in
          let last : AreInstances m g h s below qs =
          subst (λ n. AreInstances m g h s (last_ids n ids) qs) count (subst (AreInstances m g h s (last_ids (length (parts q)) ids)) row (last-instances m g h s ids done q ends each).1) in
          let n : length below ≡ length (children f.tree) = instances-length m g h s below qs last ∙ many in
          built-node m g s f qs fits h (node_over f below) (length below)
          (record { ids = below; count = refl; form = refl; makes = makes; each = λ j l. instances-at m g h s below qs last j (omega (arith, l, n, many)) })
          n many known.0 i a syn builds full;
    }

-- a variable
pub over-variable : (m : Method) (h : Graph) (s : Values) (v : List ℕ) (ids rest : List Applied) (a : Applied) → IsGraph h → AreValidValues h s → value_at s v ≡ Some a → rest ≡ ids → BuildsOver m h h s (pvar v) ids rest a
over-variable m h s v ids rest a is valid found left = record {
  makes = makes-itself m h is;
  left = left ∙ sym (all-before ids);
  builds = λ g done old known makes ends each. instance-wider m g h h h s (pvar v) a makes (makes-itself m h is) (variable-instance m h s is valid v a found);
}
  where
    all-before : (ids : List Applied) → ids_before 0 ids ≡ ids
    all-before ids = take_all (length ids - 0) ids (omega arith)

-- a substitution
pub over-substitution : (m : Method) (h i : Graph) (s : Values) (b x t : PatternTree) (ids rest : List Applied) (a : Applied) → PutsLast m h i ids rest a → BuildsOver m h i s (substitution b x t) ids rest a
over-substitution m h i s b x t ids rest a p =
    let three = p.body ∷ p.part ∷ p.value ∷ [] in
    let split = λ (g : Graph) (done : List PatternTree) (ends : EndsInParts (substitution b x t) done) (each : AreInstances m g h s ids done).
    instances-split m g h s rest three (before_parts (substitution b x t) done) (b ∷ x ∷ t ∷ []) refl (subst (λ xs. AreInstances m g h s xs (before_parts (substitution b x t) done ++ (b ∷ x ∷ t ∷ []))) p.last (subst (AreInstances m g h s ids) ends each)) in
    record {
      makes = record { grows = p.puts.grows; asserts = λ k. (p.puts.filled k).stands.asserts };
      left = sym (seam rest three) ∙ ap (ids_before 3) (sym p.last);
      builds = λ g done is known makes ends each.
          let last = (split g done ends each).1 in
          substituted-instance m g h i s b x t p.body p.part p.value a is makes last.0 last.1.0 last.1.1.0 p.puts;
    }
  where
    seam : (xs ys : List Applied) → ids_before (length ys) (xs ++ ys) ≡ xs
    seam xs ys =
        let at-end : length (xs ++ ys) - length ys ≡ length xs = omega (arith, length-append xs ys) in
        ap (λ k. take k (xs ++ ys)) at-end ∙ take-append_seam xs ys

-- what is asked of a pattern is asked of its parts
ready-row : (t : Table) (s : Values) (row : PatternRow) (ps : List Pattern) → HaveKnownNames t row → patterns_in row ≡ Some ps → All (λ v. has_value s v ≡ true) (variables_of_row row) → EachOf (IsReady t s) (row_list row)
ready-row t s no_more ps k e v = tt
ready-row t s (one_more q rest) ps k e v =
    let n = first-parts q rest ps e in (
      record { known = k.0; whole = some-is (pattern_in q) n.first n.first_is; given = values-left s (variables_of q) (variables_of_row rest) v },
      ready-row t s rest n.others k.1 n.others_are (values-right s (variables_of q) (variables_of_row rest) v),
    )

inward : (t : Table) (s : Values) (q : PatternTree) → IsReady t s q → EachOf (IsReady t s) (parts q)
inward t s (enode f row) r =
    let p = some-of (pattern_in (enode f row)) r.whole in
    let n = node-parts f row p.0 p.1 in
    ready-row t s row n.patterns r.known.1 n.are r.given
inward t s (pvar v) r = tt
inward t s (substitution b x v) r =
    let parts = ready-parts t t s b x v (λ n k. k) r in
    (parts.body, (parts.part, (parts.value, tt)))

-- of the subpatterns of p these are left, and for those that were taken these ids wait
pub record Waits (m : Method) (g h : Graph) (s : Values) (p : PatternTree) (left : List PatternTree) (ids : List Applied) : Type 0 where
  pub done : List PatternTree
  pub folds : Folds p left done
  pub makes : Makes m g h
  pub each : AreInstances m g h s ids done

pub waits-start : (m : Method) (g : Graph) (s : Values) (p : PatternTree) (left : List PatternTree) (ids : List Applied) → IsGraph g → left ≡ subpatterns p → ids ≡ [] → Waits m g g s p left ids
waits-start m g s p left ids is all none = record {
  done = [];
  folds = subst (λ l. Folds p l []) (sym all) (folds-start p);
  makes = makes-itself m g is;
  each = subst (λ l. AreInstances m g g s l []) (sym none) tt;
}

module _ (m : Method) (g h : Graph) (s : Values) (p x : PatternTree) (left : List PatternTree) (ids : List Applied) (w : Waits m g h s p (left ++ x ∷ []) ids) where
  first-ready : IsReady g.table s p → IsReady g.table s x
  first-ready r = folds-inside (IsReady g.table s) (inward g.table s) p x left w.done r w.folds

  pub next-ready : IsReady g.table s p → IsReady h.table s x
  next-ready r =
      let here = first-ready r in
      record { known = known-later g.table h.table w.makes.grows.extends.more x here.known; whole = here.whole; given = here.given }

  pub next-enough : length (parts x) ≤ length ids
  next-enough = omega (arith, ends-length x w.done (folds-parts p x left w.done w.folds), instances-length m g h s ids w.done w.each)

  pub waits-valid : All (IsValidId h) ids
  waits-valid = instances-valid m g h s ids w.done w.each

  pub waits-step : (i : Graph) (rest new : List Applied) (a : Applied) → IsGraph g → IsReady g.table s p → BuildsOver m h i s x ids rest a → new ≡ rest ++ a ∷ [] → Waits m g i s p left new
  waits-step i rest new a is ready b more =
      let ends = folds-parts p x left w.done w.folds in
      let before = later-instances m g h i s is b.makes (ids_before (length (parts x)) ids) (before_parts x w.done) (last-instances m g h s ids w.done x ends w.each).0 in
      let here = b.builds g w.done is (first-ready ready).known w.makes ends w.each in
      record {
        done = before_parts x w.done ++ x ∷ [];
        folds = folds-step p x left w.done w.folds;
        makes = makes-then m g h i w.makes b.makes;
        each = subst (λ l. AreInstances m g i s l (before_parts x w.done ++ x ∷ [])) (sym (more ∙ ap (λ l. l ++ a ∷ []) b.left)) (instances-more m g i s (ids_before (length (parts x)) ids) (before_parts x w.done) a x before here);
      }

-- at the end one is of the whole
pub waits-end : (m : Method) (g h : Graph) (s : Values) (p : PatternTree) (ids : List Applied) → Waits m g h s p [] ids → AreInstances m g h s ids (p ∷ [])
waits-end m g h s p ids w = subst (AreInstances m g h s ids) (folds-end p w.done w.folds) w.each

pub only-one : (m : Method) (g h : Graph) (s : Values) (p : PatternTree) (ids rest : List Applied) (a : Applied) → ids ≡ rest ++ a ∷ [] → AreInstances m g h s ids (p ∷ []) → Instantiates m g h s p a
only-one m g h s p ids [] a last each = (subst (λ l. AreInstances m g h s l (p ∷ [])) last each).0
only-one m g h s p ids (b ∷ rest) a last each =
    absurd (omega (arith, instances-length m g h s ids (p ∷ []) each, ap length last, length-append rest (a ∷ [])))

-- once none is left, it is one of the whole
pub waits-whole : (m : Method) (g h : Graph) (s : Values) (p : PatternTree) (left : List PatternTree) (rest : List Applied) (a : Applied) → left ≡ [] → Waits m g h s p left (rest ++ a ∷ []) → Instantiates m g h s p a
waits-whole m g h s p left rest a none w =
    only-one m g h s p (rest ++ a ∷ []) rest a refl (waits-end m g h s p (rest ++ a ∷ []) (subst (λ l. Waits m g h s p l (rest ++ a ∷ [])) none w))

pub none-taken : (ps : List PatternTree) (k : ℕ) → k ≡ 0 → take k ps ≡ []
none-taken ps k e = ap (λ n. take n ps) e ∙ none ps
  where
    none : (ps : List PatternTree) → take 0 ps ≡ []
    none [] = refl
    none (q ∷ qs) = refl

pub some-whole : (p : PatternTree) → 1 ≤ length (subpatterns p)
some-whole (enode f row) = omega arith
some-whole (pvar v) = omega arith
some-whole (substitution b x t) = omega arith

-- the last of some listed patterns
pub last-listed : {A : Type 0} (tree : A → PatternTree) (listed : List A) (p : PatternTree) (k : ℕ) (x : A) → map tree listed ≡ subpatterns p → 0 < k → k ≤ length listed → x ≡ get_or listed (k - 1) x → take k (subpatterns p) ≡ take (k - 1) (subpatterns p) ++ tree x ∷ []
last-listed tree listed p k x all some within is =
    let j = k - 1 in
    let next : k ≡ j + 1 = omega (arith, some) in
    let here : tree x ≡ get_or (subpatterns p) j (tree x) = ap tree is ∙ (sym (get_or-map tree listed j x (tree x) (omega (arith, some, within))) ∙ ap (λ l. get_or l j (tree x)) all) in
    ap (λ n. take n (subpatterns p)) next
    ∙ (take_more (subpatterns p) j (tree x) (omega (arith, some, within, ap length all, length-map listed tree)) ∙ ap (λ y. take j (subpatterns p) ++ y ∷ []) (sym here))

-- a node over such ids can be added
pub over-known : (h : Graph) (f over : Form) (ids : List Applied) → Fits f → over ≡ node_over f ids → AreKnown h.table f.names → All (IsValidId h) ids → AllKnown h.table over.names
over-known h f over ids fits is known valid =
    subst (λ (z : Form). AllKnown h.table z.names) (sym is) (known-over h.table f ids fits (all-known h.table f.names known) (λ j d l. (valid j d l).known))

pub over-children : (h : Graph) (f over : Form) (ids : List Applied) → Fits f → over ≡ node_over f ids → length ids ≡ length (children f.tree) → All (IsValidId h) ids → All (IsValidId h) (child_ids over)
over-children h f over ids fits is count valid = subst (All (IsValidId h)) (sym (ap child_ids is ∙ child_ids-over f ids fits count)) valid

pub last-valid : (h : Graph) (n : ℕ) (ids : List Applied) → All (IsValidId h) ids → All (IsValidId h) (last_ids n ids)
last-valid h n ids valid = All-drop (IsValidId h) (length ids - n) ids valid

pub last-count : (n : ℕ) (ids : List Applied) → n ≤ length ids → length (last_ids n ids) ≡ n
last-count n ids l = omega (arith, l, length-drop (length ids - n) ids)

-- one in the midst of a list
pub all-at : {X : Type 0} (P : X → Type 0) (xs : List X) (a : X) (ys : List X) → All P (xs ++ a ∷ ys) → P a
all-at P xs a ys h = subst P (get_or-append_seam xs a ys a) (h (length xs) a (omega (arith, length-append xs (a ∷ ys))))

pub three-last : {X : Type 0} (all one two three : List X) (a b c : X) → all ≡ one ++ c ∷ [] → one ≡ two ++ b ∷ [] → two ≡ three ++ a ∷ [] → all ≡ three ++ (a ∷ b ∷ c ∷ [])
three-last all one two three a b c first second third =
    first
    ∙ (ap (λ l. l ++ c ∷ []) (second ∙ ap (λ l. l ++ b ∷ []) third)
    ∙ (append_assoc (three ++ a ∷ []) (b ∷ []) (c ∷ []) ∙ append_assoc three (a ∷ []) (b ∷ c ∷ [])))

-- Instances that are looked up along the list of a pattern's subpatterns, by a stack.
use Rattle.std.proofs.Common.{◌≡◌, ◌∙◌, ap, refl, sym, subst, ℕ, suc, ◌-◌, ◌<◌, ◌≤◌, List, [], ◌∷◌, ◌++◌, length, take, drop, arith, length-append, length-drop, take_all, inl, inr}
use Rattle.std.specs.Prelude.{All, Option, None, Some}
use Rattle.std.proofs.lemmas.List.{take-append-drop}
use Rattle.std.proofs.lemmas.List.Elements.{All-append, All-cons, All-nil, All-take}
use Rattle.slotted_nodes.specs.Form.{Form, children}
use Rattle.slotted_patterns.specs.Subpatterns.{before_parts, parts, patterns_in, subpatterns, EndsInParts}
use Rattle.slotted_patterns.specs.Tree.{PatternTree, enode, pvar, substitution, PatternRow, no_more, one_more, row_of}
use Rattle.slotted_patterns.proofs.Folds.{EachOf, Folds, ends-length, folds-end, folds-inside, folds-parts, folds-start, folds-step, patterns_in-row}
use Rattle.slotted_model.specs.Applied.{Applied}
use Rattle.slotted_model_rules.specs.Conditions.{Values}
use Rattle.slotted_model_rules.specs.Matcher.{value_at}
use Rattle.slotted_lookup.specs.Filling.{node_over}
use Rattle.slotted_graph.specs.Graph.{Graph}
use Rattle.slotted_graph.specs.Image.{FoundAlike}
use Rattle.slotted_graph.specs.LookUp.{look_up}
use Rattle.slotted_graph.specs.ValidIds.{IsValidId, IsValidNode}
use Rattle.slotted_rules.specs.Stacked.{ids_before, last_ids, over_ids}
use Rattle.slotted_rules.specs.Unless.{AreSeen, AreSeenEqual, IsSeen, IsSeenNode, SaysSeen, SeesOver}

some-same : (a b : Applied) → Some a ≡ Some b → a ≡ b
some-same a b same = cc

none-some : (a : Applied) → None ≡ Some a → ⊥
none-some a same = cc

module _ (g : Graph) (s : Values) where
  -- an instance has one id
  mutual
    pub seen-one : (t : PatternTree) (a b : Applied) → IsSeen g s t a → IsSeen g s t b → a ≡ b
    seen-one (enode f row) a b h k =
        some-same a b (sym h.4 ∙ (ap (λ ids. look_up g (node_over f ids)) (are-seen-one row h.0 k.0 h.1 k.1) ∙ k.4))
    seen-one (pvar v) a b h k = some-same a b (sym h ∙ k)
    seen-one (substitution b x t) a c h k = absurd h

    pub are-seen-one : (row : PatternRow) (ids bs : List Applied) → AreSeen g s row ids → AreSeen g s row bs → ids ≡ bs
    are-seen-one no_more [] [] h k = refl
    are-seen-one no_more [] (b ∷ bs) h k = absurd k
    are-seen-one no_more (a ∷ ids) bs h k = absurd h
    are-seen-one (one_more p rest) [] bs h k = absurd h
    are-seen-one (one_more p rest) (a ∷ ids) [] h k = absurd k
    are-seen-one (one_more p rest) (a ∷ ids) (b ∷ bs) h k = λ i. seen-one p a b h.0 k.0 i ∷ are-seen-one rest ids bs h.1 k.1 i

  pub seen-length : (qs : List PatternTree) (ids : List Applied) → AreSeen g s (row_of qs) ids → length ids ≡ length qs
  seen-length [] [] h = refl
  seen-length [] (a ∷ ids) h = absurd h
  seen-length (q ∷ qs) [] h = absurd h
  seen-length (q ∷ qs) (a ∷ ids) h = ap suc (seen-length qs ids h.1)

  seen-more : (qs : List PatternTree) (ids : List Applied) (q : PatternTree) (a : Applied) → AreSeen g s (row_of qs) ids → IsSeen g s q a → AreSeen g s (row_of (qs ++ q ∷ [])) (ids ++ a ∷ [])
  seen-more [] [] q a h n = (n, tt)
  seen-more [] (b ∷ ids) q a h n = absurd h
  seen-more (p ∷ qs) [] q a h n = absurd h
  seen-more (p ∷ qs) (b ∷ ids) q a h n = (h.0, seen-more qs ids q a h.1 n)

  seen-split : (qs ps : List PatternTree) (ids bs : List Applied) → length bs ≡ length ps → AreSeen g s (row_of (qs ++ ps)) (ids ++ bs) → AreSeen g s (row_of qs) ids × AreSeen g s (row_of ps) bs
  seen-split [] ps [] bs n h = (tt, h)
  seen-split [] ps (a ∷ ids) bs n h = absurd (omega (arith, n, seen-length ps (a ∷ (ids ++ bs)) h, length-append ids bs))
  seen-split (q ∷ qs) ps [] bs n h = absurd (omega (arith, n, seen-length (q ∷ (qs ++ ps)) bs h, length-append qs ps))
  seen-split (q ∷ qs) ps (a ∷ ids) bs n h = let r = seen-split qs ps ids bs n h.1 in ((h.0, r.0), r.1)

  -- those of the parts, and those before them
  last-seen : (ids : List Applied) (done : List PatternTree) (q : PatternTree) → EndsInParts q done → AreSeen g s (row_of done) ids
      → AreSeen g s (row_of (before_parts q done)) (ids_before (length (parts q)) ids) × AreSeen g s (row_of (parts q)) (last_ids (length (parts q)) ids)
  last-seen ids done q ends h =
      let n = length (parts q) in
      let k = length ids - n in
      let same : length (drop k ids) ≡ n = omega (arith, length-drop k ids, ends-length q done ends, seen-length done ids h) in
      seen-split (before_parts q done) (parts q) (take k ids) (drop k ids) same
      (subst (AreSeen g s (row_of (before_parts q done ++ parts q))) (sym (take-append-drop k ids)) (subst (λ ps. AreSeen g s (row_of ps) ids) ends h))

  -- an instance with an id has parts with ids
  abbrev pub HasId : PatternTree → Type 0
  HasId t = (a : Applied) × IsSeen g s t a

  row-ids : (row : PatternRow) (ids : List Applied) → AreSeen g s row ids → EachOf HasId (patterns_in row)
  row-ids no_more ids h = tt
  row-ids (one_more p rest) [] h = absurd h
  row-ids (one_more p rest) (a ∷ ids) h = ((a, h.0), row-ids rest ids h.1)

  parts-ids : (t : PatternTree) → HasId t → EachOf HasId (parts t)
  parts-ids (enode f row) h = row-ids row h.1.0 h.1.1
  parts-ids (pvar v) h = tt
  parts-ids (substitution b x t) h = absurd h.1

  row-of-in : (row : PatternRow) → row_of (patterns_in row) ≡ row
  row-of-in no_more = refl
  row-of-in (one_more p rest) = ap (one_more p) (row-of-in rest)

  -- of the subpatterns of p these are left, and for those that were taken these are the ids
  pub record Sees (p : PatternTree) (left : List PatternTree) (ids : List Applied) : Type 0 where
    pub done : List PatternTree
    pub folds : Folds p left done
    pub each : AreSeen g s (row_of done) ids

  pub sees-start : (p : PatternTree) (left : List PatternTree) (ids : List Applied) → left ≡ subpatterns p → ids ≡ [] → Sees p left ids
  sees-start p left ids all none = record {
    done = [];
    folds = subst (λ l. Folds p l []) (sym all) (folds-start p);
    each = subst (AreSeen g s no_more) (sym none) tt;
  }

  module _ (p x : PatternTree) (left : List PatternTree) (ids : List Applied) (w : Sees p (left ++ x ∷ []) ids) where
    pub sees-enough : length (parts x) ≤ length ids
    sees-enough = omega (arith, ends-length x w.done (folds-parts p x left w.done w.folds), seen-length w.done ids w.each)

    below : AreSeen g s (row_of (parts x)) (last_ids (length (parts x)) ids)
    below = (last-seen ids w.done x (folds-parts p x left w.done w.folds) w.each).1

    pub sees-step : (rest new : List Applied) (a : Applied) → SeesOver g s x ids rest (Some a) → new ≡ rest ++ a ∷ [] → Sees p left new
    sees-step rest new a o more =
        let before = (last-seen ids w.done x (folds-parts p x left w.done w.folds) w.each).0 in
        record {
          done = before_parts x w.done ++ x ∷ [];
          folds = folds-step p x left w.done w.folds;
          each = subst (AreSeen g s (row_of (before_parts x w.done ++ x ∷ []))) (sym (more ∙ ap (λ l. l ++ a ∷ []) (o.left a refl)))
              (seen-more (before_parts x w.done) (ids_before (length (parts x)) ids) x a before ((o.says below).some a refl));
        }

    -- where a part has none, the whole has none
    pub sees-none : (rest : List Applied) → SeesOver g s x ids rest None → SaysSeen g s p None
    sees-none rest o = record {
      some = λ a same. absurd (none-some a same);
      none = λ same a h. let inner = folds-inside HasId parts-ids p x left w.done (a, h) w.folds in (o.says below).none refl inner.0 inner.1;
    }

  one-seen : (p : PatternTree) (rest : List Applied) (a : Applied) → AreSeen g s (one_more p no_more) (rest ++ a ∷ []) → IsSeen g s p a
  one-seen p [] a h = h.0
  one-seen p (b ∷ rest) a h = absurd (omega (arith, seen-length (p ∷ []) (b ∷ (rest ++ a ∷ [])) h, length-append rest (a ∷ [])))

  says-some : (p : PatternTree) (a : Applied) → IsSeen g s p a → SaysSeen g s p (Some a)
  says-some p a h = record {
    some = λ b same. subst (IsSeen g s p) (some-same a b same) h;
    none = λ same b k. absurd (some-none a same);
  }
    where
      some-none : (a : Applied) → Some a ≡ None → ⊥
      some-none a same = cc

  -- at the end one is of the whole
  pub sees-end : (p : PatternTree) (ids rest : List Applied) (a : Applied) → Sees p [] ids → ids ≡ rest ++ a ∷ [] → SaysSeen g s p (Some a)
  sees-end p ids rest a w last =
      says-some p a (one-seen p rest a (subst (AreSeen g s (one_more p no_more)) last (subst (λ ps. AreSeen g s (row_of ps) ids) (folds-end p w.done w.folds) w.each)))

  pub sees-some : (p : PatternTree) (ids : List Applied) → Sees p [] ids → 0 < length ids
  sees-some p ids w = omega (arith, seen-length (p ∷ []) ids (subst (λ ps. AreSeen g s (row_of ps) ids) (folds-end p w.done w.folds) w.each))

  says-none : (t : PatternTree) → ((a : Applied) → ¬ IsSeen g s t a) → SaysSeen g s t None
  says-none t none = record { some = λ a same. absurd (none-some a same); none = λ same. none }

  pub valid-step : (n : ℕ) (ids rest new : List Applied) (a : Applied) → All (IsValidId g) ids → rest ≡ ids_before n ids → IsValidId g a → new ≡ rest ++ a ∷ [] → All (IsValidId g) new
  valid-step n ids rest new a valid left here more =
      subst (All (IsValidId g)) (sym (more ∙ ap (λ l. l ++ a ∷ []) left))
      (All-append (IsValidId g) (ids_before n ids) (a ∷ []) (All-take (IsValidId g) (length ids - n) ids valid) (All-cons (IsValidId g) a [] here (All-nil (IsValidId g))))

  -- a variable
  pub variable-seen : (v : List ℕ) (ids : List Applied) (a : Applied) → value_at s v ≡ Some a → SeesOver g s (pvar v) ids ids (Some a)
  variable-seen v ids a found = record { left = λ b same. sym (all-before ids); says = λ h. says-some (pvar v) a found }
    where
      all-before : (ids : List Applied) → ids_before 0 ids ≡ ids
      all-before ids = take_all (length ids - 0) ids (omega arith)

  left-none : (t : PatternTree) (ids rest : List Applied) (a : Applied) → None ≡ Some a → rest ≡ ids_before (length (parts t)) ids
  left-none t ids rest a same = absurd (none-some a same)

  pub variable-unseen : (v : List ℕ) (ids : List Applied) → value_at s v ≡ None → SeesOver g s (pvar v) ids ids None
  variable-unseen v ids found = record { left = left-none (pvar v) ids ids; says = λ h. says-none (pvar v) (λ a k. none-some a (sym found ∙ k)) }

  -- a substitution
  pub substitution-unseen : (b x t : PatternTree) (ids : List Applied) → SeesOver g s (substitution b x t) ids ids None
  substitution-unseen b x t ids = record { left = left-none (substitution b x t) ids ids; says = λ h. says-none (substitution b x t) (λ a k. k) }

  -- a node with another number of child patterns than it has children
  pub miscounted-unseen : (f : Form) (qs : List PatternTree) (ids : List Applied) → ¬ (length qs ≡ length (children f.tree)) → SeesOver g s (enode f (row_of qs)) ids ids None
  miscounted-unseen f qs ids other = record {
    left = left-none (enode f (row_of qs)) ids ids;
    says = λ h. says-none (enode f (row_of qs)) (λ a k. other (sym (seen-length qs k.0 k.1) ∙ k.2));
  }

  -- a node over the last ids
  pub node-seen : (f : Form) (qs : List PatternTree) (ids rest : List Applied) (o : Option Applied) → length qs ≡ length (children f.tree) → rest ≡ ids_before (length (children f.tree)) ids
      → IsSeenNode g (over_ids f ids) o → SeesOver g s (enode f (row_of qs)) ids rest o
  node-seen f qs ids rest o many left is =
      let count : length (parts (enode f (row_of qs))) ≡ length (children f.tree) = ap length (patterns_in-row qs) ∙ many in
      record {
        left = λ a same. left ∙ ap (λ n. ids_before n ids) (sym count);
        says = λ h.
            let each : AreSeen g s (row_of qs) (last_ids (length (children f.tree)) ids) =
            subst (λ n. AreSeen g s (row_of qs) (last_ids n ids)) count (subst (λ ps. AreSeen g s (row_of ps) (last_ids (length (parts (enode f (row_of qs)))) ids)) (patterns_in-row qs) h) in
            by (last_ids (length (children f.tree)) ids) each is;
      }
    where
      by : (below : List Applied) → AreSeen g s (row_of qs) below → IsSeenNode g (node_over f below) o → SaysSeen g s (enode f (row_of qs)) o
      by below each (inl none) =
          let same : SaysSeen g s (enode f (row_of qs)) None = says-none (enode f (row_of qs)) (λ a k.
          none.0 (subst (λ l. IsValidNode g (node_over f l)) (are-seen-one (row_of qs) k.0 below k.1 each) k.3)) in
          subst (SaysSeen g s (enode f (row_of qs))) (sym none.1) same
      by below each (inr some) = record {
        some = λ a same. (below, each, seen-length qs below each ∙ many, some.0, some.1 ∙ same);
        none = λ same a k.
            let found : look_up g (node_over f below) ≡ Some a = ap (λ l. look_up g (node_over f l)) (sym (are-seen-one (row_of qs) k.0 below k.1 each)) ∙ k.4 in
            none-some a (sym same ∙ (sym some.1 ∙ found));
      }

  -- both instances have these ids
  module _ (p q : PatternTree) (a b : Applied) (left : SaysSeen g s p (Some a)) (right : SaysSeen g s q (Some b)) where
    pub alike-seen : FoundAlike g.image a b → AreSeenEqual g s p q
    alike-seen alike = record { left = a; right = b; left_seen = left.some a refl; right_seen = right.some b refl; equal = alike }

    pub seen-alike : AreSeenEqual g s p q → FoundAlike g.image a b
    seen-alike e =
        let one : e.left ≡ a = seen-one p e.left a e.left_seen (left.some a refl) in
        let other : e.right ≡ b = seen-one q e.right b e.right_seen (right.some b refl) in
        subst (λ x. FoundAlike g.image x b) one (subst (FoundAlike g.image e.left) other e.equal)

-- Ids on a stack: those of the terms under a node give way to what the node over them is looked up as.
use Rattle.std.proofs.Common.{◌≡◌, ◌∙◌, ap, refl, sym, subst, ℕ, ◌-◌, ◌<◌, ◌≤◌, List, [], ◌∷◌, ◌++◌, length, map, take, drop, get_or, option_to_list, arith, append_assoc, length-append, length-drop}
use Rattle.std.specs.Prelude.{IfSome, IsSome, None, Option, Some, option_map}
use Rattle.std.proofs.lemmas.Bool.{false≢true}
use Rattle.std.proofs.lemmas.List.{length-map, map-append, take-append-drop}
use Rattle.std.proofs.Math.Seq.{get_or-append_seam}
use Rattle.slotted_slots.specs.declared.types.AppliedId.{AppliedId}
use Rattle.slotted_theory.specs.Term.{Term}
use Rattle.slotted_nodes.specs.Form.{Form, IsSmall, children}
use Rattle.slotted_languages.specs.Filled.{term_of}
use Rattle.slotted_languages.specs.Shape.{Fits}
use Rattle.slotted_patterns.specs.Subpatterns.{before_parts, parts, patterns_in, subpatterns, subpatterns_in, EndsInParts}
use Rattle.slotted_patterns.specs.Tree.{PatternTree, enode, pvar, substitution, PatternRow, no_more, one_more}
use Rattle.slotted_patterns.proofs.Folds.{EachOf, Folds, ends-length, folds-end, folds-inside, folds-parts, folds-start, folds-step}
use Rattle.slotted_terms.specs.Flat.{flat, flat_row}
use Rattle.slotted_terms.specs.TermPattern.{term_in, terms_in, AreGround, IsGround}
use Rattle.slotted_terms.specs.Valid.{IsValidTerm}
use Rattle.slotted_model.specs.Applied.{Applied}
use Rattle.slotted_proofs.specs.Equations.{to_applied}
use Rattle.slotted_lookup.proofs.NodesOver.{over_fits}
use Rattle.slotted_operations.proofs.Additions.TermNodes.{valid-child, valid-count}
use Rattle.slotted_operations.proofs.Additions.IdStacks.{Both, Both-at, Both-length, Both-more, Both-split}
use Rattle.slotted_graph.specs.Graph.{Graph}
use Rattle.slotted_graph.specs.LookUp.{look_up, look_up_term}
use Rattle.slotted_graph.specs.Reports.{IsFound}
use Rattle.slotted_graph.specs.States.{IsGraph}
use Rattle.slotted_graph.specs.ValidIds.{IsValidNode}
use Rattle.slotted_rules.specs.Stacked.{ids_before, last_ids, over_ids}
use Rattle.slotted_rules.proofs.LookedUp.{AreLooked, looked-node, looked-valid, none-looked}

-- the node of a tree, which stands over patterns
pub record IsHead (h : Form × ℕ) (t : PatternTree) : Type 0 where
  pub row : PatternRow
  pub is : t ≡ enode h.0 row

abbrev pub AreHeads : List (Form × ℕ) → List PatternTree → Type 0
AreHeads [] [] = Unit {0}
AreHeads [] (t ∷ ts) = ⊥
AreHeads (h ∷ hs) [] = ⊥
AreHeads (h ∷ hs) (t ∷ ts) = IsHead h t × AreHeads hs ts

heads-join : (hs ks : List (Form × ℕ)) (ts us : List PatternTree) → AreHeads hs ts → AreHeads ks us → AreHeads (hs ++ ks) (ts ++ us)
heads-join [] ks [] us a b = b
heads-join [] ks (t ∷ ts) us a b = absurd a
heads-join (h ∷ hs) ks [] us a b = absurd a
heads-join (h ∷ hs) ks (t ∷ ts) us a b = (a.0, heads-join hs ks ts us a.1 b)

mutual
  heads-flat : (p : PatternTree) → IsGround p → AreHeads (flat p) (subpatterns p)
  heads-flat (enode f row) g = (record { row = row; is = refl }, heads-row row g)
  heads-flat (pvar v) g = absurd g
  heads-flat (substitution b x t) g = absurd g

  heads-row : (row : PatternRow) → AreGround row → AreHeads (flat_row row) (subpatterns_in row)
  heads-row no_more g = tt
  heads-row (one_more p rest) g = heads-join (flat_row rest) (flat p) (subpatterns_in rest) (subpatterns p) (heads-row rest g.1) (heads-flat p g.0)

record LastHead (hs : List (Form × ℕ)) (h : Form × ℕ) (ts : List PatternTree) : Type 0 where
  pub before : List PatternTree
  pub tree : PatternTree
  pub all : ts ≡ before ++ tree ∷ []
  pub heads : AreHeads hs before
  pub head : IsHead h tree

last-head : (hs : List (Form × ℕ)) (h : Form × ℕ) (ts : List PatternTree) → AreHeads (hs ++ h ∷ []) ts → LastHead hs h ts
last-head [] h [] a = absurd a
last-head [] h (t ∷ []) a = record { before = []; tree = t; all = refl; heads = tt; head = a.0 }
last-head [] h (t ∷ (u ∷ ts)) a = absurd a.1
last-head (k ∷ hs) h [] a = absurd a
last-head (k ∷ hs) h (t ∷ ts) a =
    let r = last-head hs h ts a.1 in
    record { before = t ∷ r.before; tree = r.tree; all = ap (λ l. t ∷ l) r.all; heads = (a.0, r.heads); head = r.head }

terms-list : (row : PatternRow) → map term_in (patterns_in row) ≡ terms_in row
terms-list no_more = refl
terms-list (one_more p rest) = ap (λ l. term_in p ∷ l) (terms-list rest)

module _ (g : Graph) where
  abbrev pub IsLooked : Applied → Term → Type 0
  IsLooked a u = (look_up_term g u ≡ Some a) × IsFound g a

  -- of the subpatterns of p these are left, and what the others are looked up as waits
  pub record Looks (p : PatternTree) (left : List (Form × ℕ)) (ids : List Applied) : Type 0 where
    pub trees : List PatternTree
    pub heads : AreHeads left trees
    pub done : List PatternTree
    pub folds : Folds p trees done
    pub each : Both IsLooked ids (map term_in done)

  pub looks-start : (p : PatternTree) (left : List (Form × ℕ)) (ids : List Applied) → IsGround p → left ≡ flat p → ids ≡ [] → Looks p left ids
  looks-start p left ids ground is none = record {
    trees = subpatterns p;
    heads = subst (λ l. AreHeads l (subpatterns p)) (sym is) (heads-flat p ground);
    done = [];
    folds = folds-start p;
    each = subst (λ l. Both IsLooked l []) (sym none) tt;
  }

  module _ (is : IsGraph g) (p : PatternTree) where
    -- what holds of the whole and of all inside
    abbrev Good : PatternTree → Type 0
    Good q = IsGround q × IsValidTerm g.table (term_in q) × (look_up_term g (term_in q) ≡ None → look_up_term g (term_in p) ≡ None)

    row-good : (f : Form) (all : PatternRow) → Good (enode f all) → (prefix : List Term) (row : PatternRow) → terms_in all ≡ prefix ++ terms_in row → AreGround row → EachOf Good (patterns_in row)
    row-good f all good prefix no_more joined ground = tt
    row-good f all good prefix (one_more q rest) joined ground =
        let us = terms_in all in
        let c = term_in q in
        let here : c ≡ get_or us (length prefix) c = sym (ap (λ l. get_or l (length prefix) c) joined ∙ get_or-append_seam prefix c (terms_in rest) c) in
        let within : length prefix < length us = omega (arith, ap length joined, length-append prefix (c ∷ terms_in rest)) in
        let many : length us ≡ length (children f.tree) = valid-count g.table f us (term_of f us) refl good.1 in (
          (
            ground.0,
            valid-child g.table f us (term_of f us) refl good.1 (length prefix) c within here,
            λ none. good.2 (none-looked g f us is many (length prefix) c within here none),
          ),
          row-good f all good (prefix ++ c ∷ []) rest (joined ∙ sym (append_assoc prefix (c ∷ []) (terms_in rest))) ground.1,
        )

    inward : (q : PatternTree) → Good q → EachOf Good (parts q)
    inward (enode f row) good = row-good f row good [] row refl good.0
    inward (pvar v) good = absurd good.0
    inward (substitution b x t) good = absurd good.0

    module _ (ground : IsGround p) (valid : IsValidTerm g.table (term_in p)) (left : List (Form × ℕ)) (f : Form) (n : ℕ) (fits : Fits f) (ids : List Applied) (l : Looks p (left ++ (f, n) ∷ []) ids) where
      last : LastHead left (f, n) l.trees
      last = last-head left (f, n) l.trees l.heads

      abbrev us : List Term
      us = terms_in last.head.row

      here : Folds p (last.before ++ last.tree ∷ []) l.done
      here = subst (λ ts. Folds p ts l.done) last.all l.folds

      good : Good last.tree
      good = folds-inside Good inward p last.tree last.before l.done (ground, valid, λ none. none) here

      view : term_of f us ≡ term_in last.tree
      view = ap term_in (sym last.head.is)

      many : length us ≡ length (children f.tree)
      many = valid-count g.table f us (term_in last.tree) view good.1

      -- the terms under the node, and what they were looked up as
      parts-are : map term_in (parts last.tree) ≡ us
      parts-are = ap (λ t. map term_in (parts t)) last.head.is ∙ terms-list last.head.row

      part-count : length (parts last.tree) ≡ length (children f.tree)
      part-count = sym (length-map (parts last.tree) term_in) ∙ (ap length parts-are ∙ many)

      ends : EndsInParts last.tree l.done
      ends = folds-parts p last.tree last.before l.done here

      as-many : length ids ≡ length l.done
      as-many = Both-length IsLooked ids (map term_in l.done) l.each ∙ length-map l.done term_in

      pub looks-enough : length (children f.tree) ≤ length ids
      looks-enough = omega (arith, ends-length last.tree l.done ends, as-many, part-count)

      split : Both IsLooked (ids_before (length (children f.tree)) ids) (map term_in (before_parts last.tree l.done)) × Both IsLooked (last_ids (length (children f.tree)) ids) us
      split =
          let k = length ids - length (children f.tree) in
          let terms : map term_in l.done ≡ map term_in (before_parts last.tree l.done) ++ us =
          ap (map term_in) ends ∙ (map-append term_in (before_parts last.tree l.done) (parts last.tree) ∙ ap (λ xs. map term_in (before_parts last.tree l.done) ++ xs) parts-are) in
          let count : length (drop k ids) ≡ length us = omega (arith, length-drop k ids, looks-enough, many) in
          Both-split IsLooked (take k ids) (drop k ids) (map term_in (before_parts last.tree l.done)) us count
          (subst (λ xs. Both IsLooked xs (map term_in (before_parts last.tree l.done) ++ us)) (sym (take-append-drop k ids)) (subst (Both IsLooked ids) terms l.each))

      looked : AreLooked g f us (over_ids f ids) (length (children f.tree))
      looked =
          let below = last_ids (length (children f.tree)) ids in
          let both = split.1 in
          record {
            ids = below;
            count = Both-length IsLooked below us both ∙ many;
            form = refl;
            valid = λ j m. (Both-at IsLooked below us both j (0, []) (term_of f us) (omega (arith, m, many))).1.valid;
            found = λ j e m. (Both-at IsLooked below us both j (0, []) e (omega (arith, m, many))).0;
          }

      now : Fits (over_ids f ids)
      now = over_fits f.tree f.names (last_ids (length (children f.tree)) ids) fits

      pub looks-node : IsSmall (over_ids f ids) → IsValidNode g (over_ids f ids)
      looks-node few =
          looked-valid g f us fits (over_ids f ids) (length (children f.tree)) looked is refl many now few (subst (λ (t : Term). IsValidTerm g.table t) (sym view) good.1).known

      answered : look_up_term g (term_in last.tree) ≡ look_up g (over_ids f ids)
      answered = ap (look_up_term g) (sym view) ∙ looked-node g f us fits (over_ids f ids) (length (children f.tree)) looked is refl many now

      -- where the node is not looked up, the whole is not
      pub looks-none : look_up g (over_ids f ids) ≡ None → look_up_term g (term_in p) ≡ None
      looks-none none = good.2 (answered ∙ none)

      pub looks-step : (new : List Applied) (a : Applied) → look_up g (over_ids f ids) ≡ Some a → IsFound g a → new ≡ ids_before (length (children f.tree)) ids ++ a ∷ [] → Looks p left new
      looks-step new a found whole more = record {
        trees = last.before;
        heads = last.heads;
        done = before_parts last.tree l.done ++ last.tree ∷ [];
        folds = folds-step p last.tree last.before l.done here;
        each = subst (λ xs. Both IsLooked xs (map term_in (before_parts last.tree l.done ++ last.tree ∷ []))) (sym more)
            (subst (Both IsLooked (ids_before (length (children f.tree)) ids ++ a ∷ [])) (sym (map-append term_in (before_parts last.tree l.done) (last.tree ∷ [])))
            (Both-more IsLooked (ids_before (length (children f.tree)) ids) (map term_in (before_parts last.tree l.done)) a (term_in last.tree) split.0 (answered ∙ found, whole)));
      }

  -- at the end one id waits, for the whole
  pub looks-end : (p : PatternTree) (ids : List Applied) → Looks p [] ids → Both IsLooked ids (term_in p ∷ [])
  looks-end p ids l = by l.trees l.heads l.folds
    where
      by : (trees : List PatternTree) → AreHeads [] trees → Folds p trees l.done → Both IsLooked ids (term_in p ∷ [])
      by [] heads folds = subst (λ ts. Both IsLooked ids (map term_in ts)) (folds-end p l.done folds) l.each
      by (t ∷ ts) heads folds = absurd heads

  one-looked : (xs : List Applied) (a : Applied) (u : Term) → Both IsLooked (xs ++ a ∷ []) (u ∷ []) → IsLooked a u
  one-looked [] a u b = b.0
  one-looked (x ∷ xs) a u b = absurd (omega (arith, Both-length IsLooked (xs ++ a ∷ []) [] b.1, length-append xs (a ∷ [])))

  pub looked-last : (u : Term) (items rest : List AppliedId) (o : Option AppliedId) → items ≡ rest ++ option_to_list o → IsSome o → Both IsLooked (map to_applied items) (u ∷ [])
      → (option_map to_applied o ≡ look_up_term g u) × IfSome o (λ a. IsFound g (to_applied a))
  looked-last u items rest None is some each = absurd (false≢true some)
  looked-last u items rest (Some a) is some each =
      let one = one-looked (map to_applied rest) (to_applied a) u (subst (λ l. Both IsLooked l (u ∷ [])) (ap (map to_applied) is ∙ map-append to_applied rest (a ∷ [])) each) in
      (sym one.0, one.1)

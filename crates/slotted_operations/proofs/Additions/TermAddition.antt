-- Adding a term from below: each node over the ids of the terms under it.
use Rattle.std.proofs.Common.{◌≡◌, ◌<◌, ◌≤◌, ℕ, suc, ◌+◌, List, [], ◌∷◌, ◌++◌, length, get_or, Some, sym, ◌∙◌, ap, refl, subst, arith, inl, inr, length-append}
use Rattle.std.specs.Prelude.{All, IsSome, is_some}
use Rattle.std.proofs.lemmas.Bool.{false≢true}
use Rattle.slotted_theory.specs.Term.{Args, Term, done, args_size, term_size}
use Rattle.slotted_theory.specs.Nameless.{nameless, nameless_args}
use Rattle.slotted_slots.specs.Table.{KnowsMore, Table}
use Rattle.slotted_nodes.specs.Form.{Form, children}
use Rattle.slotted_languages.specs.Filled as form
use Rattle.slotted_languages.specs.NodeTerm.{nameless_node}
use Rattle.slotted_languages.specs.Shape.{Fits}
use Rattle.slotted_terms.specs.Valid.{IsWhole}
use Rattle.slotted_terms.proofs.TermFolds.{TermFolds, TermStep, term_folds-end, term_folds-step, weigh-append, weighs}
use Rattle.slotted_terms.proofs.TermPatterns.{whole_count}
use Rattle.slotted_model.specs.Applied.{Applied}
use Rattle.slotted_model.specs.Changes.{GoesOn}
use Rattle.slotted_model.specs.Classes.{terms, term_of, layer_of, IsFull}
use Rattle.slotted_model.specs.Growth.{Extends}
use Rattle.slotted_model.proofs.Rebuilding.GoingOn.{goes_on-then}
use Rattle.slotted_model.proofs.Represented.Growing.{Extends-same, Extends-then}
use Rattle.slotted_model.specs.Ids.{id_of, id_of_node}
use Rattle.slotted_model.proofs.Represented.LookUps.{id_of_node-moved}
use Rattle.slotted_model.proofs.Represented.Ids.{id_of-iff}
use Rattle.slotted_operations.specs.Image.{AddsClasses}
use Rattle.slotted_classes.specs.Kept.{Kept, nodes_of}
use Rattle.slotted_hashcons.specs.FiledRows.{Rows}
use Rattle.slotted_languages.specs.Sizes.{node_size}
use Rattle.slotted_hashcons.specs.WellFiled.{state_in}
use Rattle.slotted_operations.specs.Causes.{HasLargeClassIn, CanRunOutForNode, CanRunOutForTerm, HasLargeClassOrTerm, IsUnknownNode, IsUnknownTerm}
use Rattle.slotted_operations.specs.Good.{image_of, Good, RestsWith, HasFreshSlots, Adds, AddsTerm, KeepsNotes}
use Rattle.slotted_languages.specs.Beside.{IsBeside}
use Rattle.slotted_operations.specs.Graph.{MakesAtMost, RunsOutForNode, RunsOutForTerm}
use Rattle.slotted_operations.specs.Nodes.{child_ids}
use Rattle.slotted_operations.specs.Places.{args_places, term_places, term_slots}
use Rattle.slotted_operations.specs.Subterms.{IsSubterm}
use Rattle.slotted_operations.proofs.Additions.NodeAddition.{full_children}
use Rattle.slotted_operations.proofs.Graphs.Options.{none-where}
use Rattle.slotted_operations.proofs.Graphs.Continuations.{finds-on}
use Rattle.slotted_operations.proofs.Additions.NewClasses.{adds-none, same-goes_on}
use Rattle.slotted_operations.proofs.Graphs.Notes.{notes-none, notes-then}
use Rattle.slotted_operations.proofs.Graphs.Images.{adds-then}
use Rattle.slotted_classes.proofs.ChildIds.{length-ids}
use Rattle.slotted_operations.proofs.LookUps.FoundNames.{answer_full, answer_term}
use Rattle.slotted_operations.proofs.Additions.FiledSubterms.{Files, of_child, files-nothing, files-then, files-more, files-node}
use Rattle.slotted_operations.proofs.LookUps.NodesOfTrees.{node_has_id}
use Rattle.slotted_operations.proofs.LookUps.Subterms.{children_found}
use Rattle.slotted_operations.proofs.Additions.IdStacks.{Both, Both-at, Both-length, Both-map, Both-more, Both-split}
use Rattle.slotted_operations.proofs.TermsOverIds.Layers.{match-from, expand-filled, each_at, child_smaller, whole_each}
use Rattle.slotted_operations.proofs.TermsOverIds.PlaceCounts.{child_places_fit, node_fits, node_size_fits}
use Rattle.slotted_operations.proofs.Additions.Tables.{makes-more, makes-none, makes-then, runs_out-then}
use Rattle.slotted_operations.proofs.Additions.TermSlots.{slots_fit, slots_of}

-- the id stands for the term
abbrev pub IsIdFor : Kept → Applied → Term → Type 0
IsIdFor l a c = IsFull (nodes_of l) a × (term_of (nodes_of l) a ≡ nameless c)

-- the node h over ids of the terms us, where beside its children it is f
module _ (l : Kept) (good : Good l) (f h : Form) (us : List Term) (n : length us ≡ length (children f.tree)) (beside : IsBeside f h) (fits : Fits h) (answers : Both (IsIdFor l) (child_ids h) us) where
  ids : (j : ℕ) (d : Applied) (e : Term) → j < length us → IsFull (nodes_of l) (get_or (child_ids h) j d) × (term_of (nodes_of l) (get_or (child_ids h) j d) ≡ nameless (get_or us j e))
  ids = Both-at (IsIdFor l) (child_ids h) us answers

  as-many : length (child_ids h) ≡ length us
  as-many = length-ids h.tree h.names ∙ (beside.count ∙ sym n)

  node-full : All (IsFull (nodes_of l)) (child_ids h)
  node-full j d lt = (ids j d (record { op = 0; payloads = []; args = done }) (omega (arith, lt, as-many))).0

  node-layer : layer_of (nodes_of l) (nameless_node h) ≡ nameless (form.term_of f us)
  node-layer =
      let m = match-from (nodes_of l) good.stored.sane.sound.canonical (child_ids h) us as-many ids in
      let e = expand-filled (terms (nodes_of l)) (λ x. x) h.tree h.names us fits m in
      λ i. record { op = suc (beside.operator i); payloads = beside.payloads i; args = (e ∙ ap (λ (a : Args). nameless_args (λ x. x) a) (beside.outline us n)) i }

  -- it has no more places than the term
  node-size : length h.names ≤ term_places (form.term_of f us)
  node-size =
      let s = node_fits (nodes_of l) good.stored.sane.sound.canonical h us fits (n ∙ sym beside.count) (λ j d e y. ids j d e (omega (arith, y))) in
      omega (arith, s, ap args_places (beside.outline us n))

  -- nor more places, binders and children than the term's size
  node-width : node_size (nameless_node h) ≤ term_size (form.term_of f us)
  node-width =
      let s = node_size_fits (nodes_of l) good.stored.sane.sound.canonical h us fits (n ∙ sym beside.count) (λ j d e y. ids j d e (omega (arith, y))) in
      omega (arith, s, ap args_size (beside.outline us n))

  -- where the term has an id, so has the node
  node-id : IsSome (id_of (nodes_of l) (nameless (form.term_of f us))) → IsSome (id_of_node (nodes_of l) (nameless_node h))
  node-id some =
      node_has_id (nodes_of l) good.stored.sane.sound.canonical (nameless_node h) (full_children (nodes_of l) h fits node-full) (nameless (form.term_of f us)) node-layer some

-- a term in w: what is known of w holds of it
pub record IsPartOf (w : Term) (k : Kept) (c : Term) : Type 0 where
  pub whole : IsWhole c.args
  pub places : term_places c ≤ term_places w
  pub size : term_size c ≤ term_size w
  pub up : (s : Term) → IsSubterm s c → IsSubterm s w
  pub found : IsSome (id_of (nodes_of k) (nameless w)) → IsSome (id_of (nodes_of k) (nameless c))

-- some nodes of w were added, with these left, and the ids stand for the terms that were completed
pub record IsAdded (w : Term) (o : Table) (k : Kept) (r : Rows) (t : Table) (l : Kept) (q : Rows) (left : List (Form × ℕ)) (ids : List Applied) : Type 0 where
  pub done : List Term
  pub folds : TermFolds w left done
  pub good : Good l
  pub rests : RestsWith l q
  pub fresh_slots : HasFreshSlots t l
  pub extends : Extends (nodes_of k) (nodes_of l)
  pub goes_on : GoesOn (state_in k r) (state_in l q)
  pub adds : AddsClasses (image_of k) (image_of l)
  pub notes : KeepsNotes k l
  pub more : KnowsMore o t
  pub makes : MakesAtMost (slots_of done) o t
  pub filed : Files (nodes_of k) (nodes_of l) w
  pub kept : IsSome (id_of (nodes_of k) (nameless w)) → (l ≡ k) × (q ≡ r) × (t ≡ o)
  pub large : HasLargeClassIn (image_of l) → HasLargeClassOrTerm (image_of k) w
  pub answers : Both (IsIdFor l) ids done

module _ (w : Term) (o : Table) (k : Kept) (r : Rows) (start : Good k) (quiet : RestsWith k r) (fresh : HasFreshSlots o k) (holds : IsWhole w.args) where
  part-root : IsPartOf w k w
  part-root = record { whole = holds; places = omega arith; size = omega arith; up = λ s h. h; found = λ h. h }

  part-child : (g : Form) (us : List Term) → IsPartOf w k (form.term_of g us) → (i : ℕ) (c : Term) → i < length us → c ≡ get_or us i c → IsPartOf w k c
  part-child g us h i c lt is =
      let places : term_places (get_or us i c) ≤ term_places (form.term_of g us) = child_places_fit g us i c lt in
      let smaller : term_size (get_or us i c) < term_size (form.term_of g us) = child_smaller g us i c lt in
      record {
        whole = subst (λ (x : Term). IsWhole x.args) (sym is) (each_at (λ (x : Term). IsWhole x.args) us i c lt (whole_each g.tree g.names us h.whole));
        places = omega (arith, h.places, places, ap term_places is);
        size = omega (arith, h.size, smaller, ap term_size is);
        up = λ s stands. h.up s (of_child s g us i c lt (subst (IsSubterm s) is stands));
        found = λ some.
            let n = whole_count g.tree g.names us h.whole in
            let each = children_found (id_of_node (nodes_of k)) (id_of_node-moved (nodes_of k) start.stored.sane.sound.canonical) g us n (h.found some) in
            subst (λ (x : Term). IsSome (id_of (nodes_of k) (nameless x))) (sym is) (each_at (λ (x : Term). IsSome (id_of (nodes_of k) (nameless x))) us i c lt each);
      }

  few-slots : (left : List (Form × ℕ)) (done : List Term) → TermFolds w left done → slots_of done ≤ term_slots w
  few-slots = weighs w (IsPartOf w k) part-child part-root term_slots (λ g us h. omega (arith, slots_fit g us))

  pub added-start : (left : List (Form × ℕ)) → TermFolds w left [] → IsAdded w o k r o k r left []
  added-start left folds = record {
    done = [];
    folds = folds;
    good = start;
    rests = quiet;
    fresh_slots = fresh;
    extends = Extends-same (nodes_of k);
    goes_on = same-goes_on k r start quiet;
    adds = adds-none k r start quiet;
    notes = notes-none k;
    more = λ s h. h;
    makes = makes-none 0 o;
    filed = files-nothing (nodes_of k) w;
    kept = λ s. (refl, refl, refl);
    large = inl;
    answers = tt;
  }

  pub now-makes : (t : Table) (l : Kept) (q : Rows) (left : List (Form × ℕ)) (ids : List Applied) → IsAdded w o k r t l q left ids → MakesAtMost (term_slots w) o t
  now-makes t l q left ids p = makes-more (slots_of p.done) (term_slots w) o t p.makes (few-slots left p.done p.folds)

  -- the next node
  module _ (t : Table) (l : Kept) (q : Rows) (left : List (Form × ℕ)) (f : Form) (i : ℕ) (ids : List Applied) (p : IsAdded w o k r t l q (left ++ (f, i) ∷ []) ids) where
    abbrev step : TermStep w f i left p.done
    step = term_folds-step w f i left p.done p.folds

    abbrev c : Term
    c = form.term_of f step.under

    part : IsPartOf w k c
    part = step.inside (IsPartOf w k) part-child part-root

    count : length step.under ≡ length (children f.tree)
    count = whole_count f.tree f.names step.under part.whole

    pub enough : length (children f.tree) ≤ length ids
    enough = omega (arith, Both-length (IsIdFor l) ids p.done p.answers, ap length step.split, length-append step.below step.under, count)

    module _ (h : Form) (rest : List Applied) (split : ids ≡ rest ++ child_ids h) (beside : IsBeside f h) (fits : Fits h) where
      parts : Both (IsIdFor l) rest step.below × Both (IsIdFor l) (child_ids h) step.under
      parts =
          Both-split (IsIdFor l) rest (child_ids h) step.below step.under (length-ids h.tree h.names ∙ (beside.count ∙ sym count))
          (subst (λ (x : List Applied × List Term). Both (IsIdFor l) x.0 x.1) (λ j. (split j, step.split j)) p.answers)

      pub next-full : All (IsFull (nodes_of l)) (child_ids h)
      next-full = node-full l p.good f h step.under count beside fits parts.1

      size : length h.names ≤ term_places c
      size = node-size l p.good f h step.under count beside fits parts.1

      width : node_size (nameless_node h) ≤ term_size w
      width = omega (arith, node-width l p.good f h step.under count beside fits parts.1, part.size)

      -- its slots, and those of the terms before
      next-slots : slots_of p.done + length h.names ≤ slots_of (step.below ++ c ∷ [])
      next-slots = omega (arith, ap slots_of step.split, weigh-append term_slots step.below step.under, weigh-append term_slots step.below (c ∷ []), slots_fit f step.under, size)

      all-slots : slots_of p.done + length h.names ≤ term_slots w
      all-slots = omega (arith, next-slots, few-slots left (step.below ++ c ∷ []) step.next)

      -- where slots were made for it, or ran out for it
      pub next-makes : (x : Table) → MakesAtMost (length h.names) t x → MakesAtMost (term_slots w) o x
      next-makes x makes = makes-then (slots_of p.done) (length h.names) (term_slots w) o t x p.makes makes all-slots

      runs-out : (x : Table) → RunsOutForNode h t x → RunsOutForTerm w o x
      runs-out x (inl lacks) = inl (runs_out-then (slots_of p.done) (length h.names) (term_slots w) o t x p.makes lacks all-slots)
      runs-out x (inr wide) = inr (omega (arith, wide, size, part.places))

      pub next-lacks : (x : Table) → CanRunOutForNode (image_of l) h t x → CanRunOutForTerm (image_of k) w o x
      next-lacks x (inl lacks) = inl (runs-out x lacks)
      next-lacks x (inr (inl old)) = inr (p.large old)
      next-lacks x (inr (inr wide)) = inr (inr (omega (arith, wide, width)))

      -- where w had an id, so has the node
      known-id : IsSome (id_of (nodes_of k) (nameless w)) → IsSome (id_of_node (nodes_of l) (nameless_node h))
      known-id some =
          node-id l p.good f h step.under count beside fits parts.1
          (subst (λ (x : Kept). IsSome (id_of (nodes_of x) (nameless c))) (sym (p.kept some).0) (part.found some))

      pub next-unknown : IsUnknownNode (nodes_of l) h → IsUnknownTerm (image_of k) w
      next-unknown (inr wide) = inr (omega (arith, wide, size, part.places))
      next-unknown (inl none) = inl (none-where (id_of (nodes_of k) (nameless w)) (λ some. false≢true (sym (ap is_some none) ∙ known-id some)))

      -- the node is added
      module _ (v : Table) (m : Kept) (s : Rows) (a : Applied) (add : Adds t v l q m s h a) (more : KnowsMore t v) (makes : MakesAtMost (length h.names) t v) where
        on : GoesOn (state_in k r) (state_in m s)
        on = goes_on-then (state_in k r) (state_in l q) (state_in m s) start.stored.sane.sound.linked p.goes_on add.goes_on

        full : IsFull (nodes_of m) a
        full = answer_full (nodes_of m) h a add.found

        stands : term_of (nodes_of m) a ≡ nameless c
        stands =
            answer_term (nodes_of m) h a add.found add.good.stored.sane.sound.canonical
            ∙ (add.extends.layers (nameless_node h) (full_children (nodes_of l) h fits next-full) ∙ node-layer l p.good f h step.under count beside fits parts.1)

        looked_up : id_of (nodes_of m) (nameless c) ≡ Some a
        looked_up = (id_of-iff (nodes_of m) add.good.stored.sane.sound.canonical (nameless c) a).1 (full, stands)

        id-later : (b : Applied) (d : Term) → IsIdFor l b d → IsIdFor m b d
        id-later b d is = (add.extends.full b is.0, add.extends.terms b is.0 ∙ is.1)

        all-kept : IsSome (id_of (nodes_of k) (nameless w)) → (m ≡ k) × (s ≡ r) × (v ≡ o)
        all-kept some =
            let same = p.kept some in
            let stays = add.kept (known-id some) in
            (stays.0 ∙ same.0, stays.1 ∙ same.1, stays.2 ∙ same.2)

        all-large : HasLargeClassIn (image_of m) → HasLargeClassOrTerm (image_of k) w
        all-large large = elim (add.large large) [
          | inl old ↦ p.large old
          | inr wide ↦ inr (omega (arith, wide, width))
        ]

        pub next-added : IsAdded w o k r v m s left (rest ++ a ∷ [])
        next-added = record {
          done = step.below ++ c ∷ [];
          folds = step.next;
          good = add.good;
          rests = add.rests;
          fresh_slots = add.fresh_slots;
          extends = Extends-then (nodes_of k) (nodes_of l) (nodes_of m) p.extends add.extends;
          goes_on = on;
          adds = adds-then (image_of k) (image_of l) (image_of m) p.extends p.adds add.adds (finds-on k r start m s on);
          notes = notes-then k l m p.notes add.notes;
          more = λ x y. more x (p.more x y);
          makes = makes-then (slots_of p.done) (length h.names) (slots_of (step.below ++ c ∷ [])) o t v p.makes makes next-slots;
          filed = files-then (nodes_of k) (nodes_of l) (nodes_of m) w add.extends p.filed
              (files-more (nodes_of l) (nodes_of m) w c part.up (files-node (nodes_of l) (nodes_of m) (nameless_node h) c a add.found looked_up add.filed));
          kept = all-kept;
          large = all-large;
          answers = Both-more (IsIdFor m) rest step.below a c (Both-map (IsIdFor l) (IsIdFor m) id-later rest step.below parts.0) (full, stands);
        }

  -- where no node is left, one id is there, that of the term
  module _ (t : Table) (l : Kept) (q : Rows) (ids : List Applied) (p : IsAdded w o k r t l q [] ids) where
    all-done : p.done ≡ w ∷ []
    all-done = term_folds-end w p.done p.folds

    pub one-id : length ids ≡ 1
    one-id = Both-length (IsIdFor l) ids p.done p.answers ∙ ap length all-done

    pub added-end : (a : Applied) → ids ≡ a ∷ [] → AddsTerm o t k r l q w a
    added-end a is =
        let answer : Both (IsIdFor l) (a ∷ []) (w ∷ []) = subst (λ (x : List Applied × List Term). Both (IsIdFor l) x.0 x.1) (λ j. (is j, all-done j)) p.answers in
        record {
          good = p.good;
          rests = p.rests;
          fresh_slots = p.fresh_slots;
          extends = p.extends;
          goes_on = p.goes_on;
          adds = p.adds;
          notes = p.notes;
          full = answer.0.0;
          term = answer.0.1;
          filed = p.filed;
          kept = p.kept;
          large = p.large;
        }

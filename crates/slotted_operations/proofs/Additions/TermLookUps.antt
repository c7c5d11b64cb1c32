-- Adding a term from below by look-up: each node over what the terms under it were looked up as.
use Rattle.std.proofs.Common.{◌≡◌, ◌<◌, ◌≤◌, ◌∙◌, ℕ, suc, List, [], ◌∷◌, ◌++◌, length, get_or, Option, None, Some, ap, refl, sym, subst, arith, inl, inr, length-append}
use Rattle.std.specs.Prelude.{All, IsSome, IsTrue, is_some, option_and_then, slice_index_or}
use Rattle.std.proofs.lemmas.Bool.{cases_lt}
use Rattle.slotted_lists.proofs.Members.{In}
use Rattle.slotted_lists.proofs.Each.{Each, Each-from_All}
use Rattle.slotted_theory.specs.Nameless.{DTerm, nameless}
use Rattle.slotted_theory.specs.Term.{Term, done, term_size}
use Rattle.slotted_theory.proofs.Values.{node}
use Rattle.slotted_slots.specs.Maps.{values}
use Rattle.slotted_slots.specs.Table.{KnowsMore, Table, is_known, AllKnown}
use Rattle.slotted_nodes.specs.Form.{Form, children}
use Rattle.slotted_languages.specs.Filled.{filled}
use Rattle.slotted_languages.specs.Filled as form
use Rattle.slotted_languages.specs.NodeTerm.{nameless_node}
use Rattle.slotted_languages.specs.Shape.{Fits}
use Rattle.slotted_terms.specs.Valid.{HasKnownNames, IsValidTerm}
use Rattle.slotted_terms.proofs.TermFolds.{TermFolds, TermStep, term_folds-end, term_folds-step, weigh-append, weighs}
use Rattle.slotted_terms.proofs.TermPatterns.{whole_count}
use Rattle.slotted_model.specs.Applied.{Applied, EachChild}
use Rattle.slotted_model.specs.LookUp.{Renames, look_up}
use Rattle.slotted_model.specs.State.{look_up_node, look_up_tree}
use Rattle.slotted_model.proofs.Represented.Children.{EachChild-map}
use Rattle.slotted_model.proofs.Complete.LookUpsAreEqual.{tree-equal}
use Rattle.slotted_model.proofs.Rebuilding.Rows.{look_up_node-moved}
use Rattle.slotted_classes.specs.Finding.{IsFindable}
use Rattle.slotted_classes.specs.Kept.{Kept, nodes_of}
use Rattle.slotted_classes.proofs.ChildIds.{EachChild-node_args, length-ids}
use Rattle.slotted_classes.proofs.NameMaps.{In-at, at_In}
use Rattle.slotted_hashcons.specs.FiledRows.{Rows}
use Rattle.slotted_hashcons.specs.WellFiled.{state_in}
use Rattle.slotted_operations.specs.Adding.{IsOfTerm, MakesFilledClass, slots_needed, term_nodes}
use Rattle.slotted_operations.specs.Good.{AddsFound, AddsFoundTerm, AddsNodesIn, FilesSubterms, Good, HasFreshSlots, IsFoundIn, LacksForTermIn, RestsWith, RunsOutForUnknownIn, TakesForTermIn, image_of, none_added, one_added}
use Rattle.slotted_languages.specs.Beside.{IsBeside}
use Rattle.slotted_operations.specs.Graph.{MakesAtMost}
use Rattle.slotted_operations.specs.Nodes.{child_ids}
use Rattle.slotted_operations.specs.Places.{term_places}
use Rattle.slotted_operations.specs.Subterms.{IsSubterm, IsTopIn}
use Rattle.slotted_operations.proofs.Additions.TermNodes.{Reached, child-places, child-smaller, looked-bounded, node-of_term, nodes_in, of-larger, places-known, reached, term_nodes-is, top-larger, valid-child}
use Rattle.slotted_operations.proofs.Additions.IdStacks.{Both, Both-at, Both-length, Both-map, Both-more, Both-split}
use Rattle.slotted_operations.proofs.CallerLemmas.{known_later}
use Rattle.slotted_operations.proofs.Additions.FiledSubterms.{of_child}
use Rattle.slotted_operations.proofs.Ids.ValidIds.{renamed-findable}
use Rattle.slotted_operations.proofs.LookUps.FoundNames.{free_from}
use Rattle.slotted_operations.proofs.TermsOverIds.Layers.{each_at}
use Rattle.slotted_operations.proofs.LookUps.FoundIds.{answer-name}
use Rattle.slotted_operations.proofs.LookUps.Subterms.{Looked, children_found, looked-args}
use Rattle.slotted_operations.proofs.Graphs.AtRest.{at-rest}

-- what the ids so far are
pub record IsAnswer (u : Table) (l : Kept) (q : Rows) (a : Applied) (c : Term) : Type 0 where
  pub findable : IsFindable l a
  pub known : AllKnown u (values a.1)
  pub found : look_up_tree (state_in l q) (nameless c) ≡ Some a

-- the look-up of nodes moves with names
law-of : (k : Kept) (r : Rows) → Good k → RestsWith k r → Renames (look_up_node (state_in k r))
law-of k r good rests = let rest = at-rest k r good rests in look_up_node-moved (state_in k r) rest.sane.sound.linked rest.sane.filed

-- the node h over what the terms us were looked up as, where beside its children it is f
module _ (u : Table) (l : Kept) (q : Rows) (good : Good l) (rests : RestsWith l q) (f h : Form) (us : List Term) (n : length us ≡ length (children f.tree)) (beside : IsBeside f h) (fits : Fits h)
    (answers : Both (IsAnswer u l q) (child_ids h) us) where
  pub each : (j : ℕ) (d : Applied) (e : Term) → j < length us → IsAnswer u l q (slice_index_or (child_ids h) j d) (slice_index_or us j e)
  each = Both-at (IsAnswer u l q) (child_ids h) us answers

  pub as-many : length (child_ids h) ≡ length us
  as-many = length-ids h.tree h.names ∙ (beside.count ∙ sym n)

  -- the node over them is that of the term
  pub one-term : form.term_of h us ≡ form.term_of f us
  one-term = λ j. record { op = suc (beside.operator j); payloads = beside.payloads j; args = beside.outline us n j }

  each-child : (P : Applied → Type 0) → ((a : Applied) (c : Term) → IsAnswer u l q a c → P a) → Each P (child_ids h)
  each-child P holds = Each-from_All P (child_ids h) (λ j d y. holds (slice_index_or (child_ids h) j d) (slice_index_or us j none-term) (each j d none-term (omega (arith, y, as-many))))
    where
      none-term : Term
      none-term = record { op = 0; payloads = []; args = done }

  pub node-children : EachChild (IsFindable l) (nameless_node h).args
  node-children = EachChild-node_args (IsFindable l) (renamed-findable l) (λ x. x) (λ x y e. e) h.tree h.names fits (each-child (IsFindable l) (λ a c o. o.findable))

  pub node-ids : All (IsFoundIn u l) (child_ids h)
  node-ids j d y = let o = each j d (record { op = 0; payloads = []; args = done }) (omega (arith, y, as-many)) in (o.findable, o.known)

  pub node-known : HasKnownNames u (form.term_of f us).args → AllKnown u h.names
  node-known known j z y =
      let args : HasKnownNames u (filled h.tree h.names us) = subst (λ (x : Term). HasKnownNames u x.args) (sym one-term) known in
      places-known u h.tree h.names us fits (n ∙ sym beside.count) args
      (each-child (λ a. (x : ℕ) → In x (values a.1) → IsTrue (is_known u x)) (λ a c o x m. at_In (λ x. IsTrue (is_known u x)) (values a.1) o.known x m))
      _ (In-at h.names j z y)

  pub node-small : IsOfTerm (form.term_of f us) h
  node-small = subst (λ (x : Term). IsOfTerm x h) one-term
      (node-of_term h us fits (looked-bounded (look_up_node (state_in l q)) (law-of l q good rests) (child_ids h) us as-many
      (λ j d e y. let o = each j d e y in (o.findable.injective, o.found))))

  looked-before : (ids : List Applied) (vs : List Term) → length ids ≡ length vs → ((j : ℕ) (d : Applied) (e : Term) → j < length vs → look_up (look_up_node (state_in l q)) (nameless (get_or vs j e)) ≡ Some (get_or ids j d)) →
      Looked (look_up_node (state_in l q)) (law-of l q good rests) ids vs
  looked-before [] [] y o = tt
  looked-before [] (c ∷ vs) y o = absurd (omega (arith, y))
  looked-before (b ∷ ids) [] y o = absurd (omega (arith, y))
  looked-before (b ∷ ids) (c ∷ vs) y o = (o 0 b c (omega arith), looked-before ids vs (omega (arith, y)) (λ j d e z. o (suc j) d e (omega arith)))

  abbrev pub node-top : IsTopIn (look_up_node (state_in l q)) (form.term_of f us) h
  node-top = record {
    subterm = form.term_of f us;
    stands = inl refl;
    top = record { parts = us; whole = one-term; count = sym as-many; each = λ j d e y. (each j d e y).found };
  }

  -- so the term is looked up as the node is
  pub tree-is-node : look_up_tree (state_in l q) (nameless (form.term_of f us)) ≡ look_up_node (state_in l q) (nameless_node h)
  tree-is-node =
      let children-before : Looked (look_up_node (state_in l q)) (law-of l q good rests) (child_ids h) us = looked-before (child_ids h) us as-many (λ j d e y. (each j d e y).found) in
      ap (λ (x : Term). look_up_tree (state_in l q) (nameless x)) (sym one-term)
      ∙ ap (option_and_then (λ found. look_up_node (state_in l q) (node (suc h.operator) h.payloads found)))
      (looked-args (look_up_node (state_in l q)) (law-of l q good rests) (λ x. x) (λ x y e. e) h.tree h.names us fits children-before)

  -- the node is added
  module _ (v : Table) (m : Kept) (s : Rows) (a : Applied) (add : AddsFound u v l q m s h a) (more : KnowsMore u v) (known : AllKnown u h.names) where
    abbrev look : DTerm → Option Applied
    look = look_up_node (state_in m s)

    law : Renames look
    law = law-of m s add.good add.rests

    looked-all : (ids : List Applied) (vs : List Term) → length ids ≡ length vs → ((j : ℕ) (d : Applied) (e : Term) → j < length vs → look_up look (nameless (get_or vs j e)) ≡ Some (get_or ids j d)) → Looked look law ids vs
    looked-all [] [] y o = tt
    looked-all [] (c ∷ vs) y o = absurd (omega (arith, y))
    looked-all (b ∷ ids) [] y o = absurd (omega (arith, y))
    looked-all (b ∷ ids) (c ∷ vs) y o = (o 0 b c (omega arith), looked-all ids vs (omega (arith, y)) (λ j d e z. o (suc j) d e (omega arith)))

    children-now : Looked look law (child_ids h) us
    children-now = looked-all (child_ids h) us as-many (λ j d e y. add.keeps.trees (nameless (slice_index_or us j e)) (slice_index_or (child_ids h) j d) (each j d e y).found)

    -- the term is looked up as the node over what its children are looked up as
    term-is-node : look_up look (nameless (form.term_of f us)) ≡ look (nameless_node h)
    term-is-node =
        ap (λ (x : Term). look_up look (nameless x)) (sym one-term)
        ∙ ap (option_and_then (λ found. look (node (suc h.operator) h.payloads found))) (looked-args look law (λ x. x) (λ x y e. e) h.tree h.names us fits children-now)

    term-found : look_up_tree (state_in m s) (nameless (form.term_of f us)) ≡ Some a
    term-found = term-is-node ∙ add.found

    children-after : EachChild (IsFindable m) (nameless_node h).args
    children-after = EachChild-map (IsFindable l) (IsFindable m) (λ x o. (add.goes_on.finds x o).0) (nameless_node h).args node-children

    answer-known : AllKnown v (values a.1)
    answer-known j z y =
        let x = slice_index_or (values a.1) j z in
        let b = free_from (λ x. x) h.tree h.names fits x (answer-name m s add.good add.rests (nameless_node h) children-after a add.found x (In-at (values a.1) j z y)) in
        subst (λ x. IsTrue (is_known v x)) (sym b.2) (more b.0 (at_In (λ x. IsTrue (is_known u x)) h.names known b.0 b.1))

    pub answer-now : IsAnswer v m s a (form.term_of f us)
    answer-now = record {
      findable = (tree-equal (state_in m s) (at-rest m s add.good add.rests) (nameless (form.term_of f us)) a term-found).0;
      known = answer-known;
      found = term-found;
    }

    -- what is new is filed for the term
    pub new-filed : (j : ℕ) → length (nodes_of l) ≤ j → j < length (nodes_of m) → (b : Applied) × (b.0 ≡ j) × (look_up_tree (state_in m s) (nameless (form.term_of f us)) ≡ Some b)
    new-filed j past within = (a, newest past (look_up_node (state_in l q) (nameless_node h)) refl, term-found)
      where
        newest : length (nodes_of l) ≤ j → (o : Option Applied) → look_up_node (state_in l q) (nameless_node h) ≡ o → a.0 ≡ j
        newest new None e =
            let made : MakesFilledClass u v (nodes_of l) (nodes_of m) h a = add.made e in
            omega (arith, made.number, ap length made.class.class, length-append (nodes_of l) (made.class.node ∷ []), new, within)
        newest new (Some b) e =
            let same = add.kept (ap is_some e) in
            absurd (omega (arith, ap (λ (x : Kept). length (nodes_of x)) same.0, new, within))

-- a term in w: what is known of w holds of it
pub record IsInside (w : Term) (t : Table) (k : Kept) (r : Rows) (c : Term) : Type 0 where
  pub valid : IsValidTerm t c
  pub places : term_places c ≤ term_places w
  pub size : term_size c ≤ term_size w
  pub up : (s : Term) → IsSubterm s c → IsSubterm s w
  pub found : IsSome (look_up_tree (state_in k r) (nameless w)) → IsSome (look_up_tree (state_in k r) (nameless c))

-- some nodes of w were added, with these left, and the terms that were completed are what the ids are for
pub record IsFolded (w : Term) (t : Table) (k : Kept) (r : Rows) (u : Table) (l : Kept) (q : Rows) (left : List (Form × ℕ)) (ids : List Applied) : Type 0 where
  pub done : List Term
  pub folds : TermFolds w left done
  pub nodes : AddsNodesIn w t k r (nodes_in done) u l q
  pub answers : Both (IsAnswer u l q) ids done
  pub kept : IsSome (look_up_tree (state_in k r) (nameless w)) → (l ≡ k) × (q ≡ r) × (u ≡ t)
  pub filed : FilesSubterms k l q w

-- where nothing was added
pub none-taken : (w : Term) (t : Table) (k : Kept) (r : Rows) → TakesForTermIn w t k r t
none-taken w t k r = record { count = 0; few = omega arith; between = t; kept = k; rows = r; nodes = none_added; last = inl refl }

module _ (w : Term) (t : Table) (k : Kept) (r : Rows) (good : Good k) (rests : RestsWith k r) (fresh : HasFreshSlots t k) (valid : IsValidTerm t w) where
  inside-root : IsInside w t k r w
  inside-root = record { valid = valid; places = omega arith; size = omega arith; up = λ s h. h; found = λ h. h }

  inside-child : (g : Form) (us : List Term) → IsInside w t k r (form.term_of g us) → (i : ℕ) (c : Term) → i < length us → c ≡ get_or us i c → IsInside w t k r c
  inside-child g us h i c lt is = record {
    valid = valid-child t g us (form.term_of g us) refl h.valid i c lt is;
    places = omega (arith, h.places, child-places t g us (form.term_of g us) refl h.valid i c lt is);
    size = omega (arith, h.size, child-smaller t g us (form.term_of g us) refl h.valid i c lt is);
    up = λ s stands. h.up s (of_child s g us i c lt (subst (IsSubterm s) is stands));
    found = λ some.
        let n = whole_count g.tree g.names us h.valid.whole in
        let each = children_found (look_up_node (state_in k r)) (law-of k r good rests) g us n (h.found some) in
        subst (λ (x : Term). IsSome (look_up_tree (state_in k r) (nameless x))) (sym is)
        (each_at (λ (x : Term). IsSome (look_up_tree (state_in k r) (nameless x))) us i c lt each);
  }

  few-nodes : (left : List (Form × ℕ)) (done : List Term) → TermFolds w left done → nodes_in done ≤ term_nodes w
  few-nodes = weighs w (IsInside w t k r) inside-child inside-root term_nodes
      (λ g us h. omega (arith, term_nodes-is g us (whole_count g.tree g.names us h.valid.whole)))

  pub folded-start : (left : List (Form × ℕ)) → TermFolds w left [] → IsFolded w t k r t k r left []
  folded-start left folds = record {
    done = [];
    folds = folds;
    nodes = none_added;
    answers = tt;
    kept = λ s. (refl, refl, refl);
    filed = λ i past within. absurd (omega (arith, past, within));
  }

  module _ (u : Table) (l : Kept) (q : Rows) (left : List (Form × ℕ)) (ids : List Applied) (p : IsFolded w t k r u l q left ids) where
    pub so-far : Reached t k r u l q
    so-far = reached w t k r good rests fresh (nodes_in p.done) u l q p.nodes

    pub now-taken : TakesForTermIn w t k r u
    now-taken = record { count = nodes_in p.done; few = few-nodes left p.done p.folds; between = u; kept = l; rows = q; nodes = p.nodes; last = inl refl }

  -- the next node
  module _ (u : Table) (l : Kept) (q : Rows) (left : List (Form × ℕ)) (f : Form) (i : ℕ) (ids : List Applied) (p : IsFolded w t k r u l q (left ++ (f, i) ∷ []) ids) where
    abbrev step : TermStep w f i left p.done
    step = term_folds-step w f i left p.done p.folds

    abbrev c : Term
    c = form.term_of f step.under

    before : Reached t k r u l q
    before = so-far u l q (left ++ (f, i) ∷ []) ids p

    inside : IsInside w t k r c
    inside = step.inside (IsInside w t k r) inside-child inside-root

    count : length step.under ≡ length (children f.tree)
    count = whole_count f.tree f.names step.under inside.valid.whole

    pub enough : length (children f.tree) ≤ length ids
    enough = omega (arith, Both-length (IsAnswer u l q) ids p.done p.answers, ap length step.split, length-append step.below step.under, count)

    -- one more is completed
    all-nodes : nodes_in (step.below ++ c ∷ []) ≡ suc (nodes_in p.done)
    all-nodes = omega (arith, ap nodes_in step.split, weigh-append term_nodes step.below step.under, weigh-append term_nodes step.below (c ∷ []), term_nodes-is f step.under count)

    few : nodes_in p.done < term_nodes w
    few = omega (arith, all-nodes, few-nodes left (step.below ++ c ∷ []) step.next)

    module _ (h : Form) (rest : List Applied) (split : ids ≡ rest ++ child_ids h) (beside : IsBeside f h) (fits : Fits h) where
      parts : Both (IsAnswer u l q) rest step.below × Both (IsAnswer u l q) (child_ids h) step.under
      parts =
          Both-split (IsAnswer u l q) rest (child_ids h) step.below step.under (length-ids h.tree h.names ∙ (beside.count ∙ sym count))
          (subst (λ (x : List Applied × List Term). Both (IsAnswer u l q) x.0 x.1) (λ j. (split j, step.split j)) p.answers)

      pub next-children : EachChild (IsFindable l) (nameless_node h).args
      next-children = node-children u l q before.good before.rests f h step.under count beside fits parts.1

      ids-found : All (IsFoundIn u l) (child_ids h)
      ids-found = node-ids u l q before.good before.rests f h step.under count beside fits parts.1

      pub next-known : AllKnown u h.names
      next-known = node-known u l q before.good before.rests f h step.under count beside fits parts.1 (known_later t u before.more c.args inside.valid.known)

      small : IsOfTerm w h
      small = of-larger c w h inside.places inside.size (node-small u l q before.good before.rests f h step.under count beside fits parts.1)

      abbrev top : IsTopIn (look_up_node (state_in l q)) w h
      top = top-larger c w inside.up (look_up_node (state_in l q)) h (node-top u l q before.good before.rests f h step.under count beside fits parts.1)

      same-look : look_up_tree (state_in l q) (nameless c) ≡ look_up_node (state_in l q) (nameless_node h)
      same-look = tree-is-node u l q before.good before.rests f h step.under count beside fits parts.1

      -- where slots were made for the node, or ran out for it
      pub next-takes : (x : Table) → MakesAtMost (slots_needed (image_of l) h) u x → TakesForTermIn w t k r x
      next-takes x makes = record {
        count = nodes_in p.done;
        few = omega (arith, few);
        between = u;
        kept = l;
        rows = q;
        nodes = p.nodes;
        last = inr (h, ids-found, next-known, fits, small, makes, top);
      }

      pub next-lacks : (x : Table) → RunsOutForUnknownIn u x l q h → LacksForTermIn w t k r x
      next-lacks x cause = record {
        count = nodes_in p.done;
        few = few;
        between = u;
        kept = l;
        rows = q;
        nodes = p.nodes;
        node = h;
        fits = fits;
        children = ids-found;
        known = next-known;
        small = small;
        cause = cause;
        top = top;
        same = same-look;
      }

      -- the node is added
      module _ (v : Table) (m : Kept) (s : Rows) (a : Applied) (add : AddsFound u v l q m s h a) (more : KnowsMore u v) (makes : MakesAtMost (slots_needed (image_of l) h) u v) where
        answer-later : (b : Applied) (d : Term) → IsAnswer u l q b d → IsAnswer v m s b d
        answer-later b d o = record {
          findable = (add.goes_on.finds b o.findable).0;
          known = λ j z y. more _ (o.known j z y);
          found = add.keeps.trees (nameless d) b o.found;
        }

        -- where the whole was looked up nothing changes
        all-kept : IsSome (look_up_tree (state_in k r) (nameless w)) → (m ≡ k) × (s ≡ r) × (v ≡ t)
        all-kept some =
            let same = p.kept some in
            let here : IsSome (look_up_tree (state_in l q) (nameless c)) =
            subst (λ (y : Kept × Rows). IsSome (look_up_tree (state_in y.0 y.1) (nameless c))) (λ j. (sym same.0 j, sym same.1 j)) (inside.found some) in
            let stays = add.kept (subst (λ (o : Option Applied). IsSome o) same-look here) in
            (stays.0 ∙ same.0, stays.1 ∙ same.1, stays.2 ∙ same.2)

        all-filed : FilesSubterms k m s w
        all-filed j past within = elim (cases_lt j (length (nodes_of l))) [
          | inl old ↦ let y = p.filed j past old in (y.0, y.1, y.2, y.3, add.keeps.trees (nameless y.2) y.0 y.4)
          | inr new ↦
              let y = new-filed u l q before.good before.rests f h step.under count beside fits parts.1 v m s a add more next-known j new within in
              (y.0, y.1, c, inside.up c (inl refl), y.2)
        ]

        pub next-folded : IsFolded w t k r v m s left (rest ++ a ∷ [])
        next-folded = record {
          done = step.below ++ c ∷ [];
          folds = step.next;
          nodes = subst (λ j. AddsNodesIn w t k r j v m s) (sym all-nodes) (one_added p.nodes (record {
            node = h;
            fits = fits;
            children = ids-found;
            known = next-known;
            small = small;
            top = top;
            answer = a;
            added = add;
            more = more;
            makes = makes;
          }));
          answers = Both-more (IsAnswer v m s) rest step.below a c (Both-map (IsAnswer u l q) (IsAnswer v m s) answer-later rest step.below parts.0)
              (answer-now u l q before.good before.rests f h step.under count beside fits parts.1 v m s a add more next-known);
          kept = all-kept;
          filed = all-filed;
        }

  -- where no node is left, one id is there, and the term is added
  module _ (u : Table) (l : Kept) (q : Rows) (ids : List Applied) (p : IsFolded w t k r u l q [] ids) where
    whole : p.done ≡ w ∷ []
    whole = term_folds-end w p.done p.folds

    pub one-id : length ids ≡ 1
    one-id = Both-length (IsAnswer u l q) ids p.done p.answers ∙ ap length whole

    pub folded-end : (a : Applied) → ids ≡ a ∷ [] → AddsFoundTerm t k r u l q w a
    folded-end a is =
        let answer : Both (IsAnswer u l q) (a ∷ []) (w ∷ []) = subst (λ (x : List Applied × List Term). Both (IsAnswer u l q) x.0 x.1) (λ j. (is j, whole j)) p.answers in
        let count : nodes_in p.done ≡ term_nodes w = omega (arith, ap nodes_in whole) in
        record {
          nodes = subst (λ j. AddsNodesIn w t k r j u l q) count p.nodes;
          found = answer.0.found;
          known = answer.0.known;
          kept = p.kept;
          filed = p.filed;
        }

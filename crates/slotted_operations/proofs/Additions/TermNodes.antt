-- The nodes of a term, added from below by look-up: what holds after some of them, and sizes.
use Rattle.std.proofs.Common.{◌≡◌, ◌<◌, ◌≤◌, ◌+◌, ◌∙◌, ℕ, zero, suc, List, [], ◌∷◌, length, take, drop, get_or, Option, Some, ap, refl, sym, subst, arith, inl, inr, length-append}
use Rattle.std.specs.Prelude.{◌⊎◌, Contains, IsTrue, slice_index}
use Rattle.std.specs.List.{zip}
use Rattle.slotted_lists.proofs.Contained.{contains_cases}
use Rattle.slotted_lists.proofs.Members.{Contains-In, In, In-Contains}
use Rattle.slotted_lists.proofs.Each.{Each, Each-append}
use Rattle.slotted_theory.specs.FiniteMaps.{HasValue, IsInjectiveMap}
use Rattle.slotted_theory.specs.Nameless.{DTerm, nameless}
use Rattle.slotted_theory.specs.Shape.{free_names}
use Rattle.slotted_theory.specs.Term.{Term, term_size}
use Rattle.slotted_slots.specs.Table.{KnowsMore, Table, is_known}
use Rattle.slotted_nodes.specs.Form.{Form, Tree, leaf, own, child, bind, scopes, children}
use Rattle.slotted_languages.specs.Filled.{filled}
use Rattle.slotted_languages.specs.Filled as form
use Rattle.slotted_languages.specs.Shape.{Fits}
use Rattle.slotted_languages.proofs.NodeTerms.{own_fits, child_keys_fit, child_rest_fits, bind_inner_fits, bind_rest_fits}
use Rattle.slotted_terms.specs.Valid.{HasKnownNames, IsValidTerm, IsWhole}
use Rattle.slotted_terms.proofs.TermFolds.{weigh}
use Rattle.slotted_terms.proofs.TermPatterns.{whole_count}
use Rattle.slotted_model.specs.Applied.{Applied, values}
use Rattle.slotted_model.specs.Changes.{GoesOn}
use Rattle.slotted_model.specs.Correspondence.{AllDifferent}
use Rattle.slotted_model.specs.Growth.{Extends}
use Rattle.slotted_model.specs.LookUp.{Renames, look_up}
use Rattle.slotted_model.proofs.Represented.Children.{EachChild-map}
use Rattle.slotted_model.proofs.Rebuilding.GoingOn.{goes_on-then}
use Rattle.slotted_model.proofs.Represented.Growing.{Extends-same, Extends-then}
use Rattle.slotted_model.proofs.Represented.LookUps.{look_up-moved}
use Rattle.slotted_model.proofs.Rebuilding.Touching.{different-length}
use Rattle.slotted_classes.specs.Finding.{IsFindable}
use Rattle.slotted_classes.specs.Kept.{Kept, nodes_of}
use Rattle.slotted_hashcons.specs.FiledRows.{Rows}
use Rattle.slotted_hashcons.specs.WellFiled.{state_in}
use Rattle.slotted_operations.specs.Adding.{IsOfTerm, args_nodes, term_nodes}
use Rattle.slotted_operations.specs.Good.{AddsNodeIn, AddsNodesIn, Good, HasFreshSlots, KeepsAnswers, KeepsNotes, RestsWith, image_of, none_added, one_added}
use Rattle.slotted_operations.specs.Image.{AddsClasses}
use Rattle.slotted_operations.specs.Nodes.{ids_in, child_ids}
use Rattle.slotted_operations.specs.Places.{args_places, term_places}
use Rattle.slotted_operations.specs.Subterms.{IsSubterm, IsTopIn}
use Rattle.slotted_operations.proofs.Additions.MissingNodes.{keeps-none}
use Rattle.slotted_operations.proofs.Graphs.Continuations.{finds-on}
use Rattle.slotted_operations.proofs.Additions.NewClasses.{adds-none, same-goes_on}
use Rattle.slotted_operations.proofs.Graphs.Notes.{notes-none, notes-then}
use Rattle.slotted_operations.proofs.Graphs.Images.{adds-then}
use Rattle.slotted_operations.proofs.TermsOverIds.Layers.{Each-parts, child_smaller, each_at, length-parts, whole_each}
use Rattle.slotted_operations.proofs.LookUps.Subterms.{look-names}
use Rattle.slotted_operations.proofs.TermsOverIds.PlaceCounts.{Bounded, child_places_fit, free_fit, places_fit, size_fit}

-- what holds where a graph was reached by adding nodes
pub record Reached (t : Table) (k : Kept) (r : Rows) (u : Table) (l : Kept) (q : Rows) : Type 0 where
  pub good : Good l
  pub rests : RestsWith l q
  pub fresh_slots : HasFreshSlots u l
  pub more : KnowsMore t u
  pub extends : Extends (nodes_of k) (nodes_of l)
  pub goes_on : GoesOn (state_in k r) (state_in l q)
  pub adds : AddsClasses (image_of k) (image_of l)
  pub notes : KeepsNotes k l
  pub keeps : KeepsAnswers k r l q

module _ (w : Term) (t : Table) (k : Kept) (r : Rows) (good : Good k) (rests : RestsWith k r) (fresh : HasFreshSlots t k) where
  reached-start : Reached t k r t k r
  reached-start = record {
    good = good;
    rests = rests;
    fresh_slots = fresh;
    more = λ s h. h;
    extends = Extends-same (nodes_of k);
    goes_on = same-goes_on k r good rests;
    adds = adds-none k r good rests;
    notes = notes-none k;
    keeps = keeps-none k r good rests;
  }

  reached-next : (u v : Table) (l m : Kept) (q s : Rows) → Reached t k r u l q → AddsNodeIn w u l q v m s → Reached t k r v m s
  reached-next u v l m q s p step =
      let one = step.added in
      let on : GoesOn (state_in k r) (state_in m s) = goes_on-then (state_in k r) (state_in l q) (state_in m s) good.stored.sane.sound.linked p.goes_on one.goes_on in
      record {
        good = one.good;
        rests = one.rests;
        fresh_slots = one.fresh_slots;
        more = λ x h. step.more x (p.more x h);
        extends = Extends-then (nodes_of k) (nodes_of l) (nodes_of m) p.extends one.extends;
        goes_on = on;
        adds = adds-then (image_of k) (image_of l) (image_of m) p.extends p.adds one.adds (finds-on k r good m s on);
        notes = notes-then k l m p.notes one.notes;
        keeps = record {
          finds = λ a h. one.keeps.finds a (p.goes_on.finds a h).0 ∙ p.keeps.finds a h;
          nodes = λ d c a e. one.keeps.nodes d (EachChild-map (IsFindable k) (IsFindable l) (λ x h. (p.goes_on.finds x h).0) d.args c) a (p.keeps.nodes d c a e);
          trees = λ d a e. one.keeps.trees d a (p.keeps.trees d a e);
        };
      }

  pub reached : (n : ℕ) (u : Table) (l : Kept) (q : Rows) → AddsNodesIn w t k r n u l q → Reached t k r u l q
  reached _ _ _ _ none_added = reached-start
  reached _ _ _ _ (one_added {n} {u} {v} {l} {m} {q} {s} before step) = reached-next u v l m q s (reached n u l q before) step

-- a node of a smaller term
pub of-larger : (c w : Term) (f : Form) → term_places c ≤ term_places w → term_size c ≤ term_size w → IsOfTerm c f → IsOfTerm w f
of-larger c w f p s o = record { places = omega (arith, p, o.places); size = omega (arith, s, o.size) }

abbrev pub top-larger : (c w : Term) → ((s : Term) → IsSubterm s c → IsSubterm s w) → (look : DTerm → Option Applied) (f : Form) → IsTopIn look c f → IsTopIn look w f
top-larger c w up look f o = record { subterm = o.subterm; stands = up o.subterm o.stands; top = o.top }

-- how many nodes stand in some terms
abbrev pub nodes_in : List Term → ℕ
nodes_in us = weigh term_nodes us

nodes_in-parts : (n : ℕ) (us : List Term) → nodes_in (take n us) + nodes_in (drop n us) ≡ nodes_in us
nodes_in-parts zero us = omega arith
nodes_in-parts (suc n) [] = omega arith
nodes_in-parts (suc n) (u ∷ us) = omega (arith, nodes_in-parts n us)

filled-nodes : (t : Tree) (xs : List ℕ) (us : List Term) → length us ≡ length (children t) → args_nodes (filled t xs us) ≡ nodes_in us
filled-nodes leaf xs [] n = refl
filled-nodes leaf xs (u ∷ us) n = absurd (omega (arith, n))
filled-nodes (own r) xs us n = filled-nodes r (drop 1 xs) us n
filled-nodes (child i ks r) xs [] n = absurd (omega (arith, n))
filled-nodes (child i ks r) xs (u ∷ us) n = omega (arith, filled-nodes r (drop (length ks) xs) us (omega (arith, n)))
filled-nodes (bind u r) xs us n =
    let m = length (scopes u) in
    let c = length (children u) in
    let l : length (take c us) ≡ c = cut us c (omega (arith, n, length-append (children u) (children r))) in
    omega (
      arith,
      filled-nodes u (take m (drop 1 xs)) (take c us) l,
      filled-nodes r (drop m (drop 1 xs)) (drop c us) (omega (arith, n, l, length-append (children u) (children r), length-parts c us)),
      nodes_in-parts c us,
    )
  where
    cut : (vs : List Term) (c : ℕ) → c ≤ length vs → length (take c vs) ≡ c
    cut vs zero l = refl
    cut [] (suc c) l = absurd (omega arith)
    cut (v ∷ vs) (suc c) l = ap suc (cut vs c (omega arith))

-- the node of a term, and those of its children
pub term_nodes-is : (f : Form) (us : List Term) → length us ≡ length (children f.tree) → term_nodes (form.term_of f us) ≡ nodes_in us + 1
term_nodes-is f us n = omega (arith, filled-nodes f.tree f.names us n)

-- the names of an injective map are different
different-values : (m : List (ℕ × ℕ)) → IsInjectiveMap m → AllDifferent (values m)
different-values [] inj = tt
different-values (p ∷ m) inj = (λ c. inj.0 (has p.1 m c), different-values m inj.1)
  where
    has : (x : ℕ) (m : List (ℕ × ℕ)) → Contains (values m) x → HasValue m x
    has x [] c = absurd (In-Contains [] x c)
    has x (q ∷ m) c = elim (contains_cases q.1 (values m) x c) [
      | inl e ↦ inl e
      | inr h ↦ inr (has x m h)
    ]

module _ (look : DTerm → Option Applied) (law : Renames look) where
  -- an id that a term is looked up as has no more names than the term has places
  looked-few : (u : Term) (a : Applied) → IsInjectiveMap a.1 → look_up look (nameless u) ≡ Some a → length (values a.1) ≤ args_places u.args
  looked-few u a inj e =
      let few = different-length (values a.1) (free_names (nameless u).args) (different-values a.1 inj)
      (λ z c. Contains-In (free_names (nameless u).args) z (look-names (look_up look) (look_up-moved look law) (nameless u) a e z (In-Contains (values a.1) z c))) in
      omega (arith, few, free_fit (λ x. x) u.args)

  pub looked-bounded : (ids : List Applied) (us : List Term) → length ids ≡ length us →
      ((j : ℕ) (d : Applied) (e : Term) → j < length us → IsInjectiveMap (get_or ids j d).1 × (look_up look (nameless (get_or us j e)) ≡ Some (get_or ids j d))) → Bounded ids us
  looked-bounded [] [] n h = tt
  looked-bounded [] (u ∷ us) n h = absurd (omega (arith, n))
  looked-bounded (a ∷ ids) [] n h = absurd (omega (arith, n))
  looked-bounded (a ∷ ids) (u ∷ us) n h =
      let p = h 0 a u (omega arith) in
      (looked-few u a p.0 p.1, looked-bounded ids us (omega (arith, n)) (λ j d e l. h (suc j) d e (omega arith)))

-- a node over such ids
pub node-of_term : (h : Form) (us : List Term) → Fits h → Bounded (child_ids h) us → IsOfTerm (form.term_of h us) h
node-of_term h us fits b = record { places = omega (arith, fits, places_fit h.tree h.names us fits b); size = size_fit (λ x. x) h.tree h.names us fits b }

-- the names at the places of a node are those of a term with known names, and of its children
module _ (t : Table) where
  abbrev Knows : ℕ → Type 0
  Knows x = IsTrue (is_known t x)

  in-parts : (n : ℕ) (xs : List ℕ) (x : ℕ) → In x xs → In x (take n xs) ⊎ In x (drop n xs)
  in-parts zero xs x h = inr h
  in-parts (suc n) [] x h = absurd h
  in-parts (suc n) (y ∷ xs) x (inl e) = inl (inl e)
  in-parts (suc n) (y ∷ xs) x (inr h) = elim (in-parts n xs x h) [
    | inl a ↦ inl (inr a)
    | inr b ↦ inr b
  ]

  first-or : (xs : List ℕ) (x : ℕ) → In x xs → (x ≡ slice_index xs 0) ⊎ In x (drop 1 xs)
  first-or [] x h = absurd h
  first-or (y ∷ xs) x (inl e) = inl e
  first-or (y ∷ xs) x (inr h) = inr h

  values-zip : (ks vs : List ℕ) → length vs ≡ length ks → values (zip ks vs) ≡ vs
  values-zip [] [] n = refl
  values-zip [] (v ∷ vs) n = absurd (omega (arith, n))
  values-zip (k ∷ ks) [] n = absurd (omega (arith, n))
  values-zip (k ∷ ks) (v ∷ vs) n = ap (λ l. v ∷ l) (values-zip ks vs (omega (arith, n)))

  pub places-known : (tree : Tree) (xs : List ℕ) (us : List Term) → length xs ≡ length (scopes tree) → length us ≡ length (children tree) → HasKnownNames t (filled tree xs us) →
      Each (λ (a : Applied). (x : ℕ) → In x (values a.1) → Knows x) (ids_in tree xs) → (x : ℕ) → In x xs → Knows x
  places-known leaf [] us n m k e x h = absurd h
  places-known leaf (y ∷ xs) us n m k e x h = absurd (omega (arith, n))
  places-known (own r) xs us n m k e x h = elim (first-or xs x h) [
    | inl is ↦ subst Knows (sym is) k.0
    | inr later ↦ places-known r (drop 1 xs) us (own_fits r xs n) m k.1 e x later
  ]
  places-known (child i ks r) xs [] n m k e x h = absurd (omega (arith, m))
  places-known (child i ks r) xs (u ∷ us) n m k e x h = elim (in-parts (length ks) xs x h) [
    | inl a ↦ e.0 x (subst (In x) (sym (values-zip ks (take (length ks) xs) (child_keys_fit i ks r xs n))) a)
    | inr b ↦ places-known r (drop (length ks) xs) us (child_rest_fits i ks r xs n) (omega (arith, m)) k.1 e.1 x b
  ]
  places-known (bind u r) xs us n m k e x h = elim (first-or xs x h) [
    | inl is ↦ subst Knows (sym is) k.0
    | inr later ↦
        let s = length (scopes u) in
        let c = length (children u) in
        let parts = Each-append (λ (a : Applied). (z : ℕ) → In z (values a.1) → Knows z) (ids_in u (take s (drop 1 xs))) (ids_in r (drop s (drop 1 xs))) e in
        let l : length (take c us) ≡ c = cut us c (omega (arith, m, length-append (children u) (children r))) in
        elim (in-parts s (drop 1 xs) x later) [
          | inl a ↦ places-known u (take s (drop 1 xs)) (take c us) (bind_inner_fits u r xs n) l k.1 parts.0 x a
          | inr b ↦ places-known r (drop s (drop 1 xs)) (drop c us) (bind_rest_fits u r xs n) (omega (arith, m, l, length-append (children u) (children r), length-parts c us)) k.2 parts.1 x b
        ]
  ]
    where
      cut : (vs : List Term) (c : ℕ) → c ≤ length vs → length (take c vs) ≡ c
      cut vs zero l = refl
      cut [] (suc c) l = absurd (omega arith)
      cut (v ∷ vs) (suc c) l = ap suc (cut vs c (omega arith))

-- the children of a term with known names have known names
known_each : (t : Table) (tree : Tree) (xs : List ℕ) (us : List Term) → length us ≡ length (children tree) → HasKnownNames t (filled tree xs us) → Each (λ (u : Term). HasKnownNames t u.args) us
known_each t leaf xs [] n k = tt
known_each t leaf xs (u ∷ us) n k = absurd (omega (arith, n))
known_each t (own r) xs us n k = known_each t r (drop 1 xs) us n k.1
known_each t (child i ks r) xs [] n k = tt
known_each t (child i ks r) xs (u ∷ us) n k = (k.0, known_each t r (drop (length ks) xs) us (omega (arith, n)) k.1)
known_each t (bind u r) xs us n k =
    let s = length (scopes u) in
    let c = length (children u) in
    let l : length (take c us) ≡ c = cut us c (omega (arith, n, length-append (children u) (children r))) in
    Each-parts (λ (z : Term). HasKnownNames t z.args) c us (known_each t u (take s (drop 1 xs)) (take c us) l k.1)
    (known_each t r (drop s (drop 1 xs)) (drop c us) (omega (arith, n, l, length-append (children u) (children r), length-parts c us)) k.2)
  where
    cut : (vs : List Term) (c : ℕ) → c ≤ length vs → length (take c vs) ≡ c
    cut vs zero l = refl
    cut [] (suc c) l = absurd (omega arith)
    cut (v ∷ vs) (suc c) l = ap suc (cut vs c (omega arith))

-- a valid term: how many children it has, and that each is one
module _ (t : Table) (f : Form) (us : List Term) (w : Term) (view : form.term_of f us ≡ w) (valid : IsValidTerm t w) where
  of-parts : IsValidTerm t (form.term_of f us)
  of-parts = subst (IsValidTerm t) (sym view) valid

  pub valid-count : length us ≡ length (children f.tree)
  valid-count = whole_count f.tree f.names us of-parts.whole

  pub valid-child : (i : ℕ) (c : Term) → i < length us → c ≡ get_or us i c → IsValidTerm t c
  valid-child i c l is = subst (IsValidTerm t) (sym is) (record {
    whole = each_at (λ (x : Term). IsWhole x.args) us i c l (whole_each f.tree f.names us of-parts.whole);
    known = each_at (λ (x : Term). HasKnownNames t x.args) us i c l (known_each t f.tree f.names us valid-count of-parts.known);
  })

  -- a child is smaller, and has no more places
  pub child-smaller : (i : ℕ) (c : Term) → i < length us → c ≡ get_or us i c → term_size c < term_size w
  child-smaller i c l is = subst (λ (x : Term). term_size c < term_size x) view (subst (λ (x : Term). term_size x < term_size (form.term_of f us)) (sym is) (child_smaller f us i c l))

  pub child-places : (i : ℕ) (c : Term) → i < length us → c ≡ get_or us i c → term_places c ≤ term_places w
  child-places i c l is = subst (λ (x : Term). term_places c ≤ term_places x) view (subst (λ (x : Term). term_places x ≤ term_places (form.term_of f us)) (sym is) (child_places_fit f us i c l))

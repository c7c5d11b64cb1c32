-- The names of terms that are made: each is one of the id's, or new, and binders are new.
use Rattle.std.proofs.Common.{◌≡◌, ◌<◌, ◌≤◌, ◌+◌, ◌∙◌, ℕ, zero, suc, List, [], ◌∷◌, ◌++◌, Option, None, Some, true, false, length, map, take, drop, get_or, refl, ap, sym, subst, inl, inr, arith, length-append}
use Rattle.std.specs.Prelude.{◌&&◌, ◌==◌, All, IsSome, slice_index}
use Rattle.std.proofs.lemmas.Bool.{and_parts, cases_Bool, eqb-true, false≢true, or_cases}
use Rattle.std.proofs.lemmas.List.{get_or-append-add, get_or-drop, get_or-take, get_or_append_left, get_or_default, length-drop, length-take-le}
use Rattle.std.proofs.lemmas.List.Elements.{All-drop, All-tail, All-take}
use Rattle.slotted_lists.proofs.Members.{In}
use Rattle.slotted_lists.proofs.Maps.{is_among-In, In-is_among}
use Rattle.slotted_theory.specs.Term.{Args, Term, done, name}
use Rattle.slotted_theory.specs.Term.{bind as bound, child as arguments}
use Rattle.slotted_slots.specs.Maps.{is_among}
use Rattle.slotted_slots.specs.Table.{KnowsMore, Table, is_known}
use Rattle.slotted_nodes.specs.Form.{Form, Tree, leaf, own, child, bind, children, scope_end_of, scopes}
use Rattle.slotted_nodes.specs.Public.{is_bound_by, reaches}
use Rattle.slotted_nodes.proofs.PublicPlaces.{is_public-true}
use Rattle.slotted_languages.specs.Children.{IsBinder}
use Rattle.slotted_languages.specs.Filled.{filled, term_of}
use Rattle.slotted_languages.specs.Fresh.{IsRenamedFresh}
use Rattle.slotted_languages.specs.NewNames.{BindersAreUnknown}
use Rattle.slotted_languages.specs.NodeTerm.{nameless_node}
use Rattle.slotted_languages.specs.Shape.{Fits}
use Rattle.slotted_languages.proofs.FreeAndBound.{public_is_free}
use Rattle.slotted_languages.proofs.NodeTerms.{child_rest_fits}
use Rattle.slotted_languages.proofs.Shapes.{shape-same}
use Rattle.slotted_model.specs.Applied.{values}
use Rattle.slotted_model.specs.Correspondence.{composite}
use Rattle.slotted_model.proofs.Data.Theory.{moved-id}
use Rattle.slotted_model.proofs.Correspondences.Pairs.{In-values_composite}
use Rattle.slotted_classes.proofs.NameMaps.{at_In}
use Rattle.slotted_operations.proofs.TermsOverIds.Layers.{length-parts}
use Rattle.slotted_reports.specs.Nodes.{HasFreshNames}
use Rattle.slotted_reports.proofs.FreshNodes.{free-renamed, unknown-before}
use Rattle.slotted_rule_patterns.proofs.NodeArguments.{some_end}
use Rattle.slotted_graph.specs.Terms.{HasNewNames, IsFreshTerm, IsGivenOrNew}

-- a node with the names ws, which are given or new themselves, and new ones
pub fresh-before : (t u : Table) → KnowsMore t u → (vs ws : List ℕ) → All (IsGivenOrNew t vs) ws → (f : Form) → HasFreshNames u ws f → HasFreshNames t vs f
fresh-before t u more vs ws given f is = record {
  binders = λ j l e. unknown-before t u more _ (is.binders j l e);
  free = λ x h. elim (is.free x h) [
    | inl y ↦ at_In (IsGivenOrNew t vs) ws given x (is_among-In ws x y)
    | inr n ↦ inr (unknown-before t u more x n)
  ];
}

reached : (o : Option ℕ) (j i : ℕ) → reaches o i ≡ true → IsSome o
reached None j i h = absurd (false≢true h)
reached (Some e) j i h = refl

-- a name at a place is that of a binder before it, where the test says so
bound-at : (f : Form) (i n : ℕ) → n ≤ length f.names → is_bound_by f i n ≡ true →
    (j : ℕ) × (j < length f.names) × IsBinder f j × (slice_index f.names j ≡ slice_index f.names i)
bound-at f i zero le h = absurd (false≢true h)
bound-at f i (suc j) le h = elim (or_cases (reaches (scope_end_of (scopes f.tree) j) i && (slice_index f.names j == slice_index f.names i)) (is_bound_by f i j) h) [
  | inl here ↦
      let both = and_parts (reaches (scope_end_of (scopes f.tree) j) i) (slice_index f.names j == slice_index f.names i) here in
      (j, omega (arith, le), reached (scope_end_of (scopes f.tree) j) j i both.0, eqb-true (slice_index f.names j) (slice_index f.names i) both.1)
  | inr further ↦ bound-at f i j (omega (arith, le)) further
]

-- so each name of a node is free or that of a binder, and given or new in both cases
pub names-new : (t : Table) (vs : List ℕ) (f : Form) → Fits f → HasFreshNames t vs f → (i : ℕ) → i < length f.names → IsGivenOrNew t vs (slice_index f.names i)
names-new t vs f fits is i lt = at (scope_end_of (scopes f.tree) i) refl
  where
    at : (o : Option ℕ) → scope_end_of (scopes f.tree) i ≡ o → IsGivenOrNew t vs (slice_index f.names i)
    at (Some e) s = inr (is.binders i lt (subst IsSome (sym s) refl))
    at None s = elim (cases_Bool (is_bound_by f i i)) [
      | inl h ↦
          let b = bound-at f i i (omega (arith, lt)) h in
          inr (subst (λ x. is_known t x ≡ false) b.3 (is.binders b.0 b.1 b.2))
      | inr n ↦ is.free (slice_index f.names i) (public_is_free f i fits lt (is_public-true f i s n))
    ]

pub all-new : (t : Table) (vs : List ℕ) (f : Form) → Fits f → HasFreshNames t vs f → All (IsGivenOrNew t vs) f.names
all-new t vs f fits is k d lt = subst (IsGivenOrNew t vs) (get_or_default f.names k 0 d lt) (names-new t vs f fits is k lt)

-- a node that is renamed and then gets new binders
pub fresh-named : (t u : Table) → KnowsMore t u → (m B A : List (ℕ × ℕ)) → m ≡ composite B A → (key b c : Form) → IsRenamedFresh t m key b → Fits b → Fits c →
    nameless_node c ≡ nameless_node b → BindersAreUnknown u b c → HasFreshNames t (values A) c
fresh-named t u more m B A is_m key b c renamed fits_b fits_c same unknown =
    let shapes = (shape-same (λ x. x) (λ x y p. p) c b (moved-id (nameless_node c) ∙ same)).0 in
    let tree : c.tree ≡ b.tree = ap (λ (h : Form). h.tree) shapes in
    let count : length c.names ≡ length b.names = fits_c ∙ (ap (λ h. length (scopes h)) tree ∙ sym fits_b) in
    let is : IsRenamedFresh t m key c =
    record { by = renamed.by; known = renamed.known; unused = renamed.unused; apart = renamed.apart; differ = renamed.differ; renamed = same ∙ renamed.renamed } in
    record {
      binders = λ j l e. unknown-before t u more _ (unknown j (omega (arith, l, count)) (subst (λ h. IsSome (scope_end_of (scopes h) j)) tree e));
      free = free-renamed t m key c (values A) is (λ x h. In-values_composite B A x (subst (λ (n : List (ℕ × ℕ)). In x (values n)) is_m h));
    }

-- more names may be given
pub fresh-within : (t : Table) (vs ws : List ℕ) → ((x : ℕ) → is_among x ws ≡ true → is_among x vs ≡ true) → (a : Args) → HasNewNames t ws a → HasNewNames t vs a
fresh-within t vs ws within done h = tt
fresh-within t vs ws within (name x rest) h = (
  elim h.0 [
    | inl y ↦ inl (within x y)
    | inr n ↦ inr n
  ],
  fresh-within t vs ws within rest h.1,
)
fresh-within t vs ws within (arguments op payloads args rest) h = (fresh-within t vs ws within args h.0, fresh-within t vs ws within rest h.1)
fresh-within t vs ws within (bound x inner rest) h = (h.0, fresh-within t vs ws within inner h.1, fresh-within t vs ws within rest h.2)

-- so what an id hands on may be told by the id
pub fresh-handed_on : (t : Table) (B A : List (ℕ × ℕ)) (u : Term) → IsFreshTerm t (values (composite B A)) u → IsFreshTerm t (values A) u
fresh-handed_on t B A u h = fresh-within t (values A) (values (composite B A)) (λ x y. In-is_among (values A) x (In-values_composite B A x (is_among-In (values (composite B A)) x y))) u.args h

-- terms over such nodes

none-then : (ks : List ℕ) (s : List (Option ℕ)) (i : ℕ) → get_or (map (λ _. None) ks ++ s) (length ks + i) None ≡ get_or s i None
none-then [] s i = let e : 0 + i ≡ i = omega arith in ap (λ n. get_or s n None) e
none-then (k ∷ ks) s i =
    let e : suc (length ks) + i ≡ suc (length ks + i) = omega arith in
    ap (λ n. get_or (None ∷ (map (λ _. None) ks ++ s)) n None) e ∙ none-then ks s i

module _ (t : Table) (vs : List ℕ) where
  abbrev AreGiven : List ℕ → Type 0
  AreGiven xs = (i : ℕ) → i < length xs → IsGivenOrNew t vs (get_or xs i 0)

  -- the names of binders, which have a scope
  abbrev AreUnknown : List (Option ℕ) → List ℕ → Type 0
  AreUnknown s xs = (i : ℕ) → i < length xs → IsSome (get_or s i None) → is_known t (get_or xs i 0) ≡ false

  fresh-filled : (tree : Tree) (xs : List ℕ) → length xs ≡ length (scopes tree) → AreGiven xs → AreUnknown (scopes tree) xs → (us : List Term) → All (IsFreshTerm t vs) us →
      length us ≡ length (children tree) → HasNewNames t vs (filled tree xs us)
  fresh-filled leaf xs n given unknown [] all c = tt
  fresh-filled leaf xs n given unknown (u ∷ us) all c = absurd (omega (arith, c))
  fresh-filled (own r) [] n given unknown us all c = absurd (omega (arith, n))
  fresh-filled (own r) (x ∷ xs) n given unknown us all c =
      (given 0 (omega arith), fresh-filled r xs (omega (arith, n)) (λ i l. given (suc i) (omega (arith, l))) (λ i l e. unknown (suc i) (omega (arith, l)) e) us all c)
  fresh-filled (child j ks r) xs n given unknown [] all c = absurd (omega (arith, c))
  fresh-filled (child j ks r) xs n given unknown (u ∷ us) all c =
      let m : ℕ = length ks in (
        all 0 u (omega arith),
        fresh-filled r (drop m xs) (child_rest_fits j ks r xs n)
            (λ i l. subst (IsGivenOrNew t vs) (sym (get_or-drop m xs i 0)) (given (m + i) (further m xs i l)))
            (λ i l e. subst (λ x. is_known t x ≡ false) (sym (get_or-drop m xs i 0))
            (unknown (m + i) (further m xs i l) (subst IsSome (sym (none-then ks (scopes r) i)) e))) us
            (All-tail (IsFreshTerm t vs) u us all) (omega (arith, c)),
      )
    where
      further : (m : ℕ) (ys : List ℕ) (i : ℕ) → i < length (drop m ys) → m + i < length ys
      further m ys i l = omega (arith, l, length-drop m ys)
  fresh-filled (bind u r) [] n given unknown us all c = absurd (omega (arith, n))
  fresh-filled (bind u r) (x ∷ ys) n given unknown us all c =
      let m : ℕ = length (scopes u) in
      let k : ℕ = length (children u) in
      let nn : length ys ≡ m + length (scopes r) = omega (arith, n, length-append (scopes u) (scopes r)) in
      let cs : length us ≡ k + length (children r) = omega (arith, c, length-append (children u) (children r)) in
      let lt : length (take m ys) ≡ m = length-take-le m ys (omega (arith, nn)) in
      let lk : length (take k us) ≡ k = length-take-le k us (omega (arith, cs)) in (
        unknown 0 (omega arith) refl,
        fresh-filled u (take m ys) lt
            (λ i l. subst (IsGivenOrNew t vs) (sym (get_or-take m ys i 0 (omega (arith, l, lt)))) (given (suc i) (omega (arith, l, lt, nn))))
            (λ i l e. subst (λ y. is_known t y ≡ false) (sym (get_or-take m ys i 0 (omega (arith, l, lt))))
            (unknown (suc i) (omega (arith, l, lt, nn)) (subst IsSome (sym (get_or_append_left (scopes u) (scopes r) None i (omega (arith, l, lt)))) e)))
            (take k us) (All-take (IsFreshTerm t vs) k us all) lk,
        fresh-filled r (drop m ys) (omega (arith, lt, nn, length-parts m ys))
            (λ i l. subst (IsGivenOrNew t vs) (sym (get_or-drop m ys i 0)) (given (suc (m + i)) (omega (arith, l, lt, length-parts m ys))))
            (λ i l e. subst (λ y. is_known t y ≡ false) (sym (get_or-drop m ys i 0))
            (unknown (suc (m + i)) (omega (arith, l, lt, length-parts m ys)) (subst IsSome (sym (get_or-append-add (scopes u) (scopes r) i None)) e)))
            (drop k us) (All-drop (IsFreshTerm t vs) k us all) (omega (arith, lk, cs, length-parts k us)),
      )

  -- the term of a fresh node over fresh terms
  pub fresh-term : (f : Form) → Fits f → HasFreshNames t vs f → (us : List Term) → All (IsFreshTerm t vs) us → length us ≡ length (children f.tree) → IsFreshTerm t vs (term_of f us)
  fresh-term f fits is us all c =
      fresh-filled f.tree f.names fits (λ i l. names-new t vs f fits is i l)
      (λ i l e. is.binders i l (some_end i (get_or (scopes f.tree) i None) e)) us all c

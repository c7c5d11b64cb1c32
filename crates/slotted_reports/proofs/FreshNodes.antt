-- A filed node with the names of an id and fresh ones beside them: it is looked up as what the id finds.
use Rattle.std.proofs.Common.{◌≡◌, ◌≤◌, ◌<◌, ◌+◌, ◌*◌, ◌∙◌, ℕ, zero, suc, List, [], ◌∷◌, ◌++◌, None, Some, true, false, get_or, take, length, map, refl, ap, sym, subst, inl, inr, arith}
use Rattle.std.specs.Prelude.{◌⊎◌, Contains, IsSome, IsTrue, Option, cond, not, slice_index}
use Rattle.std.specs.List.{range_with_len, sum_by}
use Rattle.std.specs.List.Sorted.{IsPermutation}
use Rattle.std.proofs.lemmas.List.{take_more}
use Rattle.std.proofs.lemmas.List.Sorted.{Contains-permutation, IsPermutation-sym, sum_by-IsPermutation}
use Rattle.std.proofs.lemmas.List.Sums.{sum_by-cons}
use Rattle.std.proofs.lemmas.Bool.{cases_Bool, false≢true}
use Rattle.std.proofs.lemmas.List.Elements.{All-append, All-nil, All-push, Contains-get_or}
use Rattle.slotted_lists.proofs.Contained.{Contains-nil, contains_cases, contains_head}
use Rattle.slotted_lists.proofs.Members.{In, In-Contains, In-of_map}
use Rattle.slotted_lists.proofs.Maps.{is_among-In, In-is_among}
use Rattle.slotted_theory.specs.Nameless.{DTerm}
use Rattle.slotted_theory.specs.Shape.{free_names}
use Rattle.slotted_slots.specs.Maps as slots
use Rattle.slotted_slots.specs.Maps.{is_among}
use Rattle.slotted_slots.specs.Table.{KnowsMore, Table, TakesAtMost, is_known, slot_limit, unknown_names}
use Rattle.slotted_slots.proofs.SlotsTaken.{at_most_known, fresh_goes_on, lacks_known}
use Rattle.slotted_nodes.specs.Form.{Form, Tree, scope_end_of, scopes}
use Rattle.slotted_languages.specs.Children.{binders}
use Rattle.slotted_languages.specs.Fresh.{IsRenamedFresh, RunsOut as LacksFresh}
use Rattle.slotted_languages.specs.NewNames.{BindersAreUnknown, LacksPerBinder, LacksPerPlace, PutsIn, TakesPerBinder, TakesPerPlace}
use Rattle.slotted_languages.specs.NodeTerm.{free_names_of, nameless_node}
use Rattle.slotted_languages.specs.Shape.{Fits, shape}
use Rattle.slotted_languages.proofs.Counting.{binders_fit}
use Rattle.slotted_languages.proofs.PutIn.{answer_is_known}
use Rattle.slotted_model.specs.Applied.{Applied, values}
use Rattle.slotted_model.specs.Correspondence.{same_names}
use Rattle.slotted_model.specs.Find.{find, find_map}
use Rattle.slotted_model.proofs.Correspondences.Pairs.{Contains-value, Contains-value_of, In-values_composite}
use Rattle.slotted_model.proofs.Data.Theory.{free_names-moved}
use Rattle.slotted_proofs.proofs.Bridges.{value_of-model}
use Rattle.slotted_classes.specs.Finding.{IsFindable}
use Rattle.slotted_classes.specs.Kept.{Kept, entries_of}
use Rattle.slotted_hashcons.specs.Filed.{HasKey, filed_of}
use Rattle.slotted_hashcons.specs.FiledRows.{Rows}
use Rattle.slotted_hashcons.specs.WellFiled.{IsWellFiled}
use Rattle.slotted_lookup.specs.Enodes.{AllKnownTo, IsLargeKeyOf, IsMet, names_beside_of}
use Rattle.slotted_lookup.specs.Filling.{RunsOut}
use Rattle.slotted_lookup.proofs.EnodeNames.{beside-key, beside-looked_up}
use Rattle.slotted_reports.specs.Nodes.{AreAppliedNodes, HasLargeKeyOf, IsAppliedNode, RunsOutForKeys, TakesForKeys, key_at, key_in, key_of, places_at}
use Rattle.slotted_reports.proofs.FiledNodes.{filed-children, filed-names_known, filed-places, names-known, same-key}
use Rattle.slotted_reports.proofs.KeyOrder.{mapped-more}

-- one key is counted alone
pub one-key : (f : ℕ → ℕ) (o : ℕ) → sum_by f (o ∷ []) ≡ f o
one-key f o = omega (arith, sum_by-cons f o [])

pub key-takes : (r : Rows) (o : ℕ) (f : Form) (m : List (ℕ × ℕ)) → filed_of r.filed o ≡ Some (f, m) → (t u : Table) → u.fresh ≤ t.fresh + 2 * length f.names → TakesForKeys r (o ∷ []) t u
key-takes r o f m at t u takes =
    let places : places_at r.filed o ≡ length f.names = ap (λ e. length (key_of e).names) at in
    omega (arith, takes, places, one-key (places_at r.filed) o)

-- free names of a renamed node

pub free-renamed : (t : Table) (w : List (ℕ × ℕ)) (f c : Form) (vs : List ℕ) → IsRenamedFresh t w f c → ((x : ℕ) → In x (values w) → In x vs) → (z : ℕ) →
    is_among z (free_names_of c) ≡ true → (is_among z vs ≡ true) ⊎ (is_known t z ≡ false)
free-renamed t w f c vs is own z h =
    let names : free_names_of c ≡ map is.by (free_names_of f) = ap (λ (d : DTerm). free_names d.args) is.renamed ∙ free_names-moved is.by (nameless_node f).args in
    let p = In-of_map is.by (free_names_of f) z (subst (In z) names (is_among-In (free_names_of c) z h)) in
    go p.0 (In-is_among (free_names_of f) p.0 p.1) p.2 (slots.value_of w p.0) refl
  where
    go : (x : ℕ) → is_among x (free_names_of f) ≡ true → z ≡ is.by x → (o : Option ℕ) → slots.value_of w x ≡ o → (is_among z vs ≡ true) ⊎ (is_known t z ≡ false)
    go x m e (Some y) v = inl (subst (λ u. is_among u vs ≡ true) (sym (e ∙ is.known x y v))
        (In-is_among vs y (own y (In-Contains (values w) y (Contains-value w x y (Contains-value_of w x y (sym (value_of-model w x) ∙ v)))))))
    go x m e None v = inr (subst (λ u. is_known t u ≡ false) (sym e) (is.unused x m v))

-- what a table that knows more does not know
pub unknown-before : (t u : Table) → KnowsMore t u → (x : ℕ) → is_known u x ≡ false → is_known t x ≡ false
unknown-before t u more x n = elim (cases_Bool (is_known t x)) [
  | inl y ↦ absurd (false≢true (sym n ∙ more x y))
  | inr e ↦ e
]

-- where all names are known, as many slots are made as are counted
pub none-unknown : (t : Table) (xs : List ℕ) → AllKnownTo t xs → unknown_names t xs ≡ []
none-unknown t [] h = refl
none-unknown t (x ∷ xs) h =
    ap (λ b. cond (not b) (x ∷ unknown_names t xs) (unknown_names t xs)) (h 0 x (omega arith))
    ∙ none-unknown t xs (λ j d l. h (suc j) d (omega (arith, l)))

pub made-beside : (t u : Table) (n : ℕ) (vs : List ℕ) (f : Form) → AllKnownTo t vs → AllKnownTo t f.names → TakesAtMost n (vs ++ f.names) t u → u.fresh ≤ t.fresh + n
made-beside t u n vs f given own takes = at_most_known n (vs ++ f.names) t u (none-unknown t (vs ++ f.names) (All-append (λ s. IsTrue (is_known t s)) vs f.names given own)) takes

-- beside names that are known the counter tells what was lacking

pub lacked-beside : (t u : Table) (n : ℕ) (xs : List ℕ) → AllKnownTo t xs → KnowsMore t u → LacksFresh n xs t u → RunsOut n t u
lacked-beside t u n xs known more out =
    let fits : t.fresh ≤ slot_limit = subst (λ k. t.fresh ≤ k) out.0 (fresh_goes_on t u more) in
    record { lacks = lacks_known n xs t (none-unknown t xs known) fits out.1; used = out.0 }

pub runs_out-more : (n m : ℕ) (t u : Table) → n ≤ m → RunsOut n t u → RunsOut m t u
runs_out-more n m t u le out = record { lacks = further slot_limit out.lacks; used = out.used }
  where
    further : (limit : ℕ) → limit < t.fresh + n → limit < t.fresh + m
    further limit lacks = omega (arith, le, lacks)

-- what runs out later ran out from before, with what was made between
pub runs_out-after : (n m : ℕ) (t u v : Table) → u.fresh + n ≤ t.fresh + m → RunsOut n u v → RunsOut m t v
runs_out-after n m t u v made out = record { lacks = further slot_limit out.lacks; used = out.used }
  where
    further : (limit : ℕ) → limit < u.fresh + n → limit < t.fresh + m
    further limit lacks = omega (arith, made, lacks)

-- a filed node with the names of an id, and with fresh binders then
module _ (k : Kept) (r : Rows) (well : IsWellFiled k r) (o : ℕ) (f : Form) (m : List (ℕ × ℕ)) (at : filed_of r.filed o ≡ Some (f, m)) (quiet : ¬ Contains r.waiting o)
    (a : Applied) (valid : IsFindable k a) (meets : IsMet k o a) (t : Table) (known : AllKnownTo t (values a.1)) (w : List (ℕ × ℕ)) (beside : w ≡ names_beside_of k o m a) where
  abbrev B : List (ℕ × ℕ)
  B = same_names m (find_map (entries_of k) o)

  own : (x : ℕ) → In x (values w) → In x (values a.1)
  own x h = In-values_composite (find_map (entries_of k) a.0) a.1 x (In-values_composite B (find (entries_of k) a).1 x (subst (λ (n : List (ℕ × ℕ)). In x (values n)) beside h))

  handed : AllKnownTo t (values w)
  handed = subst (λ (n : List (ℕ × ℕ)). AllKnownTo t (values n)) (sym beside) (names-known t (entries_of k) B a known)

  pub renamed-takes : (u : Table) → TakesPerPlace w f t u → u.fresh ≤ t.fresh + length f.names
  renamed-takes u takes = made-beside t u (length f.names) (values w) f handed (filed-names_known k r well o f m at quiet t) takes

  key-slots : length f.names ≤ sum_by (places_at r.filed) (o ∷ [])
  key-slots = omega (arith, ap (λ e. length (key_of e).names) at, one-key (places_at r.filed) o)

  pub renamed-lacks : (u : Table) → KnowsMore t u → LacksPerPlace w f t u → RunsOutForKeys r (o ∷ []) t u
  renamed-lacks u more (inl large) = inr (o, contains_head o [], (f, (m, at), large))
  renamed-lacks u more (inr out) =
      let all = All-append (λ s. IsTrue (is_known t s)) (values w) f.names handed (filed-names_known k r well o f m at quiet t) in
      inl (runs_out-more (length f.names) (2 * sum_by (places_at r.filed) (o ∷ [])) t u (omega (arith, key-slots)) (lacked-beside t u (length f.names) (values w ++ f.names) all more out))

  module _ (b : Form) (fits : Fits b) (is : IsRenamedFresh t w f b) where
    by : IsRenamedFresh t (names_beside_of k o m a) f b
    by = subst (λ n. IsRenamedFresh t n f b) beside is

    pub renamed-key : HasKey r.filed o (shape b).0
    renamed-key = beside-key k r well o f m at quiet a valid meets t known b fits by

    pub renamed-places : length b.names ≡ length f.names
    renamed-places = filed-places k r well o f m at quiet b fits renamed-key

    module _ (u : Table) (more : KnowsMore t u) (puts : PutsIn u (values w) f b) where
      pub renamed-known : AllKnownTo u b.names
      renamed-known = answer_is_known t u (values w) f b more (filed-names_known k r well o f m at quiet t) handed puts

      pub refreshed-takes : (v : Table) → TakesPerPlace w f t u → TakesPerBinder [] b u v → v.fresh ≤ t.fresh + 2 * length f.names
      refreshed-takes v one two =
          omega (arith, renamed-takes u one, made-beside u v (binders b) [] b (All-nil (λ s. IsTrue (is_known u s))) renamed-known two, binders_fit b, renamed-places)

      pub refreshed-lacks : (v : Table) → KnowsMore u v → TakesPerPlace w f t u → LacksPerBinder [] b u v → RunsOutForKeys r (o ∷ []) t v
      refreshed-lacks v later one (inl large) = inr (o, contains_head o [], (f, (m, at), omega (arith, large, renamed-places)))
      refreshed-lacks v later one (inr out) =
          inl (runs_out-after (binders b) (2 * sum_by (places_at r.filed) (o ∷ [])) t u v (omega (arith, renamed-takes u one, binders_fit b, renamed-places, key-slots))
          (lacked-beside u v (binders b) b.names renamed-known later out))

      module _ (v : Table) (c : Form) (fits_c : Fits c) (same : nameless_node c ≡ nameless_node b) (more_c : KnowsMore u v) (puts_c : PutsIn v [] b c) (binders_c : BindersAreUnknown u b c) where
        is_c : IsRenamedFresh t w f c
        is_c = record { by = is.by; known = is.known; unused = is.unused; apart = is.apart; differ = is.differ; renamed = same ∙ is.renamed }

        by_c : IsRenamedFresh t (names_beside_of k o m a) f c
        by_c = subst (λ n. IsRenamedFresh t n f c) beside is_c

        pub refreshed-key : HasKey r.filed o (shape c).0
        refreshed-key = beside-key k r well o f m at quiet a valid meets t known c fits_c by_c

        tree : c.tree ≡ b.tree
        tree = sym (ap (λ (h : Form). h.tree) (same-key k r well o f m at quiet c fits_c refreshed-key)) ∙ ap (λ (h : Form). h.tree) (same-key k r well o f m at quiet b fits renamed-key)

        fresh : BindersAreUnknown t c c
        fresh j l e =
            let within : j < length b.names = omega (arith, l, renamed-places, filed-places k r well o f m at quiet c fits_c refreshed-key) in
            unknown-before t u more (slice_index c.names j) (binders_c j within (subst (λ (h : Tree). IsSome (scope_end_of (scopes h) j)) tree e))

        pub refreshed-is : length f.names < slot_limit → IsAppliedNode t v k r a c
        refreshed-is few = record {
          found = beside-looked_up k r well o f m at quiet a valid meets t known c fits_c by_c;
          small = omega (arith, few, filed-places k r well o f m at quiet c fits_c refreshed-key);
          known = answer_is_known u v [] b c more_c renamed-known (All-nil (λ s. IsTrue (is_known u s))) puts_c;
          fresh = record { binders = fresh; free = free-renamed t w f c (values a.1) is_c own };
          children = filed-children k r well o f m at quiet c fits_c refreshed-key;
        }

-- one node after another

applied-more : (s t u : Table) (k : Kept) (r : Rows) (a : Applied) (f : Form) → KnowsMore t u → IsAppliedNode s t k r a f → IsAppliedNode s u k r a f
applied-more s t u k r a f more is = record { found = is.found; small = is.small; known = λ j d h. more _ (is.known j d h); fresh = is.fresh; children = is.children }

applied-before : (s t u : Table) (k : Kept) (r : Rows) (a : Applied) (f : Form) → KnowsMore s t → IsAppliedNode t u k r a f → IsAppliedNode s u k r a f
applied-before s t u k r a f more is = record {
  found = is.found;
  small = is.small;
  known = is.known;
  fresh = record {
    binders = λ j l e. unknown-before s t more _ (is.fresh.binders j l e);
    free = λ x h. elim (is.fresh.free x h) [
      | inl y ↦ inl y
      | inr n ↦ inr (unknown-before s t more x n)
    ];
  };
  children = is.children;
}

pub nodes-then : {L : Type 0} (form : L → Form) (s t u : Table) (k : Kept) (r : Rows) (a : Applied) (xs : List ℕ) (ns : List L) (i : ℕ) (n : L) → i < length xs → KnowsMore s t → KnowsMore t u →
    AreAppliedNodes form s t k r a (take i xs) ns → HasKey r.filed (get_or xs i 0) (shape (form n)).0 → IsAppliedNode t u k r a (form n) → AreAppliedNodes form s u k r a (take (i + 1) xs) (ns ++ n ∷ [])
nodes-then form s t u k r a xs ns i n lt before more so_far key is = record {
  keys = mapped-more (key_in form) (key_at r.filed) ns xs i n 0 lt so_far.keys (sym (ap key_of key.1));
  each = All-push (λ n. IsAppliedNode s u k r a (form n)) ns n (λ j d h. applied-more s t u k r a (form (get_or ns j d)) more (so_far.each j d h)) (applied-before s t u k r a (form n) before is);
}

-- and the slots that they take
sum-then : (f : ℕ → ℕ) (xs : List ℕ) (x : ℕ) → sum_by f (xs ++ x ∷ []) ≡ sum_by f xs + f x
sum-then f [] x = omega (arith, sum_by-cons f x [])
sum-then f (y ∷ ys) x = omega (arith, sum_by-cons f y (ys ++ x ∷ []), sum_by-cons f y ys, sum-then f ys x)

pub takes-then : (r : Rows) (s t u : Table) (xs : List ℕ) (i : ℕ) → i < length xs → TakesForKeys r (take i xs) s t → TakesForKeys r (get_or xs i 0 ∷ []) t u → TakesForKeys r (take (i + 1) xs) s u
takes-then r s t u xs i lt so_far here =
    let f = places_at r.filed in
    let more : sum_by f (take (i + 1) xs) ≡ sum_by f (take i xs) + f (get_or xs i 0) = ap (sum_by f) (take_more xs i 0 lt) ∙ sum-then f (take i xs) (get_or xs i 0) in
    omega (arith, so_far, here, more, one-key f (get_or xs i 0))

-- some of the keys take no more than all
sum-within : (f : ℕ → ℕ) (i : ℕ) (xs : List ℕ) → sum_by f (take i xs) ≤ sum_by f xs
sum-within f zero xs = omega arith
sum-within f (suc i) [] = omega arith
sum-within f (suc i) (x ∷ xs) = omega (arith, sum_by-cons f x (take i xs), sum_by-cons f x xs, sum-within f i xs)

pub takes-within : (r : Rows) (s t : Table) (xs : List ℕ) (i : ℕ) → TakesForKeys r (take i xs) s t → TakesForKeys r xs s t
takes-within r s t xs i so_far = omega (arith, so_far, sum-within (places_at r.filed) i xs)

pub takes-ordered : (r : Rows) (s t : Table) (xs ys : List ℕ) → IsPermutation xs ys → TakesForKeys r ys s t → TakesForKeys r xs s t
takes-ordered r s t xs ys same takes = omega (arith, takes, sum_by-IsPermutation (places_at r.filed) xs ys same)

-- why slots run out: for one of the keys at hand

pub one-large : (r : Rows) (o : ℕ) (xs : List ℕ) → Contains xs o → HasLargeKeyOf r (o ∷ []) → HasLargeKeyOf r xs
one-large r o xs within h = elim (contains_cases o [] h.0 h.1) [
  | inl e ↦ (o, within, subst (IsLargeKeyOf r) e h.2)
  | inr n ↦ absurd (Contains-nil h.0 n)
]

pub runs_out-then : (r : Rows) (s t u : Table) (xs : List ℕ) (i : ℕ) → i < length xs → TakesForKeys r (take i xs) s t → RunsOutForKeys r (get_or xs i 0 ∷ []) t u → RunsOutForKeys r xs s u
runs_out-then r s t u xs i lt so_far (inl out) =
    let f = places_at r.filed in
    let o = get_or xs i 0 in
    let more : sum_by f (take (i + 1) xs) ≡ sum_by f (take i xs) + f o = ap (sum_by f) (take_more xs i 0 lt) ∙ sum-then f (take i xs) o in
    inl (runs_out-after (2 * sum_by f (o ∷ [])) (2 * sum_by f xs) s t u (omega (arith, so_far, more, one-key f o, sum-within f (i + 1) xs)) out)
runs_out-then r s t u xs i lt so_far (inr h) = inr (one-large r (get_or xs i 0) xs (Contains-get_or xs i 0 lt) h)

pub runs_out-ordered : (r : Rows) (t u : Table) (xs ys : List ℕ) → IsPermutation xs ys → RunsOutForKeys r ys t u → RunsOutForKeys r xs t u
runs_out-ordered r t u xs ys same (inl out) =
    let f = places_at r.filed in
    inl (runs_out-more (2 * sum_by f ys) (2 * sum_by f xs) t u (omega (arith, sum_by-IsPermutation f xs ys same)) out)
runs_out-ordered r t u xs ys same (inr h) = inr (h.0, Contains-permutation ys xs h.0 (IsPermutation-sym xs ys same) h.1, h.2)

-- one class after another
pub sum-range : (f : ℕ → ℕ) (a n : ℕ) → sum_by f (range_with_len a (suc n)) ≡ sum_by f (range_with_len a n) + f (a + n)
sum-range f a zero =
    let here : a ≡ a + 0 = omega arith in
    omega (arith, sum_by-cons f a [], ap f here)
sum-range f a (suc n) =
    let same : a + 1 + n ≡ a + suc n = omega arith in
    omega (arith, sum_by-cons f a (range_with_len (a + 1) (suc n)), sum_by-cons f a (range_with_len (a + 1) n), sum-range f (a + 1) n, ap f same)

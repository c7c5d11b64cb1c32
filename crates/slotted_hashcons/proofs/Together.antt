-- What is filed, who uses it and what waits fit together, as each changes.
use Rattle.std.proofs.Common.{◌≡◌, ◌≢◌, ◌∙◌, ◌<◌, ◌≤◌, ◌+◌, ℕ, zero, suc, List, [], ◌∷◌, ◌++◌, length, Option, Some, None, ap, sym, refl, subst, inl, inr, arith, append_assoc}
use Rattle.std.specs.Prelude.{Contains, IfNone, IfSome, set, slice_get, slice_index_or, ◌⊎◌}
use Rattle.std.proofs.lemmas.Bool.{cases_eq}
use Rattle.std.proofs.lemmas.List.{append-nil, get_or-set_same, get_or-set_other, length-set, length-append}
use Rattle.std.proofs.lemmas.List.Elements.{Contains-append_left, Contains-append_right, Contains-append_cases}
use Rattle.slotted_lists.proofs.Contained.{contains_head, contains_tail, contains_cases, Contains-nil}
use Rattle.slotted_lists.proofs.Options.{Some-same}
use borrow.Author.Count.{below_more}
use Rattle.slotted_nodes.specs.Form.{Form, children, child_id}
use Rattle.slotted_model.specs.Correspondence.{AllDifferent}
use Rattle.slotted_model.specs.State.{Row, HasTouched, child_classes}
use Rattle.slotted_model.proofs.Rebuilding.Touching.{different-added}
use Rattle.slotted_hashcons.specs.Filed.{Filing, filed_of}
use Rattle.slotted_hashcons.specs.FiledRows.{HasChildrenBelow, IsFiled, key_children, row_of_entry, rows_state}
use Rattle.slotted_hashcons.specs.Over.{AreUsedMore, FitTogether, HasChild, IsUser, UsesEach, WaitOver, WaitsMore}
use Rattle.slotted_hashcons.specs.Waiting.{Waiting, Pops, Pushes, with_one_more}
use Rattle.slotted_hashcons.proofs.Indexed.{place-added, place-within}
use Rattle.slotted_hashcons.proofs.FiledRows.{filed-row, row-children, row-filed}
use Rattle.slotted_hashcons.proofs.KeyChildren.{child-read, place-contains}

pub fit-nothing : FitTogether [] [] (record { count = 0; queue = [] })
fit-nothing = record {
  lists = omega arith;
  flags = omega arith;
  once = tt;
  filed = λ i c. absurd (Contains-nil i c);
  children = λ i c h. let e = h.filed in cc;
  over = λ i c h. let e = h.filed in cc;
}

-- a child is that of what is filed of the class
pub child-same : (v w : List (Option Filing)) (i c : ℕ) → filed_of w i ≡ filed_of v i → HasChild w i c → HasChild v i c
child-same v w i c e h = record { key = h.key; names = h.names; filed = sym e ∙ h.filed; child = h.child }

pub child-key : (v : List (Option Filing)) (i c : ℕ) (f : Form) (m : List (ℕ × ℕ)) → filed_of v i ≡ Some (f, m) → HasChild v i c → Contains (key_children f) c
child-key v i c f m e h = let s : h.key ≡ f = ap (λ (x : Filing). x.0) (Some-same (h.key, h.names) (f, m) (sym h.filed ∙ e)) in subst (λ g. Contains (key_children g) c) s h.child

-- one push

pub pushed-there : {w u : Waiting} {i : ℕ} → Pushes w u i → Contains u.queue i
pushed-there {w} {u} {i} p = elim p [
  | inl h ↦ subst (λ (x : Waiting). Contains x.queue i) (sym h.1) h.0
  | inr h ↦ subst (λ (x : Waiting). Contains x.queue i) (sym h.1) (Contains-append_right w.queue (i ∷ []) i (contains_head i []))
]

pub pushed-kept : {w u : Waiting} {i : ℕ} → Pushes w u i → (j : ℕ) → Contains w.queue j → Contains u.queue j
pushed-kept {w} {u} {i} p j c = elim p [
  | inl h ↦ subst (λ (x : Waiting). Contains x.queue j) (sym h.1) c
  | inr h ↦ subst (λ (x : Waiting). Contains x.queue j) (sym h.1) (Contains-append_left w.queue (i ∷ []) j c)
]

pub pushed-from : {w u : Waiting} {i : ℕ} → Pushes w u i → (j : ℕ) → Contains u.queue j → Contains w.queue j ⊎ (j ≡ i)
pushed-from {w} {u} {i} p j c = elim p [
  | inl h ↦ inl (subst (λ (x : Waiting). Contains x.queue j) h.1 c)
  | inr h ↦ elim (Contains-append_cases w.queue (i ∷ []) j (subst (λ (x : Waiting). Contains x.queue j) h.1 c)) [
    | inl k ↦ inl k
    | inr k ↦ elim (contains_cases i [] j k) [
      | inl e ↦ inr e
      | inr n ↦ absurd (Contains-nil j n)
    ]
  ]
]

pub pushed-once : {w u : Waiting} {i : ℕ} → Pushes w u i → AllDifferent w.queue → AllDifferent u.queue
pushed-once {w} {u} {i} p d = elim p [
  | inl h ↦ subst (λ (x : Waiting). AllDifferent x.queue) (sym h.1) d
  | inr h ↦ subst (λ (x : Waiting). AllDifferent x.queue) (sym h.1) (different-added w.queue i d h.0)
]

pub pushed-count : {w u : Waiting} {i : ℕ} → Pushes w u i → u.count ≡ w.count
pushed-count p = elim p [
  | inl h ↦ ap (λ (x : Waiting). x.count) h.1
  | inr h ↦ ap (λ (x : Waiting). x.count) h.1
]

pushed-grows : {u t : Waiting} {i : ℕ} → Pushes u t i → (xs : List ℕ) × (t.queue ≡ u.queue ++ xs)
pushed-grows {u} {t} {i} (inl p) = ([], ap (λ (z : Waiting). z.queue) p.1 ∙ sym (append-nil u.queue))
pushed-grows {u} {t} {i} (inr p) = (i ∷ [], ap (λ (z : Waiting). z.queue) p.1)

-- the first k sources, one after another: those over the class c wait
pub record WaitsSoFar (v : List (Option Filing)) (c : ℕ) (w u : Waiting) (sources : List ℕ) (k : ℕ) : Type 0 where
  pub more : WaitsMore v c w u
  pub so_far : (j : ℕ) → j < k → HasChild v (slice_index_or sources j 0) c → Contains u.queue (slice_index_or sources j 0)

module _ (v : List (Option Filing)) (c : ℕ) (w : Waiting) (sources : List ℕ) where
  pub waits-none : AllDifferent w.queue → WaitsSoFar v c w w sources 0
  waits-none d = record {
    more = record { same = refl; once = d; kept = λ i h. h; from = λ i h. inl h; more = []; grows = sym (append-nil w.queue) };
    so_far = λ j l. absurd (omega (arith, l));
  }

  -- a source over the class waits
  pub waits-more : (u t : Waiting) (i : ℕ) → WaitsMore v c w u → HasChild v i c → Pushes u t i → WaitsMore v c w t
  waits-more u t i m h p = record {
    same = pushed-count p ∙ m.same;
    once = pushed-once p m.once;
    kept = λ j k. pushed-kept p j (m.kept j k);
    from = λ j k. elim (pushed-from p j k) [
      | inl q ↦ m.from j q
      | inr e ↦ inr (subst (λ x. HasChild v x c) (sym e) h)
    ];
    more = m.more ++ (pushed-grows p).0;
    grows = (pushed-grows p).1 ∙ (ap (λ q. q ++ (pushed-grows p).0) m.grows ∙ append_assoc w.queue m.more (pushed-grows p).0);
  }

  pub waits-next : (u t : Waiting) (k : ℕ) → WaitsSoFar v c w u sources k → HasChild v (slice_index_or sources k 0) c → Pushes u t (slice_index_or sources k 0) → WaitsSoFar v c w t sources (k + 1)
  waits-next u t k s h p = record {
    more = waits-more u t (slice_index_or sources k 0) s.more h p;
    so_far = below_more (λ j. HasChild v (slice_index_or sources j 0) c → Contains t.queue (slice_index_or sources j 0)) k
        (λ j l q. pushed-kept p (slice_index_or sources j 0) (s.so_far j l q)) (λ q. pushed-there p);
  }

  -- a source that is over the class no more is passed over
  pub waits-past : (u : Waiting) (k : ℕ) → WaitsSoFar v c w u sources k → ¬ HasChild v (slice_index_or sources k 0) c → WaitsSoFar v c w u sources (k + 1)
  waits-past u k s n = record {
    more = s.more;
    so_far = below_more (λ j. HasChild v (slice_index_or sources j 0) c → Contains u.queue (slice_index_or sources j 0)) k s.so_far (λ q. absurd (n q));
  }

  pub waits-all : (u : Waiting) (k : ℕ) → WaitsSoFar v c w u sources k → length sources ≤ k → WaitOver sources v c u.queue
  waits-all u k s l i h q =
      let p = place-contains sources i 0 h in
      let within = p.1 in
      subst (Contains u.queue) p.2 (s.so_far p.0 (omega (arith, l, within)) (subst (λ x. HasChild v x c) (sym p.2) q))

-- the first k children, one after another: i is a user of their classes
pub record UsedSoFar (us vs : List (List ℕ)) (f : Form) (i k : ℕ) : Type 0 where
  pub more : AreUsedMore us vs
  pub so_far : (j : ℕ) → j < k → IsUser vs (child_id f j) i

module _ (us : List (List ℕ)) (f : Form) (i : ℕ) where
  pub used-none : UsedSoFar us us f i 0
  used-none = record { more = record { lists = omega arith; kept = λ c j h. h }; so_far = λ j l. absurd (omega (arith, l)) }

  user-more : (vs : List (List ℕ)) (d : ℕ) → d < length vs → (c j : ℕ) → IsUser vs c j → IsUser (set vs d (slice_index_or vs d [] ++ i ∷ [])) c j
  user-more vs d w c j h = elim (cases_eq c d) [
    | inl e ↦ subst (λ x. IsUser (set vs d (slice_index_or vs d [] ++ i ∷ [])) x j) (sym e)
        (subst (λ l. Contains l j) (sym (get_or-set_same vs d (slice_index_or vs d [] ++ i ∷ []) [] w))
        (Contains-append_left (slice_index_or vs d []) (i ∷ []) j (subst (λ x. IsUser vs x j) e h)))
    | inr n ↦ subst (λ l. Contains l j) (sym (get_or-set_other vs d c (slice_index_or vs d [] ++ i ∷ []) [] n)) h
  ]

  user-there : (vs : List (List ℕ)) (d : ℕ) → d < length vs → IsUser (set vs d (slice_index_or vs d [] ++ i ∷ [])) d i
  user-there vs d w =
      subst (λ l. Contains l i) (sym (get_or-set_same vs d (slice_index_or vs d [] ++ i ∷ []) [] w))
      (Contains-append_right (slice_index_or vs d []) (i ∷ []) i (contains_head i []))

  pub used-next : (vs ws : List (List ℕ)) (k : ℕ) → UsedSoFar us vs f i k → child_id f k < length vs → ws ≡ set vs (child_id f k) (slice_index_or vs (child_id f k) [] ++ i ∷ []) → UsedSoFar us ws f i (k + 1)
  used-next vs ws k s w e = subst (λ x. UsedSoFar us x f i (k + 1)) (sym e) (record {
    more = record {
      lists = let l = s.more.lists in omega (arith, l, length-set vs (child_id f k) (slice_index_or vs (child_id f k) [] ++ i ∷ []));
      kept = λ c j h. user-more vs (child_id f k) w c j (s.more.kept c j h);
    };
    so_far = below_more (λ j. IsUser (set vs (child_id f k) (slice_index_or vs (child_id f k) [] ++ i ∷ [])) (child_id f j) i) k
        (λ j l. user-more vs (child_id f k) w (child_id f j) i (s.so_far j l)) (user-there vs (child_id f k) w);
  })

  -- it is one already
  pub used-past : (vs : List (List ℕ)) (k : ℕ) → UsedSoFar us vs f i k → IsUser us (child_id f k) i → UsedSoFar us vs f i (k + 1)
  used-past vs k s h = record {
    more = s.more;
    so_far = below_more (λ j. IsUser vs (child_id f j) i) k s.so_far (s.more.kept (child_id f k) i h);
  }

  pub used-all : (vs : List (List ℕ)) (k : ℕ) → UsedSoFar us vs f i k → length (children f.tree) ≤ k → UsesEach vs (key_children f) i
  used-all vs k s l c h =
      let r = child-read f c h in
      let within = r.1 in
      subst (λ x. IsUser vs x i) r.2 (s.so_far r.0 (omega (arith, l, within)))

-- each change

module _ (v : List (Option Filing)) (us : List (List ℕ)) (w : Waiting) (fit : FitTogether v us w) where
  pub fit-used : (vs : List (List ℕ)) → AreUsedMore us vs → FitTogether v vs w
  fit-used vs m = record {
    lists = let a = fit.lists in let b = m.lists in omega (arith, a, b);
    flags = fit.flags;
    once = fit.once;
    filed = fit.filed;
    children = fit.children;
    over = λ i c h. m.kept c i (fit.over i c h);
  }

  -- one class more

  pub fit-list : FitTogether v (us ++ [] ∷ []) w
  fit-list = fit-used (us ++ [] ∷ []) (record {
    lists = omega (arith, length-append us ([] ∷ []));
    kept = λ c i h. list-more us c i h;
  })
    where
      list-more : (ls : List (List ℕ)) (c i : ℕ) → IsUser ls c i → IsUser (ls ++ [] ∷ []) c i
      list-more [] c i h = absurd (Contains-nil i h)
      list-more (l ∷ ls) zero i h = h
      list-more (l ∷ ls) (suc c) i h = list-more ls c i h

  pub fit-flag : FitTogether v us (with_one_more w)
  fit-flag = record {
    lists = fit.lists;
    flags = let a = fit.flags in omega (arith, a);
    once = fit.once;
    filed = fit.filed;
    children = fit.children;
    over = fit.over;
  }

  pub fit-class : length v < length us → length v < w.count → FitTogether (v ++ None ∷ []) us w
  fit-class a b = record {
    lists = omega (arith, a, length-append v (None ∷ []));
    flags = omega (arith, b, length-append v (None ∷ []));
    once = fit.once;
    filed = λ i h. let e = fit.filed i h in (e.0, place-added v i ∙ e.1);
    children = λ i c h. let k = fit.children i c (child-same v (v ++ None ∷ []) i c (place-added v i) h) in omega (arith, k, length-append v (None ∷ []));
    over = λ i c h. fit.over i c (child-same v (v ++ None ∷ []) i c (place-added v i) h);
  }

  -- more classes wait

  pub fit-waiting : (c : ℕ) (u : Waiting) → WaitsMore v c w u → FitTogether v us u
  fit-waiting c u m = record {
    lists = fit.lists;
    flags = let a = fit.flags in let b = m.same in omega (arith, a, b);
    once = m.once;
    filed = λ i h. elim (m.from i h) [ inl k ↦ fit.filed i k | inr k ↦ ((k.key, k.names), k.filed) ];
    children = fit.children;
    over = fit.over;
  }

  pub touched : (c : ℕ) (u : Waiting) → WaitsMore v c w u → WaitOver (slice_index_or us c []) v c u.queue → HasTouched (rows_state (record { filed = v; waiting = w.queue })) c u.queue
  touched c u m o = record {
    once = m.once;
    kept = m.kept;
    over = λ r k h.
        let q = filed-row v r k in
        let child : HasChild v q.0 c = record { key = q.1; names = q.2; filed = q.3; child = subst (λ l. Contains l c) (row-children (q.1, (q.0, q.2))) (subst (λ (x : Row). Contains (child_classes x.shape.args) c) q.4 h) } in
        subst (λ (x : Row). Contains u.queue x.source) (sym q.4) (o q.0 (fit.over q.0 c child) child);
    from = λ i h. elim (m.from i h) [
      | inl k ↦ inl k
      | inr k ↦ inr (row_of_entry (k.key, (i, k.names)), row-filed v i k.key k.names k.filed, subst (λ l. Contains l c) (sym (row-children (k.key, (i, k.names)))) k.child, refl)
    ];
  }

  pub fit-pushed : (i : ℕ) (u : Waiting) → IsFiled v i → Pushes w u i → FitTogether v us u
  fit-pushed i u e p = record {
    lists = fit.lists;
    flags = let a = fit.flags in let b = pushed-count p in omega (arith, a, b);
    once = pushed-once p fit.once;
    filed = λ j h. elim (pushed-from p j h) [ inl k ↦ fit.filed j k | inr k ↦ subst (IsFiled v) (sym k) e ];
    children = fit.children;
    over = fit.over;
  }

  -- a node is filed

  module _ (i : ℕ) (f : Form) (m : List (ℕ × ℕ)) (within : i < length v) (below : HasChildrenBelow (length v) f) (uses : UsesEach us (key_children f) i) where
    abbrev after : List (Option Filing)
    after = set v i (Some (f, m))

    here : filed_of after i ≡ Some (f, m)
    here = get_or-set_same v i (Some (f, m)) None within

    other : (j : ℕ) → j ≢ i → filed_of after j ≡ filed_of v j
    other j n = get_or-set_other v i j (Some (f, m)) None n

    pub fit-filed : FitTogether after us w
    fit-filed = record {
      lists = let a = fit.lists in omega (arith, a, length-set v i (Some (f, m)));
      flags = let a = fit.flags in omega (arith, a, length-set v i (Some (f, m)));
      once = fit.once;
      filed = λ j h. elim (cases_eq j i) [
        | inl e ↦ subst (IsFiled after) (sym e) ((f, m), here)
        | inr n ↦ let q = fit.filed j h in (q.0, other j n ∙ q.1)
      ];
      children = λ j c h. subst (λ n. c < n) (sym (length-set v i (Some (f, m)))) (elim (cases_eq j i) [
        | inl e ↦ below c (child-key after i c f m here (subst (λ x. HasChild after x c) e h))
        | inr n ↦ fit.children j c (child-same v after j c (other j n) h)
      ]);
      over = λ j c h. elim (cases_eq j i) [
        | inl e ↦ subst (IsUser us c) (sym e) (uses c (child-key after i c f m here (subst (λ x. HasChild after x c) e h)))
        | inr n ↦ fit.over j c (child-same v after j c (other j n) h)
      ];
    }

  -- the first that waited waits no more

  pub fit-left : (i : ℕ) (u : Waiting) → w.queue ≡ i ∷ u.queue → u.count ≡ w.count → FitTogether v us u
  fit-left i u q n = record {
    lists = fit.lists;
    flags = let a = fit.flags in omega (arith, a, n);
    once = let d : AllDifferent (i ∷ u.queue) = subst AllDifferent q fit.once in d.1;
    filed = λ j h. fit.filed j (subst (λ l. Contains l j) (sym q) (contains_tail i u.queue j h));
    children = fit.children;
    over = fit.over;
  }

  -- nor is anything filed of it

  pub fit-taken : (i : ℕ) (u : Waiting) → w.queue ≡ i ∷ u.queue → u.count ≡ w.count → FitTogether (set v i None) us u
  fit-taken i u q n = record {
    lists = let a = fit.lists in omega (arith, a, length-set v i None);
    flags = let a = fit.flags in omega (arith, a, n, length-set v i None);
    once = once.1;
    filed = λ j h. let k = fit.filed j (subst (λ l. Contains l j) (sym q) (contains_tail i u.queue j h)) in
        (k.0, other j (λ e. once.0 (subst (Contains u.queue) e h)) ∙ k.1);
    children = λ j c h. subst (λ x. c < x) (sym (length-set v i None)) (fit.children j c (child-same v (set v i None) j c (other j (has-other j c h)) h));
    over = λ j c h. fit.over j c (child-same v (set v i None) j c (other j (has-other j c h)) h);
  }
    where
      once : AllDifferent (i ∷ u.queue)
      once = subst AllDifferent q fit.once

      first : IsFiled v i
      first = fit.filed i (subst (λ l. Contains l i) (sym q) (contains_head i u.queue))

      within : i < length v
      within = place-within v i first.0 first.1

      other : (j : ℕ) → j ≢ i → filed_of (set v i None) j ≡ filed_of v j
      other j d = get_or-set_other v i j None None d

      has-other : (j c : ℕ) → HasChild (set v i None) j c → j ≢ i
      has-other j c h e =
          let a : filed_of (set v i None) j ≡ None = ap (filed_of (set v i None)) e ∙ get_or-set_same v i None None within in
          let b = h.filed in
          cc

-- the front of what waits

front-is : (xs : List ℕ) (x : ℕ) → slice_get xs 0 ≡ Some x → (rest : List ℕ) × (xs ≡ x ∷ rest)
front-is [] x e = cc
front-is (y ∷ xs) x e = (xs, ap (λ z. z ∷ xs) (Some-same y x e))

pub front-within : (v : List (Option Filing)) (us : List (List ℕ)) (w : Waiting) → FitTogether v us w → (i : ℕ) → slice_get w.queue 0 ≡ Some i → i < length v
front-within v us w fit i e =
    let q = front-is w.queue i e in
    let k = fit.filed i (subst (λ l. Contains l i) (sym q.1) (contains_head i q.0)) in
    place-within v i k.0 k.1

pub popped : (o : Option ℕ) (w u : Waiting) (i : ℕ) → IfSome o (Pops w u) → IfNone o ((w.queue ≡ []) × (u ≡ w)) → slice_get w.queue 0 ≡ Some i → (w.queue ≡ i ∷ u.queue) × (u.count ≡ w.count)
popped None w u i s n e = let empty : slice_get w.queue 0 ≡ None = ap (λ l. slice_get l 0) n.0 in cc
popped (Some j) w u i s n e = let same : j ≡ i = Some-same j i (sym (ap (λ l. slice_get l 0) s.0) ∙ e) in (s.0 ∙ ap (λ x. x ∷ u.queue) same, s.1)

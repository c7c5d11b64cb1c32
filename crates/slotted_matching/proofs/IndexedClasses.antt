-- The rows of all classes are an index of the filed nodes.
use Rattle.std.proofs.Common.{◌≡◌, ℕ, zero, suc, ◌+◌, ◌<◌, ◌≤◌, List, [], ◌∷◌, ◌++◌, length, map, Option, Some, Bool, true, false, cond, sym, ◌∙◌, ap, refl, subst, inl, inr, arith}
use Rattle.std.specs.Prelude.{◌↔◌, Contains, filter, nat_eq, unwrap_or}
use Rattle.std.specs.List.{range_with_len}
use Rattle.std.specs.List.Sorted.{IsPermutation}
use Rattle.std.proofs.lemmas.Bool.{cases_eq, cases_lt, cases_Bool, eq-eqb, eqb-true, ne_eqb}
use Rattle.std.proofs.lemmas.List.{append-nil, length-map}
use Rattle.std.proofs.lemmas.List.Elements.{filter-append}
use Rattle.std.proofs.lemmas.List.Sorted.{Contains-permutation, IsPermutation-sym}
use Rattle.slotted_lists.proofs.Members.{In, In-append, In-left, In-right, In-map, In-of_map, In-Contains, Contains-In}
use Rattle.slotted_nodes.specs.Form.{Form}
use Rattle.slotted_model.specs.Ascending.{IsAscending}
use Rattle.slotted_model.specs.Extraction.{row_class}
use Rattle.slotted_model.specs.Find.{Entry, IsLive, entry_at, find_class}
use Rattle.slotted_model.specs.State.{Row, State}
use Rattle.slotted_model.proofs.Finds.Finding.{found-in_range, leads}
use Rattle.slotted_model.proofs.Finds.NormalIds.{used-live}
use Rattle.slotted_model.proofs.Data.Sets.{below_from_each}
use Rattle.slotted_classes.specs.Kept.{Kept, entries_of, nodes_of}
use Rattle.slotted_classes.proofs.KeptLists.{length-nodes_of}
use Rattle.slotted_hashcons.specs.Filed.{Filing, filed_of}
use Rattle.slotted_hashcons.specs.FiledRows.{Rows, row_of_entry}
use Rattle.slotted_hashcons.proofs.FiledRows.{filed-row, row-filed}
use Rattle.slotted_hashcons.proofs.Indexed.{place-within}
use Rattle.slotted_hashcons.specs.WellFiled.{IsWellFiled, state_in}
use Rattle.slotted_lookup.specs.Reports.{class_sources, is_source, live_ids, lives}
use Rattle.slotted_lookup.proofs.AppliedNodes.{filed-in_nodes}
use Rattle.slotted_match_machine.specs.declared.index.RowIndex.{RowIndex}
use Rattle.slotted_match_machine.specs.Index.{IsIndexRow, OneByOne, rows_of_class}
use Rattle.slotted_match_machine.specs.Machine.{rows_in}
use Rattle.slotted_matching.specs.Indexed.{AreClassRows, HasOutlineOf, IsIndexed, IsSourceRow, no_filing, source_row}
use Rattle.slotted_matching.proofs.SourceRows.{in-filter, is-source, of-filter, source-is}

-- numbers in a row
pub of-range : (a n z : ℕ) → In z (range_with_len a n) → (a ≤ z) × (z < a + n)
of-range a zero z h = absurd h
of-range a (suc n) z (inl e) = (omega (arith, e), omega (arith, e))
of-range a (suc n) z (inr h) = let r = of-range (a + 1) n z h in (omega (arith, r.0), omega (arith, r.1))

pub in-range : (a n z : ℕ) → a ≤ z → z < a + n → In z (range_with_len a n)
in-range a zero z h l = absurd (omega (arith, h, l))
in-range a (suc n) z h l = elim (cases_eq z a) [
  | inl e ↦ inl e
  | inr d ↦ inr (in-range (a + 1) n z (omega (arith, h, d)) (omega (arith, l)))
]

filtered-ascend : (test : ℕ → Bool) (a n : ℕ) → IsAscending (filter test (range_with_len a n))
filtered-ascend test a zero = tt
filtered-ascend test a (suc n) =
    let rest : List ℕ = filter test (range_with_len (a + 1) n) in
    elim (cases_Bool (test a)) [
      | inl t ↦ subst (λ b. IsAscending (cond b (a ∷ rest) rest)) (sym t)
          (below_from_each a rest (λ z i. omega (arith, (of-range (a + 1) n z (of-filter test (range_with_len (a + 1) n) z i).1).0)), filtered-ascend test (a + 1) n)
      | inr f ↦ subst (λ b. IsAscending (cond b (a ∷ rest) rest)) (sym f) (filtered-ascend test (a + 1) n)
    ]

-- lists one after another
flat_to : (ℕ → List Row) → ℕ → List Row
flat_to f zero = []
flat_to f (suc n) = flat_to f n ++ f n

in-flat : (f : ℕ → List Row) (n c : ℕ) (q : Row) → c < n → In q (f c) → In q (flat_to f n)
unfolding flat_to
in-flat f zero c q h i = absurd (omega (arith, h))
in-flat f (suc n) c q h i = elim (cases_lt c n) [
  | inl l ↦ In-left q (flat_to f n) (f n) (in-flat f n c q l i)
  | inr ge ↦ let e : c ≡ n = omega (arith, h, ge) in In-right q (flat_to f n) (f n) (subst (λ m. In q (f m)) e i)
]

of-flat : (f : ℕ → List Row) (n : ℕ) (q : Row) → In q (flat_to f n) → (c : ℕ) × (c < n) × In q (f c)
unfolding flat_to
of-flat f zero q i = absurd i
of-flat f (suc n) q i = elim (In-append q (flat_to f n) (f n) i) [
  | inl j ↦ let r = of-flat f n q j in (r.0, omega (arith, r.1), r.2)
  | inr j ↦ (n, omega arith, j)
]

all-pass : (p : Row → Bool) (qs : List Row) → ((q : Row) → In q qs → p q ≡ true) → filter p qs ≡ qs
all-pass p [] h = refl
all-pass p (q ∷ qs) h = ap (λ b. cond b (q ∷ filter p qs) (filter p qs)) (h q (inl refl)) ∙ ap (λ l. q ∷ l) (all-pass p qs (λ x i. h x (inr i)))

none-pass : (p : Row → Bool) (qs : List Row) → ((q : Row) → In q qs → p q ≡ false) → filter p qs ≡ []
none-pass p [] h = refl
none-pass p (q ∷ qs) h = ap (λ b. cond b (q ∷ filter p qs) (filter p qs)) (h q (inl refl)) ∙ none-pass p qs (λ x i. h x (inr i))

-- of such lists just one passes a test
none-flat : (f : ℕ → List Row) (class : Row → ℕ) (n c : ℕ) → ((d : ℕ) (q : Row) → d < n → In q (f d) → class q ≡ d) → n ≤ c → filter (λ q. nat_eq (class q) c) (flat_to f n) ≡ []
unfolding flat_to
none-flat f class zero c h l = refl
none-flat f class (suc n) c h l =
    filter-append (λ q. nat_eq (class q) c) (flat_to f n) (f n)
    ∙ (λ i. none-flat f class n c (λ d q k j. h d q (omega (arith, k)) j) (omega (arith, l)) i
    ++ none-pass (λ q. nat_eq (class q) c) (f n) (λ q j. ne_eqb (class q) c (λ e. let s : class q ≡ n = h n q (omega arith) j in omega (arith, e, s, l))) i)

one-flat : (f : ℕ → List Row) (class : Row → ℕ) (n c : ℕ) → ((d : ℕ) (q : Row) → d < n → In q (f d) → class q ≡ d) → c < n → filter (λ q. nat_eq (class q) c) (flat_to f n) ≡ f c
unfolding flat_to
one-flat f class zero c h l = absurd (omega (arith, l))
one-flat f class (suc n) c h l = elim (cases_lt c n) [
  | inl k ↦
      filter-append (λ q. nat_eq (class q) c) (flat_to f n) (f n)
      ∙ ((λ i. one-flat f class n c (λ d q m j. h d q (omega (arith, m)) j) k i
      ++ none-pass (λ q. nat_eq (class q) c) (f n) (λ q j. ne_eqb (class q) c (λ e. let s : class q ≡ n = h n q (omega arith) j in omega (arith, e, s, k))) i)
      ∙ append-nil (f c))
  | inr ge ↦
      let e : c ≡ n = omega (arith, l, ge) in
      filter-append (λ q. nat_eq (class q) c) (flat_to f n) (f n)
      ∙ ((λ i. none-flat f class n c (λ d q m j. h d q (omega (arith, m)) j) ge i
      ++ all-pass (λ q. nat_eq (class q) c) (f n) (λ q j. eq-eqb (class q) c (h n q (omega arith) j ∙ sym e)) i)
      ∙ ap f (sym e))
]

OneByOne-image : {A B C : Type 0} (P : A → B → Type 0) (Q : C → B → Type 0) (h : A → C) → ((a : A) (b : B) → P a b → Q (h a) b) → (xs : List A) (ys : List B) → OneByOne P xs ys → OneByOne Q (map h xs) ys
OneByOne-image P Q h f [] [] o = tt
OneByOne-image P Q h f [] (y ∷ ys) o = absurd o
OneByOne-image P Q h f (x ∷ xs) [] o = absurd o
OneByOne-image P Q h f (x ∷ xs) (y ∷ ys) o = (f x y o.0, OneByOne-image P Q h f xs ys o.1)

module _ (k : Kept) (r : Rows) (well : IsWellFiled k r) (S : List Form) (x : RowIndex) (a : AreClassRows k r S (length k.classes) x.classes.items) (live : x.live.items ≡ live_ids k) where
  abbrev g : State
  g = state_in k r

  abbrev found : List Entry
  found = entries_of k

  abbrev n : ℕ
  n = length k.classes

  abbrev v : List (Option Filing)
  v = r.filed

  -- the sources of a class in the order of its rows
  record Order (c : ℕ) : Type 0 where
    sources : List ℕ
    same : c < n → IsPermutation (class_sources k r c) sources
    each : c < n → OneByOne (IsSourceRow k r S) sources (rows_in x.classes.items c)

  order-of : (c : ℕ) → Order c
  order-of c = elim (cases_lt c n) [
    | inl h ↦ let q = a.rows c h in record { sources = q.order; same = λ l. q.same; each = λ l. q.each }
    | inr ge ↦ record { sources = []; same = λ l. absurd (omega (arith, l, ge)); each = λ l. absurd (omega (arith, l, ge)) }
  ]

  rows_at : ℕ → List Row
  rows_at c = map (source_row v) (order-of c).sources

  in-source : (c o : ℕ) → c < n → In o (order-of c).sources → (is_source k r c o ≡ true)
  in-source c o h i =
      let s = Contains-permutation (order-of c).sources (class_sources k r c) o (IsPermutation-sym (class_sources k r c) (order-of c).sources ((order-of c).same h)) (Contains-In (order-of c).sources o i) in
      (of-filter (is_source k r c) (range_with_len 0 (length v)) o (In-Contains (class_sources k r c) o s)).0

  row-at : (c : ℕ) (q : Row) → c < n → In q (rows_at c) → (o : ℕ) × (q ≡ source_row v o) × (is_source k r c o ≡ true)
  unfolding rows_at
  row-at c q h i = let p = In-of_map (source_row v) (order-of c).sources q i in (p.0, p.2, in-source c p.0 h p.1)

  class-at : (c : ℕ) (q : Row) → c < n → In q (rows_at c) → row_class g q ≡ c
  class-at c q h i = let p = row-at c q h i in ap (row_class g) p.1 ∙ (source-is k r c p.0 p.2).1

  filed-source : (o : ℕ) (e : Filing) → filed_of v o ≡ Some e → source_row v o ≡ row_of_entry (e.0, (o, e.1))
  filed-source o e at = ap (λ (f : Filing). row_of_entry (f.0, (o, f.1))) (ap (λ y. unwrap_or y no_filing) at)

  to-order : (q : Row) → Contains g.rows q → Contains (flat_to rows_at n) q
  unfolding rows_at
  to-order q c =
      let p = filed-row v q c in
      let o : ℕ = p.0 in
      let nodes : length (nodes_of k) ≡ n = length-nodes_of k in
      let d : ℕ = find_class found o in
      let h : d < n = omega (arith, found-in_range (nodes_of k) found (leads (nodes_of k) found well.sane.sound.linked) o (filed-in_nodes k r well o p.1 p.2 p.3), nodes) in
      let i : In o (class_sources k r d) = in-filter (is_source k r d) (range_with_len 0 (length v)) o (is-source k r d o ((p.1, p.2), p.3) refl)
      (in-range 0 (length v) o (omega arith) (omega (arith, place-within v o (p.1, p.2) p.3))) in
      let j = Contains-permutation (class_sources k r d) (order-of d).sources o ((order-of d).same h) (Contains-In (class_sources k r d) o i) in
      let w : In (source_row v o) (map (source_row v) (order-of d).sources) = In-map (source_row v) (order-of d).sources o (In-Contains (order-of d).sources o j) in
      Contains-In (flat_to rows_at n) q (in-flat rows_at n d q h (subst (λ t. In t (map (source_row v) (order-of d).sources)) (filed-source o (p.1, p.2) p.3 ∙ sym p.4) w))

  of-order : (q : Row) → Contains (flat_to rows_at n) q → Contains g.rows q
  of-order q c =
      let p = of-flat rows_at n q (In-Contains (flat_to rows_at n) q c) in
      let s = row-at p.0 q p.1 p.2 in
      let f = (source-is k r p.0 s.0 s.2).0 in
      subst (Contains g.rows) (sym (s.1 ∙ filed-source s.0 f.0 f.1)) (row-filed v s.0 f.0.0 f.0.1 f.1)

  of-class : (c : ℕ) → c < n → rows_of_class g (flat_to rows_at n) c ≡ rows_at c
  of-class c h = one-flat rows_at (row_class g) n c class-at h

  index-rows : (c : ℕ) → c < n → OneByOne (IsIndexRow g) (rows_of_class g (flat_to rows_at n) c) (rows_in x.classes.items c)
  unfolding rows_at
  index-rows c h =
      subst (λ l. OneByOne (IsIndexRow g) l (rows_in x.classes.items c)) (sym (of-class c h))
      (OneByOne-image (IsSourceRow k r S) (IsIndexRow g) (source_row v) (λ o row is. is.is) (order-of c).sources (rows_in x.classes.items c) ((order-of c).each h))

  outline-rows : (c : ℕ) → c < n → OneByOne (HasOutlineOf v S) (rows_of_class g (flat_to rows_at n) c) (rows_in x.classes.items c)
  unfolding rows_at
  outline-rows c h =
      subst (λ l. OneByOne (HasOutlineOf v S) l (rows_in x.classes.items c)) (sym (of-class c h))
      (OneByOne-image (IsSourceRow k r S) (HasOutlineOf v S) (source_row v) (λ o row is. record { source = o; is = refl; place = is.place })
      (order-of c).sources (rows_in x.classes.items c) ((order-of c).each h))

  below : (c : ℕ) → c < length g.nodes → c < n
  below c h = let e : length (nodes_of k) ≡ n = length-nodes_of k in omega (arith, h, e)

  live-is : (c : ℕ) → Contains x.live.items c ↔ ((c < length g.nodes) × IsLive found c)
  live-is c = (
    λ h.
        let nodes : length (nodes_of k) ≡ n = length-nodes_of k in
        let p = of-filter (lives found) (range_with_len 0 n) c (In-Contains (live_ids k) c (subst (λ l. Contains l c) live h)) in
        (omega (arith, (of-range 0 n c p.1).1, nodes), eqb-true (entry_at found c).class c p.0),
    λ h. subst (λ l. Contains l c) (sym live)
        (Contains-In (live_ids k) c (in-filter (lives found) (range_with_len 0 n) c (eq-eqb (entry_at found c).class c h.1) (in-range 0 n c (omega arith) (omega (arith, below c h.0))))),
  )

  pub indexed : IsIndexed k r S x
  indexed = record {
    order = flat_to rows_at n;
    index = record {
      rows = λ q. (to-order q, of-order q);
      ascending = subst IsAscending (sym live) (filtered-ascend (lives found) 0 n);
      live = live-is;
      slot_counts = λ c h l.
          a.slot_counts c (below c h)
          ∙ sym (ap length (used-live (nodes_of k) found well.sane.sound.linked c h l) ∙ length-map (entry_at found c).pairs (λ p. p.0));
      class_rows = λ c h l. index-rows c (below c h);
    };
    outlines = λ c h l. outline-rows c h;
  }

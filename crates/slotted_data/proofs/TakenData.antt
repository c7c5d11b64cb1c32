-- What filed nodes make is merged into the data of their classes, as the model merges it.
use Rattle.std.proofs.Common.{◌≡◌, ◌<◌, ◌≤◌, ◌+◌, ◌-◌, ℕ, List, length, map, set, true, false, cond, Some, None, sym, ◌∙◌, ap, refl, subst, inl, inr, arith}
use Rattle.std.specs.Prelude.{Contains, nat_lt, slice_get}
use Rattle.std.proofs.lemmas.Bool.{cases_eq}
use Rattle.std.proofs.lemmas.List.{get_or-set_same, get_or-set_other, length-set}
use Rattle.std.proofs.lemmas.Option.{get_or_from_slice_get, slice_get_within}
use Rattle.slotted_lists.proofs.Contained.{Contains-nil, Contains-map, Contains-of_map, map-agree}
use Rattle.slotted_theory.specs.Nameless.{DTerm}
use Rattle.slotted_theory.specs.Shape.{shape}
use Rattle.slotted_nodes.specs.Form.{Form}
use Rattle.slotted_languages.specs.NodeTerm.{nameless_node}
use Rattle.slotted_model.specs.Classes.{canonical_node}
use Rattle.slotted_model.specs.Correspondence.{AllDifferent}
use Rattle.slotted_model.specs.Find.{Entry, Linked, IsLive, entry_at}
use Rattle.slotted_model.specs.State.{Row, State, HasTouched, child_classes, normal_node}
use Rattle.slotted_model.specs.Rest.{AtRest, IsCurrent}
use Rattle.slotted_model.proofs.Finds.Finding.{Leads, leads, find_class-live, found-live, found-in_range}
use Rattle.slotted_model.proofs.LeastTerms.Optimal.{row-classes}
use Rattle.slotted_model.proofs.Rebuilding.Rows.{current-shape, of_source, one_row}
use Rattle.slotted_model_analyses.specs.Analysis.{Analysis, IsMerge, Absorbs}
use Rattle.slotted_model_analyses.specs.DataPart.{HasNoted, Merges, absorbed, heights_from, lowered, made, with_data, with_pending}
use Rattle.slotted_model_analyses.proofs.FiledAgain.{normal-classes}
use Rattle.slotted_model_analyses.proofs.Heights.{height-live, heights-with, with_data-here, with_data-other}
use Rattle.slotted_classes.specs.Kept.{Kept, nodes_of, entries_of}
use Rattle.slotted_classes.proofs.KeptLists.{length-entries_of, length-nodes_of}
use Rattle.slotted_hashcons.specs.Filed.{filed_of}
use Rattle.slotted_hashcons.specs.FiledRows.{IsFiled, Rows, key_children, row_of_entry, rows_in, HasChildrenBelow}
use Rattle.slotted_classes.proofs.ClassNodes.{node-is}
use Rattle.slotted_hashcons.proofs.FiledRows.{row-children, row-filed, source-filed, sources-different}
use Rattle.slotted_hashcons.specs.WellFiled.{state_in}
use Rattle.slotted_outlines.specs.BareNodes.{bare_node}
use Rattle.slotted_outlines.proofs.BareNodes.{bare-shape}
use Rattle.slotted_data.specs.Meaning.{Meaning, by_bare_nodes}
use Rattle.slotted_data.specs.Held.{Held, users_of}
use Rattle.slotted_data.specs.Made.{data_in, children_at, child_values, source_class}
use Rattle.slotted_data.specs.Users.{WaitEach, found_in}
use Rattle.slotted_data.specs.Lowering.{quiet, part_of, FallsBy, heights_in, Puts, Lowers, HasUsers, SameUsers, MakesValue, TakesValue}
use Rattle.slotted_data.proofs.NewData.{children-older, notes-once, notes-there, notes-kept, notes-from}

-- data of height 0 absorbs everything
pub zero-absorbs : {D : Type 0} (a : Analysis D) → IsMerge D a → (x v : D) → a.height x ≡ 0 → Absorbs a x v
zero-absorbs a law x v low = elim (law.decided (a.merge x v) x) [
  | inl e ↦ e
  | inr n ↦ let l = law.lowers x v n in absurd (omega (arith, l, low))
]

-- the heights with other data of a live class
heights-put : {D : Type 0} (a : Analysis D) (found : List Entry) (xs : List D) (c : ℕ) (v y x : D) → c < length found → IsLive found c → slice_get xs c ≡ Some y →
    heights_from a (data_in x (set xs c v)) 0 found + a.height y ≡ heights_from a (data_in x xs) 0 found + a.height v
heights-put {D} a found xs c v y x within live at =
    let δ : ℕ → D = data_in x xs in
    let place = slice_get_within xs c y at in
    let each : (j : ℕ) → with_data δ c v j ≡ data_in x (set xs c v) j = λ j. elim (cases_eq j c) [
      | inl q ↦ subst (λ i. with_data δ c v i ≡ data_in x (set xs c v) i) (sym q) (with_data-here δ c v ∙ sym (get_or-set_same xs c v x place))
      | inr n ↦ with_data-other δ c v j n ∙ sym (get_or-set_other xs c j v x n)
    ] in
    let all : heights_from a (with_data δ c v) 0 found ≡ heights_from a (data_in x (set xs c v)) 0 found = λ i. heights_from a (λ j. each j i) 0 found in
    let h = heights-with a δ c v 0 c found within (omega arith) in
    let old = height-live a δ c (entry_at found c) live ∙ ap a.height (get_or_from_slice_get xs c y x at) in
    let new = height-live a (with_data δ c v) c (entry_at found c) live ∙ ap a.height (with_data-here δ c v) in
    omega (arith, all, h, old, new)

module _ (k : Kept) (s : Rows) (rest : AtRest (state_in k (quiet s))) where
  linked : Linked (nodes_of k) (entries_of k)
  linked = rest.sane.sound.linked

  led : Leads (nodes_of k) (entries_of k)
  led = leads (nodes_of k) (entries_of k) linked

  pub row-within : (r : Row) → Contains (rows_in s.filed) r → r.source < length k.classes
  row-within r there = let l = (rest.sane.filed.each r there).in_range in let e = length-nodes_of k in omega (arith, l, e)

  -- the children of a row's node are what those of the canonical node find
  pub row-found : (r : Row) → Contains (rows_in s.filed) r → child_classes r.shape.args ≡ map (found_in k) (children_at k r.source)
  row-found r there =
      let g : State = state_in k (quiet s) in
      let c : DTerm = canonical_node (nodes_of k) r.source in
      let N : DTerm = normal_node g r.source in
      let waits : ¬ Contains g.waiting r.source = λ h. Contains-nil r.source h in
      let cur : IsCurrent g r = rest.sane.filed.current r there waits in
      let is : shape N ≡ r.shape = current-shape g linked rest.sane.filed r there cur in
      row-classes r N (sym is)
      ∙ (normal-classes (entries_of k) c.args
      ∙ ap (λ (d : DTerm). map (found_in k) (child_classes d.args)) (sym (node-is k r.source (row-within r there))))

  found-twice : (c : ℕ) → c < length k.classes → found_in k (found_in k c) ≡ found_in k c
  found-twice c within =
      let e = length-nodes_of k in
      let l : c < length (nodes_of k) = omega (arith, within, e) in
      find_class-live (nodes_of k) (entries_of k) led (found_in k c) (found-in_range (nodes_of k) (entries_of k) led c l) (found-live (nodes_of k) (entries_of k) led c l)

  -- so they are live classes
  pub row-child : (r : Row) → Contains (rows_in s.filed) r → (c : ℕ) → Contains (child_classes r.shape.args) c → (c < length k.classes) × (found_in k c ≡ c)
  row-child r there c child =
      let w = Contains-of_map (found_in k) (children_at k r.source) c (subst (λ xs. Contains xs c) (row-found r there) child) in
      let older = children-older k rest.sane.sound.canonical r.source (row-within r there) w.0 w.1 in
      let n = length-nodes_of k in
      let e = row-within r there in
      let within : w.0 < length k.classes = omega (arith, older, e) in
      let found : found_in k w.0 < length (nodes_of k) = found-in_range (nodes_of k) (entries_of k) led w.0 (omega (arith, within, n)) in (
        subst (λ z. z < length k.classes) w.2 (omega (arith, found, n)),
        subst (λ z. found_in k z ≡ z) w.2 (found-twice w.0 within),
      )

  pub row-source : (r : Row) → Contains (rows_in s.filed) r → IsFiled s.filed r.source
  row-source r there = (source-filed s.filed r.source).0 (Contains-map (λ (q : Row). q.source) (rows_in s.filed) r there)

  module _ {D : Type 0} (d : Held D) (users : HasUsers k (length k.classes) d) where
    -- the users of a live class wait: these are the sources of the rows over it
    pub users-touched : (x : D) (c : ℕ) → IsLive (entries_of k) c → c < length k.classes → (t : Rows) → WaitEach s t (users_of d c) → AllDifferent s.waiting →
        HasTouched (with_pending (state_in k (quiet s)) (part_of x d s.waiting)) c t.waiting
    users-touched x c live within t waits once = record {
      once = waits.filed.once once;
      kept = waits.filed.kept;
      over = λ r there child.
          let w = Contains-of_map (found_in k) (children_at k r.source) c (subst (λ cs. Contains cs c) (row-found r there) child) in
          waits.waits r.source (subst (λ y. Contains (users_of d y) r.source) w.2 (users.cover r.source w.0 (row-within r there) w.1)) (row-source r there);
      from = λ o h. elim (waits.filed.from o h) [
        | inl j ↦ inl j
        | inr filed ↦ elim (waits.from o h) [
          | inl j ↦ inl j
          | inr u ↦
              let r = of_source (rows_in s.filed) o ((source-filed s.filed o).1 filed) in
              let only = users.only c o u in
              let e = length-nodes_of k in
              let here : found_in k c ≡ c = find_class-live (nodes_of k) (entries_of k) led c (omega (arith, within, e)) live in
              let child : Contains (map (found_in k) (children_at k o)) c = subst (Contains (map (found_in k) (children_at k o))) here only.1 in
              inr (r.0, r.1, subst (λ cs. Contains cs c) (sym (row-found r.0 r.1)) (subst (λ i. Contains (map (found_in k) (children_at k i)) c) (sym r.2) child), r.2)
        ]
      ];
    }

    module _ (a : Analysis D) (count : length d.values ≡ length k.classes) where
      -- a class that has a merged value now
      pub puts-merges : (c : ℕ) → IsLive (entries_of k) c → c < length k.classes → AllDifferent s.waiting → AllDifferent d.changed → (v y : D) → slice_get d.values c ≡ Some y →
          (t : Rows) (e : Held D) → Puts c (a.merge y v) s t d e → (x : D) → Merges a (state_in k (quiet s)) (part_of x d s.waiting) c v (part_of x e t.waiting)
      puts-merges c live within once changed v y at t e (inl h) x =
          let value : data_in x d.values c ≡ y = get_or_from_slice_get d.values c y x at in
          let same : a.merge y v ≡ y = (let p = h.0 in cc) in
          let absorbs : Absorbs a (data_in x d.values c) v = subst (λ z. Absorbs a z v) (sym value) same in
          subst (λ (q : Rows). Merges a (state_in k (quiet s)) (part_of x d s.waiting) c v (part_of x e q.waiting)) (sym h.1)
          (subst (λ (f : Held D). Merges a (state_in k (quiet s)) (part_of x d s.waiting) c v (part_of x f s.waiting)) (sym h.2) (absorbed absorbs))
      puts-merges c live within once changed v y at t e (inr o) x =
          let value : data_in x d.values c ≡ y = get_or_from_slice_get d.values c y x at in
          let falls : ¬ Absorbs a (data_in x d.values c) v = λ h. o.other (at ∙ ap Some (sym (subst (λ z. Absorbs a z v) value h))) in
          let noted : HasNoted c d.changed e.changed = record {
            once = notes-once c d.changed e.changed o.value.changed changed;
            has = notes-there c d.changed e.changed o.value.changed;
            kept = notes-kept c d.changed e.changed o.value.changed;
            from = notes-from c d.changed e.changed o.value.changed;
          } in
          let place = slice_get_within d.values c y at in
          let w : D = a.merge (data_in x d.values c) v in
          let is : w ≡ a.merge y v = ap (λ z. a.merge z v) value in
          let here : data_in x e.values c ≡ w = ap (λ vs. data_in x vs c) o.value.values ∙ (get_or-set_same d.values c (a.merge y v) x place ∙ sym is) in
          let each : (j : ℕ) → with_data (data_in x d.values) c w j ≡ data_in x e.values j = λ j. elim (cases_eq j c) [
            | inl q ↦ subst (λ i. with_data (data_in x d.values) c w i ≡ data_in x e.values i) (sym q) (with_data-here (data_in x d.values) c w ∙ sym here)
            | inr n ↦ with_data-other (data_in x d.values) c w j n ∙ sym (ap (λ vs. data_in x vs j) o.value.values ∙ get_or-set_other d.values c j (a.merge y v) x n)
          ] in
          subst (Merges a (state_in k (quiet s)) (part_of x d s.waiting) c v) (λ i. record { data_of = λ j. each j i; pending = t.waiting; changed = e.changed })
          (lowered t.waiting e.changed falls (users-touched x c live within t o.waits once) noted)

  -- the key that is filed of a class is over what the children of the class's node find
  pub key-found : (o : ℕ) (f : Form) (m : List (ℕ × ℕ)) → filed_of s.filed o ≡ Some (f, m) → key_children f ≡ map (found_in k) (children_at k o)
  key-found o f m at = sym (row-children (f, (o, m))) ∙ row-found (row_of_entry (f, (o, m))) (row-filed s.filed o f m at)

  key-finds : (o : ℕ) (f : Form) (m : List (ℕ × ℕ)) → filed_of s.filed o ≡ Some (f, m) → (c : ℕ) → Contains (key_children f) c → (c < length k.classes) × (found_in k c ≡ c)
  key-finds o f m at c there =
      let within : o < length k.classes = row-within (row_of_entry (f, (o, m))) (row-filed s.filed o f m at) in
      let w = Contains-of_map (found_in k) (children_at k o) c (subst (λ cs. Contains cs c) (key-found o f m at) there) in
      let older = children-older k rest.sane.sound.canonical o within w.0 w.1 in
      let e = length-nodes_of k in
      let below : w.0 < length k.classes = omega (arith, older, within) in
      let found = found-in_range (nodes_of k) (entries_of k) led w.0 (omega (arith, below, e)) in
      let is = w.2 in
      (omega (arith, found, is, e), ap (found_in k) (sym is) ∙ (found-twice w.0 below ∙ is))

  pub key-within : (o : ℕ) (f : Form) (m : List (ℕ × ℕ)) → filed_of s.filed o ≡ Some (f, m) → HasChildrenBelow (length k.classes) f
  key-within o f m at c there = (key-finds o f m at c there).0

  source-itself : (n c : ℕ) → found_in k c ≡ c → source_class (entries_of k) n c ≡ c
  source-itself n c e = elim (nat_lt (found_in k c) n) as (λ b. cond b (found_in k c) c ≡ c) [ true ↦ e | false ↦ refl ]

  module _ {D : Type 0} (meaning : Meaning D) (d : Held D) where
    -- what a row makes is what its key makes
    pub row-makes : (o : ℕ) (v : D) → MakesValue meaning k d.values (filed_of s.filed o) v → (x : D) (r : Row) → Contains (rows_in s.filed) r → r.source ≡ o →
        made (by_bare_nodes meaning) (part_of x d s.waiting) r.shape ≡ v
    row-makes o v makes x r there source =
        let f : Form = makes.0 in
        let m : List (ℕ × ℕ) = makes.1 in
        let at : filed_of s.filed o ≡ Some (f, m) = makes.2 in
        let r0 : Row = row_of_entry (f, (o, m)) in
        let is : r ≡ r0 = one_row (rows_in s.filed) (sources-different s.filed) r r0 there (row-filed s.filed o f m at) source in
        let same : map (data_in x d.values) (key_children f) ≡ child_values k x d.values (length d.values) f =
        map-agree (data_in x d.values) (λ c. data_in x d.values (source_class (entries_of k) (length d.values) c)) (key_children f)
        (λ c h. ap (data_in x d.values) (sym (source-itself (length d.values) c (key-finds o f m at c h).1))) in
        ap (λ (q : Row). made (by_bare_nodes meaning) (part_of x d s.waiting) q.shape) is
        ∙ ((λ i. meaning.make (bare-shape (nameless_node f) i) (map (data_in x d.values) (row-children (f, (o, m)) i)))
        ∙ (ap (meaning.make (bare_node f)) same ∙ sym (makes.3 x)))

    same-itself : SameUsers d d
    same-itself = record { count = refl; users = refl; entered = refl; carried = refl; tall = refl; counts = refl }

    pub puts-same : (c : ℕ) (v : D) (t : Rows) (e : Held D) → Puts c v s t d e → SameUsers d e × (t.filed ≡ s.filed)
    puts-same c v t e (inl h) = (subst (SameUsers d) (sym h.2) same-itself, ap (λ (q : Rows). q.filed) h.1)
    puts-same c v t e (inr o) = (
      record { count = ap length o.value.values ∙ length-set d.values c v; users = o.value.users; entered = o.value.entered; carried = o.value.carried; tall = o.value.tall; counts = o.value.counts },
      o.waits.filed.same,
    )

    -- the data of the class has height 0
    pub takes-low : IsMerge D (by_bare_nodes meaning) → (o c : ℕ) (y : D) → c ≡ found_in k o → slice_get d.values c ≡ Some y → meaning.height y ≡ 0 →
        TakesValue (by_bare_nodes meaning) k o s s d d
    takes-low law o c y class at low = record {
      filed = refl;
      same = same-itself;
      merges = λ x r there source.
          let value : data_in x d.values (found_in k o) ≡ y = ap (data_in x d.values) (sym class) ∙ get_or_from_slice_get d.values c y x at in
          absorbed (zero-absorbs (by_bare_nodes meaning) law (data_in x d.values (found_in k o)) (made (by_bare_nodes meaning) (part_of x d s.waiting) r.shape) (ap meaning.height value ∙ low));
    }

    -- nothing is filed of the class
    pub takes-none : (o : ℕ) → filed_of s.filed o ≡ None → TakesValue (by_bare_nodes meaning) k o s s d d
    takes-none o none = record {
      filed = refl;
      same = same-itself;
      merges = λ x r there source.
          let f = row-source r there in
          let is = f.1 in
          let e = ap (filed_of s.filed) source in
          absurd cc;
    }

    -- the height of what c had was lowered, and no other
    pub falls-lowered : IsMerge D (by_bare_nodes meaning) → (o c : ℕ) → o < length k.classes → c ≡ found_in k o → (v : D) (t : Rows) (e : Held D) → Lowers meaning c v s t d e →
        (y z : D) → slice_get d.values c ≡ Some y → slice_get e.values c ≡ Some z →
        (meaning.height z ≤ meaning.height y) × FallsBy (by_bare_nodes meaning) k d e (meaning.height y - meaning.height z)
    falls-lowered law o c within class v t e lowers y z had has =
        let n = length-nodes_of k in
        let m = length-entries_of k in
        let in_nodes : o < length (nodes_of k) = omega (arith, within, n) in
        let live : IsLive (entries_of k) c = subst (IsLive (entries_of k)) (sym class) (found-live (nodes_of k) (entries_of k) led o in_nodes) in
        let in_range = found-in_range (nodes_of k) (entries_of k) led o in_nodes in
        let below : c < length (entries_of k) = omega (arith, in_range, class, n, m) in
        let first : lowers.0 ≡ y = sym (get_or_from_slice_get d.values c lowers.0 y lowers.1) ∙ get_or_from_slice_get d.values c y y had in
        elim lowers.2 [
          | inl h ↦
              let same : y ≡ z = sym (get_or_from_slice_get d.values c y y had) ∙ (ap (λ (f : Held D). data_in y f.values c) (sym h.2) ∙ get_or_from_slice_get e.values c z y has) in
              let heights = ap meaning.height same in
              (omega (arith, heights), λ x. let all = ap (heights_in (by_bare_nodes meaning) k x) h.2 in omega (arith, heights, all))
          | inr p ↦
              let place = slice_get_within d.values c y had in
              let w : D = meaning.merge lowers.0 v in
              let is : z ≡ w = sym (get_or_from_slice_get e.values c z y has) ∙ (ap (λ xs. data_in y xs c) p.value.values ∙ get_or-set_same d.values c w y place) in
              let small : meaning.height w ≤ meaning.height lowers.0 = elim (law.decided w lowers.0) [
                | inl q ↦ let l = ap meaning.height q in omega (arith, l)
                | inr u ↦ let l = law.lowers lowers.0 v u in omega (arith, l)
              ] in
              let at_z = ap meaning.height is in
              let at_y = ap meaning.height first in (
                omega (arith, small, at_z, at_y),
                λ x.
                    let all = ap (λ xs. heights_from (by_bare_nodes meaning) (data_in x xs) 0 (entries_of k)) p.value.values in
                    let h = heights-put (by_bare_nodes meaning) (entries_of k) d.values c w y x below live had in
                    omega (arith, all, h, small, at_z, at_y),
              )
        ]

    pub takes-lowered : HasUsers k (length k.classes) d → length d.values ≡ length k.classes → AllDifferent s.waiting → AllDifferent d.changed →
        (o c : ℕ) (v : D) → o < length k.classes → c ≡ found_in k o → MakesValue meaning k d.values (filed_of s.filed o) v →
        (t : Rows) (e : Held D) → Lowers meaning c v s t d e → TakesValue (by_bare_nodes meaning) k o s t d e
    takes-lowered users count once changed o c v within class makes t e lowers =
        let n = length-nodes_of k in
        let in_nodes : o < length (nodes_of k) = omega (arith, within, n) in
        let live : IsLive (entries_of k) c = subst (IsLive (entries_of k)) (sym class) (found-live (nodes_of k) (entries_of k) led o in_nodes) in
        let in_range = found-in_range (nodes_of k) (entries_of k) led o in_nodes in
        let below : c < length k.classes = omega (arith, in_range, class, n) in
        let same = puts-same c (meaning.merge lowers.0 v) t e lowers.2 in
        record {
          filed = same.1;
          same = same.0;
          merges = λ x r there source.
              subst (λ w. Merges (by_bare_nodes meaning) (state_in k (quiet s)) (part_of x d s.waiting) (found_in k o) w (part_of x e t.waiting)) (sym (row-makes o v makes x r there source))
              (subst (λ i. Merges (by_bare_nodes meaning) (state_in k (quiet s)) (part_of x d s.waiting) i v (part_of x e t.waiting)) class
              (puts-merges d users (by_bare_nodes meaning) count c live below once changed v lowers.0 lowers.1 t e lowers.2 x));
        }

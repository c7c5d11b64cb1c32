-- The data of children one after another, and of new classes one after another.
use Rattle.std.proofs.Common.{◌≡◌, ◌<◌, ◌≤◌, ℕ, zero, suc, ◌+◌, List, [], ◌∷◌, ◌++◌, length, map, take, true, false, cond, sym, ◌∙◌, ap, refl, subst, inl, inr, arith, append_assoc, append-nil}
use Rattle.std.specs.Prelude.{◌⊎◌, nat_lt, Contains, slice_get, slice_index_or, Some}
use Rattle.std.proofs.lemmas.Bool.{cases_eq, ltb-true}
use Rattle.std.proofs.lemmas.List.{take_more, map-append, length-append, length-map, take_all, get_or-map}
use Rattle.std.proofs.lemmas.List.Elements.{Contains-append_left, Contains-append_right, Contains-append_cases}
use Rattle.std.proofs.lemmas.Option.{get_or_from_slice_get}
use Rattle.std.proofs.Math.ListN.{get_or-append}
use Rattle.slotted_lists.proofs.Contained.{contains_head, contains_cases, Contains-nil, map-agree}
use Rattle.slotted_lists.proofs.Booleans.{or-false, or-true}
use Rattle.slotted_lists.proofs.Lists.{slice_get-append_end}
use Rattle.slotted_theory.specs.Nameless.{DTerm}
use Rattle.slotted_nodes.specs.Form.{Form, children, child_id}
use Rattle.slotted_model.specs.Classes.{Canonical, IsFull, canonical_node}
use Rattle.slotted_model.specs.Correspondence.{AllDifferent}
use Rattle.slotted_model.specs.Find.{Entry, find_class}
use Rattle.slotted_model.specs.State.{child_classes}
use Rattle.slotted_model.proofs.Rebuilding.KeepingLookUps.{children-below}
use Rattle.slotted_model.proofs.Rebuilding.Touching.{different-added}
use Rattle.slotted_classes.specs.Kept.{Kept, node_at, nodes_of, entries_of}
use Rattle.slotted_classes.proofs.KeptLists.{length-nodes_of}
use Rattle.slotted_hashcons.specs.FiledRows.{HasChildrenBelow, key_children}
use Rattle.slotted_classes.proofs.ClassNodes.{node-is}
use Rattle.slotted_hashcons.proofs.KeyChildren.{key_children-read}
use Rattle.slotted_outlines.specs.BareNodes.{bare_node}
use Rattle.slotted_data.specs.Meaning.{Meaning}
use Rattle.slotted_data.specs.Held.{Held, Notes}
use Rattle.slotted_data.specs.Made.{data_in, children_at, source_class, HasChildValues, made_in, AddsNext, AddsNew}

-- the children of a class's node are older than the class
pub children-older : (k : Kept) → Canonical (nodes_of k) → (i : ℕ) → i < length k.classes → HasChildrenBelow i (node_at k i)
children-older k canonical i within c there =
    let e = length-nodes_of k in
    let older = children-below (λ a. (a.0 < i) × IsFull (nodes_of k) a) i (λ a h. h.0) (canonical_node (nodes_of k) i).args (canonical.children i (omega (arith, within, e))) c in
    older (subst (λ (d : DTerm). Contains (child_classes d.args) c) (node-is k i within) there)

-- the first k children and the next one
pub next-child : (f : Form) (k : ℕ) → k < length (children f.tree) → take (k + 1) (key_children f) ≡ take k (key_children f) ++ child_id f k ∷ []
next-child f k within =
    let ids : List ℕ = map (λ (c : ℕ × List ℕ). c.0) (children f.tree) in
    let n : length ids ≡ length (children f.tree) = length-map (children f.tree) (λ (c : ℕ × List ℕ). c.0) in
    let here : slice_index_or ids k 0 ≡ child_id f k = get_or-map (λ (c : ℕ × List ℕ). c.0) (children f.tree) k (0, []) 0 within in
    subst (λ xs. take (k + 1) xs ≡ take k xs ++ child_id f k ∷ []) (sym (key_children-read f))
    (take_more ids k 0 (omega (arith, within, n)) ∙ ap (λ c. take k ids ++ c ∷ []) here)

pub children-count : (f : Form) → length (key_children f) ≡ length (children f.tree)
children-count f = ap length (key_children-read f) ∙ length-map (children f.tree) (λ (c : ℕ × List ℕ). c.0)

module _ {D : Type 0} (k : Kept) (values : List D) (f : Form) where
  -- the data of the first j children
  abbrev pub FirstValues : ℕ → List D → Type 0
  FirstValues j xs = (x : D) → xs ≡ map (λ c. data_in x values (source_class (entries_of k) (length values) c)) (take j (key_children f))

  pub first-next : (j : ℕ) (xs ys : List D) (c : ℕ) (v : D) → FirstValues j xs → j < length (children f.tree) → c ≡ source_class (entries_of k) (length values) (child_id f j) →
      slice_get values c ≡ Some v → ys ≡ xs ++ v ∷ [] → FirstValues (j + 1) ys
  first-next j xs ys c v first within class there is x =
      let h : ℕ → D = λ c. data_in x values (source_class (entries_of k) (length values) c) in
      let value : v ≡ h (child_id f j) = sym (get_or_from_slice_get values c v x there) ∙ ap (data_in x values) class in
      is
      ∙ ((λ i. first x i ++ value i ∷ [])
      ∙ (sym (map-append h (take j (key_children f)) (child_id f j ∷ []))
      ∙ ap (map h) (sym (next-child f j within))))

  pub first-all : (j : ℕ) (xs : List D) → FirstValues j xs → length (children f.tree) ≤ j → HasChildValues k values f xs
  first-all j xs first past x =
      let n = children-count f in
      first x ∙ ap (map (λ c. data_in x values (source_class (entries_of k) (length values) c))) (take_all j (key_children f) (omega (arith, past, n)))

-- a class waits to be modified from now on
pub notes-once : (c : ℕ) (cs ds : List ℕ) → Notes c cs ds → AllDifferent cs → AllDifferent ds
notes-once c cs ds (inl h) once = subst AllDifferent (sym h.1) once
notes-once c cs ds (inr h) once = subst AllDifferent (sym h.1) (different-added cs c once h.0)

pub notes-kept : (c : ℕ) (cs ds : List ℕ) → Notes c cs ds → (i : ℕ) → Contains cs i → Contains ds i
notes-kept c cs ds (inl h) i there = subst (λ xs. Contains xs i) (sym h.1) there
notes-kept c cs ds (inr h) i there = subst (λ xs. Contains xs i) (sym h.1) (Contains-append_left cs (c ∷ []) i there)

pub notes-there : (c : ℕ) (cs ds : List ℕ) → Notes c cs ds → Contains ds c
notes-there c cs ds (inl h) = subst (λ xs. Contains xs c) (sym h.1) h.0
notes-there c cs ds (inr h) = subst (λ xs. Contains xs c) (sym h.1) (Contains-append_right cs (c ∷ []) c (contains_head c []))

pub notes-from : (c : ℕ) (cs ds : List ℕ) → Notes c cs ds → (i : ℕ) → Contains ds i → Contains cs i ⊎ (i ≡ c)
notes-from c cs ds (inl h) i there = inl (subst (λ xs. Contains xs i) h.1 there)
notes-from c cs ds (inr h) i there = elim (Contains-append_cases cs (c ∷ []) i (subst (λ xs. Contains xs i) h.1 there)) [
  | inl k ↦ inl k
  | inr k ↦ elim (contains_cases c [] i k) [
    | inl e ↦ inr e
    | inr n ↦ absurd (Contains-nil i n)
  ]
]

-- one list of users more, in which nobody stands
none-added : (us : List (List ℕ)) (c : ℕ) → slice_index_or (us ++ [] ∷ []) c [] ≡ slice_index_or us c []
none-added [] zero = refl
none-added [] (suc c) = refl
none-added (u ∷ us) zero = refl
none-added (u ∷ us) (suc c) = none-added us c

pub source-within : (found : List Entry) (n c : ℕ) → c < n → source_class found n c < n
source-within found n c within =
    elim (nat_lt (find_class found c) n) as (λ b. nat_lt (find_class found c) n ≡ b → cond b (find_class found c) c < n) [
      | true ↦ λ e. ltb-true (find_class found c) n e
      | false ↦ λ _. within
    ] refl

module _ {D : Type 0} (a : Meaning D) (k : Kept) where
  -- what a node made of older classes stays, whatever classes come
  pub made-left : (x : D) (values more : List D) (i : ℕ) → i ≤ length values → HasChildrenBelow i (node_at k i) → made_in a k x (values ++ more) i ≡ made_in a k x values i
  made-left x values more i within older =
      ap (a.make (bare_node (node_at k i))) (map-agree (λ c. data_in x (values ++ more) (source_class (entries_of k) i c)) (λ c. data_in x values (source_class (entries_of k) i c)) (children_at k i)
      (λ c there.
      let below : source_class (entries_of k) i c < i = source-within (entries_of k) i c (older c there) in
      get_or-append values more x (source_class (entries_of k) i c) (omega arith)))

  pub new-none : (d : Held D) → AddsNew a k d d
  new-none d = record {
    more = [];
    values = sym (append-nil d.values);
    made = λ i l h. absurd (omega arith);
    users = λ _. refl;
    entered = refl;
    carried = refl;
    counts = refl;
    once = λ h. h;
    kept = λ _ h. h;
    new = λ i l h. absurd (omega arith);
    from = λ _ h. inl h;
    still_low = λ h. h;
    high = λ h. inl h;
    low = λ _ i l h. absurd (omega arith);
  }

  pub new-next : Canonical (nodes_of k) → (d e f : Held D) → AddsNew a k d e → AddsNext a k e f → length e.values < length k.classes → AddsNew a k d f
  new-next canonical d e f s n within = record {
    more = s.more ++ n.value ∷ [];
    values = n.new.values ∙ (ap (λ xs. xs ++ n.value ∷ []) s.values ∙ append_assoc d.values s.more (n.value ∷ []));
    made = λ i l h x. elim (cases_eq i (length e.values)) [
      | inl q ↦ subst (λ j. data_in x f.values j ≡ made_in a k x f.values j) (sym q) (last x)
      | inr d ↦ earlier i l (let c = count in omega arith) x
    ];
    users = λ c. ap (λ us. slice_index_or us c []) n.new.users ∙ (none-added e.users c ∙ s.users c);
    entered = n.new.entered ∙ s.entered;
    carried = n.new.carried ∙ s.carried;
    counts = n.new.counts ∙ s.counts;
    once = λ h. notes-once (length e.values) e.changed f.changed n.new.changed (s.once h);
    kept = λ i h. notes-kept (length e.values) e.changed f.changed n.new.changed i (s.kept i h);
    new = λ i l h. elim (cases_eq i (length e.values)) [
      | inl q ↦ subst (Contains f.changed) (sym q) (notes-there (length e.values) e.changed f.changed n.new.changed)
      | inr d ↦ notes-kept (length e.values) e.changed f.changed n.new.changed i (s.new i l (let c = count in omega arith))
    ];
    from = λ i h. elim (notes-from (length e.values) e.changed f.changed n.new.changed i h) [
      | inl p ↦ elim (s.from i p) [
        | inl q ↦ inl q
        | inr w ↦ inr (let c = count in omega arith)
      ]
      | inr q ↦ inr (let c = count in omega (arith, q))
    ];
    still_low = λ h. s.still_low (or-false e.tall n.is_tall (sym n.new.tall ∙ h)).0;
    high = λ h. elim (or-true e.tall n.is_tall (sym n.new.tall ∙ h)) [
      | inl before ↦ s.high before
      | inr now ↦ inr (n.value, n.high now)
    ];
    low = λ h i l w x. elim (cases_eq i (length e.values)) [
      | inl q ↦ subst (λ j. a.height (data_in x f.values j) ≡ 0) (sym q) (ap a.height (here x) ∙ n.low (or-false e.tall n.is_tall (sym n.new.tall ∙ h)).1)
      | inr d ↦
          let in_e : i < length e.values = (let c = count in omega arith) in
          ap a.height (same i in_e x) ∙ s.low (or-false e.tall n.is_tall (sym n.new.tall ∙ h)).0 i l in_e x
    ];
  }
    where
      count : length f.values ≡ length e.values + 1
      count = ap length n.new.values ∙ length-append e.values (n.value ∷ [])

      same : (i : ℕ) → i < length e.values → (x : D) → data_in x f.values i ≡ data_in x e.values i
      same i h x = ap (λ xs. data_in x xs i) n.new.values ∙ get_or-append e.values (n.value ∷ []) x i h

      here : (x : D) → data_in x f.values (length e.values) ≡ n.value
      here x = ap (λ xs. data_in x xs (length e.values)) n.new.values ∙ get_or_from_slice_get (e.values ++ n.value ∷ []) (length e.values) n.value x (slice_get-append_end e.values n.value)

      kept : (i : ℕ) → i ≤ length e.values → i < length k.classes → (x : D) → made_in a k x f.values i ≡ made_in a k x e.values i
      kept i h w x = ap (λ xs. made_in a k x xs i) n.new.values ∙ made-left x e.values (n.value ∷ []) i h (children-older k canonical i w)

      last : (x : D) → data_in x f.values (length e.values) ≡ made_in a k x f.values (length e.values)
      last x = here x ∙ (n.made x ∙ sym (kept (length e.values) (omega arith) within x))

      earlier : (i : ℕ) → length d.values ≤ i → i < length e.values → (x : D) → data_in x f.values i ≡ made_in a k x f.values i
      earlier i l h x = same i h x ∙ (s.made i l h x ∙ sym (kept i (omega arith) (omega arith) x))

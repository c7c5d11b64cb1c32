-- What making a class for a node leaves: where its shape is filed nothing changes, and else there is one class more.
use Rattle.std.proofs.Common.{◌≡◌, ◌<◌, ◌≤◌, ℕ, zero, suc, ◌+◌, List, [], ◌∷◌, ◌++◌, Some, None, length, map, get_or, cond, sym, ◌∙◌, ap, refl, subst, arith, inl, inr, length-append}
use Rattle.std.specs.Prelude.{option_map, is_some, All, Contains, true, false}
use Rattle.std.proofs.lemmas.Bool.{false≢true}
use Rattle.std.proofs.lemmas.List.{append-nil, map-append}
use Rattle.slotted_lists.proofs.Members.{In, In-Contains, Contains-In}
use Rattle.slotted_lists.proofs.Each.{Each-from_All}
use Rattle.slotted_lists.proofs.Maps.{with_values-itself}
use Rattle.slotted_theory.specs.Nameless.{DTerm}
use Rattle.slotted_theory.specs.Renaming.{IsInjective}
use Rattle.slotted_theory.specs.FiniteMaps.{IsInjectiveMap}
use Rattle.slotted_theory.specs.Shape.{SameUpToNames}
use Rattle.slotted_theory.specs.Shape as theory
use Rattle.slotted_theory.proofs.Shapes.{shape_iff}
use Rattle.slotted_theory.proofs.Bijections.{to-injective}
use Rattle.slotted_slots.specs.Maps.{keys, values}
use Rattle.slotted_slots.specs.Table.{Table, fresh_slot, empty_table}
use Rattle.slotted_nodes.specs.Form.{Form}
use Rattle.slotted_languages.specs.NodeTerm.{nameless_node}
use Rattle.slotted_languages.specs.Shape.{shape, Fits}
use Rattle.slotted_languages.proofs.Shapes.{shapes_iff}
use Rattle.slotted_model.specs.Ascending.{ascending, names}
use Rattle.slotted_model.specs.Applied.{Applied, map_on, renamed_id, EachChild}
use Rattle.slotted_model.specs.Classes.{canonical_node, canonical_slots, IsFull, Canonical}
use Rattle.slotted_model.specs.Correspondence.{identity}
use Rattle.slotted_model.specs.Find.{Entry, find}
use Rattle.slotted_model.specs.Link.{IsLater, with_new_entry, reflexive_equation}
use Rattle.slotted_model.specs.ProofList.{Equation, ProofEntry, reflexive, equation_at, asserted}
use Rattle.slotted_model.specs.Adding as model
use Rattle.slotted_model.specs.Changes.{GoesOn}
use Rattle.slotted_model.specs.Rest.{Sane, IsListed, IsValidIn, id_names}
use Rattle.slotted_model.specs.State.{Row, State, left_of, right_of}
use Rattle.slotted_model.specs.Growth.{Extends, Added}
use Rattle.slotted_model.specs.Growth as growth
use Rattle.slotted_model.specs.Ids.{id_of_node}
use Rattle.slotted_model.proofs.Data.Sets.{In-ascending, In-of_ascending}
use Rattle.slotted_model.proofs.Data.Maps.{In-values}
use Rattle.slotted_model.proofs.Represented.Children.{EachChild-moved}
use Rattle.slotted_model.proofs.Represented.Full.{full-renamed}
use Rattle.slotted_model.proofs.Finds.NormalIds.{keys-identity}
use Rattle.slotted_model.proofs.Represented.Growing.{added, node-new, Extends-same}
use Rattle.slotted_model.proofs.Rebuilding.Adding.{finds-same, class-goes_on, class-sane}
use Rattle.slotted_model.proofs.Finds.Keeping.{new_class-asserted}
use Rattle.slotted_model.proofs.Finds.NewClasses.{later-newer}
use Rattle.slotted_model.proofs.Rebuilding.UpTo.{left-valid, right-valid}
use Rattle.slotted_proofs.specs.Equations.{Statement}
use Rattle.slotted_proofs.specs.Entries.{Proven, entry_of, IsNew, Enters, reflexive_entry}
use Rattle.slotted_proofs.specs.Proving.{IsProvable, IsProved}
use Rattle.slotted_proofs.proofs.Entering.{entering_proved, proved_newer, reflexive_provable}
use Rattle.slotted_classes.specs.FormCode.{form_is, form_Decides}
use Rattle.slotted_classes.specs.StateOf.{state_of, state_with}
use Rattle.slotted_classes.specs.Stored.{Stored, IsOverOneClass}
use Rattle.slotted_operations.specs.Causes.{HasLargeClassIn, HasLargeClassOrNode}
use Rattle.slotted_operations.specs.Graph.{IsFreshBetween}
use Rattle.slotted_classes.specs.Kept.{Kept, ClassEntry, RowEntry, no_form, no_entry, found, rows_from, node_at, nodes_of, entries_of, proofs_of, with_proofs, with_new_class, MakesClass}
use Rattle.slotted_operations.specs.Good.{image_of, Good, HasFreshSlots, Makes}
use Rattle.slotted_classes.specs.Names.{between, fresh_slots, with_put, HasNumberedBinders}
use Rattle.slotted_operations.specs.Nodes.{child_ids}
use Rattle.slotted_classes.proofs.ChildIds.{EachChild-node_args}
use Rattle.slotted_operations.proofs.LookUps.Rows.{canonical_node-in, answer, look_up-rows, none_has}
use Rattle.slotted_operations.proofs.TermsOverIds.LargeNodes.{large-old_or_new}
use Rattle.slotted_classes.proofs.KeptLists.{length-entries_of, length-proofs_of, equation_at-of, length-nodes_of as length-classes}
use Rattle.slotted_classes.proofs.NamePairs.{ascending-values, between-moved}
use Rattle.slotted_classes.proofs.PutNames.{fits_put, shape-put, length-free, numeric-shape, put_own}

-- lists with one element more

rows_from-push : (i : ℕ) (cs : List ClassEntry) (c : ClassEntry) → rows_from i (cs ++ c ∷ []) ≡ rows_from i cs ++ ((shape c.0).0, (i + length cs, (shape c.0).1)) ∷ []
rows_from-push i [] c = let e : i ≡ i + 0 = omega arith in ap (λ n. ((shape c.0).0, (n, (shape c.0).1)) ∷ []) e
rows_from-push i (b ∷ cs) c =
    let e : suc i + length cs ≡ i + suc (length cs) = omega arith in
    ap (λ r. ((shape b.0).0, (i, (shape b.0).1)) ∷ r)
    (rows_from-push (suc i) cs c ∙ ap (λ n. rows_from (suc i) cs ++ ((shape c.0).0, (n, (shape c.0).1)) ∷ []) e)

found-push : (es : List RowEntry) (f : Form) (r : ℕ × List (ℕ × ℕ)) → found es f ≡ None → found (es ++ (f, r) ∷ []) f ≡ Some r
found-push [] f r e = ap (λ b. cond b (Some r) None) ((form_Decides f f).1 refl)
found-push (x ∷ es) f r e =
    (elim (form_is f x.0) as (λ b. cond b (Some x.1) (found es f) ≡ None → cond b (Some x.1) (found (es ++ (f, r) ∷ []) f) ≡ Some r)
    [ true ↦ λ q. cc | false ↦ λ q. found-push es f r q ]) e

-- what holds of each element and of the new one holds of each of the longer list
each_push : (Q : ℕ → ClassEntry → Type 0) (cs : List ClassEntry) (c d : ClassEntry) → ((i : ℕ) → i < length cs → Q i (get_or cs i d)) → Q (length cs) c → (i : ℕ) → i < length (cs ++ c ∷ []) → Q i (get_or (cs ++ c ∷ []) i d)
each_push Q [] c d old new zero l = new
each_push Q [] c d old new (suc i) l = absurd (omega arith)
each_push Q (b ∷ cs) c d old new zero l = old 0 (omega arith)
each_push Q (b ∷ cs) c d old new (suc i) l = each_push (λ j. Q (suc j)) cs c d (λ j m. old (suc j) (omega arith)) new i (omega arith)

-- fresh slots

fresh_from : (c n v : ℕ) → In v (fresh_slots c n) → (j : ℕ) × (v ≡ fresh_slot j) × (c ≤ j) × (j < c + n)
fresh_from c zero v h = absurd h
fresh_from c (suc n) v (inl e) = (c, e, omega arith, omega arith)
fresh_from c (suc n) v (inr h) = let r = fresh_from (suc c) n v h in (r.0, r.1, omega (arith, r.2), omega (arith, r.3))

pub fresh_injective : (m : List (ℕ × ℕ)) (c n : ℕ) → values m ≡ fresh_slots c n → IsInjectiveMap m
fresh_injective [] c n e = tt
fresh_injective (p ∷ m) c zero e = cc
fresh_injective (p ∷ m) c (suc n) e =
    let h : p.1 ≡ fresh_slot c = cc in
    let t : values m ≡ fresh_slots (suc c) n = cc in
    (λ v. let r = fresh_from (suc c) n p.1 (subst (In p.1) t (In-values m p.1 v)) in omega (arith, h, r.1, r.2), fresh_injective m (suc c) n t)

older : (t u : Table) (s : ℕ) → t.fresh ≤ u.fresh → IsFreshBetween empty_table t s → IsFreshBetween empty_table u s
older t u s l b = record { index = b.index; is_slot = b.is_slot; unused = omega arith; made = omega (arith, l, b.made) }

newer : (t u : Table) (s : ℕ) → IsFreshBetween t u s → IsFreshBetween empty_table u s
newer t u s b = record { index = b.index; is_slot = b.is_slot; unused = omega arith; made = b.made }

-- an injective renaming keeps an id full
pub keeps_full : (g : List DTerm) (f : ℕ → ℕ) → IsInjective f → (a : Applied) → IsFull g a → IsFull g (renamed_id f a)
keeps_full g f inj a full = full-renamed g a full f (λ x y h k e. inj x y e)

-- the children of the nameless form of a node over full ids are full
pub full_children : (g : List DTerm) (f : Form) → Fits f → All (IsFull g) (child_ids f) → EachChild (IsFull g) (nameless_node f).args
full_children g f hf full = EachChild-node_args (IsFull g) (keeps_full g) (λ x. x) (λ x y e. e) f.tree f.names hf (Each-from_All (IsFull g) (child_ids f) full)

-- where the shape is filed
pub makes_none : (t : Table) (k : Kept) → Good k → HasFreshSlots t k → (f : Form) → Fits f → (r : ℕ × List (ℕ × ℕ)) → found k.rows (shape f).0 ≡ Some r → Makes t t k k f (answer (shape f).1 r)
makes_none t k good over f hf r e =
    let p : id_of_node (nodes_of k) (nameless_node f) ≡ Some (answer (shape f).1 r) = sym (look_up-rows k good f hf) ∙ ap (option_map (answer (shape f).1)) e in
    record {
      good = good;
      fresh_slots = over;
      extends = Extends-same (nodes_of k);
      more = [];
      proofs = sym (append-nil k.proofs);
      symmetries = refl;
      deaths = refl;
      counts = refl;
      found = p;
      filed = λ i past within. absurd (omega (arith, past, within));
      kept = λ s. (refl, refl);
      made = λ n. absurd (false≢true (ap is_some (sym n ∙ p)));
      step = inl refl;
      large = inl;
    }

module _ (t u : Table) (k : Kept) (good : Good k) (over : HasFreshSlots t k) (f : Form) (hf : Fits f) (full : All (IsFull (nodes_of k)) (child_ids f)) (none : found k.rows (shape f).0 ≡ None) (slots : List (ℕ × ℕ)) (same_keys : keys slots ≡ keys (shape f).1) (new_values : values slots ≡ fresh_slots t.fresh (length (shape f).1)) (moves : u.fresh ≡ t.fresh + length (shape f).1)
    (ps : List Proven) (p : ℕ) (enters : Enters k.proofs ps (reflexive_entry (length k.classes) (keys (between slots slots))) p) where
  abbrev l : Kept
  l = with_new_class (with_proofs k ps) (shape f).0 slots p

  abbrev c : Form
  c = with_put slots (shape f).0

  abbrev g : List DTerm
  g = nodes_of k

  -- its find entry
  abbrev own : Entry
  own = record { class = length k.classes; pairs = between slots slots; proof = p; died = 0 }

  abbrev d : DTerm
  d = nameless_node c

  abbrev n : ℕ
  n = length k.classes

  injective : IsInjectiveMap slots
  injective = fresh_injective slots t.fresh (length (shape f).1) new_values

  fresh : (v : ℕ) → In v (values slots) → IsFreshBetween t u v
  fresh v h =
      let r = fresh_from t.fresh (length (shape f).1) v (subst (In v) new_values h) in
      record { index = r.0; is_slot = r.1; unused = r.2; made = omega (arith, r.3, moves) }

  fresh_one : (v : ℕ) → In v (values slots) → (i : ℕ) × (v ≡ fresh_slot i)
  fresh_one v h = let b = fresh v h in (b.index, b.is_slot)

  abbrev put_shape : ((shape c).0 ≡ (shape f).0) × ((shape c).1 ≡ slots)
  put_shape = shape-put f hf slots same_keys injective fresh_one

  fits_c : Fits c
  fits_c = fits_put f hf slots same_keys injective fresh_one

  abbrev same : SameUpToNames (nameless_node f) d
  same = (shapes_iff f c hf fits_c).0 (sym put_shape.0)

  one_shape : theory.shape d ≡ theory.shape (nameless_node f)
  one_shape = sym ((shape_iff (nameless_node f) d).1 same)

  is_new : growth.IsNew g d
  is_new = record {
    operator = omega arith;
    children = subst (λ (x : DTerm). EachChild (IsFull g) x.args) same.1
        (EachChild-moved (IsFull g) (keeps_full g) same.0.to (to-injective same.0) (nameless_node f).args (full_children g f hf full));
    shape_is_new = λ i h e.
        let m : i < length k.classes = omega (arith, h, length-classes k) in
        none_has k good f hf none i m (ap theory.shape (sym (canonical_node-in k.classes i m)) ∙ (e ∙ one_shape));
  }

  adds : Added g (g ++ d ∷ []) d
  adds = added g d good.stored.sane.sound.canonical is_new

  nodes_are : nodes_of l ≡ g ++ d ∷ []
  nodes_are = map-append (λ (x : ClassEntry). nameless_node x.0) k.classes ((c, own) ∷ [])

  -- the slots of classes

  slots_new : names d ≡ ascending (values slots)
  slots_new = sym (ascending-values c) ∙ ap (λ (m : List (ℕ × ℕ)). ascending (values m)) put_shape.1

  numbered_c : HasNumberedBinders c
  numbered_c x h = elim (put_own slots (shape f).0.names (numeric-shape f).0 x (In-Contains c.names x h)) [
    | inl i ↦ inl (Contains-In (names d) x (subst (In x) (sym slots_new) (In-ascending x (values slots) i)))
    | inr n ↦ inr n
  ]

  slots_at : (i : ℕ) → i < length l.classes → canonical_slots (nodes_of l) i ≡ names (nameless_node (node_at l i))
  slots_at i h = ap names (canonical_node-in l.classes i h)

  slots_last : canonical_slots (nodes_of l) n ≡ names d
  slots_last =
      ap (λ (x : List DTerm). canonical_slots x n) nodes_are
      ∙ (ap (λ (i : ℕ). canonical_slots (g ++ d ∷ []) i) (sym (length-classes k)) ∙ ap names (node-new g d))

  fresh_last : (s : ℕ) → In s (names d) → IsFreshBetween t u s
  fresh_last s h = fresh s (In-of_ascending s (values slots) (subst (In s) slots_new h))

  finds_itself : between slots slots ≡ map_on (λ x. x) (names d)
  finds_itself =
      (λ i. between (sym put_shape.1 i) (sym put_shape.1 i)) ∙ between-moved (λ x. x) c (shape c).1 (with_values-itself (shape c).1)

  -- the model's lists

  abbrev entry : ProofEntry
  entry = record { equation = reflexive_equation (nodes_of l) (length g); step = reflexive }

  one_more : length (nodes_of l) ≡ suc (length g)
  one_more = let e : length (nodes_of l) ≡ length g + length (d ∷ []) = ap length nodes_are ∙ length-append g (d ∷ []) in omega arith

  extends : Extends g (nodes_of l)
  extends = subst (Extends g) (sym nodes_are) adds.extends

  canonical : Canonical (nodes_of l)
  canonical = subst Canonical (sym nodes_are) adds.canonical

  -- the slots of the new class, of which it says that each has its own name
  own_slots : between slots slots ≡ identity (canonical_slots (nodes_of l) n)
  own_slots = finds_itself ∙ ap identity (sym slots_last)

  own_keys : keys (between slots slots) ≡ canonical_slots (nodes_of l) n
  own_keys = ap keys own_slots ∙ keys-identity (canonical_slots (nodes_of l) n)

  abbrev own_entry : Proven
  own_entry = reflexive_entry n (keys (between slots slots))

  -- no entry speaks of it yet
  unspoken : IsNew k.proofs own_entry.statement
  unspoken q stands =
      let h : q < length (proofs_of k) = let a : length (proofs_of k) ≡ length k.proofs = length-proofs_of k in let b : q < length k.proofs = stands.in_range in omega arith in
      let o : (equation_at (proofs_of k) q).left < length g = (good.stored.sane.sound.proved.over q h).left in
      let e : (equation_at (proofs_of k) q).left ≡ n = ap (λ (x : Equation). x.left) (equation_at-of k.proofs q) ∙ ap (λ (x : Statement). x.equation.left) stands.statement in
      let m : length g ≡ n = length-classes k in
      omega arith

  stands_last : (p ≡ length k.proofs) × (ps ≡ k.proofs ++ own_entry ∷ [])
  stands_last = elim enters.grows [
    | inl h ↦ absurd (unspoken p h.0)
    | inr h ↦ (h.1, h.2)
  ]

  entry_is : entry_of own_entry ≡ entry
  entry_is =
      let m : n ≡ length g = sym (length-classes k) in
      (λ i. record { equation = record { left = n; right = n; pairs = identity (own_keys i) }; step = reflexive })
      ∙ (λ i. record { equation = reflexive_equation (nodes_of l) (m i); step = reflexive })

  proofs_are : proofs_of l ≡ proofs_of k ++ entry ∷ []
  proofs_are = ap (map entry_of) stands_last.1 ∙ (map-append entry_of k.proofs (own_entry ∷ []) ∙ ap (λ x. proofs_of k ++ x ∷ []) entry_is)

  entries_are : entries_of l ≡ with_new_entry (nodes_of l) (entries_of k) (length (proofs_of k))
  entries_are =
      let m : n ≡ length (entries_of k) = sym (length-entries_of k) in
      let q : p ≡ length (proofs_of k) = stands_last.0 ∙ sym (length-proofs_of k) in
      map-append (λ (x : ClassEntry). x.1) k.classes ((c, own) ∷ [])
      ∙ ((λ i. entries_of k ++ record { class = n; pairs = own_slots i; proof = q i; died = 0 } ∷ [])
      ∙ (λ i. entries_of k ++ record { class = m i; pairs = identity (canonical_slots (nodes_of l) (m i)); proof = length (proofs_of k); died = 0 } ∷ []))

  -- where finds, nodes and proofs are these lists
  abbrev As : (List Entry → List ProofEntry → Type 0) → Type 0
  As Q = Q (with_new_entry (nodes_of l) (entries_of k) (length (proofs_of k))) (proofs_of k ++ entry ∷ [])

  as_lists : (Q : List Entry → List ProofEntry → Type 0) → As Q → Q (entries_of l) (proofs_of l)
  as_lists Q h = subst (λ (x : List Entry × List ProofEntry). Q x.0 x.1) (λ i. (sym entries_are i, sym proofs_are i)) h

  nothing_asserted : asserted (nodes_of l) (proofs_of l) ≡ asserted g (proofs_of k)
  nothing_asserted = ap (asserted (nodes_of l)) proofs_are ∙ new_class-asserted g (nodes_of l) (entries_of k) (proofs_of k) good.stored.sane.sound canonical extends one_more

  -- the statements are over canonical slots
  proved_more : IsProved (nodes_of l) ps
  proved_more =
      entering_proved (nodes_of l) k.proofs ps own_entry p (proved_newer g (nodes_of l) k.proofs extends good.stored.proved)
      (subst (λ S. IsProvable (nodes_of l) k.proofs (reflexive_entry n S)) (sym own_keys) (reflexive_provable (nodes_of l) k.proofs n (let m : length g ≡ n = length-classes k in let o : length (nodes_of l) ≡ suc (length g) = one_more in omega arith)).0) enters

  -- the state is that of the model with one class more
  abbrev state : State
  state = state_of k

  state_with_is : (rows : List Row) (waiting : List ℕ) → state_with l rows waiting ≡ model.with_new_class (state_with k rows waiting) d
  state_with_is rows waiting i = record {
    nodes = nodes_are i;
    found = (entries_are ∙ ap (λ ns. with_new_entry ns (entries_of k) (length (proofs_of k))) nodes_are) i;
    proofs = (proofs_are ∙ ap (λ ns. proofs_of k ++ record { equation = reflexive_equation ns (length g); step = reflexive } ∷ []) nodes_are) i;
    rows = rows;
    waiting = waiting;
    symmetries = state.symmetries;
  }

  state_is : state_of l ≡ model.with_new_class state d
  state_is = state_with_is [] []

  finds_on : GoesOn state (state_of l)
  finds_on = subst (GoesOn state) (sym state_is) (class-goes_on state good.stored.sane d is_new)

  same_finds : (a : Applied) → IsValidIn state a → find (entries_of l) a ≡ find (entries_of k) a
  same_finds a v = subst (λ (x : State). find x.found a ≡ find (entries_of k) a) (sym state_is) (finds-same state good.stored.sane d is_new a v)

  -- symmetries are aligned as they were
  stored_more : Stored l
  stored_more = record {
    sane = subst Sane (sym state_is) (class-sane state good.stored.sane d is_new);
    proved = proved_more;
    later = as_lists (λ es qs. IsLater es k.moment) (later-newer g (nodes_of l) extends one_more (entries_of k) good.stored.sane.sound.linked (length (proofs_of k)) k.moment good.stored.later);
    sides = λ y c.
        let s : IsOverOneClass k y = good.stored.sides y c in
        record { left = (finds_on.finds y.0.0 s.left).0; right = (finds_on.finds y.0.1 s.right).0; class = s.class; slots = s.slots; left_known = s.left_known; right_known = s.right_known };
    once = good.stored.once;
    settled = λ dropped y c.
        let listed : IsListed state y = good.stored.sane.each_listed y c in
        ap id_names (same_finds (left_of y) (left-valid state y listed))
        ∙ (good.stored.settled dropped y c ∙ sym (ap id_names (same_finds (right_of y) (right-valid state y listed))));
  }

  pub good_more : Good l
  good_more = record {
    rows = (λ i. good.rows i ++ (sym put_shape.0 i, (n, sym put_shape.1 i)) ∷ [])
        ∙ (ap (λ (j : ℕ). rows_from 0 k.classes ++ ((shape c).0, (j, (shape c).1)) ∷ []) (zero_plus n)
        ∙ sym (rows_from-push 0 k.classes (c, own)));
    fits = each_push (λ i e. Fits e.0) k.classes (c, own) (no_form, no_entry) good.fits fits_c;
    numbered = each_push (λ i e. HasNumberedBinders e.0) k.classes (c, own) (no_form, no_entry) good.numbered numbered_c;
    stored = stored_more;
    settled = good.settled;
  }
    where
      zero_plus : (m : ℕ) → m ≡ 0 + m
      zero_plus m = omega arith

  fresh_more : HasFreshSlots u l
  fresh_more i s h b =
      each_push (λ j e. Contains (names (nameless_node e.0)) s → IsFreshBetween empty_table u s) k.classes (c, own) (no_form, no_entry)
      (λ j m a. older t u s (omega (arith, moves)) (over j s m (subst (λ (x : List ℕ). Contains x s) (ap names (sym (canonical_node-in k.classes j m))) a)))
      (λ a. newer t u s (fresh_last s (In-Contains (names d) s a))) i h
      (subst (λ (x : List ℕ). Contains x s) (slots_at i h) b)

  found_more : id_of_node (nodes_of l) (nameless_node f) ≡ Some (n, between slots (shape f).1)
  found_more =
      sym (look_up-rows l good_more f hf)
      ∙ ap (option_map (answer (shape f).1)) (found-push k.rows (shape f).0 (n, slots) none)

  none_before : id_of_node g (nameless_node f) ≡ None
  none_before = sym (look_up-rows k good f hf) ∙ ap (option_map (answer (shape f).1)) none

  -- a class that is too large was so, or the node is too large
  large_one : HasLargeClassIn (image_of l) → HasLargeClassOrNode (image_of k) f
  large_one h =
      large-old_or_new g (nodes_of l) extends f d same
      (ap (λ ns. canonical_node ns (length g)) nodes_are ∙ node-new g d) one_more h.0 h.1 h.2

  -- where the shape is not filed
  pub makes_one : Makes t u k l f (n, between slots (shape f).1)
  makes_one = record {
    good = good_more;
    fresh_slots = fresh_more;
    extends = extends;
    more = own_entry ∷ [];
    proofs = stands_last.1;
    symmetries = refl;
    deaths = refl;
    counts = refl;
    found = found_more;
    filed = λ i past within. ((n, between slots (shape f).1), last i past within, found_more);
    kept = λ s. absurd (false≢true (sym (ap is_some none_before) ∙ s));
    made = λ p. record {
      node = d;
      class = nodes_are;
      same_shape = one_shape;
      fresh = λ s b. fresh_last s (In-Contains (names d) s (subst (λ (x : List ℕ). Contains x s) (ap (λ (i : ℕ). canonical_slots (nodes_of l) i) (length-classes k) ∙ slots_last) b));
    };
    step = inr (record { node = d; is_new = is_new; same_shape = one_shape; count = classes_more; state = state_with_is });
    large = large_one;
  }
    where
      -- one class is new
      last : (i : ℕ) → length g ≤ i → i < length (nodes_of l) → n ≡ i
      last i past within = let c : length g ≡ n = length-classes k in omega (arith, past, within, one_more, c)

      classes_more : length l.classes ≡ suc (length k.classes)
      classes_more = let m : length (nodes_of l) ≡ length l.classes = length-classes l in let c : length g ≡ n = length-classes k in omega (arith, one_more, m, c)

-- what the code reads: the shape s with its names m

abbrev RowMakes : Table → Kept → Form → Form × List (ℕ × ℕ) → Type 0
RowMakes t k f x = (r : ℕ × List (ℕ × ℕ)) (a : Applied) → Some r ≡ found k.rows x.0 → a ≡ answer x.1 r → Makes t t k k f a

pub row_makes : (t : Table) (k : Kept) → Good k → HasFreshSlots t k → (f : Form) → Fits f → (s : Form) (m : List (ℕ × ℕ)) → ◌≡◌ {A = Form × List (ℕ × ℕ)} (s, m) (shape f) → RowMakes t k f (s, m)
row_makes t k good over f hf s m e =
    subst (RowMakes t k f) (sym e) (λ r a p q. subst (Makes t t k k f) (sym q) (makes_none t k good over f hf r (sym p)))

abbrev ClassMakes : Table → Table → Kept → Kept → Form → Applied → List (ℕ × ℕ) → Form × List (ℕ × ℕ) → Type 0
ClassMakes t u k l f a slots x =
    None ≡ found k.rows x.0 → keys slots ≡ keys x.1 → values slots ≡ fresh_slots t.fresh (length x.1) → u.fresh ≡ t.fresh + length x.1 →
    MakesClass k l x.0 slots → a ≡ (length k.classes, between slots x.1) → Makes t u k l f a

pub class_makes : (t u : Table) (k l : Kept) → Good k → HasFreshSlots t k → (f : Form) → Fits f → All (IsFull (nodes_of k)) (child_ids f) → (a : Applied) (slots : List (ℕ × ℕ)) (s : Form) (m : List (ℕ × ℕ)) → ◌≡◌ {A = Form × List (ℕ × ℕ)} (s, m) (shape f) → ClassMakes t u k l f a slots (s, m)
class_makes t u k l good over f hf full a slots s m e =
    subst (ClassMakes t u k l f a slots) (sym e)
    (λ none ks vs mv made ea. subst (λ (x : Kept × Applied). Makes t u k x.0 f x.1) (λ i. (sym made.class i, sym ea i))
    (makes_one t u k good over f hf full (sym none) slots ks vs mv made.proofs made.proof made.enters))

-- a shape that has no row is of a node that has no class
pub absent-unknown : (k : Kept) → Good k → (f : Form) → Fits f → (s : Form) (m : List (ℕ × ℕ)) → ◌≡◌ {A = Form × List (ℕ × ℕ)} (s, m) (shape f) → None ≡ found k.rows s → id_of_node (nodes_of k) (nameless_node f) ≡ None
absent-unknown k good f hf s m e none =
    sym (look_up-rows k good f hf) ∙ ap (option_map (answer (shape f).1)) (ap (λ (x : Form × List (ℕ × ℕ)). found k.rows x.0) (sym e) ∙ sym none)

-- the slots of a new class are no more than the places of its node

pub shape-places : (f : Form) → Fits f → (s : Form) (m slots : List (ℕ × ℕ)) → ◌≡◌ {A = Form × List (ℕ × ℕ)} (s, m) (shape f) → slots ≡ m → length slots ≤ length f.names
shape-places f hf s m slots e copied =
    let n : length slots ≡ length (shape f).1 = ap length copied ∙ ap (λ (x : Form × List (ℕ × ℕ)). length x.1) e in
    omega (arith, n, length-free f hf)

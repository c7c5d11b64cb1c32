-- The steps of a union by an entry: what `Unites` says of the states with any rows, of which any wait, from what each step leaves.
use Rattle.std.proofs.Common.{◌≡◌, ◌≢◌, ℕ, ◌<◌, ◌≤◌, ◌+◌, ◌^◌, ◌++◌, List, [], length, sym, ◌∙◌, ap, refl, subst, inl, inr, arith, length-append}
use Rattle.std.proofs.lemmas.List.{get_or_append_left}
use Rattle.std.specs.Prelude.{Contains, Option, Some, None}
use Rattle.std.specs.Map.{keys_of, values_of}
use Rattle.slotted_theory.specs.Nameless.{DTerm}
use Rattle.slotted_model.specs.Changes.{Unites, finds_alike, proves, drops_left, drops_right, left_dies, right_dies, lists, is_listed, PairsAll, StandsAt, found_entry, IsSymmetryOf, dropped_state, linked_state, with_symmetry, symmetry_of}
use Rattle.slotted_model.specs.Classes.{canonical_slots}
use Rattle.slotted_model.specs.Correspondence.{identity}
use Rattle.slotted_model.specs.Find.{Entry, find_class, used_slots}
use Rattle.slotted_model.specs.Link.{found_equation, kept_equation}
use Rattle.slotted_model.specs.ProofList.{Equation, IsOver, turned_equation}
use Rattle.slotted_model.specs.Rest.{size}
use Rattle.slotted_model.specs.State.{State, Symmetry, Row, HasTouched}
use Rattle.slotted_model.proofs.Correspondences.PartialInjections.{turned-partial}
use Rattle.slotted_model.proofs.Finds.Dropping.{kept-can_drop}
use Rattle.slotted_model.proofs.Rebuilding.Events.{drop-size}
use Rattle.slotted_model.proofs.Rebuilding.FoundEntries.{says-over, says-left_lives, says-right_lives, says-left_used, says-right_used}
use Rattle.slotted_proofs.specs.Entries.{Proven, nothing_proven, statement_at}
use Rattle.slotted_classes.specs.Kept.{Kept, nodes_of, entries_of, proofs_of}
use Rattle.slotted_classes.proofs.KeptLists.{equation_at-of, length-nodes_of}
use Rattle.slotted_rebuilding.specs.Proving.{OnlyProves, ProvesFound, FindsEither, HasLargeSide}
use Rattle.slotted_classes.specs.StateOf.{state_of, state_with}
use Rattle.slotted_classes.specs.Stored.{Stored}
use Rattle.slotted_rebuilding.specs.Grows.{Grows}
use Rattle.slotted_rebuilding.specs.Uniting.{equation_in, IsOfLive, HasDropped, DropsRight, DropsNothing, DropsSide, HasLinked, LinksTurned, ListsOnce, SaysNothing, ActsOn, UnitesBy, IsDone, StepsBy}
use Rattle.slotted_rebuilding.specs.declared.unions.uniting.UnionStep.{UnionStep}
use Rattle.slotted_rebuilding.specs.declared.unions.uniting.UnionStep.TheVariants.{Done, Dropped, Linked}
use Rattle.slotted_rebuilding.proofs.EnteredProofs.{only-nodes, only-state, only-says, only-stands, only-grows, proved-then, nothing-proved, stands-at, stored-over, only-large}
use Rattle.slotted_rebuilding.proofs.ChangedEntries.{untouched}
use Rattle.slotted_rebuilding.proofs.JoinedClasses.{drop-class}
use Rattle.slotted_rebuilding.proofs.KeptSlots.{grows-then}
use Rattle.slotted_rebuilding.proofs.LargeFinds.{found-twice, large-among}
use Rattle.slotted_rebuilding.proofs.TurnedEntries.{still-live, still-pairs_all, turned-key, turned-value, key-turned}

-- nothing grows
grows-nothing : (k : Kept) → Stored k → Grows k k
grows-nothing k stored = only-grows k k (nothing-proved k stored)

-- what an entry says of the found classes, by the words of the code
pub found-in : (k : Kept) (p : ℕ) → found_entry (state_of k) p ≡ found_equation (nodes_of k) (entries_of k) (equation_in k p)
found-in k p = ap (found_equation (nodes_of k) (entries_of k)) (equation_at-of k.proofs p)

-- it says the same after more entries
pub found-still : (k l : Kept) → OnlyProves k l → (p : ℕ) → p < length k.proofs → found_entry (state_of l) p ≡ found_entry (state_of k) p
found-still k l only p h =
    found-in l p ∙ ((λ i. found_equation (nodes_of (only.kept i)) (entries_of (only.kept i)) (only-says k l only p h i)) ∙ sym (found-in k p))

-- it is of live classes
pub found-live : (k : Kept) → Stored k → (p : ℕ) → p < length k.proofs → IsOfLive k (found_entry (state_of k) p)
found-live k stored p h =
    let linked = stored.sane.sound.linked in
    let e : Equation = equation_in k p in
    let o : IsOver (nodes_of k) e = stored-over k stored p h in
    subst (IsOfLive k) (sym (found-in k p)) (record {
      left_lives = says-left_lives (nodes_of k) (entries_of k) linked e o;
      right_lives = says-right_lives (nodes_of k) (entries_of k) linked e o;
      left = says-left_used (nodes_of k) (entries_of k) linked e o;
      right = says-right_used (nodes_of k) (entries_of k) linked e o;
    })

-- what waits after more entries
touched-still : (k m : Kept) (rows : List Row) (w v : List ℕ) (c : ℕ) → HasTouched (state_with k rows w) c v → HasTouched (state_with m rows w) c v
touched-still k m rows w v c t = record { once = t.once; kept = t.kept; over = t.over; from = t.from }

-- more entries, and then a union
proved-unites : (k l : Kept) → OnlyProves k l → (p : ℕ) (rows : List Row) (w : List ℕ) (h : State) → Unites p (state_with l rows w) h → Unites p (state_with k rows w) h
proved-unites k l only p rows w h u = proves (proofs_of l) only.asserts_nothing (subst (λ g. Unites p g h) (only-state k l only rows w) u)

class-still : (k l : Kept) → OnlyProves k l → (i : ℕ) → i < length l.classes → i < length k.classes
class-still k l only i h = subst (λ (z : Kept). i < length z.classes) only.kept h

-- more entries, and then a step of a union
proved-step : (k l m : Kept) → OnlyProves k l → (p : ℕ) (step : UnionStep) → StepsBy p l m step → StepsBy p k m step
proved-step k l m only p Done s = record {
  did = λ rows w. proved-unites k l only p rows w (state_with m rows w) (s.did rows w);
  stored = s.stored;
  grows = grows-then k l m (only-grows k l only) s.grows;
  within = s.within;
}
proved-step k l m only p (Dropped c) s = record {
  did = record {
    in_range = class-still k l only c s.did.in_range;
    goes_on = λ rows w v h t u. proved-unites k l only p rows w h (s.did.goes_on rows w v h (touched-still k l rows w v c t) u);
    smaller = subst (λ (z : Kept). size (state_of m) < size (state_of z)) only.kept s.did.smaller;
    finds = subst (λ (z : Kept). (i : ℕ) → i < length z.classes → find_class (entries_of m) i ≡ find_class (entries_of z) i) only.kept s.did.finds;
  };
  stored = s.stored;
  grows = grows-then k l m (only-grows k l only) s.grows;
  within = s.within;
}
proved-step k l m only p (Linked c) s = record {
  did = record {
    in_range = class-still k l only c s.did.in_range;
    unites = λ rows w v t. proved-unites k l only p rows w (state_with m rows v) (s.did.unites rows w v (touched-still k l rows w v c t));
  };
  stored = s.stored;
  grows = grows-then k l m (only-grows k l only) s.grows;
  within = s.within;
}

-- fewer slots change no class that is found
dropped-class : (k l : Kept) → Stored k → (e : Equation) → IsOver (nodes_of k) e → IsOfLive k e → HasDropped k l e → (i : ℕ) → i < length (nodes_of k) → find_class (entries_of l) i ≡ find_class (entries_of k) i
dropped-class k l stored e over live d i h =
    let m : Kept = d.middle in
    let o : IsOver (nodes_of m) e = subst (λ (z : Kept). IsOver (nodes_of z) e) (sym d.only.kept) over in
    let w : IsOfLive m e = still-live k m e d.only live in
    let r : i < length (nodes_of m) = subst (λ (z : Kept). i < length (nodes_of z)) (sym d.only.kept) h in
    ap (λ (g : State). find_class g.found i) d.state
    ∙ (drop-class (nodes_of m) (entries_of m) d.only.stored.sane.sound.linked e.left (keys_of e.pairs) d.number (kept-can_drop (nodes_of m) (entries_of m) e o w.left_lives w.left) i r
    ∙ ap (λ (z : Kept). find_class (entries_of z) i) d.only.kept)

-- fewer slots make a state smaller
dropped-smaller : (k l : Kept) (e : Equation) → IsOver (nodes_of k) e → IsOfLive k e → HasDropped k l e → size (state_of l) < size (state_of k)
dropped-smaller k l e over live d =
    let m : Kept = d.middle in
    let o : IsOver (nodes_of m) e = subst (λ (z : Kept). IsOver (nodes_of z) e) (sym d.only.kept) over in
    let s : size (state_of m) ≡ size (state_of k) = ap (λ (z : Kept). size (state_of z)) d.only.kept in
    let w : IsOfLive m e = subst (λ (z : Kept). IsOfLive z e) (sym d.only.kept) (record { left_lives = live.left_lives; right_lives = live.right_lives; left = live.left; right = live.right }) in
    let u : Contains (used_slots (entries_of m) e.left) d.slot = subst (λ (z : Kept). Contains (used_slots (entries_of z) e.left) d.slot) (sym d.only.kept) d.lacks.used in
    subst (λ n. size (state_of l) < n) s (subst (λ g. size g < size (state_of m)) (sym d.state)
    (drop-size (state_of m) d.only.stored.sane e.left (keys_of e.pairs) d.number (kept-can_drop (nodes_of m) (entries_of m) e o w.left_lives w.left) d.stands.0 d.stands.1 [] (untouched m e.left) d.slot u d.lacks.alone))

turned-over : (k : Kept) (e : Equation) → IsOver (nodes_of k) e → IsOver (nodes_of k) (turned_equation (nodes_of k) e)
turned-over k e o = record { left = o.right; right = o.left; pairs = turned-partial (canonical_slots (nodes_of k) e.left) (canonical_slots (nodes_of k) e.right) e.pairs o.pairs }

-- one union by an entry p, of which e says what it says of the found classes
module _ (k : Kept) (stored : Stored k) (p : ℕ) (within : p < length k.proofs) (e : Equation) (is : e ≡ found_entry (state_of k) p) where
  live : IsOfLive k e
  live = subst (IsOfLive k) (sym is) (found-live k stored p within)

  over : IsOver (nodes_of k) e
  over = subst (IsOver (nodes_of k)) (sym (is ∙ found-in k p)) (says-over (nodes_of k) (entries_of k) stored.sane.sound.linked (equation_in k p) (stored-over k stored p within))

  still : (m : Kept) → OnlyProves k m → found_entry (state_of m) p ≡ e
  still m only = found-still k m only p within ∙ sym is

  abbrev back : Equation
  back = turned_equation (nodes_of k) e

  back-live : IsOfLive k back
  back-live = record {
    left_lives = live.right_lives;
    right_lives = live.left_lives;
    left = λ s c. live.right s (turned-key (canonical_slots (nodes_of k) e.right) e.pairs s c);
    right = λ t c. live.left t (turned-value (canonical_slots (nodes_of k) e.right) e.pairs t c);
  }

  grown-within : (l : Kept) → Grows k l → p < length l.proofs
  grown-within l g = subst (λ ps. p < length ps) (sym g.proofs) (let n : length (k.proofs ++ g.more) ≡ length k.proofs + length g.more = length-append k.proofs g.more in omega (arith, n, within))

  in-nodes : (i : ℕ) → i < length k.classes → i < length (nodes_of k)
  in-nodes i h = let n : length (nodes_of k) ≡ length k.classes = length-nodes_of k in omega (arith, h, n)

  left-in_range : e.left < length k.classes
  left-in_range = let n : length (nodes_of k) ≡ length k.classes = length-nodes_of k in omega (arith, over.left, n)

  right-in_range : e.right < length k.classes
  right-in_range = let n : length (nodes_of k) ≡ length k.classes = length-nodes_of k in omega (arith, over.right, n)

  -- the left class dropped slots
  left-goes_on : (l : Kept) → HasDropped k l e → (rows : List Row) (w v : List ℕ) (h : State) → HasTouched (state_with k rows w) e.left v → Unites p (state_with l rows v) h → Unites p (state_with k rows w) h
  left-goes_on l d rows w v h t u =
      let m : Kept = d.middle in
      let g : State = state_with m rows w in
      let P : Equation → Type 0 = λ x. Contains (used_slots g.found x.left) d.slot → ¬ Contains (keys_of x.pairs) d.slot → StandsAt g d.number (kept_equation x) → HasTouched g x.left v →
      Unites p (dropped_state g x.left (keys_of x.pairs) d.number v) h → Unites p g h in
      let step : P e = subst P (still m d.only) (λ a b c n z. drops_left d.number d.slot v a b c n z) in
      let used : Contains (used_slots g.found e.left) d.slot = subst (λ (z : Kept). Contains (used_slots (entries_of z) e.left) d.slot) (sym d.only.kept) d.lacks.used in
      let state : state_with l rows v ≡ dropped_state g e.left (keys_of e.pairs) d.number v = λ i. record (d.state i) { rows = rows; waiting = v } in
      proved-unites k m d.only p rows w h (step used d.lacks.alone d.stands (touched-still k m rows w v e.left t) (subst (λ y. Unites p y h) state u))

  left-dropped : (l : Kept) → HasDropped k l e → StepsBy p k l (Dropped e.left)
  left-dropped l d = record {
    did = record {
      in_range = left-in_range;
      goes_on = left-goes_on l d;
      smaller = dropped-smaller k l e over live d;
      finds = λ i h. dropped-class k l stored e over live d i (in-nodes i h);
    };
    stored = d.stored;
    grows = d.grows;
    within = grown-within l d.grows;
  }

  -- the right class did
  right-goes_on : (l : Kept) → DropsRight k l e → (rows : List Row) (w v : List ℕ) (h : State) → HasTouched (state_with k rows w) e.right v → Unites p (state_with l rows v) h → Unites p (state_with k rows w) h
  right-goes_on l r rows w v h t u =
      let d : HasDropped r.middle l back = r.dropped in
      let m : Kept = d.middle in
      let only : OnlyProves k m = proved-then k r.middle m r.only d.only in
      let g : State = state_with m rows w in
      let P : Equation × List DTerm → Type 0 = λ y. ((s : ℕ) → Contains (used_slots g.found y.0.left) s → Contains (keys_of y.0.pairs) s) → Contains (used_slots g.found y.0.right) d.slot → ¬ Contains (values_of y.0.pairs) d.slot →
      StandsAt g d.number (kept_equation (turned_equation y.1 y.0)) → HasTouched g y.0.right v → Unites p (dropped_state g y.0.right (keys_of (turned_equation y.1 y.0).pairs) d.number v) h → Unites p g h in
      let step : P (e, nodes_of k) = subst P (λ i. (still m only i, only-nodes k m only i)) (λ a b c n x z. drops_right d.number d.slot v a b c n x z) in
      let left : (s : ℕ) → Contains (used_slots g.found e.left) s → Contains (keys_of e.pairs) s = subst (λ (z : Kept). (s : ℕ) → Contains (used_slots (entries_of z) e.left) s → Contains (keys_of e.pairs) s) (sym only.kept) r.pairs_left in
      let used : Contains (used_slots g.found e.right) d.slot = subst (λ (z : Kept). Contains (used_slots (entries_of z) e.right) d.slot) (sym d.only.kept) d.lacks.used in
      let alone : ¬ Contains (values_of e.pairs) d.slot = λ c. d.lacks.alone (key-turned (canonical_slots (nodes_of k) e.left) (canonical_slots (nodes_of k) e.right) e.pairs over.pairs d.slot c) in
      let state : state_with l rows v ≡ dropped_state g e.right (keys_of back.pairs) d.number v = λ i. record (d.state i) { rows = rows; waiting = v } in
      proved-unites k m only p rows w h (step left used alone d.stands (touched-still k m rows w v e.right t) (subst (λ y. Unites p y h) state u))

  right-dropped : (l : Kept) → DropsRight k l e → StepsBy p k l (Dropped e.right)
  right-dropped l r =
      let m : Kept = r.middle in
      let o : IsOver (nodes_of m) back = subst (λ (z : Kept). IsOver (nodes_of z) back) (sym r.only.kept) (turned-over k e over) in
      let s : size (state_of m) ≡ size (state_of k) = ap (λ (z : Kept). size (state_of z)) r.only.kept in
      let lives : IsOfLive m back = still-live k m back r.only back-live in
      let grows : Grows k l = grows-then k m l (only-grows k m r.only) r.dropped.grows in
      record {
        did = record {
          in_range = right-in_range;
          goes_on = right-goes_on l r;
          smaller = subst (λ n. size (state_of l) < n) s (dropped-smaller m l back o lives r.dropped);
          finds = λ i h.
              dropped-class m l r.only.stored back o lives r.dropped i (subst (λ (z : Kept). i < length (nodes_of z)) (sym r.only.kept) (in-nodes i h))
              ∙ ap (λ (z : Kept). find_class (entries_of z) i) r.only.kept;
        };
        stored = r.dropped.stored;
        grows = grows;
        within = grown-within l grows;
      }

  -- one of them did
  pub dropped-step : (l : Kept) (c : ℕ) → DropsSide k l e (Some c) → StepsBy p k l (Dropped c)
  dropped-step l c (inl (same, d)) = subst (λ x. StepsBy p k l (Dropped x)) (sym same) (left-dropped l d)
  dropped-step l c (inr (same, r)) = subst (λ x. StepsBy p k l (Dropped x)) (sym same) (right-dropped l r)

  -- the left class died
  left-linked : (l : Kept) (n : ℕ) → e.left ≢ e.right → PairsAll (state_of k) e → StandsAt (state_of k) n e → HasLinked k l e n → StepsBy p k l (Linked e.left)
  left-linked l n differ all stands d = record {
    did = record {
      in_range = left-in_range;
      unites = λ rows w v t.
          let g : State = state_with k rows w in
          let P : Equation → Type 0 = λ x. x.left ≢ x.right → PairsAll g x → StandsAt g n x → HasTouched g x.left v → Unites p g (linked_state g x n k.moment v) in
          let step : P e = subst P (sym is) (λ a b c t. left_dies n k.moment v a b c stored.later t) in
          let state : state_with l rows v ≡ linked_state g e n k.moment v = λ i. record (d.state i) { rows = rows; waiting = v } in
          subst (Unites p g) (sym state) (step differ (record { left = all.left; right = all.right }) stands t);
    };
    stored = d.stored;
    grows = d.grows;
    within = grown-within l d.grows;
  }

  -- the right class died
  right-unites : (l : Kept) → e.left ≢ e.right → PairsAll (state_of k) e → LinksTurned k l e → (rows : List Row) (w v : List ℕ) → HasTouched (state_with k rows w) e.right v → Unites p (state_with k rows w) (state_with l rows v)
  right-unites l differ all r rows w v t =
      let m : Kept = r.middle in
      let g : State = state_with m rows w in
      let d : HasLinked m l back r.number = r.linked in
      let P : Equation × List DTerm → Type 0 = λ y. y.0.left ≢ y.0.right → PairsAll g y.0 → StandsAt g r.number (turned_equation y.1 y.0) → HasTouched g y.0.right v → Unites p g (linked_state g (turned_equation y.1 y.0) r.number m.moment v) in
      let step : P (e, nodes_of k) = subst P (λ i. (still m r.only i, only-nodes k m r.only i)) (λ a b c t. right_dies r.number m.moment v a b c r.only.stored.later t) in
      let also : PairsAll (state_of m) e = still-pairs_all k m e r.only all in
      let state : state_with l rows v ≡ linked_state g back r.number m.moment v = λ i. record (d.state i) { rows = rows; waiting = v } in
      proved-unites k m r.only p rows w (state_with l rows v) (subst (Unites p g) (sym state) (step differ (record { left = also.left; right = also.right }) r.stands (touched-still k m rows w v e.right t)))

  right-linked : (l : Kept) → e.left ≢ e.right → PairsAll (state_of k) e → LinksTurned k l e → StepsBy p k l (Linked e.right)
  right-linked l differ all r =
      let grows : Grows k l = grows-then k r.middle l (only-grows k r.middle r.only) r.linked.grows in
      record {
        did = record { in_range = right-in_range; unites = right-unites l differ all r };
        stored = r.linked.stored;
        grows = grows;
        within = grown-within l grows;
      }

  -- a symmetry was listed, or it stood in the list
  listed-once : (l : Kept) (q : ℕ) → e.left ≡ e.right → PairsAll (state_of k) e → e.pairs ≢ identity (used_slots (entries_of k) e.left) → StandsAt (state_of k) q e → ListsOnce k l e q → StepsBy p k l Done
  listed-once l q one all moves stands (inl d) =
      let y : Symmetry = d.0.0 in
      let done : IsDone p k k = λ rows w.
      let g : State = state_with k rows w in
      let P : Equation → Type 0 = λ x. x.left ≡ x.right → PairsAll g x → IsSymmetryOf g x y → Unites p g g in
      let step : P e = subst P (sym is) (λ a b c. is_listed y a b d.0.1 c) in
      step one (record { left = all.left; right = all.right }) (record { class = d.0.2.class; slots = d.0.2.slots; pairs = d.0.2.pairs }) in
      subst (λ (z : Kept). StepsBy p k z Done) (sym d.1) (record { did = done; stored = stored; grows = grows-nothing k stored; within = within })
  listed-once l q one all moves stands (inr d) = record {
    did = λ rows w.
        let g : State = state_with k rows w in
        let P : Equation → Type 0 = λ x. x.left ≡ x.right → PairsAll g x → x.pairs ≢ identity (used_slots g.found x.left) → ((y : Symmetry) → Contains g.symmetries y → ¬ IsSymmetryOf g x y) → StandsAt g q x → Unites p g (with_symmetry g (symmetry_of g x q)) in
        let step : P e = subst P (sym is) (λ a b c n t. lists q a b c n t) in
        let state : state_with l rows w ≡ with_symmetry g (symmetry_of g e q) = λ i. record (d.1.state i) { rows = rows; waiting = w } in
        subst (Unites p g) (sym state) (step one (record { left = all.left; right = all.right }) moves (λ y c s. d.0 (y, c, record { class = s.class; slots = s.slots; pairs = s.pairs })) stands);
    stored = d.1.stored;
    grows = d.1.grows;
    within = grown-within l d.1.grows;
  }

  -- what was acted on
  pub acted-step : (l : Kept) (q : ℕ) (step : UnionStep) → PairsAll (state_of k) e → ¬ SaysNothing k e → StandsAt (state_of k) q e → ActsOn k l e q step → StepsBy p k l step
  acted-step l q Done all says stands (one, d) = listed-once l q one all (λ i. says (one, i)) stands d
  acted-step l q (Dropped c) all says stands d = absurd d
  acted-step l q (Linked c) all says stands (differ, inl (same, d)) = subst (λ x. StepsBy p k l (Linked x)) (sym same) (left-linked l d.0 differ all d.1 d.2)
  acted-step l q (Linked c) all says stands (differ, inr (same, r)) = subst (λ x. StepsBy p k l (Linked x)) (sym same) (right-linked l differ all r)

  -- the sides find alike
  pub alike-step : SaysNothing k e → StepsBy p k k Done
  alike-step s = record {
    did = λ rows w.
        let g : State = state_with k rows w in
        let P : Equation → Type 0 = λ x. x.left ≡ x.right → x.pairs ≡ identity (used_slots g.found x.left) → Unites p g g in
        let step : P e = subst P (sym is) (λ a b. finds_alike a b) in
        step s.0 s.1;
    stored = stored;
    grows = grows-nothing k stored;
    within = within;
  }

-- the union by an entry p, after the proof q of what it says of the found classes was entered
module _ (k m : Kept) (stored : Stored k) (p q : ℕ) (within : p < length k.proofs) (f : ProvesFound k m p q) where
  m-within : p < length m.proofs
  m-within = (only-stands k m f.only p within).0

  m-is : equation_in m q ≡ found_entry (state_of m) p
  m-is = f.equation ∙ sym (found-still k m f.only p within)

  abbrev said : Equation
  said = equation_in k p

  said-over : IsOver (nodes_of k) said
  said-over = stored-over k stored p within

  -- the classes that it is of are those that the two sides find
  found-sides : (es : List Entry) → es ≡ entries_of k → (FindsEither es said.left said.right (equation_in m q).left) × FindsEither es said.left said.right (equation_in m q).right
  found-sides es same =
      let linked = stored.sane.sound.linked in
      let says : equation_in m q ≡ found_equation (nodes_of k) (entries_of k) said = f.equation ∙ found-in k p in
      subst (λ es. (FindsEither es said.left said.right (equation_in m q).left) × FindsEither es said.left said.right (equation_in m q).right) (sym same) (
        inl (ap (λ (x : Equation). find_class (entries_of k) x.left) says ∙ found-twice (nodes_of k) (entries_of k) linked said.left said-over.left),
        inr (ap (λ (x : Equation). find_class (entries_of k) x.right) says ∙ found-twice (nodes_of k) (entries_of k) linked said.right said-over.right),
      )

  -- a class is large where the proof is acted on
  pub proof-large : (l : Kept) → OnlyProves m l → HasLargeSide l (equation_in m q) → HasLargeSide k said
  proof-large l only large =
      let sides = found-sides (entries_of k) refl in
      large-among k (equation_in m q).left (equation_in m q).right said.left said.right sides.0 sides.1
      (only-large k l (proved-then k m l f.only only) (equation_in m q).left (equation_in m q).right large)

  pub proof-live : IsOfLive m (equation_in m q)
  proof-live = subst (IsOfLive m) (sym m-is) (found-live m f.only.stored p m-within)

  -- slots were dropped
  pub then-dropped : (l : Kept) (o : Option ℕ) (c : ℕ) → o ≡ Some c → DropsSide m l (equation_in m q) o → StepsBy p k l (Dropped c)
  then-dropped l o c some d = proved-step k m l f.only p (Dropped c)
      (dropped-step m f.only.stored p m-within (equation_in m q) m-is l c (subst (DropsSide m l (equation_in m q)) some d))

  -- none was
  module _ (l : Kept) (o : Option ℕ) (no : o ≡ None) (d : DropsSide m l (equation_in m q) o) where
    none : DropsNothing m l (equation_in m q)
    none = subst (DropsSide m l (equation_in m q)) no d

    only : OnlyProves k l
    only = proved-then k m l f.only none.only

    pub still-stored : Stored l
    still-stored = none.only.stored

    pub still-proved : q < length l.proofs
    still-proved = (only-stands m l none.only q f.in_range).0

    same-equation : equation_in l q ≡ equation_in m q
    same-equation = only-says m l none.only q f.in_range

    l-is : equation_in l q ≡ found_entry (state_of l) p
    l-is = same-equation ∙ (f.equation ∙ sym (found-still k l only p within))

    pub acting-large : HasLargeSide l (equation_in l q) → HasLargeSide k said
    acting-large large = proof-large l none.only (subst (HasLargeSide l) same-equation large)

    pub acting-live : IsOfLive l (equation_in l q)
    acting-live = subst (IsOfLive l) (sym l-is) (found-live l still-stored p (only-stands k l only p within).0)

    pub acting-all : PairsAll (state_of l) (equation_in l q)
    acting-all = subst (PairsAll (state_of l)) (sym same-equation) none.pairs_all

    pub acting-moves : ¬ SaysNothing k (found_entry (state_of k) p) → ¬ SaysNothing l (equation_in l q)
    acting-moves says s =
        says (subst (λ (z : Kept × Equation). SaysNothing z.0 z.1) (λ i. (only.kept i, (same-equation ∙ f.equation) i)) s)

    pub acting-step : (n : Kept) (step : UnionStep) → ¬ SaysNothing k (found_entry (state_of k) p) → ActsOn l n (equation_in l q) q step → StepsBy p k n step
    acting-step n step says acts =
        proved-step k l n only p step (acted-step l still-stored p (only-stands k l only p within).0 (equation_in l q) l-is n q step acting-all (acting-moves says)
        (stands-at l (equation_in l q) q still-proved refl) acts)

-- a union without rows goes on where a class dropped slots
module _ (k l : Kept) (p c : ℕ) (s : StepsBy p k l (Dropped c)) where
  pub lost-unites : (n : Kept) → UnitesBy p l n → UnitesBy p k n
  lost-unites n u = record {
    unites = s.did.goes_on [] [] [] (state_of n) (untouched k c) u.unites;
    stored = u.stored;
    grows = grows-then k l n s.grows u.grows;
  }

  -- a class that is large then was so
  pub lost-large : Stored k → p < length k.proofs → HasLargeSide l (equation_in l p) → HasLargeSide k (equation_in k p)
  lost-large stored within large =
      let said : Equation = equation_in k p in
      let over : IsOver (nodes_of k) said = stored-over k stored p within in
      let says : equation_in l p ≡ said =
      ap (λ ps. (statement_at ps p).equation) s.grows.proofs ∙ ap (λ (x : Proven). x.statement.equation) (get_or_append_left k.proofs s.grows.more nothing_proven p within) in
      let at : HasLargeSide l said = subst (HasLargeSide l) says large in
      let a : length (nodes_of l) ≡ length l.classes = length-nodes_of l in
      let b : length (nodes_of k) ≡ length k.classes = length-nodes_of k in
      let e : length (nodes_of l) ≡ length (nodes_of k) = ap length s.grows.nodes in
      let h : at.0 < length k.classes = omega (arith, at.1, a, b, e) in (
        at.0,
        h,
        elim at.2 [
          | inl f ↦ inl (sym (s.did.finds at.0 h) ∙ (f ∙ s.did.finds said.left (omega (arith, over.left, b))))
          | inr f ↦ inr (sym (s.did.finds at.0 h) ∙ (f ∙ s.did.finds said.right (omega (arith, over.right, b))))
        ],
        subst (λ (ns : List DTerm). 2 ^ 29 ≤ length (canonical_slots ns at.0)) s.grows.nodes at.3,
      )

-- Union by an entry of the proof list: the graph stays sane and goes on, and the sides are equal up to listed symmetries.
use Rattle.std.proofs.Common.{◌≡◌, ◌≢◌, ℕ, ◌<◌, List, [], ◌∷◌, length, sym, ◌∙◌, ap, refl, subst, inl, inr, arith}
use Rattle.std.specs.Prelude.{Contains, ◌⊎◌}
use Rattle.std.specs.Map.{keys_of, values_of}
use Rattle.std.proofs.lemmas.List.Elements.{Contains-append_right}
use Rattle.slotted_lists.proofs.Contained.{contains_head}
use Rattle.slotted_theory.specs.FiniteMaps.{filled}
use Rattle.slotted_theory.proofs.Filled.{filled-injective}
use Rattle.slotted_model.specs.Applied.{Applied, renamed_id}
use Rattle.slotted_model.specs.Classes.{canonical_slots, IsFull}
use Rattle.slotted_model.specs.Correspondence.{turned, identity}
use Rattle.slotted_model.specs.Find.{find_map, used_slots, find, Linked}
use Rattle.slotted_model.specs.ProofList.{Equation, explicit, equation_of, turned_equation, equation_at, step_at, IsOver, asserted}
use Rattle.slotted_model.specs.Link.{found_equation, CanLink, CanDrop, IsLater, with_link}
use Rattle.slotted_model.specs.State.{Symmetry, State, left_of, right_of, HasTouched}
use Rattle.slotted_model.specs.Rest.{IsValidIn, UpToSymmetries, found_alike, listed, joined, IsListed, Sane, size_from, size}
use Rattle.slotted_model.specs.Changes.{GoesOn, linked_state, dropped_state, with_proofs, symmetry_of, with_symmetry, found_entry, StandsAt, PairsAll, IsSymmetryOf, Unites, finds_alike, proves, drops_left, drops_right, left_dies, right_dies, lists, is_listed, HasUnited}
use Rattle.slotted_model.proofs.Data.Sets.{IsAscending-ascending}
use Rattle.slotted_model.proofs.Correspondences.Pairs.{Contains-value, Contains-of_key, Contains-of_value}
use Rattle.slotted_model.proofs.Correspondences.PartialInjections.{turned-partial, turned-pair, turned-by}
use Rattle.slotted_model.proofs.Finds.Finding.{leads, find_map-partial}
use Rattle.slotted_model.proofs.Finds.NormalIds.{found-again, found-valid, full-is_valid, of_used}
use Rattle.slotted_model.proofs.Finds.Uniting.{linked-alike}
use Rattle.slotted_model.proofs.Finds.Dropping.{kept-can_drop}
use Rattle.slotted_model.proofs.Rebuilding.GoingOn.{goes_on-same, goes_on-then, still-full}
use Rattle.slotted_model.proofs.Rebuilding.Events.{link-sane, link-goes_on, link-size, drop-sane, drop-goes_on, drop-size}
use Rattle.slotted_model.proofs.Rebuilding.GrowingLists.{grow-explicit, proofs-go_on, proofs-sane, symmetry-goes_on, symmetry-sane}
use Rattle.slotted_model.proofs.Rebuilding.FoundEntries.{says-over, says-left_lives, says-right_lives, says-left_used, says-right_used, says-all, says-partial, identity-alike, left-renamed, right-renamed, says-turned}

-- what a union does first, and then the rest of it
united-after : (p : ℕ) (f g h : State) → Sane f → GoesOn f g → p < length f.proofs → g.nodes ≡ f.nodes → g.rows ≡ f.rows → ((o : ℕ) → Contains f.waiting o → Contains g.waiting o) →
    ((q : ℕ) → q < length g.proofs → step_at g.proofs q ≡ explicit → (q < length f.proofs) × (step_at f.proofs q ≡ explicit)) →
    asserted g.nodes g.proofs ≡ asserted f.nodes f.proofs → (size g < size f) ⊎ ((g.found ≡ f.found) × (g.waiting ≡ f.waiting)) → HasUnited p g h → HasUnited p f h
united-after p f g h sane on k nodes rows waits silent same small u = record {
  sane = u.sane;
  goes_on = goes_on-then f g h sane.sound.linked on u.goes_on;
  same_nodes = u.same_nodes ∙ nodes;
  same_rows = u.same_rows ∙ rows;
  still_waits = λ o c. u.still_waits o (waits o c);
  asserts_nothing = λ q l e. let r = u.asserts_nothing q l e in silent q r.0 r.1;
  same_asserted = u.same_asserted ∙ same;
  equal = λ a b fa fb e. u.equal a b (still-full f g sane.sound on a fa) (still-full f g sane.sound on b fb) (e ∙ sym (on.proofs p k).1);
  smaller = elim small [
    | inl l ↦ elim u.smaller [
      | inl m ↦ inl (omega arith)
      | inr m ↦ let e : size h ≡ size g = ap (size_from 0) m.0 in inl (omega arith)
    ]
    | inr l ↦ elim u.smaller [
      | inl m ↦ let e : size g ≡ size f = ap (size_from 0) l.0 in inl (omega arith)
      | inr m ↦ inr (m.0 ∙ l.0, m.1 ∙ l.1)
    ]
  ];
}

module _ (g : State) (sane : Sane g) where
  abbrev linked : Linked g.nodes g.found
  linked = sane.sound.linked

  abbrev F : Equation → Equation
  F e = found_equation g.nodes g.found e

  full-valid : (a : Applied) → IsFull g.nodes a → IsValidIn g a
  full-valid a full = full-is_valid g.nodes g.found linked a full

  -- what a find answers is equal to what it was asked for
  equal-found : (a b : Applied) → IsFull g.nodes a → IsFull g.nodes b → UpToSymmetries g (find g.found a) (find g.found b) → UpToSymmetries g a b
  equal-found a b fa fb u =
      let va = full-valid a fa in
      let vb = full-valid b fb in
      joined (found_alike va (found-valid g.nodes g.found linked a va) (sym (found-again g.nodes g.found linked a va)))
      (joined u (found_alike (found-valid g.nodes g.found linked b vb) vb (found-again g.nodes g.found linked b vb)))

  -- the sides of an equation that pairs each slot of one class with itself
  alike-sides : (a b : Applied) → IsFull g.nodes a → IsFull g.nodes b → (e : Equation) → equation_of a b ≡ e → (F e).left ≡ (F e).right → (F e).pairs ≡ identity (used_slots g.found (F e).left) → UpToSymmetries g a b
  alike-sides a b fa fb e q =
      subst (λ x. (F x).left ≡ (F x).right → (F x).pairs ≡ identity (used_slots g.found (F x).left) → UpToSymmetries g a b) q
      (λ l i. found_alike (full-valid a fa) (full-valid b fb) (identity-alike g.nodes g.found linked a b fa fb l i))

  -- the sides of an equation that is listed
  listed-sides : (a b : Applied) → IsFull g.nodes a → IsFull g.nodes b → (y : Symmetry) → Contains g.symmetries y → (e : Equation) → equation_of a b ≡ e →
      (F e).left ≡ (F e).right → PairsAll g (F e) → IsSymmetryOf g (F e) y → UpToSymmetries g a b
  listed-sides a b fa fb y c e q =
      subst (λ x. (F x).left ≡ (F x).right → PairsAll g (F x) → IsSymmetryOf g (F x) y → UpToSymmetries g a b) q
      (λ l all is.
      let f : ℕ → ℕ = filled (find g.found a).1 in
      let inj = filled-injective (find g.found a).1 (found-valid g.nodes g.found linked a (full-valid a fa)).injective in
      let left : renamed_id f (left_of y) ≡ find g.found a = (λ i. renamed_id f (is.class i, identity (is.slots i))) ∙ left-renamed g.nodes g.found linked a b fa fb l all.right in
      let right : renamed_id f (right_of y) ≡ find g.found b = (λ i. renamed_id f (is.class i, turned (is.slots i) (is.pairs i))) ∙ right-renamed g.nodes g.found linked a b fa fb l all.right in
      equal-found a b fa fb (subst (λ x. UpToSymmetries g x (find g.found b)) left (subst (λ x. UpToSymmetries g (renamed_id f (left_of y)) x) right (listed y f c inj))))

module _ (g : State) (sane : Sane g) (p : ℕ) (k : p < length g.proofs) where
  abbrev links : Linked g.nodes g.found
  links = sane.sound.linked

  abbrev G : Equation → Equation
  G e = found_equation g.nodes g.found e

  abbrev e : Equation
  e = equation_at g.proofs p

  abbrev o : IsOver g.nodes e
  o = sane.sound.proved.over p k

  abbrev says : Equation
  says = found_entry g p

  abbrev back : Equation
  back = turned_equation g.nodes says

  says-is_over : IsOver g.nodes says
  says-is_over = says-over g.nodes g.found links e o

  back-is_over : IsOver g.nodes back
  back-is_over = record { left = says-is_over.right; right = says-is_over.left; pairs = turned-partial (canonical_slots g.nodes says.left) (canonical_slots g.nodes says.right) says.pairs says-is_over.pairs }

  -- the partners that the equation has turned round
  pub back-key : (t : ℕ) → Contains (keys_of back.pairs) t → Contains (values_of says.pairs) t
  back-key t c = let r = Contains-of_key back.pairs t c in Contains-value says.pairs r.0 t (turned-pair (canonical_slots g.nodes says.right) says.pairs r.0 t r.1)

  back-value : (s : ℕ) → Contains (keys_of says.pairs) s → Contains (values_of back.pairs) s
  back-value s c =
      let r = Contains-of_key says.pairs s c in
      Contains-value back.pairs r.0 s (turned-by (canonical_slots g.nodes says.left) (canonical_slots g.nodes says.right) says.pairs says-is_over.pairs s r.0 r.1)

  back-used : (t : ℕ) → Contains (keys_of back.pairs) t → Contains (used_slots g.found back.left) t
  back-used t c = says-right_used g.nodes g.found links e o t (back-key t c)

  -- slots without partner can be dropped on either side
  pub can_drop-left : CanDrop g.nodes g.found says.left (keys_of says.pairs)
  can_drop-left = kept-can_drop g.nodes g.found says says-is_over (says-left_lives g.nodes g.found links e o) (says-left_used g.nodes g.found links e o)

  pub can_drop-right : CanDrop g.nodes g.found says.right (keys_of back.pairs)
  can_drop-right = kept-can_drop g.nodes g.found back back-is_over (says-right_lives g.nodes g.found links e o) back-used

  -- and different classes without such slots can be links in either way
  pub can_link-left : says.left ≢ says.right → PairsAll g says → CanLink g.nodes g.found says
  can_link-left n all = record {
    over = says-is_over;
    left_lives = says-left_lives g.nodes g.found links e o;
    right_lives = says-right_lives g.nodes g.found links e o;
    different = n;
    from = says-left_used g.nodes g.found links e o;
    onto = all.right;
  }

  pub can_link-right : says.left ≢ says.right → PairsAll g says → CanLink g.nodes g.found back
  can_link-right n all = record {
    over = back-is_over;
    left_lives = says-right_lives g.nodes g.found links e o;
    right_lives = says-left_lives g.nodes g.found links e o;
    different = λ q. n (sym q);
    from = back-used;
    onto = λ s c. back-value s (all.left s c);
  }

  -- a bijection of one class, not the identity, can be listed
  pub can_list : (n : ℕ) → says.left ≡ says.right → PairsAll g says → says.pairs ≢ identity (used_slots g.found says.left) → StandsAt g n says → IsListed g (symmetry_of g says n)
  can_list n same all moves at = record {
    in_range = says-is_over.left;
    ascending = IsAscending-ascending (values_of (find_map g.found says.left));
    used = λ s c. c;
    within = λ s c.
        let r = Contains-of_value (find_map g.found says.left) s (of_used g.found says.left s c) in
        (find_map-partial g.nodes g.found (leads g.nodes g.found links) says.left says-is_over.left).within r.0 s r.1;
    bijection = says-partial g.nodes g.found links e o same;
    total = says-all g.nodes g.found links e o all.left;
    onto = λ t c. all.right t (subst (λ i. Contains (used_slots g.found i) t) same c);
    moves = moves;
    proof = at.0;
    exact = at.1 ∙ (λ i. record { left = says.left; right = sym same i; pairs = says.pairs });
  }

  -- after a link the sides find alike
  linked-sides : (n moment : ℕ) → CanLink g.nodes g.found says → IsLater g.found moment → (a b : Applied) → IsFull g.nodes a → IsFull g.nodes b → equation_of a b ≡ e →
      find (with_link g.nodes g.found says n moment) a ≡ find (with_link g.nodes g.found says n moment) b
  linked-sides n moment can later a b fa fb q =
      subst (λ x. CanLink g.nodes g.found (G x) → find (with_link g.nodes g.found (G x) n moment) a ≡ find (with_link g.nodes g.found (G x) n moment) b) q
      (λ c. linked-alike g.nodes g.found links a b fa fb n moment c later) can

  linked-back : (n moment : ℕ) → CanLink g.nodes g.found back → IsLater g.found moment → (a b : Applied) → IsFull g.nodes a → IsFull g.nodes b → equation_of a b ≡ e →
      find (with_link g.nodes g.found back n moment) a ≡ find (with_link g.nodes g.found back n moment) b
  linked-back n moment can later a b fa fb q =
      subst (λ x. CanLink g.nodes g.found (turned_equation g.nodes (G x)) → find (with_link g.nodes g.found (turned_equation g.nodes (G x)) n moment) a ≡ find (with_link g.nodes g.found (turned_equation g.nodes (G x)) n moment) b) q
      (subst (λ z. CanLink g.nodes g.found z → find (with_link g.nodes g.found z n moment) a ≡ find (with_link g.nodes g.found z n moment) b) (sym (says-turned g.nodes g.found links a b fa fb))
      (λ c. sym (linked-alike g.nodes g.found links b a fb fa n moment c later))) can

  link-united : (z : Equation) (n moment : ℕ) → CanLink g.nodes g.found z → IsLater g.found moment → StandsAt g n z →
      ((a b : Applied) → IsFull g.nodes a → IsFull g.nodes b → equation_of a b ≡ e → find (with_link g.nodes g.found z n moment) a ≡ find (with_link g.nodes g.found z n moment) b) →
      (w : List ℕ) → HasTouched g z.left w → HasUnited p g (linked_state g z n moment w)
  link-united z n moment can later at alike w t =
      let on : GoesOn g (linked_state g z n moment w) = link-goes_on g sane z n moment can later at.0 at.1 w t in
      record {
        sane = link-sane g sane z n moment can later at.0 at.1 w t;
        goes_on = on;
        same_nodes = refl;
        same_rows = refl;
        still_waits = t.kept;
        asserts_nothing = λ q h s. (h, s);
        same_asserted = refl;
        equal = λ a b fa fb q. found_alike (on.finds a (full-valid g sane a fa)).0 (on.finds b (full-valid g sane b fb)).0 (alike a b fa fb q);
        smaller = inl (link-size g sane z n moment can later at.0 at.1 w t);
      }

  -- a union that changes no find
  same-united : ((a b : Applied) → IsFull g.nodes a → IsFull g.nodes b → equation_of a b ≡ e → UpToSymmetries g a b) → HasUnited p g g
  same-united equal = record {
    sane = sane;
    goes_on = goes_on-same g links;
    same_nodes = refl;
    same_rows = refl;
    still_waits = λ w c. c;
    asserts_nothing = λ q h s. (h, s);
    same_asserted = refl;
    equal = equal;
    smaller = inr (refl, refl);
  }

  list-united : (n : ℕ) → says.left ≡ says.right → PairsAll g says → says.pairs ≢ identity (used_slots g.found says.left) →
      ((y : Symmetry) → Contains g.symmetries y → ¬ IsSymmetryOf g says y) → StandsAt g n says → HasUnited p g (with_symmetry g (symmetry_of g says n))
  list-united n same all moves new at =
      let y : Symmetry = symmetry_of g says n in
      let l : IsListed g y = can_list n same all moves at in
      let other : (z : Symmetry) → Contains g.symmetries z → z.class ≡ y.class → z.slots ≡ y.slots → z.pairs ≡ y.pairs → ⊥ = λ z c i j k'. new z c (record { class = i; slots = j; pairs = k' }) in
      let s : Sane (with_symmetry g y) = symmetry-sane g sane y l other in
      record {
        sane = s;
        goes_on = symmetry-goes_on g sane y l other;
        same_nodes = refl;
        same_rows = refl;
        still_waits = λ w c. c;
        asserts_nothing = λ q h t. (h, t);
        same_asserted = refl;
        equal = λ a b fa fb q.
            listed-sides (with_symmetry g y) s a b fa fb y (Contains-append_right g.symmetries (y ∷ []) y (contains_head y [])) e q same (record { left = all.left; right = all.right }) (record { class = refl; slots = refl; pairs = refl });
        smaller = inr (refl, refl);
      }

-- the union by an entry
pub unites : (p : ℕ) {g h : State} → Unites p g h → Sane g → p < length g.proofs → HasUnited p g h
unites p (finds_alike {g = g} l i) sane k = same-united g sane p k (λ a b fa fb q. alike-sides g sane a b fa fb (equation_at g.proofs p) q l i)
unites p (proves {g = g} {h = h} proofs grow u) sane k =
    let on : GoesOn g (with_proofs g proofs) = proofs-go_on g sane proofs grow in
    united-after p g (with_proofs g proofs) h sane on k refl refl (λ o c. c) (grow-explicit g.nodes g.proofs proofs grow) grow.asserts_nothing (inr (refl, refl))
    (unites p u (proofs-sane g sane proofs grow) (on.proofs p k).0)
unites p (drops_left {g = g} {h = h} n s w used lacks at t u) sane k =
    let says : Equation = found_entry g p in
    let can = can_drop-left g sane p k in
    united-after p g (dropped_state g says.left (keys_of says.pairs) n w) h sane (drop-goes_on g sane says.left (keys_of says.pairs) n can at.0 at.1 w t) k refl refl
    t.kept (λ q l e. (l, e)) refl (inl (drop-size g sane says.left (keys_of says.pairs) n can at.0 at.1 w t s used lacks))
    (unites p u (drop-sane g sane says.left (keys_of says.pairs) n can at.0 at.1 w t) k)
unites p (drops_right {g = g} {h = h} n x w all used lacks at t u) sane k =
    let says : Equation = found_entry g p in
    let kept : List ℕ = keys_of (turned_equation g.nodes says).pairs in
    let can = can_drop-right g sane p k in
    united-after p g (dropped_state g says.right kept n w) h sane (drop-goes_on g sane says.right kept n can at.0 at.1 w t) k refl refl
    t.kept (λ q l e. (l, e)) refl (inl (drop-size g sane says.right kept n can at.0 at.1 w t x used (λ c. lacks (back-key g sane p k x c))))
    (unites p u (drop-sane g sane says.right kept n can at.0 at.1 w t) k)
unites p (left_dies {g = g} n moment w differ all at later t) sane k =
    let can = can_link-left g sane p k differ all in
    link-united g sane p k (found_entry g p) n moment can later at (linked-sides g sane p k n moment can later) w t
unites p (right_dies {g = g} n moment w differ all at later t) sane k =
    let can = can_link-right g sane p k differ all in
    link-united g sane p k (turned_equation g.nodes (found_entry g p)) n moment can later at (linked-back g sane p k n moment can later) w t
unites p (lists {g = g} n same all moves new at) sane k = list-united g sane p k n same all moves new at
unites p (is_listed {g = g} y same all c is) sane k = same-united g sane p k (λ a b fa fb q. listed-sides g sane a b fa fb y c (equation_at g.proofs p) q same all is)

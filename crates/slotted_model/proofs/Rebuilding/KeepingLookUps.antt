-- A class made of a node that was not looked up changes no other class: finds and look-ups stay what they were.
use Rattle.std.proofs.Common.{◌≡◌, ◌≢◌, ℕ, ◌<◌, List, [], ◌∷◌, Some, None, length, cond, sym, ◌∙◌, ap, refl, subst, inl, inr, arith}
use Rattle.std.specs.Prelude.{Contains, option_map, nat_eq, ◌⊎◌}
use Rattle.std.specs.Map.{keys_of}
use Rattle.std.proofs.lemmas.Bool.{ne_eqb}
use Rattle.std.proofs.lemmas.List.{get_or-set_other, get_or_append_left}
use Rattle.std.proofs.lemmas.List.Elements.{Contains-append_cases}
use Rattle.std.proofs.Math.Seq.{get_or-append_seam}
use Rattle.slotted_lists.proofs.Contained.{contains_head, contains_tail, contains_cases, Contains-nil, Contains-map}
use Rattle.slotted_lists.proofs.Members.{In, In-Contains}
use Rattle.slotted_theory.specs.Nameless.{DArgs, DTerm, stop, place, sub, scope, moved}
use Rattle.slotted_theory.specs.FiniteMaps.{filled}
use Rattle.slotted_theory.specs.Shape.{free_names, number_in, shape}
use Rattle.slotted_theory.proofs.Filled.{filled-injective}
use Rattle.slotted_theory.proofs.Values.{node}
use Rattle.slotted_model.specs.Ascending.{names}
use Rattle.slotted_model.specs.Applied.{Applied, applied_of, EachChild}
use Rattle.slotted_model.specs.Classes.{canonical_node, canonical_slots, IsFull}
use Rattle.slotted_model.specs.Correspondence.{composite, turned, identity, same_names}
use Rattle.slotted_model.specs.Growth.{IsNew}
use Rattle.slotted_model.specs.Find.{Entry, entry_at, IsLive, find_class, find_map, used_slots, find}
use Rattle.slotted_model.specs.Link.{with_slots}
use Rattle.slotted_model.specs.Normal.{normal}
use Rattle.slotted_model.specs.ProofList.{Equation, ProofEntry, turned_equation, equation_at}
use Rattle.slotted_model.specs.State.{Row, Symmetry, State, normal_node, child_classes, row_of, HasTouched, source_with_names, look_up_node, left_of, right_of}
use Rattle.slotted_model.specs.Rest.{IsValidIn, id_names, Sane, AtRest}
use Rattle.slotted_model.specs.Changes.{GoesOn, dropped_state, with_proofs, found_entry, PairsAll, Unites, finds_alike, proves, drops_left, drops_right, left_dies, right_dies, lists, is_listed}
use Rattle.slotted_model.specs.Rebuild.{with_row, row_for, IsCongruence, Turn, enters, narrows, unites_parents, refiles, Acts, acts, Runs, starts, takes_turn, takes_act}
use Rattle.slotted_model.specs.Adding.{with_new_class, with_new_row, Adds, joins_row, files_row}
use Rattle.slotted_model.proofs.Data.Sets.{In-of_ascending}
use Rattle.slotted_model.proofs.Data.Theory.{agrees-from_moved}
use Rattle.slotted_model.proofs.Data.Maps.{filled-pair}
use Rattle.slotted_model.proofs.Data.Options.{None-Some, option_map-some}
use Rattle.slotted_model.proofs.Represented.Children.{EachChild-map}
use Rattle.slotted_model.proofs.Represented.Terms.{term_at-seam}
use Rattle.slotted_model.proofs.Represented.Full.{full-ascending}
use Rattle.slotted_model.proofs.Finds.Congruence.{child-applied}
use Rattle.slotted_model.proofs.Correspondences.Pairs.{Contains-key}
use Rattle.slotted_model.proofs.Correspondences.PartialInjections.{composite-over, turned-pair, identity-pair}
use Rattle.slotted_model.proofs.Correspondences.FullMaps.{same_names-over}
use Rattle.slotted_model.proofs.Finds.Finding.{Leads, leads, along, find_class-live, find_map-live, find_class-follows, find_map-follows}
use Rattle.slotted_model.proofs.Finds.NormalIds.{full-is_valid}
use Rattle.slotted_model.proofs.Represented.RenamedIds.{normal-moves}
use Rattle.slotted_model.proofs.Rebuilding.UpTo.{left-valid, right-valid}
use Rattle.slotted_model.proofs.Rebuilding.Rows.{row_of-some, row_of-there, one_row}
use Rattle.slotted_model.proofs.Rebuilding.Touching.{child_classes-moved}
use Rattle.slotted_model.proofs.Rebuilding.GrowingLists.{proofs-go_on, proofs-sane}
use Rattle.slotted_model.proofs.Rebuilding.Events.{normal-found, drop-sane}
use Rattle.slotted_model.proofs.Finds.Dropping.{drop-lives}
use Rattle.slotted_model.proofs.Rebuilding.FoundEntries.{says-all}
use Rattle.slotted_model.proofs.Rebuilding.Unions.{can_drop-left, can_drop-right}
use Rattle.slotted_model.proofs.Rebuilding.Refiling.{with_row-from, without-from, refiled-sane}
use Rattle.slotted_model.proofs.Rebuilding.Adding.{normal_args-agree, filed-ready, finds-same, last-in_range}

-- a list of equal pairs is the identity of its keys
equal-pairs : (A : List (ℕ × ℕ)) → ((s t : ℕ) → Contains A (s, t) → s ≡ t) → A ≡ identity (keys_of A)
equal-pairs [] h = refl
equal-pairs (p ∷ A) h = λ i. (p.0, sym (h p.0 p.1 (contains_head p A)) i) ∷ equal-pairs A (λ s t c. h s t (contains_tail p A (s, t) c)) i

-- the classes of children of which all are below
pub children-below : (P : Applied → Type 0) (n : ℕ) → ((a : Applied) → P a → a.0 < n) → (d : DArgs) → EachChild P d → (x : ℕ) → Contains (child_classes d) x → x < n
children-below P n h stop c x k = absurd (Contains-nil x k)
children-below P n h (place y rest) c x k = children-below P n h rest c x k
children-below P n h (sub op payloads args rest) c x k = elim (contains_cases (applied_of payloads args).0 (child_classes rest) x k) [
  | inl e ↦ subst (λ z. z < n) (sym (e ∙ ap (λ (a : Applied). a.0) (child-applied P op payloads args c.0))) (h c.0.0 c.0.2)
  | inr j ↦ children-below P n h rest c.1 x j
]
children-below P n h (scope inner rest) c x k = elim (Contains-append_cases (child_classes inner) (child_classes rest) x k) [
  | inl j ↦ children-below P n h inner c.0 x j
  | inr j ↦ children-below P n h rest c.1 x j
]

-- a row of another source stays
with_row-keeps : (q : Row) (rows : List Row) (r : Row) → Contains rows r → r.source ≢ q.source → Contains (with_row q rows) r
with_row-keeps q rows r c n =
    subst (Contains (with_row q rows)) (ap (λ b. cond b q r) (ne_eqb r.source q.source n)) (Contains-map (λ (x : Row). cond (nat_eq x.source q.source) q x) rows r c)

-- the congruence of a class with itself pairs slots with themselves
congruence-equal : (k : State) → Sane k → (p o : ℕ) (c : IsCongruence k p o o) → (s t : ℕ) → Contains (equation_at k.proofs p).pairs (s, t) → s ≡ t
congruence-equal k sane p o c s t h =
    let a : Applied = c.left in
    let b : Applied = c.right in
    let N : DTerm = normal k.found (canonical_node k.nodes a.0) in
    let class : b.0 ≡ a.0 = c.right_class ∙ sym c.left_class in
    let pair : Contains (same_names a.1 b.1) (s, t) = subst (λ (e : Equation). Contains e.pairs (s, t)) c.stands.1 h in
    let w = same_names-over a.1 b.1 s t pair in
    let agree : moved (filled a.1) N ≡ moved (filled b.1) N =
    sym (normal-moves k.found (filled a.1) (canonical_node k.nodes a.0))
    ∙ (c.twins.same
    ∙ (normal-moves k.found (filled b.1) (canonical_node k.nodes b.0) ∙ ap (λ j. moved (filled b.1) (normal k.found (canonical_node k.nodes j))) class)) in
    let i : In s (free_names N.args) = In-of_ascending s (free_names N.args) (In-Contains (names N) s ((c.twins.left_names s).0 (Contains-key (same_names a.1 b.1) s t pair))) in
    let left : filled a.1 s ≡ w.0 = filled-pair a.1 s w.0 (full-ascending k.nodes a c.left_full) (In-Contains a.1 (s, w.0) w.1) in
    let right : filled b.1 t ≡ w.0 = filled-pair b.1 t w.0 (full-ascending k.nodes b c.twins.full) (In-Contains b.1 (t, w.0) w.2) in
    filled-injective b.1 c.twins.full.injective s t (sym (agrees-from_moved (filled a.1) (filled b.1) N agree s i) ∙ (left ∙ sym right))

module _ (g : State) (rest : AtRest g) (c : DTerm) (new : IsNew g.nodes c) (none : look_up_node g c ≡ None) where
  abbrev i : ℕ
  i = length g.nodes

  abbrev m : State
  m = with_new_class g c

  -- what a run keeps of the other classes
  record Keeps (k : State) : Type 0 where
    sane : Sane k
    same_nodes : k.nodes ≡ m.nodes
    entries : (o : ℕ) → o < i → entry_at k.found o ≡ entry_at g.found o
    live : IsLive k.found i
    rows_kept : (r : Row) → Contains g.rows r → Contains k.rows r
    rows_from : (r : Row) → Contains k.rows r → Contains g.rows r ⊎ (r.source ≡ i)
    below : (r : Row) → Contains k.rows r → (d : ℕ) → Contains (child_classes r.shape.args) d → d < i
    only : (o : ℕ) → Contains k.waiting o → o ≡ i
    symmetries : (y : Symmetry) → Contains k.symmetries y → Contains g.symmetries y

  -- then finds are what they were
  module _ (k : State) (keeps : Keeps k) where
    in-k : (o : ℕ) → o < i → o < length k.nodes
    in-k o h = let e : length k.nodes ≡ length m.nodes = ap (λ (l : List DTerm). length l) keeps.same_nodes in let l : i < length m.nodes = last-in_range g rest.sane c new in omega arith

    last-in_k : i < length k.nodes
    last-in_k = subst (λ (l : List DTerm). i < length l) (sym keeps.same_nodes) (last-in_range g rest.sane c new)

    abbrev K : Leads k.nodes k.found
    K = leads k.nodes k.found keeps.sane.sound.linked

    abbrev G : Leads g.nodes g.found
    G = leads g.nodes g.found rest.sane.sound.linked

    same-find : (o : ℕ) → o < i → (find_class k.found o ≡ find_class g.found o) × (find_map k.found o ≡ find_map g.found o)
    same-find = along g.nodes g.found G (λ o. (find_class k.found o ≡ find_class g.found o) × (find_map k.found o ≡ find_map g.found o))
        (λ o h l.
        let live : IsLive k.found o = ap (λ (e : Entry). e.class) (keeps.entries o h) ∙ l in (
          find_class-live k.nodes k.found K o (in-k o h) live ∙ sym (find_class-live g.nodes g.found G o h l),
          find_map-live k.nodes k.found K o (in-k o h) live ∙ (ap (λ (e : Entry). e.pairs) (keeps.entries o h) ∙ sym (find_map-live g.nodes g.found G o h l)),
        ))
        (λ o h n next. (
          find_class-follows k.nodes k.found K o (in-k o h) ∙ (ap (λ (e : Entry). find_class k.found e.class) (keeps.entries o h) ∙ (next.0 ∙ sym (find_class-follows g.nodes g.found G o h))),
          find_map-follows k.nodes k.found K o (in-k o h)
              ∙ ((λ j. composite (find_map k.found (keeps.entries o h j).class) (keeps.entries o h j).pairs)
              ∙ (ap (λ φ. composite φ (entry_at g.found o).pairs) next.1 ∙ sym (find_map-follows g.nodes g.found G o h))),
        ))

    same-found : (a : Applied) → IsValidIn g a → find k.found a ≡ find g.found a
    same-found a v = let r = same-find a.0 v.in_range in λ j. (r.0 j, composite (r.1 j) a.1)

    same-normal : (d : DTerm) → EachChild (IsValidIn g) d.args → normal k.found d ≡ normal g.found d
    same-normal d v = ap (node d.op d.payloads) (normal_args-agree (IsValidIn g) g.found k.found same-found d.args v)

    c-valid : EachChild (IsValidIn g) c.args
    c-valid = EachChild-map (IsFull g.nodes) (IsValidIn g) (λ a full. full-is_valid g.nodes g.found rest.sane.sound.linked a full) c.args new.children

    -- the new class has the node c
    new-node : normal_node k i ≡ normal g.found c
    new-node = ap (normal k.found) (ap (λ (l : List DTerm). canonical_node l i) keeps.same_nodes ∙ term_at-seam g.nodes c) ∙ same-normal c c-valid

    -- so no other row has its shape
    alone : (r : Row) → Contains k.rows r → r.source ≢ i → r.shape ≢ shape (normal_node k i)
    alone r h n e = elim (keeps.rows_from r h) [
      | inl j ↦
          let t = row_of-there (shape (normal g.found c)) g.rows r j (e ∙ ap shape new-node) in
          None-Some _ (sym none ∙ ap (option_map (λ (q : Row). find g.found (source_with_names (normal g.found c) q))) t.1)
      | inr q ↦ n q
    ]

    -- the find of the new class pairs slots with themselves
    diagonal : (o : ℕ) → o ≡ i → (s t : ℕ) → Contains (find_map k.found o) (s, t) → s ≡ t
    diagonal o e s t h =
        let same : find_map k.found i ≡ (entry_at k.found i).pairs = find_map-live k.nodes k.found K i last-in_k keeps.live in
        let id : (entry_at k.found i).pairs ≡ identity (keys_of (entry_at k.found i).pairs) = keeps.sane.sound.linked.live i last-in_k keeps.live in
        (identity-pair (keys_of (entry_at k.found i).pairs) s t (subst (λ φ. Contains φ (s, t)) (same ∙ id) (subst (λ j. Contains (find_map k.found j) (s, t)) e h))).1

    found-last : (o : ℕ) → o ≡ i → find_class k.found o ≡ i
    found-last o e = ap (find_class k.found) e ∙ find_class-live k.nodes k.found K i last-in_k keeps.live

    -- slots of the new class can go
    dropped-keeps : (x : ℕ) (slots : List ℕ) (n : ℕ) (w : List ℕ) → HasTouched k x w → x ≡ i → Sane (dropped_state k x slots n w) → IsLive (with_slots k.found x slots n) x → Keeps (dropped_state k x slots n w)
    dropped-keeps x slots n w t e sane lives =
        record {
          sane = sane;
          same_nodes = keeps.same_nodes;
          entries = λ o h. get_or-set_other k.found x o (record { class = x; pairs = identity slots; proof = n; died = 0 }) (record { class = 0; pairs = []; proof = 0; died = 0 }) (λ q. omega arith) ∙ keeps.entries o h;
          live = subst (IsLive (with_slots k.found x slots n)) e lives;
          rows_kept = keeps.rows_kept;
          rows_from = keeps.rows_from;
          below = keeps.below;
          only = λ o h. elim (t.from o h) [
            | inl q ↦ keeps.only o q
            | inr r ↦ (let l : x < i = keeps.below r.0 r.1 x r.2 in absurd (omega arith))
          ];
          symmetries = keeps.symmetries;
        }

    proofs-keeps : (proofs : List ProofEntry) → Sane (with_proofs k proofs) → Keeps (with_proofs k proofs)
    proofs-keeps proofs sane = record {
      sane = sane;
      same_nodes = keeps.same_nodes;
      entries = keeps.entries;
      live = keeps.live;
      rows_kept = keeps.rows_kept;
      rows_from = keeps.rows_from;
      below = keeps.below;
      only = keeps.only;
      symmetries = keeps.symmetries;
    }

  -- an entry of the proof list that pairs slots of the new class with themselves
  record IsOwn (k : State) (p : ℕ) : Type 0 where
    left : (equation_at k.proofs p).left ≡ i
    right : (equation_at k.proofs p).right ≡ i
    pairs : (s t : ℕ) → Contains (equation_at k.proofs p).pairs (s, t) → s ≡ t

  -- says so of the found class too
  own-left : (k : State) (keeps : Keeps k) (p : ℕ) → IsOwn k p → (found_entry k p).left ≡ i
  own-left k keeps p own = found-last k keeps (equation_at k.proofs p).left own.left

  own-right : (k : State) (keeps : Keeps k) (p : ℕ) → IsOwn k p → (found_entry k p).right ≡ i
  own-right k keeps p own = found-last k keeps (equation_at k.proofs p).right own.right

  own-pairs : (k : State) (keeps : Keeps k) (p : ℕ) → IsOwn k p → (s t : ℕ) → Contains (found_entry k p).pairs (s, t) → s ≡ t
  own-pairs k keeps p own s t h =
      let e : Equation = equation_at k.proofs p in
      let r = composite-over (composite (find_map k.found e.left) e.pairs) (turned (canonical_slots k.nodes e.right) (find_map k.found e.right)) s t h in
      let q = composite-over (find_map k.found e.left) e.pairs s r.0 r.1 in
      diagonal k keeps e.left own.left s q.0 q.1
      ∙ (own.pairs q.0 r.0 q.2 ∙ sym (diagonal k keeps e.right own.right t r.0 (turned-pair (canonical_slots k.nodes e.right) (find_map k.found e.right) t r.0 r.2)))

  own-identity : (k : State) (keeps : Keeps k) (p : ℕ) → p < length k.proofs → IsOwn k p → PairsAll k (found_entry k p) → (found_entry k p).pairs ≡ identity (used_slots k.found (found_entry k p).left)
  own-identity k keeps p l own all =
      equal-pairs (found_entry k p).pairs (own-pairs k keeps p own)
      ∙ ap identity (says-all k.nodes k.found keeps.sane.sound.linked (equation_at k.proofs p) (keeps.sane.sound.proved.over p l) all.left)

  -- the union by such an entry changes the new class alone
  union-keeps : (p : ℕ) {k h : State} → Unites p k h → Keeps k → p < length k.proofs → IsOwn k p → Keeps h
  union-keeps p (finds_alike {g = k} l e) keeps n own = keeps
  union-keeps p (proves {g = k} {h = h} proofs grow u) keeps n own =
      let on : GoesOn k (with_proofs k proofs) = proofs-go_on k keeps.sane proofs grow in
      let same : equation_at proofs p ≡ equation_at k.proofs p = (on.proofs p n).1 in
      union-keeps p u (proofs-keeps k keeps proofs (proofs-sane k keeps.sane proofs grow)) (on.proofs p n).0 (record {
        left = ap (λ (e : Equation). e.left) same ∙ own.left;
        right = ap (λ (e : Equation). e.right) same ∙ own.right;
        pairs = λ s t c. own.pairs s t (subst (λ (e : Equation). Contains e.pairs (s, t)) same c);
      })
  union-keeps p (drops_left {g = k} {h = h} j s w used lacks at t u) keeps n own =
      let x : ℕ = (found_entry k p).left in
      let slots : List ℕ = keys_of (found_entry k p).pairs in
      let can = can_drop-left k keeps.sane p n in
      let d : Keeps (dropped_state k x slots j w) = dropped-keeps k keeps x slots j w t (own-left k keeps p own) (drop-sane k keeps.sane x slots j can at.0 at.1 w t) (drop-lives k.nodes k.found keeps.sane.sound.linked x slots j can) in
      union-keeps p u d n (record { left = own.left; right = own.right; pairs = own.pairs })
  union-keeps p (drops_right {g = k} {h = h} j y w all used lacks at t u) keeps n own =
      let x : ℕ = (found_entry k p).right in
      let slots : List ℕ = keys_of (turned_equation k.nodes (found_entry k p)).pairs in
      let can = can_drop-right k keeps.sane p n in
      let d : Keeps (dropped_state k x slots j w) = dropped-keeps k keeps x slots j w t (own-right k keeps p own) (drop-sane k keeps.sane x slots j can at.0 at.1 w t) (drop-lives k.nodes k.found keeps.sane.sound.linked x slots j can) in
      union-keeps p u d n (record { left = own.left; right = own.right; pairs = own.pairs })
  union-keeps p (left_dies {g = k} j moment w differ all at later t) keeps n own = absurd (differ (own-left k keeps p own ∙ sym (own-right k keeps p own)))
  union-keeps p (right_dies {g = k} j moment w differ all at later t) keeps n own = absurd (differ (own-left k keeps p own ∙ sym (own-right k keeps p own)))
  union-keeps p (lists {g = k} j same all moves fresh at) keeps n own = absurd (moves (own-identity k keeps p n own all))
  union-keeps p (is_listed {g = k} y same all there is) keeps n own = keeps

  -- so does each turn
  turn-keeps : {k h : State} → Turn k h → Keeps k → Keeps h
  turn-keeps (enters {g = k} {h = h} proofs grow t) keeps = turn-keeps t (proofs-keeps k keeps proofs (proofs-sane k keeps.sane proofs grow))
  turn-keeps (narrows {g = k} {h = h} o p s waits used lacks congruence u) keeps =
      let e : o ≡ i = keeps.only o waits in
      union-keeps p u keeps congruence.stands.0 (record {
        left = ap (λ (x : Equation). x.left) congruence.stands.1 ∙ (congruence.left_class ∙ e);
        right = ap (λ (x : Equation). x.right) congruence.stands.1 ∙ (congruence.right_class ∙ e);
        pairs = congruence-equal k keeps.sane p o congruence;
      })
  turn-keeps (unites_parents {g = k} {h = h} o p r waits there differ same congruence u) keeps =
      let e : o ≡ i = keeps.only o waits in
      absurd (alone k keeps r there (λ q. differ (q ∙ sym e)) (same ∙ ap (λ x. shape (normal_node k x)) e))
  turn-keeps (refiles {g = k} o waits covered other) keeps =
      let e : o ≡ i = keeps.only o waits in
      let q : Row = row_for k o in
      let l : o < length k.nodes = subst (λ x. x < length k.nodes) (sym e) (last-in_k k keeps) in
      let node-is : normal_node k o ≡ normal g.found c = ap (normal_node k) e ∙ new-node k keeps in
      record {
        sane = refiled-sane k keeps.sane o waits covered other l;
        same_nodes = keeps.same_nodes;
        entries = keeps.entries;
        live = keeps.live;
        rows_kept = λ r h. with_row-keeps q k.rows r (keeps.rows_kept r h) (λ x. let b : r.source < i = (rest.sane.filed.each r h).in_range in let y : r.source ≡ o = x in omega arith);
        rows_from = λ r h. elim (with_row-from q k.rows r h) [
          | inl x ↦ inr (ap (λ (y : Row). y.source) x ∙ e)
          | inr x ↦ keeps.rows_from r x.0
        ];
        below = λ r h d t. elim (with_row-from q k.rows r h) [
          | inl x ↦
              let t1 : Contains (child_classes q.shape.args) d = subst (λ (y : Row). Contains (child_classes y.shape.args) d) x t in
              let N : DTerm = normal_node k o in
              let t2 : Contains (child_classes N.args) d = subst (λ cs. Contains cs d) (child_classes-moved (number_in (free_names N.args)) N.args) t1 in
              let t3 : Contains (child_classes (normal g.found c).args) d = subst (λ (y : DTerm). Contains (child_classes y.args) d) node-is t2 in
              children-below (λ a. IsValidIn g a × (find g.found a ≡ a)) i (λ a v. v.0.in_range) (normal g.found c).args (normal-found g rest.sane.sound.linked c.args (c-valid k keeps)) d t3
          | inr x ↦ keeps.below r x.0 d t
        ];
        only = λ x h. keeps.only x (without-from o x k.waiting h).0;
        symmetries = keeps.symmetries;
      }

  -- and no symmetry can be acted on
  act-keeps : {k h : State} → Acts k h → Keeps k → Keeps h
  act-keeps (acts {g = k} {h = h} y there n u) keeps =
      let l = rest.sane.each_listed y (keeps.symmetries y there) in
      absurd (n (ap id_names (same-found k keeps (left_of y) (left-valid g y l)) ∙ (rest.aligned y (keeps.symmetries y there) ∙ ap id_names (sym (same-found k keeps (right_of y) (right-valid g y l))))))

  -- the new class has the node c in its normal form
  m-same : normal_node m i ≡ normal g.found c
  m-same =
      ap (normal m.found) (term_at-seam g.nodes c)
      ∙ ap (node c.op c.payloads) (normal_args-agree (IsValidIn g) g.found m.found (finds-same g rest.sane c new) c.args (EachChild-map (IsFull g.nodes) (IsValidIn g) (λ a full. full-is_valid g.nodes g.found rest.sane.sound.linked a full) c.args new.children))

  -- so no row has its shape
  pub not_looked_up-unfiled : (r : Row) → Contains g.rows r → r.shape ≢ shape (normal_node m i)
  not_looked_up-unfiled r there same =
      let t = row_of-there (shape (normal g.found c)) g.rows r there (same ∙ ap shape m-same) in
      None-Some _ (sym none ∙ ap (option_map (λ (q : Row). find g.found (source_with_names (normal g.found c) q))) t.1)

  module _ (unfiled : (r : Row) → Contains g.rows r → r.shape ≢ shape (normal_node m i)) where
    abbrev f : State
    f = with_new_row m i

    starts-keeping : Keeps f
    starts-keeping =
        let l : length g.found ≡ length g.nodes = rest.sane.sound.linked.entries in
        record {
          sane = (filed-ready g rest.sane c new rest.represents unfiled).0;
          same_nodes = refl;
          entries = λ o h. get_or_append_left g.found (_ ∷ []) (record { class = 0; pairs = []; proof = 0; died = 0 }) o (omega (arith, h, l));
          live = last-lives l;
          rows_kept = λ r h. contains_tail (row_for m i) g.rows r h;
          rows_from = λ r h. elim (contains_cases (row_for m i) g.rows r h) [
            | inl e ↦ inr (ap (λ (x : Row). x.source) e)
            | inr k ↦ inl k
          ];
          below = λ r h d t. elim (contains_cases (row_for m i) g.rows r h) [
            | inl x ↦
                let N : DTerm = normal_node m i in
                let t1 : Contains (child_classes (row_for m i).shape.args) d = subst (λ (y : Row). Contains (child_classes y.shape.args) d) x t in
                let t2 : Contains (child_classes N.args) d = subst (λ cs. Contains cs d) (child_classes-moved (number_in (free_names N.args)) N.args) t1 in
                let t3 : Contains (child_classes (normal g.found c).args) d = subst (λ (y : DTerm). Contains (child_classes y.args) d) m-same t2 in
                children-below (λ a. IsValidIn g a × (find g.found a ≡ a)) i (λ a v. v.0.in_range) (normal g.found c).args
                (normal-found g rest.sane.sound.linked c.args (EachChild-map (IsFull g.nodes) (IsValidIn g) (λ a full. full-is_valid g.nodes g.found rest.sane.sound.linked a full) c.args new.children)) d t3
            | inr k ↦ children-below (IsValidIn g) i (λ a v. v.in_range) r.shape.args (rest.sane.filed.each r k).children d t
          ];
          only = λ o h. elim (contains_cases i g.waiting o h) [
            | inl e ↦ e
            | inr k ↦ absurd (Contains-nil o (subst (λ w. Contains w o) rest.nothing_waits k))
          ];
          symmetries = λ y h. h;
        }
      where
        last-lives : length g.found ≡ i → IsLive f.found i
        last-lives l =
            let x : Entry = record { class = length g.found; pairs = identity (canonical_slots m.nodes (length g.found)); proof = length g.proofs; died = 0 } in
            ap (λ j. (entry_at f.found j).class) (sym l) ∙ (ap (λ (e : Entry). e.class) (get_or-append_seam g.found x [] (record { class = 0; pairs = []; proof = 0; died = 0 })) ∙ l)

    run-keeps : {n : ℕ} {h : State} → Runs f n h → Keeps h
    run-keeps starts = starts-keeping
    run-keeps (takes_turn r t) = turn-keeps t (run-keeps r)
    run-keeps (takes_act r t) = act-keeps t (run-keeps r)

  -- a class is made without a union, and keeps what the others find
  adds-keeps : {h : State} → Adds g c h → Keeps h
  adds-keeps (joins_row proofs p r grow there same congruence u runs left) = absurd (not_looked_up-unfiled r there same)
  adds-keeps (files_row alone runs left) = run-keeps alone runs

  -- so nodes that were looked up are looked up as before
  module _ (h : State) (made : Adds g c h) where
    pub kept-found : (a : Applied) → IsValidIn g a → find h.found a ≡ find g.found a
    kept-found = same-found h (adds-keeps made)

    pub kept-look_up : (d : DTerm) → EachChild (IsValidIn g) d.args → (a : Applied) → look_up_node g d ≡ Some a → look_up_node h d ≡ Some a
    kept-look_up d v a e =
        let keeps : Keeps h = adds-keeps made in
        let N : DTerm = normal g.found d in
        let k : (r : Row) × (row_of (shape N) g.rows ≡ Some r) × (find g.found (source_with_names N r) ≡ a) = option_map-some (λ (r : Row). find g.found (source_with_names N r)) (row_of (shape N) g.rows) a e in
        let s : Contains g.rows k.0 × (k.0.shape ≡ shape N) = row_of-some (shape N) g.rows k.0 k.1 in
        let t = row_of-there (shape N) h.rows k.0 (keeps.rows_kept k.0 s.0) s.1 in
        let u = row_of-some (shape N) h.rows t.0 t.1 in
        let there : Contains h.rows k.0 = keeps.rows_kept k.0 s.0 in
        let same : t.0 ≡ k.0 = one_row h.rows keeps.sane.filed.once t.0 k.0 u.0 there (keeps.sane.filed.shapes t.0 k.0 u.0 there (u.1 ∙ sym s.1)) in
        let src : k.0.source < i = (rest.sane.filed.each k.0 s.0).in_range in
        let r = same-find h keeps k.0.source src in
        let goes_on : find h.found (source_with_names N k.0) ≡ find g.found (source_with_names N k.0) = λ j. (r.0 j, composite (r.1 j) (source_with_names N k.0).1) in
        ap (λ x. option_map (λ (q : Row). find h.found (source_with_names x q)) (row_of (shape x) h.rows)) (same-normal h keeps d v)
        ∙ (ap (option_map (λ (q : Row). find h.found (source_with_names N q))) (t.1 ∙ ap Some same)
        ∙ ap Some (goes_on ∙ k.2))

    -- and the new class lives
    pub kept-last : (i < length h.nodes) × (find_class h.found i ≡ i)
    kept-last = (last-in_k h (adds-keeps made), found-last h (adds-keeps made) i refl)

-- The two events with what then waits: they keep a graph sane, and lower its size.
use Rattle.std.proofs.Common.{◌≡◌, ◌≢◌, ℕ, zero, suc, ◌+◌, ◌<◌, List, [], ◌∷◌, length, set, sym, ◌∙◌, ap, refl, subst, inl, inr, arith}
use Rattle.std.specs.Prelude.{Contains, cond}
use Rattle.std.proofs.lemmas.Bool.{eq-eqb, ne_eqb}
use Rattle.std.proofs.lemmas.List.{length-map}
use Rattle.std.proofs.lemmas.List.Elements.{Contains-append_left, Contains-append_right}
use Rattle.slotted_lists.proofs.Contained.{contains_head, contains_tail}
use Rattle.slotted_theory.specs.Nameless.{DArgs, DTerm, stop, place, sub, scope}
use Rattle.slotted_theory.specs.FiniteMaps.{filled}
use Rattle.slotted_theory.proofs.Values.{node, child_before}
use Rattle.slotted_model.specs.Ascending.{names}
use Rattle.slotted_model.specs.Applied.{Applied, as_term, applied_of, EachChild}
use Rattle.slotted_model.specs.Classes.{canonical_node, canonical_slots, IsFull}
use Rattle.slotted_model.specs.Correspondence.{AllDifferent, composite, identity}
use Rattle.slotted_model.specs.Find.{Entry, entry_at, IsLive, find_class, find_map, used_slots, find, Linked}
use Rattle.slotted_model.specs.ProofList.{Equation, equation_at}
use Rattle.slotted_model.specs.Normal.{normal_args}
use Rattle.slotted_model.specs.Link.{CanLink, IsLater, with_link, CanDrop, with_slots, Refines}
use Rattle.slotted_model.specs.Sound.{Sound}
use Rattle.slotted_model.specs.State.{Row, State, sources, filed_node, normal_node, child_classes, HasTouched}
use Rattle.slotted_model.specs.Rest.{IsValidIn, IsRow, IsCurrent, Sane, entry_size, size_from, size}
use Rattle.slotted_model.specs.Changes.{GoesOn, linked_state, dropped_state}
use Rattle.slotted_model.proofs.Represented.Children.{EachChild-map}
use Rattle.slotted_model.proofs.Finds.Congruence.{child-applied}
use Rattle.slotted_model.proofs.Finds.Finding.{leads, find_class-live, find_map-live, slots-ascending}
use Rattle.slotted_model.proofs.Finds.NormalIds.{keys-identity, found-class_live, found-valid, found-again, full-is_valid, used-live}
use Rattle.slotted_model.proofs.Data.Ordered.{in_order-once}
use Rattle.slotted_model.proofs.Finds.Replacing.{CanReplace, at-other, live-stays, new_leads}
use Rattle.slotted_model.proofs.Finds.Linking.{link-replaces, link-refines}
use Rattle.slotted_model.proofs.Finds.Linking as linking
use Rattle.slotted_model.proofs.Finds.Dropping.{drop-replaces, drop-refines}
use Rattle.slotted_model.proofs.Finds.Dropping as dropping
use Rattle.slotted_model.proofs.Finds.Keeping.{link-sound, drop-sound}
use Rattle.slotted_model.proofs.Rebuilding.Rows.{source-in}
use Rattle.slotted_model.proofs.Rebuilding.Touching.{child_classes-moved, different-fewer}
use Rattle.slotted_model.proofs.Rebuilding.GoingOn.{still-row, still-used, still-listed}

-- an id in normal form, of another class than c
abbrev IsFoundIn : State → Applied → Type 0
IsFoundIn g a = IsValidIn g a × (find g.found a ≡ a)

-- the children of a normal form are in normal form
pub normal-found : (g : State) → Linked g.nodes g.found → (d : DArgs) → EachChild (IsValidIn g) d → EachChild (IsFoundIn g) (normal_args g.found d)
normal-found g l stop c = tt
normal-found g l (place x rest) c = normal-found g l rest c
normal-found g l (sub op payloads args rest) c =
    let a : Applied = applied_of payloads args in
    let v : IsValidIn g a = subst (IsValidIn g) (sym (child-applied (IsValidIn g) op payloads args c.0)) c.0.2 in
    ((find g.found a, refl, (found-valid g.nodes g.found l a v, found-again g.nodes g.found l a v)), normal-found g l rest c.1)
normal-found g l (scope inner rest) c = (normal-found g l inner c.0, normal-found g l rest c.1)

-- where a find leaves all ids in normal form of other classes than c, it leaves the nodes over them
module _ (g : State) (c : ℕ) (found : List Entry) (leaves : (a : Applied) → IsValidIn g a → find g.found a ≡ a → a.0 ≢ c → find found a ≡ a) where
  normal-left : (d : DArgs) → EachChild (IsFoundIn g) d → ¬ Contains (child_classes d) c → normal_args found d ≡ d
  normal-left stop e n = refl
  normal-left (place x rest) e n = ap (place x) (normal-left rest e n)
  normal-left (sub op payloads args rest) e n =
      let a : Applied = e.0.0 in
      let same : applied_of payloads args ≡ a = child-applied (IsFoundIn g) op payloads args e.0 in
      let other : a.0 ≢ c = λ p. n (subst (Contains (child_classes (sub op payloads args rest))) (ap (λ (x : Applied). x.0) same ∙ p) (contains_head (applied_of payloads args).0 (child_classes rest))) in
      let t : as_term (find found (applied_of payloads args)) ≡ node op payloads args =
      ap (λ x. as_term (find found x)) same ∙ (ap as_term (leaves a e.0.2.0 e.0.2.1 other) ∙ sym e.0.1) in
      λ i. child_before (t i) (normal-left rest e.1 (λ k. n (contains_tail (applied_of payloads args).0 (child_classes rest) c k)) i)
  normal-left (scope inner rest) e n =
      λ i. scope (normal-left inner e.0 (λ k. n (Contains-append_left (child_classes inner) (child_classes rest) c k)) i)
      (normal-left rest e.1 (λ k. n (Contains-append_right (child_classes inner) (child_classes rest) c k)) i)

-- a change of finds that leaves all classes but one, over which rows then wait
module _ (g : State) (sane : Sane g) (c : ℕ) (found : List Entry) (sound : Sound g.nodes found g.proofs) (refines : Refines g.nodes g.found found)
    (leaves : (a : Applied) → IsValidIn g a → find g.found a ≡ a → a.0 ≢ c → find found a ≡ a) (w : List ℕ) (t : HasTouched g c w) where
  abbrev newer : State
  newer = record g { found = found; waiting = w }

  pub changed-goes_on : GoesOn g newer
  changed-goes_on = record { classes = λ i h. (h, refl); finds = refines; proofs = λ p h. (h, refl); symmetries = λ y h. h }

  row-stays : (r : Row) → Contains g.rows r → IsCurrent g r → ¬ Contains (child_classes r.shape.args) c → filed_node r ≡ normal_node newer r.source
  row-stays r h cur n =
      let row : IsRow g r = sane.filed.each r h in
      let d : DTerm = canonical_node g.nodes r.source in
      let valid : EachChild (IsValidIn g) d.args = EachChild-map (λ a. (a.0 < r.source) × IsFull g.nodes a) (IsValidIn g) (λ a k. full-is_valid g.nodes g.found sane.sound.linked a k.1) d.args (sane.sound.canonical.children r.source row.in_range) in
      let kept : EachChild (IsFoundIn g) (filed_node r).args = subst (λ (t : DTerm). EachChild (IsFoundIn g) t.args) (sym cur.in_normal_form) (normal-found g sane.sound.linked d.args valid) in
      let none : ¬ Contains (child_classes (filed_node r).args) c = λ k. n (subst (λ cs. Contains cs c) (child_classes-moved (filled r.slots) r.shape.args) k) in
      sym (ap (node (filed_node r).op (filed_node r).payloads) (normal-left g c found leaves (filed_node r).args kept none))
      ∙ (still-row g newer sane.sound changed-goes_on r row).normal_form

  changed-current : (r : Row) → Contains g.rows r → ¬ Contains newer.waiting r.source → IsCurrent newer r
  changed-current r h n =
      let cur : IsCurrent g r = sane.filed.current r h (λ k. n (t.kept r.source k)) in
      let stays : filed_node r ≡ normal_node newer r.source = row-stays r h cur (λ k. n (t.over r h k)) in
      record {
        in_normal_form = stays;
        covered = λ s u. subst (λ t. Contains (names t) s) (sym cur.in_normal_form ∙ stays) (cur.covered s (still-used g newer sane.sound changed-goes_on r.source s (sane.filed.each r h).in_range u));
      }

  pub changed-sane : Sane newer
  changed-sane = record {
    sound = sound;
    filed = record {
      each = λ r h. still-row g newer sane.sound changed-goes_on r (sane.filed.each r h);
      once = sane.filed.once;
      shapes = sane.filed.shapes;
      waits_once = t.once;
      waits_for_row = λ o k. elim (t.from o k) [
        | inl h ↦ sane.filed.waits_for_row o h
        | inr h ↦ subst (Contains (sources g.rows)) h.3 (source-in g.rows h.0 h.1)
      ];
      current = changed-current;
    };
    each_listed = λ y h. still-listed g newer sane.sound changed-goes_on y (sane.each_listed y h);
    listed_once = sane.listed_once;
  }

-- the find of another live class does not see a new entry
replaced-leaves : (g : State) (linked : Linked g.nodes g.found) (c : ℕ) (x : Entry) → CanReplace g.nodes g.found c x →
    (a : Applied) → IsValidIn g a → find g.found a ≡ a → a.0 ≢ c → find (set g.found c x) a ≡ a
replaced-leaves g linked c x can a v e n =
    let found : List Entry = set g.found c x in
    let i : ℕ = a.0 in
    let live : IsLive g.found i = subst (IsLive g.found) (ap (λ (b : Applied). b.0) e) (found-class_live g.nodes g.found linked a v) in
    let live' : IsLive found i = live-stays g.nodes g.found linked c x can i n live in
    let new = new_leads g.nodes g.found linked c x can in
    let old = leads g.nodes g.found linked in
    let class : find_class found i ≡ find_class g.found i = find_class-live g.nodes found new i v.in_range live' ∙ sym (find_class-live g.nodes g.found old i v.in_range live) in
    let map : find_map found i ≡ find_map g.found i =
    find_map-live g.nodes found new i v.in_range live' ∙ (ap (λ (y : Entry). y.pairs) (at-other g.nodes g.found linked c x can i n) ∙ sym (find_map-live g.nodes g.found old i v.in_range live)) in
    (λ k. (class k, composite (map k) a.1)) ∙ e

-- the size with another entry
pub entry_size-live : (i : ℕ) (e : Entry) → e.class ≡ i → entry_size i e ≡ suc (length e.pairs)
entry_size-live i e p = ap (λ b. cond b (suc (length e.pairs)) 0) (eq-eqb e.class i p)

pub entry_size-dead : (i : ℕ) (e : Entry) → e.class ≢ i → entry_size i e ≡ 0
entry_size-dead i e n = ap (λ b. cond b (suc (length e.pairs)) 0) (ne_eqb e.class i n)

pub size-set : (i k j : ℕ) (found : List Entry) (x : Entry) → k < length found → j ≡ i + k → size_from i (set found k x) + entry_size j (entry_at found k) ≡ size_from i found + entry_size j x
size-set i k j [] x h e = absurd (omega arith)
size-set i zero j (y ∷ found) x h e =
    let same : j ≡ i = omega arith in
    let a : entry_size i y ≡ entry_size j y = ap (λ n. entry_size n y) (sym same) in
    let b : entry_size i x ≡ entry_size j x = ap (λ n. entry_size n x) (sym same) in
    omega arith
size-set i (suc k) j (y ∷ found) x h e =
    let r : size_from (suc i) (set found k x) + entry_size j (entry_at found k) ≡ size_from (suc i) found + entry_size j x = size-set (suc i) k j found x (omega arith) (omega arith) in
    omega arith

module _ (g : State) (sane : Sane g) where
  abbrev linked : Linked g.nodes g.found
  linked = sane.sound.linked

  -- the entry of a live class has as many pairs as the class has slots
  live-pairs : (i : ℕ) → i < length g.nodes → IsLive g.found i → length (used_slots g.found i) ≡ length (entry_at g.found i).pairs
  live-pairs i h live = ap length (used-live g.nodes g.found linked i h live) ∙ length-map (entry_at g.found i).pairs (λ (p : ℕ × ℕ). p.0)

  pub size-live : (i : ℕ) → i < length g.nodes → IsLive g.found i → entry_size i (entry_at g.found i) ≡ suc (length (used_slots g.found i))
  size-live i h live = entry_size-live i (entry_at g.found i) live ∙ ap suc (sym (live-pairs i h live))

  pub size-dead : (i : ℕ) → i < length g.nodes → ¬ IsLive g.found i → entry_size i (entry_at g.found i) ≡ 0
  size-dead i h dead = entry_size-dead i (entry_at g.found i) dead

  module _ (e : Equation) (proof moment : ℕ) (can : CanLink g.nodes g.found e) (later : IsLater g.found moment) (h : proof < length g.proofs) (says : equation_at g.proofs proof ≡ e) (w : List ℕ) (t : HasTouched g e.left w) where
    abbrev linked_found : List Entry
    linked_found = with_link g.nodes g.found e proof moment

    pub link-leaves : (a : Applied) → IsValidIn g a → find g.found a ≡ a → a.0 ≢ e.left → find linked_found a ≡ a
    link-leaves = replaced-leaves g linked e.left (linking.new_entry g.nodes g.found linked e proof moment can later) (link-replaces g.nodes g.found linked e proof moment can later)

    link-still_sound : Sound g.nodes linked_found g.proofs
    link-still_sound = link-sound g.nodes g.found g.proofs e proof moment sane.sound can later h says

    pub link-goes_on : GoesOn g (linked_state g e proof moment w)
    link-goes_on = changed-goes_on g sane e.left linked_found link-still_sound (link-refines g.nodes g.found linked e proof moment can later) link-leaves w t

    pub link-sane : Sane (linked_state g e proof moment w)
    link-sane = changed-sane g sane e.left linked_found link-still_sound (link-refines g.nodes g.found linked e proof moment can later) link-leaves w t

    pub link-size : size (linked_state g e proof moment w) < size g
    link-size =
        let new : Entry = linking.new_entry g.nodes g.found linked e proof moment can later in
        let l : length g.found ≡ length g.nodes = linked.entries in
        let k : e.left < length g.nodes = can.over.left in
        let r : size_from 0 linked_found + entry_size e.left (entry_at g.found e.left) ≡ size_from 0 g.found + entry_size e.left new = size-set 0 e.left e.left g.found new (omega arith) (omega arith) in
        let a : entry_size e.left (entry_at g.found e.left) ≡ suc (length (entry_at g.found e.left).pairs) = entry_size-live e.left (entry_at g.found e.left) can.left_lives in
        let b : entry_size e.left new ≡ 0 = entry_size-dead e.left new (λ p. can.different (sym p)) in
        omega arith

  module _ (c : ℕ) (slots : List ℕ) (proof : ℕ) (can : CanDrop g.nodes g.found c slots) (h : proof < length g.proofs) (says : equation_at g.proofs proof ≡ record { left = c; right = c; pairs = identity slots }) (w : List ℕ) (t : HasTouched g c w) where
    abbrev dropped_found : List Entry
    dropped_found = with_slots g.found c slots proof

    drop-leaves : (a : Applied) → IsValidIn g a → find g.found a ≡ a → a.0 ≢ c → find dropped_found a ≡ a
    drop-leaves = replaced-leaves g linked c (dropping.new_entry g.nodes g.found linked c slots proof can) (drop-replaces g.nodes g.found linked c slots proof can)

    drop-still_sound : Sound g.nodes dropped_found g.proofs
    drop-still_sound = drop-sound g.nodes g.found g.proofs c slots proof sane.sound can h says

    pub drop-goes_on : GoesOn g (dropped_state g c slots proof w)
    drop-goes_on = changed-goes_on g sane c dropped_found drop-still_sound (drop-refines g.nodes g.found linked c slots proof can) drop-leaves w t

    pub drop-sane : Sane (dropped_state g c slots proof w)
    drop-sane = changed-sane g sane c dropped_found drop-still_sound (drop-refines g.nodes g.found linked c slots proof can) drop-leaves w t

    -- fewer slots than the class had
    pub drop-size : (s : ℕ) → Contains (used_slots g.found c) s → ¬ Contains slots s → size (dropped_state g c slots proof w) < size g
    drop-size s u n =
        let old : Entry = entry_at g.found c in
        let new : Entry = dropping.new_entry g.nodes g.found linked c slots proof can in
        let l : length g.found ≡ length g.nodes = linked.entries in
        let k : c < length g.nodes = can.in_range in
        let r : size_from 0 dropped_found + entry_size c old ≡ size_from 0 g.found + entry_size c new = size-set 0 c c g.found new (omega arith) (omega arith) in
        let a : entry_size c old ≡ suc (length old.pairs) = entry_size-live c old can.lives in
        let b : entry_size c new ≡ suc (length (identity slots)) = entry_size-live c new refl in
        let once = subst AllDifferent (keys-identity slots) (in_order-once (canonical_slots g.nodes c) (identity slots) (slots-ascending g.nodes c) can.in_order) in
        let f : length slots < length (used_slots g.found c) = different-fewer slots (used_slots g.found c) once can.fewer s u n in
        let i : length (used_slots g.found c) ≡ length old.pairs = live-pairs c can.in_range can.lives in
        let j : length (identity slots) ≡ length slots = length-map slots (λ (t : ℕ). (t, t)) in
        omega arith

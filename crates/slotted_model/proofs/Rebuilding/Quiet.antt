-- Changes that no answer shows: entries of finds that lead on to the same classes, and proofs that assert nothing.
use Rattle.std.proofs.Common.{◌≡◌, ℕ, ◌<◌, List, Option, Some, None, length, sym, ◌∙◌, ap, refl, subst, arith}
use Rattle.std.specs.Prelude.{Contains, option_map}
use Rattle.std.specs.Map.{values_of}
use Rattle.slotted_theory.specs.Nameless.{DTerm}
use Rattle.slotted_theory.specs.Shape.{shape}
use Rattle.slotted_theory.proofs.Values.{node}
use Rattle.slotted_model.specs.Ascending.{ascending, names}
use Rattle.slotted_model.specs.Applied.{Applied, EachChild}
use Rattle.slotted_model.specs.Classes.{canonical_node, IsFull}
use Rattle.slotted_model.specs.Correspondence.{composite}
use Rattle.slotted_model.specs.Find.{Entry, entry_at, IsLive, find_class, find_map, used_slots, find}
use Rattle.slotted_model.specs.Link.{with_shortcut}
use Rattle.slotted_model.specs.Normal.{normal}
use Rattle.slotted_model.specs.ProofList.{ProofEntry, equation_at, find_equation}
use Rattle.slotted_model.specs.Sound.{Sound}
use Rattle.slotted_model.specs.State.{Row, State, normal_node, row_of, source_with_names, look_up_normal, left_of, right_of, Symmetry}
use Rattle.slotted_model.specs.Rest.{IsValidIn, id_names, IsAligned, IsCurrent, Sane, AtRest, size, entry_size}
use Rattle.slotted_model.specs.Changes.{GoesOn, ProofsGrow, with_proofs}
use Rattle.slotted_model.specs.Adding.{SameAnswers}
use Rattle.slotted_model.proofs.Represented.Children.{EachChild-map}
use Rattle.slotted_model.proofs.Finds.Finding.{leads, found-live, found-in_range}
use Rattle.slotted_model.proofs.Finds.NormalIds.{found-again, full-is_valid}
use Rattle.slotted_model.proofs.Rebuilding.GoingOn.{goes_on-same, goes_on-then, still-row, still-listed, still-represents}
use Rattle.slotted_model.proofs.Rebuilding.GrowingLists.{proofs-go_on, proofs-sane, grow-explicit}
use Rattle.slotted_model.proofs.Rebuilding.Rows.{row_of-some}
use Rattle.slotted_model.proofs.Rebuilding.Events.{size-set, size-dead, entry_size-dead}
use Rattle.slotted_model.proofs.Finds.Shortcuts.{shortcut-same, shortcut-sound}
use Rattle.slotted_model.proofs.Rebuilding.Adding.{normal_args-agree}

-- nothing changes
pub same-none : (g : State) → AtRest g → SameAnswers g g
same-none g rest = record { rest = rest; goes_on = goes_on-same g rest.sane.sound.linked; finds = λ a v. refl; look_ups = λ d v. refl; same_size = refl }

-- one change after another
pub same-then : (g h i : State) → AtRest g → SameAnswers g h → SameAnswers h i → SameAnswers g i
same-then g h i rest s t = record {
  rest = t.rest;
  goes_on = goes_on-then g h i rest.sane.sound.linked s.goes_on t.goes_on;
  finds = λ a v. t.finds a (s.goes_on.finds a v).0 ∙ s.finds a v;
  look_ups = λ d v. t.look_ups d (EachChild-map (IsValidIn g) (IsValidIn h) (λ a w. (s.goes_on.finds a w).0) d.args v) ∙ s.look_ups d v;
  same_size = t.same_size ∙ s.same_size;
}

-- proofs that assert nothing
pub proofs-quiet : (g : State) → AtRest g → (proofs : List ProofEntry) → ProofsGrow g.nodes g.proofs proofs → SameAnswers g (with_proofs g proofs)
proofs-quiet g rest proofs grow = record {
  rest = record {
    sane = proofs-sane g rest.sane proofs grow;
    represents = still-represents g (with_proofs g proofs) rest.sane (proofs-go_on g rest.sane proofs grow) refl (λ o c. c) (grow-explicit g.nodes g.proofs proofs grow) rest.represents;
    nothing_waits = rest.nothing_waits;
    aligned = rest.aligned;
  };
  goes_on = proofs-go_on g rest.sane proofs grow;
  finds = λ a v. refl;
  look_ups = λ d v. refl;
  same_size = refl;
}

-- other entries by which each class finds what it found
module _ (g : State) (sane : Sane g) (found : List Entry) (sound : Sound g.nodes found g.proofs)
    (same : (i : ℕ) → i < length g.nodes → (find_class found i ≡ find_class g.found i) × (find_map found i ≡ find_map g.found i)) where
  abbrev newer : State
  newer = record g { found = found }

  same-found : (a : Applied) → a.0 < length g.nodes → find found a ≡ find g.found a
  same-found a h = let r = same a.0 h in λ i. (r.0 i, composite (r.1 i) a.1)

  same-used : (i : ℕ) → i < length g.nodes → used_slots found i ≡ used_slots g.found i
  same-used i h = ap (λ (m : List (ℕ × ℕ)). ascending (values_of m)) (same i h).1

  pub still-valid : (a : Applied) → IsValidIn g a → IsValidIn newer a
  still-valid a v = record {
    in_range = v.in_range;
    ascending = v.ascending;
    injective = v.injective;
    has_slots = λ s c. v.has_slots s (subst (λ S. Contains S s) (same-used a.0 v.in_range) c);
    within = v.within;
  }

  pub refound-on : GoesOn g newer
  refound-on = record {
    classes = λ i h. (h, refl);
    finds = λ a v. (
      still-valid a v,
      same-found a v.in_range
          ∙ (sym (found-again g.nodes g.found sane.sound.linked a v)
          ∙ sym (same-found (find g.found a) (found-in_range g.nodes g.found (leads g.nodes g.found sane.sound.linked) a.0 v.in_range))),
    );
    proofs = λ p h. (h, refl);
    symmetries = λ y c. c;
  }

  same-normal : (d : DTerm) → EachChild (IsValidIn g) d.args → normal found d ≡ normal g.found d
  same-normal d v = ap (node d.op d.payloads) (normal_args-agree (IsValidIn g) g.found found (λ a w. same-found a w.in_range) d.args v)

  same-node : (o : ℕ) → o < length g.nodes → normal_node newer o ≡ normal_node g o
  same-node o h =
      same-normal (canonical_node g.nodes o)
      (EachChild-map (λ a. (a.0 < o) × IsFull g.nodes a) (IsValidIn g) (λ a k. full-is_valid g.nodes g.found sane.sound.linked a k.1) (canonical_node g.nodes o).args (sane.sound.canonical.children o h))

  pub refound-sane : Sane newer
  refound-sane = record {
    sound = sound;
    filed = record {
      each = λ r c. still-row g newer sane.sound refound-on r (sane.filed.each r c);
      once = sane.filed.once;
      shapes = sane.filed.shapes;
      waits_once = sane.filed.waits_once;
      waits_for_row = sane.filed.waits_for_row;
      current = λ r c n.
          let cur : IsCurrent g r = sane.filed.current r c n in
          let h : r.source < length g.nodes = (sane.filed.each r c).in_range in
          record {
            in_normal_form = cur.in_normal_form ∙ sym (same-node r.source h);
            covered = λ s u. subst (λ t. Contains (names t) s) (sym (same-node r.source h)) (cur.covered s (subst (λ S. Contains S s) (same-used r.source h) u));
          };
    };
    each_listed = λ y c. still-listed g newer sane.sound refound-on y (sane.each_listed y c);
    listed_once = sane.listed_once;
  }

  -- what was aligned is so still
  pub refound-aligned : (y : Symmetry) → y.class < length g.nodes → IsAligned g y → IsAligned newer y
  refound-aligned y h aligned = ap id_names (same-found (left_of y) h) ∙ (aligned ∙ ap id_names (sym (same-found (right_of y) h)))

  refound-rests : AtRest g → AtRest newer
  refound-rests rest = record {
    sane = refound-sane;
    represents = still-represents g newer sane refound-on refl (λ o c. c) (λ p h e. (h, e)) rest.represents;
    nothing_waits = rest.nothing_waits;
    aligned = λ y c. refound-aligned y (sane.each_listed y c).in_range (rest.aligned y c);
  }

  -- a row found for a node is of a class of the graph
  same-answer : (d : DTerm) (o : Option Row) → row_of (shape d) g.rows ≡ o → option_map (λ (r : Row). find found (source_with_names d r)) o ≡ option_map (λ (r : Row). find g.found (source_with_names d r)) o
  same-answer d None e = refl
  same-answer d (Some r) e = ap Some (same-found (source_with_names d r) (sane.filed.each r (row_of-some (shape d) g.rows r e).0).in_range)

  pub refound-quiet : AtRest g → size newer ≡ size g → SameAnswers g newer
  refound-quiet rest s = record {
    rest = refound-rests rest;
    goes_on = refound-on;
    finds = λ a v. same-found a v.in_range;
    look_ups = λ d v. ap (look_up_normal newer) (same-normal d v) ∙ same-answer (normal g.found d) (row_of (shape (normal g.found d)) g.rows) refl;
    same_size = s;
  }

-- the entry of a dead class leads at once to what is found
pub shortcut-quiet : (g : State) → AtRest g → (i proof : ℕ) → i < length g.nodes → ¬ IsLive g.found i → proof < length g.proofs → equation_at g.proofs proof ≡ find_equation g.nodes g.found i →
    SameAnswers g (record g { found = with_shortcut g.found i proof })
shortcut-quiet g rest i proof h dead k e =
    let sane : Sane g = rest.sane in
    let new : Entry = record { class = find_class g.found i; pairs = find_map g.found i; proof = proof; died = (entry_at g.found i).died } in
    let l : length g.found ≡ length g.nodes = sane.sound.linked.entries in
    let still_dead : entry_size i new ≡ 0 = entry_size-dead i new (λ p. dead (subst (IsLive g.found) p (found-live g.nodes g.found (leads g.nodes g.found sane.sound.linked) i h))) in
    let was_dead : entry_size i (entry_at g.found i) ≡ 0 = size-dead g sane i h dead in
    let r = size-set 0 i i g.found new (omega (arith, l, h)) (omega arith) in
    refound-quiet g sane (with_shortcut g.found i proof) (shortcut-sound g.nodes g.found g.proofs i proof sane.sound h dead k e)
    (λ j m. shortcut-same g.nodes g.found sane.sound.linked i proof h dead j m)
    rest (omega (arith, still_dead, was_dead, r))

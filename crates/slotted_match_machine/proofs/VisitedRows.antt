-- A row that the machine enters is a node of the matcher's: its numbers have the names of the slots that were found, and else new ones.
use Rattle.std.proofs.Common.{◌≡◌, ◌≢◌, ℕ, zero, suc, ◌+◌, ◌<◌, ◌≤◌, List, length, map, sym, ◌∙◌, ap, refl, subst, inl, inr, arith}
use Rattle.std.specs.Prelude.{◌⊎◌, Contains, slice_index}
use Rattle.std.proofs.lemmas.List.Elements.{Contains-get_or}
use Rattle.slotted_lists.proofs.Members.{In, In-map, In-of_map, In-Contains, Contains-In}
use Rattle.slotted_theory.specs.Nameless.{moved_args}
use Rattle.slotted_theory.specs.FiniteMaps.{filled}
use Rattle.slotted_theory.specs.Renaming.{IsInjective}
use Rattle.slotted_theory.specs.Shape.{free_names}
use Rattle.slotted_theory.proofs.Filled.{filled-injective}
use Rattle.slotted_theory.proofs.FreeNames.{free_names-moved}
use Rattle.slotted_theory.proofs.Laws.{moved_args-moved_args}
use Rattle.slotted_model.specs.Applied.{Applied, values}
use Rattle.slotted_model.specs.Classes.{canonical_slots}
use Rattle.slotted_model.specs.Correspondence.{AllDifferent, IsPartialInjection}
use Rattle.slotted_model.specs.Extraction.{row_class}
use Rattle.slotted_model.specs.Find.{find_class, find_map, used_slots, find}
use Rattle.slotted_model.specs.State.{Row, State}
use Rattle.slotted_model.specs.Rest.{IsRow, AtRest}
use Rattle.slotted_model.proofs.Correspondences.Pairs.{Contains-value}
use Rattle.slotted_model.proofs.Correspondences.PartialInjections.{one_partner}
use Rattle.slotted_model.proofs.Finds.Finding.{leads, find_map-partial}
use Rattle.slotted_model_rules.specs.Matcher.{NodeArgs, unnamed, written_names, bound_names, IsNodeOf}
use Rattle.slotted_model_rules.specs.Goals.{outlines_agree, has_outline}
use Rattle.slotted_model_rules.proofs.Matching.FlatWalks.{outline-unnamed, outline-moved}
use Rattle.slotted_model_rules.proofs.Matching.NamedRows.{named-node}
use Rattle.slotted_match_machine.specs.declared.index.IndexRow.{IndexRow}
use Rattle.slotted_match_machine.specs.Index.{IsPositionOf, IsIndexRow}
use Rattle.slotted_match_machine.specs.Machine.{Occurrence, names_for, new_names}
use Rattle.slotted_match_machine.proofs.NamedNodes.{node_with, written-with, bound-with, unnamed-with, bound-or-free, free-written, bound-written, different-with}
use Rattle.slotted_match_machine.proofs.RowNames.{different-places, name-found, name-new, new-differ}
use Rattle.slotted_match_machine.proofs.Occurrences.{IsOccurrenceOf, names-count, names-differ, name-of_slot}

-- what the machine has when it enters the row r of the class of the occurrence o, whose id is a: f names the numbers, those that
-- stand for what was seen are below count
pub record Visit (g : State) (f : ℕ → ℕ) (r : Row) (row : IndexRow) (a : Applied) (o : Occurrence) (count : ℕ) (seen : List ℕ) : Type 0 where
  pub rest : AtRest g
  pub injective : IsInjective f
  pub filed : Contains g.rows r
  pub is_row : IsIndexRow g r row
  pub occurrence : IsOccurrenceOf g f a o
  pub class : row_class g r ≡ o.class
  pub below : (z : ℕ) → In z o.names → z < count
  pub seen_below : (z : ℕ) → In z seen → (i : ℕ) × (i < count) × (z ≡ f i)

-- the number z of the row is that of a slot of the class
record StandsForSlot (g : State) (r : Row) (row : IndexRow) (number : ℕ → ℕ) (z : ℕ) : Type 0 where
  place : ℕ
  at : slice_index row.slots.items z ≡ suc place
  inside : place < length (used_slots g.found (row_class g r))
  of : ℕ
  free : In of (free_names r.shape.args)
  is : z ≡ number of
  pair : Contains (find_map g.found r.source) (slice_index (used_slots g.found (row_class g r)) place, filled r.slots of)

module _ (g : State) (f : ℕ → ℕ) (r : Row) (row : IndexRow) (a : Applied) (o : Occurrence) (count : ℕ) (seen : List ℕ) (v : Visit g f r row a o count seen) where
  abbrev pub names : List ℕ
  names = names_for o.names row.slots.items count

  abbrev pub name : ℕ → ℕ
  name z = f (slice_index names z)

  -- the node with these names
  abbrev pub node : NodeArgs
  node = node_with name v.is_row.node

  abbrev W : List ℕ
  W = written_names v.is_row.node

  abbrev B : List ℕ
  B = bound_names v.is_row.node

  abbrev N : List ℕ
  N = free_names r.shape.args

  abbrev S : List ℕ
  S = used_slots g.found (row_class g r)

  abbrev number : ℕ → ℕ
  number = v.is_row.number

  abbrev is_filed : IsRow g r
  is_filed = v.rest.sane.filed.each r v.filed

  abbrev partial : IsPartialInjection (canonical_slots g.nodes (find_class g.found r.source)) (canonical_slots g.nodes r.source) (find_map g.found r.source)
  partial = find_map-partial g.nodes g.found (leads g.nodes g.found v.rest.sane.sound.linked) r.source is_filed.in_range

  slots-count : length S ≡ length o.names
  slots-count = ap (λ c. length (used_slots g.found c)) v.class ∙ sym (names-count g v.rest f a o v.occurrence)

  in-range : (z : ℕ) → In z W → z < length row.slots.items
  in-range z i = v.is_row.in_range z (Contains-In W z i)

  free-of_node : free_names (unnamed (λ y. y) v.is_row.node) ≡ map number N
  free-of_node = ap free_names v.is_row.form ∙ free_names-moved number r.shape.args

  number-written : (i : ℕ) → In i N → In (number i) W
  number-written i j =
      let k : (z : ℕ) × In z W × (number i ≡ z) = free-written (λ y. y) v.is_row.node (number i) (subst (In (number i)) (sym free-of_node) (In-map number N i j)) in
      subst (λ z. In z W) (sym k.2) k.1

  -- what a free number stands for
  free-kind : (i : ℕ) → In i N → (slice_index row.slots.items (number i) ≡ 0) ⊎ StandsForSlot g r row number (number i)
  free-kind i j = go (slice_index row.slots.items (number i)) refl (v.is_row.positions i (Contains-In N i j))
    where
      go : (k : ℕ) → slice_index row.slots.items (number i) ≡ k → IsPositionOf S (find_map g.found r.source) (filled r.slots i) k → (slice_index row.slots.items (number i) ≡ 0) ⊎ StandsForSlot g r row number (number i)
      go zero e p = inl e
      go (suc q) e p = inr (record { place = q; at = e; inside = p.0; of = i; free = j; is = refl; pair = p.1 })

  kind : (z : ℕ) → In z W → (slice_index row.slots.items z ≡ 0) ⊎ StandsForSlot g r row number z
  kind z i = elim (bound-or-free (λ y. y) v.is_row.node z i) [
    | inl b ↦ inl (v.is_row.binders_have_none z (Contains-In B z b))
    | inr k ↦
        let m : (j : ℕ) × In j N × (z ≡ number j) = In-of_map number N z (subst (In z) free-of_node k) in
        subst (λ y. (slice_index row.slots.items y ≡ 0) ⊎ StandsForSlot g r row number y) (sym m.2) (free-kind m.0 m.1)
  ]

  -- the name of a number that stands for a slot, and that of another one
  slot-name : (z : ℕ) → In z W → (s : StandsForSlot g r row number z) → (slice_index names z ≡ slice_index o.names s.place) × (slice_index names z < count)
  slot-name z i s =
      let e : slice_index names z ≡ slice_index o.names s.place = name-found o.names row.slots.items count z s.place (in-range z i) s.at in
      let l : s.place < length o.names = subst (λ n. s.place < n) slots-count s.inside in
      let b : slice_index o.names s.place < count = v.below (slice_index o.names s.place) (In-Contains o.names (slice_index o.names s.place) (Contains-get_or o.names s.place 0 l)) in
      (e, subst (λ x. x < count) (sym e) b)

  new-name : (z : ℕ) → In z W → slice_index row.slots.items z ≡ 0 → (count ≤ slice_index names z) × (slice_index names z < count + new_names row.slots.items)
  new-name z i e = name-new o.names row.slots.items count z (in-range z i) e

  -- different numbers have different names
  names-apart : (x y : ℕ) → In x W → In y W → slice_index names x ≡ slice_index names y → x ≡ y
  names-apart x y i j e = go (kind x i) (kind y j)
    where
      go : (slice_index row.slots.items x ≡ 0) ⊎ StandsForSlot g r row number x → (slice_index row.slots.items y ≡ 0) ⊎ StandsForSlot g r row number y → x ≡ y
      go (inl p) (inl q) = new-differ o.names row.slots.items count x y (in-range x i) p (in-range y j) q e
      go (inl p) (inr t) = let l : count ≤ slice_index names x = (new-name x i p).0 in let u : slice_index names y < count = (slot-name y j t).1 in absurd (omega arith)
      go (inr s) (inl q) = let l : count ≤ slice_index names y = (new-name y j q).0 in let u : slice_index names x < count = (slot-name x i s).1 in absurd (omega arith)
      go (inr s) (inr t) =
          let k : slice_index o.names s.place ≡ slice_index o.names t.place = sym (slot-name x i s).0 ∙ (e ∙ (slot-name y j t).0) in
          let l : s.place < length o.names = subst (λ n. s.place < n) slots-count s.inside in
          let m : t.place < length o.names = subst (λ n. t.place < n) slots-count t.inside in
          let place : s.place ≡ t.place = different-places o.names (names-differ g v.rest f a o v.occurrence) s.place t.place 0 l m k in
          let pair : Contains (find_map g.found r.source) (slice_index S s.place, filled r.slots t.of) = subst (λ p. Contains (find_map g.found r.source) (slice_index S p, filled r.slots t.of)) (sym place) t.pair in
          let slot : filled r.slots s.of ≡ filled r.slots t.of = one_partner (canonical_slots g.nodes (find_class g.found r.source)) (find_map g.found r.source) partial.in_order (slice_index S s.place) (filled r.slots s.of) (filled r.slots t.of) s.pair pair in
          s.is ∙ (ap number (filled-injective r.slots is_filed.injective s.of t.of slot) ∙ sym t.is)

  name-apart : (x y : ℕ) → In x W → In y W → name x ≡ name y → x ≡ y
  name-apart x y i j e = names-apart x y i j (v.injective (slice_index names x) (slice_index names y) e)

  -- the node is the row's shape, number by number
  pub node-form : unnamed (λ y. y) node ≡ moved_args (λ i. name (number i)) r.shape.args
  node-form =
      unnamed-with name (λ y. y) name (λ y. y) v.is_row.node name-apart (λ y j. refl)
      ∙ (ap (moved_args name) v.is_row.form ∙ moved_args-moved_args name number r.shape.args)

  pub node-outline : (args : _) → outlines_agree args node ≡ has_outline args r.shape.args
  node-outline args = sym (outline-unnamed (λ y. y) args node) ∙ (ap (has_outline args) node-form ∙ outline-moved (λ i. name (number i)) args r.shape.args)

  -- what was seen has no new name
  not-seen : (z : ℕ) → count ≤ z → ¬ Contains seen (f z)
  not-seen z l c =
      let k : (i : ℕ) × (i < count) × (f z ≡ f i) = v.seen_below (f z) (In-Contains seen (f z) c) in
      let e : z ≡ k.0 = v.injective z k.0 k.2 in
      let u : k.0 < count = k.1 in
      omega arith

  keeps-found : (i s : ℕ) → Contains N i → Contains (find_map g.found r.source) (s, filled r.slots i) → Contains (find g.found a).1 (s, name (number i))
  keeps-found i s c p = go (slice_index row.slots.items (number i)) refl (v.is_row.positions i c)
    where
      go : (k : ℕ) → slice_index row.slots.items (number i) ≡ k → IsPositionOf S (find_map g.found r.source) (filled r.slots i) k → Contains (find g.found a).1 (s, name (number i))
      go zero e none = absurd (none s p)
      go (suc q) e at =
          let slot : slice_index S q ≡ s = partial.injective (slice_index S q) s (filled r.slots i) at.1 p in
          let here : slice_index names (number i) ≡ slice_index o.names q = name-found o.names row.slots.items count (number i) q (in-range (number i) (number-written i (In-Contains N i c))) e in
          let l : q < length (used_slots g.found o.class) = subst (λ c. q < length (used_slots g.found c)) v.class at.0 in
          let there : Contains a.1 (slice_index (used_slots g.found o.class) q, f (slice_index o.names q)) = name-of_slot g v.rest f a o v.occurrence q l in
          let same : slice_index (used_slots g.found o.class) q ≡ s = ap (λ c. slice_index (used_slots g.found c) q) (sym v.class) ∙ slot in
          subst (λ (b : Applied). Contains b.1 (s, name (number i))) (sym v.occurrence.found) (subst (Contains a.1) (λ j. (same j, f (sym here j))) there)

  found-or-new : (i : ℕ) → Contains N i → Contains (values (find g.found a).1) (name (number i)) ⊎ (¬ Contains seen (name (number i)))
  found-or-new i c = elim (free-kind i (In-Contains N i c)) [
    | inl e ↦ inr (not-seen (slice_index names (number i)) (new-name (number i) (number-written i (In-Contains N i c)) e).0)
    | inr s ↦ inl (Contains-value (find g.found a).1 (slice_index S s.place) (name (number i)) (keeps-found i (slice_index S s.place) c (subst (λ j. Contains (find_map g.found r.source) (slice_index S s.place, filled r.slots j)) (sym (same s)) s.pair)))
  ]
    where
      same : (s : StandsForSlot g r row number (number i)) → i ≡ s.of
      same s = v.is_row.injective i s.of c (Contains-In N s.of s.free) s.is

  bound-new : (z : ℕ) → Contains (bound_names node) z → (¬ Contains seen z) × ((i : ℕ) → Contains N i → name (number i) ≢ z)
  bound-new z c =
      let m : (w : ℕ) × In w B × (z ≡ name w) = In-of_map name B z (subst (In z) (bound-with name v.is_row.node) (In-Contains (bound_names node) z c)) in
      let w : In m.0 W = bound-written v.is_row.node m.0 m.1 in
      let none : slice_index row.slots.items m.0 ≡ 0 = v.is_row.binders_have_none m.0 (Contains-In B m.0 m.1) in (
        λ s. not-seen (slice_index names m.0) (new-name m.0 w none).0 (subst (Contains seen) m.2 s),
        λ i d e. v.is_row.binders_apart m.0 (Contains-In B m.0 m.1) i d (name-apart (number i) m.0 (number-written i (In-Contains N i d)) w (e ∙ m.2)),
      )

  -- so it is one of the matcher's
  pub node-visited : IsNodeOf g seen r a node
  node-visited =
      named-node g v.rest r v.filed a v.occurrence.valid (v.class ∙ (sym v.occurrence.class ∙ sym (ap (λ (b : Applied). b.0) v.occurrence.found)))
      (λ i. name (number i))
      (λ i j c d e. v.is_row.injective i j c d (name-apart (number i) (number j) (number-written i (In-Contains N i c)) (number-written j (In-Contains N j d)) e))
      keeps-found seen node node-form
      (subst AllDifferent (sym (bound-with name v.is_row.node)) (different-with name B (λ x y i j e. name-apart x y (bound-written v.is_row.node x i) (bound-written v.is_row.node y j) e) v.is_row.binders_differ))
      bound-new found-or-new

  -- and what is seen then has names of numbers below the new count
  pub name-below : (z : ℕ) → In z W → slice_index names z < count + new_names row.slots.items
  name-below z i = elim (kind z i) [
    | inl e ↦ (new-name z i e).1
    | inr s ↦ let l : slice_index names z < count = (slot-name z i s).1 in omega arith
  ]

  pub written-below : (z : ℕ) → In z (written_names node) → (i : ℕ) × (i < count + new_names row.slots.items) × (z ≡ f i)
  written-below z i =
      let m : (w : ℕ) × In w W × (z ≡ name w) = In-of_map name W z (subst (In z) (written-with name v.is_row.node) i) in
      (slice_index names m.0, name-below m.0 m.1, m.2)

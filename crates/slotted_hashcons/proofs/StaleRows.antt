-- A filed node whose key is the shape of a class's node in normal form is in normal form itself, also where its source waits.
use Rattle.std.proofs.Common.{◌≡◌, ℕ, ◌<◌, List, [], ◌∷◌, length, map, sym, ◌∙◌, ap, refl, subst, inl, inr, arith}
use Rattle.std.specs.Prelude.{Contains}
use Rattle.std.specs.List.{zip}
use Rattle.std.proofs.lemmas.List.{length-map}
use Rattle.slotted_lists.proofs.Members.{In, In-map, In-of_map, In-Contains, Contains-In}
use Rattle.slotted_theory.specs.Nameless.{DTerm, moved}
use Rattle.slotted_theory.specs.FiniteMaps.{filled, HasValue, IsInjectiveMap}
use Rattle.slotted_theory.specs.Shape.{free_names, number_in}
use Rattle.slotted_theory.specs.Shape as theory
use Rattle.slotted_theory.proofs.Bijections.{to-injective}
use Rattle.slotted_theory.proofs.Filled.{filled-injective}
use Rattle.slotted_theory.proofs.Shapes.{shape-moved, shape_iff}
use Rattle.slotted_nodes.specs.Form.{Form}
use Rattle.slotted_languages.specs.NodeTerm.{nameless_node, free_names_of}
use Rattle.slotted_languages.specs.Shape.{Fits, firsts, shape}
use Rattle.slotted_languages.proofs.Shapes.{keys-shape}
use Rattle.slotted_model.specs.Applied.{EachChild, keys, values, map_on}
use Rattle.slotted_model.specs.Ascending.{IsAscending, names}
use Rattle.slotted_model.specs.Classes.{canonical_node}
use Rattle.slotted_model.specs.Normal.{normal}
use Rattle.slotted_model.specs.State.{Row, State, filed_node, normal_node, name_numbered}
use Rattle.slotted_model.specs.Filling.{IsValid}
use Rattle.slotted_model.specs.Find.{used_slots}
use Rattle.slotted_model.specs.Rest.{IsRow, IsValidIn, Sane}
use Rattle.slotted_model.proofs.Represented.Children.{EachChild-moved}
use Rattle.slotted_model.proofs.Rebuilding.Congruences.{row-normal}
use Rattle.slotted_model.proofs.Data.Maps.{map_on-filled, filled-pair, pair-filled, values-map_on}
use Rattle.slotted_model.proofs.Represented.RenamedIds.{valid-renamed}
use Rattle.slotted_model.proofs.Data.Sets.{IsAscending-ascending, In-ascending, In-of_ascending}
use Rattle.slotted_model.proofs.Data.Theory.{moved-agrees, moved-moved, free_names-moved}
use Rattle.slotted_proofs.proofs.Bridges.{ascends}
use Rattle.slotted_classes.specs.Kept.{Kept, nodes_of, entries_of}
use Rattle.slotted_classes.proofs.NamePairs.{In-firsts}
use Rattle.slotted_hashcons.specs.FoundNodes.{FilesNode, finds_of, IsFoundNode}
use Rattle.slotted_hashcons.specs.NormalNodes.{HasFindableChildren}
use Rattle.slotted_hashcons.specs.FiledRows.{row_of_entry}
use Rattle.slotted_hashcons.proofs.KeyedNodes.{own-numbers}
use Rattle.slotted_hashcons.proofs.NumbersInShapes.{names-shape}
use Rattle.slotted_model.proofs.Rebuilding.CurrentRows.{row-itself}

-- a map with other numbers for its keys

abbrev with_keys : (ℕ → ℕ) → List (ℕ × ℕ) → List (ℕ × ℕ)
with_keys N m = map (λ p. (N p.0, p.1)) m

zip-with_keys : (N : ℕ → ℕ) (m : List (ℕ × ℕ)) → zip (map N (keys m)) (values m) ≡ with_keys N m
zip-with_keys N [] = refl
zip-with_keys N (p ∷ m) = ap (λ r. (N p.0, p.1) ∷ r) (zip-with_keys N m)

keys-with_keys : (N : ℕ → ℕ) (m : List (ℕ × ℕ)) → keys (with_keys N m) ≡ map N (keys m)
keys-with_keys N [] = refl
keys-with_keys N (p ∷ m) = ap (λ r. N p.0 ∷ r) (keys-with_keys N m)

value-stays : (N : ℕ → ℕ) (m : List (ℕ × ℕ)) (v : ℕ) → HasValue m v → HasValue (with_keys N m) v
value-stays N [] v h = h
value-stays N (p ∷ m) v (inl e) = inl e
value-stays N (p ∷ m) v (inr h) = inr (value-stays N m v h)

values-apart : (N : ℕ → ℕ) (m : List (ℕ × ℕ)) → IsInjectiveMap (with_keys N m) → IsInjectiveMap m
values-apart N [] i = tt
values-apart N (p ∷ m) i = (λ h. i.0 (value-stays N m p.1 h), values-apart N m i.1)

-- what a row of the code files, where its key is a shape and its map has a slot for each number of it
module _ (f : Form) (fits : Fits f) (own : (shape f).0 ≡ f) (j : ℕ) (n : List (ℕ × ℕ)) (numbers : keys n ≡ keys (shape f).1) where
  abbrev d : DTerm
  d = nameless_node f

  abbrev xs : List ℕ
  xs = free_names_of f

  abbrev N : ℕ → ℕ
  N = number_in xs

  abbrev r : Row
  r = row_of_entry (f, (j, n))

  firsts-keys : keys n ≡ firsts xs
  firsts-keys = numbers ∙ own-numbers f fits own

  rises : IsAscending (keys n)
  rises = subst IsAscending (sym numbers) (ascends (keys (shape f).1) (keys-shape f))

  entry-slots : r.slots ≡ with_keys N n
  entry-slots = ap (λ ns. zip ns (values n)) (names-shape d ∙ ap (map N) (sym firsts-keys)) ∙ zip-with_keys N n

  numbers-rise : IsAscending (keys (with_keys N n))
  numbers-rise =
      let e : names (theory.shape d) ≡ keys (with_keys N n) = names-shape d ∙ (ap (map N) (sym firsts-keys) ∙ sym (keys-with_keys N n)) in
      subst IsAscending e (IsAscending-ascending (free_names (theory.shape d).args))

  same-slot : (x : ℕ) → In x xs → filled (with_keys N n) (N x) ≡ filled n x
  same-slot x h =
      let k : In x (keys n) = subst (In x) (sym firsts-keys) ((In-firsts x xs).1 h) in
      let p : In (N x, filled n x) (with_keys N n) = In-map (λ (q : ℕ × ℕ). (N q.0, q.1)) n (x, filled n x) (pair-filled n x rises k) in
      filled-pair (with_keys N n) (N x) (filled n x) numbers-rise p

  pub entry-files : filed_node r ≡ moved (filled n) d
  entry-files =
      ap (λ m. moved (filled m) (theory.shape d)) entry-slots
      ∙ (moved-moved (filled (with_keys N n)) N d ∙ moved-agrees (λ x. filled (with_keys N n) (N x)) (filled n) d same-slot)

  slots-are : values n ≡ map (filled n) (firsts xs)
  slots-are = ap values (sym (map_on-filled n rises)) ∙ (values-map_on (filled n) (keys n) ∙ ap (map (filled n)) firsts-keys)

  -- what it files has the normal form of the node of its source, whether its source waits or not
  pub files-node : (k : Kept) (g : State) → g.nodes ≡ nodes_of k → g.found ≡ entries_of k → IsRow g r → FilesNode k j f n
  files-node k g nodes found row = record {
    itself = own;
    numbers = numbers;
    different = values-apart N n (subst IsInjectiveMap entry-slots row.injective);
    normal_form = (λ i. normal (sym found i) (sym entry-files i)) ∙ (row.normal_form ∙ (λ i. normal (found i) (canonical_node (nodes i) j)));
  }

  -- over ids that find
  pub children-find : (k : Kept) (g : State) → g.nodes ≡ nodes_of k → g.found ≡ entries_of k → IsRow g r → HasFindableChildren k f
  children-find k g nodes found row =
      let π = (shape_iff r.shape d).0 row.is_shape in
      let here : EachChild (IsValidIn g) d.args =
      subst (λ (t : DTerm). EachChild (IsValidIn g) t.args) π.1 (EachChild-moved (IsValidIn g) (valid-renamed (used_slots g.found) g.nodes) π.0.to (to-injective π.0) r.shape.args row.children) in
      subst (λ ns. EachChild (IsValid (used_slots (entries_of k)) ns) d.args) nodes (subst (λ es. EachChild (IsValid (used_slots es) g.nodes) d.args) found here)

  -- so it is the shape of the node of its source in normal form, if that is what it files
  pub filed-found : (k : Kept) (g : State) → g.nodes ≡ nodes_of k → g.found ≡ entries_of k → IsRow g r → filed_node r ≡ normal_node g j → IsFoundNode k j f n
  filed-found k g nodes found row files =
      let D : DTerm = normal_node (finds_of k) j in
      let same : normal_node g j ≡ D = λ i. normal (found i) (canonical_node (nodes i) j) in
      let back : moved (filled n) d ≡ D = sym entry-files ∙ (files ∙ same) in
      let all : free_names D.args ≡ map (filled n) xs = ap (λ (t : DTerm). free_names t.args) (sym back) ∙ free_names-moved (filled n) d.args in
      record {
        row = row-itself g r row files ∙ (λ i. record { shape = theory.shape (same i); source = j; slots = map_on (name_numbered (same i)) (names (theory.shape (same i))) });
        itself = own;
        numbers = numbers;
        back = back;
        slots = λ s. (
          λ c.
              let h : (x : ℕ) × In x (firsts xs) × (s ≡ filled n x) = In-of_map (filled n) (firsts xs) s (subst (In s) slots-are (In-Contains (values n) s c)) in
              let y : In s (map (filled n) xs) = subst (λ z. In z (map (filled n) xs)) (sym h.2) (In-map (filled n) xs h.0 ((In-firsts h.0 xs).0 h.1)) in
              Contains-In (names D) s (In-ascending s (free_names D.args) (subst (In s) (sym all) y)),
          λ c.
              let h : (x : ℕ) × In x xs × (s ≡ filled n x) = In-of_map (filled n) xs s (subst (In s) all (In-of_ascending s (free_names D.args) (In-Contains (names D) s c))) in
              let y : In s (map (filled n) (firsts xs)) = subst (λ z. In z (map (filled n) (firsts xs))) (sym h.2) (In-map (filled n) (firsts xs) h.0 ((In-firsts h.0 xs).1 h.1)) in
              Contains-In (values n) s (subst (In s) (sym slots-are) y),
        );
        different = values-apart N n (subst IsInjectiveMap entry-slots row.injective);
      }

-- a row that does not wait
pub current-found : (k : Kept) (g : State) → Sane g → g.nodes ≡ nodes_of k → g.found ≡ entries_of k → (j : ℕ) (f : Form) (n : List (ℕ × ℕ)) → Fits f → (shape f).0 ≡ f →
    Contains g.rows (row_of_entry (f, (j, n))) → ¬ Contains g.waiting j → keys n ≡ keys (shape f).1 → IsFoundNode k j f n
current-found k g sane nodes found j f n fits own c w numbers =
    filed-found f fits own j n numbers k g nodes found (sane.filed.each (row_of_entry (f, (j, n))) c) (sane.filed.current (row_of_entry (f, (j, n))) c w).in_normal_form

-- a row with the key by which another class is filed, whether it waits or not
pub stale-found : (k : Kept) (g : State) → Sane g → g.nodes ≡ nodes_of k → g.found ≡ entries_of k → (i j : ℕ) (f : Form) (m n : List (ℕ × ℕ)) → i < length k.classes → Fits f →
    IsFoundNode k i f m → Contains g.rows (row_of_entry (f, (j, n))) → keys n ≡ keys (shape f).1 → IsFoundNode k j f n
stale-found k g sane nodes found i j f m n l fits of_i c numbers =
    let r : Row = row_of_entry (f, (j, n)) in
    let h : i < length g.nodes = omega (arith, ap length nodes, length-map k.classes (λ e. nameless_node e.0)) in
    let N : DTerm = normal_node (finds_of k) i in
    let same : N ≡ normal_node g i = λ t. normal (sym found t) (canonical_node (sym nodes t) i) in
    let s : theory.shape (nameless_node f) ≡ theory.shape (normal_node g i) =
    sym (shape-moved (filled m) (filled-injective m of_i.different) (nameless_node f)) ∙ ap theory.shape (of_i.back ∙ same) in
    filed-found f fits of_i.itself j n numbers k g nodes found (sane.filed.each r c) (row-normal g sane i h r c s)

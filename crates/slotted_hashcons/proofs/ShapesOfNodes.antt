-- The shape of the normal form of a class is the row by which the class is filed.
use Rattle.std.proofs.Common.{◌≡◌, ℕ, List, ap, ◌∙◌, sym, subst}
use Rattle.std.specs.List.{zip}
use Rattle.slotted_lists.proofs.Members.{In, In-Contains, Contains-In}
use Rattle.slotted_lists.proofs.Maps.{keys-with_values}
use Rattle.slotted_theory.specs.Nameless.{DTerm, moved}
use Rattle.slotted_theory.specs.FiniteMaps.{filled, IsInjectiveMap}
use Rattle.slotted_theory.specs.Shape.{free_names}
use Rattle.slotted_theory.specs.Shape as theory
use Rattle.slotted_theory.proofs.Filled.{filled-injective}
use Rattle.slotted_theory.proofs.Shapes.{shape-moved}
use Rattle.slotted_nodes.specs.Form.{Form}
use Rattle.slotted_languages.specs.NodeTerm.{nameless_node}
use Rattle.slotted_languages.specs.Shape.{Fits, firsts, shape}
use Rattle.slotted_languages.proofs.Shapes.{injective-shape, shape-same, shape_back, values_of_shape}
use Rattle.slotted_model.specs.Applied.{keys, values, map_on}
use Rattle.slotted_model.specs.Ascending.{names}
use Rattle.slotted_model.specs.State.{Row, name_numbered, normal_node}
use Rattle.slotted_model.proofs.Data.Sets.{In-ascending, In-of_ascending}
use Rattle.slotted_classes.specs.Kept.{Kept}
use Rattle.slotted_classes.proofs.NamePairs.{In-firsts}
use Rattle.slotted_hashcons.specs.FoundNodes.{finds_of, IsFoundNode}
use Rattle.slotted_hashcons.specs.FiledRows.{row_of_entry}
use Rattle.slotted_hashcons.proofs.NumbersInShapes.{names-beside}

-- the row of a shape f with the map m, where put back they give the node d
row-is : (d : DTerm) (i : ℕ) (f : Form) (m : List (ℕ × ℕ)) → IsInjectiveMap m → moved (filled m) (nameless_node f) ≡ d → values m ≡ firsts (free_names d.args) →
    (◌≡◌ {A = Row} (row_of_entry (f, (i, m))) (record { shape = theory.shape d; source = i; slots = map_on (name_numbered d) (names (theory.shape d)) }))
row-is d i f m inj back vs =
    let s : theory.shape (nameless_node f) ≡ theory.shape d = sym (shape-moved (filled m) (filled-injective m inj) (nameless_node f)) ∙ ap theory.shape back in
    let p : zip (names (theory.shape (nameless_node f))) (values m) ≡ map_on (name_numbered d) (names (theory.shape d)) =
    (λ j. zip (names (s j)) (vs j)) ∙ names-beside d in
    λ j. record { shape = s j; source = i; slots = p j }

-- the shape of a node is the shape of itself, with the same numbers
pub shape-again : (c f : Form) (m : List (ℕ × ℕ)) → Fits c → ◌≡◌ {A = Form × List (ℕ × ℕ)} (f, m) (shape c) → ((shape f).0 ≡ f) × (keys m ≡ keys (shape f).1)
shape-again c f m fits e =
    let inj : IsInjectiveMap m = subst (λ (p : Form × List (ℕ × ℕ)). IsInjectiveMap p.1) (sym e) (injective-shape c) in
    let p = shape-same (filled m) (filled-injective m inj) f c (shape_back c f m fits e) in (
      p.0 ∙ sym (ap (λ (q : Form × List (ℕ × ℕ)). q.0) e),
      ap (λ (q : Form × List (ℕ × ℕ)). keys q.1) e ∙ (ap keys p.1 ∙ keys-with_values (filled m) (shape f).1),
    )

-- a shape and a map that give the normal form of a class's node, with a slot for each number
pub found-from : (k : Kept) (i : ℕ) (f : Form) (m : List (ℕ × ℕ)) → IsInjectiveMap m → (shape f).0 ≡ f → keys m ≡ keys (shape f).1 → moved (filled m) (nameless_node f) ≡ normal_node (finds_of k) i →
    values m ≡ firsts (free_names (normal_node (finds_of k) i).args) → IsFoundNode k i f m
found-from k i f m inj itself numbers back vs =
    let d : DTerm = normal_node (finds_of k) i in
    let xs : List ℕ = free_names d.args in
    record {
      row = row-is d i f m inj back vs;
      itself = itself;
      numbers = numbers;
      back = back;
      slots = λ s. (
        λ h. Contains-In (names d) s (In-ascending s xs ((In-firsts s xs).0 (subst (In s) vs (In-Contains (values m) s h)))),
        λ h. Contains-In (values m) s (subst (In s) (sym vs) ((In-firsts s xs).1 (In-of_ascending s xs (In-Contains (names d) s h)))),
      );
      different = inj;
    }

-- what the shape of the normal form of a class's node is
pub found_node : (k : Kept) (i : ℕ) (c f : Form) (m : List (ℕ × ℕ)) → Fits c → nameless_node c ≡ normal_node (finds_of k) i → ◌≡◌ {A = Form × List (ℕ × ℕ)} (f, m) (shape c) → IsFoundNode k i f m
found_node k i c f m fits is e =
    let inj : IsInjectiveMap m = subst (λ (p : Form × List (ℕ × ℕ)). IsInjectiveMap p.1) (sym e) (injective-shape c) in
    let again = shape-again c f m fits e in
    found-from k i f m inj again.0 again.1 (shape_back c f m fits e ∙ is) (values_of_shape c f m e ∙ ap (λ (t : DTerm). firsts (free_names t.args)) is)

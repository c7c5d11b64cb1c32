-- A look-up among the rows is the look-up of the image.
use Rattle.std.proofs.Common.{◌≡◌, ◌↔◌, ◌<◌, ℕ, zero, suc, ◌+◌, List, [], ◌∷◌, Option, Some, None, Bool, true, false, cond, length, map, get_or, sym, ◌∙◌, ap, refl, subst, arith, inl, inr}
use Rattle.std.specs.Prelude.{option_map, IsTrue}
use Rattle.std.proofs.lemmas.Bool.{cases_Bool, false≢true}
use Rattle.std.proofs.lemmas.Bool.Decides.{same_from_decides}
use Rattle.slotted_lists.proofs.Maps.{length-with_values}
use Rattle.slotted_lists.proofs.Options.{Some-same}
use Rattle.slotted_theory.specs.Nameless.{DTerm, stop}
use Rattle.slotted_theory.specs.Shape.{free_names, SameUpToNames}
use Rattle.slotted_theory.specs.Shape as theory
use Rattle.slotted_theory.proofs.Values.{child_before}
use Rattle.slotted_theory.proofs.Shapes.{shape_iff}
use Rattle.slotted_theory.proofs.Bijections.{to-injective}
use Rattle.slotted_theory.proofs.Decides.{args_eq_iff}
use Rattle.slotted_nodes.specs.Form.{Form}
use Rattle.slotted_languages.specs.NodeTerm.{nameless_node}
use Rattle.slotted_languages.specs.Shape.{shape, Fits}
use Rattle.slotted_languages.proofs.Shapes.{shapes_iff, shape-same}
use Rattle.slotted_model.specs.Applied.{Applied, map_on}
use Rattle.slotted_model.specs.Classes.{term_at, canonical_node}
use Rattle.slotted_model.specs.Ascending.{names}
use Rattle.slotted_model.specs.Ids.{term_eq, first_shaped, name_for, class_with_names, id_of_node}
use Rattle.slotted_model.proofs.Data.Options.{None-Some, option_map-some}
use Rattle.slotted_model.proofs.Data.Sets.{In-of_ascending}
use Rattle.slotted_model.proofs.Data.Maps.{map_on-agrees}
use Rattle.slotted_model.proofs.Represented.Ids.{name_for-moved}
use Rattle.slotted_classes.specs.FormCode.{form_is, form_Decides}
use Rattle.slotted_classes.specs.Names.{between}
use Rattle.slotted_classes.specs.Kept.{Kept, ClassEntry, no_form, no_entry, found, rows_from, nodes_of}
use Rattle.slotted_operations.specs.Good.{Good}
use Rattle.slotted_classes.proofs.NamePairs.{between-moved}

child_same : (d e : DTerm) → child_before d stop ≡ child_before e stop → d ≡ e
child_same d e p =
    let o : d.op ≡ e.op = cc in
    let q : d.payloads ≡ e.payloads = cc in
    let a : d.args ≡ e.args = cc in
    λ i. record { op = o i; payloads = q i; args = a i }

term_eq_iff : (d e : DTerm) → IsTrue (term_eq d e) ↔ (d ≡ e)
term_eq_iff d e =
    let i = args_eq_iff (child_before d stop) (child_before e stop) in
    (λ t. child_same d e (i.0 t), λ p. i.1 (ap (λ (x : DTerm). child_before x stop) p))

-- two nodes have one shape exactly if their nameless forms have
same_shapes : (f c : Form) → Fits f → Fits c → ((shape f).0 ≡ (shape c).0) ↔ (theory.shape (nameless_node c) ≡ theory.shape (nameless_node f))
same_shapes f c hf hc =
    let s = shapes_iff c f hc hf in
    let t = shape_iff (nameless_node c) (nameless_node f) in
    (λ e. t.1 (s.0 (sym e)), λ e. sym (s.1 (t.0 e)))

same_test : (f c : Form) → Fits f → Fits c → form_is (shape f).0 (shape c).0 ≡ term_eq (theory.shape (nameless_node c)) (theory.shape (nameless_node f))
same_test f c hf hc =
    let s = same_shapes f c hf hc in
    let t = term_eq_iff (theory.shape (nameless_node c)) (theory.shape (nameless_node f)) in
    same_from_decides (form_is (shape f).0 (shape c).0) (term_eq (theory.shape (nameless_node c)) (theory.shape (nameless_node f)))
    (form_Decides (shape f).0 (shape c).0) (λ b. s.1 (t.0 b), λ e. t.1 (s.0 e))

abbrev pub node_in : List ClassEntry → ℕ → Form
node_in cs i = (get_or cs i (no_form, no_entry)).0

abbrev pub nameless_nodes : List ClassEntry → List DTerm
nameless_nodes cs = map (λ c. nameless_node c.0) cs

-- the row of a class, where the number of the first is i
abbrev row_at : ℕ → List ClassEntry → ℕ → ℕ × List (ℕ × ℕ)
row_at i cs j = (i + j, (shape (node_in cs j)).1)

later_row : (i : ℕ) (c : ClassEntry) (cs : List ClassEntry) (o : Option ℕ) → option_map (row_at (suc i) cs) o ≡ option_map (row_at i (c ∷ cs)) (option_map suc o)
later_row i c cs None = refl
later_row i c cs (Some j) = let e : suc i + j ≡ i + suc j = omega arith in ap (λ n. Some (n, (shape (node_in cs j)).1)) e

one_row : (b : Bool) (i : ℕ) (c : ClassEntry) (cs : List ClassEntry) (o : Option ℕ) (r : Option (ℕ × List (ℕ × ℕ))) → r ≡ option_map (row_at (suc i) cs) o → cond b (Some (i, (shape c.0).1)) r ≡ option_map (row_at i (c ∷ cs)) (cond b (Some 0) (option_map suc o))
one_row true i c cs o r e = let z : i ≡ i + 0 = omega arith in ap (λ n. Some (n, (shape c.0).1)) z
one_row false i c cs o r e = e ∙ later_row i c cs o

-- the row of a shape is that of the first class whose node has the shape
pub found-first : (f : Form) → Fits f → (i : ℕ) (cs : List ClassEntry) → ((j : ℕ) → j < length cs → Fits (node_in cs j)) → found (rows_from i cs) (shape f).0 ≡ option_map (row_at i cs) (first_shaped (theory.shape (nameless_node f)) (nameless_nodes cs))
found-first f hf i [] h = refl
found-first f hf i (c ∷ cs) h =
    let o = first_shaped (theory.shape (nameless_node f)) (nameless_nodes cs) in
    ap (λ b. cond b (Some (i, (shape c.0).1)) (found (rows_from (suc i) cs) (shape f).0)) (same_test f c.0 hf (h 0 (omega arith)))
    ∙ one_row (term_eq (theory.shape (nameless_node c.0)) (theory.shape (nameless_node f))) i c cs o (found (rows_from (suc i) cs) (shape f).0)
    (found-first f hf (suc i) cs (λ j l. h (suc j) (omega arith)))

-- between nodes of one shape the map takes each name to the one that stands in its place
pub between-names : (c f : Form) → Fits c → Fits f → (shape f).0 ≡ (shape c).0 → between (shape c).1 (shape f).1 ≡ map_on (name_for (nameless_node c) (nameless_node f)) (names (nameless_node c))
between-names c f hc hf e =
    let π : SameUpToNames (nameless_node c) (nameless_node f) = (shapes_iff c f hc hf).0 (sym e) in
    between-moved π.0.to c (shape f).1 (shape-same π.0.to (to-injective π.0) c f π.1).1
    ∙ sym (map_on-agrees (name_for (nameless_node c) (nameless_node f)) π.0.to (names (nameless_node c))
    (λ x h. name_for-moved π.0.to (nameless_node c) (nameless_node f) π.1 x (In-of_ascending x (free_names (nameless_node c).args) h)))

-- the canonical node of a class
pub canonical_node-in : (cs : List ClassEntry) (j : ℕ) → j < length cs → term_at (nameless_nodes cs) j ≡ nameless_node (node_in cs j)
canonical_node-in [] j l = absurd (omega arith)
canonical_node-in (c ∷ cs) zero l = refl
canonical_node-in (c ∷ cs) (suc j) l = canonical_node-in cs j (omega arith)

-- the class that is found first has the shape
first_has : (s : DTerm) (cs : List ClassEntry) (j : ℕ) → first_shaped s (nameless_nodes cs) ≡ Some j → (j < length cs) × (theory.shape (nameless_node (node_in cs j)) ≡ s)
first_has s [] j p = absurd (None-Some j p)
first_has s (c ∷ cs) j p = elim (cases_Bool (term_eq (theory.shape (nameless_node c.0)) s)) [
  | inl t ↦
      let e : 0 ≡ j = Some-same 0 j (sym (ap (λ b. cond b (Some 0) (option_map suc (first_shaped s (nameless_nodes cs)))) t) ∙ p) in
      subst (λ k. (k < length (c ∷ cs)) × (theory.shape (nameless_node (node_in (c ∷ cs) k)) ≡ s)) e (omega arith, (term_eq_iff (theory.shape (nameless_node c.0)) s).0 t)
  | inr n ↦
      let r : (i : ℕ) × (first_shaped s (nameless_nodes cs) ≡ Some i) × (suc i ≡ j) =
      option_map-some suc (first_shaped s (nameless_nodes cs)) j (sym (ap (λ b. cond b (Some 0) (option_map suc (first_shaped s (nameless_nodes cs)))) n) ∙ p) in
      let q : (r.0 < length cs) × (theory.shape (nameless_node (node_in cs r.0)) ≡ s) = first_has s cs r.0 r.1 in
      subst (λ k. (k < length (c ∷ cs)) × (theory.shape (nameless_node (node_in (c ∷ cs) k)) ≡ s)) r.2 (omega (arith, q.0), q.1)
]

no_first : (o : Option ℕ) → option_map suc o ≡ None → o ≡ None
no_first None q = refl
no_first (Some i) q = absurd (None-Some (suc i) (sym q))

none_later : (s : DTerm) (c : ClassEntry) (cs : List ClassEntry) → ((j : ℕ) → j < length cs → ¬ (theory.shape (nameless_node (node_in cs j)) ≡ s)) → term_eq (theory.shape (nameless_node c.0)) s ≡ false → (j : ℕ) → j < length (c ∷ cs) → ¬ (theory.shape (nameless_node (node_in (c ∷ cs) j)) ≡ s)
none_later s c cs h n zero l e = false≢true (sym n ∙ (term_eq_iff (theory.shape (nameless_node c.0)) s).1 e)
none_later s c cs h n (suc j) l e = h j (omega arith) e

-- where none is found, none has the shape
pub first_none : (s : DTerm) (cs : List ClassEntry) → first_shaped s (nameless_nodes cs) ≡ None → (j : ℕ) → j < length cs → ¬ (theory.shape (nameless_node (node_in cs j)) ≡ s)
first_none s [] p j l e = absurd (omega arith)
first_none s (c ∷ cs) p j l e = elim (cases_Bool (term_eq (theory.shape (nameless_node c.0)) s)) [
  | inl t ↦ None-Some 0 (sym p ∙ ap (λ b. cond b (Some 0) (option_map suc (first_shaped s (nameless_nodes cs)))) t)
  | inr n ↦
      let q : option_map suc (first_shaped s (nameless_nodes cs)) ≡ None = sym (ap (λ b. cond b (Some 0) (option_map suc (first_shaped s (nameless_nodes cs)))) n) ∙ p in
      none_later s c cs (first_none s cs (no_first (first_shaped s (nameless_nodes cs)) q)) n j l e
]

-- the answer for a row: its class, with these names for the numbers of the shape
abbrev pub answer : List (ℕ × ℕ) → ℕ × List (ℕ × ℕ) → Applied
answer names r = (r.0, between r.1 names)

module _ (k : Kept) (good : Good k) (f : Form) (hf : Fits f) where
  abbrev first : Option ℕ
  first = first_shaped (theory.shape (nameless_node f)) (nameless_nodes k.classes)

  row_is : found k.rows (shape f).0 ≡ option_map (row_at 0 k.classes) first
  row_is = ap (λ rs. found rs (shape f).0) good.rows ∙ found-first f hf 0 k.classes good.fits

  class_is : (o : Option ℕ) → first ≡ o → option_map (answer (shape f).1) (option_map (row_at 0 k.classes) o) ≡ option_map (class_with_names (nodes_of k) (nameless_node f)) o
  class_is None e = refl
  class_is (Some j) e =
      let q = first_has (theory.shape (nameless_node f)) k.classes j e in
      let c : Form = node_in k.classes j in
      let s : (shape f).0 ≡ (shape c).0 = (same_shapes f c hf (good.fits j q.0)).1 q.1 in
      let z : 0 + j ≡ j = omega arith in
      let m : between (shape c).1 (shape f).1 ≡ map_on (name_for (canonical_node (nodes_of k) j) (nameless_node f)) (names (canonical_node (nodes_of k) j)) =
      between-names c f (good.fits j q.0) hf s ∙ ap (λ (d : DTerm). map_on (name_for d (nameless_node f)) (names d)) (sym (canonical_node-in k.classes j q.0)) in
      λ i. Some (z i, m i)

  -- the look-up of a node is the answer for the row of its shape
  pub look_up-rows : option_map (answer (shape f).1) (found k.rows (shape f).0) ≡ id_of_node (nodes_of k) (nameless_node f)
  look_up-rows = ap (option_map (answer (shape f).1)) row_is ∙ class_is first refl

  row_length : (o : Option ℕ) (r : ℕ × List (ℕ × ℕ)) → first ≡ o → option_map (row_at 0 k.classes) o ≡ Some r → length r.1 ≡ length (shape f).1
  row_length None r e p = absurd (None-Some r p)
  row_length (Some j) r e p =
      let q = first_has (theory.shape (nameless_node f)) k.classes j e in
      let c : Form = node_in k.classes j in
      let s : (shape f).0 ≡ (shape c).0 = (same_shapes f c hf (good.fits j q.0)).1 q.1 in
      let π : SameUpToNames (nameless_node c) (nameless_node f) = (shapes_iff c f (good.fits j q.0) hf).0 (sym s) in
      let n : length (shape f).1 ≡ length (shape c).1 = ap length (shape-same π.0.to (to-injective π.0) c f π.1).1 ∙ length-with_values π.0.to (shape c).1 in
      ap (λ (x : ℕ × List (ℕ × ℕ)). length x.1) (sym (Some-same (row_at 0 k.classes j) r p)) ∙ sym n

  -- a row of the node's shape has as many names
  pub length-row : (r : ℕ × List (ℕ × ℕ)) → found k.rows (shape f).0 ≡ Some r → length r.1 ≡ length (shape f).1
  length-row r p = row_length first r refl (sym row_is ∙ p)

  -- where no row has the node's shape, no class has
  pub none_has : found k.rows (shape f).0 ≡ None → (j : ℕ) → j < length k.classes → ¬ (theory.shape (nameless_node (node_in k.classes j)) ≡ theory.shape (nameless_node f))
  none_has p = first_none (theory.shape (nameless_node f)) k.classes (no_row first (sym row_is ∙ p))
    where
      no_row : (o : Option ℕ) → option_map (row_at 0 k.classes) o ≡ None → o ≡ None
      no_row None q = refl
      no_row (Some j) q = absurd (None-Some (row_at 0 k.classes j) (sym q))

  -- what the code reads: the shape s with its names m, and the row of s

  module _ (s : Form) (m : List (ℕ × ℕ)) (e : ◌≡◌ {A = Form × List (ℕ × ℕ)} (s, m) (shape f)) where
    found_is : found k.rows s ≡ found k.rows (shape f).0
    found_is = ap (λ (x : Form × List (ℕ × ℕ)). found k.rows x.0) e

    pub row-names : (r : ℕ × List (ℕ × ℕ)) → Some r ≡ found k.rows s → length r.1 ≡ length m
    row-names r p = length-row r (sym found_is ∙ sym p) ∙ ap (λ (x : Form × List (ℕ × ℕ)). length x.1) (sym e)

    pub row-answers : (o : Option (ℕ × List (ℕ × ℕ))) → o ≡ found k.rows s → option_map (answer m) o ≡ id_of_node (nodes_of k) (nameless_node f)
    row-answers o p = (λ i. option_map (answer ((ap (λ (x : Form × List (ℕ × ℕ)). x.1) e) i)) ((p ∙ found_is) i)) ∙ look_up-rows

-- A class that takes its turn, and the other class of which the shape of its node is filed, if there is one.
use Rattle.std.proofs.Common.{◌≡◌, ◌≢◌, ◌<◌, ◌+◌, ℕ, List, Some, length, ap, ◌∙◌, sym, subst, refl, arith}
use Rattle.std.specs.Prelude.{Contains, IfSome, IfNone, Option, None, unwrap_or}
use Rattle.slotted_lists.proofs.Options.{Some-same}
use Rattle.slotted_nodes.specs.Form.{Form}
use Rattle.slotted_theory.specs.Shape as theory
use Rattle.slotted_languages.specs.NodeTerm.{nameless_node}
use Rattle.slotted_languages.specs.Shape.{Fits, shape}
use Rattle.slotted_model.specs.Applied.{keys}
use Rattle.slotted_model.specs.Rebuild.{IsCovered, row_for}
use Rattle.slotted_model.specs.Rest.{IsRow, IsValidIn}
use Rattle.slotted_model.specs.State.{Row, State, child_classes, normal_node}
use Rattle.slotted_model.proofs.Rebuilding.KeepingLookUps.{children-below}
use Rattle.slotted_model.proofs.Rebuilding.Refiling.{row_for-row}
use Rattle.slotted_classes.specs.Kept.{Kept, nodes_of}
use Rattle.slotted_classes.proofs.KeptLists.{length-nodes_of}
use Rattle.slotted_hashcons.specs.Filed.{Filing, HasKey, HasKeysOnce, IsNewKey, IsNewToOthers, filed_of}
use Rattle.slotted_hashcons.specs.FiledRows.{HasChildrenBelow, Rows, TakesTurn, rows_in, row_of_entry, key_children}
use Rattle.slotted_hashcons.proofs.FiledRows.{child_classes-shape, filed-row, row-filed, source-filed}
use Rattle.slotted_hashcons.specs.FoundNodes.{IsFoundNode, finds_of}
use Rattle.slotted_hashcons.specs.Sides.{HaveOneShape}
use Rattle.slotted_rebuilding.proofs.KeptSlots.{grows-then}
use Rattle.slotted_hashcons.specs.WellFiled.{state_in, IsKeyed, IsWellFiled}
use Rattle.slotted_rebuilding.specs.Turns.{NarrowsTo, SharesKey, TakesTurns}
use Rattle.slotted_languages.proofs.KeysByShapes.{one-key}
use Rattle.slotted_rebuilding.proofs.NormalNodes.{filed-places, waiting-within}
use Rattle.slotted_rebuilding.proofs.Runs.{runs-join}
use Rattle.slotted_hashcons.proofs.StaleRows.{stale-found}
use Rattle.slotted_rebuilding.proofs.TurnEnds.{refiles-node}

-- the shape of the node in normal form, in the words of the model
pub found-shape : (k : Kept) (o : ℕ) (f : Form) (m : List (ℕ × ℕ)) → IsFoundNode k o f m → theory.shape (nameless_node f) ≡ theory.shape (normal_node (finds_of k) o)
found-shape k o f m node = ap (λ (r : Row). r.shape) node.row

-- the node that is filed by the key is in normal form, even if its class waits
pub shared-shapes : (k : Kept) (r : Rows) (o : ℕ) (slots : List (ℕ × ℕ)) (other : ℕ) → IsWellFiled k r → o < length k.classes → SharesKey k r o slots other →
    (x : Form) (n : List (ℕ × ℕ)) → Some (x, n) ≡ filed_of r.filed other → HaveOneShape k o slots other n
shared-shapes k r o slots other well within s x n e =
    let m : List (ℕ × ℕ) = s.filed.0 in
    let same : ◌≡◌ {A = Filing} (x, n) (s.key, m) = Some-same (x, n) (s.key, m) (e ∙ s.filed.1) in
    let numbers : keys m ≡ keys (shape s.key).1 = (well.keyed other (s.key, m) s.filed.1).numbers in
    let there : IsFoundNode k other s.key m =
    stale-found k (state_in k r) well.sane refl refl o other s.key slots m within s.fits s.node (row-filed r.filed other s.key m s.filed.1) numbers in
    (s.key, s.node, subst (IsFoundNode k other s.key) (sym (ap (λ (y : Filing). y.1) same)) there)

-- no other class has the key that was looked for and found of none, or of the class itself
pub new-to-others : (v : List (Option Filing)) (class : ℕ) (key : Form) (o : Option ℕ) → IfSome o (λ i. HasKey v i key) → IfNone o (IsNewKey v key) → HasKeysOnce v →
    unwrap_or o class ≡ class → IsNewToOthers v class key
new-to-others v class key None some none once e j differ has = none j has
new-to-others v class key (Some i) some none once e j differ has = differ (once j i key has some ∙ e)

-- the key was found of another class
pub shares-key : (k : Kept) (r : Rows) (class : ℕ) (slots : List (ℕ × ℕ)) (key : Form) (o : Option ℕ) → Fits key → IsFoundNode k class key slots → IfSome o (λ i. HasKey r.filed i key) →
    unwrap_or o class ≢ class → SharesKey k r class slots (unwrap_or o class)
shares-key k r class slots key None fits node some differ = absurd (differ refl)
shares-key k r class slots key (Some i) fits node some differ = record { key = key; fits = fits; node = node; filed = some }

-- a row of the shape of a class's node in normal form is filed by the key of that node
pub has-key : (k : Kept) (r : Rows) (o : ℕ) (key : Form) (slots : List (ℕ × ℕ)) → IsWellFiled k r → Fits key → IsFoundNode k o key slots →
    (x : Row) → Contains (rows_in r.filed) x → x.shape ≡ theory.shape (normal_node (finds_of k) o) → HasKey r.filed x.source key
has-key k r o key slots well fits node x c e =
    let h = filed-row r.filed x c in
    let f : Form = h.1 in
    let m : List (ℕ × ℕ) = h.2 in
    let at : filed_of r.filed h.0 ≡ Some (f, m) = h.3 in
    let is : x ≡ row_of_entry (f, (h.0, m)) = h.4 in
    let kept : IsKeyed (f, m) = well.keyed h.0 (f, m) at in
    let shapes : theory.shape (nameless_node f) ≡ theory.shape (nameless_node key) = sym (ap (λ (y : Row). y.shape) is) ∙ (e ∙ sym (found-shape k o key slots node)) in
    let same : f ≡ key = one-key f key kept.fits fits kept.itself node.itself shapes in
    let source : h.0 ≡ x.source = sym (ap (λ (y : Row). y.source) is) in
    (m, subst (λ i. filed_of r.filed i ≡ Some (key, m)) source (subst (λ g. filed_of r.filed h.0 ≡ Some (g, m)) same at))

-- the children of the key of a class's node are of classes
pub children-within : (k : Kept) (r : Rows) (o : ℕ) (key : Form) (slots : List (ℕ × ℕ)) → IsWellFiled k r → o < length k.classes → IsFoundNode k o key slots → HasChildrenBelow (length r.filed) key
children-within k r o key slots well within node c h =
    let g : State = state_in k r in
    let q : Row = row_for (finds_of k) o in
    let e : length (nodes_of k) ≡ length k.classes = length-nodes_of k in
    let d : length r.filed ≡ length k.classes = well.count in
    let row : IsRow g q = row_for-row g well.sane o (omega (arith, within, e)) in
    let same : key_children key ≡ child_classes q.shape.args = sym (child_classes-shape (nameless_node key)) ∙ ap (λ d. child_classes d.args) (found-shape k o key slots node) in
    let below : c < length (nodes_of k) = children-below (IsValidIn g) (length (nodes_of k)) (λ a v. v.in_range) q.shape.args row.children c (subst (λ xs. Contains xs c) same h) in
    omega (arith, below, e, d)

module _ (k : Kept) (r : Rows) (well : IsWellFiled k r) (o : ℕ) (waits : Contains r.waiting o) (key : Form) (slots : List (ℕ × ℕ)) (fits : Fits key) (node : IsFoundNode k o key slots)
    (covered : IsCovered (finds_of k) o) (new : IsNewToOthers r.filed o key) where
  -- no other row has the shape
  alone : (x : Row) → Contains (rows_in r.filed) x → x.source ≢ o → x.shape ≢ theory.shape (normal_node (finds_of k) o)
  alone x c differ e = new x.source differ (has-key k r o key slots well fits node x c e)

  -- something is filed of it
  filed : (e : Filing) × (filed_of r.filed o ≡ Some e)
  filed = (source-filed r.filed o).0 (well.sane.filed.waits_for_row o waits)

  -- and the node is filed by it
  pub files-it : (s : Rows) → TakesTurn r s o (Some (key, slots)) → TakesTurns k r k s
  files-it s t =
      let within : o < length k.classes = waiting-within k r o well waits in
      let d : length r.filed ≡ length k.classes = well.count in
      refiles-node k r s o key slots filed.0 well waits filed.1 (omega (arith, within, d)) (record { fits = fits; itself = node.itself; numbers = node.numbers })
      (filed-places k r o well within key slots fits node) node.row covered alone t

-- what comes after the node was narrowed
pub turns-then : (k : Kept) (r : Rows) (o : ℕ) (l : Kept) (q : Rows) (f : Form) (m : List (ℕ × ℕ)) (n : Kept) (s : Rows) → NarrowsTo k r o l q f m → TakesTurns l q n s → TakesTurns k r n s
turns-then k r o l q f m n s narrowed then = record {
  turns = narrowed.turns + then.turns;
  some = let h = then.some in omega (arith, h);
  runs = runs-join (state_in k r) (state_in l q) (state_in n s) narrowed.turns then.turns narrowed.runs then.runs;
  filed = then.filed;
  grows = grows-then k l n narrowed.grows then.grows;
}

-- the class that has the key is another one, if it was found
pub other-has : (v : List (Option Filing)) (class other : ℕ) (key : Form) (o : Option ℕ) → IfSome o (λ i. HasKey v i key) → unwrap_or o class ≡ other → other ≢ class → HasKey v other key
other-has v class other key None h e differ = absurd (differ (sym e))
other-has v class other key (Some i) h e differ = subst (λ n. HasKey v n key) e h

-- the class of which the key is filed is a class
pub shared-within : (k : Kept) (r : Rows) (o : ℕ) (slots : List (ℕ × ℕ)) (other : ℕ) → IsWellFiled k r → SharesKey k r o slots other → other < length k.classes
shared-within k r o slots other well s =
    let m : List (ℕ × ℕ) = s.filed.0 in
    subst (λ n. other < n) (length-nodes_of k) (well.sane.filed.each (row_of_entry (s.key, (other, m))) (row-filed r.filed other s.key m s.filed.1)).in_range

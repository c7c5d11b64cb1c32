-- The rows of what is filed of each class, as classes come, and as nodes are filed, filed anew and taken out.
use Rattle.std.proofs.Common.{◌≡◌, ◌≢◌, ◌∙◌, ◌<◌, ◌≤◌, ◌+◌, ℕ, zero, suc, List, [], ◌∷◌, ◌++◌, length, Option, Some, None, cond, ap, sym, refl, subst, inl, inr, arith}
use Rattle.std.specs.Prelude.{Contains, not, nat_eq, set, ◌↔◌}
use Rattle.std.proofs.lemmas.Bool.{eq-eqb, ne_eqb}
use Rattle.std.proofs.lemmas.List.{map-append, append-nil, append_assoc}
use Rattle.std.proofs.lemmas.List.Elements.{filter-append, Contains-append_left, Contains-append_right, Contains-append_cases}
use Rattle.std.proofs.Math.Seq.{set-append_seam}
use Rattle.slotted_lists.proofs.Contained.{contains_head, contains_cases, Contains-nil, Contains-map, Contains-of_map}
use Rattle.slotted_theory.specs.Nameless.{DTerm}
use Rattle.slotted_theory.specs.Shape as theory
use Rattle.slotted_nodes.specs.Form.{Form}
use Rattle.slotted_languages.specs.NodeTerm.{nameless_node}
use Rattle.slotted_model.specs.Correspondence.{AllDifferent}
use Rattle.slotted_model.specs.State.{Row, child_classes, sources}
use Rattle.slotted_model.specs.Rebuild.{without, without_row, with_row}
use Rattle.slotted_model.proofs.Complete.Marks.{child_classes-moved}
use Rattle.slotted_model.proofs.Rebuilding.QuietTurns.{none-without}
use Rattle.slotted_model.proofs.Rebuilding.Touching.{different-added}
use Rattle.slotted_classes.specs.Kept.{RowEntry}
use Rattle.slotted_hashcons.specs.Filed.{Filing, filed_of}
use Rattle.slotted_hashcons.specs.FiledRows.{row_of_entry, row_at, rows_from, rows_in, key_children, IsFiled}

-- the shape of a node has its child classes
pub child_classes-shape : (d : DTerm) → child_classes (theory.shape d).args ≡ child_classes d.args
child_classes-shape d = child_classes-moved (theory.number_in (theory.free_names d.args)) d.args

-- a row has the child classes of its key
pub row-children : (e : RowEntry) → child_classes (row_of_entry e).shape.args ≡ key_children e.0
row-children e = child_classes-shape (nameless_node e.0)

-- one class more, at the end
pub rows_from-append : (i : ℕ) (v : List (Option Filing)) (x : Option Filing) → rows_from i (v ++ x ∷ []) ≡ row_at (i + length v) x ++ rows_from i v
rows_from-append i [] x =
    let e : i ≡ i + 0 = omega arith in
    ap (λ n. row_at n x) e ∙ sym (append-nil (row_at (i + 0) x))
rows_from-append i (y ∷ v) x =
    let e : suc i + length v ≡ i + suc (length v) = omega arith in
    ap (λ rs. rs ++ row_at i y) (rows_from-append (suc i) v x)
    ∙ ap (λ n. (row_at n x ++ rows_from (suc i) v) ++ row_at i y) e
    ∙ append_assoc (row_at (i + suc (length v)) x) (rows_from (suc i) v) (row_at i y)

-- nothing is filed of a new class
pub rows-added : (v : List (Option Filing)) → rows_in (v ++ None ∷ []) ≡ rows_in v
rows-added v = rows_from-append 0 v None

-- the node of a new class is the first row
pub rows-added_filed : (v : List (Option Filing)) (f : Form) (m : List (ℕ × ℕ)) → rows_in (set (v ++ None ∷ []) (length v) (Some (f, m))) ≡ row_of_entry (f, (length v, m)) ∷ rows_in v
rows-added_filed v f m = ap rows_in (set-append_seam v None [] (Some (f, m))) ∙ rows_from-append 0 v (Some (f, m)) ∙ ap (λ n. row_of_entry (f, (n, m)) ∷ rows_in v) (omega arith)

-- a row is that of what is filed of its source
row_from-filed : (j : ℕ) (v : List (Option Filing)) (i : ℕ) (e : Filing) → filed_of v i ≡ Some e → Contains (rows_from j v) (row_of_entry (e.0, (j + i, e.1)))
row_from-filed j [] i e h = cc
row_from-filed j (x ∷ v) zero e h =
    Contains-append_right (rows_from (suc j) v) (row_at j x) (row_of_entry (e.0, (j + 0, e.1)))
    (subst (λ y. Contains (row_at j y) (row_of_entry (e.0, (j + 0, e.1)))) (sym h)
    (subst (λ n. Contains (row_of_entry (e.0, (n, e.1)) ∷ []) (row_of_entry (e.0, (j + 0, e.1)))) (omega arith) (contains_head (row_of_entry (e.0, (j + 0, e.1))) [])))
row_from-filed j (x ∷ v) (suc i) e h =
    let k : suc j + i ≡ j + suc i = omega arith in
    Contains-append_left (rows_from (suc j) v) (row_at j x) (row_of_entry (e.0, (j + suc i, e.1)))
    (subst (λ n. Contains (rows_from (suc j) v) (row_of_entry (e.0, (n, e.1)))) k (row_from-filed (suc j) v i e h))

pub row-filed : (v : List (Option Filing)) (i : ℕ) (f : Form) (m : List (ℕ × ℕ)) → filed_of v i ≡ Some (f, m) → Contains (rows_in v) (row_of_entry (f, (i, m)))
row-filed v i f m h = subst (λ n. Contains (rows_in v) (row_of_entry (f, (n, m)))) (omega arith) (row_from-filed 0 v i (f, m) h)

-- what is filed of a class, from the number j on, as this row
pub record IsRowFrom (j : ℕ) (v : List (Option Filing)) (r : Row) : Type 0 where
  pub class : ℕ
  pub key : Form
  pub names : List (ℕ × ℕ)
  pub filed : filed_of v class ≡ Some (key, names)
  pub is : r ≡ row_of_entry (key, (j + class, names))

row_at-from : (j : ℕ) (x : Option Filing) (v : List (Option Filing)) (r : Row) → Contains (row_at j x) r → IsRowFrom j (x ∷ v) r
row_at-from j None v r c = absurd (Contains-nil r c)
row_at-from j (Some e) v r c = elim (contains_cases (row_of_entry (e.0, (j, e.1))) [] r c) [
  | inl k ↦ record { class = 0; key = e.0; names = e.1; filed = refl; is = k ∙ ap (λ n. row_of_entry (e.0, (n, e.1))) (omega arith) }
  | inr n ↦ absurd (Contains-nil r n)
]

row-from : (j : ℕ) (v : List (Option Filing)) (r : Row) → Contains (rows_from j v) r → IsRowFrom j v r
row-from j [] r c = absurd (Contains-nil r c)
row-from j (x ∷ v) r c = elim (Contains-append_cases (rows_from (suc j) v) (row_at j x) r c) [
  | inl k ↦ later (row-from (suc j) v r k)
  | inr k ↦ row_at-from j x v r k
]
  where
    later : IsRowFrom (suc j) v r → IsRowFrom j (x ∷ v) r
    later h = record { class = suc h.class; key = h.key; names = h.names; filed = h.filed; is = h.is ∙ ap (λ n. row_of_entry (h.key, (n, h.names))) (omega arith) }

pub filed-row : (v : List (Option Filing)) (r : Row) → Contains (rows_in v) r → (i : ℕ) × (f : Form) × (m : List (ℕ × ℕ)) × (filed_of v i ≡ Some (f, m)) × (r ≡ row_of_entry (f, (i, m)))
filed-row v r c = let h = row-from 0 v r c in (h.class, h.key, h.names, h.filed, h.is ∙ ap (λ n. row_of_entry (h.key, (n, h.names))) (omega arith))

-- the sources of the rows are the classes of which something is filed, each once
pub source-filed : (v : List (Option Filing)) (i : ℕ) → Contains (sources (rows_in v)) i ↔ IsFiled v i
source-filed v i = (
  λ c. let r = Contains-of_map (λ (r : Row). r.source) (rows_in v) i c in
      let h = filed-row v r.0 r.1 in
      ((h.1, h.2), subst (λ n. filed_of v n ≡ Some (h.1, h.2)) (sym (ap (λ (r : Row). r.source) h.4) ∙ r.2) h.3),
  λ h. Contains-map (λ (r : Row). r.source) (rows_in v) (row_of_entry (h.0.0, (i, h.0.1))) (row-filed v i h.0.0 h.0.1 h.1),
)

source-at_least : (j : ℕ) (v : List (Option Filing)) (i : ℕ) → Contains (sources (rows_from j v)) i → j ≤ i
source-at_least j v i c =
    let r = Contains-of_map (λ (r : Row). r.source) (rows_from j v) i c in
    let h = row-from j v r.0 r.1 in
    let e : i ≡ j + h.class = sym r.2 ∙ ap (λ (r : Row). r.source) h.is in
    omega (arith, e)

different-with : (later : List ℕ) (j : ℕ) (x : Option Filing) → AllDifferent later → ((i : ℕ) → Contains later i → suc j ≤ i) → AllDifferent (later ++ sources (row_at j x))
different-with later j None d h = subst AllDifferent (sym (append-nil later)) d
different-with later j (Some e) d h = different-added later j d (λ c. let w = h j c in omega (arith, w))

sources-different_from : (j : ℕ) (v : List (Option Filing)) → AllDifferent (sources (rows_from j v))
sources-different_from j [] = tt
sources-different_from j (x ∷ v) =
    subst AllDifferent (sym (map-append (λ (r : Row). r.source) (rows_from (suc j) v) (row_at j x)))
    (different-with (sources (rows_from (suc j) v)) j x (sources-different_from (suc j) v) (source-at_least (suc j) v))

pub sources-different : (v : List (Option Filing)) → AllDifferent (sources (rows_in v))
sources-different v = sources-different_from 0 v

-- the first of different numbers is taken out
pub without-front : (o : ℕ) (waiting rest : List ℕ) → waiting ≡ o ∷ rest → AllDifferent waiting → without o waiting ≡ rest
without-front o waiting rest e d =
    ap (without o) e
    ∙ ap (λ b. cond (not b) (o ∷ without o rest) (without o rest)) (eq-eqb o o refl)
    ∙ none-without o rest (subst AllDifferent e d).0

-- the rows of other classes stay as a row is taken out
without_row-other : (o i : ℕ) (x : Option Filing) → i ≢ o → without_row o (row_at i x) ≡ row_at i x
without_row-other o i None n = refl
without_row-other o i (Some e) n = ap (λ b. cond (not b) (row_at i (Some e)) []) (ne_eqb i o n)

without_row-same : (o i : ℕ) (x : Option Filing) → i ≡ o → without_row o (row_at i x) ≡ []
without_row-same o i None e = refl
without_row-same o i (Some f) e = ap (λ b. cond (not b) (row_at i (Some f)) []) (eq-eqb i o e)

without_row-later : (o i : ℕ) (v : List (Option Filing)) → o < i → without_row o (rows_from i v) ≡ rows_from i v
without_row-later o i [] w = refl
without_row-later o i (x ∷ v) w =
    filter-append (λ (r : Row). not (nat_eq r.source o)) (rows_from (suc i) v) (row_at i x)
    ∙ (λ k. without_row-later o (suc i) v (omega (arith, w)) k ++ without_row-other o i x (λ e. omega (arith, w, e)) k)

rows-removed_from : (i : ℕ) (v : List (Option Filing)) (k : ℕ) → rows_from i (set v k None) ≡ without_row (i + k) (rows_from i v)
rows-removed_from i [] k = refl
rows-removed_from i (x ∷ v) zero =
    let e : i ≡ i + 0 = omega arith in
    sym (filter-append (λ (r : Row). not (nat_eq r.source (i + 0))) (rows_from (suc i) v) (row_at i x)
    ∙ (λ k. without_row-later (i + 0) (suc i) v (omega arith) k ++ without_row-same (i + 0) i x e k))
rows-removed_from i (x ∷ v) (suc k) =
    let e : suc i + k ≡ i + suc k = omega arith in
    sym (filter-append (λ (r : Row). not (nat_eq r.source (i + suc k))) (rows_from (suc i) v) (row_at i x)
    ∙ (λ j. without_row (sym e j) (rows_from (suc i) v) ++ without_row-other (i + suc k) i x (λ d. omega (arith, d)) j)
    ∙ ap (λ rs. rs ++ row_at i x) (sym (rows-removed_from (suc i) v k)))

-- what is filed of a class is taken out
pub rows-removed : (v : List (Option Filing)) (o : ℕ) → rows_in (set v o None) ≡ without_row o (rows_in v)
rows-removed v o = let e : 0 + o ≡ o = omega arith in rows-removed_from 0 v o ∙ ap (λ n. without_row n (rows_in v)) e

-- the rows of other classes stay as a row is put in the place of one
with_row-other : (q : Row) (i : ℕ) (x : Option Filing) → i ≢ q.source → with_row q (row_at i x) ≡ row_at i x
with_row-other q i None n = refl
with_row-other q i (Some e) n = ap (λ b. cond b q (row_of_entry (e.0, (i, e.1))) ∷ []) (ne_eqb i q.source n)

with_row-later : (q : Row) (i : ℕ) (v : List (Option Filing)) → q.source < i → with_row q (rows_from i v) ≡ rows_from i v
with_row-later q i [] w = refl
with_row-later q i (x ∷ v) w =
    map-append (λ (r : Row). cond (nat_eq r.source q.source) q r) (rows_from (suc i) v) (row_at i x)
    ∙ (λ k. with_row-later q (suc i) v (omega (arith, w)) k ++ with_row-other q i x (λ e. omega (arith, w, e)) k)

rows-refiled_from : (i : ℕ) (v : List (Option Filing)) (k : ℕ) (e a : Filing) → filed_of v k ≡ Some e →
    rows_from i (set v k (Some a)) ≡ with_row (row_of_entry (a.0, (i + k, a.1))) (rows_from i v)
rows-refiled_from i [] k e a h = cc
rows-refiled_from i (x ∷ v) zero e a h =
    let q : Row = row_of_entry (a.0, (i + 0, a.1)) in
    let s : i ≡ i + 0 = omega arith in
    let here : with_row q (row_at i x) ≡ row_at i (Some a) =
    ap (λ y. with_row q (row_at i y)) h ∙ ap (λ b. cond b q (row_of_entry (e.0, (i, e.1))) ∷ []) (eq-eqb i (i + 0) s) ∙ ap (λ n. row_of_entry (a.0, (n, a.1)) ∷ []) (sym s) in
    sym (map-append (λ (r : Row). cond (nat_eq r.source q.source) q r) (rows_from (suc i) v) (row_at i x)
    ∙ (λ k. with_row-later q (suc i) v (omega arith) k ++ here k))
rows-refiled_from i (x ∷ v) (suc k) e a h =
    let q : Row = row_of_entry (a.0, (i + suc k, a.1)) in
    let s : suc i + k ≡ i + suc k = omega arith in
    sym (map-append (λ (r : Row). cond (nat_eq r.source q.source) q r) (rows_from (suc i) v) (row_at i x)
    ∙ (λ j. with_row (row_of_entry (a.0, (sym s j, a.1))) (rows_from (suc i) v) ++ with_row-other q i x (λ d. omega (arith, d)) j)
    ∙ ap (λ rs. rs ++ row_at i x) (sym (rows-refiled_from (suc i) v k e a h)))

-- something else is filed of a class of which something is filed
pub rows-refiled : (v : List (Option Filing)) (o : ℕ) (e : Filing) (f : Form) (m : List (ℕ × ℕ)) → filed_of v o ≡ Some e →
    rows_in (set v o (Some (f, m))) ≡ with_row (row_of_entry (f, (o, m))) (rows_in v)
rows-refiled v o e f m h = let s : 0 + o ≡ o = omega arith in rows-refiled_from 0 v o e (f, m) h ∙ ap (λ n. with_row (row_of_entry (f, (n, m))) (rows_in v)) s

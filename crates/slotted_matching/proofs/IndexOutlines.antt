-- The number of the skeleton of a pattern's node is that of the rows that can be held beside it, and of no others.
use Rattle.std.proofs.Common.{◌≡◌, ℕ, suc, ◌<◌, ◌≤◌, List, [], ◌∷◌, length, Option, Some, None, Bool, true, false, sym, ◌∙◌, ap, refl, subst, inl, inr, arith}
use Rattle.std.specs.Prelude.{◌↔◌, ◌==◌, if◌then◌else◌, Contains, nat_eq, slice_get}
use Rattle.std.proofs.lemmas.Bool.{eq-eqb, eqb-true}
use Rattle.std.proofs.lemmas.Option.{slice_get_within}
use Rattle.slotted_lists.proofs.Members.{In, In-Contains}
use Rattle.slotted_nodes.specs.Form.{Form, children}
use Rattle.slotted_languages.specs.Outline.{skeleton_form}
use Rattle.slotted_model.specs.Extraction.{row_class}
use Rattle.slotted_model.specs.Find.{find_class}
use Rattle.slotted_model.specs.State.{Row, State}
use Rattle.slotted_model.proofs.Finds.Finding.{found-in_range, found-live, leads}
use Rattle.slotted_model_rules.specs.Patterns.{Pattern, PatternArgs, pattern_node}
use Rattle.slotted_classes.specs.Kept.{Kept, entries_of, nodes_of}
use Rattle.slotted_classes.proofs.KeptLists.{length-nodes_of}
use Rattle.slotted_hashcons.specs.Filed.{Filing}
use Rattle.slotted_hashcons.specs.FiledRows.{Rows}
use Rattle.slotted_hashcons.proofs.FiledRows.{filed-row}
use Rattle.slotted_hashcons.specs.WellFiled.{IsWellFiled, state_in}
use Rattle.slotted_lookup.proofs.AppliedNodes.{filed-in_nodes}
use Rattle.slotted_rule_patterns.specs.PatternCode.{filled_pattern, pattern_over}
use Rattle.slotted_match_machine.specs.declared.index.IndexRow.{IndexRow}
use Rattle.slotted_match_machine.specs.declared.index.RowIndex.{RowIndex}
use Rattle.slotted_match_machine.specs.Index.{HasOutline, IsOutlineIn, OneByOne, rows_of_class}
use Rattle.slotted_match_machine.specs.Machine.{rows_in}
use Rattle.slotted_matching.specs.Indexed.{HasOutlineOf, IsIndexed, filing_at, key_of}
use Rattle.slotted_matching.specs.Skeletons.{IsPlaceOf, StandsAt}
use Rattle.slotted_matching.proofs.SkeletonOutlines.{skeleton-outline}
use Rattle.slotted_matching.proofs.SourceRows.{OneByOne-map, in-filter}

-- each of the first list has one beside it
beside : {B : Type 0} (P : Row → B → Type 0) (qs : List Row) (ys : List B) (q : Row) → OneByOne P qs ys → In q qs → (y : B) × P q y
beside P [] ys q o i = absurd i
beside P (p ∷ qs) [] q o i = absurd o
beside P (p ∷ qs) (y ∷ ys) q o (inl e) = (y, subst (λ z. P z y) (sym e) o.0)
beside P (p ∷ qs) (y ∷ ys) q o (inr i) = beside P qs ys q o.1 i

-- a number past all places is that of a form that is nowhere
nowhere : (S : List Form) (f : Form) (n : ℕ) → IsPlaceOf S f n → length S ≤ n → (i : ℕ) → ¬ StandsAt S f i
nowhere S f n (inl is) past i e = omega (arith, past, slice_get_within S n f ((is n).1 refl))
nowhere S f n (inr away) past i e = away.1 i e

-- a node of a pattern, with a pattern for each child
module _ (v : List (Option Filing)) (S : List Form) (f : Form) (ps : List Pattern) (whole : length ps ≡ length (children f.tree)) where
  abbrev Fits : Row → Type 0
  Fits q = HasOutline q (suc f.operator) f.payloads (filled_pattern f.tree f.names ps)

  -- a row fits exactly if its key has the skeleton of the node
  fits-is : (q : Row) (row : IndexRow) (has : HasOutlineOf v S q row) → skeleton_form (key_of v has.source) ≡ skeleton_form f ↔ Fits q
  fits-is q row has =
      let s = skeleton-outline f ps whole (key_of v has.source) has.source (filing_at v has.source).1 in (
        λ e. subst Fits (sym has.is) (s.0 e),
        λ h. s.1 (subst Fits has.is h),
      )

  -- so it stands where the skeleton stands
  fits-at : (q : Row) (row : IndexRow) (has : HasOutlineOf v S q row) → Fits q → StandsAt S (skeleton_form f) row.outline
  fits-at q row has h = has.place ∙ ap Some ((fits-is q row has).1 h)

  number-is : (n : ℕ) → IsPlaceOf S (skeleton_form f) n → (q : Row) (row : IndexRow) → HasOutlineOf v S q row → (row.outline ≡ n) ↔ Fits q
  number-is n (inl is) q row has = (
    λ e.
        let there : slice_get S row.outline ≡ Some (skeleton_form f) = (is row.outline).1 e in
        let same : Some (skeleton_form (key_of v has.source)) ≡ Some (skeleton_form f) = sym has.place ∙ there in
        (fits-is q row has).0 (cc),
    λ h. (is row.outline).0 (fits-at q row has h),
  )
  number-is n (inr away) q row has = (
    λ e. absurd (omega (arith, e, away.0, slice_get_within S row.outline (skeleton_form (key_of v has.source)) has.place)),
    λ h. absurd (away.1 row.outline (fits-at q row has h)),
  )

module _ (k : Kept) (r : Rows) (S : List Form) (x : RowIndex) (is : IsIndexed k r S x) (f : Form) (ps : List Pattern) (whole : length ps ≡ length (children f.tree)) where
  abbrev g : State
  g = state_in k r

  abbrev args : PatternArgs
  args = filled_pattern f.tree f.names ps

  pub outline-in : (n : ℕ) → IsPlaceOf S (skeleton_form f) n → IsOutlineIn g is.order x n (suc f.operator) f.payloads args
  outline-in n place c h l =
      let nodes : length (nodes_of k) ≡ length k.classes = length-nodes_of k in
      OneByOne-map (HasOutlineOf r.filed S) (λ q (row : IndexRow). (row.outline ≡ n) ↔ HasOutline q (suc f.operator) f.payloads args)
      (number-is r.filed S f ps whole n place)
      (rows_of_class g is.order c) (rows_in x.classes.items c) (is.outlines c (omega (arith, h, nodes)) l)

  -- where the skeleton is nowhere no row fits
  pub no-outline : IsWellFiled k r → (n : ℕ) → IsPlaceOf S (skeleton_form f) n → length S ≤ n → (q : Row) → Contains g.rows q → ¬ HasOutline q (suc f.operator) f.payloads args
  no-outline well n place past q c h =
      let p = filed-row r.filed q c in
      let o : ℕ = p.0 in
      let nodes : length (nodes_of k) ≡ length k.classes = length-nodes_of k in
      let L = leads (nodes_of k) (entries_of k) well.sane.sound.linked in
      let within = filed-in_nodes k r well o p.1 p.2 p.3 in
      let d : ℕ = find_class (entries_of k) o in
      let l : d < length k.classes = omega (arith, found-in_range (nodes_of k) (entries_of k) L o within, nodes) in
      let class : row_class g q ≡ d = ap (row_class g) p.4 in
      let i : In q (rows_of_class g is.order d) = in-filter (λ q. nat_eq (row_class g q) d) is.order q (eq-eqb (row_class g q) d class) (In-Contains is.order q ((is.index.rows q).0 c)) in
      let b = beside (HasOutlineOf r.filed S) (rows_of_class g is.order d) (rows_in x.classes.items d) q (is.outlines d l (found-live (nodes_of k) (entries_of k) L o within)) i in
      nowhere S (skeleton_form f) n place past b.0.outline (fits-at r.filed S f ps whole q b.0 b.1 h)

-- the same of the node of a pattern that is over child patterns
taken : {A : Type 0} (b : Bool) (x y : A) → (if b then Some x else None) ≡ Some y → (b ≡ true) × (x ≡ y)
taken true x y e = (refl, cc)
taken false x y e = absurd (cc)

module _ (k : Kept) (r : Rows) (S : List Form) (x : RowIndex) (is : IsIndexed k r S x) (f : Form) (ps : List Pattern) (op : ℕ) (payloads : List (List ℕ)) (args : PatternArgs)
    (over : pattern_over f ps ≡ Some (pattern_node op payloads args)) (n : ℕ) (place : IsPlaceOf S (skeleton_form f) n) where
  abbrev filled : PatternArgs
  filled = filled_pattern f.tree f.names ps

  whole : length ps ≡ length (children f.tree)
  whole = eqb-true (length ps) (length (children f.tree)) (taken (length ps == length (children f.tree)) (pattern_node (suc f.operator) f.payloads filled) (pattern_node op payloads args) over).0

  same : pattern_node (suc f.operator) f.payloads filled ≡ pattern_node op payloads args
  same = (taken (length ps == length (children f.tree)) (pattern_node (suc f.operator) f.payloads filled) (pattern_node op payloads args) over).1

  along : (P : ℕ → List (List ℕ) → PatternArgs → Type 0) → P (suc f.operator) f.payloads filled → P op payloads args
  along P p =
      let o : suc f.operator ≡ op = let e = same in cc in
      let l : f.payloads ≡ payloads = let e = same in cc in
      let a : filled ≡ args = let e = same in cc in
      subst (λ y. P y payloads args) o (subst (λ y. P (suc f.operator) y args) l (subst (λ y. P (suc f.operator) f.payloads y) a p))

  pub outline-over : IsOutlineIn (state_in k r) is.order x n op payloads args
  outline-over = along (λ o l a. IsOutlineIn (state_in k r) is.order x n o l a) (outline-in k r S x is f ps whole n place)

  pub no-outline_over : IsWellFiled k r → length S ≤ n → (q : Row) → Contains (state_in k r).rows q → ¬ HasOutline q op payloads args
  no-outline_over well past = along (λ o l a. (q : Row) → Contains (state_in k r).rows q → ¬ HasOutline q o l a) (no-outline k r S x is f ps whole well n place past)

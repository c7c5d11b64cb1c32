-- What is seen at a place and at a child of two matched outlines.
use Rattle.std.proofs.Common.{◌≡◌, ℕ, suc, zero, ◌<◌, ◌≤◌, List, [], ◌++◌, length, refl, slice_index, slice_index_or, ap, ◌∙◌, sym, arith}
use Rattle.std.specs.Prelude.{◌↔◌, Some, None, Option, Result, Bool, IfOk, IsTrue}
use Rattle.std.proofs.lemmas.Result.{IfOk-weaker}
use Rattle.std.proofs.Math.Nat.{suc_inj}
use Rattle.std.proofs.lemmas.List.{append-nil, get_or_past, ext_get_or}
use Rattle.slotted_theory.specs.Shape.{number_in}
use Rattle.slotted_nodes.specs.Form.{Form, Tree, scopes, children, child_place, IsSmall}
use Rattle.slotted_languages.specs.Outline.{outlined, marks, outlined_form, skeleton_form}
use Rattle.slotted_languages.proofs.Outlines.{length-marks, length-outlined_names, outlined-outlined}
use Rattle.slotted_outlines.specs.Seen.{owns, stacks, opened, own_at, AreMatched, AreOutlines, IsOwn, number_at, owns_seen}
use Rattle.slotted_outlines.proofs.Seen.{length-owns, length-stacks}
use Rattle.slotted_outlines.proofs.Opened.{stack_at, own_seen_at}

pub length-skeleton : (f g s : Form) → AreMatched f g s → length f.names ≡ length (scopes f.tree) → length s.names ≡ length f.names
length-skeleton f g s m e =
    let a = ap length m.marked in
    let b = ap (λ t. length (scopes t)) m.outline in
    omega (arith, length-marks f.tree)

-- the binders above a child
pub above-within : (t u : Tree) (xs bs : List ℕ) (k : ℕ) → outlined t ≡ t → u ≡ t → k < length (children t) → slice_index_or (stacks bs u xs) k bs ≡ opened (child_place t k) (scopes t) xs bs
above-within t u xs bs k e f h =
    let c = ap (λ v. length (children v)) e in
    ap (λ v. slice_index_or (stacks bs v xs) k bs) f
    ∙ (stack_at t [] xs bs k bs (omega arith) ∙ (λ i. opened (child_place (e i) k) ((ap (λ s. s ++ []) (ap scopes e) ∙ append-nil (scopes t)) i) xs bs))

pub above-past : (t u : Tree) (xs bs : List ℕ) (k : ℕ) → outlined t ≡ t → u ≡ t → length (children t) ≤ k → slice_index_or (stacks bs u xs) k bs ≡ bs
above-past t u xs bs k e f h =
    let c = ap (λ v. length (children v)) e in
    ap (λ v. slice_index_or (stacks bs v xs) k bs) f ∙ get_or_past (stacks bs t xs) k bs (omega (arith, length-stacks bs t xs))

own-seen : (t u : Tree) (xs bs : List ℕ) (i : ℕ) → outlined t ≡ t → u ≡ t → i < length (scopes t) → slice_index (owns bs u xs) i ≡ own_at (slice_index (marks t) i) (slice_index_or (scopes t) i None) (opened i (scopes t) xs bs) (slice_index xs i)
own-seen t u xs bs i e f h =
    let c = ap (λ v. length (scopes v)) e in
    ap (λ v. slice_index (owns bs v xs) i) f
    ∙ (own_seen_at t [] xs bs i (omega arith) ∙ (λ j. own_at (slice_index (marks t) i) (slice_index_or (scopes (e j)) i None) (opened i ((ap (λ s. s ++ []) (ap scopes e) ∙ append-nil (scopes t)) j) xs bs) (slice_index xs i)))

own_at-own : (m : ℕ) (o : Option ℕ) (bs : List ℕ) (x : ℕ) → (m ≡ 0) × (o ≡ None) → own_at m o bs x ≡ own_at 0 None bs x
own_at-own m o bs x h = λ i. own_at (h.0 i) (h.1 i) bs x

own_at-other : (m : ℕ) (o : Option ℕ) (bs : List ℕ) (x : ℕ) → ((m ≡ 0) × (o ≡ None) → ⊥) → own_at m o bs x ≡ 0
own_at-other zero None bs x h = absurd (h (refl, refl))
own_at-other zero (Some n) bs x h = refl
own_at-other (suc m) None bs x h = refl
own_at-other (suc m) (Some n) bs x h = refl

module _ (f g s : Form) (bs cs : List ℕ) (i : ℕ) (m : AreMatched f g s) (fits : length f.names ≡ length (scopes f.tree)) (within : i < length f.names) where
  -- at an own name
  pub own_same : IsOwn f.tree i → (number_at f bs i ≡ number_at g cs i) ↔ (slice_index (owns_seen f bs) i ≡ slice_index (owns_seen g cs) i)
  own_same h =
      let l = own-seen f.tree f.tree f.names bs i m.outline refl (omega arith) ∙ own_at-own (slice_index (marks f.tree) i) (slice_index_or (scopes f.tree) i None) (opened i (scopes f.tree) f.names bs) (slice_index f.names i) h in
      let r = own-seen f.tree g.tree g.names cs i m.outline m.same (omega arith) ∙ own_at-own (slice_index (marks f.tree) i) (slice_index_or (scopes f.tree) i None) (opened i (scopes f.tree) g.names cs) (slice_index g.names i) h in
      let n = ap (λ t. number_in (opened i (scopes t) g.names cs) (slice_index g.names i)) m.same in
      (λ e. l ∙ (ap suc (e ∙ n) ∙ sym r), λ e. suc_inj (sym l ∙ (e ∙ r)) ∙ sym n)

  -- elsewhere
  pub other_same : (IsOwn f.tree i → ⊥) → slice_index (owns_seen f bs) i ≡ slice_index (owns_seen g cs) i
  other_same h =
      own-seen f.tree f.tree f.names bs i m.outline refl (omega arith)
      ∙ (own_at-other (slice_index (marks f.tree) i) (slice_index_or (scopes f.tree) i None) (opened i (scopes f.tree) f.names bs) (slice_index f.names i) h
      ∙ sym (own-seen f.tree g.tree g.names cs i m.outline m.same (omega arith)
      ∙ own_at-other (slice_index (marks f.tree) i) (slice_index_or (scopes f.tree) i None) (opened i (scopes f.tree) g.names cs) (slice_index g.names i) h))

-- names that are seen alike at each place
pub owns_same : (f g s : Form) (bs cs : List ℕ) → AreMatched f g s → length f.names ≡ length (scopes f.tree) → ((i : ℕ) → i < length f.names → slice_index (owns_seen f bs) i ≡ slice_index (owns_seen g cs) i) → owns_seen f bs ≡ owns_seen g cs
owns_same f g s bs cs m fits h =
    let a = ap (λ t. length (scopes t)) m.outline in
    let b = ap (λ t. length (scopes (outlined t))) m.same in
    ext_get_or 0 (owns_seen f bs) (owns_seen g cs) (omega (arith, length-owns bs f.tree f.names, length-owns cs g.tree g.names)) (λ i l. h i (omega (arith, length-owns bs f.tree f.names)))

-- an answer to one of two facts that hold together is one to the other
pub IfOk-same : {E P Q : Type 0} (r : Result Bool E) → (P ↔ Q) → IfOk r (λ b. IsTrue b ↔ P) → IfOk r (λ b. IsTrue b ↔ Q)
IfOk-same r e h = IfOk-weaker r (λ b. IsTrue b ↔ _) (λ b. IsTrue b ↔ _) (λ b k. (λ t. e.0 (k.0 t), λ q. k.1 (e.1 q))) h

-- the outlines of a and b, with their skeletons s and z
module _ (a b f g s z : Form) (left : f ≡ outlined_form 0 a) (right : g ≡ outlined_form 0 b) (skeleton : s ≡ skeleton_form f) (other : z ≡ skeleton_form g) where
  -- outlines with equal skeletons
  pub alike_outlines : s ≡ z → AreOutlines a b f g
  alike_outlines e =
      let d : skeleton_form (outlined_form 0 a) ≡ skeleton_form (outlined_form 0 b) = ap skeleton_form (sym left) ∙ (sym skeleton ∙ (e ∙ (other ∙ ap skeleton_form right))) in
      record {
        left = left;
        right = right;
        alike = record {
          operator = ap (λ h. h.operator) d;
          payloads = ap (λ h. h.payloads) d;
          tree = sym (outlined-outlined a.tree) ∙ (ap (λ h. h.tree) d ∙ outlined-outlined b.tree);
        };
      }

  pub alike_matched : IsSmall f → s ≡ z → AreMatched f g s
  alike_matched small e =
      let o = alike_outlines e in
      record {
        small = small;
        outline = ap outlined (ap (λ h. h.tree) left) ∙ (outlined-outlined a.tree ∙ ap (λ h. h.tree) (sym left));
        same = ap (λ h. h.tree) right ∙ (sym o.alike.tree ∙ ap (λ h. h.tree) (sym left));
        marked = ap (λ h. h.names) skeleton;
      }

-- an outline has as many places as its outline
pub length-outlined_outline : (f a : Form) → f ≡ outlined_form 0 a → length f.names ≡ length (scopes f.tree) → length (outlined_form 0 f).names ≡ length f.names
length-outlined_outline f a e h =
    let o = ap outlined (ap (λ h. h.tree) e) ∙ (outlined-outlined a.tree ∙ ap (λ h. h.tree) (sym e)) in
    let l = ap (λ t. length (scopes t)) o in
    omega (arith, length-outlined_names 0 f.tree f.names)

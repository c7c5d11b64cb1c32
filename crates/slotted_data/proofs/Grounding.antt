-- Where data comes from, where a graph grows, classes are made, and values are merged and go upwards.
use Rattle.std.proofs.Common.{◌≡◌, ◌<◌, ℕ, zero, suc, List, [], length, map, true, false, cond, sym, ◌∙◌, ap, refl, subst, inl, inr, arith, Some}
use Rattle.std.specs.Prelude.{Contains, nat_lt}
use Rattle.std.proofs.lemmas.Bool.{cases_eq, cases_lt, ltb-true}
use Rattle.std.proofs.lemmas.Option.{get_or_from_slice_get, slice_get_within, slice_get-get_or}
use Rattle.std.proofs.Math.ListN.{get_or-append}
use Rattle.slotted_lists.proofs.Contained.{Contains-nil}
use Rattle.slotted_theory.specs.Nameless.{DTerm}
use Rattle.slotted_model.specs.Classes.{Canonical, IsFull, canonical_node}
use Rattle.slotted_model.specs.Changes.{GoesOn}
use Rattle.slotted_model.specs.Correspondence.{identity}
use Rattle.slotted_model.specs.Find.{Linked, find_class, used_slots}
use Rattle.slotted_model.specs.Rebuild.{acts}
use Rattle.slotted_model.specs.Rest.{AtRest, IsAligned, Sane}
use Rattle.slotted_model.specs.State.{Row, State, child_classes}
use Rattle.slotted_model.proofs.Finds.Finding.{leads, find_class-live, found-live, found-in_range}
use Rattle.slotted_model.proofs.Rebuilding.GoingOn.{used-valid}
use Rattle.slotted_model.proofs.Rebuilding.KeepingLookUps.{children-below}
use Rattle.slotted_model.proofs.Rebuilding.Turning.{turned}
use Rattle.slotted_model_analyses.specs.Analysis.{Analysis, IsMerge}
use Rattle.slotted_model_analyses.specs.DataPart.{DataPart, Merges, absorbed, lowered, RunsWithData, starts, takes_turn, takes_data, takes_act, TakesData, takes, made, with_data}
use Rattle.slotted_model_analyses.proofs.CarriedData.{row-made}
use Rattle.slotted_model_analyses.proofs.Heights.{with_data-here, with_data-other}
use Rattle.slotted_model_analyses.proofs.Writing.{graph-stays}
use Rattle.slotted_classes.specs.Kept.{Kept, nodes_of, entries_of}
use Rattle.slotted_classes.proofs.KeptLists.{length-nodes_of}
use Rattle.slotted_classes.proofs.ClassNodes.{node-is}
use Rattle.slotted_data.specs.Meaning.{Meaning, by_bare_nodes}
use Rattle.slotted_data.proofs.Merging.{makes-alike}
use Rattle.slotted_data.specs.Grounded.{Grounds, IsGrounded, at_first, by_find, by_merge, by_node, IsOldOr, StaysFound}
use Rattle.slotted_data.specs.Held.{Held}
use Rattle.slotted_data.specs.Made.{AddsNew, data_in, source_class}
use Rattle.slotted_data.specs.Users.{found_in}

-- nodes and finds that stay
pub stays-itself : (nodes : List DTerm) (find : ℕ → ℕ) → StaysFound nodes nodes find find
stays-itself nodes find = record { stays = λ i within. (within, refl); together = λ b c in_b in_c same. same }

pub stays-then : (nodes later last : List DTerm) (find found ends : ℕ → ℕ) → StaysFound nodes later find found → StaysFound later last found ends → StaysFound nodes last find ends
stays-then nodes later last find found ends first second = record {
  stays = λ i within. let f = first.stays i within in let s = second.stays i f.0 in (s.0, s.1 ∙ f.1);
  together = λ b c in_b in_c same. second.together b c (first.stays b in_b).0 (first.stays c in_c).0 (first.together b c in_b in_c same);
}

-- what comes from data that comes from elsewhere comes from there, in a later graph too
module _ {D : Type 0} (a : Analysis D) (nodes later : List DTerm) (find found : ℕ → ℕ) (stays : StaysFound nodes later find found) (S T : ℕ → D → Type 0)
    (first : (i : ℕ) (x : D) → S i x → IsGrounded a later found T i x) where
  pub grounded-later : {c : ℕ} {x : D} → IsGrounded a nodes find S c x → IsGrounded a later found T c x
  grounded-later (at_first c x s) = first c x s
  grounded-later (by_node c δ within each) =
      let same : canonical_node later c ≡ canonical_node nodes c = (stays.stays c within).1 in
      subst (λ (n : DTerm). IsGrounded a later found T c (a.make n (map δ (child_classes n.args)))) same
      (by_node c δ (stays.stays c within).0 (λ b there. grounded-later (each b (subst (λ (n : DTerm). Contains (child_classes n.args) b) same there))))
  grounded-later (by_merge c x y p q) = by_merge c x y (grounded-later p) (grounded-later q)
  grounded-later (by_find b c x in_b in_c same p) = by_find b c x (stays.stays b in_b).0 (stays.stays c in_c).0 (stays.together b c in_b in_c same) (grounded-later p)

module _ {D : Type 0} (a : Analysis D) (S : ℕ → D → Type 0) where
  -- the data of each class comes from S
  abbrev pub EachGrounded : List DTerm → (ℕ → ℕ) → (ℕ → D) → Type 0
  EachGrounded nodes find data_of = (i : ℕ) → i < length nodes → IsGrounded a nodes find S i (data_of i)

  -- by lists, where there is data for each class
  module _ (nodes : List DTerm) (find : ℕ → ℕ) (values : List D) (count : length values ≡ length nodes) where
    pub grounds-each : Grounds a nodes find S values → (x : D) → EachGrounded nodes find (data_in x values)
    grounds-each g x i within = g i (data_in x values i) (slice_get-get_or values i x (omega (arith, within, count)))

    pub each-grounds : ((x : D) → EachGrounded nodes find (data_in x values)) → Grounds a nodes find S values
    each-grounds each i x at =
        let within = slice_get_within values i x at in
        subst (IsGrounded a nodes find S i) (get_or_from_slice_get values i x x at) (each x i (omega (arith, within, count)))

  -- what is merged comes from where both do
  pub merge-grounded : {g : State} {s : DataPart D} {c : ℕ} {v : D} {t : DataPart D} → EachGrounded g.nodes (find_class g.found) s.data_of → IsGrounded a g.nodes (find_class g.found) S c v → Merges a g s c v t →
      EachGrounded g.nodes (find_class g.found) t.data_of
  merge-grounded each from (absorbed e) = each
  merge-grounded {g = g} {s = s} {c = c} {v = v} each from (lowered pending changed n touched noted) = λ i within.
      let w : D = a.merge (s.data_of c) v in
      elim (cases_eq i c) [
        | inl e ↦
            let here : IsGrounded a g.nodes (find_class g.found) S c w = by_merge c (s.data_of c) v (each c (subst (λ j. j < length g.nodes) e within)) from in
            subst (λ j. IsGrounded a g.nodes (find_class g.found) S j (with_data s.data_of c w j)) (sym e)
            (subst (IsGrounded a g.nodes (find_class g.found) S c) (sym (with_data-here s.data_of c w)) here)
        | inr n ↦ subst (IsGrounded a g.nodes (find_class g.found) S i) (sym (with_data-other s.data_of c w i n)) (each i within)
      ]

module _ {D : Type 0} (meaning : Meaning D) (law : IsMerge D (by_bare_nodes meaning)) (S : ℕ → D → Type 0) (h : State) (rest : AtRest h) where
  abbrev a : Analysis D
  a = by_bare_nodes meaning

  abbrev Each : (ℕ → D) → Type 0
  Each data_of = EachGrounded a S h.nodes (find_class h.found) data_of

  pub found-same : (c : ℕ) → c < length h.nodes → (find_class h.found c < length h.nodes) × (find_class h.found (find_class h.found c) ≡ find_class h.found c)
  found-same c l =
      let led = leads h.nodes h.found rest.sane.sound.linked in
      let f = found-in_range h.nodes h.found led c l in
      (f, find_class-live h.nodes h.found led (find_class h.found c) f (found-live h.nodes h.found led c l))

  -- what a row makes comes from the data of its children
  row-grounded : (t : DataPart D) → Each t.data_of → (r : Row) → Contains h.rows r → IsGrounded a h.nodes (find_class h.found) S (find_class h.found r.source) (made a t r.shape)
  row-grounded t each r there =
      let o : ℕ = r.source in
      let within : o < length h.nodes = (rest.sane.filed.each r there).in_range in
      let node : DTerm = canonical_node h.nodes o in
      let δ : ℕ → D = λ c. t.data_of (find_class h.found c) in
      let own : IsGrounded a h.nodes (find_class h.found) S o (a.make node (map δ (child_classes node.args))) =
      by_node o δ within (λ c child.
      let older : c < o = children-below (λ b. (b.0 < o) × IsFull h.nodes b) o (λ b f. f.0) node.args (rest.sane.sound.canonical.children o within) c child in
      let l : c < length h.nodes = omega (arith, older, within) in
      let f = found-same c l in
      by_find (find_class h.found c) c (δ c) f.0 l f.1 (each (find_class h.found c) f.0)) in
      let f = found-same o within in
      subst (IsGrounded a h.nodes (find_class h.found) S (find_class h.found o)) (sym (row-made (λ _. Unit {0}) a law (makes-alike meaning) (λ _ _ _ _. tt) h rest (λ _ _. tt) t r there))
      (by_find o (find_class h.found o) (a.make node (map δ (child_classes node.args))) within f.0 (sym f.1) own)

  turn-grounded : {t u : DataPart D} → Each t.data_of → TakesData a h t u → Each u.data_of
  turn-grounded {t = t} each (takes r there waits alone merges) = merge-grounded a S each (row-grounded t each r there) merges

  -- turns for data alone bring in nothing else
  pub run-grounded : {s : DataPart D} {n : ℕ} {g : State} {t : DataPart D} → Each s.data_of → RunsWithData a h s n g t → Each t.data_of
  run-grounded each starts = each
  run-grounded each (takes_turn {g = g} r k x) =
      let e : g ≡ h = graph-stays a rest r in
      let w : 0 < length g.waiting = (turned k (subst Sane (sym e) rest.sane)).waited in
      let z : length g.waiting ≡ 0 = ap (λ (x : State). length x.waiting) e ∙ ap (λ (xs : List ℕ). length xs) rest.nothing_waits in
      absurd (omega arith)
  run-grounded each (takes_data {t = t} {u = u} r k) = turn-grounded (run-grounded each r) (subst (λ (x : State). TakesData a x t u) (graph-stays a rest r) k)
  run-grounded each (takes_act {g = g} r (acts y c n u) x) =
      let e : g ≡ h = graph-stays a rest r in
      absurd (n (subst (λ (x : State). Contains x.symmetries y → IsAligned x y) (sym e) (rest.aligned y) c))

-- the data of new classes comes from that of older ones
module _ {D : Type 0} (meaning : Meaning D) (l : Kept) (linked : Linked (nodes_of l) (entries_of l)) (canonical : Canonical (nodes_of l)) (given : List (ℕ × D)) (d e : Held D)
    (new : AddsNew meaning l d e) (count : length e.values ≡ length l.classes) (x : D) where
  abbrev From : ℕ → D → Type 0
  From = IsGrounded (by_bare_nodes meaning) (nodes_of l) (found_in l) (IsOldOr given d.values)

  up-to : (n i : ℕ) → i < n → i < length (nodes_of l) → From i (data_in x e.values i)
  up-to zero i below within = absurd (omega arith)
  up-to (suc n) i below within = elim (cases_lt i (length d.values)) [
    | inl old ↦
        let same : data_in x e.values i ≡ data_in x d.values i = ap (λ vs. data_in x vs i) new.values ∙ get_or-append d.values new.more x i old in
        at_first i (data_in x e.values i) (inl (slice_get-get_or d.values i x old ∙ ap Some (sym same)))
    | inr past ↦
        let classes = length-nodes_of l in
        let in_l : i < length l.classes = omega (arith, within, classes) in
        let δ : ℕ → D = λ c. data_in x e.values (source_class (entries_of l) i c) in
        let child : (c : ℕ) → Contains (child_classes (canonical_node (nodes_of l) i).args) c → From c (δ c) =
        λ c there.
        let older : c < i = children-below (λ b. (b.0 < i) × IsFull (nodes_of l) b) i (λ b f. f.0) (canonical_node (nodes_of l) i).args (canonical.children i within) c there in
        let in_c : c < length (nodes_of l) = omega (arith, older, within) in
        let led = leads (nodes_of l) (entries_of l) linked in
        let f = found-in_range (nodes_of l) (entries_of l) led c in_c in
        elim (nat_lt (found_in l c) i) as (λ b. nat_lt (found_in l c) i ≡ b → From c (data_in x e.values (cond b (found_in l c) c))) [
          | true ↦ λ is.
              let lower = ltb-true (found_in l c) i is in
              by_find (found_in l c) c (data_in x e.values (found_in l c)) f in_c (find_class-live (nodes_of l) (entries_of l) led (found_in l c) f (found-live (nodes_of l) (entries_of l) led c in_c))
              (up-to n (found_in l c) (omega (arith, lower, below)) f)
          | false ↦ λ is. up-to n c (omega (arith, older, below)) in_c
        ] refl in
        subst (From i) (sym (new.made i past (omega (arith, in_l, count)) x))
        (subst (λ (t : DTerm). From i ((by_bare_nodes meaning).make t (map δ (child_classes t.args)))) (sym (node-is l i in_l)) (by_node i δ within child))
  ]

  pub new-grounded : EachGrounded (by_bare_nodes meaning) (IsOldOr given d.values) (nodes_of l) (found_in l) (data_in x e.values)
  new-grounded i within = up-to (suc i) i (omega arith) within

-- data that comes from data that comes from somewhere
module _ {D : Type 0} (a : Analysis D) (nodes later : List DTerm) (find found : ℕ → ℕ) (stays : StaysFound nodes later find found) (given : List (ℕ × D)) (values middle newer : List D) where
  pub grounds-then : Grounds a nodes find (IsOldOr given values) middle → Grounds a later found (IsOldOr [] middle) newer → Grounds a later found (IsOldOr given values) newer
  grounds-then first second i x at =
      grounded-later a later later found found (stays-itself later found) (IsOldOr [] middle) (IsOldOr given values) (λ j y from. elim from [
        | inl old ↦ grounded-later a nodes later find found stays (IsOldOr given values) (IsOldOr given values) (λ k z s. at_first k z s) (first j y old)
        | inr none ↦ absurd (Contains-nil (j, y) none)
      ]) (second i x at)

-- what is there comes from there
pub grounds-itself : {D : Type 0} (a : Analysis D) (nodes : List DTerm) (find : ℕ → ℕ) (given : List (ℕ × D)) (values : List D) → Grounds a nodes find (IsOldOr given values) values
grounds-itself a nodes find given values i x at = at_first i x (inl at)

-- finds that agree on classes
pub stays-named : (nodes : List DTerm) (find found : ℕ → ℕ) → ((i : ℕ) → i < length nodes → find i ≡ found i) → StaysFound nodes nodes find found
stays-named nodes find found same = record {
  stays = λ i within. (within, refl);
  together = λ b c in_b in_c is. sym (same b in_b) ∙ (is ∙ same c in_c);
}

-- a graph that goes on
pub goes-stays : (g h : State) → Linked g.nodes g.found → GoesOn g h → StaysFound g.nodes h.nodes (find_class g.found) (find_class h.found)
goes-stays g h linked goes = record {
  stays = goes.classes;
  together = λ b c in_b in_c same. later b in_b ∙ (ap (find_class h.found) same ∙ sym (later c in_c));
}
  where
    later : (i : ℕ) → i < length g.nodes → find_class h.found i ≡ find_class h.found (find_class g.found i)
    later i within = ap (λ b. b.0) (goes.finds (i, identity (used_slots g.found i)) (used-valid g linked i within)).1

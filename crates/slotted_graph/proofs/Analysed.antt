-- What a graph keeps by its analysis, told by its parts.
use Rattle.std.proofs.Common.{◌≡◌, ◌<◌, ℕ, List, [], ◌∷◌, Bool, true, false, nat_eq, length, map, Option, Some, None, sym, ◌∙◌, ap, refl, subst, arith, inl, inr}
use Rattle.std.proofs.lemmas.Bool.{ltb-true}
use Rattle.std.specs.Prelude.{◌↔◌, ◌&&◌, Contains, Result, Ok, Err, IfOk, OnErr, count_by, nat_lt, slice_get}
use Rattle.std.specs.Coded.{Coded}
use Rattle.std.specs.List.{filter}
use Rattle.std.specs.List.Sorted.{IsPermutation, IsSorted}
use Rattle.std.specs.Ordering.{nat_cmp}
use Rattle.slotted_lists.proofs.Contained.{map-agree}
use Rattle.slotted_lists.proofs.Options.{Some-same}
use Rattle.slotted_slots.specs.declared.error.Error.{Error}
use Rattle.slotted_model.specs.Applied.{Applied}
use Rattle.slotted_model.specs.Changes.{GoesOn}
use Rattle.slotted_model.specs.Find.{Entry, Linked, find_class}
use Rattle.slotted_model.specs.Rest.{AtRest}
use Rattle.slotted_model.specs.State.{child_classes}
use Rattle.slotted_model.proofs.Rebuilding.GoingOn.{goes_on-same}
use Rattle.slotted_model_analyses.specs.Analysis.{Absorbs, Analysis, IsMerge}
use Rattle.slotted_proofs.specs.Entries.{Proven}
use Rattle.slotted_classes.specs.Kept.{EntersIn, Kept, entries_of, find_at, nodes_of}
use Rattle.slotted_classes.proofs.KeptLists.{entry_at-of, length-entries_of, length-nodes_of}
use Rattle.slotted_hashcons.specs.FiledRows.{Rows, rows_in}
use Rattle.slotted_hashcons.specs.WellFiled.{state_in}
use Rattle.slotted_data.specs.Meaning.{Meaning, by_bare_nodes}
use Rattle.slotted_data.specs.Held.{Held, with_none_changed}
use Rattle.slotted_data.specs.Lowering.{quiet}
use Rattle.slotted_data.specs.Made.{data_in}
use Rattle.slotted_data.specs.Carrying.{Carried, CarriedWith, DataRests, HasCarriedAll, MergesIn}
use Rattle.slotted_data.specs.Grounded.{Grounds, at_first, IsOldOr, StaysFound}
use Rattle.slotted_data.specs.Part.{Part, part_by, part_code, part_in}
use Rattle.slotted_data.specs.Users.{found_in}
use Rattle.slotted_data.proofs.Grounding.{goes-stays, grounded-later, stays-named, stays-then}
use Rattle.slotted_data.specs.Pending.{ArePending, lives_in}
use Rattle.slotted_data.proofs.Resting.{rests-proved}
use Rattle.slotted_data.proofs.TakenData.{row-child, row-within}
use Rattle.slotted_data.proofs.Telling.{carried-falls, carried-notes, rest-absorbs, rest-has}
use Rattle.slotted_operations.specs.Causes.{class_found}
use Rattle.slotted_operations.specs.Explaining.{ProvesIfAlike}
use Rattle.slotted_operations.specs.Good.{Good, RestsWith, image_of}
use Rattle.slotted_operations.specs.Graph.{Graph}
use Rattle.slotted_operations.specs.Image.{Image}
use Rattle.slotted_graph.proofs.Since.{carried-same}
use Rattle.slotted_operations.proofs.Graphs.Images.{class_found-is}
use Rattle.slotted_operations.specs.Reports.{finds_itself}
use Rattle.slotted_operations.proofs.Graphs.Reports.{compared-alike, live-is}
use Rattle.slotted_operations.proofs.Graphs.AtRest.{at-rest}
use Rattle.slotted_graph.specs.Analysed.{AbsorbsMade, CarriesData, CarriesDataWith, CountsPending, HasData, KeepsFound, KeepsPart, MergesData, TakesPending, datum_in, is_live_class}

-- the classes that are found, by an image
image-finds : (k : Kept) → StaysFound (nodes_of k) (nodes_of k) (found_in k) (class_found (image_of k))
image-finds k = stays-named (nodes_of k) (found_in k) (class_found (image_of k)) (λ i within. let n = length-nodes_of k in sym (class_found-is k i (omega (arith, within, n))))

finds-image : (k : Kept) → StaysFound (nodes_of k) (nodes_of k) (class_found (image_of k)) (found_in k)
finds-image k = stays-named (nodes_of k) (class_found (image_of k)) (found_in k) (λ i within. let n = length-nodes_of k in class_found-is k i (omega (arith, within, n)))

images-stay : (k : Kept) (r : Rows) (l : Kept) (q : Rows) → Linked (nodes_of k) (entries_of k) → GoesOn (state_in k r) (state_in l q) → (g h : Image) → image_of k ≡ g → image_of l ≡ h → KeepsFound g h
images-stay k r l q linked goes g h older newer =
    let first = stays-then (nodes_of k) (nodes_of k) (nodes_of l) (class_found (image_of k)) (found_in k) (found_in l) (finds-image k) (goes-stays (state_in k r) (state_in l q) linked goes) in
    let all : KeepsFound (image_of k) (image_of l) = stays-then (nodes_of k) (nodes_of l) (nodes_of l) (class_found (image_of k)) (found_in l) (class_found (image_of l)) first (image-finds l) in
    subst (λ (z : Image). KeepsFound z h) older (subst (KeepsFound (image_of k)) newer all)

image-grounded : {D : Type 0} (a : Analysis D) (l : Kept) (S : ℕ → D → Type 0) (values : List D) (h : Image) → image_of l ≡ h → Grounds a (nodes_of l) (found_in l) S values → Grounds a h.canonical (class_found h) S values
image-grounded a l S values h newer from =
    subst (λ (z : Image). Grounds a z.canonical (class_found z) S values) newer
    (λ i x at. grounded-later a (nodes_of l) (nodes_of l) (found_in l) (class_found (image_of l)) (image-finds l) S S (λ j y s. at_first j y s) (from i x at))

module _ {N D : Type 0} (codes : Coded N × Coded D) (meaning : N → Meaning D) (n : N) (m : ℕ) (k : Kept) (r : Rows) (d : Held D) (g : Graph)
    (image : image_of k ≡ g.image) (part : g.part ≡ part_by codes n m d) where
  -- what a class finds
  class-is : (i : ℕ) → i < length k.classes → class_found g.image i ≡ find_class (entries_of k) i
  class-is i within = ap (λ (x : Image). class_found x i) (sym image) ∙ class_found-is k i within

  pub has-data : (i : ℕ) → i < length k.classes → (x : D) → slice_get d.values (find_class (entries_of k) i) ≡ Some x → HasData codes g i x
  has-data i within x is = record { part = part_in n m d; keeps = part; is = ap (slice_get d.values) (class-is i within) ∙ is }

  module _ (rests : DataRests (by_bare_nodes (meaning n)) k r d) (filed : rows_in r.filed ≡ g.filed) where
    datum-is : (x : D) (i : ℕ) → i < length k.classes → datum_in g (part_in n m d) x i ≡ data_in x d.values (find_class (entries_of k) i)
    datum-is x i within = ap (data_in x d.values) (class-is i within)

    still-rest : AtRest (state_in k (quiet r))
    still-rest = subst (λ w. AtRest (state_in k (record { filed = r.filed; waiting = w }))) rests.rest.nothing_waits rests.rest

    pub absorbs-made : AbsorbsMade codes meaning g
    absorbs-made = record {
      part = part_in n m d;
      keeps = part;
      absorbs = λ x w there.
          let row : Contains (rows_in r.filed) w = subst (λ ws. Contains ws w) (sym filed) there in
          let a = by_bare_nodes (meaning n) in
          let children : map (datum_in g (part_in n m d) x) (child_classes w.shape.args) ≡ map (data_in x d.values) (child_classes w.shape.args) =
          map-agree (datum_in g (part_in n m d) x) (data_in x d.values) (child_classes w.shape.args) (λ c h.
          let live = row-child k r still-rest w row c h in
          datum-is x c live.0 ∙ ap (data_in x d.values) live.1) in
          subst (λ y. Absorbs a y (a.make w.shape (map (datum_in g (part_in n m d) x) (child_classes w.shape.args)))) (sym (datum-is x w.source (row-within k r still-rest w row)))
          (subst (λ ys. Absorbs a (data_in x d.values (find_class (entries_of k) w.source)) (a.make w.shape ys)) (sym children) (rest-absorbs a k r d rests x w row));
    }

    -- data that was carried along to a later graph
    pub carries-data-with : (given : List (ℕ × D)) (l : Kept) (q : Rows) (e : Held D) (h : Graph) → image_of l ≡ h.image → h.part ≡ part_by codes n m e → GoesOn (state_in k r) (state_in l q) →
        CarriedWith given (by_bare_nodes (meaning n)) k r l q d e → CarriesDataWith given codes meaning g h
    carries-data-with given l q e h newer later goes carried = record {
      older = part_in n m d;
      newer = part_in n m e;
      before = part;
      after = later;
      analysis = refl;
      rounds = refl;
      falls = λ i within x old.
          let before : i < length (nodes_of k) = subst (λ ns. i < length ns) (ap (λ (z : Image). z.canonical) (sym image)) within in
          let classes = length-nodes_of k in
          let here : i < length k.classes = omega (arith, before, classes) in
          let entries = length-entries_of k in
          let within-entries : i < length (entries_of k) = omega (arith, here, entries) in
          let counts = length-nodes_of l in
          let on = (goes.classes i before).0 in
          let there : i < length l.classes = omega (arith, on, counts) in
          let a = by_bare_nodes (meaning n) in
          let y = data_in x e.values (find_class (entries_of l) i) in
          let has : slice_get e.values (find_class (entries_of l) i) ≡ Some y = rest-has a l q e carried.rests i there x in (
            y,
            ap (slice_get e.values) (ap (λ (z : Image). class_found z i) (sym newer) ∙ class_found-is l i there) ∙ has,
            carried-falls a k r l q d e rests carried i within-entries x y (ap (slice_get d.values) (sym (class-is i here)) ∙ old) has,
          );
      stays = images-stay k r l q rests.rest.sane.sound.linked goes g.image h.image image newer;
      comes = image-grounded (by_bare_nodes (meaning n)) l (IsOldOr given d.values) e.values h.image newer carried.grounded;
      notes = carried-notes (by_bare_nodes (meaning n)) k r l q d e rests carried;
      counts = carried.counts;
    }

    pub carries-data : (l : Kept) (q : Rows) (e : Held D) (h : Graph) → image_of l ≡ h.image → h.part ≡ part_by codes n m e → GoesOn (state_in k r) (state_in l q) →
        Carried (by_bare_nodes (meaning n)) k r l q d e → CarriesData codes meaning g h
    carries-data l q e h newer later goes carried = carries-data-with [] l q e h newer later goes carried

-- a checked step enters proofs alone
pub data-checked : {D : Type 0} (meaning : Meaning D) (o : Result ℕ Error) (k l : Kept) (r : Rows) (d : Held D) (x : Proven) → Good l → RestsWith l r → DataRests (by_bare_nodes meaning) k r d → IfOk o (EntersIn k l x) →
    OnErr o (l ≡ k) → DataRests (by_bare_nodes meaning) l r d
data-checked meaning (Ok p) k l r d x good rests h enters same = rests-proved (by_bare_nodes meaning) k l enters.proofs r d enters.kept (at-rest l r good rests) h
data-checked meaning (Err e) k l r d x good rests h enters same = subst (λ m. DataRests (by_bare_nodes meaning) m r d) (sym same) h

-- an explanation of two ids enters proofs alone
pub data-proved : {D : Type 0} (meaning : Meaning D) (k l : Kept) (r : Rows) (d : Held D) (a b : Applied) (o : Option ℕ) → ProvesIfAlike k l a b o → Good l → RestsWith l r → DataRests (by_bare_nodes meaning) k r d →
    DataRests (by_bare_nodes meaning) l r d
data-proved meaning k l r d a b (Some p) proves good rests h = rests-proved (by_bare_nodes meaning) k l proves.1.only.proofs r d proves.1.only.kept (at-rest l r good rests) h
data-proved meaning k l r d a b None proves good rests h = subst (λ m. DataRests (by_bare_nodes meaning) m r d) (sym proves.0) h

-- what is kept of an analysis where no class was made and none died
pub kept-part : {N D : Type 0} (codes : Coded N × Coded D) (meaning : N → Meaning D) (n : N) (m : ℕ) (k : Kept) (r : Rows) (d : Held D) → DataRests (by_bare_nodes (meaning n)) k r d → (l : Kept) → l ≡ k → (e : Held D) →
    (HasCarriedAll l d → e ≡ d) → part_by codes n m e ≡ part_by codes n m d
kept-part codes meaning n m k r d rests l same e still = ap (part_by codes n m) (still (carried-same (by_bare_nodes (meaning n)) k r d rests l same))

-- what was merged in was carried along in one graph
pub merged-carried : {D : Type 0} (a : Analysis D) → IsMerge D a → (k : Kept) (r : Rows) (i : ℕ) (v : D) (d e : Held D) → MergesIn a k r i v d e → CarriedWith ((i, v) ∷ []) a k r k r d e
merged-carried a law k r i v d e m = record {
  rests = m.rests;
  counts = m.counts;
  grounded = m.grounded;
  down = λ x c h. (m.down x).lower (find_class (entries_of k) c);
  noted = λ x. record {
    kept = (m.down x).kept;
    noted = λ c h none. (
      h,
      elim (law.decided (data_in x e.values c) (data_in x d.values c)) [
        | inl same ↦ same
        | inr other ↦ absurd (none ((m.down x).noted c other))
      ],
    );
  };
}

-- what the graph keeps is what its parts are
pub part-is : {N D : Type 0} (codes : Coded N × Coded D) (n : N) (m : ℕ) (e : Held D) (g : Graph) → g.part ≡ part_by codes n m e → (p : Part N D) → KeepsPart codes g p → p ≡ part_in n m e
part-is codes n m e g is p keeps = (part_code codes).inj p (part_in n m e) (sym keeps ∙ is)

-- a value was merged in
pub merges-data : {N D : Type 0} (codes : Coded N × Coded D) (meaning : N → Meaning D) (n : N) (m : ℕ) (law : IsMerge D (by_bare_nodes (meaning n))) (k : Kept) (r : Rows) (d e : Held D) (g h : Graph) → image_of k ≡ g.image → image_of k ≡ h.image →
    g.part ≡ part_by codes n m d → h.part ≡ part_by codes n m e → rows_in r.filed ≡ g.filed → DataRests (by_bare_nodes (meaning n)) k r d →
    (i : ℕ) → i < length k.classes → (v : D) → MergesIn (by_bare_nodes (meaning n)) k r i v d e → MergesData codes meaning g h i v
merges-data codes meaning n m law k r d e g h before after older newer filed rests i within v into = record {
  carries = carries-data-with codes meaning n m k r d g before older rests filed ((i, v) ∷ []) k r e h after newer (goes_on-same (state_in k r) rests.rest.sane.sound.linked) (merged-carried (by_bare_nodes (meaning n)) law k r i v d e into);
  absorbs = record {
    part = part_in n m e;
    keeps = newer;
    datum = data_in v e.values (find_class (entries_of k) i);
    has = ap (slice_get e.values) (class-is codes meaning n m k r e h after newer i within) ∙ rest-has (by_bare_nodes (meaning n)) k r e into.rests i within v;
    absorbs = into.absorbs v;
  };
}

-- a class that leads to itself finds itself, told by tests
and-same : (b x y : Bool) → (b ≡ true → x ≡ y) → (b && x) ≡ (b && y)
and-same true x y h = h refl
and-same false x y h = refl

pub lives-is : (k : Kept) → Good k → (i : ℕ) → lives_in k i ≡ is_live_class (image_of k) i
lives-is k good i =
    (λ j. nat_lt i (sym (length-nodes_of k) j) && nat_eq (find_at k i).class i)
    ∙ and-same (nat_lt i (length (nodes_of k))) (nat_eq (find_at k i).class i) (finds_itself (image_of k) i) (λ e.
    let h = ltb-true i (length (nodes_of k)) e in
    let n = length-nodes_of k in
    compared-alike (find_at k i).class (class_found (image_of k) i) i
    (subst (λ (x : Entry). (x.class ≡ i) ↔ (class_found (image_of k) i ≡ i)) (entry_at-of k i) (live-is k good i (omega (arith, h, n)))))

-- so many live classes wait
pub counts-pending : {N D : Type 0} (codes : Coded N × Coded D) (n : N) (m : ℕ) (k : Kept) → Good k → (d : Held D) (g : Graph) → image_of k ≡ g.image → g.part ≡ part_by codes n m d → (c : ℕ) → c ≡ count_by (lives_in k) d.changed → CountsPending codes g c
counts-pending codes n m k good d g image part c is = record {
  part = part_in n m d;
  keeps = part;
  is = is ∙ ((λ j. count_by (λ i. lives-is k good i j) d.changed) ∙ ap (λ (x : Image). count_by (is_live_class x) d.changed) image);
}

-- those that live are taken
pub takes-pending : {N D : Type 0} (codes : Coded N × Coded D) (meaning : N → Meaning D) (n : N) (m : ℕ) (k : Kept) (r : Rows) → Good k → (d e : Held D) (g h : Graph) → image_of k ≡ g.image → g.part ≡ part_by codes n m d → h.part ≡ part_by codes n m e →
    DataRests (by_bare_nodes (meaning n)) k r d → e ≡ with_none_changed d → (is ids : List ℕ) → ArePending k d.changed is → ids ≡ is → TakesPending codes g h ids
takes-pending codes meaning n m k r good d e g h image before after rests left is ids taken same = record {
  part = part_in n m d;
  keeps = before;
  left = after ∙ ap (part_by codes n m) left;
  once = λ x. (rests.has x).changed_once;
  same = subst (IsPermutation (filter (is_live_class g.image) d.changed)) (sym same) (subst (λ xs. IsPermutation xs is) ((λ j. filter (λ i. lives-is k good i j) d.changed) ∙ ap (λ (x : Image). filter (is_live_class x) d.changed) image) taken.same);
  ascending = subst (IsSorted nat_cmp) (sym same) taken.ascending;
}

-- a graph keeps one part, and has one datum for each class
pub one-part : {N D : Type 0} (codes : Coded N × Coded D) (g : Graph) (p q : Part N D) → KeepsPart codes g p → KeepsPart codes g q → p ≡ q
one-part codes g p q first second = (part_code codes).inj p q (sym first ∙ second)

pub one-datum : {N D : Type 0} (codes : Coded N × Coded D) (g : Graph) (i : ℕ) (x y : D) → HasData codes g i x → HasData codes g i y → x ≡ y
one-datum codes g i x y a b =
    Some-same x y (sym a.is ∙ ap (λ (p : Part _ _). slice_get p.values (class_found g.image i)) (one-part codes g a.part b.part a.keeps b.keeps) ∙ b.is)

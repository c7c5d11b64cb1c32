-- A union of two ids that may lack names is one of any two full ids that fill them apart.
use Rattle.std.proofs.Common.{◌≡◌, ◌↔◌, ◌<◌, ℕ, List, length, refl, sym, ◌∙◌, ap, subst, arith}
use Rattle.std.specs.Prelude.{Bool, true, false, not, IsTrue, Option}
use Rattle.std.proofs.lemmas.Bool.{false≢true}
use Rattle.slotted_model.specs.Applied.{Applied, values}
use Rattle.slotted_model.specs.Classes.{IsFull}
use Rattle.slotted_model.specs.Filling.{IsFilling}
use Rattle.slotted_model.specs.Find.{Linked, find, find_class, used_slots}
use Rattle.slotted_model.specs.ProofList.{equation_of}
use Rattle.slotted_model.proofs.Represented.FillingEquations.{filled-equation}
use Rattle.slotted_model.proofs.Finds.NormalIds.{filling-found, full-is_valid}
use Rattle.slotted_proofs.specs.Entries.{asserted_entry}
use Rattle.slotted_classes.specs.Finding.{IsFindable}
use Rattle.slotted_classes.specs.Kept.{Kept, nodes_of, entries_of, EntersIn, with_counts}
use Rattle.slotted_classes.proofs.KeptLists.{length-nodes_of}
use Rattle.slotted_hashcons.specs.FiledRows.{Rows}
use Rattle.slotted_rebuilding.specs.Proving.{HasLargeSide}
use Rattle.slotted_rebuilding.specs.Grows.{Grows}
use Rattle.slotted_rebuilding.specs.Uniting.{equation_in}
use Rattle.slotted_rebuilding.specs.Causes.{HasLargeClass}
use Rattle.slotted_hashcons.specs.WellFiled.{IsWellFiled}
use Rattle.slotted_rebuilding.specs.Filed.{UnitesFiled}
use Rattle.slotted_rebuilding.specs.Turns.{Rebuilds}
use Rattle.slotted_rebuilding.proofs.LargeClasses.{large-grown, large-of}
use Rattle.slotted_operations.specs.Causes.{HasLargeClassIn}
use Rattle.slotted_operations.specs.Good.{Good, RestsWith, Unites, image_of, with_rest_noted}
use Rattle.slotted_operations.specs.Image.{Image, Asserts, AreTogether, FillApart, FoundAlike, HasNoOpenSymmetry, Records, SameNames, found_id}
use Rattle.slotted_operations.specs.Sides.{EntersFilled}
use Rattle.slotted_operations.proofs.Unions.EqualSides.{alike-unites, alike-rebuilds}
use Rattle.slotted_operations.proofs.Unions.Assertions.{IsAsserted, is_asserted, asserted-filed}
use Rattle.slotted_operations.proofs.Additions.NewClasses.{large-seen}
use Rattle.slotted_operations.proofs.Graphs.Images.{found_id-is}
use Rattle.slotted_operations.proofs.Ids.MissingNames.{left_filling, right_filling, one-equation, one-entry}
use Rattle.slotted_operations.proofs.Unions.WholeUnions.{UnitesFull, unites-full}

not-iff : (b : Bool) (P : Type 0) → (IsTrue b ↔ P) → IsTrue (not b) ↔ (¬ P)
not-iff true P h = ((λ t. absurd (false≢true t)), λ n. absurd (n (h.0 refl)))
not-iff false P h = ((λ t p. false≢true (h.1 p)), λ n. refl)

-- what holds where a test says yes holds where its negation is false
of_negation : (b : Bool) (P : Type 0) → (IsTrue b → P) → not b ≡ false → P
of_negation true P h e = h refl
of_negation false P h e = absurd (false≢true (sym e))

-- ids that find what two others find are together where those are
together-found : (g : Image) (a b c d : Applied) → found_id g a ≡ found_id g c → found_id g b ≡ found_id g d → AreTogether g c d → AreTogether g a b
together-found g a b c d e f t =
    let same : (found_id g a).0 ≡ (found_id g c).0 = ap (λ (x : Applied). x.0) e in
    record {
      class = same ∙ (t.class ∙ sym (ap (λ (x : Applied). x.0) f));
      names = subst (λ (x : Applied). SameNames x (found_id g b)) (sym e) (subst (λ (x : Applied). SameNames (found_id g c) x) (sym f) t.names);
      alike = λ closed. e ∙ (t.alike (subst (HasNoOpenSymmetry g) same closed) ∙ sym f);
    }

-- what is entered of two full ids with the equation of a and b is entered of any two ids that fill these apart
pub enters-filled : (k l : Kept) (a b : Applied) → IsFindable k a → IsFindable k b → (c d : Applied) → IsFull (nodes_of k) c → IsFull (nodes_of k) d → equation_of c d ≡ equation_of a b →
    (text : Option (List ℕ)) (p : ℕ) → EntersIn k l (asserted_entry c d text) p → EntersFilled k l a b text p
enters-filled k l a b va vb c d fc fd e text p entered left right f =
    let slots : ℕ → List ℕ = used_slots (entries_of k) in
    let same : equation_of c d ≡ equation_of left right = e ∙ sym (filled-equation (nodes_of k) slots slots a b left right va vb f.left_fills f.right_fills) in
    subst (λ x. EntersIn k l x p) (one-entry (nodes_of k) c d left right fc fd f.left_fills.full f.right_fills.full same text) entered

module _ (k : Kept) (good : Good k) (a b : Applied) (va : IsFindable k a) (vb : IsFindable k b) (text : Option (List ℕ)) (m : Kept) (p : ℕ) (entered : EntersFilled k m a b text p) where
  abbrev slots : ℕ → List ℕ
  slots = used_slots (entries_of k)

  -- two ids that fill them apart
  abbrev c : Applied
  c = (left_filling (nodes_of k) slots slots a b va vb).0

  abbrev d : Applied
  d = (right_filling (nodes_of k) slots slots a b va vb).0

  fills_left : IsFilling (nodes_of k) (values b.1) a c
  fills_left = (left_filling (nodes_of k) slots slots a b va vb).1

  fills_right : IsFilling (nodes_of k) (values c.1) b d
  fills_right = (right_filling (nodes_of k) slots slots a b va vb).1

  apart : FillApart (image_of k) a b c d
  apart = record { left_fills = fills_left; right_fills = fills_right }

  entered_full : EntersIn k m (asserted_entry c d text) p
  entered_full = entered c d apart

  pub said : IsAsserted k m (asserted_entry c d text) c d p
  said = is_asserted k good c d fills_left.full fills_right.full text m p entered_full

  pub filled-filed : (r : Rows) → IsWellFiled k r → IsWellFiled m r
  filled-filed r well = asserted-filed k good c d fills_left.full fills_right.full text r well m p entered_full

  -- slots run out in the union for a large class
  pub large-uniting : HasLargeSide m (equation_in m p) → HasLargeClassIn (image_of k)
  large-uniting h = large-seen k (large-grown k m said.grows (large-of m (equation_in m p).left (equation_in m p).right h))

  -- and in the rebuild
  pub large-rebuilding : (n : Kept) → Grows m n → HasLargeClass n → HasLargeClassIn (image_of k)
  large-rebuilding n grows h = large-seen k (large-grown k m said.grows (large-grown m n grows h))

  module _ (r : Rows) (rests : RestsWith k r) (n : Kept) (s : Rows) (u : UnitesFiled p m r n s) (l : Kept) (q : Rows) (counted : ℕ) (rebuilds : Rebuilds n s l q counted) where
    full : UnitesFull k r l q (asserted_entry c d text) c d
    full = unites-full k r good rests c d fills_left.full fills_right.full text m p entered_full n s u l q counted rebuilds

    linked : Linked (nodes_of k) (entries_of k)
    linked = good.stored.sane.sound.linked

    within-old : (x : Applied) → IsFindable k x → x.0 < length k.classes
    within-old x v = let h : x.0 < length (nodes_of k) = v.in_range in omega (arith, h, length-nodes_of k)

    within-new : (x : Applied) → IsFindable k x → x.0 < length l.classes
    within-new x v =
        let h : x.0 < length (nodes_of k) = v.in_range in
        let same : length (nodes_of l) ≡ length (nodes_of k) = ap length full.nodes in
        omega (arith, h, same, length-nodes_of l)

    found-old : (x : Applied) → IsFindable k x → found_id (image_of k) x ≡ find (entries_of k) x
    found-old x v = found_id-is k x (within-old x v)

    -- what fills an id still finds what the id finds
    found-new : (given : List ℕ) (x y : Applied) → IsFindable k x → IsFilling (nodes_of k) given x y → found_id (image_of l) x ≡ found_id (image_of l) y
    found-new given x y v f =
        let w : IsFindable k y = full-is_valid (nodes_of k) (entries_of k) linked y f.full in
        found_id-is l x (within-new x v)
        ∙ ((full.goes_on.finds x v).1
        ∙ (ap (find (entries_of l)) (filling-found (nodes_of k) (entries_of k) linked given x y v f)
        ∙ (sym (full.goes_on.finds y w).1
        ∙ sym (found_id-is l y (within-new y w)))))

    -- and is of its class
    class-old : (x : Applied) → IsFindable k x → (given : List ℕ) (y : Applied) → IsFilling (nodes_of k) given x y → (found_id (image_of k) x).0 ≡ find_class (entries_of k) y.0
    class-old x v given y f = ap (λ (z : Applied). z.0) (found-old x v) ∙ ap (find_class (entries_of k)) (sym f.class)

    same-equation : (left right : Applied) → FillApart (image_of k) a b left right → equation_of c d ≡ equation_of left right
    same-equation left right f = one-equation (nodes_of k) slots slots a b va vb c d left right fills_left fills_right f.left_fills f.right_fills

    pub unites-filled : (alike : Bool) → (IsTrue alike ↔ (find (entries_of k) a ≡ find (entries_of k) b)) →
        (IsTrue alike → ((image_of l).found ≡ (image_of k).found) × ((image_of l).symmetries ≡ (image_of k).symmetries)) → Unites k r l q a b text (not alike)
    unites-filled alike h same = record {
      good = full.good;
      rests = full.rests;
      nodes = full.nodes;
      goes_on = full.goes_on;
      union = record {
        answer = not-iff alike (FoundAlike (image_of k) a b) (
          λ t. found-old a va ∙ (h.0 t ∙ sym (found-old b vb)),
          λ e. h.1 (sym (found-old a va) ∙ (e ∙ found-old b vb)),
        );
        together = together-found (image_of l) a b c d (found-new (values b.1) a c va fills_left) (found-new (values c.1) b d vb fills_right) full.together;
        of_two = λ differ.
            found-new (values b.1) a c va fills_left
            ∙ (full.of_two (λ same. differ (class-old a va (values b.1) c fills_left ∙ (same ∙ sym (class-old b vb (values c.1) d fills_right))))
            ∙ sym (found-new (values c.1) b d vb fills_right));
        asserts = λ left right f. subst (Asserts (image_of k) (image_of l)) (same-equation left right f) full.asserts;
        filled = (c, d, apart);
        canonical = full.nodes;
        continues = full.continues;
        size = full.size;
        counts = full.counts_go;
        unchanged = of_negation alike _ same;
      };
      counts = full.counts;
      notes = full.notes;
      last = full.last;
      records = record {
        each = λ left right f.
            subst (Records (image_of k) (image_of l)) (one-entry (nodes_of k) c d left right fills_left.full fills_right.full f.left_fills.full f.right_fills.full (same-equation left right f) text) full.records;
      };
    }

  -- where both find alike, the equation is all that is new
  pub stays-filled : (r : Rows) → RestsWith k r → find (entries_of k) a ≡ find (entries_of k) b → (z : Kept) → z ≡ with_rest_noted m r → Unites k r z r a b text false
  stays-filled r rests alike z is =
      let linked : Linked (nodes_of k) (entries_of k) = good.stored.sane.sound.linked in
      let filled : find (entries_of k) c ≡ find (entries_of k) d =
      sym (filling-found (nodes_of k) (entries_of k) linked (values b.1) a c va fills_left)
      ∙ (alike ∙ filling-found (nodes_of k) (entries_of k) linked (values c.1) b d vb fills_right) in
      unites-filled r rests m r (alike-unites k m (asserted_entry c d text) c d p said fills_left.full fills_right.full filled r)
      z r 0 (alike-rebuilds k m (asserted_entry c d text) c d p said r (filled-filed r rests.filed) rests.quiet z is)
      true (λ _. alike, λ _. refl) (λ _. subst (λ (y : Kept). ((image_of y).found ≡ (image_of k).found) × ((image_of y).symmetries ≡ (image_of k).symmetries)) (sym (is ∙ ap (λ (y : Kept). with_counts y (with_rest_noted m r).counts) entered_full.kept))
      (refl, refl))

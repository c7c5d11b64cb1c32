-- The sides of an entry as they are written in the proof list, and what the code reads off them.
use Rattle.std.proofs.Common.{◌≡◌, ℕ, ◌<◌, List, Option, Some, None, length, sym, ◌∙◌, ap, subst, arith}
use Rattle.std.specs.Prelude.{Contains, IfSome, IfNone, IsTrue}
use Rattle.std.proofs.lemmas.Option.{IfSome_then}
use Rattle.slotted_slots.specs.Maps.{keys, values, composed, all_differ, map_of}
use Rattle.slotted_slots.specs.Maps.{turned as flipped}
use Rattle.slotted_model.specs.Applied.{Applied}
use Rattle.slotted_model.specs.Classes.{canonical_slots}
use Rattle.slotted_model.specs.Correspondence.{turned}
use Rattle.slotted_model.specs.Find.{Entry, IsLive, used_slots}
use Rattle.slotted_model.specs.ProofList.{Equation, equation_of}
use Rattle.slotted_model.proofs.Correspondences.FullMaps.{same_names-turned}
use Rattle.slotted_model.proofs.Finds.NormalIds.{used-live, values-identity}
use Rattle.slotted_proofs.specs.declared.equation.Equation.{Equation as Sides}
use Rattle.slotted_proofs.specs.Entries.{Proven, statement_at}
use Rattle.slotted_proofs.specs.Equations.{Statement, IsWritten, to_applied}
use Rattle.slotted_proofs.proofs.Bridges.{injective_differ, shared-model}
use Rattle.slotted_classes.specs.Kept.{Kept, find_at, nodes_of, entries_of}
use Rattle.slotted_classes.proofs.KeptLists.{length-mapped, length-nodes_of, entry_at-of}
use Rattle.slotted_classes.specs.Stored.{Stored}
use Rattle.slotted_rebuilding.specs.Uniting.{IsOfLive, IsLackedBy, PairsLeft, equation_in, heir_in}
use Rattle.slotted_rebuilding.proofs.EnteredProofs.{stored-over, entry-left, entry-right}

-- what follows where there is no value
if_none : {X A B : Type 0} (o : Option X) → IfNone o A → (A → B) → IfNone o B
if_none None h f = f h
if_none (Some x) h f = tt

module _ (k : Kept) (good : Stored k) where
  -- the slots of a live class stand for themselves
  pub live-values : (i : ℕ) → i < length k.classes → IsLive (entries_of k) i →
      values (find_at k i).pairs ≡ used_slots (entries_of k) i
  live-values i h live =
      let n : i < length (nodes_of k) = let l : length (nodes_of k) ≡ length k.classes = length-nodes_of k in omega arith in
      ap (λ (y : Entry). values y.pairs) (sym (entry_at-of k i))
      ∙ (ap values (good.sane.sound.linked.live i n live)
      ∙ (values-identity _ ∙ sym (used-live (nodes_of k) (entries_of k) good.sane.sound.linked i n live)))

  module _ (q : ℕ) (within : q < length k.proofs) (ps : List Proven) (same : ps ≡ k.proofs)
      (s : Sides) (written : IsWritten (statement_at ps q) s) where
    abbrev e : Equation
    e = equation_in k q

    abbrev S : Statement
    S = statement_at k.proofs q

    sides : IsWritten S s
    sides = subst (λ list. IsWritten (statement_at list q) s) same written

    left-in_classes : e.left < length k.classes
    left-in_classes =
        let l : length (nodes_of k) ≡ length k.classes = length-nodes_of k in
        let h : e.left < length (nodes_of k) = (stored-over k good q within).left in
        omega arith

    pub left-in_range : s.l.id.0 < length k.classes
    left-in_range = subst (λ i. i < length k.classes) (sym (entry-left k ps q s same written)) left-in_classes

    right-in_classes : e.right < length k.classes
    right-in_classes =
        let l : length (nodes_of k) ≡ length k.classes = length-nodes_of k in
        let h : e.right < length (nodes_of k) = (stored-over k good q within).right in
        omega arith

    pub right-in_range : s.r.id.0 < length k.classes
    right-in_range = subst (λ i. i < length k.classes) (sym (entry-right k ps q s same written)) right-in_classes

    -- each side has a name for each canonical slot of its class
    pub left-many : length s.l.m ≡ length (canonical_slots (nodes_of k) s.l.id.0)
    left-many =
        sym (length-mapped (λ (p : ℕ × ℕ). p.0) s.l.m)
        ∙ (ap length (sides.left_full.slots ∙ (good.proved.canonical q within).left) ∙ ap (λ i. length (canonical_slots (nodes_of k) i)) (sym (entry-left k ps q s same written)))

    pub right-many : length s.r.m ≡ length (canonical_slots (nodes_of k) s.r.id.0)
    right-many =
        sym (length-mapped (λ (p : ℕ × ℕ). p.0) s.r.m)
        ∙ (ap length (sides.right_full.slots ∙ (good.proved.canonical q within).right) ∙ ap (λ i. length (canonical_slots (nodes_of k) i)) (sym (entry-right k ps q s same written)))

    -- no name stands twice on the left
    pub left-differ : IsTrue (all_differ (values s.l.m))
    left-differ = injective_differ s.l.m sides.left_full.injective

    -- the right class, with the slot of the left one that has the same name for each slot of it
    pub heir-is : (m : List (ℕ × ℕ)) → m ≡ composed s.r.m (map_of (flipped s.l.m)) → (s.r.id.0, m) ≡ heir_in k e
    heir-is m em =
        let pairs : m ≡ turned S.right_slots (equation_of (to_applied s.l) (to_applied s.r)).pairs =
        em ∙ (shared-model s.r.m s.l.m sides.left_full.injective
        ∙ same_names-turned S.left_slots S.right_slots s.l.m s.r.m sides.left_full sides.right_full) in
        let slots : S.right_slots ≡ canonical_slots (nodes_of k) e.right = (good.proved.canonical q within).right in
        λ i. ((sides.right i).0, (pairs ∙ (λ j. turned (slots j) (sides.equation j).pairs)) i)

    -- the slots of the left class without a partner, as the code looks for them
    module _ (live : IsOfLive k e) (a : Applied) (ea : a ≡ ((find_at k s.l.id.0).class, (find_at k s.l.id.0).pairs))
        (m : List (ℕ × ℕ)) (em : m ≡ e.pairs) (o : Option ℕ) where
      -- the slots that the left class has, as its entry lists them
      left-slots : values a.1 ≡ used_slots (entries_of k) e.left
      left-slots =
          ap (λ (b : Applied). values b.1) ea
          ∙ (ap (λ i. values (find_at k i).pairs) (entry-left k ps q s same written) ∙ live-values e.left left-in_classes live.left_lives)

      pub lacks-some : IfSome o (λ t. Contains (values a.1) t × ¬ Contains (keys m) t) → IfSome o (IsLackedBy k e)
      lacks-some h = IfSome_then o h (λ t c. record {
        used = subst (λ T. Contains T t) left-slots c.0;
        alone = λ d. c.1 (subst (λ n. Contains (keys n) t) (sym em) d);
      })

      pub lacks-none : IfNone o ((t : ℕ) → Contains (values a.1) t → Contains (keys m) t) → IfNone o (PairsLeft k e)
      lacks-none h = if_none o h (λ f t c. subst (λ n. Contains (keys n) t) em (f t (subst (λ T. Contains T t) (sym left-slots) c)))

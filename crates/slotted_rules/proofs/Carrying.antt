-- What the analysis keeps is carried along by one call after another.
use Rattle.std.proofs.Common.{◌≡◌, ◌∙◌, ℕ, List, ap, refl, sym, subst, inl, inr}
use Rattle.std.specs.Prelude.{◌⊎◌, Err, false, IsErr, IsTrue, Ok, OnOk, Result}
use Rattle.std.specs.Coded.{Coded}
use Rattle.std.proofs.lemmas.Bool.{false≢true}
use Rattle.slotted_model.specs.Growth.{Extends}
use Rattle.slotted_data.specs.Meaning.{IsMergeOf, Meaning}
use Rattle.slotted_data.specs.Part.{NotesChanges, Part, part_code}
use Rattle.slotted_graph.specs.Analysed.{CarriesData, KeepsPart, LowersData}
use Rattle.slotted_graph.specs.Extension.{ExtendsTo}
use Rattle.slotted_graph.specs.Graph.{Graph, OnlyTakesSlots}
use Rattle.slotted_graph.specs.Image.{Image}
use Rattle.slotted_graph.proofs.Extending.{extends-itself, extends-takes, extends-then}
use Rattle.slotted_graph.proofs.Saying.{carried-lowers, lowers-same, lowers-then, notes-then}
use Rattle.slotted_rules.specs.Carried.{CarriesAlong, CarriesIf}

notes-itself : {D : Type 0} (values : List D) (changed : List ℕ) → NotesChanges values changed values changed
notes-itself values changed = record { kept = λ i c. c; same = λ i y is none. is }

module _ {N D : Type 0} (codes : Coded N × Coded D) (meaning : N → Meaning D) where
  same-part : (g : Graph) (p q : Part N D) → KeepsPart codes g p → KeepsPart codes g q → p ≡ q
  same-part g p q first second = (part_code codes).inj p q (sym first ∙ second)

  -- what a write of the graph carries along
  pub carried-along : (g h : Graph) → CarriesData codes meaning g h → CarriesAlong codes meaning g h
  carried-along g h c = record {
    lowers = carried-lowers codes meaning g h c;
    notes = λ p older newer before after d.
        subst (λ (q : Part N D). NotesChanges q.values q.changed newer.values newer.changed) (same-part g c.older older c.before before)
        (subst (λ (q : Part N D). NotesChanges c.older.values c.older.changed q.values q.changed) (same-part h c.newer newer c.after after) (c.notes d));
  }

  pub carries-for : {P Q : Type 0} (g h : Graph) → (Q → P) → CarriesIf P codes meaning g h → CarriesIf Q codes meaning g h
  carries-for g h so c = record { lowers = c.lowers; notes = λ q. c.notes (so q) }

  pub failed-or-for : {P Q : Type 0} (g h : Graph) → (Q → P) → IsTrue h.failed ⊎ CarriesIf P codes meaning g h → IsTrue h.failed ⊎ CarriesIf Q codes meaning g h
  failed-or-for g h so (inl failed) = inl failed
  failed-or-for g h so (inr c) = inr (carries-for g h so c)

  module _ (law : (n : N) → IsMergeOf (meaning n)) {P : Type 0} where
    -- what is kept stays
    pub carries-same : (g h : Graph) → h.image ≡ g.image → h.part ≡ g.part → CarriesIf P codes meaning g h
    carries-same g h image part = record {
      lowers = lowers-same codes meaning law g h (subst (λ (m : Image). Extends g.image.canonical m.canonical) (sym image) (extends-itself g).canonical) (ap (λ (m : Image). m.found) image) part;
      notes = λ p older newer before after d.
          subst (λ (q : Part N D). NotesChanges older.values older.changed q.values q.changed) (same-part g older newer before (sym part ∙ after)) (notes-itself older.values older.changed);
    }

    pub carries-itself : (g : Graph) → CarriesIf P codes meaning g g
    carries-itself g = carries-same g g refl refl

    pub carries-takes : (g h : Graph) → OnlyTakesSlots g h → CarriesIf P codes meaning g h
    carries-takes g h takes = carries-same g h takes.reads.image takes.reads.part

    pub carries-then : (f g h : Graph) → ExtendsTo f g → CarriesIf P codes meaning f g → CarriesIf P codes meaning g h → CarriesIf P codes meaning f h
    carries-then f g h extends first second = record {
      lowers = lowers-then codes meaning law f g h extends first.lowers second.lowers;
      notes = λ p older newer before after d.
          let between = first.lowers older before in
          let middle : Part N D = between.newer in
          notes-then older.values middle.values newer.values older.changed middle.changed newer.changed
          (first.notes p older middle before between.after d) (second.notes p middle newer between.after after d);
    }

    -- the same where the later call may have failed the graph

    pub later-carries : (f g h : Graph) → ExtendsTo f g → CarriesIf P codes meaning f g → IsTrue h.failed ⊎ CarriesIf P codes meaning g h → IsTrue h.failed ⊎ CarriesIf P codes meaning f h
    later-carries f g h extends first (inl failed) = inl failed
    later-carries f g h extends first (inr second) = inr (carries-then f g h extends first second)

    -- the three ids of a substitution get slots
    pub filled-carries : (g e f i : Graph) → OnlyTakesSlots g e → OnlyTakesSlots e f → OnlyTakesSlots f i → ExtendsTo g i × CarriesIf P codes meaning g i
    filled-carries g e f i first second third =
        let two = extends-then g e f (extends-takes g e first) (extends-takes e f second) in
        let kept = carries-then g e f (extends-takes g e first) (carries-takes g e first) (carries-takes e f second) in
        (extends-then g f i two (extends-takes f i third), carries-then g f i two kept (carries-takes f i third))

    -- a call that did not refuse carried along
    pub carries-on : (f g h : Graph) → ExtendsTo f g → CarriesIf P codes meaning f g → h.failed ≡ false → IsTrue h.failed ⊎ CarriesIf P codes meaning g h → CarriesIf P codes meaning f h
    carries-on f g h extends first well (inl failed) = absurd (false≢true (sym well ∙ failed))
    carries-on f g h extends first well (inr second) = carries-then f g h extends first second

  -- what a graph that has not failed carries
  pub carries-now : {P : Type 0} (g h : Graph) → h.failed ≡ false → IsTrue h.failed ⊎ CarriesIf P codes meaning g h → CarriesIf P codes meaning g h
  carries-now g h well (inl failed) = absurd (false≢true (sym well ∙ failed))
  carries-now g h well (inr c) = c

  -- in the end the graph is left as it is, or fails
  pub left-carries : {P : Type 0} (f g h : Graph) → IsTrue g.failed ⊎ CarriesIf P codes meaning f g → IsTrue h.failed ⊎ (h ≡ g) → IsTrue h.failed ⊎ CarriesIf P codes meaning f h
  left-carries f g h c (inl failed) = inl failed
  left-carries {P} f g h c (inr same) = subst (λ (k : Graph). IsTrue k.failed ⊎ CarriesIf P codes meaning f k) (sym same) c

  pub failed-or-lowers : {P : Type 0} (g h : Graph) → IsTrue h.failed ⊎ CarriesIf P codes meaning g h → IsTrue h.failed ⊎ LowersData codes meaning g h
  failed-or-lowers g h (inl failed) = inl failed
  failed-or-lowers g h (inr c) = inr c.lowers

-- what a write that only fails the graph, or carries along, leaves
pub written-carries : {A E N D : Type 0} (codes : Coded N × Coded D) (meaning : N → Meaning D) (r : Result A E) (g h : Graph) → (IsErr r → IsTrue h.failed) → OnOk r (CarriesData codes meaning g h) → IsTrue h.failed ⊎ CarriesAlong codes meaning g h
written-carries codes meaning (Ok a) g h fails c = inr (carried-along codes meaning g h c)
written-carries codes meaning (Err e) g h fails c = inl (fails refl)

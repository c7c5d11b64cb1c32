-- Acts on listed symmetries that are not aligned, and what is noted where each is.
use Rattle.std.proofs.Common.{◌≡◌, ◌<◌, ◌≤◌, ◌^◌, ℕ, List, [], length, sym, ◌∙◌, ap, subst, refl, inl, inr, arith}
use Rattle.std.proofs.lemmas.List.{append-nil}
use Rattle.slotted_theory.specs.Nameless.{DTerm}
use Rattle.slotted_model.specs.Changes.{Unites}
use Rattle.slotted_model.specs.Classes.{canonical_slots}
use Rattle.slotted_model.specs.Find.{find_class}
use Rattle.slotted_model.specs.ProofList.{Equation, equation_at}
use Rattle.slotted_model.specs.Rebuild.{Acts, acts}
use Rattle.slotted_model.specs.Rest.{size}
use Rattle.slotted_model.specs.State.{Symmetry}
use Rattle.slotted_model.proofs.Rebuilding.Turning.{acted}
use Rattle.slotted_classes.specs.Kept.{Kept, nodes_of, entries_of, with_settled}
use Rattle.slotted_classes.proofs.KeptLists.{equation_at-of, length-nodes_of, length-proofs_of}
use Rattle.slotted_rebuilding.specs.Proving.{FindsEither, HasLargeSide}
use Rattle.slotted_rebuilding.specs.Settling.{IsUnaligned, AreAligned, HasLargeUnaligned}
use Rattle.slotted_classes.specs.StateOf.{state_of}
use Rattle.slotted_classes.specs.Stored.{Stored}
use Rattle.slotted_rebuilding.specs.Grows.{Grows}
use Rattle.slotted_rebuilding.specs.Uniting.{UnitesBy, equation_in}
use Rattle.slotted_rebuilding.proofs.JoinedClasses.{KeepsApart, unites-keeps}
use Rattle.slotted_rebuilding.proofs.LargeFinds.{finds-among}

-- nothing grows where that is noted
pub settled-grows : (k l : Kept) → l ≡ with_settled k → Grows k l
settled-grows k l e = subst (Grows k) (sym e) (record {
  nodes = refl;
  forms = λ i. refl;
  rows = refl;
  more = [];
  proofs = sym (append-nil k.proofs);
  listed = [];
  symmetries = sym (append-nil k.symmetries);
  gone = [];
  deaths = sym (append-nil k.deaths);
  counts = refl;
})

-- where each symmetry is found aligned, that may be noted
pub settled-stored : (k l : Kept) → Stored k → AreAligned k → l ≡ with_settled k → Stored l
settled-stored k l stored aligned e = subst Stored (sym e) (record {
  sane = stored.sane;
  proved = stored.proved;
  later = stored.later;
  sides = λ y c. let s = stored.sides y c in record { left = s.left; right = s.right; class = s.class; slots = s.slots; left_known = s.left_known; right_known = s.right_known };
  once = stored.once;
  settled = λ _. aligned;
})

module _ (k : Kept) (stored : Stored k) (p : ℕ) (u : IsUnaligned k p) where
  pub unaligned-within : p < length k.proofs
  unaligned-within = omega (arith, (stored.sane.each_listed u.symmetry u.listed).proof, u.proof, length-proofs_of k)

  -- a class is large where the symmetry is acted on
  pub unaligned-large : HasLargeSide k (equation_in k p) → HasLargeUnaligned k
  unaligned-large h =
      let y : Symmetry = u.symmetry in
      let says : equation_in k p ≡ record { left = y.class; right = y.class; pairs = y.pairs } =
      sym (equation_at-of k.proofs p) ∙ (ap (equation_at (state_of k).proofs) (sym u.proof) ∙ (stored.sane.each_listed y u.listed).exact) in
      record { symmetry = y; listed = u.listed; unaligned = u.unaligned; large = subst (HasLargeSide k) says h }

  module _ (l : Kept) (by : UnitesBy p k l) where
    unaligned-acts : Acts (state_of k) (state_of l)
    unaligned-acts = acts u.symmetry u.listed u.unaligned (subst (λ q. Unites q (state_of k) (state_of l)) (sym u.proof) by.unites)

    -- a class is large where acts go on
    pub act-large : HasLargeUnaligned l → HasLargeUnaligned k
    act-large h =
        let y : Symmetry = u.symmetry in
        let within : p < length (state_of k).proofs = subst (λ q. q < length (state_of k).proofs) u.proof (stored.sane.each_listed y u.listed).proof in
        let says : equation_at (state_of k).proofs p ≡ record { left = y.class; right = y.class; pairs = y.pairs } =
        ap (equation_at (state_of k).proofs) (sym u.proof) ∙ (stored.sane.each_listed y u.listed).exact in
        let keeps : KeepsApart (state_of k) (state_of l) y.class y.class = subst (λ (e : Equation). KeepsApart (state_of k) (state_of l) e.left e.right) says (unites-keeps p by.unites stored.sane within) in
        let at : y.class < length (nodes_of k) = (stored.sane.each_listed y u.listed).in_range in
        let old = keeps.1 h.symmetry h.listed in
        let c : length (nodes_of l) ≡ length l.classes = length-nodes_of l in
        let d : length (nodes_of k) ≡ length k.classes = length-nodes_of k in
        let e : length (nodes_of l) ≡ length (nodes_of k) = ap length by.grows.nodes in
        let i : ℕ = h.large.0 in
        let here : i < length (nodes_of k) = omega (arith, h.large.1, c, e) in
        let inside : i < length k.classes = omega (arith, here, d) in
        let size : 2 ^ 29 ≤ length (canonical_slots (nodes_of k) i) = subst (λ (ns : List DTerm). 2 ^ 29 ≤ length (canonical_slots ns i)) by.grows.nodes h.large.3 in
        let of_act : FindsEither (entries_of k) y.class y.class i → HasLargeUnaligned k = λ f. record { symmetry = y; listed = u.listed; unaligned = u.unaligned; large = (i, inside, f, size) } in
        let alike : find_class (entries_of l) i ≡ find_class (entries_of l) h.symmetry.class = elim h.large.2 [
          | inl f ↦ f
          | inr f ↦ f
        ] in
        elim (keeps.0 i h.symmetry.class here old.0 alike) [
          | inr f ↦ of_act f.0
          | inl same ↦ elim old.1 [
            | inl was ↦ record { symmetry = h.symmetry; listed = was.0; unaligned = λ aligned. h.unaligned (was.1 aligned); large = (i, inside, inl same, size) }
            | inr f ↦ of_act (finds-among (entries_of k) h.symmetry.class h.symmetry.class y.class y.class i f f (inl same))
          ]
        ]

    pub act-smaller : size (state_of l) < size (state_of k)
    act-smaller = (acted unaligned-acts stored.sane).smaller

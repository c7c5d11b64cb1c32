-- A live class drops the slots that have no partner in an entry, by the entry there and back.
use Rattle.std.proofs.Common.{◌≡◌, ℕ, ◌<◌, List, [], ◌++◌, length, sym, ◌∙◌, ap, refl, subst, inl, append_assoc}
use Rattle.std.proofs.lemmas.List.{append-nil}
use Rattle.std.proofs.lemmas.Bool.{false≢true}
use Rattle.std.specs.Map.{keys_of}
use Rattle.std.specs.Prelude.{true}
use Rattle.slotted_model.specs.Changes.{StandsAt}
use Rattle.slotted_model.specs.Correspondence.{identity}
use Rattle.slotted_model.specs.Find.{Entry, IsLive, find_class}
use Rattle.slotted_model.specs.Link.{CanDrop, kept_equation}
use Rattle.slotted_model.specs.ProofList.{Equation, IsOver, turned_equation}
use Rattle.slotted_model.specs.State.{State}
use Rattle.slotted_model.proofs.Finds.Dropping.{kept-composite, kept-can_drop, drop-later}
use Rattle.slotted_model.proofs.Rebuilding.Events.{drop-sane, drop-goes_on}
use Rattle.slotted_proofs.specs.Entries.{statement_at, turned_entry, composite_entry}
use Rattle.slotted_proofs.specs.Equations.{Meets}
use Rattle.slotted_classes.specs.Kept.{Kept, nodes_of, entries_of, EntersIn, HasManySlots, with_counts, with_fewer}
use Rattle.slotted_rebuilding.specs.Proving.{OnlyProves, Proves, HasLargeSide}
use Rattle.slotted_classes.specs.StateOf.{state_of}
use Rattle.slotted_classes.specs.Stored.{Stored}
use Rattle.slotted_rebuilding.specs.Grows.{Grows, GrowsUncounted}
use Rattle.slotted_rebuilding.specs.Uniting.{IsOfLive, IsLackedBy, HasDropped, equation_in}
use Rattle.slotted_rebuilding.proofs.EnteredProofs.{stored-over, stored-meet, only-stands, only-says, only-grows}
use Rattle.slotted_rebuilding.proofs.EnteredProofs.{turned-only, then-chained, then-large, proves-stands}
use Rattle.slotted_rebuilding.proofs.LargeFinds.{large-among}
use Rattle.slotted_rebuilding.proofs.TurnedEntries.{still-live}
use Rattle.slotted_rebuilding.proofs.ChangedEntries.{untouched, changed-state, changed-stored, changed-grows}

-- what grows, and then grows again
pub grows-then : (k l m : Kept) → Grows k l → Grows l m → Grows k m
grows-then k l m a b = record {
  nodes = b.nodes ∙ a.nodes;
  forms = λ i. b.forms i ∙ a.forms i;
  rows = b.rows ∙ a.rows;
  more = a.more ++ b.more;
  proofs = b.proofs ∙ (ap (λ ps. ps ++ b.more) a.proofs ∙ append_assoc k.proofs a.more b.more);
  listed = a.listed ++ b.listed;
  symmetries = b.symmetries ∙ (ap (λ ys. ys ++ b.listed) a.symmetries ∙ append_assoc k.symmetries a.listed b.listed);
  gone = a.gone ++ b.gone;
  deaths = b.deaths ∙ (ap (λ is. is ++ b.gone) a.deaths ∙ append_assoc k.deaths a.gone b.gone);
  counts = b.counts ∙ a.counts;
}

-- the same where rebuilds were noted after the first
pub uncounted-then : (k l m : Kept) → Grows k l → GrowsUncounted l m → GrowsUncounted k m
uncounted-then k l m a b = subst (λ c. Grows k (with_counts m c)) a.counts (grows-then k l (with_counts m l.counts) a b)

-- nothing has to be noted
pub grows-uncounted : (k l : Kept) → Grows k l → GrowsUncounted k l
grows-uncounted k l a = subst (λ c. Grows k (with_counts l c)) a.counts a

module _ (k : Kept) (good : Stored k) (q : ℕ) (within : q < length k.proofs) (live : IsOfLive k (equation_in k q)) where
  abbrev e : Equation
  e = equation_in k q

  -- the entry turned round
  module _ (l : Kept) (b : ℕ) (turns : EntersIn k l (turned_entry k.proofs q) b) where
    back : Proves k l (turned_equation (nodes_of k) e) b
    back = turned-only k good l q b within turns

    forth : Proves k l e q
    forth = record { only = back.only; in_range = (only-stands k l back.only q within).0; equation = only-says k l back.only q within }

    pub back-meets : (q < length l.proofs) × (b < length l.proofs) × Meets (statement_at l.proofs q) (statement_at l.proofs b)
    back-meets = (
      forth.in_range,
      back.in_range,
      stored-meet l back.only.stored q b forth.in_range back.in_range
          (ap (λ (x : Equation). x.right) forth.equation ∙ sym (ap (λ (x : Equation). x.left) back.equation)),
    )

    pub back-large : HasManySlots l q b → HasLargeSide k e
    back-large many = large-among k (statement_at l.proofs q).equation.left (statement_at l.proofs b).equation.right e.left e.right
        (inl (ap (λ (x : Equation). find_class (entries_of k) x.left) forth.equation))
        (inl (ap (λ (x : Equation). find_class (entries_of k) x.right) back.equation))
        (then-large k l back.only q b forth.in_range back.in_range many)

    -- what it says there and back
    module _ (m : Kept) (r : ℕ) (chains : EntersIn l m (composite_entry l.proofs q b) r) where
      there_and_back : Proves k m (kept_equation e) r
      there_and_back =
          let f : Equation = turned_equation (nodes_of k) e in
          subst (λ pairs. Proves k m (record { left = e.left; right = e.left; pairs = pairs }) r)
          (kept-composite (nodes_of k) e (stored-over k good q within))
          (then-chained k l m e f q b r forth back.in_range back.equation refl chains)

      only : OnlyProves k m
      only = there_and_back.only

      pub class-stays : (i : ℕ) → i < length k.classes → i < length m.classes
      class-stays i h = subst (λ (z : Kept). i < length z.classes) (sym only.kept) h

      pub class-lives : (i : ℕ) → i ≡ e.left → IsLive (entries_of m) i
      class-lives i ei = subst (IsLive (entries_of m)) (sym ei) (still-live k m e only live).left_lives

      abbrev h : State
      h = state_of m

      at : StandsAt h r (kept_equation e)
      at = proves-stands k m (kept_equation e) r there_and_back

      abbrev x : Entry
      x = record { class = e.left; pairs = identity (keys_of e.pairs); proof = r; died = 0 }

      can : CanDrop h.nodes h.found e.left (keys_of e.pairs)
      can =
          let still : IsOfLive m e = still-live k m e only live in
          let over : IsOver h.nodes e = subst (λ (z : Kept). IsOver (nodes_of z) e) (sym only.kept) (stored-over k good q within) in
          kept-can_drop h.nodes h.found e over still.left_lives still.left

      drop-left : (s : ℕ) → IsLackedBy k e s → HasDropped k (with_fewer m e.left x.pairs r) e
      drop-left s lacks = record {
        middle = m;
        only = only;
        number = r;
        stands = at;
        slot = s;
        lacks = lacks;
        state = changed-state m only.stored e.left x true m.moment m.deaths;
        stored = changed-stored m only.stored e.left x true m.moment m.deaths
            (drop-sane h only.stored.sane e.left (keys_of e.pairs) r can at.0 at.1 [] (untouched m e.left))
            (drop-goes_on h only.stored.sane e.left (keys_of e.pairs) r can at.0 at.1 [] (untouched m e.left))
            (drop-later h.nodes h.found only.stored.sane.sound.linked e.left (keys_of e.pairs) r can m.moment only.stored.later)
            (λ d. absurd (false≢true (sym d)));
        grows = grows-then k m (with_fewer m e.left x.pairs r) (only-grows k m only) (changed-grows m only.stored e.left x true m.moment m.deaths [] (sym (append-nil m.deaths)));
      }

      -- by the code's words
      pub dropped-left : (lacks : (s : ℕ) × IsLackedBy k e s) → (i : ℕ) → i ≡ e.left →
          (slots : List (ℕ × ℕ)) → slots ≡ identity (keys_of e.pairs) → (z : Kept) → z ≡ with_fewer m i slots r → HasDropped k z e
      dropped-left lacks i ei slots es z ez =
          subst (λ (y : Kept). HasDropped k y e) (sym (ez ∙ (λ j. with_fewer m (ei j) (es j) r))) (drop-left lacks.0 lacks.1)

-- Congruences that are entered before a union: what holds of what is kept then.
use Rattle.std.proofs.Common.{◌≡◌, ℕ, ◌<◌, length, ap, ◌∙◌, sym, subst}
use Rattle.std.specs.Prelude.{Contains}
use Rattle.slotted_model.specs.Rebuild.{IsCongruence, Turn, enters, narrows}
use Rattle.slotted_model.specs.Rest.{Sane, size}
use Rattle.slotted_model.specs.State.{State}
use Rattle.slotted_model.proofs.Rebuilding.AfterUnions.{lacking-falls}
use Rattle.slotted_model.proofs.Rebuilding.GrowingLists.{proofs-sane}
use Rattle.slotted_model.proofs.Rebuilding.Lacking.{narrow-lacks}
use Rattle.slotted_classes.specs.Kept.{Kept, proofs_of}
use Rattle.slotted_classes.proofs.KeptLists.{length-proofs_of}
use Rattle.slotted_hashcons.specs.FiledRows.{Rows, rows_in}
use Rattle.slotted_rebuilding.specs.Proving.{OnlyProves, HasLargeSide}
use Rattle.slotted_classes.specs.StateOf.{state_of}
use Rattle.slotted_rebuilding.specs.Uniting.{equation_in}
use Rattle.slotted_rebuilding.proofs.EnteredProofs.{only-state, only-grows}
use Rattle.slotted_rebuilding.proofs.GrownRows.{grown-rows, grown-count}
use Rattle.slotted_rebuilding.proofs.KeptSlots.{grows-then}
use Rattle.slotted_rebuilding.specs.Causes.{HasLargeClass}
use Rattle.slotted_hashcons.specs.WellFiled.{state_in, IsWellFiled}
use Rattle.slotted_rebuilding.specs.Filed.{UnitesFiled}
use Rattle.slotted_rebuilding.specs.Turns.{LacksSlot, NarrowsOnce, ProvesCongruence}
use Rattle.slotted_rebuilding.proofs.FiledStates.{fits-grown, places-grown, united-well}
use Rattle.slotted_rebuilding.proofs.LargeClasses.{large-grown, large-of}

-- what is kept is well filed after more entries
pub proved-well : (k m : Kept) (r : Rows) → OnlyProves k m → IsWellFiled k r → IsWellFiled m r
proved-well k m r only well = record {
  stored = only.stored;
  canonical = grown-rows k m (only-grows k m only) well.canonical;
  fits = fits-grown k m (only-grows k m only) well.fits;
  count = well.count ∙ sym (grown-count k m (only-grows k m only));
  sane = subst Sane (sym (only-state k m only (rows_in r.filed) r.waiting)) (proofs-sane (state_in k r) well.sane (proofs_of m) only.asserts_nothing);
  keyed = well.keyed;
  places = λ i e f. places-grown k m (only-grows k m only) i e.0 (well.places i e f);
}

-- a turn that begins with more entries
pub proved-turn : (k m : Kept) (r : Rows) → OnlyProves k m → (h : State) → Turn (state_in m r) h → Turn (state_in k r) h
proved-turn k m r only h t = enters (proofs_of m) only.asserts_nothing (subst (λ g. Turn g h) (only-state k m only (rows_in r.filed) r.waiting) t)

-- a congruence stands in the list
pub stands-within : (m : Kept) (r : Rows) (p i j : ℕ) → IsCongruence (state_in m r) p i j → p < length m.proofs
stands-within m r p i j c = subst (λ n. p < n) (length-proofs_of m) c.stands.0

-- a congruence is one in each state over what is kept
pub congruence-in : (m : Kept) (r : Rows) (p i j : ℕ) → IsCongruence (state_of m) p i j → IsCongruence (state_in m r) p i j
congruence-in m r p i j c = record {
  left = c.left;
  right = c.right;
  left_class = c.left_class;
  right_class = c.right_class;
  left_full = c.left_full;
  twins = c.twins;
  stands = c.stands;
}

-- what the union by the congruence asks for, and why slots run out there
module _ (k m : Kept) (i j p : ℕ) (proved : ProvesCongruence k m i j p) where
  pub proved-within : p < length m.proofs
  proved-within = subst (λ n. p < n) (length-proofs_of m) proved.congruence.stands.0

  pub proved-count : (r : Rows) → length r.filed ≡ length k.classes → length r.filed ≡ length m.classes
  proved-count r count = count ∙ sym (grown-count k m (only-grows k m proved.only))

  pub proved-large : HasLargeSide m (equation_in m p) → HasLargeClass k
  proved-large h = large-grown k m (only-grows k m proved.only) (large-of m (equation_in m p).left (equation_in m p).right h)

-- the union of a class with itself, whose node lacks a slot
pub narrowed-once : (k m : Kept) (r : Rows) (o p : ℕ) → IsWellFiled k r → Contains r.waiting o → LacksSlot k o → ProvesCongruence k m o o p →
    (l : Kept) (q : Rows) → UnitesFiled p m r l q → NarrowsOnce k r l q
narrowed-once k m r o p well waits lacks proved l q u =
    let only : OnlyProves k m = proved.only in
    let c : IsCongruence (state_in m r) p o o = congruence-in m r p o o proved.congruence in
    let here : IsWellFiled m r = proved-well k m r only well in
    let still : LacksSlot m o = subst (λ (z : Kept). LacksSlot z o) (sym only.kept) lacks in
    record {
      turn = proved-turn k m r only (state_in l q) (narrows o p still.0 waits still.1 still.2 c u.unites);
      filed = united-well p m r l q here (stands-within m r p o o c) u;
      grows = grows-then k m l (only-grows k m only) u.by.grows;
      waits = u.waits;
      smaller = subst (λ n. size (state_of l) < n) (ap (λ (z : Kept). size (state_of z)) only.kept)
          (lacking-falls p u.unites here.sane c.stands.0 (narrow-lacks (state_in m r) here.sane o p still.0 still.1 still.2 c));
    }

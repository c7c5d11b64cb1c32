-- What is listed of classes that died, and what rebuilds noted, as a graph goes on.
use Rattle.std.proofs.Common.{◌≡◌, ◌∙◌, ◌<◌, ◌++◌, ℕ, [], ap, length, refl, subst, sym, append_assoc, inl, inr}
use Rattle.std.specs.Prelude.{Contains}
use Rattle.std.proofs.lemmas.List.{append-nil}
use Rattle.std.proofs.lemmas.List.Elements.{Contains-append_cases}
use Rattle.slotted_model.specs.Find.{IsLive}
use Rattle.slotted_proofs.specs.Entries.{Proven}
use Rattle.slotted_classes.specs.Kept.{Kept, EntersIn, ListsDead, entries_of, size_of}
use Rattle.slotted_rebuilding.specs.Proving.{OnlyProves}
use Rattle.slotted_rebuilding.proofs.RebuildCounts.{counts-on, counts-on_same}
use Rattle.slotted_classes.specs.Stored.{Stored}
use Rattle.slotted_operations.specs.Good.{KeepsNotes, image_of}
use Rattle.slotted_operations.specs.Image.{live_size}
use Rattle.slotted_operations.proofs.Graphs.LiveSizes.{live_size-is}

-- none died, and nothing was noted
pub notes-same : (k l : Kept) → l.deaths ≡ k.deaths → l.counts ≡ k.counts → size_of l ≡ size_of k → KeepsNotes k l
notes-same k l deaths counts size = record { gone = []; deaths = deaths ∙ sym (append-nil k.deaths); counts = counts-on_same k l counts size }

pub notes-none : (k : Kept) → KeepsNotes k k
notes-none k = notes-same k k refl refl refl

-- where nothing but proofs was entered
pub notes-proving : (k l : Kept) → OnlyProves k l → KeepsNotes k l
notes-proving k l only = notes-same k l (ap (λ (z : Kept). z.deaths) only.kept) (ap (λ (z : Kept). z.counts) only.kept) (ap size_of only.kept)

pub notes-entering : (k l : Kept) (x : Proven) (p : ℕ) → EntersIn k l x p → KeepsNotes k l
notes-entering k l x p e = notes-same k l (ap (λ (z : Kept). z.deaths) e.kept) (ap (λ (z : Kept). z.counts) e.kept) (ap size_of e.kept)

-- one step after another
pub notes-then : (k l m : Kept) → KeepsNotes k l → KeepsNotes l m → KeepsNotes k m
notes-then k l m a b = record {
  gone = a.gone ++ b.gone;
  deaths = b.deaths ∙ (ap (λ is. is ++ b.gone) a.deaths ∙ append_assoc k.deaths a.gone b.gone);
  counts = counts-on k l m a.counts b.counts;
}

-- a class that lived and is dead now has died since
pub died-since : (k l : Kept) (notes : KeepsNotes k l) → ListsDead k.deaths (entries_of k) → ListsDead l.deaths (entries_of l) → (i : ℕ) →
    i < length (entries_of l) → IsLive (entries_of k) i → ¬ IsLive (entries_of l) i → Contains notes.gone i
died-since k l notes before after i within lived dead =
    elim (Contains-append_cases k.deaths notes.gone i (subst (λ is. Contains is i) notes.deaths ((after i).1 (within, dead)))) [
      | inl old ↦ absurd (((before i).0 old).1 lived)
      | inr new ↦ new
    ]

-- the size that the store knows is that which contracts see
pub size-seen : (k : Kept) → Stored k → live_size (image_of k) ≡ size_of k
size-seen k stored = live_size-is k stored

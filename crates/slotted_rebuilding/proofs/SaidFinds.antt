-- An entry whose right side is what it finds itself, and whose left side finds the same, says what the find of its left class says.
use Rattle.std.proofs.Common.{◌≡◌, ◌<◌, ◌∙◌, ℕ, List, ap, length, subst, sym}
use Rattle.std.specs.Map.{values_of}
use Rattle.std.specs.Prelude.{Contains}
use Rattle.slotted_theory.specs.Nameless.{DTerm}
use Rattle.slotted_model.specs.Applied.{Applied}
use Rattle.slotted_model.specs.Classes.{IsFull, canonical_slots}
use Rattle.slotted_model.specs.Correspondence.{IsFullMap, IsPartialInjection, composite, same_names, turned}
use Rattle.slotted_model.specs.Find.{Entry, find, find_class, find_map}
use Rattle.slotted_model.specs.ProofList.{find_equation}
use Rattle.slotted_model.proofs.Correspondences.FullIds.{full_map}
use Rattle.slotted_model.proofs.Correspondences.FullMaps.{full-in_order, full-name, full-one_slot, full-partial, same_names-is}
use Rattle.slotted_model.proofs.Correspondences.Pairs.{Contains-value}
use Rattle.slotted_model.proofs.Correspondences.PartialInjections.{composite-by, composite-over, identity-composite, turned-by, turned-pair, turned-partial}
use Rattle.slotted_model.proofs.Finds.Finding.{find_map-partial, leads}
use Rattle.slotted_proofs.specs.Entries.{statement_at}
use Rattle.slotted_proofs.specs.Equations.{AreSides}
use Rattle.slotted_classes.specs.Kept.{Kept, nodes_of, entries_of}
use Rattle.slotted_rebuilding.specs.Proving.{FindsWhole, ProvesFind}
use Rattle.slotted_classes.specs.Stored.{Stored}
use Rattle.slotted_rebuilding.proofs.AlikeSides.{left-is_full, right-is_full}
use Rattle.slotted_rebuilding.proofs.EnteredProofs.{nothing-proved}

-- names that are sent on by a partial injection are shared along it
pub sent-shared : (P Q : List ℕ) (A m n : List (ℕ × ℕ)) → IsPartialInjection Q P A → IsFullMap P m → IsFullMap Q n → composite A m ≡ n → same_names m n ≡ turned P A
sent-shared P Q A m n a full others e = same_names-is P Q m n (turned P A) full others (turned-partial Q P A a).in_order
    (λ s t x c d.
    let r = composite-over A m t x (subst (λ l. Contains l (t, x)) (sym e) d) in
    turned-by Q P A a t s (subst (λ z. Contains A (t, z)) (full-one_slot P m full r.0 s x r.2 c) r.1))
    (λ s t c.
    let d : Contains A (t, s) = turned-pair P A t s c in
    let x = full-name P m full s (a.within t s d) in
    (x.0, x.1, subst (λ l. Contains l (t, x.0)) e (composite-by P A m (full-in_order P m full) t s x.0 d x.1)))

module _ (k : Kept) (stored : Stored k) (p : ℕ) (within : p < length k.proofs) (a b : Applied) (sides : AreSides (statement_at k.proofs p) a b) where
  abbrev nodes : List DTerm
  nodes = nodes_of k

  abbrev found : List Entry
  found = entries_of k

  left : IsFull nodes a
  left = left-is_full k stored p within a b sides

  right : IsFull nodes b
  right = right-is_full k stored p within a b sides

  abbrev Q : List ℕ
  Q = canonical_slots nodes b.0

  right-map : IsFullMap Q b.1
  right-map = full_map nodes b right

  module _ (alike : find found a ≡ find found b) (whole : FindsWhole k b.0) where
    class : find_class found a.0 ≡ b.0
    class = ap (λ (x : Applied). x.0) alike ∙ whole.0

    names : composite (find_map found a.0) a.1 ≡ b.1
    names =
        ap (λ (x : Applied). x.1) alike
        ∙ (ap (λ z. composite z b.1) whole.1 ∙ identity-composite Q (values_of b.1) b.1 (full-partial Q (values_of b.1) b.1 right-map (λ s x d. Contains-value b.1 s x d)))

    partial : IsPartialInjection Q (canonical_slots nodes a.0) (find_map found a.0)
    partial = subst (λ i. IsPartialInjection (canonical_slots nodes i) (canonical_slots nodes a.0) (find_map found a.0)) class
        (find_map-partial nodes found (leads nodes found stored.sane.sound.linked) a.0 left.in_range)

    shared : same_names a.1 b.1 ≡ turned (canonical_slots nodes a.0) (find_map found a.0)
    shared = sent-shared (canonical_slots nodes a.0) Q (find_map found a.0) a.1 b.1 partial (full_map nodes a left) right-map names

    said : (statement_at k.proofs p).equation ≡ find_equation nodes found a.0
    said = sym sides.equation ∙ (λ t. record { left = a.0; right = sym class t; pairs = shared t })

    pub said-proves : (i : ℕ) → a.0 ≡ i → ProvesFind k k i p
    said-proves i e = record { only = nothing-proved k stored; in_range = within; equation = said ∙ ap (find_equation nodes found) e }

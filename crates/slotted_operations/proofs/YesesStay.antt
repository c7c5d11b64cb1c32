-- Ids that lack names find what any id that fills them finds: so ids that find alike still do as the graph grows or ids are united, also where
-- they lack names.
use Rattle.std.proofs.Common.{◌≡◌, ◌∙◌, ℕ, List, [], Option, None, Some, Bool, ap, refl, sym, subst}
use Rattle.std.specs.Prelude.{Contains, slice_index_or}
use Rattle.slotted_lists.proofs.Members.{Contains-In}
use Rattle.slotted_theory.specs.FiniteMaps.{value_of}
use Rattle.slotted_theory.specs.Nameless.{DTerm}
use Rattle.slotted_slots.specs.Table.{KnowsMore}
use Rattle.slotted_model.specs.Applied.{Applied, values}
use Rattle.slotted_model.specs.Classes.{IsFull, canonical_slots}
use Rattle.slotted_model.specs.Correspondence.{composite}
use Rattle.slotted_model.specs.Growth.{Extends}
use Rattle.slotted_model.proofs.Correspondences.FullIds.{full_map}
use Rattle.slotted_model.proofs.Correspondences.FullMaps.{full-one_name}
use Rattle.slotted_model.proofs.Correspondences.Pairs.{Contains-key, Contains-of_key, Contains-value_of, value_of-found}
use Rattle.slotted_model.proofs.Data.Options.{None-Some}
use Rattle.slotted_model.proofs.Rebuilding.Rows.{composite-agree}
use Rattle.slotted_operations.specs.Graph.{Graph}
use Rattle.slotted_operations.specs.Image.{AddsClasses, FoundAlike, IsUnion, found_id}
use Rattle.slotted_operations.specs.ValidIds.{Fills, IsValidId}
use Rattle.slotted_operations.proofs.CallerLemmas.{filled, valid_later, valid_united}

-- an id that fills another one finds what that finds
pub filled-finds : (g : Graph) (a b : Applied) → IsValidId g a → Fills g.image a b → found_id g.image b ≡ found_id g.image a
filled-finds g a b v f =
    let r = slice_index_or g.image.found a.0 (0, []) in
    let class : found_id g.image b ≡ (r.0, composite r.1 b.1) = ap (λ i. let e = slice_index_or g.image.found i (0, []) in (e.0, composite e.1 b.1)) f.class in
    class ∙ ap (λ m. (r.0, m)) (composite-agree r.1 b.1 a.1 (λ t h. agrees t (Contains-In (values r.1) t h) (value_of b.1 t) refl))
  where
    -- a name of b for a slot that the class has left is one of a
    agrees : (t : ℕ) → Contains (values (slice_index_or g.image.found a.0 (0, [])).1) t → (o : Option ℕ) → value_of b.1 t ≡ o → value_of b.1 t ≡ value_of a.1 t
    agrees t left (Some x) is =
        let here : Contains b.1 (t, x) = Contains-value_of b.1 t x is in
        let slot = subst (λ S. Contains S t) f.full.slots (Contains-key b.1 t x here) in
        let own = Contains-of_key a.1 t (v.has_left t (subst (λ i. Contains (canonical_slots g.image.canonical i) t) f.class slot) left) in
        let found = value_of-found a.1 t own.0 own.1 in
        let one : x ≡ found.0 = full-one_name _ b.1 (full_map g.image.canonical b f.full) t x found.0 here (f.keeps t found.0 (Contains-value_of a.1 t found.0 found.1)) in
        is ∙ (ap (λ y. Some y) one ∙ sym found.1)
    agrees t left None is = is ∙ none (value_of a.1 t) refl
      where
        none : (o : Option ℕ) → value_of a.1 t ≡ o → None ≡ value_of a.1 t
        none None e = sym e
        none (Some x) e =
            let found = value_of-found b.1 t x (f.keeps t x (Contains-value_of a.1 t x e)) in
            absurd (None-Some found.0 (sym is ∙ found.1))

-- what finds alike still does, where finds of ids with all names go on
stays-alike : (g h : Graph) (a b : Applied) → ((x : Applied) → IsFull g.image.canonical x → IsFull h.image.canonical x) →
    ((x y : Applied) → IsFull g.image.canonical x → IsFull g.image.canonical y → FoundAlike g.image x y → FoundAlike h.image x y) →
    IsValidId g a → IsValidId g b → IsValidId h a → IsValidId h b → FoundAlike g.image a b → FoundAlike h.image a b
stays-alike g h a b full alike va vb wa wb same =
    let left = filled g a va in
    let right = filled g b vb in
    let before : FoundAlike g.image left.0 right.0 = filled-finds g a left.0 va left.1 ∙ (same ∙ sym (filled-finds g b right.0 vb right.1)) in
    let after : FoundAlike h.image left.0 right.0 = alike left.0 right.0 left.1.full right.1.full before in
    sym (filled-finds h a left.0 wa (later left.1)) ∙ (after ∙ filled-finds h b right.0 wb (later right.1))
  where
    later : {x y : Applied} → Fills g.image x y → Fills h.image x y
    later {x} {y} f = record { class = f.class; full = full y f.full; keeps = f.keeps }

-- where classes are added
pub alike_later : (g h : Graph) (a b : Applied) → Extends g.image.canonical h.image.canonical → AddsClasses g.image h.image → KnowsMore g.table h.table → IsValidId g a → IsValidId g b → FoundAlike g.image a b → FoundAlike h.image a b
alike_later g h a b extends adds more va vb =
    stays-alike g h a b extends.full adds.alike va vb (valid_later g h a extends adds more va) (valid_later g h b extends adds more vb)

-- and where ids are united
pub alike_united : (g h : Graph) (c d a b : Applied) (y : Bool) → IsUnion g.image h.image c d y → h.table ≡ g.table → IsValidId g a → IsValidId g b → FoundAlike g.image a b → FoundAlike h.image a b
alike_united g h c d a b y u table va vb =
    stays-alike g h a b (λ x. subst (λ (n : List DTerm). IsFull n x) (sym u.canonical)) u.continues.alike va vb (valid_united g h c d a y u table va) (valid_united g h c d b y u table vb)

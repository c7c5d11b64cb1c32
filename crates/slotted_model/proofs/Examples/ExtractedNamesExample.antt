-- A tree with a name from outside under a binder is extracted, and so it is for the id with another name; and of two rows of one cost the first in an order is in the table.
use Rattle.std.proofs.Common.{◌≡◌, ℕ, List, [], ◌∷◌, refl, ap, arith}
use Rattle.slotted_lists.proofs.Contained.{contains_head, contains_tail}
use Rattle.slotted_theory.specs.Nameless.{DTerm, stop, place, scope}
use Rattle.slotted_theory.specs.Renaming.{swapped}
use Rattle.slotted_theory.proofs.Bijections.{swap, to-injective}
use Rattle.slotted_theory.proofs.Values.{node, child_before}
use Rattle.slotted_model.specs.Classes.{IsFull}
use Rattle.slotted_model.specs.Cost.{CostFunction, limited_size}
use Rattle.slotted_model.specs.Extraction.{TableEntry, IsInOrder, Extracts, by_entry, no_more, own_name, extracted, under_binder, IsMadeBy}
use Rattle.slotted_model.proofs.Examples.CompletenessExamples.{graph, nodes, at_rest, row_f, row_g, row_lam, lam_id, lam_g}
use Rattle.slotted_model.proofs.LeastTerms.ExtractedParts.{extracted-moved, extracted-made}

abbrev pub k : CostFunction ℕ
k = limited_size 100

abbrev pub entry_g : TableEntry ℕ
entry_g = record { class = 1; cost = 1; row = row_g }

abbrev pub entry_lam : TableEntry ℕ
entry_lam = record { class = 2; cost = 2; row = row_lam }

abbrev pub table : List (TableEntry ℕ)
table = entry_lam ∷ entry_g ∷ []

pub in_order : IsInOrder graph k table
in_order = (
  record { class = refl; candidate = record { filed = contains_tail row_f (row_g ∷ row_lam ∷ []) row_lam (contains_tail row_g (row_lam ∷ []) row_lam (contains_head row_lam [])); new = refl; cost = refl } },
  (record { class = refl; candidate = record { filed = contains_tail row_f (row_g ∷ row_lam ∷ []) row_g (contains_head row_g (row_lam ∷ [])); new = refl; cost = refl } }, tt),
)

-- g of a name
g_full : IsFull nodes (1, (2, 4) ∷ [])
g_full = record { in_range = omega arith; slots = refl; injective = (λ k. k, tt) }

g_extracted : Extracts graph table (1, (2, 4) ∷ []) (node 4 [] (place 4 stop))
g_extracted = by_entry entry_g (1, (2, 4) ∷ []) (contains_tail entry_lam (entry_g ∷ []) entry_g (contains_head entry_g [])) g_full refl refl (own_name no_more)

-- lam y. g x, for the name x = 3, which is 4 under the binder
lam_extracted : Extracts graph table lam_id lam_g
lam_extracted =
    by_entry entry_lam lam_id (contains_head entry_lam (entry_g ∷ [])) (record { in_range = omega arith; slots = refl; injective = (λ k. k, tt) }) refl refl
    (under_binder (extracted {t = node 4 [] (place 4 stop)} g_extracted no_more) no_more)

-- so it is extracted with the name 7 in the place of 3, which is 8 under the binder
lam_moved : Extracts graph table (2, (3, 7) ∷ []) (node 5 [] (scope (child_before (node 4 [] (place 8 stop)) stop) stop))
lam_moved = extracted-moved graph k table at_rest in_order (swapped 3 7) (to-injective (swap 3 7)) lam_extracted

-- and it is made by the entry of its class
lam_made : IsMadeBy graph table lam_id lam_g entry_lam
lam_made = extracted-made graph k table in_order lam_extracted entry_lam (contains_head entry_lam (entry_g ∷ [])) refl

lam_is_lam : lam_g.op ≡ 5
lam_is_lam = ap (λ (t : DTerm). t.op) lam_made.term

-- What the pairs of a map print, one after another.
use Rattle.std.proofs.Common.{◌≡◌, ℕ, ◌+◌, ◌<◌, List, ◌∷◌, ◌++◌, length, get_or, drop, codes, sym, ap, append_assoc, ◌∙◌}
use Rattle.std.proofs.lemmas.List.{drop_more}
use Rattle.slotted_slots.specs.Shown.{shown_pairs}
use Rattle.slotted_slots.specs.Table.{Table, shown_slot}

-- four texts and a rest, however they are grouped
regroup : (done a b c d rest : List ℕ) → (done ++ (a ++ (b ++ (c ++ d)))) ++ rest ≡ done ++ (a ++ (b ++ (c ++ (d ++ rest))))
regroup done a b c d rest = simp append_assoc

-- one more pair is written
pub shown_pairs-step : (t : Table) (before done : List ℕ) (xs : List (ℕ × ℕ)) (i : ℕ) (p : ℕ × ℕ) (k v : ℕ × Table) (whole : List ℕ) → i < length xs → p ≡ get_or xs i p → k ≡ (p.0, t) → v ≡ (p.1, t) → done ++ shown_pairs t before (drop i xs) ≡ whole → (done ++ (before ++ (shown_slot k.1 k.0 ++ (codes " -> " ++ shown_slot v.1 v.0)))) ++ shown_pairs t (codes ", ") (drop (i + 1) xs) ≡ whole
shown_pairs-step t before done xs i p k v whole lt is key value so_far =
    let head : drop i xs ≡ p ∷ drop (i + 1) xs = drop_more xs i p lt ∙ ap (λ q. q ∷ drop (i + 1) xs) (sym is) in
    let here = λ (k : ℕ × Table) (v : ℕ × Table). (done ++ (before ++ (shown_slot k.1 k.0 ++ (codes " -> " ++ shown_slot v.1 v.0)))) ++ shown_pairs t (codes ", ") (drop (i + 1) xs) in
    ap (λ k. here k v) key ∙ (ap (here (p.0, t)) value
    ∙ (regroup done before (shown_slot t p.0) (codes " -> ") (shown_slot t p.1) (shown_pairs t (codes ", ") (drop (i + 1) xs))
    ∙ (ap (λ ys. done ++ shown_pairs t before ys) (sym head) ∙ so_far)))

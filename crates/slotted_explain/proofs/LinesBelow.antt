-- The entries of a proof's lines stand in the list.
use Rattle.std.proofs.Common.{◌<◌, ℕ, List, [], ◌∷◌, ◌++◌, length, arith}
use Rattle.slotted_lists.proofs.Each.{Each, Each-from_All}
use Rattle.slotted_proofs.specs.Entries.{Proven}
use Rattle.slotted_proofs.specs.Lines.{Lines, all, passed, next, PartsAreEarlier, parts_at}

each_both : (n : ℕ) (xs ys : List ℕ) → Each (λ q. q < n) xs → Each (λ q. q < n) ys → Each (λ q. q < n) (xs ++ ys)
each_both n [] ys h k = k
each_both n (x ∷ xs) ys h k = (h.0, each_both n xs ys h.1 k)

pub lines_below : (list : List Proven) → PartsAreEarlier list → {lines ps end : List ℕ} → Lines list lines ps end → Each (λ q. q < length list) lines → Each (λ q. q < length list) ps → Each (λ q. q < length list) end
lines_below list earlier all h k = h
lines_below list earlier (passed was rest) h k = lines_below list earlier rest h k.1
lines_below list earlier (next {lines} {before} {ps} {end} {p} was parts rest) h k =
    let below : Each (λ q. q < length list) (parts_at list p) = Each-from_All (λ q. q < length list) (parts_at list p) (λ j d l. let e = earlier p k.0 j d l in omega (arith, e, k.0)) in
    lines_below list earlier rest (each_both (length list) before (p ∷ []) (lines_below list earlier parts h below) (k.0, tt)) k.1

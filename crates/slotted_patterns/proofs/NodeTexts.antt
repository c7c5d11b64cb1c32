-- A node's text is written part by part.
use Rattle.std.proofs.Common.{◌≡◌, ℕ, zero, suc, ◌+◌, ◌<◌, ◌≤◌, List, [], ◌∷◌, ◌++◌, map, length, drop, get_or, codes, refl, sym, ap, arith, append_assoc, append-nil, ◌∙◌}
use Rattle.std.proofs.Math.Seq.{drop-nil}
use Rattle.std.proofs.lemmas.List.{drop_more, drop_all, get_or-drop}
use Rattle.slotted_slots.specs.Syntax.{Element}
use Rattle.slotted_slots.specs.Table.{Table}
use Rattle.slotted_patterns.specs.Shown.{part_text, part_texts, width, spaced, bracketed}

drops_add : {A : Type 0} (n m : ℕ) (xs : List A) → drop n (drop m xs) ≡ drop (m + n) xs
drops_add n zero xs = ap (λ k. drop k xs) (omega arith)
drops_add n (suc m) [] = drop-nil n ∙ sym (drop-nil (suc m + n))
drops_add n (suc m) (x ∷ xs) =
    let one_more : suc (m + n) ≡ suc m + n = omega arith in
    drops_add n m xs ∙ ap (λ k. drop k (x ∷ xs)) one_more

-- one more element is written, after what stands before it
pub part_texts-step : {A : Type 0} (element : A → Element) (t : Table) (before done child : List ℕ) (es : List A) (i next : ℕ) (e : A) (us : List (List ℕ)) (whole : List ℕ) → i < length es → e ≡ get_or es i e → child ≡ get_or us next (codes "_") → done ++ spaced before (part_texts t (map element (drop i es)) (drop next us)) ≡ whole → ((done ++ before) ++ part_text t (element e) child) ++ spaced (codes " ") (part_texts t (map element (drop (i + 1) es)) (drop (next + width (element e)) us)) ≡ whole
part_texts-step element t before done child es i next e us whole lt is child_is so_far =
    let head : drop i es ≡ e ∷ drop (i + 1) es = drop_more es i e lt ∙ ap (λ d. d ∷ drop (i + 1) es) (sym is) in
    let first : get_or (drop next us) 0 (codes "_") ≡ child = get_or-drop next us 0 (codes "_") ∙ (ap (λ k. get_or us k (codes "_")) (omega arith) ∙ sym child_is) in
    let rest = spaced (codes " ") (part_texts t (map element (drop (i + 1) es)) (drop (next + width (element e)) us)) in
    let regrouped : ((done ++ before) ++ part_text t (element e) child) ++ rest ≡ done ++ (before ++ (part_text t (element e) child ++ rest)) = simp append_assoc in
    let back : done ++ (before ++ (part_text t (element e) child ++ rest)) ≡ done ++ spaced before (part_texts t (map element (e ∷ drop (i + 1) es)) (drop next us)) =
    rw (first, drops_add (width (element e)) next us) refl in
    regrouped ∙ (back ∙ (ap (λ ds. done ++ spaced before (part_texts t (map element ds) (drop next us))) (sym head) ∙ so_far))

pub length-part_texts : (t : Table) (es : List Element) (us : List (List ℕ)) → length (part_texts t es us) ≡ length es
length-part_texts t [] us = refl
length-part_texts t (e ∷ es) us = ap suc (length-part_texts t es (drop (width e) us))

-- one part stands alone
pub bracketed-one : (ps : List (List ℕ)) (bs : List ℕ) → length ps ≡ 1 → bs ≡ spaced [] ps → bs ≡ bracketed ps
bracketed-one [] bs one is = absurd (omega (arith, one))
bracketed-one (p ∷ []) bs one is = is ∙ append-nil p
bracketed-one (p ∷ q ∷ ps) bs one is = absurd (omega (arith, one))

-- and else they stand in brackets
pub bracketed-other : (ps : List (List ℕ)) (bs : List ℕ) → ¬ (length ps ≡ 1) → bs ≡ spaced [] ps → codes "(" ++ (bs ++ codes ")") ≡ bracketed ps
bracketed-other [] bs other is = ap (λ x. codes "(" ++ (x ++ codes ")")) is
bracketed-other (p ∷ []) bs other is = absurd (other refl)
bracketed-other (p ∷ q ∷ ps) bs other is = ap (λ x. codes "(" ++ (x ++ codes ")")) is

-- where no element is left, what was written is all
pub all_written : {A : Type 0} (element : A → Element) (t : Table) (before done : List ℕ) (es : List A) (i : ℕ) (us vs : List (List ℕ)) (whole : List ℕ) → length es ≤ i → done ++ spaced before (part_texts t (map element (drop i es)) vs) ≡ whole → done ≡ whole
all_written element t before done es i us vs whole le so_far =
    sym (append-nil done) ∙ (ap (λ ds. done ++ spaced before (part_texts t (map element ds) vs)) (sym (drop_all i es le)) ∙ so_far)

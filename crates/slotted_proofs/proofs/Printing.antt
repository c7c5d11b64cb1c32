-- The lines of parts are written one by one.
use Rattle.std.proofs.Common.{◌≡◌, ℕ, ◌+◌, ◌<◌, ◌≤◌, List, ◌∷◌, [], ◌++◌, length, get_or, drop, codes, sym, ap, append_assoc, append-nil, ◌∙◌}
use Rattle.std.specs.Prelude.{Option, position, nat_eq}
use Rattle.std.proofs.lemmas.List.{drop_more, drop_all}
use Rattle.slotted_proofs.specs.Reasons.{number_text, numbers_text}

-- one more part is written
pub numbers_text-step : (lines before done : List ℕ) (ps : List ℕ) (i p : ℕ) (line : Option ℕ) (whole : List ℕ) → i < length ps → p ≡ get_or ps i p → line ≡ position (nat_eq p) lines → done ++ numbers_text lines before (drop i ps) ≡ whole → ((done ++ before) ++ number_text line) ++ numbers_text lines (codes ", ") (drop (i + 1) ps) ≡ whole
numbers_text-step lines before done ps i p line whole lt is found so_far =
    let head : drop i ps ≡ p ∷ drop (i + 1) ps = drop_more ps i p lt ∙ ap (λ q. q ∷ drop (i + 1) ps) (sym is) in
    let rest = numbers_text lines (codes ", ") (drop (i + 1) ps) in
    let regrouped : ((done ++ before) ++ number_text line) ++ rest ≡ done ++ (before ++ (number_text line ++ rest)) = simp append_assoc in
    regrouped ∙ (ap (λ l. done ++ (before ++ (number_text l ++ rest))) found ∙ (ap (λ qs. done ++ numbers_text lines before qs) (sym head) ∙ so_far))

-- all are written
pub numbers_text-all : (lines before done first : List ℕ) (ps : List ℕ) (i : ℕ) → length ps ≤ i → done ++ numbers_text lines before (drop i ps) ≡ first ++ numbers_text lines [] ps → done ++ codes ")" ≡ first ++ (numbers_text lines [] ps ++ codes ")")
numbers_text-all lines before done first ps i le so_far =
    let done_is : done ≡ first ++ numbers_text lines [] ps = sym (append-nil done) ∙ (ap (λ qs. done ++ numbers_text lines before qs) (sym (drop_all i ps le)) ∙ so_far) in
    ap (λ d. d ++ codes ")") done_is ∙ append_assoc first (numbers_text lines [] ps) (codes ")")

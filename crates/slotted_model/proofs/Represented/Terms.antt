-- The terms of a list of canonical nodes: those that are there stay, and each is the layer of its node.
use Rattle.std.proofs.Common.{◌≡◌, ℕ, zero, suc, ◌+◌, ◌<◌, List, [], ◌∷◌, ◌++◌, length, sym, ◌∙◌, ap, refl, arith, length-append}
use Rattle.std.proofs.lemmas.List.{get_or_append_left}
use Rattle.std.proofs.Math.Seq.{get_or-append_seam}
use Rattle.slotted_theory.specs.Nameless.{DTerm, stop, moved}
use Rattle.slotted_theory.specs.FiniteMaps.{filled}
use Rattle.slotted_theory.proofs.Values.{node}
use Rattle.slotted_model.specs.Applied.{EachChild}
use Rattle.slotted_model.specs.Classes.{term_at, term_by, layer, terms_from, terms}
use Rattle.slotted_model.proofs.Represented.Children.{EachChild-map, layer-agrees}

pub term_at-front : (ts us : List DTerm) (i : ℕ) → i < length ts → term_at (ts ++ us) i ≡ term_at ts i
term_at-front ts us i l = get_or_append_left ts us (node 0 [] stop) i l

pub term_at-seam : (ts : List DTerm) (t : DTerm) → term_at (ts ++ t ∷ []) (length ts) ≡ t
term_at-seam ts t = get_or-append_seam ts t [] (node 0 [] stop)

pub terms_from-front : (ts cs : List DTerm) (i : ℕ) → i < length ts → term_at (terms_from ts cs) i ≡ term_at ts i
terms_from-front ts [] i l = refl
terms_from-front ts (c ∷ cs) i l = terms_from-front (ts ++ layer ts c ∷ []) cs i (omega (arith, length-append ts (layer ts c ∷ []))) ∙ term_at-front ts (layer ts c ∷ []) i l

-- the term of a node whose children are earlier is its layer
pub terms_from-layer : (ts cs : List DTerm) (n k : ℕ) → n ≡ length ts + k → k < length cs → EachChild (λ a. a.0 < n) (term_at cs k).args → term_at (terms_from ts cs) n ≡ layer (terms_from ts cs) (term_at cs k)
terms_from-layer ts [] n k e l c = absurd (omega arith)
terms_from-layer ts (d ∷ cs) n zero e l c =
    let at : n ≡ length ts = omega arith in
    let longer : length (ts ++ layer ts d ∷ []) ≡ length ts + 1 = length-append ts (layer ts d ∷ []) in
    ap (term_at (terms_from ts (d ∷ cs))) at
    ∙ (terms_from-front (ts ++ layer ts d ∷ []) cs (length ts) (omega arith)
    ∙ (term_at-seam ts (layer ts d)
    ∙ layer-agrees ts (terms_from ts (d ∷ cs)) d
    (EachChild-map (λ a. a.0 < n) (λ a. term_by ts a ≡ term_by (terms_from ts (d ∷ cs)) a) (λ a h. ap (moved (filled a.1)) (sym (terms_from-front ts (d ∷ cs) a.0 (omega arith)))) d.args c)))
terms_from-layer ts (d ∷ cs) n (suc k) e l c =
    let longer : length (ts ++ layer ts d ∷ []) ≡ length ts + 1 = length-append ts (layer ts d ∷ []) in
    terms_from-layer (ts ++ layer ts d ∷ []) cs n k (omega arith) (omega arith) c

pub length-terms_from : (ts cs : List DTerm) → length (terms_from ts cs) ≡ length ts + length cs
length-terms_from ts [] = omega arith
length-terms_from ts (c ∷ cs) = omega (arith, length-terms_from (ts ++ layer ts c ∷ []) cs, length-append ts (layer ts c ∷ []))

pub length-terms : (cs : List DTerm) → length (terms cs) ≡ length cs
length-terms cs = omega (arith, length-terms_from [] cs)

pub terms_from-append : (ts cs : List DTerm) (c : DTerm) → terms_from ts (cs ++ c ∷ []) ≡ terms_from ts cs ++ layer (terms_from ts cs) c ∷ []
terms_from-append ts [] c = refl
terms_from-append ts (d ∷ cs) c = terms_from-append (ts ++ layer ts d ∷ []) cs c

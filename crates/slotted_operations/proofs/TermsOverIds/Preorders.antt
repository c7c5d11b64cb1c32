-- What is built of a list of nodes in two parts.
use Rattle.std.proofs.Common.{◌≡◌, ◌≤◌, ◌-◌, ℕ, List, [], ◌∷◌, ◌++◌, length, take, drop, reverse, refl, sym, ap, subst, ◌∙◌, arith, length-append}
use Rattle.std.proofs.Math.Seq.{take-append_seam, drop-append_seam}
use Rattle.std.proofs.lemmas.List.{length-reverse, reverse-reverse}
use Rattle.slotted_theory.specs.Term.{Term}
use Rattle.slotted_nodes.specs.Form.{Form}
use Rattle.slotted_languages.specs.Filled.{term_of}
use Rattle.slotted_operations.specs.Preorder.{HasEnough, built, over_last_of}

pub built-append : (ns ms : List (Form × ℕ)) (ts : List Term) → built (ns ++ ms) ts ≡ built ns (built ms ts)
built-append [] ms ts = refl
built-append ((f, n) ∷ ns) ms ts = ap (over_last_of f n) (built-append ns ms ts)

pub enough-append : (ns ms : List (Form × ℕ)) (ts : List Term) → HasEnough ns (built ms ts) → HasEnough ms ts → HasEnough (ns ++ ms) ts
enough-append [] ms ts h k = k
enough-append ((f, n) ∷ ns) ms ts h k = (subst (λ l. n ≤ length l) (sym (built-append ns ms ts)) h.0, enough-append ns ms ts h.1 k)

pub enough-end : (ns ms : List (Form × ℕ)) (ts : List Term) → HasEnough (ns ++ ms) ts → HasEnough ms ts
enough-end [] ms ts h = h
enough-end ((f, n) ∷ ns) ms ts h = enough-end ns ms ts h.1

-- a node over these terms
pub over_last-seam : (f : Form) (us ts : List Term) (n : ℕ) → n ≡ length us → over_last_of f n (ts ++ reverse us) ≡ ts ++ term_of f us ∷ []
over_last-seam f us ts n is =
    let at : length (ts ++ reverse us) - n ≡ length ts = omega (arith, is, length-append ts (reverse us), length-reverse us) in
    ap (λ k. take k (ts ++ reverse us) ++ term_of f (reverse (drop k (ts ++ reverse us))) ∷ []) at
    ∙ (λ i. take-append_seam ts (reverse us) i ++ term_of f ((ap reverse (drop-append_seam ts (reverse us)) ∙ reverse-reverse us) i) ∷ [])

-- The text of a term is that of its uppermost node over the texts of its children.
use Rattle.std.proofs.Common.{◌≡◌, ℕ, zero, suc, ◌+◌, ◌-◌, ◌<◌, ◌≤◌, List, [], ◌∷◌, ◌++◌, map, length, length-append, length-drop, take, drop, get_or, codes, refl, sym, ap, arith, inl, inr, ◌∙◌}
use Rattle.std.specs.List.{take-map, drop-map}
use Rattle.std.proofs.lemmas.Bool.{cases_lt}
use Rattle.std.proofs.lemmas.Grind.{get_or_after_one}
use Rattle.std.proofs.lemmas.List.{get_or-drop, get_or-take, get_or_append_left, get_or-append-add, length-take}
use Rattle.slotted_theory.specs.Term.{Term}
use Rattle.slotted_nodes.specs.Form.{Form, Tree, leaf, own, child, bind, scopes, children}
use Rattle.slotted_languages.specs.Filled.{filled, term_of}
use Rattle.slotted_slots.specs.Syntax.{Element, text, name, applied}
use Rattle.slotted_slots.specs.Table.{Table}
use Rattle.slotted_patterns.specs.Shown.{part_text, part_texts, width, total_width, node_text, bracketed}
use Rattle.slotted_terms.specs.Shown.{child_texts, term_text, without_id, IsWrittenAs}

-- the ids of children do not print
part_text-without_id : (t : Table) (e : Element) (u : List ℕ) → part_text t (without_id e) u ≡ part_text t e u
part_text-without_id t (text bs) u = refl
part_text-without_id t (name x) u = refl
part_text-without_id t (applied i m) u = refl

width-without_id : (e : Element) → width (without_id e) ≡ width e
width-without_id (text bs) = refl
width-without_id (name x) = refl
width-without_id (applied i m) = refl

part_texts-without_id : (t : Table) (es : List Element) (us : List (List ℕ)) → part_texts t (map without_id es) us ≡ part_texts t es us
part_texts-without_id t [] us = refl
part_texts-without_id t (e ∷ es) us =
    rw (part_text-without_id t e (get_or us 0 (codes "_")), width-without_id e, part_texts-without_id t es (drop (width e) us)) refl

-- two rows of texts agree as far as children are written
abbrev pub Agree : ℕ → List (List ℕ) → List (List ℕ) → Type 0
Agree n us vs = (k : ℕ) → k < n → get_or us k (codes "_") ≡ get_or vs k (codes "_")

part_texts-agree : (t : Table) (es : List Element) (us vs : List (List ℕ)) → Agree (total_width es) us vs → part_texts t es us ≡ part_texts t es vs
part_texts-agree t [] us vs h = refl
part_texts-agree t (text bs ∷ es) us vs h = ap (λ ps. bs ∷ ps) (part_texts-agree t es us vs (λ k lt. h k (omega (arith, lt))))
part_texts-agree t (name x ∷ es) us vs h = ap (λ ps. part_text t (name x) [] ∷ ps) (part_texts-agree t es us vs (λ k lt. h k (omega (arith, lt))))
part_texts-agree t (applied i m ∷ es) us vs h =
    let rest : Agree (total_width es) (drop 1 us) (drop 1 vs) = λ k lt. get_or_after_one us k (codes "_") ∙ (h (1 + k) (omega (arith, lt)) ∙ sym (get_or_after_one vs k (codes "_"))) in
    rw (h 0 (omega arith), part_texts-agree t es (drop 1 us) (drop 1 vs) rest) refl

-- with no child too many, there are as many texts as places for children
length-child_texts : (w : Term → List Element) (t : Table) (r : Tree) (xs : List ℕ) (ts : List Term) → length ts ≤ length (children r) → length (child_texts w t (filled r xs ts)) ≡ length (children r)
length-child_texts w t leaf xs [] le = refl
length-child_texts w t leaf xs (u ∷ us) le = absurd (omega (arith, le))
length-child_texts w t (own r) xs ts le = length-child_texts w t r (drop 1 xs) ts le
length-child_texts w t (child i ks r) xs [] le = ap suc (length-child_texts w t r (drop (length ks) xs) [] (omega arith))
length-child_texts w t (child i ks r) xs (u ∷ us) le = ap suc (length-child_texts w t r (drop (length ks) xs) us (omega (arith, le)))
length-child_texts w t (bind u r) xs ts le =
    let n = length (children u) in
    let a = child_texts w t (filled u (take (length (scopes u)) (drop 1 xs)) (take n ts)) in
    let b = child_texts w t (filled r (drop (length (scopes u)) (drop 1 xs)) (drop n ts)) in
    let one = length-child_texts w t u (take (length (scopes u)) (drop 1 xs)) (take n ts) (omega (arith, length-take n ts)) in
    let two = length-child_texts w t r (drop (length (scopes u)) (drop 1 xs)) (drop n ts) (omega (arith, length-drop n ts, length-append (children u) (children r), le)) in
    omega (arith, length-append a b, one, two, length-append (children u) (children r))

-- the text of each child stands at its place, or `_`
pub child_texts-filled : (w : Term → List Element) (t : Table) (r : Tree) (xs : List ℕ) (ts : List Term) → Agree (length (children r)) (child_texts w t (filled r xs ts)) (map (term_text w t) ts)
child_texts-filled w t leaf xs ts k lt = absurd (omega (arith, lt))
child_texts-filled w t (own r) xs ts k lt = child_texts-filled w t r (drop 1 xs) ts k lt
child_texts-filled w t (child i ks r) xs [] zero lt = refl
child_texts-filled w t (child i ks r) xs [] (suc k) lt = child_texts-filled w t r (drop (length ks) xs) [] k (omega (arith, lt))
child_texts-filled w t (child i ks r) xs (u ∷ us) zero lt = refl
child_texts-filled w t (child i ks r) xs (u ∷ us) (suc k) lt = child_texts-filled w t r (drop (length ks) xs) us k (omega (arith, lt))
child_texts-filled w t (bind u r) xs ts k lt =
    let n = length (children u) in
    let f = term_text w t in
    let d = codes "_" in
    let a = child_texts w t (filled u (take (length (scopes u)) (drop 1 xs)) (take n ts)) in
    let b = child_texts w t (filled r (drop (length (scopes u)) (drop 1 xs)) (drop n ts)) in
    let size : length a ≡ n = length-child_texts w t u (take (length (scopes u)) (drop 1 xs)) (take n ts) (omega (arith, length-take n ts)) in
    elim (cases_lt k n) [
      | inl below ↦
          get_or_append_left a b d k (omega (arith, below, size))
          ∙ (child_texts-filled w t u (take (length (scopes u)) (drop 1 xs)) (take n ts) k below
          ∙ (ap (λ zs. get_or zs k d) (sym (take-map f n ts)) ∙ get_or-take n (map f ts) k d below))
      | inr above ↦
          let j = k - n in
          let inside : j < length (children r) = omega (arith, lt, above, length-append (children u) (children r)) in
          ap (λ i. get_or (a ++ b) i d) (omega (arith, above, size))
          ∙ (get_or-append-add a b j d
          ∙ (child_texts-filled w t r (drop (length (scopes u)) (drop 1 xs)) (drop n ts) j inside
          ∙ (ap (λ zs. get_or zs j d) (sym (drop-map f n ts)) ∙ (get_or-drop n (map f ts) j d ∙ ap (λ i. get_or (map f ts) i d) (omega (arith, above))))))
    ]

-- the text of a node over the texts of its children is that of its term
pub node_text-term : (w : Term → List Element) (t : Table) (f : Form) (es : List Element) (ts : List Term) → IsWrittenAs f es (w (term_of f ts)) → node_text t es (map (term_text w t) ts) ≡ term_text w t (term_of f ts)
node_text-term w t f es ts written =
    let us = map (term_text w t) ts in
    let vs = child_texts w t (filled f.tree f.names ts) in
    let agree : Agree (total_width es) us vs = λ k lt. sym (child_texts-filled w t f.tree f.names ts k (omega (arith, lt, written.count))) in
    let parts : part_texts t es us ≡ part_texts t (w (term_of f ts)) vs =
    part_texts-agree t es us vs agree ∙ (sym (part_texts-without_id t es vs) ∙ (ap (λ ds. part_texts t ds vs) written.same ∙ part_texts-without_id t (w (term_of f ts)) vs)) in
    ap bracketed parts

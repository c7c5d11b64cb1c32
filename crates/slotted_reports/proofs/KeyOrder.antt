-- Pairs of a key and its source, in order.
use Rattle.std.proofs.Common.{◌≡◌, ◌<◌, ◌+◌, ◌∙◌, ℕ, List, [], ◌∷◌, ◌++◌, None, Some, Option, length, map, get_or, take, refl, false, ap, sym, arith}
use Rattle.std.specs.Prelude.{All}
use Rattle.std.specs.List.Sorted.{IsSorted}
use Rattle.std.specs.declared.cmp.Ordering.{Ordering}
use Rattle.std.specs.declared.cmp.Ordering.TheVariants.{Less, Equal, Greater}
use Rattle.std.specs.Ordering.{is_lt, ordering_then}
use Rattle.std.specs.Borrow.{Bor}
use Rattle.std.proofs.lemmas.List.{get_or-map, length-map, map-append, map_more}
use Rattle.slotted_lists.proofs.Each.{Each, Each-from_All}
use Rattle.slotted_nodes.specs.Form.{Form}
use Rattle.slotted_hashcons.specs.Filed.{Filing}
use Rattle.slotted_reports.specs.Nodes.{HasKeyOf, key_at, key_of}

pub none-some : {X : Type 0} (x : X) → ¬ (None ≡ Some x)
none-some x e = cc

-- one element more on both sides
pub mapped-more : {A B C : Type 0} (f : A → C) (g : B → C) (xs : List A) (ys : List B) (i : ℕ) (x : A) (d : B) → i < length ys →
    map f xs ≡ map g (take i ys) → f x ≡ g (get_or ys i d) → map f (xs ++ x ∷ []) ≡ map g (take (i + 1) ys)
mapped-more f g xs ys i x d lt so_far here = map-append f xs (x ∷ []) ∙ ((λ j. so_far j ++ here j ∷ []) ∙ sym (map_more g ys i d lt))

-- the keys are those of the sources
each-key : {L : Type 0} (form : L → Form) (v : List (Option Filing)) (ps : List (Bor L × ℕ)) → Each (HasKeyOf form v) ps → map form (map (λ p. p.0.now) ps) ≡ map (key_at v) (map (λ p. p.1) ps)
each-key form v [] h = refl
each-key form v (p ∷ ps) h = λ j. sym (ap key_of h.0.1) j ∷ each-key form v ps h.1 j

pub keys-are : {L : Type 0} (form : L → Form) (v : List (Option Filing)) (ps : List (Bor L × ℕ)) → All (HasKeyOf form v) ps → map form (map (λ p. p.0.now) ps) ≡ map (key_at v) (map (λ p. p.1) ps)
keys-are form v ps all = each-key form v ps (Each-from_All (HasKeyOf form v) ps all)

-- what ascends by a first order and then by another, ascends by the first
not-less : (r s : Ordering) → is_lt (ordering_then r s) ≡ false → is_lt r ≡ false
not-less Less s e = e
not-less Equal s e = refl
not-less Greater s e = refl

pub firsts-sorted : {A B : Type 0} (f : A → B) (cmp : B → B → Ordering) (rest : A → A → Ordering) (ps : List A) → IsSorted (λ p q. ordering_then (cmp (f p) (f q)) (rest p q)) ps → IsSorted cmp (map f ps)
firsts-sorted f cmp rest [] sorted k d l h = absurd (omega (arith, h))
firsts-sorted f cmp rest (p ∷ ps) sorted k d l h =
    let many : length (map f (p ∷ ps)) ≡ length (p ∷ ps) = length-map (p ∷ ps) f in
    let one = get_or-map f (p ∷ ps) (k + 1) p d (omega (arith, h, many)) in
    let two = get_or-map f (p ∷ ps) k p d (omega (arith, h, many)) in
    (λ j. is_lt (cmp (one j) (two j))) ∙ not-less _ _ (sorted k p l (omega (arith, h, many)))

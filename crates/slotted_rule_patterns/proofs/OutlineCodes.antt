-- A pattern's own names, binders and child patterns can be read off the outline of its node.
use Rattle.std.proofs.Common.{◌≡◌, ℕ, List, [], ◌∷◌, length, take, drop, refl, ap, slice_index}
use Rattle.std.proofs.lemmas.List.{take_at, drop_at}
use Rattle.slotted_nodes.specs.Form.{Tree, leaf, own, child, bind, scopes, children}
use Rattle.slotted_languages.specs.Outline.{outlined, outlined_names}
use Rattle.slotted_languages.proofs.Outlines.{length-outlined_names, length_children-outlined}
use Rattle.slotted_model_rules.specs.Patterns.{Pattern, own_name, child_pattern, binding}
use Rattle.slotted_rule_patterns.specs.PatternCode.{filled_pattern}

pub filled_pattern-outlined : (v : ℕ) (u : Tree) (xs : List ℕ) (ps : List Pattern) → filled_pattern (outlined u) (outlined_names v u xs) ps ≡ filled_pattern u xs ps
filled_pattern-outlined v leaf xs ps = refl
filled_pattern-outlined v (own r) xs ps = ap (own_name (slice_index xs 0)) (filled_pattern-outlined v r (drop 1 xs) ps)
filled_pattern-outlined v (child i ks r) xs [] = refl
filled_pattern-outlined v (child i ks r) xs (p ∷ ps) = ap (child_pattern p) (filled_pattern-outlined v r (drop (length ks) xs) ps)
filled_pattern-outlined v (bind u r) xs ps =
    let n = length (scopes u) in
    let us = outlined_names v u (take n (drop 1 xs)) in
    let rs = outlined_names v r (drop n (drop 1 xs)) in
    let l = length-outlined_names v u (take n (drop 1 xs)) in
    rw (take_at us rs (length (scopes (outlined u))) l, drop_at us rs (length (scopes (outlined u))) l, length_children-outlined u)
    (λ i. binding (slice_index xs 0) (filled_pattern-outlined v u (take n (drop 1 xs)) (take (length (children u)) ps) i)
    (filled_pattern-outlined v r (drop n (drop 1 xs)) (drop (length (children u)) ps) i))

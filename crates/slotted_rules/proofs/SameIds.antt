-- What a comparison of two ids says.
use Rattle.std.proofs.Common.{◌≡◌, ◌≢◌, ◌∙◌, sym, ap}
use Rattle.std.specs.Prelude.{Bool, true, false, ◌&&◌, nat_eq, not}
use Rattle.std.specs.Cmp.Lexicographic.{pointwise}
use Rattle.std.proofs.lemmas.Bool.{false≢true}
use Rattle.slotted_slots.specs.declared.types.AppliedId.{AppliedId}
use Rattle.slotted_nodes.specs.Equal.{map_same, and_same}
use Rattle.slotted_proofs.specs.Equations.{to_applied}

abbrev pub id_test : AppliedId → AppliedId → Bool
id_test a b = nat_eq a.id.0 b.id.0 && pointwise (λ p q. nat_eq p.0 q.0 && nat_eq p.1 q.1) a.m b.m

pub same-ids : (a b : AppliedId) → id_test a b ≡ true → to_applied a ≡ to_applied b
same-ids a b e =
    let s = (and_same _ _ _ (map_same a.m b.m)).0 e in
    λ i. (s.0 i, s.1 i)

pub other-ids : (a b : AppliedId) → id_test a b ≡ false → to_applied a ≢ to_applied b
other-ids a b e same =
    false≢true (sym e ∙ (and_same _ _ _ (map_same a.m b.m)).1 (ap (λ p. p.0) same, ap (λ p. p.1) same))

pub not-false : (b : Bool) → not b ≡ false → b ≡ true
not-false true e = λ i. true
not-false false e = absurd (false≢true (sym e))

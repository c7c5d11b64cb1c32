use Rattle.std.proofs.Common.{◌≡◌, ◌≤◌, ◌++◌, ◌∷◌, [], List, ℕ, zero, suc, Some, length, drop, fold, sym, ap, ◌∙◌, refl, arith, add-one}
use Rattle.std.specs.Prelude.{slice_get}
use Rattle.std.proofs.lemmas.List.Sums.{fold-append}
use Rattle.std.specs.Ordering.{nat_cmp}
use Rattle.slotted_slots.specs.Maps.{values, is_among}
use Rattle.slotted_slots.specs.Sets.{insert_key}
use Rattle.slotted_slots.proofs.Ascending.{is_among-set_of}
use Rattle.slotted_proofs.proofs.equation.Equation.slots.Goals as goal

-- the next of what is left
next_left : (xs : List ℕ) (i v : ℕ) → slice_get xs i ≡ Some v → drop i xs ≡ v ∷ drop (suc i) xs
next_left [] i v e = absurd (cc)
next_left (x ∷ xs) zero v e = let p : x ≡ v = cc in ap (λ y. y ∷ xs) p
next_left (x ∷ xs) (suc i) v e = next_left xs i v e

-- nothing is left
none_left : (m : List (ℕ × ℕ)) (i : ℕ) → length m ≤ i → drop i (values m) ≡ []
none_left [] zero l = refl
none_left [] (suc i) l = refl
none_left (p ∷ m) zero l = absurd (omega arith)
none_left (p ∷ m) (suc i) l = none_left m i (omega arith)

pub loop-i-init : goal.loop-i-init
loop-i-init c =
    let l = values c.args.self.now.l.m in
    let r = values c.args.self.now.r.m in
    ap (λ s. fold (insert_key nat_cmp) s r) c.in_ok-slots.ensures.ok ∙ sym (fold-append (insert_key nat_cmp) [] l r)

pub loop-i-preserved : goal.loop-i-preserved
loop-i-preserved c =
    let r = values c.args.self.now.r.m in
    let i = c.loop-i.i in
    ap (λ k. fold (insert_key nat_cmp) c.insert.new.self (drop k r)) (add-one i)
    ∙ (ap (λ s. fold (insert_key nat_cmp) s (drop (suc i) r)) c.in_ok-insert.ensures.ok
    ∙ (ap (fold (insert_key nat_cmp) c.loop-i.slots) (sym (next_left r i c.value_at.result c.value_at.ensures)) ∙ c.loop-i.invariant))

pub returns-clause-ok : goal.returns-clause-ok
returns-clause-ok c =
    sym (ap (fold (insert_key nat_cmp) c.loop-i.slots) (none_left c.args.self.now.r.m c.loop-i.i (omega (arith, c.len-i-end.ensures.len, c.loop-i-test.false)))) ∙ c.loop-i.invariant

pub returns-clause-members : goal.returns-clause-members
returns-clause-members c v =
    let l = values c.args.self.now.l.m in
    let r = values c.args.self.now.r.m in
    let whole = sym (ap (fold (insert_key nat_cmp) c.loop-i.slots) (none_left c.args.self.now.r.m c.loop-i.i (omega (arith, c.len-i-end.ensures.len, c.loop-i-test.false)))) ∙ c.loop-i.invariant in
    ap (is_among v) whole ∙ is_among-set_of v (l ++ r)

use Rattle.std.proofs.Common.{◌≡◌, ◌∙◌, ℕ, List, ◌∷◌, sym, refl, subst, inl, inr}
use Rattle.std.specs.Prelude.{Contains}
use Rattle.std.proofs.lemmas.Bool.{false≢true}
use Rattle.slotted_lists.proofs.Contained.{contains_cases, contains_head, contains_tail, Contains-nil}
use Rattle.slotted_slots.specs.Maps.{keys, values}
use Rattle.slotted_proofs.proofs.Bridges.{ascends}
use Rattle.slotted_operations.proofs.names.keys_are_values.Goals as goal

-- the keys of a map are of these
abbrev Within : List ℕ → List (ℕ × ℕ) → Type 0
Within vs m = (s : ℕ) → Contains (keys m) s → Contains vs s

next-within : (vs : List ℕ) (rest more : List (ℕ × ℕ)) (s x : ℕ) → rest ≡ (s, x) ∷ more → Contains vs s → Within vs more → Within vs rest
next-within vs rest more s x e h w = subst (Within vs) (sym e) (λ z c. elim (contains_cases s (keys more) z c) [
  | inl q ↦ subst (Contains vs) (sym q) h
  | inr k ↦ w z k
])

rest-within : (vs : List ℕ) (rest more : List (ℕ × ℕ)) (s x : ℕ) → rest ≡ (s, x) ∷ more → Within vs rest → Contains vs s × Within vs more
rest-within vs rest more s x e w =
    let v : Within vs ((s, x) ∷ more) = subst (Within vs) e w in
    (v s (contains_head s (keys more)), λ z c. v z (contains_tail s (keys more) z c))

pub loop-slot-init : goal.loop-slot-init
loop-slot-init c =
    let whole : c.into_iter-slot-iterator.result ≡ c.args.map.now = c.into_iter-slot-iterator.ensures.into_iter_gives ∙ c.iter-slot-items.ensures.pairs in
    let vs = values c.args.slots.now in
    (λ w. subst (Within vs) whole w, λ w. subst (Within vs) (sym whole) w)

pub returns-then-not-has_value-clause-within : goal.returns-then-not-has_value-clause-within
returns-then-not-has_value-clause-within c = (
  λ y. absurd (false≢true y),
  λ w.
      let vs = values c.args.slots.now in
      absurd (false≢true (sym c.if-not-has_value.true ∙ c.has_value.ensures.contains.1 (rest-within vs c.loop-slot.slot-iterator c.next.new.self c.in-Some.slot _ c.in-Some.ensures.steps (c.loop-slot.invariant.1 w)).0)),
)

pub returns-then-not-has_value-clause-ascending : goal.returns-then-not-has_value-clause-ascending
returns-then-not-has_value-clause-ascending c = ascends (keys c.args.map.now) c.iter-slot-items.ensures.ascending

pub loop-slot-preserved : goal.loop-slot-preserved
loop-slot-preserved c =
    let vs = values c.args.slots.now in
    let h : Contains vs c.in-Some.slot = c.has_value.ensures.contains.0 c.if-not-has_value.false in (
      λ w. c.loop-slot.invariant.0 (next-within vs c.loop-slot.slot-iterator c.next.new.self c.in-Some.slot _ c.in-Some.ensures.steps h w),
      λ w. (rest-within vs c.loop-slot.slot-iterator c.next.new.self c.in-Some.slot _ c.in-Some.ensures.steps (c.loop-slot.invariant.1 w)).1,
    )

pub returns-clause-within : goal.returns-clause-within
returns-clause-within c = (
  λ y. c.loop-slot.invariant.0 (subst (Within (values c.args.slots.now)) (sym c.in-None.ensures.steps.0) (λ s h. absurd (Contains-nil s h))),
  λ w. refl,
)

pub returns-clause-ascending : goal.returns-clause-ascending
returns-clause-ascending c = ascends (keys c.args.map.now) c.iter-slot-items.ensures.ascending

-- Terms that are alpha-equal have large nodes at the same places.
use Rattle.std.proofs.Common.{◌≡◌, ◌+◌, ◌≤◌, ℕ, suc, refl, sym, ap, subst, ◌∙◌}
use Rattle.std.specs.Prelude.{◌⊎◌}
use Rattle.slotted_slots.specs.Table.{slot_limit}
use Rattle.slotted_theory.specs.Term.{Args, Term, done, name, child, bind}
use Rattle.slotted_theory.specs.Nameless.{Alpha, DArgs, DTerm, extend, nameless, nameless_args, stop, place, sub, scope}
use Rattle.slotted_terms.specs.LargeNodes.{HasLargeNode, HasLargePart, node_places}

-- the same of terms without bound names
abbrev places : DArgs → ℕ
places stop = 0
places (place x rest) = suc (places rest)
places (sub op payloads args rest) = suc (places rest)
places (scope inner rest) = suc (places inner + places rest)

abbrev IsLargePart : DArgs → Type 0
IsLargePart stop = ⊥
IsLargePart (place x rest) = IsLargePart rest
IsLargePart (sub op payloads args rest) = ((slot_limit ≤ places args) ⊎ IsLargePart args) ⊎ IsLargePart rest
IsLargePart (scope inner rest) = IsLargePart inner ⊎ IsLargePart rest

abbrev IsLarge : DTerm → Type 0
IsLarge d = (slot_limit ≤ places d.args) ⊎ IsLargePart d.args

places-nameless : (ρ : ℕ → ℕ) (a : Args) → places (nameless_args ρ a) ≡ node_places a
places-nameless ρ done = refl
places-nameless ρ (name x rest) = ap suc (places-nameless ρ rest)
places-nameless ρ (child op payloads args rest) = ap suc (places-nameless ρ rest)
places-nameless ρ (bind x inner rest) = λ i. suc (places-nameless (extend x ρ) inner i + places-nameless ρ rest i)

large-nameless : (ρ : ℕ → ℕ) (a : Args) → IsLargePart (nameless_args ρ a) ≡ HasLargePart a
large-nameless ρ done = refl
large-nameless ρ (name x rest) = large-nameless ρ rest
large-nameless ρ (child op payloads args rest) = λ i. ((slot_limit ≤ places-nameless ρ args i) ⊎ large-nameless ρ args i) ⊎ large-nameless ρ rest i
large-nameless ρ (bind x inner rest) = λ i. large-nameless (extend x ρ) inner i ⊎ large-nameless ρ rest i

large-term : (t : Term) → IsLarge (nameless t) ≡ HasLargeNode t
large-term t = λ i. (slot_limit ≤ places-nameless (λ x. x) t.args i) ⊎ large-nameless (λ x. x) t.args i

pub large-alpha : (t u : Term) → Alpha t u → HasLargeNode t → HasLargeNode u
large-alpha t u h l = subst (λ X. X) (sym (large-term t) ∙ (ap IsLarge h ∙ large-term u)) l

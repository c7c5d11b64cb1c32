-- Pairs of terms that are to be compared, each below binders.
--     binders_of open p    the binders below which the terms of the pair p stand, where these are open
--     IsSame open p        they are one below these binders, without their bound names
--     AddsPairs            pairs of children are added
--     Compares             what comparing the nodes of a pair answers, and what is left then
use Rattle.std.specs.Prelude.{◌≡◌, ◌<◌, ◌≤◌, ◌↔◌, ◌+◌, ℕ, List, [], ◌∷◌, ◌++◌, Bool, true, false, length, take, drop, slice_index_or}
use Rattle.slotted_theory.specs.Term.{Term, term_size}
use Rattle.slotted_nodes.specs.Form.{Form}
use Rattle.slotted_languages.specs.Filled.{term_of}
use Rattle.slotted_outlines.specs.Seen.{AreMatchedBy, SameChild, SameChildren, SameTerm}
use Rattle.slotted_outlines.specs.declared.outlines.Outlines.{Outlines}
use Rattle.slotted_terms.specs.LargeNodes.{HasLargeNode, HaveLargeNode}
use Rattle.slotted_terms.specs.declared.expr.alpha.Pair.{Pair}

abbrev pub binders_of : {L : Type 0} → List (ℕ × ℕ) → Pair L → List (ℕ × ℕ)
binders_of before p = take p.depth before ++ p.above.items

abbrev pub IsSame : {L : Type 0} → List (ℕ × ℕ) → Pair L → Type 0
IsSame before p = SameTerm (binders_of before p) p.one.now p.two.now

abbrev pub AreSame : {L : Type 0} → List (ℕ × ℕ) → List (Pair L) → Type 0
AreSame before [] = Unit {0}
AreSame before (p ∷ ps) = IsSame before p × AreSame before ps

-- the nodes p agree, with their own names, and as many terms stand under the one as under the other
pub record SameBelow {L : Type 0} (form : L → Form) (p : Outlines L) (stack : List (ℕ × ℕ)) (a b : Form) (ts us : List Term) : Type 0 where
  pub matched : AreMatchedBy form p.one p.two p.skeleton
  pub count : length ts ≡ length us
  pub children : SameTerm stack (term_of a ts) (term_of b us) ↔ SameChildren (form p.one) (form p.two) stack ts us

-- the sizes of terms, and one for each; and those of the left terms
abbrev pub sizes : List Term → ℕ
sizes [] = 0
sizes (t ∷ ts) = 1 + term_size t + sizes ts

abbrev pub left_sizes : {L : Type 0} → List (Pair L) → ℕ
left_sizes [] = 0
left_sizes (p ∷ ps) = 1 + term_size p.one.now + left_sizes ps

-- each pair stands below all of so many open binders, and a large node in one of its terms is one of P or of Q
abbrev pub AreUnder : {L : Type 0} → ℕ → (P Q : Type 0) → List (Pair L) → Type 0
AreUnder depth P Q [] = Unit {0}
AreUnder depth P Q (p ∷ ps) = (p.depth ≡ depth) × (HasLargeNode p.one.now → P) × (HasLargeNode p.two.now → Q) × AreUnder depth P Q ps

-- the children from the place k on are one below the binders
abbrev pub AreSameFrom : Form → Form → List (ℕ × ℕ) → List Term → List Term → ℕ → Type 0
AreSameFrom f g stack ts us k =
    (j : ℕ) (t u : Term) → k ≤ j → j < length ts → SameChild f g stack j (slice_index_or ts j t) (slice_index_or us j u)

-- they are added as pairs
pub record AddsPairs {L : Type 0} (f g : Form) (stack : List (ℕ × ℕ)) (ts us : List Term) (k : ℕ) (old new : List (Pair L)) : Type 0 where
  pub added : List (Pair L)
  pub joined : new ≡ old ++ added
  pub under : AreUnder (length stack) (HaveLargeNode ts) (HaveLargeNode us) added
  pub same : AreSame stack added ↔ AreSameFrom f g stack ts us k
  pub light : left_sizes added ≡ sizes (drop k ts)

-- the pair p gives way to those of the terms under its nodes, which are the same exactly if its terms are
pub record OpensPair {L : Type 0} (before after : List (ℕ × ℕ)) (p : Pair L) (old new : List (Pair L)) : Type 0 where
  pub added : List (Pair L)
  pub joined : new ≡ old ++ added
  pub binders : after ≡ binders_of before p
  pub under : AreUnder (length after) (HasLargeNode p.one.now) (HasLargeNode p.two.now) added
  pub same : AreSame after added ↔ IsSame before p
  pub light : left_sizes added ≤ term_size p.one.now

-- the pair p is compared
pub record Compares {L : Type 0} (before after : List (ℕ × ℕ)) (p : Pair L) (old new : List (Pair L)) (answer : Bool) : Type 0 where
  pub no : answer ≡ false → ¬ IsSame before p
  pub yes : answer ≡ true → OpensPair before after p old new

-- the depths of the pairs rise, from low to high
abbrev pub Rising : {L : Type 0} → ℕ → List (Pair L) → ℕ → Type 0
Rising low [] high = low ≤ high
Rising low (p ∷ ps) high = (low ≤ p.depth) × Rising p.depth ps high

-- a large node in a pair is one of P or of Q
abbrev pub AreLarge : {L : Type 0} → (P Q : Type 0) → List (Pair L) → Type 0
AreLarge P Q [] = Unit {0}
AreLarge P Q (p ∷ ps) = (HasLargeNode p.one.now → P) × (HasLargeNode p.two.now → Q) × AreLarge P Q ps

-- Analyses: data for each class, from any type, with a merge that only goes down.
--     Analysis D       what a node makes of the data of its children, the merge of two data, and a height
--     IsMerge D a      what is asked of the merge and the height
--     MakesAlike P D a what is asked of the nodes of which P holds
--     Absorbs a x v    merging v into x changes nothing
use Rattle.std.specs.Prelude.{◌≡◌, ◌≢◌, ◌⊎◌, ℕ, ◌<◌, List, length}
use Rattle.slotted_theory.specs.Nameless.{DTerm}
use Rattle.slotted_model.specs.Cost.{child_count, AreAlike}

-- what a node makes of the data of its children from left to right, the merge of two data, and the height of data
pub record Analysis (D : Type 0) : Type 0 where
  pub make : DTerm → List D → D
  pub merge : D → D → D
  pub height : D → ℕ

-- whether two data are equal is decided; the merge is commutative, associative and idempotent, and lowers the height of what it
-- changes
pub record IsMerge (D : Type 0) (a : Analysis D) : Type 0 where
  pub decided : (x y : D) → (x ≡ y) ⊎ (x ≢ y)
  pub commutative : (x y : D) → a.merge x y ≡ a.merge y x
  pub associative : (x y z : D) → a.merge (a.merge x y) z ≡ a.merge x (a.merge y z)
  pub idempotent : (x : D) → a.merge x x ≡ x
  pub lowers : (x y : D) → a.merge x y ≢ x → a.height (a.merge x y) < a.height x

-- alike nodes over children of equal data make equal data
abbrev pub MakesAlike : (DTerm → Type 0) → (D : Type 0) → Analysis D → Type 0
MakesAlike P D a = (d e : DTerm) (xs : List D) → P d → P e → AreAlike d e → length xs ≡ child_count d.args → a.make d xs ≡ a.make e xs

-- merging v into x changes nothing
abbrev pub Absorbs : {D : Type 0} → Analysis D → D → D → Type 0
Absorbs a x v = a.merge x v ≡ x

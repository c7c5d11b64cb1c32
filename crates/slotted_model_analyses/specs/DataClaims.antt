-- The laws of data alone, for data of any type D, owed by `data_laws_hold` in src/data.rt.
use Rattle.std.specs.Prelude.{◌≡◌, ◌≤◌}
use Rattle.slotted_model_analyses.specs.Analysis.{Analysis, IsMerge, Absorbs}

-- absorbing is an order: each data absorbs itself and what those that it absorbs do, and two that absorb each other are equal
abbrev pub AbsorbingIsAnOrder : Type 0 → Type 0
AbsorbingIsAnOrder D =
    (a : Analysis D) → IsMerge D a →
    ((x : D) → Absorbs a x x)
    × ((x y z : D) → Absorbs a x y → Absorbs a y z → Absorbs a x z)
    × ((x y : D) → Absorbs a x y → Absorbs a y x → x ≡ y)

-- merging a value again changes nothing: a merge absorbs both, and whatever absorbs both absorbs it
abbrev pub MergesAbsorb : Type 0 → Type 0
MergesAbsorb D =
    (a : Analysis D) → IsMerge D a → (x y : D) →
    Absorbs a (a.merge x y) x × Absorbs a (a.merge x y) y × ((z : D) → Absorbs a z x → Absorbs a z y → Absorbs a z (a.merge x y))

-- the order in which values are merged does not matter
abbrev pub MergesCommute : Type 0 → Type 0
MergesCommute D = (a : Analysis D) → IsMerge D a → (x v w : D) → a.merge (a.merge x v) w ≡ a.merge (a.merge x w) v

-- what absorbs is no higher, and a merge that leaves the height has changed nothing
abbrev pub HeightsFall : Type 0 → Type 0
HeightsFall D =
    (a : Analysis D) → IsMerge D a → (x v : D) →
    (Absorbs a x v → a.height x ≤ a.height v)
    × (a.height (a.merge x v) ≤ a.height x)
    × (a.height (a.merge x v) ≡ a.height x → Absorbs a x v)

-- all these laws
pub record DataLaws (D : Type 0) : Type 0 where
  pub absorbing_is_an_order : AbsorbingIsAnOrder D
  pub merges_absorb : MergesAbsorb D
  pub merges_commute : MergesCommute D
  pub heights_fall : HeightsFall D

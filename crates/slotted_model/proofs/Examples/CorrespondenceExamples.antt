-- Correspondences of small equations, computed.
use Rattle.std.proofs.Common.{◌≡◌, [], ◌∷◌, refl, true, false}
use Rattle.slotted_model.specs.Correspondence.{composite, turned, same_names, can_join, numbered}

-- i[0 = 7, 1 = 5] = j[2 = 5, 3 = 6] shares one name: that of slot 1 of i and slot 2 of j
sharing : same_names ((0, 7) ∷ (1, 5) ∷ []) ((2, 5) ∷ (3, 6) ∷ []) ≡ (1, 2) ∷ []
sharing = refl

-- with its sides exchanged it is listed by the slots of j
exchanged : turned (2 ∷ 3 ∷ []) ((0, 3) ∷ (1, 2) ∷ []) ≡ (2, 1) ∷ (3, 0) ∷ []
exchanged = refl

-- numbered from 0 as they first occur its names are i[0 = 0, 1 = 1] = j[2 = 1, 3 = 2]
numbers : numbered (0 ∷ 1 ∷ []) (2 ∷ 3 ∷ []) ((1, 2) ∷ []) ≡ ((0, 0) ∷ (1, 1) ∷ [], (2, 1) ∷ (3, 2) ∷ [])
numbers = refl

-- f[0 = x] = g[0 = x] and g[0 = y] = h[0 = y] are joined to f[0 = x] = h[0 = x]
joined : can_join ((0, 0) ∷ []) ((0, 0) ∷ []) ((0, 0) ∷ []) ≡ true
joined = refl

-- but not to f[0 = x] = h[0 = z], which would lose the name that goes through the middle
lost_name : can_join [] ((0, 0) ∷ []) ((0, 0) ∷ []) ≡ false
lost_name = refl

-- f[0 = x] = g[0 = x, 1 = y] and g[0 = y, 1 = z] = h[1 = z] are not joined to f[0 = x] = h[1 = x]: both slots of the middle would have the name x
shared_middle : can_join ((0, 1) ∷ []) ((0, 0) ∷ []) ((1, 1) ∷ []) ≡ false
shared_middle = refl

-- where the middle has no name of either side, the sides may share names in any way
free_middle : can_join ((0, 0) ∷ []) [] [] ≡ true
free_middle = refl

-- a slot that has no partner in the middle drops out of the composite
dropped : composite ((0, 0) ∷ (1, 1) ∷ []) ((1, 4) ∷ []) ≡ (1, 4) ∷ []
dropped = refl

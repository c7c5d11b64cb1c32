-- Lists under a map: whether each item passes, and the texts with a separator between.
use Rattle.std.proofs.Common.{◌≡◌, List, [], ◌∷◌, ◌++◌, map, Bool, refl, ap}
use Rattle.std.specs.Prelude.{◌&&◌}
use Rattle.std.specs.List.{list_all, join_by, flat_map}

pub list_all-map : {A B : Type 0} (test : B → Bool) (f : A → B) (xs : List A) → list_all test (map f xs) ≡ list_all (λ x. test (f x)) xs
list_all-map test f [] = refl
list_all-map test f (x ∷ xs) = ap (λ b. test (f x) && b) (list_all-map test f xs)

pub join_by-map : {A B : Type 0} (f : A → List B) (sep : List B) (xs : List A) → join_by f sep xs ≡ join_by (λ t. t) sep (map f xs)
join_by-map {A} {B} f sep [] = refl
join_by-map {A} {B} f sep (x ∷ xs) = ap (λ l. f x ++ l) (behind xs)
  where
    behind : (ys : List A) → flat_map (λ y. sep ++ f y) ys ≡ flat_map (λ t. sep ++ t) (map f ys)
    behind [] = refl
    behind (y ∷ ys) = ap (λ l. (sep ++ f y) ++ l) (behind ys)

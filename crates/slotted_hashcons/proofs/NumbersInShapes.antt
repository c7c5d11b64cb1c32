-- The numbers of a shape and the free names in the order in which they first stand are beside one another.
use Rattle.std.proofs.Common.{◌≡◌, ℕ, suc, ◌<◌, List, [], ◌∷◌, ◌++◌, length, map, cond, refl, ap, ◌∙◌, sym, subst, arith, append_assoc, length-append, inl, inr}
use Rattle.std.specs.Prelude.{Bool, true, false, ◌||◌}
use Rattle.std.specs.List.{zip}
use Rattle.std.proofs.lemmas.List.{map-append}
use Rattle.std.proofs.lemmas.Bool.{false≢true}
use Rattle.slotted_lists.proofs.Members.{In, In-append, In-left, In-right, In-map, In-of_map}
use Rattle.slotted_lists.proofs.Maps.{is_among-In, In-is_among}
use Rattle.slotted_theory.specs.Nameless.{DTerm}
use Rattle.slotted_theory.specs.Renaming.{IsInjective}
use Rattle.slotted_theory.specs.Shape.{free_names, number_in, shape}
use Rattle.slotted_theory.proofs.Names.{extend-same, extend-other}
use Rattle.slotted_slots.specs.Maps.{is_among}
use Rattle.slotted_slots.proofs.CombiningLaws.{same_test}
use Rattle.slotted_languages.specs.Shape.{added, firsts}
use Rattle.slotted_model.specs.Applied.{map_on}
use Rattle.slotted_model.specs.Ascending.{IsAscending, ascending, names}
use Rattle.slotted_model.specs.State.{name_numbered}
use Rattle.slotted_model.proofs.Rebuilding.Rows.{name_numbered-at}
use Rattle.slotted_model.proofs.Data.Sets.{In-ascending, In-of_ascending, IsAscending-ascending, below_each, below_from_each, same_members}
use Rattle.slotted_model.proofs.Data.Theory.{free_names-moved}
use Rattle.slotted_classes.proofs.NamePairs.{In-firsts}

-- a name that did not stand before has the number of names before it
number-new : (ys zs : List ℕ) (x : ℕ) → ¬ In x ys → number_in (ys ++ x ∷ zs) x ≡ length ys
number-new [] zs x n = extend-same x (number_in zs) x refl
number-new (y ∷ ys) zs x n = extend-other y (number_in (ys ++ x ∷ zs)) x (λ e. n (inl e)) ∙ ap suc (number-new ys zs x (λ h. n (inr h)))

ascending-last : (xs : List ℕ) (n : ℕ) → IsAscending xs → ((z : ℕ) → In z xs → z < n) → IsAscending (xs ++ n ∷ [])
ascending-last [] n a h = (tt, tt)
ascending-last (x ∷ xs) n a h =
    (below_from_each x (xs ++ n ∷ []) above, ascending-last xs n a.1 (λ z k. h z (inr k)))
  where
    above : (z : ℕ) → In z (xs ++ n ∷ []) → x < z
    above z k = elim (In-append z xs (n ∷ []) k) [
      | inl m ↦ below_each x xs a.0 z m
      | inr m ↦ last m
    ]
      where
        last : In z (n ∷ []) → x < z
        last (inl e) = let l : x < n = h x (inl refl) in omega arith
        last (inr e) = absurd e

or-true : (b : Bool) → (b || true) ≡ true
or-true true = refl
or-true false = refl

-- an injective function moves the names of a list each to one place, and where each first stands
among-map : (f : ℕ → ℕ) → IsInjective f → (x : ℕ) (vs : List ℕ) → is_among (f x) (map f vs) ≡ is_among x vs
among-map f inj x vs =
    same_test (is_among (f x) (map f vs)) (is_among x vs)
    (λ h.
    let r : (v : ℕ) × In v vs × (f x ≡ f v) = In-of_map f vs (f x) (is_among-In (map f vs) (f x) h) in
    In-is_among vs x (subst (λ v. In v vs) (sym (inj x r.0 r.2)) r.1))
    (λ h. In-is_among (map f vs) (f x) (In-map f vs x (is_among-In vs x h)))

added-map : (f : ℕ → ℕ) → IsInjective f → (vs xs : List ℕ) → added (map f vs) (map f xs) ≡ map f (added vs xs)
added-map f inj vs [] = refl
added-map f inj vs (x ∷ xs) =
    ap (λ b. added (cond b (map f vs) (map f vs ++ f x ∷ [])) (map f xs)) (among-map f inj x vs)
    ∙ one (is_among x vs) (added-map f inj vs xs) (added-map f inj (vs ++ x ∷ []) xs)
  where
    one : (b : Bool) → added (map f vs) (map f xs) ≡ map f (added vs xs) → added (map f (vs ++ x ∷ [])) (map f xs) ≡ map f (added (vs ++ x ∷ []) xs) →
        added (cond b (map f vs) (map f vs ++ f x ∷ [])) (map f xs) ≡ map f (added (cond b vs (vs ++ x ∷ [])) xs)
    one true same more = same
    one false same more = ap (λ ws. added ws (map f xs)) (sym (map-append f vs (x ∷ []))) ∙ more

pub firsts-map : (f : ℕ → ℕ) → IsInjective f → (xs : List ℕ) → firsts (map f xs) ≡ map f (firsts xs)
firsts-map f inj xs = added-map f inj [] xs

-- the names vs of the part ys of all names, each once, in the order of their numbers
record SoFar (whole ys vs : List ℕ) : Type 0 where
  ascends : IsAscending (map (number_in whole) vs)
  below : (v : ℕ) → In v vs → number_in whole v < length ys
  all : (y : ℕ) → In y ys → In y vs

last-one : (z x : ℕ) → In z (x ∷ []) → z ≡ x
last-one z x (inl e) = e
last-one z x (inr h) = absurd h

one_more : (whole ys zs vs : List ℕ) (x : ℕ) (b : Bool) → whole ≡ ys ++ x ∷ zs → is_among x vs ≡ b → SoFar whole ys vs → SoFar whole (ys ++ x ∷ []) (cond b vs (vs ++ x ∷ []))
one_more whole ys zs vs x true e a s = record {
  ascends = s.ascends;
  below = λ v h. omega (arith, s.below v h, length-append ys (x ∷ []));
  all = λ y h. elim (In-append y ys (x ∷ []) h) [
    | inl k ↦ s.all y k
    | inr k ↦ subst (λ z. In z vs) (sym (last-one y x k)) (is_among-In vs x a)
  ];
}
one_more whole ys zs vs x false e a s =
    let N : ℕ → ℕ = number_in whole in
    let new : ¬ In x ys = λ h. false≢true (sym a ∙ In-is_among vs x (s.all x h)) in
    let n : N x ≡ length ys = ap (λ w. number_in w x) e ∙ number-new ys zs x new in
    record {
      ascends = subst IsAscending (sym (map-append N vs (x ∷ []) ∙ ap (λ m. map N vs ++ m ∷ []) n))
          (ascending-last (map N vs) (length ys) s.ascends (λ z h. let r : (v : ℕ) × In v vs × (z ≡ N v) = In-of_map N vs z h in omega (arith, r.2, s.below r.0 r.1)));
      below = λ v h. elim (In-append v vs (x ∷ []) h) [
        | inl k ↦ omega (arith, s.below v k, length-append ys (x ∷ []))
        | inr k ↦ omega (arith, ap N (last-one v x k), n, length-append ys (x ∷ []))
      ];
      all = λ y h. elim (In-append y ys (x ∷ []) h) [
        | inl k ↦ In-left y vs (x ∷ []) (s.all y k)
        | inr k ↦ In-right y vs (x ∷ []) k
      ];
    }

added-ascend : (whole ys zs vs : List ℕ) → whole ≡ ys ++ zs → SoFar whole ys vs → IsAscending (map (number_in whole) (added vs zs))
added-ascend whole ys [] vs e s = s.ascends
added-ascend whole ys (x ∷ zs) vs e s =
    added-ascend whole (ys ++ x ∷ []) zs (cond (is_among x vs) vs (vs ++ x ∷ [])) (e ∙ sym (append_assoc ys (x ∷ []) zs)) (one_more whole ys zs vs x (is_among x vs) e refl s)

-- names in the order in which they first stand have ascending numbers
firsts-ascend : (xs : List ℕ) → IsAscending (map (number_in xs) (firsts xs))
firsts-ascend xs = added-ascend xs [] xs [] refl (record { ascends = tt; below = λ v h. absurd h; all = λ y h. h })

-- so these are all the numbers of the shape, in order
pub names-shape : (d : DTerm) → names (shape d) ≡ map (number_in (free_names d.args)) (firsts (free_names d.args))
names-shape d =
    let xs : List ℕ = free_names d.args in
    let N : ℕ → ℕ = number_in xs in
    ap ascending (free_names-moved N d.args)
    ∙ same_members (ascending (map N xs)) (map N (firsts xs)) (IsAscending-ascending (map N xs)) (firsts-ascend xs) (λ z. (
      λ h.
          let r : (x : ℕ) × In x xs × (z ≡ N x) = In-of_map N xs z (In-of_ascending z (map N xs) h) in
          subst (λ y. In y (map N (firsts xs))) (sym r.2) (In-map N (firsts xs) r.0 ((In-firsts r.0 xs).1 r.1)),
      λ h.
          let r : (x : ℕ) × In x (firsts xs) × (z ≡ N x) = In-of_map N (firsts xs) z h in
          In-ascending z (map N xs) (subst (λ y. In y (map N xs)) (sym r.2) (In-map N xs r.0 ((In-firsts r.0 xs).0 r.1))),
    ))

zip-back : (g N : ℕ → ℕ) (vs : List ℕ) → ((v : ℕ) → In v vs → g (N v) ≡ v) → zip (map N vs) vs ≡ map_on g (map N vs)
zip-back g N [] h = refl
zip-back g N (v ∷ vs) h = λ i. (N v, sym (h v (inl refl)) i) ∷ zip-back g N vs (λ w k. h w (inr k)) i

-- beside each number stands the name that has it
pub names-beside : (d : DTerm) → zip (names (shape d)) (firsts (free_names d.args)) ≡ map_on (name_numbered d) (names (shape d))
names-beside d =
    let xs : List ℕ = free_names d.args in
    let N : ℕ → ℕ = number_in xs in
    ap (λ ns. zip ns (firsts xs)) (names-shape d)
    ∙ (zip-back (name_numbered d) N (firsts xs) (λ v h. name_numbered-at d v ((In-firsts v xs).0 h)) ∙ ap (map_on (name_numbered d)) (sym (names-shape d)))

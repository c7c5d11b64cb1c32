-- The names of a node's arguments stand at its places, and those of its binders at the places of binders.
use Rattle.std.proofs.Common.{◌≡◌, ℕ, zero, suc, ◌<◌, List, [], ◌∷◌, ◌++◌, length, take, drop, map, sym, ◌∙◌, ap, refl, subst, inl, inr, arith, slice_index}
use Rattle.std.specs.Prelude.{Contains, Option, Some, None, IsSome, slice_index_or}
use Rattle.std.specs.List.{zip}
use Rattle.slotted_lists.proofs.Members.{In, In-append, In-Contains, In-take, In-drop}
use Rattle.slotted_lists.proofs.Maps.{In-zip}
use Rattle.slotted_lists.proofs.Lists.{first-take, drop_one-take}
use Rattle.slotted_nodes.specs.Form.{Form, Tree, leaf, own, child, bind, scopes}
use Rattle.slotted_languages.specs.Children.{IsBinder}
use Rattle.slotted_languages.specs.Shape.{Fits}
use Rattle.slotted_languages.proofs.NodeTerms.{own_fits, child_rest_fits, bind_inner_fits, bind_rest_fits}
use Rattle.slotted_model.specs.Applied.{values}
use Rattle.slotted_model.specs.Correspondence.{AllDifferent}
use Rattle.slotted_model_rules.specs.Matcher.{written_names, bound_names}
use Rattle.slotted_rule_patterns.specs.NodeArguments.{args_of, node_arguments}
use Rattle.slotted_rule_patterns.proofs.NodeArguments.{some_end}

pub In-first : (xs : List ℕ) (z n : ℕ) → length xs ≡ suc n → z ≡ slice_index xs 0 → In z xs
In-first [] z n l e = absurd (omega (arith, l))
In-first (x ∷ xs) z n l e = inl e

written : (u : Tree) (xs : List ℕ) (z : ℕ) → length xs ≡ length (scopes u) → In z (written_names (args_of u xs)) → In z xs
written leaf xs z n h = absurd h
written (own r) xs z n (inl e) = In-first xs z (length (scopes r)) n e
written (own r) xs z n (inr h) = In-drop 1 xs z (written r (drop 1 xs) z (own_fits r xs n) h)
written (child i ks r) xs z n h = elim (In-append z (values (zip ks (take (length ks) xs))) (written_names (args_of r (drop (length ks) xs))) h) [
  | inl k ↦ In-take (length ks) xs z (In-zip ks (take (length ks) xs) z k)
  | inr k ↦ In-drop (length ks) xs z (written r (drop (length ks) xs) z (child_rest_fits i ks r xs n) k)
]
written (bind u r) xs z n (inl e) = In-first xs z (length (scopes u ++ scopes r)) n e
written (bind u r) xs z n (inr h) =
    let m = length (scopes u) in
    let us = take m (drop 1 xs) in
    let rs = drop m (drop 1 xs) in
    elim (In-append z (written_names (args_of u us)) (written_names (args_of r rs)) h) [
      | inl k ↦ In-drop 1 xs z (In-take m (drop 1 xs) z (written u us z (bind_inner_fits u r xs n) k))
      | inr k ↦ In-drop 1 xs z (In-drop m (drop 1 xs) z (written r rs z (bind_rest_fits u r xs n) k))
    ]

-- each written name stands at a place
pub written-named : (f : Form) → Fits f → (z : ℕ) → In z (written_names (node_arguments f)) → In z f.names
written-named f fits z h = written f.tree f.names z fits h

-- the names at the places of binders
abbrev at_binders : List (Option ℕ) → List ℕ → List ℕ
at_binders [] xs = []
at_binders (None ∷ ss) xs = at_binders ss (drop 1 xs)
at_binders (Some n ∷ ss) xs = slice_index xs 0 ∷ at_binders ss (drop 1 xs)

drop-drop : (n : ℕ) (xs : List ℕ) → drop (suc n) xs ≡ drop n (drop 1 xs)
drop-drop zero [] = refl
drop-drop (suc n) [] = refl
drop-drop n (x ∷ xs) = refl

at-next : (xs : List ℕ) (j : ℕ) → slice_index (drop 1 xs) j ≡ slice_index xs (suc j)
at-next [] j = refl
at-next (x ∷ xs) j = refl

binders-append : (ss ts : List (Option ℕ)) (xs : List ℕ) → at_binders (ss ++ ts) xs ≡ at_binders ss (take (length ss) xs) ++ at_binders ts (drop (length ss) xs)
binders-append [] ts xs = refl
binders-append (None ∷ ss) ts xs =
    let n = length ss in
    binders-append ss ts (drop 1 xs) ∙ (λ i. at_binders ss (sym (drop_one-take n xs) i) ++ at_binders ts (sym (drop-drop n xs) i))
binders-append (Some k ∷ ss) ts xs =
    let n = length ss in
    ap (λ l. slice_index xs 0 ∷ l) (binders-append ss ts (drop 1 xs))
    ∙ (λ i. sym (first-take n xs) i ∷ (at_binders ss (sym (drop_one-take n xs) i) ++ at_binders ts (sym (drop-drop n xs) i)))

binders-child : (ks : List ℕ) (ss : List (Option ℕ)) (xs : List ℕ) → at_binders ss (drop (length ks) xs) ≡ at_binders (map (λ _. None) ks ++ ss) xs
binders-child [] ss xs = refl
binders-child (k ∷ ks) ss xs = ap (at_binders ss) (drop-drop (length ks) xs) ∙ binders-child ks ss (drop 1 xs)

bound-at : (u : Tree) (xs : List ℕ) → bound_names (args_of u xs) ≡ at_binders (scopes u) xs
bound-at leaf xs = refl
bound-at (own r) xs = bound-at r (drop 1 xs)
bound-at (child i ks r) xs = bound-at r (drop (length ks) xs) ∙ binders-child ks (scopes r) xs
bound-at (bind u r) xs =
    let m = length (scopes u) in
    ap (λ l. slice_index xs 0 ∷ l)
    ((λ i. bound-at u (take m (drop 1 xs)) i ++ bound-at r (drop m (drop 1 xs)) i) ∙ sym (binders-append (scopes u) (scopes r) (drop 1 xs)))

-- a binder's place
record Binds (ss : List (Option ℕ)) (xs : List ℕ) (y : ℕ) : Type 0 where
  place : ℕ
  within : place < length ss
  binder : IsSome (slice_index_or ss place None)
  named : y ≡ slice_index xs place

binds : (ss : List (Option ℕ)) (xs : List ℕ) (y : ℕ) → In y (at_binders ss xs) → Binds ss xs y
binds [] xs y h = absurd h
binds (None ∷ ss) xs y h =
    let b = binds ss (drop 1 xs) y h in
    record { place = suc b.place; within = omega (arith, b.within); binder = b.binder; named = b.named ∙ at-next xs b.place }
binds (Some n ∷ ss) xs y (inl e) = record { place = 0; within = omega arith; binder = refl; named = e }
binds (Some n ∷ ss) xs y (inr h) =
    let b = binds ss (drop 1 xs) y h in
    record { place = suc b.place; within = omega (arith, b.within); binder = b.binder; named = b.named ∙ at-next xs b.place }

-- no two binders have one name
abbrev AreApart : List (Option ℕ) → List ℕ → Type 0
AreApart ss xs = (j k : ℕ) → j < length ss → k < length ss → IsSome (slice_index_or ss j None) → IsSome (slice_index_or ss k None) → slice_index xs j ≡ slice_index xs k → j ≡ k

apart-next : (o : Option ℕ) (ss : List (Option ℕ)) (xs : List ℕ) → AreApart (o ∷ ss) xs → AreApart ss (drop 1 xs)
apart-next o ss xs a j k h l b c e =
    let same : suc j ≡ suc k = a (suc j) (suc k) (omega (arith, h)) (omega (arith, l)) b c (sym (at-next xs j) ∙ (e ∙ at-next xs k)) in
    omega (arith, same)

different : (ss : List (Option ℕ)) (xs : List ℕ) → AreApart ss xs → AllDifferent (at_binders ss xs)
different [] xs a = tt
different (None ∷ ss) xs a = different ss (drop 1 xs) (apart-next None ss xs a)
different (Some n ∷ ss) xs a = (new, different ss (drop 1 xs) (apart-next (Some n) ss xs a))
  where
    new : ¬ Contains (at_binders ss (drop 1 xs)) (slice_index xs 0)
    new c =
        let b = binds ss (drop 1 xs) (slice_index xs 0) (In-Contains (at_binders ss (drop 1 xs)) (slice_index xs 0) c) in
        let same : 0 ≡ suc b.place = a 0 (suc b.place) (omega arith) (omega (arith, b.within)) refl b.binder (b.named ∙ at-next xs b.place) in
        omega (arith, same)

module _ (f : Form) (fits : Fits f) where
  -- each bound name stands at a binder
  pub bound-named : (z : ℕ) → In z (bound_names (node_arguments f)) → (j : ℕ) × (j < length f.names) × IsBinder f j × (z ≡ slice_index f.names j)
  bound-named z h =
      let b = binds (scopes f.tree) f.names z (subst (In z) (bound-at f.tree f.names) h) in
      (b.place, omega (arith, b.within, fits), some_end b.place (slice_index_or (scopes f.tree) b.place None) b.binder, b.named)

  -- so they differ where no two binders have one name
  pub bound-differ : ((j k : ℕ) → j < length f.names → k < length f.names → IsBinder f j → IsBinder f k → slice_index f.names j ≡ slice_index f.names k → j ≡ k) →
      AllDifferent (bound_names (node_arguments f))
  bound-differ apart =
      let ss = scopes f.tree in
      subst AllDifferent (sym (bound-at f.tree f.names))
      (different ss f.names (λ j k h l b c e. apart j k (omega (arith, h, fits)) (omega (arith, l, fits)) (some_end j (slice_index_or ss j None) b) (some_end k (slice_index_or ss k None) c) e))

-- Skeletons in a set: each stands at one place, and stays there.
use Rattle.std.proofs.Common.{◌≡◌, ℕ, zero, suc, ◌+◌, ◌<◌, ◌≤◌, List, [], ◌∷◌, ◌++◌, length, map, Option, Some, None, Bool, true, false, cond, sym, ◌∙◌, ap, refl, subst, inl, inr, arith, get_or, length-append}
use Rattle.std.specs.Prelude.{◌↔◌, ◌⊎◌, IsTrue, slice_get, position}
use Rattle.std.specs.List.{list_any}
use Rattle.std.specs.Prelude.{option_map}
use Rattle.std.proofs.lemmas.Bool.{false≢true}
use Rattle.std.proofs.lemmas.List.{map-append, append-nil, length-map}
use Rattle.std.proofs.lemmas.List.Folds.{list_any_at}
use Rattle.std.proofs.lemmas.List.Quantifiers.{position-Some}
use Rattle.std.proofs.lemmas.Option.{get_or_from_slice_get, slice_get-get_or, slice_get-map, slice_get_within}
use Rattle.indexmap.specs.IndexSet.{insert_key}
use Rattle.slotted_nodes.specs.Form.{Form, Tree, leaf, own, child, bind, scopes, children}
use Rattle.slotted_languages.specs.Outline.{outlined, outlined_names}
use Rattle.slotted_languages.proofs.Outlines.{length-outlined_names}
use Rattle.slotted_matching.specs.Skeletons.{GrowsTo, IsPlaceOf, StandOnce, StandsAt}

-- an outline has a place for each child, and besides no more than the tree
outline-places : (u : Tree) → length (scopes (outlined u)) ≤ length (scopes u) + length (children u)
outline-places leaf = omega arith
outline-places (own r) = omega (arith, outline-places r)
outline-places (child i ks r) =
    omega (arith, outline-places r, length-append (map {B = Option ℕ} (λ _. None) ks) (scopes r))
outline-places (bind u r) =
    omega (arith, outline-places u, outline-places r, length-append (scopes u) (scopes r), length-append (children u) (children r), length-append (scopes (outlined u)) (scopes (outlined r)))

pub few-outlined : (v : ℕ) (f : Form) (n : ℕ) → length f.names ≡ length (scopes f.tree) → length f.names + length (children f.tree) < n → length (outlined_names v f.tree f.names) < n
few-outlined v f n fits h = omega (arith, fits, h, outline-places f.tree, length-outlined_names v f.tree f.names)

-- a new form behind others
behind : (T : List Form) (f h : Form) (y : ℕ) → StandsAt (T ++ f ∷ []) h y → StandsAt T h y ⊎ (h ≡ f)
behind [] f h zero k = inr (cc)
behind [] f h (suc y) k = absurd (cc)
behind (b ∷ T) f h zero k = inl k
behind (b ∷ T) f h (suc y) k = behind T f h y k

first-again : (a : Form) (S : List Form) (f h : Form) (y : ℕ) → ((i : ℕ) → ¬ StandsAt (a ∷ S) f i) → StandOnce (a ∷ S) → Some a ≡ Some h → ¬ StandsAt (S ++ f ∷ []) h y
first-again a S f h y n o e k = elim (behind S f h y k) [
  | inl l ↦ let w : 0 ≡ suc y = o 0 (suc y) h e l in omega (arith, w)
  | inr l ↦ n 0 (e ∙ ap Some l)
]

last-one : (S : List Form) (f : Form) → ((i : ℕ) → ¬ StandsAt S f i) → StandOnce S → StandOnce (S ++ f ∷ [])
last-one [] f n o zero zero h i j = refl
last-one [] f n o zero (suc y) h i j = absurd (cc)
last-one [] f n o (suc x) y h i j = absurd (cc)
last-one (a ∷ S) f n o zero zero h i j = refl
last-one (a ∷ S) f n o zero (suc y) h i j = absurd (first-again a S f h y n o i j)
last-one (a ∷ S) f n o (suc x) zero h i j = absurd (first-again a S f h x n o j i)
last-one (a ∷ S) f n o (suc x) (suc y) h i j =
    ap suc (last-one S f (λ z k. n (suc z) k) (λ z w g k l. let e : suc z ≡ suc w = o (suc z) (suc w) g k l in omega (arith, e)) x y h i j)

module _ {L : Type 0} (E : L → L → Bool) (F : L → Form) (same : (a b : L) → IsTrue (E a b) ↔ F a ≡ F b) where
  some-at : (ks : List L) (i : ℕ) (f : Form) → StandsAt (map F ks) f i → (x : L) × (slice_get ks i ≡ Some x) × (F x ≡ f)
  some-at ks i f e = go (slice_get ks i) refl
    where
      go : (o : Option L) → slice_get ks i ≡ o → (x : L) × (slice_get ks i ≡ Some x) × (F x ≡ f)
      go None h = let n : option_map F (slice_get ks i) ≡ None = ap (option_map F) h in let q : option_map F (slice_get ks i) ≡ Some f = sym (slice_get-map F ks i) ∙ e in absurd (cc)
      go (Some x) h = let n : option_map F (slice_get ks i) ≡ Some (F x) = ap (option_map F) h in let q : option_map F (slice_get ks i) ≡ Some f = sym (slice_get-map F ks i) ∙ e in (x, h, cc)

  pub stored-at : (ks : List L) (k x : L) (n : ℕ) → slice_get ks n ≡ Some x → E k x ≡ true → StandsAt (map F ks) (F k) n
  stored-at ks k x n e t = slice_get-map F ks n ∙ (ap (option_map F) e ∙ ap Some (sym ((same k x).0 t)))

  -- where no key is equal, no form is
  pub nowhere : (ks : List L) (k : L) → list_any (E k) ks ≡ false → (i : ℕ) → ¬ StandsAt (map F ks) (F k) i
  nowhere ks k n i e =
      let p = some-at ks i (F k) e in
      let there : E k (get_or ks i p.0) ≡ true = ap (E k) (get_or_from_slice_get ks i p.0 p.0 p.1) ∙ (same k p.0).1 (sym p.2) in
      false≢true (sym n ∙ list_any_at (E k) ks i p.0 (slice_get_within ks i p.0 p.1) there)

  pub found-place : (ks : List L) (k : L) (n : ℕ) → StandOnce (map F ks) → position (E k) ks ≡ Some n → IsPlaceOf (map F ks) (F k) n
  found-place ks k n once e =
      let p = position-Some (E k) ks n k e in
      let at = stored-at ks k (get_or ks n k) n (slice_get-get_or ks n k p.0) p.1 in
      inl (λ i. (λ s. once i n (F k) s at, λ q. subst (StandsAt (map F ks) (F k)) (sym q) at))

  pub no-place : (ks : List L) (k : L) (n : ℕ) → list_any (E k) ks ≡ false → n ≡ length ks → IsPlaceOf (map F ks) (F k) n
  no-place ks k n none e = inr (e ∙ sym (length-map ks F), nowhere ks k none)

  pub inserted-grows : (ks : List L) (k : L) → GrowsTo (map F ks) (map F (insert_key E ks k))
  inserted-grows ks k = go (list_any (E k) ks)
    where
      go : (b : Bool) → GrowsTo (map F ks) (map F (cond b ks (ks ++ k ∷ [])))
      go true = ([], sym (append-nil (map F ks)))
      go false = (F k ∷ [], map-append F ks (k ∷ []))

  pub inserted-once : (ks : List L) (k : L) → StandOnce (map F ks) → StandOnce (map F (insert_key E ks k))
  inserted-once ks k once = go (list_any (E k) ks) refl
    where
      go : (b : Bool) → list_any (E k) ks ≡ b → StandOnce (map F (cond b ks (ks ++ k ∷ [])))
      go true e = once
      go false e = subst StandOnce (sym (map-append F ks (k ∷ []))) (last-one (map F ks) (F k) (nowhere ks k e) once)

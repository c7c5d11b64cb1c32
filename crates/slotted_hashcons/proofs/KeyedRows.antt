-- What a map finds by its keys is what is filed for their forms.
use Rattle.std.proofs.Common.{◌≡◌, ℕ, zero, suc, ◌<◌, ◌-◌, List, [], ◌∷◌, length, Option, Some, None, true, false, cond, map, sym, ◌∙◌, ap, refl, subst, arith}
use Rattle.std.specs.Prelude.{IfSome, slice_get, slice_index_or, set, take, swap_remove}
use Rattle.std.proofs.lemmas.List.{map-set, length-map, get_or-map}
use Rattle.slotted_nodes.specs.Form.{Form}
use Rattle.slotted_hashcons.specs.Filed.{FiledRow, IsIndexed, IsNewKey, HasKey}
use Rattle.slotted_classes.specs.FormCode.{form_is, form_Decides}
use Rattle.slotted_classes.specs.Kept.{found}
use Rattle.slotted_hashcons.proofs.Indexed.{filed_in, row-key, key-row}

-- it stands somewhere
pub found-at : (rows : List FiledRow) (f : Form) (v : ℕ × List (ℕ × ℕ)) → found rows f ≡ Some v → (p : ℕ) × (r : FiledRow) × (slice_get rows p ≡ Some r) × (r.0 ≡ f) × (r.1 ≡ v)
found-at [] f v e = cc
found-at (r ∷ rows) f v e = elim (form_is f r.0) as (λ b. form_is f r.0 ≡ b → cond b (Some r.1) (found rows f) ≡ Some v → (p : ℕ) × (q : FiledRow) × (slice_get (r ∷ rows) p ≡ Some q) × (q.0 ≡ f) × (q.1 ≡ v)) [
  | true ↦ λ t k. (0, r, refl, sym ((form_Decides f r.0).0 t), cc)
  | false ↦ λ t k. let q = found-at rows f v k in (suc q.0, q.1, q.2, q.3, q.4)
] refl e

-- a key that stands somewhere is found
pub found-has : (rows : List FiledRow) (p : ℕ) (r : FiledRow) → slice_get rows p ≡ Some r → found rows r.0 ≡ None → ⊥
found-has [] p r e k = cc
found-has (x ∷ rows) zero r e k = elim (form_is r.0 x.0) as (λ b. form_is r.0 x.0 ≡ b → cond b (Some x.1) (found rows r.0) ≡ None → ⊥) [
  | true ↦ λ t q. cc
  | false ↦ λ t q. let same : r.0 ≡ x.0 = cc in let d = (form_Decides r.0 x.0).1 same in cc
] refl k
found-has (x ∷ rows) (suc p) r e k = elim (form_is r.0 x.0) as (λ b. cond b (Some x.1) (found rows r.0) ≡ None → ⊥) [
  | true ↦ λ q. cc
  | false ↦ λ q. found-has rows p r e q
] k

-- a key that no class has is not found
pub new-key : (rows : List FiledRow) (places : List (Option ℕ)) → IsIndexed rows places → (f : Form) → IsNewKey (filed_in rows places) f → found rows f ≡ None
new-key rows places h f n = elim (found rows f) as (λ o. found rows f ≡ o → o ≡ None) [
  | None ↦ λ e. refl
  | Some v ↦ λ e. let r = found-at rows f v e in absurd (n r.1.1.0 (subst (HasKey (filed_in rows places) r.1.1.0) r.3 (row-key rows places h r.0 r.1 r.2)))
] refl

-- a key that is found is that of a class, and of one that is not found no class has it
pub found-key : (rows : List FiledRow) (places : List (Option ℕ)) → IsIndexed rows places → (f : Form) (i : ℕ) (m : List (ℕ × ℕ)) → found rows f ≡ Some (i, m) → HasKey (filed_in rows places) i f
found-key rows places h f i m e =
    let r = found-at rows f (i, m) e in
    subst (λ k. HasKey (filed_in rows places) k f) (ap (λ (v : ℕ × List (ℕ × ℕ)). v.0) r.4) (subst (HasKey (filed_in rows places) r.1.1.0) r.3 (row-key rows places h r.0 r.1 r.2))

pub not-found-key : (rows : List FiledRow) (places : List (Option ℕ)) → IsIndexed rows places → (f : Form) → found rows f ≡ None → IsNewKey (filed_in rows places) f
not-found-key rows places h f e i k =
    let r = key-row rows places h i f k in
    found-has rows r.0 r.1 r.2 (ap (found rows) r.4 ∙ e)

-- an image of the list in which the last one has moved
pub map-take : {A B : Type 0} (f : A → B) (n : ℕ) (xs : List A) → map f (take n xs) ≡ take n (map f xs)
map-take f zero xs = refl
map-take f (suc n) [] = refl
map-take f (suc n) (x ∷ xs) = ap (λ ys. f x ∷ ys) (map-take f n xs)

get-within : {A : Type 0} (xs : List A) (i : ℕ) → i < length xs → None ≡ slice_get xs i → ⊥
get-within [] i w e = omega (arith, w)
get-within (x ∷ xs) zero w e = cc
get-within (x ∷ xs) (suc i) w e = get-within xs i (omega (arith, w)) e

pub removed-rows : {A : Type 0} (f : A → FiledRow) (old new : List A) (i : ℕ) (o : Option A) → o ≡ slice_get old i → IfSome o (λ p. new ≡ swap_remove old i p) → i < length (map f old) → (d : FiledRow) → map f new ≡ swap_remove (map f old) i d
removed-rows f old new i None e h w d = absurd (get-within old i (subst (λ n. i < n) (length-map old f) w) e)
removed-rows f old new i (Some p) e h w d =
    let n = length old - 1 in
    let within = subst (λ k. i < k) (length-map old f) w in
    ap (map f) h
    ∙ map-take f n (set old i (slice_index_or old n p))
    ∙ ap (take n) (map-set f old i (slice_index_or old n p) ∙ ap (set (map f old) i) (sym (get_or-map f old n p d (omega (arith, within)))))
    ∙ ap (λ k. take (k - 1) (set (map f old) i (slice_index_or (map f old) (k - 1) d))) (sym (length-map old f))

-- What a map finds by its keys is what is filed for their forms.
use Rattle.std.proofs.Common.{◌≡◌, ◌↔◌, ℕ, zero, suc, List, [], ◌∷◌, ◌++◌, Option, Some, None, Bor, Bool, true, false, cond, map, ◌∙◌, ap, refl}
use Rattle.std.specs.Prelude.{IsTrue, option_map, slice_get, slice_index_or}
use Rattle.std.specs.Option.{option_copied}
use Rattle.std.specs.Map.{lookup}
use Rattle.std.proofs.lemmas.Bool.Decides.{same_from_decides}
use Rattle.indexmap.specs.IndexMap.{insert_entry}
use Rattle.slotted_nodes.specs.Form.{Form}
use Rattle.slotted_classes.specs.FormCode.{form_is, form_Decides}
use Rattle.slotted_classes.specs.Kept.{RowEntry, found}

-- what is done to a value behind a reference
pub option_map-copied : {T U : Type 0} (f : T → U) (o : Option (Bor T)) → option_map (λ r. f r.now) o ≡ option_map f (option_copied o)
option_map-copied f None = refl
option_map-copied f (Some r) = refl

-- what stands at a place of a list is at that place of the list of its images
pub image-at : {A B : Type 0} (f : A → B) (xs : List A) (i : ℕ) (x : A) (d : B) → slice_get xs i ≡ Some x → slice_index_or (map f xs) i d ≡ f x
image-at f [] i x d e = cc
image-at f (y ∷ xs) zero x d e = cc
image-at f (y ∷ xs) (suc i) x d e = image-at f xs i x d e

module _ {L V : Type 0} (E : L → L → Bool) (F : L → Form) (G : V → ℕ × List (ℕ × ℕ)) (same : (a b : L) → IsTrue (E a b) ↔ F a ≡ F b) where
  -- the entries of a map as rows
  abbrev pub rows : List (L × V) → List RowEntry
  rows es = map (λ e. (F e.0, G e.1)) es

  same_test : (a b : L) → E a b ≡ form_is (F a) (F b)
  same_test a b = same_from_decides (E a b) (form_is (F a) (F b)) (same a b) (form_Decides (F a) (F b))

  found_by : (b : Bool) (v : V) (o : Option V) → option_map G (cond b (Some v) o) ≡ cond b (Some (G v)) (option_map G o)
  found_by true v o = refl
  found_by false v o = refl

  pub found-lookup : (es : List (L × V)) (k : L) → option_map G (lookup (E k) es) ≡ found (rows es) (F k)
  found-lookup [] k = refl
  found-lookup (e ∷ es) k =
      found_by (E k e.0) e.1 (lookup (E k) es)
      ∙ (λ i. cond (same_test k e.0 i) (Some (G e.1)) (found-lookup es k i))

  pub rows-insert_entry : (es : List (L × V)) (k : L) (v : V) → found (rows es) (F k) ≡ None → rows (insert_entry E es k v) ≡ rows es ++ (F k, G v) ∷ []
  rows-insert_entry [] k v h = refl
  rows-insert_entry (e ∷ es) k v h =
      rw (same_test k e.0)
      ((elim (form_is (F k) (F e.0)) as (λ b. cond b (Some (G e.1)) (found (rows es) (F k)) ≡ None →
      rows (cond b ((e.0, v) ∷ es) (e ∷ insert_entry E es k v)) ≡ rows (e ∷ es) ++ (F k, G v) ∷ [])
      [ true ↦ λ q. cc | false ↦ λ q. let t : RowEntry = (F e.0, G e.1) in ap (λ r. t ∷ r) (rows-insert_entry es k v q) ]) h)

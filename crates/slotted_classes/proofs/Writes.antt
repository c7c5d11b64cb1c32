-- What a write of one class leaves: the canonical nodes and the rows, and one other find entry.
use Rattle.std.proofs.Common.{◌≡◌, ℕ, zero, suc, ◌<◌, List, [], ◌∷◌, length, set, get_or, sym, ◌∙◌, ap, refl, arith}
use Rattle.std.specs.Prelude.{map, slice_index_or}
use Rattle.slotted_lists.proofs.Lists.{slice_index_or-map}
use Rattle.slotted_theory.specs.Nameless.{DTerm}
use Rattle.slotted_languages.specs.NodeTerm.{nameless_node}
use Rattle.slotted_languages.specs.Shape.{shape}
use Rattle.slotted_model.specs.Find.{Entry}
use Rattle.slotted_classes.specs.Kept.{Kept, ClassEntry, RowEntry, no_form, no_entry, node_at, nodes_of, entries_of, rows_from}
use Rattle.slotted_classes.proofs.KeptLists.{length-mapped, any_default}

-- lists with another element

map-set : {X Y : Type 0} (f : X → Y) (xs : List X) (i : ℕ) (x : X) → map f (set xs i x) ≡ set (map f xs) i (f x)
map-set f [] i x = refl
map-set f (y ∷ xs) zero x = refl
map-set f (y ∷ xs) (suc i) x = ap (λ r. f y ∷ r) (map-set f xs i x)

set-itself : {X : Type 0} (xs : List X) (i : ℕ) (d : X) → set xs i (get_or xs i d) ≡ xs
set-itself [] i d = refl
set-itself (y ∷ xs) zero d = refl
set-itself (y ∷ xs) (suc i) d = ap (λ r. y ∷ r) (set-itself xs i d)

length-set_at : {X : Type 0} (xs : List X) (i : ℕ) (x : X) → length (set xs i x) ≡ length xs
length-set_at [] i x = refl
length-set_at (y ∷ xs) zero x = refl
length-set_at (y ∷ xs) (suc i) x = ap suc (length-set_at xs i x)

-- rows and forms do not depend on find entries
rows-set : (n : ℕ) (cs : List ClassEntry) (i : ℕ) (e : Entry) (d : ClassEntry) → rows_from n (set cs i ((get_or cs i d).0, e)) ≡ rows_from n cs
rows-set n [] i e d = refl
rows-set n (c ∷ cs) zero e d = refl
rows-set n (c ∷ cs) (suc i) e d = let r : RowEntry = ((shape c.0).0, (n, (shape c.0).1)) in ap (λ rs. r ∷ rs) (rows-set (suc n) cs i e d)

form-set : (cs : List ClassEntry) (i j : ℕ) (e : Entry) (d : ClassEntry) → (get_or (set cs i ((get_or cs i d).0, e)) j d).0 ≡ (get_or cs j d).0
form-set [] i j e d = refl
form-set (c ∷ cs) zero zero e d = refl
form-set (c ∷ cs) zero (suc j) e d = refl
form-set (c ∷ cs) (suc i) zero e d = refl
form-set (c ∷ cs) (suc i) (suc j) e d = form-set cs i j e d

-- another find entry leaves the canonical nodes
module _ (k : Kept) (i : ℕ) (x : Entry) where
  abbrev pub written : List ClassEntry
  written = set k.classes i (node_at k i, x)

  pub written-nodes : map (λ (y : ClassEntry). nameless_node y.0) written ≡ nodes_of k
  written-nodes =
      let f : ClassEntry → DTerm = λ y. nameless_node y.0 in
      map-set f k.classes i (node_at k i, x)
      ∙ (ap (set (map f k.classes) i) (sym (slice_index_or-map f k.classes i (no_form, no_entry))) ∙ set-itself (map f k.classes) i (f (no_form, no_entry)))

  pub written-entries : map (λ (y : ClassEntry). y.1) written ≡ set (entries_of k) i x
  written-entries = map-set (λ (y : ClassEntry). y.1) k.classes i (node_at k i, x)

  pub written-length : length written ≡ length k.classes
  written-length = length-set_at k.classes i (node_at k i, x)

  pub written-rows : rows_from 0 written ≡ rows_from 0 k.classes
  written-rows = rows-set 0 k.classes i x (no_form, no_entry)

  pub written-form : (j : ℕ) → (slice_index_or written j (no_form, no_entry)).0 ≡ node_at k j
  written-form j = form-set k.classes i j x (no_form, no_entry)

-- the entry of a class that is read
pub read_entry : {C : Type 0} (f : C → ClassEntry) (cs : List C) (i : ℕ) (old d : C) → i < length cs → old ≡ get_or cs i d → slice_index_or (map f cs) i (no_form, no_entry) ≡ f old
read_entry f cs i old d h e =
    let l : i < length (map f cs) = let m : length (map f cs) ≡ length cs = length-mapped f cs in omega arith in
    any_default (map f cs) i (no_form, no_entry) (f d) l ∙ (slice_index_or-map f cs i d ∙ ap f (sym e))

-- a write of one class, seen as entries
pub set_entry : {C : Type 0} (f : C → ClassEntry) (cs : List C) (i : ℕ) (old new d : C) (x : Entry) → i < length cs → old ≡ get_or cs i d → f new ≡ ((f old).0, x) → map f (set cs i new) ≡ set (map f cs) i ((slice_index_or (map f cs) i (no_form, no_entry)).0, x)
set_entry f cs i old new d x h e n =
    map-set f cs i new ∙ ap (set (map f cs) i) (n ∙ ap (λ (y : ClassEntry). (y.0, x)) (sym (read_entry f cs i old d h e)))

-- a write of one class that no entry shows
pub set_alike : {C : Type 0} (f : C → ClassEntry) (cs : List C) (i : ℕ) (old new d : C) → old ≡ get_or cs i d → f new ≡ f old → map f (set cs i new) ≡ map f cs
set_alike f cs i old new d e n =
    map-set f cs i new
    ∙ (ap (set (map f cs) i) (n ∙ (ap f e ∙ sym (slice_index_or-map f cs i d))) ∙ set-itself (map f cs) i (f d))

-- The shapes of the filed nodes of some classes: by the rows, and by the classes.
use Rattle.std.proofs.Common.{◌≡◌, ◌≤◌, ◌+◌, ◌∙◌, ℕ, zero, suc, List, [], ◌∷◌, ◌++◌, Option, None, Some, true, false, cond, length, map, take, ap, refl, sym, subst, inl, inr, arith}
use Rattle.std.specs.Prelude.{Bool, is_some, ◌&&◌}
use Rattle.std.specs.List.{filter, range_with_len}
use Rattle.std.specs.List.Sorted.{IsPermutation}
use Rattle.std.proofs.lemmas.Bool.{cases_Bool}
use Rattle.std.proofs.lemmas.List.{length-take-le, map-append, take_all, take_more}
use Rattle.std.proofs.lemmas.List.Sorted.{IsPermutation-cons, IsPermutation-map, IsPermutation-refl, IsPermutation-sym, IsPermutation-to_front, IsPermutation-trans}
use Rattle.slotted_theory.specs.FiniteMaps.{filled}
use Rattle.slotted_theory.specs.Nameless.{DTerm}
use Rattle.slotted_theory.specs.Shape as theory
use Rattle.slotted_theory.proofs.Filled.{filled-injective}
use Rattle.slotted_theory.proofs.Shapes.{shape-moved}
use Rattle.slotted_nodes.specs.Form.{Form}
use Rattle.slotted_languages.specs.NodeTerm.{nameless_node}
use Rattle.slotted_languages.specs.Shape.{Fits, shape}
use Rattle.slotted_languages.proofs.Shapes.{injective-shape, shape-renamed}
use Rattle.slotted_model.specs.State.{Row}
use Rattle.slotted_hashcons.specs.Filed.{Filing, filed_of}
use Rattle.slotted_hashcons.specs.FiledRows.{row_at, row_of_entry, rows_from, rows_in}
use Rattle.slotted_hashcons.proofs.FiledRows.{rows_from-append}
use Rattle.slotted_lookup.proofs.ReportLists.{next-fails, next-passes}
use Rattle.slotted_reports.specs.Nodes.{key_at, key_in, key_of}

-- a node has the shape of its key
shape-of_key : (c : Form) → Fits c → theory.shape (nameless_node (shape c).0) ≡ theory.shape (nameless_node c)
shape-of_key c fits =
    sym (ap theory.shape (sym (shape-renamed c fits)) ∙ shape-moved (filled (shape c).1) (filled-injective (shape c).1 (injective-shape c)) (nameless_node (shape c).0))

map-twice : {A B C : Type 0} (f : B → C) (g : A → B) (xs : List A) → map f (map g xs) ≡ map (λ x. f (g x)) xs
map-twice f g [] = refl
map-twice f g (x ∷ xs) = λ j. f (g x) ∷ map-twice f g xs j

abbrev pub shape_at : List (Option Filing) → ℕ → DTerm
shape_at v i = theory.shape (nameless_node (key_at v i))

module _ (P : ℕ → Bool) where
  abbrev pub shapes_in : List Row → List DTerm
  shapes_in rs = map (λ (r : Row). r.shape) (filter (λ (r : Row). P r.source) rs)

  abbrev pub passes : List (Option Filing) → ℕ → Bool
  passes v i = is_some (filed_of v i) && P i

  module _ (v : List (Option Filing)) where
    abbrev so_far : ℕ → List DTerm
    so_far n = map (shape_at v) (filter (passes v) (range_with_len 0 n))

    -- the row of one class more
    one-more : (n : ℕ) (x : Option Filing) (rs : List Row) → filed_of v n ≡ x → IsPermutation (shapes_in rs) (so_far n) → IsPermutation (shapes_in (row_at n x ++ rs)) (so_far (n + 1))
    one-more n None rs e h =
        let no : passes v n ≡ false = ap (λ o. is_some o && P n) e in
        subst (λ xs. IsPermutation (shapes_in rs) (map (shape_at v) xs)) (next-fails (passes v) n no) h
    one-more n (Some f) rs e h = elim (cases_Bool (P n)) [
      | inl y ↦
          let s : DTerm = theory.shape (nameless_node f.0) in
          let yes : passes v n ≡ true = (λ j. is_some (e j) && P n) ∙ y in
          let row : shapes_in (row_at n (Some f) ++ rs) ≡ s ∷ shapes_in rs =
          ap (λ b. map (λ (r : Row). r.shape) (cond b (row_of_entry (f.0, (n, f.1)) ∷ filter (λ (r : Row). P r.source) rs) (filter (λ (r : Row). P r.source) rs))) y in
          let last : so_far (n + 1) ≡ so_far n ++ s ∷ [] =
          ap (map (shape_at v)) (sym (next-passes (passes v) n yes)) ∙ (map-append (shape_at v) (filter (passes v) (range_with_len 0 n)) (n ∷ []) ∙ ap (λ o. so_far n ++ theory.shape (nameless_node (key_of o)) ∷ []) e) in
          subst (λ xs. IsPermutation xs (so_far (n + 1))) (sym row) (subst (IsPermutation (s ∷ shapes_in rs)) (sym last)
          (IsPermutation-trans _ _ _ (IsPermutation-cons s _ _ h) (IsPermutation-sym _ _ (IsPermutation-to_front (so_far n) s))))
      | inr y ↦
          let no : passes v n ≡ false = (λ j. is_some (e j) && P n) ∙ y in
          let row : shapes_in (row_at n (Some f) ++ rs) ≡ shapes_in rs =
          ap (λ b. map (λ (r : Row). r.shape) (cond b (row_of_entry (f.0, (n, f.1)) ∷ filter (λ (r : Row). P r.source) rs) (filter (λ (r : Row). P r.source) rs))) y in
          subst (λ xs. IsPermutation xs (so_far (n + 1))) (sym row) (subst (λ xs. IsPermutation (shapes_in rs) (map (shape_at v) xs)) (next-fails (passes v) n no) h)
    ]

    by-count : (n : ℕ) → n ≤ length v → IsPermutation (shapes_in (rows_from 0 (take n v))) (so_far n)
    by-count zero l = IsPermutation-refl []
    by-count (suc n) l =
        let one : suc n ≡ n + 1 = omega arith in
        let long : 0 + length (take n v) ≡ n = omega (arith, length-take-le n v (omega (arith, l))) in
        let rows : rows_from 0 (take (suc n) v) ≡ row_at n (filed_of v n) ++ rows_from 0 (take n v) =
        ap (λ m. rows_from 0 (take m v)) one ∙ (ap (rows_from 0) (take_more v n None (omega (arith, l)))
        ∙ (rows_from-append 0 (take n v) (filed_of v n) ∙ ap (λ m. row_at m (filed_of v n) ++ rows_from 0 (take n v)) long)) in
        subst (λ xs. IsPermutation (shapes_in xs) (so_far (suc n))) (sym rows)
        (subst (λ m. IsPermutation (shapes_in (row_at n (filed_of v n) ++ rows_from 0 (take n v))) (so_far m)) (sym one)
        (one-more n (filed_of v n) (rows_from 0 (take n v)) refl (by-count n (omega (arith, l)))))

    rows-permuted : IsPermutation (shapes_in (rows_in v)) (so_far (length v))
    rows-permuted = subst (λ u. IsPermutation (shapes_in (rows_in u)) (so_far (length v))) (take_all (length v) v (omega arith)) (by-count (length v) (omega arith))

    pub sources-permuted : (os : List ℕ) → IsPermutation (filter (passes v) (range_with_len 0 (length v))) os → IsPermutation (shapes_in (rows_in v)) (map (shape_at v) os)
    sources-permuted os same = IsPermutation-trans _ _ _ rows-permuted (IsPermutation-map (shape_at v) _ _ same)

    -- so nodes with the keys of these classes have the shapes of these rows
    pub shapes-permuted : {L : Type 0} (form : L → Form) → ((n : L) → Fits (form n)) → (os : List ℕ) (ns : List L) → IsPermutation (filter (passes v) (range_with_len 0 (length v))) os →
        IsPermutation (map (key_at v) os) (map (key_in form) ns) → IsPermutation (shapes_in (rows_in v)) (map (λ n. theory.shape (nameless_node (form n))) ns)
    shapes-permuted form fits os ns same keys =
        let T : Form → DTerm = λ f. theory.shape (nameless_node f) in
        let shapes : List DTerm = map (λ n. T (form n)) ns in
        let right : map T (map (key_in form) ns) ≡ shapes = map-twice T (key_in form) ns ∙ (λ j. map (λ n. shape-of_key (form n) (fits n) j) ns) in
        let moved : IsPermutation (map T (map (key_at v) os)) shapes = subst (IsPermutation (map T (map (key_at v) os))) right (IsPermutation-map T (map (key_at v) os) (map (key_in form) ns) keys) in
        IsPermutation-trans _ _ _ (sources-permuted os same) (subst (λ xs. IsPermutation xs shapes) (map-twice T (key_at v) os) moved)

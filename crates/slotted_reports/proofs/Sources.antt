-- The sources of a class: a node is filed of each, and each finds the class, which is live.
use Rattle.std.proofs.Common.{◌≡◌, ◌∙◌, ◌<◌, ℕ, List, [], ◌∷◌, None, Some, Option, true, false, cond, length, ap, refl, sym, subst, inl, inr}
use Rattle.std.specs.Prelude.{All, Bool, is_some, nat_eq, ◌&&◌}
use Rattle.std.specs.List.{filter, range_with_len}
use Rattle.std.specs.List.Sorted.{IsPermutation}
use Rattle.std.proofs.lemmas.Bool.{cases_Bool, eqb-true, false≢true}
use Rattle.std.proofs.lemmas.List.Sorted.{All-permutation}
use Rattle.slotted_lists.proofs.Each.{Each, All-from_Each}
use Rattle.slotted_model.specs.Applied.{Applied}
use Rattle.slotted_model.specs.Find.{find_class}
use Rattle.slotted_model.proofs.Finds.Finding.{find_class-live, found-live, found-in_range, leads}
use Rattle.slotted_classes.specs.Kept.{Kept, entries_of, nodes_of}
use Rattle.slotted_hashcons.specs.Filed.{Filing, filed_of}
use Rattle.slotted_hashcons.specs.FiledRows.{IsFiled, Rows}
use Rattle.slotted_hashcons.specs.WellFiled.{IsWellFiled}
use Rattle.slotted_lookup.specs.Reports.{class_sources, is_source}
use Rattle.slotted_lookup.proofs.AppliedNodes.{filed-in_nodes}
use Rattle.slotted_reports.specs.Nodes.{IsSourceOf}

-- what passes a test
each-passes : (P : ℕ → Type 0) (test : ℕ → Bool) (xs : List ℕ) → ((x : ℕ) → test x ≡ true → P x) → Each P (filter test xs)
each-passes P test [] h = tt
each-passes P test (x ∷ xs) h = elim (cases_Bool (test x)) [
  | inl y ↦ subst (λ b. Each P (cond b (x ∷ filter test xs) (filter test xs))) (sym y) (h x y, each-passes P test xs h)
  | inr n ↦ subst (λ b. Each P (cond b (x ∷ filter test xs) (filter test xs))) (sym n) (each-passes P test xs h)
]

none-pass : (test : ℕ → Bool) (xs : List ℕ) → ((x : ℕ) → ¬ (test x ≡ true)) → filter test xs ≡ []
none-pass test [] h = refl
none-pass test (x ∷ xs) h = elim (cases_Bool (test x)) [
  | inl y ↦ absurd (h x y)
  | inr n ↦ ap (λ b. cond b (x ∷ filter test xs) (filter test xs)) n ∙ none-pass test xs h
]

first-of : (a b : Bool) → (a && b) ≡ true → a ≡ true
first-of true b e = refl
first-of false b e = absurd (false≢true e)

second-of : (a b : Bool) → (a && b) ≡ true → b ≡ true
second-of true b e = e
second-of false b e = absurd (false≢true e)

something-filed : (v : List (Option Filing)) (i : ℕ) (o : Option Filing) → filed_of v i ≡ o → is_some o ≡ true → IsFiled v i
something-filed v i None e h = absurd (false≢true h)
something-filed v i (Some f) e h = (f, e)

module _ (k : Kept) (r : Rows) (well : IsWellFiled k r) (a : Applied) where
  one-source : (o : ℕ) → is_source k r a.0 o ≡ true → IsSourceOf k r a o
  one-source o h =
      let found = entries_of k in
      let nodes = nodes_of k in
      let L = leads nodes found well.sane.sound.linked in
      let filed = something-filed r.filed o (filed_of r.filed o) refl (first-of (is_some (filed_of r.filed o)) (nat_eq (find_class found o) a.0) h) in
      let finds : find_class found o ≡ a.0 = eqb-true (find_class found o) a.0 (second-of (is_some (filed_of r.filed o)) (nat_eq (find_class found o) a.0) h) in
      let within : o < length nodes = filed-in_nodes k r well o filed.0.0 filed.0.1 filed.1 in
      let again : find_class found (find_class found o) ≡ find_class found o =
      find_class-live nodes found L (find_class found o) (found-in_range nodes found L o within) (found-live nodes found L o within) in
      (filed, ap (find_class found) (sym finds) ∙ again)

  -- a class that does not find itself has none
  finds-itself : (o : ℕ) → is_source k r a.0 o ≡ true → find_class (entries_of k) a.0 ≡ a.0
  finds-itself o h = (one-source o h).1 ∙ eqb-true (find_class (entries_of k) o) a.0 (second-of (is_some (filed_of r.filed o)) (nat_eq (find_class (entries_of k) o) a.0) h)

  pub dead-none : ¬ (find_class (entries_of k) a.0 ≡ a.0) → class_sources k r a.0 ≡ []
  dead-none dead = none-pass (is_source k r a.0) (range_with_len 0 (length r.filed)) (λ o h. dead (finds-itself o h))

  pub each-source : All (IsSourceOf k r a) (class_sources k r a.0)
  each-source = All-from_Each (IsSourceOf k r a) (class_sources k r a.0) (each-passes (IsSourceOf k r a) (is_source k r a.0) (range_with_len 0 (length r.filed)) one-source)

  pub each-finds : All (λ o. find_class (entries_of k) o ≡ a.0) (class_sources k r a.0)
  each-finds = All-from_Each (λ o. find_class (entries_of k) o ≡ a.0) (class_sources k r a.0) (each-passes (λ o. find_class (entries_of k) o ≡ a.0) (is_source k r a.0) (range_with_len 0 (length r.filed))
      (λ o h. eqb-true (find_class (entries_of k) o) a.0 (second-of (is_some (filed_of r.filed o)) (nat_eq (find_class (entries_of k) o) a.0) h)))

  pub each-filed : All (IsFiled r.filed) (class_sources k r a.0)
  each-filed = λ j d h. (each-source j d h).0

  pub each-ordered : (os : List ℕ) → IsPermutation (class_sources k r a.0) os → All (IsSourceOf k r a) os
  each-ordered os same = All-permutation (IsSourceOf k r a) (class_sources k r a.0) os same each-source

-- The live classes and their slots, counted by what classes find and by find entries.
use Rattle.std.proofs.Common.{◌≡◌, ◌≢◌, ◌<◌, ◌+◌, ℕ, suc, List, [], ◌∷◌, cond, length, get_or, refl, sym, ◌∙◌, subst, arith, inl, inr}
use Rattle.std.specs.Prelude.{nat_eq}
use Rattle.std.proofs.lemmas.Bool.{cases_eq, eq-eqb, ne_eqb}
use Rattle.slotted_model.specs.Find.{Entry, entry_at, IsLive, find_class, find_map}
use Rattle.slotted_model.specs.Rest.{entry_size, size_from, size}
use Rattle.slotted_model.proofs.Finds.Finding.{leads, find_class-live, find_map-live, found-live}
use Rattle.slotted_classes.specs.Kept.{Kept, no_entry, nodes_of, entries_of}
use Rattle.slotted_classes.proofs.KeptLists.{length-nodes_of, length-entries_of}
use Rattle.slotted_classes.specs.StateOf.{state_of}
use Rattle.slotted_classes.specs.Stored.{Stored}
use Rattle.slotted_operations.specs.Good.{image_of, finds_from}
use Rattle.slotted_operations.specs.Image.{live_size, live_size_from}

-- what one class counts
abbrev found_size : List Entry → ℕ → ℕ
found_size found i = cond (nat_eq (find_class found i) i) (suc (length (find_map found i))) 0

counted_from : (found : List Entry) (i : ℕ) (es : List Entry) → ((j : ℕ) → j < length es → found_size found (i + j) ≡ entry_size (i + j) (get_or es j no_entry)) → live_size_from i (finds_from found i es) ≡ size_from i es
counted_from found i [] same = refl
counted_from found i (e ∷ es) same =
    let z : i + 0 ≡ i = omega arith in
    let first : found_size found i ≡ entry_size i e = subst (λ n. found_size found n ≡ entry_size n e) z (same 0 (omega arith)) in
    let rest : live_size_from (suc i) (finds_from found (suc i) es) ≡ size_from (suc i) es =
    counted_from found (suc i) es (λ j l. let q : i + suc j ≡ suc i + j = omega arith in subst (λ n. found_size found n ≡ entry_size n (get_or es j no_entry)) q (same (suc j) (omega arith))) in
    λ t. first t + rest t

module _ (k : Kept) (stored : Stored k) where
  abbrev found : List Entry
  found = entries_of k

  one_class : (j : ℕ) → j < length found → found_size found j ≡ entry_size j (get_or found j no_entry)
  one_class j l =
      let h : j < length (nodes_of k) = omega (arith, l, length-nodes_of k, length-entries_of k) in
      let links = leads (nodes_of k) found stored.sane.sound.linked in
      elim (cases_eq (entry_at found j).class j) [
        | inl live ↦
            let c : find_class found j ≡ j = find_class-live (nodes_of k) found links j h live in
            (λ i. cond (eq-eqb (find_class found j) j c i) (suc (length (find_map found j))) 0)
            ∙ ((λ i. suc (length (find_map-live (nodes_of k) found links j h live i)))
            ∙ (λ i. cond (sym (eq-eqb (entry_at found j).class j live) i) (suc (length (entry_at found j).pairs)) 0))
        | inr dead ↦
            let other : find_class found j ≢ j = λ e. dead (subst (IsLive found) e (found-live (nodes_of k) found links j h)) in
            (λ i. cond (ne_eqb (find_class found j) j other i) (suc (length (find_map found j))) 0)
            ∙ (λ i. cond (sym (ne_eqb (entry_at found j).class j dead) i) (suc (length (entry_at found j).pairs)) 0)
      ]

  pub live_size-is : live_size (image_of k) ≡ size (state_of k)
  live_size-is = counted_from found 0 found (λ j l. let z : j ≡ 0 + j = omega arith in subst (λ n. found_size found n ≡ entry_size n (get_or found j no_entry)) z (one_class j l))

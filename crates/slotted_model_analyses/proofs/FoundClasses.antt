-- What classes find after a link and after slots are dropped.
use Rattle.std.proofs.Common.{◌≡◌, ◌≢◌, ℕ, ◌<◌, List, length, sym, ◌∙◌, ap, subst, inl, inr}
use Rattle.std.specs.Prelude.{◌⊎◌}
use Rattle.std.proofs.lemmas.Bool.{cases_eq}
use Rattle.slotted_theory.specs.Nameless.{DTerm}
use Rattle.slotted_model.specs.Find.{Entry, IsLive, find_class, Linked}
use Rattle.slotted_model.specs.Link.{CanLink, IsLater, CanDrop, with_link, with_slots}
use Rattle.slotted_model.specs.ProofList.{Equation}
use Rattle.slotted_model.proofs.Finds.Finding.{leads, find_class-live, found-live, found-in_range}
use Rattle.slotted_model.proofs.Finds.Replacing.{Factors, replaced-factors, live-stays, new_leads}
use Rattle.slotted_model.proofs.Finds.Linking.{link-replaces, left-class}
use Rattle.slotted_model.proofs.Finds.Linking as linking
use Rattle.slotted_model.proofs.Finds.Dropping.{drop-replaces, drop-lives}
use Rattle.slotted_model.proofs.Finds.Dropping as dropping

module _ (nodes : List DTerm) (found : List Entry) (linked : Linked nodes found) where
  -- after a link the classes that found the left class find the right one, and the others what they found
  pub linked-class : (e : Equation) (proof moment : ℕ) → CanLink nodes found e → IsLater found moment → (i : ℕ) → i < length nodes →
      ((find_class found i ≡ e.left) × (find_class (with_link nodes found e proof moment) i ≡ e.right))
      ⊎ ((find_class found i ≢ e.left) × (find_class (with_link nodes found e proof moment) i ≡ find_class found i))
  linked-class e proof moment can later i h =
      let newer : List Entry = with_link nodes found e proof moment in
      let x : Entry = linking.new_entry nodes found linked e proof moment can later in
      let r = link-replaces nodes found linked e proof moment can later in
      let f : Factors nodes found newer i = replaced-factors nodes found linked e.left x r i h in
      let j : ℕ = find_class found i in
      let hj : j < length nodes = found-in_range nodes found (leads nodes found linked) i h in
      elim (cases_eq j e.left) [
        | inl p ↦ inl (p, f.class ∙ (ap (find_class newer) p ∙ left-class nodes found linked e proof moment can later))
        | inr n ↦
            let live : IsLive newer j = live-stays nodes found linked e.left x r j n (found-live nodes found (leads nodes found linked) i h) in
            inr (n, f.class ∙ find_class-live nodes newer (new_leads nodes found linked e.left x r) j hj live)
      ]

  -- where slots are dropped, each class finds the class that it found
  pub dropped-class : (c : ℕ) (slots : List ℕ) (proof : ℕ) → CanDrop nodes found c slots → (i : ℕ) → i < length nodes → find_class (with_slots found c slots proof) i ≡ find_class found i
  dropped-class c slots proof can i h =
      let newer : List Entry = with_slots found c slots proof in
      let x : Entry = dropping.new_entry nodes found linked c slots proof can in
      let r = drop-replaces nodes found linked c slots proof can in
      let f : Factors nodes found newer i = replaced-factors nodes found linked c x r i h in
      let j : ℕ = find_class found i in
      let hj : j < length nodes = found-in_range nodes found (leads nodes found linked) i h in
      let l : IsLive found j = found-live nodes found (leads nodes found linked) i h in
      let at : IsLive newer j → find_class newer i ≡ j = λ live. f.class ∙ find_class-live nodes newer (new_leads nodes found linked c x r) j hj live in
      elim (cases_eq j c) [
        | inl p ↦ at (live-at newer j p (drop-lives nodes found linked c slots proof can))
        | inr n ↦ at (live-stays nodes found linked c x r j n l)
      ]
    where
      live-at : (newer : List Entry) (j : ℕ) → j ≡ c → IsLive newer c → IsLive newer j
      live-at newer j p live = subst (IsLive newer) (sym p) live

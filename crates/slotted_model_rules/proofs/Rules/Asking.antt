-- What conditions answer, and what is asked.
use Rattle.std.proofs.Common.{◌≡◌, ℕ, List, [], ◌++◌, Option, Some, None, Bool, true, false, sym, ◌∙◌, ap, refl, inl, inr}
use Rattle.std.specs.Prelude.{◌⊎◌, Contains, option_map, option_and_then, not, cond}
use Rattle.std.proofs.lemmas.List.{append-nil}
use Rattle.std.proofs.lemmas.List.Elements.{Contains-append_left, Contains-append_right}
use Rattle.slotted_lists.proofs.Contained.{contains_head}
use Rattle.slotted_model.specs.Applied.{Applied, values}
use Rattle.slotted_model.specs.Correspondence.{has_slot}
use Rattle.slotted_model.specs.State.{State}
use Rattle.slotted_model.proofs.Rebuilding.Touching.{has_slot-cases}
use Rattle.slotted_model_rules.specs.Matcher.{value_at}
use Rattle.slotted_model_rules.specs.Conditions.{Values, Condition, always, slot_free_in, either, each_of, opposite, own, holds, asked, after_yes, after_no, IsOfValues}
use Rattle.slotted_model_rules.specs.RuleClaims.{TruthTables}

free-slots : (slot : ℕ) (v : List ℕ) (s : Values) (g : State) (a : Applied) → value_at s v ≡ Some a →
    ((holds (slot_free_in slot v) s g ≡ Some false) × Contains (values a.1) slot) ⊎ ((holds (slot_free_in slot v) s g ≡ Some true) × (¬ Contains (values a.1) slot))
free-slots slot v s g a e = elim (has_slot-cases (values a.1) slot) [
  | inl h ↦ inl (ap (option_map (λ (b : Applied). not (has_slot (values b.1) slot))) e ∙ ap (λ b. Some (not b)) h.1, h.0)
  | inr h ↦ inr (ap (option_map (λ (b : Applied). not (has_slot (values b.1) slot))) e ∙ ap (λ b. Some (not b)) h.1, h.0)
]

pub tables : TruthTables
tables = record {
  always_holds = λ s g. refl;
  free_slots = free-slots;
  missing_values = λ slot v s g e. ap (option_map (λ (b : Applied). not (has_slot (values b.1) slot))) e;
  either_yes = λ x y s g e. (ap (λ a. option_and_then (λ c. cond c (Some true) (holds y s g)) a) e, ap (λ a. asked x s g ++ after_no a (asked y s g)) e ∙ append-nil (asked x s g));
  either_no = λ x y s g e. (ap (λ a. option_and_then (λ c. cond c (Some true) (holds y s g)) a) e, ap (λ a. asked x s g ++ after_no a (asked y s g)) e);
  either_refused = λ x y s g e. (ap (λ a. option_and_then (λ c. cond c (Some true) (holds y s g)) a) e, ap (λ a. asked x s g ++ after_no a (asked y s g)) e ∙ append-nil (asked x s g));
  each_yes = λ x y s g e. (ap (λ a. option_and_then (λ c. cond c (holds y s g) (Some false)) a) e, ap (λ a. asked x s g ++ after_yes a (asked y s g)) e);
  each_no = λ x y s g e. (ap (λ a. option_and_then (λ c. cond c (holds y s g) (Some false)) a) e, ap (λ a. asked x s g ++ after_yes a (asked y s g)) e ∙ append-nil (asked x s g));
  each_refused = λ x y s g e. (ap (λ a. option_and_then (λ c. cond c (holds y s g) (Some false)) a) e, ap (λ a. asked x s g ++ after_yes a (asked y s g)) e ∙ append-nil (asked x s g));
  opposites = λ x s g. (refl, refl);
}

module _ (s t : Values) (g h : State) where
  -- the condition answers and asks the same for both
  abbrev Same : Condition → Type 0
  Same c = (holds c s g ≡ holds c t h) × (asked c s g ≡ asked c t h)

  -- all that is asked of those of a list answers the same
  abbrev AllAlike : List Condition → Type 0
  AllAlike cs = (x : Condition) → Contains cs x → holds x s g ≡ holds x t h

  both-either : (x y : Condition) (a : Option Bool) → holds x s g ≡ a → Same x → (AllAlike (asked y s g) → Same y) → AllAlike (asked x s g ++ after_no a (asked y s g)) → Same (either x y)
  both-either x y None e same next all =
      let f : holds x t h ≡ None = sym same.0 ∙ e in (
        ap (λ r. option_and_then (λ c. cond c (Some true) (holds y s g)) r) e ∙ sym (ap (λ r. option_and_then (λ c. cond c (Some true) (holds y t h)) r) f),
        ap (λ r. asked x s g ++ after_no r (asked y s g)) e ∙ (ap (λ r. r ++ []) same.1 ∙ sym (ap (λ r. asked x t h ++ after_no r (asked y t h)) f)),
      )
  both-either x y (Some true) e same next all =
      let f : holds x t h ≡ Some true = sym same.0 ∙ e in (
        ap (λ r. option_and_then (λ c. cond c (Some true) (holds y s g)) r) e ∙ sym (ap (λ r. option_and_then (λ c. cond c (Some true) (holds y t h)) r) f),
        ap (λ r. asked x s g ++ after_no r (asked y s g)) e ∙ (ap (λ r. r ++ []) same.1 ∙ sym (ap (λ r. asked x t h ++ after_no r (asked y t h)) f)),
      )
  both-either x y (Some false) e same next all =
      let f : holds x t h ≡ Some false = sym same.0 ∙ e in
      let k : Same y = next (λ z c. all z (Contains-append_right (asked x s g) (asked y s g) z c)) in (
        ap (λ r. option_and_then (λ c. cond c (Some true) (holds y s g)) r) e ∙ (k.0 ∙ sym (ap (λ r. option_and_then (λ c. cond c (Some true) (holds y t h)) r) f)),
        ap (λ r. asked x s g ++ after_no r (asked y s g)) e ∙ (ap (λ r. r ++ asked y s g) same.1 ∙ (ap (λ r. asked x t h ++ r) k.1 ∙ sym (ap (λ r. asked x t h ++ after_no r (asked y t h)) f))),
      )

  both-each : (x y : Condition) (a : Option Bool) → holds x s g ≡ a → Same x → (AllAlike (asked y s g) → Same y) → AllAlike (asked x s g ++ after_yes a (asked y s g)) → Same (each_of x y)
  both-each x y None e same next all =
      let f : holds x t h ≡ None = sym same.0 ∙ e in (
        ap (λ r. option_and_then (λ c. cond c (holds y s g) (Some false)) r) e ∙ sym (ap (λ r. option_and_then (λ c. cond c (holds y t h) (Some false)) r) f),
        ap (λ r. asked x s g ++ after_yes r (asked y s g)) e ∙ (ap (λ r. r ++ []) same.1 ∙ sym (ap (λ r. asked x t h ++ after_yes r (asked y t h)) f)),
      )
  both-each x y (Some false) e same next all =
      let f : holds x t h ≡ Some false = sym same.0 ∙ e in (
        ap (λ r. option_and_then (λ c. cond c (holds y s g) (Some false)) r) e ∙ sym (ap (λ r. option_and_then (λ c. cond c (holds y t h) (Some false)) r) f),
        ap (λ r. asked x s g ++ after_yes r (asked y s g)) e ∙ (ap (λ r. r ++ []) same.1 ∙ sym (ap (λ r. asked x t h ++ after_yes r (asked y t h)) f)),
      )
  both-each x y (Some true) e same next all =
      let f : holds x t h ≡ Some true = sym same.0 ∙ e in
      let k : Same y = next (λ z c. all z (Contains-append_right (asked x s g) (asked y s g) z c)) in (
        ap (λ r. option_and_then (λ c. cond c (holds y s g) (Some false)) r) e ∙ (k.0 ∙ sym (ap (λ r. option_and_then (λ c. cond c (holds y t h) (Some false)) r) f)),
        ap (λ r. asked x s g ++ after_yes r (asked y s g)) e ∙ (ap (λ r. r ++ asked y s g) same.1 ∙ (ap (λ r. asked x t h ++ r) k.1 ∙ sym (ap (λ r. asked x t h ++ after_yes r (asked y t h)) f))),
      )

  pub asked-decides : (c : Condition) → ((x : Condition) → Contains (asked c s g) x → holds x s g ≡ holds x t h) → Same c
  asked-decides always all = (refl, refl)
  asked-decides (slot_free_in slot v) all = (all (slot_free_in slot v) (contains_head (slot_free_in slot v) []), refl)
  asked-decides (either x y) all =
      both-either x y (holds x s g) refl (asked-decides x (λ z c. all z (Contains-append_left (asked x s g) (after_no (holds x s g) (asked y s g)) z c))) (asked-decides y) all
  asked-decides (each_of x y) all =
      both-each x y (holds x s g) refl (asked-decides x (λ z c. all z (Contains-append_left (asked x s g) (after_yes (holds x s g) (asked y s g)) z c))) (asked-decides y) all
  asked-decides (opposite c) all = let k = asked-decides c all in (ap (option_map not) k.0, k.1)
  asked-decides (own test) all = (all (own test) (contains_head (own test) []), refl)

pub values-stay : (c : Condition) → IsOfValues c → (s : Values) (g h : State) → holds c s g ≡ holds c s h
values-stay always o s g h = refl
values-stay (slot_free_in slot v) o s g h = refl
values-stay (either x y) o s g h =
    ap (λ r. option_and_then (λ c. cond c (Some true) (holds y s g)) r) (values-stay x o.0 s g h) ∙ ap (λ r. option_and_then (λ c. cond c (Some true) r) (holds x s h)) (values-stay y o.1 s g h)
values-stay (each_of x y) o s g h =
    ap (λ r. option_and_then (λ c. cond c (holds y s g) (Some false)) r) (values-stay x o.0 s g h) ∙ ap (λ r. option_and_then (λ c. cond c r (Some false)) (holds x s h)) (values-stay y o.1 s g h)
values-stay (opposite c) o s g h = ap (option_map not) (values-stay c o s g h)
values-stay (own test) o s g h = absurd o

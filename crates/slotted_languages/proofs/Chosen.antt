-- New names: what is chosen, entered or filled in each case.
use Rattle.std.proofs.Common.{◌≡◌, ◌∙◌, ℕ, List, Option, Some, None, Result, Ok, Err, IfOk, refl, sym, ap}
use Rattle.std.specs.Prelude.{true, false, is_some, IsSome}
use Rattle.std.proofs.lemmas.Bool.{false≢true}
use Rattle.slotted_slots.specs.declared.error.Error.{Error}
use Rattle.slotted_slots.specs.Maps.{is_among, value_of, values, with_pair}
use Rattle.slotted_slots.specs.Table.{Table, is_known}
use Rattle.slotted_languages.specs.Renaming.{IsChoice, IsEntered}

-- a value and none, two values
pub no_value : {P : Type 0} (o : Option ℕ) → o ≡ None → IsSome o → P
no_value o e h = absurd (false≢true (sym (ap is_some e) ∙ h))

pub not_none : {P : Type 0} (o : Option ℕ) (y : ℕ) → o ≡ Some y → o ≡ None → P
not_none o y v e = no_value o e (ap is_some v)

pub one_value : (o : Option ℕ) (y z : ℕ) → o ≡ Some y → o ≡ Some z → y ≡ z
one_value o y z v w = let p : Some y ≡ Some z = sym v ∙ w in cc

module _ (xs avoid : List ℕ) (free names : List (ℕ × ℕ)) (number name : ℕ) where
  -- the name of a free one
  pub chosen_free : (t : Table) (y : ℕ) → value_of free number ≡ Some y → IsChoice t t xs avoid free names number name y
  chosen_free t y v = record {
    free_name = λ z w. one_value (value_of free number) y z v w;
    kept = λ e _. not_none (value_of free number) y v e;
    not_avoided = λ e _. not_none (value_of free number) y v e;
    not_old = λ e _. not_none (value_of free number) y v e;
    not_new = λ e _. not_none (value_of free number) y v e;
    unused = λ e _. not_none (value_of free number) y v e;
    known = λ e _. not_none (value_of free number) y v e;
  }

  -- a binder's own name
  pub chosen_own : (t : Table) → value_of free number ≡ None → is_among name avoid ≡ false → IsChoice t t xs avoid free names number name name
  chosen_own t none apart = record {
    free_name = λ z w. not_none (value_of free number) z w none;
    kept = λ _ _. refl;
    not_avoided = λ _ a. absurd (false≢true (sym apart ∙ a));
    not_old = λ _ a. absurd (false≢true (sym apart ∙ a));
    not_new = λ _ a. absurd (false≢true (sym apart ∙ a));
    unused = λ _ a. absurd (false≢true (sym apart ∙ a));
    known = λ _ a. absurd (false≢true (sym apart ∙ a));
  }

  -- a fresh one
  pub chosen_fresh : (t u : Table) (r : Result ℕ Error) → value_of free number ≡ None → is_among name avoid ≡ true →
      IfOk r (λ s. is_among s avoid ≡ false) → IfOk r (λ s. is_among s xs ≡ false) → IfOk r (λ s. is_among s (values names) ≡ false) →
      IfOk r (λ s. is_known t s ≡ false) → IfOk r (λ s. is_known u s ≡ true) → IfOk r (IsChoice t u xs avoid free names number name)
  chosen_fresh t u (Ok s) none there apart old new unused known = record {
    free_name = λ z w. not_none (value_of free number) z w none;
    kept = λ _ a. absurd (false≢true (sym a ∙ there));
    not_avoided = λ _ _. apart;
    not_old = λ _ _. old;
    not_new = λ _ _. new;
    unused = λ _ _. unused;
    known = λ _ _. known;
  }
  chosen_fresh t u (Err e) none there apart old new unused known = tt

  -- the name that the number has, and one that it gets
  pub entered_known : (t : Table) (y : ℕ) → value_of names number ≡ Some y → IsEntered t t xs avoid free names names number name y
  entered_known t y v = record {
    known = λ z w. (one_value (value_of names number) y z v w, refl);
    chosen = λ e. not_none (value_of names number) y v e;
    entered = λ e. not_none (value_of names number) y v e;
  }

  pub entered_new : (t u : Table) (new : List (ℕ × ℕ)) (y : ℕ) → value_of names number ≡ None → IsChoice t u xs avoid free names number name y →
      new ≡ with_pair names number y → IsEntered t u xs avoid free names new number name y
  entered_new t u new y none choice e = record {
    known = λ z w. not_none (value_of names number) z w none;
    chosen = λ _. choice;
    entered = λ _. e;
  }

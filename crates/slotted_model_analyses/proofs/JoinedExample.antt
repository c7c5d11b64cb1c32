-- A new class that joins a row, with data: where the word b equals a, a class is made of n b. Its node in normal form is that of n a,
-- which is filed, so the new class dies at once, and what its node makes is merged into the data of the class of n a.
use Rattle.std.proofs.Common.{◌≢◌, ℕ, suc, ◌<◌, [], ◌∷◌, get_or, refl, sym, subst, inl, inr, arith}
use Rattle.std.specs.Prelude.{min}
use Rattle.std.proofs.lemmas.Bool.{cases_eq, cases_lt}
use Rattle.slotted_lists.proofs.Contained.{contains_head, contains_cases, Contains-nil}
use Rattle.slotted_model.specs.Extraction.{row_class}
use Rattle.slotted_model.specs.Find.{find_class}
use Rattle.slotted_model.specs.State.{Row}
use Rattle.slotted_model.specs.Changes.{Unites, left_dies}
use Rattle.slotted_model.proofs.Examples.CongruenceExample.{words, n, is_later}
use Rattle.slotted_model.proofs.Examples.JoiningExample.{united, united_rests, n_b_new, entered, n_grow, n_congruence, joined, row_n_a}
use Rattle.slotted_model.proofs.Rebuilding.Touching.{touching, touched-is}
use Rattle.slotted_model_analyses.specs.Analysis.{Analysis, IsMerge, Absorbs}
use Rattle.slotted_model_analyses.specs.DataPart.{DataPart, with_data, with_pending, made, absorbed, Carries, starts, RestsWithData}
use Rattle.slotted_model_analyses.specs.DataWrites.{AddsWithData, joins_row, with_new_data}
use Rattle.slotted_model_analyses.proofs.Merging.{noted-is}
use Rattle.slotted_model_analyses.proofs.Writing.{adding}

-- a word makes 4, and every other node one more than its first child; the least is kept
abbrev depth : Analysis ℕ
depth = record { make = λ d xs. suc (get_or xs 0 3); merge = min; height = λ x. x }

depth_merge : IsMerge ℕ depth
depth_merge = record {
  decided = cases_eq;
  commutative = λ x y. omega arith;
  associative = λ x y z. omega arith;
  idempotent = λ x. omega arith;
  lowers = λ x y n. below x y n;
}
  where
    below : (x y : ℕ) → min x y ≢ x → min x y < x
    below x y n = elim (cases_lt y x) [
      | inl l ↦ omega arith
      | inr l ↦ absurd (n (omega arith))
    ]

-- the words a and b are one class with 4, and n a has 5
abbrev before : DataPart ℕ
before = record { data_of = with_data (λ i. 4) 2 5; pending = []; changed = [] }

abbrev AbsorbsRow : Row → Type 0
AbsorbsRow r = Absorbs depth (before.data_of (row_class united r)) (made depth before r.shape)

before_rests : RestsWithData depth united before
before_rests = record {
  rest = united_rests;
  has = record {
    waits_once = tt;
    waits_whole = λ o c. c;
    waits_for_row = λ o c. absurd (Contains-nil o c);
    absorbs_made = λ r c n. elim (contains_cases _ (_ ∷ _ ∷ []) r c) [
      | inl e ↦ subst AbsorbsRow (sym e) refl
      | inr d ↦ elim (contains_cases _ (_ ∷ []) r d) [
        | inl e ↦ subst AbsorbsRow (sym e) refl
        | inr k ↦ elim (contains_cases _ [] r k) [
          | inl e ↦ subst AbsorbsRow (sym e) refl
          | inr j ↦ absurd (Contains-nil r j)
        ]
      ]
    ];
    changed_once = tt;
    changed_in_range = λ i c. absurd (Contains-nil i c);
  };
  nothing_waits = refl;
}

-- n b makes 5 too
abbrev after : DataPart ℕ
after = with_new_data depth united before (n 1) (3 ∷ [])

abbrev n_unites : Unites 5 entered joined
n_unites =
    left_dies 5 2 (touching entered 3) (λ e. omega arith) (record { left = λ s c. c; right = λ s c. c }) (omega arith, refl)
    (λ i l d. is_later 2 entered.found (omega arith, (omega arith, (omega arith, (omega arith, tt)))) i l) (touched-is entered tt 3)

n_carries : Carries depth n_unites after after
n_carries = (touching (with_pending entered after) 3, touched-is (with_pending entered after) tt 3, absorbed refl)

n_b_adds : AddsWithData depth united before (n 1) joined after
n_b_adds =
    joins_row (3 ∷ []) entered.proofs 5 row_n_a (noted-is 3 [] tt) n_grow (contains_head row_n_a words.rows) refl n_congruence n_unites
    n_carries starts ((refl, λ y c. absurd (Contains-nil y c)), refl)

-- all is at rest again, and the class of both absorbs what n b makes
joined_rests : RestsWithData depth joined after × Absorbs depth (after.data_of (find_class joined.found 3)) 5
joined_rests =
    let x = (adding depth depth_merge united before before_rests (n 1) n_b_new).1 joined after n_b_adds in
    (x.1, x.3)

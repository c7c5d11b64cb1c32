-- Data that is carried after rest: the words a and b, and n a, where b has less than a. b is asserted to equal a, by which the class of b dies; then
-- its data is merged into that of a, the row of n a waits, and what it makes goes up to the class of n a.
use Rattle.std.proofs.Common.{◌≡◌, ◌≢◌, ℕ, zero, suc, ◌<◌, List, [], ◌∷◌, get_or, refl, sym, ap, subst, inl, inr, arith}
use Rattle.std.specs.Prelude.{◌⊎◌, Contains, min, cond, nat_eq}
use Rattle.std.proofs.lemmas.Bool.{cases_eq, cases_lt}
use Rattle.slotted_lists.proofs.Contained.{contains_head, contains_cases, Contains-nil}
use Rattle.slotted_theory.specs.Nameless.{DTerm}
use Rattle.slotted_model.specs.Classes.{canonical_node, IsFull}
use Rattle.slotted_model.specs.Extraction.{row_class}
use Rattle.slotted_model.specs.Find.{find_class, IsLive}
use Rattle.slotted_model.specs.State.{Row, State, child_classes}
use Rattle.slotted_model.specs.Changes.{GoesOn, left_dies}
use Rattle.slotted_model.specs.Rebuild.{starts}
use Rattle.slotted_model.specs.Adding.{with_assertion, Asserts, is_new}
use Rattle.slotted_model.proofs.Rebuilding.Asserting.{asserts}
use Rattle.slotted_model.proofs.Examples.CongruenceExample.{words, n, id, n_a_rests, sides, stands_nowhere, is_later}
use Rattle.slotted_model.proofs.Examples.JoiningExample.{united, united_rests, row_n_a}
use Rattle.slotted_model.proofs.Examples.RestExamples.{made as made_of}
use Rattle.slotted_model.proofs.Rebuilding.Touching.{touching, touched-is}
use Rattle.slotted_model_analyses.specs.Analysis.{Analysis, IsMerge, MakesAlike, Absorbs}
use Rattle.slotted_model_analyses.specs.DataPart.{DataPart, with_data, with_pending, taken, made, lowered, takes, RunsWithData, takes_data, HasData, RestsWithData}
use Rattle.slotted_model_analyses.specs.DataPart as with
use Rattle.slotted_model_analyses.specs.DataWrites.{AssertsWithData, HasNotedAll}
use Rattle.slotted_model_analyses.specs.Carried.{GoesAlong, CarriesTo}
use Rattle.slotted_model_analyses.proofs.CarriedData.{carried-kept, carried-rests}
use Rattle.slotted_model_analyses.proofs.FollowingWrites.{asserting-followed}
use Rattle.slotted_model_analyses.proofs.Merging.{noted-is}

-- a makes 4, b makes 1, and every other node one more than its first child; the least is kept
abbrev depth_of : ℕ → List ℕ → ℕ
depth_of op xs = cond (nat_eq op 1) 4 (cond (nat_eq op 2) 1 (suc (get_or xs 0 0)))

abbrev depth : Analysis ℕ
depth = record { make = λ d xs. depth_of d.op xs; merge = min; height = λ x. x }

depth_merge : IsMerge ℕ depth
depth_merge = record {
  decided = cases_eq;
  commutative = λ x y. omega arith;
  associative = λ x y z. omega arith;
  idempotent = λ x. omega arith;
  lowers = λ x y n. below x y n;
}
  where
    below : (x y : ℕ) → min x y ≢ x → min x y < x
    below x y n = elim (cases_lt y x) [
      | inl l ↦ omega arith
      | inr l ↦ absurd (n (omega arith))
    ]

depth_alike : MakesAlike (λ d. Unit {0}) ℕ depth
depth_alike d e xs k l alike n = ap (λ op. depth_of op xs) (ap (λ (t : DTerm). t.op) alike)

-- the words a and b, and n a
abbrev three : State
three = made_of words (n 0)

abbrev before : DataPart ℕ
before = record { data_of = with_data (with_data (λ i. 4) 1 1) 2 5; pending = []; changed = [] }

abbrev AbsorbsRow : Row → Type 0
AbsorbsRow r = Absorbs depth (before.data_of (row_class three r)) (made depth before r.shape)

before_rests : RestsWithData depth three before
before_rests = record {
  rest = n_a_rests;
  has = record {
    waits_once = tt;
    waits_whole = λ o c. c;
    waits_for_row = λ o c. absurd (Contains-nil o c);
    absorbs_made = λ r c n. elim (contains_cases _ (_ ∷ _ ∷ []) r c) [
      | inl e ↦ subst AbsorbsRow (sym e) refl
      | inr d ↦ elim (contains_cases _ (_ ∷ []) r d) [
        | inl e ↦ subst AbsorbsRow (sym e) refl
        | inr k ↦ elim (contains_cases _ [] r k) [
          | inl e ↦ subst AbsorbsRow (sym e) refl
          | inr j ↦ absurd (Contains-nil r j)
        ]
      ]
    ];
    changed_once = tt;
    changed_in_range = λ i c. absurd (Contains-nil i c);
  };
  nothing_waits = refl;
}

-- b is asserted to equal a: the class of b dies
word_full : IsFull three.nodes (id 0) × IsFull three.nodes (id 1)
word_full = (record { in_range = omega arith; slots = refl; injective = tt }, record { in_range = omega arith; slots = refl; injective = tt })

b_a_asserted : Asserts three (id 1) (id 0) united
b_a_asserted =
    is_new (stands_nowhere (sides 1 0) three.proofs (omega arith, (omega arith, (omega arith, tt))))
    (left_dies 3 1 (touching three 1) (λ e. omega arith) (record { left = λ s c. c; right = λ s c. c }) (omega arith, refl)
    (λ i l d. is_later 1 three.found (omega arith, (omega arith, (omega arith, tt))) i l) (touched-is (with_assertion three (sides 1 0)) tt 1))
    starts (refl, λ y c. absurd (Contains-nil y c))

goes_on : GoesOn three united
goes_on = (asserts three n_a_rests (id 1) (id 0) word_full.1 word_full.0 united b_a_asserted).goes_on

b_is_dead : (¬ IsLive united.found 1) × (find_class united.found 1 ≡ 0)
b_is_dead = (λ e. omega arith, refl)

-- what b had is merged into what a has, and the row over a waits
abbrev after : DataPart ℕ
after = record { data_of = with_data before.data_of 0 1; pending = 2 ∷ []; changed = 0 ∷ [] }

-- the row of n a waits; that of b makes what is absorbed; and that of a sees what it saw, since it has no children
abbrev Sees : Row → Type 0
Sees r =
    Absorbs depth (after.data_of (row_class united r)) (made depth after r.shape)
    ⊎ ((r.source < 3) × ((k : ℕ) → Contains (child_classes (canonical_node three.nodes r.source).args) k →
    after.data_of (find_class united.found k) ≡ before.data_of (find_class three.found k)))

along : GoesAlong depth three before united after
along = record {
  down = lower;
  waits_once = (Contains-nil 2, tt);
  waits_for_row = λ o c. elim (contains_cases 2 [] o c) [
    | inl e ↦ subst (Contains (2 ∷ 1 ∷ 0 ∷ [])) (sym e) (contains_head 2 (1 ∷ 0 ∷ []))
    | inr k ↦ absurd (Contains-nil o k)
  ];
  changed_once = (Contains-nil 0, tt);
  changed_in_range = λ i c. elim (contains_cases 0 [] i c) [
    | inl e ↦ omega arith
    | inr k ↦ absurd (Contains-nil i k)
  ];
  sees = λ r c n. elim (contains_cases _ (_ ∷ _ ∷ []) r c) [
    | inl e ↦ absurd (n (subst (λ (x : Row). Contains (2 ∷ []) x.source) (sym e) (contains_head 2 [])))
    | inr d ↦ elim (contains_cases _ (_ ∷ []) r d) [
      | inl e ↦ subst Sees (sym e) (inl refl)
      | inr k ↦ elim (contains_cases _ [] r k) [
        | inl e ↦ subst Sees (sym e) (inr (omega arith, λ k c. absurd (Contains-nil k c)))
        | inr j ↦ absurd (Contains-nil r j)
      ]
    ]
  ];
}
  where
    lower : (i : ℕ) → i < 3 → Absorbs depth (after.data_of (find_class united.found i)) (before.data_of (find_class three.found i))
    lower zero l = refl
    lower (suc zero) l = refl
    lower (suc (suc zero)) l = refl
    lower (suc (suc (suc i))) l = absurd (omega arith)

-- so the data is right but for what waits
after_has : HasData depth united after
after_has =
    carried-kept (λ d. Unit {0}) depth depth_merge depth_alike (λ d e q k. tt) three before before_rests (λ r c. tt) united after united_rests goes_on (λ r c. tt) along

-- n a makes 2 now, which goes up to its class; nothing is over that
abbrev at_end : DataPart ℕ
at_end = record { data_of = with_data after.data_of 2 2; pending = []; changed = 2 ∷ 0 ∷ [] }

one_turn : RunsWithData depth united after 1 united at_end
one_turn =
    takes_data with.starts (takes row_n_a (contains_head row_n_a words.rows) (contains_head 2 []) (Contains-nil 2)
    (lowered [] (2 ∷ 0 ∷ []) (λ e. omega arith) (touched-is (with_pending united (taken after 2)) tt 2) (noted-is 2 (0 ∷ []) (Contains-nil 0, tt))))

-- the class of a has changed, and waits to be modified
after_noted : HasNotedAll three before united after
after_noted = record { kept = λ i c. absurd (Contains-nil i c); noted = noted }
  where
    noted : (i : ℕ) → i < 3 → ¬ Contains (0 ∷ []) i → (i < 3) × (after.data_of i ≡ before.data_of i)
    noted zero l c = absurd (c (contains_head 0 []))
    noted (suc zero) l c = (omega arith, refl)
    noted (suc (suc zero)) l c = (omega arith, refl)
    noted (suc (suc (suc i))) l c = absurd (omega arith)

-- so the data before the assertion was carried to that after it
carried : CarriesTo depth three before united at_end
carried =
    ((carried-rests (λ d. Unit {0}) depth depth_merge depth_alike (λ d e q k. tt) three before before_rests (λ r c. tt) united after united_rests goes_on (λ r c. tt) along after_noted).1 1 united at_end one_turn refl).1

what_is_left : (at_end.data_of (find_class united.found 1) ≡ 1) × (at_end.data_of (find_class united.found 2) ≡ 2)
what_is_left = (refl, refl)

-- data can also go along with each step of the assertion
follows : (t : DataPart ℕ) × AssertsWithData depth three before (id 1) (id 0) united t
follows = asserting-followed depth depth_merge three before before_rests united (id 1) (id 0) word_full.1 word_full.0 b_a_asserted

-- A class is made of a node whose normal form is filed already: where the word b is united with a, n b joins the row of n a.
use Rattle.std.proofs.Common.{◌≡◌, ℕ, zero, suc, ◌<◌, [], ◌∷◌, ◌++◌, Some, get_or, refl, sym, ap, subst, arith}
use Rattle.slotted_lists.proofs.Contained.{contains_head, Contains-nil}
use Rattle.slotted_theory.specs.Nameless.{DTerm}
use Rattle.slotted_theory.specs.Shape.{shape}
use Rattle.slotted_model.specs.Classes.{canonical_node, IsFull}
use Rattle.slotted_model.specs.Growth.{IsNew}
use Rattle.slotted_model.specs.Link.{CanEnter}
use Rattle.slotted_model.specs.ProofList.{ProofEntry, congruent, one_child, no_more}
use Rattle.slotted_model.specs.State.{Row, State, child_classes, look_up_node}
use Rattle.slotted_model.specs.Rest.{Sane, AtRest}
use Rattle.slotted_model.specs.Changes.{ProofsGrow, with_proofs, Unites, left_dies, linked_state}
use Rattle.slotted_model.specs.Rebuild.{IsCongruence, starts}
use Rattle.slotted_model.specs.Adding.{with_new_class, with_assertion, Adds, joins_row, HasAdded, Asserts, is_new}
use Rattle.slotted_model.proofs.Rebuilding.Adding.{adds, class-sane}
use Rattle.slotted_model.proofs.Rebuilding.Asserting.{asserts}
use Rattle.slotted_model.proofs.Finds.Entering.{entered-proved}
use Rattle.slotted_model.proofs.Examples.RestExamples.{made}
use Rattle.slotted_model.proofs.Examples.CompletenessExamples.{one_of}
use Rattle.slotted_model.proofs.Rebuilding.Touching.{touching, touched-is}
use Rattle.slotted_model.proofs.Examples.CongruenceExample.{words, n, n_a_rests, id, sides, stands_nowhere, is_later, nothing_paired}

-- the words a and b, and n a; b is asserted to equal a
abbrev three : State
three = made words (n 0)

abbrev pub united : State
united = linked_state (with_assertion three (sides 1 0)) (sides 1 0) 3 1 (touching three 1)

three_full : (i : ℕ) → i < 3 → IsFull three.nodes (id i)
three_full zero l = record { in_range = omega arith; slots = refl; injective = tt }
three_full (suc zero) l = record { in_range = omega arith; slots = refl; injective = tt }
three_full (suc (suc zero)) l = record { in_range = omega arith; slots = refl; injective = tt }
three_full (suc (suc (suc i))) l = absurd (omega arith)

b_a_asserted : Asserts three (id 1) (id 0) united
b_a_asserted =
    is_new (stands_nowhere (sides 1 0) three.proofs (omega arith, (omega arith, (omega arith, tt))))
    (left_dies 3 1 (touching three 1) (λ e. omega arith) (record { left = λ s c. c; right = λ s c. c }) (omega arith, refl) (λ i l d. is_later 1 three.found (omega arith, (omega arith, (omega arith, tt))) i l) (touched-is (with_assertion three (sides 1 0)) tt 1))
    starts (refl, λ y c. absurd (Contains-nil y c))

pub united_rests : AtRest united
united_rests = (asserts three n_a_rests (id 1) (id 0) (three_full 1 (omega arith)) (three_full 0 (omega arith)) united b_a_asserted).rest

-- the first child of a node, by which n b is told from n a
abbrev child_class : DTerm → ℕ
child_class d = get_or (child_classes d.args) 0 7

pub n_b_new : IsNew united.nodes (n 1)
n_b_new = record { operator = omega arith; children = ((id 1, refl, three_full 1 (omega arith)), tt); shape_is_new = other }
  where
    other : (i : ℕ) → i < 3 → ¬ (shape (canonical_node united.nodes i) ≡ shape (n 1))
    other zero l e = let k : ◌≡◌ {A = ℕ} 1 3 = ap (λ (t : DTerm). t.op) e in omega arith
    other (suc zero) l e = let k : ◌≡◌ {A = ℕ} 2 3 = ap (λ (t : DTerm). t.op) e in omega arith
    other (suc (suc zero)) l e = let k : ◌≡◌ {A = ℕ} 0 1 = ap child_class e in omega arith
    other (suc (suc (suc i))) l e = omega arith

-- it is equal to n a, so it is looked up already
n_b_looked_up : look_up_node united (n 1) ≡ Some (id 2)
n_b_looked_up = refl

abbrev pub with_n_b : State
with_n_b = with_new_class united (n 1)

with_n_b-sane : Sane with_n_b
with_n_b-sane = class-sane united united_rests.sane (n 1) n_b_new

four_full : (i : ℕ) → i < 4 → IsFull with_n_b.nodes (id i)
four_full zero l = record { in_range = omega arith; slots = refl; injective = tt }
four_full (suc zero) l = record { in_range = omega arith; slots = refl; injective = tt }
four_full (suc (suc zero)) l = record { in_range = omega arith; slots = refl; injective = tt }
four_full (suc (suc (suc zero))) l = record { in_range = omega arith; slots = refl; injective = tt }
four_full (suc (suc (suc (suc i)))) l = absurd (omega arith)

-- n b and n a are congruent, by the entry of the assertion
abbrev n_congruent : ProofEntry
n_congruent = record { equation = sides 3 2; step = congruent (3 ∷ []) }

abbrev pub entered : State
entered = with_proofs with_n_b (with_n_b.proofs ++ n_congruent ∷ [])

n_can_enter : CanEnter with_n_b.nodes with_n_b.proofs n_congruent
n_can_enter = record {
  over = record { left = omega arith; right = omega arith; pairs = nothing_paired };
  proved = (
    λ q c. subst (λ x. x < 5) (sym (one_of c)) (omega arith),
    record {
      left = id 3;
      right = id 2;
      left_full = four_full 3 (omega arith);
      right_full = four_full 2 (omega arith);
      equation = refl;
      operators = refl;
      payloads = refl;
      children = one_child (id 1) (id 0) (four_full 1 (omega arith)) (four_full 0 (omega arith)) no_more;
    },
  );
  is_new = stands_nowhere (sides 3 2) with_n_b.proofs (omega arith, (omega arith, (omega arith, (omega arith, (omega arith, tt)))));
}

pub n_grow : ProofsGrow with_n_b.nodes with_n_b.proofs entered.proofs
n_grow = record { more = n_congruent ∷ []; is = refl; proved = entered-proved with_n_b.nodes with_n_b.proofs n_congruent with_n_b-sane.sound.proved n_can_enter; asserts_nothing = refl }

pub n_congruence : IsCongruence entered 5 3 2
n_congruence = record {
  left = id 3;
  right = id 2;
  left_class = refl;
  right_class = refl;
  left_full = four_full 3 (omega arith);
  twins = record { full = four_full 2 (omega arith); same = refl; left_names = λ s. (λ c. c, λ c. c); right_names = λ s. (λ c. c, λ c. c) };
  stands = (omega arith, refl);
}

abbrev pub joined : State
joined = linked_state entered (sides 3 2) 5 2 (touching entered 3)

n_unites : Unites 5 entered joined
n_unites =
    left_dies 5 2 (touching entered 3) (λ e. omega arith) (record { left = λ s c. c; right = λ s c. c }) (omega arith, refl)
    (λ i l d. is_later 2 entered.found (omega arith, (omega arith, (omega arith, (omega arith, tt)))) i l) (touched-is entered tt 3)

abbrev pub row_n_a : Row
row_n_a = record { shape = n 0; source = 2; slots = [] }

n_b_adds : Adds united (n 1) joined
n_b_adds = joins_row entered.proofs 5 row_n_a n_grow (contains_head row_n_a words.rows) refl n_congruence n_unites starts (refl, λ y c. absurd (Contains-nil y c))

n_b_added : HasAdded united (n 1) joined
n_b_added = adds united united_rests (n 1) n_b_new joined n_b_adds

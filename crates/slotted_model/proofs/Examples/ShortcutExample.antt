-- A shortcut on a small graph at rest: a dead class that leads to what it finds by way of another leads there at once, and no answer changes.
use Rattle.std.proofs.Common.{◌≡◌, ℕ, zero, suc, ◌<◌, [], ◌∷◌, ◌++◌, refl, arith}
use Rattle.slotted_lists.proofs.Contained.{Contains-nil}
use Rattle.slotted_theory.specs.Nameless.{stop}
use Rattle.slotted_theory.proofs.Values.{node}
use Rattle.slotted_model.specs.Classes.{IsFull}
use Rattle.slotted_model.specs.Find.{entry_at}
use Rattle.slotted_model.specs.ProofList.{ProofEntry, transitive}
use Rattle.slotted_model.specs.Correspondence.{CanJoin}
use Rattle.slotted_model.specs.State.{State}
use Rattle.slotted_model.specs.Rest.{AtRest}
use Rattle.slotted_model.specs.Rebuild.{starts}
use Rattle.slotted_model.specs.Adding.{with_assertion, Asserts, is_new, SameAnswers}
use Rattle.slotted_model.specs.Changes.{with_proofs, left_dies, linked_state}
use Rattle.slotted_model.specs.Link.{CanEnter, with_shortcut}
use Rattle.slotted_model.proofs.Finds.Entering.{entered-proved}
use Rattle.slotted_model.proofs.Rebuilding.Asserting.{asserts}
use Rattle.slotted_model.proofs.Rebuilding.Quiet.{proofs-quiet, shortcut-quiet}
use Rattle.slotted_model.proofs.Examples.RestExamples.{made}
use Rattle.slotted_model.proofs.Rebuilding.Touching.{touching, touched-is}
use Rattle.slotted_model.proofs.Examples.CongruenceExample.{made-rests, words, words_rest, id, sides, stands_nowhere, is_later, nothing_paired}

-- words a, b and c, where a = b and then b = c are asserted: the class of a leads to that of c by way of that of b
abbrev pub three : State
three = made words (node 4 [] stop)

pub three_rests : AtRest three
three_rests = made-rests words words_rest (node 4 [] stop) (omega arith) tt refl (λ s c. absurd (Contains-nil s c)) (refl, λ y c. absurd (Contains-nil y c))

pub word_full : (i : ℕ) → i < 3 → IsFull three.nodes (id i)
word_full zero l = record { in_range = omega arith; slots = refl; injective = tt }
word_full (suc zero) l = record { in_range = omega arith; slots = refl; injective = tt }
word_full (suc (suc zero)) l = record { in_range = omega arith; slots = refl; injective = tt }
word_full (suc (suc (suc i))) l = absurd (omega arith)

abbrev pub a_is_b : State
a_is_b = linked_state (with_assertion three (sides 0 1)) (sides 0 1) 3 1 (touching three 0)

abbrev pub b_is_c : State
b_is_c = linked_state (with_assertion a_is_b (sides 1 2)) (sides 1 2) 4 2 (touching a_is_b 1)

a_b_asserted : Asserts three (id 0) (id 1) a_is_b
a_b_asserted =
    is_new (stands_nowhere (sides 0 1) three.proofs (omega arith, (omega arith, (omega arith, tt))))
    (left_dies 3 1 (touching three 0) (λ e. omega arith) (record { left = λ s c. c; right = λ s c. c }) (omega arith, refl) (λ i l d. is_later 1 three.found (omega arith, (omega arith, (omega arith, tt))) i l) (touched-is (with_assertion three (sides 0 1)) tt 0))
    starts (refl, λ y c. absurd (Contains-nil y c))

pub a_b_rests : AtRest a_is_b
a_b_rests = (asserts three three_rests (id 0) (id 1) (word_full 0 (omega arith)) (word_full 1 (omega arith)) a_is_b a_b_asserted).rest

b_c_asserted : Asserts a_is_b (id 1) (id 2) b_is_c
b_c_asserted =
    is_new (stands_nowhere (sides 1 2) a_is_b.proofs (omega arith, (omega arith, (omega arith, (omega arith, tt)))))
    (left_dies 4 2 (touching a_is_b 1) (λ e. omega arith) (record { left = λ s c. c; right = λ s c. c }) (omega arith, refl) (λ i l d. is_later 2 a_is_b.found (omega arith, (omega arith, (omega arith, tt))) i l) (touched-is (with_assertion a_is_b (sides 1 2)) tt 1))
    starts (refl, λ y c. absurd (Contains-nil y c))

pub b_c_rests : AtRest b_is_c
b_c_rests = (asserts a_is_b a_b_rests (id 1) (id 2) (word_full 1 (omega arith)) (word_full 2 (omega arith)) b_is_c b_c_asserted).rest

-- that a = c is entered by a transitive step
abbrev joined : ProofEntry
joined = record { equation = sides 0 2; step = transitive 3 4 }

abbrev with_joined : State
with_joined = with_proofs b_is_c (b_is_c.proofs ++ joined ∷ [])

joined_can_enter : CanEnter three.nodes b_is_c.proofs joined
joined_can_enter = record {
  over = record { left = omega arith; right = omega arith; pairs = nothing_paired };
  proved = (omega arith, omega arith, record { left = refl; middle = refl; right = refl; joins = nothing_joined });
  is_new = stands_nowhere (sides 0 2) b_is_c.proofs (omega arith, (omega arith, (omega arith, (omega arith, (omega arith, tt)))));
}
  where
    nothing_joined : CanJoin [] [] []
    nothing_joined = record { within = λ s u c. absurd (Contains-nil (s, u) c); from_left = λ s u c k. absurd (Contains-nil (s, u) c); from_right = λ s u c k. absurd (Contains-nil (s, u) c) }

joined_shows_nowhere : SameAnswers b_is_c with_joined
joined_shows_nowhere =
    proofs-quiet b_is_c b_c_rests with_joined.proofs
    (record { more = joined ∷ []; is = refl; proved = entered-proved three.nodes b_is_c.proofs joined b_c_rests.sane.sound.proved joined_can_enter; asserts_nothing = refl })

-- so the entry of a can lead at once to c, and no answer changes
shortcut_shows_nowhere : SameAnswers with_joined (record with_joined { found = with_shortcut with_joined.found 0 5 })
shortcut_shows_nowhere = shortcut-quiet with_joined joined_shows_nowhere.rest 0 5 (omega arith) (λ e. omega arith) (omega arith) refl

a_is_c_at_once : ((entry_at with_joined.found 0).class ≡ 1) × ((entry_at (with_shortcut with_joined.found 0 5) 0).class ≡ 2)
a_is_c_at_once = (refl, refl)

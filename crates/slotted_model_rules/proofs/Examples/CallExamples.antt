-- Laws of structural writes held against four graphs, each made from the one before: the empty one, (h $0 $1), the
-- equation of it with (h $1 $0), which lists an open symmetry, and (k (h $0 $1)). And against the words a and b.
use Rattle.std.proofs.Common.{◌≡◌, ◌≢◌, ◌⊎◌, ◌≤◌, ◌<◌, ℕ, zero, suc, [], ◌∷◌, refl, ap, arith}
use Rattle.slotted_lists.proofs.Contained.{contains_head, Contains-nil}
use Rattle.slotted_theory.specs.Nameless.{DTerm, stop}
use Rattle.slotted_theory.specs.Derives.{Equal, listed}
use Rattle.slotted_theory.specs.Shape.{shape}
use Rattle.slotted_theory.proofs.Values.{node, child_before}
use Rattle.slotted_model.specs.Applied.{Applied, as_term}
use Rattle.slotted_model.specs.Classes.{canonical_node}
use Rattle.slotted_model.specs.Find.{find}
use Rattle.slotted_model.specs.Growth.{IsNew}
use Rattle.slotted_model.specs.ProofList.{asserted}
use Rattle.slotted_model.specs.Rest.{IsAligned, AtRest}
use Rattle.slotted_model.specs.Sessions.{nothing}
use Rattle.slotted_model.specs.State.{State}
use Rattle.slotted_model.proofs.Rebuilding.Asserting.{nothing-rests}
use Rattle.slotted_model.proofs.Examples.CongruenceExample.{twice, twice_rests, id, id_full, rebuilt, words_asserted}
use Rattle.slotted_model.proofs.Finds.NormalIds.{full-is_valid}
use Rattle.slotted_model.proofs.Examples.OpenSessionsExample.{h_of, with_h, symmetry, h_is_new, h_full, open_state, opens}
use Rattle.slotted_model.proofs.Examples.SessionExample.{with_filed, files, one_row}
use Rattle.slotted_model_rules.specs.Instances.{is_itself}
use Rattle.slotted_model_rules.specs.Rules.{Calls, no_call, adds, asserts, IsExtension, IsAskedByRule, progress}
use Rattle.slotted_model_rules.proofs.Laws.{rule-laws}
use Rattle.slotted_model_rules.proofs.Examples.RuleExamples.{nothing_else, apart, a_is_b, applied_once, left_id, right_id}
use Rattle.slotted_model_rules.proofs.Examples.RuleExamples.{with_h_rests}

-- the caller's own code may ask for equations of h of the names 0 and 1 in either order
abbrev asks_turned : State → Applied → Applied → Type 0
asks_turned g a b = (a ≡ left_id) × (b ≡ right_id)

-- the first write makes the class of h
h_added : Calls asks_turned nothing with_h
h_added =
    adds (h_of 0 1) h_is_new
    (files nothing (h_of 0 1) (λ s c. c) (λ r k. absurd (Contains-nil r k)) (refl, λ y k. absurd (Contains-nil y k)))
    no_call

-- the second asserts that h of both names is the same turned round
h_turned : Calls asks_turned with_h open_state
h_turned =
    asserts left_id right_id (h_full 0 1 (λ e. omega arith)) (h_full 1 0 (λ e. omega arith)) (refl, refl) opens no_call

-- the third makes the class of k over h
abbrev pub k_over : DTerm
k_over = node 4 [] (child_before (as_term left_id) stop)

abbrev pub with_k : State
with_k = with_filed open_state k_over

-- no class has the shape of k
k_is_new : IsNew open_state.nodes k_over
k_is_new = record {
  operator = omega arith;
  children = ((left_id, refl, h_full 0 1 (λ e. omega arith)), tt);
  shape_is_new = other;
}
  where
    other : (i : ℕ) → i < 1 → ¬ (shape (canonical_node open_state.nodes i) ≡ shape k_over)
    other zero l p = let e : ◌≡◌ {A = ℕ} 3 4 = ap (λ (t : DTerm). t.op) p in omega arith
    other (suc i) l p = omega arith

-- its node is filed, since no row has its operator
k_added : Calls asks_turned open_state with_k
k_added =
    adds k_over k_is_new
    (files open_state k_over (λ s c. c)
    (one_row (λ r. (r.source ≢ 1) × (r.shape.op ≢ 4)) _ (λ e. omega arith, λ e. omega arith))
    (refl, one_row (IsAligned with_k) symmetry refl))
    no_call

-- each of them leads from rest to rest, and extends the graph
h_extends : AtRest with_h × IsExtension nothing with_h
h_extends = (rule-laws asks_turned).calls_extend nothing with_h nothing-rests h_added

-- so does the assertion
turning_extends : AtRest open_state × IsExtension with_h open_state
turning_extends = (rule-laws asks_turned).calls_extend with_h open_state with_h_rests h_turned

-- and the class of k
pub k_extends : AtRest with_k × IsExtension open_state with_k
k_extends = (rule-laws asks_turned).calls_extend open_state with_k turning_extends.0 k_added

-- three after one another are one list of writes
all_three : Calls asks_turned nothing with_k
all_three =
    (rule-laws asks_turned).calls_compose nothing with_h with_k h_added
    ((rule-laws asks_turned).calls_compose with_h open_state with_k h_turned k_added)

-- the graph that the second made extends the empty one, and itself
turned_extends_nothing : IsExtension nothing open_state
turned_extends_nothing =
    (rule-laws asks_turned).extensions_compose.1 nothing with_h open_state nothing-rests.sane h_extends.1
    turning_extends.1

-- it extends itself too
extends_itself : IsExtension open_state open_state
extends_itself = (rule-laws asks_turned).extensions_compose.0 open_state turning_extends.0.sane

-- the second write is no progress: there are as many classes and slots as before, and h of the names 0 and 1 finds what
-- it found, although a symmetry is listed now
turning_is_no_change : (open_state.nodes ≡ with_h.nodes) × (find open_state.found left_id ≡ find with_h.found left_id)
turning_is_no_change =
    let n = (rule-laws asks_turned).no_progress_is_no_change with_h open_state with_h_rests h_turned refl in (
      n.0,
      n.1 left_id
          (full-is_valid with_h.nodes with_h.found with_h_rests.sane.sound.linked left_id
          (h_full 0 1 (λ e. omega arith))),
    )

-- that (h $0 $1) is (h $1 $0) is derivable from what is asserted, and still so after the third write
still_derivable : Equal (asserted with_k.nodes with_k.proofs) (h_of 0 1) (h_of 1 0)
still_derivable =
    (rule-laws asks_turned).extensions_keep_derivations open_state with_k turning_extends.0 k_extends.0 k_extends.1
    (h_of 0 1) (h_of 1 0) (listed (contains_head (h_of 0 1, h_of 1 0) []))

-- the caller's own code asks that the word a is b: as many classes, so no more of them live, and fewer do
words_called : Calls (λ g a b. (a ≡ id 0) × (b ≡ id 1)) twice rebuilt
words_called =
    asserts (id 0) (id 1) (id_full 0 (omega arith)) (id_full 1 (omega arith)) (refl, refl) words_asserted no_call

-- it leads to rest as well
words_extend : AtRest rebuilt × IsExtension twice rebuilt
words_extend = (rule-laws (λ g a b. (a ≡ id 0) × (b ≡ id 1))).calls_extend twice rebuilt twice_rests words_called

-- as many classes as before, so not more of them live
no_more_live : ((progress twice).classes ≤ (progress rebuilt).classes)
    × ((progress rebuilt).live_classes ≤ (progress twice).live_classes)
no_more_live =
    let k = (rule-laws (λ g a b. (a ≡ id 0) × (b ≡ id 1))).calls_keep_counts twice rebuilt twice_rests words_called in
    (k.0, k.1 refl)

-- where as many live as before, after the symmetry was listed, there are no more slots
no_more_slots : (progress open_state).slots ≤ (progress with_h).slots
no_more_slots =
    ((rule-laws asks_turned).calls_keep_counts with_h open_state with_h_rests h_turned).2 refl refl

-- the apply of the rule that a is b, to what was found twice, is a list of writes that ask for instances of its sides
apply_is_calls : Calls
    (λ m a b. nothing_else m a b ⊎ IsAskedByRule is_itself [] (a_is_b apart) ([] ∷ [] ∷ []) twice m a b) twice rebuilt
apply_is_calls =
    (rule-laws nothing_else).applies_are_calls is_itself [] (a_is_b apart) ([] ∷ [] ∷ []) twice rebuilt twice_rests
    applied_once

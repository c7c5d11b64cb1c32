-- What conditions answer.
--     Outcome                  yes or no, or the variable without a value at which the condition is refused
--     slot_outcome slot v a    whether the slot is no name of the id a, the value of v
--     IsOneAnswer P            there is no more than one answer of which P holds
--     AnswersEither P Q y      y is what the first of two conditions answers, if it is yes, and else what the second one does
--     AnswersBoth P Q y        the same, if it is no
--     AnswersOpposite P y      y is the opposite of what a condition answers
--     AnswersByData ..         y is what a test answers for the data of the class of v's value
--     LacksValue v s e         v has no value, and e says so, or memory was lacking for that
use Rattle.std.specs.Prelude.{◌≡◌, ◌⊎◌, ℕ, List, Bool, true, false, not, Option, Some, None, Result, Ok, Err, string_bytes}
use Rattle.std.specs.Coded.{Coded}
use Rattle.std.proofs.Common.{◌∙◌, ap, sym, subst, inl, inr}
use Rattle.std.proofs.lemmas.Bool.{false≢true}
use Rattle.slotted_slots.specs.declared.error.Error.{Error}
use Rattle.slotted_slots.specs.declared.error.Error.TheVariants.{OutOfMemory, MissingVariable, Failed}
use Rattle.slotted_model.specs.Applied.{Applied, values}
use Rattle.slotted_model.specs.Correspondence.{has_slot}
use Rattle.slotted_model_rules.specs.Conditions.{Values}
use Rattle.slotted_model_rules.specs.Matcher.{value_at}
use Rattle.slotted_operations.specs.Graph.{Graph}
use Rattle.slotted_graph.specs.Analysed.{HasData}
use Rattle.slotted_graph.proofs.Analysed.{one-datum}

-- yes or no, or a variable without a value
abbrev pub Outcome : Type 0
Outcome = Result Bool (List ℕ)

abbrev pub answer_of : Outcome → Bool
answer_of (Ok b) = b
answer_of (Err v) = false

abbrev pub slot_outcome : ℕ → List ℕ → Option Applied → Outcome
slot_outcome slot v None = Err v
slot_outcome slot v (Some a) = Ok (not (has_slot (values a.1) slot))

-- each condition answers no more than one of yes and no
abbrev pub IsOneAnswer : (Bool → Type 0) → Type 0
IsOneAnswer P = (x y : Bool) → P x → P y → x ≡ y

-- the second is asked only where the first leaves it open
abbrev pub AnswersEither : (Bool → Type 0) → (Bool → Type 0) → Bool → Type 0
AnswersEither P Q y = (P true × (y ≡ true)) ⊎ (P false × Q y)

abbrev pub AnswersBoth : (Bool → Type 0) → (Bool → Type 0) → Bool → Type 0
AnswersBoth P Q y = (P false × (y ≡ false)) ⊎ (P true × Q y)

abbrev pub AnswersOpposite : (Bool → Type 0) → Bool → Type 0
AnswersOpposite P y = (x : Bool) × P x × (y ≡ not x)

-- v has a value, its class has data, and that is what the test answers for this data
pub record AnswersByData {N D : Type 0} (codes : Coded N × Coded D) (test : D → Bool) (v : List ℕ) (s : Values) (g : Graph) (y : Bool) : Type 0 where
  pub value : Applied
  pub valued : value_at s v ≡ Some value
  pub datum : D
  pub has : HasData codes g value.0 datum
  pub is : y ≡ test datum

-- the refusal names the variable; memory may lack for that
abbrev pub IsMissing : List ℕ → Error → Type 0
IsMissing v (MissingVariable name) = string_bytes name ≡ v
IsMissing v OutOfMemory = Unit {0}
IsMissing v e = ⊥

abbrev pub LacksValue : List ℕ → Values → Error → Type 0
LacksValue v s e = (value_at s v ≡ None) × IsMissing v e

-- neither is a refusal of a failed graph

pub lacks-never_failed : (v : List ℕ) (s : Values) → ¬ LacksValue v s Failed
lacks-never_failed v s r = r.1

pub either-never_failed : {P Q R : Type 0} → ¬ P → ¬ R → ¬ (P ⊎ (Q × R))
either-never_failed np nr (inl p) = np p
either-never_failed np nr (inr q) = nr q.1

-- each has one answer

pub outcome-one : (o : Outcome) → IsOneAnswer (λ y. o ≡ Ok y)
outcome-one o x y first second = ap answer_of (sym first ∙ second)

pub same-one : (b : Bool) → IsOneAnswer (λ y. y ≡ b)
same-one b x y first second = first ∙ sym second

pub either-one : (P Q : Bool → Type 0) → IsOneAnswer P → IsOneAnswer Q → IsOneAnswer (AnswersEither P Q)
either-one P Q p q x y (inl a) (inl b) = a.1 ∙ sym b.1
either-one P Q p q x y (inl a) (inr b) = absurd (false≢true (p false true b.0 a.0))
either-one P Q p q x y (inr a) (inl b) = absurd (false≢true (p false true a.0 b.0))
either-one P Q p q x y (inr a) (inr b) = q x y a.1 b.1

pub both-one : (P Q : Bool → Type 0) → IsOneAnswer P → IsOneAnswer Q → IsOneAnswer (AnswersBoth P Q)
both-one P Q p q x y (inl a) (inl b) = a.1 ∙ sym b.1
both-one P Q p q x y (inl a) (inr b) = absurd (false≢true (p false true a.0 b.0))
both-one P Q p q x y (inr a) (inl b) = absurd (false≢true (p false true b.0 a.0))
both-one P Q p q x y (inr a) (inr b) = q x y a.1 b.1

pub opposite-one : (P : Bool → Type 0) → IsOneAnswer P → IsOneAnswer (AnswersOpposite P)
opposite-one P p x y a b = a.2 ∙ ap not (p a.0 b.0 a.1 b.1) ∙ sym b.2

some-same : {A : Type 0} (a b : A) → Some a ≡ Some b → a ≡ b
some-same a b same = cc

pub data-one : {N D : Type 0} (codes : Coded N × Coded D) (test : D → Bool) (v : List ℕ) (s : Values) (g : Graph) → IsOneAnswer (AnswersByData codes test v s g)
data-one codes test v s g x y a b =
    let same : a.value ≡ b.value = some-same a.value b.value (sym a.valued ∙ b.valued) in
    let has : HasData codes g a.value.0 b.datum = subst (λ (i : Applied). HasData codes g i.0 b.datum) (sym same) b.has in
    a.is ∙ ap test (one-datum codes g a.value.0 a.datum b.datum a.has has) ∙ sym b.is

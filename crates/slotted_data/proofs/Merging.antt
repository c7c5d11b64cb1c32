-- The merge of an analysis of a language is one over which the model carries data, and what is alike makes alike data.
use Rattle.std.proofs.Common.{◌≡◌, ◌≢◌, true, false, Bool, ap, refl, inl, inr}
use Rattle.std.specs.Prelude.{◌⊎◌, IsTrue}
use Rattle.std.specs.Cmp.{IsEquivalence}
use Rattle.slotted_model_analyses.specs.Analysis.{IsMerge, MakesAlike}
use Rattle.slotted_data.specs.Meaning.{Meaning, IsMergeOf, by_bare_nodes}

tested : {D : Type 0} (eq : D → D → Bool) → IsEquivalence eq → ((x y : D) → IsTrue (eq x y) → x ≡ y) → (x y : D) → (b : Bool) → eq x y ≡ b →
    (x ≡ y) ⊎ (x ≢ y)
tested eq laws same x y true e = inl (same x y e)
tested eq laws same x y false e =
    inr (λ is. let one : eq x x ≡ true = laws.refl x in let two : eq x x ≡ eq x y = ap (eq x) is in cc)

pub merge-decided : {D : Type 0} (a : Meaning D) (eq : D → D → Bool) → IsEquivalence eq → ((x y : D) → IsTrue (eq x y) → x ≡ y) → IsMergeOf a →
    IsMerge D (by_bare_nodes a)
merge-decided a eq laws same law = record {
  decided = λ x y. tested eq laws same x y (eq x y) refl;
  commutative = law.commutative;
  associative = law.associative;
  idempotent = law.idempotent;
  lowers = law.lowers;
}

pub makes-alike : {D : Type 0} (a : Meaning D) → MakesAlike (λ _. Unit {0}) D (by_bare_nodes a)
makes-alike a d e xs _ _ alike count = ap (λ b. a.make b xs) alike

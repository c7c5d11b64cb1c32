-- Instances of a pattern: the terms that stand for it, where σ gives ids to its variables.
--     IsInstance R nodes given σ ρ p t     t is an instance of p, each missing name filled by one that is not given; ρ numbers the names outside,
--                                          and the test R u r says that r represents the term u, in which something is to be replaced
--     IsAnswer R nodes given σ p a         a is the value of p if p is a variable, and else a full id whose term is an instance of p
--     HasAnswers R nodes given σ ρ p d     d has the names and binders of the arguments p, and an answer for each child pattern
use Rattle.std.specs.Prelude.{◌≡◌, ◌⊎◌, ℕ, suc, List, ◌∷◌, map, Bool, IsTrue}
use Rattle.slotted_theory.specs.Nameless.{DArgs, DTerm, stop, place, scope, extend}
use Rattle.slotted_theory.proofs.Values.{node, child_before}
use Rattle.slotted_model.specs.Applied.{Applied, renamed_id, as_term}
use Rattle.slotted_model.specs.Classes.{term_of, IsFull}
use Rattle.slotted_model.specs.Filling.{IsFilling}
use Rattle.slotted_model.specs.Ids.{term_eq}
use Rattle.slotted_model_rules.specs.Patterns.{Pattern, PatternArgs, pattern_node, variable, replacing, no_argument, own_name, child_pattern, binding}
use Rattle.slotted_model_rules.specs.Substitution.{substituted}

abbrev mutual
  -- a variable stands for the term of its value, each time with any names for those that the value lacks; what is to be replaced
  -- is replaced from the top in what represents the body
  pub IsInstance : (DTerm → DTerm → Bool) → List DTerm → List ℕ → (List ℕ → Applied) → (ℕ → ℕ) → Pattern → DTerm → Type 0
  IsInstance R nodes given σ ρ (pattern_node op payloads args) t = (a : DArgs) × (t ≡ node op payloads a) ×
      IsInstanceArgs R nodes given σ ρ args a
  IsInstance R nodes given σ ρ (variable v) t = (b : Applied) × IsFilling nodes given (renamed_id ρ (σ v)) b × (t ≡ term_of nodes b)
  IsInstance R nodes given σ ρ (replacing body part value) t =
      (u : DTerm) × (r : DTerm) × (x : DTerm) × (y : DTerm)
      × IsInstance R nodes given σ ρ body u × IsTrue (R u r) × IsInstance R nodes given σ ρ part x ×
      IsInstance R nodes given σ ρ value y × (t ≡ substituted x y r)

  -- the same names and binders, and an instance of each child pattern: under a binder the binder's place is given too
  pub IsInstanceArgs : (DTerm → DTerm → Bool) → List DTerm → List ℕ → (List ℕ → Applied) → (ℕ → ℕ) → PatternArgs → DArgs → Type 0
  IsInstanceArgs R nodes given σ ρ no_argument a = a ≡ stop
  IsInstanceArgs R nodes given σ ρ (own_name x rest) a = (r : DArgs) × (a ≡ place (ρ x) r) × IsInstanceArgs R nodes given σ ρ rest r
  IsInstanceArgs R nodes given σ ρ (child_pattern p rest) a =
      (c : DTerm) × (r : DArgs) × (a ≡ child_before c r) × IsInstance R nodes given σ ρ p c × IsInstanceArgs R nodes given σ ρ rest r
  IsInstanceArgs R nodes given σ ρ (binding x inner rest) a =
      (i : DArgs) × (r : DArgs) × (a ≡ scope i r) × IsInstanceArgs R nodes (0 ∷ map suc given) σ (extend x ρ) inner i ×
      IsInstanceArgs R nodes given σ ρ rest r

-- each term is represented by itself alone
abbrev pub is_itself : DTerm → DTerm → Bool
is_itself u r = term_eq r u

-- what stands for a pattern while an instance of it is built: its value, or a full id whose term is an instance
abbrev pub IsAnswer : (DTerm → DTerm → Bool) → List DTerm → List ℕ → (List ℕ → Applied) → Pattern → Applied → Type 0
IsAnswer R nodes given σ p a =
    ((v : List ℕ) × (p ≡ variable v) × (a ≡ σ v)) ⊎ (IsFull nodes a × IsInstance R nodes given σ (λ y. y) p (term_of nodes a))

-- the node to be added: the names and binders of the arguments, and over each child pattern its answer, for which the names of binders around it are given too
abbrev pub HasAnswers : (DTerm → DTerm → Bool) → List DTerm → List ℕ → (List ℕ → Applied) → (ℕ → ℕ) → PatternArgs → DArgs → Type 0
HasAnswers R nodes given σ ρ no_argument d = d ≡ stop
HasAnswers R nodes given σ ρ (own_name x rest) d = (r : DArgs) × (d ≡ place (ρ x) r) × HasAnswers R nodes given σ ρ rest r
HasAnswers R nodes given σ ρ (child_pattern p rest) d =
    (a : Applied) × (r : DArgs) × (d ≡ child_before (as_term (renamed_id ρ a)) r) × IsAnswer R nodes given σ p a ×
    HasAnswers R nodes given σ ρ rest r
HasAnswers R nodes given σ ρ (binding x inner rest) d =
    (i : DArgs) × (r : DArgs) × (d ≡ scope i r) × HasAnswers R nodes (x ∷ given) σ (extend x ρ) inner i ×
    HasAnswers R nodes given σ ρ rest r

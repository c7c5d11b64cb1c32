-- The proof list: what an entry keeps, and how the list changes when an equation is entered.
--     Proven              an entry
--     entries_of list     the entries of the model
--     explicit_numbers    the numbers of the explicit entries
--     Stands list s p     the statement s stands at the number p
--     Enters old new x p  the statement of x stands at p: it was there, and nothing changed, or x is new at the end
use Rattle.std.specs.Prelude.{◌≡◌, ◌⊎◌, ℕ, suc, ◌<◌, Bool, true, false, cond, List, [], ◌∷◌, ◌++◌, length, map, Option, None, option_map, string_bytes, slice_index_or}
use Rattle.slotted_slots.specs.declared.types.AppliedId.{AppliedId}
use Rattle.slotted_model.specs.Applied.{Applied}
use Rattle.slotted_model.specs.ProofList.{ProofEntry, Step, explicit, reflexive, symmetric, transitive, congruent}
use Rattle.slotted_proofs.specs.declared.equation.Equation.{Equation as Sides}
use Rattle.slotted_proofs.specs.declared.proof.Proof.{Proof}
use Rattle.slotted_proofs.specs.declared.proof.Proof.TheVariants.{Explicit, Reflexivity, Symmetry, Transitivity, Congruence}
use Rattle.slotted_proofs.specs.Equations.{Statement, to_applied, equality, statement_of, reflexive_statement, turned_statement, composite_statement}

-- a proved statement, its step, and the text of an explicit step
pub record Proven : Type 0 where
  pub statement : Statement
  pub step : Step
  pub text : Option (List ℕ)

-- an entry as the model has it
abbrev pub entry_of : Proven → ProofEntry
entry_of x = record { equation = x.statement.equation; step = x.step }

abbrev pub entries_of : List Proven → List ProofEntry
entries_of list = map entry_of list

-- the entry at a number
abbrev pub nothing_proven : Proven
nothing_proven = record { statement = record { left_slots = []; right_slots = []; equation = record { left = 0; right = 0; pairs = [] } }; step = explicit; text = None }

abbrev pub proven_at : List Proven → ℕ → Proven
proven_at list p = slice_index_or list p nothing_proven

-- what stands at a number
abbrev pub statement_at : List Proven → ℕ → Statement
statement_at list p = (proven_at list p).statement

-- the step and the text of a proof of the code
abbrev pub step_of : Proof → Step
step_of (Explicit proof) = explicit
step_of (Reflexivity proof) = reflexive
step_of (Symmetry proof) = symmetric proof.0
step_of (Transitivity proof) = transitive proof.0 proof.1
step_of (Congruence proof) = congruent proof.0.items

abbrev pub text_of : Proof → Option (List ℕ)
text_of (Explicit proof) = option_map string_bytes proof.0
text_of (Reflexivity proof) = None
text_of (Symmetry proof) = None
text_of (Transitivity proof) = None
text_of (Congruence proof) = None

-- whether a step asserts
abbrev pub is_explicit : Step → Bool
is_explicit explicit = true
is_explicit reflexive = false
is_explicit (symmetric q) = false
is_explicit (transitive q r) = false
is_explicit (congruent qs) = false

-- the numbers of the explicit entries, the first entry having the number i
abbrev pub explicit_from : ℕ → List ProofEntry → List ℕ
explicit_from i [] = []
explicit_from i (x ∷ entries) = cond (is_explicit x.step) (i ∷ explicit_from (suc i) entries) (explicit_from (suc i) entries)

-- the numbers of the explicit entries
abbrev pub explicit_numbers : List ProofEntry → List ℕ
explicit_numbers entries = explicit_from 0 entries

-- an equation of the code with its proof
abbrev pub proven_of : Sides → Proof → Proven
proven_of e proof = record { statement = statement_of e; step = step_of proof; text = text_of proof }

-- the statement stands at the number p
pub record Stands (list : List Proven) (s : Statement) (p : ℕ) : Type 0 where
  pub in_range : p < length list
  pub statement : statement_at list p ≡ s

-- it stands at no number
abbrev pub IsNew : List Proven → Statement → Type 0
IsNew list s = (p : ℕ) → ¬ Stands list s p

-- the statement was there, and nothing changed, or x was new and now stands last
abbrev pub Grows : List Proven → List Proven → Proven → ℕ → Type 0
Grows old new x p = (Stands old x.statement p × (new ≡ old)) ⊎ (IsNew old x.statement × (p ≡ length old) × (new ≡ old ++ x ∷ []))

-- the statement of x stands at the number p: it was there before, and nothing changed, or x was new and now stands last
pub record Enters (old new : List Proven) (x : Proven) (p : ℕ) : Type 0 where
  pub stands : Stands new x.statement p
  pub grows : Grows old new x p

-- an asserted equality, with its text
abbrev pub asserted_entry : Applied → Applied → Option (List ℕ) → Proven
asserted_entry a b text = record { statement = equality a b; step = explicit; text = text }

-- an asserted equality of two ids of the code
abbrev pub assertion : AppliedId → AppliedId → Option (List ℕ) → Proven
assertion l r text = asserted_entry (to_applied l) (to_applied r) text

-- the equality of two ids of the code, with its proof
abbrev pub equality_entry : AppliedId → AppliedId → Proof → Proven
equality_entry l r proof = record { statement = equality (to_applied l) (to_applied r); step = step_of proof; text = text_of proof }

-- a class with these slots equals itself
abbrev pub reflexive_entry : ℕ → List ℕ → Proven
reflexive_entry i slots = record { statement = reflexive_statement i slots; step = reflexive; text = None }

-- what stands at p turned round
abbrev pub turned_entry : List Proven → ℕ → Proven
turned_entry list p = record { statement = turned_statement (statement_at list p); step = symmetric p; text = None }

-- what stands at p, and then what stands at q
abbrev pub composite_entry : List Proven → ℕ → ℕ → Proven
composite_entry list p q = record { statement = composite_statement (statement_at list p) (statement_at list q); step = transitive p q; text = None }

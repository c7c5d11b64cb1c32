-- What rows cost, and rows that wait.
--     children_of v i         the child classes of what is filed of the class i
--     filed_cost k table v i  what it costs, if all of them have a cost
--     candidate_cmp order cmp which of two candidates comes first, the greater one
--     IsOverCheaper k table cs x  each of these classes that is in the table costs less than x
--     IsCandidateFor ..       the candidate is what is filed of a class, at the cost that it has by the table
--     Pushes form k table v i q r  from q to r what is filed of the class i waits too, if it has a cost
use Rattle.std.specs.Prelude.{◌≡◌, ◌⊎◌, ◌↔◌, ℕ, List, [], ◌∷◌, map, Contains, Option, Some, None, IsTrue, option_map}
use Rattle.std.specs.List.Sorted.{IsPermutation}
use Rattle.std.specs.Ordering.{bool_cmp, nat_cmp, ordering_then}
use Rattle.std.specs.declared.cmp.Ordering.{Ordering}
use Rattle.slotted_nodes.specs.Form.{Form}
use Rattle.slotted_languages.specs.NodeTerm.{nameless_node}
use Rattle.slotted_model.specs.Cost.{AtMost, CostFunction}
use Rattle.slotted_model.specs.Extraction.{TableEntry, cost_in, costs_in}
use Rattle.slotted_hashcons.specs.Filed.{Filing, HasKey, filed_of}
use Rattle.slotted_hashcons.specs.FiledRows.{key_children}
use Rattle.slotted_costs.specs.declared.candidate.Candidate.{Candidate}

abbrev pub filing_children : Option Filing → List ℕ
filing_children None = []
filing_children (Some e) = key_children e.0

abbrev pub children_of : List (Option Filing) → ℕ → List ℕ
children_of v i = filing_children (filed_of v i)

abbrev pub filing_cost : {C : Type 0} → CostFunction C → List (TableEntry C) → Option Filing → Option C
filing_cost k table None = None
filing_cost k table (Some e) = option_map (k.node_cost (nameless_node e.0)) (costs_in table (key_children e.0))

abbrev pub filed_cost : {C : Type 0} → CostFunction C → List (TableEntry C) → List (Option Filing) → ℕ → Option C
filed_cost k table v i = filing_cost k table (filed_of v i)

-- the cheaper one; of two that cost the same one over cheaper children alone; of two such ones that with the lesser key
abbrev pub candidate_cmp : {L C : Type 0} → (L → L → Ordering) → (C → C → Ordering) → Candidate L C → Candidate L C → Ordering
candidate_cmp order cmp a b =
    ordering_then (cmp b.cost.0 a.cost.0)
    (ordering_then (bool_cmp a.over_cheaper b.over_cheaper) (ordering_then (order b.key.0.now a.key.0.now) (nat_cmp b.source.0 a.source.0)))

-- a candidate as its source and its cost
abbrev pub pair_of : {L C : Type 0} → Candidate L C → ℕ × C
pair_of c = (c.source.0, c.cost.0)

abbrev pub pairs_of : {L C : Type 0} → List (Candidate L C) → List (ℕ × C)
pairs_of cs = map pair_of cs

-- each of these classes that is in the table costs less than x
abbrev pub IsOverCheaper : {C : Type 0} → CostFunction C → List (TableEntry C) → List ℕ → C → Type 0
IsOverCheaper {C} k table cs x = (c : ℕ) → Contains cs c → (y : C) → cost_in table c ≡ Some y → ¬ AtMost k x y

pub record IsCandidateFor {L C : Type 0} (form : L → Form) (k : CostFunction C) (table : List (TableEntry C)) (v : List (Option Filing)) (i : ℕ) (c : Candidate L C) : Type 0 where
  pub source : c.source.0 ≡ i
  pub key : HasKey v i (form c.key.0.now)
  pub cost : filed_cost k table v i ≡ Some c.cost.0
  pub cheaper : IsTrue c.over_cheaper ↔ IsOverCheaper k table (children_of v i) c.cost.0

-- the candidate that was pushed
pub record PushesOne {L C : Type 0} (form : L → Form) (k : CostFunction C) (table : List (TableEntry C)) (v : List (Option Filing)) (i : ℕ) (q r : List (Candidate L C)) : Type 0 where
  pub next : Candidate L C
  pub is : IsCandidateFor form k table v i next
  pub queue : IsPermutation (next ∷ q) r

abbrev pub Pushes : {L C : Type 0} → (L → Form) → CostFunction C → List (TableEntry C) → List (Option Filing) → ℕ → List (Candidate L C) → List (Candidate L C) → Type 0
Pushes form k table v i q r = ((filed_cost k table v i ≡ None) × (r ≡ q)) ⊎ PushesOne form k table v i q r

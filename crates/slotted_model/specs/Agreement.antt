-- Two graphs of the same terms, whose classes may have been made with other nodes: which ids correspond, and in what the graphs agree.
--     Knows h g            what g asserts is derivable from what h asserts
--     Correspond g h a b   a and b are full ids of g and of h with equal terms
--     HasTermsOf h g       each live class of g has an id that corresponds to one of h
--     Agree g h            both call the same ids and trees equal, under the same names, and have as many live classes and slots
use Rattle.std.specs.Prelude.{◌≡◌, ◌↔◌, ℕ, ◌<◌, length, Contains, Some}
use Rattle.slotted_theory.specs.Nameless.{DTerm}
use Rattle.slotted_theory.specs.Derives.{Equal}
use Rattle.slotted_model.specs.Applied.{Applied}
use Rattle.slotted_model.specs.Classes.{term_of, IsFull}
use Rattle.slotted_model.specs.Find.{IsLive, find_class, find}
use Rattle.slotted_model.specs.ProofList.{asserted}
use Rattle.slotted_model.specs.State.{State, look_up_tree}
use Rattle.slotted_model.specs.Rest.{id_names, lives_from, slots_from}
use Rattle.slotted_model.specs.Trees.{IsTree}

-- what g asserts is derivable from what h asserts
abbrev pub Knows : State → State → Type 0
Knows h g = (d e : DTerm) → Contains (asserted g.nodes g.proofs) (d, e) → Equal (asserted h.nodes h.proofs) d e

-- full ids of g and of h whose terms are equal by what h asserts
pub record Correspond (g h : State) (a b : Applied) : Type 0 where
  pub left_full : IsFull g.nodes a
  pub right_full : IsFull h.nodes b
  pub equal : Equal (asserted h.nodes h.proofs) (term_of g.nodes a) (term_of h.nodes b)

-- each live class of g has an id that corresponds to one of h
abbrev pub HasTermsOf : State → State → Type 0
HasTermsOf h g = (i : ℕ) → i < length g.nodes → IsLive g.found i → (a : Applied) × (b : Applied) × (a.0 ≡ i) × Correspond g h a b

-- in what graphs of the same terms agree
pub record Agree (g h : State) : Type 0 where
  -- each full id of either graph corresponds to one of the other
  pub there : (a : Applied) → IsFull g.nodes a → (b : Applied) × Correspond g h a b
  pub back : (b : Applied) → IsFull h.nodes b → (a : Applied) × Correspond g h a b
  -- ids find alike exactly if those that correspond to them do
  pub alike : (a b x y : Applied) → Correspond g h a b → Correspond g h x y →
      (find g.found a ≡ find g.found x) ↔ (find h.found b ≡ find h.found y)
  -- and so they find one class
  pub classes : (a b x y : Applied) → Correspond g h a b → Correspond g h x y →
      (find_class g.found a.0 ≡ find_class g.found x.0) ↔ (find_class h.found b.0 ≡ find_class h.found y.0)
  -- an id finds the names that one that corresponds to it finds
  pub names : (a b : Applied) → Correspond g h a b → id_names (find g.found a) ≡ id_names (find h.found b)
  -- the same trees are looked up
  pub trees : (t : DTerm) → IsTree t →
      ((x : Applied) × (look_up_tree g t ≡ Some x)) ↔ ((y : Applied) × (look_up_tree h t ≡ Some y))
  -- and the same ones alike
  pub answers : (t u : DTerm) → IsTree t → IsTree u → (x : Applied) → look_up_tree g t ≡ Some x →
      (look_up_tree g t ≡ look_up_tree g u) ↔ (look_up_tree h t ≡ look_up_tree h u)
  -- a tree is looked up as what an id finds exactly if it is looked up as what an id finds that corresponds to it
  pub looked_up : (a b : Applied) → Correspond g h a b → (t : DTerm) → IsTree t →
      (look_up_tree g t ≡ Some (find g.found a)) ↔ (look_up_tree h t ≡ Some (find h.found b))
  -- as many classes live, with as many slots
  pub lives : lives_from 0 g.found ≡ lives_from 0 h.found
  pub slots : slots_from 0 g.found ≡ slots_from 0 h.found

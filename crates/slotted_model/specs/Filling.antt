-- Applied ids that lack names: which are valid, and the full ids that complete them.
use Rattle.std.specs.Prelude.{◌≡◌, ℕ, suc, ◌<◌, List, ◌∷◌, length, map, Contains}
use Rattle.slotted_theory.specs.Nameless.{DArgs, DTerm, stop, place, sub, scope}
use Rattle.slotted_theory.specs.Renaming.{Bijection}
use Rattle.slotted_theory.specs.FiniteMaps.{IsInjectiveMap}
use Rattle.slotted_theory.proofs.Values.{child_before}
use Rattle.slotted_model.specs.Ascending.{IsAscending}
use Rattle.slotted_model.specs.Applied.{Applied, keys, values, renamed_id, as_term, applied_of}
use Rattle.slotted_model.specs.Classes.{canonical_slots, term_of, IsFull}

-- a class of the graph, with different names for all its slots, and perhaps for more of its canonical slots
pub record IsValid (slots : ℕ → List ℕ) (nodes : List DTerm) (a : Applied) : Type 0 where
  pub in_range : a.0 < length nodes
  pub ascending : IsAscending (keys a.1)
  pub injective : IsInjectiveMap a.1
  pub has_slots : (s : ℕ) → Contains (slots a.0) s → Contains (keys a.1) s
  pub within : (s : ℕ) → Contains (keys a.1) s → Contains (canonical_slots nodes a.0) s

-- b is a with its missing names: different ones, and none of those given
pub record IsFilling (nodes : List DTerm) (given : List ℕ) (a b : Applied) : Type 0 where
  pub class : b.0 ≡ a.0
  pub full : IsFull nodes b
  pub keeps : (s x : ℕ) → Contains a.1 (s, x) → Contains b.1 (s, x)
  pub fresh : (s x : ℕ) → Contains b.1 (s, x) → ¬ Contains (keys a.1) s → ¬ Contains given x

-- a and b, filled by names that the other has not, have one canonical term
pub record EqualForSomeFilling (nodes : List DTerm) (a b : Applied) : Type 0 where
  pub left : Applied
  pub right : Applied
  pub left_fills : IsFilling nodes (values b.1) a left
  pub right_fills : IsFilling nodes (values left.1) b right
  pub equal : term_of nodes left ≡ term_of nodes right

-- the same for each choice of such names
abbrev pub EqualForEveryFilling : List DTerm → Applied → Applied → Type 0
EqualForEveryFilling nodes a b = (left right : Applied) → IsFilling nodes (values b.1) a left →
    IsFilling nodes (values left.1) b right → term_of nodes left ≡ term_of nodes right

-- b becomes c by a bijection of names that leaves the names of a and those given
pub record RenamedFilling (given : List ℕ) (a b c : Applied) : Type 0 where
  pub bijection : Bijection
  pub leaves_given : (x : ℕ) → Contains given x → bijection.to x ≡ x
  pub leaves_names : (x : ℕ) → Contains (values a.1) x → bijection.to x ≡ x
  pub renames : renamed_id bijection.to b ≡ c

-- one bijection of names takes b to c and d to e
pub record RenamedTogether (b c d e : Applied) : Type 0 where
  pub bijection : Bijection
  pub renames_left : renamed_id bijection.to b ≡ c
  pub renames_right : renamed_id bijection.to d ≡ e

-- the second arguments are the first with each child filled by names that are not given, and that are no binder's: one binder in, the
-- names outside are one more, and 0 is the binder
abbrev pub FillsArgs : List DTerm → List ℕ → DArgs → DArgs → Type 0
FillsArgs nodes given stop e = e ≡ stop
FillsArgs nodes given (place x rest) e = (r : DArgs) × (e ≡ place x r) × FillsArgs nodes given rest r
FillsArgs nodes given (sub op payloads args rest) e =
    (b : Applied) × (r : DArgs) × (e ≡ child_before (as_term b) r) × IsFilling nodes given (applied_of payloads args) b ×
    FillsArgs nodes given rest r
FillsArgs nodes given (scope inner rest) e =
    (i : DArgs) × (r : DArgs) × (e ≡ scope i r) × FillsArgs nodes (0 ∷ map suc given) inner i × FillsArgs nodes given rest r

-- e is the node d with each child filled
pub record FillsNode (nodes : List DTerm) (given : List ℕ) (d e : DTerm) : Type 0 where
  pub operator : e.op ≡ d.op
  pub payloads : e.payloads ≡ d.payloads
  pub children : FillsArgs nodes given d.args e.args

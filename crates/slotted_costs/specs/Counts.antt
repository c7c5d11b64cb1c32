-- Which rows stand over a class, and how many child classes of a row have no cost yet.
--     times x xs            how often x stands in the list
--     missing table cs      how many of the classes have no cost in the table
--     AreUsers v us         us has for each class each source over it, as often as the class is a child
--     AreCounts v ns        ns has for each source how many children its filed node has
--     unpriced ns           how many of the counts are not 0
use Rattle.std.specs.Prelude.{◌≡◌, ℕ, zero, suc, ◌+◌, ◌<◌, List, [], ◌∷◌, length, Option, Some, None, Bool, true, false, nat_eq, slice_index_or}
use Rattle.slotted_nodes.specs.Form.{Form}
use Rattle.slotted_model.specs.Extraction.{TableEntry, cost_in}
use Rattle.slotted_hashcons.specs.Filed.{Filing, filed_of}
use Rattle.slotted_costs.specs.Prices.{children_of}

abbrev pub one_if : Bool → ℕ
one_if true = 1
one_if false = 0

abbrev pub only_if : Bool → ℕ → ℕ
only_if true n = n
only_if false n = 0

abbrev pub times : ℕ → List ℕ → ℕ
times x [] = 0
times x (y ∷ ys) = one_if (nat_eq y x) + times x ys

abbrev pub lacks : {C : Type 0} → Option C → ℕ
lacks None = 1
lacks (Some x) = 0

abbrev pub missing : {C : Type 0} → List (TableEntry C) → List ℕ → ℕ
missing table [] = 0
missing table (c ∷ cs) = lacks (cost_in table c) + missing table cs

-- from us to vs the source stands over each of these classes once more for each time that it is listed
pub record UsesMore (cs : List ℕ) (source : ℕ) (us vs : List (List ℕ)) : Type 0 where
  pub lists : length vs ≡ length us
  pub each : (c s : ℕ) → c < length us →
      times s (slice_index_or vs c []) ≡ times s (slice_index_or us c []) + only_if (nat_eq source s) (times c cs)

pub record AreUsers (v : List (Option Filing)) (users : List (List ℕ)) : Type 0 where
  pub lists : length users ≡ length v
  pub each : (c s : ℕ) → c < length v → times s (slice_index_or users c []) ≡ times c (children_of v s)

pub record AreCounts (v : List (Option Filing)) (counts : List ℕ) : Type 0 where
  pub lists : length counts ≡ length v
  pub each : (i : ℕ) → slice_index_or counts i 0 ≡ length (children_of v i)

-- each filed key is a node of the language
abbrev pub IsKeyOf : {L : Type 0} → (L → Form) → Option Filing → Type 0
IsKeyOf {L} form o = (e : Filing) → o ≡ Some e → (n : L) × (form n ≡ e.0)

abbrev pub AreKeysOf : {L : Type 0} → (L → Form) → List (Option Filing) → Type 0
AreKeysOf form v = (i : ℕ) → IsKeyOf form (filed_of v i)

abbrev pub one_if_any : ℕ → ℕ
one_if_any zero = 0
one_if_any (suc n) = 1

abbrev pub unpriced : List ℕ → ℕ
unpriced [] = 0
unpriced (n ∷ ns) = one_if_any n + unpriced ns

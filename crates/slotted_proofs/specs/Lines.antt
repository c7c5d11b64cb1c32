-- The order of lines in which a proof is printed: each entry that it stands on once, parts first, depth first.
use Rattle.std.specs.Prelude.{◌≡◌, ℕ, ◌<◌, List, [], ◌∷◌, ◌++◌, length, All, Option, Some, None, IfSome, IfNone, Bool, true, false, cond, nat_eq}
use Rattle.std.specs.List.{list_any}
use Rattle.slotted_model.specs.Leaves.{parts_of}
use Rattle.slotted_proofs.specs.Entries.{Proven, proven_at}

-- the entries that the step of an entry names, in its order
abbrev pub parts_at : List Proven → ℕ → List ℕ
parts_at list p = parts_of (proven_at list p).step

-- each part stands at an earlier number
abbrev pub PartsAreEarlier : List Proven → Type 0
PartsAreEarlier list = (p : ℕ) → p < length list → All (λ q. q < p) (parts_at list p)

-- whether an entry has a line
abbrev pub has_line : List ℕ → ℕ → Bool
has_line lines p = list_any (nat_eq p) lines

-- from the lines so far to those after some entries got theirs in turn: an entry that has a line is passed over, and any other
-- gets the next line after its parts
pub data Lines (list : List Proven) : List ℕ → List ℕ → List ℕ → Type 0 where
  all : {lines : List ℕ} → Lines list lines [] lines
  passed : {lines ps end : List ℕ} {p : ℕ} → has_line lines p ≡ true → Lines list lines ps end → Lines list lines (p ∷ ps) end
  next : {lines before ps end : List ℕ} {p : ℕ} → has_line lines p ≡ false → Lines list lines (parts_at list p) before →
      Lines list (before ++ p ∷ []) ps end → Lines list lines (p ∷ ps) end

-- the first of some entries that has no line
abbrev pub first_new : List ℕ → List ℕ → Option ℕ
first_new lines [] = None
first_new lines (p ∷ ps) = cond (has_line lines p) (first_new lines ps) (Some p)

-- a turn of the entry from the top of a stack: if a part of it has no line, it goes back on the stack, and the first such part above
-- it; else it gets the next line
pub record TakesTurn (list : List Proven) (top : ℕ) (lines lines' stack stack' : List ℕ) : Type 0 where
  pub part : IfSome (first_new lines (parts_at list top)) (λ q. (lines' ≡ lines) × (stack' ≡ stack ++ top ∷ q ∷ []))
  pub line : IfNone (first_new lines (parts_at list top)) ((lines' ≡ lines ++ top ∷ []) × (stack' ≡ stack))

-- The look-up of a tree from the bottom up, where `look` answers for a node over applied ids.
use Rattle.std.specs.Prelude.{◌≡◌, ℕ, Option, Some, None, option_map, option_and_then}
use Rattle.slotted_theory.specs.Nameless.{DArgs, DTerm, stop, place, sub, scope, moved}
use Rattle.slotted_theory.specs.Renaming.{IsInjective}
use Rattle.slotted_theory.proofs.Values.{node, child_before}
use Rattle.slotted_model.specs.Applied.{Applied, renamed_id, as_term}

-- both values, if both are there
abbrev pub both : {A B C : Type 0} → (A → B → C) → Option A → Option B → Option C
both f None y = None
both f (Some x) None = None
both f (Some x) (Some y) = Some (f x y)

-- the arguments with the answer for each child, from the left
abbrev pub look_up_args : (DTerm → Option Applied) → DArgs → Option DArgs
look_up_args look stop = Some stop
look_up_args look (place x rest) = option_map (place x) (look_up_args look rest)
look_up_args look (sub op payloads args rest) =
    both (λ a found. child_before (as_term a) found) (option_and_then (λ found. look (node op payloads found)) (look_up_args look args)) (look_up_args look rest)
look_up_args look (scope inner rest) = both scope (look_up_args look inner) (look_up_args look rest)

-- the children, and then the node over the answers
abbrev pub look_up : (DTerm → Option Applied) → DTerm → Option Applied
look_up look t = option_and_then (λ found. look (node t.op t.payloads found)) (look_up_args look t.args)

-- an answer as a term, or d where there is none
abbrev pub answer_or : Option Applied → DTerm → DTerm
answer_or None d = d
answer_or (Some a) d = as_term a

-- the answer for a node as a term, or else the node itself: over it each tree has a value
abbrev pub found_or : (DTerm → Option Applied) → DTerm → DTerm
found_or look d = answer_or (look d) d

-- the answers for nodes are renamed with the nodes
abbrev pub Renames : (DTerm → Option Applied) → Type 0
Renames look = (f : ℕ → ℕ) → IsInjective f → (d : DTerm) → look (moved f d) ≡ option_map (renamed_id f) (look d)

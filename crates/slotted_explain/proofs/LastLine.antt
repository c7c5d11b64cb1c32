-- Each printed proof ends in a line feed: its last line is that of the entry itself.
use Rattle.std.proofs.Common.{◌≡◌, ◌∙◌, ℕ, suc, List, [], ◌∷◌, ◌++◌, length, refl, ap, sym, subst, append_assoc, arith}
use Rattle.std.specs.Prelude.{codes, decimal}
use Rattle.std.proofs.lemmas.Bool.{false≢true}
use Rattle.std.proofs.lemmas.List.{length-append}
use Rattle.slotted_theory.specs.Term.{Term}
use Rattle.slotted_slots.specs.Syntax.{Element}
use Rattle.slotted_proofs.specs.Entries.{Proven}
use Rattle.slotted_proofs.specs.Lines.{Lines, passed, next, all}
use Rattle.slotted_graph.specs.Graph.{Graph}
use Rattle.slotted_explain.specs.Printed.{IsLine, ArePrinted, IsProofText}

-- the text ends in a line feed
abbrev pub EndsInLineFeed : List ℕ → Type 0
EndsInLineFeed bs = (xs : List ℕ) × (bs ≡ xs ++ 10 ∷ [])

behind : (front bs : List ℕ) → EndsInLineFeed bs → EndsInLineFeed (front ++ bs)
behind front bs e = (front ++ e.0, ap (λ r. front ++ r) e.1 ∙ sym (append_assoc front e.0 (10 ∷ [])))

line_ends : (written : Term → List Element) (g h : Graph) (lines : List ℕ) (i p : ℕ) (bs : List ℕ) → IsLine written g h lines i p bs → EndsInLineFeed bs
line_ends written g h lines i p bs l =
    subst EndsInLineFeed (sym l.bytes) (behind (decimal i) _ (behind (codes ": ") _ (behind l.sides _ (behind (codes " by ") _ (l.reason, refl)))))

-- the entry has the last line
has_last_line : (list : List Proven) (p : ℕ) (lines : List ℕ) → Lines list [] (p ∷ []) lines → (before : List ℕ) × (lines ≡ before ++ p ∷ [])
has_last_line list p lines (passed was rest) = absurd (false≢true was)
has_last_line list p lines (next {before} was parts all) = (before, refl)

printed_ends : (written : Term → List Element) (g h : Graph) (lines : List ℕ) (n : ℕ) (bs : List ℕ) → ArePrinted written g h lines (suc n) bs → EndsInLineFeed bs
printed_ends written g h lines n bs (before, line, so_far, is_line, is) = subst EndsInLineFeed (sym is) (behind before line (line_ends written g h lines n _ line is_line))

pub proof_ends : (written : Term → List Element) (g h : Graph) (p : ℕ) (bs : List ℕ) → IsProofText written g h p bs → EndsInLineFeed bs
proof_ends written g h p bs s =
    let last = has_last_line g.image.stored p s.lines s.order in
    let count : length s.lines ≡ suc (length last.0) = omega (arith, ap length last.1, length-append last.0 (p ∷ [])) in
    printed_ends written g h s.lines (length last.0) bs (subst (λ n. ArePrinted written g h s.lines n bs) count s.printed)

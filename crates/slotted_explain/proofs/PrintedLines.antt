-- The lines of a proof, one after another.
use Rattle.std.proofs.Common.{◌≡◌, ◌<◌, ◌+◌, ◌∙◌, ℕ, zero, suc, List, ◌++◌, length, Some, None, slice_get, ap, sym, subst, arith}
use Rattle.std.specs.Prelude.{slice_index_or, IfSome}
use Rattle.std.proofs.lemmas.Option.{slice_get-get_or}
use Rattle.slotted_theory.specs.Term.{Term}
use Rattle.slotted_slots.specs.Syntax.{Element}
use Rattle.slotted_model.specs.Applied.{Applied}
use Rattle.slotted_model.specs.Classes.{term_of}
use Rattle.slotted_proofs.specs.Equations.{AreSides}
use Rattle.slotted_proofs.specs.Reasons.{reason_text}
use Rattle.slotted_proofs.specs.Entries.{proven_at, statement_at}
use Rattle.slotted_graph.specs.Image.{Image}
use Rattle.slotted_slots.specs.Table.{KnowsMore}
use Rattle.slotted_graph.specs.Graph.{Graph, OnlyTakesSlots}
use Rattle.slotted_graph.proofs.CallerLemmas.{term_later}
use Rattle.slotted_explain.specs.Printed.{IsSideText, IsSidesText, IsLine, ArePrinted}

-- the entry of a line
pub at_line : (lines : List ℕ) (i p : ℕ) → i < length lines → slice_get lines i ≡ Some p → slice_index_or lines i 0 ≡ p
at_line lines i p lt found = let e : Some (slice_index_or lines i 0) ≡ Some p = sym (slice_get-get_or lines i 0 lt) ∙ found in cc

-- no line is missing
pub none_there : (lines : List ℕ) (i : ℕ) → i < length lines → slice_get lines i ≡ None → ⊥
none_there lines i lt absent = let e : Some (slice_index_or lines i 0) ≡ None = sym (slice_get-get_or lines i 0 lt) ∙ absent in cc

-- what is printed over a graph that made slots since, and what is left when more were made
module _ (written : Term → List Element) (g h : Graph) (same : OnlyTakesSlots g h) (l : Graph) where
  side_in : (a : Applied) (bs : List ℕ) → IsSideText written h l a bs → IsSideText written g l a bs
  side_in a bs s = record {
    term = s.term;
    table = s.table;
    is = s.is ∙ ap (λ (x : Image). term_of x.canonical a) same.reads.image;
    known = s.known;
    names = s.names ∙ same.names;
    bytes = s.bytes;
  }

  sides_in : (p : ℕ) (bs : List ℕ) → IsSidesText written h l p bs → IsSidesText written g l p bs
  sides_in p bs x = record {
    left = x.left;
    right = x.right;
    sides = subst (λ (m : Image). AreSides (statement_at m.stored p) x.left x.right) same.reads.image x.sides;
    left_text = x.left_text;
    right_text = x.right_text;
    left_is = side_in x.left x.left_text x.left_is;
    right_is = side_in x.right x.right_text x.right_is;
    bytes = x.bytes;
  }

  pub line_in : (lines : List ℕ) (i p : ℕ) (bs : List ℕ) → IsLine written h l lines i p bs → IsLine written g l lines i p bs
  line_in lines i p bs x = record {
    sides = x.sides;
    sides_are = sides_in p x.sides x.sides_are;
    reason = x.reason;
    reason_is = subst (λ (m : Image). IfSome (reason_text lines (proven_at m.stored p).step (proven_at m.stored p).text) (λ r. x.reason ≡ r)) same.reads.image x.reason_is;
    bytes = x.bytes;
  }

module _ (written : Term → List Element) (g h l : Graph) (more : KnowsMore h.table l.table) where
  pub side_later : (a : Applied) (bs : List ℕ) → IsSideText written g h a bs → IsSideText written g l a bs
  side_later a bs s = record { term = s.term; table = s.table; is = s.is; known = term_later h.table l.table more s.term s.known; names = s.names; bytes = s.bytes }

  sides_later : (p : ℕ) (bs : List ℕ) → IsSidesText written g h p bs → IsSidesText written g l p bs
  sides_later p bs x = record {
    left = x.left;
    right = x.right;
    sides = x.sides;
    left_text = x.left_text;
    right_text = x.right_text;
    left_is = side_later x.left x.left_text x.left_is;
    right_is = side_later x.right x.right_text x.right_is;
    bytes = x.bytes;
  }

  line_later : (lines : List ℕ) (i p : ℕ) (bs : List ℕ) → IsLine written g h lines i p bs → IsLine written g l lines i p bs
  line_later lines i p bs x = record {
    sides = x.sides;
    sides_are = sides_later p x.sides x.sides_are;
    reason = x.reason;
    reason_is = x.reason_is;
    bytes = x.bytes;
  }

  pub printed_later : (lines : List ℕ) (n : ℕ) (bs : List ℕ) → ArePrinted written g h lines n bs → ArePrinted written g l lines n bs
  printed_later lines zero bs x = x
  printed_later lines (suc n) bs x = (x.0, x.1, printed_later lines n x.0 x.2, line_later lines n (slice_index_or lines n 0) x.1 x.3, x.4)

-- one line more
pub one_more : (written : Term → List Element) (g h : Graph) (lines : List ℕ) (i p : ℕ) (before line after : List ℕ) → slice_index_or lines i 0 ≡ p → ArePrinted written g h lines i before → IsLine written g h lines i p line → after ≡ before ++ line → ArePrinted written g h lines (i + 1) after
one_more written g h lines i p before line after is so_far one all =
    let next : suc i ≡ i + 1 = omega arith in
    subst (λ n. ArePrinted written g h lines n after) next (before, line, so_far, subst (λ q. IsLine written g h lines i q line) (sym is) one, all)

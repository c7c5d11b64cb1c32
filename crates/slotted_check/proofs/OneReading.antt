-- A row is the row of one term, and what stands behind it is the same however it is read.
use Rattle.std.proofs.Common.{◌≡◌, ℕ, List, [], ◌∷◌, ◌++◌, sym, ◌∙◌, ap, refl, append_assoc, arith}
use Rattle.slotted_theory.specs.Nameless.{DArgs, DTerm, stop, place, sub, scope}
use Rattle.slotted_theory.proofs.Values.{node}
use Rattle.slotted_check.specs.declared.pieces.Piece.{Piece}
use Rattle.slotted_check.specs.declared.pieces.Piece.TheVariants.{Head, Name, Scope, Leave, Close}
use Rattle.slotted_check.specs.Rows.{End, closing, leaving, end_piece, row_args, row, ArePlain, IsPlain}

-- two numbers are one
abbrev pub AreOne : ℕ → ℕ → Type 0
AreOne n m = n ≡ m

-- pieces and rows as numbers that tell them apart
abbrev pub kind : Piece → ℕ
kind (Head n) = 0
kind (Name x) = 1
kind Scope = 2
kind Leave = 3
kind Close = 3

abbrev pub first_kind : List Piece → ℕ
first_kind [] = 4
first_kind (p ∷ ps) = kind p

abbrev pub number : Piece → ℕ
number (Head n) = n
number (Name x) = x
number Scope = 0
number Leave = 0
number Close = 0

abbrev pub first_number : List Piece → ℕ
first_number [] = 0
first_number (p ∷ ps) = number p

abbrev pub rest_of : List Piece → List Piece
rest_of [] = []
rest_of (p ∷ ps) = ps

pub end-kind : (e : End) → kind (end_piece e) ≡ 3
end-kind closing = refl
end-kind leaving = refl

pub one_reading : (e : End) (a b : DArgs) (u v : List Piece) → ArePlain a → ArePlain b → row_args e a ++ u ≡ row_args e b ++ v → (a ≡ b) × (u ≡ v)
one_reading e stop stop u v p q h = (refl, ap rest_of h)
one_reading e stop (place y s) u v p q h = let k : AreOne 3 1 = sym (end-kind e) ∙ ap first_kind h in absurd (omega arith)
one_reading e stop (sub o l c s) u v p q h = let k : AreOne 3 0 = sym (end-kind e) ∙ ap first_kind h in absurd (omega arith)
one_reading e stop (scope i s) u v p q h = let k : AreOne 3 2 = sym (end-kind e) ∙ ap first_kind h in absurd (omega arith)
one_reading e (place x r) stop u v p q h = let k : AreOne 1 3 = ap first_kind h ∙ end-kind e in absurd (omega arith)
one_reading e (place x r) (place y s) u v p q h =
    let t = one_reading e r s u v p q (ap rest_of h) in
    (λ i. place (ap first_number h i) (t.0 i), t.1)
one_reading e (place x r) (sub o l c s) u v p q h = let k : AreOne 1 0 = ap first_kind h in absurd (omega arith)
one_reading e (place x r) (scope i s) u v p q h = let k : AreOne 1 2 = ap first_kind h in absurd (omega arith)
one_reading e (sub n m b r) stop u v p q h = let k : AreOne 0 3 = ap first_kind h ∙ end-kind e in absurd (omega arith)
one_reading e (sub n m b r) (place y s) u v p q h = let k : AreOne 0 1 = ap first_kind h in absurd (omega arith)
one_reading e (sub n m b r) (sub o l c s) u v p q h =
    let t : row_args closing b ++ (row_args e r ++ u) ≡ row_args closing c ++ (row_args e s ++ v) =
    sym (append_assoc (row_args closing b) (row_args e r) u) ∙ (ap rest_of h ∙ append_assoc (row_args closing c) (row_args e s) v) in
    let f = one_reading closing b c (row_args e r ++ u) (row_args e s ++ v) p.1 q.1 t in
    let g = one_reading e r s u v p.2 q.2 f.1 in
    let same : m ≡ l = p.0 ∙ sym q.0 in
    (λ i. sub (ap first_number h i) (same i) (f.0 i) (g.0 i), g.1)
one_reading e (sub n m b r) (scope i s) u v p q h = let k : AreOne 0 2 = ap first_kind h in absurd (omega arith)
one_reading e (scope b r) stop u v p q h = let k : AreOne 2 3 = ap first_kind h ∙ end-kind e in absurd (omega arith)
one_reading e (scope b r) (place y s) u v p q h = let k : AreOne 2 1 = ap first_kind h in absurd (omega arith)
one_reading e (scope b r) (sub o l c s) u v p q h = let k : AreOne 2 0 = ap first_kind h in absurd (omega arith)
one_reading e (scope b r) (scope c s) u v p q h =
    let t : row_args leaving b ++ (row_args e r ++ u) ≡ row_args leaving c ++ (row_args e s ++ v) =
    sym (append_assoc (row_args leaving b) (row_args e r) u) ∙ (ap rest_of h ∙ append_assoc (row_args leaving c) (row_args e s) v) in
    let f = one_reading leaving b c (row_args e r ++ u) (row_args e s ++ v) p.0 q.0 t in
    let g = one_reading e r s u v p.1 q.1 f.1 in
    (λ i. scope (f.0 i) (g.0 i), g.1)

-- the same of whole terms
pub one_term : (d e : DTerm) (u v : List Piece) → IsPlain d → IsPlain e → row d ++ u ≡ row e ++ v → (d ≡ e) × (u ≡ v)
one_term d e u v p q h =
    let t = one_reading closing d.args e.args u v p.1 q.1 (ap rest_of h) in
    let l : d.payloads ≡ e.payloads = p.0 ∙ sym q.0 in
    (λ i. node (ap first_number h i) (l i) (t.0 i), t.1)

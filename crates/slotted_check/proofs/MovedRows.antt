-- The row of a moved term is the moved row.
use Rattle.std.proofs.Common.{◌≡◌, ℕ, List, ◌∷◌, ◌++◌, sym, ◌∙◌, ap, refl, append_assoc}
use Rattle.slotted_theory.specs.Nameless.{DArgs, DTerm, stop, place, sub, scope, lift, moved, moved_args}
use Rattle.slotted_check.specs.declared.pieces.Piece.{Piece}
use Rattle.slotted_check.specs.declared.pieces.Piece.TheVariants.{Head, Name, Scope}
use Rattle.slotted_check.specs.Rows.{End, closing, leaving, end_piece, row_args, row, behind, moved_row, ArePlain, IsPlain}

pub moved_row-args : (f : ℕ → ℕ) (e : End) (a : DArgs) (u : List Piece) →
    moved_row f (row_args e a ++ u) ≡ row_args e (moved_args f a) ++ moved_row (behind (end_piece e) f) u
moved_row-args f closing stop u = refl
moved_row-args f leaving stop u = refl
moved_row-args f e (place x rest) u = ap (λ ps. Name (f x) ∷ ps) (moved_row-args f e rest u)
moved_row-args f e (sub op payloads args rest) u =
    ap (λ ps. Head op ∷ ps) (
    ap (moved_row f) (append_assoc (row_args closing args) (row_args e rest) u)
    ∙ (moved_row-args f closing args (row_args e rest ++ u)
    ∙ (ap (λ ps. row_args closing (moved_args f args) ++ ps) (moved_row-args f e rest u)
    ∙ sym (append_assoc (row_args closing (moved_args f args)) (row_args e (moved_args f rest)) (moved_row (behind (end_piece e) f) u)))))
moved_row-args f e (scope inner rest) u =
    ap (λ ps. Scope ∷ ps) (
    ap (moved_row (lift f)) (append_assoc (row_args leaving inner) (row_args e rest) u)
    ∙ (moved_row-args (lift f) leaving inner (row_args e rest ++ u)
    ∙ (ap (λ ps. row_args leaving (moved_args (lift f) inner) ++ ps) (moved_row-args f e rest u)
    ∙ sym (append_assoc (row_args leaving (moved_args (lift f) inner)) (row_args e (moved_args f rest)) (moved_row (behind (end_piece e) f) u)))))

pub moved_row-row : (f : ℕ → ℕ) (d : DTerm) (u : List Piece) → moved_row f (row d ++ u) ≡ row (moved f d) ++ moved_row f u
moved_row-row f d u = ap (λ ps. Head d.op ∷ ps) (moved_row-args f closing d.args u)

pub ArePlain-moved : (f : ℕ → ℕ) (a : DArgs) → ArePlain a → ArePlain (moved_args f a)
ArePlain-moved f stop p = tt
ArePlain-moved f (place x rest) p = ArePlain-moved f rest p
ArePlain-moved f (sub op payloads args rest) p = (p.0, ArePlain-moved f args p.1, ArePlain-moved f rest p.2)
ArePlain-moved f (scope inner rest) p = (ArePlain-moved (lift f) inner p.0, ArePlain-moved f rest p.1)

pub IsPlain-moved : (f : ℕ → ℕ) (d : DTerm) → IsPlain d → IsPlain (moved f d)
IsPlain-moved f d p = (p.0, ArePlain-moved f d.args p.1)

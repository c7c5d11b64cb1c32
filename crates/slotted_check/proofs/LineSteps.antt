-- What each step says of two rows, where it holds of the lines before.
use Rattle.std.proofs.Common.{◌≡◌, List, ◌∷◌, sym, ◌∙◌, ap, subst}
use Rattle.std.specs.Prelude.{Contains}
use Rattle.slotted_theory.specs.Nameless.{DTerm}
use Rattle.slotted_check.specs.declared.pieces.Piece.{Piece}
use Rattle.slotted_check.specs.declared.pieces.Piece.TheVariants.{Head}
use Rattle.slotted_check.specs.declared.steps.Equation.{Equation}
use Rattle.slotted_check.specs.Rows.{row, SaysAs, Joins, Walks, ended, same, part, IsCongruent}
use Rattle.slotted_check.specs.Following.{RowsFollow}
use Rattle.slotted_check.specs.Parts.{SaysLine}
use Rattle.slotted_check.specs.Lines.{IsTermRow, AreEqualRows, EachLine}
use Rattle.slotted_check.proofs.OneReading.{first_number}
use Rattle.slotted_check.proofs.StepLaws.{says-follows, turned-follows, joined-follows, reflexive-follows}
use Rattle.slotted_check.proofs.Congruence.{congruent-follows}

walks-map : {P Q : List Piece → List Piece → Type 0} → ((a b : List Piece) → P a b → Q a b) → {xs ys : List Piece} → Walks P xs ys → Walks Q xs ys
walks-map h ended = ended
walks-map h (same p w) = same p (walks-map h w)
walks-map h (part {a = a} {b = b} p w) = part (h a b p) (walks-map h w)

RowsFollow-along : {allowed : DTerm × DTerm → Type 0} {l r l' r' : List Piece} → l ≡ l' → r ≡ r' → RowsFollow allowed l' r' → RowsFollow allowed l r
RowsFollow-along {allowed} p q h = subst (λ u. u) (λ i. RowsFollow allowed (sym p i) (sym q i)) h

pub line-says : (lines : List Equation) (e : Equation) {l r l' r' : List Piece} → Contains lines e → l' ≡ l → r' ≡ r → SaysAs e.left.items e.right.items l' r' →
    SaysLine lines l r
line-says lines e c p q s = record {
  line = e;
  among = c;
  says = record { names = s.names; injective = s.injective; left = s.left ∙ p; right = s.right ∙ q };
}

pub by-renaming : (E : List (DTerm × DTerm)) (given : List Equation) (l r : List Piece) → EachLine E given → SaysLine given l r → AreEqualRows E l r
by-renaming E given l r h s = says-follows s.says (h s.line s.among)

pub by-reflexivity : (E : List (DTerm × DTerm)) (l r : List Piece) → IsTermRow l → l ≡ r → AreEqualRows E l r
by-reflexivity E l r w e = reflexive-follows w.term w.plain w.is e

pub by-symmetry : (E : List (DTerm × DTerm)) (lines : List Equation) (e : Equation) (l r : List Piece) → EachLine E lines → Contains lines e →
    SaysAs e.left.items e.right.items r l → AreEqualRows E l r
by-symmetry E lines e l r h c s = turned-follows (says-follows s (h e c))

pub by-transitivity : (E : List (DTerm × DTerm)) (lines : List Equation) (d e : Equation) (l r : List Piece) → EachLine E lines → Contains lines d → Contains lines e →
    Joins l r d.left.items d.right.items e.left.items e.right.items → AreEqualRows E l r
by-transitivity E lines d e l r h c k s = joined-follows s (h d c) (h e k)

pub by-congruence : (E : List (DTerm × DTerm)) (lines : List Equation) (l r : List Piece) → EachLine E lines → IsTermRow l →
    IsCongruent (SaysLine lines) l r → AreEqualRows E l r
by-congruence E lines l r h w k =
    let o : k.operator ≡ w.term.op = ap first_number (sym k.left ∙ w.is) in
    let t : Head w.term.op ∷ k.lefts ≡ row w.term = ap (λ n. Head n ∷ k.lefts) (sym o) ∙ (sym k.left ∙ w.is) in
    RowsFollow-along (k.left ∙ ap (λ n. Head n ∷ k.lefts) o) (k.right ∙ ap (λ n. Head n ∷ k.rights) o)
    (congruent-follows w.term k.lefts k.rights w.plain t (walks-map (λ a b s. says-follows s.says (h s.line s.among)) k.walk))

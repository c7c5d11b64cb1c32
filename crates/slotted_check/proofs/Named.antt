-- From terms in rows to terms with names.
use Rattle.std.proofs.Common.{◌≡◌, List, [], ◌∷◌, ◌++◌, map, sym, ◌∙◌, ap}
use Rattle.std.specs.Prelude.{Contains}
use Rattle.std.proofs.lemmas.List.Elements.{All-push, All-nil, All-contains}
use Rattle.slotted_lists.proofs.Contained.{Contains-map, contains_head}
use Rattle.slotted_theory.specs.Term.{Term}
use Rattle.slotted_theory.specs.Nameless.{DTerm, nameless}
use Rattle.slotted_theory.specs.Derives.{listed, nameless_pair}
use Rattle.slotted_theory.proofs.Backward.{Equal-derives}
use Rattle.slotted_theory.proofs.Equals.{Equal-along, Equal-more}
use Rattle.slotted_check.specs.declared.pieces.Piece.{Piece}
use Rattle.slotted_check.specs.declared.steps.Equation.{Equation}
use Rattle.slotted_check.specs.Rows.{row, IsPlain}
use Rattle.slotted_check.specs.Lines.{AreEqualRows, IsProvedClaim}
use Rattle.slotted_check.specs.Derived.{IsOneOf, IsDerived}
use Rattle.slotted_check.proofs.OneReading.{one_term}

one-equal : (E : List (Term × Term)) (g : Equation) → IsOneOf E g → AreEqualRows (map nameless_pair E) g.left.items g.right.items
one-equal E g h = record {
  left = nameless h.pair.0;
  right = nameless h.pair.1;
  left_row = h.rows.left;
  right_row = h.rows.right;
  left_plain = h.rows.left_plain;
  right_plain = h.rows.right_plain;
  follows = record {
    pairs = nameless_pair h.pair ∷ [];
    each = All-push (λ p. Contains (map nameless_pair E) p) [] (nameless_pair h.pair) (All-nil (λ p. Contains (map nameless_pair E) p)) (Contains-map nameless_pair E h.pair h.among);
    equal = listed (contains_head (nameless_pair h.pair) []);
  };
}

row-term : (d e : DTerm) (l : List Piece) → IsPlain d → IsPlain e → l ≡ row d → l ≡ row e → d ≡ e
row-term d e l p q a b = (one_term d e [] [] p q (ap (λ ps. ps ++ []) (sym a ∙ b))).0

pub claim-derived : (given : List Equation) (e : Equation) → IsProvedClaim given e → IsDerived given e
claim-derived given e h E one t u r =
    let k = h (map nameless_pair E) (λ g c. one-equal E g (one g c)) in
    let p : k.left ≡ nameless t = row-term k.left (nameless t) e.left.items k.left_plain r.left_plain k.left_row r.left in
    let q : k.right ≡ nameless u = row-term k.right (nameless u) e.right.items k.right_plain r.right_plain k.right_row r.right in
    Equal-derives t u (Equal-along p q (Equal-more (λ x c. All-contains (λ y. Contains (map nameless_pair E) y) k.follows.pairs x k.follows.each c) k.follows.equal))

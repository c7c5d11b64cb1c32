-- Terms with names for the rows that code makes.
use Rattle.std.proofs.Common.{◌≡◌, ℕ, List, [], length, sym, ◌∙◌, ap, subst}
use Rattle.std.specs.Prelude.{Bool, Option, Some, None, IfSome, Result, Ok, Err, IfOk}
use Rattle.slotted_theory.specs.Term.{Term}
use Rattle.slotted_theory.specs.Nameless.{nameless}
use Rattle.slotted_theory.proofs.NamesBack.{a_named_term}
use Rattle.slotted_check.specs.declared.pieces.Piece.{Piece}
use Rattle.slotted_check.specs.declared.steps.Equation.{Equation}
use Rattle.slotted_check.specs.Derived.{IsRowsOf}
use Rattle.slotted_check.specs.Rows.{row, IsPlain}
use Rattle.slotted_certificates.specs.declared.rules.Condition.{Condition}
use Rattle.slotted_certificates.specs.declared.puts.Put.{Put}
use Rattle.slotted_certificates.specs.Puts.{AreValues}
use Rattle.slotted_certificates.specs.Rules.{EachHolds, InstanceRows, IsRuleOf}
use Rattle.slotted_certificates.specs.declared.tokens.Token.{Token}
use Rattle.slotted_certificates.specs.Grammar.{IsTermOf, binds_in}
use Rattle.slotted_certificates.specs.Meaning.{IsInstance, IsValueIn}
use Rattle.slotted_certificates.specs.Given.{AreDifferent, AssertsRows, IsSidesText, assertion_opening, assertion_sign}
use Rattle.slotted_certificates.specs.Texts.{words}

pub ok-some-both : {A E : Type 0} {P Q R : A → Type 0} (r : Result (Option A) E) → ((a : A) → P a → Q a → R a) →
    IfOk r (λ o. IfSome o P) → IfOk r (λ o. IfSome o Q) → IfOk r (λ o. IfSome o R)
ok-some-both (Ok (Some a)) h p q = h a p q
ok-some-both (Ok None) h p q = p
ok-some-both (Err e) h p q = p

-- a term with names that parts of a text are
pub record IsNamed (bs : List ℕ) (vs : List (List Piece)) (ts : List Token) (ps : List Piece) : Type 0 where
  pub term : Term
  pub is : IsTermOf (binds_in bs) (IsValueIn vs) (λ y. y) ts (nameless term)
  pub plain : IsPlain (nameless term)
  pub pieces : ps ≡ row (nameless term)

pub named : (bs : List ℕ) (vs : List (List Piece)) (ts : List Token) (ps : List Piece) → IsInstance bs vs ts ps → IsNamed bs vs ts ps
named bs vs ts ps h =
    let t = a_named_term h.term in
    record {
      term = t.0;
      is = subst (IsTermOf (binds_in bs) (IsValueIn vs) (λ y. y) ts) (sym t.1) h.is;
      plain = subst IsPlain (sym t.1) h.plain;
      pieces = h.pieces ∙ ap row (sym t.1);
    }

pub rows-named : (bs : List ℕ) (vs : List (List Piece)) (l r : List Token) (e : Equation) (h : IsNamed bs vs l e.left.items) (k : IsNamed bs vs r e.right.items) →
    IsRowsOf (h.term, k.term) e
rows-named bs vs l r e h k = record { left = h.pieces; right = k.pieces; left_plain = h.plain; right_plain = k.plain }

pub rows-asserted : (ops : List (List ℕ)) (bs : List ℕ) (line : List ℕ) (name : Option (List ℕ)) (slots : List (List ℕ)) (l r : List Token) (e : Equation) → AreDifferent slots →
    IsSidesText (words ops slots []) (assertion_opening name) l (assertion_sign name) r line → IsInstance bs [] l e.left.items → IsInstance bs [] r e.right.items → AssertsRows ops bs line e
rows-asserted ops bs line name slots l r e different text left right =
    let h = named bs [] l e.left.items left in
    let k = named bs [] r e.right.items right in
    record {
      left = h.term;
      right = k.term;
      rows = rows-named bs [] l r e h k;
      asserted = record { name = name; slots = slots; different = different; left = l; right = r; text = text; left_is = h.is; right_is = k.is };
    }

pub rows-instance : (ops : List (List ℕ)) (bs : List ℕ) (line : List ℕ) (slots variables : List (List ℕ)) (puts : List Put) (name : List ℕ) (both : Bool) (l r : List Token) (cs : List Condition)
    (vs all : List (List Piece)) (e : Equation) → IsRuleOf ops slots variables puts name both l r cs line → length vs ≡ length variables → AreValues bs vs puts all → EachHolds vs cs →
    IsInstance bs all l e.left.items → IsInstance bs all r e.right.items → InstanceRows ops bs line both e
rows-instance ops bs line slots variables puts name both l r cs vs all e rule many are hold left right =
    let h = named bs all l e.left.items left in
    let k = named bs all r e.right.items right in
    record {
      left = h.term;
      right = k.term;
      rows = rows-named bs all l r e h k;
      is = record { slots = slots; variables = variables; puts = puts; name = name; left = l; right = r; conditions = cs; rule = rule; values = vs; as_many = many; all = all; all_are = are; hold = hold; left_is = h.is; right_is = k.is };
    }

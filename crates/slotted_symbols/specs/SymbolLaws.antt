-- The laws of a language at SymbolLang.
use Rattle.std.specs.Prelude.{◌≡◌, ℕ, ◌<◌, List, [], ◌∷◌, length, refl, Bool, true, false, IsTrue, ◌↔◌, ◌&&◌, nat_eq, Some, None, if◌then◌else◌, IfSome}
use Rattle.std.proofs.Common.{arith, ap, ◌∙◌, rules}
use Rattle.std.proofs.lemmas.List.{length-map}
use Rattle.std.specs.Cmp.Lexicographic.{pointwise}
use Rattle.slotted_slots.specs.Syntax.{Element, text, name}
use Rattle.slotted_slots.specs.Table.{slot_limit}
use Rattle.slotted_nodes.specs.Form.{Form, scopes, children}
use Rattle.slotted_nodes.specs.Equal.{and_same, map_same, bytes_told, cons_parts}
use Rattle.slotted_nodes.specs.ReadFrom.{IsReadFrom}
use Rattle.slotted_symbols.specs.Arguments.{element, elements, form_over, are_arguments}
use Rattle.slotted_symbols.specs.Trees.{tree_fits, count-tree_of, applied_count-within, arguments_told}
use Rattle.slotted_symbols.specs.SymbolForms.{symbol_form, symbol_read}
use Rattle.slotted_symbols.specs.declared.argument.Argument.{Argument}
use Rattle.slotted_symbols.specs.declared.argument.Argument.TheVariants.{Slot, Child}
use Rattle.slotted_symbols.specs.declared.symbol_lang.SymbolLang.{SymbolLang}
use Rattle.slotted_symbols.specs.contracts.symbol_lang.SymbolLangPartialEq.TheImpl.{ghosts}
use Rattle.slotted_symbols.specs.contracts.argument.ArgumentPartialEq.TheImpl.{ghosts as argument}

pub symbol_fits : (a : SymbolLang) → length (symbol_form a).names ≡ length (scopes (symbol_form a).tree)
symbol_fits a = tree_fits (elements a.arguments)

pub symbol_few : (a : SymbolLang) → length (children (symbol_form a).tree) < slot_limit
symbol_few a =
    let es : List Element = elements a.arguments in
    omega (arith, count-tree_of es, applied_count-within es, length-map a.arguments element, a.few)

-- two tests, each of which tells a part
both_same : (d e : Bool) {P Q R : Type 0} → (IsTrue d ↔ P) → (IsTrue e ↔ Q) → (P × Q → R) → (R → P × Q) → IsTrue (d && e) ↔ R
both_same true true p q f g = (λ h. f (p.0 refl, q.0 refl), λ r. refl)
both_same true false p q f g = (λ h. cc, λ r. q.1 (g r).1)
both_same false e p q f g = (λ h. cc, λ r. p.1 (g r).0)

number_told : (x y : ℕ) → IsTrue (nat_eq x y) ↔ x ≡ y
number_told x y = search rules

argument_same : (a b : Argument) → IsTrue (argument.eq a b) ↔ element a ≡ element b
argument_same (Slot x) (Slot y) = (λ h. ap name ((number_told x y).0 h), λ e. (number_told x y).1 (cc))
argument_same (Slot x) (Child b) = (λ h. cc, λ e. cc)
argument_same (Child a) (Slot y) = (λ h. cc, λ e. cc)
argument_same (Child a) (Child b) =
    let s : IsTrue (nat_eq a.id.0 b.id.0 && pointwise (λ p q. nat_eq p.0 q.0 && nat_eq p.1 q.1) a.m b.m) ↔
    ((a.id.0 ≡ b.id.0) × (a.m ≡ b.m)) = and_same _ _ _ (map_same a.m b.m) in (
      λ i. let p = s.0 i in cc,
      λ e. s.1 (cc, cc),
    )

arguments_same : (args bs : List Argument) → IsTrue (pointwise argument.eq args bs) ↔ elements args ≡ elements bs
arguments_same [] [] = (λ h. refl, λ e. refl)
arguments_same [] (b ∷ bs) = (λ h. cc, λ e. cc)
arguments_same (a ∷ args) [] = (λ h. cc, λ e. cc)
arguments_same (a ∷ args) (b ∷ bs) =
    both_same (argument.eq a b) (pointwise argument.eq args bs) (argument_same a b) (arguments_same args bs)
    (λ r. ap (λ x. x ∷ elements args) r.0 ∙ ap (λ es. element b ∷ es) r.1)
    (cons_parts (element a) (element b) (elements args) (elements bs))

-- two nodes are equal exactly if their forms are
pub symbol_same : (a b : SymbolLang) → IsTrue (ghosts.eq a b) ↔ symbol_form a ≡ symbol_form b
symbol_same a b =
    let args : List Argument = a.arguments in
    let bs : List Argument = b.arguments in
    both_same (pointwise nat_eq a.word b.word) (pointwise argument.eq args bs) (bytes_told a.word b.word) (arguments_same args bs)
    (λ r. ap (λ w. form_over w (elements args)) r.0 ∙ ap (form_over b.word) r.1)
    (λ e. (
      let p : ◌≡◌ {A = List (List ℕ)} (symbol_form a).payloads (symbol_form b).payloads = ap (λ f. f.payloads) e in (cons_parts _ _ _ _ p).0,
      arguments_told args bs (ap (λ f. f.tree) e) (ap (λ f. f.names) e),
    ))

-- what is read has the slots and the children of its elements
arguments_read : (w : List ℕ) (es : List Element) → IsReadFrom (text w ∷ es) (form_over w es)
arguments_read w es = record { slots = λ y h. h; count = count-tree_of es }

if_read : (b : Bool) (f : Form) (es : List Element) → IsReadFrom es f → IfSome (if b then Some f else None) (IsReadFrom es)
if_read true f es h = h
if_read false f es h = tt

pub symbol_faithful : (es : List Element) → IfSome (symbol_read es) (IsReadFrom es)
symbol_faithful (text w ∷ es) = if_read (are_arguments es) (form_over w es) (text w ∷ es) (arguments_read w es)
symbol_faithful _ = tt

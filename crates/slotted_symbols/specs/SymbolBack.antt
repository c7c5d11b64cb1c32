-- What a node of SymbolLang is written as reads as that node, where it was read from identifier tokens.
use Rattle.std.specs.Prelude.{◌≡◌, ℕ, ◌<◌, Bool, true, false, not, if◌then◌else◌, List, [], ◌∷◌, length, Some, None, IfSome, refl}
use Rattle.std.proofs.Common.{arith, ap, sym, subst}
use Rattle.std.proofs.lemmas.Bool.{and_from, lt-ltb}
use Rattle.std.proofs.lemmas.List.{length-map}
use Rattle.slotted_slots.specs.Maps.{keys}
use Rattle.slotted_slots.specs.Syntax.{Element, text, applied, name}
use Rattle.slotted_slots.specs.Table.{slot_limit}
use Rattle.slotted_nodes.specs.Equal.{cons_parts}
use Rattle.slotted_nodes.specs.Form.{Form}
use Rattle.slotted_nodes.specs.Identifier.{IsIdentifier, HasIdentifiers, HasNullIds, AreNull, HasNullChildren}
use Rattle.slotted_patterns.specs.ReadAgain.{applied_ids}
use Rattle.slotted_symbols.specs.Arguments.{element, elements, form_over, are_arguments, has_text}
use Rattle.slotted_symbols.specs.SymbolForms.{symbol_form, symbol_shown, symbol_read}
use Rattle.slotted_symbols.specs.Trees.{children-tree_of}
use Rattle.slotted_symbols.specs.declared.argument.Argument.{Argument}
use Rattle.slotted_symbols.specs.declared.argument.Argument.TheVariants.{Slot, Child}
use Rattle.slotted_symbols.specs.declared.symbol_lang.SymbolLang.{SymbolLang}

-- arguments have no texts
no_text : (args : List Argument) → has_text (elements args) ≡ false
no_text [] = refl
no_text (Slot x ∷ args) = no_text args
no_text (Child a ∷ args) = no_text args

no_words : (args : List Argument) → HasIdentifiers (elements args)
no_words [] = tt
no_words (Slot x ∷ args) = no_words args
no_words (Child a ∷ args) = no_words args

guarded : (b : Bool) (v a : Form) → (if b then Some v else None) ≡ Some a → v ≡ a
guarded true v a e = cc
guarded false v a e = cc

same_word : (v w : List ℕ) (es ds : List Element) → form_over v es ≡ form_over w ds → v ≡ w
same_word v w es ds e = (cons_parts v w _ _ (ap (λ f. f.payloads) e)).0

-- the three laws
pub symbol_words : (es : List Element) (a : SymbolLang) → HasIdentifiers es → symbol_read es ≡ Some (symbol_form a) →
    HasIdentifiers (symbol_shown a)
symbol_words (text w ∷ es) a h e =
    let same = same_word w a.word es (elements a.arguments) (guarded (are_arguments es) (form_over w es) (symbol_form a) e) in
    (subst IsIdentifier same h.0, no_words a.arguments)
symbol_words es a h e = cc

node_arguments : (a : SymbolLang) → are_arguments (elements a.arguments) ≡ true
node_arguments a =
    let few : length (elements a.arguments) < slot_limit = omega (arith, length-map a.arguments element, a.few) in
    and_from _ _ (lt-ltb _ _ few) (ap not (no_text a.arguments))

pub symbol_back : (es : List Element) (a : SymbolLang) → HasIdentifiers es → symbol_read es ≡ Some (symbol_form a) →
    symbol_read (symbol_shown a) ≡ Some (symbol_form a)
symbol_back es a h e = ap (λ b. if b then Some (symbol_form a) else None) (node_arguments a)

null_ids : (es : List Element) → HasNullIds es → AreNull (applied_ids es)
null_ids [] h = tt
null_ids (text w ∷ es) h = null_ids es h
null_ids (applied i m ∷ es) h = (h.0, ap keys h.1, null_ids es h.2)
null_ids (name x ∷ es) h = null_ids es h

if_null : (b : Bool) (f : Form) → HasNullChildren f → IfSome (if b then Some f else None) HasNullChildren
if_null true f h = h
if_null false f h = tt

pub symbol_null : (es : List Element) → HasNullIds es → IfSome (symbol_read es) HasNullChildren
symbol_null (text w ∷ es) h = if_null (are_arguments es) (form_over w es) (subst AreNull (sym (children-tree_of es)) (null_ids es h))
symbol_null es h = tt

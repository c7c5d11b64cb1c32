-- A list of arguments, split at one of them.
use Rattle.std.proofs.Common.{◌≡◌, ◌<◌, ◌+◌, ◌∙◌, ◌++◌, ◌∷◌, [], ℕ, List, length, take, drop, get_or, ap, sym, refl, length-append}
use Rattle.std.proofs.lemmas.List.{append-nil, drop_more, take_more, take-append-drop, length-map, map-append}
use Rattle.slotted_slots.specs.Maps.{values}
use Rattle.slotted_nodes.specs.ReadFrom.{slots_of, slots_of-append, applied_count, applied_count-append}
use Rattle.slotted_symbols.specs.Arguments.{element, elements, places}
use Rattle.slotted_symbols.specs.declared.argument.Argument.{Argument}
use Rattle.slotted_symbols.specs.declared.argument.Argument.TheVariants.{Slot, Child}

-- the elements before an argument, its own, and those behind it
pub split : (args : List Argument) (k : ℕ) (x : Argument) → k < length args → x ≡ get_or args k x →
    elements args ≡ elements (take k args) ++ (element x ∷ elements (drop (k + 1) args))
split args k x h at =
    ap elements (sym (take-append-drop k args) ∙ ap (λ l. take k args ++ l) (drop_more args k x h ∙ ap (λ y. y ∷ drop (k + 1) args) (sym at)))
    ∙ map-append element (take k args) (x ∷ drop (k + 1) args)

-- one more argument in front
pub front_more : (args : List Argument) (k : ℕ) (x : Argument) → k < length args → x ≡ get_or args k x →
    elements (take (k + 1) args) ≡ elements (take k args) ++ (element x ∷ [])
front_more args k x h at =
    ap elements (take_more args k x h ∙ ap (λ y. take k args ++ y ∷ []) (sym at)) ∙ map-append element (take k args) (x ∷ [])

one_places : (x : Argument) → length (slots_of (element x ∷ [])) ≡ places (element x)
one_places (Slot x) = refl
one_places (Child a) = ap length (append-nil (values a.m)) ∙ length-map a.m (λ p. p.1)

pub places_more : (args : List Argument) (k : ℕ) (x : Argument) → k < length args → x ≡ get_or args k x →
    length (slots_of (elements (take (k + 1) args))) ≡ length (slots_of (elements (take k args))) + places (element x)
places_more args k x h at =
    ap (λ es. length (slots_of es)) (front_more args k x h at)
    ∙ (ap length (slots_of-append (elements (take k args)) (element x ∷ []))
    ∙ (length-append (slots_of (elements (take k args))) (slots_of (element x ∷ []))
    ∙ ap (λ n. length (slots_of (elements (take k args))) + n) (one_places x)))

pub children_more : (args : List Argument) (k : ℕ) (x : Argument) → k < length args → x ≡ get_or args k x →
    applied_count (elements (take (k + 1) args)) ≡ applied_count (elements (take k args)) + applied_count (element x ∷ [])
children_more args k x h at =
    ap applied_count (front_more args k x h at) ∙ applied_count-append (elements (take k args)) (element x ∷ [])

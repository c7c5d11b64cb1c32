-- The order of the nodes of SymbolLang: by their words, and nodes of one word by their arguments from the left.
--     applied_id_cmp a b   ids by their classes, and then by their pairs of slots
--     argument_cmp a b     arguments: a slot before a child
--     symbol_cmp a b       nodes
use Rattle.std.specs.Prelude.{◌≡◌, ℕ, List, refl}
use Rattle.std.specs.Cmp.Lexicographic.{slice_cmp}
use Rattle.std.specs.Ordering.{nat_cmp, ordering_then}
use Rattle.std.specs.declared.cmp.Ordering.{Ordering}
use Rattle.std.specs.declared.cmp.Ordering.TheVariants.{Less, Greater}
use Rattle.slotted_slots.specs.declared.types.AppliedId.{AppliedId}
use Rattle.slotted_symbols.specs.SymbolForms.{word_of, arguments_of}
use Rattle.slotted_symbols.specs.declared.argument.Argument.{Argument}
use Rattle.slotted_symbols.specs.declared.argument.Argument.TheVariants.{Slot, Child}
use Rattle.slotted_symbols.specs.declared.symbol_lang.SymbolLang.{SymbolLang}
use Rattle.slotted_symbols.specs.contracts.argument.ArgumentOrd.TheImpl.{ghosts as argument}
use Rattle.slotted_symbols.specs.contracts.symbol_lang.SymbolLangOrd.TheImpl.{ghosts}

abbrev pub pair_cmp : ℕ × ℕ → ℕ × ℕ → Ordering
pair_cmp p q = ordering_then (nat_cmp p.0 q.0) (nat_cmp p.1 q.1)

abbrev pub applied_id_cmp : AppliedId → AppliedId → Ordering
applied_id_cmp a b = ordering_then (nat_cmp a.id.0 b.id.0) (slice_cmp pair_cmp a.m b.m)

abbrev pub argument_cmp : Argument → Argument → Ordering
argument_cmp (Slot x) (Slot y) = nat_cmp x y
argument_cmp (Slot x) (Child b) = Less
argument_cmp (Child a) (Slot y) = Greater
argument_cmp (Child a) (Child b) = applied_id_cmp a b

abbrev pub symbol_cmp : SymbolLang → SymbolLang → Ordering
symbol_cmp a b = ordering_then (slice_cmp nat_cmp (word_of a) (word_of b)) (slice_cmp argument_cmp (arguments_of a) (arguments_of b))

argument_ordered : (a b : Argument) → argument.cmp a b ≡ argument_cmp a b
argument_ordered (Slot x) (Slot y) = refl
argument_ordered (Slot x) (Child b) = refl
argument_ordered (Child a) (Slot y) = refl
argument_ordered (Child a) (Child b) = refl

pub symbol_ordered : (a b : SymbolLang) → ghosts.cmp a b ≡ symbol_cmp a b
symbol_ordered a b =
    let args : List Argument = a.arguments in
    let bs : List Argument = b.arguments in
    (λ t. ordering_then (slice_cmp nat_cmp a.word b.word) (slice_cmp (λ x y. argument_ordered x y t) args bs))

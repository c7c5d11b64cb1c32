-- Whether words are used as declared, by the usages that are declared.
--     MayFollow more ks        arguments of the kinds ks may follow those that an example shows
--     Takes u ks               the usage u takes arguments of the kinds ks
--     IsDeclared us w          some usage is of the word w
--     IsDeclaredUse us w ks    some usage of the word takes arguments of these kinds
--     IsRight us w ks          the word may stand over arguments of these kinds
--     IsUsedAsDeclared us f    the same of an e-node
use Rattle.std.specs.Prelude.{◌≡◌, ◌⊎◌, ℕ, List, [], ◌++◌, Bool, true, false, All}
use Rattle.std.specs.List.{Any}
use Rattle.slotted_nodes.specs.Form.{Form}
use Rattle.slotted_signatures.specs.Kinds.{word_of, kinds_of}
use Rattle.slotted_signatures.specs.Usage.{Usage}

-- only children, and none if the example shows all arguments
abbrev pub MayFollow : Bool → List ℕ → Type 0
MayFollow true ks = All (λ k. k ≡ 1) ks
MayFollow false ks = ks ≡ []

abbrev pub Takes : Usage → List ℕ → Type 0
Takes u ks = (others : List ℕ) × (ks ≡ u.kinds ++ others) × MayFollow u.more others

abbrev pub IsDeclared : List Usage → List ℕ → Type 0
IsDeclared us w = Any (λ u. u.word ≡ w) us

abbrev pub IsDeclaredUse : List Usage → List ℕ → List ℕ → Type 0
IsDeclaredUse us w ks = Any (λ u. (u.word ≡ w) × Takes u ks) us

-- nothing is declared, or this use is, or the word is a constant: it stands alone and is not declared
abbrev pub IsRight : List Usage → List ℕ → List ℕ → Type 0
IsRight us w ks = (us ≡ []) ⊎ (IsDeclaredUse us w ks ⊎ ((ks ≡ []) × ¬ IsDeclared us w))

abbrev pub IsUsedAsDeclared : List Usage → Form → Type 0
IsUsedAsDeclared us f = IsRight us (word_of f) (kinds_of f)

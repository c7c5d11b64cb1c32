-- How the nodes of Small are written where only their terms are known.
use Rattle.std.specs.Prelude.{ℕ, suc, zero, List, [], ◌∷◌, codes, decimal, slice_index, slice_index_or, refl}
use Rattle.slotted_theory.specs.Term.{Args, Term, done, name, child, bind}
use Rattle.slotted_slots.specs.Syntax.{Element, text, applied}
use Rattle.slotted_slots.specs.Syntax.{name as slot}
use Rattle.slotted_languages.specs.Filled.{term_of}
use Rattle.slotted_small.specs.Small.{small_form, small_shown}
use Rattle.slotted_small.specs.declared.small.Small.{Small}
use Rattle.slotted_small.specs.declared.small.Small.TheVariants.{Lam, App, Var, F, G, Add, Mul, Number, Word}
use Rattle.slotted_terms.specs.Shown.{IsWrittenAs}

-- the names and binders among arguments, from the left
abbrev pub own_names : Args → List ℕ
own_names done = []
own_names (name x rest) = x ∷ own_names rest
own_names (child op payloads args rest) = own_names rest
own_names (bind x inner rest) = x ∷ own_names rest

-- the payload
abbrev pub payload : List (List ℕ) → List ℕ
payload ps = slice_index_or ps 0 []

-- the variant k with these payloads and these names
abbrev pub variant_written : ℕ → List (List ℕ) → List ℕ → List Element
variant_written zero ps xs = text (codes "lam") ∷ slot (slice_index xs 0) ∷ applied 0 [] ∷ []
variant_written (suc zero) ps xs = text (codes "app") ∷ applied 0 [] ∷ applied 0 [] ∷ []
variant_written (suc (suc zero)) ps xs = text (codes "var") ∷ slot (slice_index xs 0) ∷ []
variant_written (suc (suc (suc zero))) ps xs = text (codes "f") ∷ slot (slice_index xs 0) ∷ slot (slice_index xs 1) ∷ []
variant_written (suc (suc (suc (suc zero)))) ps xs = text (codes "g") ∷ slot (slice_index xs 0) ∷ []
variant_written (suc (suc (suc (suc (suc zero))))) ps xs = text (codes "add") ∷ applied 0 [] ∷ applied 0 [] ∷ []
variant_written (suc (suc (suc (suc (suc (suc zero)))))) ps xs = text (codes "mul") ∷ applied 0 [] ∷ applied 0 [] ∷ []
variant_written (suc (suc (suc (suc (suc (suc (suc zero))))))) ps xs = text (decimal (slice_index (payload ps) 0)) ∷ []
variant_written (suc (suc (suc (suc (suc (suc (suc (suc k)))))))) ps xs = text (payload ps) ∷ []

-- the operator of a term is one more than that of its node
abbrev pub over_operator : ℕ → List (List ℕ) → List ℕ → List Element
over_operator zero ps xs = []
over_operator (suc k) ps xs = variant_written k ps xs

abbrev pub small_written : Term → List Element
small_written u = over_operator u.op u.payloads (own_names u.args)

pub small_written_as : (n : Small) (us : List Term) → IsWrittenAs (small_form n) (small_shown n) (small_written (term_of (small_form n) us))
small_written_as (Lam b) us = record { same = refl; count = refl }
small_written_as (App a b) us = record { same = refl; count = refl }
small_written_as (Var x) us = record { same = refl; count = refl }
small_written_as (F x y) us = record { same = refl; count = refl }
small_written_as (G x) us = record { same = refl; count = refl }
small_written_as (Add a b) us = record { same = refl; count = refl }
small_written_as (Mul a b) us = record { same = refl; count = refl }
small_written_as (Number n) us = record { same = refl; count = refl }
small_written_as (Word w) us = record { same = refl; count = refl }

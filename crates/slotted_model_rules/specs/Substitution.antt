-- Substitution without capture, on terms without bound names: each topmost part that is x, seen from where it stands, becomes t.
--     substituted x t b       b[x := t]: from the top, comparing before looking inside, and never looking into what was put in
--     StandsIn x b            some part of b is x
--     replaced x t b          the same on terms with names: each topmost part that differs from x in bound names alone becomes t as it is written
--     HasOthersBound x t b    no binder of b has a name that is free in x or in t: then `replaced` captures nothing
use Rattle.std.specs.Prelude.{◌≡◌, ◌⊎◌, ℕ, suc, List, cond}
use Rattle.slotted_theory.specs.Term.{Args, Term, done, name, child, bind}
use Rattle.slotted_theory.specs.Nameless.{DArgs, DTerm, stop, place, sub, scope, nameless, moved}
use Rattle.slotted_theory.specs.Shape.{IsFreeIn}
use Rattle.slotted_theory.proofs.Values.{node, child_before}
use Rattle.slotted_model.specs.Ids.{term_eq}

-- a term as it is seen from under one more binder, which binds none of its names
abbrev pub seen_inside : DTerm → DTerm
seen_inside d = moved suc d

-- t where d is x, and else e
abbrev pub put : DTerm → DTerm → DTerm → DTerm → DTerm
put x t d e = cond (term_eq d x) t e

-- the arguments with t for each topmost part that is x
abbrev pub substituted_args : DTerm → DTerm → DArgs → DArgs
substituted_args x t stop = stop
substituted_args x t (place y rest) = place y (substituted_args x t rest)
substituted_args x t (sub op payloads args rest) =
    child_before (put x t (node op payloads args) (node op payloads (substituted_args x t args))) (substituted_args x t rest)
substituted_args x t (scope inner rest) = scope (substituted_args (seen_inside x) (seen_inside t) inner) (substituted_args x t rest)

-- the term b with t for each topmost part that is x
abbrev pub substituted : DTerm → DTerm → DTerm → DTerm
substituted x t b = put x t b (node b.op b.payloads (substituted_args x t b.args))

-- some part of the arguments is x
abbrev pub StandsInArgs : DTerm → DArgs → Type 0
StandsInArgs x stop = ⊥
StandsInArgs x (place y rest) = StandsInArgs x rest
StandsInArgs x (sub op payloads args rest) = ((node op payloads args ≡ x) ⊎ StandsInArgs x args) ⊎ StandsInArgs x rest
StandsInArgs x (scope inner rest) = StandsInArgs (seen_inside x) inner ⊎ StandsInArgs x rest

-- b or some part of it is x
abbrev pub StandsIn : DTerm → DTerm → Type 0
StandsIn x b = (b ≡ x) ⊎ StandsInArgs x b.args

-- a term with names from its parts
abbrev pub named_node : ℕ → List (List ℕ) → Args → Term
named_node op payloads args = record { op = op; payloads = payloads; args = args }

-- the term as the first child of a list of arguments
abbrev pub named_before : Term → Args → Args
named_before t rest = child t.op t.payloads t.args rest

-- t where d differs from x in bound names alone, and else e
abbrev pub put_named : Term → Term → Term → Term → Term
put_named x t d e = cond (term_eq (nameless d) (nameless x)) t e

-- the arguments with t, as it is written, for each topmost part that differs from x in bound names alone
abbrev pub replaced_args : Term → Term → Args → Args
replaced_args x t done = done
replaced_args x t (name y rest) = name y (replaced_args x t rest)
replaced_args x t (child op payloads args rest) =
    named_before (put_named x t (named_node op payloads args) (named_node op payloads (replaced_args x t args))) (replaced_args x t rest)
replaced_args x t (bind y inner rest) = bind y (replaced_args x t inner) (replaced_args x t rest)

-- the same of a term
abbrev pub replaced : Term → Term → Term → Term
replaced x t b = put_named x t b (named_node b.op b.payloads (replaced_args x t b.args))

-- no binder of the arguments has a name that is free in x or in t
abbrev pub HasOthersBoundArgs : Term → Term → Args → Type 0
HasOthersBoundArgs x t done = Unit {0}
HasOthersBoundArgs x t (name y rest) = HasOthersBoundArgs x t rest
HasOthersBoundArgs x t (child op payloads args rest) = HasOthersBoundArgs x t args × HasOthersBoundArgs x t rest
HasOthersBoundArgs x t (bind y inner rest) =
    (¬ IsFreeIn y x.args) × (¬ IsFreeIn y t.args) × HasOthersBoundArgs x t inner × HasOthersBoundArgs x t rest

-- the same of a term
abbrev pub HasOthersBound : Term → Term → Term → Type 0
HasOthersBound x t b = HasOthersBoundArgs x t b.args

-- Substitution without capture, on terms without bound names.
--     Substitutes x t b d     d is b with t in the place of each topmost part that is x, as both are seen from where it stands
use Rattle.std.specs.Prelude.{◌≡◌, ℕ, suc}
use Rattle.slotted_theory.specs.Nameless.{DArgs, DTerm, stop, place, scope, moved}
use Rattle.slotted_theory.proofs.Values.{node, child_before}

-- a term as it is seen from under one more binder, which binds none of its names
abbrev pub seen_inside : DTerm → DTerm
seen_inside d = moved suc d

mutual
  pub data Substitutes : DTerm → DTerm → DTerm → DTerm → Type 0 where
    whole : {x t : DTerm} → Substitutes x t x t
    inside : {x t b : DTerm} {a : DArgs} → ¬ (b ≡ x) → SubstitutesArgs x t b.args a → Substitutes x t b (node b.op b.payloads a)

  -- the same of each argument
  pub data SubstitutesArgs : DTerm → DTerm → DArgs → DArgs → Type 0 where
    no_argument : {x t : DTerm} → SubstitutesArgs x t stop stop
    own_name : {x t : DTerm} (y : ℕ) {a b : DArgs} → SubstitutesArgs x t a b → SubstitutesArgs x t (place y a) (place y b)
    one_child : {x t d e : DTerm} {a b : DArgs} → Substitutes x t d e → SubstitutesArgs x t a b → SubstitutesArgs x t (child_before d a) (child_before e b)
    one_scope : {x t : DTerm} {i j a b : DArgs} → SubstitutesArgs (seen_inside x) (seen_inside t) i j → SubstitutesArgs x t a b →
        SubstitutesArgs x t (scope i a) (scope j b)

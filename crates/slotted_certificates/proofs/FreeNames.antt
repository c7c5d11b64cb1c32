-- A name is free in a term exactly if its row has it.
use Rattle.std.proofs.Common.{◌≡◌, ◌≢◌, ℕ, suc, List, [], ◌++◌, sym, ◌∙◌, ap, refl, inl, inr, append_assoc, append-nil, arith}
use Rattle.std.specs.Prelude.{◌⊎◌, Bool, true, false, nat_eq, if◌then◌else◌, Some, slice_get}
use Rattle.std.proofs.lemmas.Bool.{eq-eqb, ne_eqb, cases_eq}
use Rattle.slotted_theory.specs.Nameless.{DArgs, DTerm, stop, place, sub, scope}
use Rattle.slotted_check.specs.declared.pieces.Piece.{Piece}
use Rattle.slotted_check.specs.Lines.{IsTermRow}
use Rattle.slotted_check.specs.Rows.{End, closing, leaving, down, row, row_args}
use Rattle.slotted_certificates.specs.declared.rules.Condition.{Condition}
use Rattle.slotted_certificates.specs.Free.{IsFreeAt, IsFreeName, free_in_row}
use Rattle.slotted_certificates.specs.Rules.{Holds, IsAsAsked}

-- a name as it is numbered behind an end
abbrev after : End → ℕ → ℕ
after closing x = x
after leaving x = down x

here : (y x : ℕ) (b : Bool) → y ≡ x → (if nat_eq y x then true else b) ≡ true
here y x b e = ap (λ c. if c then true else b) (eq-eqb y x e)

elsewhere : (y x : ℕ) (b : Bool) → y ≢ x → (if nat_eq y x then true else b) ≡ b
elsewhere y x b n = ap (λ c. if c then true else b) (ne_eqb y x n)

later-anyway : (c b : Bool) → b ≡ true → (if c then true else b) ≡ true
later-anyway true b e = refl
later-anyway false b e = e

free-later : (x : ℕ) (e : End) (a : DArgs) (u : List Piece) → free_in_row (after e x) u ≡ true → free_in_row x (row_args e a ++ u) ≡ true
free-later x closing stop u h = h
free-later x leaving stop u h = h
free-later x e (place y rest) u h = later-anyway (nat_eq y x) (free_in_row x (row_args e rest ++ u)) (free-later x e rest u h)
free-later x e (sub op payloads args rest) u h =
    ap (free_in_row x) (append_assoc (row_args closing args) (row_args e rest) u) ∙ free-later x closing args (row_args e rest ++ u) (free-later x e rest u h)
free-later x e (scope inner rest) u h =
    ap (free_in_row (suc x)) (append_assoc (row_args leaving inner) (row_args e rest) u) ∙ free-later (suc x) leaving inner (row_args e rest ++ u) (free-later x e rest u h)

free-seen : (x : ℕ) (e : End) (a : DArgs) (u : List Piece) → IsFreeAt x a → free_in_row x (row_args e a ++ u) ≡ true
free-seen x e stop u h = elim h [ ]
free-seen x e (place y rest) u (inl h) = here y x (free_in_row x (row_args e rest ++ u)) h
free-seen x e (place y rest) u (inr h) = later-anyway (nat_eq y x) (free_in_row x (row_args e rest ++ u)) (free-seen x e rest u h)
free-seen x e (sub op payloads args rest) u (inl h) =
    ap (free_in_row x) (append_assoc (row_args closing args) (row_args e rest) u) ∙ free-seen x closing args (row_args e rest ++ u) h
free-seen x e (sub op payloads args rest) u (inr h) =
    ap (free_in_row x) (append_assoc (row_args closing args) (row_args e rest) u) ∙ free-later x closing args (row_args e rest ++ u) (free-seen x e rest u h)
free-seen x e (scope inner rest) u (inl h) =
    ap (free_in_row (suc x)) (append_assoc (row_args leaving inner) (row_args e rest) u) ∙ free-seen (suc x) leaving inner (row_args e rest ++ u) h
free-seen x e (scope inner rest) u (inr h) =
    ap (free_in_row (suc x)) (append_assoc (row_args leaving inner) (row_args e rest) u) ∙ free-later (suc x) leaving inner (row_args e rest ++ u) (free-seen x e rest u h)

-- what is found here or later
abbrev Found : ℕ → End → DArgs → List Piece → Type 0
Found x e a u = IsFreeAt x a ⊎ (free_in_row (after e x) u ≡ true)

free-found : (x : ℕ) (e : End) (a : DArgs) (u : List Piece) → free_in_row x (row_args e a ++ u) ≡ true → Found x e a u
free-found x closing stop u h = inr h
free-found x leaving stop u h = inr h
free-found x e (place y rest) u h = elim (cases_eq y x) [
  | inl d ↦ inl (inl d)
  | inr n ↦ elim (free-found x e rest u (sym (elsewhere y x (free_in_row x (row_args e rest ++ u)) n) ∙ h)) [
    | inl f ↦ inl (inr f)
    | inr l ↦ inr l
  ]
]
free-found x e (sub op payloads args rest) u h =
    elim (free-found x closing args (row_args e rest ++ u) (sym (ap (free_in_row x) (append_assoc (row_args closing args) (row_args e rest) u)) ∙ h)) [
      | inl f ↦ inl (inl f)
      | inr l ↦ elim (free-found x e rest u l) [
        | inl f ↦ inl (inr f)
        | inr m ↦ inr m
      ]
    ]
free-found x e (scope inner rest) u h =
    elim (free-found (suc x) leaving inner (row_args e rest ++ u) (sym (ap (free_in_row (suc x)) (append_assoc (row_args leaving inner) (row_args e rest) u)) ∙ h)) [
      | inl f ↦ inl (inl f)
      | inr l ↦ elim (free-found x e rest u l) [
        | inl f ↦ inl (inr f)
        | inr m ↦ inr m
      ]
    ]

abbrev as_number : Bool → ℕ
as_number true = 1
as_number false = 0

false-true : {A : Type 0} → false ≡ true → A
false-true e = let n : as_number false ≡ as_number true = ap as_number e in absurd (omega arith)

pub row-free : (x : ℕ) (d : DTerm) → free_in_row x (row d) ≡ true → IsFreeName x d
row-free x d h = elim (free-found x closing d.args [] (ap (free_in_row x) (append-nil (row_args closing d.args)) ∙ h)) [
  | inl f ↦ f
  | inr l ↦ false-true l
]

pub row-not_free : (x : ℕ) (d : DTerm) → free_in_row x (row d) ≡ false → ¬ IsFreeName x d
row-not_free x d h f = false-true (sym h ∙ (sym (ap (free_in_row x) (append-nil (row_args closing d.args))) ∙ free-seen x closing d.args [] f))

as_asked : (b : Bool) (x : ℕ) (d : DTerm) → free_in_row x (row d) ≡ b → IsAsAsked b x d
as_asked true x d h = row-free x d h
as_asked false x d h = row-not_free x d h

-- a condition that the row of a value answers as it asks
pub held : (vs : List (List Piece)) (c : Condition) (ps : List Piece) (b : Bool) → slice_get vs c.variable ≡ Some ps → IsTermRow ps → b ≡ free_in_row c.slot ps → b ≡ c.is_free → Holds vs c
held vs c ps b among is found same = record {
  value = is.term;
  is = record { among = among ∙ ap Some is.is; plain = is.plain };
  asked = as_asked c.is_free c.slot is.term (sym (ap (free_in_row c.slot) is.is) ∙ (sym found ∙ same));
}

-- What the parts of a text mean: those of a term or of a pattern, with values in the places of its variables.
--     IsTermOf binds values ρ ts d         the parts ts are those of a term, which is d without bound names, where ρ numbers the names outside
--     AreArgumentsOf binds values n ρ ts d     the parts ts are those of arguments of the operator n, which are d
--     IsBoundIn binds values ρ ts i            the parts ts are those of a term that slots before them bind in, perhaps behind more such slots
--     binds_in bs n                        the operator n is one of those that bind
use Rattle.std.specs.Prelude.{◌≡◌, ℕ, Bool, true, false, ◌&&◌, nat_eq, if◌then◌else◌, List, [], ◌∷◌, ◌++◌}
use Rattle.slotted_theory.specs.Nameless.{DArgs, DTerm, stop, place, scope, extend, moved}
use Rattle.slotted_theory.proofs.Values.{node, child_before}
use Rattle.slotted_certificates.specs.declared.tokens.Token.{Token}
use Rattle.slotted_certificates.specs.declared.tokens.Token.TheVariants.{Leaf, Bracket, Close, Slot, Value}

abbrev pub binds_in : List ℕ → ℕ → Bool
binds_in [] n = false
binds_in (b ∷ bs) n = if nat_eq b n then true else binds_in bs n

-- slots or none, and a term behind them
abbrev pub begins_bound : List Token → Bool
begins_bound [] = false
begins_bound (Leaf n ∷ ts) = true
begins_bound (Bracket n ∷ ts) = true
begins_bound (Close ∷ ts) = false
begins_bound (Slot x ∷ ts) = begins_bound ts
begins_bound (Value v ∷ ts) = true

mutual
  pub data IsTermOf (binds : ℕ → Bool) (values : ℕ → DTerm → Type 0) : (ℕ → ℕ) → List Token → DTerm → Type 0 where
    -- an operator alone
    leaf : {ρ : ℕ → ℕ} (n : ℕ) → IsTermOf binds values ρ (Leaf n ∷ []) (node n [] stop)
    -- an operator with arguments, in brackets
    bracket : {ρ : ℕ → ℕ} (n : ℕ) {ts : List Token} {a : DArgs} → AreArgumentsOf binds values n ρ ts a →
        IsTermOf binds values ρ (Bracket n ∷ (ts ++ Close ∷ [])) (node n [] a)
    -- a value: its free names are names outside
    value : {ρ : ℕ → ℕ} (v : ℕ) {d : DTerm} → values v d → IsTermOf binds values ρ (Value v ∷ []) (moved ρ d)

  pub data AreArgumentsOf (binds : ℕ → Bool) (values : ℕ → DTerm → Type 0) : ℕ → (ℕ → ℕ) → List Token → DArgs → Type 0 where
    none : {n : ℕ} {ρ : ℕ → ℕ} → AreArgumentsOf binds values n ρ [] stop
    -- a slot that does not bind: that of an operator that binds none, or one that no term follows, with slots between or not
    slot : {n : ℕ} {ρ : ℕ → ℕ} (x : ℕ) {ts : List Token} {a : DArgs} → (binds n && begins_bound ts) ≡ false → AreArgumentsOf binds values n ρ ts a →
        AreArgumentsOf binds values n ρ (Slot x ∷ ts) (place (ρ x) a)
    term : {n : ℕ} {ρ : ℕ → ℕ} {cs ts : List Token} {d : DTerm} {a : DArgs} → IsTermOf binds values ρ cs d → AreArgumentsOf binds values n ρ ts a →
        AreArgumentsOf binds values n ρ (cs ++ ts) (child_before d a)
    -- a slot that binds in the term behind it
    bound : {n : ℕ} {ρ : ℕ → ℕ} (x : ℕ) {cs ts : List Token} {i a : DArgs} → binds n ≡ true → IsBoundIn binds values (extend x ρ) cs i →
        AreArgumentsOf binds values n ρ ts a → AreArgumentsOf binds values n ρ (Slot x ∷ (cs ++ ts)) (scope i a)

  -- what stands behind a slot that binds: a term, or another slot that binds in the term behind it
  pub data IsBoundIn (binds : ℕ → Bool) (values : ℕ → DTerm → Type 0) : (ℕ → ℕ) → List Token → DArgs → Type 0 where
    body : {ρ : ℕ → ℕ} {cs : List Token} {d : DTerm} → IsTermOf binds values ρ cs d → IsBoundIn binds values ρ cs (child_before d stop)
    also : {ρ : ℕ → ℕ} (x : ℕ) {cs : List Token} {i : DArgs} → IsBoundIn binds values (extend x ρ) cs i → IsBoundIn binds values ρ (Slot x ∷ cs) (scope i stop)

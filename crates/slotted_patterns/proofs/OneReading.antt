-- Each text reads in at most one way.
use Rattle.std.proofs.Common.{◌≡◌, ℕ, true, false, List, [], ◌∷◌, refl, sym, subst, ap, ◌∙◌}
use Rattle.std.specs.Prelude.{Option}
use Rattle.slotted_slots.specs.Syntax.{Element, Lexeme}
use Rattle.slotted_slots.specs.Table.{Table}
use Rattle.slotted_nodes.specs.Form.{Form}
use Rattle.slotted_patterns.specs.Tree.{PatternTree}
use Rattle.slotted_patterns.specs.Outcome.{PatternOutcome}
use Rattle.slotted_patterns.specs.Grammar.{Reading, Bracket, one_text, one_slot, one_child, after, node, ReadsPattern, based, ReadsBase, of_variable, alone, bracket, no_operator, no_base, ReadsBracket, end, then_slot, then_child, ReadsOnAfter, goes_on, faulty_child, ReadsSubstitutions, no_substitution, substituted, faulty_base, ReadsValue, becomes, no_becomes, faulty_place, ReadsClose, closed, not_closed, faulty_value, whole}
use Rattle.slotted_patterns.specs.Tokens.{Next, nothing, token, refused, next_token, BeginsWith}
use Rattle.slotted_patterns.specs.Parsed.{TokensRead, as_pattern, PatternReads, without_tokens, by_tokens}
use Rattle.slotted_patterns.proofs.Tokenizing.{IsEnd}

true≢false : {P : Type 0} → true ≡ false → P
true≢false p = absurd (cc)

module _ (read : List Element → Option Form) where
  mutual
    one_pattern : {ls : List Lexeme} {r s : Reading PatternTree} → ReadsPattern read ls r → ReadsPattern read ls s → r ≡ s
    one_pattern (based d k) (based {r = s} d' k') = one_substitutions k (subst (λ b. ReadsSubstitutions read b s) (sym (one_base d d')) k')

    one_base : {ls : List Lexeme} {r s : Reading PatternTree} → ReadsBase read ls r → ReadsBase read ls s → r ≡ s
    one_base of_variable of_variable = refl
    one_base of_variable (no_base e) = true≢false e
    one_base alone alone = refl
    one_base alone (no_base e) = true≢false e
    one_base (bracket {w = w} d) (bracket d') = ap (λ r. node read (after (one_text w) r)) (one_bracket d d')
    one_base (bracket d) (no_operator e) = true≢false e
    one_base (bracket d) (no_base e) = true≢false e
    one_base (no_operator e) (bracket d) = true≢false e
    one_base (no_operator e) (no_operator e') = refl
    one_base (no_operator e) (no_base e') = true≢false e'
    one_base (no_base e) of_variable = true≢false e
    one_base (no_base e) alone = true≢false e
    one_base (no_base e) (bracket d) = true≢false e
    one_base (no_base e) (no_operator e') = true≢false e
    one_base (no_base e) (no_base e') = refl

    one_bracket : {ls : List Lexeme} {r s : Reading Bracket} → ReadsBracket read ls r → ReadsBracket read ls s → r ≡ s
    one_bracket end end = refl
    one_bracket end (then_child e d k) = true≢false e
    one_bracket (then_slot {s = s} d) (then_slot d') = ap (after (one_slot s)) (one_bracket d d')
    one_bracket (then_slot d) (then_child e d' k) = true≢false e
    one_bracket (then_child e d k) end = true≢false e
    one_bracket (then_child e d k) (then_slot d') = true≢false e
    one_bracket (then_child e d k) (then_child {r = s} e' d' k') = one_rest k (subst (λ p. ReadsOnAfter read p s) (sym (one_pattern d d')) k')

    one_rest : {p : Reading PatternTree} {r s : Reading Bracket} → ReadsOnAfter read p r → ReadsOnAfter read p s → r ≡ s
    one_rest (goes_on {p = p} d) (goes_on d') = ap (after (one_child p)) (one_bracket d d')
    one_rest faulty_child faulty_child = refl

    one_substitutions : {b r s : Reading PatternTree} → ReadsSubstitutions read b r → ReadsSubstitutions read b s → r ≡ s
    one_substitutions (no_substitution e) (no_substitution e') = refl
    one_substitutions (no_substitution e) (substituted d k) = true≢false e
    one_substitutions (substituted d k) (no_substitution e) = true≢false e
    one_substitutions (substituted {b = b} d k) (substituted {r = s} d' k') = one_value k (subst (λ x. ReadsValue read b x s) (sym (one_pattern d d')) k')
    one_substitutions faulty_base faulty_base = refl

    one_value : {b : PatternTree} {x r s : Reading PatternTree} → ReadsValue read b x r → ReadsValue read b x s → r ≡ s
    one_value (becomes {b = b} {x = x} d k) (becomes {r = s} d' k') = one_close k (subst (λ t. ReadsClose read b x t s) (sym (one_pattern d d')) k')
    one_value (becomes d k) (no_becomes e) = true≢false e
    one_value (no_becomes e) (becomes d k) = true≢false e
    one_value (no_becomes e) (no_becomes e') = refl
    one_value faulty_place faulty_place = refl

    one_close : {b x : PatternTree} {t r s : Reading PatternTree} → ReadsClose read b x t r → ReadsClose read b x t s → r ≡ s
    one_close (closed d) (closed d') = one_substitutions d d'
    one_close (closed d) (not_closed e) = true≢false e
    one_close (not_closed e) (closed d) = true≢false e
    one_close (not_closed e) (not_closed e') = refl
    one_close faulty_value faulty_value = refl

  one_outcome : {ls : List Lexeme} {o p : PatternOutcome} → TokensRead read ls o → TokensRead read ls p → o ≡ p
  one_outcome (as_pattern d) (as_pattern d') = ap whole (one_pattern d d')

-- a token is no end
no_token_at_end : (x y : Next) {P : Type 0} → IsEnd x → (l : Lexeme) (rest : List ℕ) (t : Table) → y ≡ x → y ≡ token l rest t → P
no_token_at_end x y h l rest t p q = absurd (subst IsEnd (sym p ∙ q) h)

-- the same tokens, the same table, and the same end
one_beginning : (t : Table) (cs : List ℕ) (ls ms : List Lexeme) (rest rest' : List ℕ) (u u' : Table) (x y : Next) → IsEnd x → IsEnd y → BeginsWith t cs ls rest u → next_token u rest ≡ x → BeginsWith t cs ms rest' u' → next_token u' rest' ≡ y → (ls ≡ ms) × (u ≡ u') × (x ≡ y)
one_beginning t cs [] [] rest rest' u u' x y i j h p k q =
    (refl, h.1 ∙ sym k.1, sym p ∙ ((λ i. next_token (h.1 i) (h.0 i)) ∙ ((λ i. next_token (sym k.1 i) (sym k.0 i)) ∙ q)))
one_beginning t cs [] (m ∷ ms) rest rest' u u' x y i j h p k q = no_token_at_end x (next_token t cs) i m k.0 k.1 ((λ i. next_token (sym h.1 i) (sym h.0 i)) ∙ p) k.2
one_beginning t cs (l ∷ ls) [] rest rest' u u' x y i j h p k q = no_token_at_end y (next_token t cs) j l h.0 h.1 ((λ i. next_token (sym k.1 i) (sym k.0 i)) ∙ q) h.2
one_beginning t cs (l ∷ ls) (m ∷ ms) rest rest' u u' x y i j h p k q =
    let e = sym h.2 ∙ k.2 in
    let same_lexeme : l ≡ m = cc in
    let same_rest : h.0 ≡ k.0 = cc in
    let same_table : h.1 ≡ k.1 = cc in
    let r = one_beginning h.1 h.0 ls ms rest rest' u u' x y i j h.3 p (subst (λ c. BeginsWith h.1 c ms rest' u') (sym same_rest) (subst (λ v. BeginsWith v k.0 ms rest' u') (sym same_table) k.3)) q in
    (λ i. same_lexeme i ∷ r.0 i, r.1, r.2)

module _ (read : List Element → Option Form) where
  -- one text, one outcome, and one table
  pub one_reading : (t : Table) (cs : List ℕ) (o p : PatternOutcome) (u v : Table) → PatternReads read t cs o u → PatternReads read t cs p v → (o ≡ p) × (u ≡ v)
  one_reading t cs o p u v (without_tokens h) (without_tokens k) =
      let r = one_beginning t cs h.0 k.0 h.1 k.1 u v (refused o) (refused p) tt tt h.2 h.3 k.2 k.3 in
      let e = r.2 in
      (cc, r.1)
  one_reading t cs o p u v (without_tokens h) (by_tokens {ls = ls} k d) =
      let r = one_beginning t cs h.0 ls h.1 k.0 u v (refused o) nothing tt tt h.2 h.3 k.1 k.2 in
      let e = r.2 in
      absurd (cc)
  one_reading t cs o p u v (by_tokens {ls = ls} h d) (without_tokens k) =
      let r = one_beginning t cs ls k.0 h.0 k.1 u v nothing (refused p) tt tt h.1 h.2 k.2 k.3 in
      let e = r.2 in
      absurd (cc)
  one_reading t cs o p u v (by_tokens {ls = ls} h d) (by_tokens {ls = ms} k d') =
      let r = one_beginning t cs ls ms h.0 k.0 u v nothing nothing tt tt h.1 h.2 k.1 k.2 in
      (one_outcome read d (subst (λ ls. TokensRead read ls p) (sym r.0) d'), r.1)

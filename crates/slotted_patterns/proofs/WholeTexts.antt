-- What the tokens of a whole text read as.
use Rattle.std.proofs.Common.{◌≡◌, List, [], ◌∷◌, length, refl, subst, sym, arith}
use Rattle.std.specs.Prelude.{map, Option}
use Rattle.slotted_slots.specs.Syntax.{Element, Lexeme, lexeme_of, too_much}
use Rattle.slotted_slots.specs.declared.parse.Token.{Token}
use Rattle.slotted_slots.specs.declared.error.Error.{Error}
use Rattle.slotted_nodes.specs.Form.{Form}
use Rattle.slotted_patterns.specs.Tree.{PatternTree}
use Rattle.slotted_patterns.specs.Outcome.{parsed, outside, Refuses}
use Rattle.slotted_patterns.specs.Grammar.{found, fault, ReadsPattern}
use Rattle.slotted_patterns.specs.Parsed.{TokensRead, as_pattern}
use Rattle.slotted_patterns.specs.Reader.{IsFaultOf}
use Rattle.slotted_patterns.proofs.Refusals.{Refuses-weaker}

module _ (read : List Element → Option Form) (ls : List Lexeme) where
  pub reads_whole : (p : PatternTree) (rest : List Token) → ReadsPattern read ls (found p (map lexeme_of rest)) → length rest ≡ 0 → TokensRead read ls (parsed p)
  reads_whole p [] d e = as_pattern d
  reads_whole p (x ∷ xs) d e = absurd (omega (arith, e))

  pub reads_more : (p : PatternTree) (rest : List Token) → ReadsPattern read ls (found p (map lexeme_of rest)) → (length rest ≡ 0 → ⊥) → TokensRead read ls (outside (too_much (map lexeme_of rest)))
  reads_more p [] d e = absurd (e refl)
  reads_more p (x ∷ xs) d e = as_pattern d

  pub refuses_tokens : (e : Error) → Refuses (IsFaultOf read ls) e → Refuses (TokensRead read ls) e
  refuses_tokens e h = Refuses-weaker (IsFaultOf read ls) (TokensRead read ls) e h (λ o q. subst (TokensRead read ls) (sym q.1) (as_pattern {r = fault q.0} q.2))

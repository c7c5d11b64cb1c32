-- What a substitution of a rule is.
use Rattle.std.proofs.Common.{◌≡◌, ℕ, List, sym, subst}
use Rattle.slotted_theory.specs.Nameless.{DTerm}
use Rattle.slotted_check.specs.declared.pieces.Piece.{Piece}
use Rattle.slotted_check.specs.Rows.{row, IsPlain}
use Rattle.slotted_certificates.specs.declared.puts.Put.{Put}
use Rattle.slotted_certificates.specs.declared.tokens.Token.{Token}
use Rattle.slotted_certificates.specs.Meaning.{IsInstance}
use Rattle.slotted_certificates.specs.Puts.{IsPut}
use Rattle.slotted_certificates.specs.Turning.{IsSubstitutedRow}

pub put-made : (bs : List ℕ) (vs : List (List Piece)) (p : Put) (body part value r : List Piece) → IsInstance bs vs p.body.items body → IsInstance bs vs p.part.items part →
    IsInstance bs vs p.value.items value → ((x t b : DTerm) → IsPlain x → IsPlain t → IsPlain b → part ≡ row x → value ≡ row t → body ≡ row b → IsSubstitutedRow x t b r) → IsPut bs vs p r
put-made bs vs p body part value r b x t h =
    let s = h x.term t.term b.term x.plain t.plain b.plain x.pieces t.pieces b.pieces in
    record {
      body = b.term;
      part = x.term;
      value = t.term;
      result = s.term;
      body_is = b.is;
      part_is = x.is;
      value_is = t.is;
      puts = s.is;
      plain = s.plain;
      pieces = s.pieces;
    }

-- an answer of code for parts that were borrowed
pub instance-of : (bs : List ℕ) (vs : List (List Piece)) (ts us : List Token) (ps qs : List Piece) → us ≡ ts → qs ≡ ps → IsInstance bs vs us ps → IsInstance bs vs ts qs
instance-of bs vs ts us ps qs e f h = subst (λ u. u) (λ i. IsInstance bs vs (e i) (sym f i)) h

-- the same for values and parts that were borrowed
pub instance-among : (bs : List ℕ) (ws vs : List (List Piece)) (us ts : List Token) (ps : List Piece) → ws ≡ vs → us ≡ ts → IsInstance bs ws us ps → IsInstance bs vs ts ps
instance-among bs ws vs us ts ps e f h = subst (λ u. u) (λ i. IsInstance bs (e i) (f i) ps) h

-- One part more in front of what ends all that is open.
use Rattle.std.proofs.Common.{◌≡◌, ◌≢◌, ℕ, List, [], ◌∷◌, ◌++◌, sym, ◌∙◌, ap, refl, subst, append_assoc, append-nil}
use Rattle.std.specs.Prelude.{Bool, true, false, ◌&&◌}
use Rattle.slotted_theory.specs.Nameless.{DTerm, extend, stop, moved}
use Rattle.slotted_theory.proofs.Values.{node, child_before}
use Rattle.slotted_check.specs.declared.pieces.Piece.{Piece}
use Rattle.slotted_check.specs.declared.pieces.Piece.TheVariants.{Head, Name}
use Rattle.slotted_check.specs.declared.pieces.Piece.TheVariants as piece
use Rattle.slotted_check.specs.Rows.{closing, leaving, row, row_args, IsPlain}
use Rattle.slotted_certificates.specs.declared.tokens.Token.{Token}
use Rattle.slotted_certificates.specs.declared.tokens.Token.TheVariants.{Leaf, Bracket, Close, Slot, Value}
use Rattle.slotted_certificates.specs.declared.frames.Frame.{Frame}
use Rattle.slotted_certificates.specs.declared.frames.Frame.TheVariants.{Root, Node, Scope, Also}
use Rattle.slotted_certificates.specs.Grammar.{IsTermOf, begins_bound, none, slot, term, bound, body, also, leaf, bracket, value}
use Rattle.slotted_certificates.specs.Frames.{Before, BeginsBound, BeginsTerm, Behind, EndsNode, EndsScope, Rest, scopes_of}
use Rattle.slotted_certificates.specs.Scopes.{numbering}

-- a term in front of arguments
term-ends-node : (b : ℕ → Bool) (v : ℕ → DTerm → Type 0) (n : ℕ) (ρ : ℕ → ℕ) (R : Rest) (cs : List Token) (d : DTerm) (ts : List Token) (ps : List Piece) →
    IsTermOf b v ρ cs d → IsPlain d → EndsNode b v n ρ R ts ps → EndsNode b v n ρ R (cs ++ ts) (row d ++ ps)
term-ends-node b v n ρ R cs d ts ps is plain h = record {
  tokens = cs ++ h.tokens;
  args = child_before d h.args;
  later = h.later;
  more = h.more;
  are = term is h.are;
  plain = (plain.0, plain.1, h.plain);
  text = ap (λ u. cs ++ u) h.text ∙ sym (append_assoc cs h.tokens (Close ∷ h.later));
  pieces = ap (λ u. row d ++ u) h.pieces ∙ sym (append_assoc (row d) (row_args closing h.args) h.more);
  rest = h.rest;
}

begins : (b : ℕ → Bool) (v : ℕ → DTerm → Type 0) (ρ : ℕ → ℕ) (R : Rest) (cs : List Token) (d : DTerm) (ts : List Token) (ps : List Piece) →
    IsTermOf b v ρ cs d → IsPlain d → R ts ps → BeginsTerm b v ρ R (cs ++ ts) (row d ++ ps)
begins b v ρ R cs d ts ps is plain h = record { tokens = cs; term = d; later = ts; more = ps; is = is; plain = plain; text = refl; pieces = refl; rest = h }

-- a term that slots bind in, and the end of their scopes
begins-bound : (b : ℕ → Bool) (v : ℕ → DTerm → Type 0) (ρ : ℕ → ℕ) (R : Rest) (cs : List Token) (d : DTerm) (ts : List Token) (ps : List Piece) →
    IsTermOf b v ρ cs d → IsPlain d → EndsScope R ts ps → BeginsBound b v ρ R (cs ++ ts) (row d ++ ps)
begins-bound b v ρ R cs d ts ps is plain h = record {
  tokens = cs;
  inner = child_before d stop;
  later = ts;
  more = h.more;
  is = body is;
  plain = (plain.0, plain.1, tt);
  text = refl;
  pieces = ap (λ u. row d ++ u) h.pieces ∙ ap (λ u. Head d.op ∷ u) (sym (append_assoc (row_args closing d.args) (piece.Leave ∷ []) h.more));
  rest = h.rest;
}

-- a term, inside any frame
pub term-stands : (b : ℕ → Bool) (v : ℕ → DTerm → Type 0) (fs : List Frame) (cs : List Token) (d : DTerm) (ts : List Token) (ps : List Piece) → fs ≢ [] →
    IsTermOf b v (numbering (scopes_of fs)) cs d → IsPlain d → Behind b v fs ts ps → Before b v fs (cs ++ ts) (row d ++ ps)
term-stands b v [] cs d ts ps n is plain h = absurd (n refl)
term-stands b v (Root ∷ fs) cs d ts ps n is plain h = begins b v (numbering (scopes_of fs)) (Behind b v fs) cs d ts ps is plain h
term-stands b v (Node m ∷ fs) cs d ts ps n is plain h = term-ends-node b v m (numbering (scopes_of fs)) (Behind b v fs) cs d ts ps is plain h
term-stands b v (Scope x m ∷ fs) cs d ts ps n is plain h =
    begins-bound b v (numbering (x ∷ scopes_of fs)) (EndsNode b v m (numbering (scopes_of fs)) (Behind b v fs)) cs d ts ps is plain h
term-stands b v (Also x ∷ fs) cs d ts ps n is plain h = begins-bound b v (numbering (x ∷ scopes_of fs)) (Behind b v fs) cs d ts ps is plain h

pub leaf-stands : (b : ℕ → Bool) (v : ℕ → DTerm → Type 0) (fs : List Frame) (n : ℕ) (ts : List Token) (ps : List Piece) → fs ≢ [] →
    Behind b v fs ts ps → Before b v fs (Leaf n ∷ ts) (Head n ∷ piece.Close ∷ ps)
leaf-stands b v fs n ts ps some h = term-stands b v fs (Leaf n ∷ []) (node n [] stop) ts ps some (leaf n) (refl, tt) h

pub value-stands : (b : ℕ → Bool) (v : ℕ → DTerm → Type 0) (fs : List Frame) (k : ℕ) (d : DTerm) (ts : List Token) (ps : List Piece) → fs ≢ [] →
    v k d → IsPlain (moved (numbering (scopes_of fs)) d) → Behind b v fs ts ps → Before b v fs (Value k ∷ ts) (row (moved (numbering (scopes_of fs)) d) ++ ps)
value-stands b v fs k d ts ps some is plain h = term-stands b v fs (Value k ∷ []) (moved (numbering (scopes_of fs)) d) ts ps some (value k is) plain h

-- an opening bracket
pub bracket-stands : (b : ℕ → Bool) (v : ℕ → DTerm → Type 0) (fs : List Frame) (n : ℕ) (ts : List Token) (ps : List Piece) → fs ≢ [] →
    Before b v (Node n ∷ fs) ts ps → Before b v fs (Bracket n ∷ ts) (Head n ∷ ps)
bracket-stands b v fs n ts ps some h =
    let text : Bracket n ∷ ts ≡ (Bracket n ∷ (h.tokens ++ Close ∷ [])) ++ h.later = ap (λ u. Bracket n ∷ u) (h.text ∙ sym (append_assoc h.tokens (Close ∷ []) h.later)) in
    let pieces : Head n ∷ ps ≡ row (node n [] h.args) ++ h.more = ap (λ u. Head n ∷ u) h.pieces in
    subst (λ u. u) (λ i. Before b v fs (sym text i) (sym pieces i))
    (term-stands b v fs (Bracket n ∷ (h.tokens ++ Close ∷ [])) (node n [] h.args) h.later h.more some (bracket n h.are) (refl, h.plain) h.rest)

-- a closing bracket
pub close-stands : (b : ℕ → Bool) (v : ℕ → DTerm → Type 0) (fs : List Frame) (n : ℕ) (ts : List Token) (ps : List Piece) →
    Behind b v fs ts ps → Before b v (Node n ∷ fs) (Close ∷ ts) (piece.Close ∷ ps)
close-stands b v fs n ts ps h = record { tokens = []; args = stop; later = ts; more = ps; are = none; plain = tt; text = refl; pieces = refl; rest = h }

-- whether arguments begin with what slots bind in does not depend on what ends them
begins-inside : (cs later : List Token) → begins_bound (cs ++ Close ∷ later) ≡ begins_bound cs
begins-inside [] later = refl
begins-inside (Leaf n ∷ cs) later = refl
begins-inside (Bracket n ∷ cs) later = refl
begins-inside (Close ∷ cs) later = refl
begins-inside (Slot x ∷ cs) later = begins-inside cs later
begins-inside (Value v ∷ cs) later = refl

-- a slot that does not bind
pub slot-stands : (b : ℕ → Bool) (v : ℕ → DTerm → Type 0) (fs : List Frame) (n x : ℕ) (ts : List Token) (ps : List Piece) → (b n && begins_bound ts) ≡ false →
    Before b v (Node n ∷ fs) ts ps → Before b v (Node n ∷ fs) (Slot x ∷ ts) (Name (numbering (scopes_of fs) x) ∷ ps)
slot-stands b v fs n x ts ps free h = record {
  tokens = Slot x ∷ h.tokens;
  args = _;
  later = h.later;
  more = h.more;
  are = slot x (ap (λ c. b n && c) (sym (begins-inside h.tokens h.later) ∙ sym (ap begins_bound h.text)) ∙ free) h.are;
  plain = h.plain;
  text = ap (λ u. Slot x ∷ u) h.text;
  pieces = ap (λ u. Name (numbering (scopes_of fs) x) ∷ u) h.pieces;
  rest = h.rest;
}

-- a slot that binds
pub binder-stands : (b : ℕ → Bool) (v : ℕ → DTerm → Type 0) (fs : List Frame) (n x : ℕ) (ts : List Token) (ps : List Piece) → b n ≡ true →
    Before b v (Scope x n ∷ fs) ts ps → Before b v (Node n ∷ fs) (Slot x ∷ ts) (piece.Scope ∷ ps)
binder-stands b v fs n x ts ps binds h =
    let rest = h.rest in
    record {
      tokens = Slot x ∷ (h.tokens ++ rest.tokens);
      args = _;
      later = rest.later;
      more = rest.more;
      are = bound x binds h.is rest.are;
      plain = (h.plain, rest.plain);
      text = ap (λ u. Slot x ∷ u) (h.text ∙ (ap (λ u. h.tokens ++ u) rest.text ∙ sym (append_assoc h.tokens rest.tokens (Close ∷ rest.later))));
      pieces = ap (λ u. piece.Scope ∷ u) (h.pieces ∙ (ap (λ u. row_args leaving h.inner ++ u) rest.pieces
          ∙ sym (append_assoc (row_args leaving h.inner) (row_args closing rest.args) rest.more)));
      rest = rest.rest;
    }

-- another slot that binds in the same term
binds-also : (b : ℕ → Bool) (v : ℕ → DTerm → Type 0) (ρ : ℕ → ℕ) (R : Rest) (x : ℕ) (ts : List Token) (ps : List Piece) →
    BeginsBound b v (extend x ρ) (EndsScope R) ts ps → BeginsBound b v ρ R (Slot x ∷ ts) (piece.Scope ∷ ps)
binds-also b v ρ R x ts ps h = record {
  tokens = Slot x ∷ h.tokens;
  inner = _;
  later = h.later;
  more = h.rest.more;
  is = also x h.is;
  plain = (h.plain, tt);
  text = ap (λ u. Slot x ∷ u) h.text;
  pieces = ap (λ u. piece.Scope ∷ u) (h.pieces ∙ (ap (λ u. row_args leaving h.inner ++ u) h.rest.pieces
      ∙ sym (append_assoc (row_args leaving h.inner) (piece.Leave ∷ []) h.rest.more)));
  rest = h.rest.rest;
}

pub scope-also : (b : ℕ → Bool) (v : ℕ → DTerm → Type 0) (fs : List Frame) (n y x : ℕ) (ts : List Token) (ps : List Piece) →
    Before b v (Also x ∷ Scope y n ∷ fs) ts ps → Before b v (Scope y n ∷ fs) (Slot x ∷ ts) (piece.Scope ∷ ps)
scope-also b v fs n y x ts ps h = binds-also b v (numbering (y ∷ scopes_of fs)) (EndsNode b v n (numbering (scopes_of fs)) (Behind b v fs)) x ts ps h

pub also-also : (b : ℕ → Bool) (v : ℕ → DTerm → Type 0) (fs : List Frame) (y x : ℕ) (ts : List Token) (ps : List Piece) →
    Before b v (Also x ∷ Also y ∷ fs) ts ps → Before b v (Also y ∷ fs) (Slot x ∷ ts) (piece.Scope ∷ ps)
also-also b v fs y x ts ps h = binds-also b v (numbering (y ∷ scopes_of fs)) (Behind b v fs) x ts ps h

-- the end of a scope
pub scope-ends : (b : ℕ → Bool) (v : ℕ → DTerm → Type 0) (fs : List Frame) (n x : ℕ) (ts : List Token) (ps : List Piece) →
    Before b v (Node n ∷ fs) ts ps → Behind b v (Scope x n ∷ fs) ts (piece.Leave ∷ ps)
scope-ends b v fs n x ts ps h = record { more = ps; pieces = refl; rest = h }

-- the whole text is that of a term
pub whole-term : (b : ℕ → Bool) (v : ℕ → DTerm → Type 0) (ts : List Token) (ps : List Piece) (h : Before b v (Root ∷ []) ts ps) →
    (IsTermOf b v (λ y. y) ts h.term) × (ps ≡ row h.term)
whole-term b v ts ps h =
    let text : ts ≡ h.tokens = h.text ∙ (ap (λ u. h.tokens ++ u) h.rest.0 ∙ append-nil h.tokens) in
    (subst (λ u. IsTermOf b v (λ y. y) u h.term) (sym text) h.is, h.pieces ∙ (ap (λ u. row h.term ++ u) h.rest.1 ∙ append-nil (row h.term)))

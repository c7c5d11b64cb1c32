-- What going past a part of a text does to the row that is made, and to what is open.
use Rattle.std.proofs.Common.{◌≡◌, ◌≢◌, ℕ, zero, suc, List, [], ◌∷◌, ◌++◌, sym, ◌∙◌, ap, refl, subst, append_assoc, append-nil, length, arith}
use Rattle.std.specs.Prelude.{Bool, true, false, ◌&&◌, Option, Some, None, slice_get}
use Rattle.std.proofs.lemmas.Option.{none-some}
use Rattle.slotted_theory.specs.Nameless.{DTerm, moved}
use Rattle.slotted_check.specs.declared.pieces.Piece.{Piece}
use Rattle.slotted_check.specs.declared.pieces.Piece.TheVariants.{Head, Name}
use Rattle.slotted_check.specs.declared.pieces.Piece.TheVariants as piece
use Rattle.slotted_check.specs.Lines.{IsTermRow}
use Rattle.slotted_check.specs.Rows.{moved_row, row}
use Rattle.slotted_check.proofs.MovedRows.{IsPlain-moved}
use Rattle.slotted_check.proofs.StepLaws.{moved_row-alone}
use Rattle.slotted_certificates.specs.declared.tokens.Token.{Token}
use Rattle.slotted_certificates.specs.declared.tokens.Token.TheVariants.{Leaf, Bracket, Close, Slot, Value}
use Rattle.slotted_certificates.specs.declared.frames.Frame.{Frame}
use Rattle.slotted_certificates.specs.declared.frames.Frame.TheVariants.{Root, Node, Scope, Also}
use Rattle.slotted_certificates.specs.Grammar.{begins_bound, binds_in}
use Rattle.slotted_certificates.specs.Frames.{Advances, Before, Behind, EndsScopes, EndsTerm, IsScope, Passes, frames, scopes_of}
use Rattle.slotted_certificates.specs.Meaning.{AreTermRows, IsInstance, IsValueIn}
use Rattle.slotted_certificates.specs.Scopes.{numbering, turned}
use Rattle.slotted_certificates.proofs.Levels.{turned-more}
use Rattle.slotted_certificates.proofs.FrameSteps.{also-also, scope-also, binder-stands, bracket-stands, close-stands, leaf-stands, slot-stands, value-stands, whole-term}

frames-more : (fs gs : List Frame) (f : Frame) → gs ≡ fs ++ f ∷ [] → frames gs ≡ f ∷ frames fs
frames-more fs gs f e = ap frames e ∙ turned-more fs [] f

turned-some : {A : Type 0} (xs ys : List A) (y : A) → turned xs (y ∷ ys) ≢ []
turned-some [] ys y e = let n : length (y ∷ ys) ≡ 0 = ap length e in absurd (omega arith)
turned-some (x ∷ xs) ys y e = turned-some xs (y ∷ ys) x e

frames-some : (fs : List Frame) → fs ≢ [] → frames fs ≢ []
frames-some [] n e = n refl
frames-some (f ∷ fs) n e = turned-some fs [] f e

-- a row with one piece more, and then others
one-more : (row row1 row' ps : List Piece) (p : Piece) → row1 ≡ row ++ p ∷ [] → row' ≡ row1 ++ ps → row' ≡ row ++ p ∷ ps
one-more row row1 row' ps p e f = f ∙ (ap (λ u. u ++ ps) e ∙ append_assoc row (p ∷ []) ps)

pub leaf-passes : (b : ℕ → Bool) (v : ℕ → DTerm → Type 0) (row row1 row2 row' : List Piece) (fs fs' : List Frame) (n : ℕ) (next : Bool) →
    row1 ≡ row ++ Head n ∷ [] → row2 ≡ row1 ++ piece.Close ∷ [] → fs ≢ [] → EndsTerm b v row2 row' fs fs' → Passes b v row row' fs fs' (Leaf n) next
leaf-passes b v row row1 row2 row' fs fs' n next one two some e = record {
  pieces = Head n ∷ piece.Close ∷ e.pieces;
  made = one-more row row1 row' (piece.Close ∷ e.pieces) (Head n) one (one-more row1 row2 row' e.pieces piece.Close two e.made);
  goes = λ ts ps _ h. leaf-stands b v (frames fs) n ts (e.pieces ++ ps) (frames-some fs some) (e.goes ts ps h);
}

pub bracket-passes : (b : ℕ → Bool) (v : ℕ → DTerm → Type 0) (row row' : List Piece) (fs fs' : List Frame) (n : ℕ) (next : Bool) →
    row' ≡ row ++ Head n ∷ [] → fs' ≡ fs ++ Node n ∷ [] → fs ≢ [] → Passes b v row row' fs fs' (Bracket n) next
bracket-passes b v row row' fs fs' n next one more some = record {
  pieces = Head n ∷ [];
  made = one;
  goes = λ ts ps _ h. bracket-stands b v (frames fs) n ts ps (frames-some fs some) (subst (λ gs. Before b v gs ts ps) (frames-more fs fs' (Node n) more) h);
}

pub close-passes : (b : ℕ → Bool) (v : ℕ → DTerm → Type 0) (row row1 row' : List Piece) (fs fs1 fs' : List Frame) (n : ℕ) (next : Bool) →
    row1 ≡ row ++ piece.Close ∷ [] → fs ≡ fs1 ++ Node n ∷ [] → EndsTerm b v row1 row' fs1 fs' → Passes b v row row' fs fs' Close next
close-passes b v row row1 row' fs fs1 fs' n next one last e = record {
  pieces = piece.Close ∷ e.pieces;
  made = one-more row row1 row' e.pieces piece.Close one e.made;
  goes = λ ts ps _ h. subst (λ gs. Before b v gs (Close ∷ ts) (piece.Close ∷ (e.pieces ++ ps))) (sym (frames-more fs1 fs (Node n) last))
      (close-stands b v (frames fs1) n ts (e.pieces ++ ps) (e.goes ts ps h));
}

pub value-passes : (b : ℕ → Bool) (vs : List (List Piece)) (row0 row1 row' value : List Piece) (fs fs' : List Frame) (ns : List ℕ) (k : ℕ) (next : Bool) →
    slice_get vs k ≡ Some value → IsTermRow value → row1 ≡ row0 ++ moved_row (numbering ns) value → ns ≡ scopes_of (frames fs) → fs ≢ [] →
    EndsTerm b (IsValueIn vs) row1 row' fs fs' → Passes b (IsValueIn vs) row0 row' fs fs' (Value k) next
value-passes b vs row0 row1 row' value fs fs' ns k next among is one names some e =
    let ρ : ℕ → ℕ = numbering (scopes_of (frames fs)) in
    let seen : moved_row (numbering ns) value ≡ row (moved ρ is.term) = (λ i. moved_row (numbering (names i)) (is.is i)) ∙ moved_row-alone ρ is.term in
    record {
      pieces = row (moved ρ is.term) ++ e.pieces;
      made = e.made ∙ (ap (λ u. u ++ e.pieces) (one ∙ ap (λ u. row0 ++ u) seen) ∙ append_assoc row0 (row (moved ρ is.term)) e.pieces);
      goes = λ ts ps _ h. subst (λ u. Before b (IsValueIn vs) (frames fs) (Value k ∷ ts) u) (sym (append_assoc (row (moved ρ is.term)) e.pieces ps))
          (value-stands b (IsValueIn vs) (frames fs) k is.term ts (e.pieces ++ ps) (frames-some fs some)
          (record { among = among ∙ ap Some is.is; plain = is.plain }) (IsPlain-moved ρ is.term is.plain) (e.goes ts ps h));
    }

pub slot-passes : (b : ℕ → Bool) (v : ℕ → DTerm → Type 0) (row row' : List Piece) (fs fs1 fs' : List Frame) (ns : List ℕ) (n x m : ℕ) (next : Bool) →
    row' ≡ row ++ Name m ∷ [] → m ≡ numbering ns x → ns ≡ scopes_of (frames fs) → fs ≡ fs1 ++ Node n ∷ [] → fs' ≡ fs → (b n && next) ≡ false →
    Passes b v row row' fs fs' (Slot x) next
slot-passes b v row row' fs fs1 fs' ns n x m next one name names last same free =
    let inner : frames fs ≡ Node n ∷ frames fs1 = frames-more fs1 fs (Node n) last in
    let number : numbering (scopes_of (frames fs1)) x ≡ m = sym (name ∙ ap (λ u. numbering u x) (names ∙ ap scopes_of inner)) in
    record {
      pieces = Name m ∷ [];
      made = one;
      goes = λ ts ps begins h. subst (λ u. u) (λ i. Before b v (sym inner i) (Slot x ∷ ts) (Name (number i) ∷ ps))
          (slot-stands b v (frames fs1) n x ts ps (ap (λ c. b n && c) begins ∙ free) (subst (λ gs. Before b v gs ts ps) (ap frames same ∙ inner) h));
    }

-- the same where the operator was taken away and put back
pub name-passes : (b : ℕ → Bool) (v : ℕ → DTerm → Type 0) (row row' : List Piece) (fs fs' : List Frame) (ns : List ℕ) (n x m : ℕ) (next : Bool) →
    row' ≡ row ++ Name m ∷ [] → m ≡ numbering ns x → ns ≡ scopes_of (frames fs) → fs' ≡ fs ++ Node n ∷ [] → (b n && next) ≡ false →
    Passes b v row row' (fs ++ Node n ∷ []) fs' (Slot x) next
name-passes b v row row' fs fs' ns n x m next one name names same free =
    slot-passes b v row row' (fs ++ Node n ∷ []) fs fs' ns n x m next one name (names ∙ ap scopes_of (sym (frames-more fs (fs ++ Node n ∷ []) (Node n) refl))) refl same free

pub binder-passes : (b : ℕ → Bool) (v : ℕ → DTerm → Type 0) (row row' : List Piece) (fs fs1 fs' : List Frame) (n x : ℕ) (next : Bool) →
    row' ≡ row ++ piece.Scope ∷ [] → fs ≡ fs1 ++ Node n ∷ [] → fs' ≡ fs1 ++ Scope x n ∷ [] → b n ≡ true → Passes b v row row' fs fs' (Slot x) next
binder-passes b v row row' fs fs1 fs' n x next one last more binds = record {
  pieces = piece.Scope ∷ [];
  made = one;
  goes = λ ts ps _ h. subst (λ gs. Before b v gs (Slot x ∷ ts) (piece.Scope ∷ ps)) (sym (frames-more fs1 fs (Node n) last))
      (binder-stands b v (frames fs1) n x ts ps binds (subst (λ gs. Before b v gs ts ps) (frames-more fs1 fs' (Scope x n) more) h));
}

-- another slot that binds in the same term
also-stands : (b : ℕ → Bool) (v : ℕ → DTerm → Type 0) (f : Frame) (fs : List Frame) (x : ℕ) (ts : List Token) (ps : List Piece) → IsScope f →
    Before b v (Also x ∷ f ∷ fs) ts ps → Before b v (f ∷ fs) (Slot x ∷ ts) (piece.Scope ∷ ps)
also-stands b v Root fs x ts ps is h = absurd is
also-stands b v (Node n) fs x ts ps is h = absurd is
also-stands b v (Scope y n) fs x ts ps is h = scope-also b v fs n y x ts ps h
also-stands b v (Also y) fs x ts ps is h = also-also b v fs y x ts ps h

pub also-passes : (b : ℕ → Bool) (v : ℕ → DTerm → Type 0) (row row' : List Piece) (fs fs1 fs2 : List Frame) (f : Frame) (x : ℕ) (next : Bool) →
    row' ≡ row ++ piece.Scope ∷ [] → fs1 ≡ fs ++ f ∷ [] → fs2 ≡ fs1 ++ Also x ∷ [] → IsScope f → Passes b v row row' (fs ++ f ∷ []) fs2 (Slot x) next
also-passes b v row row' fs fs1 fs2 f x next one before more is =
    let outer : frames (fs ++ f ∷ []) ≡ f ∷ frames fs = frames-more fs (fs ++ f ∷ []) f refl in
    let inner : frames fs2 ≡ Also x ∷ f ∷ frames fs = frames-more fs1 fs2 (Also x) more ∙ ap (λ gs. Also x ∷ gs) (ap frames before ∙ outer) in
    record {
      pieces = piece.Scope ∷ [];
      made = one;
      goes = λ ts ps _ h. subst (λ gs. Before b v gs (Slot x ∷ ts) (piece.Scope ∷ ps)) (sym outer)
          (also-stands b v f (frames fs) x ts ps is (subst (λ gs. Before b v gs ts ps) inner h));
    }

-- one scope ends
pub also-ends : (b : ℕ → Bool) (v : ℕ → DTerm → Type 0) (row row' : List Piece) (fs fs' : List Frame) (x : ℕ) →
    row' ≡ row ++ piece.Leave ∷ [] → fs ≡ fs' ++ Also x ∷ [] → EndsScopes b v row row' fs fs'
also-ends b v row row' fs fs' x one last = record {
  pieces = piece.Leave ∷ [];
  made = one;
  goes = λ ts ps h. subst (λ gs. Behind b v gs ts (piece.Leave ∷ ps)) (sym (frames-more fs' fs (Also x) last)) (record { more = ps; pieces = refl; rest = h });
}

pub no-scopes-end : (b : ℕ → Bool) (v : ℕ → DTerm → Type 0) (row : List Piece) (fs : List Frame) → EndsScopes b v row row fs fs
no-scopes-end b v row fs = record { pieces = []; made = sym (append-nil row); goes = λ ts ps h. h }

pub more-scopes-end : (b : ℕ → Bool) (v : ℕ → DTerm → Type 0) (row row1 row2 : List Piece) (fs fs1 fs2 : List Frame) →
    EndsScopes b v row row1 fs fs1 → EndsScopes b v row1 row2 fs1 fs2 → EndsScopes b v row row2 fs fs2
more-scopes-end b v row row1 row2 fs fs1 fs2 e f = record {
  pieces = e.pieces ++ f.pieces;
  made = f.made ∙ (ap (λ u. u ++ f.pieces) e.made ∙ append_assoc row e.pieces f.pieces);
  goes = λ ts ps h. subst (λ u. Behind b v (frames fs) ts u) (sym (append_assoc e.pieces f.pieces ps)) (e.goes ts (f.pieces ++ ps) (f.goes ts ps h));
}

term-ends : (b : ℕ → Bool) (v : ℕ → DTerm → Type 0) (row row1 row2 : List Piece) (fs fs1 fs2 : List Frame) →
    EndsScopes b v row row1 fs fs1 → EndsTerm b v row1 row2 fs1 fs2 → EndsTerm b v row row2 fs fs2
term-ends b v row row1 row2 fs fs1 fs2 e f = record {
  pieces = e.pieces ++ f.pieces;
  made = f.made ∙ (ap (λ u. u ++ f.pieces) e.made ∙ append_assoc row e.pieces f.pieces);
  goes = λ ts ps h. subst (λ u. Behind b v (frames fs) ts u) (sym (append_assoc e.pieces f.pieces ps)) (e.goes ts (f.pieces ++ ps) (f.goes ts ps h));
}

pub term-ends-behind : (bs bs1 : List ℕ) (vs vs1 : List (List Piece)) (row row1 row2 : List Piece) (fs fs1 fs2 : List Frame) → bs1 ≡ bs → vs1 ≡ vs →
    EndsScopes (binds_in bs) (IsValueIn vs) row row1 fs fs1 → EndsTerm (binds_in bs1) (IsValueIn vs1) row1 row2 fs1 fs2 →
    EndsTerm (binds_in bs) (IsValueIn vs) row row2 fs fs2
term-ends-behind bs bs1 vs vs1 row row1 row2 fs fs1 fs2 binders values e f =
    term-ends (binds_in bs) (IsValueIn vs) row row1 row2 fs fs1 fs2 e (subst (λ u. u) (λ i. EndsTerm (binds_in (binders i)) (IsValueIn (values i)) row1 row2 fs1 fs2) f)

-- the value of an option, or else another one
abbrev value_or : List Piece → Option (List Piece) → List Piece
value_or d None = d
value_or d (Some ps) = ps

pub term-at : (vs : List (List Piece)) (k : ℕ) (ps : List Piece) → AreTermRows vs → slice_get vs k ≡ Some ps → IsTermRow ps
term-at [] zero ps h is = absurd (none-some ps is)
term-at [] (suc k) ps h is = absurd (none-some ps is)
term-at (v ∷ vs) zero ps h is = subst IsTermRow (ap (value_or v) is) h.0
term-at (v ∷ vs) (suc k) ps h is = term-at vs k ps h.1 is

pub passes-first : (b : ℕ → Bool) (v : ℕ → DTerm → Type 0) (row row' : List Piece) (fs fs' : List Frame) (ts us : List Token) (t : Token) (next : Bool) →
    ts ≡ t ∷ us → next ≡ begins_bound us → Passes b v row row' fs fs' t next → Advances b v row row' fs fs' ts us
passes-first b v row row' fs fs' ts us t next e begins h = record {
  pieces = h.pieces;
  made = h.made;
  goes = λ ps k. subst (λ u. Before b v (frames fs) u (h.pieces ++ ps)) (sym e) (h.goes us ps (sym begins) k);
  shorter = let n : length ts ≡ length (t ∷ us) = ap length e in omega arith;
}

-- where all parts are passed, and nothing is open, they were those of the term of the row
pub instance-made : (bs : List ℕ) (vs : List (List Piece)) (ts us : List Token) (ps : List Piece) (fs : List Frame) → us ≡ [] → fs ≡ [] →
    ((qs : List Piece) → Before (binds_in bs) (IsValueIn vs) (frames fs) us qs → Before (binds_in bs) (IsValueIn vs) (Root ∷ []) ts (ps ++ qs)) → IsInstance bs vs ts ps
instance-made bs vs ts us ps fs e f goes =
    let whole = goes [] (subst (λ u. u) (λ i. Before (binds_in bs) (IsValueIn vs) (frames (sym f i)) (sym e i) []) (refl, refl)) in
    let found = whole-term (binds_in bs) (IsValueIn vs) ts (ps ++ []) whole in
    record { term = whole.term; is = found.0; plain = whole.plain; pieces = sym (append-nil ps) ∙ found.1 }

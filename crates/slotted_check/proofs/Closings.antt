-- One piece more in front of a row that ends what is open.
use Rattle.std.proofs.Common.{◌≡◌, ◌≢◌, ℕ, List, [], ◌∷◌, ◌++◌, sym, ◌∙◌, ap, refl, subst, append_assoc, append-nil}
use Rattle.std.specs.Prelude.{Bool, true, false}
use Rattle.slotted_theory.specs.Nameless.{stop, place, sub, scope}
use Rattle.slotted_theory.proofs.Values.{node}
use Rattle.slotted_check.specs.declared.pieces.Piece.{Piece}
use Rattle.slotted_check.specs.declared.pieces.Piece.TheVariants.{Head, Name, Scope, Leave, Close}
use Rattle.slotted_check.specs.Lines.{IsTermRow}
use Rattle.slotted_check.specs.Openings.{Closes, ClosesOne, end_of, ends, ends_onto}
use Rattle.slotted_check.specs.Rows.{End, closing, leaving, end_piece, row_args}

ends-more : (bs : List Bool) (b : Bool) (es : List End) → ends_onto (bs ++ b ∷ []) es ≡ end_of b ∷ ends_onto bs es
ends-more [] b es = refl
ends-more (c ∷ bs) b es = ends-more bs b (end_of c ∷ es)

-- what holds where one end is the next one holds where anything is open
closes-inside : (bs : List Bool) (e : End) (es : List End) (T : (List Piece → Type 0) → Type 0) (qs : List Piece) →
    ((d : End) (P : List Piece → Type 0) → T (ClosesOne d P) → ClosesOne d P qs) →
    T (Closes (ends_onto bs (e ∷ es))) → Closes (ends_onto bs (e ∷ es)) qs
closes-inside [] e es T qs f h = f e (Closes es) h
closes-inside (b ∷ bs) e es T qs f h = closes-inside bs (end_of b) (e ∷ es) T qs f h

name-closes : (x : ℕ) (ps : List Piece) (e : End) (P : List Piece → Type 0) → ClosesOne e P ps → ClosesOne e P (Name x ∷ ps)
name-closes x ps e P h = record { args = place x h.args; plain = h.plain; behind = h.behind; is = ap (λ u. Name x ∷ u) h.is; rest = h.rest }

head-closes : (o : ℕ) (ps : List Piece) (e : End) (P : List Piece → Type 0) → ClosesOne closing (ClosesOne e P) ps → ClosesOne e P (Head o ∷ ps)
head-closes o ps e P h = record {
  args = sub o [] h.args h.rest.args;
  plain = (refl, h.plain, h.rest.plain);
  behind = h.rest.behind;
  is = ap (λ u. Head o ∷ u) (h.is ∙ (ap (λ u. row_args closing h.args ++ u) h.rest.is
      ∙ sym (append_assoc (row_args closing h.args) (row_args e h.rest.args) h.rest.behind)));
  rest = h.rest.rest;
}

scope-closes : (ps : List Piece) (e : End) (P : List Piece → Type 0) → ClosesOne leaving (ClosesOne e P) ps → ClosesOne e P (Scope ∷ ps)
scope-closes ps e P h = record {
  args = scope h.args h.rest.args;
  plain = (h.plain, h.rest.plain);
  behind = h.rest.behind;
  is = ap (λ u. Scope ∷ u) (h.is ∙ (ap (λ u. row_args leaving h.args ++ u) h.rest.is
      ∙ sym (append_assoc (row_args leaving h.args) (row_args e h.rest.args) h.rest.behind)));
  rest = h.rest.rest;
}

pub name-passed : (bs : List Bool) (x : ℕ) (ps : List Piece) → bs ≢ [] → Closes (ends bs) ps → Closes (ends bs) (Name x ∷ ps)
name-passed [] x ps n h = absurd (n refl)
name-passed (b ∷ bs) x ps n h = closes-inside bs (end_of b) [] (λ Q. Q ps) (Name x ∷ ps) (name-closes x ps) h

pub head-passed : (bs cs : List Bool) (o : ℕ) (ps : List Piece) → bs ≢ [] → cs ≡ bs ++ false ∷ [] → Closes (ends cs) ps → Closes (ends bs) (Head o ∷ ps)
head-passed [] cs o ps n e h = absurd (n refl)
head-passed (b ∷ bs) cs o ps n e h = closes-inside bs (end_of b) [] (λ Q. ClosesOne closing Q ps) (Head o ∷ ps) (head-closes o ps)
    (subst (λ es. Closes es ps) (ap ends e ∙ ends-more (b ∷ bs) false []) h)

pub scope-passed : (bs cs : List Bool) (ps : List Piece) → bs ≢ [] → cs ≡ bs ++ true ∷ [] → Closes (ends cs) ps → Closes (ends bs) (Scope ∷ ps)
scope-passed [] cs ps n e h = absurd (n refl)
scope-passed (b ∷ bs) cs ps n e h = closes-inside bs (end_of b) [] (λ Q. ClosesOne leaving Q ps) (Scope ∷ ps) (scope-closes ps)
    (subst (λ es. Closes es ps) (ap ends e ∙ ends-more (b ∷ bs) true []) h)

end-closes : (e : End) (es : List End) (ps : List Piece) → Closes es ps → Closes (e ∷ es) (end_piece e ∷ ps)
end-closes e es ps h = record { args = stop; plain = tt; behind = ps; is = refl; rest = h }

pub leave-passed : (bs cs : List Bool) (ps : List Piece) → bs ≡ cs ++ true ∷ [] → Closes (ends cs) ps → Closes (ends bs) (Leave ∷ ps)
leave-passed bs cs ps e h = subst (λ es. Closes es (Leave ∷ ps)) (sym (ap ends e ∙ ends-more cs true [])) (end-closes leaving (ends cs) ps h)

pub close-passed : (bs cs : List Bool) (ps : List Piece) → bs ≡ cs ++ false ∷ [] → Closes (ends cs) ps → Closes (ends bs) (Close ∷ ps)
close-passed bs cs ps e h = subst (λ es. Closes es (Close ∷ ps)) (sym (ap ends e ∙ ends-more cs false [])) (end-closes closing (ends cs) ps h)

-- nothing is open, and nothing is left
pub closes-nothing : (bs : List Bool) (ps : List Piece) → bs ≡ [] → ps ≡ [] → Closes (ends bs) ps
closes-nothing bs ps e p = subst (λ cs. Closes (ends cs) ps) (sym e) p

pub term-closed : (o : ℕ) (ps qs : List Piece) → qs ≡ Head o ∷ ps → Closes (closing ∷ []) ps → IsTermRow qs
term-closed o ps qs e h = record {
  term = node o [] h.args;
  plain = (refl, h.plain);
  is = e ∙ ap (λ u. Head o ∷ u) (h.is ∙ (ap (λ u. row_args closing h.args ++ u) h.rest ∙ append-nil (row_args closing h.args)));
}

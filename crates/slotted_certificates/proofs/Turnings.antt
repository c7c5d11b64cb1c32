-- One step of a substitution in a row.
use Rattle.std.proofs.Common.{◌≡◌, ◌+◌, ℕ, suc, List, [], ◌∷◌, ◌++◌, length, sym, ◌∙◌, ap, refl, subst, append_assoc, append-nil, arith}
use Rattle.slotted_theory.specs.Nameless.{DArgs, DTerm, stop, place, sub, scope, moved}
use Rattle.slotted_theory.proofs.Laws.{moved-moved, moved-id}
use Rattle.slotted_theory.proofs.Values.{node, child_before}
use Rattle.slotted_check.specs.declared.pieces.Piece.{Piece}
use Rattle.slotted_check.specs.declared.pieces.Piece.TheVariants.{Head, Name, Scope, Leave, Close}
use Rattle.slotted_check.specs.Openings.{Closes, ClosesOne}
use Rattle.slotted_check.specs.Rows.{End, closing, leaving, end_piece, moved_row, row, row_args, ArePlain, IsPlain}
use Rattle.slotted_check.proofs.MovedRows.{IsPlain-moved}
use Rattle.slotted_check.proofs.OneReading.{AreOne, end-kind, first_kind, one_reading, one_term, rest_of}
use Rattle.slotted_certificates.specs.Substitution.{Substitutes, SubstitutesArgs, whole, inside, no_argument, own_name, one_child, one_scope, seen_inside}
use Rattle.slotted_certificates.specs.Turning.{AreTurned, IsSubstitutedRow, KeepsFirst, StepsTo, Turned, depth_behind, leaves, shift}
use Rattle.slotted_check.proofs.StepLaws.{moved_row-alone}

-- what is kept where a piece is passed that begins no part
pub record Keeps (x t : DTerm) (es : List End) (p : Piece) (ps : List Piece) : Type 0 where
  pub ends : List End
  pub depth : depth_behind p (leaves es) ≡ leaves ends
  pub closes : Closes ends ps
  pub goes : (qs : List Piece) → Turned x t ends ps qs → Turned x t es (p ∷ ps) (p ∷ qs)

abbrev first_or : Piece → List Piece → Piece
first_or p [] = p
first_or p (q ∷ qs) = q

one-more : (n k : ℕ) → suc (n + k) ≡ n + suc k
one-more n k = omega arith

shift-deeper : (k : ℕ) (d : DTerm) → seen_inside (shift k d) ≡ shift (suc k) d
shift-deeper k d = moved-moved suc (λ n. n + k) d ∙ (λ i. moved (λ n. one-more n k i) d)

-- the end of arguments
end-depth : (e : End) (es : List End) → depth_behind (end_piece e) (leaves (e ∷ es)) ≡ leaves es
end-depth closing es = refl
end-depth leaving es = refl

kept-end : (x t : DTerm) (e : End) (es : List End) (p : Piece) (ps behind : List Piece) → p ≡ end_piece e → ps ≡ behind → Closes es behind → Keeps x t (e ∷ es) p ps
kept-end x t e es p ps behind first same h = record {
  ends = es;
  depth = ap (λ q. depth_behind q (leaves (e ∷ es))) first ∙ end-depth e es;
  closes = subst (Closes es) (sym same) h;
  goes = λ qs k. record {
    args = stop;
    made = stop;
    later = ps;
    more = qs;
    is = no_argument;
    given = tt;
    plain = tt;
    from = (λ i. first i ∷ ps);
    to = (λ i. first i ∷ qs);
    rest = k;
  };
}

-- a name
kept-name : (x t : DTerm) (e : End) (es : List End) (p : Piece) (ps behind : List Piece) (y : ℕ) (r : DArgs) → p ≡ Name y → ps ≡ row_args e r ++ behind → ArePlain r → Closes es behind →
    Keeps x t (e ∷ es) p ps
kept-name x t e es p ps behind y r first same plain h = record {
  ends = e ∷ es;
  depth = ap (λ q. depth_behind q (leaves (e ∷ es))) first;
  closes = record { args = r; plain = plain; behind = behind; is = same; rest = h };
  goes = λ qs k. record {
    args = place y k.args;
    made = place y k.made;
    later = k.later;
    more = k.more;
    is = own_name y k.is;
    given = k.given;
    plain = k.plain;
    from = (λ i. first i ∷ k.from i);
    to = (λ i. first i ∷ k.to i);
    rest = k.rest;
  };
}

-- the beginning of a node that is not the part
kept-head : (x t : DTerm) (e : End) (es : List End) (p : Piece) (ps behind : List Piece) (o : ℕ) (a r : DArgs) → p ≡ Head o → ps ≡ row_args closing a ++ (row_args e r ++ behind) →
    ArePlain a → ArePlain r → Closes es behind → ((later : List Piece) → ¬ (p ∷ ps ≡ row (shift (leaves (e ∷ es)) x) ++ later)) → Keeps x t (e ∷ es) p ps
kept-head x t e es p ps behind o a r first same inner plain h not = record {
  ends = closing ∷ e ∷ es;
  depth = ap (λ q. depth_behind q (leaves (e ∷ es))) first;
  closes = record { args = a; plain = inner; behind = row_args e r ++ behind; is = same; rest = record { args = r; plain = plain; behind = behind; is = refl; rest = h } };
  goes = λ qs k. record {
    args = child_before (node o [] k.args) k.rest.args;
    made = child_before (node o [] k.made) k.rest.made;
    later = k.rest.later;
    more = k.rest.more;
    is = one_child (inside (λ d. not k.later ((λ i. first i ∷ k.from i) ∙ ap (λ b. row b ++ k.later) d)) k.is) k.rest.is;
    given = (refl, k.given, k.rest.given);
    plain = (refl, k.plain, k.rest.plain);
    from = (λ i. first i ∷ (k.from ∙ (ap (λ u. row_args closing k.args ++ u) k.rest.from ∙ sym (append_assoc (row_args closing k.args) (row_args e k.rest.args) k.rest.later))) i);
    to = (λ i. first i ∷ (k.to ∙ (ap (λ u. row_args closing k.made ++ u) k.rest.to ∙ sym (append_assoc (row_args closing k.made) (row_args e k.rest.made) k.rest.more))) i);
    rest = k.rest.rest;
  };
}

-- the beginning of a scope
kept-scope : (x t : DTerm) (e : End) (es : List End) (p : Piece) (ps behind : List Piece) (a r : DArgs) → p ≡ Scope → ps ≡ row_args leaving a ++ (row_args e r ++ behind) →
    ArePlain a → ArePlain r → Closes es behind → Keeps x t (e ∷ es) p ps
kept-scope x t e es p ps behind a r first same inner plain h =
    let n : ℕ = leaves (e ∷ es) in
    record {
      ends = leaving ∷ e ∷ es;
      depth = ap (λ q. depth_behind q (leaves (e ∷ es))) first;
      closes = record { args = a; plain = inner; behind = row_args e r ++ behind; is = same; rest = record { args = r; plain = plain; behind = behind; is = refl; rest = h } };
      goes = λ qs k. record {
        args = scope k.args k.rest.args;
        made = scope k.made k.rest.made;
        later = k.rest.later;
        more = k.rest.more;
        is = one_scope (subst (λ u. u) (λ i. SubstitutesArgs (sym (shift-deeper n x) i) (sym (shift-deeper n t) i) k.args k.made) k.is) k.rest.is;
        given = (k.given, k.rest.given);
        plain = (k.plain, k.rest.plain);
        from = (λ i. first i ∷ (k.from ∙ (ap (λ u. row_args leaving k.args ++ u) k.rest.from ∙ sym (append_assoc (row_args leaving k.args) (row_args e k.rest.args) k.rest.later))) i);
        to = (λ i. first i ∷ (k.to ∙ (ap (λ u. row_args leaving k.made ++ u) k.rest.to ∙ sym (append_assoc (row_args leaving k.made) (row_args e k.rest.made) k.rest.more))) i);
        rest = k.rest.rest;
      };
    }

kept-args : (x t : DTerm) (e : End) (es : List End) (p : Piece) (ps : List Piece) (a : DArgs) (behind : List Piece) → ArePlain a → p ∷ ps ≡ row_args e a ++ behind → Closes es behind →
    ((later : List Piece) → ¬ (p ∷ ps ≡ row (shift (leaves (e ∷ es)) x) ++ later)) → Keeps x t (e ∷ es) p ps
kept-args x t e es p ps stop behind plain is h not = kept-end x t e es p ps behind (ap (first_or p) is) (ap rest_of is) h
kept-args x t e es p ps (place y r) behind plain is h not = kept-name x t e es p ps behind y r (ap (first_or p) is) (ap rest_of is) plain h
kept-args x t e es p ps (sub o payloads a r) behind plain is h not =
    kept-head x t e es p ps behind o a r (ap (first_or p) is) (ap rest_of is ∙ append_assoc (row_args closing a) (row_args e r) behind) plain.1 plain.2 h not
kept-args x t e es p ps (scope a r) behind plain is h not =
    kept-scope x t e es p ps behind a r (ap (first_or p) is) (ap rest_of is ∙ append_assoc (row_args leaving a) (row_args e r) behind) plain.0 plain.1 h

cons-nil : {A : Type 0} (p : Piece) (ps : List Piece) → p ∷ ps ≡ [] → A
cons-nil p ps e = let n : length (p ∷ ps) ≡ 0 = ap length e in absurd (omega arith)

pub kept : (x t : DTerm) (es : List End) (p : Piece) (ps : List Piece) → Closes es (p ∷ ps) → ((later : List Piece) → ¬ (p ∷ ps ≡ row (shift (leaves es) x) ++ later)) → Keeps x t es p ps
kept x t [] p ps h not = cons-nil p ps h
kept x t (e ∷ es) p ps h not = kept-args x t e es p ps h.args h.behind h.plain h.is h.rest not

-- what is kept where the part was found and passed
pub record Puts (x t : DTerm) (es : List End) (ps later : List Piece) : Type 0 where
  pub closes : Closes es later
  pub goes : (qs : List Piece) → Turned x t es later qs → Turned x t es ps (row (shift (leaves es) t) ++ qs)

put-args : (x t : DTerm) (e : End) (es : List End) (ps : List Piece) (a : DArgs) (behind later : List Piece) → IsPlain x → IsPlain t → ArePlain a → ps ≡ row_args e a ++ behind → Closes es behind →
    ps ≡ row (shift (leaves (e ∷ es)) x) ++ later → Puts x t (e ∷ es) ps later
put-args x t e es ps stop behind later px pt plain is h found = let k : AreOne 3 0 = sym (end-kind e) ∙ ap first_kind (sym is ∙ found) in absurd (omega arith)
put-args x t e es ps (place y r) behind later px pt plain is h found = let k : AreOne 1 0 = ap first_kind (sym is ∙ found) in absurd (omega arith)
put-args x t e es ps (scope i r) behind later px pt plain is h found = let k : AreOne 2 0 = ap first_kind (sym is ∙ found) in absurd (omega arith)
put-args x t e es ps (sub o payloads a r) behind later px pt plain is h found =
    let n : ℕ = leaves (e ∷ es) in
    let f : ℕ → ℕ = λ m. m + n in
    let one = one_term (node o payloads a) (shift n x) (row_args e r ++ behind) later (plain.0, plain.1) (IsPlain-moved f x px)
    (ap (λ u. Head o ∷ u) (sym (append_assoc (row_args closing a) (row_args e r) behind)) ∙ (sym is ∙ found)) in
    record {
      closes = record { args = r; plain = plain.2; behind = behind; is = sym one.1; rest = h };
      goes = λ qs k. record {
        args = child_before (shift n x) k.args;
        made = child_before (shift n t) k.made;
        later = k.later;
        more = k.more;
        is = one_child whole k.is;
        given = ((IsPlain-moved f x px).0, (IsPlain-moved f x px).1, k.given);
        plain = ((IsPlain-moved f t pt).0, (IsPlain-moved f t pt).1, k.plain);
        from = found ∙ (ap (λ u. row (shift n x) ++ u) k.from ∙ ap (λ u. Head (shift n x).op ∷ u) (sym (append_assoc (row_args closing (shift n x).args) (row_args e k.args) k.later)));
        to = ap (λ u. row (shift n t) ++ u) k.to ∙ ap (λ u. Head (shift n t).op ∷ u) (sym (append_assoc (row_args closing (shift n t).args) (row_args e k.made) k.more));
        rest = k.rest;
      };
    }

pub put-found : (x t : DTerm) (es : List End) (ps later : List Piece) → IsPlain x → IsPlain t → Closes es ps → ps ≡ row (shift (leaves es) x) ++ later → Puts x t es ps later
put-found x t [] ps later px pt h found = cons-nil (Head (shift 0 x).op) (row_args closing (shift 0 x).args ++ later) (sym found ∙ h)
put-found x t (e ∷ es) ps later px pt h found = put-args x t e es ps h.args h.behind later px pt h.plain h.is h.rest found

seen-part : (k : ℕ) (es : List End) (part : List Piece) (x : DTerm) → part ≡ row x → k ≡ leaves es → moved_row (λ n. n + k) part ≡ row (shift (leaves es) x)
seen-part k es part x e d = (λ i. moved_row (λ n. n + d i) (e i)) ∙ moved_row-alone (λ n. n + leaves es) x

pub turned-part : (part value ps behind out new : List Piece) (k : ℕ) → ps ≡ moved_row (λ n. n + k) part ++ behind → new ≡ out ++ moved_row (λ n. n + k) value →
    StepsTo part value k ps k behind out new
turned-part part value ps behind out new k found made x t px pt ex et es d h =
    let p = put-found x t es ps behind px pt h (found ∙ ap (λ u. u ++ behind) (seen-part k es part x ex d)) in
    record {
      ends = es;
      depth = d;
      closes = p.closes;
      pieces = row (shift (leaves es) t);
      made = made ∙ ap (λ u. out ++ u) (seen-part k es value t et d);
      goes = p.goes;
    }

pub turned-other : (part value ps behind out new : List Piece) (k n : ℕ) → ((later : List Piece) → ¬ (ps ≡ moved_row (λ m. m + k) part ++ later)) → KeepsFirst ps behind k n out new →
    StepsTo part value k ps n behind out new
turned-other part value ps behind out new k n not first x t px pt ex et es d h =
    let p = kept x t es first.piece behind (subst (Closes es) first.is h)
    (λ later e. not later (first.is ∙ (e ∙ ap (λ u. u ++ later) (sym (seen-part k es part x ex d))))) in
    record {
      ends = p.ends;
      depth = first.depth ∙ (ap (depth_behind first.piece) d ∙ p.depth);
      closes = p.closes;
      pieces = first.piece ∷ [];
      made = first.made;
      goes = λ qs k. subst (λ u. Turned x t es u (first.piece ∷ qs)) (sym first.is) (p.goes qs k);
    }

pub steps-none : (part value ps out : List Piece) → StepsTo part value 0 ps 0 ps out out
steps-none part value ps out x t px pt ex et es d h = record { ends = es; depth = d; closes = h; pieces = []; made = sym (append-nil out); goes = λ qs k. k }

pub steps-then : (part value ps ps1 ps2 out out1 out2 : List Piece) (k n : ℕ) → StepsTo part value 0 ps k ps1 out out1 → StepsTo part value k ps1 n ps2 out1 out2 →
    StepsTo part value 0 ps n ps2 out out2
steps-then part value ps ps1 ps2 out out1 out2 k n one two x t px pt ex et es d h =
    let a = one x t px pt ex et es d h in
    let b = two x t px pt ex et a.ends a.depth a.closes in
    record {
      ends = b.ends;
      depth = b.depth;
      closes = b.closes;
      pieces = a.pieces ++ b.pieces;
      made = b.made ∙ (ap (λ u. u ++ b.pieces) a.made ∙ append_assoc out a.pieces b.pieces);
      goes = λ qs k. subst (Turned x t es ps) (sym (append_assoc a.pieces b.pieces qs)) (a.goes (b.pieces ++ qs) (b.goes qs k));
    }

no-end : (e : End) (a : DArgs) (behind : List Piece) {A : Type 0} → [] ≡ row_args e a ++ behind → A
no-end closing stop behind is = cons-nil Close behind (sym is)
no-end leaving stop behind is = cons-nil Leave behind (sym is)
no-end e (place y r) behind is = cons-nil (Name y) (row_args e r ++ behind) (sym is)
no-end e (sub o payloads a r) behind is = cons-nil (Head o) ((row_args closing a ++ row_args e r) ++ behind) (sym is)
no-end e (scope a r) behind is = cons-nil Scope ((row_args leaving a ++ row_args e r) ++ behind) (sym is)

closes-nothing : (e : End) (es : List End) {A : Type 0} → ClosesOne e (Closes es) [] → A
closes-nothing e es h = no-end e h.args h.behind h.is

ended : (x t : DTerm) (es : List End) → Closes es [] → Turned x t es [] []
ended x t [] h = (refl, refl)
ended x t (e ∷ es) h = closes-nothing e es h

plus-none : (n : ℕ) → n + 0 ≡ n
plus-none n = omega arith

shift-none : (d : DTerm) → shift 0 d ≡ d
shift-none d = (λ i. moved (λ n. plus-none n i) d) ∙ moved-id d

pub turned-all : (part value ps rest out new : List Piece) (k : ℕ) → StepsTo part value 0 ps k rest out new → rest ≡ [] → (x t : DTerm) (a : DArgs) → IsPlain x → IsPlain t → ArePlain a →
    part ≡ row x → value ≡ row t → ps ≡ row_args closing a → AreTurned x t a out new
turned-all part value ps rest out new k steps done x t a px pt pa ex et ea =
    let s = steps x t px pt ex et (closing ∷ []) refl (record { args = a; plain = pa; behind = []; is = ea ∙ sym (append-nil (row_args closing a)); rest = refl }) in
    let end = s.goes [] (subst (λ u. Turned x t s.ends u []) (sym done) (ended x t s.ends (subst (Closes s.ends) done s.closes))) in
    let same = one_reading closing end.args a end.later [] end.given pa (sym end.from ∙ (ea ∙ sym (append-nil (row_args closing a)))) in
    record {
      args = end.made;
      is = subst (λ u. u) (λ i. SubstitutesArgs (shift-none x i) (shift-none t i) (same.0 i) end.made) end.is;
      plain = end.plain;
      made = s.made ∙ ap (λ u. out ++ u) (sym (append-nil s.pieces) ∙ (end.to ∙ (ap (λ u. row_args closing end.made ++ u) end.rest.1 ∙ append-nil (row_args closing end.made))));
    }

pub whole-put : (body part value old new : List Piece) → body ≡ part → old ≡ [] → new ≡ old ++ value → (x t b : DTerm) → IsPlain x → IsPlain t → IsPlain b →
    part ≡ row x → value ≡ row t → body ≡ row b → IsSubstitutedRow x t b new
whole-put body part value old new same none made x t b px pt pb ex et eb =
    let one : b ≡ x = (one_term b x [] [] pb px (ap (λ u. u ++ []) (sym eb ∙ (same ∙ ex)))).0 in
    record {
      term = t;
      is = subst (λ d. Substitutes x t d t) (sym one) whole;
      plain = pt;
      pieces = made ∙ (ap (λ u. u ++ value) none ∙ et);
    }

pub inside-put : (body part value behind none old new : List Piece) (head : Piece) → ¬ (body ≡ part) → body ≡ head ∷ behind → none ≡ [] → old ≡ none ++ head ∷ [] →
    ((x t : DTerm) (a : DArgs) → IsPlain x → IsPlain t → ArePlain a → part ≡ row x → value ≡ row t → behind ≡ row_args closing a → AreTurned x t a old new) →
    (x t b : DTerm) → IsPlain x → IsPlain t → IsPlain b → part ≡ row x → value ≡ row t → body ≡ row b → IsSubstitutedRow x t b new
inside-put body part value behind none old new head not is empty one turns x t b px pt pb ex et eb =
    let first : head ≡ Head b.op = ap (first_or head) (sym is ∙ eb) in
    let r = turns x t b.args px pt pb.1 ex et (ap rest_of (sym is ∙ eb)) in
    record {
      term = node b.op b.payloads r.args;
      is = inside (λ e. not (eb ∙ (ap row e ∙ sym ex))) r.is;
      plain = (pb.0, r.plain);
      pieces = r.made ∙ (ap (λ u. u ++ row_args closing r.args) (one ∙ ap (λ u. u ++ head ∷ []) empty) ∙ (λ i. first i ∷ row_args closing r.args));
    }

-- The literal nameless form tells the same terms apart.
use Rattle.std.proofs.Common.{◌≡◌, ◌↔◌, ℕ, zero, suc, List, [], ◌∷◌, length, sym, ◌∙◌, ap, refl, arith}
use Rattle.std.specs.Prelude.{nat_eq, cond, Bool, true, false, ◌+◌}
use Rattle.slotted_theory.specs.Term.{Args, Term, done, name, child, bind}
use Rattle.slotted_theory.specs.Nameless.{DArgs, DTerm, stop, place, sub, scope, nameless_args, Alpha}
use Rattle.slotted_theory.specs.Shape.{number_in}
use Rattle.slotted_theory.specs.Literal.{Occurrence, bound, free, LArgs, nothing, occurs, has_child, binder, LTerm, outer, occurrence, literal_args, literal}

-- a number under k binders as an occurrence, and back
abbrev as_occurrence : ℕ → ℕ → Occurrence
as_occurrence zero n = free n
as_occurrence (suc k) zero = bound 0
as_occurrence (suc k) (suc n) = outer (as_occurrence k n)

abbrev as_number : ℕ → Occurrence → ℕ
as_number k (bound i) = i
as_number k (free x) = k + x

occurrence_under : (k : ℕ) (b : Bool) (n : ℕ) (o : Occurrence) → as_occurrence k n ≡ o → as_occurrence (suc k) (cond b 0 (suc n)) ≡ cond b (bound 0) (outer o)
occurrence_under k true n o e = refl
occurrence_under k false n o e = ap outer e

occurrence-number : (bs : List ℕ) (x : ℕ) → as_occurrence (length bs) (number_in bs x) ≡ occurrence bs x
occurrence-number [] x = refl
occurrence-number (b ∷ bs) x = occurrence_under (length bs) (nat_eq x b) (number_in bs x) (occurrence bs x) (occurrence-number bs x)

number-outer : (k : ℕ) (o : Occurrence) → as_number (suc k) (outer o) ≡ suc (as_number k o)
number-outer k (bound i) = refl
number-outer k (free x) = omega arith

number_under : (k : ℕ) (b : Bool) (n : ℕ) (o : Occurrence) → as_number k o ≡ n → as_number (suc k) (cond b (bound 0) (outer o)) ≡ cond b 0 (suc n)
number_under k true n o e = refl
number_under k false n o e = number-outer k o ∙ ap suc e

number-occurrence : (bs : List ℕ) (x : ℕ) → as_number (length bs) (occurrence bs x) ≡ number_in bs x
number-occurrence [] x = omega arith
number-occurrence (b ∷ bs) x = number_under (length bs) (nat_eq x b) (number_in bs x) (occurrence bs x) (number-occurrence bs x)

-- the literal form of nameless arguments under k binders, and back
tag : ℕ → DArgs → LArgs
tag k stop = nothing
tag k (place x rest) = occurs (as_occurrence k x) (tag k rest)
tag k (sub op payloads args rest) = has_child op payloads (tag k args) (tag k rest)
tag k (scope inner rest) = binder (tag (suc k) inner) (tag k rest)

untag : ℕ → LArgs → DArgs
untag k nothing = stop
untag k (occurs o rest) = place (as_number k o) (untag k rest)
untag k (has_child op payloads args rest) = sub op payloads (untag k args) (untag k rest)
untag k (binder inner rest) = scope (untag (suc k) inner) (untag k rest)

tag-nameless : (bs : List ℕ) (a : Args) → tag (length bs) (nameless_args (number_in bs) a) ≡ literal_args bs a
unfolding tag
tag-nameless bs done = refl
tag-nameless bs (name x rest) = λ i. occurs (occurrence-number bs x i) (tag-nameless bs rest i)
tag-nameless bs (child op payloads args rest) = λ i. has_child op payloads (tag-nameless bs args i) (tag-nameless bs rest i)
tag-nameless bs (bind x inner rest) = λ i. binder (tag-nameless (x ∷ bs) inner i) (tag-nameless bs rest i)

untag-literal : (bs : List ℕ) (a : Args) → untag (length bs) (literal_args bs a) ≡ nameless_args (number_in bs) a
unfolding untag
untag-literal bs done = refl
untag-literal bs (name x rest) = λ i. place (number-occurrence bs x i) (untag-literal bs rest i)
untag-literal bs (child op payloads args rest) = λ i. sub op payloads (untag-literal bs args i) (untag-literal bs rest i)
untag-literal bs (bind x inner rest) = λ i. scope (untag-literal (x ∷ bs) inner i) (untag-literal bs rest i)

-- terms are alpha-equal exactly if their literal nameless forms are equal
pub Alpha-literal : (t u : Term) → Alpha t u ↔ (literal t ≡ literal u)
Alpha-literal t u = (
  λ e i. record { op = (e i).op; payloads = (e i).payloads; args = (sym (tag-nameless [] t.args) ∙ (ap (λ (d : DTerm). tag 0 d.args) e ∙ tag-nameless [] u.args)) i },
  λ e i. record { op = (e i).op; payloads = (e i).payloads; args = (sym (untag-literal [] t.args) ∙ (ap (λ (d : LTerm). untag 0 d.args) e ∙ untag-literal [] u.args)) i },
)

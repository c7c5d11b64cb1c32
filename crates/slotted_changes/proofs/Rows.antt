-- Rows of terms that are alpha-equal make terms that are.
use Rattle.std.proofs.Common.{◌≡◌, ◌<◌, ℕ, zero, suc, List, [], ◌∷◌, length, take, drop, set, slice_index, refl, sym, ap, ◌∙◌, arith, inl, inr}
use Rattle.std.specs.List.{AllZip}
use Rattle.std.proofs.lemmas.Bool.{cases_eq}
use Rattle.std.proofs.lemmas.List.{get_or-set_same, get_or-set_other, length-set}
use Rattle.slotted_theory.specs.Term.{Args, Term}
use Rattle.slotted_theory.specs.Nameless.{Alpha, DArgs, DTerm, extend, moved, nameless, nameless_args, nameless_by, scope, place, sub}
use Rattle.slotted_theory.proofs.Laws.{moved-nameless}
use Rattle.slotted_nodes.specs.Form.{Form, Tree, leaf, own, child, bind, scopes, children}
use Rattle.slotted_languages.specs.Filled.{children_args, filled, term_of}
use Rattle.slotted_terms.specs.TermPattern.{no_term}
use Rattle.slotted_changes.specs.Changes.{DifferAt, Level, below, nth, over}

-- alpha-equal terms are numbered alike
alpha_by : (ρ : ℕ → ℕ) (t u : Term) → Alpha t u → nameless_by ρ t ≡ nameless_by ρ u
alpha_by ρ t u h = sym (moved-nameless ρ t) ∙ (ap (moved ρ) h ∙ moved-nameless ρ u)

abbrev pub AreAlpha : List Term → List Term → Type 0
AreAlpha ts us = AllZip Alpha ts us

alpha-take : (n : ℕ) (ts us : List Term) → AreAlpha ts us → AreAlpha (take n ts) (take n us)
alpha-take zero ts us h = tt
alpha-take (suc n) [] [] h = tt
alpha-take (suc n) [] (u ∷ us) h = absurd h
alpha-take (suc n) (t ∷ ts) [] h = absurd h
alpha-take (suc n) (t ∷ ts) (u ∷ us) h = (h.0, alpha-take n ts us h.1)

alpha-drop : (n : ℕ) (ts us : List Term) → AreAlpha ts us → AreAlpha (drop n ts) (drop n us)
alpha-drop zero ts us h = h
alpha-drop (suc n) [] [] h = tt
alpha-drop (suc n) [] (u ∷ us) h = absurd h
alpha-drop (suc n) (t ∷ ts) [] h = absurd h
alpha-drop (suc n) (t ∷ ts) (u ∷ us) h = alpha-drop n ts us h.1

sub-alpha : (ρ : ℕ → ℕ) (t u : Term) → Alpha t u → (r s : DArgs) → r ≡ s → sub t.op t.payloads (nameless_args ρ t.args) r ≡ sub u.op u.payloads (nameless_args ρ u.args) s
sub-alpha ρ t u h r s e =
    let d = alpha_by ρ t u h in
    λ i. sub (ap (λ (x : DTerm). x.op) d i) (ap (λ (x : DTerm). x.payloads) d i) (ap (λ (x : DTerm). x.args) d i) (e i)

children-alpha : (ρ : ℕ → ℕ) (ts us : List Term) → AreAlpha ts us → nameless_args ρ (children_args ts) ≡ nameless_args ρ (children_args us)
children-alpha ρ [] [] h = refl
children-alpha ρ [] (u ∷ us) h = absurd h
children-alpha ρ (t ∷ ts) [] h = absurd h
children-alpha ρ (t ∷ ts) (u ∷ us) h = sub-alpha ρ t u h.0 _ _ (children-alpha ρ ts us h.1)

filled-alpha : (ρ : ℕ → ℕ) (t : Tree) (xs : List ℕ) (ts us : List Term) → AreAlpha ts us → nameless_args ρ (filled t xs ts) ≡ nameless_args ρ (filled t xs us)
filled-alpha ρ leaf xs [] [] h = refl
filled-alpha ρ leaf xs [] (u ∷ us) h = absurd h
filled-alpha ρ leaf xs (t ∷ ts) [] h = absurd h
filled-alpha ρ leaf xs (t ∷ ts) (u ∷ us) h = ap (sub 0 [] (nameless_args ρ Args.done)) (children-alpha ρ (t ∷ ts) (u ∷ us) h)
filled-alpha ρ (own r) xs ts us h = ap (place (ρ (slice_index xs 0))) (filled-alpha ρ r (drop 1 xs) ts us h)
filled-alpha ρ (child i ks r) xs [] [] h = refl
filled-alpha ρ (child i ks r) xs [] (u ∷ us) h = absurd h
filled-alpha ρ (child i ks r) xs (t ∷ ts) [] h = absurd h
filled-alpha ρ (child i ks r) xs (t ∷ ts) (u ∷ us) h = sub-alpha ρ t u h.0 _ _ (filled-alpha ρ r (drop (length ks) xs) ts us h.1)
filled-alpha ρ (bind u r) xs ts us h =
    let n = length (children u) in
    let m = length (scopes u) in
    λ i. scope (filled-alpha (extend (slice_index xs 0) ρ) u (take m (drop 1 xs)) (take n ts) (take n us) (alpha-take n ts us h) i)
    (filled-alpha ρ r (drop m (drop 1 xs)) (drop n ts) (drop n us) (alpha-drop n ts us h) i)

-- a node over rows that are alpha-equal
pub term_of-alpha : (f : Form) (ts us : List Term) → AreAlpha ts us → Alpha (term_of f ts) (term_of f us)
term_of-alpha f ts us h = λ i. record { op = suc f.operator; payloads = f.payloads; args = filled-alpha (λ x. x) f.tree f.names ts us h i }

alpha-same : (ts : List Term) → AreAlpha ts ts
alpha-same [] = tt
alpha-same (t ∷ ts) = (refl, alpha-same ts)

alpha-set : (ts : List Term) (k : ℕ) (t u : Term) → Alpha t u → AreAlpha (set ts k t) (set ts k u)
alpha-set [] k t u h = tt
alpha-set (s ∷ ts) zero t u h = (h, alpha-same ts)
alpha-set (s ∷ ts) (suc k) t u h = (refl, alpha-set ts k t u h)

-- rows of one length are alpha-equal if the terms at each place are
alpha-each : (ts us : List Term) → length ts ≡ length us → ((j : ℕ) → j < length ts → Alpha (nth ts j) (nth us j)) → AreAlpha ts us
alpha-each [] [] n h = tt
alpha-each [] (u ∷ us) n h = absurd (omega (arith, n))
alpha-each (t ∷ ts) [] n h = absurd (omega (arith, n))
alpha-each (t ∷ ts) (u ∷ us) n h = (h 0 (omega arith), alpha-each ts us (omega (arith, n)) (λ j lt. h (suc j) (omega (arith, lt))))

-- a term that is put at a place of a level, up to bound names
pub over-alpha : (l : Level) (t u : Term) → Alpha t u → Alpha (over l t) (over l u)
over-alpha l t u h = term_of-alpha l.node (set l.row l.at t) (set l.row l.at u) (alpha-set l.row l.at t u h)

pub below-alpha : (ls : List Level) (t u : Term) → Alpha t u → Alpha (below ls t) (below ls u)
below-alpha [] t u h = h
below-alpha (l ∷ ls) t u h = over-alpha l (below ls t) (below ls u) (below-alpha ls t u h)

-- if the terms differ at one place alone, the rows are alpha-equal once the second term stands there in the first row
pub differ-set : (ts us : List Term) (k : ℕ) → length ts ≡ length us → DifferAt ts us k → AreAlpha (set ts k (nth us k)) us
differ-set ts us k n d =
    let each : (j : ℕ) → j < length (set ts k (nth us k)) → Alpha (nth (set ts k (nth us k)) j) (nth us j) =
    λ j lt.
    let within : j < length ts = omega (arith, lt, length-set ts k (nth us k)) in
    elim (cases_eq j k) [
      | inl is ↦
          ap (λ i. nameless (nth (set ts k (nth us k)) i)) is
          ∙ (ap nameless (get_or-set_same ts k (nth us k) no_term d.within) ∙ ap (λ i. nameless (nth us i)) (sym is))
      | inr other ↦ ap nameless (get_or-set_other ts k j (nth us k) no_term other) ∙ d.others j within other
    ] in
    alpha-each (set ts k (nth us k)) us (length-set ts k (nth us k) ∙ n) each

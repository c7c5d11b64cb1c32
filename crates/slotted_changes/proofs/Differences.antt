-- Which terms of two rows differ.
use Rattle.std.proofs.Common.{◌≡◌, ◌<◌, ◌+◌, ℕ, List, length, refl, sym, ap, subst, ◌∙◌, arith, inl, inr, below_more, get_or}
use Rattle.std.specs.Prelude.{◌↔◌, Option, None, Some, Result, Ok, Err, IsSome, IfOk, IfNone}
use Rattle.std.proofs.lemmas.Bool.{cases_eq, false≢true}
use Rattle.std.proofs.lemmas.List.{get_or_default}
use Rattle.slotted_theory.specs.Term.{Term}
use Rattle.slotted_theory.specs.Nameless.{Alpha, nameless}
use Rattle.slotted_terms.specs.TermPattern.{no_term}
use Rattle.slotted_changes.specs.Changes.{DifferAt, nth}

abbrev pub SameAt : List Term → List Term → ℕ → Type 0
SameAt ts us j = Alpha (nth ts j) (nth us j)

-- of the first n terms those at k alone differ
pub record OneDiffers (ts us : List Term) (n k : ℕ) : Type 0 where
  pub within : k < n
  pub here : ¬ SameAt ts us k
  pub others : (j : ℕ) → j < n → (j ≡ k → ⊥) → SameAt ts us j

-- of the first n terms none differs, or those at one place alone
abbrev pub IsFound : List Term → List Term → ℕ → Option ℕ → Type 0
IsFound ts us n None = (j : ℕ) → j < n → SameAt ts us j
IsFound ts us n (Some k) = OneDiffers ts us n k

module _ (ts us : List Term) where
  pub found-start : IsFound ts us 0 None
  found-start j lt = absurd (omega (arith, lt))

  pub found-same : (n : ℕ) (o : Option ℕ) → IsFound ts us n o → SameAt ts us n → IsFound ts us (n + 1) o
  found-same n None f h = below_more (SameAt ts us) n f h
  found-same n (Some k) f h = record {
    within = omega (arith, f.within);
    here = f.here;
    others = λ j lt ne. elim (cases_eq j n) [
      | inl is ↦ subst (SameAt ts us) (sym is) h
      | inr other ↦ f.others j (omega (arith, lt, other)) ne
    ];
  }

  pub found-here : (n : ℕ) → IsFound ts us n None → ¬ SameAt ts us n → IsFound ts us (n + 1) (Some n)
  found-here n f h = record {
    within = omega arith;
    here = h;
    others = λ j lt ne. f j (omega (arith, lt, ne));
  }

  pub found-first : (n : ℕ) (o : Option ℕ) → ¬ IsSome o → IsFound ts us n o → ¬ SameAt ts us n → IsFound ts us (n + 1) (Some n)
  found-first n None none f h = found-here n f h
  found-first n (Some k) none f h = absurd (none refl)

  -- a second one
  pub found-twice : (n k : ℕ) → n < length ts → IsFound ts us n (Some k) → ¬ SameAt ts us n → (j : ℕ) → ¬ DifferAt ts us j
  found-twice n k lt f h j d = elim (cases_eq n j) [
    | inl is ↦ f.here (d.others k (omega (arith, lt, f.within)) (λ e. absurd (omega (arith, e, is, f.within))))
    | inr other ↦ h (d.others n lt other)
  ]

  pub found-none : IsFound ts us (length ts) None → (j : ℕ) → ¬ DifferAt ts us j
  found-none f j d = d.here (f j d.within)

  pub found-one : (k : ℕ) → IsFound ts us (length ts) (Some k) → DifferAt ts us k
  found-one k f = record { within = f.within; here = f.here; others = f.others }

  pub found-again : (n : ℕ) (o : Option ℕ) → n < length ts → IsSome o → IsFound ts us n o → ¬ SameAt ts us n → (j : ℕ) → ¬ DifferAt ts us j
  found-again n None lt some f h = absurd (false≢true some)
  found-again n (Some k) lt some f h = found-twice n k lt f h

  -- terms at one place of the rows
  pub same-at : (n : ℕ) (t u : Term) → n < length ts → n < length us → t ≡ get_or ts n t → u ≡ get_or us n u → SameAt ts us n ↔ Alpha t u
  same-at n t u a b is are =
      let p = ap nameless (is ∙ get_or_default ts n t no_term a) in
      let q = ap nameless (are ∙ get_or_default us n u no_term b) in
      (λ h. p ∙ (h ∙ sym q), λ h. sym p ∙ (h ∙ q))

-- what follows from nothing being found
pub none-mapped : {E A B : Type 0} (r : Result (Option ℕ) E) → (A → B) → IfOk r (λ o. IfNone o A) → IfOk r (λ o. IfNone o B)
none-mapped (Ok None) f h = f h
none-mapped (Ok (Some k)) f h = tt
none-mapped (Err e) f h = tt

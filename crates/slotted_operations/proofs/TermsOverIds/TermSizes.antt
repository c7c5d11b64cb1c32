-- Whether a term is valid, by the terms that are left to be asked.
use Rattle.std.proofs.Common.{◌≡◌, ◌<◌, ◌≤◌, ◌+◌, ℕ, zero, suc, List, [], ◌∷◌, ◌++◌, length, take, get_or, Some, refl, sym, subst, ap, arith}
use Rattle.std.specs.Prelude.{All}
use Rattle.std.proofs.lemmas.List.Elements.{All-pop}
use Rattle.slotted_theory.specs.Term.{Term, term_size}
use Rattle.slotted_slots.specs.Table.{Table}
use Rattle.slotted_nodes.specs.Form.{Form, children}
use Rattle.slotted_languages.specs.Filled.{term_of}
use Rattle.slotted_languages.specs.Shape.{Fits}
use Rattle.slotted_terms.specs.Valid.{IsWhole, HasKnownNames}
use Rattle.slotted_operations.specs.Nodes.{IsValidOver}
use Rattle.slotted_operations.specs.SmallNodes.{HasSmallNodes, IsSmallValidTerm, IsTermOver, total_size}
use Rattle.slotted_terms.proofs.SubtermSizes.{total, total_le-term}
use Rattle.slotted_terms.proofs.TermPatterns.{whole_count}
use Rattle.slotted_operations.proofs.TermsOverIds.Layers.{each_at, whole_each}
use Rattle.slotted_operations.proofs.TermsOverIds.ValidTerms.{filled_known, known_each, small_each, valid_term}

total-is : (us : List Term) → total_size us ≡ total us
total-is [] = refl
total-is (u ∷ us) = omega (arith, total-is us)

pub total_size-append : (us vs : List Term) → total_size (us ++ vs) ≡ total_size us + total_size vs
total_size-append [] vs = omega arith
total_size-append (u ∷ us) vs = omega (arith, total_size-append us vs)

pub total_size-under : (f : Form) (us : List Term) (w : Term) → term_of f us ≡ w → total_size us ≤ term_size w
total_size-under f us w view = subst (λ (x : Term). total_size us ≤ term_size x) view (omega (arith, total-is us, total_le-term f us))

pub total_size-at : (us : List Term) (i : ℕ) (c : Term) → i < length us → c ≡ get_or us i c → 1 + term_size c ≤ total_size us
total_size-at [] i c l is = absurd (omega arith)
total_size-at (u ∷ us) zero c l is = omega (arith, ap term_size is)
total_size-at (u ∷ us) (suc i) c l is = omega (arith, total_size-at us i c (omega (arith, l)) is)

pub total_size-take : (n : ℕ) (us : List Term) → total_size (take n us) ≤ total_size us
total_size-take zero us = omega arith
total_size-take (suc n) [] = omega arith
total_size-take (suc n) (u ∷ us) = omega (arith, total_size-take n us)

-- all of some terms, and one more of them
module _ (P : Term → Type 0) where
  pub all-before : (us : List Term) (c : Term) → All P (us ++ c ∷ []) → All P us × P c
  all-before us c h = All-pop P (us ++ c ∷ []) us (Some c) refl h

module _ {A : Type 0} (form : A → Form) (t : Table) (n : A) (us : List Term) (w : Term) (view : term_of (form n) us ≡ w) (fits : Fits (form n)) where
  -- a term is valid if its node and the terms under it are
  pub over-valid : IsValidOver t (form n) (length us) → All (IsTermOver t) us → IsTermOver t w
  over-valid h all =
      let whole : IsTermOver t (term_of (form n) us) = (omega arith, valid_term t (form n) us fits (sym h.right) h.known all) in
      subst (IsTermOver t) view whole

  -- and only if they are
  module _ (valid : IsSmallValidTerm form t w) where
    here : IsSmallValidTerm form t (term_of (form n) us)
    here = subst (IsSmallValidTerm form t) (sym view) valid

    count : length us ≡ length (children (form n).tree)
    count = whole_count (form n).tree (form n).names us here.0.whole

    pub over-exact : IsValidOver t (form n) (length us)
    over-exact = record {
      right = sym count;
      small = valid.1.0 n us view;
      known = filled_known t (form n).tree (form n).names fits us count here.0.known;
    }

    pub under-exact : All (IsSmallValidTerm form t) us
    under-exact k d lt = (
      record {
        whole = each_at (λ (x : Term). IsWhole x.args) us k d lt (whole_each (form n).tree (form n).names us here.0.whole);
        known = each_at (λ (x : Term). HasKnownNames t x.args) us k d lt (known_each t (form n).tree (form n).names us count here.0.known);
      },
      each_at (HasSmallNodes form) us k d lt (small_each form (form n).tree (form n).names us count here.1.1),
    )

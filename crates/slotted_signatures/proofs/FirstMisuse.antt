-- The first e-node of a list that is used otherwise than declared.
use Rattle.std.proofs.Common.{◌≡◌, ℕ, ◌+◌, ◌<◌, ◌≤◌, List, ◌∷◌, ◌++◌, length, map, take, drop, get_or, string_bytes, refl, sym, ap, subst, ◌∙◌, arith}
use Rattle.std.specs.Prelude.{All}
use Rattle.std.proofs.lemmas.List.{drop_more, get_or-map, length-map, length-take-le, take-append-drop, take_all}
use Rattle.std.proofs.lemmas.List.Elements.{All-more, All-same}
use Rattle.slotted_nodes.specs.Form.{Form}
use Rattle.slotted_signatures.specs.Kinds.{word_of, kinds_of}
use Rattle.slotted_signatures.specs.Misused.{IsFaultOf, IsFirstMisuse, IsMisuse}
use Rattle.slotted_signatures.specs.UsedAsDeclared.{IsRight, IsUsedAsDeclared}
use Rattle.slotted_signatures.specs.Usage.{Usage}
use Rattle.slotted_signatures.specs.declared.misuse.Misuse.{Misuse}

module _ (us : List Usage) where
  -- what was asked of a word and kinds that are those of an e-node
  pub misuse-of : (node : Form) (m : Misuse) (w : List ℕ) (ks : List ℕ) → w ≡ word_of node → ks ≡ kinds_of node → ¬ IsRight us w ks → string_bytes m.word ≡ w → IsFaultOf us w ks m.fault → IsMisuse us m.number node m
  misuse-of node m w ks is are wrong text fault = record {
    wrong = subst (λ (p : List ℕ × List ℕ). ¬ IsRight us p.0 p.1) (λ i. (is i, are i)) wrong;
    number_is = refl;
    word_is = text ∙ is;
    fault_is = subst (λ (p : List ℕ × List ℕ). IsFaultOf us p.0 p.1 m.fault) (λ i. (is i, are i)) fault;
  }

  module _ {N : Type 0} (form : N → Form) (nodes : List N) (i : ℕ) (n : N) (lt : i < length nodes) (is : n ≡ get_or nodes i n) where
    abbrev forms : List Form
    forms = map form nodes

    within : i < length forms
    within = omega (arith, length-map nodes form)

    here : (d : Form) → get_or forms i d ≡ form n
    here d = get_or-map form nodes i n d lt ∙ ap form (sym is)

    pub right-later : All (IsUsedAsDeclared us) (take i forms) → IsUsedAsDeclared us (form n) → All (IsUsedAsDeclared us) (take (i + 1) forms)
    right-later before right =
        All-more (IsUsedAsDeclared us) forms i (form n) within before (subst (IsUsedAsDeclared us) (sym (here (form n))) right)

    pub first-here : (all : List Form) (m : Misuse) → forms ≡ all → All (IsUsedAsDeclared us) (take i forms) → IsMisuse us i (form n) m → IsFirstMisuse us all m
    first-here all m are before misuse = record {
      before = take i forms;
      node = form n;
      after = drop (i + 1) forms;
      stands = sym are ∙ (sym (take-append-drop i forms) ∙ ap (λ l. take i forms ++ l) (drop_more forms i (form n) within ∙ ap (λ x. x ∷ drop (i + 1) forms) (here (form n))));
      right_before = before;
      misuse = subst (λ k. IsMisuse us k (form n) m) (sym (length-take-le i forms (omega (arith, within)))) misuse;
    }

  pub all-right : (i : ℕ) (forms all : List Form) → forms ≡ all → length forms ≤ i → All (IsUsedAsDeclared us) (take i forms) → All (IsUsedAsDeclared us) all
  all-right i forms all are le right = All-same (IsUsedAsDeclared us) all (take i forms) (sym are ∙ sym (take_all i forms le)) right

-- What a decided graph says of two ids and of two terms.
use Rattle.std.proofs.Common.{◌≡◌, ◌∙◌, List, sym, subst}
use Rattle.std.specs.Prelude.{Bool, true, false}
use Rattle.std.proofs.lemmas.Bool.{false≢true}
use Rattle.slotted_theory.specs.Derives.{Equal}
use Rattle.slotted_theory.specs.Nameless.{DTerm, nameless}
use Rattle.slotted_theory.specs.Term.{Term}
use Rattle.slotted_model.specs.Applied.{Applied}
use Rattle.slotted_model.specs.Classes.{term_of}
use Rattle.slotted_operations.specs.Graph.{Graph, IsFullId}
use Rattle.slotted_operations.specs.Image.{Image, asserted_in}
use Rattle.slotted_operations.specs.ValidIds.{SaysFillingsEqual}
use Rattle.slotted_deciding.specs.Equality.{IsDecidedGraph, IsYesIfDecided}
use Rattle.slotted_operations.proofs.CallerLemmas.{fills-itself}
use Rattle.slotted_graph.proofs.Extending.{full-extends}
use Rattle.slotted_deciding.specs.Asking.{AreDifferent, AreEqual, IsExplained, IsExplainedOf, StandsFor}
use Rattle.slotted_deciding.specs.Steps.{GoesTo}
use Rattle.slotted_deciding.specs.declared.asking.Explained.{Explained}
use Rattle.slotted_deciding.specs.declared.asking.Explained.TheVariants.{Proved, Undecided, Unequal}

pub equal-fillings : (g : Image) (a b : Applied) (y : Bool) → SaysFillingsEqual g a b y → y ≡ true → AreEqual g a b
equal-fillings g a b y says is = says is

pub different-fillings : (g : Graph) (a b : Applied) (y : Bool) → IsYesIfDecided g a b y → IsDecidedGraph g → y ≡ false → AreDifferent g.image a b
different-fillings g a b y says decided denied left right one two equal = absurd (false≢true (sym denied ∙ says decided left right one two equal))

-- full ids of which the one equals the other, also later
module _ (g h : Graph) (a b : Applied) (fa : IsFullId g a) (fb : IsFullId g b) (goes : GoesTo g h) where
  pub terms-later : Equal (asserted_in g.image) (term_of g.image.canonical a) (term_of g.image.canonical b) → Equal (asserted_in h.image) (term_of h.image.canonical a) (term_of h.image.canonical b)
  terms-later e =
      subst (λ (E : List (DTerm × DTerm)). Equal E (term_of h.image.canonical a) (term_of h.image.canonical b)) (sym goes.asserted)
      (subst (λ (d : DTerm). Equal (asserted_in g.image) d (term_of h.image.canonical b)) (sym (goes.extends.canonical.terms a fa.full))
      (subst (λ (d : DTerm). Equal (asserted_in g.image) (term_of g.image.canonical a) d) (sym (goes.extends.canonical.terms b fb.full)) e))

  pub equal-later : AreEqual g.image a b → Equal (asserted_in h.image) (term_of h.image.canonical a) (term_of h.image.canonical b)
  equal-later equal = terms-later (equal a b (fills-itself g.image a fa.full) (fills-itself g.image b fb.full)).0

pub different-terms : (g : Graph) (a b : Applied) → IsFullId g a → IsFullId g b → AreDifferent g.image a b → ¬ Equal (asserted_in g.image) (term_of g.image.canonical a) (term_of g.image.canonical b)
different-terms g a b fa fb apart e = apart a b (fills-itself g.image a fa.full) (fills-itself g.image b fb.full) e

pub stands-later : (g h : Graph) (a : Applied) (t : Term) → GoesTo g h → StandsFor g a t → StandsFor h a t
stands-later g h a t goes v = record { full = full-extends g h a goes.extends v.full; term = goes.extends.canonical.terms a v.full.full ∙ v.term }

-- what is answered of the ids of two terms is so of the terms
pub explained-terms : (h : Graph) (a b : Applied) (t u : Term) → StandsFor h a t → StandsFor h b u → (e : Explained) → IsExplainedOf h.image a b e → IsExplained h.image t u e
explained-terms h a b t u one two (Proved p) is = record {
  left = a;
  right = b;
  left_term = one.term;
  right_term = two.term;
  stands = is.stands;
  equal = subst (λ (d : DTerm). Equal (asserted_in h.image) d (nameless u)) one.term (subst (Equal (asserted_in h.image) (term_of h.image.canonical a)) two.term is.equal);
}
explained-terms h a b t u one two Unequal is =
    λ e. is (subst (λ (d : DTerm). Equal (asserted_in h.image) d (term_of h.image.canonical b)) (sym one.term) (subst (Equal (asserted_in h.image) (nameless t)) (sym two.term) e))
explained-terms h a b t u one two Undecided is = record {
  left = a;
  right = b;
  left_full = one.full.full;
  right_full = two.full.full;
  left_term = one.term;
  right_term = two.term;
  apart = is;
}

-- What an answer to `eq` says of two terms that were looked up. The ids may lack names for slots that unions dropped: whatever names are
-- filled in, each is equal to its term by what was asserted, so what is said of the one pair is said of the other.
use Rattle.std.proofs.Common.{◌≡◌, ◌<◌, ◌∙◌, Bool, List, length, ap, sym, subst, inl, inr}
use Rattle.std.specs.Prelude.{IsTrue, false}
use Rattle.std.proofs.lemmas.Bool.{false≢true}
use Rattle.slotted_theory.specs.Term.{Term}
use Rattle.slotted_theory.specs.Nameless.{DTerm, nameless}
use Rattle.slotted_theory.specs.Derives.{Equal, joined, turned}
use Rattle.slotted_theory.proofs.Backward.{Equal-derives}
use Rattle.slotted_theory.proofs.Forward.{Derives-equal}
use Rattle.slotted_theory.proofs.FromNothing.{Equal-nothing}
use Rattle.slotted_model.specs.Applied.{Applied}
use Rattle.slotted_model.specs.Ascending.{names}
use Rattle.slotted_model.specs.Classes.{term_of}
use Rattle.slotted_model.specs.Growth.{Extends}
use Rattle.slotted_explain.specs.AddingTerms.{IsEqualToTerm}
use Rattle.slotted_explain.specs.Affected.{IsYesIfEqual}
use Rattle.slotted_explain.specs.Graph.{Graph}
use Rattle.slotted_explain.specs.Image.{AddsClasses, FoundAlike, SaysTerms, asserted_in}
use Rattle.slotted_explain.specs.ValidIds.{Fills, IsValidId, LackNothing, SaysFillingsEqual}
use Rattle.slotted_explain.proofs.CallerLemmas.{filled, fills-itself}
use Rattle.slotted_commands.specs.Sessions.{AreFoundDifferent, AreFoundEqual}

-- what fills an id of a class that was there filled it before classes were added
fills-before : (g h : Graph) (a left : Applied) → Extends g.image.canonical h.image.canonical → a.0 < length g.image.canonical → Fills h.image a left → Fills g.image a left
fills-before g h a left extends within f =
    let here : left.0 < length g.image.canonical = subst (λ i. i < length g.image.canonical) (sym f.class) within in
    record {
      class = f.class;
      full = record {
        in_range = here;
        slots = f.full.slots ∙ ap names (extends.classes left.0 here).1;
        injective = f.full.injective;
      };
      keeps = f.keeps;
    }

-- an id that is equal to a term still is, where classes are added
pub equal_later : (g h : Graph) (a : Applied) (t : Term) → Extends g.image.canonical h.image.canonical → AddsClasses g.image h.image → IsValidId g a → IsEqualToTerm g.image a t → IsEqualToTerm h.image a t
equal_later g h a t extends adds valid equal left fills =
    let before : Fills g.image a left = fills-before g h a left extends valid.in_range fills in
    let same : term_of h.image.canonical left ≡ term_of g.image.canonical left = extends.terms left before.full in
    subst (λ (d : DTerm). Equal (asserted_in h.image) d (nameless t)) (sym same)
    (subst (λ (E : List (DTerm × DTerm)). Equal E (term_of g.image.canonical left) (nameless t)) (sym adds.asserted) (equal left before))

module _ (g : Graph) (t u : Term) (a b : Applied) (valid_a : IsValidId g a) (valid_b : IsValidId g b) (equal_a : IsEqualToTerm g.image a t) (equal_b : IsEqualToTerm g.image b u) where
  -- that the terms are equal by these equations
  abbrev AreEqualBy : List (DTerm × DTerm) → Type 0
  AreEqualBy E = Equal E (nameless t) (nameless u)

  -- a yes
  pub found_equal : (y : Bool) → IsTrue y → FoundAlike g.image a b → SaysFillingsEqual g.image a b y → AreFoundEqual g t u a b
  found_equal y is_yes found says =
      let left = filled g a valid_a in
      let right = filled g b valid_b in
      let terms : AreEqualBy (asserted_in g.image) = joined (turned (equal_a left.0 left.1)) (joined (says is_yes left.0 right.0 left.1 right.1).0 (equal_b right.0 right.1)) in
      record {
        found = found;
        derivable = λ E is. Equal-derives t u (subst AreEqualBy (sym is) terms);
        equal = λ none. Equal-nothing (subst AreEqualBy none terms);
      }

  -- a no
  pub found_different : (y : Bool) → y ≡ false → ¬ FoundAlike g.image a b → IsYesIfEqual g.image a b y → SaysTerms g.image a b y → LackNothing g.image a b → AreFoundDifferent g t u a b
  found_different y is_no apart complete exact whole =
      let left = filled g a valid_a in
      let right = filled g b valid_b in
      record {
        found = apart;
        missed = λ E is d.
            let terms : AreEqualBy (asserted_in g.image) = subst AreEqualBy is (Derives-equal d) in
            elim (complete left.0 right.0 left.1 right.1 (joined (equal_a left.0 left.1) (joined terms (turned (equal_b right.0 right.1))))) [
              | inl is_yes ↦ absurd (false≢true (sym is_no ∙ is_yes))
              | inr affected ↦ affected
            ];
        different = λ none alpha.
            let full = whole none in
            let one : term_of g.image.canonical a ≡ nameless t =
            Equal-nothing (subst (λ (E : List (DTerm × DTerm)). Equal E (term_of g.image.canonical a) (nameless t)) none (equal_a a (fills-itself g.image a full.0))) in
            let two : term_of g.image.canonical b ≡ nameless u =
            Equal-nothing (subst (λ (E : List (DTerm × DTerm)). Equal E (term_of g.image.canonical b) (nameless u)) none (equal_b b (fills-itself g.image b full.1))) in
            false≢true (sym is_no ∙ (exact none).1 (one ∙ (alpha ∙ sym two)));
      }

-- What a question to a graph that is decided first answers.
--     AreEqual g a b          the ids are equal by what is asserted, whatever names are filled in
--     AreDifferent g a b      they are not, whatever names are filled in
--     IsJudged g a b v        the answer to whether two ids are equal: a yes and a no are right
--     StandsFor g a t         a full id whose canonical term t is
--     IsProvedOf g a b p      the entry p says that two ids are equal, and they are by what is asserted
--     IsExplainedOf g a b e   the answer to why two ids are equal
--     IsProved g t u p        the entry p says that the ids of two terms are equal
--     AreApart g t u          the ids of two terms are not equal up to symmetries
--     IsExplained g t u e     the answer to why two terms are equal: a yes has a proof, and a no is right
use Rattle.std.specs.Prelude.{◌≡◌, ℕ}
use Rattle.slotted_theory.specs.Derives.{Equal}
use Rattle.slotted_theory.specs.Nameless.{nameless}
use Rattle.slotted_theory.specs.Term.{Term}
use Rattle.slotted_model.specs.Applied.{Applied}
use Rattle.slotted_model.specs.Classes.{term_of, IsFull}
use Rattle.slotted_model.specs.ProofList.{equation_of}
use Rattle.slotted_operations.specs.Explaining.{StandsAt}
use Rattle.slotted_operations.specs.Graph.{Graph, IsFullId}
use Rattle.slotted_operations.specs.Image.{AreDerivable, Image, asserted_in}
use Rattle.slotted_operations.specs.ValidIds.{Fills}
use Rattle.slotted_deciding.specs.Equality.{EqualUpTo}
use Rattle.slotted_deciding.specs.declared.asking.Explained.{Explained}
use Rattle.slotted_deciding.specs.declared.asking.Explained.TheVariants.{Proved, Undecided, Unequal}
use Rattle.slotted_deciding.specs.declared.asking.Verdict.{Verdict}
use Rattle.slotted_deciding.specs.declared.asking.Verdict.TheVariants.{No, Open, Yes}

abbrev pub AreEqual : Image → Applied → Applied → Type 0
AreEqual g a b =
    (left right : Applied) → Fills g a left → Fills g b right →
    Equal (asserted_in g) (term_of g.canonical left) (term_of g.canonical right) × AreDerivable g left right

abbrev pub AreDifferent : Image → Applied → Applied → Type 0
AreDifferent g a b =
    (left right : Applied) → Fills g a left → Fills g b right →
    ¬ Equal (asserted_in g) (term_of g.canonical left) (term_of g.canonical right)

abbrev pub IsJudged : Image → Applied → Applied → Verdict → Type 0
IsJudged g a b Yes = AreEqual g a b
IsJudged g a b No = AreDifferent g a b
IsJudged g a b Open = ¬ EqualUpTo g a b

-- a full id whose canonical term this is
pub record StandsFor (g : Graph) (a : Applied) (t : Term) : Type 0 where
  pub full : IsFullId g a
  pub term : term_of g.image.canonical a ≡ nameless t

-- a yes to why two ids are equal is an entry that says so
pub record IsProvedOf (g : Image) (a b : Applied) (p : ℕ) : Type 0 where
  pub stands : StandsAt g p (equation_of a b)
  pub equal : Equal (asserted_in g) (term_of g.canonical a) (term_of g.canonical b)

abbrev pub IsExplainedOf : Image → Applied → Applied → Explained → Type 0
IsExplainedOf g a b (Proved p) = IsProvedOf g a b p
IsExplainedOf g a b Unequal = ¬ Equal (asserted_in g) (term_of g.canonical a) (term_of g.canonical b)
IsExplainedOf g a b Undecided = ¬ EqualUpTo g a b

-- the entry p says that two ids are equal, which stand for the terms
pub record IsProved (g : Image) (t u : Term) (p : ℕ) : Type 0 where
  pub left : Applied
  pub right : Applied
  pub left_term : term_of g.canonical left ≡ nameless t
  pub right_term : term_of g.canonical right ≡ nameless u
  pub stands : StandsAt g p (equation_of left right)
  pub equal : Equal (asserted_in g) (nameless t) (nameless u)

-- full ids that stand for the terms are not equal up to symmetries
pub record AreApart (g : Image) (t u : Term) : Type 0 where
  pub left : Applied
  pub right : Applied
  pub left_full : IsFull g.canonical left
  pub right_full : IsFull g.canonical right
  pub left_term : term_of g.canonical left ≡ nameless t
  pub right_term : term_of g.canonical right ≡ nameless u
  pub apart : ¬ EqualUpTo g left right

abbrev pub IsExplained : Image → Term → Term → Explained → Type 0
IsExplained g t u (Proved p) = IsProved g t u p
IsExplained g t u Unequal = ¬ Equal (asserted_in g) (nameless t) (nameless u)
IsExplained g t u Undecided = AreApart g t u

-- What an explanation of two terms answers over a graph, and what it leaves of it. It adds both terms itself.
--     AddsBothTerms r t u k         both terms were added to r, which is k then
--     Proves r t u p k              and the entry p proves that they are equal
--     ExplanationAnswers r t u h a  an explanation over r answers a, and leaves h
use Rattle.std.specs.Prelude.{◌≡◌, ◌+◌, ℕ, List, [], ◌∷◌, ◌++◌, false, IsTrue, String, string_bytes}
use Rattle.std.specs.declared.alloc.Global.{Global}
use Rattle.slotted_theory.specs.Term.{Term}
use Rattle.slotted_slots.specs.declared.error.Error.{Error}
use Rattle.slotted_slots.specs.declared.error.Error.TheVariants.{OutOfSlots, NotEqual}
use Rattle.slotted_slots.specs.Error.{IsShortage}
use Rattle.slotted_slots.specs.Table.{KnowsMore}
use Rattle.slotted_slots.specs.Syntax.{Element}
use Rattle.slotted_explain.specs.Explaining.{AddsTerms, Explains, FilesOnlyTerms, FindsApart, KeepsKnown, RunsOutForTerms}
use Rattle.slotted_explain.specs.Graph.{Graph, MakesAtMost, OnlyTakesSlots}
use Rattle.slotted_explain.specs.Places.{term_slots}
use Rattle.slotted_explain.specs.Printed.{IsProofText, MakesForProof, ProofRunsOut}
use Rattle.slotted_commands.specs.declared.answer.Answer.{Answer}
use Rattle.slotted_commands.specs.declared.answer.Answer.TheVariants.{Explained, Refused}

-- k has all that r has, with nothing more asserted, no other classes than the terms' subterms need, and none where both terms have ids, and
-- at most one fresh slot more for each place of the two terms
pub record AddsBothTerms (r : Graph) (t u : Term) (k : Graph) : Type 0 where
  pub sound : k.failed ≡ false
  pub adds : AddsTerms r.image k.image
  pub filed : FilesOnlyTerms r k t u
  pub kept : KeepsKnown r k t u
  pub more : KnowsMore r.table k.table
  pub takes : MakesAtMost (term_slots t + term_slots u) r.table k.table

-- the terms were added, their ids find alike in k, and the entry p of its proof list has the equation of these ids
pub record Proves (r : Graph) (t u : Term) (p : ℕ) (k : Graph) : Type 0 where
  pub added : AddsBothTerms r t u k
  pub explains : Explains k.image t u p

-- the terms were added, and their ids do not find alike in k
pub record AreAddedApart (r : Graph) (t u : Term) (k : Graph) : Type 0 where
  pub added : AddsBothTerms r t u k
  pub apart : FindsApart k.image t u

-- adding or proving runs out of memory or slots, and leaves the failed graph h
pub record ProvingRunsOut (r : Graph) (t u : Term) (e : Error) (h : Graph) : Type 0 where
  pub failed : IsTrue h.failed
  pub shortage : IsShortage e
  pub cause : e ≡ OutOfSlots → RunsOutForTerms r.image t u r.table h.table
  pub more : KnowsMore r.table h.table

-- the text, ended by a line feed, is the proof of the entry p of k, and printing it makes fresh slots alone, one at most for each binder
-- of its lines
pub record Prints (written : Term → List Element) (k : Graph) (p : ℕ) (text : String Global) (h : Graph) : Type 0 where
  pub proof : IsProofText written k h p (string_bytes text ++ 10 ∷ [])
  pub takes : OnlyTakesSlots k h
  pub count : MakesForProof k h p

-- printing the proof runs out of memory or slots, which does not fail the graph
pub record PrintingRunsOut (k : Graph) (p : ℕ) (e : Error) (h : Graph) : Type 0 where
  pub shortage : IsShortage e
  pub cause : e ≡ OutOfSlots → ProofRunsOut k h p
  pub takes : OnlyTakesSlots k h
  pub count : MakesForProof k h p

-- what an explanation of two terms over r answers, and the graph h that it leaves
pub data ExplanationAnswers (written : Term → List Element) (r : Graph) (t u : Term) (h : Graph) : Answer → Type 0 where
  -- there is a proof, and it is printed
  explained : {text : String Global} (p : ℕ) (k : Graph) → Proves r t u p k → Prints written k p text h →
      ExplanationAnswers written r t u h (Explained text)
  -- the graph does not find the terms equal
  not_equal : AreAddedApart r t u h → ExplanationAnswers written r t u h (Refused NotEqual)
  -- a shortage before there is a proof
  proving_ran_out : {e : Error} → ProvingRunsOut r t u e h → ExplanationAnswers written r t u h (Refused e)
  -- a shortage while it is printed
  printing_ran_out : {e : Error} (p : ℕ) (k : Graph) → Proves r t u p k → PrintingRunsOut k p e h →
      ExplanationAnswers written r t u h (Refused e)

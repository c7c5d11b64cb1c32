-- What an explanation of two kept terms says of them.
use Rattle.std.proofs.Common.{◌≡◌, ◌⊎◌, ◌↔◌, ◌∙◌, ℕ, List, Result, Ok, Err, IfErr, IsErrOf, ap, refl, sym, subst, inl, inr}
use Rattle.std.specs.Prelude.{◌+◌, Bool, true, false, IsErr, IsTrue, String, is_some, string_bytes}
use Rattle.std.specs.declared.alloc.Global.{Global}
use Rattle.std.proofs.lemmas.Bool.{false≢true}
use Rattle.slotted_lists.proofs.Options.{Some-same}
use Rattle.slotted_slots.specs.declared.error.Error.{Error}
use Rattle.slotted_slots.specs.declared.error.Error.TheVariants.{OutOfSlots, Failed, NotEqual}
use Rattle.slotted_slots.specs.Error.{IsShortage}
use Rattle.slotted_slots.specs.Syntax.{Element}
use Rattle.slotted_slots.specs.Table.{KnowsMore}
use Rattle.slotted_theory.specs.Term.{Term}
use Rattle.slotted_languages.proofs.HandedOn.{error_or}
use Rattle.slotted_model.specs.ProofList.{equation_of}
use Rattle.slotted_proofs.specs.Equations.{to_applied}
use Rattle.slotted_operations.specs.Explaining.{AddsTerms, Explains, FilesOnlyTerms, FindsApart, KeepsKnown, RunsOutForTerms}
use Rattle.slotted_operations.specs.Graph.{Graph, MakesAtMost, OnlyTakesSlots}
use Rattle.slotted_operations.specs.Image.{Image, asserted_in}
use Rattle.slotted_operations.specs.Places.{term_slots}
use Rattle.slotted_explain.specs.Chain.{ChainRunsOut, MakesForChain}
use Rattle.slotted_explain.specs.Printed.{IsProofText, MakesForProof, ProofRunsOut}
use Rattle.slotted_graph.specs.Extension.{ExtendsTo}
use Rattle.slotted_graph.specs.States.{IsGraph}
use Rattle.slotted_graph.proofs.Extending.{extends-added, extends-takes, extends-then}
use Rattle.slotted_commands.specs.Explained.{Proves, printing_ran_out}
use Rattle.slotted_commands.proofs.Explaining.{adds_both, explanation_refused, not_shortage, printing_refused}
use Rattle.slotted_workspace.specs.Asked.{ChainRefused, ChainsTerms, ExplainRefused, ExplainsTerms, FollowsIn, are_apart, chain_ran_out, proof_ran_out}
use Rattle.slotted_workspace.specs.Asked as asked
use Rattle.slotted_workspace.specs.Keeping.{IsKept}
use Rattle.slotted_workspace.specs.declared.kept.Kept.{Kept}
use Rattle.slotted_workspace.proofs.Saying.{entry-holds, follows, terms-equal}
use Rattle.slotted_workspace.proofs.Staying.{kept-later}

-- the entry of an explanation says that the terms are equal
explained-follows : {L : Type 0} (k : Graph) (a b : Kept L) → IsGraph k → IsKept k a → IsKept k b → (p : ℕ) → Explains k.image a.term b.term p → FollowsIn k.image a.term b.term
explained-follows k a b is one two p e =
    let left : e.left ≡ to_applied a.id = Some-same e.left (to_applied a.id) (sym e.ids.left ∙ one.found) in
    let right : e.right ≡ to_applied b.id = Some-same e.right (to_applied b.id) (sym e.ids.right ∙ two.found) in
    follows k.image a.term b.term (terms-equal k a b one two (asserted_in k.image)
    (entry-holds k is p e.in_range (to_applied a.id) (to_applied b.id) one.full.full two.full.full (sym (e.equation ∙ λ i. equation_of (left i) (right i)))))

-- all that the explanation of two terms leaves
module _ (g k : Graph) (t u : Term) (more : KnowsMore g.table k.table) (takes : MakesAtMost (term_slots t + term_slots u) g.table k.table) (adds : IsTrue k.failed ⊎ AddsTerms g.image k.image)
    (files : IsTrue k.failed ⊎ FilesOnlyTerms g k t u) (keeps : IsTrue k.failed ⊎ KeepsKnown g k t u) where
  pub extends-explained : IsTrue k.failed ⊎ ExtendsTo g k
  extends-explained = elim adds [ inl f ↦ inl f | inr a ↦ inr (extends-added g k a.extends a.adds more) ]

  pub explain-refused : {A : Type 0} (written : Term → List Element) (e : Error) → (IsErrOf {T = A} (Err e) Failed ↔ IsTrue g.failed) → (IsTrue g.failed → k ≡ g) → (IsErrOf {T = A} (Err e) NotEqual → FindsApart k.image t u) → (IsErrOf {T = A} (Err e) OutOfSlots → RunsOutForTerms g.image t u g.table k.table)
      → (IsTrue k.failed ↔ (IsErr {T = A} (Err e) × ¬ IsErrOf {T = A} (Err e) NotEqual)) → (e ≡ Failed) ⊎ (e ≡ NotEqual) ⊎ IsShortage e → ExplainRefused written g k t u e
  explain-refused {A} written e failed stays apart full fails only = by g.failed refl
    where
      by : (b : Bool) → g.failed ≡ b → ExplainRefused written g k t u e
      by true f = inl (f, stays f, ap (error_or Failed) (failed.1 f))
      by false well = inr (well, explanation_refused g k t u more takes adds files keeps {A = A} written (Err e) e refl (λ f. false≢true (sym well ∙ f)) failed.0 apart full fails only)

  pub chain-not_made : {A : Type 0} (e : Error) → (IsErrOf {T = A} (Err e) Failed ↔ IsTrue g.failed) → (IsTrue g.failed → k ≡ g) → (IsErrOf {T = A} (Err e) NotEqual → FindsApart k.image t u) → (IsErrOf {T = A} (Err e) OutOfSlots → RunsOutForTerms g.image t u g.table k.table)
      → (IsTrue k.failed ↔ (IsErr {T = A} (Err e) × ¬ IsErrOf {T = A} (Err e) NotEqual)) → (e ≡ Failed) ⊎ (e ≡ NotEqual) ⊎ IsShortage e → ChainRefused g k t u e
  chain-not_made {A} e failed stays apart full fails only = by g.failed refl
    where
      ended : g.failed ≡ false → (e ≡ Failed) ⊎ (e ≡ NotEqual) ⊎ IsShortage e → ChainRefused g k t u e
      ended well (inl f) = absurd (false≢true (sym well ∙ failed.0 (ap Err f)))
      ended well (inr (inl n)) = are_apart well n (record { added = adds_both g k t u more takes adds files keeps (λ f. (fails.0 f).1 (ap Err n)); apart = apart (ap Err n) })
      ended well (inr (inr s)) = proof_ran_out well (record {
        failed = fails.1 (refl, λ (n : Err e ≡ Err NotEqual). not_shortage e s (ap (error_or Failed) n));
        shortage = s;
        cause = λ q. full (ap Err q);
        more = more;
      })

      by : (b : Bool) → g.failed ≡ b → ChainRefused g k t u e
      by true f = asked.ChainRefused.had_failed (f, stays f, ap (error_or Failed) (failed.1 f))
      by false well = ended well only

-- printing it
module _ {L : Type 0} (written : Term → List Element) (g k h : Graph) (a b : Kept L) (p : ℕ) (well : g.failed ≡ false) (sound : IsTrue k.failed → ⊥) (proves : Proves g a.term b.term p k) (one : IsKept g a) (two : IsKept g b) where
  extends : ExtendsTo g k
  extends = extends-added g k proves.added.adds.extends proves.added.adds.adds proves.added.more

  pub explains : (text : String Global) → IsTrue k.failed ⊎ IsGraph k → OnlyTakesSlots k h → IsProofText written k h p (string_bytes text) → ExplainsTerms written g h a.term b.term text
  explains text rests takes printed =
      let is : IsGraph k = elim rests [ inl f ↦ absurd (sound f) | inr i ↦ i ] in
      record {
        number = p;
        between = k;
        proves = proves;
        keeps = proves.added.kept (ap is_some one.found) (ap is_some two.found);
        printed = printed;
        takes = takes;
        follows = subst (λ (x : Image). FollowsIn x a.term b.term) (sym takes.reads.image) (explained-follows k a b is (kept-later g k extends a one) (kept-later g k extends b two) p proves.explains);
      }

  -- as a chain

  pub chains : IsTrue k.failed ⊎ IsGraph k → OnlyTakesSlots k h → MakesForChain k h p → ChainsTerms g h a.term b.term
  chains rests takes count =
      let is : IsGraph k = elim rests [ inl f ↦ absurd (sound f) | inr i ↦ i ] in
      record {
        number = p;
        between = k;
        proves = proves;
        keeps = proves.added.kept (ap is_some one.found) (ap is_some two.found);
        takes = takes;
        count = count;
        follows = subst (λ (x : Image). FollowsIn x a.term b.term) (sym takes.reads.image) (explained-follows k a b is (kept-later g k extends a one) (kept-later g k extends b two) p proves.explains);
      }

  pub chain-refused : (r : Result (String Global) Error) → (IsErrOf r Failed → IsTrue k.failed) → (IsErrOf r OutOfSlots → ChainRunsOut k h p) → IfErr r (λ e. (e ≡ Failed) ⊎ IsShortage e) → OnlyTakesSlots k h → MakesForChain k h p → IfErr r (ChainRefused g h a.term b.term)
  chain-refused (Ok text) was full only takes count = tt
  chain-refused (Err e) was full (inl f) takes count = absurd (sound (was (ap Err f)))
  chain-refused (Err e) was full (inr s) takes count = chain_ran_out p k well proves s (λ q. full (ap Err q)) takes count

  -- as lines
  pub print-refused : (r : Result (String Global) Error) → (IsErrOf r Failed → IsTrue k.failed) → (IsErrOf r OutOfSlots → ProofRunsOut k h p) → IfErr r (λ e. (e ≡ Failed) ⊎ IsShortage e) → OnlyTakesSlots k h → MakesForProof k h p → IfErr r (ExplainRefused written g h a.term b.term)
  print-refused (Ok text) was full only takes count = tt
  print-refused (Err e) was full only takes count = inr (well, printing_ran_out p k proves (printing_refused {A = String Global} k h p (Err e) e refl sound was full only takes count))

pub extends-printed : (g k h : Graph) → IsTrue k.failed ⊎ ExtendsTo g k → (IsTrue k.failed → ⊥) → OnlyTakesSlots k h → IsTrue h.failed ⊎ ExtendsTo g h
extends-printed g k h (inl f) sound takes = absurd (sound f)
extends-printed g k h (inr e) sound takes = inr (extends-then g k h e (extends-takes k h takes))

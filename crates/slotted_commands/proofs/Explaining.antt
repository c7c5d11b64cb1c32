-- What the calls of an explanation leave the next one.
use Rattle.std.proofs.Common.{◌≡◌, ◌<◌, ◌+◌, ◌-◌, ◌⊎◌, ℕ, List, [], ◌∷◌, ◌++◌, length, take, get_or, inl, inr, refl, sym, ap, ◌∙◌, subst, arith}
use Rattle.std.specs.Prelude.{◌↔◌, ◌≢◌, IsTrue, Result, Ok, Err, IfErr, IsErr, IsErrOf, String, string_bytes, string_len, slice_index}
use Rattle.std.specs.declared.alloc.Global.{Global}
use Rattle.std.proofs.lemmas.List.{get_or-append_right, length-append}
use Rattle.std.proofs.Math.Seq.{take-append_seam}
use Rattle.slotted_theory.specs.Term.{Term}
use Rattle.slotted_slots.specs.declared.error.Error.{Error}
use Rattle.slotted_slots.specs.declared.error.Error.TheVariants.{OutOfSlots, Failed, NotEqual}
use Rattle.slotted_slots.specs.Error.{IsShortage}
use Rattle.slotted_slots.specs.Table.{KnowsMore}
use Rattle.slotted_slots.specs.Syntax.{Element}
use Rattle.slotted_explain.specs.Explaining.{AddsTerms, Explains, FilesOnlyTerms, FindsApart, KeepsKnown, RunsOutForTerms}
use Rattle.slotted_explain.specs.Graph.{Graph, MakesAtMost, OnlyTakesSlots}
use Rattle.slotted_explain.specs.Places.{term_slots}
use Rattle.slotted_explain.specs.Printed.{MakesForProof, ProofRunsOut}
use Rattle.slotted_explain.proofs.LastLine.{EndsInLineFeed}
use Rattle.slotted_commands.specs.declared.answer.Answer.TheVariants.{Refused}
use Rattle.slotted_commands.specs.Explained.{AddsBothTerms, ExplanationAnswers, PrintingRunsOut, Proves, not_equal, proving_ran_out}
use Rattle.slotted_commands.proofs.Steps.{not_true}

-- a text that ended in a line feed, without its last character
pub popped : (old new : String Global) → EndsInLineFeed (string_bytes old) → (0 < string_len old → slice_index (string_bytes old) (string_len old - 1) < 128 → string_bytes new ≡ take (string_len old - 1) (string_bytes old)) → string_bytes old ≡ string_bytes new ++ 10 ∷ []
popped old new e pops =
    let xs = e.0 in
    let len : string_len old ≡ length (string_bytes old) = old.bytes.ok.0 in
    let all : length (string_bytes old) ≡ length xs + 1 = omega (arith, ap length e.1, length-append xs (10 ∷ [])) in
    let last : string_len old - 1 ≡ length xs = omega (arith, len, all) in
    let none : length xs - length xs ≡ 0 = omega arith in
    let feed : slice_index (string_bytes old) (string_len old - 1) ≡ 10 = (λ i. get_or (e.1 i) (last i) 0) ∙ (get_or-append_right xs (10 ∷ []) (length xs) (length xs) 0 refl (omega arith) ∙ ap (λ k. get_or (10 ∷ []) k 0) none) in
    let taken : take (string_len old - 1) (string_bytes old) ≡ xs = (λ i. take (last i) (e.1 i)) ∙ take-append_seam xs (10 ∷ []) in
    e.1 ∙ ap (λ l. l ++ 10 ∷ []) (sym (pops (omega (arith, len, all)) (omega (arith, feed)) ∙ taken))

pub not_shortage : (e : Error) → IsShortage e → e ≢ NotEqual
not_shortage e s n = elim s [ inl m ↦ cc | inr o ↦ cc ]

-- printing that was refused
pub printing_refused : {A : Type 0} (g h : Graph) (p : ℕ) (x : Result A Error) (e : Error) → x ≡ Err e → ¬ IsTrue g.failed → (IsErrOf x Failed → IsTrue g.failed) → (IsErrOf x OutOfSlots → ProofRunsOut g h p) → IfErr x (λ y. (y ≡ Failed) ⊎ IsShortage y)
    → OnlyTakesSlots g h → MakesForProof g h p → PrintingRunsOut g p e h
printing_refused g h p (Ok y) e is sound was full only takes count = cc
printing_refused g h p (Err y) e is sound was full only takes count =
    let same : y ≡ e = cc in
    let short : IsShortage y = elim only [ inl f ↦ absurd (sound (was (ap Err f))) | inr s ↦ s ] in
    subst (λ z. PrintingRunsOut g p z h) same (record { shortage = short; cause = λ q. full (ap Err q); takes = takes; count = count })

module _ (r h : Graph) (t u : Term) (more : KnowsMore r.table h.table) (takes : MakesAtMost (term_slots t + term_slots u) r.table h.table) (adds : IsTrue h.failed ⊎ AddsTerms r.image h.image)
    (files : IsTrue h.failed ⊎ FilesOnlyTerms r h t u) (keeps : IsTrue h.failed ⊎ KeepsKnown r h t u) where
  pub adds_both : ¬ IsTrue h.failed → AddsBothTerms r t u h
  adds_both well = record {
    sound = not_true h.failed well;
    adds = elim adds [ inl f ↦ absurd (well f) | inr a ↦ a ];
    filed = elim files [ inl f ↦ absurd (well f) | inr a ↦ a ];
    kept = elim keeps [ inl f ↦ absurd (well f) | inr a ↦ a ];
    more = more;
    takes = takes;
  }

  -- a proof that was found
  pub proves : (p : ℕ) → ¬ IsTrue h.failed → Explains h.image t u p → Proves r t u p h
  proves p well explains = record { added = adds_both well; explains = explains }

  -- an explanation that was refused
  pub explanation_refused : {A : Type 0} (written : Term → List Element) (x : Result A Error) (e : Error) → x ≡ Err e → ¬ IsTrue r.failed → (IsErrOf x Failed → IsTrue r.failed) → (IsErrOf x NotEqual → FindsApart h.image t u)
      → (IsErrOf x OutOfSlots → RunsOutForTerms r.image t u r.table h.table) → (IsTrue h.failed ↔ (IsErr x × ¬ IsErrOf x NotEqual)) → IfErr x (λ y. (y ≡ Failed) ⊎ (y ≡ NotEqual) ⊎ IsShortage y) → ExplanationAnswers written r t u h (Refused e)
  explanation_refused written (Ok y) e is sound was apart full fails only = cc
  explanation_refused written (Err y) e is sound was apart full fails only =
      let same : y ≡ e = cc in
      subst (λ z. ExplanationAnswers written r t u h (Refused z)) same (elim only [
        | inl f ↦ absurd (sound (was (ap Err f)))
        | inr rest ↦ elim rest [
          | inl n ↦ subst (λ z. ExplanationAnswers written r t u h (Refused z)) (sym n) (not_equal (record { added = adds_both (λ f. (fails.0 f).1 (ap Err n)); apart = apart (ap Err n) }))
          | inr s ↦ proving_ran_out (record {
            failed = fails.1 (refl, λ (n : Err y ≡ Err NotEqual). not_shortage y s (cc));
            shortage = s;
            cause = λ q. full (ap Err q);
            more = more;
          })
        ]
      ])

-- What each step of a command leaves the next one.
use Rattle.std.proofs.Common.{◌≡◌, ◌⊎◌, ℕ, List, [], ◌∷◌, Bool, true, false, inl, inr, refl, sym, ap, ◌∙◌, subst}
use Rattle.std.specs.Prelude.{Option, None, Some, IsSome, IsTrue, Result, Ok, Err, IfErr, IsErr, IsErrOf}
use Rattle.std.specs.Str.{chars}
use Rattle.std.proofs.lemmas.Bool.{cases_Bool, false≢true}
use Rattle.slotted_theory.specs.Term.{Term}
use Rattle.slotted_theory.specs.Nameless.{nameless}
use Rattle.slotted_slots.specs.declared.error.Error.{Error}
use Rattle.slotted_slots.specs.declared.error.Error.TheVariants.{OutOfSlots, Failed}
use Rattle.slotted_slots.specs.declared.types.AppliedId.{AppliedId}
use Rattle.slotted_slots.specs.Error.{IsShortage}
use Rattle.slotted_slots.specs.Table.{KnowsMore}
use Rattle.slotted_slots.specs.Syntax.{Element}
use Rattle.slotted_nodes.specs.Form.{Form}
use Rattle.slotted_patterns.specs.Outcome.{parsed, Refuses}
use Rattle.slotted_terms.specs.Parsed.{TextReads}
use Rattle.slotted_model.specs.Applied.{Applied}
use Rattle.slotted_model.specs.Classes.{term_of}
use Rattle.slotted_model.specs.Growth.{Extends}
use Rattle.slotted_model.specs.Ids.{id_of}
use Rattle.slotted_explain.specs.AddingTerms.{FilesOnlyLookedUp, IsEqualToTerm, TakesForTerm}
use Rattle.slotted_explain.specs.Graph.{FilesOnlySubterms, Graph, IsFullId, MakesAtMost, OnlyReads, id_of_term}
use Rattle.slotted_explain.specs.Image.{AddsClasses, IsUnion, RecordsFilled}
use Rattle.slotted_explain.specs.Places.{term_slots}
use Rattle.slotted_explain.specs.Causes.{HasLargeClassIn}
use Rattle.slotted_explain.specs.LookUp.{IsOneGraph, KeepsLookUps, look_up_term}
use Rattle.slotted_explain.specs.Nodes.{to_applied}
use Rattle.slotted_explain.specs.Reports.{IsFound}
use Rattle.slotted_commands.specs.declared.answer.Answer.{Answer}
use Rattle.slotted_commands.specs.declared.answer.Answer.TheVariants.{Refused}
use Rattle.slotted_commands.specs.Commands.{Command, compares, unites}
use Rattle.slotted_commands.specs.Sessions.{AddsBoth, Answered, FirstIsRefused, GainsFound, GainsSyn, IsAnsweredIn, IsAnsweredWith, IsCommand, IsRefused, LacksSlots, LooksUpBoth, Manner, RunsOut, RunsOutAt, Says, Unites, WritesTerm, WritesTerms, carried_out, has_failed, ran_out, refused, refused_here, texts_of, union_ran_out}

module _ (read : List Element → Option Form) (g h : Graph) (text : List ℕ) (only : OnlyReads g h) where
  -- a text that was read
  pub writes_term : (t : Term) → TextReads read g.table (chars text) (parsed t) h.table → WritesTerm read g text t h
  writes_term t r = record { reads = r; only = only }

  -- a text that was refused
  pub is_refused : (e : Error) → Refuses (λ o. TextReads read g.table (chars text) o h.table) e → IsRefused read g text e h
  is_refused e r = record { reads = r; only = only }

-- a graph over which a text was read has not failed
pub sound_graph : {A : Type 0} (b : Bool) (r : Result A Error) (x : A) → r ≡ Ok x → (IsTrue b → r ≡ Err Failed) → b ≡ false
sound_graph true r x is was = let p : r ≡ Err Failed = was refl in cc
sound_graph false r x is was = refl

-- the first text of a command was refused
pub first_is_refused : (read : List Element → Option Form) (written : Term → List Element) (g h : Graph) (c : Command) (text : List ℕ) (texts : List (List ℕ)) (e : Error) → IsCommand c → texts_of c ≡ text ∷ texts
    → OnlyReads g h → (IsTrue g.failed → h ≡ g) → (IsTrue g.failed → e ≡ Failed)
    → (g.failed ≡ false → Refuses (λ o. TextReads read g.table (chars text) o h.table) e) → Answered read written g h c (Refused e)
first_is_refused read written g h c text texts e command is reads stays fails answer = elim (cases_Bool g.failed) [
  | inl failed ↦ subst (λ x. Answered read written g h c (Refused x)) (sym (fails failed)) (has_failed command failed (stays failed))
  | inr sound ↦ refused sound (subst (λ ts. FirstIsRefused read g ts e h) (sym is) (refused_here (is_refused read g h text reads e (answer sound))))
]

pub not_true : (b : Bool) → ¬ (IsTrue b) → b ≡ false
not_true true n = absurd (n refl)
not_true false n = refl

-- a term that was added by look-up
pub gains_found : (g h : Graph) (t : Term) (a : AppliedId) → (IsTrue h.failed → false ≡ true) → look_up_term h t ≡ Some (to_applied a) → IsFound h (to_applied a) → IsEqualToTerm h.image (to_applied a) t → (IsSome (look_up_term g t) → IsOneGraph g h) → KeepsLookUps g h
    → Extends g.image.canonical h.image.canonical → AddsClasses g.image h.image → KnowsMore g.table h.table
    → FilesOnlyLookedUp g h t → g.failed ≡ false → (IsTrue g.failed ⊎ TakesForTerm t g h.table) → GainsFound g t (to_applied a) h
gains_found g h t a sound looked_up found equal kept answers extends adds more filed before takes = record {
  sound = not_true h.failed (λ f. false≢true (sound f));
  valid = found.valid;
  found = found;
  looked_up = looked_up;
  equal = equal;
  kept = kept;
  filed = filed;
  takes = elim takes [ inl f ↦ absurd (false≢true (sym before ∙ f)) | inr made ↦ made ];
  answers = answers;
  extends = extends;
  adds = adds;
  more = more;
}

-- a term that was added by canonical nodes
pub gains_syn : (g h : Graph) (t : Term) (a : AppliedId) → (IsTrue h.failed → false ≡ true) → IsFullId h (to_applied a) → term_of h.image.canonical (to_applied a) ≡ nameless t → id_of h.image.canonical (nameless t) ≡ Some (to_applied a) → Extends g.image.canonical h.image.canonical → AddsClasses g.image h.image → KnowsMore g.table h.table
    → (IsSome (id_of_term g t) → IsOneGraph g h) → FilesOnlySubterms g h t → MakesAtMost (term_slots t) g.table h.table → GainsSyn g t (to_applied a) h
gains_syn g h t a sound valid term found extends adds more kept filed takes = record {
  sound = not_true h.failed (λ f. false≢true (sound f));
  valid = valid;
  term = term;
  found = found;
  kept = kept;
  filed = filed;
  takes = takes;
  extends = extends;
  adds = adds;
  more = more;
}

-- a term that was not added, since memory or slots ran out
pub runs_out : {A : Type 0} (m : Manner) (g h : Graph) (t : Term) (r : Result A Error) (e : Error) → r ≡ Err e → g.failed ≡ false → (IsErrOf r Failed → IsTrue g.failed) → (IsErr r → IsTrue h.failed) → (IsErrOf r OutOfSlots → LacksSlots m g t h.table) → IfErr r (λ x. (x ≡ Failed) ⊎ IsShortage x) → KnowsMore g.table h.table → RunsOut m g t e h
runs_out m g h t (Ok a) e is sound was fails full only more = cc
runs_out m g h t (Err x) e is sound was fails full only more =
    let same : x ≡ e = cc in
    let short : IsShortage x = elim only [ inl f ↦ absurd (false≢true (sym sound ∙ was (ap Err f))) | inr s ↦ s ] in
    subst (λ y. RunsOut m g t y h) same (record { failed = fails refl; shortage = short; cause = λ q. full (ap Err q); more = more })

-- a command of whose texts the first was refused
pub text_refused : (read : List Element → Option Form) (written : Term → List Element) (g h : Graph) (text : List ℕ) (texts : List (List ℕ)) (e : Error) → OnlyReads g h → (IsTrue g.failed → h ≡ g) → (IsTrue g.failed → e ≡ Failed) → (g.failed ≡ false → Refuses (λ o. TextReads read g.table (chars text) o h.table) e) → IsAnsweredWith read written g h (text ∷ texts) e
text_refused read written g h text texts e reads stays fails answer c command are = first_is_refused read written g h c text texts e command are reads stays fails answer

-- one of which a later text was refused
pub later_text_refused : (read : List Element → Option Form) (written : Term → List Element) (g h : Graph) (texts : List (List ℕ)) (e : Error) → g.failed ≡ false → FirstIsRefused read g texts e h → IsAnsweredWith read written g h texts e
later_text_refused read written g h texts e sound first c command are = refused sound (subst (λ ts. FirstIsRefused read g ts e h) (sym are) first)

-- one whose terms could not be added in its manner
pub terms_run_out : (m : Manner) (read : List Element → Option Form) (written : Term → List Element) (g r h : Graph) (texts : List (List ℕ)) (ts : List Term) (e : Error) → g.failed ≡ false → WritesTerms read g texts ts r → RunsOutAt m r ts e h → IsAnsweredIn m read written g h texts e
terms_run_out m read written g r h texts ts e sound writes short c command manner are =
    ran_out ts r sound (subst (λ xs. WritesTerms read g xs ts r) (sym are) writes) (subst (λ n. RunsOutAt n r ts e h) (sym manner) short)

-- what is so of any command is so of those that add their terms in a manner
pub in_manner : (m : Manner) (read : List Element → Option Form) (written : Term → List Element) (g h : Graph) (texts : List (List ℕ)) (e : Error) → IsAnsweredWith read written g h texts e → IsAnsweredIn m read written g h texts e
in_manner m read written g h texts e all c command manner are = all c command are

-- what a comparison of two terms that were looked up says
pub compares_says : (read : List Element → Option Form) (written : Term → List Element) (g h : Graph) (left right : List ℕ) (a b : AppliedId) (both : LooksUpBoth read g h left right a b) (x : Answer)
    → Says written h (compares left right) (both.first ∷ both.second ∷ []) (to_applied a ∷ to_applied b ∷ []) h x → Answered read written g h (compares left right) x
compares_says read written g h left right a b both x says = carried_out (both.first ∷ both.second ∷ []) (to_applied a ∷ to_applied b ∷ []) both.before h both.sound both.writes both.gains says

-- what a union of two terms that were added by canonical nodes says
pub unites_says : (read : List Element → Option Form) (written : Term → List Element) (g h : Graph) (left right : List ℕ) (a b : AppliedId) (both : AddsBoth read g h left right a b) (k : Graph) (x : Answer)
    → Says written h (unites left right) (both.first ∷ both.second ∷ []) (to_applied a ∷ to_applied b ∷ []) k x → Answered read written g k (unites left right) x
unites_says read written g h left right a b both k x says = carried_out (both.first ∷ both.second ∷ []) (to_applied a ∷ to_applied b ∷ []) both.before h both.sound both.writes both.gains says

-- a union that was answered
pub union_done : (g h : Graph) (a b : Applied) (y : Bool) → IsUnion g.image h.image a b y → RecordsFilled g.image h.image a b None → ¬ (IsTrue h.failed) → h.table ≡ g.table → Unites g a b h y
union_done g h a b y union records sound table = record { union = union; records = records; sound = not_true h.failed sound; table = table }

-- a union that was refused
pub union_refused : (written : Term → List Element) (g h : Graph) (left right : List ℕ) (t u : Term) (a b : Applied) (r : Result Bool Error) (e : Error) → r ≡ Err e → g.failed ≡ false → (IsErrOf r Failed → IsTrue g.failed) → (IsErr r → IsTrue h.failed) → (IsErrOf r OutOfSlots → HasLargeClassIn g.image) → IfErr r (λ x. (x ≡ Failed) ⊎ IsShortage x) → h.table ≡ g.table → Says written g (unites left right) (t ∷ u ∷ []) (a ∷ b ∷ []) h (Refused e)
union_refused written g h left right t u a b (Ok y) e is sound was fails full only table = cc
union_refused written g h left right t u a b (Err x) e is sound was fails full only table =
    let same : x ≡ e = cc in
    subst (λ y. Says written g (unites left right) (t ∷ u ∷ []) (a ∷ b ∷ []) h (Refused y)) same (elim only [
      | inl f ↦ absurd (false≢true (sym sound ∙ was (ap Err f)))
      | inr s ↦ union_ran_out (record { failed = fails refl; shortage = s; cause = λ q. full (ap Err q); table = table })
    ])

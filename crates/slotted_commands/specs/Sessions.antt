-- What a command answers over a graph, and what it leaves of it. A language says which node, if any, a list of elements
-- writes, and as which elements the uppermost node of a term is written. The texts of a command are read in turn from the left, before
-- any of their terms is added. A term is added by look-up, where it is added or compared or another one is extracted for it, and by
-- canonical nodes, where it is united: so a union asserts the equation of the terms that were given.
use Rattle.std.specs.Prelude.{◌≡◌, ℕ, List, [], ◌∷◌, length, map, Bool, true, false, Option, None, Some, IsSome, IsTrue, Result, Ok, Err}
use Rattle.std.specs.Str.{chars}
use Rattle.slotted_theory.specs.Term.{Term}
use Rattle.slotted_theory.specs.Nameless.{Alpha, nameless}
use Rattle.slotted_theory.specs.Derives.{Derives, nameless_pair}
use Rattle.slotted_slots.specs.declared.types.AppliedId.{AppliedId}
use Rattle.slotted_slots.specs.declared.error.Error.{Error}
use Rattle.slotted_slots.specs.declared.error.Error.TheVariants.{OutOfSlots, Failed}
use Rattle.slotted_slots.specs.Error.{IsShortage}
use Rattle.slotted_slots.specs.Table.{KnowsMore, Table}
use Rattle.slotted_slots.specs.Syntax.{Element}
use Rattle.slotted_nodes.specs.Form.{Form}
use Rattle.slotted_patterns.specs.Outcome.{parsed, Refuses}
use Rattle.slotted_terms.specs.Parsed.{TextReads}
use Rattle.slotted_terms.specs.Valid.{IsValidTerm}
use Rattle.slotted_model.specs.Applied.{Applied}
use Rattle.slotted_model.specs.Classes.{term_of}
use Rattle.slotted_model.specs.Growth.{Extends}
use Rattle.slotted_model.specs.Ids.{id_of}
use Rattle.slotted_explain.specs.AddingTerms.{FilesOnlyLookedUp, IsEqualToTerm, LacksForTerm, TakesForTerm}
use Rattle.slotted_explain.specs.Image.{FoundAlike, AddsClasses, IsUnion, CountsOpen, asserted_in, RecordsFilled}
use Rattle.slotted_explain.specs.Affected.{AreAffected}
use Rattle.slotted_explain.specs.Causes.{CanRunOutForTerm, HasLargeClassIn, IsUnknownTerm}
use Rattle.slotted_explain.specs.Graph.{FilesOnlySubterms, Graph, IsFullId, MakesAtMost, OnlyReads, id_of_term}
use Rattle.slotted_explain.specs.LookUp.{IsOneGraph, KeepsLookUps, look_up_term}
use Rattle.slotted_explain.specs.Nodes.{to_applied}
use Rattle.slotted_explain.specs.Places.{term_slots}
use Rattle.slotted_explain.specs.Reports.{IsFound}
use Rattle.slotted_explain.specs.ValidIds.{IsValidId}
use Rattle.slotted_commands.specs.declared.answer.Answer.{Answer}
use Rattle.slotted_commands.specs.declared.answer.Answer.TheVariants.{Done, Yes, No, United, WereEqual, Symmetries, Refused, NoCommand}
use Rattle.slotted_commands.specs.Commands.{Command, adds, compares, unites, explains, extracts, counts, no_command}
use Rattle.slotted_commands.specs.Explained.{ExplanationAnswers}
use Rattle.slotted_commands.specs.Extracted.{ExtractionAnswers}

-- the texts of a command, from the left
abbrev pub texts_of : Command → List (List ℕ)
texts_of (adds text) = text ∷ []
texts_of (compares left right) = left ∷ right ∷ []
texts_of (unites left right) = left ∷ right ∷ []
texts_of (explains left right) = left ∷ right ∷ []
texts_of (extracts text) = text ∷ []
texts_of counts = []
texts_of no_command = []

-- the line is a command
abbrev pub IsCommand : Command → Type 0
IsCommand (adds text) = Unit {0}
IsCommand (compares left right) = Unit {0}
IsCommand (unites left right) = Unit {0}
IsCommand (explains left right) = Unit {0}
IsCommand (extracts text) = Unit {0}
IsCommand counts = Unit {0}
IsCommand no_command = ⊥

-- how the terms of a command are added: each node by look-up, or each by canonical nodes
pub data Manner : Type 0 where
  by_look_up : Manner
  canonically : Manner

abbrev pub manner_of : Command → Manner
manner_of (adds text) = by_look_up
manner_of (compares left right) = by_look_up
manner_of (unites left right) = canonically
manner_of (explains left right) = canonically
manner_of (extracts text) = by_look_up
manner_of counts = canonically
manner_of no_command = canonically

-- over g the text writes the term t, and reading it leaves h
pub record WritesTerm (read : List Element → Option Form) (g : Graph) (text : List ℕ) (t : Term) (h : Graph) : Type 0 where
  pub reads : TextReads read g.table (chars text) (parsed t) h.table
  pub only : OnlyReads g h

-- over g the text is refused with e, and reading it leaves h
pub record IsRefused (read : List Element → Option Form) (g : Graph) (text : List ℕ) (e : Error) (h : Graph) : Type 0 where
  pub reads : Refuses (λ o. TextReads read g.table (chars text) o h.table) e
  pub only : OnlyReads g h

-- the texts write these terms, one text read after another
pub data WritesTerms (read : List Element → Option Form) : Graph → List (List ℕ) → List Term → Graph → Type 0 where
  no_text : {g : Graph} → WritesTerms read g [] [] g
  next_text : {g h k : Graph} {text : List ℕ} {texts : List (List ℕ)} {t : Term} {ts : List Term} → WritesTerm read g text t h →
      WritesTerms read h texts ts k → WritesTerms read g (text ∷ texts) (t ∷ ts) k

-- the first of the texts that writes no term is refused with e
pub data FirstIsRefused (read : List Element → Option Form) : Graph → List (List ℕ) → Error → Graph → Type 0 where
  refused_here : {g h : Graph} {text : List ℕ} {texts : List (List ℕ)} {e : Error} → IsRefused read g text e h →
      FirstIsRefused read g (text ∷ texts) e h
  refused_later : {g h k : Graph} {text : List ℕ} {texts : List (List ℕ)} {t : Term} {e : Error} → WritesTerm read g text t h →
      FirstIsRefused read h texts e k → FirstIsRefused read g (text ∷ texts) e k

-- h has all that g has, with nothing more asserted, and an id that a look-up of the term t answers, which `eq` can be asked of: it is what
-- it finds itself, and equal to t by what is asserted. What was looked up is looked up as before, and where t was, nothing changes; else
-- classes are made of subterms alone, with no more slots than these need
pub record GainsFound (g : Graph) (t : Term) (id : Applied) (h : Graph) : Type 0 where
  pub sound : h.failed ≡ false
  pub valid : IsValidId h id
  pub found : IsFound h id
  pub looked_up : look_up_term h t ≡ Some id
  pub equal : IsEqualToTerm h.image id t
  pub kept : IsSome (look_up_term g t) → IsOneGraph g h
  pub filed : FilesOnlyLookedUp g h t
  pub takes : TakesForTerm t g h.table
  pub answers : KeepsLookUps g h
  pub extends : Extends g.image.canonical h.image.canonical
  pub adds : AddsClasses g.image h.image
  pub more : KnowsMore g.table h.table

-- h has all that g has, with nothing more asserted, and a full id that stands for the term t and is its id by canonical nodes. Where there
-- was one nothing changes; else classes are made of subterms alone, with no more slots than t and its subterms have places
pub record GainsSyn (g : Graph) (t : Term) (id : Applied) (h : Graph) : Type 0 where
  pub sound : h.failed ≡ false
  pub valid : IsFullId h id
  pub term : term_of h.image.canonical id ≡ nameless t
  pub found : id_of h.image.canonical (nameless t) ≡ Some id
  pub kept : IsSome (id_of_term g t) → IsOneGraph g h
  pub filed : FilesOnlySubterms g h t
  pub takes : MakesAtMost (term_slots t) g.table h.table
  pub extends : Extends g.image.canonical h.image.canonical
  pub adds : AddsClasses g.image h.image
  pub more : KnowsMore g.table h.table

-- the term t is added to g in this manner, with this id in h
abbrev pub Gains : Manner → Graph → Term → Applied → Graph → Type 0
Gains by_look_up g t id h = GainsFound g t id h
Gains canonically g t id h = GainsSyn g t id h

-- why slots can run out where the term t is added to g in this manner
abbrev pub LacksSlots : Manner → Graph → Term → Table → Type 0
LacksSlots by_look_up g t new = LacksForTerm t g new
LacksSlots canonically g t new = CanRunOutForTerm g.image t g.table new × IsUnknownTerm g.image t

-- adding the term t to g runs out of memory or slots, and leaves the failed graph h
pub record RunsOut (m : Manner) (g : Graph) (t : Term) (e : Error) (h : Graph) : Type 0 where
  pub failed : IsTrue h.failed
  pub shortage : IsShortage e
  pub cause : e ≡ OutOfSlots → LacksSlots m g t h.table
  pub more : KnowsMore g.table h.table

-- the terms are added, one after another, and have these ids
pub data GainsTerms (m : Manner) : Graph → List Term → List Applied → Graph → Type 0 where
  no_term : {g : Graph} → GainsTerms m g [] [] g
  next_term : {g h k : Graph} {t : Term} {a : Applied} {ts : List Term} {ids : List Applied} → Gains m g t a h →
      GainsTerms m h ts ids k → GainsTerms m g (t ∷ ts) (a ∷ ids) k

-- adding the terms runs out at one of them
pub data RunsOutAt (m : Manner) : Graph → List Term → Error → Graph → Type 0 where
  runs_out_here : {g h : Graph} {t : Term} {ts : List Term} {e : Error} → RunsOut m g t e h → RunsOutAt m g (t ∷ ts) e h
  runs_out_later : {g h k : Graph} {t : Term} {ts : List Term} {e : Error} (a : Applied) → Gains m g t a h →
      RunsOutAt m h ts e k → RunsOutAt m g (t ∷ ts) e k

-- the ids of two terms find the same: so the terms are derivable from any named equations that are the asserted list, and where
-- nothing is asserted they differ in bound names alone
pub record AreFoundEqual (g : Graph) (t u : Term) (a b : Applied) : Type 0 where
  pub found : FoundAlike g.image a b
  pub derivable : (E : List (Term × Term)) → map nameless_pair E ≡ asserted_in g.image → Derives E t u
  pub equal : asserted_in g.image ≡ [] → Alpha t u

-- they do not: where the terms are derivable all the same, open symmetries affect both ids; and where nothing is asserted they are different
pub record AreFoundDifferent (g : Graph) (t u : Term) (a b : Applied) : Type 0 where
  pub found : ¬ FoundAlike g.image a b
  pub missed : (E : List (Term × Term)) → map nameless_pair E ≡ asserted_in g.image → Derives E t u → AreAffected g.image a b
  pub different : asserted_in g.image ≡ [] → ¬ Alpha t u

-- uniting ids of g leaves h and answers true or false
pub record Unites (g : Graph) (a b : Applied) (h : Graph) (yes : Bool) : Type 0 where
  pub union : IsUnion g.image h.image a b yes
  -- where the equation was not proved it is a new entry, asserted without a text, and stored entries stay
  pub records : RecordsFilled g.image h.image a b None
  pub sound : h.failed ≡ false
  pub table : h.table ≡ g.table

-- uniting ids of g runs out of memory, or of slots where a class is too large to be rebuilt, and leaves the failed graph h
pub record UnionRunsOut (g : Graph) (e : Error) (h : Graph) : Type 0 where
  pub failed : IsTrue h.failed
  pub shortage : IsShortage e
  pub cause : e ≡ OutOfSlots → HasLargeClassIn g.image
  pub table : h.table ≡ g.table

-- what a command says of its terms and their ids once they are added to g, and the graph that it leaves
pub data Says (written : Term → List Element) (g : Graph) : Command → List Term → List Applied → Graph → Answer → Type 0 where
  done : {text : List ℕ} {t : Term} {a : Applied} → Says written g (adds text) (t ∷ []) (a ∷ []) g Done
  are_equal : {left right : List ℕ} {t u : Term} {a b : Applied} → AreFoundEqual g t u a b →
      Says written g (compares left right) (t ∷ u ∷ []) (a ∷ b ∷ []) g Yes
  are_different : {left right : List ℕ} {t u : Term} {a b : Applied} → AreFoundDifferent g t u a b →
      Says written g (compares left right) (t ∷ u ∷ []) (a ∷ b ∷ []) g No
  are_united : {left right : List ℕ} {t u : Term} {a b : Applied} {h : Graph} → Unites g a b h true →
      Says written g (unites left right) (t ∷ u ∷ []) (a ∷ b ∷ []) h United
  were_equal : {left right : List ℕ} {t u : Term} {a b : Applied} {h : Graph} → Unites g a b h false →
      Says written g (unites left right) (t ∷ u ∷ []) (a ∷ b ∷ []) h WereEqual
  union_ran_out : {left right : List ℕ} {t u : Term} {a b : Applied} {e : Error} {h : Graph} → UnionRunsOut g e h →
      Says written g (unites left right) (t ∷ u ∷ []) (a ∷ b ∷ []) h (Refused e)
  -- what is extracted is the id that the term has
  extraction : {text : List ℕ} {t : Term} {a : Applied} {h : Graph} {x : Answer} → ExtractionAnswers written g a h x →
      Says written g (extracts text) (t ∷ []) (a ∷ []) h x
  counted : {n : ℕ} → CountsOpen g.image g.image.symmetries n → Says written g counts [] [] g (Symmetries (length g.image.symmetries) n)

-- what a command answers over g, and the graph h that it leaves
pub data Answered (read : List Element → Option Form) (written : Term → List Element) (g h : Graph) (c : Command) : Answer → Type 0 where
  -- what is no command changes nothing
  unknown : c ≡ no_command → h ≡ g → Answered read written g h c NoCommand
  -- nor does any command on a graph that has failed
  has_failed : IsCommand c → IsTrue g.failed → h ≡ g → Answered read written g h c (Refused Failed)
  -- the first text that is refused gives the answer, and no term is added
  refused : {e : Error} → g.failed ≡ false → FirstIsRefused read g (texts_of c) e h → Answered read written g h c (Refused e)
  -- a shortage while terms are added
  ran_out : {e : Error} (ts : List Term) (r : Graph) → g.failed ≡ false → WritesTerms read g (texts_of c) ts r →
      RunsOutAt (manner_of c) r ts e h → Answered read written g h c (Refused e)
  -- all texts are read, then all terms are added in the manner of the command, and then it says of them what it does
  carried_out : {a : Answer} (ts : List Term) (ids : List Applied) (r k : Graph) → g.failed ≡ false →
      WritesTerms read g (texts_of c) ts r → GainsTerms (manner_of c) r ts ids k → Says written k c ts ids h a →
      Answered read written g h c a
  -- both texts are read, and then their terms are explained, which adds them
  explanation : {a : Answer} (left right : List ℕ) (t u : Term) (r : Graph) → c ≡ explains left right → g.failed ≡ false →
      WritesTerms read g (left ∷ right ∷ []) (t ∷ u ∷ []) r → ExplanationAnswers written r t u h a → Answered read written g h c a

-- two texts write these terms, and reading them leaves r, to which both can be added
pub record ReadsBoth (read : List Element → Option Form) (g r : Graph) (left right : List ℕ) (t u : Term) : Type 0 where
  pub sound : g.failed ≡ false
  pub writes : WritesTerms read g (left ∷ right ∷ []) (t ∷ u ∷ []) r
  pub sound_now : r.failed ≡ false
  pub left_valid : IsValidTerm r.table t
  pub right_valid : IsValidTerm r.table u

-- a text writes a term that is looked up as this id in h, once it is added to g
pub record LooksUp (read : List Element → Option Form) (g h : Graph) (text : List ℕ) (a : AppliedId) : Type 0 where
  pub term : Term
  pub before : Graph
  pub sound : g.failed ≡ false
  pub writes : WritesTerms read g (text ∷ []) (term ∷ []) before
  pub gains : GainsFound before term (to_applied a) h

-- two texts write terms that are looked up as these ids in h, once they are added to g; and the ids are equal to the terms
pub record LooksUpBoth (read : List Element → Option Form) (g h : Graph) (left right : List ℕ) (a b : AppliedId) : Type 0 where
  pub first : Term
  pub second : Term
  pub before : Graph
  pub sound : g.failed ≡ false
  pub writes : WritesTerms read g (left ∷ right ∷ []) (first ∷ second ∷ []) before
  pub gains : GainsTerms by_look_up before (first ∷ second ∷ []) (to_applied a ∷ to_applied b ∷ []) h
  pub sound_now : h.failed ≡ false
  pub left_valid : IsValidId h (to_applied a)
  pub right_valid : IsValidId h (to_applied b)
  pub left_equal : IsEqualToTerm h.image (to_applied a) first
  pub right_equal : IsEqualToTerm h.image (to_applied b) second

-- two texts write terms that are added to g by canonical nodes, and have these ids in h
pub record AddsBoth (read : List Element → Option Form) (g h : Graph) (left right : List ℕ) (a b : AppliedId) : Type 0 where
  pub first : Term
  pub second : Term
  pub before : Graph
  pub sound : g.failed ≡ false
  pub writes : WritesTerms read g (left ∷ right ∷ []) (first ∷ second ∷ []) before
  pub gains : GainsTerms canonically before (first ∷ second ∷ []) (to_applied a ∷ to_applied b ∷ []) h
  pub sound_now : h.failed ≡ false
  pub left_valid : IsFullId h (to_applied a)
  pub right_valid : IsFullId h (to_applied b)
  pub left_term : term_of h.image.canonical (to_applied a) ≡ nameless first
  pub right_term : term_of h.image.canonical (to_applied b) ≡ nameless second

-- any command with these texts is refused with e, and leaves h
abbrev pub IsAnsweredWith : (List Element → Option Form) → (Term → List Element) → Graph → Graph → List (List ℕ) → Error → Type 0
IsAnsweredWith read written g h texts e = (c : Command) → IsCommand c → texts_of c ≡ texts → Answered read written g h c (Refused e)

-- any such command that adds its terms in this manner
abbrev pub IsAnsweredIn : Manner → (List Element → Option Form) → (Term → List Element) → Graph → Graph → List (List ℕ) → Error → Type 0
IsAnsweredIn m read written g h texts e = (c : Command) → IsCommand c → manner_of c ≡ m → texts_of c ≡ texts →
    Answered read written g h c (Refused e)

-- the answer, where a refusal is an answer too
abbrev pub answer_of : Result Answer Error → Answer
answer_of (Ok a) = a
answer_of (Err e) = Refused e

-- What calls of a workspace answer, told by the terms that handles stand for.
--     OfBoth s a b P             P holds of the terms of the handles a and b
--     FollowsIn g t u            the terms t and u are derivable from any named equations that are the asserted list
--     Compares g t u y           what `eq` answers of two terms
--     UnitesTerms g h t u text y a union of two terms, with this text, leads from g to h
--     UnionRefused g h e         it was refused so
--     AddsKept, AddRefused       a text was read, and its term was added, or this was refused
--     ExplainsTerms, ExplainRefused     a printed proof that two terms are equal, or a refusal
--     ChainsTerms, ChainRefused         the same of a chain of terms, whose text is not spoken of
--     ExtractsBy, ExtractByRefused      a printed term of least cost by some costs, or a refusal
--     ExtractsTerm, ExtractRefused      the same of the number of nodes
--     ReadsPattern, PatternRefused      the pattern of a text, or a refusal
--     HasMatches, SearchRefused  how many matches the pattern of a text has, or a refusal
--     Draws g h, DrawRefused g h e      a picture, or a list of classes, was made, or refused
--     ReadsRule, RuleRefused     a rule of two texts, or a refusal
--     ReadsKept form read y ..   what such a rule is kept as: sparing, or as it is
--     ChangesGraph s v           from s to v the graph alone changes
--     AddsTerm, KeepsRule        the same of a workspace, which keeps the term, or the rule
--     Refuses, RefusesOne, RefusesBoth    a handle is unknown, and nothing changes; or the graph refused so, and it alone changed
use Rattle.std.specs.Prelude.{◌≡◌, ◌⊎◌, ◌↔◌, ℕ, List, [], ◌∷◌, ◌++◌, length, map, Bool, true, false, Option, None, Some, Ok, Err, IsTrue, String, string_bytes}
use Rattle.std.specs.declared.alloc.Global.{Global}
use Rattle.slotted_slots.specs.declared.error.Error.{Error}
use Rattle.slotted_slots.specs.declared.error.Error.TheVariants.{OutOfMemory, OutOfSlots, Failed, NotEqual, SubstInSearch}
use Rattle.slotted_slots.specs.Error.{IsShortage}
use Rattle.slotted_slots.specs.Naming.{IsNamingRefusal}
use Rattle.slotted_slots.specs.Syntax.{Element}
use Rattle.slotted_theory.specs.Term.{Term}
use Rattle.slotted_theory.specs.Derives.{Derives, nameless_pair}
use Rattle.slotted_nodes.specs.Form.{Form}
use Rattle.slotted_patterns.specs.Known.{HasKnownNames}
use Rattle.slotted_patterns.specs.View.{tree_of}
use Rattle.slotted_patterns.specs.declared.pattern.Pattern.{Pattern}
use Rattle.slotted_model_rules.specs.Conditions.{Values}
use Rattle.slotted_rule_patterns.specs.Variables.{has_substitution}
use Rattle.slotted_terms.specs.Shown.{term_text}
use Rattle.slotted_terms.specs.Valid.{IsValidTerm}
use Rattle.slotted_model.specs.Applied.{Applied}
use Rattle.slotted_model.specs.Cost.{AtMost, CostFunction}
use Rattle.slotted_costs.specs.Costs.{cost_of_term}
use Rattle.slotted_operations.specs.Affected.{AreAffected}
use Rattle.slotted_operations.specs.Causes.{HasLargeClassIn}
use Rattle.slotted_operations.specs.Explaining.{HasIds, KeepsClasses}
use Rattle.slotted_operations.specs.Graph.{Graph, OnlyReads, OnlyTakesSlots, id_of_term}
use Rattle.slotted_operations.specs.Image.{Image, FoundAlike, IsUnion, RecordsFilled, asserted_in}
use Rattle.slotted_graph.specs.Extension.{ExtendsTo}
use Rattle.slotted_graph.specs.LeastTerms.{IsLeastTerm, MakesForLeast, RunsOutForLeast}
use Rattle.slotted_graph.specs.FiledNodes.{CanRunOutForDump}
use Rattle.slotted_explain.specs.Printed.{IsProofText}
use Rattle.slotted_explain.specs.Chain.{ChainRunsOut, MakesForChain}
use Rattle.slotted_rules.specs.Reading.{first_unread, tree_reads}
use Rattle.slotted_rules.specs.Rewriting.{IsSearched}
use Rattle.slotted_rules.specs.Written.{AreRead, AreRefused, ReadsAs}
use Rattle.slotted_rules.specs.declared.condition_tree.CondTree.{CondTree}
use Rattle.slotted_rules.specs.declared.rewrite.Rewrite.{Rewrite}
use Rattle.slotted_commands.specs.Explained.{AreAddedApart, ExplanationAnswers, Proves, ProvingRunsOut}
use Rattle.slotted_commands.specs.declared.answer.Answer.TheVariants.{Refused}
use Rattle.slotted_commands.specs.Extracted.{sizes}
use Rattle.slotted_commands.specs.Sessions.{GainsSyn, IsRefused, RunsOut, WritesTerm, canonically}
use Rattle.slotted_workspace.specs.Spaces.{Space, WrittenRule, kept_as, term_at}
use Rattle.slotted_workspace.specs.declared.error.WorkspaceError.{WorkspaceError}
use Rattle.slotted_workspace.specs.declared.error.WorkspaceError.TheVariants.{UnknownHandle}
use Rattle.slotted_workspace.specs.declared.error.WorkspaceError.TheVariants as refused
use Rattle.slotted_workspace.specs.declared.handle.Handle.{Handle}

abbrev pub OfBoth : Space → Handle → Handle → (Term → Term → Type 0) → Type 0
OfBoth s a b P = (t u : Term) × (term_at s a ≡ Some t) × (term_at s b ≡ Some u) × P t u

abbrev pub OfOne : Space → Handle → (Term → Type 0) → Type 0
OfOne s a P = (t : Term) × (term_at s a ≡ Some t) × P t

abbrev pub ChangesGraph : Space → Space → Type 0
ChangesGraph s v = v ≡ record s { graph = v.graph }

abbrev pub RefusesBoth : Space → Space → Handle → Handle → (Term → Term → Error → Type 0) → WorkspaceError → Type 0
RefusesBoth s v a b P UnknownHandle = ((term_at s a ≡ None) ⊎ (term_at s b ≡ None)) × (v ≡ s)
RefusesBoth s v a b P (refused.RuleText e) = ⊥
RefusesBoth s v a b P (refused.Graph e) = OfBoth s a b (λ t u. P t u e) × ChangesGraph s v

abbrev pub RefusesOne : Space → Space → Handle → (Term → Error → Type 0) → WorkspaceError → Type 0
RefusesOne s v a P UnknownHandle = (term_at s a ≡ None) × (v ≡ s)
RefusesOne s v a P (refused.RuleText e) = ⊥
RefusesOne s v a P (refused.Graph e) = OfOne s a (λ t. P t e) × ChangesGraph s v

abbrev pub Refuses : Space → Space → (Error → Type 0) → WorkspaceError → Type 0
Refuses s v P UnknownHandle = ⊥
Refuses s v P (refused.RuleText e) = ⊥
Refuses s v P (refused.Graph e) = P e × ChangesGraph s v

-- it says so of the graph alone, which had failed before, and stays so
abbrev pub HadFailed : Graph → Graph → Error → Type 0
HadFailed g h e = IsTrue g.failed × (h ≡ g) × (e ≡ Failed)

-- a slot was refused, and nothing changes
abbrev pub NamingRefused : Graph → Graph → Error → Type 0
NamingRefused g h e = HadFailed g h e ⊎ ((g.failed ≡ false) × (h ≡ g) × IsNamingRefusal e)

abbrev pub FollowsIn : Image → Term → Term → Type 0
FollowsIn g t u = (E : List (Term × Term)) → map nameless_pair E ≡ asserted_in g → Derives E t u

-- a yes is right, and so is a no, unless open symmetries affect both terms
pub record Compares (g : Graph) (t u : Term) (y : Bool) : Type 0 where
  pub well : g.failed ≡ false
  pub left : Applied
  pub right : Applied
  pub ids : HasIds g.image t u left right
  pub found : IsTrue y ↔ FoundAlike g.image left right
  pub sound : IsTrue y → FollowsIn g.image t u
  pub complete : (E : List (Term × Term)) → map nameless_pair E ≡ asserted_in g.image → Derives E t u → IsTrue y ⊎ AreAffected g.image left right

-- from then on the terms are equal by what is asserted
pub record UnitesTerms (g h : Graph) (t u : Term) (text : Option (List ℕ)) (y : Bool) : Type 0 where
  pub well : h.failed ≡ false
  pub left : Applied
  pub right : Applied
  pub ids : HasIds g.image t u left right
  pub union : IsUnion g.image h.image left right y
  pub records : RecordsFilled g.image h.image left right text
  pub follows : FollowsIn h.image t u
  pub extends : ExtendsTo g h
  pub table : h.table ≡ g.table

-- memory ran out before the union, or it ran out in it
pub data UnionRefused (g h : Graph) (e : Error) : Type 0 where
  had_failed : HadFailed g h e → UnionRefused g h e
  no_text : h ≡ g → e ≡ OutOfMemory → UnionRefused g h e
  union_ran_out : g.failed ≡ false → IsTrue h.failed → IsShortage e → (e ≡ OutOfSlots → HasLargeClassIn g.image) → UnionRefused g h e

pub record AddsKept (read : List Element → Option Form) (g h : Graph) (text : List ℕ) (t : Term) (id : Applied) : Type 0 where
  pub well : g.failed ≡ false
  pub between : Graph
  pub writes : WritesTerm read g text t between
  pub gains : GainsSyn between t id h

-- its handle is the next one, and stands for the term from now on, which can be added again
pub record AddsTerm (read : List Element → Option Form) (s v : Space) (text : List ℕ) (h : Handle) : Type 0 where
  pub term : Term
  pub id : Applied
  pub adds : AddsKept read s.graph v.graph text term id
  pub handle : h ≡ record { workspace = s.number; index = length s.terms }
  pub stands : term_at v h ≡ Some term
  pub valid : IsValidTerm v.graph.table term
  pub rest : v ≡ record s { graph = v.graph; terms = s.terms ++ term ∷ [] }

-- the text was refused, or its term, or the term was added and there was no memory to keep it
pub data AddRefused (read : List Element → Option Form) (g h : Graph) (text : List ℕ) (e : Error) : Type 0 where
  had_failed : HadFailed g h e → AddRefused read g h text e
  text_refused : g.failed ≡ false → IsRefused read g text e h → AddRefused read g h text e
  term_refused : (t : Term) (between : Graph) → g.failed ≡ false → WritesTerm read g text t between → RunsOut canonically between t e h → AddRefused read g h text e
  not_kept : (t : Term) (id : Applied) → AddsKept read g h text t id → e ≡ OutOfMemory → AddRefused read g h text e

-- entries of the proof list are all that is new, and the text is that of a proof of one that has the equation of both terms
pub record ExplainsTerms (written : Term → List Element) (g h : Graph) (t u : Term) (text : String Global) : Type 0 where
  pub number : ℕ
  pub between : Graph
  pub proves : Proves g t u number between
  pub keeps : KeepsClasses g between
  pub printed : IsProofText written between h number (string_bytes text)
  pub takes : OnlyTakesSlots between h
  pub follows : FollowsIn h.image t u

-- the graph had failed, or it was refused as the command of the line program is
abbrev pub ExplainRefused : (Term → List Element) → Graph → Graph → Term → Term → Error → Type 0
ExplainRefused written g h t u e = HadFailed g h e ⊎ ((g.failed ≡ false) × ExplanationAnswers written g t u h (Refused e))

-- a chain of the entry that has the equation of both terms
pub record ChainsTerms (g h : Graph) (t u : Term) : Type 0 where
  pub number : ℕ
  pub between : Graph
  pub proves : Proves g t u number between
  pub keeps : KeepsClasses g between
  pub takes : OnlyTakesSlots between h
  pub count : MakesForChain between h number
  pub follows : FollowsIn h.image t u

-- the terms are not equal by what is asserted, or memory or slots ran out before there was a proof, or in printing it
pub data ChainRefused (g h : Graph) (t u : Term) (e : Error) : Type 0 where
  had_failed : HadFailed g h e → ChainRefused g h t u e
  are_apart : g.failed ≡ false → e ≡ NotEqual → AreAddedApart g t u h → ChainRefused g h t u e
  proof_ran_out : g.failed ≡ false → ProvingRunsOut g t u e h → ChainRefused g h t u e
  chain_ran_out : (p : ℕ) (k : Graph) → g.failed ≡ false → Proves g t u p k → IsShortage e → (e ≡ OutOfSlots → ChainRunsOut k h p) → OnlyTakesSlots k h → MakesForChain k h p → ChainRefused g h t u e

-- the text is that of a term of least cost, which follows from what is asserted, and costs no more than the term itself
pub record ExtractsBy {L C : Type 0} (form : L → Form) (written : Term → List Element) (costs : CostFunction C) (g h : Graph) (t : Term) (cost : C) (text : String Global) : Type 0 where
  pub well : g.failed ≡ false
  pub id : Applied
  pub is_id : id_of_term g t ≡ Some id
  pub term : Term
  pub least : IsLeastTerm g costs id term
  pub size : cost ≡ cost_of_term costs term
  pub no_larger : AtMost costs cost (cost_of_term costs t)
  pub follows : FollowsIn g.image t term
  pub known : IsValidTerm h.table term
  pub bytes : string_bytes text ≡ term_text written h.table term
  pub takes : OnlyTakesSlots g h
  pub count : (h ≡ g) ⊎ MakesForLeast form costs id g h

-- the graph had failed, memory or slots ran out, or a cost was refused
pub data ExtractByRefused {L C : Type 0} (form : L → Form) (costs : CostFunction C) (refuses : Error → Type 0) (g h : Graph) (t : Term) (e : Error) : Type 0 where
  had_failed : HadFailed g h e → ExtractByRefused form costs refuses g h t e
  extraction_ran_out : (id : Applied) → g.failed ≡ false → id_of_term g t ≡ Some id → IsShortage e → (e ≡ OutOfSlots → RunsOutForLeast form costs id g h) → OnlyTakesSlots g h → ExtractByRefused form costs refuses g h t e
  cost_refused : g.failed ≡ false → refuses e → OnlyTakesSlots g h → ExtractByRefused form costs refuses g h t e

abbrev pub ExtractsTerm : {L : Type 0} → (L → Form) → (Term → List Element) → Graph → Graph → Term → ℕ → String Global → Type 0
ExtractsTerm form written = ExtractsBy form written sizes

abbrev pub ExtractRefused : {L : Type 0} → (L → Form) → Graph → Graph → Term → Error → Type 0
ExtractRefused form = ExtractByRefused form sizes (λ _. ⊥)

-- the pattern is what the text reads as
pub record ReadsPattern {L : Type 0} (form : L → Form) (read : List Element → Option Form) (g h : Graph) (text : List ℕ) (p : Pattern L) : Type 0 where
  pub well : g.failed ≡ false
  pub answer : ReadsAs form read g.table h.table text (Ok p)
  pub known : HasKnownNames h.table (tree_of form p)
  pub only : OnlyReads g h

abbrev pub PatternRefused : {L : Type 0} → (L → Form) → (List Element → Option Form) → Graph → Graph → List ℕ → Error → Type 0
PatternRefused {L} form read g h text e = HadFailed g h e ⊎ ((g.failed ≡ false) × ReadsAs {L = L} form read g.table h.table text (Err e) × OnlyReads g h)

-- a search with the pattern of the text finds so many matches
pub record HasMatches {L : Type 0} (form : L → Form) (read : List Element → Option Form) (g h : Graph) (text : List ℕ) (n : ℕ) : Type 0 where
  pub pattern : Pattern L
  pub between : Graph
  pub reads : ReadsPattern form read g between text pattern
  pub plain : has_substitution (tree_of form pattern) ≡ false
  pub found : List Values
  pub searched : IsSearched (tree_of form pattern) between found h
  pub count : n ≡ length found

-- the text was refused, or the search for its pattern
pub data SearchRefused {L : Type 0} (form : L → Form) (read : List Element → Option Form) (g h : Graph) (text : List ℕ) (e : Error) : Type 0 where
  text_refused : PatternRefused form read g h text e → SearchRefused form read g h text e
  search_refused : (p : Pattern L) (between : Graph) → ReadsPattern form read g between text p → OnlyTakesSlots between h →
      ((e ≡ SubstInSearch) × (has_substitution (tree_of form p) ≡ true)) ⊎ IsShortage e → SearchRefused form read g h text e

abbrev pub DrawRefused : Graph → Graph → Error → Type 0
DrawRefused g h e = HadFailed g h e ⊎ ((g.failed ≡ false) × OnlyTakesSlots g h × IsShortage e × (e ≡ OutOfSlots → CanRunOutForDump g h.table))

-- fresh slots were made at most, in a graph that has not failed
abbrev pub Draws : Graph → Graph → Type 0
Draws g h = (g.failed ≡ false) × OnlyTakesSlots g h

pub record ReadsRule {L : Type 0} (form : L → Form) (read : List Element → Option Form) (g h : Graph) (name left right : List ℕ) (condition : CondTree) (r : Rewrite L CondTree) : Type 0 where
  pub well : g.failed ≡ false
  pub named : string_bytes r.name ≡ name
  pub conditioned : r.condition ≡ condition
  pub are : AreRead form read g.table h.table left right r
  pub asked : first_unread (tree_of form r.left) (tree_reads condition) ≡ None
  pub only : OnlyReads g h

-- the rule of both texts is kept as that one
pub record ReadsKept {L : Type 0} (form : L → Form) (read : List Element → Option Form) (sparing : Bool) (g h : Graph) (name left right : List ℕ) (condition : CondTree) (r : WrittenRule) : Type 0 where
  pub rule : Rewrite L CondTree
  pub reads : ReadsRule form read g h name left right condition rule
  pub kept : r ≡ kept_as form sparing rule

-- it comes last
pub record KeepsRule {L : Type 0} (form : L → Form) (read : List Element → Option Form) (s v : Space) (name left right : List ℕ) (condition : CondTree) : Type 0 where
  pub rule : WrittenRule
  pub reads : ReadsKept form read s.sparing s.graph v.graph name left right condition rule
  pub rest : v ≡ record s { graph = v.graph; rules = s.rules ++ rule ∷ [] }

-- a text was refused, or a rule of both, or there was no memory to keep it
pub data RuleRefused {L : Type 0} (form : L → Form) (read : List Element → Option Form) (g h : Graph) (left right : List ℕ) (condition : CondTree) (e : Error) : Type 0 where
  had_failed : HadFailed g h e → RuleRefused form read g h left right condition e
  texts_refused : g.failed ≡ false → AreRefused form read g.table h.table left right (tree_reads condition) e → OnlyReads g h → RuleRefused form read g h left right condition e
  not_kept : g.failed ≡ false → OnlyReads g h → e ≡ OutOfMemory → RuleRefused form read g h left right condition e

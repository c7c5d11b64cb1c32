-- What calls say of the workspace as its callers see it, told by what it keeps.
use Rattle.std.proofs.Common.{◌≡◌, ◌⊎◌, ◌∙◌, ◌++◌, ℕ, List, [], ◌∷◌, length, ap, refl, sym, subst, inl, inr}
use Rattle.std.proofs.lemmas.List.{length-map, map-append}
use Rattle.std.proofs.lemmas.List.Elements.{All-weaker}
use Rattle.std.specs.Prelude.{All, Bool, IsTrue, None, Option, Some, map}
use Rattle.slotted_slots.specs.declared.error.Error.{Error}
use Rattle.slotted_slots.specs.declared.error.Error.TheVariants.{OutOfMemory}
use Rattle.slotted_slots.specs.Syntax.{Element}
use Rattle.slotted_theory.specs.Term.{Term}
use Rattle.slotted_terms.specs.Valid.{IsValidTerm}
use Rattle.slotted_nodes.specs.Form.{Form}
use Rattle.slotted_model.specs.Applied.{Applied}
use Rattle.slotted_operations.specs.Graph.{Graph, OnlyReads}
use Rattle.slotted_graph.proofs.Extending.{extends-read}
use Rattle.slotted_rules.specs.Written.{CanBeSearched}
use Rattle.slotted_rules.specs.WrittenLaws.{valid-later}
use Rattle.slotted_rules.specs.declared.condition_tree.CondTree.{CondTree}
use Rattle.slotted_rules.specs.declared.rewrite.Rewrite.{Rewrite}
use Rattle.slotted_workspace.specs.Asked.{AddRefused, AddsKept, AddsTerm, ChangesGraph, KeepsRule, OfBoth, OfOne, ReadsKept, Refuses, RefusesBoth, RefusesOne, RuleRefused}
use Rattle.slotted_workspace.specs.Asked as asked
use Rattle.slotted_workspace.specs.RuleTexts.{KeepsRules, ReadsText, RefusesText, TextRefused, no_memory}
use Rattle.slotted_workspace.specs.Keeping.{IsKept, IsSane, found_in, space_of, terms_of}
use Rattle.slotted_workspace.specs.Spaces.{Space, WrittenRule, rule_of, term_at}
use Rattle.slotted_workspace.specs.declared.error.WorkspaceError.{WorkspaceError}
use Rattle.slotted_workspace.specs.declared.error.WorkspaceError.TheVariants.{UnknownHandle}
use Rattle.slotted_workspace.specs.declared.error.WorkspaceError.TheVariants as refusal
use Rattle.slotted_workspace.specs.declared.handle.Handle.{Handle}
use Rattle.slotted_workspace.specs.declared.kept.Kept.{Kept}
use Rattle.slotted_workspace.specs.declared.sparing.RuleCondition.{RuleCondition}
use Rattle.slotted_workspace.proofs.Places.{one-of, stands-for, stands-for_none, stands-next}
use Rattle.slotted_workspace.proofs.RuleTexts.{rules-only}
use Rattle.slotted_workspace.proofs.Staying.{kept-later}

-- that reads alone leaves it sane
pub sane-read : {L : Type 0} (form : L → Form) (g h : Graph) (kept : List (Kept L)) (rules : List (Rewrite L (RuleCondition L))) → OnlyReads g h → IsSane form g kept rules → IsSane form h kept rules
sane-read form g h kept rules reads (inl f) = inl (reads.failed ∙ f)
sane-read form g h kept rules reads (inr all) = inr (
  All-weaker (IsKept g) (IsKept h) (kept-later g h (extends-read g h reads)) kept all.0,
  All-weaker (CanBeSearched form g.table) (CanBeSearched form h.table) (λ r v. valid-later form g h r (extends-read g h reads) v) rules all.1,
)

module _ {L : Type 0} (form : L → Form) (n : ℕ) (g : Graph) (kept : List (Kept L)) (rules : List (Rewrite L (RuleCondition L))) (sparing : Bool) (s : Space) (is : space_of form n g kept rules sparing ≡ s) where
  -- the graph alone changes
  pub changes : (h : Graph) → ChangesGraph s (space_of form n h kept rules sparing)
  changes h i = record (is i) { graph = h }

  -- a call over the graph was refused
  pub call-refused : (P : Graph → Error → Type 0) (h : Graph) (e : Error) → P g e → Refuses s (space_of form n h kept rules sparing) (P s.graph) (refusal.Graph e)
  call-refused P h e p = (subst (λ (x : Space). P x.graph e) is p, changes h)

  -- what was read is what is kept
  module _ (read : List (Kept L)) (same : read ≡ kept) where
    stand : (h : Handle) (k : Kept L) → found_in read n h ≡ Some k → term_at s h ≡ Some k.term
    stand h k e = stands-for kept n s (ap (λ (x : Space). x.number) (sym is)) (ap (λ (x : Space). x.terms) (sym is)) h k (subst (λ l. found_in l n h ≡ Some k) same e)

    absent : (h : Handle) → found_in read n h ≡ None → term_at s h ≡ None
    absent h e = stands-for_none kept n s (ap (λ (x : Space). x.number) (sym is)) (ap (λ (x : Space). x.terms) (sym is)) h (subst (λ l. found_in l n h ≡ None) same e)

    pub is-kept : (h : Handle) (k : Kept L) → IsSane form g kept rules → found_in read n h ≡ Some k → IsTrue g.failed ⊎ IsKept g k
    is-kept h k (inl f) e = inl f
    is-kept h k (inr all) e = inr (one-of (IsKept g) kept n h k all.0 (subst (λ l. found_in l n h ≡ Some k) same e))

    -- of one handle
    module _ (a : Handle) (k : Kept L) (first : found_in read n a ≡ Some k) where
      pub one-answered : (P : Graph → Term → Type 0) → P g k.term → OfOne s a (P s.graph)
      one-answered P p = (k.term, stand a k first, subst (λ (x : Space). P x.graph k.term) is p)

      pub one-refused : (P : Graph → Term → Error → Type 0) (h : Graph) (e : Error) → P g k.term e → RefusesOne s (space_of form n h kept rules sparing) a (P s.graph) (refusal.Graph e)
      one-refused P h e p = (one-answered (λ x t. P x t e) p, changes h)

    pub one-unknown : (a : Handle) (P : Term → Error → Type 0) (e : WorkspaceError) → (e ≡ UnknownHandle) × (found_in read n a ≡ None) → RefusesOne s s a P e
    one-unknown a P e u = subst (RefusesOne s s a P) (sym u.0) (absent a u.1, refl)

    -- of two
    pub both-unknown : (a b : Handle) (P : Term → Term → Error → Type 0) (e : WorkspaceError) → (e ≡ UnknownHandle) × ((found_in read n a ≡ None) ⊎ (found_in read n b ≡ None)) → RefusesBoth s s a b P e
    both-unknown a b P e u = subst (RefusesBoth s s a b P) (sym u.0) (none u.1, refl)
      where
        none : (found_in read n a ≡ None) ⊎ (found_in read n b ≡ None) → (term_at s a ≡ None) ⊎ (term_at s b ≡ None)
        none (inl e) = inl (absent a e)
        none (inr e) = inr (absent b e)

    module _ (a b : Handle) (k l : Kept L) (first : found_in read n a ≡ Some k) (second : found_in read n b ≡ Some l) where
      pub both-answered : (P : Graph → Term → Term → Type 0) → P g k.term l.term → OfBoth s a b (P s.graph)
      both-answered P p = (k.term, l.term, stand a k first, stand b l second, subst (λ (x : Space). P x.graph k.term l.term) is p)

      pub both-refused : (P : Graph → Term → Term → Error → Type 0) (h : Graph) (e : Error) → P g k.term l.term e → RefusesBoth s (space_of form n h kept rules sparing) a b (P s.graph) (refusal.Graph e)
      both-refused P h e p = (both-answered (λ x t u. P x t u e) p, changes h)

      -- by a call that changes nothing
      pub both-refused_here : (P : Graph → Term → Term → Error → Type 0) (e : Error) → P g k.term l.term e → RefusesBoth s s a b (P s.graph) (refusal.Graph e)
      both-refused_here P e p = (both-answered (λ x t u. P x t u e) p, refl)

  -- where a term is added
  module _ (read : List Element → Option Form) (h : Graph) (text : List ℕ) where
    pub add-answered : (k : Kept L) (id : Applied) (now : List (Kept L)) (index : ℕ) → now ≡ kept ++ k ∷ [] → index ≡ length kept → AddsKept read g h text k.term id → IsValidTerm h.table k.term → AddsTerm read s (space_of form n h now rules sparing) text (record { workspace = n; index = index })
    add-answered k id now index pushed at adds valid =
        let terms : terms_of now ≡ terms_of kept ++ k.term ∷ [] = ap terms_of pushed ∙ map-append (λ k. k.term) kept (k ∷ []) in
        let counted : index ≡ length (terms_of kept) = at ∙ sym (length-map kept (λ k. k.term)) in
        record {
          term = k.term;
          id = id;
          adds = subst (λ (x : Space). AddsKept read x.graph h text k.term id) is adds;
          handle = λ i. record { workspace = (is i).number; index = (counted ∙ ap (λ (x : Space). length x.terms) is) i };
          stands = subst (λ m. term_at (space_of form n h now rules sparing) (record { workspace = n; index = m }) ≡ Some k.term) (sym counted) (stands-next (space_of form n h now rules sparing) (terms_of kept) k.term terms);
          valid = valid;
          rest = (λ i. record { number = n; graph = h; terms = terms i; rules = map (rule_of form) rules; sparing = sparing }) ∙ (λ i. record (is i) { graph = h; terms = (is i).terms ++ k.term ∷ [] });
        }

    pub add-refused : (e : Error) → AddRefused read g h text e → Refuses s (space_of form n h kept rules sparing) (AddRefused read s.graph h text) (refusal.Graph e)
    add-refused e r = (subst (λ (x : Space). AddRefused read x.graph h text e) is r, changes h)

    pub add-not_kept : (t : Term) (id : Applied) (now : List (Kept L)) → now ≡ kept → AddsKept read g h text t id → Refuses s (space_of form n h now rules sparing) (AddRefused read s.graph h text) (refusal.Graph OutOfMemory)
    add-not_kept t id now same adds =
        subst (λ (l : List (Kept L)). Refuses s (space_of form n h l rules sparing) (AddRefused read s.graph h text) (refusal.Graph OutOfMemory)) (sym same) (add-refused OutOfMemory (asked.AddRefused.not_kept t id adds refl))

  -- where a rule is kept
  module _ (read : List Element → Option Form) (h : Graph) (name left right : List ℕ) (condition : CondTree) where
    pub rule-answered : (r : Rewrite L (RuleCondition L)) (now : List (Rewrite L (RuleCondition L))) → now ≡ rules ++ r ∷ [] → ReadsKept form read sparing g h name left right condition (rule_of form r) → KeepsRule form read s (space_of form n h kept now sparing) name left right condition
    rule-answered r now pushed reads =
        let all : map (rule_of form) now ≡ map (rule_of form) rules ++ rule_of form r ∷ [] = ap (map (rule_of form)) pushed ∙ map-append (rule_of form) rules (r ∷ []) in
        record {
          rule = rule_of form r;
          reads = subst (λ (x : Space). ReadsKept form read x.sparing x.graph h name left right condition (rule_of form r)) is reads;
          rest = (λ i. record { number = n; graph = h; terms = terms_of kept; rules = all i; sparing = sparing }) ∙ (λ i. record (is i) { graph = h; rules = (is i).rules ++ rule_of form r ∷ [] });
        }

    pub rule-refused : (e : Error) → RuleRefused form read g h left right condition e → Refuses s (space_of form n h kept rules sparing) (RuleRefused form read s.graph h left right condition) (refusal.Graph e)
    rule-refused e r = (subst (λ (x : Space). RuleRefused form read x.graph h left right condition e) is r, changes h)

    pub rule-not_kept : (r : WrittenRule) (now : List (Rewrite L (RuleCondition L))) → now ≡ rules → ReadsKept form read sparing g h name left right condition r → Refuses s (space_of form n h kept now sparing) (RuleRefused form read s.graph h left right condition) (refusal.Graph OutOfMemory)
    rule-not_kept r now same kept_so =
        subst (λ (l : List (Rewrite L (RuleCondition L))). Refuses s (space_of form n h kept l sparing) (RuleRefused form read s.graph h left right condition) (refusal.Graph OutOfMemory)) (sym same)
        (rule-refused OutOfMemory (asked.RuleRefused.not_kept kept_so.reads.well kept_so.reads.only refl))

  -- where the rules of a text are kept
  module _ (read : List Element → Option Form) (h : Graph) (text : List ℕ) where
    pub rules-answered : (more now : List (Rewrite L (RuleCondition L))) → now ≡ rules ++ more → ReadsText form read sparing g h text (map (rule_of form) more) → KeepsRules form read s (space_of form n h kept now sparing) text
    rules-answered more now pushed reads =
        let all : map (rule_of form) now ≡ map (rule_of form) rules ++ map (rule_of form) more = ap (map (rule_of form)) pushed ∙ map-append (rule_of form) rules more in
        record {
          rules = map (rule_of form) more;
          reads = subst (λ (x : Space). ReadsText form read x.sparing x.graph h text (map (rule_of form) more)) is reads;
          rest = (λ i. record { number = n; graph = h; terms = terms_of kept; rules = all i; sparing = sparing }) ∙ (λ i. record (is i) { graph = h; rules = (is i).rules ++ map (rule_of form) more });
        }

    pub rules-refused : (e : WorkspaceError) → TextRefused form read g h text e → RefusesText form read s (space_of form n h kept rules sparing) text e
    rules-refused e r = (subst (λ (x : Space). TextRefused form read x.graph h text e) is r, changes h)

    -- there was no memory to keep them
    pub rules-not_kept : (more : List WrittenRule) (now : List (Rewrite L (RuleCondition L))) → now ≡ rules → ReadsText form read sparing g h text more → RefusesText form read s (space_of form n h kept now sparing) text (refusal.Graph OutOfMemory)
    rules-not_kept more now same reads =
        subst (λ (l : List (Rewrite L (RuleCondition L))). RefusesText form read s (space_of form n h kept l sparing) text (refusal.Graph OutOfMemory)) (sym same)
        (rules-refused (refusal.Graph OutOfMemory) (reads.asked, reads.is_asked, no_memory (rules-only form read sparing g h reads.asked more reads.reads) refl))

-- the rules of a workspace can be run
pub can-run : {L : Type 0} (form : L → Form) (g : Graph) (kept : List (Kept L)) (rules read : List (Rewrite L (RuleCondition L))) → read ≡ rules → IsSane form g kept rules → IsTrue g.failed ⊎ All (CanBeSearched form g.table) read
can-run form g kept rules read same (inl f) = inl f
can-run form g kept rules read same (inr all) = inr (subst (All (CanBeSearched form g.table)) (sym same) all.1)

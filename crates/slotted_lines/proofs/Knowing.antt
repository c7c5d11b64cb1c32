-- A line that is asked of the graph alone leaves all slots known, and a graph that has failed as it is.
use Rattle.std.proofs.Common.{◌≡◌, ◌++◌, ℕ, List, [], ◌∷◌, subst, sym, inl, inr, zero, suc, arith}
use Rattle.std.specs.Prelude.{All, Bool, IsTrue, Option, true, false}
use Rattle.std.proofs.lemmas.Bool.{false≢true}
use Rattle.std.proofs.lemmas.List.Elements.{All-append, All-nil, All-weaker}
use Rattle.slotted_theory.specs.Term.{Term}
use Rattle.slotted_slots.specs.declared.error.Error.{Error}
use Rattle.slotted_slots.specs.Syntax.{Element}
use Rattle.slotted_slots.specs.Table.{KnowsMore, Table}
use Rattle.slotted_nodes.specs.Form.{Form}
use Rattle.slotted_model.specs.Applied.{Applied}
use Rattle.slotted_patterns.specs.View.{tree_of}
use Rattle.slotted_slots.specs.Table.{empty_table}
use Rattle.slotted_operations.specs.Graph.{Graph}
use Rattle.slotted_graph.proofs.KnownPatterns.{pattern-later}
use Rattle.slotted_commands.specs.declared.answer.Answer.{Answer}
use Rattle.slotted_commands.specs.Commands.{Command}
use Rattle.slotted_commands.specs.Extracted.{ExtractionAnswers, extracted, extraction_ran_out}
use Rattle.slotted_commands.specs.Explained.{ExplanationAnswers, explained, not_equal, proving_ran_out, printing_ran_out}
use Rattle.slotted_commands.specs.Sessions.{Answered, FirstIsRefused, Gains, GainsTerms, Manner, RunsOutAt, Says, WritesTerms, manner_of, texts_of}
use Rattle.slotted_commands.specs.Sessions.{no_text, next_text, refused_here, refused_later, by_look_up, canonically, no_term, next_term, runs_out_here, runs_out_later}
use Rattle.slotted_commands.specs.Sessions.{done, are_equal, are_different, are_united, were_equal, union_ran_out, extraction, counted}
use Rattle.slotted_commands.specs.Sessions.{unknown, has_failed, refused, ran_out, carried_out, explanation}
use Rattle.slotted_rules.specs.Written.{CanBeSearched}
use Rattle.slotted_rules.specs.declared.condition.Always.{Always}
use Rattle.slotted_rules.specs.declared.rewrite.Rewrite.{Rewrite}
use Rattle.slotted_lines.specs.States.{AreSearchable, SessionState, empty_state}

same_table : (t u : Table) → u ≡ t → KnowsMore t u
same_table t u e = subst (KnowsMore t) (sym e) (λ s k. k)

same_graph : (g h : Graph) → h ≡ g → KnowsMore g.table h.table
same_graph g h e = subst (λ (x : Graph). KnowsMore g.table x.table) (sym e) (λ s k. k)

module _ (read : List Element → Option Form) (written : Term → List Element) where
  texts-more : (g h : Graph) (texts : List (List ℕ)) (ts : List Term) → WritesTerms read g texts ts h → KnowsMore g.table h.table
  texts-more g h [] [] no_text = λ s k. k
  texts-more g h [] (t ∷ ts) w = elim w [ ]
  texts-more g h (text ∷ texts) [] w = elim w [ ]
  texts-more g h (text ∷ texts) (t ∷ ts) (next_text {h = m} w ws) = λ s k. texts-more m h texts ts ws s (w.only.more s k)

  refused-more : (g h : Graph) (texts : List (List ℕ)) (e : Error) → FirstIsRefused read g texts e h → KnowsMore g.table h.table
  refused-more g h [] e w = elim w [ ]
  refused-more g h (text ∷ texts) e (refused_here r) = r.only.more
  refused-more g h (text ∷ texts) e (refused_later {h = m} w rs) = λ s k. refused-more m h texts e rs s (w.only.more s k)

  gains-more : (m : Manner) (g h : Graph) (t : Term) (a : Applied) → Gains m g t a h → KnowsMore g.table h.table
  gains-more by_look_up g h t a x = x.more
  gains-more canonically g h t a x = x.more

  terms-more : (m : Manner) (g h : Graph) (ts : List Term) (ids : List Applied) → GainsTerms m g ts ids h → KnowsMore g.table h.table
  terms-more m g h [] [] no_term = λ s k. k
  terms-more m g h [] (a ∷ ids) w = elim w [ ]
  terms-more m g h (t ∷ ts) [] w = elim w [ ]
  terms-more m g h (t ∷ ts) (a ∷ ids) (next_term {h = k} x xs) = λ s known. terms-more m k h ts ids xs s (gains-more m g k t a x s known)

  runs_out-more : (m : Manner) (g h : Graph) (ts : List Term) (e : Error) → RunsOutAt m g ts e h → KnowsMore g.table h.table
  runs_out-more m g h [] e w = elim w [ ]
  runs_out-more m g h (t ∷ ts) e (runs_out_here r) = r.more
  runs_out-more m g h (t ∷ ts) e (runs_out_later {h = k} a x r) = λ s known. runs_out-more m k h ts e r s (gains-more m g k t a x s known)

  extraction-more : (g h : Graph) (id : Applied) (a : Answer) → ExtractionAnswers written g id h a → KnowsMore g.table h.table
  extraction-more g h id a (extracted p) = p.takes.reads.more
  extraction-more g h id a (extraction_ran_out r) = r.takes.reads.more

  explanation-more : (g h : Graph) (t u : Term) (a : Answer) → ExplanationAnswers written g t u h a → KnowsMore g.table h.table
  explanation-more g h t u a (explained p k proves prints) = λ s known. prints.takes.reads.more s (proves.added.more s known)
  explanation-more g h t u a (not_equal apart) = apart.added.more
  explanation-more g h t u a (proving_ran_out r) = r.more
  explanation-more g h t u a (printing_ran_out p k proves r) = λ s known. r.takes.reads.more s (proves.added.more s known)

  says-more : (g h : Graph) (c : Command) (ts : List Term) (ids : List Applied) (a : Answer) → Says written g c ts ids h a → KnowsMore g.table h.table
  says-more g h c ts ids a done = λ s k. k
  says-more g h c ts ids a (are_equal e) = λ s k. k
  says-more g h c ts ids a (are_different e) = λ s k. k
  says-more g h c ts ids a (are_united u) = same_table g.table h.table u.table
  says-more g h c ts ids a (were_equal u) = same_table g.table h.table u.table
  says-more g h c ts ids a (union_ran_out u) = same_table g.table h.table u.table
  says-more g h c ts ids a (extraction x) = extraction-more _ _ _ _ x
  says-more g h c ts ids a (counted x) = λ s k. k

  pub answered-more : (g h : Graph) (c : Command) (a : Answer) → Answered read written g h c a → KnowsMore g.table h.table
  answered-more g h c a (unknown e same) = same_graph g h same
  answered-more g h c a (has_failed i f same) = same_graph g h same
  answered-more g h c a (refused {e} well r) = refused-more g h (texts_of c) e r
  answered-more g h c a (ran_out {e} ts r well writes runs_out) = λ s k. runs_out-more (manner_of c) r h ts e runs_out s (texts-more g r (texts_of c) ts writes s k)
  answered-more g h c a (carried_out ts ids r k well writes gains says) =
      λ s known. says-more k h c ts ids a says s (terms-more (manner_of c) r k ts ids gains s (texts-more g r (texts_of c) ts writes s known))
  answered-more g h c a (explanation left right t u r is well writes explains) =
      λ s known. explanation-more r h t u a explains s (texts-more g r (left ∷ right ∷ []) (t ∷ u ∷ []) writes s known)

  not_both : (b : Bool) {P : Type 0} → b ≡ false → IsTrue b → P
  not_both true e f = absurd (false≢true (sym e))
  not_both false e f = absurd (false≢true f)

  pub answered-failed : (g h : Graph) (c : Command) (a : Answer) → Answered read written g h c a → IsTrue g.failed → IsTrue h.failed
  answered-failed g h c a (unknown e same) f = subst (λ (x : Graph). IsTrue x.failed) (sym same) f
  answered-failed g h c a (has_failed i was same) f = subst (λ (x : Graph). IsTrue x.failed) (sym same) f
  answered-failed g h c a (refused well r) f = not_both g.failed well f
  answered-failed g h c a (ran_out ts r well writes runs_out) f = not_both g.failed well f
  answered-failed g h c a (carried_out ts ids r k well writes gains says) f = not_both g.failed well f
  answered-failed g h c a (explanation left right t u r is well writes explains) f = not_both g.failed well f

pub searched-later : {L : Type 0} (form : L → Form) (t u : Table) → KnowsMore t u → (r : Rewrite L Always) → CanBeSearched form t r → CanBeSearched form u r
searched-later form t u more r v = record {
  left_known = pattern-later t u more (tree_of form r.left) v.left_known;
  right_known = pattern-later t u more (tree_of form r.right) v.right_known;
  none_replaced = v.none_replaced;
  none_lacking = v.none_lacking;
}

pub rules-later : {L : Type 0} (form : L → Form) (t u : Table) → KnowsMore t u → (rules : List (Rewrite L Always)) → All (CanBeSearched form t) rules → All (CanBeSearched form u) rules
rules-later form t u more rules all = All-weaker (CanBeSearched form t) (CanBeSearched form u) (searched-later form t u more) rules all

All-one : {X : Type 0} (P : X → Type 0) (x : X) → P x → All P (x ∷ [])
All-one P x p zero d l = p
All-one P x p (suc k) d l = absurd (omega arith)

-- the rules can still be searched where the table knows what it knew, and a graph that had failed still has
pub kept-rules : {L : Type 0} (form : L → Form) (g h : Graph) (rules : List (Rewrite L Always)) → KnowsMore g.table h.table → (IsTrue g.failed → IsTrue h.failed) → AreSearchable form (record { graph = g; rules = rules }) → AreSearchable form (record { graph = h; rules = rules })
kept-rules form g h rules more fails (inl f) = inl (fails f)
kept-rules form g h rules more fails (inr all) = inr (rules-later form g.table h.table more rules all)

-- and with one more that can be
pub one_more-rule : {L : Type 0} (form : L → Form) (h : Graph) (rules : List (Rewrite L Always)) (r : Rewrite L Always) → AreSearchable form (record { graph = h; rules = rules }) → CanBeSearched form h.table r → AreSearchable form (record { graph = h; rules = rules ++ r ∷ [] })
one_more-rule form h rules r (inl f) one = inl f
one_more-rule form h rules r (inr all) one = inr (All-append (CanBeSearched form h.table) rules (r ∷ []) all (All-one (CanBeSearched form h.table) r one))

-- without rules there is nothing to be searched
pub empty-searched : {L : Type 0} (form : L → Form) (s : SessionState L) → s ≡ empty_state → AreSearchable form s
empty-searched form s e = subst (AreSearchable form) (sym e) (inr (All-nil (CanBeSearched form empty_table)))

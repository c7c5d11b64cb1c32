-- The records of laws, of the lemmas that prove them: the public functions answer them, and the examples hold small
-- terms and graphs against them.
use Rattle.std.proofs.Common.{ℕ, refl, sym, subst, inr}
use Rattle.std.specs.Prelude.{List, Option}
use Rattle.slotted_lists.proofs.Members.{In-Contains, Contains-In}
use Rattle.slotted_theory.proofs.Values.{node}
use Rattle.slotted_model.specs.Applied.{Applied}
use Rattle.slotted_model.specs.Classes.{term_of}
use Rattle.slotted_model.specs.State.{State}
use Rattle.slotted_model_rules.specs.Substitution.{substituted_args}
use Rattle.slotted_model_rules.specs.SubstitutionClaims.{SubstitutionLaws}
use Rattle.slotted_model_rules.specs.PatternClaims.{PatternLaws}
use Rattle.slotted_model_rules.specs.RepresentingClaims.{RepresentingLaws}
use Rattle.slotted_model_rules.specs.MatcherClaims.{MatcherLaws}
use Rattle.slotted_model_rules.specs.GoalClaims.{GoalLaws}
use Rattle.slotted_model_rules.specs.ReplacedIdsClaims.{ReplacedIdLaws}
use Rattle.slotted_model_rules.specs.Complete.{IsFreeInPattern}
use Rattle.slotted_model_rules.specs.RuleClaims.{ConditionLaws, RuleLaws}
use Rattle.slotted_model_rules.specs.Runners.{AppliesRules}
use Rattle.slotted_model_rules.specs.RunnerClaims.{RunnerLaws}
use Rattle.slotted_model_rules.proofs.Substitutions.Substituting.{put-same, put-other, nothing-substituted, itself-substituted}
use Rattle.slotted_model_rules.proofs.Substitutions.Substituting.{moved-substituted}
use Rattle.slotted_model_rules.proofs.Substitutions.Substituting.{names-substituted, kept-substituted, substituted-equal}
use Rattle.slotted_model_rules.proofs.Substitutions.Substituting.{trees-substituted}
use Rattle.slotted_model_rules.proofs.Substitutions.Replacing.{replaced-substituted, with_others_bound}
use Rattle.slotted_model_rules.proofs.Substitutions.ReplacedIds.{part-names, part-older, part-values, stands-nowhere, older-stays, older-inside}
use Rattle.slotted_model_rules.proofs.Substitutions.ReplacedIds.{whole-replaced, other-searched, names-seen, named-searched, unchanged-stays}
use Rattle.slotted_model_rules.proofs.Substitutions.ReplacedIds.{replaced-stays, replaced_ids-stay, filled-stays, added-replaced}
use Rattle.slotted_model_rules.proofs.Substitutions.ReplacedIds.{replaced-by_number}
use Rattle.slotted_model_rules.proofs.Patterns.LookingUp.{pattern-moved, term-pattern, matches-look_ups}
use Rattle.slotted_model_rules.proofs.Patterns.Instantiating.{instance-moved, built-nodes, answer-instances, instance-stays}
use Rattle.slotted_model_rules.proofs.Patterns.Instantiating.{an-instance}
use Rattle.slotted_model_rules.proofs.Patterns.Instantiating.{one-instance, term-instances}
use Rattle.slotted_model_rules.proofs.Patterns.EqualInstances.{filled-instance_equal}
use Rattle.slotted_model_rules.proofs.Substitutions.Representing.{listed-moves, represented-moves, pair-listed, listed-represented}
use Rattle.slotted_model_rules.proofs.Substitutions.Representing.{itself-represented, listed_iff, represented_iff, listed-more, represented-more}
use Rattle.slotted_model_rules.proofs.Substitutions.Representing.{instance-represented, answer-represented}
use Rattle.slotted_model_rules.proofs.Matching.Answering.{found-look_up, found-values, found-grows}
use Rattle.slotted_model_rules.proofs.Matching.Completing.{finds-all, names-free}
use Rattle.slotted_model_rules.proofs.Matching.Readings.{slots-named, a-reading, readings-renamed}
use Rattle.slotted_model_rules.proofs.Matching.ClassIds.{class-valid}
use Rattle.slotted_model_rules.proofs.Matching.Running as running
use Rattle.slotted_model_rules.proofs.Matching.Goals.{one-goal, goals-append, variable-goal, new-value, same-value, other-value}
use Rattle.slotted_model_rules.proofs.Matching.Goals.{node-goal, replacing-goal}
use Rattle.slotted_model_rules.proofs.Matching.HiddenNames.{names-stand, hidden-new, standing-names}
use Rattle.slotted_model_rules.proofs.Matching.NamedRows.{row-named, named-node}
use Rattle.slotted_model_rules.proofs.Matching.FlatWalks.{flat-walk, outline-unnamed, outline-moved, passed-over, row-goals-valid}
use Rattle.slotted_model_rules.proofs.Matching.ValidValues.{values-valid}
use Rattle.slotted_model_rules.proofs.Rules.Asking.{tables, asked-decides, values-stay}
use Rattle.slotted_model_rules.proofs.Rules.Extending.{extension-same, extension-then}
use Rattle.slotted_model_rules.proofs.Rules.Calling.{calls-extend, calls-enter, calls-classes, calls-counts, calls-then}
use Rattle.slotted_model_rules.proofs.Rules.Calling.{no-progress}
use Rattle.slotted_model_rules.proofs.Rules.Applying.{applies-extend, applies-calls, held-applied, entries-come, saturated}
use Rattle.slotted_model_rules.proofs.Rules.Rewriting.{extension-equal, rewrites-equal}
use Rattle.slotted_model_rules.proofs.Rules.Searching.{match-looked_up, search-finds}
use Rattle.slotted_model_rules.proofs.Rules.Stopping.{runner-first, eqsat-first}
use Rattle.slotted_model_rules.proofs.Rules.Turns.{last-turn, bounded, read-twice, last-reported, reports-again, a-run}
use Rattle.slotted_model_rules.proofs.Rules.Turns.{eqsat-bounded}
use Rattle.slotted_model_rules.proofs.Rules.Turns.{eqsat-last, an-eqsat, rules-extend, run-extends, eqsat-extends}
use Rattle.slotted_model_rules.proofs.Rules.Turns.{refusals-extend, not-stored}

pub substitution-laws : SubstitutionLaws
substitution-laws = record {
  whole_is_replaced = λ x t. put-same x t x (node x.op x.payloads (substituted_args x t x.args)) refl;
  others_are_searched = λ x t b n. put-other x t b (node b.op b.payloads (substituted_args x t b.args)) n;
  arguments_are_searched = record {
    ends = λ x t. refl;
    own_names = λ x t y rest. refl;
    children = λ x t c rest. refl;
    binders = λ x t inner rest. refl;
  };
  nothing_is_replaced = nothing-substituted;
  replaced_by_itself = itself-substituted;
  substitution_moves_with_names = moved-substituted;
  names_come_from_both = names-substituted;
  nothing_is_captured = kept-substituted;
  replacing_is_substitution = replaced-substituted;
  binders_can_be_others = with_others_bound;
  substitution_keeps_equality = substituted-equal;
  trees_become_trees = trees-substituted;
}

pub replaced-id-laws : ReplacedIdLaws
replaced-id-laws = record {
  parts_are_older = part-older;
  parts_have_fewer_names = part-values;
  parts_have_fewer_free_names = part-names;
  older_ids_stay =
      λ nodes can x b fx fb h. (stands-nowhere nodes can x b fx fb h, older-stays nodes can x b fx fb h);
  older_ids_stay_inside = older-inside;
  whole_ids_are_replaced = whole-replaced;
  other_ids_are_searched = other-searched;
  names_are_seen_inside = names-seen;
  ids_are_replaced_by_number = replaced-by_number;
  named_nodes_are_searched =
      λ nodes can x t b a fx ft fb other op payloads n p m k given e f full q.
      named-searched nodes can x t fx ft b a fb other op payloads n p m k given e f full q;
  unchanged_nodes_stay =
      λ nodes can x t b fx ft fb other op payloads n p k.
      unchanged-stays nodes can x t fx ft b fb other op payloads n p k;
  replaced_ids_stay =
      λ older newer extends x t fx ft. (
        replaced-stays older newer extends x t fx ft,
        replaced_ids-stay older newer extends x t fx ft,
      );
  filled_arguments_stay = filled-stays;
  added_nodes_are_replaced = added-replaced;
}

pub pattern-laws : PatternLaws
pattern-laws = record {
  pattern_look_ups_move_with_names = λ g rest ρ f inj σ p. pattern-moved g rest f inj ρ σ p;
  terms_are_looked_up_as_patterns = term-pattern;
  matches_are_look_ups = λ g rest ρ inj σ p h a. matches-look_ups g rest σ ρ inj p h a;
  instances_move_with_names =
      λ R moves nodes can given other σ ρ f inj h p t i. instance-moved R moves nodes can σ f inj given other h ρ p t i;
  instances_stay = λ R older newer extends given σ ρ p t i. instance-stays R older newer extends σ given ρ p t i;
  instances_exist =
      λ R represented nodes slots given σ ρ inj p h. an-instance R represented nodes slots σ given ρ inj p h;
  full_values_have_one_instance =
      λ nodes given other σ ρ inj p h t u i j. one-instance nodes σ given other ρ inj p h t u i j;
  terms_are_their_instances = λ R nodes given σ ρ t u. term-instances R nodes σ given ρ t u;
  built_nodes_are_instances =
      λ R moves nodes can given σ op payloads args d e k f a full t.
      built-nodes R moves nodes can σ given op payloads args d e k f a full t;
  answers_stand_for_instances = answer-instances;
  replaced_are_instances =
      λ R nodes given σ body part value for_body for_part for_value b x y r i j k f l m s a full e.
      inr (
        full,
        (
          term_of nodes b,
          r,
          term_of nodes x,
          term_of nodes y,
          answer-instances R nodes given σ body for_body i b f,
          s,
          answer-instances R nodes given σ part for_part j x l,
          answer-instances R nodes given σ value for_value k y m,
          e,
        ),
      );
  instances_are_equal =
      λ g rest R σ given more_given ρ inj p valid x b e f t i.
      filled-instance_equal g rest R σ given more_given ρ inj p valid x b e f t i;
}

pub representing-laws : RepresentingLaws
representing-laws = record {
  representing_moves_with_names = λ X. (listed-moves X, represented-moves X);
  no_pairs_represent_terms = refl;
  pairs_are_represented =
      λ X. (
        λ u r c. let t = pair-listed X u r c in (t, listed-represented X u r t),
        itself-represented X,
      );
  listed_are_renamed_pairs = listed_iff;
  represented_are_listed = represented_iff;
  more_pairs_represent_more = λ X Y more u r. (listed-more X Y more u r, represented-more X Y more u r);
  instances_stay_represented =
      λ R Q more nodes given σ. (
        instance-represented R Q more nodes σ given,
        answer-represented R Q more nodes σ given,
      );
}

pub matcher-laws : MatcherLaws
matcher-laws = record {
  answers_are_looked_up =
      λ g rest order p st a outs found out h f σ r.
      found-look_up g order rest f σ p st a outs found out (In-Contains outs out h) r;
  answers_have_values =
      λ g order p st a outs found out h. found-values g order p st a outs found out (In-Contains outs out h);
  answers_are_valid =
      λ g rest order p st a outs found va k out h.
      values-valid g rest order p st a outs found va k out (In-Contains outs out h);
  answers_go_on =
      λ g order p st a outs found out h.
      let k = found-grows g order p st a outs found out (In-Contains outs out h) in (k.pairs_kept, k.values_kept);
  class_ids_are_valid = class-valid;
  runs_exist = λ g rest order filed p st a va. running.a-run g rest order filed p st a va;
  slots_are_named =
      λ g order p st a outs found out h.
      slots-named g order p st a outs found out (In-Contains outs out h);
  readings_exist = λ g order p c outs found out h. a-reading g order p c outs found out (In-Contains outs out h);
  readings_are_renamed = readings-renamed;
  matches_are_found = finds-all;
  looked_up_names_are_free =
      λ g rest σ p valid x e y h.
      let r = names-free g rest σ (λ z. z) (λ u v q. q) p valid x e y (In-Contains _ y h) in
      subst (λ z. IsFreeInPattern σ z p) (sym r.2) r.1;
}

pub goal-laws : GoalLaws
goal-laws = record {
  one_goal_is_found = one-goal;
  goals_go_on = goals-append;
  variables_take_values = record {
    in_front = variable-goal;
    new_value = new-value;
    same_value = same-value;
    other_value = other-value;
  };
  nodes_make_goals = node-goal;
  substitutions_are_not_found = replacing-goal;
  rows_can_be_passed_over = passed-over;
  goals_are_valid = row-goals-valid;
  found_names_stand = λ g rest r filed b full source z c. Contains-In _ z (names-stand g rest r filed b full source z (In-Contains _ z c));
  hidden_names_can_be_new = hidden-new;
  standing_names_suffice = standing-names;
  rows_take_names = row-named;
  named_rows_are_nodes = named-node;
  walks_are_flat = flat-walk;
  outlines_have_no_names = record { without_names = outline-unnamed; with_others = outline-moved };
}

pub condition-laws : ConditionLaws
condition-laws = record {
  truth_tables = tables;
  asked_decides = λ c s t g h all. asked-decides s t g h c all;
  conditions_of_values_stay = values-stay;
}

-- A says for which equations the caller's own code asks
pub rule-laws : (A : State → Applied → Applied → Type 0) → RuleLaws A
rule-laws A = record {
  extensions_compose = (extension-same, extension-then);
  calls_extend = λ g h rest calls. calls-extend A rest calls;
  calls_enter_what_is_asked_for = λ g h rest calls p new. calls-enter A rest calls p new;
  calls_compose = λ f g h a b. calls-then A a b;
  calls_keep_counts =
      λ g h rest calls. (
        calls-classes A rest calls,
        λ e. (calls-counts A rest calls e).0,
        λ e. (calls-counts A rest calls e).1,
      );
  no_progress_is_no_change = λ g h rest calls e. no-progress A g h rest calls e;
  applies_extend = λ R given rule found g h rest step. applies-extend A R given rule rest step;
  held_substitutions_are_applied =
      λ R given rule found g h rest step s c held.
      held-applied A R given rule rest step s c held;
  new_entries_come_from_rules = λ R given rule found g h rest step p new. entries-come A R given rule rest step p new;
  searches_find_matches =
      λ g rest order p found search s c. (search.matches s c, match-looked_up g rest order p s (search.matches s c));
  searches_find_all = search-finds;
  extensions_keep_derivations = λ g h rest after x d e p. extension-equal g h rest after x p;
  rewrites_are_equal =
      λ R given more_given rule found g h rest step s c held valid x b e fills.
      rewrites-equal A R given more_given rule rest step s c held valid x b e fills;
  applies_are_calls = λ R given rule found g h rest step. applies-calls A R given rule rest step;
  saturated_is_closed =
      λ R given rule found g h rest step same s c held.
      saturated A R given rule rest step same s c held;
}

module _ (S T D F Q : Type 0) (searches : Q → S → F → S → Type 0) (applies : Q → F → S → S → Type 0)
    (hooks : S → ℕ → S → Option T → Type 0) (refuses : S → ℕ → S → Type 0) (extends : S → S → Type 0) where
  abbrev step : List Q → S → S → Type 0
  step rules = AppliesRules searches applies rules

  pub runner-laws : RunnerLaws S T D F Q searches applies hooks refuses extends
  runner-laws = record {
    runners_stop_for_the_first = runner-first T;
    eqsat_stops_for_the_first = eqsat-first T;
    runs_end_in_a_turn =
        λ rules m limits clock start stored all k last f h reason r.
        last-turn S T D (step rules) hooks m limits clock start r;
    runners_are_bounded =
        λ rules m limits clock start stored all k last f h reason r l.
        bounded S T D (step rules) hooks m limits clock start r l;
    runners_read_twice =
        λ rules m limits clock start stored all k last f h reason r.
        read-twice S T D (step rules) hooks m limits clock start r;
    last_turns_are_reported =
        λ rules m limits clock start stored all k last f h reason r.
        last-reported S T D (step rules) hooks m limits clock start r;
    refused_turns_are_not_stored =
        λ rules m limits clock start stored all k f h r.
        not-stored S T D (step rules) hooks refuses m limits clock start r;
    stopped_runners_report_again =
        λ rules m limits clock k r after report a. reports-again S T D (step rules) hooks m limits clock a;
    runners_end =
        λ rules steps calls m limits clock start stored k f.
        a-run S T D (step rules) hooks m limits clock start steps calls stored k f;
    eqsat_is_bounded =
        λ rules progress iterations seconds clock start counted k total last f h reason r l.
        eqsat-bounded S T (step rules) hooks progress iterations seconds clock start r l;
    eqsat_ends_in_a_turn =
        λ rules progress iterations seconds clock start counted k total last f h reason r.
        eqsat-last S T (step rules) hooks progress iterations seconds clock start r;
    eqsat_ends =
        λ rules steps calls progress iterations seconds clock start counted k f.
        an-eqsat S T (step rules) hooks progress iterations seconds clock start steps calls counted k f;
    runs_extend = λ each. (
      rules-extend S T D F Q searches applies hooks refuses extends each,
      λ rules m limits clock start stored all k last f h reason r.
          run-extends S T D F Q searches applies hooks refuses extends each rules m limits clock start r,
      λ rules progress iterations seconds clock start counted k total last f h reason r.
          eqsat-extends S T D F Q searches applies hooks refuses extends each rules progress iterations seconds clock
          start r,
      λ rules m limits clock start stored all k f h r.
          refusals-extend S T D F Q searches applies hooks refuses extends each rules m limits clock start r,
    );
  }

-- Rules on small graphs: conditions of which the second is not asked, one that turns during an apply, a rule that is saturated, and one that is
-- although an open symmetry stands. The words a and b are the operators 1 and 2, and n is over n over each of them.
use Rattle.std.proofs.Common.{◌≡◌, ◌∙◌, ◌<◌, ℕ, zero, suc, List, [], ◌∷◌, Some, None, true, false, get_or, sym, ap, refl, subst, inl, inr, arith}
use Rattle.std.specs.Prelude.{Contains, ◌≢◌, nat_eq, not}
use Rattle.std.proofs.lemmas.List.{append-nil}
use Rattle.slotted_lists.proofs.Contained.{contains_head, contains_cases, Contains-nil}
use Rattle.slotted_theory.specs.Nameless.{DTerm}
use Rattle.slotted_theory.specs.Derives.{Equal}
use Rattle.slotted_model.specs.Applied.{Applied, renamed_id}
use Rattle.slotted_model.specs.Changes.{finds_alike}
use Rattle.slotted_model.specs.Classes.{canonical_slots, term_of, IsFull}
use Rattle.slotted_model.specs.Filling.{IsFilling}
use Rattle.slotted_model.specs.Find.{IsLive, find_class, used_slots, find}
use Rattle.slotted_model.specs.ProofList.{Equation, equation_at, asserted}
use Rattle.slotted_model.specs.Rebuild.{starts}
use Rattle.slotted_model.specs.Rest.{IsValidIn, AtRest}
use Rattle.slotted_model.specs.State.{State}
use Rattle.slotted_model.specs.Adding.{stands}
use Rattle.slotted_model.specs.Sessions.{nothing}
use Rattle.slotted_model.proofs.Rebuilding.Adding.{adds as class-added}
use Rattle.slotted_model.proofs.Rebuilding.Asserting.{nothing-rests}
use Rattle.slotted_model.proofs.Examples.CongruenceExample.{twice, twice_rests, id, id_full, rebuilt, words_asserted, rebuilt_done}
use Rattle.slotted_model.proofs.Examples.OpenSessionsExample.{h_of, with_h, h_is_new, h_full, open_state, opens}
use Rattle.slotted_model.proofs.Finds.NormalIds.{full-is_valid}
use Rattle.slotted_model.proofs.Rebuilding.Quiet.{proofs-quiet}
use Rattle.slotted_model.proofs.Examples.SessionExample.{files}
use Rattle.slotted_model.proofs.Represented.Fillings.{fills-itself}
use Rattle.slotted_model_rules.specs.Patterns.{Pattern, pattern_node, variable, own_name, no_argument, look_up_pattern}
use Rattle.slotted_model_rules.specs.Instances.{is_itself, IsInstance}
use Rattle.slotted_model_rules.specs.Matcher.{MatchState, Reads}
use Rattle.slotted_model_rules.specs.Conditions.{Values, Condition, always, slot_free_in, either, each_of, own, holds, asked}
use Rattle.slotted_model_rules.specs.Rules.{id_or_none, valued, IsMatch, IsRead, Searches, IsBetween, KeepsAll, no_call, asserts, keeps, IsNewEntry, IsAskedFor, Rule, IsEquationOfInstances, AssertsInstances, Applies, all_done, does_not_hold, does_hold, IsApplied, ComesFromRule, progress}
use Rattle.slotted_model_rules.proofs.Substitutions.Renamed.{renamed-id}
use Rattle.slotted_model_rules.proofs.Rules.Searching.{match-looked_up, search-finds}
use Rattle.slotted_model_rules.proofs.Rules.Rewriting.{rewrites-equal}
use Rattle.slotted_model_rules.proofs.Rules.Extending.{extension-same}
use Rattle.slotted_model_rules.proofs.Rules.Calling.{calls-enter}
use Rattle.slotted_model_rules.proofs.Rules.Applying.{applies-extend, held-applied, entries-come, saturated}

-- ?x is an id with the name 8; the slot 7 is free in it, the slot 8 is not, and ?y has no value
abbrev pub one_value : Values
one_value = ((120 ∷ []), (0, (0, 8) ∷ [])) ∷ []

abbrev pub free_in_x : ℕ → Condition
free_in_x s = slot_free_in s (120 ∷ [])

abbrev pub free_in_y : Condition
free_in_y = slot_free_in 7 (121 ∷ [])

slots_free : (holds (free_in_x 7) one_value nothing ≡ Some true) × (holds (free_in_x 8) one_value nothing ≡ Some false) × (holds free_in_y one_value nothing ≡ None)
slots_free = (refl, refl, refl)

-- the second is refused, but is not asked where the first decides
not_asked : (holds (either (free_in_x 7) free_in_y) one_value nothing ≡ Some true) × (holds (each_of (free_in_x 8) free_in_y) one_value nothing ≡ Some false)
    × (asked (either (free_in_x 7) free_in_y) one_value nothing ≡ free_in_x 7 ∷ [])
not_asked = (refl, refl, refl)

-- where the first leaves it open it is asked, and the refusal is handed on
is_asked : (holds (either (free_in_x 8) free_in_y) one_value nothing ≡ None) × (holds (each_of (free_in_x 7) free_in_y) one_value nothing ≡ None)
    × (holds (each_of free_in_y (free_in_x 8)) one_value nothing ≡ None) × (asked (either (free_in_x 8) free_in_y) one_value nothing ≡ free_in_x 8 ∷ free_in_y ∷ [])
is_asked = (refl, refl, refl, refl)

-- a and b are of different classes: a test of the caller's own that asks the graph
abbrev pub apart : Condition
apart = own (λ s g. Some (not (nat_eq (find_class g.found 0) (find_class g.found 1))))

abbrev word : ℕ → Pattern
word op = pattern_node op [] no_argument

-- the word a equals the word b, under a condition
abbrev pub a_is_b : Condition → Rule
a_is_b c = record { left = word 1; right = word 2; condition = c }

-- nothing is asked for besides, and each term represents itself
abbrev pub nothing_else : State → Applied → Applied → Type 0
nothing_else g a b = ⊥

filled_itself : (nodes : List DTerm) (given : List ℕ) (i : ℕ) → IsFull nodes (i, []) → IsFilling nodes given (i, []) (i, [])
filled_itself nodes given i full = record { class = refl; full = full; keeps = λ s x c. c; fresh = λ s x c n k. Contains-nil (s, x) c }

words : (c : Condition) → AssertsInstances nothing_else is_itself [] (a_is_b c) [] twice rebuilt
words c = record {
  built = twice;
  builds = no_call;
  left = id 0;
  right = id 1;
  left_answers = inr (id_full 0 (omega arith), (_, refl, refl));
  right_answers = inr (id_full 1 (omega arith), (_, refl, refl));
  left_filled = id 0;
  right_filled = id 1;
  left_fills = filled_itself twice.nodes [] 0 (id_full 0 (omega arith));
  right_fills = filled_itself twice.nodes [] 1 (id_full 1 (omega arith));
  asserts = words_asserted;
}

-- it is found twice: the first time the condition holds, and then no more, so one equation is asserted
turns : (holds apart [] twice ≡ Some true) × (holds apart [] rebuilt ≡ Some false)
turns = (refl, refl)

pub applied_once : Applies nothing_else is_itself [] (a_is_b apart) ([] ∷ [] ∷ []) twice rebuilt
applied_once = does_hold refl (words apart) (does_not_hold refl all_done)

-- the new entry comes from it
new_entry : IsNewEntry twice rebuilt 6
new_entry = record { later = omega arith; in_range = omega arith; explicit = refl }

comes_from_rule : ComesFromRule is_itself [] (a_is_b apart) ([] ∷ [] ∷ []) twice rebuilt (equation_at rebuilt.proofs 6)
comes_from_rule = elim (entries-come nothing_else is_itself [] (a_is_b apart) twice_rests applied_once 6 new_entry) [
  | inl c ↦ c
  | inr c ↦ absurd c.asks
]

-- but it does not hold in every graph between: not in the one at exit
not_throughout : ¬ ((m : State) → IsBetween twice rebuilt m → holds apart [] m ≡ Some true)
not_throughout all =
    let e : Some false ≡ Some true = all rebuilt (record {
      rest = rebuilt_done.rest;
      after = (applies-extend nothing_else is_itself [] (a_is_b apart) twice_rests applied_once).1;
      before = extension-same rebuilt rebuilt_done.rest.sane;
    }) in cc

-- without a condition it does, and an equation of a and b stands
applied_always : Applies nothing_else is_itself [] (a_is_b always) ([] ∷ []) twice rebuilt
applied_always = does_hold refl (words always) all_done

a_equals_b : IsApplied is_itself [] (a_is_b always) rebuilt []
a_equals_b = held-applied nothing_else is_itself [] (a_is_b always) twice_rests applied_always [] (contains_head [] []) (λ m b. refl)

-- each of the three levels has one class less
progressed : (progress twice ≡ record { classes = 6; live_classes = 6; slots = 0 }) × (progress rebuilt ≡ record { classes = 6; live_classes = 3; slots = 0 })
progressed = (refl, refl)

-- the caller's own code may ask for the same
asked_for : IsAskedFor (λ g a b. (a ≡ id 0) × (b ≡ id 1)) twice rebuilt (equation_at rebuilt.proofs 6)
asked_for = calls-enter (λ g a b. (a ≡ id 0) × (b ≡ id 1)) twice_rests (asserts (id 0) (id 1) (id_full 0 (omega arith)) (id_full 1 (omega arith)) (refl, refl) words_asserted no_call) 6 new_entry

-- a proof list that has grown by nothing keeps all
kept_all : KeepsAll rebuilt rebuilt
kept_all = record {
  same = proofs-quiet rebuilt rebuilt_done.rest rebuilt.proofs (record { more = []; is = sym (append-nil rebuilt.proofs); proved = rebuilt_done.rest.sane.sound.proved; asserts_nothing = refl });
  grows = record { more = []; proofs = sym (append-nil rebuilt.proofs); listed = []; symmetries = refl };
  nodes = refl;
  same_lives = refl;
  asserts_nothing = λ p l e. l;
}

-- applied again the rule changes nothing: its equation stands, so both sides are found alike, as saturation tells
again : AssertsInstances nothing_else is_itself [] (a_is_b always) [] rebuilt rebuilt
again = record {
  built = rebuilt;
  builds = keeps kept_all no_call;
  left = id 0;
  right = id 1;
  left_answers = inr (id_full 0 (omega arith), (_, refl, refl));
  right_answers = inr (id_full 1 (omega arith), (_, refl, refl));
  left_filled = id 0;
  right_filled = id 1;
  left_fills = filled_itself rebuilt.nodes [] 0 (id_full 0 (omega arith));
  right_fills = filled_itself rebuilt.nodes [] 1 (id_full 1 (omega arith));
  asserts = stands 6 (omega arith, refl) (finds_alike refl refl) starts (refl, λ y c. absurd (Contains-nil y c));
}

found_alike : (e : Equation) × (i : IsEquationOfInstances is_itself [] rebuilt.nodes (a_is_b always) [] e) × (find rebuilt.found i.left ≡ find rebuilt.found i.right)
found_alike =
    let s = saturated nothing_else is_itself [] (a_is_b always) rebuilt_done.rest (does_hold refl again all_done) refl [] (contains_head [] []) (λ m b. refl) in
    (s.0, s.1, s.3 (λ y c. absurd (Contains-nil y c)))

-- (h $0 $1) equals (h $1 $0): a symmetry is listed, which is no progress, and is open: the rule is saturated, but its sides do not find alike
abbrev pub left_id : Applied
left_id = (0, (0, 0) ∷ (1, 1) ∷ [])

abbrev pub right_id : Applied
right_id = (0, (0, 1) ∷ (1, 0) ∷ [])

abbrev h_is_h : Rule
h_is_h = record { left = pattern_node 3 [] (own_name 0 (own_name 1 no_argument)); right = pattern_node 3 [] (own_name 1 (own_name 0 no_argument)); condition = always }

pub with_h_rests : AtRest with_h
with_h_rests =
    (class-added nothing nothing-rests (h_of 0 1) h_is_new with_h (files nothing (h_of 0 1) (λ s c. c) (λ r k. absurd (Contains-nil r k)) (refl, λ y k. absurd (Contains-nil y k)))).rest

turned_round : AssertsInstances nothing_else is_itself [] h_is_h [] with_h open_state
turned_round = record {
  built = with_h;
  builds = no_call;
  left = left_id;
  right = right_id;
  left_answers = inr (h_full 0 1 (λ e. omega arith), (_, refl, (_, refl, (_, refl, refl))));
  right_answers = inr (h_full 1 0 (λ e. omega arith), (_, refl, (_, refl, (_, refl, refl))));
  left_filled = left_id;
  right_filled = right_id;
  left_fills = fills-itself with_h.nodes (1 ∷ 0 ∷ []) left_id (h_full 0 1 (λ e. omega arith));
  right_fills = fills-itself with_h.nodes (0 ∷ 1 ∷ []) right_id (h_full 1 0 (λ e. omega arith));
  asserts = opens;
}

saturated_but_open : Applies nothing_else is_itself [] h_is_h ([] ∷ []) with_h open_state × (progress open_state ≡ progress with_h) × (find open_state.found left_id ≢ find open_state.found right_id)
saturated_but_open = (does_hold refl turned_round all_done, refl, λ e. let n : ◌≡◌ {A = ℕ} 0 1 = ap (λ (a : Applied). (get_or a.1 0 (0, 0)).1) e in omega arith)

one_class : (e : Equation) × (i : IsEquationOfInstances is_itself [] with_h.nodes h_is_h [] e) × (find_class with_h.found i.left.0 ≡ find_class with_h.found i.right.0)
one_class =
    let s = saturated nothing_else is_itself [] h_is_h with_h_rests (does_hold refl turned_round all_done) refl [] (contains_head [] []) (λ m b. refl) in
    (s.0, s.1, s.2)

-- a search for ?x finds the one class under its own slots, and what is found is looked up as it
abbrev whole_class : Values
whole_class = ((120 ∷ []), left_id) ∷ []

abbrev at_class : MatchState
at_class = record { values = whole_class; pairs = []; seen = 0 ∷ 1 ∷ [] }

reads_class : Reads with_h (λ y. y) (valued whole_class) at_class
reads_class = record {
  injective = λ x y e. e;
  slots = λ s t c. absurd (Contains-nil (s, t) c);
  values_read = λ v b e. ap (λ o. find with_h.found (id_or_none o)) e ∙ sym (renamed-id (find with_h.found b));
}

-- the states that are found are this one
only_at_class : (out : MatchState) → Contains (at_class ∷ []) out → out ≡ at_class
only_at_class out c = elim (contains_cases at_class [] out c) [
  | inl e ↦ e
  | inr k ↦ absurd (Contains-nil out k)
]

found_class : IsMatch with_h with_h.rows (variable (120 ∷ [])) whole_class
found_class = record { class = 0; in_range = omega arith; lives = refl; outs = at_class ∷ []; run = refl; out = at_class; is_out = contains_head at_class []; names = λ y. y; reads = reads_class }

searched : Searches with_h with_h.rows (variable (120 ∷ [])) (whole_class ∷ [])
searched = record {
  runs = at_each;
  matches = λ s c. elim (contains_cases whole_class [] s c) [
    | inl e ↦ subst (IsMatch with_h with_h.rows (variable (120 ∷ []))) (sym e) found_class
    | inr k ↦ absurd (Contains-nil s k)
  ];
}
  where
    at_each : (c : ℕ) → c < 1 → IsLive with_h.found c → IsRead with_h with_h.rows (variable (120 ∷ [])) (whole_class ∷ []) c
    at_each zero l live = record {
      outs = at_class ∷ [];
      run = refl;
      read = λ out c. (whole_class, contains_head whole_class [], λ y. y, subst (Reads with_h (λ y. y) (valued whole_class)) (sym (only_at_class out c)) reads_class);
    }
    at_each (suc c) l live = absurd (omega arith)

looked_up_as_class : look_up_pattern with_h (λ y. y) (valued whole_class) (variable (120 ∷ [])) ≡ Some (renamed_id (λ y. y) (find with_h.found left_id))
unfolding found_class
looked_up_as_class = match-looked_up with_h with_h_rests with_h.rows (variable (120 ∷ [])) whole_class found_class

-- by any names for the slots of h: the search has found them, up to a renaming
other_names : (s : Values) × Contains (whole_class ∷ []) s
other_names =
    let r = search-finds with_h with_h_rests (λ i l. all_slots i l) with_h.rows (λ r c. c) (variable (120 ∷ [])) (whole_class ∷ []) searched (λ v. five_six) valid
    (record { differ = tt; in_scope = λ y c f. Contains-nil y c }) (find with_h.found five_six) refl in (r.0, r.1)
  where
    five_six : Applied
    five_six = (0, (0, 5) ∷ (1, 6) ∷ [])

    all_slots : (i : ℕ) → i < 1 → used_slots with_h.found i ≡ canonical_slots with_h.nodes i
    all_slots zero l = refl
    all_slots (suc i) l = absurd (omega arith)

    valid : IsValidIn with_h five_six
    valid = full-is_valid with_h.nodes with_h.found with_h_rests.sane.sound.linked five_six (h_full 5 6 (λ e. omega arith))

-- the word a was matched, and is then equal to an instance of the right side, which is the word b
a_becomes_b : (t : DTerm) × IsInstance is_itself rebuilt.nodes [] (valued []) (λ y. y) (word 2) t × Equal (asserted rebuilt.nodes rebuilt.proofs) (term_of twice.nodes (id 0)) t
a_becomes_b =
    rewrites-equal nothing_else is_itself [] [] (a_is_b always) twice_rests applied_always [] (contains_head [] []) (λ m b. refl) tt (id 0) (id 0) refl (filled_itself twice.nodes [] 0 (id_full 0 (omega arith)))

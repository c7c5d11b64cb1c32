-- A round that makes an edit of the class itself: the words p and q, where the datum 0 asks that its class equals q. 0 is merged
-- into the data of p; the round asserts p to equal q, by which the data of the class of q changes. So this waits, and is asked in a
-- second round, which finds what it asks.
use Rattle.std.proofs.Common.{◌≡◌, ◌≢◌, ℕ, zero, suc, ◌<◌, List, [], ◌∷◌, Some, refl, sym, ap, subst, inl, inr, arith}
use Rattle.std.specs.Prelude.{Contains, min, cond, nat_eq}
use Rattle.std.proofs.lemmas.Bool.{cases_eq, cases_lt, ne_eqb}
use Rattle.slotted_lists.proofs.Contained.{contains_head, contains_cases, Contains-nil}
use Rattle.slotted_model.specs.Classes.{IsFull}
use Rattle.slotted_model.specs.Extraction.{row_class}
use Rattle.slotted_model.specs.Filling.{IsFilling}
use Rattle.slotted_model.specs.Find.{IsLive, find_class}
use Rattle.slotted_model.specs.Link.{IsLater}
use Rattle.slotted_model.specs.ProofList.{Equation, equation_of, equation_at, asserted}
use Rattle.slotted_model.specs.State.{Row, State, look_up_tree}
use Rattle.slotted_model.specs.Trees.{IsTree}
use Rattle.slotted_model.specs.Changes.{Unites, left_dies, finds_alike, linked_state}
use Rattle.slotted_model.specs.Adding.{with_assertion}
use Rattle.slotted_model.proofs.Examples.CompletenessExamples.{one_of}
use Rattle.slotted_model.proofs.Examples.RestExamples.{p, q, with_q, q_rests}
use Rattle.slotted_model.proofs.Rebuilding.Touching.{touching, touched-is}
use Rattle.slotted_model_analyses.specs.Analysis.{Analysis, IsMerge, Absorbs}
use Rattle.slotted_model_analyses.specs.DataPart.{DataPart, with_data, with_pending, made, absorbed, lowered, Carries, starts, RestsWithData}
use Rattle.slotted_model_analyses.specs.DataWrites.{AssertsWithData, is_new, stands, MergesInto, merges_into}
use Rattle.slotted_model_analyses.specs.Rounds.{Modify, Answers, IsOfTrees, AnswersTrees, AreAsked, adds, equals, equates, AddsTree, MakesEdit, makes_add, makes_equal, makes_equate, all_made, then_edit, all_modified, modified, passed_over, TakesRound, no_rounds, one_round, Rounds, AddsExpr, still_there, IsAsked}
use Rattle.slotted_model_analyses.specs.Rounds as rounds
use Rattle.slotted_model_analyses.specs.Steps.{none_more, RoundsAs}
use Rattle.slotted_model_analyses.proofs.Merging.{noted-is}
use Rattle.slotted_model_analyses.proofs.CarriedSteps.{carried-same, asserting-carried}
use Rattle.slotted_model_analyses.proofs.AddedTrees.{merged-stays}
use Rattle.slotted_model_analyses.proofs.MakingRounds.{rounds-there}
use Rattle.slotted_model_analyses.proofs.RoundsAtRest.{rounds-on, round-on, cleared, none-modified}
use Rattle.slotted_model_analyses.proofs.Writing.{merging}

-- p makes 5, and q makes 7; the least is kept
abbrev least : Analysis ℕ
least = record { make = λ d xs. cond (nat_eq d.op 1) 5 7; merge = min; height = λ x. x }

least_merge : IsMerge ℕ least
least_merge = record {
  decided = cases_eq;
  commutative = λ x y. omega arith;
  associative = λ x y z. omega arith;
  idempotent = λ x. omega arith;
  lowers = λ x y n. below x y n;
}
  where
    below : (x y : ℕ) → min x y ≢ x → min x y < x
    below x y n = elim (cases_lt y x) [
      | inl l ↦ omega arith
      | inr l ↦ absurd (n (omega arith))
    ]

-- a class of which the datum is 0 is to equal q
abbrev asks : Modify ℕ
asks x slots e = (x ≡ 0) × (e ≡ equals q)

-- and this is answered
abbrev answered : Answers ℕ
answered x slots = cond (nat_eq x 0) (equals q ∷ []) []

abbrev words : DataPart ℕ
words = record { data_of = with_data (λ i. 5) 1 7; pending = []; changed = [] }

words_rest : RestsWithData least with_q words
words_rest = record {
  rest = q_rests;
  has = record {
    waits_once = tt;
    waits_whole = λ o c. c;
    waits_for_row = λ o c. absurd (Contains-nil o c);
    absorbs_made = λ r c n. elim (contains_cases _ (_ ∷ []) r c) [
      | inl e ↦ subst (λ (x : Row). Absorbs least (words.data_of (row_class with_q x)) (made least words x.shape)) (sym e) refl
      | inr d ↦ elim (contains_cases _ [] r d) [
        | inl e ↦ subst (λ (x : Row). Absorbs least (words.data_of (row_class with_q x)) (made least words x.shape)) (sym e) refl
        | inr k ↦ absurd (Contains-nil r k)
      ]
    ];
    changed_once = tt;
    changed_in_range = λ i c. absurd (Contains-nil i c);
  };
  nothing_waits = refl;
}

-- 0 is merged into the data of p, which waits to be modified then; no row is over it
abbrev told : DataPart ℕ
told = record { data_of = with_data words.data_of 0 0; pending = []; changed = 0 ∷ [] }

p_told : MergesInto least with_q words 0 0 with_q told
p_told =
    merges_into (lowered [] (0 ∷ []) (λ e. omega arith) (touched-is (with_pending with_q words) tt 0) (noted-is 0 [] tt)) starts
    ((refl, λ y c. absurd (Contains-nil y c)), refl)

told_rests : RestsWithData least with_q told
told_rests = ((merging least least_merge with_q words words_rest 0 (omega arith) 0).1 with_q told p_told).1

-- the first round: of the class of p it is asked to equal q, which is there
abbrev before_round : DataPart ℕ
before_round = record told { changed = [] }

before_rests : RestsWithData least with_q before_round
before_rests = cleared least least_merge asks with_q told told_rests

q_there : (s : DataPart ℕ) → RestsWithData least with_q s → AddsTree least with_q s q with_q s (1, [])
q_there s x = record {
  nodes = rounds.no_more;
  carries = carried-same least least_merge with_q s x;
  full = record { in_range = omega arith; slots = refl; injective = tt };
  term = refl;
}

-- an id without slots lacks no name
filled : (g : State) (c : ℕ) (given : List ℕ) → IsFull g.nodes (c, []) → IsFilling g.nodes given (c, []) (c, [])
filled g c given full = record { class = refl; full = full; keeps = λ s x k. k; fresh = λ s x k n. absurd (Contains-nil (s, x) k) }

abbrev asked_equation : Equation
asked_equation = equation_of (0, []) (1, [])

abbrev more : State
more = with_assertion with_q asked_equation

abbrev united : State
united = linked_state more asked_equation 2 0 (touching more 0)

none_died : IsLater with_q.found 0
none_died zero l d = absurd (d refl)
none_died (suc zero) l d = absurd (d refl)
none_died (suc (suc i)) l d = absurd (omega arith)

abbrev words_unite : Unites 2 more united
words_unite =
    left_dies 2 0 (touching more 0) (λ e. omega arith) (record { left = λ s c. c; right = λ s c. c }) (omega arith, refl) none_died
    (touched-is more tt 0)

-- the class of p dies, so 0 is merged into the data of that of q, which waits
abbrev q_changed : DataPart ℕ
q_changed = record { data_of = with_data told.data_of 1 0; pending = []; changed = 1 ∷ [] }

words_carried : Carries least words_unite before_round q_changed
words_carried = (
  touching (with_pending more before_round) 0,
  touched-is (with_pending more before_round) tt 0,
  lowered [] (1 ∷ []) (λ e. omega arith) (touched-is (with_pending more before_round) tt 1) (noted-is 1 [] tt),
)

words_asserted : AssertsWithData least with_q before_round (0, []) (1, []) united q_changed
words_asserted = is_new other words_unite words_carried starts ((refl, λ y c. absurd (Contains-nil y c)), refl)
  where
    other : (n : ℕ) → n < 2 → equation_at with_q.proofs n ≡ asked_equation → ⊥
    other zero l e = let n : ◌≡◌ {A = ℕ} 0 1 = ap (λ (x : Equation). x.right) e in omega arith
    other (suc zero) l e = let n : ◌≡◌ {A = ℕ} 1 0 = ap (λ (x : Equation). x.left) e in omega arith
    other (suc (suc n)) l e = omega arith

p_full : IsFull with_q.nodes (0, [])
p_full = record { in_range = omega arith; slots = refl; injective = tt }

q_full : IsFull with_q.nodes (1, [])
q_full = record { in_range = omega arith; slots = refl; injective = tt }

edit_made : MakesEdit least with_q before_round 0 [] (equals q) united q_changed
edit_made =
    let c = asserting-carried least least_merge with_q before_round before_rests united q_changed (0, []) (1, []) p_full q_full words_asserted in
    makes_equal q (q_there before_round before_rests) (filled with_q 0 [] p_full) c.0 c.1

-- for the datum 0, whatever class has it
q_asked : (slots : List ℕ) → AreAsked (asks 0 slots) (equals q ∷ [])
q_asked slots e c = (refl, one_of c)

first_round : TakesRound least asks with_q told united q_changed
first_round = record {
  order = 0 ∷ [];
  ascending = (tt, tt);
  waiting = λ c. (λ k. (k, subst (IsLive with_q.found) (sym (one_of k)) refl), λ k. k.0);
  modifies = modified (omega arith) refl (q_asked []) (then_edit edit_made all_made) all_modified;
}

-- of the two classes that of q alone is live, and its data has changed: it waits for the next round
united_rests : RestsWithData least united q_changed
united_rests = (round-on least least_merge asks with_q told told_rests united q_changed first_round).0.carries.rests

q_waits : (q_changed.changed ≡ 1 ∷ []) × (q_changed.data_of (find_class united.found 0) ≡ 0) × (find_class united.found 0 ≡ 1)
q_waits = (refl, refl, refl)

-- the second round: q equals itself by the entry with which its class was made
abbrev at_end : DataPart ℕ
at_end = record q_changed { changed = [] }

end_rested : RestsWithData least united at_end
end_rested = cleared least least_merge asks united q_changed united_rests

q_same : AssertsWithData least united at_end (1, []) (1, []) united at_end
q_same = stands 1 (omega arith, refl) (finds_alike refl refl) refl starts ((refl, λ y c. absurd (Contains-nil y c)), refl)

q_still : MakesEdit least united at_end 1 [] (equals q) united at_end
q_still =
    let c = asserting-carried least least_merge united at_end end_rested united at_end (1, []) (1, []) q_full q_full q_same in
    makes_equal q (record { nodes = rounds.no_more; carries = carried-same least least_merge united at_end end_rested; full = q_full; term = refl })
    (filled united 1 [] q_full) c.0 c.1

second_round : TakesRound least asks united q_changed united at_end
second_round = record {
  order = 1 ∷ [];
  ascending = (tt, tt);
  waiting = λ c. (λ k. (k, subst (IsLive united.found) (sym (one_of k)) refl), λ k. k.0);
  modifies = modified (omega arith) refl (q_asked []) (then_edit q_still all_made) all_modified;
}

both_rounds : Rounds least asks 16 with_q told united at_end
both_rounds = record {
  taken = 2;
  within = omega arith;
  rounds = one_round (one_round no_rounds 0 (contains_head 0 []) refl first_round) 1 (contains_head 1 []) refl second_round;
  ends = inr (λ c k. absurd (Contains-nil c k));
}

-- in both what is answered is made, and data goes along with each step
in_steps : RoundsAs answered both_rounds.rounds
unfolding both_rounds first_round edit_made second_round q_still
in_steps = ((tt, (refl, ((none_more, words_asserted), tt), tt)), (refl, ((none_more, q_same), tt), tt))

end_rests : RestsWithData least united at_end
end_rests = (rounds-on least least_merge asks told_rests both_rounds.rounds).rest

-- one pair is asserted, where none was: so it was asked
one_asserted : (asserted with_q.nodes with_q.proofs ≡ []) × (asserted united.nodes united.proofs ≡ (p, q) ∷ [])
one_asserted = (refl, refl)

was_asked : IsAsked least asks with_q united (p, q)
was_asked = elim ((rounds-on least least_merge asks told_rests both_rounds.rounds).asked (p, q) (contains_head (p, q) [])) [
  | inl c ↦ absurd (Contains-nil (p, q) c)
  | inr k ↦ k
]

-- the value that was merged has stayed
still_told : Absorbs least (at_end.data_of (find_class united.found 0)) 0
still_told =
    (merged-stays least least_merge asks 16 with_q words words_rest 0 (omega arith) 0 with_q united told at_end p_told both_rounds).2

-- an analysis that asks nothing leaves the graph in a round, and no class waits then
abbrev asks_nothing : Modify ℕ
asks_nothing x slots e = ⊥

quiet_round : TakesRound least asks_nothing with_q told with_q before_round
quiet_round = record {
  order = 0 ∷ [];
  ascending = (tt, tt);
  waiting = λ c. (λ k. (k, subst (IsLive with_q.found) (sym (one_of k)) refl), λ k. k.0);
  modifies = modified (omega arith) refl (λ e c. Contains-nil e c) all_made all_modified;
}

nothing_asked : (h : State) (t : DataPart ℕ) → TakesRound least asks_nothing with_q told h t → (h ≡ with_q) × (t ≡ before_round)
nothing_asked h t r = none-modified least asks_nothing (λ x slots e k. k) r.modifies

-- without rounds all waits for the next write
no_round : Rounds least asks 0 with_q told with_q told
no_round = record { taken = 0; within = omega arith; rounds = no_rounds; ends = inl refl }

-- trees alone are answered, so there are rounds for each limit
q_is_tree : IsTree q
q_is_tree = record { operator = omega arith; children = tt }

answers_trees : AnswersTrees asks answered
answers_trees zero slots e c = ((refl, one_of c), subst IsOfTrees (sym (one_of c)) q_is_tree)
answers_trees (suc x) slots e c =
    let none = subst (λ b. Contains (cond b (equals q ∷ []) []) e) (ne_eqb (suc x) 0 (λ k. omega arith)) c in
    absurd (Contains-nil e none)

rounds_for : (limit : ℕ) → (h : State) × (t : DataPart ℕ) × (r : Rounds least asks limit with_q told h t) × RoundsAs answered r.rounds
rounds_for limit = rounds-there least least_merge asks answered answers_trees with_q told told_rests limit

-- an edit that adds q finds it there
q_added : MakesEdit least with_q told 0 [] (adds q) with_q told
q_added = makes_add q (q_there told told_rests)

-- p is added once more: its class waits, and the rounds lead it to the class of q, which is answered
p_answered : AddsExpr least asks 16 with_q told p united at_end (1, [])
p_answered = still_there rounds.no_more (carried-same least least_merge with_q told told_rests) looked_up both_rounds refl
  where
    looked_up : look_up_tree with_q p ≡ Some (0, [])
    looked_up = refl

-- where q waits too, and the class of p asks that q equals p: the class of q dies before it is taken, and is passed over
abbrev asks_of_both : Modify ℕ
asks_of_both x slots e = (x ≡ 0) × (e ≡ equates q p)

abbrev both_wait : DataPart ℕ
both_wait = record told { changed = 0 ∷ 1 ∷ [] }

both_wait_rest : RestsWithData least with_q both_wait
both_wait_rest = record {
  rest = q_rests;
  has = record {
    waits_once = tt;
    waits_whole = λ o c. c;
    waits_for_row = λ o c. absurd (Contains-nil o c);
    absorbs_made = told_rests.has.absorbs_made;
    changed_once = (λ c. let e : ◌≡◌ {A = ℕ} 0 1 = one_of c in omega arith, (Contains-nil 1, tt));
    changed_in_range = λ i c. elim (contains_cases 0 (1 ∷ []) i c) [
      | inl e ↦ omega arith
      | inr k ↦ let e : i ≡ 1 = one_of k in omega arith
    ];
  };
  nothing_waits = refl;
}

abbrev turned_equation : Equation
turned_equation = equation_of (1, []) (0, [])

abbrev turned_more : State
turned_more = with_assertion with_q turned_equation

abbrev q_dead : State
q_dead = linked_state turned_more turned_equation 2 0 (touching turned_more 1)

abbrev q_dies : Unites 2 turned_more q_dead
q_dies =
    left_dies 2 0 (touching turned_more 1) (λ e. omega arith) (record { left = λ s c. c; right = λ s c. c }) (omega arith, refl) none_died
    (touched-is turned_more tt 1)

-- 7 is merged into 0, which absorbs it
q_carried : Carries least q_dies before_round before_round
q_carried =
    (touching (with_pending turned_more before_round) 1, touched-is (with_pending turned_more before_round) tt 1, absorbed refl)

q_asserted : AssertsWithData least with_q before_round (1, []) (0, []) q_dead before_round
q_asserted = is_new other q_dies q_carried starts ((refl, λ y c. absurd (Contains-nil y c)), refl)
  where
    other : (n : ℕ) → n < 2 → equation_at with_q.proofs n ≡ turned_equation → ⊥
    other zero l e = let n : ◌≡◌ {A = ℕ} 0 1 = ap (λ (x : Equation). x.left) e in omega arith
    other (suc zero) l e = let n : ◌≡◌ {A = ℕ} 1 0 = ap (λ (x : Equation). x.right) e in omega arith
    other (suc (suc n)) l e = omega arith

both_live : (c : ℕ) → Contains (0 ∷ 1 ∷ []) c → IsLive with_q.found c
both_live c k = elim (contains_cases 0 (1 ∷ []) c k) [
  | inl e ↦ subst (IsLive with_q.found) (sym e) refl
  | inr j ↦ subst (IsLive with_q.found) (sym (one_of j)) refl
]

both_made : MakesEdit least with_q before_round 0 [] (equates q p) q_dead before_round
both_made =
    let c = asserting-carried least least_merge with_q before_round before_rests q_dead before_round (1, []) (0, []) q_full p_full q_asserted in
    makes_equate q p (q_there before_round before_rests)
    (record { nodes = rounds.no_more; carries = carried-same least least_merge with_q before_round before_rests; full = p_full; term = refl })
    c.0 c.1

round_of_both : TakesRound least asks_of_both with_q both_wait q_dead before_round
round_of_both = record {
  order = 0 ∷ 1 ∷ [];
  ascending = ((omega arith, tt), (tt, tt));
  waiting = λ c. (λ k. (k, both_live c k), λ k. k.0);
  modifies =
      modified (omega arith) refl (λ e c. (refl, one_of c)) (then_edit both_made all_made)
      (passed_over (λ e. omega arith) all_modified);
}

both_round_rests : RestsWithData least q_dead before_round
both_round_rests =
    (round-on least least_merge asks_of_both with_q both_wait both_wait_rest q_dead before_round round_of_both).0.carries.rests

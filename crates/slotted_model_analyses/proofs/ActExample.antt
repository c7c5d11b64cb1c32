-- An act with data: f 7 8 and f 8 7 are asserted equal, and then f 7 8 and f 7 9, so that the second slot of f is redundant. The
-- symmetry that is listed is not aligned then, and is acted on: f drops its other slot, and the row of h over f waits on, until h has
-- dropped its slots and is filed anew. The data goes along.
use Rattle.std.proofs.Common.{◌≡◌, ◌≢◌, ℕ, zero, suc, ◌<◌, [], ◌∷◌, ◌++◌, length, get_or, refl, sym, ◌∙◌, ap, subst, inl, inr, arith}
use Rattle.std.specs.Prelude.{Contains, min, cond, nat_eq}
use Rattle.std.proofs.lemmas.Bool.{cases_eq, cases_lt}
use Rattle.slotted_lists.proofs.Contained.{contains_head, contains_tail, contains_cases, Contains-nil}
use Rattle.slotted_theory.specs.Nameless.{DTerm}
use Rattle.slotted_theory.specs.Shape.{shape}
use Rattle.slotted_model.specs.Applied.{Applied}
use Rattle.slotted_model.specs.Classes.{IsFull}
use Rattle.slotted_model.specs.Extraction.{row_class}
use Rattle.slotted_model.specs.Find.{find_class, used_slots}
use Rattle.slotted_model.specs.Link.{CanEnter}
use Rattle.slotted_model.specs.ProofList.{Equation, ProofEntry, explicit, transitive, congruent, equation_of, equation_at, no_more, one_child}
use Rattle.slotted_model.specs.State.{Row, State, normal_node}
use Rattle.slotted_model.specs.Rest.{IsAligned, Sane, Represents}
use Rattle.slotted_model.specs.Changes.{ProofsGrow, with_proofs, found_entry, Unites, proves, drops_left, finds_alike, lists, dropped_state}
use Rattle.slotted_model.specs.Rebuild.{IsCongruence, refiled_state, Turn, enters, narrows, refiles, Acts, acts}
use Rattle.slotted_model.specs.Adding.{with_assertion}
use Rattle.slotted_model.proofs.Rebuilding.Asserting.{entry-sane, entry-represents, can_assert}
use Rattle.slotted_model.proofs.Examples.CompletenessExamples.{one_of}
use Rattle.slotted_model.proofs.Finds.Entering.{entered-proved}
use Rattle.slotted_model.proofs.Rebuilding.GrowingLists.{proofs-sane}
use Rattle.slotted_model.proofs.Rebuilding.Touching.{touching, touched-is}
use Rattle.slotted_model.proofs.Examples.TurnExamples.{with_h, h_rests, f_7_8, f_7_9, f_full, redundant, exchanged, symmetric, exchange, not_identity, both_slots, not_zero, not_exchanged, not_redundant_too, narrowed, narrowed_sane, not_aligned}
use Rattle.slotted_model.proofs.Rebuilding.Unions.{unites}
use Rattle.slotted_model.proofs.Rebuilding.AfterUnions.{united-represents}
use Rattle.slotted_model_analyses.specs.Analysis.{Analysis, IsMerge, Absorbs}
use Rattle.slotted_model_analyses.specs.DataPart.{DataPart, with_pending, made, Carries, absorbed, Follows, FollowsAct, RunsWithData, starts, takes_act, HasData, size_with_data, GoesDown, DataGoesDown, RestsWithData}
use Rattle.slotted_model_analyses.specs.DataPart as with
use Rattle.slotted_model_analyses.specs.DataWrites.{AssertsWithData, is_new}
use Rattle.slotted_model_analyses.proofs.Counts.{ended-with}
use Rattle.slotted_model_analyses.proofs.Following.{acted-followed}
use Rattle.slotted_model_analyses.proofs.Writing.{asserting}

-- f makes 4, and every other node one more than its first child; the least is kept
abbrev depth : Analysis ℕ
depth = record { make = λ d xs. cond (nat_eq d.op 3) 4 (suc (get_or xs 0 0)); merge = min; height = λ x. x }

depth_merge : IsMerge ℕ depth
depth_merge = record {
  decided = cases_eq;
  commutative = λ x y. omega arith;
  associative = λ x y z. omega arith;
  idempotent = λ x. omega arith;
  lowers = λ x y n. below x y n;
}
  where
    below : (x y : ℕ) → min x y ≢ x → min x y < x
    below x y n = elim (cases_lt y x) [
      | inl l ↦ omega arith
      | inr l ↦ absurd (n (omega arith))
    ]

-- f has 4, and h over f has 5
abbrev start : DataPart ℕ
start = record { data_of = λ i. cond (nat_eq i 0) 4 5; pending = []; changed = [] }

start_rests : RestsWithData depth with_h start
start_rests = record {
  rest = h_rests;
  has = record {
    waits_once = tt;
    waits_whole = λ o c. c;
    waits_for_row = λ o c. absurd (Contains-nil o c);
    absorbs_made = λ r c n. elim (contains_cases _ (_ ∷ []) r c) [
      | inl e ↦ subst (λ (x : Row). Absorbs depth (start.data_of (row_class with_h x)) (made depth start x.shape)) (sym e) refl
      | inr d ↦ elim (contains_cases _ [] r d) [
        | inl e ↦ subst (λ (x : Row). Absorbs depth (start.data_of (row_class with_h x)) (made depth start x.shape)) (sym e) refl
        | inr k ↦ absurd (Contains-nil r k)
      ]
    ];
    changed_once = tt;
    changed_in_range = λ i c. absurd (Contains-nil i c);
  };
  nothing_waits = refl;
}

-- f 7 8 is asserted to equal f 8 7: the symmetry is listed, and no data changes
abbrev f_8_7 : Applied
f_8_7 = (0, (0, 8) ∷ (1, 7) ∷ [])

abbrev listed : Unites 2 (with_assertion with_h exchanged) symmetric
listed =
    lists 2 refl (record { left = λ s c. c; right = both_slots }) not_identity (λ y c. absurd (Contains-nil y c)) (omega arith, refl)

exchange_asserted : AssertsWithData depth with_h start f_7_8 f_8_7 symmetric start
exchange_asserted = is_new not_exchanged listed refl starts ((refl, λ y c. subst (IsAligned symmetric) (sym (one_of c)) refl), refl)

symmetric_rests : RestsWithData depth symmetric start
symmetric_rests =
    let full = f_full 7 8 (λ e. omega arith) in
    let other = f_full 8 7 (λ e. omega arith) in
    ((asserting depth depth_merge with_h start start_rests f_7_8 f_8_7 full other).1 symmetric start exchange_asserted).1

-- f 7 8 is asserted to equal f 7 9: f drops its second slot, and the row of h waits, for its data too
abbrev waits : DataPart ℕ
waits = record start { pending = 1 ∷ [] }

abbrev narrows_f : Unites 3 (with_assertion symmetric redundant) narrowed
narrows_f =
    drops_left 3 1 (touching symmetric 0) (contains_tail 0 (1 ∷ []) 1 (contains_head 1 [])) not_zero (omega arith, refl)
    (touched-is (with_assertion symmetric redundant) tt 0) (finds_alike refl refl)

narrowed_carries : Carries depth narrows_f start waits
narrowed_carries = (1 ∷ [], touched-is (with_pending (with_assertion symmetric redundant) start) tt 0, refl)

narrowed_has : HasData depth narrowed waits
narrowed_has = record {
  waits_once = (Contains-nil 1, tt);
  waits_whole = λ o c. c;
  waits_for_row = λ o c. subst (Contains (1 ∷ 0 ∷ [])) (sym (one_of c)) (contains_head 1 (0 ∷ []));
  absorbs_made = λ r c n. elim (contains_cases _ (_ ∷ []) r c) [
    | inl e ↦ absurd (n (subst (λ (x : Row). Contains (1 ∷ []) x.source) (sym e) (contains_head 1 [])))
    | inr d ↦ elim (contains_cases _ [] r d) [
      | inl e ↦ subst (λ (x : Row). Absorbs depth (waits.data_of (row_class narrowed x)) (made depth waits x.shape)) (sym e) refl
      | inr k ↦ absurd (Contains-nil r k)
    ]
  ];
  changed_once = tt;
  changed_in_range = λ i c. absurd (Contains-nil i c);
}

-- that f 7 8 equals f 9 7, and so f 9 10, is entered by transitive steps
abbrev turned_entry : ProofEntry
turned_entry = record { equation = equation_of f_7_8 (0, (0, 9) ∷ (1, 7) ∷ []); step = transitive 3 2 }

abbrev dropped_entry : ProofEntry
dropped_entry = record { equation = equation_of f_7_8 (0, (0, 9) ∷ (1, 10) ∷ []); step = transitive 4 3 }

abbrev entered : State
entered = with_proofs narrowed (narrowed.proofs ++ turned_entry ∷ [])

abbrev ready : State
ready = with_proofs entered (entered.proofs ++ dropped_entry ∷ [])

turned_new : (n : ℕ) → n < 4 → equation_at narrowed.proofs n ≢ turned_entry.equation
turned_new zero l e = let n : ◌≡◌ {A = ℕ} 2 1 = ap (λ (x : Equation). length x.pairs) e in omega arith
turned_new (suc zero) l e = let n : ◌≡◌ {A = ℕ} 1 0 = ap (λ (x : Equation). x.left) e in omega arith
turned_new (suc (suc zero)) l e = let n : ◌≡◌ {A = ℕ} 2 1 = ap (λ (x : Equation). length x.pairs) e in omega arith
turned_new (suc (suc (suc zero))) l e = let n : ◌≡◌ {A = ℕ} 0 1 = ap (λ (x : Equation). (get_or x.pairs 0 (0, 7)).1) e in omega arith
turned_new (suc (suc (suc (suc n)))) l e = omega arith

dropped_new : (n : ℕ) → n < 5 → equation_at entered.proofs n ≢ dropped_entry.equation
dropped_new zero l e = let n : ◌≡◌ {A = ℕ} 2 0 = ap (λ (x : Equation). length x.pairs) e in omega arith
dropped_new (suc zero) l e = let n : ◌≡◌ {A = ℕ} 1 0 = ap (λ (x : Equation). x.left) e in omega arith
dropped_new (suc (suc zero)) l e = let n : ◌≡◌ {A = ℕ} 2 0 = ap (λ (x : Equation). length x.pairs) e in omega arith
dropped_new (suc (suc (suc zero))) l e = let n : ◌≡◌ {A = ℕ} 1 0 = ap (λ (x : Equation). length x.pairs) e in omega arith
dropped_new (suc (suc (suc (suc zero)))) l e = let n : ◌≡◌ {A = ℕ} 1 0 = ap (λ (x : Equation). length x.pairs) e in omega arith
dropped_new (suc (suc (suc (suc (suc n))))) l e = omega arith

turned_enters : CanEnter narrowed.nodes narrowed.proofs turned_entry
turned_enters = record {
  over = (can_assert narrowed f_7_8 (0, (0, 9) ∷ (1, 7) ∷ []) (f_full 7 8 (λ e. omega arith)) (f_full 9 7 (λ e. omega arith)) turned_new).over;
  proved = (
    omega arith,
    omega arith,
    record { left = refl; middle = refl; right = refl; joins = record { within = λ s u c. c; from_left = λ s u c k. c; from_right = λ s u c k. c } },
  );
  is_new = turned_new;
}

entered_grow : ProofsGrow narrowed.nodes narrowed.proofs entered.proofs
entered_grow = record {
  more = turned_entry ∷ [];
  is = refl;
  proved = entered-proved narrowed.nodes narrowed.proofs turned_entry narrowed_sane.sound.proved turned_enters;
  asserts_nothing = refl;
}

entered_sane : Sane entered
entered_sane = proofs-sane narrowed narrowed_sane entered.proofs entered_grow

dropped_enters : CanEnter entered.nodes entered.proofs dropped_entry
dropped_enters = record {
  over = (can_assert entered f_7_8 (0, (0, 9) ∷ (1, 10) ∷ []) (f_full 7 8 (λ e. omega arith)) (f_full 9 10 (λ e. omega arith)) dropped_new).over;
  proved = (
    omega arith,
    omega arith,
    record { left = refl; middle = refl; right = refl; joins = record { within = λ s u c. c; from_left = λ s u c k. c; from_right = λ s u c k. c } },
  );
  is_new = dropped_new;
}

ready_grow : ProofsGrow entered.nodes entered.proofs ready.proofs
ready_grow = record {
  more = dropped_entry ∷ [];
  is = refl;
  proved = entered-proved entered.nodes entered.proofs dropped_entry entered_sane.sound.proved dropped_enters;
  asserts_nothing = refl;
}

-- of the one slot that f has left the symmetry says that it equals none: so f drops it
says_nothing : found_entry ready 2 ≡ record { left = 0; right = 0; pairs = [] }
says_nothing = refl

abbrev acted : State
acted = dropped_state ready 0 [] 5 (touching ready 0)

abbrev act_unites : Unites 2 narrowed acted
act_unites =
    proves entered.proofs entered_grow
    (proves ready.proofs ready_grow
    (drops_left 5 0 (touching ready 0) (contains_head 0 []) (Contains-nil 0) (omega arith, refl)
    (touched-is ready (Contains-nil 1, tt) 0) (finds_alike refl refl)))

abbrev the_act : Acts narrowed acted
the_act = acts exchange (contains_head exchange []) not_aligned act_unites

no_slots : (used_slots narrowed.found 0 ≡ 0 ∷ []) × (used_slots acted.found 0 ≡ [])
no_slots = (refl, refl)

-- the data goes along: the row of h, which is over f, waits on
act_follows : FollowsAct depth the_act waits waits
act_follows = (1 ∷ [], touched-is (with_pending ready waits) (Contains-nil 1, tt) 0, refl)

-- after the act the data of each class absorbs what it was before, and what does not wait absorbs what it makes
act_goes_down : DataGoesDown depth narrowed waits acted waits × GoesDown depth waits waits × HasData depth acted waits
act_goes_down =
    let x = acted-followed depth depth_merge the_act narrowed_sane waits waits narrowed_has act_follows in
    (x.0.classes, x.0.down, x.0.has)

-- two classes, of one and two slots, with the heights 4 and 5, and then no slot of f
sizes : (size_with_data depth narrowed waits ≡ 14) × (size_with_data depth acted waits ≡ 13)
sizes = (refl, refl)

-- the act is the first step of the run that the assertion needs
acted_sane : Sane acted
acted_sane = (unites 2 act_unites narrowed_sane (omega arith)).sane

act_runs : RunsWithData depth narrowed waits 0 acted waits
act_runs = takes_act starts the_act act_follows

-- h lacks its two slots then: that h 7 8 equals h 9 10 is entered by congruence, and h drops them in its turn
abbrev h_id : ℕ → ℕ → Applied
h_id x y = (1, (2, x) ∷ (3, y) ∷ [])

h_full : (x y : ℕ) → x ≢ y → IsFull with_h.nodes (h_id x y)
h_full x y n = record {
  in_range = omega arith;
  slots = refl;
  injective = (
    λ k. elim k [
      | inl e ↦ n e
      | inr j ↦ j
    ],
    (λ j. j, tt),
  );
}

abbrev h_entry : ProofEntry
h_entry = record { equation = equation_of (h_id 7 8) (h_id 9 10); step = congruent (5 ∷ []) }

abbrev with_h_entry : State
with_h_entry = with_proofs acted (acted.proofs ++ h_entry ∷ [])

h_entry_new : (n : ℕ) → n < 6 → equation_at acted.proofs n ≢ h_entry.equation
h_entry_new zero l e = let n : ◌≡◌ {A = ℕ} 0 1 = ap (λ (x : Equation). x.left) e in omega arith
h_entry_new (suc zero) l e = let n : ◌≡◌ {A = ℕ} 2 0 = ap (λ (x : Equation). length x.pairs) e in omega arith
h_entry_new (suc (suc zero)) l e = let n : ◌≡◌ {A = ℕ} 0 1 = ap (λ (x : Equation). x.left) e in omega arith
h_entry_new (suc (suc (suc zero))) l e = let n : ◌≡◌ {A = ℕ} 0 1 = ap (λ (x : Equation). x.left) e in omega arith
h_entry_new (suc (suc (suc (suc zero)))) l e = let n : ◌≡◌ {A = ℕ} 0 1 = ap (λ (x : Equation). x.left) e in omega arith
h_entry_new (suc (suc (suc (suc (suc zero))))) l e = let n : ◌≡◌ {A = ℕ} 0 1 = ap (λ (x : Equation). x.left) e in omega arith
h_entry_new (suc (suc (suc (suc (suc (suc n)))))) l e = omega arith

h_enters : CanEnter acted.nodes acted.proofs h_entry
h_enters = record {
  over = (can_assert acted (h_id 7 8) (h_id 9 10) (h_full 7 8 (λ e. omega arith)) (h_full 9 10 (λ e. omega arith)) h_entry_new).over;
  proved = (
    λ n k. subst (λ x. x < 6) (sym (one_of k)) (omega arith),
    record {
      left = h_id 7 8;
      right = h_id 9 10;
      left_full = h_full 7 8 (λ e. omega arith);
      right_full = h_full 9 10 (λ e. omega arith);
      equation = refl;
      operators = refl;
      payloads = refl;
      children =
          one_child f_7_8 (0, (0, 9) ∷ (1, 10) ∷ []) (f_full 7 8 (λ e. omega arith)) (f_full 9 10 (λ e. omega arith)) no_more;
    },
  );
  is_new = h_entry_new;
}

h_entry_grow : ProofsGrow acted.nodes acted.proofs with_h_entry.proofs
h_entry_grow = record {
  more = h_entry ∷ [];
  is = refl;
  proved = entered-proved acted.nodes acted.proofs h_entry acted_sane.sound.proved h_enters;
  asserts_nothing = refl;
}

h_congruence : IsCongruence with_h_entry 6 1 1
h_congruence = record {
  left = h_id 7 8;
  right = h_id 9 10;
  left_class = refl;
  right_class = refl;
  left_full = h_full 7 8 (λ e. omega arith);
  twins = record {
    full = h_full 9 10 (λ e. omega arith);
    same = refl;
    left_names = λ s. (λ c. c, λ c. c);
    right_names = λ s. (λ c. c, λ c. c);
  };
  stands = (omega arith, refl);
}

abbrev h_dropped : State
h_dropped = dropped_state with_h_entry 1 [] 6 (touching with_h_entry 1)

abbrev h_unites : Unites 6 with_h_entry h_dropped
h_unites =
    drops_left 6 2 (touching with_h_entry 1) (contains_head 2 (3 ∷ [])) (Contains-nil 2) (omega arith, refl)
    (touched-is with_h_entry (Contains-nil 1, tt) 1) (finds_alike refl refl)

abbrev h_narrows : Turn acted h_dropped
h_narrows =
    enters with_h_entry.proofs h_entry_grow
    (narrows 1 6 2 (contains_head 1 []) (contains_head 2 (3 ∷ [])) (Contains-nil 2) h_congruence h_unites)

h_follows : Follows depth h_narrows waits waits
h_follows = (1 ∷ [], touched-is (with_pending with_h_entry waits) (Contains-nil 1, tt) 1, refl)

-- in its second turn its node is filed anew, and makes what its class has
abbrev final : State
final = refiled_state h_dropped 1

no_other : (r : Row) → Contains h_dropped.rows r → r.source ≢ 1 → r.shape ≢ shape (normal_node h_dropped 1)
no_other r c n e = elim (contains_cases _ (_ ∷ []) r c) [
  | inl f ↦ n (ap (λ (x : Row). x.source) f)
  | inr d ↦ elim (contains_cases _ [] r d) [
    | inl f ↦ let m : ◌≡◌ {A = ℕ} 3 5 = ap (λ (x : Row). x.shape.op) (sym f) ∙ ap (λ (t : DTerm). t.op) e in omega arith
    | inr k ↦ Contains-nil r k
  ]
]

two_turns : RunsWithData depth narrowed waits 2 final start
two_turns =
    with.takes_turn (with.takes_turn act_runs h_narrows h_follows)
    (refiles 1 (contains_head 1 []) (λ s c. absurd (Contains-nil s c)) no_other) (absorbed refl)

redundant_asserted : AssertsWithData depth symmetric start f_7_8 f_7_9 final start
redundant_asserted =
    is_new not_redundant_too narrows_f narrowed_carries two_turns
    ((refl, λ y c. subst (IsAligned final) (sym (one_of c)) refl), refl)

-- at rest, where neither class has a slot left, and the data of f absorbs what it was
final_rests : RestsWithData depth final start × Absorbs depth (start.data_of (find_class final.found 0)) 4
final_rests =
    let full = f_full 7 8 (λ e. omega arith) in
    let other = f_full 7 9 (λ e. omega arith) in
    let x = (asserting depth depth_merge symmetric start symmetric_rests f_7_8 f_7_9 full other).1 final start redundant_asserted in
    (x.1, x.5)

final_size : (used_slots final.found 1 ≡ []) × (size_with_data depth final start ≡ 11)
final_size = (refl, refl)

-- where f has dropped its second slot the graph represents what was added and asserted, so the run of these turns ends at rest
abbrev redundant_entry : ProofEntry
redundant_entry = record { equation = redundant; step = explicit }

redundant_enters : CanEnter symmetric.nodes symmetric.proofs redundant_entry
redundant_enters =
    can_assert symmetric f_7_8 f_7_9 (f_full 7 8 (λ e. omega arith)) (f_full 7 9 (λ e. omega arith)) not_redundant_too

more_sane : Sane (with_assertion symmetric redundant)
more_sane = entry-sane symmetric symmetric_rests.rest.sane redundant_entry redundant_enters

narrowed_represents : Represents narrowed
narrowed_represents =
    let but = entry-represents symmetric symmetric_rests.rest.sane redundant_entry redundant_enters symmetric_rests.rest.represents in
    united-represents 3 (with_assertion symmetric redundant) narrowed more_sane but (unites 3 narrows_f more_sane (omega arith))

ends_at_rest : RestsWithData depth final start
ends_at_rest =
    ended-with depth depth_merge narrowed narrowed_sane narrowed_has narrowed_represents two_turns
    ((refl, λ y c. subst (IsAligned final) (sym (one_of c)) refl), refl)

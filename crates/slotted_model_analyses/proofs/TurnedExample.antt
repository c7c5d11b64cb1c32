-- A round that turns the look-up of a part: h p 0 1 equals h q 1 0, and m (h p 0 1) 0 is added; the analysis asks that p equals q. The rows of h p and h q
-- collide, by which a symmetry is listed, and the row that is left gives the names of h p 0 1 in the other order: m (h p 0 1) 0 is not looked up then.
use Rattle.std.proofs.Common.{◌≡◌, ◌≢◌, ℕ, zero, suc, ◌<◌, List, [], ◌∷◌, ◌++◌, Some, None, length, get_or, refl, sym, ◌∙◌, ap, subst, inl, inr, arith}
use Rattle.std.specs.Prelude.{Contains, min}
use Rattle.std.proofs.lemmas.Bool.{cases_eq, cases_lt}
use Rattle.slotted_lists.proofs.Contained.{contains_head, contains_cases, Contains-nil}
use Rattle.slotted_theory.specs.Nameless.{DTerm, stop, place}
use Rattle.slotted_theory.specs.Shape.{shape}
use Rattle.slotted_theory.proofs.Values.{node, child_before}
use Rattle.slotted_model.specs.Applied.{Applied, as_term}
use Rattle.slotted_model.specs.Classes.{canonical_node, canonical_slots, IsFull}
use Rattle.slotted_model.specs.Correspondence.{identity}
use Rattle.slotted_model.specs.Find.{IsLive, used_slots}
use Rattle.slotted_model.specs.Growth.{IsNew}
use Rattle.slotted_model.specs.Link.{IsLater, CanEnter, found_equation}
use Rattle.slotted_model.specs.ProofList.{Equation, ProofEntry, explicit, congruent, equation_of, equation_at, no_more, one_name, one_child}
use Rattle.slotted_model.specs.State.{Row, State, normal_node, child_classes, look_up_node, look_up_tree}
use Rattle.slotted_model.specs.Rest.{IsAligned, Sane, AtRest, IsValidIn, FoundTogether}
use Rattle.slotted_model.specs.Changes.{ProofsGrow, with_proofs, symmetry_of, with_symmetry, found_entry, PairsAll, Unites, proves, left_dies, lists, linked_state}
use Rattle.slotted_model.specs.Rebuild.{removed_state, IsCongruence, Turn, enters, unites_parents, refiles, takes_turn, starts}
use Rattle.slotted_model.specs.Adding.{with_new_class, with_assertion, Adds, files_row, Asserts, is_new}
use Rattle.slotted_model.proofs.Rebuilding.Adding.{adds}
use Rattle.slotted_model.proofs.Rebuilding.Asserting.{entry-sane, can_assert, asserts}
use Rattle.slotted_model.proofs.Examples.CompletenessExamples.{one_of}
use Rattle.slotted_model.proofs.Examples.CongruenceExample.{stands_nowhere, is_later}
use Rattle.slotted_model.proofs.Finds.Entering.{entered-proved}
use Rattle.slotted_model.proofs.Rebuilding.GrowingLists.{proofs-go_on, proofs-sane}
use Rattle.slotted_model.proofs.Finds.NormalIds.{full-is_valid}
use Rattle.slotted_model.proofs.Rebuilding.Preparing.{Prepared, prepare}
use Rattle.slotted_model.proofs.Examples.RestExamples.{made, p, q, with_q, q_rests}
use Rattle.slotted_model.proofs.Rebuilding.Touching.{touching, touched-is}
use Rattle.slotted_model.proofs.Rebuilding.Unions.{unites}
use Rattle.slotted_model.proofs.Examples.TurnExamples.{both_slots as turned_slots}
use Rattle.slotted_model_analyses.specs.Analysis.{Analysis, IsMerge}
use Rattle.slotted_model_analyses.specs.DataPart.{DataPart, with_data, with_pending, taken, absorbed, Carries, RunsWithData, RestsWithData}
use Rattle.slotted_model_analyses.specs.DataPart as with
use Rattle.slotted_model_analyses.specs.DataWrites.{AddsWithData, AssertsWithData}
use Rattle.slotted_model_analyses.specs.DataWrites as write
use Rattle.slotted_model_analyses.specs.Carried.{CarriesTo}
use Rattle.slotted_model_analyses.specs.Rounds.{Modify, equates, one_more, MakesEdit, makes_equate, all_made, then_edit, all_modified, modified, TakesRound, no_rounds, one_round, Rounds, AddsExpr, turned_away}
use Rattle.slotted_model_analyses.specs.Rounds as rounds
use Rattle.slotted_model_analyses.proofs.Merging.{noted-is}
use Rattle.slotted_model_analyses.proofs.CarriedSteps.{carried-same, adding-carried, asserting-carried, nodes-carried}
use Rattle.slotted_model_analyses.proofs.AddedTrees.{tree-added}
use Rattle.slotted_model_analyses.proofs.AddingByLookUps.{tree-looked_up}
use Rattle.slotted_model_analyses.proofs.LookUpsGoOn.{look_up-goes_on}
use Rattle.slotted_model_analyses.proofs.RoundsAtRest.{rounds-on, cleared}
use Rattle.slotted_model_analyses.proofs.Writing.{adding}

-- h over a word, and two names
abbrev h_of : ℕ → DTerm
h_of c = node 3 [] (child_before (as_term (c, [])) (place 0 (place 1 stop)))

-- the operator of a node and the class of its first child
abbrev sign : DTerm → ℕ × ℕ
sign d = (d.op, get_or (child_classes d.args) 0 7)

abbrev with_hp : State
with_hp = made with_q (h_of 0)

hp_new : IsNew with_q.nodes (h_of 0)
hp_new = record { operator = omega arith; children = (((0, []), refl, record { in_range = omega arith; slots = refl; injective = tt }), tt); shape_is_new = other }
  where
    other : (i : ℕ) → i < 2 → ¬ (shape (canonical_node with_q.nodes i) ≡ shape (h_of 0))
    other zero l e = let n : ◌≡◌ {A = ℕ} 1 3 = ap (λ (t : DTerm). t.op) e in omega arith
    other (suc zero) l e = let n : ◌≡◌ {A = ℕ} 2 3 = ap (λ (t : DTerm). t.op) e in omega arith
    other (suc (suc i)) l e = omega arith

-- no word has another shape than its own
not_word : (s : DTerm) → 2 < s.op → (r : Row) → Contains with_q.rows r → r.shape ≡ s → ⊥
not_word s l r c e = elim (contains_cases _ (_ ∷ []) r c) [
  | inl f ↦ let n : 2 ≡ s.op = ap (λ (x : Row). x.shape.op) (sym f) ∙ ap (λ (t : DTerm). t.op) e in omega arith
  | inr d ↦ elim (contains_cases _ [] r d) [
    | inl f ↦ let n : 1 ≡ s.op = ap (λ (x : Row). x.shape.op) (sym f) ∙ ap (λ (t : DTerm). t.op) e in omega arith
    | inr k ↦ Contains-nil r k
  ]
]

hp_adds : Adds with_q (h_of 0) with_hp
hp_adds =
    files_row (not_word (h_of 0) (omega arith))
    (takes_turn starts (refiles 2 (contains_head 2 []) (λ s c. c) (λ r c n e. elim (contains_cases _ with_q.rows r c) [
      | inl f ↦ n (ap (λ (x : Row). x.source) f)
      | inr k ↦ not_word (h_of 0) (omega arith) r k e
    ])))
    (refl, λ y c. absurd (Contains-nil y c))

hp_rests : AtRest with_hp
hp_rests = (adds with_q q_rests (h_of 0) hp_new with_hp hp_adds).rest

abbrev with_hq : State
with_hq = made with_hp (h_of 1)

hq_new : IsNew with_hp.nodes (h_of 1)
hq_new = record { operator = omega arith; children = (((1, []), refl, record { in_range = omega arith; slots = refl; injective = tt }), tt); shape_is_new = other }
  where
    other : (i : ℕ) → i < 3 → ¬ (shape (canonical_node with_hp.nodes i) ≡ shape (h_of 1))
    other zero l e = let n : ◌≡◌ {A = ℕ} 1 3 = ap (λ (t : DTerm). t.op) e in omega arith
    other (suc zero) l e = let n : ◌≡◌ {A = ℕ} 2 3 = ap (λ (t : DTerm). t.op) e in omega arith
    other (suc (suc zero)) l e = let n : ◌≡◌ {A = ℕ} 0 1 = ap (λ (t : DTerm). (sign t).1) e in omega arith
    other (suc (suc (suc i))) l e = omega arith

not_hq : (r : Row) → Contains with_hp.rows r → r.shape ≡ h_of 1 → ⊥
not_hq r c e = elim (contains_cases _ with_q.rows r c) [
  | inl f ↦ let n : ◌≡◌ {A = ℕ} 0 1 = ap (λ (x : Row). (sign x.shape).1) (sym f) ∙ ap (λ (t : DTerm). (sign t).1) e in omega arith
  | inr d ↦ not_word (h_of 1) (omega arith) r d e
]

hq_adds : Adds with_hp (h_of 1) with_hq
hq_adds =
    files_row not_hq
    (takes_turn starts (refiles 3 (contains_head 3 []) (λ s c. c) (λ r c n e. elim (contains_cases _ with_hp.rows r c) [
      | inl f ↦ n (ap (λ (x : Row). x.source) f)
      | inr k ↦ not_hq r k e
    ])))
    (refl, λ y c. absurd (Contains-nil y c))

hq_rests : AtRest with_hq
hq_rests = (adds with_hp hp_rests (h_of 1) hq_new with_hq hq_adds).rest

-- h p 0 1 is asserted to equal h q 1 0: the class of h p dies
abbrev in_order : ℕ → Applied
in_order c = (c, (0, 0) ∷ (1, 1) ∷ [])

abbrev exchanged : ℕ → Applied
exchanged c = (c, (0, 1) ∷ (1, 0) ∷ [])

abbrev crossed : Equation
crossed = equation_of (in_order 2) (exchanged 3)

abbrev asserted : State
asserted = with_assertion with_hq crossed

abbrev joined : State
joined = linked_state asserted crossed 4 0 (touching asserted 2)

joined_by : Unites 4 asserted joined
joined_by =
    left_dies 4 0 (touching asserted 2) (λ e. omega arith) (record { left = λ s c. c; right = turned_slots }) (omega arith, refl) none_died (touched-is asserted tt 2)
  where
    none_died : IsLater with_hq.found 0
    none_died zero l d = absurd (d refl)
    none_died (suc zero) l d = absurd (d refl)
    none_died (suc (suc zero)) l d = absurd (d refl)
    none_died (suc (suc (suc zero))) l d = absurd (d refl)
    none_died (suc (suc (suc (suc i)))) l d = absurd (omega arith)

two_full : (g : State) (c x y : ℕ) → c < length g.nodes → 0 ∷ 1 ∷ [] ≡ canonical_slots g.nodes c → x ≢ y → IsFull g.nodes (c, (0, x) ∷ (1, y) ∷ [])
two_full g c x y l e n = record {
  in_range = l;
  slots = e;
  injective = (
    λ h. elim h [
      | inl k ↦ n k
      | inr k ↦ k
    ],
    (λ k. k, tt),
  );
}

crossed_asserts : Asserts with_hq (in_order 2) (exchanged 3) joined
crossed_asserts = is_new (stands_nowhere crossed with_hq.proofs ((λ e. omega arith), ((λ e. omega arith), ((λ e. omega arith), ((λ e. omega arith), tt))))) joined_by starts (refl, λ y c. absurd (Contains-nil y c))

joined_rests : AtRest joined
joined_rests =
    (asserts with_hq hq_rests (in_order 2) (exchanged 3) (two_full with_hq 2 0 1 (omega arith) refl (λ e. omega arith)) (two_full with_hq 3 1 0 (omega arith) refl (λ e. omega arith)) joined crossed_asserts).rest

-- an analysis of one datum, which asks that p equals q wherever it is asked
abbrev one : Analysis ℕ
one = record { make = λ d xs. 0; merge = min; height = λ x. x }

one_merge : IsMerge ℕ one
one_merge = record {
  decided = cases_eq;
  commutative = λ x y. omega arith;
  associative = λ x y z. omega arith;
  idempotent = λ x. omega arith;
  lowers = λ x y n. below x y n;
}
  where
    below : (x y : ℕ) → min x y ≢ x → min x y < x
    below x y n = elim (cases_lt y x) [
      | inl l ↦ omega arith
      | inr l ↦ absurd (n (omega arith))
    ]

abbrev asks : Modify ℕ
asks x slots e = e ≡ equates p q

abbrev no_data : DataPart ℕ
no_data = record { data_of = λ i. 0; pending = []; changed = [] }

joined_has : RestsWithData one joined no_data
joined_has = record {
  rest = joined_rests;
  has = record {
    waits_once = tt;
    waits_whole = λ o c. c;
    waits_for_row = λ o c. absurd (Contains-nil o c);
    absorbs_made = λ r c n. refl;
    changed_once = tt;
    changed_in_range = λ i c. absurd (Contains-nil i c);
  };
  nothing_waits = refl;
}

-- m (h p 0 1) 0 is added: h p 0 1 is looked up as the class of h q, with the names exchanged
abbrev h_tree : DTerm
h_tree = node 3 [] (child_before p (place 0 (place 1 stop)))

abbrev m_tree : DTerm
m_tree = node 4 [] (child_before h_tree (place 0 stop))

h_looked_up : look_up_tree joined h_tree ≡ Some (exchanged 3)
h_looked_up = refl

abbrev m_node : DTerm
m_node = node 4 [] (child_before (as_term (exchanged 3)) (place 0 stop))

abbrev with_m : State
with_m = made joined m_node

abbrev m_data : DataPart ℕ
m_data = record { data_of = with_data (λ i. 0) 4 0; pending = []; changed = 4 ∷ [] }

m_new : IsNew joined.nodes m_node
m_new = record { operator = omega arith; children = ((exchanged 3, refl, two_full joined 3 1 0 (omega arith) refl (λ e. omega arith)), tt); shape_is_new = other }
  where
    other : (i : ℕ) → i < 4 → ¬ (shape (canonical_node joined.nodes i) ≡ shape m_node)
    other zero l e = let n : ◌≡◌ {A = ℕ} 1 4 = ap (λ (t : DTerm). t.op) e in omega arith
    other (suc zero) l e = let n : ◌≡◌ {A = ℕ} 2 4 = ap (λ (t : DTerm). t.op) e in omega arith
    other (suc (suc zero)) l e = let n : ◌≡◌ {A = ℕ} 3 4 = ap (λ (t : DTerm). t.op) e in omega arith
    other (suc (suc (suc zero))) l e = let n : ◌≡◌ {A = ℕ} 3 4 = ap (λ (t : DTerm). t.op) e in omega arith
    other (suc (suc (suc (suc i)))) l e = omega arith

not_m : (s : DTerm) → s.op ≡ 4 → (r : Row) → Contains joined.rows r → r.shape ≡ s → ⊥
not_m s l r c e = elim (contains_cases _ with_hp.rows r c) [
  | inl f ↦ let n : 3 ≡ s.op = ap (λ (x : Row). x.shape.op) (sym f) ∙ ap (λ (t : DTerm). t.op) e in omega arith
  | inr d ↦ elim (contains_cases _ with_q.rows r d) [
    | inl f ↦ let n : 3 ≡ s.op = ap (λ (x : Row). x.shape.op) (sym f) ∙ ap (λ (t : DTerm). t.op) e in omega arith
    | inr k ↦ not_word s (omega arith) r k e
  ]
]

m_adds : AddsWithData one joined no_data m_node with_m m_data
m_adds =
    write.files_row (4 ∷ []) (noted-is 4 [] tt) (λ r c e. not_m (shape (normal_node (with_new_class joined m_node) 4)) refl r c e)
    (with.takes_turn with.starts (refiles 4 (contains_head 4 []) (λ s c. c) (λ r c n e. elim (contains_cases _ joined.rows r c) [
      | inl f ↦ n (ap (λ (x : Row). x.source) f)
      | inr k ↦ not_m (shape (normal_node (with_new_class joined m_node) 4)) refl r k e
    ])) (absorbed refl))
    ((refl, λ y c. absurd (Contains-nil y c)), refl)

m_rests : RestsWithData one with_m m_data
m_rests = ((adding one one_merge joined no_data joined_has m_node m_new).1 with_m m_data m_adds).1

m_looked_up : look_up_tree with_m m_tree ≡ Some (4, (0, 0) ∷ (1, 1) ∷ [])
m_looked_up = refl

-- the round: p is asserted to equal q, for the data of the class of m
abbrev before_round : DataPart ℕ
before_round = record m_data { changed = [] }

before_rests : RestsWithData one with_m before_round
before_rests = cleared one one_merge asks with_m m_data m_rests

abbrev words : Equation
words = equation_of (0, []) (1, [])

abbrev more : State
more = with_assertion with_m words

abbrev words_united : State
words_united = linked_state more words 6 1 (touching more 0)

hp_waits : words_united.waiting ≡ 2 ∷ []
hp_waits = refl

abbrev words_unite : Unites 6 more words_united
words_unite =
    left_dies 6 1 (touching more 0) (λ e. omega arith) (record { left = λ s c. c; right = λ s c. c }) (omega arith, refl)
    (λ i l d. is_later 1 with_m.found (omega arith, (omega arith, (omega arith, (omega arith, (omega arith, tt))))) i l) (touched-is more tt 0)

abbrev after_words : DataPart ℕ
after_words = record before_round { pending = 2 ∷ [] }

words_carried : Carries one words_unite before_round after_words
words_carried = (touching (with_pending more before_round) 0, touched-is (with_pending more before_round) tt 0, absorbed refl)

-- h p has the normal form of h q, which is filed
h_same : normal_node words_united 2 ≡ h_of 1
h_same = refl

in_order_full : (c : ℕ) → c < 5 → 0 ∷ 1 ∷ [] ≡ canonical_slots with_m.nodes c → IsFull with_m.nodes (in_order c)
in_order_full c l e = two_full with_m c 0 1 l e (λ x. omega arith)

words_full : IsFull with_m.nodes (0, []) × IsFull with_m.nodes (1, [])
words_full = (record { in_range = omega arith; slots = refl; injective = tt }, record { in_range = omega arith; slots = refl; injective = tt })

words_new : (n : ℕ) → n < length with_m.proofs → equation_at with_m.proofs n ≢ words
words_new = stands_nowhere words with_m.proofs ((λ e. omega arith), ((λ e. omega arith), ((λ e. omega arith), ((λ e. omega arith), ((λ e. omega arith), ((λ e. omega arith), tt))))))

more_sane : Sane more
more_sane = entry-sane with_m m_rests.rest.sane (record { equation = words; step = explicit }) (can_assert with_m (0, []) (1, []) words_full.0 words_full.1 words_new)

united_sane : Sane words_united
united_sane = (unites 6 words_unite more_sane (omega arith)).sane

-- the congruence, by the entry of the assertion
abbrev congruence_entry : ProofEntry
congruence_entry = record { equation = equation_of (in_order 2) (in_order 3); step = congruent (6 ∷ []) }

abbrev entered : State
entered = with_proofs words_united (words_united.proofs ++ congruence_entry ∷ [])

-- the first partner of an equation tells it from that of the assertion
congruence_new : (n : ℕ) → n < 7 → equation_at words_united.proofs n ≢ congruence_entry.equation
congruence_new zero l e = let n : ◌≡◌ {A = ℕ} 0 2 = ap (λ (x : Equation). x.left) e in omega arith
congruence_new (suc zero) l e = let n : ◌≡◌ {A = ℕ} 1 2 = ap (λ (x : Equation). x.left) e in omega arith
congruence_new (suc (suc zero)) l e = let n : ◌≡◌ {A = ℕ} 2 3 = ap (λ (x : Equation). x.right) e in omega arith
congruence_new (suc (suc (suc zero))) l e = let n : ◌≡◌ {A = ℕ} 3 2 = ap (λ (x : Equation). x.left) e in omega arith
congruence_new (suc (suc (suc (suc zero)))) l e = let n : ◌≡◌ {A = ℕ} 1 0 = ap (λ (x : Equation). (get_or x.pairs 0 (0, 7)).1) e in omega arith
congruence_new (suc (suc (suc (suc (suc zero))))) l e = let n : ◌≡◌ {A = ℕ} 4 2 = ap (λ (x : Equation). x.left) e in omega arith
congruence_new (suc (suc (suc (suc (suc (suc zero)))))) l e = let n : ◌≡◌ {A = ℕ} 0 2 = ap (λ (x : Equation). x.left) e in omega arith
congruence_new (suc (suc (suc (suc (suc (suc (suc n))))))) l e = omega arith

can_enter : CanEnter with_m.nodes words_united.proofs congruence_entry
can_enter =
    let f2 = in_order_full 2 (omega arith) refl in
    let f3 = in_order_full 3 (omega arith) refl in
    let c = can_assert words_united (in_order 2) (in_order 3) f2 f3 congruence_new in
    record {
      over = c.over;
      proved = (
        λ n k. subst (λ x. x < 7) (sym (one_of k)) (omega arith),
        record {
          left = in_order 2;
          right = in_order 3;
          left_full = f2;
          right_full = f3;
          equation = refl;
          operators = refl;
          payloads = refl;
          children = one_child (0, []) (1, []) words_full.0 words_full.1 (one_name (one_name no_more));
        },
      );
      is_new = c.is_new;
    }

entered_grow : ProofsGrow with_m.nodes words_united.proofs entered.proofs
entered_grow = record { more = congruence_entry ∷ []; is = refl; proved = entered-proved with_m.nodes words_united.proofs congruence_entry united_sane.sound.proved can_enter; asserts_nothing = refl }

entered_sane : Sane entered
entered_sane = proofs-sane words_united united_sane entered.proofs entered_grow

are_congruent : IsCongruence entered 7 2 3
are_congruent = record {
  left = in_order 2;
  right = in_order 3;
  left_class = refl;
  right_class = refl;
  left_full = in_order_full 2 (omega arith) refl;
  twins = record { full = in_order_full 3 (omega arith) refl; same = refl; left_names = λ s. (λ c. c, λ c. c); right_names = λ s. (λ c. c, λ c. c) };
  stands = (omega arith, refl);
}

-- of the class that both find it says that it equals itself with its names exchanged
says_exchanged : found_entry entered 7 ≡ record { left = 3; right = 3; pairs = (0, 1) ∷ (1, 0) ∷ [] }
says_exchanged = refl

abbrev prepared : Prepared entered.nodes entered.proofs (found_entry entered 7)
prepared = prepare entered entered_sane 7 (omega arith)

abbrev ready : State
ready = with_proofs entered prepared.longer

ready_same : found_entry entered 7 ≡ found_entry ready 7
ready_same = ap (found_equation entered.nodes entered.found) (sym ((proofs-go_on entered entered_sane prepared.longer prepared.grow).proofs 7 (omega arith)).1)

all_paired : PairsAll ready (found_entry entered 7)
all_paired = record { left = λ s c. c; right = turned_slots }

not_identity : (found_entry entered 7).pairs ≢ identity (used_slots ready.found (found_entry entered 7).left)
not_identity e = let n : ◌≡◌ {A = ℕ} 1 0 = ap (λ (m : List (ℕ × ℕ)). (get_or m 0 (0, 0)).1) e in omega arith

abbrev listed_state : State
listed_state = with_symmetry ready (symmetry_of ready (found_entry ready 7) prepared.forth.0)

abbrev h_unite : Unites 7 entered listed_state
h_unite =
    proves prepared.longer prepared.grow
    (lists prepared.forth.0 (subst (λ (e : Equation). e.left ≡ e.right) ready_same refl) (subst (PairsAll ready) ready_same all_paired)
    (subst (λ (e : Equation). e.pairs ≢ identity (used_slots ready.found e.left)) ready_same not_identity)
    (λ y c. absurd (Contains-nil y c)) (prepared.forth.1, prepared.forth.2 ∙ ready_same))

abbrev hq_row : Row
hq_row = record { shape = h_of 1; source = 3; slots = (0, 0) ∷ (1, 1) ∷ [] }

-- the row of h p goes
abbrev turned : State
turned = removed_state listed_state 2

abbrev h_turn : Turn words_united turned
h_turn = enters entered.proofs entered_grow (unites_parents 2 7 hq_row (contains_head 2 []) (1, omega arith, refl) (λ e. omega arith) refl are_congruent h_unite)

abbrev at_end : DataPart ℕ
at_end = taken after_words 2

one_turn : RunsWithData one words_united after_words 1 turned at_end
one_turn = with.takes_turn with.starts h_turn (after_words, refl, refl)

is_aligned : IsAligned turned (symmetry_of ready (found_entry ready 7) prepared.forth.0)
is_aligned = subst (λ e. IsAligned turned (symmetry_of ready e prepared.forth.0)) ready_same refl

words_asserted : AssertsWithData one with_m before_round (0, []) (1, []) turned at_end
words_asserted = write.is_new words_new words_unite words_carried one_turn ((refl, λ y c. subst (IsAligned turned) (sym (one_of c)) is_aligned), refl)

-- the tree is not looked up any more, and h p 0 1 gives its names in the other order
not_looked_up : look_up_tree turned m_tree ≡ None
not_looked_up = refl

h_turned : look_up_tree turned h_tree ≡ Some (in_order 3)
h_turned = refl

words_made : MakesEdit one with_m before_round 4 (0 ∷ 1 ∷ []) (equates p q) turned at_end
words_made =
    let c = asserting-carried one one_merge with_m before_round before_rests turned at_end (0, []) (1, []) words_full.0 words_full.1 words_asserted in
    let same : CarriesTo one with_m before_round with_m before_round = carried-same one one_merge with_m before_round before_rests in
    makes_equate p q (record { nodes = rounds.no_more; carries = same; full = words_full.0; term = refl })
    (record { nodes = rounds.no_more; carries = same; full = words_full.1; term = refl }) c.0 c.1

the_round : TakesRound one asks with_m m_data turned at_end
the_round = record {
  order = 4 ∷ [];
  ascending = (tt, tt);
  waiting = λ c. (λ k. (k, subst (IsLive with_m.found) (sym (one_of k)) refl), λ k. k.0);
  modifies = modified (omega arith) refl (λ e c. one_of c) (then_edit words_made all_made) all_modified;
}

the_rounds : Rounds one asks 16 with_m m_data turned at_end
the_rounds = record { taken = 1; within = omega arith; rounds = one_round no_rounds 4 (contains_head 4 []) refl the_round; ends = inr (λ c k. absurd (Contains-nil c k)) }

turned_rests : RestsWithData one turned at_end
turned_rests = (rounds-on one one_merge asks m_rests the_rounds.rounds).rest

-- but the node over ids of which the class was made is looked up still, as this class
m_node_stays : (look_up_node turned m_node ≡ Some (4, (0, 0) ∷ (1, 1) ∷ [])) × ((y : Applied) × (look_up_node turned m_node ≡ Some y) × IsValidIn turned y × FoundTogether turned (4, (0, 0) ∷ (1, 1) ∷ []) y)
m_node_stays =
    let on = (rounds-on one one_merge asks m_rests the_rounds.rounds).goes_on in
    let valid : IsValidIn with_m (exchanged 3) = full-is_valid with_m.nodes with_m.found m_rests.rest.sane.sound.linked (exchanged 3) (two_full with_m 3 1 0 (omega arith) refl (λ e. omega arith)) in
    (refl, look_up-goes_on with_m m_rests.rest turned turned_rests.rest on m_node ((exchanged 3, refl, valid), tt) (4, (0, 0) ∷ (1, 1) ∷ []) refl)

-- so it is added once more, and what is answered is looked up
answered : (h : State) × (t : DataPart ℕ) × (x : Applied) × AddsExpr one asks 16 joined no_data m_tree h t x
answered =
    let z = tree-looked_up one one_merge turned at_end turned_rests m_tree (record { operator = omega arith; children = (omega arith, (omega arith, tt, tt), tt) }) in
    let m = adding-carried one one_merge joined no_data joined_has with_m m_data m_node m_new m_adds in
    let w = nodes-carried one one_merge turned_rests z.3 in
    (z.0, z.1, z.2, turned_away (one_more m_node rounds.no_more m_new m.0) m.1 m_looked_up the_rounds not_looked_up w.nodes w.carries z.4)

looked_up_again : look_up_tree answered.0 m_tree ≡ Some answered.2
looked_up_again = (tree-added one one_merge asks 16 joined no_data joined_has m_tree answered.0 answered.1 answered.2 answered.3).3

-- The laws of congruences by finds and of changes that do not end at rest applied to small graphs, and the kinds of step that no other example takes.
use Rattle.std.proofs.Common.{◌≡◌, ◌≢◌, ℕ, zero, suc, ◌<◌, [], ◌∷◌, ◌⊎◌, inl, inr, length, get_or, refl, ap, arith}
use Rattle.std.specs.Prelude.{Contains, IsTrue}
use Rattle.slotted_lists.proofs.Contained.{contains_head, contains_tail, Contains-nil}
use Rattle.slotted_theory.specs.Nameless.{stop, place}
use Rattle.slotted_theory.proofs.Values.{node, child_before}
use Rattle.slotted_model.specs.Correspondence.{AllDifferent}
use Rattle.slotted_model.specs.Applied.{Applied, as_term}
use Rattle.slotted_model.specs.Classes.{IsFull}
use Rattle.slotted_model.specs.Link.{CanEnter, CanLink, Refines}
use Rattle.slotted_model.specs.Normal.{IsCongruentByFinds}
use Rattle.slotted_model.specs.Explained.{Explained}
use Rattle.slotted_model.specs.ProofList.{Equation, equation_of, ProofEntry, explicit, equation_at, step_at, HoldsFrom, asserted}
use Rattle.slotted_model.specs.State.{Row, State}
use Rattle.slotted_model.specs.Rest.{Sane, Represents, AtRest, IsListed, IsOpen, IsAffected, by_symmetry, by_child}
use Rattle.slotted_model.specs.Affected.{is_affected}
use Rattle.slotted_model.specs.Changes.{GoesOn, HasUnited, RepresentsBut, Unites, left_dies, right_dies, drops_right, is_listed, linked_state, dropped_state}
use Rattle.slotted_model.specs.Rebuild.{Runs, starts, takes_act, IsRebuilt}
use Rattle.slotted_model.specs.Adding.{with_assertion}
use Rattle.slotted_model.specs.SoundnessClaims.{SoundnessLaws}
use Rattle.slotted_model.specs.CompletenessClaims.{CompletenessLaws}
use Rattle.slotted_model.specs.RestClaims.{RestLaws}
use Rattle.slotted_model.proofs.Rebuilding.Asserting.{entry-sane, entry-represents, can_assert}
use Rattle.slotted_model.proofs.Examples.CongruenceExample.{id, sides, stands_nowhere, is_later, nothing_paired, twice, twice_rests, id_full, words_united, words_unite, n_entered, n_united, n_unite, n_grow, two_turns, rebuilt, rebuilt_done, one_normal_form}
use Rattle.slotted_model.proofs.Examples.ShortcutExample.{three, three_rests, a_is_b, a_b_rests, b_is_c}
use Rattle.slotted_model.proofs.Examples.TurnExamples.{with_h, exchanged, exchange, exchange_sane, symmetric, not_identity, both_slots, symmetric_sane, narrowed, narrowed_sane, symmetry_acts, f_full, f_dropped, dropped_sane}
use Rattle.slotted_model.proofs.Rebuilding.Touching.{touching, touched-is}
use Rattle.slotted_model.proofs.Examples.CompletenessExamples.{one_of}

-- n (n a) and n (n b) are congruent by finds, so their equation holds and is explained; and a link after a link refines what was found first
module _ (laws : SoundnessLaws) where
  by_finds : IsCongruentByFinds rebuilt.nodes rebuilt.found (sides 4 5)
  by_finds = laws.one_normal_form_is_congruent rebuilt.nodes rebuilt_done.rest.sane.sound.canonical rebuilt.found (id 4) (id 5) (id_full 4 (omega arith)) (id_full 5 (omega arith)) one_normal_form

  congruence_holds : HoldsFrom (asserted rebuilt.nodes rebuilt.proofs) rebuilt.nodes (sides 4 5)
  congruence_holds = laws.congruent_by_finds_holds rebuilt.nodes rebuilt.found rebuilt.proofs rebuilt_done.rest.sane.sound (sides 4 5) by_finds

  congruence_is_explained : Explained rebuilt.nodes rebuilt.proofs (sides 4 5)
  congruence_is_explained = laws.congruent_by_finds_is_explained rebuilt.nodes rebuilt.found rebuilt.proofs rebuilt_done.rest.sane.sound (sides 4 5) by_finds

  can_link_first : CanLink three.nodes three.found (sides 0 1)
  can_link_first = record { over = record { left = omega arith; right = omega arith; pairs = nothing_paired }; left_lives = refl; right_lives = refl; different = λ e. omega arith; from = λ s c. c; onto = λ t c. c }

  can_link_second : CanLink three.nodes a_is_b.found (sides 1 2)
  can_link_second = record { over = record { left = omega arith; right = omega arith; pairs = nothing_paired }; left_lives = refl; right_lives = refl; different = λ e. omega arith; from = λ s c. c; onto = λ t c. c }

  first_refines : Refines three.nodes three.found a_is_b.found
  first_refines = laws.links_refine three.nodes three.found three_rests.sane.sound.linked (sides 0 1) 3 1 can_link_first (λ i l d. is_later 1 three.found (omega arith, (omega arith, (omega arith, tt))) i l)

  second_refines : Refines three.nodes a_is_b.found b_is_c.found
  second_refines = laws.links_refine three.nodes a_is_b.found a_b_rests.sane.sound.linked (sides 1 2) 4 2 can_link_second (λ i l d. is_later 2 a_is_b.found (omega arith, (omega arith, (omega arith, tt))) i l)

  both_refine : Refines three.nodes three.found b_is_c.found
  both_refine = laws.refinements_compose three.nodes three.found a_is_b.found b_is_c.found three_rests.sane.sound.linked first_refines second_refines

-- a is asserted to equal b: before the union by that entry it alone is not respected, and after it the graph is not at rest
abbrev assertion : ProofEntry
assertion = record { equation = sides 0 1; step = explicit }

abbrev words_asserted : State
words_asserted = with_assertion twice (sides 0 1)

words_can_enter : CanEnter twice.nodes twice.proofs assertion
words_can_enter =
    can_assert twice (id 0) (id 1) (id_full 0 (omega arith)) (id_full 1 (omega arith))
    (stands_nowhere (sides 0 1) twice.proofs (omega arith, (omega arith, (omega arith, (omega arith, (omega arith, (omega arith, tt)))))))

words_sane : Sane words_asserted
words_sane = entry-sane twice twice_rests.sane assertion words_can_enter

words_represent_but : RepresentsBut 6 words_asserted
words_represent_but = entry-represents twice twice_rests.sane assertion words_can_enter twice_rests.represents

nothing_more_asserted : (p : ℕ) → p < 8 → step_at n_united.proofs p ≡ explicit → (p < 7) × (step_at words_united.proofs p ≡ explicit)
nothing_more_asserted zero l e = (omega arith, e)
nothing_more_asserted (suc zero) l e = (omega arith, e)
nothing_more_asserted (suc (suc zero)) l e = (omega arith, e)
nothing_more_asserted (suc (suc (suc zero))) l e = (omega arith, e)
nothing_more_asserted (suc (suc (suc (suc zero)))) l e = (omega arith, e)
nothing_more_asserted (suc (suc (suc (suc (suc zero))))) l e = (omega arith, e)
nothing_more_asserted (suc (suc (suc (suc (suc (suc zero)))))) l e = (omega arith, e)
nothing_more_asserted (suc (suc (suc (suc (suc (suc (suc zero))))))) l e = let n : ⊥ = cc in absurd n
nothing_more_asserted (suc (suc (suc (suc (suc (suc (suc (suc p)))))))) l e = absurd (omega arith)

module _ (laws : RestLaws) where
  words_done : HasUnited 6 words_asserted words_united
  words_done = laws.unions_unite_sides 6 words_asserted words_united words_unite words_sane (omega arith)

  union_represents : Represents words_united
  union_represents = laws.unions_represent 6 words_asserted words_united words_sane words_represent_but words_done

  rebuilding_ends : (n : ℕ) × (h : State) × Runs words_united n h × AtRest h
  rebuilding_ends = laws.rebuilding_ends words_united words_done.sane union_represents

  run_ends_at_rest : AtRest rebuilt
  run_ends_at_rest = laws.runs_end_at_rest words_united 2 rebuilt words_done.sane union_represents two_turns (refl, λ y c. absurd (Contains-nil y c))

  -- the union by the congruence of n a and n b leads to one more graph that is not at rest and represents as much
  entered : Sane n_entered × GoesOn words_united n_entered
  entered = laws.new_proofs_keep_sane words_united words_done.sane n_entered.proofs n_grow

  goes_on : GoesOn words_united n_united
  goes_on = laws.going_on_composes.1 words_united n_entered n_united words_done.sane entered.1 (laws.unions_unite_sides 7 n_entered n_united n_unite entered.0 (omega arith)).goes_on

  going_on_represents : Represents n_united
  going_on_represents = laws.going_on_represents words_united n_united words_done.sane goes_on refl (λ o c. c) nothing_more_asserted union_represents

-- f 7 8 is asserted to equal f 8 7: the symmetry that this says can be listed, and affects f, and h over f
abbrev unlisted : State
unlisted = with_assertion with_h exchanged

exchange_open : IsOpen symmetric exchange
exchange_open e = let n : ◌≡◌ {A = ℕ} 0 1 = ap (λ (a : Applied). (get_or a.1 0 (0, 0)).1) e in omega arith

f_affected : IsAffected symmetric 0
f_affected = by_symmetry exchange (contains_head exchange []) exchange_open

abbrev row_h : Row
row_h = record { shape = node 5 [] (child_before (as_term (0, (0, 0) ∷ (1, 1) ∷ [])) stop); source = 1; slots = (0, 2) ∷ (1, 3) ∷ [] }

abbrev row_f : Row
row_f = record { shape = node 3 [] (place 0 (place 1 stop)); source = 0; slots = (0, 0) ∷ (1, 1) ∷ [] }

h_affected : IsAffected symmetric 1
h_affected = by_child row_h (contains_head row_h (row_f ∷ [])) (contains_head 0 []) f_affected

module _ (laws : RestLaws) where
  exchange_can_be_listed : IsListed unlisted exchange
  exchange_can_be_listed = (laws.found_entries_can_be_acted_on unlisted exchange_sane 2 (omega arith)).4 2 refl (record { left = λ s c. c; right = both_slots }) not_identity (omega arith, refl)

  listing_keeps_sane : Sane symmetric × GoesOn unlisted symmetric
  listing_keeps_sane = laws.new_symmetries_keep_sane unlisted exchange_sane exchange exchange_can_be_listed (λ z c. absurd (Contains-nil z c))

  h_is_marked : CompletenessLaws → IsTrue (is_affected symmetric 1)
  h_is_marked complete = (laws.affected_is_least symmetric (is_affected symmetric) (complete.affected_is_decided symmetric).0).0 1 h_affected

-- a second union by the same entry finds the symmetry listed
listed_union : Unites 2 symmetric symmetric
listed_union = is_listed exchange refl (record { left = λ s c. c; right = both_slots }) (contains_head exchange []) (record { class = refl; slots = refl; pairs = refl })

-- an act as the one step of a run
act_runs : Runs narrowed 0 symmetry_acts.0
act_runs = takes_act starts symmetry_acts.1

-- the right class of a union dies, by the equation the other way round
abbrev both_ways : State
both_ways = with_assertion (with_assertion twice (sides 0 1)) (sides 1 0)

right_union : Unites 6 both_ways (linked_state both_ways (sides 1 0) 7 1 (touching both_ways 1))
right_union =
    right_dies 7 1 (touching both_ways 1) (λ e. omega arith) (record { left = λ s c. c; right = λ s c. c }) (omega arith, refl)
    (λ i l d. is_later 1 twice.found (omega arith, (omega arith, (omega arith, (omega arith, (omega arith, (omega arith, tt)))))) i l) (touched-is both_ways tt 1)

right_sane : Sane both_ways
right_sane =
    entry-sane words_asserted words_sane (record { equation = sides 1 0; step = explicit })
    (can_assert words_asserted (id 1) (id 0) (id_full 1 (omega arith)) (id_full 0 (omega arith))
    (stands_nowhere (sides 1 0) words_asserted.proofs (omega arith, (omega arith, (omega arith, (omega arith, (omega arith, (omega arith, (omega arith, tt)))))))))

-- where f has dropped its second slot, and h over f not yet, f 7 9 is asserted to equal h 7 8: the slot of h that has no partner is dropped before the union
abbrev f_7_9 : Applied
f_7_9 = (0, (0, 7) ∷ (1, 9) ∷ [])

abbrev h_7_and : ℕ → Applied
h_7_and x = (1, (2, 7) ∷ (3, x) ∷ [])

abbrev f_is_h : Equation
f_is_h = equation_of f_7_9 (h_7_and 8)

abbrev h_kept : Equation
h_kept = equation_of (h_7_and 8) (h_7_and 9)

abbrev f_h_asserted : State
f_h_asserted = with_assertion f_dropped f_is_h

abbrev right_lacks : State
right_lacks = with_assertion f_h_asserted h_kept

h_full : (x : ℕ) → 7 ≢ x → IsFull with_h.nodes (h_7_and x)
h_full x n = record { in_range = omega arith; slots = refl; injective = (different, (λ k. k, tt)) }
  where
    different : ◌≡◌ {A = ℕ} 7 x ⊎ ⊥ → ⊥
    different (inl e) = n e
    different (inr k) = k

h_not_kept : (p : ℕ) → p < 4 → equation_at f_h_asserted.proofs p ≢ h_kept
h_not_kept zero l e = let k : ◌≡◌ {A = ℕ} 0 1 = ap (λ (x : Equation). x.left) e in omega arith
h_not_kept (suc zero) l e = let k : ◌≡◌ {A = ℕ} 2 1 = ap (λ (x : Equation). length x.pairs) e in omega arith
h_not_kept (suc (suc zero)) l e = let k : ◌≡◌ {A = ℕ} 0 1 = ap (λ (x : Equation). x.left) e in omega arith
h_not_kept (suc (suc (suc zero))) l e = let k : ◌≡◌ {A = ℕ} 0 1 = ap (λ (x : Equation). x.left) e in omega arith
h_not_kept (suc (suc (suc (suc p)))) l e = absurd (omega arith)

right_lacks-sane : Sane right_lacks
right_lacks-sane =
    entry-sane f_h_asserted
    (entry-sane f_dropped dropped_sane (record { equation = f_is_h; step = explicit })
    (can_assert f_dropped f_7_9 (h_7_and 8) (f_full 7 9 (λ e. omega arith)) (h_full 8 (λ e. omega arith)) (stands_nowhere f_is_h f_dropped.proofs (omega arith, (omega arith, (omega arith, tt))))))
    (record { equation = h_kept; step = explicit })
    (can_assert f_h_asserted (h_7_and 8) (h_7_and 9) (h_full 8 (λ e. omega arith)) (h_full 9 (λ e. omega arith)) h_not_kept)

not_two : Contains {X = ℕ} (2 ∷ []) 3 → ⊥
not_two c = let e : ◌≡◌ {A = ℕ} 3 2 = one_of c in omega arith

abbrev right_narrowed : State
right_narrowed = dropped_state right_lacks 1 (2 ∷ []) 4 (touching right_lacks 1)

one_waits : {x : ℕ} → AllDifferent (x ∷ [])
one_waits {x} = (Contains-nil x, tt)

narrowing_union : Unites 3 right_lacks (linked_state right_narrowed f_is_h 3 1 (touching right_narrowed 0))
narrowing_union =
    drops_right 4 3 (touching right_lacks 1) (λ s c. c) (contains_tail 2 (3 ∷ []) 3 (contains_head 3 [])) not_two (omega arith, refl) (touched-is right_lacks one_waits 1)
    (left_dies 3 1 (touching right_narrowed 0) (λ e. omega arith) (record { left = λ s c. c; right = λ s c. c }) (omega arith, refl)
    (λ i l d. is_later 1 right_narrowed.found (omega arith, (omega arith, tt)) i l) (touched-is right_narrowed one_waits 0))

-- all these graphs are sane, so the laws of unions and runs hold of them
module _ (laws : RestLaws) where
  listed_done : HasUnited 2 symmetric symmetric
  listed_done = laws.unions_unite_sides 2 symmetric symmetric listed_union symmetric_sane (omega arith)

  right_done : HasUnited 6 both_ways (linked_state both_ways (sides 1 0) 7 1 (touching both_ways 1))
  right_done = laws.unions_unite_sides 6 both_ways (linked_state both_ways (sides 1 0) 7 1 (touching both_ways 1)) right_union right_sane (omega arith)

  narrowing_done : HasUnited 3 right_lacks (linked_state right_narrowed f_is_h 3 1 (touching right_narrowed 0))
  narrowing_done = laws.unions_unite_sides 3 right_lacks (linked_state right_narrowed f_is_h 3 1 (touching right_narrowed 0)) narrowing_union right_lacks-sane (omega arith)

  act_rebuilds : IsRebuilt narrowed symmetry_acts.0
  act_rebuilds = (laws.runs_are_counted narrowed 0 symmetry_acts.0 narrowed_sane act_runs).0

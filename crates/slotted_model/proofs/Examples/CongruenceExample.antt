-- Congruence two levels up: over two words that are asserted equal, nodes over nodes that nothing asserted are found alike.
use Rattle.std.proofs.Common.{◌≡◌, ◌≢◌, ℕ, zero, suc, ◌+◌, ◌*◌, ◌<◌, List, [], ◌∷◌, ◌++◌, None, false, length, refl, sym, ◌∙◌, ap, subst, inl, inr, arith}
use Rattle.std.specs.Prelude.{◌↔◌, Contains}
use Rattle.std.specs.Map.{keys_of}
use Rattle.std.proofs.lemmas.Bool.{false≢true}
use Rattle.slotted_lists.proofs.Contained.{contains_head, contains_cases, Contains-nil}
use Rattle.slotted_theory.specs.Nameless.{DTerm, stop}
use Rattle.slotted_theory.specs.Term.{Term, done as no_args, child}
use Rattle.slotted_theory.specs.Derives.{Derives, Equal, listed, within, equal_done, equal_child}
use Rattle.slotted_theory.specs.Shape.{shape}
use Rattle.slotted_theory.proofs.Values.{node, child_before}
use Rattle.slotted_model.specs.Applied.{Applied, as_term, EachChild}
use Rattle.slotted_model.specs.Classes.{canonical_slots, term_of, IsFull}
use Rattle.slotted_model.specs.Growth.{IsNew}
use Rattle.slotted_model.specs.Filling.{IsFilling}
use Rattle.slotted_model.specs.Find.{Entry, entry_at, find, find_class}
use Rattle.slotted_model.specs.ProofList.{Equation, ProofEntry, explicit, symmetric, congruent, equation_of, equation_at, one_child, no_more, node_of, Proved, asserted}
use Rattle.slotted_model.specs.Correspondence.{AllDifferent, IsPartialInjection, identity}
use Rattle.slotted_model.specs.State.{Row, Symmetry, State, normal_node, look_up_node}
use Rattle.slotted_model.specs.Rest.{IsValidIn, IsListed, AtRest, IsAffected, size}
use Rattle.slotted_model.specs.Rebuild.{IsCongruence, Turn, enters, unites_parents, Runs, takes_turn, starts, refiles, removed_state, IsCovered, HasNothingLeft}
use Rattle.slotted_model.specs.Adding.{with_new_class, with_new_row, with_assertion, Adds, files_row, Asserts, is_new, stands, HasAsserted, KeepsLookUps, SameAnswers}
use Rattle.slotted_model.specs.Affected.{HasNoOpenSymmetries}
use Rattle.slotted_model.specs.Normal.{normal}
use Rattle.slotted_model.specs.Changes.{ProofsGrow, with_proofs, Unites, finds_alike, left_dies, linked_state}
use Rattle.slotted_model.specs.Link.{CanEnter}
use Rattle.slotted_model.proofs.Finds.NormalIds.{full-is_valid}
use Rattle.slotted_model.proofs.Finds.Entering.{entered-proved}
use Rattle.slotted_model.proofs.Finds.FindProofs.{found_alike-equal}
use Rattle.slotted_model.proofs.Rebuilding.Adding.{adds}
use Rattle.slotted_model.proofs.Rebuilding.Asserting.{asserts, asserting-ends, nothing-rests, not_looked_up-new}
use Rattle.slotted_model.proofs.Rebuilding.KeepingLookUps.{not_looked_up-unfiled}
use Rattle.slotted_model.proofs.Rebuilding.KeepingTrees.{keeps-look_ups}
use Rattle.slotted_model.proofs.Complete.AtRest.{rest-alike, rest-iff, rest-alike_iff}
use Rattle.slotted_model.proofs.Rebuilding.Quiet.{proofs-quiet}
use Rattle.slotted_model.proofs.Rebuilding.Affected.{affected-marked}
use Rattle.slotted_model.proofs.Examples.RestExamples.{empty, made}
use Rattle.slotted_model.proofs.Rebuilding.Touching.{touching, touched-is}
use Rattle.slotted_model.proofs.Examples.CompletenessExamples.{one_of}

-- a class is made of a node that is not looked up
module _ (g : State) (rest : AtRest g) (c : DTerm) (operator : 0 < c.op) (children : EachChild (IsFull g.nodes) c.args) (unknown : look_up_node g c ≡ None)
    (covered : IsCovered (with_new_row (with_new_class g c) (length g.nodes)) (length g.nodes)) (left : HasNothingLeft (made g c)) where
  new : IsNew g.nodes c
  new = not_looked_up-new g rest c operator children unknown

  unfiled : (r : Row) → Contains g.rows r → r.shape ≢ shape (normal_node (with_new_class g c) (length g.nodes))
  unfiled = not_looked_up-unfiled g rest c new unknown

  made-adds : Adds g c (made g c)
  made-adds =
      files_row unfiled
      (takes_turn starts (refiles (length g.nodes) (contains_head (length g.nodes) g.waiting) covered (λ r d n e. elim (contains_cases _ g.rows r d) [
        | inl x ↦ n (ap (λ (y : Row). y.source) x)
        | inr k ↦ unfiled r k e
      ])))
      left

  -- all is at rest again, and what was looked up is looked up as before
  pub made-rests : AtRest (made g c)
  made-rests = (adds g rest c new (made g c) made-adds).rest

  pub made-keeps : KeepsLookUps g c (made g c)
  made-keeps = keeps-look_ups g rest c new unknown (made g c) made-adds

-- the words a and b, and n over a class
abbrev a : DTerm
a = node 1 [] stop

abbrev b : DTerm
b = node 2 [] stop

abbrev pub n : ℕ → DTerm
n i = node 3 [] (child_before (as_term (i, [])) stop)

abbrev pub words : State
words = made (made empty a) b

-- n a and n b
abbrev once : State
once = made (made words (n 0)) (n 1)

-- n (n a) and n (n b)
abbrev pub twice : State
twice = made (made once (n 2)) (n 3)

-- each of these classes is without slots
abbrev pub id : ℕ → Applied
id i = (i, [])

a_rests : AtRest (made empty a)
a_rests = made-rests empty nothing-rests a (omega arith) tt refl (λ s c. absurd (Contains-nil s c)) (refl, λ y c. absurd (Contains-nil y c))

pub words_rest : AtRest words
words_rest = made-rests (made empty a) a_rests b (omega arith) tt refl (λ s c. absurd (Contains-nil s c)) (refl, λ y c. absurd (Contains-nil y c))

pub n_a_rests : AtRest (made words (n 0))
n_a_rests = made-rests words words_rest (n 0) (omega arith) (((id 0, refl, record { in_range = omega arith; slots = refl; injective = tt }), tt)) refl (λ s c. absurd (Contains-nil s c)) (refl, λ y c. absurd (Contains-nil y c))

once_rests : AtRest once
once_rests = made-rests (made words (n 0)) n_a_rests (n 1) (omega arith) (((id 1, refl, record { in_range = omega arith; slots = refl; injective = tt }), tt)) refl (λ s c. absurd (Contains-nil s c)) (refl, λ y c. absurd (Contains-nil y c))

n_n_a_rests : AtRest (made once (n 2))
n_n_a_rests = made-rests once once_rests (n 2) (omega arith) (((id 2, refl, record { in_range = omega arith; slots = refl; injective = tt }), tt)) refl (λ s c. absurd (Contains-nil s c)) (refl, λ y c. absurd (Contains-nil y c))

pub twice_rests : AtRest twice
twice_rests = made-rests (made once (n 2)) n_n_a_rests (n 3) (omega arith) (((id 3, refl, record { in_range = omega arith; slots = refl; injective = tt }), tt)) refl (λ s c. absurd (Contains-nil s c)) (refl, λ y c. absurd (Contains-nil y c))

-- before the assertion n (n a) and n (n b) do not find alike
twice_apart : find twice.found (id 4) ≡ find twice.found (id 5) → ⊥
twice_apart e = let n : ◌≡◌ {A = ℕ} 4 5 = ap (λ (x : Applied). x.0) e in omega arith

pub id_full : (i : ℕ) → i < 6 → IsFull twice.nodes (id i)
id_full zero l = record { in_range = omega arith; slots = refl; injective = tt }
id_full (suc zero) l = record { in_range = omega arith; slots = refl; injective = tt }
id_full (suc (suc zero)) l = record { in_range = omega arith; slots = refl; injective = tt }
id_full (suc (suc (suc zero))) l = record { in_range = omega arith; slots = refl; injective = tt }
id_full (suc (suc (suc (suc zero)))) l = record { in_range = omega arith; slots = refl; injective = tt }
id_full (suc (suc (suc (suc (suc zero))))) l = record { in_range = omega arith; slots = refl; injective = tt }
id_full (suc (suc (suc (suc (suc (suc i)))))) l = absurd (omega arith)

no_names : (xs : List ℕ) → ((x : ℕ) → ¬ Contains xs x) → xs ≡ []
no_names [] h = refl
no_names (x ∷ xs) h = absurd (h x (contains_head x xs))

-- a class without slots has no symmetry
slotless : (g : State) (y : Symmetry) → canonical_slots g.nodes y.class ≡ [] → ¬ IsListed g y
slotless g y none l =
    let slots : y.slots ≡ [] = no_names y.slots (λ s c. Contains-nil s (subst (λ S. Contains S s) none (l.within s c))) in
    let pairs : y.pairs ≡ [] = no_pairs y.pairs (l.total ∙ slots) in
    l.moves (pairs ∙ sym (ap identity slots))
  where
    no_pairs : (m : List (ℕ × ℕ)) → keys_of m ≡ [] → m ≡ []
    no_pairs [] e = refl
    no_pairs (p ∷ m) e = let k : suc (length (keys_of m)) ≡ 0 = ap length e in absurd (omega arith)

-- the word a is asserted to equal the word b: what holds of whatever graph rebuilding ends with
module _ (h : State) (done : HasAsserted twice (id 0) (id 1) h) where
  full : (i : ℕ) → i < 6 → IsFull h.nodes (id i)
  full i l = subst (λ nodes. IsFull nodes (id i)) (sym done.same_nodes) (id_full i l)

  valid : (i : ℕ) → i < 6 → IsValidIn h (id i)
  valid i l = full-is_valid h.nodes h.found done.rest.sane.sound.linked (id i) (full i l)

  fills : (i : ℕ) → i < 6 → IsFilling h.nodes [] (id i) (id i)
  fills i l = record { class = refl; full = full i l; keeps = λ s x c. c; fresh = λ s x c k. absurd (Contains-nil (s, x) c) }

  no_symmetry : (y : Symmetry) → ¬ Contains h.symmetries y
  no_symmetry y c = let l : IsListed h y = done.rest.sane.each_listed y c in slotless h y (each_slotless y.class l.in_range) l
    where
      each_slotless : (i : ℕ) → i < length h.nodes → canonical_slots h.nodes i ≡ []
      each_slotless i k = ap (λ nodes. canonical_slots nodes i) done.same_nodes ∙ sym (id_full i (subst (λ nodes. i < length nodes) done.same_nodes k)).slots

  no_class_is_affected : (c : ℕ) → ¬ IsAffected h c
  no_class_is_affected c a = false≢true (affected-marked h (λ d. false) (record { symmetries = λ y k o. absurd (no_symmetry y k); parents = λ r d k m t. t }) a)

  -- the words are found alike, so their terms are equal by what was asserted
  words_alike : find h.found (id 0) ≡ find h.found (id 1)
  words_alike = done.together.alike (λ y c e. absurd (no_symmetry y c))

  abbrev terms_equal : ℕ → ℕ → List DTerm → Type 0
  terms_equal i j nodes = Equal (asserted h.nodes h.proofs) (term_of nodes (id i)) (term_of nodes (id j))

  words_equal : terms_equal 0 1 twice.nodes
  words_equal =
      let s = done.rest.sane.sound in
      subst (terms_equal 0 1) done.same_nodes
      (found_alike-equal h.nodes s.canonical h.found h.proofs s.linked s.proved s.exact (id 0) (id 1) (id 0) (id 1) [] [] (valid 0 (omega arith)) (valid 1 (omega arith)) words_alike (fills 0 (omega arith)) (fills 1 (omega arith)))

  -- by congruence, twice, those of n (n a) and n (n b) are
  twice_equal : terms_equal 4 5 twice.nodes
  twice_equal = under (under words_equal)
    where
      under : {d e : DTerm} → Equal (asserted h.nodes h.proofs) d e → Equal (asserted h.nodes h.proofs) (node 3 [] (child_before d stop)) (node 3 [] (child_before e stop))
      under q = within (equal_child q equal_done)

  -- so these are found alike, by completeness
  pub twice_alike : find h.found (id 4) ≡ find h.found (id 5)
  twice_alike = elim (rest-alike h done.rest (id 4) (id 5) (id 4) (id 5) [] [] (valid 4 (omega arith)) (valid 5 (omega arith)) (fills 4 (omega arith)) (fills 5 (omega arith)) (subst (terms_equal 4 5) (sym done.same_nodes) twice_equal)) [
    | inl e ↦ e
    | inr x ↦ absurd (no_class_is_affected (find_class h.found 4) x.0)
  ]

-- the assertion can be made, and however rebuilding goes, n (n a) and n (n b) are found alike
congruence_is_found : ((h : State) × Asserts twice (id 0) (id 1) h) × ((h : State) → Asserts twice (id 0) (id 1) h → find h.found (id 4) ≡ find h.found (id 5))
congruence_is_found =
    let fa : IsFull twice.nodes (id 0) = id_full 0 (omega arith) in
    let fb : IsFull twice.nodes (id 1) = id_full 1 (omega arith) in (
      asserting-ends twice twice_rests (id 0) (id 1) fa fb,
      λ h s. twice_alike h (asserts twice twice_rests (id 0) (id 1) fa fb h s),
    )

-- such a rebuilding, step by step. The equations in it are told apart by their classes
abbrev pub sides : ℕ → ℕ → Equation
sides i j = equation_of (id i) (id j)

abbrev pub code : Equation → ℕ
code e = e.left * 10 + e.right

-- no entry has the classes of the equation
abbrev pub NoneIs : Equation → List ProofEntry → Type 0
NoneIs e [] = Unit {0}
NoneIs e (x ∷ proofs) = (code x.equation ≢ code e) × NoneIs e proofs

pub stands_nowhere : (e : Equation) (proofs : List ProofEntry) → NoneIs e proofs → (p : ℕ) → p < length proofs → equation_at proofs p ≢ e
stands_nowhere e [] none p l = absurd (omega arith)
stands_nowhere e (x ∷ proofs) none zero l = λ q. none.0 (ap code q)
stands_nowhere e (x ∷ proofs) none (suc p) l = stands_nowhere e proofs none.1 p (omega arith)

-- no class of these entries has died at the moment or later
abbrev pub DiedBefore : ℕ → List Entry → Type 0
DiedBefore moment [] = Unit {0}
DiedBefore moment (e ∷ found) = (e.died < moment) × DiedBefore moment found

pub is_later : (moment : ℕ) (found : List Entry) → DiedBefore moment found → (i : ℕ) → i < length found → (entry_at found i).died < moment
is_later moment [] before i l = absurd (omega arith)
is_later moment (e ∷ found) before zero l = before.0
is_later moment (e ∷ found) before (suc i) l = is_later moment found before.1 i (omega arith)

-- the class of a dies, so the row of n a waits
abbrev pub words_united : State
words_united = linked_state (with_assertion twice (sides 0 1)) (sides 0 1) 6 1 (touching twice 0)

n_a_waits : words_united.waiting ≡ 2 ∷ []
n_a_waits = refl

pub words_unite : Unites 6 (with_assertion twice (sides 0 1)) words_united
words_unite =
    left_dies 6 1 (touching twice 0) (λ e. omega arith) (record { left = λ s c. c; right = λ s c. c }) (omega arith, refl)
    (λ i l d. is_later 1 twice.found (omega arith, (omega arith, (omega arith, (omega arith, (omega arith, (omega arith, tt)))))) i l) (touched-is (with_assertion twice (sides 0 1)) tt 0)

pub nothing_paired : IsPartialInjection [] [] []
nothing_paired = record { in_order = refl; within = λ s t c. absurd (Contains-nil (s, t) c); injective = λ s r t c d. absurd (Contains-nil (s, t) c) }

-- n a has the normal form of n b, which is filed: both are congruent, by the entry of the assertion
abbrev n_congruent : ProofEntry
n_congruent = record { equation = sides 2 3; step = congruent (6 ∷ []) }

abbrev pub n_entered : State
n_entered = with_proofs words_united (words_united.proofs ++ n_congruent ∷ [])

n_same : normal_node words_united 2 ≡ n 1
n_same = refl

-- what is one number has no number twice
one_waits : {x : ℕ} → AllDifferent (x ∷ [])
one_waits {x} = (Contains-nil x, tt)

-- the class of n a dies, so the row of n (n a) waits
abbrev pub n_united : State
n_united = linked_state n_entered (sides 2 3) 7 2 (touching n_entered 2)

n_n_a_waits : (removed_state n_united 2).waiting ≡ 4 ∷ []
n_n_a_waits = refl

pub words_proved : Proved twice.nodes words_united.proofs
words_proved =
    entered-proved twice.nodes twice.proofs (record { equation = sides 0 1; step = explicit }) twice_rests.sane.sound.proved
    (record {
      over = record { left = omega arith; right = omega arith; pairs = nothing_paired };
      proved = tt;
      is_new = stands_nowhere (sides 0 1) twice.proofs (omega arith, (omega arith, (omega arith, (omega arith, (omega arith, (omega arith, tt))))));
    })

n_can_enter : CanEnter twice.nodes words_united.proofs n_congruent
n_can_enter = record {
  over = record { left = omega arith; right = omega arith; pairs = nothing_paired };
  proved = (
    λ q c. subst (λ x. x < 7) (sym (one_of c)) (omega arith),
    record {
      left = id 2;
      right = id 3;
      left_full = id_full 2 (omega arith);
      right_full = id_full 3 (omega arith);
      equation = refl;
      operators = refl;
      payloads = refl;
      children = one_child (id 0) (id 1) (id_full 0 (omega arith)) (id_full 1 (omega arith)) no_more;
    },
  );
  is_new = stands_nowhere (sides 2 3) words_united.proofs (omega arith, (omega arith, (omega arith, (omega arith, (omega arith, (omega arith, (omega arith, tt)))))));
}

pub n_grow : ProofsGrow twice.nodes words_united.proofs n_entered.proofs
n_grow = record { more = n_congruent ∷ []; is = refl; proved = entered-proved twice.nodes words_united.proofs n_congruent words_proved n_can_enter; asserts_nothing = refl }

n_congruence : IsCongruence n_entered 7 2 3
n_congruence = record {
  left = id 2;
  right = id 3;
  left_class = refl;
  right_class = refl;
  left_full = id_full 2 (omega arith);
  twins = record { full = id_full 3 (omega arith); same = refl; left_names = λ s. (λ c. c, λ c. c); right_names = λ s. (λ c. c, λ c. c) };
  stands = (omega arith, refl);
}

pub n_unite : Unites 7 n_entered n_united
n_unite =
    left_dies 7 2 (touching n_entered 2) (λ e. omega arith) (record { left = λ s c. c; right = λ s c. c }) (omega arith, refl)
    (λ i l d. is_later 2 n_entered.found (omega arith, (omega arith, (omega arith, (omega arith, (omega arith, (omega arith, tt)))))) i l) (touched-is n_entered one_waits 2)

-- the row of n over a class
abbrev n_row : ℕ → ℕ → Row
n_row i c = record { shape = n c; source = i; slots = [] }

n_turn : Turn words_united (removed_state n_united 2)
n_turn =
    enters n_entered.proofs n_grow
    (unites_parents 2 7 (n_row 3 1) (contains_head 2 [])
    (2, omega arith, refl)
    (λ e. omega arith) refl n_congruence n_unite)

-- in its turn n (n a) has the normal form of n (n b), by the entry of that congruence
abbrev n_n_congruent : ProofEntry
n_n_congruent = record { equation = sides 4 5; step = congruent (7 ∷ []) }

abbrev n_turned : State
n_turned = removed_state n_united 2

abbrev n_n_entered : State
n_n_entered = with_proofs n_turned (n_turned.proofs ++ n_n_congruent ∷ [])

n_n_same : normal_node n_turned 4 ≡ n 3
n_n_same = refl

abbrev n_n_united : State
n_n_united = linked_state n_n_entered (sides 4 5) 8 3 (touching n_n_entered 4)

abbrev pub rebuilt : State
rebuilt = removed_state n_n_united 4

n_n_can_enter : CanEnter twice.nodes n_turned.proofs n_n_congruent
n_n_can_enter = record {
  over = record { left = omega arith; right = omega arith; pairs = nothing_paired };
  proved = (
    λ q c. subst (λ x. x < 8) (sym (one_of c)) (omega arith),
    record {
      left = id 4;
      right = id 5;
      left_full = id_full 4 (omega arith);
      right_full = id_full 5 (omega arith);
      equation = refl;
      operators = refl;
      payloads = refl;
      children = one_child (id 2) (id 3) (id_full 2 (omega arith)) (id_full 3 (omega arith)) no_more;
    },
  );
  is_new = stands_nowhere (sides 4 5) n_turned.proofs (omega arith, (omega arith, (omega arith, (omega arith, (omega arith, (omega arith, (omega arith, (omega arith, tt))))))));
}

n_n_grow : ProofsGrow twice.nodes n_turned.proofs n_n_entered.proofs
n_n_grow = record { more = n_n_congruent ∷ []; is = refl; proved = entered-proved twice.nodes n_turned.proofs n_n_congruent n_grow.proved n_n_can_enter; asserts_nothing = refl }

n_n_congruence : IsCongruence n_n_entered 8 4 5
n_n_congruence = record {
  left = id 4;
  right = id 5;
  left_class = refl;
  right_class = refl;
  left_full = id_full 4 (omega arith);
  twins = record { full = id_full 5 (omega arith); same = refl; left_names = λ s. (λ c. c, λ c. c); right_names = λ s. (λ c. c, λ c. c) };
  stands = (omega arith, refl);
}

n_n_unite : Unites 8 n_n_entered n_n_united
n_n_unite =
    left_dies 8 3 (touching n_n_entered 4) (λ e. omega arith) (record { left = λ s c. c; right = λ s c. c }) (omega arith, refl)
    (λ i l d. is_later 3 n_n_entered.found (omega arith, (omega arith, (omega arith, (omega arith, (omega arith, (omega arith, tt)))))) i l) (touched-is n_n_entered one_waits 4)

n_n_turn : Turn n_turned rebuilt
n_n_turn = enters n_n_entered.proofs n_n_grow (unites_parents 4 8 (n_row 5 3) (contains_head 4 []) (0, omega arith, refl) (λ e. omega arith) refl n_n_congruence n_n_unite)

pub two_turns : Runs words_united 2 rebuilt
two_turns = takes_turn (takes_turn starts n_turn) n_n_turn

-- then nothing is left to do, so this is the graph after the assertion
pub words_asserted : Asserts twice (id 0) (id 1) rebuilt
words_asserted =
    is_new (stands_nowhere (sides 0 1) twice.proofs (omega arith, (omega arith, (omega arith, (omega arith, (omega arith, (omega arith, tt)))))))
    words_unite two_turns (refl, λ y c. absurd (Contains-nil y c))

-- n (n a) and n (n b) are found alike there, computed and by the theorem
computed : (find rebuilt.found (id 4) ≡ id 5) × (find rebuilt.found (id 5) ≡ id 5)
computed = (refl, refl)

by_theorem : find rebuilt.found (id 4) ≡ find rebuilt.found (id 5)
by_theorem = congruence_is_found.1 rebuilt words_asserted

-- one pair is asserted, and each of the three levels has one class less
one_assertion : asserted rebuilt.nodes rebuilt.proofs ≡ (a, b) ∷ []
one_assertion = refl

sizes : (size twice ≡ 6) × (size rebuilt ≡ 3)
sizes = (refl, refl)

-- the equation stands now, so a second assertion of it changes nothing
asserted_again : Asserts rebuilt (id 0) (id 1) rebuilt
asserted_again = stands 6 (omega arith, refl) (finds_alike refl refl) starts (refl, λ y c. absurd (Contains-nil y c))

-- the nodes of n (n a) and n (n b) have one normal form
pub one_normal_form : normal rebuilt.found (node_of rebuilt.nodes (id 4)) ≡ normal rebuilt.found (node_of rebuilt.nodes (id 5))
one_normal_form = refl

pub rebuilt_done : HasAsserted twice (id 0) (id 1) rebuilt
rebuilt_done = asserts twice twice_rests (id 0) (id 1) (id_full 0 (omega arith)) (id_full 1 (omega arith)) rebuilt words_asserted

rebuilt_has_no_open : HasNoOpenSymmetries rebuilt
rebuilt_has_no_open y c = absurd (Contains-nil y c)

-- so, as terms with names, n (n a) = n (n b) is derivable from a = b
abbrev word : ℕ → Term
word op = record { op = op; payloads = []; args = no_args }

abbrev n_of : Term → Term
n_of t = record { op = 3; payloads = []; args = child t.op t.payloads t.args no_args }

derivable : Derives ((word 1, word 2) ∷ []) (n_of (n_of (word 1))) (n_of (n_of (word 2)))
derivable =
    (rest-iff rebuilt rebuilt_done.rest rebuilt_has_no_open (id 4) (id 5) (id 4) (id 5) [] []
    (valid rebuilt rebuilt_done 4 (omega arith)) (valid rebuilt rebuilt_done 5 (omega arith)) (fills rebuilt rebuilt_done 4 (omega arith)) (fills rebuilt rebuilt_done 5 (omega arith))
    ((word 1, word 2) ∷ []) (n_of (n_of (word 1))) (n_of (n_of (word 2))) refl refl refl).0 refl

-- whatever other graph rebuilding ends with, it finds alike just what this one does
agrees : (h : State) → HasAsserted twice (id 0) (id 1) h → (x y : Applied) → IsFull twice.nodes x → IsFull twice.nodes y → (find rebuilt.found x ≡ find rebuilt.found y) ↔ (find h.found x ≡ find h.found y)
agrees h done =
    rest-alike_iff rebuilt h rebuilt_done.rest done.rest rebuilt_has_no_open (λ y c. absurd (no_symmetry h done y c)) (sym done.same_nodes)
    (λ d e c. subst (λ (q : DTerm × DTerm). Equal (asserted h.nodes h.proofs) q.0 q.1) (sym (one_of c)) (words_equal h done))
    known
  where
    known : (d e : DTerm) → Contains (asserted h.nodes h.proofs) (d, e) → Equal (asserted rebuilt.nodes rebuilt.proofs) d e
    known d e c = elim done.asserted_list [
      | inl none ↦ absurd (Contains-nil (d, e) (subst (λ pairs. Contains pairs (d, e)) none c))
      | inr one ↦
          let q : (d, e) ≡ (a, b) = one_of (subst (λ pairs. Contains pairs (d, e)) one c) in
          subst (λ (q : DTerm × DTerm). Equal (asserted rebuilt.nodes rebuilt.proofs) q.0 q.1) (sym q) (listed (contains_head (a, b) []))
    ]

-- one more entry, the last one with its sides exchanged, changes no answer
abbrev exchanged : ProofEntry
exchanged = record { equation = sides 5 4; step = symmetric 8 }

exchanged_can_enter : CanEnter twice.nodes rebuilt.proofs exchanged
exchanged_can_enter = record {
  over = record { left = omega arith; right = omega arith; pairs = nothing_paired };
  proved = (omega arith, refl);
  is_new = stands_nowhere (sides 5 4) rebuilt.proofs (omega arith, (omega arith, (omega arith, (omega arith, (omega arith, (omega arith, (omega arith, (omega arith, (omega arith, tt)))))))));
}

shows_nowhere : SameAnswers rebuilt (with_proofs rebuilt (rebuilt.proofs ++ exchanged ∷ []))
shows_nowhere =
    proofs-quiet rebuilt rebuilt_done.rest (rebuilt.proofs ++ exchanged ∷ [])
    (record { more = exchanged ∷ []; is = refl; proved = entered-proved twice.nodes rebuilt.proofs exchanged n_n_grow.proved exchanged_can_enter; asserts_nothing = refl })
